-- The way down through the program's lists, read on the pure tree.
use Rattle.std.proofs.Common.{◌≡◌, ℕ, zero, suc, ◌+◌, ◌-◌, ◌<◌, ◌≤◌, Bool, true, false, cond, List, [], ◌∷◌, map, length, take, drop, get_or, Option, None, Some, option_map, unwrap_or, Bor, refl, ap, sym, subst, ◌∙◌, arith, drop-cons, add-one}
use Rattle.std.proofs.lemmas.List.Sums.{take_while-cons, prefix_len_is}
use Rattle.std.proofs.lemmas.List.Sorted.{IsPartitionedBy-leb}
use Rattle.std.specs.List.Sorted.{IsNonDecreasingBy, IsPartitionedBy, IsPartitionPoint}
use Rattle.std.specs.Prelude.{nat_le, slice_get}
use Rattle.std.specs.Option.{option_or, option_map_or}
use Rattle.std.specs.List.{prefix_len, take_while}
use Rattle.py_tree.specs.declared.stmt.Stmt.{Stmt}
use Rattle.py_tree.specs.declared.stmt.Suite.{Suite}
use Rattle.py_tree.specs.declared.stmt.Form.TheViews.{out-Suite}
use Rattle.py_tree.specs.Tree.{number_of, StmtTree}
use Rattle.py_tree.specs.Erasure.{stmt_of, suite_of, suite_list}
use Rattle.py_tree.specs.Descent.{RiseFrom, begins_by, last_by, row_numbers}
use Rattle.py_tree.proofs.StmtTrees.{stmt_tree, suite_tree}

pub number_is : (x : Stmt) → number_of (stmt_of x) ≡ x.no
number_is x = ap number_of (stmt_tree x)

begins_row : (s : ℕ) (items : List Stmt) → begins_by s (suite_list (map stmt_of items)) ≡ option_map_or (λ x. nat_le x.no s) (slice_get items 0) false
begins_row s [] = refl
begins_row s (x ∷ xs) = ap (λ n. nat_le n s) (number_is x)

-- a suite without a statement does not begin
pub begins_none : (s : ℕ) (body : Suite) (items : List Stmt) → None ≡ slice_get items 0 → items ≡ (out-Suite body).list.items → false ≡ begins_by s (suite_of body)
begins_none s body items first is = ap (λ o. option_map_or (λ x. nat_le x.no s) o false) first ∙ sym (ap (begins_by s) (suite_tree body ∙ ap (λ l. suite_list (map stmt_of l)) (sym is)) ∙ begins_row s items)

-- a suite begins by s where its first statement does
pub begins_some : (s : ℕ) (body : Suite) (items : List Stmt) (x : Stmt) → Some x ≡ slice_get items 0 → items ≡ (out-Suite body).list.items → nat_le x.no s ≡ begins_by s (suite_of body)
begins_some s body items x first is = ap (λ o. option_map_or (λ x. nat_le x.no s) o false) first ∙ sym (ap (begins_by s) (suite_tree body ∙ ap (λ l. suite_list (map stmt_of l)) (sym is)) ∙ begins_row s items)

pub option_or_assoc : {X : Type 0} (a b c : Option X) → option_or (option_or a b) c ≡ option_or a (option_or b c)
option_or_assoc None b c = refl
option_or_assoc (Some x) b c = refl

pub option_or_none : {X : Type 0} (a : Option X) → option_or a None ≡ a
option_or_none None = refl
option_or_none (Some x) = refl

pub next_left : {X : Type 0} (items : List X) (i : ℕ) (d : X) → i < length items → drop i items ≡ get_or items i d ∷ drop (i + 1) items
next_left items i d within = rw add-one (drop-cons items i d within)

prefix_len_at : (s : ℕ) (items : List Stmt) (count : ℕ) → count ≤ length items → IsPartitionPoint (λ x. nat_le x.no s ≡ true) (λ x. nat_le x.no s ≡ false) items count → prefix_len (λ x. nat_le x.no s) items ≡ count
prefix_len_at s [] count bound parted = omega arith
prefix_len_at s (x ∷ xs) count bound parted = prefix_len_is (λ x. nat_le x.no s) (x ∷ xs) count x bound (λ k h. parted.0 k x (omega arith) h) (λ h. parted.1 count x (omega arith) h)

-- the last of the items
abbrev last_item : {X : Type 0} → List X → Option X
last_item [] = None
last_item (x ∷ xs) = Some (unwrap_or (last_item xs) x)

at_end : {X : Type 0} (xs : List X) → slice_get xs (length xs - 1) ≡ last_item xs
at_end [] = refl
at_end (x ∷ []) = refl
at_end (x ∷ y ∷ xs) =
    let here : suc (suc (length xs)) - 1 ≡ suc (length xs) = omega arith in
    let there : length xs ≡ suc (length xs) - 1 = omega arith in
    ap (slice_get (x ∷ y ∷ xs)) here ∙ ap (slice_get (y ∷ xs)) there ∙ at_end (y ∷ xs)

abbrev is_by : ℕ → Stmt → Bool
is_by s x = nat_le x.no s

map_unwrap : {X Y : Type 0} (f : X → Y) (o : Option X) (x : X) → f (unwrap_or o x) ≡ unwrap_or (option_map f o) (f x)
map_unwrap f None x = refl
map_unwrap f (Some y) x = refl

kept_cases : (b : Bool) (x : Stmt) (l : List Stmt) (rest : Option StmtTree) → option_map stmt_of (last_item l) ≡ rest → option_map stmt_of (last_item (cond b (x ∷ l) [])) ≡ cond b (Some (unwrap_or rest (stmt_of x))) None
kept_cases false x l rest is = refl
kept_cases true x l rest is = ap Some (map_unwrap stmt_of (last_item l) x ∙ ap (λ o. unwrap_or o (stmt_of x)) is)

-- the last of the first statements that are not past s
last_row : (s : ℕ) (items : List Stmt) → option_map stmt_of (last_item (take_while (is_by s) items)) ≡ last_by s (suite_list (map stmt_of items))
last_row s [] = refl
last_row s (x ∷ xs) =
    ap (λ l. option_map stmt_of (last_item l)) (take_while-cons (is_by s) x xs)
    ∙ kept_cases (is_by s x) x (take_while (is_by s) xs) (last_by s (suite_list (map stmt_of xs))) (last_row s xs)
    ∙ ap (λ n. cond (nat_le n s) (Some (unwrap_or (last_by s (suite_list (map stmt_of xs))) (stmt_of x))) None) (sym (number_is x))

row_from : (n : ℕ) (items : List Stmt) → RiseFrom n (row_numbers (suite_list (map stmt_of items))) → (j : ℕ) (d : Stmt) → j < length items → n ≤ (get_or items j d).no
row_from n [] rise j d within = absurd (omega arith)
row_from n (x ∷ xs) rise zero d within = omega (arith, rise.0, number_is x)
row_from n (x ∷ xs) rise (suc j) d within = omega (arith, rise.0, row_from (number_of (stmt_of x) + 1) xs rise.1 j d (omega arith))

row_rises : (n : ℕ) (items : List Stmt) → RiseFrom n (row_numbers (suite_list (map stmt_of items))) → IsNonDecreasingBy (λ x. x.no) items
row_rises n [] rise i j d order within = absurd (omega arith)
row_rises n (x ∷ xs) rise zero zero d order within = omega arith
row_rises n (x ∷ xs) rise zero (suc j) d order within = omega (arith, number_is x, row_from (number_of (stmt_of x) + 1) xs rise.1 j d (omega arith))
row_rises n (x ∷ xs) rise (suc i) zero d order within = absurd (omega arith)
row_rises n (x ∷ xs) rise (suc i) (suc j) d order within = row_rises (number_of (stmt_of x) + 1) xs rise.1 i j d (omega arith) (omega arith)

-- what is asked of the search by halves
pub row_is_parted : (s : ℕ) (body : Suite) (items : List Stmt) → items ≡ (out-Suite body).list.items → RiseFrom 0 (row_numbers (suite_of body)) → IsPartitionedBy (λ x. nat_le x.no s) items
row_is_parted s body items is rise = IsPartitionedBy-leb (λ x. x.no) items s (row_rises 0 items (subst (λ t. RiseFrom 0 (row_numbers t)) (suite_tree body ∙ ap (λ l. suite_list (map stmt_of l)) (sym is)) rise))

copied_map : {X Y : Type 0} (f : X → Y) (o : Option (Bor X)) → option_map (λ x. f x.now) o ≡ option_map f (option_map (λ x. x.now) o)
copied_map f None = refl
copied_map f (Some x) = refl

-- and what its answer gives
pub row_last : (s : ℕ) (body : Suite) (items again : List Stmt) (count cut : ℕ) (found : Option (Bor Stmt)) → items ≡ (out-Suite body).list.items → again ≡ (out-Suite body).list.items → count ≤ length items → IsPartitionPoint (λ x. nat_le x.no s ≡ true) (λ x. nat_le x.no s ≡ false) items count → cut ≡ count → option_map (λ x. x.now) found ≡ slice_get (take cut again) (length (take cut again) - 1) → option_map (λ x. stmt_of x.now) found ≡ last_by s (suite_of body)
row_last s body items again count cut found is is_again bound parted is_cut is_last =
    copied_map stmt_of found
    ∙ ap (option_map stmt_of) (is_last ∙ at_end (take cut again) ∙ ap (λ n. last_item (take n again)) (is_cut ∙ sym (prefix_len_at s items count bound parted)) ∙ ap (λ l. last_item (take (prefix_len (is_by s) items) l)) (is_again ∙ sym is))
    ∙ last_row s items
    ∙ ap (last_by s) (ap (λ l. suite_list (map stmt_of l)) is ∙ sym (suite_tree body))
