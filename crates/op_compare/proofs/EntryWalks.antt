-- The entries of two dictionaries, one pair after another.
use Rattle.std.proofs.Common.{◌≡◌, refl, sym, ap, ◌∙◌, arith, ℕ, zero, suc, ◌+◌, ◌≤◌, length, false, List, [], ◌∷◌, map, drop, Option, Some, None, slice_get, eq-eqb, ◌==◌, if◌then◌else◌}
use Rattle.std.proofs.Math.Path.{fun_ext}
use Rattle.std.proofs.lemmas.List.{drop_all, length-map}
use Rattle.std.proofs.lemmas.Bool.{ne_eqb}
use Rattle.py_model.specs.Plan.{Plan, read_entry}
use Rattle.py_model.specs.Walks.{Comparison, alike, apart, Pairs, compare_entries}
use Rattle.py_value.specs.Contents.{Contents, contents}
use Rattle.py_value.specs.Values.{ValuesView}
use Rattle.py_value.specs.declared.value.Value.{Value}
use Rattle.op_compare.specs.Pairs.{read_entries, both_of, both_seen}
use Rattle.op_lists.proofs.NamedValues.{named_stays}
use Rattle.op_work.specs.Entries.{IsNamedEntry, seen_entry}
use Rattle.op_compare.proofs.Decided.{alike_or_apart}

-- the walk goes on with the values that were found, or the dictionaries differ
abbrev pub with_found : Pairs → (Comparison → Plan) → Plan → Option (Contents × Contents) → Plan
with_found pair go next None = go apart
with_found pair go next (Some x) = pair false x.0 x.1 (alike_or_apart go next)

pub both_same : (table : ValuesView) (left right : Option (Value × Value)) → both_seen (seen_entry table left) (seen_entry table right) ≡ seen_entry table (both_of left right)
both_same table None right = refl
both_same table (Some l) None = refl
both_same table (Some l) (Some r) = refl

pub both_named : (old new : ValuesView) → (length old.texts ≤ length new.texts) × (length old.tuples ≤ length new.tuples) → (left right : Option (Value × Value))
    → IsNamedEntry old left → IsNamedEntry new right → IsNamedEntry new (both_of left right)
both_named old new few None right one other = tt
both_named old new few (Some l) None one other = tt
both_named old new few (Some l) (Some r) one other = (named_stays old new few l.1 one.1, other.1)

-- the same, as the walk has it
abbrev both_or : (Comparison → Plan) → Option (Contents × Contents) → Option (Contents × Contents) → (Contents → Contents → Plan) → Plan
both_or go (Some left) (Some right) next = next left.1 right.1
both_or go left right next = go apart

one_entry : (pair : Pairs) (go : Comparison → Plan) (next : Plan) (left right : Option (Contents × Contents))
    → both_or go left right (λ v w. pair false v w (alike_or_apart go next)) ≡ with_found pair go next (both_seen left right)
one_entry pair go next None right = refl
one_entry pair go next (Some l) None = refl
one_entry pair go next (Some l) (Some r) = refl

pub entries_next : (pair : Pairs) (key : Contents) (keys : List Contents) (o p : ℕ) (go : Comparison → Plan)
    → compare_entries pair (key ∷ keys) o p go ≡ read_entries o p key (λ found. with_found pair go (compare_entries pair keys o p go) found)
entries_next pair key keys o p go = ap (read_entry o key) (fun_ext (λ left. ap (read_entry p key) (fun_ext (λ right. one_entry pair go (compare_entries pair keys o p go) left right))))

-- the keys from a place on
key_next : (keys : List Value) (i : ℕ) (key : Value) → slice_get keys i ≡ Some key → drop i keys ≡ key ∷ drop (suc i) keys
key_next [] i key is = cc
key_next (k ∷ keys) zero key is = ap (λ x. x ∷ keys) (same k key is)
  where
    same : (x y : Value) → Some x ≡ Some y → x ≡ y
    same x y is = cc
key_next (k ∷ keys) (suc i) key is = key_next keys i key is

abbrev pub left : Pairs → List Value → ℕ → ℕ → ℕ → ValuesView → (Comparison → Plan) → Plan
left pair keys o p i table go = compare_entries pair (map (contents table) (drop i keys)) o p go

pub left_is : (pair : Pairs) (keys : List Value) (o p i : ℕ) (key : Value) → slice_get keys i ≡ Some key → (table : ValuesView) (go : Comparison → Plan)
    → left pair keys o p i table go ≡ read_entries o p (contents table key) (λ found. with_found pair go (left pair keys o p (suc i) table go) found)
left_is pair keys o p i key is table go = ap (λ ks. compare_entries pair (map (contents table) ks) o p go) (key_next keys i key is)
    ∙ entries_next pair (contents table key) (map (contents table) (drop (suc i) keys)) o p go

pub left_none : (pair : Pairs) (keys : List Value) (o p i : ℕ) → length keys ≤ i → (table : ValuesView) (go : Comparison → Plan) → left pair keys o p i table go ≡ go alike
left_none pair keys o p i past table go = ap (λ ks. compare_entries pair (map (contents table) ks) o p go) (drop_all i keys past)

pub left_more : (pair : Pairs) (keys : List Value) (o p i : ℕ) (table : ValuesView) (go : Comparison → Plan) → left pair keys o p (suc i) table go ≡ left pair keys o p (i + 1) table go
left_more pair keys o p i table go = ap (λ k. left pair keys o p k table go) (place i)
  where
    place : (i : ℕ) → suc i ≡ i + 1
    place i = omega (arith)

-- two dictionaries whose orders were read
abbrev pub sizes : Pairs → ℕ → ℕ → List Contents → List Contents → (Comparison → Plan) → Plan
sizes pair o p ks ls go = if length ks == length ls then compare_entries pair ks o p go else go apart

pub sizes_same : (pair : Pairs) (o p : ℕ) (f : Value → Contents) (ks ls : List Value) (go : Comparison → Plan) → length ks ≡ length ls
    → sizes pair o p (map f ks) (map f ls) go ≡ compare_entries pair (map f ks) o p go
sizes_same pair o p f ks ls go is = ap (λ b. if b then compare_entries pair (map f ks) o p go else go apart) (eq-eqb _ _ (length-map ks f ∙ (is ∙ sym (length-map ls f))))

pub sizes_differ : (pair : Pairs) (o p : ℕ) (f : Value → Contents) (ks ls : List Value) (go : Comparison → Plan) → (length ks ≡ length ls → ⊥)
    → sizes pair o p (map f ks) (map f ls) go ≡ go apart
sizes_differ pair o p f ks ls go not = ap (λ b. if b then compare_entries pair (map f ks) o p go else go apart) (ne_eqb _ _ (λ is. not (sym (length-map ks f) ∙ (is ∙ length-map ls f))))
