-- Dependences that are equal by their order are the same, and a list in strict order is determined by what is in it.
use Rattle.std.proofs.Common.{◌≡◌, ℕ, ◌<◌, true, false, inl, inr, List, [], ◌∷◌, refl, sym, ap, subst, ◌∙◌, arith}
use Rattle.std.specs.Cmp.{IsTotalOrder}
use Rattle.std.specs.List.{AllByRecursion}
use Rattle.std.specs.List.Sorted.{IsStrictlySortedBy}
use Rattle.std.specs.Ordering.{is_eq, nat_cmp, ordering_then, ordering_reverse, MatchOrdering}
use Rattle.std.specs.declared.cmp.Ordering.{Ordering}
use Rattle.std.specs.declared.cmp.Ordering.TheVariants.{Less, Equal, Greater}
use Rattle.std.proofs.Math.Path.{fun_ext}
use Rattle.std.proofs.lemmas.Bool.{false≢true}
use Rattle.std.proofs.lemmas.Map.Keys.{sorted_head, sorted_tail}
use Rattle.std.proofs.lemmas.Cmp.{ranked, nat_cmp_total, on_total, then_total, tied_itself}
use Rattle.prov_base.specs.declared.place.Pos.{Pos}
use Rattle.slice_law.specs.Closed.{IsIn}
use Rattle.dep_query.specs.declared.dependence.Kind.{Kind}
use Rattle.dep_query.specs.declared.dependence.Kind.TheVariants.{Data, Control, Jump, Name}
use Rattle.dep_query.specs.declared.dependence.Dependence.{Dependence}
use Rattle.dep_query.specs.Dependences.{place_cmp, rank, dependence_cmp}

-- ---- what is equal

number_same : (x y : ℕ) → is_eq (nat_cmp x y) ≡ true → x ≡ y
number_same x y is = by (nat_cmp x y) refl (ranked x y (nat_cmp x y) refl) is
  where
    by : (o : Ordering) → nat_cmp x y ≡ o → MatchOrdering o (x < y) (x ≡ y) (y < x) → is_eq o ≡ true → x ≡ y
    by Less at fact is = absurd (false≢true is)
    by Equal at fact is = fact
    by Greater at fact is = absurd (false≢true is)

both_eq : (o p : Ordering) → is_eq (ordering_then o p) ≡ true → (is_eq o ≡ true) × (is_eq p ≡ true)
both_eq Less p is = absurd (false≢true is)
both_eq Equal p is = (refl, is)
both_eq Greater p is = absurd (false≢true is)

place_same : (p q : Pos) → is_eq (place_cmp p q) ≡ true → p ≡ q
place_same p q is =
    let both = both_eq (nat_cmp p.line q.line) (nat_cmp p.col q.col) is in
    ap (λ n. record { line = n; col = p.col }) (number_same p.line q.line both.0) ∙ ap (λ n. record { line = q.line; col = n }) (number_same p.col q.col both.1)

kind_same : (v w : Kind) → rank v ≡ rank w → v ≡ w
kind_same Data Data is = refl
kind_same Control Control is = refl
kind_same Jump Jump is = refl
kind_same Name Name is = refl
kind_same Data Control is = absurd (omega (arith, is))
kind_same Data Jump is = absurd (omega (arith, is))
kind_same Data Name is = absurd (omega (arith, is))
kind_same Control Data is = absurd (omega (arith, is))
kind_same Control Jump is = absurd (omega (arith, is))
kind_same Control Name is = absurd (omega (arith, is))
kind_same Jump Data is = absurd (omega (arith, is))
kind_same Jump Control is = absurd (omega (arith, is))
kind_same Jump Name is = absurd (omega (arith, is))
kind_same Name Data is = absurd (omega (arith, is))
kind_same Name Control is = absurd (omega (arith, is))
kind_same Name Jump is = absurd (omega (arith, is))

abbrev made : Pos → Pos → Kind → Dependence
made asker asked kind = record { asker = asker; asked = asked; kind = kind }

pub same_dependence : (d e : Dependence) → is_eq (dependence_cmp d e) ≡ true → d ≡ e
same_dependence d e is =
    let first = both_eq (place_cmp d.asker e.asker) (ordering_then (place_cmp d.asked e.asked) (nat_cmp (rank d.kind) (rank e.kind))) is in
    let second = both_eq (place_cmp d.asked e.asked) (nat_cmp (rank d.kind) (rank e.kind)) first.1 in
    ap (λ (p : Pos). made p d.asked d.kind) (place_same d.asker e.asker first.0) ∙ ap (λ (p : Pos). made e.asker p d.kind) (place_same d.asked e.asked second.0)
    ∙ ap (λ (k : Kind). made e.asker e.asked k) (kind_same d.kind e.kind (number_same (rank d.kind) (rank e.kind) second.1))

places_total : IsTotalOrder place_cmp
places_total = then_total (on_total (λ (p : Pos). p.line) nat_cmp_total) (on_total (λ (p : Pos). p.col) nat_cmp_total)

dependences_total : IsTotalOrder dependence_cmp
dependences_total = then_total (on_total (λ (d : Dependence). d.asker) places_total) (then_total (on_total (λ (d : Dependence). d.asked) places_total) (on_total (λ (d : Dependence). rank d.kind) nat_cmp_total))

pub own_dependence : (d : Dependence) → is_eq (dependence_cmp d d) ≡ true
own_dependence d = ap is_eq (tied_itself dependences_total d)

-- ---- the order of the code

pub cmp_is : (cmp : Dependence → Dependence → Ordering) → ((d e : Dependence) → cmp d e ≡ dependence_cmp d e) → cmp ≡ dependence_cmp
cmp_is cmp same = fun_ext (λ d. fun_ext (λ e. same d e))

-- ---- lists in strict order

not_both : (d e : Dependence) → dependence_cmp d e ≡ Less → dependence_cmp e d ≡ Less → ⊥
not_both d e one other = clash (sym one ∙ dependences_total.antisymm d e ∙ ap ordering_reverse other)
  where
    clash : Less ≡ Greater → ⊥
    clash is = absurd cc

all_at : (P : Dependence → Type 0) (list : List Dependence) (d : Dependence) → AllByRecursion P list → IsIn list d → P d
all_at P [] d all there = absurd there
all_at P (e ∷ list) d all (inl same) = subst P same all.0
all_at P (e ∷ list) d all (inr more) = all_at P list d all.1 more

pub one_list : (xs ys : List Dependence) → IsStrictlySortedBy dependence_cmp xs → IsStrictlySortedBy dependence_cmp ys → ((d : Dependence) → IsIn xs d → IsIn ys d) → ((d : Dependence) → IsIn ys d → IsIn xs d)
    → xs ≡ ys
one_list [] [] up rise there back = refl
one_list [] (y ∷ ys) up rise there back = absurd (back y (inl refl))
one_list (x ∷ xs) [] up rise there back = absurd (there x (inl refl))
one_list (x ∷ xs) (y ∷ ys) up rise there back =
    let first : x ≡ y = heads (there x (inl refl)) (back y (inl refl)) in
    ap (λ (d : Dependence). d ∷ xs) first ∙ ap (λ (ds : List Dependence). y ∷ ds)
    (one_list xs ys (sorted_tail dependence_cmp x xs up) (sorted_tail dependence_cmp y ys rise) (λ d more. behind d (there d (inr more)) first more) (λ d more. before d (back d (inr more)) first more))
  where
    heads : IsIn (y ∷ ys) x → IsIn (x ∷ xs) y → x ≡ y
    heads (inl same) other = sym same
    heads (inr more) (inl same) = same
    heads (inr more) (inr less) = absurd (not_both y x (all_at (λ e. dependence_cmp y e ≡ Less) ys x (sorted_head dependence_cmp y ys rise) more) (all_at (λ e. dependence_cmp x e ≡ Less) xs y (sorted_head dependence_cmp x xs up) less))

    behind : (d : Dependence) → IsIn (y ∷ ys) d → x ≡ y → IsIn xs d → IsIn ys d
    behind d (inr more) first here = more
    behind d (inl same) first here =
        let own = all_at (λ e. dependence_cmp x e ≡ Less) xs d (sorted_head dependence_cmp x xs up) here in
        let less = subst (λ e. dependence_cmp x e ≡ Less) (sym (first ∙ same)) own in
        absurd (not_both x x less less)

    before : (d : Dependence) → IsIn (x ∷ xs) d → x ≡ y → IsIn ys d → IsIn xs d
    before d (inr more) first here = more
    before d (inl same) first here =
        let own = all_at (λ e. dependence_cmp y e ≡ Less) ys d (sorted_head dependence_cmp y ys rise) here in
        let less = subst (λ e. dependence_cmp y e ≡ Less) (sym (sym first ∙ same)) own in
        absurd (not_both y y less less)
