-- What is found is what is reached.
use Rattle.std.proofs.Common.{◌≡◌, ℕ, zero, suc, ◌+◌, ◌==◌, ◌<◌, ◌≤◌, ◌⊎◌, inl, inr, ◌||◌, Bool, true, false, nat_lt, List, [], ◌∷◌, ◌++◌, take, length, slice_get, get_or, unwrap_or, Option, Some, None, refl, sym, ap, subst, ◌∙◌, arith, if◌then◌else◌, true≢false, eqb-true, slice_index_or}
use Rattle.std.specs.Prelude.{⊤}
use Rattle.std.specs.List.{list_any}
use Rattle.std.proofs.lemmas.Bool.{ltb-true, ltb-false, eq-eqb}
use Rattle.std.proofs.lemmas.List.{take_more}
use Rattle.std.proofs.lemmas.Option.{slice_get_within, slice_get-get_or, same_Some}
use Rattle.py_value.specs.declared.value.Value.{Value}
use Rattle.py_value.specs.declared.value.Value.TheVariants.{None as Nothing, Bool as Truth, Int, Text, Tuple, Range, Fn, Class, Exc, Builtin, Object}
use Rattle.py_value.specs.contracts.value.ValuePartialEq.TheImpl.{ghosts as values}
use Rattle.py_value.specs.Contents.{tuple, parts_by, contents_to, contents}
use Rattle.py_value.specs.Values.{ValuesView, AreInterned, IsBelow, Keeps}
use Rattle.py_value.proofs.Equality.{value_same}
use Rattle.py_value.proofs.Interning.{keeps_behind}
use Rattle.py_value.proofs.NormalForms.{tuple_contents}
use Rattle.slice_law.specs.Closed.{IsIn}
use Rattle.slice_law.specs.Reached.{StandsIn, StandsInParts}
use Rattle.slicer.specs.Groups.{group_in, values_of}
use Rattle.slicer.specs.Walk.{Reaches, in_value, in_child, leads, inside, Grows, IsWalked, AreReached}

-- ---- lists

module _ {A : Type 0} where
  pub in_left : (xs ys : List A) (u : A) → IsIn xs u → IsIn (xs ++ ys) u
  in_left [] ys u is = absurd is
  in_left (x ∷ xs) ys u (inl is) = inl is
  in_left (x ∷ xs) ys u (inr later) = inr (in_left xs ys u later)

  pub in_right : (xs ys : List A) (u : A) → IsIn ys u → IsIn (xs ++ ys) u
  in_right [] ys u is = is
  in_right (x ∷ xs) ys u is = inr (in_right xs ys u is)

  pub in_either : (xs ys : List A) (u : A) → IsIn (xs ++ ys) u → IsIn xs u ⊎ IsIn ys u
  in_either [] ys u is = inr is
  in_either (x ∷ xs) ys u (inl is) = inl (inl is)
  in_either (x ∷ xs) ys u (inr later) = by (in_either xs ys u later)
    where
      by : IsIn xs u ⊎ IsIn ys u → ((x ≡ u) ⊎ IsIn xs u) ⊎ IsIn ys u
      by (inl is) = inl (inr is)
      by (inr is) = inr is

  pub record StandsAt (xs : List A) (u : A) : Type 0 where
    pub i : ℕ
    pub at : slice_get xs i ≡ Some u

  pub in_at : (xs : List A) (u : A) → IsIn xs u → StandsAt xs u
  in_at [] u is = absurd is
  in_at (x ∷ xs) u (inl is) = record { i = 0; at = ap Some is }
  in_at (x ∷ xs) u (inr later) = let found = in_at xs u later in record { i = suc found.i; at = found.at }

  pub at_in : (xs : List A) (i : ℕ) (u : A) → slice_get xs i ≡ Some u → IsIn xs u
  at_in [] i u at = cc
  at_in (x ∷ xs) zero u at = inl (same_Some x u at)
  at_in (x ∷ xs) (suc i) u at = inr (at_in xs i u at)

  pub in_kept : (xs ys : List A) → Keeps xs ys → (u : A) → IsIn xs u → IsIn ys u
  in_kept xs ys keeps u is = let found = in_at xs u is in at_in ys found.i u (keeps found.i u found.at)

-- ---- a value more

pub any_in : (v : Value) (keys : List Value) → list_any (values.eq v) keys ≡ true → IsIn keys v
any_in v [] is = absurd (true≢false (sym is))
any_in v (first ∷ keys) is = by (values.eq v first) refl is (λ more. any_in v keys more)
  where
    by : (b : Bool) → values.eq v first ≡ b → (b || list_any (values.eq v) keys) ≡ true → (list_any (values.eq v) keys ≡ true → IsIn keys v) → (first ≡ v) ⊎ IsIn keys v
    by true same is more = inl (sym (value_same v first same))
    by false same is more = inr (more is)

pub put_grows : (keys : List Value) (v : Value) → Grows keys (v ∷ []) (if list_any (values.eq v) keys then keys else keys ++ v ∷ [])
put_grows keys v = by (list_any (values.eq v) keys) refl
  where
    by : (b : Bool) → list_any (values.eq v) keys ≡ b → Grows keys (v ∷ []) (if b then keys else keys ++ v ∷ [])
    by true there = record {
      keeps = λ i x at. at;
      comes = λ u is. inl is;
      goes = λ u is lead. one u is;
    }
      where
        one : (u : Value) → (v ≡ u) ⊎ ⊥ → IsIn keys u
        one u (inl is) = subst (IsIn keys) is (any_in v keys there)
        one u (inr is) = absurd is
    by false gone = record {
      keeps = keeps_behind keys (keys ++ v ∷ []) v refl;
      comes = λ u is. in_either keys (v ∷ []) u is;
      goes = λ u is lead. in_right keys (v ∷ []) u is;
    }

pub none_grows : (keys : List Value) (v : Value) → leads v ≡ false → Grows keys (v ∷ []) keys
none_grows keys v none = record { keeps = λ i x at. at; comes = λ u is. inl is; goes = λ u is lead. one u is lead }
  where
    one : (u : Value) → (v ≡ u) ⊎ ⊥ → leads u ≡ true → IsIn keys u
    one u (inl is) lead = absurd (true≢false (sym lead ∙ ap leads (sym is) ∙ none))
    one u (inr is) lead = absurd is

pub same_grows : (keys : List Value) → Grows keys [] keys
same_grows keys = record { keeps = λ i x at. at; comes = λ u is. inl is; goes = λ u is lead. absurd is }

both_grow : (a b c xs ys : List Value) → Grows a xs b → Grows b ys c → Grows a (xs ++ ys) c
both_grow a b c xs ys one two = record {
  keeps = λ i x at. two.keeps i x (one.keeps i x at);
  comes = λ u is. from u (two.comes u is);
  goes = λ u is lead. to u lead (in_either xs ys u is);
}
  where
    again : (u : Value) → IsIn a u ⊎ IsIn xs u → IsIn a u ⊎ IsIn (xs ++ ys) u
    again u (inl is) = inl is
    again u (inr is) = inr (in_left xs ys u is)

    from : (u : Value) → IsIn b u ⊎ IsIn ys u → IsIn a u ⊎ IsIn (xs ++ ys) u
    from u (inl is) = again u (one.comes u is)
    from u (inr is) = inr (in_right xs ys u is)

    to : (u : Value) → leads u ≡ true → IsIn xs u ⊎ IsIn ys u → IsIn c u
    to u lead (inl is) = in_kept b c two.keeps u (one.goes u is lead)
    to u lead (inr is) = two.goes u is lead

pub next_grows : (a b c vs : List Value) (i : ℕ) (d : Value) → i < length vs → Grows a (take i vs) b → Grows b (slice_index_or vs i d ∷ []) c → Grows a (take (i + 1) vs) c
next_grows a b c vs i d below one two = subst (λ these. Grows a these c) (sym (take_more vs i d below)) (both_grow a b c (take i vs) (slice_index_or vs i d ∷ []) one two)

-- ---- the values of an object

pub pair_in : (pairs : List (ℕ × Value)) (o : ℕ) (w : Value) → IsIn (values_of pairs o) w → IsIn pairs (o, w)
pair_in [] o w is = absurd is
pair_in (pair ∷ pairs) o w is = by (pair.0 == o) refl is (λ later. pair_in pairs o w later)
  where
    by : (b : Bool) → (pair.0 == o) ≡ b → IsIn (if b then pair.1 ∷ values_of pairs o else values_of pairs o) w → (IsIn (values_of pairs o) w → IsIn pairs (o, w)) → (pair ≡ (o, w)) ⊎ IsIn pairs (o, w)
    by true same (inl is) more = let number : pair.0 ≡ o = omega (arith, eqb-true pair.0 o same) in inl (ap (λ n. (n, pair.1)) number ∙ ap (λ x. (o, x)) is)
    by true same (inr later) more = inr (more later)
    by false same is more = inr (more is)

pub in_pair : (pairs : List (ℕ × Value)) (o : ℕ) (w : Value) → IsIn pairs (o, w) → IsIn (values_of pairs o) w
in_pair [] o w is = absurd is
in_pair (pair ∷ pairs) o w (inl is) =
    subst (λ b. IsIn (if b then pair.1 ∷ values_of pairs o else values_of pairs o) w) (sym (eq-eqb pair.0 o (ap (λ (p : ℕ × Value). p.0) is))) (inl (ap (λ (p : ℕ × Value). p.1) is))
in_pair (pair ∷ pairs) o w (inr later) = by (pair.0 == o) (in_pair pairs o w later)
  where
    by : (b : Bool) → IsIn (values_of pairs o) w → IsIn (if b then pair.1 ∷ values_of pairs o else values_of pairs o) w
    by true more = inr more
    by false more = more

-- ---- what stands in a tuple

record PartStands (view : ValuesView) (items : List Value) (p : ℕ) : Type 0 where
  pub value : Value
  pub among : IsIn items value
  pub stands : StandsIn p (contents view value)

part_of : (view : ValuesView) (items : List Value) (p : ℕ) → StandsInParts p (parts_by (contents view) items) → PartStands view items p
part_of view [] p stands = absurd stands
part_of view (item ∷ items) p (inl stands) = record { value = item; among = inl refl; stands = stands }
part_of view (item ∷ items) p (inr later) = let found = part_of view items p later in record { value = found.value; among = inr found.among; stands = found.stands }

of_part : (view : ValuesView) (items : List Value) (w : Value) (p : ℕ) → IsIn items w → StandsIn p (contents view w) → StandsInParts p (parts_by (contents view) items)
of_part view [] w p is stands = absurd is
of_part view (item ∷ items) w p (inl is) stands = inl (subst (λ x. StandsIn p (contents view x)) (sym is) stands)
of_part view (item ∷ items) w p (inr later) stands = inr (of_part view items w p later stands)

none_stands : (view : ValuesView) (p t : ℕ) → slice_get view.tuples t ≡ None → StandsIn p (contents view (Tuple t)) → ⊥
none_stands view p t none stands = by (length view.tuples) stands
  where
    by : (n : ℕ) → StandsIn p (contents_to n view (Tuple t)) → ⊥
    by zero is = is
    by (suc n) is = subst (λ found. StandsIn p (tuple (parts_by (contents_to n view) (unwrap_or found [])))) none is

stands_leads : (view : ValuesView) (w : Value) (p : ℕ) → StandsIn p (contents view w) → leads w ≡ true
stands_leads view (Tuple t) p stands = refl
stands_leads view (Object o) p stands = refl
stands_leads view Nothing p stands = absurd stands
stands_leads view (Truth b) p stands = absurd stands
stands_leads view (Int i) p stands = absurd stands
stands_leads view (Text n) p stands = absurd stands
stands_leads view (Range start end step) p stands = absurd stands
stands_leads view (Fn at) p stands = absurd stands
stands_leads view (Class at) p stands = absurd stands
stands_leads view (Exc n) p stands = absurd stands
stands_leads view (Builtin n) p stands = absurd stands

abbrev TupleBelow : ℕ → Value → Type 0
TupleBelow n (Tuple t) = t < n
TupleBelow n other = ⊤

below_tuple : (texts n m : ℕ) (w : Value) → m ≤ n → IsBelow texts m w → TupleBelow n w
below_tuple texts n m (Tuple t) few below = omega (arith, below, few)
below_tuple texts n m (Object o) few below = tt
below_tuple texts n m Nothing few below = tt
below_tuple texts n m (Truth b) few below = tt
below_tuple texts n m (Int i) few below = tt
below_tuple texts n m (Text k) few below = tt
below_tuple texts n m (Range start end step) few below = tt
below_tuple texts n m (Fn at) few below = tt
below_tuple texts n m (Class at) few below = tt
below_tuple texts n m (Exc k) few below = tt
below_tuple texts n m (Builtin k) few below = tt

-- ---- the walk

module _ (view : ValuesView) (interned : AreInterned view) (tuples : List (List Value)) (same : view.tuples ≡ tuples) (children : List (ℕ × Value)) (groups : List (ℕ × List Value))
    (grouped : (o : ℕ) → group_in groups o ≡ values_of children o) (v : Value) where
  sound_inside : (u : Value) → ((p : ℕ) → StandsIn p (contents view u) → Reaches view children v p) → (w : Value) → IsIn (inside tuples groups u) w → (p : ℕ) → StandsIn p (contents view w) → Reaches view children v p
  sound_inside (Tuple t) sound w is p stands = by (slice_get tuples t) refl is
    where
      by : (got : Option (List Value)) → slice_get tuples t ≡ got → IsIn (unwrap_or got []) w → Reaches view children v p
      by None at is = absurd is
      by (Some items) at is = sound p (subst (StandsIn p) (sym (tuple_contents view interned t items (ap (λ these. slice_get these t) same ∙ at))) (of_part view items w p is stands))
  sound_inside (Object o) sound w is p stands = in_child o (sound o refl) (record { child = w; among = pair_in children o w (subst (λ these. IsIn these w) (grouped o) is); stands = stands })
  sound_inside Nothing sound w is p stands = absurd is
  sound_inside (Truth b) sound w is p stands = absurd is
  sound_inside (Int i) sound w is p stands = absurd is
  sound_inside (Text n) sound w is p stands = absurd is
  sound_inside (Range start end step) sound w is p stands = absurd is
  sound_inside (Fn at) sound w is p stands = absurd is
  sound_inside (Class at) sound w is p stands = absurd is
  sound_inside (Exc n) sound w is p stands = absurd is
  sound_inside (Builtin n) sound w is p stands = absurd is

  pub first_walked : (found : List Value) → Grows [] (v ∷ []) found → IsWalked view tuples children groups v 0 found
  first_walked found grows = record {
    starts = λ lead. grows.goes v (inl refl) lead;
    sound = λ u is. from u (grows.comes u is);
    closed = λ i u below at w is lead. absurd (omega (arith, below));
  }
    where
      from : (u : Value) → ⊥ ⊎ ((v ≡ u) ⊎ ⊥) → (p : ℕ) → StandsIn p (contents view u) → Reaches view children v p
      from u (inl is) p stands = absurd is
      from u (inr (inl is)) p stands = in_value (subst (λ x. StandsIn p (contents view x)) (sym is) stands)
      from u (inr (inr is)) p stands = absurd is

  pub next_walked : (n : ℕ) (found new : List Value) (u : Value) → IsWalked view tuples children groups v n found → slice_get found n ≡ Some u → Grows found (inside tuples groups u) new
      → IsWalked view tuples children groups v (n + 1) new
  next_walked n found new u walked at grows = record {
    starts = λ lead. in_kept found new grows.keeps v (walked.starts lead);
    sound = λ w is. from w (grows.comes w is);
    closed = λ i w below there x is lead. by (nat_lt i n) i refl w below there x is lead;
  }
    where
      from : (w : Value) → IsIn found w ⊎ IsIn (inside tuples groups u) w → (p : ℕ) → StandsIn p (contents view w) → Reaches view children v p
      from w (inl is) p stands = walked.sound w is p stands
      from w (inr is) p stands = sound_inside u (walked.sound u (at_in found n u at)) w is p stands

      earlier : (i : ℕ) (w : Value) → i < n → slice_get new i ≡ Some w → slice_get found i ≡ Some w
      earlier i w below there =
          let old : slice_get found i ≡ Some (get_or found i w) = slice_get-get_or found i w (omega (arith, below, slice_get_within found n u at)) in
          old ∙ sym (grows.keeps i (get_or found i w) old) ∙ there

      by : (b : Bool) (i : ℕ) → nat_lt i n ≡ b → (w : Value) → i < n + 1 → slice_get new i ≡ Some w → (x : Value) → IsIn (inside tuples groups w) x → leads x ≡ true → IsIn new x
      by true i less w below there x is lead = in_kept found new grows.keeps x (walked.closed i w (ltb-true i n less) (earlier i w (ltb-true i n less) there) x is lead)
      by false i less w below there x is lead =
          let number : n ≡ i = omega (arith, ltb-false i n less, below) in
          let last : u ≡ w = same_Some u w (sym (grows.keeps n u at) ∙ ap (slice_get new) number ∙ there) in
          grows.goes x (subst (λ y. IsIn (inside tuples groups y) x) (sym last) is) lead

  module _ (n : ℕ) (found : List Value) (walked : IsWalked view tuples children groups v n found) (over : slice_get found n ≡ None) where
    all_closed : (u : Value) → IsIn found u → (w : Value) → IsIn (inside tuples groups u) w → leads w ≡ true → IsIn found w
    all_closed u here w is lead = let found_at = in_at found u here in walked.closed found_at.i u (by (nat_lt found_at.i n) found_at.i refl found_at.at) found_at.at w is lead
      where
        some : (x : Value) → slice_get found n ≡ Some x → ⊥
        some x is = cc

        by : (b : Bool) (i : ℕ) → nat_lt i n ≡ b → slice_get found i ≡ Some u → i < n
        by true i less at = ltb-true i n less
        by false i less at = absurd (some (get_or found n u) (slice_get-get_or found n u (omega (arith, ltb-false i n less, slice_get_within found i u at))))

    value_case : (m : ℕ) (w : Value) (p : ℕ) → TupleBelow m w → ((t : ℕ) → t < m → IsIn found (Tuple t) → StandsIn p (contents view (Tuple t)) → IsIn found (Object p)) → IsIn found w → StandsIn p (contents view w)
        → IsIn found (Object p)
    value_case m (Tuple t) p below deeper here stands = deeper t below here stands
    value_case m (Object o) p below deeper here stands = subst (λ q. IsIn found (Object q)) stands here
    value_case m Nothing p below deeper here stands = absurd stands
    value_case m (Truth b) p below deeper here stands = absurd stands
    value_case m (Int i) p below deeper here stands = absurd stands
    value_case m (Text k) p below deeper here stands = absurd stands
    value_case m (Range start end step) p below deeper here stands = absurd stands
    value_case m (Fn at) p below deeper here stands = absurd stands
    value_case m (Class at) p below deeper here stands = absurd stands
    value_case m (Exc k) p below deeper here stands = absurd stands
    value_case m (Builtin k) p below deeper here stands = absurd stands

    tuple_found : (m t : ℕ) (p : ℕ) → t < m → IsIn found (Tuple t) → StandsIn p (contents view (Tuple t)) → IsIn found (Object p)
    tuple_found zero t p below here stands = absurd (omega (arith, below))
    tuple_found (suc m) t p below here stands = by (slice_get view.tuples t) refl (λ k less there more. tuple_found m k p less there more)
      where
        by : (got : Option (List Value)) → slice_get view.tuples t ≡ got → ((k : ℕ) → k < m → IsIn found (Tuple k) → StandsIn p (contents view (Tuple k)) → IsIn found (Object p)) → IsIn found (Object p)
        by None at deeper = absurd (none_stands view p t at stands)
        by (Some items) at deeper =
            let part = part_of view items p (subst (StandsIn p) (tuple_contents view interned t items at) stands) in
            let place = in_at items part.value part.among in
            let within : IsIn (inside tuples groups (Tuple t)) part.value = subst (λ got. IsIn (unwrap_or got []) part.value) (sym (ap (λ these. slice_get these t) (sym same) ∙ at)) part.among in
            value_case m part.value p (below_tuple (length view.texts) m t part.value (omega (arith, below)) (interned.parts t items at place.i part.value place.at)) deeper
            (all_closed (Tuple t) here part.value within (stands_leads view part.value p part.stands)) part.stands

    all_found : (u : Value) (p : ℕ) → IsIn found u → StandsIn p (contents view u) → IsIn found (Object p)
    all_found (Tuple t) p here stands = tuple_found (suc t) t p (omega arith) here stands
    all_found (Object o) p here stands = subst (λ q. IsIn found (Object q)) stands here
    all_found Nothing p here stands = absurd stands
    all_found (Truth b) p here stands = absurd stands
    all_found (Int i) p here stands = absurd stands
    all_found (Text k) p here stands = absurd stands
    all_found (Range start end step) p here stands = absurd stands
    all_found (Fn at) p here stands = absurd stands
    all_found (Class at) p here stands = absurd stands
    all_found (Exc k) p here stands = absurd stands
    all_found (Builtin k) p here stands = absurd stands

    reached_found : (p : ℕ) → Reaches view children v p → IsIn found (Object p)
    reached_found p (in_value stands) = all_found v p (walked.starts (stands_leads view v p stands)) stands
    reached_found p (in_child o reached held) =
        all_found held.child p
        (all_closed (Object o) (reached_found o reached) held.child (subst (λ these. IsIn these held.child) (sym (grouped o)) (in_pair children o held.child held.among)) (stands_leads view held.child p held.stands))
        held.stands

    pub all_walked : AreReached view children v found
    all_walked p = (λ here. walked.sound (Object p) here p refl, reached_found p)
