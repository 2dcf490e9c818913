-- The keys of rows are the keys of values, and without truth values they are the normal ones.
use Rattle.std.proofs.Common.{◌≡◌, ℕ, zero, suc, ◌<◌, Bool, true, false, ◌&&◌, List, [], ◌∷◌, length, slice_get, unwrap_or, Option, Some, None, is_none, refl, sym, ap, ◌∙◌, arith}
use Rattle.std.specs.List.{list_all}
use Rattle.std.specs.Option.{option_or}
use Rattle.py_value.specs.declared.key.KeyFault.{KeyFault}
use Rattle.py_value.specs.declared.value.Value.{Value}
use Rattle.py_value.specs.declared.value.Value.TheVariants.{None as NoneValue, Bool as TruthValue, Int, Text, Tuple, Range, Fn, Class, Exc, Builtin, Object}
use Rattle.py_value.specs.Values.{ValuesView, AreInterned, AreNamed, IsNamed}
use Rattle.py_value.specs.Contents.{Contents, Parts, tuple, part, parts_by, contents}
use Rattle.py_value.specs.KeyOf.{first_fault, fault_within, normal, normal_parts}
use Rattle.py_value.proofs.Interning.{below_more}
use Rattle.py_value.proofs.NormalForms.{tuple_contents}
use Rattle.py_value.proofs.SameContents.{item_at}
use Rattle.row_checks.specs.Keys.{is_key_within, parts_pass}

none_of_two : (a b : Option KeyFault) → is_none (option_or a b) ≡ (is_none a && is_none b)
none_of_two None b = refl
none_of_two (Some fault) b = refl

both_pass : (a b : Bool) → a ≡ true → b ≡ true → (a && b) ≡ true
both_pass true true p q = refl
both_pass true false p q = q
both_pass false b p q = p

first_passes : (a b : Bool) → (a && b) ≡ true → a ≡ true
first_passes true b is = refl
first_passes false b is = is

second_passes : (a b : Bool) → (a && b) ≡ true → b ≡ true
second_passes true b is = is
second_passes false b is = absurd (cc)

two_parts : {c d : Contents} {ps qs : Parts} → c ≡ d → ps ≡ qs → part c ps ≡ part d qs
two_parts first rest = cc

head_is : (c d : Contents) (ps qs : Parts) → part c ps ≡ part d qs → c ≡ d
head_is c d ps qs is = cc

tail_is : (c d : Contents) (ps qs : Parts) → part c ps ≡ part d qs → ps ≡ qs
tail_is c d ps qs is = cc

parts_are : (ps qs : Parts) → tuple ps ≡ tuple qs → ps ≡ qs
parts_are ps qs is = cc

module _ (view : ValuesView) (interned : AreInterned view) where
  parts_named : (n : ℕ) (items : List Value) → n < length view.tuples → slice_get view.tuples n ≡ Some items → AreNamed view items
  parts_named n items below at i item here =
      below_more (length view.texts) n (length view.texts) (length view.tuples) item (omega arith) (omega (arith, below)) (interned.parts n items at i item here)

  -- ---- the keys of values

  keys_are : (levels : ℕ) → ((v : Value) → IsNamed view v → is_key_within true levels view.tuples v ≡ is_none (fault_within levels view v))
      → (vs : List Value) → AreNamed view vs → list_all (is_key_within true levels view.tuples) vs ≡ is_none (first_fault (fault_within levels view) vs)
  keys_are levels one [] named = refl
  keys_are levels one (v ∷ vs) named =
      ap (λ b. b && list_all (is_key_within true levels view.tuples) vs) (one v (named 0 v refl))
      ∙ ap (λ b. is_none (fault_within levels view v) && b) (keys_are levels one vs (λ i item at. named (suc i) item at))
      ∙ sym (none_of_two (fault_within levels view v) (first_fault (fault_within levels view) vs))

  pub key_is : (levels : ℕ) (v : Value) → IsNamed view v → is_key_within true levels view.tuples v ≡ is_none (fault_within levels view v)
  key_is zero (Tuple n) named = refl
  key_is (suc levels) (Tuple n) named =
      let x = item_at view.tuples n named in
      ap (parts_pass (is_key_within true levels view.tuples)) x.1
      ∙ keys_are levels (key_is levels) x.0 (parts_named n x.0 named x.1)
      ∙ ap (λ found. is_none (first_fault (fault_within levels view) (unwrap_or found []))) (sym x.1)
  key_is levels NoneValue named = refl
  key_is levels (TruthValue b) named = refl
  key_is levels (Int i) named = refl
  key_is levels (Text n) named = refl
  key_is levels (Range start end step) named = refl
  key_is levels (Fn at) named = refl
  key_is levels (Class at) named = refl
  key_is levels (Exc n) named = refl
  key_is levels (Builtin n) named = refl
  key_is levels (Object n) named = refl

  -- ---- the normal ones

  abbrev IsNormal : Value → Type 0
  IsNormal v = normal (contents view v) ≡ contents view v

  -- without truth values just the normal keys pass
  abbrev IsSplit : ℕ → Value → Type 0
  IsSplit levels v =
      (is_key_within false levels view.tuples v ≡ true → (is_key_within true levels view.tuples v ≡ true) × IsNormal v)
      × (is_key_within true levels view.tuples v ≡ true → IsNormal v → is_key_within false levels view.tuples v ≡ true)

  abbrev AreNormal : List Value → Type 0
  AreNormal vs = normal_parts (parts_by (contents view) vs) ≡ parts_by (contents view) vs

  onward_all : (levels : ℕ) → ((v : Value) → IsNamed view v → IsSplit levels v) → (vs : List Value) → AreNamed view vs
      → list_all (is_key_within false levels view.tuples) vs ≡ true → (list_all (is_key_within true levels view.tuples) vs ≡ true) × AreNormal vs
  onward_all levels one [] named is = (refl, refl)
  onward_all levels one (v ∷ vs) named is =
      let strict = is_key_within false levels view.tuples in
      let first = (one v (named 0 v refl)).0 (first_passes (strict v) (list_all strict vs) is) in
      let rest = onward_all levels one vs (λ i item at. named (suc i) item at) (second_passes (strict v) (list_all strict vs) is) in
      (both_pass (is_key_within true levels view.tuples v) (list_all (is_key_within true levels view.tuples) vs) first.0 rest.0, two_parts first.1 rest.1)

  back_all : (levels : ℕ) → ((v : Value) → IsNamed view v → IsSplit levels v) → (vs : List Value) → AreNamed view vs
      → list_all (is_key_within true levels view.tuples) vs ≡ true → AreNormal vs → list_all (is_key_within false levels view.tuples) vs ≡ true
  back_all levels one [] named is normals = refl
  back_all levels one (v ∷ vs) named is normals =
      let plain = is_key_within true levels view.tuples in
      let c = contents view v in
      let ps = parts_by (contents view) vs in
      both_pass (is_key_within false levels view.tuples v) (list_all (is_key_within false levels view.tuples) vs)
      ((one v (named 0 v refl)).1 (first_passes (plain v) (list_all plain vs) is) (head_is (normal c) c (normal_parts ps) ps normals))
      (back_all levels one vs (λ i item at. named (suc i) item at) (second_passes (plain v) (list_all plain vs) is) (tail_is (normal c) c (normal_parts ps) ps normals))

  pub splits : (levels : ℕ) (v : Value) → IsNamed view v → IsSplit levels v
  splits zero (Tuple n) named = (λ is. absurd (cc), λ is normals. is)
  splits (suc levels) (Tuple n) named =
      let x = item_at view.tuples n named in
      let named_parts = parts_named n x.0 named x.1 in
      let is_tuple = tuple_contents view interned n x.0 x.1 in
      let ps = parts_by (contents view) x.0 in (
        λ is.
            let all = onward_all levels (splits levels) x.0 named_parts (ap (parts_pass (is_key_within false levels view.tuples)) (sym x.1) ∙ is) in
            (ap (parts_pass (is_key_within true levels view.tuples)) x.1 ∙ all.0, ap normal is_tuple ∙ ap tuple all.1 ∙ sym is_tuple),
        λ is normals.
            ap (parts_pass (is_key_within false levels view.tuples)) x.1
            ∙ back_all levels (splits levels) x.0 named_parts (ap (parts_pass (is_key_within true levels view.tuples)) (sym x.1) ∙ is)
            (parts_are (normal_parts ps) ps (sym (ap normal is_tuple) ∙ normals ∙ is_tuple)),
      )
  splits levels NoneValue named = (λ is. (refl, refl), λ is normals. refl)
  splits levels (TruthValue true) named = (λ is. absurd (cc), λ is normals. absurd (cc))
  splits levels (TruthValue false) named = (λ is. absurd (cc), λ is normals. absurd (cc))
  splits levels (Int i) named = (λ is. (refl, refl), λ is normals. refl)
  splits levels (Text n) named = (λ is. (refl, refl), λ is normals. refl)
  splits levels (Range start end step) named = (λ is. absurd (cc), λ is normals. is)
  splits levels (Fn at) named = (λ is. absurd (cc), λ is normals. is)
  splits levels (Class at) named = (λ is. absurd (cc), λ is normals. is)
  splits levels (Exc n) named = (λ is. absurd (cc), λ is normals. is)
  splits levels (Builtin n) named = (λ is. absurd (cc), λ is normals. is)
  splits levels (Object n) named = (λ is. absurd (cc), λ is normals. is)
