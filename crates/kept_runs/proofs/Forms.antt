-- The normal form of a key is a key, and is its own normal form.
use Rattle.std.proofs.Common.{◌≡◌, ℕ, zero, suc, true, false, refl, ap, ap₂, ◌∙◌}
use Rattle.std.specs.Option.{option_or}
use Rattle.py_value.specs.Contents.{Contents, Parts, nothing, truth, int, text, tuple, range, function, class, exception_class, builtin, object, no_parts, part}
use Rattle.py_value.specs.KeyOf.{key_fault, parts_fault, normal, normal_parts}
use Rattle.kept_runs.specs.Keys.{IsKey, IsForm}

mutual
  normal_fault : (levels : ℕ) (v : Contents) → key_fault levels (normal v) ≡ key_fault levels v
  normal_fault levels (truth true) = refl
  normal_fault levels (truth false) = refl
  normal_fault zero (tuple parts) = refl
  normal_fault (suc levels) (tuple parts) = normal_parts_fault levels parts
  normal_fault levels nothing = refl
  normal_fault levels (int i) = refl
  normal_fault levels (text bytes) = refl
  normal_fault levels (range start end step) = refl
  normal_fault levels (function place) = refl
  normal_fault levels (class place) = refl
  normal_fault levels (exception_class number) = refl
  normal_fault levels (builtin number) = refl
  normal_fault levels (object o) = refl

  normal_parts_fault : (levels : ℕ) (ps : Parts) → parts_fault levels (normal_parts ps) ≡ parts_fault levels ps
  normal_parts_fault levels no_parts = refl
  normal_parts_fault levels (part first rest) = ap₂ option_or (normal_fault levels first) (normal_parts_fault levels rest)

mutual
  normal_twice : (v : Contents) → normal (normal v) ≡ normal v
  normal_twice (truth true) = refl
  normal_twice (truth false) = refl
  normal_twice (tuple parts) = ap tuple (normal_parts_twice parts)
  normal_twice nothing = refl
  normal_twice (int i) = refl
  normal_twice (text bytes) = refl
  normal_twice (range start end step) = refl
  normal_twice (function place) = refl
  normal_twice (class place) = refl
  normal_twice (exception_class number) = refl
  normal_twice (builtin number) = refl
  normal_twice (object o) = refl

  normal_parts_twice : (ps : Parts) → normal_parts (normal_parts ps) ≡ normal_parts ps
  normal_parts_twice no_parts = refl
  normal_parts_twice (part first rest) = ap₂ part (normal_twice first) (normal_parts_twice rest)

pub form_of : (key : Contents) → IsKey key → IsForm (normal key)
form_of key is = (normal_fault 100 key ∙ is, normal_twice key)
