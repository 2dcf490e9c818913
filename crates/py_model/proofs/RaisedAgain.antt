-- What an operation raises again is there, and an instance: `raise` alone raises again, and it looks at the kind first.
use Rattle.std.proofs.Common.{◌≡◌, ℕ, ◌==◌, Bool, true, false, List, [], ◌∷◌, slice_get, Option, Some, inl, inr, refl, sym, ap, subst, arith, eqb-true}
use Rattle.std.proofs.lemmas.Option.{slice_get_within}
use Rattle.py_value.specs.Contents.{Contents, class, exception_class, object}
use Rattle.py_value.specs.Seen.{SeenKind, an_instance}
use Rattle.py_model.proofs.Agreements.{as_they_are, every_alike}
use Rattle.py_model.proofs.AlikeAttributes.{raise_object_alike, raise_class_alike}
use Rattle.py_model.proofs.AlikePlans.{Allowed, RaisesOnly}
use Rattle.py_model.proofs.Correspondence.{of_raise}
use Rattle.py_model.proofs.Effects.{Alone, alone}
use Rattle.py_model.specs.Effect.{Answers, effect, answered, IsThere}
use Rattle.py_model.specs.Operands.{of_one}
use Rattle.py_model.specs.Operations.{Op, plan}
use Rattle.py_model.specs.Plan.{Plan, raised}
use Rattle.py_model.specs.Raising.{raise_object, raise}
use Rattle.py_model.specs.Store.{RunStore}

module _ (store : RunStore) (answers : Answers) where
  abbrev There : Plan → ℕ → Type 0
  There p o = (effect store answers p).outcome ≡ answered (raised o) → Alone (IsThere store) store answers (effect store answers p) o

  there_where : (p : Plan) → RaisesOnly (IsThere store) p → (o : ℕ) → There p o
  there_where p only o is = alone (IsThere store) store answers p only o is

  abbrev may : Allowed
  may = record { asks = false; notes = false; again = IsThere store }

  object_there : (p : ℕ) (kind : Option SeenKind) → slice_get store.kinds p ≡ kind → (o : ℕ) → There (raise_object p kind) o
  object_there p (Some (an_instance of)) is =
      let there : IsThere store p = record { of = of; kind_is = is; within = slice_get_within store.kinds p (an_instance of) is } in
      there_where (raise_object p (Some (an_instance of))) (raise_object_alike may as_they_are p there (Some (an_instance of))).again
  object_there p kind is = there_where (raise_object p kind) tt

  raise_there : (v : Contents) (o : ℕ) → There (raise v) o
  raise_there (object p) = object_there p (slice_get store.kinds p) refl
  raise_there (class place) = there_where (raise (class place)) (raise_class_alike may as_they_are (class place)).again
  raise_there (exception_class number) = there_where (raise (exception_class number)) (raise_class_alike may as_they_are (exception_class number)).again
  raise_there other = there_where (raise other) tt

  of_one_there : (values : List Contents) (o : ℕ) → There (of_one raise values) o
  of_one_there (v ∷ []) = raise_there v
  of_one_there values = there_where (of_one raise values) tt

  -- the plan of an operation with a number
  abbrev numbered : ℕ → Op → List Contents → Plan
  numbered number op values = plan (record op { no = number }) values

  by_number : (op : Op) (values : List Contents) (b : Bool) → (op.no == 40) ≡ b → (o : ℕ) → There (plan op values) o
  by_number op values true is o came = subst (λ p. There p o) (sym (raise_is (omega (arith, eqb-true op.no 40 is)))) (of_one_there values o) came
    where
      raise_is : op.no ≡ 40 → plan op values ≡ of_one raise values
      raise_is same = ap (λ n. numbered n op values) same
  by_number op values false is o came = by_sides (alone (of_raise (op.no == 40)) store answers (plan op values) (every_alike as_they_are op values).again o came)
    where
      by_sides : Alone (of_raise (op.no == 40)) store answers (effect store answers (plan op values)) o → Alone (IsThere store) store answers (effect store answers (plan op values)) o
      by_sides (inl untouched) = absurd (subst (λ b. of_raise b o) is untouched.1)
      by_sides (inr thrown) = inr thrown

  pub there : (op : Op) (values : List Contents) (o : ℕ) → There (plan op values) o
  there op values o is = by_number op values (op.no == 40) refl o is
