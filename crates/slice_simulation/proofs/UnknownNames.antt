-- An operation that is given no known function or class as its own leaves the names of known places as they were noted.
use Rattle.std.proofs.Common.{◌≡◌, ℕ, Bool, true, false, ◌||◌, ◌==◌, if◌then◌else◌, List, [], ◌∷◌, Option, Some, None, refl, sym, ap, subst, ◌∙◌, eqb-true, rules}
use Rattle.std.proofs.lemmas.Bool.{false≢true}
use Rattle.prov_base.specs.declared.place.Pos.{Pos}
use Rattle.prov_base.specs.contracts.place.PosPartialEq.TheImpl.{ghosts as places}
use Rattle.py_value.specs.Contents.{Contents, nothing, truth, int, text, tuple, range, function, class, exception_class, builtin, object}
use Rattle.py_model.specs.Classes.{is_class, define, define_method, class_begun}
use Rattle.py_model.specs.Effect.{Answers, effect, after}
use Rattle.py_model.specs.Operations.{Op, def_plan, class_plan, plan}
use Rattle.py_model.specs.Plan.{Plan}
use Rattle.py_model.specs.Quiet.{may_note}
use Rattle.py_model.specs.Faults.{wrong_kind}
use Rattle.py_model.specs.Store.{RunStore}
use Rattle.slice_simulation.proofs.Beside.{IsUnknown}

place_same : (p q : Pos) → places.eq p q ≡ true → p ≡ q
place_same p q is = search rules

module _ (known : Pos → Bool) (store : RunStore) (answers : Answers) (place : Pos) (is : known place ≡ true) where
  abbrev Stays : Plan → Type 0
  Stays p = (after (effect store answers p) store).names place ≡ store.names place

  -- a name is noted at another place
  elsewhere : (at : Pos) (name : List ℕ) → known at ≡ false → (if places.eq at place then Some name else store.names place) ≡ store.names place
  elsewhere at name unknown = by_test (places.eq at place) refl
    where
      by_test : (test : Bool) → places.eq at place ≡ test → (if test then Some name else store.names place) ≡ store.names place
      by_test true same = absurd (false≢true (sym unknown ∙ (ap known (place_same at place same) ∙ is)))
      by_test false apart = refl

  define_stays : (name : List ℕ) (v : Contents) → IsUnknown known v → Stays (define name v)
  define_stays name (function at) unknown = elsewhere at name unknown
  define_stays name (class at) unknown = refl
  define_stays name nothing unknown = refl
  define_stays name (truth b) unknown = refl
  define_stays name (int i) unknown = refl
  define_stays name (text bytes) unknown = refl
  define_stays name (tuple parts) unknown = refl
  define_stays name (range start end step) unknown = refl
  define_stays name (exception_class number) unknown = refl
  define_stays name (builtin number) unknown = refl
  define_stays name (object o) unknown = refl

  method_stays : (name : List ℕ) (at : Pos) (of : Contents) → known at ≡ false → Stays (define_method name (function at) of)
  method_stays name at (class of) unknown = elsewhere at name unknown
  method_stays name at (function of) unknown = refl
  method_stays name at nothing unknown = refl
  method_stays name at (truth b) unknown = refl
  method_stays name at (int i) unknown = refl
  method_stays name at (text bytes) unknown = refl
  method_stays name at (tuple parts) unknown = refl
  method_stays name at (range start end step) unknown = refl
  method_stays name at (exception_class number) unknown = refl
  method_stays name at (builtin number) unknown = refl
  method_stays name at (object o) unknown = refl

  define_method_stays : (name : List ℕ) (v of : Contents) → IsUnknown known v → Stays (define_method name v of)
  define_method_stays name (function at) of unknown = method_stays name at of unknown
  define_method_stays name (class at) of unknown = refl
  define_method_stays name nothing of unknown = refl
  define_method_stays name (truth b) of unknown = refl
  define_method_stays name (int i) of unknown = refl
  define_method_stays name (text bytes) of unknown = refl
  define_method_stays name (tuple parts) of unknown = refl
  define_method_stays name (range start end step) of unknown = refl
  define_method_stays name (exception_class number) of unknown = refl
  define_method_stays name (builtin number) of unknown = refl
  define_method_stays name (object o) of unknown = refl

  class_stays : (name : List ℕ) (v : Contents) (base : Option Contents) → IsUnknown known v → Stays (class_begun name v base)
  class_stays name (class at) base unknown = elsewhere at name unknown
  class_stays name (function at) base unknown = refl
  class_stays name nothing base unknown = refl
  class_stays name (truth b) base unknown = refl
  class_stays name (int i) base unknown = refl
  class_stays name (text bytes) base unknown = refl
  class_stays name (tuple parts) base unknown = refl
  class_stays name (range start end step) base unknown = refl
  class_stays name (exception_class number) base unknown = refl
  class_stays name (builtin number) base unknown = refl
  class_stays name (object o) base unknown = refl

  def_stays : (op : Op) (values : List Contents) → IsUnknown known op.value → Stays (def_plan op values)
  def_stays op [] unknown = define_stays op.name op.value unknown
  def_stays op (of ∷ []) unknown = define_method_stays op.name op.value of unknown
  def_stays op (of ∷ v ∷ values) unknown = refl

  begin_stays : (op : Op) (values : List Contents) → IsUnknown known op.value → Stays (class_plan op values)
  begin_stays op [] unknown = class_stays op.name op.value None unknown
  begin_stays op (base ∷ []) unknown = by_test (is_class base)
    where
      by_test : (test : Bool) → Stays (if test then class_begun op.name op.value (Some base) else wrong_kind)
      by_test true = class_stays op.name op.value (Some base) unknown
      by_test false = refl
  begin_stays op (base ∷ v ∷ values) unknown = refl

  pub names_stay : ((op : Op) (values : List Contents) → may_note op.no ≡ false → Stays (plan op values)) → (op : Op) (values : List Contents) → IsUnknown known op.value → Stays (plan op values)
  names_stay silent op values unknown = by_tests (op.no == 42) refl (op.no == 43) refl
    where
      numbered : (number : ℕ) → op.no ≡ number → Stays (plan (record op { no = number }) values) → Stays (plan op values)
      numbered number is stays = subst (λ (n : ℕ). Stays (plan (record op { no = n }) values)) (sym is) stays

      by_tests : (a : Bool) → (op.no == 42) ≡ a → (b : Bool) → (op.no == 43) ≡ b → Stays (plan op values)
      by_tests true one b other = numbered 42 (eqb-true op.no 42 one) (def_stays op values unknown)
      by_tests false none true other = numbered 43 (eqb-true op.no 43 other) (begin_stays op values unknown)
      by_tests false none false no_other = silent op values (ap (λ test. test || (op.no == 43)) none ∙ no_other)
