-- Trees of actions that name known functions and classes alone.
use Rattle.std.specs.Prelude.{⊤, ℕ, Bool, List}
use Rattle.prov_base.specs.declared.place.Pos.{Pos}
use Rattle.py_value.specs.Contents.{Contents}
use Rattle.py_model.specs.Act.{Act, How, Walked, ret, stop, perform, begin, close, enter, leave, returned}
use Rattle.py_model.specs.Moment.{Ending}
use Rattle.py_model.specs.Operations.{Op}
use Rattle.py_model.specs.Plan.{Answer}
use Rattle.model_laws.specs.Flow.{KnownValue, KnownAll, KnownPlace, KnownAnswer}

module _ (known : Pos → Bool) where
  abbrev pub KnownHow : How → Type 0
  KnownHow (returned v) = KnownValue known v
  KnownHow other = ⊤

  -- all operands are known, where all answers are
  pub data Knows : Act → Type 0 where
    kn_ret : {how : How} → KnownHow how → Knows (ret how)
    kn_stop : Knows stop
    kn_perform : {at : Pos} {p : Op} {vs : List Contents} {f : Answer → Walked → Act} → KnownValue known p.value → KnownAll known vs
        → ((answer : Answer) (walked : Walked) → KnownAnswer known answer → KnownPlace known walked.method → Knows (f answer walked)) → Knows (perform at p vs f)
    kn_begin : {n : ℕ} {a : Act} → Knows a → Knows (begin n a)
    kn_close : {n : ℕ} {ending : Ending} {a : Act} → Knows a → Knows (close n ending a)
    kn_enter : {at def : Pos} {params : List (List ℕ)} {vs : List Contents} {f : ℕ → Act} → KnownAll known vs → ((a : ℕ) → Knows (f a)) → Knows (enter at def params vs f)
    kn_leave : {v : Contents} {a : Act} → Knows a → Knows (leave v a)
