-- Trees of actions in which each operation of a local name is of the innermost open activation, and what sets the name binds it.
use Rattle.std.proofs.Common.{◌≡◌, ℕ, List, [], ◌∷◌, ◌⊎◌, Some}
use Rattle.std.specs.Prelude.{IsTrue}
use Rattle.prov_base.specs.declared.place.Pos.{Pos}
use Rattle.py_tree.specs.Binds.{binds}
use Rattle.py_tree.specs.Functions.{Function, function_at}
use Rattle.py_tree.specs.Tree.{ScriptTree}
use Rattle.py_value.specs.Contents.{Contents}
use Rattle.py_model.specs.Act.{Act, How, Walked, ret, stop, perform, begin, close, enter, leave, to}
use Rattle.py_model.specs.Going.{Open, a_statement, an_activation}
use Rattle.py_model.specs.Moment.{Ending}
use Rattle.py_model.specs.Operations.{Op}
use Rattle.py_model.specs.Plan.{Answer}
use Rattle.slice_law.specs.Edges.{function_of_stmt}
use Rattle.slice_simulation.proofs.ScopedPlans.{IsScoped}
use Rattle.slice_simulation.specs.BoundNames.{Call, innermost_activation, innermost_def}

-- what is open: a statement, or an activation with its number and the place of its function
pub data Level : Type 0 where
  of_stmt : ℕ → Level
  of_call : ℕ → Pos → Level

abbrev pub calls_of : List Level → List Call
calls_of [] = []
calls_of (of_stmt n ∷ from) = calls_of from
calls_of (of_call activation def ∷ from) = record { activation = activation; def = def } ∷ calls_of from

abbrev pub opens_of : List Level → List Open
opens_of [] = []
opens_of (of_stmt n ∷ from) = a_statement n ∷ opens_of from
opens_of (of_call activation def ∷ from) = an_activation ∷ opens_of from

module _ (script : ScriptTree) where
  -- the function at a place has these parameters
  pub record HasFunction (def : Pos) (params : List (List ℕ)) : Type 0 where
    pub function : Function
    pub found : function_at script def ≡ Some function
    pub params_are : function.params ≡ params

  abbrev pub Fits : ℕ → List Call → Type 0
  Fits n calls = function_of_stmt script n ≡ innermost_def script calls

  -- an operation of the module's names, or of the innermost activation's
  abbrev pub OwnOp : ℕ → List Call → Op → List Contents → Type 0
  OwnOp n calls p vs = (p.scope ≡ 0) ⊎ ((innermost_activation calls ≡ Some p.scope) × IsScoped (IsTrue (binds script n p.name)) p vs)

  pub data Bounds : List Level → List Level → Act → Type 0 where
    bd_ret : {from : List Level} {how : How} → Bounds from from (ret how)
    bd_stop : {from onto : List Level} → Bounds from onto stop
    bd_perform : {n : ℕ} {from onto : List Level} {at : Pos} {p : Op} {vs : List Contents} {f : Answer → Walked → Act} → Fits n (calls_of from) → OwnOp n (calls_of from) p vs
        → ((answer : Answer) (walked : Walked) → Bounds (of_stmt n ∷ from) onto (f answer walked)) → Bounds (of_stmt n ∷ from) onto (perform at p vs f)
    bd_begin : {n : ℕ} {from onto : List Level} {a : Act} → Bounds (of_stmt n ∷ from) onto a → Bounds from onto (begin n a)
    bd_close : {n : ℕ} {from onto : List Level} {ended : Ending} {a : Act} → Bounds from onto a → Bounds (of_stmt n ∷ from) onto (close n ended a)
    bd_enter : {n : ℕ} {from onto : List Level} {at def : Pos} {params : List (List ℕ)} {vs : List Contents} {f : ℕ → Act} → Fits n (calls_of from) → HasFunction def params
        → ((activation : ℕ) → Bounds (of_call activation def ∷ (of_stmt n ∷ from)) onto (f activation)) → Bounds (of_stmt n ∷ from) onto (enter at def params vs f)
    bd_leave : {activation : ℕ} {def : Pos} {from onto : List Level} {v : Contents} {a : Act} → Bounds from onto a → Bounds (of_call activation def ∷ from) onto (leave v a)

  pub bd_to : {from between onto : List Level} {a : Act} {f : How → Act} → Bounds from between a → ((how : How) → Bounds between onto (f how)) → Bounds from onto (to a f)
  bd_to bd_ret each = each _
  bd_to bd_stop each = bd_stop
  bd_to (bd_perform fits own next) each = bd_perform fits own (λ answer walked. bd_to (next answer walked) each)
  bd_to (bd_begin rest) each = bd_begin (bd_to rest each)
  bd_to (bd_close rest) each = bd_close (bd_to rest each)
  bd_to (bd_enter fits has next) each = bd_enter fits has (λ activation. bd_to (next activation) each)
  bd_to (bd_leave rest) each = bd_leave (bd_to rest each)
