-- No public clause cites this file.
-- How an evaluation goes on with the value of an operation, and how a value is given to the node around the
-- innermost one.
use Rattle.std.specs.Prelude.{◌≡◌, List, [], ◌∷◌, ◌++◌, map, Option, Result, Ok, Err, ⊤}
use Rattle.prov_base.specs.declared.place.Pos.{Pos}
use Rattle.py_tree.specs.Tree.{ScriptTree}
use Rattle.py_model.specs.Act.{Act, Walked, ret, normal}
use Rattle.py_model.specs.Expressions.{Here, Task}
use Rattle.py_value.specs.Contents.{Contents, contents}
use Rattle.interp_eval.specs.declared.turn.After.{After}
use Rattle.interp_eval.specs.Turns.{after_seen}
use Rattle.py_value.specs.Values.{ValuesView, IsNamed}
use Rattle.py_value.specs.declared.value.Value.{Value}
use Rattle.interp_eval.specs.declared.frames.EvalFrames.{EvalFrames}
use Rattle.interp_eval.specs.declared.frames.EvalNext.{EvalNext}
use Rattle.interp_eval.specs.declared.frames.EvalNext.TheVariants.{More, Value as TheValue, Ended}
use Rattle.interp_eval.specs.Held.{AreHeld}
use Rattle.interp_eval.specs.Machine.{machine, Waiting, first_of, follows, goes, remains}
use Rattle.interp_eval.specs.Seen.{machine_seen, waiting_seen}

-- the node around has one more value
pub record IsGiven (value : Value) (before after : EvalFrames) (table : ValuesView) : Type 0 where
  pub frame : Waiting
  pub above : List Waiting
  pub was : map (waiting_seen table) before.below.items ≡ above ++ frame ∷ []
  pub is : machine_seen table after ≡ machine frame.node (frame.have ++ contents table value ∷ []) above
  pub held : AreHeld table before → IsNamed table value → AreHeld table after

abbrev pub IsDelivered : {E : Type 0} → Value → EvalFrames → EvalFrames → Result EvalNext E → Type 0
IsDelivered value before after (Ok More) = (table : ValuesView) → IsGiven value before after table
IsDelivered value before after (Ok (TheValue v)) = (v ≡ value) × (before.below.items ≡ [])
IsDelivered value before after (Ok other) = ⊥
IsDelivered value before after (Err want) = ⊤

abbrev pub following : After → Value → EvalFrames → ScriptTree → (Task → Act) → Here → (Contents → Act) → ValuesView → Walked → Act
following what v before script next here go table came =
    follows script next here before.top.node.at (first_of (map (contents table) before.top.have.items)) (after_seen what)
    (goes script next here (map (waiting_seen table) before.below.items) go) came (contents table v)

-- What remains is what follows the operation, with its value and the method that its walk found.
abbrev pub GoesOn : {E : Type 0} → After → Value → Option Pos → EvalFrames → EvalFrames → ScriptTree → (Task → Act) → Here → (Contents → Act) → ValuesView → Walked → Result EvalNext E → Type 0
GoesOn what v method before after script next here go table came (Ok More) =
    remains script next here (machine_seen table after) go ≡ following what v before script next here go table came
GoesOn what v method before after script next here go table came (Ok (TheValue w)) = go (contents table w) ≡ following what v before script next here go table came
GoesOn what v method before after script next here go table came (Ok Ended) = ret normal ≡ following what v before script next here go table came
GoesOn what v method before after script next here go table came (Ok other) = ⊥
GoesOn what v method before after script next here go table came (Err want) = ⊤

abbrev pub HasGoneOn : {E : Type 0} → After → Value → Option Pos → EvalFrames → EvalFrames → Result EvalNext E → Type 0
HasGoneOn what v method before after result =
    (script : ScriptTree) (next : Task → Act) (here : Here) (go : Contents → Act) (table : ValuesView) (came : Walked) → came.method ≡ method
    → GoesOn what v method before after script next here go table came result
