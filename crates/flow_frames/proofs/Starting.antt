-- What begins with an expression or an operation, and goes on with what follows a part of a statement.
use Rattle.std.proofs.Common.{◌≡◌, Result, Ok, Err, ap, ◌∙◌}
use Rattle.std.specs.Prelude.{IfOk}
use Rattle.prov_base.specs.declared.place.Pos.{Pos}
use Rattle.py_tree.specs.Tree.{FormTree, ScriptTree}
use Rattle.py_value.specs.Contents.{Contents}
use Rattle.py_model.specs.Act.{Act}
use Rattle.py_model.specs.Expressions.{Here, Task}
use Rattle.flow_frames.specs.Machine.{Stage, Part, part, then_act}

pub if_more : {T E : Type 0} (r : Result T E) (P Q : T → Type 0) → ((x : T) → P x → Q x) → IfOk r P → IfOk r Q
if_more (Ok x) P Q more holds = more x holds
if_more (Err e) P Q more holds = holds

pub starts_as : (script : ScriptTree) (next : Task → Act) (here : Here) (a : Act) (K : (Contents → Act) → Act) (g : Act) (p : Part) (at : Pos) (form : FormTree) (stage : Stage)
    → p ≡ part at form stage → K (then_act script next here at form stage) ≡ g → a ≡ K (then_act script next here p.at p.form p.stage) → a ≡ g
starts_as script next here a K g p at form stage same opens means = means ∙ ap (λ p. K (then_act script next here p.at p.form p.stage)) same ∙ opens
