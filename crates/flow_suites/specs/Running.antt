-- What a part of a statement is opened as.
use Rattle.std.specs.Prelude.{◌≡◌}
use Rattle.py_tree.specs.Erasure.{form_of}
use Rattle.py_tree.specs.Tree.{ScriptTree}
use Rattle.py_value.specs.Values.{ValuesView, Keeps}
use Rattle.py_model.specs.Act.{Act, to}
use Rattle.py_model.specs.Expressions.{Task}
use Rattle.flow_frames.specs.Held.{IsHeldClass, IsHeldNow}
use Rattle.flow_frames.specs.Machine.{now_act, open_act, suite_ended}
use Rattle.flow_frames.specs.Seen.{here_seen, now_seen, stage_seen}
use Rattle.flow_frames.specs.declared.control.Part.{Part}
use Rattle.flow_frames.specs.declared.frames.Spot.{Spot}
use Rattle.flow_frames.specs.declared.control.Now.{Now}
use Rattle.flow_suites.specs.declared.running.Way.{Way}
use Rattle.flow_suites.specs.declared.running.Way.TheVariants.{Becomes, Runs}

-- it is done now and means the same; or it is done at another spot, and the part waits for its end: so by all texts and tuples that have these
-- with their numbers
abbrev pub OpensBy : ValuesView → Part → Spot → Now → Way → Type 0
OpensBy own p spot now Becomes = (script : ScriptTree) (next : Task → Act) (table : ValuesView) → Keeps own.texts table.texts → Keeps own.tuples table.tuples
    → now_act script next (here_seen script table spot) (now_seen table now) ≡ open_act script next (here_seen script table spot) p.stmt.now.pos (form_of p.stmt.now.form.value) (stage_seen table p.stage)
OpensBy own p spot now (Runs inner) = (script : ScriptTree) (next : Task → Act) (table : ValuesView) → Keeps own.texts table.texts → Keeps own.tuples table.tuples
    → to (now_act script next (here_seen script table inner) (now_seen table now)) (suite_ended script next next (here_seen script table spot) p.stmt.now.pos (form_of p.stmt.now.form.value) (stage_seen table p.stage))
    ≡ open_act script next (here_seen script table spot) p.stmt.now.pos (form_of p.stmt.now.form.value) (stage_seen table p.stage)

abbrev pub HoldsOpened : ValuesView → Spot → Now → Way → Type 0
HoldsOpened table spot now Becomes = IsHeldNow table spot.scope now
HoldsOpened table spot now (Runs inner) = IsHeldNow table inner.scope now × IsHeldClass table inner.in_class
