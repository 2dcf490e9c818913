-- What an end is handed to: the innermost frame, at its own place; or nothing waits any more.
use Rattle.std.specs.Prelude.{◌≡◌, [], map, Option, Some, None}
use Rattle.py_tree.specs.Tree.{ScriptTree}
use Rattle.py_value.specs.Values.{ValuesView}
use Rattle.py_model.specs.Act.{Act, How, ret, to}
use Rattle.py_model.specs.Expressions.{Task}
use Rattle.flow_frames.specs.Held.{IsHeldWaits, IsHeldFlow}
use Rattle.flow_frames.specs.Machine.{flow, ended, waits_act, resumes, remaining}
use Rattle.flow_frames.specs.Seen.{here_seen, waits_seen, frame_seen}
use Rattle.flow_frames.specs.declared.frames.FlowFrames.{FlowFrames}
use Rattle.flow_frames.specs.declared.frames.Waits.{Waits}

-- an end at any place means what waits, at its place, and then what waits around it
abbrev pub IsPopped : FlowFrames → FlowFrames → Option Waits → Type 0
IsPopped before after None = before.below.items ≡ []
IsPopped before after (Some waits) = (script : ScriptTree) (next : Task → Act) (table : ValuesView) (how : How)
    → remaining script next (flow (here_seen script table before.spot) (ended how) (map (frame_seen script table) before.below.items))
    ≡ to (waits_act script next (here_seen script table after.spot) (waits_seen table waits) how) (resumes script next (map (frame_seen script table) after.below.items) (λ how. ret how))

-- what was held is held, and so is what waited
abbrev pub HoldsPopped : ValuesView → FlowFrames → Option Waits → Type 0
HoldsPopped table after None = IsHeldFlow table after
HoldsPopped table after (Some waits) = IsHeldFlow table after × IsHeldWaits table after.spot.scope waits
