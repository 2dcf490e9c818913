-- What a flow and its parts are, read on the pure tree and with the contents of their values.
use Rattle.std.specs.Prelude.{List, map, Some, None}
use Rattle.py_tree.specs.declared.stmt.Stmt.{Stmt}
use Rattle.py_tree.specs.Erasure.{form_of, stmt_of, suite_list}
use Rattle.py_tree.specs.Tree.{SuiteTree}
use Rattle.py_value.specs.Contents.{contents}
use Rattle.py_value.specs.Values.{ValuesView}
use Rattle.py_model.specs.Act.{How, normal, broke, continued, returned, threw}
use Rattle.interp_eval.specs.Seen.{machine_seen}
use Rattle.flow_frames.specs.Codes.{code_number, code_value, code_want}
use Rattle.flow_frames.specs.Machine.{Goal, finishes, turns, breaks, Stage, valued, tested, answered, done, body, failed, stores, holder, at_index, stored, unpacked, spreads, sized, turn, item, repeats, owner, key, based, slotted, loaded, sided, changed, entered, named, inside, closes, handler, sought, matched, catches, handles, Part, part, Callee, a_function, a_class, Work, evaluates, operation, calls, Now, in_suite, opens, gives, ended, Waits, a_stmt, a_part, a_call, Frame, frame, Flow, flow}
use Rattle.std.specs.Option.{option_map}
use Rattle.py_tree.specs.Tree.{ScriptTree}
use Rattle.py_model.specs.Expressions.{Here}
use Rattle.script_names.specs.Scopes.{function_in}
use Rattle.flow_frames.specs.declared.frames.Spot.{Spot}
use Rattle.flow_frames.specs.declared.frames.Waits.{Waits as WaitsRefs}
use Rattle.flow_frames.specs.declared.frames.Waits.TheVariants.{Stmt as StmtWaits, Part as PartWaits}
use Rattle.flow_frames.specs.declared.frames.Frame.{Frame as FrameRefs}
use Rattle.flow_frames.specs.declared.frames.FlowFrames.{FlowFrames}
use Rattle.flow_frames.specs.declared.control.End.{End}
use Rattle.flow_frames.specs.declared.control.End.TheVariants.{Normal, Broke, Continued, Returned, Threw}
use Rattle.flow_frames.specs.declared.control.Goal.{Goal as GoalCode}
use Rattle.flow_frames.specs.declared.control.Goal.TheVariants.{Finishes, Turns, Breaks}
use Rattle.flow_frames.specs.declared.control.Stage.{Stage as StageCode}
use Rattle.flow_frames.specs.declared.control.Stage.TheVariants.{Valued, Tested, Answered, Done, Body, Failed, Stores, Holder, Index, Stored, Unpacked, Spreads, Sized, Turn, Item, Repeats, Owner, Key, Based, Slotted, Loaded, Sided, Changed, Entered, Named, Inside, Closes, Handler, Sought, Matched, Catches, Handles}
use Rattle.flow_frames.specs.declared.control.Part.{Part as PartRefs}
use Rattle.flow_frames.specs.declared.control.Callee.{Callee as CalleeCode}
use Rattle.flow_frames.specs.declared.control.Callee.TheVariants.{Function, Class}
use Rattle.flow_frames.specs.declared.control.Work.{Work as WorkRefs}
use Rattle.flow_frames.specs.declared.control.Work.TheVariants.{Evaluates, Operation, Calls}
use Rattle.flow_frames.specs.declared.control.Now.{Now as NowRefs}
use Rattle.flow_frames.specs.declared.control.Now.TheVariants.{InSuite, Opens, Gives, Ended}

abbrev pub stmts_seen : List Stmt → SuiteTree
stmts_seen ss = suite_list (map stmt_of ss)

abbrev pub end_seen : ValuesView → End → How
end_seen table Normal = normal
end_seen table Broke = broke
end_seen table Continued = continued
end_seen table (Returned v) = returned (contents table v)
end_seen table (Threw o line) = threw o line

abbrev pub goal_seen : ValuesView → GoalCode → Goal
goal_seen table Finishes = finishes
goal_seen table (Turns items n size) = turns (contents table items) n (contents table size)
goal_seen table (Breaks n) = breaks n

abbrev pub stage_seen : ValuesView → StageCode → Stage
stage_seen table Valued = valued
stage_seen table (Tested n) = tested n
stage_seen table (Answered n) = answered n
stage_seen table Done = done
stage_seen table Body = body
stage_seen table Failed = failed
stage_seen table (Stores goal v) = stores (goal_seen table goal) (contents table v)
stage_seen table (Holder goal v) = holder (goal_seen table goal) (contents table v)
stage_seen table (Index goal v o) = at_index (goal_seen table goal) (contents table v) (contents table o)
stage_seen table (Stored goal) = stored (goal_seen table goal)
stage_seen table (Unpacked goal) = unpacked (goal_seen table goal)
stage_seen table (Spreads goal n v) = spreads (goal_seen table goal) n (contents table v)
stage_seen table (Sized items) = sized (contents table items)
stage_seen table (Turn items n size) = turn (contents table items) n (contents table size)
stage_seen table (Item items n size) = item (contents table items) n (contents table size)
stage_seen table (Repeats items n size) = repeats (contents table items) n (contents table size)
stage_seen table Owner = owner
stage_seen table (Key o) = key (contents table o)
stage_seen table Based = based
stage_seen table (Slotted o) = slotted (contents table o)
stage_seen table (Loaded o i) = loaded (contents table o) (contents table i)
stage_seen table (Sided o i w) = sided (contents table o) (contents table i) (contents table w)
stage_seen table (Changed o i) = changed (contents table o) (contents table i)
stage_seen table Entered = entered
stage_seen table (Named v) = named (contents table v)
stage_seen table (Inside v) = inside (contents table v)
stage_seen table (Closes how) = closes (end_seen table how)
stage_seen table (Handler n o line) = handler n o line
stage_seen table (Sought n o line) = sought n o line
stage_seen table (Matched n o line) = matched n o line
stage_seen table (Catches n o) = catches n o
stage_seen table (Handles n o) = handles n o

abbrev pub part_seen : ValuesView → PartRefs → Part
part_seen table p = part p.stmt.now.pos (form_of p.stmt.now.form.value) (stage_seen table p.stage)

abbrev pub callee_seen : ValuesView → CalleeCode → Callee
callee_seen table (Function place) = a_function place
callee_seen table (Class of) = a_class (contents table of)

abbrev pub work_seen : ValuesView → WorkRefs → Work
work_seen table (Evaluates frames) = evaluates (machine_seen table frames)
work_seen table (Operation at code values) = operation at (code_number code) (code_want code) (code_value code) (map (contents table) values.items)
work_seen table (Calls caller at callee values) = calls (machine_seen table caller.value.eval) (option_map (contents table) caller.value.made) at (callee_seen table callee) (map (contents table) values)

abbrev pub now_seen : ValuesView → NowRefs → Now
now_seen table (InSuite ss) = in_suite (stmts_seen ss.now)
now_seen table (Opens p) = opens (part_seen table p)
now_seen table (Gives g) = gives (work_seen table g.value.work) (part_seen table g.value.part)
now_seen table (Ended how) = ended (end_seen table how)

abbrev pub here_seen : ScriptTree → ValuesView → Spot → Here
here_seen script table spot = record {
  activation = spot.scope.activation;
  function = function_in script spot.scope.function;
  open_activations = spot.open_activations;
  handled = spot.handled;
  in_class = option_map (contents table) spot.in_class;
  line = spot.line;
}

abbrev pub waits_seen : ValuesView → WaitsRefs → Waits
waits_seen table (StmtWaits number rest) = a_stmt number (stmts_seen rest.now)
waits_seen table (PartWaits None p) = a_part (part_seen table p)
waits_seen table (PartWaits (Some caller) p) = a_call (machine_seen table caller.value.eval) (option_map (contents table) caller.value.made) (part_seen table p)

abbrev pub frame_seen : ScriptTree → ValuesView → FrameRefs → Frame
frame_seen script table f = frame (here_seen script table f.spot) (waits_seen table f.waits)

abbrev pub flow_seen : ScriptTree → ValuesView → FlowFrames → Flow
flow_seen script table frames = flow (here_seen script table frames.spot) (now_seen table frames.now) (map (frame_seen script table) frames.below.items)
