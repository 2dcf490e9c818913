-- What is still to be done of a script that is being run, in the words of its meaning (The Python Language Reference 3, sections 7 and 8, in
-- this project's profile): what is done now, and what waits for its end. A part of a statement is named by its form and a stage.
use Rattle.std.specs.Prelude.{ℕ, zero, suc, Bool, true, false, List, [], ◌∷◌, Option, Some, None}
use Rattle.prov_base.specs.declared.place.Pos.{Pos}
use Rattle.py_tree.specs.declared.expr.BinOp.{BinOp}
use Rattle.py_tree.specs.declared.stmt.Bound.{Bound}
use Rattle.py_tree.specs.Tree.{ExprTree, FormTree, SuiteTree, BranchesTree, HandlersTree, TargetTree, TargetsTree, ScriptTree, end_targets, more_targets, var_target, part_target, field_target, many_target, assign_form, aug_form, del_form, return_form, raise_form, assert_form, if_form, while_form, for_form, try_form, with_form, class_form, end_branches, more_branches, end_handlers, more_handlers}
use Rattle.py_value.specs.Contents.{Contents, Parts, nothing, function, object}
use Rattle.py_model.specs.Act.{Act, How, ret, close, to, ending, normal, broke, returned, threw}
use Rattle.py_model.specs.Expressions.{Here, Task, while_again, for_again, by_truth, doing, walking, failing, wrong_arguments, op, op_named, op_scoped, left_with, calling_function, eval}
use Rattle.py_tree.specs.Functions.{expr_place, function_at}
use Rattle.py_model.specs.Operations.{Op}
use Rattle.py_model.specs.Statements.{suite, augmented_number, parts_in, rest_of, store, store_all, choose, otherwise, handle, caught, turned, then_so, binding, unbinding, handling, in_class_of, failed_assert, while_turn, for_turn, class_body}
use Rattle.interp_eval.specs.Machine.{Machine, Want, wanted_op, machine, node, gives_one, node_for, remains}

-- What follows a value that is stored in a target: the end of the statement; the suite of a turn of a `for`, with its items, the number of the turns
-- before it, and their size; or, where the target is the one of several with a number, a jump to the next of these.
pub data Goal : Type 0 where
  finishes : Goal
  turns : Contents → ℕ → Contents → Goal
  breaks : ℕ → Goal

-- How far a statement is. A stage has the values that are held until its end: of a target its container and its index, of a `for` its
-- items, turns and size, of a handler its number and the exception.
pub data Stage : Type 0 where
  -- the value of its expression is awaited; that of a test by its number; the answer whether that is true
  valued : Stage
  tested : ℕ → Stage
  answered : ℕ → Stage
  -- the answer of its last operation is awaited; its suite is next; the message of a failed assertion is awaited
  done : Stage
  body : Stage
  failed : Stage
  -- a value is to be stored; the container of its target is awaited; the index; the answer of the operation that stores it
  stores : Goal → Contents → Stage
  holder : Goal → Contents → Stage
  at_index : Goal → Contents → Contents → Stage
  stored : Goal → Stage
  -- a value is taken apart for several targets; what it is taken apart into is stored from the target with a number on
  unpacked : Goal → Stage
  spreads : Goal → ℕ → Contents → Stage
  -- of a `for` the size is awaited; a turn is next; its item is awaited; its suite is next
  sized : Contents → Stage
  turn : Contents → ℕ → Contents → Stage
  item : Contents → ℕ → Contents → Stage
  repeats : Contents → ℕ → Contents → Stage
  -- the container of a target is awaited, with no value yet to be stored; its index
  owner : Stage
  key : Contents → Stage
  -- of an augmented assignment the container of its target is awaited; its index; what stands there, the container and the index held, None
  -- where there is none; the value of its right side, for what stood there; the new value
  based : Stage
  slotted : Contents → Stage
  loaded : Contents → Contents → Stage
  sided : Contents → Contents → Contents → Stage
  changed : Contents → Contents → Stage
  -- the file of a `with` is awaited, or a class; what the name of a `with` was bound to; the suite of one is next
  entered : Stage
  named : Contents → Stage
  inside : Contents → Stage
  -- an operation after an end is awaited
  closes : How → Stage
  -- the handler with a number is next, for an exception of a line; its class is awaited; the answer whether the exception is of it; that
  -- of its binding; its suite is next
  handler : ℕ → ℕ → ℕ → Stage
  sought : ℕ → ℕ → ℕ → Stage
  matched : ℕ → ℕ → ℕ → Stage
  catches : ℕ → ℕ → Stage
  handles : ℕ → ℕ → Stage

-- a statement from a stage on: its place and its form
pub record Part : Type 0 where
  pub at : Pos
  pub form : FormTree
  pub stage : Stage

abbrev pub part : Pos → FormTree → Stage → Part
part at form stage = record { at = at; form = form; stage = stage }

-- an operation with the text and the value that it names
abbrev pub flow_op : Here → ℕ → Want → Contents → Op
flow_op here number want v = record (wanted_op here number want) { value = v }

-- what is called: a function by its place; or a class or an exception class, of which an object is made
pub data Callee : Type 0 where
  a_function : Pos → Callee
  a_class : Contents → Callee

-- What gives a value: an expression that is being evaluated, an operation on values, or a call at a place that an expression waits for, with
-- the object that was made for it, which is then its value.
pub data Work : Type 0 where
  evaluates : Machine → Work
  operation : Pos → ℕ → Want → Contents → List Contents → Work
  calls : Machine → Option Contents → Pos → Callee → List Contents → Work

-- What is done now: the statements of a suite, a part of a statement, what gives a value with the part that follows it; or the end.
pub data Now : Type 0 where
  in_suite : SuiteTree → Now
  opens : Part → Now
  gives : Work → Part → Now
  ended : How → Now

-- What waits for an end: a statement by its number with the rest of its suite, a part of a statement, and the caller of a function with
-- the object that was made for it and the part that follows the value of its expression.
pub data Waits : Type 0 where
  a_stmt : ℕ → SuiteTree → Waits
  a_part : Part → Waits
  a_call : Machine → Option Contents → Part → Waits

-- an expression whose call has this value: the operation `give` is next
abbrev pub given_to : Machine → Contents → Machine
given_to m v = machine (node m.top.node.at (gives_one v) []) m.top.have m.below

-- each with the place where it stands
pub record Frame : Type 0 where
  pub here : Here
  pub waits : Waits

-- what is done now and where, and what waits, the outermost first
pub record Flow : Type 0 where
  pub here : Here
  pub now : Now
  pub below : List Frame

abbrev pub flow : Here → Now → List Frame → Flow
flow here now below = record { here = here; now = now; below = below }

abbrev pub frame : Here → Waits → Frame
frame here waits = record { here = here; waits = waits }

-- the branches of an `if` from a number on
abbrev pub branches_from : ℕ → BranchesTree → BranchesTree
branches_from zero branches = branches
branches_from (suc n) end_branches = end_branches
branches_from (suc n) (more_branches test run rest) = branches_from n rest

-- the test with a number
abbrev pub first_test : BranchesTree → Option ExprTree
first_test end_branches = None
first_test (more_branches test run rest) = Some test

abbrev pub test_of : FormTree → ℕ → Option ExprTree
test_of (if_form branches other) n = first_test (branches_from n branches)
test_of (while_form test run) n = Some test
test_of (assert_form test message) n = Some test
test_of form n = None

-- the target of a statement
abbrev pub target_in : FormTree → Option TargetTree
target_in (assign_form target e) = Some target
target_in (aug_form target sign place e) = Some target
target_in (del_form target) = Some target
target_in (for_form target e run) = Some target
target_in form = None

-- several targets from a number on, and items so
abbrev pub targets_from : ℕ → TargetsTree → TargetsTree
targets_from zero targets = targets
targets_from (suc n) end_targets = end_targets
targets_from (suc n) (more_targets target rest) = targets_from n rest

abbrev pub parts_from : ℕ → Parts → Parts
parts_from zero items = items
parts_from (suc n) items = parts_from n (rest_of items)

abbrev pub first_target : TargetsTree → Option TargetTree
first_target end_targets = None
first_target (more_targets target rest) = Some target

-- the targets of a statement, where it has several; the one with a number
abbrev pub many_of : Option TargetTree → Option TargetsTree
many_of (Some (many_target targets)) = Some targets
many_of target = None

abbrev pub nth_target : ℕ → Option TargetsTree → Option TargetTree
nth_target n None = None
nth_target n (Some targets) = first_target (targets_from n targets)

-- the target of a value that is stored: that of the statement, or one of several
abbrev pub goal_target : Goal → FormTree → Option TargetTree
goal_target finishes form = target_in form
goal_target (turns items n size) form = target_in form
goal_target (breaks n) form = nth_target n (many_of (target_in form))

-- the several targets that what a value is taken apart into is stored in: those of the statement alone
abbrev pub several_in : Goal → FormTree → Option TargetsTree
several_in finishes form = many_of (target_in form)
several_in (turns items n size) form = many_of (target_in form)
several_in (breaks n) form = None

-- an augmented assignment: its target, its operator with the place, and its right side
pub record Change : Type 0 where
  pub target : TargetTree
  pub sign : BinOp
  pub place : Pos
  pub right : ExprTree

abbrev pub change : TargetTree → BinOp → Pos → ExprTree → Change
change target sign place right = record { target = target; sign = sign; place = place; right = right }

abbrev pub change_in : FormTree → Option Change
change_in (aug_form target sign place e) = Some (change target sign place e)
change_in form = None

-- the name after the `as` of a `with`
abbrev pub bound_in : FormTree → Option Bound
bound_in (with_form e bound run) = bound
bound_in form = None

-- the suite of a statement that has one
abbrev pub suite_in : FormTree → Option SuiteTree
suite_in (while_form test run) = Some run
suite_in (for_form target e run) = Some run
suite_in (try_form run handlers) = Some run
suite_in (with_form e bound run) = Some run
suite_in (class_form name base run) = Some run
suite_in form = None

-- the handlers of a `try` from a number on, and the first of some
abbrev pub handlers_in : FormTree → HandlersTree
handlers_in (try_form run handlers) = handlers
handlers_in form = end_handlers

abbrev pub handlers_from : ℕ → HandlersTree → HandlersTree
handlers_from zero handlers = handlers
handlers_from (suc n) end_handlers = end_handlers
handlers_from (suc n) (more_handlers kind bound run rest) = handlers_from n rest

pub record Handler : Type 0 where
  pub kind : Option ExprTree
  pub bound : Option Bound
  pub run : SuiteTree

abbrev pub first_handler : HandlersTree → Option Handler
first_handler end_handlers = None
first_handler (more_handlers kind bound run rest) = Some (record { kind = kind; bound = bound; run = run })

abbrev pub handler_in : FormTree → ℕ → Option Handler
handler_in form n = first_handler (handlers_from n (handlers_in form))

-- where the suite of a stage stands
abbrev pub inside_here : FormTree → Contents → Here → Here
inside_here (class_form name base run) v here = in_class_of v here
inside_here form v here = here

abbrev pub inner_here : FormTree → Stage → Here → Here
inner_here form (inside v) here = inside_here form v here
inner_here form (handles n o) here = handling o here
inner_here form stage here = here

module _ (script : ScriptTree) (next : Task → Act) where
  abbrev pub first_suite : Here → BranchesTree → Act
  first_suite here end_branches = ret normal
  first_suite here (more_branches test run rest) = suite script next here run

  abbrev pub others : Here → BranchesTree → Act → Act
  others here end_branches other = ret normal
  others here (more_branches test run rest) other = choose script next here rest other

  -- what a statement does where its test with a number is true, and where it is not
  abbrev pub when_true : Here → FormTree → ℕ → Act
  when_true here (if_form branches other) n = first_suite here (branches_from n branches)
  when_true here (while_form test run) n = to (suite script next here run) (turned (next (while_again here test run)))
  when_true here form n = ret normal

  abbrev pub when_false : Here → Pos → FormTree → ℕ → Act
  when_false here at (if_form branches other) n = others here (branches_from n branches) (otherwise script next here other)
  when_false here at (assert_form test message) n = failed_assert script next here at message
  when_false here at form n = ret normal

  -- a suite; that of a handler
  abbrev pub suite_act : Here → Option SuiteTree → Act
  suite_act here None = ret normal
  suite_act here (Some run) = suite script next here run

  abbrev pub handled_act : Here → Option Handler → Act
  handled_act here None = ret normal
  handled_act here (Some h) = suite script next here h.run

  abbrev pub stage_act : Here → FormTree → Stage → Act
  stage_act here form (handles n o) = handled_act here (handler_in form n)
  stage_act here form stage = suite_act here (suite_in form)

  -- What a statement does when the suite of its stage has ended so. A further turn of a loop goes on with what such a task is.
  abbrev pub body_ended : (Task → Act) → Here → Pos → FormTree → How → Act
  body_ended again here at (while_form test run) how = turned (again (while_again here test run)) how
  body_ended again here at (try_form run handlers) how = caught script next (handle script next here at handlers) how
  body_ended again here at form how = ret how

  abbrev pub turn_ended : (Task → Act) → Here → Pos → FormTree → Contents → ℕ → Contents → How → Act
  turn_ended again here at (for_form target e run) items n size how = turned (again (for_again here at target run items (suc n) size)) how
  turn_ended again here at form items n size how = ret how

  abbrev pub inside_ended : Here → Pos → FormTree → Contents → How → Act
  inside_ended here at (with_form e bound run) v how = doing here at (op 45) (v ∷ []) (λ done. ret how)
  inside_ended here at (class_form name base run) v how = then_so (doing here at (op_scoped 33 here name) (v ∷ []) (λ done. ret normal)) how
  inside_ended here at form v how = ret how

  abbrev pub handled_end : Here → Option Handler → How → Act
  handled_end here None how = ret how
  handled_end here (Some h) how = unbinding here h.bound (ret how)

  -- what follows a value that was stored
  abbrev pub goal_act : Here → Pos → Goal → FormTree → Act
  goal_act here at finishes form = ret normal
  goal_act here at (turns items n size) form = to (suite_act here (suite_in form)) (turn_ended next here at form items n size)
  goal_act here at (breaks n) form = ret broke

  -- what a value was taken apart into is stored in several targets from a number on; one of these has its item
  abbrev pub spread_act : Here → Pos → FormTree → Goal → Option TargetsTree → ℕ → Contents → Act
  spread_act here at form goal (Some targets) n v = store_all script next here at (targets_from n targets) (parts_from n (parts_in v)) (goal_act here at goal form)
  spread_act here at form goal None n v = ret normal

  abbrev pub spread_ended : Here → Pos → FormTree → Goal → ℕ → Contents → How → Act
  spread_ended here at form goal n v broke = spread_act here at form goal (several_in goal form) (suc n) v
  spread_ended here at form goal n v how = ret how

  abbrev pub suite_ended : (Task → Act) → Here → Pos → FormTree → Stage → How → Act
  suite_ended again here at form body how = body_ended again here at form how
  suite_ended again here at form (repeats items n size) how = turn_ended again here at form items n size how
  suite_ended again here at form (inside v) how = inside_ended here at form v how
  suite_ended again here at form (handles n o) how = handled_end here (handler_in form n) how
  suite_ended again here at form (spreads goal n v) how = spread_ended here at form goal n v how
  suite_ended again here at form stage how = ret how

  -- the suite of a stage, and what follows it
  abbrev pub runs_act : Here → Pos → FormTree → Stage → Act
  runs_act here at form stage = to (stage_act (inner_here form stage here) form stage) (suite_ended next here at form stage)

  -- a turn of a `for`
  abbrev pub turn_act : Here → Pos → FormTree → Contents → ℕ → Contents → Act
  turn_act here at (for_form target e run) items n size =
      for_turn script next here at target (suite script next here run) items n size (next (for_again here at target run items (suc n) size))
  turn_act here at form items n size = ret normal

  -- a value is stored in the target of a statement; its container is there; its index is there
  abbrev pub stored_act : Here → Pos → FormTree → Goal → Option TargetTree → Contents → Act
  stored_act here at form goal None v = ret normal
  stored_act here at form goal (Some target) v = store script next here at target v (goal_act here at goal form)

  abbrev pub holder_act : Here → Pos → FormTree → Goal → Option TargetTree → Contents → Contents → Act
  holder_act here at form goal (Some (part_target place e index)) v o =
      eval script next here index (λ i. doing here place (op 28) (o ∷ i ∷ v ∷ []) (λ done. goal_act here at goal form))
  holder_act here at form goal (Some (field_target place e name)) v o = doing here place (op_named 31 name) (o ∷ v ∷ []) (λ done. goal_act here at goal form)
  holder_act here at form goal target v o = ret normal

  abbrev pub index_act : Here → Pos → FormTree → Goal → Option TargetTree → Contents → Contents → Contents → Act
  index_act here at form goal (Some (part_target place e index)) v o i = doing here place (op 28) (o ∷ i ∷ v ∷ []) (λ done. goal_act here at goal form)
  index_act here at form goal target v o i = ret normal

  -- the container of what is deleted is there; its index is there
  abbrev pub owner_act : Here → Option TargetTree → Contents → Act
  owner_act here (Some (part_target place e index)) o = eval script next here index (λ i. doing here place (op 29) (o ∷ i ∷ []) (λ done. ret normal))
  owner_act here target o = ret normal

  abbrev pub key_act : Here → Option TargetTree → Contents → Contents → Act
  key_act here (Some (part_target place e index)) o i = doing here place (op 29) (o ∷ i ∷ []) (λ done. ret normal)
  key_act here target o i = ret normal

  -- The new value of an augmented assignment is stored. A container and an index that the target has not are None.
  abbrev pub set_act : Here → TargetTree → Contents → Contents → Contents → Act
  set_act here (var_target place name) o i v = doing here place (op_scoped 33 here name) (v ∷ []) (λ done. ret normal)
  set_act here (part_target place e index) o i v = doing here place (op 28) (o ∷ i ∷ v ∷ []) (λ done. ret normal)
  set_act here (field_target place e name) o i v = doing here place (op_named 31 name) (o ∷ v ∷ []) (λ done. ret normal)
  set_act here (many_target targets) o i v = ret normal

  abbrev pub changed_act : Here → Option Change → Contents → Contents → Contents → Act
  changed_act here None o i v = ret normal
  changed_act here (Some c) o i v = set_act here c.target o i v

  -- the value of the right side is there, for what stood there
  abbrev pub sided_act : Here → Option Change → Contents → Contents → Contents → Contents → Act
  sided_act here None o i w v = ret normal
  sided_act here (Some c) o i w v = doing here c.place (op (augmented_number c.sign)) (w ∷ v ∷ []) (set_act here c.target o i)

  -- what stands there is loaded
  abbrev pub loaded_act : Here → Option Change → Contents → Contents → Contents → Act
  loaded_act here None o i w = ret normal
  loaded_act here (Some c) o i w = eval script next here c.right (λ v. doing here c.place (op (augmented_number c.sign)) (w ∷ v ∷ []) (set_act here c.target o i))

  -- the container and the index are there, and what stands there is loaded
  abbrev pub load_of : Here → TargetTree → Contents → Contents → (Contents → Act) → Act
  load_of here (var_target place name) o i go = doing here place (op_scoped 1 here name) [] go
  load_of here (part_target place e index) o i go = doing here place (op 26) (o ∷ i ∷ []) go
  load_of here (field_target place e name) o i go = doing here place (op_named 30 name) (o ∷ []) go
  load_of here (many_target targets) o i go = ret normal

  abbrev pub slotted_act : Here → Option Change → Contents → Contents → Act
  slotted_act here None o i = ret normal
  slotted_act here (Some c) o i = load_of here c.target o i (loaded_act here (Some c) o i)

  -- the container is there
  abbrev pub based_of : Here → Change → TargetTree → Contents → Act
  based_of here c (part_target place e index) o = eval script next here index (λ i. slotted_act here (Some c) o i)
  based_of here c (field_target place e name) o = slotted_act here (Some c) o nothing
  based_of here c target o = ret normal

  abbrev pub based_act : Here → Option Change → Contents → Act
  based_act here None o = ret normal
  based_act here (Some c) o = based_of here c c.target o

  -- the file of a `with` is bound; and its suite or that of a class
  abbrev pub entered_act : Here → Pos → FormTree → Contents → Act
  entered_act here at form v = binding here (bound_in form) v (runs_act here at form (inside v))

  -- the value of the expression of a statement
  abbrev pub valued_act : Here → Pos → FormTree → Contents → Act
  valued_act here at (assign_form target e) v = store script next here at target v (ret normal)
  valued_act here at (return_form e) v = ret (returned v)
  valued_act here at (raise_form e) v = doing here at (op 40) (v ∷ []) (λ done. ret normal)
  valued_act here at (for_form target e run) v = doing here at (op 36) (v ∷ []) (λ size. turn_act here at (for_form target e run) v 0 size)
  valued_act here at (with_form e bound run) v = doing here at (op 46) (v ∷ []) (λ file. entered_act here at (with_form e bound run) file)
  valued_act here at (class_form name base run) v = class_body script next here at name (λ of. suite script next (in_class_of of here) run) (v ∷ [])
  valued_act here at form v = ret normal

  abbrev pub test_act : Here → Pos → FormTree → ℕ → Option ExprTree → Contents → Act
  test_act here at form n None v = ret normal
  test_act here at form n (Some test) v = doing here (expr_place test) (op 3) (v ∷ []) (by_truth (when_true here form n) (when_false here at form n))

  -- a handler: its clause; where it does not match
  abbrev pub clause_act : Here → Pos → FormTree → ℕ → ℕ → Option Handler → Act
  clause_act here at form n o None = ret normal
  clause_act here at form n o (Some h) = binding here h.bound (object o) (runs_act here at form (handles n o))

  abbrev pub missed_act : Here → Pos → FormTree → ℕ → ℕ → ℕ → Act
  missed_act here at form n o line = handle script next here at (handlers_from (suc n) (handlers_in form)) o line

  abbrev pub match_act : Here → Pos → FormTree → ℕ → ℕ → ℕ → Contents → Act
  match_act here at form n o line = by_truth (clause_act here at form n o (handler_in form n)) (missed_act here at form n o line)

  -- what follows a value
  abbrev pub then_act : Here → Pos → FormTree → Stage → Contents → Act
  then_act here at form valued v = valued_act here at form v
  then_act here at form (tested n) v = test_act here at form n (test_of form n) v
  then_act here at form (answered n) v = by_truth (when_true here form n) (when_false here at form n) v
  then_act here at form failed v = doing here at (op 47) (v ∷ []) (λ end. ret normal)
  then_act here at form (holder goal u) v = holder_act here at form goal (goal_target goal form) u v
  then_act here at form (at_index goal u o) v = index_act here at form goal (goal_target goal form) u o v
  then_act here at form (stored goal) v = goal_act here at goal form
  then_act here at form (unpacked goal) v = spread_act here at form goal (several_in goal form) 0 v
  then_act here at form (sized items) v = turn_act here at form items 0 v
  then_act here at form (item items n size) v = stored_act here at form (turns items n size) (target_in form) v
  then_act here at form owner v = owner_act here (target_in form) v
  then_act here at form (key o) v = key_act here (target_in form) o v
  then_act here at form based v = based_act here (change_in form) v
  then_act here at form (slotted o) v = slotted_act here (change_in form) o v
  then_act here at form (loaded o i) v = loaded_act here (change_in form) o i v
  then_act here at form (sided o i w) v = sided_act here (change_in form) o i w v
  then_act here at form (changed o i) v = changed_act here (change_in form) o i v
  then_act here at form entered v = entered_act here at form v
  then_act here at form (named file) v = runs_act here at form (inside file)
  then_act here at form (closes how) v = ret how
  then_act here at form (sought n o line) v = doing here at (op 41) (object o ∷ v ∷ []) (match_act here at form n o line)
  then_act here at form (matched n o line) v = match_act here at form n o line v
  then_act here at form (catches n o) v = runs_act here at form (handles n o)
  then_act here at form stage v = ret normal

  -- a statement from a test on
  abbrev pub from_test : Here → FormTree → ℕ → Act
  from_test here (if_form branches other) n = choose script next here (branches_from n branches) (otherwise script next here other)
  from_test here (while_form test run) n = while_turn script next here test (suite script next here run) (next (while_again here test run))
  from_test here form n = ret normal

  -- a part of a statement is opened: a test, a store, a turn, a handler, or a suite; nothing else is opened
  abbrev pub open_act : Here → Pos → FormTree → Stage → Act
  open_act here at form (tested n) = from_test here form n
  open_act here at form (stores goal v) = stored_act here at form goal (goal_target goal form) v
  open_act here at form (spreads goal n v) = spread_act here at form goal (several_in goal form) n v
  open_act here at form (turn items n size) = turn_act here at form items n size
  open_act here at form (handler n o line) = handle script next here at (handlers_from n (handlers_in form)) o line
  open_act here at form body = runs_act here at form body
  open_act here at form (repeats items n size) = runs_act here at form (repeats items n size)
  open_act here at form (inside v) = runs_act here at form (inside v)
  open_act here at form (handles n o) = runs_act here at form (handles n o)
  open_act here at form stage = ret normal

  -- what follows a call: its value is what was made for it, and else what the function returns
  abbrev pub gives_back : Here → Machine → (Contents → Act) → Option Contents → Contents → Act
  gives_back here m go None = λ v. remains script next here (given_to m v) go
  gives_back here m go (Some o) = λ v. remains script next here (given_to m o) go

  -- What follows an object that was made for arguments, with the method that was found. Without one, no argument is taken, but any by an
  -- exception class.
  abbrev pub without_method : Here → Pos → Contents → List Contents → Bool → Act → Act
  without_method here at of values true instance = instance
  without_method here at of [] false instance = instance
  without_method here at of (v ∷ values) false instance = failing here at wrong_arguments (of ∷ v ∷ values)

  abbrev pub made_act : Here → Pos → Contents → List Contents → Contents → Bool → Option Pos → Act → Act
  made_act here at of values o is_exception None instance = without_method here at of values is_exception instance
  made_act here at of values o is_exception (Some init) instance = calling_function script next here at (function init) (function_at script init) (o ∷ values) (λ v. instance)

  -- a call that an expression waits for
  abbrev pub call_act : Here → Machine → Option Contents → Pos → Callee → List Contents → (Contents → Act) → Act
  call_act here m made at (a_function place) values go = calling_function script next here at (function place) (function_at script place) values (gives_back here m go made)
  call_act here m made at (a_class of) values go =
      walking here at (op 39) (of ∷ values) (λ o walked. made_act here at of values o walked.is_exception walked.method (remains script next here (given_to m o) go))

  abbrev pub work_act : Here → Work → (Contents → Act) → Act
  work_act here (evaluates m) go = remains script next here m go
  work_act here (operation at number want v values) go = doing here at (flow_op here number want v) values go
  work_act here (calls m made at callee values) go = call_act here m made at callee values go

  -- what is done now
  abbrev pub now_act : Here → Now → Act
  now_act here (in_suite run) = suite script next here run
  now_act here (opens p) = open_act here p.at p.form p.stage
  now_act here (gives work p) = work_act here work (then_act here p.at p.form p.stage)
  now_act here (ended how) = ret how

  abbrev pub waits_act : Here → Waits → How → Act
  waits_act here (a_stmt number rest) how = close number (ending how) (then_so (suite script next here rest) how)
  waits_act here (a_part p) how = suite_ended next here p.at p.form p.stage how
  waits_act here (a_call m made p) how = left_with script next (gives_back here m (then_act here p.at p.form p.stage) made) how

  -- what waits goes on from an end, the innermost first
  abbrev pub resumes : List Frame → (How → Act) → How → Act
  resumes [] go = go
  resumes (f ∷ above) go = resumes above (λ how. to (waits_act f.here f.waits how) go)

  -- what a flow still means
  unfoldable pub remaining : Flow → Act
  remaining f = to (now_act f.here f.now) (resumes f.below (λ how. ret how))

abbrev pub start_eval : ExprTree → Part → Now
start_eval e p = gives (evaluates (machine (node_for e) [] [])) p
