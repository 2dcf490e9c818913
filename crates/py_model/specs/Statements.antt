-- What a statement means (The Python Language Reference 3, sections 7 and 8, in this project's profile): one rule for each form; and
-- what a script means.
use Rattle.std.specs.Prelude.{ℕ, suc, pos, true, ◌+◌, List, [], ◌∷◌, Option, Some, None, codes}
use Rattle.std.specs.Str.{bytes_eq}
use Rattle.prov_base.specs.declared.place.Pos.{Pos}
use Rattle.py_tree.specs.declared.expr.BinOp.{BinOp}
use Rattle.py_tree.specs.declared.expr.BinOp.TheVariants.{Add}
use Rattle.py_tree.specs.declared.stmt.Bound.{Bound}
use Rattle.py_tree.specs.Tree.{ExprTree, TargetTree, TargetsTree, StmtTree, FormTree, SuiteTree, BranchesTree, ElseTree, HandlersTree, ScriptTree, var_target, part_target, field_target, many_target, end_targets, more_targets, one_stmt, do_form, assign_form, aug_form, del_form, pass_form, break_form, continue_form, return_form, raise_form, assert_form, import_form, if_form, while_form, for_form, try_form, with_form, def_form, class_form, end_suite, more_suite, end_branches, more_branches, no_else, else_suite, end_handlers, more_handlers}
use Rattle.py_value.specs.Contents.{Contents, Parts, nothing, truth, int, tuple, function, class, builtin, object, no_parts, part}
use Rattle.py_value.specs.Seen.{number_by}
use Rattle.py_model.specs.Act.{Act, How, ret, begin, close, to, ending, normal, broke, continued, returned, threw}
use Rattle.py_model.specs.Classes.{sys_module}
use Rattle.py_model.specs.Expressions.{Here, Task, body_of, while_again, for_again, scope_of, op, op_named, op_scoped, op_of, doing, doing_or, by_truth, asking_truth, binary_number, eval}
use Rattle.py_tree.specs.Functions.{expr_place}
use Rattle.py_model.specs.Operations.{Op}

-- an operation with a name, its scope and a value
abbrev pub op_whole : ℕ → ℕ → List ℕ → Contents → Op
op_whole number scope name v = record { no = number; scope = scope; name = name; value = v }

-- the number of an augmented assignment: `+=` changes a list in place, the others are the operators
abbrev pub augmented_number : BinOp → ℕ
augmented_number Add = 22
augmented_number sign = binary_number sign

-- the modules, by number
abbrev pub module_names : List (List ℕ)
module_names = codes "sys" ∷ codes "time" ∷ codes "random" ∷ []

abbrev pub module_of : List ℕ → Contents
module_of name = elim (number_by (bytes_eq name) module_names) [ None ↦ nothing | Some number ↦ builtin (sys_module + number) ]

-- the line of a statement is that of exceptions raised in it
abbrev pub on_line : ℕ → Here → Here
on_line line here = record here { line = line }

abbrev pub handling : ℕ → Here → Here
handling o here = record here { handled = Some o }

abbrev pub in_class_of : Contents → Here → Here
in_class_of of here = record here { in_class = Some of }

abbrev pub count_targets : TargetsTree → ℕ
count_targets end_targets = 0
count_targets (more_targets target rest) = suc (count_targets rest)

-- what is handed to each target of several: the items of a tuple, as many as there are targets
abbrev pub parts_in : Contents → Parts
parts_in (tuple parts) = parts
parts_in other = no_parts

abbrev pub first_of : Parts → Contents
first_of no_parts = nothing
first_of (part first rest) = first

abbrev pub rest_of : Parts → Parts
rest_of no_parts = no_parts
rest_of (part first rest) = rest

-- Whether a name after `as` is bound, and unset where its clause ends.
abbrev pub binding : Here → Option Bound → Contents → Act → Act
binding here None v go = go
binding here (Some bound) v go = doing here bound.at (op_scoped 33 here bound.name) (v ∷ []) (λ done. go)

abbrev pub unbinding : Here → Option Bound → Act → Act
unbinding here None go = go
unbinding here (Some bound) go = doing here bound.at (op_whole 34 (scope_of here bound.name) bound.name (truth true)) [] (λ done. go)

-- how a loop goes on after a turn
abbrev pub turned : Act → How → Act
turned again normal = again
turned again continued = again
turned again broke = ret normal
turned again how = ret how

-- a statement after the ones before it, which ended so
abbrev pub then_so : Act → How → Act
then_so rest normal = rest
then_so rest how = ret how

abbrev pub raised_value : Option ℕ → List Contents
raised_value None = []
raised_value (Some o) = object o ∷ []

module _ (script : ScriptTree) (next : Task → Act) where
  -- A value is stored in a target: a name is bound, an item and an attribute set; several take a list or a tuple apart, at the place of
  -- the statement.
  abbrev mutual
    pub store : Here → Pos → TargetTree → Contents → Act → Act
    store here at (var_target place name) v go = doing here place (op_scoped 33 here name) (v ∷ []) (λ done. go)
    store here at (part_target place e index) v go =
        eval script next here e (λ o. eval script next here index (λ i. doing here place (op 28) (o ∷ i ∷ v ∷ []) (λ done. go)))
    store here at (field_target place e name) v go = eval script next here e (λ o. doing here place (op_named 31 name) (o ∷ v ∷ []) (λ done. go))
    store here at (many_target targets) v go =
        doing here at (op_of 35 (int (pos (count_targets targets)))) (v ∷ []) (λ items. store_all here at targets (parts_in items) go)

    pub store_all : Here → Pos → TargetsTree → Parts → Act → Act
    store_all here at end_targets items go = go
    store_all here at (more_targets target rest) items go = store here at target (first_of items) (store_all here at rest (rest_of items) go)

  -- An augmented assignment evaluates the parts of its target once, loads what stands there, evaluates its right side, and stores.
  abbrev pub augment : Here → TargetTree → BinOp → Pos → ExprTree → Act
  augment here (var_target place name) sign at e =
      doing here place (op_scoped 1 here name) [] (λ old. eval script next here e (λ v.
      doing here at (op (augmented_number sign)) (old ∷ v ∷ []) (λ new. doing here place (op_scoped 33 here name) (new ∷ []) (λ done. ret normal))))
  augment here (part_target place container index) sign at e =
      eval script next here container (λ o. eval script next here index (λ i.
      doing here place (op 26) (o ∷ i ∷ []) (λ old. eval script next here e (λ v.
      doing here at (op (augmented_number sign)) (old ∷ v ∷ []) (λ new. doing here place (op 28) (o ∷ i ∷ new ∷ []) (λ done. ret normal))))))
  augment here (field_target place owner name) sign at e =
      eval script next here owner (λ o.
      doing here place (op_named 30 name) (o ∷ []) (λ old. eval script next here e (λ v.
      doing here at (op (augmented_number sign)) (old ∷ v ∷ []) (λ new. doing here place (op_named 31 name) (o ∷ new ∷ []) (λ done. ret normal)))))
  augment here (many_target targets) sign at e = ret normal

  -- `del` of a name and of an item; the grammar has no other
  abbrev pub unset : Here → TargetTree → Act
  unset here (var_target place name) = doing here place (op_scoped 34 here name) [] (λ done. ret normal)
  unset here (part_target place e index) =
      eval script next here e (λ o. eval script next here index (λ i. doing here place (op 29) (o ∷ i ∷ []) (λ done. ret normal)))
  unset here other = ret normal

  -- One turn of a `while`: the test, and where it is true the suite, and what follows goes on with the next turn.
  abbrev pub while_turn : Here → ExprTree → Act → Act → Act
  while_turn here test run again = eval script next here test (λ v. asking_truth here (expr_place test) v (to run (turned again)) (ret normal))

  -- One turn of a `for`: the next item is asked for with the number of turns that began before; at the end of the items the loop ends.
  abbrev pub for_turn : Here → Pos → TargetTree → Act → Contents → ℕ → Contents → Act → Act
  for_turn here at target run items turns size again =
      doing_or here at (op 37) (items ∷ int (pos turns) ∷ size ∷ []) (ret normal) (λ item. store here at target item (to run (turned again)))

  -- The clause of a handler: the exception is bound, the suite runs with it as the one that is handled, and the name is unset.
  abbrev pub clause : Here → Option Bound → ℕ → Act → Act
  clause here bound o run = binding here bound (object o) (to run (λ how. unbinding here bound (ret how)))

  -- what a `try` goes on with: an exception is handled, and any other end is its own
  abbrev pub caught : (ℕ → ℕ → Act) → How → Act
  caught handle (threw o line) = handle o line
  caught handle how = ret how

  -- a handler with a class or a tuple of classes runs where it matches
  abbrev pub matching : Here → Pos → ExprTree → ℕ → Act → Act → Act
  matching here at kind o hit miss =
      eval script next here kind (λ sought. doing here at (op 41) (object o ∷ sought ∷ []) (by_truth hit miss))

  -- the file is closed however the suite ends
  abbrev pub with_body : Here → Pos → Contents → Act → Act
  with_body here at file run = to run (λ how. doing here at (op 45) (file ∷ []) (λ done. ret how))

  -- a class is begun, its suite runs, and its name is bound
  abbrev pub class_body : Here → Pos → List ℕ → (Contents → Act) → List Contents → Act
  class_body here at name run bases =
      doing here at (op_whole 43 0 name (class at)) bases (λ of.
      to (run of) (then_so (doing here at (op_scoped 33 here name) (of ∷ []) (λ done. ret normal))))

  abbrev pub failed_assert : Here → Pos → Option ExprTree → Act
  failed_assert here at None = doing here at (op 47) [] (λ v. ret normal)
  failed_assert here at (Some message) = eval script next here message (λ v. doing here at (op 47) (v ∷ []) (λ done. ret normal))

  abbrev pub defining : Here → Pos → List ℕ → Option Contents → Act
  defining here at name None = doing here at (op_whole 42 0 name (function at)) [] (λ done. ret normal)
  defining here at name (Some of) = doing here at (op_whole 42 0 name (function at)) (of ∷ []) (λ done. ret normal)

  -- one rule for each form of statement
  abbrev mutual
    pub suite : Here → SuiteTree → Act
    suite here end_suite = ret normal
    suite here (more_suite s rest) = to (stmt here s) (then_so (suite here rest))

    pub stmt : Here → StmtTree → Act
    stmt here (one_stmt number at span form) = begin number (to (rule (on_line at.line here) at form) (λ how. close number (ending how) (ret how)))

    pub rule : Here → Pos → FormTree → Act
    rule here at (do_form e) = eval script next here e (λ v. ret normal)
    rule here at (assign_form target e) = eval script next here e (λ v. store here at target v (ret normal))
    rule here at (aug_form target sign place e) = augment here target sign place e
    rule here at (del_form target) = unset here target
    rule here at pass_form = ret normal
    rule here at break_form = ret broke
    rule here at continue_form = ret continued
    rule here at (return_form None) = ret (returned nothing)
    rule here at (return_form (Some e)) = eval script next here e (λ v. ret (returned v))
    rule here at (raise_form None) = doing here at (op 40) (raised_value here.handled) (λ done. ret normal)
    rule here at (raise_form (Some e)) = eval script next here e (λ v. doing here at (op 40) (v ∷ []) (λ done. ret normal))
    rule here at (assert_form test message) = eval script next here test (λ v. asking_truth here (expr_place test) v (ret normal) (failed_assert here at message))
    rule here at (import_form name) = doing here at (op_whole 44 (scope_of here name) name (module_of name)) [] (λ done. ret normal)
    rule here at (if_form branches orelse) = choose here branches (otherwise here orelse)
    rule here at (while_form test body) = while_turn here test (suite here body) (next (while_again here test body))
    rule here at (for_form target e body) =
        eval script next here e (λ items. doing here at (op 36) (items ∷ []) (λ size.
        for_turn here at target (suite here body) items 0 size (next (for_again here at target body items 1 size))))
    rule here at (try_form body handlers) = to (suite here body) (caught (handle here at handlers))
    rule here at (with_form e bound body) =
        eval script next here e (λ v. doing here at (op 46) (v ∷ []) (λ file. binding here bound file (with_body here at file (suite here body))))
    rule here at (def_form name params globals body) = defining here at name here.in_class
    rule here at (class_form name None body) = class_body here at name (λ of. suite (in_class_of of here) body) []
    rule here at (class_form name (Some base) body) =
        eval script next here base (λ v. class_body here at name (λ of. suite (in_class_of of here) body) (v ∷ []))

    -- the first branch whose test is true, and else the other
    pub choose : Here → BranchesTree → Act → Act
    choose here end_branches other = other
    choose here (more_branches test body rest) other =
        eval script next here test (λ v. asking_truth here (expr_place test) v (suite here body) (choose here rest other))

    pub otherwise : Here → ElseTree → Act
    otherwise here no_else = ret normal
    otherwise here (else_suite body) = suite here body

    -- an exception is handled by the first handler that matches it
    pub handle : Here → Pos → HandlersTree → ℕ → ℕ → Act
    handle here at end_handlers o line = ret (threw o line)
    handle here at (more_handlers None bound body rest) o line = clause here bound o (suite (handling o here) body)
    handle here at (more_handlers (Some kind) bound body rest) o line =
        matching here at kind o (clause here bound o (suite (handling o here) body)) (handle here at rest o line)

  -- what a task is: the suite of a function, or one more turn of a loop
  abbrev pub task : Task → Act
  task (body_of here body) = suite here body
  task (while_again here test body) = while_turn here test (suite here body) (next (while_again here test body))
  task (for_again here at target body items turns size) =
      for_turn here at target (suite here body) items turns size (next (for_again here at target body items (suc turns) size))
