-- What turns are, with the contents of their values.
use Rattle.std.specs.Prelude.{◌≡◌, ℕ, true, false, map, ⊤}
use Rattle.py_tree.specs.Erasure.{expr_of, exprs_list}
use Rattle.py_model.specs.Told.{is_operation, names_text}
use Rattle.py_value.specs.Contents.{contents, text}
use Rattle.py_value.specs.Values.{ValuesView}
use Rattle.py_value.specs.declared.value.Value.{Value as OneValue}
use Rattle.py_value.specs.declared.value.Value.TheVariants.{Fn, Class, Exc}
use Rattle.interp_eval.specs.declared.turn.Want.{Want as WantRefs}
use Rattle.interp_eval.specs.declared.turn.Want.TheVariants.{Plain, Name, Variable, Value, Text}
use Rattle.interp_eval.specs.declared.turn.After.{After as AfterRefs}
use Rattle.interp_eval.specs.declared.turn.After.TheVariants.{Pop, Branch, Bind, Never}
use Rattle.interp_eval.specs.declared.turn.Order.{Order}
use Rattle.interp_eval.specs.declared.turn.Turn.{Turn as TurnRefs}
use Rattle.interp_eval.specs.declared.turn.Turn.TheVariants.{Perform, Call}
use Rattle.interp_eval.specs.Machine.{Want, plain, a_name, a_variable, a_value, After, pops, branches, binds, never, Turn, performs, hands_over}
use Rattle.interp_eval.specs.Seen.{branch_seen}

abbrev pub want_seen : ValuesView → WantRefs → Want
want_seen table Plain = plain
want_seen table (Name name) = a_name name.now
want_seen table (Variable name) = a_variable name.now
want_seen table (Value v) = a_value (contents table v)
want_seen table (Text name) = a_value (text name.now)

abbrev pub after_seen : AfterRefs → After
after_seen Pop = pops
after_seen (Branch branch) = branches (branch_seen branch)
after_seen (Bind arguments) = binds (exprs_list (map expr_of arguments.now))
after_seen Never = never

abbrev pub turn_seen : ValuesView → TurnRefs → Turn
turn_seen table (Perform order) = performs order.at order.no (want_seen table order.want) order.skip (after_seen order.after)
turn_seen table (Call f) = hands_over (contents table f)

-- whether the operation names a text is told by its number
abbrev pub IsWanted : ℕ → WantRefs → Type 0
IsWanted number Plain = names_text number ≡ false
IsWanted number (Name name) = names_text number ≡ true
IsWanted number (Variable name) = names_text number ≡ true
IsWanted number (Value v) = names_text number ≡ false
IsWanted number (Text name) = names_text number ≡ false

-- functions, classes and exception classes are called by the caller of a step
abbrev pub IsCallable : OneValue → Type 0
IsCallable (Fn place) = ⊤
IsCallable (Class place) = ⊤
IsCallable (Exc number) = ⊤
IsCallable v = ⊥

-- the operation is one of the language
pub record IsOrderly (order : Order) : Type 0 where
  pub operation : is_operation order.no ≡ true
  pub wanted : IsWanted order.no order.want

abbrev pub IsOfOperation : TurnRefs → Type 0
IsOfOperation (Perform order) = IsOrderly order
IsOfOperation (Call f) = IsCallable f
