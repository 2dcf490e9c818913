-- What an expression means (The Python Language Reference 3, section 6, in this project's profile): which operations at which places, in
-- which order, with which values; and what it goes on with. Operands are evaluated from the left.
use Rattle.std.specs.Prelude.{ℕ, suc, pos, Bool, true, false, nat_lt, nat_le, nat_eq, ◌+◌, ◌-◌, ◌&&◌, List, [], ◌∷◌, length, slice_get, Option, Some, None, if◌then◌else◌}
use Rattle.prov_base.specs.declared.place.Pos.{Pos}
use Rattle.py_tree.specs.declared.expr.Atom.{Atom}
use Rattle.py_tree.specs.declared.expr.Atom.TheVariants.{None as none_atom, Bool as truth_atom, Int as int_atom, Text as text_atom}
use Rattle.py_tree.specs.declared.expr.UnOp.{UnOp}
use Rattle.py_tree.specs.declared.expr.UnOp.TheVariants.{Minus, Plus, Not as Negation}
use Rattle.py_tree.specs.declared.expr.LogicOp.TheVariants.{And as Both, Or as Either}
use Rattle.py_tree.specs.declared.expr.BinOp.{BinOp}
use Rattle.py_tree.specs.declared.expr.BinOp.TheVariants.{Add, Sub, Mul, FloorDiv, Mod}
use Rattle.py_tree.specs.declared.expr.CmpOp.{CmpOp}
use Rattle.py_tree.specs.declared.expr.CmpOp.TheVariants.{Eq, Ne, Lt, Le, Gt, Ge, In, NotIn, Is, IsNot}
use Rattle.py_tree.specs.Tree.{ExprTree, MaybeTree, ExprsTree, PairsTree, SuiteTree, TargetTree, ScriptTree, const_expr, var_expr, unary_expr, binary_expr, compare_expr, logic_expr, choose_expr, call_expr, attr_expr, part_expr, range_expr, list_expr, dict_expr, tuple_expr, no_expr, some_expr, end_exprs, more_exprs, end_pairs, more_pairs}
use Rattle.py_value.specs.Contents.{Contents, nothing, truth, int, text, function, class, exception_class, builtin, object}
use Rattle.py_model.specs.Act.{Act, How, Walked, ret, perform, enter, leave, to, normal, returned, threw}
use Rattle.py_tree.specs.Functions.{Function, expr_place, function_at, is_local}
use Rattle.py_model.specs.Operations.{Op}
use Rattle.py_model.specs.Plan.{Answer, value, raised, at_end}

-- Where an expression or a statement stands in a run: the activation and its function, none at module level; how many activations are
-- open; the exception that is handled; the class in whose suite it stands directly; and the line of the innermost statement.
pub record Here : Type 0 where
  pub activation : ℕ
  pub function : Option Function
  pub open_activations : ℕ
  pub handled : Option ℕ
  pub in_class : Option Contents
  pub line : ℕ

-- the scope of a name: the activation where it is local, and else the module
abbrev pub scope_of : Here → List ℕ → ℕ
scope_of here name = elim here.function [ None ↦ 0 | Some f ↦ if is_local f name then here.activation else 0 ]

-- operations: by number alone, with a name, with a name and its scope, with a value
abbrev pub op : ℕ → Op
op number = record { no = number; scope = 0; name = []; value = nothing }

abbrev pub op_named : ℕ → List ℕ → Op
op_named number name = record { no = number; scope = 0; name = name; value = nothing }

abbrev pub op_scoped : ℕ → Here → List ℕ → Op
op_scoped number here name = record { no = number; scope = scope_of here name; name = name; value = nothing }

abbrev pub op_of : ℕ → Contents → Op
op_of number v = record { no = number; scope = 0; name = []; value = v }

-- An operation is done, and what follows goes on with its value. Where it raises, the statement is left by the exception, with its line.
abbrev pub by_answer : Here → Act → (Contents → Act) → Answer → Act
by_answer here end go (value v) = go v
by_answer here end go (raised o) = ret (threw o here.line)
by_answer here end go at_end = end

abbrev pub doing : Here → Pos → Op → List Contents → (Contents → Act) → Act
doing here at what values go = perform at what values (λ answer walked. by_answer here (ret normal) go answer)

-- as `doing`, but a sequence may be at its end
abbrev pub doing_or : Here → Pos → Op → List Contents → Act → (Contents → Act) → Act
doing_or here at what values end go = perform at what values (λ answer walked. by_answer here end go answer)

-- as `doing`, and with what its walks came to
abbrev pub walking : Here → Pos → Op → List Contents → (Contents → Walked → Act) → Act
walking here at what values go = perform at what values (λ answer walked. by_answer here (ret normal) (λ v. go v walked) answer)

-- a truth value is asked of a value at a place
abbrev pub by_truth : Act → Act → Contents → Act
by_truth when_true when_false (truth true) = when_true
by_truth when_true when_false other = when_false

abbrev pub asking_truth : Here → Pos → Contents → Act → Act → Act
asking_truth here at v when_true when_false = doing here at (op 3) (v ∷ []) (by_truth when_true when_false)

-- the numbers of the operations of operators
abbrev pub unary_number : UnOp → ℕ
unary_number Negation = 4
unary_number Minus = 5
unary_number Plus = 6

abbrev pub binary_number : BinOp → ℕ
binary_number Add = 7
binary_number Sub = 8
binary_number Mul = 9
binary_number FloorDiv = 10
binary_number Mod = 11

abbrev pub compare_number : CmpOp → ℕ
compare_number Eq = 12
compare_number Ne = 13
compare_number Lt = 14
compare_number Le = 15
compare_number Gt = 16
compare_number Ge = 17
compare_number In = 18
compare_number NotIn = 19
compare_number Is = 20
compare_number IsNot = 21

abbrev pub constant : Atom → Contents
constant none_atom = nothing
constant (truth_atom b) = truth b
constant (int_atom i) = int i
constant (text_atom bytes) = text bytes

-- How many arguments the functions 0 to 21 take, at least and at most; `None` is any number.
abbrev pub takes : ℕ → Option ℕ → ℕ → Bool
takes least None n = nat_le least n
takes least (Some most) n = nat_le least n && nat_le n most

abbrev pub exactly : ℕ → ℕ × Option ℕ
exactly n = (n, Some n)

-- abs bool chr dict enumerate input int isinstance len list max min open ord print range repr sorted str sum tuple zip
abbrev pub function_arities : List (ℕ × Option ℕ)
function_arities =
    exactly 1 ∷ exactly 1 ∷ exactly 1 ∷ exactly 0 ∷ exactly 1 ∷ (0, Some 1) ∷ exactly 1 ∷ exactly 2 ∷ exactly 1 ∷ exactly 1
    ∷ (1, None) ∷ (1, None) ∷ (1, Some 2) ∷ exactly 1 ∷ (0, None) ∷ (1, Some 3) ∷ exactly 1 ∷ exactly 1 ∷ exactly 1 ∷ exactly 1
    ∷ exactly 1 ∷ exactly 2 ∷ []

-- How many arguments the methods 80 to 111 take beside what they are called on: append extend insert pop index reverse sort, get items
-- keys values, strip lstrip rstrip split join replace find startswith endswith upper lower isdigit ljust rjust, read readline write
-- close, time_ns randint randrange
abbrev pub method_arities : List (ℕ × Option ℕ)
method_arities =
    exactly 1 ∷ exactly 1 ∷ exactly 2 ∷ (0, Some 1) ∷ exactly 1 ∷ exactly 0 ∷ exactly 0
    ∷ (1, Some 2) ∷ exactly 0 ∷ exactly 0 ∷ exactly 0
    ∷ exactly 0 ∷ exactly 0 ∷ exactly 0 ∷ (0, Some 1) ∷ exactly 1 ∷ exactly 2 ∷ exactly 1 ∷ exactly 1 ∷ exactly 1
    ∷ exactly 0 ∷ exactly 0 ∷ exactly 0 ∷ exactly 1 ∷ exactly 1
    ∷ exactly 0 ∷ exactly 0 ∷ exactly 1 ∷ exactly 0
    ∷ exactly 0 ∷ exactly 2 ∷ exactly 1 ∷ []

abbrev pub takes_so_many : Option (ℕ × Option ℕ) → ℕ → Bool
takes_so_many None n = false
takes_so_many (Some arity) n = takes arity.0 arity.1 n

-- why a call fails: what is called is not callable, the number of arguments is wrong, one activation too many would be open
abbrev pub not_callable : Contents
not_callable = int (pos 0)

abbrev pub wrong_arguments : Contents
wrong_arguments = int (pos 1)

abbrev pub too_many_open : Contents
too_many_open = int (pos 2)

abbrev pub failing : Here → Pos → Contents → List Contents → Act
failing here at reason values = doing here at (op_of 38 reason) values (λ v. ret normal)

-- What a call and the next turn of a loop go on with. The rules are given it, so that each rule speaks of parts of its own tree alone.
pub data Task : Type 0 where
  body_of : Here → SuiteTree → Task
  while_again : Here → ExprTree → SuiteTree → Task
  for_again : Here → Pos → TargetTree → SuiteTree → Contents → ℕ → Contents → Task

-- the value of an activation: that of its `return`, and else None
abbrev pub value_of_how : How → Contents
value_of_how (returned v) = v
value_of_how how = nothing

module _ (script : ScriptTree) (next : Task → Act) where
  -- A function is called with values for its parameters: an activation is entered, its suite runs, and it is left with the value. An
  -- exception goes on to the caller.
  abbrev pub left_with : (Contents → Act) → How → Act
  left_with go (threw o line) = leave nothing (ret (threw o line))
  left_with go how = leave (value_of_how how) (go (value_of_how how))

  abbrev pub inside : Here → Function → ℕ → Here
  inside here f activation = record { activation = activation; function = Some f; open_activations = suc here.open_activations; handled = None; in_class = None; line = here.line }

  abbrev pub running : Here → Pos → Function → List Contents → (Contents → Act) → Act
  running here at f values go = enter at f.place f.params values (λ activation. to (next (body_of (inside here f activation) f.body)) (left_with go))

  -- whether an activation may be opened is asked last
  abbrev pub calling_function : Here → Pos → Contents → Option Function → List Contents → (Contents → Act) → Act
  calling_function here at called None values go = failing here at not_callable (called ∷ values)
  calling_function here at called (Some f) values go =
      if nat_eq (length f.params) (length values)
      then (if nat_lt here.open_activations 1000 then running here at f values go else failing here at too_many_open (called ∷ values))
      else failing here at wrong_arguments (called ∷ values)

  abbrev pub giving : Here → Pos → (Contents → Act) → Contents → Act
  giving here at go v = doing here at (op 2) (v ∷ []) go

  -- A class is called: an instance is made, and the `__init__` that was found runs on it; whatever that gives, the instance is the value.
  -- Without one, no argument is taken, but any by an exception class.
  abbrev pub without_init : Here → Pos → Contents → List Contents → Contents → Bool → (Contents → Act) → Act
  without_init here at of arguments instance true go = giving here at go instance
  without_init here at of [] instance false go = giving here at go instance
  without_init here at of (argument ∷ arguments) instance false go = failing here at wrong_arguments (of ∷ argument ∷ arguments)

  abbrev pub initialising : Here → Pos → Contents → List Contents → Contents → Bool → Option Pos → (Contents → Act) → Act
  initialising here at of arguments instance is_exception None go = without_init here at of arguments instance is_exception go
  initialising here at of arguments instance is_exception (Some init) go =
      calling_function here at (function init) (function_at script init) (instance ∷ arguments) (λ v. giving here at go instance)

  abbrev pub calling_class : Here → Pos → Contents → List Contents → (Contents → Act) → Act
  calling_class here at of arguments go =
      walking here at (op 39) (of ∷ arguments) (λ instance walked. initialising here at of arguments instance walked.is_exception walked.method go)

  -- a function of the language, 0 to 21, and a method of one of its values, 80 to 111
  abbrev pub calling_builtin : Here → Pos → ℕ → List Contents → (Contents → Act) → Act
  calling_builtin here at number arguments go =
      if takes_so_many (slice_get function_arities number) (length arguments) then doing here at (op (50 + number)) arguments go
      else failing here at (if nat_lt number 22 then wrong_arguments else not_callable) (builtin number ∷ arguments)

  abbrev pub calling_method : Here → Pos → ℕ → Contents → List Contents → (Contents → Act) → Act
  calling_method here at number receiver arguments go =
      if takes_so_many (slice_get method_arities (number - 80)) (length arguments) then doing here at (op number) (receiver ∷ arguments) go
      else failing here at wrong_arguments (builtin number ∷ receiver ∷ arguments)

  -- what is called by its value
  abbrev pub calling : Here → Pos → Contents → List Contents → (Contents → Act) → Act
  calling here at (function place) arguments go = calling_function here at (function place) (function_at script place) arguments (giving here at go)
  calling here at (class place) arguments go = calling_class here at (class place) arguments go
  calling here at (exception_class number) arguments go = calling_class here at (exception_class number) arguments go
  calling here at (builtin number) arguments go = calling_builtin here at number arguments go
  calling here at other arguments go = failing here at not_callable (other ∷ arguments)

  -- What is called as an attribute. A method of a value of the language gets the value; a method of a class of the script gets the
  -- instance through which the method walk found it, and no class.
  abbrev pub with_receiver : Contents → Option Pos → List Contents → List Contents
  with_receiver (object o) (Some method) arguments = object o ∷ arguments
  with_receiver owner method arguments = arguments

  abbrev pub calling_attribute : Here → Pos → Contents → Contents → Option Pos → List Contents → (Contents → Act) → Act
  calling_attribute here at owner (builtin number) method arguments go =
      if nat_lt number 80 then calling_builtin here at number arguments go else calling_method here at number owner arguments go
  calling_attribute here at owner called method arguments go = calling here at called (with_receiver owner method arguments) go

  -- one rule for each form of expression
  abbrev mutual
    pub eval : Here → ExprTree → (Contents → Act) → Act
    eval here (const_expr at atom) go = doing here at (op_of 0 (constant atom)) [] go
    eval here (var_expr at name) go = doing here at (op_scoped 1 here name) [] go
    eval here (unary_expr at sign e) go = eval here e (λ v. doing here at (op (unary_number sign)) (v ∷ []) go)
    eval here (binary_expr at sign l r) go = eval here l (λ v. eval here r (λ w. doing here at (op (binary_number sign)) (v ∷ w ∷ []) go))
    eval here (compare_expr at sign l r) go = eval here l (λ v. eval here r (λ w. doing here at (op (compare_number sign)) (v ∷ w ∷ []) go))
    eval here (logic_expr at Both l r) go =
        eval here l (λ v. asking_truth here (expr_place l) v (eval here r (giving here at go)) (giving here at go v))
    eval here (logic_expr at Either l r) go =
        eval here l (λ v. asking_truth here (expr_place l) v (giving here at go v) (eval here r (giving here at go)))
    eval here (choose_expr at test chosen other) go =
        eval here test (λ v. asking_truth here (expr_place test) v (eval here chosen (giving here at go)) (eval here other (giving here at go)))
    eval here (call_expr at (attr_expr dot e name) arguments) go =
        eval here e (λ owner. walking here dot (op_named 32 name) (owner ∷ []) (λ called walked.
        eval_all here arguments (λ values. calling_attribute here at owner called walked.method values go)))
    eval here (call_expr at callee arguments) go = eval here callee (λ called. eval_all here arguments (λ values. calling here at called values go))
    eval here (attr_expr at e name) go = eval here e (λ v. doing here at (op_named 30 name) (v ∷ []) go)
    eval here (part_expr at e index) go = eval here e (λ v. eval here index (λ i. doing here at (op 26) (v ∷ i ∷ []) go))
    eval here (range_expr at e low high) go =
        eval here e (λ v. eval_maybe here low (λ i. eval_maybe here high (λ j. doing here at (op 27) (v ∷ i ∷ j ∷ []) go)))
    eval here (list_expr at items) go = eval_all here items (λ values. doing here at (op 23) values go)
    eval here (dict_expr at pairs) go = eval_pairs here pairs (λ values. doing here at (op 24) values go)
    eval here (tuple_expr at items) go = eval_all here items (λ values. doing here at (op 25) values go)

    -- a bound that is absent is None
    pub eval_maybe : Here → MaybeTree → (Contents → Act) → Act
    eval_maybe here no_expr go = go nothing
    eval_maybe here (some_expr e) go = eval here e go

    pub eval_all : Here → ExprsTree → (List Contents → Act) → Act
    eval_all here end_exprs go = go []
    eval_all here (more_exprs e rest) go = eval here e (λ v. eval_all here rest (λ values. go (v ∷ values)))

    -- each key before its value
    pub eval_pairs : Here → PairsTree → (List Contents → Act) → Act
    eval_pairs here end_pairs go = go []
    eval_pairs here (more_pairs key v rest) go = eval here key (λ k. eval here v (λ w. eval_pairs here rest (λ values. go (k ∷ w ∷ values))))
