-- What is asked of a statement by the place where it stands (The Python Language Reference 3.11, sections 7 and 8, in this
-- project's profile), beside the grammar.
use Rattle.std.specs.Prelude.{ℕ, Bool, true, false, ◌&&◌, ◌||◌, not, ◌==◌, List, [], ◌∷◌, length, take, drop, codes, nat_le, ◌-◌, is_none, unwrap_or}
use Rattle.std.specs.List.{list_all, list_any}
use Rattle.std.specs.Str.{bytes_eq}
use Rattle.py_lines.specs.declared.parts.Token.{Token}
use Rattle.py_lines.specs.declared.parts.TokenKind.{TokenKind}
use Rattle.py_lines.specs.declared.parts.TokenKind.TheVariants.{Keyword, Text}
use Rattle.py_lines.specs.Tables.{keyword_number}
use Rattle.py_tree.specs.Tree.{TargetTree, FormTree, field_target, del_form, break_form, continue_form, return_form, raise_form, import_form}
use Rattle.py_grammar.specs.StatementTokens.{simple_tokens}
use Rattle.py_grammar.specs.StatementTrees.{simple_form, params_list, names_list}
use Rattle.py_grammar.specs.Written.{Simple, Kind, every_kind, one_kind, Stmt, simple, if_stmt, while_stmt, for_stmt, try_stmt, with_stmt, def_stmt, class_stmt, Suite, on_line, block, Body, last_stmt, more_stmt, Elifs, no_elif, elif, Else, no_else_part, else_part, Handlers, last_handler, more_handler, DefSuite, def_line, def_block, DefBody, end_def, stmt_in_def, global_in_def, Script, empty_script, script}

-- where statements stand: directly in the script or in a class, or in neither; in a function, a loop, an `except`
pub record Around : Type 0 where
  pub at_module_level : Bool
  pub in_class : Bool
  pub in_function : Bool
  pub in_loop : Bool
  pub in_handler : Bool

abbrev pub module_level : Around
module_level = record { at_module_level = true; in_class = false; in_function = false; in_loop = false; in_handler = false }

-- in a suite of a compound statement that is neither a loop, an `except`, a `def` nor a `class`
abbrev pub in_suite : Around → Around
in_suite around = record around { at_module_level = false; in_class = false }

abbrev pub in_loop_suite : Around → Around
in_loop_suite around = record around { at_module_level = false; in_class = false; in_loop = true }

abbrev pub in_handler_suite : Around → Around
in_handler_suite around = record around { at_module_level = false; in_class = false; in_handler = true }

abbrev pub in_def_suite : Around
in_def_suite = record { at_module_level = false; in_class = false; in_function = true; in_loop = false; in_handler = false }

abbrev pub in_class_suite : Around
in_class_suite = record { at_module_level = false; in_class = true; in_function = false; in_loop = false; in_handler = false }

-- `sys`, `time` and `random` can be imported
abbrev pub is_module : List ℕ → Bool
is_module name = bytes_eq name (codes "sys") || bytes_eq name (codes "time") || bytes_eq name (codes "random")

-- `__x__`, with something between
abbrev pub is_special : List ℕ → Bool
is_special name = nat_le 5 (length name) && bytes_eq (take 2 name) (codes "__") && bytes_eq (drop (length name - 2) name) (codes "__")

abbrev pub is_in : List ℕ → List (List ℕ) → Bool
is_in name names = list_any (bytes_eq name) names

abbrev pub are_different : List (List ℕ) → Bool
are_different [] = true
are_different (name ∷ names) = not (is_in name names) && are_different names

-- an attribute cannot be deleted
abbrev pub may_go : TargetTree → Bool
may_go (field_target at e name) = false
may_go target = true

-- what is asked of a simple statement's form
abbrev pub form_stands : Around → FormTree → Bool
form_stands around (del_form target) = may_go target
form_stands around break_form = around.in_loop
form_stands around continue_form = around.in_loop
form_stands around (return_form value) = around.in_function
form_stands around (raise_form value) = not (is_none value) || around.in_handler
form_stands around (import_form name) = is_module name
form_stands around _ = true

-- one text literal, or `pass`, is the whole line or all that stands behind a `:`
abbrev pub alone_kind : TokenKind → Bool
alone_kind (Text bytes) = true
alone_kind (Keyword n) = n == unwrap_or (keyword_number (codes "pass")) 0
alone_kind kind = false

abbrev pub are_alone : List Token → Bool
are_alone [] = false
are_alone (t ∷ []) = alone_kind t.kind
are_alone (t ∷ u ∷ ts) = false

-- a class holds methods, `pass` and texts
abbrev pub simple_stands : Around → Simple → Bool
simple_stands around s = (not around.in_class || are_alone (simple_tokens s)) && form_stands around (simple_form s)

abbrev pub is_alone : Stmt → Bool
is_alone (simple line s) = are_alone (simple_tokens s)
is_alone s = false

abbrev pub may_be_method : List ℕ → Bool
may_be_method name = not (is_special name) || bytes_eq name (codes "__init__")

-- a `def` stands directly in the script or in a class
abbrev pub def_stands : Around → List ℕ → List (List ℕ) → Bool
def_stands around name given = (around.at_module_level || (around.in_class && may_be_method name)) && are_different given

-- no parameter is declared global
abbrev pub none_given : List (List ℕ) → List (List ℕ) → Bool
none_given given names = list_all (λ name. not (is_in name given)) names

-- only the last handler is for every exception
abbrev pub has_class : Kind → Bool
has_class every_kind = false
has_class (one_kind e called) = true

abbrev mutual
  pub stmt_stands : Around → Stmt → Bool
  stmt_stands around (simple line s) = simple_stands around s
  stmt_stands around (if_stmt line at test colon suite elifs orelse) =
      not around.in_class && suite_stands (in_suite around) suite && elifs_stand (in_suite around) elifs && else_stands (in_suite around) orelse
  stmt_stands around (while_stmt line at test colon suite) = not around.in_class && suite_stands (in_loop_suite around) suite
  stmt_stands around (for_stmt line at t in_word e colon suite) = not around.in_class && suite_stands (in_loop_suite around) suite
  stmt_stands around (try_stmt line at colon suite handlers) = not around.in_class && suite_stands (in_suite around) suite && handlers_stand (in_handler_suite around) handlers
  stmt_stands around (with_stmt line at e called colon suite) = not around.in_class && suite_stands (in_suite around) suite
  stmt_stands around (def_stmt line at name_at bytes opening given closing colon suite) = def_stands around bytes (params_list given) && def_suite_stands (params_list given) suite
  stmt_stands around (class_stmt line at name_at bytes of colon suite) = around.at_module_level && suite_stands in_class_suite suite

  pub suite_stands : Around → Suite → Bool
  suite_stands around (on_line s) = simple_stands around s
  suite_stands around (block inside body) = body_stands around body

  pub body_stands : Around → Body → Bool
  body_stands around (last_stmt s) = stmt_stands around s
  body_stands around (more_stmt s rest) = stmt_stands around s && body_stands around rest

  pub elifs_stand : Around → Elifs → Bool
  elifs_stand around no_elif = true
  elifs_stand around (elif line at test colon suite rest) = suite_stands around suite && elifs_stand around rest

  pub else_stands : Around → Else → Bool
  else_stands around no_else_part = true
  else_stands around (else_part line at colon suite) = suite_stands around suite

  pub handlers_stand : Around → Handlers → Bool
  handlers_stand around (last_handler line at kind colon suite) = suite_stands around suite
  handlers_stand around (more_handler line at kind colon suite rest) = has_class kind && suite_stands around suite && handlers_stand around rest

  pub def_suite_stands : List (List ℕ) → DefSuite → Bool
  def_suite_stands given (def_line s) = simple_stands in_def_suite s
  def_suite_stands given (def_block inside body) = def_body_stands given true body

  -- only `pass` and texts stand before a `global` line
  pub def_body_stands : List (List ℕ) → (may_declare : Bool) → DefBody → Bool
  def_body_stands given may_declare end_def = true
  def_body_stands given may_declare (stmt_in_def s rest) = stmt_stands in_def_suite s && def_body_stands given (may_declare && is_alone s) rest
  def_body_stands given may_declare (global_in_def line at names rest) = may_declare && none_given given (names_list names) && def_body_stands given may_declare rest

abbrev pub script_stands : Script → Bool
script_stands empty_script = true
script_stands (script body) = body_stands module_level body
