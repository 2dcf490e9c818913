-- Where the statements of a script stand is told by its tree, and a deletion leaves it so.
use Rattle.std.proofs.Common.{◌≡◌, ℕ, ◌+◌, ◌==◌, Bool, true, false, IsTrue, ◌&&◌, ◌||◌, not, List, [], ◌∷◌, ◌++◌, if◌then◌else◌, refl, ap, ◌∙◌, eqb-true}
use Rattle.std.specs.Prelude.{codes, is_some, unwrap_or}
use Rattle.std.proofs.lemmas.Bool.{false≢true, and_parts}
use Rattle.py_lines.specs.declared.parts.Line.{Line}
use Rattle.py_lines.specs.declared.parts.Token.{Token}
use Rattle.py_lines.specs.declared.parts.TokenKind.{TokenKind}
use Rattle.py_lines.specs.declared.parts.TokenKind.TheVariants.{Word, Keyword, Number, Text, Sign}
use Rattle.py_lines.specs.Tables.{keyword_number}
use Rattle.py_tree.specs.Tree.{number_of, StmtTree, FormTree, SuiteTree, BranchesTree, ElseTree, HandlersTree, ScriptTree, one_stmt, pass_form, if_form, while_form, for_form, try_form, with_form, def_form, class_form, end_suite, more_suite, end_branches, more_branches, no_else, else_suite, end_handlers, more_handlers}
use Rattle.py_tree.specs.Numbering.{size_stmt, size_suite, size_branches, numbered_stmt, numbered_form, numbered_suite, numbered_branches, numbered_else, numbered_handlers}
use Rattle.py_tree.specs.Deletion.{or_pass, kept_suite, kept_stmt, kept_form, kept_branches, kept_else, kept_handlers, deleted}
use Rattle.py_expressions.specs.Concrete.{Spot, one_expr, plain_expr, plain_or, plain_and, plain_not, plain_cmp, plain_sum, plain_term, plain_unary, plain_prim, text}
use Rattle.py_expressions.specs.Tokens.{token}
use Rattle.py_grammar.specs.Written.{Simple, expression, assign, augmented, del, pass, break, continue, return, return_value, raise, raise_value, assert, assert_message, import_module, Kind, every_kind, one_kind, Stmt, simple, if_stmt, while_stmt, for_stmt, try_stmt, with_stmt, def_stmt, class_stmt, Suite, on_line, block, Body, last_stmt, more_stmt, Elifs, no_elif, elif, Else, no_else_part, else_part, Handlers, last_handler, more_handler, DefSuite, def_line, def_block, DefBody, end_def, stmt_in_def, global_in_def, Script, empty_script, script}
use Rattle.py_grammar.specs.StatementTokens.{simple_tokens}
use Rattle.py_grammar.specs.StatementTrees.{simple_form, names_list, params_list, kind_class, globals_of, def_globals, stmt_of_tokens, simple_tree, stmt_tree, suite_tree, body_tree, elif_trees, else_tree, handler_trees, def_tree, def_body_tree, script_body}
use Rattle.py_grammar.specs.Language.{Language, language_one, IsScriptIn}
use Rattle.py_grammar.specs.PlacedTrees.{is_pass_or_text, are_no_handlers, stmt_is_placed, form_is_placed, suite_is_placed, branches_are_placed, else_is_placed, handlers_are_placed, is_placed_in}
use Rattle.py_grammar.specs.WellPlaced.{Around, module_level, in_suite, in_loop_suite, in_handler_suite, in_def_suite, in_class_suite, is_in, form_stands, alone_kind, are_alone, simple_stands, is_alone, def_stands, none_given, has_class, stmt_stands, suite_stands, body_stands, elifs_stand, else_stands, handlers_stand, def_suite_stands, def_body_stands, script_stands}
use Rattle.py_grammar.proofs.OneReading.{one_simple}

-- ---- tests that are joined

both : (a b : Bool) → a ≡ true → b ≡ true → (a && b) ≡ true
both a b one two = ap (λ (x : Bool). x && b) one ∙ two

same_and : (a c b d : Bool) → a ≡ c → b ≡ d → (a && b) ≡ (c && d)
same_and a c b d one two = ap (λ (x : Bool). x && b) one ∙ ap (λ (x : Bool). c && x) two

-- ---- simple statements

text_alone : Spot → List ℕ → Simple
text_alone spot bytes = expression (one_expr (plain_expr (plain_or (plain_and (plain_not (plain_cmp (plain_sum (plain_term (plain_unary (plain_prim (text spot bytes)))))))))))

pass_number : (n : ℕ) → (n == unwrap_or (keyword_number (codes "pass")) 0) ≡ true → n ≡ unwrap_or (keyword_number (codes "pass")) 0
pass_number n is = eqb-true n (unwrap_or (keyword_number (codes "pass")) 0) is

-- a statement of this one token
alone_form : (s : Simple) (spot : Spot) (kind : TokenKind) → simple_tokens s ≡ token kind spot ∷ [] → alone_kind kind ≡ true → is_pass_or_text (simple_form s) ≡ true
unfolding text_alone
alone_form s spot (Word bytes) is alone = absurd (false≢true alone)
alone_form s spot (Keyword n) is alone =
    ap (λ (x : Simple). is_pass_or_text (simple_form x)) (one_simple s (pass spot) (is ∙ ap (λ (k : ℕ). token (Keyword k) spot ∷ []) (pass_number n alone)))
alone_form s spot (Number n) is alone = absurd (false≢true alone)
alone_form s spot (Text bytes) is alone = ap (λ (x : Simple). is_pass_or_text (simple_form x)) (one_simple s (text_alone spot bytes) is)
alone_form s spot (Sign n) is alone = absurd (false≢true alone)

alone_told : (s : Simple) (ts : List Token) → simple_tokens s ≡ ts → are_alone ts ≡ true → is_pass_or_text (simple_form s) ≡ true
alone_told s [] is alone = absurd (false≢true alone)
alone_told s (t ∷ []) is alone = alone_form s (record { at = t.at; span = t.span }) t.kind is alone
alone_told s (t ∷ u ∷ ts) is alone = absurd (false≢true alone)

or_told : (a b c : Bool) → (b ≡ true → c ≡ true) → (a || b) ≡ true → (a || c) ≡ true
or_told true b c told is = refl
or_told false b c told is = told is

form_is : (around : Around) (s : Simple) → form_is_placed around (simple_form s) ≡ ((not around.in_class || is_pass_or_text (simple_form s)) && form_stands around (simple_form s))
form_is around (expression e) = refl
form_is around (assign t equals e) = refl
form_is around (augmented t op at e) = refl
form_is around (del at t) = refl
form_is around (pass at) = refl
form_is around (break at) = refl
form_is around (continue at) = refl
form_is around (return at) = refl
form_is around (return_value at e) = refl
form_is around (raise at) = refl
form_is around (raise_value at e) = refl
form_is around (assert at e) = refl
form_is around (assert_message at e comma message) = refl
form_is around (import_module at module_at bytes) = refl

of_tokens : (around : Around) (tokens : List Token) (to : ℕ) (form : FormTree) → stmt_is_placed around (stmt_of_tokens tokens to form) ≡ form_is_placed around form
of_tokens around [] to form = refl
of_tokens around (t ∷ ts) to form = refl

simple_told : (around : Around) (to : ℕ) (s : Simple) → simple_stands around s ≡ true → stmt_is_placed around (simple_tree to s) ≡ true
simple_told around to s stands =
    let parts = and_parts (not around.in_class || are_alone (simple_tokens s)) (form_stands around (simple_form s)) stands in
    of_tokens around (simple_tokens s) to (simple_form s)
    ∙ (form_is around s
    ∙ both (not around.in_class || is_pass_or_text (simple_form s)) (form_stands around (simple_form s))
    (or_told (not around.in_class) (are_alone (simple_tokens s)) (is_pass_or_text (simple_form s)) (alone_told s (simple_tokens s) refl) parts.0) parts.1)

one_placed : (around : Around) (t : StmtTree) → stmt_is_placed around t ≡ true → suite_is_placed around (more_suite t end_suite) ≡ true
one_placed around t is = both (stmt_is_placed around t) true is refl

-- ---- the statements of what is written

none_both : (given a b : List (List ℕ)) → none_given given a ≡ true → none_given given b ≡ true → none_given given (a ++ b) ≡ true
none_both given [] b one two = two
none_both given (name ∷ a) b one two =
    let parts = and_parts (not (is_in name given)) (none_given given a) one in
    both (not (is_in name given)) (none_given given (a ++ b)) parts.0 (none_both given a b parts.1 two)

kind_told : (kind : Kind) → has_class kind ≡ true → is_some (kind_class kind) ≡ true
kind_told every_kind is = absurd (false≢true is)
kind_told (one_kind e called) is = refl

or_left : (a b : Bool) → a ≡ true → (a || b) ≡ true
or_left a b is = ap (λ (x : Bool). x || b) is

or_right : (a b : Bool) → b ≡ true → (a || b) ≡ true
or_right true b is = refl
or_right false b is = is

mutual
  stmt_told : (around : Around) (s : Stmt) → stmt_stands around s ≡ true → stmt_is_placed around (stmt_tree s) ≡ true
  stmt_told around (simple line s) stands = simple_told around line.span.to s stands
  stmt_told around (if_stmt line at test colon suite elifs orelse) stands =
      let one = and_parts (not around.in_class && suite_stands (in_suite around) suite && elifs_stand (in_suite around) elifs) (else_stands (in_suite around) orelse) stands in
      let two = and_parts (not around.in_class && suite_stands (in_suite around) suite) (elifs_stand (in_suite around) elifs) one.0 in
      let three = and_parts (not around.in_class) (suite_stands (in_suite around) suite) two.0 in
      both (not around.in_class && (suite_is_placed (in_suite around) (suite_tree line suite) && branches_are_placed (in_suite around) (elif_trees elifs))) (else_is_placed (in_suite around) (else_tree orelse))
      (both (not around.in_class) (suite_is_placed (in_suite around) (suite_tree line suite) && branches_are_placed (in_suite around) (elif_trees elifs)) three.0
      (both (suite_is_placed (in_suite around) (suite_tree line suite)) (branches_are_placed (in_suite around) (elif_trees elifs)) (suite_told (in_suite around) line suite three.1) (elifs_told (in_suite around) elifs two.1)))
      (else_told (in_suite around) orelse one.1)
  stmt_told around (while_stmt line at test colon suite) stands =
      let parts = and_parts (not around.in_class) (suite_stands (in_loop_suite around) suite) stands in
      both (not around.in_class) (suite_is_placed (in_loop_suite around) (suite_tree line suite)) parts.0 (suite_told (in_loop_suite around) line suite parts.1)
  stmt_told around (for_stmt line at t in_word e colon suite) stands =
      let parts = and_parts (not around.in_class) (suite_stands (in_loop_suite around) suite) stands in
      both (not around.in_class) (suite_is_placed (in_loop_suite around) (suite_tree line suite)) parts.0 (suite_told (in_loop_suite around) line suite parts.1)
  stmt_told around (try_stmt line at colon suite handlers) stands =
      let one = and_parts (not around.in_class && suite_stands (in_suite around) suite) (handlers_stand (in_handler_suite around) handlers) stands in
      let two = and_parts (not around.in_class) (suite_stands (in_suite around) suite) one.0 in
      both (not around.in_class && suite_is_placed (in_suite around) (suite_tree line suite)) (handlers_are_placed (in_handler_suite around) (handler_trees handlers))
      (both (not around.in_class) (suite_is_placed (in_suite around) (suite_tree line suite)) two.0 (suite_told (in_suite around) line suite two.1))
      (handlers_told (in_handler_suite around) handlers one.1)
  stmt_told around (with_stmt line at e called colon suite) stands =
      let parts = and_parts (not around.in_class) (suite_stands (in_suite around) suite) stands in
      both (not around.in_class) (suite_is_placed (in_suite around) (suite_tree line suite)) parts.0 (suite_told (in_suite around) line suite parts.1)
  stmt_told around (def_stmt line at name_at bytes opening given closing colon suite) stands =
      let parts = and_parts (def_stands around bytes (params_list given)) (def_suite_stands (params_list given) suite) stands in
      let inside = def_told (params_list given) line suite parts.1 in
      both (def_stands around bytes (params_list given) && none_given (params_list given) (globals_of suite)) (suite_is_placed in_def_suite (def_tree line suite))
      (both (def_stands around bytes (params_list given)) (none_given (params_list given) (globals_of suite)) parts.0 inside.0) inside.1
  stmt_told around (class_stmt line at name_at bytes of colon suite) stands =
      let parts = and_parts around.at_module_level (suite_stands in_class_suite suite) stands in
      both around.at_module_level (suite_is_placed in_class_suite (suite_tree line suite)) parts.0 (suite_told in_class_suite line suite parts.1)

  suite_told : (around : Around) (line : Line) (s : Suite) → suite_stands around s ≡ true → suite_is_placed around (suite_tree line s) ≡ true
  suite_told around line (on_line s) stands = one_placed around (simple_tree line.span.to s) (simple_told around line.span.to s stands)
  suite_told around line (block inside body) stands = body_told around body stands

  body_told : (around : Around) (s : Body) → body_stands around s ≡ true → suite_is_placed around (body_tree s) ≡ true
  body_told around (last_stmt s) stands = one_placed around (stmt_tree s) (stmt_told around s stands)
  body_told around (more_stmt s rest) stands =
      let parts = and_parts (stmt_stands around s) (body_stands around rest) stands in
      both (stmt_is_placed around (stmt_tree s)) (suite_is_placed around (body_tree rest)) (stmt_told around s parts.0) (body_told around rest parts.1)

  elifs_told : (around : Around) (s : Elifs) → elifs_stand around s ≡ true → branches_are_placed around (elif_trees s) ≡ true
  elifs_told around no_elif stands = refl
  elifs_told around (elif line at test colon suite rest) stands =
      let parts = and_parts (suite_stands around suite) (elifs_stand around rest) stands in
      both (suite_is_placed around (suite_tree line suite)) (branches_are_placed around (elif_trees rest)) (suite_told around line suite parts.0) (elifs_told around rest parts.1)

  else_told : (around : Around) (s : Else) → else_stands around s ≡ true → else_is_placed around (else_tree s) ≡ true
  else_told around no_else_part stands = refl
  else_told around (else_part line at colon suite) stands = suite_told around line suite stands

  handlers_told : (around : Around) (s : Handlers) → handlers_stand around s ≡ true → handlers_are_placed around (handler_trees s) ≡ true
  handlers_told around (last_handler line at kind colon suite) stands =
      both ((is_some (kind_class kind) || true) && suite_is_placed around (suite_tree line suite)) true
      (both (is_some (kind_class kind) || true) (suite_is_placed around (suite_tree line suite)) (or_right (is_some (kind_class kind)) true refl) (suite_told around line suite stands)) refl
  handlers_told around (more_handler line at kind colon suite rest) stands =
      let one = and_parts (has_class kind && suite_stands around suite) (handlers_stand around rest) stands in
      let two = and_parts (has_class kind) (suite_stands around suite) one.0 in
      both ((is_some (kind_class kind) || are_no_handlers (handler_trees rest)) && suite_is_placed around (suite_tree line suite)) (handlers_are_placed around (handler_trees rest))
      (both (is_some (kind_class kind) || are_no_handlers (handler_trees rest)) (suite_is_placed around (suite_tree line suite))
      (or_left (is_some (kind_class kind)) (are_no_handlers (handler_trees rest)) (kind_told kind two.0)) (suite_told around line suite two.1))
      (handlers_told around rest one.1)

  def_told : (given : List (List ℕ)) (line : Line) (s : DefSuite) → def_suite_stands given s ≡ true → (none_given given (globals_of s) ≡ true) × (suite_is_placed in_def_suite (def_tree line s) ≡ true)
  def_told given line (def_line s) stands = (refl, one_placed in_def_suite (simple_tree line.span.to s) (simple_told in_def_suite line.span.to s stands))
  def_told given line (def_block inside body) stands = def_body_told given true body stands

  def_body_told : (given : List (List ℕ)) (may_declare : Bool) (s : DefBody) → def_body_stands given may_declare s ≡ true → (none_given given (def_globals s) ≡ true) × (suite_is_placed in_def_suite (def_body_tree s) ≡ true)
  def_body_told given may_declare end_def stands = (refl, refl)
  def_body_told given may_declare (stmt_in_def s rest) stands =
      let parts = and_parts (stmt_stands in_def_suite s) (def_body_stands given (may_declare && is_alone s) rest) stands in
      let later = def_body_told given (may_declare && is_alone s) rest parts.1 in
      (later.0, both (stmt_is_placed in_def_suite (stmt_tree s)) (suite_is_placed in_def_suite (def_body_tree rest)) (stmt_told in_def_suite s parts.0) later.1)
  def_body_told given may_declare (global_in_def line at names rest) stands =
      let one = and_parts (may_declare && none_given given (names_list names)) (def_body_stands given may_declare rest) stands in
      let two = and_parts may_declare (none_given given (names_list names)) one.0 in
      let later = def_body_told given may_declare rest one.1 in
      (none_both given (names_list names) (def_globals rest) two.1 later.0, later.1)

script_told : (s : Script) → script_stands s ≡ true → suite_is_placed module_level (script_body s) ≡ true
script_told empty_script stands = refl
script_told (script body) stands = body_told module_level body stands

-- ---- numbers do not matter

no_handlers_same : (n : ℕ) (t : HandlersTree) → are_no_handlers (numbered_handlers n t) ≡ are_no_handlers t
no_handlers_same n end_handlers = refl
no_handlers_same n (more_handlers kind bound body rest) = refl

mutual
  suite_same : (around : Around) (n : ℕ) (t : SuiteTree) → suite_is_placed around (numbered_suite n t) ≡ suite_is_placed around t
  suite_same around n end_suite = refl
  suite_same around n (more_suite s rest) =
      same_and (stmt_is_placed around (numbered_stmt n s)) (stmt_is_placed around s) (suite_is_placed around (numbered_suite (n + size_stmt s) rest)) (suite_is_placed around rest)
      (stmt_same around n s) (suite_same around (n + size_stmt s) rest)

  stmt_same : (around : Around) (n : ℕ) (t : StmtTree) → stmt_is_placed around (numbered_stmt n t) ≡ stmt_is_placed around t
  stmt_same around n (one_stmt number at span form) = form_same around (n + 1) form

  form_same : (around : Around) (n : ℕ) (t : FormTree) → form_is_placed around (numbered_form n t) ≡ form_is_placed around t
  form_same around n (if_form branches orelse) =
      same_and (not around.in_class && branches_are_placed (in_suite around) (numbered_branches n branches)) (not around.in_class && branches_are_placed (in_suite around) branches)
      (else_is_placed (in_suite around) (numbered_else (n + size_branches branches) orelse)) (else_is_placed (in_suite around) orelse)
      (ap (λ (x : Bool). not around.in_class && x) (branches_same (in_suite around) n branches)) (else_same (in_suite around) (n + size_branches branches) orelse)
  form_same around n (while_form test body) = ap (λ (x : Bool). not around.in_class && x) (suite_same (in_loop_suite around) n body)
  form_same around n (for_form target items body) = ap (λ (x : Bool). not around.in_class && x) (suite_same (in_loop_suite around) n body)
  form_same around n (try_form body handlers) =
      same_and (not around.in_class && suite_is_placed (in_suite around) (numbered_suite n body)) (not around.in_class && suite_is_placed (in_suite around) body)
      (handlers_are_placed (in_handler_suite around) (numbered_handlers (n + size_suite body) handlers)) (handlers_are_placed (in_handler_suite around) handlers)
      (ap (λ (x : Bool). not around.in_class && x) (suite_same (in_suite around) n body)) (handlers_same (in_handler_suite around) (n + size_suite body) handlers)
  form_same around n (with_form value bound body) = ap (λ (x : Bool). not around.in_class && x) (suite_same (in_suite around) n body)
  form_same around n (def_form name params globals body) = ap (λ (x : Bool). (def_stands around name params && none_given params globals) && x) (suite_same in_def_suite n body)
  form_same around n (class_form name base body) = ap (λ (x : Bool). around.at_module_level && x) (suite_same in_class_suite n body)
  form_same around n form = refl

  branches_same : (around : Around) (n : ℕ) (t : BranchesTree) → branches_are_placed around (numbered_branches n t) ≡ branches_are_placed around t
  branches_same around n end_branches = refl
  branches_same around n (more_branches test body rest) =
      same_and (suite_is_placed around (numbered_suite n body)) (suite_is_placed around body) (branches_are_placed around (numbered_branches (n + size_suite body) rest)) (branches_are_placed around rest)
      (suite_same around n body) (branches_same around (n + size_suite body) rest)

  else_same : (around : Around) (n : ℕ) (t : ElseTree) → else_is_placed around (numbered_else n t) ≡ else_is_placed around t
  else_same around n no_else = refl
  else_same around n (else_suite body) = suite_same around n body

  handlers_same : (around : Around) (n : ℕ) (t : HandlersTree) → handlers_are_placed around (numbered_handlers n t) ≡ handlers_are_placed around t
  handlers_same around n end_handlers = refl
  handlers_same around n (more_handlers kind bound body rest) =
      same_and ((is_some kind || are_no_handlers (numbered_handlers (n + size_suite body) rest)) && suite_is_placed around (numbered_suite n body)) ((is_some kind || are_no_handlers rest) && suite_is_placed around body)
      (handlers_are_placed around (numbered_handlers (n + size_suite body) rest)) (handlers_are_placed around rest)
      (same_and (is_some kind || are_no_handlers (numbered_handlers (n + size_suite body) rest)) (is_some kind || are_no_handlers rest) (suite_is_placed around (numbered_suite n body)) (suite_is_placed around body)
      (ap (λ (x : Bool). is_some kind || x) (no_handlers_same (n + size_suite body) rest)) (suite_same around n body))
      (handlers_same around (n + size_suite body) rest)

pub tree_is_placed : (language : Language) (lines : List Line) (tree : ScriptTree) → IsScriptIn language lines tree → IsTrue (is_placed_in language tree)
tree_is_placed language_one lines tree is =
    ap (λ (t : ScriptTree). suite_is_placed module_level t.body) is.grammar.tree_is
    ∙ (suite_same module_level 0 (script_body is.grammar.written)
    ∙ script_told is.grammar.written is.stands)

-- ---- a deletion

pass_placed : (class_around : Bool) → ((not class_around || true) && true) ≡ true
pass_placed true = refl
pass_placed false = refl

or_pass_placed : (around : Around) (body kept : SuiteTree) → suite_is_placed around kept ≡ true → suite_is_placed around (or_pass body kept) ≡ true
or_pass_placed around end_suite end_suite is = is
or_pass_placed around end_suite (more_suite s others) is = is
or_pass_placed around (more_suite (one_stmt number at span form) rest) end_suite is = one_placed around (one_stmt number at span pass_form) (pass_placed around.in_class)
or_pass_placed around (more_suite (one_stmt number at span form) rest) (more_suite s others) is = is

no_handlers_kept : (keep : ℕ → Bool) (t : HandlersTree) → are_no_handlers (kept_handlers keep t) ≡ are_no_handlers t
no_handlers_kept keep end_handlers = refl
no_handlers_kept keep (more_handlers kind bound body rest) = refl

chosen : (around : Around) (b : Bool) (s : StmtTree) (rest : SuiteTree) → stmt_is_placed around s ≡ true → suite_is_placed around rest ≡ true → suite_is_placed around (if b then more_suite s rest else rest) ≡ true
chosen around true s rest one two = both (stmt_is_placed around s) (suite_is_placed around rest) one two
chosen around false s rest one two = two

mutual
  suite_kept : (keep : ℕ → Bool) (around : Around) (t : SuiteTree) → suite_is_placed around t ≡ true → suite_is_placed around (kept_suite keep t) ≡ true
  suite_kept keep around end_suite is = refl
  suite_kept keep around (more_suite s rest) is =
      let parts = and_parts (stmt_is_placed around s) (suite_is_placed around rest) is in
      chosen around (keep (number_of s)) (kept_stmt keep s) (kept_suite keep rest) (stmt_kept keep around s parts.0) (suite_kept keep around rest parts.1)

  -- of a suite whose owner stays
  inner_kept : (keep : ℕ → Bool) (around : Around) (t : SuiteTree) → suite_is_placed around t ≡ true → suite_is_placed around (or_pass t (kept_suite keep t)) ≡ true
  inner_kept keep around end_suite is = refl
  inner_kept keep around (more_suite s rest) is =
      let parts = and_parts (stmt_is_placed around s) (suite_is_placed around rest) is in
      or_pass_placed around (more_suite s rest) (if keep (number_of s) then more_suite (kept_stmt keep s) (kept_suite keep rest) else kept_suite keep rest)
      (chosen around (keep (number_of s)) (kept_stmt keep s) (kept_suite keep rest) (stmt_kept keep around s parts.0) (suite_kept keep around rest parts.1))

  stmt_kept : (keep : ℕ → Bool) (around : Around) (t : StmtTree) → stmt_is_placed around t ≡ true → stmt_is_placed around (kept_stmt keep t) ≡ true
  stmt_kept keep around (one_stmt number at span form) is = form_kept keep around form is

  form_kept : (keep : ℕ → Bool) (around : Around) (t : FormTree) → form_is_placed around t ≡ true → form_is_placed around (kept_form keep t) ≡ true
  form_kept keep around (if_form branches orelse) is =
      let one = and_parts (not around.in_class && branches_are_placed (in_suite around) branches) (else_is_placed (in_suite around) orelse) is in
      let two = and_parts (not around.in_class) (branches_are_placed (in_suite around) branches) one.0 in
      both (not around.in_class && branches_are_placed (in_suite around) (kept_branches keep branches)) (else_is_placed (in_suite around) (kept_else keep orelse))
      (both (not around.in_class) (branches_are_placed (in_suite around) (kept_branches keep branches)) two.0 (branches_kept keep (in_suite around) branches two.1))
      (else_kept keep (in_suite around) orelse one.1)
  form_kept keep around (while_form test body) is =
      let parts = and_parts (not around.in_class) (suite_is_placed (in_loop_suite around) body) is in
      both (not around.in_class) (suite_is_placed (in_loop_suite around) (or_pass body (kept_suite keep body))) parts.0 (inner_kept keep (in_loop_suite around) body parts.1)
  form_kept keep around (for_form target items body) is =
      let parts = and_parts (not around.in_class) (suite_is_placed (in_loop_suite around) body) is in
      both (not around.in_class) (suite_is_placed (in_loop_suite around) (or_pass body (kept_suite keep body))) parts.0 (inner_kept keep (in_loop_suite around) body parts.1)
  form_kept keep around (try_form body handlers) is =
      let one = and_parts (not around.in_class && suite_is_placed (in_suite around) body) (handlers_are_placed (in_handler_suite around) handlers) is in
      let two = and_parts (not around.in_class) (suite_is_placed (in_suite around) body) one.0 in
      both (not around.in_class && suite_is_placed (in_suite around) (or_pass body (kept_suite keep body))) (handlers_are_placed (in_handler_suite around) (kept_handlers keep handlers))
      (both (not around.in_class) (suite_is_placed (in_suite around) (or_pass body (kept_suite keep body))) two.0 (inner_kept keep (in_suite around) body two.1))
      (handlers_kept keep (in_handler_suite around) handlers one.1)
  form_kept keep around (with_form value bound body) is =
      let parts = and_parts (not around.in_class) (suite_is_placed (in_suite around) body) is in
      both (not around.in_class) (suite_is_placed (in_suite around) (or_pass body (kept_suite keep body))) parts.0 (inner_kept keep (in_suite around) body parts.1)
  form_kept keep around (def_form name params globals body) is =
      let parts = and_parts (def_stands around name params && none_given params globals) (suite_is_placed in_def_suite body) is in
      both (def_stands around name params && none_given params globals) (suite_is_placed in_def_suite (or_pass body (kept_suite keep body))) parts.0 (inner_kept keep in_def_suite body parts.1)
  form_kept keep around (class_form name base body) is =
      let parts = and_parts around.at_module_level (suite_is_placed in_class_suite body) is in
      both around.at_module_level (suite_is_placed in_class_suite (or_pass body (kept_suite keep body))) parts.0 (inner_kept keep in_class_suite body parts.1)
  form_kept keep around form is = is

  branches_kept : (keep : ℕ → Bool) (around : Around) (t : BranchesTree) → branches_are_placed around t ≡ true → branches_are_placed around (kept_branches keep t) ≡ true
  branches_kept keep around end_branches is = refl
  branches_kept keep around (more_branches test body rest) is =
      let parts = and_parts (suite_is_placed around body) (branches_are_placed around rest) is in
      both (suite_is_placed around (or_pass body (kept_suite keep body))) (branches_are_placed around (kept_branches keep rest)) (inner_kept keep around body parts.0) (branches_kept keep around rest parts.1)

  else_kept : (keep : ℕ → Bool) (around : Around) (t : ElseTree) → else_is_placed around t ≡ true → else_is_placed around (kept_else keep t) ≡ true
  else_kept keep around no_else is = refl
  else_kept keep around (else_suite body) is = inner_kept keep around body is

  handlers_kept : (keep : ℕ → Bool) (around : Around) (t : HandlersTree) → handlers_are_placed around t ≡ true → handlers_are_placed around (kept_handlers keep t) ≡ true
  handlers_kept keep around end_handlers is = refl
  handlers_kept keep around (more_handlers kind bound body rest) is =
      let one = and_parts ((is_some kind || are_no_handlers rest) && suite_is_placed around body) (handlers_are_placed around rest) is in
      let two = and_parts (is_some kind || are_no_handlers rest) (suite_is_placed around body) one.0 in
      both ((is_some kind || are_no_handlers (kept_handlers keep rest)) && suite_is_placed around (or_pass body (kept_suite keep body))) (handlers_are_placed around (kept_handlers keep rest))
      (both (is_some kind || are_no_handlers (kept_handlers keep rest)) (suite_is_placed around (or_pass body (kept_suite keep body)))
      (ap (λ (b : Bool). is_some kind || b) (no_handlers_kept keep rest) ∙ two.0) (inner_kept keep around body two.1))
      (handlers_kept keep around rest one.1)

pub deleted_is_placed : (language : Language) (keep : ℕ → Bool) (tree : ScriptTree) → IsTrue (is_placed_in language tree) → IsTrue (is_placed_in language (deleted keep tree))
deleted_is_placed language_one keep tree is = suite_same module_level 0 (kept_suite keep tree.body) ∙ suite_kept keep module_level tree.body is
