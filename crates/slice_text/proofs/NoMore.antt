-- Of what is written anew no more is asked than of the old: it stands where that stands, and lies no deeper.
use Rattle.std.proofs.Common.{◌≡◌, ℕ, ◌+◌, ◌≤◌, Bool, true, ◌&&◌, not, List, refl, ap, ◌∙◌, arith}
use Rattle.std.specs.Prelude.{max}
use Rattle.std.proofs.lemmas.Bool.{false≢true, and_parts}
use Rattle.py_lines.specs.declared.parts.Line.{Line}
use Rattle.py_expressions.specs.Concrete.{Spot, Expr, Exprs}
use Rattle.py_expressions.specs.Depth.{expr_depth, exprs_depth}
use Rattle.py_expressions.specs.Targets.{Target}
use Rattle.py_grammar.specs.Written.{Simple, Names, Params, Naming, Kind, Base, Stmt, simple, if_stmt, while_stmt, for_stmt, try_stmt, with_stmt, def_stmt, class_stmt, Suite, on_line, block, Body, last_stmt, more_stmt, Elifs, no_elif, elif, Else, no_else_part, else_part, Handlers, last_handler, more_handler, DefSuite, def_line, def_block, DefBody, end_def, stmt_in_def, global_in_def, Script}
use Rattle.py_grammar.specs.StatementTokens.{simple_tokens}
use Rattle.py_grammar.specs.StatementTrees.{params_list, names_list}
use Rattle.py_grammar.specs.StatementDepth.{target_depth, simple_depth, kind_depth, stmt_expr_depth, suite_expr_depth, body_expr_depth, elif_expr_depth, else_expr_depth, handler_expr_depth, def_expr_depth, suites_in, suite_depth, body_depth, elif_depth, else_depth, handler_depth, def_depth}
use Rattle.py_grammar.specs.Limits.{script_expr_depth, script_suites}
use Rattle.py_grammar.specs.WellPlaced.{Around, in_suite, in_loop_suite, in_handler_suite, in_def_suite, in_class_suite, are_alone, simple_stands, is_alone, def_stands, none_given, has_class, stmt_stands, suite_stands, body_stands, elifs_stand, else_stands, handlers_stand, def_suite_stands, def_body_stands, script_stands}

pub both : (a b : Bool) → a ≡ true → b ≡ true → (a && b) ≡ true
both a b one two = ap (λ (x : Bool). x && b) one ∙ two

pub max_both : (a b c d : ℕ) → a ≤ c → b ≤ d → max a b ≤ max c d
max_both a b c d one two = omega (arith, one, two)

-- ---- what no more is asked of

pub record SimpleNoMore (new old : Simple) : Type 0 where
  pub stands : (around : Around) → simple_stands around old ≡ true → simple_stands around new ≡ true
  pub alone : are_alone (simple_tokens old) ≡ true → are_alone (simple_tokens new) ≡ true
  pub low : simple_depth new ≤ simple_depth old

pub record StmtNoMore (new old : Stmt) : Type 0 where
  pub stands : (around : Around) → stmt_stands around old ≡ true → stmt_stands around new ≡ true
  pub alone : is_alone old ≡ true → is_alone new ≡ true
  pub low : stmt_expr_depth new ≤ stmt_expr_depth old
  pub deep : suites_in new ≤ suites_in old

pub record SuiteNoMore (new old : Suite) : Type 0 where
  pub stands : (around : Around) → suite_stands around old ≡ true → suite_stands around new ≡ true
  pub low : suite_expr_depth new ≤ suite_expr_depth old
  pub deep : suite_depth new ≤ suite_depth old

pub record BodyNoMore (new old : Body) : Type 0 where
  pub stands : (around : Around) → body_stands around old ≡ true → body_stands around new ≡ true
  pub low : body_expr_depth new ≤ body_expr_depth old
  pub deep : body_depth new ≤ body_depth old

pub record ElifsNoMore (new old : Elifs) : Type 0 where
  pub stands : (around : Around) → elifs_stand around old ≡ true → elifs_stand around new ≡ true
  pub low : elif_expr_depth new ≤ elif_expr_depth old
  pub deep : elif_depth new ≤ elif_depth old

pub record ElseNoMore (new old : Else) : Type 0 where
  pub stands : (around : Around) → else_stands around old ≡ true → else_stands around new ≡ true
  pub low : else_expr_depth new ≤ else_expr_depth old
  pub deep : else_depth new ≤ else_depth old

pub record HandlersNoMore (new old : Handlers) : Type 0 where
  pub stands : (around : Around) → handlers_stand around old ≡ true → handlers_stand around new ≡ true
  pub low : handler_expr_depth new ≤ handler_expr_depth old
  pub deep : handler_depth new ≤ handler_depth old

abbrev pub def_suite_low : DefSuite → ℕ
def_suite_low (def_line s) = simple_depth s
def_suite_low (def_block inside body) = def_expr_depth body

abbrev pub def_suite_deep : DefSuite → ℕ
def_suite_deep (def_line s) = 1
def_suite_deep (def_block inside body) = 1 + def_depth body

pub record DefNoMore (new old : DefSuite) : Type 0 where
  pub stands : (given : List (List ℕ)) → def_suite_stands given old ≡ true → def_suite_stands given new ≡ true
  pub low : def_suite_low new ≤ def_suite_low old
  pub deep : def_suite_deep new ≤ def_suite_deep old

pub record DefBodyNoMore (new old : DefBody) : Type 0 where
  pub stands : (given : List (List ℕ)) (a b : Bool) → (a ≡ true → b ≡ true) → def_body_stands given a old ≡ true → def_body_stands given b new ≡ true
  pub low : def_expr_depth new ≤ def_expr_depth old
  pub deep : def_depth new ≤ def_depth old

pub record ScriptNoMore (new old : Script) : Type 0 where
  pub stands : script_stands old ≡ true → script_stands new ≡ true
  pub low : script_expr_depth new ≤ script_expr_depth old
  pub deep : script_suites new ≤ script_suites old

-- ---- statements from their parts

module _ (line' line : Line) (at' at colon' colon : Spot) where
  pub while_no_more : (test' test : Expr) (suite' suite : Suite) → expr_depth test' ≤ expr_depth test → SuiteNoMore suite' suite → StmtNoMore (while_stmt line' at' test' colon' suite') (while_stmt line at test colon suite)
  while_no_more test' test suite' suite one two = record {
    stands = λ around is. let parts = and_parts (not around.in_class) (suite_stands (in_loop_suite around) suite) is in both (not around.in_class) (suite_stands (in_loop_suite around) suite') parts.0 (two.stands (in_loop_suite around) parts.1);
    alone = λ is. absurd (false≢true is);
    low = max_both (expr_depth test') (suite_expr_depth suite') (expr_depth test) (suite_expr_depth suite) one two.low;
    deep = two.deep;
  }

  pub if_no_more : (test' test : Expr) (suite' suite : Suite) (elifs' elifs : Elifs) (orelse' orelse : Else) → expr_depth test' ≤ expr_depth test → SuiteNoMore suite' suite → ElifsNoMore elifs' elifs → ElseNoMore orelse' orelse
      → StmtNoMore (if_stmt line' at' test' colon' suite' elifs' orelse') (if_stmt line at test colon suite elifs orelse)
  if_no_more test' test suite' suite elifs' elifs orelse' orelse one two three four = record {
    stands = λ around is.
        let first = and_parts (not around.in_class && suite_stands (in_suite around) suite && elifs_stand (in_suite around) elifs) (else_stands (in_suite around) orelse) is in
        let second = and_parts (not around.in_class && suite_stands (in_suite around) suite) (elifs_stand (in_suite around) elifs) first.0 in
        let third = and_parts (not around.in_class) (suite_stands (in_suite around) suite) second.0 in
        both (not around.in_class && suite_stands (in_suite around) suite' && elifs_stand (in_suite around) elifs') (else_stands (in_suite around) orelse')
        (both (not around.in_class && suite_stands (in_suite around) suite') (elifs_stand (in_suite around) elifs')
        (both (not around.in_class) (suite_stands (in_suite around) suite') third.0 (two.stands (in_suite around) third.1)) (three.stands (in_suite around) second.1))
        (four.stands (in_suite around) first.1);
    alone = λ is. absurd (false≢true is);
    low = max_both (expr_depth test') (max (suite_expr_depth suite') (max (elif_expr_depth elifs') (else_expr_depth orelse'))) (expr_depth test) (max (suite_expr_depth suite) (max (elif_expr_depth elifs) (else_expr_depth orelse))) one
        (max_both (suite_expr_depth suite') (max (elif_expr_depth elifs') (else_expr_depth orelse')) (suite_expr_depth suite) (max (elif_expr_depth elifs) (else_expr_depth orelse)) two.low
        (max_both (elif_expr_depth elifs') (else_expr_depth orelse') (elif_expr_depth elifs) (else_expr_depth orelse) three.low four.low));
    deep = max_both (suite_depth suite') (max (elif_depth elifs') (else_depth orelse')) (suite_depth suite) (max (elif_depth elifs) (else_depth orelse)) two.deep (max_both (elif_depth elifs') (else_depth orelse') (elif_depth elifs) (else_depth orelse) three.deep four.deep);
  }

  pub for_no_more : (t' t : Target) (in_word' in_word : Spot) (e' e : Exprs) (suite' suite : Suite) → target_depth t' ≤ target_depth t → exprs_depth e' ≤ exprs_depth e → SuiteNoMore suite' suite
      → StmtNoMore (for_stmt line' at' t' in_word' e' colon' suite') (for_stmt line at t in_word e colon suite)
  for_no_more t' t in_word' in_word e' e suite' suite one two three = record {
    stands = λ around is. let parts = and_parts (not around.in_class) (suite_stands (in_loop_suite around) suite) is in both (not around.in_class) (suite_stands (in_loop_suite around) suite') parts.0 (three.stands (in_loop_suite around) parts.1);
    alone = λ is. absurd (false≢true is);
    low = max_both (max (target_depth t') (exprs_depth e')) (suite_expr_depth suite') (max (target_depth t) (exprs_depth e)) (suite_expr_depth suite) (max_both (target_depth t') (exprs_depth e') (target_depth t) (exprs_depth e) one two) three.low;
    deep = three.deep;
  }

  pub try_no_more : (suite' suite : Suite) (handlers' handlers : Handlers) → SuiteNoMore suite' suite → HandlersNoMore handlers' handlers → StmtNoMore (try_stmt line' at' colon' suite' handlers') (try_stmt line at colon suite handlers)
  try_no_more suite' suite handlers' handlers one two = record {
    stands = λ around is.
        let first = and_parts (not around.in_class && suite_stands (in_suite around) suite) (handlers_stand (in_handler_suite around) handlers) is in
        let second = and_parts (not around.in_class) (suite_stands (in_suite around) suite) first.0 in
        both (not around.in_class && suite_stands (in_suite around) suite') (handlers_stand (in_handler_suite around) handlers')
        (both (not around.in_class) (suite_stands (in_suite around) suite') second.0 (one.stands (in_suite around) second.1)) (two.stands (in_handler_suite around) first.1);
    alone = λ is. absurd (false≢true is);
    low = max_both (suite_expr_depth suite') (handler_expr_depth handlers') (suite_expr_depth suite) (handler_expr_depth handlers) one.low two.low;
    deep = max_both (suite_depth suite') (handler_depth handlers') (suite_depth suite) (handler_depth handlers) one.deep two.deep;
  }

  pub with_no_more : (e' e : Expr) (called' called : Naming) (suite' suite : Suite) → expr_depth e' ≤ expr_depth e → SuiteNoMore suite' suite → StmtNoMore (with_stmt line' at' e' called' colon' suite') (with_stmt line at e called colon suite)
  with_no_more e' e called' called suite' suite one two = record {
    stands = λ around is. let parts = and_parts (not around.in_class) (suite_stands (in_suite around) suite) is in both (not around.in_class) (suite_stands (in_suite around) suite') parts.0 (two.stands (in_suite around) parts.1);
    alone = λ is. absurd (false≢true is);
    low = max_both (expr_depth e') (suite_expr_depth suite') (expr_depth e) (suite_expr_depth suite) one two.low;
    deep = two.deep;
  }

  pub class_no_more : (name_at' name_at : Spot) (bytes : List ℕ) (of' of : Base) (suite' suite : Suite) → SuiteNoMore suite' suite → StmtNoMore (class_stmt line' at' name_at' bytes of' colon' suite') (class_stmt line at name_at bytes of colon suite)
  class_no_more name_at' name_at bytes of' of suite' suite one = record {
    stands = λ around is. let parts = and_parts around.at_module_level (suite_stands in_class_suite suite) is in both around.at_module_level (suite_stands in_class_suite suite') parts.0 (one.stands in_class_suite parts.1);
    alone = λ is. absurd (false≢true is);
    low = max_both 1 (suite_expr_depth suite') 1 (suite_expr_depth suite) (omega arith) one.low;
    deep = one.deep;
  }

  pub elif_no_more : (test' test : Expr) (suite' suite : Suite) (rest' rest : Elifs) → expr_depth test' ≤ expr_depth test → SuiteNoMore suite' suite → ElifsNoMore rest' rest → ElifsNoMore (elif line' at' test' colon' suite' rest') (elif line at test colon suite rest)
  elif_no_more test' test suite' suite rest' rest one two three = record {
    stands = λ around is. let parts = and_parts (suite_stands around suite) (elifs_stand around rest) is in both (suite_stands around suite') (elifs_stand around rest') (two.stands around parts.0) (three.stands around parts.1);
    low = max_both (max (expr_depth test') (suite_expr_depth suite')) (elif_expr_depth rest') (max (expr_depth test) (suite_expr_depth suite)) (elif_expr_depth rest) (max_both (expr_depth test') (suite_expr_depth suite') (expr_depth test) (suite_expr_depth suite) one two.low) three.low;
    deep = max_both (suite_depth suite') (elif_depth rest') (suite_depth suite) (elif_depth rest) two.deep three.deep;
  }

  pub else_no_more : (suite' suite : Suite) → SuiteNoMore suite' suite → ElseNoMore (else_part line' at' colon' suite') (else_part line at colon suite)
  else_no_more suite' suite one = record { stands = one.stands; low = one.low; deep = one.deep }

  pub last_no_more : (kind' kind : Kind) (suite' suite : Suite) → kind_depth kind' ≤ kind_depth kind → SuiteNoMore suite' suite → HandlersNoMore (last_handler line' at' kind' colon' suite') (last_handler line at kind colon suite)
  last_no_more kind' kind suite' suite one two = record {
    stands = two.stands;
    low = max_both (kind_depth kind') (suite_expr_depth suite') (kind_depth kind) (suite_expr_depth suite) one two.low;
    deep = two.deep;
  }

  pub handler_no_more : (kind' kind : Kind) (suite' suite : Suite) (rest' rest : Handlers) → (has_class kind ≡ true → has_class kind' ≡ true) → kind_depth kind' ≤ kind_depth kind → SuiteNoMore suite' suite → HandlersNoMore rest' rest
      → HandlersNoMore (more_handler line' at' kind' colon' suite' rest') (more_handler line at kind colon suite rest)
  handler_no_more kind' kind suite' suite rest' rest has one two three = record {
    stands = λ around is.
        let first = and_parts (has_class kind && suite_stands around suite) (handlers_stand around rest) is in
        let second = and_parts (has_class kind) (suite_stands around suite) first.0 in
        both (has_class kind' && suite_stands around suite') (handlers_stand around rest') (both (has_class kind') (suite_stands around suite') (has second.0) (two.stands around second.1)) (three.stands around first.1);
    low = max_both (max (kind_depth kind') (suite_expr_depth suite')) (handler_expr_depth rest') (max (kind_depth kind) (suite_expr_depth suite)) (handler_expr_depth rest) (max_both (kind_depth kind') (suite_expr_depth suite') (kind_depth kind) (suite_expr_depth suite) one two.low) three.low;
    deep = max_both (suite_depth suite') (handler_depth rest') (suite_depth suite) (handler_depth rest) two.deep three.deep;
  }

  def_low : (name_at opening closing : Spot) (bytes : List ℕ) (names : Params) (suite : DefSuite) → stmt_expr_depth (def_stmt line at name_at bytes opening names closing colon suite) ≡ def_suite_low suite
  def_low name_at opening closing bytes names (def_line s) = refl
  def_low name_at opening closing bytes names (def_block inside body) = refl

  def_low' : (name_at opening closing : Spot) (bytes : List ℕ) (names : Params) (suite : DefSuite) → stmt_expr_depth (def_stmt line' at' name_at bytes opening names closing colon' suite) ≡ def_suite_low suite
  def_low' name_at opening closing bytes names (def_line s) = refl
  def_low' name_at opening closing bytes names (def_block inside body) = refl

  def_deep : (name_at opening closing : Spot) (bytes : List ℕ) (names : Params) (suite : DefSuite) → suites_in (def_stmt line at name_at bytes opening names closing colon suite) ≡ def_suite_deep suite
  def_deep name_at opening closing bytes names (def_line s) = refl
  def_deep name_at opening closing bytes names (def_block inside body) = refl

  def_deep' : (name_at opening closing : Spot) (bytes : List ℕ) (names : Params) (suite : DefSuite) → suites_in (def_stmt line' at' name_at bytes opening names closing colon' suite) ≡ def_suite_deep suite
  def_deep' name_at opening closing bytes names (def_line s) = refl
  def_deep' name_at opening closing bytes names (def_block inside body) = refl

  pub def_no_more : (name_at' name_at : Spot) (bytes : List ℕ) (opening' opening closing' closing : Spot) (names' names : Params) (suite' suite : DefSuite) → params_list names' ≡ params_list names → DefNoMore suite' suite
      → StmtNoMore (def_stmt line' at' name_at' bytes opening' names' closing' colon' suite') (def_stmt line at name_at bytes opening names closing colon suite)
  def_no_more name_at' name_at bytes opening' opening closing' closing names' names suite' suite same one = record {
    stands = λ around is.
        let parts = and_parts (def_stands around bytes (params_list names)) (def_suite_stands (params_list names) suite) is in
        ap (λ (given : List (List ℕ)). def_stands around bytes given && def_suite_stands given suite') same ∙ both (def_stands around bytes (params_list names)) (def_suite_stands (params_list names) suite') parts.0 (one.stands (params_list names) parts.1);
    alone = λ is. absurd (false≢true is);
    low = let a = def_low' name_at' opening' closing' bytes names' suite' in let b = def_low name_at opening closing bytes names suite in let c = one.low in omega (arith, a, b, c);
    deep = let a = def_deep' name_at' opening' closing' bytes names' suite' in let b = def_deep name_at opening closing bytes names suite in let c = one.deep in omega (arith, a, b, c);
  }

pub simple_no_more : (line' line : Line) (s' s : Simple) → SimpleNoMore s' s → StmtNoMore (simple line' s') (simple line s)
simple_no_more line' line s' s one = record { stands = one.stands; alone = one.alone; low = one.low; deep = omega arith }

pub on_line_no_more : (s' s : Simple) → SimpleNoMore s' s → SuiteNoMore (on_line s') (on_line s)
on_line_no_more s' s one = record { stands = one.stands; low = one.low; deep = omega arith }

pub block_no_more : (inside : ℕ) (body' body : Body) → BodyNoMore body' body → SuiteNoMore (block inside body') (block inside body)
block_no_more inside body' body one = record { stands = one.stands; low = one.low; deep = let d = one.deep in omega (arith, d) }

pub one_no_more : (s' s : Stmt) → StmtNoMore s' s → BodyNoMore (last_stmt s') (last_stmt s)
one_no_more s' s one = record { stands = one.stands; low = one.low; deep = one.deep }

pub more_no_more : (s' s : Stmt) (rest' rest : Body) → StmtNoMore s' s → BodyNoMore rest' rest → BodyNoMore (more_stmt s' rest') (more_stmt s rest)
more_no_more s' s rest' rest one two = record {
  stands = λ around is. let parts = and_parts (stmt_stands around s) (body_stands around rest) is in both (stmt_stands around s') (body_stands around rest') (one.stands around parts.0) (two.stands around parts.1);
  low = max_both (stmt_expr_depth s') (body_expr_depth rest') (stmt_expr_depth s) (body_expr_depth rest) one.low two.low;
  deep = max_both (suites_in s') (body_depth rest') (suites_in s) (body_depth rest) one.deep two.deep;
}

pub elifs_same : ElifsNoMore no_elif no_elif
elifs_same = record { stands = λ around is. is; low = omega arith; deep = omega arith }

pub else_same : ElseNoMore no_else_part no_else_part
else_same = record { stands = λ around is. is; low = omega arith; deep = omega arith }

pub def_line_no_more : (s' s : Simple) → SimpleNoMore s' s → DefNoMore (def_line s') (def_line s)
def_line_no_more s' s one = record { stands = λ given is. one.stands in_def_suite is; low = one.low; deep = omega arith }

pub def_block_no_more : (inside : ℕ) (body' body : DefBody) → DefBodyNoMore body' body → DefNoMore (def_block inside body') (def_block inside body)
def_block_no_more inside body' body one = record { stands = λ given is. one.stands given true true (λ t. t) is; low = one.low; deep = let d = one.deep in omega (arith, d) }

pub end_def_same : DefBodyNoMore end_def end_def
end_def_same = record { stands = λ given a b so is. refl; low = omega arith; deep = omega arith }

may_alone : (a b c d : Bool) → (a ≡ true → b ≡ true) → (c ≡ true → d ≡ true) → (a && c) ≡ true → (b && d) ≡ true
may_alone a b c d one two is = let parts = and_parts a c is in both b d (one parts.0) (two parts.1)

pub in_def_no_more : (s' s : Stmt) (rest' rest : DefBody) → StmtNoMore s' s → DefBodyNoMore rest' rest → DefBodyNoMore (stmt_in_def s' rest') (stmt_in_def s rest)
in_def_no_more s' s rest' rest one two = record {
  stands = λ given a b so is.
      let parts = and_parts (stmt_stands in_def_suite s) (def_body_stands given (a && is_alone s) rest) is in
      both (stmt_stands in_def_suite s') (def_body_stands given (b && is_alone s') rest') (one.stands in_def_suite parts.0) (two.stands given (a && is_alone s) (b && is_alone s') (may_alone a b (is_alone s) (is_alone s') so one.alone) parts.1);
  low = max_both (stmt_expr_depth s') (def_expr_depth rest') (stmt_expr_depth s) (def_expr_depth rest) one.low two.low;
  deep = max_both (suites_in s') (def_depth rest') (suites_in s) (def_depth rest) one.deep two.deep;
}

may_less : (a b c : Bool) → (a ≡ true → b ≡ true) → (a && c) ≡ true → b ≡ true
may_less a b c one is = one (and_parts a c is).0

-- without its first statement
pub out_of_def_no_more : (s : Stmt) (rest' rest : DefBody) → DefBodyNoMore rest' rest → DefBodyNoMore rest' (stmt_in_def s rest)
out_of_def_no_more s rest' rest two = record {
  stands = λ given a b so is.
      let parts = and_parts (stmt_stands in_def_suite s) (def_body_stands given (a && is_alone s) rest) is in
      two.stands given (a && is_alone s) b (may_less a b (is_alone s) so) parts.1;
  low = let l = two.low in omega (arith, l);
  deep = let d = two.deep in omega (arith, d);
}

pub global_no_more : (line' line : Line) (at' at : Spot) (names' names : Names) (rest' rest : DefBody) → names_list names' ≡ names_list names → DefBodyNoMore rest' rest → DefBodyNoMore (global_in_def line' at' names' rest') (global_in_def line at names rest)
global_no_more line' line at' at names' names rest' rest same two = record {
  stands = λ given a b so is.
      let first = and_parts (a && none_given given (names_list names)) (def_body_stands given a rest) is in
      let second = and_parts a (none_given given (names_list names)) first.0 in
      both (b && none_given given (names_list names')) (def_body_stands given b rest')
      (both b (none_given given (names_list names')) (so second.0) (ap (λ (ns : List (List ℕ)). none_given given ns) same ∙ second.1)) (two.stands given a b so first.1);
  low = two.low;
  deep = two.deep;
}

pub script_no_more_both : (a b c : Script) → ScriptNoMore a b → ScriptNoMore b c → ScriptNoMore a c
script_no_more_both a b c one two = record {
  stands = λ is. one.stands (two.stands is);
  low = let x = one.low in let y = two.low in omega (arith, x, y);
  deep = let x = one.deep in let y = two.deep in omega (arith, x, y);
}
