-- What stands where it may and keeps the limits is so line by line.
use Rattle.std.proofs.Common.{◌≡◌, ℕ, ◌+◌, ◌≤◌, suc, max, nat_le, Bool, true, false, ◌&&◌, ◌||◌, not, List, Option, None, is_none, if◌then◌else◌, refl, ap, sym, ◌∙◌, subst, arith, le-leb}
use Rattle.std.proofs.Math.Nat.{le-max_left, le-max_right}
use Rattle.std.proofs.lemmas.Bool.{false≢true}
use Rattle.py_lines.specs.declared.parts.Line.{Line}
use Rattle.py_tree.specs.Numbering.{size_stmt, size_suite, size_branches, size_else, size_handlers}
use Rattle.py_grammar.specs.declared.context.Last.{Last}
use Rattle.py_grammar.specs.declared.context.Last.TheVariants.{Nothing, Loop, If, Try, Handler, Every}
use Rattle.py_expressions.specs.Concrete.{Spot}
use Rattle.py_parser.specs.Limits.{IsFine}
use Rattle.py_grammar.specs.Limits.{Limits}
use Rattle.py_grammar.specs.Written.{Simple, Params, Kind, every_kind, one_kind, Stmt, simple, if_stmt, while_stmt, for_stmt, try_stmt, with_stmt, def_stmt, class_stmt, Suite, on_line, block, Body, last_stmt, more_stmt, Elifs, no_elif, elif, Else, no_else_part, else_part, Handlers, last_handler, more_handler, DefSuite, def_line, def_block, DefBody, end_def, stmt_in_def, global_in_def, Script, empty_script, script}
use Rattle.py_grammar.specs.StatementTrees.{params_list, stmt_tree, suite_tree, body_tree, elif_trees, else_tree, handler_trees, def_body_tree}
use Rattle.py_expressions.specs.Depth.{expr_depth, exprs_depth}
use Rattle.py_grammar.specs.StatementDepth.{target_depth, kind_depth, stmt_expr_depth, suite_expr_depth, body_expr_depth, elif_expr_depth, else_expr_depth, handler_expr_depth, def_expr_depth, suites_in, suite_depth, body_depth, elif_depth, else_depth, handler_depth, def_depth}
use Rattle.py_grammar.specs.WellPlaced.{Around, in_suite, in_loop_suite, in_handler_suite, in_def_suite, in_class_suite, def_stands, has_class, is_alone, stmt_stands, suite_stands, body_stands, elifs_stand, else_stands, handlers_stand, def_suite_stands, def_body_stands}
use Rattle.py_grammar.specs.LineReader.{Head, simple_head, if_head, elif_head, else_head, while_head, for_head, try_head, except_head, with_head, def_head, class_head, global_head}
use Rattle.py_grammar.specs.ParsedHead.{takes_branch, takes_handler, lacks_handler, behind_in, behind_stands, behind_depth, head_stands, head_depth}
use Rattle.py_parser.specs.Rows.{Rows, end_rows, row, Level, start, counted, lets_declare, last_after, head_around, after, inside, may, rows_may, under_may, under_size}
use Rattle.py_parser.specs.Grouped.{no_spot, behind, behind_def, stmt_rows, suite_rows, body_rows, elif_rows, else_rows, handler_rows, def_suite_rows, def_rows, script_rows}
use Rattle.py_parser.proofs.Grown.{one_size, suite_size, body_size, def_size, def_body_size}

pub both : (a b : Bool) → a ≡ true → b ≡ true → (a && b) ≡ true
both true true one other = refl
both true false one other = absurd (false≢true other)
both false b one other = absurd (false≢true one)

pub first : (a b : Bool) → (a && b) ≡ true → a ≡ true
first true b is = refl
first false b is = absurd (false≢true is)

pub second : (a b : Bool) → (a && b) ≡ true → b ≡ true
second true b is = is
second false b is = absurd (false≢true is)

fine : (b : Bool) → b ≡ false → not b ≡ true
fine true is = absurd (false≢true (sym is))
fine false is = refl

pub all_four : (a b c d : Bool) → a ≡ true → b ≡ true → c ≡ true → d ≡ true → (a && b && c && d) ≡ true
all_four true true true true one two three four = refl
all_four true true true false one two three four = absurd (false≢true four)
all_four true true false d one two three four = absurd (false≢true three)
all_four true false c d one two three four = absurd (false≢true two)
all_four false b c d one two three four = absurd (false≢true one)

pub all_three : (a b c : Bool) → a ≡ true → b ≡ true → c ≡ true → (a && b && c) ≡ true
all_three true true true one two three = refl
all_three true true false one two three = absurd (false≢true three)
all_three true false c one two three = absurd (false≢true two)
all_three false b c one two three = absurd (false≢true one)

pub under_max : (a b c : ℕ) → a ≤ c → b ≤ c → max a b ≤ c
under_max a b c one other = omega (arith, one, other)

pub left_of : (a b c : ℕ) → max a b ≤ c → a ≤ c
left_of a b c is = let low = le-max_left a b in omega (arith, is, low)

pub right_of : (a b c : ℕ) → max a b ≤ c → b ≤ c
right_of a b c is = let low = le-max_right a b in omega (arith, is, low)

pub false_twice : (a : Bool) → ((a && false) && false) ≡ (a && false)
false_twice true = refl
false_twice false = refl

pub still_false : (a b : Bool) → a ≡ (b && false) → (a && false) ≡ (b && false)
still_false a b is = ap (λ c. c && false) is ∙ false_twice b

after_handler : (kind : Kind) → lacks_handler (last_after (except_head no_spot kind no_spot None)) ≡ false
after_handler every_kind = refl
after_handler (one_kind e called) = refl

branch_lacks : (last : Last) → takes_branch last ≡ true → lacks_handler last ≡ false
branch_lacks Nothing is = refl
branch_lacks Loop is = refl
branch_lacks If is = refl
branch_lacks Try is = absurd (false≢true is)
branch_lacks Handler is = refl
branch_lacks Every is = refl

pub and_true : (a : Bool) → (a && true) ≡ a
and_true true = refl
and_true false = refl

takes_more : (kind : Kind) → has_class kind ≡ true → takes_handler (last_after (except_head no_spot kind no_spot None)) ≡ true
takes_more every_kind is = absurd (false≢true is)
takes_more (one_kind e called) is = refl

swapped : (a b : Bool) → a ≡ true → b ≡ true → (b && a) ≡ true
swapped a b one other = both b a other one

pub record AllThree (a b c : Bool) : Type 0 where
  pub one : a ≡ true
  pub two : b ≡ true
  pub three : c ≡ true

pub three_of : (a b c : Bool) → (a && b && c) ≡ true → AllThree a b c
three_of true true true is = record { one = refl; two = refl; three = refl }
three_of true true false is = absurd (false≢true is)
three_of true false c is = absurd (false≢true is)
three_of false b c is = absurd (false≢true is)

pub record AllFour (a b c d : Bool) : Type 0 where
  pub one : a ≡ true
  pub two : b ≡ true
  pub three : c ≡ true
  pub four : d ≡ true

pub four_of : (a b c d : Bool) → (a && b && c && d) ≡ true → AllFour a b c d
four_of true true true true is = record { one = refl; two = refl; three = refl; four = refl }
four_of true true true false is = absurd (false≢true is)
four_of true true false d is = absurd (false≢true is)
four_of true false c d is = absurd (false≢true is)
four_of false b c d is = absurd (false≢true is)

either_weaker : (a b c : Bool) → (a || (b && c)) ≡ true → (a || b) ≡ true
either_weaker true b c is = refl
either_weaker false b c is = first b c is

module _ (q : Limits) where
  -- a line that keeps the limits
  line_may : (l : Level) (n : ℕ) (h : Head) → head_stands l.context l.given h ≡ true → head_depth h ≤ q.height → n + counted h ≤ q.number → (is_none (behind_in h) || nat_le (suc l.depth) q.suites) ≡ true → may q l n h ≡ true
  line_may l n h stands low few deep = all_four (head_stands l.context l.given h) (nat_le (head_depth h) q.height) (nat_le (n + counted h) q.number) (is_none (behind_in h) || nat_le (suc l.depth) q.suites) stands (le-leb (head_depth h) q.height low) (le-leb (n + counted h) q.number few) deep

  behind_is_low : (s : Suite) → suite_expr_depth s ≤ q.height → behind_depth (behind s) ≤ q.height
  behind_is_low (on_line s) low = low
  behind_is_low (block indent body) low = omega arith

  behind_is_fine : (around : Around) (s : Suite) → suite_stands around s ≡ true → behind_stands around (behind s) ≡ true
  behind_is_fine around (on_line s) stands = stands
  behind_is_fine around (block indent body) stands = refl

  behind_fits : (d : ℕ) (s : Suite) → d + suite_depth s ≤ q.suites → (is_none (behind s) || nat_le (suc d) q.suites) ≡ true
  behind_fits d (on_line s) deep = le-leb (suc d) q.suites (omega (arith, deep))
  behind_fits d (block indent body) deep = refl

  -- a line with a suite that keeps the limits; `one` is 1 for the first line of a statement
  clause_may : (l : Level) (n one d : ℕ) (line : Line) (h : Option Simple → Head) (s : Suite) → ((b : Option Simple) → behind_in (h b) ≡ b) → ((b : Option Simple) → head_depth (h b) ≡ max d (behind_depth b))
      → ((b : Option Simple) → counted (h b) ≡ one + (if is_none b then 0 else 1)) → head_stands l.context l.given (h (behind s)) ≡ true → d ≤ q.height → suite_expr_depth s ≤ q.height → l.depth + suite_depth s ≤ q.suites
      → n + (one + size_suite (suite_tree line s)) ≤ q.number → may q l n (h (behind s)) ≡ true
  clause_may l n one d line h s behind_is depth_is count_is stands low low_2 deep few =
      let sizes = suite_size line s in
      let counts = count_is (behind s) in
      line_may l n (h (behind s)) stands (subst (λ m. m ≤ q.height) (sym (depth_is (behind s))) (under_max d _ q.height low (behind_is_low s low_2))) (omega (arith, sizes, counts, few))
      (subst (λ b. (is_none b || nat_le (suc l.depth) q.suites) ≡ true) (sym (behind_is (behind s))) (behind_fits l.depth s deep))

  -- the rows behind a statement keep the limits, whichever part of it came last
  pub record RestMay (l : Level) (n : ℕ) (declares : Bool) (rest : Rows) : Type 0 where
    pub may_be : (m : Level) (k : ℕ) → m.context.around ≡ l.context.around → m.depth ≡ l.depth → m.given ≡ l.given → lacks_handler m.context.last ≡ false → m.context.may_declare ≡ declares → k ≡ n → rows_may q m k rest ≡ true

  -- behind the branches of an `if`
  record PartsMay (l : Level) (n : ℕ) (declares : Bool) (rest : Rows) : Type 0 where
    may_be : (m : Level) (k : ℕ) → m.context.around ≡ l.context.around → m.depth ≡ l.depth → m.given ≡ l.given → takes_branch m.context.last ≡ true → m.context.may_declare ≡ declares → k ≡ n → rows_may q m k rest ≡ true

  pub record StmtFine (l : Level) (n : ℕ) (s : Stmt) : Type 0 where
    pub stands : stmt_stands l.context.around s ≡ true
    pub low : stmt_expr_depth s ≤ q.height
    pub deep : l.depth + suites_in s ≤ q.suites
    pub few : n + size_stmt (stmt_tree s) ≤ q.number

  omega_left : (d a b : ℕ) → d + max a b ≤ q.suites → d + a ≤ q.suites
  omega_left d a b is = let low = le-max_left a b in omega (arith, is, low)

  omega_right : (d a b : ℕ) → d + max a b ≤ q.suites → d + b ≤ q.suites
  omega_right d a b is = let low = le-max_right a b in omega (arith, is, low)

  def_behind_low : (s : DefSuite) (line : Line) (at name_at : Spot) (bytes : List ℕ) (opening : Spot) (names : Params) (closing colon : Spot) → stmt_expr_depth (def_stmt line at name_at bytes opening names closing colon s) ≤ q.height → behind_depth (behind_def s) ≤ q.height
  def_behind_low (def_line s) line at name_at bytes opening names closing colon low = low
  def_behind_low (def_block indent body) line at name_at bytes opening names closing colon low = omega arith

  def_behind_fine : (given : List (List ℕ)) (s : DefSuite) → def_suite_stands given s ≡ true → behind_stands in_def_suite (behind_def s) ≡ true
  def_behind_fine given (def_line s) stands = stands
  def_behind_fine given (def_block indent body) stands = refl

  def_behind_fits : (d : ℕ) (s : DefSuite) (line : Line) (at name_at : Spot) (bytes : List ℕ) (opening : Spot) (names : Params) (closing colon : Spot) → d + suites_in (def_stmt line at name_at bytes opening names closing colon s) ≤ q.suites → (is_none (behind_def s) || nat_le (suc d) q.suites) ≡ true
  def_behind_fits d (def_line s) line at name_at bytes opening names closing colon deep = le-leb (suc d) q.suites (omega (arith, deep))
  def_behind_fits d (def_block indent body) line at name_at bytes opening names closing colon deep = refl

  -- a statement with one suite and no parts
  one_suite : (l : Level) (n d : ℕ) (line : Line) (h : Option Simple → Head) (s : Suite) (rest : Rows) → may q l n (h (behind s)) ≡ true → under_may q l (n + counted (h (behind s))) (h (behind s)) (suite_rows s) ≡ true
      → ((b : Option Simple) → counted (h b) ≡ 1 + (if is_none b then 0 else 1)) → lacks_handler (last_after (h (behind s))) ≡ false → (l.context.may_declare && lets_declare (h (behind s))) ≡ (l.context.may_declare && false)
      → RestMay l (n + (1 + size_suite (suite_tree line s))) (l.context.may_declare && false) rest → rows_may q l n (row line (h (behind s)) (suite_rows s) rest) ≡ true
  one_suite l n d line h s rest here below count_is lacks declares r =
      let sizes = suite_size line s in
      let counts = count_is (behind s) in
      all_three _ _ _ here below (r.may_be (after l (h (behind s))) _ refl refl refl lacks declares (omega (arith, sizes, counts)))

  mutual
    pub stmt_may : (l : Level) (n : ℕ) (s : Stmt) (rest : Rows) → StmtFine l n s → lacks_handler l.context.last ≡ false → RestMay l (n + size_stmt (stmt_tree s)) (l.context.may_declare && is_alone s) rest → rows_may q l n (stmt_rows s rest) ≡ true
    stmt_may l n (simple line s) rest f lacks r =
        let size = one_size line.span.to s in
        let few = f.few in
        all_three _ _ _ (line_may l n (simple_head s) (both _ _ (fine _ lacks) f.stands) f.low (omega (arith, size, few)) refl) refl
        (r.may_be (after l (simple_head s)) _ refl refl refl refl refl (omega (arith, size)))
    stmt_may l n (if_stmt line at test colon suite elifs orelse) rest f lacks r =
        let h : Head = if_head at test colon (behind suite) in
        let p = four_of _ _ _ _ f.stands in
        let sizes = suite_size line suite in
        let few = f.few in
        let deep = f.deep in
        let low_test = left_of (expr_depth test) _ q.height f.low in
        let low_more = right_of (expr_depth test) _ q.height f.low in
        let low_suite = left_of (suite_expr_depth suite) _ q.height low_more in
        let low_parts = right_of (suite_expr_depth suite) _ q.height low_more in
        let deep_suite = omega_left l.depth (suite_depth suite) _ deep in
        let deep_parts = omega_right l.depth (suite_depth suite) _ deep in
        all_three _ _ _
        (clause_may l n 1 (expr_depth test) line (if_head at test colon) suite (λ b. refl) (λ b. refl) (λ b. refl) (both _ _ (both _ _ (fine _ lacks) p.one) (behind_is_fine (in_suite l.context.around) suite p.two)) low_test low_suite deep_suite (omega (arith, few)))
        (suite_may l _ (if_head at test colon) line suite p.two low_suite deep_suite (omega (arith, sizes, few)))
        (elifs_may (after l h) _ l.context.may_declare elifs (else_rows orelse rest) p.three (left_of (elif_expr_depth elifs) _ q.height low_parts) (omega_left l.depth (elif_depth elifs) _ deep_parts) (omega (arith, sizes, few)) refl refl
        (record {
          may_be = λ m k around depth given takes declares same.
              else_may m k l.context.may_declare orelse rest (subst (λ a. else_stands (in_suite a) orelse ≡ true) (sym around) p.four) (right_of (elif_expr_depth elifs) _ q.height low_parts)
              (subst (λ d. d + else_depth orelse ≤ q.suites) (sym depth) (omega_right l.depth (elif_depth elifs) _ deep_parts)) (omega (arith, sizes, few, same)) takes declares
              (record { may_be = λ m_2 j around_2 depth_2 given_2 lacking declares_2 same_2. r.may_be m_2 j (around_2 ∙ around) (depth_2 ∙ depth) (given_2 ∙ given) lacking declares_2 (omega (arith, sizes, same, same_2)) });
        }))
    stmt_may l n (while_stmt line at test colon suite) rest f lacks r =
        let p = f.stands in
        let few = f.few in
        let sizes = suite_size line suite in
        let here = first (not l.context.around.in_class) _ p in
        let inner = second (not l.context.around.in_class) _ p in
        let low_suite = right_of (expr_depth test) _ q.height f.low in
        one_suite l n 0 line (while_head at test colon) suite rest
        (clause_may l n 1 (expr_depth test) line (while_head at test colon) suite (λ b. refl) (λ b. refl) (λ b. refl) (both _ _ (both _ _ (fine _ lacks) here) (behind_is_fine (in_loop_suite l.context.around) suite inner)) (left_of (expr_depth test) _ q.height f.low) low_suite f.deep (omega (arith, few)))
        (suite_may l _ (while_head at test colon) line suite inner low_suite f.deep (omega (arith, sizes, few))) (λ b. refl) refl refl r
    stmt_may l n (for_stmt line at t in_word e colon suite) rest f lacks r =
        let p = f.stands in
        let few = f.few in
        let sizes = suite_size line suite in
        let here = first (not l.context.around.in_class) _ p in
        let inner = second (not l.context.around.in_class) _ p in
        let low_suite = right_of (max (target_depth t) (exprs_depth e)) _ q.height f.low in
        one_suite l n 0 line (for_head at t in_word e colon) suite rest
        (clause_may l n 1 (max (target_depth t) (exprs_depth e)) line (for_head at t in_word e colon) suite (λ b. refl) (λ b. refl) (λ b. refl) (both _ _ (both _ _ (fine _ lacks) here) (behind_is_fine (in_loop_suite l.context.around) suite inner))
        (left_of (max (target_depth t) (exprs_depth e)) _ q.height f.low) low_suite f.deep (omega (arith, few)))
        (suite_may l _ (for_head at t in_word e colon) line suite inner low_suite f.deep (omega (arith, sizes, few))) (λ b. refl) refl refl r
    stmt_may l n (try_stmt line at colon suite handlers) rest f lacks r =
        let h : Head = try_head at colon (behind suite) in
        let p = three_of _ _ _ f.stands in
        let few = f.few in
        let deep = f.deep in
        let sizes = suite_size line suite in
        let low_suite = left_of (suite_expr_depth suite) _ q.height f.low in
        let deep_suite = omega_left l.depth (suite_depth suite) _ deep in
        all_three _ _ _
        (clause_may l n 1 0 line (try_head at colon) suite (λ b. refl) (λ b. refl) (λ b. refl) (both _ _ (both _ _ (fine _ lacks) p.one) (behind_is_fine (in_suite l.context.around) suite p.two)) (omega arith) low_suite deep_suite (omega (arith, few)))
        (suite_may l _ (try_head at colon) line suite p.two low_suite deep_suite (omega (arith, sizes, few)))
        (handlers_may (after l h) _ l.context.may_declare handlers rest p.three (right_of (suite_expr_depth suite) _ q.height f.low) (omega_right l.depth (suite_depth suite) _ deep) (omega (arith, sizes, few)) refl refl
        (record { may_be = λ m k around depth given lacking declares same. r.may_be m k around depth given lacking declares (omega (arith, sizes, same)) }))
    stmt_may l n (with_stmt line at e called colon suite) rest f lacks r =
        let p = f.stands in
        let few = f.few in
        let sizes = suite_size line suite in
        let here = first (not l.context.around.in_class) _ p in
        let inner = second (not l.context.around.in_class) _ p in
        let low_suite = right_of (expr_depth e) _ q.height f.low in
        one_suite l n 0 line (with_head at e called colon) suite rest
        (clause_may l n 1 (expr_depth e) line (with_head at e called colon) suite (λ b. refl) (λ b. refl) (λ b. refl) (both _ _ (both _ _ (fine _ lacks) here) (behind_is_fine (in_suite l.context.around) suite inner)) (left_of (expr_depth e) _ q.height f.low) low_suite f.deep (omega (arith, few)))
        (suite_may l _ (with_head at e called colon) line suite inner low_suite f.deep (omega (arith, sizes, few))) (λ b. refl) refl refl r
    stmt_may l n (def_stmt line at name_at bytes opening names closing colon suite) rest f lacks r =
        let h : Option Simple → Head = def_head at name_at bytes opening names closing colon in
        let here = first (def_stands l.context.around bytes (params_list names)) _ f.stands in
        let inner = second (def_stands l.context.around bytes (params_list names)) _ f.stands in
        let few = f.few in
        let sizes = def_size line suite in
        all_three _ _ _
        (line_may l n (h (behind_def suite)) (all_three _ _ _ (both _ _ (fine _ lacks) (either_weaker l.context.around.at_module_level l.context.around.in_class _ (first _ _ here))) here (def_behind_fine (params_list names) suite inner))
        (under_max 0 _ q.height (omega arith) (def_behind_low suite line at name_at bytes opening names closing colon f.low)) (omega (arith, sizes, few)) (def_behind_fits l.depth suite line at name_at bytes opening names closing colon f.deep))
        (def_may l _ line at name_at bytes opening names closing colon suite inner f.low f.deep (omega (arith, sizes, few)))
        (r.may_be (after l (h (behind_def suite))) _ refl refl refl refl refl (omega (arith, sizes)))
    stmt_may l n (class_stmt line at name_at bytes of colon suite) rest f lacks r =
        let here = first l.context.around.at_module_level _ f.stands in
        let inner = second l.context.around.at_module_level _ f.stands in
        let few = f.few in
        let sizes = suite_size line suite in
        let low_suite = right_of 1 (suite_expr_depth suite) q.height f.low in
        one_suite l n 0 line (class_head at name_at bytes of colon) suite rest
        (clause_may l n 1 1 line (class_head at name_at bytes of colon) suite (λ b. refl) (λ b. refl) (λ b. refl) (both _ _ (both _ _ (fine _ lacks) here) (behind_is_fine in_class_suite suite inner)) (omega arith) low_suite f.deep (omega (arith, few)))
        (suite_may l _ (class_head at name_at bytes of colon) line suite inner low_suite f.deep (omega (arith, sizes, few))) (λ b. refl) refl refl r

    suite_may : (l : Level) (n : ℕ) (h : Option Simple → Head) (line : Line) (s : Suite) → suite_stands (head_around l.context.around (h None)) s ≡ true → suite_expr_depth s ≤ q.height → l.depth + suite_depth s ≤ q.suites
        → n + under_size (suite_rows s) ≤ q.number → under_may q l n (h (behind s)) (suite_rows s) ≡ true
    suite_may l n h line (on_line s) stands low deep few = refl
    suite_may l n h line (block indent body) stands low deep few =
        let size = body_size body in
        both _ _ (le-leb (suc l.depth) q.suites (omega (arith, deep))) (body_may (inside l (h None) indent) n body stands low (omega (arith, deep)) (omega (arith, few, size)) refl)

    body_may : (l : Level) (n : ℕ) (b : Body) → body_stands l.context.around b ≡ true → body_expr_depth b ≤ q.height → l.depth + body_depth b ≤ q.suites → n + size_suite (body_tree b) ≤ q.number → lacks_handler l.context.last ≡ false → rows_may q l n (body_rows b) ≡ true
    body_may l n (last_stmt s) stands low deep few lacks = stmt_may l n s end_rows (record { stands = stands; low = low; deep = deep; few = omega (arith, few) }) lacks (record { may_be = λ m k around depth given lacking declares same. refl })
    body_may l n (more_stmt s rest) stands low deep few lacks =
        stmt_may l n s (body_rows rest)
        (record { stands = first (stmt_stands l.context.around s) _ stands; low = left_of (stmt_expr_depth s) _ q.height low; deep = omega_left l.depth (suites_in s) _ deep; few = omega (arith, few) }) lacks
        (record {
          may_be = λ m k around depth given lacking declares same.
              body_may m k rest (subst (λ a. body_stands a rest ≡ true) (sym around) (second (stmt_stands l.context.around s) _ stands)) (right_of (stmt_expr_depth s) _ q.height low)
              (subst (λ d. d + body_depth rest ≤ q.suites) (sym depth) (omega_right l.depth (suites_in s) _ deep)) (omega (arith, few, same)) lacking;
        })

    elifs_may : (l : Level) (n : ℕ) (a : Bool) (e : Elifs) (rest : Rows) → elifs_stand (in_suite l.context.around) e ≡ true → elif_expr_depth e ≤ q.height → l.depth + elif_depth e ≤ q.suites → n + size_branches (elif_trees e) ≤ q.number
        → takes_branch l.context.last ≡ true → l.context.may_declare ≡ (a && false) → PartsMay l (n + size_branches (elif_trees e)) (a && false) rest → rows_may q l n (elif_rows e rest) ≡ true
    elifs_may l n a no_elif rest stands low deep few takes declares r = r.may_be l n refl refl refl takes declares (omega arith)
    elifs_may l n a (elif line at test colon suite more) rest stands low deep few takes declares r =
        let h : Head = elif_head at test colon (behind suite) in
        let sizes = suite_size line suite in
        let here = first (suite_stands (in_suite l.context.around) suite) _ stands in
        let low_first = left_of (max (expr_depth test) (suite_expr_depth suite)) _ q.height low in
        let low_suite = right_of (expr_depth test) _ q.height low_first in
        let deep_suite = omega_left l.depth (suite_depth suite) _ deep in
        all_three _ _ _
        (clause_may l n 0 (expr_depth test) line (elif_head at test colon) suite (λ b. refl) (λ b. refl) (λ b. refl) (both _ _ takes (behind_is_fine (in_suite l.context.around) suite here)) (left_of (expr_depth test) _ q.height low_first) low_suite deep_suite (omega (arith, few)))
        (suite_may l _ (elif_head at test colon) line suite here low_suite deep_suite (omega (arith, sizes, few)))
        (elifs_may (after l h) _ a more rest (second (suite_stands (in_suite l.context.around) suite) _ stands) (right_of (max (expr_depth test) (suite_expr_depth suite)) _ q.height low) (omega_right l.depth (suite_depth suite) _ deep) (omega (arith, sizes, few)) refl
        (still_false l.context.may_declare a declares)
        (record { may_be = λ m k around depth given takes_2 declares_2 same. r.may_be m k around depth given takes_2 declares_2 (omega (arith, sizes, same)) }))

    else_may : (l : Level) (n : ℕ) (a : Bool) (e : Else) (rest : Rows) → else_stands (in_suite l.context.around) e ≡ true → else_expr_depth e ≤ q.height → l.depth + else_depth e ≤ q.suites → n + size_else (else_tree e) ≤ q.number
        → takes_branch l.context.last ≡ true → l.context.may_declare ≡ (a && false) → RestMay l (n + size_else (else_tree e)) (a && false) rest → rows_may q l n (else_rows e rest) ≡ true
    else_may l n a no_else_part rest stands low deep few takes declares r = r.may_be l n refl refl refl (branch_lacks l.context.last takes) declares (omega arith)
    else_may l n a (else_part line at colon suite) rest stands low deep few takes declares r =
        let h : Head = else_head at colon (behind suite) in
        let sizes = suite_size line suite in
        all_three _ _ _
        (clause_may l n 0 0 line (else_head at colon) suite (λ b. refl) (λ b. refl) (λ b. refl) (both _ _ takes (behind_is_fine (in_suite l.context.around) suite stands)) (omega arith) low deep (omega (arith, few)))
        (suite_may l _ (else_head at colon) line suite stands low deep (omega (arith, sizes, few)))
        (r.may_be (after l h) _ refl refl refl refl (still_false l.context.may_declare a declares) (omega (arith, sizes)))

    handlers_may : (l : Level) (n : ℕ) (a : Bool) (e : Handlers) (rest : Rows) → handlers_stand (in_handler_suite l.context.around) e ≡ true → handler_expr_depth e ≤ q.height → l.depth + handler_depth e ≤ q.suites → n + size_handlers (handler_trees e) ≤ q.number
        → takes_handler l.context.last ≡ true → l.context.may_declare ≡ (a && false) → RestMay l (n + size_handlers (handler_trees e)) (a && false) rest → rows_may q l n (handler_rows e rest) ≡ true
    handlers_may l n a (last_handler line at kind colon suite) rest stands low deep few takes declares r =
        let h : Head = except_head at kind colon (behind suite) in
        let sizes = suite_size line suite in
        let low_suite = right_of (kind_depth kind) _ q.height low in
        all_three _ _ _
        (clause_may l n 0 (kind_depth kind) line (except_head at kind colon) suite (λ b. refl) (λ b. refl) (λ b. refl) (both _ _ takes (behind_is_fine (in_handler_suite l.context.around) suite stands)) (left_of (kind_depth kind) _ q.height low) low_suite deep (omega (arith, few)))
        (suite_may l _ (except_head at kind colon) line suite stands low_suite deep (omega (arith, sizes, few)))
        (r.may_be (after l h) _ refl refl refl (after_handler kind) (still_false l.context.may_declare a declares) (omega (arith, sizes)))
    handlers_may l n a (more_handler line at kind colon suite more) rest stands low deep few takes declares r =
        let h : Head = except_head at kind colon (behind suite) in
        let sizes = suite_size line suite in
        let p = three_of _ _ _ stands in
        let low_first = left_of (max (kind_depth kind) (suite_expr_depth suite)) _ q.height low in
        let low_suite = right_of (kind_depth kind) _ q.height low_first in
        let deep_suite = omega_left l.depth (suite_depth suite) _ deep in
        all_three _ _ _
        (clause_may l n 0 (kind_depth kind) line (except_head at kind colon) suite (λ b. refl) (λ b. refl) (λ b. refl) (both _ _ takes (behind_is_fine (in_handler_suite l.context.around) suite p.two)) (left_of (kind_depth kind) _ q.height low_first) low_suite deep_suite (omega (arith, few)))
        (suite_may l _ (except_head at kind colon) line suite p.two low_suite deep_suite (omega (arith, sizes, few)))
        (handlers_may (after l h) _ a more rest p.three (right_of (max (kind_depth kind) (suite_expr_depth suite)) _ q.height low) (omega_right l.depth (suite_depth suite) _ deep) (omega (arith, sizes, few)) (takes_more kind p.one)
        (still_false l.context.may_declare a declares)
        (record { may_be = λ m k around depth given lacking declares_2 same. r.may_be m k around depth given lacking declares_2 (omega (arith, sizes, same)) }))

    def_may : (l : Level) (n : ℕ) (line : Line) (at name_at : Spot) (bytes : List ℕ) (opening : Spot) (names : Params) (closing colon : Spot) (s : DefSuite) → def_suite_stands (params_list names) s ≡ true
        → stmt_expr_depth (def_stmt line at name_at bytes opening names closing colon s) ≤ q.height → l.depth + suites_in (def_stmt line at name_at bytes opening names closing colon s) ≤ q.suites
        → n + under_size (def_suite_rows s) ≤ q.number → under_may q l n (def_head at name_at bytes opening names closing colon (behind_def s)) (def_suite_rows s) ≡ true
    def_may l n line at name_at bytes opening names closing colon (def_line s) stands low deep few = refl
    def_may l n line at name_at bytes opening names closing colon (def_block indent body) stands low deep few =
        let size = def_body_size body in
        both _ _ (le-leb (suc l.depth) q.suites (omega (arith, deep))) (def_body_may (inside l (def_head at name_at bytes opening names closing colon None) indent) n true body stands low (omega (arith, deep)) (omega (arith, few, size)) refl refl refl)

    def_body_may : (l : Level) (n : ℕ) (may_declare : Bool) (b : DefBody) → def_body_stands l.given may_declare b ≡ true → def_expr_depth b ≤ q.height → l.depth + def_depth b ≤ q.suites → n + size_suite (def_body_tree b) ≤ q.number
        → lacks_handler l.context.last ≡ false → l.context.around ≡ in_def_suite → l.context.may_declare ≡ may_declare → rows_may q l n (def_rows b) ≡ true
    def_body_may l n may_declare end_def stands low deep few lacks around declares = refl
    def_body_may l n may_declare (stmt_in_def s rest) stands low deep few lacks around declares =
        stmt_may l n s (def_rows rest)
        (record { stands = subst (λ a. stmt_stands a s ≡ true) (sym around) (first (stmt_stands in_def_suite s) _ stands); low = left_of (stmt_expr_depth s) _ q.height low; deep = omega_left l.depth (suites_in s) _ deep; few = omega (arith, few) }) lacks
        (record {
          may_be = λ m k around_2 depth given lacking declares_2 same.
              def_body_may m k (may_declare && is_alone s) rest (subst (λ g. def_body_stands g (may_declare && is_alone s) rest ≡ true) (sym given) (second (stmt_stands in_def_suite s) _ stands)) (right_of (stmt_expr_depth s) _ q.height low)
              (subst (λ d. d + def_depth rest ≤ q.suites) (sym depth) (omega_right l.depth (suites_in s) _ deep)) (omega (arith, few, same)) lacking (around_2 ∙ around) (declares_2 ∙ ap (λ b. b && is_alone s) declares);
        })
    def_body_may l n may_declare (global_in_def line at names rest) stands low deep few lacks around declares =
        let p = three_of may_declare _ _ stands in
        all_three _ _ _
        (line_may l n (global_head at names) (both _ _ (both _ _ (fine _ lacks) (declares ∙ p.one)) p.two) (omega arith) (omega (arith, few)) refl) refl
        (def_body_may (after l (global_head at names)) _ may_declare rest p.three low deep (omega (arith, few)) refl around (ap (λ b. b && true) declares ∙ and_true may_declare))

  -- what is asked of a script beside the grammar: that its statements stand where they may, and the limits
  pub script_may : (s : Script) → IsFine q s → rows_may q start 0 (script_rows s) ≡ true
  script_may empty_script f = refl
  script_may (script body) f = body_may start 0 body f.stands f.within.low (let deep = f.within.deep in omega (arith, deep)) (let few = f.within.few in omega (arith, few)) refl
