-- Rows that stand where they may and keep the limits are those of a script that does.
use Rattle.std.proofs.Common.{◌≡◌, ℕ, ◌+◌, ◌≤◌, suc, max, nat_le, Bool, true, false, ◌&&◌, ◌||◌, not, List, Option, Some, None, is_none, if◌then◌else◌, refl, ap, sym, ◌∙◌, subst, arith, leb-true}
use Rattle.std.proofs.lemmas.Bool.{false≢true}
use Rattle.py_lines.specs.declared.parts.Line.{Line}
use Rattle.py_tree.specs.Numbering.{size_stmt, size_suite, size_branches, size_else, size_handlers}
use Rattle.py_expressions.specs.Concrete.{Spot}
use Rattle.py_parser.specs.Limits.{IsFine}
use Rattle.py_grammar.specs.Limits.{Limits}
use Rattle.py_grammar.specs.Written.{Simple, Params, Kind, every_kind, one_kind, Stmt, simple, if_stmt, while_stmt, for_stmt, try_stmt, with_stmt, def_stmt, class_stmt, Suite, on_line, block, Body, last_stmt, more_stmt, Elifs, no_elif, elif, Else, no_else_part, else_part, Handlers, last_handler, more_handler, DefSuite, def_line, def_block, DefBody, end_def, stmt_in_def, global_in_def, Script, empty_script, script}
use Rattle.py_grammar.specs.StatementTrees.{params_list, stmt_tree, suite_tree, body_tree, elif_trees, else_tree, handler_trees, def_tree, def_body_tree}
use Rattle.py_expressions.specs.Depth.{expr_depth, exprs_depth}
use Rattle.py_grammar.specs.StatementDepth.{target_depth, kind_depth, stmt_expr_depth, suite_expr_depth, body_expr_depth, elif_expr_depth, else_expr_depth, handler_expr_depth, def_expr_depth, suites_in, suite_depth, body_depth, elif_depth, else_depth, handler_depth, def_depth}
use Rattle.py_grammar.specs.WellPlaced.{Around, in_suite, in_handler_suite, in_def_suite, def_stands, has_class, is_alone, stmt_stands, suite_stands, body_stands, elifs_stand, else_stands, handlers_stand, def_suite_stands, def_body_stands}
use Rattle.py_grammar.specs.LineReader.{Head, simple_head, if_head, elif_head, else_head, while_head, for_head, try_head, except_head, with_head, def_head, class_head, global_head}
use Rattle.py_grammar.specs.ParsedHead.{takes_branch, takes_handler, lacks_handler, behind_in, behind_stands, behind_depth, head_stands, head_depth}
use Rattle.py_parser.specs.Rows.{Rows, end_rows, Level, start, counted, last_after, head_around, after, inside, may, rows_may, under_may, under_size}
use Rattle.py_parser.specs.Grouped.{no_spot, behind, behind_def, stmt_rows, suite_rows, body_rows, elif_rows, else_rows, handler_rows, def_suite_rows, def_rows, script_rows}
use Rattle.py_parser.proofs.RowLimits.{StmtFine, three_of, four_of, first, second, all_three, all_four, under_max, left_of, right_of, still_false, and_true, both}
use Rattle.py_parser.proofs.Grown.{one_size, suite_size, def_size}

module _ (q : Limits) where
  -- ---- a line

  -- what is known of a line that keeps the limits
  record LineKept (l : Level) (n : ℕ) (h : Head) : Type 0 where
    stands : head_stands l.context l.given h ≡ true
    low : head_depth h ≤ q.height
    few : n + counted h ≤ q.number
    deep : (is_none (behind_in h) || nat_le (suc l.depth) q.suites) ≡ true

  line_kept : (l : Level) (n : ℕ) (h : Head) → may q l n h ≡ true → LineKept l n h
  line_kept l n h is =
      let p = four_of (head_stands l.context l.given h) (nat_le (head_depth h) q.height) (nat_le (n + counted h) q.number) (is_none (behind_in h) || nat_le (suc l.depth) q.suites) is in
      record { stands = p.one; low = leb-true (head_depth h) q.height p.two; few = leb-true (n + counted h) q.number p.three; deep = p.four }

  -- what is known of a suite under a line; `one` is 1 for the first line of a statement
  record SuiteKept (around : Around) (depth n one : ℕ) (line : Line) (s : Suite) : Type 0 where
    stands : suite_stands around s ≡ true
    low : suite_expr_depth s ≤ q.height
    deep : depth + suite_depth s ≤ q.suites
    few : n + (one + size_suite (suite_tree line s)) ≤ q.number

  -- ---- statements

  -- what is known of a statement, and of the rows behind it
  pub record StmtKept (l : Level) (n : ℕ) (s : Stmt) (rest : Rows) : Type 0 where
    pub fine : StmtFine q l n s
    pub level : Level
    pub around_is : level.context.around ≡ l.context.around
    pub depth_is : level.depth ≡ l.depth
    pub given_is : level.given ≡ l.given
    pub declares_is : level.context.may_declare ≡ (l.context.may_declare && is_alone s)
    pub rest_may : rows_may q level (n + size_stmt (stmt_tree s)) rest ≡ true

  -- what is known of the parts of a statement, which are so many statements
  record PartsKept (l : Level) (n size : ℕ) (a : Bool) (rest : Rows) (P : Type 0) : Type 0 where
    fine : P
    level : Level
    around_is : level.context.around ≡ l.context.around
    depth_is : level.depth ≡ l.depth
    given_is : level.given ≡ l.given
    declares_is : level.context.may_declare ≡ (a && false)
    rest_may : rows_may q level (n + size) rest ≡ true

  record ElifsFine (l : Level) (n : ℕ) (e : Elifs) : Type 0 where
    stands : elifs_stand (in_suite l.context.around) e ≡ true
    low : elif_expr_depth e ≤ q.height
    deep : l.depth + elif_depth e ≤ q.suites
    few : n + size_branches (elif_trees e) ≤ q.number

  record ElseFine (l : Level) (n : ℕ) (e : Else) : Type 0 where
    stands : else_stands (in_suite l.context.around) e ≡ true
    low : else_expr_depth e ≤ q.height
    deep : l.depth + else_depth e ≤ q.suites
    few : n + size_else (else_tree e) ≤ q.number

  record HandlersFine (l : Level) (n : ℕ) (e : Handlers) : Type 0 where
    takes : takes_handler l.context.last ≡ true
    stands : handlers_stand (in_handler_suite l.context.around) e ≡ true
    low : handler_expr_depth e ≤ q.height
    deep : l.depth + handler_depth e ≤ q.suites
    few : n + size_handlers (handler_trees e) ≤ q.number

  record DefKept (given : List (List ℕ)) (d n : ℕ) (line : Line) (at name_at : Spot) (bytes : List ℕ) (opening : Spot) (names : Params) (closing colon : Spot) (s : DefSuite) : Type 0 where
    stands : def_suite_stands given s ≡ true
    low : stmt_expr_depth (def_stmt line at name_at bytes opening names closing colon s) ≤ q.height
    deep : d + suites_in (def_stmt line at name_at bytes opening names closing colon s) ≤ q.suites
    few : n + (1 + size_suite (def_tree line s)) ≤ q.number

  record BodyKept (l : Level) (n : ℕ) (b : Body) : Type 0 where
    stands : body_stands l.context.around b ≡ true
    low : body_expr_depth b ≤ q.height
    deep : l.depth + body_depth b ≤ q.suites
    few : n + size_suite (body_tree b) ≤ q.number

  record DefBodyKept (l : Level) (n : ℕ) (may_declare : Bool) (b : DefBody) : Type 0 where
    stands : def_body_stands l.given may_declare b ≡ true
    low : def_expr_depth b ≤ q.height
    deep : l.depth + def_depth b ≤ q.suites
    few : n + size_suite (def_body_tree b) ≤ q.number

  some_class : (kind : Kind) → takes_handler (last_after (except_head no_spot kind no_spot None)) ≡ true → has_class kind ≡ true
  some_class every_kind is = absurd (false≢true is)
  some_class (one_kind e called) is = refl

  same_number : (l : Level) (n m : ℕ) (rest : Rows) → n ≡ m → rows_may q l n rest ≡ true → rows_may q l m rest ≡ true
  same_number l n m rest is may_be = subst (λ k. rows_may q l k rest ≡ true) is may_be

  under_max_50 : (d a b : ℕ) → d + a ≤ q.suites → d + b ≤ q.suites → d + max a b ≤ q.suites
  under_max_50 d a b one other = omega (arith, one, other)

  mutual
    pub stmt_kept : (l : Level) (n : ℕ) (s : Stmt) (rest : Rows) → l.depth ≤ q.suites → rows_may q l n (stmt_rows s rest) ≡ true → StmtKept l n s rest
    stmt_kept l n (simple line s) rest low is =
        let p = three_of (may q l n (simple_head s)) true _ is in
        let k = line_kept l n (simple_head s) p.one in
        let size = one_size line.span.to s in
        let few = k.few in
        record {
          fine = record { stands = second (not (lacks_handler l.context.last)) _ k.stands; low = k.low; deep = omega (arith, low); few = omega (arith, size, few) };
          level = after l (simple_head s);
          around_is = refl;
          depth_is = refl;
          given_is = refl;
          declares_is = refl;
          rest_may = same_number _ _ _ rest (omega (arith, size)) p.three;
        }
    stmt_kept l n (while_stmt line at test colon suite) rest low is =
        let h : Head = while_head at test colon (behind suite) in
        let p = three_of (may q l n h) (under_may q l (n + counted h) h (suite_rows suite)) _ is in
        let k = line_kept l n h p.one in
        let w = first (not (lacks_handler l.context.last) && not l.context.around.in_class) _ k.stands in
        let s = suite_kept l n 1 (while_head at test colon) line suite (λ b. refl) (λ b. refl) (second (not (lacks_handler l.context.last) && not l.context.around.in_class) _ k.stands) (right_of (expr_depth test) _ q.height k.low) k.few k.deep p.two in
        let sizes = suite_size line suite in
        record {
          fine = record { stands = both _ _ (second (not (lacks_handler l.context.last)) _ w) s.stands; low = under_max (expr_depth test) _ q.height (left_of (expr_depth test) _ q.height k.low) s.low; deep = s.deep; few = s.few };
          level = after l h;
          around_is = refl;
          depth_is = refl;
          given_is = refl;
          declares_is = refl;
          rest_may = same_number _ _ _ rest (omega (arith, sizes)) p.three;
        }
    stmt_kept l n (for_stmt line at t in_word e colon suite) rest low is =
        let h : Head = for_head at t in_word e colon (behind suite) in
        let p = three_of (may q l n h) (under_may q l (n + counted h) h (suite_rows suite)) _ is in
        let k = line_kept l n h p.one in
        let w = first (not (lacks_handler l.context.last) && not l.context.around.in_class) _ k.stands in
        let s = suite_kept l n 1 (for_head at t in_word e colon) line suite (λ b. refl) (λ b. refl) (second (not (lacks_handler l.context.last) && not l.context.around.in_class) _ k.stands) (right_of (max (target_depth t) (exprs_depth e)) _ q.height k.low) k.few k.deep p.two in
        let sizes = suite_size line suite in
        record {
          fine = record { stands = both _ _ (second (not (lacks_handler l.context.last)) _ w) s.stands; low = under_max (max (target_depth t) (exprs_depth e)) _ q.height (left_of (max (target_depth t) (exprs_depth e)) _ q.height k.low) s.low; deep = s.deep; few = s.few };
          level = after l h;
          around_is = refl;
          depth_is = refl;
          given_is = refl;
          declares_is = refl;
          rest_may = same_number _ _ _ rest (omega (arith, sizes)) p.three;
        }
    stmt_kept l n (with_stmt line at e called colon suite) rest low is =
        let h : Head = with_head at e called colon (behind suite) in
        let p = three_of (may q l n h) (under_may q l (n + counted h) h (suite_rows suite)) _ is in
        let k = line_kept l n h p.one in
        let w = first (not (lacks_handler l.context.last) && not l.context.around.in_class) _ k.stands in
        let s = suite_kept l n 1 (with_head at e called colon) line suite (λ b. refl) (λ b. refl) (second (not (lacks_handler l.context.last) && not l.context.around.in_class) _ k.stands) (right_of (expr_depth e) _ q.height k.low) k.few k.deep p.two in
        let sizes = suite_size line suite in
        record {
          fine = record { stands = both _ _ (second (not (lacks_handler l.context.last)) _ w) s.stands; low = under_max (expr_depth e) _ q.height (left_of (expr_depth e) _ q.height k.low) s.low; deep = s.deep; few = s.few };
          level = after l h;
          around_is = refl;
          depth_is = refl;
          given_is = refl;
          declares_is = refl;
          rest_may = same_number _ _ _ rest (omega (arith, sizes)) p.three;
        }
    stmt_kept l n (class_stmt line at name_at bytes of colon suite) rest low is =
        let h : Head = class_head at name_at bytes of colon (behind suite) in
        let p = three_of (may q l n h) (under_may q l (n + counted h) h (suite_rows suite)) _ is in
        let k = line_kept l n h p.one in
        let w = first (not (lacks_handler l.context.last) && l.context.around.at_module_level) _ k.stands in
        let s = suite_kept l n 1 (class_head at name_at bytes of colon) line suite (λ b. refl) (λ b. refl) (second (not (lacks_handler l.context.last) && l.context.around.at_module_level) _ k.stands) (right_of (1) _ q.height k.low) k.few k.deep p.two in
        let sizes = suite_size line suite in
        record {
          fine = record { stands = both _ _ (second (not (lacks_handler l.context.last)) _ w) s.stands; low = under_max (1) _ q.height (left_of (1) _ q.height k.low) s.low; deep = s.deep; few = s.few };
          level = after l h;
          around_is = refl;
          depth_is = refl;
          given_is = refl;
          declares_is = refl;
          rest_may = same_number _ _ _ rest (omega (arith, sizes)) p.three;
        }
    stmt_kept l n (if_stmt line at test colon suite elifs orelse) rest low is =
        let h : Head = if_head at test colon (behind suite) in
        let p = three_of (may q l n h) (under_may q l (n + counted h) h (suite_rows suite)) _ is in
        let k = line_kept l n h p.one in
        let w = first (not (lacks_handler l.context.last) && not l.context.around.in_class) _ k.stands in
        let s = suite_kept l n 1 (if_head at test colon) line suite (λ b. refl) (λ b. refl) (second (not (lacks_handler l.context.last) && not l.context.around.in_class) _ k.stands) (right_of (expr_depth test) _ q.height k.low) k.few k.deep p.two in
        let sizes = suite_size line suite in
        let few = s.few in
        let e = elifs_kept (after l h) (n + counted h + under_size (suite_rows suite)) l.context.may_declare elifs (else_rows orelse rest) low (omega (arith, sizes, few)) refl p.three in
        let few_2 = e.fine.few in
        let o = else_kept e.level _ l.context.may_declare orelse rest (subst (λ d. d ≤ q.suites) (sym e.depth_is) low) few_2 e.declares_is e.rest_may in
        let few_3 = o.fine.few in
        let deep_3 : l.depth + else_depth orelse ≤ q.suites = subst (λ d. d + else_depth orelse ≤ q.suites) e.depth_is o.fine.deep in
        record {
          fine = record {
            stands = all_four _ _ _ _ (second (not (lacks_handler l.context.last)) _ w) s.stands e.fine.stands (subst (λ a. else_stands (in_suite a) orelse ≡ true) e.around_is o.fine.stands);
            low = under_max (expr_depth test) _ q.height (left_of (expr_depth test) _ q.height k.low) (under_max (suite_expr_depth suite) _ q.height s.low (under_max (elif_expr_depth elifs) _ q.height e.fine.low o.fine.low));
            deep = under_max_50 l.depth (suite_depth suite) _ s.deep (under_max_50 l.depth (elif_depth elifs) _ e.fine.deep deep_3);
            few = omega (arith, sizes, few_3);
          };
          level = o.level;
          around_is = o.around_is ∙ e.around_is;
          depth_is = o.depth_is ∙ e.depth_is;
          given_is = o.given_is ∙ e.given_is;
          declares_is = o.declares_is;
          rest_may = same_number _ _ _ rest (omega (arith, sizes)) o.rest_may;
        }
    stmt_kept l n (try_stmt line at colon suite handlers) rest low is =
        let h : Head = try_head at colon (behind suite) in
        let p = three_of (may q l n h) (under_may q l (n + counted h) h (suite_rows suite)) _ is in
        let k = line_kept l n h p.one in
        let w = first (not (lacks_handler l.context.last) && not l.context.around.in_class) _ k.stands in
        let s = suite_kept l n 1 (try_head at colon) line suite (λ b. refl) (λ b. refl) (second (not (lacks_handler l.context.last) && not l.context.around.in_class) _ k.stands) (right_of 0 _ q.height k.low) k.few k.deep p.two in
        let sizes = suite_size line suite in
        let e = handlers_kept (after l h) (n + counted h + under_size (suite_rows suite)) l.context.may_declare handlers rest low refl p.three in
        let few = e.fine.few in
        record {
          fine = record {
            stands = all_three _ _ _ (second (not (lacks_handler l.context.last)) _ w) s.stands e.fine.stands;
            low = under_max (suite_expr_depth suite) _ q.height s.low e.fine.low;
            deep = under_max_50 l.depth (suite_depth suite) _ s.deep e.fine.deep;
            few = omega (arith, sizes, few);
          };
          level = e.level;
          around_is = e.around_is;
          depth_is = e.depth_is;
          given_is = e.given_is;
          declares_is = e.declares_is;
          rest_may = same_number _ _ _ rest (omega (arith, sizes)) e.rest_may;
        }
    stmt_kept l n (def_stmt line at name_at bytes opening names closing colon suite) rest low is =
        let h : Head = def_head at name_at bytes opening names closing colon (behind_def suite) in
        let p = three_of (may q l n h) (under_may q l (n + counted h) h (def_suite_rows suite)) _ is in
        let k = line_kept l n h p.one in
        let w = three_of (not (lacks_handler l.context.last) && (l.context.around.at_module_level || l.context.around.in_class)) (def_stands l.context.around bytes (params_list names)) _ k.stands in
        let s = def_kept l n line at name_at bytes opening names closing colon suite w.three (right_of 0 _ q.height k.low) k.few k.deep p.two in
        let sizes = def_size line suite in
        record {
          fine = record { stands = both _ _ w.two s.stands; low = s.low; deep = s.deep; few = s.few };
          level = after l h;
          around_is = refl;
          depth_is = refl;
          given_is = refl;
          declares_is = refl;
          rest_may = same_number _ _ _ rest (omega (arith, sizes)) p.three;
        }

    suite_kept : (l : Level) (n one : ℕ) (h : Option Simple → Head) (line : Line) (s : Suite) → ((b : Option Simple) → behind_in (h b) ≡ b) → ((b : Option Simple) → counted (h b) ≡ one + (if is_none b then 0 else 1))
        → behind_stands (head_around l.context.around (h None)) (behind s) ≡ true → behind_depth (behind s) ≤ q.height → n + counted (h (behind s)) ≤ q.number → (is_none (behind_in (h (behind s))) || nat_le (suc l.depth) q.suites) ≡ true
        → under_may q l (n + counted (h (behind s))) (h (behind s)) (suite_rows s) ≡ true → SuiteKept (head_around l.context.around (h None)) l.depth n one line s
    suite_kept l n one h line (on_line s) behind_is count_is stands low few deep is =
        let fits = leb-true (suc l.depth) q.suites (subst (λ b. (is_none b || nat_le (suc l.depth) q.suites) ≡ true) (behind_is (Some s)) deep) in
        let counts = count_is (Some s) in
        let size = one_size line.span.to s in
        record { stands = stands; low = low; deep = omega (arith, fits); few = omega (arith, counts, size, few) }
    suite_kept l n one h line (block indent body) behind_is count_is stands low few deep is =
        let fits = leb-true (suc l.depth) q.suites (first (nat_le (suc l.depth) q.suites) _ is) in
        let b = body_kept (inside l (h None) indent) (n + counted (h None)) body fits (second (nat_le (suc l.depth) q.suites) _ is) in
        let counts = count_is None in
        let deep_2 = b.deep in
        let few_2 = b.few in
        record { stands = b.stands; low = b.low; deep = omega (arith, deep_2); few = omega (arith, counts, few_2) }

    body_kept : (l : Level) (n : ℕ) (b : Body) → l.depth ≤ q.suites → rows_may q l n (body_rows b) ≡ true → BodyKept l n b
    body_kept l n (last_stmt s) low is =
        let k = stmt_kept l n s end_rows low is in
        let few = k.fine.few in
        record { stands = k.fine.stands; low = k.fine.low; deep = k.fine.deep; few = omega (arith, few) }
    body_kept l n (more_stmt s rest) low is =
        let k = stmt_kept l n s (body_rows rest) low is in
        let r = body_kept k.level (n + size_stmt (stmt_tree s)) rest (subst (λ d. d ≤ q.suites) (sym k.depth_is) low) k.rest_may in
        let few = r.few in
        record {
          stands = both _ _ k.fine.stands (subst (λ a. body_stands a rest ≡ true) k.around_is r.stands);
          low = under_max (stmt_expr_depth s) _ q.height k.fine.low r.low;
          deep = under_max_50 l.depth (suites_in s) _ k.fine.deep (subst (λ d. d + body_depth rest ≤ q.suites) k.depth_is r.deep);
          few = omega (arith, few);
        }

    elifs_kept : (l : Level) (n : ℕ) (a : Bool) (e : Elifs) (rest : Rows) → l.depth ≤ q.suites → n ≤ q.number → l.context.may_declare ≡ (a && false) → rows_may q l n (elif_rows e rest) ≡ true
        → PartsKept l n (size_branches (elif_trees e)) a rest (ElifsFine l n e)
    elifs_kept l n a no_elif rest low few declares is = record {
      fine = record { stands = refl; low = omega arith; deep = omega (arith, low); few = omega (arith, few) };
      level = l;
      around_is = refl;
      depth_is = refl;
      given_is = refl;
      declares_is = declares;
      rest_may = same_number _ _ _ rest (omega arith) is;
    }
    elifs_kept l n a (elif line at test colon suite more) rest low few declares is =
        let h : Head = elif_head at test colon (behind suite) in
        let p = three_of (may q l n h) (under_may q l (n + counted h) h (suite_rows suite)) _ is in
        let k = line_kept l n h p.one in
        let s = suite_kept l n 0 (elif_head at test colon) line suite (λ b. refl) (λ b. refl) (second (takes_branch l.context.last) _ k.stands) (right_of (expr_depth test) _ q.height k.low) k.few k.deep p.two in
        let sizes = suite_size line suite in
        let few_2 = s.few in
        let r = elifs_kept (after l h) (n + counted h + under_size (suite_rows suite)) a more rest low (omega (arith, sizes, few_2)) (still_false l.context.may_declare a declares) p.three in
        let few_3 = r.fine.few in
        record {
          fine = record {
            stands = both _ _ s.stands r.fine.stands;
            low = under_max (max (expr_depth test) (suite_expr_depth suite)) _ q.height (under_max (expr_depth test) _ q.height (left_of (expr_depth test) _ q.height k.low) s.low) r.fine.low;
            deep = under_max_50 l.depth (suite_depth suite) _ s.deep r.fine.deep;
            few = omega (arith, sizes, few_3);
          };
          level = r.level;
          around_is = r.around_is;
          depth_is = r.depth_is;
          given_is = r.given_is;
          declares_is = r.declares_is;
          rest_may = same_number _ _ _ rest (omega (arith, sizes)) r.rest_may;
        }

    else_kept : (l : Level) (n : ℕ) (a : Bool) (e : Else) (rest : Rows) → l.depth ≤ q.suites → n ≤ q.number → l.context.may_declare ≡ (a && false) → rows_may q l n (else_rows e rest) ≡ true
        → PartsKept l n (size_else (else_tree e)) a rest (ElseFine l n e)
    else_kept l n a no_else_part rest low few declares is = record {
      fine = record { stands = refl; low = omega arith; deep = omega (arith, low); few = omega (arith, few) };
      level = l;
      around_is = refl;
      depth_is = refl;
      given_is = refl;
      declares_is = declares;
      rest_may = same_number _ _ _ rest (omega arith) is;
    }
    else_kept l n a (else_part line at colon suite) rest low few declares is =
        let h : Head = else_head at colon (behind suite) in
        let p = three_of (may q l n h) (under_may q l (n + counted h) h (suite_rows suite)) _ is in
        let k = line_kept l n h p.one in
        let s = suite_kept l n 0 (else_head at colon) line suite (λ b. refl) (λ b. refl) (second (takes_branch l.context.last) _ k.stands) (right_of 0 _ q.height k.low) k.few k.deep p.two in
        let sizes = suite_size line suite in
        let few_2 = s.few in
        record {
          fine = record { stands = s.stands; low = s.low; deep = s.deep; few = omega (arith, few_2) };
          level = after l h;
          around_is = refl;
          depth_is = refl;
          given_is = refl;
          declares_is = still_false l.context.may_declare a declares;
          rest_may = same_number _ _ _ rest (omega (arith, sizes)) p.three;
        }

    handlers_kept : (l : Level) (n : ℕ) (a : Bool) (e : Handlers) (rest : Rows) → l.depth ≤ q.suites → l.context.may_declare ≡ (a && false) → rows_may q l n (handler_rows e rest) ≡ true
        → PartsKept l n (size_handlers (handler_trees e)) a rest (HandlersFine l n e)
    handlers_kept l n a (last_handler line at kind colon suite) rest low declares is =
        let h : Head = except_head at kind colon (behind suite) in
        let p = three_of (may q l n h) (under_may q l (n + counted h) h (suite_rows suite)) _ is in
        let k = line_kept l n h p.one in
        let s = suite_kept l n 0 (except_head at kind colon) line suite (λ b. refl) (λ b. refl) (second (takes_handler l.context.last) _ k.stands) (right_of (kind_depth kind) _ q.height k.low) k.few k.deep p.two in
        let sizes = suite_size line suite in
        let few = s.few in
        record {
          fine = record {
            takes = first (takes_handler l.context.last) _ k.stands;
            stands = s.stands;
            low = under_max (kind_depth kind) _ q.height (left_of (kind_depth kind) _ q.height k.low) s.low;
            deep = s.deep;
            few = omega (arith, few);
          };
          level = after l h;
          around_is = refl;
          depth_is = refl;
          given_is = refl;
          declares_is = still_false l.context.may_declare a declares;
          rest_may = same_number _ _ _ rest (omega (arith, sizes)) p.three;
        }
    handlers_kept l n a (more_handler line at kind colon suite more) rest low declares is =
        let h : Head = except_head at kind colon (behind suite) in
        let p = three_of (may q l n h) (under_may q l (n + counted h) h (suite_rows suite)) _ is in
        let k = line_kept l n h p.one in
        let s = suite_kept l n 0 (except_head at kind colon) line suite (λ b. refl) (λ b. refl) (second (takes_handler l.context.last) _ k.stands) (right_of (kind_depth kind) _ q.height k.low) k.few k.deep p.two in
        let sizes = suite_size line suite in
        let r = handlers_kept (after l h) (n + counted h + under_size (suite_rows suite)) a more rest low (still_false l.context.may_declare a declares) p.three in
        let few = r.fine.few in
        record {
          fine = record {
            takes = first (takes_handler l.context.last) _ k.stands;
            stands = all_three _ _ _ (some_class kind r.fine.takes) s.stands r.fine.stands;
            low = under_max (max (kind_depth kind) (suite_expr_depth suite)) _ q.height (under_max (kind_depth kind) _ q.height (left_of (kind_depth kind) _ q.height k.low) s.low) r.fine.low;
            deep = under_max_50 l.depth (suite_depth suite) _ s.deep r.fine.deep;
            few = omega (arith, sizes, few);
          };
          level = r.level;
          around_is = r.around_is;
          depth_is = r.depth_is;
          given_is = r.given_is;
          declares_is = r.declares_is;
          rest_may = same_number _ _ _ rest (omega (arith, sizes)) r.rest_may;
        }

    def_kept : (l : Level) (n : ℕ) (line : Line) (at name_at : Spot) (bytes : List ℕ) (opening : Spot) (names : Params) (closing colon : Spot) (s : DefSuite) → behind_stands in_def_suite (behind_def s) ≡ true → behind_depth (behind_def s) ≤ q.height
        → n + counted (def_head at name_at bytes opening names closing colon (behind_def s)) ≤ q.number → (is_none (behind_def s) || nat_le (suc l.depth) q.suites) ≡ true
        → under_may q l (n + counted (def_head at name_at bytes opening names closing colon (behind_def s))) (def_head at name_at bytes opening names closing colon (behind_def s)) (def_suite_rows s) ≡ true
        → DefKept (params_list names) l.depth n line at name_at bytes opening names closing colon s
    def_kept l n line at name_at bytes opening names closing colon (def_line s) stands low few deep is =
        let fits = leb-true (suc l.depth) q.suites deep in
        let size = one_size line.span.to s in
        record { stands = stands; low = low; deep = omega (arith, fits); few = omega (arith, size, few) }
    def_kept l n line at name_at bytes opening names closing colon (def_block indent body) stands low few deep is =
        let fits = leb-true (suc l.depth) q.suites (first (nat_le (suc l.depth) q.suites) _ is) in
        let b = def_body_kept (inside l (def_head at name_at bytes opening names closing colon None) indent) (n + counted (def_head at name_at bytes opening names closing colon None)) true body fits few refl refl (second (nat_le (suc l.depth) q.suites) _ is) in
        let deep_2 = b.deep in
        let few_2 = b.few in
        record { stands = b.stands; low = b.low; deep = omega (arith, deep_2); few = omega (arith, few_2) }

    def_body_kept : (l : Level) (n : ℕ) (may_declare : Bool) (b : DefBody) → l.depth ≤ q.suites → n ≤ q.number → l.context.around ≡ in_def_suite → l.context.may_declare ≡ may_declare → rows_may q l n (def_rows b) ≡ true → DefBodyKept l n may_declare b
    def_body_kept l n may_declare end_def low few around declares is = record { stands = refl; low = omega arith; deep = omega (arith, low); few = omega (arith, few) }
    def_body_kept l n may_declare (stmt_in_def s rest) low few around declares is =
        let k = stmt_kept l n s (def_rows rest) low is in
        let r = def_body_kept k.level (n + size_stmt (stmt_tree s)) (may_declare && is_alone s) rest (subst (λ d. d ≤ q.suites) (sym k.depth_is) low) k.fine.few (k.around_is ∙ around) (k.declares_is ∙ ap (λ b. b && is_alone s) declares) k.rest_may in
        let few_2 = r.few in
        record {
          stands = both _ _ (subst (λ a. stmt_stands a s ≡ true) around k.fine.stands) (subst (λ g. def_body_stands g (may_declare && is_alone s) rest ≡ true) k.given_is r.stands);
          low = under_max (stmt_expr_depth s) _ q.height k.fine.low r.low;
          deep = under_max_50 l.depth (suites_in s) _ k.fine.deep (subst (λ d. d + def_depth rest ≤ q.suites) k.depth_is r.deep);
          few = omega (arith, few_2);
        }
    def_body_kept l n may_declare (global_in_def line at names rest) low few around declares is =
        let h : Head = global_head at names in
        let p = three_of (may q l n h) true _ is in
        let k = line_kept l n h p.one in
        let w = first (not (lacks_handler l.context.last) && l.context.may_declare) _ k.stands in
        let r = def_body_kept (after l h) (n + counted h + 0) may_declare rest low (omega (arith, few)) around (ap (λ b. b && true) declares ∙ and_true may_declare) p.three in
        let few_2 = r.few in
        record {
          stands = all_three _ _ _ (sym declares ∙ second (not (lacks_handler l.context.last)) _ w) (second (not (lacks_handler l.context.last) && l.context.may_declare) _ k.stands) r.stands;
          low = r.low;
          deep = r.deep;
          few = omega (arith, few_2);
        }

  pub script_fine : (s : Script) → rows_may q start 0 (script_rows s) ≡ true → IsFine q s
  script_fine empty_script is = record { stands = refl; within = record { low = omega arith; deep = omega arith; few = omega arith } }
  script_fine (script body) is =
      let b = body_kept start 0 body (omega arith) is in
      let few = b.few in
      let deep = b.deep in
      record { stands = b.stands; within = record { low = b.low; deep = omega (arith, deep); few = omega (arith, few) } }
