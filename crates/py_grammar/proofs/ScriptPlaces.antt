-- Each node of a script stands at a token of its own, and each statement at its first token, in the order of the lines.
use Rattle.std.proofs.Common.{◌≡◌, ℕ, ◌+◌, ◌≤◌, List, [], ◌∷◌, ◌++◌, refl, sym, ap, subst, ◌∙◌, arith, append_assoc, append-nil}
use Rattle.std.specs.Prelude.{codes, unwrap_or}
use Rattle.prov_base.specs.declared.place.Pos.{Pos}
use Rattle.py_lines.specs.declared.parts.Line.{Line}
use Rattle.py_lines.specs.declared.parts.Token.{Token}
use Rattle.py_lines.specs.declared.parts.TokenKind.TheVariants.{Keyword}
use Rattle.py_lines.specs.Tables.{keyword_number}
use Rattle.py_tree.specs.Tree.{FormTree}
use Rattle.py_tree.specs.Parts.{IsPartOf, no_more, leaves, takes}
use Rattle.py_tree.specs.Places.{expr_places, target_places, option_places, bound_places, suite_places, stmt_places, form_places, branches_places, else_places, handlers_places, suite_starts, stmt_starts, form_starts, branches_starts, else_starts, handlers_starts}
use Rattle.py_tree.proofs.PlaceLaws.{part_none, part_append, part_behind}
use Rattle.py_expressions.specs.Concrete.{Spot}
use Rattle.py_expressions.specs.Tokens.{token, keyword, sign, word, expr_tokens, exprs_tokens}
use Rattle.py_expressions.specs.Trees.{expr_tree, exprs_tree}
use Rattle.py_grammar.specs.Written.{Simple, expression, assign, augmented, del, pass, break, continue, return, return_value, raise, raise_value, assert, assert_message, import_module, Naming, no_naming, naming, Kind, every_kind, one_kind, Base, no_base, empty_base, base, Stmt, simple, if_stmt, while_stmt, for_stmt, try_stmt, with_stmt, def_stmt, class_stmt, Suite, on_line, block, Body, last_stmt, more_stmt, Elifs, no_elif, elif, Else, no_else_part, else_part, Handlers, last_handler, more_handler, DefSuite, def_line, def_block, DefBody, end_def, stmt_in_def, global_in_def}
use Rattle.py_grammar.specs.StatementTokens.{aug_sign, one_target_tokens, target_tokens, simple_tokens, params_tokens, naming_tokens, kind_tokens, base_tokens, suite_tokens, def_suite_tokens}
use Rattle.py_grammar.specs.StatementTrees.{one_target_tree, target_tree, simple_form, naming_bound, kind_class, kind_bound, base_tree, stmt_of_tokens, simple_tree, stmt_tree, suite_tree, body_tree, elif_trees, else_tree, handler_trees, def_tree, def_body_tree}
use Rattle.py_grammar.specs.Layout.{stmt_lines, suite_lines, body_lines, elif_lines, else_lines, handler_lines, def_lines, def_body_lines, FitsStmt, FitsSuite, FitsBody, FitsElifs, FitsElse, FitsHandlers, FitsDef, FitsDefBody}
use Rattle.py_grammar.proofs.LineFirsts.{simple_some}
use Rattle.py_grammar.proofs.NodePlaces.{count, tally, count_append, tally_append, Few, few_behind, few_gap, expr_few, exprs_few, one_target_few, target_few}

-- ---- how often a place is there on lines

abbrev pub total : Pos → List Line → ℕ
total p [] = 0
total p (line ∷ lines) = tally p line.tokens + total p lines

module _ (p : Pos) where
  total_append : (a b : List Line) → total p (a ++ b) ≡ total p a + total p b
  total_append [] b = omega arith
  total_append (line ∷ a) b = let more = total_append a b in omega (arith, more)

  -- ---- simple statements, and the parts of others

  few_operator : (at : Pos) (a b : List Pos) (x m y : List Token) → Few p (at ∷ []) m → Few p a x → Few p b y → Few p (at ∷ a ++ b) (x ++ (m ++ y))
  few_operator at a b x m y here one two =
      let c = count_append p a b in
      let t = tally_append p x (m ++ y) in
      let u = tally_append p m y in
      omega (arith, c, t, u, here, one, two)

  few_mark : (bytes : List ℕ) (spot : Spot) → Few p (spot.at ∷ []) (sign bytes spot)
  few_mark bytes spot = omega arith

  simple_few : (s : Simple) → Few p (form_places (simple_form s)) (simple_tokens s)
  simple_few (expression e) = exprs_few p e
  simple_few (assign t equals e) = few_gap p (target_places (target_tree t)) (expr_places (exprs_tree e)) (target_tokens t) (sign (codes "=") equals) (exprs_tokens e) (target_few p t) (exprs_few p e)
  simple_few (augmented t op at e) = few_operator at.at (target_places (one_target_tree t)) (expr_places (exprs_tree e)) (one_target_tokens t) (sign (aug_sign op) at) (exprs_tokens e) (few_mark (aug_sign op) at) (one_target_few p t) (exprs_few p e)
  simple_few (del at t) = few_behind p (target_places (one_target_tree t)) (keyword (codes "del") at) (one_target_tokens t) (one_target_few p t)
  simple_few (pass at) = omega arith
  simple_few (break at) = omega arith
  simple_few (continue at) = omega arith
  simple_few (return at) = omega arith
  simple_few (return_value at e) = few_behind p (expr_places (exprs_tree e)) (keyword (codes "return") at) (exprs_tokens e) (exprs_few p e)
  simple_few (raise at) = omega arith
  simple_few (raise_value at e) = few_behind p (expr_places (expr_tree e)) (keyword (codes "raise") at) (expr_tokens e) (expr_few p e)
  simple_few (assert at e) =
      let one = few_behind p (expr_places (expr_tree e)) (keyword (codes "assert") at) (expr_tokens e) (expr_few p e) in
      let none = count_append p (expr_places (expr_tree e)) [] in
      omega (arith, one, none)
  simple_few (assert_message at e comma message) =
      few_behind p (expr_places (expr_tree e) ++ expr_places (expr_tree message)) (keyword (codes "assert") at) (expr_tokens e ++ (sign (codes ",") comma ++ expr_tokens message))
      (few_gap p (expr_places (expr_tree e)) (expr_places (expr_tree message)) (expr_tokens e) (sign (codes ",") comma) (expr_tokens message) (expr_few p e) (expr_few p message))
  simple_few (import_module at module_at bytes) = omega arith

  of_tokens : (tokens : List Token) (to : ℕ) (form : FormTree) → stmt_places (stmt_of_tokens tokens to form) ≡ form_places form
  of_tokens [] to form = refl
  of_tokens (t ∷ ts) to form = refl

  leaf_few : (to : ℕ) (s : Simple) → count p (stmt_places (simple_tree to s)) ≤ tally p (simple_tokens s)
  leaf_few to s = let same = ap (count p) (of_tokens (simple_tokens s) to (simple_form s)) in let few = simple_few s in omega (arith, same, few)

  alone_few : (to : ℕ) (s : Simple) → count p (stmt_places (simple_tree to s) ++ []) ≤ tally p (simple_tokens s)
  alone_few to s = let none = count_append p (stmt_places (simple_tree to s)) [] in let few = leaf_few to s in omega (arith, none, few)

  naming_few : (n : Naming) → Few p (bound_places (naming_bound n)) (naming_tokens n)
  naming_few no_naming = omega arith
  naming_few (naming as_word name_at bytes) = omega arith

  kind_few : (k : Kind) → count p (option_places (kind_class k)) + count p (bound_places (kind_bound k)) ≤ tally p (kind_tokens k)
  kind_few every_kind = omega arith
  kind_few (one_kind e called) =
      let one = expr_few p e in let two = naming_few called in let t = tally_append p (expr_tokens e) (naming_tokens called) in omega (arith, one, two, t)

  base_few : (b : Base) → Few p (option_places (base_tree b)) (base_tokens b)
  base_few no_base = omega arith
  base_few (empty_base opening closing) = omega arith
  base_few (base opening name_at bytes closing) = omega arith

  -- ---- lines that begin compound statements, by what stands on them

  tally_2 : (tokens a b s : List Token) → tokens ≡ a ++ (b ++ s) → tally p tokens ≡ tally p a + (tally p b + tally p s)
  tally_2 tokens a b s is = let whole = ap (tally p) is in let one = tally_append p a (b ++ s) in let two = tally_append p b s in omega (arith, whole, one, two)

  tally_3 : (tokens a b c s : List Token) → tokens ≡ a ++ (b ++ (c ++ s)) → tally p tokens ≡ tally p a + (tally p b + (tally p c + tally p s))
  tally_3 tokens a b c s is = let whole = ap (tally p) is in let one = tally_append p a (b ++ (c ++ s)) in let two = tally_2 (b ++ (c ++ s)) b c s refl in omega (arith, whole, one, two)

  tally_4 : (tokens a b c d s : List Token) → tokens ≡ a ++ (b ++ (c ++ (d ++ s))) → tally p tokens ≡ tally p a + (tally p b + (tally p c + (tally p d + tally p s)))
  tally_4 tokens a b c d s is = let whole = ap (tally p) is in let one = tally_append p a (b ++ (c ++ (d ++ s))) in let two = tally_3 (b ++ (c ++ (d ++ s))) b c d s refl in omega (arith, whole, one, two)

  tally_5 : (tokens a b c d e s : List Token) → tokens ≡ a ++ (b ++ (c ++ (d ++ (e ++ s)))) → tally p tokens ≡ tally p a + (tally p b + (tally p c + (tally p d + (tally p e + tally p s))))
  tally_5 tokens a b c d e s is = let whole = ap (tally p) is in let one = tally_append p a (b ++ (c ++ (d ++ (e ++ s)))) in let two = tally_4 (b ++ (c ++ (d ++ (e ++ s)))) b c d e s refl in omega (arith, whole, one, two)

  tally_6 : (tokens a b c d e f s : List Token) → tokens ≡ a ++ (b ++ (c ++ (d ++ (e ++ (f ++ s))))) → tally p tokens ≡ tally p a + (tally p b + (tally p c + (tally p d + (tally p e + (tally p f + tally p s)))))
  tally_6 tokens a b c d e f s is = let whole = ap (tally p) is in let one = tally_append p a (b ++ (c ++ (d ++ (e ++ (f ++ s))))) in let two = tally_5 (b ++ (c ++ (d ++ (e ++ (f ++ s))))) b c d e f s refl in omega (arith, whole, one, two)

  mutual
    stmt_few : (indent : ℕ) (s : Stmt) → FitsStmt indent s → count p (stmt_places (stmt_tree s)) ≤ total p (stmt_lines s)
    stmt_few indent (simple line s) fits = let few = leaf_few line.span.to s in let is = ap (tally p) fits.tokens_are in omega (arith, few, is)
    stmt_few indent (if_stmt line at test colon suite elifs orelse) fits =
        let c1 = count_append p (expr_places (expr_tree test) ++ (suite_places (suite_tree line suite) ++ branches_places (elif_trees elifs))) (else_places (else_tree orelse)) in
        let c2 = count_append p (expr_places (expr_tree test)) (suite_places (suite_tree line suite) ++ branches_places (elif_trees elifs)) in
        let c3 = count_append p (suite_places (suite_tree line suite)) (branches_places (elif_trees elifs)) in
        let t1 = total_append (suite_lines suite) (elif_lines elifs ++ else_lines orelse) in
        let t2 = total_append (elif_lines elifs) (else_lines orelse) in
        let is = tally_3 line.tokens (keyword (codes "if") at) (expr_tokens test) (sign (codes ":") colon) (suite_tokens suite) fits.0.tokens_are in
        let one = expr_few p test in
        let two = suite_few indent line suite fits.1 in
        let three = elifs_few indent elifs fits.2 in
        let four = else_few indent orelse fits.3 in
        omega (arith, c1, c2, c3, t1, t2, is, one, two, three, four)
    stmt_few indent (while_stmt line at test colon suite) fits =
        let c1 = count_append p (expr_places (expr_tree test)) (suite_places (suite_tree line suite)) in
        let is = tally_3 line.tokens (keyword (codes "while") at) (expr_tokens test) (sign (codes ":") colon) (suite_tokens suite) fits.0.tokens_are in
        let one = expr_few p test in
        let two = suite_few indent line suite fits.1 in
        omega (arith, c1, is, one, two)
    stmt_few indent (for_stmt line at t in_word e colon suite) fits =
        let c1 = count_append p (target_places (target_tree t)) (expr_places (exprs_tree e) ++ suite_places (suite_tree line suite)) in
        let c2 = count_append p (expr_places (exprs_tree e)) (suite_places (suite_tree line suite)) in
        let is = tally_5 line.tokens (keyword (codes "for") at) (target_tokens t) (keyword (codes "in") in_word) (exprs_tokens e) (sign (codes ":") colon) (suite_tokens suite) fits.0.tokens_are in
        let one = target_few p t in
        let two = exprs_few p e in
        let three = suite_few indent line suite fits.1 in
        omega (arith, c1, c2, is, one, two, three)
    stmt_few indent (try_stmt line at colon suite handlers) fits =
        let c1 = count_append p (suite_places (suite_tree line suite)) (handlers_places (handler_trees handlers)) in
        let t1 = total_append (suite_lines suite) (handler_lines handlers) in
        let is = tally_2 line.tokens (keyword (codes "try") at) (sign (codes ":") colon) (suite_tokens suite) fits.0.tokens_are in
        let one = suite_few indent line suite fits.1 in
        let two = handlers_few indent handlers fits.2 in
        omega (arith, c1, t1, is, one, two)
    stmt_few indent (with_stmt line at e called colon suite) fits =
        let c1 = count_append p (expr_places (expr_tree e)) (bound_places (naming_bound called) ++ suite_places (suite_tree line suite)) in
        let c2 = count_append p (bound_places (naming_bound called)) (suite_places (suite_tree line suite)) in
        let is = tally_4 line.tokens (keyword (codes "with") at) (expr_tokens e) (naming_tokens called) (sign (codes ":") colon) (suite_tokens suite) fits.0.tokens_are in
        let one = expr_few p e in
        let two = naming_few called in
        let three = suite_few indent line suite fits.1 in
        omega (arith, c1, c2, is, one, two, three)
    stmt_few indent (def_stmt line at name_at bytes opening given closing colon suite) fits =
        let is = tally_6 line.tokens (keyword (codes "def") at) (word bytes name_at) (sign (codes "(") opening) (params_tokens given) (sign (codes ")") closing) (sign (codes ":") colon) (def_suite_tokens suite) fits.0.tokens_are in
        let one = def_few indent line suite fits.1 in
        omega (arith, is, one)
    stmt_few indent (class_stmt line at name_at bytes of colon suite) fits =
        let c1 = count_append p (option_places (base_tree of)) (suite_places (suite_tree line suite)) in
        let is = tally_4 line.tokens (keyword (codes "class") at) (word bytes name_at) (base_tokens of) (sign (codes ":") colon) (suite_tokens suite) fits.0.tokens_are in
        let one = base_few of in
        let two = suite_few indent line suite fits.1 in
        omega (arith, c1, is, one, two)

    suite_few : (indent : ℕ) (line : Line) (s : Suite) → FitsSuite indent s → count p (suite_places (suite_tree line s)) ≤ tally p (suite_tokens s) + total p (suite_lines s)
    suite_few indent line (on_line s) fits = let few = alone_few line.span.to s in omega (arith, few)
    suite_few indent line (block inside body) fits = let few = body_few inside body fits.1 in omega (arith, few)

    pub body_few : (indent : ℕ) (s : Body) → FitsBody indent s → count p (suite_places (body_tree s)) ≤ total p (body_lines s)
    body_few indent (last_stmt s) fits = let none = count_append p (stmt_places (stmt_tree s)) [] in let few = stmt_few indent s fits in omega (arith, none, few)
    body_few indent (more_stmt s rest) fits =
        let c1 = count_append p (stmt_places (stmt_tree s)) (suite_places (body_tree rest)) in
        let t1 = total_append (stmt_lines s) (body_lines rest) in
        let one = stmt_few indent s fits.0 in
        let two = body_few indent rest fits.1 in
        omega (arith, c1, t1, one, two)

    elifs_few : (indent : ℕ) (s : Elifs) → FitsElifs indent s → count p (branches_places (elif_trees s)) ≤ total p (elif_lines s)
    elifs_few indent no_elif fits = omega arith
    elifs_few indent (elif line at test colon suite rest) fits =
        let c1 = count_append p (expr_places (expr_tree test)) (suite_places (suite_tree line suite) ++ branches_places (elif_trees rest)) in
        let c2 = count_append p (suite_places (suite_tree line suite)) (branches_places (elif_trees rest)) in
        let t1 = total_append (suite_lines suite) (elif_lines rest) in
        let is = tally_3 line.tokens (keyword (codes "elif") at) (expr_tokens test) (sign (codes ":") colon) (suite_tokens suite) fits.0.tokens_are in
        let one = expr_few p test in
        let two = suite_few indent line suite fits.1 in
        let three = elifs_few indent rest fits.2 in
        omega (arith, c1, c2, t1, is, one, two, three)

    else_few : (indent : ℕ) (s : Else) → FitsElse indent s → count p (else_places (else_tree s)) ≤ total p (else_lines s)
    else_few indent no_else_part fits = omega arith
    else_few indent (else_part line at colon suite) fits =
        let is = tally_2 line.tokens (keyword (codes "else") at) (sign (codes ":") colon) (suite_tokens suite) fits.0.tokens_are in
        let one = suite_few indent line suite fits.1 in
        omega (arith, is, one)

    handlers_few : (indent : ℕ) (s : Handlers) → FitsHandlers indent s → count p (handlers_places (handler_trees s)) ≤ total p (handler_lines s)
    handlers_few indent (last_handler line at kind colon suite) fits =
        let c1 = count_append p (option_places (kind_class kind)) (bound_places (kind_bound kind) ++ (suite_places (suite_tree line suite) ++ [])) in
        let c2 = count_append p (bound_places (kind_bound kind)) (suite_places (suite_tree line suite) ++ []) in
        let c3 = count_append p (suite_places (suite_tree line suite)) [] in
        let is = tally_3 line.tokens (keyword (codes "except") at) (kind_tokens kind) (sign (codes ":") colon) (suite_tokens suite) fits.0.tokens_are in
        let one = kind_few kind in
        let two = suite_few indent line suite fits.1 in
        omega (arith, c1, c2, c3, is, one, two)
    handlers_few indent (more_handler line at kind colon suite rest) fits =
        let c1 = count_append p (option_places (kind_class kind)) (bound_places (kind_bound kind) ++ (suite_places (suite_tree line suite) ++ handlers_places (handler_trees rest))) in
        let c2 = count_append p (bound_places (kind_bound kind)) (suite_places (suite_tree line suite) ++ handlers_places (handler_trees rest)) in
        let c3 = count_append p (suite_places (suite_tree line suite)) (handlers_places (handler_trees rest)) in
        let t1 = total_append (suite_lines suite) (handler_lines rest) in
        let is = tally_3 line.tokens (keyword (codes "except") at) (kind_tokens kind) (sign (codes ":") colon) (suite_tokens suite) fits.0.tokens_are in
        let one = kind_few kind in
        let two = suite_few indent line suite fits.1 in
        let three = handlers_few indent rest fits.2 in
        omega (arith, c1, c2, c3, t1, is, one, two, three)

    def_few : (indent : ℕ) (line : Line) (s : DefSuite) → FitsDef indent s → count p (suite_places (def_tree line s)) ≤ tally p (def_suite_tokens s) + total p (def_lines s)
    def_few indent line (def_line s) fits = let few = alone_few line.span.to s in omega (arith, few)
    def_few indent line (def_block inside body) fits = let few = def_body_few inside body fits.2 in omega (arith, few)

    def_body_few : (indent : ℕ) (s : DefBody) → FitsDefBody indent s → count p (suite_places (def_body_tree s)) ≤ total p (def_body_lines s)
    def_body_few indent end_def fits = omega arith
    def_body_few indent (stmt_in_def s rest) fits =
        let c1 = count_append p (stmt_places (stmt_tree s)) (suite_places (def_body_tree rest)) in
        let t1 = total_append (stmt_lines s) (def_body_lines rest) in
        let one = stmt_few indent s fits.0 in
        let two = def_body_few indent rest fits.1 in
        omega (arith, c1, t1, one, two)
    def_body_few indent (global_in_def line at names rest) fits = let few = def_body_few indent rest fits.1 in omega (arith, few)

-- ---- where statements begin

abbrev pub spots : List Token → List Pos
spots [] = []
spots (t ∷ ts) = t.at ∷ spots ts

abbrev pub line_spots : List Line → List Pos
line_spots [] = []
line_spots (line ∷ lines) = spots line.tokens ++ line_spots lines

pub spots_append : (a b : List Token) → spots (a ++ b) ≡ spots a ++ spots b
spots_append [] b = refl
spots_append (t ∷ a) b = ap (λ (ps : List Pos). t.at ∷ ps) (spots_append a b)

pub line_spots_append : (a b : List Line) → line_spots (a ++ b) ≡ line_spots a ++ line_spots b
line_spots_append [] b = refl
line_spots_append (line ∷ a) b = ap (λ (ps : List Pos). spots line.tokens ++ ps) (line_spots_append a b) ∙ sym (append_assoc (spots line.tokens) (line_spots a) (line_spots b))

over : {xs : List Pos} (ys zs : List Pos) → ys ≡ zs → IsPartOf xs zs → IsPartOf xs ys
over {xs} ys zs same part = subst (λ (l : List Pos). IsPartOf xs l) (sym same) part

-- what stands behind the first token of a line
abbrev Rest : List Token → List Line → List Pos
Rest s lines = spots s ++ line_spots lines

behind_part : (xs : List Pos) (front s : List Token) (more : List Pos) → IsPartOf xs (spots s ++ more) → IsPartOf xs (spots (front ++ s) ++ more)
behind_part xs front s more part =
    over (spots (front ++ s) ++ more) (spots front ++ (spots s ++ more)) (ap (λ (ps : List Pos). ps ++ more) (spots_append front s) ∙ append_assoc (spots front) (spots s) more) (part_behind (spots front) part)

line_part : (tokens front s : List Token) (t : Token) (xs more : List Pos) → tokens ≡ t ∷ (front ++ s) → IsPartOf xs (spots s ++ more) → IsPartOf (t.at ∷ xs) (spots tokens ++ more)
line_part tokens front s t xs more is part =
    over (spots tokens ++ more) (t.at ∷ (spots (front ++ s) ++ more)) (ap (λ (ts : List Token). spots ts ++ more) is) (takes (behind_part xs front s more part))

-- a line that begins a part has no statement of its own
part_part : (tokens front s : List Token) (t : Token) (xs more : List Pos) → tokens ≡ t ∷ (front ++ s) → IsPartOf xs (spots s ++ more) → IsPartOf xs (spots tokens ++ more)
part_part tokens front s t xs more is part =
    over (spots tokens ++ more) (t.at ∷ (spots (front ++ s) ++ more)) (ap (λ (ts : List Token). spots ts ++ more) is) (leaves (behind_part xs front s more part))

group_2 : (tokens a b s : List Token) (t : Token) → tokens ≡ t ∷ (a ++ (b ++ s)) → tokens ≡ t ∷ ((a ++ b) ++ s)
group_2 tokens a b s t is = is ∙ ap (λ (ts : List Token). t ∷ ts) (sym (append_assoc a b s))

group_3 : (tokens a b c s : List Token) (t : Token) → tokens ≡ t ∷ (a ++ (b ++ (c ++ s))) → tokens ≡ t ∷ ((a ++ (b ++ c)) ++ s)
group_3 tokens a b c s t is = group_2 tokens a (b ++ c) s t (is ∙ ap (λ (ts : List Token). t ∷ (a ++ ts)) (sym (append_assoc b c s)))

group_4 : (tokens a b c d s : List Token) (t : Token) → tokens ≡ t ∷ (a ++ (b ++ (c ++ (d ++ s)))) → tokens ≡ t ∷ ((a ++ (b ++ (c ++ d))) ++ s)
group_4 tokens a b c d s t is = group_3 tokens a b (c ++ d) s t (is ∙ ap (λ (ts : List Token). t ∷ (a ++ (b ++ ts))) (sym (append_assoc c d s)))

group_5 : (tokens a b c d e s : List Token) (t : Token) → tokens ≡ t ∷ (a ++ (b ++ (c ++ (d ++ (e ++ s))))) → tokens ≡ t ∷ ((a ++ (b ++ (c ++ (d ++ e)))) ++ s)
group_5 tokens a b c d e s t is = group_4 tokens a b c (d ++ e) s t (is ∙ ap (λ (ts : List Token). t ∷ (a ++ (b ++ (c ++ ts)))) (sym (append_assoc d e s)))

-- a keyword
abbrev word_at : List ℕ → Spot → Token
word_at bytes spot = token (Keyword (unwrap_or (keyword_number bytes) 0)) spot

-- a simple statement begins with its first token
leaf_part : (tokens : List Token) (to : ℕ) (form : FormTree) → form_starts form ≡ [] → (tokens ≡ [] → ⊥) → IsPartOf (stmt_starts (stmt_of_tokens tokens to form)) (spots tokens)
leaf_part [] to form none some = absurd (some refl)
leaf_part (t ∷ ts) to form none some = subst (λ (ps : List Pos). IsPartOf (t.at ∷ ps) (t.at ∷ spots ts)) (sym none) (takes (part_none (spots ts)))

no_starts : (s : Simple) → form_starts (simple_form s) ≡ []
no_starts (expression e) = refl
no_starts (assign t equals e) = refl
no_starts (augmented t op at e) = refl
no_starts (del at t) = refl
no_starts (pass at) = refl
no_starts (break at) = refl
no_starts (continue at) = refl
no_starts (return at) = refl
no_starts (return_value at e) = refl
no_starts (raise at) = refl
no_starts (raise_value at e) = refl
no_starts (assert at e) = refl
no_starts (assert_message at e comma message) = refl
no_starts (import_module at module_at bytes) = refl

simple_part : (to : ℕ) (s : Simple) → IsPartOf (stmt_starts (simple_tree to s)) (spots (simple_tokens s))
simple_part to s = leaf_part (simple_tokens s) to (simple_form s) (no_starts s) (simple_some s)

alone_part : (to : ℕ) (s : Simple) → IsPartOf (stmt_starts (simple_tree to s) ++ []) (spots (simple_tokens s) ++ [])
alone_part to s = part_append (simple_part to s) no_more

joined : {xs ys : List Pos} (s : List Token) (a b : List Line) → IsPartOf xs (spots s ++ line_spots a) → IsPartOf ys (line_spots b) → IsPartOf (xs ++ ys) (spots s ++ line_spots (a ++ b))
joined s a b one two = over (spots s ++ line_spots (a ++ b)) ((spots s ++ line_spots a) ++ line_spots b) (ap (λ (ps : List Pos). spots s ++ ps) (line_spots_append a b) ∙ sym (append_assoc (spots s) (line_spots a) (line_spots b))) (part_append one two)

rows_joined : {xs ys : List Pos} (a b : List Line) → IsPartOf xs (line_spots a) → IsPartOf ys (line_spots b) → IsPartOf (xs ++ ys) (line_spots (a ++ b))
rows_joined a b one two = over (line_spots (a ++ b)) (line_spots a ++ line_spots b) (line_spots_append a b) (part_append one two)

mutual
  stmt_part : (indent : ℕ) (s : Stmt) → FitsStmt indent s → IsPartOf (stmt_starts (stmt_tree s)) (line_spots (stmt_lines s))
  stmt_part indent (simple line s) fits = over (spots line.tokens ++ []) (spots (simple_tokens s)) (append-nil (spots line.tokens) ∙ ap spots fits.tokens_are) (simple_part line.span.to s)
  stmt_part indent (if_stmt line at test colon suite elifs orelse) fits =
      line_part line.tokens (expr_tokens test ++ sign (codes ":") colon) (suite_tokens suite) (word_at (codes "if") at) ((suite_starts (suite_tree line suite) ++ branches_starts (elif_trees elifs)) ++ else_starts (else_tree orelse)) (line_spots (suite_lines suite ++ (elif_lines elifs ++ else_lines orelse)))
      (group_2 line.tokens (expr_tokens test) (sign (codes ":") colon) (suite_tokens suite) (word_at (codes "if") at) fits.0.tokens_are)
      (subst (λ (ps : List Pos). IsPartOf ps (spots (suite_tokens suite) ++ line_spots (suite_lines suite ++ (elif_lines elifs ++ else_lines orelse)))) (sym (append_assoc (suite_starts (suite_tree line suite)) (branches_starts (elif_trees elifs)) (else_starts (else_tree orelse))))
      (joined (suite_tokens suite) (suite_lines suite) (elif_lines elifs ++ else_lines orelse) (suite_part indent line suite fits.1) (rows_joined (elif_lines elifs) (else_lines orelse) (elifs_part indent elifs fits.2) (else_part_part indent orelse fits.3))))
  stmt_part indent (while_stmt line at test colon suite) fits =
      line_part line.tokens (expr_tokens test ++ sign (codes ":") colon) (suite_tokens suite) (word_at (codes "while") at) (suite_starts (suite_tree line suite)) (line_spots (suite_lines suite))
      (group_2 line.tokens (expr_tokens test) (sign (codes ":") colon) (suite_tokens suite) (word_at (codes "while") at) fits.0.tokens_are) (suite_part indent line suite fits.1)
  stmt_part indent (for_stmt line at t in_word e colon suite) fits =
      line_part line.tokens (target_tokens t ++ (keyword (codes "in") in_word ++ (exprs_tokens e ++ sign (codes ":") colon))) (suite_tokens suite) (word_at (codes "for") at) (suite_starts (suite_tree line suite)) (line_spots (suite_lines suite))
      (group_4 line.tokens (target_tokens t) (keyword (codes "in") in_word) (exprs_tokens e) (sign (codes ":") colon) (suite_tokens suite) (word_at (codes "for") at) fits.0.tokens_are) (suite_part indent line suite fits.1)
  stmt_part indent (try_stmt line at colon suite handlers) fits =
      line_part line.tokens (sign (codes ":") colon) (suite_tokens suite) (word_at (codes "try") at) (suite_starts (suite_tree line suite) ++ handlers_starts (handler_trees handlers)) (line_spots (suite_lines suite ++ handler_lines handlers))
      fits.0.tokens_are (joined (suite_tokens suite) (suite_lines suite) (handler_lines handlers) (suite_part indent line suite fits.1) (handlers_part indent handlers fits.2))
  stmt_part indent (with_stmt line at e called colon suite) fits =
      line_part line.tokens (expr_tokens e ++ (naming_tokens called ++ sign (codes ":") colon)) (suite_tokens suite) (word_at (codes "with") at) (suite_starts (suite_tree line suite)) (line_spots (suite_lines suite))
      (group_3 line.tokens (expr_tokens e) (naming_tokens called) (sign (codes ":") colon) (suite_tokens suite) (word_at (codes "with") at) fits.0.tokens_are) (suite_part indent line suite fits.1)
  stmt_part indent (def_stmt line at name_at bytes opening given closing colon suite) fits =
      line_part line.tokens (word bytes name_at ++ (sign (codes "(") opening ++ (params_tokens given ++ (sign (codes ")") closing ++ sign (codes ":") colon)))) (def_suite_tokens suite) (word_at (codes "def") at) (suite_starts (def_tree line suite)) (line_spots (def_lines suite))
      (group_5 line.tokens (word bytes name_at) (sign (codes "(") opening) (params_tokens given) (sign (codes ")") closing) (sign (codes ":") colon) (def_suite_tokens suite) (word_at (codes "def") at) fits.0.tokens_are) (def_part indent line suite fits.1)
  stmt_part indent (class_stmt line at name_at bytes of colon suite) fits =
      line_part line.tokens (word bytes name_at ++ (base_tokens of ++ sign (codes ":") colon)) (suite_tokens suite) (word_at (codes "class") at) (suite_starts (suite_tree line suite)) (line_spots (suite_lines suite))
      (group_3 line.tokens (word bytes name_at) (base_tokens of) (sign (codes ":") colon) (suite_tokens suite) (word_at (codes "class") at) fits.0.tokens_are) (suite_part indent line suite fits.1)

  suite_part : (indent : ℕ) (line : Line) (s : Suite) → FitsSuite indent s → IsPartOf (suite_starts (suite_tree line s)) (spots (suite_tokens s) ++ line_spots (suite_lines s))
  suite_part indent line (on_line s) fits = alone_part line.span.to s
  suite_part indent line (block inside body) fits = body_part inside body fits.1

  pub body_part : (indent : ℕ) (s : Body) → FitsBody indent s → IsPartOf (suite_starts (body_tree s)) (line_spots (body_lines s))
  body_part indent (last_stmt s) fits = over (line_spots (stmt_lines s)) (line_spots (stmt_lines s) ++ []) (sym (append-nil (line_spots (stmt_lines s)))) (part_append (stmt_part indent s fits) no_more)
  body_part indent (more_stmt s rest) fits = rows_joined (stmt_lines s) (body_lines rest) (stmt_part indent s fits.0) (body_part indent rest fits.1)

  elifs_part : (indent : ℕ) (s : Elifs) → FitsElifs indent s → IsPartOf (branches_starts (elif_trees s)) (line_spots (elif_lines s))
  elifs_part indent no_elif fits = no_more
  elifs_part indent (elif line at test colon suite rest) fits =
      part_part line.tokens (expr_tokens test ++ sign (codes ":") colon) (suite_tokens suite) (word_at (codes "elif") at) (suite_starts (suite_tree line suite) ++ branches_starts (elif_trees rest)) (line_spots (suite_lines suite ++ elif_lines rest))
      (group_2 line.tokens (expr_tokens test) (sign (codes ":") colon) (suite_tokens suite) (word_at (codes "elif") at) fits.0.tokens_are)
      (joined (suite_tokens suite) (suite_lines suite) (elif_lines rest) (suite_part indent line suite fits.1) (elifs_part indent rest fits.2))

  else_part_part : (indent : ℕ) (s : Else) → FitsElse indent s → IsPartOf (else_starts (else_tree s)) (line_spots (else_lines s))
  else_part_part indent no_else_part fits = no_more
  else_part_part indent (else_part line at colon suite) fits =
      part_part line.tokens (sign (codes ":") colon) (suite_tokens suite) (word_at (codes "else") at) (suite_starts (suite_tree line suite)) (line_spots (suite_lines suite)) fits.0.tokens_are (suite_part indent line suite fits.1)

  handlers_part : (indent : ℕ) (s : Handlers) → FitsHandlers indent s → IsPartOf (handlers_starts (handler_trees s)) (line_spots (handler_lines s))
  handlers_part indent (last_handler line at kind colon suite) fits =
      part_part line.tokens (kind_tokens kind ++ sign (codes ":") colon) (suite_tokens suite) (word_at (codes "except") at) (suite_starts (suite_tree line suite) ++ []) (line_spots (suite_lines suite))
      (group_2 line.tokens (kind_tokens kind) (sign (codes ":") colon) (suite_tokens suite) (word_at (codes "except") at) fits.0.tokens_are)
      (subst (λ (ps : List Pos). IsPartOf ps (spots (suite_tokens suite) ++ line_spots (suite_lines suite))) (sym (append-nil (suite_starts (suite_tree line suite)))) (suite_part indent line suite fits.1))
  handlers_part indent (more_handler line at kind colon suite rest) fits =
      part_part line.tokens (kind_tokens kind ++ sign (codes ":") colon) (suite_tokens suite) (word_at (codes "except") at) (suite_starts (suite_tree line suite) ++ handlers_starts (handler_trees rest)) (line_spots (suite_lines suite ++ handler_lines rest))
      (group_2 line.tokens (kind_tokens kind) (sign (codes ":") colon) (suite_tokens suite) (word_at (codes "except") at) fits.0.tokens_are)
      (joined (suite_tokens suite) (suite_lines suite) (handler_lines rest) (suite_part indent line suite fits.1) (handlers_part indent rest fits.2))

  def_part : (indent : ℕ) (line : Line) (s : DefSuite) → FitsDef indent s → IsPartOf (suite_starts (def_tree line s)) (spots (def_suite_tokens s) ++ line_spots (def_lines s))
  def_part indent line (def_line s) fits = alone_part line.span.to s
  def_part indent line (def_block inside body) fits = def_body_part inside body fits.2

  def_body_part : (indent : ℕ) (s : DefBody) → FitsDefBody indent s → IsPartOf (suite_starts (def_body_tree s)) (line_spots (def_body_lines s))
  def_body_part indent end_def fits = no_more
  def_body_part indent (stmt_in_def s rest) fits = rows_joined (stmt_lines s) (def_body_lines rest) (stmt_part indent s fits.0) (def_body_part indent rest fits.1)
  def_body_part indent (global_in_def line at names rest) fits = part_behind (spots line.tokens) (def_body_part indent rest fits.1)
