-- Worked cuts, each found by computation.
use Rattle.std.proofs.Common.{◌≡◌, ℕ, true, false, List, [], ◌∷◌, refl}
use Rattle.std.specs.Prelude.{codes, pos}
use Rattle.py_tree.specs.declared.expr.Atom.TheVariants.{Int}
use Rattle.py_tree.specs.Tree.{ExprTree, StmtTree, FormTree, SuiteTree, ScriptTree, const_expr, one_stmt, pass_form, if_form, while_form, more_suite, end_suite, more_branches, end_branches, else_suite}
use Rattle.py_tree.specs.StmtSet.{has}
use Rattle.slice_text.specs.Cut.{cut_text, growths, script_gaps}

-- a cut looks at numbers, bytes and suites alone, so places and expressions stand for any here
abbrev any_test : ExprTree
any_test = const_expr (record { line = 1; col = 1 }) (Int (pos 0))

abbrev stmt : ℕ → ℕ → ℕ → FormTree → StmtTree
stmt number from to form = one_stmt number (record { line = 1; col = 1 }) (record { from = from; to = to }) form

abbrev row : List StmtTree → SuiteTree
row [] = end_suite
row (s ∷ ss) = more_suite s (row ss)

abbrev script : ℕ → List StmtTree → ScriptTree
script count stmts = record { body = row stmts; count = count }

-- ---- an `if` of two one-line suites
--     x = 0
--     y = 5
--     if x: y = 1
--     else: z = 2
--     print(z)

abbrev choice : ScriptTree
choice =
    script 6 (stmt 0 0 5 pass_form ∷ stmt 1 6 11 pass_form
    ∷ stmt 2 12 35 (if_form (more_branches any_test (row (stmt 3 18 23 pass_form ∷ [])) end_branches) (else_suite (row (stmt 4 30 35 pass_form ∷ []))))
    ∷ stmt 5 36 44 pass_form ∷ [])

abbrev choice_text : List ℕ
choice_text = codes "x = 0\ny = 5\nif x: y = 1\nelse: z = 2\nprint(z)\n"

pub one_line_suite : cut_text (has (true ∷ false ∷ true ∷ false ∷ true ∷ true ∷ [])) choice choice_text ≡ codes "x = 0\n     \nif x: pass \nelse: z = 2\nprint(z)\n"
one_line_suite = refl

pub all_stays : cut_text (has (true ∷ true ∷ true ∷ true ∷ true ∷ true ∷ [])) choice choice_text ≡ choice_text
all_stays = refl

pub nothing_stays : cut_text (has []) choice choice_text ≡ codes "     \n     \n           \n           \n        \n"
nothing_stays = refl

pub else_emptied : cut_text (has (true ∷ true ∷ true ∷ true ∷ false ∷ true ∷ [])) choice choice_text ≡ codes "x = 0\ny = 5\nif x: y = 1\nelse: pass \nprint(z)\n"
else_emptied = refl

-- ---- statements over several lines, with comments in them and before them, and CR LF
--     while x:   # a
--       # b
--       f(1,  # c
--         2)  # d
--       # e
--       y
--     z
abbrev turns : ScriptTree
turns = script 4 (stmt 0 0 55 (while_form any_test (row (stmt 1 24 45 pass_form ∷ stmt 2 54 55 pass_form ∷ []))) ∷ stmt 3 56 57 pass_form ∷ [])

abbrev turns_text : List ℕ
turns_text = codes "while x:   # a\n  # b\r\n  f(1,  # c\n    2)  # d\n  # e\n  y\nz"

pub many_lines : cut_text (has (true ∷ false ∷ true ∷ true ∷ [])) turns turns_text ≡ codes "while x:   # a\n  # b\r\n           \n           \n  # e\n  y\nz"
many_lines = refl

pub emptied_over_lines : cut_text (has (true ∷ false ∷ false ∷ true ∷ [])) turns turns_text ≡ codes "while x:   # a\n  # b\r\n  pass     \n           \n  # e\n   \nz"
emptied_over_lines = refl

pub whole_gone : cut_text (has (false ∷ true ∷ true ∷ true ∷ [])) turns turns_text ≡ codes "              \n     \r\n           \n           \n     \n   \nz"
whole_gone = refl

-- ---- statements that are shorter than `pass`
abbrev short : ScriptTree
short = script 2 (stmt 0 0 7 (while_form any_test (row (stmt 1 6 7 pass_form ∷ []))) ∷ [])

pub grows_at_the_end : cut_text (has (true ∷ false ∷ [])) short (codes "if x: y") ≡ codes "if x: pass"
grows_at_the_end = refl

pub grows_before_a_line : cut_text (has (true ∷ false ∷ [])) short (codes "if x: y\r\n# z\n") ≡ codes "if x: pass\r\n# z\n"
grows_before_a_line = refl

pub grows_before_its_own_line : cut_text (has (true ∷ false ∷ [])) (script 2 (stmt 0 0 10 (while_form any_test (row (stmt 1 6 10 pass_form ∷ []))) ∷ [])) (codes "if x: (\n1)") ≡ codes "if x: pass\n  "
grows_before_its_own_line = refl

-- by so many letters
pub letters_at_the_end : growths (codes "if x: y") (script_gaps (has (true ∷ false ∷ [])) short) ≡ 3
letters_at_the_end = refl

pub no_letters : growths choice_text (script_gaps (has (true ∷ false ∷ true ∷ false ∷ true ∷ true ∷ [])) choice) ≡ 0
no_letters = refl
