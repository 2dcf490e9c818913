-- Worked scripts, each in the grammar with the tree that was written down by hand; found by computation.
use Rattle.std.proofs.Common.{◌≡◌, ℕ, ◌+◌, ◌-◌, List, [], ◌∷◌, codes, refl, Some, slice_index_or, arith}
use Rattle.std.specs.Prelude.{pos, true, false}
use Rattle.prov_base.specs.declared.place.Pos.{Pos}
use Rattle.prov_base.specs.declared.place.Span.{Span}
use Rattle.py_lines.specs.declared.parts.Line.{Line}
use Rattle.py_lines.specs.declared.parts.Token.{Token}
use Rattle.py_lines.specs.declared.parts.TokenKind.{TokenKind}
use Rattle.py_lines.specs.declared.parts.TokenKind.TheVariants.{Word, Keyword, Number, Sign}
use Rattle.py_tree.specs.declared.expr.Atom.TheVariants.{Int}
use Rattle.py_tree.specs.Tree as T
use Rattle.py_expressions.specs.Concrete as C
use Rattle.py_grammar.specs.Written as W
use Rattle.py_expressions.specs.Targets.{one_target, named}
use Rattle.py_grammar.specs.Grammar.{InGrammar}
use Rattle.py_grammar.specs.WellPlaced.{script_stands}
use Rattle.py_grammar.specs.StatementDepth.{stmt_expr_depth, suites_in}

-- a token on this line, from this column on, of so many bytes, where the line begins at this offset
abbrev spot : ℕ → ℕ → ℕ → ℕ → C.Spot
spot line col begins many = record { at = record { line = line; col = col }; span = record { from = begins + col - 1; to = begins + col - 1 + many } }

abbrev tok : TokenKind → C.Spot → Token
tok kind s = record { at = s.at; span = s.span; kind = kind }

abbrev of_name : C.Spot → List ℕ → C.Expr
of_name s name = C.plain_expr (C.plain_or (C.plain_and (C.plain_not (C.plain_cmp (C.plain_sum (C.plain_term (C.plain_unary (C.plain_prim (C.name s name)))))))))

abbrev of_number : C.Spot → ℕ → C.Expr
of_number s n = C.plain_expr (C.plain_or (C.plain_and (C.plain_not (C.plain_cmp (C.plain_sum (C.plain_term (C.plain_unary (C.plain_prim (C.number s n)))))))))

-- `x = 0` with its places
abbrev binding : C.Spot → List ℕ → C.Spot → C.Spot → ℕ → W.Simple
binding x name equals value n = W.assign (one_target (named x name)) equals (C.one_expr (of_number value n))

-- the script
--     if x: y = 1
--     else: z = 2
abbrev first_line : Line
first_line = record {
  indent = 0;
  span = record { from = 0; to = 11 };
  tokens =
      tok (Keyword 20) (spot 1 1 0 2) ∷ tok (Word (codes "x")) (spot 1 4 0 1) ∷ tok (Sign 7) (spot 1 5 0 1)
      ∷ tok (Word (codes "y")) (spot 1 7 0 1) ∷ tok (Sign 9) (spot 1 9 0 1) ∷ tok (Number (pos 1)) (spot 1 11 0 1) ∷ [];
}

abbrev second_line : Line
second_line = record {
  indent = 0;
  span = record { from = 12; to = 23 };
  tokens =
      tok (Keyword 14) (spot 2 1 12 4) ∷ tok (Sign 7) (spot 2 5 12 1)
      ∷ tok (Word (codes "z")) (spot 2 7 12 1) ∷ tok (Sign 9) (spot 2 9 12 1) ∷ tok (Number (pos 2)) (spot 2 11 12 1) ∷ [];
}

abbrev choice : W.Stmt
choice = W.if_stmt first_line (spot 1 1 0 2) (of_name (spot 1 4 0 1) (codes "x")) (spot 1 5 0 1)
    (W.on_line (binding (spot 1 7 0 1) (codes "y") (spot 1 9 0 1) (spot 1 11 0 1) 1))
    W.no_elif (W.else_part second_line (spot 2 1 12 4) (spot 2 5 12 1) (W.on_line (binding (spot 2 7 12 1) (codes "z") (spot 2 9 12 1) (spot 2 11 12 1) 2)))

abbrev place : ℕ → ℕ → Pos
place line col = record { line = line; col = col }

abbrev bytes : ℕ → ℕ → Span
bytes from to = record { from = from; to = to }

abbrev tree : T.ScriptTree
tree = record {
  body = T.more_suite (T.one_stmt 0 (place 1 1) (bytes 0 23) (T.if_form
      (T.more_branches (T.var_expr (place 1 4) (codes "x")) (T.more_suite (T.one_stmt 1 (place 1 7) (bytes 6 11) (T.assign_form (T.var_target (place 1 7) (codes "y")) (T.const_expr (place 1 11) (Int (pos 1))))) T.end_suite) T.end_branches)
      (T.else_suite (T.more_suite (T.one_stmt 2 (place 2 7) (bytes 18 23) (T.assign_form (T.var_target (place 2 7) (codes "z")) (T.const_expr (place 2 11) (Int (pos 2))))) T.end_suite)))) T.end_suite;
  count = 3;
}

one_line_suites : InGrammar (first_line ∷ second_line ∷ []) tree
one_line_suites = record {
  written = W.script (W.last_stmt choice);
  lines_are = refl;
  fits = (record { indent_is = refl; tokens_are = refl }, tt, tt, (record { indent_is = refl; tokens_are = refl }, tt));
  tree_is = refl;
}

stands : script_stands (W.script (W.last_stmt choice)) ≡ true
stands = refl

depth : stmt_expr_depth choice ≡ 1
depth = refl

suites : suites_in choice ≡ 1
suites = refl

-- the script
--     def f(a):
--         global g
--         return a
abbrev def_lines : List Line
def_lines =
    record {
      indent = 0;
      span = record { from = 0; to = 9 };
      tokens =
          tok (Keyword 11) (spot 1 1 0 3) ∷ tok (Word (codes "f")) (spot 1 5 0 1) ∷ tok (Sign 0) (spot 1 6 0 1) ∷ tok (Word (codes "a")) (spot 1 7 0 1)
          ∷ tok (Sign 1) (spot 1 8 0 1) ∷ tok (Sign 7) (spot 1 9 0 1) ∷ [];
    }
    ∷ record { indent = 4; span = record { from = 10; to = 22 }; tokens = tok (Keyword 19) (spot 2 5 10 6) ∷ tok (Word (codes "g")) (spot 2 12 10 1) ∷ [] }
    ∷ record { indent = 4; span = record { from = 23; to = 35 }; tokens = tok (Keyword 30) (spot 3 5 23 6) ∷ tok (Word (codes "a")) (spot 3 12 23 1) ∷ [] }
    ∷ []

abbrev line_at : ℕ → Line
line_at n = slice_index_or def_lines n first_line

abbrev function : W.Stmt
function = W.def_stmt (line_at 0) (spot 1 1 0 3) (spot 1 5 0 1) (codes "f") (spot 1 6 0 1) (W.params (W.last_name (spot 1 7 0 1) (codes "a"))) (spot 1 8 0 1) (spot 1 9 0 1)
    (W.def_block 4 (W.global_in_def (line_at 1) (spot 2 5 10 6) (W.last_name (spot 2 12 10 1) (codes "g"))
    (W.stmt_in_def (W.simple (line_at 2) (W.return_value (spot 3 5 23 6) (C.one_expr (of_name (spot 3 12 23 1) (codes "a"))))) W.end_def)))

abbrev def_tree : T.ScriptTree
def_tree = record {
  body = T.more_suite (T.one_stmt 0 (place 1 1) (bytes 0 35) (T.def_form (codes "f") (codes "a" ∷ []) (codes "g" ∷ [])
      (T.more_suite (T.one_stmt 1 (place 3 5) (bytes 27 35) (T.return_form (Some (T.var_expr (place 3 12) (codes "a"))))) T.end_suite))) T.end_suite;
  count = 2;
}

a_function : InGrammar def_lines def_tree
a_function = record {
  written = W.script (W.last_stmt function);
  lines_are = refl;
  fits = (record { indent_is = refl; tokens_are = refl }, (omega arith, refl, (record { indent_is = refl; tokens_are = refl }, (record { indent_is = refl; tokens_are = refl }, tt))));
  tree_is = refl;
}

it_stands : script_stands (W.script (W.last_stmt function)) ≡ true
it_stands = refl

-- without its `def` the `return` stands nowhere
alone : script_stands (W.script (W.last_stmt (W.simple (line_at 2) (W.return (spot 3 5 23 6))))) ≡ false
alone = refl
