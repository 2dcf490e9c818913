-- The tree of a text's script is well formed.
use Rattle.std.proofs.Common.{◌≡◌, ℕ, ◌+◌, ◌≤◌, Bool, true, false, ◌&&◌, List, [], ◌∷◌, refl, sym, ap, subst, ◌∙◌, arith}
use Rattle.std.specs.List.{list_all}
use Rattle.std.proofs.lemmas.Bool.{and_parts}
use Rattle.prov_base.specs.declared.place.Pos.{Pos}
use Rattle.prov_base.specs.declared.place.Span.{Span}
use Rattle.py_lines.specs.declared.parts.Line.{Line}
use Rattle.py_lines.specs.declared.parts.Token.{Token}
use Rattle.py_lines.specs.Logical.{HasLines}
use Rattle.py_tree.specs.Tree.{ScriptTree}
use Rattle.py_tree.specs.Numbering.{numbered_suite}
use Rattle.py_tree.specs.Parts.{IsPartOf, no_more, leaves, takes}
use Rattle.py_tree.specs.Places.{suite_places, suite_starts, is_before, is_same, are_ascending, are_distinct, body_nests}
use Rattle.py_tree.specs.WellFormed.{IsWellFormed}
use Rattle.py_tree.proofs.DeletionLaws.{suite_again, suite_size}
use Rattle.py_tree.proofs.PlaceLaws.{suite_places_same, suite_starts_same, suite_nests_same}
use Rattle.py_grammar.specs.Grammar.{InGrammar, FitsScript, script_lines}
use Rattle.py_grammar.specs.Layout.{body_lines}
use Rattle.py_grammar.specs.StatementTrees.{end_of, body_tree, script_body, script_tree}
use Rattle.py_grammar.specs.Written.{Script, empty_script, script}
use Rattle.py_grammar.proofs.LineOrder.{lines_ascend, lines_run}
use Rattle.py_grammar.proofs.NestedBytes.{Runs, body_nested, nests_alone}
use Rattle.py_grammar.proofs.NodePlaces.{count, tally, once, once_is, count_append, distinct_of}
use Rattle.py_grammar.proofs.ScriptPlaces.{spots, line_spots, total, body_few, body_part}

-- ---- what stands in a list that ascends

part_all : (test : Pos → Bool) {xs ys : List Pos} → IsPartOf xs ys → list_all test ys ≡ true → list_all test xs ≡ true
part_all test no_more all = all
part_all test (leaves {x} {xs} {ys} part) all = part_all test part (and_parts (test x) (list_all test ys) all).1
part_all test (takes {x} {xs} {ys} part) all =
    let parts = and_parts (test x) (list_all test ys) all in
    ap (λ (b : Bool). b && list_all test xs) parts.0 ∙ part_all test part parts.1

part_ascends : {xs ys : List Pos} → IsPartOf xs ys → are_ascending ys ≡ true → are_ascending xs ≡ true
part_ascends no_more is = is
part_ascends (leaves {x} {xs} {ys} part) is = part_ascends part (and_parts (list_all (is_before x) ys) (are_ascending ys) is).1
part_ascends (takes {x} {xs} {ys} part) is =
    let parts = and_parts (list_all (is_before x) ys) (are_ascending ys) is in
    ap (λ (b : Bool). b && are_ascending xs) (part_all (is_before x) part parts.0) ∙ part_ascends part parts.1

-- what stands behind the same place is another one
same_trans : (p q x : Pos) → is_same p q ≡ true → is_before q x ≡ true → is_same p x ≡ false
same_trans p q x same before = grind (arith, same, before)

none_behind : (p q : Pos) (ps : List Pos) → is_same p q ≡ true → list_all (is_before q) ps ≡ true → count p ps ≤ 0
none_behind p q [] same all = omega arith
none_behind p q (x ∷ ps) same all =
    let parts = and_parts (is_before q x) (list_all (is_before q) ps) all in
    let here : once p x ≡ 0 = once_is p x false (same_trans p q x same parts.0) in
    let later = none_behind p q ps same parts.1 in
    omega (arith, here, later)

once_each : (p : Pos) (ps : List Pos) → are_ascending ps ≡ true → count p ps ≤ 1
once_each p [] is = omega arith
once_each p (q ∷ ps) is =
    let parts = and_parts (list_all (is_before q) ps) (are_ascending ps) is in
    chosen (is_same p q) refl parts.0 (once_each p ps parts.1)
  where
    chosen : (b : Bool) → is_same p q ≡ b → list_all (is_before q) ps ≡ true → count p ps ≤ 1 → once p q + count p ps ≤ 1
    chosen true same all later = let none = none_behind p q ps same all in let here = once_is p q true same in omega (arith, none, here)
    chosen false same all later = let here = once_is p q false same in omega (arith, later, here)

tally_spots : (p : Pos) (lines : List Line) → total p lines ≡ count p (line_spots lines)
tally_spots p [] = refl
tally_spots p (line ∷ lines) = let whole = count_append p (spots line.tokens) (line_spots lines) in let one = tokens_same line.tokens in let more = tally_spots p lines in omega (arith, whole, one, more)
  where
    tokens_same : (ts : List Token) → tally p ts ≡ count p (spots ts)
    tokens_same [] = refl
    tokens_same (t ∷ ts) = ap (λ n. once p t.at + n) (tokens_same ts)

-- ---- the script

nothing : Span
nothing = record { from = 0; to = 0 }

script_few : (p : Pos) (s : Script) → FitsScript s → count p (suite_places (script_body s)) ≤ total p (script_lines s)
script_few p empty_script fits = omega arith
script_few p (script body) fits = body_few p 0 body fits

script_part : (s : Script) → FitsScript s → IsPartOf (suite_starts (script_body s)) (line_spots (script_lines s))
script_part empty_script fits = no_more
script_part (script body) fits = body_part 0 body fits

script_nests : (s : Script) → FitsScript s → Runs 0 (script_lines s) → body_nests (numbered_suite 0 (script_body s)) ≡ true
script_nests empty_script fits runs = refl
script_nests (script body) fits runs =
    let outer : Span = record { from = 0; to = end_of 0 (body_lines body) } in
    nests_alone outer (numbered_suite 0 (body_tree body)) (suite_nests_same 0 outer (body_tree body) ∙ body_nested outer 0 0 body fits runs (omega arith) (omega arith))

written_well_formed : (s : Script) → FitsScript s → Runs 0 (script_lines s) → are_ascending (line_spots (script_lines s)) ≡ true → IsWellFormed (script_tree s)
written_well_formed s fits runs ascend = record {
  numbered = record { in_order = suite_again 0 0 (script_body s); counted = suite_size 0 (script_body s) };
  ascending = ap are_ascending (suite_starts_same 0 (script_body s)) ∙ part_ascends (script_part s fits) ascend;
  apart = ap are_distinct (suite_places_same 0 (script_body s))
      ∙ distinct_of (suite_places (script_body s)) (λ p. let few = script_few p s fits in let same = tally_spots p (script_lines s) in let one = once_each p (line_spots (script_lines s)) ascend in omega (arith, few, same, one));
  nested = script_nests s fits runs;
}

pub script_well_formed : (text : List ℕ) (lines : List Line) (tree : ScriptTree) → HasLines text lines → InGrammar lines tree → IsWellFormed tree
script_well_formed text lines tree has is =
    subst IsWellFormed (sym is.tree_is)
    (written_well_formed is.written is.fits (subst (λ (ls : List Line). Runs 0 ls) is.lines_are (lines_run text lines has))
    (ap (λ (ls : List Line). are_ascending (line_spots ls)) (sym is.lines_are) ∙ lines_ascend text lines has))
