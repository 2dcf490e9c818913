-- Lines that are those of a cut script, but for byte spans, are in the grammar with the tree of the deletion, up to byte spans,
-- and no more is asked of them.
use Rattle.std.proofs.Common.{◌≡◌, ℕ, ◌≤◌, Bool, true, List, refl, sym, ap, ◌∙◌, arith}
use Rattle.py_lines.specs.declared.parts.Line.{Line}
use Rattle.py_tree.specs.Numbering.{size_suite, numbered_suite}
use Rattle.py_tree.specs.Deletion.{kept_suite, deleted}
use Rattle.py_grammar.specs.Written.{Script, empty_script, script}
use Rattle.py_grammar.specs.StatementTrees.{script_body, script_tree}
use Rattle.py_grammar.specs.Grammar.{FitsScript, script_lines}
use Rattle.py_grammar.specs.Language.{Language, language_one, stands_in}
use Rattle.py_grammar.specs.Limits.{Limits, script_expr_depth, script_suites, IsWithin}
use Rattle.py_grammar.specs.WellPlaced.{module_level}
use Rattle.py_tree.proofs.DeletionLaws.{suite_size as numbered_size}
use Rattle.slice_text.specs.CutScript.{cut_script}
use Rattle.slice_text.specs.Spanless.{spanless}
use Rattle.slice_text.proofs.Bare.{bare_suite, suite_size}
use Rattle.slice_text.proofs.CutAsks.{script_cut}
use Rattle.slice_text.proofs.CutFits.{script_fits}
use Rattle.slice_text.proofs.CutTreeLaws.{script_left, same_script}
use Rattle.slice_text.proofs.FewerLeft.{suite_few}
use Rattle.slice_text.proofs.Moved.{Move}
use Rattle.slice_text.proofs.NoMore.{ScriptNoMore, script_no_more_both}
use Rattle.slice_text.proofs.Redone.{AreMoved, none_moved, body_new}

record NewScript (m : Move) (s : Script) (others : List Line) : Type 0 where
  pub new : Script
  pub lines_are : script_lines new ≡ others
  pub fits : FitsScript new
  pub tree : bare_suite (script_body new) ≡ bare_suite (script_body s)
  pub asks : ScriptNoMore new s

script_new : (m : Move) (s : Script) (others : List Line) → FitsScript s → AreMoved m (script_lines s) others → NewScript m s others
script_new m empty_script others fits are = record { new = empty_script; lines_are = none_moved m others are; fits = fits; tree = refl; asks = record { stands = λ is. is; low = omega arith; deep = omega arith } }
script_new m (script body) others fits are =
    let a = body_new m 0 body others fits are in
    let asks = a.asks in
    record { new = script a.new; lines_are = a.lines_are; fits = a.fits; tree = a.tree; asks = record { stands = asks.stands module_level; low = asks.low; deep = asks.deep } }

-- what no more is asked of, with no more statements
pub record ScriptEases (new old : Script) : Type 0 where
  pub stands : (language : Language) → stands_in language old ≡ true → stands_in language new ≡ true
  pub low : script_expr_depth new ≤ script_expr_depth old
  pub deep : script_suites new ≤ script_suites old
  pub few : size_suite (script_body new) ≤ size_suite (script_body old)

stands_still : (new old : Script) → ScriptNoMore new old → (language : Language) → stands_in language old ≡ true → stands_in language new ≡ true
stands_still new old asks language_one is = asks.stands is

fewer : (keep : ℕ → Bool) (new old : Script) → bare_suite (script_body new) ≡ bare_suite (kept_suite keep (numbered_suite 0 (script_body old))) → size_suite (script_body new) ≤ size_suite (script_body old)
fewer keep new old is =
    let same : size_suite (script_body new) ≡ size_suite (kept_suite keep (numbered_suite 0 (script_body old))) = sym (suite_size (script_body new)) ∙ (ap size_suite is ∙ suite_size (kept_suite keep (numbered_suite 0 (script_body old)))) in
    let few = suite_few keep (numbered_suite 0 (script_body old)) in
    let numbered = numbered_size 0 (script_body old) in
    omega (arith, same, few, numbered)

eases : (keep : ℕ → Bool) (new old : Script) → ScriptNoMore new old → bare_suite (script_body new) ≡ bare_suite (kept_suite keep (numbered_suite 0 (script_body old))) → ScriptEases new old
eases keep new old asks is = record { stands = stands_still new old asks; low = asks.low; deep = asks.deep; few = fewer keep new old is }

-- so it is with the script that a cut leaves
cut_eases : (keep : ℕ → Bool) (written : Script) → FitsScript written → ScriptEases (cut_script keep written) written
cut_eases keep written fits = eases keep (cut_script keep written) written (script_cut keep written) (script_left keep written fits)

pub eased_within : (limits : Limits) (new old : Script) → ScriptEases new old → IsWithin limits old → IsWithin limits new
eased_within limits new old e is = record {
  low = let a = e.low in let b = is.low in omega (arith, a, b);
  deep = let a = e.deep in let b = is.deep in omega (arith, a, b);
  few = let a = e.few in let b = is.few in omega (arith, a, b);
}

pub left_stands : (language : Language) (keep : ℕ → Bool) (written : Script) → FitsScript written → stands_in language written ≡ true → stands_in language (cut_script keep written) ≡ true
left_stands language keep written fits is = (cut_eases keep written fits).stands language is

pub left_within : (limits : Limits) (keep : ℕ → Bool) (written : Script) → FitsScript written → IsWithin limits written → IsWithin limits (cut_script keep written)
left_within limits keep written fits is = eased_within limits (cut_script keep written) written (cut_eases keep written fits) is

pub record IsLeft (keep : ℕ → Bool) (written : Script) (others : List Line) : Type 0 where
  pub new : Script
  pub lines_are : others ≡ script_lines new
  pub fits : FitsScript new
  pub same : spanless (script_tree new) ≡ spanless (deleted keep (script_tree written))
  pub eases : ScriptEases new written

pub is_left : (keep : ℕ → Bool) (m : Move) (written : Script) (others : List Line) → FitsScript written → AreMoved m (script_lines (cut_script keep written)) others → IsLeft keep written others
is_left keep m written others fits are =
    let a = script_new m (cut_script keep written) others (script_fits keep written fits) are in
    let trees = a.tree ∙ script_left keep written fits in
    record {
      new = a.new;
      lines_are = sym a.lines_are;
      fits = a.fits;
      same = same_script (script_body a.new) (kept_suite keep (numbered_suite 0 (script_body written))) trees;
      eases = eases keep a.new written (script_no_more_both a.new (cut_script keep written) written a.asks (script_cut keep written)) trees;
    }
