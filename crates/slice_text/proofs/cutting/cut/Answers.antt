use Rattle.std.proofs.Common.{◌≡◌, ℕ, ◌≤◌, List, [], length, refl, ap, sym, subst, ◌∙◌}
use Rattle.py_lines.specs.Place.{line_feeds}
use Rattle.py_tree.specs.Deletion.{deleted}
use Rattle.py_tree.specs.Erasure.{script_of}
use Rattle.py_tree.specs.StmtSet.{has}
use Rattle.py_grammar.specs.Grammar.{InGrammar}
use Rattle.py_grammar.specs.Language.{IsScriptIn, IsScriptWithin}
use Rattle.slice_text.specs.Cut.{script_gaps, is_in, is_filled, cut_text}
use Rattle.slice_text.proofs.CutBytes.{cut_by_gaps}
use Rattle.slice_text.specs.TextScript.{HasScript}
use Rattle.slice_text.proofs.CutLaw.{cut_has_script, cut_is_script, cut_is_within, cut_length}
use Rattle.slice_text.proofs.LineEnds.{kept_feeds, no_shorter}
use Rattle.slice_text.proofs.Whole.{whole_text}
use Rattle.slice_text.proofs.cutting.cut.Goals as goal

pub returns : goal.returns
returns c =
    let keep = has c.args.keep.now in
    let script = script_of c.args.script.now in
    let gaps = script_gaps keep script in
    let text = c.args.text.now in
    let is : c.of.result ≡ cut_text keep script text =
    c.of.ensures ∙ (c.in_ok-cut.ensures ∙ cut_by_gaps keep _ _ _ _ _ _ _ text c.in_ok-add_suite.ensures c.new-gaps.ensures c.as_slice.ensures c.as_slice-2.ensures c.in_ok-goes.ensures c.in_ok-begins.ensures) in
    record {
      cut = is;
      line_ends = ap line_feeds is ∙ kept_feeds (is_in gaps) (is_filled gaps) 0 [] text refl;
      grows = subst (λ (bytes : List ℕ). length text ≤ length bytes) (sym is) (no_shorter (is_in gaps) (is_filled gaps) 0 [] text);
      script = λ lines lines_are grammar. subst (λ (bytes : List ℕ). HasScript InGrammar bytes (deleted keep script)) (sym is) (cut_has_script keep text lines script lines_are grammar);
      placed = λ language lines lines_are one. subst (λ (bytes : List ℕ). HasScript (IsScriptIn language) bytes (deleted keep script)) (sym is) (cut_is_script keep text lines script lines_are one.grammar language one.stands);
      within = λ limits language lines lines_are one.
          subst (λ (bytes : List ℕ). HasScript (IsScriptWithin limits language) bytes (deleted keep script)) (sym is)
          (cut_is_within keep text lines script lines_are one.script.grammar limits language one.script.stands one.within);
      growth = λ lines lines_are grammar. ap (λ (bytes : List ℕ). length bytes) is ∙ cut_length keep text lines script lines_are grammar;
      whole = λ numbered all. is ∙ whole_text keep script text numbered all;
    }
