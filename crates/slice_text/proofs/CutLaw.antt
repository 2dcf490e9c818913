-- The cut of a text has logical lines, and they are the script of the deletion.
use Rattle.std.proofs.Common.{◌≡◌, ℕ, Bool, true, ◌||◌, List, [], ◌+◌, length, refl, sym, ap, subst, ◌∙◌, arith}
use Rattle.std.specs.List.{flat_map}
use Rattle.std.specs.Str.{IsUtf8}
use Rattle.std.proofs.lemmas.Bool.{le-ltb}
use Rattle.py_lines.specs.declared.parts.Line.{Line}
use Rattle.py_lines.specs.Logical.{HasLines}
use Rattle.py_lines.specs.Piece.{text_of}
use Rattle.py_lines.specs.Written.{pieces_of, lines_of}
use Rattle.py_tree.specs.Tree.{ScriptTree}
use Rattle.py_tree.specs.Deletion.{deleted}
use Rattle.py_grammar.specs.Written.{Script}
use Rattle.py_grammar.specs.Grammar.{InGrammar}
use Rattle.py_grammar.specs.Language.{Language, stands_in, IsScriptIn, IsScriptWithin}
use Rattle.py_grammar.specs.Limits.{Limits, IsWithin}
use Rattle.py_grammar.specs.StatementTrees.{script_tree}
use Rattle.slice_text.specs.declared.gaps.Gap.{Gap}
use Rattle.slice_text.specs.Cut.{script_gaps, is_in, is_filled, cut_from, cut_text, growths}
use Rattle.slice_text.specs.Spanless.{spanless}
use Rattle.slice_text.specs.TextScript.{HasScript}
use Rattle.slice_text.proofs.ChunkGaps.{script_gap}
use Rattle.slice_text.proofs.ChunkHeads.{script_heads}
use Rattle.slice_text.proofs.ChunkLines.{script_all}
use Rattle.slice_text.proofs.ChunkRows.{State, Walked, walk}
use Rattle.slice_text.proofs.Chunks.{Chunk, chunk_left, plan_script}
use Rattle.slice_text.proofs.ChunksLeft.{script_rest}
use Rattle.slice_text.proofs.LeftLines.{IsLeft, is_left, eased_within}
use Rattle.slice_text.proofs.LineOffsets.{gaps_of}
use Rattle.slice_text.proofs.Redone.{AreMoved}
use Rattle.slice_text.proofs.RowCut.{shift, start, NewRows}

module _ (keep : ℕ → Bool) (text : List ℕ) (lines : List Line) (tree : ScriptTree) (has : HasLines text lines) (grammar : InGrammar lines tree) where
  abbrev s : Script
  s = grammar.written

  abbrev cs : List Chunk
  cs = plan_script keep s

  abbrev goes : ℕ → Bool
  goes = is_in (script_gaps keep tree)

  abbrev begins : ℕ → Bool
  begins = is_filled (script_gaps keep tree)

  gaps_are : script_gaps keep tree ≡ gaps_of cs
  gaps_are = ap (script_gaps keep) grammar.tree_is ∙ sym (script_gap keep s grammar.fits)

  at_start : State goes begins 0 (lines_of text 0 has.written) [] 0 cs
  at_start = record {
    passed_by = omega arith;
    lines = script_all keep s ∙ (sym grammar.lines_are ∙ has.lines_are);
    goes_is = λ i lo. ap (λ (gaps : List Gap). is_in gaps i) gaps_are ∙ ap (λ b. b || is_in (gaps_of cs) i) (sym (le-ltb i 0 lo));
    begins_is = λ i lo. ap (λ (gaps : List Gap). is_filled gaps i) gaps_are;
  }

  walked : Walked goes begins text 0 has.written cs
  walked = walk goes begins text 0 has.written [] 0 cs (script_heads keep s grammar.fits) at_start has.is_written.are_lines has.is_written.cut [] has.is_written.text_is refl

  abbrev rows : NewRows goes begins text 0 has.written (flat_map chunk_left cs)
  rows = walked.rows

  text_is : cut_text keep tree text ≡ text_of (pieces_of rows.new)
  text_is = ap (cut_from goes begins 0 []) has.is_written.text_is ∙ rows.bytes

  -- the lines of the cut, and what is written on them
  record HasLeft (cut : List ℕ) : Type 0 where
    others : List Line
    has_lines : HasLines cut others
    left : IsLeft keep s others

  cut_has_left : HasLeft (cut_text keep tree text)
  cut_has_left =
      let new = rows.rows (text_of (pieces_of rows.new)) [] [] has.is_written.text_is refl refl (start goes begins) in
      let others : List Line = lines_of (text_of (pieces_of rows.new)) 0 rows.new in
      subst HasLeft (sym text_is)
      (record {
        others = others;
        has_lines = record { utf8 = rows.utf8 (subst IsUtf8 has.is_written.text_is has.utf8); written = rows.new; is_written = record { text_is = refl; cut = rows.cut has.is_written.cut; are_lines = new.are }; lines_are = refl };
        left = is_left keep (shift goes begins text) s others grammar.fits (subst (λ (ls : List Line). AreMoved (shift goes begins text) ls others) (script_rest keep s) new.moved);
      })

  abbrev left : IsLeft keep s cut_has_left.others
  left = cut_has_left.left

  abbrev left_grammar : InGrammar cut_has_left.others (script_tree left.new)
  left_grammar = record { written = left.new; lines_are = left.lines_are; fits = left.fits; tree_is = refl }

  with_script : (are : List Line → ScriptTree → Type 0) → are cut_has_left.others (script_tree left.new) → HasScript are (cut_text keep tree text) (deleted keep tree)
  with_script are is = record {
    lines = cut_has_left.others;
    has_lines = cut_has_left.has_lines;
    tree = script_tree left.new;
    is_script = is;
    same = left.same ∙ ap (λ (t : ScriptTree). spanless (deleted keep t)) (sym grammar.tree_is);
  }

  pub cut_has_script : HasScript InGrammar (cut_text keep tree text) (deleted keep tree)
  cut_has_script = with_script InGrammar left_grammar

  abbrev left_script : (language : Language) → stands_in language s ≡ true → IsScriptIn language cut_has_left.others (script_tree left.new)
  left_script language stands = record { grammar = left_grammar; stands = left.eases.stands language stands }

  pub cut_is_script : (language : Language) → stands_in language s ≡ true → HasScript (IsScriptIn language) (cut_text keep tree text) (deleted keep tree)
  cut_is_script language stands = with_script (IsScriptIn language) (left_script language stands)

  pub cut_is_within : (limits : Limits) (language : Language) → stands_in language s ≡ true → IsWithin limits s → HasScript (IsScriptWithin limits language) (cut_text keep tree text) (deleted keep tree)
  cut_is_within limits language stands within = with_script (IsScriptWithin limits language) (record { script = left_script language stands; within = eased_within limits left.new s left.eases within })

  pub cut_length : length (cut_text keep tree text) ≡ length text + growths text (script_gaps keep tree)
  cut_length =
      let cut = ap (λ (l : List ℕ). length (cut_from goes begins 0 [] l)) has.is_written.text_is in
      let size = ap (λ (l : List ℕ). length l) has.is_written.text_is in
      let gaps = ap (growths text) gaps_are in
      let grown = walked.grown in omega (arith, cut, size, gaps, grown)
