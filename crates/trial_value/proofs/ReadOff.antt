-- The graph text that is read off the rows of a trial is that of its evaluation.
use Rattle.std.proofs.Common.{◌≡◌, ap, subst, ◌∙◌, ℕ, List}
use Rattle.held_rows.specs.ValueTexts.{IsValueText}
use Rattle.prov_base.specs.declared.place.Pos.{Pos}
use Rattle.py_tree.specs.Erasure.{script_of}
use Rattle.py_model.specs.Store.{opening}
use Rattle.trace_rows.specs.declared.row.Row.{Row}
use Rattle.trial_loading.specs.declared.trial.Trial.{Trial}
use Rattle.trial_value.specs.Lines.{value_lines}
use Rattle.trial_value.specs.Values.{IsValueAt}

pub value_at : (trial : Trial) (at : Pos) (k : ℕ) (path : List ℕ) (words : List (List ℕ)) (rows : List Row) (graph shown : List ℕ) (steps : ℕ) (text : List ℕ)
    → path ≡ trial.head.path → words ≡ trial.arguments → rows ≡ trial.rows → shown ≡ graph
    → ((files : List (List ℕ × List ℕ)) → IsValueText (script_of trial.script) (opening path words files) at k rows graph steps) → text ≡ value_lines shown steps → IsValueAt at k trial text
value_at trial at k path words rows graph shown steps text path_is words_are rows_are shown_is value text_is = record {
  graph = graph;
  steps = steps;
  value = λ files.
      subst (λ (p : List ℕ). IsValueText (script_of trial.script) (opening p trial.arguments files) at k trial.rows graph steps) path_is
      (subst (λ (ws : List (List ℕ)). IsValueText (script_of trial.script) (opening path ws files) at k trial.rows graph steps) words_are
      (subst (λ (rs : List Row). IsValueText (script_of trial.script) (opening path words files) at k rs graph steps) rows_are (value files)));
  text_is = text_is ∙ ap (λ (g : List ℕ). value_lines g steps) shown_is;
}
