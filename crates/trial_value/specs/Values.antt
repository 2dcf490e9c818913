-- The value of an evaluation of a kept trial (this project's profile).
use Rattle.std.specs.Prelude.{◌≡◌, ℕ, List, None}
use Rattle.held_rows.specs.ValueTexts.{IsValueText}
use Rattle.prov_base.specs.declared.place.Pos.{Pos}
use Rattle.py_tree.specs.Erasure.{script_of}
use Rattle.py_model.specs.Occurrences.{up_to_evaluation}
use Rattle.py_model.specs.Store.{opening}
use Rattle.row_moments.specs.Moments.{moments_in}
use Rattle.trial_loading.specs.declared.trial.Trial.{Trial}
use Rattle.trial_value.specs.Lines.{value_lines}

-- The rows tell the events of a run, among them this evaluation. The graph text is that of its value in the store just after it, whatever files the run found as it began.
-- The steps are the lesser of 4294967295 and what the events up to it cost.
pub record IsValueAt (at : Pos) (k : ℕ) (trial : Trial) (text : List ℕ) : Type 0 where
  pub graph : List ℕ
  pub steps : ℕ
  pub value : (files : List (List ℕ × List ℕ)) → IsValueText (script_of trial.script) (opening trial.head.path trial.arguments files) at k trial.rows graph steps
  pub text_is : text ≡ value_lines graph steps

-- the rows have no such evaluation
abbrev pub LacksEvaluation : Pos → ℕ → Trial → Type 0
LacksEvaluation at k trial = up_to_evaluation at k (moments_in trial.rows) ≡ None
