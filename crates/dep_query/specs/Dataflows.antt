-- What `dataflow` answers for a kept trial (this project's profile): the dependences of its statements, as lines.
use Rattle.std.specs.Prelude.{◌≡◌, ℕ, List}
use Rattle.py_tree.specs.Erasure.{script_of}
use Rattle.row_moments.specs.Moments.{moments_in}
use Rattle.trial_loading.specs.declared.trial.Trial.{Trial}
use Rattle.dep_query.specs.declared.dependence.Dependence.{Dependence}
use Rattle.dep_query.specs.Dependences.{AreDependences}
use Rattle.dep_query.specs.Lines.{dataflow_lines}

-- The rows tell the events of a run. The list has all dependences between statements in it, and the text is its lines.
pub record IsDataflow (trial : Trial) (text : List ℕ) : Type 0 where
  pub list : List Dependence
  pub are : AreDependences (script_of trial.script) (moments_in trial.rows) list
  pub text_is : text ≡ dataflow_lines list

-- each trial has a dataflow
abbrev pub LacksDataflow : Trial → Type 0
LacksDataflow trial = ⊥
