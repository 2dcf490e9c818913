-- Two trials that are the same to whoever reads them (this project's profile).
use Rattle.std.specs.Prelude.{◌≡◌}
use Rattle.py_tree.specs.Erasure.{script_of}
use Rattle.trial_loading.specs.declared.trial.Trial.{Trial}
use Rattle.trial_loading.specs.Loading.{rest_of}

-- they have the same number, head, text, script, rest and rows, and the rows stand on their pages alike
pub record AreSame (trial other : Trial) : Type 0 where
  pub number : trial.number ≡ other.number
  pub head : trial.head ≡ other.head
  pub text : trial.text ≡ other.text
  pub script : script_of trial.script ≡ script_of other.script
  pub rest : rest_of trial ≡ rest_of other
  pub rows : trial.rows ≡ other.rows
  pub cuts : trial.cuts.items ≡ other.cuts.items
