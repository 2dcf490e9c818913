-- What `sources` and `effects` answer for a kept trial (this project's profile): the evaluations, as lines.
use Rattle.std.specs.Prelude.{◌≡◌, ℕ, List, [], ◌∷◌, ◌++◌, None, codes}
use Rattle.std.specs.Fmt.{decimal}
use Rattle.prov_base.specs.declared.place.Pos.{Pos}
use Rattle.py_tree.specs.Erasure.{script_of}
use Rattle.py_tree.specs.Tree.{ScriptTree}
use Rattle.py_model.specs.Moment.{Moment}
use Rattle.py_model.specs.Occurrences.{up_to_evaluation}
use Rattle.row_moments.specs.Moments.{moments_in}
use Rattle.feedings.specs.declared.site.Site.{Site}
use Rattle.feedings.specs.declared.site.Way.{Way}
use Rattle.feedings.specs.Sites.{AreFed}
use Rattle.trial_loading.specs.declared.trial.Trial.{Trial}

-- `12:5 1`, and LF
abbrev pub site_line_of : ℕ → ℕ → ℕ → List ℕ
site_line_of line col k = decimal line ++ codes ":" ++ decimal col ++ codes " " ++ decimal k ++ codes "\n"

abbrev pub site_line : Site → List ℕ
site_line site = site_line_of site.at.line site.at.col site.k

abbrev pub site_lines : List Site → List ℕ
site_lines [] = []
site_lines (site ∷ list) = site_line site ++ site_lines list

-- The rows tell the events of a run, among them this evaluation. The list has its sources or its effects, and the text is its lines.
pub record IsFedText (way : Way) (at : Pos) (k : ℕ) (trial : Trial) (text : List ℕ) : Type 0 where
  pub list : List Site
  pub are : AreFed way (script_of trial.script) at k (moments_in trial.rows) list
  pub text_is : text ≡ site_lines list

-- the rows have no such evaluation
abbrev pub LacksSite : Pos → ℕ → Trial → Type 0
LacksSite at k trial = up_to_evaluation at k (moments_in trial.rows) ≡ None
