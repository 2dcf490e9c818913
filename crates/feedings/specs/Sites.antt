-- Which evaluations are the sources and the effects of one, by place and number (this project's profile). A moment's time is how many moments were before it.
use Rattle.std.specs.Prelude.{◌≡◌, ℕ, suc, Bool, true, List, [], ◌∷◌, ◌++◌, length, Option, Some, None, if◌then◌else◌}
use Rattle.prov_base.specs.declared.place.Pos.{Pos}
use Rattle.py_tree.specs.Tree.{ScriptTree}
use Rattle.py_model.specs.Moment.{Moment, does}
use Rattle.py_model.specs.Occurrences.{is_evaluation_at, evaluations_at, up_to_evaluation}
use Rattle.feedings.specs.declared.site.Site.{Site}
use Rattle.feedings.specs.declared.site.Way.{Way}
use Rattle.feedings.specs.declared.site.Way.TheVariants.{Sources, Effects}
use Rattle.feedings.specs.Feeding.{IsChain}

-- evaluations at chosen times, by place and number, in the order of their moments
abbrev pub site_of : Moment → List Moment → List Site
site_of (does at number values answer made accesses weight) before =
    if is_evaluation_at at (does at number values answer made accesses weight) then record { at = at; k = suc (evaluations_at at before) } ∷ [] else []
site_of moment before = []

abbrev pub sites : (ℕ → Bool) → List Moment → List Site
sites chosen [] = []
sites chosen (moment ∷ before) = sites chosen before ++ (if chosen (length before) then site_of moment before else [])

-- The evaluations whose times have a property.
pub record AreSites (told : List Moment) (Chosen : ℕ → Type 0) (list : List Site) : Type 0 where
  pub chosen : ℕ → Bool
  pub only : (time : ℕ) → chosen time ≡ true → Chosen time
  pub all : (time : ℕ) → Chosen time → chosen time ≡ true
  pub are : list ≡ sites chosen told

-- the evaluation is reached, and this is the time of its moment
pub record IsTimeOf (at : Pos) (k : ℕ) (told : List Moment) (time : ℕ) : Type 0 where
  pub upto : List Moment
  pub reached : up_to_evaluation at k told ≡ Some upto
  pub length_is : length upto ≡ suc time

-- a moment is among those that feed another one, or among those that this one feeds
abbrev pub Leads : Way → ScriptTree → List Moment → ℕ → ℕ → Type 0
Leads Sources script told t time = IsChain script told t time
Leads Effects script told t time = IsChain script told time t

-- The sources of the k-th evaluation at a place are those from which chains of feedings lead to it, and its effects those to which chains lead from it.
pub record AreFed (way : Way) (script : ScriptTree) (at : Pos) (k : ℕ) (told : List Moment) (list : List Site) : Type 0 where
  pub time : ℕ
  pub is_time : IsTimeOf at k told time
  pub are : AreSites told (λ t. Leads way script told t time) list

-- they are found, or there is no such evaluation
abbrev pub Finds : (List Site → Type 0) → Pos → ℕ → List Moment → Option (List Site) → Type 0
Finds Are at k told None = up_to_evaluation at k told ≡ None
Finds Are at k told (Some list) = Are list
