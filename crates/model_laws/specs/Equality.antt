-- When two values are equal in a store, and where a value stands among items (The Python Language Reference 3, section 6.10). What the walk of a
-- comparison comes to is said here of any plan that goes on with it; `Comparing.antt` says what that is.
use Rattle.std.specs.Prelude.{◌≡◌, ℕ, zero, suc, pos, Bool, true, false, List, [], ◌∷◌, Option, Some, None, is_some, codes, not}
use Rattle.std.specs.Option.{option_map}
use Rattle.py_value.specs.Contents.{Contents, truth, int, text}
use Rattle.py_model.specs.Effect.{Effect, Answers, effect, after}
use Rattle.py_model.specs.Faults.{value_error, recursion}
use Rattle.py_model.specs.Plan.{Plan}
use Rattle.py_model.specs.Store.{RunStore}
use Rattle.py_model.specs.Walks.{alike, equals}
use Rattle.model_laws.specs.Comparing.{Compared, comes, compared, lies_too_deep}
use Rattle.model_laws.specs.Results.{Result, leaves, throws}

-- two effects come to the same: the answer, what is made, and the store afterwards
pub record ComesTo (store : RunStore) (e f : Effect) : Type 0 where
  pub answer_is : e.outcome ≡ f.outcome
  pub made_is : e.made ≡ f.made
  pub after_is : after e store ≡ after f store

-- the comparison of two values finds them equal, or not: a plan that compares them goes on with that, and changes nothing by it
abbrev pub IsEqual : RunStore → Answers → Contents → Contents → Bool → Type 0
IsEqual store answers v w b = (go : Bool → Plan) → ComesTo store (effect store answers (equals v w go)) (effect store answers (go b))

-- the first place among items at which a value that is equal to this one stands, where there is one
abbrev pub StandsAt : RunStore → Answers → Contents → List Contents → Option ℕ → Type 0
StandsAt store answers v [] place = place ≡ None
StandsAt store answers v (item ∷ items) (Some zero) = IsEqual store answers v item true
StandsAt store answers v (item ∷ items) (Some (suc p)) = IsEqual store answers v item false × StandsAt store answers v items (Some p)
StandsAt store answers v (item ∷ items) None = IsEqual store answers v item false × StandsAt store answers v items None

-- The first place among items at which an equal value stands, where there is one, by how the values compare as they are read in the store. There is no
-- answer where an item before it lies too deep to be compared.
abbrev pub one_further : Option ℕ → Option ℕ
one_further (Some p) = Some (suc p)
one_further None = None

abbrev pub further_sought : Compared → Option (Option ℕ) → Option (Option ℕ)
further_sought (comes alike) rest = Some (Some 0)
further_sought (comes how) rest = option_map one_further rest
further_sought lies_too_deep rest = None

abbrev pub sought : RunStore → Contents → List Contents → Option (Option ℕ)
sought store v [] = Some None
sought store v (item ∷ items) = further_sought (compared store false v item) (sought store v items)

-- it does something with the place, and raises where there is no answer
abbrev pub if_sought : {A : Type 0} → (Option ℕ → Result A) → Option (Option ℕ) → Result A
if_sought does (Some place) = does place
if_sought does None = throws recursion (text (codes "nested too deep") ∷ [])

-- 18 in (R Len, then R Item and compare walk up to the hit): whether the value stands in the list; 19 not in: whether it
-- does not
abbrev pub in_is : {A : Type 0} → A → Option ℕ → Result A
in_is left place = leaves (truth (is_some place)) left

abbrev pub not_in_is : {A : Type 0} → A → Option ℕ → Result A
not_in_is left place = leaves (truth (not (is_some place))) left

-- 84 index (as in): the first place at which it stands
abbrev pub index_is : List Contents → Option ℕ → Result (List Contents)
index_is items (Some p) = leaves (int (pos p)) items
index_is items None = throws value_error (text (codes "not found") ∷ [])
