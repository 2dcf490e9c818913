-- A statement that ends is the innermost that is open.
use Rattle.std.proofs.Common.{◌≡◌, ℕ, ◌==◌, Bool, true, false, List, [], ◌∷◌, map, Option, Some, None, refl, ◌∙◌, unwrap_or, arith, eqb-true, if◌then◌else◌}
use Rattle.std.specs.Option.{option_map, option_and_then}
use Rattle.py_model.specs.Going.{Open, a_statement, an_activation}
use Rattle.py_model.specs.History.{closed_by, opened_by, open_after}
use Rattle.py_model.specs.Moment.{Moment}
use Rattle.py_model.specs.Occurrences.{Occurrence, Frame, in_occurrence, in_activation, frames_after, innermost, open_of, owner_stmt}
use Rattle.py_model.proofs.Frames.{frames_are_open}

-- what is open before the last moment
pub before_last : (moment : Moment) (found : Option (List Open)) (after : List Open) → option_and_then (opened_by moment) found ≡ Some after → (before : List Open) × ((found ≡ Some before) × (opened_by moment before ≡ Some after))
before_last moment None after is = absurd cc
before_last moment (Some before) after is = (before, (refl, is))

ending_is : (number : ℕ) (frames : List Frame) (before after : List Open) → map open_of frames ≡ before → closed_by number before ≡ Some after → unwrap_or (option_map (λ (o : Occurrence). o.stmt) (innermost frames)) 0 ≡ number
ending_is number frames [] after same is = absurd cc
ending_is number frames (an_activation ∷ before) after same is = absurd cc
ending_is number [] (a_statement own ∷ before) after same is = absurd cc
ending_is number (in_activation time ∷ frames) (a_statement own ∷ before) after same is = absurd cc
ending_is number (in_occurrence o ∷ frames) (a_statement own ∷ before) after same is = own_is same ∙ by (own == number) refl is
  where
    own_is : a_statement o.stmt ∷ map open_of frames ≡ a_statement own ∷ before → o.stmt ≡ own
    own_is same = cc

    by : (b : Bool) → (own == number) ≡ b → (if b then Some before else None) ≡ Some after → own ≡ number
    by true test is = omega (arith, eqb-true own number test)
    by false test is = absurd cc

pub end_is : (number : ℕ) (told : List Moment) (before after : List Open) → open_after told ≡ Some before → closed_by number before ≡ Some after → unwrap_or (owner_stmt told) 0 ≡ number
end_is number told before after open_is is = ending_is number (frames_after told) before after (frames_are_open told before open_is) is
