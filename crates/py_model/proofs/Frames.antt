-- Where moments nest, what is open after them is what brackets say.
use Rattle.std.proofs.Common.{◌≡◌, ℕ, Bool, true, false, if◌then◌else◌, List, [], ◌∷◌, map, Option, Some, None, refl, ap, ◌∙◌}
use Rattle.std.specs.Prelude.{◌==◌}
use Rattle.std.specs.Option.{option_and_then}
use Rattle.py_model.specs.Going.{Open, a_statement, an_activation}
use Rattle.py_model.specs.History.{open_after, opened_by, closed_by, left_by}
use Rattle.py_model.specs.Moment.{Moment, begins, does, enters, leaves, ends}
use Rattle.py_model.specs.Occurrences.{Frame, frames_after, without_top, open_of}

tail_is : (frame : Frame) (frames : List Frame) (top : Open) (rest : List Open) → map open_of (frame ∷ frames) ≡ top ∷ rest → map open_of frames ≡ rest
tail_is frame frames top rest same = cc

tail_same : (frames : List Frame) (top : Open) (rest : List Open) → map open_of frames ≡ top ∷ rest → map open_of (without_top frames) ≡ rest
tail_same [] top rest same = absurd cc
tail_same (frame ∷ frames) top rest same = tail_is frame frames top rest same

unwrapped : (xs ys : List Open) → Some xs ≡ Some ys → xs ≡ ys
unwrapped xs ys is = cc

by_test : (b : Bool) (rest open_ones : List Open) → (if b then Some rest else None) ≡ Some open_ones → rest ≡ open_ones
by_test true rest open_ones is = unwrapped rest open_ones is
by_test false rest open_ones is = absurd cc

closed_same : (number : ℕ) (before open_ones : List Open) (frames : List Frame) → map open_of frames ≡ before → closed_by number before ≡ Some open_ones → map open_of (without_top frames) ≡ open_ones
closed_same number [] open_ones frames same is = absurd cc
closed_same number (a_statement own ∷ rest) open_ones frames same is = tail_same frames (a_statement own) rest same ∙ by_test (own == number) rest open_ones is
closed_same number (an_activation ∷ rest) open_ones frames same is = absurd cc

left_same : (before open_ones : List Open) (frames : List Frame) → map open_of frames ≡ before → left_by before ≡ Some open_ones → map open_of (without_top frames) ≡ open_ones
left_same [] open_ones frames same is = absurd cc
left_same (an_activation ∷ rest) open_ones frames same is = tail_same frames an_activation rest same ∙ unwrapped rest open_ones is
left_same (a_statement own ∷ rest) open_ones frames same is = absurd cc

-- where moments nest so far, what is open before the last one
one_more : (moment : Moment) (before : Option (List Open)) (open_ones : List Open) (Goal : Type 0) → option_and_then (opened_by moment) before ≡ Some open_ones
    → ((rest : List Open) → before ≡ Some rest → opened_by moment rest ≡ Some open_ones → Goal) → Goal
one_more moment None open_ones Goal is go = absurd cc
one_more moment (Some rest) open_ones Goal is go = go rest refl is

pub frames_are_open : (told : List Moment) (open_ones : List Open) → open_after told ≡ Some open_ones → map open_of (frames_after told) ≡ open_ones
frames_are_open [] open_ones is = unwrapped [] open_ones is
frames_are_open (begins number ∷ before) open_ones is =
    one_more (begins number) (open_after before) open_ones _ is (λ rest there on. ap (λ xs. a_statement number ∷ xs) (frames_are_open before rest there) ∙ unwrapped (a_statement number ∷ rest) open_ones on)
frames_are_open (enters at def values accesses ∷ before) open_ones is =
    one_more (enters at def values accesses) (open_after before) open_ones _ is (λ rest there on. ap (λ xs. an_activation ∷ xs) (frames_are_open before rest there) ∙ unwrapped (an_activation ∷ rest) open_ones on)
frames_are_open (does at number values answer made accesses weight ∷ before) open_ones is =
    one_more (does at number values answer made accesses weight) (open_after before) open_ones _ is (λ rest there on. frames_are_open before rest there ∙ unwrapped rest open_ones on)
frames_are_open (leaves v ∷ before) open_ones is =
    one_more (leaves v) (open_after before) open_ones _ is (λ rest there on. left_same rest open_ones (frames_after before) (frames_are_open before rest there) on)
frames_are_open (ends number ended ∷ before) open_ones is =
    one_more (ends number ended) (open_after before) open_ones _ is (λ rest there on. closed_same number rest open_ones (frames_after before) (frames_are_open before rest there) on)
