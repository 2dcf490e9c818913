-- What a source of answers gives (this project's profile): what every capture has that fits it afterwards.
use Rattle.std.specs.Prelude.{◌≡◌, ◌⊎◌, ℕ, suc, List, [], ◌∷◌, Option, Some, None, Result, Ok, Err}
use Rattle.prov_base.specs.declared.place.Pos.{Pos}
use Rattle.prov_outside.specs.declared.folder.Found.{Found as FoundThere}
use Rattle.prov_outside.specs.declared.folder.Found.TheVariants.{Bytes, Absent, TooLarge, Failed as Unfound}
use Rattle.capture.specs.declared.answer.Ask.{Ask as Question}
use Rattle.capture.specs.declared.answer.Ask.TheVariants.{Time, Word, Line}
use Rattle.capture.specs.declared.answer.Given.{Given as GivenThere}
use Rattle.capture.specs.declared.answer.Given.TheVariants.{Number, Word as WordGiven, Line as LineGiven, End, Failed}
use Rattle.py_model.specs.Capture.{Capture, given_in, found_in}
use Rattle.py_model.specs.Plan.{Ask, time, word, line, Given, number, random_word, a_line, no_line, failed, Found, found_bytes, absent, too_large, found_failed}
use Rattle.py_model.specs.Running.{Asking, askings_at}

-- questions, answers and files as the meaning of a run has them
abbrev pub ask_seen : Question → Ask
ask_seen Time = time
ask_seen Word = word
ask_seen Line = line

abbrev pub given_seen : GivenThere → Given
given_seen (Number i) = number i
given_seen (WordGiven w) = random_word w
given_seen (LineGiven bytes) = a_line bytes
given_seen End = no_line
given_seen Failed = failed

abbrev pub found_seen : FoundThere → Found
found_seen (Bytes bytes) = found_bytes bytes
found_seen Absent = absent
found_seen TooLarge = too_large
found_seen Unfound = found_failed

abbrev pub Fits : Type 1
Fits = Capture → Type 0

abbrev pub Stands : Type 1
Stands = List Asking → List (List ℕ) → Type 0

-- what fits afterwards fitted before
abbrev pub Knew : Fits → Fits → Type 0
Knew before after = (capture : Capture) → after capture → before capture

abbrev pub Stays : Stands → Stands → Type 0
Stays before after = (askings : List Asking) (fetches : List (List ℕ)) → before askings fetches → after askings fetches

-- one asking more at a place
abbrev pub next_asking : Pos → Ask → List Asking → List Asking
next_asking at what askings = record { at = at; k = suc (askings_at at askings); what = what } ∷ askings

-- What was answered is what the capture has for the next time at the place, and none where it has nothing. Either counts as asked. After want
-- of memory it may count as asked, or not.
abbrev pub Asks : {E : Type 0} → Question → Pos → Fits → Stands → Stands → Result (Option GivenThere) E → Type 0
Asks what at fits before after (Ok (Some given)) = (capture : Capture) (askings : List Asking) (fetches : List (List ℕ)) → fits capture → before askings fetches
    → (given_in capture.answers (ask_seen what) at (suc (askings_at at askings)) ≡ Some (given_seen given)) × after (next_asking at (ask_seen what) askings) fetches
Asks what at fits before after (Ok None) = (capture : Capture) (askings : List Asking) (fetches : List (List ℕ)) → fits capture → before askings fetches
    → (given_in capture.answers (ask_seen what) at (suc (askings_at at askings)) ≡ None) × after (next_asking at (ask_seen what) askings) fetches
Asks what at fits before after (Err want) = (askings : List Asking) (fetches : List (List ℕ)) → before askings fetches
    → after askings fetches ⊎ after (next_asking at (ask_seen what) askings) fetches

-- the path counts as fetched; after a lack of memory it does not
abbrev pub Fetches : {T E : Type 0} → List ℕ → Stands → Stands → Result T E → Type 0
Fetches path before after (Ok done) = (askings : List Asking) (fetches : List (List ℕ)) → before askings fetches → after askings (path ∷ fetches)
Fetches path before after (Err want) = Stays before after

-- no path stands twice
abbrev pub PathsOnce : List (List ℕ × Found) → Type 0
PathsOnce [] = Unit {0}
PathsOnce (file ∷ files) = (found_in files file.0 ≡ None) × PathsOnce files
