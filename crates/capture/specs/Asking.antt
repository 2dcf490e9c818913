-- What the devices did, by what is kept of it (this project's profile).
use Rattle.std.specs.Prelude.{◌≡◌, [], ◌∷◌, ◌++◌, Result, Ok, Err}
use Rattle.prov_base.specs.declared.refusal.Memory.{Memory as Want}
use Rattle.prov_outside.specs.declared.trouble.Trouble.{Trouble}
use Rattle.prov_outside.specs.declared.trouble.Trouble.TheVariants.{Failed as Fault, Memory as NoMemory}
use Rattle.prov_outside.specs.declared.folder.Found.{Found}
use Rattle.prov_outside.specs.declared.folder.Found.TheVariants.{Bytes, Absent, TooLarge, Failed as Unfound}
use Rattle.prov_outside.specs.Console.{ConsoleView, IsLine}
use Rattle.prov_outside.specs.ClockAndRandom.{ClockAndRandomView}
use Rattle.capture.specs.declared.answer.Ask.{Ask as Question}
use Rattle.capture.specs.declared.answer.Ask.TheVariants.{Time, Word, Line}
use Rattle.capture.specs.declared.answer.Given.{Given}
use Rattle.capture.specs.declared.answer.Given.TheVariants.{Number, Word as WordGiven, Line as LineGiven, End, Failed}

-- one fact for each question: for the time, for a word, for a line
abbrev pub ForAsk : Question → Type 0 → Type 0 → Type 0 → Type 0
ForAsk Time time word line = time
ForAsk Word time word line = word
ForAsk Line time word line = line

-- how the device answered, as far as its count of faults goes: what is kept as Failed is a fault
abbrev pub as_answer : Result Given Want → Result Given Trouble
as_answer (Ok Failed) = Err Fault
as_answer (Ok (Number time)) = Ok (Number time)
as_answer (Ok (WordGiven word)) = Ok (WordGiven word)
as_answer (Ok (LineGiven line)) = Ok (LineGiven line)
as_answer (Ok End) = Ok End
as_answer (Err want) = Err NoMemory

-- The time that is kept is the one that was given. Where none was, nothing has changed.
abbrev pub AsksTime : Result Given Want → ClockAndRandomView → ClockAndRandomView → Type 0
AsksTime (Ok (Number time)) before after = (after.times ≡ before.times ++ time ∷ []) × (after.words ≡ before.words)
AsksTime (Ok Failed) before after = after ≡ before
AsksTime (Ok (WordGiven word)) before after = ⊥
AsksTime (Ok (LineGiven line)) before after = ⊥
AsksTime (Ok End) before after = ⊥
AsksTime (Err want) before after = after ≡ before

-- The word that is kept is the one that was given. Where none was, nothing has changed.
abbrev pub AsksWord : Result Given Want → ClockAndRandomView → ClockAndRandomView → Type 0
AsksWord (Ok (WordGiven word)) before after = (after.words ≡ before.words ++ word ∷ []) × (after.times ≡ before.times)
AsksWord (Ok Failed) before after = after ≡ before
AsksWord (Ok (Number time)) before after = ⊥
AsksWord (Ok (LineGiven line)) before after = ⊥
AsksWord (Ok End) before after = ⊥
AsksWord (Err want) before after = after ≡ before

-- The line that is kept was the first of those left, and End is kept where none was left. Where none was given, nothing has
-- changed.
abbrev pub AsksLine : Result Given Want → ConsoleView → ConsoleView → Type 0
AsksLine (Ok (LineGiven line)) before after = (before.lines ≡ line ∷ after.lines) × (after.written ≡ before.written)
AsksLine (Ok End) before after = (before.lines ≡ []) × (after ≡ before)
AsksLine (Ok Failed) before after = after ≡ before
AsksLine (Ok (Number time)) before after = ⊥
AsksLine (Ok (WordGiven word)) before after = ⊥
AsksLine (Err want) before after = after ≡ before

-- what the folder answered, by what is kept: Failed is a fault
abbrev pub as_fetch : Result Found Want → Result Found Trouble
as_fetch (Ok Unfound) = Err Fault
as_fetch (Ok (Bytes bytes)) = Ok (Bytes bytes)
as_fetch (Ok Absent) = Ok Absent
as_fetch (Ok TooLarge) = Ok TooLarge
as_fetch (Err want) = Err NoMemory

-- a line that was given holds no LF
abbrev pub IsOneLine : Given → Type 0
IsOneLine (LineGiven line) = IsLine line
IsOneLine (Number time) = Unit {0}
IsOneLine (WordGiven word) = Unit {0}
IsOneLine End = Unit {0}
IsOneLine Failed = Unit {0}

-- what was given is a line
abbrev pub IsLineGiven : Given → Type 0
IsLineGiven (LineGiven line) = Unit {0}
IsLineGiven (Number time) = ⊥
IsLineGiven (WordGiven word) = ⊥
IsLineGiven End = ⊥
IsLineGiven Failed = ⊥
