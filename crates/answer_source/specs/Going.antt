-- How devices go on (this project's profile): what each answer that they give does to what they tell, and what is found in a folder.
use Rattle.std.specs.Prelude.{◌≡◌, ℕ, ℤ, Bool, List, [], ◌∷◌, ◌++◌, Option, Some, None, if◌then◌else◌}
use Rattle.prov_outside.specs.Console.{IsLine}
use Rattle.prov_outside.specs.Count.{one_more}
use Rattle.prov_outside.specs.Folder.{IsAnswer, IsFound}
use Rattle.prov_outside.specs.Tells.{Tells}
use Rattle.prov_outside.specs.declared.folder.Found.TheVariants.{Bytes, Absent, TooLarge}
use Rattle.py_model.specs.Capture.{Kept, Telling, same_ask}
use Rattle.py_model.specs.Plan.{Ask, time, word, line, Given, number, random_word, a_line, no_line, failed, Found, found_bytes, absent, too_large, found_failed}

abbrev pub Same : {T : Type 0} → T → T → Type 0
Same before after = after ≡ before

-- what a device may give to a question
abbrev pub IsGivenTo : Ask → Given → Type 0
IsGivenTo what failed = Unit {0}
IsGivenTo time (number i) = Unit {0}
IsGivenTo word (random_word w) = Unit {0}
IsGivenTo line (a_line bytes) = IsLine bytes
IsGivenTo line no_line = Unit {0}
IsGivenTo what other = ⊥

-- A line that is given was the first of those left, and none is given where none is left. All else takes no line.
abbrev pub LinesBy : Given → List (List ℕ) → List (List ℕ) → Type 0
LinesBy (a_line bytes) before after = before ≡ bytes ∷ after
LinesBy no_line before after = (before ≡ []) × (after ≡ before)
LinesBy other before after = after ≡ before

-- a time, or a word, that is given is one more of those given
abbrev pub TimesBy : Given → List ℤ → List ℤ → Type 0
TimesBy (number i) before after = after ≡ before ++ i ∷ []
TimesBy other before after = after ≡ before

abbrev pub WordsBy : Given → List ℕ → List ℕ → Type 0
WordsBy (random_word w) before after = after ≡ before ++ w ∷ []
WordsBy other before after = after ≡ before

-- how often a question failed, after this answer: once more where it was asked, and the device failed
abbrev pub failed_after : Given → ℕ → ℕ
failed_after failed count = one_more count
failed_after other count = count

abbrev pub faults_by : Ask → Kept → ℕ → ℕ
faults_by what kept count = if same_ask kept.what what then failed_after kept.given count else count

-- The devices give this answer. What each of them tells goes by it, where it tells at the end; it may stop telling, and never begins.
pub record Gives (kept : Kept) (before after : Telling) : Type 0 where
  pub fits : IsGivenTo kept.what kept.given
  pub lines : Tells before.lines after.lines (LinesBy kept.given)
  pub times : Tells before.times after.times (TimesBy kept.given)
  pub words : Tells before.words after.words (WordsBy kept.given)
  pub line_faults : after.line_faults ≡ faults_by line kept before.line_faults
  pub time_faults : after.time_faults ≡ faults_by time kept before.time_faults
  pub word_faults : after.word_faults ≡ faults_by word kept before.word_faults

-- they give nothing
pub record GivesNothing (before after : Telling) : Type 0 where
  pub lines : Tells before.lines after.lines Same
  pub times : Tells before.times after.times Same
  pub words : Tells before.words after.words Same
  pub line_faults : after.line_faults ≡ before.line_faults
  pub time_faults : after.time_faults ≡ before.time_faults
  pub word_faults : after.word_faults ≡ before.word_faults

-- nothing is written and no file is put, and no such call fails, nor one for a script's own text
pub record IsUntouched (before after : Telling) : Type 0 where
  pub written : Tells before.written after.written Same
  pub write_faults : after.write_faults ≡ before.write_faults
  pub source_faults : after.source_faults ≡ before.source_faults
  pub put_faults : after.put_faults ≡ before.put_faults

-- they give these answers, one after the other, and nothing else
abbrev pub Goes : List Kept → Telling → Telling → Type 0
Goes [] before after = GivesNothing before after
Goes (kept ∷ rest) before after = (next : Telling) × Gives kept before next × Goes rest next after

-- what is found where this stands; a fetch that failed says nothing of it
abbrev pub IsFoundSo : Option (List ℕ) → Found → Type 0
IsFoundSo content (found_bytes bytes) = IsFound content (Bytes bytes) × IsAnswer (Bytes bytes)
IsFoundSo content absent = IsFound content Absent
IsFoundSo content too_large = IsFound content TooLarge
IsFoundSo content found_failed = Unit {0}

-- it was found so in a folder, where that tells what it has
abbrev pub StandsSo : Option (List ℕ → Option (List ℕ)) → List ℕ → Found → Type 0
StandsSo None path found = Unit {0}
StandsSo (Some files) path found = IsFoundSo (files path) found

-- how often a fetch failed, after files that are not among those kept
abbrev pub unfound_after : Found → ℕ → ℕ
unfound_after found_failed count = one_more count
unfound_after other count = count

abbrev pub fetches_failed : (List ℕ → Bool) → List (List ℕ × Found) → ℕ → ℕ
fetches_failed kept [] count = count
fetches_failed kept (file ∷ files) count = fetches_failed kept files (if kept file.0 then count else unfound_after file.1 count)
