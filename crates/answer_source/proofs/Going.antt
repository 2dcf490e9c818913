-- How devices go on: what they tell is joined over several calls, and what one call of a device comes to.
use Rattle.std.proofs.Common.{◌≡◌, refl, sym, ap, subst, ◌∙◌, ℕ, ℤ, List, [], ◌∷◌, Option, Some, None, Ok}
use Rattle.std.specs.Option.{option_map}
use Rattle.prov_base.specs.declared.place.Pos.{Pos}
use Rattle.prov_outside.specs.Console.{ConsoleView}
use Rattle.prov_outside.specs.Count.{faults_after}
use Rattle.prov_outside.specs.Folder.{Files}
use Rattle.prov_outside.specs.ClockAndRandom.{ClockAndRandomView}
use Rattle.prov_outside.specs.Tells.{Tells}
use Rattle.capture.specs.Answers.{Fits}
use Rattle.capture.specs.Asking.{ForAsk, AsksTime, AsksWord, AsksLine, as_answer, IsOneLine}
use Rattle.capture.specs.declared.answer.Ask.{Ask as Question}
use Rattle.capture.specs.declared.answer.Ask.TheVariants.{Time, Word, Line}
use Rattle.capture.specs.declared.answer.Given.{Given as GivenThere}
use Rattle.capture.specs.declared.answer.Given.TheVariants.{Number, Word as WordGiven, Line as LineGiven, End, Failed}
use Rattle.py_model.specs.Capture.{Kept, Telling}
use Rattle.py_model.specs.Plan.{time, word, line, number, random_word, a_line, no_line}
use Rattle.answer_source.specs.Going.{Same, LinesBy, TimesBy, WordsBy, faults_by, Gives, GivesNothing, Goes, IsUntouched}
use Rattle.answer_source.specs.Live.{kept_seen, telling}

pub tells_itself : {T : Type 0} → (told : Option T) → Tells told told Same
tells_itself (Some x) = refl
tells_itself None = tt

-- what was told before a call that changed nothing
pub tells_after : {T : Type 0} → (P : T → T → Type 0) (a b c : Option T) → Tells a b Same → Tells b c P → Tells a c P
tells_after P a b None first later = tt
tells_after P a None (Some z) first later = absurd later
tells_after P None (Some y) (Some z) first later = absurd first
tells_after P (Some x) (Some y) (Some z) first later = subst (λ w. P w z) first later

-- a part of what is told
pub tells_part : {T U : Type 0} → (f : T → U) (P : T → T → Type 0) (Q : U → U → Type 0) → ((x y : T) → P x y → Q (f x) (f y)) → (a b : Option T) → Tells a b P → Tells (option_map f a) (option_map f b) Q
tells_part f P Q so a None told = tt
tells_part f P Q so None (Some y) told = absurd told
tells_part f P Q so (Some x) (Some y) told = so x y told

-- a device that is as before
pub device_same : {D T U : Type 0} → (told : D → Option T) (f : T → U) (d e : D) → e ≡ d → Tells (option_map f (told d)) (option_map f (told e)) Same
device_same told f d e is = subst (λ x. Tells (option_map f (told d)) (option_map f (told x)) Same) (sym is) (tells_itself (option_map f (told d)))

pub nothing_itself : (now : Telling) → GivesNothing now now
nothing_itself now = record {
  lines = tells_itself now.lines;
  times = tells_itself now.times;
  words = tells_itself now.words;
  line_faults = refl;
  time_faults = refl;
  word_faults = refl;
}

pub untouched_itself : (now : Telling) → IsUntouched now now
untouched_itself now = record { written = tells_itself now.written; write_faults = refl; source_faults = refl; put_faults = refl }

pub untouched_then : (a b c : Telling) → IsUntouched a b → IsUntouched b c → IsUntouched a c
untouched_then a b c first later = record {
  written = tells_after Same a.written b.written c.written first.written later.written;
  write_faults = later.write_faults ∙ first.write_faults;
  source_faults = later.source_faults ∙ first.source_faults;
  put_faults = later.put_faults ∙ first.put_faults;
}

-- what goes on from a moment goes on from an earlier one, where nothing was given in between
pub goes_from : (rest : List Kept) (a b c : Telling) → GivesNothing a b → Goes rest b c → Goes rest a c
goes_from [] a b c none goes = record {
  lines = tells_after Same a.lines b.lines c.lines none.lines goes.lines;
  times = tells_after Same a.times b.times c.times none.times goes.times;
  words = tells_after Same a.words b.words c.words none.words goes.words;
  line_faults = goes.line_faults ∙ none.line_faults;
  time_faults = goes.time_faults ∙ none.time_faults;
  word_faults = goes.word_faults ∙ none.word_faults;
}
goes_from (kept ∷ rest) a b c none goes = (
  goes.0,
  record {
    fits = goes.1.fits;
    lines = tells_after (LinesBy kept.given) a.lines b.lines goes.0.lines none.lines goes.1.lines;
    times = tells_after (TimesBy kept.given) a.times b.times goes.0.times none.times goes.1.times;
    words = tells_after (WordsBy kept.given) a.words b.words goes.0.words none.words goes.1.words;
    line_faults = goes.1.line_faults ∙ ap (faults_by line kept) none.line_faults;
    time_faults = goes.1.time_faults ∙ ap (faults_by time kept) none.time_faults;
    word_faults = goes.1.word_faults ∙ ap (faults_by word kept) none.word_faults;
  },
  goes.2,
)

abbrev pub lines_of : ConsoleView → List (List ℕ)
lines_of view = view.lines

abbrev pub times_of : ClockAndRandomView → List ℤ
times_of view = view.times

abbrev pub words_of : ClockAndRandomView → List ℕ
words_of view = view.words

module _ {C M : Type 0} (console_told : C → Option ConsoleView) (in_faults out_faults : C → ℕ) (moments_told : M → Option ClockAndRandomView) (time_faults word_faults : M → ℕ)
    (files : Option Files) (file_faults source_faults put_faults : ℕ) where
  abbrev pub told_by : C → M → Telling
  told_by c m = telling (console_told c) files (moments_told m)
      (record { line = in_faults c; write = out_faults c; file = file_faults; source = source_faults; put = put_faults; time = time_faults m; word = word_faults m })

  -- a question that was refused
  pub refused : (c d : C) (m n : M) → Tells (moments_told m) (moments_told n) (λ x y. y ≡ x) × Tells (console_told c) (console_told d) (λ x y. y ≡ x)
      → (time_faults n ≡ time_faults m) × (word_faults n ≡ word_faults m) × (in_faults d ≡ in_faults c) → GivesNothing (told_by c m) (told_by d n)
  refused c d m n told counts = record {
    lines = tells_part lines_of (λ x y. y ≡ x) Same (λ x y is. ap lines_of is) (console_told c) (console_told d) told.1;
    times = tells_part times_of (λ x y. y ≡ x) Same (λ x y is. ap times_of is) (moments_told m) (moments_told n) told.0;
    words = tells_part words_of (λ x y. y ≡ x) Same (λ x y is. ap words_of is) (moments_told m) (moments_told n) told.0;
    line_faults = counts.2;
    time_faults = counts.0;
    word_faults = counts.1;
  }

  -- a question that was answered
  pub answered_so : (what : Question) (given : GivenThere) (at : Pos) (k : ℕ) (c d : C) (m n : M) → Fits what given → IsOneLine given
      → ForAsk what (Tells (moments_told m) (moments_told n) (AsksTime (Ok given))) (Tells (moments_told m) (moments_told n) (AsksWord (Ok given))) (Tells (console_told c) (console_told d) (AsksLine (Ok given)))
      → ForAsk what (time_faults n ≡ faults_after (as_answer (Ok given)) (time_faults m)) (word_faults n ≡ faults_after (as_answer (Ok given)) (word_faults m))
      (in_faults d ≡ faults_after (as_answer (Ok given)) (in_faults c))
      → ForAsk what (word_faults n ≡ word_faults m) (time_faults n ≡ time_faults m) (out_faults d ≡ out_faults c) → ForAsk what (d ≡ c) (d ≡ c) (n ≡ m)
      → Gives (kept_seen (record { at = at; k = k; what = what; given = given })) (told_by c m) (told_by d n)
  answered_so Time (Number i) at k c d m n fits one told cause other same = record {
    fits = tt;
    lines = device_same console_told lines_of c d same;
    times = tells_part times_of (AsksTime (Ok (Number i))) (TimesBy (number i)) (λ x y so. so.0) (moments_told m) (moments_told n) told;
    words = tells_part words_of (AsksTime (Ok (Number i))) Same (λ x y so. so.1) (moments_told m) (moments_told n) told;
    line_faults = ap in_faults same;
    time_faults = cause;
    word_faults = other;
  }
  answered_so Time Failed at k c d m n fits one told cause other same = record {
    fits = tt;
    lines = device_same console_told lines_of c d same;
    times = tells_part times_of (AsksTime (Ok Failed)) Same (λ x y so. ap times_of so) (moments_told m) (moments_told n) told;
    words = tells_part words_of (AsksTime (Ok Failed)) Same (λ x y so. ap words_of so) (moments_told m) (moments_told n) told;
    line_faults = ap in_faults same;
    time_faults = cause;
    word_faults = other;
  }
  answered_so Word (WordGiven w) at k c d m n fits one told cause other same = record {
    fits = tt;
    lines = device_same console_told lines_of c d same;
    times = tells_part times_of (AsksWord (Ok (WordGiven w))) Same (λ x y so. so.1) (moments_told m) (moments_told n) told;
    words = tells_part words_of (AsksWord (Ok (WordGiven w))) (WordsBy (random_word w)) (λ x y so. so.0) (moments_told m) (moments_told n) told;
    line_faults = ap in_faults same;
    time_faults = other;
    word_faults = cause;
  }
  answered_so Word Failed at k c d m n fits one told cause other same = record {
    fits = tt;
    lines = device_same console_told lines_of c d same;
    times = tells_part times_of (AsksWord (Ok Failed)) Same (λ x y so. ap times_of so) (moments_told m) (moments_told n) told;
    words = tells_part words_of (AsksWord (Ok Failed)) Same (λ x y so. ap words_of so) (moments_told m) (moments_told n) told;
    line_faults = ap in_faults same;
    time_faults = other;
    word_faults = cause;
  }
  answered_so Line (LineGiven bytes) at k c d m n fits one told cause other same = record {
    fits = one;
    lines = tells_part lines_of (AsksLine (Ok (LineGiven bytes))) (LinesBy (a_line bytes)) (λ x y so. so.0) (console_told c) (console_told d) told;
    times = device_same moments_told times_of m n same;
    words = device_same moments_told words_of m n same;
    line_faults = cause;
    time_faults = ap time_faults same;
    word_faults = ap word_faults same;
  }
  answered_so Line End at k c d m n fits one told cause other same = record {
    fits = tt;
    lines = tells_part lines_of (AsksLine (Ok End)) (LinesBy no_line) (λ x y so. (so.0, ap lines_of so.1)) (console_told c) (console_told d) told;
    times = device_same moments_told times_of m n same;
    words = device_same moments_told words_of m n same;
    line_faults = cause;
    time_faults = ap time_faults same;
    word_faults = ap word_faults same;
  }
  answered_so Line Failed at k c d m n fits one told cause other same = record {
    fits = tt;
    lines = tells_part lines_of (AsksLine (Ok Failed)) Same (λ x y so. ap lines_of so) (console_told c) (console_told d) told;
    times = device_same moments_told times_of m n same;
    words = device_same moments_told words_of m n same;
    line_faults = cause;
    time_faults = ap time_faults same;
    word_faults = ap word_faults same;
  }
  answered_so Time (WordGiven w) at k c d m n fits one told cause other same = absurd fits
  answered_so Time (LineGiven bytes) at k c d m n fits one told cause other same = absurd fits
  answered_so Time End at k c d m n fits one told cause other same = absurd fits
  answered_so Word (Number i) at k c d m n fits one told cause other same = absurd fits
  answered_so Word (LineGiven bytes) at k c d m n fits one told cause other same = absurd fits
  answered_so Word End at k c d m n fits one told cause other same = absurd fits
  answered_so Line (Number i) at k c d m n fits one told cause other same = absurd fits
  answered_so Line (WordGiven w) at k c d m n fits one told cause other same = absurd fits
