-- What a recorded run keeps was given to a question that it fits.
use Rattle.std.proofs.Common.{List, [], ◌∷◌, map, sym, subst}
use Rattle.std.specs.Prelude.{All}
use Rattle.std.specs.List.Sorted.{IsPermutation}
use Rattle.std.proofs.lemmas.List.Elements.{All-nil, All-cons, All-head, All-tail}
use Rattle.std.proofs.lemmas.List.Sorted.{All-permutation}
use Rattle.answer_source.specs.Going.{IsGivenTo, Goes}
use Rattle.answer_source.specs.Live.{IsCaptureOf, capture_of, kept_seen}
use Rattle.answer_source.specs.Sources.{ask_seen, given_seen}
use Rattle.capture.specs.Answers.{Fits}
use Rattle.capture.specs.Capture.{CaptureView}
use Rattle.capture.specs.declared.answer.Ask.{Ask as Question}
use Rattle.capture.specs.declared.answer.Ask.TheVariants.{Time, Word, Line}
use Rattle.capture.specs.declared.answer.Asked.{Asked}
use Rattle.capture.specs.declared.answer.Given.{Given}
use Rattle.capture.specs.declared.answer.Given.TheVariants.{Number, Word as WordGiven, Line as LineGiven, End, Failed}
use Rattle.py_model.specs.Capture.{Kept, Telling}
use Rattle.row_words.specs.Fits.{Each}
use Rattle.run_engine.specs.Bare.{nothing_kept}
use Rattle.sound_trials.proofs.Spelling.{AnswerFits}

abbrev KeptFits : Kept → Type 0
KeptFits kept = IsGivenTo kept.what kept.given

goes_fit : (rest : List Kept) (before after : Telling) → Goes rest before after → Each KeptFits rest
goes_fit [] before after goes = tt
goes_fit (kept ∷ rest) before after (next, gives, on) = (gives.fits, goes_fit rest next after on)

fits_as : (what : Question) (given : Given) → IsGivenTo (ask_seen what) (given_seen given) → Fits what given
fits_as Time (Number i) fits = tt
fits_as Time (WordGiven w) fits = fits
fits_as Time (LineGiven line) fits = fits
fits_as Time End fits = fits
fits_as Time Failed fits = tt
fits_as Word (Number i) fits = fits
fits_as Word (WordGiven w) fits = tt
fits_as Word (LineGiven line) fits = fits
fits_as Word End fits = fits
fits_as Word Failed fits = tt
fits_as Line (Number i) fits = fits
fits_as Line (WordGiven w) fits = fits
fits_as Line (LineGiven line) fits = tt
fits_as Line End fits = tt
fits_as Line Failed fits = tt

asked_fit : (answers : List Asked) → Each KeptFits (map kept_seen answers) → All AnswerFits answers
asked_fit [] fits = All-nil AnswerFits
asked_fit (asked ∷ answers) fits = All-cons AnswerFits asked answers (fits_as asked.what asked.given fits.0) (asked_fit answers fits.1)

each_of : (answers : List Asked) → All AnswerFits answers → Each AnswerFits answers
each_of [] all = tt
each_of (asked ∷ answers) all = (All-head AnswerFits asked answers all, each_of answers (All-tail AnswerFits asked answers all))

pub kinds_fit : (asked : CaptureView) (before after : Telling) (kept : List Asked) → IsCaptureOf nothing_kept before (capture_of asked after) → IsPermutation asked.answers kept → Each AnswerFits kept
kinds_fit asked before after kept of permuted =
    each_of kept (All-permutation AnswerFits asked.answers kept permuted
    (asked_fit asked.answers (subst (λ (all : List Kept). Each KeptFits all) (sym of.answers) (goes_fit of.rest before after of.onward))))
