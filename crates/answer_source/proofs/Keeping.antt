-- What a capture keeps with one answer or one file more, and how askings are numbered then.
use Rattle.std.proofs.Common.{◌≡◌, refl, sym, ap, subst, ◌∙◌, arith, inl, inr, ◌⊎◌, ℕ, suc, ◌+◌, ◌<◌, max, Bool, true, false, ◌&&◌, ◌||◌, nat_eq, List, [], ◌∷◌, ◌++◌, map, Option, Some, None, is_some, Result, Ok, Err, IfOk, IsErr, if◌then◌else◌}
use Rattle.prov_base.specs.declared.refusal.Memory.{Memory}
use Rattle.std.specs.Option.{option_or}
use Rattle.std.specs.Prelude.{find}
use Rattle.std.specs.Str.{bytes_eq}
use Rattle.std.proofs.lemmas.Bool.{eq-eqb, false≢true}
use Rattle.std.proofs.lemmas.Slice.Eq.{bytes_eq-Decides}
use Rattle.std.proofs.lemmas.List.Folds.{find-append}
use Rattle.std.proofs.lemmas.List.{reverse-append}
use Rattle.std.specs.Prelude.{reverse}
use Rattle.prov_base.specs.declared.place.Pos.{Pos}
use Rattle.prov_base.specs.contracts.place.PosPartialEq.TheImpl.{ghosts as places}
use Rattle.prov_outside.specs.declared.folder.Found.{Found as FoundThere}
use Rattle.capture.specs.Answers.{given_at, given_if, answer_at, is_kept, is_under, is_same, IsLast, IsNext, Fits as CanGive}
use Rattle.capture.specs.Capture.{CaptureView}
use Rattle.capture.specs.Files.{file_at, with_file, is_before}
use Rattle.capture.specs.declared.answer.Ask.{Ask as Question}
use Rattle.capture.specs.declared.answer.Ask.TheVariants.{Time, Word, Line}
use Rattle.capture.specs.declared.answer.Asked.{Asked}
use Rattle.capture.specs.declared.answer.Given.{Given as GivenThere}
use Rattle.capture.specs.declared.answer.Given.TheVariants.{Number, Word as WordGiven, Line as LineGiven, End, Failed}
use Rattle.capture.proofs.Lasts.{place_itself, same_place, last_more}
use Rattle.prov_outside.specs.Console.{ConsoleView}
use Rattle.prov_outside.specs.Count.{faults_after}
use Rattle.prov_outside.specs.Folder.{Files}
use Rattle.prov_outside.specs.ClockAndRandom.{ClockAndRandomView}
use Rattle.prov_outside.specs.Tells.{Tells}
use Rattle.capture.specs.Asking.{ForAsk, AsksTime, AsksWord, AsksLine, as_answer, IsOneLine}
use Rattle.py_model.specs.Capture.{Capture, Kept, Telling, given_in}
use Rattle.py_model.specs.Plan.{Ask}
use Rattle.py_model.specs.Running.{Asking, askings_at}
use Rattle.answer_source.specs.Going.{Same, Gives, GivesNothing, IsUntouched, fetches_failed}
use Rattle.answer_source.specs.Live.{IsCaptureOf, AreNumbered, AreFetched, asking_seen, has_file, kept_seen}
use Rattle.answer_source.specs.Sources.{ask_seen, given_seen, next_asking, Asks}
use Rattle.answer_source.proofs.Fitting.{given_of, not_both}
use Rattle.answer_source.proofs.Going.{device_same, goes_from, tells_part, told_by, refused, answered_so, untouched_then}

-- what was found first is found in a longer list
still_given : (what : Question) (first more : Option Asked) (given : GivenThere) → given_if what first ≡ Some given → given_if what (option_or first more) ≡ Some given
still_given what (Some asked) more given is = is
still_given what None more given is = cc

pub given_more : (answers : List Asked) (x : Asked) (what : Question) (at : Pos) (k : ℕ) (given : GivenThere) → given_at answers what at k ≡ Some given
    → given_at (answers ++ x ∷ []) what at k ≡ Some given
given_more answers x what at k given is = ap (given_if what) (find-append (is_under at k) answers (x ∷ []))
    ∙ still_given what (answer_at answers at k) (find (is_under at k) (x ∷ [])) given is

-- what is new is found where nothing was
same_question : (what : Question) → is_same what what ≡ true
same_question Time = refl
same_question Word = refl
same_question Line = refl

by_first : (b : Bool) (first : Asked) (kept : Bool) (rest : Option Asked) → (b || kept) ≡ false → (kept ≡ false → rest ≡ None) → (if b then Some first else rest) ≡ None
by_first true first kept rest none then_none = cc
by_first false first kept rest none then_none = then_none none

none_found : (answers : List Asked) (at : Pos) (k : ℕ) → is_kept answers at k ≡ false → answer_at answers at k ≡ None
none_found [] at k none = refl
none_found (first ∷ answers) at k none = by_first (is_under at k first) first (is_kept answers at k) (answer_at answers at k) none (none_found answers at k)

under_itself : (x : Asked) → is_under x.at x.k x ≡ true
under_itself x = ap (λ b. b && nat_eq x.k x.k) (place_itself x.at) ∙ eq-eqb x.k x.k refl

pub given_new : (answers : List Asked) (x : Asked) → is_kept answers x.at x.k ≡ false → given_at (answers ++ x ∷ []) x.what x.at x.k ≡ Some x.given
given_new answers x none = ap (given_if x.what) (find-append (is_under x.at x.k) answers (x ∷ [])
    ∙ (ap (λ first. option_or first (find (is_under x.at x.k) (x ∷ []))) (none_found answers x.at x.k none)
    ∙ ap (λ b. if b then Some x else None) (under_itself x)))
    ∙ ap (λ b. if b then Some x.given else None) (same_question x.what)

-- the number of the last answer is one
differ : true ≡ false → ⊥
differ is = cc

pub last_unique : (answers : List Asked) (at : Pos) (m n : ℕ) → IsLast answers at m → IsLast answers at n → m ≡ n
last_unique answers at m n one other = omega (arith, not_less m n one other, not_less n m other one)
  where
    by_reached : (m n : ℕ) → IsLast answers at m → m < n → (n ≡ 0) ⊎ (is_kept answers at n ≡ true) → ⊥
    by_reached m n one less (inl none) = omega (arith, less, none)
    by_reached m n one less (inr kept) = differ (sym kept ∙ one.none_later n less)

    not_less : (m n : ℕ) → IsLast answers at m → IsLast answers at n → m < n → ⊥
    not_less m n one other less = by_reached m n one less other.reached

-- one asking more
pub numbered_more : (view : CaptureView) (x : Asked) (answers : List Asked) (what : Ask) (askings : List Asking) → AreNumbered view askings
    → answers ≡ view.answers ++ x ∷ [] → x.k ≡ askings_at x.at askings + 1 → (at : Pos) → IsLast answers at (askings_at at (next_asking x.at what askings))
numbered_more view x answers what askings numbered is number at = subst (λ all. IsLast all at (askings_at at (next_asking x.at what askings))) (sym is)
    (last_more view.answers x at (askings_at at askings) (askings_at at (next_asking x.at what askings)) (numbered.0 at) (by_place (places.eq x.at at) refl))
  where
    by_place : (b : Bool) → places.eq x.at at ≡ b → (if b then suc (askings_at at askings) else askings_at at askings) ≡ (if b then max (askings_at at askings) x.k else askings_at at askings)
    by_place true same = let here = ap (λ p. askings_at p askings) (same_place x.at at same) in omega (arith, here, number)
    by_place false same = refl

asked_more : (xs : List Asked) (x : Asked) → map asking_seen (xs ++ x ∷ []) ≡ map asking_seen xs ++ asking_seen x ∷ []
asked_more [] x = refl
asked_more (y ∷ xs) x = ap (λ all. asking_seen y ∷ all) (asked_more xs x)

ordered_more : (view : CaptureView) (x : Asked) (answers : List Asked) (askings : List Asking) → map asking_seen view.answers ≡ reverse askings → answers ≡ view.answers ++ x ∷ []
    → x.k ≡ suc (askings_at x.at askings) → map asking_seen answers ≡ reverse (next_asking x.at (ask_seen x.what) askings)
ordered_more view x answers askings ordered is number =
    ap (map asking_seen) is ∙ asked_more view.answers x ∙ ap (λ all. all ++ asking_seen x ∷ []) ordered
    ∙ ap (λ n. reverse askings ++ record { at = x.at; k = n; what = ask_seen x.what } ∷ []) number
    ∙ sym (reverse-append (record { at = x.at; k = suc (askings_at x.at askings); what = ask_seen x.what } ∷ []) askings)

pushed : (xs : List Asked) (x : Asked) (rest : List Kept) → map kept_seen (xs ++ x ∷ []) ++ rest ≡ map kept_seen xs ++ kept_seen x ∷ rest
pushed [] x rest = refl
pushed (y ∷ xs) x rest = ap (λ all. kept_seen y ∷ all) (pushed xs x rest)

-- a capture that fits afterwards fitted before an answer was given
fit_asked : (old new : CaptureView) (now next : Telling) (x : Asked) (capture : Capture) → new.answers ≡ old.answers ++ x ∷ [] → new.files ≡ old.files
    → Gives (kept_seen x) now next → next.files ≡ now.files → next.file_faults ≡ now.file_faults → IsUntouched now next → IsCaptureOf new next capture → IsCaptureOf old now capture
fit_asked old new now next x capture answers files gives folder faults same fit = record {
  rest = kept_seen x ∷ fit.rest;
  answers = fit.answers ∙ (ap (λ all. map kept_seen all ++ fit.rest) answers ∙ pushed old.answers x fit.rest);
  onward = (next, gives, fit.onward);
  once = fit.once;
  kept = λ path found is. fit.kept path found (ap (λ all. file_at all path) files ∙ is);
  others = λ path found none is. fit.others path found (ap (λ all. file_at all path) files ∙ none) is;
  folder = subst (λ told. Tells told capture.ends.files Same) folder fit.folder;
  file_faults = fit.file_faults ∙ (ap (λ all. fetches_failed (λ path. is_some (file_at all path)) capture.files next.file_faults) files ∙ ap (fetches_failed (has_file old) capture.files) faults);
  untouched = untouched_then now next capture.ends same fit.untouched;
}

-- nothing was given
fit_refused : (view : CaptureView) (now next : Telling) (capture : Capture) → GivesNothing now next → next.files ≡ now.files → next.file_faults ≡ now.file_faults
    → IsUntouched now next → IsCaptureOf view next capture → IsCaptureOf view now capture
fit_refused view now next capture nothing folder faults same fit = record {
  rest = fit.rest;
  answers = fit.answers;
  onward = goes_from fit.rest now next capture.ends nothing fit.onward;
  once = fit.once;
  kept = fit.kept;
  others = fit.others;
  folder = subst (λ told. Tells told capture.ends.files Same) folder fit.folder;
  file_faults = fit.file_faults ∙ ap (fetches_failed (has_file view) capture.files) faults;
  untouched = untouched_then now next capture.ends same fit.untouched;
}

module _ {C M : Type 0} (console_told : C → Option ConsoleView) (in_faults out_faults : C → ℕ) (moments_told : M → Option ClockAndRandomView) (time_faults word_faults : M → ℕ)
    (folder : Option Files) (file_faults source_faults put_faults : ℕ) where
  abbrev told : C → M → Telling
  told c m = told_by console_told in_faults out_faults moments_told time_faults word_faults folder file_faults source_faults put_faults c m

  -- a count that no answer raises
  out_same : (what : Question) (c d : C) (m n : M) (X Y : Type 0) → ForAsk what X Y (out_faults d ≡ out_faults c) → ForAsk what (d ≡ c) (d ≡ c) (n ≡ m) → out_faults d ≡ out_faults c
  out_same Time c d m n X Y counts same = ap out_faults same
  out_same Word c d m n X Y counts same = ap out_faults same
  out_same Line c d m n X Y counts same = counts

  line_written : (given : GivenThere) (x y : ConsoleView) → AsksLine (Ok given) x y → y.written ≡ x.written
  line_written (LineGiven bytes) x y asks = asks.1
  line_written End x y asks = ap (λ (view : ConsoleView). view.written) asks.1
  line_written Failed x y asks = ap (λ (view : ConsoleView). view.written) asks
  line_written (Number i) x y asks = absurd asks
  line_written (WordGiven w) x y asks = absurd asks

  written_same : (what : Question) (given : GivenThere) (c d : C) (m n : M) (X Y : Type 0) → ForAsk what X Y (Tells (console_told c) (console_told d) (AsksLine (Ok given))) → ForAsk what (d ≡ c) (d ≡ c) (n ≡ m)
      → Tells (told c m).written (told d n).written Same
  written_same Time given c d m n X Y asks same = device_same console_told (λ (view : ConsoleView). view.written) c d same
  written_same Word given c d m n X Y asks same = device_same console_told (λ (view : ConsoleView). view.written) c d same
  written_same Line given c d m n X Y asks same = tells_part (λ (view : ConsoleView). view.written) (AsksLine (Ok given)) Same (line_written given) (console_told c) (console_told d) asks

  pub knew_refused : (what : Question) (old new : CaptureView) (c d : C) (m n : M) → new ≡ old
      → Tells (moments_told m) (moments_told n) (λ x y. y ≡ x) × Tells (console_told c) (console_told d) (λ x y. y ≡ x)
      → (time_faults n ≡ time_faults m) × (word_faults n ≡ word_faults m) × (in_faults d ≡ in_faults c)
      → ForAsk what (word_faults n ≡ word_faults m) (time_faults n ≡ time_faults m) (out_faults d ≡ out_faults c) → ForAsk what (d ≡ c) (d ≡ c) (n ≡ m)
      → (capture : Capture) → IsCaptureOf new (told d n) capture → IsCaptureOf old (told c m) capture
  knew_refused what old new c d m n same tells counts other device capture fit = fit_refused old (told c m) (told d n) capture
      (refused console_told in_faults out_faults moments_told time_faults word_faults folder file_faults source_faults put_faults c d m n tells counts) refl refl
      (record {
        written = tells_part (λ (view : ConsoleView). view.written) Same Same (λ x y is. ap (λ (view : ConsoleView). view.written) is) (console_told c) (console_told d) tells.1;
        write_faults = out_same what c d m n _ _ other device;
        source_faults = refl;
        put_faults = refl;
      })
      (subst (λ view. IsCaptureOf view (told d n) capture) same fit)

  pub knew_asked : (old new : CaptureView) (what : Question) (given : GivenThere) (at : Pos) (k : ℕ) (c d : C) (m n : M)
      → new.answers ≡ old.answers ++ record { at = at; k = k; what = what; given = given } ∷ [] → new.files ≡ old.files → CanGive what given → IsOneLine given
      → ForAsk what (Tells (moments_told m) (moments_told n) (AsksTime (Ok given))) (Tells (moments_told m) (moments_told n) (AsksWord (Ok given))) (Tells (console_told c) (console_told d) (AsksLine (Ok given)))
      → ForAsk what (time_faults n ≡ faults_after (as_answer (Ok given)) (time_faults m)) (word_faults n ≡ faults_after (as_answer (Ok given)) (word_faults m))
      (in_faults d ≡ faults_after (as_answer (Ok given)) (in_faults c))
      → ForAsk what (word_faults n ≡ word_faults m) (time_faults n ≡ time_faults m) (out_faults d ≡ out_faults c) → ForAsk what (d ≡ c) (d ≡ c) (n ≡ m)
      → (capture : Capture) → IsCaptureOf new (told d n) capture → IsCaptureOf old (told c m) capture
  knew_asked old new what given at k c d m n answers files fits one tells cause other same capture =
      fit_asked old new (told c m) (told d n) (record { at = at; k = k; what = what; given = given }) capture answers files
      (answered_so console_told in_faults out_faults moments_told time_faults word_faults folder file_faults source_faults put_faults what given at k c d m n fits one tells cause other same) refl refl
      (record { written = written_same what given c d m n _ _ tells same; write_faults = out_same what c d m n _ _ other same; source_faults = refl; put_faults = refl })

-- what was asked before, and what stands of it with one answer more
module _ (old new : CaptureView) (next : Telling) (what : Question) (at : Pos) (k : ℕ) (given : GivenThere) (is_next : IsNext old.answers at k)
    (answers : new.answers ≡ old.answers ++ record { at = at; k = k; what = what; given = given } ∷ []) (files : new.files ≡ old.files) where
  abbrev x : Asked
  x = record { at = at; k = k; what = what; given = given }

  number : (askings : List Asking) → AreNumbered old askings → k ≡ suc (askings_at at askings)
  number askings numbered = omega (arith, is_next.2, last_unique old.answers at is_next.0 (askings_at at askings) is_next.1 (numbered.0 at))

  more : (askings : List Asking) (fetches : List (List ℕ)) → AreNumbered old askings × AreFetched old fetches
      → AreNumbered new (next_asking at (ask_seen what) askings) × AreFetched new fetches
  more askings fetches stood = (
    (
      numbered_more old x new.answers (ask_seen what) askings stood.0 answers (let is = number askings stood.0 in omega (arith, is)),
      ordered_more old x new.answers askings stood.0.1 answers (number askings stood.0),
    ),
    λ path. ap (λ all. is_some (file_at all path)) files ∙ stood.1 path,
  )

  there : given_at new.answers what at k ≡ Some given
  there = ap (λ all. given_at all what at k) answers ∙ given_new old.answers x (is_next.1.none_later k (omega (arith, is_next.2)))

  pub answered : (result : Result (Option GivenThere) Memory) → IfOk result (λ found. found ≡ given_at new.answers what at k)
      → Asks what at (λ capture. IsCaptureOf new next capture) (λ askings fetches. AreNumbered old askings × AreFetched old fetches)
      (λ askings fetches. AreNumbered new askings × AreFetched new fetches) result
  answered (Ok (Some found)) is = λ capture askings fetches fit stood. (
    subst (λ n. given_in capture.answers (ask_seen what) at n ≡ Some (given_seen found)) (number askings stood.0)
        (ap (λ all. given_in all (ask_seen what) at k) fit.answers ∙ given_of new.answers fit.rest what at k found (sym is)),
    more askings fetches stood,
  )
  answered (Ok None) is = absurd (not_both given (is ∙ there))
  answered (Err want) is = λ askings fetches stood. inr (more askings fetches stood)

-- where memory ran out before anything was asked, it does not count
pub unasked : (old new : CaptureView) (next : Telling) (what : Question) (at : Pos) (result : Result (Option GivenThere) Memory) → IsErr result → new ≡ old
    → Asks what at (λ capture. IsCaptureOf new next capture) (λ askings fetches. AreNumbered old askings × AreFetched old fetches)
    (λ askings fetches. AreNumbered new askings × AreFetched new fetches) result
unasked old new next what at (Ok given) err same = absurd (false≢true err)
unasked old new next what at (Err want) err same = λ askings fetches stood. inl (subst (λ view. AreNumbered view askings × AreFetched view fetches) (sym same) stood)

-- a file more
none_here : (b : Bool) (file : FoundThere) (rest : Option FoundThere) → (if b then Some file else rest) ≡ None → (b ≡ false) × (rest ≡ None)
none_here true file rest is = cc
none_here false file rest is = (refl, is)

at_itself : (path : List ℕ) (found : FoundThere) (rest : Option FoundThere) → (if bytes_eq path path then Some found else rest) ≡ Some found
at_itself path found rest = ap (λ b. if b then Some found else rest) ((bytes_eq-Decides path path).1 refl)

pub file_came : (files : List (List ℕ × FoundThere)) (path : List ℕ) (found : FoundThere) → file_at files path ≡ None → file_at (with_file path found files) path ≡ Some found
file_came [] path found none = at_itself path found None
file_came (file ∷ files) path found none =
    let apart = none_here (bytes_eq file.0 path) file.1 (file_at files path) none in
    by_place (is_before path file.0) file files path found apart.0 (file_came files path found apart.1)
  where
    by_place : (b : Bool) (file : List ℕ × FoundThere) (files : List (List ℕ × FoundThere)) (path : List ℕ) (found : FoundThere) → bytes_eq file.0 path ≡ false
        → file_at (with_file path found files) path ≡ Some found → file_at (if b then (path, found) ∷ file ∷ files else file ∷ with_file path found files) path ≡ Some found
    by_place true file files path found other later = at_itself path found (file_at (file ∷ files) path)
    by_place false file files path found other later = ap (λ b. if b then Some file.1 else file_at (with_file path found files) path) other ∙ later

-- an earlier file stays
other_path : (files : List (List ℕ × FoundThere)) (path p : List ℕ) (f : FoundThere) → file_at files path ≡ None → file_at files p ≡ Some f → bytes_eq path p ≡ false
other_path files path p f none some = by_test (bytes_eq path p) refl
  where
    by_test : (b : Bool) → bytes_eq path p ≡ b → b ≡ false
    by_test false is = refl
    by_test true is = absurd (both (sym none ∙ (ap (file_at files) ((bytes_eq-Decides path p).0 is) ∙ some)))
      where
        both : None ≡ Some f → ⊥
        both same = cc

pub file_stays : (files : List (List ℕ × FoundThere)) (path : List ℕ) (found : FoundThere) (p : List ℕ) (f : FoundThere) → file_at files path ≡ None → file_at files p ≡ Some f
    → file_at (with_file path found files) p ≡ Some f
file_stays [] path found p f none some = cc
file_stays (file ∷ files) path found p f none some =
    let apart = none_here (bytes_eq file.0 path) file.1 (file_at files path) none in
    by_place (is_before path file.0) (bytes_eq file.0 p) refl (file_stays files path found p f apart.1)
  where
    by_place : (b same : Bool) → bytes_eq file.0 p ≡ same → (file_at files p ≡ Some f → file_at (with_file path found files) p ≡ Some f)
        → file_at (if b then (path, found) ∷ file ∷ files else file ∷ with_file path found files) p ≡ Some f
    by_place true same is later = ap (λ b. if b then Some found else file_at (file ∷ files) p) (other_path (file ∷ files) path p f none some) ∙ some
    by_place false true is later = ap (λ b. if b then Some file.1 else file_at (with_file path found files) p) is
        ∙ (sym (ap (λ b. if b then Some file.1 else file_at files p) is) ∙ some)
    by_place false false is later = ap (λ b. if b then Some file.1 else file_at (with_file path found files) p) is
        ∙ later (sym (ap (λ b. if b then Some file.1 else file_at files p) is) ∙ some)

-- a file elsewhere is found as before
pub file_elsewhere : (files : List (List ℕ × FoundThere)) (path : List ℕ) (found : FoundThere) (p : List ℕ) → bytes_eq path p ≡ false → file_at (with_file path found files) p ≡ file_at files p
file_elsewhere [] path found p apart = ap (λ b. if b then Some found else None) apart
file_elsewhere (file ∷ files) path found p apart = by_place (is_before path file.0) (file_elsewhere files path found p apart)
  where
    by_place : (b : Bool) → file_at (with_file path found files) p ≡ file_at files p
        → file_at (if b then (path, found) ∷ file ∷ files else file ∷ with_file path found files) p ≡ file_at (file ∷ files) p
    by_place true later = ap (λ b. if b then Some found else file_at (file ∷ files) p) apart
    by_place false later = ap (λ rest. if bytes_eq file.0 p then Some file.1 else rest) later

pub turned_apart : (p q : List ℕ) → bytes_eq p q ≡ false → bytes_eq q p ≡ false
turned_apart p q apart = by_test (bytes_eq q p) refl
  where
    by_test : (b : Bool) → bytes_eq q p ≡ b → b ≡ false
    by_test false is = refl
    by_test true is = absurd (differ (sym ((bytes_eq-Decides p q).1 (sym ((bytes_eq-Decides q p).0 is))) ∙ apart))

-- what is kept of a path with one file more
pub has_more : (old new : CaptureView) (path : List ℕ) (found : FoundThere) → file_at old.files path ≡ None → new.files ≡ with_file path found old.files
    → (p : List ℕ) → has_file new p ≡ (bytes_eq p path || has_file old p)
has_more old new path found absent files p = ap (λ all. is_some (file_at all p)) files ∙ by_test (bytes_eq p path) refl
  where
    by_test : (b : Bool) → bytes_eq p path ≡ b → is_some (file_at (with_file path found old.files) p) ≡ (b || has_file old p)
    by_test true is = ap (λ q. is_some (file_at (with_file path found old.files) q)) ((bytes_eq-Decides p path).0 is) ∙ ap is_some (file_came old.files path found absent)
    by_test false is = ap is_some (file_elsewhere old.files path found p (turned_apart p path is))

-- the same where the file is kept already
pub has_still : (view : CaptureView) (path : List ℕ) → has_file view path ≡ true → (p : List ℕ) → has_file view p ≡ (bytes_eq p path || has_file view p)
has_still view path there p = by_test (bytes_eq p path) refl
  where
    by_test : (b : Bool) → bytes_eq p path ≡ b → has_file view p ≡ (b || has_file view p)
    by_test true is = ap (has_file view) ((bytes_eq-Decides p path).0 is) ∙ there
    by_test false is = refl
