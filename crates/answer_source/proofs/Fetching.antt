-- A file more that is kept: what fits then fitted before, and failing fetches are counted the same.
use Rattle.std.proofs.Common.{◌≡◌, refl, sym, ap, subst, ◌∙◌, ℕ, Bool, true, false, ◌||◌, List, [], ◌∷◌, ◌++◌, map, Option, Some, None, is_some, IsTrue, IsOk, Result, Ok, Err, IfOk, if◌then◌else◌}
use Rattle.std.specs.Result.{OnOk, OnErr}
use Rattle.std.specs.Str.{bytes_eq}
use Rattle.std.proofs.lemmas.Slice.Eq.{bytes_eq-Decides}
use Rattle.prov_base.specs.declared.refusal.Memory.{Memory}
use Rattle.prov_outside.specs.Count.{faults_after}
use Rattle.prov_outside.specs.Folder.{Files, IsAnswer, Gets}
use Rattle.prov_outside.specs.Console.{ConsoleView}
use Rattle.prov_outside.specs.ClockAndRandom.{ClockAndRandomView}
use Rattle.prov_outside.specs.Tells.{Tells}
use Rattle.prov_outside.specs.declared.folder.Found.{Found as FoundThere}
use Rattle.prov_outside.specs.declared.folder.Found.TheVariants.{Bytes, Absent, TooLarge, Failed as Unfound}
use Rattle.capture.specs.Asking.{as_fetch}
use Rattle.capture.specs.Capture.{CaptureView, is_known, is_among}
use Rattle.capture.specs.Files.{file_at, with_file}
use Rattle.py_model.specs.Capture.{Capture, Telling, found_in}
use Rattle.py_model.specs.Plan.{Found, found_bytes, absent, too_large, found_failed}
use Rattle.answer_source.specs.Going.{Same, GivesNothing, IsFoundSo, IsUntouched, StandsSo, unfound_after, fetches_failed}
use Rattle.answer_source.specs.Live.{IsCaptureOf, AreNumbered, AreFetched, has_file, kept_seen, telling}
use Rattle.answer_source.specs.Sources.{found_seen, PathsOnce, Fetches}
use Rattle.answer_source.proofs.Fitting.{not_both}
use Rattle.answer_source.proofs.Going.{tells_itself, tells_after, goes_from, untouched_then}
use Rattle.answer_source.proofs.Keeping.{file_came, file_stays, file_elsewhere, has_more, has_still}

-- one count more, in either order
unfound_either : (f g : Found) (n : ℕ) → unfound_after f (unfound_after g n) ≡ unfound_after g (unfound_after f n)
unfound_either found_failed found_failed n = refl
unfound_either found_failed (found_bytes b) n = refl
unfound_either found_failed absent n = refl
unfound_either found_failed too_large n = refl
unfound_either (found_bytes b) g n = refl
unfound_either absent g n = refl
unfound_either too_large g n = refl

-- counted where the files are not kept
abbrev counted : (List ℕ → Bool) → List ℕ × Found → ℕ → ℕ
counted kept file n = if kept file.0 then n else unfound_after file.1 n

counted_either : (b : Bool) (f g : Found) (n : ℕ) → (if b then unfound_after f n else unfound_after g (unfound_after f n)) ≡ unfound_after f (if b then n else unfound_after g n)
counted_either true f g n = refl
counted_either false f g n = unfound_either g f n

first_none : (b : Bool) (f : Found) (rest : Option Found) → (if b then Some f else rest) ≡ None → (b ≡ false) × (rest ≡ None)
first_none true f rest is = cc
first_none false f rest is = (refl, is)

-- one path more that is kept
module _ (kept later : List ℕ → Bool) (path : List ℕ) (more : (p : List ℕ) → later p ≡ (bytes_eq p path || kept p)) where
  elsewhere : (p : List ℕ) → bytes_eq p path ≡ false → later p ≡ kept p
  elsewhere p apart = more p ∙ ap (λ b. b || kept p) apart

  -- which is none of these files
  fails_alike : (files : List (List ℕ × Found)) (n : ℕ) → found_in files path ≡ None → fetches_failed kept files n ≡ fetches_failed later files n
  fails_alike [] n none = refl
  fails_alike (file ∷ files) n none =
      let apart = first_none (bytes_eq file.0 path) file.1 (found_in files path) none in
      fails_alike files (counted kept file n) apart.1
      ∙ ap (λ b. fetches_failed later files (if b then n else unfound_after file.1 n)) (sym (elsewhere file.0 apart.0))

  -- which is one of them
  pub fails_moved : (files : List (List ℕ × Found)) (f : Found) (n : ℕ) → kept path ≡ false → PathsOnce files → found_in files path ≡ Some f
      → fetches_failed kept files n ≡ fetches_failed later files (unfound_after f n)
  fails_moved [] f n new once is = absurd (not_both f is)
  fails_moved (file ∷ files) f n new once is = by_test (bytes_eq file.0 path) refl is (λ there. fails_moved files f (counted kept file n) new once.1 there)
    where
      same_found : (x y : Found) → Some x ≡ Some y → x ≡ y
      same_found x y same = cc

      by_test : (b : Bool) → bytes_eq file.0 path ≡ b → (if b then Some file.1 else found_in files path) ≡ Some f
          → (found_in files path ≡ Some f → fetches_failed kept files (counted kept file n) ≡ fetches_failed later files (unfound_after f (counted kept file n)))
          → fetches_failed kept files (counted kept file n) ≡ fetches_failed later files (counted later file (unfound_after f n))
      by_test true here there rest =
          let at : file.0 ≡ path = (bytes_eq-Decides file.0 path).0 here in
          ap (λ b. fetches_failed kept files (if b then n else unfound_after file.1 n)) (ap kept at ∙ new)
          ∙ (ap (λ g. fetches_failed kept files (unfound_after g n)) (same_found file.1 f there)
          ∙ (fails_alike files (unfound_after f n) (subst (λ p. found_in files p ≡ None) at once.0)
          ∙ ap (λ b. fetches_failed later files (if b then unfound_after f n else unfound_after file.1 (unfound_after f n))) (sym (more file.0 ∙ ap (λ b. b || kept file.0) here))))
      by_test false apart there rest = rest there
          ∙ (ap (fetches_failed later files) (sym (counted_either (kept file.0) f file.1 n))
          ∙ ap (λ b. fetches_failed later files (if b then unfound_after f n else unfound_after file.1 (unfound_after f n))) (sym (elsewhere file.0 apart)))

-- what a fetch says, by what is kept of it
gets_same : (path : List ℕ) (found : FoundThere) (x y : Files) → Gets path (as_fetch (Ok found)) x y → y ≡ x
gets_same path (Bytes b) x y gets = gets.1
gets_same path Absent x y gets = gets.1
gets_same path TooLarge x y gets = gets.1
gets_same path Unfound x y gets = gets

counted_so : (found : FoundThere) (n : ℕ) → faults_after (as_fetch (Ok found)) n ≡ unfound_after (found_seen found) n
counted_so (Bytes b) n = refl
counted_so Absent n = refl
counted_so TooLarge n = refl
counted_so Unfound n = refl

told_same : (path : List ℕ) (found : FoundThere) (a b : Option Files) → Tells a b (Gets path (as_fetch (Ok found))) → Tells a b Same
told_same path found a None told = tt
told_same path found None (Some y) told = absurd told
told_same path found (Some x) (Some y) told = gets_same path found x y told

found_so : (path : List ℕ) (found : FoundThere) (x y : Files) → IfOk (as_fetch (Ok found)) IsAnswer → Gets path (as_fetch (Ok found)) x y → IsFoundSo (x path) (found_seen found)
found_so path (Bytes b) x y answer gets = (gets.0, answer)
found_so path Absent x y answer gets = gets.0
found_so path TooLarge x y answer gets = gets.0
found_so path Unfound x y answer gets = tt

stands_so : (path : List ℕ) (found : FoundThere) (now next ends : Option Files) → IfOk (as_fetch (Ok found)) IsAnswer → Tells now next (Gets path (as_fetch (Ok found))) → Tells next ends Same
    → StandsSo ends path (found_seen found)
stands_so path found now next None answer told onward = tt
stands_so path found now None (Some e) answer told onward = absurd onward
stands_so path found None (Some n) (Some e) answer told onward = absurd told
stands_so path found (Some m) (Some n) (Some e) answer told onward =
    subst (λ files. IsFoundSo (files path) (found_seen found)) (sym (onward ∙ gets_same path found m n told)) (found_so path found m n answer told)

-- a file was fetched
module _ (old new : CaptureView) (now next : Telling) (path : List ℕ) (found : FoundThere) (nothing : GivesNothing now next) (gone : file_at old.files path ≡ None)
    (answers : new.answers ≡ old.answers) (files : new.files ≡ with_file path found old.files) (told : Tells now.files next.files (Gets path (as_fetch (Ok found))))
    (counts : next.file_faults ≡ faults_after (as_fetch (Ok found)) now.file_faults) (answer : IfOk (as_fetch (Ok found)) IsAnswer) (same : IsUntouched now next) where
  pub knew_fetched : (capture : Capture) → IsCaptureOf new next capture → IsCaptureOf old now capture
  knew_fetched capture fit = record {
    rest = fit.rest;
    answers = fit.answers ∙ ap (λ all. map kept_seen all ++ fit.rest) answers;
    onward = goes_from fit.rest now next capture.ends nothing fit.onward;
    once = fit.once;
    kept = λ p f is. fit.kept p f (ap (λ all. file_at all p) files ∙ file_stays old.files path found p f gone is);
    others = λ p f none is. by_path p f none is (bytes_eq path p) refl;
    folder = tells_after Same now.files next.files capture.ends.files (told_same path found now.files next.files told) fit.folder;
    file_faults = fit.file_faults
        ∙ (ap (fetches_failed (has_file new) capture.files) (counts ∙ counted_so found now.file_faults)
        ∙ sym (fails_moved (has_file old) (has_file new) path (has_more old new path found gone files) capture.files (found_seen found) now.file_faults (ap is_some gone) fit.once there));
    untouched = untouched_then now next capture.ends same fit.untouched;
  }
    where
      there : found_in capture.files path ≡ Some (found_seen found)
      there = fit.kept path found (ap (λ all. file_at all path) files ∙ file_came old.files path found gone)

      same_found : (x y : Found) → Some x ≡ Some y → x ≡ y
      same_found x y same = cc

      by_path : (p : List ℕ) (f : Found) → file_at old.files p ≡ None → found_in capture.files p ≡ Some f → (b : Bool) → bytes_eq path p ≡ b → StandsSo capture.ends.files p f
      by_path p f none is true here =
          let at : path ≡ p = (bytes_eq-Decides path p).0 here in
          subst (λ g. StandsSo capture.ends.files p g) (same_found (found_seen found) f (sym (ap (found_in capture.files) (sym at) ∙ there) ∙ is))
          (subst (λ q. StandsSo capture.ends.files q (found_seen found)) at (stands_so path found now.files next.files capture.ends.files answer told fit.folder))
      by_path p f none is false apart = fit.others p f (ap (λ all. file_at all p) files ∙ (file_elsewhere old.files path found p apart ∙ none)) is

-- nothing was fetched
pub knew_unfetched : (old new : CaptureView) (now next : Telling) → GivesNothing now next → IsUntouched now next → new ≡ old → Tells now.files next.files Same → next.file_faults ≡ now.file_faults
    → (capture : Capture) → IsCaptureOf new next capture → IsCaptureOf old now capture
knew_unfetched old new now next nothing apart same told counts capture other =
    let fit = subst (λ view. IsCaptureOf view next capture) same other in
    record {
      rest = fit.rest;
      answers = fit.answers;
      onward = goes_from fit.rest now next capture.ends nothing fit.onward;
      once = fit.once;
      kept = fit.kept;
      others = fit.others;
      folder = tells_after Same now.files next.files capture.ends.files told fit.folder;
      file_faults = fit.file_faults ∙ ap (fetches_failed (has_file old) capture.files) counts;
      untouched = untouched_then now next capture.ends apart fit.untouched;
    }

-- what is known of a path, where nothing was noted as written
known_is : (old : CaptureView) (path : List ℕ) → old.written ≡ [] → is_known old path ≡ has_file old path
known_is old path unwritten = ap (λ written. has_file old path || is_among path written) unwritten ∙ no_more (has_file old path)
  where
    no_more : (b : Bool) → (b || false) ≡ b
    no_more true = refl
    no_more false = refl

none_is : (file : Option FoundThere) → is_some file ≡ false → file ≡ None
none_is (Some found) is = cc
none_is None is = refl

-- what a call that fetches comes to
abbrev pub FileKept : {F : Type 0} → (F → Option Files) → (F → ℕ) → List ℕ → CaptureView → CaptureView → F → F → Type 0
FileKept folder_told get_faults path old new f g = (found : FoundThere) × (new.files ≡ with_file path found old.files) × Tells (folder_told f) (folder_told g) (Gets path (as_fetch (Ok found)))
    × (get_faults g ≡ faults_after (as_fetch (Ok found)) (get_faults f)) × IfOk (as_fetch (Ok found)) IsAnswer

module _ {F : Type 0} (folder_told : F → Option Files) (get_faults : F → ℕ) (path : List ℕ) (old new : CaptureView) (f g : F) (unwritten : old.written ≡ []) (result : Result (Unit {0}) Memory)
    (known : IsTrue (is_known old path) → IsOk result × (new ≡ old) × (g ≡ f))
    (kept : is_known old path ≡ false → OnOk result (FileKept folder_told get_faults path old new f g))
    (same : new ≡ record old { files = new.files }) (err : OnErr result (new ≡ old)) where
  gone : is_known old path ≡ false → file_at old.files path ≡ None
  gone is = none_is (file_at old.files path) (sym (known_is old path unwritten) ∙ is)

  -- the paths that are kept then
  more : (result : Result (Unit {0}) Memory) → (is_known old path ≡ false → OnOk result (FileKept folder_told get_faults path old new f g)) → IsOk result
      → (p : List ℕ) → has_file new p ≡ (bytes_eq p path || has_file old p)
  more (Ok done) kept ok p = by_known (is_known old path) refl
    where
      by_known : (b : Bool) → is_known old path ≡ b → has_file new p ≡ (bytes_eq p path || has_file old p)
      by_known true is = ap (λ view. has_file view p) (known is).1 ∙ has_still old path (sym (known_is old path unwritten) ∙ is) p
      by_known false is = let found = kept is in has_more old new path found.0 (gone is) found.1 p
  more (Err want) kept ok p = absurd (no_ok ok)
    where
      no_ok : false ≡ true → ⊥
      no_ok is = cc

  pub fetched_so : (result : Result (Unit {0}) Memory) → (is_known old path ≡ false → OnOk result (FileKept folder_told get_faults path old new f g)) → OnErr result (new ≡ old)
      → Fetches path (λ askings fetches. AreNumbered old askings × AreFetched old fetches) (λ askings fetches. AreNumbered new askings × AreFetched new fetches) result
  fetched_so (Ok done) kept err = λ askings fetches stood. (
    subst (λ (all : List _). AreNumbered (record new { answers = all }) askings) (sym (ap (λ (view : CaptureView). view.answers) same)) stood.0,
    λ p. more (Ok done) kept refl p ∙ ap (λ b. bytes_eq p path || b) (stood.1 p),
  )
  fetched_so (Err want) kept err = λ askings fetches stood. subst (λ view. AreNumbered view askings × AreFetched view fetches) (sym err) stood

  pub has_fetched : (result : Result (Unit {0}) Memory) → (is_known old path ≡ false → OnOk result (FileKept folder_told get_faults path old new f g)) → OnOk result (IsTrue (has_file new path))
  has_fetched (Ok done) kept = more (Ok done) kept refl path ∙ ap (λ b. b || has_file old path) ((bytes_eq-Decides path path).1 refl)
  has_fetched (Err want) kept = tt

  module _ (console : Option ConsoleView) (moments : Option ClockAndRandomView) (line write time word : ℕ) (source_faults put_faults : F → ℕ) where
    abbrev told_at : F → Telling
    told_at h = telling console (folder_told h) moments
        (record { line = line; write = write; file = get_faults h; source = source_faults h; put = put_faults h; time = time; word = word })

    nothing : GivesNothing (told_at f) (told_at g)
    nothing = record {
      lines = tells_itself (told_at f).lines;
      times = tells_itself (told_at f).times;
      words = tells_itself (told_at f).words;
      line_faults = refl;
      time_faults = refl;
      word_faults = refl;
    }

    apart : (source_faults g ≡ source_faults f) → (put_faults g ≡ put_faults f) → IsUntouched (told_at f) (told_at g)
    apart source put = record { written = tells_itself (told_at f).written; write_faults = refl; source_faults = source; put_faults = put }

    pub knew_fetch : (source_faults g ≡ source_faults f) → (put_faults g ≡ put_faults f) → (result : Result (Unit {0}) Memory) → (is_known old path ≡ false → OnOk result (FileKept folder_told get_faults path old new f g)) → OnErr result (new ≡ old)
        → OnErr result (Tells (folder_told f) (folder_told g) (λ x y. y ≡ x)) → OnErr result (get_faults g ≡ get_faults f)
        → (capture : Capture) → IsCaptureOf new (told_at g) capture → IsCaptureOf old (told_at f) capture
    knew_fetch source put (Ok done) kept err told counts = by_known (is_known old path) refl
      where
        by_known : (b : Bool) → is_known old path ≡ b → (capture : Capture) → IsCaptureOf new (told_at g) capture → IsCaptureOf old (told_at f) capture
        by_known true is = let k = known is in
            knew_unfetched old new (told_at f) (told_at g) nothing (apart source put) k.1
            (subst (λ h. Tells (folder_told f) (folder_told h) Same) (sym k.2) (tells_itself (folder_told f))) (ap get_faults k.2)
        by_known false is = let k = kept is in
            knew_fetched old new (told_at f) (told_at g) path k.0 nothing (gone is) (ap (λ (view : CaptureView). view.answers) same) k.1 k.2 k.3 k.4 (apart source put)
    knew_fetch source put (Err want) kept err told counts = knew_unfetched old new (told_at f) (told_at g) nothing (apart source put) err told counts
