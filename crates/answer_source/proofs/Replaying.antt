-- What is found in a capture that was kept is what the capture of a run has that has exactly the same.
use Rattle.std.proofs.Common.{◌≡◌, refl, sym, ap, ◌∙◌, arith, ℕ, zero, suc, ◌+◌, Bool, true, false, ◌&&◌, nat_eq, List, [], ◌∷◌, map, slice_get, Option, Some, None, Result, Ok, Err, inr, IfOk, if◌then◌else◌}
use Rattle.std.specs.Option.{option_map}
use Rattle.std.specs.Str.{bytes_eq}
use Rattle.std.proofs.lemmas.Bool.{eqb-true}
use Rattle.prov_base.specs.declared.place.Pos.{Pos}
use Rattle.prov_base.specs.contracts.place.PosPartialEq.TheImpl.{ghosts as places}
use Rattle.prov_base.specs.declared.refusal.Memory.{Memory as Want}
use Rattle.prov_outside.specs.declared.folder.Found.{Found as FoundThere}
use Rattle.capture.specs.Answers.{given_at, given_if, answer_at, is_under, is_same, AreOnce}
use Rattle.capture.specs.AnswersView.{noted_last}
use Rattle.capture.specs.Capture.{CaptureView}
use Rattle.capture.specs.Files.{file_at}
use Rattle.capture.specs.declared.answer.Ask.{Ask as Question}
use Rattle.capture.specs.declared.answer.Ask.TheVariants.{Time, Word, Line}
use Rattle.capture.specs.declared.answer.Asked.{Asked}
use Rattle.capture.specs.declared.answer.Given.{Given as GivenThere}
use Rattle.capture.proofs.Lasts.{same_place}
use Rattle.py_model.specs.Capture.{Capture, given_in, found_in, is_kept_as, same_ask}
use Rattle.py_model.specs.Plan.{Found}
use Rattle.py_model.specs.Running.{Asking, askings_at}
use Rattle.answer_source.specs.Kept.{IsExactly, AreCounted}
use Rattle.answer_source.specs.Live.{kept_seen, file_seen}
use Rattle.answer_source.specs.Sources.{Asks, ask_seen, given_seen, found_seen, next_asking}
use Rattle.answer_source.proofs.Fitting.{both_true, turned_place, turned_number, not_kept}

asked_same : (what other : Question) → same_ask (ask_seen other) (ask_seen what) ≡ is_same what other
asked_same Time Time = refl
asked_same Time Word = refl
asked_same Time Line = refl
asked_same Word Time = refl
asked_same Word Word = refl
asked_same Word Line = refl
asked_same Line Time = refl
asked_same Line Word = refl
asked_same Line Line = refl

module _ (what : Question) (at : Pos) (k : ℕ) where
  kept_as : (a : Asked) → is_kept_as (ask_seen what) at k (kept_seen a) ≡ (is_under at k a && is_same what a.what)
  kept_as a = by_under (is_under at k a) refl
    where
      by_under : (b : Bool) → is_under at k a ≡ b → is_kept_as (ask_seen what) at k (kept_seen a) ≡ (b && is_same what a.what)
      by_under true under =
          let parts = both_true (places.eq at a.at) (nat_eq k a.k) under in
          ap (λ x. x && (nat_eq a.k k && same_ask (ask_seen a.what) (ask_seen what))) (turned_place at a.at parts.0)
          ∙ (ap (λ x. x && same_ask (ask_seen a.what) (ask_seen what)) (turned_number k a.k parts.1) ∙ asked_same what a.what)
      by_under false none = not_kept a what at k none

  -- none of these is kept there
  abbrev NoneThere : List Asked → Type 0
  NoneThere answers = (j : ℕ) (a : Asked) → slice_get answers j ≡ Some a → is_under at k a ≡ true → ⊥

  false_there : (b : Bool) → (b ≡ true → ⊥) → b ≡ false
  false_there true never = absurd (never refl)
  false_there false never = refl

  none_in : (answers : List Asked) → NoneThere answers → given_in (map kept_seen answers) (ask_seen what) at k ≡ None
  none_in [] none = refl
  none_in (a ∷ answers) none =
      ap (λ b. if b then Some (given_seen a.given) else given_in (map kept_seen answers) (ask_seen what) at k)
      (not_kept a what at k (false_there (is_under at k a) (none zero a refl)))
      ∙ none_in answers (λ j b there. none (suc j) b there)

  same_key : (a b : Asked) → is_under at k a ≡ true → is_under at k b ≡ true → (a.at ≡ b.at) × (a.k ≡ b.k)
  same_key a b one other =
      let p = both_true (places.eq at a.at) (nat_eq k a.k) one in
      let q = both_true (places.eq at b.at) (nat_eq k b.k) other in
      (sym (same_place at a.at p.0) ∙ same_place at b.at q.0, sym (eqb-true k a.k p.1) ∙ eqb-true k b.k q.1)

  never_next : (j : ℕ) → 0 ≡ suc j → ⊥
  never_next j is = omega (arith, is)

  less_one : (i j : ℕ) → suc i ≡ suc j → i ≡ j
  less_one i j is = omega (arith, is)

  pub given_exactly : (answers : List Asked) → AreOnce answers → given_in (map kept_seen answers) (ask_seen what) at k ≡ option_map given_seen (given_at answers what at k)
  given_exactly [] once = refl
  given_exactly (a ∷ answers) once =
      ap (λ b. if b then Some (given_seen a.given) else given_in (map kept_seen answers) (ask_seen what) at k) (kept_as a)
      ∙ by_under (is_under at k a) refl (given_exactly answers (λ i j x y at_i at_j same number. less_one i j (once (suc i) (suc j) x y at_i at_j same number)))
    where
      by_same : (s : Bool) → (s ≡ false → given_in (map kept_seen answers) (ask_seen what) at k ≡ None)
          → (if s then Some (given_seen a.given) else given_in (map kept_seen answers) (ask_seen what) at k) ≡ option_map given_seen (if s then Some a.given else None)
      by_same true none = refl
      by_same false none = none refl

      by_under : (b : Bool) → is_under at k a ≡ b → given_in (map kept_seen answers) (ask_seen what) at k ≡ option_map given_seen (given_at answers what at k)
          → (if (b && is_same what a.what) then Some (given_seen a.given) else given_in (map kept_seen answers) (ask_seen what) at k)
          ≡ option_map given_seen (given_if what (if b then Some a else answer_at answers at k))
      by_under true under later = by_same (is_same what a.what) (λ differs. none_in answers (λ j b there other.
          let key = same_key a b under other in never_next j (once 0 (suc j) a b refl there key.0 key.1)))
      by_under false none later = later

found_first : (b : Bool) (file : FoundThere) (rest : Option FoundThere) (seen_rest : Option Found) → seen_rest ≡ option_map found_seen rest
    → (if b then Some (found_seen file) else seen_rest) ≡ option_map found_seen (if b then Some file else rest)
found_first true file rest seen_rest is = refl
found_first false file rest seen_rest is = is

pub found_exactly : (files : List (List ℕ × FoundThere)) (path : List ℕ) → found_in (map file_seen files) path ≡ option_map found_seen (file_at files path)
found_exactly [] path = refl
found_exactly (file ∷ files) path = found_first (bytes_eq file.0 path) file.1 (file_at files path) (found_in (map file_seen files) path) (found_exactly files path)

-- one asking more
pub counted_more : (old new : List (Pos × ℕ)) (at : Pos) (k : ℕ) (what : Question) (askings : List Asking) → AreCounted old askings → k ≡ noted_last old at + 1
    → ((place : Pos) → noted_last new place ≡ (if places.eq at place then k else noted_last old place)) → AreCounted new (next_asking at (ask_seen what) askings)
counted_more old new at k what askings counted number noted place = noted place ∙ by_place (places.eq at place) refl
  where
    by_place : (b : Bool) → places.eq at place ≡ b → (if b then k else noted_last old place) ≡ (if b then suc (askings_at place askings) else askings_at place askings)
    by_place true same = let here = counted at in let there = ap (λ p. askings_at p askings) (same_place at place same) in omega (arith, number, here, there)
    by_place false same = counted place

-- what is given is what each capture has that has exactly what is kept
pub given_next : (view : CaptureView) (entries : List (Pos × ℕ)) (what : Question) (at : Pos) (k : ℕ) (given : Option GivenThere) (capture : Capture) (askings : List Asking)
    → AreOnce view.answers → k ≡ noted_last entries at + 1 → given ≡ given_at view.answers what at k → IsExactly view capture → AreCounted entries askings
    → given_in capture.answers (ask_seen what) at (suc (askings_at at askings)) ≡ option_map given_seen given
given_next view entries what at k given capture askings once number is fit counted =
    ap (λ all. given_in all (ask_seen what) at (suc (askings_at at askings))) fit.answers
    ∙ (given_exactly what at (suc (askings_at at askings)) view.answers once
    ∙ ap (option_map given_seen) (ap (given_at view.answers what at) (sym next) ∙ sym is))
  where
    next : k ≡ suc (askings_at at askings)
    next = let here = counted at in omega (arith, number, here)

-- What is asked counts, and what is kept of it is given.
pub asks_kept : (view : CaptureView) (old new : List (Pos × ℕ)) (what : Question) (at : Pos) (k : ℕ) (result : Result (Option GivenThere) Want) → AreOnce view.answers → k ≡ noted_last old at + 1
    → IfOk result (λ given. given ≡ given_at view.answers what at k)
    → ((place : Pos) → noted_last new place ≡ (if places.eq at place then k else noted_last old place))
    → Asks what at (IsExactly view) (λ askings fetches. AreCounted old askings) (λ askings fetches. AreCounted new askings) result
asks_kept view old new what at k (Ok (Some given)) once number is noted = λ capture askings fetches fit counted.
    (given_next view old what at k (Some given) capture askings once number is fit counted, counted_more old new at k what askings counted number noted)
asks_kept view old new what at k (Ok None) once number is noted = λ capture askings fetches fit counted.
    (given_next view old what at k None capture askings once number is fit counted, counted_more old new at k what askings counted number noted)
asks_kept view old new what at k (Err want) once number is noted = λ askings fetches counted. inr (counted_more old new at k what askings counted number noted)

pub found_kept_so : (view : CaptureView) (capture : Capture) (path : List ℕ) → IsExactly view capture → found_in capture.files path ≡ option_map found_seen (file_at view.files path)
found_kept_so view capture path fit = ap (λ files. found_in files path) fit.files ∙ found_exactly view.files path
