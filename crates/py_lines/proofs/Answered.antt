-- What the call answers, from what was read.
use Rattle.std.proofs.Common.{◌≡◌, ◌⊎◌, ⊎_elim, inl, inr, ◌≤◌, ◌+◌, ℕ, List, [], ◌∷◌, ◌++◌, length, take, drop, slice_index, refl, sym, ap, ◌∙◌, subst, append_assoc, Some, None, Ok, Err, Result, MatchResult, IfOk}
use Rattle.std.proofs.lemmas.List.{take-append-drop}
use Rattle.std.specs.Str.{IsUtf8}
use Rattle.std.specs.Str.Lossy.{utf8_valid_len}
use Rattle.prov_base.specs.declared.place.Pos.{Pos}
use Rattle.py_lines.specs.declared.parts.Line.{Line}
use Rattle.py_lines.specs.declared.fault.LineFault.{LineFault}
use Rattle.py_lines.specs.declared.fault.LineFault.TheVariants.{NotUtf8, Memory, BadToken, OpenBracket}
use Rattle.py_lines.specs.Logical.{HasLines, IsWritten, IsNotUtf8}
use Rattle.py_lines.specs.Written.{Written, lines_of}
use Rattle.py_lines.specs.Faults.{HasNoLines, IsBadTokenPlace, IsLeftOpenPlace}
use Rattle.py_lines.specs.Counting.{place_after}
use Rattle.py_lines.specs.Reading.{IsRead, IsReadFault, IsStopped, IsEndingFault, Ending, whole, bad_token, left_open, ending, after_byte, after_bytes, at_start, fault_place}
use Rattle.py_lines.proofs.PlaceLemmas.{place_behind-append}
use Rattle.py_lines.proofs.Sound.{sound}
use Rattle.py_lines.specs.declared.scan.Reader.{Reader}
use Rattle.py_lines.proofs.Runs.{take_more}
use Rattle.py_lines.proofs.Scanning.{Scans, scans_front}
use Rattle.py_lines.proofs.FaultCases.{stop_fault}
use Rattle.py_lines.proofs.FaultEnds.{ending_fault, ending_left}
use Rattle.py_lines.proofs.Complete.{same_lines, stopped_faulty, unended}

pub sound_result : (text : List ℕ) (result : Result (List Line) LineFault) → IsUtf8 text → MatchResult result (IsRead text) (IsReadFault text) → IfOk result (HasLines text)
sound_result text (Ok lines) utf8 is = sound text lines utf8 is
sound_result text (Err fault) utf8 is = tt

pub ill_formed : (text : List ℕ) (shown : Pos) → (IsUtf8 text → ⊥) → length text ≤ 262144 → shown ≡ place_after (record { line = 1; col = 1 }) (take (utf8_valid_len text) text)
    → (at : Pos) → (◌≡◌ {A = Result (List Line) LineFault} (Err (NotUtf8 shown)) (Err (NotUtf8 at)) → IsNotUtf8 text at) × (IsNotUtf8 text at → ◌≡◌ {A = Result (List Line) LineFault} (Err (NotUtf8 shown)) (Err (NotUtf8 at)))
ill_formed text shown faulty short shown_is at =
    let there = shown_is ∙ sym (place_behind-append [] (take (utf8_valid_len text) text)) in (
      (λ same. record { within = short; ill_formed = faulty; at_is = same_place shown at same ∙ there }),
      (λ is. ap (λ (p : Pos). Err (NotUtf8 p)) (there ∙ sym is.at_is)),
    )
  where
    same_place : (a b : Pos) → ◌≡◌ {A = Result (List Line) LineFault} (Err (NotUtf8 a)) (Err (NotUtf8 b)) → b ≡ a
    same_place a b same = cc

no_stop : (text : List ℕ) (at : ℕ) (shown : Pos) → IsStopped text at shown → (rest : List ℕ) (written : Written) → IsWritten (take (at + 1) text ++ rest) written → ⊥
no_stop text at shown s rest written is =
    let longer = take_more text at s.within in
    stopped_faulty (take at text) (slice_index text at) s.reader s.reads
    (ap (λ (l : List ℕ). after_byte (take at text) l (slice_index text at) s.reader) (sym longer) ∙ s.stops) rest written
    (subst (λ (l : List ℕ). IsWritten (l ++ rest) written) longer is)

-- a text with lines is not stopped at
pub not_stopped : (text : List ℕ) (at : ℕ) (shown : Pos) → IsStopped text at shown → HasNoLines text
not_stopped text at shown s written is =
    no_stop text at shown s (drop (at + 1) text) written (subst (λ (l : List ℕ). IsWritten l written) (sym (take-append-drop (at + 1) text)) is)

only_memory : (text : List ℕ) (fault : LineFault) (lines : List Line) → HasLines text lines → IsReadFault text fault → fault ≡ Memory
only_memory text fault lines has is =
    ⊎_elim (λ memory. memory)
    (λ shown. ⊎_elim (λ (at, place', fault_is, stopped). absurd (not_stopped text at place' stopped has.written has.is_written))
    (λ unended'. ended_memory (ending text unended'.reader) (unended text has.written unended'.reader unended'.reads has.is_written) unended'.ends) shown)
    is
  where
    ended_memory : (e : Ending) → e ≡ whole (lines_of text 0 has.written) → IsEndingFault e fault → fault ≡ Memory
    ended_memory (whole ls) same ends = ends
    ended_memory (bad_token at) same ends = absurd (cc)
    ended_memory (left_open at) same ends = absurd (cc)

pub complete_result : (text : List ℕ) (result : Result (List Line) LineFault) → IsUtf8 text → MatchResult result (IsRead text) (IsReadFault text)
    → (lines : List Line) → HasLines text lines → (result ≡ Ok lines) ⊎ (result ≡ Err Memory)
complete_result text (Ok found) utf8 is lines has = inl (ap (λ (ls : List Line). Ok ls) (same_lines text found lines (sound text found utf8 is) has))
complete_result text (Err fault) utf8 is lines has = inr (ap (λ (f : LineFault). Err f) (only_memory text fault lines has is))

-- ---- faults

stopped_fault : (text : List ℕ) (at : ℕ) (shown : Pos) → IsStopped text at shown → IsBadTokenPlace text shown
stopped_fault text at shown s =
    let front : List ℕ = take at text in
    let byte : ℕ = slice_index text at in
    let after : List ℕ = drop (at + 1) text in
    let longer = take_more text at s.within in
    let text_is : text ≡ front ++ byte ∷ after =
    sym (take-append-drop (at + 1) text) ∙ ap (λ (l : List ℕ). l ++ after) longer ∙ append_assoc front (byte ∷ []) after in
    let scans = subst (λ (t : List ℕ). Scans t front s.reader (byte ∷ after)) (sym text_is) (scans_front front (byte ∷ after) s.reader s.reads) in
    let stops : after_byte front (front ++ byte ∷ []) byte s.reader ≡ None = ap (λ (l : List ℕ). after_byte front l byte s.reader) (sym longer) ∙ s.stops in
    let found = stop_fault text front after byte s.reader text_is s.reads scans stops in
    record { at = found.at; is = found.is; shown_is = s.shown_is ∙ ap (λ (l : List ℕ). fault_place front l byte after s.reader) longer ∙ found.shown_is }

unended_bad : (text : List ℕ) (shown : Pos) (reader : Reader) (e : Ending) → after_bytes [] at_start text ≡ Some reader → ending text reader ≡ e → IsEndingFault e (BadToken shown) → IsBadTokenPlace text shown
unended_bad text shown reader (whole lines) reads same is = absurd (cc)
unended_bad text shown reader (bad_token at) reads same is =
    ⊎_elim (λ memory. absurd (cc))
    (λ bad. (let found = ending_fault text reader shown reads (same ∙ ap (λ (p : Pos). bad_token p) (let e : at ≡ shown = cc in e)) in record { at = found.at; is = found.is; shown_is = found.shown_is })) is
unended_bad text shown reader (left_open at) reads same is = absurd (⊎_elim (λ memory. no_memory memory) (λ left. no_left at left) is)
  where
    no_memory : BadToken shown ≡ Memory → ⊥
    no_memory m = cc

    no_left : (p : Pos) → BadToken shown ≡ OpenBracket p → ⊥
    no_left p m = cc

unended_left : (text : List ℕ) (shown : Pos) (reader : Reader) (e : Ending) → after_bytes [] at_start text ≡ Some reader → ending text reader ≡ e → IsEndingFault e (OpenBracket shown) → IsLeftOpenPlace text shown
unended_left text shown reader (whole lines) reads same is = absurd (cc)
unended_left text shown reader (left_open at) reads same is =
    ⊎_elim (λ memory. absurd (cc))
    (λ left. (let found = ending_left text reader shown reads (same ∙ ap (λ (p : Pos). left_open p) (let e : at ≡ shown = cc in e)) in record { at = found.at; is = found.is; shown_is = found.shown_is })) is
unended_left text shown reader (bad_token at) reads same is = absurd (⊎_elim (λ memory. no_memory memory) (λ bad. no_bad at bad) is)
  where
    no_memory : OpenBracket shown ≡ Memory → ⊥
    no_memory m = cc

    no_bad : (p : Pos) → OpenBracket shown ≡ BadToken p → ⊥
    no_bad p m = cc

bad_fault : (text : List ℕ) (shown : Pos) → IsReadFault text (BadToken shown) → IsBadTokenPlace text shown
bad_fault text shown is =
    ⊎_elim (λ memory. absurd (no_memory memory))
    (λ more. ⊎_elim (λ (at, place', fault_is, stopped). subst (λ (p : Pos). IsBadTokenPlace text p) (same_place place' fault_is) (stopped_fault text at place' stopped))
    (λ unended'. unended_bad text shown unended'.reader (ending text unended'.reader) unended'.reads refl unended'.ends) more) is
  where
    no_memory : BadToken shown ≡ Memory → ⊥
    no_memory m = cc

    same_place : (p : Pos) → BadToken shown ≡ BadToken p → p ≡ shown
    same_place p m = cc

left_fault : (text : List ℕ) (shown : Pos) → IsReadFault text (OpenBracket shown) → IsLeftOpenPlace text shown
left_fault text shown is =
    ⊎_elim (λ memory. absurd (no_memory memory))
    (λ more. ⊎_elim (λ (at, place', fault_is, stopped). absurd (no_bad place' fault_is))
    (λ unended'. unended_left text shown unended'.reader (ending text unended'.reader) unended'.reads refl unended'.ends) more) is
  where
    no_memory : OpenBracket shown ≡ Memory → ⊥
    no_memory m = cc

    no_bad : (p : Pos) → OpenBracket shown ≡ BadToken p → ⊥
    no_bad p m = cc

pub bad_result : (text : List ℕ) (result : Result (List Line) LineFault) → MatchResult result (IsRead text) (IsReadFault text) → (shown : Pos) → result ≡ Err (BadToken shown) → IsBadTokenPlace text shown
bad_result text (Ok lines) is shown same = absurd (cc)
bad_result text (Err fault) is shown same = bad_fault text shown (subst (λ (f : LineFault). IsReadFault text f) (let e : fault ≡ BadToken shown = cc in e) is)

pub left_result : (text : List ℕ) (result : Result (List Line) LineFault) → MatchResult result (IsRead text) (IsReadFault text) → (shown : Pos) → result ≡ Err (OpenBracket shown) → IsLeftOpenPlace text shown
left_result text (Ok lines) is shown same = absurd (cc)
left_result text (Err fault) is shown same = left_fault text shown (subst (λ (f : LineFault). IsReadFault text f) (let e : fault ≡ OpenBracket shown = cc in e) is)
