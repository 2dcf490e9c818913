-- What reading the rest of a text gives, piece by piece.
use Rattle.std.proofs.Common.{◌≡◌, ⊎_elim, ℕ, Bool, true, false, not, List, [], ◌∷◌, ◌++◌, length, drop, Option, Some, None, option_map, option_and_then, is_none, refl, sym, ap, ◌∙◌, append_assoc, append-nil, if◌then◌else◌}
use Rattle.py_lines.specs.declared.grouping.Grouping.{Grouping}
use Rattle.py_lines.specs.declared.scan.Reader.{Reader}
use Rattle.prov_base.specs.declared.place.Pos.{Pos}
use Rattle.py_lines.specs.declared.mode.Mode.{Mode}
use Rattle.py_lines.specs.declared.mode.Mode.TheVariants as M
use Rattle.py_lines.specs.declared.mode.Kind.{Kind}
use Rattle.py_lines.specs.declared.mode.Read.TheVariants as R
use Rattle.py_lines.specs.declared.mode.Step.{Step}
use Rattle.py_lines.specs.declared.mode.Step.TheVariants as S
use Rattle.py_lines.specs.declared.mode.End.{End}
use Rattle.py_lines.specs.declared.mode.End.TheVariants as E
use Rattle.py_lines.specs.Piece.{Piece, spelled, goes_on, ends}
use Rattle.py_lines.specs.Stepping.{step, first_step, end}
use Rattle.py_lines.specs.Grouping.{fault_at, with_piece}
use Rattle.py_lines.specs.declared.parts.Line.{Line}
use Rattle.py_lines.specs.Reading.{with_piece_read, after_read, after_step, after_byte, after_bytes, Ending, whole, bad_token, last_piece, ending_at, ending}
use Rattle.py_lines.proofs.Runs.{after_bytes-append, after_bytes-one}
use Rattle.py_lines.proofs.Accepting.{mode_behind, runs, EndsIn, BreaksIn, Accepted}

-- what the end of a text shows, where its front was read and no byte of its rest shows a bad token
abbrev pub final : List ℕ → Reader → List ℕ → Option Ending
final front reader rest = option_map (ending (front ++ rest)) (after_bytes front reader rest)

pub final-append : (front : List ℕ) (reader next : Reader) (a b : List ℕ) → after_bytes front reader a ≡ Some next → final front reader (a ++ b) ≡ final (front ++ a) next b
final-append front reader next a b is =
    ap (option_map (ending (front ++ (a ++ b)))) (after_bytes-append front reader a b ∙ ap (option_and_then (λ then'. after_bytes (front ++ a) then' b)) is)
    ∙ ap (λ (text : List ℕ). option_map (ending text) (after_bytes (front ++ a) next b)) (sym (append_assoc front a b))

abbrev reader_in : Grouping → Mode → Reader
reader_in g mode = record { grouping = g; mode = mode }

goes_of : (s : Step) (mode : Mode) → mode_behind s ≡ Some mode → s ≡ S.Reads (R.Goes mode)
goes_of (S.Reads (R.Goes next)) mode is = cc
goes_of (S.Reads (R.Ends kind)) mode is = absurd (cc)
goes_of (S.Reads (R.Bad bad)) mode is = absurd (cc)
goes_of (S.Breaks kind) mode is = absurd (cc)

some_then : {A B : Type 0} (f : A → Option B) (o : Option A) (y : B) → option_and_then f o ≡ Some y → (x : A) × (o ≡ Some x) × (f x ≡ Some y)
some_then f None y is = absurd (cc)
some_then f (Some x) y is = (x, refl, is)

same_some : {A : Type 0} (x y : A) → Some x ≡ Some y → x ≡ y
same_some x y is = cc

module _ (front : List ℕ) (g : Grouping) (at : g.at ≡ length front) where
  dropped : (b : List ℕ) → drop g.at (front ++ b) ≡ b
  dropped b = ap (λ (n : ℕ). drop n (front ++ b)) at ∙ all front
    where
      all : (c : List ℕ) → drop (length c) (c ++ b) ≡ b
      all [] = refl
      all (x ∷ c) = all c

  longer : (begun : List ℕ) (byte : ℕ) → drop g.at ((front ++ begun) ++ byte ∷ []) ≡ begun ++ byte ∷ []
  longer begun byte = ap (drop g.at) (append_assoc front begun (byte ∷ [])) ∙ dropped (begun ++ byte ∷ [])

  -- the step at a byte, where these bytes are begun
  steps : (mode : Mode) (begun : List ℕ) (byte : ℕ) → after_byte (front ++ begun) ((front ++ begun) ++ byte ∷ []) byte (reader_in g mode)
      ≡ after_step (front ++ begun) ((front ++ begun) ++ byte ∷ []) byte (reader_in g mode) (step mode begun (begun ++ byte ∷ []) byte)
  steps mode begun byte =
      ap (λ (x : List ℕ). after_step (front ++ begun) ((front ++ begun) ++ byte ∷ []) byte (reader_in g mode) (step mode x (drop g.at ((front ++ begun) ++ byte ∷ [])) byte)) (dropped begun)
      ∙ ap (λ (x : List ℕ). after_step (front ++ begun) ((front ++ begun) ++ byte ∷ []) byte (reader_in g mode) (step mode begun x byte)) (longer begun byte)

  runs_read : (mode last : Mode) (begun bytes : List ℕ) → runs mode begun bytes ≡ Some last → after_bytes (front ++ begun) (reader_in g mode) bytes ≡ Some (reader_in g last)
  runs_read mode last begun [] is = ap (λ (m : Mode). Some (reader_in g m)) (same_some mode last is)
  runs_read mode last begun (byte ∷ bytes) is =
      let found = some_then (λ next. runs next (begun ++ byte ∷ []) bytes) (mode_behind (step mode begun (begun ++ byte ∷ []) byte)) last is in
      let goes = goes_of (step mode begun (begun ++ byte ∷ []) byte) found.0 found.1 in
      let one : after_byte (front ++ begun) ((front ++ begun) ++ byte ∷ []) byte (reader_in g mode) ≡ Some (reader_in g found.0) =
      steps mode begun byte ∙ ap (after_step (front ++ begun) ((front ++ begun) ++ byte ∷ []) byte (reader_in g mode)) goes in
      ap (option_and_then (λ next. after_bytes ((front ++ begun) ++ byte ∷ []) next bytes)) one
      ∙ ap (λ (f : List ℕ). after_bytes f (reader_in g found.0) bytes) (append_assoc front begun (byte ∷ []))
      ∙ runs_read found.0 last (begun ++ byte ∷ []) bytes found.2

  from_between : (mode : Mode) (bytes : List ℕ) → runs M.Between [] bytes ≡ Some mode → after_bytes front (reader_in g M.Between) bytes ≡ Some (reader_in g mode)
  from_between mode bytes is = ap (λ (f : List ℕ). after_bytes f (reader_in g M.Between) bytes) (sym (append-nil front)) ∙ runs_read M.Between mode [] bytes is

  taken : (mode : Mode) (kind : Kind) (piece bytes : List ℕ) → bytes ≡ piece → fault_at g kind piece ≡ None → with_piece_read (reader_in g mode) kind bytes ≡ Some (reader_in (with_piece g kind piece) M.Between)
  taken mode kind piece bytes is fault =
      ap (with_piece_read (reader_in g mode) kind) is
      ∙ ap (λ (o : Option Pos). if is_none o then Some (reader_in (with_piece g kind piece) M.Between) else None) fault

  whole_read : (bytes : List ℕ) (kind : Kind) → EndsIn bytes kind → fault_at g kind bytes ≡ None → after_bytes front (reader_in g M.Between) bytes ≡ Some (reader_in (with_piece g kind bytes) M.Between)
  whole_read bytes kind e fault =
      let l : List ℕ = front ++ e.front in
      let one : after_byte l (l ++ e.byte ∷ []) e.byte (reader_in g e.mode) ≡ Some (reader_in (with_piece g kind bytes) M.Between) =
      steps e.mode e.front e.byte ∙ ap (after_step l (l ++ e.byte ∷ []) e.byte (reader_in g e.mode)) e.ends
      ∙ taken e.mode kind bytes (drop g.at (l ++ e.byte ∷ [])) (longer e.front e.byte ∙ sym e.bytes_are) fault in
      ap (after_bytes front (reader_in g M.Between)) e.bytes_are
      ∙ after_bytes-append front (reader_in g M.Between) e.front (e.byte ∷ [])
      ∙ ap (option_and_then (λ next. after_bytes l next (e.byte ∷ []))) (from_between e.mode e.front e.run)
      ∙ after_bytes-one l (reader_in g e.mode) e.byte ∙ one

  -- a piece that has ended before the rest, and one that was taken, read alike
  broken_alike : (p : Piece) (kind : Kind) (rest : List ℕ) → (b : BreaksIn p kind) → ends p rest ≡ true → fault_at g kind (spelled p) ≡ None
      → final (front ++ spelled p) (reader_in g b.mode) rest ≡ final (front ++ spelled p) (reader_in (with_piece g kind (spelled p)) M.Between) rest
  broken_alike p kind [] b ends' fault =
      let l : List ℕ = front ++ spelled p in
      let begun : drop g.at (l ++ []) ≡ spelled p = ap (drop g.at) (append-nil l) ∙ dropped (spelled p) in
      let last : end b.mode (drop g.at (l ++ [])) ≡ E.Last kind = ap (end b.mode) begun ∙ b.last in
      ap (λ (e : End). Some (ending_at (l ++ []) (reader_in g b.mode) e)) last
      ∙ ap (λ (x : List ℕ). Some (last_piece g kind x (fault_at g kind x))) begun
      ∙ ap (λ (o : Option Pos). Some (last_piece g kind (spelled p) o)) fault
  broken_alike p kind (byte ∷ rest) b ends' fault =
      let l : List ℕ = front ++ spelled p in
      let stops : goes_on p byte ≡ false = from_not (goes_on p byte) ends' in
      let one : after_byte l (l ++ byte ∷ []) byte (reader_in g b.mode) ≡ after_byte l (l ++ byte ∷ []) byte (reader_in (with_piece g kind (spelled p)) M.Between) =
      steps b.mode (spelled p) byte ∙ ap (after_step l (l ++ byte ∷ []) byte (reader_in g b.mode)) (b.breaks byte stops)
      ∙ ap (option_and_then (λ broken. after_read (l ++ byte ∷ []) broken (first_step byte))) (taken b.mode kind (spelled p) (drop g.at l) (dropped (spelled p)) fault) in
      ap (λ (o : Option Reader). option_map (ending (l ++ byte ∷ rest)) (option_and_then (λ next. after_bytes (l ++ byte ∷ []) next rest) o)) one
    where
      from_not : (b' : Bool) → not b' ≡ true → b' ≡ false
      from_not true is = cc
      from_not false is = refl

  pub piece_final : (p : Piece) (rest : List ℕ) → (a : Accepted p) → ends p rest ≡ true → fault_at g a.kind (spelled p) ≡ None
      → final front (reader_in g M.Between) (spelled p ++ rest) ≡ final (front ++ spelled p) (reader_in (with_piece g a.kind (spelled p)) M.Between) rest
  piece_final p rest a ends' fault =
      ⊎_elim
      (λ e. final-append front (reader_in g M.Between) (reader_in (with_piece g a.kind (spelled p)) M.Between) (spelled p) rest (whole_read (spelled p) a.kind e fault))
      (λ b. final-append front (reader_in g M.Between) (reader_in g b.mode) (spelled p) rest (from_between b.mode (spelled p) b.run) ∙ broken_alike p a.kind rest b ends' fault)
      a.how

  -- a piece that shows a bad token
  refused : (mode : Mode) (kind : Kind) (piece bytes : List ℕ) (at' : Pos) → bytes ≡ piece → fault_at g kind piece ≡ Some at' → with_piece_read (reader_in g mode) kind bytes ≡ None
  refused mode kind piece bytes at' is fault =
      ap (with_piece_read (reader_in g mode) kind) is
      ∙ ap (λ (o : Option Pos). if is_none o then Some (reader_in (with_piece g kind piece) M.Between) else None) fault

  broken_refused : (p : Piece) (kind : Kind) (rest : List ℕ) (at' : Pos) (lines : List Line) → (b : BreaksIn p kind) → ends p rest ≡ true → fault_at g kind (spelled p) ≡ Some at'
      → final (front ++ spelled p) (reader_in g b.mode) rest ≡ Some (whole lines) → ⊥
  broken_refused p kind [] at' lines b ends' fault same =
      let l : List ℕ = front ++ spelled p in
      let begun : drop g.at (l ++ []) ≡ spelled p = ap (drop g.at) (append-nil l) ∙ dropped (spelled p) in
      let last : end b.mode (drop g.at (l ++ [])) ≡ E.Last kind = ap (end b.mode) begun ∙ b.last in
      let shown : ending (l ++ []) (reader_in g b.mode) ≡ bad_token at' =
      ap (ending_at (l ++ []) (reader_in g b.mode)) last ∙ ap (λ (x : List ℕ). last_piece g kind x (fault_at g kind x)) begun ∙ ap (last_piece g kind (spelled p)) fault in
      cc (shown, same)
  broken_refused p kind (byte ∷ rest) at' lines b ends' fault same =
      let l : List ℕ = front ++ spelled p in
      let stops : goes_on p byte ≡ false = from_not (goes_on p byte) ends' in
      let one : after_byte l (l ++ byte ∷ []) byte (reader_in g b.mode) ≡ None =
      steps b.mode (spelled p) byte ∙ ap (after_step l (l ++ byte ∷ []) byte (reader_in g b.mode)) (b.breaks byte stops)
      ∙ ap (option_and_then (λ broken. after_read (l ++ byte ∷ []) broken (first_step byte))) (refused b.mode kind (spelled p) (drop g.at l) at' (dropped (spelled p)) fault) in
      let none = ap (λ (o : Option Reader). option_map (ending (l ++ byte ∷ rest)) (option_and_then (λ next. after_bytes (l ++ byte ∷ []) next rest) o)) one in
      cc (none, same)
    where
      from_not : (b' : Bool) → not b' ≡ true → b' ≡ false
      from_not true is = cc
      from_not false is = refl

  pub broken_doomed : (p : Piece) (kind : Kind) (rest : List ℕ) (at' : Pos) (lines : List Line) → BreaksIn p kind → ends p rest ≡ true → fault_at g kind (spelled p) ≡ Some at'
      → final front (reader_in g M.Between) (spelled p ++ rest) ≡ Some (whole lines) → ⊥
  broken_doomed p kind rest at' lines b ends' fault same =
      broken_refused p kind rest at' lines b ends' fault (sym (final-append front (reader_in g M.Between) (reader_in g b.mode) (spelled p) rest (from_between b.mode (spelled p) b.run)) ∙ same)
