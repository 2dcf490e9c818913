-- Where a token is begun that may not stand there, the text is faulty however it goes on.
use Rattle.std.proofs.Common.{◌≡◌, ℕ, ◌-◌, ◌/◌, ◌==◌, nat_le, nat_lt, false, ◌&&◌, ◌||◌, not, List, [], ◌∷◌, ◌++◌, Option, Some, None, option_map, option_and_then, is_none, is_some, unwrap_or, refl, sym, ap, ◌∙◌, subst, if◌then◌else◌}
use Rattle.prov_base.specs.declared.place.Pos.{Pos}
use Rattle.py_lines.specs.declared.grouping.Grouping.{Grouping}
use Rattle.py_lines.specs.declared.parts.Line.{Line}
use Rattle.py_lines.specs.declared.scan.Reader.{Reader}
use Rattle.py_lines.specs.declared.mode.Quote.{Quote}
use Rattle.py_lines.specs.declared.mode.Mode.{Mode}
use Rattle.py_lines.specs.declared.mode.Mode.TheVariants as M
use Rattle.py_lines.specs.declared.mode.Kind.{Kind}
use Rattle.py_lines.specs.declared.mode.Kind.TheVariants as K
use Rattle.py_lines.specs.declared.mode.Bad.TheVariants as B
use Rattle.py_lines.specs.declared.mode.Read.{Read}
use Rattle.py_lines.specs.declared.mode.Read.TheVariants as R
use Rattle.py_lines.specs.declared.mode.Step.{Step}
use Rattle.py_lines.specs.declared.mode.Step.TheVariants as S
use Rattle.py_lines.specs.declared.mode.End.{End}
use Rattle.py_lines.specs.declared.mode.End.TheVariants as E
use Rattle.py_lines.specs.Piece.{is_digit, begins_name, is_name_byte, is_escape, greatest}
use Rattle.py_lines.specs.Bracketing.{first_open}
use Rattle.py_lines.specs.Stepping.{first_step, broken_sign, inside_step, step, end, last_sign}
use Rattle.py_lines.specs.Tables.{sign_number}
use Rattle.py_lines.specs.Grouping.{fault_at, with_piece, tab_before, fault_among, brackets_after}
use Rattle.py_lines.specs.Reading.{begun_of, with_piece_read, after_read, after_step, after_byte, after_bytes, whole, bad_token, open_text, last_piece, ending_at, ending}
use Rattle.py_lines.proofs.Begun.{choose}
use Rattle.py_lines.proofs.Finals.{final}

-- a token is begun
abbrev pub IsToken : Mode → Type 0
IsToken M.Between = ⊥
IsToken M.Return = ⊥
IsToken M.Comment = ⊥
IsToken mode = Unit {0}

abbrev pub IsTokenKind : Kind → Type 0
IsTokenKind (K.Token shape) = Unit {0}
IsTokenKind kind = ⊥

abbrev TokenRead : Read → Type 0
TokenRead (R.Goes mode) = IsToken mode
TokenRead (R.Ends kind) = IsTokenKind kind
TokenRead (R.Bad shown) = Unit {0}

abbrev TokenStep : Step → Type 0
TokenStep (S.Reads read) = TokenRead read
TokenStep (S.Breaks kind) = IsTokenKind kind

abbrev TokenEnd : End → Type 0
TokenEnd E.Whole = ⊥
TokenEnd (E.Last kind) = IsTokenKind kind
TokenEnd (E.Bad shown) = Unit {0}
TokenEnd E.Open = Unit {0}

inside_token : (quote : Quote) (quotes byte : ℕ) → TokenRead (inside_step quote quotes byte)
inside_token quote quotes byte =
    choose TokenRead (byte == quote.mark) _ _ (λ _. choose TokenRead (not quote.triple || nat_le 2 quotes) _ _ (λ _. tt) (λ _. tt))
    (λ _. choose TokenRead (byte == 92) _ _ (λ _. tt)
    (λ _. choose TokenRead (byte == 13) _ _ (λ _. choose TokenRead quote.triple _ _ (λ _. tt) (λ _. tt))
    (λ _. choose TokenRead ((byte == 10) && not quote.triple) _ _ (λ _. tt) (λ _. tt))))

broken_token : (number : Option ℕ) → TokenStep (broken_sign number)
broken_token None = tt
broken_token (Some n) = tt

step_token : (mode : Mode) (bytes longer : List ℕ) (byte : ℕ) → IsToken mode → TokenStep (step mode bytes longer byte)
step_token M.Between bytes longer byte is = absurd is
step_token M.Word bytes longer byte is = choose TokenStep (is_name_byte byte) _ _ (λ _. tt) (λ _. tt)
step_token (M.Number value) bytes longer byte is =
    choose TokenStep (is_digit byte) _ _
    (λ _. choose TokenStep (value == 0) _ _ (λ _. tt) (λ _. choose TokenStep (nat_lt ((greatest - (byte - 48)) / 10) value) _ _ (λ _. tt) (λ _. tt)))
    (λ _. choose TokenStep (begins_name byte || (byte == 46)) _ _ (λ _. tt) (λ _. tt))
step_token M.Sign bytes longer byte is = choose TokenStep (is_some (sign_number longer)) _ _ (λ _. tt) (λ _. broken_token (sign_number bytes))
step_token M.Return bytes longer byte is = absurd is
step_token M.Comment bytes longer byte is = absurd is
step_token (M.OneQuote mark) bytes longer byte is = choose TokenStep (byte == mark) _ _ (λ _. tt) (λ _. inside_token (record { mark = mark; triple = false }) 0 byte)
step_token (M.TwoQuotes mark) bytes longer byte is = choose TokenStep (byte == mark) _ _ (λ _. tt) (λ _. tt)
step_token (M.Inside quote quotes) bytes longer byte is = inside_token quote quotes byte
step_token (M.Escape quote) bytes longer byte is = choose TokenStep (is_escape byte) _ _ (λ _. tt) (λ _. tt)
step_token (M.InsideReturn mark) bytes longer byte is = choose TokenStep (byte == 10) _ _ (λ _. tt) (λ _. tt)

last_token : (number : Option ℕ) → TokenEnd (last_sign number)
last_token None = tt
last_token (Some n) = tt

end_token : (mode : Mode) (bytes : List ℕ) → IsToken mode → TokenEnd (end mode bytes)
end_token M.Between bytes is = absurd is
end_token M.Word bytes is = tt
end_token (M.Number value) bytes is = tt
end_token M.Sign bytes is = last_token (sign_number bytes)
end_token M.Return bytes is = absurd is
end_token M.Comment bytes is = absurd is
end_token (M.OneQuote mark) bytes is = tt
end_token (M.TwoQuotes mark) bytes is = tt
end_token (M.Inside quote quotes) bytes is = choose TokenEnd quote.triple E.Open (E.Bad B.Start) (λ _. tt) (λ _. tt)
end_token (M.Escape quote) bytes is = choose TokenEnd quote.triple E.Open (E.Bad B.Start) (λ _. tt) (λ _. tt)
end_token (M.InsideReturn mark) bytes is = tt

-- ---- a tab before a token

not_some : {A : Type 0} (y : A) → None ≡ Some y → ⊥
not_some y is = cc

module _ (tab : Pos) where
  tab_fault : (g : Grouping) (kind : Kind) (piece : List ℕ) → tab_before g ≡ Some tab → IsTokenKind kind → fault_at g kind piece ≡ Some tab
  tab_fault g (K.Token shape) piece is token = ap (λ (o : Option Pos). fault_among o (brackets_after g shape piece) g.here) is
  tab_fault g K.Blank piece is token = absurd token
  tab_fault g K.Comment piece is token = absurd token
  tab_fault g K.LineEnd piece is token = absurd token

  no_take : (r : Reader) (kind : Kind) (piece : List ℕ) → tab_before r.grouping ≡ Some tab → IsTokenKind kind → with_piece_read r kind piece ≡ None
  no_take r kind piece is token =
      ap (λ (o : Option Pos). if is_none o then Some (record { grouping = with_piece r.grouping kind piece; mode = M.Between }) else None) (tab_fault r.grouping kind piece is token)

  doomed_read : (longer : List ℕ) (r : Reader) (read : Read) (next : Reader) → tab_before r.grouping ≡ Some tab → TokenRead read → after_read longer r read ≡ Some next → (next.grouping ≡ r.grouping) × IsToken next.mode
  doomed_read longer r (R.Goes mode) next is token same =
      let e : record r { mode = mode } ≡ next = (let s = same in cc) in
      (ap (λ (x : Reader). x.grouping) (sym e), subst (λ (x : Reader). IsToken x.mode) e token)
  doomed_read longer r (R.Ends kind) next is token same = absurd (not_some next (sym (no_take r kind (begun_of longer r) is token) ∙ same))
  doomed_read longer r (R.Bad shown) next is token same = absurd (cc)

  doomed_step : (front longer : List ℕ) (byte : ℕ) (r : Reader) (s : Step) (next : Reader) → tab_before r.grouping ≡ Some tab → TokenStep s → after_step front longer byte r s ≡ Some next
      → (next.grouping ≡ r.grouping) × IsToken next.mode
  doomed_step front longer byte r (S.Reads read) next is token same = doomed_read longer r read next is token same
  doomed_step front longer byte r (S.Breaks kind) next is token same =
      absurd (not_some next (sym (ap (option_and_then (λ broken. after_read longer broken (first_step byte))) (no_take r kind (begun_of front r) is token)) ∙ same))

  doomed_end : (text : List ℕ) (r : Reader) (e : End) (lines : List Line) → tab_before r.grouping ≡ Some tab → TokenEnd e → ending_at text r e ≡ whole lines → ⊥
  doomed_end text r E.Whole lines is token same = token
  doomed_end text r (E.Last kind) lines is token same =
      let shown : last_piece r.grouping kind (begun_of text r) (fault_at r.grouping kind (begun_of text r)) ≡ bad_token tab = ap (last_piece r.grouping kind (begun_of text r)) (tab_fault r.grouping kind (begun_of text r) is token) in
      cc (shown, same)
  doomed_end text r (E.Bad shown) lines is token same = cc
  doomed_end text r E.Open lines is token same =
      let shown : open_text (tab_before r.grouping) (unwrap_or (first_open r.grouping.brackets) r.grouping.here) ≡ bad_token tab = ap (λ (o : Option Pos). open_text o (unwrap_or (first_open r.grouping.brackets) r.grouping.here)) is in
      cc (shown, same)

  then_some : {A C : Type 0} (f : A → Option C) (o : Option A) (y : C) → option_and_then f o ≡ Some y → (x : A) × (o ≡ Some x) × (f x ≡ Some y)
  then_some f None y is = absurd (cc)
  then_some f (Some x) y is = (x, refl, is)

  map_some : {A C : Type 0} (f : A → C) (o : Option A) (y : C) → option_map f o ≡ Some y → (x : A) × (o ≡ Some x) × (f x ≡ y)
  map_some f None y is = absurd (cc)
  map_some f (Some x) y is = (x, refl, cc)

  doomed_run : (front bytes : List ℕ) (r last : Reader) → tab_before r.grouping ≡ Some tab → IsToken r.mode → after_bytes front r bytes ≡ Some last → (tab_before last.grouping ≡ Some tab) × IsToken last.mode
  doomed_run front [] r last is token same = let e : r ≡ last = cc in (subst (λ (x : Reader). tab_before x.grouping ≡ Some tab) e is, subst (λ (x : Reader). IsToken x.mode) e token)
  doomed_run front (byte ∷ bytes) r last is token same =
      let found = then_some (λ next. after_bytes (front ++ byte ∷ []) next bytes) (after_byte front (front ++ byte ∷ []) byte r) last same in
      let one = doomed_step front (front ++ byte ∷ []) byte r (step r.mode (begun_of front r) (begun_of (front ++ byte ∷ []) r) byte) found.0 is (step_token r.mode (begun_of front r) (begun_of (front ++ byte ∷ []) r) byte token) found.1 in
      doomed_run (front ++ byte ∷ []) bytes found.0 last (ap tab_before one.0 ∙ is) one.1 found.2

  pub doomed : (front bytes : List ℕ) (r : Reader) (lines : List Line) → tab_before r.grouping ≡ Some tab → IsToken r.mode → final front r bytes ≡ Some (whole lines) → ⊥
  doomed front bytes r lines is token same =
      let found = map_some (ending (front ++ bytes)) (after_bytes front r bytes) (whole lines) same in
      let last = doomed_run front bytes r found.0 is token found.1 in
      doomed_end (front ++ bytes) found.0 (end found.0.mode (begun_of (front ++ bytes) found.0)) lines last.0 (end_token found.0.mode (begun_of (front ++ bytes) found.0) last.1) found.2
