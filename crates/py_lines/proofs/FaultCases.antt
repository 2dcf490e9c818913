-- Each way in which reading stops shows the text's first fault.
use Rattle.std.proofs.Common.{◌≡◌, ◌⊎◌, ⊎_elim, inl, inr, ℕ, ◌==◌, Bool, true, false, ◌||◌, not, List, [], ◌∷◌, ◌++◌, length, codes, Option, Some, None, option_and_then, is_none, is_some, unwrap_or, refl, sym, ap, ◌∙◌, subst, append_assoc, append-nil, add-zero, if◌then◌else◌}
use Rattle.std.specs.Option.{option_map_or}
use Rattle.std.specs.Str.{bytes_eq}
use Rattle.prov_base.specs.declared.place.Pos.{Pos}
use Rattle.py_lines.specs.declared.brackets.Bracket.{Bracket}
use Rattle.py_lines.specs.declared.grouping.Grouping.{Grouping}
use Rattle.py_lines.specs.declared.scan.Reader.{Reader}
use Rattle.py_lines.specs.declared.mode.Mode.{Mode}
use Rattle.py_lines.specs.declared.mode.Mode.TheVariants as M
use Rattle.py_lines.specs.declared.mode.Kind.{Kind}
use Rattle.py_lines.specs.declared.mode.Kind.TheVariants as K
use Rattle.py_lines.specs.declared.mode.Shape.{Shape}
use Rattle.py_lines.specs.declared.mode.Shape.TheVariants as H
use Rattle.py_lines.specs.declared.mode.Bad.{Bad}
use Rattle.py_lines.specs.declared.mode.Bad.TheVariants as B
use Rattle.py_lines.specs.declared.mode.Read.{Read}
use Rattle.py_lines.specs.declared.mode.Read.TheVariants as R
use Rattle.py_lines.specs.declared.mode.Step.{Step}
use Rattle.py_lines.specs.declared.mode.Step.TheVariants as S
use Rattle.py_lines.specs.declared.mode.End.TheVariants as E
use Rattle.py_lines.specs.Piece.{sign, text_of, ends, are_cut, is_sign, is_digit, begins_name}
use Rattle.py_lines.specs.Place.{place}
use Rattle.py_lines.specs.Written.{pieces_of, lines_of}
use Rattle.py_lines.specs.Faults.{IsFaulty, IsFront, bad_piece_at, bad_at}
use Rattle.py_lines.specs.Bracketing.{closing_byte, is_closing, close, after_sign}
use Rattle.py_lines.specs.Stepping.{begins_sign, step, first_step, end, broken_sign, last_sign}
use Rattle.py_lines.specs.Tables.{sign_number, sign_at}
use Rattle.py_lines.specs.Grouping.{fault_at, with_piece, tab_before, token_fault, fault_among, brackets_after}
use Rattle.py_lines.specs.Reading.{at_start, begun_of, with_piece_read, after_read, after_step, after_byte, after_bytes, bad_place, piece_fault, read_fault, step_fault, fault_place}
use Rattle.py_lines.proofs.Begun.{Begun, IsBroken, Steps, step_reads, choose, or_split}
use Rattle.py_lines.proofs.Pieces.{same_bytes}
use Rattle.py_lines.proofs.Accepting.{breaking_sign}
use Rattle.py_lines.proofs.Scanning.{Scans, begun_is, longer_begun, taken_piece}
use Rattle.py_lines.proofs.Finals.{final, broken_doomed}
use Rattle.py_lines.proofs.Complete.{complete, stopped_faulty}
use Rattle.py_lines.proofs.FaultPlaces.{start_place}
use Rattle.py_lines.proofs.Doomed.{IsToken}
use Rattle.py_lines.proofs.Alive.{IsClosable, alive_pieces, alive_begun}
use Rattle.py_lines.proofs.Faulting.{Fault, placed_at, pieces_front, cut_first, tab_here, bad_here}

-- a closing bracket, by its byte
data IsCloser : ℕ → List ℕ → Type 0 where
  round : IsCloser 41 (41 ∷ [])
  square : IsCloser 93 (93 ∷ [])
  curly : IsCloser 125 (125 ∷ [])

record Stray (bytes : List ℕ) : Type 0 where
  byte : ℕ
  is : bytes ≡ byte ∷ []
  sign_is : is_sign (byte ∷ []) ≡ true
  number : ℕ
  number_is : sign_number (byte ∷ []) ≡ Some number
  never : (next : ℕ) → is_sign (byte ∷ next ∷ []) ≡ false
  no_digit : is_digit byte ≡ false

stray_round : (bytes : List ℕ) → bytes ≡ 41 ∷ [] → Stray bytes
stray_round bytes is = record { byte = 41; is = is; sign_is = refl; number = 1; number_is = refl; never = λ next. refl; no_digit = refl }

stray_square : (bytes : List ℕ) → bytes ≡ 93 ∷ [] → Stray bytes
stray_square bytes is = record { byte = 93; is = is; sign_is = refl; number = 3; number_is = refl; never = λ next. refl; no_digit = refl }

stray_curly : (bytes : List ℕ) → bytes ≡ 125 ∷ [] → Stray bytes
stray_curly bytes is = record { byte = 125; is = is; sign_is = refl; number = 5; number_is = refl; never = λ next. refl; no_digit = refl }

closing_stray : (bytes : List ℕ) → is_closing bytes ≡ true → Stray bytes
closing_stray bytes is =
    or_split (bytes_eq bytes (codes ")") || bytes_eq bytes (codes "]")) (bytes_eq bytes (codes "}")) is
    (λ more. or_split (bytes_eq bytes (codes ")")) (bytes_eq bytes (codes "]")) more
    (λ same. stray_round bytes (same_bytes bytes (codes ")") same)) (λ same. stray_square bytes (same_bytes bytes (codes "]") same)))
    (λ same. stray_curly bytes (same_bytes bytes (codes "}") same))

-- the brackets refuse only a closing one
refuses_closing : (at : Pos) (bytes : List ℕ) (opened : List Bracket) → after_sign at bytes opened ≡ None → is_closing bytes ≡ true
refuses_closing at bytes opened is = by (closing_byte bytes) (is_closing bytes) is
  where
    by : (byte : Option ℕ) (closing : Bool) → option_map_or (λ b. Some (record { closed_by = b; at = at } ∷ opened)) byte (if closing then close bytes opened else Some opened) ≡ None → closing ≡ true
    by (Some b) closing none = absurd (cc)
    by None true none = refl
    by None false none = absurd (cc)

module _ (text front next : List ℕ) (r : Reader) (s : Scans text front r next) where
  stray_faulty : (byte : ℕ) (number' : ℕ) (rest' : List ℕ) (at' : Pos) → s.begun ++ next ≡ byte ∷ rest' → is_sign (byte ∷ []) ≡ true → sign_number (byte ∷ []) ≡ Some number'
      → ((after : ℕ) → is_sign (byte ∷ after ∷ []) ≡ false) → fault_at r.grouping (K.Token (H.Sign (sign_at number'))) (byte ∷ []) ≡ Some at' → IsFaulty (text_of (pieces_of s.written) ++ byte ∷ [])
  stray_faulty byte number' rest' at' next_is is number_is never fault rest written' is_written =
      let f : List ℕ = text_of (pieces_of s.written) in
      let cut = cut_first (pieces_of s.written) byte rest' rest (ap (are_cut (pieces_of s.written)) (sym next_is) ∙ s.cut) in
      let all = complete ((f ++ byte ∷ []) ++ rest) written' is_written in
      broken_doomed f r.grouping s.tracks.at (sign (byte ∷ [])) (K.Token (H.Sign (sign_at number'))) rest at' (lines_of ((f ++ byte ∷ []) ++ rest) 0 written') (breaking_sign (byte ∷ []) number' is number_is) (never_on rest) fault
      (sym (s.resume (byte ∷ rest) cut) ∙ ap (final [] at_start) (sym (append_assoc f (byte ∷ []) rest)) ∙ all)
    where
      never_on : (after : List ℕ) → ends (sign (byte ∷ [])) after ≡ true
      never_on [] = refl
      never_on (x ∷ after) = ap not (never x)

  stray_here : (bytes rest' : List ℕ) → (st : Stray bytes) → s.begun ++ next ≡ bytes ++ rest' → tab_before r.grouping ≡ None → after_sign r.grouping.here bytes r.grouping.brackets ≡ None → Fault text r.grouping.here
  stray_here bytes rest' st next_is tab none =
      let f : List ℕ = text_of (pieces_of s.written) in
      let rest : List ℕ = st.byte ∷ rest' in
      let rest_is : s.begun ++ next ≡ rest = next_is ∙ ap (λ (b : List ℕ). b ++ rest') st.is in
      let fault : fault_at r.grouping (K.Token (H.Sign (sign_at st.number))) (st.byte ∷ []) ≡ Some r.grouping.here =
      ap (λ (o : Option Pos). fault_among o (after_sign r.grouping.here (st.byte ∷ []) r.grouping.brackets) r.grouping.here) tab
      ∙ ap (λ (o : Option (List Bracket)). fault_among None o r.grouping.here) (ap (λ (b : List ℕ). after_sign r.grouping.here b r.grouping.brackets) (sym st.is) ∙ none) in
      let small : bad_piece_at (length f) [] rest ≡ length f = (let d = st.no_digit in rw d (add-zero (length f))) in
      record {
        at = bad_at s.written [] rest;
        is = record {
          front = f;
          rest = rest;
          text_is = s.tracks.text_is ∙ ap (λ (x : List ℕ). f ++ x) rest_is;
          written = s.written;
          begun = [];
          opened = s.tracks.line.opened;
          is_front = subst (λ (x : List ℕ). IsFront f s.written [] x s.tracks.line.opened) rest_is (pieces_front text front next r s);
          not_faulty = alive_pieces text front next r s;
          shown = stray_faulty st.byte st.number rest' r.grouping.here rest_is st.sign_is st.number_is st.never fault;
          at_is = refl;
        };
        shown_is = ap (λ (o : Option Pos). unwrap_or o r.grouping.here) (sym tab)
            ∙ placed_at text (s.begun ++ next) s.written r.grouping [] rest r.grouping.here s.tracks (start_place text front next r s ∙ ap (place text) (sym small));
      }

  -- a token that shows a fault
  pub token_here : (shape : Shape) (bytes rest' : List ℕ) (shown : Pos) → s.begun ++ next ≡ bytes ++ rest' → IsToken r.mode → token_fault r.grouping shape bytes ≡ Some shown → Fault text shown
  token_here shape bytes rest' shown next_is token fault = by_tab (tab_before r.grouping) refl fault
    where
      by_shape : (sh : Shape) (brackets : Option (List Bracket)) → brackets_after r.grouping sh bytes ≡ brackets → tab_before r.grouping ≡ None → fault_among None brackets r.grouping.here ≡ Some shown → Fault text shown
      by_shape sh (Some b) same tab is = absurd (cc)
      by_shape (H.Sign n) None same tab is =
          subst (λ (p : Pos). Fault text p) (let e : r.grouping.here ≡ shown = cc in e)
          (stray_here bytes rest' (closing_stray bytes (refuses_closing r.grouping.here bytes r.grouping.brackets same)) next_is tab same)
      by_shape H.Word None same tab is = absurd (cc)
      by_shape (H.Number value) None same tab is = absurd (cc)
      by_shape (H.Text quote) None same tab is = absurd (cc)

      by_tab : (tab : Option Pos) → tab_before r.grouping ≡ tab → fault_among tab (brackets_after r.grouping shape bytes) r.grouping.here ≡ Some shown → Fault text shown
      by_tab (Some tab) same is = subst (λ (p : Pos). Fault text p) (let e : tab ≡ shown = cc in e) (tab_here text front next r s tab same token)
      by_tab None same is = by_shape shape (brackets_after r.grouping shape bytes) refl same is

-- ---- only a token that is begun ends as one

first_kinds : (byte : ℕ) (kind : Kind) → first_step byte ≡ R.Ends kind → (kind ≡ K.Blank) ⊎ (kind ≡ K.LineEnd)
first_kinds byte kind =
    choose P ((byte == 32) || (byte == 9)) _ _ (λ _ same. inl cc)
    (λ _. choose P (byte == 10) _ _ (λ _ same. inr cc)
    (λ _. choose P (byte == 13) _ _ (λ _ same. absurd (cc))
    (λ _. choose P (byte == 35) _ _ (λ _ same. absurd (cc))
    (λ _. choose P ((byte == 39) || (byte == 34)) _ _ (λ _ same. absurd (cc))
    (λ _. choose P (begins_name byte) _ _ (λ _ same. absurd (cc))
    (λ _. choose P (is_digit byte) _ _ (λ _ same. absurd (cc))
    (λ _. choose P (begins_sign byte) _ _ (λ _ same. absurd (cc))
    (λ _ same. absurd (cc)))))))))
  where
    P : Read → Type 0
    P read = read ≡ R.Ends kind → (kind ≡ K.Blank) ⊎ (kind ≡ K.LineEnd)

first_no_fault : (g : Grouping) (byte : ℕ) (kind : Kind) (piece : List ℕ) → first_step byte ≡ R.Ends kind → fault_at g kind piece ≡ None
first_no_fault g byte kind piece is =
    ⊎_elim (λ blank'. ap (λ (k : Kind). fault_at g k piece) blank') (λ line_end'. ap (λ (k : Kind). fault_at g k piece) line_end') (first_kinds byte kind is)

same_read : (a b : Read) → S.Reads a ≡ S.Reads b → a ≡ b
same_read a b same = cc

token_ends : (mode : Mode) (begun longer : List ℕ) (byte : ℕ) (shape : Shape) → step mode begun longer byte ≡ S.Reads (R.Ends (K.Token shape)) → IsToken mode
token_ends M.Between begun longer byte shape is =
    not_token (first_kinds byte (K.Token shape) (same_read (first_step byte) (R.Ends (K.Token shape)) is))
  where
    not_token : (K.Token shape ≡ K.Blank) ⊎ (K.Token shape ≡ K.LineEnd) → ⊥
    not_token (inl a) = cc
    not_token (inr b) = cc
token_ends M.Return begun longer byte shape is =
    choose (λ (s : Step). s ≡ S.Reads (R.Ends (K.Token shape)) → ⊥) (byte == 10) (S.Reads (R.Ends K.LineEnd)) (S.Reads (R.Bad B.Start)) (λ _ same. cc) (λ _ same. cc) is
token_ends M.Comment begun longer byte shape is =
    choose (λ (s : Step). s ≡ S.Reads (R.Ends (K.Token shape)) → ⊥) ((byte == 10) || (byte == 13)) (S.Breaks K.Comment) (S.Reads (R.Goes M.Comment)) (λ _ same. cc) (λ _ same. cc) is
token_ends M.Word begun longer byte shape is = tt
token_ends (M.Number value) begun longer byte shape is = tt
token_ends M.Sign begun longer byte shape is = tt
token_ends (M.OneQuote mark) begun longer byte shape is = tt
token_ends (M.TwoQuotes mark) begun longer byte shape is = tt
token_ends (M.Inside quote quotes) begun longer byte shape is = tt
token_ends (M.Escape quote) begun longer byte shape is = tt
token_ends (M.InsideReturn mark) begun longer byte shape is = tt

token_breaks : (mode : Mode) (begun longer : List ℕ) (byte : ℕ) (shape : Shape) → step mode begun longer byte ≡ S.Breaks (K.Token shape) → IsToken mode
token_breaks M.Between begun longer byte shape is = cc
token_breaks M.Return begun longer byte shape is =
    choose (λ (s : Step). s ≡ S.Breaks (K.Token shape) → ⊥) (byte == 10) (S.Reads (R.Ends K.LineEnd)) (S.Reads (R.Bad B.Start)) (λ _ same. cc) (λ _ same. cc) is
token_breaks M.Comment begun longer byte shape is =
    choose (λ (s : Step). s ≡ S.Breaks (K.Token shape) → ⊥) ((byte == 10) || (byte == 13)) (S.Breaks K.Comment) (S.Reads (R.Goes M.Comment)) (λ _ same. cc) (λ _ same. cc) is
token_breaks M.Word begun longer byte shape is = tt
token_breaks (M.Number value) begun longer byte shape is = tt
token_breaks M.Sign begun longer byte shape is = tt
token_breaks (M.OneQuote mark) begun longer byte shape is = tt
token_breaks (M.TwoQuotes mark) begun longer byte shape is = tt
token_breaks (M.Inside quote quotes) begun longer byte shape is = tt
token_breaks (M.Escape quote) begun longer byte shape is = tt
token_breaks (M.InsideReturn mark) begun longer byte shape is = tt

pub token_or_not : (mode : Mode) → IsToken mode ⊎ (IsToken mode → ⊥)
token_or_not M.Between = inr (λ is. is)
token_or_not M.Return = inr (λ is. is)
token_or_not M.Comment = inr (λ is. is)
token_or_not M.Word = inl tt
token_or_not (M.Number value) = inl tt
token_or_not M.Sign = inl tt
token_or_not (M.OneQuote mark) = inl tt
token_or_not (M.TwoQuotes mark) = inl tt
token_or_not (M.Inside quote quotes) = inl tt
token_or_not (M.Escape quote) = inl tt
token_or_not (M.InsideReturn mark) = inl tt

-- what a sign may show of a bad token is a lone `!`
pub bang_of : (begun : List ℕ) (number : Option ℕ) → sign_number begun ≡ number → Begun M.Sign begun → is_none number ≡ true → begun ≡ 33 ∷ []
bang_of begun (Some n) same is none = absurd (cc)
bang_of begun None same is none = ⊎_elim (λ bang. bang) (λ some. absurd (let e = ap is_some same in cc)) is

pub closable_of : (mode : Mode) (begun longer : List ℕ) (byte : ℕ) (bad : Bad) → Begun mode begun → step mode begun longer byte ≡ S.Reads (R.Bad bad) → IsClosable mode begun
closable_of M.Between begun longer byte bad is same = tt
closable_of M.Word begun longer byte bad is same = tt
closable_of (M.Number value) begun longer byte bad is same = tt
closable_of M.Sign begun longer byte bad is same =
    choose (λ (s : Step). s ≡ S.Reads (R.Bad bad) → begun ≡ 33 ∷ []) (is_some (sign_number longer)) (S.Reads (R.Goes M.Sign)) (broken_sign (sign_number begun)) (λ _ other. absurd (cc))
    (λ _ other. bang_of begun (sign_number begun) refl is (none_of (sign_number begun) other)) same
  where
    none_of : (number : Option ℕ) → broken_sign number ≡ S.Reads (R.Bad bad) → is_none number ≡ true
    none_of None other = refl
    none_of (Some n) other = absurd (cc)
closable_of M.Return begun longer byte bad is same = tt
closable_of M.Comment begun longer byte bad is same = tt
closable_of (M.OneQuote mark) begun longer byte bad is same = tt
closable_of (M.TwoQuotes mark) begun longer byte bad is same = tt
closable_of (M.Inside quote quotes) begun longer byte bad is same = tt
closable_of (M.Escape quote) begun longer byte bad is same = tt
closable_of (M.InsideReturn mark) begun longer byte bad is same = tt

pub closable_end : (mode : Mode) (begun : List ℕ) (bad : Bad) → Begun mode begun → end mode begun ≡ E.Bad bad → IsClosable mode begun
closable_end M.Between begun bad is same = tt
closable_end M.Word begun bad is same = tt
closable_end (M.Number value) begun bad is same = tt
closable_end M.Sign begun bad is same = bang_of begun (sign_number begun) refl is (none_of (sign_number begun) same)
  where
    none_of : (number : Option ℕ) → last_sign number ≡ E.Bad bad → is_none number ≡ true
    none_of None other = refl
    none_of (Some n) other = absurd (cc)
closable_end M.Return begun bad is same = tt
closable_end M.Comment begun bad is same = tt
closable_end (M.OneQuote mark) begun bad is same = tt
closable_end (M.TwoQuotes mark) begun bad is same = tt
closable_end (M.Inside quote quotes) begun bad is same = tt
closable_end (M.Escape quote) begun bad is same = tt
closable_end (M.InsideReturn mark) begun bad is same = tt

refused_some : (o : Option Pos) (x : Reader) → (if is_none o then Some x else None) ≡ None → (p : Pos) × (o ≡ Some p)
refused_some None x is = absurd (cc)
refused_some (Some p) x is = (p, refl)

-- ---- the byte that shows a fault

module _ (text front after : List ℕ) (byte : ℕ) (r : Reader) (text_is : text ≡ front ++ byte ∷ after) (reads : after_bytes [] at_start front ≡ Some r) (s : Scans text front r (byte ∷ after))
    (stops : after_byte front (front ++ byte ∷ []) byte r ≡ None) where
  bad_read : (bad : Bad) → step r.mode s.begun (s.begun ++ byte ∷ []) byte ≡ S.Reads (R.Bad bad) → Fault text (bad_place r front after bad)
  bad_read bad stepped =
      ⊎_elim (λ token. by_tab token (tab_before r.grouping) refl)
      (λ other. here (λ token. absurd (other token))) (token_or_not r.mode)
    where
      closable : IsClosable r.mode (begun_of front r)
      closable = subst (λ (b : List ℕ). IsClosable r.mode b) (sym (begun_is text front (byte ∷ after) r s)) (closable_of r.mode s.begun (s.begun ++ byte ∷ []) byte bad s.mode stepped)

      here : (IsToken r.mode → tab_before r.grouping ≡ None) → Fault text (bad_place r front after bad)
      here tab = bad_here text front after byte r text_is s bad stepped (alive_begun front r reads closable tab) (stopped_faulty front byte r reads stops)

      by_tab : IsToken r.mode → (tab : Option Pos) → tab_before r.grouping ≡ tab → Fault text (bad_place r front after bad)
      by_tab token None same = here (λ _. same)
      by_tab token (Some tab) same =
          subst (λ (o : Option Pos). Fault text (unwrap_or o (piece_fault r front after bad))) (sym same) (tab_here text front (byte ∷ after) r s tab same token)

  ends_read : (kind : Kind) → step r.mode s.begun (s.begun ++ byte ∷ []) byte ≡ S.Reads (R.Ends kind) → with_piece_read r kind (begun_of (front ++ byte ∷ []) r) ≡ None
      → Fault text (unwrap_or (fault_at r.grouping kind (begun_of (front ++ byte ∷ []) r)) r.grouping.here)
  ends_read kind stepped none =
      let piece : List ℕ = begun_of (front ++ byte ∷ []) r in
      let found = refused_some (fault_at r.grouping kind piece) (record { grouping = with_piece r.grouping kind piece; mode = M.Between }) none in
      subst (λ (o : Option Pos). Fault text (unwrap_or o r.grouping.here)) (sym found.1) (by_kind kind stepped found.0 found.1)
    where
      whole : s.begun ++ byte ∷ after ≡ begun_of (front ++ byte ∷ []) r ++ after
      whole = sym (append_assoc s.begun (byte ∷ []) after) ∙ ap (λ (b : List ℕ). b ++ after) (sym (longer_begun text front (byte ∷ after) r byte s))

      by_kind : (k : Kind) → step r.mode s.begun (s.begun ++ byte ∷ []) byte ≡ S.Reads (R.Ends k) → (p : Pos) → fault_at r.grouping k (begun_of (front ++ byte ∷ []) r) ≡ Some p → Fault text p
      by_kind (K.Token shape) stepped' p is =
          token_here text front (byte ∷ after) r s shape (begun_of (front ++ byte ∷ []) r) after p whole (token_ends r.mode s.begun (s.begun ++ byte ∷ []) byte shape stepped') is
      by_kind K.Blank stepped' p is = absurd (cc)
      by_kind K.Comment stepped' p is = absurd (cc)
      by_kind K.LineEnd stepped' p is = absurd (cc)

  -- the piece was taken, and the byte begins no other
  broken_read : (broken : Reader) → (b : Scans text front broken (byte ∷ after)) → broken.mode ≡ M.Between → (read : Read) → first_step byte ≡ read → after_read (front ++ byte ∷ []) broken read ≡ None
      → Fault text (read_fault front (front ++ byte ∷ []) after broken read)
  broken_read broken b mode (R.Goes next) first none = absurd (cc)
  broken_read broken b mode (R.Ends kind) first none =
      let piece : List ℕ = begun_of (front ++ byte ∷ []) broken in
      let found = refused_some (fault_at broken.grouping kind piece) (record { grouping = with_piece broken.grouping kind piece; mode = M.Between }) none in
      let other = first_no_fault broken.grouping byte kind piece first in
      absurd (some_none found.0 (fault_at broken.grouping kind piece) found.1 other)
    where
      some_none : (p : Pos) (o : Option Pos) → o ≡ Some p → o ≡ None → ⊥
      some_none p o a b' = cc
  broken_read broken b mode (R.Bad bad) first none =
      let nothing : b.begun ≡ [] = subst (λ (m : Mode). Begun m b.begun) mode b.mode in
      let stepped : step broken.mode b.begun (b.begun ++ byte ∷ []) byte ≡ S.Reads (R.Bad bad) = ap (λ (m : Mode). step m b.begun (b.begun ++ byte ∷ []) byte) mode ∙ ap S.Reads first in
      let front_is : text_of (pieces_of b.written) ≡ front = sym (append-nil (text_of (pieces_of b.written))) ∙ ap (λ (x : List ℕ). text_of (pieces_of b.written) ++ x) (sym nothing) ∙ sym b.front_is in
      bad_here text front after byte broken text_is b bad stepped
      (λ faulty. alive_pieces text front (byte ∷ after) broken b (subst (λ (f : List ℕ). IsFaulty f) (sym front_is) faulty))
      (stopped_faulty front byte r reads stops)

  breaks_read : (kind : Kind) → IsBroken s.begun kind byte → step r.mode s.begun (s.begun ++ byte ∷ []) byte ≡ S.Breaks kind → after_step front (front ++ byte ∷ []) byte r (S.Breaks kind) ≡ None
      → Fault text (step_fault front (front ++ byte ∷ []) byte after r (S.Breaks kind))
  breaks_read kind broken stepped none = by_fault (fault_at r.grouping kind (begun_of front r)) refl none
    where
      piece : List ℕ
      piece = begun_of front r

      by_kind : (k : Kind) → step r.mode s.begun (s.begun ++ byte ∷ []) byte ≡ S.Breaks k → (p : Pos) → fault_at r.grouping k (begun_of front r) ≡ Some p → Fault text p
      by_kind (K.Token shape) stepped' p is =
          token_here text front (byte ∷ after) r s shape (begun_of front r) (byte ∷ after) p (ap (λ (b : List ℕ). b ++ byte ∷ after) (sym (begun_is text front (byte ∷ after) r s)))
          (token_breaks r.mode s.begun (s.begun ++ byte ∷ []) byte shape stepped') is
      by_kind K.Blank stepped' p is = absurd (cc)
      by_kind K.Comment stepped' p is = absurd (cc)
      by_kind K.LineEnd stepped' p is = absurd (cc)

      by_fault : (o : Option Pos) → fault_at r.grouping kind (begun_of front r) ≡ o
          → option_and_then (λ next. after_read (front ++ byte ∷ []) next (first_step byte)) (if is_none (fault_at r.grouping kind (begun_of front r)) then Some (record { grouping = with_piece r.grouping kind (begun_of front r); mode = M.Between }) else None) ≡ None
          → Fault text (unwrap_or (fault_at r.grouping kind (begun_of front r)) (read_fault front (front ++ byte ∷ []) after (record { grouping = with_piece r.grouping kind (begun_of front r); mode = M.Between }) (first_step byte)))
      by_fault (Some p) same is =
          subst (λ (o : Option Pos). Fault text (unwrap_or o (read_fault front (front ++ byte ∷ []) after (record { grouping = with_piece r.grouping kind (begun_of front r); mode = M.Between }) (first_step byte)))) (sym same)
          (by_kind kind stepped p same)
      by_fault None same is =
          let next : Reader = record { grouping = with_piece r.grouping kind (begun_of front r); mode = M.Between } in
          let some : with_piece_read r kind (begun_of front r) ≡ Some next = ap (λ (o : Option Pos). if is_none o then Some next else None) same in
          let taken = taken_piece text front front (byte ∷ after) (byte ∷ after) s.begun r next broken.piece kind s (sym (begun_is text front (byte ∷ after) r s)) broken.spelled_is refl broken.is (ap not broken.stops) broken.fits s.front_is some in
          let none' : after_read (front ++ byte ∷ []) next (first_step byte) ≡ None = sym (ap (option_and_then (λ next'. after_read (front ++ byte ∷ []) next' (first_step byte))) some) ∙ is in
          subst (λ (o : Option Pos). Fault text (unwrap_or o (read_fault front (front ++ byte ∷ []) after next (first_step byte)))) (sym same)
          (broken_read next taken.0 refl (first_step byte) refl none')

  by_step : (x : Step) → step r.mode s.begun (s.begun ++ byte ∷ []) byte ≡ x → Steps s.begun (s.begun ++ byte ∷ []) byte x → after_step front (front ++ byte ∷ []) byte r x ≡ None
      → Fault text (step_fault front (front ++ byte ∷ []) byte after r x)
  by_step (S.Reads (R.Goes mode)) same steps none = absurd (cc)
  by_step (S.Reads (R.Ends kind)) same steps none = ends_read kind same none
  by_step (S.Reads (R.Bad bad)) same steps none = bad_read bad same
  by_step (S.Breaks kind) same steps none = breaks_read kind steps same none

  pub stop_fault : Fault text (fault_place front (front ++ byte ∷ []) byte after r)
  stop_fault =
      let a = begun_is text front (byte ∷ after) r s in
      let b = longer_begun text front (byte ∷ after) r byte s in
      let same : step r.mode (begun_of front r) (begun_of (front ++ byte ∷ []) r) byte ≡ step r.mode s.begun (s.begun ++ byte ∷ []) byte =
      ap (λ (x : List ℕ). step r.mode x (begun_of (front ++ byte ∷ []) r) byte) a ∙ ap (λ (x : List ℕ). step r.mode s.begun x byte) b in
      subst (λ (x : Step). Fault text (step_fault front (front ++ byte ∷ []) byte after r x)) (sym same)
      (by_step (step r.mode s.begun (s.begun ++ byte ∷ []) byte) refl (step_reads r.mode s.begun byte s.mode) (ap (after_step front (front ++ byte ∷ []) byte r) (sym same) ∙ stops))
