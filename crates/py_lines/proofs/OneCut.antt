-- A text is cut into pieces in one way.
use Rattle.std.proofs.Common.{◌≡◌, ◌≢◌, ℕ, ◌==◌, Bool, true, false, ◌&&◌, not, List, [], ◌∷◌, ◌++◌, Option, Some, None, option_and_then, ⊎_elim, refl, sym, ap, ◌∙◌, subst, append_assoc, append-nil}
use Rattle.std.specs.Prelude.{⊤, IsTrue}
use Rattle.std.proofs.lemmas.Bool.{and_parts}
use Rattle.py_lines.specs.declared.mode.Mode.{Mode}
use Rattle.py_lines.specs.declared.mode.Mode.TheVariants as M
use Rattle.py_lines.specs.declared.mode.Kind.{Kind}
use Rattle.py_lines.specs.declared.mode.Kind.TheVariants as K
use Rattle.py_lines.specs.declared.mode.Shape.TheVariants as H
use Rattle.py_lines.specs.declared.mode.Read.TheVariants as R
use Rattle.py_lines.specs.declared.mode.Step.{Step}
use Rattle.py_lines.specs.declared.mode.Step.TheVariants as S
use Rattle.py_lines.specs.declared.mode.End.{End}
use Rattle.py_lines.specs.declared.mode.End.TheVariants as E
use Rattle.py_lines.specs.Piece.{Piece, word, number, sign, literal, blank, comment, line_end, spelled, is_piece, ends, goes_on, text_of, are_cut}
use Rattle.py_lines.specs.Written.{Open, after_piece, is_blank, is_tab}
use Rattle.py_lines.specs.Stepping.{step, end}
use Rattle.py_lines.proofs.Begun.{Fits}
use Rattle.py_lines.proofs.Accepting.{mode_behind, runs, BreaksIn, Accepted, accepted}

-- ---- the first piece

pub record Found : Type 0 where
  pub bytes : List ℕ
  pub kind : Kind

abbrev ended_by : End → List ℕ → Option Found
ended_by (E.Last kind) bytes = Some (record { bytes = bytes; kind = kind })
ended_by _ bytes = None

abbrev by_step : Step → List ℕ → ℕ → (Mode → Option Found) → Option Found
by_step (S.Reads (R.Goes mode)) begun byte later = later mode
by_step (S.Reads (R.Ends kind)) begun byte later = Some (record { bytes = begun ++ byte ∷ []; kind = kind })
by_step (S.Reads (R.Bad bad)) begun byte later = None
by_step (S.Breaks kind) begun byte later = Some (record { bytes = begun; kind = kind })

-- the bytes and the kind of the piece that ends first
abbrev first_piece : Mode → List ℕ → List ℕ → Option Found
first_piece mode begun [] = ended_by (end mode begun) begun
first_piece mode begun (byte ∷ rest) = by_step (step mode begun (begun ++ byte ∷ []) byte) begun byte (λ next. first_piece next (begun ++ byte ∷ []) rest)

first_runs : (mode last : Mode) (begun a b : List ℕ) → runs mode begun a ≡ Some last → first_piece mode begun (a ++ b) ≡ first_piece last (begun ++ a) b
first_runs mode last begun [] b is = ap (λ (m : Mode). first_piece m begun b) (same_some mode last is) ∙ ap (λ (x : List ℕ). first_piece last x b) (sym (append-nil begun))
  where
    same_some : (m n : Mode) → Some m ≡ Some n → m ≡ n
    same_some m n same = cc
first_runs mode last begun (byte ∷ a) b is = after (step mode begun (begun ++ byte ∷ []) byte) (λ next. first_runs next last (begun ++ byte ∷ []) a b) is
  where
    after : (s : Step) → ((next : Mode) → runs next (begun ++ byte ∷ []) a ≡ Some last → first_piece next (begun ++ byte ∷ []) (a ++ b) ≡ first_piece last ((begun ++ byte ∷ []) ++ a) b)
        → option_and_then (λ next. runs next (begun ++ byte ∷ []) a) (mode_behind s) ≡ Some last
        → by_step s begun byte (λ next. first_piece next (begun ++ byte ∷ []) (a ++ b)) ≡ first_piece last (begun ++ byte ∷ a) b
    after (S.Reads (R.Goes next)) each is' = each next is' ∙ ap (λ (x : List ℕ). first_piece last x b) (append_assoc begun (byte ∷ []) a)
    after (S.Reads (R.Ends kind)) each is' = cc
    after (S.Reads (R.Bad bad)) each is' = cc
    after (S.Breaks kind) each is' = cc

from_not : (b : Bool) → not b ≡ true → b ≡ false
from_not true is = cc
from_not false is = refl

first_broken : (p : Piece) (kind : Kind) (rest : List ℕ) → (b : BreaksIn p kind) → ends p rest ≡ true → first_piece b.mode (spelled p) rest ≡ Some (record { bytes = spelled p; kind = kind })
first_broken p kind [] b ends' = ap (λ (e : End). ended_by e (spelled p)) b.last
first_broken p kind (byte ∷ rest) b ends' =
    ap (λ (s : Step). by_step s (spelled p) byte (λ next. first_piece next (spelled p ++ byte ∷ []) rest)) (b.breaks byte (from_not (goes_on p byte) ends'))

first_of : (p : Piece) (rest : List ℕ) → (a : Accepted p) → ends p rest ≡ true → first_piece M.Between [] (spelled p ++ rest) ≡ Some (record { bytes = spelled p; kind = a.kind })
first_of p rest a ends' =
    ⊎_elim
    (λ e. ap (λ (x : List ℕ). first_piece M.Between [] (x ++ rest)) e.bytes_are ∙ ap (first_piece M.Between []) (append_assoc e.front (e.byte ∷ []) rest)
    ∙ first_runs M.Between e.mode [] e.front (e.byte ∷ rest) e.run
    ∙ ap (λ (s : Step). by_step s e.front e.byte (λ next. first_piece next (e.front ++ e.byte ∷ []) rest)) e.ends
    ∙ ap (λ (x : List ℕ). Some (record { bytes = x; kind = a.kind })) (sym e.bytes_are))
    (λ b. first_runs M.Between b.mode [] (spelled p) rest b.run ∙ first_broken p a.kind rest b ends')
    a.how

-- two pieces of the same bytes and kind
pub record Alike (p q : Piece) : Type 0 where
  pub spelled_is : spelled p ≡ spelled q
  pub kind : Kind
  pub first : Fits p kind
  pub second : Fits q kind

one_piece : (p q : Piece) (a b : List ℕ) → is_piece p ≡ true → ends p a ≡ true → is_piece q ≡ true → ends q b ≡ true → spelled p ++ a ≡ spelled q ++ b → Alike p q
one_piece p q a b is_p ends_p is_q ends_q same =
    let x = accepted p is_p in
    let y = accepted q is_q in
    let found = same_some (record { bytes = spelled p; kind = x.kind }) (record { bytes = spelled q; kind = y.kind }) (sym (first_of p a x ends_p) ∙ ap (first_piece M.Between []) same ∙ first_of q b y ends_q) in
    record { spelled_is = ap (λ (f : Found). f.bytes) found; kind = x.kind; first = x.fits; second = subst (Fits q) (sym (ap (λ (f : Found). f.kind) found)) y.fits }
  where
    same_some : (f g : Found) → Some f ≡ Some g → f ≡ g
    same_some f g is = cc

-- ---- all pieces

abbrev pub AllAlike : List Piece → List Piece → Type 0
AllAlike [] [] = ⊤
AllAlike [] (q ∷ qs) = ⊥
AllAlike (p ∷ ps) [] = ⊥
AllAlike (p ∷ ps) (q ∷ qs) = Alike p q × AllAlike ps qs

abbrev pub IsUnfinished : List ℕ → List ℕ → Type 0
IsUnfinished begun rest = begun ≢ [] → (piece : Piece) (after : List ℕ) → IsTrue (is_piece piece) → IsTrue (ends piece after) → begun ++ rest ≡ spelled piece ++ after → ⊥

some_bytes : (p : Piece) (rest : List ℕ) → is_piece p ≡ true → spelled p ++ rest ≡ [] → ⊥
some_bytes p rest is none = by (spelled p) refl
  where
    a : Accepted p
    a = accepted p is

    no_end : (front : List ℕ) (byte : ℕ) → front ++ byte ∷ [] ≡ [] → ⊥
    no_end [] byte same = cc
    no_end (x ∷ front) byte same = cc

    no_mode : (mode : Mode) (kind : Kind) → Some M.Between ≡ Some mode → end mode [] ≡ E.Last kind → ⊥
    no_mode mode kind same last = cc (same, last)

    empty : spelled p ≡ [] → ⊥
    empty same = ⊎_elim
        (λ e. no_end e.front e.byte (sym e.bytes_are ∙ same))
        (λ b. no_mode b.mode a.kind (ap (runs M.Between []) (sym same) ∙ b.run) (ap (end b.mode) (sym same) ∙ b.last))
        a.how

    by : (bytes : List ℕ) → spelled p ≡ bytes → ⊥
    by [] same = empty same
    by (x ∷ bytes) same = cc (ap (λ (s : List ℕ). s ++ rest) same, none)

same_tails : (s a b : List ℕ) → s ++ a ≡ s ++ b → a ≡ b
same_tails [] a b same = same
same_tails (x ∷ s) a b same = same_tails s a b cc

module _ (rest : List ℕ) where
  too_short : (q : Piece) (qs : List Piece) (begun begun' : List ℕ) → begun ≡ text_of (q ∷ qs) ++ begun' → are_cut (q ∷ qs) (begun' ++ rest) ≡ true → IsUnfinished begun rest → ⊥
  too_short q qs begun begun' same cut unfinished =
      let parts = and_parts (is_piece q && ends q (text_of qs ++ (begun' ++ rest))) (are_cut qs (begun' ++ rest)) cut in
      let here = and_parts (is_piece q) (ends q (text_of qs ++ (begun' ++ rest))) parts.0 in
      let apart : begun ≡ spelled q ++ (text_of qs ++ begun') = same ∙ append_assoc (spelled q) (text_of qs) begun' in
      unfinished (λ none. some_bytes q (text_of qs ++ begun') here.0 (sym apart ∙ none)) q (text_of qs ++ (begun' ++ rest)) here.0 here.1
      (ap (λ (x : List ℕ). x ++ rest) apart ∙ append_assoc (spelled q) (text_of qs ++ begun') rest ∙ ap (λ (x : List ℕ). spelled q ++ x) (append_assoc (text_of qs) begun' rest))

  pub one_cut : (ps qs : List Piece) (begun begun' : List ℕ) → text_of ps ++ begun ≡ text_of qs ++ begun' → are_cut ps (begun ++ rest) ≡ true → are_cut qs (begun' ++ rest) ≡ true
      → IsUnfinished begun rest → IsUnfinished begun' rest → AllAlike ps qs × (begun ≡ begun')
  one_cut [] [] begun begun' same cut cut' unfinished unfinished' = (tt, same)
  one_cut [] (q ∷ qs) begun begun' same cut cut' unfinished unfinished' = absurd (too_short q qs begun begun' same cut' unfinished)
  one_cut (p ∷ ps) [] begun begun' same cut cut' unfinished unfinished' = absurd (too_short p ps begun' begun (sym same) cut unfinished')
  one_cut (p ∷ ps) (q ∷ qs) begun begun' same cut cut' unfinished unfinished' =
      let parts = and_parts (is_piece p && ends p (text_of ps ++ (begun ++ rest))) (are_cut ps (begun ++ rest)) cut in
      let here = and_parts (is_piece p) (ends p (text_of ps ++ (begun ++ rest))) parts.0 in
      let parts' = and_parts (is_piece q && ends q (text_of qs ++ (begun' ++ rest))) (are_cut qs (begun' ++ rest)) cut' in
      let here' = and_parts (is_piece q) (ends q (text_of qs ++ (begun' ++ rest))) parts'.0 in
      let apart : spelled p ++ (text_of ps ++ begun) ≡ spelled q ++ (text_of qs ++ begun') = sym (append_assoc (spelled p) (text_of ps) begun) ∙ same ∙ append_assoc (spelled q) (text_of qs) begun' in
      let whole : spelled p ++ (text_of ps ++ (begun ++ rest)) ≡ spelled q ++ (text_of qs ++ (begun' ++ rest)) =
      ap (λ (x : List ℕ). spelled p ++ x) (sym (append_assoc (text_of ps) begun rest)) ∙ sym (append_assoc (spelled p) (text_of ps ++ begun) rest)
      ∙ ap (λ (x : List ℕ). x ++ rest) apart ∙ append_assoc (spelled q) (text_of qs ++ begun') rest ∙ ap (λ (x : List ℕ). spelled q ++ x) (append_assoc (text_of qs) begun' rest) in
      let alike = one_piece p q (text_of ps ++ (begun ++ rest)) (text_of qs ++ (begun' ++ rest)) here.0 here.1 here'.0 here'.1 whole in
      let later = same_tails (spelled p) (text_of ps ++ begun) (text_of qs ++ begun') (apart ∙ ap (λ (x : List ℕ). x ++ (text_of qs ++ begun')) (sym alike.spelled_is)) in
      let more = one_cut ps qs begun begun' later parts.1 parts'.1 unfinished unfinished' in
      ((alike, more.0), more.1)

-- ---- what pieces that are alike share

abbrev blank_kind : Kind → Bool
blank_kind K.Blank = true
blank_kind _ = false

abbrev tab_bytes : List ℕ → Bool
tab_bytes (byte ∷ []) = byte == 9
tab_bytes _ = false

blank_fits : (p : Piece) (k : Kind) → Fits p k → is_blank p ≡ blank_kind k
blank_fits (word name) k fits = ap blank_kind (sym fits)
blank_fits (number digits) k fits = ap blank_kind (sym fits)
blank_fits (sign bytes) k (n, fits, number') = ap blank_kind (sym fits)
blank_fits (literal mark triple items) k fits = ap blank_kind (sym fits)
blank_fits (blank byte) k fits = ap blank_kind (sym fits)
blank_fits (comment bytes) k fits = ap blank_kind (sym fits)
blank_fits (line_end r) k fits = ap blank_kind (sym fits)

tab_fits : (p : Piece) (k : Kind) → Fits p k → is_tab p ≡ (blank_kind k && tab_bytes (spelled p))
tab_fits (word name) k fits = ap (λ (k' : Kind). blank_kind k' && tab_bytes name) (sym fits)
tab_fits (number digits) k fits = ap (λ (k' : Kind). blank_kind k' && tab_bytes digits) (sym fits)
tab_fits (sign bytes) k (n, fits, number') = ap (λ (k' : Kind). blank_kind k' && tab_bytes bytes) (sym fits)
tab_fits (literal mark triple items) k fits = ap (λ (k' : Kind). blank_kind k' && tab_bytes (spelled (literal mark triple items))) (sym fits)
tab_fits (blank byte) k fits = ap (λ (k' : Kind). blank_kind k' && (byte == 9)) (sym fits)
tab_fits (comment bytes) k fits = ap (λ (k' : Kind). blank_kind k' && tab_bytes (spelled (comment bytes))) (sym fits)
tab_fits (line_end r) k fits = ap (λ (k' : Kind). blank_kind k' && tab_bytes (spelled (line_end r))) (sym fits)

abbrev opens : Kind → ℕ → List ℕ → List Open → Option (List Open)
opens (K.Token (H.Sign s)) at bytes opened = after_piece at (sign bytes) opened
opens (K.Token H.Word) at bytes opened = Some opened
opens (K.Token (H.Number n)) at bytes opened = Some opened
opens (K.Token (H.Text quote)) at bytes opened = Some opened
opens K.LineEnd at bytes [] = None
opens K.LineEnd at bytes (inner ∷ opened) = Some (inner ∷ opened)
opens K.Blank at bytes opened = Some opened
opens K.Comment at bytes opened = Some opened

opens_fits : (p : Piece) (k : Kind) (at : ℕ) (opened : List Open) → Fits p k → after_piece at p opened ≡ opens k at (spelled p) opened
opens_fits (word name) k at opened fits = ap (λ (k' : Kind). opens k' at name opened) (sym fits)
opens_fits (number digits) k at opened fits = ap (λ (k' : Kind). opens k' at digits opened) (sym fits)
opens_fits (sign bytes) k at opened (n, fits, number') = ap (λ (k' : Kind). opens k' at bytes opened) (sym fits)
opens_fits (literal mark triple items) k at opened fits = ap (λ (k' : Kind). opens k' at (spelled (literal mark triple items)) opened) (sym fits)
opens_fits (blank byte) k at opened fits = ap (λ (k' : Kind). opens k' at (byte ∷ []) opened) (sym fits)
opens_fits (comment bytes) k at opened fits = ap (λ (k' : Kind). opens k' at (spelled (comment bytes)) opened) (sym fits)
opens_fits (line_end r) k at [] fits = ap (λ (k' : Kind). opens k' at (spelled (line_end r)) []) (sym fits)
opens_fits (line_end r) k at (inner ∷ opened) fits = ap (λ (k' : Kind). opens k' at (spelled (line_end r)) (inner ∷ opened)) (sym fits)

module _ (p q : Piece) (a : Alike p q) where
  pub blank_alike : is_blank p ≡ is_blank q
  blank_alike = blank_fits p a.kind a.first ∙ sym (blank_fits q a.kind a.second)

  pub tab_alike : is_tab p ≡ is_tab q
  tab_alike = tab_fits p a.kind a.first ∙ ap (λ (bytes : List ℕ). blank_kind a.kind && tab_bytes bytes) a.spelled_is ∙ sym (tab_fits q a.kind a.second)

  pub opens_alike : (at : ℕ) (opened : List Open) → after_piece at p opened ≡ after_piece at q opened
  opens_alike at opened = opens_fits p a.kind at opened a.first ∙ ap (λ (bytes : List ℕ). opens a.kind at bytes opened) a.spelled_is ∙ sym (opens_fits q a.kind at opened a.second)
