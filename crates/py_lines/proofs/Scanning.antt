-- What was read is the front of what is written.
use Rattle.std.proofs.Common.{◌≡◌, ℕ, ◌+◌, ◌≤◌, Bool, true, false, ◌&&◌, not, List, [], ◌∷◌, ◌++◌, length, take, drop, Option, Some, None, option_and_then, is_none, refl, sym, ap, ◌∙◌, subst, append_assoc, append-nil, length-append, length-take, arith, if◌then◌else◌}
use Rattle.std.proofs.lemmas.Bool.{and_parts}
use Rattle.prov_base.specs.declared.place.Pos.{Pos}
use Rattle.py_lines.specs.declared.grouping.Grouping.{Grouping}
use Rattle.py_lines.specs.declared.scan.Reader.{Reader}
use Rattle.py_lines.specs.declared.mode.Mode.{Mode}
use Rattle.py_lines.specs.declared.mode.Mode.TheVariants as M
use Rattle.py_lines.specs.declared.mode.Kind.{Kind}
use Rattle.py_lines.specs.declared.mode.Read.{Read}
use Rattle.py_lines.specs.declared.mode.Read.TheVariants as R
use Rattle.py_lines.specs.declared.mode.Step.{Step}
use Rattle.py_lines.specs.declared.mode.Step.TheVariants as S
use Rattle.py_lines.specs.Piece.{Piece, word, number, sign, literal, blank, comment, line_end, spelled, text_of, is_piece, ends, goes_on, are_cut}
use Rattle.py_lines.specs.Written.{Written, last, pieces_of}
use Rattle.py_lines.specs.Stepping.{step, first_step, IsInRange}
use Rattle.py_lines.specs.Grouping.{fault_at, with_piece, nothing_read}
use Rattle.py_lines.specs.Reading.{at_start, begun_of, with_piece_read, after_read, after_step, after_byte, after_bytes, IsReady}
use Rattle.py_lines.proofs.Snoc.{text_of-append, text_of-one}
use Rattle.py_lines.proofs.PlaceLemmas.{line_bound, col_bound}
use Rattle.py_lines.proofs.Tracks.{Tracks}
use Rattle.py_lines.proofs.Begun.{Begun, Fits, Reads, Steps, step_reads, first_reads}
use Rattle.py_lines.proofs.Pieces.{Taken, next_of}
use Rattle.py_lines.proofs.Accepting.{runs, runs_on, run_one, accepted}
use Rattle.py_lines.proofs.Finals.{final, piece_final}

pub record Scans (text front : List ℕ) (reader : Reader) (next : List ℕ) : Type 0 where
  pub written : Written
  pub begun : List ℕ
  pub tracks : Tracks text written reader.grouping (begun ++ next)
  pub mode : Begun reader.mode begun
  pub run : runs M.Between [] begun ≡ Some reader.mode
  pub front_is : front ≡ text_of (pieces_of written) ++ begun
  pub cut : are_cut (pieces_of written) (begun ++ next) ≡ true
  -- whatever stands behind the pieces, if it lets them end, is read as from here
  pub resume : (rest : List ℕ) → are_cut (pieces_of written) rest ≡ true
      → final [] at_start (text_of (pieces_of written) ++ rest) ≡ final (text_of (pieces_of written)) (record { grouping = reader.grouping; mode = M.Between }) rest

drop_front : (a b : List ℕ) (n : ℕ) → n ≡ length a → drop n (a ++ b) ≡ b
drop_front a b n is = ap (λ (m : ℕ). drop m (a ++ b)) is ∙ dropped a
  where
    dropped : (c : List ℕ) → drop (length c) (c ++ b) ≡ b
    dropped [] = refl
    dropped (x ∷ c) = dropped c

pub begun_is : (text front next : List ℕ) (r : Reader) → (s : Scans text front r next) → begun_of front r ≡ s.begun
begun_is text front next r s = ap (drop r.grouping.at) s.front_is ∙ drop_front (text_of (pieces_of s.written)) s.begun r.grouping.at s.tracks.at

longer_is : (front begun whole : List ℕ) (byte : ℕ) → front ≡ whole ++ begun → front ++ byte ∷ [] ≡ whole ++ (begun ++ byte ∷ [])
longer_is front begun whole byte is = ap (λ (f : List ℕ). f ++ byte ∷ []) is ∙ append_assoc whole begun (byte ∷ [])

pub longer_begun : (text front next : List ℕ) (r : Reader) (byte : ℕ) → (s : Scans text front r next) → begun_of (front ++ byte ∷ []) r ≡ s.begun ++ byte ∷ []
longer_begun text front next r byte s =
    ap (drop r.grouping.at) (longer_is front s.begun (text_of (pieces_of s.written)) byte s.front_is)
    ∙ drop_front (text_of (pieces_of s.written)) (s.begun ++ byte ∷ []) r.grouping.at s.tracks.at

pub cut-snoc : (ps : List Piece) (p : Piece) (rest : List ℕ) → are_cut ps (spelled p ++ rest) ≡ true → is_piece p ≡ true → ends p rest ≡ true → are_cut (ps ++ p ∷ []) rest ≡ true
cut-snoc [] p rest cut is ends' = rw (is, ends') refl
cut-snoc (q ∷ ps) p rest cut is ends' =
    let whole = and_parts (is_piece q && ends q (text_of ps ++ (spelled p ++ rest))) (are_cut ps (spelled p ++ rest)) cut in
    let rest_cut = cut-snoc ps p rest whole.1 is ends' in
    let same : text_of (ps ++ p ∷ []) ++ rest ≡ text_of ps ++ (spelled p ++ rest) =
    ap (λ (t : List ℕ). t ++ rest) (text_of-append ps (p ∷ []) ∙ ap (λ (t : List ℕ). text_of ps ++ t) (text_of-one p)) ∙ append_assoc (text_of ps) (spelled p) rest in
    ap (λ (t : List ℕ). is_piece q && ends q t && are_cut (ps ++ p ∷ []) rest) same ∙ ap (λ (b : Bool). is_piece q && ends q (text_of ps ++ (spelled p ++ rest)) && b) rest_cut ∙ ap (λ (b : Bool). b && true) whole.0

cut-parts : (ps : List Piece) (p : Piece) (rest : List ℕ) → are_cut (ps ++ p ∷ []) rest ≡ true → (are_cut ps (spelled p ++ rest) ≡ true) × (ends p rest ≡ true)
cut-parts [] p rest cut = (refl, (and_parts (is_piece p) (ends p rest) (and_parts (is_piece p && ends p rest) true cut).0).1)
cut-parts (q ∷ ps) p rest cut =
    let whole = and_parts (is_piece q && ends q (text_of (ps ++ p ∷ []) ++ rest)) (are_cut (ps ++ p ∷ []) rest) cut in
    let more = cut-parts ps p rest whole.1 in
    let same : text_of (ps ++ p ∷ []) ++ rest ≡ text_of ps ++ (spelled p ++ rest) =
    ap (λ (t : List ℕ). t ++ rest) (text_of-append ps (p ∷ []) ∙ ap (λ (t : List ℕ). text_of ps ++ t) (text_of-one p)) ∙ append_assoc (text_of ps) (spelled p) rest in
    (ap (λ (t : List ℕ). is_piece q && ends q t && are_cut ps (spelled p ++ rest)) (sym same) ∙ ap (λ (b : Bool). is_piece q && ends q (text_of (ps ++ p ∷ []) ++ rest) && b) more.0 ∙ ap (λ (b : Bool). b && true) whole.0, more.1)

fits_same : (p : Piece) (a b : Kind) → Fits p a → Fits p b → a ≡ b
fits_same (word name) a b fits_a fits_b = cc
fits_same (number digits) a b fits_a fits_b = cc
fits_same (sign bytes) a b (m, is_a, number_a) (n, is_b, number_b) = cc
fits_same (literal mark triple items) a b fits_a fits_b = cc
fits_same (blank byte) a b fits_a fits_b = cc
fits_same (comment bytes) a b fits_a fits_b = cc
fits_same (line_end return) a b fits_a fits_b = cc

-- a piece is taken between pieces
pub scans_taken : (text front longer rest : List ℕ) (r : Reader) (p : Piece) (kind : Kind) (next : List ℕ) → (s : Scans text front r next) → s.begun ++ next ≡ spelled p ++ rest
    → is_piece p ≡ true → ends p rest ≡ true → Fits p kind → fault_at r.grouping kind (spelled p) ≡ None → (taken : Taken text rest s.written p (with_piece r.grouping kind (spelled p))) → longer ≡ text_of (pieces_of s.written) ++ spelled p
    → Scans text longer (record { grouping = with_piece r.grouping kind (spelled p); mode = M.Between }) rest
scans_taken text front longer rest r p kind next s whole is ends' fits fault taken longer_is' =
    let pieces = pieces_of s.written in
    record {
      written = taken.written;
      begun = [];
      tracks = taken.tracks;
      mode = refl;
      run = refl;
      front_is = longer_is' ∙ ap (λ (t : List ℕ). text_of pieces ++ t) (sym (text_of-one p)) ∙ sym (text_of-append pieces (p ∷ [])) ∙ ap text_of (sym taken.pieces_are) ∙ sym (append-nil (text_of (pieces_of taken.written)));
      cut = ap (λ (ps : List Piece). are_cut ps rest) taken.pieces_are ∙ cut-snoc pieces p rest (ap (are_cut pieces) (sym whole) ∙ s.cut) is ends';
      resume = λ after cut.
          let parts = cut-parts pieces p after (ap (λ (ps : List Piece). are_cut ps after) (sym taken.pieces_are) ∙ cut) in
          let f : List ℕ = text_of pieces in
          let g : Grouping = with_piece r.grouping kind (spelled p) in
          let f_is : text_of (pieces_of taken.written) ≡ f ++ spelled p = ap text_of taken.pieces_are ∙ text_of-append pieces (p ∷ []) ∙ ap (λ (t : List ℕ). f ++ t) (text_of-one p) in
          let a = accepted p is in
          let kinds : a.kind ≡ kind = fits_same p a.kind kind a.fits fits in
          ap (λ (t : List ℕ). final [] at_start (t ++ after)) f_is ∙ ap (final [] at_start) (append_assoc f (spelled p) after)
          ∙ s.resume (spelled p ++ after) parts.0
          ∙ piece_final f r.grouping s.tracks.at p after a parts.1 (ap (λ (k : Kind). fault_at r.grouping k (spelled p)) kinds ∙ fault)
          ∙ ap (λ (k : Kind). final (f ++ spelled p) (record { grouping = with_piece r.grouping k (spelled p); mode = M.Between }) after) kinds
          ∙ ap (λ (t : List ℕ). final t (record { grouping = g; mode = M.Between }) after) (sym f_is);
    }

same_some : {A : Type 0} (x y : A) → Some x ≡ Some y → x ≡ y
same_some x y is = cc

taken_some : (o : Option Pos) (x y : Reader) → (if is_none o then Some x else None) ≡ Some y → (o ≡ None) × (x ≡ y)
taken_some None x y is = (refl, same_some x y is)
taken_some (Some at) x y is = absurd (cc)

never_ends : (p : Piece) (rest : List ℕ) → ((byte : ℕ) → goes_on p byte ≡ false) → ends p rest ≡ true
never_ends p [] never = refl
never_ends p (byte ∷ rest) never = ap not (never byte)

-- a piece that is whole with these bytes was taken
pub taken_piece : (text front longer next rest bytes : List ℕ) (r after : Reader) (p : Piece) (kind : Kind) → (s : Scans text front r next) → bytes ≡ begun_of longer r → spelled p ≡ bytes
    → s.begun ++ next ≡ bytes ++ rest → is_piece p ≡ true → ends p rest ≡ true → Fits p kind → longer ≡ text_of (pieces_of s.written) ++ bytes
    → with_piece_read r kind (begun_of longer r) ≡ Some after → Scans text longer after rest × (after.mode ≡ M.Between)
taken_piece text front longer next rest bytes r after p kind s bytes_is spelled_is whole is ends' fits longer_is' taken =
    let same : spelled p ≡ begun_of longer r = spelled_is ∙ bytes_is in
    let found = taken_some (fault_at r.grouping kind (spelled p)) (record { grouping = with_piece r.grouping kind (spelled p); mode = M.Between }) after (ap (with_piece_read r kind) same ∙ taken) in
    let whole' : s.begun ++ next ≡ spelled p ++ rest = whole ∙ ap (λ (b : List ℕ). b ++ rest) (sym spelled_is) in
    let piece = next_of text (s.begun ++ next) rest s.written r.grouping p kind s.tracks whole' is ends' fits found.0 in
    let result = scans_taken text front longer rest r p kind next s whole' is ends' fits found.0 piece (longer_is' ∙ ap (λ (b : List ℕ). text_of (pieces_of s.written) ++ b) (sym spelled_is)) in
    (subst (λ (x : Reader). Scans text longer x rest) found.1 result, ap (λ (x : Reader). x.mode) (sym found.1))

pub scans_read : (text front next : List ℕ) (r after : Reader) (byte : ℕ) → (s : Scans text front r (byte ∷ next)) → (read : Read) → Reads (s.begun ++ byte ∷ []) read
    → step r.mode s.begun (s.begun ++ byte ∷ []) byte ≡ S.Reads read → after_read (front ++ byte ∷ []) r read ≡ Some after → Scans text (front ++ byte ∷ []) after next
scans_read text front next r after byte s (R.Goes mode) reads stepped is =
    let more : s.begun ++ byte ∷ next ≡ (s.begun ++ byte ∷ []) ++ next = sym (append_assoc s.begun (byte ∷ []) next) in
    subst (λ (x : Reader). Scans text (front ++ byte ∷ []) x next) (same_some (record r { mode = mode }) after is)
    (record {
      written = s.written;
      begun = s.begun ++ byte ∷ [];
      tracks = subst (λ (n : List ℕ). Tracks text s.written r.grouping n) more s.tracks;
      mode = reads;
      run = runs_on M.Between r.mode mode [] s.begun (byte ∷ []) s.run (run_one r.mode mode s.begun byte stepped);
      front_is = longer_is front s.begun (text_of (pieces_of s.written)) byte s.front_is;
      cut = ap (are_cut (pieces_of s.written)) (sym more) ∙ s.cut;
      resume = s.resume;
    })
scans_read text front next r after byte s (R.Ends kind) reads stepped is =
    (taken_piece text front (front ++ byte ∷ []) (byte ∷ next) next (s.begun ++ byte ∷ []) r after reads.piece kind s (sym (longer_begun text front (byte ∷ next) r byte s)) reads.spelled_is
    (sym (append_assoc s.begun (byte ∷ []) next)) reads.is (never_ends reads.piece next reads.never) reads.fits
    (longer_is front s.begun (text_of (pieces_of s.written)) byte s.front_is) is).0
scans_read text front next r after byte s (R.Bad bad) reads stepped is = absurd (cc)

some_then : {A B : Type 0} (f : A → Option B) (o : Option A) (y : B) → option_and_then f o ≡ Some y → (x : A) × (o ≡ Some x) × (f x ≡ Some y)
some_then f None y is = absurd (cc)
some_then f (Some x) y is = (x, refl, is)

scans_after : (text front next : List ℕ) (r after : Reader) (byte : ℕ) → (s : Scans text front r (byte ∷ next)) → (step' : Step) → Steps s.begun (s.begun ++ byte ∷ []) byte step'
    → step r.mode s.begun (s.begun ++ byte ∷ []) byte ≡ step' → after_step front (front ++ byte ∷ []) byte r step' ≡ Some after → Scans text (front ++ byte ∷ []) after next
scans_after text front next r after byte s (S.Reads read) steps stepped is = scans_read text front next r after byte s read steps stepped is
scans_after text front next r after byte s (S.Breaks kind) steps stepped is =
    let found = some_then (λ broken. after_read (front ++ byte ∷ []) broken (first_step byte)) (with_piece_read r kind (begun_of front r)) after is in
    let taken = taken_piece text front front (byte ∷ next) (byte ∷ next) s.begun r found.0 steps.piece kind s (sym (begun_is text front (byte ∷ next) r s)) steps.spelled_is refl steps.is
    (ap not steps.stops) steps.fits s.front_is found.1 in
    let none : taken.0.begun ≡ [] = subst (λ (m : Mode). Begun m taken.0.begun) taken.1 taken.0.mode in
    scans_read text front next found.0 after byte taken.0 (first_step byte) (subst (λ (b : List ℕ). Reads (b ++ byte ∷ []) (first_step byte)) (sym none) (first_reads byte))
    (ap (λ (m : Mode). step m taken.0.begun (taken.0.begun ++ byte ∷ []) byte) taken.1) found.2

pub scans_byte : (text front next : List ℕ) (r after : Reader) (byte : ℕ) → Scans text front r (byte ∷ next) → after_byte front (front ++ byte ∷ []) byte r ≡ Some after
    → Scans text (front ++ byte ∷ []) after next
scans_byte text front next r after byte s is =
    let a = begun_is text front (byte ∷ next) r s in
    let b = longer_begun text front (byte ∷ next) r byte s in
    scans_after text front next r after byte s (step r.mode s.begun (s.begun ++ byte ∷ []) byte) (step_reads r.mode s.begun byte s.mode) refl
    (ap (λ (x : List ℕ). after_step front (front ++ byte ∷ []) byte r (step r.mode x (s.begun ++ byte ∷ []) byte)) (sym a)
    ∙ ap (λ (x : List ℕ). after_step front (front ++ byte ∷ []) byte r (step r.mode (begun_of front r) x byte)) (sym b) ∙ is)

pub scans_bytes : (text front bytes next : List ℕ) (r after : Reader) → Scans text front r (bytes ++ next) → after_bytes front r bytes ≡ Some after → Scans text (front ++ bytes) after next
scans_bytes text front [] next r after s is =
    subst (λ (x : Reader). Scans text (front ++ []) x next) (same_some r after is) (subst (λ (f : List ℕ). Scans text f r next) (sym (append-nil front)) s)
scans_bytes text front (byte ∷ bytes) next r after s is =
    let found = some_then (λ then'. after_bytes (front ++ byte ∷ []) then' bytes) (after_byte front (front ++ byte ∷ []) byte r) after is in
    subst (λ (f : List ℕ). Scans text f after next) (append_assoc front (byte ∷ []) bytes)
    (scans_bytes text (front ++ byte ∷ []) bytes next found.0 after (scans_byte text front (bytes ++ next) r found.0 byte s found.1) found.2)

pub tracks_start : (text : List ℕ) → Tracks text (last []) nothing_read text
tracks_start text = record {
  text_is = refl;
  at = refl;
  here = refl;
  from = refl;
  lines = refl;
  before = refl;
  comment_ends = λ all. absurd (cc);
  line = record { tokens = refl; opened = []; opened_is = refl; brackets = refl; indented = refl; blanks = refl; tab = λ all. refl; indent = λ has. absurd (cc); unopened = λ has. refl };
}

pub scans_start : (text : List ℕ) → Scans text [] at_start text
scans_start text = record { written = last []; begun = []; tracks = tracks_start text; mode = refl; run = refl; front_is = refl; cut = refl; resume = λ rest cut. refl }

-- what was read from the start
pub scans_front : (front next : List ℕ) (r : Reader) → after_bytes [] at_start front ≡ Some r → Scans (front ++ next) front r next
scans_front front next r is = scans_bytes (front ++ next) [] front next at_start r (scans_start (front ++ next)) is

mode_in_range : (mode : Mode) (bytes : List ℕ) → Begun mode bytes → IsInRange mode
mode_in_range M.Between bytes begun = tt
mode_in_range M.Word bytes begun = tt
mode_in_range (M.Number value) bytes begun = begun.2
mode_in_range M.Sign bytes begun = tt
mode_in_range M.Return bytes begun = tt
mode_in_range M.Comment bytes begun = tt
mode_in_range (M.OneQuote mark) bytes begun = tt
mode_in_range (M.TwoQuotes mark) bytes begun = tt
mode_in_range (M.Inside quote quotes) bytes begun = tt
mode_in_range (M.Escape quote) bytes begun = tt
mode_in_range (M.InsideReturn mark) bytes begun = tt

pub reads_ready : (front : List ℕ) (r : Reader) → after_bytes [] at_start front ≡ Some r → length front ≤ 262144 → IsReady (length front) r
reads_ready front r is short =
    let s = scans_front front [] r is in
    let whole = text_of (pieces_of s.written) in
    let parts : length front ≡ length whole + length s.begun = ap length s.front_is ∙ length-append whole s.begun in
    let line = line_bound whole in
    let col = col_bound whole in
    let at = s.tracks.at in
    let line_is = ap (λ (p : Pos). p.line) s.tracks.here in
    let col_is = ap (λ (p : Pos). p.col) s.tracks.here in
    record { begun = omega arith; mode = mode_in_range r.mode s.begun s.mode; short = short; line = omega arith; col = omega arith }

pub ready_at : (text : List ℕ) (at : ℕ) (r : Reader) → after_bytes [] at_start (take at text) ≡ Some r → at ≤ length text → length text ≤ 262144 → IsReady at r
ready_at text at r is within short =
    let count : length (take at text) ≡ at = simp length-take (omega arith) in
    subst (λ (n : ℕ). IsReady n r) count (reads_ready (take at text) r is (omega arith))
