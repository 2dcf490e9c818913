-- A text has at most one first fault.
use Rattle.std.proofs.Common.{◌≡◌, ◌⊎◌, ℕ, suc, ◌+◌, Bool, true, false, ◌&&◌, List, [], ◌∷◌, ◌++◌, length, Option, Some, None, option_and_then, option_map, ⊎_elim, inl, inr, refl, sym, ap, ◌∙◌, subst, append_assoc, append-nil, if◌then◌else◌}
use Rattle.std.specs.List.{list_all}
use Rattle.std.specs.Option.{option_map_or}
use Rattle.std.proofs.lemmas.Bool.{and_parts}
use Rattle.py_lines.specs.Piece.{Piece, line_end, spelled, line_end_text, text_of}
use Rattle.py_lines.specs.Written.{Written, last, more, pieces_of, Open, after_piece, open_after, is_blank, is_tab, is_line, is_indented, is_closed, behind_line}
use Rattle.py_lines.specs.Logical.{HasLines, IsWritten}
use Rattle.py_lines.specs.Place.{place}
use Rattle.py_lines.specs.declared.parts.Line.{Line}
use Rattle.prov_base.specs.declared.place.Pos.{Pos}
use Rattle.py_lines.specs.Faults.{IsFaulty, HasNoLines, IsFront, IsBadToken, IsLeftOpen, IsBadTokenPlace, IsLeftOpenPlace, ShowsFault, may_rest, last_line, last_from, are_lines_before, open_at_end, tab_in, first_tab, bad_at, bad_piece_at, first_open}
use Rattle.py_lines.proofs.OneCut.{Alike, AllAlike, one_cut, blank_alike, tab_alike, opens_alike}

-- ---- lists of pieces that are alike

all_blank : (ps qs : List Piece) → AllAlike ps qs → list_all is_blank ps ≡ list_all is_blank qs
all_blank [] [] alike = refl
all_blank [] (q ∷ qs) alike = absurd alike
all_blank (p ∷ ps) [] alike = absurd alike
all_blank (p ∷ ps) (q ∷ qs) alike = ap (λ (b : Bool). b && list_all is_blank ps) (blank_alike p q alike.0) ∙ ap (λ (b : Bool). is_blank q && b) (all_blank ps qs alike.1)

tabs : (ps qs : List Piece) → AllAlike ps qs → tab_in ps ≡ tab_in qs
tabs [] [] alike = refl
tabs [] (q ∷ qs) alike = absurd alike
tabs (p ∷ ps) [] alike = absurd alike
tabs (p ∷ ps) (q ∷ qs) alike =
    ap (λ (b : Bool). if b then Some 0 else option_map suc (tab_in ps)) (tab_alike p q alike.0) ∙ ap (λ (o : Option ℕ). if is_tab q then Some 0 else option_map suc o) (tabs ps qs alike.1)

tab_first : (ps qs : List Piece) → AllAlike ps qs → first_tab ps ≡ first_tab qs
tab_first ps qs alike = ap (λ (b : Bool). if b then tab_in ps else None) (all_blank ps qs alike) ∙ ap (λ (o : Option ℕ). if list_all is_blank qs then o else None) (tabs ps qs alike)

texts : (ps qs : List Piece) → AllAlike ps qs → text_of ps ≡ text_of qs
texts [] [] alike = refl
texts [] (q ∷ qs) alike = absurd alike
texts (p ∷ ps) [] alike = absurd alike
texts (p ∷ ps) (q ∷ qs) alike = ap (λ (x : List ℕ). x ++ text_of ps) alike.0.spelled_is ∙ ap (λ (x : List ℕ). spelled q ++ x) (texts ps qs alike.1)

opened_next : (at : ℕ) (ps qs : List Piece) (o : Option (List Open)) → ((now : List Open) → open_after at now ps ≡ open_after at now qs)
    → option_and_then (λ now. open_after at now ps) o ≡ option_and_then (λ now. open_after at now qs) o
opened_next at ps qs None each = refl
opened_next at ps qs (Some now) each = each now

opened : (at : ℕ) (now : List Open) (ps qs : List Piece) → AllAlike ps qs → open_after at now ps ≡ open_after at now qs
opened at now [] [] alike = refl
opened at now [] (q ∷ qs) alike = absurd alike
opened at now (p ∷ ps) [] alike = absurd alike
opened at now (p ∷ ps) (q ∷ qs) alike =
    ap (option_and_then (λ then'. open_after (at + length (spelled p)) then' ps)) (opens_alike p q alike.0 at now)
    ∙ ap (λ (x : List ℕ). option_and_then (λ then'. open_after (at + length x) then' ps) (after_piece at q now)) alike.0.spelled_is
    ∙ opened_next (at + length (spelled q)) ps qs (after_piece at q now) (λ now'. opened (at + length (spelled q)) now' ps qs alike.1)

flip : (p q : Piece) → Alike p q → Alike q p
flip p q a = record { spelled_is = sym a.spelled_is; kind = a.kind; first = a.second; second = a.first }

flip_all : (ps qs : List Piece) → AllAlike ps qs → AllAlike qs ps
flip_all [] [] alike = alike
flip_all [] (q ∷ qs) alike = absurd alike
flip_all (p ∷ ps) [] alike = absurd alike
flip_all (p ∷ ps) (q ∷ qs) alike = (flip p q alike.0, flip_all ps qs alike.1)

-- ---- where lines end

-- the line end stands outside brackets, so a line does not go on behind it
no_further : (at : ℕ) (p : Piece) (r : Bool) (ps : List Piece) (end : List Open) → Alike p (line_end r) → open_after at [] (p ∷ ps) ≡ Some end → ⊥
no_further at p r ps end alike is =
    let none : open_after at [] (p ∷ ps) ≡ None = ap (option_and_then (λ now. open_after (at + length (spelled p)) now ps)) (opens_alike p (line_end r) alike at []) in cc (none, is)

some_next : (at : ℕ) (ps : List Piece) (o : Option (List Open)) (end : List Open) → option_and_then (λ now. open_after at now ps) o ≡ Some end → (now : List Open) × (o ≡ Some now) × (open_after at now ps ≡ Some end)
some_next at ps None end is = absurd (cc)
some_next at ps (Some now) end is = (now, refl, is)

-- lines whose brackets are closed, each with its line end, are parted at the same place
parted : (at : ℕ) (now : List Open) (l m a b : List Piece) (r s : Bool) → AllAlike (l ++ line_end r ∷ a) (m ++ line_end s ∷ b)
    → open_after at now l ≡ Some [] → open_after at now m ≡ Some [] → AllAlike l m × AllAlike (line_end r ∷ a) (line_end s ∷ b)
parted at now [] [] a b r s alike first second = (tt, alike)
parted at now [] (q ∷ m) a b r s alike first second =
    let none : now ≡ [] = same_some now [] first in
    absurd (no_further at q r m [] (flip (line_end r) q alike.0) (ap (λ (n : List Open). open_after at n (q ∷ m)) (sym none) ∙ second))
  where
    same_some : (x y : List Open) → Some x ≡ Some y → x ≡ y
    same_some x y same = cc
parted at now (p ∷ l) [] a b r s alike first second =
    let none : now ≡ [] = same_some now [] second in
    absurd (no_further at p s l [] alike.0 (ap (λ (n : List Open). open_after at n (p ∷ l)) (sym none) ∙ first))
  where
    same_some : (x y : List Open) → Some x ≡ Some y → x ≡ y
    same_some x y same = cc
parted at now (p ∷ l) (q ∷ m) a b r s alike first second =
    let x = some_next (at + length (spelled p)) l (after_piece at p now) [] first in
    let y = some_next (at + length (spelled q)) m (after_piece at q now) [] second in
    let same = same_some x.0 y.0 (sym x.1 ∙ opens_alike p q alike.0 at now ∙ y.1) in
    let moved : open_after (at + length (spelled p)) x.0 m ≡ Some [] =
    ap (λ (bytes : List ℕ). open_after (at + length bytes) x.0 m) alike.0.spelled_is ∙ ap (λ (n : List Open). open_after (at + length (spelled q)) n m) same ∙ y.2 in
    let rest = parted (at + length (spelled p)) x.0 l m a b r s alike.1 x.2 moved in
    ((alike.0, rest.0), rest.1)
  where
    same_some : (x y : List Open) → Some x ≡ Some y → x ≡ y
    same_some x y same = cc

-- one that is not ended and one that is are not alike
not_ended : (at : ℕ) (now : List Open) (l m b : List Piece) (s : Bool) (end : List Open) → AllAlike l (m ++ line_end s ∷ b) → open_after at now l ≡ Some end → open_after at now m ≡ Some [] → ⊥
not_ended at now [] [] b s end alike first second = alike
not_ended at now [] (q ∷ m) b s end alike first second = alike
not_ended at now (p ∷ l) [] b s end alike first second =
    no_further at p s l end alike.0 (ap (λ (n : List Open). open_after at n (p ∷ l)) (sym (same_some now [] second)) ∙ first)
  where
    same_some : (x y : List Open) → Some x ≡ Some y → x ≡ y
    same_some x y same = cc
not_ended at now (p ∷ l) (q ∷ m) b s end alike first second =
    let x = some_next (at + length (spelled p)) l (after_piece at p now) end first in
    let y = some_next (at + length (spelled q)) m (after_piece at q now) [] second in
    let same = same_some x.0 y.0 (sym x.1 ∙ opens_alike p q alike.0 at now ∙ y.1) in
    let moved : open_after (at + length (spelled p)) x.0 m ≡ Some [] =
    ap (λ (bytes : List ℕ). open_after (at + length bytes) x.0 m) alike.0.spelled_is ∙ ap (λ (n : List Open). open_after (at + length (spelled q)) n m) same ∙ y.2 in
    not_ended (at + length (spelled p)) x.0 l m b s end alike.1 x.2 moved
  where
    same_some : (x y : List Open) → Some x ≡ Some y → x ≡ y
    same_some x y same = cc

closed_is : (o : Option (List Open)) → is_closed o ≡ true → o ≡ Some []
closed_is (Some []) is = refl
closed_is (Some (inner ∷ opened')) is = absurd (cc)
closed_is None is = absurd (cc)

line_closed : (at : ℕ) (line : List Piece) → is_line at line ≡ true → open_after at [] line ≡ Some []
line_closed at line is = closed_is (open_after at [] line) (and_parts (is_indented line) (is_closed (open_after at [] line)) is).1

pub record SameEnd (at : ℕ) (w u : Written) : Type 0 where
  pub from_is : last_from at w ≡ last_from at u
  pub line_is : AllAlike (last_line w) (last_line u)

same_end : (at : ℕ) (w u : Written) (x y : List Open) → AllAlike (pieces_of w) (pieces_of u) → are_lines_before at w ≡ true → open_after (last_from at w) [] (last_line w) ≡ Some x
    → are_lines_before at u ≡ true → open_after (last_from at u) [] (last_line u) ≡ Some y → SameEnd at w u
same_end at (last l) (last m) x y alike are there are' there' = record { from_is = refl; line_is = alike }
same_end at (last l) (more m s b) x y alike are there are' there' =
    absurd (not_ended at [] l m (pieces_of b) s x alike there (line_closed at m (and_parts (is_line at m) (are_lines_before (behind_line at m s) b) are').0))
same_end at (more l r a) (last m) x y alike are there are' there' =
    absurd (not_ended at [] m l (pieces_of a) r y (flip_all (l ++ line_end r ∷ pieces_of a) m alike) there' (line_closed at l (and_parts (is_line at l) (are_lines_before (behind_line at l r) a) are).0))
same_end at (more l r a) (more m s b) x y alike are there are' there' =
    let p = and_parts (is_line at l) (are_lines_before (behind_line at l r) a) are in
    let q = and_parts (is_line at m) (are_lines_before (behind_line at m s) b) are' in
    let both = parted at [] l m (pieces_of a) (pieces_of b) r s alike (line_closed at l p.0) (line_closed at m q.0) in
    let behind : behind_line at m s ≡ behind_line at l r =
    ap (λ (bytes : List ℕ). at + length bytes + length (line_end_text s)) (sym (texts l m both.0)) ∙ ap (λ (bytes : List ℕ). at + length (text_of l) + length bytes) (sym both.1.0.spelled_is) in
    let later = same_end (behind_line at l r) a b x y both.1.1 p.1 there
    (ap (λ (n : ℕ). are_lines_before n b) (sym behind) ∙ q.1) (ap (λ (n : ℕ). open_after (last_from n b) [] (last_line b)) (sym behind) ∙ there') in
    record { from_is = later.from_is ∙ ap (λ (n : ℕ). last_from n b) (sym behind); line_is = later.line_is }

-- ---- one front

opened_parts : (w : Written) (x : List Open) → open_at_end w ≡ Some x → (are_lines_before 0 w ≡ true) × (open_after (last_from 0 w) [] (last_line w) ≡ Some x)
opened_parts w x is = by (are_lines_before 0 w) (is_indented (last_line w)) refl refl is
  where
    by : (a b : Bool) → are_lines_before 0 w ≡ a → is_indented (last_line w) ≡ b → (if a && b then open_after (last_from 0 w) [] (last_line w) else None) ≡ Some x
        → (are_lines_before 0 w ≡ true) × (open_after (last_from 0 w) [] (last_line w) ≡ Some x)
    by true true first second is' = (first, is')
    by true false first second is' = absurd (cc)
    by false true first second is' = absurd (cc)
    by false false first second is' = absurd (cc)

pub record OneFront (w u : Written) (begun begun' : List ℕ) (x y : List Open) : Type 0 where
  pub begun_is : begun ≡ begun'
  pub text_is : text_of (pieces_of w) ≡ text_of (pieces_of u)
  pub end_is : SameEnd 0 w u
  pub opened_is : x ≡ y

pub one_front : (front : List ℕ) (w u : Written) (begun begun' rest : List ℕ) (x y : List Open) → IsFront front w begun rest x → IsFront front u begun' rest y → OneFront w u begun begun' x y
one_front front w u begun begun' rest x y a b =
    let cut = one_cut rest (pieces_of w) (pieces_of u) begun begun' (sym a.front_is ∙ b.front_is) a.cut b.cut a.unfinished b.unfinished in
    let first = opened_parts w x a.opened_is in
    let second = opened_parts u y b.opened_is in
    let end = same_end 0 w u x y cut.0 first.0 first.1 second.0 second.1 in
    record {
      begun_is = cut.1;
      text_is = texts (pieces_of w) (pieces_of u) cut.0;
      end_is = end;
      opened_is = same_some x y (sym first.1 ∙ ap (λ (n : ℕ). open_after n [] (last_line w)) end.from_is ∙ opened (last_from 0 u) [] (last_line w) (last_line u) end.line_is ∙ second.1);
    }
  where
    same_some : (x y : List Open) → Some x ≡ Some y → x ≡ y
    same_some x y same = cc

-- ---- one fault

bad_alike : (w u : Written) (begun begun' rest : List ℕ) (x y : List Open) → OneFront w u begun begun' x y → bad_at w begun rest ≡ bad_at u begun' rest
bad_alike w u begun begun' rest x y one =
    ap (λ (b : List ℕ). bad_at w b rest) one.begun_is
    ∙ ap (λ (n : ℕ). option_map_or (λ tab. n + tab) (first_tab (last_line w)) (bad_piece_at (length (text_of (pieces_of w))) begun' rest)) one.end_is.from_is
    ∙ ap (λ (o : Option ℕ). option_map_or (λ tab. last_from 0 u + tab) o (bad_piece_at (length (text_of (pieces_of w))) begun' rest)) (tab_first (last_line w) (last_line u) one.end_is.line_is)
    ∙ ap (λ (bytes : List ℕ). option_map_or (λ tab. last_from 0 u + tab) (first_tab (last_line u)) (bad_piece_at (length bytes) begun' rest)) one.text_is

-- a front is another one, or ends before or behind it
pub record Longer (front rest front' rest' : List ℕ) : Type 0 where
  pub byte : ℕ
  pub bytes : List ℕ
  pub front_is : front' ≡ front ++ byte ∷ bytes
  pub rest_is : rest ≡ byte ∷ (bytes ++ rest')

fronts : (f r g s : List ℕ) → f ++ r ≡ g ++ s → ((f ≡ g) × (r ≡ s)) ⊎ (Longer f r g s ⊎ Longer g s f r)
fronts [] r [] s same = inl (refl, same)
fronts [] r (y ∷ g) s same = inr (inl (record { byte = y; bytes = g; front_is = refl; rest_is = same }))
fronts (x ∷ f) r [] s same = inr (inr (record { byte = x; bytes = f; front_is = refl; rest_is = sym same }))
fronts (x ∷ f) r (y ∷ g) s same =
    let head : x ≡ y = cc in
    let tail : f ++ r ≡ g ++ s = cc in
    ⊎_elim
    (λ both. inl (cc (head, both.0), both.1))
    (λ other. inr (⊎_elim
    (λ l. inl (record { byte = l.byte; bytes = l.bytes; front_is = cc (head, l.front_is); rest_is = l.rest_is }))
    (λ l. inr (record { byte = l.byte; bytes = l.bytes; front_is = cc (head, l.front_is); rest_is = l.rest_is })) other))
    (fronts f r g s tail)

-- what a faulty front begins is faulty
faulty_longer : (front bytes : List ℕ) (byte : ℕ) → IsFaulty (front ++ byte ∷ []) → IsFaulty (front ++ byte ∷ bytes)
faulty_longer front bytes byte faulty rest written is =
    let same : (front ++ byte ∷ bytes) ++ rest ≡ (front ++ byte ∷ []) ++ (bytes ++ rest) = append_assoc front (byte ∷ bytes) rest ∙ sym (append_assoc front (byte ∷ []) (bytes ++ rest)) in
    faulty (bytes ++ rest) written (subst (λ (t : List ℕ). IsWritten t written) same is)

shown_at : (front begun rest : List ℕ) (byte : ℕ) (bytes : List ℕ) → rest ≡ byte ∷ bytes → ShowsFault front begun rest → IsFaulty (front ++ byte ∷ [])
shown_at front begun rest byte bytes is shows = subst (ShowsFault front begun) is shows

no_longer : (text : List ℕ) (at at' : ℕ) (a : IsBadToken text at) (b : IsBadToken text at') → Longer a.front a.rest b.front b.rest → ⊥
no_longer text at at' a b l =
    b.not_faulty (subst IsFaulty (sym l.front_is) (faulty_longer a.front l.bytes l.byte (shown_at a.front a.begun a.rest l.byte (l.bytes ++ b.rest) l.rest_is a.shown)))

pub one_bad_token : (text : List ℕ) (at at' : ℕ) → IsBadToken text at → IsBadToken text at' → at ≡ at'
one_bad_token text at at' a b =
    ⊎_elim
    (λ both. a.at_is ∙ bad_alike a.written b.written a.begun b.begun a.rest a.opened b.opened
    (one_front a.front a.written b.written a.begun b.begun a.rest a.opened b.opened a.is_front (moved both.0 both.1))
    ∙ ap (bad_at b.written b.begun) both.1 ∙ sym b.at_is)
    (λ other. absurd (⊎_elim (no_longer text at at' a b) (no_longer text at' at b a) other))
    (fronts a.front a.rest b.front b.rest (sym a.text_is ∙ b.text_is))
  where
    moved : a.front ≡ b.front → a.rest ≡ b.rest → IsFront a.front b.written b.begun a.rest b.opened
    moved front_is rest_is = subst (λ (f : List ℕ). IsFront f b.written b.begun a.rest b.opened) (sym front_is) (subst (λ (r : List ℕ). IsFront b.front b.written b.begun r b.opened) (sym rest_is) b.is_front)

pub one_left_open : (text : List ℕ) (at at' : ℕ) → IsLeftOpen text at → IsLeftOpen text at' → at ≡ at'
one_left_open text at at' a b =
    let one = one_front text a.written b.written a.begun b.begun [] a.opened b.opened a.is_front b.is_front in
    a.at_is ∙ ap (λ (bytes : List ℕ). first_open (length bytes) a.opened) one.text_is ∙ ap (first_open (length (text_of (pieces_of b.written)))) one.opened_is ∙ sym b.at_is

-- a text that has a bad token is not left open
pub one_kind : (text : List ℕ) (at at' : ℕ) → IsBadToken text at → IsLeftOpen text at' → ⊥
one_kind text at at' a b = by a.rest refl
  where
    by : (rest : List ℕ) → a.rest ≡ rest → ⊥
    by (byte ∷ rest) is =
        b.not_faulty (subst IsFaulty (sym (a.text_is ∙ ap (λ (r : List ℕ). a.front ++ r) is)) (faulty_longer a.front rest byte (shown_at a.front a.begun a.rest byte rest is a.shown)))
    by [] is =
        let whole : text ≡ a.front = a.text_is ∙ ap (λ (r : List ℕ). a.front ++ r) is ∙ append-nil a.front in
        let first : IsFront text a.written a.begun [] a.opened =
        subst (λ (r : List ℕ). IsFront text a.written a.begun r a.opened) is (subst (λ (f : List ℕ). IsFront f a.written a.begun a.rest a.opened) (sym whole) a.is_front) in
        let one = one_front text a.written b.written a.begun b.begun [] a.opened b.opened first b.is_front in
        let shown : ShowsFault a.front a.begun [] = subst (ShowsFault a.front a.begun) is a.shown in
        cc (shown.0, ap may_rest one.begun_is, b.rests)

-- a text with a bad token has no lines
pub bad_no_lines : (text : List ℕ) (at : ℕ) → IsBadToken text at → HasNoLines text
bad_no_lines text at a written is = by a.rest refl
  where
    by : (rest : List ℕ) → a.rest ≡ rest → ⊥
    by (byte ∷ rest) rest_is =
        faulty_longer a.front rest byte (shown_at a.front a.begun a.rest byte rest rest_is a.shown) [] written
        (subst (λ (t : List ℕ). IsWritten t written) (a.text_is ∙ ap (λ (r : List ℕ). a.front ++ r) rest_is ∙ sym (append-nil (a.front ++ byte ∷ rest))) is)
    by [] rest_is =
        let shown : ShowsFault a.front a.begun [] = subst (ShowsFault a.front a.begun) rest_is a.shown in
        shown.1 written (subst (λ (t : List ℕ). IsWritten t written) (a.text_is ∙ ap (λ (r : List ℕ). a.front ++ r) rest_is ∙ append-nil a.front) is)

-- ---- by the place in the text

pub one_bad_place : (text : List ℕ) (a b : Pos) → IsBadTokenPlace text a → IsBadTokenPlace text b → a ≡ b
one_bad_place text a b x y = x.shown_is ∙ ap (place text) (one_bad_token text x.at y.at x.is y.is) ∙ sym y.shown_is

pub one_open_place : (text : List ℕ) (a b : Pos) → IsLeftOpenPlace text a → IsLeftOpenPlace text b → a ≡ b
one_open_place text a b x y = x.shown_is ∙ ap (place text) (one_left_open text x.at y.at x.is y.is) ∙ sym y.shown_is

pub one_place : (text : List ℕ) (a b : Pos) → IsBadTokenPlace text a → IsLeftOpenPlace text b → ⊥
one_place text a b x y = one_kind text x.at y.at x.is y.is

pub fault_no_lines : (text : List ℕ) (lines : List Line) (at : Pos) → HasLines text lines → IsBadTokenPlace text at ⊎ IsLeftOpenPlace text at → ⊥
fault_no_lines text lines at has fault =
    ⊎_elim (λ x. bad_no_lines text x.at x.is has.written has.is_written) (λ x. x.is.no_lines has.written has.is_written) fault
