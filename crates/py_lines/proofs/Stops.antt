-- Where a piece begins and its bytes lead to no end, no piece stands.
use Rattle.std.proofs.Common.{◌≡◌, ⊎_elim, ℕ, Bool, true, false, not, List, [], ◌∷◌, ◌++◌, Option, Some, None, option_and_then, refl, sym, ap, ◌∙◌, append_assoc, append-nil}
use Rattle.py_lines.specs.declared.mode.Mode.{Mode}
use Rattle.py_lines.specs.declared.mode.Mode.TheVariants as M
use Rattle.py_lines.specs.declared.mode.Read.TheVariants as R
use Rattle.py_lines.specs.declared.mode.Step.{Step}
use Rattle.py_lines.specs.declared.mode.Step.TheVariants as S
use Rattle.py_lines.specs.declared.mode.End.{End}
use Rattle.py_lines.specs.declared.mode.End.TheVariants as E
use Rattle.py_lines.specs.Piece.{Piece, spelled, is_piece, goes_on, ends}
use Rattle.py_lines.specs.Stepping.{step, end}
use Rattle.py_lines.proofs.Accepting.{mode_behind, runs, EndsIn, BreaksIn, Accepted, accepted}

-- the end of the text is the end of a piece
abbrev pub is_last : End → Bool
is_last (E.Last kind) = true
is_last E.Whole = false
is_last (E.Bad bad) = false
is_last E.Open = false

abbrev pub ends_well : Step → (Mode → Bool) → Bool
ends_well (S.Reads (R.Goes mode)) more = more mode
ends_well (S.Reads (R.Ends kind)) more = true
ends_well (S.Reads (R.Bad bad)) more = false
ends_well (S.Breaks kind) more = true

-- the bytes lead to the end of the piece that is begun
abbrev pub stops_well : Mode → List ℕ → List ℕ → Bool
stops_well mode begun [] = is_last (end mode begun)
stops_well mode begun (byte ∷ bytes) = ends_well (step mode begun (begun ++ byte ∷ []) byte) (λ next. stops_well next (begun ++ byte ∷ []) bytes)

some_then : {A B : Type 0} (f : A → Option B) (o : Option A) (y : B) → option_and_then f o ≡ Some y → (x : A) × (o ≡ Some x) × (f x ≡ Some y)
some_then f None y is = absurd (cc)
some_then f (Some x) y is = (x, refl, is)

same_some : (x y : Mode) → Some x ≡ Some y → x ≡ y
same_some x y is = cc

goes_on_well : (s : Step) (mode : Mode) (more : Mode → Bool) → mode_behind s ≡ Some mode → ends_well s more ≡ more mode
goes_on_well (S.Reads (R.Goes next)) mode more is = ap more (same_some next mode is)
goes_on_well (S.Reads (R.Ends kind)) mode more is = absurd (cc)
goes_on_well (S.Reads (R.Bad bad)) mode more is = absurd (cc)
goes_on_well (S.Breaks kind) mode more is = absurd (cc)

stops_behind : (mode last : Mode) (begun a b : List ℕ) → runs mode begun a ≡ Some last → stops_well mode begun (a ++ b) ≡ stops_well last (begun ++ a) b
stops_behind mode last begun [] b is = ap (λ (m : Mode). stops_well m begun b) (same_some mode last is) ∙ ap (λ (x : List ℕ). stops_well last x b) (sym (append-nil begun))
stops_behind mode last begun (byte ∷ a) b is =
    let found = some_then (λ next. runs next (begun ++ byte ∷ []) a) (mode_behind (step mode begun (begun ++ byte ∷ []) byte)) last is in
    goes_on_well (step mode begun (begun ++ byte ∷ []) byte) found.0 (λ next. stops_well next (begun ++ byte ∷ []) (a ++ b)) found.1
    ∙ stops_behind found.0 last (begun ++ byte ∷ []) a b found.2 ∙ ap (λ (x : List ℕ). stops_well last x b) (append_assoc begun (byte ∷ []) a)

piece_stops : (p : Piece) (rest : List ℕ) → Accepted p → ends p rest ≡ true → stops_well M.Between [] (spelled p ++ rest) ≡ true
piece_stops p rest a ends' = ⊎_elim ended broken a.how
  where
    ended : EndsIn (spelled p) a.kind → stops_well M.Between [] (spelled p ++ rest) ≡ true
    ended e =
        ap (λ (x : List ℕ). stops_well M.Between [] (x ++ rest)) e.bytes_are ∙ ap (stops_well M.Between []) (append_assoc e.front (e.byte ∷ []) rest)
        ∙ stops_behind M.Between e.mode [] e.front (e.byte ∷ rest) e.run ∙ ap (λ (s : Step). ends_well s (λ next. stops_well next (e.front ++ e.byte ∷ []) rest)) e.ends

    from_not : (b : Bool) → not b ≡ true → b ≡ false
    from_not true is = cc
    from_not false is = refl

    broken_at : (b : BreaksIn p a.kind) (rest' : List ℕ) → ends p rest' ≡ true → stops_well b.mode (spelled p) rest' ≡ true
    broken_at b [] is = ap is_last b.last
    broken_at b (byte ∷ rest') is = ap (λ (s : Step). ends_well s (λ next. stops_well next (spelled p ++ byte ∷ []) rest')) (b.breaks byte (from_not (goes_on p byte) is))

    broken : BreaksIn p a.kind → stops_well M.Between [] (spelled p ++ rest) ≡ true
    broken b = stops_behind M.Between b.mode [] (spelled p) rest b.run ∙ broken_at b rest ends'

pub no_piece : (begun rest : List ℕ) (mode : Mode) → runs M.Between [] begun ≡ Some mode → stops_well mode begun rest ≡ false
    → (p : Piece) (after : List ℕ) → is_piece p ≡ true → ends p after ≡ true → begun ++ rest ≡ spelled p ++ after → ⊥
no_piece begun rest mode run stops p after is ends' same =
    let a = piece_stops p after (accepted p is) ends' in
    let b = ap (stops_well M.Between []) (sym same) ∙ stops_behind M.Between mode [] begun rest run ∙ stops in
    cc (a, b)
