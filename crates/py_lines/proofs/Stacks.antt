-- The brackets of a line, seen from the innermost or from the outermost.
use Rattle.std.proofs.Common.{◌≡◌, List, [], ◌∷◌, ◌++◌, reverse, Some, option_map, slice_get, refl, sym, ap, ◌∙◌}
use Rattle.std.proofs.lemmas.List.{reverse-append}
use Rattle.py_lines.specs.declared.brackets.Bracket.{Bracket}
use Rattle.py_lines.specs.Bracketing.{first_open}

first_open-append : (inner : List Bracket) (outer : Bracket) → first_open (inner ++ outer ∷ []) ≡ Some outer.at
first_open-append [] outer = refl
first_open-append (a ∷ []) outer = refl
first_open-append (a ∷ b ∷ inner) outer = first_open-append (b ∷ inner) outer

pub first_open-reverse : (opened : List Bracket) → first_open (reverse opened) ≡ option_map (λ bracket. bracket.at) (slice_get opened 0)
first_open-reverse [] = refl
first_open-reverse (outer ∷ opened) = ap first_open (reverse-append (outer ∷ []) opened) ∙ first_open-append (reverse opened) outer

pub first_is : (opened seen kept : List Bracket) (bracket : Bracket) → seen ≡ reverse opened → kept ≡ opened → Some bracket ≡ slice_get kept 0 → Some bracket.at ≡ first_open seen
first_is opened seen kept bracket seen_is kept_is first =
    ap (option_map (λ (one : Bracket). one.at)) (first ∙ ap (λ (list : List Bracket). slice_get list 0) kept_is) ∙ sym (first_open-reverse opened) ∙ sym (ap first_open seen_is)
