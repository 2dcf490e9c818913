-- A line with one piece more.
use Rattle.std.proofs.Common.{◌≡◌, ℕ, suc, ◌+◌, Bool, true, false, ◌&&◌, ◌||◌, List, [], ◌∷◌, ◌++◌, length, Option, Some, None, option_map, option_and_then, refl, sym, ap, ◌∙◌, append_assoc, append-nil, add-zero, length-append, if◌then◌else◌, arith}
use Rattle.std.proofs.lemmas.Bool.{and_parts}
use Rattle.std.specs.List.{list_all, list_any}
use Rattle.py_lines.specs.declared.parts.Token.{Token}
use Rattle.py_lines.specs.Piece.{Piece, word, number, sign, literal, blank, comment, line_end, spelled, text_of}
use Rattle.py_lines.specs.Faults.{tab_in}
use Rattle.py_lines.specs.Written.{Open, after_piece, open_after, token_at, tokens_of, is_blank, is_tab, indentation}

pub text_of-append : (a b : List Piece) → text_of (a ++ b) ≡ text_of a ++ text_of b
text_of-append [] b = refl
text_of-append (p ∷ a) b = ap (λ (t : List ℕ). spelled p ++ t) (text_of-append a b) ∙ sym (append_assoc (spelled p) (text_of a) (text_of b))

pub text_of-one : (p : Piece) → text_of (p ∷ []) ≡ spelled p
text_of-one p = append-nil (spelled p)

pub text_of-snoc : (line : List Piece) (p : Piece) → text_of (line ++ p ∷ []) ≡ text_of line ++ spelled p
text_of-snoc line p = text_of-append line (p ∷ []) ∙ ap (λ (t : List ℕ). text_of line ++ t) (text_of-one p)

pub tokens_of-snoc : (text : List ℕ) (at : ℕ) (line : List Piece) (p : Piece)
    → tokens_of text at (line ++ p ∷ []) ≡ tokens_of text at line ++ token_at text (at + length (text_of line)) p
tokens_of-snoc text at [] p = append-nil (token_at text at p) ∙ ap (λ (n : ℕ). token_at text n p) (sym (add-zero at))
tokens_of-snoc text at (q ∷ line) p =
    let rest = tokens_of-snoc text (at + length (spelled q)) line p in
    let offset : (at + length (spelled q)) + length (text_of line) ≡ at + length (spelled q ++ text_of line) = simp length-append (omega arith) in
    ap (λ (t : List Token). token_at text at q ++ t) rest
    ∙ sym (append_assoc (token_at text at q) (tokens_of text (at + length (spelled q)) line) (token_at text ((at + length (spelled q)) + length (text_of line)) p))
    ∙ ap (λ (n : ℕ). (token_at text at q ++ tokens_of text (at + length (spelled q)) line) ++ token_at text n p) offset

open_next : (at : ℕ) (line : List Piece) (p : Piece) (o : Option (List Open))
    → ((opened : List Open) → open_after at opened (line ++ p ∷ []) ≡ option_and_then (λ now. after_piece (at + length (text_of line)) p now) (open_after at opened line))
    → option_and_then (λ now. open_after at now (line ++ p ∷ [])) o ≡ option_and_then (λ now. after_piece (at + length (text_of line)) p now) (option_and_then (λ now. open_after at now line) o)
open_next at line p None each = refl
open_next at line p (Some opened) each = each opened

and_then_some : (o : Option (List Open)) → option_and_then (λ now. Some now) o ≡ o
and_then_some None = refl
and_then_some (Some opened) = refl

pub open_after-snoc : (at : ℕ) (opened : List Open) (line : List Piece) (p : Piece)
    → open_after at opened (line ++ p ∷ []) ≡ option_and_then (λ now. after_piece (at + length (text_of line)) p now) (open_after at opened line)
open_after-snoc at opened [] p =
    and_then_some (after_piece at p opened) ∙ ap (λ (n : ℕ). after_piece n p opened) (sym (add-zero at))
open_after-snoc at opened (q ∷ line) p =
    let offset : (at + length (spelled q)) + length (text_of line) ≡ at + length (spelled q ++ text_of line) = simp length-append (omega arith) in
    open_next (at + length (spelled q)) line p (after_piece at q opened) (λ now. open_after-snoc (at + length (spelled q)) now line p)
    ∙ ap (λ (n : ℕ). option_and_then (λ now. after_piece n p now) (option_and_then (λ now. open_after (at + length (spelled q)) now line) (after_piece at q opened))) offset

pub list_all-snoc : (test : Piece → Bool) (line : List Piece) (p : Piece) → list_all test (line ++ p ∷ []) ≡ (list_all test line && test p)
list_all-snoc test [] p = grind arith
list_all-snoc test (q ∷ line) p = let rest = list_all-snoc test line p in grind (arith, rest)

pub list_any-snoc : (test : Piece → Bool) (line : List Piece) (p : Piece) → list_any test (line ++ p ∷ []) ≡ (list_any test line || test p)
list_any-snoc test [] p = grind arith
list_any-snoc test (q ∷ line) p = let rest = list_any-snoc test line p in grind (arith, rest)

-- ---- blanks at the front of a line

more_of : (here rest : Bool) (q : Piece) (a b : List Piece) → (here && rest) ≡ false → (rest ≡ false → a ≡ b)
    → (if here then q ∷ a else []) ≡ (if here then q ∷ b else [])
more_of true rest q a b all same = ap (λ (line : List Piece). q ∷ line) (same all)
more_of false rest q a b all same = refl

pub indentation-blank : (line : List Piece) → list_all is_blank line ≡ true → indentation line ≡ line
indentation-blank [] all = refl
indentation-blank (p ∷ line) all =
    let parts = and_parts (is_blank p) (list_all is_blank line) all in
    let here : is_blank p ≡ true = parts.0 in
    rw (here, indentation-blank line parts.1)

pub indentation-snoc_more : (line : List Piece) (p : Piece) → list_all is_blank line ≡ false → indentation (line ++ p ∷ []) ≡ indentation line
indentation-snoc_more [] p all = cc
indentation-snoc_more (q ∷ line) p all =
    more_of (is_blank q) (list_all is_blank line) q (indentation (line ++ p ∷ [])) (indentation line) all (indentation-snoc_more line p)

pub indentation-snoc_end : (line : List Piece) (p : Piece) → list_all is_blank line ≡ true → is_blank p ≡ false → indentation (line ++ p ∷ []) ≡ line
indentation-snoc_end [] p all ends = rw ends
indentation-snoc_end (q ∷ line) p all ends =
    let parts = and_parts (is_blank q) (list_all is_blank line) all in
    let here : is_blank q ≡ true = parts.0 in
    rw (here, indentation-snoc_end line p parts.1 ends)

pub length-blank : (line : List Piece) → list_all is_blank line ≡ true → length (text_of line) ≡ length line
length-blank [] all = refl
length-blank (word name ∷ line) all = cc
length-blank (number digits ∷ line) all = cc
length-blank (sign bytes ∷ line) all = cc
length-blank (literal mark triple items ∷ line) all = cc
length-blank (blank byte ∷ line) all = let rest = length-blank line all in grind (arith, rest)
length-blank (comment bytes ∷ line) all = cc
length-blank (line_end return ∷ line) all = cc

tab_more : (here rest there : Bool) (n : ℕ) (a b : Option ℕ) → a ≡ (if rest then b else (if there then Some n else None))
    → (if here then Some 0 else option_map suc a) ≡ (if here || rest then (if here then Some 0 else option_map suc b) else (if there then Some (suc n) else None))
tab_more true rest there n a b same = refl
tab_more false true there n a b same = ap (option_map suc) same
tab_more false false true n a b same = ap (option_map suc) same
tab_more false false false n a b same = ap (option_map suc) same

tab_one : (there : Bool) → (if there then Some 0 else option_map suc None) ≡ (if there then Some 0 else None)
tab_one true = refl
tab_one false = refl

pub tab_in-snoc : (line : List Piece) (p : Piece) → tab_in (line ++ p ∷ [])
    ≡ (if list_any is_tab line then tab_in line else (if is_tab p then Some (length line) else None))
tab_in-snoc [] p = tab_one (is_tab p)
tab_in-snoc (q ∷ line) p = tab_more (is_tab q) (list_any is_tab line) (is_tab p) (length line) (tab_in (line ++ p ∷ [])) (tab_in line) (tab_in-snoc line p)
