-- Worked rows of the definitions, each found by computation.
use Rattle.std.proofs.Common.{◌≡◌, true, false, [], ◌∷◌, ◌++◌, length, codes, Some, refl, pos}
use Rattle.py_lines.specs.declared.parts.TokenKind.TheVariants.{Word, Keyword, Number, Text, Sign}
use Rattle.py_lines.specs.Piece.{Piece, word, number, sign, literal, blank, comment, line_end, plain, escape, break, keywords, signs, is_piece, ends, spelled, text_of, are_cut}
use Rattle.py_lines.specs.Written.{Written, last, more, pieces_of, are_lines, lines_of, kind_of}

k35 : length keywords ≡ 35
k35 = refl

s50 : length signs ≡ 50
s50 = refl

-- `x = 1` with LF, and an empty last line
assign : Written
assign = more (word (codes "x") ∷ blank 32 ∷ sign (codes "=") ∷ blank 32 ∷ number (codes "1") ∷ []) false (last [])

assign_text : text_of (pieces_of assign) ≡ codes "x = 1" ++ 10 ∷ []
unfolding assign
assign_text = refl

assign_cut : are_cut (pieces_of assign) [] ≡ true
unfolding assign
assign_cut = refl

assign_lines : are_lines 0 assign ≡ true
unfolding assign
assign_lines = refl

assign_shown : lines_of (text_of (pieces_of assign)) 0 assign ≡
    record {
      indent = 0;
      span = record { from = 0; to = 5 };
      tokens =
          record { at = record { line = 1; col = 1 }; span = record { from = 0; to = 1 }; kind = Word (codes "x") }
          ∷ record { at = record { line = 1; col = 3 }; span = record { from = 2; to = 3 }; kind = Sign 9 }
          ∷ record { at = record { line = 1; col = 5 }; span = record { from = 4; to = 5 }; kind = Number (pos 1) } ∷ [];
    } ∷ []
unfolding assign
assign_shown = refl

-- a comment, CR LF, a blank line with a tab, and an indented line that goes on inside its bracket to the end of the text
block : Written
block =
    more (word (codes "if") ∷ blank 32 ∷ word (codes "x") ∷ sign (codes ":") ∷ blank 32 ∷ comment (codes " c") ∷ []) true
    (more (blank 9 ∷ []) false
    (last (blank 32 ∷ word (codes "y") ∷ sign (codes "(") ∷ comment [] ∷ line_end true ∷ blank 9 ∷ literal 39 false (escape 0 110 ∷ plain 0 195 ∷ []) ∷ sign (codes ")") ∷ [])))

block_text : text_of (pieces_of block) ≡ codes "if x: # c" ++ (13 ∷ 10 ∷ 9 ∷ 10 ∷ codes " y(#") ++ (13 ∷ 10 ∷ 9 ∷ 39 ∷ 92 ∷ 110 ∷ 195 ∷ 39 ∷ 41 ∷ [])
unfolding block
block_text = refl

block_cut : are_cut (pieces_of block) [] ≡ true
unfolding block
block_cut = refl

block_lines : are_lines 0 block ≡ true
unfolding block
block_lines = refl

block_shown : lines_of (text_of (pieces_of block)) 0 block ≡
    record {
      indent = 0;
      span = record { from = 0; to = 9 };
      tokens =
          record { at = record { line = 1; col = 1 }; span = record { from = 0; to = 2 }; kind = Keyword 20 }
          ∷ record { at = record { line = 1; col = 4 }; span = record { from = 3; to = 4 }; kind = Word (codes "x") }
          ∷ record { at = record { line = 1; col = 5 }; span = record { from = 4; to = 5 }; kind = Sign 7 } ∷ [];
    }
    ∷ record {
      indent = 1;
      span = record { from = 13; to = 26 };
      tokens =
          record { at = record { line = 3; col = 2 }; span = record { from = 14; to = 15 }; kind = Word (codes "y") }
          ∷ record { at = record { line = 3; col = 3 }; span = record { from = 15; to = 16 }; kind = Sign 0 }
          ∷ record { at = record { line = 4; col = 2 }; span = record { from = 20; to = 25 }; kind = Text (10 ∷ 195 ∷ []) }
          ∷ record { at = record { line = 4; col = 7 }; span = record { from = 25; to = 26 }; kind = Sign 1 } ∷ [];
    } ∷ []
unfolding block
block_shown = refl

-- three quotes: two quotes inside, and CR LF as one LF
long : Piece
long = literal 34 true (plain 2 97 ∷ break 0 true ∷ break 1 false ∷ [])

long_text : spelled long ≡ 34 ∷ 34 ∷ 34 ∷ 34 ∷ 34 ∷ 97 ∷ 13 ∷ 10 ∷ 34 ∷ 10 ∷ 34 ∷ 34 ∷ 34 ∷ []
unfolding long
long_text = refl

long_value : kind_of long ≡ Some (Text (34 ∷ 34 ∷ 97 ∷ 10 ∷ 34 ∷ 10 ∷ []))
unfolding long
long_value = refl

n1 : is_piece (number (codes "9223372036854775807")) ≡ true
n1 = refl

n2 : is_piece (number (codes "9223372036854775808")) ≡ false
n2 = refl

n3 : is_piece (number (codes "00")) ≡ false
n3 = refl

e1 : ends (number (codes "1")) (codes ".5") ≡ false
e1 = refl

e2 : ends (sign (codes "=")) (codes "=") ≡ false
e2 = refl

e3 : ends (literal 39 false []) (codes "'") ≡ false
e3 = refl

e4 : ends (word (codes "if")) (codes "1") ≡ false
e4 = refl

-- a stray bracket, a bracket of the wrong kind, an open one, a tab before a token
l1 : are_lines 0 (last (sign (codes ")") ∷ [])) ≡ false
l1 = refl

l2 : are_lines 0 (last (sign (codes "(") ∷ sign (codes "]") ∷ [])) ≡ false
l2 = refl

l3 : are_lines 0 (more (sign (codes "(") ∷ []) false (last [])) ≡ false
l3 = refl

l4 : are_lines 0 (last (blank 9 ∷ word (codes "x") ∷ [])) ≡ false
l4 = refl

l5 : are_lines 0 (last (blank 9 ∷ comment [] ∷ [])) ≡ true
l5 = refl
