-- Worked rows of the table, each found by computation.
use Rattle.std.proofs.Common.{◌≡◌, ℕ, ◌+◌, Bool, true, false, List, [], ◌∷◌, codes, Some, refl, pos}
use Rattle.py_lines.specs.declared.parts.Line.{Line}
use Rattle.py_lines.specs.declared.parts.Token.{Token}
use Rattle.py_lines.specs.declared.parts.TokenKind.{TokenKind}
use Rattle.py_lines.specs.declared.parts.TokenKind.TheVariants.{Word, Keyword, Number, Text, Sign}
use Rattle.refused_forms.specs.LineForms.{token_refused, standing, last_part}
use Rattle.refused_forms.specs.RefusedForms.{text_in_class, bare_raise}

-- tokens of these kinds, in the columns from this one on
abbrev row : ℕ → List TokenKind → List Token
row n [] = []
row n (kind ∷ kinds) = record { at = record { line = 1; col = n }; span = record { from = 0; to = 0 }; kind = kind } ∷ row (n + 1) kinds

abbrev line : ℕ → List TokenKind → Line
line indent kinds = record { indent = indent; tokens = row 1 kinds; span = record { from = 0; to = 0 } }

abbrev a : TokenKind
a = Word (codes "a")

abbrev b : TokenKind
b = Word (codes "b")

-- whether a token is refused on a line at the top level, behind others and before others
abbrev refused : List TokenKind → TokenKind → List TokenKind → Bool
refused front kind behind = token_refused (standing 0 []) (row 1 front) kind (row 9 behind)

-- `await`, and `;` behind a name
never : refused [] (Keyword 7) [] ≡ true
never = refl

semicolon : refused (a ∷ []) (Sign 26) [] ≡ true
semicolon = refl

-- `import a`, `import a as`, and a number as the module
import_other : refused (Keyword 21 ∷ []) a [] ≡ true
import_other = refl

import_as : refused (Keyword 21 ∷ a ∷ []) (Keyword 4) [] ≡ true
import_as = refl

import_number : refused (Keyword 21 ∷ []) (Number (pos 1)) [] ≡ false
import_number = refl

-- `a < b <`, `a < b not in`, but `a < b not a`, and none in another part of the line
second : refused (a ∷ Sign 17 ∷ b ∷ []) (Sign 17) [] ≡ true
second = refl

second_not_in : refused (a ∷ Sign 17 ∷ b ∷ []) (Keyword 26) (Keyword 22 ∷ []) ≡ true
second_not_in = refl

not_alone : refused (a ∷ Sign 17 ∷ b ∷ []) (Keyword 26) (a ∷ []) ≡ false
not_alone = refl

behind_comma : refused (a ∷ Sign 17 ∷ b ∷ Sign 6 ∷ a ∷ []) (Sign 17) [] ≡ false
behind_comma = refl

-- `a < (b, a) <`: a comma in brackets divides nothing
comma_inside : refused (a ∷ Sign 17 ∷ Sign 0 ∷ b ∷ Sign 6 ∷ a ∷ Sign 1 ∷ []) (Sign 17) [] ≡ true
comma_inside = refl

-- `a(b =`, `a(*`, but `a([b =`, `(b =` and `class a(b =`
equals_in_call : refused (a ∷ Sign 0 ∷ b ∷ []) (Sign 9) [] ≡ true
equals_in_call = refl

star_in_call : refused (a ∷ Sign 0 ∷ []) (Sign 12) [] ≡ true
star_in_call = refl

equals_in_list : refused (a ∷ Sign 0 ∷ Sign 2 ∷ b ∷ []) (Sign 9) [] ≡ false
equals_in_list = refl

equals_in_group : refused (Sign 0 ∷ b ∷ []) (Sign 9) [] ≡ false
equals_in_group = refl

equals_in_class : refused (Keyword 9 ∷ a ∷ Sign 0 ∷ b ∷ []) (Sign 9) [] ≡ false
equals_in_class = refl

-- `def a(b:`, and `[a for`, but `[a] for`
parameter : refused (Keyword 11 ∷ a ∷ Sign 0 ∷ b ∷ []) (Sign 7) [] ≡ true
parameter = refl

for_inside : refused (Sign 2 ∷ a ∷ []) (Keyword 17) [] ≡ true
for_inside = refl

for_behind : refused (Sign 2 ∷ a ∷ Sign 3 ∷ []) (Keyword 17) [] ≡ false
for_behind = refl

-- `if a: def`, `class a: pass`, but `class a: def` and `if a: if`
def_behind_colon : refused (Keyword 20 ∷ a ∷ Sign 7 ∷ []) (Keyword 11) [] ≡ true
def_behind_colon = refl

pass_in_class : refused (Keyword 9 ∷ a ∷ Sign 7 ∷ []) (Keyword 28) [] ≡ true
pass_in_class = refl

def_in_class : refused (Keyword 9 ∷ a ∷ Sign 7 ∷ []) (Keyword 11) [] ≡ false
def_in_class = refl

if_behind_colon : refused (Keyword 20 ∷ a ∷ Sign 7 ∷ []) (Keyword 20) [] ≡ false
if_behind_colon = refl

-- a name in the suite of a class, but not in that of its method
abbrev class_line : Line
class_line = line 0 (Keyword 9 ∷ a ∷ Sign 7 ∷ [])

abbrev def_line : Line
def_line = line 4 (Keyword 11 ∷ a ∷ Sign 0 ∷ Sign 1 ∷ Sign 7 ∷ [])

name_in_class : token_refused (standing 4 (class_line ∷ [])) [] a [] ≡ true
name_in_class = refl

name_in_method : token_refused (standing 8 (class_line ∷ def_line ∷ [])) [] a [] ≡ false
name_in_method = refl

-- `else` behind `while a:`, and behind a `try` further in that lacks its handler
abbrev while_line : Line
while_line = line 0 (Keyword 32 ∷ a ∷ Sign 7 ∷ [])

else_of_loop : token_refused (standing 0 (while_line ∷ line 4 (Keyword 28 ∷ []) ∷ [])) [] (Keyword 14) [] ≡ true
else_of_loop = refl

else_of_if : token_refused (standing 0 (line 0 (Keyword 20 ∷ a ∷ Sign 7 ∷ []) ∷ line 4 (Keyword 28 ∷ []) ∷ [])) [] (Keyword 14) [] ≡ false
else_of_if = refl

else_behind_try : token_refused (standing 0 (while_line ∷ line 4 (Keyword 31 ∷ Sign 7 ∷ []) ∷ line 8 (Keyword 28 ∷ []) ∷ [])) [] (Keyword 14) [] ≡ false
else_behind_try = refl

-- `'a' + b` in a class: the text; and `if a: raise`: the word
text_named : text_in_class (standing 4 (class_line ∷ [])) (row 5 (Text (codes "a") ∷ [])) ≡ Some (record { line = 1; col = 5 })
text_named = refl

raise_named : bare_raise (row 1 (Keyword 20 ∷ a ∷ Sign 7 ∷ Keyword 29 ∷ [])) [] ≡ Some (record { line = 1; col = 4 })
raise_named = refl

-- of `a, b[a, b]` the last target
last_target_of : last_part 0 (row 1 (a ∷ Sign 6 ∷ b ∷ Sign 2 ∷ a ∷ Sign 6 ∷ b ∷ Sign 3 ∷ [])) (row 1 (a ∷ Sign 6 ∷ b ∷ Sign 2 ∷ a ∷ Sign 6 ∷ b ∷ Sign 3 ∷ [])) ≡ row 3 (b ∷ Sign 2 ∷ a ∷ Sign 6 ∷ b ∷ Sign 3 ∷ [])
last_target_of = refl
