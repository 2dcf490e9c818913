-- What this profile refuses, as far as tokens and lines alone show it: kinds of tokens, brackets, the statement so far, where a line stands,
-- and the table.
use Rattle.std.specs.Prelude.{ℕ, suc, Bool, true, false, ◌&&◌, ◌||◌, not, ◌==◌, nat_le, List, [], ◌∷◌, ◌-◌, Option, Some, None, unwrap_or, if◌then◌else◌}
use Rattle.py_lines.specs.declared.parts.Line.{Line}
use Rattle.py_lines.specs.declared.parts.Token.{Token}
use Rattle.py_lines.specs.declared.parts.TokenKind.{TokenKind}
use Rattle.py_lines.specs.declared.parts.TokenKind.TheVariants.{Word, Keyword, Number, Text, Sign}
use Rattle.refused_forms.specs.declared.brackets.Stop.{Stop}
use Rattle.refused_forms.specs.declared.brackets.Stop.TheVariants.{Nothing, Divider, LoopWord}
use Rattle.refused_forms.specs.declared.standing.Standing.{Standing}
use Rattle.refused_forms.specs.declared.brackets.Sought.{Sought}
use Rattle.refused_forms.specs.declared.brackets.Sought.TheVariants.{Bracket, Call, Comparison}

-- ---- words and signs, by their numbers in the tables of logical lines

abbrev pub is_word : ℕ → TokenKind → Bool
is_word n (Keyword m) = m == n
is_word n kind = false

abbrev pub is_sign : ℕ → TokenKind → Bool
is_sign n (Sign m) = m == n
is_sign n kind = false

abbrev pub opens : TokenKind → Bool
opens kind = is_sign 0 kind || is_sign 2 kind || is_sign 4 kind

abbrev pub closes : TokenKind → Bool
closes kind = is_sign 1 kind || is_sign 3 kind || is_sign 5 kind

abbrev pub is_comma : TokenKind → Bool
is_comma kind = is_sign 6 kind

abbrev pub is_colon : TokenKind → Bool
is_colon kind = is_sign 7 kind

abbrev pub is_equals : TokenKind → Bool
is_equals kind = is_sign 9 kind

abbrev pub is_star : TokenKind → Bool
is_star kind = is_sign 12 kind

-- `+=`, `-=`, `*=`, `//=`, `%=`
abbrev pub is_augmenting : TokenKind → Bool
is_augmenting (Sign n) = nat_le 21 n && nat_le n 25
is_augmenting kind = false

abbrev pub is_name : TokenKind → Bool
is_name (Word bytes) = true
is_name kind = false

abbrev pub is_text : TokenKind → Bool
is_text (Text bytes) = true
is_text kind = false

-- Words and signs that stand nowhere: `async`, `await`, `finally`, `from`, `lambda`, `nonlocal` and `yield`, and the signs behind
-- those of the grammar.
abbrev pub is_never : TokenKind → Bool
is_never (Keyword n) = (n == 6) || (n == 7) || (n == 16) || (n == 18) || (n == 24) || (n == 25) || (n == 34)
is_never (Sign n) = nat_le 26 n
is_never kind = false

-- an operand may end with this: a name, a literal, a closing bracket
abbrev pub ends_operand : TokenKind → Bool
ends_operand (Word bytes) = true
ends_operand (Number value) = true
ends_operand (Text bytes) = true
ends_operand (Keyword n) = (n == 0) || (n == 1) || (n == 2)
ends_operand (Sign n) = closes (Sign n)

-- `==`, `!=`, `<`, `<=`, `>`, `>=`, `in`, `is`
abbrev pub compares : TokenKind → Bool
compares (Sign n) = nat_le 15 n && nat_le n 20
compares (Keyword n) = (n == 22) || (n == 23)
compares kind = false

-- what divides the operands of one comparison from those of another: `,`, `:`, `=` and its kin, `and`, `as`, `else`, `if`, `or`
abbrev pub divides : TokenKind → Bool
divides (Sign n) = (n == 6) || (n == 7) || (n == 9) || is_augmenting (Sign n)
divides (Keyword n) = (n == 3) || (n == 4) || (n == 14) || (n == 20) || (n == 27)
divides kind = false

-- a statement may begin with this, but for a `def`
abbrev pub begins_statement : TokenKind → Bool
begins_statement (Word bytes) = true
begins_statement (Number value) = true
begins_statement (Text bytes) = true
-- `False` `None` `True` `assert` `break` `class` `continue` `del` `for` `global` `if` `import` `not` `pass` `raise` `return` `try` `while` `with`
begins_statement (Keyword n) = (n == 0) || (n == 1) || (n == 2) || (n == 5) || (n == 8) || (n == 9) || (n == 10) || (n == 12) || (n == 17) || (n == 19) || (n == 20) || (n == 21)
    || (n == 26) || (n == 28) || (n == 29) || (n == 30) || (n == 31) || (n == 32) || (n == 33)
begins_statement (Sign n) = opens (Sign n) || (n == 10) || (n == 11)

-- `class`, `def`, `for`, `global`, `if`, `try`, `while`, `with`
abbrev pub begins_compound : TokenKind → Bool
begins_compound (Keyword n) = (n == 9) || (n == 11) || (n == 17) || (n == 19) || (n == 20) || (n == 31) || (n == 32) || (n == 33)
begins_compound kind = false

abbrev pub is_first : (TokenKind → Bool) → List Token → Bool
is_first is [] = false
is_first is (t ∷ ts) = is t.kind

abbrev pub is_last : (TokenKind → Bool) → List Token → Bool
is_last is [] = false
is_last is (t ∷ []) = is t.kind
is_last is (t ∷ u ∷ ts) = is_last is (u ∷ ts)

-- ---- brackets

-- where so many brackets are open, these tokens close them all and those that they open, and outside all brackets there is no such token
abbrev pub closed : (TokenKind → Bool) → ℕ → List Token → Bool
closed stops n [] = n == 0
closed stops n (t ∷ ts) =
    if opens t.kind then closed stops (suc n) ts
    else (if closes t.kind then (if n == 0 then false else closed stops (n - 1) ts)
    else (if (n == 0) && stops t.kind then false else closed stops n ts))

abbrev pub nothing : TokenKind → Bool
nothing kind = false

-- what may not stand outside all brackets, by its name in the code
abbrev pub stops : Stop → TokenKind → Bool
stops Nothing = nothing
stops Divider = divides
stops LoopWord = is_word 22

-- some token is so: the kind of the one before it, itself, and what stands behind it
abbrev pub somewhere : (Option TokenKind → TokenKind → List Token → Bool) → Option TokenKind → List Token → Bool
somewhere is before [] = false
somewhere is before (t ∷ ts) = is before t.kind ts || somewhere is (Some t.kind) ts

-- what was before a bracket of a call or of parameters: the end of an operand, or the name behind a `def`
abbrev pub may_be_called : Option TokenKind → Bool
may_be_called None = false
may_be_called (Some kind) = ends_operand kind

-- an open bracket; that of a call or of parameters; the operator of a comparison, with an operand behind it that nothing divides from it
abbrev pub opens_here : Option TokenKind → TokenKind → List Token → Bool
opens_here before kind behind = opens kind && closed nothing 0 behind

abbrev pub calls_here : Option TokenKind → TokenKind → List Token → Bool
calls_here before kind behind = is_sign 0 kind && may_be_called before && closed nothing 0 behind

abbrev pub compares_here : Option TokenKind → TokenKind → List Token → Bool
compares_here before kind behind = compares kind && closed divides 0 behind && is_last ends_operand behind

-- the same, by its name in the code
abbrev pub is_sought : Sought → Option TokenKind → TokenKind → List Token → Bool
is_sought Bracket = opens_here
is_sought Call = calls_here
is_sought Comparison = compares_here

-- a bracket is open behind these tokens
abbrev pub in_bracket : List Token → Bool
in_bracket front = somewhere opens_here None front

-- the innermost open bracket is that of a call or of parameters
abbrev pub in_call : List Token → Bool
in_call front = not (is_first (is_word 9) front) && somewhere calls_here None front

-- a parameter was written, behind `def NAME (`
abbrev pub is_behind_parameter : List Token → Bool
is_behind_parameter (d ∷ name ∷ bracket ∷ inside) = is_word 11 d.kind && is_sign 0 bracket.kind && closed nothing 0 inside && is_last is_name inside
is_behind_parameter tokens = false

-- a comparison was written: an operator, and behind it an operand that nothing divides from it
abbrev pub is_behind_comparison : List Token → Bool
is_behind_comparison front = somewhere compares_here None front

-- a comparison operator: one of those above, or `not` with an `in` behind it
abbrev pub is_operator : TokenKind → List Token → Bool
is_operator kind behind = compares kind || (is_word 26 kind && is_first (is_word 22) behind)

-- ---- the statement so far

-- what stands behind the first `:` outside brackets
abbrev pub behind_colon : ℕ → List Token → Option (List Token)
behind_colon n [] = None
behind_colon n (t ∷ ts) =
    if opens t.kind then behind_colon (suc n) ts
    else (if closes t.kind then behind_colon (n - 1) ts
    else (if (n == 0) && is_colon t.kind then Some ts else behind_colon n ts))

-- the simple statement so far: what stands behind the `:` of a compound one, or the line
abbrev pub statement : List Token → List Token
statement front = unwrap_or (behind_colon 0 front) front

-- what stands behind the first `=`
abbrev pub behind_equals : List Token → Option (List Token)
behind_equals [] = None
behind_equals (t ∷ ts) = if is_equals t.kind then Some ts else behind_equals ts

-- What stands behind the last comma outside brackets. `part` is what stands behind the last one so far.
abbrev pub last_part : ℕ → List Token → List Token → List Token
last_part n part [] = part
last_part n part (t ∷ ts) =
    if opens t.kind then last_part (suc n) part ts
    else (if closes t.kind then last_part (n - 1) part ts
    else (if (n == 0) && is_comma t.kind then last_part n ts ts else last_part n part ts))

-- what may be annotated: the statement so far, without the `del` or `for` before a target
abbrev pub annotated : List Token → List Token
annotated [] = []
annotated (t ∷ ts) = if is_word 12 t.kind || is_word 17 t.kind then ts else t ∷ ts

-- ---- where a line stands

-- the kind of the first token of a line
abbrev pub first_kind : Line → Option TokenKind
first_kind line = kind_of line.tokens
  where
    kind_of : List Token → Option TokenKind
    kind_of [] = None
    kind_of (t ∷ ts) = Some t.kind

abbrev pub begins_with : (TokenKind → Bool) → Option TokenKind → Bool
begins_with is None = false
begins_with is (Some kind) = is kind

-- the last of these lines that is indented less
abbrev pub owner_of : ℕ → Option TokenKind → List Line → Option TokenKind
owner_of d owner [] = owner
owner_of d owner (line ∷ lines) = owner_of d (if nat_le d line.indent then owner else first_kind line) lines

-- the last of these lines at this indentation, if none behind it is indented less
abbrev pub previous_of : ℕ → Option TokenKind → List Line → Option TokenKind
previous_of d previous [] = previous
previous_of d previous (line ∷ lines) = previous_of d (if line.indent == d then first_kind line else (if nat_le d line.indent then previous else None)) lines

abbrev pub all_deeper : ℕ → List Line → Bool
all_deeper d [] = true
all_deeper d (line ∷ lines) = not (nat_le line.indent d) && all_deeper d lines

-- one of these lines is a `try` that is indented more, and nothing but its suite follows
abbrev pub lacks_handler : ℕ → List Line → Bool
lacks_handler d [] = false
lacks_handler d (line ∷ lines) = (not (nat_le line.indent d) && begins_with (is_word 31) (first_kind line) && all_deeper line.indent lines) || lacks_handler d lines

-- `else` would stand behind a loop, a `try` or its handlers: the line before at this indentation is such a one
abbrev pub follows_loop : Bool → Option TokenKind → Bool
follows_loop inside previous =
    not inside && (begins_with (is_word 32) previous || begins_with (is_word 17) previous || begins_with (is_word 31) previous || begins_with (is_word 15) previous)

-- Where a line stands, behind these: in the suite of a class; behind a loop, a `try` or its handlers; behind a `try`, there or further
-- in, that lacks its handler.
abbrev pub standing : ℕ → List Line → Standing
standing d before =
    stands (begins_with (is_word 9) (owner_of d None before)) (previous_of d None before) (lacks_handler d before)
  where
    stands : Bool → Option TokenKind → Bool → Standing
    stands in_class previous inside = record { in_class = in_class; after_loop = follows_loop inside previous; lacks = inside || begins_with (is_word 31) previous }

-- what stands behind these tokens on the line stands in a class: its suite, or the statement behind its `:`
abbrev pub in_class : Standing → List Token → Bool
in_class s front = by (behind_colon 0 front)
  where
    by : Option (List Token) → Bool
    by None = s.in_class
    by (Some tokens) = is_first (is_word 9) front

-- ---- the table

-- with the first token of a line: `else` there; what begins a statement of many lines, `def`, `class` or `global` where it may not stand; in a
-- class what begins another statement than may stand there
abbrev pub first_refused : Standing → TokenKind → Bool
first_refused s kind =
    (is_word 14 kind && s.after_loop)
    || (not s.lacks && begins_compound kind)
    || (not s.lacks && s.in_class && begins_statement kind)

-- with the first token behind the `:` of a compound statement: `def`, `class` or `global`; in a class any but a `def`
abbrev pub behind_colon_refused : List Token → TokenKind → Bool
behind_colon_refused front kind =
    if is_first (is_word 9) front then begins_statement kind else (is_word 9 kind || is_word 11 kind || is_word 19 kind)

-- these tokens end with the `:` of a compound statement
abbrev pub ends_with_colon : List Token → Bool
ends_with_colon front = is_empty (behind_colon 0 front)
  where
    is_empty : Option (List Token) → Bool
    is_empty None = false
    is_empty (Some []) = true
    is_empty (Some (t ∷ ts)) = false

-- with a first token of a line or of what stands behind its `:`
abbrev pub start_refused : Standing → List Token → TokenKind → Bool
start_refused s [] kind = first_refused s kind
start_refused s (f ∷ front) kind = ends_with_colon (f ∷ front) && behind_colon_refused (f ∷ front) kind

-- an `import` of another module, or of more than one, or under another name
abbrev pub import_refused : List Token → TokenKind → Bool
import_refused (i ∷ []) kind = is_word 21 i.kind && is_name kind
import_refused (i ∷ name ∷ []) kind = is_word 21 i.kind && is_name name.kind && (is_word 4 kind || is_comma kind)
import_refused tokens kind = false

-- a method's name that is none
abbrev pub method_refused : List Token → TokenKind → Bool
method_refused (d ∷ []) kind = is_word 11 d.kind && is_name kind
method_refused tokens kind = false

-- a second comparison begins
abbrev pub compares_again : List Token → TokenKind → List Token → Bool
compares_again front kind behind = is_operator kind behind && is_last ends_operand front && is_behind_comparison front

-- `=` and `*` in a call or parameters, `:` behind a parameter, `for` in brackets
abbrev pub refused_inside : List Token → TokenKind → Bool
refused_inside front kind =
    ((is_equals kind || is_star kind) && in_call front)
    || (is_colon kind && is_behind_parameter front)
    || (is_word 17 kind && in_bracket front)

-- rows of the table that look at tokens alone
abbrev pub token_refused : Standing → List Token → TokenKind → List Token → Bool
token_refused s front kind behind =
    is_never kind
    || start_refused s front kind
    || import_refused (statement front) kind
    || method_refused front kind
    || compares_again front kind behind
    || refused_inside front kind
