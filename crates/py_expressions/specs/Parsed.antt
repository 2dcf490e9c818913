-- What the parser's functions answer of the tokens before them.
use Rattle.std.specs.Prelude.{◌≡◌, ⊤, ℕ, ◌+◌, ◌<◌, ◌≤◌, Bool, true, false, List, [], ◌∷◌, ◌++◌, length, Option, Some, None, is_some, ◌==◌, if◌then◌else◌}
use Rattle.prov_base.specs.declared.place.Pos.{Pos}
use Rattle.py_lines.specs.declared.parts.Token.{Token}
use Rattle.py_lines.specs.declared.parts.TokenKind.{TokenKind}
use Rattle.py_lines.specs.declared.parts.TokenKind.TheVariants.{Keyword, Sign}
use Rattle.py_tree.specs.declared.expr.UnOp.{UnOp}
use Rattle.py_tree.specs.declared.expr.UnOp.TheVariants.{Minus, Plus}
use Rattle.py_tree.specs.declared.expr.BinOp.{BinOp}
use Rattle.py_tree.specs.declared.expr.BinOp.TheVariants.{Add}
use Rattle.py_tree.specs.declared.expr.CmpOp.{CmpOp}
use Rattle.py_tree.specs.declared.expr.CmpOp.TheVariants.{Eq, Ne, Lt, Le, Gt, Ge}
use Rattle.py_tree.specs.Tree.{ExprTree}
use Rattle.py_tree.specs.Erasure.{expr_of}
use Rattle.py_expressions.specs.declared.fault.Fault.{Fault}
use Rattle.py_expressions.specs.declared.fault.Fault.TheVariants.{Unexpected, TooDeep, Memory}
use Rattle.py_expressions.specs.declared.fault.Stop.{Stop}
use Rattle.py_expressions.specs.declared.fault.Stop.TheVariants.{Here, End}
use Rattle.py_expressions.specs.declared.part.Part.{Part}
use Rattle.py_expressions.specs.Concrete.{Spot, AddSign, MulSign, Expr, plain_expr, Or, plain_or, And, plain_and, Not, plain_not, Cmp, plain_cmp, CmpSign, Sum, plain_sum, Term, plain_term, Unary, Prim, plain_prim, Atom, Exprs, one_expr, several, Rest, end_rest, last_rest, more_rest}
use Rattle.py_expressions.specs.Tokens.{token, word, sign, add_sign, mul_sign, cmp_tokens, expr_tokens, or_tokens, and_tokens, not_tokens, cmp_tokens_of, sum_tokens, term_tokens, unary_tokens, prim_tokens, atom_tokens, exprs_tokens}
use Rattle.py_expressions.specs.Depth.{expr_depth, or_depth, and_depth, not_depth, cmp_depth, sum_depth, term_depth, unary_depth, prim_depth, atom_depth, exprs_depth}
use Rattle.py_expressions.specs.Lies.{expr_lies, or_lies, and_lies, not_lies, cmp_lies, sum_lies, term_lies, unary_lies, prim_lies, atom_lies, exprs_lies, expr_deepest, or_deepest, and_deepest, not_deepest, cmp_deepest, sum_deepest, term_deepest, unary_deepest, prim_deepest, atom_deepest, exprs_deepest, IsApart}
use Rattle.py_expressions.specs.Reader.{Read, add_sign_of, mul_sign_of, is_keyword, is_sign, next_level, starts, read_keyword, read_sign, read_name, read_cmp_sign, read_expr, read_or, read_and, read_not, read_cmp, read_sum, read_term, read_unary, read_prim, read_atom, read_exprs}
use Rattle.py_expressions.specs.Trees.{exprs_tree, add_op, mul_op, cmp_op, cmp_at}
use Rattle.py_expressions.specs.Targets.{OneTarget, prim_target, expr_target, exprs_target}

-- a part of the grammar: the tokens of what is written, how deep it goes, how deep what begins at a place lies in it, where the
-- first of its deepest begins, whether it is of a target's form, and its reader
pub record Production (A : Type 0) : Type 0 where
  pub tokens : A → List Token
  pub depth : A → ℕ
  pub lies : A → Pos → ℕ
  pub deepest : A → Pos
  pub form : A → Bool
  pub read : ℕ → List Token → Read A

abbrev pub one_keyword : ℕ → Production Spot
one_keyword n = record { tokens = λ spot. token (Keyword n) spot ∷ []; depth = λ _. 0; lies = λ _ at. 0; deepest = λ spot. spot.at; form = λ _. false; read = λ _ ts. read_keyword n ts }

abbrev pub one_sign : ℕ → Production Spot
one_sign n = record { tokens = λ spot. token (Sign n) spot ∷ []; depth = λ _. 0; lies = λ _ at. 0; deepest = λ spot. spot.at; form = λ _. false; read = λ _ ts. read_sign n ts }

abbrev pub one_name : Production (Spot × List ℕ)
one_name = record { tokens = λ found. word found.1 found.0; depth = λ _. 0; lies = λ _ at. 0; deepest = λ found. found.0.at; form = λ _. false; read = λ _ ts. read_name ts }

abbrev pub one_cmp_sign : Production CmpSign
one_cmp_sign = record { tokens = cmp_tokens; depth = λ _. 0; lies = λ _ at. 0; deepest = cmp_at; form = λ _. false; read = λ _ ts. read_cmp_sign ts }

abbrev pub is_form : Option OneTarget → Bool
is_form None = false
is_form (Some target) = true

abbrev pub expr_part : Production Expr
expr_part = record { tokens = expr_tokens; depth = expr_depth; lies = expr_lies; deepest = expr_deepest; form = λ e. is_form (expr_target e); read = read_expr }

abbrev pub or_part : Production Or
or_part = record { tokens = or_tokens; depth = or_depth; lies = or_lies; deepest = or_deepest; form = λ e. is_form (expr_target (plain_expr e)); read = read_or }

abbrev pub and_part : Production And
and_part = record { tokens = and_tokens; depth = and_depth; lies = and_lies; deepest = and_deepest; form = λ e. is_form (expr_target (plain_expr (plain_or e))); read = read_and }

abbrev pub not_part : Production Not
not_part = record { tokens = not_tokens; depth = not_depth; lies = not_lies; deepest = not_deepest; form = λ e. is_form (expr_target (plain_expr (plain_or (plain_and e)))); read = read_not }

abbrev pub cmp_part : Production Cmp
cmp_part = record { tokens = cmp_tokens_of; depth = cmp_depth; lies = cmp_lies; deepest = cmp_deepest; form = λ e. is_form (expr_target (plain_expr (plain_or (plain_and (plain_not e))))); read = read_cmp }

abbrev pub sum_part : Production Sum
sum_part = record { tokens = sum_tokens; depth = sum_depth; lies = sum_lies; deepest = sum_deepest; form = λ e. is_form (expr_target (plain_expr (plain_or (plain_and (plain_not (plain_cmp e)))))); read = read_sum }

abbrev pub term_part : Production Term
term_part = record { tokens = term_tokens; depth = term_depth; lies = term_lies; deepest = term_deepest; form = λ e. is_form (expr_target (plain_expr (plain_or (plain_and (plain_not (plain_cmp (plain_sum e))))))); read = read_term }

abbrev pub unary_part : Production Unary
unary_part = record { tokens = unary_tokens; depth = unary_depth; lies = unary_lies; deepest = unary_deepest; form = λ e. is_form (expr_target (plain_expr (plain_or (plain_and (plain_not (plain_cmp (plain_sum (plain_term e)))))))); read = read_unary }

abbrev pub prim_part : Production Prim
prim_part = record { tokens = prim_tokens; depth = prim_depth; lies = prim_lies; deepest = prim_deepest; form = λ p. is_form (prim_target p); read = read_prim }

abbrev pub atom_part : Production Atom
atom_part = record { tokens = atom_tokens; depth = atom_depth; lies = atom_lies; deepest = atom_deepest; form = λ a. is_form (prim_target (plain_prim a)); read = read_atom }

abbrev pub exprs_part : Production Exprs
exprs_part = record { tokens = exprs_tokens; depth = exprs_depth; lies = exprs_lies; deepest = exprs_deepest; form = λ e. is_some (exprs_target e); read = read_exprs }

-- ---- the next token

abbrev pub is_keyword_next : ℕ → List Token → Bool
is_keyword_next n [] = false
is_keyword_next n (t ∷ ts) = is_keyword n t.kind

abbrev pub is_sign_next : ℕ → List Token → Bool
is_sign_next n [] = false
is_sign_next n (t ∷ ts) = is_sign n t.kind

-- a token of this kind at this place was taken
pub record Taken (kind : TokenKind) (before : List Token) (at : Pos) (after : List Token) : Type 0 where
  pub spot : Spot
  pub before_is : before ≡ token kind spot ∷ after
  pub at_is : spot.at ≡ at

-- ---- what is answered

abbrev pub IsMemory : Stop → Type 0
IsMemory stop = stop ≡ Here Memory

-- the fault is shown by the token behind which these stand; what begins at the place that TooDeep names is said below
abbrev pub ShowsAt : List Token → Fault → Type 0
ShowsAt behind (Unexpected left) = left ≡ length behind
ShowsAt behind (TooDeep place) = ⊤
ShowsAt behind fault = ⊥

-- reading stops at the first of these tokens, where the grammar has another
abbrev pub IsAtFirst : List Token → Stop → Type 0
IsAtFirst [] stop = stop ≡ End
IsAtFirst (t ∷ ts) (Here (Unexpected left)) = left ≡ length ts
IsAtFirst (t ∷ ts) stop = ⊥

-- What is read all the same where reading stopped: with TooDeep what has an expression that begins at the place that it names
-- and lies deeper than there is room for, else nothing.
abbrev pub IsDeep : Stop → ℕ → (lies : Pos → ℕ) → Type 0
IsDeep (Here (TooDeep at)) room lies = room < lies at
IsDeep stop room lies = ⊥

abbrev pub Only : {A : Type 0} → (A → Type 0) → Read A → Type 0
Only P None = ⊤
Only P (Some (value, rest)) = P value

-- with enough steps a reader reads nothing here but what is so
pub record Finds {A : Type 0} (P : A → Type 0) (read : ℕ → List Token → Read A) (ts : List Token) : Type 0 where
  pub steps : ℕ
  pub only : (n : ℕ) → Only P (read (n + steps) ts)

-- these are the first tokens of some such part
pub record Begins {A : Type 0} (p : Production A) (front : List Token) : Type 0 where
  pub some : A
  pub more : List Token
  pub tokens_are : p.tokens some ≡ front ++ more

-- Some such part has these first tokens, and what begins before the rest lies within the room: whatever place is chosen for
-- the tokens that are put behind, expressions that begin elsewhere lie so.
pub record Completes {A : Type 0} (p : Production A) (room : ℕ) (front : List Token) (at : Pos) : Type 0 where
  pub some : A
  pub more : List Token
  pub tokens_are : p.tokens some ≡ front ++ more
  pub within : (other : Pos) → (other ≡ at → ⊥) → p.lies some other ≤ room

abbrev pub BeginsWithin : {A : Type 0} → Production A → ℕ → List Token → Type 0
BeginsWithin p room front = (at : Pos) → Completes p room front at

-- Some such part has these first tokens, and there is no room for it: of the expressions in it that lie too deep the first
-- begins at this place. A token of these stands there, and what begins at none of these from that one on lies within the room.
pub record IsFirstDeep {A : Type 0} (p : Production A) (room : ℕ) (front : List Token) (place : Pos) : Type 0 where
  pub some : A
  pub more : List Token
  pub tokens_are : p.tokens some ≡ front ++ more
  pub ahead : List Token
  pub named : Token
  pub between : List Token
  pub front_is : front ≡ ahead ++ named ∷ between
  pub named_is : named.at ≡ place
  pub deep : room < p.lies some place
  pub within : (other : Pos) → IsApart other (named ∷ between) → p.lies some other ≤ room

-- with TooDeep, some such part goes on with the token that shows it, and the first that lies too deep in it is named
abbrev pub GoesDeep : {A : Type 0} → Production A → ℕ → List Token → Token → Fault → Type 0
GoesDeep p room front t (TooDeep place) = IsFirstDeep p room (front ++ t ∷ []) place
GoesDeep p room front t fault = ⊤

-- The tokens before this one begin such a part, in which nothing lies too deep yet, and those up to and with it begin none:
-- with TooDeep, some that there is no room for.
pub record Shown {A : Type 0} (p : Production A) (room : ℕ) (before : List Token) (fault : Fault) : Type 0 where
  pub front : List Token
  pub shown_by : Token
  pub behind : List Token
  pub before_is : before ≡ front ++ shown_by ∷ behind
  pub left_is : ShowsAt behind fault
  pub begins : BeginsWithin p room front
  pub goes_on : GoesDeep p room front shown_by fault
  pub none : (more : List Token) → Finds (λ a. IsDeep (Here fault) room (p.lies a)) p.read (front ++ shown_by ∷ more)

-- no such part was read
abbrev pub Refused : {A : Type 0} → Production A → ℕ → List Token → Stop → Type 0
Refused p room before (Here Memory) = ⊤
Refused p room before (Here fault) = Shown p room before fault
Refused p room before End = BeginsWithin p room before × Finds (λ a. ⊥) p.read before

-- such a part was read, and what stands behind it does not go on with it at this level
pub record Found {A : Type 0} (p : Production A) (tree : A → ExprTree) (level room : ℕ) (before : List Token) (part : Part) (after : List Token) : Type 0 where
  pub written : A
  pub before_is : before ≡ p.tokens written ++ after
  pub tree_is : expr_of part.expr.value ≡ tree written
  pub height_is : part.height ≡ p.depth written
  pub deepest_is : part.deepest ≡ p.deepest written
  pub form_is : part.is_target ≡ p.form written
  pub fits : part.height ≤ room
  pub beyond : level < next_level after

-- there is no room over an expression of this height, whose deepest begins here
abbrev pub IsTooDeep : ℕ → Pos → ℕ → Stop → Type 0
IsTooDeep height deepest room (Here (TooDeep at)) = (room ≤ height) × (at ≡ deepest)
IsTooDeep height deepest room stop = ⊥

-- ---- expressions in a row

-- a comma is the last token
abbrev pub rest_ends_open : Rest → Bool
rest_ends_open end_rest = true
rest_ends_open (last_rest e) = false
rest_ends_open (more_rest e comma rest) = rest_ends_open rest

abbrev pub ends_open : Exprs → Bool
ends_open (one_expr e) = false
ends_open (several e comma rest) = rest_ends_open rest

-- Expressions in a row were read. Behind an expression neither a comma nor what goes on with it stands there, and behind a
-- comma no expression.
pub record FoundRow (room : ℕ) (before : List Token) (part : Part) (after : List Token) : Type 0 where
  pub written : Exprs
  pub before_is : before ≡ exprs_tokens written ++ after
  pub tree_is : expr_of part.expr.value ≡ exprs_tree written
  pub height_is : part.height ≡ exprs_depth written
  pub deepest_is : part.deepest ≡ exprs_deepest written
  pub form_is : part.is_target ≡ is_some (exprs_target written)
  pub fits : part.height ≤ room
  pub beyond : ends_open written ≡ false → 8 < next_level after
  pub no_more : ends_open written ≡ true → starts after ≡ 0

-- a name was taken
pub record TakenName (before : List Token) (at : Pos) (name : List ℕ) (after : List Token) : Type 0 where
  pub spot : Spot
  pub before_is : before ≡ word name spot ++ after
  pub at_is : spot.at ≡ at

-- ---- operators

abbrev pub add_sign_next : List Token → Option AddSign
add_sign_next [] = None
add_sign_next (t ∷ ts) = add_sign_of t.kind

abbrev pub mul_sign_next : List Token → Option MulSign
mul_sign_next [] = None
mul_sign_next (t ∷ ts) = mul_sign_of t.kind

-- `+` or `-` was taken, which is this operator
pub record TakenAdd (before : List Token) (at : Pos) (op : BinOp) (after : List Token) : Type 0 where
  pub which : AddSign
  pub spot : Spot
  pub before_is : before ≡ sign (add_sign which) spot ++ after
  pub at_is : spot.at ≡ at
  pub op_is : op ≡ add_op which

-- `*`, `//` or `%` was taken
pub record TakenMul (before : List Token) (at : Pos) (op : BinOp) (after : List Token) : Type 0 where
  pub which : MulSign
  pub spot : Spot
  pub before_is : before ≡ sign (mul_sign which) spot ++ after
  pub at_is : spot.at ≡ at
  pub op_is : op ≡ mul_op which

-- a comparison sign was taken
pub record TakenCmp (before : List Token) (at : Pos) (op : CmpOp) (after : List Token) : Type 0 where
  pub which : CmpSign
  pub before_is : before ≡ cmp_tokens which ++ after
  pub alone : (more : List Token) → is_keyword_next 26 more ≡ is_keyword_next 26 after → read_cmp_sign (cmp_tokens which ++ more) ≡ Some (which, more)
  pub at_is : cmp_at which ≡ at
  pub op_is : op ≡ cmp_op which

-- the comparison of one sign that a sign is
abbrev pub cmp_sign_op : ℕ → Option CmpOp
cmp_sign_op n =
    if n == 15 then Some Eq else (if n == 16 then Some Ne else (if n == 17 then Some Lt else (if n == 18 then Some Le
    else (if n == 19 then Some Gt else (if n == 20 then Some Ge else None)))))

abbrev pub kind_cmp_op : TokenKind → Option CmpOp
kind_cmp_op (Sign n) = cmp_sign_op n
kind_cmp_op kind = None

abbrev pub cmp_sign_next : List Token → Option CmpOp
cmp_sign_next [] = None
cmp_sign_next (t ∷ ts) = kind_cmp_op t.kind

-- the sign before an operand that is written like this operator between two
abbrev pub sign_of : BinOp → UnOp
sign_of Add = Plus
sign_of op = Minus
