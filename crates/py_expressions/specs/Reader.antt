-- A reader of expressions: the expression that a list of tokens begins with, and the tokens behind it. It looks one token
-- ahead, and goes on for at most so many steps. No public clause speaks of it.
use Rattle.std.specs.Prelude.{Bool, true, false, List, [], ◌∷◌, ℕ, nat_lt, zero, suc, ◌==◌, ◌||◌, Option, Some, None, if◌then◌else◌, pos, negsuc}
use Rattle.py_lines.specs.declared.parts.Token.{Token}
use Rattle.py_lines.specs.declared.parts.TokenKind.{TokenKind}
use Rattle.py_lines.specs.declared.parts.TokenKind.TheVariants.{Word, Keyword, Number, Text, Sign}
use Rattle.std.specs.Option.{option_map_or}
use Rattle.py_expressions.specs.Concrete.{Spot, AddSign, plus, minus, MulSign, times, floor, modulo, CmpSign, equal, unequal, less, less_equal, greater, greater_equal, within, not_within, same, not_same, Expr, plain_expr, choice, Or, plain_or, or_more, And, plain_and, and_more, Not, plain_not, not_of, Cmp, plain_cmp, compared, Sum, plain_sum, sum_more, Term, plain_term, term_more, Unary, plain_unary, signed, Prim, plain_prim, call, part, attribute, Index, one_index, range_index, Bound, no_bound, bound, Atom, name, number, text, none, true_word, false_word, empty_tuple, group, list, dict, Exprs, one_expr, several, Rest, end_rest, last_rest, more_rest, Items, no_items, items, Pairs, no_pairs, last_pair, more_pairs}

abbrev pub Read : Type 0 → Type 0
Read A = Option (A × List Token)

abbrev pub go_on : {A B : Type 0} → Read A → (A → List Token → Read B) → Read B
go_on None next = None
go_on (Some (value, rest)) next = next value rest

abbrev pub spot_of : Token → Spot
spot_of t = record { at = t.at; span = t.span }

abbrev pub is_keyword : ℕ → TokenKind → Bool
is_keyword n (Keyword m) = m == n
is_keyword n kind = false

abbrev pub is_sign : ℕ → TokenKind → Bool
is_sign n (Sign m) = m == n
is_sign n kind = false

-- a keyword or a sign, by its number
abbrev pub read_keyword : ℕ → List Token → Read Spot
read_keyword n [] = None
read_keyword n (t ∷ ts) = if is_keyword n t.kind then Some (spot_of t, ts) else None

abbrev pub read_sign : ℕ → List Token → Read Spot
read_sign n [] = None
read_sign n (t ∷ ts) = if is_sign n t.kind then Some (spot_of t, ts) else None

-- the levels at which a token goes on with an expression before it: 1 behind a primary, 2 a product, 3 a sum, 4 a comparison,
-- 5 `and`, 6 `or`, 7 `if`, 8 a comma, and 9 nowhere
abbrev pub sign_level : ℕ → ℕ
sign_level n =
    if (n == 0) || (n == 2) || (n == 8) then 1
    else (if (n == 12) || (n == 13) || (n == 14) then 2
    else (if (n == 10) || (n == 11) then 3
    else (if (n == 15) || (n == 16) || (n == 17) || (n == 18) || (n == 19) || (n == 20) then 4
    else (if n == 6 then 8 else 9))))

abbrev pub keyword_level : ℕ → ℕ
keyword_level n =
    if (n == 22) || (n == 23) || (n == 26) then 4
    else (if n == 3 then 5 else (if n == 27 then 6 else (if n == 20 then 7 else 9)))

abbrev pub kind_level : TokenKind → ℕ
kind_level (Keyword n) = keyword_level n
kind_level (Sign n) = sign_level n
kind_level kind = 9

abbrev pub next_level : List Token → ℕ
next_level [] = 9
next_level (t ∷ ts) = kind_level t.kind

abbrev pub add_sign_of : TokenKind → Option AddSign
add_sign_of kind = if is_sign 10 kind then Some plus else (if is_sign 11 kind then Some minus else None)

abbrev pub mul_sign_of : TokenKind → Option MulSign
mul_sign_of kind = if is_sign 12 kind then Some times else (if is_sign 13 kind then Some floor else (if is_sign 14 kind then Some modulo else None))

-- `is`, or `is not` where `not` was read behind it
abbrev pub is_or_is_not : Spot → Read Spot → List Token → Read CmpSign
is_or_is_not is_at None ts = Some (same is_at, ts)
is_or_is_not is_at (Some (not_at, rest)) ts = Some (not_same is_at not_at, rest)

-- the comparison that these tokens begin with
abbrev pub read_cmp_sign : List Token → Read CmpSign
read_cmp_sign [] = None
read_cmp_sign (t ∷ ts) =
    if is_sign 15 t.kind then Some (equal (spot_of t), ts)
    else (if is_sign 16 t.kind then Some (unequal (spot_of t), ts)
    else (if is_sign 17 t.kind then Some (less (spot_of t), ts)
    else (if is_sign 18 t.kind then Some (less_equal (spot_of t), ts)
    else (if is_sign 19 t.kind then Some (greater (spot_of t), ts)
    else (if is_sign 20 t.kind then Some (greater_equal (spot_of t), ts)
    else (if is_keyword 22 t.kind then Some (within (spot_of t), ts)
    else (if is_keyword 26 t.kind then go_on (read_keyword 22 ts) (λ in_at rest. Some (not_within (spot_of t) in_at, rest))
    else (if is_keyword 23 t.kind then is_or_is_not (spot_of t) (read_keyword 26 ts) ts
    else None))))))))

-- no second comparison stands behind one
abbrev pub no_second : Cmp → List Token → Read Cmp
no_second e rest = if next_level rest == 4 then None else Some (e, rest)

abbrev pub read_name : List Token → Read (Spot × List ℕ)
read_name [] = None
read_name (t ∷ ts) = name_of t.kind t ts
  where
    name_of : TokenKind → Token → List Token → Read (Spot × List ℕ)
    name_of (Word bytes) t ts = Some ((spot_of t, bytes), ts)
    name_of kind t ts = None

-- what stands in round brackets: `()`, or what they group
abbrev pub grouped : Spot → Items → Spot → Atom
grouped opening no_items closing = empty_tuple opening closing
grouped opening (items e) closing = group opening e closing

-- how a token begins an expression: 1 as an atom, 2 as a sign before one, 3 as `not`, 0 not at all
abbrev pub start_class : TokenKind → ℕ
start_class (Word bytes) = 1
start_class (Number value) = 1
start_class (Text bytes) = 1
start_class (Keyword n) = if (n == 0) || (n == 1) || (n == 2) then 1 else (if n == 26 then 3 else 0)
start_class (Sign n) = if (n == 0) || (n == 2) || (n == 4) then 1 else (if (n == 10) || (n == 11) then 2 else 0)

abbrev pub starts : List Token → ℕ
starts [] = 0
starts (t ∷ ts) = start_class t.kind

abbrev pub begins_expr : List Token → Bool
begins_expr ts = nat_lt 0 (starts ts)

abbrev mutual
  pub read_expr : ℕ → List Token → Read Expr
  read_expr zero ts = None
  read_expr (suc n) ts = go_on (read_or n ts) (λ chosen rest. choice_rest n chosen rest)

  pub choice_rest : ℕ → Or → List Token → Read Expr
  choice_rest zero chosen ts = None
  choice_rest (suc n) chosen ts = if next_level ts == 7
      then go_on (read_keyword 20 ts) (λ if_word more. go_on (read_or n more) (λ test more_2. go_on (read_keyword 14 more_2) (λ else_word more_3.
      go_on (read_expr n more_3) (λ other rest. Some (choice chosen if_word test else_word other, rest)))))
      else Some (plain_expr chosen, ts)

  pub read_or : ℕ → List Token → Read Or
  read_or zero ts = None
  read_or (suc n) ts = go_on (read_and n ts) (λ left rest. or_rest n (plain_or left) rest)

  pub or_rest : ℕ → Or → List Token → Read Or
  or_rest zero left ts = None
  or_rest (suc n) left ts = if next_level ts == 6
      then go_on (read_keyword 27 ts) (λ at more. go_on (read_and n more) (λ right rest. or_rest n (or_more left at right) rest))
      else Some (left, ts)

  pub read_and : ℕ → List Token → Read And
  read_and zero ts = None
  read_and (suc n) ts = go_on (read_not n ts) (λ left rest. and_rest n (plain_and left) rest)

  pub and_rest : ℕ → And → List Token → Read And
  and_rest zero left ts = None
  and_rest (suc n) left ts = if next_level ts == 5
      then go_on (read_keyword 3 ts) (λ at more. go_on (read_not n more) (λ right rest. and_rest n (and_more left at right) rest))
      else Some (left, ts)

  pub read_not : ℕ → List Token → Read Not
  read_not zero ts = None
  read_not (suc n) ts = option_map_or (λ found. go_on (read_not n found.1) (λ e rest. Some (not_of found.0 e, rest))) (read_keyword 26 ts) (go_on (read_cmp n ts) (λ e rest. Some (plain_not e, rest)))

  pub read_cmp : ℕ → List Token → Read Cmp
  read_cmp zero ts = None
  read_cmp (suc n) ts = go_on (read_sum n ts) (λ left rest. cmp_rest n left rest)

  pub cmp_rest : ℕ → Sum → List Token → Read Cmp
  cmp_rest zero left ts = None
  cmp_rest (suc n) left ts = if next_level ts == 4
      then go_on (read_cmp_sign ts) (λ op more. go_on (read_sum n more) (λ right rest. no_second (compared left op right) rest))
      else Some (plain_cmp left, ts)

  pub read_sum : ℕ → List Token → Read Sum
  read_sum zero ts = None
  read_sum (suc n) ts = go_on (read_term n ts) (λ left rest. sum_rest n (plain_sum left) rest)

  pub sum_rest : ℕ → Sum → List Token → Read Sum
  sum_rest zero left ts = None
  sum_rest (suc n) left [] = Some (left, [])
  sum_rest (suc n) left (t ∷ ts) = option_map_or (λ op. go_on (read_term n ts) (λ right rest. sum_rest n (sum_more left (spot_of t) op right) rest)) (add_sign_of t.kind) (Some (left, t ∷ ts))

  pub read_term : ℕ → List Token → Read Term
  read_term zero ts = None
  read_term (suc n) ts = go_on (read_unary n ts) (λ left rest. term_rest n (plain_term left) rest)

  pub term_rest : ℕ → Term → List Token → Read Term
  term_rest zero left ts = None
  term_rest (suc n) left [] = Some (left, [])
  term_rest (suc n) left (t ∷ ts) = option_map_or (λ op. go_on (read_unary n ts) (λ right rest. term_rest n (term_more left (spot_of t) op right) rest)) (mul_sign_of t.kind) (Some (left, t ∷ ts))

  pub read_unary : ℕ → List Token → Read Unary
  read_unary zero ts = None
  read_unary (suc n) [] = None
  read_unary (suc n) (t ∷ ts) = option_map_or (λ op. go_on (read_unary n ts) (λ e rest. Some (signed (spot_of t) op e, rest))) (add_sign_of t.kind) (go_on (read_prim n (t ∷ ts)) (λ e rest. Some (plain_unary e, rest)))

  pub read_prim : ℕ → List Token → Read Prim
  read_prim zero ts = None
  read_prim (suc n) ts = go_on (read_atom n ts) (λ e rest. prim_rest n (plain_prim e) rest)

  pub prim_rest : ℕ → Prim → List Token → Read Prim
  prim_rest zero e ts = None
  prim_rest (suc n) e [] = Some (e, [])
  prim_rest (suc n) e (t ∷ ts) =
      if is_sign 0 t.kind then go_on (read_items n 1 ts) (λ arguments more. go_on (read_sign 1 more) (λ closing rest. prim_rest n (call e (spot_of t) arguments closing) rest))
      else (if is_sign 2 t.kind then go_on (read_index n ts) (λ index more. go_on (read_sign 3 more) (λ closing rest. prim_rest n (part e (spot_of t) index closing) rest))
      else (if is_sign 8 t.kind then go_on (read_name ts) (λ found rest. prim_rest n (attribute e (spot_of t) found.0 found.1) rest)
      else Some (e, t ∷ ts)))

  pub read_index : ℕ → List Token → Read Index
  read_index zero ts = None
  read_index (suc n) [] = None
  read_index (suc n) (t ∷ ts) =
      if is_sign 7 t.kind then go_on (read_bound n ts) (λ high rest. Some (range_index no_bound (spot_of t) high, rest))
      else go_on (read_exprs n (t ∷ ts)) (λ e rest. index_rest n e rest)

  pub index_rest : ℕ → Exprs → List Token → Read Index
  index_rest zero e ts = None
  index_rest (suc n) (several e comma more) ts = Some (one_index (several e comma more), ts)
  index_rest (suc n) (one_expr e) [] = Some (one_index (one_expr e), [])
  index_rest (suc n) (one_expr e) (t ∷ ts) =
      if is_sign 7 t.kind then go_on (read_bound n ts) (λ high rest. Some (range_index (bound e) (spot_of t) high, rest)) else Some (one_index (one_expr e), t ∷ ts)

  -- a bound of a slice, which `]` ends
  pub read_bound : ℕ → List Token → Read Bound
  read_bound zero ts = None
  read_bound (suc n) [] = None
  read_bound (suc n) (t ∷ ts) = if is_sign 3 t.kind then Some (no_bound, t ∷ ts) else go_on (read_expr n (t ∷ ts)) (λ e rest. Some (bound e, rest))

  pub read_atom : ℕ → List Token → Read Atom
  read_atom zero ts = None
  read_atom (suc n) [] = None
  read_atom (suc n) (t ∷ ts) = atom_of n t.kind t ts

  pub atom_of : ℕ → TokenKind → Token → List Token → Read Atom
  atom_of zero kind t ts = None
  atom_of (suc n) (Word bytes) t ts = Some (name (spot_of t) bytes, ts)
  atom_of (suc n) (Number (pos value)) t ts = Some (number (spot_of t) value, ts)
  atom_of (suc n) (Number (negsuc value)) t ts = None
  atom_of (suc n) (Text bytes) t ts = Some (text (spot_of t) bytes, ts)
  atom_of (suc n) (Keyword word) t ts =
      if word == 1 then Some (none (spot_of t), ts) else (if word == 2 then Some (true_word (spot_of t), ts) else (if word == 0 then Some (false_word (spot_of t), ts) else None))
  atom_of (suc n) (Sign sign) t ts =
      if sign == 0 then go_on (read_items n 1 ts) (λ found more. go_on (read_sign 1 more) (λ closing rest. Some (grouped (spot_of t) found closing, rest)))
      else (if sign == 2 then go_on (read_items n 3 ts) (λ found more. go_on (read_sign 3 more) (λ closing rest. Some (list (spot_of t) found closing, rest)))
      else (if sign == 4 then go_on (read_pairs n ts) (λ found more. go_on (read_sign 5 more) (λ closing rest. Some (dict (spot_of t) found closing, rest)))
      else None))

  -- items up to this closing sign
  pub read_items : ℕ → ℕ → List Token → Read Items
  read_items zero closing ts = None
  read_items (suc n) closing [] = None
  read_items (suc n) closing (t ∷ ts) = if is_sign closing t.kind then Some (no_items, t ∷ ts) else go_on (read_exprs n (t ∷ ts)) (λ e rest. Some (items e, rest))

  pub read_exprs : ℕ → List Token → Read Exprs
  read_exprs zero ts = None
  read_exprs (suc n) ts = go_on (read_expr n ts) (λ e rest. exprs_rest n e rest)

  pub exprs_rest : ℕ → Expr → List Token → Read Exprs
  exprs_rest zero e ts = None
  exprs_rest (suc n) e ts = if next_level ts == 8 then go_on (read_sign 6 ts) (λ comma more. go_on (read_rest n more) (λ found rest. Some (several e comma found, rest))) else Some (one_expr e, ts)

  -- what stands behind a comma: nothing where no expression begins
  pub read_rest : ℕ → List Token → Read Rest
  read_rest zero ts = None
  read_rest (suc n) ts = if begins_expr ts then go_on (read_expr n ts) (λ e rest. rest_rest n e rest) else Some (end_rest, ts)

  pub rest_rest : ℕ → Expr → List Token → Read Rest
  rest_rest zero e ts = None
  rest_rest (suc n) e ts = if next_level ts == 8 then go_on (read_sign 6 ts) (λ comma more. go_on (read_rest n more) (λ found rest. Some (more_rest e comma found, rest))) else Some (last_rest e, ts)

  -- pairs up to `}`
  pub read_pairs : ℕ → List Token → Read Pairs
  read_pairs zero ts = None
  read_pairs (suc n) [] = None
  read_pairs (suc n) (t ∷ ts) = if is_sign 5 t.kind then Some (no_pairs, t ∷ ts)
      else go_on (read_expr n (t ∷ ts)) (λ key more. go_on (read_sign 7 more) (λ colon more_2. go_on (read_expr n more_2) (λ value rest. pairs_rest n key colon value rest)))

  pub pairs_rest : ℕ → Expr → Spot → Expr → List Token → Read Pairs
  pairs_rest zero key colon value ts = None
  pairs_rest (suc n) key colon value ts = if next_level ts == 8
      then go_on (read_sign 6 ts) (λ comma more. go_on (read_pairs n more) (λ found rest. Some (more_pairs key colon value comma found, rest)))
      else Some (last_pair key colon value, ts)

abbrev pub is_word : TokenKind → Bool
is_word (Word bytes) = true
is_word kind = false

abbrev pub begins_name : List Token → Bool
begins_name [] = false
begins_name (t ∷ ts) = is_word t.kind
