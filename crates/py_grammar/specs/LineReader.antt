-- A reader of the tokens of one line: a simple statement, or what begins a compound one or a part of it. Of it public clauses cite
-- `Head` and `head_tokens` alone.
use Rattle.py_expressions.specs.Reader.{begins_name, Read, go_on, spot_of, is_keyword, is_sign, read_sign, read_keyword, read_name, read_expr, read_exprs, read_prim, next_level, begins_expr}
use Rattle.std.specs.Prelude.{ℕ, zero, suc, ◌==◌, List, [], ◌∷◌, ◌++◌, codes, Option, Some, None, option_map, if◌then◌else◌}
use Rattle.py_lines.specs.declared.parts.Token.{Token}
use Rattle.py_expressions.specs.Concrete.{Spot, Expr, Exprs}
use Rattle.py_expressions.specs.Tokens.{keyword, sign, word, expr_tokens, exprs_tokens}
use Rattle.py_expressions.specs.Targets.{prim_target, OneTarget, TargetRest, end_rest_target, last_target, more_target, Target, one_target, several_targets}
use Rattle.py_grammar.specs.StatementReader.{read_simple}
use Rattle.py_grammar.specs.StatementTokens.{simple_tokens, target_tokens, names_tokens, params_tokens, naming_tokens, kind_tokens, base_tokens}
use Rattle.py_grammar.specs.Written.{Simple, Names, last_name, more_names, Params, no_params, params, params_comma, Naming, no_naming, naming, Kind, every_kind, one_kind, Base, no_base, empty_base, base}

-- what one line begins, with the simple statement behind its `:`, if one stands there
pub data Head : Type 0 where
  simple_head : Simple → Head
  if_head : Spot → Expr → (colon : Spot) → Option Simple → Head
  elif_head : Spot → Expr → (colon : Spot) → Option Simple → Head
  else_head : Spot → (colon : Spot) → Option Simple → Head
  while_head : Spot → Expr → (colon : Spot) → Option Simple → Head
  for_head : Spot → Target → (in_word : Spot) → Exprs → (colon : Spot) → Option Simple → Head
  try_head : Spot → (colon : Spot) → Option Simple → Head
  except_head : Spot → Kind → (colon : Spot) → Option Simple → Head
  with_head : Spot → Expr → Naming → (colon : Spot) → Option Simple → Head
  def_head : Spot → (name_at : Spot) → (name : List ℕ) → (opening : Spot) → Params → (closing colon : Spot) → Option Simple → Head
  class_head : Spot → (name_at : Spot) → (name : List ℕ) → Base → (colon : Spot) → Option Simple → Head
  global_head : Spot → Names → Head

abbrev pub behind_tokens : Option Simple → List Token
behind_tokens None = []
behind_tokens (Some s) = simple_tokens s

abbrev pub colon_tokens : Spot → Option Simple → List Token
colon_tokens colon behind = sign (codes ":") colon ++ behind_tokens behind

abbrev pub head_tokens : Head → List Token
head_tokens (simple_head s) = simple_tokens s
head_tokens (if_head at test colon behind) = keyword (codes "if") at ++ (expr_tokens test ++ colon_tokens colon behind)
head_tokens (elif_head at test colon behind) = keyword (codes "elif") at ++ (expr_tokens test ++ colon_tokens colon behind)
head_tokens (else_head at colon behind) = keyword (codes "else") at ++ colon_tokens colon behind
head_tokens (while_head at test colon behind) = keyword (codes "while") at ++ (expr_tokens test ++ colon_tokens colon behind)
head_tokens (for_head at t in_word e colon behind) = keyword (codes "for") at ++ (target_tokens t ++ (keyword (codes "in") in_word ++ (exprs_tokens e ++ colon_tokens colon behind)))
head_tokens (try_head at colon behind) = keyword (codes "try") at ++ colon_tokens colon behind
head_tokens (except_head at kind colon behind) = keyword (codes "except") at ++ (kind_tokens kind ++ colon_tokens colon behind)
head_tokens (with_head at e called colon behind) = keyword (codes "with") at ++ (expr_tokens e ++ (naming_tokens called ++ colon_tokens colon behind))
head_tokens (def_head at name_at bytes opening given closing colon behind) =
    keyword (codes "def") at ++ (word bytes name_at ++ (sign (codes "(") opening ++ (params_tokens given ++ (sign (codes ")") closing ++ colon_tokens colon behind))))
head_tokens (class_head at name_at bytes of colon behind) = keyword (codes "class") at ++ (word bytes name_at ++ (base_tokens of ++ colon_tokens colon behind))
head_tokens (global_head at names) = keyword (codes "global") at ++ names_tokens names

-- ---- reading

abbrev pub read_behind : ℕ → List Token → Option (Option Simple)
read_behind n [] = Some None
read_behind n (t ∷ ts) = option_map Some (read_simple n (t ∷ ts))

-- `:` and what stands behind it
abbrev pub read_colon : ℕ → (Spot → Option Simple → Head) → List Token → Option Head
read_colon n head [] = None
read_colon n head (t ∷ ts) = if is_sign 7 t.kind then option_map (head (spot_of t)) (read_behind n ts) else None

abbrev pub then_read : {A B : Type 0} → Read A → (A → List Token → Option B) → Option B
then_read None next = None
then_read (Some (value, rest)) next = next value rest

abbrev pub read_one_target : ℕ → List Token → Read OneTarget
read_one_target n ts = go_on (read_prim n ts) (λ p rest. option_map (λ t. (t, rest)) (prim_target p))

abbrev mutual
  pub read_target_rest : ℕ → List Token → Read TargetRest
  read_target_rest zero ts = None
  read_target_rest (suc n) ts = if begins_expr ts then go_on (read_one_target n ts) (λ t rest. target_rest_after n t rest) else Some (end_rest_target, ts)

  pub target_rest_after : ℕ → OneTarget → List Token → Read TargetRest
  target_rest_after zero t ts = None
  target_rest_after (suc n) t ts = if next_level ts == 8
      then go_on (read_sign 6 ts) (λ comma more. go_on (read_target_rest n more) (λ found rest. Some (more_target t comma found, rest))) else Some (last_target t, ts)

abbrev pub read_target : ℕ → List Token → Read Target
read_target n ts = go_on (read_one_target n ts) (λ t rest. if next_level rest == 8
    then go_on (read_sign 6 rest) (λ comma more. go_on (read_target_rest n more) (λ found left. Some (several_targets t comma found, left))) else Some (one_target t, rest))

-- names up to one that no comma with a name follows
abbrev mutual
  pub read_names : ℕ → List Token → Read Names
  read_names zero ts = None
  read_names (suc n) ts = go_on (read_name ts) (λ found rest. names_after n found.0 found.1 rest)

  pub names_after : ℕ → Spot → List ℕ → List Token → Read Names
  names_after zero at bytes ts = None
  names_after (suc n) at bytes [] = Some (last_name at bytes, [])
  names_after (suc n) at bytes (t ∷ ts) = if is_sign 6 t.kind
      then (if begins_name ts then go_on (read_names n ts) (λ found rest. Some (more_names at bytes (spot_of t) found, rest)) else Some (last_name at bytes, t ∷ ts))
      else Some (last_name at bytes, t ∷ ts)

abbrev pub params_after : Names → List Token → Read Params
params_after names [] = Some (params names, [])
params_after names (t ∷ ts) = if is_sign 6 t.kind then Some (params_comma names (spot_of t), ts) else Some (params names, t ∷ ts)

abbrev pub read_params : ℕ → List Token → Read Params
read_params n ts = if begins_name ts then go_on (read_names n ts) params_after else Some (no_params, ts)

abbrev pub read_naming : List Token → Read Naming
read_naming [] = Some (no_naming, [])
read_naming (t ∷ ts) = if is_keyword 4 t.kind then go_on (read_name ts) (λ found rest. Some (naming (spot_of t) found.0 found.1, rest)) else Some (no_naming, t ∷ ts)

abbrev pub read_kind : ℕ → List Token → Read Kind
read_kind n ts = if begins_expr ts then go_on (read_expr n ts) (λ e rest. go_on (read_naming rest) (λ called left. Some (one_kind e called, left))) else Some (every_kind, ts)

abbrev pub read_base : List Token → Read Base
read_base [] = Some (no_base, [])
read_base (t ∷ ts) = if is_sign 0 t.kind
    then (if begins_name ts then go_on (read_name ts) (λ found rest. go_on (read_sign 1 rest) (λ closing left. Some (base (spot_of t) found.0 found.1 closing, left)))
    else go_on (read_sign 1 ts) (λ closing left. Some (empty_base (spot_of t) closing, left)))
    else Some (no_base, t ∷ ts)

abbrev pub global_end : Spot → Names → List Token → Option Head
global_end at names [] = Some (global_head at names)
global_end at names (t ∷ ts) = None

abbrev pub read_head : ℕ → List Token → Option Head
read_head n [] = None
read_head n (t ∷ ts) =
    if is_keyword 20 t.kind then then_read (read_expr n ts) (λ test rest. read_colon n (if_head (spot_of t) test) rest)
    else (if is_keyword 13 t.kind then then_read (read_expr n ts) (λ test rest. read_colon n (elif_head (spot_of t) test) rest)
    else (if is_keyword 14 t.kind then read_colon n (else_head (spot_of t)) ts
    else (if is_keyword 32 t.kind then then_read (read_expr n ts) (λ test rest. read_colon n (while_head (spot_of t) test) rest)
    else (if is_keyword 17 t.kind then then_read (read_target n ts) (λ target more. then_read (read_keyword 22 more) (λ in_word more_2. then_read (read_exprs n more_2) (λ e rest. read_colon n (for_head (spot_of t) target in_word e) rest)))
    else (if is_keyword 31 t.kind then read_colon n (try_head (spot_of t)) ts
    else (if is_keyword 15 t.kind then then_read (read_kind n ts) (λ kind rest. read_colon n (except_head (spot_of t) kind) rest)
    else (if is_keyword 33 t.kind then then_read (read_expr n ts) (λ e more. then_read (read_naming more) (λ called rest. read_colon n (with_head (spot_of t) e called) rest))
    else (if is_keyword 11 t.kind then then_read (read_name ts) (λ found more. then_read (read_sign 0 more) (λ opening more_2. then_read (read_params n more_2) (λ given more_3. then_read (read_sign 1 more_3) (λ closing rest. read_colon n (def_head (spot_of t) found.0 found.1 opening given closing) rest))))
    else (if is_keyword 9 t.kind then then_read (read_name ts) (λ found more. then_read (read_base more) (λ of rest. read_colon n (class_head (spot_of t) found.0 found.1 of) rest))
    else (if is_keyword 19 t.kind then then_read (read_names n ts) (λ names rest. global_end (spot_of t) names rest)
    else option_map simple_head (read_simple n (t ∷ ts))))))))))))
