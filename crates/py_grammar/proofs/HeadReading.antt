-- What a line begins is read from its tokens.
use Rattle.std.proofs.Common.{◌≡◌, inl, ℕ, suc, ◌+◌, ◌<◌, nat_lt, Bool, true, false, not, List, [], ◌∷◌, ◌++◌, Option, Some, None, option_map, refl, ap, sym, ◌∙◌, arith, append_assoc, append-nil, if◌then◌else◌}
use Rattle.std.specs.Prelude.{◌==◌}
use Rattle.std.proofs.lemmas.Bool.{leb-false}
use Rattle.py_lines.specs.declared.parts.Token.{Token}
use Rattle.py_lines.specs.declared.parts.TokenKind.TheVariants.{Keyword, Sign}
use Rattle.py_expressions.specs.Concrete.{Spot, Expr, Prim, plain_prim, part, attribute, name, one_index, Exprs}
use Rattle.py_expressions.specs.Tokens.{token, word, expr_tokens, exprs_tokens, prim_tokens}
use Rattle.py_expressions.specs.Reader.{go_on, spot_of, start_class, starts, next_level, is_keyword, is_sign, read_sign, read_keyword, read_expr, read_exprs, read_prim, begins_expr, begins_name}
use Rattle.py_expressions.specs.Targets.{prim_target, OneTarget, named, item, field, TargetRest, end_rest_target, last_target, more_target, Target, one_target, several_targets}
use Rattle.py_grammar.specs.StatementReader.{read_simple}
use Rattle.py_grammar.specs.StatementTokens.{one_target_tokens, target_rest_tokens, target_tokens, simple_tokens, names_tokens, params_tokens, naming_tokens, kind_tokens, base_tokens}
use Rattle.py_grammar.specs.LineReader.{Head, simple_head, if_head, elif_head, else_head, while_head, for_head, try_head, except_head, with_head, def_head, class_head, global_head, behind_tokens, colon_tokens, head_tokens, read_behind, read_colon, then_read, read_one_target, read_target_rest, target_rest_after, read_target, read_names, names_after, params_after, read_params, read_naming, read_kind, read_base, global_end, read_head}
use Rattle.py_grammar.specs.Written.{Simple, expression, assign, augmented, add_to, take_from, multiply_by, divide_by, leave_of, del, pass, break, continue, return, return_value, raise, raise_value, assert, assert_message, import_module, Names, last_name, more_names, Params, no_params, params, params_comma, Naming, no_naming, naming, Kind, every_kind, one_kind, Base, no_base, empty_base, base}
use Rattle.py_expressions.proofs.Leading.{Reads}
use Rattle.py_expressions.proofs.Firsts.{IsStart, is_above, prim_starts, expr_starts}
use Rattle.py_expressions.proofs.Reading.{expr_reads, exprs_read, prim_leads, prim_stops, if_false, if_true}
use Rattle.py_grammar.proofs.SimpleReading.{simple_reads, start_of_exprs, kw_class}

more_steps : {A : Type 0} (f : ℕ → A) (m n : ℕ) → m ≡ n → f m ≡ f n
more_steps f m n is = ap f is

pub record ReadsHead (tokens : List Token) (value : Head) : Type 0 where
  pub steps : ℕ
  pub reads : (n : ℕ) → read_head (n + steps) tokens ≡ Some value

-- ---- what stands behind `:`

pub record ReadsBehind (value : Option Simple) : Type 0 where
  pub steps : ℕ
  pub reads : (n : ℕ) → read_behind (n + steps) (behind_tokens value) ≡ Some value

not_nothing : (m : ℕ) (ts : List Token) (s : Simple) → read_simple m ts ≡ Some s → read_behind m ts ≡ Some (Some s)
not_nothing m [] s is = cc
not_nothing m (t ∷ ts) s is = ap (option_map Some) is

behind_reads : (behind : Option Simple) → ReadsBehind behind
behind_reads None = record { steps = 0; reads = λ n. refl }
behind_reads (Some s) = let is = simple_reads s in record { steps = is.steps; reads = λ n. not_nothing (n + is.steps) (simple_tokens s) s (is.reads n) }

colon_reads : (head : Spot → Option Simple → Head) (colon : Spot) (behind : Option Simple) (n : ℕ) → read_colon (n + (behind_reads behind).steps) head (colon_tokens colon behind) ≡ Some (head colon behind)
colon_reads head colon behind n = ap (option_map (head colon)) ((behind_reads behind).reads n)

-- an expression and then `:`
after_expr : (head : Expr → Spot → Option Simple → Head) (e : Expr) (colon : Spot) (behind : Option Simple) (n : ℕ)
    → then_read (read_expr (n + ((expr_reads e).steps + (behind_reads behind).steps)) (expr_tokens e ++ colon_tokens colon behind)) (λ test rest. read_colon (n + ((expr_reads e).steps + (behind_reads behind).steps)) (head test) rest) ≡ Some (head e colon behind)
after_expr head e colon behind n =
    let k : ℕ = n + ((expr_reads e).steps + (behind_reads behind).steps) in
    more_steps (λ m. then_read (read_expr m (expr_tokens e ++ colon_tokens colon behind)) (λ test rest. read_colon k (head test) rest)) k ((n + (behind_reads behind).steps) + (expr_reads e).steps) (omega arith)
    ∙ ap (λ r. then_read r (λ test rest. read_colon k (head test) rest)) ((expr_reads e).reads (n + (behind_reads behind).steps) (colon_tokens colon behind) (omega arith))
    ∙ more_steps (λ m. read_colon m (head e) (colon_tokens colon behind)) k ((n + (expr_reads e).steps) + (behind_reads behind).steps) (omega arith)
    ∙ colon_reads (head e) colon behind (n + (expr_reads e).steps)

-- ---- targets

abbrev pub target_prim : OneTarget → Prim
target_prim (named at bytes) = plain_prim (name at bytes)
target_prim (item p opening index closing) = part p opening (one_index index) closing
target_prim (field p dot name_at bytes) = attribute p dot name_at bytes

prim_spells : (t : OneTarget) → one_target_tokens t ≡ prim_tokens (target_prim t)
prim_spells (named at bytes) = refl
prim_spells (item p opening index closing) = refl
prim_spells (field p dot name_at bytes) = refl

prim_back : (t : OneTarget) → prim_target (target_prim t) ≡ Some t
prim_back (named at bytes) = refl
prim_back (item p opening index closing) = refl
prim_back (field p dot name_at bytes) = refl

prim_reads : (p : Prim) → Reads read_prim 1 (prim_tokens p) p
prim_reads p = prim_stops p (prim_leads p)

pub one_target_reads : (t : OneTarget) → Reads read_one_target 1 (one_target_tokens t) t
one_target_reads t = let is = prim_reads (target_prim t) in record {
  steps = is.steps;
  reads = λ n rest beyond.
      ap (λ ts. read_one_target (n + is.steps) (ts ++ rest)) (prim_spells t)
      ∙ ap (λ r. go_on r (λ p rest. option_map (λ t. (t, rest)) (prim_target p))) (is.reads n rest beyond)
      ∙ ap (λ o. option_map (λ t. (t, rest)) o) (prim_back t);
}

pub target_starts : (t : OneTarget) (rest : List Token) → starts (one_target_tokens t ++ rest) ≡ 1
target_starts t rest = ap (λ ts. starts (ts ++ rest)) (prim_spells t) ∙ prim_starts (target_prim t) rest

-- read up to a token that is no comma and begins no expression
pub record ReadsTargets (tokens : List Token) (value : TargetRest) : Type 0 where
  pub steps : ℕ
  pub reads : (n : ℕ) (rest : List Token) → 1 < next_level rest → (next_level rest == 8) ≡ false → starts rest ≡ 0 → read_target_rest (n + steps) (tokens ++ rest) ≡ Some (value, rest)

pub begins_target : (t : OneTarget) (n : ℕ) (rest : List Token) → read_target_rest (suc n) (one_target_tokens t ++ rest) ≡ go_on (read_one_target n (one_target_tokens t ++ rest)) (λ t rest. target_rest_after n t rest)
begins_target t n rest = ap (λ c. if nat_lt 0 c then go_on (read_one_target n (one_target_tokens t ++ rest)) (λ t rest. target_rest_after n t rest) else Some (end_rest_target, one_target_tokens t ++ rest)) (target_starts t rest)

pub target_rest_reads : (r : TargetRest) → ReadsTargets (target_rest_tokens r) r
target_rest_reads end_rest_target = record {
  steps = 1;
  reads = λ n rest beyond no_comma ends.
      more_steps (λ m. read_target_rest m rest) (n + 1) (suc n) (omega arith)
      ∙ ap (λ c. if nat_lt 0 c then go_on (read_one_target n rest) (λ t rest. target_rest_after n t rest) else Some (end_rest_target, rest)) ends;
}
target_rest_reads (last_target t) = let is = one_target_reads t in record {
  steps = suc (suc is.steps);
  reads = λ n rest beyond no_comma ends.
      more_steps (λ m. read_target_rest m (one_target_tokens t ++ rest)) (n + suc (suc is.steps)) (suc (suc n + is.steps)) (omega arith)
      ∙ begins_target t (suc n + is.steps) rest
      ∙ ap (λ r. go_on r (λ t rest. target_rest_after (suc n + is.steps) t rest)) (is.reads (suc n) rest beyond)
      ∙ more_steps (λ m. target_rest_after m t rest) (suc n + is.steps) (suc (n + is.steps)) (omega arith)
      ∙ if_false (next_level rest == 8) _ _ no_comma;
}
target_rest_reads (more_target t comma r) = let is = one_target_reads t in let next = target_rest_reads r in record {
  steps = suc (suc (is.steps + next.steps));
  reads = λ n rest beyond no_comma ends.
      let c : Token = token (Sign 6) comma in
      more_steps (λ m. read_target_rest m ((one_target_tokens t ++ (c ∷ target_rest_tokens r)) ++ rest)) (n + suc (suc (is.steps + next.steps))) (suc ((suc n + next.steps) + is.steps)) (omega arith)
      ∙ ap (read_target_rest (suc ((suc n + next.steps) + is.steps))) (append_assoc (one_target_tokens t) (c ∷ target_rest_tokens r) rest)
      ∙ begins_target t ((suc n + next.steps) + is.steps) (c ∷ target_rest_tokens r ++ rest)
      ∙ ap (λ r. go_on r (λ t rest. target_rest_after ((suc n + next.steps) + is.steps) t rest)) (is.reads (suc n + next.steps) (c ∷ target_rest_tokens r ++ rest) (omega arith))
      ∙ more_steps (λ m. target_rest_after m t (c ∷ target_rest_tokens r ++ rest)) ((suc n + next.steps) + is.steps) (suc ((n + is.steps) + next.steps)) (omega arith)
      ∙ ap (λ r. go_on r (λ found rest. Some (more_target t comma found, rest))) (next.reads (n + is.steps) rest beyond no_comma ends);
}

-- a `for` target, behind which `in` stands
pub record ReadsTarget (tokens : List Token) (value : Target) : Type 0 where
  pub steps : ℕ
  pub reads : (n : ℕ) (in_word : Spot) (rest : List Token) → read_target (n + steps) (tokens ++ (token (Keyword 22) in_word ∷ rest)) ≡ Some (value, token (Keyword 22) in_word ∷ rest)

pub target_reads : (t : Target) → ReadsTarget (target_tokens t) t
target_reads (one_target t) = let is = one_target_reads t in record {
  steps = is.steps;
  reads = λ n in_word rest. ap (λ r. go_on r (λ t rest. if next_level rest == 8
      then go_on (read_sign 6 rest) (λ comma more. go_on (read_target_rest (n + is.steps) more) (λ found left. Some (several_targets t comma found, left))) else Some (one_target t, rest))) (is.reads n (token (Keyword 22) in_word ∷ rest) (omega arith));
}
target_reads (several_targets t comma r) = let is = one_target_reads t in let next = target_rest_reads r in record {
  steps = is.steps + next.steps;
  reads = λ n in_word rest.
      let k : ℕ = n + (is.steps + next.steps) in
      let c : Token = token (Sign 6) comma in
      let i : List Token = token (Keyword 22) in_word ∷ rest in
      ap (read_target k) (append_assoc (one_target_tokens t) (c ∷ target_rest_tokens r) i)
      ∙ more_steps (λ m. go_on (read_one_target m (one_target_tokens t ++ (c ∷ target_rest_tokens r ++ i))) (λ t rest. if next_level rest == 8
      then go_on (read_sign 6 rest) (λ comma more. go_on (read_target_rest k more) (λ found left. Some (several_targets t comma found, left))) else Some (one_target t, rest))) k ((n + next.steps) + is.steps) (omega arith)
      ∙ ap (λ r. go_on r (λ t rest. if next_level rest == 8
      then go_on (read_sign 6 rest) (λ comma more. go_on (read_target_rest k more) (λ found left. Some (several_targets t comma found, left))) else Some (one_target t, rest))) (is.reads (n + next.steps) (c ∷ target_rest_tokens r ++ i) (omega arith))
      ∙ more_steps (λ m. go_on (read_target_rest m (target_rest_tokens r ++ i)) (λ found left. Some (several_targets t comma found, left))) k ((n + is.steps) + next.steps) (omega arith)
      ∙ ap (λ r. go_on r (λ found left. Some (several_targets t comma found, left))) (next.reads (n + is.steps) i (omega arith) refl refl);
}

-- ---- names

-- no comma with a name behind it follows
abbrev pub ends_names : List Token → Bool
ends_names [] = true
ends_names (t ∷ ts) = if is_sign 6 t.kind then not (begins_name ts) else true

pub record ReadsNames (tokens : List Token) (value : Names) : Type 0 where
  pub steps : ℕ
  pub reads : (n : ℕ) (rest : List Token) → ends_names rest ≡ true → read_names (n + steps) (tokens ++ rest) ≡ Some (value, rest)

names_end : (n : ℕ) (at : Spot) (bytes : List ℕ) (rest : List Token) → ends_names rest ≡ true → names_after (suc n) at bytes rest ≡ Some (last_name at bytes, rest)
names_end n at bytes [] ends = refl
names_end n at bytes (t ∷ ts) ends = by (is_sign 6 t.kind) (begins_name ts) ends
  where
    by : (a b : Bool) → (if a then not b else true) ≡ true
        → (if a then (if b then go_on (read_names n ts) (λ found rest. Some (more_names at bytes (spot_of t) found, rest)) else Some (last_name at bytes, t ∷ ts)) else Some (last_name at bytes, t ∷ ts)) ≡ Some (last_name at bytes, t ∷ ts)
    by false b is = refl
    by true false is = refl
    by true true is = cc

names_reads : (names : Names) → ReadsNames (names_tokens names) names
names_reads (last_name at bytes) = record {
  steps = 2;
  reads = λ n rest ends. more_steps (λ m. read_names m (word bytes at ++ rest)) (n + 2) (suc (suc n)) (omega arith) ∙ names_end n at bytes rest ends;
}
names_reads (more_names at bytes comma names) = let is = names_reads names in record {
  steps = suc (suc is.steps);
  reads = λ n rest ends.
      more_steps (λ m. read_names m (word bytes at ++ (token (Sign 6) comma ∷ names_tokens names ++ rest))) (n + suc (suc is.steps)) (suc (suc (n + is.steps))) (omega arith)
      ∙ if_true (begins_name (names_tokens names ++ rest)) _ _ (name_first names rest)
      ∙ ap (λ r. go_on r (λ found rest. Some (more_names at bytes comma found, rest))) (is.reads n rest ends);
}
  where
    name_first : (names : Names) (rest : List Token) → begins_name (names_tokens names ++ rest) ≡ true
    name_first (last_name at bytes) rest = refl
    name_first (more_names at bytes comma names) rest = refl

begins_with_name : (names : Names) (rest : List Token) → begins_name (names_tokens names ++ rest) ≡ true
begins_with_name (last_name at bytes) rest = refl
begins_with_name (more_names at bytes comma names) rest = refl

-- parameters, behind which `)` stands
pub record ReadsParams (tokens : List Token) (value : Params) : Type 0 where
  pub steps : ℕ
  pub reads : (n : ℕ) (closing : Spot) (rest : List Token) → read_params (n + steps) (tokens ++ (token (Sign 1) closing ∷ rest)) ≡ Some (value, token (Sign 1) closing ∷ rest)

pub params_reads : (given : Params) → ReadsParams (params_tokens given) given
params_reads no_params = record { steps = 0; reads = λ n closing rest. refl }
params_reads (params names) = let is = names_reads names in record {
  steps = is.steps;
  reads = λ n closing rest.
      if_true (begins_name (names_tokens names ++ (token (Sign 1) closing ∷ rest))) _ _ (begins_with_name names (token (Sign 1) closing ∷ rest))
      ∙ ap (λ r. go_on r params_after) (is.reads n (token (Sign 1) closing ∷ rest) refl);
}
params_reads (params_comma names comma) = let is = names_reads names in record {
  steps = is.steps;
  reads = λ n closing rest.
      ap (read_params (n + is.steps)) (append_assoc (names_tokens names) (token (Sign 6) comma ∷ []) (token (Sign 1) closing ∷ rest))
      ∙ if_true (begins_name (names_tokens names ++ (token (Sign 6) comma ∷ token (Sign 1) closing ∷ rest))) _ _ (begins_with_name names (token (Sign 6) comma ∷ token (Sign 1) closing ∷ rest))
      ∙ ap (λ r. go_on r params_after) (is.reads n (token (Sign 6) comma ∷ token (Sign 1) closing ∷ rest) refl);
}

pub naming_reads : (called : Naming) (colon : Spot) (rest : List Token) → read_naming (naming_tokens called ++ (token (Sign 7) colon ∷ rest)) ≡ Some (called, token (Sign 7) colon ∷ rest)
naming_reads no_naming colon rest = refl
naming_reads (naming as_word name_at bytes) colon rest = refl

pub naming_level : (called : Naming) (colon : Spot) (rest : List Token) → next_level (naming_tokens called ++ (token (Sign 7) colon ∷ rest)) ≡ 9
naming_level no_naming colon rest = refl
naming_level (naming as_word name_at bytes) colon rest = refl

pub base_reads : (of : Base) (colon : Spot) (rest : List Token) → read_base (base_tokens of ++ (token (Sign 7) colon ∷ rest)) ≡ Some (of, token (Sign 7) colon ∷ rest)
base_reads no_base colon rest = refl
base_reads (empty_base opening closing) colon rest = refl
base_reads (base opening name_at bytes closing) colon rest = refl

pub record ReadsKind (tokens : List Token) (value : Kind) : Type 0 where
  pub steps : ℕ
  pub reads : (n : ℕ) (colon : Spot) (rest : List Token) → read_kind (n + steps) (tokens ++ (token (Sign 7) colon ∷ rest)) ≡ Some (value, token (Sign 7) colon ∷ rest)

begins_true : (c : ℕ) → 0 < c → nat_lt 0 c ≡ true
begins_true c above = by (nat_lt 0 c) refl
  where
    by : (b : Bool) → nat_lt 0 c ≡ b → b ≡ true
    by true is = refl
    by false is = absurd (omega (arith, above, leb-false 1 c is))

pub kind_reads : (kind : Kind) → ReadsKind (kind_tokens kind) kind
kind_reads every_kind = record { steps = 0; reads = λ n colon rest. refl }
kind_reads (one_kind e called) = let is = expr_reads e in record {
  steps = is.steps;
  reads = λ n colon rest.
      let c : List Token = token (Sign 7) colon ∷ rest in
      let level = naming_level called colon rest in
      ap (read_kind (n + is.steps)) (append_assoc (expr_tokens e) (naming_tokens called) c)
      ∙ if_true (begins_expr (expr_tokens e ++ (naming_tokens called ++ c))) _ _ (begins_true (starts (expr_tokens e ++ (naming_tokens called ++ c))) (is_above (starts (expr_tokens e ++ (naming_tokens called ++ c))) (expr_starts e (naming_tokens called ++ c))))
      ∙ ap (λ r. go_on r (λ e rest. go_on (read_naming rest) (λ called left. Some (one_kind e called, left)))) (is.reads n (naming_tokens called ++ c) (omega (arith, level)))
      ∙ ap (λ r. go_on r (λ called left. Some (one_kind e called, left))) (naming_reads called colon rest);
}

-- ---- simple statements are read as such

exprs_are_simple : (n : ℕ) (ts : List Token) → IsStart (starts ts) → read_head n ts ≡ option_map simple_head (read_simple n ts)
exprs_are_simple n [] start = absurd (omega (arith, is_above 0 start))
exprs_are_simple n (t ∷ ts) start =
    let above = is_above (start_class t.kind) start in
    if_false (is_keyword 20 t.kind) _ _ (kw_class 20 t.kind (omega (arith, above)))
    ∙ if_false (is_keyword 13 t.kind) _ _ (kw_class 13 t.kind (omega (arith, above)))
    ∙ if_false (is_keyword 14 t.kind) _ _ (kw_class 14 t.kind (omega (arith, above)))
    ∙ if_false (is_keyword 32 t.kind) _ _ (kw_class 32 t.kind (omega (arith, above)))
    ∙ if_false (is_keyword 17 t.kind) _ _ (kw_class 17 t.kind (omega (arith, above)))
    ∙ if_false (is_keyword 31 t.kind) _ _ (kw_class 31 t.kind (omega (arith, above)))
    ∙ if_false (is_keyword 15 t.kind) _ _ (kw_class 15 t.kind (omega (arith, above)))
    ∙ if_false (is_keyword 33 t.kind) _ _ (kw_class 33 t.kind (omega (arith, above)))
    ∙ if_false (is_keyword 11 t.kind) _ _ (kw_class 11 t.kind (omega (arith, above)))
    ∙ if_false (is_keyword 9 t.kind) _ _ (kw_class 9 t.kind (omega (arith, above)))
    ∙ if_false (is_keyword 19 t.kind) _ _ (kw_class 19 t.kind (omega (arith, above)))

pub target_begins : (t : Target) (rest : List Token) → IsStart (starts (target_tokens t ++ rest))
target_begins (one_target t) rest = inl (inl (target_starts t rest))
target_begins (several_targets t comma r) rest = inl (inl (ap starts (append_assoc (one_target_tokens t) (token (Sign 6) comma ∷ target_rest_tokens r) rest) ∙ target_starts t (token (Sign 6) comma ∷ target_rest_tokens r ++ rest)))

simple_is_simple : (n : ℕ) (s : Simple) → read_head n (simple_tokens s) ≡ option_map simple_head (read_simple n (simple_tokens s))
simple_is_simple n (expression e) = exprs_are_simple n (exprs_tokens e) (start_of_exprs e)
simple_is_simple n (assign t equals e) = exprs_are_simple n (target_tokens t ++ (token (Sign 9) equals ∷ exprs_tokens e)) (target_begins t (token (Sign 9) equals ∷ exprs_tokens e))
simple_is_simple n (augmented t add_to at e) = exprs_are_simple n (one_target_tokens t ++ (token (Sign 21) at ∷ exprs_tokens e)) (target_begins (one_target t) (token (Sign 21) at ∷ exprs_tokens e))
simple_is_simple n (augmented t take_from at e) = exprs_are_simple n (one_target_tokens t ++ (token (Sign 22) at ∷ exprs_tokens e)) (target_begins (one_target t) (token (Sign 22) at ∷ exprs_tokens e))
simple_is_simple n (augmented t multiply_by at e) = exprs_are_simple n (one_target_tokens t ++ (token (Sign 23) at ∷ exprs_tokens e)) (target_begins (one_target t) (token (Sign 23) at ∷ exprs_tokens e))
simple_is_simple n (augmented t divide_by at e) = exprs_are_simple n (one_target_tokens t ++ (token (Sign 24) at ∷ exprs_tokens e)) (target_begins (one_target t) (token (Sign 24) at ∷ exprs_tokens e))
simple_is_simple n (augmented t leave_of at e) = exprs_are_simple n (one_target_tokens t ++ (token (Sign 25) at ∷ exprs_tokens e)) (target_begins (one_target t) (token (Sign 25) at ∷ exprs_tokens e))
simple_is_simple n (del at t) = refl
simple_is_simple n (pass at) = refl
simple_is_simple n (break at) = refl
simple_is_simple n (continue at) = refl
simple_is_simple n (return at) = refl
simple_is_simple n (return_value at e) = refl
simple_is_simple n (raise at) = refl
simple_is_simple n (raise_value at e) = refl
simple_is_simple n (assert at e) = refl
simple_is_simple n (assert_message at e comma message) = refl
simple_is_simple n (import_module at module_at bytes) = refl

-- ---- every line

kind_after : (at : Spot) (kind : Kind) (colon : Spot) (behind : Option Simple) (n k : ℕ) → k ≡ n + ((kind_reads kind).steps + (behind_reads behind).steps)
    → then_read (read_kind k (kind_tokens kind ++ colon_tokens colon behind)) (λ found rest. read_colon k (except_head at found) rest) ≡ Some (except_head at kind colon behind)
kind_after at kind colon behind n k is =
    more_steps (λ m. then_read (read_kind m (kind_tokens kind ++ colon_tokens colon behind)) (λ found rest. read_colon k (except_head at found) rest)) k ((n + (behind_reads behind).steps) + (kind_reads kind).steps) (omega (arith, is))
    ∙ ap (λ r. then_read r (λ found rest. read_colon k (except_head at found) rest)) ((kind_reads kind).reads (n + (behind_reads behind).steps) colon (behind_tokens behind))
    ∙ more_steps (λ m. read_colon m (except_head at kind) (colon_tokens colon behind)) k ((n + (kind_reads kind).steps) + (behind_reads behind).steps) (omega (arith, is))
    ∙ colon_reads (except_head at kind) colon behind (n + (kind_reads kind).steps)

with_after : (at : Spot) (e : Expr) (called : Naming) (colon : Spot) (behind : Option Simple) (n k : ℕ) → k ≡ n + ((expr_reads e).steps + (behind_reads behind).steps)
    → then_read (read_expr k (expr_tokens e ++ (naming_tokens called ++ colon_tokens colon behind))) (λ e more. then_read (read_naming more) (λ called rest. read_colon k (with_head at e called) rest)) ≡ Some (with_head at e called colon behind)
with_after at e called colon behind n k is =
    let level = naming_level called colon (behind_tokens behind) in
    more_steps (λ m. then_read (read_expr m (expr_tokens e ++ (naming_tokens called ++ colon_tokens colon behind))) (λ e more. then_read (read_naming more) (λ called rest. read_colon k (with_head at e called) rest))) k ((n + (behind_reads behind).steps) + (expr_reads e).steps) (omega (arith, is))
    ∙ ap (λ r. then_read r (λ e more. then_read (read_naming more) (λ called rest. read_colon k (with_head at e called) rest))) ((expr_reads e).reads (n + (behind_reads behind).steps) (naming_tokens called ++ colon_tokens colon behind) (omega (arith, level)))
    ∙ ap (λ r. then_read r (λ called rest. read_colon k (with_head at e called) rest)) (naming_reads called colon (behind_tokens behind))
    ∙ more_steps (λ m. read_colon m (with_head at e called) (colon_tokens colon behind)) k ((n + (expr_reads e).steps) + (behind_reads behind).steps) (omega (arith, is))
    ∙ colon_reads (with_head at e called) colon behind (n + (expr_reads e).steps)

for_after : (at : Spot) (t : Target) (in_word : Spot) (e : Exprs) (colon : Spot) (behind : Option Simple) (n k : ℕ) → k ≡ n + ((target_reads t).steps + ((exprs_read e).steps + (behind_reads behind).steps))
    → then_read (read_target k (target_tokens t ++ (token (Keyword 22) in_word ∷ exprs_tokens e ++ colon_tokens colon behind))) (λ target more. then_read (read_keyword 22 more) (λ in_word more_2. then_read (read_exprs k more_2) (λ e rest. read_colon k (for_head at target in_word e) rest))) ≡ Some (for_head at t in_word e colon behind)
for_after at t in_word e colon behind n k is =
    more_steps (λ m. then_read (read_target m (target_tokens t ++ (token (Keyword 22) in_word ∷ exprs_tokens e ++ colon_tokens colon behind))) (λ target more. then_read (read_keyword 22 more) (λ in_word more_2. then_read (read_exprs k more_2) (λ e rest. read_colon k (for_head at target in_word e) rest)))) k ((n + ((exprs_read e).steps + (behind_reads behind).steps)) + (target_reads t).steps) (omega (arith, is))
    ∙ ap (λ r. then_read r (λ target more. then_read (read_keyword 22 more) (λ in_word more_2. then_read (read_exprs k more_2) (λ e rest. read_colon k (for_head at target in_word e) rest)))) ((target_reads t).reads (n + ((exprs_read e).steps + (behind_reads behind).steps)) in_word (exprs_tokens e ++ colon_tokens colon behind))
    ∙ more_steps (λ m. then_read (read_exprs m (exprs_tokens e ++ colon_tokens colon behind)) (λ e rest. read_colon k (for_head at t in_word e) rest)) k ((n + ((target_reads t).steps + (behind_reads behind).steps)) + (exprs_read e).steps) (omega (arith, is))
    ∙ ap (λ r. then_read r (λ e rest. read_colon k (for_head at t in_word e) rest)) ((exprs_read e).reads (n + ((target_reads t).steps + (behind_reads behind).steps)) (colon_tokens colon behind) (omega arith) refl)
    ∙ more_steps (λ m. read_colon m (for_head at t in_word e) (colon_tokens colon behind)) k ((n + ((target_reads t).steps + (exprs_read e).steps)) + (behind_reads behind).steps) (omega (arith, is))
    ∙ colon_reads (for_head at t in_word e) colon behind (n + ((target_reads t).steps + (exprs_read e).steps))

def_after : (at name_at : Spot) (bytes : List ℕ) (opening : Spot) (given : Params) (closing colon : Spot) (behind : Option Simple) (n k : ℕ) → k ≡ n + ((params_reads given).steps + (behind_reads behind).steps)
    → then_read (read_params k (params_tokens given ++ (token (Sign 1) closing ∷ colon_tokens colon behind))) (λ given more_3. then_read (read_sign 1 more_3) (λ closing rest. read_colon k (def_head at name_at bytes opening given closing) rest)) ≡ Some (def_head at name_at bytes opening given closing colon behind)
def_after at name_at bytes opening given closing colon behind n k is =
    more_steps (λ m. then_read (read_params m (params_tokens given ++ (token (Sign 1) closing ∷ colon_tokens colon behind))) (λ given more_3. then_read (read_sign 1 more_3) (λ closing rest. read_colon k (def_head at name_at bytes opening given closing) rest))) k ((n + (behind_reads behind).steps) + (params_reads given).steps) (omega (arith, is))
    ∙ ap (λ r. then_read r (λ given more_3. then_read (read_sign 1 more_3) (λ closing rest. read_colon k (def_head at name_at bytes opening given closing) rest))) ((params_reads given).reads (n + (behind_reads behind).steps) closing (colon_tokens colon behind))
    ∙ more_steps (λ m. read_colon m (def_head at name_at bytes opening given closing) (colon_tokens colon behind)) k ((n + (params_reads given).steps) + (behind_reads behind).steps) (omega (arith, is))
    ∙ colon_reads (def_head at name_at bytes opening given closing) colon behind (n + (params_reads given).steps)

class_after : (at name_at : Spot) (bytes : List ℕ) (of : Base) (colon : Spot) (behind : Option Simple) (n : ℕ)
    → then_read (read_base (base_tokens of ++ colon_tokens colon behind)) (λ of rest. read_colon (n + (behind_reads behind).steps) (class_head at name_at bytes of) rest) ≡ Some (class_head at name_at bytes of colon behind)
class_after at name_at bytes of colon behind n =
    ap (λ r. then_read r (λ of rest. read_colon (n + (behind_reads behind).steps) (class_head at name_at bytes of) rest)) (base_reads of colon (behind_tokens behind))
    ∙ colon_reads (class_head at name_at bytes of) colon behind n

global_after : (at : Spot) (names : Names) (n : ℕ) → then_read (read_names (n + (names_reads names).steps) (names_tokens names)) (λ names rest. global_end at names rest) ≡ Some (global_head at names)
global_after at names n =
    ap (λ ts. then_read (read_names (n + (names_reads names).steps) ts) (λ names rest. global_end at names rest)) (sym (append-nil (names_tokens names)))
    ∙ ap (λ r. then_read r (λ names rest. global_end at names rest)) ((names_reads names).reads n [] refl)

pub head_reads : (h : Head) → ReadsHead (head_tokens h) h
head_reads (simple_head s) = let is = simple_reads s in record { steps = is.steps; reads = λ n. simple_is_simple (n + is.steps) s ∙ ap (option_map simple_head) (is.reads n) }
head_reads (if_head at test colon behind) = record { steps = (expr_reads test).steps + (behind_reads behind).steps; reads = λ n. after_expr (if_head at) test colon behind n }
head_reads (elif_head at test colon behind) = record { steps = (expr_reads test).steps + (behind_reads behind).steps; reads = λ n. after_expr (elif_head at) test colon behind n }
head_reads (else_head at colon behind) = record { steps = (behind_reads behind).steps; reads = λ n. colon_reads (else_head at) colon behind n }
head_reads (while_head at test colon behind) = record { steps = (expr_reads test).steps + (behind_reads behind).steps; reads = λ n. after_expr (while_head at) test colon behind n }
head_reads (for_head at t in_word e colon behind) = record { steps = (target_reads t).steps + ((exprs_read e).steps + (behind_reads behind).steps); reads = λ n. for_after at t in_word e colon behind n (n + ((target_reads t).steps + ((exprs_read e).steps + (behind_reads behind).steps))) refl }
head_reads (try_head at colon behind) = record { steps = (behind_reads behind).steps; reads = λ n. colon_reads (try_head at) colon behind n }
head_reads (except_head at kind colon behind) = record { steps = (kind_reads kind).steps + (behind_reads behind).steps; reads = λ n. kind_after at kind colon behind n (n + ((kind_reads kind).steps + (behind_reads behind).steps)) refl }
head_reads (with_head at e called colon behind) = record { steps = (expr_reads e).steps + (behind_reads behind).steps; reads = λ n. with_after at e called colon behind n (n + ((expr_reads e).steps + (behind_reads behind).steps)) refl }
head_reads (def_head at name_at bytes opening given closing colon behind) = record { steps = (params_reads given).steps + (behind_reads behind).steps; reads = λ n. def_after at name_at bytes opening given closing colon behind n (n + ((params_reads given).steps + (behind_reads behind).steps)) refl }
head_reads (class_head at name_at bytes of colon behind) = record { steps = (behind_reads behind).steps; reads = λ n. class_after at name_at bytes of colon behind n }
head_reads (global_head at names) = record { steps = (names_reads names).steps; reads = λ n. global_after at names n }

pub same_head : (a b : Head) → head_tokens a ≡ head_tokens b → a ≡ b
same_head a b same =
    let ra = head_reads a in
    let rb = head_reads b in
    let sum : rb.steps + ra.steps ≡ ra.steps + rb.steps = omega arith in
    same_some a b (sym (ra.reads rb.steps) ∙ ap (λ n. read_head n (head_tokens a)) sum ∙ ap (read_head (ra.steps + rb.steps)) same ∙ rb.reads ra.steps)
  where
    same_some : (a b : Head) → Some a ≡ Some b → a ≡ b
    same_some a b is = cc
