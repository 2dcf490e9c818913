-- The first token of a line tells which line it is.
use Rattle.std.proofs.Common.{◌≡◌, ℕ, nat_lt, ◌<◌, Bool, true, false, not, List, [], ◌∷◌, ◌++◌, refl, ap, sym, ◌∙◌, arith, if◌then◌else◌}
use Rattle.std.specs.Prelude.{◌==◌, ◌||◌, ◌&&◌}
use Rattle.std.proofs.lemmas.Bool.{eqb-true, leb-false}
use Rattle.py_lines.specs.declared.parts.Token.{Token}
use Rattle.py_lines.specs.declared.parts.TokenKind.{TokenKind}
use Rattle.py_lines.specs.declared.parts.TokenKind.TheVariants.{Word, Keyword, Number, Text, Sign}
use Rattle.py_expressions.specs.Concrete.{Spot}
use Rattle.py_expressions.specs.Tokens.{token, exprs_tokens}
use Rattle.py_grammar.specs.Written.{Simple, expression, assign, augmented, add_to, take_from, multiply_by, divide_by, leave_of, del, pass, break, continue, return, return_value, raise, raise_value, assert, assert_message, import_module}
use Rattle.py_expressions.specs.Targets.{one_target}
use Rattle.py_grammar.specs.StatementTokens.{simple_tokens, target_tokens, one_target_tokens}
use Rattle.py_grammar.specs.LineReader.{Head, simple_head, if_head, elif_head, else_head, while_head, for_head, try_head, except_head, with_head, def_head, class_head, global_head, head_tokens}
use Rattle.py_expressions.specs.Reader.{start_class, starts}
use Rattle.py_grammar.specs.ParsedSimple.{is_word_kind}
use Rattle.py_grammar.specs.ParsedHead.{Context, lacks_handler, word_may, kind_may, is_compound, is_compound_kind, head_stands}
use Rattle.py_expressions.proofs.Firsts.{IsStart, is_above}
use Rattle.py_grammar.proofs.SimpleReading.{start_of_exprs}
use Rattle.py_grammar.proofs.HeadReading.{target_begins}

-- ---- truth values

or_false : (a b : Bool) → a ≡ false → b ≡ false → (a || b) ≡ false
or_false false false one other = refl
or_false true b one other = cc
or_false false true one other = cc

or_left : (a b : Bool) → a ≡ true → (a || b) ≡ true
or_left true b is = refl
or_left false b is = cc

pub and_false : (a b : Bool) → b ≡ false → (a && b) ≡ false
and_false true b is = is
and_false false b is = refl

pub false_and : (a b : Bool) → a ≡ false → (a && b) ≡ false
false_and false b is = refl
false_and true b is = cc

pub both_true : (a b : Bool) → a ≡ true → b ≡ true → (a && b) ≡ true
both_true true true one other = refl
both_true false b one other = cc
both_true true false one other = cc

true_not_false : (b : Bool) → b ≡ true → b ≡ false → ⊥
true_not_false true one other = cc
true_not_false false one other = cc

pub same_first : (a b : Token) (x y : List Token) → a ∷ x ≡ b ∷ y → a ≡ b
same_first a b x y is = cc

pub same_behind : (a b : Token) (x y : List Token) → a ∷ x ≡ b ∷ y → x ≡ y
same_behind a b x y is = cc

pub not_nothing : (a : Token) (x : List Token) → a ∷ x ≡ [] → ⊥
not_nothing a x is = cc

-- ---- simple statements

-- a simple statement may begin with such a token
abbrev simple_kind : TokenKind → Bool
simple_kind kind = nat_lt 0 (start_class kind) || is_word_kind kind

abbrev simple_first : List Token → Bool
simple_first [] = false
simple_first (t ∷ ts) = simple_kind t.kind

above : (c : ℕ) → 0 < c → nat_lt 0 c ≡ true
above c more = by (nat_lt 0 c) refl
  where
    by : (b : Bool) → nat_lt 0 c ≡ b → b ≡ true
    by true is = refl
    by false is = absurd (omega (arith, more, leb-false 1 c is))

by_start : (ts : List Token) → IsStart (starts ts) → simple_first ts ≡ true
by_start [] start = absurd (omega (arith, is_above 0 start))
by_start (t ∷ ts) start = or_left (nat_lt 0 (start_class t.kind)) (is_word_kind t.kind) (above (start_class t.kind) (is_above (start_class t.kind) start))

first_is : (s : Simple) → simple_first (simple_tokens s) ≡ true
first_is (expression e) = by_start (exprs_tokens e) (start_of_exprs e)
first_is (assign t equals e) = by_start (target_tokens t ++ token (Sign 9) equals ∷ exprs_tokens e) (target_begins t (token (Sign 9) equals ∷ exprs_tokens e))
first_is (augmented t add_to at e) = by_start (one_target_tokens t ++ token (Sign 21) at ∷ exprs_tokens e) (target_begins (one_target t) (token (Sign 21) at ∷ exprs_tokens e))
first_is (augmented t take_from at e) = by_start (one_target_tokens t ++ token (Sign 22) at ∷ exprs_tokens e) (target_begins (one_target t) (token (Sign 22) at ∷ exprs_tokens e))
first_is (augmented t multiply_by at e) = by_start (one_target_tokens t ++ token (Sign 23) at ∷ exprs_tokens e) (target_begins (one_target t) (token (Sign 23) at ∷ exprs_tokens e))
first_is (augmented t divide_by at e) = by_start (one_target_tokens t ++ token (Sign 24) at ∷ exprs_tokens e) (target_begins (one_target t) (token (Sign 24) at ∷ exprs_tokens e))
first_is (augmented t leave_of at e) = by_start (one_target_tokens t ++ token (Sign 25) at ∷ exprs_tokens e) (target_begins (one_target t) (token (Sign 25) at ∷ exprs_tokens e))
first_is (del at t) = refl
first_is (pass at) = refl
first_is (break at) = refl
first_is (continue at) = refl
first_is (return at) = refl
first_is (return_value at e) = refl
first_is (raise at) = refl
first_is (raise_value at e) = refl
first_is (assert at e) = refl
first_is (assert_message at e comma message) = refl
first_is (import_module at module_at bytes) = refl

-- a number that is no such one is another
other_number : (k n : ℕ) → simple_kind (Keyword k) ≡ false → simple_kind (Keyword n) ≡ true → (n == k) ≡ false
other_number k n absent present = by (n == k) refl
  where
    by : (b : Bool) → (n == k) ≡ b → b ≡ false
    by false is = refl
    by true is = absurd (true_not_false (simple_kind (Keyword n)) present (ap (λ m. simple_kind (Keyword m)) (eqb-true n k is) ∙ absent))

not_compound : (kind : TokenKind) → simple_kind kind ≡ true → is_compound_kind kind ≡ false
not_compound (Word bytes) is = refl
not_compound (Number value) is = refl
not_compound (Text bytes) is = refl
not_compound (Sign n) is = refl
not_compound (Keyword n) is =
    or_false _ (n == 33) (or_false _ (n == 32) (or_false _ (n == 31) (or_false _ (n == 20) (or_false _ (n == 19) (or_false _ (n == 17) (or_false _ (n == 15) (or_false _ (n == 14) (or_false _ (n == 13) (or_false (n == 9) (n == 11)
    (other_number 9 n refl is) (other_number 11 n refl is)) (other_number 13 n refl is)) (other_number 14 n refl is)) (other_number 15 n refl is)) (other_number 17 n refl is)) (other_number 19 n refl is)) (other_number 20 n refl is))
    (other_number 31 n refl is)) (other_number 32 n refl is)) (other_number 33 n refl is)

pub simple_not_compound : (s : Simple) (t : Token) (more : List Token) → simple_tokens s ≡ t ∷ more → is_compound_kind t.kind ≡ false
simple_not_compound s t more is = not_compound t.kind (sym (ap simple_first is) ∙ first_is s)

pub simple_some : (s : Simple) → simple_tokens s ≡ [] → ⊥
simple_some s is = true_not_false (simple_first (simple_tokens s)) (first_is s) (ap simple_first is)

-- nothing stands behind `pass`
no_start : (k : ℕ) (ts : List Token) (t : Token) (more : List Token) → start_class (Keyword k) ≡ 0 → IsStart (starts ts) → ts ≡ t ∷ more → t.kind ≡ Keyword k → ⊥
no_start k ts t more none start is kind =
    let high = is_above (starts ts) start in
    let low : starts ts ≡ 0 = ap starts is ∙ ap start_class kind ∙ none in
    absurd (omega (arith, high, low))

number_is : (k m : ℕ) (spot : Spot) (rest : List Token) (t : Token) (more : List Token) → token (Keyword k) spot ∷ rest ≡ t ∷ more → t.kind ≡ Keyword m → k ≡ m
number_is k m spot rest t more is kind = same_number k m (ap (λ (u : Token). u.kind) (same_first _ t rest more is) ∙ kind)
  where
    same_number : (k m : ℕ) → Keyword k ≡ Keyword m → k ≡ m
    same_number k m is = cc

pub pass_is_alone : (s : Simple) (t : Token) (more : List Token) → simple_tokens s ≡ t ∷ more → t.kind ≡ Keyword 28 → more ≡ []
pass_is_alone (pass at) t more is kind = sym (same_behind _ t [] more is)
pass_is_alone (expression e) t more is kind = absurd (no_start 28 (exprs_tokens e) t more refl (start_of_exprs e) is kind)
pass_is_alone (assign u equals e) t more is kind = absurd (no_start 28 (target_tokens u ++ token (Sign 9) equals ∷ exprs_tokens e) t more refl (target_begins u (token (Sign 9) equals ∷ exprs_tokens e)) is kind)
pass_is_alone (augmented u add_to at e) t more is kind = absurd (no_start 28 (one_target_tokens u ++ token (Sign 21) at ∷ exprs_tokens e) t more refl (target_begins (one_target u) (token (Sign 21) at ∷ exprs_tokens e)) is kind)
pass_is_alone (augmented u take_from at e) t more is kind = absurd (no_start 28 (one_target_tokens u ++ token (Sign 22) at ∷ exprs_tokens e) t more refl (target_begins (one_target u) (token (Sign 22) at ∷ exprs_tokens e)) is kind)
pass_is_alone (augmented u multiply_by at e) t more is kind = absurd (no_start 28 (one_target_tokens u ++ token (Sign 23) at ∷ exprs_tokens e) t more refl (target_begins (one_target u) (token (Sign 23) at ∷ exprs_tokens e)) is kind)
pass_is_alone (augmented u divide_by at e) t more is kind = absurd (no_start 28 (one_target_tokens u ++ token (Sign 24) at ∷ exprs_tokens e) t more refl (target_begins (one_target u) (token (Sign 24) at ∷ exprs_tokens e)) is kind)
pass_is_alone (augmented u leave_of at e) t more is kind = absurd (no_start 28 (one_target_tokens u ++ token (Sign 25) at ∷ exprs_tokens e) t more refl (target_begins (one_target u) (token (Sign 25) at ∷ exprs_tokens e)) is kind)
pass_is_alone (del at u) t more is kind = absurd (omega (arith, number_is 12 28 at _ t more is kind))
pass_is_alone (break at) t more is kind = absurd (omega (arith, number_is 8 28 at _ t more is kind))
pass_is_alone (continue at) t more is kind = absurd (omega (arith, number_is 10 28 at _ t more is kind))
pass_is_alone (return at) t more is kind = absurd (omega (arith, number_is 30 28 at _ t more is kind))
pass_is_alone (return_value at e) t more is kind = absurd (omega (arith, number_is 30 28 at _ t more is kind))
pass_is_alone (raise at) t more is kind = absurd (omega (arith, number_is 29 28 at _ t more is kind))
pass_is_alone (raise_value at e) t more is kind = absurd (omega (arith, number_is 29 28 at _ t more is kind))
pass_is_alone (assert at e) t more is kind = absurd (omega (arith, number_is 5 28 at _ t more is kind))
pass_is_alone (assert_message at e comma message) t more is kind = absurd (omega (arith, number_is 5 28 at _ t more is kind))
pass_is_alone (import_module at module_at bytes) t more is kind = absurd (omega (arith, number_is 21 28 at _ t more is kind))

-- ---- lines

pub record IsSimple (h : Head) : Type 0 where
  pub s : Simple
  pub is : h ≡ simple_head s

compound_word : (k : ℕ) (spot : Spot) (rest : List Token) (t : Token) (more : List Token) → is_compound k ≡ true → token (Keyword k) spot ∷ rest ≡ t ∷ more → is_compound_kind t.kind ≡ false → ⊥
compound_word k spot rest t more present is absent = true_not_false (is_compound k) present (ap (λ (u : Token). is_compound_kind u.kind) (same_first _ t rest more is) ∙ absent)

-- a line that begins with no such keyword is a simple statement
pub head_simple : (h : Head) (t : Token) (more : List Token) → head_tokens h ≡ t ∷ more → is_compound_kind t.kind ≡ false → IsSimple h
head_simple (simple_head s) t more is absent = record { s = s; is = refl }
head_simple (if_head at test colon behind) t more is absent = absurd (compound_word 20 at _ t more refl is absent)
head_simple (elif_head at test colon behind) t more is absent = absurd (compound_word 13 at _ t more refl is absent)
head_simple (else_head at colon behind) t more is absent = absurd (compound_word 14 at _ t more refl is absent)
head_simple (while_head at test colon behind) t more is absent = absurd (compound_word 32 at _ t more refl is absent)
head_simple (for_head at u in_word e colon behind) t more is absent = absurd (compound_word 17 at _ t more refl is absent)
head_simple (try_head at colon behind) t more is absent = absurd (compound_word 31 at _ t more refl is absent)
head_simple (except_head at kind colon behind) t more is absent = absurd (compound_word 15 at _ t more refl is absent)
head_simple (with_head at e called colon behind) t more is absent = absurd (compound_word 33 at _ t more refl is absent)
head_simple (def_head at name_at bytes opening names closing colon behind) t more is absent = absurd (compound_word 11 at _ t more refl is absent)
head_simple (class_head at name_at bytes of colon behind) t more is absent = absurd (compound_word 9 at _ t more refl is absent)
head_simple (global_head at names) t more is absent = absurd (compound_word 19 at _ t more refl is absent)

pub head_some : (h : Head) → head_tokens h ≡ [] → ⊥
head_some (simple_head s) is = simple_some s is
head_some (if_head at test colon behind) is = not_nothing _ _ is
head_some (elif_head at test colon behind) is = not_nothing _ _ is
head_some (else_head at colon behind) is = not_nothing _ _ is
head_some (while_head at test colon behind) is = not_nothing _ _ is
head_some (for_head at u in_word e colon behind) is = not_nothing _ _ is
head_some (try_head at colon behind) is = not_nothing _ _ is
head_some (except_head at kind colon behind) is = not_nothing _ _ is
head_some (with_head at e called colon behind) is = not_nothing _ _ is
head_some (def_head at name_at bytes opening names closing colon behind) is = not_nothing _ _ is
head_some (class_head at name_at bytes of colon behind) is = not_nothing _ _ is
head_some (global_head at names) is = not_nothing _ _ is

-- ---- where a line may not begin

-- a token that is no such keyword may stand wherever no handler is lacking
pub may_as_simple : (c : Context) (kind : TokenKind) → is_compound_kind kind ≡ false → kind_may c kind ≡ not (lacks_handler c.last)
may_as_simple c (Word bytes) absent = refl
may_as_simple c (Number value) absent = refl
may_as_simple c (Text bytes) absent = refl
may_as_simple c (Sign n) absent = refl
may_as_simple c (Keyword n) absent = by (is_compound n) absent
  where
    by : (b : Bool) → b ≡ false → (if b then word_may c n else not (lacks_handler c.last)) ≡ not (lacks_handler c.last)
    by false is = refl
    by true is = cc

-- a keyword that is one may stand where it may
pub may_as_word : (c : Context) (n : ℕ) → is_compound n ≡ true → kind_may c (Keyword n) ≡ word_may c n
may_as_word c n present = by (is_compound n) present
  where
    by : (b : Bool) → b ≡ true → (if b then word_may c n else not (lacks_handler c.last)) ≡ word_may c n
    by true is = refl
    by false is = cc

word_stands : (c : Context) (k : ℕ) (spot : Spot) (rest : List Token) (t : Token) (more : List Token) (other : Bool) → is_compound k ≡ true → token (Keyword k) spot ∷ rest ≡ t ∷ more → kind_may c t.kind ≡ false → (word_may c k && other) ≡ false
word_stands c k spot rest t more other present is absent =
    false_and (word_may c k) other (sym (may_as_word c k present) ∙ ap (λ (u : Token). kind_may c u.kind) (same_first _ t rest more is) ∙ absent)

-- no line may stand there that begins with a token that may not
pub misplaced_head : (c : Context) (given : List (List ℕ)) (h : Head) (t : Token) (more : List Token) → head_tokens h ≡ t ∷ more → kind_may c t.kind ≡ false → head_stands c given h ≡ false
misplaced_head c given (simple_head s) t more is absent = false_and _ _ (sym (may_as_simple c t.kind (simple_not_compound s t more is)) ∙ absent)
misplaced_head c given (if_head at test colon behind) t more is absent = word_stands c 20 at _ t more _ refl is absent
misplaced_head c given (elif_head at test colon behind) t more is absent = word_stands c 13 at _ t more _ refl is absent
misplaced_head c given (else_head at colon behind) t more is absent = word_stands c 14 at _ t more _ refl is absent
misplaced_head c given (while_head at test colon behind) t more is absent = word_stands c 32 at _ t more _ refl is absent
misplaced_head c given (for_head at u in_word e colon behind) t more is absent = word_stands c 17 at _ t more _ refl is absent
misplaced_head c given (try_head at colon behind) t more is absent = word_stands c 31 at _ t more _ refl is absent
misplaced_head c given (except_head at kind colon behind) t more is absent = word_stands c 15 at _ t more _ refl is absent
misplaced_head c given (with_head at e called colon behind) t more is absent = word_stands c 33 at _ t more _ refl is absent
misplaced_head c given (def_head at name_at bytes opening names closing colon behind) t more is absent =
    let may : word_may c 11 ≡ false = sym (may_as_word c 11 refl) ∙ ap (λ (u : Token). kind_may c u.kind) (same_first _ t _ more is) ∙ absent in
    by _ _ _ may
  where
    by : (a b d : Bool) → a ≡ false → (a && b && d) ≡ false
    by false b d is = refl
    by true b d is = cc
misplaced_head c given (class_head at name_at bytes of colon behind) t more is absent = word_stands c 9 at _ t more _ refl is absent
misplaced_head c given (global_head at names) t more is absent = word_stands c 19 at _ t more _ refl is absent
