-- Comparisons that are taken, and those that are refused.
use Rattle.std.proofs.Common.{◌≡◌, ℕ, Bool, true, false, ◌||◌, List, [], ◌∷◌, ◌++◌, Some, None, is_some, refl, ap, sym, ◌∙◌, if◌then◌else◌}
use Rattle.std.specs.Prelude.{◌==◌}
use Rattle.prov_base.specs.declared.place.Pos.{Pos}
use Rattle.std.proofs.lemmas.Bool.{eqb-true, false≢true}
use Rattle.py_lines.specs.declared.parts.Token.{Token}
use Rattle.py_lines.specs.declared.parts.TokenKind.{TokenKind}
use Rattle.py_lines.specs.declared.parts.TokenKind.TheVariants.{Word, Keyword, Number, Text, Sign}
use Rattle.py_tree.specs.declared.expr.CmpOp.{CmpOp}
use Rattle.py_tree.specs.declared.expr.CmpOp.TheVariants.{Eq, Ne, Lt, Le, Gt, Ge, In, NotIn, Is, IsNot}
use Rattle.py_expressions.specs.declared.fault.Stop.{Stop}
use Rattle.py_expressions.specs.Concrete.{Spot, CmpSign, equal, unequal, less, less_equal, greater, greater_equal, within, not_within, same, not_same}
use Rattle.py_expressions.specs.Tokens.{token, cmp_tokens}
use Rattle.py_expressions.specs.Trees.{cmp_op, cmp_at}
use Rattle.py_expressions.specs.Reader.{spot_of, is_or_is_not, is_sign, is_keyword, keyword_level, sign_level, kind_level, read_keyword, read_cmp_sign}
use Rattle.py_expressions.specs.Parsed.{Taken, TakenCmp, one_keyword, one_cmp_sign, cmp_sign_op, cmp_sign_next, kind_cmp_op, is_keyword_next, IsAtFirst, Begins, Refused}
use Rattle.py_expressions.proofs.Refusals.{Inside, begins_new, refused_inside, refused_same, finds_first}
use Rattle.py_expressions.proofs.Firsts.{not_sign}
use Rattle.py_expressions.proofs.Reading.{if_false}
use Rattle.py_expressions.proofs.Stops.{at_first, finds_none, some_spot, spot_at}

-- a token of this sign
pub one_token : (t : Token) (n : ℕ) → t.kind ≡ Sign n → t ≡ token (Sign n) (spot_of t)
one_token t n is = ap (λ k. record { at = t.at; span = t.span; kind = k }) is

some_op : (a b : CmpOp) → Some a ≡ Some b → a ≡ b
some_op a b is = cc

pub cmp_taken : (n : ℕ) (op : CmpOp) (t : Token) (ts : List Token) → t.kind ≡ Sign n → cmp_sign_op n ≡ Some op → TakenCmp (t ∷ ts) t.at op ts
cmp_taken n op t ts is found = by (n == 15) (n == 16) (n == 17) (n == 18) (n == 19) (n == 20) refl refl refl refl refl refl found
  where
    of_op : (k : ℕ) (which : CmpSign) (which_op : CmpOp) → ((more : List Token) → read_cmp_sign (cmp_tokens which ++ more) ≡ Some (which, more)) → (n == k) ≡ true → token (Sign k) (spot_of t) ∷ ts ≡ cmp_tokens which ++ ts → cmp_at which ≡ t.at → cmp_op which ≡ which_op → Some which_op ≡ Some op → TakenCmp (t ∷ ts) t.at op ts
    of_op k which which_op reads eq tokens at op_is is_op = record {
      which = which;
      before_is = ap (λ u. u ∷ ts) (one_token t k (is ∙ ap Sign (eqb-true n k eq))) ∙ tokens;
      alone = λ more next. reads more;
      at_is = at;
      op_is = sym (op_is ∙ some_op which_op op is_op);
    }

    by : (b1 b2 b3 b4 b5 b6 : Bool) → (n == 15) ≡ b1 → (n == 16) ≡ b2 → (n == 17) ≡ b3 → (n == 18) ≡ b4 → (n == 19) ≡ b5 → (n == 20) ≡ b6
        → (if b1 then Some Eq else (if b2 then Some Ne else (if b3 then Some Lt else (if b4 then Some Le else (if b5 then Some Gt else (if b6 then Some Ge else None)))))) ≡ Some op → TakenCmp (t ∷ ts) t.at op ts
    by true b2 b3 b4 b5 b6 e1 e2 e3 e4 e5 e6 is_op = of_op 15 (equal (spot_of t)) Eq (λ more. refl) e1 refl refl refl is_op
    by false true b3 b4 b5 b6 e1 e2 e3 e4 e5 e6 is_op = of_op 16 (unequal (spot_of t)) Ne (λ more. refl) e2 refl refl refl is_op
    by false false true b4 b5 b6 e1 e2 e3 e4 e5 e6 is_op = of_op 17 (less (spot_of t)) Lt (λ more. refl) e3 refl refl refl is_op
    by false false false true b5 b6 e1 e2 e3 e4 e5 e6 is_op = of_op 18 (less_equal (spot_of t)) Le (λ more. refl) e4 refl refl refl is_op
    by false false false false true b6 e1 e2 e3 e4 e5 e6 is_op = of_op 19 (greater (spot_of t)) Gt (λ more. refl) e5 refl refl refl is_op
    by false false false false false true e1 e2 e3 e4 e5 e6 is_op = of_op 20 (greater_equal (spot_of t)) Ge (λ more. refl) e6 refl refl refl is_op
    by false false false false false false e1 e2 e3 e4 e5 e6 is_op = cc

-- ---- words

pub in_taken : (before after : List Token) (at : Pos) → Taken (Keyword 22) before at after → TakenCmp before at In after
in_taken before after at k = record { which = within k.spot; before_is = k.before_is; alone = λ more next. refl; at_is = k.at_is; op_is = refl }

pub not_in_taken : (before middle after : List Token) (at in_at : Pos) → Taken (Keyword 26) before at middle → Taken (Keyword 22) middle in_at after → TakenCmp before at NotIn after
not_in_taken before middle after at in_at k more = record { which = not_within k.spot more.spot; before_is = k.before_is ∙ ap (λ ts. token (Keyword 26) k.spot ∷ ts) more.before_is; alone = λ more next. refl; at_is = k.at_is; op_is = refl }

no_not : (spot : Spot) (more : List Token) → is_keyword_next 26 more ≡ false → read_cmp_sign (cmp_tokens (same spot) ++ more) ≡ Some (same spot, more)
no_not spot [] other = refl
no_not spot (t ∷ ts) other = ap (λ b. is_or_is_not spot (if b then Some (spot_of t, ts) else None) (t ∷ ts)) other

pub is_taken : (before after rest : List Token) (at : Pos) → Taken (Keyword 23) before at after → rest ≡ after → is_keyword_next 26 after ≡ false → TakenCmp before at Is rest
is_taken before after rest at k eq other = record { which = same k.spot; before_is = k.before_is ∙ ap (λ ts. token (Keyword 23) k.spot ∷ ts) (sym eq); alone = λ more next. no_not k.spot more (next ∙ ap (is_keyword_next 26) eq ∙ other); at_is = k.at_is; op_is = refl }

pub is_not_taken : (before middle after : List Token) (at not_at : Pos) → Taken (Keyword 23) before at middle → Taken (Keyword 26) middle not_at after → TakenCmp before at IsNot after
is_not_taken before middle after at not_at k more = record { which = not_same k.spot more.spot; before_is = k.before_is ∙ ap (λ ts. token (Keyword 23) k.spot ∷ ts) more.before_is; alone = λ more next. refl; at_is = k.at_is; op_is = refl }

-- ---- a token with which an operand goes on begins a comparison

begins_so : (which : CmpSign) (t : Token) (kind : TokenKind) (more : List Token) → t.kind ≡ kind → cmp_tokens which ≡ token kind (spot_of t) ∷ more → Begins one_cmp_sign (t ∷ [])
begins_so which t kind more is spells = record { some = which; more = more; tokens_are = spells ∙ ap (λ k. record { at = t.at; span = t.span; kind = k } ∷ more) (sym is) }

word_begins : (n : ℕ) (t : Token) → t.kind ≡ Keyword n → (keyword_level n == 4) ≡ true → Begins one_cmp_sign (t ∷ [])
word_begins n t is level = by (n == 22) (n == 23) (n == 26) (n == 3) (n == 27) (n == 20) refl refl refl level
  where
    of : (k : ℕ) (which : CmpSign) (more : List Token) → (n == k) ≡ true → cmp_tokens which ≡ token (Keyword k) (spot_of t) ∷ more → Begins one_cmp_sign (t ∷ [])
    of k which more eq spells = begins_so which t (Keyword k) more (is ∙ ap Keyword (eqb-true n k eq)) spells

    by : (a b c d e f : Bool) → (n == 22) ≡ a → (n == 23) ≡ b → (n == 26) ≡ c → ((if a || b || c then 4 else (if d then 5 else (if e then 6 else (if f then 7 else 9)))) == 4) ≡ true → Begins one_cmp_sign (t ∷ [])
    by true b c d e f one two three level = of 22 (within (spot_of t)) [] one refl
    by false true c d e f one two three level = of 23 (same (spot_of t)) [] two refl
    by false false true d e f one two three level = of 26 (not_within (spot_of t) some_spot) (token (Keyword 22) some_spot ∷ []) three refl
    by false false false true e f one two three level = cc
    by false false false false true f one two three level = cc
    by false false false false false true one two three level = cc
    by false false false false false false one two three level = cc

sign_begins : (n : ℕ) (t : Token) → t.kind ≡ Sign n → (sign_level n == 4) ≡ true → Begins one_cmp_sign (t ∷ [])
sign_begins n t is level = by ((n == 0) || (n == 2) || (n == 8)) ((n == 12) || (n == 13) || (n == 14)) ((n == 10) || (n == 11)) (n == 15) (n == 16) (n == 17) (n == 18) (n == 19) (n == 20) (n == 6) refl refl refl refl refl refl level
  where
    of : (k : ℕ) (which : CmpSign) → (n == k) ≡ true → cmp_tokens which ≡ token (Sign k) (spot_of t) ∷ [] → Begins one_cmp_sign (t ∷ [])
    of k which eq spells = begins_so which t (Sign k) [] (is ∙ ap Sign (eqb-true n k eq)) spells

    by : (x y z a b c d e f g : Bool) → (n == 15) ≡ a → (n == 16) ≡ b → (n == 17) ≡ c → (n == 18) ≡ d → (n == 19) ≡ e → (n == 20) ≡ f
        → ((if x then 1 else (if y then 2 else (if z then 3 else (if a || b || c || d || e || f then 4 else (if g then 8 else 9))))) == 4) ≡ true → Begins one_cmp_sign (t ∷ [])
    by true y z a b c d e f g e1 e2 e3 e4 e5 e6 level = cc
    by false true z a b c d e f g e1 e2 e3 e4 e5 e6 level = cc
    by false false true a b c d e f g e1 e2 e3 e4 e5 e6 level = cc
    by false false false true b c d e f g e1 e2 e3 e4 e5 e6 level = of 15 (equal (spot_of t)) e1 refl
    by false false false false true c d e f g e1 e2 e3 e4 e5 e6 level = of 16 (unequal (spot_of t)) e2 refl
    by false false false false false true d e f g e1 e2 e3 e4 e5 e6 level = of 17 (less (spot_of t)) e3 refl
    by false false false false false false true e f g e1 e2 e3 e4 e5 e6 level = of 18 (less_equal (spot_of t)) e4 refl
    by false false false false false false false true f g e1 e2 e3 e4 e5 e6 level = of 19 (greater (spot_of t)) e5 refl
    by false false false false false false false false true g e1 e2 e3 e4 e5 e6 level = of 20 (greater_equal (spot_of t)) e6 refl
    by false false false false false false false false false true e1 e2 e3 e4 e5 e6 level = cc
    by false false false false false false false false false false e1 e2 e3 e4 e5 e6 level = cc

pub cmp_begins : (t : Token) → (kind_level t.kind == 4) ≡ true → Begins one_cmp_sign (t ∷ [])
cmp_begins t level = by t.kind refl level
  where
    by : (kind : TokenKind) → t.kind ≡ kind → (kind_level kind == 4) ≡ true → Begins one_cmp_sign (t ∷ [])
    by (Keyword n) is level = word_begins n t is level
    by (Sign n) is level = sign_begins n t is level
    by (Word bytes) is level = cc
    by (Number value) is level = cc
    by (Text bytes) is level = cc

-- ---- what is refused

-- no comparison begins with this token
none_there : (t : Token) (more : List Token) → kind_cmp_op t.kind ≡ None → is_keyword 22 t.kind ≡ false → is_keyword 26 t.kind ≡ false → is_keyword 23 t.kind ≡ false → read_cmp_sign (t ∷ more) ≡ None
none_there t more sign in_word not_word is_word =
    if_false _ _ _ (other 15 refl) ∙ if_false _ _ _ (other 16 refl) ∙ if_false _ _ _ (other 17 refl) ∙ if_false _ _ _ (other 18 refl) ∙ if_false _ _ _ (other 19 refl) ∙ if_false _ _ _ (other 20 refl)
    ∙ if_false _ _ _ in_word ∙ if_false _ _ _ not_word ∙ if_false _ _ _ is_word
  where
    other : (k : ℕ) → is_some (cmp_sign_op k) ≡ true → is_sign k t.kind ≡ false
    other k some_there = not_sign k t.kind (λ is. let gone = sym (ap is_some (sym sign ∙ ap kind_cmp_op is)) in absurd (false≢true (sym gone ∙ some_there)))

pub cmp_refused : (before : List Token) (stop : Stop) → cmp_sign_next before ≡ None → is_keyword_next 22 before ≡ false → is_keyword_next 26 before ≡ false → is_keyword_next 23 before ≡ false → IsAtFirst before stop → Refused one_cmp_sign 0 before stop
cmp_refused before stop sign in_word not_word is_word at = at_first one_cmp_sign 0 before stop at (begins_new one_cmp_sign 0 (λ at. within (spot_at at)) (λ at other apart. refl))
    (λ empty. finds_none _ _ [] (λ m. refl))
    (λ t ts more is. finds_none _ _ (t ∷ more) (λ m. none_there t more (sym (ap cmp_sign_next is) ∙ sign) (sym (ap (is_keyword_next 22) is) ∙ in_word) (sym (ap (is_keyword_next 26) is) ∙ not_word) (sym (ap (is_keyword_next 23) is) ∙ is_word)))

-- behind `not` stands no `in`
not_in : (spot : Spot) (rest : List Token) → Inside one_cmp_sign 0 (one_keyword 22) 0 (token (Keyword 26) spot ∷ []) rest
not_in spot rest = record {
  begins = λ at b. record { some = not_within spot b; more = []; tokens_are = refl; within = λ other apart low. low; deep = λ stop deep. deep };
  finds = λ stop more first finds. finds_first _ _ (λ n ts. read_cmp_sign ts) (λ n ts. read_keyword 22 ts) (λ n in_at ts. Some (not_within spot in_at, ts)) (token (Keyword 26) spot ∷ more) more (λ n. refl) (λ n b ts deep. deep) finds;
}

pub not_in_refused : (before middle : List Token) (at : Pos) (stop : Stop) → Taken (Keyword 26) before at middle → Refused (one_keyword 22) 0 middle stop → Refused one_cmp_sign 0 before stop
not_in_refused before middle at stop k is = refused_same one_cmp_sign 0 _ _ stop k.before_is (refused_inside one_cmp_sign 0 (one_keyword 22) 0 (token (Keyword 26) k.spot ∷ []) middle stop (not_in k.spot middle) is)

pub ruleset cmp_rules = (in_taken, not_in_taken, is_taken, is_not_taken, cmp_refused, not_in_refused)
