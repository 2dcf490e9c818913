-- `if`, `elif`, `while`, `with` and `except`, up to the `:`.
use Rattle.std.proofs.Common.{◌≡◌, ℕ, ◌+◌, ◌≤◌, max, nat_lt, Bool, true, false, List, [], ◌∷◌, ◌++◌, Option, Some, None, option_map, refl, ap, sym, ◌∙◌, arith, append_assoc, if◌then◌else◌}
use Rattle.std.specs.Prelude.{◌&&◌}
use Rattle.std.proofs.Math.Nat.{le-max_left, le-max_right}
use Rattle.py_lines.specs.declared.parts.Token.{Token}
use Rattle.prov_base.specs.declared.place.Pos.{Pos}
use Rattle.py_lines.specs.declared.parts.TokenKind.TheVariants.{Keyword}
use Rattle.py_tree.specs.declared.expr.Expr.{Expr as BuiltExpr}
use Rattle.py_tree.specs.declared.stmt.Bound.{Bound}
use Rattle.py_tree.specs.Erasure.{expr_of}
use Rattle.py_expressions.specs.declared.fault.Stop.{Stop}
use Rattle.py_expressions.specs.declared.part.Part.{Part}
use Rattle.py_grammar.specs.declared.head.What.{What}
use Rattle.py_grammar.specs.declared.head.What.TheVariants.{If, Elif, While, Except, With}
use Rattle.py_expressions.specs.Concrete.{Spot, Expr}
use Rattle.py_expressions.specs.Tokens.{token, expr_tokens}
use Rattle.py_expressions.specs.Trees.{expr_tree}
use Rattle.py_expressions.specs.Depth.{expr_depth}
use Rattle.py_expressions.specs.Lies.{expr_lies}
use Rattle.py_grammar.specs.StatementLies.{simple_lies}
use Rattle.py_grammar.specs.Written.{Simple, Naming, no_naming, every_kind, one_kind}
use Rattle.py_grammar.specs.StatementTokens.{naming_tokens}
use Rattle.py_grammar.specs.StatementTrees.{naming_bound}
use Rattle.py_grammar.specs.LineReader.{Head, if_head, elif_head, while_head, except_head, with_head, colon_tokens, head_tokens, then_read, read_colon, read_behind, read_naming, read_head}
use Rattle.py_expressions.specs.Reader.{Read, go_on, is_keyword, is_sign, spot_of, begins_expr, read_expr}
use Rattle.py_expressions.specs.Parsed.{IsDeep, Refused, Found, expr_part}
use Rattle.py_grammar.specs.ParsedHead.{Context, Took, naming_part, word_may, inner_around, behind_stands, head_stands, behind_depth, behind_lies, head_depth, head_lies, behind_in, IsWhat, OpeningFound, OpeningRefused}
use Rattle.py_expressions.proofs.Stops.{some_spot, spot_at}
use Rattle.py_expressions.proofs.Lying.{expr_low}
use Rattle.py_grammar.proofs.SimpleParts.{expr_within, expr_fits, none_deeper}
use Rattle.py_expressions.proofs.Reading.{if_true, if_false}
use Rattle.py_expressions.proofs.Refusals.{deeper}
use Rattle.py_grammar.proofs.HeadParts.{OnlyHead, HeadTurns, turns_on, colon_on, expr_is_read, starts_same, begins_part_head, refused_part_head, past_opening}
use Rattle.py_grammar.proofs.NoDel.{is_simple_head}
use Rattle.py_grammar.proofs.Unread.{passes_word}
use Rattle.py_grammar.proofs.LineFirsts.{both_true}

-- ---- what stands behind the `:`

only_option : (P : Head → Type 0) (made : Option Simple → Head) (o : Option (Option Simple)) → ((behind : Option Simple) → P (made behind)) → OnlyHead P (option_map made o)
only_option P made None each = tt
only_option P made (Some behind) each = each behind

only_if_head : (P : Head → Type 0) (b : Bool) (x : Option Head) → OnlyHead P x → OnlyHead P (if b then x else None)
only_if_head P true x only = only
only_if_head P false x only = tt

-- whatever stands there
pub only_colon : (P : Head → Type 0) (n : ℕ) (made : Spot → Option Simple → Head) (ts : List Token) → ((colon : Spot) (behind : Option Simple) → P (made colon behind)) → OnlyHead P (read_colon n made ts)
only_colon P n made [] each = tt
only_colon P n made (t ∷ ts) each = only_if_head P (is_sign 7 t.kind) _ (only_option P (made (spot_of t)) (read_behind n ts) (each (spot_of t)))

-- what lies too deep before the `:` lies too deep in the line
pub deep_colon : (why : Stop) (n : ℕ) (made : Spot → Option Simple → Head) (ts : List Token) (inner : ℕ) (lies before : Pos → ℕ) → ((colon : Spot) (behind : Option Simple) (at : Pos) → head_lies (made colon behind) at ≡ max (before at) (behind_lies behind at))
    → ((at : Pos) → 1 ≤ lies at → 100 + lies at ≤ inner + before at) → IsDeep why inner lies → OnlyHead (λ h. IsDeep why 100 (head_lies h)) (read_colon n made ts)
deep_colon why n made ts inner lies before lies_is less deep = only_colon _ n made ts
    (λ colon behind. deeper why inner lies 100 (head_lies (made colon behind)) deep (λ at some. let is = lies_is colon behind at in let high = le-max_left (before at) (behind_lies behind at) in let enough = less at some in omega (arith, enough, is, high)))

-- ---- `if`, `elif`, `while`: an expression

record Tested (word : ℕ) (head : Spot → Expr → Spot → Option Simple → Head) (what : BuiltExpr → What) : Type 0 where
  other : is_keyword 17 (Keyword word) ≡ false
  compound : (spot : Spot) (e : Expr) (colon : Spot) (behind : Option Simple) → is_simple_head (head spot e colon behind) ≡ false
  tokens_are : (spot : Spot) (e : Expr) (colon : Spot) (behind : Option Simple) → head_tokens (head spot e colon behind) ≡ token (Keyword word) spot ∷ (expr_tokens e ++ colon_tokens colon behind)
  reads : (n : ℕ) (spot : Spot) (more : List Token) → read_head n (token (Keyword word) spot ∷ more) ≡ then_read (read_expr n more) (λ e rest. read_colon n (head spot e) rest)
  what_is : (built : BuiltExpr) (spot : Spot) (e : Expr) (colon : Spot) (behind : Option Simple) → expr_of built ≡ expr_tree e → IsWhat (what built) (head spot e colon behind)
  behind_is : (spot : Spot) (e : Expr) (colon : Spot) (behind : Option Simple) → behind_in (head spot e colon behind) ≡ behind
  depth_is : (spot : Spot) (e : Expr) (colon : Spot) (behind : Option Simple) → head_depth (head spot e colon behind) ≡ max (expr_depth e) (behind_depth behind)
  lies_is : (spot : Spot) (e : Expr) (colon : Spot) (behind : Option Simple) (at : Pos) → head_lies (head spot e colon behind) at ≡ max (expr_lies e at) (behind_lies behind at)
  stands : (c : Context) (given : List (List ℕ)) (spot : Spot) (e : Expr) (colon : Spot) (behind : Option Simple) → head_stands c given (head spot e colon behind) ≡ word_may c word && behind_stands (inner_around word c.around) behind

if_tested : Tested 20 if_head If
if_tested = record { other = refl; compound = λ spot e colon behind. refl; tokens_are = λ spot e colon behind. refl; reads = λ n spot more. refl; what_is = λ built spot e colon behind is. is; behind_is = λ spot e colon behind. refl; depth_is = λ spot e colon behind. refl; lies_is = λ spot e colon behind at. refl; stands = λ c given spot e colon behind. refl }

elif_tested : Tested 13 elif_head Elif
elif_tested = record { other = refl; compound = λ spot e colon behind. refl; tokens_are = λ spot e colon behind. refl; reads = λ n spot more. refl; what_is = λ built spot e colon behind is. is; behind_is = λ spot e colon behind. refl; depth_is = λ spot e colon behind. refl; lies_is = λ spot e colon behind at. refl; stands = λ c given spot e colon behind. refl }

while_tested : Tested 32 while_head While
while_tested = record { other = refl; compound = λ spot e colon behind. refl; tokens_are = λ spot e colon behind. refl; reads = λ n spot more. refl; what_is = λ built spot e colon behind is. is; behind_is = λ spot e colon behind. refl; depth_is = λ spot e colon behind. refl; lies_is = λ spot e colon behind at. refl; stands = λ c given spot e colon behind. refl }

abbrev test_turn : (Spot → Expr → Spot → Option Simple → Head) → Spot → ℕ → Expr → List Token → Option Head
test_turn head spot n e rest = read_colon (n + 0) (head spot e) rest

test_turns : (word : ℕ) (head : Spot → Expr → Spot → Option Simple → Head) (what : BuiltExpr → What) → Tested word head what → (spot : Spot) (next : List Token) → HeadTurns expr_part (token (Keyword word) spot ∷ []) next (test_turn head spot)
test_turns word head what is spot next = record { before = 0; behind = 0; turns = λ n more first. is.reads (n + 0) spot more }

test_found : (word : ℕ) (head : Spot → Expr → Spot → Option Simple → Head) (what : BuiltExpr → What) → Tested word head what → (c : Context) (before after : List Token) (part : Part)
    → Found expr_part expr_tree 7 100 before part after → OpeningFound c word before (what part.expr.value) after
test_found word head what is c before after part f spot =
    let r = colon_on expr_part (token (Keyword word) spot ∷ []) before after (test_turn head spot) 0 (head spot f.written) f.written (test_turns word head what is spot before) (expr_is_read f) f.before_is (λ n more first. refl) in
    record {
      front = token (Keyword word) spot ∷ expr_tokens f.written;
      made = head spot f.written;
      before_is = ap (λ ts. token (Keyword word) spot ∷ ts) f.before_is;
      tokens_are = λ colon behind. is.tokens_are spot f.written colon behind;
      steps = r.steps;
      left = r.left;
      reads = r.reads;
      what_is = λ colon behind. is.what_is part.expr.value spot f.written colon behind f.tree_is;
      behind_is = λ colon behind. is.behind_is spot f.written colon behind;
      past = past_opening word spot (expr_tokens f.written) (head spot f.written some_spot None) some_spot is.other (is.compound spot f.written some_spot None) (is.behind_is spot f.written some_spot None) (is.tokens_are spot f.written some_spot None);
      depth = expr_depth f.written;
      low = let high = f.height_is in let low = f.fits in omega (arith, high, low);
      depth_is = λ colon behind. is.depth_is spot f.written colon behind;
      lies_behind = λ colon s at. let same = is.lies_is spot f.written colon (Some s) at in let high = le-max_right (expr_lies f.written at) (simple_lies s at) in omega (arith, same, high);
      lies_within = λ colon s at. let same = is.lies_is spot f.written colon (Some s) at in let low = expr_low f.written at in omega (arith, same, low);
      stands = λ given colon behind. is.stands c given spot f.written colon behind;
    }

test_refused : (word : ℕ) (head : Spot → Expr → Spot → Option Simple → Head) (what : BuiltExpr → What) → Tested word head what → (c : Context) (before : List Token) (stop : Stop)
    → Refused expr_part 100 before stop → OpeningRefused c word before stop
test_refused word head what is c before stop refused = record {
  there = λ given limit spot may.
      refused_part_head c given limit expr_part 100 (token (Keyword word) spot ∷ []) before (token (Keyword word) spot ∷ before) stop (test_turn head spot) refl
      (begins_part_head c given expr_part 100 (token (Keyword word) spot ∷ []) (λ at e. head spot e (spot_at at) None) (λ at e. colon_tokens (spot_at at) None) (λ at e. is.stands c given spot e (spot_at at) None ∙ both_true _ true may refl)
      (λ at e. is.compound spot e (spot_at at) None) (λ at e. is.behind_is spot e (spot_at at) None) (λ at e some. cc) (λ at e. is.tokens_are spot e (spot_at at) None)
      (λ at other apart e low. let same = is.lies_is spot e (spot_at at) None other in omega (arith, same, low)) (λ at place e deep. let same = is.lies_is spot e (spot_at at) None place in let high = le-max_left (expr_lies e place) 0 in omega (arith, same, deep, high)))
      (passes_word word spot [] before is.other)
      (test_turns word head what is spot before)
      (λ why n e left deep. deep_colon why (n + 0) (head spot e) left 100 (expr_lies e) (expr_lies e) (λ colon behind at. is.lies_is spot e colon behind at) (λ at some. omega arith) deep) refused;
}

pub if_found : (c : Context) (before after : List Token) (part : Part) → Found expr_part expr_tree 7 100 before part after → OpeningFound c 20 before (If part.expr.value) after
if_found c before after part f = test_found 20 if_head If if_tested c before after part f

pub if_refused : (c : Context) (before : List Token) (stop : Stop) → Refused expr_part 100 before stop → OpeningRefused c 20 before stop
if_refused c before stop refused = test_refused 20 if_head If if_tested c before stop refused

pub elif_found : (c : Context) (before after : List Token) (part : Part) → Found expr_part expr_tree 7 100 before part after → OpeningFound c 13 before (Elif part.expr.value) after
elif_found c before after part f = test_found 13 elif_head Elif elif_tested c before after part f

pub elif_refused : (c : Context) (before : List Token) (stop : Stop) → Refused expr_part 100 before stop → OpeningRefused c 13 before stop
elif_refused c before stop refused = test_refused 13 elif_head Elif elif_tested c before stop refused

pub while_found : (c : Context) (before after : List Token) (part : Part) → Found expr_part expr_tree 7 100 before part after → OpeningFound c 32 before (While part.expr.value) after
while_found c before after part f = test_found 32 while_head While while_tested c before after part f

pub while_refused : (c : Context) (before : List Token) (stop : Stop) → Refused expr_part 100 before stop → OpeningRefused c 32 before stop
while_refused c before stop refused = test_refused 32 while_head While while_tested c before stop refused

-- ---- `with`

abbrev with_turn : Spot → ℕ → Expr → List Token → Option Head
with_turn spot n e more = then_read (read_naming more) (λ called rest. read_colon (n + 0) (with_head spot e called) rest)

with_turns : (spot : Spot) (next : List Token) → HeadTurns expr_part (token (Keyword 33) spot ∷ []) next (with_turn spot)
with_turns spot next = record { before = 0; behind = 0; turns = λ n more first. refl }

pub with_refused : (c : Context) (before : List Token) (stop : Stop) → Refused expr_part 100 before stop → OpeningRefused c 33 before stop
with_refused c before stop refused = record {
  there = λ given limit spot may.
      refused_part_head c given limit expr_part 100 (token (Keyword 33) spot ∷ []) before (token (Keyword 33) spot ∷ before) stop (with_turn spot) refl
      (begins_part_head c given expr_part 100 (token (Keyword 33) spot ∷ []) (λ at e. with_head spot e no_naming (spot_at at) None) (λ at e. colon_tokens (spot_at at) None) (λ at e. both_true _ true may refl) (λ at e. refl) (λ at e. refl) (λ at e some. cc) (λ at e. refl)
      (λ at other apart e low. omega (arith, low)) (λ at place e deep. omega (arith, deep)))
      (passes_word 33 spot [] before refl) (with_turns spot before) (λ why n e left deep. deep_naming why n spot e left deep) refused;
}
  where
    deep_naming : (why : Stop) (n : ℕ) (spot : Spot) (e : Expr) (left : List Token) → IsDeep why 100 (expr_lies e) → OnlyHead (λ h. IsDeep why 100 (head_lies h)) (with_turn spot n e left)
    deep_naming why n spot e left deep = by (read_naming left)
      where
        by : (r : Read Naming) → OnlyHead (λ h. IsDeep why 100 (head_lies h)) (then_read r (λ called rest. read_colon (n + 0) (with_head spot e called) rest))
        by None = tt
        by (Some (called, rest)) = deep_colon why (n + 0) (with_head spot e called) rest 100 (expr_lies e) (expr_lies e) (λ colon behind at. refl) (λ at some. omega arith) deep

abbrev called_turn : Spot → Expr → ℕ → Naming → List Token → Option Head
called_turn spot e n called rest = read_colon (n + 0) (with_head spot e called) rest

called_turns : (spot : Spot) (before after : List Token) (part : Part) → (f : Found expr_part expr_tree 7 100 before part after)
    → HeadTurns naming_part (token (Keyword 33) spot ∷ expr_tokens f.written) after (λ n. called_turn spot f.written (n + (expr_is_read f).steps))
called_turns spot before after part f =
    turns_on expr_part naming_part (token (Keyword 33) spot ∷ []) before after (with_turn spot) 0 (called_turn spot f.written) f.written (with_turns spot before) (expr_is_read f) f.before_is (λ n more first. refl)

pub with_name_refused : (c : Context) (before after : List Token) (part : Part) (stop : Stop) → Found expr_part expr_tree 7 100 before part after → Refused naming_part 100 after stop → OpeningRefused c 33 before stop
with_name_refused c before after part stop f refused = record {
  there = λ given limit spot may.
      refused_part_head c given limit naming_part 100 (token (Keyword 33) spot ∷ expr_tokens f.written) after (token (Keyword 33) spot ∷ before) stop (λ n. called_turn spot f.written (n + (expr_is_read f).steps))
      (ap (λ ts. token (Keyword 33) spot ∷ ts) f.before_is)
      (begins_part_head c given naming_part 100 (token (Keyword 33) spot ∷ expr_tokens f.written) (λ at called. with_head spot f.written called (spot_at at) None) (λ at called. colon_tokens (spot_at at) None) (λ at called. both_true _ true may refl)
      (λ at called. refl) (λ at called. refl) (λ at called some. cc) (λ at called. refl) (λ at other apart called any. let low = expr_within f.written (expr_fits f) other in omega (arith, low)) (λ at place called deep. absurd (none_deeper 100 deep)))
      (passes_word 33 spot (expr_tokens f.written) after refl)
      (called_turns spot before after part f)
      (λ why n called left deep. deep_colon why ((n + (expr_is_read f).steps) + 0) (with_head spot f.written called) left 100 (λ at. 0) (expr_lies f.written) (λ colon behind at. refl) (λ at some. omega arith) deep) refused;
}

pub with_found : (c : Context) (before middle after : List Token) (part : Part) (bound : Option Bound) → Found expr_part expr_tree 7 100 before part middle → Took naming_part naming_bound middle bound after → OpeningFound c 33 before (With part.expr.value bound) after
with_found c before middle after part bound f took spot =
    let r = colon_on naming_part (token (Keyword 33) spot ∷ expr_tokens f.written) middle after (λ n. called_turn spot f.written (n + (expr_is_read f).steps)) ((expr_is_read f).steps) (with_head spot f.written took.written) took.written
    (called_turns spot before middle part f) took.is_read took.before_is (λ n more first. ap (λ m. read_colon m (with_head spot f.written took.written) more) (omega arith)) in
    record {
      front = (token (Keyword 33) spot ∷ expr_tokens f.written) ++ naming_tokens took.written;
      made = with_head spot f.written took.written;
      before_is = ap (λ ts. token (Keyword 33) spot ∷ ts) (f.before_is ∙ ap (λ ts. expr_tokens f.written ++ ts) took.before_is ∙ sym (append_assoc (expr_tokens f.written) (naming_tokens took.written) after));
      tokens_are = λ colon behind. ap (λ ts. token (Keyword 33) spot ∷ ts) (sym (append_assoc (expr_tokens f.written) (naming_tokens took.written) (colon_tokens colon behind)));
      steps = r.steps;
      left = r.left;
      reads = r.reads;
      what_is = λ colon behind. (f.tree_is, took.value_is);
      behind_is = λ colon behind. refl;
      past = past_opening 33 spot (expr_tokens f.written ++ naming_tokens took.written) (with_head spot f.written took.written some_spot None) some_spot refl refl refl
          (ap (λ ts. token (Keyword 33) spot ∷ ts) (sym (append_assoc (expr_tokens f.written) (naming_tokens took.written) (colon_tokens some_spot None))));
      depth = expr_depth f.written;
      low = let high = f.height_is in let low = f.fits in omega (arith, high, low);
      depth_is = λ colon behind. refl;
      lies_behind = λ colon s at. le-max_right _ (simple_lies s at);
      lies_within = λ colon s at. let low = expr_low f.written at in omega (arith, low);
      stands = λ given colon behind. refl;
    }

-- ---- `except`

-- for every exception
pub except_every : (c : Context) (before : List Token) → begins_expr before ≡ false → OpeningFound c 15 before (Except None None) before
except_every c before other spot = record {
  front = token (Keyword 15) spot ∷ [];
  made = except_head spot every_kind;
  before_is = refl;
  tokens_are = λ colon behind. refl;
  steps = 0;
  left = 0;
  reads = λ n more first. ap (λ r. then_read r (λ kind rest. read_colon (n + 0) (except_head spot kind) rest)) (if_false (begins_expr more) _ _ (ap (λ m. nat_lt 0 m) (starts_same more before first) ∙ other));
  what_is = λ colon behind. (refl, refl);
  behind_is = λ colon behind. refl;
  past = past_opening 15 spot [] (except_head spot every_kind some_spot None) some_spot refl refl refl refl;
  depth = 0;
  low = omega arith;
  depth_is = λ colon behind. refl;
  lies_behind = λ colon s at. le-max_right _ (simple_lies s at);
  lies_within = λ colon s at. omega arith;
  stands = λ given colon behind. refl;
}

read_through : {A B : Type 0} (r : Read A) (f : A → List Token → Read B) (h : B → List Token → Option Head) → then_read (go_on r f) h ≡ then_read r (λ a rest. then_read (f a rest) h)
read_through None f h = refl
read_through (Some (a, rest)) f h = refl

abbrev except_turn : Spot → ℕ → Expr → List Token → Option Head
except_turn spot n e more = then_read (go_on (read_naming more) (λ called left. Some (one_kind e called, left))) (λ kind rest. read_colon (n + 0) (except_head spot kind) rest)

except_turns : (spot : Spot) (next : List Token) → begins_expr next ≡ true → HeadTurns expr_part (token (Keyword 15) spot ∷ []) next (except_turn spot)
except_turns spot next begins = record {
  before = 0;
  behind = 0;
  turns = λ n more first.
      ap (λ r. then_read r (λ kind rest. read_colon (n + 0) (except_head spot kind) rest)) (if_true (begins_expr more) _ _ (ap (λ m. nat_lt 0 m) (starts_same more next first) ∙ begins))
      ∙ read_through (read_expr (n + 0) more) (λ e rest. go_on (read_naming rest) (λ called left. Some (one_kind e called, left))) (λ kind rest. read_colon (n + 0) (except_head spot kind) rest);
}

pub except_refused : (c : Context) (before : List Token) (stop : Stop) → begins_expr before ≡ true → Refused expr_part 100 before stop → OpeningRefused c 15 before stop
except_refused c before stop begins refused = record {
  there = λ given limit spot may.
      refused_part_head c given limit expr_part 100 (token (Keyword 15) spot ∷ []) before (token (Keyword 15) spot ∷ before) stop (except_turn spot) refl
      (begins_part_head c given expr_part 100 (token (Keyword 15) spot ∷ []) (λ at e. except_head spot (one_kind e no_naming) (spot_at at) None) (λ at e. colon_tokens (spot_at at) None)
      (λ at e. both_true _ true may refl) (λ at e. refl) (λ at e. refl) (λ at e some. cc) (λ at e. ap (λ ts. token (Keyword 15) spot ∷ ts) (append_assoc (expr_tokens e) [] (colon_tokens (spot_at at) None))) (λ at other apart e low. omega (arith, low)) (λ at place e deep. omega (arith, deep)))
      (passes_word 15 spot [] before refl) (except_turns spot before begins) (λ why n e left deep. deep_naming why n spot e left deep) refused;
}
  where
    deep_naming : (why : Stop) (n : ℕ) (spot : Spot) (e : Expr) (left : List Token) → IsDeep why 100 (expr_lies e) → OnlyHead (λ h. IsDeep why 100 (head_lies h)) (except_turn spot n e left)
    deep_naming why n spot e left deep = by (read_naming left)
      where
        by : (r : Read Naming) → OnlyHead (λ h. IsDeep why 100 (head_lies h)) (then_read (go_on r (λ called left. Some (one_kind e called, left))) (λ kind rest. read_colon (n + 0) (except_head spot kind) rest))
        by None = tt
        by (Some (called, rest)) = deep_colon why (n + 0) (except_head spot (one_kind e called)) rest 100 (expr_lies e) (expr_lies e) (λ colon behind at. refl) (λ at some. omega arith) deep

abbrev class_turn : Spot → Expr → ℕ → Naming → List Token → Option Head
class_turn spot e n called rest = read_colon (n + 0) (except_head spot (one_kind e called)) rest

class_turns : (spot : Spot) (before after : List Token) (part : Part) → begins_expr before ≡ true → (f : Found expr_part expr_tree 7 100 before part after)
    → HeadTurns naming_part (token (Keyword 15) spot ∷ expr_tokens f.written) after (λ n. class_turn spot f.written (n + (expr_is_read f).steps))
class_turns spot before after part begins f =
    turns_on expr_part naming_part (token (Keyword 15) spot ∷ []) before after (except_turn spot) 0 (class_turn spot f.written) f.written (except_turns spot before begins) (expr_is_read f) f.before_is
    (λ n more first. read_through (read_naming more) (λ called left. Some (one_kind f.written called, left)) (λ kind rest. read_colon (n + 0) (except_head spot kind) rest))

pub except_name_refused : (c : Context) (before after : List Token) (part : Part) (stop : Stop) → begins_expr before ≡ true → Found expr_part expr_tree 7 100 before part after → Refused naming_part 100 after stop → OpeningRefused c 15 before stop
except_name_refused c before after part stop begins f refused = record {
  there = λ given limit spot may.
      refused_part_head c given limit naming_part 100 (token (Keyword 15) spot ∷ expr_tokens f.written) after (token (Keyword 15) spot ∷ before) stop (λ n. class_turn spot f.written (n + (expr_is_read f).steps))
      (ap (λ ts. token (Keyword 15) spot ∷ ts) f.before_is)
      (begins_part_head c given naming_part 100 (token (Keyword 15) spot ∷ expr_tokens f.written) (λ at called. except_head spot (one_kind f.written called) (spot_at at) None) (λ at called. colon_tokens (spot_at at) None)
      (λ at called. both_true _ true may refl) (λ at called. refl) (λ at called. refl) (λ at called some. cc) (λ at called. ap (λ ts. token (Keyword 15) spot ∷ ts) (append_assoc (expr_tokens f.written) (naming_tokens called) (colon_tokens (spot_at at) None)))
      (λ at other apart called any. let low = expr_within f.written (expr_fits f) other in omega (arith, low)) (λ at place called deep. absurd (none_deeper 100 deep)))
      (passes_word 15 spot (expr_tokens f.written) after refl)
      (class_turns spot before after part begins f)
      (λ why n called left deep. deep_colon why ((n + (expr_is_read f).steps) + 0) (except_head spot (one_kind f.written called)) left 100 (λ at. 0) (expr_lies f.written) (λ colon behind at. refl) (λ at some. omega arith) deep) refused;
}

pub except_found : (c : Context) (before middle after : List Token) (part : Part) (bound : Option Bound) → begins_expr before ≡ true → Found expr_part expr_tree 7 100 before part middle → Took naming_part naming_bound middle bound after
    → OpeningFound c 15 before (Except (Some part.expr.value) bound) after
except_found c before middle after part bound begins f took spot =
    let r = colon_on naming_part (token (Keyword 15) spot ∷ expr_tokens f.written) middle after (λ n. class_turn spot f.written (n + (expr_is_read f).steps)) ((expr_is_read f).steps) (except_head spot (one_kind f.written took.written)) took.written
    (class_turns spot before middle part begins f) took.is_read took.before_is (λ n more first. ap (λ m. read_colon m (except_head spot (one_kind f.written took.written)) more) (omega arith)) in
    record {
      front = (token (Keyword 15) spot ∷ expr_tokens f.written) ++ naming_tokens took.written;
      made = except_head spot (one_kind f.written took.written);
      before_is = ap (λ ts. token (Keyword 15) spot ∷ ts) (f.before_is ∙ ap (λ ts. expr_tokens f.written ++ ts) took.before_is ∙ sym (append_assoc (expr_tokens f.written) (naming_tokens took.written) after));
      tokens_are = λ colon behind. refl;
      steps = r.steps;
      left = r.left;
      reads = r.reads;
      what_is = λ colon behind. (ap Some f.tree_is, took.value_is);
      behind_is = λ colon behind. refl;
      past = past_opening 15 spot (expr_tokens f.written ++ naming_tokens took.written) (except_head spot (one_kind f.written took.written) some_spot None) some_spot refl refl refl refl;
      depth = expr_depth f.written;
      low = let high = f.height_is in let low = f.fits in omega (arith, high, low);
      depth_is = λ colon behind. refl;
      lies_behind = λ colon s at. le-max_right _ (simple_lies s at);
      lies_within = λ colon s at. let low = expr_low f.written at in omega (arith, low);
      stands = λ given colon behind. refl;
    }
