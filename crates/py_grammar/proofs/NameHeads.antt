-- The lines that begin with a name behind their keyword, `def` and `class`: what is read of them, and how they are refused.
use Rattle.std.proofs.Common.{◌≡◌, ℕ, ◌+◌, Bool, true, false, not, ◌&&◌, ◌||◌, List, [], ◌∷◌, ◌++◌, Option, Some, None, option_map, refl, ap, sym, ◌∙◌, arith, append_assoc, if◌then◌else◌, length}
use Rattle.std.proofs.Math.Nat.{le-max_right}
use Rattle.prov_base.specs.declared.place.Pos.{Pos}
use Rattle.py_lines.specs.declared.parts.Token.{Token}
use Rattle.py_lines.specs.declared.parts.TokenKind.TheVariants.{Word, Keyword, Sign}
use Rattle.py_tree.specs.declared.expr.Expr.{Expr as ExprRead}
use Rattle.py_tree.specs.declared.stmt.Params.{Params as ParamsRead}
use Rattle.py_tree.specs.Erasure.{expr_of}
use Rattle.py_grammar.specs.declared.context.Limit.{Limit}
use Rattle.py_expressions.specs.declared.fault.Fault.TheVariants.{Unexpected, TooDeep, TooMany, Memory}
use Rattle.py_expressions.specs.declared.fault.Stop.{Stop}
use Rattle.py_expressions.specs.declared.fault.Stop.TheVariants.{Here, End}
use Rattle.py_grammar.specs.declared.head.What.TheVariants.{Def, Class}
use Rattle.py_expressions.specs.Concrete.{Spot}
use Rattle.py_expressions.specs.Tokens.{token, word}
use Rattle.py_grammar.specs.Written.{Simple, Params, no_params, no_base}
use Rattle.py_grammar.specs.StatementTokens.{params_tokens, base_tokens}
use Rattle.py_grammar.specs.StatementTrees.{params_list, base_tree}
use Rattle.py_grammar.specs.LineReader.{Head, def_head, class_head, head_tokens, colon_tokens, then_read, read_colon, read_behind, read_head, read_params, read_base}
use Rattle.py_expressions.specs.Reader.{Read, go_on, is_sign, read_sign}
use Rattle.py_grammar.specs.WellPlaced.{may_be_method, are_different, in_def_suite}
use Rattle.py_grammar.specs.StatementLies.{simple_lies}
use Rattle.py_expressions.specs.Parsed.{IsDeep, Refused, TakenName, one_name}
use Rattle.py_grammar.specs.ParsedHead.{Took, base_part, Context, word_may, lacks_handler, behind_stands, head_stands, IsAmissHead, OpeningFound, OpeningRefused}
use Rattle.py_grammar.specs.ParsedNames.{RefusedAmiss, BracketNames, bracket_tokens, read_bracket, bracket_part, ParamsFound, IsRepeatedIn}
use Rattle.py_expressions.proofs.Stops.{some_spot, spot_at}
use Rattle.py_grammar.proofs.LyingLines.{base_low}
use Rattle.py_expressions.proofs.RowParts.{more_steps}
use Rattle.py_grammar.proofs.SimpleParts.{none_deeper}
use Rattle.py_expressions.proofs.ClosedParts.{not_deep}
use Rattle.py_grammar.proofs.HeadParts.{OnlyHead, HeadTurns, shown_head, spelled_head, begins_part_head, refused_part_head, past_opening, is_free}
use Rattle.py_grammar.proofs.Unread.{unread_clear, unread_word, passes_word}
use Rattle.py_grammar.proofs.AmissParts.{amiss_head, begins_fine_head}
use Rattle.py_grammar.proofs.FreshNames.{are_so}
use Rattle.py_grammar.proofs.FixedNames.{fixed_name, fixed_refused}
use Rattle.py_grammar.proofs.LineFirsts.{both_true}
use Rattle.py_grammar.proofs.BehindColon.{stays}

-- ---- what is read up to the end of the line

pub only_then : {A : Type 0} (P : Head → Type 0) (r : Read A) (f : A → List Token → Option Head) → ((a : A) (rest : List Token) → OnlyHead P (f a rest)) → OnlyHead P (then_read r f)
only_then P None f each = tt
only_then P (Some (a, rest)) f each = each a rest

pub only_colon : (P : Head → Type 0) (n : ℕ) (made : Spot → Option Simple → Head) (ts : List Token) → ((colon : Spot) (behind : Option Simple) → P (made colon behind)) → OnlyHead P (read_colon n made ts)
only_colon P n made [] each = tt
only_colon P n made (t ∷ ts) each = by (is_sign 7 t.kind) (read_behind n ts)
  where
    by : (b : Bool) (o : Option (Option Simple)) → OnlyHead P (if b then option_map (made (record { at = t.at; span = t.span })) o else None)
    by false o = tt
    by true None = tt
    by true (Some behind) = each _ behind

pub not_deep_there : (why : Stop) → IsDeep why 100 (λ at. 0) → ⊥
not_deep_there (Here (TooDeep at)) deep = absurd (omega (arith, deep))
not_deep_there (Here (Unexpected at)) deep = deep
not_deep_there (Here (TooMany at)) deep = deep
not_deep_there (Here Memory) deep = deep
not_deep_there End deep = deep

-- ---- `class`

abbrev class_named : Spot → ℕ → Spot × List ℕ → List Token → Option Head
class_named spot n found more = then_read (read_base more) (λ of rest. read_colon n (class_head spot found.0 found.1 of) rest)

class_turns : (spot : Spot) (next : List Token) → HeadTurns (fixed_name []) (token (Keyword 9) spot ∷ []) next (class_named spot)
class_turns spot next = record { before = 0; behind = 0; turns = λ n more first. more_steps (λ m. read_head m (token (Keyword 9) spot ∷ more)) (n + 0) n (omega arith) }

base_turns : (spot name_at : Spot) (name : List ℕ) (next : List Token) → HeadTurns base_part (token (Keyword 9) spot ∷ word name name_at) next (λ n of rest. read_colon n (class_head spot name_at name of) rest)
base_turns spot name_at name next = record { before = 0; behind = 0; turns = λ n more first. more_steps (λ m. read_head m (token (Keyword 9) spot ∷ token (Word name) name_at ∷ more)) (n + 0) n (omega arith) }

pub class_name_refused : (c : Context) (before : List Token) (stop : Stop) → Refused one_name 0 before stop → OpeningRefused c 9 before stop
class_name_refused c before stop is = record {
  there = λ given limit spot may.
      refused_part_head c given limit (fixed_name []) 0 (token (Keyword 9) spot ∷ []) before (token (Keyword 9) spot ∷ before) stop (class_named spot) refl
      (begins_part_head c given (fixed_name []) 0 (token (Keyword 9) spot ∷ []) (λ at found. class_head spot found.0 [] no_base (spot_at at) None) (λ at found. colon_tokens (spot_at at) None) (λ at found. both_true _ true may refl) (λ at found. refl)
      (λ at found. refl) (λ at found is. cc) (λ at found. refl) (λ at other apart found low. omega arith) (λ at place found deep. absurd (none_deeper 0 deep)))
      (passes_word 9 spot [] before refl) (class_turns spot before) (λ why n found left deep. absurd (not_deep why deep)) (fixed_refused [] before stop is);
}

pub class_base_refused : (c : Context) (place : Pos) (name : List ℕ) (before after : List Token) (stop : Stop) → TakenName before place name after → Refused base_part 100 after stop → OpeningRefused c 9 before stop
class_base_refused c place name before after stop f is = record {
  there = λ given limit spot may.
      refused_part_head c given limit base_part 100 (token (Keyword 9) spot ∷ word name f.spot) after (token (Keyword 9) spot ∷ before) stop (λ n of rest. read_colon n (class_head spot f.spot name of) rest)
      (ap (λ ts. token (Keyword 9) spot ∷ ts) f.before_is)
      (begins_part_head c given base_part 100 (token (Keyword 9) spot ∷ word name f.spot) (λ at of. class_head spot f.spot name of (spot_at at) None) (λ at of. colon_tokens (spot_at at) None) (λ at of. both_true _ true may refl) (λ at of. refl)
      (λ at of. refl) (λ at of some. cc) (λ at of. refl) (λ at other apart of any. let low = base_low of other in omega (arith, low)) (λ at place of deep. absurd (none_deeper 100 deep)))
      (passes_word 9 spot (word name f.spot) after refl) (base_turns spot f.spot name after) (λ why n of left deep. absurd (not_deep_there why deep)) is;
}

pub class_found : (c : Context) (place : Pos) (name : List ℕ) (base : Option ExprRead) (before middle after : List Token) → TakenName before place name middle → Took base_part base_tree middle (option_map expr_of base) after → OpeningFound c 9 before (Class name base) after
class_found c place name base before middle after f b spot = record {
  front = token (Keyword 9) spot ∷ (word name f.spot ++ base_tokens b.written);
  made = class_head spot f.spot name b.written;
  before_is = ap (λ ts. token (Keyword 9) spot ∷ ts) (f.before_is ∙ ap (λ ts. word name f.spot ++ ts) b.before_is);
  tokens_are = λ colon behind. refl;
  steps = 0;
  left = 0;
  reads = λ n more first. ap (λ r. then_read r (λ of rest. read_colon (n + 0) (class_head spot f.spot name of) rest)) (b.is_read.reads n more first);
  what_is = λ colon behind. (refl, b.value_is);
  behind_is = λ colon behind. refl;
  past = past_opening 9 spot (word name f.spot ++ base_tokens b.written) (class_head spot f.spot name b.written some_spot None) some_spot refl refl refl refl;
  depth = 1;
  low = omega arith;
  depth_is = λ colon behind. refl;
  lies_behind = λ colon s at. le-max_right _ (simple_lies s at);
  lies_within = λ colon s at. let low = base_low b.written at in omega (arith, low);
  stands = λ given colon behind. refl;
}

-- ---- `def`

abbrev def_bracket : Spot → Spot → List ℕ → ℕ → BracketNames → List Token → Option Head
def_bracket spot name_at name n w rest = read_colon n (def_head spot name_at name w.0 w.1 w.2) rest

abbrev def_named : Spot → ℕ → Spot × List ℕ → List Token → Option Head
def_named spot n found more = then_read (read_sign 0 more) (λ opening more_2. then_read (read_params n more_2) (λ given more_3. then_read (read_sign 1 more_3) (λ closing rest. read_colon n (def_head spot found.0 found.1 opening given closing) rest)))

bracket_turn : (r : Read Spot) (p : List Token → Read Params) (s : List Token → Read Spot) (f : BracketNames → List Token → Option Head)
    → then_read r (λ opening more. then_read (p more) (λ given more_2. then_read (s more_2) (λ closing rest. f (opening, given, closing) rest)))
    ≡ then_read (go_on r (λ opening more. go_on (p more) (λ given more_2. go_on (s more_2) (λ closing rest. Some ((opening, given, closing), rest))))) f
bracket_turn None p s f = refl
bracket_turn (Some (opening, more)) p s f = by (p more)
  where
    last : (given : Params) (r : Read Spot) → then_read r (λ closing rest. f (opening, given, closing) rest) ≡ then_read (go_on r (λ closing rest. Some ((opening, given, closing), rest))) f
    last given None = refl
    last given (Some (closing, rest)) = refl

    by : (r : Read Params) → then_read r (λ given more_2. then_read (s more_2) (λ closing rest. f (opening, given, closing) rest)) ≡ then_read (go_on r (λ given more_2. go_on (s more_2) (λ closing rest. Some ((opening, given, closing), rest)))) f
    by None = refl
    by (Some (given, more_2)) = last given (s more_2)

def_turns : (spot : Spot) (next : List Token) → HeadTurns (fixed_name []) (token (Keyword 11) spot ∷ []) next (def_named spot)
def_turns spot next = record { before = 0; behind = 0; turns = λ n more first. more_steps (λ m. read_head m (token (Keyword 11) spot ∷ more)) (n + 0) n (omega arith) }

bracket_is : (spot name_at : Spot) (name : List ℕ) (n : ℕ) (more : List Token) → read_head n (token (Keyword 11) spot ∷ token (Word name) name_at ∷ more) ≡ then_read (read_bracket n more) (def_bracket spot name_at name n)
bracket_is spot name_at name n more = bracket_turn (read_sign 0 more) (read_params n) (read_sign 1) (def_bracket spot name_at name n)

bracket_turns : (spot name_at : Spot) (name : List ℕ) (next : List Token) → HeadTurns bracket_part (token (Keyword 11) spot ∷ word name name_at) next (def_bracket spot name_at name)
bracket_turns spot name_at name next = record {
  before = 0;
  behind = 0;
  turns = λ n more first. more_steps (λ m. read_head m (token (Keyword 11) spot ∷ token (Word name) name_at ∷ more)) (n + 0) n (omega arith)
      ∙ bracket_is spot name_at name n more ∙ more_steps (λ m. then_read (read_bracket m more) (def_bracket spot name_at name n)) n (n + 0) (omega arith);
}

method_there : (l m i o d x : Bool) → (not m && not o) ≡ false → d ≡ true → ((not l && (m || i)) && ((m || (i && o)) && d) && x) ≡ ((not l && (m || i)) && x)
method_there l m i o false x is other = cc
method_there true m i o true x is other = refl
method_there false true i o true x is other = refl
method_there false false true true true x is other = refl
method_there false false false true true x is other = refl
method_there false false i false true x is other = cc

pub by_method : (m o : Bool) → o ≡ true → (not m && not o) ≡ false
by_method true o is = refl
by_method false true is = refl
by_method false false is = cc

pub by_level : (m o : Bool) → m ≡ true → (not m && not o) ≡ false
by_level true o is = refl
by_level false o is = cc

-- with this name and these parameters it may stand there
def_may : (c : Context) (given : List (List ℕ)) (spot name_at : Spot) (name : List ℕ) (w : BracketNames) → (not c.around.at_module_level && not (may_be_method name)) ≡ false → are_different (params_list w.1) ≡ true → word_may c 11 ≡ true
    → (colon : Spot) → head_stands c given (def_head spot name_at name w.0 w.1 w.2 colon None) ≡ true
def_may c given spot name_at name w method different may colon =
    method_there (lacks_handler c.last) c.around.at_module_level c.around.in_class (may_be_method name) (are_different (params_list w.1)) true method different ∙ both_true _ true may refl

unnamed_stands : (c : Context) (given : List (List ℕ)) (spot name_at behind : Spot) → word_may c 11 ≡ true → head_stands c given (def_head spot name_at [] behind no_params behind behind None) ≡ true
unnamed_stands c given spot name_at behind may = def_may c given spot name_at [] (behind, no_params, behind) (by_method c.around.at_module_level true refl) refl may behind

pub def_name_refused : (c : Context) (before : List Token) (stop : Stop) → Refused one_name 0 before stop → OpeningRefused c 11 before stop
def_name_refused c before stop is = record {
  there = λ given limit spot may.
      refused_part_head c given limit (fixed_name []) 0 (token (Keyword 11) spot ∷ []) before (token (Keyword 11) spot ∷ before) stop (def_named spot) refl
      (begins_part_head c given (fixed_name []) 0 (token (Keyword 11) spot ∷ []) (λ at found. def_head spot found.0 [] (spot_at at) no_params (spot_at at) (spot_at at) None)
      (λ at found. token (Sign 0) (spot_at at) ∷ token (Sign 1) (spot_at at) ∷ colon_tokens (spot_at at) None)
      (λ at found. unnamed_stands c given spot found.0 (spot_at at) may) (λ at found. refl) (λ at found. refl) (λ at found is. cc) (λ at found. refl) (λ at other apart found low. omega arith) (λ at place found deep. absurd (none_deeper 0 deep)))
      (passes_word 11 spot [] before refl) (def_turns spot before) (λ why n found left deep. absurd (not_deep why deep)) (fixed_refused [] before stop is);
}

-- a method may not have this name
no_method : (l m i o d x : Bool) → m ≡ false → o ≡ false → ((not l && (m || i)) && ((m || (i && o)) && d) && x) ≡ false
no_method l true i o d x inner other = cc
no_method l false i true d x inner other = cc
no_method true false i false d x inner other = refl
no_method false false true false d x inner other = refl
no_method false false false false d x inner other = refl

pub def_no_method : (c : Context) (place : Pos) (name : List ℕ) (before after : List Token) (left : ℕ) → TakenName before place name after → c.around.at_module_level ≡ false → may_be_method name ≡ false → left ≡ length after → OpeningRefused c 11 before (Here (Unexpected left))
def_no_method c place name before after left f inner other counted = record {
  there = λ given limit spot may. shown_head c given limit (token (Keyword 11) spot ∷ []) (token (Word name) f.spot) after (token (Keyword 11) spot ∷ before) (Unexpected left)
      (ap (λ ts. token (Keyword 11) spot ∷ ts) f.before_is) counted
      (spelled_head c given (λ at. def_head spot (spot_at at) [] (spot_at at) no_params (spot_at at) (spot_at at) None) (token (Keyword 11) spot ∷ [])
      (λ at. word [] (spot_at at) ++ (token (Sign 0) (spot_at at) ∷ token (Sign 1) (spot_at at) ∷ colon_tokens (spot_at at) None)) (λ at. unnamed_stands c given spot (spot_at at) (spot_at at) may) (λ at. refl) (λ at other apart. omega arith)) (
        is_free c given limit (token (Keyword 11) spot ∷ token (Word name) f.spot ∷ [])
            (stays (def_head spot some_spot [] some_spot no_params some_spot some_spot None) refl (token (Keyword 11) spot ∷ []) (token (Word []) some_spot) (token (Sign 0) some_spot ∷ token (Sign 1) some_spot ∷ colon_tokens some_spot None) refl (token (Word name) f.spot)),
        unread_clear (token (Keyword 11) spot ∷ []) (token (Word name) f.spot) (Unexpected left) refl (unread_word 11 spot [] (token (Word name) f.spot) (Unexpected left) refl),
      )
      (λ more. record {
        steps = 0;
        only = λ n. only_then _ (read_sign 0 more) _ (λ opening more_2. only_then _ (read_params (n + 0) more_2) _ (λ names more_3. only_then _ (read_sign 1 more_3) _ (λ closing rest.
            only_colon _ (n + 0) (def_head spot f.spot name opening names closing) rest
            (λ colon behind. no_method (lacks_handler c.last) c.around.at_module_level c.around.in_class (may_be_method name) (are_different (params_list names)) (behind_stands in_def_suite behind) inner other))));
      });
}

-- two parameters have one name
not_different : (l m i o d x : Bool) → d ≡ false → ((not l && (m || i)) && ((m || (i && o)) && d) && x) ≡ false
not_different l m i o true x is = cc
not_different l m i o false x is = by (not l && (m || i)) (m || (i && o))
  where
    by : (a b : Bool) → (a && (b && false) && x) ≡ false
    by true true = refl
    by true false = refl
    by false b = refl

repeated_amiss : (c : Context) (given : List (List ℕ)) (limit : Option Limit) (spot name_at : Spot) (name : List ℕ) (why : Stop) (n : ℕ) (w : BracketNames) (left : List Token) → IsRepeatedIn why w
    → OnlyHead (IsAmissHead c given limit why) (def_bracket spot name_at name n w left)
repeated_amiss c given limit spot name_at name (Here (Unexpected at)) n w left is = only_colon _ n (def_head spot name_at name w.0 w.1 w.2) left
    (λ colon behind. not_different (lacks_handler c.last) c.around.at_module_level c.around.in_class (may_be_method name) (are_different (params_list w.1)) (behind_stands in_def_suite behind) is)
repeated_amiss c given limit spot name_at name (Here (TooDeep at)) n w left is = absurd is
repeated_amiss c given limit spot name_at name (Here (TooMany at)) n w left is = absurd is
repeated_amiss c given limit spot name_at name (Here Memory) n w left is = absurd is
repeated_amiss c given limit spot name_at name End n w left is = absurd is

def_spells : (spot name_at : Spot) (name : List ℕ) (w : BracketNames) (colon : Spot) (behind : Option Simple) → head_tokens (def_head spot name_at name w.0 w.1 w.2 colon behind) ≡ (token (Keyword 11) spot ∷ word name name_at) ++ (bracket_tokens w ++ colon_tokens colon behind)
def_spells spot name_at name w colon behind = ap (λ ts. token (Keyword 11) spot ∷ token (Word name) name_at ∷ token (Sign 0) w.0 ∷ ts) (sym (append_assoc (params_tokens w.1) (token (Sign 1) w.2 ∷ []) (colon_tokens colon behind)))

pub def_params_refused : (c : Context) (place : Pos) (name : List ℕ) (before after : List Token) (stop : Stop) → TakenName before place name after → (not c.around.at_module_level && not (may_be_method name)) ≡ false
    → RefusedAmiss bracket_part IsRepeatedIn after stop → OpeningRefused c 11 before stop
def_params_refused c place name before after stop f method is = record {
  there = λ given limit spot may.
      amiss_head c given limit bracket_part IsRepeatedIn (token (Keyword 11) spot ∷ word name f.spot) after (token (Keyword 11) spot ∷ before) stop (def_bracket spot f.spot name)
      (ap (λ ts. token (Keyword 11) spot ∷ ts) f.before_is)
      (begins_fine_head c given bracket_part IsRepeatedIn (token (Keyword 11) spot ∷ word name f.spot) (λ w. def_head spot f.spot name w.0 w.1 w.2 some_spot None) (λ w. colon_tokens some_spot None)
      (λ w fine. def_may c given spot f.spot name w method (are_so w.1 fine) may some_spot) (λ w. refl) (λ w. refl) (λ w is. cc) (λ w. def_spells spot f.spot name w some_spot None) (λ w. omega arith))
      (passes_word 11 spot (word name f.spot) after refl) (bracket_turns spot f.spot name after) (λ why n w left is. repeated_amiss c given limit spot f.spot name why n w left is) is;
}

pub def_found : (c : Context) (place : Pos) (name : List ℕ) (params : ParamsRead) (before middle after : List Token) → TakenName before place name middle → ParamsFound middle params.list.items after → (not c.around.at_module_level && not (may_be_method name)) ≡ false
    → OpeningFound c 11 before (Def name params) after
def_found c place name params before middle after f p method spot = record {
  front = token (Keyword 11) spot ∷ (word name f.spot ++ bracket_tokens p.written);
  made = def_head spot f.spot name p.written.0 p.written.1 p.written.2;
  before_is = ap (λ ts. token (Keyword 11) spot ∷ ts) (f.before_is ∙ ap (λ ts. word name f.spot ++ ts) p.before_is);
  tokens_are = λ colon behind. def_spells spot f.spot name p.written colon behind;
  steps = p.is_read.steps;
  left = p.is_read.steps;
  reads = λ n more first. bracket_is spot f.spot name (n + p.is_read.steps) (bracket_tokens p.written ++ more) ∙ ap (λ r. then_read r (def_bracket spot f.spot name (n + p.is_read.steps))) (p.is_read.reads n more first);
  what_is = λ colon behind. (refl, p.names_are);
  behind_is = λ colon behind. refl;
  past = past_opening 11 spot (word name f.spot ++ bracket_tokens p.written) (def_head spot f.spot name p.written.0 p.written.1 p.written.2 some_spot None) some_spot refl refl refl (def_spells spot f.spot name p.written some_spot None);
  depth = 0;
  low = omega arith;
  depth_is = λ colon behind. refl;
  lies_behind = λ colon s at. le-max_right _ (simple_lies s at);
  lies_within = λ colon s at. omega arith;
  stands = λ given colon behind. method_there (lacks_handler c.last) c.around.at_module_level c.around.in_class (may_be_method name) (are_different (params_list p.written.1)) (behind_stands in_def_suite behind) method p.different;
}
