-- What is answered of the tokens of a line (`read_head`): a simple statement, or what begins a compound one or a part of it.
use Rattle.std.specs.Prelude.{◌≡◌, ⊤, ◌⊎◌, ℕ, ◌+◌, ◌<◌, ◌≤◌, max, Bool, true, false, ◌&&◌, ◌||◌, not, ◌==◌, List, [], ◌∷◌, ◌++◌, codes, length, Option, Some, None, option_map, is_some, if◌then◌else◌}
use Rattle.prov_base.specs.declared.place.Pos.{Pos}
use Rattle.py_lines.specs.declared.parts.Token.{Token}
use Rattle.py_lines.specs.declared.parts.TokenKind.{TokenKind}
use Rattle.py_lines.specs.declared.parts.TokenKind.TheVariants.{Keyword, Text, Sign}
use Rattle.py_tree.specs.declared.stmt.Form.{Form}
use Rattle.py_tree.specs.declared.stmt.Globals.{Globals}
use Rattle.py_tree.specs.Erasure.{expr_of, target_of, form_of}
use Rattle.py_grammar.specs.declared.context.Context.{Context as Standing}
use Rattle.py_grammar.specs.declared.context.Last.{Last}
use Rattle.py_grammar.specs.declared.context.Limit.{Limit}
use Rattle.py_grammar.specs.declared.context.Limit.TheVariants.{Number, Depth}
use Rattle.py_grammar.specs.declared.context.Last.TheVariants.{If as AfterIf, Try as AfterTry, Handler}
use Rattle.py_expressions.specs.declared.fault.Fault.{Fault}
use Rattle.py_expressions.specs.declared.fault.Fault.TheVariants.{Unexpected, TooDeep, TooMany, Memory}
use Rattle.py_expressions.specs.declared.fault.Stop.{Stop}
use Rattle.py_expressions.specs.declared.fault.Stop.TheVariants.{Here, End}
use Rattle.py_grammar.specs.declared.head.What.{What}
use Rattle.py_grammar.specs.declared.head.What.TheVariants.{Simple as SimpleIs, If, Elif, Else, While, For, Try, Except, With, Def, Class, Global}
use Rattle.py_grammar.specs.declared.head.LineHead.{LineHead}
use Rattle.py_grammar.specs.declared.head.Behind.{Behind}
use Rattle.py_expressions.specs.Concrete.{Spot, Expr, Sum}
use Rattle.py_expressions.specs.Tokens.{token, keyword, expr_tokens, sum_tokens}
use Rattle.py_expressions.specs.Trees.{expr_tree, exprs_tree}
use Rattle.py_expressions.specs.Targets.{OneTarget, named, Target}
use Rattle.py_grammar.specs.Written.{Simple, del, pass, Names, Params, Naming, Kind, Base}
use Rattle.py_grammar.specs.StatementTokens.{simple_tokens, one_target_tokens, target_tokens, names_tokens, params_tokens, naming_tokens, kind_tokens, base_tokens}
use Rattle.py_grammar.specs.StatementTrees.{simple_form, target_tree, names_list, params_list, naming_bound, kind_class, kind_bound, base_tree}
use Rattle.py_expressions.specs.Depth.{expr_depth, exprs_depth}
use Rattle.py_grammar.specs.StatementDepth.{simple_depth, target_depth, kind_depth}
use Rattle.py_expressions.specs.Lies.{expr_lies, exprs_lies, sum_lies, nowhere, IsApart}
use Rattle.py_grammar.specs.StatementLies.{one_target_lies, simple_lies, target_lies, kind_lies, base_lies, target_deepest, kind_deepest}
use Rattle.py_grammar.specs.WellPlaced.{Around, in_suite, in_loop_suite, in_handler_suite, in_def_suite, in_class_suite, simple_stands, def_stands, none_given}
use Rattle.py_grammar.specs.LineReader.{Head, simple_head, if_head, elif_head, else_head, while_head, for_head, try_head, except_head, with_head, def_head, class_head, global_head, behind_tokens, colon_tokens, head_tokens, read_colon, read_head, read_target, read_names, read_params, read_naming, read_kind, read_base}
use Rattle.py_expressions.specs.Parsed.{Production, IsAtFirst, IsDeep, ShowsAt}
use Rattle.py_expressions.specs.ParsedRows.{first_token, IsRead}
use Rattle.py_grammar.specs.ParsedSimple.{around_of, leaving_none, simple_part, BeginsSome, BeginsDel, FirstDeepSome, FirstDeepDel, UnreadDel}

-- ---- the parts of a line

abbrev pub target_part : Production Target
target_part = record { tokens = target_tokens; depth = target_depth; lies = target_lies; deepest = target_deepest; form = λ _. false; read = read_target }

abbrev pub names_part : Production Names
names_part = record { tokens = names_tokens; depth = λ _. 0; lies = λ _ at. 0; deepest = λ _. nowhere; form = λ _. false; read = read_names }

abbrev pub params_part : Production Params
params_part = record { tokens = params_tokens; depth = λ _. 0; lies = λ _ at. 0; deepest = λ _. nowhere; form = λ _. false; read = read_params }

abbrev pub naming_part : Production Naming
naming_part = record { tokens = naming_tokens; depth = λ _. 0; lies = λ _ at. 0; deepest = λ _. nowhere; form = λ _. false; read = λ _ ts. read_naming ts }

abbrev pub kind_part : Production Kind
kind_part = record { tokens = kind_tokens; depth = kind_depth; lies = kind_lies; deepest = kind_deepest; form = λ _. false; read = read_kind }

abbrev pub base_part : Production Base
base_part = record { tokens = base_tokens; depth = λ _. 0; lies = λ _ at. 0; deepest = λ _. nowhere; form = λ _. false; read = λ _ ts. read_base ts }

-- such a part was read, which is this
pub record Took {A V : Type 0} (p : Production A) (view : A → V) (before : List Token) (value : V) (after : List Token) : Type 0 where
  pub written : A
  pub before_is : before ≡ p.tokens written ++ after
  pub value_is : value ≡ view written
  pub fits : p.depth written ≤ 100
  pub is_read : IsRead p written after

-- ---- where a line stands

-- what is asked of a line beside the grammar: where it stands, which part of the statement before it at the same
-- indentation may follow, whether a `global` line may stand there
pub record Context : Type 0 where
  pub around : Around
  pub last : Last
  pub may_declare : Bool

abbrev pub context_of : Standing → Context
context_of c = record { around = around_of c.around; last = c.last; may_declare = c.may_declare }

abbrev pub takes_branch : Last → Bool
takes_branch AfterIf = true
takes_branch last = false

abbrev pub takes_handler : Last → Bool
takes_handler AfterTry = true
takes_handler Handler = true
takes_handler last = false

abbrev pub lacks_handler : Last → Bool
lacks_handler AfterTry = true
lacks_handler last = false

-- a statement may begin with this keyword there, or a part of one
abbrev pub word_may : Context → ℕ → Bool
word_may c n =
    if (n == 13) || (n == 14) then takes_branch c.last
    else (if n == 15 then takes_handler c.last
    else (not (lacks_handler c.last) && (if n == 19 then c.may_declare
    else (if n == 11 then c.around.at_module_level || c.around.in_class
    else (if n == 9 then c.around.at_module_level
    else not c.around.in_class)))))

-- the suite of what begins with this keyword
abbrev pub inner_around : ℕ → Around → Around
inner_around n around =
    if (n == 32) || (n == 17) then in_loop_suite around
    else (if n == 15 then in_handler_suite around
    else (if n == 11 then in_def_suite
    else (if n == 9 then in_class_suite else in_suite around)))

abbrev pub behind_stands : Around → Option Simple → Bool
behind_stands around None = true
behind_stands around (Some s) = simple_stands around s

-- A line may stand there. Of a `def` this speaks of its name and parameters too, and of a `global` line of its names.
abbrev pub head_stands : Context → List (List ℕ) → Head → Bool
head_stands c given (simple_head s) = not (lacks_handler c.last) && simple_stands c.around s
head_stands c given (if_head at test colon behind) = word_may c 20 && behind_stands (in_suite c.around) behind
head_stands c given (elif_head at test colon behind) = word_may c 13 && behind_stands (in_suite c.around) behind
head_stands c given (else_head at colon behind) = word_may c 14 && behind_stands (in_suite c.around) behind
head_stands c given (while_head at test colon behind) = word_may c 32 && behind_stands (in_loop_suite c.around) behind
head_stands c given (for_head at t in_word e colon behind) = word_may c 17 && behind_stands (in_loop_suite c.around) behind
head_stands c given (try_head at colon behind) = word_may c 31 && behind_stands (in_suite c.around) behind
head_stands c given (except_head at kind colon behind) = word_may c 15 && behind_stands (in_handler_suite c.around) behind
head_stands c given (with_head at e called colon behind) = word_may c 33 && behind_stands (in_suite c.around) behind
head_stands c given (def_head at name_at bytes opening names closing colon behind) = word_may c 11 && def_stands c.around bytes (params_list names) && behind_stands in_def_suite behind
head_stands c given (class_head at name_at bytes of colon behind) = word_may c 9 && behind_stands in_class_suite behind
head_stands c given (global_head at names) = word_may c 19 && none_given given (names_list names)

abbrev pub behind_depth : Option Simple → ℕ
behind_depth None = 0
behind_depth (Some s) = simple_depth s

-- the deepest expression of a line
abbrev pub head_depth : Head → ℕ
head_depth (simple_head s) = simple_depth s
head_depth (if_head at test colon behind) = max (expr_depth test) (behind_depth behind)
head_depth (elif_head at test colon behind) = max (expr_depth test) (behind_depth behind)
head_depth (else_head at colon behind) = max 0 (behind_depth behind)
head_depth (while_head at test colon behind) = max (expr_depth test) (behind_depth behind)
head_depth (for_head at t in_word e colon behind) = max (max (target_depth t) (exprs_depth e)) (behind_depth behind)
head_depth (try_head at colon behind) = max 0 (behind_depth behind)
head_depth (except_head at kind colon behind) = max (kind_depth kind) (behind_depth behind)
head_depth (with_head at e called colon behind) = max (expr_depth e) (behind_depth behind)
head_depth (def_head at name_at bytes opening names closing colon behind) = max 0 (behind_depth behind)
head_depth (class_head at name_at bytes of colon behind) = max 1 (behind_depth behind)
head_depth (global_head at names) = 0

abbrev pub behind_lies : Option Simple → Pos → ℕ
behind_lies None at = 0
behind_lies (Some s) at = simple_lies s at

-- how deep the deepest expression of a line lies that begins at a place
abbrev pub head_lies : Head → Pos → ℕ
head_lies (simple_head s) at = simple_lies s at
head_lies (if_head word test colon behind) at = max (expr_lies test at) (behind_lies behind at)
head_lies (elif_head word test colon behind) at = max (expr_lies test at) (behind_lies behind at)
head_lies (else_head word colon behind) at = max 0 (behind_lies behind at)
head_lies (while_head word test colon behind) at = max (expr_lies test at) (behind_lies behind at)
head_lies (for_head word t in_word e colon behind) at = max (max (target_lies t at) (exprs_lies e at)) (behind_lies behind at)
head_lies (try_head word colon behind) at = max 0 (behind_lies behind at)
head_lies (except_head word kind colon behind) at = max (kind_lies kind at) (behind_lies behind at)
head_lies (with_head word e called colon behind) at = max (expr_lies e at) (behind_lies behind at)
head_lies (def_head word name_at bytes opening names closing colon behind) at = max 0 (behind_lies behind at)
head_lies (class_head word name_at bytes of colon behind) at = max (base_lies of at) (behind_lies behind at)
head_lies (global_head word names) at = 0

abbrev pub head_part : Production Head
head_part = record { tokens = head_tokens; depth = head_depth; lies = head_lies; deepest = λ _. nowhere; form = λ _. false; read = λ n ts. leaving_none (read_head n ts) }

-- the statement behind the `:`
abbrev pub behind_in : Head → Option Simple
behind_in (simple_head s) = None
behind_in (if_head at test colon behind) = behind
behind_in (elif_head at test colon behind) = behind
behind_in (else_head at colon behind) = behind
behind_in (while_head at test colon behind) = behind
behind_in (for_head at t in_word e colon behind) = behind
behind_in (try_head at colon behind) = behind
behind_in (except_head at kind colon behind) = behind
behind_in (with_head at e called colon behind) = behind
behind_in (def_head at name_at bytes opening names closing colon behind) = behind
behind_in (class_head at name_at bytes of colon behind) = behind
behind_in (global_head at names) = None

-- ---- what was read

-- the line begins this
abbrev pub IsWhat : What → Head → Type 0
IsWhat (SimpleIs form) (simple_head s) = form_of form ≡ simple_form s
IsWhat (If e) (if_head at test colon behind) = expr_of e ≡ expr_tree test
IsWhat (Elif e) (elif_head at test colon behind) = expr_of e ≡ expr_tree test
IsWhat Else (else_head at colon behind) = ⊤
IsWhat (While e) (while_head at test colon behind) = expr_of e ≡ expr_tree test
IsWhat (For target e) (for_head at t in_word items colon behind) = (target_of target ≡ target_tree t) × (expr_of e ≡ exprs_tree items)
IsWhat Try (try_head at colon behind) = ⊤
IsWhat (Except class bound) (except_head at kind colon behind) = (option_map expr_of class ≡ kind_class kind) × (bound ≡ kind_bound kind)
IsWhat (With e bound) (with_head at value called colon behind) = (expr_of e ≡ expr_tree value) × (bound ≡ naming_bound called)
IsWhat (Def name params) (def_head at name_at bytes opening names closing colon behind) = (name ≡ bytes) × (params.list.items ≡ params_list names)
IsWhat (Class name base) (class_head at name_at bytes of colon behind) = (name ≡ bytes) × (option_map expr_of base ≡ base_tree of)
IsWhat (Global names) (global_head at written) = names.list.items ≡ names_list written
IsWhat what head = ⊥

-- the statement behind the `:`, with the place and the first byte of its first token
abbrev pub begins_at : List Token → Pos → ℕ → Type 0
begins_at [] at from = ⊥
begins_at (t ∷ ts) at from = (at ≡ t.at) × (from ≡ t.span.from)

pub record IsThere (b : Behind) (s : Simple) : Type 0 where
  pub form_is : form_of b.form ≡ simple_form s
  pub begins : begins_at (simple_tokens s) b.at b.from

abbrev pub IsBehind : Option Behind → Option Simple → Type 0
IsBehind None None = ⊤
IsBehind (Some b) (Some s) = IsThere b s
IsBehind b s = ⊥

-- a simple statement that all the tokens are, and that stands there
pub record PlacedFound (around : Around) (before : List Token) (form : Form) : Type 0 where
  pub written : Simple
  pub before_is : before ≡ simple_tokens written
  pub tree_is : form_of form ≡ simple_form written
  pub fits : simple_depth written ≤ 100
  pub stands : simple_stands around written ≡ true

-- what stands behind a `:`, where none may stand if it would be one too many or lie too deep
pub record BehindFound (around : Around) (limit : Option Limit) (before : List Token) (behind : Option Behind) : Type 0 where
  pub written : Option Simple
  pub before_is : before ≡ behind_tokens written
  pub what_is : IsBehind behind written
  pub fits : behind_depth written ≤ 100
  pub stands : behind_stands around written ≡ true
  pub within : is_some limit ≡ true → written ≡ None

-- a line that may stand there
pub record HeadFound (c : Context) (given : List (List ℕ)) (limit : Option Limit) (before : List Token) (line : LineHead) : Type 0 where
  pub written : Head
  pub before_is : before ≡ head_tokens written
  pub what_is : IsWhat line.what written
  pub behind_is : IsBehind line.behind (behind_in written)
  pub fits : head_depth written ≤ 100
  pub stands : head_stands c given written ≡ true
  pub within : is_some limit ≡ true → behind_in written ≡ None

-- targets with a comma behind each
abbrev pub passed_tokens : List (OneTarget × Spot) → List Token
passed_tokens [] = []
passed_tokens (p ∷ passed) = one_target_tokens p.0 ++ token (Sign 6) p.1 ∷ passed_tokens passed

-- how deep what begins at a place lies in targets with a comma behind each
abbrev pub passed_lies : List (OneTarget × Spot) → Pos → ℕ
passed_lies [] at = 0
passed_lies (p ∷ passed) at = max (one_target_lies p.0 at) (passed_lies passed at)

-- several targets lie one deeper
abbrev pub room_behind : ℕ → List (OneTarget × Spot) → ℕ
room_behind room [] = room
room_behind room (p ∷ passed) = 99

-- No `del` stands in these tokens, and behind the `for` with which they begin no targets and sum have all of them.
pub record IsPast (front : List Token) : Type 0 where
  pub no_del : (opened : List Token) (spot : Spot) (inside : List Token) → front ≡ opened ++ token (Keyword 12) spot ∷ inside → ⊥
  pub no_for : (spot : Spot) (tokens inside : List Token) → front ++ tokens ≡ token (Keyword 17) spot ∷ inside → (passed : List (OneTarget × Spot)) (s : Sum) (more : List Token) → passed_tokens passed ++ sum_tokens s ≡ inside ++ more → ⊥

-- What begins a line up to its `:` was read: every line with these tokens is this one. `word` is its keyword.
pub record Opening (c : Context) (word : ℕ) (before : List Token) (what : What) (after : List Token) : Type 0 where
  pub front : List Token
  pub made : Spot → Option Simple → Head
  pub before_is : before ≡ front ++ after
  pub tokens_are : (colon : Spot) (behind : Option Simple) → head_tokens (made colon behind) ≡ front ++ colon_tokens colon behind
  pub steps : ℕ
  pub left : ℕ
  pub reads : (n : ℕ) (more : List Token) → first_token more ≡ first_token after → read_head (n + steps) (front ++ more) ≡ read_colon (n + left) made more
  pub what_is : (colon : Spot) (behind : Option Simple) → IsWhat what (made colon behind)
  pub behind_is : (colon : Spot) (behind : Option Simple) → behind_in (made colon behind) ≡ behind
  pub past : IsPast front
  pub depth : ℕ
  pub low : depth ≤ 100
  pub depth_is : (colon : Spot) (behind : Option Simple) → head_depth (made colon behind) ≡ max depth (behind_depth behind)
  pub lies_behind : (colon : Spot) (s : Simple) (at : Pos) → simple_lies s at ≤ head_lies (made colon (Some s)) at
  pub lies_within : (colon : Spot) (s : Simple) (at : Pos) → head_lies (made colon (Some s)) at ≤ max depth (simple_lies s at)
  pub stands : (given : List (List ℕ)) (colon : Spot) (behind : Option Simple) → head_stands c given (made colon behind) ≡ word_may c word && behind_stands (inner_around word c.around) behind

-- ---- what is refused

-- the first of these tokens stands at this place
abbrev pub stands_first : List Token → Pos → Type 0
stands_first [] at = ⊥
stands_first (t ∷ ts) at = at ≡ t.at

abbrev pub behind_first : Option Simple → Pos → Type 0
behind_first None at = ⊥
behind_first (Some s) at = stands_first (simple_tokens s) at

-- What has these tokens all the same: with TooDeep what has an expression that begins at the place that it names and lies too
-- deep, or passes the limit of suites, with TooMany what passes that of number, else what does not stand there.
abbrev pub IsAmissPlaced : Around → (limit : Option Limit) → Stop → Simple → Type 0
IsAmissPlaced around limit (Here (TooDeep at)) s = (100 < simple_lies s at) ⊎ ((limit ≡ Some Depth) × stands_first (simple_tokens s) at)
IsAmissPlaced around limit (Here (TooMany at)) s = limit ≡ Some Number
IsAmissPlaced around limit (Here (Unexpected left)) s = simple_stands around s ≡ false
IsAmissPlaced around limit End s = simple_stands around s ≡ false
IsAmissPlaced around limit stop s = ⊥

-- this limit is passed
abbrev pub passes : Limit → (limit : Option Limit) → Head → Type 0
passes one limit h = (limit ≡ Some one) × (is_some (behind_in h) ≡ true)

abbrev pub IsAmissHead : Context → List (List ℕ) → (limit : Option Limit) → Stop → Head → Type 0
IsAmissHead c given limit (Here (TooDeep at)) h = (100 < head_lies h at) ⊎ ((limit ≡ Some Depth) × behind_first (behind_in h) at)
IsAmissHead c given limit (Here (TooMany at)) h = passes Number limit h
IsAmissHead c given limit (Here (Unexpected left)) h = head_stands c given h ≡ false
IsAmissHead c given limit End h = head_stands c given h ≡ false
IsAmissHead c given limit stop h = ⊥

-- The fault is shown by this token, behind which these stand, and TooMany names it.
abbrev pub ShowsOnLine : Token → List Token → Fault → Type 0
ShowsOnLine t behind (TooMany place) = place ≡ t.at
ShowsOnLine t behind fault = ShowsAt behind fault

-- Behind these tokens of a line, up to the `:` of a compound statement, the grammar has any simple one, and this one may stand
-- there. Nothing before it lies too deep.
pub record StartsBehind (c : Context) (given : List (List ℕ)) (one : Spot → Simple) (front : List Token) : Type 0 where
  pub made : Simple → Head
  pub tokens_are : (s : Simple) → head_tokens (made s) ≡ front ++ simple_tokens s
  pub behind_is : (s : Simple) → behind_in (made s) ≡ Some s
  pub stands : (spot : Spot) → head_stands c given (made (one spot)) ≡ true
  pub within : (s : Simple) (at : Pos) → head_lies (made s) at ≤ max 100 (simple_lies s at)

-- `del` and a name
abbrev pub del_name : Spot → Simple
del_name spot = del spot (named spot (codes "name"))

-- it may stand there at the start of a line, or behind a `:`
abbrev pub DelStarts : Context → List (List ℕ) → List Token → Type 0
DelStarts c given opened = ((opened ≡ []) × ((spot : Spot) → head_stands c given (simple_head (del_name spot)) ≡ true)) ⊎ StartsBehind c given del_name opened

-- `del` and the first tokens of an expression, which is read before it is asked whether it is a target: `so` says that the
-- tokens behind `opened` are this
pub record ReadsDel (c : Context) (given : List (List ℕ)) (so : List Token → Type 0) (front : List Token) : Type 0 where
  pub opened : List Token
  pub starts : DelStarts c given opened
  pub inside : List Token
  pub begins : so inside
  pub front_is : front ≡ opened ++ inside

-- Targets with a comma behind each, and the first tokens of a sum, which is read before it is asked whether it is a target. What begins
-- before the rest lies within the room: whatever place is chosen for the tokens that are put behind, expressions that begin elsewhere lie so.
pub record CompletesTargets (room : ℕ) (front : List Token) (at : Pos) : Type 0 where
  pub passed : List (OneTarget × Spot)
  pub some : Sum
  pub more : List Token
  pub tokens_are : passed_tokens passed ++ sum_tokens some ≡ front ++ more
  pub within : (other : Pos) → (other ≡ at → ⊥) → max (passed_lies passed other) (sum_lies some other) ≤ room_behind room passed

abbrev pub BeginsTargets : ℕ → List Token → Type 0
BeginsTargets room front = (at : Pos) → CompletesTargets room front at

-- Targets and a sum have these first tokens, and there is no room for them: of what lies too deep in them the first begins at this
-- place. A token of these stands there, and what begins at none of these from that one on lies within the room.
pub record FirstDeepTargets (room : ℕ) (front : List Token) (place : Pos) : Type 0 where
  pub passed : List (OneTarget × Spot)
  pub some : Sum
  pub more : List Token
  pub tokens_are : passed_tokens passed ++ sum_tokens some ≡ front ++ more
  pub ahead : List Token
  pub named : Token
  pub between : List Token
  pub front_is : front ≡ ahead ++ named ∷ between
  pub named_is : named.at ≡ place
  pub deep : room_behind room passed < max (passed_lies passed place) (sum_lies some place)
  pub within : (other : Pos) → IsApart other (named ∷ between) → max (passed_lies passed other) (sum_lies some other) ≤ room_behind room passed

-- the same behind a `for` that may stand there: `so` says that targets begin with the tokens
pub record ReadsFor (c : Context) (so : List Token → Type 0) (front : List Token) : Type 0 where
  pub may : word_may c 17 ≡ true
  pub spot : Spot
  pub inside : List Token
  pub begins : so inside
  pub front_is : front ≡ token (Keyword 17) spot ∷ inside

-- what is read behind `del` or `for`, where nothing that has begun lies too deep
abbrev pub BeginsReading : Context → List (List ℕ) → List Token → Type 0
BeginsReading c given front = ReadsDel c given BeginsDel front ⊎ ReadsFor c (BeginsTargets 100) front

-- the same, where the first that lies too deep begins at this place
abbrev pub DeepReading : Context → List (List ℕ) → List Token → Pos → Type 0
DeepReading c given front place = ReadsDel c given (λ tokens. FirstDeepDel tokens place) front ⊎ ReadsFor c (λ tokens. FirstDeepTargets 100 tokens place) front

-- the first tokens of a line that may stand there, or of what is read of it, where nothing that has begun lies too deep
abbrev pub BeginsHead : Context → List (List ℕ) → List Token → Type 0
BeginsHead c given front = BeginsSome head_part (head_stands c given) front ⊎ BeginsReading c given front

-- the same, where the first that lies too deep begins at this place
abbrev pub DeepHead : Context → List (List ℕ) → List Token → Pos → Type 0
DeepHead c given front place = FirstDeepSome head_part (head_stands c given) front place ⊎ DeepReading c given front place

-- The first tokens of a simple statement that may stand there, where nothing that has begun lies too deep. In a class no `del` does.
abbrev pub BeginsPlaced : Around → List Token → Type 0
BeginsPlaced around front = BeginsSome simple_part (simple_stands around) front ⊎ ((around.in_class ≡ false) × BeginsDel front)

-- the same, where the first that lies too deep begins at this place
abbrev pub DeepPlaced : Around → List Token → Pos → Type 0
DeepPlaced around front place = FirstDeepSome simple_part (simple_stands around) front place ⊎ ((around.in_class ≡ false) × FirstDeepDel front place)

-- The same, where nothing has begun if a limit is given.
abbrev pub BeginsThere : Around → (limit : Option Limit) → List Token → Type 0
BeginsThere around limit front = (is_some limit ≡ true → front ≡ []) × BeginsPlaced around front

-- With TooDeep, a simple statement goes on with the token that shows it, in which the first that lies too deep begins at the place, or
-- a limit is passed: then whatever stands first shows it.
abbrev pub GoesOnPlaced : Around → (limit : Option Limit) → List Token → Token → Fault → Type 0
GoesOnPlaced around limit front t (TooDeep at) = ((limit ≡ None) × DeepPlaced around (front ++ t ∷ []) at) ⊎ ((limit ≡ Some Depth) × (front ≡ []) × (at ≡ t.at))
GoesOnPlaced around limit front t (TooMany at) = (limit ≡ Some Number) × (front ≡ [])
GoesOnPlaced around limit front t (Unexpected left) = limit ≡ None
GoesOnPlaced around limit front t fault = ⊤

-- of a statement, what stands ahead of the token that shows it
abbrev pub IsAheadPlaced : Around → (limit : Option Limit) → List Token → Token → Fault → Type 0
IsAheadPlaced around limit front t fault = GoesOnPlaced around limit front t fault × UnreadDel front t fault

-- Where the tokens up to one of these, but the line's first, are a line with `pass` in its place, that one begins what stands behind a `:`. Then no
-- limit is given, and the line with `pass` may stand there and does not lie too deep.
abbrev pub IsFreeBehind : Context → List (List ℕ) → (limit : Option Limit) → List Token → Type 0
IsFreeBehind c given limit tokens = (opened : List Token) (t : Token) (rest : List Token) → tokens ≡ opened ++ t ∷ rest → (opened ≡ [] → ⊥) → (h : Head) (at : Spot) → head_tokens h ≡ opened ++ keyword (codes "pass") at
    → (limit ≡ None) × (head_stands c given h ≡ true) × (head_depth h ≤ 100)

-- every line that goes on with this token has an expression that begins at this place and lies deeper than 100
abbrev pub LiesDeepThere : List Token → Token → Pos → Type 0
LiesDeepThere front t at = (h : Head) (more : List Token) → head_tokens h ≡ front ++ t ∷ more → 100 < head_lies h at

-- What stands ahead of the token that shows a fault of a line, where a limit is that of the statement behind the `:`. With TooDeep either a line goes on with that
-- token, in which the first that lies too deep begins at the place, as in every line that goes on so; or the limit of suites is passed, whatever stands
-- there. Where the fault is no limit of the statement behind the `:`, none is passed by a statement that begins with that token or before.
abbrev pub GoesOnLine : Context → List (List ℕ) → (limit : Option Limit) → List Token → Token → Fault → Type 0
GoesOnLine c given limit front t (TooDeep at) = (DeepHead c given (front ++ t ∷ []) at × LiesDeepThere front t at × IsFreeBehind c given limit (front ++ t ∷ []))
    ⊎ ((limit ≡ Some Depth) × StartsBehind c given pass front × (at ≡ t.at) × IsFreeBehind c given limit front)
GoesOnLine c given limit front t (TooMany at) = (limit ≡ Some Number) × StartsBehind c given pass front × IsFreeBehind c given limit front
GoesOnLine c given limit front t (Unexpected left) = IsFreeBehind c given limit (front ++ t ∷ [])
GoesOnLine c given limit front t fault = ⊤

-- no sum goes on with this token behind targets with a comma each, but where something lies too deep
pub record UnreadTargets (room : ℕ) (front : List Token) (t : Token) (fault : Fault) : Type 0 where
  pub there : (passed : List (OneTarget × Spot)) (s : Sum) (more : List Token) → passed_tokens passed ++ sum_tokens s ≡ front ++ t ∷ more → IsDeep (Here fault) (room_behind room passed) (λ at. max (passed_lies passed at) (sum_lies s at))

-- what is read behind `del` and `for`, as far as no line of the grammar has it, goes on with this token only where it lies too deep
pub record UnreadLine (front : List Token) (t : Token) (fault : Fault) : Type 0 where
  pub del_unread : (opened : List Token) (spot : Spot) (inside : List Token) → front ≡ opened ++ token (Keyword 12) spot ∷ inside → (e : Expr) (more : List Token) → expr_tokens e ≡ inside ++ t ∷ more → IsDeep (Here fault) 100 (expr_lies e)
  pub for_unread : (spot : Spot) (inside : List Token) → front ≡ token (Keyword 17) spot ∷ inside → (passed : List (OneTarget × Spot)) (s : Sum) (more : List Token) → passed_tokens passed ++ sum_tokens s ≡ inside ++ t ∷ more
      → IsDeep (Here fault) (room_behind 100 passed) (λ at. max (passed_lies passed at) (sum_lies s at))

-- of a line, what stands ahead of the token that shows it
abbrev pub IsAheadOnLine : Context → List (List ℕ) → (limit : Option Limit) → List Token → Token → Fault → Type 0
IsAheadOnLine c given limit front t fault = GoesOnLine c given limit front t fault × UnreadLine front t fault

-- The tokens before this one begin what is asked for, and those up to and with it begin nothing that may stand there.
pub record ShownBy {A : Type 0} (begins : List Token → Type 0) (goes : List Token → Token → Fault → Type 0) (tokens : A → List Token) (amiss : Fault → A → Type 0) (before : List Token) (fault : Fault) : Type 0 where
  pub front : List Token
  pub shown_by : Token
  pub behind : List Token
  pub before_is : before ≡ front ++ shown_by ∷ behind
  pub left_is : ShowsOnLine shown_by behind fault
  pub begun : begins front
  pub goes_on : goes front shown_by fault
  pub none : (a : A) (more : List Token) → tokens a ≡ front ++ shown_by ∷ more → amiss fault a

-- The tokens begin what is asked for, and are nothing that may stand there.
pub record EndedBy {A : Type 0} (begins : List Token → Type 0) (tokens : A → List Token) (amiss : A → Type 0) (before : List Token) : Type 0 where
  pub begun : begins before
  pub none : (a : A) → tokens a ≡ before → amiss a

-- nothing was read that may stand there
abbrev pub LineRefused : {A : Type 0} → (List Token → Type 0) → (List Token → Token → Fault → Type 0) → (A → List Token) → (Stop → A → Type 0) → List Token → Stop → Type 0
LineRefused begins goes tokens amiss before (Here Memory) = ⊤
LineRefused begins goes tokens amiss before (Here fault) = ShownBy begins goes tokens (λ fault a. amiss (Here fault) a) before fault
LineRefused begins goes tokens amiss before End = EndedBy begins tokens (amiss End) before

abbrev pub PlacedRefused : Around → (limit : Option Limit) → List Token → Stop → Type 0
PlacedRefused around limit before stop = LineRefused (BeginsThere around limit) (IsAheadPlaced around limit) simple_tokens (IsAmissPlaced around limit) before stop

-- what stands behind a `:` is refused: something does stand there
pub record BehindRefused (around : Around) (limit : Option Limit) (before : List Token) (stop : Stop) : Type 0 where
  pub placed : PlacedRefused around limit before stop
  pub some : before ≡ [] → ⊥

-- the tokens of a line that ends too early
abbrev pub EndsHead : Context → List (List ℕ) → (limit : Option Limit) → List Token → Type 0
EndsHead c given limit tokens = BeginsHead c given tokens × IsFreeBehind c given limit tokens

abbrev pub HeadRefused : Context → List (List ℕ) → (limit : Option Limit) → List Token → Stop → Type 0
HeadRefused c given limit before (Here Memory) = ⊤
HeadRefused c given limit before (Here fault) = ShownBy (BeginsHead c given) (IsAheadOnLine c given limit) head_tokens (λ fault a. IsAmissHead c given limit (Here fault) a) before fault
HeadRefused c given limit before End = EndedBy (EndsHead c given limit) head_tokens (IsAmissHead c given limit End) before

-- behind this keyword
abbrev pub OpeningFound : Context → ℕ → List Token → What → List Token → Type 0
OpeningFound c word before what after = (spot : Spot) → Opening c word (token (Keyword word) spot ∷ before) what after

-- behind this keyword, where it may stand
pub record OpeningRefused (c : Context) (word : ℕ) (before : List Token) (stop : Stop) : Type 0 where
  pub there : (given : List (List ℕ)) (limit : Option Limit) (spot : Spot) → word_may c word ≡ true → HeadRefused c given limit (token (Keyword word) spot ∷ before) stop

-- such a token may be all that stands in a class: a text with nothing behind it, or `pass`
abbrev pub may_be_alone : TokenKind → List Token → Bool
may_be_alone (Text bytes) behind = length behind == 0
may_be_alone (Keyword n) behind = n == 28
may_be_alone kind behind = false

-- `def`, `class`, `global`: no simple statement begins so
abbrev pub is_refused_kind : TokenKind → Bool
is_refused_kind (Keyword n) = (n == 11) || (n == 9) || (n == 19)
is_refused_kind kind = false

-- the fault that names this limit at this place
abbrev pub limit_fault : Limit → Pos → Fault
limit_fault Number at = TooMany at
limit_fault Depth at = TooDeep at

abbrev pub is_text_kind : TokenKind → Bool
is_text_kind (Text bytes) = true
is_text_kind kind = false

-- How many tokens stand behind the one that shows that a statement may not stand in a class: the first one, or behind a text the second one.
-- `ts` are those behind the first.
abbrev pub left_in_class : Bool → List Token → ℕ
left_in_class true (t ∷ ts) = length ts
left_in_class first ts = length ts

-- what may not stand in a class is refused
abbrev pub IsRefusedInClass : List Token → Stop → Type 0
IsRefusedInClass [] stop = stop ≡ End
IsRefusedInClass (t ∷ ts) (Here (Unexpected left)) = left ≡ left_in_class (is_text_kind t.kind) ts
IsRefusedInClass (t ∷ ts) stop = ⊥

-- no line may stand there that begins with the next token
pub record Misplaced (c : Context) (before : List Token) (stop : Stop) : Type 0 where
  pub there : (given : List (List ℕ)) (limit : Option Limit) → HeadRefused c given limit before stop

-- the names behind the keyword of a `global` line, of which none is given
pub record GlobalFound (given : List (List ℕ)) (before : List Token) (names : Globals) : Type 0 where
  pub written : Names
  pub before_is : before ≡ names_tokens written
  pub names_are : names.list.items ≡ names_list written
  pub none : none_given given (names_list written) ≡ true

pub record GlobalRefused (given : List (List ℕ)) (before : List Token) (stop : Stop) : Type 0 where
  pub there : (c : Context) (limit : Option Limit) (spot : Spot) → word_may c 19 ≡ true → HeadRefused c given limit (token (Keyword 19) spot ∷ before) stop

-- a keyword with which a compound statement, a part of one or a `global` line begins
abbrev pub is_compound : ℕ → Bool
is_compound n = (n == 9) || (n == 11) || (n == 13) || (n == 14) || (n == 15) || (n == 17) || (n == 19) || (n == 20) || (n == 31) || (n == 32) || (n == 33)

abbrev pub is_compound_kind : TokenKind → Bool
is_compound_kind (Keyword n) = is_compound n
is_compound_kind kind = false

abbrev pub begins_compound : List Token → Bool
begins_compound [] = false
begins_compound (t ∷ ts) = is_compound_kind t.kind

-- the first token may stand there
abbrev pub kind_may : Context → TokenKind → Bool
kind_may c (Keyword n) = if is_compound n then word_may c n else not (lacks_handler c.last)
kind_may c kind = not (lacks_handler c.last)

abbrev pub may_begin : Context → List Token → Bool
may_begin c [] = true
may_begin c (t ∷ ts) = kind_may c t.kind

-- with the first token no line may begin there, and it is the one that is refused
abbrev pub IsFirstRefused : Context → List Token → Stop → Type 0
IsFirstRefused c tokens stop = (may_begin c tokens ≡ false) × IsAtFirst tokens stop

abbrev pub FirstMay : Context → List Token → Stop → Type 0
FirstMay c tokens stop = (may_begin c tokens ≡ true) ⊎ IsFirstRefused c tokens stop
