-- The first fault of lines that are no script: where it is shown, and which scripts it rules out.
use Rattle.std.specs.Prelude.{◌≡◌, Bool, true, false, not, ◌||◌, ◌==◌, ⊤, ◌⊎◌, ℕ, suc, ◌+◌, ◌<◌, ◌≤◌, List, [], ◌∷◌, ◌++◌, length, drop, codes, Option, Some, None}
use Rattle.prov_base.specs.declared.place.Pos.{Pos}
use Rattle.py_lines.specs.declared.parts.Line.{Line}
use Rattle.py_lines.specs.declared.parts.Token.{Token}
use Rattle.py_lines.specs.declared.parts.TokenKind.{TokenKind}
use Rattle.py_lines.specs.declared.parts.TokenKind.TheVariants.{Keyword}
use Rattle.py_parser.specs.declared.fault.ParseFault.{ParseFault}
use Rattle.py_parser.specs.declared.fault.ParseFault.TheVariants.{Unexpected, Unsupported, BadIndent, TooDeep, TooMany, Memory}
use Rattle.py_expressions.specs.declared.fault.Fault.{Fault as LineFault}
use Rattle.py_expressions.specs.declared.fault.Fault.TheVariants.{Unexpected as OnLine, TooDeep as DeepOnLine}
use Rattle.py_expressions.specs.Concrete.{Spot}
use Rattle.py_expressions.specs.Tokens.{keyword}
use Rattle.py_grammar.specs.StatementTokens.{simple_tokens}
use Rattle.py_grammar.specs.Follows.{Below}
use Rattle.py_grammar.specs.LineReader.{Head, head_tokens}
use Rattle.py_grammar.specs.Layout.{IsLine}
use Rattle.py_expressions.specs.Lies.{IsApart}
use Rattle.py_grammar.specs.ParsedSimple.{CompletesDel, FirstDeepDel}
use Rattle.py_grammar.specs.ParsedHead.{CompletesTargets, FirstDeepTargets, del_name, UnreadLine, head_lies}
use Rattle.py_grammar.specs.Written.{Script}
use Rattle.py_grammar.specs.Grammar.{script_lines, FitsScript}
use Rattle.py_grammar.specs.WellPlaced.{script_stands}
use Rattle.refused_forms.specs.declared.standing.Standing.{Standing}
use Rattle.refused_forms.specs.LineForms.{standing}
use Rattle.refused_forms.specs.RefusedForms.{IsRefusedForm}
use Rattle.py_parser.specs.Rows.{counted, opens}
use Rattle.py_parser.specs.Limits.{IsFine}
use Rattle.py_grammar.specs.Limits.{Limits, script_expr_depth, script_suites}

-- where a text begins
abbrev pub origin : Pos
origin = record { line = 1; col = 1 }

-- the place of the first token of these, if there is one
abbrev pub first_place : Pos → List Token → Pos
first_place at [] = at
first_place at (t ∷ ts) = t.at

-- the place of the last token of these, if there is one
abbrev pub last_place : Pos → List Token → Pos
last_place at [] = at
last_place at (t ∷ ts) = last_place t.at ts

-- the last token of these lines
abbrev pub last_token : Pos → List Line → Pos
last_token at [] = at
last_token at (line ∷ lines) = last_token (last_place at line.tokens) lines

-- the first token of these lines
abbrev pub first_token : Pos → List Line → Pos
first_token at [] = at
first_token at (line ∷ lines) = first_place at line.tokens

-- Where lines stop being those of a script: at a token of a line, whatever follows; at the end of a line; at a line with this
-- indentation, whatever its tokens; where a line that is indented enough is missing; or at the end of the lines.
pub data Point : Type 0 where
  at_token : (indent : ℕ) → (front : List Token) → Token → Point
  at_end : (indent : ℕ) → List Token → Point
  at_line : (indent : ℕ) → Point
  below : (indent : ℕ) → Point
  no_line : Point

pub record GoesOn (tokens front : List Token) (shown : Token) : Type 0 where
  pub more : List Token
  pub tokens_are : tokens ≡ front ++ shown ∷ more

-- these lines show it
abbrev pub shows : Point → List Line → Type 0
shows (at_token indent front t) [] = ⊥
shows (at_token indent front t) (line ∷ lines) = (line.indent ≡ indent) × GoesOn line.tokens front t
shows (at_end indent tokens) [] = ⊥
shows (at_end indent tokens) (line ∷ lines) = (line.indent ≡ indent) × (line.tokens ≡ tokens)
shows (at_line indent) [] = ⊥
shows (at_line indent) (line ∷ lines) = line.indent ≡ indent
shows (below indent) lines = Below indent lines
shows no_line [] = ⊤
shows no_line (line ∷ lines) = ⊥

-- The fault at a token behind which a line does not go on. `front` stands before it, and `rest` are the tokens from it on. It is Unsupported
-- where the table of refused forms has a row for it, at the place that the table names, and else Unexpected there. What begins at the place that
-- TooDeep names is said by `NamesLimit`.
abbrev pub NamesToken : Standing → List Token → List Token → Token → ParseFault → Type 0
NamesToken s front rest t (Unexpected place) = (place ≡ t.at) × ((other : Pos) → IsRefusedForm s front rest other → ⊥)
NamesToken s front rest t (Unsupported place) = IsRefusedForm s front rest place
NamesToken s front rest t (TooMany place) = place ≡ t.at
NamesToken s front rest t (TooDeep place) = ⊤
NamesToken s front rest t fault = ⊥

-- the fault at the end of a line with these tokens, of which this is the last one
abbrev pub NamesEnd : Standing → List Token → Pos → ParseFault → Type 0
NamesEnd s tokens last (Unexpected place) = (place ≡ last) × ((other : Pos) → IsRefusedForm s tokens [] other → ⊥)
NamesEnd s tokens last (Unsupported place) = IsRefusedForm s tokens [] place
NamesEnd s tokens last (TooDeep place) = place ≡ last
NamesEnd s tokens last fault = ⊥

abbrev pub NamesLast : Pos → ParseFault → Type 0
NamesLast last (Unexpected place) = place ≡ last
NamesLast last fault = ⊥

abbrev pub NamesIndent : Pos → ParseFault → Type 0
NamesIndent at (BadIndent place) = place ≡ at
NamesIndent at fault = ⊥

-- the tokens of the first line behind so many
abbrev pub tokens_behind : ℕ → List Line → List Token
tokens_behind n [] = []
tokens_behind n (line ∷ lines) = drop n line.tokens

-- The fault that is named there. `before` are the lines before it, and `lines` those where it is shown.
abbrev pub names : List Line → List Line → Point → ParseFault → Type 0
names before lines (at_token indent front t) fault = NamesToken (standing indent before) front (t ∷ tokens_behind (suc (length front)) lines) t fault
names before lines (at_end indent tokens) fault = NamesEnd (standing indent before) tokens (last_place (last_token origin before) tokens) fault
names before lines (at_line indent) fault = NamesIndent (first_token (last_token origin before) lines) fault
names before lines (below indent) fault = NamesIndent (last_token origin before) fault
names before lines no_line fault = NamesLast (last_token origin before) fault

-- The limits that a fault speaks of: TooDeep of depth, TooMany of number, and the others of none.
abbrev pub Asks : ParseFault → Limits → Type 0
Asks (TooDeep at) q = (q.height ≤ 100) × (q.suites ≤ 50)
Asks (TooMany at) q = q.number ≤ 20000
Asks fault q = ⊤

-- ---- what begins before a fault

-- the tokens before what is shown, on its line
abbrev pub tokens_before : Point → List Token
tokens_before (at_token indent front t) = front
tokens_before (at_end indent tokens) = tokens
tokens_before (at_line indent) = []
tokens_before (below indent) = []
tokens_before no_line = []

-- What is said of what begins on the line of a fault: that nothing lies too deep in it but at this place, where those tokens stand that are put behind
-- what has begun; or that the first that lies too deep begins at this place.
pub data Said : Type 0 where
  low_elsewhere : Pos → Said
  first_deep_at : Pos → Said

-- Of what lies deeper than 100 the first begins at this place: a token of these stands there, and what begins at none of these from that one on lies at most
-- 100 deep.
pub record IsFirstDeep (place : Pos) (lies : Pos → ℕ) (tokens more : List Token) : Type 0 where
  pub ahead : List Token
  pub named : Token
  pub between : List Token
  pub tokens_are : tokens ≡ ahead ++ named ∷ between
  pub named_is : named.at ≡ place
  pub deep : 100 < lies place
  pub within : (other : Pos) → IsApart other (named ∷ between) → lies other ≤ 100

abbrev pub LiesSaid : Said → List Token → (Pos → ℕ) → List Token → Type 0
LiesSaid (low_elsewhere at) tokens lies more = (other : Pos) → (other ≡ at → ⊥) → lies other ≤ 100
LiesSaid (first_deep_at place) tokens lies more = IsFirstDeep place lies tokens more

-- nothing lies too deep
abbrev pub IsLow : (Pos → ℕ) → List Token → Type 0
IsLow lies more = (other : Pos) → lies other ≤ 100

-- the first tokens of what is read behind `del`, and behind `for`, of which the same is said
abbrev pub ReadsBehindDel : Said → List Token → Type 0
ReadsBehindDel (low_elsewhere at) = λ tokens. CompletesDel tokens at
ReadsBehindDel (first_deep_at place) = λ tokens. FirstDeepDel tokens place

abbrev pub ReadsBehindFor : Said → List Token → Type 0
ReadsBehindFor (low_elsewhere at) = λ tokens. CompletesTargets 100 tokens at
ReadsBehindFor (first_deep_at place) = λ tokens. FirstDeepTargets 100 tokens place

-- the `del` with which they begin
abbrev pub del_spot : (said : Said) (tokens : List Token) → ReadsBehindDel said tokens → Spot
del_spot (low_elsewhere at) tokens begins = begins.spot
del_spot (first_deep_at place) tokens begins = begins.spot

-- a line of the grammar with these first tokens, which is so with those behind them
pub record LineBegins (so : (Pos → ℕ) → List Token → Type 0) (tokens : List Token) (line : Line) : Type 0 where
  pub head : Head
  pub line_is : line.tokens ≡ head_tokens head
  pub more : List Token
  pub tokens_are : head_tokens head ≡ tokens ++ more
  pub lies_so : so (head_lies head) more

-- the first line stands at this indentation and begins with these tokens
abbrev pub Opens : ((Pos → ℕ) → List Token → Type 0) → ℕ → List Token → List Line → Type 0
Opens so indent tokens [] = ⊥
Opens so indent tokens (line ∷ lines) = (line.indent ≡ indent) × LineBegins so tokens line

-- The first line has `del` and a name, where these tokens have `del` and the first tokens of an expression, which is read before it is asked
-- whether it is a target.
pub record OpensDel (said : Said) (indent : ℕ) (tokens : List Token) (lines : List Line) : Type 0 where
  pub opened : List Token
  pub spot : Spot
  pub opens : Opens IsLow indent (opened ++ simple_tokens (del_name spot)) lines
  pub inside : List Token
  pub begins : ReadsBehindDel said inside
  pub spot_is : del_spot said inside begins ≡ spot
  pub tokens_are : tokens ≡ opened ++ inside

-- The first line begins with `for`, as these tokens do. Behind it they have targets with a comma each and the first tokens of a sum, which is
-- read before it is asked whether it is a target.
pub record OpensFor (said : Said) (indent : ℕ) (tokens : List Token) (lines : List Line) : Type 0 where
  pub spot : Spot
  pub opens : Opens IsLow indent (keyword (codes "for") spot) lines
  pub inside : List Token
  pub begins : ReadsBehindFor said inside
  pub tokens_are : tokens ≡ keyword (codes "for") spot ++ inside

-- the next line begins with these tokens, or as far as they are read as expressions behind `del` or `for`
abbrev pub GoesOnWith : Said → ℕ → List Token → List Line → Type 0
GoesOnWith said indent [] more = ⊤
GoesOnWith said indent (f ∷ fs) more = Opens (LiesSaid said (f ∷ fs)) indent (f ∷ fs) more ⊎ (OpensDel said indent (f ∷ fs) more ⊎ OpensFor said indent (f ∷ fs) more)

-- the next line begins with the tokens before what is shown
abbrev pub Next : Said → Point → List Line → Type 0
Next said (at_token indent tokens t) more = GoesOnWith said indent tokens more
Next said (at_end indent tokens) more = GoesOnWith said indent tokens more
Next said (at_line indent) more = ⊤
Next said (below indent) more = ⊤
Next said no_line more = ⊤

-- Some script of the grammar whose statements stand where they may begins with these lines, and goes on with what stands before the fault. It may
-- be of any depth and number, but for what is said of the line that has begun.
pub record BeginsScript (said : Said) (front : List Line) (point : Point) : Type 0 where
  pub some : Script
  pub fits : FitsScript some
  pub more : List Line
  pub lines_are : script_lines some ≡ front ++ more
  pub next : Next said point more
  pub stands : script_stands some ≡ true

-- ---- at which indentation

-- some script of the grammar goes on behind these lines with one that is so
pub record SomeFollows (is : Line → Type 0) (front : List Line) : Type 0 where
  pub some : Script
  pub fits : FitsScript some
  pub line : Line
  pub more : List Line
  pub lines_are : script_lines some ≡ front ++ line ∷ more
  pub line_is : is line

-- the same of a script whose statements stand where they may
pub record SomeStands (is : Line → Type 0) (front : List Line) : Type 0 where
  pub some : Script
  pub fits : FitsScript some
  pub line : Line
  pub more : List Line
  pub lines_are : script_lines some ≡ front ++ line ∷ more
  pub line_is : is line
  pub stands : script_stands some ≡ true

-- such a script with expressions at most 100 deep and at most so many suites in one another
pub record FollowsWithin (suites : ℕ) (is : Line → Type 0) (front : List Line) : Type 0 where
  pub some : Script
  pub fits : FitsScript some
  pub line : Line
  pub more : List Line
  pub lines_are : script_lines some ≡ front ++ line ∷ more
  pub line_is : is line
  pub stands : script_stands some ≡ true
  pub low : script_expr_depth some ≤ 100
  pub deep : script_suites some ≤ suites

-- with one suite more than there may be, since the line that goes on may begin that one
abbrev pub MayFollow : (Line → Type 0) → List Line → Type 0
MayFollow = FollowsWithin 51

abbrev pub IsAt : ℕ → Line → Type 0
IsAt indent line = line.indent ≡ indent

pub record BeginsWith (name : List ℕ) (line : Line) : Type 0 where
  pub at : Spot
  pub more : List Token
  pub tokens_are : line.tokens ≡ keyword name at ++ more

abbrev pub IsHandler : Line → Type 0
IsHandler line = BeginsWith (codes "except") line

-- the statement `pass` at this indentation or further in
abbrev pub IsPass : ℕ → Line → Type 0
IsPass indent line = (indent ≤ line.indent) × BeginsWith (codes "pass") line

-- the statement `pass` further out
abbrev pub IsPassBefore : ℕ → Line → Type 0
IsPassBefore indent line = (line.indent < indent) × BeginsWith (codes "pass") line

-- none of these lines is indented less
abbrev pub NoLess : ℕ → List Line → Type 0
NoLess indent [] = ⊤
NoLess indent (line ∷ lines) = (indent ≤ line.indent) × NoLess indent lines

-- One of these lines stands at this indentation, and none behind it is indented less: its suite is still open.
pub record IsOpenAt (indent : ℕ) (front : List Line) : Type 0 where
  pub before : List Line
  pub line : Line
  pub behind : List Line
  pub front_is : front ≡ before ++ line ∷ behind
  pub indent_is : line.indent ≡ indent
  pub none_less : NoLess indent behind

-- A script may go on at this indentation, or a handler is missing before a line there.
abbrev pub MayStandAt : ℕ → List Line → Type 0
MayStandAt indent front = MayFollow (IsAt indent) front ⊎ (IsOpenAt indent front × MayFollow IsHandler front)

-- No script goes on at this indentation and no open suite has it, and no statement is missing further in.
pub record NoneStandsAt (indent : ℕ) (front : List Line) : Type 0 where
  pub none : SomeFollows (IsAt indent) front → ⊥
  pub no_suite : IsOpenAt indent front → ⊥
  pub complete : MayFollow (IsPassBefore indent) front ⊎ MayFollow IsHandler front

abbrev pub AreGlobal : ℕ → List Line → Type 0
AreGlobal indent [] = ⊤
AreGlobal indent (line ∷ lines) = (line.indent ≡ indent) × BeginsWith (codes "global") line × AreGlobal indent lines

-- a suite stands on the lines under it
pub record BeginsSuite (line : Line) : Type 0 where
  pub head : Head
  pub tokens_are : line.tokens ≡ head_tokens head
  pub opens_it : opens head ≡ true

-- The last of these lines begins a suite, or the last but for `global` lines at this indentation: the suite has no statement yet.
pub record LacksStatement (indent : ℕ) (front : List Line) : Type 0 where
  pub before : List Line
  pub line : Line
  pub globals : List Line
  pub front_is : front ≡ before ++ line ∷ globals
  pub suite : BeginsSuite line
  pub further : line.indent < indent
  pub globals_are : AreGlobal indent globals

-- A fault is shown by tokens where a line may stand at their indentation, and by the indentation alone where none may. Where a line
-- that is indented enough is missing, a suite has no statement yet; where the lines end too early, a handler is missing.
abbrev pub InColumn : List Line → Point → Type 0
InColumn front (at_token indent tokens t) = MayStandAt indent front
InColumn front (at_end indent tokens) = MayStandAt indent front
InColumn front (at_line indent) = NoneStandsAt indent front
InColumn front (below indent) = MayFollow (IsPass indent) front × LacksStatement indent front
InColumn front no_line = MayFollow IsHandler front

-- a statement begins with such a token, and no part of one (`elif`, `else`, `except`) or `global` line
abbrev pub is_stmt_kind : TokenKind → Bool
is_stmt_kind (Keyword n) = not ((n == 13) || (n == 14) || (n == 15) || (n == 19))
is_stmt_kind kind = true

-- A statement begins with this token behind these of its line: behind a `:` with any.
abbrev pub begins_there : List Token → Token → Bool
begins_there [] t = is_stmt_kind t.kind
begins_there (f ∷ fs) t = true

-- ---- how many statements

-- so many statements begin on these lines
abbrev pub Counts : ℕ → List Line → Type 0
Counts n [] = n ≡ 0
Counts n (line ∷ lines) = (h : Head) × (line.tokens ≡ head_tokens h) × (left : ℕ) × (n ≡ counted h + left) × Counts left lines

-- at most so many
pub record BeginAtMost (n : ℕ) (lines : List Line) : Type 0 where
  pub number : ℕ
  pub counts : Counts number lines
  pub within : number ≤ n

-- With `pass` behind these tokens so many statements begin on these lines and the next one.
pub record CountsWithPass (n : ℕ) (front : List Line) (tokens : List Token) : Type 0 where
  pub at : Spot
  pub next : Head
  pub next_is : head_tokens next ≡ tokens ++ keyword (codes "pass") at
  pub before : ℕ
  pub counts : Counts before front
  pub number_is : before + counted next ≡ n

-- ---- what passes a limit

-- No script of the grammar goes on so behind these lines whose statements stand where they may, within such limits.
abbrev pub NoneWithin : (Limits → Type 0) → List Line → Point → Type 0
NoneWithin within front point = (limits : Limits) → within limits → (s : Script) → FitsScript s → IsFine limits s → (rest : List Line) → shows point rest → script_lines s ≡ front ++ rest → ⊥

abbrev pub few_suites : Limits → Type 0
few_suites q = q.suites ≤ 50

abbrev pub few_statements : Limits → Type 0
few_statements q = q.number ≤ 20000

-- Some script of the grammar whose statements stand where they may goes on with a line of these tokens and `pass`, and none within the limits: whatever
-- statement begins there passes them.
pub record PassesLimit (within : Limits → Type 0) (front : List Line) (indent : ℕ) (tokens : List Token) : Type 0 where
  pub at : Spot
  pub goes_on : SomeStands (λ line. IsLine line indent (tokens ++ keyword (codes "pass") at)) front
  pub none : NoneWithin within front (at_end indent (tokens ++ keyword (codes "pass") at))

-- with `pass` behind these tokens there are not too many statements yet
pub record KeepsNumber (front : List Line) (tokens : List Token) : Type 0 where
  pub number : ℕ
  pub counts : CountsWithPass number front tokens
  pub within : number ≤ 20000

-- no statement may stand behind these tokens
abbrev pub NoneBegins : List Line → ℕ → List Token → Type 0
NoneBegins front indent tokens = (at : Spot) → NoneWithin (λ q. ⊤) front (at_end indent (tokens ++ keyword (codes "pass") at))

-- a statement behind these tokens is not one too many, and lies in at most 50 suites
pub record KeepsLimits (front : List Line) (indent : ℕ) (tokens : List Token) : Type 0 where
  pub number : KeepsNumber front tokens
  pub suites : (at : Spot) → FollowsWithin 50 (λ line. IsLine line indent (tokens ++ keyword (codes "pass") at)) front

-- Where these tokens are a line with `pass` behind them and a statement begins with this one in its place, none may stand there, or one that passes no limit.
abbrev pub PassesNone : List Line → ℕ → List Token → Token → Type 0
PassesNone front indent tokens t = begins_there tokens t ≡ true → (h : Head) (at : Spot) → head_tokens h ≡ tokens ++ keyword (codes "pass") at → NoneBegins front indent tokens ⊎ KeepsLimits front indent tokens

-- Some script of the grammar whose statements stand where they may goes on with these tokens and the next one, so that the first expression that lies
-- too deep begins at this place, and every line of the grammar that does has an expression that begins at this place and lies deeper than 100. A statement that
-- begins with the next one passes no limit.
pub record LiesDeep (at : Pos) (front : List Line) (indent : ℕ) (tokens : List Token) (next : Token) : Type 0 where
  pub goes_on : BeginsScript (first_deep_at at) front (at_end indent (tokens ++ next ∷ []))
  pub there : (h : Head) (more : List Token) → head_tokens h ≡ tokens ++ next ∷ more → 100 < head_lies h at
  pub order : PassesNone front indent tokens next

-- What TooDeep says: an expression lies too deep that begins at this place, or the statement does that the token begins which shows it and that is not one
-- too many (a line without tokens, where one has to stand, begins no statement).
abbrev pub IsDeepAt : Pos → List Line → Point → Type 0
IsDeepAt at front (at_token indent tokens t) = LiesDeep at front indent tokens t ⊎ ((at ≡ t.at) × PassesLimit few_suites front indent tokens × (begins_there tokens t ≡ true) × KeepsNumber front tokens)
IsDeepAt at front (at_end indent tokens) = (tokens ≡ []) × PassesLimit few_suites front indent []
IsDeepAt at front point = ⊥

-- what TooMany says: a statement that the token begins which shows it passes the limit, and before it begin as many as there may be
abbrev pub IsOneMore : List Line → Point → Type 0
IsOneMore front (at_token indent tokens t) = PassesLimit few_statements front indent tokens × CountsWithPass 20001 front tokens × (begins_there tokens t ≡ true)
IsOneMore front point = ⊥

abbrev pub NamesLimit : ParseFault → List Line → Point → Type 0
NamesLimit (TooDeep at) front point = IsDeepAt at front point
NamesLimit (TooMany at) front point = IsOneMore front point
NamesLimit fault front point = ⊤

-- ---- in how many suites

-- It is this line or, in the place of one that begins a suite, the statement `pass`.
abbrev pub StandsFor : Spot → Line → Line → Type 0
StandsFor at last line = (line ≡ last) ⊎ (BeginsSuite last × IsLine line last.indent (keyword (codes "pass") at))

-- None of these lines lies in a 51st suite, though the last one may begin that: some script with at most 50 suites in one another has these lines,
-- with the last one or what stands for it.
abbrev pub LieWithin : List Line → Type 0
LieWithin front = (before : List Line) (last : Line) (at : Spot) → front ≡ before ++ last ∷ [] → FollowsWithin 50 (StandsFor at last) before

-- ---- the order of faults at one token

-- it names a limit
abbrev pub names_limit : ParseFault → Bool
names_limit (TooDeep at) = true
names_limit (TooMany at) = true
names_limit fault = false

-- a statement that begins on the line with one of these tokens passes no limit
abbrev pub KeepsOrder : List Line → ℕ → List Token → Type 0
KeepsOrder front indent tokens = (opened : List Token) (t : Token) (rest : List Token) → tokens ≡ opened ++ t ∷ rest → PassesNone front indent opened t

-- with the tokens before what shows the fault
abbrev pub InOrder : List Line → Point → Type 0
InOrder front (at_token indent tokens t) = KeepsOrder front indent tokens
InOrder front (at_end indent tokens) = KeepsOrder front indent tokens
InOrder front point = ⊤

-- Where a fault names no limit, with the token that shows it.
abbrev pub PassesNoneThere : (limit : Bool) → List Line → Point → Type 0
PassesNoneThere false front (at_token indent tokens t) = PassesNone front indent tokens t
PassesNoneThere limit front point = ⊤

-- ---- what is read behind `del` and `for`

-- the place that TooDeep names
abbrev pub deep_place : ParseFault → Option Pos
deep_place (TooDeep at) = Some at
deep_place fault = None

abbrev pub line_fault : Option Pos → LineFault
line_fault None = OnLine 0
line_fault (Some at) = DeepOnLine at

-- An expression behind `del`, and sums behind `for`, are read before they are asked for a target's form: what was read there goes on with the token
-- that is shown only where that is too deep.
abbrev pub ReadsNoFurther : (deep : Option Pos) → Point → Type 0
ReadsNoFurther deep (at_token indent tokens t) = UnreadLine tokens t (line_fault deep)
ReadsNoFurther deep point = ⊤

-- ---- the first fault

-- What stands before the fault begins a script whose statements stand where they may; the lines before it have at most 20,000 statements, and none
-- of these lines lies in a 51st suite.
-- These lines up to and with what is shown begin no such script: with TooDeep none that keeps the limits of depth, with TooMany none that keeps
-- the limit of number, and else none whatever its depth and number. What shows it is a line's indentation alone where no line may stand at it.
-- A text has at most one (`text_has_one_fault`).
pub record FirstFault (lines : List Line) (fault : ParseFault) : Type 0 where
  pub front : List Line
  pub behind : List Line
  pub point : Point
  pub lines_are : lines ≡ front ++ behind
  pub shown : shows point behind
  pub named : names front behind point fault
  pub limit : NamesLimit fault front point
  pub column : InColumn front point
  pub begins : (at : Pos) → BeginsScript (low_elsewhere at) front point
  pub reads : ReadsNoFurther (deep_place fault) point
  pub few : BeginAtMost 20000 front
  pub shallow : LieWithin front
  pub order : InOrder front point
  pub passes : PassesNoneThere (names_limit fault) front point
  pub none : NoneWithin (Asks fault) front point

abbrev pub IsFault : List Line → ParseFault → Type 0
IsFault lines Memory = ⊤
IsFault lines fault = FirstFault lines fault

-- ---- lines of tokens that stand at different places

-- no two of these tokens stand at one place
abbrev pub ArePlacedApart : List Token → Type 0
ArePlacedApart [] = ⊤
ArePlacedApart (t ∷ ts) = IsApart t.at ts × ArePlacedApart ts

-- each line has a token, and no two tokens of one stand at the same place
abbrev pub ArePlaced : List Line → Type 0
ArePlaced [] = ⊤
ArePlaced (line ∷ lines) = (line.tokens ≡ [] → ⊥) × ArePlacedApart line.tokens × ArePlaced lines
