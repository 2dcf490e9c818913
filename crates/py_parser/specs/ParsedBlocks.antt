-- No public clause cites this file.
-- What the parser answers of the lines of a script. No public clause speaks of it.
use Rattle.std.specs.Prelude.{◌≡◌, ⊤, ◌⊎◌, ℕ, suc, length, ◌+◌, ◌<◌, ◌≤◌, nat_le, Bool, true, false, ◌==◌, List, [], ◌∷◌, ◌++◌, map, codes, Option, Some, None}
use Rattle.std.specs.List.{list_any}
use Rattle.prov_base.specs.declared.place.Pos.{Pos}
use Rattle.py_lines.specs.declared.parts.Line.{Line}
use Rattle.py_lines.specs.declared.parts.Token.{Token}
use Rattle.py_tree.specs.Erasure.{stmt_of}
use Rattle.py_tree.specs.Tree.{StmtTree}
use Rattle.py_grammar.specs.declared.context.Last.TheVariants.{Nothing}
use Rattle.py_grammar.specs.declared.context.Limit.{Limit}
use Rattle.py_grammar.specs.declared.context.Limit.TheVariants.{Number, Depth}
use Rattle.py_parser.specs.declared.blocks.Place.{Place}
use Rattle.py_parser.specs.declared.blocks.Built.{Built}
use Rattle.py_expressions.specs.declared.fault.Fault.{Fault}
use Rattle.py_expressions.specs.declared.fault.Fault.TheVariants.{Unexpected, TooDeep as FaultDeep, TooMany as FaultMany, Memory as FaultMemory}
use Rattle.py_parser.specs.declared.fault.Halt.{Halt}
use Rattle.py_parser.specs.declared.fault.Halt.TheVariants.{AtToken, AtEnd, NoLine, BadIndent, TooDeep, TooMany, Memory}
use Rattle.py_grammar.specs.declared.head.LineHead.{LineHead}
use Rattle.py_grammar.specs.declared.head.What.{What}
use Rattle.py_grammar.specs.LineReader.{Head, head_tokens}
use Rattle.py_grammar.specs.Layout.{IsLine}
use Rattle.py_grammar.specs.Follows.{Below}
use Rattle.py_grammar.specs.StatementTrees.{end_of}
use Rattle.py_grammar.specs.ParsedSimple.{around_of}
use Rattle.py_expressions.specs.Concrete.{Spot}
use Rattle.py_expressions.specs.Tokens.{keyword}
use Rattle.py_grammar.specs.ParsedHead.{IsWhat, IsBehind, lacks_handler, behind_in, head_lies}
use Rattle.py_grammar.specs.Limits.{Limits, profile}
use Rattle.py_parser.specs.Faults.{last_token, Said, low_elsewhere, first_deep_at, Point, at_token, at_end, at_line, below, no_line, IsAt, IsPass, IsPassBefore, IsHandler, IsOpenAt, AreGlobal, LacksStatement, InColumn, BeginsScript, ReadsNoFurther, NoneWithin, few_suites, few_statements, is_stmt_kind, begins_there, StandsFor, LieWithin, InOrder, PassesNoneThere, Counts, BeginAtMost, IsDeepAt, IsOneMore, shows, first_place, first_token, last_place, origin, tokens_before, Next}
use Rattle.py_parser.specs.Rows.{Begun, Rows, Under, rows_lines, under_lines, Level, counted, after, is_done, opens, follows, Leads, FitsUnder, FitsRows, may, rows_may, under_may, rows_stand, under_stand, rows_size, under_size, Edge, LastEdge}
use Rattle.py_parser.specs.RowForms.{suite_list, grown, inner_number, declared, row_globals, under_globals, grow, below_tree}

-- ---- where the code is

-- the level at which the lines of a suite begin
abbrev pub level_of : Place → List (List ℕ) → Level
level_of p given = record { indent = p.indent; depth = p.depth; context = record { around = around_of p.around; last = Nothing; may_declare = p.of_def }; of_def = p.of_def; given = given; has_stmt = false }

-- the level behind the lines that are read so far
abbrev pub level_at : Place → List (List ℕ) → Built → Level
level_at p given b = record {
  indent = p.indent;
  depth = p.depth;
  context = record { around = around_of p.around; last = b.last; may_declare = b.may_declare };
  of_def = p.of_def;
  given = given;
  has_stmt = b.has_stmt;
}

-- the next line has this indentation
abbrev pub is_here : ℕ → List Line → Bool
is_here indent [] = false
is_here indent (line ∷ lines) = line.indent == indent

abbrev pub trees_of : Built → List StmtTree
trees_of b = map stmt_of b.list.items

-- the limit that a statement behind the `:` would pass
abbrev pub limit_by : Bool → Bool → Option Limit
limit_by true deep = Some Number
limit_by false true = Some Depth
limit_by false false = None

-- behind so many statements and in so many suites
abbrev pub limit_at : ℕ → ℕ → Option Limit
limit_at count depth = limit_by (nat_le 20000 count) (nat_le 50 depth)

-- Directly in the script no suite lies around, and directly in a class only one.
abbrev pub IsShallow : Level → Type 0
IsShallow l = (l.context.around.at_module_level ≡ true → l.depth ≡ 0) × (l.context.around.in_class ≡ true → l.depth ≤ 1)

-- a line that begins this was read at this level behind so many statements, and its suite is what comes
pub record IsUnderOf (p : Place) (count : ℕ) (m : Level) (n : ℕ) (h : Head) : Type 0 where
  pub indent_is : m.indent ≡ p.indent
  pub depth_is : m.depth ≡ p.depth
  pub around_is : m.context.around ≡ around_of p.around
  pub count_is : count ≡ inner_number n h
  pub may_be : may profile m n h ≡ true

-- ---- what is read

-- These rows were read of a suite, and the suite goes on at this level.
pub record Standing (l : Level) (n : ℕ) (at : Pos) (before : List Line) (m : Level) (built : Built) (count : ℕ) (now : Pos) (left : List Line) : Type 0 where
  pub rows : Rows
  pub lines_are : before ≡ rows_lines rows ++ left
  pub leads : Leads l rows m
  pub may_be : rows_may profile l n rows ≡ true
  pub trees_are : trees_of built ≡ grow n [] rows
  pub globals_are : built.globals.items ≡ row_globals rows
  pub to_is : built.to ≡ end_of 0 (rows_lines rows)
  pub count_is : count ≡ n + rows_size rows
  pub few : count ≤ 20000
  pub now_is : now ≡ last_token at (rows_lines rows)
  pub edge : LastEdge rows left

-- the lines of a whole suite were read
pub record RowsRead (l : Level) (n : ℕ) (at : Pos) (before : List Line) (built : Built) (count : ℕ) (now : Pos) (left : List Line) : Type 0 where
  pub rows : Rows
  pub lines_are : before ≡ rows_lines rows ++ left
  pub fits : FitsRows l rows
  pub may_be : rows_may profile l n rows ≡ true
  pub trees_are : trees_of built ≡ grow n [] rows
  pub globals_are : built.globals.items ≡ row_globals rows
  pub to_is : built.to ≡ end_of 0 (rows_lines rows)
  pub count_is : count ≡ n + rows_size rows
  pub few : count ≤ 20000
  pub now_is : now ≡ last_token at (rows_lines rows)
  pub low : Below l.indent left

-- a line was read, which begins this
pub record LineRead (m : Level) (n : ℕ) (line : Line) (head : LineHead) (count : ℕ) : Type 0 where
  pub written : Head
  pub tokens_are : line.tokens ≡ head_tokens written
  pub what_is : IsWhat head.what written
  pub behind_is : IsBehind head.behind (behind_in written)
  pub follows_is : follows m written ≡ true
  pub may_be : may profile m n written ≡ true
  pub count_is : count ≡ inner_number n written
  pub few : count ≤ 20000

-- what stands under a line that begins this was read
pub record UnderRead (m : Level) (n : ℕ) (h : Head) (to : ℕ) (at : Pos) (before : List Line) (built : Built) (count : ℕ) (now : Pos) (left : List Line) : Type 0 where
  pub under : Under
  pub lines_are : before ≡ under_lines under ++ left
  pub fits : FitsUnder m h under
  pub may_be : under_may profile m (n + counted h) h under ≡ true
  pub tree_is : suite_list (trees_of built) ≡ below_tree (inner_number n h) to (behind_in h) under
  pub globals_are : built.globals.items ≡ under_globals under
  pub to_is : built.to ≡ end_of to (under_lines under)
  pub count_is : count ≡ n + counted h + under_size under
  pub few : count ≤ 20000
  pub now_is : now ≡ last_token at (under_lines under)
  pub edge : Edge under left

-- a line was read, with what stands under it
pub record RowRead (m : Level) (n : ℕ) (at : Pos) (before : List Line) (old built : Built) (k : Level) (count : ℕ) (now : Pos) (left : List Line) : Type 0 where
  pub line : Line
  pub head : Head
  pub under : Under
  pub lines_are : before ≡ line ∷ under_lines under ++ left
  pub is_line : IsLine line m.indent (head_tokens head)
  pub follows_is : follows m head ≡ true
  pub may_be : may profile m n head ≡ true
  pub fits : FitsUnder m head under
  pub under_may_be : under_may profile m (n + counted head) head under ≡ true
  pub trees_are : trees_of built ≡ grown n head (below_tree (inner_number n head) line.span.to (behind_in head) under) (under_globals under) (end_of line.span.to (under_lines under)) (trees_of old)
  pub globals_are : built.globals.items ≡ old.globals.items ++ declared head
  pub to_is : built.to ≡ end_of line.span.to (under_lines under)
  pub count_is : count ≡ n + counted head + under_size under
  pub few : count ≤ 20000
  pub level_is : k ≡ after m head
  pub now_is : now ≡ last_token at (line ∷ under_lines under)
  pub edge : Edge under left

-- ---- at which indentation

-- the suites around begin at these columns, one of which this is
abbrev pub is_column : ℕ → List ℕ → Bool
is_column d columns = list_any (λ c. c == d) columns

-- a suite at this indentation lies in suites at these columns
abbrev pub AreBelow : ℕ → List ℕ → Type 0
AreBelow d [] = ⊤
AreBelow d (c ∷ columns) = (c < d) × AreBelow d columns

-- the depth of expressions that this profile has, with so many suites and statements
abbrev pub wide : (suites number : ℕ) → Limits
wide suites number = record { height = 100; suites = suites; number = number }

-- Some rows at this level behind so many statements begin with these lines and go on with one that is so. They may stand there within so many suites,
-- whatever their number.
pub record RowsWithin (suites : ℕ) (l : Level) (n : ℕ) (is : Line → Type 0) (front : List Line) : Type 0 where
  pub rows : Rows
  pub fits : FitsRows l rows
  pub may_be : (k : ℕ) → n + rows_size rows ≤ k → rows_may (wide suites k) l n rows ≡ true
  pub line : Line
  pub more : List Line
  pub lines_are : rows_lines rows ≡ front ++ line ∷ more
  pub line_is : is line

pub record UnderWithin (suites : ℕ) (m : Level) (n : ℕ) (h : Head) (is : Line → Type 0) (front : List Line) : Type 0 where
  pub under : Under
  pub fits : FitsUnder m h under
  pub may_be : (k : ℕ) → n + under_size under ≤ k → under_may (wide suites k) m n h under ≡ true
  pub line : Line
  pub more : List Line
  pub lines_are : under_lines under ≡ front ++ line ∷ more
  pub line_is : is line

-- with one suite more than there may be
abbrev pub RowsGoOn : Level → ℕ → (Line → Type 0) → List Line → Type 0
RowsGoOn = RowsWithin 51

abbrev pub UnderGoesOn : Level → ℕ → Head → (Line → Type 0) → List Line → Type 0
UnderGoesOn = UnderWithin 51

-- No suite at this level goes on behind these lines with one at this indentation, and no open one has it.
pub record NoRows (cs : List ℕ) (l : Level) (n d : ℕ) (front : List Line) : Type 0 where
  pub around : is_column d cs ≡ true → ⊥
  pub here : d ≡ l.indent → ⊥
  pub inside : IsOpenAt d front → ⊥
  pub complete : RowsGoOn l n (IsPassBefore d) front ⊎ RowsGoOn l n IsHandler front
  pub none : (line : Line) (more : List Line) (rows : Rows) (r : List Line) → line.indent ≡ d → FitsRows l rows → Below l.indent r → rows_lines rows ++ r ≡ front ++ line ∷ more → ⊥

pub record NoUnder (cs : List ℕ) (m : Level) (n : ℕ) (h : Head) (d : ℕ) (front : List Line) : Type 0 where
  pub around : is_column d cs ≡ true → ⊥
  pub inside : IsOpenAt d front → ⊥
  pub complete : UnderGoesOn m n h (IsPassBefore d) front ⊎ UnderGoesOn m n h IsHandler front
  pub none : (line : Line) (more : List Line) (under : Under) (r : List Line) → line.indent ≡ d → FitsUnder m h under → Edge under r → under_lines under ++ r ≡ front ++ line ∷ more → ⊥

abbrev pub MayStand : List ℕ → Level → ℕ → ℕ → List Line → Type 0
MayStand cs l n d front = RowsGoOn l n (IsAt d) front ⊎ (((is_column d cs ≡ true) ⊎ IsOpenAt d front) × RowsGoOn l n IsHandler front)

-- the suite at this level has no statement yet, and these are its lines
pub record NoneYet (l : Level) (d : ℕ) (front : List Line) : Type 0 where
  pub empty : l.has_stmt ≡ false
  pub indent_is : d ≡ l.indent
  pub of_def : (l.of_def ≡ true) ⊎ (front ≡ [])
  pub globals_are : AreGlobal d front

-- the same of the suite under a line that begins this
pub record NoneYetUnder (m : Level) (h : Head) (d : ℕ) (front : List Line) : Type 0 where
  pub begins_suite : opens h ≡ true
  pub further : m.indent < d
  pub globals_are : AreGlobal d front

abbrev pub Lacks : Level → ℕ → List Line → Type 0
Lacks l d front = LacksStatement d front ⊎ NoneYet l d front

abbrev pub LacksUnder : Level → Head → ℕ → List Line → Type 0
LacksUnder m h d front = LacksStatement d front ⊎ NoneYetUnder m h d front

abbrev pub Placed : List ℕ → Level → ℕ → List Line → Point → Type 0
Placed cs l n front (at_token d tokens t) = MayStand cs l n d front
Placed cs l n front (at_end d tokens) = MayStand cs l n d front
Placed cs l n front (at_line d) = NoRows cs l n d front
Placed cs l n front (below d) = RowsGoOn l n (IsPass d) front × Lacks l d front
Placed cs l n front no_line = RowsGoOn l n IsHandler front

abbrev pub MayStandUnder : List ℕ → Level → ℕ → Head → ℕ → List Line → Type 0
MayStandUnder cs m n h d front = UnderGoesOn m n h (IsAt d) front ⊎ (((is_column d cs ≡ true) ⊎ IsOpenAt d front) × UnderGoesOn m n h IsHandler front)

abbrev pub PlacedUnder : List ℕ → Level → ℕ → Head → List Line → Point → Type 0
PlacedUnder cs m n h front (at_token d tokens t) = MayStandUnder cs m n h d front
PlacedUnder cs m n h front (at_end d tokens) = MayStandUnder cs m n h d front
PlacedUnder cs m n h front (at_line d) = NoUnder cs m n h d front
PlacedUnder cs m n h front (below d) = UnderGoesOn m n h (IsPass d) front × LacksUnder m h d front
PlacedUnder cs m n h front no_line = UnderGoesOn m n h IsHandler front

-- the columns around what stands under a line at this level
abbrev pub columns_under : List ℕ → Level → List ℕ
columns_under cs m = cs ++ m.indent ∷ []

-- a token or the end of a line
abbrev pub IsOnLine : Point → Type 0
IsOnLine (at_token d tokens t) = ⊤
IsOnLine (at_end d tokens) = ⊤
IsOnLine p = ⊥

-- ---- where the lines stop

-- at a token, behind which so many tokens and lines stand
abbrev pub MarksToken : List Token → Token → List Line → Halt → Type 0
MarksToken front t [] halt = ⊥
MarksToken front t (line ∷ lines) (AtToken lines_left left) = (lines_left ≡ length lines) × (length front + suc left ≡ length line.tokens)
MarksToken front t (line ∷ lines) (TooMany place) = place ≡ t.at
MarksToken front t (line ∷ lines) (TooDeep place) = ⊤
MarksToken front t (line ∷ lines) halt = ⊥

-- at the end of a line, where this token is the last one
abbrev pub MarksEnd : Pos → List Line → Halt → Type 0
MarksEnd last [] halt = ⊥
MarksEnd last (line ∷ lines) (AtEnd lines_left place) = (lines_left ≡ length lines) × (place ≡ last)
MarksEnd last (line ∷ lines) (TooDeep place) = place ≡ last
MarksEnd last (line ∷ lines) halt = ⊥

abbrev pub MarksIndent : Pos → Halt → Type 0
MarksIndent at (BadIndent place) = place ≡ at
MarksIndent at halt = ⊥

abbrev pub MarksLast : Pos → Halt → Type 0
MarksLast at (NoLine place) = place ≡ at
MarksLast at halt = ⊥

-- The parser stops at this point. `at` is the last token before the lines, which are those where it is shown.
abbrev pub marks : Pos → List Line → Point → Halt → Type 0
marks at lines (at_token indent front t) halt = MarksToken front t lines halt
marks at lines (at_end indent tokens) halt = MarksEnd (last_place at tokens) lines halt
marks at lines (at_line indent) halt = MarksIndent (first_token at lines) halt
marks at lines (below indent) halt = MarksIndent at halt
marks at lines no_line halt = MarksLast at halt

-- at the first token of a line, or at its end where it has none
abbrev pub MarksFirst : List Token → List Line → Pos → Halt → Type 0
MarksFirst [] lines before (AtEnd lines_left place) = (lines_left ≡ length lines) × (place ≡ before)
MarksFirst (t ∷ ts) lines before (AtToken lines_left left) = (lines_left ≡ length lines) × (left ≡ length ts)
MarksFirst tokens lines before halt = ⊥

-- where the lines stop that stop at this on a line, behind which so many lines stand
abbrev pub halt_of : ℕ → Fault → Halt
halt_of lines_left (Unexpected left) = AtToken lines_left left
halt_of lines_left (FaultDeep place) = TooDeep place
halt_of lines_left (FaultMany place) = TooMany place
halt_of lines_left FaultMemory = Memory

-- the limits that it speaks of: TooDeep of depth, TooMany of number, and the others of none
abbrev pub Asks : Halt → Limits → Type 0
Asks (TooDeep at) q = (q.height ≤ 100) × (q.suites ≤ 50)
Asks (TooMany at) q = q.number ≤ 20000
Asks halt q = ⊤

-- why no line may stand in a suite that lies too deep, behind so many statements: with its first token none begins, or one would that is one too many, or
-- else it is the suite
abbrev pub BeyondFirst : ℕ → Pos → List Token → List Line → Halt → Type 0
BeyondFirst n before [] lines (TooDeep place) = place ≡ before
BeyondFirst n before (t ∷ ts) lines (TooDeep place) = (place ≡ t.at) × (is_stmt_kind t.kind ≡ true) × (n < 20000)
BeyondFirst n before (t ∷ ts) lines (TooMany place) = (is_stmt_kind t.kind ≡ true) × (20000 ≤ n) × (place ≡ t.at)
BeyondFirst n before (t ∷ ts) lines (AtToken lines_left left) = (is_stmt_kind t.kind ≡ false) × (lines_left ≡ length lines) × (left ≡ length ts)
BeyondFirst n before tokens lines halt = ⊥

abbrev pub BeyondSuites : ℕ → Pos → Line → List Line → Halt → Type 0
BeyondSuites n before line lines halt = BeyondFirst n before line.tokens lines halt

-- ---- what is refused

-- Some rows at this level that may stand there, whatever their depth and number, begin with these lines, and go on with what stands before the fault.
pub record RowsBegin (said : Said) (l : Level) (front : List Line) (point : Point) : Type 0 where
  pub rows : Rows
  pub fits : FitsRows l rows
  pub more : List Line
  pub lines_are : rows_lines rows ≡ front ++ more
  pub next : Next said point more
  pub stands : rows_stand l rows ≡ true

pub record UnderBegins (said : Said) (m : Level) (h : Head) (front : List Line) (point : Point) : Type 0 where
  pub under : Under
  pub fits : FitsUnder m h under
  pub more : List Line
  pub lines_are : under_lines under ≡ front ++ more
  pub next : Next said point more
  pub stands : under_stand m h under ≡ true

-- ---- what passes a limit

-- some rows at this level that may stand there, whatever their depth and number, begin with these lines and go on with one that is so
pub record RowsFollow (l : Level) (is : Line → Type 0) (front : List Line) : Type 0 where
  pub rows : Rows
  pub fits : FitsRows l rows
  pub line : Line
  pub more : List Line
  pub lines_are : rows_lines rows ≡ front ++ line ∷ more
  pub line_is : is line
  pub stands : rows_stand l rows ≡ true

pub record UnderFollows (m : Level) (h : Head) (is : Line → Type 0) (front : List Line) : Type 0 where
  pub under : Under
  pub fits : FitsUnder m h under
  pub line : Line
  pub more : List Line
  pub lines_are : under_lines under ≡ front ++ line ∷ more
  pub line_is : is line
  pub stands : under_stand m h under ≡ true

-- no suite at this level has these first lines and then what is shown, within such limits
abbrev pub NoneRows : (Limits → Type 0) → Level → ℕ → List Line → Point → Type 0
NoneRows within l n front point =
    (q : Limits) → within q → (rest : List Line) (rows : Rows) (r : List Line) → shows point rest → FitsRows l rows → rows_may q l n rows ≡ true → Below l.indent r → rows_lines rows ++ r ≡ front ++ rest → ⊥

abbrev pub NoneUnder : (Limits → Type 0) → Level → ℕ → Head → List Line → Point → Type 0
NoneUnder within m n h front point =
    (q : Limits) → within q → (rest : List Line) (under : Under) (r : List Line) → shows point rest → FitsUnder m h under → under_may q m n h under ≡ true → Edge under r → under_lines under ++ r ≡ front ++ rest → ⊥

-- `begins`, `follows` and `none` say how lines may begin, how they may go on, and that none go on with a line of some tokens: those of a suite, or those under a line.
pub record Passes (follows : (Line → Type 0) → Type 0) (none : ℕ → List Token → Type 0) (indent : ℕ) (tokens : List Token) : Type 0 where
  pub at : Spot
  pub goes_on : follows (λ line. IsLine line indent (tokens ++ keyword (codes "pass") at))
  pub none_so : none indent (tokens ++ keyword (codes "pass") at)

-- no statement may stand behind these tokens
abbrev pub NoneBy : ((Limits → Type 0) → ℕ → List Token → Type 0) → ℕ → List Token → Type 0
NoneBy none indent tokens = (at : Spot) → none (λ q. ⊤) indent (tokens ++ keyword (codes "pass") at)

-- Where these tokens are a line with `pass` behind them and a statement begins with this one in its place, none may stand there, or one that passes no limit.
abbrev pub PassesBy : (none kept : ℕ → List Token → Type 0) → ℕ → List Token → Token → Type 0
PassesBy none kept indent tokens t = begins_there tokens t ≡ true → (h : Head) (at : Spot) → head_tokens h ≡ tokens ++ keyword (codes "pass") at → none indent tokens ⊎ kept indent tokens

pub record Deep (begins : Said → Point → Type 0) (none kept : ℕ → List Token → Type 0) (place : Pos) (indent : ℕ) (tokens : List Token) (next : Token) : Type 0 where
  pub goes_on : begins (first_deep_at place) (at_end indent (tokens ++ next ∷ []))
  pub there : (h : Head) (more : List Token) → head_tokens h ≡ tokens ++ next ∷ more → 100 < head_lies h place
  pub order : PassesBy none kept indent tokens next

-- with `pass` behind these tokens there are not too many statements yet
pub record KeepsBy (counts : ℕ → List Token → Type 0) (tokens : List Token) : Type 0 where
  pub number : ℕ
  pub counts_are : counts number tokens
  pub within : number ≤ 20000

abbrev pub DeepBy : (Said → Point → Type 0) → ((Line → Type 0) → Type 0) → ((Limits → Type 0) → ℕ → List Token → Type 0) → (kept : ℕ → List Token → Type 0) → (counts : ℕ → List Token → Type 0) → Pos → Point → Type 0
DeepBy begins follows none kept counts place (at_token indent tokens t) = Deep begins (NoneBy none) kept place indent tokens t ⊎ ((place ≡ t.at) × Passes follows (none few_suites) indent tokens × (begins_there tokens t ≡ true) × KeepsBy counts tokens)
DeepBy begins follows none kept counts place (at_end indent tokens) = (tokens ≡ []) × Passes follows (none few_suites) indent []
DeepBy begins follows none kept counts place point = ⊥

abbrev pub ManyBy : ((Line → Type 0) → Type 0) → (ℕ → List Token → Type 0) → (counts : ℕ → List Token → Type 0) → Point → Type 0
ManyBy follows none counts (at_token indent tokens t) = Passes follows none indent tokens × counts 20001 tokens × (begins_there tokens t ≡ true)
ManyBy follows none counts point = ⊥

-- with TooDeep and TooMany, what passes the limit
abbrev pub LimitBy : (Said → Point → Type 0) → ((Line → Type 0) → Type 0) → ((Limits → Type 0) → ℕ → List Token → Type 0) → (kept : ℕ → List Token → Type 0) → (counts : ℕ → List Token → Type 0) → Halt → Point → Type 0
LimitBy begins follows none kept counts (TooDeep place) point = DeepBy begins follows none kept counts place point
LimitBy begins follows none kept counts (TooMany place) point = ManyBy follows (none few_statements) counts point
LimitBy begins follows none kept counts halt point = ⊤

-- behind so many statements, this many have begun with `pass` behind these tokens
pub record CountsFrom (n : ℕ) (front : List Line) (number : ℕ) (tokens : List Token) : Type 0 where
  pub at : Spot
  pub next : Head
  pub next_is : head_tokens next ≡ tokens ++ keyword (codes "pass") at
  pub before : ℕ
  pub counts : Counts before front
  pub number_is : n + before + counted next ≡ number

-- where a handler is missing, it lies in at most 50 suites with what stands under it
abbrev pub HasRoom : Level → Type 0
HasRoom l = lacks_handler l.context.last ≡ true → l.depth < 50

-- `pass` behind these tokens, at this indentation
abbrev pub IsPassAt : Spot → ℕ → List Token → Line → Type 0
IsPassAt at indent tokens line = IsLine line indent (tokens ++ keyword (codes "pass") at)

-- no statement may stand behind these tokens, or one that passes no limit
abbrev pub NonePass : Level → ℕ → List Line → ℕ → List Token → Type 0
NonePass l n front indent tokens = (at : Spot) → NoneRows (λ q. ⊤) l n front (at_end indent (tokens ++ keyword (codes "pass") at))

pub record KeepsPass (l : Level) (n : ℕ) (front : List Line) (indent : ℕ) (tokens : List Token) : Type 0 where
  pub number : KeepsBy (CountsFrom n front) tokens
  pub suites : HasRoom l → (at : Spot) → RowsWithin 50 l n (IsPassAt at indent tokens) front

abbrev pub NonePassUnder : Level → ℕ → Head → List Line → ℕ → List Token → Type 0
NonePassUnder m n h front indent tokens = (at : Spot) → NoneUnder (λ q. ⊤) m n h front (at_end indent (tokens ++ keyword (codes "pass") at))

pub record KeepsPassUnder (m : Level) (n : ℕ) (h : Head) (front : List Line) (indent : ℕ) (tokens : List Token) : Type 0 where
  pub number : KeepsBy (CountsFrom n front) tokens
  pub suites : (at : Spot) → UnderWithin 50 m n h (IsPassAt at indent tokens) front

abbrev pub RowsLimit : Level → ℕ → List Line → Halt → Point → Type 0
RowsLimit l n front halt point = LimitBy (λ said. RowsBegin said l front) (λ is. RowsFollow l is front) (λ within indent tokens. NoneRows within l n front (at_end indent tokens)) (KeepsPass l n front) (CountsFrom n front) halt point

abbrev pub UnderLimit : Level → ℕ → Head → List Line → Halt → Point → Type 0
UnderLimit m n h front halt point = LimitBy (λ said. UnderBegins said m h front) (λ is. UnderFollows m h is front) (λ within indent tokens. NoneUnder within m n h front (at_end indent tokens)) (KeepsPassUnder m n h front) (CountsFrom n front) halt point

-- the place that TooDeep names
abbrev pub deep_at : Halt → Option Pos
deep_at (TooDeep at) = Some at
deep_at halt = None

-- it names no limit
abbrev pub NoLimit : Halt → Type 0
NoLimit (TooDeep place) = ⊥
NoLimit (TooMany place) = ⊥
NoLimit halt = ⊤

-- it names a limit
abbrev pub halt_limit : Halt → Bool
halt_limit (TooDeep place) = true
halt_limit (TooMany place) = true
halt_limit halt = false

-- a statement that begins on the line with one of these tokens passes no limit
abbrev pub KeepsOrderBy : (none kept : ℕ → List Token → Type 0) → ℕ → List Token → Type 0
KeepsOrderBy none kept indent tokens = (opened : List Token) (t : Token) (rest : List Token) → tokens ≡ opened ++ t ∷ rest → PassesBy none kept indent opened t

-- with the tokens before what shows the fault
abbrev pub OrderBy : (none kept : ℕ → List Token → Type 0) → Point → Type 0
OrderBy none kept (at_token indent tokens t) = KeepsOrderBy none kept indent tokens
OrderBy none kept (at_end indent tokens) = KeepsOrderBy none kept indent tokens
OrderBy none kept point = ⊤

-- where a fault names no limit, with the token that shows it
abbrev pub PassesThere : (none kept : ℕ → List Token → Type 0) → (limit : Bool) → Point → Type 0
PassesThere none kept false (at_token indent tokens t) = PassesBy none kept indent tokens t
PassesThere none kept limit point = ⊤

-- The same where a suite ends: no line at this indentation, whatever its tokens, goes on with it.
pub record NoneHere (m : Level) (lines : List Line) (indent : ℕ) : Type 0 where
  pub edge : (rows : Rows) (rest : List Line) → Begun indent rest → LastEdge rows lines → LastEdge rows rest
  pub none : (rest : List Line) (rows : Rows) (r : List Line) → Begun indent rest → FitsRows m rows → Below m.indent r → rows_lines rows ++ r ≡ rest → ⊥

abbrev pub OrderHere : Level → List Line → (limit : Bool) → Point → Type 0
OrderHere m lines false (at_token indent [] t) = NoneHere m lines indent
OrderHere m lines limit point = ⊤

-- what TooDeep and TooMany say of the lines of a script
abbrev pub ScriptLimit : Halt → List Line → Point → Type 0
ScriptLimit (TooDeep place) front point = IsDeepAt place front point
ScriptLimit (TooMany place) front point = IsOneMore front point
ScriptLimit halt front point = ⊤

-- Some rows within 50 suites have the lines before the last of these, and behind them that one or what stands for it.
pub record RowsEnd (l : Level) (n : ℕ) (front : List Line) : Type 0 where
  pub before : List Line
  pub last : Line
  pub front_is : front ≡ before ++ last ∷ []
  pub goes_on : (at : Spot) → RowsWithin 50 l n (StandsFor at last) before

pub record UnderEnd (m : Level) (n : ℕ) (h : Head) (front : List Line) : Type 0 where
  pub before : List Line
  pub last : Line
  pub front_is : front ≡ before ++ last ∷ []
  pub goes_on : (at : Spot) → UnderWithin 50 m n h (StandsFor at last) before

-- none of these lines lies in a 51st suite
abbrev pub RowsLie : Level → ℕ → List Line → Type 0
RowsLie l n front = (front ≡ []) ⊎ RowsEnd l n front

abbrev pub UnderLie : Level → ℕ → Head → List Line → Type 0
UnderLie m n h front = (front ≡ []) ⊎ UnderEnd m n h front

-- behind so many statements there is room for those of these lines
pub record Few (n : ℕ) (front : List Line) : Type 0 where
  pub number : ℕ
  pub counts : Counts number front
  pub within : n + number ≤ 20000

-- No suite at this level has these first lines up to and with what is shown.
pub record Refused (cs : List ℕ) (l : Level) (n : ℕ) (at : Pos) (lines : List Line) (fault : Halt) : Type 0 where
  pub front : List Line
  pub behind : List Line
  pub point : Point
  pub lines_are : lines ≡ front ++ behind
  pub shown : shows point behind
  pub marked : marks (last_token at front) behind point fault
  pub limit : RowsLimit l n front fault point
  pub placed : Placed cs l n front point
  pub begun : (rest : List Line) → shows point rest → Begun l.indent (front ++ rest)
  pub begins : (place : Pos) → RowsBegin (low_elsewhere place) l front point
  pub reads : ReadsNoFurther (deep_at fault) point
  pub few : Few n front
  pub shallow : HasRoom l → RowsLie l n front
  pub order : OrderBy (NonePass l n front) (KeepsPass l n front) point
  pub passes : PassesThere (NonePass l n front) (KeepsPass l n front) (halt_limit fault) point
  pub none : NoneRows (Asks fault) l n front point

abbrev pub RowsStopped : List ℕ → Level → ℕ → Pos → List Line → Halt → Type 0
RowsStopped cs l n at lines Memory = ⊤
RowsStopped cs l n at lines fault = Refused cs l n at lines fault

-- No suite goes on from this level so that it shows this at once.
pub record RefusedHere (cs : List ℕ) (m : Level) (n : ℕ) (at : Pos) (lines : List Line) (fault : Halt) : Type 0 where
  pub point : Point
  pub shown : shows point lines
  pub marked : marks at lines point fault
  pub limit : NoLimit fault
  pub placed : Placed cs m n [] point
  pub before : tokens_before point ≡ []
  pub edge : (rows : Rows) (rest : List Line) → shows point rest → (l : Level) → l.indent ≡ m.indent → Leads l rows m → LastEdge rows lines → LastEdge rows rest
  pub passes : OrderHere m lines (halt_limit fault) point
  pub none : (q : Limits) → Asks fault q → (rest : List Line) (rows : Rows) (r : List Line) → shows point rest → FitsRows m rows → rows_may q m n rows ≡ true → Below m.indent r → rows_lines rows ++ r ≡ rest → ⊥

-- Nothing that may stand under a line that begins this has these first lines up to and with what is shown.
pub record RefusedUnder (cs : List ℕ) (m : Level) (n : ℕ) (h : Head) (at : Pos) (lines : List Line) (fault : Halt) : Type 0 where
  pub front : List Line
  pub behind : List Line
  pub point : Point
  pub lines_are : lines ≡ front ++ behind
  pub shown : shows point behind
  pub marked : marks (last_token at front) behind point fault
  pub limit : UnderLimit m n h front fault point
  pub placed : PlacedUnder (columns_under cs m) m n h front point
  pub begins : (place : Pos) → UnderBegins (low_elsewhere place) m h front point
  pub reads : ReadsNoFurther (deep_at fault) point
  pub few : Few n front
  pub shallow : UnderLie m n h front
  pub order : OrderBy (NonePassUnder m n h front) (KeepsPassUnder m n h front) point
  pub passes : PassesThere (NonePassUnder m n h front) (KeepsPassUnder m n h front) (halt_limit fault) point
  pub none : NoneUnder (Asks fault) m n h front point

abbrev pub UnderStopped : List ℕ → Level → ℕ → Head → Pos → List Line → Halt → Type 0
UnderStopped cs m n h at lines Memory = ⊤
UnderStopped cs m n h at lines fault = RefusedUnder cs m n h at lines fault

-- No line that may stand there has these tokens up to and with what is shown. `lines` stand behind it.
pub record RefusedLine (m : Level) (n : ℕ) (at : Pos) (line : Line) (lines : List Line) (fault : Halt) : Type 0 where
  pub point : Point
  pub on_line : IsOnLine point
  pub shown : shows point (line ∷ [])
  pub marked : marks at (line ∷ lines) point fault
  pub limit : line.indent ≡ m.indent → RowsLimit m n [] fault point
  pub begun : (rest : List Line) → shows point rest → Begun line.indent rest
  pub begins : line.indent ≡ m.indent → (place : Pos) → RowsBegin (low_elsewhere place) m [] point
  pub reads : ReadsNoFurther (deep_at fault) point
  pub order : line.indent ≡ m.indent → OrderBy (NonePass m n []) (KeepsPass m n []) point
  pub passes : line.indent ≡ m.indent → PassesThere (NonePass m n []) (KeepsPass m n []) (halt_limit fault) point
  pub none : (q : Limits) → Asks fault q → (other : Line) (more : List Line) (h : Head) → shows point (other ∷ more) → other.tokens ≡ head_tokens h → follows m h ≡ true → may q m n h ≡ true → ⊥

abbrev pub LineStopped : Level → ℕ → Pos → Line → List Line → Halt → Type 0
LineStopped m n at line lines Memory = ⊤
LineStopped m n at line lines fault = RefusedLine m n at line lines fault

-- what was read of a line is what it begins
abbrev pub IsHead : What → Line → Head → Type 0
IsHead what line h = IsWhat what h × (line.tokens ≡ head_tokens h)

-- ---- at the end of a suite

-- the lines of a suite end here
pub record IsClosed (p : Place) (b : Built) (lines : List Line) : Type 0 where
  pub low : Below p.indent lines
  pub done : (given : List (List ℕ)) → is_done (level_at p given b) ≡ true

pub record NotClosed (cs : List ℕ) (p : Place) (b : Built) (at : Pos) (lines : List Line) (fault : Halt) : Type 0 where
  pub there : (given : List (List ℕ)) (n : ℕ) → p.depth ≤ 50 → RefusedHere cs (level_at p given b) n at lines fault
  pub other : fault ≡ Memory → ⊥

-- a line stands where a handler has to, and it is at the column of a suite around or not
abbrev pub IsNoHandler : List ℕ → Line → List Line → Pos → Halt → Type 0
IsNoHandler cs line lines before (BadIndent place) = (place ≡ first_place before line.tokens) × (is_column line.indent cs ≡ false)
IsNoHandler cs line lines before halt = MarksFirst line.tokens lines before halt × (is_column line.indent cs ≡ true)

-- ---- a whole script

-- What stands before the point begins a script, and these lines up to and with what is shown there begin none that is asked for.
pub record FirstHalt (lines : List Line) (halt : Halt) : Type 0 where
  pub front : List Line
  pub behind : List Line
  pub point : Point
  pub lines_are : lines ≡ front ++ behind
  pub shown : shows point behind
  pub marked : marks (last_token origin front) behind point halt
  pub limit : ScriptLimit halt front point
  pub column : InColumn front point
  pub begins : (place : Pos) → BeginsScript (low_elsewhere place) front point
  pub reads : ReadsNoFurther (deep_at halt) point
  pub few : BeginAtMost 20000 front
  pub shallow : LieWithin front
  pub order : InOrder front point
  pub passes : PassesNoneThere (halt_limit halt) front point
  pub none : NoneWithin (Asks halt) front point

abbrev pub IsHalt : List Line → Halt → Type 0
IsHalt lines Memory = ⊤
IsHalt lines halt = FirstHalt lines halt
