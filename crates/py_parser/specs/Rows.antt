-- A script as rows: each line with what it begins, and under it the lines of its suite. Of it public clauses cite `counted` and `opens` alone.
use Rattle.std.specs.Prelude.{◌≡◌, ⊤, ℕ, ◌+◌, ◌<◌, suc, Bool, true, false, ◌&&◌, ◌||◌, not, nat_le, List, [], ◌∷◌, ◌++◌, is_none, if◌then◌else◌}
use Rattle.py_lines.specs.declared.parts.Line.{Line}
use Rattle.py_grammar.specs.declared.context.Last.{Last}
use Rattle.py_grammar.specs.declared.context.Last.TheVariants.{Nothing, Loop, If, Try, Handler, Every}
use Rattle.py_grammar.specs.Written.{Kind, every_kind, one_kind}
use Rattle.py_grammar.specs.StatementTokens.{simple_tokens}
use Rattle.py_grammar.specs.StatementTrees.{params_list}
use Rattle.py_grammar.specs.WellPlaced.{Around, module_level, in_suite, in_loop_suite, in_handler_suite, in_def_suite, in_class_suite, are_alone}
use Rattle.py_grammar.specs.LineReader.{Head, simple_head, if_head, elif_head, else_head, while_head, for_head, try_head, except_head, def_head, class_head, global_head, head_tokens}
use Rattle.py_grammar.specs.Layout.{IsLine}
use Rattle.py_grammar.specs.Follows.{Below}
use Rattle.py_grammar.specs.Limits.{Limits}
use Rattle.py_grammar.specs.ParsedHead.{Context, head_stands, head_depth, behind_in, takes_branch, takes_handler, lacks_handler}

mutual
  -- lines at one indentation, each with the lines under it
  pub data Rows : Type 0 where
    end_rows : Rows
    row : Line → Head → Under → Rows → Rows

  pub data Under : Type 0 where
    nothing : Under
    block : (inside : ℕ) → Rows → Under

abbrev mutual
  pub rows_lines : Rows → List Line
  rows_lines end_rows = []
  rows_lines (row line h under rest) = line ∷ under_lines under ++ rows_lines rest

  pub under_lines : Under → List Line
  under_lines nothing = []
  under_lines (block inside rows) = rows_lines rows

-- what is known at an indentation behind some of its lines
pub record Level : Type 0 where
  pub indent : ℕ
  -- how many suites lie around
  pub depth : ℕ
  pub context : Context
  -- it is the suite of a `def` with these parameters
  pub of_def : Bool
  pub given : List (List ℕ)
  pub has_stmt : Bool

abbrev pub start : Level
start = record { indent = 0; depth = 0; context = record { around = module_level; last = Nothing; may_declare = false }; of_def = false; given = []; has_stmt = false }

-- ---- what a line begins

abbrev pub is_global : Head → Bool
is_global (global_head at names) = true
is_global h = false

abbrev pub is_def : Head → Bool
is_def (def_head at name_at bytes opening names closing colon behind) = true
is_def h = false

-- a statement, and not a part of one or a `global` line
abbrev pub is_stmt : Head → Bool
is_stmt (elif_head at test colon behind) = false
is_stmt (else_head at colon behind) = false
is_stmt (except_head at kind colon behind) = false
is_stmt (global_head at names) = false
is_stmt h = true

-- a suite stands on the lines under it
abbrev pub opens : Head → Bool
opens (simple_head s) = false
opens (global_head at names) = false
opens h = is_none (behind_in h)

abbrev pub handler_last : Kind → Last
handler_last every_kind = Every
handler_last (one_kind e called) = Handler

abbrev pub last_after : Head → Last
last_after (if_head at test colon behind) = If
last_after (elif_head at test colon behind) = If
last_after (while_head at test colon behind) = Loop
last_after (for_head at t in_word e colon behind) = Loop
last_after (try_head at colon behind) = Try
last_after (except_head at kind colon behind) = handler_last kind
last_after h = Nothing

abbrev pub head_around : Around → Head → Around
head_around around (while_head at test colon behind) = in_loop_suite around
head_around around (for_head at t in_word e colon behind) = in_loop_suite around
head_around around (except_head at kind colon behind) = in_handler_suite around
head_around around (def_head at name_at bytes opening names closing colon behind) = in_def_suite
head_around around (class_head at name_at bytes of colon behind) = in_class_suite
head_around around h = in_suite around

abbrev pub head_given : Head → List (List ℕ)
head_given (def_head at name_at bytes opening names closing colon behind) = params_list names
head_given h = []

-- `global` lines may stand behind it where they could before
abbrev pub lets_declare : Head → Bool
lets_declare (simple_head s) = are_alone (simple_tokens s)
lets_declare (global_head at names) = true
lets_declare h = false

-- behind a line that begins this
abbrev pub after : Level → Head → Level
after l h = record l { context = record { around = l.context.around; last = last_after h; may_declare = l.context.may_declare && lets_declare h }; has_stmt = l.has_stmt || not (is_global h) }

-- before the first line of the suite of this, at this indentation
abbrev pub inside : Level → Head → ℕ → Level
inside l h indent = record {
  indent = indent;
  depth = suc l.depth;
  context = record { around = head_around l.context.around h; last = Nothing; may_declare = is_def h };
  of_def = is_def h;
  given = head_given h;
  has_stmt = false;
}

-- the statements that begin on a line
abbrev pub counted : Head → ℕ
counted h = (if is_stmt h then 1 else 0) + (if is_none (behind_in h) then 0 else 1)

-- the lines of a suite may end here
abbrev pub is_done : Level → Bool
is_done l = l.has_stmt && not (lacks_handler l.context.last)

abbrev mutual
  -- how many statements begin on these lines
  pub rows_size : Rows → ℕ
  rows_size end_rows = 0
  rows_size (row line h under rest) = counted h + under_size under + rows_size rest

  pub under_size : Under → ℕ
  under_size nothing = 0
  under_size (block indent rows) = rows_size rows

-- ---- what may stand where

abbrev pub is_every : Last → Bool
is_every Every = true
is_every last = false

-- by the grammar alone
abbrev pub follows : Level → Head → Bool
follows l (elif_head at test colon behind) = takes_branch l.context.last
follows l (else_head at colon behind) = takes_branch l.context.last
follows l (except_head at kind colon behind) = takes_handler l.context.last || is_every l.context.last
follows l (global_head at names) = l.of_def && not (lacks_handler l.context.last)
follows l h = not (lacks_handler l.context.last)

abbrev mutual
  -- These rows lead from one level to another.
  pub Leads : Level → Rows → Level → Type 0
  Leads l end_rows m = m ≡ l
  Leads l (row line h under rest) m = IsLine line l.indent (head_tokens h) × (follows l h ≡ true) × FitsUnder l h under × Leads (after l h) rest m

  pub FitsUnder : Level → Head → Under → Type 0
  FitsUnder l h nothing = opens h ≡ false
  FitsUnder l h (block indent rows) = (opens h ≡ true) × (l.indent < indent) × FitsRows (inside l h indent) rows

  pub FitsRows : Level → Rows → Type 0
  FitsRows l end_rows = is_done l ≡ true
  FitsRows l (row line h under rest) = IsLine line l.indent (head_tokens h) × (follows l h ≡ true) × FitsUnder l h under × FitsRows (after l h) rest

-- what is asked of a line beside the grammar, behind so many statements: that it may stand there, and the limits
abbrev pub may : Limits → Level → ℕ → Head → Bool
may q l n h = head_stands l.context l.given h && nat_le (head_depth h) q.height && nat_le (n + counted h) q.number && (is_none (behind_in h) || nat_le (suc l.depth) q.suites)

abbrev mutual
  pub rows_may : Limits → Level → ℕ → Rows → Bool
  rows_may q l n end_rows = true
  rows_may q l n (row line h under rest) = may q l n h && under_may q l (n + counted h) h under && rows_may q (after l h) (n + counted h + under_size under) rest

  pub under_may : Limits → Level → ℕ → Head → Under → Bool
  under_may q l n h nothing = true
  under_may q l n h (block indent rows) = nat_le (suc l.depth) q.suites && rows_may q (inside l h indent) n rows

abbrev mutual
  -- each of these lines may stand where it is, whatever the limits
  pub rows_stand : Level → Rows → Bool
  rows_stand l end_rows = true
  rows_stand l (row line h under rest) = head_stands l.context l.given h && under_stand l h under && rows_stand (after l h) rest

  pub under_stand : Level → Head → Under → Bool
  under_stand l h nothing = true
  under_stand l h (block indent rows) = rows_stand (inside l h indent) rows

abbrev pub FitsStart : Rows → Type 0
FitsStart end_rows = ⊤
FitsStart (row line h under rest) = FitsRows start (row line h under rest)

-- ---- what stands behind rows

-- the lines behind what stands under a line are indented less than it
abbrev pub Edge : Under → List Line → Type 0
Edge nothing x = ⊤
Edge (block k rows) x = Below k x

-- a first line stands there, at this indentation
abbrev pub Begun : ℕ → List Line → Type 0
Begun d [] = ⊥
Begun d (line ∷ lines) = line.indent ≡ d

-- behind the last of these rows, what stands there is indented less than what stands under it
abbrev pub LastEdge : Rows → List Line → Type 0
LastEdge end_rows x = ⊤
LastEdge (row line h under end_rows) x = Edge under x
LastEdge (row line h under (row line_2 h_2 under_2 rest)) x = LastEdge (row line_2 h_2 under_2 rest) x

-- the rows that are left behind others
pub record Left (q : Limits) (l : Level) (n : ℕ) (rows : Rows) (x r : List Line) : Type 0 where
  pub left : Rows
  pub fits : FitsRows l left
  pub may_be : rows_may q l n left ≡ true
  pub lines_are : rows_lines left ++ r ≡ x
