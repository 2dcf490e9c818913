-- The limits of a script, apart from the grammar and from what is asked of a statement by its place.
use Rattle.std.specs.Prelude.{ℕ, ◌≤◌}
use Rattle.py_tree.specs.Numbering.{size_suite}
use Rattle.py_grammar.specs.Written.{Script, empty_script, script}
use Rattle.py_grammar.specs.StatementTrees.{script_body}
use Rattle.py_grammar.specs.StatementDepth.{body_expr_depth, body_depth}

-- how deep expressions may go, in how many suites statements may lie, how many statements there may be
pub record Limits : Type 0 where
  pub height : ℕ
  pub suites : ℕ
  pub number : ℕ

-- the limits of this profile
abbrev pub profile : Limits
profile = record { height = 100; suites = 50; number = 20000 }

abbrev pub script_expr_depth : Script → ℕ
script_expr_depth empty_script = 0
script_expr_depth (script body) = body_expr_depth body

-- how many suites lie in one another
abbrev pub script_suites : Script → ℕ
script_suites empty_script = 0
script_suites (script body) = body_depth body

pub record IsWithin (limits : Limits) (s : Script) : Type 0 where
  pub low : script_expr_depth s ≤ limits.height
  pub deep : script_suites s ≤ limits.suites
  pub few : size_suite (script_body s) ≤ limits.number
