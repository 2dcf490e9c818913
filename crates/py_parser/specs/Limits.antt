-- What is asked of a script beside the grammar: that its statements stand where they may, and the limits.
use Rattle.std.specs.Prelude.{◌≡◌, true}
use Rattle.py_grammar.specs.Limits.{Limits, IsWithin}
use Rattle.py_grammar.specs.WellPlaced.{script_stands}
use Rattle.py_grammar.specs.Written.{Script}

pub record IsFine (limits : Limits) (s : Script) : Type 0 where
  pub stands : script_stands s ≡ true
  pub within : IsWithin limits s
