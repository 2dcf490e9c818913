-- What a handler is, read on the pure tree.
use Rattle.std.specs.Prelude.{Option}
use Rattle.std.specs.Option.{option_map}
use Rattle.py_tree.specs.declared.expr.Expr.{Expr}
use Rattle.py_tree.specs.declared.stmt.Bound.{Bound}
use Rattle.py_tree.specs.declared.stmt.Suite.{Suite}
use Rattle.py_tree.specs.Erasure.{expr_of, suite_of}
use Rattle.flow_frames.specs.Machine.{Handler}

abbrev pub handler_seen : Option Expr × Option Bound × Suite → Handler
handler_seen h = record { kind = option_map expr_of h.0; bound = h.1; run = suite_of h.2 }
