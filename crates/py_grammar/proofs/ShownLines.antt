-- What shows a fault of a part shows it on the line.
use Rattle.std.proofs.Common.{List}
use Rattle.py_lines.specs.declared.parts.Token.{Token}
use Rattle.py_expressions.specs.declared.fault.Fault.{Fault}
use Rattle.py_expressions.specs.declared.fault.Fault.TheVariants.{Unexpected, TooDeep, TooMany, Memory}
use Rattle.py_expressions.specs.Parsed.{ShowsAt}
use Rattle.py_grammar.specs.ParsedHead.{ShowsOnLine}

-- what shows a fault of a part shows it on the line
pub shows_on_line : (t : Token) (behind : List Token) (fault : Fault) → ShowsAt behind fault → ShowsOnLine t behind fault
shows_on_line t behind (Unexpected left) is = is
shows_on_line t behind (TooDeep place) is = is
shows_on_line t behind (TooMany place) is = absurd is
shows_on_line t behind Memory is = absurd is
