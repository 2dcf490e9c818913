use Rattle.std.proofs.Common.{sym, ◌∙◌}
use Rattle.flow_values.proofs.Expressions.{part_held}
use Rattle.flow_values.proofs.expression.finish_now.Goals as goal

pub returns-clause-held : goal.returns-clause-held
returns-clause-held c = λ table around part named.
    c.finish.ensures.held table (record { spot = around.0; now = tt; below = around.1 })
    (part_held table c.args.frames.now.now c.in-Some.part (sym c.part_in.ensures ∙ c.in-Some.is) part) named
