use Rattle.std.proofs.Common.{refl, arith}
use Rattle.dep_query.specs.Lines.{dependence_line, dependence_lines}
use Rattle.dep_query.proofs.Written.{one_more, all_written}
use Rattle.dep_query.proofs.lines.write_lines.Goals as goal

pub loop-d-preserved : goal.loop-d-preserved
loop-d-preserved c =
    one_more dependence_line dependence_lines refl (λ d list. refl) c.loop-d.out.items c.write_line.new.out.items c.args.out.now.items c.args.list.now c.loop-d.d-index _ (omega (arith, c.loop-d-test.true)) c.in_ok-write_line.ensures c.loop-d.invariant

pub returns : goal.returns
returns c = all_written dependence_line dependence_lines refl (λ d list. refl) c.loop-d.out.items c.args.out.now.items c.args.list.now c.loop-d.d-index (omega (arith, c.loop-d-test.false)) c.loop-d.invariant
