use Rattle.std.proofs.Common.{arith}
use Rattle.trial_list.proofs.Written.{one_more, all_written}
use Rattle.trial_list.proofs.lines.write_lines.Goals as goal

pub loop-earlier-preserved : goal.loop-earlier-preserved
loop-earlier-preserved c =
    one_more c.loop-earlier.out.items c.write_line.new.out.items c.args.out.now.items c.args.heads.now c.loop-earlier.earlier c.index-heads-earlier.result (omega (arith, c.loop-earlier-test.true)) c.index-heads-earlier.is
    c.in_ok-write_line.ensures c.loop-earlier.invariant

pub returns : goal.returns
returns c = all_written c.loop-earlier.out.items c.args.out.now.items c.args.heads.now c.loop-earlier.earlier (omega (arith, c.loop-earlier-test.false)) c.loop-earlier.invariant
