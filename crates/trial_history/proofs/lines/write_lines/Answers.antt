use Rattle.std.proofs.Common.{refl, get_or, false, arith}
use Rattle.trial_history.proofs.Written.{one_more, all_written}
use Rattle.trial_history.proofs.lines.write_lines.Goals as goal

pub loop-earlier-preserved : goal.loop-earlier-preserved
loop-earlier-preserved c =
    one_more c.loop-earlier.out.items c.write_line.new.out.items c.args.out.now.items c.args.heads.now c.args.marks.now c.loop-earlier.earlier c.index-heads-earlier.result
    (get_or c.args.marks.now c.loop-earlier.earlier false) false (omega (arith, c.loop-earlier-test.true)) c.requires c.index-heads-earlier.is refl c.in_ok-write_line.ensures c.loop-earlier.invariant

pub returns : goal.returns
returns c = all_written c.loop-earlier.out.items c.args.out.now.items c.args.heads.now c.args.marks.now c.loop-earlier.earlier (omega (arith, c.loop-earlier-test.false)) c.loop-earlier.invariant
