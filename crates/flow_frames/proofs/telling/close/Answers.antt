use Rattle.std.proofs.Common.{[]}
use Rattle.flow_frames.proofs.Tellings.{word_named}
use Rattle.flow_frames.proofs.telling.close.Goals as goal

pub tell-requires-clause-number : goal.tell-requires-clause-number
tell-requires-clause-number g c =
    word_named (g.D.Doer.fits c.args.doer.now) (g.D.Doer.fits c.some_word.new.doer) (g.D.Doer.stands c.args.doer.now) (g.D.Doer.stands c.some_word.new.doer)
    c.in_ok-word.word c.in_ok-word.ensures.knew c.requires.state c.in_ok-word.ensures.named
