use Rattle.op_parts.proofs.Entrances.{word_is}
use Rattle.op_parts.proofs.parts.PartsDoer.word.Goals as goal

pub returns-clause-named : goal.returns-clause-named
returns-clause-named g c = word_is (g.S.Source.fits c.args.self.now.source) (g.S.Source.stands c.args.self.now.source) c.args.self.now.held c.word.new.self c.args.self.now.entered c.args.text.now c.word.result
    c.word.ensures.name c.word.ensures.store c.word.ensures.said.0 c.word.ensures.said.1
