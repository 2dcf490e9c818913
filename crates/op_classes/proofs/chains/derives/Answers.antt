use Rattle.std.proofs.Common.{sym, ap, ◌∙◌, ◌+◌, ◌-◌}
use Rattle.py_model.specs.Classes.{derives as model_derives}
use Rattle.op_classes.proofs.Deriving.{behind, derives_on, one_less}
use Rattle.op_classes.proofs.chains.derives.Goals as goal

pub loop-i-preserved : goal.loop-i-preserved
loop-i-preserved c = c.loop-i.invariant ∙ (ap (λ n. model_derives n c.loop-i.at c.args.from) (one_less c.loop-i.i c.loop-i-test.true)
    ∙ (derives_on (19 - (c.loop-i.i + 1)) c.loop-i.at c.args.from c.if-at-from.false ∙ ap (behind (19 - (c.loop-i.i + 1)) c.args.from) (sym c.base_of.ensures ∙ c.in-Some.is)))
