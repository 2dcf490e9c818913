use Rattle.std.proofs.Common.{sym, ◌∙◌}
use Rattle.slicer.proofs.OwnLaws.{owner_own, own_owner}
use Rattle.slicer.proofs.own.owner_of.Goals as goal

pub returns : goal.returns
returns c = λ view store o interned are known named plain. (
  λ is. owner_own view c.args.forms.now c.args.things.now store interned are known c.args.at o named plain (sym c.find_owner.ensures ∙ is),
  λ own. c.find_owner.ensures ∙ own_owner view c.args.forms.now c.args.things.now store interned are known c.args.at o named plain own,
)
