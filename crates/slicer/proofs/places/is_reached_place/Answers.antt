use Rattle.std.proofs.Common.{sym, ◌∙◌}
use Rattle.slicer.proofs.PlaceLaws.{named_by, owner_reached}
use Rattle.slicer.proofs.places.is_reached_place.Goals as goal

pub returns-in-Some-clause-reached : goal.returns-in-Some-clause-reached
returns-in-Some-clause-reached c = λ view store v interned are known reached few many normal.
    let named = named_by view c.args.at c.args.texts c.args.tuples few many (sym c.is_named_place.ensures ∙ c.if-not-is_named_place.false) in
    let same = owner_reached view c.args.forms.now c.args.things.now store v are known c.args.found.now.keys reached c.args.at c.owner_of.result
    (λ o is_named. c.owner_of.ensures view store o interned are known is_named normal) c.in-Some.o c.in-Some.is named in
    (λ is. same.0 (sym c.contains.ensures ∙ is), λ place. c.contains.ensures ∙ same.1 place)
