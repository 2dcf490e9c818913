use Rattle.std.proofs.Common.{[], ◌∷◌, ◌++◌, ap, ◌∙◌}
use Rattle.indexmap.specs.IndexMap.{insert_entry}
use Rattle.py_value.specs.contracts.access.LocationPartialEq.TheImpl.{ghosts as locations}
use Rattle.py_value.specs.declared.access.Location.TheVariants.{Len}
use Rattle.slice_things.specs.declared.held.Held.TheVariants.{Length}
use Rattle.slice_things.specs.declared.things.Shape.TheVariants.{List as ListShape}
use Rattle.slice_things.specs.Held.{noted_at, with_words}
use Rattle.slice_things.proofs.ThingLaws.{opening_holds}
use Rattle.slice_things.proofs.things.Things.new.Goals as goal

pub returns : goal.returns
returns c = λ view forms path arguments files many.
    opening_holds forms view files path arguments c.args.words many (record { kinds = c.push.new.self; places = c.put_words.new.places; orders = c.new.result })
    (c.in_ok-push.ensures.items ∙ ap (λ these. these ++ ListShape ∷ []) c.new-kinds.ensures.items)
    (λ l. c.in_ok-put_words.ensures l ∙ ap (λ entries. with_words c.args.words l (noted_at entries l))
    (c.in_ok-insert.ensures.entries ∙ ap (λ these. insert_entry locations.eq these (Len 0) (Length c.args.words)) c.new-places.ensures.empty))
    c.new.ensures.empty
