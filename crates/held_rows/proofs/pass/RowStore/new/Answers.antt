use Rattle.std.proofs.Common.{[], ◌∷◌, ◌++◌, ap, refl, ◌∙◌}
use Rattle.py_value.specs.declared.access.Kind.TheVariants.{List as ListKind}
use Rattle.held_rows.proofs.OpeningLaws.{opening_holds}
use Rattle.held_rows.proofs.pass.RowStore.new.Goals as goal

pub returns : goal.returns
returns c = λ view forms path arguments files are.
    opening_holds forms view files path arguments c.args.words.items are (record { words = c.args.words; kinds = c.push.new.self; places = c.new.result; orders = c.new-2.result })
    refl (c.in_ok-push.ensures.items ∙ ap (λ these. these ++ ListKind ∷ []) c.new-kinds.ensures.items) c.new.ensures.empty c.new-2.ensures.empty
