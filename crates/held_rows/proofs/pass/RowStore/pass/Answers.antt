use Rattle.std.proofs.Common.{◌∷◌, sym, subst, map}
use Rattle.std.specs.Option.{option_map}
use Rattle.py_value.specs.Contents.{contents}
use Rattle.py_value.specs.Seen.{access_seen, kind_seen}
use Rattle.py_model.specs.Moment.{does, enters}
use Rattle.py_model.specs.Told.{answer_seen}
use Rattle.row_words.specs.Fits.{Each}
use Rattle.row_checks.specs.NamedRows.{NamesAccess, NamesRow}
use Rattle.slice_law.specs.Closed.{store_after}
use Rattle.row_moments.specs.Moments.{told_with}
use Rattle.slice_things.specs.Things.{after_all, IsNormalAccess, IsNormalRow}
use Rattle.held_rows.specs.Leaves.{HoldsAfter}
use Rattle.slice_things.proofs.CountLaws.{on_ok}
use Rattle.held_rows.proofs.pass.RowStore.pass.Goals as goal

pub returns-in_ok-see-in-Do : goal.returns-in_ok-see-in-Do
returns-in_ok-see-in-Do c = λ view opening told interned are named is before.
    let forms = c.args.forms.now in
    let each = subst (Each (NamesAccess view)) (sym c.as_slice.ensures) (subst (NamesRow view) c.in-Do.is named).1.1.1 in
    let normal = subst (Each (IsNormalAccess view)) (sym c.as_slice.ensures) (subst (IsNormalRow view) c.in-Do.is is) in
    on_ok c.make.result (c.make.ensures view forms (after_all (map (access_seen view) c.as_slice.result.now) (store_after opening told)) (subst (NamesRow view) c.in-Do.is named).1.1.0 (c.in_ok-see-in-Do.ensures view (store_after opening told) interned are each normal before)) (λ made.
    subst (λ row. HoldsAfter view forms opening c.make.new.self (told_with view row told)) (sym c.in-Do.is)
    (subst (λ accesses. HoldsAfter view forms opening c.make.new.self (does c.in-Do.field-0 c.in-Do.field-1 (map (contents view) c.in-Do.field-2) (answer_seen view c.in-Do.field-3) (option_map (kind_seen view) c.in-Do.made) (map (access_seen view) accesses) c.in-Do.field-6 ∷ told))
    c.as_slice.ensures made))

pub returns-in-Enter : goal.returns-in-Enter
returns-in-Enter c = λ view opening told interned are named is before.
    let forms = c.args.forms.now in
    let each = subst (Each (NamesAccess view)) (sym c.as_slice-in-Enter.ensures) (subst (NamesRow view) c.in-Enter.is named).1 in
    let normal = subst (Each (IsNormalAccess view)) (sym c.as_slice-in-Enter.ensures) (subst (IsNormalRow view) c.in-Enter.is is) in
    on_ok c.see-in-Enter.result (c.see-in-Enter.ensures view (store_after opening told) interned are each normal before) (λ seen.
    subst (λ row. HoldsAfter view forms opening c.see-in-Enter.new.self (told_with view row told)) (sym c.in-Enter.is)
    (subst (λ accesses. HoldsAfter view forms opening c.see-in-Enter.new.self (enters c.in-Enter.field-0 c.in-Enter.field-1 (map (contents view) c.in-Enter.field-2) (map (access_seen view) accesses) ∷ told))
    c.as_slice-in-Enter.ensures seen))
