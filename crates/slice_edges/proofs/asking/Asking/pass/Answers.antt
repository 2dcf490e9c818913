use Rattle.std.proofs.Common.{◌∷◌, sym, subst, map}
use Rattle.std.specs.Prelude.{OnOk}
use Rattle.std.specs.Option.{option_map}
use Rattle.py_tree.specs.Erasure.{script_of}
use Rattle.py_value.specs.Contents.{contents}
use Rattle.py_value.specs.Seen.{access_seen, kind_seen}
use Rattle.py_model.specs.Moment.{does, enters}
use Rattle.py_model.specs.Told.{answer_seen}
use Rattle.row_words.specs.Fits.{Each}
use Rattle.row_checks.specs.NamedRows.{NamesAccess, NamesRow}
use Rattle.row_moments.specs.Moments.{told_with}
use Rattle.slice_edges.specs.HasAsked.{HasAsked}
use Rattle.slice_edges.proofs.WritersLaws.{on_ok}
use Rattle.slice_edges.proofs.asking.Asking.pass.Goals as goal

pub returns-in-Begin : goal.returns-in-Begin
returns-in-Begin c = λ view told interned named texts known.
    let script = script_of c.args.script.now in
    subst (λ row. OnOk c.begin.result (HasAsked view script c.begin.new.self (told_with view row told))) (sym c.in-Begin.is) (c.begin.ensures view script told known)

pub returns-in-Do : goal.returns-in-Do
returns-in-Do c = λ view told interned named texts known.
    let script = script_of c.args.script.now in
    let each = subst (Each (NamesAccess view)) (sym c.as_slice.ensures) (subst (NamesRow view) c.in-Do.is named).1.1.1 in
    on_ok c.see.result (c.see.ensures view told interned each texts known) (λ done.
    subst (λ row. HasAsked view script c.see.new.self (told_with view row told)) (sym c.in-Do.is)
    (subst (λ accesses. HasAsked view script c.see.new.self (does c.in-Do.field-0 c.in-Do.field-1 (map (contents view) c.in-Do.field-2) (answer_seen view c.in-Do.field-3) (option_map (kind_seen view) c.in-Do.field-4) (map (access_seen view) accesses) c.in-Do.field-6 ∷ told))
    c.as_slice.ensures
    (done c.in-Do.field-0 c.in-Do.field-1 (map (contents view) c.in-Do.field-2) (answer_seen view c.in-Do.field-3) (option_map (kind_seen view) c.in-Do.field-4) c.in-Do.field-6)))

pub returns-in-Enter : goal.returns-in-Enter
returns-in-Enter c = λ view told interned named texts known.
    let script = script_of c.args.script.now in
    let each = subst (Each (NamesAccess view)) (sym c.as_slice-in-Enter.ensures) (subst (NamesRow view) c.in-Enter.is named).1 in
    on_ok c.enter.result (c.enter.ensures view told interned each texts known) (λ done.
    subst (λ row. HasAsked view script c.enter.new.self (told_with view row told)) (sym c.in-Enter.is)
    (subst (λ accesses. HasAsked view script c.enter.new.self (enters c.in-Enter.field-0 c.in-Enter.field-1 (map (contents view) c.in-Enter.field-2) (map (access_seen view) accesses) ∷ told))
    c.as_slice-in-Enter.ensures (done c.in-Enter.field-0 c.in-Enter.field-1 (map (contents view) c.in-Enter.field-2))))

pub returns-in-Leave : goal.returns-in-Leave
returns-in-Leave c = λ view told interned named texts known.
    let script = script_of c.args.script.now in
    subst (λ row. HasAsked view script c.leave.new.self (told_with view row told)) (sym c.in-Leave.is) (c.leave.ensures view script told (contents view c.in-Leave.field-0) known)

pub returns-in-End : goal.returns-in-End
returns-in-End c = λ view told interned named texts known.
    let script = script_of c.args.script.now in
    subst (λ row. OnOk c.end.result (HasAsked view script c.end.new.self (told_with view row told))) (sym c.in-End.is) (c.end.ensures view script told known)
