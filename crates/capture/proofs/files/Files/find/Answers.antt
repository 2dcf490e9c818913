use Rattle.std.proofs.Common.{◌≡◌, Some, sym, ap, subst, ◌∙◌}
use Rattle.std.specs.List.{slice_get}
use Rattle.std.proofs.lemmas.Option.{get_or_from_slice_get}
use Rattle.capture.specs.Files.{file_at}
use Rattle.capture.specs.FilesView.{IsGapFor}
use Rattle.capture.proofs.FileOrder.{found_at, none_at}
use Rattle.capture.proofs.files.Files.find.Goals as goal

pub returns-in-Ok : goal.returns-in-Ok
returns-in-Ok c =
    let found = c.in-Ok.ensures.found in
    let at : slice_get c.self.inside.kept.items c.in-Ok.place ≡ Some (c.args.path.now, found.0) = ap (λ files. slice_get files c.in-Ok.place) (sym c.deref.ensures.value) ∙ found.1 in
    ap (λ file. Some file.1) (c.index.ensures ∙ get_or_from_slice_get c.self.inside.kept.items c.in-Ok.place (c.args.path.now, found.0) c.index.result.now at)
    ∙ sym (found_at c.self.inside.kept.items c.args.path.now found.0 c.in-Ok.place c.self.invariant at) ∙ ap (λ files. file_at files.kept c.args.path.now) c.self.view_is

pub returns-in-Err : goal.returns-in-Err
returns-in-Err c =
    sym (none_at c.self.inside.kept.items c.args.path.now c.in-Err.field-0 (subst (λ files. IsGapFor files c.args.path.now c.in-Err.field-0) c.deref.ensures.value c.in-Err.ensures.absent))
    ∙ ap (λ files. file_at files.kept c.args.path.now) c.self.view_is
