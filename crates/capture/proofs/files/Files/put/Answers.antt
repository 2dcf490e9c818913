use Rattle.std.proofs.Common.{◌≡◌, Some, sym, ap, subst, ◌∙◌}
use Rattle.std.specs.List.{slice_get}
use Rattle.capture.specs.Files.{file_at, with_file, IsAscending}
use Rattle.capture.specs.FilesView.{IsGapFor}
use Rattle.capture.proofs.FileOrder.{found_at, with_insert, ascending_with, not_none}
use Rattle.capture.proofs.files.Files.put.Goals as goal

pub returns-in-Err : goal.returns-in-Err
returns-in-Err c =
    let gap : IsGapFor c.self.inside.kept.items c.args.path c.in-Err.gap = subst (λ path. IsGapFor c.self.inside.kept.items path c.in-Err.gap) c.as_str.ensures (subst (λ files. IsGapFor files c.as_str.result.now c.in-Err.gap) c.deref.ensures.value c.in-Err.ensures.absent) in
    c.insert_at.ensures ∙ with_insert c.self.inside.kept.items c.args.path c.args.found c.in-Err.gap gap ∙ ap (λ files. with_file c.args.path c.args.found files.kept) c.self.view_is

pub returns-in-Ok : goal.returns-in-Ok
returns-in-Ok c =
    let found = c.in-Ok.ensures.found in
    let at : slice_get c.self.inside.kept.items c.in-Ok.field-0 ≡ Some (c.args.path, found.0) = ap (λ files. slice_get files c.in-Ok.field-0) (sym c.deref.ensures.value) ∙ found.1 ∙ ap (λ path. Some (path, found.0)) c.as_str.ensures in
    absurd (not_none found.0 (sym (found_at c.self.inside.kept.items c.args.path found.0 c.in-Ok.field-0 c.self.invariant at) ∙ ap (λ files. file_at files.kept c.args.path) c.self.view_is ∙ c.requires.absent))

pub invariant_of-self : goal.invariant_of-self
invariant_of-self c = subst IsAscending (sym (returns-in-Err c)) (subst (λ files. IsAscending (with_file c.args.path c.args.found files.kept)) c.self.view_is
    (ascending_with c.self.inside.kept.items c.args.path c.args.found c.self.invariant (ap (λ files. file_at files.kept c.args.path) c.self.view_is ∙ c.requires.absent)))
