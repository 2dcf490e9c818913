use Rattle.std.proofs.Common.{◌≡◌, sym, ap, subst, ◌∙◌, inr, true}
use Rattle.std.specs.List.{list_any}
use Rattle.op_work.specs.Finish.{path_made, sets_file}
use Rattle.op_work.specs.Work.{WorkView}
use Rattle.op_work.proofs.Named.{same_path}
use Rattle.op_work.proofs.work.Work.has_its_file.Goals as goal

pub returns-else-is_some : goal.returns-else-is_some
returns-else-is_some c = λ set path mode made.
    let same = same_path c.in-Some.path path (sym c.in-Some.is ∙ (c.path_of.ensures ∙ (ap (λ (w : WorkView). path_made w.made) c.self.view_is ∙ ap path_made made))) in
    inr (subst (λ p. list_any (sets_file p) c.args.self.now.touched ≡ true) same (sym c.sets_file.ensures ∙ set))
