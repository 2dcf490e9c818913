use Rattle.std.proofs.Common.{ap, ◌∙◌, ℕ, List, HashMap}
use Rattle.py_value.specs.declared.access.Location.{Location}
use Rattle.slice_edges.specs.Counts.{count_at}
use Rattle.slice_edges.proofs.CountLaws.{counts_none}
use Rattle.slice_edges.proofs.counts.forget_one.Goals as goal

pub returns-in_default : goal.returns-in_default
returns-in_default c = λ l a.
    ap (λ (m : HashMap Location (List (ℕ × ℕ)) _). count_at m.entries l a) c.get_mut.follows.holds-at-none ∙ counts_none c.args.counts.now.entries c.args.at c.in_default.ensures.value l a
