use Rattle.std.proofs.Common.{◌==◌, if◌then◌else◌, [], unwrap_or, ap, ◌∙◌}
use Rattle.slice_edges.specs.Counts.{count_in}
use Rattle.slice_edges.proofs.CountLaws.{counts_new}
use Rattle.slice_edges.proofs.counts.put_first.Goals as goal

pub returns : goal.returns
returns c = λ l a.
    ap (λ found. count_in (unwrap_or found []) a) (c.in_ok-insert.ensures.updates.0 l)
    ∙ counts_new c.args.counts.now.entries c.args.at c.put.new.self c.args.asker c.args.count
    (λ b. c.in_ok-put.ensures b ∙ ap (λ known. if c.args.asker == b then c.args.count else count_in known b) c.nothing-first.ensures) l a
