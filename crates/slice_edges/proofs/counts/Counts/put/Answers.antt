use Rattle.std.proofs.Common.{◌≡◌, ◌==◌, unwrap_or, if◌then◌else◌, ap, ◌∙◌, rules}
use Rattle.std.specs.Map.{lookup}
use Rattle.slice_edges.specs.Counts.{count_in}
use Rattle.slice_edges.proofs.CountLaws.{put_by}
use Rattle.slice_edges.proofs.counts.Counts.put.Goals as goal

pub returns : goal.returns
returns c = λ a.
    let entries : c.self.inside.by_asker.entries ≡ c.args.self.now = search rules in
    ap (λ found. unwrap_or found 0) (c.in_ok-insert.ensures.updates.0 a) ∙ put_by (c.args.asker == a) c.args.count (lookup (λ other. a == other) c.self.inside.by_asker.entries)
    ∙ ap (λ known. if c.args.asker == a then c.args.count else count_in known a) entries
