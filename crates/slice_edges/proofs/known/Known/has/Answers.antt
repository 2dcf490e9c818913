use Rattle.std.proofs.Common.{◌≡◌, ap, ◌∙◌, rules}
use Rattle.slice_law.specs.Closed.{has}
use Rattle.slice_edges.proofs.KnownLaws.{has_any}
use Rattle.slice_edges.proofs.known.Known.has.Goals as goal

pub returns-in-Some : goal.returns-in-Some
returns-in-Some c =
    let keys : c.deref.result.now.keys ≡ c.args.self.now = search rules in
    c.contains.ensures ∙ has_any c.deref.result.now.keys c.args.number ∙ ap (has c.args.number) keys
