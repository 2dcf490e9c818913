use Rattle.std.proofs.Common.{◌≡◌, ◌==◌, ◌||◌, true, sym, ap, subst, ◌∙◌, rules}
use Rattle.slice_law.specs.Closed.{has}
use Rattle.slice_edges.proofs.KnownLaws.{key_more}
use Rattle.slice_edges.proofs.known.Known.add.Goals as goal

pub returns-in_ok-insert-in-Some : goal.returns-in_ok-insert-in-Some
returns-in_ok-insert-in-Some c = λ r is.
    let keys : c.deref_mut.result.now.keys ≡ c.args.self.now = search rules in
    subst (λ known. ((c.args.number == r) || has r known) ≡ true) keys (key_more c.deref_mut.result.now.keys c.args.number r (sym (ap (has r) c.in_ok-insert-in-Some.ensures.keys) ∙ is))
