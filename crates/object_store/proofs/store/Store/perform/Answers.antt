use Rattle.std.proofs.Common.{◌≡◌, map, ap, sym, subst, ◌∙◌}
use Rattle.py_value.specs.Changes.{after_accesses}
use Rattle.py_value.specs.Seen.{access_seen}
use Rattle.object_store.specs.Performing.{SuitInTurn}
use Rattle.object_store.specs.Seen.{seen_at}
use Rattle.object_store.proofs.Naming.{kinds_done, names_done, named_made}
use Rattle.object_store.proofs.OverContents.{same_over}
use Rattle.object_store.proofs.store.Store.perform.Goals as goal

pub returns-clause-kinds : goal.returns-clause-kinds
returns-clause-kinds c = kinds_done c.args.values.now c.args.plan.now c.make_first.new.self c.do_all.new.self c.do_all.ensures ∙ c.make_first.ensures.kinds

pub returns-clause-names : goal.returns-clause-names
returns-clause-names c = names_done c.args.values.now c.args.plan.now c.make_first.new.self c.do_all.new.self c.do_all.ensures ∙ c.make_first.ensures.names

pub returns-clause-writes : goal.returns-clause-writes
returns-clause-writes c = λ table interned texts after kind named suits.
    let same : seen_at table c.make_first.new.self ≡ seen_at table c.args.self.now = same_over table c.args.self.now c.make_first.new.self c.make_first.ensures.held in
    c.plan_over_contents.ensures.contents c.args.values.now table c.args.plan.now c.make_first.new.self c.do_all.new.self interned texts c.requires.named after
    (named_made table c.args.self.now c.make_first.new.self c.args.made named kind c.make_first.ensures.held c.make_first.ensures.kinds c.make_first.ensures.names)
    c.do_all.ensures (subst (λ seen. SuitInTurn seen (map (access_seen table) c.args.plan.now)) (sym same) suits)
    ∙ ap (after_accesses (map (access_seen table) c.args.plan.now)) same

pub returns-clause-store : goal.returns-clause-store
returns-clause-store c = λ table after kind named.
    c.plan_over_contents.ensures.named c.args.values.now table c.args.plan.now c.make_first.new.self c.do_all.new.self after
    (named_made table c.args.self.now c.make_first.new.self c.args.made named kind c.make_first.ensures.held c.make_first.ensures.kinds c.make_first.ensures.names)
    c.do_all.ensures
