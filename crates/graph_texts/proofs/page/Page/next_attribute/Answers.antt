use Rattle.std.proofs.Common.{◌≡◌, sym, ap, subst}
use Rattle.py_value.specs.Values.{AreNamed}
use Rattle.graph_texts.proofs.EntryKeys.{attribute_passed, attribute_draws}
use Rattle.graph_texts.proofs.page.Page.next_attribute.Goals as goal

pub returns-in-None : goal.returns-in-None
returns-in-None g c =
    attribute_passed (g.R.Reads.values c.args.reads.now) (g.R.Reads.store c.args.reads.now) c.args.o c.args.from c.args.first c.key-key.result c.key-key.ensures.key c.args.self.now c.requires.named
    c.in_ok-entry.field-0 c.in-None.is c.in_ok-entry.ensures.entry

pub returns-in_ok-push_comma-in-Some : goal.returns-in_ok-push_comma-in-Some
returns-in_ok-push_comma-in-Some g c =
    let same : c.push_comma.new.self.things.keys ≡ c.args.self.now.things.keys = ap (λ things. things.keys) c.in_ok-push_comma-in-Some.ensures.things in
    attribute_draws (g.R.Reads.values c.args.reads.now) (g.R.Reads.store c.args.reads.now) c.args.o c.args.from c.args.first c.key-key.result c.key-key.ensures.key c.args.self.now c.push_comma.new.self
    (subst (AreNamed (g.R.Reads.values c.args.reads.now)) (sym same) c.requires.named) same c.in_ok-push_comma-in-Some.ensures.drawn
    c.in_ok-entry.field-0 c.in-Some.v c.in-Some.is c.in_ok-entry.ensures.named c.key-key.ensures.named c.in_ok-entry.ensures.entry
