use Rattle.std.proofs.Common.{refl, arith}
use Rattle.graph_texts.proofs.TupleParts.{only_draws, many_draws}
use Rattle.graph_texts.proofs.page.Page.open_tuple.Goals as goal

pub returns-in_ok-push_str-in-len1 : goal.returns-in_ok-push_str-in-len1
returns-in_ok-push_str-in-len1 g c =
    only_draws (g.R.Reads.values c.args.reads.now) (g.R.Reads.store c.args.reads.now) c.requires.interned c.args.id
    c.args.self.now (record { text = c.push_str-in-len1.new.self; things = c.args.self.now.things }) c.requires.named refl c.tuple_of.result.now c.tuple_of.ensures (omega arith) c.in_ok-push_str-in-len1.ensures.bytes

pub returns-in_ok-push_str-in-len1-up : goal.returns-in_ok-push_str-in-len1-up
returns-in_ok-push_str-in-len1-up g c =
    many_draws (g.R.Reads.values c.args.reads.now) (g.R.Reads.store c.args.reads.now) c.requires.interned c.args.id
    c.args.self.now (record { text = c.push_str-in-len1-up.new.self; things = c.args.self.now.things }) c.requires.named refl c.tuple_of.result.now c.tuple_of.ensures (omega arith) c.in_ok-push_str-in-len1-up.ensures.bytes
