use Rattle.std.proofs.Common.{refl, arith}
use Rattle.graph_texts.proofs.TupleParts.{part_draws}
use Rattle.graph_texts.proofs.page.Page.next_part.Goals as goal

pub returns : goal.returns
returns g c =
    part_draws (g.R.Reads.values c.args.reads.now) (g.R.Reads.store c.args.reads.now) c.requires.interned c.args.id c.tuple_of-parts.result.now c.tuple_of-parts.ensures
    c.args.self.now (record { text = c.push_str-2.new.self; things = c.args.self.now.things }) c.requires.named refl c.args.from (omega (arith, c.if-from-parts.false)) c.in_ok-push_str-2.ensures.bytes
