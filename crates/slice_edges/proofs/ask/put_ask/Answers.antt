use Rattle.std.proofs.Common.{ap, ◌∙◌}
use Rattle.slice_edges.specs.Asks.{among_by}
use Rattle.slice_edges.proofs.AskLaws.{among_more}
use Rattle.slice_edges.proofs.ask.put_ask.Goals as goal

pub returns : goal.returns
returns c = λ reason s r. ap (λ keys. among_by keys reason s r) c.in_ok-insert.ensures.keys
    ∙ among_more c.args.asks.now.keys (record { why = c.args.why; asker = c.args.asker; asked = c.args.asked }) reason s r
