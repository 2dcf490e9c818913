use Rattle.std.proofs.Common.{◌&&◌, ◌||◌, refl, ap, ◌∙◌}
use Rattle.slice_law.specs.Closed.{has}
use Rattle.slice_law.specs.Edges.{by_control, from_option}
use Rattle.slice_edges.specs.Asks.{among_by, is_by}
use Rattle.slice_edges.proofs.StepLaws.{begin_step}
use Rattle.slice_edges.proofs.WritersLaws.{on_ok}
use Rattle.slice_edges.proofs.asking.Asking.begin.Goals as goal

pub returns : goal.returns
returns c = λ view script told before. on_ok c.begin.result c.begin.ensures (λ frames.
    begin_step view script c.args.self.now (record { frames = c.begin.new.self; writers = c.args.self.now.writers; asks = c.ask_for.new.asks; memo = c.args.self.now.memo }) told before c.args.stmt frames refl refl
    (λ reason s r. c.in_ok-ask_for.ensures reason s r ∙ ap (λ found. (is_by by_control c.args.stmt reason s && has r (from_option found)) || among_by c.args.self.now.asks.keys reason s r) c.caller-caller.ensures))
