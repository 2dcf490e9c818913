use Rattle.std.proofs.Common.{◌==◌, ◌&&◌, ◌||◌, refl, ap, ◌∙◌, unwrap_or}
use Rattle.slice_law.specs.Closed.{has}
use Rattle.slice_law.specs.Edges.{by_jump, from_option}
use Rattle.slice_edges.specs.Asks.{among_by, same_reason, is_jump}
use Rattle.slice_edges.proofs.StepLaws.{end_step}
use Rattle.slice_edges.proofs.WritersLaws.{on_ok}
use Rattle.slice_edges.proofs.asking.Asking.end.Goals as goal

pub returns : goal.returns
returns c = λ view script told before. on_ok c.ask_jump.result c.ask_jump.ensures (λ noted.
    end_step view script c.args.self.now (record { frames = c.close.new.self; writers = c.args.self.now.writers; asks = c.ask_jump.new.asks; memo = c.args.self.now.memo }) told before
    c.unwrap_or-ended.result c.args.how (c.unwrap_or-ended.ensures ∙ ap (λ found. unwrap_or found 0) c.owner.ensures) c.close.ensures refl refl
    (λ reason s r. noted reason s r
    ∙ ap (λ found. (is_jump c.args.how && ((has s (from_option found) && same_reason by_jump reason) && (c.unwrap_or-ended.result == r))) || among_by c.args.self.now.asks.keys reason s r) c.owner-2.ensures))
