use Rattle.std.proofs.Common.{ap, ◌∙◌}
use Rattle.py_tree.specs.Erasure.{expr_of}
use Rattle.interp_eval.specs.Seen.{node_seen}
use Rattle.interp_eval.proofs.Machines.{begun_held}
use Rattle.interp_eval.proofs.frames.EvalFrames.begin.Goals as goal

pub returns-clause-held : goal.returns-clause-held
returns-clause-held c = λ table held.
    let top = c.replace-waiting.ensures.after in
    let old = c.replace-waiting.ensures.value in
    begun_held table c.args.self.now (record { scope = c.args.self.now.scope; top = c.replace-waiting.new.dest; below = c.push.new.self })
    (record { node = record { at = c.replace-waiting.result.node.at; finish = c.replace-waiting.result.node.finish; rest = c.args.rest }; have = c.replace-waiting.result.have })
    (expr_of c.args.operand.now)
    (ap (λ f. node_seen table f.node) top ∙ c.node_for.ensures table) (ap (λ f. f.have.items) top ∙ c.new.ensures.items) c.in_ok-push.ensures.items
    (ap (λ f. f.node.finish) old) (ap (λ f. f.have) old) held
