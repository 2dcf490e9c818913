use Rattle.std.proofs.Common.{refl, map, None}
use Rattle.py_tree.specs.Erasure.{script_of}
use Rattle.py_value.specs.Seen.{access_seen}
use Rattle.py_model.specs.Plan.{at_end}
use Rattle.slice_edges.proofs.StepLaws.{enter_step}
use Rattle.slice_edges.proofs.WritersLaws.{on_ok}
use Rattle.slice_edges.proofs.asking.Asking.enter.Goals as goal

pub returns : goal.returns
returns c = λ view told interned each texts before. on_ok c.enter.result c.enter.ensures (λ frames. λ at def values.
    enter_step view (script_of c.args.script.now) c.see.new.self (record { frames = c.enter.new.self; writers = c.see.new.self.writers; asks = c.see.new.self.asks; memo = c.see.new.self.memo }) told at at def 0 values values at_end None
    (map (access_seen view) c.args.accesses.now) 0 (c.in_ok-see.ensures view told interned each texts before at 0 values at_end None 0) frames refl refl refl)
