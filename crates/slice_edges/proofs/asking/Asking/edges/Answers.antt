use Rattle.std.proofs.Common.{ap, sym, subst, ◌∙◌}
use Rattle.py_value.specs.Values.{StandOnce}
use Rattle.slice_law.specs.Edges.{run_asks}
use Rattle.slice_edges.specs.Asks.{among, among_by}
use Rattle.slice_edges.proofs.AskLaws.{each_once}
use Rattle.slice_edges.proofs.ReasonLaws.{same_pairs}
use Rattle.slice_edges.proofs.asking.Asking.edges.Goals as goal

pub returns-clause-asked : goal.returns-clause-asked
returns-clause-asked c = λ view script told known s r. ap (λ asks. among asks s r) c.as_slice.ensures.keys ∙ same_pairs c.args.self.now.asks.keys (run_asks script told) known.asks s r

pub returns-clause-reasons : goal.returns-clause-reasons
returns-clause-reasons c = λ view script told known reason s r. ap (λ asks. among_by asks reason s r) c.as_slice.ensures.keys ∙ known.asks reason s r

pub returns-clause-once : goal.returns-clause-once
returns-clause-once c = subst StandOnce (sym c.as_slice.ensures.keys) (each_once c.args.self.now.asks.keys c.as_slice.ensures.unique)
