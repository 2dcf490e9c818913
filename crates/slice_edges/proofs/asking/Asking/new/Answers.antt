use Rattle.std.proofs.Common.{ap, sym, subst, arith}
use Rattle.std.proofs.lemmas.Bool.{false≢true}
use Rattle.slice_law.specs.Closed.{has}
use Rattle.slice_edges.specs.Asks.{among_by}
use Rattle.slice_edges.specs.Binder.{AreBinders}
use Rattle.slice_edges.specs.Counts.{AreCounted}
use Rattle.slice_edges.specs.Writers.{is_noted, noted_at}
use Rattle.slice_edges.proofs.asking.Asking.new.Goals as goal

pub returns : goal.returns
returns c = λ view script. record {
  frames = c.new.ensures;
  reached = λ l named. ap (λ entries. is_noted entries l) c.new-2.ensures.empty;
  writers = λ l named s. ap (λ entries. has s (noted_at entries l)) c.new-2.ensures.empty;
  right = record {
    binders = subst (AreBinders script view.texts) (sym c.new-4.ensures.empty) (λ local binder is. absurd cc);
    counted = subst (AreCounted c.new-3.result.keys c.new-2.result.entries) (sym c.new-5.ensures.empty) (λ l asker. (omega arith, λ r there. absurd (false≢true there)));
  };
  asks = λ reason s r. ap (λ keys. among_by keys reason s r) c.new-3.ensures.empty;
}
