use Rattle.std.proofs.Common.{◌≡◌, ap, subst, ◌∙◌, rules}
use Rattle.py_tree.specs.Erasure.{script_of}
use Rattle.row_moments.specs.Moments.{moments_in}
use Rattle.dep_query.specs.Dependences.{AreDependences}
use Rattle.dep_query.specs.Lines.{dataflow_lines}
use Rattle.dep_query.proofs.answering.dataflow.Goals as goal

pub returns : goal.returns
returns c =
    let rows : c.as_slice.result.now ≡ c.args.trial.now.rows = search rules in
    let items : c.as_slice-2.result.now ≡ c.in_ok-list.list.items = search rules in
    record {
      list = c.in_ok-list.list.items;
      are = subst (λ these. AreDependences (script_of c.args.trial.now.script) (moments_in these) c.in_ok-list.list.items) rows c.in_ok-list.ensures;
      text_is = c.in_ok-text.ensures ∙ ap dataflow_lines items;
    }
