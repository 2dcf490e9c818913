-- A trial has one dataflow.
use Rattle.std.proofs.Common.{◌≡◌, ℕ, List, sym, ap, subst, ◌∙◌}
use Rattle.py_tree.specs.Erasure.{script_of}
use Rattle.py_tree.specs.Tree.{ScriptTree}
use Rattle.py_model.specs.Moment.{Moment}
use Rattle.row_moments.specs.Moments.{moments_in}
use Rattle.trace_rows.specs.declared.row.Row.{Row}
use Rattle.trial_loading.specs.OneTrial.{AreSame}
use Rattle.trial_loading.specs.declared.trial.Trial.{Trial}
use Rattle.dep_query.specs.declared.dependence.Dependence.{Dependence}
use Rattle.dep_query.specs.Dataflows.{IsDataflow}
use Rattle.dep_query.specs.Dependences.{AreDependences}
use Rattle.dep_query.specs.Lines.{dataflow_lines}
use Rattle.dep_query.proofs.Order.{one_list}

-- a run has one list of dependences
pub same_list : (script : ScriptTree) (told : List Moment) (one other : List Dependence) → AreDependences script told one → AreDependences script told other → one ≡ other
same_list script told one other a b = one_list one other a.in_order b.in_order (λ d there. b.only d (a.each d there)) (λ d there. a.only d (b.each d there))

pub one_dataflow : (trial other : Trial) (text more : List ℕ) → AreSame trial other → IsDataflow trial text → IsDataflow other more → text ≡ more
one_dataflow trial other text more same a b =
    let there : AreDependences (script_of trial.script) (moments_in trial.rows) b.list =
    subst (λ (script : ScriptTree). AreDependences script (moments_in trial.rows) b.list) (sym same.script)
    (subst (λ (rows : List Row). AreDependences (script_of other.script) (moments_in rows) b.list) (sym same.rows) b.are) in
    a.text_is ∙ ap dataflow_lines (same_list (script_of trial.script) (moments_in trial.rows) a.list b.list a.are there) ∙ sym b.text_is
