-- What follows a value means what its stage means.
use Rattle.std.proofs.Common.{◌≡◌, ℕ, suc, ◌+◌, refl, ap, sym, arith, ◌∙◌}
use Rattle.prov_base.specs.declared.place.Pos.{Pos}
use Rattle.py_tree.specs.declared.expr.BinOp.{BinOp}
use Rattle.py_tree.specs.Tree.{ExprTree, FormTree, TargetTree, SuiteTree, ScriptTree, var_target, part_target, field_target, many_target, aug_form, del_form, for_form}
use Rattle.py_value.specs.Contents.{Contents}
use Rattle.py_model.specs.Act.{Act, How}
use Rattle.py_model.specs.Expressions.{Here, Task}
use Rattle.py_model.specs.Statements.{task, turned}
use Rattle.flow_frames.specs.Machine.{Stage, Part, part, change_in, then_act, turn_act, turn_ended}
use Rattle.flow_targets.specs.Changing.{augmenting}
use Rattle.flow_openings.specs.Opening.{deleting, plain_rule}

-- an act that goes on with what follows a part
pub follows_as : (script : ScriptTree) (next : Task → Act) (here : Here) (a : Act) (K : (Contents → Act) → Act) (G : FormTree → Act) (p : Part) (at : Pos) (form tree : FormTree) (stage : Stage)
    → p ≡ part at form stage → form ≡ tree → K (then_act script next here at tree stage) ≡ G tree → a ≡ K (then_act script next here p.at p.form p.stage) → a ≡ G form
follows_as script next here a K G p at form tree stage same is opens means =
    means ∙ ap (λ p. K (then_act script next here p.at p.form p.stage)) (same ∙ ap (λ f. part at f stage) is) ∙ opens ∙ ap G (sym is)

module _ (script : ScriptTree) (next : Task → Act) (here : Here) (at : Pos) (form : FormTree) where
  deletes : (target : TargetTree) → deleting script next here at (del_form target) target ≡ plain_rule script next here at (del_form target)
  deletes (var_target place name) = refl
  deletes (part_target place e i) = refl
  deletes (field_target place e name) = refl
  deletes (many_target targets) = refl

  pub deletes_so : (target : TargetTree) → form ≡ del_form target → deleting script next here at form target ≡ plain_rule script next here at form
  deletes_so target is = ap (λ f. deleting script next here at f target) is ∙ deletes target ∙ sym (ap (plain_rule script next here at) is)

  pub turns_again : (target : TargetTree) (e : ExprTree) (run : SuiteTree) (items size : Contents) (n after : ℕ) (how : How) → after ≡ n + 1 → form ≡ for_form target e run
      → turned (turn_act script next here at form items after size) how ≡ turn_ended script next (task script next) here at form items n size how
  turns_again target e run items size n after how next_one is =
      let behind : after ≡ suc n = omega (arith, next_one) in
      ap (λ m. turned (turn_act script next here at form items m size) how) behind
      ∙ ap (λ f. turned (turn_act script next here at f items (suc n) size) how) is
      ∙ sym (ap (λ f. turn_ended script next (task script next) here at f items n size how) is)

  pub changes_so : (target : TargetTree) (sign : BinOp) (place : Pos) (e : ExprTree) → form ≡ aug_form target sign place e → augmenting script next here (change_in form) ≡ plain_rule script next here at form
  changes_so target sign place e is = ap (λ f. augmenting script next here (change_in f)) is ∙ sym (ap (plain_rule script next here at) is)
