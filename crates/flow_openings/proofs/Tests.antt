-- The tests of statements mean what their rules mean.
use Rattle.std.proofs.Common.{◌≡◌, ℕ, Bool, true, false, zero, suc, List, [], ◌∷◌, map, slice_get, Some, None, Result, Ok, Err, refl, ap, sym, ◌∙◌}
use Rattle.std.specs.Prelude.{OnOk}
use Rattle.prov_base.specs.declared.place.Pos.{Pos}
use Rattle.py_tree.specs.Tree.{ExprTree, FormTree, TargetTree, BranchesTree, ElseTree, ScriptTree, do_form, assign_form, if_form, while_form, end_branches, more_branches}
use Rattle.py_tree.specs.Erasure.{expr_of, suite_of, branches_list}
use Rattle.py_tree.specs.declared.expr.Expr.{Expr}
use Rattle.py_tree.specs.declared.stmt.Suite.{Suite}
use Rattle.py_tree.specs.Tree.{SuiteTree}
use Rattle.py_value.specs.Contents.{Contents, truth}
use Rattle.py_model.specs.Act.{Act, ret, normal}
use Rattle.py_model.specs.Expressions.{Here, Task, by_truth, doing, op, eval}
use Rattle.py_tree.specs.Functions.{expr_place}
use Rattle.py_model.specs.Statements.{rule, choose, otherwise, suite}
use Rattle.interp_eval.specs.Machine.{is_true}
use Rattle.flow_frames.specs.Machine.{Stage, Part, part, valued, tested, then_act, from_test, branches_from, first_test, first_suite, others, test_act, answered, test_of, when_true, when_false}

pub on_more : {T E : Type 0} (r : Result T E) (P Q : Type 0) → (P → Q) → OnOk r P → OnOk r Q
on_more (Ok x) P Q more holds = more holds
on_more (Err e) P Q more holds = tt

module _ (script : ScriptTree) (next : Task → Act) (here : Here) (a : Act) (e : ExprTree) (p : Part) (at : Pos) (form : FormTree) where
  pub while_tested : (n : ℕ) (run : SuiteTree) → p ≡ part at form (tested n) → form ≡ while_form e run → a ≡ eval script next here e (then_act script next here p.at p.form p.stage) → a ≡ from_test script next here form n
  while_tested n run same is means =
      means ∙ ap (λ p. eval script next here e (then_act script next here p.at p.form p.stage)) (same ∙ ap (λ f. part at f (tested n)) is) ∙ ap (λ f. from_test script next here f n) (sym is)

abbrev pub branches_seen : List (Expr × Suite) → BranchesTree
branches_seen bs = branches_list (map (λ b. (b.0, suite_of b.1)) bs)

-- a branch by its number
pub branch_is : (bs : List (Expr × Suite)) (n : ℕ) (b : Expr × Suite) → slice_get bs n ≡ Some b
    → branches_from n (branches_seen bs) ≡ more_branches (expr_of b.0) (suite_of b.1) (branches_from (suc n) (branches_seen bs))
branch_is [] n b is = absurd cc
branch_is (c ∷ bs) zero b is = cc
branch_is (c ∷ bs) (suc n) b is = branch_is bs n b is

pub no_branch : (bs : List (Expr × Suite)) (n : ℕ) → slice_get bs n ≡ None → branches_from n (branches_seen bs) ≡ end_branches
no_branch [] zero is = refl
no_branch [] (suc n) is = refl
no_branch (c ∷ bs) zero is = absurd cc
no_branch (c ∷ bs) (suc n) is = no_branch bs n is

-- the test of a branch of an `if`
module _ (form : FormTree) (n : ℕ) (tree : BranchesTree) (other : ElseTree) (bs : List (Expr × Suite)) (is : form ≡ if_form tree other) (seen : tree ≡ branches_seen bs) where
  pub test_none : slice_get bs n ≡ None → test_of form n ≡ None
  test_none none = ap (λ f. test_of f n) is ∙ ap first_test (ap (branches_from n) seen ∙ no_branch bs n none)

  pub test_some : (b : Expr × Suite) → slice_get bs n ≡ Some b → test_of form n ≡ Some (expr_of b.0)
  test_some b some = ap (λ f. test_of f n) is ∙ ap first_test (ap (branches_from n) seen ∙ branch_is bs n b some)

-- the value of a test is asked
module _ (script : ScriptTree) (next : Task → Act) (here : Here) (a : Act) (at : Pos) (form : FormTree) (n : ℕ) (v : Contents) where
  pub no_test : test_of form n ≡ None → ret normal ≡ test_act script next here at form n (test_of form n) v
  no_test none = sym (ap (λ o. test_act script next here at form n o v) none)

  pub a_test : (e : ExprTree) (place : Pos) (p : Part) → test_of form n ≡ Some e → place ≡ expr_place e → p ≡ part at form (answered n)
      → a ≡ doing here place (op 3) (v ∷ []) (then_act script next here p.at p.form p.stage) → a ≡ test_act script next here at form n (test_of form n) v
  a_test e place p some stands same means =
      means ∙ ap (λ place. doing here place (op 3) (v ∷ []) (then_act script next here p.at p.form p.stage)) stands
      ∙ ap (λ p. doing here (expr_place e) (op 3) (v ∷ []) (then_act script next here p.at p.form p.stage)) same
      ∙ sym (ap (λ o. test_act script next here at form n o v) some)

module _ (script : ScriptTree) (next : Task → Act) (here : Here) (a : Act) (at : Pos) (form : FormTree) (n : ℕ) (tree : BranchesTree) (other : ElseTree) (bs : List (Expr × Suite)) (is : form ≡ if_form tree other) (seen : tree ≡ branches_seen bs) where
  pub if_none : slice_get bs n ≡ None → a ≡ otherwise script next here other → a ≡ from_test script next here form n
  if_none none means =
      means ∙ ap (λ t. choose script next here t (otherwise script next here other)) (sym (ap (branches_from n) seen ∙ no_branch bs n none)) ∙ ap (λ f. from_test script next here f n) (sym is)

  pub if_some : (b : Expr × Suite) (p : Part) → slice_get bs n ≡ Some b → p ≡ part at form (tested n) → a ≡ eval script next here (expr_of b.0) (then_act script next here p.at p.form p.stage)
      → a ≡ from_test script next here form n
  if_some b p some same means =
      let from = ap (branches_from n) seen ∙ branch_is bs n b some in
      means ∙ ap (λ p. eval script next here (expr_of b.0) (then_act script next here p.at p.form p.stage)) (same ∙ ap (λ f. part at f (tested n)) is)
      ∙ ap (λ o. eval script next here (expr_of b.0) (test_act script next here at (if_form tree other) n o)) (ap first_test from)
      ∙ ap (λ t. eval script next here (expr_of b.0) (λ v. doing here (expr_place (expr_of b.0)) (op 3) (v ∷ []) (by_truth (first_suite script next here t) (others script next here t (otherwise script next here other))))) from
      ∙ ap (λ t. choose script next here t (otherwise script next here other)) (sym from) ∙ ap (λ f. from_test script next here f n) (sym is)

  -- what an `if` does where that is true, and where it is not
  pub none_so : slice_get bs n ≡ None → ret normal ≡ when_true script next here form n
  none_so none = sym (ap (λ f. when_true script next here f n) is ∙ ap (first_suite script next here) (ap (branches_from n) seen ∙ no_branch bs n none))

  pub some_so : (b : Expr × Suite) → slice_get bs n ≡ Some b → a ≡ suite script next here (suite_of b.1) → a ≡ when_true script next here form n
  some_so b some means =
      means ∙ sym (ap (λ f. when_true script next here f n) is ∙ ap (first_suite script next here) (ap (branches_from n) seen ∙ branch_is bs n b some))

  pub none_not : slice_get bs n ≡ None → ret normal ≡ when_false script next here at form n
  none_not none =
      sym (ap (λ f. when_false script next here at f n) is
      ∙ ap (λ t. others script next here t (otherwise script next here other)) (ap (branches_from n) seen ∙ no_branch bs n none))

  pub some_not : (b : Expr × Suite) (m : ℕ) → m ≡ suc n → slice_get bs n ≡ Some b → from_test script next here form m ≡ when_false script next here at form n
  some_not b m next_one some =
      ap (from_test script next here form) next_one ∙ ap (λ f. from_test script next here f (suc n)) is
      ∙ ap (λ t. choose script next here t (otherwise script next here other)) (ap (branches_from (suc n)) seen)
      ∙ sym (ap (λ f. when_false script next here at f n) is ∙ ap (λ t. others script next here t (otherwise script next here other)) (ap (branches_from n) seen ∙ branch_is bs n b some))

truth_same : (one other : Act) (v : Contents) → by_truth one other v ≡ by_truth one other (truth (is_true v))
truth_same one other (truth true) = refl
truth_same one other (truth false) = refl
truth_same one other v = refl

-- an answer that is True, and one that is not
pub by_so : (one other : Act) (v : Contents) (b : Bool) → b ≡ is_true v → b ≡ true → by_truth one other v ≡ one
by_so one other v b same is = truth_same one other v ∙ ap (λ b. by_truth one other (truth b)) (sym same ∙ is)

pub by_not : (one other : Act) (v : Contents) (b : Bool) → b ≡ is_true v → b ≡ false → by_truth one other v ≡ other
by_not one other v b same is = truth_same one other v ∙ ap (λ b. by_truth one other (truth b)) (sym same ∙ is)
