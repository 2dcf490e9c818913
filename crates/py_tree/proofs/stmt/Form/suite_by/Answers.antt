use Rattle.std.proofs.Common.{◌≡◌, Option, None, Some, refl, rules, ap, sym, subst, ◌∙◌}
use Rattle.std.specs.Option.{option_or}
use Rattle.py_tree.specs.Descent.{RiseFrom, first_numbers, form_suites, suite_by}
use Rattle.py_tree.specs.Erasure.{form_of}
use Rattle.py_tree.proofs.StmtTrees.{form_trees, if_tree, try_tree}
use Rattle.py_tree.proofs.OwnersLeaves.{leaf_has_none}
use Rattle.py_tree.proofs.stmt.Form.suite_by.Goals as goal

-- no suite is left out: `option_or a b` where a is nothing, and where it is something
or_none : {X : Type 0} (a b c : Option X) → None ≡ a → c ≡ b → c ≡ option_or a b
or_none a b c none is = is ∙ ap (λ o. option_or o b) none

or_some : {X : Type 0} (x : X) (a b : Option X) → Some x ≡ a → Some x ≡ option_or a b
or_some x a b is = ap (λ o. option_or o b) is

pub returns-in-None : goal.returns-in-None
returns-in-None c = λ rise. or_none _ _ _ c.in-None.ensures (c.suite_by.ensures (subst (λ f. RiseFrom 0 (first_numbers (form_suites f))) (ap form_of c.in-If.is ∙ if_tree _ _) rise)) ∙ ap (suite_by c.args.s) (sym (ap form_of c.in-If.is ∙ if_tree _ _))

pub returns-in-Some : goal.returns-in-Some
returns-in-Some c = λ rise. or_some _ _ _ c.in-Some.ensures ∙ ap (suite_by c.args.s) (sym (ap form_of c.in-If.is ∙ if_tree _ _))

pub returns-in-While : goal.returns-in-While
returns-in-While c = λ rise. search (rules, form_trees)

pub returns-in-For : goal.returns-in-For
returns-in-For c = λ rise. search (rules, form_trees)

pub returns-in-None-suite_by : goal.returns-in-None-suite_by
returns-in-None-suite_by c = λ rise. or_none _ _ _ (c.in-None-suite_by.ensures (subst (λ f. RiseFrom 0 (first_numbers (form_suites f))) (ap form_of c.in-Try.is ∙ try_tree _ _) rise)) refl ∙ ap (suite_by c.args.s) (sym (ap form_of c.in-Try.is ∙ try_tree _ _))

pub returns-in-Some-suite_by : goal.returns-in-Some-suite_by
returns-in-Some-suite_by c = λ rise. or_some _ _ _ (c.in-Some-suite_by.ensures (subst (λ f. RiseFrom 0 (first_numbers (form_suites f))) (ap form_of c.in-Try.is ∙ try_tree _ _) rise)) ∙ ap (suite_by c.args.s) (sym (ap form_of c.in-Try.is ∙ try_tree _ _))

pub returns-in-With : goal.returns-in-With
returns-in-With c = λ rise. search (rules, form_trees)

pub returns-in-Def : goal.returns-in-Def
returns-in-Def c = λ rise. search (rules, form_trees)

pub returns-in-Class : goal.returns-in-Class
returns-in-Class c = λ rise. search (rules, form_trees)

pub returns-in_default : goal.returns-in_default
returns-in_default c = λ rise. leaf_has_none c.args.s c.args.self.now (record {
  not_if = c.in_default.not-If;
  not_while = c.in_default.not-While;
  not_for = c.in_default.not-For;
  not_try = c.in_default.not-Try;
  not_with = c.in_default.not-With;
  not_def = c.in_default.not-Def;
  not_class = c.in_default.not-Class;
})
