use Rattle.std.proofs.Common.{◌∙◌, refl, sym, ap, subst, map, ◌++◌, List, ℕ}
use Rattle.std.proofs.lemmas.List.{map-append}
use Rattle.py_model.specs.Arithmetic.{added}
use Rattle.py_model.specs.Making.{new_list}
use Rattle.py_model.specs.Plan.{Plan}
use Rattle.py_model.specs.Walks.{walk}
use Rattle.py_value.specs.Contents.{Contents, contents, object}
use Rattle.py_value.specs.Values.{ValuesView, AreNamed}
use Rattle.py_value.specs.declared.value.Value.{Value}
use Rattle.op_lists.specs.ValuesSeen.{values_seen}
use Rattle.op_lists.proofs.NamedValues.{all_named_stay}
use Rattle.op_work.specs.Work.{Ends}
use Rattle.op_work.proofs.Ending.{ends_then, ends_stop}
use Rattle.op_work.proofs.Going.{passes_err}
use Rattle.op_joins.proofs.AddingPlans.{both_named}
use Rattle.op_joins.proofs.adding.join_lists.Goals as goal

abbrev third : List Value → ValuesView → List Contents → Plan
third lefts table rights = new_list (values_seen table lefts ++ rights)

abbrev second : ℕ → ValuesView → List Contents → Plan
second p table lefts = walk (object p) (λ rights. new_list (lefts ++ rights))

abbrev first : ℕ → ℕ → ValuesView → Unit {0} → Plan
first o p table x = walk (object o) (second p table)

pub returns-in_err-two_lists : goal.returns-in_err-two_lists
returns-in_err-two_lists c = passes_err (λ result. Ends (λ table. added (object c.args.o) (object c.args.p)) c.args.work.now c.two_lists.new.work result) c.from_residual.result c.from_residual.ensures.1
    (ends_stop (first c.args.o c.args.p) _ c.in_err-two_lists.ensures)

pub returns-in_err-lefts : goal.returns-in_err-lefts
returns-in_err-lefts c = passes_err (λ result. Ends (λ table. added (object c.args.o) (object c.args.p)) c.args.work.now c.walk_value.new.work result) c.from_residual-in_err-lefts.result c.from_residual-in_err-lefts.ensures.1
    (ends_then (first c.args.o c.args.p) c.in_ok-two_lists.ensures (λ table interned extends. refl)
    (ends_stop (second c.args.p) _ c.in_err-lefts.ensures))

pub returns-in_err-rights : goal.returns-in_err-rights
returns-in_err-rights c = passes_err (λ result. Ends (λ table. added (object c.args.o) (object c.args.p)) c.args.work.now c.walk_value-2.new.work result) c.from_residual-in_err-rights.result c.from_residual-in_err-rights.ensures.1
    (ends_then (first c.args.o c.args.p) c.in_ok-two_lists.ensures (λ table interned extends. refl)
    (ends_then (second c.args.p) c.in_ok-lefts.ensures (λ table interned extends. refl)
    (ends_stop (third c.in_ok-lefts.lefts.items) _ c.in_err-rights.ensures)))

pub new_list-requires-clause-named : goal.new_list-requires-clause-named
new_list-requires-clause-named c =
    let later = c.walk_value-2.new.work.values in
    let items = c.in_ok-items.ensures ∙ (ap (λ l. l ++ c.as_slice-2.result.now) c.as_slice.ensures.value ∙ ap (λ l. c.in_ok-lefts.lefts.items ++ l) c.as_slice-2.ensures.value) in
    subst (AreNamed later) (sym (c.as_slice-3.ensures.value ∙ items))
    (both_named later c.in_ok-lefts.lefts.items c.in_ok-rights.rights.items
    (all_named_stay c.walk_value.new.work.values later c.walk_value-2.ensures.kept.extends.few c.in_ok-lefts.lefts.items c.in_ok-lefts.ensures.is_named) c.in_ok-rights.ensures.is_named)

pub returns : goal.returns
returns c =
    let items = c.in_ok-items.ensures ∙ (ap (λ l. l ++ c.as_slice-2.result.now) c.as_slice.ensures.value ∙ ap (λ l. c.in_ok-lefts.lefts.items ++ l) c.as_slice-2.ensures.value) in
    ends_then (first c.args.o c.args.p) c.in_ok-two_lists.ensures (λ table interned extends. refl)
    (ends_then (second c.args.p) c.in_ok-lefts.ensures (λ table interned extends. refl)
    (ends_then (third c.in_ok-lefts.lefts.items) c.in_ok-rights.ensures
    (λ table interned extends. ap new_list (sym (map-append (contents table) c.in_ok-lefts.lefts.items c.in_ok-rights.rights.items)) ∙ ap (λ vs. new_list (map (contents table) vs)) (sym (c.as_slice-3.ensures.value ∙ items)))
    c.new_list.ensures))
