use Rattle.std.proofs.Common.{rules, ◌≡◌, false, not, ◌&&◌, ap, sym, ◌∙◌, refl}
use Rattle.std.proofs.lemmas.Bool.{not-true, not-false}
use Rattle.py_grammar.specs.WellPlaced.{Around, may_be_method}
use Rattle.py_grammar.proofs.NameHeads.{def_name_refused, def_no_method, def_params_refused, def_found, by_method, by_level}
use Rattle.py_grammar.proofs.openings.def_opening.Goals.{else-not-around-via-then-not-around+else-not-may_be_method, else-not-around-via-else-not-around}
use Rattle.py_grammar.proofs.openings.def_opening.Goals as goal

-- src/openings.rt
pub returns-in_err-name-clause-refused : goal.returns-in_err-name-clause-refused
returns-in_err-name-clause-refused c = λ context around. let is = def_name_refused context c.args.cursor.now.rest.now _ c.in_err-name.ensures.refused in search (rules, is)

-- src/openings.rt
pub returns-then-not-may_be_method-clause-refused : goal.returns-then-not-may_be_method-clause-refused
returns-then-not-may_be_method-clause-refused c = λ context around.
    def_no_method context _ _ c.args.cursor.now.rest.now _ _ c.in_ok-name.ensures.taken (ap (λ (a : Around). a.at_module_level) around ∙ not-true _ c.if-not-around.true) (sym c.may_be_method.ensures ∙ c.if-not-may_be_method.true) refl

-- src/openings.rt
pub returns-in_err-params-clause-refused : goal.returns-in_err-params-clause-refused
returns-in_err-params-clause-refused c = λ context around.
    let method : (not c.args.around.at_module_level && not (may_be_method c.in_ok-name.name)) ≡ false =
    elim c.else-not-around.branch [
      | else-not-around-via-then-not-around+else-not-may_be_method w ↦ by_method c.args.around.at_module_level _ (sym w.may_be_method.ensures ∙ w.if-not-may_be_method.false)
      | else-not-around-via-else-not-around w ↦ by_level _ (may_be_method c.in_ok-name.name) (not-false _ w.if-not-around.false)
    ] in
    let is = def_params_refused context _ _ c.args.cursor.now.rest.now _ _ c.in_ok-name.ensures.taken (ap (λ (a : Around). not a.at_module_level && not (may_be_method c.in_ok-name.name)) around ∙ method) c.in_err-params.ensures.refused in
    search (rules, is)

-- src/openings.rt
pub returns-clause-found : goal.returns-clause-found
returns-clause-found c = λ context around.
    let method : (not c.args.around.at_module_level && not (may_be_method c.in_ok-name.name)) ≡ false =
    elim c.else-not-around.branch [
      | else-not-around-via-then-not-around+else-not-may_be_method w ↦ by_method c.args.around.at_module_level _ (sym w.may_be_method.ensures ∙ w.if-not-may_be_method.false)
      | else-not-around-via-else-not-around w ↦ by_level _ (may_be_method c.in_ok-name.name) (not-false _ w.if-not-around.false)
    ] in
    def_found context _ _ (record { list = c.in_ok-params.params.list }) c.args.cursor.now.rest.now _ _ c.in_ok-name.ensures.taken c.in_ok-params.ensures.found
    (ap (λ (a : Around). not a.at_module_level && not (may_be_method c.in_ok-name.name)) around ∙ method)
