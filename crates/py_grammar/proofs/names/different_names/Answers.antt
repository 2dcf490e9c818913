use Rattle.std.proofs.Common.{rules, List, subst, sym, ◌∙◌, refl}
use Rattle.py_lines.specs.declared.parts.Token.{Token}
use Rattle.py_grammar.specs.ParsedNames.{DifferentFound}
use Rattle.py_grammar.proofs.NameSetLemmas.{agrees_init, agrees_next}
use Rattle.py_grammar.proofs.NameLists.{different_init, different_next, different_last, different_end, different_repeated, different_name}
use Rattle.py_grammar.proofs.names.different_names.Goals as goal

-- src/names.rt
pub loop-alloc-init : goal.loop-alloc-init
loop-alloc-init c = (different_init c.args.cursor.now.rest.now _ c.new-list.ensures.items, agrees_init _ _ c.new-seen.ensures c.new-list.ensures.items)

-- src/names.rt
pub returns-in_err-name-clause-refused : goal.returns-in_err-name-clause-refused
returns-in_err-name-clause-refused c = let is = different_name c.args.cursor.now.rest.now _ _ (sym c.at_name.ensures ∙ c.loop-alloc-test.true) c.in_err-name.ensures.refused in search (rules, is)

-- src/names.rt
pub returns-then-contains-clause-refused : goal.returns-then-contains-clause-refused
returns-then-contains-clause-refused c = different_repeated c.args.cursor.now.rest.now _ _ _ _ _ _ c.loop-alloc.invariant.0 c.in_ok-name.ensures.taken (sym (c.loop-alloc.invariant.1.alike c.in_ok-name.name) ∙ sym c.contains.ensures ∙ c.if-contains.true) refl

-- src/names.rt
pub loop-alloc-preserved : goal.loop-alloc-preserved
loop-alloc-preserved c = (
  different_next c.args.cursor.now.rest.now _ _ _ _ _ _ _ _ c.loop-alloc.invariant.0 c.in_ok-name.ensures.taken (sym (c.loop-alloc.invariant.1.alike c.in_ok-name.name) ∙ sym c.contains.ensures ∙ c.if-contains.false) c.in_ok-push.ensures.items c.in-Some.ensures.taken,
  agrees_next _ _ _ _ _ c.loop-alloc.invariant.1 c.in_ok-add.ensures c.in_ok-push.ensures.items,
)

-- src/names.rt
pub returns-in_default-clause-found : goal.returns-in_default-clause-found
returns-in_default-clause-found c =
    subst (λ (ts : List Token). DifferentFound c.args.cursor.now.rest.now c.push.new.self.items ts) (sym c.in_default.ensures.kept)
    (different_last c.args.cursor.now.rest.now _ _ _ _ _ _ c.loop-alloc.invariant.0 c.in_ok-name.ensures.taken (sym (c.loop-alloc.invariant.1.alike c.in_ok-name.name) ∙ sym c.contains.ensures ∙ c.if-contains.false) c.in_ok-push.ensures.items c.in_default.ensures.absent)

-- src/names.rt
pub returns-clause-found : goal.returns-clause-found
returns-clause-found c = different_end c.args.cursor.now.rest.now _ _ c.loop-alloc.invariant.0 (sym c.at_name.ensures ∙ c.loop-alloc-test.false)
