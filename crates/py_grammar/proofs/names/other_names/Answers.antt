use Rattle.std.proofs.Common.{rules, List, subst, sym, ◌∙◌, refl}
use Rattle.py_grammar.specs.ParsedNames.{OthersFound}
use Rattle.py_lines.specs.declared.parts.Token.{Token}
use Rattle.py_grammar.proofs.NameLists.{others_init, others_next, others_found, others_given, others_name}
use Rattle.py_grammar.proofs.names.other_names.Goals as goal

-- src/names.rt
pub loop-list-init : goal.loop-list-init
loop-list-init c = others_init c.args.given.now c.args.cursor.now.rest.now _ c.new-list.ensures.items

-- src/names.rt
pub returns-in_err-name-clause-refused : goal.returns-in_err-name-clause-refused
returns-in_err-name-clause-refused c = let is = others_name c.args.given.now c.args.cursor.now.rest.now _ _ _ c.loop-list.invariant c.in_err-name.ensures.refused in search (rules, is)

-- src/names.rt
pub returns-then-contains-clause-refused : goal.returns-then-contains-clause-refused
returns-then-contains-clause-refused c = others_given c.args.given.now c.args.cursor.now.rest.now _ _ _ _ _ _ c.loop-list.invariant c.in_ok-name.ensures.taken (sym c.contains.ensures ∙ c.if-contains.true) refl

-- src/names.rt
pub loop-list-preserved : goal.loop-list-preserved
loop-list-preserved c =
    others_next c.args.given.now c.args.cursor.now.rest.now _ _ _ _ _ _ _ _ c.loop-list.invariant c.in_ok-name.ensures.taken (sym c.contains.ensures ∙ c.if-contains.false) c.in_ok-push.ensures.items c.in-Some.ensures.taken

-- src/names.rt
pub returns-in_default-clause-found : goal.returns-in_default-clause-found
returns-in_default-clause-found c =
    subst (λ (ts : List Token). OthersFound c.args.given.now c.args.cursor.now.rest.now c.push.new.self.items ts) (sym c.in_default.ensures.kept)
    (others_found c.args.given.now c.args.cursor.now.rest.now _ _ _ _ _ _ c.loop-list.invariant c.in_ok-name.ensures.taken (sym c.contains.ensures ∙ c.if-contains.false) c.in_ok-push.ensures.items c.in_default.ensures.absent)
