use Rattle.std.proofs.Common.{rules, sym, ◌∙◌, refl}
use Rattle.py_tree.proofs.StmtTrees.{import_tree}
use Rattle.py_grammar.proofs.WordRefusals.{import_found, import_other, import_refused, import_more}
use Rattle.py_grammar.proofs.simple.import.Goals as goal

-- src/simple.rt
pub returns-in_err-name-clause-refused : goal.returns-in_err-name-clause-refused
returns-in_err-name-clause-refused c = let is = import_refused c.args.cursor.now.rest.now _ c.in_err-name.ensures.refused in search (rules, is)

-- src/simple.rt
pub returns-then-not-is_module-clause-refused : goal.returns-then-not-is_module-clause-refused
returns-then-not-is_module-clause-refused c =
    import_other _ _ c.args.cursor.now.rest.now c.name.new.self.rest.now _ c.in_ok-name.ensures.taken (sym c.is_module.ensures ∙ c.if-not-is_module.true) refl

-- src/simple.rt
pub returns-in_err-end-clause-refused : goal.returns-in_err-end-clause-refused
returns-in_err-end-clause-refused c =
    let is = import_more _ _ c.args.cursor.now.rest.now c.name.new.self.rest.now _ c.in_ok-name.ensures.taken (sym c.is_module.ensures ∙ c.if-not-is_module.false) c.in_err-end.ensures.more in
    search (rules, is)

-- src/simple.rt
pub returns-clause-found : goal.returns-clause-found
returns-clause-found c =
    import_found _ _ c.args.cursor.now.rest.now c.name.new.self.rest.now _ c.in_ok-name.ensures.taken (sym c.is_module.ensures ∙ c.if-not-is_module.false) c.in_ok-end.ensures.ended (import_tree _)
