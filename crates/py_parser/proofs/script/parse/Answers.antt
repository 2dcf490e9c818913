use Rattle.std.proofs.Common.{List, refl, ap, sym, ◌∙◌, subst}
use Rattle.py_lines.specs.declared.parts.Line.{Line}
use Rattle.py_parser.specs.declared.fault.ParseFault.TheVariants.{BadIndent}
use Rattle.py_parser.specs.Faults.{origin, first_place, FirstFault, IsFault}
use Rattle.py_parser.proofs.CycleParts.{no_first, some_first}
use Rattle.py_parser.proofs.Parsing.{read_script_there, empty_script_is, stopped_there, indented_first, only_memory, numbered_script, formed_script}
use Rattle.py_parser.proofs.script.parse.Goals as goal

-- src/script.rt
pub returns-in_default-clause-found : goal.returns-in_default-clause-found
returns-in_default-clause-found c = empty_script_is c.args.lines.now c.as_slice-lines.result.now c.new.result c.as_slice-lines.ensures (no_first _ c.in_default.ensures.value) c.new.ensures.items

-- src/script.rt
pub returns-in_default-clause-numbered : goal.returns-in_default-clause-numbered
returns-in_default-clause-numbered c =
    numbered_script c.args.lines.now _ (empty_script_is c.args.lines.now c.as_slice-lines.result.now c.new.result c.as_slice-lines.ensures (no_first _ c.in_default.ensures.value) c.new.ensures.items)

-- src/script.rt
pub returns-in_default-clause-well_formed : goal.returns-in_default-clause-well_formed
returns-in_default-clause-well_formed c text has =
    formed_script text c.args.lines.now _ has (empty_script_is c.args.lines.now c.as_slice-lines.result.now c.new.result c.as_slice-lines.ensures (no_first _ c.in_default.ensures.value) c.new.ensures.items)

-- src/script.rt
pub returns-then-first-ne0-clause-refused : goal.returns-then-first-ne0-clause-refused
returns-then-first-ne0-clause-refused c =
    let there = some_first c.as_slice-lines.result.now c.in-Some.first.now c.in-Some.ensures.value in
    subst (λ at. FirstFault c.args.lines.now (BadIndent at)) (sym (c.first_of-at.ensures ∙ ap (first_place origin) c.as_slice.ensures))
    (indented_first c.in-Some.first.now there.0 c.args.lines.now (sym c.as_slice-lines.ensures ∙ there.1) c.if-first-ne0.true)

-- src/script.rt
pub told-requires : goal.told-requires
told-requires c = stopped_there c.as_slice-lines.result.now c.as_slice-lines.result.now _ _ _ refl c.new-2.ensures.items c.module.ensures (rw c.none-given.ensures at c.in-Err.ensures.refused)

-- src/script.rt
pub returns-in-Err-clause-complete : goal.returns-in-Err-clause-complete
returns-in-Err-clause-complete c tree s = only_memory c.args.lines.now _ tree (subst (λ (ls : List Line). IsFault ls c.told.result) c.as_slice-lines.ensures c.told.ensures) s

-- src/script.rt
pub returns-in-Err-clause-refused : goal.returns-in-Err-clause-refused
returns-in-Err-clause-refused c = subst (λ (ls : List Line). IsFault ls c.told.result) c.as_slice-lines.ensures c.told.ensures

-- src/script.rt
pub returns-clause-found : goal.returns-clause-found
returns-clause-found c =
    read_script_there c.args.lines.now c.as_slice-lines.result.now _ _ c.in-Ok.built c.rows.new.self.count origin _ c.as_slice-lines.ensures c.module.ensures (rw c.none-given.ensures at c.in-Ok.ensures.found)

-- src/script.rt
pub returns-clause-numbered : goal.returns-clause-numbered
returns-clause-numbered c =
    numbered_script c.args.lines.now _
    (read_script_there c.args.lines.now c.as_slice-lines.result.now _ _ c.in-Ok.built c.rows.new.self.count origin _ c.as_slice-lines.ensures c.module.ensures (rw c.none-given.ensures at c.in-Ok.ensures.found))

-- src/script.rt
pub returns-clause-well_formed : goal.returns-clause-well_formed
returns-clause-well_formed c text has =
    formed_script text c.args.lines.now _ has
    (read_script_there c.args.lines.now c.as_slice-lines.result.now _ _ c.in-Ok.built c.rows.new.self.count origin _ c.as_slice-lines.ensures c.module.ensures (rw c.none-given.ensures at c.in-Ok.ensures.found))
