use Rattle.std.proofs.Common.{rules, is_some, ap}
use Rattle.py_grammar.proofs.ForTargets.{first_refused, first_full, others_refused, one_found, one_is_target, several_found, all_form, row_is_first, row_height, target_kept}
use Rattle.py_grammar.proofs.names.for_target.Goals as goal

-- src/names.rt
pub returns-in_err-first-clause-refused : goal.returns-in_err-first-clause-refused
returns-in_err-first-clause-refused c = let is = first_refused c.args.cursor.now.rest.now _ c.in_err-first.ensures.refused in search (rules, is)

-- src/names.rt
pub one_target-requires : goal.one_target-requires
one_target-requires c = record { form = one_is_target _ _ _ _ c.in_ok-first.ensures.found }

-- src/names.rt
pub returns-in_default-clause-found : goal.returns-in_default-clause-found
returns-in_default-clause-found c = rw c.in_ok-target.ensures.ok (target_kept c.args.cursor.now.rest.now _ _ _ c.in_default.ensures.kept (one_found _ _ _ _ c.in_ok-first.ensures.found c.in_default.ensures.absent c.one_target.ensures))

-- src/names.rt
pub returns-in_err-goes_above-clause-refused : goal.returns-in_err-goes_above-clause-refused
returns-in_err-goes_above-clause-refused c = let is = first_full c.args.cursor.now.rest.now _ _ _ _ _ c.in_ok-first.ensures.found c.in-Some.ensures.taken c.in_err-goes_above.ensures.deep in search (rules, is)

-- src/names.rt
pub returns-in_err-row-clause-refused : goal.returns-in_err-row-clause-refused
returns-in_err-row-clause-refused c = let is = others_refused c.args.cursor.now.rest.now _ _ _ _ _ c.in_ok-first.ensures.found c.in-Some.ensures.taken c.in_ok-goes_above.ensures.fits c.in_err-row.ensures.refused in search (rules, is)

-- src/names.rt
pub target_of-requires : goal.target_of-requires
target_of-requires c = record {
  form = ap is_some (all_form _ _ _ _ _ c.in_ok-first.first c.in_ok-part.part c.push.new.self c.in_ok-row.row c.in_ok-first.ensures.found (row_is_first c.new-row.result c.push.new.self c.in_ok-first.first c.new-row.ensures.empty c.in_ok-push.ensures.list) c.in_ok-row.ensures.found c.in_ok-part.ensures.tree);
}

-- src/names.rt
pub returns-clause-found : goal.returns-clause-found
returns-clause-found c = rw c.in_ok-target-2.ensures.ok
    (several_found c.args.cursor.now.rest.now _ _ _ _ _ c.in_ok-first.first c.in_ok-part.part c.push.new.self c.in_ok-row.row _ c.in_ok-first.ensures.found c.in-Some.ensures.taken c.in_ok-goes_above.ensures.fits (row_is_first c.new-row.result c.push.new.self c.in_ok-first.first c.new-row.ensures.empty c.in_ok-push.ensures.list)
    (row_height c.new-row.result c.push.new.self c.in_ok-first.first c.new-row.ensures.height c.in_ok-push.ensures.height) c.in_ok-row.ensures.found c.in_ok-part.ensures.tree c.in_ok-found.ensures)
