use Rattle.std.proofs.Common.{sym, subst}
use Rattle.object_store.specs.Keyed.{IsKeyed}
use Rattle.model_laws.proofs.KeyedRuns.{run_keyed, keyed_entries}
use Rattle.model_laws.proofs.key_laws.runs_keep_keys_with_entries.Goals as goal

pub returns-clause-keyed : goal.returns-clause-keyed
returns-clause-keyed c = run_keyed c.operations_suit.ensures.keyed c.map_changes_by_accesses.ensures c.keys_have_entries.ensures.plain

pub returns-clause-entries : goal.returns-clause-entries
returns-clause-entries c = λ script capture path arguments steps after upto store o is same. keyed_entries store o
    (subst IsKeyed (sym same) (run_keyed c.operations_suit.ensures.keyed c.map_changes_by_accesses.ensures c.keys_have_entries.ensures.plain script capture path arguments steps after upto is))
