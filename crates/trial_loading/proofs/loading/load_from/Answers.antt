use Rattle.std.proofs.Common.{List, ℕ, Err, sym, subst}
use Rattle.py_tree.specs.Erasure.{script_of}
use Rattle.py_parser.specs.Reading.{HasScript, IsRefusedAt}
use Rattle.prov_outside.specs.Tells.{Tells}
use Rattle.trial_keeping.specs.declared.fault.TrialFault.{TrialFault}
use Rattle.trial_loading.specs.Stages.{LoadsFrom}
use Rattle.trial_loading.proofs.FromText.{refused_stops, made_trial, behind_found, behind_stops}
use Rattle.trial_loading.proofs.loading.load_from.Goals as goal

pub returns-in-Err-clause-loads : goal.returns-in-Err-clause-loads
returns-in-Err-clause-loads g c =
    subst (λ (fault : TrialFault). Tells (g.K.Keeper.told c.args.keeper.now) (g.K.Keeper.told c.args.keeper.now) (LoadsFrom c.args.number c.args.head c.args.text (Err fault))) (sym c.refusal_of.ensures)
    (refused_stops c.args.number c.args.head c.args.text c.in-Err.refusal (g.K.Keeper.told c.args.keeper.now)
    (λ at is. subst (λ (text : List ℕ). IsRefusedAt text at) c.as_slice.ensures (c.in-Err.ensures.refused at is)))

pub returns-in-Ok-read_behind-clause-loads : goal.returns-in-Ok-read_behind-clause-loads
returns-in-Ok-read_behind-clause-loads g c =
    behind_found c.args.number c.args.head c.args.text c.in-Ok.script c.in-Ok-read_behind.behind c.trial_of.result (g.K.Keeper.told c.args.keeper.now) (g.K.Keeper.told c.read_behind.new.keeper)
    c.trial_of.ensures (subst (λ (text : List ℕ). HasScript text (script_of c.in-Ok.script)) c.as_slice.ensures c.in-Ok.ensures.found) c.in-Ok-read_behind.ensures.finds

pub returns-in-Err-read_behind-clause-loads : goal.returns-in-Err-read_behind-clause-loads
returns-in-Err-read_behind-clause-loads g c =
    subst (λ (fault : TrialFault). Tells (g.K.Keeper.told c.args.keeper.now) (g.K.Keeper.told c.read_behind.new.keeper) (LoadsFrom c.args.number c.args.head c.args.text (Err fault))) (sym c.fault_of.ensures)
    (behind_stops c.args.number c.args.head c.args.text c.in-Ok.script c.in-Err-read_behind.fault (g.K.Keeper.told c.args.keeper.now) (g.K.Keeper.told c.read_behind.new.keeper)
    (subst (λ (text : List ℕ). HasScript text (script_of c.in-Ok.script)) c.as_slice.ensures c.in-Ok.ensures.found) c.in-Err-read_behind.ensures.finds)

pub returns-in-Ok-read_behind-clause-is_trial : goal.returns-in-Ok-read_behind-clause-is_trial
returns-in-Ok-read_behind-clause-is_trial g c =
    made_trial c.args.number c.args.head c.args.text c.in-Ok.script c.in-Ok-read_behind.behind c.trial_of.result c.trial_of.ensures
    (subst (λ (text : List ℕ). HasScript text (script_of c.in-Ok.script)) c.as_slice.ensures c.in-Ok.ensures.found) c.in-Ok-read_behind.ensures.stand
