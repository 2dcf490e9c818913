use Rattle.std.proofs.Common.{Result, sym, subst}
use Rattle.prov_outside.specs.Tells.{Tells}
use Rattle.trial_tables.specs.declared.read_fault.ReadFault.{ReadFault}
use Rattle.trial_loading.specs.Answers.{Answers}
use Rattle.trial_loading.specs.declared.behind.Behind.{Behind}
use Rattle.trial_loading.specs.Loading.{IsDamagedBehind}
use Rattle.trial_loading.specs.Stages.{IsBehind}
use Rattle.trial_loading.proofs.BehindScript.{rest_stops, rows_join, rows_stand}
use Rattle.trial_loading.proofs.behind.read_behind.Goals as goal

pub returns-in-Err-clause-finds : goal.returns-in-Err-clause-finds
returns-in-Err-clause-finds g c =
    rest_stops c.args.number c.args.head.now c.args.statements c.in-Err.fault (g.K.Keeper.told c.args.keeper.now) (g.K.Keeper.told c.rest_of.new.keeper) c.in-Err.ensures.answers

pub returns-clause-finds : goal.returns-clause-finds
returns-clause-finds g c =
    subst (λ (result : Result Behind ReadFault). Tells (g.K.Keeper.told c.args.keeper.now) (g.K.Keeper.told c.rows_of-paged.new.keeper)
    (Answers (λ tables. IsBehind tables c.args.number c.args.head.now c.args.statements) (λ tables. IsDamagedBehind tables c.args.number c.args.head.now c.args.statements) result)) (sym c.behind_of.ensures)
    (rows_join c.args.number c.args.head.now c.args.statements c.in-Ok.rest c.rows_of-paged.result (g.K.Keeper.told c.args.keeper.now) (g.K.Keeper.told c.rest_of.new.keeper) (g.K.Keeper.told c.rows_of-paged.new.keeper)
    c.in-Ok.ensures.answers c.rows_of-paged.ensures.finds)

pub returns-clause-stand : goal.returns-clause-stand
returns-clause-stand g c = rows_stand c.args.statements c.in-Ok.rest c.rows_of-paged.result c.behind_of.result c.behind_of.ensures c.rows_of-paged.ensures.stand
