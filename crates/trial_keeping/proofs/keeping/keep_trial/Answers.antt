use Rattle.std.proofs.Common.{◌≡◌, Err, map, sym, ◌∙◌, subst, rules}
use Rattle.prov_outside.specs.Tells.{Tells}
use Rattle.trial_keeping.specs.Keeping.{KeepsTrial, StopLeaves}
use Rattle.trial_keeping.specs.Trial.{Run, contents_of, head_of}
use Rattle.trial_keeping.specs.declared.fault.TrialFault.{TrialFault}
use Rattle.trial_keeping.proofs.Joining.{kept_ok, kept_err, stops_err}
use Rattle.trial_keeping.proofs.keeping.keep_trial.Goals as goal

pub returns-in-Ok-keep-clause-keeps : goal.returns-in-Ok-keep-clause-keeps
returns-in-Ok-keep-clause-keeps g c =
    let run : Run = record { text = c.args.text.now; path = c.args.path.now; arguments = c.args.arguments.now; budget = c.args.budget; ended = c.args.ended.now; pages = c.args.pages.now; times = c.args.times } in
    let contents_are : map (λ bytes. bytes.now) c.as_slice.result.now ≡ contents_of run = search rules in
    let head_is : c.in-Ok-head_of.head ≡ head_of run c.in-Ok.parent = search rules in
    kept_ok run c.in-Ok.parent _ _ contents_are head_is c.in-Ok-keep.number _ _ _ _ (c.parent_for.ensures.batch ∙ c.requires.batch) c.in-Ok.ensures.answers c.parent_for.ensures.kept c.in-Ok-keep.ensures.keeps c.in-Ok-keep.ensures.number

pub returns-clause-keeps : goal.returns-clause-keeps
returns-clause-keeps g c =
    let run : Run = record { text = c.args.text.now; path = c.args.path.now; arguments = c.args.arguments.now; budget = c.args.budget; ended = c.args.ended.now; pages = c.args.pages.now; times = c.args.times } in
    let contents_are : map (λ bytes. bytes.now) c.as_slice.result.now ≡ contents_of run = search rules in
    let head_is : c.in-Ok-head_of.head ≡ head_of run c.in-Ok.parent = search rules in
    subst (λ (fault : TrialFault). Tells (g.K.Keeper.told c.args.keeper.now) (g.K.Keeper.told c.keep.new.keeper) (KeepsTrial run (Err fault))) (sym c.from.ensures)
    (kept_err run c.in-Ok.parent _ _ contents_are head_is c.in-Err-keep.fault _ _ _ _ (c.parent_for.ensures.batch ∙ c.requires.batch) c.in-Ok.ensures.answers c.parent_for.ensures.kept c.in-Err-keep.ensures.keeps)

pub returns-clause-stops : goal.returns-clause-stops
returns-clause-stops g c =
    let run : Run = record { text = c.args.text.now; path = c.args.path.now; arguments = c.args.arguments.now; budget = c.args.budget; ended = c.args.ended.now; pages = c.args.pages.now; times = c.args.times } in
    let contents_are : map (λ bytes. bytes.now) c.as_slice.result.now ≡ contents_of run = search rules in
    let head_is : c.in-Ok-head_of.head ≡ head_of run c.in-Ok.parent = search rules in
    subst (λ (fault : TrialFault). Tells (g.K.Keeper.told c.args.keeper.now) (g.K.Keeper.told c.keep.new.keeper) (StopLeaves run (Err fault) (g.K.Keeper.may_leave c.args.keeper.now) (g.K.Keeper.may_leave c.keep.new.keeper))) (sym c.from.ensures)
    (stops_err run c.in-Ok.parent _ _ contents_are head_is c.in-Err-keep.fault _ _ _ _ _ _ _ (c.parent_for.ensures.batch ∙ c.requires.batch) c.in-Ok.ensures.answers c.parent_for.ensures.stops c.parent_for.ensures.kept c.in-Err-keep.ensures.stops)
