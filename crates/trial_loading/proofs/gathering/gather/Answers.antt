use Rattle.std.proofs.Common.{◌≡◌, ◌++◌, ◌∷◌, [], ◌+◌, List, ℕ, Some, Ok, sym, subst, ◌∙◌, arith, rules}
use Rattle.prov_outside.specs.Tells.{Tells}
use Rattle.trial_loading.specs.Answers.{Answers}
use Rattle.trial_loading.specs.Gathering.{IsGathered}
use Rattle.trial_loading.proofs.Readings.{Fronts, fronts_more, fronts_fault, fronts_all, leaves_then}
use Rattle.trial_loading.proofs.gathering.gather.Goals as goal

pub returns-in-Err-clause-stops : goal.returns-in-Err-clause-stops
returns-in-Err-clause-stops g c =
    leaves_then (g.K.Keeper.told c.args.keeper.now) (g.K.Keeper.told c.loop-number.keeper) (g.K.Keeper.told c.next_page.new.keeper)
    (g.K.Keeper.may_leave c.args.keeper.now) (g.K.Keeper.may_leave c.loop-number.keeper) (g.K.Keeper.may_leave c.next_page.new.keeper)
    c.loop-number.invariant.stops c.next_page.ensures.stops

pub returns-in-Err-Damaged-clause-stops : goal.returns-in-Err-Damaged-clause-stops
returns-in-Err-Damaged-clause-stops g c =
    leaves_then (g.K.Keeper.told c.args.keeper.now) (g.K.Keeper.told c.loop-number.keeper) (g.K.Keeper.told c.next_page.new.keeper)
    (g.K.Keeper.may_leave c.args.keeper.now) (g.K.Keeper.may_leave c.loop-number.keeper) (g.K.Keeper.may_leave c.next_page.new.keeper)
    c.loop-number.invariant.stops c.next_page.ensures.stops

pub returns-in-Err-Keeper-clause-stops : goal.returns-in-Err-Keeper-clause-stops
returns-in-Err-Keeper-clause-stops g c =
    leaves_then (g.K.Keeper.told c.args.keeper.now) (g.K.Keeper.told c.loop-number.keeper) (g.K.Keeper.told c.next_page.new.keeper)
    (g.K.Keeper.may_leave c.args.keeper.now) (g.K.Keeper.may_leave c.loop-number.keeper) (g.K.Keeper.may_leave c.next_page.new.keeper)
    c.loop-number.invariant.stops c.next_page.ensures.stops

pub returns-in-Err-Memory-clause-stops : goal.returns-in-Err-Memory-clause-stops
returns-in-Err-Memory-clause-stops g c =
    leaves_then (g.K.Keeper.told c.args.keeper.now) (g.K.Keeper.told c.loop-number.keeper) (g.K.Keeper.told c.next_page.new.keeper)
    (g.K.Keeper.may_leave c.args.keeper.now) (g.K.Keeper.may_leave c.loop-number.keeper) (g.K.Keeper.may_leave c.next_page.new.keeper)
    c.loop-number.invariant.stops c.next_page.ensures.stops

pub returns-in-Err-Damaged-clause-finds : goal.returns-in-Err-Damaged-clause-finds
returns-in-Err-Damaged-clause-finds g c =
    subst (λ damage. Tells (g.K.Keeper.told c.args.keeper.now) (g.K.Keeper.told c.next_page.new.keeper) (Answers (λ tables. IsGathered tables c.args.trial c.args.pages) (λ _ _. ⊥)
    (Ok (record c.loop-number.gathered { ended = Some damage }))))
    (sym c.in-Err-Damaged.damage-is)
    (fronts_fault (g.K.Keeper.told c.args.keeper.now) (g.K.Keeper.told c.loop-number.keeper) (g.K.Keeper.told c.next_page.new.keeper) c.args.trial c.args.pages c.loop-number.number
    c.loop-number.gathered c.in-Err-Damaged.field-0 c.in-Err-Damaged.damage c.in-Err-Damaged.field-0-is (omega (arith, c.loop-number-test.true)) c.loop-number.invariant.reads c.in-Err-Damaged.ensures.finds)

pub loop-number-preserved : goal.loop-number-preserved
loop-number-preserved g c =
    let more = fronts_more (g.K.Keeper.told c.args.keeper.now) (g.K.Keeper.told c.loop-number.keeper) (g.K.Keeper.told c.next_page.new.keeper) c.args.trial c.loop-number.number
    c.loop-number.gathered.bytes.items c.loop-number.gathered.cuts.items c.in-Ok.page c.loop-number.invariant.reads c.in-Ok.ensures.finds in
    let bytes : c.add.new.self.bytes.items ≡ c.loop-number.gathered.bytes.items ++ c.in-Ok.page.bytes = search rules in
    let cuts : c.add.new.self.cuts.items ≡ c.loop-number.gathered.cuts.items ++ c.in-Ok.page.count ∷ [] = search rules in
    record {
      reads = subst (λ (l : List ℕ). Tells (g.K.Keeper.told c.args.keeper.now) (g.K.Keeper.told c.next_page.new.keeper) (Fronts c.args.trial (c.loop-number.number + 1) c.add.new.self.bytes.items l)) (sym cuts)
          (subst (λ (l : List ℕ). Tells (g.K.Keeper.told c.args.keeper.now) (g.K.Keeper.told c.next_page.new.keeper)
          (Fronts c.args.trial (c.loop-number.number + 1) l (c.loop-number.gathered.cuts.items ++ c.in-Ok.page.count ∷ []))) (sym bytes) more);
      goes_on = c.add.ensures.ended ∙ c.loop-number.invariant.goes_on;
      kept = c.next_page.ensures.kept;
      stops = leaves_then (g.K.Keeper.told c.args.keeper.now) (g.K.Keeper.told c.loop-number.keeper) (g.K.Keeper.told c.next_page.new.keeper)
          (g.K.Keeper.may_leave c.args.keeper.now) (g.K.Keeper.may_leave c.loop-number.keeper) (g.K.Keeper.may_leave c.next_page.new.keeper)
          c.loop-number.invariant.stops c.next_page.ensures.stops;
      batch = c.next_page.ensures.batch ∙ c.loop-number.invariant.batch;
      causes = let before = c.loop-number.invariant.causes in let after = c.next_page.ensures.cause.never_falls in omega (arith, before, after);
    }

pub returns-clause-finds : goal.returns-clause-finds
returns-clause-finds g c =
    fronts_all (g.K.Keeper.told c.args.keeper.now) (g.K.Keeper.told c.loop-number.keeper) c.args.trial c.args.pages c.loop-number.number c.loop-number.gathered c.loop-number.invariant.goes_on
    (omega (arith, c.loop-number-test.false, c.loop-number.auto.number-end)) c.loop-number.invariant.reads
