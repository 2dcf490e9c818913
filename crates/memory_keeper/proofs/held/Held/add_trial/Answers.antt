use Rattle.std.proofs.Common.{◌≡◌, ◌<◌, ◌+◌, true, length, Result, Ok, Err, IfOk, OnOk, OnErr, sym, ap, subst, ◌∙◌, refl, rules, ℕ, ◌++◌, ◌∷◌, [], Bool}
use Rattle.prov_base.specs.declared.refusal.Memory.{Memory}
use Rattle.keeper.specs.declared.records.Head.{Head}
use Rattle.keeper.specs.Batch.{BatchView}
use Rattle.memory_keeper.specs.Held.{ListedTables, HeldView, IsHeld, told_of}
use Rattle.keeper.specs.Tables.{most_trials, with_trial}
use Rattle.memory_keeper.proofs.HeldLaws.{kept_at, held_trial, trials_seen, trial_added}
use Rattle.memory_keeper.proofs.held.Held.add_trial.Goals as goal

pub add_trial-requires : goal.add_trial-requires
add_trial-requires c =
    let seen = trials_seen _ _ _ c.self.invariant in
    let room = subst (λ (h : HeldView). length (told_of h).seen.heads < most_trials) (sym c.self.view_is) c.requires.room in
    subst (λ n. n < most_trials) seen room

-- what the batch is after either answer
after : (tables : ListedTables) (batch new : BatchView) (o : Bool) (head : Head) (result : Result ℕ Memory) → IsHeld tables batch o → o ≡ true → batch.committed + batch.added < most_trials → IfOk result (λ n. n ≡ batch.committed + batch.added + 1) → IfOk result (λ n. new ≡ record batch { added = batch.added + 1; heads = batch.heads ++ (n, head) ∷ [] }) → OnErr result (new ≡ batch) → IsHeld tables new o
after tables batch new o head (Ok n) held open_batch room number added err = rw added (held_trial tables batch o n head held open_batch number room)
after tables batch new o head (Err fault) held open_batch room number added err = rw err held

told : (tables : ListedTables) (batch new : BatchView) (o : Bool) (head : Head) (result : Result ℕ Memory) → IsHeld tables batch o → IfOk result (λ n. n ≡ batch.committed + batch.added + 1) → IfOk result (λ n. new ≡ record batch { added = batch.added + 1; heads = batch.heads ++ (n, head) ∷ [] })
    → OnOk result (told_of (record { tables = tables; batch = new; is_open = o }) ≡ record (told_of (record { tables = tables; batch = batch; is_open = o })) { seen = with_trial head (told_of (record { tables = tables; batch = batch; is_open = o })).seen })
told tables batch new o head (Ok n) held number added =
    let heads = trial_added tables batch o n head held number in
    rw (added, heads) refl
told tables batch new o head (Err fault) held number added = search rules

pub invariant_of-self : goal.invariant_of-self
invariant_of-self c =
    let open_batch : c.self.inside.is_open ≡ true = ap (λ (h : HeldView). h.is_open) c.self.view_is ∙ c.requires.batch in
    after _ _ _ _ c.args.head.now c.add_trial.result c.self.invariant open_batch (add_trial-requires c.before) c.add_trial.ensures.number c.add_trial.ensures.added c.add_trial.ensures.err

pub returns-clause-number : goal.returns-clause-number
returns-clause-number c =
    let seen = trials_seen _ _ _ c.self.invariant in
    rw (← c.self.view_is, seen) c.add_trial.ensures.number

pub returns-clause-added : goal.returns-clause-added
returns-clause-added c =
    rw (← c.self.view_is) (told _ _ _ _ c.args.head.now c.add_trial.result c.self.invariant c.add_trial.ensures.number c.add_trial.ensures.added)

pub returns-clause-kept : goal.returns-clause-kept
returns-clause-kept c = kept_at _ _ _ (invariant_of-self c)
