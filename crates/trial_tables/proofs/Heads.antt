-- The number of the next trial, and the room for it, as what is told goes on.
use Rattle.std.proofs.Common.{◌≡◌, ℕ, ◌+◌, ◌<◌, List, length, Option, Some, None, IfSome, Result, Ok, Err, IfOk, sym, ap, ◌∙◌, subst}
use Rattle.keeper.specs.declared.records.Head.{Head}
use Rattle.keeper.specs.Keeping.{KeeperView}
use Rattle.keeper.specs.Tables.{most_trials}
use Rattle.prov_outside.specs.Tells.{Tells}
use Rattle.trial_tables.specs.Written.{next_trial}

pub room_stays : (old new : Option KeeperView) → Tells old new (λ before after. after.seen.heads ≡ before.seen.heads) → IfSome old (λ kept. length kept.seen.heads < most_trials) → IfSome new (λ kept. length kept.seen.heads < most_trials)
room_stays old None same room = tt
room_stays None (Some b) same room = absurd same
room_stays (Some a) (Some b) same room = subst (λ (hs : List Head). length hs < most_trials) (sym same) room

pub number_stays : {E : Type 0} (result : Result ℕ E) (old mid new : Option KeeperView) → Tells old mid (λ before after. after.seen.heads ≡ before.seen.heads)
    → Tells mid new (λ before after. IfOk result (λ number. number ≡ next_trial before.seen)) → Tells old new (λ before after. IfOk result (λ number. number ≡ next_trial before.seen))
number_stays result old mid None same is = tt
number_stays result old None (Some c) same is = absurd is
number_stays result None (Some b) (Some c) same is = absurd same
number_stays (Ok number) (Some a) (Some b) (Some c) same is = is ∙ ap (λ (hs : List Head). length hs + 1) same
number_stays (Err fault) (Some a) (Some b) (Some c) same is = tt
