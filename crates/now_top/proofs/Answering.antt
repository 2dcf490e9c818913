-- What a question to the store is answered.
use Rattle.std.proofs.Common.{◌≡◌, sym, ap, subst, ◌∙◌, ℕ, Bool, false, List, inl, inr, Option, Some, None, Result, Ok, Err, IfErr, IfOk}
use Rattle.std.specs.Prelude.{IfSome}
use Rattle.now_words.specs.declared.command.Query.TheVariants.{Show, Slice}
use Rattle.delivery.specs.Ending.{nothing_there, damaged_trial}
use Rattle.now_top.specs.World.{Plan, closing}
use Rattle.keeper.specs.Keeping.{KeeperView, AreKept, LeavesAmong}
use Rattle.keeper.specs.Tables.{TablesView}
use Rattle.prov_outside.specs.Tells.{Tells}
use Rattle.trial_keeping.specs.Fault.{has_failed}
use Rattle.trial_keeping.specs.declared.fault.TrialFault.{TrialFault}
use Rattle.trial_keeping.specs.declared.fault.TrialFault.TheVariants.{NoTrial, Damaged, Keeper, Collision, Full, Memory}
use Rattle.trial_keeping.specs.Heads.{IsOfList}
use Rattle.trial_loading.specs.Loading.{IsLoaded, IsDamaged, IsOfLoading}
use Rattle.trial_loading.specs.declared.trial.Trial.{Trial}
use Rattle.trial_show.specs.Details.{detail}
use Rattle.trial_show.specs.Shows.{AreLinesOfSome, ShowsTrial, show_bytes}
use Rattle.trial_tables.specs.Causes.{Causes}
use Rattle.trial_tables.specs.declared.damage.Damage.{Damage}
use Rattle.now_words.specs.declared.command.Evaluation.{Evaluation}
use Rattle.now_words.specs.declared.command.Query.{Query}
use Rattle.trial_slice.specs.Fault.{has_failed as question_failed, IsOfQuestion}
use Rattle.trial_slice.specs.Slices.{HasSlice, LacksEvaluation, SlicesTrial, SlicesSome}
use Rattle.trial_slice.specs.declared.fault.EvaluationFault.{EvaluationFault}
use Rattle.trial_slice.specs.declared.fault.EvaluationFault.TheVariants.{Trial as of_trial, NoEvaluation}
use Rattle.now_top.specs.Asking.{IsAnswer, AnswersQuery, replied, untold, failed, lacking, IsPlanOfDamage, IsPlanOfTrial, IsPlanOfQuestion}
use Rattle.now_top.specs.Kept.{Stored, tables_in, is_store_failed, IsRead}
use Rattle.now_top.specs.Planned.{plan_of_text}
use Rattle.now_top.specs.Reply.{telling, sliced, unevaluated, well_kept, not_there, amiss, Reply, of_some_trial, of_none, of_some_damage, MayReply}

-- what was told stays
pub stays : {P : KeeperView → KeeperView → Type 0} (was is : Option KeeperView) → ((old new : KeeperView) → P old new → new ≡ old) → Tells was is P → Tells was is (λ (old new : KeeperView). new ≡ old)
stays was None same told = tt
stays None (Some new) same told = absurd told
stays (Some old) (Some new) same told = same old new told

-- readers see what is committed, where no batch is open and all is as before
seen_is : (old new : KeeperView) (is_open : Bool) → new ≡ old → AreKept is_open new → is_open ≡ false → old.seen ≡ old.committed
seen_is old new is_open same kept closed = ap (λ (view : KeeperView). view.seen) (sym same) ∙ kept.closed closed ∙ ap (λ (view : KeeperView). view.committed) same

-- by what the keeper tells: the reply by its tables, or one that may be given
pub by_told : (query : Query) (was is : Option KeeperView) (is_open : Bool) (plan : Plan) (P : KeeperView → KeeperView → Type 0) → ((old new : KeeperView) → P old new → Reply query old.seen plan × (new ≡ old)) → MayReply query plan
    → Tells was is P → IfSome is (AreKept is_open) → is_open ≡ false → IsAnswer query (tables_in was is) plan
by_told query None is is_open plan P reply may told kept closed = untold plan may
by_told query (Some old) None is_open plan P reply may told kept closed = untold plan may
by_told query (Some old) (Some new) is_open plan P reply may told kept closed =
    let got = reply old new told in
    replied old.committed plan (subst (λ (tables : TablesView). Reply query tables plan) (seen_is old new is_open got.1 kept closed) got.0)

-- ---- all trials

-- a text about all trials, by what it is of the tables
module _ (query : Query) (bytes : TablesView → List ℕ) (some : List ℕ → Type 0) (told : Result (List ℕ) TrialFault → KeeperView → KeeperView → Type 0)
    (replies : (tables : TablesView) (text : List ℕ) → text ≡ bytes tables → Reply query tables (telling text)) (may_reply : (text : List ℕ) → some text → MayReply query (telling text))
    (tells : (text : List ℕ) (old new : KeeperView) → told (Ok text) old new → (text ≡ bytes old.seen) × (new ≡ old)) (fails : (fault : TrialFault) (old new : KeeperView) → told (Err fault) old new → new ≡ old) where
  all_answers : (result : Result (List ℕ) TrialFault) (was is : Stored) (is_open : Bool) (may may' : TablesView → Type 0) → IfOk result some → Tells was.told is.told (told result) → IfErr result IsOfList → IfSome is.told (AreKept is_open)
      → is_open ≡ false → Tells was.told is.told (λ (old new : KeeperView). LeavesAmong may may') → Causes (has_failed result) was.faults is.faults → AnswersQuery query was is may may' (plan_of_text result)
  all_answers (Ok text) was is is_open may may' of_some all of kept closed stops cause = record {
    answer = by_told query was.told is.told is_open (telling text) (told (Ok text)) (λ old new so. (replies old.seen text (tells text old new so).0, (tells text old new so).1)) (may_reply text of_some) all kept closed;
    read = record { told = stays was.told is.told (λ old new so. (tells text old new so).1) all; cause = cause };
    stops = stops;
  }
  all_answers (Err Keeper) was is is_open may may' of_some all of kept closed stops cause = record {
    answer = failed (tables_in was.told is.told);
    read = record { told = stays was.told is.told (fails Keeper) all; cause = cause };
    stops = stops;
  }
  all_answers (Err Memory) was is is_open may may' of_some all of kept closed stops cause = record {
    answer = lacking (tables_in was.told is.told);
    read = record { told = stays was.told is.told (fails Memory) all; cause = cause };
    stops = stops;
  }
  all_answers (Err (NoTrial number)) was is is_open may may' of_some all of kept closed stops cause = absurd of
  all_answers (Err (Damaged number damage)) was is is_open may may' of_some all of kept closed stops cause = absurd of
  all_answers (Err (Collision digest there given)) was is is_open may may' of_some all of kept closed stops cause = absurd of
  all_answers (Err Full) was is is_open may may' of_some all of kept closed stops cause = absurd of

  -- the same of the plan as it is named
  pub all_answers_as : (result : Result (List ℕ) TrialFault) (was is : Stored) (is_open : Bool) (may may' : TablesView → Type 0) (plan : Plan) → plan ≡ plan_of_text result → IfOk result some → Tells was.told is.told (told result) → IfErr result IsOfList
      → IfSome is.told (AreKept is_open) → is_open ≡ false → Tells was.told is.told (λ (old new : KeeperView). LeavesAmong may may') → Causes (has_failed result) was.faults is.faults → AnswersQuery query was is may may' plan
  all_answers_as result was is is_open may may' plan same of_some all of kept closed stops cause =
      subst (λ (p : Plan). AnswersQuery query was is may may' p) (sym same) (all_answers result was is is_open may may' of_some all of kept closed stops cause)

-- ---- one trial

shown_reply : (tables : TablesView) (number : ℕ) (trial : Trial) (text : List ℕ) → IsLoaded tables number trial → text ≡ show_bytes trial → Reply (Show number) tables (telling text)
shown_reply tables number trial text loaded same = well_kept trial loaded (telling text) (ap telling same)

read_as : (plan : Plan) (was is : Stored) (result : Result (List ℕ) TrialFault) → is_store_failed plan.ending ≡ has_failed result → Tells was.told is.told (λ (old new : KeeperView). new ≡ old) → Causes (has_failed result) was.faults is.faults
    → IsRead plan.ending was is
read_as plan was is result same told cause = record { told = told; cause = subst (λ (b : Bool). Causes b was.faults is.faults) (sym same) cause }

-- what is amiss of the trial with this number
pub damage_answer : (query : Query) (number : ℕ) (damage : Damage) (was is : Option KeeperView) (is_open : Bool) (plan : Plan) → ((tables : TablesView) → IsDamaged tables number damage → Reply query tables (closing (damaged_trial number (detail damage))))
    → MayReply query (closing (damaged_trial number (detail damage))) → IsPlanOfDamage number damage plan → Tells was is (λ (before after : KeeperView). IsDamaged before.seen number damage × (after ≡ before)) → IfSome is (AreKept is_open) → is_open ≡ false
    → IsAnswer query (tables_in was is) plan
damage_answer query number damage was is is_open plan replies may (inl same) told kept closed = subst (λ (p : Plan). IsAnswer query (tables_in was is) p) (sym same)
    (by_told query was is is_open (closing (damaged_trial number (detail damage))) (λ (before after : KeeperView). IsDamaged before.seen number damage × (after ≡ before)) (λ old new so. (replies old.seen so.0, so.1)) may told kept closed)
damage_answer query number damage was is is_open plan replies may (inr same) told kept closed = subst (λ (p : Plan). IsAnswer query (tables_in was is) p) (sym same) (lacking (tables_in was is))

pub not_failed : (number : ℕ) (damage : Damage) (plan : Plan) → IsPlanOfDamage number damage plan → is_store_failed plan.ending ≡ false
not_failed number damage plan (inl same) = ap (λ (p : Plan). is_store_failed p.ending) same
not_failed number damage plan (inr same) = ap (λ (p : Plan). is_store_failed p.ending) same

pub show_answers : (number : ℕ) (result : Result (List ℕ) TrialFault) (was is : Stored) (is_open : Bool) (may may' : TablesView → Type 0) (plan : Plan) → IsPlanOfTrial result plan → IfOk result (AreLinesOfSome number) → Tells was.told is.told (ShowsTrial number result) → IfErr result (IsOfLoading number)
    → IfSome is.told (AreKept is_open) → is_open ≡ false → Tells was.told is.told (λ (old new : KeeperView). LeavesAmong may may') → Causes (has_failed result) was.faults is.faults → AnswersQuery (Show number) was is may may' plan
show_answers number (Ok text) was is is_open may may' plan same some shows of kept closed stops cause = subst (λ (p : Plan). AnswersQuery (Show number) was is may may' p) (sym same) (record {
  answer = by_told (Show number) was.told is.told is_open (telling text) (ShowsTrial number (Ok text)) (λ old new so. (shown_reply old.seen number so.0.0 text so.0.1 so.0.2, so.1)) (of_some_trial some.trial some.is_trial (telling text) (ap telling some.lines)) shows kept closed;
  read = record { told = stays was.told is.told (λ old new so. so.1) shows; cause = cause };
  stops = stops;
})
show_answers number (Err (NoTrial other)) was is is_open may may' plan same some shows of kept closed stops cause = subst (λ (p : Plan). AnswersQuery (Show number) was is may may' p) (sym same) (record {
  answer = by_told (Show number) was.told is.told is_open (closing nothing_there) (ShowsTrial number (Err (NoTrial other))) (λ old new so. (not_there so.0, so.1)) of_none shows kept closed;
  read = record { told = stays was.told is.told (λ old new so. so.1) shows; cause = cause };
  stops = stops;
})
show_answers number (Err (Damaged other damage)) was is is_open may may' plan so some shows of kept closed stops cause = record {
  answer = damage_answer (Show number) number damage was.told is.told is_open plan (λ tables is_so. amiss damage is_so) (of_some_damage damage) (subst (λ (n : ℕ). IsPlanOfDamage n damage plan) of so) shows kept closed;
  read = read_as plan was is (Err (Damaged other damage)) (not_failed other damage plan so) (stays was.told is.told (λ old new so. so.1) shows) cause;
  stops = stops;
}
show_answers number (Err Keeper) was is is_open may may' plan same some shows of kept closed stops cause = subst (λ (p : Plan). AnswersQuery (Show number) was is may may' p) (sym same) (record {
  answer = failed (tables_in was.told is.told);
  read = record { told = shows; cause = cause };
  stops = stops;
})
show_answers number (Err Memory) was is is_open may may' plan same some shows of kept closed stops cause = subst (λ (p : Plan). AnswersQuery (Show number) was is may may' p) (sym same) (record {
  answer = lacking (tables_in was.told is.told);
  read = record { told = shows; cause = cause };
  stops = stops;
})
show_answers number (Err (Collision digest there given)) was is is_open may may' plan same some shows of kept closed stops cause = absurd of
show_answers number (Err Full) was is is_open may may' plan same some shows of kept closed stops cause = absurd of

-- ---- a question about an evaluation

slice_reply : (of : Evaluation) (tables : TablesView) (text : List ℕ) → HasSlice tables of.trial of.at of.k text → Reply (Slice of) tables (telling text)
slice_reply of tables text has = well_kept has.trial has.loaded (telling text) (sliced has.keep text has.is_slice)

lacks_reply : (of : Evaluation) (tables : TablesView) → LacksEvaluation tables of.trial of.at of.k → Reply (Slice of) tables (closing nothing_there)
lacks_reply of tables so = well_kept so.trial so.loaded (closing nothing_there) (unevaluated so.lacks)

pub read_question : {T : Type 0} (plan : Plan) (was is : Stored) (result : Result T EvaluationFault) → is_store_failed plan.ending ≡ question_failed result → Tells was.told is.told (λ (old new : KeeperView). new ≡ old) → Causes (question_failed result) was.faults is.faults
    → IsRead plan.ending was is
read_question plan was is result same told cause = record { told = told; cause = subst (λ (b : Bool). Causes b was.faults is.faults) (sym same) cause }

pub slice_answers : (of : Evaluation) (result : Result (List ℕ) EvaluationFault) (was is : Stored) (is_open : Bool) (may may' : TablesView → Type 0) (plan : Plan) → IsPlanOfQuestion telling result plan → SlicesSome of.trial of.at of.k result → Tells was.told is.told (SlicesTrial of.trial of.at of.k result)
    → IfErr result (IsOfQuestion of.trial) → IfSome is.told (AreKept is_open) → is_open ≡ false → Tells was.told is.told (λ (old new : KeeperView). LeavesAmong may may') → Causes (question_failed result) was.faults is.faults → AnswersQuery (Slice of) was is may may' plan
slice_answers of (Ok text) was is is_open may may' plan same some slices of_so kept closed stops cause = subst (λ (p : Plan). AnswersQuery (Slice of) was is may may' p) (sym same) (record {
  answer = by_told (Slice of) was.told is.told is_open (telling text) (SlicesTrial of.trial of.at of.k (Ok text)) (λ old new so. (slice_reply of old.seen text so.0, so.1)) (of_some_trial some.trial some.is_trial (telling text) (sliced some.keep text some.is_slice)) slices kept closed;
  read = record { told = stays was.told is.told (λ old new so. so.1) slices; cause = cause };
  stops = stops;
})
slice_answers of (Err NoEvaluation) was is is_open may may' plan same some slices of_so kept closed stops cause = subst (λ (p : Plan). AnswersQuery (Slice of) was is may may' p) (sym same) (record {
  answer = by_told (Slice of) was.told is.told is_open (closing nothing_there) (SlicesTrial of.trial of.at of.k (Err NoEvaluation)) (λ old new so. (lacks_reply of old.seen so.0, so.1)) (of_some_trial some.trial some.is_trial (closing nothing_there) (unevaluated some.lacks)) slices kept closed;
  read = record { told = stays was.told is.told (λ old new so. so.1) slices; cause = cause };
  stops = stops;
})
slice_answers of (Err (of_trial (NoTrial other))) was is is_open may may' plan same some slices of_so kept closed stops cause = subst (λ (p : Plan). AnswersQuery (Slice of) was is may may' p) (sym same) (record {
  answer = by_told (Slice of) was.told is.told is_open (closing nothing_there) (SlicesTrial of.trial of.at of.k (Err (of_trial (NoTrial other)))) (λ old new so. (not_there so.0, so.1)) of_none slices kept closed;
  read = record { told = stays was.told is.told (λ old new so. so.1) slices; cause = cause };
  stops = stops;
})
slice_answers of (Err (of_trial (Damaged other damage))) was is is_open may may' plan so some slices of_so kept closed stops cause = record {
  answer = damage_answer (Slice of) of.trial damage was.told is.told is_open plan (λ tables is_so. amiss damage is_so) (of_some_damage damage) (subst (λ (n : ℕ). IsPlanOfDamage n damage plan) of_so so) slices kept closed;
  read = read_question {T = List ℕ} plan was is (Err (of_trial (Damaged other damage))) (not_failed other damage plan so) (stays was.told is.told (λ old new it. it.1) slices) cause;
  stops = stops;
}
slice_answers of (Err (of_trial Keeper)) was is is_open may may' plan same some slices of_so kept closed stops cause = subst (λ (p : Plan). AnswersQuery (Slice of) was is may may' p) (sym same) (record {
  answer = failed (tables_in was.told is.told);
  read = record { told = slices; cause = cause };
  stops = stops;
})
slice_answers of (Err (of_trial Memory)) was is is_open may may' plan same some slices of_so kept closed stops cause = subst (λ (p : Plan). AnswersQuery (Slice of) was is may may' p) (sym same) (record {
  answer = lacking (tables_in was.told is.told);
  read = record { told = slices; cause = cause };
  stops = stops;
})
slice_answers of (Err (of_trial (Collision digest there given))) was is is_open may may' plan same some slices of_so kept closed stops cause = absurd of_so
slice_answers of (Err (of_trial Full)) was is is_open may may' plan same some slices of_so kept closed stops cause = absurd of_so
