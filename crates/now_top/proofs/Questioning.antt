-- What a question about a trial is answered, whichever question it is.
use Rattle.std.proofs.Common.{◌≡◌, refl, sym, subst, ℕ, Bool, false, Result, Ok, Err, IfErr}
use Rattle.std.specs.Prelude.{IfSome}
use Rattle.delivery.specs.Ending.{nothing_there}
use Rattle.keeper.specs.Keeping.{KeeperView, AreKept, LeavesAmong}
use Rattle.keeper.specs.Tables.{TablesView}
use Rattle.now_words.specs.declared.command.Query.{Query}
use Rattle.prov_outside.specs.Tells.{Tells}
use Rattle.trial_keeping.specs.declared.fault.TrialFault.TheVariants.{NoTrial, Damaged, Keeper, Collision, Full, Memory}
use Rattle.trial_loading.specs.declared.trial.Trial.{Trial}
use Rattle.trial_slice.specs.Fault.{has_failed as question_failed, IsOfQuestion}
use Rattle.trial_slice.specs.Questions.{AnswersTrial, AnswersSome}
use Rattle.trial_slice.specs.declared.fault.EvaluationFault.{EvaluationFault}
use Rattle.trial_slice.specs.declared.fault.EvaluationFault.TheVariants.{Trial as of_trial, NoEvaluation}
use Rattle.trial_tables.specs.Causes.{Causes}
use Rattle.now_top.proofs.Answering.{stays, by_told, damage_answer, not_failed, read_question}
use Rattle.now_top.specs.Asking.{AnswersQuery, failed, lacking, IsPlanOfDamage, IsPlanOfQuestion}
use Rattle.now_top.specs.Kept.{Stored, tables_in, is_store_failed}
use Rattle.trial_replay.specs.declared.replaying.Replayed.{Replayed}
use Rattle.trial_replay.specs.declared.replaying.Replayed.TheVariants.{Lines, NotReached}
use Rattle.now_top.specs.Reply.{replaying, RepliesOf, well_kept, not_there, amiss, Reply, MayReplyOf, of_some_trial, of_none, of_some_damage, MayReply}
use Rattle.now_top.specs.World.{Plan, closing}

-- a replay does not tell that the store failed
pub no_failure : (told : Replayed) → is_store_failed (replaying told).ending ≡ false
no_failure (Lines text) = refl
no_failure NotReached = refl

-- by how the answer of a trial that is well kept is told, or nothing where there is no answer
module _ {T : Type 0} (query : Query) (number : ℕ) (tells : T → Plan) (answers : Trial → T → Type 0) (lacks : Trial → Type 0) (comes : Trial → Plan → Type 0)
    (told_so : (trial : Trial) (it : T) → answers trial it → comes trial (tells it)) (none : (trial : Trial) → lacks trial → comes trial (closing nothing_there)) (fine : (it : T) → is_store_failed (tells it).ending ≡ false)
    (replies : (tables : TablesView) (plan : Plan) → RepliesOf comes tables number plan → Reply query tables plan) (may_reply : (plan : Plan) → MayReplyOf comes number plan → MayReply query plan) where
  pub question_answers : (result : Result T EvaluationFault) (was is : Stored) (is_open : Bool) (may may' : TablesView → Type 0) (plan : Plan) → IsPlanOfQuestion tells result plan
      → AnswersSome answers lacks number result → Tells was.told is.told (AnswersTrial answers lacks number result) → IfErr result (IsOfQuestion number) → IfSome is.told (AreKept is_open) → is_open ≡ false
      → Tells was.told is.told (λ (old new : KeeperView). LeavesAmong may may') → Causes (question_failed result) was.faults is.faults → AnswersQuery query was is may may' plan
  question_answers (Ok it) was is is_open may may' plan same some told of kept closed stops cause = subst (λ (p : Plan). AnswersQuery query was is may may' p) (sym same) (record {
    answer = by_told query was.told is.told is_open (tells it) (AnswersTrial answers lacks number (Ok it))
        (λ old new so. (replies old.seen (tells it) (well_kept so.0.trial so.0.loaded (tells it) (told_so so.0.trial it so.0.answer)), so.1))
        (may_reply (tells it) (of_some_trial some.trial some.is_trial (tells it) (told_so some.trial it some.answer))) told kept closed;
    read = read_question (tells it) was is (Ok it) (fine it) (stays was.told is.told (λ old new so. so.1) told) cause;
    stops = stops;
  })
  question_answers (Err NoEvaluation) was is is_open may may' plan same some told of kept closed stops cause = subst (λ (p : Plan). AnswersQuery query was is may may' p) (sym same) (record {
    answer = by_told query was.told is.told is_open (closing nothing_there) (AnswersTrial {T = T} answers lacks number (Err NoEvaluation))
        (λ old new so. (replies old.seen (closing nothing_there) (well_kept so.0.trial so.0.loaded (closing nothing_there) (none so.0.trial so.0.so)), so.1))
        (may_reply (closing nothing_there) (of_some_trial some.trial some.is_trial (closing nothing_there) (none some.trial some.so))) told kept closed;
    read = record { told = stays was.told is.told (λ old new so. so.1) told; cause = cause };
    stops = stops;
  })
  question_answers (Err (of_trial (NoTrial other))) was is is_open may may' plan same some told of kept closed stops cause = subst (λ (p : Plan). AnswersQuery query was is may may' p) (sym same) (record {
    answer = by_told query was.told is.told is_open (closing nothing_there) (AnswersTrial {T = T} answers lacks number (Err (of_trial (NoTrial other))))
        (λ old new so. (replies old.seen (closing nothing_there) (not_there so.0), so.1)) (may_reply (closing nothing_there) of_none) told kept closed;
    read = record { told = stays was.told is.told (λ old new so. so.1) told; cause = cause };
    stops = stops;
  })
  question_answers (Err (of_trial (Damaged other damage))) was is is_open may may' plan so some told of kept closed stops cause = record {
    answer = damage_answer query number damage was.told is.told is_open plan (λ tables is_so. replies tables _ (amiss damage is_so)) (may_reply _ (of_some_damage damage))
        (subst (λ (n : ℕ). IsPlanOfDamage n damage plan) of so) told kept closed;
    read = read_question {T = T} plan was is (Err (of_trial (Damaged other damage))) (not_failed other damage plan so) (stays was.told is.told (λ old new it. it.1) told) cause;
    stops = stops;
  }
  question_answers (Err (of_trial Keeper)) was is is_open may may' plan same some told of kept closed stops cause = subst (λ (p : Plan). AnswersQuery query was is may may' p) (sym same) (record {
    answer = failed (tables_in was.told is.told);
    read = record { told = told; cause = cause };
    stops = stops;
  })
  question_answers (Err (of_trial Memory)) was is is_open may may' plan same some told of kept closed stops cause = subst (λ (p : Plan). AnswersQuery query was is may may' p) (sym same) (record {
    answer = lacking (tables_in was.told is.told);
    read = record { told = told; cause = cause };
    stops = stops;
  })
  question_answers (Err (of_trial (Collision digest there given))) was is is_open may may' plan same some told of kept closed stops cause = absurd of
  question_answers (Err (of_trial Full)) was is is_open may may' plan same some told of kept closed stops cause = absurd of
