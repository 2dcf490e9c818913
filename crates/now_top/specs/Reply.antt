-- What the commands that read the store of trials answer by its tables (this project's profile): each has its line of `Reply`.
use Rattle.std.specs.Prelude.{◌≡◌, ℕ, Bool, List, [], ◌++◌, None}
use Rattle.now_words.specs.declared.command.Evaluation.{Evaluation}
use Rattle.now_words.specs.declared.command.Query.{Query}
use Rattle.now_words.specs.declared.command.Query.TheVariants.{List as list_query, History, Show, Dataflow, Slice, Value, Replay, Sources, Effects}
use Rattle.dep_query.specs.Dataflows.{IsDataflow, LacksDataflow}
use Rattle.delivery.specs.Ending.{done, nothing_there, not_reached, damaged_trial}
use Rattle.keeper.specs.declared.records.Head.{Head}
use Rattle.keeper.specs.Tables.{TablesView, head_at}
use Rattle.prov_base.specs.declared.place.Pos.{Pos}
use Rattle.prov_outside.specs.Console.{ConsoleView}
use Rattle.prov_outside.specs.Tells.{Tells}
use Rattle.py_model.specs.Occurrences.{up_to_evaluation}
use Rattle.row_moments.specs.Moments.{moments_in}
use Rattle.trial_history.specs.History.{AreSomeLines, history_bytes}
use Rattle.trial_list.specs.Lines.{list_bytes}
use Rattle.trial_loading.specs.Loading.{IsLoaded, IsTrial, IsDamaged}
use Rattle.trial_loading.specs.declared.trial.Trial.{Trial}
use Rattle.trial_show.specs.Details.{detail}
use Rattle.trial_show.specs.Shows.{show_bytes}
use Rattle.trial_slice.specs.Sliced.{IsSliceOf}
use Rattle.trial_slice.specs.Slices.{IsSomeSlice}
use Rattle.trial_tables.specs.declared.damage.Damage.{Damage}
use Rattle.trial_replay.specs.Replays.{IsReplayAt}
use Rattle.trial_replay.specs.declared.replaying.Replayed.{Replayed}
use Rattle.trial_replay.specs.declared.replaying.Replayed.TheVariants.{Lines, NotReached}
use Rattle.dep_query.specs.SiteTexts.{IsFedText, LacksSite}
use Rattle.feedings.specs.declared.site.Way.{Way}
use Rattle.feedings.specs.declared.site.Way.TheVariants.{Sources as to_it, Effects as from_it}
use Rattle.trial_value.specs.Values.{IsValueAt, LacksEvaluation}
use Rattle.now_top.specs.Seen.{Seen}
use Rattle.now_top.specs.World.{Plan, closing}

-- a text with no closing line, and status 0
abbrev pub telling : List ℕ → Plan
telling text = record { ending = done; text = text; files = [] }

-- What a question about the trial with a number is answered, by what a trial that is well kept answers to it: that, or that nothing is there where there is no such
-- trial, or what is amiss of it first.
pub data RepliesOf (answers : Trial → Plan → Type 0) (tables : TablesView) (number : ℕ) : Plan → Type 0 where
  well_kept : (trial : Trial) → IsLoaded tables number trial → (plan : Plan) → answers trial plan → RepliesOf answers tables number plan
  not_there : head_at tables.heads number ≡ None → RepliesOf answers tables number (closing nothing_there)
  amiss : (damage : Damage) → IsDamaged tables number damage → RepliesOf answers tables number (closing (damaged_trial number (detail damage)))

-- `show`: the lines of the trial
abbrev pub ShowsLines : Trial → Plan → Type 0
ShowsLines trial plan = plan ≡ telling (show_bytes trial)

-- `slice`: the slice of the evaluation, or that nothing is there where the trial has no such evaluation
pub data Slices (at : Pos) (k : ℕ) (trial : Trial) : Plan → Type 0 where
  sliced : (keep : ℕ → Bool) (text : List ℕ) → IsSliceOf trial at k keep text → Slices at k trial (telling text)
  unevaluated : up_to_evaluation at k (moments_in trial.rows) ≡ None → Slices at k trial (closing nothing_there)

-- a question that a trial answers, told in this way, or to which it has no answer, so that nothing is there
pub data Answered {T : Type 0} (tells : T → Plan) (answers : Trial → T → Type 0) (lacks : Trial → Type 0) (trial : Trial) : Plan → Type 0 where
  answered : (it : T) → answers trial it → Answered tells answers lacks trial (tells it)
  unanswered : lacks trial → Answered tells answers lacks trial (closing nothing_there)

-- `dataflow`: the dependences between the trial's statements
abbrev pub DataflowOf : Trial → Plan → Type 0
DataflowOf = Answered telling IsDataflow LacksDataflow

-- `value`: the two lines of the value of the evaluation
abbrev pub ValuesOf : Evaluation → Trial → Plan → Type 0
ValuesOf of = Answered telling (IsValueAt of.at of.k) (LacksEvaluation of.at of.k)

-- `sources` and `effects`: the evaluations that feed the evaluation, or that it feeds
abbrev pub FeedingsOf : Way → Evaluation → Trial → Plan → Type 0
FeedingsOf way of = Answered telling (IsFedText way of.at of.k) (LacksSite of.at of.k)

-- the two lines of a replay, or that the evaluation was not reached
abbrev pub replaying : Replayed → Plan
replaying (Lines text) = telling text
replaying NotReached = closing not_reached

-- `replay`: what the run of the slice of the evaluation tells of it
abbrev pub ReplaysOf : Evaluation → Trial → Plan → Type 0
ReplaysOf of = Answered replaying (IsReplayAt of.at of.k) (LacksEvaluation of.at of.k)

-- what a command answers by the tables
abbrev pub Reply : Query → TablesView → Plan → Type 0
Reply list_query tables plan = plan ≡ telling (list_bytes tables.heads)
Reply History tables plan = plan ≡ telling (history_bytes tables)
Reply (Show number) tables plan = RepliesOf ShowsLines tables number plan
Reply (Dataflow number) tables plan = RepliesOf DataflowOf tables number plan
Reply (Slice of) tables plan = RepliesOf (Slices of.at of.k) tables of.trial plan
Reply (Value of) tables plan = RepliesOf (ValuesOf of) tables of.trial plan
Reply (Replay of) tables plan = RepliesOf (ReplaysOf of) tables of.trial plan
Reply (Sources of) tables plan = RepliesOf (FeedingsOf to_it of) tables of.trial plan
Reply (Effects of) tables plan = RepliesOf (FeedingsOf from_it of) tables of.trial plan

-- What a question about the trial with a number may be answered over a store that does not tell its tables. It is what some trial with this number answers, whose text is
-- its script and whose rows are kept rows; or that something is not there; or that the trial is not well kept, by some damage in words.
pub data MayReplyOf (answers : Trial → Plan → Type 0) (number : ℕ) : Plan → Type 0 where
  of_some_trial : (trial : Trial) → IsTrial number trial → (plan : Plan) → answers trial plan → MayReplyOf answers number plan
  of_none : MayReplyOf answers number (closing nothing_there)
  of_some_damage : (damage : Damage) → MayReplyOf answers number (closing (damaged_trial number (detail damage)))

-- the lines of some history
pub record TellsSomeHistory (plan : Plan) : Type 0 where
  pub text : List ℕ
  pub lines : AreSomeLines text
  pub plan_is : plan ≡ telling text

-- To `list` it is the lines of some heads; to `history` those of some heads with some marks; to `show` and `dataflow` the lines and the dependences of such a trial; to `slice`, `value`, `replay`, `sources` and `effects`
-- the slice, the value, the replay, the sources and the effects of the evaluation in it.
abbrev pub MayReply : Query → Plan → Type 0
MayReply list_query plan = (heads : List Head) × (plan ≡ telling (list_bytes heads))
MayReply History plan = TellsSomeHistory plan
MayReply (Show number) plan = MayReplyOf ShowsLines number plan
MayReply (Dataflow number) plan = MayReplyOf DataflowOf number plan
MayReply (Slice of) plan = MayReplyOf (Slices of.at of.k) of.trial plan
MayReply (Value of) plan = MayReplyOf (ValuesOf of) of.trial plan
MayReply (Replay of) plan = MayReplyOf (ReplaysOf of) of.trial plan
MayReply (Sources of) plan = MayReplyOf (FeedingsOf to_it of) of.trial plan
MayReply (Effects of) plan = MayReplyOf (FeedingsOf from_it of) of.trial plan

-- The console got the slice of the evaluation in some trial with its number, whose text is its script and whose rows are kept rows, and nothing else.
pub record WritesSomeSlice (of : Evaluation) (before after : Seen) : Type 0 where
  pub text : List ℕ
  pub is_slice : IsSomeSlice of.trial of.at of.k text
  pub console : Tells before.console after.console (λ (was is : ConsoleView). is.written ≡ was.written ++ text)
