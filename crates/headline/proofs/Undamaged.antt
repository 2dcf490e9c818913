-- A command that asks for a trial of which nothing is amiss, or for none, does not come to status 11.
use Rattle.std.proofs.Common.{◌≡◌, sym, subst, ℕ, true, List, arith}
use Rattle.delivery.specs.Ending.{status_of}
use Rattle.headline.specs.Headline.{AsksNoOther}
use Rattle.keeper.specs.Tables.{TablesView}
use Rattle.now_top.specs.Kept.{Clock, KeepsRun}
use Rattle.now_top.specs.Reply.{Reply, RepliesOf, well_kept, not_there, amiss, telling, ShowsLines, Slices, sliced, unevaluated, Answered, answered, unanswered, DataflowOf, ValuesOf, ReplaysOf}
use Rattle.now_top.specs.World.{World, Plan}
use Rattle.now_words.specs.declared.command.Evaluation.{Evaluation}
use Rattle.now_words.specs.declared.command.Query.{Query}
use Rattle.now_words.specs.declared.command.Query.TheVariants.{List as list_query, History, Show, Dataflow, Slice, Value, Replay, Sources, Effects}
use Rattle.prov_base.specs.Path.{is_path}
use Rattle.py_model.specs.Capture.{Telling}
use Rattle.trial_keeping.specs.Trial.{Run}
use Rattle.trial_loading.specs.Loading.{IsDamaged}
use Rattle.trial_loading.specs.declared.trial.Trial.{Trial}
use Rattle.trial_replay.specs.declared.replaying.Replayed.TheVariants.{Lines, NotReached}
use Rattle.trial_tables.specs.declared.damage.Damage.{Damage}

-- the path of a run that a call keeps is one that a script may open
pub path_so : (file : List ℕ) (steps : ℕ) (arguments : List (List ℕ)) (world : World) (began : Telling) (clock : Clock) (made : Plan) (run : Run) → KeepsRun file steps arguments world began clock made run
    → is_path run.path ≡ true
path_so file steps arguments world began clock made run of = subst (λ (r : Run). is_path r.path ≡ true) (sym of.run_is) of.stands.path

-- the status tells that a trial is damaged
abbrev IsEleven : Plan → Type 0
IsEleven plan = 11 ≡ status_of plan.ending

told_whole : (text : List ℕ) (plan : Plan) → plan ≡ telling text → IsEleven plan → ⊥
told_whole text plan is eleven = let same = subst IsEleven is eleven in omega (arith, same)

-- what a trial that is well kept answers is no such status
abbrev NeverEleven : (Trial → Plan → Type 0) → Type 0
NeverEleven answers = (trial : Trial) (plan : Plan) → answers trial plan → IsEleven plan → ⊥

shows_never : NeverEleven ShowsLines
shows_never trial plan is eleven = told_whole _ plan is eleven

slices_never : (of : Evaluation) → NeverEleven (Slices of.at of.k)
slices_never of trial _ (sliced keep text is) eleven = omega (arith, eleven)
slices_never of trial _ (unevaluated none) eleven = omega (arith, eleven)

answers_never : (answers : Trial → List ℕ → Type 0) (lacks : Trial → Type 0) → NeverEleven (Answered telling answers lacks)
answers_never answers lacks trial _ (answered text is) eleven = omega (arith, eleven)
answers_never answers lacks trial _ (unanswered none) eleven = omega (arith, eleven)

replays_never : (of : Evaluation) → NeverEleven (ReplaysOf of)
replays_never of trial _ (answered (Lines text) is) eleven = omega (arith, eleven)
replays_never of trial _ (answered NotReached is) eleven = omega (arith, eleven)
replays_never of trial _ (unanswered none) eleven = omega (arith, eleven)

-- nothing is amiss of the trial with a number
abbrev IsWhole : TablesView → ℕ → Type 0
IsWhole tables number = (damage : Damage) → IsDamaged tables number damage → ⊥

of_trial : (answers : Trial → Plan → Type 0) → NeverEleven answers → (tables : TablesView) (number trial : ℕ) (plan : Plan) → trial ≡ number → IsWhole tables number → RepliesOf answers tables trial plan → IsEleven plan → ⊥
of_trial answers never tables number trial plan same whole (well_kept one loaded _ is) eleven = never one plan is eleven
of_trial answers never tables number trial _ same whole (not_there none) eleven = omega (arith, eleven)
of_trial answers never tables number trial _ same whole (amiss damage is) eleven = whole damage (subst (λ (n : ℕ). IsDamaged tables n damage) same is)

pub never_eleven : (query : Query) (tables : TablesView) (number : ℕ) (plan : Plan) → AsksNoOther number query → IsWhole tables number → Reply query tables plan → 11 ≡ status_of plan.ending → ⊥
never_eleven list_query tables number plan asks whole is eleven = told_whole _ plan is eleven
never_eleven History tables number plan asks whole is eleven = told_whole _ plan is eleven
never_eleven (Show trial) tables number plan asks whole is eleven = of_trial ShowsLines shows_never tables number trial plan asks whole is eleven
never_eleven (Dataflow trial) tables number plan asks whole is eleven = of_trial DataflowOf (answers_never _ _) tables number trial plan asks whole is eleven
never_eleven (Slice of) tables number plan asks whole is eleven = of_trial (Slices of.at of.k) (slices_never of) tables number of.trial plan asks whole is eleven
never_eleven (Value of) tables number plan asks whole is eleven = of_trial (ValuesOf of) (answers_never _ _) tables number of.trial plan asks whole is eleven
never_eleven (Replay of) tables number plan asks whole is eleven = of_trial (ReplaysOf of) (replays_never of) tables number of.trial plan asks whole is eleven
never_eleven (Sources of) tables number plan asks whole is eleven = of_trial _ (answers_never _ _) tables number of.trial plan asks whole is eleven
never_eleven (Effects of) tables number plan asks whole is eleven = of_trial _ (answers_never _ _) tables number of.trial plan asks whole is eleven
