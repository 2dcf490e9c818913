use Rattle.std.proofs.Common.{◌≡◌, sym, ap, subst, ◌∙◌, ℕ, ◌++◌, Option, Some, None}
use Rattle.std.proofs.lemmas.Option.{same_Some}
use Rattle.delivery.specs.Ending.{done, closing_line}
use Rattle.keeper.specs.Tables.{TablesView}
use Rattle.now_words.specs.Command.{Command, run_bare, run_kept, reads, restores, command_of}
use Rattle.now_words.specs.declared.command.Evaluation.{Evaluation}
use Rattle.now_words.specs.declared.command.Query.{Query}
use Rattle.now_words.specs.declared.command.Query.TheVariants.{Slice}
use Rattle.prov_outside.specs.Console.{ConsoleView}
use Rattle.trial_loading.specs.Loading.{IsLoaded, IsTrial}
use Rattle.trial_loading.specs.declared.trial.Trial.{Trial}
use Rattle.trial_slice.specs.Slices.{IsSomeSlice}
use Rattle.now_top.specs.Kept.{tables_told}
use Rattle.now_top.specs.Means.{MeansCommand}
use Rattle.now_top.specs.Replies.{Comes, meant, unread, store_unread, untold, no_memory}
use Rattle.now_top.specs.Reply.{RepliesOf, well_kept, not_there, amiss, Slices, sliced, unevaluated, MayReply, MayReplyOf, of_some_trial, of_none, of_some_damage}
use Rattle.now_top.specs.Seen.{Seen}
use Rattle.now_top.specs.World.{World, Plan}
use Rattle.now_top.proofs.Completing.{tells_through, only_text, written_same, same_plan}
use Rattle.now_top.proofs.laws.writes_some_slice.Goals as goal

-- ---- the slice

loaded_is : (tables : TablesView) (number : ℕ) (trial : Trial) → IsLoaded tables number trial → IsTrial number trial
loaded_is tables number trial is = record { number_is = is.number_is; script_is = is.script_is; rows_are = is.rows_are.kept }

slice_done : (of : Evaluation) (trial : Trial) (plan : Plan) → IsTrial of.trial trial → Slices of.at of.k trial plan → plan.ending ≡ done → IsSomeSlice of.trial of.at of.k plan.text
slice_done of trial plan is (sliced keep text slice) at = record { trial = trial; is_trial = is; keep = keep; is_slice = slice }
slice_done of trial plan is (unevaluated none) at = absurd (cc)

by_tables : (of : Evaluation) (tables : TablesView) (plan : Plan) → RepliesOf (Slices of.at of.k) tables of.trial plan → plan.ending ≡ done → IsSomeSlice of.trial of.at of.k plan.text
by_tables of tables plan (well_kept trial loaded _ is) at = slice_done of trial plan (loaded_is tables of.trial trial loaded) is at
by_tables of tables plan (not_there none) at = absurd (cc)
by_tables of tables plan (amiss damage is) at = absurd (cc)

by_some : (of : Evaluation) (plan : Plan) → MayReplyOf (Slices of.at of.k) of.trial plan → plan.ending ≡ done → IsSomeSlice of.trial of.at of.k plan.text
by_some of plan (of_some_trial trial is _ slices) at = slice_done of trial plan is slices at
by_some of plan of_none at = absurd (cc)
by_some of plan (of_some_damage damage) at = absurd (cc)

abbrev query_in : Command → Query → Query
query_in (reads query) other = query
query_in (run_bare steps file arguments) other = other
query_in (run_kept steps file arguments) other = other
query_in (restores number) other = other

same_query : (query other : Query) → ◌≡◌ {A = Option Command} (Some (reads query)) (Some (reads other)) → query ≡ other
same_query query other same = ap (λ (c : Command). query_in c other) (same_Some (reads query) (reads other) same)

meant_slice : (of : Evaluation) (world : World) (tables : Option TablesView) (plan : Plan) → MeansCommand (Some (reads (Slice of))) world tables plan → plan.ending ≡ done → IsSomeSlice of.trial of.at of.k plan.text
meant_slice of world (Some tables) plan means at = by_tables of tables plan means.1 at
meant_slice of world None plan means at = absurd means

-- the plan that was made of the question
comes_slice : (of : Evaluation) (command : Option Command) (before read : Seen) (world : World) (tables : Option TablesView) (plan : Plan) → command ≡ Some (reads (Slice of)) → Comes command before read world tables plan
    → plan.ending ≡ done → IsSomeSlice of.trial of.at of.k plan.text
comes_slice of command before read world tables plan word (meant _ same means) at = meant_slice of world tables plan (subst (λ (c : Option Command). MeansCommand c world tables plan) word means) at
comes_slice of command before read world tables plan word (unread one other path rose un) at = absurd (cc)
comes_slice of command before read world tables plan word (store_unread query other same un) at = absurd (cc)
comes_slice of command before read world tables plan word (untold query _ other none may same un) at =
    by_some of plan (subst (λ (q : Query). MayReply q plan) (same_query query (Slice of) (sym other ∙ word)) may) at
comes_slice of command before read world tables plan word (no_memory same aside) at = absurd (cc)

pub returns : goal.returns
returns c = λ words before after was is status so of word zero.
    let whole = c.done_is_whole.ensures so.plan.ending so.plan.text so.plan.files so.ran.faults.put after.faults.put so.ran.folder after.folder so.ran.faults.write after.faults.write so.ran.console after.console status so.delivers.delivered zero in
    let same : so.plans.made ≡ so.plan =
    same_plan words before after was is status so (Slice of) so.plans.made so.plan so.plans.prepares.began so.plans.prepares.clock word so.plans.keeps in
    record {
      text = so.plan.text;
      is_slice = comes_slice of (command_of words) before so.plans.prepares.read so.plans.prepares.world (tables_told was is) so.plan word
          (subst (λ (p : Plan). Comes (command_of words) before so.plans.prepares.read so.plans.prepares.world (tables_told was is) p) same so.plans.prepares.comes) whole.0;
      console = tells_through before.console so.ran.console after.console (λ (old new : ConsoleView). new.written ≡ old.written)
          (λ (old new : ConsoleView). (new.lines ≡ old.lines) × (new.written ≡ old.written ++ so.plan.text ++ closing_line so.plan.ending))
          (λ (old new : ConsoleView). new.written ≡ old.written ++ so.plan.text)
          (λ x y z same_bytes all. only_text x.written y.written z.written so.plan.text so.plan.ending whole.0 same_bytes all.1)
          (written_same words before after was is status so) whole.1.console;
    }
