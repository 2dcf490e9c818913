-- A command has at most one meaning over a world.
use Rattle.std.proofs.Common.{◌≡◌, refl, sym, ap, subst, ◌∙◌, ℕ, Bool, true, false, List, ◌++◌, inl, inr, Option, Some, None}
use Rattle.std.proofs.lemmas.Option.{same_Some}
use Rattle.now_words.specs.Command.{Command, run_bare, run_kept, reads, restores}
use Rattle.now_words.specs.declared.command.Evaluation.{Evaluation}
use Rattle.now_words.specs.declared.command.Query.{Query}
use Rattle.now_words.specs.declared.command.Query.TheVariants.{List as list_query, History, Show, Dataflow, Slice, Value, Replay, Sources, Effects}
use Rattle.delivery.specs.Ending.{Ending, refused, damaged_trial}
use Rattle.keeper.specs.Tables.{TablesView}
use Rattle.keeper.specs.declared.records.Head.{Head}
use Rattle.delivery.specs.PutsAll.{OutFile}
use Rattle.prov_base.specs.declared.place.Pos.{Pos}
use Rattle.prov_outside.specs.Folder.{Files}
use Rattle.py_model.specs.Capture.{Capture}
use Rattle.py_tree.specs.Erasure.{script_of}
use Rattle.py_tree.specs.Tree.{ScriptTree}
use Rattle.py_parser.specs.Reading.{HasScript, IsRefusedAt}
use Rattle.trace_rows.specs.declared.row.Row.{Row}
use Rattle.trial_list.specs.Lines.{start_text}
use Rattle.trial_loading.specs.Loading.{IsLoaded, IsDamaged, rest_of}
use Rattle.trial_loading.specs.OneTrial.{AreSame}
use Rattle.trial_loading.specs.Rest.{RestView}
use Rattle.trial_loading.specs.declared.trial.Trial.{Trial}
use Rattle.trial_show.specs.Details.{detail}
use Rattle.trial_show.specs.Functions.{lines_in}
use Rattle.trial_show.specs.Shown.{opening_lines, argument_lines, middle_lines, input_lines, output_line, final_lines}
use Rattle.trial_show.specs.Shows.{show_bytes}
use Rattle.trial_tables.specs.declared.damage.Damage.{Damage}
use Rattle.now_top.specs.World.{World, Plan, closing, StandsAt, IsNowhere}
use Rattle.now_top.specs.RunCommand as running
use Rattle.now_top.specs.Means.{MeansCommand}
use Rattle.py_model.specs.Occurrences.{up_to_evaluation}
use Rattle.row_moments.specs.Moments.{moments_in}
use Rattle.trial_slice.specs.Sliced.{IsSliceOf}
use Rattle.feedings.specs.declared.site.Way.{Way}
use Rattle.feedings.specs.declared.site.Way.TheVariants.{Sources as to_it, Effects as from_it}
use Rattle.now_top.specs.Reply.{telling, RepliesOf, well_kept, not_there, amiss, ShowsLines, Slices, sliced, unevaluated, Answered, answered, unanswered, DataflowOf, ValuesOf, FeedingsOf, ReplaysOf, Reply}

false_is : false ≡ true → ⊥
false_is is = cc

none_is : (text : List ℕ) → ◌≡◌ {A = Option (List ℕ)} None (Some text) → ⊥
none_is text is = cc

-- FILE is nowhere, or a text stands there
not_both : (file : List ℕ) (files : Files) (text : List ℕ) → IsNowhere file files → StandsAt file files text → ⊥
not_both file files text (inl no_path) st = false_is (sym no_path ∙ st.path)
not_both file files text (inr absent) st = none_is text (sym absent ∙ st.stands)

-- and one text alone
one_text : (file : List ℕ) (files : Files) (text other : List ℕ) → StandsAt file files text → StandsAt file files other → text ≡ other
one_text file files text other a b = same_Some _ _ (sym a.stands ∙ b.stands)

abbrev of_parts : Ending → List ℕ → List OutFile → Plan
of_parts ending text files = record { ending = ending; text = text; files = files }

plan_same : (one other : Plan) → one.ending ≡ other.ending → one.text ≡ other.text → one.files ≡ other.files → one ≡ other
plan_same one other endings texts files = ap (λ (e : Ending). of_parts e one.text one.files) endings
    ∙ (ap (λ (t : List ℕ). of_parts other.ending t one.files) texts ∙ ap (λ (f : List OutFile). of_parts other.ending other.text f) files)

module _ (one_script : (text : List ℕ) (a b : ScriptTree) → HasScript text a → HasScript text b → a ≡ b)
    (one_place : (text : List ℕ) (a b : Pos) → IsRefusedAt text a → IsRefusedAt text b → a ≡ b)
    (not_refused : (text : List ℕ) (tree : ScriptTree) (at : Pos) → HasScript text tree → IsRefusedAt text at → ⊥) where
  one_run : (script : ScriptTree) (file : List ℕ) (arguments : List (List ℕ)) (steps : ℕ) (capture : Capture) (one other : Plan)
      → running.IsRunOf script file arguments steps capture one → running.IsRunOf script file arguments steps capture other → one ≡ other
  one_run script file arguments steps capture one other a b = plan_same one other (same_Some _ _ (sym a.ending ∙ b.ending)) (sym a.text ∙ b.text) (sym a.files ∙ b.files)

  one_runs : (file text : List ℕ) (steps : ℕ) (arguments : List (List ℕ)) (capture : Capture) (one other : Plan)
      → running.RunsText file text steps arguments capture one → running.RunsText file text steps arguments capture other → one ≡ other
  one_runs file text steps arguments capture one other (running.no_script at is un) (running.no_script to so also) = ap (λ (p : Pos). closing (refused file p.line p.col)) (one_place text at to is so)
  one_runs file text steps arguments capture one other (running.no_script at is un) (running.runs script has plan so) = absurd (not_refused text script at has is)
  one_runs file text steps arguments capture one other (running.runs script has plan so) (running.no_script at is un) = absurd (not_refused text script at has is)
  one_runs file text steps arguments capture one other (running.runs script has plan is) (running.runs tree also other_plan so) =
      one_run script file arguments steps capture plan other_plan is (subst (λ (t : ScriptTree). running.IsRunOf t file arguments steps capture other_plan) (one_script text tree script also has) so)

  pub one_run_plan : (file : List ℕ) (steps : ℕ) (arguments : List (List ℕ)) (world : World) (one other : Plan) → running.MeansRun file steps arguments world one → running.MeansRun file steps arguments world other → one ≡ other
  one_run_plan file steps arguments world one other (running.nowhere gone un) (running.nowhere also too) = refl
  one_run_plan file steps arguments world one other (running.nowhere gone un) (running.stands text st plan is) = absurd (not_both file world.files text gone st)
  one_run_plan file steps arguments world one other (running.stands text st plan is) (running.nowhere gone un) = absurd (not_both file world.files text gone st)
  one_run_plan file steps arguments world one other (running.stands text st plan is) (running.stands to also other_plan so) =
      one_runs file text steps arguments world.capture plan other_plan is (subst (λ (t : List ℕ). running.RunsText file t steps arguments world.capture other_plan) (one_text file world.files to text also st) so)

-- the lines of a trial by what is read of it
abbrev bytes_by : ℕ → Head → RestView → List Row → ScriptTree → List ℕ
bytes_by number head rest rows script =
    opening_lines number head ++ argument_lines rest.arguments ++ middle_lines head (start_text head.started) (start_text head.ended)
    ++ input_lines rest.capture.files ++ output_line head rest.output ++ final_lines rest.finals ++ lines_in rows script.body

-- trials that are the same have the same lines
same_lines : (trial other : Trial) → AreSame trial other → show_bytes trial ≡ show_bytes other
same_lines trial other same = ap (λ (n : ℕ). bytes_by n trial.head (rest_of trial) trial.rows (script_of trial.script)) same.number
    ∙ (ap (λ (h : Head). bytes_by other.number h (rest_of trial) trial.rows (script_of trial.script)) same.head
    ∙ (ap (λ (r : RestView). bytes_by other.number other.head r trial.rows (script_of trial.script)) same.rest
    ∙ (ap (λ (r : List Row). bytes_by other.number other.head (rest_of other) r (script_of trial.script)) same.rows
    ∙ ap (λ (s : ScriptTree). bytes_by other.number other.head (rest_of other) other.rows s) same.script)))

-- the same trial, seen from the other
the_same_back : (trial other : Trial) → AreSame trial other → AreSame other trial
the_same_back trial other same = record { number = sym same.number; head = sym same.head; text = sym same.text; script = sym same.script; rest = sym same.rest; rows = sym same.rows; cuts = sym same.cuts }

no_head : (found : Option Head) (head : Head) → found ≡ None → found ≡ Some head → ⊥
no_head found head none some = cc

-- trials that are the same are answered the same
abbrev pub Alike : (Trial → Plan → Type 0) → Type 0
Alike answers = (trial other : Trial) (one two : Plan) → AreSame trial other → answers trial one → answers other two → one ≡ two

module _ (one_slice : (trial other : Trial) (at : Pos) (k : ℕ) (one two : ℕ → Bool) (text more : List ℕ) → AreSame trial other → IsSliceOf trial at k one text → IsSliceOf other at k two more → text ≡ more)
    (not_lacking : (trial other : Trial) (at : Pos) (k : ℕ) (keep : ℕ → Bool) (text : List ℕ) → AreSame trial other → IsSliceOf trial at k keep text → up_to_evaluation at k (moments_in other.rows) ≡ None → ⊥) where
  pub slices_alike : (at : Pos) (k : ℕ) → Alike (Slices at k)
  slices_alike at k trial other one two same (sliced keep text is) (sliced kept more so) = ap telling (one_slice trial other at k keep kept text more same is so)
  slices_alike at k trial other one two same (sliced keep text is) (unevaluated lacks) = absurd (not_lacking trial other at k keep text same is lacks)
  slices_alike at k trial other one two same (unevaluated lacks) (sliced keep text is) =
      absurd (not_lacking other trial at k keep text (the_same_back trial other same) is lacks)
  slices_alike at k trial other one two same (unevaluated lacks) (unevaluated also) = refl

-- a question with one answer, which is there or not
pub answers_alike : {T : Type 0} (tells : T → Plan) (answers : Trial → T → Type 0) (lacks : Trial → Type 0) → ((trial other : Trial) (it more : T) → AreSame trial other → answers trial it → answers other more → it ≡ more)
    → ((trial other : Trial) (it : T) → AreSame trial other → answers trial it → lacks other → ⊥) → Alike (Answered tells answers lacks)
answers_alike tells answers lacks same_answer not_both trial other one two same (answered it is) (answered more so) = ap tells (same_answer trial other it more same is so)
answers_alike tells answers lacks same_answer not_both trial other one two same (answered it is) (unanswered none) = absurd (not_both trial other it same is none)
answers_alike tells answers lacks same_answer not_both trial other one two same (unanswered none) (answered it is) = absurd (not_both other trial it (the_same_back trial other same) is none)
answers_alike tells answers lacks same_answer not_both trial other one two same (unanswered none) (unanswered also) = refl

module _ (one_trial : (tables : TablesView) (number : ℕ) (trial other : Trial) → IsLoaded tables number trial → IsLoaded tables number other → AreSame trial other)
    (one_damage : (tables : TablesView) (number : ℕ) (damage other : Damage) → IsDamaged tables number damage → IsDamaged tables number other → damage ≡ other)
    (never_both : (tables : TablesView) (number : ℕ) (trial : Trial) (damage : Damage) → IsLoaded tables number trial → IsDamaged tables number damage → ⊥) where
  -- a question about a trial has one answer, where each trial has one to it
  one_answer : (answers : Trial → Plan → Type 0) → Alike answers → (tables : TablesView) (number : ℕ) (one other : Plan) → RepliesOf answers tables number one → RepliesOf answers tables number other → one ≡ other
  one_answer answers alike tables number one other (well_kept trial loaded _ is) (well_kept to also _ so) = alike trial to one other (one_trial tables number trial to loaded also) is so
  one_answer answers alike tables number one other (well_kept trial loaded _ is) (not_there none) = absurd (no_head _ trial.head none loaded.head_is)
  one_answer answers alike tables number one other (well_kept trial loaded _ so) (amiss damage is) = absurd (never_both tables number trial damage loaded is)
  one_answer answers alike tables number one other (not_there none) (well_kept trial loaded _ is) = absurd (no_head _ trial.head none loaded.head_is)
  one_answer answers alike tables number one other (not_there none) (not_there also) = refl
  one_answer answers alike tables number one other (not_there none) (amiss damage is) = absurd (no_head _ is.head none is.head_is)
  one_answer answers alike tables number one other (amiss damage is) (well_kept trial loaded _ so) = absurd (never_both tables number trial damage loaded is)
  one_answer answers alike tables number one other (amiss damage is) (not_there none) = absurd (no_head _ is.head none is.head_is)
  one_answer answers alike tables number one other (amiss damage is) (amiss to so) = ap (λ (d : Damage). closing (damaged_trial number (detail d))) (one_damage tables number damage to is so)

  -- a question has one reply by the tables
  pub one_reply : Alike DataflowOf → ((of : Evaluation) → Alike (Slices of.at of.k)) → ((of : Evaluation) → Alike (ValuesOf of)) → ((of : Evaluation) → Alike (ReplaysOf of)) → ((way : Way) (of : Evaluation) → Alike (FeedingsOf way of))
      → (query : Query) (tables : TablesView) (one other : Plan) → Reply query tables one → Reply query tables other → one ≡ other
  one_reply flows slices values replays feedings list_query tables one other a b = a ∙ sym b
  one_reply flows slices values replays feedings History tables one other a b = a ∙ sym b
  one_reply flows slices values replays feedings (Show number) tables one other a b = one_answer ShowsLines (λ trial to first second same is so. is ∙ (ap telling (same_lines trial to same) ∙ sym so)) tables number one other a b
  one_reply flows slices values replays feedings (Dataflow number) tables one other a b = one_answer DataflowOf flows tables number one other a b
  one_reply flows slices values replays feedings (Slice of) tables one other a b = one_answer (Slices of.at of.k) (slices of) tables of.trial one other a b
  one_reply flows slices values replays feedings (Value of) tables one other a b = one_answer (ValuesOf of) (values of) tables of.trial one other a b
  one_reply flows slices values replays feedings (Replay of) tables one other a b = one_answer (ReplaysOf of) (replays of) tables of.trial one other a b
  one_reply flows slices values replays feedings (Sources of) tables one other a b = one_answer (FeedingsOf to_it of) (feedings to_it of) tables of.trial one other a b
  one_reply flows slices values replays feedings (Effects of) tables one other a b = one_answer (FeedingsOf from_it of) (feedings from_it of) tables of.trial one other a b

pub one_of : ((file : List ℕ) (steps : ℕ) (arguments : List (List ℕ)) (world : World) (one other : Plan) → running.MeansRun file steps arguments world one → running.MeansRun file steps arguments world other → one ≡ other)
    → ((query : Query) (tables : TablesView) (one other : Plan) → Reply query tables one → Reply query tables other → one ≡ other)
    → (command : Option Command) (world : World) (tables : Option TablesView) (one other : Plan) → MeansCommand command world tables one → MeansCommand command world tables other → one ≡ other
one_of runs replies None world tables one other a b = a.1 ∙ sym b.1
one_of runs replies (Some (run_bare steps file arguments)) world tables one other a b = runs file steps arguments world one other a b
one_of runs replies (Some (run_kept steps file arguments)) world tables one other a b = runs file steps arguments world one other a b
one_of runs replies (Some (reads query)) world (Some tables) one other a b = replies query tables one other a.1 b.1
one_of runs replies (Some (reads query)) world None one other a b = absurd a
one_of runs replies (Some (restores number)) world tables one other a b = absurd a
