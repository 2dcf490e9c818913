-- From the call that kept a run to the call that wrote a slice.
use Rattle.std.proofs.Common.{◌≡◌, ℕ, List, ◌++◌, Option, Some, None, refl, sym, subst}
use Rattle.std.proofs.lemmas.Option.{same_Some}
use Rattle.keeper.specs.Keeping.{KeeperView}
use Rattle.keeper.specs.Tables.{TablesView}
use Rattle.now_top.specs.Calls.{Calls, HasTrials, as_before, with_run, with_set, HasTrialsOf}
use Rattle.now_top.specs.Kept.{Clock, KeepsRun, Stored, tables_in}
use Rattle.now_top.specs.World.{World, Plan}
use Rattle.prov_base.specs.declared.place.Pos.{Pos}
use Rattle.prov_outside.specs.Console.{ConsoleView}
use Rattle.prov_outside.specs.Tells.{Tells}
use Rattle.py_model.specs.Capture.{Telling}
use Rattle.sound_trials.specs.Recorded.{KeptMore, no_more, one_more, set_more, WasRecorded}
use Rattle.sound_trials.specs.Sound.{IsSound, RunsAgain}
use Rattle.trial_keeping.specs.Trial.{Run}
use Rattle.trial_slice.specs.Slices.{HasSlice}

-- what a call keeps was recorded
pub recorded_so : (file : List ℕ) (steps : ℕ) (arguments : List (List ℕ)) (world : World) (began : Telling) (clock : Clock) (made : Plan) (run : Run) → KeepsRun file steps arguments world began clock made run → WasRecorded run
recorded_so file steps arguments world began clock made run of = subst WasRecorded (sym of.run_is) (record {
  script = of.script;
  has = of.has;
  before = began;
  after = world.capture.ends;
  asked = of.asked;
  it = of.it;
  records = of.records;
  ended_is = refl;
  pages_are = refl;
})

kept_more : (a : TablesView) (runs : List Run) (b : TablesView) → HasTrials a runs b → KeptMore a b
kept_more a runs b as_before = no_more
kept_more a runs b (with_run {earlier = earlier} between run has room is) = one_more (kept_more a earlier between has) run is
kept_more a runs b (with_set between path number has is) = set_more (kept_more a runs between has) path number is

-- what is told of two moments of a store
pub told_so : (P : KeeperView → KeeperView → Type 0) (one other : Option KeeperView) (old new : KeeperView) → one ≡ Some old → other ≡ Some new → Tells one other P → P old new
told_so P one other old new first second tells = subst (λ (o : Option KeeperView). Tells (Some old) o P) second (subst (λ (o : Option KeeperView). Tells o other P) first tells)

-- the store as the last call began
record ToldAt (told : Option KeeperView) (tables : TablesView) : Type 0 where
  view : KeeperView
  is_told : told ≡ Some view
  tables_are : view.committed ≡ tables

told_at : (one other : Option KeeperView) (tables : TablesView) → tables_in one other ≡ Some tables → ToldAt one tables
told_at None other tables is = absurd (cc)
told_at (Some old) None tables is = absurd (cc)
told_at (Some old) (Some new) tables is = record { view = old; is_told = refl; tables_are = same_Some _ _ is }

pub later_so : (is at end : Stored) (calls : Calls is at) (new : KeeperView) (tables : TablesView) → is.told ≡ Some new → tables_in at.told end.told ≡ Some tables
    → Tells is.told at.told (λ (was then : KeeperView). HasTrialsOf is at calls was.committed then.committed) → KeptMore new.committed tables
later_so is at end calls new tables told last tells =
    let here = told_at at.told end.told tables last in
    let grown = told_so (λ (was then : KeeperView). HasTrialsOf is at calls was.committed then.committed) is.told at.told new here.view told here.is_told tells in
    subst (KeptMore new.committed) here.tables_are (kept_more new.committed grown.0 here.view.committed grown.1.1)

-- the trial has the number that it was given
pub runs_at : (tables : TablesView) (ends : Telling) (at : Pos) (k : ℕ) (text : List ℕ) (m n : ℕ) → n ≡ m → ((slice : HasSlice tables m at k text) → RunsAgain slice.trial ends at k text)
    → (slice : HasSlice tables n at k text) → RunsAgain slice.trial ends at k text
runs_at tables ends at k text m n same runs = subst (λ j. (slice : HasSlice tables j at k text) → RunsAgain slice.trial ends at k text) (sym same) runs

pub sound_at : (tables : TablesView) (ends : Telling) (at : Pos) (k : ℕ) (text : List ℕ) (m n : ℕ) → n ≡ m → ((slice : HasSlice tables m at k text) → IsSound slice.trial ends)
    → (slice : HasSlice tables n at k text) → IsSound slice.trial ends
sound_at tables ends at k text m n same sound = subst (λ j. (slice : HasSlice tables j at k text) → IsSound slice.trial ends) (sym same) sound

-- what was written is these lines
pub wrote_lines : (was is : Option ConsoleView) (text lines : List ℕ) → text ≡ lines → Tells was is (λ (old new : ConsoleView). new.written ≡ old.written ++ text) → Tells was is (λ (old new : ConsoleView). new.written ≡ old.written ++ lines)
wrote_lines was is text lines same told = subst (λ (it : List ℕ). Tells was is (λ (old new : ConsoleView). new.written ≡ old.written ++ it)) same told
