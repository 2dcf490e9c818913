use Rattle.std.proofs.Common.{sym, ap, subst, ◌∙◌}
use Rattle.py_tree.specs.Erasure.{script_of}
use Rattle.py_model.specs.Capture.{with_bytes}
use Rattle.py_model.specs.Meaning.{meaning, starting}
use Rattle.py_model.specs.Occurrences.{up_to_evaluation}
use Rattle.py_model.specs.Running.{outcome, state_in}
use Rattle.recorder.specs.MomentRows.{rows as rows_of}
use Rattle.slice_law.specs.Slices.{Reproduces}
use Rattle.sound_trials.specs.Sound.{capture_in}
use Rattle.sound_trials.proofs.SoundRows.{nested_in, tells_so, spent_so}
use Rattle.sound_trials.proofs.laws.slices_of_sound_trials_run_again.Goals as goal

pub returns : goal.returns
returns c = λ trial ends at k keep text sound has slice.
    let script = script_of trial.script in
    let capture = capture_in trial ends in
    let path = trial.head.path in
    let arguments = trial.arguments in
    let budget = trial.head.budget in
    let ended = outcome capture (meaning script budget) (starting capture path arguments budget) in
    let told = (state_in ended).told in
    let tells = tells_so trial.rows told (nested_in ended (c.moments_nest.ensures capture script path arguments budget)) sound.rows_are sound.fit (λ moments. c.rows_in_order_are_interned.ensures.order (rows_of moments) (c.rows_name_what_stands.ensures moments)) in
    let reached = ap (up_to_evaluation at k) (sym tells) ∙ slice.reached in
    record {
      keep = keep;
      slice = slice;
      told_is = tells;
      reproduces = subst (λ spent. Reproduces script capture path arguments spent at k slice.upto keep)
          (spent_so told (state_in ended).left budget trial.head.steps (c.states_agree_with_moments.ensures.runs capture script path arguments budget).paid sound.steps_are)
          (c.slices_of_scripts_reproduce.ensures trial.text script has capture path arguments budget at k slice.upto keep reached (slice.least path (with_bytes capture.files)));
    }
