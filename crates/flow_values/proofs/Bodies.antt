-- The suite of a function in an activation: how a run comes out from its entry.
use Rattle.std.proofs.Common.{◌≡◌, ◌<◌, ◌≤◌, ◌∷◌, [], inl, inr, ℕ, suc, true, false, nat_le, nat_lt, List, length, map, Option, Some, None, Result, Ok, Err, if◌then◌else◌, refl, ap, sym, ◌∙◌, subst, arith, le-leb, eq-eqb}
use Rattle.std.proofs.lemmas.Bool.{lt-ltb, lt-leb}
use Rattle.std.proofs.lemmas.List.{length-map}
use Rattle.prov_base.specs.declared.place.Pos.{Pos}
use Rattle.prov_base.specs.declared.refusal.Memory.{Memory}
use Rattle.py_tree.specs.Tree.{SuiteTree, ScriptTree}
use Rattle.py_value.specs.Contents.{Contents, contents, function}
use Rattle.py_value.specs.Values.{ValuesView}
use Rattle.py_value.specs.declared.value.Value.{Value}
use Rattle.py_value.specs.declared.value.Value.TheVariants.{Fn as FnValue}
use Rattle.std.specs.Option.{option_map}
use Rattle.py_tree.specs.Erasure.{form_of}
use Rattle.py_model.specs.Act.{Act, How, ret, to}
use Rattle.py_model.specs.Capture.{Capture}
use Rattle.py_model.specs.Doing.{standing, Fits, Stands}
use Rattle.py_model.specs.Expressions.{Here, Task, body_of, calling_function, failing, inside, left_with, running, too_many_open, wrong_arguments}
use Rattle.py_tree.specs.Functions.{Function as OneFunction, function_at}
use Rattle.py_model.specs.Meaning.{level}
use Rattle.py_model.specs.Moment.{Moment, enters, parameters_set}
use Rattle.py_model.specs.Running.{State, entering, outcome, spent}
use Rattle.py_model.specs.Told.{TellsOn}
use Rattle.py_model.specs.Statements.{suite}
use Rattle.script_names.specs.Scopes.{function_in}
use Rattle.script_names.specs.Finding.{found_function}
use Rattle.script_names.specs.declared.finding.Found.{Found}
use Rattle.interp_eval.specs.Seen.{machine_seen}
use Rattle.flow_calls.specs.Calling.{HasEntered, WasEntered, WasCutOff, not_entered, not_told as untold_entry}
use Rattle.flow_calls.specs.Choosing.{FailsFor, MayRun}
use Rattle.flow_frames.specs.Machine.{gives_back, resumes, then_act}
use Rattle.flow_frames.specs.Seen.{frame_seen, here_seen, stage_seen}
use Rattle.flow_frames.specs.declared.control.Callee.TheVariants.{Function}
use Rattle.flow_frames.specs.declared.control.Caller.{Caller}
use Rattle.flow_frames.specs.declared.control.Part.{Part}
use Rattle.flow_frames.specs.declared.frames.FlowFrames.{FlowFrames}
use Rattle.flow_frames.specs.declared.frames.Spot.{Spot}
use Rattle.flow_values.specs.Calls.{calling_so, failing_so}
use Rattle.flow_values.specs.Step.{IsCut, StepsFrom, meant}
use Rattle.flow_values.specs.Value.{GoesOnFrom}
use Rattle.flow_values.specs.declared.next.FlowNext.{FlowNext}
use Rattle.flow_values.specs.declared.next.FlowNext.TheVariants.{More, Finished, Raised, Spent, Unanswered}
use Rattle.flow_values.proofs.Levels.{Unfolds}
use Rattle.flow_values.proofs.Outcomes.{same_behind}
use Rattle.flow_values.proofs.Stepping.{cut_from, steps_on, told_same, told_weaker, unasked}

-- the suite of a function, at the spot of its activation
pub body_so : (script : ScriptTree) (next : Task → Act) (table : ValuesView) (spot : Spot) (f : OneFunction) (activation number more : ℕ) (run : SuiteTree) → more ≡ suc spot.open_activations → function_in script (Some number) ≡ Some f → run ≡ f.body
    → suite script next (inside script next (here_seen script table spot) f activation) f.body
    ≡ suite script next (here_seen script table (record { scope = record { activation = activation; function = Some number }; open_activations = more; handled = None; in_class = None; line = spot.line })) run
body_so script next table spot f activation number more run counted numbered same =
    ap (suite script next (inside script next (here_seen script table spot) f activation)) (sym same)
    ∙ ap (λ (o : Option OneFunction). suite script next (record { activation = activation; function = o; open_activations = suc spot.open_activations; handled = None; in_class = None; line = spot.line }) run) (sym numbered)
    ∙ ap (λ n. suite script next (record { activation = activation; function = function_in script (Some number); open_activations = n; handled = None; in_class = None; line = spot.line }) run) (sym counted)

-- a call of a function that may be run
runs_when : (script : ScriptTree) (next : Task → Act) (here : Here) (at : Pos) (called : Contents) (o : Option OneFunction) (f : OneFunction) (values : List Contents) (go : Contents → Act) → o ≡ Some f → length f.params ≡ length values
    → here.open_activations < 1000 → calling_function script next here at called o values go ≡ running script next here at f values go
runs_when script next here at called o f values go is counted room =
    ap (λ o. calling_function script next here at called o values go) is
    ∙ ap (λ b. if b then (if nat_lt here.open_activations 1000 then running script next here at f values go else failing here at too_many_open (called ∷ values)) else failing here at wrong_arguments (called ∷ values))
    (eq-eqb (length f.params) (length values) counted)
    ∙ ap (λ b. if b then running script next here at f values go else failing here at too_many_open (called ∷ values)) (lt-ltb here.open_activations 1000 room)

module _ (script : ScriptTree) (frames : FlowFrames) (caller : Caller) (at place : Pos) (found : Found) (values : List Value) (p : Part) (may : MayRun script place (length values) frames.spot.open_activations found) where
  -- what follows the call, what waits behind it, and the suite of an activation
  abbrev pub follows_call : ValuesView → (Task → Act) → How → Act
  follows_call table next =
      left_with script next (gives_back script next (here_seen script table frames.spot) (machine_seen table caller.eval) (then_act script next (here_seen script table frames.spot) p.stmt.now.pos (form_of p.stmt.now.form.value) (stage_seen table p.stage))
      (option_map (contents table) caller.made))

  abbrev pub waits_behind : ValuesView → (Task → Act) → How → Act
  waits_behind table next = resumes script next (map (frame_seen script table) frames.below.items) (λ how. ret how)

  abbrev pub body_act : ValuesView → (Task → Act) → ℕ → Act
  body_act table next activation = suite script next (inside script next (here_seen script table frames.spot) (found_function found) activation) (found_function found).body

  abbrev pub in_body : ValuesView → (Task → Act) → ℕ → Act
  in_body table next activation = to (to (body_act table next activation) (follows_call table next)) (waits_behind table next)

  abbrev pub after_entry : ValuesView → State → State
  after_entry table s = entering at found.at found.params.now.list.items (map (contents table) values) s

  runs_so : (table : ValuesView) (next : Task → Act)
      → calling_so script frames caller at (Function place) values p table next
      ≡ to (running script next (here_seen script table frames.spot) at (found_function found) (map (contents table) values)
      (gives_back script next (here_seen script table frames.spot) (machine_seen table caller.eval) (then_act script next (here_seen script table frames.spot) p.stmt.now.pos (form_of p.stmt.now.form.value) (stage_seen table p.stage)) (option_map (contents table) caller.made)))
      (waits_behind table next)
  runs_so table next =
      ap (λ a. to a (waits_behind table next))
      (runs_when script next (here_seen script table frames.spot) at (function place) (function_at script place) (found_function found) (map (contents table) values)
      (gives_back script next (here_seen script table frames.spot) (machine_seen table caller.eval) (then_act script next (here_seen script table frames.spot) p.stmt.now.pos (form_of p.stmt.now.form.value) (stage_seen table p.stage)) (option_map (contents table) caller.made))
      may.is_there (may.counted ∙ sym (length-map values (contents table))) may.room)

  module _ (unfolds : Unfolds) where
    comes : (table : ValuesView) (capture : Capture) (s : State) (n : ℕ) → s.left < n → suc (length values) ≤ s.left
        → outcome capture (calling_so script frames caller at (Function place) values p table (level script n)) s ≡ outcome capture (in_body table (level script n) (suc s.entered)) (after_entry table s)
    comes table capture s n enough pays =
        let task_now = body_of (inside script (level script n) (here_seen script table frames.spot) (found_function found) (suc s.entered)) (found_function found).body in
        let paid : nat_le (suc (length (map (contents table) values))) s.left ≡ true =
        le-leb (suc (length (map (contents table) values))) s.left (subst (λ k. suc k ≤ s.left) (sym (length-map values (contents table))) pays) in
        ap (λ a. outcome capture a s) (runs_so table (level script n))
        ∙ ap (λ b. if b then outcome capture (to (to (level script n task_now) (follows_call table (level script n))) (waits_behind table (level script n))) (after_entry table s) else spent s) paid
        ∙ same_behind capture (waits_behind table (level script n)) (to (level script n task_now) (follows_call table (level script n))) (to (body_act table (level script n) (suc s.entered)) (follows_call table (level script n)))
        (after_entry table s) (after_entry table s)
        (same_behind capture (follows_call table (level script n)) (level script n task_now) (body_act table (level script n) (suc s.entered)) (after_entry table s) (after_entry table s)
        (unfolds capture script n task_now (after_entry table s) (omega (arith, enough))))

    module _ (after : FlowFrames) (fits : Fits) (stood stands : Stands) (left rest : ℕ) (was is : Option (List Moment)) (names : List (List ℕ)) (names_are : names ≡ found.params.now.list.items) where
      module _ (activation : ℕ) (entered : HasEntered {E = Memory} at found.at names values left rest fits stood stands was is (Ok (Some activation))) where
        entry : (table : ValuesView) (capture : Capture) → fits table capture → (s : State) → stood table capture (standing s) → s.left ≡ left
            → WasEntered at found.at found.params.now.list.items values activation rest (stands table capture) was is table s
        entry table capture fit s stood_so steps =
            subst (λ ns. WasEntered at found.at ns values activation rest (stands table capture) was is table s) names_are (entered table capture fit s stood_so steps)

        pub entered_on : ((table : ValuesView) (next : Task → Act) → in_body table next activation ≡ meant script after table next)
            → StepsFrom {E = Memory} script (calling_so script frames caller at (Function place) values p) after left rest fits stood stands was is (Ok More)
        entered_on means table capture fit s stood_so steps n enough =
            let e = entry table capture fit s stood_so steps in
            record {
              next = after_entry table s;
              news = enters at found.at (map (contents table) values) (parameters_set (suc s.entered) found.params.now.list.items (map (contents table) values)) ∷ [];
              few = tt;
              comes_out =
                  comes table capture s n (omega (arith, steps, enough)) e.pays
                  ∙ ap (λ a. outcome capture a (after_entry table s)) (ap (in_body table (level script n)) (sym e.next_is) ∙ means table (level script n));
              told_is = refl;
              stands_so = e.stands;
              left_is = e.left_is;
              tells = e.tells;
            }

        pub entered_cut : (want : Memory) → StepsFrom script (calling_so script frames caller at (Function place) values p) after left rest fits stood stands was is (Err want)
        entered_cut want table capture fit s stood_so steps n enough =
            let e = entry table capture fit s stood_so steps in
            record {
              rest = in_body table (level script n) (suc s.entered);
              next = after_entry table s;
              news = enters at found.at (map (contents table) values) (parameters_set (suc s.entered) found.params.now.list.items (map (contents table) values)) ∷ [];
              few = tt;
              comes_out = comes table capture s n (omega (arith, steps, enough)) e.pays;
              told_is = refl;
              refused = unasked (stands table capture) (after_entry table s) e.stands;
              tells = told_weaker was is _ _ (λ told more same. inr same) e.tells;
            }

      pub none_entered : HasEntered {E = Memory} at found.at names values left rest fits stood stands was is (Ok None)
          → StepsFrom {E = Memory} script (calling_so script frames caller at (Function place) values p) after left rest fits stood stands was is (Ok Spent)
      none_entered known table capture fit s stood_so steps n enough =
          let unpaid : nat_le (suc (length (map (contents table) values))) s.left ≡ false =
          lt-leb (suc (length (map (contents table) values))) s.left (subst (λ k. s.left < suc k) (sym (length-map values (contents table))) (omega (arith, steps, known.0))) in
          record {
            next = s;
            comes_out =
                ap (λ a. outcome capture a s) (runs_so table (level script n))
                ∙ ap (λ b. if b
                then outcome capture (to (to (level script n (body_of (inside script (level script n) (here_seen script table frames.spot) (found_function found) (suc s.entered)) (found_function found).body)) (follows_call table (level script n)))
                (waits_behind table (level script n))) (after_entry table s)
                else spent s) unpaid;
            stands_so = known.1.1.1 table capture fit s stood_so;
            left_is = steps ∙ sym known.1.0;
            told_is = refl;
            tells = known.1.1.0;
          }

      refused_so : (table : ValuesView) (capture : Capture) (s : State) (n : ℕ) → s.left < n → WasCutOff at found.at found.params.now.list.items values (stands table capture) was is table s
          → IsCut capture (calling_so script frames caller at (Function place) values p table (level script n)) s (stands table capture) was is
      refused_so table capture s n enough (not_entered holds same) = record {
        rest = calling_so script frames caller at (Function place) values p table (level script n);
        next = s;
        news = [];
        few = tt;
        comes_out = refl;
        told_is = refl;
        refused = unasked (stands table capture) s holds;
        tells = told_weaker was is _ _ (λ told more same. inl same) (subst (λ is. TellsOn was is (λ told more. more ≡ told)) (sym same) (told_same was));
      }
      refused_so table capture s n enough (untold_entry pays holds same) = record {
        rest = in_body table (level script n) (suc s.entered);
        next = after_entry table s;
        news = enters at found.at (map (contents table) values) (parameters_set (suc s.entered) found.params.now.list.items (map (contents table) values)) ∷ [];
        few = tt;
        comes_out = comes table capture s n enough pays;
        told_is = refl;
        refused = unasked (stands table capture) (after_entry table s) holds;
        tells = told_weaker was is _ _ (λ told more same. inl same) same;
      }

      pub refused_entry : (want : Memory) → HasEntered at found.at names values left rest fits stood stands was is (Err want)
          → StepsFrom script (calling_so script frames caller at (Function place) values p) after left rest fits stood stands was is (Err want)
      refused_entry want known table capture fit s stood_so steps n enough =
          refused_so table capture s n (omega (arith, steps, enough)) (subst (λ ns. WasCutOff at found.at ns values (stands table capture) was is table s) names_are (known table capture fit s stood_so steps))

abbrev pub waits_for : ScriptTree → FlowFrames → ValuesView → (Task → Act) → How → Act
waits_for script frames table next = resumes script next (map (frame_seen script table) frames.below.items) (λ how. ret how)

-- a failing call is next
pub fails_on : (script : ScriptTree) (frames : FlowFrames) (caller : Caller) (at place : Pos) (values : List Value) (p : Part) (after : FlowFrames) (count reason left : ℕ) (fits : Fits) (stood : Stands) (was : Option (List Moment))
    → FailsFor script place count frames.spot.open_activations reason → length values ≡ count → (result : Result FlowNext Memory) → GoesOnFrom (λ script. failing_so script frames at reason (FnValue place ∷ values)) after result
    → StepsFrom script (calling_so script frames caller at (Function place) values p) after left left fits stood stood was was result
fails_on script frames caller at place values p after count reason left fits stood was fails counted (Ok More) means =
    steps_on script (calling_so script frames caller at (Function place) values p) after left fits stood was (λ table capture s n enough.
    ap (λ a. outcome capture a s) (ap (λ a. to a (waits_for script frames table (level script n)))
    (fails (level script n) (here_seen script table frames.spot) at (function place) (map (contents table) values)
    (gives_back script (level script n) (here_seen script table frames.spot) (machine_seen table caller.eval) (then_act script (level script n) (here_seen script table frames.spot) p.stmt.now.pos (form_of p.stmt.now.form.value) (stage_seen table p.stage))
    (option_map (contents table) caller.made)) refl (length-map values (contents table) ∙ counted)) ∙ means script table (level script n)))
fails_on script frames caller at place values p after count reason left fits stood was fails counted (Err want) means = cut_from script (calling_so script frames caller at (Function place) values p) after left fits stood was want
fails_on script frames caller at place values p after count reason left fits stood was fails counted (Ok Finished) means = absurd means
fails_on script frames caller at place values p after count reason left fits stood was fails counted (Ok (Raised o line)) means = absurd means
fails_on script frames caller at place values p after count reason left fits stood was fails counted (Ok Spent) means = absurd means
fails_on script frames caller at place values p after count reason left fits stood was fails counted (Ok Unanswered) means = absurd means
