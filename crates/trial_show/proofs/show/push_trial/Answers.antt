use Rattle.std.proofs.Common.{◌≡◌, ℕ, List, ◌++◌, OnOk, Result, ap, ◌∙◌}
use Rattle.keeper.specs.declared.records.Head.{Head}
use Rattle.py_tree.specs.Erasure.{script_of}
use Rattle.trace_rows.specs.declared.row.Row.{Row}
use Rattle.trial_show.specs.Functions.{lines_in}
use Rattle.trial_show.specs.Shown.{opening_lines, argument_lines, middle_lines, input_lines, output_line, final_lines}
use Rattle.trial_loading.specs.declared.trial.Trial.{Trial}
use Rattle.trial_list.specs.Lines.{start_text}
use Rattle.trial_show.specs.Shows.{show_bytes}
use Rattle.trial_show.proofs.Parts.{seven_parts}
use Rattle.trial_show.proofs.show.push_trial.Goals as goal

middle_same : (head : Head) (a b c d : List ℕ) → a ≡ c → b ≡ d → middle_lines head a b ≡ middle_lines head c d
middle_same head a b c d first second = ap (λ (text : List ℕ). middle_lines head text b) first ∙ ap (λ (text : List ℕ). middle_lines head c text) second

shown : {T E : Type 0} (result : Result T E) (trial : Trial) (o p1 p2 p3 p4 p5 p6 p7 b' m' d' e' f' g' : List ℕ) → p1 ≡ o ++ opening_lines trial.number trial.head → p2 ≡ p1 ++ b' → b' ≡ argument_lines trial.arguments → p3 ≡ p2 ++ m'
    → m' ≡ middle_lines trial.head (start_text trial.head.started) (start_text trial.head.ended) → p4 ≡ p3 ++ d' → d' ≡ input_lines trial.capture.files → p5 ≡ p4 ++ e' → e' ≡ output_line trial.head trial.output
    → p6 ≡ p5 ++ f' → f' ≡ final_lines trial.finals.items → g' ≡ lines_in trial.rows (script_of trial.script).body → OnOk result (p7 ≡ p6 ++ g') → OnOk result (p7 ≡ o ++ show_bytes trial)
shown result trial o p1 p2 p3 p4 p5 p6 p7 b' m' d' e' f' g' w1 w2 is2 w3 is3 w4 is4 w5 is5 w6 is6 is7 last = seven_parts result o p1 p2 p3 p4 p5 p6 p7 _ _ b' _ m' _ d' _ e' _ f' _ g' w1 w2 is2 w3 is3 w4 is4 w5 is5 w6 is6 is7 last

pub returns : goal.returns
returns c = shown c.push_functions.result c.args.trial.now c.args.out.now.items _ _ _ _ _ _ _ _ _ _ _ _ _ c.in_ok-push_opening.ensures
    c.in_ok-push_arguments.ensures (ap argument_lines c.as_slice.ensures)
    c.in_ok-push_middle.ensures (middle_same c.args.trial.now.head _ _ _ _ (c.as_str.ensures.value ∙ c.in_ok-started.ensures) (c.as_str-2.ensures.value ∙ c.in_ok-ended.ensures))
    c.in_ok-push_inputs.ensures (ap input_lines c.files.ensures.files)
    c.in_ok-push_output.ensures (ap (output_line c.args.trial.now.head) c.as_slice-2.ensures)
    c.in_ok-push_finals.ensures (ap final_lines c.deref.ensures.value)
    (ap (λ (rows : List Row). lines_in rows (script_of c.args.trial.now.script).body) c.as_slice-3.ensures)
    c.push_functions.ensures
