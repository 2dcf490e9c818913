-- An evaluation of a trial has one value.
use Rattle.std.proofs.Common.{◌≡◌, sym, ap, subst, ◌∙◌, ℕ, List, [], min, Option, Some, None}
use Rattle.std.proofs.lemmas.Option.{same_Some}
use Rattle.held_rows.specs.ValueTexts.{IsValueText}
use Rattle.prov_base.specs.declared.place.Pos.{Pos}
use Rattle.py_tree.specs.Erasure.{script_of}
use Rattle.py_tree.specs.Tree.{ScriptTree}
use Rattle.py_model.specs.History.{spent_on}
use Rattle.py_model.specs.Moment.{Moment}
use Rattle.py_model.specs.Occurrences.{up_to_evaluation}
use Rattle.py_model.specs.Store.{RunStore, opening}
use Rattle.row_moments.specs.Moments.{moments_in}
use Rattle.slice_law.specs.Slices.{last_value}
use Rattle.trace_rows.specs.declared.row.Row.{Row}
use Rattle.trial_loading.specs.OneTrial.{AreSame}
use Rattle.trial_loading.specs.Rest.{RestView}
use Rattle.trial_loading.specs.declared.trial.Trial.{Trial}
use Rattle.trial_value.specs.Lines.{value_lines}
use Rattle.trial_value.specs.Values.{IsValueAt, LacksEvaluation}

-- rows have one value text at an evaluation
pub one_text : (script : ScriptTree) (store : RunStore) (at : Pos) (k : ℕ) (rows : List Row) (graph more : List ℕ) (steps count : ℕ) → IsValueText script store at k rows graph steps → IsValueText script store at k rows more count
    → value_lines graph steps ≡ value_lines more count
one_text script store at k rows graph more steps count a b =
    let same : b.upto ≡ a.upto = same_Some _ _ (sym b.reached ∙ a.reached) in
    let graphs : graph ≡ more = same_Some _ _ (sym a.text_is ∙ (ap (last_value script store) (sym same) ∙ b.text_is)) in
    let counts : steps ≡ count = a.steps_are ∙ (ap (λ (told : List Moment). min 4294967295 (spent_on told)) (sym same) ∙ sym b.steps_are) in
    ap (λ (g : List ℕ). value_lines g steps) graphs ∙ ap (λ (n : ℕ). value_lines more n) counts

-- what is read of a trial for it
abbrev text_in : (script : ScriptTree) (path : List ℕ) (arguments : List (List ℕ)) (at : Pos) (k : ℕ) (rows : List Row) (graph : List ℕ) (steps : ℕ) → Type 0
text_in script path arguments at k rows graph steps = IsValueText script (opening path arguments []) at k rows graph steps

none_is : {A : Type 0} (found : Option A) (it : A) → found ≡ Some it → found ≡ None → ⊥
none_is found it some none = cc

pub one_value : (trial other : Trial) (at : Pos) (k : ℕ) (text more : List ℕ) → AreSame trial other → IsValueAt at k trial text → IsValueAt at k other more → text ≡ more
one_value trial other at k text more same a b =
    let path : trial.head.path ≡ other.head.path = ap (λ h. h.path) same.head in
    let arguments : trial.arguments ≡ other.arguments = ap (λ (r : RestView). r.arguments) same.rest in
    let there : text_in (script_of trial.script) trial.head.path trial.arguments at k trial.rows b.graph b.steps =
    subst (λ (s : ScriptTree). text_in s trial.head.path trial.arguments at k trial.rows b.graph b.steps) (sym same.script)
    (subst (λ (p : List ℕ). text_in (script_of other.script) p trial.arguments at k trial.rows b.graph b.steps) (sym path)
    (subst (λ (words : List (List ℕ)). text_in (script_of other.script) other.head.path words at k trial.rows b.graph b.steps) (sym arguments)
    (subst (λ (rows : List Row). text_in (script_of other.script) other.head.path other.arguments at k rows b.graph b.steps) (sym same.rows) (b.value [])))) in
    a.text_is ∙ (one_text (script_of trial.script) (opening trial.head.path trial.arguments []) at k trial.rows a.graph b.graph a.steps b.steps (a.value []) there ∙ sym b.text_is)

pub not_lacking : (trial other : Trial) (at : Pos) (k : ℕ) (text : List ℕ) → AreSame trial other → IsValueAt at k trial text → LacksEvaluation at k other → ⊥
not_lacking trial other at k text same a lacks =
    none_is (up_to_evaluation at k (moments_in trial.rows)) (a.value []).upto (a.value []).reached (subst (λ (rows : List Row). up_to_evaluation at k (moments_in rows) ≡ None) (sym same.rows) lacks)
