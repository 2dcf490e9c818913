-- An evaluation of a trial has one slice.
use Rattle.std.proofs.Common.{◌≡◌, refl, sym, ap, subst, ◌∙◌, ℕ, Bool, true, false, IsTrue, List, [], Option, Some, None}
use Rattle.std.proofs.Math.Path.{fun_ext}
use Rattle.std.proofs.lemmas.Option.{same_Some}
use Rattle.prov_base.specs.declared.place.Pos.{Pos}
use Rattle.py_tree.specs.Erasure.{script_of}
use Rattle.py_tree.specs.Tree.{ScriptTree}
use Rattle.py_model.specs.Moment.{Moment}
use Rattle.py_model.specs.Occurrences.{up_to_evaluation}
use Rattle.py_model.specs.Store.{RunStore, opening}
use Rattle.row_moments.specs.Moments.{moments_in}
use Rattle.slice_law.specs.Closed.{IsLeast}
use Rattle.slice_text.specs.Cut.{cut_text}
use Rattle.trace_rows.specs.declared.row.Row.{Row}
use Rattle.trial_loading.specs.OneTrial.{AreSame}
use Rattle.trial_loading.specs.Rest.{RestView}
use Rattle.trial_loading.specs.declared.trial.Trial.{Trial}
use Rattle.trial_slice.specs.Sliced.{IsSliceOf}

-- tests that are true of the same numbers are the same
same_test : (b d : Bool) → (IsTrue b → IsTrue d) → (IsTrue d → IsTrue b) → b ≡ d
same_test true true there back = refl
same_test false false there back = refl
same_test true false there back = sym (there refl)
same_test false true there back = back refl

one_set : (script : ScriptTree) (store : RunStore) (told : List Moment) (one two : ℕ → Bool) → IsLeast script store told one → IsLeast script store told two → one ≡ two
one_set script store told one two a b = fun_ext (λ s. same_test (one s) (two s) (a.inside two b.closed s) (b.inside one a.closed s))

-- the evaluation and its least set, by what is read of a trial
one_keep : (rows : List Row) (script : ScriptTree) (arguments : List (List ℕ)) (source : List ℕ) (at : Pos) (k : ℕ) (one two : ℕ → Bool) (first second : List Moment)
    → up_to_evaluation at k (moments_in rows) ≡ Some first → up_to_evaluation at k (moments_in rows) ≡ Some second
    → IsLeast script (opening source arguments []) first one → IsLeast script (opening source arguments []) second two → one ≡ two
one_keep rows script arguments source at k one two first second reached also least other =
    let same : second ≡ first = same_Some _ _ (sym also ∙ reached) in
    one_set script (opening source arguments []) first one two least (subst (λ (told : List Moment). IsLeast script (opening source arguments []) told two) same other)

none_is : {A : Type 0} (found : Option A) (it : A) → found ≡ Some it → found ≡ None → ⊥
none_is found it some none = cc

pub same_keep : (trial other : Trial) (at : Pos) (k : ℕ) (one two : ℕ → Bool) (text more : List ℕ) → AreSame trial other → IsSliceOf trial at k one text → IsSliceOf other at k two more → one ≡ two
same_keep trial other at k one two text more same a b =
    let arguments : trial.arguments ≡ other.arguments = ap (λ (r : RestView). r.arguments) same.rest in
    one_keep trial.rows (script_of trial.script) trial.arguments trial.text at k one two a.upto b.upto a.reached
    (subst (λ (rows : List Row). up_to_evaluation at k (moments_in rows) ≡ Some b.upto) (sym same.rows) b.reached)
    (a.least trial.text [])
    (subst (λ (script : ScriptTree). IsLeast script (opening trial.text trial.arguments []) b.upto two) (sym same.script)
    (subst (λ (words : List (List ℕ)). IsLeast (script_of other.script) (opening trial.text words []) b.upto two) (sym arguments) (b.least trial.text [])))

pub one_slice : (trial other : Trial) (at : Pos) (k : ℕ) (one two : ℕ → Bool) (text more : List ℕ) → AreSame trial other → IsSliceOf trial at k one text → IsSliceOf other at k two more → text ≡ more
one_slice trial other at k one two text more same a b =
    a.cut_is
    ∙ (ap (λ (keep : ℕ → Bool). cut_text keep (script_of trial.script) trial.text) (same_keep trial other at k one two text more same a b)
    ∙ sym
    (subst (λ (script : ScriptTree). more ≡ cut_text two script trial.text) (sym same.script)
    (subst (λ (source : List ℕ). more ≡ cut_text two (script_of other.script) source) (sym same.text) b.cut_is)))

pub not_lacking : (trial other : Trial) (at : Pos) (k : ℕ) (keep : ℕ → Bool) (text : List ℕ) → AreSame trial other → IsSliceOf trial at k keep text → up_to_evaluation at k (moments_in other.rows) ≡ None → ⊥
not_lacking trial other at k keep text same a lacks =
    none_is (up_to_evaluation at k (moments_in trial.rows)) a.upto a.reached (subst (λ (rows : List Row). up_to_evaluation at k (moments_in rows) ≡ None) (sym same.rows) lacks)
