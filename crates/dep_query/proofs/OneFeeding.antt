-- An evaluation of a trial has one text of sources and one of effects.
use Rattle.std.proofs.Common.{◌≡◌, ℕ, suc, Bool, true, false, List, [], ◌∷◌, ◌++◌, length, Option, Some, None, refl, sym, ap, subst, ◌∙◌, arith, if◌then◌else◌}
use Rattle.std.proofs.lemmas.Option.{same_Some}
use Rattle.prov_base.specs.declared.place.Pos.{Pos}
use Rattle.py_tree.specs.Erasure.{script_of}
use Rattle.py_tree.specs.Tree.{ScriptTree}
use Rattle.py_model.specs.Moment.{Moment}
use Rattle.py_model.specs.Occurrences.{up_to_evaluation}
use Rattle.row_moments.specs.Moments.{moments_in}
use Rattle.trace_rows.specs.declared.row.Row.{Row}
use Rattle.feedings.specs.declared.site.Site.{Site}
use Rattle.feedings.specs.Sites.{AreSites, sites, site_of, IsTimeOf, Leads, AreFed}
use Rattle.trial_loading.specs.OneTrial.{AreSame}
use Rattle.trial_loading.specs.declared.trial.Trial.{Trial}
use Rattle.feedings.specs.declared.site.Way.{Way}
use Rattle.dep_query.specs.SiteTexts.{IsFedText, LacksSite, site_lines}

same_test : (a b : Bool) → (a ≡ true → b ≡ true) → (b ≡ true → a ≡ true) → a ≡ b
same_test true b to back = sym (to refl)
same_test false true to back = back refl
same_test false false to back = refl

sites_alike : (a b : ℕ → Bool) → ((t : ℕ) → a t ≡ b t) → (told : List Moment) → sites a told ≡ sites b told
sites_alike a b same [] = refl
sites_alike a b same (moment ∷ before) =
    ap (λ (front : List Site). front ++ (if a (length before) then site_of moment before else [])) (sites_alike a b same before)
    ∙ ap (λ t. sites b before ++ (if t then site_of moment before else [])) (same (length before))

one_list : (told : List Moment) (Chosen : ℕ → Type 0) (one other : List Site) → AreSites told Chosen one → AreSites told Chosen other → one ≡ other
one_list told Chosen one other a b =
    a.are ∙ (sites_alike a.chosen b.chosen (λ t. same_test (a.chosen t) (b.chosen t) (λ is. b.all t (a.only t is)) (λ is. a.all t (b.only t is))) told ∙ sym b.are)

one_time : (at : Pos) (k : ℕ) (told : List Moment) (s t : ℕ) → IsTimeOf at k told s → IsTimeOf at k told t → t ≡ s
one_time at k told s t a b =
    let same : suc t ≡ suc s = sym b.length_is ∙ (ap length (same_Some _ _ (sym b.reached ∙ a.reached)) ∙ a.length_is) in omega (arith, same)

one_fed : (way : Way) (script : ScriptTree) (at : Pos) (k : ℕ) (told : List Moment) (one other : List Site) → AreFed way script at k told one → AreFed way script at k told other → one ≡ other
one_fed way script at k told one other a b =
    one_list told (λ t. Leads way script told t a.time) one other a.are (subst (λ time. AreSites told (λ t. Leads way script told t time) other) (one_time at k told a.time b.time a.is_time b.is_time) b.are)

pub one_feeding : (trial other : Trial) (way : Way) (at : Pos) (k : ℕ) (text more : List ℕ) → AreSame trial other → IsFedText way at k trial text → IsFedText way at k other more → text ≡ more
one_feeding trial other way at k text more same a b =
    let there : AreFed way (script_of trial.script) at k (moments_in trial.rows) b.list =
    subst (λ (script : ScriptTree). AreFed way script at k (moments_in trial.rows) b.list) (sym same.script)
    (subst (λ (rows : List Row). AreFed way (script_of other.script) at k (moments_in rows) b.list) (sym same.rows) b.are) in
    a.text_is ∙ (ap site_lines (one_fed way (script_of trial.script) at k (moments_in trial.rows) a.list b.list a.are there) ∙ sym b.text_is)

none_is : {A : Type 0} (found : Option A) (it : A) → found ≡ Some it → found ≡ None → ⊥
none_is found it some none = cc

found_at : (way : Way) (script : ScriptTree) (at : Pos) (k : ℕ) (told : List Moment) (list : List Site) → AreFed way script at k told list → up_to_evaluation at k told ≡ None → ⊥
found_at way script at k told list are none = none_is (up_to_evaluation at k told) are.is_time.upto are.is_time.reached none

pub not_lacking : (trial other : Trial) (way : Way) (at : Pos) (k : ℕ) (text : List ℕ) → AreSame trial other → IsFedText way at k trial text → LacksSite at k other → ⊥
not_lacking trial other way at k text same a lacks =
    found_at way (script_of trial.script) at k (moments_in trial.rows) a.list a.are (subst (λ (rows : List Row). up_to_evaluation at k (moments_in rows) ≡ None) (sym same.rows) lacks)
