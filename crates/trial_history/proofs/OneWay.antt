-- A trial is restored in one way.
use Rattle.std.proofs.Common.{◌≡◌, ◌++◌, ℕ, List, [], ◌∷◌, Option, Some, None, Result, Ok, Err, refl, sym, ap, subst, ◌∙◌}
use Rattle.std.proofs.lemmas.Option.{same_Some}
use Rattle.prov_outside.specs.Folder.{Files}
use Rattle.prov_outside.specs.declared.folder.Found.{Found}
use Rattle.keeper.specs.Keeping.{KeeperView}
use Rattle.keeper.specs.Tables.{TablesView, head_at, with_current}
use Rattle.trial_tables.specs.declared.damage.Damage.{Damage}
use Rattle.prov_outside.specs.declared.trouble.Trouble.TheVariants.{Failed, Memory as NoMemory}
use Rattle.trial_keeping.specs.Heads.{IsOfList}
use Rattle.trial_keeping.specs.declared.fault.TrialFault.{TrialFault}
use Rattle.trial_keeping.specs.declared.fault.TrialFault.TheVariants.{NoTrial, Damaged, Memory}
use Rattle.trial_loading.specs.Loading.{IsDamaged, IsLoaded, Loads, rest_of}
use Rattle.trial_loading.specs.OneTrial.{AreSame}
use Rattle.trial_loading.specs.Rest.{RestView}
use Rattle.trial_loading.specs.declared.trial.Trial.{Trial as OneTrial}
use Rattle.trial_history.specs.declared.fault.RestoreFault.{RestoreFault}
use Rattle.trial_history.specs.declared.fault.RestoreFault.TheVariants.{Trial, Folder}
use Rattle.trial_history.specs.Current.{Sets, settled}
use Rattle.trial_history.specs.OneRestoring.{LeaveTheSame, RestoringFrom}
use Rattle.trial_history.specs.Puts.{OneFile, End, all_put, refused, short, Answers, Puts, restored_lines, with_files}
use Rattle.trial_history.specs.Restoring.{IsOfSetting, Restores, files_of, found_files, not_loaded, not_put, put}
use Rattle.trial_history.proofs.Putting.{AllPut, all_were}

-- what is known of a restoring that went well
pub record WentWell (number : ℕ) (before after : KeeperView) (was is : Files) (told told' : List ℕ) : Type 0 where
  pub trial : OneTrial
  pub is_loaded : IsLoaded before.seen number trial
  pub files : (path : List ℕ) → is path ≡ with_files (files_of trial) was path
  pub lines : told' ≡ told ++ restored_lines (files_of trial)
  pub tables : after ≡ settled (with_current trial.head.path number before.committed)

never_both : (result : Result (Unit {0}) RestoreFault) (fault : RestoreFault) → result ≡ Ok tt → result ≡ Err fault → ⊥
never_both result fault ok err = cc

well : (number : ℕ) (result : Result (Unit {0}) RestoreFault) (before after : KeeperView) (told told' : List ℕ) (count count' : ℕ) (was is : Files) → result ≡ Ok tt
    → Restores number result (Some before) (Some after) told told' count count' (Some was) (Some is) → WentWell number before after was is told told'
well number result before after told told' count count' was is ok (not_loaded fault answer of_loading loads lines faults files) = absurd (never_both result (Trial fault) ok answer)
well number result before after told told' count count' was is ok (not_put trial fault answer from puts tables) = absurd (never_both result fault ok answer)
well number result before after told told' count count' was is ok (put trial of_setting from puts sets) =
    let all = all_were (files_of trial) told told' count count' (Some was) (Some is) puts in
    let set : Sets {T = Unit {0}} {E = RestoreFault} (with_current trial.head.path number) (Ok tt) before after = subst (λ (r : Result (Unit {0}) RestoreFault). Sets (with_current trial.head.path number) r before after) ok sets in
    record { trial = trial; is_loaded = from.is_loaded; files = all.folder; lines = all.lines; tables = set }

pub went_well : (number : ℕ) (before : KeeperView) (was : Files) (told : List ℕ) (a : RestoringFrom number before was told (Ok tt)) → WentWell number before a.after was a.files told a.text
went_well number before was told a = well number (Ok tt) before a.after told a.text a.count a.new_count was a.files refl a.restores

same_fault : (result : Result (Unit {0}) RestoreFault) (one other : TrialFault) → result ≡ Err (Trial one) → result ≡ Err (Trial other) → one ≡ other
same_fault result one other is same = cc

-- puts answer no other fault of a trial than out of memory
memory_of : (ended : End) (fault : TrialFault) → Answers ended (Err (Trial fault)) → fault ≡ Memory
memory_of all_put fault answers = absurd answers
memory_of (refused path Failed) fault answers = answers
memory_of (refused path NoMemory) fault answers = answers
memory_of short fault answers = answers

same_answer : (result : Result (Unit {0}) RestoreFault) (one other : RestoreFault) → result ≡ Err one → result ≡ Err other → one ≡ other
same_answer result one other is same = cc

-- a fault that the loading alone answers
found : (number : ℕ) (result : Result (Unit {0}) RestoreFault) (fault : TrialFault) (before after : KeeperView) (told told' : List ℕ) (count count' : ℕ) (was is : Files) → result ≡ Err (Trial fault)
    → (fault ≡ Memory → ⊥) → (IsOfList fault → ⊥) → Restores number result (Some before) (Some after) told told' count count' (Some was) (Some is) → Loads number (Err fault) before after
found number result fault before after told told' count count' was is answers no_memory no_setting (not_loaded other answer of_loading loads lines faults files) =
    subst (λ (f : TrialFault). Loads number (Err f) before after) (same_fault result other fault answer answers) loads
found number result fault before after told told' count count' was is answers no_memory no_setting (not_put trial other answer from puts tables) =
    let same : Puts (files_of trial) (Err (Trial fault)) told told' count count' (Some was) (Some is) =
    subst (λ (f : RestoreFault). Puts (files_of trial) (Err f) told told' count count' (Some was) (Some is)) (same_answer result other (Trial fault) answer answers) puts in
    absurd (no_memory (memory_of same.ended fault same.answers))
found number result fault before after told told' count count' was is answers no_memory no_setting (put trial of_setting from puts sets) =
    absurd (no_setting (subst (λ (r : Result (Unit {0}) RestoreFault). IsOfSetting r) answers of_setting))

not_memory : (number : ℕ) (damage : Damage) → Damaged number damage ≡ Memory → ⊥
not_memory number damage is = cc

none_is_memory : (number : ℕ) → NoTrial number ≡ Memory → ⊥
none_is_memory number is = cc

pub is_damaged : (number n : ℕ) (before : KeeperView) (was : Files) (told : List ℕ) (damage : Damage) → RestoringFrom number before was told (Err (Trial (Damaged n damage))) → IsDamaged before.seen number damage
is_damaged number n before was told damage a =
    (found number (Err (Trial (Damaged n damage))) (Damaged n damage) before a.after told a.text a.count a.new_count was a.files refl (not_memory n damage) (λ none. none) a.restores).0

pub is_absent : (number n : ℕ) (before : KeeperView) (was : Files) (told : List ℕ) → RestoringFrom number before was told (Err (Trial (NoTrial n))) → head_at before.seen.heads number ≡ None
is_absent number n before was told a =
    (found number (Err (Trial (NoTrial n))) (NoTrial n) before a.after told a.text a.count a.new_count was a.files refl (none_is_memory n) (λ none. none) a.restores).0

-- ---- one way

same_files : (trial other : OneTrial) → AreSame trial other → files_of trial ≡ files_of other
same_files trial other same =
    let path : trial.head.path ≡ other.head.path = ap (λ h. h.path) same.head in
    let found : trial.capture.files ≡ other.capture.files = ap (λ (r : RestView). r.capture.files) same.rest in
    ap (λ (p : List ℕ). (p, trial.text) ∷ found_files trial.capture.files) path
    ∙ (ap (λ (t : List ℕ). (other.head.path, t) ∷ found_files trial.capture.files) same.text
    ∙ ap (λ (fs : List (List ℕ × Found)). (other.head.path, other.text) ∷ found_files fs) found)

pub one_way : ((tables : TablesView) (number : ℕ) (trial other : OneTrial) → IsLoaded tables number trial → IsLoaded tables number other → AreSame trial other)
    → (number : ℕ) (before : KeeperView) (was : Files) (told : List ℕ) (a b : RestoringFrom number before was told (Ok tt)) → LeaveTheSame a b
one_way one_trial number before was told a b =
    let x = went_well number before was told a in
    let y = went_well number before was told b in
    let same = one_trial before.seen number x.trial y.trial x.is_loaded y.is_loaded in
    let files : files_of x.trial ≡ files_of y.trial = same_files x.trial y.trial same in
    record {
      tables = x.tables ∙ (ap (λ h. settled (with_current h.path number before.committed)) same.head ∙ sym y.tables);
      text = x.lines ∙ (ap (λ (fs : List OneFile). told ++ restored_lines fs) files ∙ sym y.lines);
      files = λ path. x.files path ∙ (ap (λ (fs : List OneFile). with_files fs was path) files ∙ sym (y.files path));
    }

pub not_absent : (number n : ℕ) (before : KeeperView) (was : Files) (told : List ℕ) → RestoringFrom number before was told (Ok tt) → RestoringFrom number before was told (Err (Trial (NoTrial n))) → ⊥
not_absent number n before was told a b = none_is (head_at before.seen.heads number) (went_well number before was told a).trial.head (went_well number before was told a).is_loaded.head_is (is_absent number n before was told b) where
  none_is : {A : Type 0} (found : Option A) (it : A) → found ≡ Some it → found ≡ None → ⊥
  none_is found it some none = cc
