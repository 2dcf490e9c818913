-- What restoring comes to, stage by stage.
use Rattle.std.proofs.Common.{◌≡◌, ℕ, zero, suc, ◌+◌, ◌<◌, ◌≤◌, List, [], ◌∷◌, length, Bool, false, Option, Some, None, IfSome, Result, Ok, Err, refl, sym, ap, subst, ◌∙◌, arith}
use Rattle.std.proofs.lemmas.Option.{slice_get_within}
use Rattle.prov_outside.specs.Folder.{Files}
use Rattle.prov_outside.specs.Tells.{Tells}
use Rattle.prov_outside.specs.declared.folder.Found.{Found}
use Rattle.capture.specs.Files.{IsAscending}
use Rattle.keeper.specs.declared.records.Head.{Head}
use Rattle.keeper.specs.Keeping.{KeeperView, AreKept}
use Rattle.keeper.specs.Tables.{TablesView, HasTrial, head_at, with_current}
use Rattle.trial_keeping.specs.declared.fault.TrialFault.{TrialFault}
use Rattle.trial_loading.specs.Loading.{IsLoaded, IsOfLoading, IsTrial, Loads}
use Rattle.trial_loading.specs.declared.trial.Trial.{Trial as OneTrial}
use Rattle.trial_history.specs.declared.fault.RestoreFault.{RestoreFault}
use Rattle.trial_history.specs.declared.fault.RestoreFault.TheVariants.{Trial, Folder}
use Rattle.trial_history.specs.Current.{Sets}
use Rattle.trial_history.specs.Puts.{OneFile, Puts}
use Rattle.trial_history.specs.Restoring.{IsFrom, Restores, files_of, found_files, not_loaded, not_put, put}
use Rattle.trial_history.proofs.Putting.{tells_more, tells_same}

-- ---- the trial is there

has_trial : (tables : TablesView) (number : ℕ) (head : Head) → head_at tables.heads number ≡ Some head → HasTrial tables number
has_trial tables zero head is = absurd (cc is)
has_trial tables (suc earlier) head is = let within : earlier < length tables.heads = slice_get_within tables.heads earlier head is in (omega arith, omega (arith, within))

pub is_there : (told : Option KeeperView) (is_open : Bool) (number : ℕ) (trial : OneTrial) → is_open ≡ false → IfSome told (AreKept is_open) → IfSome told (λ kept. IsLoaded kept.seen number trial)
    → IfSome told (λ kept. HasTrial kept.committed number)
is_there None is_open number trial closed kept loaded = tt
is_there (Some view) is_open number trial closed kept loaded =
    subst (λ (tables : TablesView). HasTrial tables number) (kept.closed closed) (has_trial view.seen number trial.head loaded.head_is)

-- what was loaded is seen
pub is_seen : (old new : Option KeeperView) (number : ℕ) (trial : OneTrial) → Tells old new (Loads number (Ok trial)) → IfSome new (λ kept. IsLoaded kept.seen number trial)
is_seen old None number trial told = tt
is_seen None (Some b) number trial told = absurd told
is_seen (Some a) (Some b) number trial told = subst (λ (v : KeeperView). IsLoaded v.seen number trial) (sym told.1) told.0

pub same_after : (old new : Option KeeperView) (number : ℕ) (trial : OneTrial) → Tells old new (Loads number (Ok trial)) → Tells old new (λ before after. after ≡ before)
same_after old new number trial told = tells_more old new (Loads number (Ok trial)) (λ before after. after ≡ before) (λ a b both. both.1) told

-- ---- its files

files_are : (path text : List ℕ) (files : List (List ℕ × Found)) (trial : OneTrial) → path ≡ trial.head.path → text ≡ trial.text → files ≡ trial.capture.files
    → (path, text) ∷ found_files files ≡ files_of trial
files_are path text files trial is_path is_text are_files =
    ap (λ (p : List ℕ). (p, text) ∷ found_files files) is_path
    ∙ (ap (λ (t : List ℕ). (trial.head.path, t) ∷ found_files files) is_text ∙ ap (λ (fs : List (List ℕ × Found)). (trial.head.path, trial.text) ∷ found_files fs) are_files)

pub puts_of : (path text : List ℕ) (files : List (List ℕ × Found)) (trial : OneTrial) (result : Result (Unit {0}) RestoreFault) (told told' : List ℕ) (count count' : ℕ) (was is : Option Files)
    → path ≡ trial.head.path → text ≡ trial.text → files ≡ trial.capture.files
    → Puts ((path, text) ∷ found_files files) result told told' count count' was is → Puts (files_of trial) result told told' count count' was is
puts_of path text files trial result told told' count count' was is is_path is_text are_files puts =
    subst (λ (fs : List OneFile). Puts fs result told told' count count' was is) (files_are path text files trial is_path is_text are_files) puts

-- ---- a loaded trial

loaded_tells : (told told' : Option KeeperView) (number : ℕ) (trial : OneTrial) (P : KeeperView → KeeperView → Type 0) → IfSome told (λ kept. IsLoaded kept.seen number trial) → Tells told told' P
    → Tells told told' (λ before after. IsLoaded before.seen number trial)
loaded_tells told None number trial P loaded tells = tt
loaded_tells None (Some b) number trial P loaded tells = absurd tells
loaded_tells (Some a) (Some b) number trial P loaded tells = loaded

pub is_from : (told told' : Option KeeperView) (number : ℕ) (trial : OneTrial) (files : List (List ℕ × Found)) (P : KeeperView → KeeperView → Type 0) → IsTrial number trial → files ≡ trial.capture.files → IsAscending files
    → IfSome told (λ kept. IsLoaded kept.seen number trial) → Tells told told' P → IsFrom number trial told told'
is_from told told' number trial files P is_trial are_files ascending loaded tells = record {
  is_trial = is_trial;
  by_path = subst (λ (fs : List (List ℕ × Found)). IsAscending fs) are_files ascending;
  is_loaded = loaded_tells told told' number trial P loaded tells;
}

-- ---- the current trial

-- the current trial of a path, of the path that the trial has
pub sets_path : (old new : Option KeeperView) (path other : List ℕ) (number : ℕ) (result : Result (Unit {0}) TrialFault) (answer : Result (Unit {0}) RestoreFault) → path ≡ other → ((change : TablesView → TablesView) (a b : KeeperView) → Sets change result a b → Sets change answer a b)
    → Tells old new (Sets (with_current path number) result) → Tells old new (Sets (with_current other number) answer)
sets_path old new path other number result answer is_path same told =
    subst (λ (p : List ℕ). Tells old new (Sets (with_current p number) answer)) is_path (tells_more old new (Sets (with_current path number) result) (Sets (with_current path number) answer) (same (with_current path number)) told)

-- ---- behind the loading

behind : (old mid new : Option KeeperView) (P : KeeperView → KeeperView → Type 0) → Tells old mid (λ before after. after ≡ before) → Tells mid new P → Tells old new P
behind old mid None P same told = tt
behind old None (Some c) P same told = absurd told
behind None (Some b) (Some c) P same told = absurd same
behind (Some a) (Some b) (Some c) P same told = subst (λ (v : KeeperView). P v c) same told

from_behind : (old mid new : Option KeeperView) (number : ℕ) (trial : OneTrial) → Tells old mid (λ before after. after ≡ before) → IsFrom number trial mid new → IsFrom number trial old new
from_behind old mid new number trial same from = record { is_trial = from.is_trial; by_path = from.by_path; is_loaded = behind old mid new (λ before after. IsLoaded before.seen number trial) same from.is_loaded }

pub restores_behind : (number : ℕ) (result : Result (Unit {0}) RestoreFault) (old mid new : Option KeeperView) (told told' : List ℕ) (count count' : ℕ) (was is : Option Files) → Tells old mid (λ before after. after ≡ before)
    → Restores number result mid new told told' count count' was is → Restores number result old new told told' count count' was is
restores_behind number result old mid new told told' count count' was is same (not_loaded fault answer of_loading loads lines faults files) =
    not_loaded fault answer of_loading (behind old mid new (Loads number (Err fault)) same loads) lines faults files
restores_behind number result old mid new told told' count count' was is same (not_put trial fault answer from puts tables) =
    not_put trial fault answer (from_behind old mid new number trial same from) puts (behind old mid new (λ before after. after ≡ before) same tables)
restores_behind number result old mid new told told' count count' was is same (put trial of_setting from puts sets) =
    put trial of_setting (from_behind old mid new number trial same from) puts (behind old mid new (Sets (with_current trial.head.path number) result) same sets)
