-- What was read so far, before what is still read.
use Rattle.std.proofs.Common.{◌≡◌, ℕ, suc, ◌+◌, ◌<◌, List, [], ◌∷◌, ◌++◌, length, get_or, drop, drop-cons, append_assoc, Option, Some, None, Ok, Err, refl, sym, ap, subst, ◌∙◌, arith}
use Rattle.prov_outside.specs.Tells.{Tells}
use Rattle.prov_outside.specs.declared.folder.Found.{Found}
use Rattle.capture.specs.Files.{with_file}
use Rattle.keeper.specs.Keeping.{KeeperView, LeavesAmong}
use Rattle.keeper.specs.Tables.{TablesView}
use Rattle.trial_tables.specs.Found.{Finds}
use Rattle.trial_tables.specs.Whole.{Check, fine, damaged, and_then}
use Rattle.trial_tables.specs.declared.read_fault.ReadFault.{ReadFault}
use Rattle.trial_tables.specs.declared.read_fault.ReadFault.TheVariants.{Damaged, Keeper, Memory}
use Rattle.trial_keeping.specs.declared.record.FileRecord.{FileRecord}
use Rattle.trial_keeping.specs.declared.record.FinalRecord.{FinalRecord}
use Rattle.capture.specs.declared.ended.FileOut.{FileOut}
use Rattle.trial_loading.specs.Checks.{filled}
use Rattle.trial_loading.specs.Rest.{found_in, file_with, files_in, final_in, finals_in}
use Rattle.trial_loading.proofs.FileOrder.{AreAhead, put_behind}

-- what was read before what is still read
abbrev pub behind : {A : Type 0} → List A → Check (List A) → Check (List A)
behind front (fine more) = fine (front ++ more)
behind front (damaged damage) = damaged damage

-- one more was read
pub behind_one : {A : Type 0} (front : List A) (item : A) (more : Check (List A)) → behind front (and_then more (λ others. fine (item ∷ others))) ≡ behind (front ++ item ∷ []) more
behind_one front item (fine more) = ap fine (sym (append_assoc front (item ∷ []) more))
behind_one front item (damaged damage) = refl

-- the item at a place, and those behind it
pub front_at : {A : Type 0} (items : List A) (i : ℕ) (item : A) → i < length items → item ≡ get_or items i item → drop i items ≡ item ∷ drop (i + 1) items
front_at items i item below is =
    let after : suc i ≡ i + 1 = omega arith in
    drop-cons items i item below ∙ ap (λ k. get_or items i item ∷ drop k items) after ∙ ap (λ y. y ∷ drop (i + 1) items) (sym is)

-- ---- files that were found

-- nothing has changed, and these files are kept before those that are still read
abbrev pub FilesSoFar : List FileRecord → List (List ℕ × Found) → List FileRecord → KeeperView → KeeperView → Type 0
FilesSoFar all front files before after = (after ≡ before) × (files_in before.seen all ≡ behind front (files_in before.seen files))

file_read : (tables : TablesView) (front kept : List (List ℕ × Found)) (file : FileRecord) (files : List FileRecord) → AreAhead front (file ∷ files)
    → file_with tables file front ≡ fine kept → behind front (files_in tables (file ∷ files)) ≡ behind kept (files_in tables files)
file_read tables front kept file files ahead is = by (found_in tables file.found) is
  where
    same : (a b : List (List ℕ × Found)) → fine a ≡ fine b → a ≡ b
    same a b is = cc

    by : (check : Check Found) → and_then check (λ found. fine (with_file file.path found front)) ≡ fine kept
        → behind front (and_then check (λ found. and_then (files_in tables files) (λ others. fine ((file.path, found) ∷ others)))) ≡ behind kept (files_in tables files)
    by (fine found) is =
        behind_one front (file.path, found) (files_in tables files)
        ∙ ap (λ (items : List (List ℕ × Found)). behind items (files_in tables files)) (sym (put_behind front file found files ahead) ∙ same (with_file file.path found front) kept is)
    by (damaged damage) is = absurd cc

file_on : {T : Type 0} (done : T) (all : List FileRecord) (front kept : List (List ℕ × Found)) (file : FileRecord) (files : List FileRecord) → AreAhead front (file ∷ files) → (a b c : KeeperView)
    → FilesSoFar all front (file ∷ files) a b → Finds (λ tables. file_with tables file front) (filled kept (Ok done)) b c → FilesSoFar all kept files a c
file_on done all front kept file files ahead a b c so_far finds =
    (finds.1 ∙ so_far.0, so_far.1 ∙ file_read a.seen front kept file files ahead (subst (λ (v : KeeperView). file_with v.seen file front ≡ fine kept) so_far.0 finds.0))

pub one_file : {T : Type 0} (done : T) (all : List FileRecord) (front kept : List (List ℕ × Found)) (file : FileRecord) (files : List FileRecord) → AreAhead front (file ∷ files) → (old mid new : Option KeeperView)
    → Tells old mid (FilesSoFar all front (file ∷ files)) → Tells mid new (Finds (λ tables. file_with tables file front) (filled kept (Ok done))) → Tells old new (FilesSoFar all kept files)
one_file done all front kept file files ahead old mid None so_far finds = tt
one_file done all front kept file files ahead old None (Some c) so_far finds = absurd finds
one_file done all front kept file files ahead None (Some b) (Some c) so_far finds = absurd so_far
one_file done all front kept file files ahead (Some a) (Some b) (Some c) so_far finds = file_on done all front kept file files ahead a b c so_far finds

-- ---- files that the run left

-- nothing has changed, and these files were read before those that are still read
abbrev pub FinalsSoFar : List FinalRecord → List FileOut → List FinalRecord → KeeperView → KeeperView → Type 0
FinalsSoFar all front files before after = (after ≡ before) × (finals_in before.seen all ≡ behind front (finals_in before.seen files))

final_on : (all : List FinalRecord) (front : List FileOut) (one : FileOut) (file : FinalRecord) (files : List FinalRecord) (a b c : KeeperView)
    → FinalsSoFar all front (file ∷ files) a b → Finds (λ tables. final_in tables file) (Ok one) b c → FinalsSoFar all (front ++ one ∷ []) files a c
final_on all front one file files a b c so_far finds =
    let is : final_in a.seen file ≡ fine one = subst (λ (v : KeeperView). final_in v.seen file ≡ fine one) so_far.0 finds.0 in (
      finds.1 ∙ so_far.0,
      so_far.1 ∙ ap (λ (check : Check FileOut). behind front (and_then check (λ found. and_then (finals_in a.seen files) (λ others. fine (found ∷ others))))) is
          ∙ behind_one front one (finals_in a.seen files),
    )

pub one_final : (all : List FinalRecord) (front : List FileOut) (one : FileOut) (file : FinalRecord) (files : List FinalRecord) (old mid new : Option KeeperView)
    → Tells old mid (FinalsSoFar all front (file ∷ files)) → Tells mid new (Finds (λ tables. final_in tables file) (Ok one)) → Tells old new (FinalsSoFar all (front ++ one ∷ []) files)
one_final all front one file files old mid None so_far finds = tt
one_final all front one file files old None (Some c) so_far finds = absurd finds
one_final all front one file files None (Some b) (Some c) so_far finds = absurd so_far
one_final all front one file files (Some a) (Some b) (Some c) so_far finds = final_on all front one file files a b c so_far finds

finals_end : (all : List FinalRecord) (front : List FileOut) (fault : ReadFault) (file : FinalRecord) (files : List FinalRecord) (a b c : KeeperView)
    → FinalsSoFar all front (file ∷ files) a b → Finds (λ tables. final_in tables file) (Err fault) b c → Finds {A = List FileOut} (λ tables. finals_in tables all) (Err fault) a c
finals_end all front (Damaged damage) file files a b c so_far finds =
    let is : final_in a.seen file ≡ damaged damage = subst (λ (v : KeeperView). final_in v.seen file ≡ damaged damage) so_far.0 finds.0 in
    (so_far.1 ∙ ap (λ (check : Check FileOut). behind front (and_then check (λ found. and_then (finals_in a.seen files) (λ others. fine (found ∷ others))))) is, finds.1 ∙ so_far.0)
finals_end all front Keeper file files a b c so_far finds = finds ∙ so_far.0
finals_end all front Memory file files a b c so_far finds = finds ∙ so_far.0

pub final_stops : (all : List FinalRecord) (front : List FileOut) (fault : ReadFault) (file : FinalRecord) (files : List FinalRecord) (old mid new : Option KeeperView)
    → Tells old mid (FinalsSoFar all front (file ∷ files)) → Tells mid new (Finds (λ tables. final_in tables file) (Err fault)) → Tells old new (Finds {A = List FileOut} (λ tables. finals_in tables all) (Err fault))
final_stops all front fault file files old mid None so_far finds = tt
final_stops all front fault file files old None (Some c) so_far finds = absurd finds
final_stops all front fault file files None (Some b) (Some c) so_far finds = absurd so_far
final_stops all front fault file files (Some a) (Some b) (Some c) so_far finds = finals_end all front fault file files a b c so_far finds

-- ---- stops

-- what a stop may leave after two calls is among what it might have left before them
pub leaves_then : (old mid new : Option KeeperView) (may may' may'' : TablesView → Type 0) → Tells old mid (λ _ _. LeavesAmong may may') → Tells mid new (λ _ _. LeavesAmong may' may'')
    → Tells old new (λ _ _. LeavesAmong may may'')
leaves_then old mid None may may' may'' first second = tt
leaves_then old None (Some c) may may' may'' first second = absurd second
leaves_then None (Some b) (Some c) may may' may'' first second = absurd first
leaves_then (Some a) (Some b) (Some c) may may' may'' first second = λ tables left. first tables (second tables left)
