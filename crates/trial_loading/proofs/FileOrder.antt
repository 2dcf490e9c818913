-- Files that are kept in ascending order of their paths: one more is put behind the others.
use Rattle.std.proofs.Common.{◌≡◌, ℕ, Bool, true, false, List, [], ◌∷◌, ◌++◌, Some, None, refl, sym, ap, subst, ◌∙◌, bytes_eq, if◌then◌else◌}
use Rattle.std.specs.Prelude.{⊤}
use Rattle.std.specs.Ordering.{is_lt, nat_cmp, ordering_reverse}
use Rattle.std.specs.Cmp.Lexicographic.{slice_cmp, nat_list_cmp_total, bytes_decides}
use Rattle.std.specs.declared.cmp.Ordering.{Ordering}
use Rattle.std.specs.declared.cmp.Ordering.TheVariants.{Less, Equal, Greater}
use Rattle.prov_outside.specs.declared.folder.Found.{Found}
use Rattle.capture.specs.Files.{file_at, is_before, with_file}
use Rattle.trial_keeping.specs.declared.record.FileRecord.{FileRecord}
use Rattle.trial_keeping.specs.RecordFits.{IsAheadOfAll, AreAscending}

-- a path stands before those of all these
abbrev pub Ahead : List ℕ → List FileRecord → Type 0
Ahead path [] = ⊤
Ahead path (file ∷ files) = (is_before path file.path ≡ true) × Ahead path files

-- the paths that are kept stand before those of all these
abbrev pub AreAhead : List (List ℕ × Found) → List FileRecord → Type 0
AreAhead [] files = ⊤
AreAhead (kept ∷ front) files = Ahead kept.0 files × AreAhead front files

ahead_all : (file : FileRecord) (files : List FileRecord) → IsAheadOfAll file files → Ahead file.path files
ahead_all file [] all = tt
ahead_all file (other ∷ files) all = (all.0, ahead_all file files all.1)

-- one more is kept
pub ahead_one : (front : List (List ℕ × Found)) (file : FileRecord) (found : Found) (files : List FileRecord) → AreAhead front (file ∷ files) → AreAscending (file ∷ files)
    → AreAhead (front ++ (file.path, found) ∷ []) files
ahead_one [] file found files ahead up = (ahead_all file files up.0, tt)
ahead_one (kept ∷ front) file found files ahead up = (ahead.0.1, ahead_one front file found files ahead.1 up)

less : (o : Ordering) → is_lt o ≡ true → o ≡ Less
less Less is = refl
less Equal is = absurd cc
less Greater is = absurd cc

not_after : (path other : List ℕ) → is_before path other ≡ true → is_before other path ≡ false
not_after path other is =
    ap is_lt (nat_list_cmp_total.antisymm other path ∙ ap ordering_reverse (less (slice_cmp nat_cmp path other) is))

differs : (path other : List ℕ) → is_before path other ≡ true → bytes_eq path other ≡ false
differs path other is = by (bytes_eq path other) refl
  where
    by : (b : Bool) → bytes_eq path other ≡ b → b ≡ false
    by false at = refl
    by true at = sym (sym (not_after path other is) ∙ subst (λ (p : List ℕ). is_before p path ≡ true) ((bytes_decides path other).0 at) (subst (λ (p : List ℕ). is_before path p ≡ true) (sym ((bytes_decides path other).0 at)) is))

pub nothing_there : (front : List (List ℕ × Found)) (file : FileRecord) (files : List FileRecord) → AreAhead front (file ∷ files) → file_at front file.path ≡ None
nothing_there [] file files ahead = refl
nothing_there (kept ∷ front) file files ahead =
    ap (λ (b : Bool). if b then Some kept.1 else file_at front file.path) (differs kept.0 file.path ahead.0.0) ∙ nothing_there front file files ahead.1

pub put_behind : (front : List (List ℕ × Found)) (file : FileRecord) (found : Found) (files : List FileRecord) → AreAhead front (file ∷ files)
    → with_file file.path found front ≡ front ++ (file.path, found) ∷ []
put_behind [] file found files ahead = refl
put_behind (kept ∷ front) file found files ahead =
    ap (λ (b : Bool). if b then (file.path, found) ∷ kept ∷ front else kept ∷ with_file file.path found front) (not_after kept.0 file.path ahead.0.0)
    ∙ ap (λ (more : List (List ℕ × Found)). kept ∷ more) (put_behind front file found files ahead.1)
