-- The records of a recorded run fit: its answers are in order and of their questions' kinds, and each file that it left stands once.
use Rattle.std.proofs.Common.{◌≡◌, ℕ, suc, ◌<◌, ◌^◌, Bool, true, false, ◌||◌, if◌then◌else◌, List, [], ◌∷◌, ◌++◌, length, map, reverse, slice_get, Some, bytes_eq, refl, sym, ap, subst, ◌∙◌}
use Rattle.std.specs.Prelude.{All, is_some}
use Rattle.std.specs.Cmp.Lexicographic.{bytes_decides}
use Rattle.std.specs.List.Sorted.{IsPermutation}
use Rattle.std.proofs.lemmas.Bool.{lt-ltb}
use Rattle.std.proofs.lemmas.List.Elements.{All-nil, All-cons, All-head, All-tail}
use Rattle.std.proofs.lemmas.List.Sorted.{All-permutation, IsPermutation-reverse}
use Rattle.answer_source.specs.Live.{asking_seen}
use Rattle.capture.specs.Capture.{is_among}
use Rattle.capture.specs.Files.{file_at, IsAscending, IsBeforeAll}
use Rattle.capture.specs.declared.answer.Asked.{Asked}
use Rattle.capture.specs.declared.ended.FileOut.{FileOut}
use Rattle.op_state.specs.Finals.{file_out}
use Rattle.prov_base.specs.Path.{is_path}
use Rattle.prov_outside.specs.declared.folder.Found.{Found}
use Rattle.prov_outside.specs.declared.folder.Found.TheVariants.{Bytes, Absent, TooLarge, Failed}
use Rattle.py_model.specs.Meaning.{final_files}
use Rattle.py_model.specs.Running.{Asking}
use Rattle.py_model.specs.Store.{RunStore, has_path}
use Rattle.row_words.specs.Fits.{Each, IsList, IsText}
use Rattle.sound_trials.proofs.AskedOnce.{IsCounted, OnceAfter}
use Rattle.sound_trials.proofs.Fitting.{digest_long}
use Rattle.sound_trials.proofs.Spelling.{AnswerFits}
use Rattle.recorded_runs.specs.Typed.{EachOf, IsSized, IsFetched, IsLeft}
use Rattle.trial_keeping.specs.RecordFits.{Stand, MayFollow, ArgumentsFit, IsAnswer, IsFile, AreAscending, IsAheadOfAll, is_final, MayBeFinal, FinalsFit}
use Rattle.trial_keeping.specs.Trial.{file_record, final_record}
use Rattle.trial_keeping.specs.declared.record.FinalRecord.{FinalRecord}

-- what holds at each place of a list holds of each item
pub each_of : {A : Type 0} (P : A → Type 0) (items : List A) → ((i : ℕ) (item : A) → slice_get items i ≡ Some item → P item) → Each P items
each_of P [] all = tt
each_of P (item ∷ items) all = (all 0 item refl, each_of P items (λ i other at. all (suc i) other at))

-- ---- arguments

texts_stand : (before texts : List (List ℕ)) → Each IsText texts → Stand MayFollow before texts
texts_stand before [] each = tt
texts_stand before (text ∷ texts) each = (each.0, texts_stand (before ++ text ∷ []) texts each.1)

pub arguments_stand : (texts : List (List ℕ)) → EachOf IsText texts → ArgumentsFit texts
arguments_stand texts is = (is.0, texts_stand [] texts (each_of IsText texts is.1))

-- ---- answers

all_numbered : (askings : List Asking) → Each IsCounted askings → All IsCounted askings
all_numbered [] each = All-nil IsCounted
all_numbered (asking ∷ askings) each = All-cons IsCounted asking askings each.0 (all_numbered askings each.1)

abbrev pub NumberedAnswer : Asked → Type 0
NumberedAnswer answer = 0 < answer.k

each_numbered : (answers : List Asked) → All IsCounted (map asking_seen answers) → Each NumberedAnswer answers
each_numbered [] all = tt
each_numbered (answer ∷ answers) all =
    (All-head IsCounted (asking_seen answer) (map asking_seen answers) all, each_numbered answers (All-tail IsCounted (asking_seen answer) (map asking_seen answers) all))

pub answers_numbered : (askings : List Asking) (answers : List Asked) → Each IsCounted askings → IsPermutation (reverse askings) (map asking_seen answers) → Each NumberedAnswer answers
answers_numbered askings answers each permuted =
    each_numbered answers (All-permutation IsCounted (reverse askings) (map asking_seen answers) permuted
    (All-permutation IsCounted askings (reverse askings) (IsPermutation-reverse askings) (all_numbered askings each)))

pub each_answer : (answers : List Asked) → Each IsSized answers → Each AnswerFits answers → Each NumberedAnswer answers → Each IsAnswer answers
each_answer [] sized fits numbered = tt
each_answer (answer ∷ answers) sized fits numbered =
    ((sized.0.0, ((sized.0.1.0, lt-ltb 0 answer.k numbered.0), (fits.0, sized.0.1.1))), each_answer answers sized.1 fits.1 numbered.1)

-- ---- files

as_many : {A B : Type 0} (f : A → B) (xs : List A) → length (map f xs) ≡ length xs
as_many f [] = refl
as_many f (x ∷ xs) = ap suc (as_many f xs)

abbrev pub OpenPath : List ℕ × Found → Type 0
OpenPath file = is_path file.0 ≡ true

each_file : (files : List (List ℕ × Found)) → Each IsFetched files → Each OpenPath files → Each IsFile (map file_record files)
each_file [] texts paths = tt
each_file ((path, Bytes bytes) ∷ files) texts paths = (((texts.0, paths.0), digest_long bytes), each_file files texts.1 paths.1)
each_file ((path, Absent) ∷ files) texts paths = (((texts.0, paths.0), tt), each_file files texts.1 paths.1)
each_file ((path, TooLarge) ∷ files) texts paths = (((texts.0, paths.0), tt), each_file files texts.1 paths.1)
each_file ((path, Failed) ∷ files) texts paths = (((texts.0, paths.0), tt), each_file files texts.1 paths.1)

pub files_listed : (files : List (List ℕ × Found)) → EachOf IsFetched files → Each OpenPath files → IsList IsFile (map file_record files)
files_listed files is paths = (subst (λ (n : ℕ). n < 2 ^ 64) (sym (as_many file_record files)) is.0, each_file files (each_of IsFetched files is.1) paths)

-- what was fetched has a path that a script may open, where each that is among these is one
among_as : (one : List ℕ) (paths : List (List ℕ)) → is_among one paths ≡ has_path one paths
among_as one [] = refl
among_as one (path ∷ paths) = by (bytes_eq one path) (among_as one paths)
  where
    by : (b : Bool) → is_among one paths ≡ has_path one paths → (b || is_among one paths) ≡ (if b then true else has_path one paths)
    by true is = refl
    by false is = is

itself : (bytes : List ℕ) → bytes_eq bytes bytes ≡ true
itself bytes = (bytes_decides bytes bytes).1 refl

abbrev has : List (List ℕ × Found) → List ℕ → Bool
has files path = is_some (file_at files path)

has_first : (file : List ℕ × Found) (files : List (List ℕ × Found)) → has (file ∷ files) file.0 ≡ true
has_first file files = ap (λ (b : Bool). is_some (if b then Some file.1 else file_at files file.0)) (itself file.0)

has_more : (file : List ℕ × Found) (files : List (List ℕ × Found)) (path : List ℕ) → has files path ≡ true → has (file ∷ files) path ≡ true
has_more file files path is = by (bytes_eq file.0 path)
  where
    by : (b : Bool) → is_some (if b then Some file.1 else file_at files path) ≡ true
    by true = refl
    by false = is

open_paths : (files : List (List ℕ × Found)) → ((path : List ℕ) → has files path ≡ true → is_path path ≡ true) → Each OpenPath files
open_paths [] all = tt
open_paths (file ∷ files) all = (all file.0 (has_first file files), open_paths files (λ path is. all path (has_more file files path is)))

pub fetched_paths : (files : List (List ℕ × Found)) (fetches : List (List ℕ)) → ((one : List ℕ) → is_among one fetches ≡ is_some (file_at files one))
    → ((one : List ℕ) → has_path one fetches ≡ true → is_path one ≡ true) → Each OpenPath files
fetched_paths files fetches same all = open_paths files (λ path is. all path (sym (among_as path fetches) ∙ (same path ∙ is)))

ahead_of_all : (file : List ℕ × Found) (files : List (List ℕ × Found)) → IsBeforeAll file.0 files → IsAheadOfAll (file_record file) (map file_record files)
ahead_of_all file [] before = tt
ahead_of_all file (other ∷ files) before = (before.0, ahead_of_all file files before.1)

pub files_ascend : (files : List (List ℕ × Found)) → IsAscending files → AreAscending (map file_record files)
files_ascend [] ascending = tt
files_ascend (file ∷ files) ascending = (ahead_of_all file files ascending.0, files_ascend files ascending.1)

-- ---- the files that the run left

abbrev path_of : FileOut → List ℕ
path_of file = file.path

abbrev path_in : FinalRecord → List ℕ
path_in written = written.path

paths_left : (store : RunStore) (paths : List (List ℕ)) (files : List FileOut) → final_files store paths ≡ map file_out files → paths ≡ map path_of files
paths_left store [] [] is = refl
paths_left store [] (file ∷ files) is = absurd cc
paths_left store (path ∷ paths) [] is = absurd cc
paths_left store (path ∷ paths) (file ∷ files) is = cons (first is) (paths_left store paths files (ap behind is))
  where
    behind : List (List ℕ × List ℕ) → List (List ℕ × List ℕ)
    behind [] = []
    behind (one ∷ more) = more

    first_path : List (List ℕ × List ℕ) → List ℕ
    first_path [] = []
    first_path (one ∷ more) = one.0

    first : final_files store (path ∷ paths) ≡ map file_out (file ∷ files) → path ≡ file.path
    first is = ap first_path is

    cons : path ≡ file.path → paths ≡ map path_of files → path ∷ paths ≡ map path_of (file ∷ files)
    cons one more = cc

final_by_path : (before : List FinalRecord) (path : List ℕ) → is_final before path ≡ has_path path (map path_in before)
final_by_path [] path = refl
final_by_path (other ∷ before) path = by (bytes_eq path other.path) (final_by_path before path)
  where
    by : (b : Bool) → is_final before path ≡ has_path path (map path_in before) → (b || is_final before path) ≡ (if b then true else has_path path (map path_in before))
    by true is = refl
    by false is = is

map_push : (before : List FinalRecord) (written : FinalRecord) → map path_in (before ++ written ∷ []) ≡ map path_in before ++ written.path ∷ []
map_push [] written = refl
map_push (other ∷ before) written = ap (λ (paths : List (List ℕ)). other.path ∷ paths) (map_push before written)

-- each path that is among these is one that a script may open
abbrev Opens : List (List ℕ) → Type 0
Opens paths = (one : List ℕ) → has_path one paths ≡ true → is_path one ≡ true

leads_path : (path : List ℕ) (paths : List (List ℕ)) → has_path path (path ∷ paths) ≡ true
leads_path path paths = ap (λ (b : Bool). if b then true else has_path path paths) (itself path)

more_path : (path : List ℕ) (paths : List (List ℕ)) (one : List ℕ) → has_path one paths ≡ true → has_path one (path ∷ paths) ≡ true
more_path path paths one is = by (bytes_eq one path)
  where
    by : (b : Bool) → (if b then true else has_path one paths) ≡ true
    by true = refl
    by false = is

finals_stand : (before : List FinalRecord) (files : List FileOut) → Each IsLeft files → Opens (map path_of files) → OnceAfter (map path_in before) (map path_of files)
    → Stand MayBeFinal before (map final_record files)
finals_stand before [] texts all once = tt
finals_stand before (file ∷ files) texts all once = (
  (((texts.0, all file.path (leads_path file.path (map path_of files))), digest_long file.bytes), final_by_path before file.path ∙ once.0),
  finals_stand (before ++ final_record file ∷ []) files texts.1 (λ one is. all one (more_path file.path (map path_of files) one is)) (subst (λ (all : List (List ℕ)). OnceAfter all (map path_of files)) (sym (map_push before (final_record file))) once.1),
)

pub finals_listed : (store : RunStore) (paths : List (List ℕ)) (files : List FileOut) → OnceAfter [] paths → Opens paths → final_files store paths ≡ map file_out files → EachOf IsLeft files
    → FinalsFit (map final_record files)
finals_listed store paths files once all is left =
    let same : paths ≡ map path_of files = paths_left store paths files is in (
      subst (λ (n : ℕ). n < 2 ^ 64) (sym (as_many final_record files)) left.0,
      finals_stand [] files (each_of IsLeft files left.1) (subst Opens same all) (subst (λ (them : List (List ℕ)). OnceAfter [] them) same once),
    )
