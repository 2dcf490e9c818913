-- The files at the paths that were opened are those that the run leaves.
use Rattle.std.proofs.Common.{◌≡◌, refl, sym, ap, subst, ◌∙◌, arith, ℕ, zero, suc, ◌+◌, ◌<◌, List, [], ◌∷◌, map, ◌++◌, length, slice_get, slice_index_or, Option, Some, None, IsSome, unwrap_or, Result, Ok, Err, IfOk, ◌⊎◌, inl, inr}
use Rattle.capture.specs.declared.ended.FileOut.{FileOut}
use Rattle.object_store.specs.Store.{StoreView, file_at as held_file}
use Rattle.op_state.specs.Holding.{Found, Holds}
use Rattle.op_state.proofs.PathNumbers.{text_there}
use Rattle.op_state.specs.Finals.{IsFileOf, AreFilesOf, AreFinals, file_out}
use Rattle.op_state.specs.Held.{HeldView}
use Rattle.op_work.specs.Work.{WorkView, Extends, AreNamedPaths, IsSeen}
use Rattle.py_model.specs.Meaning.{final_files}
use Rattle.py_model.specs.Store.{RunStore, file_of}
use Rattle.py_value.specs.Seen.{bytes_of}
use Rattle.py_value.specs.Values.{ValuesView}

-- the rest of the files at the rest of the paths
rest_of : (work : WorkView) (path : ℕ) (paths : List ℕ) (file : FileOut) (files : List FileOut) → AreFilesOf work (path ∷ paths) (file ∷ files) → AreFilesOf work paths files
rest_of work path paths file files are = (omega (arith, are.0), λ i p f there one. are.1 (suc i) p f there one)

module _ (work : WorkView) (table : ValuesView) (run : RunStore) (same : (path : ℕ) → path < length work.values.texts → bytes_of table path ≡ bytes_of work.values path)
    (held : (path : ℕ) (bytes : List ℕ) → path < length work.values.texts → held_file work.store path ≡ Some bytes → file_of run (bytes_of table path) ≡ Some bytes) where
  pub finals_are : (paths : List ℕ) (files : List FileOut) → AreNamedPaths work.values paths → AreFilesOf work paths files → final_files run (map (bytes_of table) paths) ≡ map file_out files
  finals_are [] [] named are = refl
  finals_are [] (file ∷ files) named are = cc (are.0)
  finals_are (path ∷ paths) [] named are = cc (are.0)
  finals_are (path ∷ paths) (file ∷ files) named are =
      let one = are.1 0 path file refl refl in
      ap (λ found. (bytes_of table path, unwrap_or found []) ∷ final_files run (map (bytes_of table) paths)) (held path file.bytes named.0 one.bytes_are)
      ∙ (ap (λ (p : List ℕ). (p, file.bytes) ∷ final_files run (map (bytes_of table) paths)) (same path named.0 ∙ sym one.path_is)
      ∙ ap (λ rest. file_out file ∷ rest) (finals_are paths files named.1 (rest_of work path paths file files are)))

pub bytes_same : {old table : ValuesView} → Extends old table → (path : ℕ) → path < length old.texts → bytes_of table path ≡ bytes_of old path
bytes_same {old} {table} extends path within = ap (λ o. unwrap_or o []) (extends.texts path (bytes_of old path) (text_there old.texts path within))

if_some : (o : Option (List ℕ)) (bytes : List ℕ) → o ≡ Some bytes → IsSome o
if_some (Some other) bytes is = refl
if_some None bytes is = cc is

abbrev IsSeenBy : Type 0
IsSeenBy = (found : Found) (table : ValuesView) (held : StoreView) (run : RunStore) → Holds found table held run → IsSeen table held run

pub finals_held : IsSeenBy → (held : HeldView) (files : List FileOut) → AreNamedPaths held.work.values held.opened → AreFilesOf held.work held.opened files → AreFinals held files
finals_held seen held files named are = λ found table run extends stands.
    let is_seen = seen found table held.work.store run stands.holds in
    ap (final_files run) stands.opened_are ∙ finals_are held.work table run (bytes_same extends)
    (λ path bytes within is. is_seen.files path (omega (arith, within, extends.few.0)) (if_some _ bytes is) ∙ is) held.opened files named are

pub if_finals : IsSeenBy → (held : HeldView) → AreNamedPaths held.work.values held.opened → {E V : Type 0} (items : V → List FileOut) (r : Result V E) → IfOk r (λ files. AreFilesOf held.work held.opened (items files))
    → IfOk r (λ files. AreFinals held (items files))
if_finals seen held named items (Ok files) are = finals_held seen held (items files) named are
if_finals seen held named items (Err want) are = tt

-- the path at a place has a number
pub named_at : (values : ValuesView) (paths : List ℕ) (i : ℕ) → AreNamedPaths values paths → i < length paths → slice_index_or paths i 0 < length values.texts
named_at values [] i named less = absurd (omega (arith, less))
named_at values (path ∷ paths) zero named less = named.0
named_at values (path ∷ paths) (suc i) named less = named_at values paths i named.1 (omega (arith, less))

pub there_at : (paths : List ℕ) (i path : ℕ) → slice_get paths i ≡ Some path → slice_index_or paths i 0 ≡ path
there_at [] zero path is = cc is
there_at [] (suc i) path is = cc is
there_at (p ∷ paths) zero path is = cc is
there_at (p ∷ paths) (suc i) path is = there_at paths i path is

-- one file more
get_push : (files : List FileOut) (x : FileOut) (i : ℕ) (file : FileOut) → slice_get (files ++ x ∷ []) i ≡ Some file → (slice_get files i ≡ Some file) ⊎ ((i ≡ length files) × (x ≡ file))
get_push [] x zero file is = inr (refl, some_is is)
  where
    some_is : Some x ≡ Some file → x ≡ file
    some_is same = cc same
get_push [] x (suc i) file is = cc is
get_push (first ∷ files) x zero file is = inl is
get_push (first ∷ files) x (suc i) file is = elim (get_push files x i file is) [ inl there ↦ inl there | inr last ↦ inr (ap suc last.0, last.1) ]

pub files_more : (work : WorkView) (paths : List ℕ) (n : ℕ) (files : List FileOut) (x : FileOut) → length files ≡ n
    → ((i path : ℕ) (file : FileOut) → slice_get paths i ≡ Some path → slice_get files i ≡ Some file → IsFileOf work path file) → IsFileOf work (slice_index_or paths n 0) x
    → (i path : ℕ) (file : FileOut) → slice_get paths i ≡ Some path → slice_get (files ++ x ∷ []) i ≡ Some file → IsFileOf work path file
files_more work paths n files x count each one i path file there is = elim (get_push files x i file is) [
  | inl before ↦ each i path file there before
  | inr last ↦ subst (λ f. IsFileOf work path f) last.1 (subst (λ p. IsFileOf work p x) (ap (λ k. slice_index_or paths k 0) (sym (last.0 ∙ count)) ∙ there_at paths i path there) one)
]

pub push_length : (files : List FileOut) (x : FileOut) (n : ℕ) → length files ≡ n → length (files ++ x ∷ []) ≡ n + 1
push_length [] x n is = omega (arith, is)
push_length (file ∷ files) x zero is = cc is
push_length (file ∷ files) x (suc n) is = let rest = push_length files x n (omega (arith, is)) in omega (arith, rest)
