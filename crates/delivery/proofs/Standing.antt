-- What stands where puts went well.
use Rattle.std.proofs.Common.{◌≡◌, ℕ, zero, suc, List, [], ◌∷◌, true, Some, Ok, Err, IsOk, slice_get, refl, sym, ap, ◌∙◌, subst, arith}
use Rattle.std.proofs.lemmas.Bool.{false≢true}
use Rattle.std.proofs.lemmas.Option.{same_Some}
use Rattle.prov_outside.specs.Folder.{Files, Puts, OthersStay}
use Rattle.delivery.specs.PutsAll.{OutFile, Outcome, PutsAll}
use Rattle.delivery.specs.Stands.{AreDistinct, IsAmong, Stand, HasAll, all_well}

-- a put touches no other path, whatever it answers
others_stay : (path bytes : List ℕ) (outcome : Outcome) (before after : Files) → Puts path bytes outcome before after → OthersStay path before after
others_stay path bytes (Ok all) before after put = put.1
others_stay path bytes (Err trouble) before after put = put

put_well : (path bytes : List ℕ) (outcome : Outcome) (before after : Files) → Puts path bytes outcome before after → IsOk outcome → after path ≡ Some bytes
put_well path bytes (Ok all) before after put ok = put.0
put_well path bytes (Err trouble) before after put ok = absurd (false≢true ok)

not_in_rest : (path : List ℕ) (file : OutFile) (files : List OutFile) → (IsAmong path (file ∷ files) → ⊥) → IsAmong path files → ⊥
not_in_rest path file files out among = out (suc among.0, among.1, among.2, among.3)

rest_distinct : (file : OutFile) (files : List OutFile) → AreDistinct (file ∷ files) → AreDistinct files
rest_distinct file files distinct i j one other is_one is_other same = let e : suc i ≡ suc j = distinct (suc i) (suc j) one other is_one is_other same in omega (arith, e)

first_apart : (file : OutFile) (files : List OutFile) → AreDistinct (file ∷ files) → IsAmong file.0 files → ⊥
first_apart file files distinct among = let e : 0 ≡ suc among.0 = distinct 0 (suc among.0) file among.1 refl among.2 (sym among.3) in omega (arith, e)

pub others : (files : List OutFile) (puts : List Outcome) (before after : Files) → PutsAll files puts before after → (path : List ℕ) → (IsAmong path files → ⊥) → after path ≡ before path
others [] [] before after all path out = ap (λ (f : Files). f path) all
others (file ∷ files) (put ∷ puts) before after all path out =
    others files puts all.0 after all.2 path (not_in_rest path file files out)
    ∙ others_stay file.0 file.1 put before all.0 all.1 path (λ same. out (0, file, refl, sym same))
others [] (put ∷ puts) before after all path out = absurd all
others (file ∷ files) [] before after all path out = absurd all

pub well : (files : List OutFile) (puts : List Outcome) (before after : Files) → PutsAll files puts before after → AreDistinct files
    → (i : ℕ) (file : OutFile) (outcome : Outcome) → slice_get files i ≡ Some file → slice_get puts i ≡ Some outcome → IsOk outcome → after file.0 ≡ Some file.1
well [] puts before after all distinct i file outcome is_file is_outcome ok = cc
well (first ∷ files) [] before after all distinct i file outcome is_file is_outcome ok = absurd all
well (first ∷ files) (put ∷ puts) before after all distinct zero file outcome is_file is_outcome ok =
    let stands : after first.0 ≡ Some first.1 =
    others files puts all.0 after all.2 first.0 (first_apart first files distinct)
    ∙ put_well first.0 first.1 put before all.0 all.1 (subst (λ (o : Outcome). IsOk o) (sym (same_Some put outcome is_outcome)) ok) in
    subst (λ (f : OutFile). after f.0 ≡ Some f.1) (same_Some first file is_file) stands
well (first ∷ files) (put ∷ puts) before after all distinct (suc i) file outcome is_file is_outcome ok =
    well files puts all.0 after all.2 (rest_distinct first files distinct) i file outcome is_file is_outcome ok

pub stand : (files : List OutFile) (puts : List Outcome) (before after : Files) → PutsAll files puts before after → Stand files puts before after
stand files puts before after all = record { well = well files puts before after all; others = others files puts before after all }

-- where all went well, there is an outcome that is well for each file
outcome_at : (files : List OutFile) (puts : List Outcome) (before after : Files) → PutsAll files puts before after → all_well puts ≡ true → (i : ℕ) (file : OutFile) → slice_get files i ≡ Some file
    → (outcome : Outcome) × (slice_get puts i ≡ Some outcome) × IsOk outcome
outcome_at [] puts before after all good i file is_file = cc
outcome_at (first ∷ files) [] before after all good i file is_file = absurd all
outcome_at (first ∷ files) (Err trouble ∷ puts) before after all good i file is_file = absurd (false≢true good)
outcome_at (first ∷ files) (Ok done ∷ puts) before after all good zero file is_file = (Ok done, refl, refl)
outcome_at (first ∷ files) (Ok done ∷ puts) before after all good (suc i) file is_file = outcome_at files puts all.0 after all.2 good i file is_file

pub has_all : (files : List OutFile) (puts : List Outcome) (before after : Files) → PutsAll files puts before after → all_well puts ≡ true → HasAll files before after
has_all files puts before after all good = record {
  stand = λ distinct i file is_file.
      let at = outcome_at files puts before after all good i file is_file in
      well files puts before after all distinct i file at.0 is_file at.1 at.2;
  others = others files puts before after all;
}
