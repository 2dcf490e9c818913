-- The puts so far, and one more.
use Rattle.std.proofs.Common.{◌≡◌, ℕ, ◌+◌, ◌<◌, ◌≤◌, List, [], ◌∷◌, ◌++◌, length, map, get_or, drop, suc, Bool, false, if◌then◌else◌, Option, Some, None, Ok, Err, refl, sym, ap, ◌∙◌, subst, arith, append_assoc, append-nil, length-append}
use Rattle.std.proofs.Math.Seq.{drop-cons}
use Rattle.std.proofs.lemmas.List.{drop_all}
use Rattle.prov_outside.specs.Count.{faults_after}
use Rattle.prov_outside.specs.Folder.{Files, Puts}
use Rattle.prov_outside.specs.Tells.{Tells}
use Rattle.prov_outside.specs.declared.trouble.Trouble.TheVariants.{Failed, Memory}
use Rattle.capture.specs.declared.ended.FileOut.{FileOut}
use Rattle.delivery.specs.Ending.{Ending, out_of_memory}
use Rattle.delivery.specs.PutsAll.{OutFile, file_out, Outcome, PutsAll, faults_of, first_failed, lacks_memory, or_failed}
use Rattle.delivery.specs.Stages.{PutsFiles, first_with, short_with}

pub tells_then : {T : Type 0} (old mid new : Option T) (P Q R : T → T → Type 0) → ((a b c : T) → P a b → Q b c → R a c) → Tells old mid P → Tells mid new Q → Tells old new R
tells_then old mid None P Q R join first second = tt
tells_then old None (Some c) P Q R join first second = absurd second
tells_then None (Some b) (Some c) P Q R join first second = absurd first
tells_then (Some a) (Some b) (Some c) P Q R join first second = join a b c first second

pub tells_same : {T : Type 0} (told : Option T) (P : T → T → Type 0) → ((a : T) → P a a) → Tells told told P
tells_same None P same = tt
tells_same (Some a) P same = same a

-- ---- one more put, at the end

pub puts_more : (front : List OutFile) (puts : List Outcome) (file : OutFile) (outcome : Outcome) (a b c : Files)
    → PutsAll front puts a b → Puts file.0 file.1 outcome b c → PutsAll (front ++ file ∷ []) (puts ++ outcome ∷ []) a c
puts_more [] [] file outcome a b c all more = (c, subst (λ (files : Files). Puts file.0 file.1 outcome files c) all more, refl)
puts_more (f ∷ front) (p ∷ puts) file outcome a b c all more = (all.0, all.1, puts_more front puts file outcome all.0 b c all.2 more)
puts_more [] (p ∷ puts) file outcome a b c all more = absurd all
puts_more (f ∷ front) [] file outcome a b c all more = absurd all

pub faults_more : (puts : List Outcome) (outcome : Outcome) (count : ℕ) → faults_of (puts ++ outcome ∷ []) count ≡ faults_after outcome (faults_of puts count)
faults_more [] outcome count = refl
faults_more (p ∷ puts) outcome count = faults_more puts outcome (faults_after p count)

pub first_more : (front : List OutFile) (puts : List Outcome) (file : OutFile) (outcome : Outcome) → length puts ≡ length front
    → first_failed (front ++ file ∷ []) (puts ++ outcome ∷ []) ≡ first_with (first_failed front puts) file.0 outcome
first_more [] [] file (Ok all) even = refl
first_more [] [] file (Err Failed) even = refl
first_more [] [] file (Err Memory) even = refl
first_more [] (p ∷ puts) file outcome even = absurd (omega (arith, even))
first_more (f ∷ front) [] file outcome even = absurd (omega (arith, even))
first_more (f ∷ front) (Ok all ∷ puts) file outcome even = first_more front puts file outcome (omega (arith, even))
first_more (f ∷ front) (Err Memory ∷ puts) file outcome even = first_more front puts file outcome (omega (arith, even))
first_more (f ∷ front) (Err Failed ∷ puts) file (Ok all) even = refl
first_more (f ∷ front) (Err Failed ∷ puts) file (Err Failed) even = refl
first_more (f ∷ front) (Err Failed ∷ puts) file (Err Memory) even = refl

pub short_more : (puts : List Outcome) (outcome : Outcome) → lacks_memory (puts ++ outcome ∷ []) ≡ short_with (lacks_memory puts) outcome
short_more [] (Ok all) = refl
short_more [] (Err Failed) = refl
short_more [] (Err Memory) = refl
short_more (Ok all ∷ puts) outcome = short_more puts outcome
short_more (Err Failed ∷ puts) outcome = short_more puts outcome
short_more (Err Memory ∷ puts) (Ok all) = refl
short_more (Err Memory ∷ puts) (Err Failed) = refl
short_more (Err Memory ∷ puts) (Err Memory) = refl

-- ---- the puts so far: what is left of the files, and what is known of those before

pub record SoFar (files rest : List OutFile) (first : Option (List ℕ)) (short : Bool) (put_before put_after : ℕ) (told_before told_after : Option Files) : Type 0 where
  pub front : List OutFile
  pub puts : List Outcome
  pub whole : files ≡ front ++ rest
  pub even : length puts ≡ length front
  pub folder : Tells told_before told_after (PutsAll front puts)
  pub put_faults : put_after ≡ faults_of puts put_before
  pub first_is : first ≡ first_failed front puts
  pub short_is : short ≡ lacks_memory puts

pub none_yet : (files : List OutFile) (count : ℕ) (told : Option Files) → SoFar files files None false count count told told
none_yet files count told = record {
  front = [];
  puts = [];
  whole = refl;
  even = refl;
  folder = tells_same told (PutsAll [] []) (λ a. refl);
  put_faults = refl;
  first_is = refl;
  short_is = refl;
}

pub one_more_put : (files rest : List OutFile) (file : OutFile) (outcome : Outcome) (first first' : Option (List ℕ)) (short short' : Bool) (before mid after : ℕ) (old now new : Option Files)
    → SoFar files (file ∷ rest) first short before mid old now → Tells now new (Puts file.0 file.1 outcome) → after ≡ faults_after outcome mid
    → first' ≡ first_with first file.0 outcome → short' ≡ short_with short outcome
    → SoFar files rest first' short' before after old new
one_more_put files rest file outcome first first' short short' before mid after old now new so_far put counted first_is short_is = record {
  front = so_far.front ++ file ∷ [];
  puts = so_far.puts ++ outcome ∷ [];
  whole = so_far.whole ∙ sym (append_assoc so_far.front (file ∷ []) rest);
  even = length-append so_far.puts (outcome ∷ []) ∙ ap (λ (n : ℕ). n + 1) so_far.even ∙ sym (length-append so_far.front (file ∷ []));
  folder = tells_then old now new (PutsAll so_far.front so_far.puts) (Puts file.0 file.1 outcome) (PutsAll (so_far.front ++ file ∷ []) (so_far.puts ++ outcome ∷ []))
      (λ a b c all more. puts_more so_far.front so_far.puts file outcome a b c all more) so_far.folder put;
  put_faults = counted ∙ ap (λ (n : ℕ). faults_after outcome n) so_far.put_faults ∙ sym (faults_more so_far.puts outcome before);
  first_is = first_is ∙ ap (λ (o : Option (List ℕ)). first_with o file.0 outcome) so_far.first_is ∙ sym (first_more so_far.front so_far.puts file outcome so_far.even);
  short_is = short_is ∙ ap (λ (b : Bool). short_with b outcome) so_far.short_is ∙ sym (short_more so_far.puts outcome);
}

-- the next file of those that the code has
next_file : (files : List FileOut) (i : ℕ) (file : FileOut) → i < length files → file ≡ get_or files i file → map file_out (drop i files) ≡ file_out file ∷ map file_out (drop (i + 1) files)
next_file files i file within is =
    let step : suc i ≡ i + 1 = omega arith in
    ap (λ (fs : List FileOut). map file_out fs) (drop-cons files i file within)
    ∙ ap (λ (f : FileOut). file_out f ∷ map file_out (drop (suc i) files)) (sym is)
    ∙ ap (λ (n : ℕ). file_out file ∷ map file_out (drop n files)) step

pub one_more_file : (files : List FileOut) (i : ℕ) (file : FileOut) (path bytes : List ℕ) (outcome : Outcome) (first first' : Option (List ℕ)) (short short' : Bool) (before mid after : ℕ) (old now new : Option Files)
    → i < length files → file ≡ get_or files i file → path ≡ file.path → bytes ≡ file.bytes
    → SoFar (map file_out files) (map file_out (drop i files)) first short before mid old now
    → Tells now new (Puts path bytes outcome) → after ≡ faults_after outcome mid → first' ≡ first_with first path outcome → short' ≡ short_with short outcome
    → SoFar (map file_out files) (map file_out (drop (i + 1) files)) first' short' before after old new
one_more_file files i file path bytes outcome first first' short short' before mid after old now new within is path_is bytes_are so_far put counted first_is short_is =
    one_more_put (map file_out files) (map file_out (drop (i + 1) files)) (file_out file) outcome first first' short short' before mid after old now new
    (subst (λ (rest : List OutFile). SoFar (map file_out files) rest first short before mid old now) (next_file files i file within is) so_far)
    (subst (λ (b : List ℕ). Tells now new (Puts file.path b outcome)) bytes_are (subst (λ (p : List ℕ). Tells now new (Puts p bytes outcome)) path_is put))
    counted
    (first_is ∙ ap (λ (p : List ℕ). first_with first p outcome) path_is)
    short_is

-- all files are put
pub all_put : (planned ending : Ending) (files : List OutFile) (first : Option (List ℕ)) (short : Bool) (before after : ℕ) (old new : Option Files)
    → SoFar files [] first short before after old new → ending ≡ (if short then out_of_memory else or_failed planned first)
    → PutsFiles planned files before after old new ending
all_put planned ending files first short before after old new so_far ending_is =
    let whole : files ≡ so_far.front = so_far.whole ∙ append-nil so_far.front in
    record {
      puts = so_far.puts;
      each = so_far.even ∙ ap (λ (fs : List OutFile). length fs) (sym whole);
      folder = subst (λ (fs : List OutFile). Tells old new (PutsAll fs so_far.puts)) (sym whole) so_far.folder;
      put_faults = so_far.put_faults;
      ending_is = ending_is
          ∙ ap (λ (b : Bool). if b then out_of_memory else or_failed planned first) so_far.short_is
          ∙ ap (λ (o : Option (List ℕ)). if lacks_memory so_far.puts then out_of_memory else or_failed planned o) (so_far.first_is ∙ ap (λ (fs : List OutFile). first_failed fs so_far.puts) (sym whole));
    }

pub all_files_put : (planned ending : Ending) (files : List FileOut) (i : ℕ) (first : Option (List ℕ)) (short : Bool) (before after : ℕ) (old new : Option Files) → length files ≤ i
    → SoFar (map file_out files) (map file_out (drop i files)) first short before after old new → ending ≡ (if short then out_of_memory else or_failed planned first)
    → PutsFiles planned (map file_out files) before after old new ending
all_files_put planned ending files i first short before after old new past so_far ending_is =
    all_put planned ending (map file_out files) first short before after old new
    (subst (λ (rest : List FileOut). SoFar (map file_out files) (map file_out rest) first short before after old new) (drop_all i files past) so_far) ending_is
