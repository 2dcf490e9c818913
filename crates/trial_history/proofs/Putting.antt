-- The puts so far, and more of them.
use Rattle.std.proofs.Common.{◌≡◌, ◌≢◌, ℕ, ◌+◌, ◌<◌, ◌≤◌, suc, List, [], ◌∷◌, ◌++◌, length, take, drop, get_or, Bool, true, false, Option, Some, None, Result, Ok, Err, bytes_eq, if◌then◌else◌, refl, sym, ap, subst, ◌∙◌, arith, append_assoc, append-nil}
use Rattle.std.specs.Option.{option_or}
use Rattle.std.proofs.Math.Seq.{drop-cons, take-append_seam}
use Rattle.std.proofs.lemmas.Bool.{false≢true}
use Rattle.std.proofs.lemmas.List.{drop_all}
use Rattle.prov_outside.specs.Count.{faults_after}
use Rattle.prov_outside.specs.Folder.{Files, OthersStay, Puts as PutsOne}
use Rattle.prov_outside.specs.MemoryFolder.{last_of}
use Rattle.prov_outside.specs.Tells.{Tells}
use Rattle.prov_outside.specs.declared.trouble.Trouble.{Trouble}
use Rattle.prov_outside.specs.declared.trouble.Trouble.TheVariants.{Failed, Memory}
use Rattle.prov_outside.specs.declared.folder.Found.{Found}
use Rattle.prov_outside.specs.declared.folder.Found.TheVariants.{Bytes, Absent, TooLarge, Failed as NotRead}
use Rattle.trial_keeping.specs.declared.fault.TrialFault.TheVariants.{Memory as NoMemory}
use Rattle.std.proofs.lemmas.Slice.Eq.{bytes_eq-Decides}
use Rattle.trial_history.specs.declared.fault.RestoreFault.{RestoreFault}
use Rattle.trial_history.specs.declared.fault.RestoreFault.TheVariants.{Trial, Folder}
use Rattle.trial_history.specs.Restoring.{found_files}
use Rattle.trial_history.specs.Puts.{OneFile, End, all_put, refused, short, EndsBehind, Answers, with_files, Stands, faults_by, restored_line, restored_lines, Puts}

pub tells_then : {T : Type 0} (old mid new : Option T) (P Q R : T → T → Type 0) → ((a b c : T) → P a b → Q b c → R a c) → Tells old mid P → Tells mid new Q → Tells old new R
tells_then old mid None P Q R join first second = tt
tells_then old None (Some c) P Q R join first second = absurd second
tells_then None (Some b) (Some c) P Q R join first second = absurd first
tells_then (Some a) (Some b) (Some c) P Q R join first second = join a b c first second

pub tells_more : {T : Type 0} (old new : Option T) (P Q : T → T → Type 0) → ((a b : T) → P a b → Q a b) → Tells old new P → Tells old new Q
tells_more old None P Q more told = tt
tells_more None (Some b) P Q more told = absurd told
tells_more (Some a) (Some b) P Q more told = more a b told

pub tells_same : {T : Type 0} (told : Option T) (P : T → T → Type 0) → ((a : T) → P a a) → Tells told told P
tells_same None P same = tt
tells_same (Some a) P same = same a

-- ---- what stands behind more files

or_none : (found : Option (List ℕ)) → option_or found None ≡ found
or_none None = refl
or_none (Some bytes) = refl

or_or : (a b c : Option (List ℕ)) → option_or (option_or a b) c ≡ option_or a (option_or b c)
or_or None b c = refl
or_or (Some bytes) b c = refl

pub last_of-both : (xs ys : List OneFile) (path : List ℕ) → last_of (xs ++ ys) path ≡ option_or (last_of ys path) (last_of xs path)
last_of-both [] ys path = sym (or_none (last_of ys path))
last_of-both (x ∷ xs) ys path =
    let own : Option (List ℕ) = if bytes_eq x.0 path then Some x.1 else None in
    ap (λ (found : Option (List ℕ)). option_or found own) (last_of-both xs ys path) ∙ or_or (last_of ys path) (last_of xs path) own

with_both : (xs ys : List OneFile) (a b : Files) (path : List ℕ) → b path ≡ with_files xs a path → with_files ys b path ≡ with_files (xs ++ ys) a path
with_both xs ys a b path is =
    ap (λ (found : Option (List ℕ)). option_or (last_of ys path) found) is
    ∙ (sym (or_or (last_of ys path) (last_of xs path) (a path)) ∙ ap (λ (found : Option (List ℕ)). option_or found (a path)) (sym (last_of-both xs ys path)))

stands_then : (xs ys : List OneFile) (ended : End) (a b c : Files) → Stands xs all_put a b → Stands ys ended b c → Stands (xs ++ ys) ended a c
stands_then xs ys all_put a b c first second = λ path. second path ∙ with_both xs ys a b path (first path)
stands_then xs ys (refused path trouble) a b c first second = λ p other. second p other ∙ with_both xs ys a b p (first p)
stands_then xs ys short a b c first second = λ path. second path ∙ with_both xs ys a b path (first path)

-- ---- puts, and then puts

behind_then : (xs ys put : List OneFile) (ended : End) → EndsBehind ys put ended → EndsBehind (xs ++ ys) (xs ++ put) ended
behind_then xs ys put all_put behind = ap (λ (fs : List OneFile). xs ++ fs) behind
behind_then xs ys put (refused path trouble) behind = (behind.0, behind.1, ap (λ (fs : List OneFile). xs ++ fs) behind.2 ∙ sym (append_assoc xs put ((path, behind.0) ∷ behind.1)))
behind_then xs ys put short behind = (behind.0, ap (λ (fs : List OneFile). xs ++ fs) behind.1 ∙ sym (append_assoc xs put behind.0))

lines_both : (xs ys : List OneFile) → restored_lines (xs ++ ys) ≡ restored_lines xs ++ restored_lines ys
lines_both [] ys = refl
lines_both (x ∷ xs) ys = ap (λ (text : List ℕ). restored_line x.0 ++ text) (lines_both xs ys) ∙ sym (append_assoc (restored_line x.0) (restored_lines xs) (restored_lines ys))

lines_then : (xs ys : List OneFile) (t0 t1 t2 : List ℕ) → t1 ≡ t0 ++ restored_lines xs → t2 ≡ t1 ++ restored_lines ys → t2 ≡ t0 ++ restored_lines (xs ++ ys)
lines_then xs ys t0 t1 t2 first second =
    second ∙ (ap (λ (text : List ℕ). text ++ restored_lines ys) first
    ∙ (append_assoc t0 (restored_lines xs) (restored_lines ys) ∙ ap (λ (text : List ℕ). t0 ++ text) (sym (lines_both xs ys))))

-- all files were put
pub record AllPut (files : List OneFile) (told told' : List ℕ) (count count' : ℕ) (was is : Option Files) : Type 0 where
  pub lines : told' ≡ told ++ restored_lines files
  pub faults : count' ≡ count
  pub folder : Tells was is (Stands files all_put)

all_is : (files put : List OneFile) (ended : End) (told told' : List ℕ) (count count' : ℕ) (was is : Option Files) → EndsBehind files put ended → Answers ended (Ok tt) → told' ≡ told ++ restored_lines put → count' ≡ faults_by ended count
    → Tells was is (Stands put ended) → AllPut files told told' count count' was is
all_is files put all_put told told' count count' was is behind answers lines faults folder = record {
  lines = lines ∙ ap (λ (fs : List OneFile). told ++ restored_lines fs) (sym behind);
  faults = faults;
  folder = subst (λ (fs : List OneFile). Tells was is (Stands fs all_put)) (sym behind) folder;
}
all_is files put (refused path trouble) told told' count count' was is behind answers lines faults folder = absurd answers
all_is files put short told told' count count' was is behind answers lines faults folder = absurd answers

pub all_were : (files : List OneFile) (told told' : List ℕ) (count count' : ℕ) (was is : Option Files) → Puts files (Ok tt) told told' count count' was is → AllPut files told told' count count' was is
all_were files told told' count count' was is puts = all_is files puts.put puts.ended told told' count count' was is puts.behind puts.answers puts.lines puts.faults puts.folder

pub were_all : (files : List OneFile) (told told' : List ℕ) (count count' : ℕ) (was is : Option Files) → AllPut files told told' count count' was is → Puts files (Ok tt) told told' count count' was is
were_all files told told' count count' was is all = record { put = files; ended = all_put; behind = refl; answers = tt; lines = all.lines; faults = all.faults; folder = all.folder }

pub puts_then : (xs ys : List OneFile) (result : Result (Unit {0}) RestoreFault) (t0 t1 t2 : List ℕ) (c0 c1 c2 : ℕ) (was mid is : Option Files)
    → Puts xs (Ok tt) t0 t1 c0 c1 was mid → Puts ys result t1 t2 c1 c2 mid is → Puts (xs ++ ys) result t0 t2 c0 c2 was is
puts_then xs ys result t0 t1 t2 c0 c1 c2 was mid is puts more =
    let first = all_were xs t0 t1 c0 c1 was mid puts in
    record {
      put = xs ++ more.put;
      ended = more.ended;
      behind = behind_then xs ys more.put more.ended more.behind;
      answers = more.answers;
      lines = lines_then xs more.put t0 t1 t2 first.lines more.lines;
      faults = more.faults ∙ ap (λ (n : ℕ). faults_by more.ended n) first.faults;
      folder = tells_then was mid is (Stands xs all_put) (Stands more.put more.ended) (Stands (xs ++ more.put) more.ended) (λ a b c. stands_then xs more.put more.ended a b c) first.folder more.folder;
    }

-- the same, where the files behind are never come to
pub puts_stop : (xs ys : List OneFile) (fault : RestoreFault) (told told' : List ℕ) (count count' : ℕ) (was is : Option Files)
    → Puts xs (Err fault) told told' count count' was is → Puts (xs ++ ys) (Err fault) told told' count count' was is
puts_stop xs ys fault told told' count count' was is puts = record {
  put = puts.put;
  ended = puts.ended;
  behind = stop xs ys puts.put puts.ended fault puts.behind puts.answers;
  answers = puts.answers;
  lines = puts.lines;
  faults = puts.faults;
  folder = puts.folder;
} where
  stop : (xs ys put : List OneFile) (ended : End) (fault : RestoreFault) → EndsBehind xs put ended → Answers ended (Err fault) → EndsBehind (xs ++ ys) put ended
  stop xs ys put all_put fault behind answers = absurd answers
  stop xs ys put (refused path trouble) fault behind answers = (behind.0, behind.1 ++ ys, ap (λ (fs : List OneFile). fs ++ ys) behind.2 ∙ append_assoc put ((path, behind.0) ∷ behind.1) ys)
  stop xs ys put short fault behind answers = (behind.0 ++ ys, ap (λ (fs : List OneFile). fs ++ ys) behind.1 ∙ append_assoc put behind.0 ys)

-- ---- no file, and one

pub none_put : (told : List ℕ) (count : ℕ) (was : Option Files) → Puts [] (Ok tt) told told count count was was
none_put told count was = record {
  put = [];
  ended = all_put;
  behind = refl;
  answers = tt;
  lines = sym (append-nil told);
  faults = refl;
  folder = tells_same was (Stands [] all_put) (λ a path. refl);
}

decided : (path bytes p : List ℕ) (before after : Files) (t : Bool) → (t ≡ true → path ≡ p) × (path ≡ p → t ≡ true) → after path ≡ Some bytes → OthersStay path before after
    → after p ≡ option_or (if t then Some bytes else None) (before p)
decided path bytes p before after true is own others = subst (λ (q : List ℕ). after q ≡ Some bytes) (is.0 refl) own
decided path bytes p before after false is own others = others p (λ same. false≢true (is.1 (sym same)))

one_stands : (path bytes : List ℕ) (before after : Files) → (after path ≡ Some bytes) × OthersStay path before after → Stands ((path, bytes) ∷ []) all_put before after
one_stands path bytes before after put = λ p. decided path bytes p before after (bytes_eq path p) ((bytes_eq-Decides path p).0, (bytes_eq-Decides path p).1) put.0 put.1

pub one_put : (path bytes told told' : List ℕ) (count count' : ℕ) (was is : Option Files) (done : Unit {0}) → told' ≡ told ++ restored_line path → count' ≡ count → Tells was is (PutsOne path bytes (Ok done))
    → Puts ((path, bytes) ∷ []) (Ok tt) told told' count count' was is
one_put path bytes told told' count count' was is done lines faults folder = record {
  put = (path, bytes) ∷ [];
  ended = all_put;
  behind = refl;
  answers = tt;
  lines = lines ∙ ap (λ (text : List ℕ). told ++ text) (sym (append-nil (restored_line path)));
  faults = faults;
  folder = tells_more was is (PutsOne path bytes (Ok done)) (Stands ((path, bytes) ∷ []) all_put) (λ a b put. one_stands path bytes a b put) folder;
}

counted : (path : List ℕ) (trouble : Trouble) (count count' : ℕ) → count' ≡ faults_after {T = Unit {0}} (Err trouble) count → count' ≡ faults_by (refused path trouble) count
counted path Failed count count' is = is
counted path Memory count count' is = is

pub one_refused : (path bytes told told' : List ℕ) (trouble : Trouble) (result : Result (Unit {0}) RestoreFault) (count count' : ℕ) (was is : Option Files) → Answers (refused path trouble) result → told' ≡ told
    → count' ≡ faults_after {T = Unit {0}} (Err trouble) count → Tells was is (PutsOne {T = Unit {0}} path bytes (Err trouble)) → Puts ((path, bytes) ∷ []) result told told' count count' was is
one_refused path bytes told told' trouble result count count' was is answers lines faults folder = record {
  put = [];
  ended = refused path trouble;
  behind = (bytes, [], refl);
  answers = answers;
  lines = lines ∙ sym (append-nil told);
  faults = counted path trouble count count' faults;
  folder = tells_more was is (PutsOne {T = Unit {0}} path bytes (Err trouble)) (Stands [] (refused path trouble)) (λ a b put. put) folder;
}

pub one_short : (file : OneFile) (told told' : List ℕ) (count : ℕ) (was : Option Files) → told' ≡ told → Puts (file ∷ []) (Err (Trial NoMemory)) told told' count count was was
one_short file told told' count was lines = record {
  put = [];
  ended = short;
  behind = (file ∷ [], refl);
  answers = refl;
  lines = lines ∙ sym (append-nil told);
  faults = refl;
  folder = tells_same was (Stands [] short) (λ a path. refl);
}

-- a line that is taken back
pub taken_back : (told line longer shorter : List ℕ) → longer ≡ told ++ line → shorter ≡ take (length told) longer → shorter ≡ told
taken_back told line longer shorter grown cut = cut ∙ (ap (λ (text : List ℕ). take (length told) text) grown ∙ take-append_seam told line)

-- ---- the files that were found

abbrev pub OneFound : Type 0
OneFound = List ℕ × Found

found_more : (file : OneFound) (files : List OneFound) → found_files (file ∷ files) ≡ found_files (file ∷ []) ++ found_files files
found_more (path, Bytes bytes) files = refl
found_more (path, Absent) files = refl
found_more (path, TooLarge) files = refl
found_more (path, NotRead) files = refl

found_next : (files : List OneFound) (i : ℕ) (file : OneFound) → i < length files → file ≡ get_or files i file → found_files (drop i files) ≡ found_files (file ∷ []) ++ found_files (drop (i + 1) files)
found_next files i file within is =
    let step : suc i ≡ i + 1 = omega arith in
    ap found_files (drop-cons files i file within)
    ∙ (ap (λ (f : OneFound). found_files (f ∷ drop (suc i) files)) (sym is)
    ∙ (ap (λ (n : ℕ). found_files (file ∷ drop n files)) step ∙ found_more file (drop (i + 1) files)))

-- those before this place were put
pub record SoFar (files : List OneFound) (i : ℕ) (told told' : List ℕ) (count count' : ℕ) (was is : Option Files) : Type 0 where
  pub front : List OneFile
  pub whole : found_files files ≡ front ++ found_files (drop i files)
  pub puts : Puts front (Ok tt) told told' count count' was is

pub none_yet : (files : List OneFound) (told : List ℕ) (count : ℕ) (was : Option Files) → SoFar files 0 told told count count was was
none_yet files told count was = record { front = []; whole = refl; puts = none_put told count was }

pub one_more : (files : List OneFound) (i : ℕ) (file : OneFound) (t0 t1 t2 : List ℕ) (c0 c1 c2 : ℕ) (was mid is : Option Files) → i < length files → file ≡ get_or files i file
    → SoFar files i t0 t1 c0 c1 was mid → Puts (found_files (file ∷ [])) (Ok tt) t1 t2 c1 c2 mid is → SoFar files (i + 1) t0 t2 c0 c2 was is
one_more files i file t0 t1 t2 c0 c1 c2 was mid is within same so_far more = record {
  front = so_far.front ++ found_files (file ∷ []);
  whole = so_far.whole ∙ (ap (λ (fs : List OneFile). so_far.front ++ fs) (found_next files i file within same) ∙ sym (append_assoc so_far.front (found_files (file ∷ [])) (found_files (drop (i + 1) files))));
  puts = puts_then so_far.front (found_files (file ∷ [])) (Ok tt) t0 t1 t2 c0 c1 c2 was mid is so_far.puts more;
}

pub one_stops : (files : List OneFound) (i : ℕ) (file : OneFound) (fault : RestoreFault) (t0 t1 t2 : List ℕ) (c0 c1 c2 : ℕ) (was mid is : Option Files) → i < length files → file ≡ get_or files i file
    → SoFar files i t0 t1 c0 c1 was mid → Puts (found_files (file ∷ [])) (Err fault) t1 t2 c1 c2 mid is → Puts (found_files files) (Err fault) t0 t2 c0 c2 was is
one_stops files i file fault t0 t1 t2 c0 c1 c2 was mid is within same so_far more =
    let whole : found_files files ≡ (so_far.front ++ found_files (file ∷ [])) ++ found_files (drop (i + 1) files) =
    so_far.whole ∙ (ap (λ (fs : List OneFile). so_far.front ++ fs) (found_next files i file within same) ∙ sym (append_assoc so_far.front (found_files (file ∷ [])) (found_files (drop (i + 1) files)))) in
    subst (λ (fs : List OneFile). Puts fs (Err fault) t0 t2 c0 c2 was is) (sym whole)
    (puts_stop (so_far.front ++ found_files (file ∷ [])) (found_files (drop (i + 1) files)) fault t0 t2 c0 c2 was is
    (puts_then so_far.front (found_files (file ∷ [])) (Err fault) t0 t1 t2 c0 c1 c2 was mid is so_far.puts more))

pub all_so_far : (files : List OneFound) (i : ℕ) (told told' : List ℕ) (count count' : ℕ) (was is : Option Files) → length files ≤ i → SoFar files i told told' count count' was is
    → Puts (found_files files) (Ok tt) told told' count count' was is
all_so_far files i told told' count count' was is past so_far =
    let whole : found_files files ≡ so_far.front = so_far.whole ∙ (ap (λ (fs : List OneFound). so_far.front ++ found_files fs) (drop_all i files past) ∙ append-nil so_far.front) in
    subst (λ (fs : List OneFile). Puts fs (Ok tt) told told' count count' was is) (sym whole) so_far.puts
