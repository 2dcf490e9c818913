-- The evaluation with the same number at the same place: a place is of one statement, so all evaluations at the place of a kept statement's are
-- in both runs.
use Rattle.py_tree.specs.Deletion.{deleted}
use Rattle.std.proofs.Common.{◌≡◌, ◌≤◌, ℕ, suc, Bool, true, false, ◌&&◌, ◌==◌, if◌then◌else◌, List, [], ◌∷◌, ◌++◌, Some, option_map, inl, refl, sym, ap, ap₂, subst, ◌∙◌, arith, eqb-true, eq-eqb}
use Rattle.std.specs.Prelude.{⊤}
use Rattle.std.proofs.lemmas.Bool.{false≢true, and_parts, and_from}
use Rattle.prov_base.specs.declared.place.Pos.{Pos}
use Rattle.prov_base.specs.contracts.place.PosPartialEq.TheImpl.{ghosts as places}
use Rattle.py_tree.specs.Places.{suite_places, are_distinct}
use Rattle.py_tree.specs.Tree.{ScriptTree}
use Rattle.py_tree.specs.WellFormed.{IsWellFormed}
use Rattle.py_model.specs.Capture.{Capture, opening_in}
use Rattle.py_model.specs.History.{spent_on}
use Rattle.py_model.specs.Moment.{Moment, begins, does, enters, leaves, ends}
use Rattle.py_model.specs.Occurrences.{evaluates, is_value, is_evaluation_at, evaluations_at, up_to_evaluation, owner_stmt}
use Rattle.py_model.specs.Plan.{Answer, value, raised, at_end}
use Rattle.py_model.specs.Renaming.{Renaming, renamed_answer}
use Rattle.slice_law.specs.Closed.{StmtSet, IsIn, IsClosed, store_after}
use Rattle.slice_law.specs.Edges.{from_option, asked_by_value, module_jumps}
use Rattle.slice_law.specs.Slices.{told_by}
use Rattle.slice_simulation.proofs.Happenings.{Laws}
use Rattle.slice_simulation.proofs.Marks.{shifts}
use Rattle.slice_simulation.proofs.OwnMoments.{place_same, AllOwn, Owns, all_own}
use Rattle.slice_simulation.proofs.Knowing.{FlowLaws}
use Rattle.slice_simulation.proofs.BoundRuns.{NameLaws}
use Rattle.slice_simulation.proofs.Simulating.{KnownLast}
use Rattle.slice_law.specs.Classes.{ClassesStandOutside}
use Rattle.model_laws.specs.Defined.{defines}
use Rattle.model_laws.specs.Flow.{KnownStore}
use Rattle.slice_simulation.proofs.Simulations.{Simulated, simulated}
use Rattle.slice_simulation.proofs.Standing.{in_front, owner_once}
use Rattle.slice_simulation.specs.Owned.{owned_suite, SamePlace}
use Rattle.slice_simulation.specs.Related.{renamed_moment, Follows, at_start as nothing_done, both_did, alone_did, both_began, alone_began, passed, both_ended, alone_ended}
use Rattle.slice_simulation.specs.Renaming.{Fits, IsShifted, Marks, all_marks}
use Rattle.slice_simulation.specs.Simulation.{answer_of, ReachesEvaluation}

-- a moment that evaluates at the place, with its number
module _ (q : Pos) where
  pub record IsFound (k : ℕ) (told upto : List Moment) : Type 0 where
    pub after : List Moment
    pub whole_is : told ≡ after ++ upto
    pub moment : Moment
    pub before : List Moment
    pub upto_is : upto ≡ moment ∷ before
    pub evaluates_here : is_evaluation_at q moment ≡ true
    pub counted : suc (evaluations_at q before) ≡ k

  some_same : (xs ys : List Moment) → Some xs ≡ Some ys → xs ≡ ys
  some_same xs ys is = cc

  pub found_is : (k : ℕ) (told upto : List Moment) → up_to_evaluation q k told ≡ Some upto → IsFound k told upto
  found_is k [] upto is = absurd cc
  found_is k (moment ∷ before) upto is = by_test (is_evaluation_at q moment && (suc (evaluations_at q before) == k)) refl is (found_is k before upto)
    where
      by_test : (test : Bool) → (is_evaluation_at q moment && (suc (evaluations_at q before) == k)) ≡ test
          → (if test then Some (moment ∷ before) else up_to_evaluation q k before) ≡ Some upto → (up_to_evaluation q k before ≡ Some upto → IsFound k before upto) → IsFound k (moment ∷ before) upto
      by_test true so is on =
          let parts : (is_evaluation_at q moment ≡ true) × ((suc (evaluations_at q before) == k) ≡ true) = and_parts (is_evaluation_at q moment) (suc (evaluations_at q before) == k) so in
          record { after = []; whole_is = some_same (moment ∷ before) upto is; moment = moment; before = before; upto_is = sym (some_same (moment ∷ before) upto is); evaluates_here = parts.0; counted = eqb-true (suc (evaluations_at q before)) k parts.1 }
      by_test false so is on = let found : IsFound k before upto = on is in
          record { after = moment ∷ found.after; whole_is = ap (λ (told : List Moment). moment ∷ told) found.whole_is; moment = found.moment; before = found.before; upto_is = found.upto_is; evaluates_here = found.evaluates_here; counted = found.counted }

  evaluations_grow : (after told : List Moment) → evaluations_at q told ≤ evaluations_at q (after ++ told)
  evaluations_grow [] told = omega arith
  evaluations_grow (moment ∷ after) told = by_test (is_evaluation_at q moment) (evaluations_grow after told)
    where
      by_test : (test : Bool) → evaluations_at q told ≤ evaluations_at q (after ++ told) → evaluations_at q told ≤ (if test then suc (evaluations_at q (after ++ told)) else evaluations_at q (after ++ told))
      by_test true most = omega (arith, most)
      by_test false most = most

  pub find_again : (k : ℕ) (after : List Moment) (moment : Moment) (before : List Moment) → is_evaluation_at q moment ≡ true → suc (evaluations_at q before) ≡ k
      → up_to_evaluation q k (after ++ moment ∷ before) ≡ Some (moment ∷ before)
  find_again k [] moment before evaluates_here counted =
      ap (λ test. if test then Some (moment ∷ before) else up_to_evaluation q k before)
      (and_from (is_evaluation_at q moment) (suc (evaluations_at q before) == k) evaluates_here (eq-eqb (suc (evaluations_at q before)) k counted))
  find_again k (first ∷ after) moment before evaluates_here counted =
      ap (λ test. if is_evaluation_at q first && test then Some (first ∷ (after ++ moment ∷ before)) else up_to_evaluation q k (after ++ moment ∷ before)) (too_many (suc (evaluations_at q (after ++ moment ∷ before)) == k) refl)
      ∙ (ap (λ test. if test then Some (first ∷ (after ++ moment ∷ before)) else up_to_evaluation q k (after ++ moment ∷ before)) (and_false (is_evaluation_at q first))
      ∙ find_again k after moment before evaluates_here counted)
    where
      and_false : (b : Bool) → (b && false) ≡ false
      and_false true = refl
      and_false false = refl

      here_counts : evaluations_at q (moment ∷ before) ≡ k
      here_counts = ap (λ test. if test then suc (evaluations_at q before) else evaluations_at q before) evaluates_here ∙ counted

      too_many : (test : Bool) → (suc (evaluations_at q (after ++ moment ∷ before)) == k) ≡ test → (suc (evaluations_at q (after ++ moment ∷ before)) == k) ≡ false
      too_many true is = absurd (omega (arith, eqb-true (suc (evaluations_at q (after ++ moment ∷ before))) k is, evaluations_grow after (moment ∷ before), here_counts))
      too_many false is = is

  -- all evaluations at the place are of kept statements
  module _ (keep : StmtSet) where
    abbrev pub AreKept : List Moment → Type 0
    AreKept [] = ⊤
    AreKept (moment ∷ before) = (is_evaluation_at q moment ≡ true → (n : ℕ) → owner_stmt before ≡ Some n → keep n ≡ true) × AreKept before

    renamed_evaluates : (r : Renaming) (moment : Moment) → is_evaluation_at q (renamed_moment r moment) ≡ is_evaluation_at q moment
    renamed_evaluates r (does at number values (value v) made accesses weight) = refl
    renamed_evaluates r (does at number values (raised o) made accesses weight) = refl
    renamed_evaluates r (does at number values at_end made accesses weight) = refl
    renamed_evaluates r (begins n) = refl
    renamed_evaluates r (enters at def values accesses) = refl
    renamed_evaluates r (leaves v) = refl
    renamed_evaluates r (ends n ended) = refl

    module _ (names : ℕ → ℕ → Type 0) (marks : Marks) (near : IsShifted marks 0) where
      pub evaluations_same : {told again : List Moment} → Follows names keep marks told again → AreKept told → evaluations_at q again ≡ evaluations_at q told
      evaluations_same nothing_done kept = refl
      evaluations_same (both_did {moment = moment} is owner same rest) kept =
          ap₂ (λ test n. if test then suc n else n) (ap (is_evaluation_at q) (same near.by near.fits) ∙ renamed_evaluates near.by moment) (evaluations_same rest kept.1)
      evaluations_same (alone_did {s} {moment} {before} out owner rest) kept =
          evaluations_same rest kept.1 ∙ sym (ap (λ test. if test then suc (evaluations_at q before) else evaluations_at q before) (none (is_evaluation_at q moment) refl))
        where
          none : (test : Bool) → is_evaluation_at q moment ≡ test → is_evaluation_at q moment ≡ false
          none true is = absurd (false≢true (sym out ∙ kept.0 is s owner))
          none false is = is
      evaluations_same (both_began is named rest) kept = evaluations_same rest kept.1
      evaluations_same (alone_began out lone rest) kept = evaluations_same rest kept.1
      evaluations_same (passed out named rest) kept = evaluations_same rest kept.1
      evaluations_same (both_ended is named rest) kept = evaluations_same rest kept.1
      evaluations_same (alone_ended out rest) kept = evaluations_same rest kept.1

      pub record IsAgain (moment : Moment) (before again : List Moment) : Type 0 where
        pub other : Moment
        pub others : List Moment
        pub again_is : again ≡ other ∷ others
        pub other_is : (r : Renaming) → Fits marks r → other ≡ renamed_moment r moment
        pub rest : Follows names keep marks before others

      pub head_again : {moment : Moment} {before told again : List Moment} → told ≡ moment ∷ before → Follows names keep marks told again → is_evaluation_at q moment ≡ true
          → ((n : ℕ) → owner_stmt before ≡ Some n → keep n ≡ true) → IsAgain moment before again
      head_again told_is nothing_done evaluates_here kept = absurd cc
      head_again {moment} {before} told_is (both_did {s = s} {moment = first} {other = other} {before = rest} {others = others} is owner same follows) evaluates_here kept =
          let first_is : first ≡ moment = cc in
          let rest_is : rest ≡ before = cc in
          record { other = other; others = others; again_is = refl; other_is = λ r fits. same r fits ∙ ap (renamed_moment r) first_is; rest = subst (λ told. Follows names keep marks told others) rest_is follows }
      head_again {moment} {before} told_is (alone_did {s = s} {moment = first} {before = rest} {others = others} out owner follows) evaluates_here kept =
          let rest_is : rest ≡ before = cc in absurd (false≢true (sym out ∙ kept s (ap owner_stmt (sym rest_is) ∙ owner)))
      head_again {moment} told_is (both_began {s} is named follows) evaluates_here kept = let first_is : begins s ≡ moment = cc in absurd (false≢true (ap (is_evaluation_at q) first_is ∙ evaluates_here))
      head_again {moment} told_is (alone_began {s} out lone follows) evaluates_here kept = let first_is : begins s ≡ moment = cc in absurd (false≢true (ap (is_evaluation_at q) first_is ∙ evaluates_here))
      head_again {moment} told_is (passed {s} out named follows) evaluates_here kept = let first_is : begins s ≡ moment = cc in absurd (false≢true (ap (is_evaluation_at q) first_is ∙ evaluates_here))
      head_again {moment} told_is (both_ended {s} {n} {ended} is named follows) evaluates_here kept = let first_is : ends s ended ≡ moment = cc in absurd (false≢true (ap (is_evaluation_at q) first_is ∙ evaluates_here))
      head_again {moment} told_is (alone_ended {s} {ended} out follows) evaluates_here kept = let first_is : ends s ended ≡ moment = cc in absurd (false≢true (ap (is_evaluation_at q) first_is ∙ evaluates_here))

module _ (laws : Laws) (flow : FlowLaws) (name_laws : NameLaws) (script : ScriptTree) (capture : Capture) (path : List ℕ) (arguments : List (List ℕ)) (steps : ℕ) (keep : StmtSet) (q : Pos) (upto : List Moment) where
  -- so where the place is a kept statement's, all evaluations there are
  kept_there : (m : ℕ) → keep m ≡ true → Owns script capture path arguments steps keep upto m q → are_distinct (suite_places script.body) ≡ true → (told : List Moment) → AllOwn (Owns script capture path arguments steps keep upto) told → AreKept q keep told
  kept_there m kept own apart [] all = tt
  kept_there m kept own apart (does p number values answer made accesses weight ∷ before) all =
      ((λ is n owner. by_own p number answer is all.0 n owner), kept_there m kept own apart before all.1)
    where
      by_own : (p : Pos) (number : ℕ) (answer : Answer) → (places.eq p q && (evaluates number && is_value answer)) ≡ true
          → (evaluates number ≡ true → (n : ℕ) × (_ : owner_stmt before ≡ Some n) × Owns script capture path arguments steps keep upto n p) → (n : ℕ) → owner_stmt before ≡ Some n → keep n ≡ true
      by_own p number answer is owns n owner =
          let parts : (places.eq p q ≡ true) × ((evaluates number && is_value answer) ≡ true) = and_parts (places.eq p q) (evaluates number && is_value answer) is in
          let here : (n : ℕ) × (_ : owner_stmt before ≡ Some n) × Owns script capture path arguments steps keep upto n p = owns (and_parts (evaluates number) (is_value answer) parts.1).0 in
          let same : here.0 ≡ n = number_same here.0 n (sym here.1 ∙ owner) in
          ap keep (sym same ∙ owner_once script.body here.0 m q apart (subst (λ place. IsIn (owned_suite script.body) (here.0, place)) (place_same p q parts.0) here.2) own) ∙ kept
        where
          number_same : (a b : ℕ) → Some a ≡ Some b → a ≡ b
          number_same a b is = cc
  kept_there m kept own apart (begins n ∷ before) all = ((λ is. absurd (false≢true is)), kept_there m kept own apart before all.1)
  kept_there m kept own apart (enters at def values accesses ∷ before) all = ((λ is. absurd (false≢true is)), kept_there m kept own apart before all.1)
  kept_there m kept own apart (leaves v ∷ before) all = ((λ is. absurd (false≢true is)), kept_there m kept own apart before all.1)
  kept_there m kept own apart (ends n ended ∷ before) all = ((λ is. absurd (false≢true is)), kept_there m kept own apart before all.1)

  -- the statement of the last evaluation is kept
  pub record LastKept : Type 0 where
    pub number : ℕ
    pub kept : keep number ≡ true
    pub owns : Owns script capture path arguments steps keep upto number q

  last_kept : IsClosed script (opening_in capture path arguments) upto keep → (moment : Moment) (before : List Moment) → upto ≡ moment ∷ before → is_evaluation_at q moment ≡ true
      → AllOwn (Owns script capture path arguments steps keep upto) (moment ∷ before) → LastKept
  last_kept closed (does p number values answer made accesses weight) before upto_is is all = by_answer answer upto_is
      (and_parts (evaluates number) (is_value answer) (and_parts (places.eq p q) (evaluates number && is_value answer) is).1)
    where
      same_place : p ≡ q
      same_place = place_same p q (and_parts (places.eq p q) (evaluates number && is_value answer) is).0

      by_answer : (one : Answer) → upto ≡ does p number values one made accesses weight ∷ before → (evaluates number ≡ true) × (is_value one ≡ true) → LastKept
      by_answer (value v) upto_is parts =
          let here : (n : ℕ) × (_ : owner_stmt before ≡ Some n) × Owns script capture path arguments steps keep upto n p = all.0 parts.0 in
          record {
            number = here.0;
            kept = closed.has_roots here.0 (in_front (asked_by_value (store_after (opening_in capture path arguments) upto) upto) (module_jumps upto) here.0
                (subst (λ told. IsIn (asked_by_value (store_after (opening_in capture path arguments) told) told) here.0) (sym upto_is)
                (in_front (from_option (owner_stmt before)) _ here.0 (subst (λ own. IsIn (from_option own) here.0) (sym here.1) (inl refl)))));
            owns = subst (λ place. IsIn (owned_suite script.body) (here.0, place)) same_place here.2;
          }
      by_answer (raised o) upto_is parts = absurd (false≢true parts.1)
      by_answer at_end upto_is parts = absurd (false≢true parts.1)
  last_kept closed (begins n) before upto_is is all = absurd (false≢true is)
  last_kept closed (enters at def values accesses) before upto_is is all = absurd (false≢true is)
  last_kept closed (leaves v) before upto_is is all = absurd (false≢true is)
  last_kept closed (ends n ended) before upto_is is all = absurd (false≢true is)

  answer_renamed : (r : Renaming) (moment : Moment) (before others : List Moment) → answer_of (renamed_moment r moment ∷ others) ≡ option_map (renamed_answer r) (answer_of (moment ∷ before))
  answer_renamed r (does p number values answer made accesses weight) before others = refl
  answer_renamed r (begins n) before others = refl
  answer_renamed r (enters at def values accesses) before others = refl
  answer_renamed r (leaves v) before others = refl
  answer_renamed r (ends n ended) before others = refl

  -- and what the slice knows there
  pub record Reached (budget k : ℕ) : Type 0 where
    pub reaches : ReachesEvaluation script capture path arguments budget keep q k upto
    pub knows : KnownStore (defines (deleted keep script)) (store_after (opening_in capture path arguments) reaches.simulates.again)
    pub last : KnownLast (defines (deleted keep script)) reaches.simulates.again

  pub reached : (budget k : ℕ) → IsWellFormed script → ClassesStandOutside script → IsClosed script (opening_in capture path arguments) upto keep
      → up_to_evaluation q k (told_by script capture path arguments steps) ≡ Some upto → spent_on upto ≤ budget → Reached budget k
  reached budget k well classes closed is enough = record {
    reaches = record {
      simulates = whole.simulates;
      found = ap (up_to_evaluation q k) (whole.simulates.reached ∙ ap (λ (told : List Moment). whole.simulates.after ++ told) once_more.again_is)
          ∙ (find_again q k whole.simulates.after once_more.other once_more.others evaluates_too (ap suc counted ∙ found.counted)
          ∙ ap (λ (told : List Moment). Some told) (sym once_more.again_is));
      answers = λ r fits. ap answer_of once_more.again_is
          ∙ (ap (λ other. answer_of (other ∷ once_more.others)) (once_more.other_is r fits)
          ∙ (answer_renamed r found.moment found.before once_more.others ∙ ap (λ told. option_map (renamed_answer r) (answer_of told)) (sym found.upto_is)));
    };
    knows = whole.knows;
    last = whole.last;
  }
    where
      found : IsFound q k (told_by script capture path arguments steps) upto
      found = found_is q k (told_by script capture path arguments steps) upto is

      whole : Simulated laws flow name_laws script capture path arguments keep upto steps budget closed well classes
      whole = simulated laws flow name_laws script capture path arguments keep upto steps budget closed well classes found.after found.whole_is enough

      own : AllOwn (Owns script capture path arguments steps keep upto) upto
      own = all_own script capture path arguments steps keep upto
          (record { rest = found.after; told_is = found.whole_is })

      last : LastKept
      last = last_kept closed found.moment found.before found.upto_is found.evaluates_here (subst (AllOwn (Owns script capture path arguments steps keep upto)) found.upto_is own)

      all_kept : AreKept q keep (found.moment ∷ found.before)
      all_kept = subst (AreKept q keep) found.upto_is (kept_there last.number last.kept last.owns well.apart upto own)

      near : IsShifted (all_marks keep upto) 0
      near = shifts keep upto 0

      once_more : IsAgain q keep (SamePlace script (deleted keep script)) (all_marks keep upto) near found.moment found.before whole.simulates.again
      once_more = head_again q keep (SamePlace script (deleted keep script)) (all_marks keep upto) near found.upto_is whole.simulates.follows found.evaluates_here (all_kept.0 found.evaluates_here)

      evaluates_too : is_evaluation_at q once_more.other ≡ true
      evaluates_too = ap (is_evaluation_at q) (once_more.other_is near.by near.fits) ∙ (renamed_evaluates q keep near.by found.moment ∙ found.evaluates_here)

      counted : evaluations_at q once_more.others ≡ evaluations_at q found.before
      counted = evaluations_same q keep (SamePlace script (deleted keep script)) (all_marks keep upto) near once_more.rest all_kept.1
