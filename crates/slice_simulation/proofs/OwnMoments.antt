-- The statement of each evaluation is the one that has its place.
use Rattle.py_value.specs.Seen.{SeenAccess, SeenKind}
use Rattle.py_value.specs.Contents.{Contents}
use Rattle.std.proofs.Common.{◌≡◌, ◌≤◌, ◌<◌, ℕ, suc, Bool, true, false, ◌||◌, ◌==◌, if◌then◌else◌, List, [], ◌∷◌, ◌++◌, map, length, nat_le, nat_lt, Some, refl, sym, ap, subst, ◌∙◌, arith, eqb-true, ltb-true, ltb-false, rules, Option}
use Rattle.std.specs.Prelude.{⊤}
use Rattle.std.proofs.lemmas.Bool.{false≢true}
use Rattle.prov_base.specs.declared.place.Pos.{Pos}
use Rattle.prov_base.specs.contracts.place.PosPartialEq.TheImpl.{ghosts as places}
use Rattle.py_tree.specs.Places.{suite_places, are_distinct}
use Rattle.py_tree.specs.Tree.{ScriptTree}
use Rattle.py_model.specs.Act.{Act, Walked, close, leave}
use Rattle.py_model.specs.Capture.{Capture, opening_in}
use Rattle.py_tree.specs.Functions.{function_at}
use Rattle.py_model.specs.Going.{Open, a_statement, an_activation}
use Rattle.py_model.specs.Meaning.{level, meaning, at_start, starting}
use Rattle.py_model.specs.Moment.{Moment, begins, does, leaves, ends}
use Rattle.py_model.specs.Occurrences.{frames_after, open_of, evaluates, owner_stmt}
use Rattle.py_model.specs.Plan.{Answer}
use Rattle.py_model.specs.Running.{State, spent, lacking, Happened, did, too_dear, lacked, effect_of, operation, outcome, beginning, entering, tell}
use Rattle.py_model.specs.Store.{RunStore}
use Rattle.py_model.specs.Quiet.{may_ask}
use Rattle.slice_law.specs.Closed.{StmtSet, IsIn}
use Rattle.slice_simulation.proofs.Onwards.{CameBy, came_by, same_end}
use Rattle.slice_simulation.proofs.PlacedRules.{FoundPlaced, suite_placed, bodies_placed, levels_placed, found_placed}
use Rattle.slice_simulation.proofs.Simulating.{Through, told_within, not_yet, owner_in, closed_frames, left_frames}
use Rattle.slice_simulation.proofs.Standing.{AllOwned, Stands, st_ret, st_stop, st_perform, st_begin, st_close, st_enter, st_leave, owner_once}
use Rattle.slice_simulation.specs.Owned.{owned_suite}

pub place_same : (p q : Pos) → places.eq p q ≡ true → p ≡ q
place_same p q is = search rules

module _ (P : ℕ → Pos → Type 0) where
  -- the statement of an evaluation is known, and something holds of its place
  abbrev pub OwnMoment : Moment → List Moment → Type 0
  OwnMoment (does at number values answer made accesses weight) before = evaluates number ≡ true → (n : ℕ) × (_ : owner_stmt before ≡ Some n) × P n at
  OwnMoment moment before = ⊤

  abbrev pub AllOwn : List Moment → Type 0
  AllOwn [] = ⊤
  AllOwn (moment ∷ before) = OwnMoment moment before × AllOwn before

  module _ (capture : Capture) (keep : StmtSet) (opening : RunStore) (upto : List Moment) where
    pub arrived : (a : Act) (s : State) → AllOwn s.told → length s.told ≤ length upto → Through capture keep opening upto (outcome capture a s)
        → (length s.told < length upto → AllOwn upto) → AllOwn upto
    arrived a s own short through go = by_length (nat_lt (length s.told) (length upto)) refl
      where
        by_length : (test : Bool) → nat_lt (length s.told) (length upto) ≡ test → AllOwn upto
        by_length true is = go (ltb-true (length s.told) (length upto) is)
        by_length false is = subst AllOwn
            (sym (same_end s.told upto (told_within capture keep opening upto a s short through) (omega (arith, short, ltb-false (length s.told) (length upto) is)))) own

    pub stands_told : {from onto : List Open} {a : Act} → Stands P from onto a → (s : State) → AllOwn s.told → map open_of (frames_after s.told) ≡ from
        → length s.told < length upto → Through capture keep opening upto (outcome capture a s) → AllOwn upto
    stands_told st_ret s own frames early through = absurd (not_yet capture keep opening upto s refl early through)
    stands_told st_stop s own frames early through = absurd (not_yet capture keep opening upto s refl early through)
    stands_told (st_perform {n = n} {from = from} {at = at} {p = p} {vs = vs} {f = f} stands next) s own frames early through =
        by_happened (operation capture at p vs s) (came_by capture at p vs s) through (λ answer came u. stands_told (next answer came) u)
      where
        by_happened : (h : Happened) → CameBy at p vs (effect_of capture at p vs s) s h
            → Through capture keep opening upto (elim h [ did answer came u ↦ outcome capture (f answer came) u | too_dear u ↦ spent u | lacked u ↦ lacking u ])
            → ((answer : Answer) (came : Walked) (u : State) → AllOwn u.told → map open_of (frames_after u.told) ≡ a_statement n ∷ from → length u.told < length upto
            → Through capture keep opening upto (outcome capture (f answer came) u) → AllOwn upto)
            → AllOwn upto
        by_happened (too_dear u) came through on = absurd (not_yet capture keep opening upto s came.0 early through)
        by_happened (lacked u) came through on = absurd (not_yet capture keep opening upto s came.0 early through)
        by_happened (did answer came u) told through on =
            let own_now : AllOwn u.told = subst AllOwn (sym told.told_is) ((λ is. (n, owner_in s.told n from frames, stands is)), own) in
            arrived (f answer came) u own_now (omega (arith, ap length told.told_is, early)) through
            (λ early. on answer came u own_now (ap (λ told. map open_of (frames_after told)) told.told_is ∙ frames) early through)
    stands_told (st_begin {n = n} {from = from} {a = a} rest) s own frames early through = by_left (nat_le 1 s.left) through (stands_told rest (beginning n s))
      where
        by_left : (enough : Bool) → Through capture keep opening upto (if enough then outcome capture a (beginning n s) else spent s)
            → (AllOwn (begins n ∷ s.told) → map open_of (frames_after (begins n ∷ s.told)) ≡ a_statement n ∷ from → suc (length s.told) < length upto
            → Through capture keep opening upto (outcome capture a (beginning n s)) → AllOwn upto)
            → AllOwn upto
        by_left false through on = absurd (not_yet capture keep opening upto s refl early through)
        by_left true through on = arrived a (beginning n s) (tt, own) (omega (arith, early)) through
            (λ early. on (tt, own) (ap (λ (open_ones : List Open). a_statement n ∷ open_ones) frames) early through)
    stands_told (st_close {n = n} {from = from} {ended = ended} {a = a} rest) s own frames early through =
        arrived a (tell (ends n ended) s) (tt, own) (omega (arith, early)) (told_on through)
        (λ early. stands_told rest (tell (ends n ended) s) (tt, own) (closed_frames (frames_after s.told) n from frames) early (told_on through))
      where
        told_on : Through capture keep opening upto (outcome capture (close n ended a) s) → Through capture keep opening upto (outcome capture a (tell (ends n ended) s))
        told_on through = record { rest = through.rest; told_is = through.told_is }
    stands_told (st_enter {from = from} {at = at} {def = def} {params = params} {vs = vs} {f = f} next) s own frames early through =
        by_left (nat_le (suc (length vs)) s.left) through (stands_told (next (suc s.entered)) (entering at def params vs s))
      where
        by_left : (enough : Bool) → Through capture keep opening upto (if enough then outcome capture (f (suc s.entered)) (entering at def params vs s) else spent s)
            → (AllOwn (entering at def params vs s).told → map open_of (frames_after (entering at def params vs s).told) ≡ an_activation ∷ from → suc (length s.told) < length upto
            → Through capture keep opening upto (outcome capture (f (suc s.entered)) (entering at def params vs s)) → AllOwn upto)
            → AllOwn upto
        by_left false through on = absurd (not_yet capture keep opening upto s refl early through)
        by_left true through on = arrived (f (suc s.entered)) (entering at def params vs s) (tt, own) (omega (arith, early)) through
            (λ early. on (tt, own) (ap (λ (open_ones : List Open). an_activation ∷ open_ones) frames) early through)
    stands_told (st_leave {from = from} {v = v} {a = a} rest) s own frames early through =
        arrived a (tell (leaves v) s) (tt, own) (omega (arith, early)) (told_on through)
        (λ early. stands_told rest (tell (leaves v) s) (tt, own) (left_frames (frames_after s.told) from frames) early (told_on through))
      where
        told_on : Through capture keep opening upto (outcome capture (leave v a) s) → Through capture keep opening upto (outcome capture a (tell (leaves v) s))
        told_on through = record { rest = through.rest; told_is = through.told_is }

module _ (script : ScriptTree) (capture : Capture) (path : List ℕ) (arguments : List (List ℕ)) (steps : ℕ) (keep : StmtSet) (upto : List Moment) where
  abbrev pub Owns : ℕ → Pos → Type 0
  Owns n place = IsIn (owned_suite script.body) (n, place)

  -- the statement of each evaluation is the one that has its place
  pub all_own : Through capture keep (opening_in capture path arguments) upto (outcome capture (meaning script steps) (starting capture path arguments steps)) → AllOwn Owns upto
  all_own through =
      arrived Owns capture keep (opening_in capture path arguments) upto (meaning script steps) (starting capture path arguments steps) tt (omega arith) through
      (λ early. stands_told Owns capture keep (opening_in capture path arguments) upto
      (suite_placed Owns script found (level script (suc steps)) (bodies_placed Owns script found (suc steps)) (levels_placed Owns script found (suc steps)) at_start script.body every [])
      (starting capture path arguments steps) tt refl early through)
    where
      every : AllOwned Owns (owned_suite script.body)
      every = record { each = λ n place there. there }

      found : (place : Pos) → FoundPlaced Owns (function_at script place)
      found = found_placed Owns script every

  -- operations that ask are evaluations
  asks_evaluate : (number : ℕ) → may_ask number ≡ true → evaluates number ≡ true
  asks_evaluate number is = by_tests (number == 55) refl (number == 62) refl (number == 109) refl (number == 110) refl (number == 111) refl is
    where
      number_is : (m : ℕ) → (number == m) ≡ true → evaluates m ≡ true → evaluates number ≡ true
      number_is m same known = ap evaluates (eqb-true number m same) ∙ known

      by_tests : (a : Bool) → (number == 55) ≡ a → (b : Bool) → (number == 62) ≡ b → (c : Bool) → (number == 109) ≡ c → (d : Bool) → (number == 110) ≡ d → (e : Bool) → (number == 111) ≡ e
          → (a || (b || (c || (d || e)))) ≡ true → evaluates number ≡ true
      by_tests true same b one c two d three e four is = number_is 55 same refl
      by_tests false none true same c two d three e four is = number_is 62 same refl
      by_tests false none false one true same d three e four is = number_is 109 same refl
      by_tests false none false one false two true same e four is = number_is 110 same refl
      by_tests false none false one false two false three true same is = number_is 111 same refl
      by_tests false none false one false two false three false four is = absurd (false≢true is)

  own_at : (news before : List Moment) (at : Pos) (number : ℕ) (values : List Contents) (answer : Answer) (made : Option SeenKind) (accesses : List SeenAccess) (size : ℕ)
      → AllOwn Owns (news ++ does at number values answer made accesses size ∷ before) → evaluates number ≡ true → (n : ℕ) × (_ : owner_stmt before ≡ Some n) × Owns n at
  own_at [] before at number values answer made accesses size all is = all.0 is
  own_at (first ∷ news) before at number values answer made accesses size all is = own_at news before at number values answer made accesses size all.1 is

  -- all statements of a place are kept
  abbrev pub OnlyKept : Pos → Type 0
  OnlyKept place = (n : ℕ) → Owns n place → keep n ≡ true

  number_same : (a b : ℕ) → Some a ≡ Some b → a ≡ b
  number_same a b is = cc

  pub asking_kept : are_distinct (suite_places script.body) ≡ true → AllOwn Owns upto
      → (news before : List Moment) (at : Pos) (number : ℕ) (values : List Contents) (answer : Answer) (made : Option SeenKind) (accesses : List SeenAccess) (size n : ℕ)
      → upto ≡ news ++ does at number values answer made accesses size ∷ before → owner_stmt before ≡ Some n → may_ask number ≡ true → keep n ≡ true → OnlyKept at
  asking_kept apart all news before at number values answer made accesses size n is owner may kept m owns =
      let here : (n : ℕ) × (_ : owner_stmt before ≡ Some n) × Owns n at = own_at news before at number values answer made accesses size (subst (AllOwn Owns) is all) (asks_evaluate number may) in
      ap keep (owner_once script.body m here.0 at apart owns here.2 ∙ number_same here.0 n (sym here.1 ∙ owner)) ∙ kept

  pub asking_apart : AllOwn Owns upto
      → (news before : List Moment) (at : Pos) (number : ℕ) (values : List Contents) (answer : Answer) (made : Option SeenKind) (accesses : List SeenAccess) (size n : ℕ)
      → upto ≡ news ++ does at number values answer made accesses size ∷ before → owner_stmt before ≡ Some n → may_ask number ≡ true → keep n ≡ false
      → (place : Pos) → OnlyKept place → places.eq at place ≡ false
  asking_apart all news before at number values answer made accesses size n is owner may out place only = by_test (places.eq at place) refl
    where
      here : (n : ℕ) × (_ : owner_stmt before ≡ Some n) × Owns n at
      here = own_at news before at number values answer made accesses size (subst (AllOwn Owns) is all) (asks_evaluate number may)

      by_test : (test : Bool) → places.eq at place ≡ test → places.eq at place ≡ false
      by_test false none = none
      by_test true same =
          absurd (false≢true (sym out ∙ (ap keep (number_same n here.0 (sym owner ∙ here.1)) ∙ only here.0 (subst (λ p. IsIn (owned_suite script.body) (here.0, p)) (place_same at place same) here.2))))
