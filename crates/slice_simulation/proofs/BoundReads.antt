-- What set a local name that is read: a statement of the same function that binds the name, or the Enter, where the name is a parameter.
use Rattle.std.proofs.Common.{◌≡◌, ◌≤◌, ◌<◌, ℕ, suc, Bool, true, false, ◌==◌, ◌||◌, if◌then◌else◌, List, [], ◌∷◌, ◌++◌, length, Option, Some, None, inl, inr, refl, sym, ap, subst, ◌∙◌, arith, eqb-true, eq-eqb}
use Rattle.std.specs.Prelude.{◌↔◌, IsTrue}
use Rattle.std.specs.List.{list_any}
use Rattle.std.specs.Str.{bytes_eq}
use Rattle.std.proofs.lemmas.Bool.{false≢true, ne_eqb}
use Rattle.prov_base.specs.declared.place.Pos.{Pos}
use Rattle.py_tree.specs.Binds.{binds}
use Rattle.py_tree.specs.Functions.{Function, functions_in, function_at}
use Rattle.py_tree.specs.Placed.{number_on}
use Rattle.py_tree.specs.Tree.{ScriptTree}
use Rattle.py_value.specs.Contents.{Contents}
use Rattle.py_value.specs.Same.{same_location}
use Rattle.py_value.specs.Seen.{SeenLocation, SeenAccess, SeenKind, var_at, reads, sets, updates}
use Rattle.py_model.specs.History.{accesses_by, entered_by}
use Rattle.py_model.specs.Moment.{Moment, begins, does, enters, leaves, ends}
use Rattle.py_model.specs.Occurrences.{reach, sets_at, updates_at, owner_stmt}
use Rattle.py_model.specs.Plan.{Answer}
use Rattle.slice_law.specs.Closed.{IsIn}
use Rattle.slice_law.specs.Edges.{stmt_at, function_of_stmt}
use Rattle.slice_simulation.proofs.OwnNames.{placed_there, OwnNow, AllOwnNames}
use Rattle.slice_simulation.specs.BoundNames.{Call, without_first, calls_after, innermost_activation, innermost_def, location_of, is_write, HasParameter, OwnNames, IsBoundAt, by_statement, by_parameter}

-- ## Activations by number

-- the place of the function of an activation
abbrev pub def_of : ℕ → List Moment → Option Pos
def_of a [] = None
def_of a (enters at def values accesses ∷ before) = if suc (entered_by before) == a then Some def else def_of a before
def_of a (does at number values answer made accesses weight ∷ before) = def_of a before
def_of a (begins number ∷ before) = def_of a before
def_of a (leaves v ∷ before) = def_of a before
def_of a (ends number ended ∷ before) = def_of a before

pub def_within : (a : ℕ) (told : List Moment) (def : Pos) → def_of a told ≡ Some def → a ≤ entered_by told
def_within a [] def is = absurd cc
def_within a (enters at own values accesses ∷ before) def is = by_test (suc (entered_by before) == a) refl is (def_within a before def)
  where
    by_test : (test : Bool) → (suc (entered_by before) == a) ≡ test → (if test then Some own else def_of a before) ≡ Some def → (def_of a before ≡ Some def → a ≤ entered_by before) → a ≤ suc (entered_by before)
    by_test true same is later = omega (arith, eqb-true (suc (entered_by before)) a same)
    by_test false none is later = omega (arith, later is)
def_within a (does at number values answer made accesses weight ∷ before) def is = def_within a before def is
def_within a (begins number ∷ before) def is = def_within a before def is
def_within a (leaves v ∷ before) def is = def_within a before def is
def_within a (ends number ended ∷ before) def is = def_within a before def is

entered_apart : (before : List Moment) (a : ℕ) → a ≤ entered_by before → (suc (entered_by before) == a) ≡ false
entered_apart before a most = ne_eqb (suc (entered_by before)) a (λ same. omega (arith, same, most))

pub def_stays : (moment : Moment) (before : List Moment) (a : ℕ) (def : Pos) → def_of a before ≡ Some def → def_of a (moment ∷ before) ≡ Some def
def_stays (enters at own values accesses) before a def is =
    ap (λ test. if test then Some own else def_of a before) (entered_apart before a (def_within a before def is)) ∙ is
def_stays (does at number values answer made accesses weight) before a def is = is
def_stays (begins number) before a def is = is
def_stays (leaves v) before a def is = is
def_stays (ends number ended) before a def is = is

pub def_stays_on : (news before : List Moment) (a : ℕ) (def : Pos) → def_of a before ≡ Some def → def_of a (news ++ before) ≡ Some def
def_stays_on [] before a def is = is
def_stays_on (moment ∷ news) before a def is = def_stays moment (news ++ before) a def (def_stays_on news before a def is)

-- the module is entered by none
pub none_enters_module : (told : List Moment) (def : Pos) → def_of 0 told ≡ Some def → ⊥
none_enters_module [] def is = absurd cc
none_enters_module (enters at own values accesses ∷ before) def is =
    none_enters_module before def (ap (λ test. if test then Some own else def_of 0 before) (sym (ne_eqb (suc (entered_by before)) 0 (λ same. omega (arith, same)))) ∙ is)
none_enters_module (does at number values answer made accesses weight ∷ before) def is = none_enters_module before def is
none_enters_module (begins number ∷ before) def is = none_enters_module before def is
none_enters_module (leaves v ∷ before) def is = none_enters_module before def is
none_enters_module (ends number ended ∷ before) def is = none_enters_module before def is

-- each open activation was entered, at the place of its function
pub calls_entered : (told : List Moment) (call : Call) → IsIn (calls_after told) call → def_of call.activation told ≡ Some call.def
calls_entered [] call there = absurd there
calls_entered (enters at own values accesses ∷ before) call (inl same) =
    subst (λ (one : Call). def_of one.activation (enters at own values accesses ∷ before) ≡ Some one.def) same
    (ap (λ test. if test then Some own else def_of (suc (entered_by before)) before) (eq-eqb (suc (entered_by before)) (suc (entered_by before)) refl))
calls_entered (enters at own values accesses ∷ before) call (inr there) = def_stays (enters at own values accesses) before call.activation call.def (calls_entered before call there)
calls_entered (does at number values answer made accesses weight ∷ before) call there = calls_entered before call there
calls_entered (begins number ∷ before) call there = calls_entered before call there
calls_entered (leaves v ∷ before) call there = calls_entered before call (behind_first (calls_after before) there)
  where
    behind_first : (calls : List Call) → IsIn (without_first calls) call → IsIn calls call
    behind_first [] there = there
    behind_first (first ∷ calls) there = inr there
calls_entered (ends number ended ∷ before) call there = calls_entered before call there

-- the innermost open activation is a's
pub record IsOf (script : ScriptTree) (a : ℕ) (told : List Moment) : Type 0 where
  pub def : Pos
  pub entered : def_of a told ≡ Some def
  pub number_is : innermost_def script (calls_after told) ≡ number_on script def

pub is_of : (script : ScriptTree) (a : ℕ) (told : List Moment) → innermost_activation (calls_after told) ≡ Some a → IsOf script a told
is_of script a told is = by_calls (calls_after told) refl is
  where
    by_calls : (calls : List Call) → calls_after told ≡ calls → innermost_activation calls ≡ Some a → IsOf script a told
    by_calls [] same is = absurd cc
    by_calls (call ∷ calls) same is =
        let number_same : call.activation ≡ a = cc in
        record {
          def = call.def;
          entered = subst (λ (number : ℕ). def_of number told ≡ Some call.def) number_same (calls_entered told call (subst (λ (open_ones : List Call). IsIn open_ones call) (sym same) (inl refl)));
          number_is = ap (innermost_def script) same;
        }

-- ## What set a name

-- an access that sets or updates a location
record IsWritten (l : SeenLocation) (accesses : List SeenAccess) : Type 0 where
  access : SeenAccess
  there : IsIn accesses access
  place_is : location_of access ≡ l
  writes_it : is_write access ≡ true

written_later : (l : SeenLocation) (first : SeenAccess) (accesses : List SeenAccess) → IsWritten l accesses → IsWritten l (first ∷ accesses)
written_later l first accesses found = record { access = found.access; there = inr found.there; place_is = found.place_is; writes_it = found.writes_it }

module _ (locations : (l m : SeenLocation) → (same_location l m ≡ true) ↔ (l ≡ m)) where
  sets_written : (l : SeenLocation) (accesses : List SeenAccess) → sets_at l accesses ≡ true → IsWritten l accesses
  sets_written l [] is = absurd (false≢true is)
  sets_written l (reads m ∷ accesses) is = written_later l (reads m) accesses (sets_written l accesses is)
  sets_written l (updates m how ∷ accesses) is = written_later l (updates m how) accesses (sets_written l accesses is)
  sets_written l (sets m content ∷ accesses) is = by_test (same_location m l) refl is (sets_written l accesses)
    where
      by_test : (test : Bool) → same_location m l ≡ test → (test || sets_at l accesses) ≡ true → (sets_at l accesses ≡ true → IsWritten l accesses) → IsWritten l (sets m content ∷ accesses)
      by_test true same is later = record { access = sets m content; there = inl refl; place_is = (locations m l).0 same; writes_it = refl }
      by_test false none is later = written_later l (sets m content) accesses (later is)

  updates_written : (l : SeenLocation) (accesses : List SeenAccess) → updates_at l accesses ≡ true → IsWritten l accesses
  updates_written l [] is = absurd (false≢true is)
  updates_written l (reads m ∷ accesses) is = written_later l (reads m) accesses (updates_written l accesses is)
  updates_written l (sets m content ∷ accesses) is = written_later l (sets m content) accesses (updates_written l accesses is)
  updates_written l (updates m how ∷ accesses) is = by_test (same_location m l) refl is (updates_written l accesses)
    where
      by_test : (test : Bool) → same_location m l ≡ test → (test || updates_at l accesses) ≡ true → (updates_at l accesses ≡ true → IsWritten l accesses) → IsWritten l (updates m how ∷ accesses)
      by_test true same is later = record { access = updates m how; there = inl refl; place_is = (locations m l).0 same; writes_it = refl }
      by_test false none is later = written_later l (updates m how) accesses (later is)

  module _ (script : ScriptTree) (a : ℕ) (name : List ℕ) where
    -- what set the name of activation a at a time
    pub data IsSetAt (time : ℕ) (told : List Moment) : Type 0 where
      set_by : (m : ℕ) (def : Pos) → stmt_at time told ≡ Some m → IsTrue (binds script m name) → def_of (suc a) told ≡ Some def → function_of_stmt script m ≡ number_on script def → IsSetAt time told
      set_in : (f : Function) → def_of (suc a) told ≡ Some f.place → function_at script f.place ≡ Some f → IsTrue (list_any (bytes_eq name) f.params) → IsSetAt time told

    stmt_here : (moment : Moment) (before : List Moment) (m : ℕ) → owner_stmt before ≡ Some m → stmt_at (length before) (moment ∷ before) ≡ Some m
    stmt_here moment before m is = ap (λ test. if test then owner_stmt before else stmt_at (length before) before) (eq-eqb (length before) (length before) refl) ∙ is

    set_here : (moment : Moment) (before : List Moment) → OwnNow script moment before → IsWritten (var_at (suc a) name) (accesses_by moment) → IsSetAt (length before) (moment ∷ before)
    set_here (does at number values answer made accesses weight) before own found =
        let named : (innermost_activation (calls_after before) ≡ Some (suc a)) × (is_write found.access ≡ true → IsTrue (binds script own.owner name)) = own.each found.access found.there a name found.place_is in
        let one : IsOf script (suc a) before = is_of script (suc a) before named.0 in
        set_by own.owner one.def (stmt_here (does at number values answer made accesses weight) before own.owner own.owner_is) (named.1 found.writes_it) one.entered (own.function_is ∙ one.number_is)
    set_here (enters at def values accesses) before own found =
        let named : (Some (suc (entered_by before)) ≡ Some (suc a)) × (is_write found.access ≡ true → HasParameter script def name) = own.each found.access found.there a name found.place_is in
        let has : HasParameter script def name = named.1 found.writes_it in
        let place_is : has.function.place ≡ def = placed_there script def (functions_in script.body) has.function has.found in
        let same : suc (entered_by before) ≡ suc a = cc in
        set_in has.function
        (ap (λ test. if test then Some def else def_of (suc a) before) (eq-eqb (suc (entered_by before)) (suc a) same) ∙ ap Some (sym place_is))
        (ap (function_at script) place_is ∙ has.found) has.is_one
    set_here (begins number) before own found = absurd found.there
    set_here (leaves v) before own found = absurd found.there
    set_here (ends number ended) before own found = absurd found.there

    set_before : (moment : Moment) (before : List Moment) (time : ℕ) → time < length before → IsSetAt time before → IsSetAt time (moment ∷ before)
    set_before moment before time early (set_by m def stmt_is bound entered function_is) =
        set_by m def (ap (λ test. if test then owner_stmt before else stmt_at time before) (ne_eqb (length before) time (λ same. omega (arith, same, early))) ∙ stmt_is) bound (def_stays moment before (suc a) def entered) function_is
    set_before moment before time early (set_in f entered found is_one) = set_in f (def_stays moment before (suc a) f.place entered) found is_one

    reach_early : (l : SeenLocation) (told : List Moment) (time : ℕ) → IsIn (reach l told) time → time < length told
    reach_early l [] time there = absurd there
    reach_early l (moment ∷ before) time there = by_tests (sets_at l (accesses_by moment)) (updates_at l (accesses_by moment)) there (reach_early l before time)
      where
        by_tests : (one another : Bool) → IsIn (if one then length before ∷ [] else if another then length before ∷ reach l before else reach l before) time
            → (IsIn (reach l before) time → time < length before) → time < suc (length before)
        by_tests true another (inl same) later = omega (arith, same)
        by_tests true another (inr there) later = absurd there
        by_tests false true (inl same) later = omega (arith, same)
        by_tests false true (inr there) later = omega (arith, later there)
        by_tests false false there later = omega (arith, later there)

    pub set_at : (told : List Moment) → AllOwnNames script told → (time : ℕ) → IsIn (reach (var_at (suc a) name) told) time → IsSetAt time told
    set_at [] own time there = absurd there
    set_at (moment ∷ before) own time there =
        by_tests (sets_at l (accesses_by moment)) (updates_at l (accesses_by moment)) refl refl there (λ earlier. set_before moment before time (reach_early l before time earlier) (set_at before own.1 time earlier))
      where
        l : SeenLocation
        l = var_at (suc a) name

        by_tests : (one another : Bool) → sets_at (var_at (suc a) name) (accesses_by moment) ≡ one → updates_at (var_at (suc a) name) (accesses_by moment) ≡ another
            → IsIn (if one then length before ∷ [] else if another then length before ∷ reach (var_at (suc a) name) before else reach (var_at (suc a) name) before) time
            → (IsIn (reach (var_at (suc a) name) before) time → IsSetAt time (moment ∷ before)) → IsSetAt time (moment ∷ before)
        by_tests true another sets_it updates_it (inl same) later = subst (λ (t : ℕ). IsSetAt t (moment ∷ before)) same (set_here moment before own.0 (sets_written (var_at (suc a) name) (accesses_by moment) sets_it))
        by_tests true another sets_it updates_it (inr there) later = absurd there
        by_tests false true sets_it updates_it (inl same) later = subst (λ (t : ℕ). IsSetAt t (moment ∷ before)) same (set_here moment before own.0 (updates_written (var_at (suc a) name) (accesses_by moment) updates_it))
        by_tests false true sets_it updates_it (inr there) later = later there
        by_tests false false sets_it updates_it there later = later there

    -- what set a local name that statement n reads
    pub bound_at : (before : List Moment) → AllOwnNames script before → (at : Pos) (number : ℕ) (values : List Contents) (answer : Answer) (made : Option SeenKind) (accesses : List SeenAccess) (weight : ℕ)
        → OwnNames script (does at number values answer made accesses weight) before → (n : ℕ) → owner_stmt before ≡ Some n → IsIn accesses (reads (var_at (suc a) name))
        → (time : ℕ) → IsIn (reach (var_at (suc a) name) before) time → IsBoundAt script n name time before
    bound_at before all at number values answer made accesses weight own n owner there time reached = by_set (set_at before all time reached)
      where
        one : IsOf script (suc a) before
        one = is_of script (suc a) before (own.each (reads (var_at (suc a) name)) there a name refl).0

        same_owner : (m n : ℕ) → Some m ≡ Some n → m ≡ n
        same_owner m n is = cc

        function_is : function_of_stmt script n ≡ number_on script one.def
        function_is = ap (function_of_stmt script) (same_owner n own.owner (sym owner ∙ own.owner_is)) ∙ (own.function_is ∙ one.number_is)

        same_def : (p q : Pos) → Some p ≡ Some q → p ≡ q
        same_def p q is = cc

        by_set : IsSetAt time before → IsBoundAt script n name time before
        by_set (set_by m def stmt_is bound entered its_function) =
            by_statement m stmt_is bound (its_function ∙ (ap (number_on script) (same_def def one.def (sym entered ∙ one.entered)) ∙ sym function_is))
        by_set (set_in f entered found is_one) =
            by_parameter f found (ap (number_on script) (same_def f.place one.def (sym entered ∙ one.entered)) ∙ sym function_is) is_one
