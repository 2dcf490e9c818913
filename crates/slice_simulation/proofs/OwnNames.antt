-- In a run each operation and each Enter is of names of its own: the module's, or those of the innermost open activation; and what sets such a name binds it.
use Rattle.std.proofs.Common.{◌≡◌, ℕ, suc, Bool, true, false, if◌then◌else◌, List, [], ◌∷◌, ◌++◌, map, length, nat_le, Option, Some, None, inl, inr, refl, sym, ap, ap₂, subst, ◌∙◌, arith}
use Rattle.std.specs.Prelude.{⊤, ◌↔◌, IsTrue, Contains}
use Rattle.std.specs.Option.{option_map}
use Rattle.std.specs.List.{list_any}
use Rattle.std.specs.Str.{bytes_eq}
use Rattle.prov_base.specs.declared.place.Pos.{Pos}
use Rattle.prov_base.specs.declared.place.Span.{Span}
use Rattle.prov_base.specs.contracts.place.PosPartialEq.TheImpl.{ghosts as places}
use Rattle.py_tree.specs.Binds.{binds}
use Rattle.py_tree.specs.Functions.{Function, functions_in, functions_of, functions_at, first_placed, function_at}
use Rattle.py_tree.specs.Owners.{Around, Standing, at_module_level, within, number_at, statements, standing_at, listed_stmt, listed_form, listed_suite}
use Rattle.py_tree.specs.Placed.{place_of, standing_on, number_on}
use Rattle.py_tree.specs.Tree.{StmtTree, FormTree, SuiteTree, ScriptTree, one_stmt, do_form, assign_form, aug_form, del_form, pass_form, break_form, continue_form, return_form, raise_form, assert_form, import_form, if_form, while_form, for_form, try_form, with_form, def_form, class_form, end_suite, more_suite}
use Rattle.py_value.specs.Contents.{Contents}
use Rattle.py_value.specs.Seen.{SeenAccess, var_at}
use Rattle.py_model.specs.Act.{Act, Walked}
use Rattle.py_model.specs.Agreement.{Alike}
use Rattle.py_model.specs.AlikeOperations.{renamed_op}
use Rattle.py_model.specs.Capture.{Capture, answers_at}
use Rattle.py_model.specs.Effect.{Touch, accessed, looked, counted, printed, opened, noted, asked, fetched, Outcome, answered, unanswered, unpaid, Effect, accesses_in, weight, cost}
use Rattle.py_model.specs.Going.{Open, a_statement, an_activation}
use Rattle.py_model.specs.History.{entered_by}
use Rattle.py_model.specs.Meaning.{level, meaning, at_start, starting}
use Rattle.py_model.specs.Moment.{Moment, begins, does, enters, leaves, ends, parameters_set}
use Rattle.py_model.specs.Occurrences.{frames_after, open_of}
use Rattle.py_model.specs.Operations.{Op, plan}
use Rattle.py_model.specs.Plan.{Answer}
use Rattle.py_model.specs.Renaming.{Renaming, renamed_list}
use Rattle.py_model.specs.Running.{State, spent, lacking, state_in, Happened, did, too_dear, lacked, note, walked, performed, happened, effect_of, operation, outcome, beginning, entering, tell, askings_at}
use Rattle.slice_law.specs.Closed.{IsIn}
use Rattle.slice_simulation.proofs.BoundActs.{Level, of_stmt, calls_of, opens_of, HasFunction, Fits, OwnOp, Bounds, bd_ret, bd_stop, bd_perform, bd_begin, bd_close, bd_enter, bd_leave}
use Rattle.slice_simulation.proofs.BoundRules.{bytes_own, or_front, or_behind, AllKnown, known_left, known_right, known_first, known_rest, FoundBound, suite_bound, bodies_bound, levels_bound}
use Rattle.slice_simulation.proofs.Onwards.{CameBy, came_by}
use Rattle.slice_simulation.proofs.OwnMoments.{place_same}
use Rattle.slice_simulation.proofs.ScopedPlans.{AllNamed, OfModule, OfName, module_named, scoped_named}
use Rattle.slice_simulation.proofs.Simulating.{owner_in, closed_frames, left_frames}
use Rattle.slice_simulation.specs.BoundNames.{Call, without_first, calls_after, innermost_activation, innermost_def, location_of, is_write, HasParameter, OwnNames}

-- ## The functions of a script

module _ (script : ScriptTree) where
  pub record SuiteKnown (f : Function) : Type 0 where
    pub around : Around
    pub all : AllKnown script (listed_suite around f.body)
    pub number_is : around.function ≡ number_on script f.place

  abbrev AllSuites : List Function → Type 0
  AllSuites [] = ⊤
  AllSuites (f ∷ fs) = SuiteKnown f × AllSuites fs

  suites_joined : (fs gs : List Function) → AllSuites fs → AllSuites gs → AllSuites (fs ++ gs)
  suites_joined [] gs one another = another
  suites_joined (f ∷ fs) gs one another = (one.0, suites_joined fs gs one.1 another)

  mutual
    suite_functions : (around : Around) (body : SuiteTree) → AllKnown script (listed_suite around body) → AllSuites (functions_in body)
    suite_functions around end_suite all = tt
    suite_functions around (more_suite s rest) all =
        suites_joined (functions_of s) (functions_in rest) (stmt_functions around s (known_left script (listed_suite around rest) all)) (suite_functions around rest (known_right script (listed_stmt around s) all))

    stmt_functions : (around : Around) (s : StmtTree) → AllKnown script (listed_stmt around s) → AllSuites (functions_of s)
    stmt_functions around (one_stmt number at span form) all = form_functions around number at span form (known_first script all).placed (known_rest script all)

    form_functions : (around : Around) (n : ℕ) (at : Pos) (span : Span) (form : FormTree) → number_on script at ≡ Some n → AllKnown script (listed_form (within (one_stmt n at span form) around) form)
        → AllSuites (functions_at at form)
    form_functions around n at span (def_form name params globals body) placed all =
        (record { around = within (one_stmt n at span (def_form name params globals body)) around; all = all; number_is = sym placed }, tt)
    form_functions around n at span (class_form name base body) placed all = suite_functions (within (one_stmt n at span (class_form name base body)) around) body all
    form_functions around n at span (do_form e) placed all = tt
    form_functions around n at span (assign_form target e) placed all = tt
    form_functions around n at span (aug_form target sign place e) placed all = tt
    form_functions around n at span (del_form target) placed all = tt
    form_functions around n at span pass_form placed all = tt
    form_functions around n at span break_form placed all = tt
    form_functions around n at span continue_form placed all = tt
    form_functions around n at span (return_form e) placed all = tt
    form_functions around n at span (raise_form e) placed all = tt
    form_functions around n at span (assert_form test message) placed all = tt
    form_functions around n at span (import_form name) placed all = tt
    form_functions around n at span (if_form branches _) placed all = tt
    form_functions around n at span (while_form test body) placed all = tt
    form_functions around n at span (for_form target items body) placed all = tt
    form_functions around n at span (try_form body handlers) placed all = tt
    form_functions around n at span (with_form e bound body) placed all = tt

  -- what is found at a place stands there
  pub placed_there : (place : Pos) (fs : List Function) (f : Function) → first_placed place fs ≡ Some f → f.place ≡ place
  placed_there place [] f is = absurd cc
  placed_there place (g ∷ fs) f is = by_test (places.eq g.place place) refl is (placed_there place fs f)
    where
      by_test : (test : Bool) → places.eq g.place place ≡ test → (if test then Some g else first_placed place fs) ≡ Some f → (first_placed place fs ≡ Some f → f.place ≡ place) → f.place ≡ place
      by_test true same is later = let own : g ≡ f = cc in ap (λ (h : Function). h.place) (sym own) ∙ place_same g.place place same
      by_test false none is later = later is

  first_known : (place : Pos) (fs : List Function) → AllSuites fs → (f : Function) → first_placed place fs ≡ Some f → SuiteKnown f
  first_known place [] all f is = absurd cc
  first_known place (g ∷ fs) all f is = by_test (places.eq g.place place) is (first_known place fs all.1 f)
    where
      by_test : (test : Bool) → (if test then Some g else first_placed place fs) ≡ Some f → (first_placed place fs ≡ Some f → SuiteKnown f) → SuiteKnown f
      by_test true is later = let own : g ≡ f = cc in subst SuiteKnown own all.0
      by_test false is later = later is

  found_bound : AllKnown script (statements script) → (place : Pos) → FoundBound script (function_at script place)
  found_bound all place = by_found (function_at script place) refl
    where
      by_found : (found : Option Function) → function_at script place ≡ found → FoundBound script found
      by_found None is = tt
      by_found (Some f) is =
          let known : SuiteKnown f = first_known place (functions_in script.body) (suite_functions at_module_level script.body all) f is in
          record {
            around = known.around;
            all = known.all;
            number_is = known.number_is;
            found = ap (function_at script) (placed_there place (functions_in script.body) f is) ∙ is;
          }

  to_contains : {A : Type 0} (xs : List A) (x : A) → IsIn xs x → Contains xs x
  to_contains [] x there = absurd there
  to_contains (y ∷ ys) x (inl is) = (0, omega arith, is)
  to_contains (y ∷ ys) x (inr there) = let later : Contains ys x = to_contains ys x there in (suc later.0, omega (arith, later.1), later.2)

  -- each statement of a well formed script is found by its number and by its place
  pub every_known : ((s : ℕ) (x : Standing) → (standing_at script s ≡ Some x) ↔ (Contains (statements script) x × (number_at x ≡ s)))
      → ((at : Pos) (x : Standing) → (standing_on script at ≡ Some x) ↔ (Contains (statements script) x × (place_of x ≡ at))) → AllKnown script (statements script)
  every_known numbers standings = record {
    each = λ x there. record {
      numbered = (numbers (number_at x) x).1 (to_contains (statements script) x there, refl);
      placed = ap (option_map number_at) ((standings (place_of x) x).1 (to_contains (statements script) x there, refl));
    };
  }

-- ## Its runs

-- an access to a name
named_at : (Q : ℕ → List ℕ → Bool → Type 0) (accesses : List SeenAccess) → AllNamed Q accesses → (access : SeenAccess) → IsIn accesses access → (scope : ℕ) (name : List ℕ) → location_of access ≡ var_at scope name
    → Q scope name (is_write access)
named_at Q [] all access there scope name is = absurd there
named_at Q (first ∷ accesses) all access (inl same) scope name is = subst (λ (one : SeenAccess). Q scope name (is_write one)) same (all.0 scope name (ap location_of same ∙ is))
named_at Q (first ∷ accesses) all access (inr there) scope name is = named_at Q accesses all.1 access there scope name is

all_weaker : (Q R : ℕ → List ℕ → Bool → Type 0) → ((scope : ℕ) (name : List ℕ) (written : Bool) → Q scope name written → R scope name written) → (accesses : List SeenAccess) → AllNamed Q accesses → AllNamed R accesses
all_weaker Q R weaker [] all = tt
all_weaker Q R weaker (access ∷ accesses) all = ((λ scope name is. weaker scope name (is_write access) (all.0 scope name is)), all_weaker Q R weaker accesses all.1)

-- a parameter of an activation
abbrev OfParameters : ℕ → List (List ℕ) → ℕ → List ℕ → Bool → Type 0
OfParameters a params scope name written = (scope ≡ a) × (list_any (bytes_eq name) params ≡ true)

parameters_named : (a : ℕ) (params : List (List ℕ)) (vs : List Contents) → AllNamed (OfParameters a params) (parameters_set a params vs)
parameters_named a [] vs = tt
parameters_named a (own ∷ params) [] = tt
parameters_named a (own ∷ params) (v ∷ vs) = (
  its_own,
  all_weaker (OfParameters a params) (OfParameters a (own ∷ params)) (λ scope name written is. (is.0, or_behind (bytes_eq name own) (list_any (bytes_eq name) params) is.1)) (parameters_set a params vs)
      (parameters_named a params vs),
)
  where
    its_own : (scope : ℕ) (name : List ℕ) → var_at a own ≡ var_at scope name → OfParameters a (own ∷ params) scope name true
    its_own scope name is =
        let scope_is : scope ≡ a = cc in
        let name_is : own ≡ name = cc in
        (scope_is, or_front (bytes_eq name own) (list_any (bytes_eq name) params) (subst (λ (other : List ℕ). bytes_eq name other ≡ true) (sym name_is) (bytes_own name)))

-- what is asked and fetched enters nothing
note_entered : (at : Pos) (k : ℕ) (touches : List Touch) (s : State) → (note at k touches s).entered ≡ s.entered
note_entered at k [] s = refl
note_entered at k (asked what ∷ touches) s = note_entered at k touches (record s { askings = record { at = at; k = k; what = what } ∷ s.askings })
note_entered at k (fetched path ∷ touches) s = note_entered at k touches (record s { fetches = path ∷ s.fetches })
note_entered at k (accessed access ∷ touches) s = note_entered at k touches s
note_entered at k (looked n ∷ touches) s = note_entered at k touches s
note_entered at k (counted n ∷ touches) s = note_entered at k touches s
note_entered at k (printed bytes ∷ touches) s = note_entered at k touches s
note_entered at k (opened path ∷ touches) s = note_entered at k touches s
note_entered at k (noted place name ∷ touches) s = note_entered at k touches s

abbrev SameEntered : ℕ → Happened → Type 0
SameEntered entered (did answer came u) = u.entered ≡ entered
SameEntered entered (too_dear u) = ⊤
SameEntered entered (lacked u) = ⊤

happened_entered : (at : Pos) (p : Op) (vs : List Contents) (e : Effect) (o : Outcome) (u : State) (entered : ℕ) → u.entered ≡ entered → SameEntered entered (happened at p vs e o u)
happened_entered at p vs e (answered answer) u entered is = by_cost (nat_le (cost e) u.left)
  where
    by_cost : (enough : Bool) → SameEntered entered (if enough then did answer (walked u.store (accesses_in e.touches)) (performed at p vs answer e u) else too_dear u)
    by_cost true = is
    by_cost false = tt
happened_entered at p vs e unanswered u entered is = tt
happened_entered at p vs e unpaid u entered is = tt

operation_entered : (capture : Capture) (at : Pos) (p : Op) (vs : List Contents) (s : State) → SameEntered s.entered (operation capture at p vs s)
operation_entered capture at p vs s = by_left (nat_le 1 s.left)
  where
    by_left : (enough : Bool) → SameEntered s.entered (if enough
        then (let e = effect_of capture at p vs s in happened at p vs e e.outcome (note at (suc (askings_at at s.askings)) e.touches s))
        else too_dear s)
    by_left true =
        happened_entered at p vs (effect_of capture at p vs s) (effect_of capture at p vs s).outcome (note at (suc (askings_at at s.askings)) (effect_of capture at p vs s).touches s) s.entered
        (note_entered at (suc (askings_at at s.askings)) (effect_of capture at p vs s).touches s)
    by_left false = tt

module _ (script : ScriptTree) where
  -- of each operation and each Enter the statement is known, and its names are its own
  abbrev pub OwnNow : Moment → List Moment → Type 0
  OwnNow (does at number values answer made accesses weight) before = OwnNames script (does at number values answer made accesses weight) before
  OwnNow (enters at def values accesses) before = OwnNames script (enters at def values accesses) before
  OwnNow (begins number) before = ⊤
  OwnNow (leaves v) before = ⊤
  OwnNow (ends number ended) before = ⊤

  abbrev pub AllOwnNames : List Moment → Type 0
  AllOwnNames [] = ⊤
  AllOwnNames (moment ∷ before) = OwnNow moment before × AllOwnNames before

  -- the moments so far say what is open
  pub record IsAt (from : List Level) (s : State) : Type 0 where
    pub own : AllOwnNames s.told
    pub frames : map open_of (frames_after s.told) ≡ opens_of from
    pub calls : calls_after s.told ≡ calls_of from
    pub entered : entered_by s.told ≡ s.entered

  module _ (alike : (r : Renaming) (p : Op) (vs : List Contents) → Alike r (plan p vs) (plan (renamed_op r p) (renamed_list r vs))) (capture : Capture) where
    does_own : (n : ℕ) (from : List Level) (at : Pos) (p : Op) (vs : List Contents) (s : State) (answer : Answer) → Fits script n (calls_of from) → OwnOp script n (calls_of from) p vs → IsAt (of_stmt n ∷ from) s
        → OwnNames script (does at p.no vs answer (effect_of capture at p vs s).made (accesses_in (effect_of capture at p vs s).touches) (weight (effect_of capture at p vs s))) s.told
    does_own n from at p vs s answer fits own is = record {
      owner = n;
      owner_is = owner_in s.told n (opens_of from) is.frames;
      function_is = fits ∙ ap (innermost_def script) (sym is.calls);
      each = by_own own;
    }
      where
        by_own : OwnOp script n (calls_of from) p vs → (access : SeenAccess) → IsIn (accesses_in (effect_of capture at p vs s).touches) access → (a : ℕ) (name : List ℕ) → location_of access ≡ var_at (suc a) name
            → (innermost_activation (calls_after s.told) ≡ Some (suc a)) × (is_write access ≡ true → IsTrue (binds script n name))
        by_own (inl plain) access there a name place =
            absurd (omega (
              arith,
              named_at OfModule (accesses_in (effect_of capture at p vs s).touches)
                  (module_named alike s.store (answers_at capture at (suc (askings_at at s.askings))) p vs plain) access there (suc a) name place,
            ))
        by_own (inr scoped) access there a name place =
            let found : OfName p.scope p.name (IsTrue (binds script n p.name)) (suc a) name (is_write access) = named_at (OfName p.scope p.name (IsTrue (binds script n p.name))) (accesses_in (effect_of capture at p vs s).touches)
            (scoped_named s.store (answers_at capture at (suc (askings_at at s.askings))) (IsTrue (binds script n p.name)) p vs scoped.1) access there (suc a) name place in
            (ap innermost_activation is.calls ∙ (scoped.0 ∙ ap Some (sym found.0)), (λ written. subst (λ (own_name : List ℕ). IsTrue (binds script n own_name)) (sym found.1) (found.2 written)))

    enters_own : (n : ℕ) (from : List Level) (at def : Pos) (params : List (List ℕ)) (vs : List Contents) (s : State) → Fits script n (calls_of from) → HasFunction script def params → IsAt (of_stmt n ∷ from) s
        → OwnNames script (enters at def vs (parameters_set (suc s.entered) params vs)) s.told
    enters_own n from at def params vs s fits has is = record {
      owner = n;
      owner_is = owner_in s.told n (opens_of from) is.frames;
      function_is = fits ∙ ap (innermost_def script) (sym is.calls);
      each = each_own;
    }
      where
        each_own : (access : SeenAccess) → IsIn (parameters_set (suc s.entered) params vs) access → (a : ℕ) (name : List ℕ) → location_of access ≡ var_at (suc a) name
            → (Some (suc (entered_by s.told)) ≡ Some (suc a)) × (is_write access ≡ true → HasParameter script def name)
        each_own access there a name place =
            let found : OfParameters (suc s.entered) params (suc a) name (is_write access) = named_at (OfParameters (suc s.entered) params) (parameters_set (suc s.entered) params vs)
            (parameters_named (suc s.entered) params vs) access there (suc a) name place in (
              ap (λ count. Some (suc count)) is.entered ∙ ap Some (sym found.0),
              (λ written. record { function = has.function; found = has.found; is_one = ap (list_any (bytes_eq name)) has.params_are ∙ found.1 }),
            )

    bounds_told : {from onto : List Level} {a : Act} → Bounds script from onto a → (s : State) → IsAt from s → AllOwnNames (state_in (outcome capture a s)).told
    bounds_told bd_ret s is = is.own
    bounds_told bd_stop s is = is.own
    bounds_told (bd_perform {n = n} {from = from} {at = at} {p = p} {vs = vs} {f = f} fits own next) s is =
        by_happened (operation capture at p vs s) (came_by capture at p vs s) (operation_entered capture at p vs s) (λ answer came u. bounds_told (next answer came) u)
      where
        by_happened : (h : Happened) → CameBy at p vs (effect_of capture at p vs s) s h → SameEntered s.entered h
            → ((answer : Answer) (came : Walked) (u : State) → IsAt (of_stmt n ∷ from) u → AllOwnNames (state_in (outcome capture (f answer came) u)).told)
            → AllOwnNames (state_in (elim h [ did answer came u ↦ outcome capture (f answer came) u | too_dear u ↦ spent u | lacked u ↦ lacking u ])).told
        by_happened (too_dear u) came same on = subst AllOwnNames (sym came.0) is.own
        by_happened (lacked u) came same on = subst AllOwnNames (sym came.0) is.own
        by_happened (did answer came u) told same on = on answer came u (record {
          own = subst AllOwnNames (sym told.told_is) (does_own n from at p vs s answer fits own is, is.own);
          frames = ap (λ (moments : List Moment). map open_of (frames_after moments)) told.told_is ∙ is.frames;
          calls = ap calls_after told.told_is ∙ is.calls;
          entered = ap entered_by told.told_is ∙ (is.entered ∙ sym same);
        })
    bounds_told (bd_begin {n = n} {from = from} {a = a} rest) s is = by_left (nat_le 1 s.left)
        (bounds_told rest (beginning n s) (record { own = (tt, is.own); frames = ap (λ (open_ones : List Open). a_statement n ∷ open_ones) is.frames; calls = is.calls; entered = is.entered }))
      where
        by_left : (enough : Bool) → AllOwnNames (state_in (outcome capture a (beginning n s))).told → AllOwnNames (state_in (if enough then outcome capture a (beginning n s) else spent s)).told
        by_left true on = on
        by_left false on = is.own
    bounds_told (bd_close {n = n} {from = from} {ended = ended} rest) s is =
        bounds_told rest (tell (ends n ended) s) (record { own = (tt, is.own); frames = closed_frames (frames_after s.told) n (opens_of from) is.frames; calls = is.calls; entered = is.entered })
    bounds_told (bd_enter {n = n} {from = from} {at = at} {def = def} {params = params} {vs = vs} {f = f} fits has next) s is = by_left (nat_le (suc (length vs)) s.left)
        (bounds_told (next (suc s.entered)) (entering at def params vs s) (record {
          own = (enters_own n from at def params vs s fits has is, is.own);
          frames = ap (λ (open_ones : List Open). an_activation ∷ open_ones) is.frames;
          calls = calls_now (entered_by s.told) is.entered (calls_after s.told) is.calls;
          entered = ap suc is.entered;
        }))
      where
        calls_now : (count : ℕ) → count ≡ s.entered → (calls : List Call) → calls ≡ calls_of from
            → record { activation = suc count; def = def } ∷ calls ≡ record { activation = suc s.entered; def = def } ∷ calls_of from
        calls_now count as_many calls same = ap₂ (λ (m : ℕ) (rest : List Call). record { activation = suc m; def = def } ∷ rest) as_many same

        by_left : (enough : Bool) → AllOwnNames (state_in (outcome capture (f (suc s.entered)) (entering at def params vs s))).told
            → AllOwnNames (state_in (if enough then outcome capture (f (suc s.entered)) (entering at def params vs s) else spent s)).told
        by_left true on = on
        by_left false on = is.own
    bounds_told (bd_leave {activation = activation} {def = def} {from = from} {v = v} rest) s is =
        bounds_told rest (tell (leaves v) s) (record { own = (tt, is.own); frames = left_frames (frames_after s.told) (opens_of from) is.frames; calls = ap without_first is.calls; entered = is.entered })

    -- the names of each moment of a run are its own
    pub run_owns : AllKnown script (statements script) → (path : List ℕ) (arguments : List (List ℕ)) (steps : ℕ)
        → AllOwnNames (state_in (outcome capture (meaning script steps) (starting capture path arguments steps))).told
    run_owns all path arguments steps = bounds_told
        (suite_bound script (found_bound script all) (level script (suc steps)) (bodies_bound script (found_bound script all) (suc steps)) (levels_bound script (found_bound script all) (suc steps))
        at_start script.body at_module_level [] all refl (λ name. inl refl))
        (starting capture path arguments steps) (record { own = tt; frames = refl; calls = refl; entered = refl })
