-- What a closed set has, moment by moment; and that each of its statements stands in one that it has.
use Rattle.py_model.specs.Plan.{Answer}
use Rattle.py_value.specs.Contents.{Contents}
use Rattle.prov_base.specs.declared.place.Pos.{Pos}
use Rattle.std.proofs.Common.{◌≡◌, ◌<◌, ℕ, suc, ◌==◌, Bool, true, false, if◌then◌else◌, List, [], ◌∷◌, ◌++◌, map, length, Option, Some, None, inl, inr, refl, sym, ap, subst, ◌∙◌, arith, eqb-true, eq-eqb}
use Rattle.std.specs.Prelude.{⊤}
use Rattle.py_tree.specs.Owners.{Around, Standing, statements, number_at, at_module_level, within, listed_stmt, listed_form, listed_suite, listed_branches, listed_else, listed_handlers}
use Rattle.py_tree.specs.Tree.{number_of, StmtTree, FormTree, SuiteTree, BranchesTree, ElseTree, HandlersTree, ScriptTree, one_stmt, if_form, while_form, for_form, try_form, with_form, def_form, class_form, end_suite, more_suite, end_branches, more_branches, no_else, else_suite, end_handlers, more_handlers}
use Rattle.py_value.specs.Seen.{SeenLocation, SeenAccess, var_at, reads, sets, updates, SeenKind}
use Rattle.py_model.specs.Going.{Open, a_statement, an_activation}
use Rattle.py_model.specs.History.{accesses_by}
use Rattle.py_model.specs.Moment.{Moment, begins, does, enters, leaves, ends, Ending, normal_end, break_end, continue_end, return_end, raise_end}
use Rattle.py_model.specs.Occurrences.{Occurrence, Frame, in_occurrence, in_activation, frames_after, without_top, innermost, open_of, reach, sets_at, updates_at, owner_stmt}
use Rattle.py_model.specs.Store.{RunStore}
use Rattle.slice_law.specs.Closed.{StmtSet, IsIn, store_after, IsClosed}
use Rattle.slice_law.specs.Edges.{Edge, edge, by_data, by_name, first_binder, function_of_stmt, by_control, by_jump, to_each, from_option, stmt_at, stmts_at, reach_stmts, reach_asks, read_asks, reads_ask, is_abrupt, caller, asks_for_jump, asks, run_asks, parents_asked, module_jumps, asked_by_value}
use Rattle.slice_simulation.proofs.Beside.{InnermostIs, TopIsKept, CallerIsOut}
use Rattle.std.proofs.lemmas.Bool.{false≢true}
use Rattle.slice_simulation.specs.Related.{ByAccess, OwnerIsKept, IsInReach, AllInReach}
use Rattle.slice_simulation.specs.Under.{UnderSuite, UnderStmt, UnderForm, UnderBranches, UnderElse, UnderHandlers}

in_front : {A : Type 0} (xs ys : List A) (x : A) → IsIn xs x → IsIn (xs ++ ys) x
in_front [] ys x there = absurd there
in_front (y ∷ xs) ys x (inl is) = inl is
in_front (y ∷ xs) ys x (inr there) = inr (in_front xs ys x there)

in_behind : {A : Type 0} (xs ys : List A) (x : A) → IsIn ys x → IsIn (xs ++ ys) x
in_behind [] ys x there = there
in_behind (y ∷ xs) ys x there = inr (in_behind xs ys x there)

-- times of a reach are times before
abbrev AllBelow : ℕ → List ℕ → Type 0
AllBelow n [] = ⊤
AllBelow n (time ∷ times) = (time < n) × AllBelow n times

one_more : (n : ℕ) (times : List ℕ) → AllBelow n times → AllBelow (suc n) times
one_more n [] below = tt
one_more n (time ∷ times) below = (omega (arith, below.0), one_more n times below.1)

reach_below : (l : SeenLocation) (told : List Moment) → AllBelow (length told) (reach l told)
reach_below l [] = tt
reach_below l (moment ∷ before) = by_tests (sets_at l (accesses_by moment)) (updates_at l (accesses_by moment)) (reach_below l before)
  where
    by_tests : (a b : Bool) → AllBelow (length before) (reach l before)
        → AllBelow (suc (length before)) (if a then length before ∷ [] else if b then length before ∷ reach l before else reach l before)
    by_tests true b below = (omega arith, tt)
    by_tests false true below = (omega arith, one_more (length before) (reach l before) below)
    by_tests false false below = one_more (length before) (reach l before) below

not_same : (m n : ℕ) → n < m → (m == n) ≡ false
not_same m n less = by_test (m == n) refl
  where
    by_test : (test : Bool) → (m == n) ≡ test → (m == n) ≡ false
    by_test true is = absurd (omega (arith, less, eqb-true m n is))
    by_test false is = is

later : (moment : Moment) (before : List Moment) (times : List ℕ) → AllBelow (length before) times → stmts_at times (moment ∷ before) ≡ stmts_at times before
later moment before [] below = refl
later moment before (time ∷ times) below =
    ap (λ test. from_option (if test then owner_stmt before else stmt_at time before) ++ stmts_at times (moment ∷ before)) (not_same (length before) time below.0)
    ∙ ap (λ (more : List ℕ). from_option (stmt_at time before) ++ more) (later moment before times below.1)

read_same : (l m : SeenLocation) → reads l ≡ reads m → l ≡ m
read_same l m is = cc

one_jump : (frames : List Frame) (s : ℕ) (jumps : List ℕ) (n : ℕ) → IsIn jumps n → IsIn (elim frames [ [] ↦ s ∷ jumps | frame ∷ rest ↦ jumps ]) n
one_jump [] s jumps n there = inr there
one_jump (frame ∷ frames) s jumps n there = there

first_jump : (frames : List Frame) (n : ℕ) (jumps : List ℕ) → frames ≡ [] → IsIn (elim frames [ [] ↦ n ∷ jumps | frame ∷ rest ↦ jumps ]) n
first_jump [] n jumps is = inl refl
first_jump (frame ∷ frames) n jumps is = absurd cc

module _ (keep : StmtSet) where
  -- where all statements of the reach are kept, it lies in the set
  pub reach_in : (l : SeenLocation) (told : List Moment) → ((s : ℕ) → IsIn (reach_stmts l told) s → keep s ≡ true) → IsInReach keep l told
  reach_in l [] all = tt
  reach_in l (moment ∷ before) all = by_tests (sets_at l (accesses_by moment)) (updates_at l (accesses_by moment)) all (reach_in l before)
    where
      own_in : (times : List ℕ) → ((s : ℕ) → IsIn (stmts_at (length before ∷ times) (moment ∷ before)) s → keep s ≡ true) → OwnerIsKept keep before
      own_in times all s is = all s (in_front (from_option (stmt_at (length before) (moment ∷ before))) (stmts_at times (moment ∷ before)) s
          (subst (λ own. IsIn (from_option own) s) (sym (ap (λ test. if test then owner_stmt before else stmt_at (length before) before) (eq-eqb (length before) (length before) refl) ∙ is)) (inl refl)))

      same_later : stmts_at (reach l before) (moment ∷ before) ≡ stmts_at (reach l before) before
      same_later = later moment before (reach l before) (reach_below l before)

      by_tests : (a b : Bool)
          → ((s : ℕ) → IsIn (stmts_at (if a then length before ∷ [] else if b then length before ∷ reach l before else reach l before) (moment ∷ before)) s → keep s ≡ true)
          → (((s : ℕ) → IsIn (reach_stmts l before) s → keep s ≡ true) → IsInReach keep l before)
          → ByAccess a b (OwnerIsKept keep before) (IsInReach keep l before)
      by_tests true b all earlier = own_in [] all
      by_tests false true all earlier = (
        own_in (reach l before) all,
        earlier (λ s there. all s (in_behind (from_option (stmt_at (length before) (moment ∷ before))) (stmts_at (reach l before) (moment ∷ before)) s (subst (λ xs. IsIn xs s) (sym same_later) there))),
      )
      by_tests false false all earlier = earlier (λ s there. all s (subst (λ xs. IsIn xs s) (sym same_later) there))

  module _ (script : ScriptTree) (opening : RunStore) (upto : List Moment) (closed : IsClosed script opening upto keep) where
    each_asked : (n : ℕ) (stmts : List ℕ) (s : ℕ) → IsIn stmts s → IsIn (to_each by_data n stmts) (edge by_data n s)
    each_asked n [] s there = absurd there
    each_asked n (x ∷ xs) s (inl is) = inl (ap (edge by_data n) is)
    each_asked n (x ∷ xs) s (inr there) = inr (each_asked n xs s there)

    reach_asked : (n : ℕ) (l : SeenLocation) (times : List ℕ) (before : List Moment) (s : ℕ) → IsIn (stmts_at times before) s → IsIn (reach_asks script n l times before) (edge by_data n s)
    reach_asked n l [] before s there = absurd there
    reach_asked n l (time ∷ times) before s there = each_asked n (stmts_at (time ∷ times) before) s there

    -- what one moment asks for is asked for in the run
    moment_asks : (news before : List Moment) (moment : Moment) (e : Edge) → IsIn (asks script moment before) e → IsIn (run_asks script (news ++ moment ∷ before)) e
    moment_asks [] before moment e there = in_front (asks script moment before) (run_asks script before) e there
    moment_asks (first ∷ news) before moment e there =
        in_behind (asks script first (news ++ moment ∷ before)) (run_asks script (news ++ moment ∷ before)) e (moment_asks news before moment e there)

    asked_kept : (news before : List Moment) (moment : Moment) (e : Edge) → upto ≡ news ++ moment ∷ before → IsIn (asks script moment before) e → keep e.asker ≡ true → keep e.asked ≡ true
    asked_kept news before moment e is there kept =
        closed.has_asked e (in_behind (parents_asked script (statements script)) (run_asks script upto) e (subst (λ told. IsIn (run_asks script told) e) (sym is) (moment_asks news before moment e there))) kept

    reads_in : (n : ℕ) (before : List Moment) (accesses : List SeenAccess) → ((e : Edge) → IsIn (reads_ask script n accesses before) e → keep e.asker ≡ true → keep e.asked ≡ true)
        → keep n ≡ true → AllInReach keep before accesses
    reads_in n before [] all kept = tt
    reads_in n before (reads l ∷ accesses) all kept = (
      reach_in l before (λ s there. all (edge by_data n s)
          (in_front (read_asks script n l before) (reads_ask script n accesses before) (edge by_data n s) (reach_asked n l (reach l before) before s there)) kept),
      reads_in n before accesses (λ e there. all e (in_behind (read_asks script n l before) (reads_ask script n accesses before) e there)) kept,
    )
    reads_in n before (sets l content ∷ accesses) all kept = reads_in n before accesses all kept
    reads_in n before (updates l how ∷ accesses) all kept = reads_in n before accesses all kept

    -- what a read asks for is asked for by the moment
    read_asked : (n : ℕ) (l : SeenLocation) (before : List Moment) (e : Edge) (accesses : List SeenAccess) → IsIn accesses (reads l) → IsIn (read_asks script n l before) e → IsIn (reads_ask script n accesses before) e
    read_asked n l before e [] there asked = absurd there
    read_asked n l before e (reads m ∷ accesses) (inl same) asked =
        in_front (read_asks script n m before) (reads_ask script n accesses before) e (subst (λ l. IsIn (read_asks script n l before) e) (sym (read_same m l same)) asked)
    read_asked n l before e (reads m ∷ accesses) (inr there) asked = in_behind (read_asks script n m before) (reads_ask script n accesses before) e (read_asked n l before e accesses there asked)
    read_asked n l before e (sets m content ∷ accesses) (inl same) asked = absurd cc
    read_asked n l before e (sets m content ∷ accesses) (inr there) asked = read_asked n l before e accesses there asked
    read_asked n l before e (updates m how ∷ accesses) (inl same) asked = absurd cc
    read_asked n l before e (updates m how ∷ accesses) (inr there) asked = read_asked n l before e accesses there asked

    time_stmt : (times : List ℕ) (before : List Moment) (time m : ℕ) → IsIn times time → stmt_at time before ≡ Some m → IsIn (stmts_at times before) m
    time_stmt [] before time m there is = absurd there
    time_stmt (first ∷ times) before time m (inl same) is =
        in_front (from_option (stmt_at first before)) (stmts_at times before) m (subst (λ found. IsIn (from_option found) m) (sym (ap (λ t. stmt_at t before) same ∙ is)) (inl refl))
    time_stmt (first ∷ times) before time m (inr there) is = in_behind (from_option (stmt_at first before)) (stmts_at times before) m (time_stmt times before time m there is)

    -- jumps in the module are asked for
    jump_stays : (news told : List Moment) (n : ℕ) → IsIn (module_jumps told) n → IsIn (module_jumps (news ++ told)) n
    jump_stays [] told n there = there
    jump_stays (begins s ∷ news) told n there = jump_stays news told n there
    jump_stays (does at number values answer made accesses weight ∷ news) told n there = jump_stays news told n there
    jump_stays (enters at def values accesses ∷ news) told n there = jump_stays news told n there
    jump_stays (leaves v ∷ news) told n there = jump_stays news told n there
    jump_stays (ends s normal_end ∷ news) told n there = jump_stays news told n there
    jump_stays (ends s break_end ∷ news) told n there = one_jump (without_top (frames_after (news ++ told))) s (module_jumps (news ++ told)) n (jump_stays news told n there)
    jump_stays (ends s continue_end ∷ news) told n there = one_jump (without_top (frames_after (news ++ told))) s (module_jumps (news ++ told)) n (jump_stays news told n there)
    jump_stays (ends s return_end ∷ news) told n there = one_jump (without_top (frames_after (news ++ told))) s (module_jumps (news ++ told)) n (jump_stays news told n there)
    jump_stays (ends s raise_end ∷ news) told n there = one_jump (without_top (frames_after (news ++ told))) s (module_jumps (news ++ told)) n (jump_stays news told n there)

    abruptly : (ended : Ending) → (ended ≡ normal_end → ⊥) → is_abrupt script ended ≡ true
    abruptly normal_end abrupt = absurd (abrupt refl)
    abruptly break_end abrupt = refl
    abruptly continue_end abrupt = refl
    abruptly return_end abrupt = refl
    abruptly raise_end abrupt = refl

    jump_here : (ended : Ending) → (ended ≡ normal_end → ⊥) → (n : ℕ) (before : List Moment) → without_top (frames_after before) ≡ [] → IsIn (module_jumps (ends n ended ∷ before)) n
    jump_here normal_end abrupt n before is = absurd (abrupt refl)
    jump_here break_end abrupt n before is = first_jump (without_top (frames_after before)) n (module_jumps before) is
    jump_here continue_end abrupt n before is = first_jump (without_top (frames_after before)) n (module_jumps before) is
    jump_here return_end abrupt n before is = first_jump (without_top (frames_after before)) n (module_jumps before) is
    jump_here raise_end abrupt n before is = first_jump (without_top (frames_after before)) n (module_jumps before) is

    -- the statement that called
    record IsInner (mark : Bool) (frames : List Frame) : Type 0 where
      inner : Occurrence
      is_inner : innermost frames ≡ Some inner
      mark_is : keep inner.stmt ≡ mark

    inner_is : (mark : Bool) (frames : List Frame) (from : List Open) → map open_of frames ≡ from → InnermostIs mark keep from → IsInner mark frames
    inner_is mark [] from is inner = absurd (subst (InnermostIs mark keep) (sym is) inner)
    inner_is mark (in_occurrence o ∷ frames) from is inner = record { inner = o; is_inner = refl; mark_is = subst (InnermostIs mark keep) (sym is) inner }
    inner_is mark (in_activation time ∷ frames) from is inner =
        let below : IsInner mark frames = inner_is mark frames (map open_of frames) refl (subst (InnermostIs mark keep) (sym is) inner) in
        record { inner = below.inner; is_inner = below.is_inner; mark_is = below.mark_is }

    caller_is : (frames : List Frame) (from : List Open) → map open_of frames ≡ from → CallerIsOut keep from → (o : Occurrence) × (_ : caller script frames ≡ Some o) × (keep o.stmt ≡ false)
    caller_is [] from is out = absurd (subst (CallerIsOut keep) (sym is) out)
    caller_is (in_occurrence o ∷ frames) from is out = caller_is frames (map open_of frames) refl (subst (CallerIsOut keep) (sym is) out)
    caller_is (in_activation time ∷ frames) from is out =
        let inner : IsInner false frames = inner_is false frames (map open_of frames) refl (subst (CallerIsOut keep) (sym is) out) in
        (inner.inner, inner.is_inner, inner.mark_is)

    -- what begins in an activation asks for the statement that called
    pub calls_kept : (news before : List Moment) (n : ℕ) (from : List Open) → upto ≡ news ++ begins n ∷ before → map open_of (frames_after before) ≡ from → CallerIsOut keep from → keep n ≡ false
    calls_kept news before n from is frames out = by_test (keep n) refl
      where
        called : (o : Occurrence) × (_ : caller script (frames_after before) ≡ Some o) × (keep o.stmt ≡ false)
        called = caller_is (frames_after before) from frames out

        by_test : (test : Bool) → keep n ≡ test → keep n ≡ false
        by_test false is_out = is_out
        by_test true kept =
            absurd (false≢true (sym called.2 ∙ asked_kept news before (begins n) (edge by_control n called.0.stmt) is
            (subst (λ found. IsIn (elim found [ None ↦ [] | Some o ↦ edge by_control n o.stmt ∷ [] ]) (edge by_control n called.0.stmt)) (sym called.1) (inl refl)) kept))

    jump_kept : (news before : List Moment) (n : ℕ) (ended : Ending) (from : List Open) → upto ≡ news ++ ends n ended ∷ before → (ended ≡ normal_end → ⊥)
        → (frames : List Frame) → frames_after before ≡ frames → map open_of frames ≡ a_statement n ∷ from → TopIsKept keep from → keep n ≡ true
    jump_kept news before n ended from is abrupt [] at open_is top = absurd cc
    jump_kept news before n ended from is abrupt (frame ∷ []) at open_is top =
        closed.has_roots n (in_behind (asked_by_value (store_after opening upto) upto) (module_jumps upto) n
        (subst (λ told. IsIn (module_jumps told) n) (sym is) (jump_stays news (ends n ended ∷ before) n (jump_here ended abrupt n before (ap without_top at)))))
    jump_kept news before n ended [] is abrupt (frame ∷ other ∷ frames) at open_is top = absurd cc
    jump_kept news before n ended (an_activation ∷ from) is abrupt (frame ∷ in_occurrence o ∷ frames) at open_is top = absurd cc
    jump_kept news before n ended (an_activation ∷ from) is abrupt (frame ∷ in_activation time ∷ frames) at open_is top =
        let under : map open_of frames ≡ from = cc in
        let called : IsInner true frames = inner_is true frames from under top in
        asked_kept news before (ends n ended) (edge by_jump called.inner.stmt n) is
        (subst (λ found. IsIn (if found then elim (asks_for_jump script (without_top (frames_after before))) [ None ↦ [] | Some own ↦ edge by_jump own.stmt n ∷ [] ] else []) (edge by_jump called.inner.stmt n))
        (sym (abruptly ended abrupt))
        (subst (λ frames. IsIn (elim (asks_for_jump script (without_top frames)) [ None ↦ [] | Some own ↦ edge by_jump own.stmt n ∷ [] ]) (edge by_jump called.inner.stmt n)) (sym at)
        (subst (λ own. IsIn (elim own [ None ↦ [] | Some own ↦ edge by_jump own.stmt n ∷ [] ]) (edge by_jump called.inner.stmt n)) (sym called.is_inner) (inl refl))))
        called.mark_is
    jump_kept news before n ended (a_statement p ∷ from) is abrupt (frame ∷ in_activation time ∷ frames) at open_is top = absurd cc
    jump_kept news before n ended (a_statement p ∷ from) is abrupt (frame ∷ in_occurrence o ∷ frames) at open_is top =
        let same : o.stmt ≡ p = cc in
        asked_kept news before (ends n ended) (edge by_jump o.stmt n) is
        (subst (λ found. IsIn (if found then elim (asks_for_jump script (without_top (frames_after before))) [ None ↦ [] | Some own ↦ edge by_jump own.stmt n ∷ [] ] else []) (edge by_jump o.stmt n))
        (sym (abruptly ended abrupt))
        (subst (λ frames. IsIn (elim (asks_for_jump script (without_top frames)) [ None ↦ [] | Some own ↦ edge by_jump own.stmt n ∷ [] ]) (edge by_jump o.stmt n)) (sym at) (inl refl)))
        (ap keep same ∙ top)

    pub reads_kept : (news before : List Moment) (at : Pos) (number : ℕ) (values : List Contents) (answer : Answer) (made : Option SeenKind) (accesses : List SeenAccess) (size n : ℕ)
        → upto ≡ news ++ does at number values answer made accesses size ∷ before → owner_stmt before ≡ Some n → keep n ≡ true → AllInReach keep before accesses
    reads_kept news before at number values answer made accesses size n is owner kept =
        reads_in n before accesses (λ e there. asked_kept news before (does at number values answer made accesses size) e is
        (subst (λ own. IsIn (elim own [ None ↦ [] | Some s ↦ reads_ask script s accesses before ]) e) (sym owner) there)) kept

    -- what set a name that is read
    pub reached_kept : (news before : List Moment) (at : Pos) (number : ℕ) (values : List Contents) (answer : Answer) (made : Option SeenKind) (accesses : List SeenAccess) (size n : ℕ) (l : SeenLocation) (time m : ℕ)
        → upto ≡ news ++ does at number values answer made accesses size ∷ before → owner_stmt before ≡ Some n → keep n ≡ true → IsIn accesses (reads l)
        → IsIn (reach l before) time → stmt_at time before ≡ Some m → keep m ≡ true
    reached_kept news before at number values answer made accesses size n l time m is owner kept there reached stmt_is =
        asked_kept news before (does at number values answer made accesses size) (edge by_data n m) is
        (subst (λ own. IsIn (elim own [ None ↦ [] | Some s ↦ reads_ask script s accesses before ]) (edge by_data n m)) (sym owner)
        (read_asked n l before (edge by_data n m) accesses there (reach_asked n l (reach l before) before m (time_stmt (reach l before) before time m reached stmt_is)))) kept

    -- where nothing set it, the first statement that binds it
    pub binder_kept : (news before : List Moment) (at : Pos) (number : ℕ) (values : List Contents) (answer : Answer) (made : Option SeenKind) (accesses : List SeenAccess) (size n a binder : ℕ) (name : List ℕ)
        → upto ≡ news ++ does at number values answer made accesses size ∷ before → owner_stmt before ≡ Some n → keep n ≡ true → IsIn accesses (reads (var_at (suc a) name))
        → reach (var_at (suc a) name) before ≡ [] → first_binder (function_of_stmt script n) name (statements script) ≡ Some binder → keep binder ≡ true
    binder_kept news before at number values answer made accesses size n a binder name is owner kept there none binder_is =
        asked_kept news before (does at number values answer made accesses size) (edge by_name n binder) is
        (subst (λ own. IsIn (elim own [ None ↦ [] | Some s ↦ reads_ask script s accesses before ]) (edge by_name n binder)) (sym owner)
        (read_asked n (var_at (suc a) name) before (edge by_name n binder) accesses there
        (subst (λ times. IsIn (reach_asks script n (var_at (suc a) name) times before) (edge by_name n binder)) (sym none)
        (subst (λ found. IsIn (to_each by_name n (from_option found)) (edge by_name n binder)) (sym binder_is) (inl refl))))) kept

    pub jumps_kept : (news before : List Moment) (n : ℕ) (ended : Ending) (from : List Open) → upto ≡ news ++ ends n ended ∷ before → (ended ≡ normal_end → ⊥)
        → map open_of (frames_after before) ≡ a_statement n ∷ from → TopIsKept keep from → keep n ≡ true
    jumps_kept news before n ended from is abrupt frames top = jump_kept news before n ended from is abrupt (frames_after before) refl frames top

    -- each kept statement stands in a kept one
    abbrev ByOwner : Option StmtTree → ℕ → Type 0
    ByOwner None n = ⊤
    ByOwner (Some owner) n = keep n ≡ true → keep (number_of owner) ≡ true

    abbrev AllOwned : List Standing → Type 0
    AllOwned [] = ⊤
    AllOwned (x ∷ xs) = ByOwner x.around.owner (number_at x) × AllOwned xs

    all_owned : (xs : List Standing) → ((e : Edge) → IsIn (parents_asked script xs) e → keep e.asker ≡ true → keep e.asked ≡ true) → AllOwned xs
    all_owned [] all = tt
    all_owned (x ∷ xs) all = by_owner x.around.owner all (all_owned xs)
      where
        by_owner : (owner : Option StmtTree)
            → ((e : Edge) → IsIn (elim owner [ None ↦ parents_asked script xs | Some o ↦ edge by_control (number_at x) (number_of o) ∷ parents_asked script xs ]) e → keep e.asker ≡ true → keep e.asked ≡ true)
            → (((e : Edge) → IsIn (parents_asked script xs) e → keep e.asker ≡ true → keep e.asked ≡ true) → AllOwned xs)
            → ByOwner owner (number_at x) × AllOwned xs
        by_owner None all rest = (tt, rest all)
        by_owner (Some o) all rest = (λ kept. all (edge by_control (number_at x) (number_of o)) (inl refl) kept, rest (λ e there. all e (inr there)))

    owned_parts : (xs ys : List Standing) → AllOwned (xs ++ ys) → AllOwned xs × AllOwned ys
    owned_parts [] ys all = (tt, all)
    owned_parts (x ∷ xs) ys all = let rest = owned_parts xs ys all.1 in ((all.0, rest.0), rest.1)

    abbrev kept_around : Option StmtTree → Bool
    kept_around None = true
    kept_around (Some owner) = keep (number_of owner)

    own_under : (owner : Option StmtTree) (n : ℕ) → ByOwner owner n → keep n ≡ true → kept_around owner ≡ true
    own_under None n owned kept = refl
    own_under (Some owner) n owned kept = owned kept

    mutual
      under_suite : (around : Around) (body : SuiteTree) → AllOwned (listed_suite around body) → UnderSuite keep (kept_around around.owner) body
      under_suite around end_suite all = tt
      under_suite around (more_suite s rest) all =
          let parts = owned_parts (listed_stmt around s) (listed_suite around rest) all in (under_stmt around s parts.0, under_suite around rest parts.1)

      under_stmt : (around : Around) (s : StmtTree) → AllOwned (listed_stmt around s) → UnderStmt keep (kept_around around.owner) s
      under_stmt around (one_stmt number at span form) all =
          (own_under around.owner number all.0, under_form (within (one_stmt number at span form) around) form all.1)

      under_form : (around : Around) (form : FormTree) → AllOwned (listed_form around form) → UnderForm keep (kept_around around.owner) form
      under_form around (if_form branches orelse) all =
          let parts = owned_parts (listed_branches around branches) (listed_else around orelse) all in (under_branches around branches parts.0, under_else around orelse parts.1)
      under_form around (while_form test body) all = under_suite around body all
      under_form around (for_form target items body) all = under_suite around body all
      under_form around (try_form body handlers) all =
          let parts = owned_parts (listed_suite around body) (listed_handlers around handlers) all in (under_suite around body parts.0, under_handlers around handlers parts.1)
      under_form around (with_form value bound body) all = under_suite around body all
      under_form around (def_form name params globals body) all = under_suite around body all
      under_form around (class_form name base body) all = under_suite around body all
      under_form around form all = tt

      under_branches : (around : Around) (branches : BranchesTree) → AllOwned (listed_branches around branches) → UnderBranches keep (kept_around around.owner) branches
      under_branches around end_branches all = tt
      under_branches around (more_branches test body rest) all =
          let parts = owned_parts (listed_suite around body) (listed_branches around rest) all in (under_suite around body parts.0, under_branches around rest parts.1)

      under_else : (around : Around) (orelse : ElseTree) → AllOwned (listed_else around orelse) → UnderElse keep (kept_around around.owner) orelse
      under_else around no_else all = tt
      under_else around (else_suite body) all = under_suite around body all

      under_handlers : (around : Around) (handlers : HandlersTree) → AllOwned (listed_handlers around handlers) → UnderHandlers keep (kept_around around.owner) handlers
      under_handlers around end_handlers all = tt
      under_handlers around (more_handlers kind bound body rest) all =
          let parts = owned_parts (listed_suite around body) (listed_handlers around rest) all in (under_suite around body parts.0, under_handlers around rest parts.1)

    pub body_under : UnderSuite keep true script.body
    body_under = under_suite at_module_level script.body
        (all_owned (statements script) (λ e there kept. closed.has_asked e (in_front (parents_asked script (statements script)) (run_asks script upto) e there) kept))
