-- The functions of a slice and their suites: a function whose `def` is kept is there, with what its suite has in both scripts.
use Rattle.std.proofs.Common.{◌≡◌, ℕ, ◌+◌, Bool, true, false, if◌then◌else◌, ◌⊎◌, List, [], ◌∷◌, ◌++◌, Option, Some, inl, inr, refl, sym, ap, subst, ◌∙◌, rules}
use Rattle.std.proofs.lemmas.Bool.{false≢true}
use Rattle.prov_base.specs.declared.place.Pos.{Pos}
use Rattle.prov_base.specs.declared.place.Span.{Span}
use Rattle.prov_base.specs.contracts.place.PosPartialEq.TheImpl.{ghosts as places}
use Rattle.py_tree.specs.Deletion.{or_pass, kept_suite, kept_stmt, kept_form, deleted}
use Rattle.py_tree.specs.Functions.{Function, functions_in, functions_of, functions_at, first_placed, function_at}
use Rattle.py_tree.specs.Numbering.{size_stmt, numbered_suite, numbered_stmt, numbered_form}
use Rattle.py_tree.specs.Tree.{number_of, ExprTree, StmtTree, FormTree, SuiteTree, ScriptTree, one_stmt, do_form, assign_form, aug_form, del_form, pass_form, break_form, continue_form, return_form, raise_form, assert_form, import_form, if_form, while_form, for_form, try_form, with_form, def_form, class_form, end_suite, more_suite}
use Rattle.py_tree.specs.WellFormed.{IsWellFormed}
use Rattle.model_laws.specs.Defined.{defined_suite, defined_stmt, defined_form, defines}
use Rattle.slice_law.specs.Closed.{StmtSet, IsIn}
use Rattle.slice_simulation.proofs.EmptiedSuites.{lone_of, lone_suite, lone_stmt, lone_body}
use Rattle.slice_simulation.proofs.FunctionsLeft.{function_found}
use Rattle.slice_simulation.proofs.OutsideStatements.{deleted_outside, emptied_outside}
use Rattle.slice_simulation.proofs.OwnMoments.{place_same}
use Rattle.slice_simulation.proofs.Standing.{in_front, in_behind}
use Rattle.slice_simulation.proofs.StartsOnce.{either_in, one_start}
use Rattle.slice_simulation.proofs.StayingDefinitions.{in_defined, defined_kept}
use Rattle.slice_simulation.specs.Cut.{SameFunction, FoundCut}
use Rattle.slice_simulation.specs.Owned.{started_suite, started_stmt, started_form}
use Rattle.slice_simulation.specs.Under.{UnderSuite, UnderStmt}

-- its `def` starts among these and defines among those; and so do the statements of its suite
record DefAmong (starts : List (ℕ × Pos)) (defined : List Pos) (f : Function) : Type 0 where
  number : ℕ
  starts_is : IsIn starts (number, f.place)
  defined_is : IsIn defined f.place
  inside : (n : ℕ) (at : Pos) → IsIn (started_suite f.body) (n, at) → IsIn starts (n, at)

def_front : {f : Function} {xs : List (ℕ × Pos)} {ps : List Pos} (ys : List (ℕ × Pos)) (qs : List Pos) → DefAmong xs ps f → DefAmong (xs ++ ys) (ps ++ qs) f
def_front {f} {xs} {ps} ys qs one = record {
  number = one.number;
  starts_is = in_front xs ys (one.number, f.place) one.starts_is;
  defined_is = in_front ps qs f.place one.defined_is;
  inside = λ n at there. in_front xs ys (n, at) (one.inside n at there);
}

def_behind : {f : Function} (xs : List (ℕ × Pos)) (ps : List Pos) {ys : List (ℕ × Pos)} {qs : List Pos} → DefAmong ys qs f → DefAmong (xs ++ ys) (ps ++ qs) f
def_behind {f} xs ps {ys} {qs} one = record {
  number = one.number;
  starts_is = in_behind xs ys (one.number, f.place) one.starts_is;
  defined_is = in_behind ps qs f.place one.defined_is;
  inside = λ n at there. in_behind xs ys (n, at) (one.inside n at there);
}

module _ (f : Function) where
  mutual
    suite_def : (body : SuiteTree) → IsIn (functions_in body) f → DefAmong (started_suite body) (defined_suite body) f
    suite_def end_suite there = absurd there
    suite_def (more_suite s rest) there = by_either (either_in (functions_of s) (functions_in rest) f there) (stmt_def s) (suite_def rest)
      where
        by_either : IsIn (functions_of s) f ⊎ IsIn (functions_in rest) f → (IsIn (functions_of s) f → DefAmong (started_stmt s) (defined_stmt s) f)
            → (IsIn (functions_in rest) f → DefAmong (started_suite rest) (defined_suite rest) f) → DefAmong (started_suite (more_suite s rest)) (defined_suite (more_suite s rest)) f
        by_either (inl here) front behind = def_front (started_suite rest) (defined_suite rest) (front here)
        by_either (inr later) front behind = def_behind (started_stmt s) (defined_stmt s) (behind later)

    stmt_def : (s : StmtTree) → IsIn (functions_of s) f → DefAmong (started_stmt s) (defined_stmt s) f
    stmt_def (one_stmt number at span form) there = form_def number at form there

    form_def : (number : ℕ) (at : Pos) (form : FormTree) → IsIn (functions_at at form) f → DefAmong ((number, at) ∷ started_form form) (defined_form at form) f
    form_def number at (def_form name params globals body) (inl is) =
        subst (DefAmong ((number, at) ∷ started_suite body) (at ∷ defined_suite body)) is
        (record { number = number; starts_is = inl refl; defined_is = inl refl; inside = λ n place there. inr there })
    form_def number at (def_form name params globals body) (inr there) = absurd there
    form_def number at (class_form name base body) there = def_behind ((number, at) ∷ []) (at ∷ []) (suite_def body there)
    form_def number at (do_form e) there = absurd there
    form_def number at (assign_form target e) there = absurd there
    form_def number at (aug_form target sign p e) there = absurd there
    form_def number at (del_form target) there = absurd there
    form_def number at pass_form there = absurd there
    form_def number at break_form there = absurd there
    form_def number at continue_form there = absurd there
    form_def number at (return_form e) there = absurd there
    form_def number at (raise_form e) there = absurd there
    form_def number at (assert_form test message) there = absurd there
    form_def number at (import_form name) there = absurd there
    form_def number at (if_form branches other) there = absurd there
    form_def number at (while_form test body) there = absurd there
    form_def number at (for_form target items body) there = absurd there
    form_def number at (try_form body handlers) there = absurd there
    form_def number at (with_form e bound body) there = absurd there

-- what a place leads to is a function that stands there
pub found_in : (place : Pos) (f : Function) (fs : List Function) → first_placed place fs ≡ Some f → IsIn fs f × (f.place ≡ place)
found_in place f [] is = absurd cc
found_in place f (g ∷ fs) is = by_test (places.eq g.place place) refl is (found_in place f fs)
  where
    by_test : (test : Bool) → places.eq g.place place ≡ test → (if test then Some g else first_placed place fs) ≡ Some f
        → (first_placed place fs ≡ Some f → IsIn fs f × (f.place ≡ place)) → IsIn (g ∷ fs) f × (f.place ≡ place)
    by_test true same is later = let own : g ≡ f = cc in (inl own, subst (λ (h : Function). h.place ≡ place) own (place_same g.place place same))
    by_test false other is later = let rest : IsIn fs f × (f.place ≡ place) = later is in (inr rest.0, rest.1)

same_place : (p q : Pos) → p ≡ q → places.eq p q ≡ true
same_place p q is = search rules

-- where a function stands at a place, one is found
some_placed : (place : Pos) (g : Function) (fs : List Function) → IsIn fs g → g.place ≡ place → (h : Function) × (first_placed place fs ≡ Some h)
some_placed place g [] there at = absurd there
some_placed place g (f ∷ fs) there at = by_test (places.eq f.place place) refl there (λ later. some_placed place g fs later at)
  where
    by_test : (test : Bool) → places.eq f.place place ≡ test → IsIn (f ∷ fs) g → (IsIn fs g → (h : Function) × (first_placed place fs ≡ Some h))
        → (h : Function) × ((if test then Some f else first_placed place fs) ≡ Some h)
    by_test true same there later = (f, refl)
    by_test false other (inl is) later = absurd (false≢true (sym other ∙ same_place f.place place (ap (λ (x : Function). x.place) is ∙ at)))
    by_test false other (inr there) later = later there

-- a function stands there
record StandsIn (place : Pos) (fs : List Function) : Type 0 where
  one : Function
  there : IsIn fs one
  at_place : one.place ≡ place

module _ (keep : StmtSet) (f : Function) where
  -- what holds where its `def` is kept
  record KeptDef (starts lone : List (ℕ × Pos)) (left : ℕ → List Function) : Type 0 where
    number : ℕ
    starts_is : IsIn starts (number, f.place)
    under : keep number ≡ true → UnderSuite keep true f.body
    stays : keep number ≡ true → (m : ℕ) → StandsIn f.place (left m)
    alone : keep number ≡ true → (n : ℕ) (at : Pos) → IsIn (lone_body keep f.body) (n, at) → IsIn lone (n, at)

  stands_front : {place : Pos} (fs gs : List Function) → StandsIn place fs → StandsIn place (fs ++ gs)
  stands_front {place} fs gs stands = record { one = stands.one; there = in_front fs gs stands.one stands.there; at_place = stands.at_place }

  stands_behind : {place : Pos} (fs gs : List Function) → StandsIn place gs → StandsIn place (fs ++ gs)
  stands_behind {place} fs gs stands = record { one = stands.one; there = in_behind fs gs stands.one stands.there; at_place = stands.at_place }

  or_pass_stands : {place : Pos} (m : ℕ) (body kept : SuiteTree) → StandsIn place (functions_in (numbered_suite m kept)) → StandsIn place (functions_in (numbered_suite m (or_pass body kept)))
  or_pass_stands m end_suite kept stands = stands
  or_pass_stands m (more_suite (one_stmt number at span form) rest) end_suite stands = absurd stands.there
  or_pass_stands m (more_suite (one_stmt number at span form) rest) (more_suite s more) stands = stands

  -- a suite in which a statement is kept has all that is alone in its row
  lone_row : (around : Bool) (number : ℕ) (place : Pos) (body : SuiteTree) → UnderSuite keep around body → IsIn (started_suite body) (number, place) → keep number ≡ true
      → (n : ℕ) (at : Pos) → IsIn (lone_suite keep body) (n, at) → IsIn (lone_body keep body) (n, at)
  lone_row around number place body under starts kept n at there = by_kept (kept_suite keep body) refl
    where
      some_kept : kept_suite keep body ≡ end_suite → ⊥
      some_kept emptied = false≢true (sym (emptied_outside keep number place around body emptied under starts) ∙ kept)

      same_row : (all first : SuiteTree) (more : StmtTree) (lone : List (ℕ × Pos)) → IsIn lone (n, at) → IsIn (lone_of all (more_suite more first) lone) (n, at)
      same_row end_suite first more lone there = there
      same_row (more_suite (one_stmt m p span form) rest) first more lone there = there

      by_kept : (left : SuiteTree) → kept_suite keep body ≡ left → IsIn (lone_of body left (lone_suite keep body)) (n, at)
      by_kept end_suite is = absurd (some_kept is)
      by_kept (more_suite s more) is = same_row body more s (lone_suite keep body) there

  -- the functions of a class
  class_keeps : (around : Bool) (number : ℕ) (at : Pos) (span : Span) (name : List ℕ) (base : Option ExprTree) (body : SuiteTree) → UnderStmt keep around (one_stmt number at span (class_form name base body))
      → KeptDef (started_suite body) (lone_suite keep body) (λ m. functions_in (numbered_suite m (kept_suite keep body)))
      → KeptDef ((number, at) ∷ started_suite body) (lone_stmt keep (one_stmt number at span (class_form name base body))) (λ m. functions_in (numbered_suite (m + 1) (or_pass body (kept_suite keep body))))
  class_keeps around number at span name base body under found = record {
    number = found.number;
    starts_is = inr found.starts_is;
    under = found.under;
    stays = λ kept m. or_pass_stands (m + 1) body (kept_suite keep body) (found.stays kept (m + 1));
    alone = λ kept n p one. by_test (keep number) refl kept n p (lone_row (keep number) found.number f.place body under.1 found.starts_is kept n p (found.alone kept n p one));
  }
    where
      by_test : (test : Bool) → keep number ≡ test → keep found.number ≡ true → (n : ℕ) (p : Pos) → IsIn (lone_body keep body) (n, p)
          → IsIn (if test then lone_body keep body else (number, at) ∷ started_suite body) (n, p)
      by_test true is kept n p one = one
      by_test false is kept n p one =
          absurd (false≢true (sym (deleted_outside keep found.number f.place around (one_stmt number at span (class_form name base body)) is under (inr found.starts_is)) ∙ kept))

  mutual
    suite_keeps : (around : Bool) (body : SuiteTree) → UnderSuite keep around body → IsIn (functions_in body) f
        → KeptDef (started_suite body) (lone_suite keep body) (λ m. functions_in (numbered_suite m (kept_suite keep body)))
    suite_keeps around end_suite under there = absurd there
    suite_keeps around (more_suite s rest) under there =
        by_either (either_in (functions_of s) (functions_in rest) f there) (stmt_keeps around s under.0) (suite_keeps around rest under.1)
      where
        by_either : IsIn (functions_of s) f ⊎ IsIn (functions_in rest) f
            → (IsIn (functions_of s) f → KeptDef (started_stmt s) (lone_stmt keep s) (λ m. functions_of (numbered_stmt m (kept_stmt keep s))))
            → (IsIn (functions_in rest) f → KeptDef (started_suite rest) (lone_suite keep rest) (λ m. functions_in (numbered_suite m (kept_suite keep rest))))
            → KeptDef (started_suite (more_suite s rest)) (lone_suite keep (more_suite s rest)) (λ m. functions_in (numbered_suite m (kept_suite keep (more_suite s rest))))
        by_either (inl here) own others = record {
          number = found.number;
          starts_is = in_front (started_stmt s) (started_suite rest) (found.number, f.place) found.starts_is;
          under = found.under;
          stays = λ kept m. by_test (keep (number_of s)) refl kept m;
          alone = λ kept n at one. in_front (lone_stmt keep s) (lone_suite keep rest) (n, at) (found.alone kept n at one);
        }
          where
            found : KeptDef (started_stmt s) (lone_stmt keep s) (λ m. functions_of (numbered_stmt m (kept_stmt keep s)))
            found = own here

            by_test : (test : Bool) → keep (number_of s) ≡ test → keep found.number ≡ true → (m : ℕ)
                → StandsIn f.place (functions_in (numbered_suite m (if test then more_suite (kept_stmt keep s) (kept_suite keep rest) else kept_suite keep rest)))
            by_test true is kept m =
                stands_front (functions_of (numbered_stmt m (kept_stmt keep s))) (functions_in (numbered_suite (m + size_stmt (kept_stmt keep s)) (kept_suite keep rest))) (found.stays kept m)
            by_test false is kept m = absurd (false≢true (sym (deleted_outside keep found.number f.place around s is under.0 found.starts_is) ∙ kept))
        by_either (inr later) own others = record {
          number = found.number;
          starts_is = in_behind (started_stmt s) (started_suite rest) (found.number, f.place) found.starts_is;
          under = found.under;
          stays = λ kept m. by_test (keep (number_of s)) kept m;
          alone = λ kept n at one. in_behind (lone_stmt keep s) (lone_suite keep rest) (n, at) (found.alone kept n at one);
        }
          where
            found : KeptDef (started_suite rest) (lone_suite keep rest) (λ m. functions_in (numbered_suite m (kept_suite keep rest)))
            found = others later

            by_test : (test : Bool) → keep found.number ≡ true → (m : ℕ)
                → StandsIn f.place (functions_in (numbered_suite m (if test then more_suite (kept_stmt keep s) (kept_suite keep rest) else kept_suite keep rest)))
            by_test true kept m =
                stands_behind (functions_of (numbered_stmt m (kept_stmt keep s))) (functions_in (numbered_suite (m + size_stmt (kept_stmt keep s)) (kept_suite keep rest)))
                (found.stays kept (m + size_stmt (kept_stmt keep s)))
            by_test false kept m = found.stays kept m

    stmt_keeps : (around : Bool) (s : StmtTree) → UnderStmt keep around s → IsIn (functions_of s) f
        → KeptDef (started_stmt s) (lone_stmt keep s) (λ m. functions_of (numbered_stmt m (kept_stmt keep s)))
    stmt_keeps around (one_stmt number at span form) under there = form_keeps around number at span form under there

    form_keeps : (around : Bool) (number : ℕ) (at : Pos) (span : Span) (form : FormTree) → UnderStmt keep around (one_stmt number at span form) → IsIn (functions_at at form) f
        → KeptDef ((number, at) ∷ started_form form) (lone_stmt keep (one_stmt number at span form)) (λ m. functions_at at (numbered_form (m + 1) (kept_form keep form)))
    form_keeps around number at span (def_form name params globals body) under (inl is) = record {
      number = number;
      starts_is = inl (ap (λ (x : Function). (number, x.place)) is);
      under = λ kept. subst (λ (x : Function). UnderSuite keep true x.body) is (subst (λ test. UnderSuite keep test body) kept under.1);
      stays = λ kept m. record {
        one = record { place = at; params = params; globals = globals; body = numbered_suite (m + 1) (or_pass body (kept_suite keep body)) };
        there = inl refl;
        at_place = ap (λ (x : Function). x.place) is;
      };
      alone = λ kept n p one. subst (λ test. IsIn (if test then lone_body keep body else (number, at) ∷ started_suite body) (n, p)) (sym kept)
          (subst (λ (x : Function). IsIn (lone_body keep x.body) (n, p)) (sym is) one);
    }
    form_keeps around number at span (def_form name params globals body) under (inr there) = absurd there
    form_keeps around number at span (class_form name base body) under there = class_keeps around number at span name base body under (suite_keeps (keep number) body under.1 there)
    form_keeps around number at span (do_form e) under there = absurd there
    form_keeps around number at span (assign_form target e) under there = absurd there
    form_keeps around number at span (aug_form target sign p e) under there = absurd there
    form_keeps around number at span (del_form target) under there = absurd there
    form_keeps around number at span pass_form under there = absurd there
    form_keeps around number at span break_form under there = absurd there
    form_keeps around number at span continue_form under there = absurd there
    form_keeps around number at span (return_form e) under there = absurd there
    form_keeps around number at span (raise_form e) under there = absurd there
    form_keeps around number at span (assert_form test message) under there = absurd there
    form_keeps around number at span (import_form name) under there = absurd there
    form_keeps around number at span (if_form branches other) under there = absurd there
    form_keeps around number at span (while_form test body) under there = absurd there
    form_keeps around number at span (for_form target items body) under there = absurd there
    form_keeps around number at span (try_form body handlers) under there = absurd there
    form_keeps around number at span (with_form e bound body) under there = absurd there

-- A function that is there in both scripts: its `def` is kept, its suite has only statements of owners in the set, and what starts in its suite
-- starts in the script, on both sides.
pub record CalleeBodies (keep : StmtSet) (script : ScriptTree) (f g : Function) : Type 0 where
  pub same : SameFunction keep f g
  pub number : ℕ
  pub kept : keep number ≡ true
  pub starts : IsIn (started_suite script.body) (number, f.place)
  pub under : UnderSuite keep true f.body
  pub ins : (n : ℕ) (at : Pos) → IsIn (started_suite f.body) (n, at) → IsIn (started_suite script.body) (n, at)
  pub outs : (n : ℕ) (at : Pos) → IsIn (started_suite g.body) (n, at) → IsIn (started_suite (deleted keep script).body) (n, at)
  pub lone : (n : ℕ) (at : Pos) → IsIn (lone_body keep f.body) (n, at) → IsIn (lone_suite keep script.body) (n, at)

module _ (keep : StmtSet) (script : ScriptTree) (well : IsWellFormed script) (under : UnderSuite keep true script.body) where
  pub same_function : (place : Pos) (f g : Function) → function_at script place ≡ Some f → function_at (deleted keep script) place ≡ Some g → SameFunction keep f g
  same_function place f g here there =
      subst (FoundCut keep (Some f)) there (subst (λ found. FoundCut keep found (function_at (deleted keep script) place)) here (function_found keep script well place))

  -- the `def` of a function is kept where something is defined there in the slice
  def_kept : (place : Pos) (number : ℕ) → IsIn (started_suite script.body) (number, place) → defines (deleted keep script) place ≡ true → keep number ≡ true
  def_kept place number starts is =
      let known = defined_kept keep script place is in
      ap keep (one_start script well number known.0 place starts known.1) ∙ known.2

  -- a function of the script is there in the slice where the slice defines something at its place
  pub callee_found : (place : Pos) (f : Function) → function_at script place ≡ Some f → defines (deleted keep script) place ≡ true
      → (g : Function) × (_ : function_at (deleted keep script) place ≡ Some g) × SameFunction keep f g
  callee_found place f here is =
      let found : IsIn (functions_in script.body) f × (f.place ≡ place) = found_in place f (functions_in script.body) here in
      let def : KeptDef keep f (started_suite script.body) (lone_suite keep script.body) (λ m. functions_in (numbered_suite m (kept_suite keep script.body))) = suite_keeps keep f true script.body under found.0 in
      let stands : StandsIn f.place (functions_in (deleted keep script).body) = def.stays (def_kept place def.number (subst (λ p. IsIn (started_suite script.body) (def.number, p)) found.1 def.starts_is) is) 0 in
      let placed = some_placed place stands.one (functions_in (deleted keep script).body) stands.there (stands.at_place ∙ found.1) in
      (placed.0, placed.1, same_function place f placed.0 here placed.1)

  pub callee_bodies : (place : Pos) (f g : Function) → function_at script place ≡ Some f → function_at (deleted keep script) place ≡ Some g → CalleeBodies keep script f g
  callee_bodies place f g here there = record {
    same = same_function place f g here there;
    number = def.number;
    kept = kept;
    starts = def.starts_is;
    under = def.under kept;
    ins = (suite_def f script.body found.0).inside;
    outs = other.inside;
    lone = def.alone kept;
  }
    where
      found : IsIn (functions_in script.body) f × (f.place ≡ place)
      found = found_in place f (functions_in script.body) here

      again : IsIn (functions_in (deleted keep script).body) g × (g.place ≡ place)
      again = found_in place g (functions_in (deleted keep script).body) there

      other : DefAmong (started_suite (deleted keep script).body) (defined_suite (deleted keep script).body) g
      other = suite_def g (deleted keep script).body again.0

      def : KeptDef keep f (started_suite script.body) (lone_suite keep script.body) (λ m. functions_in (numbered_suite m (kept_suite keep script.body)))
      def = suite_keeps keep f true script.body under found.0

      kept : keep def.number ≡ true
      kept = def_kept place def.number (subst (λ p. IsIn (started_suite script.body) (def.number, p)) found.1 def.starts_is)
          (in_defined (deleted keep script) place (subst (IsIn (defined_suite (deleted keep script).body)) again.1 other.defined_is))
