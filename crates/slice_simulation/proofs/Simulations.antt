-- The run of a slice, from its beginning.
use Rattle.std.proofs.Common.{◌≡◌, ◌≤◌, ◌+◌, ℕ, suc, List, [], ◌∷◌, ◌++◌, true, false, map, length, slice_get, Option, Some, None, inl, inr, refl, sym, ap, ap₂, subst, ◌∙◌, arith, codes}
use Rattle.py_tree.specs.Deletion.{deleted}
use Rattle.py_tree.specs.Tree.{ScriptTree}
use Rattle.py_value.specs.Contents.{text}
use Rattle.py_value.specs.Same.{put}
use Rattle.py_value.specs.Seen.{SeenLocation, SeenContent, var_at, len_at, item_at, entry_at, order_at, file_at, offset_at, closed_at, method_at, base_at, var_is, len_is, item_is, file_is, sets}
use Rattle.py_model.specs.Capture.{Capture, opening_in, with_bytes}
use Rattle.py_model.specs.History.{held, kinds_after, entered_by, spent_on}
use Rattle.py_model.specs.Meaning.{meaning, at_start, starting}
use Rattle.py_model.specs.Moment.{Moment, enters}
use Rattle.py_model.specs.Renaming.{Renaming, renamed_location, renamed_content, renamed_kind}
use Rattle.py_model.specs.Running.{outcome}
use Rattle.py_model.specs.Store.{opening, unset, with_items, with_files}
use Rattle.slice_law.specs.Closed.{StmtSet, IsClosed, IsIn, store_after}
use Rattle.slice_law.specs.Slices.{told_by}
use Rattle.slice_simulation.proofs.Beside.{Ground, Beside}
use Rattle.slice_simulation.proofs.Closedness.{reach_in, reads_kept, jumps_kept, calls_kept, body_under}
use Rattle.py_tree.specs.Functions.{Function, functions_in, function_at}
use Rattle.slice_simulation.proofs.Happenings.{Laws}
use Rattle.slice_simulation.proofs.Entered.{entered_now, entered_count}
use Rattle.slice_simulation.proofs.OwnNames.{placed_there}
use Rattle.slice_simulation.proofs.BoundReads.{def_of, def_stays_on}
use Rattle.slice_simulation.proofs.BoundRuns.{NameLaws}
use Rattle.slice_simulation.proofs.LostLocals.{one_place, number_found, lost_name}
use Rattle.slice_simulation.proofs.NamesUsed.{never_lost}
use Rattle.slice_law.specs.Classes.{ClassesStandOutside}
use Rattle.model_laws.specs.Flow.{KnownFound, KnownKind, KnownStore}
use Rattle.slice_simulation.proofs.FunctionsLeft.{function_found}
use Rattle.slice_simulation.proofs.KeptOperations.{BothHere, no_class, none_handled, no_function}
use Rattle.slice_simulation.proofs.KeptExpressions.{FunctionsFit}
use Rattle.slice_simulation.proofs.KeptStatements.{CalleeFits, CalleesFit, script_both}
use Rattle.slice_simulation.proofs.Knowing.{FlowLaws, opening_known}
use Rattle.model_laws.specs.Defined.{defines}
use Rattle.slice_simulation.proofs.Marks.{shifts}
use Rattle.slice_simulation.proofs.AloneStatements.{lone_apart}
use Rattle.slice_simulation.proofs.EmptiedSuites.{lone_suite}
use Rattle.slice_simulation.proofs.Standing.{AllOwned}
use Rattle.slice_simulation.proofs.StartsFound.{found_starts}
use Rattle.slice_simulation.proofs.StayingDefinitions.{deleted_undefined}
use Rattle.slice_simulation.proofs.FunctionBodies.{callee_found, CalleeBodies, callee_bodies}
use Rattle.slice_simulation.specs.Under.{UnderSuite}
use Rattle.slice_simulation.proofs.OutsideRules.{FoundStarts}
use Rattle.slice_simulation.proofs.OwnMoments.{AllOwn, Owns, OnlyKept, all_own, asking_kept, asking_apart}
use Rattle.py_tree.specs.WellFormed.{IsWellFormed}
use Rattle.slice_simulation.proofs.Renamings.{accesses_match}
use Rattle.slice_simulation.proofs.Simulating.{KnownLast, Holds, Reaches, Through, AsksKept, arrive, simulate}
use Rattle.prov_base.specs.declared.place.Pos.{Pos}
use Rattle.slice_simulation.specs.Owned.{started_suite, SamePlace}
use Rattle.slice_simulation.specs.Related.{at_start as nothing_done, Follows, IsInReach, kept_of, Related}
use Rattle.slice_simulation.specs.Renaming.{marks_after, activations_after, Fits, Matches, all_marks}
use Rattle.slice_simulation.specs.Simulation.{Simulates}

module _ (laws : Laws) (r : Renaming) where
  put_matches : (m : SeenLocation) (c : SeenContent) (here there : SeenLocation → Option SeenContent) (l : SeenLocation) → Matches r here there l
      → Matches r (put m c here) (put (renamed_location r m) (renamed_content r c) there) l
  put_matches m c here there l before = accesses_match r laws.locations l (sets m c ∷ []) here there (inr before)

  unset_matches : (l : SeenLocation) → Matches r unset unset l
  unset_matches (var_at scope name) = refl
  unset_matches (len_at o) = refl
  unset_matches (item_at o i) = refl
  unset_matches (entry_at o key) = refl
  unset_matches (order_at o) = refl
  unset_matches (file_at path) = refl
  unset_matches (offset_at o) = refl
  unset_matches (closed_at o) = refl
  unset_matches (method_at place name) = refl
  unset_matches (base_at place) = refl

  files_match : (files : List (List ℕ × List ℕ)) (l : SeenLocation) → Matches r (with_files files unset) (with_files files unset) l
  files_match [] l = unset_matches l
  files_match (file ∷ files) l = put_matches (file_at file.0) (file_is file.1) (with_files files unset) (with_files files unset) l (files_match files l)

  items_match : (i : ℕ) (words : List (List ℕ)) (here : SeenLocation → Option SeenContent) (l : SeenLocation) → Matches r here here l
      → Matches r (with_items 0 i words here) (with_items 0 i words here) l
  items_match i [] here l before = before
  items_match i (word ∷ words) here l before =
      subst (λ o. Matches r (with_items 0 i (word ∷ words) here) (put (item_at o i) (item_is (text word)) (with_items 0 (i + 1) words here)) l) r.arguments_stay
      (put_matches (item_at 0 i) (item_is (text word)) (with_items 0 (i + 1) words here) (with_items 0 (i + 1) words here) l (items_match (i + 1) words here l before))

  pub opening_matches : (path : List ℕ) (arguments : List (List ℕ)) (files : List (List ℕ × List ℕ)) (l : SeenLocation)
      → Matches r (opening path arguments files).at (opening path arguments files).at l
  opening_matches path arguments files l =
      subst (λ scope. Matches r (opening path arguments files).at (put (var_at scope (codes "__name__")) (var_is (Some (text (codes "__main__")))) lengths) l) r.module_stays
      (put_matches (var_at 0 (codes "__name__")) (var_is (Some (text (codes "__main__")))) lengths lengths l
      (subst (λ o. Matches r lengths (put (len_at o) (len_is (length arguments + 1)) items) l) r.arguments_stay
      (put_matches (len_at 0) (len_is (length arguments + 1)) items items l (items_match 0 (path ∷ arguments) (with_files files unset) l (files_match files l)))))
    where
      items : SeenLocation → Option SeenContent
      items = with_items 0 0 (path ∷ arguments) (with_files files unset)

      lengths : SeenLocation → Option SeenContent
      lengths = put (len_at 0) (len_is (length arguments + 1)) (with_items 0 0 (path ∷ arguments) (with_files files unset))

some_or_none : (f : Function) → ◌≡◌ {A = Option Function} (Some f) None → ⊥
some_or_none f is = cc

abbrev IsHere : ScriptTree → ℕ → Pos → Type 0
IsHere script s place = IsIn (started_suite script.body) (s, place)

module _ (laws : Laws) (flow : FlowLaws) (name_laws : NameLaws) (script : ScriptTree) (capture : Capture) (path : List ℕ) (arguments : List (List ℕ)) (keep : StmtSet) (upto : List Moment) (steps budget : ℕ)
    (closed : IsClosed script (opening_in capture path arguments) upto keep) (well : IsWellFormed script) (classes : ClassesStandOutside script) where
  abbrev ground : Ground
  ground = record {
    paired = SamePlace script (deleted keep script);
    entered = λ a def. def_of a upto ≡ Some def;
    called = λ f g. (function_at script f.place ≡ Some f) × (function_at (deleted keep script) f.place ≡ Some g);
    known = defines (deleted keep script);
  }

  pairs : (s n : ℕ) (at : Pos) → IsHere script s at → IsHere (deleted keep script) n at → SamePlace script (deleted keep script) s n
  pairs s n at here there = record { place = at; here = here; there = there }

  -- nothing of the slice stands at its place
  abbrev IsLone : ℕ → Pos → Type 0
  IsLone s at = (n : ℕ) → IsHere (deleted keep script) n at → ⊥

  alone : (s : ℕ) (at : Pos) → IsHere script s at → IsLone s at → (n : ℕ) → SamePlace script (deleted keep script) s n → ⊥
  alone s at here lone n same =
      lone n (subst (IsHere (deleted keep script) n) (one_place script well s same.place at same.here here) same.there)

  starts : BothHere ground keep upto at_start at_start
  starts = record { functions = no_function; open_is = refl; line_is = refl; handled = none_handled; classes = no_class }

  under : UnderSuite keep true script.body
  under = body_under keep script (opening_in capture path arguments) upto closed

  undefined : (n : ℕ) (at : Pos) → IsHere script n at → keep n ≡ false → ground.known at ≡ false
  undefined n at here out = deleted_undefined keep script well n at here out

  starting_there : (place : Pos) → FoundStarts (IsHere script) (function_at script place)
  starting_there place = found_starts (IsHere script) script (record { each = λ n place there. there }) place

  fits : FunctionsFit ground keep upto script (deleted keep script)
  fits = record {
    found = function_found keep script well;
    listed = λ place f g is there_is. (
      subst (λ at. function_at script at ≡ Some f) (sym (placed_there script place (functions_in script.body) f is)) is,
      subst (λ at. function_at (deleted keep script) at ≡ Some g) (sym (placed_there script place (functions_in script.body) f is)) there_is,
    );
    defined = λ place f is gone known. some_or_none (callee_found keep script well under place f is known).0 (sym (callee_found keep script well under place f is known).1 ∙ gone);
  }

  lone_all : AllOwned IsLone (lone_suite keep script.body)
  lone_all = lone_apart keep script well

  callees : CalleesFit ground (IsHere script) (IsHere (deleted keep script)) IsLone pairs keep alone undefined upto script (deleted keep script)
  callees place f g here_is there_is = by_bodies (callee_bodies keep script well under place f g here_is there_is)
    where
      by_bodies : CalleeBodies keep script f g → CalleeFits ground (IsHere script) (IsHere (deleted keep script)) IsLone pairs keep alone undefined upto f g
      by_bodies bodies = record {
        same = bodies.same;
        under = bodies.under;
        ins = record { each = bodies.ins };
        outs = record { each = bodies.outs };
        lone = record { each = λ n at there. lone_all.each n at (bodies.lone n at there) };
      }

  whole : Beside ground keep (all_marks keep upto) (suc (suc budget)) [] [] (meaning script steps) (meaning (deleted keep script) budget)
  whole =
      script_both ground (IsHere script) (IsHere (deleted keep script)) IsLone pairs keep alone undefined upto script (deleted keep script) fits callees starting_there (suc budget) (suc steps)
      at_start at_start starts script.body under (record { each = λ s place there. there }) (record { each = λ n place there. there }) lone_all [] tt

  related_first : spent_on upto ≤ budget → Related capture ground.paired ground.known keep upto (starting capture path arguments steps) (starting capture path arguments budget)
  related_first enough = record {
    follows = nothing_done;
    contents = λ l inside r fits. opening_matches laws r path arguments (with_bytes capture.files) l;
    kinds = λ r fits. refl;
    counted = refl;
    entered_here = refl;
    entered_there = refl;
    noted_names = λ place known. refl;
    opened_there = λ path is. is;
    opened_here = λ path is inside. inl is;
    enough = omega (arith, enough);
    no_more = omega arith;
  }

  -- what the slice knows, too: functions and classes that it defines alone are in its store, and in its last answer
  pub record Simulated : Type 0 where
    pub simulates : Simulates script capture path arguments budget keep upto
    pub knows : KnownStore (defines (deleted keep script)) (store_after (opening_in capture path arguments) simulates.again)
    pub last : KnownLast (defines (deleted keep script)) simulates.again

  pub simulated : (rest : List Moment) → told_by script capture path arguments steps ≡ rest ++ upto → spent_on upto ≤ budget → Simulated
  simulated rest told_is enough = by_reached
      (arrive capture keep (opening_in capture path arguments) upto (OnlyKept script capture path arguments steps keep upto) ground laws flow asks
      (meaning script steps) (meaning (deleted keep script) budget) (starting capture path arguments steps) (starting capture path arguments budget)
      (related_first enough) holds (omega arith) through
      (λ early. simulate capture keep (opening_in capture path arguments) upto (OnlyKept script capture path arguments steps keep upto) ground laws flow asks
      whole (flow.tree (deleted keep script) budget) (starting capture path arguments steps) (starting capture path arguments budget) (related_first enough) holds refl (omega arith) early through))
    where
      holds : Holds (opening_in capture path arguments) (OnlyKept script capture path arguments steps keep upto) ground.known (starting capture path arguments steps) (starting capture path arguments budget)
      holds = record { here = record { map_is = refl; kinds_are = refl }; there = record { map_is = refl; kinds_are = refl }; askings = λ place only. refl; knows = opening_known ground.known path arguments (with_bytes capture.files); last = tt }

      through : Through capture keep (opening_in capture path arguments) upto (outcome capture (meaning script steps) (starting capture path arguments steps))
      through = record { rest = rest; told_is = told_is }

      own : AllOwn (Owns script capture path arguments steps keep upto) upto
      own = all_own script capture path arguments steps keep upto through

      asks : AsksKept capture keep (opening_in capture path arguments) upto (OnlyKept script capture path arguments steps keep upto) ground
      asks = record {
        reads = reads_kept keep script (opening_in capture path arguments) upto closed;
        jumps = jumps_kept keep script (opening_in capture path arguments) upto closed;
        calls = calls_kept keep script (opening_in capture path arguments) upto closed;
        asking = asking_kept script capture path arguments steps keep upto well.apart own;
        asking_out = asking_apart script capture path arguments steps keep upto own;
        enters = λ news before at def vs accesses is. subst (λ told. def_of (length (activations_after keep before)) told ≡ Some def) (sym is)
            (subst (λ a. def_of a (news ++ enters at def vs accesses ∷ before) ≡ Some def) (sym (entered_count keep before))
            (def_stays_on news (enters at def vs accesses ∷ before) (suc (entered_by before)) def (entered_now at def vs accesses before)));
        names = λ news at p vs s u answer came n one other happens is owner kept on same called entered local not_local.
            let bodies = callee_bodies keep script well under one.place one other called.0 called.1 in
            never_lost name_laws script well capture path arguments steps keep upto closed rest told_is news at p vs s u answer came n one bodies.number happens is owner kept on called.0
            (number_found keep script well under classes one.place one other called.0 called.1 bodies.number bodies.starts)
            (lost_name keep script well under classes one.place one other called.0 called.1 bodies.number bodies.starts p.name local not_local) entered;
      }

      simulation : Reaches capture keep (opening_in capture path arguments) upto (OnlyKept script capture path arguments steps keep upto) ground (outcome capture (meaning (deleted keep script) budget) (starting capture path arguments budget))
          → Simulates script capture path arguments budget keep upto
      simulation reached = record {
        renaming = shifts keep upto 0;
        again = reached.there.told;
        after = reached.news;
        reached = reached.told_is;
        follows = subst (λ told. Follows ground.paired keep (all_marks keep upto) told reached.there.told) reached.here_is reached.related.follows;
        contents = λ l all r fits. contents l (subst (λ told. IsInReach keep l told) (sym reached.here_is) (reach_in keep l upto all)) r fits;
        kinds = λ r fits. sym reached.holds.there.kinds_are
            ∙ (reached.related.kinds r fits
            ∙ ap₂ (λ told kinds. map (renamed_kind r) (kept_of (marks_after keep told) kinds)) reached.here_is
            (reached.holds.here.kinds_are ∙ ap (kinds_after (opening_in capture path arguments).kinds) reached.here_is));
        no_more = subst (λ told. spent_on reached.there.told ≤ spent_on told) reached.here_is reached.related.no_more;
      }
        where
          contents : (l : SeenLocation) → IsInReach keep l reached.here.told → (r : Renaming) → Fits (all_marks keep upto) r
              → Matches r (held (opening_in capture path arguments).at upto) (held (opening_in capture path arguments).at reached.there.told) l
          contents l inside r fits =
              subst (λ there. Matches r (held (opening_in capture path arguments).at upto) there l) reached.holds.there.map_is
              (subst (λ here. Matches r here reached.there.store.at l) (reached.holds.here.map_is ∙ ap (held (opening_in capture path arguments).at) reached.here_is)
              (reached.related.contents l inside r fits))

      by_reached : Reaches capture keep (opening_in capture path arguments) upto (OnlyKept script capture path arguments steps keep upto) ground (outcome capture (meaning (deleted keep script) budget) (starting capture path arguments budget))
          → Simulated
      by_reached reached = record {
        simulates = simulation reached;
        knows = record {
          at = λ l. subst (λ map. KnownFound (defines (deleted keep script)) (map l)) reached.holds.there.map_is (reached.holds.knows.at l);
          kinds = λ o. subst (λ kinds. KnownKind (defines (deleted keep script)) (slice_get kinds o)) reached.holds.there.kinds_are (reached.holds.knows.kinds o);
        };
        last = reached.holds.last;
      }
