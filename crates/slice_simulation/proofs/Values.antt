-- The value of an evaluation has the same graph text in the run of the slice.
use Rattle.std.proofs.Common.{◌≡◌, ◌≤◌, ℕ, Bool, true, false, ◌&&◌, List, [], ◌∷◌, ◌++◌, map, length, slice_get, Some, option_map, inl, inr, refl, sym, ap, subst, ◌∙◌, append-nil, arith}
use Rattle.std.specs.Prelude.{◌↔◌}
use Rattle.std.proofs.lemmas.Bool.{false≢true, and_parts}
use Rattle.std.proofs.lemmas.Option.{slice_get-map}
use Rattle.prov_base.specs.declared.place.Pos.{Pos}
use Rattle.prov_base.specs.contracts.place.PosPartialEq.TheImpl.{ghosts as places}
use Rattle.py_tree.specs.Deletion.{deleted}
use Rattle.py_tree.specs.Tree.{ScriptTree}
use Rattle.py_value.specs.Contents.{Contents}
use Rattle.py_value.specs.Same.{same_value}
use Rattle.py_value.specs.Seen.{SeenLocation, SeenKind, a_list}
use Rattle.py_model.specs.Capture.{Capture, opening_in}
use Rattle.py_model.specs.Graph.{first_name, names_in, graph_text}
use Rattle.py_model.specs.History.{spent_on, kinds_after, made_by}
use Rattle.py_model.specs.Moment.{Moment, begins, does, enters, leaves, ends}
use Rattle.py_model.specs.Occurrences.{evaluates, is_evaluation_at, up_to_evaluation, owner_stmt}
use Rattle.py_model.specs.Plan.{value, raised, at_end}
use Rattle.py_model.specs.Renaming.{Renaming, renamed, renamed_answer, renamed_kind}
use Rattle.py_model.specs.SameGraph.{Setting, HaveSameGraph}
use Rattle.py_model.specs.Store.{RunStore, order_of}
use Rattle.model_laws.specs.KeyedRuns.{HaveEntries}
use Rattle.slice_law.specs.Closed.{StmtSet, IsIn, IsClosed, store_after}
use Rattle.slice_law.specs.Edges.{from_option, reach_stmts, reaches_stmts, reachable, asked_by_value, module_jumps}
use Rattle.slice_law.specs.Slices.{told_by, last_value, Reproduces}
use Rattle.slice_simulation.proofs.Evaluations.{IsFound, found_is}
use Rattle.slice_simulation.proofs.Marks.{kind_at, counted_made, spent_joined, shifts}
use Rattle.slice_simulation.proofs.NamesKept.{names_kept}
use Rattle.slice_simulation.proofs.Simulating.{KnownLast}
use Rattle.model_laws.specs.Defined.{defines}
use Rattle.model_laws.specs.Flow.{KnownValue, KnownStore}
use Rattle.py_tree.specs.WellFormed.{IsWellFormed}
use Rattle.slice_law.proofs.Reachables.{traversed, all_met, all_covered}
use Rattle.slice_simulation.proofs.EndedLists.{ended_in, text_ends}
use Rattle.slice_simulation.proofs.SharedGraphs.{graphs_match}
use Rattle.slice_simulation.proofs.Standing.{in_front, in_behind}
use Rattle.slice_simulation.specs.Related.{kept_of}
use Rattle.slice_simulation.specs.Renaming.{Marks, is_kept, marks_after, is_marked, rank, Fits, IsShifted, all_marks}
use Rattle.slice_simulation.specs.Simulation.{answer_of, ReachesEvaluation}

pub value_text : (script : ScriptTree) (opening : RunStore) (told : List Moment) (v : Contents) → answer_of told ≡ Some (value v)
    → last_value script opening told ≡ Some (graph_text script (store_after opening told) v)
value_text script opening [] v is = absurd cc
value_text script opening (does at number values (value w) made accesses weight ∷ before) v is =
    let same : w ≡ v = cc in ap (λ x. Some (graph_text script (store_after opening (does at number values (value w) made accesses weight ∷ before)) x)) same
value_text script opening (does at number values (raised o) made accesses weight ∷ before) v is = absurd cc
value_text script opening (does at number values at_end made accesses weight ∷ before) v is = absurd cc
value_text script opening (begins n ∷ before) v is = absurd cc
value_text script opening (enters at def values accesses ∷ before) v is = absurd cc
value_text script opening (leaves w ∷ before) v is = absurd cc
value_text script opening (ends n ended ∷ before) v is = absurd cc

-- what is told up to an evaluation costs no more than all that is told
pub spent_within : (at : Pos) (k : ℕ) (told upto : List Moment) → up_to_evaluation at k told ≡ Some upto → spent_on upto ≤ spent_on told
spent_within at k told upto is =
    let found : IsFound at k told upto = found_is at k told upto is in
    omega (arith, ap spent_on found.whole_is, spent_joined found.after upto)

-- an evaluation has a value
evaluated : (q : Pos) (moment : Moment) (before : List Moment) → is_evaluation_at q moment ≡ true → (v : Contents) × (answer_of (moment ∷ before) ≡ Some (value v))
evaluated q (does at number values (value v) made accesses weight) before is = (v, refl)
evaluated q (does at number values (raised o) made accesses weight) before is =
    absurd (false≢true (and_parts (evaluates number) false (and_parts (places.eq at q) (evaluates number && false) is).1).1)
evaluated q (does at number values at_end made accesses weight) before is =
    absurd (false≢true (and_parts (evaluates number) false (and_parts (places.eq at q) (evaluates number && false) is).1).1)
evaluated q (begins n) before is = absurd (false≢true is)
evaluated q (enters at def values accesses) before is = absurd (false≢true is)
evaluated q (leaves v) before is = absurd (false≢true is)
evaluated q (ends n ended) before is = absurd (false≢true is)

-- a known last answer has a known value
last_known : (known : Pos → Bool) (told : List Moment) (w : Contents) → answer_of told ≡ Some (value w) → KnownLast known told → KnownValue known w
last_known known [] w is last = absurd cc
last_known known (does at number values (value v) made accesses weight ∷ before) w is last = let same : v ≡ w = cc in subst (KnownValue known) same last
last_known known (does at number values (raised o) made accesses weight ∷ before) w is last = absurd cc
last_known known (does at number values at_end made accesses weight ∷ before) w is last = absurd cc
last_known known (begins n ∷ before) w is last = absurd cc
last_known known (enters at def values accesses ∷ before) w is last = absurd cc
last_known known (leaves v ∷ before) w is last = absurd cc
last_known known (ends n ended ∷ before) w is last = absurd cc

-- all that is reachable is asked for
in_reaches : (ls : List SeenLocation) (l : SeenLocation) (told : List Moment) (s : ℕ) → IsIn ls l → IsIn (reach_stmts l told) s → IsIn (reaches_stmts ls told) s
in_reaches [] l told s place there = absurd place
in_reaches (m ∷ ls) l told s (inl is) there = in_front (reach_stmts m told) (reaches_stmts ls told) s (subst (λ x. IsIn (reach_stmts x told) s) (sym is) there)
in_reaches (m ∷ ls) l told s (inr place) there = in_behind (reach_stmts m told) (reaches_stmts ls told) s (in_reaches ls l told s place there)

value_asks : (store : RunStore) (told : List Moment) (v : Contents) → answer_of told ≡ Some (value v) → (l : SeenLocation) (s : ℕ)
    → IsIn (reachable store v) l → IsIn (reach_stmts l told) s → IsIn (asked_by_value store told) s
value_asks store [] v is l s place there = absurd cc
value_asks store (does at number values (value w) made accesses weight ∷ before) v is l s place there =
    let same : v ≡ w = cc in
    in_behind (from_option (owner_stmt before)) (reaches_stmts (reachable store w) (does at number values (value w) made accesses weight ∷ before)) s
    (in_reaches (reachable store w) l (does at number values (value w) made accesses weight ∷ before) s (subst (λ x. IsIn (reachable store x) l) same place) there)
value_asks store (does at number values (raised o) made accesses weight ∷ before) v is l s place there = absurd cc
value_asks store (does at number values at_end made accesses weight ∷ before) v is l s place there = absurd cc
value_asks store (begins n ∷ before) v is l s place there = absurd cc
value_asks store (enters at def values accesses ∷ before) v is l s place there = absurd cc
value_asks store (leaves w ∷ before) v is l s place there = absurd cc
value_asks store (ends n ended ∷ before) v is l s place there = absurd cc

-- of each object whether it is there in both runs
counted : (keep : StmtSet) (told : List Moment) → length (kinds_after (a_list ∷ []) told) ≡ length (marks_after keep told)
counted keep [] = refl
counted keep (moment ∷ before) = counted_made (made_by moment) (is_kept keep (owner_stmt before)) (marks_after keep before) (kinds_after (a_list ∷ []) before) (counted keep before)

kind_there : (marks : Marks) (r : Renaming) → Fits marks r → (kinds others : List SeenKind) → length kinds ≡ length marks.objects
    → others ≡ map (renamed_kind r) (kept_of marks.objects kinds) → (o : ℕ) → is_marked marks.objects o ≡ true → slice_get others (r.objects o) ≡ option_map (renamed_kind r) (slice_get kinds o)
kind_there marks r fits kinds others same are o marked =
    ap (λ (xs : List SeenKind). slice_get xs (r.objects o)) are
    ∙ (ap (slice_get (map (renamed_kind r) (kept_of marks.objects kinds))) (fits.objects_are o marked)
    ∙ (slice_get-map (renamed_kind r) (kept_of marks.objects kinds) (rank marks.objects o)
    ∙ ap (option_map (renamed_kind r)) (ap (λ all. slice_get (kept_of marks.objects kinds) (rank all o)) (sym (append-nil marks.objects))
    ∙ kind_at marks.objects [] kinds o same (ap (λ all. is_marked all o) (append-nil marks.objects) ∙ marked))))

module _ (is_same : (v w : Contents) → (same_value v w ≡ true) ↔ (v ≡ w))
    (graphs : (here there : Setting) (v w : Contents) → HaveSameGraph here there v w → graph_text here.script here.store v ≡ graph_text there.script there.store w)
    (script : ScriptTree) (capture : Capture) (path : List ℕ) (arguments : List (List ℕ)) (steps budget : ℕ) (keep : StmtSet) (at : Pos) (k : ℕ) (upto : List Moment) where
  abbrev AllKeyed : Type 0
  AllKeyed = (o : ℕ) → HaveEntries (store_after (opening_in capture path arguments) upto) o (order_of (store_after (opening_in capture path arguments) upto) o)

  pub value_reproduced : AllKeyed → IsWellFormed script → IsClosed script (opening_in capture path arguments) upto keep → (reaches : ReachesEvaluation script capture path arguments budget keep at k upto)
      → KnownStore (defines (deleted keep script)) (store_after (opening_in capture path arguments) reaches.simulates.again) → KnownLast (defines (deleted keep script)) reaches.simulates.again
      → (v : Contents) → answer_of upto ≡ Some (value v) → Reproduces script capture path arguments budget at k upto keep
  value_reproduced keyed well closed reaches knows last v answers = record {
    again = reaches.simulates.again;
    reached = reaches.found;
    same_value = value_text (deleted keep script) opening reaches.simulates.again (renamed near.by v) (answers_by near.by near.fits)
        ∙ (ap (λ (t : List ℕ). Some t) (sym same_text) ∙ sym (value_text script opening upto v answers));
    no_more = reaches.simulates.no_more;
  }
    where
      opening : RunStore
      opening = opening_in capture path arguments

      here : Setting
      here = record { script = script; store = store_after opening upto }

      there : Setting
      there = record { script = deleted keep script; store = store_after opening reaches.simulates.again }

      near : IsShifted (all_marks keep upto) 0
      near = shifts keep upto 0

      far : IsShifted (all_marks keep upto) 1
      far = shifts keep upto 1

      answers_by : (r : Renaming) → Fits (all_marks keep upto) r → answer_of reaches.simulates.again ≡ Some (value (renamed r v))
      answers_by r fits = reaches.answers r fits ∙ ap (option_map (renamed_answer r)) answers

      value_one : (x y : Contents) → Some (value x) ≡ Some (value y) → x ≡ y
      value_one x y is = cc

      kept_place : (l : SeenLocation) → IsIn (reachable (store_after opening upto) v) l → (s : ℕ) → IsIn (reach_stmts l upto) s → keep s ≡ true
      kept_place l place s there = closed.has_roots s (in_front (asked_by_value (store_after opening upto) upto) (module_jumps upto) s
          (value_asks (store_after opening upto) upto v answers l s place there))

      same_names : (is_class : Bool) (at : Pos) → defines (deleted keep script) at ≡ true → first_name is_class at (names_in script.body) ≡ first_name is_class at (names_in (deleted keep script).body)
      same_names is_class at known = names_kept keep script well is_class at known

      same_graph : HaveSameGraph (ended_in here) (ended_in there) v (renamed near.by v)
      same_graph = graphs_match is_same (all_marks keep upto) near far here there (traversed (store_after opening upto) v)
          (all_covered (store_after opening upto) v)
          (λ l place r fits. reaches.simulates.contents l (kept_place l place) r fits)
          (λ o marked. kind_there (all_marks keep upto) near.by near.fits (kinds_after (a_list ∷ []) upto) (kinds_after (a_list ∷ []) reaches.simulates.again) (counted keep upto) (reaches.simulates.kinds near.by near.fits) o marked)
          keyed (defines (deleted keep script)) knows (same_names false) (same_names true) v (all_met (store_after opening upto) v)
          (value_one (renamed near.by v) (renamed far.by v) (sym (answers_by near.by near.fits) ∙ answers_by far.by far.fits))
          (last_known (defines (deleted keep script)) reaches.simulates.again (renamed near.by v) (answers_by near.by near.fits) last)

      same_text : graph_text here.script here.store v ≡ graph_text there.script there.store (renamed near.by v)
      same_text = sym (text_ends here.script here.store v) ∙ (graphs (ended_in here) (ended_in there) v (renamed near.by v) same_graph ∙ text_ends there.script there.store (renamed near.by v))

  pub reproduced_at : ((after : List Moment) → told_by script capture path arguments steps ≡ after ++ upto → AllKeyed) → IsWellFormed script → IsClosed script (opening_in capture path arguments) upto keep
      → (reaches : ReachesEvaluation script capture path arguments budget keep at k upto)
      → KnownStore (defines (deleted keep script)) (store_after (opening_in capture path arguments) reaches.simulates.again) → KnownLast (defines (deleted keep script)) reaches.simulates.again
      → up_to_evaluation at k (told_by script capture path arguments steps) ≡ Some upto → Reproduces script capture path arguments budget at k upto keep
  reproduced_at keyed well closed reaches knows last is =
      let found : IsFound at k (told_by script capture path arguments steps) upto = found_is at k (told_by script capture path arguments steps) upto is in
      let answered = evaluated at found.moment found.before found.evaluates_here in
      value_reproduced (keyed found.after found.whole_is) well closed reaches knows last answered.0 (ap answer_of found.upto_is ∙ answered.1)
