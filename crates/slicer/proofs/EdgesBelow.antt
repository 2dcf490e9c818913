-- What moments make one statement ask of another, and what a value asks for, is among the statements of the script.
use Rattle.std.proofs.Common.{ℕ, zero, suc, ◌<◌, ◌&&◌, not, Bool, true, false, List, [], ◌∷◌, ◌++◌, inl, inr, Option, Some, None, sym, subst, if◌then◌else◌}
use Rattle.std.specs.Prelude.{⊤}
use Rattle.py_tree.specs.Binds.{form_binds, is_method}
use Rattle.py_tree.specs.Numbering.{IsNumbered}
use Rattle.py_tree.specs.Owners.{Standing, statements, number_at, form_in}
use Rattle.py_tree.specs.Tree.{ScriptTree}
use Rattle.py_value.specs.Seen.{SeenLocation, SeenAccess, var_at, len_at, item_at, entry_at, order_at, file_at, offset_at, closed_at, method_at, base_at, reads, sets, updates}
use Rattle.py_model.specs.Moment.{Moment, begins, does, enters, leaves, ends, normal_end, break_end, continue_end, return_end, raise_end}
use Rattle.py_model.specs.Occurrences.{Occurrence, Frame, in_occurrence, in_activation, without_top, frames_after, owner_stmt, reach}
use Rattle.py_model.specs.Plan.{value, raised, at_end}
use Rattle.py_model.specs.Store.{RunStore}
use Rattle.slice_edges.proofs.FrameLaws.{jump_is}
use Rattle.slice_law.specs.Closed.{IsIn, store_after, roots}
use Rattle.slice_law.specs.Edges.{Edge, Reason, edge, by_data, by_name, by_control, by_jump, to_each, from_option, in_function, first_binder, function_of_stmt, stmts_at, reaches_stmts, reachable, unset_local, reach_asks, read_asks, reads_ask, caller, is_abrupt, asks_for_jump, asks, run_asks, module_jumps, asked_by_value}
use Rattle.slicer.specs.Along.{AreBelow}
use Rattle.slicer.proofs.StandingBelow.{StandBelow, all_below}
use Rattle.slicer.proofs.ToldBelow.{TellsBelow, FramesBelow, OccursBelow, StmtBelow, earlier_below, without_below, frames_below, innermost_below, owner_below, option_below, both_below, reach_below, reaches_below}

module _ (script : ScriptTree) (numbered : IsNumbered script) where
  abbrev pub EdgesBelow : List Edge → Type 0
  EdgesBelow [] = ⊤
  EdgesBelow (e ∷ edges) = ((e.asker < script.count) × (e.asked < script.count)) × EdgesBelow edges

  pub edge_of : (edges : List Edge) (e : Edge) → EdgesBelow edges → IsIn edges e → (e.asker < script.count) × (e.asked < script.count)
  edge_of [] e all there = absurd there
  edge_of (first ∷ edges) e all (inl is) = subst (λ (f : Edge). (f.asker < script.count) × (f.asked < script.count)) is all.0
  edge_of (first ∷ edges) e all (inr there) = edge_of edges e all.1 there

  join : (xs ys : List Edge) → EdgesBelow xs → EdgesBelow ys → EdgesBelow (xs ++ ys)
  join [] ys first second = second
  join (x ∷ xs) ys first second = (first.0, join xs ys first.1 second)

  each_below : (reason : Reason) (s : ℕ) (numbers : List ℕ) → s < script.count → AreBelow script.count numbers → EdgesBelow (to_each reason s numbers)
  each_below reason s [] own all = tt
  each_below reason s (r ∷ numbers) own all = ((own, all.0), each_below reason s numbers own all.1)

  -- ---- names and reads

  binder_in : (f : Option ℕ) (name : List ℕ) (xs : List Standing) → StandBelow script.count xs → StmtBelow script.count (first_binder f name xs)
  binder_in f name [] all = tt
  binder_in f name (x ∷ xs) all = by (in_function f x && (not (is_method x) && form_binds (form_in x.stmt) name)) all.0.0 (binder_in f name xs all.1)
    where
      by : (t : Bool) → number_at x < script.count → StmtBelow script.count (first_binder f name xs) → StmtBelow script.count (if t then Some (number_at x) else first_binder f name xs)
      by true own rest = own
      by false own rest = rest

  binder_below : (s : ℕ) (name : List ℕ) → s < script.count → EdgesBelow (to_each by_name s (from_option (first_binder (function_of_stmt script s) name (statements script))))
  binder_below s name own =
      let found = first_binder (function_of_stmt script s) name (statements script) in
      each_below by_name s (from_option found) own
      (option_below script.count found (binder_in (function_of_stmt script s) name (statements script) (all_below script numbered)))

  unset_below : (s : ℕ) (l : SeenLocation) → s < script.count → EdgesBelow (unset_local script s l)
  unset_below s (var_at (suc scope) name) own = binder_below s name own
  unset_below s (var_at zero name) own = tt
  unset_below s (len_at o) own = tt
  unset_below s (item_at o i) own = tt
  unset_below s (entry_at o key) own = tt
  unset_below s (order_at o) own = tt
  unset_below s (file_at path) own = tt
  unset_below s (offset_at o) own = tt
  unset_below s (closed_at o) own = tt
  unset_below s (method_at at name) own = tt
  unset_below s (base_at at) own = tt

  times_below : (s : ℕ) (l : SeenLocation) (times : List ℕ) (before : List Moment) → s < script.count → AreBelow script.count (stmts_at times before) → EdgesBelow (reach_asks script s l times before)
  times_below s l [] before own all = unset_below s l own
  times_below s l (time ∷ times) before own all = each_below by_data s (stmts_at (time ∷ times) before) own all

  module _ (before : List Moment) (below : TellsBelow script.count before) where
    reads_below : (s : ℕ) (accesses : List SeenAccess) → s < script.count → EdgesBelow (reads_ask script s accesses before)
    reads_below s [] own = tt
    reads_below s (reads l ∷ accesses) own =
        join (read_asks script s l before) (reads_ask script s accesses before) (times_below s l (reach l before) before own (reach_below script.count l before below)) (reads_below s accesses own)
    reads_below s (sets l content ∷ accesses) own = reads_below s accesses own
    reads_below s (updates l change ∷ accesses) own = reads_below s accesses own

    -- ---- one moment

    of_owner : (accesses : List SeenAccess) (owner : Option ℕ) → StmtBelow script.count owner → EdgesBelow (elim owner [ None ↦ [] | Some s ↦ reads_ask script s accesses before ])
    of_owner accesses None own = tt
    of_owner accesses (Some s) own = reads_below s accesses own

    caller_below : (frames : List Frame) → FramesBelow script.count frames → OccursBelow script.count (caller script frames)
    caller_below [] all = tt
    caller_below (in_occurrence o ∷ frames) all = caller_below frames all.1
    caller_below (in_activation time ∷ frames) all = innermost_below script.count frames all

    of_caller : (number : ℕ) → number < script.count → (o : Option Occurrence) → OccursBelow script.count o → EdgesBelow (elim o [ None ↦ [] | Some o ↦ edge by_control number o.stmt ∷ [] ])
    of_caller number own None all = tt
    of_caller number own (Some o) all = ((own, all), tt)

    of_jump : (number : ℕ) → number < script.count → (o : Option Occurrence) → OccursBelow script.count o → EdgesBelow (elim o [ None ↦ [] | Some o ↦ edge by_jump o.stmt number ∷ [] ])
    of_jump number own None all = tt
    of_jump number own (Some o) all = ((all, own), tt)

    of_end : (number : ℕ) → number < script.count → (abrupt : Bool) → EdgesBelow (if abrupt then elim (asks_for_jump script (without_top (frames_after before))) [ None ↦ [] | Some o ↦ edge by_jump o.stmt number ∷ [] ] else [])
    of_end number own true =
        let frames = without_top (frames_after before) in
        of_jump number own (asks_for_jump script frames)
        (subst (OccursBelow script.count) (sym (jump_is script frames)) (innermost_below script.count frames (without_below script.count (frames_after before) (frames_below script.count before below))))
    of_end number own false = tt

  asks_below : (moment : Moment) (before : List Moment) → TellsBelow script.count (moment ∷ before) → EdgesBelow (asks script moment before)
  asks_below (does at number values answer made accesses weight) before below = of_owner before below accesses (owner_stmt before) (owner_below script.count before below)
  asks_below (enters at def values accesses) before below = of_owner before below accesses (owner_stmt before) (owner_below script.count before below)
  asks_below (begins number) before below =
      of_caller before below.1 number below.0 (caller script (frames_after before)) (caller_below before below.1 (frames_after before) (frames_below script.count before below.1))
  asks_below (ends number ended) before below = of_end before below.1 number below.0 (is_abrupt script ended)
  asks_below (leaves v) before below = tt

  pub run_below : (told : List Moment) → TellsBelow script.count told → EdgesBelow (run_asks script told)
  run_below [] below = tt
  run_below (moment ∷ before) below = join (asks script moment before) (run_asks script before) (asks_below moment before below) (run_below before (earlier_below script.count moment before below))

-- ---- what the value asks for, and jumps in the module

module _ (b : ℕ) where
  value_below : (store : RunStore) (told : List Moment) → TellsBelow b told → AreBelow b (asked_by_value store told)
  value_below store (does at number values (value v) made accesses weight ∷ before) below =
      let told : List Moment = does at number values (value v) made accesses weight ∷ before in
      both_below b (from_option (owner_stmt before)) (reaches_stmts (reachable store v) told) (option_below b (owner_stmt before) (owner_below b before below)) (reaches_below b (reachable store v) told below)
  value_below store (does at number values (raised o) made accesses weight ∷ before) below = tt
  value_below store (does at number values at_end made accesses weight ∷ before) below = tt
  value_below store [] below = tt
  value_below store (begins number ∷ before) below = tt
  value_below store (enters at def values accesses ∷ before) below = tt
  value_below store (leaves v ∷ before) below = tt
  value_below store (ends number ended ∷ before) below = tt

  of_frames : (number : ℕ) (before : List Moment) (frames : List Frame) → number < b → AreBelow b (module_jumps before)
      → AreBelow b (elim frames [ [] ↦ number ∷ module_jumps before | frame ∷ more ↦ module_jumps before ])
  of_frames number before [] own rest = (own, rest)
  of_frames number before (frame ∷ frames) own rest = rest

  jumps_below : (told : List Moment) → TellsBelow b told → AreBelow b (module_jumps told)
  jumps_below [] below = tt
  jumps_below (begins number ∷ before) below = jumps_below before below.1
  jumps_below (does at number values answer made accesses weight ∷ before) below = jumps_below before below
  jumps_below (enters at def values accesses ∷ before) below = jumps_below before below
  jumps_below (leaves v ∷ before) below = jumps_below before below
  jumps_below (ends number normal_end ∷ before) below = jumps_below before below.1
  jumps_below (ends number break_end ∷ before) below = of_frames number before (without_top (frames_after before)) below.0 (jumps_below before below.1)
  jumps_below (ends number continue_end ∷ before) below = of_frames number before (without_top (frames_after before)) below.0 (jumps_below before below.1)
  jumps_below (ends number return_end ∷ before) below = of_frames number before (without_top (frames_after before)) below.0 (jumps_below before below.1)
  jumps_below (ends number raise_end ∷ before) below = of_frames number before (without_top (frames_after before)) below.0 (jumps_below before below.1)

  pub roots_below : (opening : RunStore) (told : List Moment) → TellsBelow b told → AreBelow b (roots opening told)
  roots_below opening told below = both_below b (asked_by_value (store_after opening told) told) (module_jumps told) (value_below (store_after opening told) told below) (jumps_below told below)
