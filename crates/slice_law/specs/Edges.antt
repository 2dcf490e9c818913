-- Which statement asks for which, in the moments of a run, the latest first (Korel and Laski 1988, with objects, calls, jumps and names
-- as in this project's profile). Each is seen at one moment.
use Rattle.std.specs.Prelude.{ℕ, zero, suc, ◌==◌, ◌&&◌, not, Bool, true, false, List, [], ◌∷◌, ◌++◌, length, slice_get, Option, Some, None, if◌then◌else◌}
use Rattle.std.specs.Option.{option_and_then}
use Rattle.std.specs.List.{list_any}
use Rattle.py_tree.specs.Binds.{form_binds, is_method}
use Rattle.py_tree.specs.Owners.{Standing, statements, number_at, form_in, standing_at}
use Rattle.py_tree.specs.Tree.{ScriptTree, number_of}
use Rattle.py_value.specs.Contents.{Contents, Parts, tuple, object, no_parts, part}
use Rattle.py_value.specs.KeyOf.{normal}
use Rattle.py_value.specs.Seen.{SeenLocation, SeenAccess, SeenKind, a_list, a_dict, an_instance, a_file, var_at, len_at, item_at, entry_at, order_at, offset_at, closed_at, reads}
use Rattle.py_model.specs.Moment.{Moment, begins, does, enters, ends, Ending, normal_end}
use Rattle.py_model.specs.Occurrences.{Occurrence, Frame, in_occurrence, in_activation, frames_after, without_top, innermost, owner_stmt, block_parent, activation_parent, reach}
use Rattle.py_model.specs.Plan.{value}
use Rattle.py_model.specs.Store.{RunStore, len_of, item_of, entry_of, order_of}

-- why one statement asks for another
pub data Reason : Type 0 where
  by_data : Reason
  by_name : Reason
  by_control : Reason
  by_jump : Reason

-- one statement asks for another
pub record Edge : Type 0 where
  pub asker : ℕ
  pub asked : ℕ
  pub reason : Reason

abbrev pub edge : Reason → ℕ → ℕ → Edge
edge reason s r = record { asker = s; asked = r; reason = reason }

abbrev pub to_each : Reason → ℕ → List ℕ → List Edge
to_each reason s [] = []
to_each reason s (r ∷ rs) = edge reason s r ∷ to_each reason s rs

abbrev pub from_option : Option ℕ → List ℕ
from_option None = []
from_option (Some s) = s ∷ []

-- the statement of the moment at a time, and those of times
abbrev pub stmt_at : ℕ → List Moment → Option ℕ
stmt_at time [] = None
stmt_at time (moment ∷ before) = if length before == time then owner_stmt before else stmt_at time before

abbrev pub stmts_at : List ℕ → List Moment → List ℕ
stmts_at [] told = []
stmts_at (time ∷ times) told = from_option (stmt_at time told) ++ stmts_at times told

-- the statements of the reach of a location
abbrev pub reach_stmts : SeenLocation → List Moment → List ℕ
reach_stmts l told = stmts_at (reach l told) told

-- the first statement of the function of a statement that binds a name
abbrev pub in_function : Option ℕ → Standing → Bool
in_function None x = false
in_function (Some f) x = elim x.around.function [ None ↦ false | Some g ↦ f == g ]

abbrev pub first_binder : Option ℕ → List ℕ → List Standing → Option ℕ
first_binder f name [] = None
first_binder f name (x ∷ xs) = if in_function f x && (not (is_method x) && form_binds (form_in x.stmt) name) then Some (number_at x) else first_binder f name xs

module _ (script : ScriptTree) where
  abbrev pub function_of_stmt : ℕ → Option ℕ
  function_of_stmt s = option_and_then (λ (x : Standing). x.around.function) (standing_at script s)

  -- A read of a local name that nothing set asks for the first statement that binds it.
  abbrev pub unset_local : ℕ → SeenLocation → List Edge
  unset_local s (var_at (suc scope) name) = to_each by_name s (from_option (first_binder (function_of_stmt s) name (statements script)))
  unset_local s l = []

  -- A read asks for the statements of a reach that is not empty, also where none of its moments has a statement.
  abbrev pub reach_asks : ℕ → SeenLocation → List ℕ → List Moment → List Edge
  reach_asks s l [] before = unset_local s l
  reach_asks s l (time ∷ times) before = to_each by_data s (stmts_at (time ∷ times) before)

  abbrev pub read_asks : ℕ → SeenLocation → List Moment → List Edge
  read_asks s l before = reach_asks s l (reach l before) before

  abbrev pub reads_ask : ℕ → List SeenAccess → List Moment → List Edge
  reads_ask s [] before = []
  reads_ask s (reads l ∷ accesses) before = read_asks s l before ++ reads_ask s accesses before
  reads_ask s (access ∷ accesses) before = reads_ask s accesses before

  -- the statement that entered the innermost activation
  abbrev pub caller : List Frame → Option Occurrence
  caller [] = None
  caller (in_occurrence o ∷ frames) = caller frames
  caller (in_activation time ∷ frames) = innermost frames

  abbrev pub is_abrupt : Ending → Bool
  is_abrupt normal_end = false
  is_abrupt other = true

  -- the occurrence whose block child or activation child ends: the one around it, or the one that entered the activation around it
  abbrev pub asks_for_jump : List Frame → Option Occurrence
  asks_for_jump frames = elim (block_parent frames) [ None ↦ activation_parent frames | Some o ↦ Some o ]

  -- what one moment asks for: data and names at what is done and at what is entered, the call at a Begin, a jump at an End
  abbrev pub asks : Moment → List Moment → List Edge
  asks (does at number values answer made accesses weight) before = elim (owner_stmt before) [ None ↦ [] | Some s ↦ reads_ask s accesses before ]
  asks (enters at def values accesses) before = elim (owner_stmt before) [ None ↦ [] | Some s ↦ reads_ask s accesses before ]
  asks (begins number) before = elim (caller (frames_after before)) [ None ↦ [] | Some o ↦ edge by_control number o.stmt ∷ [] ]
  asks (ends number ended) before =
      if is_abrupt ended then elim (asks_for_jump (without_top (frames_after before))) [ None ↦ [] | Some o ↦ edge by_jump o.stmt number ∷ [] ] else []
  asks moment before = []

  abbrev pub run_asks : List Moment → List Edge
  run_asks [] = []
  run_asks (moment ∷ before) = asks moment before ++ run_asks before

  -- with each statement its parent
  abbrev pub parents_asked : List Standing → List Edge
  parents_asked [] = []
  parents_asked (x ∷ xs) = elim x.around.owner [ None ↦ parents_asked xs | Some owner ↦ edge by_control (number_at x) (number_of owner) ∷ parents_asked xs ]

  abbrev pub edges : List Moment → List Edge
  edges told = parents_asked (statements script) ++ run_asks told

-- what ended by a jump directly in the module is asked for
abbrev pub module_jumps : List Moment → List ℕ
module_jumps [] = []
module_jumps (ends number normal_end ∷ before) = module_jumps before
module_jumps (ends number ended ∷ before) = elim (without_top (frames_after before)) [ [] ↦ number ∷ module_jumps before | frame ∷ frames ↦ module_jumps before ]
module_jumps (moment ∷ before) = module_jumps before

-- The locations that are reachable from a value: the lengths and items of lists, the orders and entries of dictionaries and instances, the
-- offset and closing of files, and so on through items, keys, entries and tuples. Where nothing was set a location is among them too, as that of
-- the first missing item: it has no reach, so nothing is asked for by it.
abbrev pub has_object : ℕ → List ℕ → Bool
has_object o seen = list_any (λ p. p == o) seen

pub record Reachable : Type 0 where
  pub places : List SeenLocation
  pub objects : List ℕ

abbrev pub with_places : List SeenLocation → Reachable → Reachable
with_places more r = record r { places = r.places ++ more }

module _ (store : RunStore) where
  module _ (from_object : ℕ → Reachable → Reachable) where
    abbrev mutual
      pub from_value : Contents → Reachable → Reachable
      from_value (tuple parts) r = from_parts parts r
      from_value (object o) r = from_object o r
      from_value other r = r

      pub from_parts : Parts → Reachable → Reachable
      from_parts no_parts r = r
      from_parts (part first rest) r = from_parts rest (from_value first r)

    -- a list ends at its first missing item: the walk reaches that place too, and goes no further
    abbrev pub from_items : ℕ → ℕ → ℕ → Reachable → Reachable
    from_items zero o i r = r
    from_items (suc n) o i r = elim (item_of store o i) [
      | None ↦ with_places (item_at o i ∷ []) r
      | Some v ↦ from_items n o (suc i) (from_value v (with_places (item_at o i ∷ []) r))
    ]

    -- a key without an entry is passed over
    abbrev pub from_entries : ℕ → List Contents → Reachable → Reachable
    from_entries o [] r = r
    from_entries o (key ∷ keys) r = elim (entry_of store o key) [
      | None ↦ from_entries o keys r
      | Some entry ↦ from_entries o keys (from_value entry.1 (from_value key (with_places (entry_at o (normal key) ∷ []) r)))
    ]

    abbrev pub from_content : ℕ → Option SeenKind → Reachable → Reachable
    from_content o None r = r
    from_content o (Some a_list) r = from_items (len_of store o) o 0 (with_places (len_at o ∷ []) r)
    from_content o (Some a_dict) r = from_entries o (order_of store o) (with_places (order_at o ∷ []) r)
    from_content o (Some (an_instance of)) r = from_entries o (order_of store o) (with_places (order_at o ∷ []) r)
    from_content o (Some (a_file path mode)) r = with_places (offset_at o ∷ closed_at o ∷ []) r

  abbrev pub from_object_to : ℕ → ℕ → Reachable → Reachable
  from_object_to zero o r = r
  from_object_to (suc n) o r =
      if has_object o r.objects then r else from_content (from_object_to n) o (slice_get store.kinds o) (record r { objects = o ∷ r.objects })

  abbrev pub reachable : Contents → List SeenLocation
  reachable v = (from_value (from_object_to (suc (length store.kinds))) v (record { places = []; objects = [] })).places

abbrev pub reaches_stmts : List SeenLocation → List Moment → List ℕ
reaches_stmts [] told = []
reaches_stmts (l ∷ ls) told = reach_stmts l told ++ reaches_stmts ls told

-- What an evaluation asks for, which is the last of the moments: its statement, and the reach, just after it, of all that is reachable from
-- its value in the store there.
abbrev pub asked_by_value : RunStore → List Moment → List ℕ
asked_by_value store (does at number values (value v) made accesses weight ∷ before) =
    from_option (owner_stmt before) ++ reaches_stmts (reachable store v) (does at number values (value v) made accesses weight ∷ before)
asked_by_value store told = []
