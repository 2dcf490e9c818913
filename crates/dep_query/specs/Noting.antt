-- No public clause cites this file.
-- Dependences that were found so far. It is the proof's means.
use Rattle.std.specs.Prelude.{ℕ, zero, suc, ◌||◌, Bool, false, List, slice_get, Option, Some, None}
use Rattle.std.specs.List.{list_any}
use Rattle.std.specs.Ordering.{is_eq}
use Rattle.prov_base.specs.declared.place.Pos.{Pos}
use Rattle.dep_query.specs.declared.dependence.Kind.{Kind}
use Rattle.py_tree.specs.Owners.{parent_of}
use Rattle.py_tree.specs.Tree.{ScriptTree}
use Rattle.slice_edges.specs.declared.ask.Ask.{Ask}
use Rattle.slice_edges.specs.Asks.{reason_of}
use Rattle.dep_query.specs.declared.dependence.Dependence.{Dependence}
use Rattle.dep_query.specs.declared.dependence.Kind.TheVariants.{Control}
use Rattle.dep_query.specs.Dependences.{dependence_cmp, kind_by}

-- it is one of these
abbrev pub is_found : List Dependence → Dependence → Bool
is_found keys d = list_any (λ k. is_eq (dependence_cmp d k)) keys

-- it is the one between two places, if both are there
abbrev pub is_between : Kind → Option Pos → Option Pos → Dependence → Bool
is_between kind None asked d = false
is_between kind (Some asker) None d = false
is_between kind (Some asker) (Some asked) d = is_eq (dependence_cmp (record { asker = asker; asked = asked; kind = kind }) d)

-- it is the one that is told of two statements, if both have places
abbrev pub is_told : List Pos → Kind → ℕ → ℕ → Dependence → Bool
is_told places kind asker asked d = is_between kind (slice_get places asker) (slice_get places asked) d

abbrev pub some_told : List Pos → List Ask → Dependence → Bool
some_told places asks d = list_any (λ (a : Ask). is_told places (kind_by (reason_of a.why)) a.asker a.asked d) asks

-- the one of a statement and its parent, if it has one; and of one of the statements below a number
abbrev pub is_parent_told : List Pos → ℕ → Option ℕ → Dependence → Bool
is_parent_told places s None d = false
is_parent_told places s (Some parent) d = is_told places Control s parent d

abbrev pub some_parent : List Pos → ScriptTree → ℕ → Dependence → Bool
some_parent places script zero d = false
some_parent places script (suc s) d = is_parent_told places s (parent_of script s) d || some_parent places script s d
