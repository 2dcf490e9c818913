-- Which statement of a script depends on which in a run, and why (Korel and Laski 1988, and this project's profile).
use Rattle.std.specs.Prelude.{◌≡◌, ℕ, List, Some}
use Rattle.std.specs.List.Sorted.{IsStrictlySortedBy}
use Rattle.std.specs.Ordering.{nat_cmp, on, then_cmp}
use Rattle.std.specs.declared.cmp.Ordering.{Ordering}
use Rattle.prov_base.specs.declared.place.Pos.{Pos}
use Rattle.py_tree.specs.Placed.{place_at}
use Rattle.py_tree.specs.Tree.{ScriptTree}
use Rattle.py_model.specs.Moment.{Moment}
use Rattle.slice_law.specs.Closed.{IsIn}
use Rattle.slice_law.specs.Edges.{Edge, Reason, by_data, by_name, by_control, by_jump, edges}
use Rattle.dep_query.specs.declared.dependence.Dependence.{Dependence}
use Rattle.dep_query.specs.declared.dependence.Kind.{Kind}
use Rattle.dep_query.specs.declared.dependence.Kind.TheVariants.{Data, Control, Jump, Name}

abbrev pub kind_by : Reason → Kind
kind_by by_data = Data
kind_by by_control = Control
kind_by by_jump = Jump
kind_by by_name = Name

-- ---- the order

-- places by line, and on one line by column
abbrev pub place_cmp : Pos → Pos → Ordering
place_cmp = then_cmp (on (λ (p : Pos). p.line) nat_cmp) (on (λ (p : Pos). p.col) nat_cmp)

abbrev pub rank : Kind → ℕ
rank Data = 0
rank Control = 1
rank Jump = 2
rank Name = 3

-- by the place of the statement that depends, by the place of the other one, and by the kind
abbrev pub dependence_cmp : Dependence → Dependence → Ordering
dependence_cmp = then_cmp (on (λ (d : Dependence). d.asker) place_cmp) (then_cmp (on (λ (d : Dependence). d.asked) place_cmp) (on (λ (d : Dependence). rank d.kind) nat_cmp))

-- ---- the dependences of a run

-- an edge of the run, or of a statement to its parent, with the places of both statements
pub record IsDependence (script : ScriptTree) (told : List Moment) (d : Dependence) : Type 0 where
  pub edge : Edge
  pub there : IsIn (edges script told) edge
  pub asker : place_at script edge.asker ≡ Some d.asker
  pub asked : place_at script edge.asked ≡ Some d.asked
  pub kind : d.kind ≡ kind_by edge.reason

-- All of them, each once and in order.
pub record AreDependences (script : ScriptTree) (told : List Moment) (list : List Dependence) : Type 0 where
  pub in_order : IsStrictlySortedBy dependence_cmp list
  pub each : (d : Dependence) → IsIn list d → IsDependence script told d
  pub only : (d : Dependence) → IsDependence script told d → IsIn list d
