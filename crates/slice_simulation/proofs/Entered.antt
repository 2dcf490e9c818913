-- As which function an activation was entered, and how many were.
use Rattle.std.proofs.Common.{◌≡◌, suc, if◌then◌else◌, List, [], ◌∷◌, length, Some, refl, ap, ◌∙◌, eq-eqb}
use Rattle.prov_base.specs.declared.place.Pos.{Pos}
use Rattle.py_value.specs.Contents.{Contents}
use Rattle.py_value.specs.Seen.{SeenAccess}
use Rattle.py_model.specs.History.{entered_by}
use Rattle.py_model.specs.Moment.{Moment, begins, does, enters, leaves, ends}
use Rattle.py_model.specs.Occurrences.{owner_stmt}
use Rattle.slice_law.specs.Closed.{StmtSet}
use Rattle.slice_simulation.proofs.BoundReads.{def_of}
use Rattle.slice_simulation.proofs.Marks.{one_longer}
use Rattle.slice_simulation.specs.Renaming.{is_kept, activations_after}

pub entered_now : (at def : Pos) (values : List Contents) (accesses : List SeenAccess) (before : List Moment) → def_of (suc (entered_by before)) (enters at def values accesses ∷ before) ≡ Some def
entered_now at def values accesses before = ap (λ test. if test then Some def else def_of (suc (entered_by before)) before) (eq-eqb (suc (entered_by before)) (suc (entered_by before)) refl)

pub entered_count : (keep : StmtSet) (told : List Moment) → length (activations_after keep told) ≡ suc (entered_by told)
entered_count keep [] = refl
entered_count keep (enters at def values accesses ∷ before) = one_longer (activations_after keep before) (is_kept keep (owner_stmt before)) ∙ ap suc (entered_count keep before)
entered_count keep (does at number values answer made accesses weight ∷ before) = entered_count keep before
entered_count keep (begins n ∷ before) = entered_count keep before
entered_count keep (leaves v ∷ before) = entered_count keep before
entered_count keep (ends n ended ∷ before) = entered_count keep before
