-- The rows that a recorder keeps are those of the moments that it was told.
use Rattle.std.proofs.Common.{◌≡◌, refl, ℕ, Bool, true, false, not, List, reverse, sym, ap, subst, ◌∙◌}
use Rattle.std.proofs.lemmas.List.{reverse-reverse}
use Rattle.py_value.specs.Values.{AreInterned}
use Rattle.trace_rows.specs.declared.row.Row.{Row}
use Rattle.recorder.specs.MomentRows.{all_told, rows as rows_of}
use Rattle.recorder.specs.Naming.{Naming}
use Rattle.recorder.specs.Recorded.{Records, IsRecorded, moments_of}
use Rattle.recorder.specs.Telling.{view_of}

pub kept : (self inside : Records) (items : List Row) → inside ≡ self → (all_told (moments_of inside)).rows ≡ reverse items → items ≡ rows_of (reverse (moments_of self))
kept self inside items same all =
    sym (ap (λ moments. reverse (all_told moments).rows) (reverse-reverse (moments_of self)) ∙ ap (λ r. reverse (all_told (moments_of r)).rows) (sym same) ∙ ap reverse all ∙ reverse-reverse items)

is_true : (b : Bool) → not b ≡ false → b ≡ true
is_true true is = refl
is_true false is = cc

-- while it is whole, their texts and tuples are interned
pub interned : (rows : List Row) (ended : List ℕ) (whole : Bool) (naming : Naming) → IsRecorded rows ended whole naming → not whole ≡ false → AreInterned (view_of rows)
interned rows ended whole naming recorded is = subst (λ (n : Naming). AreInterned n.view) (recorded.known (is_true whole is)) (recorded.interned (is_true whole is))
