-- A row goes on behind the others, or may not stand there.
use Rattle.std.proofs.Common.{◌≡◌, ℕ, Bool, true, false, ◌&&◌, List, Result, Ok, Err, IfOk, refl, sym, ap, subst, ◌∙◌}
use Rattle.prov_base.specs.declared.refusal.Memory.{Memory}
use Rattle.py_value.specs.declared.value.Value.{Value}
use Rattle.trace_rows.specs.declared.row.Row.{Row}
use Rattle.row_checks.specs.declared.counts.Counts.{Counts}
use Rattle.row_checks.specs.declared.nesting.Open.{Open}
use Rattle.row_checks.specs.declared.seen.Seen.{Seen}
use Rattle.row_checks.specs.Going.{IsReady, Puts, Goes, earlier_of, put_behind, passed}
use Rattle.row_checks.specs.Heights.{is_low}
use Rattle.row_checks.specs.Keys.{is_key}
use Rattle.row_checks.specs.KeptRows.{Earlier, MayStand, IsNew}
use Rattle.row_checks.specs.Nesting.{closes}
use Rattle.row_checks.specs.RowTests.{names_row, has_keys, with_own}
use Rattle.row_checks.proofs.HeightLaws.{low_is_key}

-- ---- the four tests

all_false : (a b c : Bool) → (a && (b && c)) ≡ false → a ≡ true → b ≡ true → c ≡ true → ⊥
all_false true true true is x y z = cc
all_false false b c is x y z = cc
all_false true false c is x y z = cc
all_false true true false is x y z = cc

first_true : (a b : Bool) → (a && b) ≡ true → a ≡ true
first_true true b is = refl
first_true false b is = absurd (cc)

second_true : (a b : Bool) → (a && b) ≡ true → b ≡ true
second_true true b is = is
second_true false b is = absurd (cc)

abbrev tests : Seen → Row → Bool
tests old row = names_row (with_own row old.counts) row && (has_keys (is_low old.heights.items) row && closes old.open_ones.items row)

module _ (old : Seen) (row : Row) (ready : IsReady old) where
  same_keys : has_keys (is_low old.heights.items) row ≡ has_keys (is_key old.values.tuples) row
  same_keys = ap (λ test. has_keys test row) (low_is_key old.values.tuples old.heights.items ready.heights_are)

  pub may_not : tests old row ≡ false → MayStand (earlier_of old) row → ⊥
  may_not is may =
      all_false (names_row (with_own row old.counts) row) (has_keys (is_low old.heights.items) row) (closes old.open_ones.items row) is may.names (same_keys ∙ may.keys) may.nests

  may : tests old row ≡ true → IsNew old.values row → MayStand (earlier_of old) row
  may is new =
      let names = names_row (with_own row old.counts) row in
      let keys = has_keys (is_low old.heights.items) row in
      let nests = closes old.open_ones.items row in
      record {
        is_new = new;
        names = first_true names (keys && nests) is;
        keys = sym same_keys ∙ first_true keys nests (second_true names (keys && nests) is);
        nests = second_true keys nests (second_true names (keys && nests) is);
      }

  pub goes_then : (mid new : Seen) → earlier_of mid ≡ passed row (earlier_of old) → tests old row ≡ true → (result : Result Bool Memory) → IfOk result (Puts mid row new)
      → IfOk result (Goes old row new)
  goes_then mid new is passes (Ok true) (is_new, put, still) =
      (may passes (subst (λ (e : Earlier). IsNew (record { texts = e.texts; tuples = e.tuples }) row) is is_new), put ∙ ap (put_behind row) is, still)
  goes_then mid new is passes (Ok false) was =
      λ stands. was (subst (λ (e : Earlier). IsNew (record { texts = e.texts; tuples = e.tuples }) row) (sym is) stands.is_new)
  goes_then mid new is passes (Err memory) none = none

pub same_earlier : (texts : List (List ℕ)) (tuples : List (List Value)) {c d : Counts} {x y : List Open} → c ≡ d → x ≡ y
    → ◌≡◌ {A = Earlier} (record { texts = texts; tuples = tuples; counts = c; open_ones = x }) (record { texts = texts; tuples = tuples; counts = d; open_ones = y })
same_earlier texts tuples first second = cc
