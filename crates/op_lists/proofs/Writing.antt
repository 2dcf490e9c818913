-- Writes that a loop does, one after the other.
use Rattle.std.proofs.Common.{◌≡◌, ◌∙◌, refl, sym, subst, ap, arith, ℕ, zero, suc, ◌+◌, ◌<◌, ◌≤◌, length, List, [], ◌∷◌, map, drop, get_or, Some, slice_get, Ok, Err}
use Rattle.py_model.specs.Effect.{written}
use Rattle.py_model.specs.Making.{set_items}
use Rattle.py_model.specs.Plan.{Writes, write}
use Rattle.py_model.specs.Store.{RunStore}
use Rattle.py_value.specs.Contents.{contents}
use Rattle.py_value.specs.Seen.{item_at, item_is}
use Rattle.py_value.specs.Values.{ValuesView, IsNamed, AreNamed}
use Rattle.py_value.specs.declared.value.Value.{Value}
use Rattle.py_value.specs.declared.value.Value.TheVariants.{None as NoneValue}
use Rattle.op_lists.proofs.NamedValues.{named_stays}
use Rattle.op_work.specs.declared.stop.Stop.{Stop}
use Rattle.op_work.specs.declared.stop.Stop.TheVariants.{Raises, TooDear, Memory}
use Rattle.op_work.specs.Work.{WorkView, Extends, IsSeen, IsKept, Goes, Wrote, WroteTo, seen_kind}
use Rattle.op_work.proofs.Going.{extends_then, extends_same, goes_then, dear_then, kept_then, stays}

-- all writes have become those that are left
pub record Writing (all rest : ValuesView → Writes → Writes) (old new : WorkView) : Type 0 where
  pub kept : IsKept old new
  pub came : (table : ValuesView) (store : RunStore) → Extends new.values table → IsSeen table old.store store → (end : Writes)
      → Goes table old new (λ answers. written store (seen_kind table old.made) (all table end)) (λ answers. written store (seen_kind table new.made) (rest table end))

pub writing_none : (all : ValuesView → Writes → Writes) (w : WorkView) → Writing all all w w
writing_none all w = record {
  kept = record { store_is = refl; made_is = refl; left_is = refl; extends = extends_same w.values };
  came = λ table store extends seen end. stays table w (λ answers. written store (seen_kind table w.made) (all table end));
}

-- what is left is the same as other writes
pub writing_same : {all rest other : ValuesView → Writes → Writes} {a b : WorkView} → Writing all rest a b
    → ((table : ValuesView) (end : Writes) → rest table end ≡ other table end) → Writing all other a b
writing_same {all} {a = a} {b = b} one same = record {
  kept = one.kept;
  came = λ table store extends seen end. subst (λ w. Goes table a b (λ answers. written store (seen_kind table a.made) (all table end)) (λ answers. written store (seen_kind table b.made) w))
      (same table end) (one.came table store extends seen end);
}

-- one write more
pub writing_more : {all first : ValuesView → Writes → Writes} (rest : ValuesView → Writes → Writes) {a b c : WorkView}
    → Writing all (λ table end. first table (rest table end)) a b → Wrote first b c (Ok tt) → Writing all rest a c
writing_more rest one other = record {
  kept = kept_then one.kept other.kept;
  came = λ table store extends seen end. goes_then (one.came table store (extends_then other.kept.extends extends) seen end)
      (other.came table store extends (subst (λ held. IsSeen table held store) (sym one.kept.store_is) seen) (rest table end));
}

-- one write stopped, and so did all
pub writing_stop : {all first : ValuesView → Writes → Writes} (rest : ValuesView → Writes → Writes) {a b c : WorkView} {stop : Stop}
    → Writing all (λ table end. first table (rest table end)) a b → Wrote first b c (Err stop) → Wrote all a c (Err stop)
writing_stop {all} {first} rest {a} {b} {c} {stop} one other = record {
  kept = kept_then one.kept other.kept;
  is_named = other.is_named;
  came = λ table store extends seen. by_stop table store stop (one.came table store (extends_then other.kept.extends extends) seen)
      (other.came table store extends (subst (λ held. IsSeen table held store) (sym one.kept.store_is) seen));
}
  where
    by_stop : (table : ValuesView) (store : RunStore) (stop : Stop)
        → ((end : Writes) → Goes table a b (λ answers. written store (seen_kind table a.made) (all table end)) (λ answers. written store (seen_kind table b.made) (first table (rest table end))))
        → WroteTo first table store b c (Err stop) → WroteTo all table store a c (Err stop)
    by_stop table store (Raises class argument) before came = came
    by_stop table store TooDear before came = λ end. dear_then one.kept.left_is (before end) (came (rest table end))
    by_stop table store Memory before came = tt

-- nothing is left
pub writing_done : {all : ValuesView → Writes → Writes} {a b : WorkView} → Writing all (λ table end. end) a b → Wrote all a b (Ok tt)
writing_done one = record { kept = one.kept; is_named = tt; came = one.came }

-- ---- items that are set in a loop

-- the item at a place is named, also with more texts and tuples
pub item_named : (old new : ValuesView) → (length old.texts ≤ length new.texts) × (length old.tuples ≤ length new.tuples) → (xs : List Value) → AreNamed old xs
    → (i : ℕ) → i < length xs → IsNamed new (get_or xs i NoneValue)
item_named old new few xs named i less = named_stays old new few (get_or xs i NoneValue) (named i (get_or xs i NoneValue) (there xs i less))
  where
    there : (xs : List Value) (i : ℕ) → i < length xs → slice_get xs i ≡ Some (get_or xs i NoneValue)
    there [] i less = absurd (omega (arith, less))
    there (y ∷ ys) zero less = refl
    there (y ∷ ys) (suc i) less = there ys i (omega (arith, less))

pub drop_next : (xs : List Value) (i : ℕ) → i < length xs → drop i xs ≡ get_or xs i NoneValue ∷ drop (i + 1) xs
drop_next xs i less = by_suc xs i less ∙ ap (λ k. get_or xs i NoneValue ∷ drop k xs) (one i)
  where
    one : (i : ℕ) → suc i ≡ i + 1
    one i = omega (arith)

    by_suc : (xs : List Value) (i : ℕ) → i < length xs → drop i xs ≡ get_or xs i NoneValue ∷ drop (suc i) xs
    by_suc [] i less = absurd (omega (arith, less))
    by_suc (y ∷ ys) zero less = refl
    by_suc (y ∷ ys) (suc i) less = by_suc ys i (omega (arith, less))

pub drop_all : (xs : List Value) (i : ℕ) → length xs ≤ i → drop i xs ≡ []
drop_all [] zero past = refl
drop_all [] (suc i) past = refl
drop_all (x ∷ xs) zero past = absurd (omega (arith, past))
drop_all (x ∷ xs) (suc i) past = drop_all xs i (omega (arith, past))

-- what is left to be set behind so many
abbrev pub left : ℕ → ℕ → List Value → ℕ → ValuesView → Writes → Writes
left o at items i table = set_items o at (map (contents table) (drop i items))

pub left_is : (o at : ℕ) (items : List Value) (i : ℕ) → i < length items → (table : ValuesView) (end : Writes)
    → left o at items i table end ≡ write (item_at o at) (item_is (contents table (get_or items i NoneValue))) (left o (at + 1) items (i + 1) table end)
left_is o at items i less table end = ap (λ vs. set_items o at (map (contents table) vs) end) (drop_next items i less)
    ∙ ap (λ k. write (item_at o at) (item_is (contents table (get_or items i NoneValue))) (left o k items (i + 1) table end)) (one at)
  where
    one : (i : ℕ) → suc i ≡ i + 1
    one i = omega (arith)

pub left_none : (o at : ℕ) (items : List Value) (i : ℕ) → length items ≤ i → (table : ValuesView) (end : Writes) → left o at items i table end ≡ end
left_none o at items i past table end = ap (λ vs. set_items o at (map (contents table) vs) end) (drop_all items i past)
