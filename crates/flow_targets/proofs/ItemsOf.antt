-- Items of what a value was taken apart into, by number, and targets so.
use Rattle.std.proofs.Common.{◌≡◌, Bor, ℕ, zero, suc, List, [], ◌∷◌, map, length, slice_get, Option, Some, None, refl, ap, sym, ◌∙◌}
use Rattle.std.specs.Option.{option_map}
use Rattle.py_tree.specs.Erasure.{target_of, targets_list}
use Rattle.py_tree.specs.Tree.{TargetsTree, end_targets, more_targets}
use Rattle.py_tree.specs.declared.expr.Target.{Target}
use Rattle.py_value.specs.Contents.{Contents, Parts, no_parts, nothing, parts_by}
use Rattle.py_value.specs.declared.value.Value.{Value}
use Rattle.py_model.specs.Statements.{count_targets, first_of, rest_of}
use Rattle.flow_frames.specs.Machine.{nth_target, parts_from, targets_from}

pub counted_so : (ts : List Target) → count_targets (targets_list (map target_of ts)) ≡ length ts
counted_so [] = refl
counted_so (t ∷ ts) = ap suc (counted_so ts)

none_behind : (n : ℕ) → parts_from n no_parts ≡ no_parts
none_behind zero = refl
none_behind (suc n) = none_behind n

-- where there are no items the next one is None
pub none_from : (n : ℕ) (items : Parts) → items ≡ no_parts → nothing ≡ first_of (parts_from n items)
none_from n items is = sym (ap (λ ps. first_of (parts_from n ps)) is ∙ ap first_of (none_behind n))

abbrev pub item_of : (Value → Contents) → Option Value → Contents
item_of view None = nothing
item_of view (Some v) = view v

-- the item with a number
pub item_is : (view : Value → Contents) (vs : List Value) (n : ℕ) → item_of view (slice_get vs n) ≡ first_of (parts_from n (parts_by view vs))
item_is view [] zero = refl
item_is view [] (suc n) = sym (ap first_of (none_behind n))
item_is view (v ∷ vs) zero = refl
item_is view (v ∷ vs) (suc n) = item_is view vs n

-- items and targets behind one
pub rest_parts : (n : ℕ) (items : Parts) → parts_from (suc n) items ≡ rest_of (parts_from n items)
rest_parts zero items = refl
rest_parts (suc n) items = rest_parts n (rest_of items)

abbrev pub targets_seen : List Target → TargetsTree
targets_seen ts = targets_list (map target_of ts)

pub targets_more : (ts : List Target) (n : ℕ) (t : Target) → slice_get ts n ≡ Some t → targets_from n (targets_seen ts) ≡ more_targets (target_of t) (targets_from (suc n) (targets_seen ts))
targets_more [] n t is = absurd cc
targets_more (u ∷ ts) zero t is = cc
targets_more (u ∷ ts) (suc n) t is = targets_more ts n t is

pub targets_end : (ts : List Target) (n : ℕ) → slice_get ts n ≡ None → targets_from n (targets_seen ts) ≡ end_targets
targets_end [] zero is = refl
targets_end [] (suc n) is = refl
targets_end (u ∷ ts) zero is = absurd cc
targets_end (u ∷ ts) (suc n) is = targets_end ts n is

pub nth_is : (ts : List Target) (n : ℕ) → option_map target_of (slice_get ts n) ≡ nth_target n (Some (targets_seen ts))
nth_is [] zero = refl
nth_is [] (suc n) = refl
nth_is (u ∷ ts) zero = refl
nth_is (u ∷ ts) (suc n) = nth_is ts n

pub seen_target : (t : Option (Bor Target)) → option_map (λ t. target_of t.now) t ≡ option_map target_of (option_map (λ t. t.now) t)
seen_target None = refl
seen_target (Some t) = refl
