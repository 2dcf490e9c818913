-- Walks of tuples.
use Rattle.std.proofs.Common.{◌≡◌, refl, ap, ◌∙◌, ℕ, List, [], ◌∷◌, ◌++◌, ◌+◌, zero, suc, map, length, take, get_or, Some, slice_get}
use Rattle.std.proofs.lemmas.List.{length-map, take_more}
use Rattle.std.proofs.lemmas.Option.{slice_get_within}
use Rattle.py_model.specs.Plan.{Plan, looks}
use Rattle.py_model.specs.Walks.{walk, items_of}
use Rattle.py_value.specs.Contents.{Contents, contents, parts_by, tuple}
use Rattle.py_value.specs.Values.{ValuesView}
use Rattle.py_value.specs.declared.value.Value.{Value}
use Rattle.py_value.specs.declared.value.Value.TheVariants.{Tuple}
use Rattle.op_lists.specs.ValuesSeen.{values_seen}

pub items_are : (f : Value → Contents) (items : List Value) → items_of (parts_by f items) ≡ map f items
items_are f [] = refl
items_are f (item ∷ items) = ap (λ rest. f item ∷ rest) (items_are f items)

pub tuple_walk : (table : ValuesView) (id : ℕ) (items : List Value) → contents table (Tuple id) ≡ tuple (parts_by (contents table) items) → (go : List Contents → Plan)
    → walk (contents table (Tuple id)) go ≡ looks (length items) (go (values_seen table items))
tuple_walk table id items is go = ap (λ c. walk c go) is
    ∙ (ap (λ seen. looks (length seen) (go seen)) (items_are (contents table) items)
    ∙ ap (λ n. looks n (go (values_seen table items))) (length-map items (contents table)))

pub one_item : (items others : List Value) → Some items ≡ Some others → items ≡ others
one_item items others is = cc

-- one item more is taken
pub take_next : (xs : List Value) (i : ℕ) (x : Value) → slice_get xs i ≡ Some x → take (i + 1) xs ≡ take i xs ++ x ∷ []
take_next xs i x is = take_more xs i x (slice_get_within xs i x is) ∙ ap (λ y. take i xs ++ y ∷ []) (read xs i x is)
  where
    read : (xs : List Value) (i : ℕ) (x : Value) → slice_get xs i ≡ Some x → get_or xs i x ≡ x
    read [] i x is = cc
    read (y ∷ ys) zero x is = cc
    read (y ∷ ys) (suc i) x is = read ys i x is
