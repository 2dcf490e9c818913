-- Tuples one behind the other, as plans.
use Rattle.std.proofs.Common.{◌≡◌, ◌∙◌, refl, sym, ap, ℕ, ◌+◌, List, [], ◌∷◌, ◌++◌, map, length}
use Rattle.std.proofs.lemmas.List.{map-append, length-map, length-append}
use Rattle.py_model.specs.Arithmetic.{added}
use Rattle.py_model.specs.Effect.{parts_of}
use Rattle.py_model.specs.Operands.{gives, gives_tuple}
use Rattle.py_model.specs.Plan.{looks}
use Rattle.py_model.specs.Walks.{items_of}
use Rattle.py_value.specs.Contents.{Contents, contents, parts_by, tuple}
use Rattle.py_value.specs.Values.{ValuesView}
use Rattle.py_value.specs.declared.value.Value.{Value}
use Rattle.py_value.specs.declared.value.Value.TheVariants.{Tuple}

items_are : (f : Value → Contents) (items : List Value) → items_of (parts_by f items) ≡ map f items
items_are f [] = refl
items_are f (item ∷ items) = ap (λ rest. f item ∷ rest) (items_are f items)

pub joined_is : (table : ValuesView) (a b : ℕ) (xs ys : List Value) → contents table (Tuple a) ≡ tuple (parts_by (contents table) xs) → contents table (Tuple b) ≡ tuple (parts_by (contents table) ys)
    → added (contents table (Tuple a)) (contents table (Tuple b)) ≡ looks (length xs + length ys) (gives (tuple (parts_of (map (contents table) (xs ++ ys)))))
joined_is table a b xs ys first second = ap (λ c. added c (contents table (Tuple b))) first ∙ (ap (λ c. added (tuple (parts_by (contents table) xs)) c) second
    ∙ (ap (λ l. gives_tuple (l ++ items_of (parts_by (contents table) ys))) (items_are (contents table) xs)
    ∙ (ap (λ l. gives_tuple (map (contents table) xs ++ l)) (items_are (contents table) ys)
    ∙ (ap gives_tuple (sym (map-append (contents table) xs ys))
    ∙ ap (λ n. looks n (gives (tuple (parts_of (map (contents table) (xs ++ ys)))))) (length-map (xs ++ ys) (contents table) ∙ length-append xs ys)))))
