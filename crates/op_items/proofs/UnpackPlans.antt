-- A value that is taken apart, as a plan.
use Rattle.std.proofs.Common.{◌≡◌, ◌∙◌, refl, sym, ap, eqb-true, eq-eqb, ℕ, ◌==◌, Bool, true, false, List, [], ◌∷◌, map, length, if◌then◌else◌}
use Rattle.std.proofs.lemmas.List.{length-map}
use Rattle.py_model.proofs.Tuples.{parts_same}
use Rattle.op_lists.proofs.Tuples.{items_are}
use Rattle.py_model.specs.Faults.{wrong_kind}
use Rattle.py_model.specs.Lists.{unpack, wrong_count, tuple_display}
use Rattle.py_model.specs.Operands.{of_one, gives}
use Rattle.py_model.specs.Plan.{Plan, looks}
use Rattle.py_model.specs.Walks.{read_items}
use Rattle.py_value.specs.Contents.{Contents, contents, tuple, object, parts_by}
use Rattle.py_value.specs.Values.{ValuesView}
use Rattle.py_value.specs.declared.value.Value.{Value}
use Rattle.py_value.specs.declared.value.Value.TheVariants.{None as NoneValue, Bool as TruthValue, Int, Text, Tuple, Range, Fn, Class, Exc, Builtin, Object}

abbrev pub parts_for : ℕ → Contents → Plan
parts_for targets v = unpack targets (v ∷ [])

pub unpack_is : (targets : ℕ) (operands : List Contents) → unpack targets operands ≡ of_one (parts_for targets) operands
unpack_is targets [] = refl
unpack_is targets (v ∷ []) = refl
unpack_is targets (tuple parts ∷ w ∷ more) = refl
unpack_is targets (object o ∷ w ∷ more) = refl
unpack_is targets (other ∷ w ∷ more) = refl

pub no_parts_of : (table : ValuesView) (targets : ℕ) (v : Value) → ((id : ℕ) → v ≡ Tuple id → ⊥) → ((o : ℕ) → v ≡ Object o → ⊥) → parts_for targets (contents table v) ≡ wrong_kind
no_parts_of table targets (Text id) not_tuple not_object = refl
no_parts_of table targets (Tuple id) not_tuple not_object = absurd (not_tuple id refl)
no_parts_of table targets (Range a b c) not_tuple not_object = refl
no_parts_of table targets (Object o) not_tuple not_object = absurd (not_object o refl)
no_parts_of table targets NoneValue not_tuple not_object = refl
no_parts_of table targets (TruthValue b) not_tuple not_object = refl
no_parts_of table targets (Int i) not_tuple not_object = refl
no_parts_of table targets (Fn place) not_tuple not_object = refl
no_parts_of table targets (Class place) not_tuple not_object = refl
no_parts_of table targets (Exc number) not_tuple not_object = refl
no_parts_of table targets (Builtin number) not_tuple not_object = refl

abbrev pub if_many : ℕ → ℕ → Plan → Plan
if_many n targets go = if n == targets then go else wrong_count

by_bool : (b : Bool) (go : Plan) → b ≡ true → (if b then go else wrong_count) ≡ go
by_bool true go is = refl
by_bool false go is = absurd (cc)

by_other : (b : Bool) (go : Plan) → (b ≡ true → ⊥) → (if b then go else wrong_count) ≡ wrong_count
by_other true go apart = absurd (apart refl)
by_other false go apart = refl

pub so_many : (n targets : ℕ) (go : Plan) → n ≡ targets → if_many n targets go ≡ go
so_many n targets go is = by_bool (n == targets) go (eq-eqb n targets is)

pub not_so_many : (n targets : ℕ) (go : Plan) → (n ≡ targets → ⊥) → if_many n targets go ≡ wrong_count
not_so_many n targets go apart = by_other (n == targets) go (λ is. apart (eqb-true n targets is))

pub tuple_parts : (table : ValuesView) (id targets : ℕ) (items : List Value) → contents table (Tuple id) ≡ tuple (parts_by (contents table) items)
    → parts_for targets (contents table (Tuple id)) ≡ if_many (length items) targets (looks targets (gives (contents table (Tuple id))))
tuple_parts table id targets items is = ap (parts_for targets) is
    ∙ (ap (λ seen. if_many (length seen) targets (looks targets (tuple_display seen))) (items_are (contents table) items)
    ∙ (ap (λ n. if_many n targets (looks targets (tuple_display (map (contents table) items)))) (length-map items (contents table))
    ∙ ap (λ c. if_many (length items) targets (looks targets (gives c))) (ap tuple (parts_same (contents table) items) ∙ sym is)))

abbrev pub list_items : ℕ → ℕ → ℕ → Plan
list_items targets o n = if_many n targets (read_items n o 0 tuple_display)
