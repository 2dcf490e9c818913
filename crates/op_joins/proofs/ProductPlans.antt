-- Products as plans.
use Rattle.std.proofs.Common.{◌≡◌, ◌∙◌, refl, sym, ap, ℕ, ◌*◌, ◌*ℤ◌, ℤ, true, false, Option, Some, None, List, map, length}
use Rattle.std.proofs.lemmas.List.{length-map}
use Rattle.py_model.specs.Arithmetic.{multiplied, repeated, repeats}
use Rattle.py_model.specs.Effect.{parts_of}
use Rattle.py_model.specs.Faults.{wrong_kind}
use Rattle.py_model.specs.Numbers.{times}
use Rattle.py_model.specs.Operands.{gives, gives_int, gives_tuple, number_in}
use Rattle.py_model.specs.Plan.{Plan, looks}
use Rattle.py_value.specs.Contents.{Contents, contents, parts_by, tuple}
use Rattle.py_value.specs.Values.{ValuesView}
use Rattle.py_value.specs.declared.value.Value.{Value}
use Rattle.py_value.specs.declared.value.Value.TheVariants.{None as NoneValue, Bool as TruthValue, Int, Text, Tuple, Range, Fn, Class, Exc, Builtin, Object}
use Rattle.py_value.specs.Numbers.{number_of_value}
use Rattle.op_lists.proofs.Tuples.{items_are}
use Rattle.py_model.proofs.Tuples.{some_tuple}
use Rattle.op_joins.proofs.ManyTimes.{length_times, map_times}

-- a product, by the numbers that its factors are
abbrev pub by_factors : Contents → Contents → Option ℤ → Option ℤ → Plan
by_factors v w (Some i) (Some j) = gives_int (i *ℤ j)
by_factors v w (Some i) None = repeats w (times i)
by_factors v w None (Some j) = repeats v (times j)
by_factors v w None None = wrong_kind

factors : (v w : Contents) → multiplied v w ≡ by_factors v w (number_in v) (number_in w)
factors v w = refl

number_is : (table : ValuesView) (v : Value) → number_in (contents table v) ≡ number_of_value v
number_is table NoneValue = refl
number_is table (TruthValue true) = refl
number_is table (TruthValue false) = refl
number_is table (Int i) = refl
number_is table (Text id) = refl
number_is table (Tuple id) = ap number_in (some_tuple table id).1
number_is table (Range a b c) = refl
number_is table (Fn place) = refl
number_is table (Class place) = refl
number_is table (Exc number) = refl
number_is table (Builtin number) = refl
number_is table (Object o) = refl

pub product_is : (table : ValuesView) (v w : Value) (i j : Option ℤ) → number_of_value v ≡ i → number_of_value w ≡ j
    → multiplied (contents table v) (contents table w) ≡ by_factors (contents table v) (contents table w) i j
product_is table v w i j first second = factors (contents table v) (contents table w)
    ∙ (ap (λ x. by_factors (contents table v) (contents table w) x (number_in (contents table w))) (number_is table v ∙ first)
    ∙ ap (by_factors (contents table v) (contents table w) i) (number_is table w ∙ second))

-- what is no text, tuple or object is not repeated
pub no_repeat : (table : ValuesView) (v : Value) (n : ℕ) → ((id : ℕ) → v ≡ Text id → ⊥) → ((id : ℕ) → v ≡ Tuple id → ⊥) → ((o : ℕ) → v ≡ Object o → ⊥)
    → repeats (contents table v) n ≡ wrong_kind
no_repeat table NoneValue n no_text no_tuple no_object = refl
no_repeat table (TruthValue b) n no_text no_tuple no_object = refl
no_repeat table (Int i) n no_text no_tuple no_object = refl
no_repeat table (Text id) n no_text no_tuple no_object = absurd (no_text id refl)
no_repeat table (Tuple id) n no_text no_tuple no_object = absurd (no_tuple id refl)
no_repeat table (Range a b c) n no_text no_tuple no_object = refl
no_repeat table (Fn place) n no_text no_tuple no_object = refl
no_repeat table (Class place) n no_text no_tuple no_object = refl
no_repeat table (Exc number) n no_text no_tuple no_object = refl
no_repeat table (Builtin number) n no_text no_tuple no_object = refl
no_repeat table (Object o) n no_text no_tuple no_object = absurd (no_object o refl)

-- a tuple that is repeated
pub tuple_times : (table : ValuesView) (id n count : ℕ) (items : List Value) → contents table (Tuple id) ≡ tuple (parts_by (contents table) items) → count ≡ length items * n
    → repeats (contents table (Tuple id)) n ≡ looks count (gives (tuple (parts_of (map (contents table) (repeated n items)))))
tuple_times table id n count items is count_is = ap (λ c. repeats c n) is
    ∙ (ap (λ l. gives_tuple (repeated n l)) (items_are (contents table) items)
    ∙ (ap gives_tuple (sym (map_times (contents table) n items))
    ∙ ap (λ k. looks k (gives (tuple (parts_of (map (contents table) (repeated n items)))))) (length-map (repeated n items) (contents table) ∙ (length_times n items ∙ sym count_is))))
