-- Operands of methods of files, as plans.
use Rattle.std.proofs.Common.{◌≡◌, ◌∙◌, refl, ap, arith, ℕ, suc, ◌<◌, List, [], ◌∷◌, map, length, slice_index_or, Option, Some, None}
use Rattle.py_model.specs.Faults.{wrong_kind, wrong_number}
use Rattle.py_model.specs.Plan.{Plan}
use Rattle.py_value.specs.Contents.{Contents, contents, object, text}
use Rattle.py_value.specs.Seen.{bytes_of}
use Rattle.py_value.specs.Values.{ValuesView, IsNamed}
use Rattle.py_value.specs.declared.access.Kind.{Kind}
use Rattle.py_value.specs.declared.access.Kind.TheVariants.{List as ListKind, Dict as DictKind, Instance, File as FileKind}
use Rattle.py_value.specs.declared.access.Mode.{Mode}
use Rattle.py_value.specs.declared.value.Value.{Value}
use Rattle.py_value.specs.declared.value.Value.TheVariants.{None as NoneValue, Bool as TruthValue, Int, Text, Tuple, Range, Fn, Class, Exc, Builtin, Object}
use Rattle.py_model.proofs.Tuples.{some_tuple}
use Rattle.op_files.specs.Operands.{object_in, text_in, file_in, of_object, of_object_text}

-- the number of operands
more_than_one : (one other : Contents) (more : List Contents) (go : ℕ → Plan) → of_object (one ∷ other ∷ more) go ≡ wrong_number
more_than_one (object o) other more go = refl
more_than_one one other more go = refl

less_than_two : (one : Contents) (go : ℕ → List ℕ → Plan) → of_object_text (one ∷ []) go ≡ wrong_number
less_than_two (object o) go = refl
less_than_two one go = refl

more_than_two : (one other next : Contents) (more : List Contents) (go : ℕ → List ℕ → Plan) → of_object_text (one ∷ other ∷ next ∷ more) go ≡ wrong_number
more_than_two (object o) (text bytes) next more go = refl
more_than_two (object o) other next more go = refl
more_than_two one other next more go = refl

many : (n : ℕ) → suc (suc n) ≡ 1 → ⊥
many n is = omega (arith, is)

pub not_one : (f : Value → Contents) (operands : List Value) (go : ℕ → Plan) → (length operands ≡ 1 → ⊥) → of_object (map f operands) go ≡ wrong_number
not_one f [] go apart = refl
not_one f (v ∷ []) go apart = absurd (apart refl)
not_one f (v ∷ w ∷ more) go apart = more_than_one (f v) (f w) (map f more) go

pub not_two : (f : Value → Contents) (operands : List Value) (go : ℕ → List ℕ → Plan) → (length operands ≡ 2 → ⊥) → of_object_text (map f operands) go ≡ wrong_number
not_two f [] go apart = refl
not_two f (v ∷ []) go apart = less_than_two (f v) go
not_two f (v ∷ w ∷ []) go apart = absurd (apart refl)
not_two f (v ∷ w ∷ x ∷ more) go apart = more_than_two (f v) (f w) (f x) (map f more) go

-- what a value is
object_is : (v : Value) (o : ℕ) → object_in v ≡ Some o → v ≡ Object o
object_is NoneValue o is = cc
object_is (TruthValue b) o is = cc
object_is (Int i) o is = cc
object_is (Text id) o is = cc
object_is (Tuple id) o is = cc
object_is (Range a b c) o is = cc
object_is (Fn place) o is = cc
object_is (Class place) o is = cc
object_is (Exc number) o is = cc
object_is (Builtin number) o is = cc
object_is (Object p) o is = cc

pub text_is : (v : Value) (id : ℕ) → text_in v ≡ Some id → v ≡ Text id
text_is NoneValue id is = cc
text_is (TruthValue b) id is = cc
text_is (Int i) id is = cc
text_is (Text n) id is = cc
text_is (Tuple n) id is = cc
text_is (Range a b c) id is = cc
text_is (Fn place) id is = cc
text_is (Class place) id is = cc
text_is (Exc number) id is = cc
text_is (Builtin number) id is = cc
text_is (Object p) id is = cc

-- one operand
other_one : (table : ValuesView) (v : Value) (go : ℕ → Plan) → object_in v ≡ None → of_object (contents table v ∷ []) go ≡ wrong_kind
other_one table NoneValue go is = refl
other_one table (TruthValue b) go is = refl
other_one table (Int i) go is = refl
other_one table (Text id) go is = refl
other_one table (Tuple id) go is = ap (λ c. of_object (c ∷ []) go) (some_tuple table id).1
other_one table (Range a b c) go is = refl
other_one table (Fn place) go is = refl
other_one table (Class place) go is = refl
other_one table (Exc number) go is = refl
other_one table (Builtin number) go is = refl
other_one table (Object o) go is = cc

pub no_object : (table : ValuesView) (operands : List Value) (go : ℕ → Plan) → length operands ≡ 1 → object_in (slice_index_or operands 0 NoneValue) ≡ None
    → of_object (map (contents table) operands) go ≡ wrong_kind
no_object table [] go one is = absurd (omega (arith, one))
no_object table (v ∷ []) go one is = other_one table v go is
no_object table (v ∷ w ∷ more) go one is = absurd (many (length more) one)

pub an_object : (table : ValuesView) (operands : List Value) (go : ℕ → Plan) (o : ℕ) → length operands ≡ 1 → object_in (slice_index_or operands 0 NoneValue) ≡ Some o
    → of_object (map (contents table) operands) go ≡ go o
an_object table [] go o one is = absurd (omega (arith, one))
an_object table (v ∷ []) go o one is = ap (λ w. of_object (contents table w ∷ []) go) (object_is v o is)
an_object table (v ∷ w ∷ more) go o one is = absurd (many (length more) one)

-- two operands
many_two : (n : ℕ) → suc (suc (suc n)) ≡ 2 → ⊥
many_two n is = omega (arith, is)

other_first : (table : ValuesView) (v : Value) (x : Contents) (go : ℕ → List ℕ → Plan) → object_in v ≡ None → of_object_text (contents table v ∷ x ∷ []) go ≡ wrong_kind
other_first table NoneValue x go is = refl
other_first table (TruthValue b) x go is = refl
other_first table (Int i) x go is = refl
other_first table (Text id) x go is = refl
other_first table (Tuple id) x go is = ap (λ c. of_object_text (c ∷ x ∷ []) go) (some_tuple table id).1
other_first table (Range a b c) x go is = refl
other_first table (Fn place) x go is = refl
other_first table (Class place) x go is = refl
other_first table (Exc number) x go is = refl
other_first table (Builtin number) x go is = refl
other_first table (Object o) x go is = cc

other_second : (table : ValuesView) (o : ℕ) (w : Value) (go : ℕ → List ℕ → Plan) → text_in w ≡ None → of_object_text (object o ∷ contents table w ∷ []) go ≡ wrong_kind
other_second table o NoneValue go is = refl
other_second table o (TruthValue b) go is = refl
other_second table o (Int i) go is = refl
other_second table o (Text id) go is = cc
other_second table o (Tuple id) go is = ap (λ c. of_object_text (object o ∷ c ∷ []) go) (some_tuple table id).1
other_second table o (Range a b c) go is = refl
other_second table o (Fn place) go is = refl
other_second table o (Class place) go is = refl
other_second table o (Exc number) go is = refl
other_second table o (Builtin number) go is = refl
other_second table o (Object p) go is = refl

pub no_first : (table : ValuesView) (operands : List Value) (go : ℕ → List ℕ → Plan) → length operands ≡ 2 → object_in (slice_index_or operands 0 NoneValue) ≡ None
    → of_object_text (map (contents table) operands) go ≡ wrong_kind
no_first table [] go two is = absurd (omega (arith, two))
no_first table (v ∷ []) go two is = absurd (omega (arith, two))
no_first table (v ∷ w ∷ []) go two is = other_first table v (contents table w) go is
no_first table (v ∷ w ∷ x ∷ more) go two is = absurd (many_two (length more) two)

pub no_second : (table : ValuesView) (operands : List Value) (go : ℕ → List ℕ → Plan) (o : ℕ) → length operands ≡ 2 → object_in (slice_index_or operands 0 NoneValue) ≡ Some o
    → text_in (slice_index_or operands 1 NoneValue) ≡ None → of_object_text (map (contents table) operands) go ≡ wrong_kind
no_second table [] go o two first is = absurd (omega (arith, two))
no_second table (v ∷ []) go o two first is = absurd (omega (arith, two))
no_second table (v ∷ w ∷ []) go o two first is = ap (λ u. of_object_text (contents table u ∷ contents table w ∷ []) go) (object_is v o first) ∙ other_second table o w go is
no_second table (v ∷ w ∷ x ∷ more) go o two first is = absurd (many_two (length more) two)

pub an_object_text : (table : ValuesView) (operands : List Value) (go : ℕ → List ℕ → Plan) (o id : ℕ) → length operands ≡ 2
    → object_in (slice_index_or operands 0 NoneValue) ≡ Some o → text_in (slice_index_or operands 1 NoneValue) ≡ Some id
    → of_object_text (map (contents table) operands) go ≡ go o (bytes_of table id)
an_object_text table [] go o id two first second = absurd (omega (arith, two))
an_object_text table (v ∷ []) go o id two first second = absurd (omega (arith, two))
an_object_text table (v ∷ w ∷ []) go o id two first second = ap (λ u. of_object_text (contents table u ∷ contents table w ∷ []) go) (object_is v o first)
    ∙ ap (λ u. of_object_text (object o ∷ contents table u ∷ []) go) (text_is w id second)
an_object_text table (v ∷ w ∷ x ∷ more) go o id two first second = absurd (many_two (length more) two)

-- a text that is named has a number
pub text_named : (values : ValuesView) (v : Value) (id : ℕ) → text_in v ≡ Some id → IsNamed values v → id < length values.texts
text_named values NoneValue id is named = absurd (cc)
text_named values (TruthValue b) id is named = absurd (cc)
text_named values (Int i) id is named = absurd (cc)
text_named values (Text n) id is named = same_number (some_same n id is) named
  where
    some_same : (m k : ℕ) → Some m ≡ Some k → m ≡ k
    some_same m k eq = cc

    same_number : n ≡ id → n < length values.texts → id < length values.texts
    same_number same within = omega (arith, same, within)
text_named values (Tuple n) id is named = absurd (cc)
text_named values (Range a b c) id is named = absurd (cc)
text_named values (Fn place) id is named = absurd (cc)
text_named values (Class place) id is named = absurd (cc)
text_named values (Exc number) id is named = absurd (cc)
text_named values (Builtin number) id is named = absurd (cc)
text_named values (Object p) id is named = absurd (cc)

-- an object that is an open file
pub kind_is_file : (kind : Option Kind) (path : ℕ) (mode : Mode) → file_in kind ≡ Some (path, mode) → kind ≡ Some (FileKind path mode)
kind_is_file None path mode is = cc
kind_is_file (Some ListKind) path mode is = cc
kind_is_file (Some DictKind) path mode is = cc
kind_is_file (Some (Instance of)) path mode is = cc
kind_is_file (Some (FileKind p m)) path mode is = ap (λ (x : ℕ × Mode). Some (FileKind x.0 x.1)) (one_pair (p, m) (path, mode) is)
  where
    one_pair : (x y : ℕ × Mode) → Some x ≡ Some y → x ≡ y
    one_pair x y same = cc
