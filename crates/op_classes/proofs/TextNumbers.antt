-- Numbers of texts.
use Rattle.std.proofs.Common.{◌≡◌, refl, ℕ, suc, List, [], ◌∷◌, Some}
use Rattle.py_model.specs.Plan.{Plan}
use Rattle.py_value.specs.Contents.{Contents, text}
use Rattle.py_value.specs.Values.{ValuesView, IsNamed, AreNamed}
use Rattle.py_value.specs.declared.value.Value.{Value}
use Rattle.py_value.specs.declared.value.Value.TheVariants.{None as NoneValue, Bool as TruthValue, Int, Text, Tuple, Range, Fn, Class, Exc, Builtin, Object}
use Rattle.op_classes.specs.Texts.{text_in}

pub text_is : (v : Value) (id : ℕ) → text_in v ≡ Some id → v ≡ Text id
text_is NoneValue id is = cc
text_is (TruthValue b) id is = cc
text_is (Int i) id is = cc
text_is (Text n) id is = cc
text_is (Tuple n) id is = cc
text_is (Range a b d) id is = cc
text_is (Fn place) id is = cc
text_is (Class place) id is = cc
text_is (Exc number) id is = cc
text_is (Builtin number) id is = cc
text_is (Object o) id is = cc

abbrev bytes_in : Contents → List ℕ
bytes_in (text bytes) = bytes
bytes_in other = []

-- it goes on with the bytes of a text
abbrev pub with_bytes : ValuesView → Contents → (List ℕ → Plan) → Plan
with_bytes table c go = go (bytes_in c)

-- the first of several values is named, and so are the others
pub first_named : (values : ValuesView) (v : Value) (vs : List Value) → AreNamed values (v ∷ vs) → IsNamed values v
first_named values v vs named = named 0 v refl

pub others_named : (values : ValuesView) (v : Value) (vs : List Value) → AreNamed values (v ∷ vs) → AreNamed values vs
others_named values v vs named = λ i x is. named (suc i) x is
