-- Comparisons of which nothing is read.
use Rattle.std.proofs.Common.{◌≡◌, refl, sym, ap, subst, ◌∙◌, ℕ, zero, suc, Bool as TruthValue, true, false, Option, Some, None}
use Rattle.py_model.specs.Plan.{Plan}
use Rattle.py_model.specs.Walks.{Comparison, Pairs, compare_step, compare_within, compare_texts}
use Rattle.py_value.specs.Contents.{Contents, Parts, contents, truth, tuple}
use Rattle.py_value.specs.Seen.{bytes_of}
use Rattle.py_value.specs.Values.{ValuesView}
use Rattle.py_value.specs.declared.value.Value.{Value}
use Rattle.py_value.specs.declared.value.Value.TheVariants.{Bool, Int, Text, Tuple, Object}
use Rattle.py_model.proofs.Tuples.{some_tuple}
use Rattle.op_compare.specs.Comparisons.{plain_of}

-- what pairs inside a container are compared with
abbrev pub inside_of : ℕ → Option Pairs
inside_of zero = None
inside_of (suc levels) = Some (compare_within levels)

pub within_is : (levels : ℕ) (ordered : TruthValue) (v w : Contents) (go : Comparison → Plan) → compare_within levels ordered v w go ≡ compare_step (inside_of levels) ordered v w go
within_is zero ordered v w go = refl
within_is (suc levels) ordered v w go = refl

-- the two are no two texts, tuples or objects
pub record IsPlain (v w : Value) : Type 0 where
  pub not_texts : (a b : ℕ) → v ≡ Text a → w ≡ Text b → ⊥
  pub not_tuples : (a b : ℕ) → v ≡ Tuple a → w ≡ Tuple b → ⊥
  pub not_objects : (a b : ℕ) → v ≡ Object a → w ≡ Object b → ⊥

pub text_plain : (a : ℕ) (w : Value) → ((b : ℕ) → w ≡ Text b → ⊥) → IsPlain (Text a) w
text_plain a w not = record { not_texts = λ x y one other. not y other; not_tuples = λ x y one other. cc; not_objects = λ x y one other. cc }

pub tuple_plain : (a : ℕ) (w : Value) → ((b : ℕ) → w ≡ Tuple b → ⊥) → IsPlain (Tuple a) w
tuple_plain a w not = record { not_texts = λ x y one other. cc; not_tuples = λ x y one other. not y other; not_objects = λ x y one other. cc }

pub object_plain : (a : ℕ) (w : Value) → ((b : ℕ) → w ≡ Object b → ⊥) → IsPlain (Object a) w
object_plain a w not = record { not_texts = λ x y one other. cc; not_tuples = λ x y one other. cc; not_objects = λ x y one other. not y other }

pub other_plain : (v w : Value) → ((a : ℕ) → v ≡ Text a → ⊥) → ((a : ℕ) → v ≡ Tuple a → ⊥) → ((a : ℕ) → v ≡ Object a → ⊥) → IsPlain v w
other_plain v w no_text no_tuple no_object = record { not_texts = λ x y one other. no_text x one; not_tuples = λ x y one other. no_tuple x one; not_objects = λ x y one other. no_object x one }

module _ (ordered : TruthValue) (table : ValuesView) (go : Comparison → Plan) where
  tuple_first : (inside : Option Pairs) (id : ℕ) (ps : Parts) (w : Value) → IsPlain (Tuple id) w → compare_step inside ordered (tuple ps) (contents table w) go ≡ go (plain_of (Tuple id) w)
  tuple_first inside id ps (Tuple other) plain = absurd (plain.not_tuples id other refl refl)
  tuple_first None id ps w plain = refl
  tuple_first (Some pair) id ps w plain = refl

  pub plain_is : (inside : Option Pairs) (v w : Value) → IsPlain v w → compare_step inside ordered (contents table v) (contents table w) go ≡ go (plain_of v w)
  plain_is inside (Tuple id) w plain = subst (λ c. compare_step inside ordered c (contents table w) go ≡ go (plain_of (Tuple id) w)) (sym (some_tuple table id).1)
      (tuple_first inside id (some_tuple table id).0 w plain)
  plain_is inside (Bool true) (Tuple id) plain = ap (λ c. compare_step inside ordered (truth true) c go) (some_tuple table id).1
  plain_is inside (Bool false) (Tuple id) plain = ap (λ c. compare_step inside ordered (truth false) c go) (some_tuple table id).1
  plain_is inside v (Tuple id) plain = subst (λ c. compare_step inside ordered (contents table v) c go ≡ go (plain_of v (Tuple id))) (sym (some_tuple table id).1) refl
  plain_is inside (Text a) (Text b) plain = absurd (plain.not_texts a b refl refl)
  plain_is inside (Object a) (Object b) plain = absurd (plain.not_objects a b refl refl)
  plain_is inside (Int i) (Bool true) plain = refl
  plain_is inside (Int i) (Bool false) plain = refl
  plain_is inside (Bool true) (Int j) plain = refl
  plain_is inside (Bool false) (Int j) plain = refl
  plain_is inside (Bool true) (Bool true) plain = refl
  plain_is inside (Bool true) (Bool false) plain = refl
  plain_is inside (Bool false) (Bool true) plain = refl
  plain_is inside (Bool false) (Bool false) plain = refl
  plain_is inside (Bool true) w plain = refl
  plain_is inside (Bool false) w plain = refl
  plain_is inside v (Bool true) plain = refl
  plain_is inside v (Bool false) plain = refl
  plain_is inside v w plain = refl

-- two values of which nothing is read, at any depth
pub plain_within : (levels : ℕ) (ordered : TruthValue) (table : ValuesView) (v w : Value) → IsPlain v w → (go : Comparison → Plan)
    → compare_within levels ordered (contents table v) (contents table w) go ≡ go (plain_of v w)
plain_within levels ordered table v w plain go = within_is levels ordered (contents table v) (contents table w) go ∙ plain_is ordered table go (inside_of levels) v w plain

pub texts_within : (levels : ℕ) (ordered : TruthValue) (table : ValuesView) (a b : ℕ) (go : Comparison → Plan)
    → compare_within levels ordered (contents table (Text a)) (contents table (Text b)) go ≡ compare_texts ordered (bytes_of table a) (bytes_of table b) go
texts_within levels ordered table a b go = within_is levels ordered (contents table (Text a)) (contents table (Text b)) go
