-- Which operations are those on atoms, and what is answered of them (this project's profile).
use Rattle.std.specs.Prelude.{◌≡◌, ⊤, ℕ, Bool, nat_le, ◌==◌, ◌||◌, ◌&&◌, List, [], ◌∷◌, Result, Ok, Err}
use Rattle.op_atoms.specs.declared.atomic.Atomic.{Atomic}
use Rattle.op_atoms.specs.declared.atomic.Atomic.TheVariants.{Gives, Raises, NotAtomic}
use Rattle.op_work.specs.Work.{WorkView, Extends, IsSeen}
use Rattle.py_model.specs.Effect.{Answers, Touch, answered, effect}
use Rattle.py_model.specs.Plan.{Plan, value, raises}
use Rattle.py_model.specs.Store.{RunStore}
use Rattle.py_model.specs.Touches.{prefixed}
use Rattle.py_value.specs.Contents.{contents, exception_class}
use Rattle.py_value.specs.Values.{ValuesView}
use Rattle.py_value.specs.declared.value.Value.TheVariants.{Text}

-- const; give to iadd; tuple, getitem and slice
abbrev pub is_operator : ℕ → Bool
is_operator n = (n == 0) || ((nat_le 2 n && nat_le n 22) || (nat_le 25 n && nat_le n 27))

-- abs, bool and chr; int, isinstance and len; max and min; ord; range and repr; str, sum and tuple
abbrev pub is_function : ℕ → Bool
is_function n =
    (nat_le 50 n && nat_le n 52) || ((nat_le 56 n && nat_le n 58) || ((nat_le 60 n && nat_le n 61) || ((n == 63) || ((nat_le 65 n && nat_le n 66) || (nat_le 68 n && nat_le n 70)))))

-- the methods of texts, but for split
abbrev pub is_method : ℕ → Bool
is_method n = (nat_le 91 n && nat_le n 93) || (nat_le 95 n && nat_le n 104)

-- the operations on atoms, by number
abbrev pub is_atomic : ℕ → Bool
is_atomic n = is_operator n || (is_function n || is_method n)

-- Behind what was touched, the plan raises the exception of a class of the language with a text.
pub record RaisesText (table : ValuesView) (store : RunStore) (plan : Plan) (class text : ℕ) : Type 0 where
  pub touches : List Touch
  pub effect_is : (answers : Answers) → effect store answers plan ≡ prefixed touches (effect store answers (raises (exception_class class) (contents table (Text text) ∷ [])))

-- The value is the answer of the plan, or the exception the one that it raises.
abbrev pub AnswersIn : {E : Type 0} → ValuesView → RunStore → Plan → Result Atomic E → Type 0
AnswersIn table store plan (Ok (Gives v)) = (answers : Answers) → (effect store answers plan).outcome ≡ answered (value (contents table v))
AnswersIn table store plan (Ok (Raises class text)) = RaisesText table store plan class text
AnswersIn table store plan (Ok NotAtomic) = ⊤
AnswersIn table store plan (Err want) = ⊤

-- So it is by whatever the numbers of texts and tuples mean later, and in whatever store of a run the work stands in.
abbrev pub AnswersAs : {E : Type 0} → (ValuesView → Plan) → WorkView → WorkView → Result Atomic E → Type 0
AnswersAs plan old new result = (table : ValuesView) (store : RunStore) → Extends new.values table → IsSeen table old.store store → AnswersIn table store (plan table) result
