-- What operations and moments are without numbers of texts and tuples, and what a watch keeps of what it is told.
use Rattle.std.specs.Prelude.{◌≡◌, ℕ, Bool, true, ◌==◌, ◌||◌, ◌&&◌, nat_le, nat_lt, ◌<◌, length, List, [], ◌∷◌, map, Option, Some, None, Result, Ok, Err, if◌then◌else◌, ⊤}
use Rattle.std.specs.Option.{option_map}
use Rattle.py_value.specs.Contents.{contents}
use Rattle.py_value.specs.Seen.{access_seen, kind_seen, bytes_of}
pub use Rattle.py_value.specs.Named.{IsNamedKind, IsNamedContent, IsNamedChange, fits, fits_change, IsNamedAccess, AreNamedAccesses}
use Rattle.py_value.specs.Values.{ValuesView, IsNamed, AreNamed}
use Rattle.py_model.specs.declared.moment.Answer.{Answer as OneAnswer}
use Rattle.py_model.specs.declared.moment.Answer.TheVariants.{Value as ValueAnswer, Raised, End as EndAnswer}
use Rattle.py_model.specs.declared.moment.How.{How as OneHow}
use Rattle.py_model.specs.declared.moment.How.TheVariants.{Normal, Break, Continue, Return, Raise}
use Rattle.py_model.specs.declared.moment.Moment.{Moment as OneMoment}
use Rattle.py_model.specs.declared.moment.Moment.TheVariants.{Begin, Do, Enter, Leave, End}
use Rattle.py_model.specs.declared.moment.Op.{Op as OneOp}
use Rattle.py_model.specs.Moment.{Moment, begins, does, enters, leaves, ends, Ending, normal_end, break_end, continue_end, return_end, raise_end}
use Rattle.py_model.specs.Operations.{Op}
use Rattle.py_model.specs.Plan.{Answer, value, raised, at_end}

abbrev pub answer_seen : ValuesView → OneAnswer → Answer
answer_seen view (ValueAnswer v) = value (contents view v)
answer_seen view (Raised o) = raised o
answer_seen view EndAnswer = at_end

abbrev pub how_seen : OneHow → Ending
how_seen Normal = normal_end
how_seen Break = break_end
how_seen Continue = continue_end
how_seen Return = return_end
how_seen Raise = raise_end

-- The operations that name a text: load, getattr, setattr, find, bind, unbind, def, class, import. The name of any other is nothing.
abbrev pub names_text : ℕ → Bool
names_text number = (number == 1) || ((nat_le 30 number && nat_le number 34) || (nat_le 42 number && nat_le number 44))

abbrev pub op_seen : ValuesView → OneOp → Op
op_seen view op = record { no = op.no; scope = op.scope; name = (if names_text op.no then bytes_of view op.name else []); value = contents view op.value }

abbrev pub moment_seen : ValuesView → OneMoment → Moment
moment_seen view (Begin number) = begins number
moment_seen view (Do at number values answer made accesses weight) =
    does at number (map (contents view) values) (answer_seen view answer) (option_map (kind_seen view) made) (map (access_seen view) accesses) weight
moment_seen view (Enter at def values accesses) = enters at def (map (contents view) values) (map (access_seen view) accesses)
moment_seen view (Leave v) = leaves (contents view v)
moment_seen view (End number how) = ends number (how_seen how)

-- What a watch tells, the latest first, has the moment that it was told in front. After a refusal it is as before. A watch that tells
-- nothing afterwards says nothing; one that tells afterwards told before.
abbrev pub IsToldNow : {T E : Type 0} → Result T E → Moment → List Moment → List Moment → Type 0
IsToldNow (Ok done) moment before after = after ≡ moment ∷ before
IsToldNow (Err want) moment before after = after ≡ before

abbrev pub TellsOn : Option (List Moment) → Option (List Moment) → (List Moment → List Moment → Type 0) → Type 0
TellsOn before None P = ⊤
TellsOn None (Some after) P = ⊥
TellsOn (Some before) (Some after) P = P before after

-- the texts and tuples that something names are named so far
abbrev pub IsNamedOp : ValuesView → OneOp → Type 0
IsNamedOp view op = IsNamed view op.value × (names_text op.no ≡ true → op.name < length view.texts)

abbrev pub IsNamedAnswer : ValuesView → OneAnswer → Type 0
IsNamedAnswer view (ValueAnswer v) = IsNamed view v
IsNamedAnswer view (Raised o) = ⊤
IsNamedAnswer view EndAnswer = ⊤

-- the numbers that operations have
abbrev pub is_operation : ℕ → Bool
is_operation number = nat_lt number 48 || ((nat_le 50 number && nat_lt number 72) || (nat_le 80 number && nat_lt number 112))

-- A moment can be told: its texts and tuples are named, its operation is one, and what it sets is of the location's own kind.
abbrev pub IsTellable : ValuesView → OneMoment → Type 0
IsTellable view (Begin number) = ⊤
IsTellable view (Do at number values answer made accesses weight) =
    (is_operation number ≡ true) × (AreNamed view values × (IsNamedAnswer view answer × (IsNamedKind view made × AreNamedAccesses view accesses)))
IsTellable view (Enter at def values accesses) = AreNamed view values × AreNamedAccesses view accesses
IsTellable view (Leave v) = IsNamed view v
IsTellable view (End number how) = ⊤
