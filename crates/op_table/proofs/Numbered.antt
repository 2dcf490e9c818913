-- What came to its end as the plan of a number did so as that of the operation.
use Rattle.std.proofs.Common.{◌≡◌, refl, sym, ap, subst, ◌∙◌, arith, ℕ, zero, suc, ◌≤◌, pos, negsuc, nat_lt, nat_le, ◌-◌, Bool, true, false, ◌||◌, ◌&&◌, if◌then◌else◌, List, [], ◌∷◌, map, length, slice_get, None, Result, Err}
use Rattle.std.proofs.lemmas.Bool.{false≢true, le-leb, ltb-false}
use Rattle.py_model.specs.Faults.{wrong_number}
use Rattle.py_model.specs.Operations.{Op as SeenOp, language, functions, methods, or_none, or_no_operation, def_plan, class_plan, is_silent, targets_of}
use Rattle.py_model.specs.Plan.{Plan}
use Rattle.py_model.specs.Told.{is_operation}
use Rattle.op_classes.specs.Definitions.{defining, beginning}
use Rattle.op_table.specs.Operands.{silent_value, targets_value}
use Rattle.py_model.proofs.Tuples.{some_tuple}
use Rattle.py_value.specs.Contents.{Contents, contents}
use Rattle.py_value.specs.declared.value.Value.TheVariants.{None as NoneValue, Bool as TruthValue, Int, Text, Tuple, Range, Fn, Class, Exc, Builtin, Object}
use Rattle.py_model.specs.declared.moment.Answer.{Answer as OneAnswer}
use Rattle.py_model.specs.declared.moment.Op.{Op}
use Rattle.py_value.specs.Values.{ValuesView}
use Rattle.py_value.specs.declared.value.Value.{Value}
use Rattle.op_work.specs.declared.stop.Stop.{Stop}
use Rattle.op_work.specs.declared.stop.Stop.TheVariants.{Memory}
use Rattle.op_work.proofs.Going.{extends_same}
use Rattle.op_work.specs.Work.{WorkView, Ends}
use Rattle.op_numbers.proofs.EndsAlike.{ends_as}
use Rattle.op_table.specs.Table.{planned, planned_at, seen_as}

pub at_number : (n : ℕ) (op : Op) (operands : List Value) → op.no ≡ n → {plan : ValuesView → Plan} → ((table : ValuesView) → planned_at n op operands table ≡ plan table)
    → {a b : WorkView} {result : Result OneAnswer Stop} → Ends plan a b result → Ends (planned op operands) a b result
at_number n op operands is {plan} same ends = ends_as (planned op operands) plan (λ table interned extends. ap (λ k. planned_at k op operands table) is ∙ same table) ends

-- out of memory says nothing of a plan
pub ends_missing : (plan : ValuesView → Plan) (w : WorkView) (result : Result OneAnswer Stop) → result ≡ Err Memory → Ends plan w w result
ends_missing plan w result is = subst (Ends plan w w) (sym is) (record {
  store_is = refl;
  left_is = refl;
  extends = extends_same w.values;
  is_named = tt;
  came = λ table store extends seen. tt;
})

-- a definition is the same in whatever activation
pub def_same : (op : SeenOp) (values : List Contents) → def_plan op values ≡ def_plan (defining op.name op.value) values
def_same op [] = refl
def_same op (of ∷ []) = refl
def_same op (of ∷ more ∷ values) = refl

pub class_same : (op : SeenOp) (values : List Contents) → class_plan op values ≡ class_plan (beginning op.name op.value) values
class_same op [] = refl
class_same op (base ∷ []) = refl
class_same op (base ∷ more ∷ values) = refl

-- what the value of an operation says
pub silent_is : (table : ValuesView) (v : Value) → is_silent (contents table v) ≡ silent_value v
silent_is table NoneValue = refl
silent_is table (TruthValue b) = refl
silent_is table (Int i) = refl
silent_is table (Text id) = refl
silent_is table (Tuple id) = ap is_silent (some_tuple table id).1
silent_is table (Range a b c) = refl
silent_is table (Fn place) = refl
silent_is table (Class place) = refl
silent_is table (Exc number) = refl
silent_is table (Builtin number) = refl
silent_is table (Object o) = refl

pub targets_is : (table : ValuesView) (v : Value) → targets_of (contents table v) ≡ targets_value v
targets_is table NoneValue = refl
targets_is table (TruthValue b) = refl
targets_is table (Int (pos n)) = refl
targets_is table (Int (negsuc n)) = refl
targets_is table (Text id) = refl
targets_is table (Tuple id) = ap targets_of (some_tuple table id).1
targets_is table (Range a b c) = refl
targets_is table (Fn place) = refl
targets_is table (Class place) = refl
targets_is table (Exc number) = refl
targets_is table (Builtin number) = refl
targets_is table (Object o) = refl

-- a number that no operation has
beyond : {A : Type 0} (xs : List A) (n : ℕ) → length xs ≤ n → slice_get xs n ≡ None
beyond [] n past = refl
beyond (x ∷ xs) zero past = absurd (omega (arith, past))
beyond (x ∷ xs) (suc n) past = beyond xs n (omega (arith, past))

or_left : (a b : Bool) → a || b ≡ false → a ≡ false
or_left false b is = refl
or_left true b is = is

or_right : (a b : Bool) → a || b ≡ false → b ≡ false
or_right false b is = is
or_right true b is = absurd (false≢true (sym is))

and_right : (a b : Bool) → a && b ≡ false → a ≡ true → b ≡ false
and_right true b is here = is
and_right false b is here = absurd (false≢true here)

pub no_operation : (n : ℕ) (op : Op) (operands : List Value) (table : ValuesView) → is_operation n ≡ false → planned_at n op operands table ≡ wrong_number
no_operation n op operands table is = by (nat_lt n 50) refl (nat_lt n 80) refl
  where
    values : List Contents
    values = map (contents table) operands

    seen : SeenOp
    seen = seen_as n table op

    later : SeenOp → List Contents → Plan
    later o vs = if nat_lt n 80 then or_none (slice_get functions (n - 50)) vs else or_none (slice_get methods (n - 80)) vs

    past_first : nat_lt n 48 ≡ false
    past_first = or_left (nat_lt n 48) _ is

    others : ((nat_le 50 n && nat_lt n 72) || (nat_le 80 n && nat_lt n 112)) ≡ false
    others = or_right (nat_lt n 48) _ is

    by : (b : Bool) → nat_lt n 50 ≡ b → (d : Bool) → nat_lt n 80 ≡ d → planned_at n op operands table ≡ wrong_number
    by true below d other = ap (λ b. (if b then or_no_operation (slice_get language n) seen values else later seen values)) below
        ∙ ap (λ f. or_no_operation f seen values) (beyond language n (ltb-false n 48 past_first))
    by false past true below =
        let after_functions = ltb-false n 72 (and_right (nat_le 50 n) (nat_lt n 72) (or_left (nat_le 50 n && nat_lt n 72) _ others) (le-leb 50 n (ltb-false n 50 past))) in
        ap (λ b. (if b then or_no_operation (slice_get language n) seen values else later seen values)) past
        ∙ (ap (λ b. if b then or_none (slice_get functions (n - 50)) values else or_none (slice_get methods (n - 80)) values) below
        ∙ ap (λ f. or_none f values) (beyond functions (n - 50) (omega (arith, after_functions))))
    by false past false above =
        let after_methods = ltb-false n 112 (and_right (nat_le 80 n) (nat_lt n 112) (or_right (nat_le 50 n && nat_lt n 72) _ others) (le-leb 80 n (ltb-false n 80 above))) in
        ap (λ b. (if b then or_no_operation (slice_get language n) seen values else later seen values)) past
        ∙ (ap (λ b. if b then or_none (slice_get functions (n - 50)) values else or_none (slice_get methods (n - 80)) values) above
        ∙ ap (λ f. or_none f values) (beyond methods (n - 80) (omega (arith, after_methods))))
