-- The beginning and the end of a `with` as plans.
use Rattle.std.proofs.Common.{◌≡◌, refl, ap, ℕ, true, false, Option, Some, None, Result, Ok, Err, codes}
use Rattle.py_model.specs.Faults.{fault, wrong_kind}
use Rattle.py_model.specs.Names.{begin_with, end_with}
use Rattle.py_model.specs.Plan.{kind_of, read_closed, writes, write, done}
use Rattle.py_model.specs.declared.moment.Answer.{Answer as OneAnswer}
use Rattle.py_value.specs.Contents.{contents, nothing, object}
use Rattle.py_value.specs.Named.{IsNamedKind}
use Rattle.py_value.specs.Seen.{closed_at, closed_is}
use Rattle.py_value.specs.Values.{ValuesView}
use Rattle.py_value.specs.declared.access.Kind.{Kind}
use Rattle.py_value.specs.declared.access.Kind.TheVariants.{List as ListKind, Dict as DictKind, Instance, File as FileKind}
use Rattle.py_value.specs.declared.value.Value.{Value}
use Rattle.py_value.specs.declared.value.Value.TheVariants.{None as NoneValue, Bool as TruthValue, Int, Text, Tuple, Range, Fn, Class, Exc, Builtin, Object}
use Rattle.op_work.specs.declared.stop.Stop.{Stop}
use Rattle.op_work.specs.Work.{WorkView, Comes, Ends, is_any, as_is, seen_kind}
use Rattle.op_work.proofs.Ending.{ends_then, ends_stop}
use Rattle.py_model.proofs.Tuples.{some_tuple}
use Rattle.op_classes.specs.Kinds.{object_in, is_file_kind}

pub object_is : (v : Value) (o : ℕ) → object_in v ≡ Some o → v ≡ Object o
object_is NoneValue o is = cc
object_is (TruthValue b) o is = cc
object_is (Int i) o is = cc
object_is (Text id) o is = cc
object_is (Tuple id) o is = cc
object_is (Range a b d) o is = cc
object_is (Fn place) o is = cc
object_is (Class place) o is = cc
object_is (Exc number) o is = cc
object_is (Builtin number) o is = cc
object_is (Object p) o is = cc

pub begin_other : (table : ValuesView) (v : Value) → object_in v ≡ None → begin_with (contents table v) ≡ wrong_kind
begin_other table NoneValue is = refl
begin_other table (TruthValue b) is = refl
begin_other table (Int i) is = refl
begin_other table (Text id) is = refl
begin_other table (Tuple id) is = ap (begin_with) (some_tuple table id).1
begin_other table (Range a b d) is = refl
begin_other table (Fn place) is = refl
begin_other table (Class place) is = refl
begin_other table (Exc number) is = refl
begin_other table (Builtin number) is = refl
begin_other table (Object o) is = cc

pub end_other : (table : ValuesView) (v : Value) → object_in v ≡ None → end_with (contents table v) ≡ wrong_kind
end_other table NoneValue is = refl
end_other table (TruthValue b) is = refl
end_other table (Int i) is = refl
end_other table (Text id) is = refl
end_other table (Tuple id) is = ap (end_with) (some_tuple table id).1
end_other table (Range a b d) is = refl
end_other table (Fn place) is = refl
end_other table (Class place) is = refl
end_other table (Exc number) is = refl
end_other table (Builtin number) is = refl
end_other table (Object o) is = cc

-- what an object is, was read
abbrev pub Known : ℕ → WorkView → Option Kind → Type 0
Known o w kind = Comes IsNamedKind seen_kind (λ table. kind_of o) w w (Ok kind)

module _ (o : ℕ) {a b : WorkView} {result : Result OneAnswer Stop} where
  pub begin_refuses : (kind : Option Kind) → is_file_kind kind ≡ false → Known o a kind → Ends (λ table. wrong_kind) a b result → Ends (λ table. begin_with (object o)) a b result
  begin_refuses None is known ends = ends_then _ known (λ table interned extends. refl) ends
  begin_refuses (Some ListKind) is known ends = ends_then _ known (λ table interned extends. refl) ends
  begin_refuses (Some DictKind) is known ends = ends_then _ known (λ table interned extends. refl) ends
  begin_refuses (Some (Instance of)) is known ends = ends_then _ known (λ table interned extends. refl) ends
  begin_refuses (Some (FileKind path mode)) is known ends = cc

  pub end_refuses : (kind : Option Kind) → is_file_kind kind ≡ false → Known o a kind → Ends (λ table. wrong_kind) a b result → Ends (λ table. end_with (object o)) a b result
  end_refuses None is known ends = ends_then _ known (λ table interned extends. refl) ends
  end_refuses (Some ListKind) is known ends = ends_then _ known (λ table interned extends. refl) ends
  end_refuses (Some DictKind) is known ends = ends_then _ known (λ table interned extends. refl) ends
  end_refuses (Some (Instance of)) is known ends = ends_then _ known (λ table interned extends. refl) ends
  end_refuses (Some (FileKind path mode)) is known ends = cc

  pub end_goes : (kind : Option Kind) → is_file_kind kind ≡ true → Known o a kind → Ends (λ table. writes (write (closed_at o) (closed_is true) (done nothing))) a b result
      → Ends (λ table. end_with (object o)) a b result
  end_goes None is known ends = cc
  end_goes (Some ListKind) is known ends = cc
  end_goes (Some DictKind) is known ends = cc
  end_goes (Some (Instance of)) is known ends = cc
  end_goes (Some (FileKind path mode)) is known ends = ends_then _ known (λ table interned extends. refl) ends

module _ (o : ℕ) {a b : WorkView} where
  pub begin_stops : (stop : Stop) (kind : Option Kind) → is_file_kind kind ≡ true → Known o a kind → Comes is_any as_is (λ table. read_closed o) a b (Err stop)
      → Ends (λ table. begin_with (object o)) a b (Err stop)
  begin_stops stop None is known closed = cc
  begin_stops stop (Some ListKind) is known closed = cc
  begin_stops stop (Some DictKind) is known closed = cc
  begin_stops stop (Some (Instance of)) is known closed = cc
  begin_stops stop (Some (FileKind path mode)) is known closed = ends_then _ known (λ table interned extends. refl) (ends_stop _ stop closed)

module _ (o : ℕ) {a b c : WorkView} where
  pub begin_closed : {result : Result OneAnswer Stop} (kind : Option Kind) → is_file_kind kind ≡ true → Known o a kind → Comes is_any as_is (λ table. read_closed o) a b (Ok true)
      → Ends (λ table. fault 10 (codes "file is closed")) b c result → Ends (λ table. begin_with (object o)) a c result
  begin_closed None is known closed ends = cc
  begin_closed (Some ListKind) is known closed ends = cc
  begin_closed (Some DictKind) is known closed ends = cc
  begin_closed (Some (Instance of)) is known closed ends = cc
  begin_closed (Some (FileKind path mode)) is known closed ends = ends_then _ known (λ table interned extends. refl) (ends_then _ closed (λ table interned extends. refl) ends)

  pub begin_open : {result : Result OneAnswer Stop} (kind : Option Kind) → is_file_kind kind ≡ true → Known o a kind → Comes is_any as_is (λ table. read_closed o) a b (Ok false)
      → Ends (λ table. writes (done (object o))) b c result → Ends (λ table. begin_with (object o)) a c result
  begin_open None is known closed ends = cc
  begin_open (Some ListKind) is known closed ends = cc
  begin_open (Some DictKind) is known closed ends = cc
  begin_open (Some (Instance of)) is known closed ends = cc
  begin_open (Some (FileKind path mode)) is known closed ends = ends_then _ known (λ table interned extends. refl) (ends_then _ closed (λ table interned extends. refl) ends)
