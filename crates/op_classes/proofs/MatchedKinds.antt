-- What matching comes to, by what values and objects are.
use Rattle.std.proofs.Common.{◌≡◌, refl, ap, ◌∙◌, arith, ℕ, zero, suc, ◌+◌, ◌<◌, ◌≤◌, Bool, true, false, ◌&&◌, List, [], ◌∷◌, length, drop, get_or, Option, Some, None, Result}
use Rattle.std.proofs.lemmas.List.{drop_all}
use Rattle.py_model.specs.Classes.{longest_chain, class_walk}
use Rattle.py_model.specs.Plan.{Plan}
use Rattle.py_model.specs.Raising.{value_matches, object_matches}
use Rattle.py_value.specs.Contents.{Contents, contents}
use Rattle.py_value.specs.Seen.{SeenKind}
use Rattle.py_value.specs.Values.{ValuesView}
use Rattle.py_value.specs.declared.access.Kind.{Kind}
use Rattle.py_value.specs.declared.access.Kind.TheVariants.{List as ListKind, Dict as DictKind, Instance, File as FileKind}
use Rattle.py_value.specs.declared.value.Value.{Value}
use Rattle.py_value.specs.declared.value.Value.TheVariants.{None as NoneValue, Bool as TruthValue, Int, Text, Tuple, Range, Fn, Class, Exc, Builtin, Object}
use Rattle.op_work.specs.declared.stop.Stop.{Stop}
use Rattle.op_work.specs.Work.{WorkView, Comes, is_any, as_is}
use Rattle.op_work.proofs.Going.{comes_then}
use Rattle.py_model.proofs.Tuples.{some_tuple}
use Rattle.op_classes.specs.Kinds.{object_in, instance_of}
use Rattle.op_classes.specs.Matching.{are_classes, is_class_value}
use Rattle.op_classes.proofs.WithFiles.{Known}

pub no_object : (table : ValuesView) (v : Value) (sought : Contents) (go : Bool → Plan) → object_in v ≡ None → value_matches (contents table v) sought go ≡ go false
no_object table NoneValue sought go is = refl
no_object table (TruthValue b) sought go is = refl
no_object table (Int i) sought go is = refl
no_object table (Text id) sought go is = refl
no_object table (Tuple id) sought go is = ap (λ c. value_matches c sought go) (some_tuple table id).1
no_object table (Range a b d) sought go is = refl
no_object table (Fn at) sought go is = refl
no_object table (Class at) sought go is = refl
no_object table (Exc m) sought go is = refl
no_object table (Builtin m) sought go is = refl
no_object table (Object o) sought go is = cc

abbrev pub by_kind : Value → ValuesView → Option SeenKind → (Bool → Plan) → Plan
by_kind sought table kind go = object_matches (contents table sought) go kind

module _ (o : ℕ) (sought : Value) {a b : WorkView} {result : Result Bool Stop} where
  pub no_instance : (kind : Option Kind) → instance_of kind ≡ None → Known o a kind → Comes is_any as_is (λ (table : ValuesView) (go : Bool → Plan). go false) a b result
      → Comes is_any as_is (λ table. value_matches (contents table (Object o)) (contents table sought)) a b result
  no_instance None is known comes = comes_then (by_kind sought) known (λ table interned extends go. refl) comes
  no_instance (Some ListKind) is known comes = comes_then (by_kind sought) known (λ table interned extends go. refl) comes
  no_instance (Some DictKind) is known comes = comes_then (by_kind sought) known (λ table interned extends go. refl) comes
  no_instance (Some (Instance of)) is known comes = cc
  no_instance (Some (FileKind path mode)) is known comes = comes_then (by_kind sought) known (λ table interned extends go. refl) comes

  pub an_instance_of : (kind : Option Kind) (of : Value) → instance_of kind ≡ Some of → Known o a kind → Comes is_any as_is (λ table. class_walk longest_chain (contents table sought) (contents table of)) a b result
      → Comes is_any as_is (λ table. value_matches (contents table (Object o)) (contents table sought)) a b result
  an_instance_of None of is known comes = cc
  an_instance_of (Some ListKind) of is known comes = cc
  an_instance_of (Some DictKind) of is known comes = cc
  an_instance_of (Some (Instance other)) of is known comes = comes_then (by_kind sought) known (λ table interned extends go. ap (λ v. class_walk longest_chain (contents table sought) (contents table v) go) (one other of is)) comes
    where
      one : (v w : Value) → Some v ≡ Some w → v ≡ w
      one v w is = cc
  an_instance_of (Some (FileKind path mode)) of is known comes = cc

pub next_left : (items : List Value) (i : ℕ) (x : Value) → i < length items → drop i items ≡ get_or items i x ∷ drop (i + 1) items
next_left items i x within = by_suc items i x within ∙ ap (λ n. get_or items i x ∷ drop n items) (more i)
  where
    more : (i : ℕ) → suc i ≡ i + 1
    more i = omega (arith)

    by_suc : (items : List Value) (i : ℕ) (x : Value) → i < length items → drop i items ≡ get_or items i x ∷ drop (suc i) items
    by_suc [] i x within = absurd (omega (arith, within))
    by_suc (y ∷ items) zero x within = refl
    by_suc (y ∷ items) (suc i) x within = by_suc items i x (omega (arith, within))

-- the next value is no class, or it is one
pub not_all : (vs : List Value) (i : ℕ) (v : Value) → i < length vs → are_classes vs ≡ are_classes (drop i vs) → is_class_value (get_or vs i v) ≡ false → are_classes vs ≡ false
not_all vs i v within left is = left ∙ (ap are_classes (next_left vs i v within) ∙ ap (λ b. b && are_classes (drop (i + 1) vs)) is)

pub all_on : (vs : List Value) (i : ℕ) (v : Value) → i < length vs → are_classes vs ≡ are_classes (drop i vs) → is_class_value (get_or vs i v) ≡ true → are_classes vs ≡ are_classes (drop (i + 1) vs)
all_on vs i v within left is = left ∙ (ap are_classes (next_left vs i v within) ∙ ap (λ b. b && are_classes (drop (i + 1) vs)) is)

pub all_left : (vs : List Value) (i : ℕ) → length vs ≤ i → are_classes vs ≡ are_classes (drop i vs) → are_classes vs ≡ true
all_left vs i past left = left ∙ ap are_classes (drop_all i vs past)
