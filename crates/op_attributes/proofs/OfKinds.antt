-- What operations on the attributes of an object come to, by its kind.
use Rattle.std.proofs.Common.{◌≡◌, refl, ap, ℕ, ◌<◌, length, slice_get, Option, Some, None, Result}
use Rattle.object_store.specs.Store.{kinds}
use Rattle.py_model.specs.Classes.{getattr, setattr, getattr_of_object, setattr_of_object, find_of_object, instance_attribute, no_method_value, setattr_entry}
use Rattle.py_model.specs.Faults.{not_there}
use Rattle.py_model.specs.Plan.{Plan, read_entry}
use Rattle.py_model.specs.declared.moment.Answer.{Answer as OneAnswer}
use Rattle.py_value.specs.Contents.{contents, object, text}
use Rattle.py_value.specs.Seen.{SeenKind, bytes_of}
use Rattle.py_value.specs.Values.{ValuesView}
use Rattle.py_value.specs.declared.access.Kind.{Kind}
use Rattle.py_value.specs.declared.access.Kind.TheVariants.{List as ListKind, Dict as DictKind, Instance, File as FileKind}
use Rattle.py_value.specs.declared.value.Value.{Value}
use Rattle.op_classes.specs.Kinds.{instance_of}
use Rattle.op_classes.proofs.WithFiles.{Known}
use Rattle.op_work.proofs.Ending.{ends_then}
use Rattle.op_work.proofs.KindOf.{there}
use Rattle.op_work.specs.Work.{WorkView, Ends}
use Rattle.op_work.specs.declared.stop.Stop.{Stop}

one : (v w : Value) → Some v ≡ Some w → v ≡ w
one v w is = cc

-- an instance is there
pub instance_there : (w : WorkView) (o : ℕ) (kind : Option Kind) (of : Value) → instance_of kind ≡ Some of → kind ≡ slice_get (kinds w.store) o → o < length w.store.objects
instance_there w o None of is at = cc
instance_there w o (Some ListKind) of is at = cc
instance_there w o (Some DictKind) of is at = cc
instance_there w o (Some (Instance other)) of is at = there w o (Instance other) at
instance_there w o (Some (FileKind path mode)) of is at = cc

abbrev gets : ℕ → ℕ → ValuesView → Option SeenKind → Plan
gets name o table kind = getattr_of_object (bytes_of table name) o kind

abbrev sets_it : ℕ → ℕ → Value → ValuesView → Option SeenKind → Plan
sets_it name o v table kind = setattr_of_object (bytes_of table name) o (contents table v) kind

abbrev pub finds : ℕ → ℕ → ValuesView → Option SeenKind → Plan
finds name o table kind = find_of_object (bytes_of table name) o kind

module _ (name o : ℕ) {a b : WorkView} {result : Result OneAnswer Stop} where
  pub gets_none : (kind : Option Kind) → instance_of kind ≡ None → Known o a kind → Ends (λ table. not_there) a b result → Ends (λ table. getattr (bytes_of table name) (object o)) a b result
  gets_none None is known ends = ends_then (gets name o) known (λ table interned extends. refl) ends
  gets_none (Some ListKind) is known ends = ends_then (gets name o) known (λ table interned extends. refl) ends
  gets_none (Some DictKind) is known ends = ends_then (gets name o) known (λ table interned extends. refl) ends
  gets_none (Some (Instance of)) is known ends = cc
  gets_none (Some (FileKind path mode)) is known ends = ends_then (gets name o) known (λ table interned extends. refl) ends

  pub gets_instance : (kind : Option Kind) (of : Value) → instance_of kind ≡ Some of → Known o a kind
      → Ends (λ table. instance_attribute (bytes_of table name) no_method_value o (contents table of)) a b result → Ends (λ table. getattr (bytes_of table name) (object o)) a b result
  gets_instance None of is known ends = cc
  gets_instance (Some ListKind) of is known ends = cc
  gets_instance (Some DictKind) of is known ends = cc
  gets_instance (Some (Instance other)) of is known ends = ends_then (gets name o) known
      (λ table interned extends. ap (λ v. instance_attribute (bytes_of table name) no_method_value o (contents table v)) (one other of is)) ends
  gets_instance (Some (FileKind path mode)) of is known ends = cc

module _ (name o : ℕ) (v : Value) {a b : WorkView} {result : Result OneAnswer Stop} where
  pub sets_none : (kind : Option Kind) → instance_of kind ≡ None → Known o a kind → Ends (λ table. not_there) a b result
      → Ends (λ table. setattr (bytes_of table name) (object o) (contents table v)) a b result
  sets_none None is known ends = ends_then (sets_it name o v) known (λ table interned extends. refl) ends
  sets_none (Some ListKind) is known ends = ends_then (sets_it name o v) known (λ table interned extends. refl) ends
  sets_none (Some DictKind) is known ends = ends_then (sets_it name o v) known (λ table interned extends. refl) ends
  sets_none (Some (Instance of)) is known ends = cc
  sets_none (Some (FileKind path mode)) is known ends = ends_then (sets_it name o v) known (λ table interned extends. refl) ends

  pub sets_instance : (kind : Option Kind) (of : Value) → instance_of kind ≡ Some of → Known o a kind
      → Ends (λ table. read_entry o (text (bytes_of table name)) (λ entry. setattr_entry (bytes_of table name) o (contents table v) entry)) a b result
      → Ends (λ table. setattr (bytes_of table name) (object o) (contents table v)) a b result
  sets_instance None of is known ends = cc
  sets_instance (Some ListKind) of is known ends = cc
  sets_instance (Some DictKind) of is known ends = cc
  sets_instance (Some (Instance other)) of is known ends = ends_then (sets_it name o v) known (λ table interned extends. refl) ends
  sets_instance (Some (FileKind path mode)) of is known ends = cc
