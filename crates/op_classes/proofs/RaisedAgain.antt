-- An exception that is raised again, and objects that are none.
use Rattle.std.proofs.Common.{◌≡◌, sym, ap, ◌∙◌, refl, arith, append-nil, ℕ, [], map, Option, Some, None, Ok, Result}
use Rattle.py_model.specs.Effect.{Effect, answered, effect}
use Rattle.py_model.specs.Faults.{wrong_kind}
use Rattle.py_model.specs.Plan.{Plan, raised, raises_again}
use Rattle.py_model.specs.Raising.{raise, raise_object}
use Rattle.py_model.specs.declared.moment.Answer.{Answer as OneAnswer}
use Rattle.py_model.specs.declared.moment.Answer.TheVariants.{Raised}
use Rattle.py_value.specs.Contents.{contents, object}
use Rattle.py_value.specs.Seen.{SeenKind, access_seen}
use Rattle.py_value.specs.Values.{ValuesView, AreInterned}
use Rattle.py_value.specs.declared.access.Kind.{Kind}
use Rattle.py_value.specs.declared.access.Kind.TheVariants.{List as ListKind, Dict as DictKind, Instance, File as FileKind}
use Rattle.py_value.specs.declared.value.Value.{Value}
use Rattle.op_classes.specs.Kinds.{instance_of}
use Rattle.op_classes.proofs.WithFiles.{Known}
use Rattle.op_classes.specs.Raises.{instance_raised}
use Rattle.op_work.proofs.Ending.{ends_then}
use Rattle.op_work.proofs.Going.{extends_same}
use Rattle.op_work.specs.Work.{WorkView, Extends, Ends, seen_kind}
use Rattle.op_work.specs.declared.stop.Stop.{Stop}

abbrev again_so : ℕ → Option SeenKind → Effect
again_so o made = record { outcome = answered (raised o); made = made; touches = [] }

-- a plan that raises an exception that is there, and touches nothing
pub ends_again : (plan : ValuesView → Plan) (w : WorkView) (o : ℕ) → w.made ≡ None
    → ((table : ValuesView) → AreInterned table → Extends w.values table → plan table ≡ raises_again o) → Ends plan w w (Ok (Raised o))
ends_again plan w o none plan_is = record {
  store_is = refl;
  left_is = refl;
  extends = extends_same w.values;
  is_named = tt;
  came = λ table store extends seen. record {
    touches = [];
    plain = tt;
    effect_is = λ answers. ap (effect store answers) (plan_is table seen.interned extends) ∙ ap (again_so o) (sym (ap (seen_kind table) none));
    touched_is = sym (append-nil (map (access_seen table) w.touched));
    looks_are = omega (arith);
    characters_are = omega (arith);
    said_is = refl;
  };
}

abbrev of_kind : ℕ → ValuesView → Option SeenKind → Plan
of_kind o table kind = raise_object o kind

module _ (o : ℕ) {a b : WorkView} {result : Result OneAnswer Stop} where
  pub raises_none : (kind : Option Kind) → instance_of kind ≡ None → Known o a kind → Ends (λ table. wrong_kind) a b result → Ends (λ table. raise (object o)) a b result
  raises_none None is known ends = ends_then (of_kind o) known (λ table interned extends. refl) ends
  raises_none (Some ListKind) is known ends = ends_then (of_kind o) known (λ table interned extends. refl) ends
  raises_none (Some DictKind) is known ends = ends_then (of_kind o) known (λ table interned extends. refl) ends
  raises_none (Some (Instance of)) is known ends = cc
  raises_none (Some (FileKind path mode)) is known ends = ends_then (of_kind o) known (λ table interned extends. refl) ends

  pub raises_instance : (kind : Option Kind) (of : Value) → instance_of kind ≡ Some of → Known o a kind → Ends (λ table. instance_raised o (contents table of)) a b result
      → Ends (λ table. raise (object o)) a b result
  raises_instance None of is known ends = cc
  raises_instance (Some ListKind) of is known ends = cc
  raises_instance (Some DictKind) of is known ends = cc
  raises_instance (Some (Instance other)) of is known ends = ends_then (of_kind o) known (λ table interned extends. ap (λ v. instance_raised o (contents table v)) (one other of is)) ends
    where
      one : (v w : Value) → Some v ≡ Some w → v ≡ w
      one v w is = cc
  raises_instance (Some (FileKind path mode)) of is known ends = cc
