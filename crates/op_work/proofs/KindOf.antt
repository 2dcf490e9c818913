-- What an object is, as a plan asks it.
use Rattle.std.proofs.Common.{◌≡◌, refl, sym, ap, subst, ◌∙◌, arith, ℕ, ◌<◌, length, Option, Some, Ok, slice_get}
use Rattle.std.proofs.lemmas.Option.{slice_get_within}
use Rattle.std.proofs.lemmas.List.{length-map}
use Rattle.object_store.specs.Named.{IsNamedStore}
use Rattle.object_store.specs.Store.{kinds}
use Rattle.py_model.specs.Effect.{effect}
use Rattle.py_model.specs.Plan.{kind_of}
use Rattle.py_value.specs.Named.{IsNamedKind}
use Rattle.py_value.specs.declared.access.Kind.{Kind}
use Rattle.op_work.specs.Work.{WorkView, Comes, seen_kind}
use Rattle.op_work.proofs.Going.{gives_comes, extends_same}
use Rattle.op_work.proofs.Reading.{kind_read, kind_named}

pub kind_comes : (w : WorkView) (o : ℕ) (kind : Option Kind) → kind ≡ slice_get (kinds w.store) o → IsNamedStore w.values w.store
    → Comes IsNamedKind seen_kind (λ table. kind_of o) w w (Ok kind)
kind_comes w o kind is named = gives_comes (λ table. kind_of o) (extends_same w.values) refl kind
    (subst (λ k. IsNamedKind w.values k) (sym is) (kind_named w.values w.store named o))
    (λ table store extends seen go answers. ap (λ k. effect store answers (go k)) (kind_read table w.store store seen o ∙ ap (seen_kind table) (sym is)))

-- an object that is something is there
pub there : (w : WorkView) (o : ℕ) (kind : Kind) → Some kind ≡ slice_get (kinds w.store) o → o < length w.store.objects
there w o kind is = let within = slice_get_within (kinds w.store) o kind (sym is) in let same = length-map w.store.objects (λ ob. ob.kind) in omega (arith, within, same)
