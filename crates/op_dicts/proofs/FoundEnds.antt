-- How plans go on with what is found at a key.
use Rattle.std.proofs.Common.{◌≡◌, refl, sym, subst, ℕ, Option, Some, None, Err}
use Rattle.std.specs.Prelude.{unwrap_or}
use Rattle.std.specs.Option.{option_map}
use Rattle.py_model.specs.Dicts.{when_dict}
use Rattle.py_value.specs.Seen.{SeenKind}
use Rattle.op_dicts.specs.Founds.{pair_set, pair_added, pair_removed}
use Rattle.op_work.proofs.EntryReads.{ContentsStay, form_on, named_on}
use Rattle.op_work.proofs.Going.{extends_same, stays}
use Rattle.op_work.specs.Entries.{IsKeyOf}
use Rattle.op_work.specs.Work.{WorkView, Extends, Ends, Goes, under, raising}
use Rattle.op_work.specs.declared.stop.Stop.TheVariants.{Raises}
use Rattle.py_model.specs.Keys.{lacks_key}
use Rattle.py_model.specs.Plan.{Plan, writes, done, read_entry}
use Rattle.py_value.specs.Contents.{Contents, contents}
use Rattle.py_value.specs.KeyOf.{normal}
use Rattle.py_value.specs.Values.{ValuesView, AreInterned, IsNamed}
use Rattle.py_value.specs.declared.key.Key.{Key}
use Rattle.py_value.specs.declared.value.Value.{Value}

-- a key and what is found at it
abbrev pub Found : Type 0
Found = Contents × Option (Contents × Contents)

-- an entry is read at a key
abbrev pub at_key : ℕ → ValuesView → Contents → (Found → Plan) → Plan
at_key o table k go = read_entry o k (λ entry. go (k, entry))

abbrev get_found : Contents → Option (Contents × Contents) → Plan
get_found k (Some pair) = writes (done pair.1)
get_found k None = lacks_key k

abbrev set_found : ℕ → Contents → Contents → Option (Contents × Contents) → Plan
set_found o item k (Some pair) = writes (pair_set o (normal k) pair.0 item)
set_found o item k None = writes (pair_added o (normal k) k item)

abbrev del_found : ℕ → Contents → Option (Contents × Contents) → Plan
del_found o k (Some pair) = writes (pair_removed o (normal k) pair.0)
del_found o k None = lacks_key k

abbrev pub get_next : ValuesView → Found → Plan
get_next table x = get_found x.0 x.1

abbrev pub set_next : ℕ → Value → ValuesView → Found → Plan
set_next o item table x = set_found o (contents table item) x.0 x.1

abbrev pub del_next : ℕ → ValuesView → Found → Plan
del_next o table x = del_found o x.0 x.1

abbrev pub only_dicts : ValuesView → Option SeenKind → (Unit {0} → Plan) → Plan
only_dicts table kind go = when_dict (go tt) kind

abbrev or_found : Contents → Option (Contents × Contents) → Plan
or_found instead entry = writes (done (unwrap_or (option_map (λ (pair : Contents × Contents). pair.1) entry) instead))

abbrev pub or_next : Value → ValuesView → Found → Plan
or_next instead table x = or_found (contents table instead) x.1

-- a plan that raises an exception of the language with a value
pub ends_raises : (plan : ValuesView → Plan) (w : WorkView) (class : ℕ) (v : Value) → IsNamed w.values v
    → ((table : ValuesView) → AreInterned table → Extends w.values table → plan table ≡ raising table class v) → Ends plan w w (Err (Raises class v))
ends_raises plan w class v named plan_is = record {
  store_is = refl;
  left_is = refl;
  extends = extends_same w.values;
  is_named = named;
  came = λ table store extends seen. subst (λ p. Goes table w w (under store p) (under store (raising table class v))) (sym (plan_is table seen.interned extends))
      (stays table w (under store (raising table class v)));
}

-- a key stays a value's key
pub key_kept : ContentsStay → {old new : ValuesView} → AreInterned old → Extends old new → (v : Value) (key : Key) → IsKeyOf v old key → IsKeyOf v new key
key_kept stay interned extends v key is = (named_on extends v is.0, record { named = named_on extends key.value is.1.named; form_is = form_on stay interned extends v key is })
