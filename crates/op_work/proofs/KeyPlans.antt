-- What plans come to that ask for a key.
use Rattle.std.proofs.Common.{◌≡◌, refl, sym, ap, ◌∙◌, ◌⊎◌, inl, inr, ℕ, Option, Some, None}
use Rattle.py_model.specs.Faults.{not_there, too_deep}
use Rattle.py_model.specs.Keys.{with_key_of, no_key_of}
use Rattle.py_model.specs.Plan.{Plan, kind_of}
use Rattle.py_model.specs.Walks.{deepest}
use Rattle.py_value.specs.Contents.{Contents, contents}
use Rattle.py_value.specs.KeyOf.{IsNormalOf, fault_within, key_fault, normal}
use Rattle.py_value.specs.Seen.{SeenKind}
use Rattle.py_value.specs.Values.{ValuesView, AreInterned, IsNamed}
use Rattle.py_value.specs.declared.key.Key.{Key}
use Rattle.py_value.specs.declared.key.KeyFault.{KeyFault}
use Rattle.py_value.specs.declared.key.KeyFault.TheVariants.{NoKey, NotHere, TooDeep, Memory as OutOfMemory}
use Rattle.py_value.specs.declared.value.Value.{Value}
use Rattle.op_work.specs.Entries.{IsKeyOf}
use Rattle.op_work.specs.Work.{Extends}
use Rattle.op_work.proofs.EntryReads.{ContentsStay, named_on}

-- what is refused of an object decides its kind
abbrev pub refused_kind : ValuesView → Option SeenKind → (Unit {0} → Plan) → Plan
refused_kind table kind go = no_key_of kind

pub key_passes : (c : Contents) (go : Contents → Plan) → key_fault deepest c ≡ None → with_key_of c go ≡ go c
key_passes c go is = rw is refl

pub key_of_object : (c : Contents) (go : Contents → Plan) (o : ℕ) → key_fault deepest c ≡ Some (NoKey o) → with_key_of c go ≡ kind_of o no_key_of
key_of_object c go o is = rw is refl

pub key_not_there : (c : Contents) (go : Contents → Plan) → key_fault deepest c ≡ Some NotHere → with_key_of c go ≡ not_there
key_not_there c go is = rw is refl

pub key_too_deep : (c : Contents) (go : Contents → Plan) → key_fault deepest c ≡ Some TooDeep → with_key_of c go ≡ too_deep
key_too_deep c go is = rw is refl

-- what is refused is no lack of memory
pub refused : (values : ValuesView) (v : Value) (f g : KeyFault) → f ≡ g → (g ≡ OutOfMemory → ⊥) → ((f ≡ OutOfMemory) ⊎ (fault_within 100 values v ≡ Some f)) → fault_within 100 values v ≡ Some g
refused values v f g same other (inl is) = absurd (other (sym same ∙ is))
refused values v f g same other (inr is) = is ∙ ap Some same

abbrev pub FaultsOfContents : Type 0
FaultsOfContents = (view : ValuesView) (levels : ℕ) (v : Value) → AreInterned view → IsNamed view v → fault_within levels view v ≡ key_fault levels (contents view v)

module _ (stay : ContentsStay) {old table : ValuesView} (interned : AreInterned old) (extends : Extends old table) (v : Value) (named : IsNamed old v) where
  -- what is refused of a value is refused of its contents, whatever the numbers mean later
  pub fault_on : FaultsOfContents → (f : Option KeyFault) → fault_within 100 old v ≡ f → key_fault deepest (contents table v) ≡ f
  fault_on faults f is = ap (key_fault deepest) (stay old table v interned extends.texts extends.tuples named) ∙ (sym (faults old 100 v interned named) ∙ is)

  -- the normal form of a value is its key
  pub key_on : (key : Key) → IsNormalOf old table v key.value → IsKeyOf v table key
  key_on key form = (named_on extends v named, record { named = form.named; form_is = form.form_is ∙ ap normal (sym (stay old table v interned extends.texts extends.tuples named)) })
