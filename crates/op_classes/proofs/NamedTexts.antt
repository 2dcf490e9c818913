-- Texts of exceptions that name something, and names behind more texts.
use Rattle.std.proofs.Common.{◌≡◌, refl, sym, ap, ◌∙◌, ℕ, ◌<◌, length, List, [], Option, Some, slice_get, get_or, unwrap_or}
use Rattle.std.proofs.lemmas.Option.{slice_get-get_or}
use Rattle.py_value.specs.Seen.{bytes_of}
use Rattle.py_value.specs.Values.{ValuesView}
use Rattle.op_work.specs.declared.stop.Stop.TheVariants.{Memory}
use Rattle.op_work.specs.Work.{WorkView, Extends, Faults}
use Rattle.op_work.proofs.Going.{extends_same}

-- a text keeps its bytes
pub bytes_stay : (old : ValuesView) {table : ValuesView} (name : ℕ) → name < length old.texts → Extends old table → bytes_of table name ≡ bytes_of old name
bytes_stay old {table} name within extends =
    let is = slice_get-get_or old.texts name [] within in
    ap (λ (b : Option (List ℕ)). unwrap_or b []) (extends.texts name (get_or old.texts name []) is) ∙ sym (ap (λ (b : Option (List ℕ)). unwrap_or b []) is)

pub bytes_are : (view : ValuesView) (name : ℕ) (bytes : List ℕ) → slice_get view.texts name ≡ Some bytes → bytes_of view name ≡ bytes
bytes_are view name bytes is = ap (λ (b : Option (List ℕ)). unwrap_or b []) is

pub faults_none : (class : ℕ) (words : List ℕ) (w : WorkView) → Faults class words w w Memory
faults_none class words w = record {
  kept = record { store_is = refl; made_is = refl; left_is = refl; extends = extends_same w.values };
  is_named = tt;
  came = λ table store extends seen. tt;
}
