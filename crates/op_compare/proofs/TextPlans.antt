-- How two texts compare, where their order is asked.
use Rattle.std.proofs.Common.{◌≡◌, ap, ◌∙◌, ℕ, List, [], Bool, true, false, if◌then◌else◌, Some, slice_get, unwrap_or, bytes_eq}
use Rattle.py_model.specs.Plan.{Plan}
use Rattle.op_compare.specs.Comparisons.{texts_ordered}
use Rattle.py_model.specs.Walks.{Comparison, alike, compare_texts}
use Rattle.py_value.specs.Seen.{bytes_of}
use Rattle.py_value.specs.Values.{ValuesView}

pub bytes_are : (values : ValuesView) (id : ℕ) (bytes : List ℕ) → slice_get values.texts id ≡ Some bytes → bytes_of values id ≡ bytes
bytes_are values id bytes is = ap (λ found. unwrap_or found []) is

pub texts_are : (ordered : Bool) (one other : List ℕ) → ordered ≡ true → bytes_eq one other ≡ false → (go : Comparison → Plan)
    → compare_texts ordered one other go ≡ texts_ordered one other go
texts_are ordered one other asked differ go = ap (λ b. compare_texts b one other go) asked
    ∙ ap (λ b. if b then go alike else texts_ordered one other go) differ
