-- What a value is sought in, by its kind.
use Rattle.std.proofs.Common.{◌≡◌, refl, ap, ℕ, zero, suc, Bool, Option, Some, None, is_some}
use Rattle.py_model.specs.Arithmetic.{among_items}
use Rattle.py_model.specs.Faults.{wrong_kind}
use Rattle.py_model.specs.Keys.{with_key_of}
use Rattle.py_model.specs.Lists.{seek}
use Rattle.py_model.specs.Plan.{Plan, read_len, read_entry}
use Rattle.py_model.specs.Walks.{read_value, equals}
use Rattle.py_value.specs.Contents.{Contents, contents}
use Rattle.py_value.specs.Seen.{SeenKind, a_list, a_dict}
use Rattle.py_value.specs.Values.{ValuesView}
use Rattle.py_value.specs.declared.value.Value.{Value}
use Rattle.op_work.specs.Entries.{seen_entry}
use Rattle.op_compare.proofs.PartSearch.{by_hit}

-- a value is among items where it has a place among them
pub among_seek : (n o i : ℕ) (v : Contents) (go : Bool → Plan) → among_items n o i v go ≡ seek n o i v (λ place. go (is_some place))
among_seek zero o i v go = refl
among_seek (suc n) o i v go = ap (λ next. read_value o i (λ item. equals v item (λ same. by_hit go next same))) (among_seek n o (suc i) v go)

pub entry_there : (table : ValuesView) (entry : Option (Value × Value)) → is_some (seen_entry table entry) ≡ is_some entry
entry_there table None = refl
entry_there table (Some pair) = refl

-- a value is sought in an object
abbrev found_in : ℕ → Contents → (Bool → Plan) → Option SeenKind → Plan
found_in o v go (Some a_list) = read_len o (λ n. among_items n o 0 v go)
found_in o v go (Some a_dict) = with_key_of v (λ key. read_entry o key (λ entry. go (is_some entry)))
found_in o v go other = wrong_kind

abbrev pub found_by : ℕ → Value → ValuesView → Option SeenKind → (Bool → Plan) → Plan
found_by o v table kind go = found_in o (contents table v) go kind
