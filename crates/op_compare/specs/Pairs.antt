-- No public clause cites this file.
-- Pairs of items that are compared, and what objects are compared as.
use Rattle.std.specs.Prelude.{ℕ, Option, Some, None}
use Rattle.op_compare.specs.declared.pairs.Shape.{Shape}
use Rattle.op_compare.specs.declared.pairs.Shape.TheVariants.{Lists, Dicts, Others}
use Rattle.py_model.specs.Plan.{Plan, read_entry}
use Rattle.py_model.specs.Walks.{read_value}
use Rattle.py_value.specs.Contents.{Contents}
use Rattle.py_value.specs.Seen.{SeenKind, a_list, a_dict}
use Rattle.py_value.specs.declared.access.Kind.{Kind}
use Rattle.py_value.specs.declared.access.Kind.TheVariants.{List as ListKind, Dict as DictKind}
use Rattle.py_value.specs.declared.value.Value.{Value}

-- the items of two lists at one place, each read
abbrev pub read_both : ℕ → ℕ → ℕ → (Contents × Contents → Plan) → Plan
read_both o p i go = read_value o i (λ v. read_value p i (λ w. go (v, w)))

-- the values of two entries, where both are there
abbrev pub both_of : Option (Value × Value) → Option (Value × Value) → Option (Value × Value)
both_of (Some left) (Some right) = Some (left.1, right.1)
both_of left right = None

abbrev pub both_seen : Option (Contents × Contents) → Option (Contents × Contents) → Option (Contents × Contents)
both_seen (Some left) (Some right) = Some (left.1, right.1)
both_seen left right = None

-- the entries of two dictionaries at one key, each read
abbrev pub read_entries : ℕ → ℕ → Contents → (Option (Contents × Contents) → Plan) → Plan
read_entries o p key go = read_entry o key (λ left. read_entry p key (λ right. go (both_seen left right)))

-- what two objects are compared as
abbrev pub shape_of : Option Kind → Option Kind → Shape
shape_of (Some ListKind) (Some ListKind) = Lists
shape_of (Some DictKind) (Some DictKind) = Dicts
shape_of left right = Others

abbrev pub shape_seen : Option SeenKind → Option SeenKind → Shape
shape_seen (Some a_list) (Some a_list) = Lists
shape_seen (Some a_dict) (Some a_dict) = Dicts
shape_seen left right = Others
