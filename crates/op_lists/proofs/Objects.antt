-- Walks of objects, by what they are.
use Rattle.std.proofs.Common.{◌≡◌, refl, ℕ, List, Option, Some}
use Rattle.py_model.specs.Plan.{Plan, read_len}
use Rattle.py_model.specs.Walks.{walk_object, read_items, when_walked}
use Rattle.py_value.specs.Contents.{Contents}
use Rattle.py_value.specs.Seen.{SeenKind}
use Rattle.py_value.specs.Values.{ValuesView}
use Rattle.py_value.specs.declared.access.Kind.TheVariants.{List as ListKind}
use Rattle.op_work.specs.Work.{seen_kind}

-- the walk goes on with what the object is
abbrev pub by_kind : ℕ → ValuesView → Option SeenKind → (List Contents → Plan) → Plan
by_kind o table kind go = walk_object o go kind

pub list_walk : (o : ℕ) (table : ValuesView) (go : List Contents → Plan) → by_kind o table (seen_kind table (Some ListKind)) go ≡ read_len o (λ n. read_items n o 0 go)
list_walk o table go = refl

-- the same where it is only asked whether the object can be walked
abbrev pub walked_by_kind : ValuesView → Option SeenKind → (Unit {0} → Plan) → Plan
walked_by_kind table kind go = when_walked (go tt) kind
