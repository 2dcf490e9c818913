-- An operation with what it names renamed (this project's profile).
use Rattle.py_model.specs.Operations.{Op}
use Rattle.py_model.specs.Renaming.{Renaming, renamed}

abbrev pub renamed_op : Renaming → Op → Op
renamed_op r op = record { no = op.no; scope = r.scopes op.scope; name = op.name; value = renamed r op.value }
