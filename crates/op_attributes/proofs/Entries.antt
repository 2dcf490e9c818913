-- How reads of attributes go on with an entry.
use Rattle.std.proofs.Common.{ℕ, Option, Some, None}
use Rattle.prov_base.specs.declared.place.Pos.{Pos}
use Rattle.py_model.specs.Classes.{class_attribute, setattr_entry}
use Rattle.py_model.specs.Faults.{no_attribute}
use Rattle.py_model.specs.Plan.{Plan, writes, done}
use Rattle.py_value.specs.Contents.{Contents, contents}
use Rattle.py_value.specs.Seen.{bytes_of}
use Rattle.py_value.specs.Values.{ValuesView}
use Rattle.py_value.specs.declared.value.Value.{Value}

-- the value of the entry, or else a method of the class
abbrev pub behind_entry : ℕ → (Pos → Plan) → Value → ValuesView → Option (Contents × Contents) → Plan
behind_entry name when of table entry = elim entry [ None ↦ class_attribute (bytes_of table name) when (contents table of) | Some pair ↦ writes (done pair.1) ]

-- the entry is set
abbrev pub sets_entry : ℕ → ℕ → Value → ValuesView → Option (Contents × Contents) → Plan
sets_entry name o v table entry = setattr_entry (bytes_of table name) o (contents table v) entry

-- what is behind the search for a method
abbrev pub behind_search : ℕ → ValuesView → Option Pos → (Pos → Plan) → Plan
behind_search name table method go = elim method [ None ↦ no_attribute (bytes_of table name) | Some at ↦ go at ]
