-- A name as contracts see it.
use Rattle.std.specs.Prelude.{ℕ, Bool, List}
use Rattle.prov_base.specs.declared.place.Pos.{Pos}
use Rattle.graph_texts.specs.declared.names.Named.{Named}

-- the place, whether it is a class, and the name
abbrev pub named_seen : Named → Pos × (Bool × List ℕ)
named_seen named = (named.at, (named.is_class, named.name))
