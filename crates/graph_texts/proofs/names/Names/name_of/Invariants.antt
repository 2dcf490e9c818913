use Rattle.std.proofs.Common.{◌≡◌, drop, map}
use Rattle.py_model.specs.Graph.{first_name}
use Rattle.graph_texts.specs.Named.{named_seen}
use Rattle.graph_texts.proofs.names.Names.name_of.Given as goal

abbrev pub invariant-loop-named : goal.invariant-loop-named
invariant-loop-named l = first_name l.is_class l.at (map named_seen (drop l.named-index l.named-items)) ≡ first_name l.is_class l.at l.self
