use Rattle.std.proofs.Common.{◌≡◌, ◌++◌, drop, map}
use Rattle.py_model.specs.Graph.{names_in}
use Rattle.py_tree.specs.Erasure.{suite_of}
use Rattle.graph_texts.specs.Named.{named_seen}
use Rattle.graph_texts.proofs.NameRows.{rows_left}
use Rattle.graph_texts.proofs.names.+put_names.Given as goal

abbrev pub invariant-put_suite-loop-stmt : goal.invariant-put_suite-loop-stmt
invariant-put_suite-loop-stmt l = map named_seen l.list.items ++ rows_left (drop l.stmt-index l.stmt-items) ≡ map named_seen l.fn.list.items ++ names_in (suite_of l.suite)
