-- No public clause cites this file.
-- What the program's search for a statement gives, read on the pure tree.
use Rattle.std.specs.Prelude.{option_map}
use Rattle.py_tree.specs.declared.owners.Around.{Around as AroundRefs}
use Rattle.py_tree.specs.declared.owners.Found.{Found}
use Rattle.py_tree.specs.Erasure.{stmt_of}
use Rattle.py_tree.specs.Owners.{Around, Standing}

abbrev pub around_of : AroundRefs → Around
around_of around = record { owner = option_map (λ x. stmt_of x.now) around.owner; function = around.function }

abbrev pub standing_of : Found → Standing
standing_of found = record { stmt = stmt_of found.stmt.now; around = around_of found.around }
