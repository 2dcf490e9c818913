-- No public clause cites this file.
-- The pairs of the items of two sequences, as a plan that goes on with them.
use Rattle.std.specs.Prelude.{List}
use Rattle.py_model.specs.Dicts.{paired}
use Rattle.py_model.specs.Plan.{Plan}
use Rattle.py_model.specs.Walks.{walk, if_walked}
use Rattle.py_value.specs.Contents.{Contents}

abbrev pub zipped : Contents → Contents → (List Contents → Plan) → Plan
zipped left right go = if_walked left (if_walked right (walk left (λ lefts. walk right (λ rights. go (paired lefts rights)))))
