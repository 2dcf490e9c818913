use Rattle.std.proofs.Common.{ap}
use Rattle.py_model.specs.Arithmetic.{contained}
use Rattle.py_value.specs.Contents.{contents}
use Rattle.py_value.specs.declared.value.Value.TheVariants.{Tuple}
use Rattle.op_lists.proofs.TupleParts.{tuple_is, more_tuples}
use Rattle.op_work.proofs.Going.{comes_same, extends_then}
use Rattle.op_compare.proofs.parts.in_tuple.Goals as goal

pub returns : goal.returns
returns c = comes_same (λ table. contained (contents table c.args.v) (contents table (Tuple c.args.id)))
    (λ table interned extends go. ap (λ w. contained (contents table c.args.v) w go)
    (tuple_is c.tuples_are_their_parts.ensures table interned c.args.id (more_tuples (extends_then c.among_parts.ensures.kept.extends extends) c.args.id c.requires.within)))
    c.among_parts.ensures
