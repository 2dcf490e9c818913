use Rattle.std.proofs.Common.{◌∙◌, sym, subst, length}
use Rattle.py_value.specs.Values.{AreBelow}
use Rattle.op_atoms.proofs.Marking.{tuple_marked}
use Rattle.op_atoms.proofs.atoms.is_atom_tuple.Goals as goal

pub returns : goal.returns
returns c =
    let view = c.args.values.now in let items = c.tuple_of.result.now in
    let below = subst (λ n. AreBelow (length view.texts) n items) (sym c.requires.count) (c.tuple_of.ensures.interned.parts c.args.id items c.tuple_of.ensures.tuple) in
    c.are_marked.ensures ∙ tuple_marked view c.args.marks.now c.requires.marks c.args.id items (c.tuples_are_their_parts.ensures view c.args.id items c.tuple_of.ensures.interned c.tuple_of.ensures.tuple) below
