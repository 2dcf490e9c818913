use Rattle.std.proofs.Common.{◌∙◌, sym, ap, [], ◌∷◌, pos}
use Rattle.std.specs.Option.{option_map}
use Rattle.py_model.specs.Lists.{next}
use Rattle.py_value.specs.Contents.{contents, int}
use Rattle.py_value.specs.declared.value.Value.TheVariants.{Tuple}
use Rattle.op_work.proofs.Ending.{ends_at_end}
use Rattle.op_dicts.proofs.EndsEqual.{ends_equal}
use Rattle.op_items.proofs.TurnPlans.{tuple_turn, looked}
use Rattle.op_items.proofs.turns.next_in_tuple.Goals as goal

pub returns-in-Some : goal.returns-in-Some
returns-in-Some c = λ file_line begun.
    let items = c.tuple_of.result.now in
    ends_equal (λ table. next file_line (contents table (Tuple c.args.id) ∷ int (pos c.args.n) ∷ begun ∷ []))
    (λ table interned extends. tuple_turn table file_line begun c.args.id c.args.n items (c.tuples_are_their_parts.ensures table c.args.id items interned (extends.tuples c.args.id items (c.look_answer.ensures.extends.tuples c.args.id items c.tuple_of.ensures.items)))
    ∙ ap (λ found. looked (option_map (contents table) found)) (sym c.part_at.ensures ∙ c.in-Some.is)) c.look_answer.ensures

pub returns-in-None : goal.returns-in-None
returns-in-None c = λ file_line begun.
    let items = c.tuple_of.result.now in
    ends_at_end (λ table. next file_line (contents table (Tuple c.args.id) ∷ int (pos c.args.n) ∷ begun ∷ [])) c.args.work.now c.requires.fresh
    (λ table interned extends. tuple_turn table file_line begun c.args.id c.args.n items (c.tuples_are_their_parts.ensures table c.args.id items interned (extends.tuples c.args.id items c.tuple_of.ensures.items))
    ∙ ap (λ found. looked (option_map (contents table) found)) (sym c.part_at.ensures ∙ c.in-None.is))
