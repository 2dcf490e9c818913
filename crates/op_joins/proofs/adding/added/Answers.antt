use Rattle.std.proofs.Common.{◌∙◌, sym, ap, ◌++◌, ◌+ℤ◌}
use Rattle.py_model.specs.Arithmetic.{added}
use Rattle.py_model.specs.Operands.{gives_text, gives_int, with_numbers}
use Rattle.py_value.specs.Contents.{contents, object}
use Rattle.py_value.specs.Seen.{bytes_of}
use Rattle.py_value.specs.declared.value.Value.TheVariants.{Tuple}
use Rattle.op_numbers.proofs.EndsAlike.{ends_as}
use Rattle.op_joins.specs.Adding.{added_as}
use Rattle.op_joins.proofs.AddingPlans.{added_is, texts_named, tuples_named}
use Rattle.op_joins.proofs.adding.added.Goals as goal

pub join_texts-requires-clause-first : goal.join_texts-requires-clause-first
join_texts-requires-clause-first c = (texts_named c.args.work.now.values c.args.v c.args.w c.in-Texts.a c.in-Texts.b (sym c.pair_of.ensures ∙ c.in-Texts.is) c.requires.first c.requires.second).0

pub join_texts-requires-clause-second : goal.join_texts-requires-clause-second
join_texts-requires-clause-second c = (texts_named c.args.work.now.values c.args.v c.args.w c.in-Texts.a c.in-Texts.b (sym c.pair_of.ensures ∙ c.in-Texts.is) c.requires.first c.requires.second).1

pub join_tuples-requires-clause-first : goal.join_tuples-requires-clause-first
join_tuples-requires-clause-first c = (tuples_named c.args.work.now.values c.args.v c.args.w c.in-Tuples.a c.in-Tuples.b (sym c.pair_of.ensures ∙ c.in-Tuples.is) c.requires.first c.requires.second).0

pub join_tuples-requires-clause-second : goal.join_tuples-requires-clause-second
join_tuples-requires-clause-second c = (tuples_named c.args.work.now.values c.args.v c.args.w c.in-Tuples.a c.in-Tuples.b (sym c.pair_of.ensures ∙ c.in-Tuples.is) c.requires.first c.requires.second).1

pub returns-in-Texts : goal.returns-in-Texts
returns-in-Texts c = ends_as (λ table. added (contents table c.args.v) (contents table c.args.w)) (λ table. gives_text (bytes_of table c.in-Texts.a ++ bytes_of table c.in-Texts.b))
    (λ table interned extends. added_is table c.args.v c.args.w ∙ ap (added_as table c.args.v c.args.w) (sym c.pair_of.ensures ∙ c.in-Texts.is)) c.join_texts.ensures

pub returns-in-Tuples : goal.returns-in-Tuples
returns-in-Tuples c = ends_as (λ table. added (contents table c.args.v) (contents table c.args.w)) (λ table. added (contents table (Tuple c.in-Tuples.a)) (contents table (Tuple c.in-Tuples.b)))
    (λ table interned extends. added_is table c.args.v c.args.w ∙ ap (added_as table c.args.v c.args.w) (sym c.pair_of.ensures ∙ c.in-Tuples.is)) c.join_tuples.ensures

pub returns-in-Objects : goal.returns-in-Objects
returns-in-Objects c = ends_as (λ table. added (contents table c.args.v) (contents table c.args.w)) (λ table. added (object c.in-Objects.o) (object c.in-Objects.p))
    (λ table interned extends. added_is table c.args.v c.args.w ∙ ap (added_as table c.args.v c.args.w) (sym c.pair_of.ensures ∙ c.in-Objects.is)) c.join_lists.ensures

pub returns-in-Others : goal.returns-in-Others
returns-in-Others c = ends_as (λ table. added (contents table c.args.v) (contents table c.args.w)) (λ table. with_numbers (contents table c.args.v) (contents table c.args.w) (λ i j. gives_int (i +ℤ j)))
    (λ table interned extends. added_is table c.args.v c.args.w ∙ ap (added_as table c.args.v c.args.w) (sym c.pair_of.ensures ∙ c.in-Others.is)) c.add_numbers.ensures
