use Rattle.std.proofs.Common.{subst, map, ℕ}
use Rattle.op_mutations.specs.Pairs.{pairs_seen, firsts, entries_set}
use Rattle.op_work.specs.Work.{WroteAll}
use Rattle.py_model.specs.Dicts.{new_dict}
use Rattle.py_model.specs.Plan.{write, done}
use Rattle.py_value.specs.Contents.{contents, object}
use Rattle.py_value.specs.Seen.{order_at, order_is}
use Rattle.py_value.specs.declared.access.Kind.TheVariants.{Dict}
use Rattle.op_work.proofs.Ending.{ends_makes}
use Rattle.op_mutations.proofs.PairWrites.{dict_is}
use Rattle.op_mutations.proofs.making.new_dict.Goals as goal

pub returns : goal.returns
returns c =
    let ps = c.args.pairs.now in
    let wrote = subst (λ (o : ℕ). WroteAll (λ table. write (order_at o) (order_is (map (contents table) (firsts ps))) (entries_set o table ps (done (object o)))) c.make-o.new.self c.fill.new.work c.fill.result) c.make-o.ensures.number c.fill.ensures in
    ends_makes (λ table. new_dict (pairs_seen table ps)) c.requires.fresh Dict (λ table o. write (order_at o) (order_is (map (contents table) (firsts ps))) (entries_set o table ps (done (object o)))) c.make-o.ensures.made
    (λ table interned extends. dict_is c.contents_stay.ensures c.values.ensures.interned extends ps c.requires.pairs) wrote
