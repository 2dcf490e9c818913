use Rattle.std.proofs.Common.{ap, subst, map, length, ℕ}
use Rattle.std.proofs.lemmas.List.{length-map}
use Rattle.py_model.specs.Making.{set_items, new_list}
use Rattle.py_model.specs.Plan.{write, done, makes}
use Rattle.py_value.specs.Contents.{contents, object}
use Rattle.py_value.specs.Seen.{a_list, len_at, len_is}
use Rattle.py_value.specs.declared.access.Kind.TheVariants.{List as ListKind}
use Rattle.op_work.specs.Work.{WroteAll}
use Rattle.op_work.proofs.Ending.{ends_makes}
use Rattle.op_lists.proofs.making.new_list.Goals as goal

pub returns : goal.returns
returns c =
    let items = c.args.items.now in
    let wrote = subst (λ (o : ℕ). WroteAll (λ table. write (len_at o) (len_is (length items)) (set_items o 0 (map (contents table) items) (done (object o)))) c.make-o.new.self c.fill.new.work c.fill.result) c.make-o.ensures.number c.fill.ensures in
    ends_makes (λ table. new_list (map (contents table) items)) c.requires.fresh ListKind (λ table o. write (len_at o) (len_is (length items)) (set_items o 0 (map (contents table) items) (done (object o)))) c.make-o.ensures.made
    (λ table interned extends. ap (λ n. makes a_list (λ o. write (len_at o) (len_is n) (set_items o 0 (map (contents table) items) (done (object o))))) (length-map items (contents table)))
    wrote
