use Rattle.std.proofs.Common.{rules, ◌≡◌, ◌∙◌, sym, ap, subst, map, length, ℕ, ◌*◌}
use Rattle.std.proofs.lemmas.List.{length-map}
use Rattle.py_model.specs.Arithmetic.{repeated}
use Rattle.py_model.specs.Making.{set_items, new_list}
use Rattle.py_model.specs.Plan.{write, done, makes}
use Rattle.py_value.specs.Contents.{contents, object}
use Rattle.py_value.specs.Seen.{a_list, len_at, len_is}
use Rattle.py_value.specs.declared.access.Kind.TheVariants.{List as ListKind}
use Rattle.op_work.specs.Work.{WroteAll}
use Rattle.op_work.proofs.Ending.{ends_makes}
use Rattle.op_joins.proofs.ManyTimes.{length_times, map_times}
use Rattle.op_joins.proofs.lists.make_times.Goals as goal

pub returns : goal.returns
returns c =
    let items = c.args.items.now in let n = c.args.n in let count = c.in-Some.count in
    let found : count ≡ length items * n = search rules in
    let wrote = subst (λ (o : ℕ). WroteAll (λ table. write (len_at o) (len_is count) (set_items o 0 (map (contents table) (repeated n items)) (done (object o)))) c.make-o.new.self c.fill_times.new.work c.fill_times.result) c.make-o.ensures.number c.fill_times.ensures in
    ends_makes (λ table. new_list (repeated n (map (contents table) items))) c.requires.fresh ListKind (λ table o. write (len_at o) (len_is count) (set_items o 0 (map (contents table) (repeated n items)) (done (object o)))) c.make-o.ensures.made
    (λ table interned extends. ap new_list (sym (map_times (contents table) n items))
    ∙ ap (λ k. makes a_list (λ o. write (len_at o) (len_is k) (set_items o 0 (map (contents table) (repeated n items)) (done (object o)))))
    (length-map (repeated n items) (contents table) ∙ (length_times n items ∙ sym found)))
    wrote
