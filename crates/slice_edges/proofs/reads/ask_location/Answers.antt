use Rattle.std.proofs.Common.{◌==◌, ◌&&◌, ◌||◌, [], map, unwrap_or, sym, ap, ◌∙◌}
use Rattle.py_tree.specs.Erasure.{script_of}
use Rattle.slice_law.specs.Closed.{has}
use Rattle.slice_law.specs.Edges.{by_data, by_name}
use Rattle.slice_edges.specs.Asks.{among_by, is_by, same_reason}
use Rattle.slice_edges.specs.Reading.{local_name, binder_for, stmts_or}
use Rattle.slice_edges.proofs.CountLaws.{monotone, more_asked}
use Rattle.slice_edges.proofs.ReadLaws.{only_if}
use Rattle.slice_edges.proofs.WritersLaws.{on_ok, on_both}
use Rattle.slice_edges.proofs.reads.ask_location.Goals as goal

pub returns-in-Some-clause-asked : goal.returns-in-Some-clause-asked
returns-in-Some-clause-asked c = on_ok c.ask_noted.result c.ask_noted.ensures.asked (λ asked. λ right reason s r.
    let script = script_of c.args.script.now in
    let texts = map (λ k. k.now) c.args.names.now in
    let asker = c.args.asker in
    asked c.args.writers.now.entries right.counted (ap (λ found. unwrap_or found []) (sym c.in-Some.ensures.value) ∙ sym c.as_slice.ensures) reason s r
    ∙ ap (λ stmts. (is_by by_data asker reason s && has r stmts) || among_by c.args.asks.now.keys reason s r) c.as_slice.ensures
    ∙ ap (λ b. b || among_by c.args.asks.now.keys reason s r) (only_if (asker == s) (same_reason by_data reason) _ r)
    ∙ ap (λ found. ((asker == s) && has r (stmts_or script texts asker reason c.args.at.now found)) || among_by c.args.asks.now.keys reason s r) c.in-Some.ensures.value)

pub returns-in-None-clause-asked : goal.returns-in-None-clause-asked
returns-in-None-clause-asked c = on_ok c.ask_binder.result c.ask_binder.ensures.asked (λ asked. λ right reason s r.
    let script = script_of c.args.script.now in
    let texts = map (λ k. k.now) c.args.names.now in
    let asker = c.args.asker in
    asked right.binders reason s r
    ∙ ap (λ name. (is_by by_name asker reason s && has r (binder_for script texts asker name)) || among_by c.args.asks.now.keys reason s r) c.local_name.ensures
    ∙ ap (λ b. b || among_by c.args.asks.now.keys reason s r) (only_if (asker == s) (same_reason by_name reason) (binder_for script texts asker (local_name c.args.at.now)) r)
    ∙ ap (λ found. ((asker == s) && has r (stmts_or script texts asker reason c.args.at.now found)) || among_by c.args.asks.now.keys reason s r) c.in-None.ensures.value)

pub returns-in-None-clause-kept : goal.returns-in-None-clause-kept
returns-in-None-clause-kept c = on_both c.ask_binder.result c.ask_binder.ensures.kept c.ask_binder.ensures.asked (λ kept asked. λ right.
    let texts = map (λ k. k.now) c.args.names.now in
    let asker = c.args.asker in
    record {
      binders = kept right.binders;
      counted = more_asked c.args.asks.now.keys c.ask_binder.new.asks.keys c.args.writers.now.entries c.args.memo.now.counts.entries
          (λ s r. monotone (is_by by_name asker by_data s && has r (binder_for (script_of c.args.script.now) texts asker c.local_name.result)) (among_by c.args.asks.now.keys by_data s r)
          (among_by c.ask_binder.new.asks.keys by_data s r) (asked right.binders by_data s r))
          right.counted;
    })
