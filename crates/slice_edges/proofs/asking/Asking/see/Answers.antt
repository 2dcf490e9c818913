use Rattle.std.proofs.Common.{◌||◌, refl, sym, ap, subst, ◌∙◌}
use Rattle.py_tree.specs.Erasure.{script_of}
use Rattle.slice_edges.specs.Asks.{among_by}
use Rattle.slice_edges.specs.Counts.{IsRight}
use Rattle.slice_edges.specs.Reading.{owner_reads}
use Rattle.slice_edges.specs.Writers.{found_at, after_set, after_change, sets_in, updates_in}
use Rattle.slice_edges.proofs.CountLaws.{counted_still}
use Rattle.slice_edges.proofs.StepLaws.{do_step}
use Rattle.slice_edges.proofs.WritersLaws.{on_ok}
use Rattle.slice_edges.proofs.asking.Asking.see.Goals as goal

pub returns : goal.returns
returns c = λ view told interned each texts before.
    let old = c.args.self.now in
    let accesses = c.args.accesses.now in
    let script = script_of c.args.script.now in
    let asks = c.ask_owner.new.asks in
    let memo = c.ask_owner.new.memo in
    let right = subst (λ these. IsRight script these old.asks.keys old.writers.entries old.memo) texts before.right in
    let known = subst (λ these. IsRight script these asks.keys old.writers.entries memo) (sym texts) (c.in_ok-ask_owner.ensures.kept right) in
    on_ok c.note.result c.note.ensures (λ noted. λ at op values answer made weight.
    do_step view script old (record { frames = old.frames; writers = c.note.new.writers; asks = asks; memo = record { binders = memo.binders; counts = c.forget.new.counts } }) told before interned accesses each
    at op values answer made weight refl
    (record {
      binders = known.binders;
      counted = counted_still asks.keys old.writers.entries c.note.new.writers.entries memo.counts.entries c.forget.new.counts.entries accesses c.owner-owner.result noted c.forget.ensures known.counted;
    })
    (λ l. noted l ∙ ap (λ owner. after_change (updates_in l accesses) owner (after_set (sets_in l accesses) owner (found_at old.writers.entries l))) c.owner-owner.ensures)
    (λ reason s r. c.in_ok-ask_owner.ensures.asked right reason s r
    ∙ ap (λ these. owner_reads script these old.writers.entries c.owner-owner.result accesses reason s r || among_by old.asks.keys reason s r) (sym texts)
    ∙ ap (λ owner. owner_reads script view.texts old.writers.entries owner accesses reason s r || among_by old.asks.keys reason s r) c.owner-owner.ensures))
