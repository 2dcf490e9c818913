use Rattle.std.proofs.Common.{◌≡◌, ◌<◌, ℕ, true, length, sym, ap, subst, ◌∙◌, arith}
use Rattle.py_tree.specs.StmtSet.{has}
use Rattle.slicer.specs.Along.{AllIn, AreBelow}
use Rattle.slicer.specs.Following.{asked_by, group_at, AreFound}
use Rattle.slicer.proofs.Along.{all_in_more, none_in, so_many}
use Rattle.slicer.proofs.Following.{none_found, asked_below, asked_in, followed_more, all_followed, all_at}
use Rattle.slicer.proofs.closing.close.Goals as goal

pub loop-next-init : goal.loop-next-init
loop-next-init c =
    let start = c.in_ok-keep.keep in
    let keep = c.reach_all.new.keep in
    let found = c.reach_all.new.found.items in
    let all = c.in_ok-reach_all.ensures in
    let bound : length start ≡ c.args.count = ap length c.in_ok-keep.ensures ∙ so_many c.args.count in
    let nothing : (s : ℕ) → has start s ≡ true → ⊥ = λ s is. none_in c.args.count s (subst (λ members. has members s ≡ true) c.in_ok-keep.ensures is) in (
      all.grown.bound ∙ bound,
      omega arith,
      subst (λ n. AreFound n keep found) bound (all.grown.fits (subst (AreFound (length start) start) (sym c.new-found.ensures.items) (none_found (length start) start nothing))),
      λ i less. absurd (omega (arith, less)),
      all.there,
      λ other roots. λ closed. all.inside other (λ s is. absurd (nothing s is)) roots,
    )

pub reach_all-requires-in-loop-next : goal.reach_all-requires-in-loop-next
reach_all-requires-in-loop-next c =
    let s = c.index-s.result.now in
    let pairs = c.args.pairs.now in
    let asked : c.asked_of.result.now ≡ asked_by pairs s = c.asked_of.ensures ∙ ap (λ groups. group_at groups s) c.as_slice.ensures.value ∙ c.in_ok-groups.ensures s in
    subst (AreBelow (length c.loop-next.keep)) (sym asked) (subst (λ n. AreBelow n (asked_by pairs s)) (sym c.loop-next.invariant.0) (asked_below c.args.count pairs s c.requires.pairs))

pub loop-next-preserved : goal.loop-next-preserved
loop-next-preserved c =
    let s = c.index-s.result.now in
    let pairs = c.args.pairs.now in
    let inv = c.loop-next.invariant in
    let keep = c.loop-next.keep in
    let found = c.loop-next.found.items in
    let new = c.reach_all-in-loop-next.new.keep in
    let more = c.reach_all-in-loop-next.new.found.items in
    let all = c.in_ok-reach_all-2.ensures in
    let within : c.loop-next.next < length found = omega (arith, c.loop-next-test.true, c.len.ensures) in
    let longer = all.grown.longer in
    let asked : c.asked_of.result.now ≡ asked_by pairs s = c.asked_of.ensures ∙ ap (λ groups. group_at groups s) c.as_slice.ensures.value ∙ c.in_ok-groups.ensures s in (
      all.grown.bound ∙ inv.0,
      omega (arith, within, longer),
      subst (λ n. AreFound n new more) inv.0 (all.grown.fits (subst (λ n. AreFound n keep found) (sym inv.0) inv.2)),
      followed_more pairs (has keep) (has new) found more c.loop-next.next s within all.grown.front all.grown.stays c.index-s.ensures inv.3 (subst (AllIn (has new)) asked all.there),
      all_in_more (has keep) (has new) all.grown.stays c.args.roots.now inv.4,
      λ other roots closed. all.inside other (inv.5 other roots closed)
          (subst (AllIn other) (sym asked) (asked_in other pairs s closed (inv.5 other roots closed s (all_at (has keep) found c.loop-next.next s within c.index-s.ensures inv.2.each)))),
    )

pub returns-clause-least : goal.returns-clause-least
returns-clause-least c =
    let inv = c.loop-next.invariant in record {
      has_roots = inv.4;
      closed = all_followed c.args.pairs.now (has c.loop-next.keep) c.loop-next.found.items (λ i less. inv.3 i (omega (arith, less, c.loop-next-test.false, c.len.ensures))) inv.2.only;
      inside = inv.5;
    }
