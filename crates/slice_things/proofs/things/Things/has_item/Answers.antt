use Rattle.std.proofs.Common.{◌≡◌, ◌<◌, true, slice_get, sym, subst, arith, rules}
use Rattle.slice_things.specs.Children.{is_list, length_of, IsListEnd}
use Rattle.slice_things.proofs.EndLaws.{own_item}
use Rattle.slice_things.proofs.things.Things.has_item.Goals as goal

pub returns-then-i-length : goal.returns-then-i-length
returns-then-i-length c =
    let things = c.args.self.now in
    let o = c.args.o in
    let list : is_list (slice_get things.kinds.items o) ≡ true = search rules in
    let below : c.args.i < length_of things o = omega (arith, c.length.ensures, c.if-i-length.true) in
    own_item things o c.end_in-end.result c.args.i list below (subst (IsListEnd things o) (sym c.end_in-end.ensures) (c.requires o (omega (arith, c.ranges.o.fits)) list))
