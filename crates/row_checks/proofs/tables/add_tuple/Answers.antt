use Rattle.std.proofs.Common.{◌≡◌, ◌∷◌, [], ◌++◌, length, sym, subst, arith, rules}
use Rattle.row_checks.specs.Heights.{AreHeights, over, highest}
use Rattle.row_checks.proofs.HeightLaws.{heights_grow, zero_height}
use Rattle.row_checks.proofs.Adding.{is_new}
use Rattle.row_checks.proofs.tables.add_tuple.Goals as goal

pub returns-clause-heights : goal.returns-clause-heights
returns-clause-heights c =
    let e = c.in_ok-number.ensures in
    let new = is_new c.args.values.now.tuples c.tuple.new.self.tuples c.args.items.now c.in_ok-number.number e.tuples e.name (omega (arith, c.if-from-count.false, c.requires.count, c.from.ensures)) in
    let pushed : c.push.new.self.items ≡ c.args.heights.now.items ++ over (highest c.args.heights.now.items zero_height c.args.items.now) ∷ [] = search rules in
    subst (AreHeights c.tuple.new.self.tuples) (sym pushed)
    (heights_grow (length c.tuple.new.self.texts) c.args.values.now.tuples c.tuple.new.self.tuples c.args.items.now c.args.heights.now.items new.1
    (λ n xs at. e.interned.parts n xs at) c.requires.heights)
