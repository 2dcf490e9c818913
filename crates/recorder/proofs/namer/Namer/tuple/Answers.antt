use Rattle.std.proofs.Common.{◌≡◌, ◌++◌, ◌∷◌, [], length, reverse, subst, sym, ap, ◌∙◌, arith}
use Rattle.std.proofs.lemmas.List.{reverse-append}
use Rattle.py_value.specs.Values.{AreNamed}
use Rattle.trace_rows.specs.declared.row.Row.TheVariants.{Tuple as TupleRow}
use Rattle.recorder.specs.Numbers.{NumbersTuple}
use Rattle.recorder.proofs.Naming.{was_there, is_new, tuple_known, tuple_added, view_of_both}
use Rattle.recorder.proofs.namer.Namer.tuple.Goals as goal

pub tuple-requires : goal.tuple-requires
tuple-requires c = subst (λ n. AreNamed n.view c.args.items.now) (sym c.self.view_is) c.requires.named

pub invariant_of-self-then-from-self : goal.invariant_of-self-then-from-self
invariant_of-self-then-from-self c =
    let old = c.self.inside.named in
    let new = c.tuple.new.self in
    let e = c.in_ok-number.ensures in
    let same = was_there old.tuples new.tuples c.args.items.now c.in_ok-number.number e.tuples e.name (omega (arith, c.if-from-self.true, c.self.invariant.1.0, c.from.ensures)) in
    (c.self.invariant.0 ∙ ap length (sym e.texts), (c.self.invariant.1.0 ∙ ap length (sym same), c.self.invariant.1.1))

pub returns-then-from-self : goal.returns-then-from-self
returns-then-from-self c =
    let items = c.args.items.now in
    let old = c.self.inside.named in
    let new = c.tuple.new.self in
    let e = c.in_ok-number.ensures in
    let same = was_there old.tuples new.tuples items c.in_ok-number.number e.tuples e.name (omega (arith, c.if-from-self.true, c.self.invariant.1.0, c.from.ensures)) in
    subst (λ n. NumbersTuple items n (record { view = new; rows = reverse c.self.inside.rows.items }) c.in_ok-number.number) c.self.view_is
    (tuple_known items old new c.in_ok-number.number e.name e.interned (reverse c.self.inside.rows.items) (view_of_both new old.texts old.tuples e.texts same))

pub returns : goal.returns
returns c =
    let items = c.args.items.now in
    let old = c.self.inside.named in
    let new = c.tuple.new.self in
    let e = c.in_ok-number.ensures in
    let rows = reverse c.self.inside.rows.items in
    let added = is_new old.tuples new.tuples items c.in_ok-number.number e.tuples e.name (omega (arith, c.if-from-self.false, c.self.invariant.1.0, c.from.ensures)) in
    let pushed : reverse c.push.new.self.items ≡ TupleRow items ∷ rows =
    ap reverse c.in_ok-push.ensures.items ∙ reverse-append c.self.inside.rows.items (TupleRow c.of.result ∷ []) ∙ ap (λ b. TupleRow b ∷ rows) (c.of.ensures ∙ c.in_ok-parts.ensures.items) in
    subst (λ n. NumbersTuple items n (record { view = new; rows = reverse c.push.new.self.items }) c.in_ok-number.number) c.self.view_is
    (subst (λ r. NumbersTuple items (record { view = old; rows = rows }) (record { view = new; rows = r }) c.in_ok-number.number) (sym pushed)
    (tuple_added items old new c.in_ok-number.number e.name e.interned rows e.keeps added.0 (view_of_both new old.texts (old.tuples ++ items ∷ []) e.texts added.1)))
