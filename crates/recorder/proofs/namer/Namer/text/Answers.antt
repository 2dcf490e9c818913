use Rattle.std.proofs.Common.{◌≡◌, ◌++◌, ◌∷◌, [], reverse, subst, sym, ap, ◌∙◌, arith}
use Rattle.std.proofs.lemmas.List.{reverse-append}
use Rattle.trace_rows.specs.declared.row.Row.TheVariants.{Text as TextRow}
use Rattle.recorder.specs.Numbers.{NumbersText}
use Rattle.recorder.proofs.Naming.{was_there, is_new, text_known, text_added, view_of_both}
use Rattle.recorder.proofs.namer.Namer.text.Goals as goal

pub returns-then-from-self : goal.returns-then-from-self
returns-then-from-self c =
    let s = c.args.s.now in
    let old = c.self.inside.named in
    let new = c.text.new.self in
    let e = c.in_ok-number.ensures in
    let same = was_there old.texts new.texts s c.in_ok-number.number e.texts e.name (omega (arith, c.if-from-self.true, c.self.invariant.0, c.from.ensures)) in
    subst (λ n. NumbersText s n (record { view = new; rows = reverse c.self.inside.rows.items }) c.in_ok-number.number) c.self.view_is
    (text_known s old new c.in_ok-number.number e.name e.interned (reverse c.self.inside.rows.items) (view_of_both new old.texts old.tuples same e.tuples))

pub returns : goal.returns
returns c =
    let s = c.args.s.now in
    let old = c.self.inside.named in
    let new = c.text.new.self in
    let e = c.in_ok-number.ensures in
    let rows = reverse c.self.inside.rows.items in
    let added = is_new old.texts new.texts s c.in_ok-number.number e.texts e.name (omega (arith, c.if-from-self.false, c.self.invariant.0, c.from.ensures)) in
    let pushed : reverse c.push.new.self.items ≡ TextRow s ∷ rows =
    ap reverse c.in_ok-push.ensures.items ∙ reverse-append c.self.inside.rows.items (TextRow c.of.result ∷ []) ∙ ap (λ b. TextRow b ∷ rows) (c.of.ensures ∙ c.in_ok-text.ensures.ok) in
    subst (λ n. NumbersText s n (record { view = new; rows = reverse c.push.new.self.items }) c.in_ok-number.number) c.self.view_is
    (subst (λ r. NumbersText s (record { view = old; rows = rows }) (record { view = new; rows = r }) c.in_ok-number.number) (sym pushed)
    (text_added s old new c.in_ok-number.number e.name e.interned rows e.keeps added.0 (view_of_both new (old.texts ++ s ∷ []) old.tuples added.1 e.tuples)))
