use Rattle.std.proofs.Common.{map, sym, ap, subst, ◌∙◌}
use Rattle.py_value.specs.Contents.{contents}
use Rattle.py_value.specs.Seen.{content_seen, order_is}
use Rattle.py_value.specs.declared.access.Content.TheVariants.{Order as OrderContent}
use Rattle.recorder.specs.Numbers.{NumbersValues}
use Rattle.recorder.specs.Parts.{NumbersContent}
use Rattle.row_words.specs.Fits.{AreValues}
use Rattle.recorder.proofs.Joining.{order_numbers}
use Rattle.recorder.proofs.naming_accesses.name_content.Goals as goal

pub returns-in_ok-own-in-Order-clause-numbers : goal.returns-in_ok-own-in-Order-clause-numbers
returns-in_ok-own-in-Order-clause-numbers c =
    let f = contents c.args.values.now in
    let old = c.args.namer.now in
    let now = c.name_values.new.namer in
    let own = c.in_ok-own-in-Order.own.items in
    let keys = map f c.as_slice.result.now in
    subst (λ b. NumbersContent b old now (OrderContent c.of.result)) (ap (λ k. order_is (map f k)) c.as_slice.ensures ∙ sym (ap (content_seen c.args.values.now) c.in-Order.is))
    (order_numbers keys old now c.of.result (subst (λ vs. NumbersValues keys old now vs) (sym c.of.ensures) c.in_ok-own-in-Order.ensures.numbers))

pub returns-in_ok-own-in-Order-clause-fits : goal.returns-in_ok-own-in-Order-clause-fits
returns-in_ok-own-in-Order-clause-fits c = subst AreValues (sym c.of.ensures) c.in_ok-own-in-Order.ensures.fits
