use Rattle.std.proofs.Common.{◌≡◌, IfOk, true, subst, sym, ap, ◌∙◌}
use Rattle.py_value.specs.Values.{AreNamed}
use Rattle.trace_rows.specs.declared.row.Row.TheVariants.{Text as TextRow, Tuple as TupleRow}
use Rattle.row_checks.specs.Going.{Puts}
use Rattle.row_checks.specs.RowTests.{names_row}
use Rattle.row_checks.proofs.NamedBelow.{named_values}
use Rattle.row_checks.proofs.seen.Seen.put.Goals as goal

pub put_tuple-requires-clause-named : goal.put_tuple-requires-clause-named
put_tuple-requires-clause-named c =
    let s = c.args.self.now in
    subst (AreNamed s.values) (sym c.as_slice.ensures)
    (named_values s.counts s.values c.requires.ready.texts_is c.requires.ready.tuples_is c.in-Tuple.parts (subst (λ row. names_row s.counts row ≡ true) c.in-Tuple.is c.requires.named))

pub returns-in-Text : goal.returns-in-Text
returns-in-Text c =
    subst (λ row. IfOk c.put_text.result (Puts c.args.self.now row c.put_text.new.self)) (sym (c.in-Text.is ∙ ap TextRow (sym c.as_str.ensures))) c.put_text.ensures

pub returns-in-Tuple : goal.returns-in-Tuple
returns-in-Tuple c =
    subst (λ row. IfOk c.put_tuple.result (Puts c.args.self.now row c.put_tuple.new.self)) (sym (c.in-Tuple.is ∙ ap TupleRow (sym c.as_slice.ensures))) c.put_tuple.ensures
