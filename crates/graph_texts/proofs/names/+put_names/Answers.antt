use Rattle.std.proofs.Common.{◌++◌, ap, sym, map, ◌∙◌, arith}
use Rattle.py_model.specs.Graph.{names_in}
use Rattle.py_tree.proofs.StmtTrees.{suite_tree}
use Rattle.graph_texts.specs.Named.{named_seen}
use Rattle.graph_texts.proofs.NameRows.{rows_left, next_rows, no_rows, other_has_none, class_rows}
use Rattle.graph_texts.proofs.Results.{on_ok_more}
use Rattle.graph_texts.proofs.names.+put_names.Goals as goal

pub put_form-returns-in_ok-put_name-in-Class : goal.put_form-returns-in_ok-put_name-in-Class
put_form-returns-in_ok-put_name-in-Class t c =
    on_ok_more c.put_suite.result _ _ c.put_suite.ensures (λ put. class_rows c.args.at c.in-Class.name c.in-Class.field-1 c.in-Class.body c.args.form.now c.in-Class.is
    (map named_seen c.args.list.now.items) (map named_seen c.put_name-in-Class.new.list.items) (map named_seen c.put_suite.new.list.items) c.in_ok-put_name-in-Class.ensures put)

pub put_form-returns-in_default : goal.put_form-returns-in_default
put_form-returns-in_default t c = other_has_none c.args.at c.args.form.now c.in_default.not-Def c.in_default.not-Class (map named_seen c.args.list.now.items)

pub put_suite-loop-stmt-init : goal.put_suite-loop-stmt-init
put_suite-loop-stmt-init t c =
    ap (λ rows. map named_seen c.args.list.now.items ++ rows) (ap rows_left c.deref-stmt-items.ensures.value ∙ ap (λ s. names_in s) (sym (suite_tree c.args.suite.now)))

pub put_suite-loop-stmt-preserved : goal.put_suite-loop-stmt-preserved
put_suite-loop-stmt-preserved t c =
    next_rows c.deref-stmt-items.result.now c.loop-stmt.stmt-index c.stmt-item.result c.loop-stmt-test.true c.stmt-item.is _ (map named_seen c.loop-stmt.list.items) (map named_seen c.put_stmt.new.list.items) c.loop-stmt.invariant c.in_ok-put_stmt.ensures

pub put_suite-returns : goal.put_suite-returns
put_suite-returns t c = no_rows c.deref-stmt-items.result.now c.loop-stmt.stmt-index (omega (arith, c.loop-stmt-test.false)) (map named_seen c.loop-stmt.list.items) _ c.loop-stmt.invariant
