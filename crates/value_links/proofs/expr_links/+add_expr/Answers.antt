use Rattle.std.proofs.Common.{◌++◌, ap, sym, ◌∙◌}
use Rattle.py_tree.proofs.ExprTrees.{exprs_tree, pairs_tree}
use Rattle.value_links.specs.Links.{exprs_links, pairs_links}
use Rattle.value_links.proofs.LinkParts.{exprs_in, pairs_in}
use Rattle.value_links.proofs.ExprForms.{const_of, var_of, unary_of, binary_of, compare_of, logic_of, choose_of, plain_call_of, attr_call_of, attr_of, part_of, range_of, list_of, dict_of, tuple_of}
use Rattle.value_links.proofs.expr_links.+add_expr.Goals as goal

pub add_exprs-loop-e-init : goal.add_exprs-loop-e-init
add_exprs-loop-e-init t c = ap (λ es. c.args.links.now.items ++ exprs_links (exprs_in es)) c.deref-e-items.ensures.value ∙ ap (λ es. c.args.links.now.items ++ exprs_links es) (sym (exprs_tree c.args.items.now))

pub add_pairs-loop-key-init : goal.add_pairs-loop-key-init
add_pairs-loop-key-init t c = ap (λ ps. c.args.links.now.items ++ pairs_links c.args.at (pairs_in ps)) c.deref-key-items.ensures.value ∙ ap (λ ps. c.args.links.now.items ++ pairs_links c.args.at ps) (sym (pairs_tree c.args.pairs.now))

pub add_expr-returns-in-Const : goal.add_expr-returns-in-Const
add_expr-returns-in-Const t c = const_of _ _ _ _ c.in-Const.is

pub add_expr-returns-in-Var : goal.add_expr-returns-in-Var
add_expr-returns-in-Var t c = var_of _ _ _ _ c.in-Var.is

pub add_expr-returns-in_ok-add_expr-in-Unary : goal.add_expr-returns-in_ok-add_expr-in-Unary
add_expr-returns-in_ok-add_expr-in-Unary t c = unary_of _ _ _ _ _ _ _ _ c.in-Unary.is c.deref-e.ensures c.in_ok-put_one-in-Unary.ensures c.in_ok-add_expr-in-Unary.ensures

pub add_expr-returns-in_ok-add_expr-in-Binary-2 : goal.add_expr-returns-in_ok-add_expr-in-Binary-2
add_expr-returns-in_ok-add_expr-in-Binary-2 t c =
    binary_of _ _ _ _ _ _ _ _ _ _ _ c.in-Binary.is c.deref-l.ensures c.deref-r.ensures c.in_ok-put_both-in-Binary.ensures c.in_ok-add_expr-in-Binary.ensures c.in_ok-add_expr-in-Binary-2.ensures

pub add_expr-returns-in_ok-add_expr-in-Compare-2 : goal.add_expr-returns-in_ok-add_expr-in-Compare-2
add_expr-returns-in_ok-add_expr-in-Compare-2 t c =
    compare_of _ _ _ _ _ _ _ _ _ _ _ c.in-Compare.is c.deref-l-in-Compare.ensures c.deref-r-in-Compare.ensures c.in_ok-put_both-in-Compare.ensures c.in_ok-add_expr-in-Compare.ensures
    c.in_ok-add_expr-in-Compare-2.ensures

pub add_expr-returns-in_ok-add_expr-in-Logic-2 : goal.add_expr-returns-in_ok-add_expr-in-Logic-2
add_expr-returns-in_ok-add_expr-in-Logic-2 t c =
    logic_of _ _ _ _ _ _ _ _ _ _ _ _ c.in-Logic.is c.deref-l-in-Logic.ensures c.deref-r-in-Logic.ensures c.in_ok-put_test-in-Logic.ensures c.in_ok-put_either-in-Logic.ensures
    c.in_ok-add_expr-in-Logic.ensures c.in_ok-add_expr-in-Logic-2.ensures

pub add_expr-returns-in_ok-add_expr-in-Choose-3 : goal.add_expr-returns-in_ok-add_expr-in-Choose-3
add_expr-returns-in_ok-add_expr-in-Choose-3 t c =
    choose_of _ _ _ _ _ _ _ _ _ _ _ _ _ _ c.in-Choose.is c.deref-t.ensures c.deref-c.ensures c.deref-o.ensures c.in_ok-put_test-in-Choose.ensures c.in_ok-put_either-in-Choose.ensures
    c.in_ok-add_expr-in-Choose.ensures c.in_ok-add_expr-in-Choose-2.ensures c.in_ok-add_expr-in-Choose-3.ensures

pub add_expr-returns-in_ok-add_exprs-in-Attr-f : goal.add_expr-returns-in_ok-add_exprs-in-Attr-f
add_expr-returns-in_ok-add_exprs-in-Attr-f t c =
    attr_call_of _ _ _ _ _ _ _ _ _ _ _ _ _ c.in-Call.is c.deref-f.ensures c.in-Attr-f.is c.deref.ensures c.in_ok-put_callee-in-Call.ensures c.in_ok-add_expr-in-Attr-f.ensures
    c.in_ok-add_exprs-in-Attr-f.ensures

pub add_expr-returns-in_ok-add_exprs-in_default : goal.add_expr-returns-in_ok-add_exprs-in_default
add_expr-returns-in_ok-add_exprs-in_default t c =
    plain_call_of _ _ _ _ _ _ _ _ _ c.in-Call.is c.deref-f.ensures c.in_default.not-Attr c.in_ok-put_callee-in-Call.ensures c.in_ok-add_expr-in_default.ensures c.in_ok-add_exprs-in_default.ensures

pub add_expr-returns-in_ok-add_expr-in-Attr : goal.add_expr-returns-in_ok-add_expr-in-Attr
add_expr-returns-in_ok-add_expr-in-Attr t c =
    attr_of _ _ _ _ _ _ _ _ c.in-Attr.is c.deref-e-in-Attr.ensures c.in_ok-put_one-in-Attr.ensures c.in_ok-add_expr-in-Attr.ensures

pub add_expr-returns-in_ok-add_expr-in-Part-2 : goal.add_expr-returns-in_ok-add_expr-in-Part-2
add_expr-returns-in_ok-add_expr-in-Part-2 t c =
    part_of _ _ _ _ _ _ _ _ _ _ c.in-Part.is c.deref-e-in-Part.ensures c.deref-i.ensures c.in_ok-put_both-in-Part.ensures c.in_ok-add_expr-in-Part.ensures c.in_ok-add_expr-in-Part-2.ensures

pub add_expr-returns-in_ok-add_bound-in-Range-2 : goal.add_expr-returns-in_ok-add_bound-in-Range-2
add_expr-returns-in_ok-add_bound-in-Range-2 t c =
    range_of _ _ _ _ _ _ _ _ _ _ _ c.in-Range.is c.deref-e-in-Range.ensures c.in_ok-put_one-in-Range.ensures c.in_ok-add_expr-in-Range.ensures c.in_ok-add_bound-in-Range.ensures
    c.in_ok-add_bound-in-Range-2.ensures

pub add_expr-returns-in_ok-add_exprs-in-List : goal.add_expr-returns-in_ok-add_exprs-in-List
add_expr-returns-in_ok-add_exprs-in-List t c =
    list_of _ _ _ _ _ _ c.in-List.is c.in_ok-put_each-in-List.ensures c.in_ok-add_exprs-in-List.ensures

pub add_expr-returns-in_ok-add_pairs-in-Dict : goal.add_expr-returns-in_ok-add_pairs-in-Dict
add_expr-returns-in_ok-add_pairs-in-Dict t c =
    dict_of _ _ _ _ _ c.in-Dict.is c.in_ok-add_pairs-in-Dict.ensures

pub add_expr-returns-in_ok-add_exprs-in-Tuple : goal.add_expr-returns-in_ok-add_exprs-in-Tuple
add_expr-returns-in_ok-add_exprs-in-Tuple t c =
    tuple_of _ _ _ _ _ _ c.in-Tuple.is c.in_ok-put_each-in-Tuple.ensures c.in_ok-add_exprs-in-Tuple.ensures
