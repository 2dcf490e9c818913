use Rattle.std.proofs.Common.{rules, ◌≡◌, sym, ap, ◌∙◌, map, None}
use Rattle.py_value.specs.Contents.{Contents, contents}
use Rattle.py_model.specs.Operands.{with_text}
use Rattle.op_work.proofs.Going.{comes_same, fault_comes}
use Rattle.op_texts.specs.Operands.{with_one_text}
use Rattle.op_texts.proofs.Taken.{one_is, one_named, by_one}
use Rattle.op_texts.proofs.operands.one_text.Goals as goal

pub returns-in_default : goal.returns-in_default
returns-in_default c =
    let none : c.one.result ≡ None = search rules in
    fault_comes (λ table. with_one_text (map (contents table) c.args.operands.now)) 9 _ c.fault.result c.fault.ensures
    (λ table interned extends go. one_is table (λ (v : Contents). with_text v go) c.args.operands.now ∙ ap (by_one table (λ v. with_text v go)) (sym c.one.ensures ∙ none))

pub text-requires : goal.text-requires
text-requires c = one_named c.args.work.now.values c.args.operands.now c.in-Some.v (sym c.one.ensures ∙ c.in-Some.is) c.requires

pub returns : goal.returns
returns c = comes_same (λ table. with_one_text (map (contents table) c.args.operands.now))
    (λ table interned extends go. one_is table (λ (v : Contents). with_text v go) c.args.operands.now ∙ ap (by_one table (λ v. with_text v go)) (sym c.one.ensures ∙ c.in-Some.is)) c.text.ensures
