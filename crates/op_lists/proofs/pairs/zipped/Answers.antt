use Rattle.std.proofs.Common.{◌∙◌, refl, sym, ap, subst, List}
use Rattle.py_model.specs.Dicts.{paired}
use Rattle.py_model.specs.Plan.{Plan}
use Rattle.py_model.specs.Walks.{walk, if_walked}
use Rattle.py_value.specs.Contents.{Contents, contents}
use Rattle.py_value.specs.Values.{ValuesView, AreNamed}
use Rattle.py_value.specs.declared.value.Value.{Value}
use Rattle.op_lists.specs.ValuesSeen.{values_seen}
use Rattle.op_lists.proofs.NamedValues.{all_named_stay}
use Rattle.op_work.specs.Work.{Comes}
use Rattle.op_work.proofs.Going.{comes_then, comes_stop, passes_err}
use Rattle.op_lists.specs.Zipped.{zipped}
use Rattle.op_lists.proofs.pairs.zipped.Goals as goal

abbrev fourth : List Value → ValuesView → List Contents → (List Contents → Plan) → Plan
fourth lefts table rights go = go (paired (values_seen table lefts) rights)

abbrev third : Value → ValuesView → List Contents → (List Contents → Plan) → Plan
third right table lefts go = walk (contents table right) (λ rights. go (paired lefts rights))

abbrev second : Value → Value → ValuesView → Unit {0} → (List Contents → Plan) → Plan
second left right table x go = walk (contents table left) (λ lefts. third right table lefts go)

abbrev first : Value → Value → ValuesView → Unit {0} → (List Contents → Plan) → Plan
first left right table x go = if_walked (contents table right) (second left right table tt go)

pub returns-in_err-if_walked : goal.returns-in_err-if_walked
returns-in_err-if_walked c = passes_err (λ result. Comes (λ values vs. AreNamed values vs.items) (λ table vs. values_seen table vs.items) (λ table. zipped (contents table c.args.left) (contents table c.args.right)) c.args.work.now c.if_walked.new.work result)
    c.from_residual.result c.from_residual.ensures.1
    (comes_stop (first c.args.left c.args.right) c.in_err-if_walked.ensures)

pub returns-in_err-if_walked-2 : goal.returns-in_err-if_walked-2
returns-in_err-if_walked-2 c = passes_err (λ result. Comes (λ values vs. AreNamed values vs.items) (λ table vs. values_seen table vs.items) (λ table. zipped (contents table c.args.left) (contents table c.args.right)) c.args.work.now c.if_walked-2.new.work result)
    c.from_residual-in_err-if_walked-2.result c.from_residual-in_err-if_walked-2.ensures.1
    (comes_then (first c.args.left c.args.right) c.in_ok-if_walked.ensures (λ table interned extends go. refl)
    (comes_stop (second c.args.left c.args.right) c.in_err-if_walked-2.ensures))

pub returns-in_err-lefts : goal.returns-in_err-lefts
returns-in_err-lefts c = passes_err (λ result. Comes (λ values vs. AreNamed values vs.items) (λ table vs. values_seen table vs.items) (λ table. zipped (contents table c.args.left) (contents table c.args.right)) c.args.work.now c.walk_value.new.work result)
    c.from_residual-in_err-lefts.result c.from_residual-in_err-lefts.ensures.1
    (comes_then (first c.args.left c.args.right) c.in_ok-if_walked.ensures (λ table interned extends go. refl)
    (comes_then (second c.args.left c.args.right) c.in_ok-if_walked-2.ensures (λ table interned extends go. refl)
    (comes_stop (third c.args.right) c.in_err-lefts.ensures)))

pub returns-in_err-rights : goal.returns-in_err-rights
returns-in_err-rights c = passes_err (λ result. Comes (λ values vs. AreNamed values vs.items) (λ table vs. values_seen table vs.items) (λ table. zipped (contents table c.args.left) (contents table c.args.right)) c.args.work.now c.walk_value-2.new.work result)
    c.from_residual-in_err-rights.result c.from_residual-in_err-rights.ensures.1
    (comes_then (first c.args.left c.args.right) c.in_ok-if_walked.ensures (λ table interned extends go. refl)
    (comes_then (second c.args.left c.args.right) c.in_ok-if_walked-2.ensures (λ table interned extends go. refl)
    (comes_then (third c.args.right) c.in_ok-lefts.ensures (λ table interned extends go. refl)
    (comes_stop (fourth c.in_ok-lefts.lefts.items) c.in_err-rights.ensures))))

pub returns : goal.returns
returns c =
    comes_then (first c.args.left c.args.right) c.in_ok-if_walked.ensures (λ table interned extends go. refl)
    (comes_then (second c.args.left c.args.right) c.in_ok-if_walked-2.ensures (λ table interned extends go. refl)
    (comes_then (third c.args.right) c.in_ok-lefts.ensures (λ table interned extends go. refl)
    (comes_then (fourth c.in_ok-lefts.lefts.items) c.in_ok-rights.ensures
    (λ table interned extends go. ap (λ vs. go (paired (values_seen table vs) (values_seen table c.in_ok-rights.rights.items))) (sym c.as_slice.ensures.value)
    ∙ ap (λ vs. go (paired (values_seen table c.as_slice.result.now) (values_seen table vs))) (sym c.as_slice-2.ensures.value)) c.pair_up.ensures)))

pub pair_up-requires-clause-lefts : goal.pair_up-requires-clause-lefts
pair_up-requires-clause-lefts c =
    let later = c.walk_value-2.new.work.values in
    subst (AreNamed later) (sym c.as_slice.ensures.value) (all_named_stay c.walk_value.new.work.values later c.walk_value-2.ensures.kept.extends.few c.in_ok-lefts.lefts.items c.in_ok-lefts.ensures.is_named)
