use Rattle.std.proofs.Common.{◌≡◌, ◌∙◌, refl, sym, ap, false, true}
use Rattle.py_model.specs.Printing.{is_inside}
use Rattle.py_value.specs.Contents.{contents}
use Rattle.op_work.specs.Work.{Comes}
use Rattle.op_work.proofs.Going.{comes_same, comes_then, comes_stop, passes_err}
use Rattle.op_printing.specs.Forms.{instance_step, end_step, comes_inside, whole, next_seen, IsStep}
use Rattle.op_pieces.specs.Pieces.{pieces_bytes, ArePieces}
use Rattle.op_printing.specs.declared.forms.Rest.TheVariants.{Whole}
use Rattle.op_printing.specs.declared.forms.Step.TheVariants.{Rests}
use Rattle.op_printing.proofs.Stepping.{step_after, step_stop}
use Rattle.op_pieces.proofs.Joining.{pieces_stay}
use Rattle.op_printing.proofs.objects.instance_step.Goals as goal

pub returns-in_err-push_class_between : goal.returns-in_err-push_class_between
returns-in_err-push_class_between c =
    let inside = c.args.within.now.items in let out = c.push_class_between.new.out.items in let o = c.args.o in
    let here : is_inside o inside ≡ true = sym (ap (is_inside o) c.as_slice.ensures.value) ∙ (sym c.is_inside.ensures ∙ c.if-is_inside.true) in
    passes_err (λ result. Comes (λ values step. IsStep values step × ArePieces values out) (next_seen inside out)
    (λ table. instance_step c.args.quoted inside (pieces_bytes table c.args.out.now.items) o (contents table c.args.of) (is_inside o inside)) c.args.work.now c.args.work.now result)
    c.from_residual.result c.from_residual.ensures.1
    (comes_same (λ table. instance_step c.args.quoted inside (pieces_bytes table c.args.out.now.items) o (contents table c.args.of) (is_inside o inside))
    (λ table interned extends go. ap (λ is. instance_step c.args.quoted inside (pieces_bytes table c.args.out.now.items) o (contents table c.args.of) is go) here)
    (step_stop _ inside (λ table bytes. comes_inside inside bytes false whole) c.in_err-push_class_between.ensures))

pub returns-then-is_inside : goal.returns-then-is_inside
returns-then-is_inside c =
    let inside = c.args.within.now.items in let o = c.args.o in
    let here : is_inside o inside ≡ true = sym (ap (is_inside o) c.as_slice.ensures.value) ∙ (sym c.is_inside.ensures ∙ c.if-is_inside.true) in
    comes_same (λ table. instance_step c.args.quoted inside (pieces_bytes table c.args.out.now.items) o (contents table c.args.of) (is_inside o inside))
    (λ table interned extends go. ap (λ is. instance_step c.args.quoted inside (pieces_bytes table c.args.out.now.items) o (contents table c.args.of) is go) here)
    (step_after inside (Rests false Whole) (λ table bytes. comes_inside inside bytes false whole) c.in_ok-push_class_between.ensures tt (λ table interned extends. refl))

pub returns-in_err-end : goal.returns-in_err-end
returns-in_err-end c =
    let inside = c.args.within.now.items in let out = c.args.out.now.items in let o = c.args.o in
    let here : is_inside o inside ≡ false = sym (ap (is_inside o) c.as_slice.ensures.value) ∙ (sym c.is_inside.ensures ∙ c.if-is_inside.false) in
    passes_err (λ result. Comes (λ values step. IsStep values step × ArePieces values out) (next_seen inside out)
    (λ table. instance_step c.args.quoted inside (pieces_bytes table out) o (contents table c.args.of) (is_inside o inside)) c.args.work.now c.end_of_chain.new.work result)
    c.from_residual-in_err-end.result c.from_residual-in_err-end.ensures.1
    (comes_same (λ table. instance_step c.args.quoted inside (pieces_bytes table out) o (contents table c.args.of) (is_inside o inside))
    (λ table interned extends go. ap (λ is. instance_step c.args.quoted inside (pieces_bytes table out) o (contents table c.args.of) is go) here)
    (comes_stop (λ table end go. end_step c.args.quoted inside (pieces_bytes table out) o (contents table c.args.of) end go) c.in_err-end.ensures))

pub end_step-requires : goal.end_step-requires
end_step-requires c = pieces_stay c.args.work.now.values c.end_of_chain.new.work.values c.in_ok-end.ensures.kept.extends c.args.out.now.items c.requires

pub returns : goal.returns
returns c =
    let inside = c.args.within.now.items in let out = c.args.out.now.items in let o = c.args.o in
    let here : is_inside o inside ≡ false = sym (ap (is_inside o) c.as_slice.ensures.value) ∙ (sym c.is_inside.ensures ∙ c.if-is_inside.false) in
    comes_same (λ table. instance_step c.args.quoted inside (pieces_bytes table out) o (contents table c.args.of) (is_inside o inside))
    (λ table interned extends go. ap (λ is. instance_step c.args.quoted inside (pieces_bytes table out) o (contents table c.args.of) is go) here)
    (comes_then (λ table end go. end_step c.args.quoted inside (pieces_bytes table out) o (contents table c.args.of) end go) c.in_ok-end.ensures (λ table interned extends go. refl) c.end_step.ensures)
