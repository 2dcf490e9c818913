use Rattle.std.proofs.Common.{refl, subst, ◌∙◌, map, ℕ}
use Rattle.py_model.specs.Effect.{parts_of}
use Rattle.py_model.specs.Plan.{makes}
use Rattle.py_value.specs.Contents.{contents, tuple}
use Rattle.py_value.specs.Seen.{an_instance}
use Rattle.py_value.specs.declared.access.Kind.TheVariants.{Instance}
use Rattle.op_work.specs.Work.{Ends, WroteAll}
use Rattle.op_work.proofs.Ending.{ends_then, ends_stop, ends_makes}
use Rattle.op_work.proofs.EntryReads.{all_on}
use Rattle.op_work.proofs.Going.{passes_err}
use Rattle.op_classes.specs.Instances.{args_begun, exception_begun}
use Rattle.op_classes.proofs.instances.make_exception.Goals as goal

pub tuple-requires : goal.tuple-requires
tuple-requires c = all_on c.in_ok-args.ensures.comes.kept.extends c.args.arguments.now c.requires.named

pub returns-in_err-items : goal.returns-in_err-items
returns-in_err-items c =
    let of = c.args.of in let given = c.args.arguments.now in
    passes_err (λ result. Ends (λ table. makes (an_instance (contents table of)) (exception_begun (map (contents table) given))) c.args.work.now c.tuple.new.self result)
    c.from_residual-in_err-items.result c.from_residual-in_err-items.ensures.1
    (ends_then (λ table args. makes (an_instance (contents table of)) (args_begun args (tuple (parts_of (map (contents table) given))))) c.in_ok-args.ensures.comes (λ table interned extends. refl)
    (ends_stop (λ table items. makes (an_instance (contents table of)) (args_begun (contents table c.in_ok-args.args) items)) c.in_err-items.field-0.0 c.in_err-items.ensures))

pub returns : goal.returns
returns c =
    let of = c.args.of in let given = c.args.arguments.now in let args = c.in_ok-args.args in let items = c.in_ok-items.items in
    let wrote = subst (λ (o : ℕ). WroteAll (λ table. args_begun (contents table args) (contents table items) o) c.make-o.new.self c.set_args.new.work c.set_args.result) c.make-o.ensures.number c.set_args.ensures in
    ends_then (λ table args. makes (an_instance (contents table of)) (args_begun args (tuple (parts_of (map (contents table) given))))) c.in_ok-args.ensures.comes (λ table interned extends. refl)
    (ends_then (λ table items. makes (an_instance (contents table of)) (args_begun (contents table args) items)) c.in_ok-items.ensures (λ table interned extends. refl)
    (ends_makes (λ table. makes (an_instance (contents table of)) (args_begun (contents table args) (contents table items))) (c.in_ok-items.ensures.kept.made_is ∙ (c.in_ok-args.ensures.comes.kept.made_is ∙ c.requires.first))
    (Instance of) (λ table o. args_begun (contents table args) (contents table items) o) c.make-o.ensures.made (λ table interned extends. refl) wrote))
