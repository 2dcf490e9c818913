use Rattle.std.proofs.Common.{refl, ◌∙◌, [], ◌∷◌}
use Rattle.op_work.specs.Work.{Ends}
use Rattle.py_model.specs.Lists.{append as append_plan}
use Rattle.py_model.specs.Plan.{read_len, writes}
use Rattle.py_value.specs.Contents.{contents, object}
use Rattle.op_work.proofs.Ending.{ends_then, ends_stop, ends_writes}
use Rattle.op_work.proofs.Going.{passes_err}
use Rattle.op_lists.proofs.ListKinds.{behind}
use Rattle.op_lists.proofs.append.append_to.Goals as goal

pub returns-in_err-list : goal.returns-in_err-list
returns-in_err-list c = passes_err (λ result. Ends (λ table. append_plan (object c.args.o ∷ contents table c.args.item ∷ [])) c.args.work.now c.list.new.work result) c.from_residual.result c.from_residual.ensures.1
    (ends_stop (λ table x. read_len c.args.o (λ n. writes (behind c.args.o n (contents table c.args.item)))) c.in_err-list.field-0.0 c.in_err-list.ensures.comes)

pub returns-in_err-n : goal.returns-in_err-n
returns-in_err-n c = passes_err (λ result. Ends (λ table. append_plan (object c.args.o ∷ contents table c.args.item ∷ [])) c.args.work.now c.read_len.new.self result) c.from_residual-in_err-n.result c.from_residual-in_err-n.ensures.1
    (ends_then (λ table x. read_len c.args.o (λ n. writes (behind c.args.o n (contents table c.args.item)))) c.in_ok-list.ensures.comes (λ table interned extends. refl)
    (ends_stop (λ table n. writes (behind c.args.o n (contents table c.args.item))) c.in_err-n.field-0.0 c.in_err-n.ensures))

pub returns : goal.returns
returns c =
    let fresh = c.read_len.ensures.kept.made_is ∙ (c.list.ensures.comes.kept.made_is ∙ c.requires.fresh) in
    ends_then (λ table x. read_len c.args.o (λ n. writes (behind c.args.o n (contents table c.args.item)))) c.in_ok-list.ensures.comes (λ table interned extends. refl)
    (ends_then (λ table n. writes (behind c.args.o n (contents table c.args.item))) c.in_ok-n.ensures (λ table interned extends. refl)
    (ends_writes (λ table. writes (behind c.args.o c.in_ok-n.n (contents table c.args.item))) fresh (λ table. behind c.args.o c.in_ok-n.n (contents table c.args.item))
    (λ table interned extends. refl) c.put_behind.ensures))
