use Rattle.op_printing.proofs.objects.container_step.Goals as goal

pub returns-then-is_inside-clause-named : goal.returns-then-is_inside-clause-named
returns-then-is_inside-clause-named c = λ values rest are. (tt, c.in_ok-push_word.ensures.named values are)
