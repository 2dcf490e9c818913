use Rattle.std.proofs.Common.{refl, ap, ◌∙◌, ℕ, List, inl, inr, Some, None}
use Rattle.now_words.specs.Command.{run_bare, reads}
use Rattle.now_top.proofs.Preparing.{plans_for, keeps_nothing, no_command, answers_so}
use Rattle.now_top.proofs.plan.plan.Goals as goal

pub returns-in-Some-RunBare-clause-plans : goal.returns-in-Some-RunBare-clause-plans
returns-in-Some-RunBare-clause-plans g c = λ given same. plans_for given (Some (run_bare c.in-Some-RunBare.steps c.in-Some-RunBare.file.now c.deref.result.now)) _ _ _ _ _ _ _
    (ap (λ (arguments : List (List ℕ)). Some (run_bare c.in-Some-RunBare.steps c.in-Some-RunBare.file.now arguments)) c.deref.ensures.value
    ∙ rw c.in-Some-RunBare.field-0-is at (rw c.in-Some-RunBare.is at same)) (keeps_nothing _ _ _ _ _ _ (inl refl) (inl refl) (c.plan_run.ensures _))

pub returns-in-Some-Reads-clause-plans : goal.returns-in-Some-Reads-clause-plans
returns-in-Some-Reads-clause-plans g c = λ given same. plans_for given (Some (reads c.in-Some-Reads.query)) _ _ _ _ _ _ _ (rw c.in-Some-Reads.field-0-is at (rw c.in-Some-Reads.is at same))
    (answers_so _ _ _ _ _ _ _ c.answer_query.ensures.answers)

pub returns-in-None-clause-plans : goal.returns-in-None-clause-plans
returns-in-None-clause-plans g c = λ given same. plans_for given None _ _ _ _ _ _ _ (rw c.in-None.is at same) (keeps_nothing _ _ _ _ _ _ (inl refl) (inl refl) (no_command _ _))
