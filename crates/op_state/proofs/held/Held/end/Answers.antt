use Rattle.std.proofs.Common.{rules, ◌≡◌, true, sym, ap, subst, ◌∙◌, ◌++◌, Ok}
use Rattle.op_state.specs.Held.{HeldView}
use Rattle.op_state.specs.Settling.{Settled}
use Rattle.op_state.specs.Paths.{with_numbers}
use Rattle.op_work.specs.Work.{Ends, AreNamedPaths, AreNamedSayings}
use Rattle.op_state.proofs.KeptHolds.{finished, finishes_err, goes_on_kept, goes_on_same, paths_on, said_paths}
use Rattle.op_state.proofs.PathNumbers.{numbers_named}
use Rattle.op_state.proofs.held.Held.end.Goals as goal

pub invariant_of-self : goal.invariant_of-self
invariant_of-self c = paths_on c.settle.ensures.extends c.self.inside.opened.items c.self.invariant

pub invariant_of-self-in_default : goal.invariant_of-self-in_default
invariant_of-self-in_default c = paths_on c.settle.ensures.extends c.self.inside.opened.items c.self.invariant

pub returns-in_default-clause-finishes : goal.returns-in_default-clause-finishes
returns-in_default-clause-finishes c = λ plan began begun ends.
    let inside = subst (λ (h : HeldView). Ends plan began h.work c.args.answer) (sym c.self.view_is) ends in (
      subst (λ o. Settled plan began c.settle.new.work (Ok o)) c.in_default.is (c.in_ok-answer.ensures.settled plan began inside),
      goes_on_same began c.settle.new.work c.args.self.now.opened c.args.self.now.output c.self.inside.opened.items c.self.inside.output.items
          (ap (λ (h : HeldView). h.opened) c.self.view_is) (ap (λ (h : HeldView). h.output) c.self.view_is) (c.settle.ensures.store ∙ inside.store_is),
    )

pub invariant_of-self-then-not-has_its_file : goal.invariant_of-self-then-not-has_its_file
invariant_of-self-then-not-has_its_file c = paths_on c.settle.ensures.extends c.self.inside.opened.items c.self.invariant

pub invariant_of-self-in_err-reserve : goal.invariant_of-self-in_err-reserve
invariant_of-self-in_err-reserve c = paths_on c.settle.ensures.extends c.self.inside.opened.items c.self.invariant

pub invariant_of-self-in_err-reserve-2 : goal.invariant_of-self-in_err-reserve-2
invariant_of-self-in_err-reserve-2 c = subst (λ paths. AreNamedPaths c.settle.new.work.values paths) (sym c.reserve-2.ensures.items) (paths_on c.settle.ensures.extends c.self.inside.opened.items c.self.invariant)

pub invariant_of-self-in_err-deed : goal.invariant_of-self-in_err-deed
invariant_of-self-in_err-deed c = subst (λ values. AreNamedPaths values c.reserve-2.new.self.items) (sym c.complete.ensures.values)
    (subst (λ paths. AreNamedPaths c.settle.new.work.values paths) (sym c.reserve-2.ensures.items) (paths_on c.settle.ensures.extends c.self.inside.opened.items c.self.invariant))

pub returns-in_err-deed-clause-finishes : goal.returns-in_err-deed-clause-finishes
returns-in_err-deed-clause-finishes c = λ plan began begun ends.
    let inside = subst (λ (h : HeldView). Ends plan began h.work c.args.answer) (sym c.self.view_is) ends in
    let old : HeldView = record { work = began; opened = c.args.self.now.opened; output = c.args.self.now.output } in
    let new : HeldView = record { work = c.complete.new.work; opened = c.reserve-2.new.self.items; output = c.reserve.new.self.items } in
    finishes_err plan old new c.from_residual-in_err-deed.result c.from_residual-in_err-deed.ensures.0
    (goes_on_kept began c.settle.new.work c.complete.new.work c.args.self.now.opened c.args.self.now.output c.reserve-2.new.self.items c.reserve.new.self.items
    (c.reserve-2.ensures.items ∙ ap (λ (h : HeldView). h.opened) c.self.view_is) (c.reserve.ensures.items ∙ ap (λ (h : HeldView). h.output) c.self.view_is)
    (c.settle.ensures.store ∙ inside.store_is) c.in_err-deed.ensures.refused)

pub invariant_of-self-2 : goal.invariant_of-self-2
invariant_of-self-2 c =
    let before = subst (λ values. AreNamedPaths values c.reserve-2.new.self.items) (sym c.complete.ensures.values)
    (subst (λ paths. AreNamedPaths c.settle.new.work.values paths) (sym c.reserve-2.ensures.items) (paths_on c.settle.ensures.extends c.self.inside.opened.items c.self.invariant)) in
    subst (λ paths. AreNamedPaths c.complete.new.work.values paths) (sym c.take_said.ensures.opened)
    (numbers_named c.complete.new.work.values c.complete.new.work.opens c.reserve-2.new.self.items (said_paths c.complete.new.work.values c.complete.new.work.note c.complete.new.work.opens c.take_said.ensures.named) before)

pub returns-clause-finishes : goal.returns-clause-finishes
returns-clause-finishes c = λ plan began begun ends.
    let inside = subst (λ (h : HeldView). Ends plan began h.work c.args.answer) (sym c.self.view_is) ends in
    let settled = subst (λ o. Settled plan began c.settle.new.work (Ok o)) c.in-Some.is (c.in_ok-answer.ensures.settled plan began inside) in
    let opened_is = c.reserve-2.ensures.items ∙ ap (λ (h : HeldView). h.opened) c.self.view_is in
    let output_is = c.reserve.ensures.items ∙ ap (λ (h : HeldView). h.output) c.self.view_is in
    let named = subst (λ paths. AreNamedPaths c.settle.new.work.values paths) (ap (λ (h : HeldView). h.opened) c.self.view_is) (paths_on c.settle.ensures.extends c.self.inside.opened.items c.self.invariant) in
    let has : c.has_its_file.result ≡ true = search rules in
    finished plan began c.settle.new.work c.complete.new.work c.args.self.now.opened c.args.self.now.output c.take_said.new.opened.items c.take_said.new.output.items c.in_ok-deed.deed c.in-Some.answer
    begun settled c.in_ok-deed.ensures.happened (c.has_its_file.ensures has) c.complete.ensures.values
    (c.take_said.ensures.printed ∙ (ap (λ bytes. bytes ++ c.complete.new.work.printed) output_is ∙ ap (λ bytes. c.args.self.now.output ++ bytes) c.complete.ensures.said.0))
    (c.take_said.ensures.opened ∙ (ap (with_numbers c.complete.new.work.opens) opened_is ∙ ap (λ paths. with_numbers paths c.args.self.now.opened) c.complete.ensures.said.1))
    named (said_paths c.settle.new.work.values c.settle.new.work.note c.settle.new.work.opens
    (subst (λ paths. AreNamedSayings c.settle.new.work.values c.settle.new.work.note paths) c.opened.ensures.opened c.opened.ensures.named))
