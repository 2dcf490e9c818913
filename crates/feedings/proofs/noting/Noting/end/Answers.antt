use Rattle.std.proofs.Common.{[], ◌∷◌, ◌++◌, List, ℕ, sym, ap, subst, ◌∙◌}
use Rattle.std.specs.Prelude.{OnOk}
use Rattle.py_model.specs.Moment.{ends}
use Rattle.py_model.specs.Told.{how_seen}
use Rattle.feedings.specs.declared.noting.Noting.{Noting}
use Rattle.feedings.specs.Feeding.{notes_after}
use Rattle.feedings.specs.HasNoted.{HasNoted, given_of}
use Rattle.feedings.proofs.NotedLaws.{nothing_given, on_ok}
use Rattle.feedings.proofs.noting.Noting.end.Goals as goal

pub returns-in-Return : goal.returns-in-Return
returns-in-Return c = λ script told number taking places known.
    let new : Noting = record { stack = c.end_by_return.new.self; left = c.of.result; fed = c.push.new.self } in
    subst (λ how. OnOk c.end_by_return.result (HasNoted script new (ends number (how_seen how) ∷ told))) (sym c.in-Return.is)
    (on_ok c.end_by_return.result (c.end_by_return.ensures script (notes_after script told) taking places known.stack) (λ stack. record {
      stack = stack;
      left = λ other. nothing_given other ∙ ap (given_of other) (sym (c.of.ensures ∙ c.new.ensures.items));
      fed = c.in_ok-push.ensures ∙ ap (λ (times : List ℕ). c.args.self.now.fed ++ times ∷ []) (c.of-2.ensures ∙ c.new-2.ensures.items) ∙ ap (λ (lists : List (List ℕ)). lists ++ [] ∷ []) known.fed;
    }))
