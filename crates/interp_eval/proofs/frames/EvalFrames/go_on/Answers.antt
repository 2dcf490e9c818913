use Rattle.std.proofs.Common.{◌<◌, refl, sym, subst, ap, map, ◌∙◌}
use Rattle.prov_base.specs.declared.refusal.Memory.{Memory}
use Rattle.py_tree.specs.Erasure.{expr_of, exprs_list}
use Rattle.py_value.specs.Contents.{contents}
use Rattle.interp_eval.specs.Delivery.{GoesOn, following}
use Rattle.interp_eval.specs.Held.{AreAllNamed}
use Rattle.interp_eval.specs.Machine.{first_of}
use Rattle.interp_eval.specs.Seen.{branch_seen, finish_seen}
use Rattle.interp_eval.specs.Turns.{after_seen}
use Rattle.interp_eval.specs.Weight.{after_weight, finish_weight, no_values}
use Rattle.interp_eval.proofs.Weights.{pop_less, branch_less, bind_less}
use Rattle.interp_eval.proofs.Goings.{pop_goes, pop_held, branch_goes, bind_goes, replaced_held, fresh_held}
use Rattle.interp_eval.proofs.frames.EvalFrames.go_on.Goals as goal

pub returns-in-Pop-clause-means : goal.returns-in-Pop-clause-means
returns-in-Pop-clause-means c = λ script next here go table came method_is.
    subst (λ a. GoesOn {E = Memory} a c.args.value c.args.method c.args.self.now c.deliver.new.self script next here go table came c.deliver.result) (sym c.in-Pop.is)
    (pop_goes c.args.self.now c.deliver.new.self c.args.value c.args.method c.deliver.result c.deliver.ensures.means script next here go table came)

pub returns-in-Pop-clause-held : goal.returns-in-Pop-clause-held
returns-in-Pop-clause-held c = pop_held c.args.self.now c.deliver.new.self c.args.value c.args.method c.deliver.result c.deliver.ensures.means

pub returns-in-Branch-clause-means : goal.returns-in-Branch-clause-means
returns-in-Branch-clause-means c = λ script next here go table came method_is.
    branch_goes c.args.self.now (record { scope = c.args.self.now.scope; top = record { node = c.after_test-node.result; have = c.new.result }; below = c.args.self.now.below }) c.args.value c.args.method
    script next here go table came c.in-Branch.branch c.first-had.result c.is_true.result (c.after_test-node.ensures.means table) c.new.ensures.items refl
    (c.first-had.ensures.means table ∙ ap (λ vs. first_of (map (contents table) vs)) c.as_slice.ensures.value) (c.is_true.ensures table)
    ∙ ap (λ a. following a c.args.value c.args.self.now script next here go table came) (sym c.in-Branch.is)

pub returns-in-Branch-clause-held : goal.returns-in-Branch-clause-held
returns-in-Branch-clause-held c = λ table held one.
    replaced_held table c.args.self.now (record { scope = c.args.self.now.scope; top = record { node = c.after_test-node.result; have = c.new.result }; below = c.args.self.now.below })
    (fresh_held table (record { node = c.after_test-node.result; have = c.new.result })
    (c.after_test-node.ensures.named table (c.first-had.ensures.named table (subst (AreAllNamed table) (sym c.as_slice.ensures.value) held.top.have))) c.new.ensures.items)
    refl held

pub returns-in_ok-self-in-Bind-clause-means : goal.returns-in_ok-self-in-Bind-clause-means
returns-in_ok-self-in-Bind-clause-means c = λ script next here go table came method_is.
    bind_goes c.args.self.now (record { scope = c.args.self.now.scope; top = c.in_ok-self-in-Bind.field-0; below = c.args.self.now.below }) c.args.value c.args.method
    script next here go table came (exprs_list (map expr_of c.in-Bind.arguments.now)) c.first-had.result method_is (c.in_ok-self-in-Bind.ensures.means table) refl
    (c.first-had.ensures.means table ∙ ap (λ vs. first_of (map (contents table) vs)) c.as_slice.ensures.value)
    ∙ ap (λ a. following a c.args.value c.args.self.now script next here go table came) (sym c.in-Bind.is)

pub returns-in_ok-self-in-Bind-clause-held : goal.returns-in_ok-self-in-Bind-clause-held
returns-in_ok-self-in-Bind-clause-held c = λ table held one.
    replaced_held table c.args.self.now (record { scope = c.args.self.now.scope; top = c.in_ok-self-in-Bind.field-0; below = c.args.self.now.below })
    (c.in_ok-self-in-Bind.ensures.named table (c.first-had.ensures.named table (subst (AreAllNamed table) (sym c.as_slice.ensures.value) held.top.have)) one)
    refl held

pub returns-in-Pop-clause-falls : goal.returns-in-Pop-clause-falls
returns-in-Pop-clause-falls c = λ light. pop_less c.args.self.now c.deliver.new.self c.args.value c.deliver.result c.deliver.ensures.means

pub returns-in-Branch-clause-falls : goal.returns-in-Branch-clause-falls
returns-in-Branch-clause-falls c = λ light.
    branch_less c.args.self.now (record { scope = c.args.self.now.scope; top = record { node = c.after_test-node.result; have = c.new.result }; below = c.args.self.now.below })
    c.args.self.now.top.node.at (branch_seen c.in-Branch.branch) (contents no_values c.first-had.result) c.is_true.result (c.after_test-node.ensures.means no_values) refl
    (subst (λ a. after_weight (after_seen a) < finish_weight (finish_seen no_values c.args.self.now.top.node.finish)) c.in-Branch.is light)

pub returns-in_ok-self-in-Bind-clause-falls : goal.returns-in_ok-self-in-Bind-clause-falls
returns-in_ok-self-in-Bind-clause-falls c = λ light.
    bind_less c.args.self.now (record { scope = c.args.self.now.scope; top = c.in_ok-self-in-Bind.field-0; below = c.args.self.now.below })
    c.args.self.now.top.node.at (exprs_list (map expr_of c.in-Bind.arguments.now)) (contents no_values c.first-had.result) (contents no_values c.args.value) c.args.method
    (c.in_ok-self-in-Bind.ensures.means no_values) refl
    (subst (λ a. after_weight (after_seen a) < finish_weight (finish_seen no_values c.args.self.now.top.node.finish)) c.in-Bind.is light)
