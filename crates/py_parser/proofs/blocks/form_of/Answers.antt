use Rattle.std.proofs.Common.{option_map, ap, sym, ◌∙◌, subst}
use Rattle.std.proofs.lemmas.Bool.{false≢true}
use Rattle.py_tree.specs.Erasure.{expr_of, target_of}
use Rattle.py_tree.specs.Tree.{while_form, for_form, with_form, def_form, class_form}
use Rattle.py_tree.proofs.StmtTrees.{while_tree, for_tree, with_tree, def_tree, class_tree}
use Rattle.py_grammar.specs.declared.head.What.{What}
use Rattle.py_grammar.specs.ParsedHead.{IsWhat}
use Rattle.py_parser.proofs.BlockForms.{rolled, first_branch, no_handlers}
use Rattle.py_parser.proofs.BlockHeads.{if_begun, while_begun, for_begun, try_begun, with_begun, def_begun, class_begun, no_stmt}
use Rattle.py_parser.proofs.blocks.form_of.Goals as goal

-- src/blocks.rt
pub returns-in-If : goal.returns-in-If
returns-in-If c h is begins = first_branch _ c.args.under.list c.new-list.result c.push.new.self c.new-list.ensures.items c.in_ok-push-in-If.ensures.items ∙ if_begun h _ _ _ (subst (λ (w : What). IsWhat w h) c.in-If.is is)

-- src/blocks.rt
pub returns-in-While : goal.returns-in-While
returns-in-While c h is begins =
    while_tree _ _ ∙ ap (while_form (expr_of c.in-While.test)) (rolled c.args.under.list) ∙ while_begun h _ _ _ (subst (λ (w : What). IsWhat w h) c.in-While.is is)

-- src/blocks.rt
pub returns-in-For : goal.returns-in-For
returns-in-For c h is begins =
    for_tree _ _ _ ∙ ap (for_form (target_of c.in-For.target) (expr_of c.in-For.items)) (rolled c.args.under.list) ∙ for_begun h _ _ _ _ (subst (λ (w : What). IsWhat w h) c.in-For.is is)

-- src/blocks.rt
pub returns-in-Try : goal.returns-in-Try
returns-in-Try c h is begins = no_handlers c.args.under.list c.new.result c.new.ensures.items ∙ try_begun h _ _ (subst (λ (w : What). IsWhat w h) c.in-Try.is is)

-- src/blocks.rt
pub returns-in-With : goal.returns-in-With
returns-in-With c h is begins =
    with_tree _ _ _ ∙ ap (with_form (expr_of c.in-With.value) c.in-With.bound) (rolled c.args.under.list) ∙ with_begun h _ _ _ _ (subst (λ (w : What). IsWhat w h) c.in-With.is is)

-- src/blocks.rt
pub returns-in-Def : goal.returns-in-Def
returns-in-Def c h is begins =
    def_tree _ _ _ _ ∙ ap (def_form c.in-Def.name c.in-Def.params.list.items c.args.under.globals.items) (rolled c.args.under.list) ∙ def_begun h c.in-Def.name c.in-Def.params _ c.args.under.globals.items (subst (λ (w : What). IsWhat w h) c.in-Def.is is)

-- src/blocks.rt
pub returns-in-Class : goal.returns-in-Class
returns-in-Class c h is begins = class_tree _ _ _ ∙ ap (class_form c.in-Class.name (option_map expr_of c.in-Class.base)) (rolled c.args.under.list) ∙ class_begun h c.in-Class.name c.in-Class.base _ _ (subst (λ (w : What). IsWhat w h) c.in-Class.is is)

-- src/blocks.rt
pub returns : goal.returns
returns c h is begins =
    absurd (false≢true (sym (no_stmt c.args.what h c.in_default.not-Simple c.in_default.not-If c.in_default.not-While c.in_default.not-For c.in_default.not-Try c.in_default.not-With c.in_default.not-Def c.in_default.not-Class is) ∙ begins))
