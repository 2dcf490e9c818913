use Rattle.std.proofs.Common.{refl, sym, ◌∙◌, true, false}
use Rattle.py_model.specs.Classes.{getattr as plan_getattr}
use Rattle.py_value.specs.Contents.{builtin}
use Rattle.py_value.specs.Seen.{bytes_of}
use Rattle.py_value.specs.declared.value.Value.TheVariants.{Object}
use Rattle.op_classes.proofs.NamedTexts.{bytes_stay, bytes_are}
use Rattle.op_work.proofs.Ending.{ends_gives, ends_fault}
use Rattle.op_work.proofs.Going.{extends_then}
use Rattle.op_attributes.proofs.HeldBy.{get_builtin, argv_on}
use Rattle.op_attributes.proofs.Lacking.{lacks_ends}
use Rattle.op_attributes.proofs.gets.get_of_builtin.Goals as goal

pub returns-then-arguments : goal.returns-then-arguments
returns-then-arguments c =
    let values = c.args.work.now.values in
    ends_gives (λ table. plan_getattr (bytes_of table c.args.name) (builtin c.args.number)) c.args.work.now (Object 0) c.requires.first tt
    (λ table interned extends. get_builtin (bytes_of table c.args.name) c.args.number true _
    (argv_on c.args.number (bytes_stay values c.args.name c.requires.name extends ∙ bytes_are values c.args.name c.text_of.result.now c.text_of.ensures) (sym c.is_argv-arguments.ensures ∙ c.if-arguments.true)) refl)

pub returns-then-module : goal.returns-then-module
returns-then-module c =
    let values = c.args.work.now.values in
    ends_fault (λ table. plan_getattr (bytes_of table c.args.name) (builtin c.args.number)) 13 _ c.fault.result c.fault.ensures
    (λ table interned extends. get_builtin (bytes_of table c.args.name) c.args.number false true
    (argv_on c.args.number (bytes_stay values c.args.name c.requires.name (extends_then c.fault.ensures.kept.extends extends) ∙ bytes_are values c.args.name c.text_of.result.now c.text_of.ensures) (sym c.is_argv-arguments.ensures ∙ c.if-arguments.false))
    (sym c.is_module-module.ensures ∙ c.if-module.true))

pub returns : goal.returns
returns c =
    let values = c.args.work.now.values in
    lacks_ends (λ table. plan_getattr (bytes_of table c.args.name) (builtin c.args.number)) c.args.name c.no_attribute.result c.requires.name c.no_attribute.ensures
    (λ table interned extends. get_builtin (bytes_of table c.args.name) c.args.number false false
    (argv_on c.args.number (bytes_stay values c.args.name c.requires.name (extends_then c.no_attribute.ensures.kept.extends extends) ∙ bytes_are values c.args.name c.text_of.result.now c.text_of.ensures) (sym c.is_argv-arguments.ensures ∙ c.if-arguments.false))
    (sym c.is_module-module.ensures ∙ c.if-module.false))
