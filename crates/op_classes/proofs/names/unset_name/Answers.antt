use Rattle.std.proofs.Common.{ap, ◌∙◌, arith, ◌++◌, codes}
use Rattle.py_model.specs.Faults.{fault}
use Rattle.py_model.specs.Names.{unset_name as plan_no_name}
use Rattle.py_value.specs.Seen.{bytes_of}
use Rattle.op_work.proofs.Ending.{ends_fault}
use Rattle.op_work.proofs.Going.{extends_then}
use Rattle.op_classes.proofs.NamedTexts.{bytes_stay}
use Rattle.op_classes.proofs.Variables.{local_words, module_words}
use Rattle.op_classes.proofs.names.unset_name.Goals as goal

pub returns-then-scope-eq0 : goal.returns-then-scope-eq0
returns-then-scope-eq0 c = ends_fault (λ table. plan_no_name c.args.scope (bytes_of table c.args.name)) 7 _ c.named_fault.result c.named_fault.ensures
    (λ table interned extends. module_words c.args.scope (bytes_of table c.args.name) c.if-scope-eq0.true
    ∙ ap (λ bytes. fault 7 (codes "name '" ++ bytes ++ codes "' is not defined")) (bytes_stay c.args.work.now.values c.args.name c.requires.name (extends_then c.named_fault.ensures.kept.extends extends)))

pub returns : goal.returns
returns c = ends_fault (λ table. plan_no_name c.args.scope (bytes_of table c.args.name)) 8 _ c.named_fault-2.result c.named_fault-2.ensures
    (λ table interned extends. local_words c.args.scope (bytes_of table c.args.name) (omega (arith, c.if-scope-eq0.false))
    ∙ ap (λ bytes. fault 8 (codes "local name '" ++ bytes ++ codes "' is not set")) (bytes_stay c.args.work.now.values c.args.name c.requires.name (extends_then c.named_fault-2.ensures.kept.extends extends)))
