use Rattle.std.proofs.Common.{◌≡◌, sym, ap, ◌∙◌, arith}
use Rattle.py_model.specs.Names.{load_unset as plan_load_unset, unset_name as plan_no_name}
use Rattle.py_value.specs.Seen.{bytes_of}
use Rattle.op_work.proofs.Ending.{ends_gives}
use Rattle.op_work.proofs.Going.{extends_then}
use Rattle.op_classes.proofs.EndsSame.{ends_same}
use Rattle.op_classes.proofs.NamedTexts.{bytes_stay, bytes_are}
use Rattle.op_classes.proofs.Variables.{by_known, unset_is, known_named, unset_local}
use Rattle.op_classes.proofs.names.load_unset.Goals as goal

pub returns-then-scope-gt0 : goal.returns-then-scope-gt0
returns-then-scope-gt0 c = ends_same (λ table. plan_load_unset c.args.scope (bytes_of table c.args.name))
    (λ table interned extends. unset_local c.args.scope (bytes_of table c.args.name) c.if-scope-gt0.true) c.unset_name.ensures

pub returns-in-Some : goal.returns-in-Some
returns-in-Some c =
    let none : c.args.scope ≡ 0 = omega (arith, c.if-scope-gt0.false) in
    let is = sym c.known.ensures ∙ c.in-Some.is in
    ends_gives (λ table. plan_load_unset c.args.scope (bytes_of table c.args.name)) c.args.work.now c.in-Some.v c.requires.first
    (known_named c.args.work.now.values c.text_of.result.now c.in-Some.v is)
    (λ table interned extends. ap (λ scope. plan_load_unset scope (bytes_of table c.args.name)) none
    ∙ (ap (plan_load_unset 0) (bytes_stay c.args.work.now.values c.args.name c.requires.name extends ∙ bytes_are c.args.work.now.values c.args.name c.text_of.result.now c.text_of.ensures)
    ∙ (unset_is table c.text_of.result.now ∙ ap (λ v. by_known table v c.text_of.result.now) is)))

pub returns-in-None : goal.returns-in-None
returns-in-None c =
    let none : c.args.scope ≡ 0 = omega (arith, c.if-scope-gt0.false) in
    let is = sym c.known.ensures ∙ c.in-None.is in
    ends_same (λ table. plan_load_unset c.args.scope (bytes_of table c.args.name))
    (λ table interned extends.
    let bytes = bytes_stay c.args.work.now.values c.args.name c.requires.name (extends_then c.unset_name-in-None.ensures.extends extends) ∙ bytes_are c.args.work.now.values c.args.name c.text_of.result.now c.text_of.ensures in
    ap (λ scope. plan_load_unset scope (bytes_of table c.args.name)) none
    ∙ (ap (plan_load_unset 0) bytes
    ∙ (unset_is table c.text_of.result.now ∙ (ap (λ v. by_known table v c.text_of.result.now) is ∙ ap (plan_no_name 0) (sym bytes))))) c.unset_name-in-None.ensures
