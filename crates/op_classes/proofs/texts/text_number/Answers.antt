use Rattle.std.proofs.Common.{refl, sym, ◌∙◌, subst, Ok}
use Rattle.py_model.specs.Plan.{Plan}
use Rattle.py_value.specs.Contents.{Contents, contents, text}
use Rattle.py_value.specs.Values.{IsNamed}
use Rattle.op_work.specs.Work.{Comes}
use Rattle.op_work.proofs.Going.{comes_as}
use Rattle.op_classes.proofs.TextNumbers.{text_is, with_bytes}
use Rattle.op_classes.proofs.texts.text_number.Goals as goal

pub returns-in-Some : goal.returns-in-Some
returns-in-Some c =
    let number = c.in-Some.id in
    let one = subst (λ v. Comes IsNamed contents (λ table (go : Contents → Plan). go (text c.args.words.now)) c.args.work.now c.text.new.self (Ok v)) (text_is c.in_ok-v.v number (sym c.number_in.ensures ∙ c.in-Some.is)) c.in_ok-v.ensures.comes in
    comes_as with_bytes number one one.is_named (λ table interned extends go. refl)
