use Rattle.std.proofs.Common.{rules, ◌≡◌, ◌∙◌, refl, sym, ap, map, pos, chars, unwrap_or, [], subst, ℤ, FitsSigned, w64, to_z, of_z}
use Rattle.op_work.specs.Work.{Ends}
use Rattle.py_model.specs.Arithmetic.{ord_plan}
use Rattle.py_model.specs.Operands.{with_text}
use Rattle.py_value.specs.Contents.{contents}
use Rattle.py_value.specs.Seen.{bytes_of}
use Rattle.op_work.proofs.Ending.{ends_then, ends_stop, ends_fault}
use Rattle.op_work.proofs.Going.{passes_err}
use Rattle.op_numbers.proofs.CharacterPlans.{by_characters, code_of, ord_is}
use Rattle.op_numbers.proofs.characters.ord.Goals as goal

pub returns-in_err-v : goal.returns-in_err-v
returns-in_err-v c = passes_err (λ result. Ends (λ table. ord_plan (map (contents table) c.args.operands.now)) c.args.work.now c.one.new.work result)
    c.from_residual.result c.from_residual.ensures.1 (ends_stop (λ table v. with_text v (λ bytes. by_characters (chars bytes))) _ c.in_err-v.ensures)

pub returns-in_err-id : goal.returns-in_err-id
returns-in_err-id c = passes_err (λ result. Ends (λ table. ord_plan (map (contents table) c.args.operands.now)) c.args.work.now c.text_number.new.work result)
    c.from_residual-in_err-id.result c.from_residual-in_err-id.ensures.1
    (ends_then (λ table v. with_text v (λ bytes. by_characters (chars bytes))) c.in_ok-v.ensures (λ table interned extends. refl)
    (ends_stop (λ table bytes. by_characters (chars bytes)) _ c.in_err-id.ensures))

pub returns-in-Some : goal.returns-in-Some
returns-in-Some c =
    let back : to_z w64 (of_z w64 c.from-in-Some.result) ≡ c.from-in-Some.result = search rules in
    let fits : FitsSigned w64 c.from-in-Some.result = search rules in
    let same = c.from-in-Some.ensures ∙ ap pos c.from.ensures in
    ends_then (λ table v. with_text v (λ bytes. by_characters (chars bytes))) c.in_ok-v.ensures (λ table interned extends. refl)
    (ends_then (λ table bytes. by_characters (chars bytes)) c.in_ok-id.ensures
    (λ table interned extends. ap (λ found. by_characters (chars (unwrap_or found []))) (extends.texts c.in_ok-id.id c.text_of.result.now c.text_of.ensures)
    ∙ (ord_is (chars c.text_of.result.now) ∙ ap code_of (sym c.only_character.ensures ∙ c.in-Some.is)))
    (c.int_answer.ensures (pos c.in-Some.c) (subst (λ (k : ℤ). FitsSigned w64 k) same fits, back ∙ same)))

pub returns-in-None : goal.returns-in-None
returns-in-None c = ends_then (λ table v. with_text v (λ bytes. by_characters (chars bytes))) c.in_ok-v.ensures (λ table interned extends. refl)
    (ends_then (λ table bytes. by_characters (chars bytes)) c.in_ok-id.ensures (λ table interned extends. refl)
    (ends_fault (λ table. by_characters (chars (bytes_of table c.in_ok-id.id))) 10 _ c.fault.result c.fault.ensures
    (λ table interned extends. ap (λ found. by_characters (chars (unwrap_or found []))) (extends.texts c.in_ok-id.id c.text_of.result.now (c.fault.ensures.kept.extends.texts c.in_ok-id.id c.text_of.result.now c.text_of.ensures))
    ∙ (ord_is (chars c.text_of.result.now) ∙ ap code_of (sym c.only_character.ensures ∙ c.in-None.is)))))
