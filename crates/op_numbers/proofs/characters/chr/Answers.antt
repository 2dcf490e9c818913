use Rattle.std.proofs.Common.{rules, ◌≡◌, ◌∙◌, refl, sym, ap, map, ℤ, w64, to_z, of_z}
use Rattle.op_work.specs.Work.{Ends}
use Rattle.py_model.specs.Arithmetic.{chr_plan}
use Rattle.py_value.specs.Contents.{contents}
use Rattle.op_work.proofs.Ending.{ends_then, ends_stop, ends_fault}
use Rattle.op_work.proofs.Going.{passes_err}
use Rattle.op_numbers.specs.Characters.{character_of}
use Rattle.op_numbers.proofs.CharacterPlans.{by_code, text_by, chr_is}
use Rattle.op_numbers.proofs.characters.chr.Goals as goal

pub returns-in_err-i : goal.returns-in_err-i
returns-in_err-i c = passes_err (λ result. Ends (λ table. chr_plan (map (contents table) c.args.operands.now)) c.args.work.now c.one_number.new.work result)
    c.from_residual.result c.from_residual.ensures.1 (ends_stop (λ table i. by_code i) _ c.in_err-i.ensures)

pub returns-in-Some : goal.returns-in-Some
returns-in-Some c =
    let back : to_z w64 (of_z w64 c.in_ok-i.i) ≡ c.in_ok-i.i = search rules in
    ends_then (λ table i. by_code i) c.in_ok-i.ensures
    (λ table interned extends. chr_is c.in_ok-i.i ∙ ap text_by (ap (λ (i : ℤ). character_of i) (sym back) ∙ (sym c.character.ensures ∙ c.in-Some.is))) c.character_answer.ensures

pub returns-in-None : goal.returns-in-None
returns-in-None c =
    let back : to_z w64 (of_z w64 c.in_ok-i.i) ≡ c.in_ok-i.i = search rules in
    ends_then (λ table i. by_code i) c.in_ok-i.ensures (λ table interned extends. refl)
    (ends_fault (λ table. by_code c.in_ok-i.i) 10 _ c.fault.result c.fault.ensures
    (λ table interned extends. chr_is c.in_ok-i.i ∙ ap text_by (ap (λ (i : ℤ). character_of i) (sym back) ∙ (sym c.character.ensures ∙ c.in-None.is))))
