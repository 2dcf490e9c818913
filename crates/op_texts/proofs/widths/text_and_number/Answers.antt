use Rattle.std.proofs.Common.{rules, ◌≡◌, refl, sym, ap, ◌∙◌, map, ℕ, ℤ, subst, w64, to_z, of_z, Ok, List, None}
use Rattle.py_value.specs.Contents.{Contents, contents}
use Rattle.py_value.specs.Seen.{bytes_of}
use Rattle.py_value.specs.declared.value.Value.{Value}
use Rattle.py_value.specs.Values.{ValuesView}
use Rattle.py_model.specs.Operands.{with_text, with_number}
use Rattle.py_model.specs.Plan.{Plan}
use Rattle.op_work.specs.Work.{Comes}
use Rattle.op_work.proofs.Going.{comes_same, comes_then, comes_as, comes_stop, fault_comes, passes_err, text_stays}
use Rattle.op_texts.specs.Operands.{IsTextNumber, text_number_of, with_text_number}
use Rattle.op_texts.proofs.Taken.{two_is, text_number_are, two_are_named, by_two}
use Rattle.op_texts.proofs.widths.text_and_number.Goals as goal

abbrev second : Value → ValuesView → List ℕ → (List ℕ × ℤ → Plan) → Plan
second w table bytes go = with_number (contents table w) (λ i. go (bytes, i))

pub returns-in_default : goal.returns-in_default
returns-in_default c =
    let none : c.two.result ≡ None = search rules in
    fault_comes (λ table. with_text_number (map (contents table) c.args.operands.now)) 9 _ c.fault.result c.fault.ensures
    (λ table interned extends go. two_is table (λ (v w : Contents). with_text v (λ bytes. with_number w (λ i. go (bytes, i)))) c.args.operands.now
    ∙ ap (by_two table (λ v w. with_text v (λ bytes. with_number w (λ i. go (bytes, i))))) (sym c.two.ensures ∙ none))

pub text-requires : goal.text-requires
text-requires c = (two_are_named c.args.work.now.values c.args.operands.now c.in-Some.v c.in-Some.w (sym c.two.ensures ∙ c.in-Some.is) c.requires).0

pub returns-in_err-first : goal.returns-in_err-first
returns-in_err-first c = passes_err (λ result. Comes IsTextNumber text_number_of (λ table. with_text_number (map (contents table) c.args.operands.now)) c.args.work.now c.text.new.work result)
    c.from_residual.result c.from_residual.ensures.1
    (comes_same (λ table. with_text_number (map (contents table) c.args.operands.now)) (λ table interned extends go. text_number_are table c.args.operands.now c.in-Some.v c.in-Some.w go (sym c.two.ensures ∙ c.in-Some.is))
    (comes_stop (second c.in-Some.w) c.in_err-first.ensures))

pub returns-in_err-width : goal.returns-in_err-width
returns-in_err-width c = passes_err (λ result. Comes IsTextNumber text_number_of (λ table. with_text_number (map (contents table) c.args.operands.now)) c.args.work.now c.number.new.work result)
    c.from_residual-in_err-width.result c.from_residual-in_err-width.ensures.1
    (comes_same (λ table. with_text_number (map (contents table) c.args.operands.now)) (λ table interned extends go. text_number_are table c.args.operands.now c.in-Some.v c.in-Some.w go (sym c.two.ensures ∙ c.in-Some.is))
    (comes_then (second c.in-Some.w) c.in_ok-first.ensures (λ table interned extends go. refl)
    (comes_stop (λ table other go. go (bytes_of table c.in_ok-first.first, other)) c.in_err-width.ensures)))

pub returns : goal.returns
returns c =
    let back : to_z w64 (of_z w64 c.in_ok-width.width) ≡ c.in_ok-width.width = search rules in
    subst (λ (i : ℤ). Comes IsTextNumber text_number_of (λ table. with_text_number (map (contents table) c.args.operands.now)) c.args.work.now c.number.new.work (Ok (c.in_ok-first.first, i))) (sym back)
    (comes_same (λ table. with_text_number (map (contents table) c.args.operands.now)) (λ table interned extends go. text_number_are table c.args.operands.now c.in-Some.v c.in-Some.w go (sym c.two.ensures ∙ c.in-Some.is))
    (comes_then (second c.in-Some.w) c.in_ok-first.ensures (λ table interned extends go. refl)
    (comes_as (λ table other go. go (bytes_of table c.in_ok-first.first, other)) (c.in_ok-first.first, c.in_ok-width.width) c.in_ok-width.ensures
    (text_stays c.text.new.work.values c.number.ensures.kept.extends c.in_ok-first.ensures.is_named) (λ table interned extends go. refl))))
