use Rattle.std.proofs.Common.{rules, ◌≡◌, refl, sym, ap, ◌∙◌, map, ℕ, List, None}
use Rattle.py_value.specs.Contents.{Contents, contents}
use Rattle.py_value.specs.Seen.{bytes_of}
use Rattle.py_value.specs.declared.value.Value.{Value}
use Rattle.py_value.specs.Values.{ValuesView}
use Rattle.py_model.specs.Operands.{with_text}
use Rattle.py_model.specs.Plan.{Plan}
use Rattle.op_work.specs.Work.{Comes}
use Rattle.op_work.proofs.Going.{comes_same, comes_then, comes_as, comes_stop, fault_comes, passes_err, text_stays}
use Rattle.op_texts.specs.Operands.{IsTwoTexts, bytes_of_two, with_two_texts}
use Rattle.op_texts.proofs.Taken.{two_is, two_texts_are, two_are_named, named_stays, by_two}
use Rattle.op_texts.proofs.operands.two_texts.Goals as goal

abbrev second : Value → ValuesView → List ℕ → (List ℕ × List ℕ → Plan) → Plan
second w table bytes go = with_text (contents table w) (λ other. go (bytes, other))

pub returns-in_default : goal.returns-in_default
returns-in_default c =
    let none : c.two.result ≡ None = search rules in
    fault_comes (λ table. with_two_texts (map (contents table) c.args.operands.now)) 9 _ c.fault.result c.fault.ensures
    (λ table interned extends go. two_is table (λ (v w : Contents). with_text v (λ bytes. with_text w (λ other. go (bytes, other)))) c.args.operands.now
    ∙ ap (by_two table (λ v w. with_text v (λ bytes. with_text w (λ other. go (bytes, other))))) (sym c.two.ensures ∙ none))

pub text-requires : goal.text-requires
text-requires c = (two_are_named c.args.work.now.values c.args.operands.now c.in-Some.v c.in-Some.w (sym c.two.ensures ∙ c.in-Some.is) c.requires).0

pub returns-in_err-first : goal.returns-in_err-first
returns-in_err-first c = passes_err (λ result. Comes IsTwoTexts bytes_of_two (λ table. with_two_texts (map (contents table) c.args.operands.now)) c.args.work.now c.text.new.work result)
    c.from_residual.result c.from_residual.ensures.1
    (comes_same (λ table. with_two_texts (map (contents table) c.args.operands.now)) (λ table interned extends go. two_texts_are table c.args.operands.now c.in-Some.v c.in-Some.w go (sym c.two.ensures ∙ c.in-Some.is))
    (comes_stop (second c.in-Some.w) c.in_err-first.ensures))

pub text-requires-2 : goal.text-requires-2
text-requires-2 c = named_stays c.args.work.now.values c.text.new.work.values c.text.ensures.kept.extends c.in-Some.w
    (two_are_named c.args.work.now.values c.args.operands.now c.in-Some.v c.in-Some.w (sym c.two.ensures ∙ c.in-Some.is) c.requires).1

pub returns-in_err-second : goal.returns-in_err-second
returns-in_err-second c = passes_err (λ result. Comes IsTwoTexts bytes_of_two (λ table. with_two_texts (map (contents table) c.args.operands.now)) c.args.work.now c.text-2.new.work result)
    c.from_residual-in_err-second.result c.from_residual-in_err-second.ensures.1
    (comes_same (λ table. with_two_texts (map (contents table) c.args.operands.now)) (λ table interned extends go. two_texts_are table c.args.operands.now c.in-Some.v c.in-Some.w go (sym c.two.ensures ∙ c.in-Some.is))
    (comes_then (second c.in-Some.w) c.in_ok-first.ensures (λ table interned extends go. refl)
    (comes_stop (λ table other go. go (bytes_of table c.in_ok-first.first, other)) c.in_err-second.ensures)))

pub returns : goal.returns
returns c = comes_same (λ table. with_two_texts (map (contents table) c.args.operands.now)) (λ table interned extends go. two_texts_are table c.args.operands.now c.in-Some.v c.in-Some.w go (sym c.two.ensures ∙ c.in-Some.is))
    (comes_then (second c.in-Some.w) c.in_ok-first.ensures (λ table interned extends go. refl)
    (comes_as (λ table other go. go (bytes_of table c.in_ok-first.first, other)) (c.in_ok-first.first, c.in_ok-second.second) c.in_ok-second.ensures
    (text_stays c.text.new.work.values c.text-2.ensures.kept.extends c.in_ok-first.ensures.is_named, c.in_ok-second.ensures.is_named) (λ table interned extends go. refl)))
