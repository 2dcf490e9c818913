use Rattle.std.proofs.Common.{◌∙◌, refl, sym, ap, ℕ, ℤ, Option, List, map, [], ◌∷◌, chars, encode_utf8, encode_utf8_all}
use Rattle.op_dicts.proofs.EndsEqual.{ends_equal}
use Rattle.op_lists.proofs.TextParts.{same_bytes}
use Rattle.op_work.specs.Work.{Ends}
use Rattle.op_work.proofs.Ending.{ends_then, ends_stop}
use Rattle.op_work.proofs.Going.{passes_err}
use Rattle.py_model.specs.Lists.{slice}
use Rattle.py_model.specs.Operands.{gives}
use Rattle.py_model.specs.Places.{part_from}
use Rattle.py_model.specs.Plan.{Plan}
use Rattle.py_value.specs.Contents.{contents, text}
use Rattle.py_value.specs.Values.{ValuesView}
use Rattle.py_value.specs.declared.value.Value.TheVariants.{Text}
use Rattle.op_items.specs.Bounds.{part_of}
use Rattle.op_items.proofs.SlicePlans.{text_is, letters_of, letters_is}
use Rattle.op_items.proofs.slices.text_slice.Goals as goal

abbrev second : List ℕ → ℕ → ℕ → ValuesView → Unit {0} → Plan
second cs p m table x = gives (text (encode_utf8_all (part_from p m cs)))

abbrev first : List ℕ → ℕ → ValuesView → Option ℤ × Option ℤ → Plan
first cs n table found = letters_of (map encode_utf8 cs) (part_of found.0 found.1 n)

pub returns-in_err-found : goal.returns-in_err-found
returns-in_err-found c =
    let bytes = c.text_of.result.now in
    passes_err (λ result. Ends (λ table. slice (contents table (Text c.args.id) ∷ contents table c.args.low ∷ contents table c.args.high ∷ [])) c.args.work.now c.bounds.new.work result) c.from_residual.result c.from_residual.ensures.1
    (ends_equal (λ table. slice (contents table (Text c.args.id) ∷ contents table c.args.low ∷ contents table c.args.high ∷ []))
    (λ table interned extends. text_is table c.args.id c.size-n.result (contents table c.args.low) (contents table c.args.high) bytes (extends.texts c.args.id bytes (c.bounds.ensures.kept.extends.texts c.args.id bytes c.text_of.ensures)) c.text_of.utf8 c.size-n.ensures.count)
    (ends_stop (first (chars bytes) c.size-n.result) _ c.in_err-found.ensures))

pub returns-in_err-count : goal.returns-in_err-count
returns-in_err-count c =
    let bytes = c.text_of.result.now in
    let there = c.count.ensures.kept.extends.texts c.args.id bytes (c.bounds.ensures.kept.extends.texts c.args.id bytes c.text_of.ensures) in
    passes_err (λ result. Ends (λ table. slice (contents table (Text c.args.id) ∷ contents table c.args.low ∷ contents table c.args.high ∷ [])) c.args.work.now c.count.new.self result) c.from_residual-in_err-count.result c.from_residual-in_err-count.ensures.1
    (ends_equal (λ table. slice (contents table (Text c.args.id) ∷ contents table c.args.low ∷ contents table c.args.high ∷ []))
    (λ table interned extends. text_is table c.args.id c.size-n.result (contents table c.args.low) (contents table c.args.high) bytes (extends.texts c.args.id bytes there) c.text_of.utf8 c.size-n.ensures.count)
    (ends_then (first (chars bytes) c.size-n.result) c.in_ok-found.ensures (λ table interned extends. ap (letters_of (map encode_utf8 (chars bytes))) (sym c.part-first.ensures.part) ∙ letters_is (chars bytes) c.part-first.result.0 c.part-first.result.1)
    (ends_stop (second (chars bytes) c.part-first.result.0 c.part-first.result.1) _ c.in_err-count.ensures)))

pub returns-in_err-made : goal.returns-in_err-made
returns-in_err-made c =
    let bytes = c.text_of.result.now in
    let counted = c.count.ensures.kept.extends.texts c.args.id bytes (c.bounds.ensures.kept.extends.texts c.args.id bytes c.text_of.ensures) in
    let there = c.text.ensures.comes.kept.extends.texts c.args.id bytes counted in
    let same = same_bytes _ _ (sym c.text_of-2.ensures ∙ counted) in
    passes_err (λ result. Ends (λ table. slice (contents table (Text c.args.id) ∷ contents table c.args.low ∷ contents table c.args.high ∷ [])) c.args.work.now c.text.new.self result) c.from_residual-in_err-made.result c.from_residual-in_err-made.ensures.1
    (ends_equal (λ table. slice (contents table (Text c.args.id) ∷ contents table c.args.low ∷ contents table c.args.high ∷ []))
    (λ table interned extends. text_is table c.args.id c.size-n.result (contents table c.args.low) (contents table c.args.high) bytes (extends.texts c.args.id bytes there) c.text_of.utf8 c.size-n.ensures.count)
    (ends_then (first (chars bytes) c.size-n.result) c.in_ok-found.ensures (λ table interned extends. ap (letters_of (map encode_utf8 (chars bytes))) (sym c.part-first.ensures.part) ∙ letters_is (chars bytes) c.part-first.result.0 c.part-first.result.1)
    (ends_then (second (chars bytes) c.part-first.result.0 c.part-first.result.1) c.in_ok-count.ensures
    (λ table interned extends. ap (λ bs. gives (text bs)) (ap (λ bs. encode_utf8_all (part_from c.part-first.result.0 c.part-first.result.1 (chars bs))) (sym same) ∙ sym (c.as_str.ensures.value ∙ c.in_ok-words.ensures)))
    (ends_stop (λ table v. gives v) _ c.in_err-made.ensures.comes))))

pub returns : goal.returns
returns c =
    let bytes = c.text_of.result.now in
    let counted = c.count.ensures.kept.extends.texts c.args.id bytes (c.bounds.ensures.kept.extends.texts c.args.id bytes c.text_of.ensures) in
    let there = c.value_answer.ensures.extends.texts c.args.id bytes (c.text.ensures.comes.kept.extends.texts c.args.id bytes counted) in
    let same = same_bytes _ _ (sym c.text_of-2.ensures ∙ counted) in
    ends_equal (λ table. slice (contents table (Text c.args.id) ∷ contents table c.args.low ∷ contents table c.args.high ∷ []))
    (λ table interned extends. text_is table c.args.id c.size-n.result (contents table c.args.low) (contents table c.args.high) bytes (extends.texts c.args.id bytes there) c.text_of.utf8 c.size-n.ensures.count)
    (ends_then (first (chars bytes) c.size-n.result) c.in_ok-found.ensures (λ table interned extends. ap (letters_of (map encode_utf8 (chars bytes))) (sym c.part-first.ensures.part) ∙ letters_is (chars bytes) c.part-first.result.0 c.part-first.result.1)
    (ends_then (second (chars bytes) c.part-first.result.0 c.part-first.result.1) c.in_ok-count.ensures
    (λ table interned extends. ap (λ bs. gives (text bs)) (ap (λ bs. encode_utf8_all (part_from c.part-first.result.0 c.part-first.result.1 (chars bs))) (sym same) ∙ sym (c.as_str.ensures.value ∙ c.in_ok-words.ensures)))
    (ends_then (λ table v. gives v) c.in_ok-made.ensures.comes (λ table interned extends. refl) c.value_answer.ensures)))
