use Rattle.std.proofs.Common.{rules, ◌≡◌, refl, sym, ap, ◌∙◌, map, ℕ, ℤ, w64, to_z, of_z, ◌+◌, ◌-◌, List, ◌++◌, append-nil}
use Rattle.std.specs.Str.{IsUtf8}
use Rattle.std.proofs.lemmas.Str.{IsCharBoundary-start}
use Rattle.py_value.specs.Contents.{contents, text}
use Rattle.py_value.specs.Values.{ValuesView}
use Rattle.py_model.specs.Numbers.{times}
use Rattle.py_model.specs.Operands.{gives, gives_text}
use Rattle.py_model.specs.Plan.{Plan, counts}
use Rattle.py_model.specs.TextMethods.{rjust_plan}
use Rattle.py_model.specs.Texts.{size, spaces}
use Rattle.op_work.specs.Work.{Ends}
use Rattle.op_work.proofs.Ending.{ends_then, ends_stop, ends_gives}
use Rattle.op_work.proofs.Going.{passes_err, extends_same}
use Rattle.op_texts.proofs.Counted.{size_with_before}
use Rattle.op_texts.proofs.Taken.{bytes_stay}
use Rattle.op_texts.proofs.widths.rjust.Goals as goal

abbrev wide : ℤ → List ℕ → List ℕ
wide width bytes = spaces (times width - size bytes) ++ bytes

abbrev given : ValuesView → List ℕ × ℤ → Plan
given table two = gives_text (wide two.1 two.0)

-- as many characters are counted as the made text has
counted : (width : ℤ) (bytes : List ℕ) (count blanks : ℕ) → IsUtf8 bytes → count ≡ size bytes → blanks ≡ times width - count → size (wide width bytes) ≡ count + blanks
counted width bytes count blanks utf8 count_is blanks_is = size_with_before bytes (times width - size bytes) (IsCharBoundary-start bytes utf8)
    ∙ (ap (λ n. n + (times width - n)) (sym count_is) ∙ ap (λ m. count + m) (sym blanks_is))

pub returns-in_err-text : goal.returns-in_err-text
returns-in_err-text c = passes_err (λ result. Ends (λ table. rjust_plan (map (contents table) c.args.operands.now)) c.args.work.now c.text_and_number.new.work result)
    c.from_residual.result c.from_residual.ensures.1 (ends_stop given c.in_err-text.field-0.0 c.in_err-text.ensures)

pub returns-in_err-count : goal.returns-in_err-count
returns-in_err-count c =
    let bytes = c.text_of.result.now in
    let values = c.text_and_number.new.work.values in
    let back : to_z w64 (of_z w64 c.in_ok-text.width) ≡ c.in_ok-text.width = search rules in
    let beside = c.blanks_beside-blanks.ensures.count ∙ ap (λ (i : ℤ). times i - c.size-count.result) back in
    let sizes = counted c.in_ok-text.width bytes c.size-count.result c.blanks_beside-blanks.result c.text_of.utf8 c.size-count.ensures.count beside in
    passes_err (λ result. Ends (λ table. rjust_plan (map (contents table) c.args.operands.now)) c.args.work.now c.count.new.self result) c.from_residual-in_err-count.result c.from_residual-in_err-count.ensures.1
    (ends_then given c.in_ok-text.ensures
    (λ table interned extends. ap (λ b. gives_text (wide c.in_ok-text.width b)) (bytes_stay values table c.in_ok-text.text bytes c.text_of.ensures extends)
    ∙ ap (λ n. counts n (gives (text (wide c.in_ok-text.width bytes)))) sizes)
    (ends_stop (λ table x. gives (text (wide c.in_ok-text.width bytes))) c.in_err-count.field-0.0 c.in_err-count.ensures))

pub returns : goal.returns
returns c =
    let bytes = c.text_of.result.now in
    let values = c.text_and_number.new.work.values in
    let later = c.count.new.self.values in
    let back : to_z w64 (of_z w64 c.in_ok-text.width) ≡ c.in_ok-text.width = search rules in
    let beside = c.blanks_beside-blanks.ensures.count ∙ ap (λ (i : ℤ). times i - c.size-count.result) back in
    let sizes = counted c.in_ok-text.width bytes c.size-count.result c.blanks_beside-blanks.result c.text_of.utf8 c.size-count.ensures.count beside in
    let same = sym (bytes_stay values later c.in_ok-text.text bytes c.text_of.ensures c.count.ensures.kept.extends) ∙ bytes_stay later later c.in_ok-text.text c.text_of-2.result.now c.text_of-2.ensures (extends_same later) in
    let blanks_are = ap (λ n. times c.in_ok-text.width - n) (sym c.size-count.ensures.count) ∙ sym beside in
    let words = (ap (λ b. spaces (times c.in_ok-text.width - size bytes) ++ b) same ∙ (ap (λ n. spaces n ++ c.text_of-2.result.now) blanks_are ∙ sym (append-nil (spaces c.blanks_beside-blanks.result ++ c.text_of-2.result.now)))) ∙ (sym c.in_ok-words.ensures ∙ sym c.as_str.ensures.value) in
    ends_then given c.in_ok-text.ensures
    (λ table interned extends. ap (λ b. gives_text (wide c.in_ok-text.width b)) (bytes_stay values table c.in_ok-text.text bytes c.text_of.ensures extends)
    ∙ ap (λ n. counts n (gives (text (wide c.in_ok-text.width bytes)))) sizes)
    (ends_then (λ table x. gives (text (wide c.in_ok-text.width bytes))) c.in_ok-count.ensures (λ table interned extends. ap (λ b. gives (text b)) words)
    (ends_then (λ table made. gives made) c.in_ok-made.ensures.comes (λ table interned extends. refl)
    (ends_gives (λ table. gives (contents table c.in_ok-made.made)) c.text.new.self c.in_ok-made.made
    (c.in_ok-made.ensures.comes.kept.made_is ∙ (c.count.ensures.kept.made_is ∙ (c.text_and_number.ensures.kept.made_is ∙ c.requires.fresh)))
    c.in_ok-made.ensures.comes.is_named (λ table interned extends. refl))))
