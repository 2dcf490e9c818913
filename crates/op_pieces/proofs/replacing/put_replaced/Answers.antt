use Rattle.std.proofs.Common.{◌≡◌, refl, sym, ap, ◌∙◌, subst, arith, [], ◌++◌, ◌≤◌, length, drop, string_bytes}
use Rattle.std.proofs.lemmas.List.{append_assoc}
use Rattle.std.proofs.lemmas.Str.{IsUtf8-drop}
use Rattle.std.specs.Str.{IsUtf8, IsCharBoundary}
use Rattle.py_model.specs.Texts.{joined_by, pieces}
use Rattle.op_work.proofs.Going.{passes_err}
use Rattle.op_pieces.proofs.Counting.{counted_same, counted_then, counted_stop, counted_none}
use Rattle.op_pieces.specs.Counted.{Counted}
use Rattle.op_pieces.proofs.Cutting.{joined_at, joined_nowhere, cut_more}
use Rattle.op_pieces.proofs.replacing.put_replaced.Goals as goal

pub loop-front-init : goal.loop-front-init
loop-front-init c = ([], (counted_none (string_bytes c.args.out.now) c.args.work.now, (refl, c.utf8.bytes)))

pub returns-in_err-put_words : goal.returns-in_err-put_words
returns-in_err-put_words c =
    let done = c.loop-front.invariant.0 in let one = c.loop-front.invariant.1.0 in let rest = c.loop-front.rest.now in let sought = c.args.sought.now in let other = c.args.other.now in
    let front = c.in-Some.front.now in let back = c.in-Some.back.now in let cut = c.in-Some.ensures.cases in let i = cut.0 in let j = cut.1 in
    let some : i ≤ length rest = omega (arith, cut.5, cut.7) in
    let at : joined_by other (pieces sought rest) ≡ front ++ (other ++ joined_by other (pieces sought back)) =
    joined_at sought other rest (drop j rest) i c.requires some cut.2.0 cut.2.1.split
    ∙ (ap (λ words. words ++ (other ++ joined_by other (pieces sought (drop j rest)))) (sym cut.3) ∙ ap (λ words. front ++ (other ++ joined_by other (pieces sought words))) (sym cut.4)) in
    let whole = cut_more done front other (joined_by other (pieces sought back)) (joined_by other (pieces sought rest)) (joined_by other (pieces sought c.args.bytes.now)) at c.loop-front.invariant.1.1.0 in
    passes_err (λ result. Counted (λ table. joined_by other (pieces sought c.args.bytes.now)) (string_bytes c.args.out.now) (string_bytes c.put_words.new.text) c.args.work.now c.put_words.new.work result)
    c.from_residual.result c.from_residual.ensures.1
    (counted_same (λ table. joined_by other (pieces sought c.args.bytes.now)) _ (counted_stop (λ table. other ++ joined_by other (pieces sought back)) (counted_then one c.in_err-put_words.ensures)) (λ table interned extends. whole))

pub returns-in_err-put_words-2 : goal.returns-in_err-put_words-2
returns-in_err-put_words-2 c =
    let done = c.loop-front.invariant.0 in let one = c.loop-front.invariant.1.0 in let rest = c.loop-front.rest.now in let sought = c.args.sought.now in let other = c.args.other.now in
    let front = c.in-Some.front.now in let back = c.in-Some.back.now in let cut = c.in-Some.ensures.cases in let i = cut.0 in let j = cut.1 in
    let some : i ≤ length rest = omega (arith, cut.5, cut.7) in
    let at : joined_by other (pieces sought rest) ≡ front ++ (other ++ joined_by other (pieces sought back)) =
    joined_at sought other rest (drop j rest) i c.requires some cut.2.0 cut.2.1.split
    ∙ (ap (λ words. words ++ (other ++ joined_by other (pieces sought (drop j rest)))) (sym cut.3) ∙ ap (λ words. front ++ (other ++ joined_by other (pieces sought words))) (sym cut.4)) in
    let whole = cut_more done front other (joined_by other (pieces sought back)) (joined_by other (pieces sought rest)) (joined_by other (pieces sought c.args.bytes.now)) at c.loop-front.invariant.1.1.0 in
    passes_err (λ result. Counted (λ table. joined_by other (pieces sought c.args.bytes.now)) (string_bytes c.args.out.now) (string_bytes c.put_words-in-Some.new.text) c.args.work.now c.put_words-in-Some.new.work result)
    c.from_residual-in_err-put_words-2.result c.from_residual-in_err-put_words-2.ensures.1
    (counted_same (λ table. joined_by other (pieces sought c.args.bytes.now)) _ (counted_stop (λ table. joined_by other (pieces sought back)) (counted_then (counted_then one c.in_ok-put_words.ensures) c.in_err-put_words-2.ensures))
    (λ table interned extends. append_assoc (done ++ front) other (joined_by other (pieces sought back)) ∙ whole))

pub loop-front-preserved : goal.loop-front-preserved
loop-front-preserved c =
    let done = c.loop-front.invariant.0 in let one = c.loop-front.invariant.1.0 in let rest = c.loop-front.rest.now in let sought = c.args.sought.now in let other = c.args.other.now in
    let front = c.in-Some.front.now in let back = c.in-Some.back.now in let cut = c.in-Some.ensures.cases in let i = cut.0 in let j = cut.1 in
    let some : i ≤ length rest = omega (arith, cut.5, cut.7) in
    let at : joined_by other (pieces sought rest) ≡ front ++ (other ++ joined_by other (pieces sought back)) =
    joined_at sought other rest (drop j rest) i c.requires some cut.2.0 cut.2.1.split
    ∙ (ap (λ words. words ++ (other ++ joined_by other (pieces sought (drop j rest)))) (sym cut.3) ∙ ap (λ words. front ++ (other ++ joined_by other (pieces sought words))) (sym cut.4)) in
    let whole = cut_more done front other (joined_by other (pieces sought back)) (joined_by other (pieces sought rest)) (joined_by other (pieces sought c.args.bytes.now)) at c.loop-front.invariant.1.1.0 in (
      (done ++ front) ++ other,
      (
        counted_then (counted_then one c.in_ok-put_words.ensures) c.in_ok-put_words-2.ensures,
        (
          append_assoc (done ++ front) other (joined_by other (pieces sought back)) ∙ whole,
          subst IsUtf8 (sym cut.4) (IsUtf8-drop rest j c.loop-front.invariant.1.1.1 (subst (IsCharBoundary rest) (sym cut.2.1.ends) cut.2.1.after)),
        ),
      ),
    )

pub returns : goal.returns
returns c =
    let done = c.loop-front.invariant.0 in let rest = c.loop-front.rest.now in let sought = c.args.sought.now in let other = c.args.other.now in
    counted_same (λ table. joined_by other (pieces sought c.args.bytes.now)) c.put_words-2.result (counted_then c.loop-front.invariant.1.0 c.put_words-2.ensures)
    (λ table interned extends. ap (λ words. done ++ words) (sym (joined_nowhere sought other rest c.in_default.ensures.cases)) ∙ c.loop-front.invariant.1.1.0)
