use Rattle.std.proofs.Common.{◌≡◌, refl, sym, ap, ◌∙◌, subst, arith, ℕ, List, [], ◌∷◌, ◌++◌, ◌≤◌, length, drop}
use Rattle.std.proofs.lemmas.List.{append_assoc}
use Rattle.std.proofs.lemmas.Str.{IsUtf8-drop}
use Rattle.std.specs.Str.{IsUtf8, IsCharBoundary}
use Rattle.py_model.specs.Texts.{pieces}
use Rattle.op_work.proofs.Going.{passes_err}
use Rattle.op_pieces.specs.Puts.{Puts}
use Rattle.op_pieces.proofs.Cutting.{cut_at, cut_nowhere}
use Rattle.op_pieces.proofs.Putting.{puts_then, puts_stop, puts_same, puts_none}
use Rattle.op_pieces.proofs.splits.put_between.Goals as goal

pub loop-front-init : goal.loop-front-init
loop-front-init c = ([], (puts_none c.args.made.now.items c.args.work.now, (refl, c.utf8.bytes)))

pub returns-in_err-put_text : goal.returns-in_err-put_text
returns-in_err-put_text c =
    let done = c.loop-front.invariant.0 in let one = c.loop-front.invariant.1.0 in let rest = c.loop-front.rest.now in let sought = c.args.separator.now in
    let front = c.in-Some.front.now in let back = c.in-Some.back.now in let cut = c.in-Some.ensures.cases in let i = cut.0 in let j = cut.1 in
    let some : i ≤ length rest = omega (arith, cut.5, cut.7) in
    let at : pieces sought rest ≡ front ∷ pieces sought back = cut_at sought rest (drop j rest) i c.requires some cut.2.0 cut.2.1.split
    ∙ (ap (λ words. words ∷ pieces sought (drop j rest)) (sym cut.3) ∙ ap (λ words. front ∷ pieces sought words) (sym cut.4)) in
    let whole : (done ++ front ∷ []) ++ pieces sought back ≡ pieces sought c.args.bytes.now = append_assoc done (front ∷ []) (pieces sought back) ∙ (ap (λ ps. done ++ ps) (sym at) ∙ c.loop-front.invariant.1.1.0) in
    passes_err (λ result. Puts (pieces sought c.args.bytes.now) c.args.made.now.items c.put_text.new.made.items c.args.work.now c.put_text.new.work result)
    c.from_residual.result c.from_residual.ensures.1
    (puts_same whole (puts_stop (pieces sought back) (puts_then one c.in_err-put_text.ensures)))

pub loop-front-preserved : goal.loop-front-preserved
loop-front-preserved c =
    let done = c.loop-front.invariant.0 in let one = c.loop-front.invariant.1.0 in let rest = c.loop-front.rest.now in let sought = c.args.separator.now in
    let front = c.in-Some.front.now in let back = c.in-Some.back.now in let cut = c.in-Some.ensures.cases in let i = cut.0 in let j = cut.1 in
    let some : i ≤ length rest = omega (arith, cut.5, cut.7) in
    let at : pieces sought rest ≡ front ∷ pieces sought back = cut_at sought rest (drop j rest) i c.requires some cut.2.0 cut.2.1.split
    ∙ (ap (λ words. words ∷ pieces sought (drop j rest)) (sym cut.3) ∙ ap (λ words. front ∷ pieces sought words) (sym cut.4)) in
    let whole : (done ++ front ∷ []) ++ pieces sought back ≡ pieces sought c.args.bytes.now = append_assoc done (front ∷ []) (pieces sought back) ∙ (ap (λ ps. done ++ ps) (sym at) ∙ c.loop-front.invariant.1.1.0) in (
      done ++ front ∷ [],
      (
        puts_then one c.in_ok-put_text.ensures,
        (whole, subst IsUtf8 (sym cut.4) (IsUtf8-drop rest j c.loop-front.invariant.1.1.1 (subst (IsCharBoundary rest) (sym cut.2.1.ends) cut.2.1.after))),
      ),
    )

pub returns : goal.returns
returns c =
    let done = c.loop-front.invariant.0 in let rest = c.loop-front.rest.now in let sought = c.args.separator.now in
    subst (λ (all : List (List ℕ)). Puts all c.args.made.now.items c.put_text-2.new.made.items c.args.work.now c.put_text-2.new.work c.put_text-2.result)
    (ap (λ ps. done ++ ps) (sym (cut_nowhere sought rest c.in_default.ensures.cases)) ∙ c.loop-front.invariant.1.1.0) (puts_then c.loop-front.invariant.1.0 c.put_text-2.ensures)
