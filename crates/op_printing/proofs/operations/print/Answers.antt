use Rattle.std.proofs.Common.{refl, sym, ap, ◌∙◌, subst, ◌++◌, ℕ, List, map, codes}
use Rattle.std.proofs.lemmas.Str.{IsUtf8-string_bytes}
use Rattle.py_model.specs.Plan.{Plan, prints, writes, done}
use Rattle.py_model.specs.Printing.{print_values, print_line}
use Rattle.py_value.specs.Contents.{contents, nothing}
use Rattle.py_value.specs.Values.{ValuesView}
use Rattle.py_value.specs.declared.value.Value.TheVariants.{None as NoneValue}
use Rattle.op_work.specs.Work.{Ends}
use Rattle.op_work.proofs.Ending.{ends_then, ends_stop, ends_gives}
use Rattle.op_work.proofs.Going.{passes_err}
use Rattle.op_pieces.specs.Pieces.{pieces_bytes, ArePieces}
use Rattle.op_pieces.proofs.Counting.{counted_size}
use Rattle.op_printing.proofs.Putting.{puts_start, then_word}
use Rattle.op_printing.proofs.operations.print.Goals as goal

-- the line goes on with its end
abbrev with_line : ValuesView → List ℕ → Plan
with_line table bytes = print_line bytes

abbrev line_of : ValuesView → List ℕ → Plan
line_of table bytes = print_line (bytes ++ codes "\n")

abbrev printing : List ℕ → Plan
printing bytes = prints bytes (writes (done nothing))

pub put_pieces-requires : goal.put_pieces-requires
put_pieces-requires c = subst (ArePieces c.print_all.new.work.values) (sym c.as_slice.ensures.value) (c.in_ok-push_word.ensures.named c.print_all.new.work.values c.in_ok-print_all.ensures.comes.is_named)

pub returns-in_err-print_all : goal.returns-in_err-print_all
returns-in_err-print_all c = passes_err (λ result. Ends (λ table. print_values (map (contents table) c.args.operands.now)) c.args.work.now c.print_all.new.work result)
    c.from_residual.result c.from_residual.ensures.1 (ends_stop line_of _ (puts_start c.new-pieces.ensures.items c.in_err-print_all.ensures))

pub returns-in_err-put_pieces : goal.returns-in_err-put_pieces
returns-in_err-put_pieces c =
    let ps = c.as_slice.result.now in
    passes_err (λ result. Ends (λ table. print_values (map (contents table) c.args.operands.now)) c.args.work.now c.put_pieces.new.work result)
    c.from_residual-in_err-put_pieces.result c.from_residual-in_err-put_pieces.ensures.1
    (ends_then with_line (puts_start c.new-pieces.ensures.items (then_word {end = tt} c.in_ok-print_all.ensures c.in_ok-push_word.ensures)) (λ table interned extends. ap (λ qs. print_line (pieces_bytes table qs)) (sym c.as_slice.ensures.value))
    (ends_stop (λ table u. printing (pieces_bytes table ps)) _ (counted_size (λ table. pieces_bytes table ps) _ c.new-text.ensures.bytes (IsUtf8-string_bytes c.put_pieces.new.text) c.in_err-put_pieces.ensures)))

pub returns-in_err-print : goal.returns-in_err-print
returns-in_err-print c =
    let ps = c.as_slice.result.now in
    passes_err (λ result. Ends (λ table. print_values (map (contents table) c.args.operands.now)) c.args.work.now c.print.new.self result)
    c.from_residual-in_err-print.result c.from_residual-in_err-print.ensures.1
    (ends_then with_line (puts_start c.new-pieces.ensures.items (then_word {end = tt} c.in_ok-print_all.ensures c.in_ok-push_word.ensures)) (λ table interned extends. ap (λ qs. print_line (pieces_bytes table qs)) (sym c.as_slice.ensures.value))
    (ends_then (λ table u. printing (pieces_bytes table ps)) (counted_size (λ table. pieces_bytes table ps) _ c.new-text.ensures.bytes (IsUtf8-string_bytes c.put_pieces.new.text) c.in_ok-put_pieces.ensures)
    (λ table interned extends. ap printing (sym (c.as_bytes.ensures.value ∙ (c.in_ok-put_pieces.ensures.bytes_are table interned extends ∙ ap (λ words. words ++ pieces_bytes table ps) c.new-text.ensures.bytes))))
    (ends_stop (λ table u. writes (done nothing)) _ c.in_err-print.ensures)))

pub returns : goal.returns
returns c =
    let ps = c.as_slice.result.now in
    ends_then with_line (puts_start c.new-pieces.ensures.items (then_word {end = tt} c.in_ok-print_all.ensures c.in_ok-push_word.ensures)) (λ table interned extends. ap (λ qs. print_line (pieces_bytes table qs)) (sym c.as_slice.ensures.value))
    (ends_then (λ table u. printing (pieces_bytes table ps)) (counted_size (λ table. pieces_bytes table ps) _ c.new-text.ensures.bytes (IsUtf8-string_bytes c.put_pieces.new.text) c.in_ok-put_pieces.ensures)
    (λ table interned extends. ap printing (sym (c.as_bytes.ensures.value ∙ (c.in_ok-put_pieces.ensures.bytes_are table interned extends ∙ ap (λ words. words ++ pieces_bytes table ps) c.new-text.ensures.bytes))))
    (ends_then (λ table u. writes (done nothing)) c.in_ok-print.ensures (λ table interned extends. refl)
    (ends_gives (λ table. writes (done nothing)) c.print.new.self NoneValue
    (c.in_ok-print.ensures.kept.made_is ∙ (c.in_ok-put_pieces.ensures.comes.kept.made_is ∙ (c.in_ok-print_all.ensures.comes.kept.made_is ∙ c.requires.fresh))) tt (λ table interned extends. refl))))
