use Rattle.std.proofs.Common.{refl, sym, ap, ◌∙◌, ◌++◌, map, List, ℕ}
use Rattle.std.proofs.lemmas.Str.{IsUtf8-string_bytes}
use Rattle.py_model.specs.Operands.{with_text, gives, gives_text}
use Rattle.py_model.specs.Plan.{Plan}
use Rattle.py_model.specs.TextMethods.{texts_in, join_plan}
use Rattle.py_model.specs.Texts.{joined_by}
use Rattle.py_model.specs.Walks.{walk}
use Rattle.py_value.specs.Contents.{Contents, contents, text}
use Rattle.py_value.specs.Seen.{bytes_of}
use Rattle.py_value.specs.Values.{ValuesView}
use Rattle.op_work.specs.Work.{Ends}
use Rattle.op_work.proofs.Ending.{ends_then, ends_stop, ends_gives}
use Rattle.op_work.proofs.Going.{passes_err}
use Rattle.op_pieces.proofs.Counting.{counted_size}
use Rattle.op_pieces.specs.Pieces.{pieces_bytes}
use Rattle.op_pieces.proofs.joins.join.Goals as goal

-- what is left once items, a separator, or both operands are known
abbrev of_items : ValuesView → List ℕ → List Contents → Plan
of_items table separator items = texts_in items (λ all. gives_text (joined_by separator all))

abbrev of_separator : Contents → List ℕ → Plan
of_separator w separator = walk w (λ items. texts_in items (λ all. gives_text (joined_by separator all)))

abbrev of_both : ValuesView → Contents × Contents → Plan
of_both table two = with_text two.0 (of_separator two.1)

pub returns-in_err-v : goal.returns-in_err-v
returns-in_err-v c = passes_err (λ result. Ends (λ table. join_plan (map (contents table) c.args.operands.now)) c.args.work.now c.two.new.work result)
    c.from_residual.result c.from_residual.ensures.1
    (ends_stop of_both _ c.in_err-v.ensures)

pub returns-in_err-separator : goal.returns-in_err-separator
returns-in_err-separator c = passes_err (λ result. Ends (λ table. join_plan (map (contents table) c.args.operands.now)) c.args.work.now c.text.new.work result)
    c.from_residual-in_err-separator.result c.from_residual-in_err-separator.ensures.1
    (ends_then of_both c.in_ok-v.ensures (λ table interned extends. refl)
    (ends_stop (λ table separator. of_separator (contents table c.in_ok-v.w) separator) _ c.in_err-separator.ensures))

pub returns-in_err-items : goal.returns-in_err-items
returns-in_err-items c = passes_err (λ result. Ends (λ table. join_plan (map (contents table) c.args.operands.now)) c.args.work.now c.walk_value.new.work result)
    c.from_residual-in_err-items.result c.from_residual-in_err-items.ensures.1
    (ends_then of_both c.in_ok-v.ensures (λ table interned extends. refl)
    (ends_then (λ table separator. of_separator (contents table c.in_ok-v.w) separator) c.in_ok-separator.ensures (λ table interned extends. refl)
    (ends_stop (λ table items. of_items table (bytes_of table c.in_ok-separator.separator) items) _ c.in_err-items.ensures)))

pub returns-in_err-pieces : goal.returns-in_err-pieces
returns-in_err-pieces c = passes_err (λ result. Ends (λ table. join_plan (map (contents table) c.args.operands.now)) c.args.work.now c.text_items.new.work result)
    c.from_residual-in_err-pieces.result c.from_residual-in_err-pieces.ensures.1
    (ends_then of_both c.in_ok-v.ensures (λ table interned extends. refl)
    (ends_then (λ table separator. of_separator (contents table c.in_ok-v.w) separator) c.in_ok-separator.ensures (λ table interned extends. refl)
    (ends_then (λ table items. of_items table (bytes_of table c.in_ok-separator.separator) items) c.in_ok-items.ensures (λ table interned extends. ap (λ vs. of_items table (bytes_of table c.in_ok-separator.separator) (map (contents table) vs)) (sym c.as_slice.ensures.value))
    (ends_stop (λ table bytes. gives_text bytes) _ c.in_err-pieces.ensures))))

pub returns-in_err-put_pieces : goal.returns-in_err-put_pieces
returns-in_err-put_pieces c =
    let ps = c.as_slice-2.result.now in
    passes_err (λ result. Ends (λ table. join_plan (map (contents table) c.args.operands.now)) c.args.work.now c.put_pieces.new.work result)
    c.from_residual-in_err-put_pieces.result c.from_residual-in_err-put_pieces.ensures.1
    (ends_then of_both c.in_ok-v.ensures (λ table interned extends. refl)
    (ends_then (λ table separator. of_separator (contents table c.in_ok-v.w) separator) c.in_ok-separator.ensures (λ table interned extends. refl)
    (ends_then (λ table items. of_items table (bytes_of table c.in_ok-separator.separator) items) c.in_ok-items.ensures (λ table interned extends. ap (λ vs. of_items table (bytes_of table c.in_ok-separator.separator) (map (contents table) vs)) (sym c.as_slice.ensures.value))
    (ends_then (λ table bytes. gives_text bytes) c.in_ok-pieces.ensures (λ table interned extends. ap (λ qs. gives_text (pieces_bytes table qs)) (sym c.as_slice-2.ensures.value))
    (ends_stop (λ table u. gives (text (pieces_bytes table ps))) _ (counted_size (λ table. pieces_bytes table ps) _ c.new-joined.ensures.bytes (IsUtf8-string_bytes c.put_pieces.new.text) c.in_err-put_pieces.ensures))))))

pub returns : goal.returns
returns c =
    let ps = c.as_slice-2.result.now in
    ends_then of_both c.in_ok-v.ensures (λ table interned extends. refl)
    (ends_then (λ table separator. of_separator (contents table c.in_ok-v.w) separator) c.in_ok-separator.ensures (λ table interned extends. refl)
    (ends_then (λ table items. of_items table (bytes_of table c.in_ok-separator.separator) items) c.in_ok-items.ensures (λ table interned extends. ap (λ vs. of_items table (bytes_of table c.in_ok-separator.separator) (map (contents table) vs)) (sym c.as_slice.ensures.value))
    (ends_then (λ table bytes. gives_text bytes) c.in_ok-pieces.ensures (λ table interned extends. ap (λ qs. gives_text (pieces_bytes table qs)) (sym c.as_slice-2.ensures.value))
    (ends_then (λ table u. gives (text (pieces_bytes table ps))) (counted_size (λ table. pieces_bytes table ps) _ c.new-joined.ensures.bytes (IsUtf8-string_bytes c.put_pieces.new.text) c.in_ok-put_pieces.ensures)
    (λ table interned extends. ap (λ words. gives (text words)) (sym (c.as_str.ensures.value ∙ (c.in_ok-put_pieces.ensures.bytes_are table interned extends ∙ ap (λ words. words ++ pieces_bytes table ps) c.new-joined.ensures.bytes))))
    (ends_then (λ table made. gives made) c.in_ok-made.ensures.comes (λ table interned extends. refl)
    (ends_gives (λ table. gives (contents table c.in_ok-made.made)) c.text-2.new.self c.in_ok-made.made
    (c.in_ok-made.ensures.comes.kept.made_is ∙ (c.in_ok-put_pieces.ensures.comes.kept.made_is ∙ (c.in_ok-pieces.ensures.kept.made_is ∙ (c.in_ok-items.ensures.kept.made_is
    ∙ (c.in_ok-separator.ensures.kept.made_is ∙ (c.in_ok-v.ensures.kept.made_is ∙ c.requires.fresh)))))) c.in_ok-made.ensures.comes.is_named (λ table interned extends. refl)))))))
