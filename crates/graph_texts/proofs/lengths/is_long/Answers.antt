use Rattle.std.proofs.Common.{◌≡◌, ℕ, ◌+◌, nat_lt, refl, sym, ap, ◌∙◌, rules}
use Rattle.op_texts.proofs.Counted.{size_behind}
use Rattle.py_model.specs.Texts.{size}
use Rattle.graph_texts.proofs.lengths.is_long.Goals as goal

one_more : (n : ℕ) → nat_lt 63 n ≡ nat_lt 64 (n + 1)
one_more n = search rules

pub returns : goal.returns
returns c =
    c.begins_more.ensures ∙ (one_more _
    ∙ ap (nat_lt 64) (size_behind c.as_bytes-bytes.result.now _ (sym c.is_empty.ensures ∙ c.if-is_empty.false) refl ∙ ap size c.as_bytes-bytes.ensures.value))
