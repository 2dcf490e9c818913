use Rattle.std.proofs.Common.{arith, string_bytes}
use Rattle.op_texts.specs.Heads.{heads}
use Rattle.op_work.proofs.Going.{passes_err}
use Rattle.op_pieces.specs.Counted.{Counted}
use Rattle.op_pieces.proofs.Counting.{counts_same, heads_all}
use Rattle.op_pieces.proofs.texts.put_words.Goals as goal

pub returns-in_err-count : goal.returns-in_err-count
returns-in_err-count c =
    let all = heads_all c.args.words.now c.utf8.words in
    passes_err (λ result. Counted (λ table. c.args.words.now) (string_bytes c.args.text.now) (string_bytes c.args.text.now) c.args.work.now c.count.new.self result) c.from_residual.result c.from_residual.ensures.1
    (record {
      comes = counts_same (λ table. c.size.result) (λ table. heads c.args.words.now) _ c.in_err-count.ensures (λ table interned extends. omega (arith, all, c.size.ensures.count)) tt;
      bytes_are = tt;
    })

pub returns : goal.returns
returns c =
    let all = heads_all c.args.words.now c.utf8.words in
    record {
      comes = counts_same (λ table. c.size.result) (λ table. heads c.args.words.now) _ c.in_ok-count.ensures (λ table interned extends. omega (arith, all, c.size.ensures.count)) (λ table interned extends. omega (arith, all, c.size.ensures.count));
      bytes_are = λ table interned extends. c.in_ok-push_str.ensures.bytes;
    }
