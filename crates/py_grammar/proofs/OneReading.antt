-- What is read from its tokens is the only statement that they spell.
use Rattle.std.proofs.Common.{◌≡◌, ◌+◌, Some, ap, sym, ◌∙◌, arith}
use Rattle.py_grammar.specs.Written.{Simple}
use Rattle.py_grammar.specs.StatementTokens.{simple_tokens}
use Rattle.py_grammar.specs.StatementReader.{read_simple}
use Rattle.py_grammar.proofs.SimpleReading.{simple_reads}

same_some : (a b : Simple) → Some a ≡ Some b → a ≡ b
same_some a b is = cc

pub one_simple : (a b : Simple) → simple_tokens a ≡ simple_tokens b → a ≡ b
one_simple a b same =
    let ra = simple_reads a in
    let rb = simple_reads b in
    let sum : rb.steps + ra.steps ≡ ra.steps + rb.steps = omega arith in
    same_some a b (sym (ra.reads rb.steps) ∙ ap (λ n. read_simple n (simple_tokens a)) sum ∙ ap (read_simple (ra.steps + rb.steps)) same ∙ rb.reads ra.steps)
