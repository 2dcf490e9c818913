use Rattle.std.proofs.Common.{sym, ap, encode_utf8}
use Rattle.py_model.specs.Plan.{Plan}
use Rattle.py_value.specs.Contents.{Contents, text}
use Rattle.op_work.proofs.Going.{comes_same}
use Rattle.op_lists.proofs.texts.letter_text.Goals as goal

pub returns : goal.returns
returns c = comes_same (λ table (go : Contents → Plan). go (text (encode_utf8 c.args.letter))) (λ table interned extends go. ap (λ bytes. go (text bytes)) (sym c.encode_utf8.ensures.value)) c.text.ensures.comes
