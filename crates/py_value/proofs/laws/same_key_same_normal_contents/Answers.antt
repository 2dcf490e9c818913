use Rattle.std.proofs.Common.{sym, ap, ◌∙◌}
use Rattle.py_value.specs.Contents.{contents}
use Rattle.py_value.proofs.SameContents.{same_contents}
use Rattle.py_value.proofs.laws.same_key_same_normal_contents.Goals as goal

pub returns : goal.returns
returns c = λ view v w k l interned a b.
    (λ same. sym a.form_is ∙ ap (contents view) same ∙ b.form_is, λ same. same_contents view interned k l a.named b.named (a.form_is ∙ same ∙ sym b.form_is))
