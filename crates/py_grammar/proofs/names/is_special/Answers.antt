use Rattle.std.specs.Prelude.{codes}
use Rattle.std.proofs.lemmas.Str.Pattern.{starts_text, ends_text}
use Rattle.py_grammar.proofs.NameLists.{special_is}
use Rattle.py_grammar.proofs.names.is_special.Goals as goal

-- src/names.rt
pub returns-then-opens : goal.returns-then-opens
returns-then-opens c = special_is _ _ _ _ c.as_str-name.ensures c.if-opens.true.0 c.if-opens.true.1 (starts_text _ (codes "__") c.as_str-name.result.now c.starts_with-opens.ensures.cases) (ends_text _ (codes "__") c.as_str-name.result.now c.ends_with-closes.ensures.cases)
