use Rattle.std.proofs.Common.{map, subst, ◌∙◌}
use Rattle.std.specs.String.{string_bytes}
use Rattle.py_grammar.specs.NameSets.{AddsName}
use Rattle.py_grammar.proofs.NameSetLemmas.{adds_key}
use Rattle.py_grammar.proofs.name_set.NameSet.add.Goals as goal

-- src/name_set.rt
pub returns : goal.returns
returns c = subst (λ old. AddsName old (map string_bytes c.insert.new.self.keys) c.args.name.now) c.self.view_is
    (adds_key string_bytes c.self.inside.texts.keys c.insert.new.self.keys c.in_ok-text.text c.args.name.now (c.in_ok-text.ensures.ok ∙ c.as_str.ensures) c.in_ok-insert.ensures.keys)
