use Rattle.std.proofs.Common.{ap, ◌∙◌}
use Rattle.std.specs.List.{list_any}
use Rattle.std.specs.Str.{bytes_eq}
use Rattle.std.specs.String.{string_bytes}
use Rattle.py_grammar.specs.WellPlaced.{is_in}
use Rattle.py_grammar.proofs.NameSetLemmas.{any_view}
use Rattle.py_grammar.proofs.name_set.NameSet.contains.Goals as goal

-- src/name_set.rt
pub returns : goal.returns
returns c = c.contains.ensures ∙ ap (λ b. list_any (λ k. bytes_eq b (string_bytes k)) c.self.inside.texts.keys) c.as_str.ensures ∙ any_view string_bytes c.args.name.now c.self.inside.texts.keys ∙ ap (is_in c.args.name.now) c.self.view_is
