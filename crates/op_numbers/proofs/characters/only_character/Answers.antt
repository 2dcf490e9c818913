use Rattle.std.proofs.Common.{rules, ◌≡◌, ◌∙◌, sym, ap, is_some, true, false}
use Rattle.std.proofs.lemmas.Str.{chars_past_char}
use Rattle.op_numbers.specs.Characters.{only}
use Rattle.op_numbers.proofs.CharacterPlans.{one, many}
use Rattle.op_numbers.proofs.characters.only_character.Goals as goal

pub returns-then-is_some : goal.returns-then-is_some
returns-then-is_some c =
    let whole = chars_past_char c.args.s.now _ c.in_ok-first.first c.utf8.s (sym c.chars-rest.ensures.rest ∙ c.in_ok-first.ensures.steps.0) in
    let two : is_some c.next-2.result ≡ true = search (rules, c.is_some.ensures, c.if-is_some.true) in
    sym (ap only whole ∙ many c.in_ok-first.first _ (ap is_some (sym c.next-2.ensures.steps.2) ∙ two))

pub returns : goal.returns
returns c =
    let whole = chars_past_char c.args.s.now _ c.in_ok-first.first c.utf8.s (sym c.chars-rest.ensures.rest ∙ c.in_ok-first.ensures.steps.0) in
    let two : is_some c.next-2.result ≡ false = search (rules, c.is_some.ensures, c.if-is_some.false) in
    sym (ap only whole ∙ one c.in_ok-first.first _ (ap is_some (sym c.next-2.ensures.steps.2) ∙ two))
