use Rattle.std.proofs.Common.{rules, sym, ◌∙◌, refl}
use Rattle.py_grammar.specs.ParsedSimple.{around_of}
use Rattle.py_grammar.proofs.PlacedParts.{placed_end, limit_there, word_there, class_there, found_there, refused_there, outside, none_there}
use Rattle.py_grammar.proofs.head.placed.Goals.{else-around-via-then-around+else-not-is_alone, else-around-via-else-around}
use Rattle.py_grammar.proofs.head.placed.Goals as goal

-- src/head.rt
pub returns-in_default-clause-refused : goal.returns-in_default-clause-refused
returns-in_default-clause-refused c = placed_end (around_of c.args.around) c.args.limit c.args.cursor.now.rest.now (none_there _ c.in_default.ensures.cases)

-- src/head.rt
pub returns-in-Some-limit-clause-refused : goal.returns-in-Some-limit-clause-refused
returns-in-Some-limit-clause-refused c =
    limit_there (around_of c.args.around) c.args.limit c.in-Some-limit.limit c.args.cursor.now.rest.now c.in-Some.token.now _ _ c.in-Some-limit.is c.in-Some.ensures.cases.0 c.fault.ensures

-- src/head.rt
pub returns-then-not-is_alone-clause-refused : goal.returns-then-not-is_alone-clause-refused
returns-then-not-is_alone-clause-refused c =
    class_there (around_of c.args.around) c.args.limit c.args.cursor.now.rest.now c.in-Some.token.now _ _ c.in_default-limit.is c.in-Some.ensures.cases.0 c.if-around.true (sym c.is_alone.ensures ∙ c.if-not-is_alone.true) c.refuse_in_class.ensures

-- src/head.rt
pub returns-then-is_refused_word-clause-refused : goal.returns-then-is_refused_word-clause-refused
returns-then-is_refused_word-clause-refused c =
    word_there (around_of c.args.around) c.args.limit c.args.cursor.now.rest.now c.in-Some.token.now _ _ c.in_default-limit.is c.in-Some.ensures.cases.0 (sym c.is_refused_word.ensures ∙ c.if-is_refused_word.true) refl

-- src/head.rt
pub returns-in_err-form-clause-refused : goal.returns-in_err-form-clause-refused
returns-in_err-form-clause-refused c =
    let is = refused_there (around_of c.args.around) c.args.limit c.args.cursor.now.rest.now c.in-Some.token.now _ _ c.in_default-limit.is c.in-Some.ensures.cases.0
    (elim c.else-around.branch [
      | else-around-via-then-around+else-not-is_alone w ↦ (λ inside. sym w.is_alone.ensures ∙ w.if-not-is_alone.false)
      | else-around-via-else-around w ↦ outside _ _ w.if-around.false
    ]) c.in_err-form.ensures.refused in
    search (rules, is)

-- src/head.rt
pub returns-clause-found : goal.returns-clause-found
returns-clause-found c =
    found_there (around_of c.args.around) c.args.cursor.now.rest.now c.in-Some.token.now _ _ c.in-Some.ensures.cases.0
    (elim c.else-around.branch [
      | else-around-via-then-around+else-not-is_alone w ↦ (λ inside. sym w.is_alone.ensures ∙ w.if-not-is_alone.false)
      | else-around-via-else-around w ↦ outside _ _ w.if-around.false
    ]) c.in_ok-form.ensures.found
