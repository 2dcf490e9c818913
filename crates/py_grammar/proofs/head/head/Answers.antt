use Rattle.std.proofs.Common.{rules, refl}
use Rattle.py_grammar.specs.ParsedSimple.{around_of}
use Rattle.py_grammar.specs.ParsedHead.{context_of}
use Rattle.py_grammar.proofs.LineForms.{simple_there, simple_refused_there, global_there, global_refused_there, opening_refused_there, sign_refused_there, behind_refused_there, line_there}
use Rattle.py_grammar.proofs.head.head.Goals as goal

-- src/head.rt
pub returns-in_err-form-clause-refused : goal.returns-in_err-form-clause-refused
returns-in_err-form-clause-refused c =
    let is = simple_refused_there (context_of c.args.context) c.args.given.now c.args.limit c.args.cursor.now.rest.now c.take_compound.new.cursor.rest.now _
    c.in_default.ensures.kept c.requires.fine c.in_default.ensures.absent c.in_err-form.ensures.refused in
    search (rules, is)

-- src/head.rt
pub returns-in_default-clause-found : goal.returns-in_default-clause-found
returns-in_default-clause-found c =
    simple_there (context_of c.args.context) c.args.given.now c.args.limit c.args.cursor.now.rest.now c.take_compound.new.cursor.rest.now _
    c.in_default.ensures.kept c.requires.fine c.in_default.ensures.absent c.in_ok-form.ensures.found

-- src/head.rt
pub returns-in_err-names-clause-refused : goal.returns-in_err-names-clause-refused
returns-in_err-names-clause-refused c =
    let is = global_refused_there (context_of c.args.context) c.args.given.now c.args.limit c.in-Some.word _ c.args.cursor.now.rest.now c.take_compound.new.cursor.rest.now _
    c.in-Some.ensures.taken c.if-word-eq-GLOBAL.true c.requires.fine c.in_err-names.ensures.refused in
    search (rules, is)

-- src/head.rt
pub returns-then-word-eq-GLOBAL-clause-found : goal.returns-then-word-eq-GLOBAL-clause-found
returns-then-word-eq-GLOBAL-clause-found c =
    global_there (context_of c.args.context) c.args.given.now c.args.limit c.in-Some.word _ c.args.cursor.now.rest.now c.take_compound.new.cursor.rest.now _
    c.in-Some.ensures.taken c.if-word-eq-GLOBAL.true c.requires.fine c.in_ok-names.ensures.found

-- src/head.rt
pub returns-in_err-what-clause-refused : goal.returns-in_err-what-clause-refused
returns-in_err-what-clause-refused c =
    let is = opening_refused_there (context_of c.args.context) c.args.given.now c.args.limit c.in-Some.word _ c.args.cursor.now.rest.now c.take_compound.new.cursor.rest.now _
    c.in-Some.ensures.taken c.in-Some.ensures.word c.requires.fine (c.in_err-what.ensures.refused (context_of c.args.context) refl) in
    search (rules, is)

-- src/head.rt
pub returns-in_err-sign-clause-refused : goal.returns-in_err-sign-clause-refused
returns-in_err-sign-clause-refused c =
    let is = sign_refused_there (context_of c.args.context) c.args.given.now c.args.limit c.in-Some.word _ c.args.cursor.now.rest.now c.take_compound.new.cursor.rest.now c.opening.new.cursor.rest.now c.in_ok-what.what _
    c.in-Some.ensures.taken c.in-Some.ensures.word c.requires.fine (c.in_ok-what.ensures.found (context_of c.args.context) refl) c.in_err-sign.ensures.refused in
    search (rules, is)

-- src/head.rt
pub returns-in_err-behind-clause-refused : goal.returns-in_err-behind-clause-refused
returns-in_err-behind-clause-refused c =
    let is = behind_refused_there (context_of c.args.context) c.args.given.now c.args.limit c.in-Some.word _ _ c.args.cursor.now.rest.now c.take_compound.new.cursor.rest.now c.opening.new.cursor.rest.now c.sign.new.self.rest.now c.in_ok-what.what
    (around_of c.suite_around.result) _ c.in-Some.ensures.taken c.in-Some.ensures.word c.requires.fine (c.in_ok-what.ensures.found (context_of c.args.context) refl) c.in_ok-sign.ensures.taken c.suite_around.ensures c.in_err-behind.ensures.refused in
    search (rules, is)

-- src/head.rt
pub returns-clause-found : goal.returns-clause-found
returns-clause-found c =
    line_there (context_of c.args.context) c.args.given.now c.args.limit c.in-Some.word _ _ c.args.cursor.now.rest.now c.take_compound.new.cursor.rest.now c.opening.new.cursor.rest.now c.sign.new.self.rest.now c.in_ok-what.what c.in_ok-behind.behind
    (around_of c.suite_around.result) c.in-Some.ensures.taken c.in-Some.ensures.word c.requires.fine
    (c.in_ok-what.ensures.found (context_of c.args.context) refl) c.in_ok-sign.ensures.taken c.suite_around.ensures c.in_ok-behind.ensures.found
