use Rattle.std.proofs.Common.{rules, arith, sym, ap, ◌∙◌, subst}
use Rattle.py_parser.specs.declared.fault.Halt.TheVariants.{BadIndent}
use Rattle.py_grammar.specs.Follows.{Below}
use Rattle.py_parser.specs.Faults.{first_place}
use Rattle.py_parser.proofs.CloseParts.{lacks_end, empty_end, deeper, no_handler_at, closes_lower, other_place, nothing_below}
use Rattle.py_parser.proofs.blocks.Blocks.close.Goals as goal

pub returns-then-lacks_handler-clause-refused : goal.returns-then-lacks_handler-clause-refused
returns-then-lacks_handler-clause-refused c = lacks_end c.args.self.now.columns.items c.args.place c.args.built.now c.args.self.now.before c.args.self.now.rest.now (nothing_below _ c.in_default.ensures.cases) (search rules)

pub returns-then-not-built-clause-refused : goal.returns-then-not-built-clause-refused
returns-then-not-built-clause-refused c =
    empty_end c.args.self.now.columns.items c.args.place c.args.built.now c.args.self.now.before c.args.self.now.rest.now (subst (Below c.args.place.indent) (sym (nothing_below _ c.in_default.ensures.cases)) tt) (search rules) c.if-not-built.true

pub returns-then-place-line-clause-refused : goal.returns-then-place-line-clause-refused
returns-then-place-line-clause-refused c =
    other_place c.args.self.now.columns.items c.args.place c.args.built.now c.args.self.now.before c.args.self.now.rest.now BadIndent c.first_of-at.result _ (c.first_of-at.ensures ∙ ap (first_place c.args.self.now.before) c.as_slice.ensures)
    (deeper c.args.self.now.columns.items c.args.place c.args.built.now c.args.self.now.before c.in-Some.line.now _ c.args.self.now.rest.now c.requires.columns c.in-Some.ensures.cases.0 c.if-place-line.true)

pub returns-then-lacks_handler-2-clause-refused : goal.returns-then-lacks_handler-2-clause-refused
returns-then-lacks_handler-2-clause-refused c =
    no_handler_at c.args.self.now.columns.items c.args.place c.args.built.now c.args.self.now.before c.in-Some.line.now _ c.args.self.now.rest.now c.no_handler.result c.in-Some.ensures.cases.0 c.requires.ended (search rules) c.no_handler.ensures

pub returns-then-not-built-2-clause-refused : goal.returns-then-not-built-2-clause-refused
returns-then-not-built-2-clause-refused c =
    closes_lower c.args.self.now.columns.items c.args.place c.args.built.now c.args.self.now.before c.in-Some.line.now _ c.args.self.now.rest.now c.in-Some.ensures.cases.0 c.requires.ended (let low = c.if-place-line.false in omega (arith, low)) (search rules) c.if-not-built-2.true
