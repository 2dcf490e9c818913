use Rattle.std.proofs.Common.{rules, ◌+◌, ◌++◌, ◌∷◌, [], ap, sym, ◌∙◌, refl}
use Rattle.py_grammar.specs.ParsedHead.{behind_in}
use Rattle.py_parser.specs.Faults.{last_place}
use Rattle.py_parser.specs.ParsedBlocks.{level_of, level_at}
use Rattle.py_parser.proofs.RowsStanding.{standing_start, standing_more, stopped_behind_there, stopped_end_there, still_below, rows_read, standing_declares}
use Rattle.py_parser.proofs.Columns.{below_inside}
use Rattle.py_parser.proofs.UnderParts.{behind_read, nothing_read}
use Rattle.py_parser.proofs.CloseParts.{nothing_below}
use Rattle.py_parser.proofs.CycleParts.{line_stopped_there, under_stopped_there, row_found, standing_shorter, no_line_below, not_below, beyond_below, inner_place, suite_stopped_there, suite_read_there, same_behind, no_behind, is_none_behind}
use Rattle.py_parser.proofs.blocks.Blocks.+blocks.Goals as goal

-- src/blocks.rt
pub row-returns-in_err-what-clause-refused : goal.row-returns-in_err-what-clause-refused
row-returns-in_err-what-clause-refused t c shallow =
    let is = line_stopped_there c.args.self.now.columns.items (level_at c.args.place c.args.given.now c.args.built) c.args.self.now.count c.args.self.now.before c.args.self.now.rest.now c.in-Some.line.now _ _ c.requires.deep c.requires.few c.in-Some.ensures.cases.0 c.requires.here c.in_err-what.ensures.refused in
    search (rules, is)

-- src/blocks.rt
pub row-returns-in_err-under-clause-refused : goal.row-returns-in_err-under-clause-refused
row-returns-in_err-under-clause-refused t c shallow =
    let is = under_stopped_there c.args.self.now.columns.items _ c.args.place c.args.given.now c.args.self.now.count c.line.new.self.count c.args.self.now.before c.last_of-self.result c.args.self.now.rest.now c.in-Some.line.now _ c.args.built _ _ c.requires.deep (ap (λ v. v.items) c.in_ok-what.ensures.columns) c.in-Some.ensures.cases.0 c.requires.here
    (c.last_of-self.ensures ∙ ap (λ at. last_place at c.as_slice.result.now) c.in_ok-what.ensures.before ∙ ap (last_place c.args.self.now.before) c.as_slice.ensures) c.in_ok-what.ensures.found shallow c.in_err-under.ensures.refused in
    search (rules, is)

-- src/blocks.rt
pub row-returns-clause-found : goal.row-returns-clause-found
row-returns-clause-found t c =
    row_found c.args.place c.args.given.now c.args.self.now.count c.line.new.self.count _ c.args.self.now.before c.last_of-self.result _ c.args.self.now.rest.now c.in-Some.line.now _ _ c.args.built c.in_ok-under.under _ c.with.result c.in-Some.ensures.cases.0 c.requires.here
    (c.last_of-self.ensures ∙ ap (λ at. last_place at c.as_slice.result.now) c.in_ok-what.ensures.before ∙ ap (last_place c.args.self.now.before) c.as_slice.ensures) c.in_ok-what.ensures.found c.in_ok-under.ensures.found
    c.with.ensures.trees c.with.ensures.globals c.with.ensures.to c.with.ensures.last c.with.ensures.declares c.with.ensures.stmt

-- src/blocks.rt
pub rows-loop-alloc-init : goal.rows-loop-alloc-init
rows-loop-alloc-init t c = (
  standing_start (level_of c.args.place c.args.given.now) c.args.self.now.count c.args.self.now.before c.args.self.now.rest.now (level_at c.args.place c.args.given.now c.new-built.result) c.new-built.result
      (c.new-built.ensures.level c.args.given.now) c.new-built.ensures.trees c.new-built.ensures.globals c.new-built.ensures.to c.requires.few,
  refl,
)

-- src/blocks.rt
pub rows-row-requires : goal.rows-row-requires
rows-row-requires t c =
    let few = c.loop-alloc.invariant.0.few in
    let declares = standing_declares c.args.place c.args.given.now c.args.self.now.count c.loop-alloc.self.count c.args.self.now.before c.loop-alloc.self.before c.args.self.now.rest.now c.loop-alloc.self.rest.now c.loop-alloc.built c.loop-alloc.invariant.0 in
    let columns = still_below c.args.place.indent c.args.self.now.columns.items _ c.loop-alloc.invariant.1 c.requires.columns in
    let shorter = standing_shorter (level_of c.args.place c.args.given.now) (level_at c.args.place c.args.given.now c.loop-alloc.built) c.args.self.now.count c.loop-alloc.self.count c.args.self.now.before c.loop-alloc.self.before c.args.self.now.rest.now c.loop-alloc.self.rest.now c.loop-alloc.built c.loop-alloc.invariant.0 in
    search (rules, few, declares, columns, shorter)

-- src/blocks.rt
pub rows-returns-in_err-built-clause-refused : goal.rows-returns-in_err-built-clause-refused
rows-returns-in_err-built-clause-refused t c shallow =
    let is = stopped_behind_there c.args.self.now.columns.items _ (level_of c.args.place c.args.given.now) (level_at c.args.place c.args.given.now c.loop-alloc.built) c.args.self.now.count c.loop-alloc.self.count c.args.self.now.before c.loop-alloc.self.before c.args.self.now.rest.now c.loop-alloc.self.rest.now
    c.loop-alloc.built _ c.loop-alloc.invariant.1 c.loop-alloc.invariant.0 (c.in_err-built.ensures.refused shallow) in
    search (rules, is)

-- src/blocks.rt
pub rows-loop-alloc-preserved : goal.rows-loop-alloc-preserved
rows-loop-alloc-preserved t c = (
  standing_more (level_of c.args.place c.args.given.now) (level_at c.args.place c.args.given.now c.loop-alloc.built) (level_at c.args.place c.args.given.now c.in_ok-built.built) c.args.self.now.count c.loop-alloc.self.count c.row.new.self.count
      c.args.self.now.before c.loop-alloc.self.before c.row.new.self.before c.args.self.now.rest.now c.loop-alloc.self.rest.now c.row.new.self.rest.now c.loop-alloc.built c.in_ok-built.built c.loop-alloc.invariant.0 c.in_ok-built.ensures.found,
  c.in_ok-built.ensures.columns ∙ c.loop-alloc.invariant.1,
)

-- src/blocks.rt
pub rows-returns-in_err-close-clause-refused : goal.rows-returns-in_err-close-clause-refused
rows-returns-in_err-close-clause-refused t c shallow =
    let is = stopped_end_there c.args.self.now.columns.items _ c.args.place c.args.given.now c.args.self.now.count c.loop-alloc.self.count c.args.self.now.before c.loop-alloc.self.before c.args.self.now.rest.now c.loop-alloc.self.rest.now c.loop-alloc.built _
    c.requires.deep c.loop-alloc.invariant.1 c.requires.here (sym c.is_here.ensures ∙ c.loop-alloc-test.false) c.loop-alloc.invariant.0 c.in_err-close.ensures.refused in
    search (rules, is)

-- src/blocks.rt
pub rows-returns-clause-found : goal.rows-returns-clause-found
rows-returns-clause-found t c =
    rows_read c.args.place c.args.given.now c.args.self.now.count c.loop-alloc.self.count c.args.self.now.before c.loop-alloc.self.before c.args.self.now.rest.now c.loop-alloc.self.rest.now c.loop-alloc.built c.loop-alloc.invariant.0 c.in_ok-close.ensures.found

-- src/blocks.rt
pub suite-returns-in_default-clause-refused : goal.suite-returns-in_default-clause-refused
suite-returns-in_default-clause-refused t c m n h shallow u what open_is =
    no_line_below c.args.self.now.columns.items c.args.place c.args.self.now.count m n h c.args.self.now.before c.args.self.now.rest.now c.requires.deep (nothing_below _ c.in_default.ensures.cases) u open_is

-- src/blocks.rt
pub suite-returns-then-next-place-clause-refused : goal.suite-returns-then-next-place-clause-refused
suite-returns-then-next-place-clause-refused t c m n h shallow u what open_is =
    not_below c.args.self.now.columns.items c.args.place c.args.self.now.count m n h c.args.self.now.before c.in-Some.next.now _ c.args.self.now.rest.now c.requires.deep c.in-Some.ensures.cases.0 u c.if-next-place.true open_is

-- src/blocks.rt
pub suite-returns-then-place-ge-SUITES-clause-refused : goal.suite-returns-then-place-ge-SUITES-clause-refused
suite-returns-then-place-ge-SUITES-clause-refused t c m n h shallow u what open_is =
    beyond_below c.args.self.now.columns.items c.args.place c.args.self.now.count m n h c.args.self.now.before c.in-Some.next.now c.in-Some.lines.now c.args.self.now.rest.now _ c.requires.deep c.in-Some.ensures.cases.0 shallow u c.if-next-place.false c.if-place-ge-SUITES.true open_is
    c.beyond_suites.ensures

-- src/blocks.rt
pub suite-returns-in_err-built-clause-refused : goal.suite-returns-in_err-built-clause-refused
suite-returns-in_err-built-clause-refused t c m n h shallow u what open_is =
    let is = suite_stopped_there c.args.self.now.columns.items _ c.args.place (inner_place c.in-Some.next.now.indent (c.args.place.depth + 1) c.inner_around.result c.is_def.result) c.in_ok-given.given c.args.self.now.count m n h c.args.self.now.before c.args.self.now.rest.now _ c.if-place-ge-SUITES.false shallow u open_is refl
    (c.inner_around.ensures h what) (c.is_def.ensures h what) (c.in_ok-given.ensures ∙ c.given_of.ensures h what) c.if-next-place.false c.in_ok-push.ensures.items c.in_err-built.ensures.refused in
    search (rules, is)

-- src/blocks.rt
pub suite-returns-clause-found : goal.suite-returns-clause-found
suite-returns-clause-found t c m n h u what open_is to =
    suite_read_there c.args.place (inner_place c.in-Some.next.now.indent (c.args.place.depth + 1) c.inner_around.result c.is_def.result) c.in_ok-given.given c.args.self.now.count c.rows.new.self.count to m n h c.args.self.now.before c.rows.new.self.before
    c.args.self.now.rest.now c.rows.new.self.rest.now c.in_ok-built.built u open_is refl (c.inner_around.ensures h what) (c.is_def.ensures h what) (c.in_ok-given.ensures ∙ c.given_of.ensures h what) c.if-next-place.false c.if-place-ge-SUITES.false c.in_ok-built.ensures.found

-- src/blocks.rt
pub under-returns-in_ok-one_line-in-Some-clause-found : goal.under-returns-in_ok-one_line-in-Some-clause-found
under-returns-in_ok-one_line-in-Some-clause-found t c m n h u head there =
    behind_read c.args.place c.args.self.now.count (c.args.self.now.count + 1) c.args.line.now.span.to m n h c.in-Some.behind c.args.self.now.before c.args.self.now.rest.now c.in_ok-one_line-in-Some.field-0 u (same_behind c.args.behind c.in-Some.behind h c.in-Some.is there) refl
    c.in_ok-one_line-in-Some.ensures.tree c.in_ok-one_line-in-Some.ensures.globals c.in_ok-one_line-in-Some.ensures.to

-- src/blocks.rt
pub under-returns-in-None-2-clause-found : goal.under-returns-in-None-2-clause-found
under-returns-in-None-2-clause-found t c m n h u head there =
    let none = no_behind c.args.behind h c.in-None-2.is there in
    nothing_read c.args.place c.args.self.now.count c.args.line.now.span.to m n h c.args.self.now.before c.args.self.now.rest.now c.nothing.result u none (sym (c.opens.ensures h head.0 (is_none_behind (behind_in h) none)) ∙ c.if-opens.false)
    c.nothing.ensures.trees c.nothing.ensures.globals c.nothing.ensures.to

-- src/blocks.rt
pub suite-rows-requires : goal.suite-rows-requires
suite-rows-requires t c =
    let columns = still_below c.in-Some.next.now.indent (c.args.self.now.columns.items ++ c.args.place.indent ∷ []) c.push.new.self.items c.in_ok-push.ensures.items
    (below_inside c.args.place.indent c.in-Some.next.now.indent c.args.self.now.columns.items c.if-next-place.false c.requires.columns) in
    search (rules, columns)

-- src/blocks.rt
pub under-returns-in-None-clause-refused : goal.under-returns-in-None-clause-refused
under-returns-in-None-clause-refused t c m n h shallow u head there =
    c.suite.ensures.refused m n h shallow u head.0 (sym (c.opens.ensures h head.0 (is_none_behind (behind_in h) (no_behind c.args.behind h c.in-None.is there))) ∙ c.if-opens.true)
