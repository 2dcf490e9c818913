use Rattle.std.proofs.Common.{◌≡◌, ◌⊎◌, inl, inr, ◌<◌, true, ap, sym, subst, ◌∙◌}
use Rattle.std.proofs.lemmas.Bool.{false≢true}
use Rattle.py_expressions.specs.declared.fault.Stop.TheVariants.{Here, End}
use Rattle.py_parser.specs.Faults.{last_place}
use Rattle.py_grammar.specs.ParsedHead.{lacks_handler}
use Rattle.py_parser.specs.declared.fault.Halt.{Halt}
use Rattle.py_parser.specs.ParsedBlocks.{level_at, LineStopped}
use Rattle.py_parser.proofs.BlockLines.{not_false, none_lacks, first_there, none_there, opened, found_there, line_refused, line_ends, line_is_empty, one_too_many, refused_at, first_at}
use Rattle.py_parser.proofs.blocks.Blocks.line.Goals as goal
use Rattle.py_parser.proofs.blocks.Blocks.line.Goals.{else-begins-via-then-begins+else-finished, else-begins-via-then-begins+then-finished+else-self-ge-STATEMENTS, else-begins-via-else-begins}

-- src/blocks.rt
pub returns-in_default-clause-refused : goal.returns-in_default-clause-refused
returns-in_default-clause-refused c =
    line_is_empty (level_at c.args.place c.args.given.now c.args.built.now) c.args.self.now.count _ c.args.line.now c.args.lines.now (sym c.as_slice.ensures ∙ none_there _ c.in_default.ensures.value)

-- src/blocks.rt
pub returns-then-self-ge-STATEMENTS-clause-refused : goal.returns-then-self-ge-STATEMENTS-clause-refused
returns-then-self-ge-STATEMENTS-clause-refused c =
    let there = first_there c.as_slice.result.now c.in-Some.first.now c.in-Some.ensures.value in
    one_too_many (level_at c.args.place c.args.given.now c.args.built.now) c.args.self.now.count _ c.args.line.now c.args.lines.now c.in-Some.first.now there.0 (sym c.as_slice.ensures ∙ there.1) c.if-begins.ensures
    (none_lacks (lacks_handler c.args.built.now.last) _ c.is_finished-finished.ensures c.if-finished.true) c.if-self-ge-STATEMENTS.true c.requires.few

-- src/blocks.rt
pub returns-in-Ok-clause-found : goal.returns-in-Ok-clause-found
returns-in-Ok-clause-found c =
    let fewer : c.begins_stmt-begins.result ≡ true → (c.args.self.now.count < 20000) ⊎ (lacks_handler c.args.built.now.last ≡ true) =
    elim c.else-begins.branch [
      | else-begins-via-then-begins+else-finished w ↦ λ _. inr (not_false _ _ c.is_finished-finished.ensures w.if-finished.false)
      | else-begins-via-then-begins+then-finished+else-self-ge-STATEMENTS w ↦ λ _. inl w.if-self-ge-STATEMENTS.false
      | else-begins-via-else-begins w ↦ λ is. absurd (false≢true (sym w.if-begins.false ∙ is))
    ] in
    let o = opened (level_at c.args.place c.args.given.now c.args.built.now) c.args.self.now.count c.args.line.now c.as_slice.result.now c.in-Some.first.now c.begins_stmt-begins.result c.limit_of-limit.result c.from.result
    c.as_slice.ensures c.in-Some.ensures.value c.begins_stmt-begins.ensures c.from.ensures c.limit_of-limit.ensures in
    found_there (level_at c.args.place c.args.given.now c.args.built.now) c.args.self.now.count c.args.line.now c.in-Ok.head c.as_slice-2.result.now c.in-Some.first.now c.begins_stmt-begins.result c.limit_of-limit.result c.from.result
    o c.requires.declares c.requires.few fewer c.from.ensures c.as_slice-2.ensures c.in-Ok.ensures.found

-- src/blocks.rt
pub returns-in-Err-Here-clause-refused : goal.returns-in-Err-Here-clause-refused
returns-in-Err-Here-clause-refused c =
    let fewer : c.begins_stmt-begins.result ≡ true → (c.args.self.now.count < 20000) ⊎ (lacks_handler c.args.built.now.last ≡ true) =
    elim c.else-begins.branch [
      | else-begins-via-then-begins+else-finished w ↦ λ _. inr (not_false _ _ c.is_finished-finished.ensures w.if-finished.false)
      | else-begins-via-then-begins+then-finished+else-self-ge-STATEMENTS w ↦ λ _. inl w.if-self-ge-STATEMENTS.false
      | else-begins-via-else-begins w ↦ λ is. absurd (false≢true (sym w.if-begins.false ∙ is))
    ] in
    let o = opened (level_at c.args.place c.args.given.now c.args.built.now) c.args.self.now.count c.args.line.now c.as_slice.result.now c.in-Some.first.now c.begins_stmt-begins.result c.limit_of-limit.result c.from.result
    c.as_slice.ensures c.in-Some.ensures.value c.begins_stmt-begins.ensures c.from.ensures c.limit_of-limit.ensures in
    subst (λ (h : Halt). LineStopped (level_at c.args.place c.args.given.now c.args.built.now) c.args.self.now.count c.args.self.now.before c.args.line.now c.args.lines.now h) (sym c.halted.ensures)
    (line_refused (level_at c.args.place c.args.given.now c.args.built.now) c.args.self.now.count _ c.args.line.now c.args.lines.now c.in-Some.first.now c.begins_stmt-begins.result c.limit_of-limit.result c.in-Err-Here.fault o c.requires.declares c.requires.few fewer
    (first_at (level_at c.args.place c.args.given.now c.args.built.now) c.as_slice-2.result.now _ c.in-Err-Here.field-0 (Here c.in-Err-Here.fault) c.as_slice-2.ensures c.in-Err-Here.field-0-is c.in-Err-Here.ensures.first)
    (refused_at (level_at c.args.place c.args.given.now c.args.built.now) c.limit_of-limit.result c.as_slice-2.result.now _ c.in-Err-Here.field-0 (Here c.in-Err-Here.fault) c.as_slice-2.ensures c.in-Err-Here.field-0-is c.in-Err-Here.ensures.refused))

-- src/blocks.rt
pub returns-in-Err-End-clause-refused : goal.returns-in-Err-End-clause-refused
returns-in-Err-End-clause-refused c =
    let fewer : c.begins_stmt-begins.result ≡ true → (c.args.self.now.count < 20000) ⊎ (lacks_handler c.args.built.now.last ≡ true) =
    elim c.else-begins.branch [
      | else-begins-via-then-begins+else-finished w ↦ λ _. inr (not_false _ _ c.is_finished-finished.ensures w.if-finished.false)
      | else-begins-via-then-begins+then-finished+else-self-ge-STATEMENTS w ↦ λ _. inl w.if-self-ge-STATEMENTS.false
      | else-begins-via-else-begins w ↦ λ is. absurd (false≢true (sym w.if-begins.false ∙ is))
    ] in
    let o = opened (level_at c.args.place c.args.given.now c.args.built.now) c.args.self.now.count c.args.line.now c.as_slice.result.now c.in-Some.first.now c.begins_stmt-begins.result c.limit_of-limit.result c.from.result
    c.as_slice.ensures c.in-Some.ensures.value c.begins_stmt-begins.ensures c.from.ensures c.limit_of-limit.ensures in
    line_ends (level_at c.args.place c.args.given.now c.args.built.now) c.args.self.now.count _ _ c.args.line.now c.args.lines.now c.in-Some.first.now c.begins_stmt-begins.result c.limit_of-limit.result o c.requires.declares fewer
    (c.last_of.ensures ∙ ap (last_place c.args.self.now.before) c.as_slice-in-Err-End.ensures)
    (refused_at (level_at c.args.place c.args.given.now c.args.built.now) c.limit_of-limit.result c.as_slice-2.result.now _ c.in-Err-End.field-0 End c.as_slice-2.ensures c.in-Err-End.field-0-is c.in-Err-End.ensures.refused)
