use Rattle.std.proofs.Common.{rules, ◌≡◌, ◌∙◌, refl, sym, ap, subst, true, ℕ, ◌+◌, length, List, drop}
use Rattle.std.specs.Str.{is_utf8}
use Rattle.object_store.specs.Store.{StoreView, file_at}
use Rattle.op_items.specs.Lines.{bytes_in, line_or_end}
use Rattle.op_work.specs.Work.{Ends}
use Rattle.op_dicts.proofs.EndsEqual.{ends_equal}
use Rattle.py_model.specs.Files.{first_line}
use Rattle.py_model.specs.Plan.{Plan, counts, writes, write, done, done_at_end}
use Rattle.py_value.specs.Contents.{Contents, contents, text}
use Rattle.py_value.specs.Seen.{offset_at, offset_is}
use Rattle.op_work.proofs.Ending.{ends_then, ends_stop, ends_fault, ends_writes}
use Rattle.op_work.proofs.Going.{passes_err}
use Rattle.op_items.proofs.LineEnds.{no_line, text_line, other_line}
use Rattle.op_items.proofs.lines.take_line.Goals as goal

abbrev set_to : ℕ → ℕ → Contents → Plan
set_to o end line = writes (write (offset_at o) (offset_is end) (done line))

abbrev the_line : StoreView → ℕ → ℕ → List ℕ
the_line store path offset = first_line (drop offset (bytes_in (file_at store path)))

pub returns-then-length-eq0 : goal.returns-then-length-eq0
returns-then-length-eq0 c =
    let line = the_line c.args.work.now.store c.args.path c.args.offset in
    ends_writes (λ table. line_or_end c.args.o c.args.offset line) c.requires.fresh (λ table. write (offset_at c.args.o) (offset_is c.args.offset) done_at_end)
    (λ table interned extends. no_line c.args.o c.args.offset line (sym (ap length c.line_at.ensures) ∙ c.if-length-eq0.true)) c.at_end.ensures

pub returns-in_default : goal.returns-in_default
returns-in_default c =
    let line = the_line c.args.work.now.store c.args.path c.args.offset in
    ends_fault (λ table. line_or_end c.args.o c.args.offset line) 10 _ c.fault.result c.fault.ensures
    (λ table interned extends. other_line c.args.o c.args.offset line (λ is. c.if-length-eq0.false (ap length c.line_at.ensures ∙ is)) c.in_default.ensures)

pub returns-in_err-count : goal.returns-in_err-count
returns-in_err-count c =
    let line = the_line c.args.work.now.store c.args.path c.args.offset in
    passes_err (λ result. Ends (λ table. line_or_end c.args.o c.args.offset line) c.args.work.now c.count.new.self result) c.from_residual.result c.from_residual.ensures.1
    (ends_equal (λ table. line_or_end c.args.o c.args.offset line)
    (λ table interned extends. text_line c.args.o c.args.offset line (λ is. c.if-length-eq0.false (ap length c.line_at.ensures ∙ is)) c.in-Some.ensures.0
    ∙ ap (λ n. counts n (set_to c.args.o (c.args.offset + length line) (text line))) (sym c.in-Some.ensures.1))
    (ends_stop (λ table x. set_to c.args.o (c.args.offset + length line) (text line)) _ c.in_err-count.ensures))

pub returns : goal.returns
returns c =
    let line = the_line c.args.work.now.store c.args.path c.args.offset in
    let end : c.in-Some-checked_add.end ≡ c.args.offset + length c.line_at.result.now = search rules in
    let there = ap (λ (s : StoreView). the_line s c.args.path c.args.offset) c.count.ensures.kept.store_is in
    let words = c.as_str.ensures.value ∙ (c.in_ok-words.ensures (subst (λ (bs : List ℕ). is_utf8 bs ≡ true) (sym there) c.in-Some.ensures.0) ∙ there) in
    let none = c.text.ensures.comes.kept.made_is ∙ (c.count.ensures.kept.made_is ∙ c.requires.fresh) in
    ends_equal (λ table. line_or_end c.args.o c.args.offset line)
    (λ table interned extends. text_line c.args.o c.args.offset line (λ is. c.if-length-eq0.false (ap length c.line_at.ensures ∙ is)) c.in-Some.ensures.0
    ∙ ap (λ n. counts n (set_to c.args.o (c.args.offset + length line) (text line))) (sym c.in-Some.ensures.1))
    (ends_then (λ table x. set_to c.args.o (c.args.offset + length line) (text line)) c.in_ok-count.ensures
    (λ table interned extends. ap (λ n. set_to c.args.o (c.args.offset + n) (text line)) (sym (ap length c.line_at.ensures)) ∙ (ap (λ n. set_to c.args.o n (text line)) (sym end)
    ∙ ap (λ bs. set_to c.args.o c.in-Some-checked_add.end (text bs)) (sym words)))
    (ends_then (λ table x. set_to c.args.o c.in-Some-checked_add.end x) c.in_ok-line.ensures.comes (λ table interned extends. refl)
    (ends_writes (λ table. set_to c.args.o c.in-Some-checked_add.end (contents table c.in_ok-line.line)) none
    (λ table. write (offset_at c.args.o) (offset_is c.in-Some-checked_add.end) (done (contents table c.in_ok-line.line))) (λ table interned extends. refl) c.behind.ensures)))
