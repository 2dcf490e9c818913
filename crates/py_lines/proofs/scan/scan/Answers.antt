-- The bytes so far were read from the start.
use Rattle.std.proofs.Common.{◌≡◌, ℕ, [], length, take, Some, arith, sym, ap, ◌∙◌, subst}
use Rattle.py_lines.specs.Reading.{IsReady, after_bytes, at_start}
use Rattle.py_lines.proofs.Runs.{read_more}
use Rattle.py_lines.proofs.Scanning.{ready_at}
use Rattle.py_lines.proofs.Texts.{are_texts, is_last_text, take_all}
use Rattle.py_lines.proofs.scan.scan.Goals as goal

pub read-requires-clause-ready : goal.read-requires-clause-ready
read-requires-clause-ready c = ready_at c.args.text.now c.loop-at.at c.loop-at.reader c.loop-at.invariant (omega arith) c.requires.short

pub loop-at-preserved : goal.loop-at-preserved
loop-at-preserved c = read_more c.args.text.now c.loop-at.at c.loop-at.reader c.read.new.self c.loop-at-test.true c.loop-at.invariant c.in_ok-read.ensures

pub finish-requires-clause-ready : goal.finish-requires-clause-ready
finish-requires-clause-ready c =
    let all : c.loop-at.at ≡ length c.args.text.now = omega arith in
    subst (λ (n : ℕ). IsReady n c.loop-at.reader) all (ready_at c.args.text.now c.loop-at.at c.loop-at.reader c.loop-at.invariant (omega arith) c.requires.short)

pub read-requires-clause-texts : goal.read-requires-clause-texts
read-requires-clause-texts c = are_texts c.args.text.now c.loop-at.at c.loop-at.reader c.requires.utf8 c.loop-at-test.true c.loop-at.invariant

pub finish-requires-clause-last : goal.finish-requires-clause-last
finish-requires-clause-last c =
    let all : c.loop-at.at ≡ length c.args.text.now = omega arith in
    is_last_text c.args.text.now c.loop-at.reader c.requires.utf8
    (ap (after_bytes [] at_start) (sym (take_all c.args.text.now)) ∙ subst (λ (n : ℕ). after_bytes [] at_start (take n c.args.text.now) ≡ Some c.loop-at.reader) all c.loop-at.invariant)
