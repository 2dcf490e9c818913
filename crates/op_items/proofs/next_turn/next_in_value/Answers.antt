use Rattle.std.proofs.Common.{rules, ◌≡◌, ◌∙◌, sym, ap, w64, to_z, of_z, pos, [], ◌∷◌}
use Rattle.py_model.specs.Files.{next_line}
use Rattle.py_model.specs.Lists.{next}
use Rattle.py_value.specs.Contents.{contents, int, range, nothing}
use Rattle.op_work.proofs.Ending.{ends_fault}
use Rattle.op_dicts.proofs.EndsEqual.{ends_equal}
use Rattle.op_lists.proofs.RangeNumbers.{of_three}
use Rattle.op_items.proofs.NextPlans.{turns_of, no_sequence, tuple_any}
use Rattle.op_items.proofs.next_turn.next_in_value.Goals as goal

pub returns-in-Text : goal.returns-in-Text
returns-in-Text c = ends_equal (λ table. next next_line (contents table c.args.v ∷ int (pos c.args.n) ∷ contents table c.args.begun ∷ []))
    (λ table interned extends. ap (λ v. turns_of (contents table v) (int (pos c.args.n)) (contents table c.args.begun)) c.in-Text.is) (c.next_in_text.ensures next_line nothing)

pub returns-in-Tuple : goal.returns-in-Tuple
returns-in-Tuple c = ends_equal (λ table. next next_line (contents table c.args.v ∷ int (pos c.args.n) ∷ contents table c.args.begun ∷ []))
    (λ table interned extends. ap (λ v. turns_of (contents table v) (int (pos c.args.n)) (contents table c.args.begun)) c.in-Tuple.is ∙ tuple_any table c.in-Tuple.id c.args.n (contents table c.args.begun)) (c.next_in_tuple.ensures next_line nothing)

pub returns-in-Range : goal.returns-in-Range
returns-in-Range c =
    let start_is : to_z w64 (of_z w64 c.in-Range.start) ≡ c.in-Range.start = search rules in
    let end_is : to_z w64 (of_z w64 c.in-Range.end) ≡ c.in-Range.end = search rules in
    let step_is : to_z w64 (of_z w64 c.in-Range.step) ≡ c.in-Range.step = search rules in
    ends_equal (λ table. next next_line (contents table c.args.v ∷ int (pos c.args.n) ∷ contents table c.args.begun ∷ []))
    (λ table interned extends. ap (λ v. turns_of (contents table v) (int (pos c.args.n)) (contents table c.args.begun)) c.in-Range.is
    ∙ of_three (λ a b d. turns_of (range a b d) (int (pos c.args.n)) nothing) (sym start_is) (sym end_is) (sym step_is)) (c.next_in_range.ensures next_line nothing)

pub returns-in-Object : goal.returns-in-Object
returns-in-Object c = ends_equal (λ table. next next_line (contents table c.args.v ∷ int (pos c.args.n) ∷ contents table c.args.begun ∷ []))
    (λ table interned extends. ap (λ v. turns_of (contents table v) (int (pos c.args.n)) (contents table c.args.begun)) c.in-Object.is) c.next_in_object.ensures

pub returns-in_default : goal.returns-in_default
returns-in_default c = ends_fault (λ table. next next_line (contents table c.args.v ∷ int (pos c.args.n) ∷ contents table c.args.begun ∷ [])) 9 _ c.fault.result c.fault.ensures
    (λ table interned extends. no_sequence table c.args.v c.args.n (contents table c.args.begun) c.in_default.not-Text c.in_default.not-Tuple c.in_default.not-Range c.in_default.not-Object)
