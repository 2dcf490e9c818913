use Rattle.std.proofs.Common.{◌≡◌, ◌<◌, ◌∙◌, refl, sym, ap, subst, map, length, ℕ, ◌+◌, Option, None, List}
use Rattle.std.proofs.lemmas.List.{length-map}
use Rattle.object_store.specs.Store.{StoreView, count_with}
use Rattle.py_model.specs.Making.{set_items}
use Rattle.py_model.specs.Plan.{Plan, Writes, write, done, writes, read_len}
use Rattle.py_model.specs.Walks.{walk}
use Rattle.py_value.specs.Contents.{Contents, contents}
use Rattle.py_value.specs.Seen.{len_at, len_is}
use Rattle.py_value.specs.Values.{ValuesView}
use Rattle.py_value.specs.declared.access.Kind.{Kind}
use Rattle.py_value.specs.declared.value.Value.{Value}
use Rattle.op_lists.proofs.NamedValues.{named_stays}
use Rattle.op_work.specs.Work.{Ends}
use Rattle.op_work.proofs.Ending.{ends_then, ends_stop, ends_writes}
use Rattle.op_work.proofs.Going.{extends_then, passes_err}
use Rattle.op_joins.specs.Extended.{extended}
use Rattle.op_joins.proofs.extending.extend_list.Goals as goal

abbrev all : ℕ → Value → ℕ → ValuesView → List Contents → Writes
all o answer n table items = set_items o n items (write (len_at o) (len_is (n + length items)) (done (contents table answer)))

abbrev third : ℕ → Value → ℕ → ValuesView → List Contents → Plan
third o answer n table items = writes (all o answer n table items)

abbrev second : ℕ → Value → Value → ValuesView → ℕ → Plan
second o other answer table n = walk (contents table other) (third o answer n table)

abbrev first : ℕ → Value → Value → ValuesView → Unit {0} → Plan
first o other answer table x = read_len o (second o other answer table)

within_kept : (o : ℕ) (made : Option Kind) (old new : StoreView) → new ≡ old → made ≡ None → o < length old.objects → o < count_with made new
within_kept o made old new same none within = subst (λ (m : Option Kind). o < count_with m new) (sym none) (subst (λ (s : StoreView). o < length s.objects) (sym same) within)

pub returns-in_err-if_walked : goal.returns-in_err-if_walked
returns-in_err-if_walked c = passes_err (λ result. Ends (λ table. extended c.args.o (contents table c.args.other) (contents table c.args.answer)) c.args.work.now c.if_walked.new.work result) c.from_residual.result c.from_residual.ensures.1
    (ends_stop (first c.args.o c.args.other c.args.answer) _ c.in_err-if_walked.ensures)

pub returns-in_err-n : goal.returns-in_err-n
returns-in_err-n c = passes_err (λ result. Ends (λ table. extended c.args.o (contents table c.args.other) (contents table c.args.answer)) c.args.work.now c.read_len.new.self result) c.from_residual-in_err-n.result c.from_residual-in_err-n.ensures.1
    (ends_then (first c.args.o c.args.other c.args.answer) c.in_ok-if_walked.ensures (λ table interned extends. refl)
    (ends_stop (second c.args.o c.args.other c.args.answer) _ c.in_err-n.ensures))

pub returns-in_err-items : goal.returns-in_err-items
returns-in_err-items c = passes_err (λ result. Ends (λ table. extended c.args.o (contents table c.args.other) (contents table c.args.answer)) c.args.work.now c.walk_value.new.work result) c.from_residual-in_err-items.result c.from_residual-in_err-items.ensures.1
    (ends_then (first c.args.o c.args.other c.args.answer) c.in_ok-if_walked.ensures (λ table interned extends. refl)
    (ends_then (second c.args.o c.args.other c.args.answer) c.in_ok-n.ensures (λ table interned extends. refl)
    (ends_stop (third c.args.o c.args.answer c.in_ok-n.n) _ c.in_err-items.ensures)))

pub set_behind-requires-clause-answer : goal.set_behind-requires-clause-answer
set_behind-requires-clause-answer c =
    let extends = extends_then c.if_walked.ensures.kept.extends (extends_then c.read_len.ensures.kept.extends c.walk_value.ensures.kept.extends) in
    named_stays c.args.work.now.values c.walk_value.new.work.values extends.few c.args.answer c.requires.answer

pub walk_value-requires : goal.walk_value-requires
walk_value-requires c =
    let extends = extends_then c.if_walked.ensures.kept.extends c.read_len.ensures.kept.extends in
    named_stays c.args.work.now.values c.read_len.new.self.values extends.few c.args.other c.requires.other

pub set_behind-requires-clause-within : goal.set_behind-requires-clause-within
set_behind-requires-clause-within c =
    let store_is = c.walk_value.ensures.kept.store_is ∙ (c.read_len.ensures.kept.store_is ∙ c.if_walked.ensures.kept.store_is) in
    let made_is = c.walk_value.ensures.kept.made_is ∙ (c.read_len.ensures.kept.made_is ∙ (c.if_walked.ensures.kept.made_is ∙ c.requires.fresh)) in
    within_kept c.args.o c.walk_value.new.work.made c.args.work.now.store c.walk_value.new.work.store store_is made_is c.requires.within

pub returns : goal.returns
returns c =
    let items = c.as_slice.result.now in let o = c.args.o in let answer = c.args.answer in let n = c.in_ok-n.n in
    let made_is = c.walk_value.ensures.kept.made_is ∙ (c.read_len.ensures.kept.made_is ∙ (c.if_walked.ensures.kept.made_is ∙ c.requires.fresh)) in
    ends_then (first o c.args.other answer) c.in_ok-if_walked.ensures (λ table interned extends. refl)
    (ends_then (second o c.args.other answer) c.in_ok-n.ensures (λ table interned extends. refl)
    (ends_then (third o answer n) c.in_ok-items.ensures (λ table interned extends. ap (λ vs. third o answer n table (map (contents table) vs)) (sym c.as_slice.ensures.value))
    (ends_writes (λ table. third o answer n table (map (contents table) items)) made_is
    (λ table. set_items o n (map (contents table) items) (write (len_at o) (len_is (n + length items)) (done (contents table answer))))
    (λ table interned extends. ap (λ m. writes (set_items o n (map (contents table) items) (write (len_at o) (len_is (n + m)) (done (contents table answer))))) (length-map items (contents table)))
    c.set_behind.ensures)))
