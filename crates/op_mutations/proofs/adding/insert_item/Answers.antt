use Rattle.std.proofs.Common.{rules, ◌≡◌, ◌∙◌, refl, sym, ap, ℕ, ℤ, suc, ◌-◌, w64, to_z, of_z}
use Rattle.op_work.specs.Work.{Ends}
use Rattle.py_model.specs.Lists.{insert_item, move_up}
use Rattle.py_model.specs.Places.{clipped}
use Rattle.py_model.specs.Plan.{Plan, Writes, write, writes, done}
use Rattle.py_value.specs.Contents.{contents, nothing}
use Rattle.py_value.specs.Seen.{item_at, item_is, len_at, len_is}
use Rattle.py_value.specs.Values.{ValuesView}
use Rattle.py_value.specs.declared.value.Value.{Value}
use Rattle.op_lists.proofs.NamedValues.{named_stays}
use Rattle.op_work.proofs.Ending.{ends_then, ends_stop, ends_writes}
use Rattle.op_work.proofs.Going.{passes_err}
use Rattle.op_mutations.proofs.Moves.{within_fresh}
use Rattle.op_mutations.proofs.adding.insert_item.Goals as goal

abbrev all : ℕ → Value → ℕ → ℕ → ValuesView → Writes
all o item n p table = move_up (n - p) o p (write (item_at o p) (item_is (contents table item)) (write (len_at o) (len_is (suc n)) (done nothing)))

abbrev next : ℕ → Value → ℤ → ValuesView → ℕ → Plan
next o item i table n = writes (all o item n (clipped i n) table)

pub returns-in_err-n : goal.returns-in_err-n
returns-in_err-n c = passes_err (λ result. Ends (λ table. insert_item c.args.o (contents table c.args.item) c.args.i) c.args.work.now c.read_len.new.self result) c.from_residual.result c.from_residual.ensures.1
    (ends_stop (next c.args.o c.args.item c.args.i) _ c.in_err-n.ensures)

pub put_at-requires-clause-named : goal.put_at-requires-clause-named
put_at-requires-clause-named c = named_stays c.args.work.now.values c.read_len.new.self.values c.read_len.ensures.kept.extends.few c.args.item c.requires.named

pub put_at-requires-clause-within : goal.put_at-requires-clause-within
put_at-requires-clause-within c = within_fresh c.args.o c.read_len.new.self.made c.args.work.now.store c.read_len.new.self.store (c.read_len.ensures.kept.made_is ∙ c.requires.fresh) c.read_len.ensures.kept.store_is c.requires.within

pub returns : goal.returns
returns c =
    let o = c.args.o in let item = c.args.item in let n = c.in_ok-n.n in
    let back : to_z w64 (of_z w64 c.args.i) ≡ c.args.i = search rules in
    ends_then (next o item c.args.i) c.in_ok-n.ensures (λ table interned extends. refl)
    (ends_writes (λ table. next o item c.args.i table n) (c.read_len.ensures.kept.made_is ∙ c.requires.fresh) (all o item n c.clipped-p.result)
    (λ table interned extends. ap (λ p. writes (all o item n p table)) (ap (λ (i : ℤ). clipped i n) (sym back) ∙ sym c.clipped-p.ensures.place)) c.put_at.ensures)
