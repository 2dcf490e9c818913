use Rattle.std.proofs.Common.{rules, ◌≡◌, ◌∙◌, refl, sym, ap, subst, to_z, of_z, w64, ℕ, ℤ, pos, List, Some, slice_get}
use Rattle.op_work.specs.Work.{Extends, Ends, WroteAll}
use Rattle.py_model.specs.Plan.{Plan, counts, writes, change, done}
use Rattle.py_model.specs.Texts.{size}
use Rattle.py_value.specs.Contents.{int}
use Rattle.py_value.specs.Seen.{bytes_of, file_at, bytes_appended}
use Rattle.py_value.specs.Values.{ValuesView}
use Rattle.op_dicts.proofs.EndsEqual.{ends_equal}
use Rattle.op_work.proofs.Ending.{ends_then, ends_stop, ends_writes}
use Rattle.op_work.proofs.Going.{passes_err, extends_then}
use Rattle.op_files.specs.Written.{appended}
use Rattle.op_texts.proofs.Taken.{bytes_stay}
use Rattle.op_files.proofs.writing.append_text.Goals as goal

abbrev put : ℕ → ℕ → ℤ → ValuesView → Plan
put path id count table = writes (change (file_at (bytes_of table path)) (bytes_appended (bytes_of table id)) (done (int count)))

abbrev rest : ℕ → ℕ → ℤ → ValuesView → Unit {0} → Plan
rest path id count table x = put path id count table

abbrev counting : ℕ → ℕ → ℕ → ℤ → ValuesView → Plan
counting n path id count table = counts n (put path id count table)

equal : (n path id : ℕ) (count : ℤ) (words : List ℕ) (old table : ValuesView) → slice_get old.texts id ≡ Some words → Extends old table → n ≡ size words → count ≡ pos n
    → appended (bytes_of table path) (bytes_of table id) ≡ counting n path id count table
equal n path id count words old table text extends size_is count_is =
    ap (λ m. counts m (put path id (pos m) table)) (ap size (bytes_stay old table id words text extends) ∙ sym size_is) ∙ ap (λ i. counting n path id i table) (sym count_is)

pub returns-in_err-count : goal.returns-in_err-count
returns-in_err-count c =
    let number : c.in-Ok.count ≡ pos c.size-n.result = search rules in
    passes_err (λ result. Ends (λ table. appended (bytes_of table c.args.path) (bytes_of table c.args.id)) c.args.work.now c.count.new.self result) c.from_residual.result c.from_residual.ensures.1
    (ends_equal (λ table. appended (bytes_of table c.args.path) (bytes_of table c.args.id))
    (λ table interned extends. equal c.size-n.result c.args.path c.args.id c.in-Ok.count c.text_of.result.now c.args.work.now.values table c.text_of.ensures (extends_then c.count.ensures.kept.extends extends) c.size-n.ensures.count number)
    (ends_stop (rest c.args.path c.args.id c.in-Ok.count) _ c.in_err-count.ensures))

pub returns : goal.returns
returns c =
    let number : c.in-Ok.count ≡ pos c.size-n.result = search rules in
    let none = c.count.ensures.kept.made_is ∙ c.requires.fresh in
    let back : to_z w64 (of_z w64 c.in-Ok.count) ≡ c.in-Ok.count = search rules in
    let put_is = subst (λ (i : ℤ). WroteAll (λ table. change (file_at (bytes_of table c.args.path)) (bytes_appended (bytes_of table c.args.id)) (done (int i))) c.count.new.self c.put_behind.new.work c.put_behind.result) back c.put_behind.ensures in
    ends_equal (λ table. appended (bytes_of table c.args.path) (bytes_of table c.args.id))
    (λ table interned extends. equal c.size-n.result c.args.path c.args.id c.in-Ok.count c.text_of.result.now c.args.work.now.values table c.text_of.ensures (extends_then c.count.ensures.kept.extends (extends_then c.put_behind.ensures.kept.extends extends)) c.size-n.ensures.count number)
    (ends_then (rest c.args.path c.args.id c.in-Ok.count) c.in_ok-count.ensures (λ table interned extends. refl)
    (ends_writes (λ table. put c.args.path c.args.id c.in-Ok.count table) none
    (λ table. change (file_at (bytes_of table c.args.path)) (bytes_appended (bytes_of table c.args.id)) (done (int c.in-Ok.count))) (λ table interned extends. refl) put_is))
