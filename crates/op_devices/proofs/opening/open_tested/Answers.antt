use Rattle.std.proofs.Common.{◌∙◌, sym, ap, Some, None, if◌then◌else◌}
use Rattle.prov_base.specs.Path.{is_path}
use Rattle.op_devices.specs.Opening.{EndsAt, if_fetched, is_fetched, with_mode, opening_in, bad_path}
use Rattle.op_devices.proofs.EndsAt.{at_ends, at_same, at_equal}
use Rattle.op_texts.proofs.Taken.{bytes_stay}
use Rattle.op_work.proofs.Ending.{ends_fault}
use Rattle.op_work.proofs.Going.{extends_then, extends_same}
use Rattle.py_value.specs.Seen.{bytes_of}
use Rattle.op_devices.proofs.opening.open_tested.Goals as goal

pub returns-in_default : goal.returns-in_default
returns-in_default c =
    at_ends _ (ends_fault (λ table. with_mode (bytes_of table c.args.path) c.args.mode (opening_in c.args.readable)) 10 _ c.fault.result c.fault.ensures
    (λ table interned extends. ap (λ m. with_mode (bytes_of table c.args.path) m (opening_in c.args.readable)) c.in_default.is))

pub returns-then-not-is_path : goal.returns-then-not-is_path
returns-then-not-is_path c =
    at_ends _ (ends_fault (λ table. with_mode (bytes_of table c.args.path) c.args.mode (opening_in c.args.readable)) 15 _ c.fault-then-not-is_path.result c.fault-then-not-is_path.ensures
    (λ table interned extends. ap (λ m. with_mode (bytes_of table c.args.path) m (opening_in c.args.readable)) c.in-Some.is
    ∙ ap (λ b. if b then opening_in c.args.readable (bytes_of table c.args.path, c.in-Some.mode) else bad_path)
    (ap is_path (bytes_stay c.args.work.now.values table c.args.path c.text_of.result.now c.text_of.ensures (extends_then c.fault-then-not-is_path.ensures.kept.extends extends)) ∙ (sym c.is_path.ensures ∙ c.if-not-is_path.true))))

pub returns : goal.returns
returns c =
    let opened : EndsAt (if is_fetched c.in-Some.mode then Some c.args.path else None) (λ table. opening_in c.args.readable (bytes_of table c.args.path, c.in-Some.mode)) c.args.work.now c.open_in.new.work c.open_in.result = c.open_in.ensures in
    let yes = sym c.is_path.ensures ∙ c.if-not-is_path.false in
    at_same (if_fetched c.args.path (bytes_of c.args.work.now.values c.args.path) c.args.mode)
    (ap (λ m. if_fetched c.args.path (bytes_of c.args.work.now.values c.args.path) m) c.in-Some.is
    ∙ ap (λ b. if b then (if is_fetched c.in-Some.mode then Some c.args.path else None) else None)
    (ap is_path (bytes_stay c.args.work.now.values c.args.work.now.values c.args.path c.text_of.result.now c.text_of.ensures (extends_same c.args.work.now.values)) ∙ yes))
    (at_equal (λ table. with_mode (bytes_of table c.args.path) c.args.mode (opening_in c.args.readable))
    (λ table interned extends. ap (λ m. with_mode (bytes_of table c.args.path) m (opening_in c.args.readable)) c.in-Some.is
    ∙ ap (λ b. if b then opening_in c.args.readable (bytes_of table c.args.path, c.in-Some.mode) else bad_path)
    (ap is_path (bytes_stay c.args.work.now.values table c.args.path c.text_of.result.now c.text_of.ensures (extends_then c.open_in.ensures.extends extends)) ∙ yes))
    opened)
