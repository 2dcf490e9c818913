use Rattle.std.proofs.Common.{◌∙◌, sym, ap, subst, List, ℕ, Option, map}
use Rattle.std.specs.Option.{option_copied}
use Rattle.op_devices.specs.Asking.{Known, answered_by}
use Rattle.op_devices.specs.Opening.{EndsAt, IsOpened, if_fetched, path_in, with_mode, opening_in}
use Rattle.op_devices.proofs.EndsAt.{at_ends, at_same, at_then, at_equal, bytes_kept}
use Rattle.op_devices.proofs.OpenPlans.{open_known, open_texts, known_open, open_mode}
use Rattle.op_work.proofs.Ending.{ends_stop}
use Rattle.op_work.proofs.Going.{passes_err, extends_then}
use Rattle.py_model.specs.Files.{open_plan}
use Rattle.py_model.specs.Plan.{Plan}
use Rattle.py_value.specs.Contents.{contents}
use Rattle.py_value.specs.Seen.{bytes_of}
use Rattle.py_value.specs.Values.{ValuesView}
use Rattle.py_value.specs.declared.access.Mode.{Mode}
use Rattle.op_devices.proofs.opening.open.Goals as goal

abbrev rest : Known → ValuesView → List ℕ × Option Mode → Plan
rest k table found = answered_by k (open_texts found)

pub returns-in_err-path : goal.returns-in_err-path
returns-in_err-path c = λ k known. passes_err (λ result. EndsAt (path_in c.args.work.now.values c.args.operands.now) (λ table. answered_by k (open_plan (map (contents table) c.args.operands.now))) c.args.work.now c.texts.new.work result) c.from_residual.result c.from_residual.ensures.1
    (at_equal (λ table. answered_by k (open_plan (map (contents table) c.args.operands.now))) (λ table interned extends. open_known k (map (contents table) c.args.operands.now))
    (at_ends _ (ends_stop (rest k) _ c.in_err-path.ensures.comes)))

pub returns : goal.returns
returns c = λ k known.
    let old = c.args.work.now.values in
    let path = c.in_ok-path.path in
    let mode = c.in_ok-path.mode in
    let readable = c.readable-readable.result in
    let tested : EndsAt (if_fetched path (bytes_of c.texts.new.work.values path) mode) (λ table. with_mode (bytes_of table path) mode (opening_in readable)) c.texts.new.work c.open_tested.new.work c.open_tested.result = c.open_tested.ensures in
    let extends_on = c.in_ok-path.ensures.comes.kept.extends in
    let stay = bytes_kept old c.texts.new.work.values path c.in_ok-path.ensures.named extends_on in
    let is_open = known_open k old path c.args.opened (option_copied c.args.found) mode (subst (λ (p : Option ℕ). IsOpened k old p c.args.opened (option_copied c.args.found)) c.in_ok-path.ensures.path known) in
    at_equal (λ table. answered_by k (open_plan (map (contents table) c.args.operands.now))) (λ table interned extends. open_known k (map (contents table) c.args.operands.now))
    (at_then (path_in old c.args.operands.now) (rest k) c.in_ok-path.ensures.comes
    (λ table interned extends. ap (λ (bs : List ℕ). answered_by k (with_mode bs mode open_mode)) (bytes_kept old table path c.in_ok-path.ensures.named (extends_then extends_on extends))
    ∙ (is_open ∙ (ap (λ r. with_mode (bytes_of old path) mode (opening_in r)) (sym c.readable-readable.ensures)
    ∙ ap (λ (bs : List ℕ). with_mode bs mode (opening_in readable)) (sym (bytes_kept old table path c.in_ok-path.ensures.named (extends_then extends_on extends))))))
    (at_same (path_in old c.args.operands.now) (c.in_ok-path.ensures.path ∙ ap (λ (bs : List ℕ). if_fetched path bs mode) (sym stay)) tested))
