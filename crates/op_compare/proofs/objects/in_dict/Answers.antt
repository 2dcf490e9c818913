use Rattle.std.proofs.Common.{sym, ap, ◌∙◌, is_some, Bool}
use Rattle.py_model.specs.Keys.{with_key_of}
use Rattle.py_model.specs.Plan.{Plan, read_entry}
use Rattle.py_value.specs.Contents.{contents}
use Rattle.op_work.specs.Work.{Comes, is_any, as_is}
use Rattle.op_work.proofs.Going.{comes_stop, comes_as, passes_err}
use Rattle.op_compare.proofs.SoughtIn.{entry_there}
use Rattle.op_compare.proofs.objects.in_dict.Goals as goal

pub returns-in_err-key : goal.returns-in_err-key
returns-in_err-key c = passes_err (λ result. Comes is_any as_is (λ table (go : Bool → Plan). with_key_of (contents table c.args.v) (λ key. read_entry c.args.o key (λ entry. go (is_some entry)))) c.args.work.now c.entry_at.new.work result)
    c.from_residual.result c.from_residual.ensures.1 (comes_stop (λ table x go. go (is_some x.1)) c.in_err-key.ensures)

pub returns : goal.returns
returns c = comes_as (λ table x go. go (is_some x.1)) _ c.in_ok-key.ensures tt
    (λ table interned extends go. ap go (entry_there table c.in_ok-key.entry ∙ sym c.is_some.ensures))
