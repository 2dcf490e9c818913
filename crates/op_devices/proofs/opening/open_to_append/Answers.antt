use Rattle.op_devices.specs.Opening.{EndsAt, rest_of}
use Rattle.op_devices.proofs.EndsAt.{reads_then, reads_stop}
use Rattle.op_work.proofs.Going.{passes_err}
use Rattle.std.proofs.Common.{Some}
use Rattle.py_model.specs.Plan.{read_file}
use Rattle.py_value.specs.Seen.{bytes_of}
use Rattle.py_value.specs.declared.access.Mode.TheVariants.{Append as AppendMode}
use Rattle.op_devices.proofs.opening.open_to_append.Goals as goal

pub returns-in_err-read_file : goal.returns-in_err-read_file
returns-in_err-read_file c = passes_err (λ result. EndsAt (Some c.args.path) (λ table. read_file (bytes_of table c.args.path) (rest_of c.args.readable AppendMode (bytes_of table c.args.path))) c.args.work.now c.read_file.new.self result) c.from_residual.result c.from_residual.ensures.1
    (reads_stop c.args.path (λ table. rest_of c.args.readable AppendMode (bytes_of table c.args.path)) c.in_err-read_file.ensures.same c.in_err-read_file.field-0.0 c.in_err-read_file.ensures.unpaid)

pub returns : goal.returns
returns c = reads_then c.args.path (λ table. rest_of c.args.readable AppendMode (bytes_of table c.args.path)) c.in_ok-read_file.ensures.done c.append_rest.ensures
