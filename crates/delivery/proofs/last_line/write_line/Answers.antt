use Rattle.delivery.proofs.last_line.write_line.Goals as goal

pub returns-clause-tries : goal.returns-clause-tries
returns-clause-tries g c = record {
  outcome = c.write-outcome.result;
  written = c.write-outcome.ensures.written;
  out_faults = c.write-outcome.ensures.cause.counted;
  status_is = c.status_behind.ensures;
}
