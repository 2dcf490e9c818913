use Rattle.std.proofs.Common.{refl, None}
use Rattle.answer_source.specs.Live.{capture_of}
use Rattle.answer_source.proofs.kept.KeptSource.some_fits.Goals as goal

pub returns : goal.returns
returns c = (
  capture_of c.args.self.now.capture.now (record {
    lines = None;
    written = None;
    files = None;
    times = None;
    words = None;
    line_faults = 0;
    write_faults = 0;
    file_faults = 0;
    source_faults = 0;
    put_faults = 0;
    time_faults = 0;
    word_faults = 0;
  }),
  record { answers = refl; files = refl },
)
