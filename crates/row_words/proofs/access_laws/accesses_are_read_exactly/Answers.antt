use Rattle.row_words.proofs.Accesses.{location_reads, access_reads, accesses_reads}
use Rattle.row_words.proofs.access_laws.accesses_are_read_exactly.Goals as goal

pub returns : goal.returns
returns c = record { locations = location_reads; accesses = access_reads; lists = accesses_reads }
