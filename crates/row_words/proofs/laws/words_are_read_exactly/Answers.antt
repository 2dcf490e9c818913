use Rattle.row_words.proofs.Numbers.{number_reads, short_reads}
use Rattle.row_words.proofs.Words.{place_reads, text_reads, value_reads, values_reads, made_reads}
use Rattle.row_words.proofs.laws.words_are_read_exactly.Goals as goal

pub returns : goal.returns
returns c = record {
  numbers = number_reads;
  short_numbers = short_reads;
  places = place_reads;
  texts = text_reads;
  values = value_reads;
  lists_of_values = values_reads;
  kinds = made_reads;
}
