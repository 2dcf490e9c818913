use Rattle.row_words.proofs.reading_numbers.+number_within.Given as goal

-- each call has one byte less to read
abbrev pub decreases-number_within : goal.decreases-number_within
decreases-number_within l = l.more
