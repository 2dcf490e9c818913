use Rattle.std.proofs.Common.{◌≡◌, ◌≤◌, drop}
use Rattle.now_words.specs.Numbers.{number_after, number_of}
use Rattle.now_words.proofs.number.value_of.Given as goal

abbrev pub invariant-loop-digit : goal.invariant-loop-digit
invariant-loop-digit l = (number_after l.n (drop l.digit-index l.digits) ≡ number_of l.digits) × (l.n ≤ l.most)
