use Rattle.std.proofs.Common.{◌≡◌, ℕ, ◌+◌, ◌/◌, ◌%◌, ◌<◌, ◌≤◌, List, [], ◌∷◌, ◌++◌, sym, ap, ◌∙◌, append_assoc, arith}
use Rattle.row_words.specs.Bytes.{number_bytes}
use Rattle.row_words.proofs.Numbers.{small_number, large_number}
use Rattle.row_words.proofs.writing.write_number.Goals as goal

next_byte : (out longer whole : List ℕ) (rest b : ℕ) → 128 ≤ rest → b ≡ 128 + rest % 128 → longer ≡ out ++ b ∷ [] → out ++ number_bytes rest ≡ whole
    → longer ++ number_bytes (rest / 128) ≡ whole
next_byte out longer whole rest b large byte is so_far =
    rw (is, byte) (append_assoc out ((128 + rest % 128) ∷ []) (number_bytes (rest / 128)) ∙ (ap (λ (l : List ℕ). out ++ l) (sym (large_number rest large)) ∙ so_far))

last_byte : (out longer whole : List ℕ) (rest b : ℕ) → rest < 128 → b ≡ rest → longer ≡ out ++ b ∷ [] → out ++ number_bytes rest ≡ whole → longer ≡ whole
last_byte out longer whole rest b small byte is so_far =
    rw (is, byte) (ap (λ (l : List ℕ). out ++ l) (sym (small_number rest small)) ∙ so_far)

pub loop-rest-preserved : goal.loop-rest-preserved
loop-rest-preserved c =
    next_byte c.loop-rest.out.items c.push.new.self.items _ c.loop-rest.rest _ c.loop-rest-test.true (omega arith) c.in_ok-push.ensures.items c.loop-rest.invariant

pub returns : goal.returns
returns c =
    last_byte c.loop-rest.out.items c.push-2.new.self.items _ c.loop-rest.rest _ c.loop-rest-test.false (omega arith) c.in_ok-push-2.ensures.items c.loop-rest.invariant
