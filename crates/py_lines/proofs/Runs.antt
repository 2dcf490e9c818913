-- Reading on, byte by byte.
use Rattle.std.proofs.Common.{◌≡◌, ℕ, ◌+◌, ◌<◌, List, [], ◌∷◌, ◌++◌, length, take, slice_index, Option, Some, None, option_and_then, refl, sym, ap, ◌∙◌, append_assoc, append-nil, add-one}
use Rattle.std.proofs.Math.Seq.{take-suc}
use Rattle.py_lines.specs.declared.scan.Reader.{Reader}
use Rattle.py_lines.specs.Reading.{after_byte, after_bytes, at_start}

append_next : (front : List ℕ) (x : ℕ) (a b : List ℕ) (o : Option Reader)
    → ((next : Reader) → after_bytes (front ++ x ∷ []) next (a ++ b) ≡ option_and_then (λ then'. after_bytes ((front ++ x ∷ []) ++ a) then' b) (after_bytes (front ++ x ∷ []) next a))
    → option_and_then (λ next. after_bytes (front ++ x ∷ []) next (a ++ b)) o
    ≡ option_and_then (λ next. after_bytes (front ++ x ∷ a) next b) (option_and_then (λ next. after_bytes (front ++ x ∷ []) next a) o)
append_next front x a b None each = refl
append_next front x a b (Some next) each =
    each next ∙ ap (λ (f : List ℕ). option_and_then (λ then'. after_bytes f then' b) (after_bytes (front ++ x ∷ []) next a)) (append_assoc front (x ∷ []) a)

pub after_bytes-append : (front : List ℕ) (reader : Reader) (a b : List ℕ)
    → after_bytes front reader (a ++ b) ≡ option_and_then (λ next. after_bytes (front ++ a) next b) (after_bytes front reader a)
after_bytes-append front reader [] b = ap (λ (f : List ℕ). after_bytes f reader b) (sym (append-nil front))
after_bytes-append front reader (x ∷ a) b =
    append_next front x a b (after_byte front (front ++ x ∷ []) x reader) (λ next. after_bytes-append (front ++ x ∷ []) next a b)

and_then_one : (o : Option Reader) → option_and_then (λ next. Some next) o ≡ o
and_then_one None = refl
and_then_one (Some next) = refl

pub after_bytes-one : (front : List ℕ) (reader : Reader) (byte : ℕ) → after_bytes front reader (byte ∷ []) ≡ after_byte front (front ++ byte ∷ []) byte reader
after_bytes-one front reader byte = and_then_one (after_byte front (front ++ byte ∷ []) byte reader)

pub take_more : (text : List ℕ) (at : ℕ) → at < length text → take (at + 1) text ≡ take at text ++ slice_index text at ∷ []
take_more text at within = rw add-one (take-suc text at 0 within)

-- one byte more behind what was read
pub reads_more : (front : List ℕ) (byte : ℕ) (before : Reader) → after_bytes [] at_start front ≡ Some before
    → after_bytes [] at_start (front ++ byte ∷ []) ≡ after_byte front (front ++ byte ∷ []) byte before
reads_more front byte before reads =
    after_bytes-append [] at_start front (byte ∷ []) ∙ ap (option_and_then (λ next. after_bytes front next (byte ∷ []))) reads ∙ after_bytes-one front before byte

pub read_more : (text : List ℕ) (at : ℕ) (before after : Reader) → at < length text → after_bytes [] at_start (take at text) ≡ Some before
    → after_byte (take at text) (take (at + 1) text) (slice_index text at) before ≡ Some after → after_bytes [] at_start (take (at + 1) text) ≡ Some after
read_more text at before after within reads more =
    let front = take at text in
    let longer : take (at + 1) text ≡ front ++ slice_index text at ∷ [] = take_more text at within in
    ap (after_bytes [] at_start) longer ∙ reads_more front (slice_index text at) before reads
    ∙ ap (λ (l : List ℕ). after_byte front l (slice_index text at) before) (sym longer) ∙ more
