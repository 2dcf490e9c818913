-- Heads behind heads, as a batch adds them.
use Rattle.std.proofs.Common.{◌≡◌, ℕ, zero, suc, ◌+◌, ◌-◌, ◌==◌, Bool, true, false, cond, List, [], ◌∷◌, ◌++◌, map, length, take, drop, Some, None, option_map, refl, sym, ap, ◌∙◌, arith, append-nil, append_assoc}
use Rattle.std.specs.List.{slice_get}
use Rattle.std.specs.Option.{option_or}
use Rattle.std.proofs.lemmas.Bool.Decides.{nat_tests}
use Rattle.std.proofs.lemmas.List.{take_all, drop_all, length-append, length-map, length_push}
use Rattle.keeper.specs.declared.records.Head.{Head}
use Rattle.keeper.specs.Batch.{with_head, heads_over, last_head}
use Rattle.memory_keeper.specs.Held.{AreNext}
use Rattle.keeper.specs.Tables.{head_at}
use Rattle.memory_keeper.proofs.LastEntries.{last_of-append, option_or_assoc}

abbrev pub heads_of : List (ℕ × Head) → List Head
heads_of entries = map (λ e. e.1) entries

-- the head of the next trial is put behind the others
with_head-next : (heads : List Head) (entry : ℕ × Head) → entry.0 ≡ length heads + 1 → with_head heads entry ≡ heads ++ entry.1 ∷ []
with_head-next heads entry next =
    let front : take (entry.0 - 1) heads ≡ heads = take_all (entry.0 - 1) heads (omega arith) in
    let behind : drop entry.0 heads ≡ [] = drop_all entry.0 heads (omega arith) in
    rw (front, behind) refl

pub heads_over-next : (heads : List Head) (entries : List (ℕ × Head)) → AreNext (length heads) entries → heads_over heads entries ≡ heads ++ heads_of entries
heads_over-next heads [] next = sym (append-nil heads)
heads_over-next heads (entry ∷ later) next =
    ap (λ hs. heads_over hs later) (with_head-next heads entry next.0)
    ∙ heads_over-next (heads ++ entry.1 ∷ []) later (next_behind heads entry later next.1)
    ∙ append_assoc heads (entry.1 ∷ []) (heads_of later)
  where
    next_behind : (hs : List Head) (e : ℕ × Head) (es : List (ℕ × Head)) → AreNext (length hs + 1) es → AreNext (length (hs ++ e.1 ∷ [])) es
    next_behind hs e es are = let count : length (hs ++ e.1 ∷ []) ≡ length hs + 1 = length_push hs e.1 in rw count are

-- so many heads are seen
pub length-heads_over : (heads : List Head) (entries : List (ℕ × Head)) → AreNext (length heads) entries → length (heads_over heads entries) ≡ length heads + length entries
length-heads_over heads entries next =
    ap length (heads_over-next heads entries next) ∙ length-append heads (heads_of entries) ∙ ap (λ n. length heads + n) (length-map entries (λ e. e.1))

-- one more entry
pub AreNext-push : (count : ℕ) (entries : List (ℕ × Head)) (entry : ℕ × Head) → AreNext count entries → entry.0 ≡ count + length entries + 1 → AreNext count (entries ++ entry ∷ [])
AreNext-push count [] entry next is = (omega arith, tt)
AreNext-push count (first ∷ later) entry next is = (next.0, AreNext-push (count + 1) later entry next.1 (omega arith))

-- one more head is that of the next trial
slice_get-push : (heads : List Head) (head : Head) (k : ℕ) → slice_get (heads ++ head ∷ []) k ≡ option_or (cond (length heads == k) (Some head) None) (slice_get heads k)
slice_get-push [] head zero = refl
slice_get-push [] head (suc k) = let t : (0 == suc k) ≡ false = grind (arith, nat_tests) in rw t refl
slice_get-push (first ∷ later) head zero = let t : (suc (length later) == 0) ≡ false = grind (arith, nat_tests) in rw t refl
slice_get-push (first ∷ later) head (suc k) =
    let t : (suc (length later) == suc k) ≡ (length later == k) = grind (arith, nat_tests) in
    rw t (slice_get-push later head k)

head_at-push : (heads : List Head) (head : Head) (number trial : ℕ) → number ≡ length heads + 1 → head_at (heads ++ head ∷ []) trial ≡ option_or (cond (number == trial) (Some head) None) (head_at heads trial)
head_at-push heads head number zero is = let t : (number == 0) ≡ false = grind (arith, nat_tests) in rw t refl
head_at-push heads head number (suc k) is =
    let t : (number == suc k) ≡ (length heads == k) = grind (arith, nat_tests) in
    rw t (slice_get-push heads head k)

-- the last entry with a number, where one stands before the others
last_head-cons : (entry : ℕ × Head) (later : List (ℕ × Head)) (trial : ℕ) → last_head (entry ∷ later) trial ≡ option_or (last_head later trial) (cond (entry.0 == trial) (Some entry.1) None)
last_head-cons entry later trial =
    last_of-append (λ (e : ℕ × Head). e.1) (λ e. e.0 == trial) (entry ∷ []) later
    ∙ ap (option_or (last_head later trial)) (one (entry.0 == trial))
  where
    one : (t : Bool) → option_map (λ (e : ℕ × Head). e.1) (cond t (Some entry) None) ≡ cond t (Some entry.1) None
    one true = refl
    one false = refl

-- A trial's head is the last one that the batch wrote with its number, or else the one that was there.
pub head_at-over : (heads : List Head) (entries : List (ℕ × Head)) (trial : ℕ) → AreNext (length heads) entries → head_at (heads ++ heads_of entries) trial ≡ option_or (last_head entries trial) (head_at heads trial)
head_at-over heads [] trial next = ap (λ hs. head_at hs trial) (append-nil heads)
head_at-over heads (entry ∷ later) trial next =
    ap (λ hs. head_at hs trial) (sym (append_assoc heads (entry.1 ∷ []) (heads_of later)))
    ∙ head_at-over (heads ++ entry.1 ∷ []) later trial (next_behind heads entry later next.1)
    ∙ ap (option_or (last_head later trial)) (head_at-push heads entry.1 entry.0 trial next.0)
    ∙ sym (option_or_assoc (last_head later trial) (cond (entry.0 == trial) (Some entry.1) None) (head_at heads trial))
    ∙ ap (λ o. option_or o (head_at heads trial)) (sym (last_head-cons entry later trial))
  where
    next_behind : (hs : List Head) (e : ℕ × Head) (es : List (ℕ × Head)) → AreNext (length hs + 1) es → AreNext (length (hs ++ e.1 ∷ [])) es
    next_behind hs e es are = let count : length (hs ++ e.1 ∷ []) ≡ length hs + 1 = length_push hs e.1 in rw count are
