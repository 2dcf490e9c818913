-- Bytes that are searched for an LF in two parts, the second of them last.
use Rattle.std.proofs.Common.{◌≡◌, ◌≢◌, ℕ, ◌+◌, ◌-◌, ◌<◌, ◌≤◌, List, ◌∷◌, ◌++◌, subst, length, take, drop, Some, sym, ◌∙◌, ap, add_assoc, arith}
use Rattle.std.proofs.Math.Seq.{take-add}
use Rattle.std.proofs.lemmas.List.{take-append-drop, take-take, take_all, take_rest, drop-drop, drop-append-le}
use Rattle.std.proofs.lemmas.List.Elements.{All-append, All-take}
use Rattle.prov_real.specs.Lines.{IsLine, IsLineFeed, IsSearched, IsTooLong}

-- what is unread, as the code takes it from a slice of the items
pub unread_is : (slice items : List ℕ) (start : ℕ) → slice ≡ items → take (length slice - start) (drop start slice) ≡ drop start items
unread_is slice items start same = take_rest slice start ∙ ap (drop start) same

-- what is appended stands behind what is unread
pub unread_grown : (items grown piece now : List ℕ) (start : ℕ) → grown ≡ items ++ piece → start ≤ length items → drop start items ≡ now → drop start grown ≡ now ++ piece
unread_grown items grown piece now start is begun unread =
    ap (drop start) is ∙ drop-append-le start items piece begun ∙ ap (λ front. front ++ piece) unread

-- neither part holds one
pub line_in_parts : (bytes : List ℕ) (n : ℕ) → IsLine (take n bytes) → IsLine (drop n bytes) → IsLine bytes
line_in_parts bytes n front back =
    let whole = All-append (λ byte. byte ≢ 10) (take n bytes) (drop n bytes) front back in
    rw (take-append-drop n bytes) at whole

-- a line that is too long, whatever stands behind it
pub too_long : (longest n : ℕ) (bytes before : List ℕ) → bytes ≡ before → IsLine (take n bytes) → longest < n → n ≤ length bytes → IsTooLong longest before
too_long longest n bytes before is line long within = subst (IsTooLong longest) is (record {
  more = omega (arith, long, within);
  line = subst IsLine (take-take (longest + 1) n bytes (omega (arith, long))) (All-take (λ byte. byte ≢ 10) (longest + 1) (take n bytes) line);
})

-- then all that is unread was searched
pub searched_to_end : (items : List ℕ) (start : ℕ) → start ≤ length items → IsLine (drop start items) → IsSearched items start (length (drop start items))
searched_to_end items start begun whole = record {
  begun = begun;
  within = omega arith;
  line = rw (take_all (length (drop start items)) (drop start items) (omega arith)) whole;
}

-- the first in the second part ends a line, and behind it stands what is left
pub line_taken : (bytes : List ℕ) (n at : ℕ) → IsLine (take n bytes) → IsLineFeed (drop n bytes) (Some at) → IsLine (take (n + at) bytes) × (bytes ≡ take (n + at) bytes ++ 10 ∷ drop (n + at + 1) bytes)
line_taken bytes n at front found =
    let line : IsLine (take (n + at) bytes) = rw (take-add n at bytes) (All-append (λ byte. byte ≢ 10) (take n bytes) (take at (drop n bytes)) front found.1) in
    let behind : drop (n + at) bytes ≡ 10 ∷ drop (n + at + 1) bytes =
    sym (drop-drop at n bytes) ∙ found.2 ∙ ap (λ rest. 10 ∷ rest) (drop-drop (at + 1) n bytes ∙ ap (λ k. drop k bytes) (sym (add_assoc n at 1))) in
    (line, sym (take-append-drop (n + at) bytes) ∙ ap (λ rest. take (n + at) bytes ++ rest) behind)
