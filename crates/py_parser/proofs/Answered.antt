-- What is answered of a text, from what was answered of its lines and of their script.
use Rattle.std.proofs.Common.{◌≡◌, ◌≤◌, ◌<◌, ◌⊎◌, ◌↔◌, ⊎_elim, ℕ, Bool, true, false, List, length, Some, Ok, Err, Result, refl, sym, ap, ◌∙◌, subst}
use Rattle.std.specs.Str.{IsUtf8, is_utf8}
use Rattle.std.specs.Str.Lossy.{utf8_valid_len}
use Rattle.std.proofs.lemmas.Bool.{cases_lt, false≢true}
use Rattle.std.proofs.lemmas.Str.{IsUtf8-from_is_utf8, is_utf8-from_IsUtf8}
use Rattle.prov_base.specs.declared.place.Pos.{Pos}
use Rattle.py_lines.specs.declared.parts.Line.{Line}
use Rattle.py_lines.specs.declared.fault.LineFault.{LineFault}
use Rattle.py_lines.specs.declared.fault.LineFault.TheVariants.{NotUtf8, BadToken, OpenBracket, TooLarge, Memory as NoMemoryForLines}
use Rattle.py_lines.specs.Faults.{IsBadTokenPlace, IsLeftOpenPlace}
use Rattle.py_lines.specs.Logical.{HasLines, IsNotUtf8}
use Rattle.py_lines.specs.Place.{place}
use Rattle.py_parser.specs.declared.fault.ParseFault.{ParseFault}
use Rattle.py_parser.specs.declared.fault.ParseFault.TheVariants.{Unexpected, Unsupported, BadIndent, TooDeep, TooMany, Memory as NoMemoryForScript}
use Rattle.py_parser.specs.Faults.{IsFault, origin}
use Rattle.py_parser.specs.Script.{IsScript}
use Rattle.py_tree.specs.declared.stmt.Script.{Script}
use Rattle.py_tree.specs.Tree.{ScriptTree}
use Rattle.py_parser.specs.declared.refusal.Refusal.{Refusal}
use Rattle.py_parser.specs.declared.refusal.Refusal.TheVariants.{At, Memory}
use Rattle.py_parser.specs.Reading.{HasScript, IsText, IsRefusedAt, too_large, not_utf8, bad_token, left_open, no_script, place_of, line_place, refusal_at}

abbrev Answer : Type 0
Answer = Result (List Line) LineFault

-- what is known of the answer of `lines`
pub record Told (text : List ℕ) (answer : Answer) : Type 0 where
  pub large : (answer ≡ Err TooLarge) ↔ (262144 < length text)
  pub ill : (at : Pos) → (answer ≡ Err (NotUtf8 at)) ↔ IsNotUtf8 text at
  pub whole : (found : List Line) → HasLines text found → length text ≤ 262144 → (answer ≡ Ok found) ⊎ (answer ≡ Err NoMemoryForLines)
  pub bad : (at : Pos) → answer ≡ Err (BadToken at) → IsBadTokenPlace text at
  pub opened : (at : Pos) → answer ≡ Err (OpenBracket at) → IsLeftOpenPlace text at

-- a text is short where the answer does not say that it is too large
is_short : (text : List ℕ) (answer : Answer) → Told text answer → (answer ≡ Err TooLarge → ⊥) → length text ≤ 262144
is_short text answer told other =
    ⊎_elim (λ more. absurd (other (told.large.1 more))) (λ short. short) (cases_lt 262144 (length text))

-- and it is UTF-8 where the answer does not say that it is not
is_well_formed : (text : List ℕ) (answer : Answer) → Told text answer → length text ≤ 262144 → ((at : Pos) → answer ≡ Err (NotUtf8 at) → ⊥) → IsUtf8 text
is_well_formed text answer told short other = by_test (is_utf8 text) refl
  where
    by_test : (b : Bool) → is_utf8 text ≡ b → IsUtf8 text
    by_test true is = IsUtf8-from_is_utf8 text is
    by_test false is =
        absurd (other (place text (utf8_valid_len text))
        ((told.ill (place text (utf8_valid_len text))).1
        (record { within = short; ill_formed = λ utf8. false≢true (sym is ∙ is_utf8-from_IsUtf8 text utf8); at_is = refl })))

may_be_read : (text : List ℕ) (answer : Answer) → Told text answer → (answer ≡ Err TooLarge → ⊥) → ((at : Pos) → answer ≡ Err (NotUtf8 at) → ⊥) → IsText text
may_be_read text answer told not_large not_ill =
    let short = is_short text answer told not_large in
    record { short = short; utf8 = is_well_formed text answer told short not_ill }

-- the same of what the call answers, which has a script in place of lines
pub refusal_same : (a : Refusal) (at : Pos) → ◌≡◌ {A = Result Script Refusal} (Err a) (Err (At at)) → a ≡ At at
refusal_same a at same = cc

-- ---- a text that has no lines

at_same : (a b : Pos) → refusal_at (Some a) ≡ At b → a ≡ b
at_same a b same = cc

no_lines_at : (text : List ℕ) (fault : LineFault) (answer : Answer) → answer ≡ Err fault → Told text answer → (at : Pos) → refusal_at (line_place fault) ≡ At at → IsRefusedAt text at
no_lines_at text (NotUtf8 from) answer is told at same = not_utf8 (subst (λ (p : Pos). IsNotUtf8 text p) (at_same from at same) ((told.ill from).0 is))
no_lines_at text (BadToken from) answer is told at same =
    bad_token (may_be_read text answer told (λ other. cc) (λ p other. cc)) (subst (λ (p : Pos). IsBadTokenPlace text p) (at_same from at same) (told.bad from is))
no_lines_at text (OpenBracket from) answer is told at same =
    left_open (may_be_read text answer told (λ other. cc) (λ p other. cc)) (subst (λ (p : Pos). IsLeftOpenPlace text p) (at_same from at same) (told.opened from is))
no_lines_at text TooLarge answer is told at same = too_large (told.large.0 is) (sym (at_same _ at same))
no_lines_at text NoMemoryForLines answer is told at same = absurd cc

pub refused_text : (text : List ℕ) (fault : LineFault) (refusal : Refusal) → Told text (Err fault) → refusal ≡ refusal_at (line_place fault) → (at : Pos)
    → refusal ≡ At at → IsRefusedAt text at
refused_text text fault refusal told refusal_is at same = no_lines_at text fault (Err fault) refl told at (sym refusal_is ∙ same)

fault_same : (fault seen : LineFault) → ◌≡◌ {A = Answer} (Err fault) (Err seen) → fault ≡ seen
fault_same fault seen same = cc

-- a text with a script is refused for lack of memory alone
pub only_memory : (text : List ℕ) (fault : LineFault) (refusal : Refusal) → Told text (Err fault) → refusal ≡ refusal_at (line_place fault) → (tree : ScriptTree) → HasScript text tree → refusal ≡ Memory
only_memory text fault refusal told refusal_is tree script =
    ⊎_elim (λ found. absurd (no_fault script.lines found)) (λ memory. refusal_is ∙ ap (λ (f : LineFault). refusal_at (line_place f)) (fault_is memory))
    (told.whole script.lines script.has_lines script.short)
  where
    no_fault : (lines : List Line) → ◌≡◌ {A = Answer} (Err fault) (Ok lines) → ⊥
    no_fault lines same = cc

    fault_is : ◌≡◌ {A = Answer} (Err fault) (Err NoMemoryForLines) → fault ≡ NoMemoryForLines
    fault_is same = cc

-- what is seen before any line is read
pub large_text : (text : List ℕ) (fault : LineFault) (refusal : Refusal) → Told text (Err fault) → refusal ≡ refusal_at (line_place fault) → 262144 < length text → refusal ≡ At origin
large_text text fault refusal told refusal_is more = refusal_is ∙ ap (λ (f : LineFault). refusal_at (line_place f)) (fault_same fault TooLarge (told.large.1 more))

pub ill_text : (text : List ℕ) (fault : LineFault) (refusal : Refusal) → Told text (Err fault) → refusal ≡ refusal_at (line_place fault) → (at : Pos) → IsNotUtf8 text at → refusal ≡ At at
ill_text text fault refusal told refusal_is at is = refusal_is ∙ ap (λ (f : LineFault). refusal_at (line_place f)) (fault_same fault (NotUtf8 at) ((told.ill at).1 is))

-- ---- a text that has lines

not_large : (lines : List Line) → ◌≡◌ {A = Answer} (Ok lines) (Err TooLarge) → ⊥
not_large lines same = cc

-- it is none of those that are refused before any line is read
pub never_large : (text : List ℕ) (lines : List Line) → Told text (Ok lines) → 262144 < length text → ⊥
never_large text lines told more = not_large lines (told.large.1 more)

pub never_ill : (text : List ℕ) (lines : List Line) → Told text (Ok lines) → (at : Pos) → IsNotUtf8 text at → ⊥
never_ill text lines told at is = not_ill ((told.ill at).1 is)
  where
    not_ill : ◌≡◌ {A = Answer} (Ok lines) (Err (NotUtf8 at)) → ⊥
    not_ill same = cc

no_script_at : (text : List ℕ) (lines : List Line) (fault : ParseFault) → length text ≤ 262144 → HasLines text lines → IsFault lines fault → (at : Pos) → refusal_at (place_of fault) ≡ At at → IsRefusedAt text at
no_script_at text lines (Unexpected from) short has first at same = no_script short lines has (Unexpected from) first (ap (λ (p : Pos). Some p) (at_same from at same))
no_script_at text lines (Unsupported from) short has first at same = no_script short lines has (Unsupported from) first (ap (λ (p : Pos). Some p) (at_same from at same))
no_script_at text lines (BadIndent from) short has first at same = no_script short lines has (BadIndent from) first (ap (λ (p : Pos). Some p) (at_same from at same))
no_script_at text lines (TooDeep from) short has first at same = no_script short lines has (TooDeep from) first (ap (λ (p : Pos). Some p) (at_same from at same))
no_script_at text lines (TooMany from) short has first at same = no_script short lines has (TooMany from) first (ap (λ (p : Pos). Some p) (at_same from at same))
no_script_at text lines NoMemoryForScript short has first at same = absurd cc

pub refused_lines : (text : List ℕ) (lines : List Line) (fault : ParseFault) (refusal : Refusal) → Told text (Ok lines) → HasLines text lines → IsFault lines fault → refusal ≡ refusal_at (place_of fault)
    → (at : Pos) → refusal ≡ At at → IsRefusedAt text at
refused_lines text lines fault refusal told has first refusal_is at same =
    no_script_at text lines fault (is_short text (Ok lines) told (not_large lines)) has first at (sym refusal_is ∙ same)

pub only_memory_there : (text : List ℕ) (lines : List Line) (fault : ParseFault) (refusal : Refusal) → Told text (Ok lines)
    → ((tree : ScriptTree) → IsScript lines tree → fault ≡ NoMemoryForScript) → refusal ≡ refusal_at (place_of fault) → (tree : ScriptTree) → HasScript text tree → refusal ≡ Memory
only_memory_there text lines fault refusal told complete refusal_is tree script =
    ⊎_elim
    (λ found. refusal_is ∙ ap (λ (f : ParseFault). refusal_at (place_of f)) (complete tree (subst (λ (ls : List Line). IsScript ls tree) (same_lines found) script.is_script)))
    (λ memory. absurd (no_lines memory))
    (told.whole script.lines script.has_lines script.short)
  where
    same_lines : ◌≡◌ {A = Answer} (Ok lines) (Ok script.lines) → script.lines ≡ lines
    same_lines same = cc

    no_lines : ◌≡◌ {A = Answer} (Ok lines) (Err NoMemoryForLines) → ⊥
    no_lines same = cc
