use Rattle.std.proofs.Common.{◌≡◌, List, ℕ, Bool, true, false, if◌then◌else◌, Some, None, refl, sym, ap, ◌∙◌}
use Rattle.std.specs.Str.{is_utf8, IsUtf8}
use Rattle.std.proofs.lemmas.Str.{IsUtf8-from_is_utf8, is_utf8-from_IsUtf8}
use Rattle.row_words.proofs.texts.text_of.Goals as goal

-- a text is one, and what is none is none
a_text : (bytes made : List ℕ) → IsUtf8 bytes → bytes ≡ made → (if is_utf8 bytes then Some bytes else None) ≡ Some made
a_text bytes made text same = rw (is_utf8-from_IsUtf8 bytes text) (ap Some same)

no_text : (bytes : List ℕ) → ¬ (IsUtf8 bytes) → (if is_utf8 bytes then Some bytes else None) ≡ None
no_text bytes none =
    let P : Bool → Type 0 = λ b. is_utf8 bytes ≡ b → (if b then Some bytes else None) ≡ None in
    elim (is_utf8 bytes) as P [ true ↦ λ is. absurd (none (IsUtf8-from_is_utf8 bytes is)) | false ↦ λ is. refl ] refl

pub returns-in_ok-made-in-Ok : goal.returns-in_ok-made-in-Ok
returns-in_ok-made-in-Ok c =
    a_text c.args.bytes.now c.of.result c.in-Ok.ensures.cases.1 (sym (c.of.ensures ∙ (c.in_ok-made-in-Ok.ensures.ok ∙ c.in-Ok.ensures.cases.0)))

pub returns-in-Err : goal.returns-in-Err
returns-in-Err c = no_text c.args.bytes.now c.in-Err.ensures.cases.0
