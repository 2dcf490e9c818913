-- The parts of a delivery, joined.
use Rattle.std.proofs.Common.{◌≡◌, ℕ, List, [], ◌++◌, take, Option, Ok, Err, IsOk, refl, ap, ◌∙◌, subst}
use Rattle.prov_outside.specs.Console.{ConsoleView, Writes}
use Rattle.prov_outside.specs.Count.{faults_after}
use Rattle.prov_outside.specs.Folder.{Files}
use Rattle.prov_outside.specs.Tells.{Tells}
use Rattle.delivery.specs.Ending.{Ending}
use Rattle.delivery.specs.PutsAll.{OutFile, Outcome}
use Rattle.delivery.specs.Shown.{Leaves, Shown, after_text, line_of, outcome_of}
use Rattle.delivery.specs.Stages.{PutsFiles, ClosesWith}
use Rattle.delivery.specs.Delivered.{Delivered, ending_to_close}
use Rattle.delivery.proofs.Putting.{tells_then}

-- what one write leaves
record Piece (bytes : List ℕ) (outcome : Outcome) (before after : ConsoleView) : Type 0 where
  shown : List ℕ
  lines : after.lines ≡ before.lines
  written : after.written ≡ before.written ++ shown
  shown_is : Leaves bytes outcome shown

piece : (bytes : List ℕ) (outcome : Outcome) (before after : ConsoleView) → Writes bytes outcome before after → Piece bytes outcome before after
piece bytes (Ok all) before after w = record { shown = bytes; lines = w.0; written = w.1; shown_is = refl }
piece bytes (Err trouble) before after w = record { shown = take w.1.0 bytes; lines = w.0; written = w.1.1; shown_is = (w.1.0, refl) }

joined : (text line : List ℕ) (o p : Outcome) (a b c : ConsoleView) → Piece text o a b → Piece line p b c → Shown text o line p a c
joined text line o p a b c first second = record {
  shown = first.shown;
  closing = second.shown;
  lines = second.lines ∙ first.lines;
  written = second.written ∙ ap (λ (front : List ℕ). front ++ second.shown) first.written;
  shown_is = first.shown_is;
  closing_is = second.shown_is;
}

pub delivered : (planned ending : Ending) (text : List ℕ) (files : List OutFile) (put_before put_after : ℕ) (told_before told_after : Option Files)
    (out_before out_mid out_after : ℕ) (console_before console_mid console_after : Option ConsoleView) (outcome : Outcome) (status : ℕ)
    → PutsFiles planned files put_before put_after told_before told_after ending
    → (text ≡ [] → IsOk outcome) → Tells console_before console_mid (Writes text outcome) → out_mid ≡ faults_after outcome out_before
    → ClosesWith (after_text outcome ending) out_mid out_after console_mid console_after status
    → Delivered planned text files put_before put_after told_before told_after out_before out_after console_before console_after status
delivered planned ending text files put_before put_after told_before told_after out_before out_mid out_after console_before console_mid console_after outcome status puts no_text written counted closes =
    let by : ClosesWith (ending_to_close planned files puts.puts outcome) out_mid out_after console_mid console_after status =
    subst (λ (e : Ending). ClosesWith (after_text outcome e) out_mid out_after console_mid console_after status) puts.ending_is closes in
    record {
      puts = puts.puts;
      text_outcome = outcome;
      closing = by.closing;
      each = puts.each;
      no_text = no_text;
      closes = by.closes;
      folder = puts.folder;
      put_faults = puts.put_faults;
      console = tells_then console_before console_mid console_after (Writes text outcome) (Writes (line_of (ending_to_close planned files puts.puts outcome) by.closing) (outcome_of by.closing))
          (Shown text outcome (line_of (ending_to_close planned files puts.puts outcome) by.closing) (outcome_of by.closing))
          (λ a b c w v. joined text (line_of (ending_to_close planned files puts.puts outcome) by.closing) outcome (outcome_of by.closing) a b c
          (piece text outcome a b w) (piece (line_of (ending_to_close planned files puts.puts outcome) by.closing) (outcome_of by.closing) b c v))
          written by.written;
      out_faults = by.out_faults ∙ ap (λ (n : ℕ). faults_after (outcome_of by.closing) n) counted;
      status_is = by.status_is;
    }
