-- The closing line, and what stands on the console by it.
use Rattle.std.proofs.Common.{◌≡◌, ℕ, [], true, false, Option, Ok, Err, refl, sym, ◌∙◌, append-nil}
use Rattle.prov_outside.specs.Console.{ConsoleView, Writes}
use Rattle.prov_outside.specs.declared.trouble.Trouble.TheVariants.{Failed, Memory}
use Rattle.delivery.specs.Ending.{Ending, out_of_memory, status_of, closing_line}
use Rattle.delivery.specs.PutsAll.{Outcome}
use Rattle.delivery.specs.Shown.{no_line, line_tried, line_unmade, has_line, is_made, after_tried}
use Rattle.delivery.specs.Stages.{TriesLine, ClosesWith, status_with}
use Rattle.delivery.proofs.Putting.{tells_same}

status_tried : (ending : Ending) (outcome : Outcome) (status : ℕ) → status ≡ status_of ending → status_with status outcome ≡ status_of (after_tried outcome ending)
status_tried ending (Ok all) status is = is
status_tried ending (Err Failed) status is = is
status_tried ending (Err Memory) status is = refl

status_short : (outcome : Outcome) → status_with 8 outcome ≡ 8
status_short (Ok all) = refl
status_short (Err Failed) = refl
status_short (Err Memory) = refl

pub closed : (ending : Ending) (status out_before out_after : ℕ) (before after : Option ConsoleView) (answer : ℕ) → has_line ending ≡ true → status ≡ status_of ending
    → TriesLine (closing_line ending) status out_before out_after before after answer → ClosesWith ending out_before out_after before after answer
closed ending status out_before out_after before after answer has is tried = record {
  closing = line_tried tried.outcome;
  closes = has;
  written = tried.written;
  out_faults = tried.out_faults;
  status_is = tried.status_is ∙ status_tried ending tried.outcome status is;
}

pub closed_unmade : (ending : Ending) (out_before out_after : ℕ) (before after : Option ConsoleView) (answer : ℕ) → is_made ending ≡ true
    → TriesLine (closing_line out_of_memory) 8 out_before out_after before after answer → ClosesWith ending out_before out_after before after answer
closed_unmade ending out_before out_after before after answer made tried = record {
  closing = line_unmade tried.outcome;
  closes = made;
  written = tried.written;
  out_faults = tried.out_faults;
  status_is = tried.status_is ∙ status_short tried.outcome;
}

pub not_closed : (ending : Ending) (count : ℕ) (told : Option ConsoleView) (answer : ℕ) → has_line ending ≡ false → answer ≡ status_of ending → ClosesWith ending count count told told answer
not_closed ending count told answer none is = record {
  closing = no_line;
  closes = none;
  written = tells_same told (Writes {T = Unit {0}} [] (Ok tt)) (λ a. (refl, sym (append-nil a.written)));
  out_faults = refl;
  status_is = is;
}
