use Rattle.std.proofs.Common.{sym, ap, subst}
use Rattle.py_value.specs.Seen.{location_seen, content_seen, change_seen, access_seen}
use Rattle.py_value.specs.declared.access.Access.TheVariants.{Set, Update}
use Rattle.recorder.specs.Parts.{NumbersAccess}
use Rattle.py_value.specs.Named.{IsNamedAccess}
use Rattle.recorder.proofs.InRange.{fits_stays, change_fits_stays}
use Rattle.recorder.proofs.Naming.{same_extends}
use Rattle.recorder.proofs.Joining.{set_numbers, update_numbers}
use Rattle.recorder.proofs.naming_accesses.name_access.Goals as goal

pub returns-in_ok-content-in-Set-clause-numbers : goal.returns-in_ok-content-in-Set-clause-numbers
returns-in_ok-content-in-Set-clause-numbers c =
    let view = c.args.values.now in
    subst (λ b. NumbersAccess b c.args.namer.now c.name_content.new.namer (Set c.in_ok-l-in-Set.l c.in_ok-content-in-Set.content)) (sym (ap (access_seen view) c.in-Set.is))
    (set_numbers (location_seen view c.in-Set.l) (content_seen view c.in-Set.content) c.args.namer.now c.name_location-in-Set.new.namer c.name_content.new.namer c.in_ok-l-in-Set.l c.in_ok-content-in-Set.content
    c.in_ok-l-in-Set.ensures.numbers c.in_ok-content-in-Set.ensures.numbers)

pub returns-in_ok-change-in-Update-clause-numbers : goal.returns-in_ok-change-in-Update-clause-numbers
returns-in_ok-change-in-Update-clause-numbers c =
    let view = c.args.values.now in
    subst (λ b. NumbersAccess b c.args.namer.now c.name_change.new.namer (Update c.in_ok-l-in-Update.l c.in_ok-change-in-Update.change)) (sym (ap (access_seen view) c.in-Update.is))
    (update_numbers (location_seen view c.in-Update.l) (change_seen view c.in-Update.change) c.args.namer.now c.name_location-in-Update.new.namer c.name_change.new.namer c.in_ok-l-in-Update.l c.in_ok-change-in-Update.change
    c.in_ok-l-in-Update.ensures.numbers c.in_ok-change-in-Update.ensures.numbers)

pub returns-in_ok-content-in-Set-clause-fits : goal.returns-in_ok-content-in-Set-clause-fits
returns-in_ok-content-in-Set-clause-fits c =
    let view = c.args.values.now in
    let now = c.name_content.new.namer.view in
    let place = c.in_ok-l-in-Set.ensures.numbers in
    let content = c.in_ok-content-in-Set.ensures.numbers in (
      c.in_ok-l-in-Set.ensures.fits,
      (
        fits_stays view now c.in-Set.l c.in_ok-l-in-Set.l c.in-Set.content c.in_ok-content-in-Set.content (place.reads now content.extends)
            (content.reads now (same_extends now content.extends.interned)) (subst (IsNamedAccess view) c.in-Set.is c.requires.named).0,
        c.in_ok-content-in-Set.ensures.fits,
      ),
    )

pub returns-in_ok-change-in-Update-clause-fits : goal.returns-in_ok-change-in-Update-clause-fits
returns-in_ok-change-in-Update-clause-fits c =
    let view = c.args.values.now in
    let now = c.name_change.new.namer.view in
    let place = c.in_ok-l-in-Update.ensures.numbers in
    let change = c.in_ok-change-in-Update.ensures.numbers in (
      c.in_ok-l-in-Update.ensures.fits,
      (
        change_fits_stays view now c.in-Update.l c.in_ok-l-in-Update.l c.in-Update.change c.in_ok-change-in-Update.change (place.reads now change.extends)
            (change.reads now (same_extends now change.extends.interned)) (subst (IsNamedAccess view) c.in-Update.is c.requires.named).0,
        c.in_ok-change-in-Update.ensures.fits,
      ),
    )
