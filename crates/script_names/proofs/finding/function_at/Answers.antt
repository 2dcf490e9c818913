use Rattle.std.proofs.Common.{◌≡◌, ◌==◌, Some, ap, sym, subst, ◌∙◌}
use Rattle.std.specs.Option.{option_map}
use Rattle.py_tree.specs.Erasure.{suite_of}
use Rattle.script_names.specs.Finding.{Def, defs_in, first_def, found_seen}
use Rattle.script_names.proofs.Defs.{numbered_is, one_def, placed_is}
use Rattle.script_names.proofs.finding.function_at.Goals as goal

pub returns-in_default : goal.returns-in_default
returns-in_default c =
    placed_is c.args.place (suite_of c.args.script.now.body)
    ∙ ap (option_map (λ (d : Def). d.function)) (sym c.found_in.ensures ∙ ap (option_map found_seen) c.in_default.is)

pub returns-then-eq : goal.returns-then-eq
returns-then-eq c =
    let suite = suite_of c.args.script.now.body in
    let first = sym c.found_in.ensures ∙ ap (option_map found_seen) c.in-Some.is in
    let second = sym c.found_in-2.ensures ∙ ap (option_map found_seen) c.in-Some-found_in.is in
    let same = one_def c.args.place (defs_in suite) (found_seen c.in-Some.found) (found_seen c.in-Some-found_in.numbered) first second (sym c.eq.ensures ∙ c.if-eq.true) in (
      placed_is c.args.place suite ∙ ap (option_map (λ (d : Def). d.function)) first ∙ ap (λ (d : Def). Some d.function) same,
      numbered_is c.in-Some-found_in.numbered.number suite
          ∙ ap (option_map (λ (d : Def). d.function)) (subst (λ n. first_def (λ number at. number == n) (defs_in suite) ≡ Some (found_seen c.in-Some-found_in.numbered)) (ap (λ (d : Def). d.number) same) second),
    )
