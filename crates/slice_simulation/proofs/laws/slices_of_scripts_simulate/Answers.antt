use Rattle.py_grammar.specs.Language.{language_one}
use Rattle.slice_simulation.proofs.PlacedClasses.{placed_outside}
use Rattle.slice_simulation.proofs.laws.slices_of_scripts_simulate.Goals as goal

pub returns : goal.returns
returns c = λ text script has capture path arguments steps budget keep upto after told closed within.
    c.slices_simulate.ensures script capture path arguments steps budget keep upto after (c.scripts_are_well_formed.ensures text has.lines script has.has_lines has.is_script.script.grammar)
    (placed_outside language_one script (c.trees_are_placed.ensures.told language_one has.lines script has.is_script.script)) told closed within
