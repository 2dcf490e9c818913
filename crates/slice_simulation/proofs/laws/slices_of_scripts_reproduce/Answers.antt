use Rattle.py_grammar.specs.Language.{language_one}
use Rattle.slice_simulation.proofs.PlacedClasses.{placed_outside}
use Rattle.slice_simulation.proofs.laws.slices_of_scripts_reproduce.Goals as goal

pub returns : goal.returns
returns c = λ text script has.
    c.slices_reproduce.ensures script (c.scripts_are_well_formed.ensures text has.lines script has.has_lines has.is_script.script.grammar)
    (placed_outside language_one script (c.trees_are_placed.ensures.told language_one has.lines script has.is_script.script))
