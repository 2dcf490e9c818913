use Rattle.std.proofs.Common.{◌≡◌, ◌++◌, drop, map}
use Rattle.slice_things.specs.Forms.{form_in}
use Rattle.slice_things.proofs.forms.Forms.forms_of.Given as goal

abbrev pub invariant-loop-item : goal.invariant-loop-item
invariant-loop-item l = l.forms.items ++ map (form_in l.self.numbers.items) (drop l.item-index l.items) ≡ map (form_in l.self.numbers.items) l.items
