use Rattle.std.proofs.Common.{◌∙◌, ◌==◌, ◌∷◌, [], ap, ℕ, List, HashMap, if◌then◌else◌}
use Rattle.py_value.specs.declared.value.Value.{Value}
use Rattle.slicer.specs.Groups.{group_in}
use Rattle.slicer.proofs.GroupLaws.{on_ok, written_there, written_alone}
use Rattle.slicer.proofs.groups.put.Goals as goal

pub returns-in-Some : goal.returns-in-Some
returns-in-Some c = on_ok c.add.result c.add.ensures (λ is.
    written_there c.args.groups.now (c.get_mut.follows.lender c.add.new.self) c.args.o c.args.v c.in-Some.group.now c.add.new.self c.in-Some.ensures.value (c.get_mut.follows.holds c.add.new.self) is)

pub returns-in-None : goal.returns-in-None
returns-in-None c = on_ok c.put_first.result c.put_first.ensures (λ is.
    written_alone c.args.groups.now c.put_first.new.groups c.args.o c.args.v c.in-None.ensures.value
    (λ p. is p ∙ ap (λ (m : HashMap ℕ (List Value) _). if c.args.o == p then c.args.v ∷ [] else group_in m.entries p) c.get_mut.follows.holds-at-none))
