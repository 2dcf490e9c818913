use Rattle.std.proofs.Common.{rules, ◌≡◌, ◌∙◌, sym, ap, ℤ, w64, to_z, of_z}
use Rattle.py_model.specs.Places.{place_in}
use Rattle.py_model.specs.Lists.{with_place}
use Rattle.op_work.proofs.Going.{fault_comes}
use Rattle.op_lists.proofs.Indexes.{place_is, or_bad}
use Rattle.op_lists.proofs.places.place.Goals as goal

pub returns-in-None : goal.returns-in-None
returns-in-None c =
    let back : to_z w64 (of_z w64 c.args.i) ≡ c.args.i = search rules in
    fault_comes (λ table. with_place c.args.i c.args.n) 5 _ c.fault.result c.fault.ensures
    (λ table interned extends go. place_is c.args.i c.args.n go ∙ ap (λ p. or_bad p go) (ap (λ (i : ℤ). place_in i c.args.n) (sym back) ∙ (sym c.place_in.ensures ∙ c.in-None.is)))
