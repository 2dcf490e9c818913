use Rattle.std.proofs.Common.{sym, ap, ◌∙◌, false}
use Rattle.py_model.specs.Raising.{value_matches as plan_value_matches}
use Rattle.py_value.specs.Contents.{contents}
use Rattle.op_work.proofs.Going.{at_once, comes_same}
use Rattle.op_classes.proofs.MatchedKinds.{no_object}
use Rattle.op_classes.proofs.WithFiles.{object_is}
use Rattle.op_classes.proofs.matching.value_matches.Goals as goal

pub returns-in-Some : goal.returns-in-Some
returns-in-Some c = comes_same (λ table. plan_value_matches (contents table c.args.v) (contents table c.args.sought))
    (λ table interned extends go. ap (λ v. plan_value_matches (contents table v) (contents table c.args.sought) go) (object_is c.args.v c.in-Some.o (sym c.object_of.ensures ∙ c.in-Some.is)))
    c.object_matches.ensures

pub returns-in-None : goal.returns-in-None
returns-in-None c = at_once (λ table. plan_value_matches (contents table c.args.v) (contents table c.args.sought)) c.args.work.now false tt
    (λ table interned extends go. no_object table c.args.v (contents table c.args.sought) go (sym c.object_of.ensures ∙ c.in-None.is))
