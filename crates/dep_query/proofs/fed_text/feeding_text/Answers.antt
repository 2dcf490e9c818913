use Rattle.std.proofs.Common.{◌≡◌, subst, Option, Some, None, IfSome, rules}
use Rattle.std.proofs.lemmas.Option.{same_Some}
use Rattle.trial_slice.proofs.Questions.{answered, lacking, unloaded}
use Rattle.dep_query.specs.SiteTexts.{IsFedText, LacksSite}
use Rattle.dep_query.proofs.fed_text.feeding_text.Goals as goal

of_some : {T : Type 0} (P : T → Type 0) (found : Option T) (it : T) → found ≡ Some it → IfSome found P → P it
of_some P (Some other) it is so = subst P (same_Some other it is) so
of_some P None it is so = absurd (cc)

pub returns-in-Err-clause-answers : goal.returns-in-Err-clause-answers
returns-in-Err-clause-answers g c = unloaded (IsFedText c.args.way c.args.at c.args.k) (LacksSite c.args.at c.args.k) _ _ c.args.number c.in-Err.fault c.in-Err.ensures.loads

pub returns-in-Ok-Some-clause-answers : goal.returns-in-Ok-Some-clause-answers
returns-in-Ok-Some-clause-answers g c =
    answered (IsFedText c.args.way c.args.at c.args.k) (LacksSite c.args.at c.args.k) _ _ c.args.number c.in-Ok.trial c.in-Ok-Some.text
    (of_some (IsFedText c.args.way c.args.at c.args.k c.in-Ok.trial) c.in-Ok-Some.field-0 c.in-Ok-Some.text c.in-Ok-Some.field-0-is c.in-Ok-Some.ensures.found) c.in-Ok.ensures.loads

pub returns-in-Ok-Some-clause-of_trial : goal.returns-in-Ok-Some-clause-of_trial
returns-in-Ok-Some-clause-of_trial g c = record {
  trial = c.in-Ok.trial;
  is_trial = c.in-Ok.ensures.is_trial;
  answer = of_some (IsFedText c.args.way c.args.at c.args.k c.in-Ok.trial) c.in-Ok-Some.field-0 c.in-Ok-Some.text c.in-Ok-Some.field-0-is c.in-Ok-Some.ensures.found;
}

pub returns-in-Ok-None-clause-answers : goal.returns-in-Ok-None-clause-answers
returns-in-Ok-None-clause-answers g c =
    lacking (IsFedText c.args.way c.args.at c.args.k) (LacksSite c.args.at c.args.k) _ _ c.args.number c.in-Ok.trial (c.feeding-text.ensures.absent (search rules)) c.in-Ok.ensures.loads

pub returns-in-Ok-None-clause-of_trial : goal.returns-in-Ok-None-clause-of_trial
returns-in-Ok-None-clause-of_trial g c = record { trial = c.in-Ok.trial; is_trial = c.in-Ok.ensures.is_trial; so = c.feeding-text.ensures.absent (search rules) }
