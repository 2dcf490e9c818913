use Rattle.std.proofs.Common.{◌≡◌, ◌∙◌, refl, sym, ap, Some, ℤ, to_z, of_z, w64, rules}
use Rattle.std.specs.Option.{option_copied}
use Rattle.answer_source.specs.Sources.{given_seen}
use Rattle.capture.specs.declared.answer.Ask.TheVariants.{Word}
use Rattle.op_devices.specs.Asking.{answered_by}
use Rattle.op_devices.specs.Draws.{word_given}
use Rattle.op_devices.proofs.Known.{given_known}
use Rattle.op_devices.proofs.DrawPlans.{drawn_is}
use Rattle.op_dicts.proofs.EndsEqual.{ends_equal}
use Rattle.py_model.specs.Files.{drawn}
use Rattle.op_devices.proofs.draws.drawn.Goals as goal

pub returns : goal.returns
returns c = λ k given_is.
    let known = given_known k (Some Word) (option_copied c.args.given) Word c.in-Some.given.now refl (ap option_copied c.in-Some.is) given_is in
    let back : to_z w64 (of_z w64 c.args.start) ≡ c.args.start = search rules in
    ends_equal (λ table. answered_by k (drawn c.args.start c.args.many))
    (λ table interned extends. drawn_is k c.args.start c.args.many (given_seen c.in-Some.given.now) known ∙ ap (λ (i : ℤ). word_given i c.args.many (given_seen c.in-Some.given.now)) (sym back)) c.word_answer.ensures
