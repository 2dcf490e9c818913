use Rattle.std.proofs.Common.{rules, refl, ◌<◌, ◌^◌, ◌≤◌, length}
use Rattle.std.proofs.lemmas.Option.{slice_get_read}
use Rattle.recorded_runs.proofs.Each.{below_more, each_of}
use Rattle.recorded_runs.specs.Typed.{IsText}
use Rattle.recorded_runs.proofs.fitting.arguments_fit.Goals as goal

pub loop-argument-preserved : goal.loop-argument-preserved
loop-argument-preserved c =
    let within : c.loop-argument.argument-index < length c.args.arguments.now = search rules in
    let is : IsText c.argument-item.result = search rules in
    below_more IsText c.args.arguments.now c.loop-argument.argument-index c.argument-item.result c.loop-argument.invariant
    (slice_get_read c.args.arguments.now (length c.args.arguments.now) c.loop-argument.argument-index c.argument-item.result refl within c.argument-item.is) is

pub returns : goal.returns
returns c =
    let end : length c.args.arguments.now ≤ c.loop-argument.argument-index = search rules in
    let few : length c.args.arguments.now < 2 ^ 64 = search rules in
    each_of IsText c.args.arguments.now c.loop-argument.argument-index end few c.loop-argument.invariant
