use Rattle.std.proofs.Common.{rules, refl, ◌<◌, ◌^◌, ◌≤◌, length}
use Rattle.std.proofs.lemmas.Option.{slice_get_read}
use Rattle.recorded_runs.proofs.Each.{below_more, each_of}
use Rattle.recorded_runs.specs.Typed.{IsLeft}
use Rattle.recorded_runs.proofs.fitting.finals_fit.Goals as goal

pub loop-file-preserved : goal.loop-file-preserved
loop-file-preserved c =
    let within : c.loop-file.file-index < length c.args.files.now = search rules in
    let is : IsLeft c.file-item.result = search rules in
    below_more IsLeft c.args.files.now c.loop-file.file-index c.file-item.result c.loop-file.invariant
    (slice_get_read c.args.files.now (length c.args.files.now) c.loop-file.file-index c.file-item.result refl within c.file-item.is) is

pub returns : goal.returns
returns c =
    let end : length c.args.files.now ≤ c.loop-file.file-index = search rules in
    let few : length c.args.files.now < 2 ^ 64 = search rules in
    each_of IsLeft c.args.files.now c.loop-file.file-index end few c.loop-file.invariant
