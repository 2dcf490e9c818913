use Rattle.std.proofs.Common.{refl, sym, ◌∙◌}
use Rattle.answer_source.specs.Live.{AreNumbered, AreFetched, telling}
use Rattle.py_model.specs.Doing.{standing}
use Rattle.py_model.specs.Meaning.{starting}
use Rattle.py_tree.specs.Erasure.{script_of}
use Rattle.run_engine.proofs.Bared.{ran_by, nothing_done, field}
use Rattle.run_engine.proofs.bare.run_recorded.Goals as goal

pub run-end-requires : goal.run-end-requires
run-end-requires g c = λ table capture fit. (standing (starting capture c.args.path.now c.args.arguments.now 0), c.in-Ok-new.ensures.starts table capture 0 fit)

pub returns-in-Err : goal.returns-in-Err
returns-in-Err g c = (
  nothing_done c.args.devices c.args.devices (λ devices. telling (g.C.Console.told devices.console) (g.F.Folder.told devices.folder) (g.M.ClockAndRandom.told devices.moments) (record {
    line = g.C.Console.in_faults devices.console;
    write = g.C.Console.out_faults devices.console;
    file = g.F.Folder.get_faults devices.folder;
    source = g.F.Folder.source_faults devices.folder;
    put = g.F.Folder.put_faults devices.folder;
    time = g.M.ClockAndRandom.time_faults devices.moments;
    word = g.M.ClockAndRandom.word_faults devices.moments;
  })) refl,
  tt,
)

pub returns-in-Err-new : goal.returns-in-Err-new
returns-in-Err-new g c = (
  nothing_done c.args.devices c.finish-devices.result.1 (λ devices. telling (g.C.Console.told devices.console) (g.F.Folder.told devices.folder) (g.M.ClockAndRandom.told devices.moments) (record {
    line = g.C.Console.in_faults devices.console;
    write = g.C.Console.out_faults devices.console;
    file = g.F.Folder.get_faults devices.folder;
    source = g.F.Folder.source_faults devices.folder;
    put = g.F.Folder.put_faults devices.folder;
    time = g.M.ClockAndRandom.time_faults devices.moments;
    word = g.M.ClockAndRandom.word_faults devices.moments;
  }))
      (c.finish-devices.ensures.devices ∙ (field c.in-Err-new.ensures.back (λ s. s.devices) ∙ c.new-2.ensures.devices)),
  tt,
)

pub returns : goal.returns
returns g c = ran_by c.in-Ok-new.parts.source.devices c.args.devices c.run-end.new.doer.source.devices c.finish-capture.result.1 (λ devices. telling (g.C.Console.told devices.console) (g.F.Folder.told devices.folder) (g.M.ClockAndRandom.told devices.moments) (record {
  line = g.C.Console.in_faults devices.console;
  write = g.C.Console.out_faults devices.console;
  file = g.F.Folder.get_faults devices.folder;
  source = g.F.Folder.source_faults devices.folder;
  put = g.F.Folder.put_faults devices.folder;
  time = g.M.ClockAndRandom.time_faults devices.moments;
  word = g.M.ClockAndRandom.word_faults devices.moments;
}))
    (script_of c.args.script.now) c.args.path.now c.args.arguments.now c.args.budget c.run-end.new.left c.saturating_sub.result _ _
    c.in-Ok-new.parts.held c.run-end.new.doer.held c.finish-held.result.0 c.in-Ok-new.parts.entered c.run-end.new.doer.entered _
    (λ askings fetches. AreNumbered c.run-end.new.doer.source.capture askings × AreFetched c.run-end.new.doer.source.capture fetches)
    c.in-Ok-new.parts.source.capture c.run-end.new.doer.source.capture c.finish-capture.result.0 c.finish-held.result.1.capture
    (field c.in-Ok-new.ensures.source (λ s. s.capture) ∙ (c.new-2.ensures.kept ∙ c.in-Ok.ensures))
    (field c.in-Ok-new.ensures.source (λ s. s.devices) ∙ c.new-2.ensures.devices)
    (sym (c.finish-capture.ensures.kept ∙ field c.finish-held.ensures.source (λ s. s.capture)))
    (sym (c.finish-capture.ensures.devices ∙ field c.finish-held.ensures.source (λ s. s.devices)))
    (sym c.finish-held.ensures.held) c.saturating_sub.ensures c.run-end.ensures.knew c.in-Ok-new.ensures.starts (λ askings fetches so. (so.0.1, so.1)) c.finish-capture.ensures.kept c.finish-capture.ensures.fits
    c.values.result.now c.values.ensures.some_fits.1.interned c.values.ensures.some_fits.1.extends
    c.run-end.result c.run-end.ensures.runs c.over-ended.result c.over-ended.ensures.capture c.over-ended.ensures.over
