use Rattle.std.proofs.Common.{ap}
use Rattle.capture.specs.Capture.{CaptureView}
use Rattle.answer_source.proofs.Keeping.{knew_refused, knew_asked, answered}
use Rattle.answer_source.proofs.live.LiveSource.ask.Goals as goal

pub returns-clause-asked : goal.returns-clause-asked
returns-clause-asked g c = let kept = c.in_ok-k.ensures.kept in
    answered c.args.self.now.capture c.ask_live.new.self _ c.args.what c.args.at c.in_ok-k.k kept.0 kept.1 kept.2 (ap (λ (view : CaptureView). view.files) c.ask_live.ensures.same) c.copy_kept.result c.copy_kept.ensures

pub returns-clause-knew : goal.returns-clause-knew
returns-clause-knew g c = let kept = c.in_ok-k.ensures.kept in
    knew_asked g.C.Console.told g.C.Console.in_faults g.C.Console.out_faults g.M.ClockAndRandom.told g.M.ClockAndRandom.time_faults g.M.ClockAndRandom.word_faults
    (g.F.Folder.told c.args.self.now.devices.folder) (g.F.Folder.get_faults c.args.self.now.devices.folder) (g.F.Folder.source_faults c.args.self.now.devices.folder) (g.F.Folder.put_faults c.args.self.now.devices.folder)
    c.args.self.now.capture c.ask_live.new.self c.args.what kept.0 c.args.at c.in_ok-k.k c.args.self.now.devices.console c.ask_live.new.console c.args.self.now.devices.moments c.ask_live.new.moments
    kept.2 (ap (λ (view : CaptureView). view.files) c.ask_live.ensures.same) kept.3 kept.4 kept.5 kept.6 c.ask_live.ensures.other_count c.ask_live.ensures.other_device

pub returns-in_err-k-clause-knew : goal.returns-in_err-k-clause-knew
returns-in_err-k-clause-knew g c =
    knew_refused g.C.Console.told g.C.Console.in_faults g.C.Console.out_faults g.M.ClockAndRandom.told g.M.ClockAndRandom.time_faults g.M.ClockAndRandom.word_faults
    (g.F.Folder.told c.args.self.now.devices.folder) (g.F.Folder.get_faults c.args.self.now.devices.folder) (g.F.Folder.source_faults c.args.self.now.devices.folder) (g.F.Folder.put_faults c.args.self.now.devices.folder)
    c.args.what c.args.self.now.capture c.ask_live.new.self c.args.self.now.devices.console c.ask_live.new.console c.args.self.now.devices.moments c.ask_live.new.moments
    c.in_err-k.ensures.err c.in_err-k.ensures.err_told c.in_err-k.ensures.err_cause c.ask_live.ensures.other_count c.ask_live.ensures.other_device
