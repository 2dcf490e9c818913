use Rattle.answer_source.proofs.Fetching.{knew_fetch, fetched_so, has_fetched}
use Rattle.answer_source.proofs.live.LiveSource.fetch.Goals as goal

pub returns-clause-knew : goal.returns-clause-knew
returns-clause-knew g c = let touched = c.touch_live.ensures in
    knew_fetch g.F.Folder.told g.F.Folder.get_faults c.args.path.now c.args.self.now.capture c.touch_live.new.self c.args.self.now.devices.folder c.touch_live.new.folder c.args.self.now.unwritten
    c.touch_live.result touched.known touched.kept touched.same touched.err
    (g.C.Console.told c.args.self.now.devices.console) (g.M.ClockAndRandom.told c.args.self.now.devices.moments) (g.C.Console.in_faults c.args.self.now.devices.console) (g.C.Console.out_faults c.args.self.now.devices.console)
    (g.M.ClockAndRandom.time_faults c.args.self.now.devices.moments) (g.M.ClockAndRandom.word_faults c.args.self.now.devices.moments) g.F.Folder.source_faults g.F.Folder.put_faults touched.source_faults touched.put_faults
    c.touch_live.result touched.kept touched.err touched.err_told touched.err_cause

pub returns-clause-fetched : goal.returns-clause-fetched
returns-clause-fetched g c = let touched = c.touch_live.ensures in
    fetched_so g.F.Folder.told g.F.Folder.get_faults c.args.path.now c.args.self.now.capture c.touch_live.new.self c.args.self.now.devices.folder c.touch_live.new.folder c.args.self.now.unwritten
    c.touch_live.result touched.known touched.kept touched.same touched.err c.touch_live.result touched.kept touched.err

pub returns-clause-has : goal.returns-clause-has
returns-clause-has g c = let touched = c.touch_live.ensures in
    has_fetched g.F.Folder.told g.F.Folder.get_faults c.args.path.now c.args.self.now.capture c.touch_live.new.self c.args.self.now.devices.folder c.touch_live.new.folder c.args.self.now.unwritten
    c.touch_live.result touched.known touched.kept touched.same touched.err c.touch_live.result touched.kept
