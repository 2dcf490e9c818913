use Rattle.std.proofs.Common.{◌≡◌, ◌≤◌}
use Rattle.trial_history.proofs.Putting.{SoFar}
use Rattle.trial_history.proofs.puts.put_inputs.Given as goal

abbrev pub invariant-loop-file : goal.invariant-loop-file
invariant-loop-file g l = record {
  so_far : SoFar l.files l.file-index l.fn.told.items l.told.items (g.F.Folder.put_faults l.fn.folder) (g.F.Folder.put_faults l.folder) (g.F.Folder.told l.fn.folder) (g.F.Folder.told l.folder);
  never_falls : g.F.Folder.put_faults l.fn.folder ≤ g.F.Folder.put_faults l.folder;
  get_faults : g.F.Folder.get_faults l.folder ≡ g.F.Folder.get_faults l.fn.folder;
  source_faults : g.F.Folder.source_faults l.folder ≡ g.F.Folder.source_faults l.fn.folder;
}
