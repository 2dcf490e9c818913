use Rattle.std.proofs.Common.{◌≡◌, ◌≤◌, map, drop, option_copied}
use Rattle.delivery.specs.PutsAll.{file_out}
use Rattle.delivery.proofs.Putting.{SoFar}
use Rattle.delivery.proofs.puts.put_files.Given as goal

abbrev pub invariant-loop-file : goal.invariant-loop-file
invariant-loop-file g l = record {
  so_far : SoFar (map file_out l.files) (map file_out (drop l.file-index l.files)) (option_copied l.first) l.short
      (g.F.Folder.put_faults l.fn.folder) (g.F.Folder.put_faults l.folder) (g.F.Folder.told l.fn.folder) (g.F.Folder.told l.folder);
  never_falls : g.F.Folder.put_faults l.fn.folder ≤ g.F.Folder.put_faults l.folder;
  get_faults : g.F.Folder.get_faults l.folder ≡ g.F.Folder.get_faults l.fn.folder;
  source_faults : g.F.Folder.source_faults l.folder ≡ g.F.Folder.source_faults l.fn.folder;
}
