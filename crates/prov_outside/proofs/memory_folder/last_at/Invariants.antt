use Rattle.std.proofs.Common.{◌≡◌, take, option_copied}
use Rattle.prov_outside.specs.MemoryFolder.{last_of}
use Rattle.prov_outside.proofs.memory_folder.last_at.Given as goal

abbrev pub invariant-loop-name : goal.invariant-loop-name
invariant-loop-name l = option_copied l.found ≡ last_of (take l.name-index l.files) l.path
