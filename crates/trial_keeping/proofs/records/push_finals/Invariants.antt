use Rattle.std.proofs.Common.{◌≡◌, ◌++◌, map, drop}
use Rattle.trial_keeping.specs.Trial.{bytes_of}
use Rattle.trial_keeping.proofs.records.push_finals.Given as goal

abbrev pub invariant-loop-file : goal.invariant-loop-file
invariant-loop-file l = map (λ bytes. bytes.now) l.contents.items ++ map bytes_of (drop l.file-index l.files) ≡ map (λ bytes. bytes.now) l.fn.contents.items ++ map bytes_of l.files
