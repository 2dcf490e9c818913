use Rattle.std.proofs.Common.{◌≡◌, ◌++◌, map, drop}
use Rattle.trial_keeping.specs.Trial.{found_contents}
use Rattle.trial_keeping.proofs.records.push_found.Given as goal

abbrev pub invariant-loop-file : goal.invariant-loop-file
invariant-loop-file l = map (λ bytes. bytes.now) l.contents.items ++ found_contents (drop l.file-index l.files) ≡ map (λ bytes. bytes.now) l.fn.contents.items ++ found_contents l.files
