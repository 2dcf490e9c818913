use Rattle.std.proofs.Common.{ℕ, ◌+◌, List, take, drop, Option, Some, None, arith, append_assoc}
use Rattle.std.proofs.Math.Seq.{take-add}
use Rattle.std.proofs.lemmas.List.{take_rest}
use Rattle.std.specs.Io.KnownBytes.{Appends}
use Rattle.prov_real.proofs.stream.write_whole.Goals as goal

-- a sink that grew by some bytes of a list and then by the next of it
appended_more : (first next last : Option (List ℕ)) (bytes : List ℕ) (n k : ℕ) → Appends first next (take n bytes) → Appends next last (take k (drop n bytes)) → Appends first last (take (n + k) bytes)
appended_more None next last bytes n k one two = tt
appended_more (Some xs) None last bytes n k one two = absurd one
appended_more (Some xs) (Some ys) None bytes n k one two = two
appended_more (Some xs) (Some ys) (Some zs) bytes n k one two = rw (two, one, take-add n k bytes) (append_assoc xs (take n bytes) (take k (drop n bytes)))

pub loop-done-preserved : goal.loop-done-preserved
loop-done-preserved g c = record {
  within = omega (arith, c.in-Ok.ensures.bound);
  written = appended_more _ _ _ c.args.bytes.now c.loop-done.done c.in-Ok.taken c.loop-done.invariant.written (rw (take_rest c.args.bytes.now c.loop-done.done) at c.in-Ok.ensures.bytes);
}
