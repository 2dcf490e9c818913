use Rattle.std.proofs.Common.{map, drop, Some}
use Rattle.py_value.specs.Named.{AreNamedAccesses}
use Rattle.py_value.specs.Seen.{access_seen}
use Rattle.row_words.specs.Fits.{Each}
use Rattle.row_words.specs.AccessBytes.{IsAccess}
use Rattle.recorder.specs.MomentRows.{numbered_access}
use Rattle.recorder.specs.Naming.{named_in_access}
use Rattle.recorder.specs.Numbers.{Goes}
use Rattle.recorder.specs.Walking.{IsReady}
use Rattle.recorder.proofs.naming_accesses.name_accesses.Given as goal

-- what is done, and what is left to name
abbrev pub invariant-loop-access : goal.invariant-loop-access
invariant-loop-access l =
    Goes access_seen (λ view c. Some (numbered_access view c)) named_in_access (map (access_seen l.values) l.accesses) (map (access_seen l.values) (drop l.access-index l.accesses)) l.fn.namer l.namer
    l.own.items × (IsReady l.values l.namer.view l.walked × (AreNamedAccesses l.values (drop l.access-index l.accesses) × Each IsAccess l.own.items))
