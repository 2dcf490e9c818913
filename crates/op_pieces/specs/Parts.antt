-- No public clause cites this file.
-- What stands between items.
use Rattle.std.specs.Prelude.{ℕ, Bool, true, false, List, [], codes}

-- what stands before an item, the first or another
abbrev pub separator : Bool → List ℕ
separator true = []
separator false = codes ", "
