-- No public clause cites this file.
-- The text of a refusal (this project's profile).
use Rattle.std.specs.Prelude.{ℕ, List, codes}
use Rattle.prov_outside.specs.declared.trouble.Trouble.{Trouble}
use Rattle.prov_outside.specs.declared.trouble.Trouble.TheVariants.{Failed, Memory}

-- what is printed of a refusal
abbrev pub trouble_text : Trouble → List ℕ
trouble_text Failed = codes "device failed"
trouble_text Memory = codes "out of memory"
