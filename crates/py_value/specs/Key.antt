-- No public clause cites this file.
-- The texts of the faults of keys (this project's profile).
use Rattle.std.specs.Prelude.{ℕ, List, codes}
use Rattle.py_value.specs.declared.key.KeyFault.{KeyFault}
use Rattle.py_value.specs.declared.key.KeyFault.TheVariants.{NoKey, NotHere, TooDeep, Memory}

abbrev pub key_fault_text : KeyFault → List ℕ
key_fault_text (NoKey object) = codes "an object is no key"
key_fault_text NotHere = codes "the value is no key here"
key_fault_text TooDeep = codes "tuples are nested too deep"
key_fault_text Memory = codes "out of memory"
