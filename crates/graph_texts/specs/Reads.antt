-- What reads of a store give that is no definition of the model's store.
use Rattle.std.specs.Prelude.{ℕ, Option}
use Rattle.std.specs.Option.{option_map}
use Rattle.py_value.specs.Contents.{Contents}
use Rattle.py_model.specs.Store.{RunStore, entry_of}

-- the value under a key
abbrev pub under_key : RunStore → ℕ → Contents → Option Contents
under_key store o key = option_map (λ (entry : Contents × Contents). entry.1) (entry_of store o key)
