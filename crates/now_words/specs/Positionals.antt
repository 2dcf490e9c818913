-- No public clause cites this file.
-- The positionals among words, word by word.
use Rattle.std.specs.Prelude.{ℕ, Bool, true, false, List, ◌++◌, Option, Some, option_map}
use Rattle.now_words.specs.Command.{positional_words}

-- what words come to behind the first `--`, or before it
abbrev pub positionals_from : Bool → List (List ℕ) → Option (List (List ℕ))
positionals_from true words = Some words
positionals_from false words = positional_words words

-- with these before them
abbrev pub behind : List (List ℕ) → Option (List (List ℕ)) → Option (List (List ℕ))
behind taken found = option_map (λ more. taken ++ more) found
