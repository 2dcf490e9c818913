-- Commands, and the words that are one (this project's profile).
use Rattle.std.specs.Prelude.{ℕ, ◌==◌, Bool, true, false, ◌&&◌, not, List, [], ◌∷◌, ◌++◌, take, drop, codes, Option, Some, None, option_map, option_and_then, unwrap_or, if◌then◌else◌}
use Rattle.std.specs.Option.{is_some}
use Rattle.std.specs.Str.{bytes_eq}
use Rattle.now_words.specs.Numbers.{number_to}
use Rattle.now_words.specs.declared.command.Evaluation.{Evaluation}
use Rattle.now_words.specs.declared.command.Query.{Query}
use Rattle.now_words.specs.declared.command.Query.TheVariants.{List as list_query, History, Show, Dataflow, Slice, Value, Replay, Sources, Effects}

pub data Command : Type 0 where
  -- a run of a file within so many steps that keeps nothing
  run_bare : (steps : ℕ) → (file : List ℕ) → (arguments : List (List ℕ)) → Command
  -- the same that is kept as a trial
  run_kept : (steps : ℕ) → (file : List ℕ) → (arguments : List (List ℕ)) → Command
  -- what is read of the store of trials
  reads : Query → Command
  -- the files of the trial with this number are put back, and it becomes the current one of its path
  restores : (number : ℕ) → Command

-- what the words behind `run` have said so far
pub record Reading : Type 0 where
  -- whether `--bare` stood there
  pub bare : Bool
  -- the value of `--steps`
  pub steps : Option ℕ
  -- whether the word before was `--steps`, so that the next one is its value
  pub waits : Bool
  -- whether the first `--` stood there
  pub ended : Bool
  -- the first positional
  pub file : Option (List ℕ)
  -- the others, in order
  pub arguments : List (List ℕ)

abbrev pub nothing_read : Reading
nothing_read = record { bare = false; steps = None; waits = false; ended = false; file = None; arguments = [] }

-- the first positional is the file, each other one an argument
abbrev pub with_positional : Reading → List ℕ → Reading
with_positional reading word = if is_some reading.file then record reading { arguments = reading.arguments ++ word ∷ [] } else record reading { file = Some word }

-- steps are said at most once, as a number from 1 to 1000000
abbrev pub with_steps : Reading → List ℕ → Option Reading
with_steps reading word =
    if is_some reading.steps then None
    else option_map (λ steps. record reading { steps = Some steps; waits = false }) (number_to 1000000 word)

-- begins with `-`, and is not `-` alone
abbrev pub is_option : List ℕ → Bool
is_option [] = false
is_option (byte ∷ bytes) = (byte == 45) && not (bytes_eq bytes [])

-- a word that is not the value of `--steps` and stands before the first `--`, or is that one
abbrev pub with_free_word : Reading → List ℕ → Option Reading
with_free_word reading word =
    if bytes_eq word (codes "--") then Some (record reading { ended = true })
    else if bytes_eq word (codes "--bare") then (if reading.bare then None else Some (record reading { bare = true }))
    else if bytes_eq word (codes "--steps") then (if is_some reading.steps then None else Some (record reading { waits = true }))
    else if bytes_eq (take 8 word) (codes "--steps=") then with_steps reading (drop 8 word)
    else if is_option word then None
    else Some (with_positional reading word)

-- one word more, where it may stand there
abbrev pub with_word : Reading → List ℕ → Option Reading
with_word reading word =
    if reading.ended then Some (with_positional reading word)
    else if reading.waits then with_steps reading word
    else with_free_word reading word

abbrev pub with_words : Reading → List (List ℕ) → Option Reading
with_words reading [] = Some reading
with_words reading (word ∷ words) = option_and_then (λ next. with_words next words) (with_word reading word)

-- a run, which `--bare` does not keep
abbrev pub run_by : Bool → ℕ → List ℕ → List (List ℕ) → Command
run_by bare steps file arguments = if bare then run_bare steps file arguments else run_kept steps file arguments

-- the command of all words behind `run`
abbrev pub run_of : Reading → Option Command
run_of reading = if reading.waits then None else option_map (λ file. run_by reading.bare (unwrap_or reading.steps 1000000) file reading.arguments) reading.file

abbrev pub run_command : List (List ℕ) → Option Command
run_command words = option_and_then run_of (with_words nothing_read words)

-- The positionals among the words behind a command that has no options: the first `--` is dropped, and every word behind it is one. A word before it
-- that begins with `-` and is not `-` alone may not stand there.
abbrev pub positional_words : List (List ℕ) → Option (List (List ℕ))
positional_words [] = Some []
positional_words (word ∷ words) =
    if bytes_eq word (codes "--") then Some words
    else if is_option word then None
    else option_map (λ more. word ∷ more) (positional_words words)

-- `list` and `history` have no positional, `show` and `dataflow` have one, which is a number from 1
abbrev pub alone_of : Query → List (List ℕ) → Option Query
alone_of query [] = Some query
alone_of query (word ∷ words) = None

abbrev pub trial_of : List (List ℕ) → Option ℕ
trial_of [] = None
trial_of (word ∷ []) = number_to 4294967295 word
trial_of (word ∷ other ∷ words) = None

-- the evaluation with these numbers: its trial, the line and the column of its place, and which it is there
abbrev pub evaluation_at : ℕ → ℕ → ℕ → ℕ → Evaluation
evaluation_at trial line column k = record { trial = trial; at = record { line = line; col = column }; k = k }

-- the evaluation that four words name, which are numbers from 1
abbrev pub evaluation_by : List ℕ → List ℕ → List ℕ → List ℕ → Option Evaluation
evaluation_by trial line column k =
    option_and_then (λ t. option_and_then (λ l. option_and_then (λ c. option_map (evaluation_at t l c) (number_to 4294967295 k)) (number_to 4294967295 column)) (number_to 4294967295 line)) (number_to 4294967295 trial)

abbrev pub evaluation_of : List (List ℕ) → Option Evaluation
evaluation_of [] = None
evaluation_of (trial ∷ []) = None
evaluation_of (trial ∷ line ∷ []) = None
evaluation_of (trial ∷ line ∷ column ∷ []) = None
evaluation_of (trial ∷ line ∷ column ∷ k ∷ []) = evaluation_by trial line column k
evaluation_of (trial ∷ line ∷ column ∷ k ∷ other ∷ words) = None

-- what a command word asks for that stands before the words of an evaluation
abbrev pub evaluation_query_of : List ℕ → List (List ℕ) → Option Query
evaluation_query_of verb given =
    if bytes_eq verb (codes "slice") then option_map Slice (evaluation_of given)
    else if bytes_eq verb (codes "value") then option_map Value (evaluation_of given)
    else if bytes_eq verb (codes "replay") then option_map Replay (evaluation_of given)
    else if bytes_eq verb (codes "sources") then option_map Sources (evaluation_of given)
    else if bytes_eq verb (codes "effects") then option_map Effects (evaluation_of given)
    else None

-- what a command that reads the store asks for, by its command word and its positionals
abbrev pub query_of : List ℕ → List (List ℕ) → Option Query
query_of verb given =
    if bytes_eq verb (codes "list") then alone_of list_query given
    else if bytes_eq verb (codes "history") then alone_of History given
    else if bytes_eq verb (codes "show") then option_map Show (trial_of given)
    else if bytes_eq verb (codes "dataflow") then option_map Dataflow (trial_of given)
    else evaluation_query_of verb given

-- a command that reads the store, by its command word and the words behind it
abbrev pub query_command : List ℕ → List (List ℕ) → Option Command
query_command verb words = option_map reads (option_and_then (query_of verb) (positional_words words))

-- `restore`, by the words behind it: one positional, which is a number from 1
abbrev pub restore_command : List (List ℕ) → Option Command
restore_command words = option_map restores (option_and_then trial_of (positional_words words))

-- the command that the words are
abbrev pub command_of : List (List ℕ) → Option Command
command_of [] = None
command_of (verb ∷ words) =
    if bytes_eq verb (codes "run") then run_command words
    else if bytes_eq verb (codes "restore") then restore_command words
    else query_command verb words
