-- Worked rows of the definitions, each found by computation.
use Rattle.std.proofs.Common.{◌≡◌, ℕ, List, [], ◌∷◌, codes, Option, Some, None, refl}
use Rattle.now_words.specs.Command.{Command, run_bare, run_kept, reads, restores, command_of, evaluation_at}
use Rattle.now_words.specs.declared.command.Query.TheVariants.{List as list_query, History, Show, Dataflow, Slice, Value, Replay, Sources, Effects}

abbrev file : List ℕ
file = codes "s.py"

-- the words of a run, behind `run`
abbrev run : List (List ℕ) → Option Command
run words = command_of (codes "run" ∷ words)

no_words : command_of [] ≡ None
no_words = refl

no_verb : command_of (codes "Run" ∷ codes "--bare" ∷ file ∷ []) ≡ None
no_verb = refl

help_is_none : command_of (codes "--help" ∷ []) ≡ None
help_is_none = refl

-- the cut of straight-line scripts is no command any more
cut_is_none : command_of (codes "cut" ∷ file ∷ codes "3" ∷ []) ≡ None
cut_is_none = refl

bare : run (codes "--bare" ∷ file ∷ []) ≡ Some (run_bare 1000000 file [])
bare = refl

bare_behind : run (file ∷ codes "a" ∷ codes "--bare" ∷ codes "b" ∷ []) ≡ Some (run_bare 1000000 file (codes "a" ∷ codes "b" ∷ []))
bare_behind = refl

not_bare : run (file ∷ []) ≡ Some (run_kept 1000000 file [])
not_bare = refl

bare_twice : run (codes "--bare" ∷ codes "--bare" ∷ file ∷ []) ≡ None
bare_twice = refl

no_file : run (codes "--bare" ∷ []) ≡ None
no_file = refl

steps_apart : run (codes "--steps" ∷ codes "20" ∷ codes "--bare" ∷ file ∷ []) ≡ Some (run_bare 20 file [])
steps_apart = refl

steps_joined : run (codes "--bare" ∷ file ∷ codes "--steps=20" ∷ codes "a" ∷ []) ≡ Some (run_bare 20 file (codes "a" ∷ []))
steps_joined = refl

steps_twice : run (codes "--bare" ∷ codes "--steps=20" ∷ codes "--steps" ∷ codes "20" ∷ file ∷ []) ≡ None
steps_twice = refl

steps_twice_joined : run (codes "--bare" ∷ codes "--steps" ∷ codes "20" ∷ codes "--steps=20" ∷ file ∷ []) ≡ None
steps_twice_joined = refl

steps_no_value : run (codes "--bare" ∷ file ∷ codes "--steps" ∷ []) ≡ None
steps_no_value = refl

steps_value_behind_dashes : run (codes "--bare" ∷ file ∷ codes "--steps" ∷ codes "--" ∷ codes "20" ∷ []) ≡ None
steps_value_behind_dashes = refl

steps_value_is_next : run (codes "--steps" ∷ codes "--bare" ∷ codes "20" ∷ file ∷ []) ≡ None
steps_value_is_next = refl

steps_empty : run (codes "--bare" ∷ codes "--steps=" ∷ file ∷ []) ≡ None
steps_empty = refl

steps_zero : run (codes "--bare" ∷ codes "--steps" ∷ codes "0" ∷ file ∷ []) ≡ None
steps_zero = refl

steps_leading_zeros : run (codes "--bare" ∷ codes "--steps=0000000000000000000001000000" ∷ file ∷ []) ≡ Some (run_bare 1000000 file [])
steps_leading_zeros = refl

steps_past_greatest : run (codes "--bare" ∷ codes "--steps=1000001" ∷ file ∷ []) ≡ None
steps_past_greatest = refl

steps_signed : run (codes "--bare" ∷ codes "--steps" ∷ codes "-1" ∷ file ∷ []) ≡ None
steps_signed = refl

other_option : run (codes "--bare" ∷ codes "-x" ∷ file ∷ []) ≡ None
other_option = refl

option_with_value : run (codes "--bare=1" ∷ file ∷ []) ≡ None
option_with_value = refl

dash_alone : run (codes "--bare" ∷ codes "-" ∷ codes "-" ∷ []) ≡ Some (run_bare 1000000 (codes "-") (codes "-" ∷ []))
dash_alone = refl

empty_words : run (codes "--bare" ∷ [] ∷ [] ∷ []) ≡ Some (run_bare 1000000 [] ([] ∷ []))
empty_words = refl

dashes_dropped : run (codes "--bare" ∷ codes "--" ∷ file ∷ []) ≡ Some (run_bare 1000000 file [])
dashes_dropped = refl

all_behind_dashes : run (codes "--bare" ∷ file ∷ codes "--" ∷ codes "-x" ∷ codes "--" ∷ codes "--steps" ∷ [])
    ≡ Some (run_bare 1000000 file (codes "-x" ∷ codes "--" ∷ codes "--steps" ∷ []))
all_behind_dashes = refl

bare_behind_dashes : run (codes "--" ∷ codes "--bare" ∷ file ∷ []) ≡ Some (run_kept 1000000 (codes "--bare") (file ∷ []))
bare_behind_dashes = refl

-- ---- commands that read the store

list_alone : command_of (codes "list" ∷ []) ≡ Some (reads list_query)
list_alone = refl

list_with_dashes : command_of (codes "list" ∷ codes "--" ∷ []) ≡ Some (reads list_query)
list_with_dashes = refl

dataflow_of_one : command_of (codes "dataflow" ∷ codes "7" ∷ []) ≡ Some (reads (Dataflow 7))
dataflow_of_one = refl

dataflow_alone : command_of (codes "dataflow" ∷ []) ≡ None
dataflow_alone = refl

sources_of_one : command_of (codes "sources" ∷ codes "1" ∷ codes "4" ∷ codes "6" ∷ codes "2" ∷ []) ≡ Some (reads (Sources (evaluation_at 1 4 6 2)))
sources_of_one = refl

effects_of_one : command_of (codes "effects" ∷ codes "1" ∷ codes "2" ∷ codes "10" ∷ codes "1" ∷ []) ≡ Some (reads (Effects (evaluation_at 1 2 10 1)))
effects_of_one = refl

effects_of_a_trial : command_of (codes "effects" ∷ codes "1" ∷ []) ≡ None
effects_of_a_trial = refl

history_alone : command_of (codes "history" ∷ []) ≡ Some (reads History)
history_alone = refl

history_of_one : command_of (codes "history" ∷ codes "1" ∷ []) ≡ None
history_of_one = refl

list_of_one : command_of (codes "list" ∷ codes "1" ∷ []) ≡ None
list_of_one = refl

list_of_one_behind_dashes : command_of (codes "list" ∷ codes "--" ∷ codes "x" ∷ []) ≡ None
list_of_one_behind_dashes = refl

list_of_nothing : command_of (codes "list" ∷ [] ∷ []) ≡ None
list_of_nothing = refl

list_with_option : command_of (codes "list" ∷ codes "--steps=1" ∷ []) ≡ None
list_with_option = refl

list_with_dashes_twice : command_of (codes "list" ∷ codes "--" ∷ codes "--" ∷ []) ≡ None
list_with_dashes_twice = refl

show_one : command_of (codes "show" ∷ codes "1" ∷ []) ≡ Some (reads (Show 1))
show_one = refl

show_leading_zeros : command_of (codes "show" ∷ codes "0042" ∷ []) ≡ Some (reads (Show 42))
show_leading_zeros = refl

show_behind_dashes : command_of (codes "show" ∷ codes "--" ∷ codes "4294967295" ∷ []) ≡ Some (reads (Show 4294967295))
show_behind_dashes = refl

show_before_dashes : command_of (codes "show" ∷ codes "7" ∷ codes "--" ∷ []) ≡ Some (reads (Show 7))
show_before_dashes = refl

show_zero : command_of (codes "show" ∷ codes "0" ∷ []) ≡ None
show_zero = refl

show_past_greatest : command_of (codes "show" ∷ codes "4294967296" ∷ []) ≡ None
show_past_greatest = refl

show_nothing : command_of (codes "show" ∷ []) ≡ None
show_nothing = refl

show_two : command_of (codes "show" ∷ codes "1" ∷ codes "2" ∷ []) ≡ None
show_two = refl

show_signed : command_of (codes "show" ∷ codes "-1" ∷ []) ≡ None
show_signed = refl

show_empty : command_of (codes "show" ∷ [] ∷ []) ≡ None
show_empty = refl

slice_one : command_of (codes "slice" ∷ codes "1" ∷ codes "7" ∷ codes "12" ∷ codes "3" ∷ []) ≡ Some (reads (Slice (evaluation_at 1 7 12 3)))
slice_one = refl

value_one : command_of (codes "value" ∷ codes "1" ∷ codes "7" ∷ codes "12" ∷ codes "3" ∷ []) ≡ Some (reads (Value (evaluation_at 1 7 12 3)))
value_one = refl

replay_one : command_of (codes "replay" ∷ codes "1" ∷ codes "7" ∷ codes "12" ∷ codes "3" ∷ []) ≡ Some (reads (Replay (evaluation_at 1 7 12 3)))
replay_one = refl

replay_of_three : command_of (codes "replay" ∷ codes "1" ∷ codes "7" ∷ codes "12" ∷ []) ≡ None
replay_of_three = refl

slice_leading_zeros : command_of (codes "slice" ∷ codes "01" ∷ codes "007" ∷ codes "1" ∷ codes "4294967295" ∷ []) ≡ Some (reads (Slice (evaluation_at 1 7 1 4294967295)))
slice_leading_zeros = refl

slice_with_dashes : command_of (codes "slice" ∷ codes "1" ∷ codes "7" ∷ codes "--" ∷ codes "12" ∷ codes "3" ∷ []) ≡ Some (reads (Slice (evaluation_at 1 7 12 3)))
slice_with_dashes = refl

slice_dashes_twice : command_of (codes "slice" ∷ codes "--" ∷ codes "1" ∷ codes "7" ∷ codes "--" ∷ codes "3" ∷ []) ≡ None
slice_dashes_twice = refl

slice_of_three : command_of (codes "slice" ∷ codes "1" ∷ codes "7" ∷ codes "12" ∷ []) ≡ None
slice_of_three = refl

slice_of_five : command_of (codes "slice" ∷ codes "1" ∷ codes "7" ∷ codes "12" ∷ codes "3" ∷ codes "4" ∷ []) ≡ None
slice_of_five = refl

slice_line_zero : command_of (codes "slice" ∷ codes "1" ∷ codes "0" ∷ codes "12" ∷ codes "3" ∷ []) ≡ None
slice_line_zero = refl

slice_number_zero : command_of (codes "slice" ∷ codes "1" ∷ codes "7" ∷ codes "12" ∷ codes "0" ∷ []) ≡ None
slice_number_zero = refl

slice_past_greatest : command_of (codes "slice" ∷ codes "1" ∷ codes "7" ∷ codes "4294967296" ∷ codes "3" ∷ []) ≡ None
slice_past_greatest = refl

slice_signed : command_of (codes "slice" ∷ codes "1" ∷ codes "-7" ∷ codes "12" ∷ codes "3" ∷ []) ≡ None
slice_signed = refl

slice_no_number : command_of (codes "slice" ∷ codes "1" ∷ codes "7" ∷ codes "x" ∷ codes "3" ∷ []) ≡ None
slice_no_number = refl

-- ---- `restore`

restore_one : command_of (codes "restore" ∷ codes "1" ∷ []) ≡ Some (restores 1)
restore_one = refl

restore_leading_zeros : command_of (codes "restore" ∷ codes "0042" ∷ []) ≡ Some (restores 42)
restore_leading_zeros = refl

restore_behind_dashes : command_of (codes "restore" ∷ codes "--" ∷ codes "4294967295" ∷ []) ≡ Some (restores 4294967295)
restore_behind_dashes = refl

restore_nothing : command_of (codes "restore" ∷ []) ≡ None
restore_nothing = refl

restore_two : command_of (codes "restore" ∷ codes "1" ∷ codes "2" ∷ []) ≡ None
restore_two = refl

restore_zero : command_of (codes "restore" ∷ codes "0" ∷ []) ≡ None
restore_zero = refl

restore_past_greatest : command_of (codes "restore" ∷ codes "4294967296" ∷ []) ≡ None
restore_past_greatest = refl

restore_signed : command_of (codes "restore" ∷ codes "-1" ∷ []) ≡ None
restore_signed = refl

restore_with_dashes_twice : command_of (codes "restore" ∷ codes "--" ∷ codes "--" ∷ []) ≡ None
restore_with_dashes_twice = refl

restore_of_a_word : command_of (codes "restore" ∷ file ∷ []) ≡ None
restore_of_a_word = refl
