-- What the program's values, whose parts are borrowed from the words, stand for.
use Rattle.std.specs.Prelude.{option_copied}
use Rattle.now_words.specs.Command as spec
use Rattle.now_words.specs.declared.command.Command as code
use Rattle.now_words.specs.declared.command.Command.TheVariants.{RunBare, RunKept, Reads, Restores}
use Rattle.now_words.specs.declared.reading.Reading as state

abbrev pub command_of_code : code.Command → spec.Command
command_of_code (RunBare file steps arguments) = spec.run_bare steps file.now arguments.items
command_of_code (RunKept file steps arguments) = spec.run_kept steps file.now arguments.items
command_of_code (Reads query) = spec.reads query
command_of_code (Restores number) = spec.restores number

abbrev pub reading_of : state.Reading → spec.Reading
reading_of reading = record {
  bare = reading.bare;
  steps = reading.steps;
  waits = reading.waits;
  ended = reading.ended;
  file = option_copied reading.file;
  arguments = reading.arguments.items;
}
