-- No public clause cites this file.
-- What stands around a statement, and tasks, with other byte spans and nothing else changed.
use Rattle.std.specs.Option.{option_map}
use Rattle.prov_base.specs.declared.place.Span.{Span}
use Rattle.py_tree.specs.Spans.{moved_suite, moved_function}
use Rattle.py_model.specs.Expressions.{Here, Task, body_of, while_again, for_again}

module _ (m : Span → Span) where
  abbrev pub moved_here : Here → Here
  moved_here here = record here { function = option_map (moved_function m) here.function }

  abbrev pub moved_task : Task → Task
  moved_task (body_of here body) = body_of (moved_here here) (moved_suite m body)
  moved_task (while_again here test body) = while_again (moved_here here) test (moved_suite m body)
  moved_task (for_again here at target body items turns size) = for_again (moved_here here) at target (moved_suite m body) items turns size
