use Rattle.std.proofs.Common.{refl}
use Rattle.model_laws.proofs.laws.files_are_opened.Goals as goal
use Rattle.model_laws.proofs.Opening.{opened_for_writing, opened_for_appending, opened_for_reading, opened_absent, read_unreadable, append_unreadable, opened_nowhere, opened_otherwise}

pub returns-clause-write : goal.returns-clause-write
returns-clause-write c = λ store answers path is. opened_for_writing store answers c.tests_are_equality.ensures.locations path is

pub returns-clause-append : goal.returns-clause-append
returns-clause-append c = λ store answers path is known. opened_for_appending store answers c.tests_are_equality.ensures.locations path is known

pub returns-clause-read : goal.returns-clause-read
returns-clause-read c = λ store answers path bytes is known there. opened_for_reading store answers path is bytes known there

pub returns-clause-no_mode : goal.returns-clause-no_mode
returns-clause-no_mode c = λ store answers path. refl

pub returns-clause-absent : goal.returns-clause-absent
returns-clause-absent c = opened_absent

pub returns-clause-read_unreadable : goal.returns-clause-read_unreadable
returns-clause-read_unreadable c = read_unreadable

pub returns-clause-append_unreadable : goal.returns-clause-append_unreadable
returns-clause-append_unreadable c = append_unreadable

pub returns-clause-bad_path : goal.returns-clause-bad_path
returns-clause-bad_path c = opened_nowhere

pub returns-clause-bad_mode : goal.returns-clause-bad_mode
returns-clause-bad_mode c = opened_otherwise
