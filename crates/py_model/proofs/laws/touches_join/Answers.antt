use Rattle.py_model.proofs.Joins.{accesses_join, looks_join, characters_join, stores_join, notes_join, prefixes_join, methods_join, entries_join}
use Rattle.py_model.proofs.laws.touches_join.Goals as goal

pub returns-clause-accesses : goal.returns-clause-accesses
returns-clause-accesses c = accesses_join

pub returns-clause-looks : goal.returns-clause-looks
returns-clause-looks c = looks_join

pub returns-clause-characters : goal.returns-clause-characters
returns-clause-characters c = characters_join

pub returns-clause-stores : goal.returns-clause-stores
returns-clause-stores c = stores_join

pub returns-clause-notes : goal.returns-clause-notes
returns-clause-notes c = notes_join

pub returns-clause-prefixes : goal.returns-clause-prefixes
returns-clause-prefixes c = prefixes_join

pub returns-clause-methods : goal.returns-clause-methods
returns-clause-methods c = methods_join

pub returns-clause-entries : goal.returns-clause-entries
returns-clause-entries c = entries_join
