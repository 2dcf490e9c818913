use Rattle.slice_edges.proofs.ReasonLaws.{reason_there, reason_found}
use Rattle.slice_edges.proofs.TestLaws.{number_there, number_found, edge_there, edge_found}
use Rattle.slice_edges.proofs.laws.known_pairs_are_edges.Goals as goal

pub returns-clause-numbers : goal.returns-clause-numbers
returns-clause-numbers c = λ numbers s. (number_there numbers s, number_found numbers s)

pub returns-clause-edges : goal.returns-clause-edges
returns-clause-edges c = λ edges s r. (edge_there edges s r, edge_found edges s r)

pub returns-clause-reasons : goal.returns-clause-reasons
returns-clause-reasons c = λ edges reason s r. (reason_there edges reason s r, reason_found edges reason s r)
