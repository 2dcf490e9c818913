-- What parts fit and stand for (this project's profile): a store over numbers, and a source of answers.
pub use Rattle.op_parts.specs.Fitting.{found_by, IsFitting, IsStanding}
