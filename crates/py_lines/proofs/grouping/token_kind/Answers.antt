use Rattle.std.proofs.Common.{◌∙◌, sym, ap}
use Rattle.py_lines.specs.declared.parts.TokenKind.TheVariants.{Keyword}
use Rattle.py_lines.specs.Grouping.{token_kind}
use Rattle.py_lines.proofs.TableNumbers.{keyword_found}
use Rattle.py_lines.proofs.grouping.token_kind.Goals as goal

pub returns-in-Some-clause-found : goal.returns-in-Some-clause-found
returns-in-Some-clause-found c = ap Keyword c.number_of_keyword.ensures ∙ keyword_found c.args.piece.now c.in-Some.keyword (sym c.find_keyword.ensures ∙ c.in-Some.is) ∙ ap (λ s. token_kind s c.args.piece.now) (sym c.in-Word.is)
