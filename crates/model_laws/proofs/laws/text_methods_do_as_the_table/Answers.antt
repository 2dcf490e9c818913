use Rattle.std.proofs.Common.{refl}
use Rattle.model_laws.proofs.laws.text_methods_do_as_the_table.Goals as goal
use Rattle.model_laws.proofs.Alone.{text_words, text_pieces, texts_joined, text_replaced, text_found, text_ljust, text_rjust}

pub returns-clause-strip : goal.returns-clause-strip
returns-clause-strip c = λ store answers bytes. record { answer_is = refl; made_is = refl; after_is = refl }

pub returns-clause-lstrip : goal.returns-clause-lstrip
returns-clause-lstrip c = λ store answers bytes. record { answer_is = refl; made_is = refl; after_is = refl }

pub returns-clause-rstrip : goal.returns-clause-rstrip
returns-clause-rstrip c = λ store answers bytes. record { answer_is = refl; made_is = refl; after_is = refl }

pub returns-clause-split : goal.returns-clause-split
returns-clause-split c = text_words

pub returns-clause-split_by : goal.returns-clause-split_by
returns-clause-split_by c = text_pieces

pub returns-clause-join : goal.returns-clause-join
returns-clause-join c = texts_joined

pub returns-clause-replace : goal.returns-clause-replace
returns-clause-replace c = text_replaced

pub returns-clause-find : goal.returns-clause-find
returns-clause-find c = text_found

pub returns-clause-startswith : goal.returns-clause-startswith
returns-clause-startswith c = λ store answers bytes sought. record { answer_is = refl; made_is = refl; after_is = refl }

pub returns-clause-endswith : goal.returns-clause-endswith
returns-clause-endswith c = λ store answers bytes sought. record { answer_is = refl; made_is = refl; after_is = refl }

pub returns-clause-upper : goal.returns-clause-upper
returns-clause-upper c = λ store answers bytes. record { answer_is = refl; made_is = refl; after_is = refl }

pub returns-clause-lower : goal.returns-clause-lower
returns-clause-lower c = λ store answers bytes. record { answer_is = refl; made_is = refl; after_is = refl }

pub returns-clause-isdigit : goal.returns-clause-isdigit
returns-clause-isdigit c = λ store answers bytes. record { answer_is = refl; made_is = refl; after_is = refl }

pub returns-clause-ljust : goal.returns-clause-ljust
returns-clause-ljust c = λ store answers bytes number i is. text_ljust store answers bytes number i is

pub returns-clause-rjust : goal.returns-clause-rjust
returns-clause-rjust c = λ store answers bytes number i is. text_rjust store answers bytes number i is
