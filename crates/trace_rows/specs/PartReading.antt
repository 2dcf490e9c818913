-- Answers, endings and what an operation comes to, read from the front.
use Rattle.std.specs.Prelude.{ℕ, ◌==◌, List, Option, Some, None, if◌then◌else◌}
use Rattle.prov_base.specs.declared.place.Pos.{Pos}
use Rattle.py_value.specs.declared.access.Access.{Access}
use Rattle.py_value.specs.declared.access.Kind.{Kind}
use Rattle.py_value.specs.declared.value.Value.{Value}
use Rattle.py_model.specs.declared.moment.Answer.{Answer}
use Rattle.py_model.specs.declared.moment.Answer.TheVariants.{Value as ValueAnswer, Raised, End as EndAnswer}
use Rattle.py_model.specs.declared.moment.How.{How}
use Rattle.py_model.specs.declared.moment.How.TheVariants.{Normal, Break, Continue, Return, Raise}
use Rattle.py_model.specs.Told.{is_operation}
use Rattle.row_words.specs.Reading.{both, into, only, tagged, byte_at, short_at, place_at, value_at, list_at, made_at}
use Rattle.row_words.specs.AccessReading.{access_at}
use Rattle.trace_rows.specs.declared.outcome_tags.AnswerTag.{AnswerTag}
use Rattle.trace_rows.specs.declared.outcome_tags.AnswerTag.TheVariants.{Value as ValueTag, Raised as RaisedTag, End as EndTag}

abbrev pub answer_tag : ℕ → Option AnswerTag
answer_tag b = if b == 0 then Some ValueTag else if b == 1 then Some RaisedTag else if b == 2 then Some EndTag else None

unfoldable pub answer_behind : AnswerTag → List ℕ → Option (Answer × List ℕ)
answer_behind ValueTag rest = into ValueAnswer (value_at rest)
answer_behind RaisedTag rest = into Raised (short_at rest)
answer_behind EndTag rest = Some (EndAnswer, rest)

unfoldable pub answer_at : List ℕ → Option (Answer × List ℕ)
answer_at bytes = tagged answer_tag answer_behind bytes

abbrev pub how_tag : ℕ → Option How
how_tag b =
    if b == 0 then Some Normal else if b == 1 then Some Break else if b == 2 then Some Continue else if b == 3 then Some Return else if b == 4 then Some Raise else None

abbrev pub how_behind : How → List ℕ → Option (How × List ℕ)
how_behind how rest = Some (how, rest)

unfoldable pub how_at : List ℕ → Option (How × List ℕ)
how_at bytes = tagged how_tag how_behind bytes

unfoldable pub op_at : List ℕ → Option (ℕ × List ℕ)
op_at bytes = only is_operation (byte_at bytes)

abbrev pub values_at : List ℕ → Option (List Value × List ℕ)
values_at bytes = list_at value_at bytes

abbrev pub accesses_at : List ℕ → Option (List Access × List ℕ)
accesses_at bytes = list_at access_at bytes

abbrev pub deed_at : List ℕ → Option ((Pos × ℕ) × List ℕ)
deed_at bytes = both place_at op_at bytes

abbrev pub outcome_at : List ℕ → Option ((Answer × Option Kind) × List ℕ)
outcome_at bytes = both answer_at made_at bytes

abbrev pub touches_at : List ℕ → Option ((List Access × ℕ) × List ℕ)
touches_at bytes = both accesses_at short_at bytes
