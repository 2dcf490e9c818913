-- That answers, endings and numbers of operations are read exactly.
use Rattle.std.proofs.Common.{◌≡◌, ℕ, ◌<◌, true, List, [], ◌∷◌, ◌++◌, Some, refl, ap, ◌∙◌, arith}
use Rattle.std.specs.Prelude.{⊤}
use Rattle.std.proofs.lemmas.Bool.Decides.{nat_tests}
use Rattle.py_model.specs.declared.moment.Answer.{Answer}
use Rattle.py_model.specs.declared.moment.Answer.TheVariants.{Value as ValueAnswer, Raised, End as EndAnswer}
use Rattle.py_model.specs.declared.moment.How.{How}
use Rattle.py_model.specs.declared.moment.How.TheVariants.{Normal, Break, Continue, Return, Raise}
use Rattle.py_model.specs.Told.{is_operation}
use Rattle.row_words.specs.Reading.{into, Took, Reads}
use Rattle.row_words.proofs.Steps.{same_some, pick}
use Rattle.row_words.proofs.Exact.{only_reads, took_into, took_plain, took_tagged}
use Rattle.row_words.proofs.Numbers.{short_reads}
use Rattle.row_words.proofs.Words.{byte_reads, value_reads}
use Rattle.trace_rows.specs.declared.outcome_tags.AnswerTag.{AnswerTag}
use Rattle.trace_rows.specs.declared.outcome_tags.AnswerTag.TheVariants.{Value as ValueTag, Raised as RaisedTag, End as EndTag}
use Rattle.trace_rows.specs.PartBytes.{answer_bytes, how_byte, IsAnswer}
use Rattle.trace_rows.specs.PartReading.{answer_tag, answer_behind, answer_at, how_tag, how_behind, how_at, op_at}

-- ---- answers

answer_number : AnswerTag → ℕ
answer_number ValueTag = 0
answer_number RaisedTag = 1
answer_number EndTag = 2

is_answer : (b : ℕ) (t : AnswerTag) → answer_tag b ≡ Some t → b ≡ answer_number t
unfolding answer_number
is_answer b t is =
    pick b 0 _ _ t is (λ at here. at ∙ ap answer_number (same_some _ _ here)) (λ is.
    pick b 1 _ _ t is (λ at here. at ∙ ap answer_number (same_some _ _ here)) (λ is.
    pick b 2 _ _ t is (λ at here. at ∙ ap answer_number (same_some _ _ here)) (λ is. absurd (cc is))))

answer_took : (t : AnswerTag) (bytes rest : List ℕ) (a : Answer) → answer_behind t bytes ≡ Some (a, rest) → Took answer_bytes IsAnswer (answer_number t ∷ bytes) a rest
unfolding answer_behind answer_number
answer_took ValueTag bytes rest a is = took_into ValueAnswer answer_bytes IsAnswer (0 ∷ []) value_reads (λ v fit. refl) (λ v fit. fit) bytes rest a is
answer_took RaisedTag bytes rest a is = took_into Raised answer_bytes IsAnswer (1 ∷ []) short_reads (λ n fit. refl) (λ n fit. fit) bytes rest a is
answer_took EndTag bytes rest a is = took_plain answer_bytes IsAnswer 2 EndAnswer refl tt bytes rest a is

answer_again : (a : Answer) (rest : List ℕ) → IsAnswer a → answer_at (answer_bytes a ++ rest) ≡ Some (a, rest)
unfolding answer_at answer_behind
answer_again (ValueAnswer v) rest fit = ap (into ValueAnswer) (value_reads.again v rest fit)
answer_again (Raised n) rest fit = ap (into Raised) (short_reads.again n rest fit)
answer_again EndAnswer rest fit = refl

pub answer_reads : Reads answer_bytes IsAnswer answer_at
unfolding answer_at
answer_reads = record { again = answer_again; takes = λ bytes rest a is. took_tagged answer_tag answer_behind answer_number answer_bytes IsAnswer is_answer answer_took bytes rest a is }

-- ---- how a statement ended

abbrev pub how_bytes : How → List ℕ
how_bytes how = how_byte how ∷ []

abbrev pub AnyHow : How → Type 0
AnyHow how = ⊤

is_how : (b : ℕ) (how : How) → how_tag b ≡ Some how → b ≡ how_byte how
is_how b t is =
    pick b 0 _ _ t is (λ at here. at ∙ ap how_byte (same_some _ _ here)) (λ is.
    pick b 1 _ _ t is (λ at here. at ∙ ap how_byte (same_some _ _ here)) (λ is.
    pick b 2 _ _ t is (λ at here. at ∙ ap how_byte (same_some _ _ here)) (λ is.
    pick b 3 _ _ t is (λ at here. at ∙ ap how_byte (same_some _ _ here)) (λ is.
    pick b 4 _ _ t is (λ at here. at ∙ ap how_byte (same_some _ _ here)) (λ is. absurd (cc is))))))

how_took : (t : How) (bytes rest : List ℕ) (how : How) → how_behind t bytes ≡ Some (how, rest) → Took how_bytes AnyHow (how_byte t ∷ bytes) how rest
how_took t bytes rest how is = took_plain how_bytes AnyHow (how_byte t) t refl tt bytes rest how is

how_again : (how : How) (rest : List ℕ) → AnyHow how → how_at (how_bytes how ++ rest) ≡ Some (how, rest)
unfolding how_at
how_again Normal rest any = refl
how_again Break rest any = refl
how_again Continue rest any = refl
how_again Return rest any = refl
how_again Raise rest any = refl

pub how_reads : Reads how_bytes AnyHow how_at
unfolding how_at
how_reads = record { again = how_again; takes = λ bytes rest how is. took_tagged how_tag how_behind how_byte how_bytes AnyHow is_how how_took bytes rest how is }

-- ---- numbers of operations

abbrev pub op_bytes : ℕ → List ℕ
op_bytes op = op ∷ []

abbrev pub IsOp : ℕ → Type 0
IsOp op = is_operation op ≡ true

op_fits : (op : ℕ) → IsOp op → op < 256
op_fits op is = grind (arith, nat_tests)

pub op_reads : Reads op_bytes IsOp op_at
unfolding op_at
op_reads = only_reads is_operation IsOp byte_reads op_fits (λ op is. is) (λ op byte is. is)
