use Rattle.std.proofs.Common.{sym, ap, []}
use Rattle.std.specs.Prelude.{unwrap_or}
use Rattle.std.proofs.lemmas.Option.{slice_get_within}
use Rattle.py_model.specs.Effect.{effect}
use Rattle.py_model.specs.Plan.{Plan}
use Rattle.py_value.specs.Contents.{Contents, contents, text as text_contents}
use Rattle.py_value.specs.Values.{IsNamed}
use Rattle.op_work.specs.Work.{Comes}
use Rattle.py_value.specs.declared.value.Value.TheVariants.{Text}
use Rattle.op_work.proofs.Going.{gives_comes, gives_no_memory, passes_memory}
use Rattle.op_work.proofs.work.Work.text.Goals as goal

pub returns-in_err-number-clause-comes : goal.returns-in_err-number-clause-comes
returns-in_err-number-clause-comes c = passes_memory (λ result. Comes IsNamed contents (λ table (go : Contents → Plan). go (text_contents c.args.words.now)) c.args.self.now c.number.new.self result)
    c.from_residual.result c.from_residual.ensures.1 (gives_no_memory (λ table (go : Contents → Plan). go (text_contents c.args.words.now)) c.number.ensures.extends c.number.ensures.same)

pub returns-clause-comes : goal.returns-clause-comes
returns-clause-comes c = gives_comes (λ table (go : Contents → Plan). go (text_contents c.args.words.now)) c.number.ensures.extends c.number.ensures.same (Text c.in_ok-number.number)
    (slice_get_within c.number.new.self.values.texts c.in_ok-number.number c.args.words.now c.in_ok-number.ensures.name)
    (λ table store extends seen go answers. ap (λ bytes. effect store answers (go (text_contents (unwrap_or bytes [])))) (sym (extends.texts c.in_ok-number.number c.args.words.now c.in_ok-number.ensures.name)))
