use Rattle.std.proofs.Common.{sym, ap, subst, ◌∙◌, ◌∷◌, [], arith, codes, unwrap_or, map, ℕ, Ok, Err}
use Rattle.py_model.specs.Plan.{raises}
use Rattle.std.proofs.lemmas.Option.{slice_get_within}
use Rattle.py_value.specs.Values.{ValuesView, IsNamed}
use Rattle.py_value.specs.Contents.{contents, text, tuple}
use Rattle.py_value.specs.declared.value.Value.TheVariants.{Text, Tuple}
use Rattle.op_work.specs.Raise.{args_set}
use Rattle.op_work.specs.Work.{WorkView, Ends, WroteAll}
use Rattle.py_model.specs.declared.moment.Answer.TheVariants.{Raised}
use Rattle.op_work.proofs.Going.{extends_then, passes_err}
use Rattle.op_work.proofs.EntryReads.{all_on}
use Rattle.py_model.proofs.Tuples.{parts_same}
use Rattle.op_work.proofs.Raising.{raised_ends}
use Rattle.op_work.proofs.work.Work.throw.Goals as goal

pub returns-in_err-set_args : goal.returns-in_err-set_args
returns-in_err-set_args c =
    let same = c.tuple_number.ensures.same ∙ ap (λ (x : WorkView). record x { values = c.tuple_number.new.self.values }) c.number.ensures.same in
    let ends = raised_ends c.args.of c.args.given.now (Text c.in_ok-args.args) (Tuple c.in_ok-items.items) (extends_then c.number.ensures.extends c.tuple_number.ensures.extends) same c.make-o.ensures.made
    (λ table known. ap (λ bytes. text (unwrap_or bytes [])) (known.texts c.in_ok-args.args (codes "args") (c.tuple_number.ensures.extends.texts c.in_ok-args.args (codes "args") c.in_ok-args.ensures.name)))
    (λ table interned known. c.tuples_are_their_parts.ensures table c.in_ok-items.items c.args.given.now interned (known.tuples c.in_ok-items.items c.args.given.now c.in_ok-items.ensures.name) ∙ ap tuple (sym (parts_same (contents table) c.args.given.now))) in
    let wrote = subst (λ (o : ℕ). WroteAll (λ table. args_set o (contents table (Text c.in_ok-args.args)) (contents table (Tuple c.in_ok-items.items))) c.make-o.new.self c.set_args.new.self (Err c.in_err-set_args.field-0.0)) c.make-o.ensures.number c.in_err-set_args.ensures in
    passes_err (λ result. Ends (λ table. raises (contents table c.args.of) (map (contents table) c.args.given.now)) c.args.self.now c.set_args.new.self result) c.from_residual-in_err-set_args.result c.from_residual-in_err-set_args.ensures.1
    (ends (Err c.in_err-set_args.field-0.0) wrote)

pub returns : goal.returns
returns c =
    let same = c.tuple_number.ensures.same ∙ ap (λ (x : WorkView). record x { values = c.tuple_number.new.self.values }) c.number.ensures.same in
    let ends = raised_ends c.args.of c.args.given.now (Text c.in_ok-args.args) (Tuple c.in_ok-items.items) (extends_then c.number.ensures.extends c.tuple_number.ensures.extends) same c.make-o.ensures.made
    (λ table known. ap (λ bytes. text (unwrap_or bytes [])) (known.texts c.in_ok-args.args (codes "args") (c.tuple_number.ensures.extends.texts c.in_ok-args.args (codes "args") c.in_ok-args.ensures.name)))
    (λ table interned known. c.tuples_are_their_parts.ensures table c.in_ok-items.items c.args.given.now interned (known.tuples c.in_ok-items.items c.args.given.now c.in_ok-items.ensures.name) ∙ ap tuple (sym (parts_same (contents table) c.args.given.now))) in
    let wrote = subst (λ (o : ℕ). WroteAll (λ table. args_set o (contents table (Text c.in_ok-args.args)) (contents table (Tuple c.in_ok-items.items))) c.make-o.new.self c.set_args.new.self (Ok c.in_ok-set_args.field-0)) c.make-o.ensures.number c.in_ok-set_args.ensures in
    subst (λ (o : ℕ). Ends (λ table. raises (contents table c.args.of) (map (contents table) c.args.given.now)) c.args.self.now c.set_args.new.self (Ok (Raised o))) (sym c.make-o.ensures.number) (ends (Ok c.in_ok-set_args.field-0) wrote)

pub tuple_number-requires : goal.tuple_number-requires
tuple_number-requires c = all_on c.number.ensures.extends c.args.given.now c.requires.named

pub set_args-requires-clause-args : goal.set_args-requires-clause-args
set_args-requires-clause-args c =
    let within = slice_get_within c.number.new.self.values.texts c.in_ok-args.args (codes "args") c.in_ok-args.ensures.name in
    subst (λ (values : ValuesView). IsNamed values (Text c.in_ok-args.args)) (sym (ap (λ (w : WorkView). w.values) c.make-o.ensures.made)) (omega (arith, within, c.tuple_number.ensures.extends.few.0))

pub set_args-requires-clause-items : goal.set_args-requires-clause-items
set_args-requires-clause-items c = subst (λ (values : ValuesView). IsNamed values (Tuple c.in_ok-items.items)) (sym (ap (λ (w : WorkView). w.values) c.make-o.ensures.made))
    (slice_get_within c.tuple_number.new.self.values.tuples c.in_ok-items.items c.args.given.now c.in_ok-items.ensures.name)
