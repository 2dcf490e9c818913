use Rattle.std.proofs.Common.{◌∙◌, refl, sym, ap, ap₂, ℕ, List, Bool, is_some}
use Rattle.py_model.specs.Arithmetic.{contained}
use Rattle.py_model.specs.Plan.{Plan, counts}
use Rattle.py_model.specs.Texts.{size, place_of}
use Rattle.py_value.specs.Contents.{contents}
use Rattle.py_value.specs.Seen.{bytes_of}
use Rattle.py_value.specs.Values.{ValuesView}
use Rattle.py_value.specs.declared.value.Value.TheVariants.{Text}
use Rattle.op_texts.proofs.Taken.{bytes_stay}
use Rattle.op_work.specs.Work.{Comes, is_any, as_is}
use Rattle.op_work.proofs.Going.{comes_same, comes_then, comes_stop, comes_as, passes_err, extends_then}
use Rattle.op_compare.proofs.in_texts.in_text.Goals as goal

-- whether the bytes of one text stand in those of another, and that these are counted
abbrev stands : ℕ → ValuesView → List ℕ → Bool
stands id table sought = is_some (place_of (bytes_of table id) sought)

abbrev counted : ℕ → ValuesView → List ℕ → (Bool → Plan) → Plan
counted id table sought go = counts (size (bytes_of table id)) (go (stands id table sought))

pub returns-in_err-sought : goal.returns-in_err-sought
returns-in_err-sought c = passes_err (λ result. Comes is_any as_is (λ table. contained (contents table c.args.v) (contents table (Text c.args.id))) c.args.work.now c.text_number.new.work result)
    c.from_residual.result c.from_residual.ensures.1 (comes_stop (counted c.args.id) c.in_err-sought.ensures)

pub returns-in_err-count : goal.returns-in_err-count
returns-in_err-count c =
    let id = c.args.id in let sought = c.in_ok-sought.sought in
    passes_err (λ result. Comes is_any as_is (λ table. contained (contents table c.args.v) (contents table (Text id))) c.args.work.now c.count.new.self result)
    c.from_residual-in_err-count.result c.from_residual-in_err-count.ensures.1
    (comes_then (counted id) c.in_ok-sought.ensures (λ table interned extends go. refl)
    (comes_same (λ table. counted id table (bytes_of table sought))
    (λ table interned extends go. ap (λ n. counts n (go (stands id table (bytes_of table sought))))
    (ap size (bytes_stay _ table id _ c.text_of.ensures (extends_then c.count.ensures.kept.extends extends)) ∙ sym c.size.ensures.count))
    (comes_stop (λ table done go. go (stands id table (bytes_of table sought))) c.in_err-count.ensures)))

pub returns : goal.returns
returns c =
    let id = c.args.id in let sought = c.in_ok-sought.sought in
    comes_then (counted id) c.in_ok-sought.ensures (λ table interned extends go. refl)
    (comes_same (λ table. counted id table (bytes_of table sought))
    (λ table interned extends go. ap (λ n. counts n (go (stands id table (bytes_of table sought))))
    (ap size (bytes_stay _ table id _ c.text_of.ensures (extends_then c.count.ensures.kept.extends extends)) ∙ sym c.size.ensures.count))
    (comes_as (λ table done go. go (stands id table (bytes_of table sought))) _ c.in_ok-count.ensures tt
    (λ table interned extends go. ap go (ap₂ (λ one other. is_some (place_of one other)) (bytes_stay _ table id _ c.text_of-2.ensures extends) (bytes_stay _ table sought _ c.text_of-3.ensures extends)
    ∙ sym c.stands_in.ensures))))
