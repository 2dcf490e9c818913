use Rattle.std.proofs.Common.{rules, ◌≡◌, refl, sym, ap, ◌∙◌, map, ℕ, ℤ, pos, negsuc, List, [], ◌∷◌, None, Ok, take, subst, w64, to_z, of_z}
use Rattle.py_value.specs.Contents.{contents, text, int}
use Rattle.py_value.specs.Seen.{bytes_of}
use Rattle.py_value.specs.Values.{ValuesView}
use Rattle.py_value.specs.declared.value.Value.TheVariants.{Int}
use Rattle.py_model.specs.declared.moment.Answer.TheVariants.{Value as ValueAnswer}
use Rattle.py_model.specs.Operands.{gives}
use Rattle.py_model.specs.Plan.{Plan}
use Rattle.py_model.specs.TextMethods.{find_plan}
use Rattle.py_model.specs.Texts.{place_of, size}
use Rattle.op_work.specs.Work.{Ends}
use Rattle.op_work.proofs.Ending.{ends_then, ends_stop, ends_gives}
use Rattle.op_work.proofs.Going.{passes_err}
use Rattle.op_texts.proofs.Taken.{bytes_stay}
use Rattle.op_texts.proofs.Places.{after, found_is, not_found_is}
use Rattle.op_texts.proofs.searches.find.Goals as goal

abbrev found : ValuesView → List ℕ × List ℕ → Plan
found table two = find_plan (text two.0 ∷ text two.1 ∷ [])

pub returns-in_err-text : goal.returns-in_err-text
returns-in_err-text c = passes_err (λ result. Ends (λ table. find_plan (map (contents table) c.args.operands.now)) c.args.work.now c.two_texts.new.work result)
    c.from_residual.result c.from_residual.ensures.1 (ends_stop found c.in_err-text.field-0.0 c.in_err-text.ensures)

pub returns-in_err-searched : goal.returns-in_err-searched
returns-in_err-searched c = passes_err (λ result. Ends (λ table. find_plan (map (contents table) c.args.operands.now)) c.args.work.now c.searched.new.work result)
    c.from_residual-in_err-searched.result c.from_residual-in_err-searched.ensures.1
    (ends_then found c.in_ok-text.ensures (λ table interned extends. refl)
    (ends_stop (λ table x. after (found table (bytes_of table c.in_ok-text.text, bytes_of table c.in_ok-text.sought))) c.in_err-searched.field-0.0 c.in_err-searched.ensures))

pub returns-in_default : goal.returns-in_default
returns-in_default c =
    let values = c.searched.new.work.values in
    let none : c.place_of.result ≡ None = search rules in
    ends_then found c.in_ok-text.ensures (λ table interned extends. refl)
    (ends_then (λ table x. after (found table (bytes_of table c.in_ok-text.text, bytes_of table c.in_ok-text.sought))) c.in_ok-searched.ensures (λ table interned extends. refl)
    (ends_gives (λ table. after (found table (bytes_of table c.in_ok-text.text, bytes_of table c.in_ok-text.sought))) c.searched.new.work (Int (negsuc 0))
    (c.in_ok-searched.ensures.kept.made_is ∙ (c.two_texts.ensures.kept.made_is ∙ c.requires.fresh)) tt
    (λ table interned extends. not_found_is (bytes_of table c.in_ok-text.text) (bytes_of table c.in_ok-text.sought)
    (ap (λ bytes. place_of bytes (bytes_of table c.in_ok-text.sought)) (bytes_stay values table c.in_ok-text.text c.text_of.result.now c.text_of.ensures extends ∙ sym c.as_bytes-bytes.ensures.value)
    ∙ (ap (place_of c.as_bytes-bytes.result.now) (bytes_stay values table c.in_ok-text.sought c.text_of-2.result.now c.text_of-2.ensures extends ∙ sym c.as_bytes.ensures.value)
    ∙ (sym c.place_of.ensures.place ∙ none))))))

pub returns : goal.returns
returns c =
    let values = c.searched.new.work.values in
    let back : to_z w64 (of_z w64 c.in-Ok.before) ≡ c.in-Ok.before = search rules in
    let n = c.in-Some.n in
    subst (λ (i : ℤ). Ends (λ table. find_plan (map (contents table) c.args.operands.now)) c.args.work.now c.searched.new.work (Ok (ValueAnswer (Int i)))) (sym back)
    (ends_then found c.in_ok-text.ensures (λ table interned extends. refl)
    (ends_then (λ table x. after (found table (bytes_of table c.in_ok-text.text, bytes_of table c.in_ok-text.sought))) c.in_ok-searched.ensures (λ table interned extends. refl)
    (ends_gives (λ table. after (found table (bytes_of table c.in_ok-text.text, bytes_of table c.in_ok-text.sought))) c.searched.new.work (Int c.in-Ok.before)
    (c.in_ok-searched.ensures.kept.made_is ∙ (c.two_texts.ensures.kept.made_is ∙ c.requires.fresh)) tt
    (λ table interned extends.
    let same = bytes_stay values table c.in_ok-text.text c.text_of.result.now c.text_of.ensures extends ∙ sym c.as_bytes-bytes.ensures.value in
    found_is (bytes_of table c.in_ok-text.text) (bytes_of table c.in_ok-text.sought) n
    (ap (λ bytes. place_of bytes (bytes_of table c.in_ok-text.sought)) same
    ∙ (ap (place_of c.as_bytes-bytes.result.now) (bytes_stay values table c.in_ok-text.sought c.text_of-2.result.now c.text_of-2.ensures extends ∙ sym c.as_bytes.ensures.value)
    ∙ (sym c.place_of.ensures.place ∙ c.in-Some.is)))
    ∙ ap (λ (i : ℤ). gives (int i)) (ap (λ bytes. pos (size (take n bytes))) same ∙ (sym (ap pos c.size_of.ensures.count) ∙ sym c.in-Ok.ensures.1))))))
