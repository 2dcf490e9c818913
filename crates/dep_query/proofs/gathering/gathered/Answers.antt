use Rattle.std.proofs.Common.{◌≡◌, ◌||◌, Bool, true, false, slice_get, refl, ap, ◌∙◌}
use Rattle.std.specs.Prelude.{Result, Ok, Err, IfOk}
use Rattle.py_tree.specs.Erasure.{script_of}
use Rattle.dep_query.specs.Noting.{is_found, some_told, some_parent}
use Rattle.dep_query.proofs.Gathered.{all_found}
use Rattle.value_links.proofs.Placing.{place_is}
use Rattle.dep_query.proofs.gathering.gathered.Goals as goal

-- both clauses of an answer
on_both : {T E : Type 0} {P Q S : T → Type 0} (r : Result T E) → IfOk r P → IfOk r Q → ((value : T) → P value → Q value → S value) → IfOk r S
on_both (Ok value) one two follows = follows value one two
on_both (Err fault) one two follows = tt

behind : (b : Bool) → (b || false) ≡ b
behind true = refl
behind false = refl

pub returns : goal.returns
returns c = λ view told asked.
    let script = script_of c.args.script.now in
    let places = c.in_ok-places.places.items in
    let asks = c.edges.result.now in
    on_both c.listed.result c.listed.ensures.same c.listed.ensures.in_order (λ list same in_order.
    all_found script c.requires told places (λ s. ap (λ these. slice_get these s) c.in_ok-places.ensures ∙ place_is script c.requires s) asks (c.edges.ensures.reasons view script told asked) list.items in_order
    (λ d. ap (λ keys. is_found keys d) same
    ∙ c.in_ok-note_asks.ensures d ∙ ap (λ these. some_told these asks d || is_found c.note_parents.new.found.keys d) c.as_slice-2.ensures.value
    ∙ ap (λ b. some_told places asks d || b) (c.in_ok-note_parents.ensures d ∙ ap (λ these. some_parent these script script.count d || is_found c.new-found.result.keys d) c.as_slice.ensures.value
    ∙ ap (λ keys. some_parent places script script.count d || is_found keys d) c.new-found.ensures.empty ∙ behind (some_parent places script script.count d))))
