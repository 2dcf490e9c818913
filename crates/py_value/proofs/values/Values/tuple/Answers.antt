use Rattle.std.proofs.Common.{◌≡◌, ◌<◌, ◌≤◌, suc, arith, [], length, map, slice_get, false, ◌∷◌, ◌++◌, vec_items, sym, ap, subst, ◌∙◌}
use Rattle.std.specs.List.{list_any}
use Rattle.std.specs.Cmp.Lexicographic.{pointwise}
use Rattle.std.specs.String.{string_bytes}
use Rattle.py_value.specs.contracts.value.ValuePartialEq.TheImpl.{ghosts}
use Rattle.std.proofs.lemmas.List.{length-map}
use Rattle.std.proofs.lemmas.Option.{slice_get_within}
use Rattle.py_value.specs.Values.{Adds, Keeps, AreNamed, AreInterned}
use Rattle.py_value.proofs.Equality.{values_decide}
use Rattle.py_value.proofs.KeyNotes.{notes_stay}
use Rattle.py_value.proofs.Interning.{found, absent, kept, grown, place_of, at_end, length-behind, keeps_behind, with_tuple, put}
use Rattle.py_value.proofs.values.Values.tuple.Goals as goal

pub returns-in-Some-clause-name : goal.returns-in-Some-clause-name
returns-in-Some-clause-name c =
    let at = found vec_items (λ k. pointwise ghosts.eq c.args.items.now (vec_items k)) c.args.items.now (λ k is. sym ((values_decide c.args.items.now (vec_items k)).0 is)) c.self.inside.tuples.keys c.in-Some.number (sym c.in-Some.ensures.index) in
    ap (λ v. slice_get v.tuples c.in-Some.number) (sym c.self.view_is) ∙ at

pub returns-in-Some-clause-tuples : goal.returns-in-Some-clause-tuples
returns-in-Some-clause-tuples c = kept c.args.self.now.tuples c.args.items.now c.in-Some.number (returns-in-Some-clause-name c)

pub invariant_of-self-2 : goal.invariant_of-self-2
invariant_of-self-2 c =
    let none : list_any (λ k. pointwise ghosts.eq c.args.items.now (vec_items k)) c.self.inside.tuples.keys ≡ false = sym c.in_default.ensures.found in
    let becomes = put vec_items c.args.items.now c.self.inside.tuples.keys c.insert.new.self.keys c.in_ok-tuple.tuple _ (ap (λ b. list_any (λ k. pointwise ghosts.eq b (vec_items k)) c.self.inside.tuples.keys) c.in_ok-tuple.ensures.items ∙ none) c.in_ok-tuple.ensures.items c.in_ok-insert.ensures.keys in
    let gone = absent vec_items (λ k. pointwise ghosts.eq c.args.items.now (vec_items k)) c.args.items.now (λ k is. (values_decide c.args.items.now (vec_items k)).1 (sym is)) c.self.inside.tuples.keys none in
    let count : length (map vec_items c.self.inside.tuples.keys) ≡ c.len.result = length-map c.self.inside.tuples.keys vec_items ∙ sym c.len.ensures.len in
    let now : AreInterned (record { texts = map string_bytes c.self.inside.texts.keys; tuples = map vec_items c.insert.new.self.keys }) = subst (λ list. AreInterned (record { texts = map string_bytes c.self.inside.texts.keys; tuples = list })) (sym becomes) (with_tuple (map string_bytes c.self.inside.texts.keys) (map vec_items c.self.inside.tuples.keys) c.self.invariant.interned c.args.items.now (subst (λ v. AreNamed v c.args.items.now) (sym c.self.view_is) c.requires) gone (subst (λ n. n < 4294967296) (sym count) c.in-Ok.ensures.0)) in
    notes_stay (record { texts = map string_bytes c.self.inside.texts.keys; tuples = map vec_items c.self.inside.tuples.keys }) (record { texts = map string_bytes c.self.inside.texts.keys; tuples = map vec_items c.insert.new.self.keys }) c.self.invariant.interned (λ i x at. at) (keeps_behind (map vec_items c.self.inside.tuples.keys) (map vec_items c.insert.new.self.keys) c.args.items.now becomes) c.self.inside.notes.items c.self.invariant now

pub returns-clause-name : goal.returns-clause-name
returns-clause-name c =
    let none : list_any (λ k. pointwise ghosts.eq c.args.items.now (vec_items k)) c.self.inside.tuples.keys ≡ false = sym c.in_default.ensures.found in
    let becomes = put vec_items c.args.items.now c.self.inside.tuples.keys c.insert.new.self.keys c.in_ok-tuple.tuple _ (ap (λ b. list_any (λ k. pointwise ghosts.eq b (vec_items k)) c.self.inside.tuples.keys) c.in_ok-tuple.ensures.items ∙ none) c.in_ok-tuple.ensures.items c.in_ok-insert.ensures.keys in
    let count : length (map vec_items c.self.inside.tuples.keys) ≡ c.len.result = length-map c.self.inside.tuples.keys vec_items ∙ sym c.len.ensures.len in
    ap (λ list. slice_get list c.in-Ok.number) becomes ∙ ap (slice_get (map vec_items c.self.inside.tuples.keys ++ c.args.items.now ∷ [])) (c.in-Ok.ensures.1 ∙ sym count) ∙ at_end (map vec_items c.self.inside.tuples.keys) c.args.items.now

pub returns-clause-tuples : goal.returns-clause-tuples
returns-clause-tuples c =
    let none : list_any (λ k. pointwise ghosts.eq c.args.items.now (vec_items k)) c.self.inside.tuples.keys ≡ false = sym c.in_default.ensures.found in
    let becomes = put vec_items c.args.items.now c.self.inside.tuples.keys c.insert.new.self.keys c.in_ok-tuple.tuple _ (ap (λ b. list_any (λ k. pointwise ghosts.eq b (vec_items k)) c.self.inside.tuples.keys) c.in_ok-tuple.ensures.items ∙ none) c.in_ok-tuple.ensures.items c.in_ok-insert.ensures.keys in
    let gone = absent vec_items (λ k. pointwise ghosts.eq c.args.items.now (vec_items k)) c.args.items.now (λ k is. (values_decide c.args.items.now (vec_items k)).1 (sym is)) c.self.inside.tuples.keys none in
    subst (λ v. Adds v.tuples (map vec_items c.insert.new.self.keys) c.args.items.now) c.self.view_is (subst (λ list. Adds (map vec_items c.self.inside.tuples.keys) list c.args.items.now) (sym becomes) (grown (map vec_items c.self.inside.tuples.keys) c.args.items.now gone))

pub returns-clause-interned : goal.returns-clause-interned
returns-clause-interned c = (invariant_of-self-2 c).interned

pub returns-in-Some-clause-within : goal.returns-in-Some-clause-within
returns-in-Some-clause-within c = slice_get_within c.args.self.now.tuples c.in-Some.number c.args.items.now (returns-in-Some-clause-name c)

pub returns-clause-within : goal.returns-clause-within
returns-clause-within c =
    let none : list_any (λ k. pointwise ghosts.eq c.args.items.now (vec_items k)) c.self.inside.tuples.keys ≡ false = sym c.in_default.ensures.found in
    let becomes = put vec_items c.args.items.now c.self.inside.tuples.keys c.insert.new.self.keys c.in_ok-tuple.tuple _ (ap (λ b. list_any (λ k. pointwise ghosts.eq b (vec_items k)) c.self.inside.tuples.keys) c.in_ok-tuple.ensures.items ∙ none) c.in_ok-tuple.ensures.items c.in_ok-insert.ensures.keys in
    let count : length (map vec_items c.self.inside.tuples.keys) ≡ c.len.result = length-map c.self.inside.tuples.keys vec_items ∙ sym c.len.ensures.len in
    let more : length (map vec_items c.insert.new.self.keys) ≡ suc (length (map vec_items c.self.inside.tuples.keys)) = ap length becomes ∙ length-behind (map vec_items c.self.inside.tuples.keys) c.args.items.now in
    omega (arith, more, count, c.in-Ok.ensures.1)

pub returns-clause-grows : goal.returns-clause-grows
returns-clause-grows c =
    let none : list_any (λ k. pointwise ghosts.eq c.args.items.now (vec_items k)) c.self.inside.tuples.keys ≡ false = sym c.in_default.ensures.found in
    let becomes = put vec_items c.args.items.now c.self.inside.tuples.keys c.insert.new.self.keys c.in_ok-tuple.tuple _ (ap (λ b. list_any (λ k. pointwise ghosts.eq b (vec_items k)) c.self.inside.tuples.keys) c.in_ok-tuple.ensures.items ∙ none) c.in_ok-tuple.ensures.items c.in_ok-insert.ensures.keys in
    let more : length (map vec_items c.insert.new.self.keys) ≡ suc (length (map vec_items c.self.inside.tuples.keys)) = ap length becomes ∙ length-behind (map vec_items c.self.inside.tuples.keys) c.args.items.now in
    subst (λ v. length v.tuples ≤ length (map vec_items c.insert.new.self.keys)) c.self.view_is (omega (arith, more))

pub returns-clause-keeps : goal.returns-clause-keeps
returns-clause-keeps c =
    let none : list_any (λ k. pointwise ghosts.eq c.args.items.now (vec_items k)) c.self.inside.tuples.keys ≡ false = sym c.in_default.ensures.found in
    let becomes = put vec_items c.args.items.now c.self.inside.tuples.keys c.insert.new.self.keys c.in_ok-tuple.tuple _ (ap (λ b. list_any (λ k. pointwise ghosts.eq b (vec_items k)) c.self.inside.tuples.keys) c.in_ok-tuple.ensures.items ∙ none) c.in_ok-tuple.ensures.items c.in_ok-insert.ensures.keys in
    subst (λ v. Keeps v.tuples (map vec_items c.insert.new.self.keys)) c.self.view_is (keeps_behind (map vec_items c.self.inside.tuples.keys) (map vec_items c.insert.new.self.keys) c.args.items.now becomes)

pub returns-in_default-try_from-clause-known : goal.returns-in_default-try_from-clause-known
returns-in_default-try_from-clause-known c =
    let none : list_any (λ k. pointwise ghosts.eq c.args.items.now (vec_items k)) c.self.inside.tuples.keys ≡ false = sym c.in_default.ensures.found in
    let gone = absent vec_items (λ k. pointwise ghosts.eq c.args.items.now (vec_items k)) c.args.items.now (λ k is. (values_decide c.args.items.now (vec_items k)).1 (sym is)) c.self.inside.tuples.keys none in
    λ has. let at = place_of c.args.self.now.tuples c.args.items.now has in absurd (gone at.0 (ap (λ v. slice_get v.tuples at.0) c.self.view_is ∙ at.1))

pub returns-in_err-tuple-clause-known : goal.returns-in_err-tuple-clause-known
returns-in_err-tuple-clause-known c =
    let none : list_any (λ k. pointwise ghosts.eq c.args.items.now (vec_items k)) c.self.inside.tuples.keys ≡ false = sym c.in_default.ensures.found in
    let gone = absent vec_items (λ k. pointwise ghosts.eq c.args.items.now (vec_items k)) c.args.items.now (λ k is. (values_decide c.args.items.now (vec_items k)).1 (sym is)) c.self.inside.tuples.keys none in
    λ has. let at = place_of c.args.self.now.tuples c.args.items.now has in absurd (gone at.0 (ap (λ v. slice_get v.tuples at.0) c.self.view_is ∙ at.1))

pub returns-in_err-insert-clause-known : goal.returns-in_err-insert-clause-known
returns-in_err-insert-clause-known c =
    let none : list_any (λ k. pointwise ghosts.eq c.args.items.now (vec_items k)) c.self.inside.tuples.keys ≡ false = sym c.in_default.ensures.found in
    let gone = absent vec_items (λ k. pointwise ghosts.eq c.args.items.now (vec_items k)) c.args.items.now (λ k is. (values_decide c.args.items.now (vec_items k)).1 (sym is)) c.self.inside.tuples.keys none in
    λ has. let at = place_of c.args.self.now.tuples c.args.items.now has in absurd (gone at.0 (ap (λ v. slice_get v.tuples at.0) c.self.view_is ∙ at.1))
