use Rattle.std.proofs.Common.{◌≡◌, ◌<◌, ◌≤◌, suc, arith, [], length, map, slice_get, false, ◌∷◌, ◌++◌, vec_items, sym, ap, subst, ◌∙◌}
use Rattle.std.specs.List.{list_any}
use Rattle.std.specs.Str.{bytes_eq}
use Rattle.std.specs.Cmp.Lexicographic.{bytes_decides}
use Rattle.std.specs.String.{string_bytes}
use Rattle.std.proofs.lemmas.List.{length-map}
use Rattle.std.proofs.lemmas.Option.{slice_get_within}
use Rattle.py_value.specs.Values.{Adds, Keeps, AreInterned}
use Rattle.py_value.proofs.KeyNotes.{notes_stay}
use Rattle.py_value.proofs.Interning.{found, absent, kept, grown, place_of, at_end, length-behind, keeps_behind, with_text, put}
use Rattle.py_value.proofs.values.Values.text.Goals as goal

pub returns-in-Some-clause-name : goal.returns-in-Some-clause-name
returns-in-Some-clause-name c =
    let at = found string_bytes (λ k. bytes_eq c.args.s.now (string_bytes k)) c.args.s.now (λ k is. sym ((bytes_decides c.args.s.now (string_bytes k)).0 is)) c.self.inside.texts.keys c.in-Some.number (sym c.in-Some.ensures.index) in
    ap (λ v. slice_get v.texts c.in-Some.number) (sym c.self.view_is) ∙ at

pub returns-in-Some-clause-texts : goal.returns-in-Some-clause-texts
returns-in-Some-clause-texts c = kept c.args.self.now.texts c.args.s.now c.in-Some.number (returns-in-Some-clause-name c)

pub invariant_of-self-2 : goal.invariant_of-self-2
invariant_of-self-2 c =
    let none : list_any (λ k. bytes_eq c.args.s.now (string_bytes k)) c.self.inside.texts.keys ≡ false = sym c.in_default.ensures.found in
    let becomes = put string_bytes c.args.s.now c.self.inside.texts.keys c.insert.new.self.keys c.in_ok-text.text _ (ap (λ b. list_any (λ k. bytes_eq b (string_bytes k)) c.self.inside.texts.keys) c.in_ok-text.ensures.ok ∙ none) c.in_ok-text.ensures.ok c.in_ok-insert.ensures.keys in
    let gone = absent string_bytes (λ k. bytes_eq c.args.s.now (string_bytes k)) c.args.s.now (λ k is. (bytes_decides c.args.s.now (string_bytes k)).1 (sym is)) c.self.inside.texts.keys none in
    let count : length (map string_bytes c.self.inside.texts.keys) ≡ c.len.result = length-map c.self.inside.texts.keys string_bytes ∙ sym c.len.ensures.len in
    let now : AreInterned (record { texts = map string_bytes c.insert.new.self.keys; tuples = map vec_items c.self.inside.tuples.keys }) = subst (λ list. AreInterned (record { texts = list; tuples = map vec_items c.self.inside.tuples.keys })) (sym becomes) (with_text (map string_bytes c.self.inside.texts.keys) (map vec_items c.self.inside.tuples.keys) c.self.invariant.interned c.args.s.now gone (subst (λ n. n < 4294967296) (sym count) c.in-Ok.ensures.0)) in
    notes_stay (record { texts = map string_bytes c.self.inside.texts.keys; tuples = map vec_items c.self.inside.tuples.keys }) (record { texts = map string_bytes c.insert.new.self.keys; tuples = map vec_items c.self.inside.tuples.keys }) c.self.invariant.interned (keeps_behind (map string_bytes c.self.inside.texts.keys) (map string_bytes c.insert.new.self.keys) c.args.s.now becomes) (λ i x at. at) c.self.inside.notes.items c.self.invariant now

pub returns-clause-name : goal.returns-clause-name
returns-clause-name c =
    let none : list_any (λ k. bytes_eq c.args.s.now (string_bytes k)) c.self.inside.texts.keys ≡ false = sym c.in_default.ensures.found in
    let becomes = put string_bytes c.args.s.now c.self.inside.texts.keys c.insert.new.self.keys c.in_ok-text.text _ (ap (λ b. list_any (λ k. bytes_eq b (string_bytes k)) c.self.inside.texts.keys) c.in_ok-text.ensures.ok ∙ none) c.in_ok-text.ensures.ok c.in_ok-insert.ensures.keys in
    let count : length (map string_bytes c.self.inside.texts.keys) ≡ c.len.result = length-map c.self.inside.texts.keys string_bytes ∙ sym c.len.ensures.len in
    ap (λ list. slice_get list c.in-Ok.number) becomes ∙ ap (slice_get (map string_bytes c.self.inside.texts.keys ++ c.args.s.now ∷ [])) (c.in-Ok.ensures.1 ∙ sym count) ∙ at_end (map string_bytes c.self.inside.texts.keys) c.args.s.now

pub returns-clause-texts : goal.returns-clause-texts
returns-clause-texts c =
    let none : list_any (λ k. bytes_eq c.args.s.now (string_bytes k)) c.self.inside.texts.keys ≡ false = sym c.in_default.ensures.found in
    let becomes = put string_bytes c.args.s.now c.self.inside.texts.keys c.insert.new.self.keys c.in_ok-text.text _ (ap (λ b. list_any (λ k. bytes_eq b (string_bytes k)) c.self.inside.texts.keys) c.in_ok-text.ensures.ok ∙ none) c.in_ok-text.ensures.ok c.in_ok-insert.ensures.keys in
    let gone = absent string_bytes (λ k. bytes_eq c.args.s.now (string_bytes k)) c.args.s.now (λ k is. (bytes_decides c.args.s.now (string_bytes k)).1 (sym is)) c.self.inside.texts.keys none in
    subst (λ v. Adds v.texts (map string_bytes c.insert.new.self.keys) c.args.s.now) c.self.view_is (subst (λ list. Adds (map string_bytes c.self.inside.texts.keys) list c.args.s.now) (sym becomes) (grown (map string_bytes c.self.inside.texts.keys) c.args.s.now gone))

pub returns-clause-interned : goal.returns-clause-interned
returns-clause-interned c = (invariant_of-self-2 c).interned

pub returns-in-Some-clause-within : goal.returns-in-Some-clause-within
returns-in-Some-clause-within c = slice_get_within c.args.self.now.texts c.in-Some.number c.args.s.now (returns-in-Some-clause-name c)

pub returns-clause-within : goal.returns-clause-within
returns-clause-within c =
    let none : list_any (λ k. bytes_eq c.args.s.now (string_bytes k)) c.self.inside.texts.keys ≡ false = sym c.in_default.ensures.found in
    let becomes = put string_bytes c.args.s.now c.self.inside.texts.keys c.insert.new.self.keys c.in_ok-text.text _ (ap (λ b. list_any (λ k. bytes_eq b (string_bytes k)) c.self.inside.texts.keys) c.in_ok-text.ensures.ok ∙ none) c.in_ok-text.ensures.ok c.in_ok-insert.ensures.keys in
    let count : length (map string_bytes c.self.inside.texts.keys) ≡ c.len.result = length-map c.self.inside.texts.keys string_bytes ∙ sym c.len.ensures.len in
    let more : length (map string_bytes c.insert.new.self.keys) ≡ suc (length (map string_bytes c.self.inside.texts.keys)) = ap length becomes ∙ length-behind (map string_bytes c.self.inside.texts.keys) c.args.s.now in
    omega (arith, more, count, c.in-Ok.ensures.1)

pub returns-clause-grows : goal.returns-clause-grows
returns-clause-grows c =
    let none : list_any (λ k. bytes_eq c.args.s.now (string_bytes k)) c.self.inside.texts.keys ≡ false = sym c.in_default.ensures.found in
    let becomes = put string_bytes c.args.s.now c.self.inside.texts.keys c.insert.new.self.keys c.in_ok-text.text _ (ap (λ b. list_any (λ k. bytes_eq b (string_bytes k)) c.self.inside.texts.keys) c.in_ok-text.ensures.ok ∙ none) c.in_ok-text.ensures.ok c.in_ok-insert.ensures.keys in
    let more : length (map string_bytes c.insert.new.self.keys) ≡ suc (length (map string_bytes c.self.inside.texts.keys)) = ap length becomes ∙ length-behind (map string_bytes c.self.inside.texts.keys) c.args.s.now in
    subst (λ v. length v.texts ≤ length (map string_bytes c.insert.new.self.keys)) c.self.view_is (omega (arith, more))

pub returns-clause-keeps : goal.returns-clause-keeps
returns-clause-keeps c =
    let none : list_any (λ k. bytes_eq c.args.s.now (string_bytes k)) c.self.inside.texts.keys ≡ false = sym c.in_default.ensures.found in
    let becomes = put string_bytes c.args.s.now c.self.inside.texts.keys c.insert.new.self.keys c.in_ok-text.text _ (ap (λ b. list_any (λ k. bytes_eq b (string_bytes k)) c.self.inside.texts.keys) c.in_ok-text.ensures.ok ∙ none) c.in_ok-text.ensures.ok c.in_ok-insert.ensures.keys in
    subst (λ v. Keeps v.texts (map string_bytes c.insert.new.self.keys)) c.self.view_is (keeps_behind (map string_bytes c.self.inside.texts.keys) (map string_bytes c.insert.new.self.keys) c.args.s.now becomes)

pub returns-in_default-try_from-clause-known : goal.returns-in_default-try_from-clause-known
returns-in_default-try_from-clause-known c =
    let none : list_any (λ k. bytes_eq c.args.s.now (string_bytes k)) c.self.inside.texts.keys ≡ false = sym c.in_default.ensures.found in
    let gone = absent string_bytes (λ k. bytes_eq c.args.s.now (string_bytes k)) c.args.s.now (λ k is. (bytes_decides c.args.s.now (string_bytes k)).1 (sym is)) c.self.inside.texts.keys none in
    λ has. let at = place_of c.args.self.now.texts c.args.s.now has in absurd (gone at.0 (ap (λ v. slice_get v.texts at.0) c.self.view_is ∙ at.1))

pub returns-in_err-text-clause-known : goal.returns-in_err-text-clause-known
returns-in_err-text-clause-known c =
    let none : list_any (λ k. bytes_eq c.args.s.now (string_bytes k)) c.self.inside.texts.keys ≡ false = sym c.in_default.ensures.found in
    let gone = absent string_bytes (λ k. bytes_eq c.args.s.now (string_bytes k)) c.args.s.now (λ k is. (bytes_decides c.args.s.now (string_bytes k)).1 (sym is)) c.self.inside.texts.keys none in
    λ has. let at = place_of c.args.self.now.texts c.args.s.now has in absurd (gone at.0 (ap (λ v. slice_get v.texts at.0) c.self.view_is ∙ at.1))

pub returns-in_err-insert-clause-known : goal.returns-in_err-insert-clause-known
returns-in_err-insert-clause-known c =
    let none : list_any (λ k. bytes_eq c.args.s.now (string_bytes k)) c.self.inside.texts.keys ≡ false = sym c.in_default.ensures.found in
    let gone = absent string_bytes (λ k. bytes_eq c.args.s.now (string_bytes k)) c.args.s.now (λ k is. (bytes_decides c.args.s.now (string_bytes k)).1 (sym is)) c.self.inside.texts.keys none in
    λ has. let at = place_of c.args.self.now.texts c.args.s.now has in absurd (gone at.0 (ap (λ v. slice_get v.texts at.0) c.self.view_is ∙ at.1))
