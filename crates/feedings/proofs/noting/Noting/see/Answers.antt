use Rattle.std.proofs.Common.{◌≡◌, [], ◌∷◌, ◌++◌, List, ℕ, length, sym, ap, subst, ◌∙◌}
use Rattle.py_model.specs.Moment.{does}
use Rattle.value_links.specs.Taken.{taken_by_links}
use Rattle.feedings.specs.Feeding.{done_in, given_back, notes_after, passed, with_done}
use Rattle.feedings.specs.HasNoted.{given_of}
use Rattle.value_links.specs.Links.{given_as, links, taken_as}
use Rattle.feedings.specs.Noted.{IsStack}
use Rattle.feedings.proofs.NotedLaws.{all_length, nothing_given, on_ok}
use Rattle.feedings.proofs.noting.Noting.see.Goals as goal

pub returns : goal.returns
returns c = λ script told values answer made accesses weight taking count known.
    let old = c.args.self.now in
    let at = c.args.at in
    let op = c.args.op in
    let notes = notes_after script told in
    let time : c.count-time.result ≡ length told = c.count-time.ensures ∙ ap (λ (lists : List (List ℕ)). length lists) known.fed ∙ all_length script told in
    let items : c.extend_from_slice.new.self.items ≡ passed script (does at op values answer made accesses weight) told =
    c.in_ok-extend_from_slice.ensures.items
    ∙ ap (λ (given : List ℕ). c.in_ok-times.times.items ++ given) (c.given_back.ensures ∙ sym (known.left op))
    ∙ ap (λ (taken : List ℕ). taken ++ given_back script op told) (c.in_ok-times.ensures (links script) notes taking known.stack
    ∙ ap (λ (kind : ℕ). taken_by_links (record { at = at; kind = kind }) c.args.count (done_in notes) (links script)) c.taken_as.ensures
    ∙ ap (λ (k : ℕ). taken_by_links (record { at = at; kind = taken_as op }) k (done_in notes) (links script)) (sym count)) in
    on_ok c.note.result (c.note.ensures notes known.stack) (λ stack. record {
      stack = subst (λ t. IsStack c.note.new.self (with_done (record { point = record { at = at; kind = given_as op }; time = t }) notes)) time
          (subst (λ kind. IsStack c.note.new.self (with_done (record { point = record { at = at; kind = kind }; time = c.count-time.result }) notes)) c.given_as.ensures stack);
      left = λ other. nothing_given other ∙ ap (given_of other) (sym (c.of.ensures ∙ c.new.ensures.items));
      fed = c.in_ok-push.ensures ∙ ap (λ (times : List ℕ). old.fed ++ times ∷ []) (c.of-2.ensures ∙ items)
          ∙ ap (λ (lists : List (List ℕ)). lists ++ passed script (does at op values answer made accesses weight) told ∷ []) known.fed;
    })
