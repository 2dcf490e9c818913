-- All other moments keep the relation of the two runs too: what a deleted statement does, and what begins and ends.
use Rattle.std.proofs.Common.{◌≡◌, ◌≤◌, ℕ, suc, Bool, true, false, List, ◌∷◌, ◌++◌, map, length, Some, None, option_map, ◌⊎◌, inl, inr, refl, sym, ap, ap₂, subst, ◌∙◌, arith}
use Rattle.std.proofs.lemmas.Bool.{false≢true}
use Rattle.prov_base.specs.declared.place.Pos.{Pos}
use Rattle.prov_base.specs.contracts.place.PosPartialEq.TheImpl.{ghosts as places}
use Rattle.py_value.specs.Contents.{Contents}
use Rattle.py_value.specs.Seen.{SeenLocation, file_at}
use Rattle.py_model.specs.Capture.{Capture, answers_at, found_in}
use Rattle.py_model.specs.Effect.{Effect, accesses_in, after, weight}
use Rattle.py_model.specs.History.{spent_on}
use Rattle.py_model.specs.Moment.{Moment, begins, does, ends, Ending, normal_end}
use Rattle.py_model.specs.Occurrences.{sets_at, updates_at, owner_stmt}
use Rattle.py_model.specs.Operations.{Op, plan}
use Rattle.py_model.specs.Act.{Walked}
use Rattle.py_model.specs.Plan.{Answer}
use Rattle.py_model.specs.Quiet.{may_ask}
use Rattle.py_model.specs.Renaming.{Renaming, renamed_location, renamed_content, renamed_kind}
use Rattle.py_model.specs.Running.{Asking, State, did, askings_at, effect_of, operation, performed, beginning, tell}
use Rattle.py_model.specs.Store.{has_path}
use Rattle.slice_law.specs.Closed.{StmtSet}
use Rattle.slice_simulation.proofs.Happenings.{Laws, DidSo, did_so, asked_after, fetched_after, with_asked, note_as, asked_elsewhere}
use Rattle.slice_simulation.proofs.Marks.{kinds_alone, counted_made, spent_joined}
use Rattle.slice_simulation.proofs.Renamings.{untouched}
use Rattle.slice_simulation.proofs.Opened.{opens_at, open_keeps, open_from, IsLeft, OpensTidily, tidily}
use Rattle.slice_simulation.proofs.Touching.{kinds_grow}
use Rattle.slice_simulation.specs.Related.{IsThere, IsCalledOutside, ByAccess, OwnerIsKept, IsInReach, alone_did, both_began, alone_began, passed, both_ended, alone_ended, kept_of, Related}
use Rattle.slice_simulation.specs.Renaming.{is_kept, with_mark, marks_after, Fits, Matches, all_marks}

-- where the owner is not kept, neither set nor updated
pub by_none : (own earlier : Type 0) (a b : Bool) → (own → ⊥) → ByAccess a b own earlier → (a ≡ false) × (b ≡ false) × earlier
by_none own earlier true b none there = absurd (none there)
by_none own earlier false true none there = absurd (none there.0)
by_none own earlier false false none there = (refl, refl, there)

module _ (laws : Laws) (capture : Capture) (names : ℕ → ℕ → Type 0) (known : Pos → Bool) (keep : StmtSet) (upto : List Moment) where
  pub alone_moment : (at : Pos) (p : Op) (vs : List Contents) (answer : Answer) (e : Effect) (n : ℕ) (s t : State) (a : List Asking) (f : List (List ℕ))
      → Related capture names known keep upto s t → keep n ≡ false → owner_stmt s.told ≡ Some n → ((place : Pos) → known place ≡ true → (after e s.store).names place ≡ s.store.names place) → ((path : List ℕ) → OpensTidily path s.store (answers_at capture at (suc (askings_at at s.askings))) None e) → Related capture names known keep upto (performed at p vs answer e (record s { askings = a; fetches = f })) t
  alone_moment at p vs answer e n s t a f related out owner unnoted tidy = record {
    follows = alone_did out owner related.follows;
    contents = λ l inside r fits. contents_after l inside r fits;
    kinds = λ r fits.
        kinds_alone (renamed_kind r) (marks_after keep s.told) s.store.kinds t.store.kinds related.counted (related.kinds r fits) e.made
        ∙ ap₂ (λ mark kinds. map (renamed_kind r) (kept_of (with_mark e.made mark (marks_after keep s.told)) kinds)) (sym own_mark) (sym (kinds_grow e s.store));
    entered_here = related.entered_here;
    entered_there = related.entered_there;
    counted = ap length (kinds_grow e s.store) ∙ counted_made e.made (is_kept keep (owner_stmt s.told)) (marks_after keep s.told) s.store.kinds related.counted;
    noted_names = λ place is. related.noted_names place is ∙ sym (unnoted place is);
    opened_there = λ path is. open_keeps path e s.store (related.opened_there path is);
    opened_here = opened_after;
    enough = omega (arith, related.enough);
    no_more = omega (arith, related.no_more);
  }
    where
      own_mark : is_kept keep (owner_stmt s.told) ≡ false
      own_mark = ap (is_kept keep) owner ∙ out

      opened_after : (path : List ℕ) → has_path path (after e s.store).opened ≡ true
          → IsInReach keep (file_at path) (does at p.no vs answer e.made (accesses_in e.touches) (weight e) ∷ s.told) → (has_path path t.store.opened ≡ true) ⊎ IsThere (found_in capture.files) path
      opened_after path is inside = by_parts
          (by_none (OwnerIsKept keep s.told) (IsInReach keep (file_at path) s.told) (sets_at (file_at path) (accesses_in e.touches)) (updates_at (file_at path) (accesses_in e.touches))
          (λ all. false≢true (sym out ∙ all n owner)) inside)
          (open_from path e s.store is)
        where
          by_sets : sets_at (file_at path) (accesses_in e.touches) ≡ false → IsInReach keep (file_at path) s.told
              → (sets_at (file_at path) (accesses_in e.touches) ≡ true) ⊎ IsLeft path s.store (answers_at capture at (suc (askings_at at s.askings))) None
              → (has_path path t.store.opened ≡ true) ⊎ IsThere (found_in capture.files) path
          by_sets none before (inl there) = absurd (false≢true (sym none ∙ there))
          by_sets none before (inr (inl not)) = absurd cc
          by_sets none before (inr (inr (inl was))) = related.opened_here path was before
          by_sets none before (inr (inr (inr there))) = inr there

          by_parts : (sets_at (file_at path) (accesses_in e.touches) ≡ false) × (updates_at (file_at path) (accesses_in e.touches) ≡ false) × IsInReach keep (file_at path) s.told
              → (has_path path s.store.opened ≡ true) ⊎ (opens_at path e.touches ≡ true) → (has_path path t.store.opened ≡ true) ⊎ IsThere (found_in capture.files) path
          by_parts parts (inl was) = related.opened_here path was parts.2
          by_parts parts (inr now) = by_sets parts.0 parts.2 ((tidy path).sets_it_too now)

      contents_after : (l : SeenLocation) → IsInReach keep l (does at p.no vs answer e.made (accesses_in e.touches) (weight e) ∷ s.told) → (r : Renaming) → Fits (all_marks keep upto) r
          → Matches r (after e s.store).at t.store.at l
      contents_after l inside r fits = by_parts
          (by_none (OwnerIsKept keep s.told) (IsInReach keep l s.told) (sets_at l (accesses_in e.touches)) (updates_at l (accesses_in e.touches))
          (λ all. false≢true (sym out ∙ all n owner)) inside)
        where
          by_parts : (sets_at l (accesses_in e.touches) ≡ false) × (updates_at l (accesses_in e.touches) ≡ false) × IsInReach keep l s.told → Matches r (after e s.store).at t.store.at l
          by_parts parts =
              subst (λ here. Matches r here t.store.at l) (sym (laws.changes e s.store))
              (subst (λ content. t.store.at (renamed_location r l) ≡ option_map (renamed_content r) content) (sym (untouched l (accesses_in e.touches) s.store.at parts.0 parts.1)) (related.contents l parts.2 r fits))

  module _ (n m : ℕ) (s t : State) (related : Related capture names known keep upto s t) where
    -- the budget of a slice pays for what the script's run has done up to the last moment
    pub begin_paid : (news : List Moment) → upto ≡ news ++ begins n ∷ s.told → 1 ≤ t.left
    begin_paid news is = omega (arith, related.enough, ap spent_on is, spent_joined news (begins n ∷ s.told))

    pub both_begin_related : keep n ≡ true → names n m → 1 ≤ t.left → Related capture names known keep upto (beginning n s) (beginning m t)
    both_begin_related kept named pays = record {
      follows = both_began kept named related.follows;
      contents = related.contents;
      kinds = related.kinds;
      counted = related.counted;
      entered_here = related.entered_here;
      entered_there = related.entered_there;
      noted_names = related.noted_names;
      opened_there = related.opened_there;
      opened_here = related.opened_here;
      enough = omega (arith, related.enough, pays);
      no_more = omega (arith, related.no_more);
    }

    pub alone_begin_related : keep n ≡ false → ((p : ℕ) → names n p → ⊥) ⊎ IsCalledOutside keep s.told → Related capture names known keep upto (beginning n s) t
    alone_begin_related out lone = record {
      follows = alone_began out lone related.follows;
      contents = related.contents;
      kinds = related.kinds;
      counted = related.counted;
      entered_here = related.entered_here;
      entered_there = related.entered_there;
      noted_names = related.noted_names;
      opened_there = related.opened_there;
      opened_here = related.opened_here;
      enough = omega (arith, related.enough);
      no_more = omega (arith, related.no_more);
    }

    pub pass_related : keep n ≡ false → names n m → 1 ≤ t.left → Related capture names known keep upto (beginning n s) (tell (ends m normal_end) (beginning m t))
    pass_related out named pays = record {
      follows = passed out named related.follows;
      contents = related.contents;
      kinds = related.kinds;
      counted = related.counted;
      entered_here = related.entered_here;
      entered_there = related.entered_there;
      noted_names = related.noted_names;
      opened_there = related.opened_there;
      opened_here = related.opened_here;
      enough = omega (arith, related.enough, pays);
      no_more = omega (arith, related.no_more);
    }

    pub both_end_related : (ended : Ending) → keep n ≡ true → names n m → Related capture names known keep upto (tell (ends n ended) s) (tell (ends m ended) t)
    both_end_related ended kept named = record {
      follows = both_ended kept named related.follows;
      contents = related.contents;
      kinds = related.kinds;
      counted = related.counted;
      entered_here = related.entered_here;
      entered_there = related.entered_there;
      noted_names = related.noted_names;
      opened_there = related.opened_there;
      opened_here = related.opened_here;
      enough = omega (arith, related.enough);
      no_more = omega (arith, related.no_more);
    }

    pub alone_end_related : (ended : Ending) → keep n ≡ false → Related capture names known keep upto (tell (ends n ended) s) t
    alone_end_related ended out = record {
      follows = alone_ended out related.follows;
      contents = related.contents;
      kinds = related.kinds;
      counted = related.counted;
      entered_here = related.entered_here;
      entered_there = related.entered_there;
      noted_names = related.noted_names;
      opened_there = related.opened_there;
      opened_here = related.opened_here;
      enough = omega (arith, related.enough);
      no_more = omega (arith, related.no_more);
    }

  pub deleted_moment : (at : Pos) (p : Op) (vs : List Contents) (n : ℕ) (s t next : State) (answer : Answer) (came : Walked)
      → Related capture names known keep upto s t → keep n ≡ false → owner_stmt s.told ≡ Some n → operation capture at p vs s ≡ did answer came next
      → ((place : Pos) → known place ≡ true → next.store.names place ≡ s.store.names place) → Related capture names known keep upto next t
  deleted_moment at p vs n s t next answer came related out owner happens unnoted =
      subst (λ next. Related capture names known keep upto next t) (sym so.next_is)
      (alone_moment at p vs answer (effect_of capture at p vs s) n s t
      (asked_after at (suc (askings_at at s.askings)) (effect_of capture at p vs s).touches s.askings) (fetched_after (effect_of capture at p vs s).touches s.fetches)
      related out owner (subst (λ next. (place : Pos) → known place ≡ true → next.store.names place ≡ s.store.names place) so.next_is unnoted)
      (λ path. tidily path s.store (answers_at capture at (suc (askings_at at s.askings))) None (plan p vs) (laws.tidy p vs)))
    where
      so : DidSo at p vs (effect_of capture at p vs s) (effect_of capture at p vs s).outcome (with_asked at (suc (askings_at at s.askings)) (effect_of capture at p vs s).touches s) answer came next
      so = did_so at p vs capture s (with_asked at (suc (askings_at at s.askings)) (effect_of capture at p vs s).touches s) answer came next
          (note_as at (suc (askings_at at s.askings)) (effect_of capture at p vs s).touches s) happens

  -- it asks at its own place alone
  pub deleted_askings : (at : Pos) (p : Op) (vs : List Contents) (s next : State) (answer : Answer) (came : Walked)
      → operation capture at p vs s ≡ did answer came next → (place : Pos) → (may_ask p.no ≡ true → places.eq at place ≡ false) → askings_at place next.askings ≡ askings_at place s.askings
  deleted_askings at p vs s next answer came happens place apart = by_asking (may_ask p.no) refl
    where
      by_asking : (test : Bool) → may_ask p.no ≡ test → askings_at place next.askings ≡ askings_at place s.askings
      by_asking false is =
          ap (λ (next : State). askings_at place next.askings)
          (did_so at p vs capture s s answer came next (laws.unnoted s.store _ (plan p vs) at (suc (askings_at at s.askings)) s (laws.quiet p vs is)) happens).next_is
      by_asking true is =
          ap (λ (next : State). askings_at place next.askings)
          (did_so at p vs capture s (with_asked at (suc (askings_at at s.askings)) (effect_of capture at p vs s).touches s) answer came next
          (note_as at (suc (askings_at at s.askings)) (effect_of capture at p vs s).touches s) happens).next_is
          ∙ asked_elsewhere at place (suc (askings_at at s.askings)) (effect_of capture at p vs s).touches s.askings (apart is)
