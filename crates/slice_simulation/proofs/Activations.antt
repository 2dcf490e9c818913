-- An activation that is entered, and left: in both runs where a kept statement calls, and in the script's run alone where another does.
use Rattle.std.proofs.Common.{◌≡◌, ◌≤◌, ℕ, suc, Bool, true, false, List, [], ◌∷◌, ◌++◌, map, length, Some, option_map, ◌⊎◌, inl, inr, refl, sym, ap, ap₂, subst, ◌∙◌, arith, append_assoc}
use Rattle.std.proofs.lemmas.Bool.{false≢true}
use Rattle.prov_base.specs.declared.place.Pos.{Pos}
use Rattle.py_value.specs.Changes.{after_accesses}
use Rattle.py_value.specs.Contents.{Contents}
use Rattle.py_value.specs.Seen.{SeenLocation, SeenAccess, file_at, var_at, var_is, sets}
use Rattle.py_model.specs.Capture.{Capture}
use Rattle.py_model.specs.History.{spent_on}
use Rattle.py_model.specs.Moment.{Moment, enters, leaves, parameters_set}
use Rattle.py_model.specs.Occurrences.{sets_at, updates_at, owner_stmt}
use Rattle.py_model.specs.Renaming.{Renaming, renamed, renamed_list, renamed_location, renamed_content, renamed_access}
use Rattle.py_model.specs.Running.{State, entering, tell}
use Rattle.slice_law.specs.Closed.{StmtSet}
use Rattle.slice_simulation.proofs.Happenings.{Laws}
use Rattle.slice_simulation.proofs.KeptMoments.{by_access}
use Rattle.slice_simulation.proofs.Marks.{next_at, marked_at, Grows, activations_grow, kept_longer, kept_as_long, one_longer, spent_joined, shifts}
use Rattle.slice_simulation.proofs.OtherMoments.{by_none}
use Rattle.slice_simulation.proofs.Renamings.{accesses_match, untouched}
use Rattle.slice_simulation.specs.Related.{ByAccess, OwnerIsKept, IsInReach, kept_of, both_did, alone_did, Related}
use Rattle.slice_simulation.specs.Renaming.{is_kept, activations_after, all_marks, is_marked, rank, Fits, Matches, SameValue, SameValues, SameScope}

parameters_renamed : (r : Renaming) (a : ℕ) (params : List (List ℕ)) (vs : List Contents)
    → parameters_set (r.scopes a) params (renamed_list r vs) ≡ map (renamed_access r) (parameters_set a params vs)
parameters_renamed r a [] vs = refl
parameters_renamed r a (name ∷ params) [] = refl
parameters_renamed r a (name ∷ params) (v ∷ vs) =
    ap (λ (rest : List SeenAccess). sets (var_at (r.scopes a) name) (var_is (Some (renamed r v))) ∷ rest) (parameters_renamed r a params vs)

renamed_as_long : (r : Renaming) (vs : List Contents) → length (renamed_list r vs) ≡ length vs
renamed_as_long r [] = refl
renamed_as_long r (v ∷ vs) = ap suc (renamed_as_long r vs)

-- parameters alone are set
files_unset : (a : ℕ) (params : List (List ℕ)) (vs : List Contents) (path : List ℕ) → sets_at (file_at path) (parameters_set a params vs) ≡ false
files_unset a [] vs path = refl
files_unset a (name ∷ params) [] path = refl
files_unset a (name ∷ params) (v ∷ vs) path = files_unset a params vs path

none_updated : (a : ℕ) (params : List (List ℕ)) (vs : List Contents) (l : SeenLocation) → updates_at l (parameters_set a params vs) ≡ false
none_updated a [] vs l = refl
none_updated a (name ∷ params) [] l = refl
none_updated a (name ∷ params) (v ∷ vs) l = none_updated a params vs l

enters_same : {at def : Pos} {vs ws : List Contents} {xs ys : List SeenAccess} → vs ≡ ws → xs ≡ ys → enters at def vs xs ≡ enters at def ws ys
enters_same one other = cc

module _ (laws : Laws) (capture : Capture) (names : ℕ → ℕ → Type 0) (known : Pos → Bool) (keep : StmtSet) (upto : List Moment) where
  module _ (at def : Pos) (params : List (List ℕ)) (vs : List Contents) (n : ℕ) (s t : State) (related : Related capture names known keep upto s t) (owner : owner_stmt s.told ≡ Some n) where
    abbrev pub params_here : List SeenAccess
    params_here = parameters_set (suc s.entered) params vs

    -- an activation of the script's run alone
    pub alone_enter_related : keep n ≡ false → Related capture names known keep upto (entering at def params vs s) t
    alone_enter_related out = record {
      follows = alone_did out owner related.follows;
      contents = contents_after;
      kinds = related.kinds;
      counted = related.counted;
      entered_here = ap suc related.entered_here ∙ sym (one_longer (activations_after keep s.told) (is_kept keep (owner_stmt s.told)));
      entered_there = related.entered_there
          ∙ sym (ap (λ mark. length (kept_of (activations_after keep s.told ++ mark ∷ []) (activations_after keep s.told ++ mark ∷ []))) (ap (is_kept keep) owner ∙ out)
          ∙ kept_as_long (activations_after keep s.told));
      noted_names = related.noted_names;
      opened_there = related.opened_there;
      opened_here = λ path is inside. related.opened_here path is (none_of _ inside).2;
      enough = omega (arith, related.enough);
      no_more = omega (arith, related.no_more);
    }
      where
        none_of : (l : SeenLocation) → IsInReach keep l (enters at def vs params_here ∷ s.told)
            → (sets_at l params_here ≡ false) × (updates_at l params_here ≡ false) × IsInReach keep l s.told
        none_of l inside =
            by_none (OwnerIsKept keep s.told) (IsInReach keep l s.told) (sets_at l params_here) (updates_at l params_here) (λ all. false≢true (sym out ∙ all n owner)) inside

        contents_after : (l : SeenLocation) → IsInReach keep l (enters at def vs params_here ∷ s.told) → (r : Renaming) → Fits (all_marks keep upto) r
            → Matches r (after_accesses params_here s.store.at) t.store.at l
        contents_after l inside r fits =
            subst (λ content. t.store.at (renamed_location r l) ≡ option_map (renamed_content r) content) (sym (untouched l params_here s.store.at (none_of l inside).0 (none_of l inside).1))
            (related.contents l (none_of l inside).2 r fits)

    -- an activation of both runs
    module _ (ws : List Contents) (kept : keep n ≡ true) (same : SameValues (all_marks keep upto) vs ws) (news : List Moment) (upto_is : upto ≡ news ++ enters at def vs params_here ∷ s.told) where
      grows : Grows (activations_after keep (enters at def vs params_here ∷ s.told)) (activations_after keep upto)
      grows = subst (λ all. Grows (activations_after keep (enters at def vs params_here ∷ s.told)) (activations_after keep all)) (sym upto_is)
          (activations_grow keep news (enters at def vs params_here ∷ s.told))

      own_mark : is_kept keep (owner_stmt s.told) ≡ true
      own_mark = ap (is_kept keep) owner ∙ kept

      all_is : activations_after keep upto ≡ activations_after keep s.told ++ true ∷ grows.more
      all_is = grows.all_is
          ∙ (ap (λ mark. (activations_after keep s.told ++ mark ∷ []) ++ grows.more) own_mark
          ∙ append_assoc (activations_after keep s.told) (true ∷ []) grows.more)

      pub same_activation : SameScope (all_marks keep upto) (suc s.entered) (suc t.entered)
      same_activation = record {
        is = λ r fits.
            related.entered_there
            ∙ (next_at (activations_after keep s.told) (true ∷ grows.more) (activations_after keep s.told) refl
            ∙ (ap (λ all. rank all (length (activations_after keep s.told))) (sym all_is)
            ∙ (sym (fits.scopes_are (length (activations_after keep s.told))
            (ap (λ all. is_marked all (length (activations_after keep s.told))) all_is ∙ marked_at (activations_after keep s.told) grows.more))
            ∙ ap r.scopes (sym related.entered_here))));
      }

      params_same : (r : Renaming) → Fits (all_marks keep upto) r → parameters_set (suc t.entered) params ws ≡ map (renamed_access r) params_here
      params_same r fits = ap₂ (λ a values. parameters_set a params values) (same_activation.is r fits) (same.is r fits) ∙ parameters_renamed r (suc s.entered) params vs

      as_long : length ws ≡ length vs
      as_long = ap length (same.is (shifts keep upto 0).by (shifts keep upto 0).fits) ∙ renamed_as_long (shifts keep upto 0).by vs

      pub enter_paid : suc (length ws) ≤ t.left
      enter_paid = omega (arith, related.enough, ap spent_on upto_is, spent_joined news (enters at def vs params_here ∷ s.told), as_long)

      pub both_enter_related : Related capture names known keep upto (entering at def params vs s) (entering at def params ws t)
      both_enter_related = record {
        follows = both_did kept owner (λ r fits. enters_same (same.is r fits) (params_same r fits)) related.follows;
        contents = contents_after;
        kinds = related.kinds;
        counted = related.counted;
        entered_here = ap suc related.entered_here ∙ sym (one_longer (activations_after keep s.told) (is_kept keep (owner_stmt s.told)));
        entered_there = ap suc related.entered_there
            ∙ sym (ap (λ mark. length (kept_of (activations_after keep s.told ++ mark ∷ []) (activations_after keep s.told ++ mark ∷ []))) own_mark
            ∙ kept_longer (activations_after keep s.told));
        noted_names = related.noted_names;
        opened_there = related.opened_there;
        opened_here = λ path is inside. related.opened_here path is (no_file path inside);
        enough = omega (arith, related.enough, enter_paid, as_long);
        no_more = omega (arith, related.no_more, as_long);
      }
        where
          no_file : (path : List ℕ) → IsInReach keep (file_at path) (enters at def vs params_here ∷ s.told) → IsInReach keep (file_at path) s.told
          no_file path inside =
              subst (λ test. ByAccess test false (OwnerIsKept keep s.told) (IsInReach keep (file_at path) s.told)) (files_unset (suc s.entered) params vs path)
              (subst (λ test. ByAccess (sets_at (file_at path) params_here) test (OwnerIsKept keep s.told) (IsInReach keep (file_at path) s.told)) (none_updated (suc s.entered) params vs (file_at path)) inside)

          contents_after : (l : SeenLocation) → IsInReach keep l (enters at def vs params_here ∷ s.told) → (r : Renaming) → Fits (all_marks keep upto) r
              → Matches r (after_accesses params_here s.store.at) (after_accesses (parameters_set (suc t.entered) params ws) t.store.at) l
          contents_after l inside r fits =
              subst (λ accesses. Matches r (after_accesses params_here s.store.at) (after_accesses accesses t.store.at) l) (sym (params_same r fits))
              (accesses_match r laws.locations l params_here s.store.at t.store.at
              (by_case (by_access (OwnerIsKept keep s.told) (IsInReach keep l s.told) (sets_at l params_here) (updates_at l params_here) inside)))
            where
              by_case : (sets_at l params_here ≡ true) ⊎ IsInReach keep l s.told → (sets_at l params_here ≡ true) ⊎ Matches r s.store.at t.store.at l
              by_case (inl is) = inl is
              by_case (inr inside) = inr (related.contents l inside r fits)

  module _ (v w : Contents) (n : ℕ) (s t : State) (related : Related capture names known keep upto s t) (owner : owner_stmt s.told ≡ Some n) where
    pub both_leave_related : keep n ≡ true → SameValue (all_marks keep upto) v w → Related capture names known keep upto (tell (leaves v) s) (tell (leaves w) t)
    both_leave_related kept same = record {
      follows = both_did kept owner (λ r fits. ap leaves (same.is r fits)) related.follows;
      contents = related.contents;
      kinds = related.kinds;
      counted = related.counted;
      entered_here = related.entered_here;
      entered_there = related.entered_there;
      noted_names = related.noted_names;
      opened_there = related.opened_there;
      opened_here = related.opened_here;
      enough = omega (arith, related.enough);
      no_more = omega (arith, related.no_more);
    }

    pub alone_leave_related : keep n ≡ false → Related capture names known keep upto (tell (leaves v) s) t
    alone_leave_related out = record {
      follows = alone_did out owner related.follows;
      contents = related.contents;
      kinds = related.kinds;
      counted = related.counted;
      entered_here = related.entered_here;
      entered_there = related.entered_there;
      noted_names = related.noted_names;
      opened_there = related.opened_there;
      opened_here = related.opened_here;
      enough = omega (arith, related.enough);
      no_more = omega (arith, related.no_more);
    }
