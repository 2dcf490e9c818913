-- What a kept statement's operation does in the script's run, it does in the slice's too, up to the numbers of objects.
use Rattle.std.proofs.Common.{◌≡◌, ◌≤◌, ◌<◌, ◌+◌, ◌-◌, ℕ, suc, Bool, true, false, List, [], ◌∷◌, ◌++◌, map, length, slice_get, Option, Some, None, option_map, ◌⊎◌, inl, inr, refl, sym, ap, ap₂, subst, ◌∙◌, arith, append_assoc}
use Rattle.std.proofs.lemmas.List.{length-map}
use Rattle.std.proofs.lemmas.Option.{slice_get-map}
use Rattle.prov_base.specs.declared.place.Pos.{Pos}
use Rattle.py_value.specs.Contents.{Contents}
use Rattle.py_value.specs.Seen.{SeenLocation, SeenAccess, SeenKind, file_at, reads, sets, updates}
use Rattle.py_model.specs.Act.{Walked}
use Rattle.py_model.specs.Agreement.{Alike, Agrees, NextCorresponds}
use Rattle.py_model.specs.Capture.{Capture, answers_at, found_in}
use Rattle.py_model.specs.Effect.{Touch, answered, Answers, Effect, effect, accesses_in, after, after_accesses, weight, cost}
use Rattle.py_model.specs.History.{spent_on, with_kind}
use Rattle.py_model.specs.Moment.{Moment, does}
use Rattle.py_model.specs.Occurrences.{sets_at, updates_at, owner_stmt}
use Rattle.py_model.specs.Operations.{Op, plan}
use Rattle.py_model.specs.Plan.{Answer}
use Rattle.py_model.specs.Quiet.{may_ask}
use Rattle.py_model.specs.Renaming.{Renaming, renamed_touch, renamed_answer, renamed_kind, renamed_access, renamed_outcome, renamed_effect}
use Rattle.py_model.specs.Running.{Asking, State, did, askings_at, walked, performed, effect_of, operation}
use Rattle.py_model.specs.Store.{RunStore, has_path}
use Rattle.model_laws.specs.Flow.{KeepsKnown, KnownStore}
use Rattle.slice_simulation.proofs.KnownNames.{names_unread}
use Rattle.slice_law.specs.Closed.{StmtSet}
use Rattle.slice_simulation.proofs.Happenings.{Laws, DidSo, did_so, do_so, asked_after, fetched_after, with_asked, note_as, asked_alike}
use Rattle.slice_simulation.proofs.Marks.{kind_at, next_at, marked_at, kinds_made, counted_made, Grows, marks_grow, spent_joined, shifts}
use Rattle.slice_simulation.proofs.Late.{SameBut, but_accesses, but_weight, but_cost, but_opens, but_askings, but_store, AreOpened, opened_at, all_opened, late}
use Rattle.slice_simulation.proofs.Opened.{opens_at, open_keeps, open_now, open_from, same_opens, tidily}
use Rattle.slice_simulation.proofs.Readings.{AreRead, agrees}
use Rattle.slice_simulation.proofs.Renamings.{accesses_match}
use Rattle.slice_simulation.proofs.Touching.{kinds_grow, AlikeNotes, notes_after, same_accesses, walked_same}
use Rattle.slice_simulation.specs.Related.{IsThere, AllInReach, DoneAgain, ByAccess, OwnerIsKept, IsInReach, both_did, kept_of, Related}
use Rattle.slice_simulation.specs.Renaming.{is_kept, with_mark, marks_after, is_marked, rank, Fits, Matches, IsShifted, SameValues, SameOp, Marks, all_marks}

pub by_access : (own earlier : Type 0) (a b : Bool) → ByAccess a b own earlier → (a ≡ true) ⊎ earlier
by_access own earlier true b there = inl refl
by_access own earlier false true there = inr there.1
by_access own earlier false false there = inr there

does_same : {at : Pos} {m n : ℕ} {vs ws : List Contents} {a b : Answer} {j k : Option SeenKind} {xs ys : List SeenAccess} {c d : ℕ}
    → m ≡ n → vs ≡ ws → a ≡ b → j ≡ k → xs ≡ ys → c ≡ d → does at m vs a j xs c ≡ does at n ws b k ys d
does_same one two three four five six = cc

left_falls : (c left : ℕ) → 1 ≤ c → c ≤ left → left - c < left
left_falls c left some pays = omega (arith, some, pays)

answered_same : (a b : Answer) → answered a ≡ answered b → a ≡ b
answered_same a b is = cc

module _ (laws : Laws) (capture : Capture) (names : ℕ → ℕ → Type 0) (known : Pos → Bool) (keep : StmtSet) (upto : List Moment) where
  abbrev pub marks : Marks
  marks = all_marks keep upto

  module _ (at : Pos) (p q : Op) (vs ws : List Contents) (n : ℕ) (s t : State)
      (related : Related capture names known keep upto s t) (kept : keep n ≡ true) (owner : owner_stmt s.told ≡ Some n)
      (same_op : SameOp marks p q) (same_values : SameValues marks vs ws) (same_asked : effect_of capture at q ws t ≡ effect t.store (answers_at capture at (suc (askings_at at s.askings))) (plan q ws))
      (keeps : KeepsKnown known (plan q ws)) (knows : KnownStore known t.store) where
    abbrev pub own : Effect
    own = effect_of capture at p vs s

    abbrev pub other : Effect
    other = effect_of capture at q ws t

    abbrev pub moment : Answer → Moment
    moment answer = does at p.no vs answer own.made (accesses_in own.touches) (weight own)

    read_known : (accesses : List SeenAccess) → AllInReach keep s.told accesses → AreRead s.store t.store marks accesses
    read_known [] there = tt
    read_known (reads l ∷ accesses) there = (related.contents l there.0, read_known accesses there.1)
    read_known (sets l content ∷ accesses) there = read_known accesses there
    read_known (updates l how ∷ accesses) there = read_known accesses there

    -- the slice's store, as if the paths that the script's run opened were opened there
    abbrev full : RunStore
    full = record t.store { opened = s.store.opened }

    abbrev here : Answers
    here = answers_at capture at (suc (askings_at at s.askings))

    -- and as if the names that it noted were noted there
    abbrev full_named : RunStore
    full_named = record t.store { opened = s.store.opened; names = s.store.names }

    known_full : (accesses : List SeenAccess) → AllInReach keep s.told accesses → AreRead s.store full_named marks accesses
    known_full [] there = tt
    known_full (reads l ∷ accesses) there = (related.contents l there.0, known_full accesses there.1)
    known_full (sets l content ∷ accesses) there = known_full accesses there
    known_full (updates l how ∷ accesses) there = known_full accesses there

    known_opened : (accesses : List SeenAccess) → AllInReach keep s.told accesses → AreOpened s.store.opened t.store here accesses
    known_opened [] there = tt
    known_opened (reads l ∷ accesses) there =
        (opened_at s.store.opened t.store here l (λ path is before. related.opened_here path before (subst (λ m. IsInReach keep m s.told) is there.0)), known_opened accesses there.1)
    known_opened (sets l content ∷ accesses) there = known_opened accesses there
    known_opened (updates l how ∷ accesses) there = known_opened accesses there

    abbrev pub fully : Effect
    fully = effect full here (plan q ws)

    named_fully : effect full_named here (plan q ws) ≡ fully
    named_fully = names_unread known full (record { at = knows.at; kinds = knows.kinds }) s.store.names (λ place is. sym (related.noted_names place is)) here (plan q ws) keeps

    module _ (answer : Answer) (news : List Moment) (upto_is : upto ≡ news ++ moment answer ∷ s.told)
        (there : AllInReach keep s.told (accesses_in own.touches)) where
      now_marks : List Bool
      now_marks = marks_after keep s.told

      grows : Grows (marks_after keep (moment answer ∷ s.told)) marks.objects
      grows = subst (λ all. Grows (marks_after keep (moment answer ∷ s.told)) (marks_after keep all)) (sym upto_is) (marks_grow keep news (moment answer ∷ s.told))

      sooner : Grows (marks_after keep s.told) marks.objects
      sooner = subst (λ all. Grows (marks_after keep s.told) (marks_after keep all)) (sym (upto_is ∙ sym (append_assoc news (moment answer ∷ []) s.told)))
          (marks_grow keep (news ++ moment answer ∷ []) s.told)

      kinds_agree : (o : ℕ) → is_marked marks.objects o ≡ true → (r : Renaming) → Fits marks r
          → slice_get t.store.kinds (r.objects o) ≡ option_map (renamed_kind r) (slice_get s.store.kinds o)
      kinds_agree o marked r fits =
          ap₂ slice_get (related.kinds r fits) (fits.objects_are o marked ∙ ap (λ all. rank all o) sooner.all_is)
          ∙ (slice_get-map (renamed_kind r) (kept_of (marks_after keep s.told) s.store.kinds) (rank (marks_after keep s.told ++ sooner.more) o)
          ∙ ap (option_map (renamed_kind r)) (kind_at (marks_after keep s.told) sooner.more s.store.kinds o related.counted (ap (λ all. is_marked all o) (sym sooner.all_is) ∙ marked)))

      own_mark : is_kept keep (owner_stmt s.told) ≡ true
      own_mark = ap (is_kept keep) owner ∙ kept

      next_is : (r : Renaming) → Fits marks r → (kind : SeenKind) → own.made ≡ Some kind → NextCorresponds r s.store t.store
      next_is r fits kind made =
          ap length (related.kinds r fits)
          ∙ (length-map (kept_of (marks_after keep s.told) s.store.kinds) (renamed_kind r)
          ∙ (next_at (marks_after keep s.told) (true ∷ grows.more) s.store.kinds related.counted
          ∙ (ap (λ all. rank all (length (marks_after keep s.told))) (sym all_is)
          ∙ (sym (fits.objects_are (length (marks_after keep s.told)) (ap (λ all. is_marked all (length (marks_after keep s.told))) all_is ∙ marked_at (marks_after keep s.told) grows.more))
          ∙ ap r.objects (sym related.counted)))))
        where
          all_is : marks.objects ≡ marks_after keep s.told ++ true ∷ grows.more
          all_is = grows.all_is
              ∙ (ap₂ (λ made mark. with_mark made mark (marks_after keep s.told) ++ grows.more) made own_mark
              ∙ append_assoc (marks_after keep s.told) (true ∷ []) grows.more)

      reads_agree : (r : Renaming) → Fits marks r → Agrees r s.store full_named here here (plan p vs)
      reads_agree r fits =
          agrees s.store full_named marks near far kinds_agree (λ place. refl) (λ path. refl) here r fits (plan p vs) (plan q ws)
          (alike near) (alike far) (known_full (accesses_in own.touches) there) (next_is r fits)
        where
          near : IsShifted marks 0
          near = shifts keep upto 0

          far : IsShifted marks 1
          far = shifts keep upto 1

          alike : {more : ℕ} → (shift : IsShifted marks more) → Alike shift.by (plan p vs) (plan q ws)
          alike shift = subst (Alike shift.by (plan p vs)) (sym (ap₂ plan (same_op.is shift.by shift.fits) (same_values.is shift.by shift.fits))) (laws.alike shift.by p vs)

      agreed : (r : Renaming) → Fits marks r → (fully ≡ renamed_effect r own) × (weight fully ≡ weight own) × (cost fully ≡ cost own)
      agreed r fits = subst (λ e. (e ≡ renamed_effect r own) × (weight e ≡ weight own) × (cost e ≡ cost own))
          (sym (ap₂ (λ op values. effect full_named here (plan op values)) (same_op.is r fits) (same_values.is r fits)) ∙ named_fully) (laws.agree r s.store full_named here here p vs (reads_agree r fits))

      pub full_effect : (r : Renaming) → Fits marks r → fully ≡ renamed_effect r own
      full_effect r fits = (agreed r fits).0

      full_accesses : (r : Renaming) → Fits marks r → accesses_in fully.touches ≡ map (renamed_access r) (accesses_in own.touches)
      full_accesses r fits = ap (λ e. accesses_in e.touches) (full_effect r fits) ∙ same_accesses r own.touches

      -- what is done differs in what is fetched alone
      pub same_but : SameBut fully other
      same_but = subst (SameBut fully) (sym same_asked)
          (late s.store.opened t.store here related.opened_there None (plan q ws) (laws.tidy q ws)
          (subst (AreOpened s.store.opened t.store here) (sym (full_accesses (shifts keep upto 0).by (shifts keep upto 0).fits))
          (all_opened s.store.opened t.store here (shifts keep upto 0).by (accesses_in own.touches) (known_opened (accesses_in own.touches) there))))

      same_made : (r : Renaming) → Fits marks r → other.made ≡ option_map (renamed_kind r) own.made
      same_made r fits = same_but.made ∙ ap (λ e. e.made) (full_effect r fits)

      same_outcome : (r : Renaming) → Fits marks r → other.outcome ≡ renamed_outcome r own.outcome
      same_outcome r fits = same_but.outcome ∙ ap (λ e. e.outcome) (full_effect r fits)

      same_weight : weight other ≡ weight own
      same_weight = but_weight fully other same_but ∙ (agreed (shifts keep upto 0).by (shifts keep upto 0).fits).1

      same_cost : cost other ≡ cost own
      same_cost = but_cost fully other same_but ∙ (agreed (shifts keep upto 0).by (shifts keep upto 0).fits).2

      others_accesses : (r : Renaming) → Fits marks r → accesses_in other.touches ≡ map (renamed_access r) (accesses_in own.touches)
      others_accesses r fits = but_accesses fully other same_but ∙ full_accesses r fits

      enough_left : cost own + spent_on s.told ≤ t.left + spent_on s.told
      enough_left = omega (arith, related.enough, ap spent_on upto_is, spent_joined news (moment answer ∷ s.told))

      module _ (answers : own.outcome ≡ answered answer) where
        abbrev pub again : Answer
        again = renamed_answer (shifts keep upto 0).by answer

        outcome_is : other.outcome ≡ answered again
        outcome_is = same_outcome (shifts keep upto 0).by (shifts keep upto 0).fits ∙ ap (renamed_outcome (shifts keep upto 0).by) answers

        again_is : (r : Renaming) → Fits marks r → again ≡ renamed_answer r answer
        again_is r fits = answered_same again (renamed_answer r answer) (sym outcome_is ∙ (same_outcome r fits ∙ ap (renamed_outcome r) answers))

        pub related_after : (a b : List Asking) (f g : List (List ℕ))
            → Related capture names known keep upto (performed at p vs answer own (record s { askings = a; fetches = f })) (performed at q ws again other (record t { askings = b; fetches = g }))
        related_after a b f g = record {
          follows = both_did kept owner (λ r fits. does_same (ap (λ op. op.no) (same_op.is r fits)) (same_values.is r fits) (again_is r fits)
              (same_made r fits) (others_accesses r fits) same_weight) related.follows;
          contents = λ l inside r fits. contents_after l inside r fits;
          kinds = λ r fits.
              kinds_grow other t.store
              ∙ (ap (λ made. with_kind made t.store.kinds) (same_made r fits)
              ∙ (kinds_made (renamed_kind r) (marks_after keep s.told) s.store.kinds t.store.kinds related.counted (related.kinds r fits) own.made
              ∙ ap₂ (λ mark kinds. map (renamed_kind r) (kept_of (with_mark own.made mark (marks_after keep s.told)) kinds)) (sym own_mark) (sym (kinds_grow own s.store))));
          counted = ap length (kinds_grow own s.store) ∙ counted_made own.made (is_kept keep (owner_stmt s.told)) (marks_after keep s.told) s.store.kinds related.counted;
          entered_here = related.entered_here;
          entered_there = related.entered_there;
          noted_names = notes.names;
          opened_there = λ path is. there_after path (open_from path other t.store is);
          opened_here = λ path is inside. here_after path (by_access (OwnerIsKept keep s.told) (IsInReach keep (file_at path) s.told) (sets_at (file_at path) (accesses_in own.touches)) (updates_at (file_at path) (accesses_in own.touches)) inside)
              (open_from path own s.store is);
          enough = omega (arith, related.enough, same_cost, enough_left);
          no_more = omega (arith, related.no_more, same_cost);
        }
          where
            notes : AlikeNotes known (after own s.store) (after other t.store)
            notes = subst (AlikeNotes known (after own s.store)) (sym (but_store fully other same_but t.store ∙ ap (λ e. after e t.store) (full_effect (shifts keep upto 0).by (shifts keep upto 0).fits)))
                (notes_after (shifts keep upto 0).by known own s.store t.store (record { names = related.noted_names }))

            same_paths : (path : List ℕ) → opens_at path other.touches ≡ opens_at path own.touches
            same_paths path = but_opens fully other same_but path ∙ (ap (λ e. opens_at path e.touches) (full_effect (shifts keep upto 0).by (shifts keep upto 0).fits) ∙ same_opens path (shifts keep upto 0).by own.touches)

            there_after : (path : List ℕ) → (has_path path t.store.opened ≡ true) ⊎ (opens_at path other.touches ≡ true) → has_path path (after own s.store).opened ≡ true
            there_after path (inl was) = open_keeps path own s.store (related.opened_there path was)
            there_after path (inr now) = open_now path own s.store (sym (same_paths path) ∙ now)

            here_after : (path : List ℕ) → (sets_at (file_at path) (accesses_in own.touches) ≡ true) ⊎ IsInReach keep (file_at path) s.told
                → (has_path path s.store.opened ≡ true) ⊎ (opens_at path own.touches ≡ true) → (has_path path (after other t.store).opened ≡ true) ⊎ IsThere (found_in capture.files) path
            here_after path (inl set) read_known = inl (open_now path other t.store (same_paths path ∙ (tidily path s.store here None (plan p vs) (laws.tidy p vs)).opens_it_too set))
            here_after path (inr inside) (inr now) = inl (open_now path other t.store (same_paths path ∙ now))
            here_after path (inr inside) (inl was) = by_before (related.opened_here path was inside)
              where
                by_before : (has_path path t.store.opened ≡ true) ⊎ IsThere (found_in capture.files) path → (has_path path (after other t.store).opened ≡ true) ⊎ IsThere (found_in capture.files) path
                by_before (inl there) = inl (open_keeps path other t.store there)
                by_before (inr there) = inr there

            before : (l : SeenLocation) → IsInReach keep l (moment answer ∷ s.told) → (r : Renaming) → Fits marks r
                → (sets_at l (accesses_in own.touches) ≡ true) ⊎ Matches r s.store.at t.store.at l
            before l inside r fits = by_case (by_access (OwnerIsKept keep s.told) (IsInReach keep l s.told) (sets_at l (accesses_in own.touches)) (updates_at l (accesses_in own.touches)) inside)
              where
                by_case : (sets_at l (accesses_in own.touches) ≡ true) ⊎ IsInReach keep l s.told → (sets_at l (accesses_in own.touches) ≡ true) ⊎ Matches r s.store.at t.store.at l
                by_case (inl is) = inl is
                by_case (inr inside) = inr (related.contents l inside r fits)

            contents_after : (l : SeenLocation) → IsInReach keep l (moment answer ∷ s.told) → (r : Renaming) → Fits marks r
                → Matches r (after own s.store).at (after other t.store).at l
            contents_after l inside r fits =
                subst (λ here. Matches r here (after other t.store).at l) (sym (laws.changes own s.store))
                (subst (λ there. Matches r (after_accesses (accesses_in own.touches) s.store.at) there l)
                (sym (laws.changes other t.store ∙ ap (λ accesses. after_accesses accesses t.store.at) (others_accesses r fits)))
                (accesses_match r laws.locations l (accesses_in own.touches) s.store.at t.store.at (before l inside r fits)))

  -- the slice's run is given the same answers
  asks_alike : (at : Pos) (p q : Op) (ws : List Contents) (s t : State) → q.no ≡ p.no → (may_ask p.no ≡ false) ⊎ (askings_at at t.askings ≡ askings_at at s.askings)
      → effect_of capture at q ws t ≡ effect t.store (answers_at capture at (suc (askings_at at s.askings))) (plan q ws)
  asks_alike at p q ws s t number (inl none) =
      laws.same t.store (answers_at capture at (suc (askings_at at s.askings))) (answers_at capture at (suc (askings_at at t.askings))) (plan q ws) (laws.quiet q ws (ap may_ask number ∙ none))
  asks_alike at p q ws s t number (inr same) = ap (λ k. effect t.store (answers_at capture at (suc k)) (plan q ws)) same

  -- one moment of a kept statement
  pub kept_moment : (at : Pos) (p q : Op) (vs ws : List Contents) (n : ℕ) (s t next : State) (answer : Answer) (came : Walked)
      → Related capture names known keep upto s t → keep n ≡ true → owner_stmt s.told ≡ Some n → SameOp marks p q → SameValues marks vs ws
      → (may_ask p.no ≡ false) ⊎ (askings_at at t.askings ≡ askings_at at s.askings)
      → KeepsKnown known (plan q ws) → KnownStore known t.store
      → operation capture at p vs s ≡ did answer came next → (news : List Moment) → upto ≡ news ++ next.told
      → AllInReach keep s.told (accesses_in (effect_of capture at p vs s).touches) → DoneAgain capture names known keep upto at q ws s t answer came next
  kept_moment at p q vs ws n s t next answer came related kept owner same_op same_values asks keeps knows happens news upto_is there = record {
    again = again at p q vs ws n s t related kept owner same_op same_values asked_so keeps knows answer news upto_now there so.answers;
    now = performed at q ws (renamed_answer (shifts keep upto 0).by answer) (effect_of capture at q ws t) (with_asked at (suc (askings_at at t.askings)) (effect_of capture at q ws t).touches t);
    happens = do_so at q ws capture t (with_asked at (suc (askings_at at t.askings)) (effect_of capture at q ws t).touches t) (renamed_answer (shifts keep upto 0).by answer)
        (note_as at (suc (askings_at at t.askings)) (effect_of capture at q ws t).touches t)
        (outcome_is at p q vs ws n s t related kept owner same_op same_values asked_so keeps knows answer news upto_now there so.answers)
        (omega (arith, pays)) pays
        ∙ ap (λ came. did (renamed_answer (shifts keep upto 0).by answer) came
        (performed at q ws (renamed_answer (shifts keep upto 0).by answer) (effect_of capture at q ws t) (with_asked at (suc (askings_at at t.askings)) (effect_of capture at q ws t).touches t))) came_same;
    answers = again_is at p q vs ws n s t related kept owner same_op same_values asked_so keeps knows answer news upto_now there so.answers;
    related = subst (λ next. Related capture names known keep upto next
        (performed at q ws (renamed_answer (shifts keep upto 0).by answer) (effect_of capture at q ws t) (with_asked at (suc (askings_at at t.askings)) (effect_of capture at q ws t).touches t))) (sym so.next_is)
        (related_after at p q vs ws n s t related kept owner same_op same_values asked_so keeps knows answer news upto_now there so.answers
        (asked_after at (suc (askings_at at s.askings)) (effect_of capture at p vs s).touches s.askings) (asked_after at (suc (askings_at at t.askings)) (effect_of capture at q ws t).touches t.askings)
        (fetched_after (effect_of capture at p vs s).touches s.fetches) (fetched_after (effect_of capture at q ws t).touches t.fetches));
    askings = λ place same. ap (λ (asked : List Asking). askings_at place asked) others_asked
        ∙ (ap (λ (touches : List Touch). askings_at place (asked_after at (suc (askings_at at t.askings)) touches t.askings)) others_touches
        ∙ (asked_alike (shifts keep upto 0).by at place (suc (askings_at at s.askings)) (suc (askings_at at t.askings)) (effect_of capture at p vs s).touches s.askings t.askings same
        ∙ sym (ap (λ (next : State). askings_at place next.askings) so.next_is)));
    fewer = left_falls (cost (effect_of capture at q ws t)) t.left (omega arith) pays;
  }
    where
      so : DidSo at p vs (effect_of capture at p vs s) (effect_of capture at p vs s).outcome (with_asked at (suc (askings_at at s.askings)) (effect_of capture at p vs s).touches s) answer came next
      so = did_so at p vs capture s (with_asked at (suc (askings_at at s.askings)) (effect_of capture at p vs s).touches s) answer came next
          (note_as at (suc (askings_at at s.askings)) (effect_of capture at p vs s).touches s) happens

      upto_now : upto ≡ news ++ does at p.no vs answer (effect_of capture at p vs s).made (accesses_in (effect_of capture at p vs s).touches) (weight (effect_of capture at p vs s)) ∷ s.told
      upto_now = upto_is ∙ ap (λ next. news ++ next.told) so.next_is

      asked_so : effect_of capture at q ws t ≡ effect t.store (answers_at capture at (suc (askings_at at s.askings))) (plan q ws)
      asked_so = asks_alike at p q ws s t (ap (λ op. op.no) (same_op.is (shifts keep upto 0).by (shifts keep upto 0).fits)) asks

      others_asked : asked_after at (suc (askings_at at t.askings)) (effect_of capture at q ws t).touches t.askings
          ≡ asked_after at (suc (askings_at at t.askings)) (fully at p q vs ws n s t related kept owner same_op same_values asked_so keeps knows).touches t.askings
      others_asked = but_askings (fully at p q vs ws n s t related kept owner same_op same_values asked_so keeps knows) (effect_of capture at q ws t)
          (same_but at p q vs ws n s t related kept owner same_op same_values asked_so keeps knows answer news upto_now there) at (suc (askings_at at t.askings)) t.askings

      others_touches : (fully at p q vs ws n s t related kept owner same_op same_values asked_so keeps knows).touches ≡ map (renamed_touch (shifts keep upto 0).by) (effect_of capture at p vs s).touches
      others_touches = ap (λ e. e.touches)
          (full_effect at p q vs ws n s t related kept owner same_op same_values asked_so keeps knows answer news upto_now there (shifts keep upto 0).by (shifts keep upto 0).fits)

      pays : cost (effect_of capture at q ws t) ≤ t.left
      pays = omega (
        arith,
        same_cost at p q vs ws n s t related kept owner same_op same_values asked_so keeps knows answer news upto_now there,
        enough_left at p q vs ws n s t related kept owner same_op same_values asked_so keeps knows answer news upto_now there,
      )

      came_same : walked t.store (accesses_in (effect_of capture at q ws t).touches) ≡ came
      came_same =
          ap (walked t.store) (others_accesses at p q vs ws n s t related kept owner same_op same_values asked_so keeps knows answer news upto_now there (shifts keep upto 0).by (shifts keep upto 0).fits)
          ∙ (walked_same (shifts keep upto 0).by s.store t.store marks (shifts keep upto 0).fits (accesses_in (effect_of capture at p vs s).touches)
          (read_known at p q vs ws n s t related kept owner same_op same_values asked_so keeps knows (accesses_in (effect_of capture at p vs s).touches) there)
          ∙ sym so.came_is)
