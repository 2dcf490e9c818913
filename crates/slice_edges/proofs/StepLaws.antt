-- What is known once one more moment was told.
use Rattle.std.proofs.Common.{◌≡◌, ℕ, ◌==◌, ◌&&◌, ◌||◌, Bool, true, false, List, [], ◌∷◌, map, Option, Some, None, is_some, refl, sym, ap, subst, ◌∙◌, unwrap_or, if◌then◌else◌}
use Rattle.std.specs.Option.{option_map}
use Rattle.prov_base.specs.declared.place.Pos.{Pos}
use Rattle.py_tree.specs.Tree.{ScriptTree}
use Rattle.py_value.specs.declared.access.Access.{Access}
use Rattle.py_value.specs.declared.access.Location.{Location}
use Rattle.py_value.specs.Contents.{Contents}
use Rattle.py_value.specs.Seen.{SeenKind, SeenLocation, SeenAccess, location_seen, access_seen, IsNamedLocation}
use Rattle.py_value.specs.Values.{ValuesView, AreInterned}
use Rattle.py_model.specs.Going.{Open, a_statement, an_activation}
use Rattle.py_model.specs.History.{accesses_by}
use Rattle.py_model.specs.Moment.{Moment, begins, does, enters, leaves, ends}
use Rattle.py_model.specs.Occurrences.{Occurrence, frames_after, without_top, sets_at, updates_at, open_of, owner_stmt, reach}
use Rattle.py_model.specs.Plan.{Answer}
use Rattle.py_model.specs.Told.{how_seen}
use Rattle.py_model.specs.declared.moment.How.{How}
use Rattle.row_words.specs.Fits.{Each}
use Rattle.row_checks.specs.NamedRows.{NamesAccess}
use Rattle.slice_law.specs.Closed.{has}
use Rattle.slice_law.specs.Edges.{Reason, by_data, edge, by_control, by_jump, from_option, reach_stmts, reads_ask, caller, is_abrupt, asks_for_jump, asks, run_asks}
use Rattle.slice_edges.specs.declared.asking.Asking.{Asking}
use Rattle.slice_edges.specs.Asks.{same_reason, is_by, among_by, some_ask_by, is_jump}
use Rattle.slice_edges.specs.Binder.{AreBinders}
use Rattle.slice_edges.specs.Counts.{AreCounted, IsRight}
use Rattle.slice_edges.specs.Frames.{owner_in, caller_in, without_first}
use Rattle.slice_edges.specs.HasAsked.{is_filled, HasAsked}
use Rattle.slice_edges.specs.Reading.{owner_reads}
use Rattle.slice_edges.specs.Writers.{found_at, is_noted, noted_at, after_set, after_change, sets_in, updates_in}
use Rattle.slice_edges.proofs.CountLaws.{monotone, more_asked}
use Rattle.slice_edges.proofs.FrameLaws.{owner_is, caller_is, jump_is, closed_is, abrupt_is}
use Rattle.slice_edges.proofs.ReachLaws.{now_reached, reach_next, filled_next, sets_seen, updates_seen}
use Rattle.slice_edges.proofs.ReadLaws.{asks_both, reads_asked}
use Rattle.slice_edges.proofs.WritersLaws.{written_has, written_some}

module _ (view : ValuesView) (script : ScriptTree) (old new : Asking) (told : List Moment) (before : HasAsked view script old told) where
  owner_known : (frames : List Open) → frames ≡ old.frames → owner_in frames ≡ owner_stmt told
  owner_known frames is = ap owner_in (is ∙ before.frames) ∙ sym (owner_is (frames_after told))

  -- the pairs, with those of the moment
  asks_next : (moment : Moment) (here : Reason → ℕ → ℕ → Bool) → ((reason : Reason) (s r : ℕ) → some_ask_by (asks script moment told) reason s r ≡ here reason s r)
      → ((reason : Reason) (s r : ℕ) → among_by new.asks.keys reason s r ≡ (here reason s r || among_by old.asks.keys reason s r))
      → (reason : Reason) (s r : ℕ) → among_by new.asks.keys reason s r ≡ some_ask_by (run_asks script (moment ∷ told)) reason s r
  asks_next moment here is noted reason s r =
      noted reason s r ∙ ap (λ b. b || among_by old.asks.keys reason s r) (sym (is reason s r)) ∙ ap (λ b. some_ask_by (asks script moment told) reason s r || b) (before.asks reason s r)
      ∙ sym (asks_both (asks script moment told) (run_asks script told) reason s r)

  -- a moment that reads and writes nothing
  quiet : (moment : Moment) → accesses_by moment ≡ [] → new.writers ≡ old.writers → (l : Location) → IsNamedLocation view l → (s : ℕ) → has s (noted_at new.writers.entries l) ≡ has s (reach_stmts (location_seen view l) (moment ∷ told))
  quiet moment none same l named s =
      ap (λ writers. has s (noted_at writers.entries l)) same ∙ before.writers l named s
      ∙ sym (reach_next (location_seen view l) moment told s
      ∙ ap (λ accesses. now_reached (sets_at (location_seen view l) accesses) (updates_at (location_seen view l) accesses) (has s (from_option (owner_stmt told))) (has s (reach_stmts (location_seen view l) told))) none)

  quiet_reached : (moment : Moment) → accesses_by moment ≡ [] → new.writers ≡ old.writers → (l : Location) → IsNamedLocation view l
      → is_noted new.writers.entries l ≡ is_filled (reach (location_seen view l) (moment ∷ told))
  quiet_reached moment none same l named =
      ap (λ writers. is_noted writers.entries l) same ∙ before.reached l named
      ∙ sym (filled_next (location_seen view l) moment told
      ∙ ap (λ accesses. (sets_at (location_seen view l) accesses || updates_at (location_seen view l) accesses) || is_filled (reach (location_seen view l) told)) none)

  -- what need not be sought again, where nothing is written
  still_right : (here : Reason → ℕ → ℕ → Bool) → new.writers ≡ old.writers → new.memo ≡ old.memo
      → ((reason : Reason) (s r : ℕ) → among_by new.asks.keys reason s r ≡ (here reason s r || among_by old.asks.keys reason s r))
      → IsRight script view.texts new.asks.keys new.writers.entries new.memo
  still_right here writers memo noted = record {
    binders = subst (λ known. AreBinders script view.texts known.binders.entries) (sym memo) before.right.binders;
    counted = subst (λ known. AreCounted new.asks.keys new.writers.entries known.counts.entries) (sym memo)
        (subst (λ known. AreCounted new.asks.keys known.entries old.memo.counts.entries) (sym writers)
        (more_asked old.asks.keys new.asks.keys old.writers.entries old.memo.counts.entries
        (λ s r. monotone (here by_data s r) (among_by old.asks.keys by_data s r) (among_by new.asks.keys by_data s r) (noted by_data s r)) before.right.counted));
  }

  -- ---- a Begin

  begin_asks : (number : ℕ) (found : Option Occurrence) (reason : Reason) (s r : ℕ)
      → some_ask_by (elim found [ None ↦ [] | Some o ↦ edge by_control number o.stmt ∷ [] ]) reason s r
      ≡ (is_by by_control number reason s && has r (from_option (option_map (λ (o : Occurrence). o.stmt) found)))
  begin_asks number None reason s r = none (is_by by_control number reason s)
    where
      none : (a : Bool) → false ≡ (a && false)
      none true = refl
      none false = refl
  begin_asks number (Some o) reason s r = one (is_by by_control number reason s) (o.stmt == r)
    where
      one : (a b : Bool) → ((a && b) || false) ≡ (a && (b || false))
      one true b = refl
      one false b = refl

  pub begin_step : (number : ℕ) → new.frames ≡ a_statement number ∷ old.frames → new.writers ≡ old.writers → new.memo ≡ old.memo
      → ((reason : Reason) (s r : ℕ) → among_by new.asks.keys reason s r ≡ ((is_by by_control number reason s && has r (from_option (caller_in old.frames))) || among_by old.asks.keys reason s r))
      → HasAsked view script new (begins number ∷ told)
  begin_step number frames writers memo noted = record {
    right = still_right (λ reason s r. is_by by_control number reason s && has r (from_option (caller_in old.frames))) writers memo noted;
    frames = frames ∙ ap (λ open_ones. a_statement number ∷ open_ones) before.frames;
    reached = quiet_reached (begins number) refl writers;
    writers = quiet (begins number) refl writers;
    asks = asks_next (begins number) (λ reason s r. is_by by_control number reason s && has r (from_option (caller_in old.frames)))
        (λ reason s r. begin_asks number (caller script (frames_after told)) reason s r
        ∙ ap (λ found. is_by by_control number reason s && has r (from_option found)) (caller_is script (frames_after told) ∙ ap caller_in (sym before.frames))) noted;
  }

  -- ---- a Leave

  pub leave_step : (v : Contents) → new.frames ≡ without_first old.frames → new.writers ≡ old.writers → new.memo ≡ old.memo → new.asks ≡ old.asks → HasAsked view script new (leaves v ∷ told)
  leave_step v frames writers memo same = record {
    right = still_right (λ reason s r. false) writers memo (λ reason s r. ap (λ known. among_by known.keys reason s r) same);
    frames = frames ∙ ap without_first before.frames ∙ sym (closed_is (frames_after told));
    reached = quiet_reached (leaves v) refl writers;
    writers = quiet (leaves v) refl writers;
    asks = λ reason s r. ap (λ known. among_by known.keys reason s r) same ∙ before.asks reason s r;
  }

  -- ---- an End

  jump_asks : (number : ℕ) (abrupt : Bool) (found : Option Occurrence) (reason : Reason) (s r : ℕ)
      → some_ask_by (if abrupt then elim found [ None ↦ [] | Some o ↦ edge by_jump o.stmt number ∷ [] ] else []) reason s r
      ≡ (abrupt && ((has s (from_option (option_map (λ (o : Occurrence). o.stmt) found)) && same_reason by_jump reason) && (number == r)))
  jump_asks number false found reason s r = refl
  jump_asks number true None reason s r = refl
  jump_asks number true (Some o) reason s r = one (o.stmt == s) (same_reason by_jump reason) (number == r)
    where
      one : (a m b : Bool) → (((a && m) && b) || false) ≡ (((a || false) && m) && b)
      one true true true = refl
      one true true false = refl
      one true false b = refl
      one false m b = refl

  pub end_step : (number : ℕ) (how : How) → number ≡ unwrap_or (owner_in old.frames) 0 → new.frames ≡ without_first old.frames → new.writers ≡ old.writers → new.memo ≡ old.memo
      → ((reason : Reason) (s r : ℕ) → among_by new.asks.keys reason s r
      ≡ ((is_jump how && ((has s (from_option (owner_in new.frames)) && same_reason by_jump reason) && (number == r))) || among_by old.asks.keys reason s r))
      → HasAsked view script new (ends (unwrap_or (owner_stmt told) 0) (how_seen how) ∷ told)
  end_step number how is frames writers memo noted = subst (λ n. HasAsked view script new (ends n (how_seen how) ∷ told)) (is ∙ ap (λ found. unwrap_or found 0) (owner_known old.frames refl)) (record {
    right = still_right (λ reason s r. is_jump how && ((has s (from_option (owner_in new.frames)) && same_reason by_jump reason) && (number == r))) writers memo noted;
    frames = closing;
    reached = quiet_reached (ends number (how_seen how)) refl writers;
    writers = quiet (ends number (how_seen how)) refl writers;
    asks = asks_next (ends number (how_seen how)) (λ reason s r. is_jump how && ((has s (from_option (owner_in new.frames)) && same_reason by_jump reason) && (number == r)))
        (λ reason s r. jump_asks number (is_abrupt script (how_seen how)) (asks_for_jump script (without_top (frames_after told))) reason s r
        ∙ ap (λ found. is_abrupt script (how_seen how) && ((has s (from_option found) && same_reason by_jump reason) && (number == r)))
        (ap (option_map (λ (o : Occurrence). o.stmt)) (jump_is script (without_top (frames_after told))) ∙ owner_is (without_top (frames_after told)) ∙ ap owner_in (sym closing))
        ∙ ap (λ abrupt. abrupt && ((has s (from_option (owner_in new.frames)) && same_reason by_jump reason) && (number == r))) (abrupt_is script how)) noted;
  })
    where
      closing : new.frames ≡ map open_of (without_top (frames_after told))
      closing = frames ∙ ap without_first before.frames ∙ sym (closed_is (frames_after told))

  -- ---- a Do

  module _ (interned : AreInterned view) (accesses : List Access) (each : Each (NamesAccess view) accesses) where
    owner_asked : (owner : Option ℕ) (reason : Reason) (s r : ℕ)
        → some_ask_by (elim owner [ None ↦ [] | Some asker ↦ reads_ask script asker (map (access_seen view) accesses) told ]) reason s r
        ≡ owner_reads script view.texts old.writers.entries owner accesses reason s r
    owner_asked None reason s r = refl
    owner_asked (Some asker) reason s r = reads_asked view script asker old.writers.entries told before.reached before.writers accesses each reason s r

    abbrev IsWritten : Type 0
    IsWritten = (l : Location) → found_at new.writers.entries l ≡ after_change (updates_in l accesses) (owner_in old.frames) (after_set (sets_in l accesses) (owner_in old.frames) (found_at old.writers.entries l))

    module _ (moment : Moment) (same : accesses_by moment ≡ map (access_seen view) accesses) (noted : IsWritten) (l : Location) (named : IsNamedLocation view l) where
      abbrev own : Option ℕ
      own = owner_in old.frames

      abbrev seen : SeenLocation
      seen = location_seen view l

      set_is : sets_in l accesses ≡ sets_at seen (accesses_by moment)
      set_is = sets_seen view interned l named accesses each ∙ ap (sets_at seen) (sym same)

      changed_is : updates_in l accesses ≡ updates_at seen (accesses_by moment)
      changed_is = updates_seen view interned l named accesses each ∙ ap (updates_at seen) (sym same)

      reached_next : is_noted new.writers.entries l ≡ is_filled (reach seen (moment ∷ told))
      reached_next =
          ap is_some (noted l) ∙ written_some (sets_in l accesses) (updates_in l accesses) own (found_at old.writers.entries l)
          ∙ ap (λ b. (b || updates_in l accesses) || is_noted old.writers.entries l) set_is
          ∙ ap (λ b. (sets_at seen (accesses_by moment) || b) || is_noted old.writers.entries l) changed_is
          ∙ ap (λ b. (sets_at seen (accesses_by moment) || updates_at seen (accesses_by moment)) || b) (before.reached l named)
          ∙ sym (filled_next seen moment told)

      writes_next : (s : ℕ) → has s (noted_at new.writers.entries l) ≡ has s (reach_stmts seen (moment ∷ told))
      writes_next s =
          ap (λ found. has s (unwrap_or found [])) (noted l) ∙ written_has s (sets_in l accesses) (updates_in l accesses) own (found_at old.writers.entries l)
          ∙ ap (λ b. now_reached b (updates_in l accesses) (has s (from_option own)) (has s (noted_at old.writers.entries l))) set_is
          ∙ ap (λ b. now_reached (sets_at seen (accesses_by moment)) b (has s (from_option own)) (has s (noted_at old.writers.entries l))) changed_is
          ∙ ap (now_reached (sets_at seen (accesses_by moment)) (updates_at seen (accesses_by moment)) (has s (from_option own))) (before.writers l named s)
          ∙ ap (λ found. now_reached (sets_at seen (accesses_by moment)) (updates_at seen (accesses_by moment)) (has s (from_option found)) (has s (reach_stmts seen told))) (owner_known old.frames refl)
          ∙ sym (reach_next seen moment told s)

    pub do_step : (at : Pos) (op : ℕ) (values : List Contents) (answer : Answer) (made : Option SeenKind) (weight : ℕ) → new.frames ≡ old.frames → IsRight script view.texts new.asks.keys new.writers.entries new.memo
        → IsWritten
        → ((reason : Reason) (s r : ℕ) → among_by new.asks.keys reason s r ≡ (owner_reads script view.texts old.writers.entries (owner_in old.frames) accesses reason s r || among_by old.asks.keys reason s r))
        → HasAsked view script new (does at op values answer made (map (access_seen view) accesses) weight ∷ told)
    do_step at op values answer made weight frames right noted asked = record {
      right = right;
      frames = frames ∙ before.frames;
      reached = reached_next (does at op values answer made (map (access_seen view) accesses) weight) refl noted;
      writers = writes_next (does at op values answer made (map (access_seen view) accesses) weight) refl noted;
      asks = asks_next (does at op values answer made (map (access_seen view) accesses) weight) (λ reason s r. owner_reads script view.texts old.writers.entries (owner_in old.frames) accesses reason s r)
          (λ reason s r. owner_asked (owner_stmt told) reason s r ∙ ap (λ owner. owner_reads script view.texts old.writers.entries owner accesses reason s r) (sym (owner_known old.frames refl))) asked;
    }

-- ---- an Enter sees what a Do of its accesses sees, and is open

module _ (view : ValuesView) (script : ScriptTree) (mid new : Asking) (told : List Moment) (at call def : Pos) (op : ℕ) (values others : List Contents) (answer : Answer) (made : Option SeenKind) (accesses : List SeenAccess) (weight : ℕ)
    (done : HasAsked view script mid (does at op others answer made accesses weight ∷ told)) where
  pub enter_step : new.frames ≡ an_activation ∷ mid.frames → new.writers ≡ mid.writers → new.memo ≡ mid.memo → new.asks ≡ mid.asks → HasAsked view script new (enters call def values accesses ∷ told)
  enter_step frames writers memo same = record {
    right = subst (λ known. IsRight script view.texts new.asks.keys new.writers.entries known) (sym memo)
        (subst (λ known. IsRight script view.texts new.asks.keys known.entries mid.memo) (sym writers)
        (subst (λ known. IsRight script view.texts known.keys mid.writers.entries mid.memo) (sym same) done.right));
    frames = frames ∙ ap (λ open_ones. an_activation ∷ open_ones) done.frames;
    reached = λ l named. ap (λ known. is_noted known.entries l) writers ∙ done.reached l named
        ∙ filled_next (location_seen view l) (does at op others answer made accesses weight) told
        ∙ sym (filled_next (location_seen view l) (enters call def values accesses) told);
    writers = λ l named s. ap (λ known. has s (noted_at known.entries l)) writers ∙ done.writers l named s
        ∙ reach_next (location_seen view l) (does at op others answer made accesses weight) told s
        ∙ sym (reach_next (location_seen view l) (enters call def values accesses) told s);
    asks = λ reason s r. ap (λ known. among_by known.keys reason s r) same ∙ done.asks reason s r;
  }
