-- In every run what is named by a moment is below the counts, and its keys are keys, as long as the counts are not passed.
use Rattle.std.proofs.Common.{◌≡◌, ◌⊎◌, inl, inr, ◌<◌, ◌≤◌, ◌+◌, ℕ, zero, suc, Bool, true, false, if◌then◌else◌, List, [], ◌∷◌, ◌++◌, nat_le, nat_lt, slice_get, length, Option, Some, None, refl, sym, ap, ap₂, subst, ◌∙◌, arith, length-append, ltb-true, ltb-false}
use Rattle.std.specs.Prelude.{⊤, codes}
use Rattle.prov_base.specs.declared.place.Pos.{Pos}
use Rattle.py_tree.specs.Numbering.{IsNumbered}
use Rattle.py_tree.specs.Tree.{ScriptTree}
use Rattle.py_value.specs.Changes.{after_accesses}
use Rattle.py_value.specs.Contents.{Contents, text}
use Rattle.py_value.specs.Same.{put}
use Rattle.py_value.specs.Seen.{SeenLocation, SeenContent, SeenKind, a_list, var_at, len_at, item_at, entry_at, order_at, file_at, offset_at, closed_at, method_at, base_at, var_is, len_is, item_is, file_is}
use Rattle.py_model.proofs.Histories.{note_keeps}
use Rattle.py_model.specs.Act.{Act, Walked, ret, stop, perform, begin, close, enter, leave}
use Rattle.py_model.specs.Agreement.{Alike}
use Rattle.py_model.specs.AlikeOperations.{renamed_op}
use Rattle.py_model.specs.Capture.{Capture, with_bytes, answers_at}
use Rattle.py_model.specs.Effect.{Touch, accessed, looked, counted, printed, opened, noted, asked, fetched, Outcome, answered, unanswered, unpaid, Effect, Answers, effect, accesses_in, after, after_touch, after_touches, cost, weight}
use Rattle.py_model.specs.Effect.{with_made as store_with}
use Rattle.py_model.specs.History.{entered_by}
use Rattle.py_model.specs.Meaning.{level, meaning, at_start, starting}
use Rattle.py_model.specs.Moment.{Moment, Ending, begins, does, enters, leaves, ends, parameters_set}
use Rattle.py_model.specs.Operations.{Op, plan}
use Rattle.py_model.specs.Plan.{Answer}
use Rattle.py_model.specs.Renaming.{Renaming, renamed_list}
use Rattle.py_model.specs.Running.{State, spent, lacking, state_in, Happened, did, too_dear, lacked, askings_at, note, walked, performed, happened, effect_of, operation, outcome, beginning, entering, tell}
use Rattle.py_model.specs.Store.{RunStore, opening, with_items, with_files, unset}
use Rattle.kept_runs.specs.Below.{ScopeBelow, ValueBelow, AllBelow, AnswerBelow, AccessesBelow, AccessesBefore, MomentBelow, MomentBefore, StatementBelow, with_made, objects_after, scopes_after}
use Rattle.kept_runs.specs.Keys.{MomentKeys, AccessesKeys}
use Rattle.kept_runs.proofs.Effects.{StoreBelow, EffectBelow, Fits, OutcomeBelow, named}
use Rattle.kept_runs.proofs.Every.{every_sound}
use Rattle.kept_runs.proofs.Flow.{Known, KeptAll, KeptKind, KeptFound, KeptStore, KeptOutcome}
use Rattle.kept_runs.proofs.Kept.{all_known, value_kept, all_kept, kept_store, kept_kind, kept_accesses, kept_answer}
use Rattle.kept_runs.proofs.Moved.{moved, stays, moving, value_stays, list_stays}
use Rattle.kept_runs.proofs.Rules.{suite_k, levels_k, found_known}
use Rattle.kept_runs.proofs.Stores.{put_kept, Flows, flows, store_stays_kept}
use Rattle.kept_runs.proofs.Trees.{NamedBelow, OpBelow, Names, nm_ret, nm_stop, nm_perform, nm_begin, nm_close, nm_enter, nm_leave, SuiteBelow, suite_below}

-- what holds of moments, and of each list with one moment more, holds at the end of a run
module _ (capture : Capture) (P : List Moment → Type 0) (more : (moment : Moment) (told : List Moment) → P told → P (moment ∷ told)) where
  abbrev LeavesMore : Happened → Type 0
  LeavesMore (did answer came t) = P t.told
  LeavesMore (too_dear t) = P t.told
  LeavesMore (lacked t) = P t.told

  happens_more : (at : Pos) (op : Op) (values : List Contents) (e : Effect) (o : Outcome) (s : State) → P s.told → LeavesMore (happened at op values e o s)
  happens_more at op values e (answered answer) s is = by_cost (nat_le (cost e) s.left)
    where
      by_cost : (enough : Bool) → LeavesMore (if enough then did answer (walked s.store (accesses_in e.touches)) (performed at op values answer e s) else too_dear s)
      by_cost true = more _ s.told is
      by_cost false = is
  happens_more at op values e unanswered s is = is
  happens_more at op values e unpaid s is = is

  operates_more : (at : Pos) (op : Op) (values : List Contents) (s : State) → P s.told → LeavesMore (operation capture at op values s)
  operates_more at op values s is = by_left (nat_le 1 s.left)
    where
      by_left : (enough : Bool) → LeavesMore (if enough then (let e = effect_of capture at op values s in happened at op values e e.outcome (note at (suc (askings_at at s.askings)) e.touches s)) else too_dear s)
      by_left true = happens_more at op values (effect_of capture at op values s) (effect_of capture at op values s).outcome _
          (note_keeps (λ told left entered store. P told) at (suc (askings_at at s.askings)) (effect_of capture at op values s).touches s is)
      by_left false = is

  pub runs_more : (a : Act) (s : State) → P s.told → P (state_in (outcome capture a s)).told
  runs_more (ret how) s is = is
  runs_more stop s is = is
  runs_more (perform at op values next) s is = by_happened (operation capture at op values s) (operates_more at op values s is) (λ answer came t there. runs_more (next answer came) t there)
    where
      by_happened : (h : Happened) → LeavesMore h → ((answer : Answer) (came : Walked) (t : State) → P t.told → P (state_in (outcome capture (next answer came) t)).told)
          → P (state_in (elim h [ did answer came t ↦ outcome capture (next answer came) t | too_dear t ↦ spent t | lacked t ↦ lacking t ])).told
      by_happened (did answer came t) there on = on answer came t there
      by_happened (too_dear t) there on = there
      by_happened (lacked t) there on = there
  runs_more (begin number rest) s is = by_left (nat_le 1 s.left) (runs_more rest (beginning number s) (more _ s.told is))
    where
      by_left : (b : Bool) → P (state_in (outcome capture rest (beginning number s))).told → P (state_in (if b then outcome capture rest (beginning number s) else spent s)).told
      by_left true on = on
      by_left false on = is
  runs_more (close number ended rest) s is = runs_more rest (tell (ends number ended) s) (more _ s.told is)
  runs_more (enter at def names values next) s is = by_left (nat_le (suc (length values)) s.left) (runs_more (next (suc s.entered)) (entering at def names values s) (more _ s.told is))
    where
      by_left : (b : Bool) → P (state_in (outcome capture (next (suc s.entered)) (entering at def names values s))).told
          → P (state_in (if b then outcome capture (next (suc s.entered)) (entering at def names values s) else spent s)).told
      by_left true on = on
      by_left false on = is
  runs_more (leave v rest) s is = runs_more rest (tell (leaves v) s) (more _ s.told is)

-- how many objects there are after an effect
touched_kinds : (touches : List Touch) (store : RunStore) → (after_touches touches store).kinds ≡ store.kinds
touched_kinds [] store = refl
touched_kinds (accessed access ∷ touches) store = touched_kinds touches (after_touch (accessed access) store)
touched_kinds (looked n ∷ touches) store = touched_kinds touches store
touched_kinds (counted n ∷ touches) store = touched_kinds touches store
touched_kinds (printed bytes ∷ touches) store = touched_kinds touches (after_touch (printed bytes) store)
touched_kinds (opened path ∷ touches) store = touched_kinds touches (after_touch (opened path) store)
touched_kinds (noted place name ∷ touches) store = touched_kinds touches (after_touch (noted place name) store)
touched_kinds (asked what ∷ touches) store = touched_kinds touches store
touched_kinds (fetched path ∷ touches) store = touched_kinds touches store

made_count : (made : Option SeenKind) (store : RunStore) → length (store_with made store).kinds ≡ with_made made (length store.kinds)
made_count None store = refl
made_count (Some kind) store = omega (arith, length-append store.kinds (kind ∷ []))

kinds_count : (e : Effect) (store : RunStore) → length (after e store).kinds ≡ with_made e.made (length store.kinds)
kinds_count e store = ap length (touched_kinds e.touches (store_with e.made store)) ∙ made_count e.made store

no_fewer : (made : Option SeenKind) (n : ℕ) → n ≤ with_made made n
no_fewer None n = omega arith
no_fewer (Some kind) n = omega arith

module _ (count objects scopes : ℕ) (some : 0 < objects) (any : 0 < scopes) where
  -- an operation on operands below the counts has a plan that is its own image
  scope_stays : (scope : ℕ) (v : Contents) → NamedBelow count objects scopes scope v → moved scopes scope ≡ scope
  scope_stays zero v small = stays scopes 0 any
  scope_stays (suc scope) v small = stays scopes (suc scope) small.0

  value_named : (scope : ℕ) (v : Contents) → NamedBelow count objects scopes scope v → ValueBelow objects v
  value_named zero v small = small
  value_named (suc scope) v small = small.1

  op_stays : (op : Op) → OpBelow count objects scopes op → renamed_op (moving objects scopes some any) op ≡ op
  op_stays op small =
      ap₂ (λ scope v. record { no = op.no; scope = scope; name = op.name; value = v }) (scope_stays op.scope op.value small)
      (value_stays objects scopes some any op.value (value_named op.scope op.value small))

  here : Known
  here = all_known objects some

  module _ (alike : (r : Renaming) (op : Op) (values : List Contents) → Alike r (plan op values) (plan (renamed_op r op) (renamed_list r values))) (capture : Capture) where
    operation_named : (op : Op) (values : List Contents) (store : RunStore) (answers : Answers) → OpBelow count objects scopes op → AllBelow objects values → (is : StoreBelow objects store)
        → Fits objects scopes some any store is (effect store answers (plan op values)).made → EffectBelow objects scopes (effect store answers (plan op values))
    operation_named op values store answers small all is fits =
        named objects scopes some any store is answers (alike (moving objects scopes some any) op values)
        (ap₂ plan (sym (op_stays op small)) (sym (list_stays objects scopes some any values all))) fits

    -- each moment names what is there, as long as the counts are not passed
    abbrev pub IsNamed : Moment → Type 0
    IsNamed moment = StatementBelow count moment × MomentBelow objects scopes moment

    -- its values are there before it, and its keys are keys
    abbrev pub IsKept : Moment → Type 0
    IsKept moment = MomentBefore objects moment × MomentKeys moment

    abbrev pub IsFine : Moment → List Moment → Type 0
    IsFine moment before = (objects_after (moment ∷ before) ≤ objects → scopes_after (moment ∷ before) ≤ scopes → IsNamed moment)
        × (objects_after before ≤ objects → scopes_after before ≤ scopes → IsKept moment)

    abbrev pub AllNamed : List Moment → Type 0
    AllNamed [] = ⊤
    AllNamed (moment ∷ before) = IsFine moment before × AllNamed before

    -- once a count is passed, it stays so
    abbrev pub IsPast : List Moment → Type 0
    IsPast told = AllNamed told × ((objects < objects_after told) ⊎ (scopes < scopes_after told))

    more_objects : (moment : Moment) (told : List Moment) → objects_after told ≤ objects_after (moment ∷ told)
    more_objects (begins number) told = omega arith
    more_objects (does at number values answer made accesses size) told = no_fewer made (objects_after told)
    more_objects (enters at def values accesses) told = omega arith
    more_objects (leaves v) told = omega arith
    more_objects (ends number ended) told = omega arith

    more_scopes : (moment : Moment) (told : List Moment) → scopes_after told ≤ scopes_after (moment ∷ told)
    more_scopes (begins number) told = omega arith
    more_scopes (does at number values answer made accesses size) told = omega arith
    more_scopes (enters at def values accesses) told = omega arith
    more_scopes (leaves v) told = omega arith
    more_scopes (ends number ended) told = omega arith

    pub past_more : (moment : Moment) (told : List Moment) → IsPast told → IsPast (moment ∷ told)
    past_more moment told is = by_over is.1
      where
        by_over : (objects < objects_after told) ⊎ (scopes < scopes_after told) → IsPast (moment ∷ told)
        by_over (inl over) =
            ((((λ few others. absurd (omega (arith, few, over, more_objects moment told))), (λ few others. absurd (omega (arith, few, over)))), is.0), inl (omega (arith, over, more_objects moment told)))
        by_over (inr over) =
            ((((λ few others. absurd (omega (arith, others, over, more_scopes moment told))), (λ few others. absurd (omega (arith, others, over)))), is.0), inr (omega (arith, over, more_scopes moment told)))

    -- what holds while no count is passed
    pub record Holds (told : List Moment) (entered : ℕ) (store : RunStore) : Type 0 where
      pub stands : KeptStore (all_known objects some) store
      pub counted : length store.kinds ≡ objects_after told
      pub entered_is : entered ≡ entered_by told
      pub all : AllNamed told
      pub few : objects_after told ≤ objects
      pub others : scopes_after told ≤ scopes

    -- what an effect names is below the counts, or with it there is one object too many
    pub data Came (e : Effect) (store : RunStore) : Type 0 where
      came_below : EffectBelow objects scopes e → with_made e.made (length store.kinds) ≤ objects → Came e store
      came_over : objects < with_made e.made (length store.kinds) → Came e store

    comes : (op : Op) (values : List Contents) (store : RunStore) (answers : Answers) → OpBelow count objects scopes op → AllBelow objects values → (is : StoreBelow objects store)
        → length store.kinds ≤ objects → Came (effect store answers (plan op values)) store
    comes op values store answers small all is few = by_made (effect store answers (plan op values)).made refl
      where
        by_made : (made : Option SeenKind) → (effect store answers (plan op values)).made ≡ made → Came (effect store answers (plan op values)) store
        by_made None made_is = came_below
            (operation_named op values store answers small all is (subst (Fits objects scopes some any store is) (sym made_is) tt))
            (subst (λ made. with_made made (length store.kinds) ≤ objects) (sym made_is) few)
        by_made (Some kind) made_is = by_room (nat_lt (length store.kinds) objects) refl
          where
            by_room : (room : Bool) → nat_lt (length store.kinds) objects ≡ room → Came (effect store answers (plan op values)) store
            by_room true is_room = came_below
                (operation_named op values store answers small all is (subst (Fits objects scopes some any store is) (sym made_is) (ltb-true (length store.kinds) objects is_room)))
                (subst (λ made. with_made made (length store.kinds) ≤ objects) (sym made_is) (ltb-true (length store.kinds) objects is_room))
            by_room false none = came_over (subst (λ made. objects < with_made made (length store.kinds)) (sym made_is) (omega (arith, ltb-false (length store.kinds) objects none)))

    -- an effect where no count is passed
    pub record Ready (e : Effect) (told : List Moment) (entered : ℕ) (store : RunStore) : Type 0 where
      pub held : Holds told entered store
      pub flow : Flows (all_known objects some) store held.stands e
      pub came : Came e store

    pub ready : (op : Op) (values : List Contents) (answers : Answers) (told : List Moment) (entered : ℕ) (store : RunStore) → OpBelow count objects scopes op → AllBelow objects values → Holds told entered store
        → Ready (effect store answers (plan op values)) told entered store
    ready op values answers told entered store small all held = record {
      held = held;
      flow = flows (all_known objects some) store held.stands answers (plan op values)
          (every_sound (all_known objects some) op values (value_kept objects some op.value (value_named op.scope op.value small)) (all_kept objects some values all));
      came = comes op values store answers small all (kept_store objects some store held.stands) (subst (λ n. n ≤ objects) (sym held.counted) held.few);
    }

    -- what becomes of an operation
    pub data Did (answer : Answer) (t : State) : Type 0 where
      did_below : AnswerBelow objects answer → Holds t.told t.entered t.store → Did answer t
      did_over : IsPast t.told → Did answer t

    abbrev pub Happens : Happened → Type 0
    Happens (did answer came t) = Did answer t
    Happens (too_dear t) = AllNamed t.told
    Happens (lacked t) = AllNamed t.told

    happens : (at : Pos) (op : Op) (values : List Contents) (e : Effect) (o : Outcome) (u : State) → e.outcome ≡ o → AllBelow objects values → Ready e u.told u.entered u.store
        → Happens (happened at op values e o u)
    happens at op values e (answered answer) u is all it = by_cost (nat_le (cost e) u.left)
      where
        now : State
        now = performed at op values answer e u

        held : Holds u.told u.entered u.store
        held = it.held

        kept : IsKept (does at op.no values answer e.made (accesses_in e.touches) (weight e))
        kept =
            let accesses : AccessesBefore objects (accesses_in e.touches) × AccessesKeys (accesses_in e.touches) = kept_accesses objects some (accesses_in e.touches) it.flow.accesses in (
              (
                all,
                (
                  kept_answer objects some (length u.store.kinds) answer (subst (KeptOutcome (all_known objects some) (length u.store.kinds)) is it.flow.outcome),
                  (kept_kind objects some e.made it.flow.made, accesses.0),
                ),
              ),
              accesses.1,
            )

        by_came : Came e u.store → Did answer now
        by_came (came_below rest room) =
            let answer_below : AnswerBelow objects answer = subst (OutcomeBelow objects) is rest.outcome in
            let counted_now : length (after e u.store).kinds ≡ with_made e.made (objects_after u.told) = kinds_count e u.store ∙ ap (with_made e.made) held.counted in
            did_below answer_below (record {
              stands = store_stays_kept (all_known objects some) e u.store held.stands it.flow;
              counted = counted_now;
              entered_is = held.entered_is;
              all = (((λ few others. (tt, (all, (answer_below, (rest.made, rest.accesses))))), (λ few others. kept)), held.all);
              few = subst (λ n. with_made e.made n ≤ objects) held.counted room;
              others = held.others;
            })
        by_came (came_over over) =
            let over_now : objects < with_made e.made (objects_after u.told) = subst (λ n. objects < with_made e.made n) held.counted over in
            did_over ((((λ few others. absurd (omega (arith, few, over_now))), (λ few others. kept)), held.all), inl over_now)

        by_cost : (enough : Bool) → Happens (if enough then did answer (walked u.store (accesses_in e.touches)) (performed at op values answer e u) else too_dear u)
        by_cost true = by_came it.came
        by_cost false = held.all
    happens at op values e unanswered u is all it = it.held.all
    happens at op values e unpaid u is all it = it.held.all

    pub operates : (at : Pos) (op : Op) (values : List Contents) (s : State) → OpBelow count objects scopes op → AllBelow objects values → Holds s.told s.entered s.store → Happens (operation capture at op values s)
    operates at op values s small all held = by_left (nat_le 1 s.left)
      where
        e : Effect
        e = effect_of capture at op values s

        noted_so : Ready e (note at (suc (askings_at at s.askings)) e.touches s).told (note at (suc (askings_at at s.askings)) e.touches s).entered (note at (suc (askings_at at s.askings)) e.touches s).store
        noted_so = note_keeps (λ told left entered store. Ready e told entered store) at (suc (askings_at at s.askings)) e.touches s
            (ready op values (answers_at capture at (suc (askings_at at s.askings))) s.told s.entered s.store small all held)

        by_left : (enough : Bool) → Happens (if enough then (let e = effect_of capture at op values s in happened at op values e e.outcome (note at (suc (askings_at at s.askings)) e.touches s)) else too_dear s)
        by_left true = happens at op values e e.outcome (note at (suc (askings_at at s.askings)) e.touches s) refl all noted_so
        by_left false = held.all

    params_below : (a : ℕ) (params : List (List ℕ)) (vs : List Contents) (map : SeenLocation → Option SeenContent) → KeptAll (all_known objects some) vs → ((l : SeenLocation) → KeptFound (all_known objects some) (map l))
        → (l : SeenLocation) → KeptFound (all_known objects some) (after_accesses (parameters_set a params vs) map l)
    params_below a [] vs map all is = is
    params_below a (name ∷ params) [] map all is = is
    params_below a (name ∷ params) (v ∷ vs) map all is =
        params_below a params vs (put (var_at a name) (var_is (Some v)) map) all.1 (put_kept (all_known objects some) (var_at a name) (var_is (Some v)) map all.0 is)

    params_named : (a : ℕ) (params : List (List ℕ)) (vs : List Contents) → ScopeBelow scopes a → AllBelow objects vs → AccessesBelow objects scopes (parameters_set a params vs)
    params_named a [] vs there all = tt
    params_named a (name ∷ params) [] there all = tt
    params_named a (name ∷ params) (v ∷ vs) there all = ((there, all.0), params_named a params vs there all.1)

    params_fine : (a : ℕ) (params : List (List ℕ)) (vs : List Contents) → AllBelow objects vs → AccessesBefore objects (parameters_set a params vs) × AccessesKeys (parameters_set a params vs)
    params_fine a [] vs all = (tt, tt)
    params_fine a (name ∷ params) [] all = (tt, tt)
    params_fine a (name ∷ params) (v ∷ vs) all =
        let rest : AccessesBefore objects (parameters_set a params vs) × AccessesKeys (parameters_set a params vs) = params_fine a params vs all.1 in
        (((tt, all.0), rest.0), ((tt, tt), rest.1))

    params_kept : (at def : Pos) (a : ℕ) (params : List (List ℕ)) (vs : List Contents) → AllBelow objects vs → IsKept (enters at def vs (parameters_set a params vs))
    params_kept at def a params vs all =
        let fine : AccessesBefore objects (parameters_set a params vs) × AccessesKeys (parameters_set a params vs) = params_fine a params vs all in ((all, fine.0), fine.1)

    -- one step more, where no count is passed by it
    pub begin_holds : (n : ℕ) (s : State) → n < count → Holds s.told s.entered s.store → Holds (beginning n s).told (beginning n s).entered (beginning n s).store
    begin_holds n s small held = record {
      stands = held.stands;
      counted = held.counted;
      entered_is = held.entered_is;
      all = (((λ few others. (small, tt)), (λ few others. (tt, tt))), held.all);
      few = held.few;
      others = held.others;
    }

    pub close_holds : (n : ℕ) (ending : Ending) (s : State) → Holds s.told s.entered s.store → Holds (ends n ending ∷ s.told) s.entered s.store
    close_holds n ending s held = record {
      stands = held.stands;
      counted = held.counted;
      entered_is = held.entered_is;
      all = (((λ few others. (tt, tt)), (λ few others. (tt, tt))), held.all);
      few = held.few;
      others = held.others;
    }

    pub leave_holds : (v : Contents) (s : State) → ValueBelow objects v → Holds s.told s.entered s.store → Holds (leaves v ∷ s.told) s.entered s.store
    leave_holds v s small held = record {
      stands = held.stands;
      counted = held.counted;
      entered_is = held.entered_is;
      all = (((λ few others. (tt, small)), (λ few others. (small, tt))), held.all);
      few = held.few;
      others = held.others;
    }

    pub enter_holds : (at def : Pos) (params : List (List ℕ)) (vs : List Contents) (s : State) → suc s.entered < scopes → AllBelow objects vs → Holds s.told s.entered s.store
        → Holds (entering at def params vs s).told (entering at def params vs s).entered (entering at def params vs s).store
    enter_holds at def params vs s there all held = record {
      stands = record { at = params_below (suc s.entered) params vs s.store.at (all_kept objects some vs all) held.stands.at; kinds = held.stands.kinds };
      counted = held.counted;
      entered_is = ap suc held.entered_is;
      all = (((λ few others. (tt, (all, params_named (suc s.entered) params vs there all))), (λ few others. params_kept at def (suc s.entered) params vs all)), held.all);
      few = held.few;
      others = omega (arith, there, held.entered_is);
    }

    pub enter_past : (at def : Pos) (params : List (List ℕ)) (vs : List Contents) (s : State) → scopes ≤ suc s.entered → AllBelow objects vs → Holds s.told s.entered s.store
        → IsPast (entering at def params vs s).told
    enter_past at def params vs s none all held =
        let over : scopes < scopes_after (entering at def params vs s).told = omega (arith, none, held.entered_is) in
        ((((λ few others. absurd (omega (arith, others, over))), (λ few others. params_kept at def (suc s.entered) params vs all)), held.all), inr over)

    past_on : (a : Act) (s : State) → IsPast s.told → AllNamed (state_in (outcome capture a s)).told
    past_on a s past = (runs_more capture IsPast past_more a s past).0

    pub runs : {a : Act} → Names count objects scopes a → (s : State) → Holds s.told s.entered s.store → AllNamed (state_in (outcome capture a s)).told
    runs (nm_ret so) s held = held.all
    runs nm_stop s held = held.all
    runs (nm_perform {at = at} {p = p} {vs = vs} {f = f} small all next) s held =
        by_happened (operation capture at p vs s) (operates at p vs s small all held) (λ answer came t so there. runs (next answer came so) t there)
      where
        by_did : (answer : Answer) (came : Walked) (t : State) → Did answer t → (AnswerBelow objects answer → Holds t.told t.entered t.store → AllNamed (state_in (outcome capture (f answer came) t)).told)
            → AllNamed (state_in (outcome capture (f answer came) t)).told
        by_did answer came t (did_below so there) on = on so there
        by_did answer came t (did_over past) on = past_on (f answer came) t past

        by_happened : (h : Happened) → Happens h
            → ((answer : Answer) (came : Walked) (t : State) → AnswerBelow objects answer → Holds t.told t.entered t.store → AllNamed (state_in (outcome capture (f answer came) t)).told)
            → AllNamed (state_in (elim h [ did answer came t ↦ outcome capture (f answer came) t | too_dear t ↦ spent t | lacked t ↦ lacking t ])).told
        by_happened (did answer came t) there on = by_did answer came t there (on answer came t)
        by_happened (too_dear t) there on = there
        by_happened (lacked t) there on = there
    runs (nm_begin {n = n} {a = a} small rest) s held = by_left (nat_le 1 s.left) (runs rest (beginning n s) (begin_holds n s small held))
      where
        by_left : (b : Bool) → AllNamed (state_in (outcome capture a (beginning n s))).told → AllNamed (state_in (if b then outcome capture a (beginning n s) else spent s)).told
        by_left true on = on
        by_left false on = held.all
    runs (nm_close {n = n} {ending = ending} rest) s held = runs rest (tell (ends n ending) s) (close_holds n ending s held)
    runs (nm_enter {at = at} {def = def} {params = params} {vs = vs} {f = f} all next) s held =
        by_left (nat_le (suc (length vs)) s.left) (by_room (nat_lt (suc s.entered) scopes) refl (λ there. runs (next (suc s.entered) there) (entering at def params vs s)))
      where
        by_room : (room : Bool) → nat_lt (suc s.entered) scopes ≡ room
            → (suc s.entered < scopes → Holds (entering at def params vs s).told (entering at def params vs s).entered (entering at def params vs s).store → AllNamed (state_in (outcome capture (f (suc s.entered)) (entering at def params vs s))).told)
            → AllNamed (state_in (outcome capture (f (suc s.entered)) (entering at def params vs s))).told
        by_room true room on =
            let there : suc s.entered < scopes = ltb-true (suc s.entered) scopes room in on there (enter_holds at def params vs s there all held)
        by_room false none on =
            past_on (f (suc s.entered)) (entering at def params vs s) (enter_past at def params vs s (ltb-false (suc s.entered) scopes none) all held)

        by_left : (b : Bool) → AllNamed (state_in (outcome capture (f (suc s.entered)) (entering at def params vs s))).told
            → AllNamed (state_in (if b then outcome capture (f (suc s.entered)) (entering at def params vs s) else spent s)).told
        by_left true on = on
        by_left false on = held.all
    runs (nm_leave {v = v} small rest) s held = runs rest (tell (leaves v) s) (leave_holds v s small held)

    -- where a run begins
    unset_below : (l : SeenLocation) → KeptFound (all_known objects some) (unset l)
    unset_below (order_at o) = tt
    unset_below (var_at scope name) = tt
    unset_below (len_at o) = tt
    unset_below (item_at o i) = tt
    unset_below (entry_at o key) = tt
    unset_below (file_at path) = tt
    unset_below (offset_at o) = tt
    unset_below (closed_at o) = tt
    unset_below (method_at place name) = tt
    unset_below (base_at place) = tt

    files_below : (files : List (List ℕ × List ℕ)) (l : SeenLocation) → KeptFound (all_known objects some) (with_files files unset l)
    files_below [] l = unset_below l
    files_below (file ∷ files) l = put_kept (all_known objects some) (file_at file.0) (file_is file.1) (with_files files unset) tt (files_below files) l

    items_below : (i : ℕ) (words : List (List ℕ)) (map : SeenLocation → Option SeenContent) → ((l : SeenLocation) → KeptFound (all_known objects some) (map l)) → (l : SeenLocation) → KeptFound (all_known objects some) (with_items 0 i words map l)
    items_below i [] map is = is
    items_below i (word ∷ words) map is = put_kept (all_known objects some) (item_at 0 i) (item_is (text word)) (with_items 0 (i + 1) words map) tt (items_below (i + 1) words map is)

    pub opening_below : (path : List ℕ) (arguments : List (List ℕ)) (files : List (List ℕ × List ℕ)) → KeptStore (all_known objects some) (opening path arguments files)
    opening_below path arguments files = record {
      at = put_kept (all_known objects some) (var_at 0 (codes "__name__")) (var_is (Some (text (codes "__main__")))) (put (len_at 0) (len_is (length arguments + 1)) (with_items 0 0 (path ∷ arguments) (with_files files unset))) tt
          (put_kept (all_known objects some) (len_at 0) (len_is (length arguments + 1)) (with_items 0 0 (path ∷ arguments) (with_files files unset)) tt
          (items_below 0 (path ∷ arguments) (with_files files unset) (files_below files)));
      kinds = first_kind;
    }
      where
        first_kind : (o : ℕ) → KeptKind (all_known objects some) (slice_get (a_list ∷ []) o)
        first_kind zero = tt
        first_kind (suc o) = tt

    pub start_holds : (path : List ℕ) (arguments : List (List ℕ)) (steps : ℕ) → Holds [] 0 (starting capture path arguments steps).store
    start_holds path arguments steps = record { stands = opening_below path arguments (with_bytes capture.files); counted = refl; entered_is = refl; all = tt; few = some; others = any }

    pub all_named : (script : ScriptTree) (path : List ℕ) (arguments : List (List ℕ)) (steps : ℕ) → SuiteBelow count script.body
        → AllNamed (state_in (outcome capture (meaning script steps) (starting capture path arguments steps))).told
    all_named script path arguments steps every =
        runs (suite_k count objects scopes script (found_known count objects scopes script every) (level script (suc steps))
        (levels_k count objects scopes script (found_known count objects scopes script every) (suc steps)) at_start (tt, (tt, tt)) script.body every)
        (starting capture path arguments steps) (start_holds path arguments steps)

    pub fine_at : (news before : List Moment) (moment : Moment) → AllNamed (news ++ moment ∷ before) → IsFine moment before
    fine_at [] before moment all = all.0
    fine_at (first ∷ news) before moment all = fine_at news before moment all.1

pub is_there : (told : List Moment) → 0 < objects_after told
is_there [] = omega arith
is_there (begins number ∷ told) = is_there told
is_there (does at number values answer None accesses size ∷ told) = is_there told
is_there (does at number values answer (Some kind) accesses size ∷ told) = omega arith
is_there (enters at def values accesses ∷ told) = is_there told
is_there (leaves v ∷ told) = is_there told
is_there (ends number ended ∷ told) = is_there told

-- what a run tells
abbrev pub told_in : ScriptTree → Capture → List ℕ → List (List ℕ) → ℕ → List Moment
told_in script capture path arguments steps = (state_in (outcome capture (meaning script steps) (starting capture path arguments steps))).told

module _ (alike : (r : Renaming) (op : Op) (values : List Contents) → Alike r (plan op values) (plan (renamed_op r op) (renamed_list r values)))
    (script : ScriptTree) (capture : Capture) (path : List ℕ) (arguments : List (List ℕ)) (steps : ℕ) (numbered : IsNumbered script) where
  every : SuiteBelow script.count script.body
  every = subst (SuiteBelow script.count) numbered.in_order (suite_below script.count 0 script.body (omega (arith, numbered.counted)))

  fine : (objects scopes : ℕ) (some : 0 < objects) (any : 0 < scopes) (news before : List Moment) (moment : Moment) → told_in script capture path arguments steps ≡ news ++ moment ∷ before
      → IsFine script.count objects scopes some any alike capture moment before
  fine objects scopes some any news before moment is =
      fine_at script.count objects scopes some any alike capture news before moment
      (subst (AllNamed script.count objects scopes some any alike capture) is (all_named script.count objects scopes some any alike capture script path arguments steps every))

  pub run_named : (news before : List Moment) (moment : Moment) → told_in script capture path arguments steps ≡ news ++ moment ∷ before
      → StatementBelow script.count moment × MomentBelow (objects_after (moment ∷ before)) (scopes_after (moment ∷ before)) moment
  run_named news before moment is =
      (fine (objects_after (moment ∷ before)) (scopes_after (moment ∷ before)) (is_there (moment ∷ before)) (omega arith) news before moment is).0 (omega arith) (omega arith)

  pub run_kept : (news before : List Moment) (moment : Moment) → told_in script capture path arguments steps ≡ news ++ moment ∷ before
      → MomentBefore (objects_after before) moment × MomentKeys moment
  run_kept news before moment is =
      (fine (objects_after before) (scopes_after before) (is_there before) (omega arith) news before moment is).1 (omega arith) (omega arith)
