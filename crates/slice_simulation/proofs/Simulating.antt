-- One induction over the two trees: the run of the slice comes to where the script's run has come.
use Rattle.std.proofs.Common.{◌≡◌, ◌≤◌, ◌<◌, ℕ, suc, Bool, true, false, if◌then◌else◌, List, [], ◌∷◌, ◌++◌, map, length, nat_le, nat_lt, Option, Some, refl, sym, ap, subst, ◌∙◌, arith, length-append, le-leb, ltb-true, ltb-false, ◌⊎◌, inl, inr}
use Rattle.std.specs.Prelude.{⊤}
use Rattle.std.specs.Option.{option_map}
use Rattle.std.proofs.lemmas.Bool.{false≢true}
use Rattle.prov_base.specs.declared.place.Pos.{Pos}
use Rattle.prov_base.specs.contracts.place.PosPartialEq.TheImpl.{ghosts as places}
use Rattle.py_value.specs.Contents.{Contents, object}
use Rattle.py_value.specs.Seen.{SeenAccess, SeenKind}
use Rattle.py_model.specs.Act.{Act, Walked, perform, begin, close, enter, leave}
use Rattle.py_model.specs.Capture.{Capture, answers_at}
use Rattle.py_model.specs.Effect.{Effect, accesses_in, weight}
use Rattle.py_model.specs.Going.{Open, a_statement, an_activation}
use Rattle.py_model.specs.History.{held, kinds_after, with_kind}
use Rattle.py_model.specs.Moment.{Moment, begins, does, enters, leaves, ends, Ending, normal_end, parameters_set}
use Rattle.py_model.specs.Occurrences.{Occurrence, Frame, in_occurrence, in_activation, frames_after, without_top, innermost, open_of, owner_stmt}
use Rattle.py_model.specs.Operations.{Op}
use Rattle.py_model.specs.Plan.{Answer, value, raised, at_end}
use Rattle.py_model.specs.Quiet.{may_ask}
use Rattle.py_model.specs.Renaming.{renamed, renamed_answer}
use Rattle.py_model.specs.Running.{State, askings_at, Ended, spent, lacking, state_in, Happened, did, too_dear, lacked, effect_of, operation, outcome, beginning, entering, tell}
use Rattle.py_model.specs.Store.{RunStore}
use Rattle.slice_law.specs.Closed.{StmtSet}
use Rattle.model_laws.specs.Flow.{KnownPlace, KnownStore, KnownAnswer}
use Rattle.model_laws.specs.Knows.{Knows}
use Rattle.py_tree.specs.Functions.{Function, is_local}
use Rattle.slice_simulation.specs.Cut.{SameFunction}
use Rattle.slice_simulation.proofs.Knowing.{FlowLaws, KnownPerform, perform_known, begin_known, close_known, leave_known, enter_known, KnownNow, known_now, entered_known}
use Rattle.slice_simulation.proofs.Beside.{BeginsAlone, InnermostIs, Ground, OnName, unknown_perform, lost_name, TopIsKept, CallerIsOut, Beside, unreached, both_ret, stopped, both_perform, alone_perform, both_begin, alone_begin, pass_begin, both_close, alone_close, abrupt_close, both_enter, alone_enter, both_leave, alone_leave, barred_begin}
use Rattle.slice_simulation.proofs.Activations.{alone_enter_related, same_activation, enter_paid, both_enter_related, both_leave_related, alone_leave_related}
use Rattle.slice_simulation.proofs.Happenings.{Laws}
use Rattle.slice_simulation.proofs.KeptMoments.{kept_moment}
use Rattle.slice_simulation.proofs.Marks.{shifts}
use Rattle.slice_simulation.proofs.Onwards.{onwards, Came, CameBy, came_by, IsEndOf, ends_meet, same_end}
use Rattle.py_value.specs.Changes.{after_accesses}
use Rattle.slice_simulation.proofs.UnknownNames.{names_stay}
use Rattle.slice_simulation.proofs.Touching.{kinds_grow}
use Rattle.slice_simulation.proofs.OtherMoments.{deleted_moment, deleted_askings, begin_paid, both_begin_related, alone_begin_related, pass_related, both_end_related, alone_end_related}
use Rattle.slice_simulation.specs.Related.{called_by, IsCalledOutside, Related, AllInReach, DoneAgain}
use Rattle.slice_simulation.specs.Renaming.{activations_after, SameValue, SameScope, IsShifted, Marks, all_marks}

value_same : (v w : Contents) → value v ≡ value w → v ≡ w
value_same v w is = cc

raised_same : (o e : ℕ) → raised o ≡ raised e → object o ≡ object e
raised_same o e is = cc

-- the owner is the innermost open statement
pub owner_in : (told : List Moment) (n : ℕ) (from : List Open) → map open_of (frames_after told) ≡ a_statement n ∷ from → owner_stmt told ≡ Some n
owner_in told n from is = by_frames (frames_after told) is
  where
    by_frames : (frames : List Frame) → map open_of frames ≡ a_statement n ∷ from → option_map (λ (o : Occurrence). o.stmt) (innermost frames) ≡ Some n
    by_frames [] is = absurd cc
    by_frames (in_occurrence o ∷ frames) is = cc
    by_frames (in_activation time ∷ frames) is = absurd cc

-- in an activation it is the statement that called
owner_inside : (told : List Moment) (n : ℕ) (from : List Open) → map open_of (frames_after told) ≡ an_activation ∷ (a_statement n ∷ from) → owner_stmt told ≡ Some n
owner_inside told n from is = by_frames (frames_after told) is
  where
    by_frames : (frames : List Frame) → map open_of frames ≡ an_activation ∷ (a_statement n ∷ from) → option_map (λ (o : Occurrence). o.stmt) (innermost frames) ≡ Some n
    by_frames [] is = absurd cc
    by_frames (in_occurrence o ∷ frames) is = absurd cc
    by_frames (in_activation time ∷ []) is = absurd cc
    by_frames (in_activation time ∷ in_activation other ∷ frames) is = absurd cc
    by_frames (in_activation time ∷ in_occurrence o ∷ frames) is = cc

pub left_frames : (frames : List Frame) (from : List Open) → map open_of frames ≡ an_activation ∷ from → map open_of (without_top frames) ≡ from
left_frames [] from is = absurd cc
left_frames (frame ∷ frames) from is = cc

pub closed_frames : (frames : List Frame) (n : ℕ) (from : List Open) → map open_of frames ≡ a_statement n ∷ from → map open_of (without_top frames) ≡ from
closed_frames [] n from is = absurd cc
closed_frames (frame ∷ frames) n from is = cc

-- the store is what the moments have made of the opening one
pub record IsHeld (opening : RunStore) (s : State) : Type 0 where
  pub map_is : s.store.at ≡ held opening.at s.told
  pub kinds_are : s.store.kinds ≡ kinds_after opening.kinds s.told

-- What an operation has done to a store is what its moment says.
held_after : (laws : Laws) (opening : RunStore) (at : Pos) (p : Op) (vs : List Contents) (e : Effect) (s : State) (answer : Answer) (u : State) → Came at p vs e s answer u → IsHeld opening s → IsHeld opening u
held_after laws opening at p vs e s answer u came held_so = record {
  map_is = ap (λ (store : RunStore). store.at) came.store_is ∙ (laws.changes e s.store ∙ (ap (after_accesses (accesses_in e.touches)) held_so.map_is ∙ sym (ap (held opening.at) came.told_is)));
  kinds_are = ap (λ (store : RunStore). store.kinds) came.store_is ∙ (kinds_grow e s.store ∙ (ap (with_kind e.made) held_so.kinds_are ∙ sym (ap (kinds_after opening.kinds) came.told_is)));
}

-- So it is where an activation was entered.
entered_held : (opening : RunStore) (at def : Pos) (params : List (List ℕ)) (vs : List Contents) (s : State) → IsHeld opening s → IsHeld opening (entering at def params vs s)
entered_held opening at def params vs s held_so = record {
  map_is = ap (after_accesses (parameters_set (suc s.entered) params vs)) held_so.map_is;
  kinds_are = held_so.kinds_are;
}

-- the last answer is known
abbrev pub KnownLast : (Pos → Bool) → List Moment → Type 0
KnownLast known (does at number values answer made accesses weight ∷ before) = KnownAnswer known answer
KnownLast known told = ⊤

pub record Holds (opening : RunStore) (OnlyKept : Pos → Type 0) (known : Pos → Bool) (s t : State) : Type 0 where
  pub here : IsHeld opening s
  pub there : IsHeld opening t
  pub askings : (place : Pos) → OnlyKept place → askings_at place t.askings ≡ askings_at place s.askings
  pub knows : KnownStore known t.store
  pub last : KnownLast known t.told

-- What has been told of all the moments.
module _ (capture : Capture) (keep : StmtSet) (opening : RunStore) (upto : List Moment) where
  -- all moments are told
  pub record Through (ended : Ended) : Type 0 where
    pub rest : List Moment
    pub told_is : (state_in ended).told ≡ rest ++ upto

  -- what has been told is an end of all moments
  pub told_within : (a : Act) (s : State) → length s.told ≤ length upto → Through (outcome capture a s) → IsEndOf s.told upto
  told_within a s short through = ends_meet (onwards capture a s).news through.rest s.told upto (sym (onwards capture a s).told_is ∙ through.told_is) short

  -- a run that has ended has told all that it tells
  pub not_yet : {ended : Ended} (s : State) → (state_in ended).told ≡ s.told → length s.told < length upto → Through ended → ⊥
  not_yet {ended} s same before through = omega (arith, before, ap length (sym same ∙ through.told_is), length-append through.rest upto)

-- The run comes to a state that stands for one of the script's run, which has told all of the moments.
module _ (capture : Capture) (keep : StmtSet) (opening : RunStore) (upto : List Moment) (OnlyKept : Pos → Type 0) (ground : Ground) where
  pub record Reaches (ended : Ended) : Type 0 where
    pub here : State
    pub there : State
    pub news : List Moment
    pub told_is : (state_in ended).told ≡ news ++ there.told
    pub here_is : here.told ≡ upto
    pub related : Related capture ground.paired ground.known keep upto here there
    pub holds : Holds opening OnlyKept ground.known here there

  -- What is asked of the set: what a kept statement's operation reads was written last by kept statements; and what ends by a jump inside a kept
  -- statement, or in the module, is kept.
  pub record AsksKept : Type 0 where
    pub reads : (news before : List Moment) (at : Pos) (number : ℕ) (values : List Contents) (answer : Answer) (made : Option SeenKind) (accesses : List SeenAccess) (size n : ℕ)
        → upto ≡ news ++ does at number values answer made accesses size ∷ before → owner_stmt before ≡ Some n → keep n ≡ true → AllInReach keep before accesses
    pub jumps : (news before : List Moment) (n : ℕ) (ended : Ending) (from : List Open) → upto ≡ news ++ ends n ended ∷ before → (ended ≡ normal_end → ⊥)
        → map open_of (frames_after before) ≡ a_statement n ∷ from → TopIsKept keep from → keep n ≡ true
    -- what begins in an activation that a statement entered which is not kept
    pub calls : (news before : List Moment) (n : ℕ) (from : List Open) → upto ≡ news ++ begins n ∷ before → map open_of (frames_after before) ≡ from → CallerIsOut keep from → keep n ≡ false
    -- a place at which something is asked is of kept statements alone, or of none
    pub asking : (news before : List Moment) (at : Pos) (number : ℕ) (values : List Contents) (answer : Answer) (made : Option SeenKind) (accesses : List SeenAccess) (size n : ℕ)
        → upto ≡ news ++ does at number values answer made accesses size ∷ before → owner_stmt before ≡ Some n → may_ask number ≡ true → keep n ≡ true → OnlyKept at
    pub asking_out : (news before : List Moment) (at : Pos) (number : ℕ) (values : List Contents) (answer : Answer) (made : Option SeenKind) (accesses : List SeenAccess) (size n : ℕ)
        → upto ≡ news ++ does at number values answer made accesses size ∷ before → owner_stmt before ≡ Some n → may_ask number ≡ true → keep n ≡ false
        → (place : Pos) → OnlyKept place → places.eq at place ≡ false
    -- as which `def` an activation was entered
    pub enters : (news before : List Moment) (at def : Pos) (vs : List Contents) (accesses : List SeenAccess) → upto ≡ news ++ enters at def vs accesses ∷ before
        → ground.entered (length (activations_after keep before)) def
    -- what a kept statement names is local in what is kept of its function, or not local in its function
    pub names : (news : List Moment) (at : Pos) (p : Op) (vs : List Contents) (s u : State) (answer : Answer) (came : Walked) (n : ℕ) (one other : Function)
        → operation capture at p vs s ≡ did answer came u → upto ≡ news ++ u.told → owner_stmt s.told ≡ Some n → keep n ≡ true → OnName p.no vs
        → SameFunction keep one other → ground.called one other → ground.entered p.scope one.place → is_local one p.name ≡ true → is_local other p.name ≡ false → ⊥

  -- the statement that entered the innermost activation is not kept
  called_outside : (frames : List Frame) (from : List Open) → map open_of frames ≡ from → CallerIsOut keep from → (o : Occurrence) × (_ : called_by frames ≡ Some o) × (keep o.stmt ≡ false)
  called_outside [] from is out = absurd (subst (CallerIsOut keep) (sym is) out)
  called_outside (in_occurrence o ∷ frames) from is out = called_outside frames (map open_of frames) refl (subst (CallerIsOut keep) (sym is) out)
  called_outside (in_activation time ∷ frames) from is out = inner_out frames (map open_of frames) refl (subst (CallerIsOut keep) (sym is) out)
    where
      inner_out : (frames : List Frame) (from : List Open) → map open_of frames ≡ from → InnermostIs false keep from → (o : Occurrence) × (_ : innermost frames ≡ Some o) × (keep o.stmt ≡ false)
      inner_out [] from is out = absurd (subst (InnermostIs false keep) (sym is) out)
      inner_out (in_occurrence o ∷ frames) from is out = (o, refl, subst (InnermostIs false keep) (sym is) out)
      inner_out (in_activation time ∷ frames) from is out = inner_out frames (map open_of frames) refl (subst (InnermostIs false keep) (sym is) out)

  lone_there : {n : ℕ} (told : List Moment) (from : List Open) → map open_of (frames_after told) ≡ from → BeginsAlone ground keep n from → ((p : ℕ) → ground.paired n p → ⊥) ⊎ IsCalledOutside keep told
  lone_there told from frames (inl lone) = inl lone
  lone_there told from frames (inr out) =
      let called = called_outside (frames_after told) from frames out in
      inr (record { caller = called.0; caller_is = called.1; out = called.2 })

  module _ (laws : Laws) (flow : FlowLaws) (asks : AsksKept) where
    abbrev pub marks : Marks
    marks = all_marks keep upto

    -- it has arrived, or it goes on
    pub arrive : (a b : Act) (s t : State) → Related capture ground.paired ground.known keep upto s t → Holds opening OnlyKept ground.known s t → length s.told ≤ length upto → Through capture keep opening upto (outcome capture a s)
        → (length s.told < length upto → Reaches (outcome capture b t)) → Reaches (outcome capture b t)
    arrive a b s t related holds short through go = by_length (nat_lt (length s.told) (length upto)) refl
      where
        by_length : (test : Bool) → nat_lt (length s.told) (length upto) ≡ test → Reaches (outcome capture b t)
        by_length true is = go (ltb-true (length s.told) (length upto) is)
        by_length false is = record {
          here = s;
          there = t;
          news = (onwards capture b t).news;
          told_is = (onwards capture b t).told_is;
          here_is = sym (same_end s.told upto (told_within capture keep opening upto a s short through) (omega (arith, short, ltb-false (length s.told) (length upto) is)));
          related = related;
          holds = holds;
        }

    pub simulate : {k : ℕ} {from onto : List Open} {a b : Act} → Beside ground keep marks k from onto a b → Knows ground.known b → (s t : State) → Related capture ground.paired ground.known keep upto s t → Holds opening OnlyKept ground.known s t
        → map open_of (frames_after s.told) ≡ from → t.left < k → length s.told < length upto → Through capture keep opening upto (outcome capture a s) → Reaches (outcome capture b t)
    simulate unreached knows s t related holds frames few before through = absurd (omega (arith, few))
    simulate (both_ret same) knows s t related holds frames few before through = absurd (not_yet capture keep opening upto s refl before through)
    simulate stopped knows s t related holds frames few before through = absurd (not_yet capture keep opening upto s refl before through)
    simulate {k = suc k} (both_perform {n = n} {from = from} {at = at} {p = p} {q = q} {vs = vs} {ws = ws} {f = f} {g = g} kept same_op same_values each thrown at_last) knows s t related holds frames few before through =
        by_happened (operation capture at p vs s) refl (came_by capture at p vs s) through
        (λ v w came same known place next now. simulate (each v w came same) (operands.next (value w) came known place) next now)
        (λ o e came same place next now. simulate (thrown o e came same) (operands.next (raised e) came tt place) next now)
        (λ came place next now. simulate (at_last came) (operands.next at_end came tt place) next now)
      where
        operands : KnownPerform ground.known q ws g
        operands = perform_known ground.known knows

        by_happened : (h : Happened) → operation capture at p vs s ≡ h → CameBy at p vs (effect_of capture at p vs s) s h
            → Through capture keep opening upto (elim h [ did answer came u ↦ outcome capture (f answer came) u | too_dear u ↦ spent u | lacked u ↦ lacking u ])
            → ((v w : Contents) (came : Walked) → SameValue marks v w → KnownAnswer ground.known (value w) → KnownPlace ground.known came.method → (next now : State) → Related capture ground.paired ground.known keep upto next now → Holds opening OnlyKept ground.known next now → map open_of (frames_after next.told) ≡ a_statement n ∷ from
            → now.left < k → length next.told < length upto → Through capture keep opening upto (outcome capture (f (value v) came) next) → Reaches (outcome capture (g (value w) came) now))
            → ((o e : ℕ) (came : Walked) → SameValue marks (object o) (object e) → KnownPlace ground.known came.method → (next now : State) → Related capture ground.paired ground.known keep upto next now → Holds opening OnlyKept ground.known next now → map open_of (frames_after next.told) ≡ a_statement n ∷ from
            → now.left < k → length next.told < length upto → Through capture keep opening upto (outcome capture (f (raised o) came) next) → Reaches (outcome capture (g (raised e) came) now))
            → ((came : Walked) → KnownPlace ground.known came.method → (next now : State) → Related capture ground.paired ground.known keep upto next now → Holds opening OnlyKept ground.known next now → map open_of (frames_after next.told) ≡ a_statement n ∷ from
            → now.left < k → length next.told < length upto → Through capture keep opening upto (outcome capture (f at_end came) next) → Reaches (outcome capture (g at_end came) now))
            → Reaches (outcome capture (perform at q ws g) t)
        by_happened (too_dear u) is came through on on_raise last = absurd (not_yet capture keep opening upto s came.0 before through)
        by_happened (lacked u) is came through on on_raise last = absurd (not_yet capture keep opening upto s came.0 before through)
        by_happened (did answer came u) is told through on on_raise last = by_answer answer refl through
          where
            long : length u.told ≡ suc (length s.told)
            long = ap length told.told_is

            within : IsEndOf u.told upto
            within = told_within capture keep opening upto (f answer came) u (omega (arith, long, before)) through

            upto_is : upto ≡ within.front ++ does at p.no vs answer (effect_of capture at p vs s).made (accesses_in (effect_of capture at p vs s).touches) (weight (effect_of capture at p vs s)) ∷ s.told
            upto_is = within.whole_is ∙ ap (λ (told : List Moment). within.front ++ told) told.told_is

            owner : owner_stmt s.told ≡ Some n
            owner = owner_in s.told n from frames

            asks_alike : (test : Bool) → may_ask p.no ≡ test → (may_ask p.no ≡ false) ⊎ (askings_at at t.askings ≡ askings_at at s.askings)
            asks_alike false none = inl none
            asks_alike true may = inr (holds.askings at (asks.asking within.front s.told at p.no vs answer _ _ _ n upto_is owner may kept))

            again : DoneAgain capture ground.paired ground.known keep upto at q ws s t answer came u
            again =
                kept_moment laws capture ground.paired ground.known keep upto at p q vs ws n s t u answer came related kept owner same_op same_values (asks_alike (may_ask p.no) refl)
                (flow.keeps ground.known q ws operands.operand operands.operands) holds.knows is
                within.front within.whole_is (asks.reads within.front s.told at p.no vs answer _ _ _ n upto_is owner kept)

            frames_now : map open_of (frames_after u.told) ≡ a_statement n ∷ from
            frames_now = ap (λ told. map open_of (frames_after told)) told.told_is ∙ frames

            known : KnownNow ground.known again.again came again.now
            known = known_now ground.known flow capture at q ws t again.again came again.now operands.operand operands.operands holds.knows again.happens

            there_came : Came at q ws (effect_of capture at q ws t) t again.again again.now
            there_came = subst (CameBy at q ws (effect_of capture at q ws t) t) again.happens (came_by capture at q ws t)

            holds_now : Holds opening OnlyKept ground.known u again.now
            holds_now = record {
              here = held_after laws opening at p vs (effect_of capture at p vs s) s answer u told holds.here;
              there = held_after laws opening at q ws (effect_of capture at q ws t) t again.again again.now there_came holds.there;
              askings = λ place only. again.askings place (holds.askings place only);
              knows = known.store;
              last = subst (KnownLast ground.known) (sym there_came.told_is) known.answers;
            }

            goes : outcome capture (perform at q ws g) t ≡ outcome capture (g again.again came) again.now
            goes = ap (λ h. elim h [ did answer came u ↦ outcome capture (g answer came) u | too_dear u ↦ spent u | lacked u ↦ lacking u ]) again.happens

            near : IsShifted marks 0
            near = shifts keep upto 0

            by_answer : (one : Answer) → answer ≡ one → Through capture keep opening upto (outcome capture (f answer came) u) → Reaches (outcome capture (perform at q ws g) t)
            by_answer (value v) same through =
                let through : Through capture keep opening upto (outcome capture (f (value v) came) u) = subst (λ one. Through capture keep opening upto (outcome capture (f one came) u)) same through in
                let again_is : again.again ≡ value (renamed near.by v) = again.answers near.by near.fits ∙ ap (renamed_answer near.by) same in
                let corresponds : SameValue marks v (renamed near.by v) =
                record { is = λ r fits. value_same _ _ (sym again_is ∙ (again.answers r fits ∙ ap (renamed_answer r) same)) } in
                subst Reaches (sym (goes ∙ ap (λ one. outcome capture (g one came) again.now) again_is))
                (arrive (f (value v) came) (g (value (renamed near.by v)) came) u again.now again.related holds_now (omega (arith, long, before)) through
                (λ early. on v (renamed near.by v) came corresponds (subst (KnownAnswer ground.known) again_is known.answers) known.method u again.now again.related holds_now frames_now (omega (arith, few, again.fewer)) early through))
            by_answer at_end same through =
                let through : Through capture keep opening upto (outcome capture (f at_end came) u) = subst (λ one. Through capture keep opening upto (outcome capture (f one came) u)) same through in
                let again_is : again.again ≡ at_end = again.answers near.by near.fits ∙ ap (renamed_answer near.by) same in
                subst Reaches (sym (goes ∙ ap (λ one. outcome capture (g one came) again.now) again_is))
                (arrive (f at_end came) (g at_end came) u again.now again.related holds_now (omega (arith, long, before)) through
                (λ early. last came known.method u again.now again.related holds_now frames_now (omega (arith, few, again.fewer)) early through))
            by_answer (raised o) same through =
                let through : Through capture keep opening upto (outcome capture (f (raised o) came) u) = subst (λ one. Through capture keep opening upto (outcome capture (f one came) u)) same through in
                let again_is : again.again ≡ raised (near.by.objects o) = again.answers near.by near.fits ∙ ap (renamed_answer near.by) same in
                let corresponds : SameValue marks (object o) (object (near.by.objects o)) =
                record { is = λ r fits. raised_same _ _ (sym again_is ∙ (again.answers r fits ∙ ap (renamed_answer r) same)) } in
                subst Reaches (sym (goes ∙ ap (λ one. outcome capture (g one came) again.now) again_is))
                (arrive (f (raised o) came) (g (raised (near.by.objects o)) came) u again.now again.related holds_now (omega (arith, long, before)) through
                (λ early. on_raise o (near.by.objects o) came corresponds known.method u again.now again.related holds_now frames_now (omega (arith, few, again.fewer)) early through))
    simulate (alone_perform {k = k} {n = n} {from = from} {at = at} {p = p} {vs = vs} {f = f} {b = b} out unknown each) knows s t related holds frames few before through =
        by_happened (operation capture at p vs s) refl (came_by capture at p vs s) through (λ answer came next. simulate (each answer came) knows next t)
      where
        by_happened : (h : Happened) → operation capture at p vs s ≡ h → CameBy at p vs (effect_of capture at p vs s) s h
            → Through capture keep opening upto (elim h [ did answer came u ↦ outcome capture (f answer came) u | too_dear u ↦ spent u | lacked u ↦ lacking u ])
            → ((answer : Answer) (came : Walked) → (next : State) → Related capture ground.paired ground.known keep upto next t → Holds opening OnlyKept ground.known next t → map open_of (frames_after next.told) ≡ a_statement n ∷ from
            → t.left < k → length next.told < length upto → Through capture keep opening upto (outcome capture (f answer came) next) → Reaches (outcome capture b t))
            → Reaches (outcome capture b t)
        by_happened (too_dear u) is came through on = absurd (not_yet capture keep opening upto s came.0 before through)
        by_happened (lacked u) is came through on = absurd (not_yet capture keep opening upto s came.0 before through)
        by_happened (did answer came u) is told through on =
            arrive (f answer came) b u t related_now holds_now (omega (arith, long, before)) through
            (λ early. on answer came u related_now holds_now (ap (λ told. map open_of (frames_after told)) told.told_is ∙ frames) few early through)
          where
            long : length u.told ≡ suc (length s.told)
            long = ap length told.told_is

            within : IsEndOf u.told upto
            within = told_within capture keep opening upto (f answer came) u (omega (arith, long, before)) through

            upto_is : upto ≡ within.front ++ does at p.no vs answer (effect_of capture at p vs s).made (accesses_in (effect_of capture at p vs s).touches) (weight (effect_of capture at p vs s)) ∷ s.told
            upto_is = within.whole_is ∙ ap (λ (told : List Moment). within.front ++ told) told.told_is

            holds_now : Holds opening OnlyKept ground.known u t
            holds_now = record {
              here = held_after laws opening at p vs (effect_of capture at p vs s) s answer u told holds.here;
              there = holds.there;
              knows = holds.knows;
              last = holds.last;
              askings = λ place only. holds.askings place only
                  ∙ sym (deleted_askings laws capture ground.paired ground.known keep upto at p vs s u answer came is place
                  (λ may. asks.asking_out within.front s.told at p.no vs answer _ _ _ n upto_is (owner_in s.told n from frames) may out place only));
            }

            unnoted : (place : Pos) → ground.known place ≡ true → u.store.names place ≡ s.store.names place
            unnoted place known = ap (λ (store : RunStore). store.names place) told.store_is
                ∙ names_stay ground.known s.store (answers_at capture at (suc (askings_at at s.askings))) place known
                (λ op values none. flow.silent s.store (answers_at capture at (suc (askings_at at s.askings))) op values place none) p vs unknown

            related_now : Related capture ground.paired ground.known keep upto u t
            related_now = deleted_moment laws capture ground.paired ground.known keep upto at p vs n s t u answer came related out (owner_in s.told n from frames) is
                unnoted
    simulate {k = suc k} (both_begin {n = n} {m = m} {from = from} {a = a} {b = b} kept named rest) knows s t related holds frames few before through =
        by_left (nat_le 1 s.left) through (simulate rest (begin_known ground.known knows) (beginning n s) (beginning m t))
      where
        by_left : (enough : Bool) → Through capture keep opening upto (if enough then outcome capture a (beginning n s) else spent s)
            → (Related capture ground.paired ground.known keep upto (beginning n s) (beginning m t) → Holds opening OnlyKept ground.known (beginning n s) (beginning m t) → map open_of (frames_after (begins n ∷ s.told)) ≡ a_statement n ∷ from → (beginning m t).left < k
            → suc (length s.told) < length upto → Through capture keep opening upto (outcome capture a (beginning n s)) → Reaches (outcome capture b (beginning m t)))
            → Reaches (outcome capture (begin m b) t)
        by_left false through on = absurd (not_yet capture keep opening upto s refl before through)
        by_left true through on =
            let within : IsEndOf (begins n ∷ s.told) upto = told_within capture keep opening upto a (beginning n s) (omega (arith, before)) through in
            let pays : 1 ≤ t.left = begin_paid laws capture ground.paired ground.known keep upto n m s t related within.front within.whole_is in
            let held_now : Holds opening OnlyKept ground.known (beginning n s) (beginning m t) = record { here = record { map_is = holds.here.map_is; kinds_are = holds.here.kinds_are }; there = record { map_is = holds.there.map_is; kinds_are = holds.there.kinds_are }; askings = holds.askings; knows = holds.knows; last = tt } in
            let now : Related capture ground.paired ground.known keep upto (beginning n s) (beginning m t) = both_begin_related laws capture ground.paired ground.known keep upto n m s t related kept named pays in
            subst Reaches (ap (λ test. if test then outcome capture b (beginning m t) else spent t) (sym (le-leb 1 t.left pays)))
            (arrive a b (beginning n s) (beginning m t) now held_now (omega (arith, before)) through
            (λ early. on now held_now (ap (λ (open_ones : List Open). a_statement n ∷ open_ones) frames) (omega (arith, few, pays)) early through))
    simulate (alone_begin {k = k} {n = n} {from = from} {a = a} {b = b} out lone rest) knows s t related holds frames few before through =
        by_left (nat_le 1 s.left) through (simulate rest knows (beginning n s) t)
      where
        by_left : (enough : Bool) → Through capture keep opening upto (if enough then outcome capture a (beginning n s) else spent s)
            → (Related capture ground.paired ground.known keep upto (beginning n s) t → Holds opening OnlyKept ground.known (beginning n s) t → map open_of (frames_after (begins n ∷ s.told)) ≡ a_statement n ∷ from → t.left < k
            → suc (length s.told) < length upto → Through capture keep opening upto (outcome capture a (beginning n s)) → Reaches (outcome capture b t))
            → Reaches (outcome capture b t)
        by_left false through on = absurd (not_yet capture keep opening upto s refl before through)
        by_left true through on =
            let held_now : Holds opening OnlyKept ground.known (beginning n s) t = record { here = record { map_is = holds.here.map_is; kinds_are = holds.here.kinds_are }; there = record { map_is = holds.there.map_is; kinds_are = holds.there.kinds_are }; askings = holds.askings; knows = holds.knows; last = holds.last } in
            let now : Related capture ground.paired ground.known keep upto (beginning n s) t = alone_begin_related laws capture ground.paired ground.known keep upto n 0 s t related out (lone_there s.told from frames lone) in
            arrive a b (beginning n s) t now held_now (omega (arith, before)) through
            (λ early. on now held_now (ap (λ (open_ones : List Open). a_statement n ∷ open_ones) frames) few early through)
    simulate {k = suc k} (pass_begin {n = n} {m = m} {from = from} {a = a} {b = b} out named rest) knows s t related holds frames few before through =
        by_left (nat_le 1 s.left) through (simulate rest (close_known ground.known (begin_known ground.known knows)) (beginning n s) (tell (ends m normal_end) (beginning m t)))
      where
        by_left : (enough : Bool) → Through capture keep opening upto (if enough then outcome capture a (beginning n s) else spent s)
            → (Related capture ground.paired ground.known keep upto (beginning n s) (tell (ends m normal_end) (beginning m t)) → Holds opening OnlyKept ground.known (beginning n s) (tell (ends m normal_end) (beginning m t)) → map open_of (frames_after (begins n ∷ s.told)) ≡ a_statement n ∷ from
            → (beginning m t).left < k → suc (length s.told) < length upto → Through capture keep opening upto (outcome capture a (beginning n s))
            → Reaches (outcome capture b (tell (ends m normal_end) (beginning m t))))
            → Reaches (outcome capture (begin m (close m normal_end b)) t)
        by_left false through on = absurd (not_yet capture keep opening upto s refl before through)
        by_left true through on =
            let within : IsEndOf (begins n ∷ s.told) upto = told_within capture keep opening upto a (beginning n s) (omega (arith, before)) through in
            let pays : 1 ≤ t.left = begin_paid laws capture ground.paired ground.known keep upto n m s t related within.front within.whole_is in
            let held_now : Holds opening OnlyKept ground.known (beginning n s) (tell (ends m normal_end) (beginning m t)) = record { here = record { map_is = holds.here.map_is; kinds_are = holds.here.kinds_are }; there = record { map_is = holds.there.map_is; kinds_are = holds.there.kinds_are }; askings = holds.askings; knows = holds.knows; last = tt } in
            let now : Related capture ground.paired ground.known keep upto (beginning n s) (tell (ends m normal_end) (beginning m t)) = pass_related laws capture ground.paired ground.known keep upto n m s t related out named pays in
            subst Reaches (ap (λ test. if test then outcome capture b (tell (ends m normal_end) (beginning m t)) else spent t) (sym (le-leb 1 t.left pays)))
            (arrive a b (beginning n s) (tell (ends m normal_end) (beginning m t)) now held_now (omega (arith, before)) through
            (λ early. on now held_now (ap (λ (open_ones : List Open). a_statement n ∷ open_ones) frames) (omega (arith, few, pays)) early through))
    simulate (both_close {n = n} {m = m} {from = from} {ended = ended} {a = a} {b = b} kept named rest) knows s t related holds frames few before through =
        let held_now : Holds opening OnlyKept ground.known (tell (ends n ended) s) (tell (ends m ended) t) = record { here = record { map_is = holds.here.map_is; kinds_are = holds.here.kinds_are }; there = record { map_is = holds.there.map_is; kinds_are = holds.there.kinds_are }; askings = holds.askings; knows = holds.knows; last = tt } in
        let now : Related capture ground.paired ground.known keep upto (tell (ends n ended) s) (tell (ends m ended) t) = both_end_related laws capture ground.paired ground.known keep upto n m s t related ended kept named in
        arrive a b (tell (ends n ended) s) (tell (ends m ended) t) now held_now (omega (arith, before)) (told_on through)
        (λ early. simulate rest (close_known ground.known knows) (tell (ends n ended) s) (tell (ends m ended) t) now held_now (closed_frames (frames_after s.told) n from frames) few early (told_on through))
      where
        told_on : Through capture keep opening upto (outcome capture (close n ended a) s) → Through capture keep opening upto (outcome capture a (tell (ends n ended) s))
        told_on through = record { rest = through.rest; told_is = through.told_is }
    simulate (alone_close {n = n} {from = from} {ended = ended} {a = a} {b = b} out rest) knows s t related holds frames few before through =
        let held_now : Holds opening OnlyKept ground.known (tell (ends n ended) s) t = record { here = record { map_is = holds.here.map_is; kinds_are = holds.here.kinds_are }; there = record { map_is = holds.there.map_is; kinds_are = holds.there.kinds_are }; askings = holds.askings; knows = holds.knows; last = holds.last } in
        let now : Related capture ground.paired ground.known keep upto (tell (ends n ended) s) t = alone_end_related laws capture ground.paired ground.known keep upto n 0 s t related ended out in
        arrive a b (tell (ends n ended) s) t now held_now (omega (arith, before)) (told_on through)
        (λ early. simulate rest knows (tell (ends n ended) s) t now held_now (closed_frames (frames_after s.told) n from frames) few early (told_on through))
      where
        told_on : Through capture keep opening upto (outcome capture (close n ended a) s) → Through capture keep opening upto (outcome capture a (tell (ends n ended) s))
        told_on through = record { rest = through.rest; told_is = through.told_is }
    simulate {k = suc k} (both_enter {n = n} {from = from} {at = at} {def = def} {params = params} {vs = vs} {ws = ws} {f = f} {g = g} kept same each) knows s t related holds frames few before through =
        by_left (nat_le (suc (length vs)) s.left) through (λ now by. simulate (each (suc s.entered) (suc t.entered) now by) ((enter_known ground.known knows).next (suc t.entered)) (entering at def params vs s) (entering at def params ws t))
      where
        owner : owner_stmt s.told ≡ Some n
        owner = owner_in s.told n from frames

        by_left : (enough : Bool) → Through capture keep opening upto (if enough then outcome capture (f (suc s.entered)) (entering at def params vs s) else spent s)
            → (SameScope marks (suc s.entered) (suc t.entered) → ground.entered (suc s.entered) def → Related capture ground.paired ground.known keep upto (entering at def params vs s) (entering at def params ws t) → Holds opening OnlyKept ground.known (entering at def params vs s) (entering at def params ws t)
            → map open_of (frames_after (entering at def params vs s).told) ≡ an_activation ∷ (a_statement n ∷ from) → (entering at def params ws t).left < k → suc (length s.told) < length upto
            → Through capture keep opening upto (outcome capture (f (suc s.entered)) (entering at def params vs s)) → Reaches (outcome capture (g (suc t.entered)) (entering at def params ws t)))
            → Reaches (outcome capture (enter at def params ws g) t)
        by_left false through on = absurd (not_yet capture keep opening upto s refl before through)
        by_left true through on =
            let within : IsEndOf (entering at def params vs s).told upto = told_within capture keep opening upto (f (suc s.entered)) (entering at def params vs s) (omega (arith, before)) through in
            let pays : suc (length ws) ≤ t.left = enter_paid laws capture ground.paired ground.known keep upto at def params vs n s t related owner ws kept same within.front within.whole_is in
            let held_now : Holds opening OnlyKept ground.known (entering at def params vs s) (entering at def params ws t) = record { here = entered_held opening at def params vs s holds.here; there = entered_held opening at def params ws t holds.there; askings = holds.askings; knows = entered_known ground.known at def params ws t (enter_known ground.known knows).operands holds.knows; last = tt } in
            let now : Related capture ground.paired ground.known keep upto (entering at def params vs s) (entering at def params ws t) = both_enter_related laws capture ground.paired ground.known keep upto at def params vs n s t related owner ws kept same within.front within.whole_is in
            subst Reaches (ap (λ test. if test then outcome capture (g (suc t.entered)) (entering at def params ws t) else spent t) (sym (le-leb (suc (length ws)) t.left pays)))
            (arrive (f (suc s.entered)) (g (suc t.entered)) (entering at def params vs s) (entering at def params ws t) now held_now (omega (arith, before)) through
            (λ early. on (same_activation laws capture ground.paired ground.known keep upto at def params vs n s t related owner ws kept same within.front within.whole_is)
            (subst (λ a. ground.entered a def) (sym related.entered_here) (asks.enters within.front s.told at def vs (parameters_set (suc s.entered) params vs) within.whole_is)) now held_now
            (ap (λ (open_ones : List Open). an_activation ∷ open_ones) frames) (omega (arith, few, pays)) early through))
    simulate (alone_enter {k = k} {n = n} {from = from} {at = at} {def = def} {params = params} {vs = vs} {f = f} {b = b} out each) knows s t related holds frames few before through =
        by_left (nat_le (suc (length vs)) s.left) through (simulate (each (suc s.entered)) knows (entering at def params vs s) t)
      where
        by_left : (enough : Bool) → Through capture keep opening upto (if enough then outcome capture (f (suc s.entered)) (entering at def params vs s) else spent s)
            → (Related capture ground.paired ground.known keep upto (entering at def params vs s) t → Holds opening OnlyKept ground.known (entering at def params vs s) t
            → map open_of (frames_after (entering at def params vs s).told) ≡ an_activation ∷ (a_statement n ∷ from) → t.left < k → suc (length s.told) < length upto
            → Through capture keep opening upto (outcome capture (f (suc s.entered)) (entering at def params vs s)) → Reaches (outcome capture b t))
            → Reaches (outcome capture b t)
        by_left false through on = absurd (not_yet capture keep opening upto s refl before through)
        by_left true through on =
            let held_now : Holds opening OnlyKept ground.known (entering at def params vs s) t = record { here = entered_held opening at def params vs s holds.here; there = holds.there; askings = holds.askings; knows = holds.knows; last = holds.last } in
            let now : Related capture ground.paired ground.known keep upto (entering at def params vs s) t = alone_enter_related laws capture ground.paired ground.known keep upto at def params vs n s t related
            (owner_in s.told n from frames) out in
            arrive (f (suc s.entered)) b (entering at def params vs s) t now held_now (omega (arith, before)) through
            (λ early. on now held_now (ap (λ (open_ones : List Open). an_activation ∷ open_ones) frames) few early through)
    simulate (both_leave {n = n} {from = from} {v = v} {w = w} {a = a} {b = b} kept same rest) knows s t related holds frames few before through =
        let held_now : Holds opening OnlyKept ground.known (tell (leaves v) s) (tell (leaves w) t) = record { here = record { map_is = holds.here.map_is; kinds_are = holds.here.kinds_are }; there = record { map_is = holds.there.map_is; kinds_are = holds.there.kinds_are }; askings = holds.askings; knows = holds.knows; last = tt } in
        let now : Related capture ground.paired ground.known keep upto (tell (leaves v) s) (tell (leaves w) t) = both_leave_related laws capture ground.paired ground.known keep upto v w n s t related
        (owner_inside s.told n from frames) kept same in
        arrive a b (tell (leaves v) s) (tell (leaves w) t) now held_now (omega (arith, before)) (told_on through)
        (λ early. simulate rest (leave_known ground.known knows) (tell (leaves v) s) (tell (leaves w) t) now held_now (left_frames (frames_after s.told) (a_statement n ∷ from) frames) few early (told_on through))
      where
        told_on : Through capture keep opening upto (outcome capture (leave v a) s) → Through capture keep opening upto (outcome capture a (tell (leaves v) s))
        told_on through = record { rest = through.rest; told_is = through.told_is }
    simulate (alone_leave {n = n} {from = from} {v = v} {a = a} {b = b} out rest) knows s t related holds frames few before through =
        let held_now : Holds opening OnlyKept ground.known (tell (leaves v) s) t = record { here = record { map_is = holds.here.map_is; kinds_are = holds.here.kinds_are }; there = record { map_is = holds.there.map_is; kinds_are = holds.there.kinds_are }; askings = holds.askings; knows = holds.knows; last = holds.last } in
        let now : Related capture ground.paired ground.known keep upto (tell (leaves v) s) t = alone_leave_related laws capture ground.paired ground.known keep upto v v n s t related (owner_inside s.told n from frames) out in
        arrive a b (tell (leaves v) s) t now held_now (omega (arith, before)) (told_on through)
        (λ early. simulate rest knows (tell (leaves v) s) t now held_now (left_frames (frames_after s.told) (a_statement n ∷ from) frames) few early (told_on through))
      where
        told_on : Through capture keep opening upto (outcome capture (leave v a) s) → Through capture keep opening upto (outcome capture a (tell (leaves v) s))
        told_on through = record { rest = through.rest; told_is = through.told_is }
    simulate (barred_begin {n = n} {from = from} {a = a} {b = b} kept out) knows s t related holds frames few before through = by_left (nat_le 1 s.left) through
      where
        by_left : (enough : Bool) → Through capture keep opening upto (if enough then outcome capture a (beginning n s) else spent s) → Reaches (outcome capture b t)
        by_left false through = absurd (not_yet capture keep opening upto s refl before through)
        by_left true through =
            let within : IsEndOf (begins n ∷ s.told) upto = told_within capture keep opening upto a (beginning n s) (omega (arith, before)) through in
            absurd (false≢true (sym (asks.calls within.front s.told n from within.whole_is frames out) ∙ kept))
    simulate (abrupt_close {n = n} {from = from} {ended = ended} {a = a} {b = b} out top abrupt) knows s t related holds frames few before through =
        let within : IsEndOf (ends n ended ∷ s.told) upto = told_within capture keep opening upto a (tell (ends n ended) s) (omega (arith, before)) (told_on through) in
        absurd (false≢true (sym out ∙ asks.jumps within.front s.told n ended from within.whole_is abrupt frames top))
      where
        told_on : Through capture keep opening upto (outcome capture (close n ended a) s) → Through capture keep opening upto (outcome capture a (tell (ends n ended) s))
        told_on through = record { rest = through.rest; told_is = through.told_is }
    simulate (unknown_perform unknown) knows s t related holds frames few before through = absurd (unknown (perform_known ground.known knows).operands)
    simulate (lost_name {n = n} {from = from} {at = at} {p = p} {vs = vs} {f = f} {b = b} {one = one} {other = other} kept on same called entered here there) knows s t related holds frames few before through =
        by_happened (operation capture at p vs s) refl (came_by capture at p vs s) through
      where
        by_happened : (h : Happened) → operation capture at p vs s ≡ h → CameBy at p vs (effect_of capture at p vs s) s h
            → Through capture keep opening upto (elim h [ did answer came u ↦ outcome capture (f answer came) u | too_dear u ↦ spent u | lacked u ↦ lacking u ]) → Reaches (outcome capture b t)
        by_happened (too_dear u) is came through = absurd (not_yet capture keep opening upto s came.0 before through)
        by_happened (lacked u) is came through = absurd (not_yet capture keep opening upto s came.0 before through)
        by_happened (did answer came u) is told through =
            let within : IsEndOf u.told upto = told_within capture keep opening upto (f answer came) u (omega (arith, ap length told.told_is, before)) through in
            absurd (asks.names within.front at p vs s u answer came n one other is within.whole_is (owner_in s.told n from frames) kept on same called entered here there)
