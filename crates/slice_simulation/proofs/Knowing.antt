-- What the slice's run does with values that it knows: those in whose functions and classes the slice has definitions.
use Rattle.std.proofs.Common.{◌≡◌, ℕ, zero, suc, ◌+◌, List, [], ◌∷◌, length, slice_get, Option, Some, None, sym, subst}
use Rattle.std.specs.Prelude.{Bool, true, false, if◌then◌else◌, codes}
use Rattle.prov_base.specs.declared.place.Pos.{Pos}
use Rattle.py_tree.specs.Tree.{ScriptTree}
use Rattle.py_value.specs.Changes.{after_accesses}
use Rattle.py_value.specs.Contents.{Contents, text}
use Rattle.py_value.specs.Same.{put, same_location}
use Rattle.py_value.specs.Seen.{SeenLocation, SeenContent, SeenAccess, a_list, var_at, len_at, item_at, entry_at, order_at, file_at, offset_at, closed_at, method_at, base_at, var_is, len_is, item_is, file_is}
use Rattle.py_model.specs.Act.{Act, Walked, perform, begin, close, enter, leave}
use Rattle.py_model.specs.Capture.{Capture, answers_at}
use Rattle.py_model.specs.Effect.{Answers, effect, after, accesses_in}
use Rattle.py_model.specs.Meaning.{meaning}
use Rattle.py_model.specs.Moment.{Ending, parameters_set}
use Rattle.py_model.specs.Operations.{Op, plan}
use Rattle.py_model.specs.Plan.{Plan, Answer}
use Rattle.py_model.specs.Quiet.{may_note}
use Rattle.py_model.specs.Running.{State, askings_at, did, effect_of, operation, method_found, entering}
use Rattle.py_model.specs.Store.{RunStore, opening, unset, with_items, with_files}
use Rattle.model_laws.specs.Defined.{defines}
use Rattle.model_laws.specs.Flow.{KnownValue, KnownAll, KnownKind, KnownPlace, KnownContent, KnownFound, KnownStore, KnownAnswer, KnownOutcome, KeepsKnown}
use Rattle.model_laws.specs.Knows.{Knows, kn_perform, kn_begin, kn_close, kn_enter, kn_leave}
use Rattle.slice_simulation.proofs.Happenings.{DidSo, did_so, with_asked, note_as}

-- the laws of values that are known
pub record FlowLaws : Type 0 where
  pub keeps : (known : Pos → Bool) (op : Op) (values : List Contents) → KnownValue known op.value → KnownAll known values → KeepsKnown known (plan op values)
  pub store : (known : Pos → Bool) (store : RunStore) (answers : Answers) (p : Plan) → KeepsKnown known p → KnownStore known store → KnownStore known (after (effect store answers p) store)
  pub answer : (known : Pos → Bool) (store : RunStore) (answers : Answers) (p : Plan) → KeepsKnown known p → KnownStore known store → KnownOutcome known (effect store answers p).outcome
  pub method : (known : Pos → Bool) (store : RunStore) (accesses : List SeenAccess) → KnownStore known store → KnownPlace known (method_found store accesses None)
  pub silent : (store : RunStore) (answers : Answers) (op : Op) (values : List Contents) (place : Pos) → may_note op.no ≡ false
      → (after (effect store answers (plan op values)) store).names place ≡ store.names place
  pub tree : (script : ScriptTree) (steps : ℕ) → Knows (defines script) (meaning script steps)

module _ (known : Pos → Bool) where
  put_known : (m : SeenLocation) (c : SeenContent) (map : SeenLocation → Option SeenContent) → KnownContent known c → ((l : SeenLocation) → KnownFound known (map l)) → (l : SeenLocation) → KnownFound known (put m c map l)
  put_known m c map so is l = by_test (same_location m l)
    where
      by_test : (test : Bool) → KnownFound known (if test then Some c else map l)
      by_test true = so
      by_test false = is l

  -- what a tree that knows its operands is made of
  pub record KnownPerform (q : Op) (ws : List Contents) (g : Answer → Walked → Act) : Type 0 where
    pub operand : KnownValue known q.value
    pub operands : KnownAll known ws
    pub next : (answer : Answer) (came : Walked) → KnownAnswer known answer → KnownPlace known came.method → Knows known (g answer came)

  pub perform_known : {at : Pos} {q : Op} {ws : List Contents} {g : Answer → Walked → Act} → Knows known (perform at q ws g) → KnownPerform q ws g
  perform_known (kn_perform one all next) = record { operand = one; operands = all; next = next }

  pub begin_known : {n : ℕ} {a : Act} → Knows known (begin n a) → Knows known a
  begin_known (kn_begin rest) = rest

  pub close_known : {n : ℕ} {ended : Ending} {a : Act} → Knows known (close n ended a) → Knows known a
  close_known (kn_close rest) = rest

  pub leave_known : {v : Contents} {a : Act} → Knows known (leave v a) → Knows known a
  leave_known (kn_leave rest) = rest

  pub record KnownEnter (ws : List Contents) (g : ℕ → Act) : Type 0 where
    pub operands : KnownAll known ws
    pub next : (a : ℕ) → Knows known (g a)

  pub enter_known : {at def : Pos} {params : List (List ℕ)} {ws : List Contents} {g : ℕ → Act} → Knows known (enter at def params ws g) → KnownEnter ws g
  enter_known (kn_enter all next) = record { operands = all; next = next }

  -- what an operation comes to
  pub record KnownNow (answer : Answer) (came : Walked) (u : State) : Type 0 where
    pub answers : KnownAnswer known answer
    pub method : KnownPlace known came.method
    pub store : KnownStore known u.store

  pub known_now : FlowLaws → (capture : Capture) (at : Pos) (q : Op) (ws : List Contents) (t : State) (answer : Answer) (came : Walked) (u : State)
      → KnownValue known q.value → KnownAll known ws → KnownStore known t.store → operation capture at q ws t ≡ did answer came u → KnownNow answer came u
  known_now flow capture at q ws t answer came u one all is happens = record {
    answers = subst (KnownOutcome known) so.answers (flow.answer known t.store (answers_at capture at (suc (askings_at at t.askings))) (plan q ws) keeps is);
    method = subst (λ came. KnownPlace known came.method) (sym so.came_is) (flow.method known t.store (accesses_in (effect_of capture at q ws t).touches) is);
    store = subst (λ u. KnownStore known u.store) (sym so.next_is) (flow.store known t.store (answers_at capture at (suc (askings_at at t.askings))) (plan q ws) keeps is);
  }
    where
      keeps : KeepsKnown known (plan q ws)
      keeps = flow.keeps known q ws one all

      so : DidSo at q ws (effect_of capture at q ws t) (effect_of capture at q ws t).outcome (with_asked at (suc (askings_at at t.askings)) (effect_of capture at q ws t).touches t) answer came u
      so = did_so at q ws capture t (with_asked at (suc (askings_at at t.askings)) (effect_of capture at q ws t).touches t) answer came u
          (note_as at (suc (askings_at at t.askings)) (effect_of capture at q ws t).touches t) happens

  params_known : (a : ℕ) (params : List (List ℕ)) (ws : List Contents) (map : SeenLocation → Option SeenContent) → KnownAll known ws → ((l : SeenLocation) → KnownFound known (map l))
      → (l : SeenLocation) → KnownFound known (after_accesses (parameters_set a params ws) map l)
  params_known a [] ws map all is = is
  params_known a (name ∷ params) [] map all is = is
  params_known a (name ∷ params) (w ∷ ws) map all is =
      params_known a params ws (put (var_at a name) (var_is (Some w)) map) all.1 (put_known (var_at a name) (var_is (Some w)) map all.0 is)

  pub entered_known : (at def : Pos) (params : List (List ℕ)) (ws : List Contents) (t : State) → KnownAll known ws → KnownStore known t.store → KnownStore known (entering at def params ws t).store
  entered_known at def params ws t all is = record { at = params_known (suc t.entered) params ws t.store.at all is.at; kinds = is.kinds }

  -- a run begins with texts alone
  unset_known : (l : SeenLocation) → KnownFound known (unset l)
  unset_known (order_at o) = tt
  unset_known (var_at scope name) = tt
  unset_known (len_at o) = tt
  unset_known (item_at o i) = tt
  unset_known (entry_at o key) = tt
  unset_known (file_at path) = tt
  unset_known (offset_at o) = tt
  unset_known (closed_at o) = tt
  unset_known (method_at place name) = tt
  unset_known (base_at place) = tt

  files_known : (files : List (List ℕ × List ℕ)) (l : SeenLocation) → KnownFound known (with_files files unset l)
  files_known [] l = unset_known l
  files_known (file ∷ files) l = put_known (file_at file.0) (file_is file.1) (with_files files unset) tt (files_known files) l

  items_known : (i : ℕ) (words : List (List ℕ)) (map : SeenLocation → Option SeenContent) → ((l : SeenLocation) → KnownFound known (map l)) → (l : SeenLocation) → KnownFound known (with_items 0 i words map l)
  items_known i [] map is = is
  items_known i (word ∷ words) map is = put_known (item_at 0 i) (item_is (text word)) (with_items 0 (i + 1) words map) tt (items_known (i + 1) words map is)

  pub opening_known : (path : List ℕ) (arguments : List (List ℕ)) (files : List (List ℕ × List ℕ)) → KnownStore known (opening path arguments files)
  opening_known path arguments files = record {
    at = put_known (var_at 0 (codes "__name__")) (var_is (Some (text (codes "__main__")))) (put (len_at 0) (len_is (length arguments + 1)) (with_items 0 0 (path ∷ arguments) (with_files files unset))) tt
        (put_known (len_at 0) (len_is (length arguments + 1)) (with_items 0 0 (path ∷ arguments) (with_files files unset)) tt
        (items_known 0 (path ∷ arguments) (with_files files unset) (files_known files)));
    kinds = first_kind;
  }
    where
      first_kind : (o : ℕ) → KnownKind known (slice_get (a_list ∷ []) o)
      first_kind zero = tt
      first_kind (suc o) = tt
