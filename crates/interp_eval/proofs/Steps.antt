-- One step does what its clause says.
use Rattle.std.proofs.Common.{◌≡◌, ◌⊎◌, inl, inr, ℕ, zero, suc, true, List, [], ◌∷◌, ◌++◌, map, Option, Some, None, Result, Ok, Err, refl, ap, sym, ◌∙◌, subst}
use Rattle.prov_base.specs.declared.place.Pos.{Pos}
use Rattle.prov_base.specs.declared.refusal.Memory.{Memory}
use Rattle.py_tree.specs.Tree.{ExprTree, MaybeTree, ScriptTree, no_expr, some_expr}
use Rattle.py_model.specs.Act.{Act, Walked, stop, ret, perform, normal, threw}
use Rattle.py_model.specs.Capture.{Capture}
use Rattle.py_model.specs.Doing.{Standing, standing, Fits, Stands, Knew, ForEach, IsRefused, IsInterrupted, WasAsked, asked_by}
use Rattle.py_model.specs.Expressions.{Here, Task, by_answer, calling, giving}
use Rattle.py_model.specs.Moment.{Moment}
use Rattle.py_model.specs.Operations.{Op}
use Rattle.py_model.specs.Plan.{Answer, value}
use Rattle.py_model.specs.Running.{State, Happened, did, too_dear, lacked, operation, outcome, spent, lacking}
use Rattle.py_model.specs.Told.{op_seen, TellsOn}
use Rattle.py_model.specs.declared.moment.Answer.TheVariants.{Value as ValueAnswer, Raised as RaisedAnswer, End as EndAnswer}
use Rattle.py_model.specs.declared.moment.Op.{Op as OneOp}
use Rattle.py_value.specs.Contents.{Contents, contents, nothing}
use Rattle.py_value.specs.Values.{ValuesView, IsNamed, AreNamed}
use Rattle.py_value.specs.declared.value.Value.{Value}
use Rattle.py_value.specs.declared.value.Value.TheVariants.{Fn, Class, Exc}
use Rattle.interp_eval.proofs.Performed.{state_of}
use Rattle.interp_eval.proofs.Remaining.{absent_means, begun_means, turn_means}
use Rattle.interp_eval.specs.Delivery.{GoesOn, HasGoneOn}
use Rattle.interp_eval.specs.Held.{AreAllNamed, IsHeldFrame}
use Rattle.interp_eval.specs.Machine.{machine, node, node_for, waiting, remains, goes, follows, first_of, behind_first, wanted_op, turn_by, turn_act, values_by}
use Rattle.interp_eval.specs.Performing.{HasState, AreNamedBy, IsOp, HasHappened, WasTooDear, WasLacking, WasCut, nothing_happened, not_told, HasPerformed}
use Rattle.interp_eval.specs.declared.performing.Came.{Came}
use Rattle.py_model.specs.declared.moment.Answer.{Answer as OneAnswer}
use Rattle.script_names.specs.Scopes.{function_in}
use Rattle.interp_eval.specs.declared.frames.Scope.{Scope}
use Rattle.interp_eval.specs.Scopes.{IsAt}
use Rattle.interp_eval.specs.Seen.{machine_seen, waiting_seen, finish_seen, operands_seen}
use Rattle.interp_eval.specs.Step.{Went, stayed, went_on, IsOn, IsSpent, IsUnanswered, IsCut, IsCall, IsStep, Steps, given, remaining, AreHeldBy}
use Rattle.interp_eval.specs.Turns.{want_seen, after_seen, turn_seen, IsCallable}
use Rattle.interp_eval.specs.Values.{behind_values}
use Rattle.interp_eval.specs.declared.frames.EvalFrames.{EvalFrames}
use Rattle.interp_eval.specs.declared.frames.EvalNext.{EvalNext}
use Rattle.interp_eval.specs.declared.frames.EvalNext.TheVariants.{More, Value as TheValue, Call as CallNext, Raised, Ended, Spent, Unanswered}
use Rattle.interp_eval.specs.declared.node.Operands.{Operands}
use Rattle.interp_eval.specs.declared.turn.Order.{Order}
use Rattle.interp_eval.specs.declared.turn.Turn.TheVariants.{Perform, Call}

told_same : (was : Option (List Moment)) → TellsOn was was (λ told more. more ≡ [] ++ told)
told_same None = tt
told_same (Some told) = refl

told_either : (was : Option (List Moment)) (news : List Moment) → TellsOn was was (λ told more. (more ≡ told) ⊎ (more ≡ news ++ told))
told_either None news = tt
told_either (Some told) news = inl refl

told_weaker : (was is : Option (List Moment)) (P Q : List Moment → List Moment → Type 0) → ((told more : List Moment) → P told more → Q told more) → TellsOn was is P → TellsOn was is Q
told_weaker was None P Q weaker tells = tt
told_weaker None (Some more) P Q weaker tells = absurd tells
told_weaker (Some told) (Some more) P Q weaker tells = weaker told more tells

unasked : {capture : Capture} (stands : Standing → Type 0) (s : State) → stands (standing s) → IsInterrupted capture stands s
unasked stands s holds = record { next = s; asked = inl refl; stands = holds }

pub interrupted : (capture : Capture) (at : Pos) (what : Op) (values : List Contents) (stands : Standing → Type 0) (s : State) → IsRefused capture at what values stands s → IsInterrupted capture stands s
interrupted capture at what values stands s refused = record { next = refused.next; asked = by_asked refused.asked; stands = refused.stands }
  where
    by_asked : (refused.next ≡ s) ⊎ (refused.next ≡ asked_by capture at what values s) → (refused.next ≡ s) ⊎ WasAsked capture s refused.next
    by_asked (inl same) = inl same
    by_asked (inr more) = inr (record { at = at; what = what; values = values; next_is = more })

-- A run comes out the same from what remains after a step.
came_out : (capture : Capture) (at : Pos) (what : Op) (values : List Contents) (go : Answer → Walked → Act) (s : State) (h : Happened) → operation capture at what values s ≡ h
    → outcome capture (perform at what values go) s ≡ elim h [ did answer came t ↦ outcome capture (go answer came) t | too_dear t ↦ spent t | lacked t ↦ lacking t ]
came_out capture at what values go s h is = ap (λ h. elim h [ did answer came t ↦ outcome capture (go answer came) t | too_dear t ↦ spent t | lacked t ↦ lacking t ]) is

went_same : (capture : Capture) (before : Act) (s : State) (after : Act) (t : State) (news : List Moment) → Went capture before s after t news → outcome capture before s ≡ outcome capture after t
went_same capture before s after t news (stayed same state none) = ap (λ a. outcome capture a s) (sym same) ∙ ap (outcome capture after) (sym state)
went_same capture before s after t news (went_on at what values go answer came moment act happened next told one) =
    ap (λ a. outcome capture a s) act ∙ came_out capture at what values go s (did answer came t) happened ∙ ap (λ a. outcome capture a t) (sym next)

-- nothing was performed
pub stood_on : (capture : Capture) (before after : Act) (s : State) (left : ℕ) (stands : Standing → Type 0) (was : Option (List Moment)) → after ≡ before → stands (standing s) → s.left ≡ left
    → IsOn capture before s after left stands was was
stood_on capture before after s left stands was same holds steps = record { next = s; news = []; went = stayed same refl refl; comes_out = ap (λ a. outcome capture a s) (sym same); stands_so = holds; left_is = steps; tells = told_same was }

-- out of memory before anything was performed
pub cut_off : (capture : Capture) (before : Act) (s : State) (stands : Standing → Type 0) (was : Option (List Moment)) → IsInterrupted capture stands s → IsCut capture before s stands was was
cut_off capture before s stands was refused = record { rest = before; next = s; news = []; went = stayed refl refl refl; refused = refused; tells = told_either was [] }

pub cut_here : (capture : Capture) (before : Act) (s : State) (stands : Standing → Type 0) (was : Option (List Moment)) → stands (standing s) → IsCut capture before s stands was was
cut_here capture before s stands was holds = cut_off capture before s stands was (unasked stands s holds)

pub all_named : (table : ValuesView) (vs : List Value) → AreAllNamed table vs → AreNamed table vs
all_named table (v ∷ vs) named zero item is = subst (IsNamed table) (same_item v item is) named.0
  where
    same_item : (v w : Value) → Some v ≡ Some w → v ≡ w
    same_item v w is = cc
all_named table (v ∷ vs) named (suc i) item is = all_named table vs named.1 i item is
all_named table [] named zero item is = absurd cc
all_named table [] named (suc i) item is = absurd cc

pub named_behind : (table : ValuesView) (vs : List Value) → AreAllNamed table vs → AreAllNamed table (behind_values vs true)
named_behind table [] named = tt
named_behind table (v ∷ vs) named = named.1

pub callable_named : (table : ValuesView) (f : Value) → IsCallable f → IsNamed table f
callable_named table (Fn place) callable = tt
callable_named table (Class place) callable = tt
callable_named table (Exc number) callable = tt
callable_named table f callable = absurd callable

mapped_behind : (table : ValuesView) (vs : List Value) → map (contents table) (behind_values vs true) ≡ behind_first (map (contents table) vs)
mapped_behind table [] = refl
mapped_behind table (v ∷ vs) = refl

module _ (script : ScriptTree) (next : Task → Act) (here : Here) (go : Contents → Act) (table : ValuesView) where
  with_rest : (frames : EvalFrames) (ms : List MaybeTree) → ms ≡ operands_seen frames.top.node.rest
      → remains script next here (machine (node frames.top.node.at (finish_seen table frames.top.node.finish) ms) (map (contents table) frames.top.have.items) (map (waiting_seen table) frames.below.items)) go
      ≡ remaining script next here go table frames
  with_rest frames ms is =
      ap (λ ms. remains script next here (machine (node frames.top.node.at (finish_seen table frames.top.node.finish) ms) (map (contents table) frames.top.have.items) (map (waiting_seen table) frames.below.items)) go) is

  pub absent_step : (old new : EvalFrames) (rest : Operands) → no_expr ∷ operands_seen rest ≡ operands_seen old.top.node.rest
      → machine_seen table new ≡ machine (node old.top.node.at (finish_seen table old.top.node.finish) (operands_seen rest)) (map (contents table) old.top.have.items ++ nothing ∷ []) (map (waiting_seen table) old.below.items)
      → remaining script next here go table new ≡ remaining script next here go table old
  absent_step old new rest split is =
      ap (λ m. remains script next here m go) is
      ∙ absent_means script next here old.top.node.at (finish_seen table old.top.node.finish) (operands_seen rest) (map (contents table) old.top.have.items) (map (waiting_seen table) old.below.items) go
      ∙ with_rest old (no_expr ∷ operands_seen rest) split

  pub begun_step : (old new : EvalFrames) (e : ExprTree) (rest : Operands) → some_expr e ∷ operands_seen rest ≡ operands_seen old.top.node.rest
      → machine_seen table new ≡ machine (node_for e) [] (map (waiting_seen table) old.below.items
      ++ waiting (node old.top.node.at (finish_seen table old.top.node.finish) (operands_seen rest)) (map (contents table) old.top.have.items) ∷ [])
      → remaining script next here go table new ≡ remaining script next here go table old
  begun_step old new e rest split is =
      ap (λ m. remains script next here m go) is
      ∙ begun_means script next here old.top.node.at (finish_seen table old.top.node.finish) e (operands_seen rest) (map (contents table) old.top.have.items) (map (waiting_seen table) old.below.items) go
      ∙ with_rest old (some_expr e ∷ operands_seen rest) split

  -- what follows a node of the frames
  abbrev pub beyond : EvalFrames → Contents → Act
  beyond frames = goes script next here (map (waiting_seen table) frames.below.items) go

  abbrev pub has : EvalFrames → List Contents
  has frames = map (contents table) frames.top.have.items

  whole_turn : (frames : EvalFrames) → operands_seen frames.top.node.rest ≡ []
      → remaining script next here go table frames
      ≡ turn_act script next here frames.top.node.at (finish_seen table frames.top.node.finish) (has frames) (turn_by frames.top.node.at (finish_seen table frames.top.node.finish) (has frames)) (beyond frames)
  whole_turn frames whole =
      sym (with_rest frames [] (sym whole))
      ∙ turn_means script next here frames.top.node.at (finish_seen table frames.top.node.finish) (has frames) (map (waiting_seen table) frames.below.items) go

  given_means : (v : Value) (frames : EvalFrames) → remaining script next here go table (given v frames) ≡ giving script next here frames.top.node.at (beyond frames) (contents table v)
  unfolding remains
  given_means v frames = refl

  -- a call is answered, and nothing is done
  pub call_step : (frames : EvalFrames) (f : Value) (args : List Value) (left : ℕ) (stands : Standing → Type 0) (was : Option (List Moment)) (s : State) → operands_seen frames.top.node.rest ≡ []
      → turn_seen table (Call f) ≡ turn_by frames.top.node.at (finish_seen table frames.top.node.finish) (has frames) → args ≡ behind_values frames.top.have.items true → IsCallable f
      → stands (standing s) → s.left ≡ left → IsCall script next here go f args frames.top.node.at frames frames left stands was was table s
  call_step frames f args left stands was s whole turn args_are callable holds steps = record {
    follows = beyond frames;
    act_is = whole_turn frames whole
        ∙ ap (λ t. turn_act script next here frames.top.node.at (finish_seen table frames.top.node.finish) (has frames) t (beyond frames)) (sym turn)
        ∙ ap (λ vs. calling script next here frames.top.node.at (contents table f) vs (beyond frames)) (sym (ap (map (contents table)) args_are ∙ mapped_behind table frames.top.have.items));
    resumes = λ v. given_means v frames;
    callable = callable;
    stands_so = holds;
    left_is = steps;
    tells = refl;
  }

  abbrev pub answers : EvalFrames → Order → Answer → Walked → Act
  answers frames order answer came =
      by_answer here (ret normal) (follows script next here frames.top.node.at (first_of (has frames)) (after_seen order.after) (beyond frames) came) answer

  -- the first action is the operation of the node
  pub performs_act : (frames : EvalFrames) (order : Order) (op : OneOp) (values : List Value) → operands_seen frames.top.node.rest ≡ []
      → turn_seen table (Perform order) ≡ turn_by frames.top.node.at (finish_seen table frames.top.node.finish) (has frames)
      → map (contents table) values ≡ values_by (finish_seen table frames.top.node.finish) (has frames) order.skip → op_seen table op ≡ wanted_op here order.no (want_seen table order.want)
      → remaining script next here go table frames ≡ perform order.at (op_seen table op) (map (contents table) values) (answers frames order)
  performs_act frames order op values whole turn values_are op_is =
      whole_turn frames whole
      ∙ ap (λ t. turn_act script next here frames.top.node.at (finish_seen table frames.top.node.finish) (has frames) t (beyond frames)) (sym turn)
      ∙ ap (λ what. perform order.at what (values_by (finish_seen table frames.top.node.finish) (has frames) order.skip) (answers frames order)) (sym op_is)
      ∙ ap (λ vs. perform order.at (op_seen table op) vs (answers frames order)) (sym values_are)

  module _ (frames after : EvalFrames) (order : Order) (op : OneOp) (values : List Value) (capture : Capture) (left : ℕ) (stands : Standing → Type 0) (was is : Option (List Moment)) (s : State)
      (act : remaining script next here go table frames ≡ perform order.at (op_seen table op) (map (contents table) values) (answers frames order)) where
    pub raised_step : (o : ℕ) (method : Option Pos) → HasHappened order.at op values (RaisedAnswer o) method left stands was is table capture s
        → IsOn capture (remaining script next here go table frames) s (ret (threw o here.line)) left stands was is
    raised_step o method d =
        let step : Went capture (remaining script next here go table frames) s (ret (threw o here.line)) d.next (d.moment ∷ []) = went_on order.at (op_seen table op) (map (contents table) values) (answers frames order) _ d.came d.moment act d.happened refl d.told_is refl in
        record {
          next = d.next;
          news = d.moment ∷ [];
          went = step;
          comes_out = went_same capture (remaining script next here go table frames) s (ret (threw o here.line)) d.next (d.moment ∷ []) step;
          stands_so = d.stands;
          left_is = d.left_is;
          tells = d.tells;
        }

    pub ended_step : (method : Option Pos) → HasHappened order.at op values EndAnswer method left stands was is table capture s
        → IsOn capture (remaining script next here go table frames) s (ret normal) left stands was is
    ended_step method d =
        let step : Went capture (remaining script next here go table frames) s (ret normal) d.next (d.moment ∷ []) = went_on order.at (op_seen table op) (map (contents table) values) (answers frames order) _ d.came d.moment act d.happened refl d.told_is refl in
        record {
          next = d.next;
          news = d.moment ∷ [];
          went = step;
          comes_out = went_same capture (remaining script next here go table frames) s (ret normal) d.next (d.moment ∷ []) step;
          stands_so = d.stands;
          left_is = d.left_is;
          tells = d.tells;
        }

    pub spent_step : WasTooDear order.at op values left stands was is table capture s → IsSpent capture (remaining script next here go table frames) s left stands was is
    spent_step d = record {
      at = order.at;
      what = op_seen table op;
      values = map (contents table) values;
      go = answers frames order;
      next = d.next;
      act_is = act;
      dear = d.happened;
      comes_out = ap (λ a. outcome capture a s) act ∙ came_out capture order.at (op_seen table op) (map (contents table) values) (answers frames order) s (too_dear d.next) d.happened;
      stands_so = d.stands;
      left_is = d.left_is;
      told_is = d.told_is;
      tells = d.tells;
    }

    pub unanswered_step : WasLacking order.at op values left stands was is table capture s → IsUnanswered capture (remaining script next here go table frames) s left stands was is
    unanswered_step d = record {
      at = order.at;
      what = op_seen table op;
      values = map (contents table) values;
      go = answers frames order;
      next = d.next;
      act_is = act;
      lacks = d.happened;
      comes_out = ap (λ a. outcome capture a s) act ∙ came_out capture order.at (op_seen table op) (map (contents table) values) (answers frames order) s (lacked d.next) d.happened;
      stands_so = d.stands;
      left_is = d.left_is;
      told_is = d.told_is;
      tells = d.tells;
    }

    pub cut_step : WasCut order.at op values stands was is table capture s → IsCut capture (remaining script next here go table frames) s stands was is
    cut_step (nothing_happened refused same) =
        subst (λ is. IsCut capture (remaining script next here go table frames) s stands was is) (sym same) (cut_off capture (remaining script next here go table frames) s stands was
        (interrupted capture order.at (op_seen table op) (map (contents table) values) stands s refused))
    cut_step (not_told answer came t moment told happened holds tells) = record {
      rest = answers frames order _ came;
      next = t;
      news = moment ∷ [];
      went = went_on order.at (op_seen table op) (map (contents table) values) (answers frames order) _ came moment act happened refl told refl;
      refused = unasked stands t holds;
      tells = told_weaker was is _ _ (λ told more same. inl same) tells;
    }

    -- the value of the operation leads on
    pub value_step : (v : Value) (method : Option Pos) → (d : HasHappened order.at op values (ValueAnswer v) method left stands was is table capture s)
        → (result : Result EvalNext Memory) → GoesOn {E = Memory} order.after v method frames after script next here go table d.came result
        → IsStep script next here go {E = Memory} frames after left stands was is table capture s result
    value_step v method d (Ok More) goes_on =
        let step : Went capture (remaining script next here go table frames) s (remaining script next here go table after) d.next (d.moment ∷ []) = went_on order.at (op_seen table op) (map (contents table) values) (answers frames order) _ d.came d.moment act d.happened goes_on d.told_is refl in
        record {
          next = d.next;
          news = d.moment ∷ [];
          went = step;
          comes_out = went_same capture (remaining script next here go table frames) s (remaining script next here go table after) d.next (d.moment ∷ []) step;
          stands_so = d.stands;
          left_is = d.left_is;
          tells = d.tells;
        }
    value_step v method d (Ok (TheValue w)) goes_on =
        let step : Went capture (remaining script next here go table frames) s (go (contents table w)) d.next (d.moment ∷ []) = went_on order.at (op_seen table op) (map (contents table) values) (answers frames order) _ d.came d.moment act d.happened goes_on d.told_is refl in
        record {
          next = d.next;
          news = d.moment ∷ [];
          went = step;
          comes_out = went_same capture (remaining script next here go table frames) s (go (contents table w)) d.next (d.moment ∷ []) step;
          stands_so = d.stands;
          left_is = d.left_is;
          tells = d.tells;
        }
    value_step v method d (Ok Ended) goes_on =
        let step : Went capture (remaining script next here go table frames) s (ret normal) d.next (d.moment ∷ []) = went_on order.at (op_seen table op) (map (contents table) values) (answers frames order) _ d.came d.moment act d.happened goes_on d.told_is refl in
        record {
          next = d.next;
          news = d.moment ∷ [];
          went = step;
          comes_out = went_same capture (remaining script next here go table frames) s (ret normal) d.next (d.moment ∷ []) step;
          stands_so = d.stands;
          left_is = d.left_is;
          tells = d.tells;
        }
    value_step v method d (Ok other) goes_on = absurd goes_on
    value_step v method d (Err want) goes_on = record {
      rest = answers frames order (value (contents table v)) d.came;
      next = d.next;
      news = d.moment ∷ [];
      went = went_on order.at (op_seen table op) (map (contents table) values) (answers frames order) _ d.came d.moment act d.happened refl d.told_is refl;
      refused = unasked stands d.next d.stands;
      tells = told_weaker was is _ _ (λ told more same. inr same) d.tells;
    }

module _ (first mid : Fits) (before between : Stands) (knew : Knew first mid) (frames : EvalFrames) (script : ScriptTree) (order : Order) (op : OneOp)
    (makes : ForEach mid before (λ table capture s. IsOp script frames.scope order.no order.want op (between table capture) table s)) where
  -- after the words of an operation the doer stands for the same state
  pub made_state : HasState first before → HasState mid between
  made_state state table capture fit =
      let s = state table capture (knew table capture fit) in
      (s.0, (makes table capture fit (state_of s.0 0) s.1).stands)

  pub made_named : (values : List Value) → ((table : ValuesView) → IsHeldFrame table frames.top → AreAllNamed table values) → AreHeldBy first frames → AreNamedBy mid values
  made_named values named held table capture fit = all_named table values (named table (held table capture (knew table capture fit)).top)

-- What is known of what an operation came to is known of what that was found to be.
pub known_came : (at : Pos) (op : OneOp) (values : List Value) (left rest : ℕ) (fits : Fits) (before after : Stands) (was is : Option (List Moment)) (came other : Came) → came ≡ other
    → HasPerformed {E = Memory} at op values left rest fits before after was is (Ok came) → HasPerformed {E = Memory} at op values left rest fits before after was is (Ok other)
known_came at op values left rest fits before after was is came other same known =
    subst (λ came. HasPerformed {E = Memory} at op values left rest fits before after was is (Ok came)) same known

module _ (script : ScriptTree) (frames : EvalFrames) (order : Order) (op : OneOp) (values : List Value) (mid last : Fits) (before between after : Stands) (left rest : ℕ) (was is : Option (List Moment))
    (whole : operands_seen frames.top.node.rest ≡ [])
    (turn : (table : ValuesView) → turn_seen table (Perform order) ≡ turn_by frames.top.node.at (finish_seen table frames.top.node.finish) (map (contents table) frames.top.have.items))
    (values_are : (table : ValuesView) → map (contents table) values ≡ values_by (finish_seen table frames.top.node.finish) (map (contents table) frames.top.have.items) order.skip)
    (kept : Knew mid last) (makes : ForEach mid before (λ table capture s. IsOp script frames.scope order.no order.want op (between table capture) table s)) where
  first_act : (next : Task → Act) (here : Here) (go : Contents → Act) → IsAt script frames.scope here → (table : ValuesView) (capture : Capture) → last table capture
      → (s : State) → before table capture (standing s)
      → remaining script next here go table frames ≡ perform order.at (op_seen table op) (map (contents table) values) (answers script next here go table frames order)
  first_act next here go is_at table capture fit s stands =
      performs_act script next here go table frames order op values whole (turn table) (values_are table) ((makes table capture (kept table capture fit) s stands).means here is_at)

  pub order_cut : ForEach last between (λ table capture s. s.left ≡ left → WasCut order.at op values (after table capture) was is table capture s)
      → (next : Task → Act) (here : Here) (go : Contents → Act) → IsAt script frames.scope here
      → ForEach last before (λ table capture s. s.left ≡ left → IsCut capture (remaining script next here go table frames) s (after table capture) was is)
  order_cut known next here go is_at table capture fit s stands steps =
      cut_step script next here go table frames frames order op values capture rest (after table capture) was is s (first_act next here go is_at table capture fit s stands)
      (known table capture fit s (makes table capture (kept table capture fit) s stands).stands steps)

  pub order_spent : ForEach last between (λ table capture s. s.left ≡ left → WasTooDear order.at op values rest (after table capture) was is table capture s)
      → (next : Task → Act) (here : Here) (go : Contents → Act) → IsAt script frames.scope here
      → ForEach last before (λ table capture s. s.left ≡ left → IsSpent capture (remaining script next here go table frames) s rest (after table capture) was is)
  order_spent known next here go is_at table capture fit s stands steps =
      spent_step script next here go table frames frames order op values capture rest (after table capture) was is s (first_act next here go is_at table capture fit s stands)
      (known table capture fit s (makes table capture (kept table capture fit) s stands).stands steps)

  pub order_unanswered : ForEach last between (λ table capture s. s.left ≡ left → WasLacking order.at op values rest (after table capture) was is table capture s)
      → (next : Task → Act) (here : Here) (go : Contents → Act) → IsAt script frames.scope here
      → ForEach last before (λ table capture s. s.left ≡ left → IsUnanswered capture (remaining script next here go table frames) s rest (after table capture) was is)
  order_unanswered known next here go is_at table capture fit s stands steps =
      unanswered_step script next here go table frames frames order op values capture rest (after table capture) was is s (first_act next here go is_at table capture fit s stands)
      (known table capture fit s (makes table capture (kept table capture fit) s stands).stands steps)

  module _ (method : Option Pos) where
    abbrev pub HappensWith : OneAnswer → Type 0
    HappensWith answer = ForEach last between (λ table capture s. s.left ≡ left → HasHappened order.at op values answer method rest (after table capture) was is table capture s)

    pub order_raised : (answer : OneAnswer) (o : ℕ) → answer ≡ RaisedAnswer o → HappensWith answer
        → (next : Task → Act) (here : Here) (go : Contents → Act) → IsAt script frames.scope here
        → ForEach last before (λ table capture s. s.left ≡ left → IsOn capture (remaining script next here go table frames) s (ret (threw o here.line)) rest (after table capture) was is)
    order_raised answer o same known next here go is_at table capture fit s stands steps =
        raised_step script next here go table frames frames order op values capture rest (after table capture) was is s (first_act next here go is_at table capture fit s stands) o method
        (subst HappensWith same known table capture fit s (makes table capture (kept table capture fit) s stands).stands steps)

    pub order_ended : (answer : OneAnswer) → answer ≡ EndAnswer → HappensWith answer
        → (next : Task → Act) (here : Here) (go : Contents → Act) → IsAt script frames.scope here
        → ForEach last before (λ table capture s. s.left ≡ left → IsOn capture (remaining script next here go table frames) s (ret normal) rest (after table capture) was is)
    order_ended answer same known next here go is_at table capture fit s stands steps =
        ended_step script next here go table frames frames order op values capture rest (after table capture) was is s (first_act next here go is_at table capture fit s stands) method
        (subst HappensWith same known table capture fit s (makes table capture (kept table capture fit) s stands).stands steps)

    pub order_value : (answer : OneAnswer) (v : Value) → answer ≡ ValueAnswer v → HappensWith answer → (new : EvalFrames) (result : Result EvalNext Memory)
        → HasGoneOn {E = Memory} order.after v method frames new result
        → (next : Task → Act) (here : Here) (go : Contents → Act) → IsAt script frames.scope here
        → ForEach last before (λ table capture s. s.left ≡ left → IsStep script next here go {E = Memory} frames new rest (after table capture) was is table capture s result)
    order_value answer v same known new result goes_on next here go is_at table capture fit s stands steps =
        let d = subst HappensWith same known table capture fit s (makes table capture (kept table capture fit) s stands).stands steps in
        value_step script next here go table frames new order op values capture rest (after table capture) was is s (first_act next here go is_at table capture fit s stands) v method d result
        (goes_on script next here go table d.came d.method_is)

    -- the value is named
    pub order_named : (first : Fits) → Knew first mid → HasState first before → (answer : OneAnswer) (v : Value) → answer ≡ ValueAnswer v → HappensWith answer
        → (table : ValuesView) (capture : Capture) → last table capture → IsNamed table v
    order_named first knew state answer v same known table capture fit =
        let s = state table capture (knew table capture (kept table capture fit)) in
        let o = makes table capture (kept table capture fit) (state_of s.0 left) s.1 in
        (subst HappensWith same known table capture fit (state_of s.0 left) o.stands refl).named

-- somewhere in the scope
abbrev here_in : ScriptTree → Scope → Here
here_in script scope = record {
  activation = scope.activation;
  function = function_in script scope.function;
  open_activations = 0;
  handled = None;
  in_class = None;
  line = 0;
}

-- a doer that stood for a state stands for one after the step
pub steps_state : (script : ScriptTree) (before after : EvalFrames) (left rest : ℕ) (first last : Fits) (stood stands : Stands) (was is : Option (List Moment)) (result : Result EvalNext Memory)
    → Knew first last → HasState first stood → Steps {E = Memory} script before after left rest last stood stands was is result → HasState last stands
steps_state script before after left rest first last stood stands was is result knew state steps table capture fit =
    let s = state table capture (knew table capture fit) in
    some result (steps (λ task. stop) (here_in script before.scope) (λ v. stop) (record { activation_is = refl; function_is = refl }) table capture fit (state_of s.0 left) s.1 refl)
  where
    some : (result : Result EvalNext Memory)
        → IsStep script (λ task. stop) (here_in script before.scope) (λ v. stop) {E = Memory} before after rest (stands table capture) was is table capture
        (state_of (state table capture (knew table capture fit)).0 left) result
        → (t : Standing) × stands table capture t
    some (Ok More) d = (standing d.next, d.stands_so)
    some (Ok (TheValue v)) d = (standing d.next, d.stands_so)
    some (Ok (Raised o)) d = (standing d.next, d.stands_so)
    some (Ok Ended) d = (standing d.next, d.stands_so)
    some (Ok (CallNext f args at)) d = (_, d.stands_so)
    some (Ok Spent) d = (standing d.next, d.stands_so)
    some (Ok Unanswered) d = (_, d.stands_so)
    some (Err want) d = (_, d.refused.stands)
