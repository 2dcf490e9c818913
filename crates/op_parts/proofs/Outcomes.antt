-- What an operation comes to in a run, by an effect that is likewise and what is noted of it.
use Rattle.std.proofs.Common.{◌≡◌, refl, sym, ap, subst, ◌∙◌, arith, inl, inr, ◌⊎◌, ℕ, suc, ◌+◌, ◌<◌, ◌≤◌, List, ◌∷◌, map, length, None, if◌then◌else◌}
use Rattle.std.proofs.lemmas.Bool.{le-leb, lt-leb}
use Rattle.std.specs.Option.{option_map}
use Rattle.op_state.specs.Held.{HeldView, IsFinished, StandsHeld}
use Rattle.op_parts.specs.Asking.{IsLikewise}
use Rattle.op_parts.proofs.Likewise.{weight_same, cost_same, after_same}
use Rattle.prov_base.specs.declared.place.Pos.{Pos}
use Rattle.py_model.specs.Capture.{Capture}
use Rattle.py_model.specs.Doing.{Standing, standing, IsDone}
use Rattle.py_model.specs.Effect.{Answers, Effect, Touch, Outcome, answered, unanswered, unpaid as no_budget, effect, accesses_in, looked_at, characters_in, weight, cost, after}
use Rattle.py_model.specs.Moment.{does}
use Rattle.py_model.specs.Operations.{Op as SeenOp, plan}
use Rattle.py_model.specs.Plan.{Answer, Plan}
use Rattle.py_model.specs.Running.{Asking, State, did, too_dear, lacked, operation, effect_of, happened, note, askings_at, walked, performed, method_found}
use Rattle.py_model.specs.Told.{answer_seen, op_seen}
use Rattle.py_model.specs.Touches.{prefixed, cost_so_far}
use Rattle.py_model.specs.declared.doer.Deed.{Deed}
use Rattle.py_model.specs.declared.moment.Op.{Op}
use Rattle.py_value.specs.Contents.{Contents, contents}
use Rattle.py_value.specs.Seen.{access_seen, kind_seen}
use Rattle.py_value.specs.Values.{ValuesView}
use Rattle.py_value.specs.declared.value.Value.{Value}
use Rattle.op_state.specs.Happening.{IsBegun}
use Rattle.op_state.specs.Holding.{Found}
use Rattle.op_work.specs.Work.{WorkView, IsDear, cost_of}

-- what is touched costs no less with more behind it
abbrev pub Grows : Type 0
Grows = (touches : List Touch) (e : Effect) → cost_so_far touches ≤ cost (prefixed touches e)

pays_so : (at : Pos) (op : SeenOp) (values : List Contents) (e : Effect) (answer : Answer) (s : State) → cost e ≤ s.left
    → happened at op values e (answered answer) s ≡ did answer (walked s.store (accesses_in e.touches)) (performed at op values answer e s)
pays_so at op values e answer s pays = ap (λ b. if b then did answer (walked s.store (accesses_in e.touches)) (performed at op values answer e s) else too_dear s) (le-leb (cost e) s.left pays)

dear_so : (at : Pos) (op : SeenOp) (values : List Contents) (e : Effect) (answer : Answer) (s : State) → s.left < cost e
    → happened at op values e (answered answer) s ≡ too_dear s
dear_so at op values e answer s dear = ap (λ b. if b then did answer (walked s.store (accesses_in e.touches)) (performed at op values answer e s) else too_dear s) (lt-leb (cost e) s.left dear)

none_more : (n m : ℕ) → n ≡ 0 → n + m ≡ m
none_more n m is = omega (arith, is)

-- the state once it is noted what was asked and fetched
abbrev pub noted : List Asking → List (List ℕ) → State → State
noted askings fetches s = record s { askings = askings; fetches = fetches }

module _ (capture : Capture) (at : Pos) (op : Op) (values : List Value) (table : ValuesView) (s : State) (askings : List Asking) (fetches : List (List ℕ)) (some_left : 0 < s.left) where
  abbrev pub seen : SeenOp
  seen = op_seen table op

  abbrev pub vs : List Contents
  vs = map (contents table) values

  abbrev pub e : Effect
  e = effect_of capture at seen vs s

  abbrev pub then_state : State
  then_state = noted askings fetches s

  module _ (notes : note at (suc (askings_at at s.askings)) e.touches s ≡ then_state) where
    pub comes_to : operation capture at seen vs s ≡ happened at seen vs e e.outcome then_state
    comes_to = ap (λ b. if b then happened at seen vs e e.outcome (note at (suc (askings_at at s.askings)) e.touches s) else too_dear s) (le-leb 1 s.left some_left)
        ∙ ap (λ t. happened at seen vs e e.outcome t) notes

    -- nothing is given
    pub lacks : e.outcome ≡ unanswered → operation capture at seen vs s ≡ lacked then_state
    lacks is = comes_to ∙ ap (λ o. happened at seen vs e o then_state) is

    module _ (f : Effect) (like : IsLikewise e f) where
      -- it happened
      pub told : (found : Found) (deed : Deed) (left : ℕ) (new : HeldView) (after_stands : Standing → Type 0) → s.left ≡ left → IsFinished found table s.store f deed left new
          → (StandsHeld found table new (after f s.store) → (t : Standing) → t.store ≡ after f s.store → t.entered ≡ s.entered → t.askings ≡ askings → t.fetches ≡ fetches → after_stands t)
          → IsDone at op values deed after_stands table capture s
      told found deed left new after_stands left_is finished stands =
          let answer = answer_seen table deed.answer in
          record {
            next = performed at seen vs answer e then_state;
            walked = walked then_state.store (accesses_in e.touches);
            happened = comes_to ∙ (ap (λ o. happened at seen vs e o then_state) (like.outcome_is ∙ finished.outcome_is)
                ∙ pays_so at seen vs e answer then_state (subst (λ n. n ≤ s.left) (sym (cost_same e f like)) (subst (λ n. cost f ≤ n) (sym left_is) finished.pays)));
            told_is = ap (λ made. does at op.no vs answer made (accesses_in e.touches) (weight e) ∷ s.told) (like.made_is ∙ finished.made_is)
                ∙ (ap (λ accesses. does at op.no vs answer (option_map (kind_seen table) deed.made) accesses (weight e) ∷ s.told) (like.accesses_are ∙ finished.accesses_are)
                ∙ ap (λ w. does at op.no vs answer (option_map (kind_seen table) deed.made) (map (access_seen table) deed.accesses) w ∷ s.told) (weight_same e f like ∙ finished.weight_is));
            method_is = ap (λ accesses. method_found s.store accesses None) like.accesses_are ∙ finished.method_is;
            named = finished.named;
            stands = stands finished.stands (standing (performed at seen vs answer e then_state)) (after_same e f like s.store) refl refl refl;
          }

      -- it costs more than is left
      pub dear_told : Grows → (plan : Plan) (answers : Answers) (began : WorkView) → f ≡ effect s.store answers plan → (f.outcome ≡ unanswered → ⊥) → IsBegun began → began.left ≡ s.left
          → IsDear began (λ answers. effect s.store answers plan) → operation capture at seen vs s ≡ too_dear then_state
      dear_told grows plan answers began f_is answers_all begun left_is dear = comes_to ∙ by_outcome e.outcome refl
        where
          by_begin : cost_of (length began.touched + length (accesses_in dear.touches)) (began.looks + looked_at dear.touches) (began.characters + characters_in dear.touches) ≡ cost_so_far dear.touches
          by_begin = ap (λ n. cost_of n (began.looks + looked_at dear.touches) (began.characters + characters_in dear.touches)) (none_more (length began.touched) (length (accesses_in dear.touches)) (ap length begun.touched))
              ∙ (ap (λ n. cost_of (length (accesses_in dear.touches)) n (began.characters + characters_in dear.touches)) (none_more began.looks (looked_at dear.touches) begun.looks)
              ∙ ap (λ n. cost_of (length (accesses_in dear.touches)) (looked_at dear.touches) n) (none_more began.characters (characters_in dear.touches) begun.characters))

          by_dear : (answer : Answer) → e.outcome ≡ answered answer
              → (began.left < cost_of (length began.touched + length (accesses_in dear.touches)) (began.looks + looked_at dear.touches) (began.characters + characters_in dear.touches))
              ⊎ ((answers : Answers) → (dear.behind answers).outcome ≡ no_budget) → s.left < cost e
          by_dear answer is (inl less) =
              let more = grows dear.touches (dear.behind answers) in
              let same = cost_same e f like ∙ ap cost (f_is ∙ dear.effect_is answers) in
              omega (arith, less, left_is, by_begin, more, same)
          by_dear answer is (inr never) = absurd (differ answer (sym is ∙ (like.outcome_is ∙ (ap (λ (x : Effect). x.outcome) (f_is ∙ dear.effect_is answers) ∙ never answers))))
            where
              differ : (answer : Answer) → answered answer ≡ no_budget → ⊥
              differ answer same = cc

          by_outcome : (o : Outcome) → e.outcome ≡ o → happened at seen vs e o then_state ≡ too_dear then_state
          by_outcome (answered answer) is = dear_so at seen vs e answer then_state (by_dear answer is dear.dear)
          by_outcome unanswered is = absurd (answers_all (sym like.outcome_is ∙ is))
          by_outcome no_budget is = refl
