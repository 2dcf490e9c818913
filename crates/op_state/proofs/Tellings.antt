-- What an operation that asks nothing comes to in a run.
use Rattle.std.proofs.Common.{◌≡◌, refl, sym, ap, subst, ◌∙◌, arith, inl, inr, ◌⊎◌, ℕ, suc, ◌+◌, ◌<◌, ◌≤◌, List, ◌∷◌, map, length, if◌then◌else◌}
use Rattle.std.proofs.lemmas.Bool.{le-leb, lt-leb}
use Rattle.prov_base.specs.declared.place.Pos.{Pos}
use Rattle.py_model.specs.Capture.{Capture, answers_at}
use Rattle.py_model.specs.Effect.{Answers, Effect, Touch, Outcome, answered, unanswered, unpaid, effect, accesses_in, looked_at, characters_in, weight, cost}
use Rattle.py_model.specs.Moment.{does}
use Rattle.py_model.specs.Operations.{Op as SeenOp, plan}
use Rattle.py_model.specs.Plan.{Answer, Plan}
use Rattle.py_model.specs.Quiet.{IsQuiet}
use Rattle.py_model.specs.Running.{State, did, too_dear, operation, effect_of, happened, note, askings_at, walked, performed}
use Rattle.py_model.specs.Store.{RunStore}
use Rattle.py_model.specs.Told.{answer_seen, op_seen}
use Rattle.py_model.specs.Touches.{prefixed, cost_so_far}
use Rattle.py_model.specs.declared.doer.Deed.{Deed}
use Rattle.py_model.specs.declared.moment.Op.{Op}
use Rattle.std.specs.Option.{option_map}
use Rattle.py_value.specs.Contents.{Contents, contents}
use Rattle.py_value.specs.Seen.{access_seen, kind_seen}
use Rattle.py_value.specs.Values.{ValuesView}
use Rattle.py_value.specs.declared.value.Value.{Value}
use Rattle.op_work.specs.Work.{WorkView, IsDear, cost_of}
use Rattle.op_state.specs.Happening.{IsBegun, IsHappened}
use Rattle.op_state.specs.Holding.{Found}
use Rattle.op_state.specs.Telling.{IsTold, effect_in}

-- the laws of plans that ask nothing
abbrev pub Unnoted : Type 0
Unnoted = (store : RunStore) (answers : Answers) (p : Plan) (at : Pos) (k : ℕ) (s : State) → IsQuiet p → note at k (effect store answers p).touches s ≡ s

abbrev pub Answered : Type 0
Answered = (store : RunStore) (answers : Answers) (p : Plan) → IsQuiet p → (effect store answers p).outcome ≡ unanswered → ⊥

abbrev pub Grows : Type 0
Grows = (touches : List Touch) (e : Effect) → cost_so_far touches ≤ cost (prefixed touches e)

-- where a step is left, an operation that asks nothing comes to what its effect says
module _ (unnoted : Unnoted) (capture : Capture) (at : Pos) (op : SeenOp) (values : List Contents) (s : State) (quiet : IsQuiet (plan op values)) (some_left : 0 < s.left) where
  pub comes_to : operation capture at op values s ≡ happened at op values (effect_of capture at op values s) (effect_of capture at op values s).outcome s
  comes_to = ap (λ b. if b then happened at op values (effect_of capture at op values s) (effect_of capture at op values s).outcome
      (note at (suc (askings_at at s.askings)) (effect_of capture at op values s).touches s) else too_dear s) (le-leb 1 s.left some_left)
      ∙ ap (λ t. happened at op values (effect_of capture at op values s) (effect_of capture at op values s).outcome t)
      (unnoted s.store (answers_at capture at (suc (askings_at at s.askings))) (plan op values) at (suc (askings_at at s.askings)) s quiet)

pays_so : (at : Pos) (op : SeenOp) (values : List Contents) (e : Effect) (answer : Answer) (s : State) → cost e ≤ s.left
    → happened at op values e (answered answer) s ≡ did answer (walked s.store (accesses_in e.touches)) (performed at op values answer e s)
pays_so at op values e answer s pays = ap (λ b. if b then did answer (walked s.store (accesses_in e.touches)) (performed at op values answer e s) else too_dear s) (le-leb (cost e) s.left pays)

dear_so : (at : Pos) (op : SeenOp) (values : List Contents) (e : Effect) (answer : Answer) (s : State) → s.left < cost e
    → happened at op values e (answered answer) s ≡ too_dear s
dear_so at op values e answer s dear = ap (λ b. if b then did answer (walked s.store (accesses_in e.touches)) (performed at op values answer e s) else too_dear s) (lt-leb (cost e) s.left dear)

pub told : Unnoted → (capture : Capture) (at : Pos) (op : Op) (values : List Value) (deed : Deed) (table : ValuesView) (found : Found) (s : State) (old new : WorkView)
    → IsQuiet (plan (op_seen table op) (map (contents table) values)) → 0 < s.left → old.left ≡ s.left
    → IsHappened found table s.store (effect_in capture at table op values s) deed old new → IsTold at op values deed table capture s
told unnoted capture at op values deed table found s old new quiet some_left left_is happens =
    let e = effect_in capture at table op values s in
    let vs = map (contents table) values in
    let answer = answer_seen table deed.answer in
    record {
      next = performed at (op_seen table op) vs answer e s;
      walked = walked s.store (accesses_in e.touches);
      happened = comes_to unnoted capture at (op_seen table op) vs s quiet some_left
          ∙ (ap (λ o. happened at (op_seen table op) vs e o s) happens.outcome_is
          ∙ pays_so at (op_seen table op) vs e answer s (subst (λ n. cost e ≤ n) left_is happens.pays));
      told_is = ap (λ made. does at op.no vs answer made (accesses_in e.touches) (weight e) ∷ s.told) happens.made_is
          ∙ (ap (λ accesses. does at op.no vs answer (option_map (kind_seen table) deed.made) accesses (weight e) ∷ s.told) happens.accesses_are
          ∙ ap (λ w. does at op.no vs answer (option_map (kind_seen table) deed.made) (map (access_seen table) deed.accesses) w ∷ s.told) happens.weight_is);
      method_is = happens.method_is;
      named = happens.named;
      standing_is = refl;
    }

none_more : (n m : ℕ) → n ≡ 0 → n + m ≡ m
none_more n m is = omega (arith, is)

-- more than is left
pub too_dear_told : Unnoted → Answered → Grows → (capture : Capture) (at : Pos) (op : SeenOp) (values : List Contents) (s : State) (old : WorkView)
    → IsQuiet (plan op values) → 0 < s.left → old.left ≡ s.left → IsBegun old → IsDear old (λ answers. effect s.store answers (plan op values))
    → operation capture at op values s ≡ too_dear s
too_dear_told unnoted is_answered grows capture at op values s old quiet some_left left_is begun dear =
    comes_to unnoted capture at op values s quiet some_left ∙ by_outcome (effect_of capture at op values s).outcome refl
  where
    answers : Answers
    answers = answers_at capture at (suc (askings_at at s.askings))

    by_begin : cost_of (length old.touched + length (accesses_in dear.touches)) (old.looks + looked_at dear.touches) (old.characters + characters_in dear.touches) ≡ cost_so_far dear.touches
    by_begin = ap (λ n. cost_of n (old.looks + looked_at dear.touches) (old.characters + characters_in dear.touches)) (none_more (length old.touched) (length (accesses_in dear.touches)) (ap length begun.touched))
        ∙ (ap (λ n. cost_of (length (accesses_in dear.touches)) n (old.characters + characters_in dear.touches)) (none_more old.looks (looked_at dear.touches) begun.looks)
        ∙ ap (λ n. cost_of (length (accesses_in dear.touches)) (looked_at dear.touches) n) (none_more old.characters (characters_in dear.touches) begun.characters))

    by_dear : (answer : Answer) → (effect_of capture at op values s).outcome ≡ answered answer
        → (old.left < cost_of (length old.touched + length (accesses_in dear.touches)) (old.looks + looked_at dear.touches) (old.characters + characters_in dear.touches))
        ⊎ ((answers : Answers) → (dear.behind answers).outcome ≡ unpaid) → s.left < cost (effect_of capture at op values s)
    by_dear answer is (inl less) = let more = grows dear.touches (dear.behind answers) in let same = ap cost (dear.effect_is answers) in omega (arith, less, left_is, by_begin, more, same)
    by_dear answer is (inr never) = absurd (differ answer (sym is ∙ (ap (λ (e : Effect). e.outcome) (dear.effect_is answers) ∙ never answers)))
      where
        differ : (answer : Answer) → answered answer ≡ unpaid → ⊥
        differ answer same = cc

    by_outcome : (o : Outcome) → (effect_of capture at op values s).outcome ≡ o → happened at op values (effect_of capture at op values s) o s ≡ too_dear s
    by_outcome (answered answer) is = dear_so at op values (effect_of capture at op values s) answer s (by_dear answer is dear.dear)
    by_outcome unanswered is = absurd (is_answered s.store answers (plan op values) quiet is)
    by_outcome unpaid is = refl
