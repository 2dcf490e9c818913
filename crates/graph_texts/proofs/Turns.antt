-- One task taken and what it leaves put: the tasks still draw as much, and less is left.
use Rattle.std.proofs.Common.{◌≡◌, ℕ, ◌+◌, ◌<◌, Bool, List, [], ◌∷◌, ◌++◌, map, refl, sym, ap, ap₂, subst, ◌∙◌, arith}
use Rattle.prov_base.specs.declared.place.Pos.{Pos}
use Rattle.py_tree.specs.Tree.{ScriptTree}
use Rattle.py_value.specs.Contents.{Contents}
use Rattle.py_value.specs.Values.{ValuesView}
use Rattle.py_model.specs.Graph.{Drawing, names_in}
use Rattle.py_model.specs.Store.{RunStore}
use Rattle.graph_texts.proofs.Meanings.{still, still_more, step_kept}
use Rattle.graph_texts.proofs.Weights.{weights, weights_more, left_in, step_less}
use Rattle.graph_texts.specs.Seen.{Draws, IsReady, AreReady, page_seen, pending_seen, next_list}
use Rattle.graph_texts.specs.Steps.{Task, step}
use Rattle.graph_texts.specs.declared.page.Page.{Page}
use Rattle.graph_texts.specs.declared.pending.Pending.{Pending}
use Rattle.graph_texts.specs.declared.pending.Next.{Next}

mapped_more : {A B : Type 0} (f : A → B) (xs ys : List A) → map f (xs ++ ys) ≡ map f xs ++ map f ys
mapped_more f [] ys = refl
mapped_more f (x ∷ xs) ys = ap (λ zs. f x ∷ zs) (mapped_more f xs ys)

ready_more : (view : ValuesView) (xs ys : List Pending) → AreReady view xs → AreReady view ys → AreReady view (xs ++ ys)
ready_more view [] ys one other = other
ready_more view (x ∷ xs) ys one other = (one.0, ready_more view xs ys one.1 other)

front_ready : (view : ValuesView) (xs ys : List Pending) → AreReady view (xs ++ ys) → AreReady view xs
front_ready view [] ys all = tt
front_ready view (x ∷ xs) ys all = (all.0, front_ready view xs ys all.1)

back_ready : (view : ValuesView) (xs ys : List Pending) → AreReady view (xs ++ ys) → AreReady view ys
back_ready view [] ys all = all
back_ready view (x ∷ xs) ys all = back_ready view xs ys all.1

-- the task that is taken
pub taken_ready : (view : ValuesView) (before popped : List Pending) (task : Pending) → before ≡ popped ++ task ∷ [] → AreReady view before → IsReady view task
taken_ready view before popped task taken all = (back_ready view popped (task ∷ []) (subst (AreReady view) taken all)).0

module _ (view : ValuesView) (store : RunStore) (names : List (Pos × (Bool × List ℕ))) (old new : Page) (before popped after : List Pending) (task : Pending) (next : Next)
    (taken : before ≡ popped ++ task ∷ []) (left : after ≡ popped ++ next_list next) (draws : Draws view store new next (step names store (pending_seen view store task) (page_seen view old))) where
  seen : List Pending → List Task
  seen tasks = map (pending_seen view store) tasks

  pub all_ready : AreReady view before → AreReady view after
  all_ready ready = subst (AreReady view) (sym left) (ready_more view popped (next_list next) (front_ready view popped (task ∷ []) (subst (AreReady view) taken ready)) draws.ready)

  before_is : map (pending_seen view store) before ≡ map (pending_seen view store) popped ++ pending_seen view store task ∷ []
  before_is = ap (map (pending_seen view store)) taken ∙ mapped_more (pending_seen view store) popped (task ∷ [])

  after_is : map (pending_seen view store) after ≡ map (pending_seen view store) popped ++ (step names store (pending_seen view store task) (page_seen view old)).tasks
  after_is = ap (map (pending_seen view store)) left ∙ (mapped_more (pending_seen view store) popped (next_list next) ∙ ap (λ (tasks : List Task). map (pending_seen view store) popped ++ tasks) draws.tasks)

  page_is : page_seen view new ≡ (step names store (pending_seen view store task) (page_seen view old)).drawing
  page_is = ap₂ (λ (drawn : List ℕ) (things : List Contents). record { drawn = drawn; things = things }) draws.drawn draws.things

  pub less_left : weights store (map (pending_seen view store) after) + left_in store (page_seen view new).things < weights store (map (pending_seen view store) before) + left_in store (page_seen view old).things
  less_left =
      let now : weights store (map (pending_seen view store) before) ≡ weights store (map (pending_seen view store) popped) + weights store (pending_seen view store task ∷ []) =
      ap (weights store) before_is ∙ weights_more store (map (pending_seen view store) popped) (pending_seen view store task ∷ []) in
      let then_is : weights store (map (pending_seen view store) after)
      ≡ weights store (map (pending_seen view store) popped) + weights store (step names store (pending_seen view store task) (page_seen view old)).tasks =
      ap (weights store) after_is ∙ weights_more store (map (pending_seen view store) popped) (step names store (pending_seen view store task) (page_seen view old)).tasks in
      let things : left_in store (page_seen view new).things ≡ left_in store (step names store (pending_seen view store task) (page_seen view old)).drawing.things = ap (λ (d : Drawing). left_in store d.things) page_is in
      omega (arith, now, then_is, things, step_less store names (pending_seen view store task) (page_seen view old))

  pub still_draws : (script : ScriptTree) → names ≡ names_in script.body → still script store (map (pending_seen view store) after) (page_seen view new) ≡ still script store (map (pending_seen view store) before) (page_seen view old)
  still_draws script names_are =
      ap₂ (still script store) after_is page_is
      ∙ (still_more script store (map (pending_seen view store) popped) (step names store (pending_seen view store task) (page_seen view old)).tasks (step names store (pending_seen view store task) (page_seen view old)).drawing
      ∙ (ap (still script store (map (pending_seen view store) popped)) kept
      ∙ (sym (still_more script store (map (pending_seen view store) popped) (pending_seen view store task ∷ []) (page_seen view old))
      ∙ ap (λ (tasks : List Task). still script store tasks (page_seen view old)) (sym before_is))))
    where
      kept : still script store (step names store (pending_seen view store task) (page_seen view old)).tasks (step names store (pending_seen view store task) (page_seen view old)).drawing
          ≡ still script store (pending_seen view store task ∷ []) (page_seen view old)
      kept = subst (λ (these : List (Pos × (Bool × List ℕ))). still script store (step these store (pending_seen view store task) (page_seen view old)).tasks (step these store (pending_seen view store task) (page_seen view old)).drawing
          ≡ still script store (pending_seen view store task ∷ []) (page_seen view old)) (sym names_are) (step_kept script store (pending_seen view store task) (page_seen view old))
