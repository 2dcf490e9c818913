-- Effects that come to the same, and what writes make of a store.
use Rattle.std.proofs.Common.{◌≡◌, ℕ, suc, ℤ, false, List, [], ◌∷◌, ◌++◌, length, slice_get, Option, Some, None, unwrap_or, refl, sym, ap, subst, ◌∙◌, Bool, inl, inr}
use Rattle.py_value.specs.Contents.{Contents, nothing, truth, int, text, tuple, range, object, no_parts}
use Rattle.py_value.specs.Seen.{SeenLocation, SeenKind, a_list, item_at, len_at, item_is, reads, order_at}
use Rattle.py_model.specs.Effect.{Effect, Answers, accessed, touching, answered, effect, written, after, after_touches, with_made}
use Rattle.py_model.specs.Lists.{when_list, move_down, move_up}
use Rattle.py_model.specs.Making.{set_items}
use Rattle.py_model.specs.Operands.{number_in}
use Rattle.py_model.specs.Places.{with_index, with_bound}
use Rattle.py_model.specs.Plan.{Plan, Writes, value, kind_of}
use Rattle.py_model.specs.Store.{RunStore, item_of, len_of, order_of}
use Rattle.py_model.specs.Walks.{read_items, walk, walk_object, if_walked, when_walked}
use Rattle.model_laws.specs.Reading.{Stand, IsList, HasItems, is_of, HasKeys}
use Rattle.model_laws.specs.Results.{Result, leaves, makes_list, throws, DoesIn, reaches_end, ends_with}
use Rattle.model_laws.specs.TableLists.{bound_in}
use Rattle.model_laws.proofs.Standing.{set, block}

-- an effect has the answer of another, makes what it makes, and takes one store to where that takes another
pub record Same (e f : Effect) (s t : RunStore) : Type 0 where
  pub answer_is : e.outcome ≡ f.outcome
  pub made_is : e.made ≡ f.made
  pub after_is : after_touches e.touches s ≡ after_touches f.touches t

pub same_then : (e f g : Effect) (s t u : RunStore) → Same e f s t → Same f g t u → Same e g s u
same_then e f g s t u one other = record { answer_is = one.answer_is ∙ other.answer_is; made_is = one.made_is ∙ other.made_is; after_is = one.after_is ∙ other.after_is }

-- effects that come to the same from every store
pub after_same : (store : RunStore) (e f : Effect) → ((s : RunStore) → Same e f s s) → after e store ≡ after f store
after_same store e f same = (same (with_made e.made store)).after_is ∙ ap (λ made. after_touches f.touches (with_made made store)) (same store).made_is

pub behind_read : (l : SeenLocation) (e f : Effect) (s t : RunStore) → Same e f s t → Same (touching (accessed (reads l)) e) f s t
behind_read l e f s t same = record { answer_is = same.answer_is; made_is = same.made_is; after_is = same.after_is }

module _ {A : Type 0} (belongs : SeenLocation → Bool) (Is : RunStore → ℕ → A → Type 0) (store : RunStore) (o : ℕ) where
  pub does_as : (e f : Effect) (result : Result A) → e.outcome ≡ f.outcome → e.made ≡ f.made → after e store ≡ after f store
      → DoesIn belongs Is store o f result → DoesIn belongs Is store o e result
  does_as e f (leaves answer is) outcome_is made after_is does = (
    record {
      answer_is = outcome_is ∙ does.0.answer_is;
      made_is = made ∙ does.0.made_is;
      elsewhere = subst (λ (s : RunStore). (l : SeenLocation) → belongs l ≡ false → s.at l ≡ store.at l) (sym after_is) does.0.elsewhere;
      rest_stays = subst (λ (s : RunStore). s ≡ record store { at = s.at }) (sym after_is) does.0.rest_stays;
    },
    subst (λ (s : RunStore). Is s o is) (sym after_is) does.1,
  )
  does_as e f (makes_list items) answer_is made after_is does = record {
    answer_is = answer_is ∙ does.answer_is;
    made_is = made ∙ does.made_is;
    is_list = subst (λ (s : RunStore). IsList s (length store.kinds) items) (sym after_is) does.is_list;
    elsewhere = subst (λ (s : RunStore). (l : SeenLocation) → is_of (length store.kinds) l ≡ false → s.at l ≡ store.at l) (sym after_is) does.elsewhere;
    rest_stays = subst (λ (s : RunStore). s ≡ record store { at = s.at; kinds = store.kinds ++ a_list ∷ [] }) (sym after_is) does.rest_stays;
  }
  does_as e f (throws number arguments) answer_is made after_is does = record {
    outcome_is = answer_is ∙ does.outcome_is;
    made_is = made ∙ does.made_is;
    after_is = after_is ∙ does.after_is;
  }
  does_as e f (ends_with is) outcome_is made after_is does = (
    record {
      answer_is = outcome_is ∙ does.0.answer_is;
      made_is = made ∙ does.0.made_is;
      elsewhere = subst (λ (s : RunStore). (l : SeenLocation) → belongs l ≡ false → s.at l ≡ store.at l) (sym after_is) does.0.elsewhere;
      rest_stays = subst (λ (s : RunStore). s ≡ record store { at = s.at }) (sym after_is) does.0.rest_stays;
    },
    subst (λ (s : RunStore). Is s o is) (sym after_is) does.1,
  )
  does_as e f reaches_end answer_is made after_is does = record { answer_is = answer_is ∙ does.answer_is; made_is = made ∙ does.made_is; after_is = after_is ∙ does.after_is }

  pub does_same : (e f : Effect) (result : Result A) → ((s : RunStore) → Same e f s s) → DoesIn belongs Is store o f result → DoesIn belongs Is store o e result
  does_same e f result same does = does_as e f result (same store).answer_is (same store).made_is (after_same store e f same) does

  -- an effect that ends in a store
  pub ends : (e : Effect) (t : RunStore) (answer : Contents) (new : A) → e.outcome ≡ answered (value answer) → e.made ≡ None → after_touches e.touches store ≡ t
      → t ≡ record store { at = t.at } → Is t o new → ((l : SeenLocation) → belongs l ≡ false → t.at l ≡ store.at l) → DoesIn belongs Is store o e (leaves answer new)
  ends e t answer new answer_is made after_is rest is elsewhere =
      let same : after e store ≡ t = ap (λ made. after_touches e.touches (with_made made store)) made ∙ after_is in (
        record { answer_is = answer_is; made_is = made; elsewhere = subst (λ (s : RunStore). (l : SeenLocation) → belongs l ≡ false → s.at l ≡ store.at l) (sym same) elsewhere; rest_stays = subst (λ (s : RunStore). s ≡ record store { at = s.at }) (sym same) rest },
        subst (λ (s : RunStore). Is s o new) (sym same) is,
      )

  -- nothing is changed
  pub stays : (e : Effect) (answer : Contents) (old : A) → e.outcome ≡ answered (value answer) → e.made ≡ None → after_touches e.touches store ≡ store → Is store o old
      → DoesIn belongs Is store o e (leaves answer old)
  stays e answer old answer_is made after_is is = ends e store answer old answer_is made after_is refl is (λ l apart. refl)

-- writes of items
module _ (store : RunStore) (made : Option SeenKind) (o : ℕ) where
  pub items_set : (i : ℕ) (xs : List Contents) (rest : Writes) (s : RunStore)
      → Same (written store made (set_items o i xs rest)) (written store made rest) s (block o i xs s)
  items_set i [] rest s = record { answer_is = refl; made_is = refl; after_is = refl }
  items_set i (x ∷ xs) rest s =
      let more = items_set (suc i) xs rest (set (item_at o i) (item_is x) s) in
      record { answer_is = more.answer_is; made_is = more.made_is; after_is = more.after_is }

  pub moved_down : (p : ℕ) (xs : List Contents) (rest : Writes) (s : RunStore) → Stand store o (suc p) xs
      → Same (written store made (move_down (length xs) o p rest)) (written store made rest) s (block o p xs s)
  moved_down p [] rest s stand = record { answer_is = refl; made_is = refl; after_is = refl }
  moved_down p (x ∷ xs) rest s stand =
      let more = moved_down (suc p) xs rest (set (item_at o p) (item_is x) s) stand.1 in
      record {
        answer_is = more.answer_is;
        made_is = more.made_is;
        after_is = ap (λ (found : Option Contents). after_touches (written store made (move_down (length xs) o (suc p) rest)).touches (set (item_at o p) (item_is (unwrap_or found (tuple no_parts))) s)) stand.0
            ∙ more.after_is;
      }

  pub moved_up : (p : ℕ) (xs : List Contents) (rest : Writes) (s : RunStore) → Stand store o p xs
      → Same (written store made (move_up (length xs) o p rest)) (written store made rest) s (block o (suc p) xs s)
  moved_up p [] rest s stand = record { answer_is = refl; made_is = refl; after_is = refl }
  moved_up p (x ∷ xs) rest s stand =
      let more = moved_up (suc p) xs rest (set (item_at o (suc p)) (item_is x) s) stand.1 in
      record {
        answer_is = more.answer_is;
        made_is = more.made_is;
        after_is = ap (λ (found : Option Contents). after_touches (written store made (move_up (length xs) o (suc p) rest)).touches (set (item_at o (suc p)) (item_is (unwrap_or found (tuple no_parts))) s)) stand.0
            ∙ more.after_is;
      }

-- reads of items
module _ (store : RunStore) (answers : Answers) where
  pub items_read : (o i : ℕ) (xs : List Contents) (go : List Contents → Plan) (s : RunStore) → Stand store o i xs
      → Same (effect store answers (read_items (length xs) o i go)) (effect store answers (go xs)) s s
  items_read o i [] go s stand = record { answer_is = refl; made_is = refl; after_is = refl }
  items_read o i (x ∷ xs) go s stand =
      behind_read (item_at o i) (effect store answers (read_items (length xs) o (suc i) (λ items. go (unwrap_or (item_of store o i) nothing ∷ items)))) (effect store answers (go (x ∷ xs))) s s
      (subst (λ (found : Option Contents). Same (effect store answers (read_items (length xs) o (suc i) (λ items. go (unwrap_or found nothing ∷ items)))) (effect store answers (go (x ∷ xs))) s s)
      (sym stand.0) (items_read o (suc i) xs (λ items. go (x ∷ items)) s stand.1))

  -- a list, and what goes on with it
  pub as_list : (o : ℕ) (go : Plan) → slice_get store.kinds o ≡ Some a_list → effect store answers (kind_of o (when_list go)) ≡ effect store answers go
  as_list o go is = ap (λ kind. effect store answers (when_list go kind)) is

  pub list_walked : (o : ℕ) (items : List Contents) (go : List Contents → Plan) (s : RunStore) → IsList store o items
      → Same (effect store answers (walk (object o) go)) (effect store answers (go items)) s s
  list_walked o items go s listed =
      subst (λ (kind : Option SeenKind). Same (effect store answers (walk_object o go kind)) (effect store answers (go items)) s s) (sym listed.kind_is)
      (behind_read (len_at o) (effect store answers (read_items (len_of store o) o 0 go)) (effect store answers (go items)) s s
      (subst (λ (n : ℕ). Same (effect store answers (read_items n o 0 go)) (effect store answers (go items)) s s) (sym listed.length_is)
      (items_read o 0 items go s listed.items_stand)))

  keys_walked : (o : ℕ) (keys : List Contents) (go : List Contents → Plan) (s : RunStore) → HasKeys store o keys → Same (effect store answers (walk (object o) go)) (effect store answers (go keys)) s s
  keys_walked o keys go s keyed =
      subst (λ (kind : Option SeenKind). Same (effect store answers (walk_object o go kind)) (effect store answers (go keys)) s s) (sym keyed.1.0.kind_is)
      (behind_read (order_at o) (effect store answers (go (order_of store o))) (effect store answers (go keys)) s s
      (subst (λ (found : List Contents). Same (effect store answers (go found)) (effect store answers (go keys)) s s) (keyed.1.1 ∙ sym keyed.1.0.has_pairs.order_is)
      (record { answer_is = refl; made_is = refl; after_is = refl })))

  pub walked : (v : Contents) (items : List Contents) (go : List Contents → Plan) (s : RunStore) → HasItems store v items
      → Same (effect store answers (walk v go)) (effect store answers (go items)) s s
  walked (object o) items go s (inl listed) = list_walked o items go s listed
  walked (object o) items go s (inr keyed) = keys_walked o items go s keyed
  walked (tuple parts) items go s has = subst (λ (xs : List Contents). Same (effect store answers (walk (tuple parts) go)) (effect store answers (go xs)) s s) (sym has) (record { answer_is = refl; made_is = refl; after_is = refl })
  walked (range a b c) items go s has = subst (λ (xs : List Contents). Same (effect store answers (walk (range a b c) go)) (effect store answers (go xs)) s s) (sym has) (record { answer_is = refl; made_is = refl; after_is = refl })
  walked (text bytes) items go s has = subst (λ (xs : List Contents). Same (effect store answers (walk (text bytes) go)) (effect store answers (go xs)) s s) (sym has) (record { answer_is = refl; made_is = refl; after_is = refl })
  walked other items go s has = absurd has

  pub tested : (v : Contents) (items : List Contents) (go : Plan) → HasItems store v items → effect store answers (if_walked v go) ≡ effect store answers go
  tested (object o) items go (inl listed) = ap (λ kind. effect store answers (when_walked go kind)) listed.kind_is
  tested (object o) items go (inr keyed) = ap (λ kind. effect store answers (when_walked go kind)) keyed.1.0.kind_is
  tested (tuple parts) items go has = refl
  tested (range a b c) items go has = refl
  tested (text bytes) items go has = refl
  tested other items go has = absurd has

-- indexes and bounds
some_is : (i j : ℤ) → Some i ≡ Some j → i ≡ j
some_is i j is = ap (λ (found : Option ℤ). unwrap_or found i) is

pub index_goes : (index : Contents) (i : ℤ) (go : ℤ → Plan) → number_in index ≡ Some i → with_index index go ≡ go i
index_goes (int j) i go is = ap (λ (found : Option ℤ). go (unwrap_or found i)) is
index_goes (truth b) i go is = ap (λ (found : Option ℤ). go (unwrap_or found i)) is
index_goes other i go is = absurd cc

pub bound_goes : (v : Contents) (bound : Option ℤ) (go : Option ℤ → Plan) → bound_in v ≡ Some bound → with_bound v go ≡ go bound
bound_goes nothing bound go is = ap (λ (found : Option (Option ℤ)). go (unwrap_or found bound)) is
bound_goes (int j) bound go is = ap (λ (found : Option (Option ℤ)). go (unwrap_or found bound)) is
bound_goes (truth b) bound go is = ap (λ (found : Option (Option ℤ)). go (unwrap_or found bound)) is
bound_goes other bound go is = absurd cc
