-- The plan with its askings answered comes out as the plan does.
use Rattle.std.proofs.Common.{◌≡◌, refl, sym, ap, subst, ◌∙◌, ℕ, ◌+◌, ◌/◌, List, ◌∷◌, length, Option, Some, None}
use Rattle.py_model.specs.Effect.{Answers, Effect, accessed, looked, counted, printed, asked, fetched, touching, effect, accesses_in, looked_at, characters_in, weight, cost, after, after_touch, after_touches, with_made, lacking}
use Rattle.py_model.specs.Plan.{Ask, Given, Found, Plan, read_var, read_len, read_item, read_entry, read_order, read_file, read_offset, read_closed, read_method, read_base, kind_of, name_of, was_opened, ask, fetch, looks, counts, prints, writes, makes, raises, raises_again, ends, runs_away}
use Rattle.py_model.specs.Store.{RunStore, has_path, var_of, len_of, item_of, entry_of, order_of, file_of, offset_of, closed_of, method_of, base_of}
use Rattle.op_parts.specs.Asking.{Known, answered_by, IsLikewise}

pub alike_same : (e : Effect) → IsLikewise e e
alike_same e = record { outcome_is = refl; made_is = refl; accesses_are = refl; looks_are = refl; characters_are = refl; after_is = λ store. refl }

-- the same is touched before both
access_alike : (access : _) (e f : Effect) → IsLikewise e f → IsLikewise (touching (accessed access) e) (touching (accessed access) f)
access_alike access e f like = record {
  outcome_is = like.outcome_is;
  made_is = like.made_is;
  accesses_are = ap (λ accesses. access ∷ accesses) like.accesses_are;
  looks_are = like.looks_are;
  characters_are = like.characters_are;
  after_is = λ store. like.after_is (after_touch (accessed access) store);
}

look_alike : (n : ℕ) (e f : Effect) → IsLikewise e f → IsLikewise (touching (looked n) e) (touching (looked n) f)
look_alike n e f like = record {
  outcome_is = like.outcome_is;
  made_is = like.made_is;
  accesses_are = like.accesses_are;
  looks_are = ap (λ m. n + m) like.looks_are;
  characters_are = like.characters_are;
  after_is = like.after_is;
}

count_alike : (n : ℕ) (e f : Effect) → IsLikewise e f → IsLikewise (touching (counted n) e) (touching (counted n) f)
count_alike n e f like = record {
  outcome_is = like.outcome_is;
  made_is = like.made_is;
  accesses_are = like.accesses_are;
  looks_are = like.looks_are;
  characters_are = ap (λ m. n + m) like.characters_are;
  after_is = like.after_is;
}

print_alike : (bytes : List ℕ) (e f : Effect) → IsLikewise e f → IsLikewise (touching (printed bytes) e) (touching (printed bytes) f)
print_alike bytes e f like = record {
  outcome_is = like.outcome_is;
  made_is = like.made_is;
  accesses_are = like.accesses_are;
  looks_are = like.looks_are;
  characters_are = like.characters_are;
  after_is = λ store. like.after_is (after_touch (printed bytes) store);
}

-- what is asked and fetched in front changes nothing
ask_alike : (what : Ask) (e f : Effect) → IsLikewise e f → IsLikewise (touching (asked what) e) f
ask_alike what e f like = record {
  outcome_is = like.outcome_is;
  made_is = like.made_is;
  accesses_are = like.accesses_are;
  looks_are = like.looks_are;
  characters_are = like.characters_are;
  after_is = like.after_is;
}

fetch_alike : (path : List ℕ) (e f : Effect) → IsLikewise e f → IsLikewise (touching (fetched path) e) f
fetch_alike path e f like = record {
  outcome_is = like.outcome_is;
  made_is = like.made_is;
  accesses_are = like.accesses_are;
  looks_are = like.looks_are;
  characters_are = like.characters_are;
  after_is = like.after_is;
}

-- what is known in a store, with answers
abbrev pub known_in : RunStore → Answers → Known
known_in store answers = record { given = answers.given; found = answers.found; opened = λ path. has_path path store.opened }

module _ (store : RunStore) (answers : Answers) where
  abbrev pub lacking_here : Effect
  lacking_here = lacking store

  pub alike : (p : Plan) → IsLikewise (effect store answers p) (effect store answers (answered_by (known_in store answers) p))
  alike (read_var scope name go) = access_alike _ _ _ (alike (go (var_of store scope name)))
  alike (read_len o go) = access_alike _ _ _ (alike (go (len_of store o)))
  alike (read_item o i go) = access_alike _ _ _ (alike (go (item_of store o i)))
  alike (read_entry o key go) = access_alike _ _ _ (alike (go (entry_of store o key)))
  alike (read_order o go) = access_alike _ _ _ (alike (go (order_of store o)))
  alike (read_file path go) = access_alike _ _ _ (alike (go (file_of store path)))
  alike (read_offset o go) = access_alike _ _ _ (alike (go (offset_of store o)))
  alike (read_closed o go) = access_alike _ _ _ (alike (go (closed_of store o)))
  alike (read_method place name go) = access_alike _ _ _ (alike (go (method_of store place name)))
  alike (read_base place go) = access_alike _ _ _ (alike (go (base_of store place)))
  alike (kind_of o go) = alike (go _)
  alike (name_of place go) = alike (go (store.names place))
  alike (was_opened path go) = alike (go (has_path path store.opened))
  alike (ask what go) = by_given (answers.given what) refl (λ given. alike (go given))
    where
      by_given : (given : Option Given) → answers.given what ≡ given
          → ((given : Given) → IsLikewise (effect store answers (go given)) (effect store answers (answered_by (known_in store answers) (go given))))
          → IsLikewise (touching (asked what) (elim given [ None ↦ lacking_here | Some x ↦ effect store answers (go x) ]))
          (effect store answers (elim given [ None ↦ ask what go | Some x ↦ answered_by (known_in store answers) (go x) ]))
      by_given (Some given) is later = ask_alike what _ _ (later given)
      by_given None is later = subst (λ (g : Option Given). IsLikewise (touching (asked what) lacking_here) (touching (asked what) (elim g [ None ↦ lacking_here | Some x ↦ effect store answers (go x) ])))
          (sym is) (alike_same (touching (asked what) lacking_here))
  alike (fetch path go) = by_found (answers.found path) refl (λ found. alike (go found))
    where
      by_found : (found : Option Found) → answers.found path ≡ found
          → ((found : Found) → IsLikewise (effect store answers (go found)) (effect store answers (answered_by (known_in store answers) (go found))))
          → IsLikewise (touching (fetched path) (elim found [ None ↦ lacking_here | Some x ↦ effect store answers (go x) ]))
          (effect store answers (elim found [ None ↦ fetch path go | Some x ↦ answered_by (known_in store answers) (go x) ]))
      by_found (Some found) is later = fetch_alike path _ _ (later found)
      by_found None is later = subst (λ (g : Option Found). IsLikewise (touching (fetched path) lacking_here) (touching (fetched path) (elim g [ None ↦ lacking_here | Some x ↦ effect store answers (go x) ])))
          (sym is) (alike_same (touching (fetched path) lacking_here))
  alike (looks n rest) = look_alike n _ _ (alike rest)
  alike (counts n rest) = count_alike n _ _ (alike rest)
  alike (prints bytes rest) = print_alike bytes _ _ (alike rest)
  alike (writes all) = alike_same _
  alike (makes kind all) = alike_same _
  alike (raises of items) = alike_same _
  alike (raises_again o) = alike_same _
  alike ends = alike_same _
  alike runs_away = alike_same _

-- so they weigh the same, cost the same, and leave the same store
pub weight_same : (e f : Effect) → IsLikewise e f → weight e ≡ weight f
weight_same e f like = ap (λ n. n + (characters_in e.touches + 63) / 64) like.looks_are ∙ ap (λ n. looked_at f.touches + (n + 63) / 64) like.characters_are

pub cost_same : (e f : Effect) → IsLikewise e f → cost e ≡ cost f
cost_same e f like = ap (λ (n : ℕ). 1 + n + weight e) (ap length like.accesses_are) ∙ ap (λ n. 1 + length (accesses_in f.touches) + n) (weight_same e f like)

pub after_same : (e f : Effect) → IsLikewise e f → (store : RunStore) → after e store ≡ after f store
after_same e f like store = ap (λ made. after_touches e.touches (with_made made store)) like.made_is ∙ like.after_is (with_made f.made store)
