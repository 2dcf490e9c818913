-- A thing that is numbered: what the table of things answers is what the drawing needs.
use Rattle.std.proofs.Common.{Result, Ok, Err, IfOk, ◌≡◌, ◌↔◌, ℕ, zero, suc, ◌+◌, ◌||◌, not, Bool, true, false, List, [], ◌∷◌, ◌++◌, map, length, slice_get, unwrap_or, Option, Some, None, option_map, if◌then◌else◌, codes, refl, sym, ap, ap₂, subst, ◌∙◌, arith, string_bytes, add-one, append_assoc, append-nil}
use Rattle.std.specs.List.{list_any, position_or_len}
use Rattle.std.proofs.lemmas.List.{length-map, map_push}
use Rattle.indexmap.specs.IndexSet.{insert_key}
use Rattle.py_value.specs.contracts.value.ValuePartialEq.TheImpl.{ghosts as values_eq}
use Rattle.py_value.specs.declared.value.Value.{Value}
use Rattle.py_value.specs.Contents.{Contents, contents}
use Rattle.py_value.specs.Same.{same_value}
use Rattle.py_value.specs.Seen.{bytes_of, number_by}
use Rattle.py_value.specs.Values.{ValuesView, IsNamed, AreNamed, AreInterned}
use Rattle.py_model.specs.Graph.{Drawing, number_text}
use Rattle.py_model.specs.Printing.{literal}
use Rattle.py_model.specs.Store.{RunStore}
use Rattle.graph_texts.specs.Seen.{Draws, page_seen, number_words}
use Rattle.graph_texts.specs.Steps.{Stepped, begun, step_numbered}
use Rattle.graph_texts.specs.declared.page.Page.{Page}
use Rattle.graph_texts.specs.declared.pending.Next.{Next}
use Rattle.graph_texts.specs.declared.pending.Next.TheVariants.{Nothing}

one_more : (n : ℕ) → suc n ≡ 1 + n
one_more n = omega arith

module _ {A : Type 0} (test : A → Bool) where
  found_at : (xs : List A) → list_any test xs ≡ true → number_by test xs ≡ Some (position_or_len test xs)
  found_at [] any = absurd (cc)
  found_at (x ∷ xs) any = by_test (test x) any (found_at xs)
    where
      by_test : (b : Bool) → (b || list_any test xs) ≡ true → (list_any test xs ≡ true → number_by test xs ≡ Some (position_or_len test xs))
          → (if b then Some 0 else option_map suc (number_by test xs)) ≡ Some (if not b then 1 + position_or_len test xs else 0)
      by_test true any rest = refl
      by_test false any rest = ap (option_map suc) (rest any) ∙ ap Some (one_more (position_or_len test xs))

  none_at : (xs : List A) → list_any test xs ≡ false → number_by test xs ≡ None
  none_at [] none = refl
  none_at (x ∷ xs) none = by_test (test x) none (none_at xs)
    where
      by_test : (b : Bool) → (b || list_any test xs) ≡ false → (list_any test xs ≡ false → number_by test xs ≡ None) → (if b then Some 0 else option_map suc (number_by test xs)) ≡ None
      by_test true none rest = absurd (cc)
      by_test false none rest = ap (option_map suc) (rest none)

  behind_all : (xs : List A) → list_any test xs ≡ false → position_or_len test xs ≡ length xs
  behind_all [] none = refl
  behind_all (x ∷ xs) none = by_test (test x) none (behind_all xs)
    where
      by_test : (b : Bool) → (b || list_any test xs) ≡ false → (list_any test xs ≡ false → position_or_len test xs ≡ length xs) → (if not b then 1 + position_or_len test xs else 0) ≡ suc (length xs)
      by_test true none rest = absurd (cc)
      by_test false none rest = omega (arith, rest none)

both_ways : (a b : Bool) → (a ≡ true → b ≡ true) → (b ≡ true → a ≡ true) → a ≡ b
both_ways true b one other = sym (one refl)
both_ways false true one other = other refl
both_ways false false one other = refl

not_is : (a b c : Bool) → a ≡ not b → a ≡ c → b ≡ not c
not_is a true c is now = cc
not_is a false c is now = cc

-- a long text, written as a literal
pub long_words : (old new words made bytes : List ℕ) (view : ValuesView) (id : ℕ) → new ≡ old ++ words → words ≡ made → made ≡ literal bytes → slice_get view.texts id ≡ Some bytes → new ≡ old ++ literal (bytes_of view id)
long_words old new words made bytes view id one two three at = one ∙ ap (λ (more : List ℕ). old ++ more) (two ∙ (three ∙ ap literal (sym (ap (λ o. unwrap_or o []) at))))

-- the laws of values: equality and the tests for it, and that contents tell values apart
module _ (equal : (v w : Value) → (values_eq.eq v w ≡ true) ↔ (v ≡ w)) (decides : (v w : Contents) → (same_value v w ≡ true) ↔ (v ≡ w))
    (apart : (view : ValuesView) (v w : Value) → AreInterned view → IsNamed view v → IsNamed view w → contents view v ≡ contents view w → v ≡ w)
    (view : ValuesView) (store : RunStore) (interned : AreInterned view) (thing : Value) (named : IsNamed view thing) where
  same_tests : (v : Value) → IsNamed view v → same_value (contents view thing) (contents view v) ≡ values_eq.eq thing v
  same_tests v there = both_ways (same_value (contents view thing) (contents view v)) (values_eq.eq thing v)
      (λ is. (equal thing v).1 (apart view thing v interned named there ((decides (contents view thing) (contents view v)).0 is)))
      (λ is. (decides (contents view thing) (contents view v)).1 (ap (contents view) ((equal thing v).0 is)))

  same_numbers : (keys : List Value) → AreNamed view keys → number_by (same_value (contents view thing)) (map (contents view) keys) ≡ number_by (values_eq.eq thing) keys
  same_numbers [] all = refl
  same_numbers (k ∷ keys) all =
      ap₂ (λ (b : Bool) (n : Option ℕ). if b then Some 0 else option_map suc n) (same_tests k (all 0 k refl)) (same_numbers keys (λ i v at. all (suc i) v at))

  behind_named : (keys : List Value) → AreNamed view keys → AreNamed view (keys ++ thing ∷ [])
  behind_named [] all zero v at = subst (IsNamed view) (some_is thing v at) named
    where
      some_is : (a b : Value) → Some a ≡ Some b → a ≡ b
      some_is a b is = cc
  behind_named [] all (suc i) v at = absurd (cc)
  behind_named (k ∷ keys) all zero v at = all 0 v at
  behind_named (k ∷ keys) all (suc i) v at = behind_named keys (λ j w there. all (suc j) w there) i v at

  module _ (old mid : Page) (all : AreNamed view old.things.keys) (fresh : Bool) (fresh_is : fresh ≡ not (list_any (values_eq.eq thing) old.things.keys))
      (keys_are : mid.things.keys ≡ insert_key values_eq.eq old.things.keys thing)
      (words_are : string_bytes mid.text ≡ string_bytes old.text ++ number_words (position_or_len (values_eq.eq thing) old.things.keys + 1) fresh) where
    -- a new thing
    module _ (new : fresh ≡ true) where
      lacks : list_any (values_eq.eq thing) old.things.keys ≡ false
      lacks = not_is fresh (list_any (values_eq.eq thing) old.things.keys) true fresh_is new

      keys_behind : mid.things.keys ≡ old.things.keys ++ thing ∷ []
      keys_behind = keys_are ∙ ap (λ b. if b then old.things.keys else old.things.keys ++ thing ∷ []) lacks

      pub new_named : AreNamed view mid.things.keys
      new_named = subst (AreNamed view) (sym keys_behind) (behind_named old.things.keys all)

      count_is : position_or_len (values_eq.eq thing) old.things.keys + 1 ≡ suc (length (map (contents view) old.things.keys))
      count_is = omega (arith, behind_all (values_eq.eq thing) old.things.keys lacks, length-map old.things.keys (contents view))

      words_behind : string_bytes mid.text ≡ string_bytes old.text ++ number_text (length (map (contents view) old.things.keys)) ++ codes "="
      words_behind = words_are
          ∙ (ap₂ (λ n (b : Bool). string_bytes old.text ++ number_words n b) count_is new
          ∙ sym (append_assoc (string_bytes old.text) (number_text (length (map (contents view) old.things.keys))) (codes "=")))

      mid_is : page_seen view mid ≡ begun (contents view thing) (page_seen view old)
      mid_is = ap₂ (λ (drawn : List ℕ) (things : List Contents). record { drawn = drawn; things = things }) words_behind
          (ap (map (contents view)) keys_behind ∙ map_push (contents view) old.things.keys thing)

      none_is : number_by (same_value (contents view thing)) (map (contents view) old.things.keys) ≡ None
      none_is = same_numbers old.things.keys all ∙ none_at (values_eq.eq thing) old.things.keys lacks

      new_draws : (content : Drawing → Stepped) (last : Page) (next : Next) → Draws view store last next (content (page_seen view mid))
          → Draws view store last next (step_numbered (contents view thing) content (page_seen view old))
      new_draws content last next draws =
          subst (λ (n : Option ℕ). Draws view store last next (elim n as (λ x. Stepped) [ None ↦ content (begun (contents view thing) (page_seen view old)) | Some k ↦ record { tasks = []; drawing = record (page_seen view old) { drawn = string_bytes old.text ++ number_text k } } ]))
          (sym none_is) (subst (λ (d : Drawing). Draws view store last next (content d)) mid_is draws)

      -- what draws the content behind the number draws the thing
      pub all_draws : (what : Contents) → contents view thing ≡ what → (content : Drawing → Stepped) (last : Page) {E : Type 0} (r : Result Next E)
          → IfOk r (λ next. Draws view store last next (content (page_seen view mid))) → IfOk r (λ next. Draws view store last next (step_numbered what content (page_seen view old)))
      all_draws what is content last (Ok next) draws =
          subst (λ (x : Contents). Draws view store last next (step_numbered x content (page_seen view old))) is (new_draws content last next draws)
      all_draws what is content last (Err e) draws = tt

    -- a thing that has its number
    module _ (known : fresh ≡ false) where
      stands : list_any (values_eq.eq thing) old.things.keys ≡ true
      stands = not_is fresh (list_any (values_eq.eq thing) old.things.keys) false fresh_is known

      keys_stay : mid.things.keys ≡ old.things.keys
      keys_stay = keys_are ∙ ap (λ b. if b then old.things.keys else old.things.keys ++ thing ∷ []) stands

      some_is : number_by (same_value (contents view thing)) (map (contents view) old.things.keys) ≡ Some (position_or_len (values_eq.eq thing) old.things.keys)
      some_is = same_numbers old.things.keys all ∙ found_at (values_eq.eq thing) old.things.keys stands

      words_are_known : string_bytes mid.text ≡ string_bytes old.text ++ number_text (position_or_len (values_eq.eq thing) old.things.keys)
      words_are_known = words_are
          ∙ ap₂ (λ n (b : Bool). string_bytes old.text ++ number_words n b) (add-one (position_or_len (values_eq.eq thing) old.things.keys)) known
          ∙ ap (λ (words : List ℕ). string_bytes old.text ++ words) (append-nil (number_text (position_or_len (values_eq.eq thing) old.things.keys)))

      known_draws_it : (content : Drawing → Stepped) → Draws view store mid Nothing (step_numbered (contents view thing) content (page_seen view old))
      known_draws_it content =
          subst (λ (n : Option ℕ). Draws view store mid Nothing (elim n as (λ x. Stepped) [ None ↦ content (begun (contents view thing) (page_seen view old)) | Some k ↦ record { tasks = []; drawing = record (page_seen view old) { drawn = string_bytes old.text ++ number_text k } } ]))
          (sym some_is) (record {
            drawn = words_are_known;
            things = ap (map (contents view)) keys_stay;
            tasks = refl;
            named = subst (AreNamed view) (sym keys_stay) all;
            ready = tt;
          })

      pub known_draws : (what : Contents) → contents view thing ≡ what → (content : Drawing → Stepped) → Draws view store mid Nothing (step_numbered what content (page_seen view old))
      known_draws what is content =
          subst (λ (x : Contents). Draws view store mid Nothing (step_numbered x content (page_seen view old))) is (known_draws_it content)
