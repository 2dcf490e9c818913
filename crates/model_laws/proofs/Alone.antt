-- Operations that change no object do what the table says: on texts, tuples, ranges and numbers, and those that walk a sequence.
use Rattle.std.proofs.Common.{◌≡◌, ℕ, zero, suc, ◌-◌, ℤ, pos, negsuc, ◌+ℤ◌, ◌-ℤ◌, ◌*ℤ◌, Bool, true, false, if◌then◌else◌, List, [], ◌∷◌, ◌++◌, map, length, slice_get, take, drop, Option, Some, None, unwrap_or, refl, sym, ap, subst, ◌∙◌, codes, ◌==◌, nat_lt}
use Rattle.std.specs.Prelude.{neg_ℤ}
use Rattle.std.specs.Ordering.{int_eq}
use Rattle.py_value.specs.Contents.{Contents, Parts, truth, int, text, tuple, range}
use Rattle.py_value.specs.Seen.{SeenLocation, a_list}
use Rattle.py_model.specs.Files.{next_line}
use Rattle.py_model.specs.Arithmetic.{neg_plan, pos_plan, abs_plan, add_plan, sub_plan, mul_plan, repeats, divided, floor_div_plan, mod_plan, len_plan}
use Rattle.py_model.specs.Dicts.{paired}
use Rattle.py_model.specs.Effect.{Effect, Answers, effect, parts_of}
use Rattle.py_model.specs.Faults.{wrong_kind, out_of_range, overflow, zero_division, fault, value_error}
use Rattle.py_model.specs.Lists.{getitem, slice, with_place, with_part, with_bounds, number_at, numbered, list_builtin, tuple_builtin, sorted_builtin, enumerate, zip_builtin, tuple_display, unpack, list_display, wrong_count, next}
use Rattle.py_model.specs.Making.{new_list}
use Rattle.py_model.specs.Numbers.{is_int, floor_div, floor_mod, absolute, times, range_count}
use Rattle.py_model.specs.Operands.{number_in, with_number, gives_int, gives_text}
use Rattle.py_model.specs.Places.{with_index, with_bound, place_in, part_from, low_bound, high_bound}
use Rattle.py_model.specs.Plan.{Plan, done, looks, counts, writes, ends}
use Rattle.py_model.specs.Sorting.{refused_to, in_order, with_sorted}
use Rattle.py_model.specs.Store.{RunStore}
use Rattle.py_model.specs.TextMethods.{split_plan, join_plan, texts_in, replace_plan, find_plan, ljust_plan, rjust_plan, gives_texts}
use Rattle.py_model.specs.Texts.{characters, size, joined, joined_by, pieces, words_of, place_of, spaces}
use Rattle.py_model.specs.Walks.{walk, if_walked, items_of, deepest}
use Rattle.model_laws.specs.Reading.{HasItems, IsList, is_of}
use Rattle.model_laws.specs.Results.{Result, leaves, makes_list, throws, gives, DoesAlone, reaches_end, ends_with}
use Rattle.model_laws.specs.TableLists.{at_place, item_in, bound_in, item_or_end}
use Rattle.model_laws.specs.TableNumbers.{number}
use Rattle.model_laws.specs.TableTexts as texts
use Rattle.model_laws.specs.TableSequences as sequences
use Rattle.model_laws.specs.TableNumbers as numbers
use Rattle.model_laws.proofs.Effects.{Same, after_same, walked, tested, index_goes, bound_goes}
use Rattle.model_laws.proofs.Lists.{list_made, placed, sorted_by}

abbrev numbered_by : (ℤ → Plan) → Option ℤ → Plan
numbered_by go None = wrong_kind
numbered_by go (Some i) = go i

part_is : {A : Type 0} (low m : ℕ) (items : List A) → part_from low m items ≡ take m (drop low items)
part_is low zero items = refl
part_is zero (suc m) [] = refl
part_is (suc low) (suc m) [] = refl
part_is zero (suc m) (item ∷ items) = ap (λ (more : List _). item ∷ more) (part_is zero m items)
part_is (suc low) (suc m) (item ∷ items) = part_is low (suc m) items

abbrev times_by : Contents → Option ℤ → Plan
times_by v (Some j) = repeats v (times j)
times_by v None = wrong_kind

abbrev products : Contents → Contents → Option ℤ → Option ℤ → Plan
products v w (Some i) (Some j) = gives_int (i *ℤ j)
products v w (Some i) None = repeats w (times i)
products v w None (Some j) = repeats v (times j)
products v w None None = wrong_kind

abbrev item_or : (Contents → Plan) → Option Contents → Plan
item_or go (Some item) = go item
item_or go None = ends

module _ (store : RunStore) (answers : Answers) where
  abbrev DoesIt : Plan → Result (Unit {0}) → Type 0
  DoesIt p result = DoesAlone store (effect store answers p) result

  pub alone_same : (e f : Effect) (result : Result (Unit {0})) → ((s : RunStore) → Same e f s s) → DoesAlone store f result → DoesAlone store e result
  alone_same e f (leaves answer left) same does = record {
    answer_is = (same store).answer_is ∙ does.answer_is;
    made_is = (same store).made_is ∙ does.made_is;
    after_is = after_same store e f same ∙ does.after_is;
  }
  alone_same e f (makes_list items) same does = record {
    answer_is = (same store).answer_is ∙ does.answer_is;
    made_is = (same store).made_is ∙ does.made_is;
    is_list = subst (λ (s : RunStore). IsList s (length store.kinds) items) (sym (after_same store e f same)) does.is_list;
    elsewhere = subst (λ (s : RunStore). (l : SeenLocation) → is_of (length store.kinds) l ≡ false → s.at l ≡ store.at l) (sym (after_same store e f same)) does.elsewhere;
    rest_stays = subst (λ (s : RunStore). s ≡ record store { at = s.at; kinds = store.kinds ++ a_list ∷ [] }) (sym (after_same store e f same)) does.rest_stays;
  }
  alone_same e f (throws number arguments) same does = record {
    outcome_is = (same store).answer_is ∙ does.outcome_is;
    made_is = (same store).made_is ∙ does.made_is;
    after_is = after_same store e f same ∙ does.after_is;
  }
  alone_same e f (ends_with left) same does = record { answer_is = (same store).answer_is ∙ does.answer_is; made_is = (same store).made_is ∙ does.made_is; after_is = after_same store e f same ∙ does.after_is }
  alone_same e f reaches_end same does = record { answer_is = (same store).answer_is ∙ does.answer_is; made_is = (same store).made_is ∙ does.made_is; after_is = after_same store e f same ∙ does.after_is }

  by_plan : (p q : Plan) (result : Result (Unit {0})) → p ≡ q → DoesIt q result → DoesIt p result
  by_plan p q result is does = subst (λ (plan : Plan). DoesIt plan result) (sym is) does

  by_place : (i : ℤ) (n : ℕ) (go : ℕ → Plan) (does : ℕ → Result (Unit {0})) → ((p : ℕ) → DoesIt (go p) (does p)) → DoesIt (with_place i n go) (at_place (place_in i n) does)
  by_place i n go does each = by_test (place_in i n)
    where
      by_test : (q : Option ℕ) → DoesIt (placed go q) (at_place q does)
      by_test (Some p) = each p
      by_test None = record { outcome_is = refl; made_is = refl; after_is = refl }

  by_index : (index : Contents) (i : ℤ) (go : ℤ → Plan) (result : Result (Unit {0})) → number_in index ≡ Some i → DoesIt (go i) result → DoesIt (with_index index go) result
  by_index index i go result is does = by_plan (with_index index go) (go i) result (index_goes index i go is) does

  by_number : (v : Contents) (i : ℤ) (go : ℤ → Plan) (result : Result (Unit {0})) → number_in v ≡ Some i → DoesIt (go i) result → DoesIt (with_number v go) result
  by_number v i go result is does = by_plan (with_number v go) (go i) result (ap (numbered_by go) is) does

  by_bounds : (low high : Contents) (l h : Option ℤ) (go : Option ℤ → Option ℤ → Plan) (result : Result (Unit {0})) → bound_in low ≡ Some l → bound_in high ≡ Some h
      → DoesIt (go l h) result → DoesIt (with_bounds low high go) result
  by_bounds low high l h go result low_is high_is does =
      by_plan (with_bounds low high go) (go l h) result (bound_goes low l (λ a. with_bound high (λ b. go a b)) low_is ∙ bound_goes high h (λ b. go l b) high_is) does

  number_given : (i : ℤ) → DoesIt (gives_int i) (number i)
  number_given i = by_test (is_int i)
    where
      by_test : (b : Bool) → DoesIt (if b then writes (done (int i)) else out_of_range) (if b then leaves (int i) tt else throws overflow (text (codes "integer out of range") ∷ []))
      by_test true = record { answer_is = refl; made_is = refl; after_is = refl }
      by_test false = record { outcome_is = refl; made_is = refl; after_is = refl }

  -- texts
  pub text_item : (bytes : List ℕ) (index : Contents) (i : ℤ) → number_in index ≡ Some i → DoesIt (getitem (text bytes ∷ (index ∷ []))) (texts.getitem_is bytes i)
  text_item bytes index i is = by_index index i (λ j. with_place j (size bytes) (λ p. counts 1 (writes (done (text (unwrap_or (slice_get (characters bytes) p) [])))))) (texts.getitem_is bytes i) is
      (by_place i (size bytes) (λ p. counts 1 (writes (done (text (unwrap_or (slice_get (characters bytes) p) []))))) (λ p. gives (text (unwrap_or (slice_get (characters bytes) p) [])))
      (λ p. record { answer_is = refl; made_is = refl; after_is = refl }))

  pub text_slice : (bytes : List ℕ) (low high : Contents) (l h : Option ℤ) → bound_in low ≡ Some l → bound_in high ≡ Some h → DoesIt (slice (text bytes ∷ (low ∷ (high ∷ [])))) (texts.slice_is bytes l h)
  text_slice bytes low high l h low_is high_is =
      let n = size bytes in
      let m = high_bound h n - low_bound l n in
      by_bounds low high l h (λ a b. with_part a b n (λ p k. counts k (writes (done (text (joined (part_from p k (characters bytes)))))))) (texts.slice_is bytes l h) low_is high_is
      (by_plan (counts m (writes (done (text (joined (part_from (low_bound l n) m (characters bytes))))))) (counts m (writes (done (text (joined (take m (drop (low_bound l n) (characters bytes)))))))) (texts.slice_is bytes l h)
      (ap (λ (some : List (List ℕ)). counts m (writes (done (text (joined some))))) (part_is (low_bound l n) m (characters bytes)))
      (record { answer_is = refl; made_is = refl; after_is = refl }))

  pub text_times : (bytes : List ℕ) (v : Contents) (i : ℤ) → number_in v ≡ Some i → DoesIt (mul_plan (text bytes ∷ (v ∷ []))) (texts.mul_is bytes (times i))
  text_times bytes v i is = subst (λ (found : Option ℤ). DoesIt (times_by (text bytes) found) (texts.mul_is bytes (times i))) (sym is) (record { answer_is = refl; made_is = refl; after_is = refl })

  pub text_length : (bytes : List ℕ) → DoesIt (len_plan (text bytes ∷ [])) (texts.len_is bytes)
  text_length bytes = number_given (pos (size bytes))

  pub text_words : (bytes : List ℕ) → DoesIt (split_plan (text bytes ∷ [])) (texts.split_is bytes)
  text_words bytes = counted (size bytes) (texts_made (words_of bytes))
    where
      counted : (n : ℕ) → DoesIt (gives_texts (words_of bytes)) (texts.split_is bytes) → DoesIt (counts n (gives_texts (words_of bytes))) (texts.split_is bytes)
      counted n does = record { answer_is = does.answer_is; made_is = does.made_is; is_list = does.is_list; elsewhere = does.elsewhere; rest_stays = does.rest_stays }

      texts_made : (all : List (List ℕ)) → DoesIt (gives_texts all) (makes_list (map text all))
      texts_made all = let does = list_made store answers (map text all) in record { answer_is = does.answer_is; made_is = does.made_is; is_list = does.is_list; elsewhere = does.elsewhere; rest_stays = does.rest_stays }

  pub text_pieces : (bytes separator : List ℕ) → DoesIt (split_plan (text bytes ∷ (text separator ∷ []))) (texts.split_by_is bytes separator)
  text_pieces bytes [] = record { outcome_is = refl; made_is = refl; after_is = refl }
  text_pieces bytes (byte ∷ more) = let does = list_made store answers (map text (pieces (byte ∷ more) bytes)) in record { answer_is = does.answer_is; made_is = does.made_is; is_list = does.is_list; elsewhere = does.elsewhere; rest_stays = does.rest_stays }

  all_texts : (all : List (List ℕ)) (go : List (List ℕ) → Plan) → texts_in (map text all) go ≡ go all
  all_texts [] go = refl
  all_texts (bytes ∷ all) go = all_texts all (λ more. go (bytes ∷ more))

  pub texts_joined : (separator : List ℕ) (v : Contents) (all : List (List ℕ)) → HasItems store v (map text all) → DoesIt (join_plan (text separator ∷ (v ∷ []))) (texts.join_is separator all)
  texts_joined separator v all has =
      let go = λ (items : List Contents). texts_in items (λ some. gives_text (joined_by separator some)) in
      alone_same (effect store answers (walk v go)) (effect store answers (go (map text all))) (texts.join_is separator all) (λ s. walked store answers v (map text all) go s has)
      (by_plan (go (map text all)) (gives_text (joined_by separator all)) (texts.join_is separator all) (all_texts all (λ some. gives_text (joined_by separator some))) (record { answer_is = refl; made_is = refl; after_is = refl }))

  pub text_replaced : (bytes sought other : List ℕ) → DoesIt (replace_plan (text bytes ∷ (text sought ∷ (text other ∷ [])))) (texts.replace_is bytes sought other)
  text_replaced bytes [] other = record { outcome_is = refl; made_is = refl; after_is = refl }
  text_replaced bytes (byte ∷ more) other = record { answer_is = refl; made_is = refl; after_is = refl }

  pub text_found : (bytes sought : List ℕ) → DoesIt (find_plan (text bytes ∷ (text sought ∷ []))) (texts.find_is bytes sought)
  text_found bytes sought = by_place_of (place_of bytes sought)
    where
      by_place_of : (place : Option ℕ) → DoesIt (counts (size bytes) (writes (done (int (elim place [ None ↦ negsuc 0 | Some n ↦ pos (size (take n bytes)) ])))))
          (elim place as (λ p. Result (Unit {0})) [ None ↦ gives (int (negsuc 0)) | Some n ↦ gives (int (pos (size (take n bytes)))) ])
      by_place_of (Some n) = record { answer_is = refl; made_is = refl; after_is = refl }
      by_place_of None = record { answer_is = refl; made_is = refl; after_is = refl }

  pub text_ljust : (bytes : List ℕ) (v : Contents) (i : ℤ) → number_in v ≡ Some i → DoesIt (ljust_plan (text bytes ∷ (v ∷ []))) (texts.ljust_is bytes i)
  text_ljust bytes v i is = by_number v i (λ width. gives_text (bytes ++ spaces (times width - size bytes))) (texts.ljust_is bytes i) is (record { answer_is = refl; made_is = refl; after_is = refl })

  pub text_rjust : (bytes : List ℕ) (v : Contents) (i : ℤ) → number_in v ≡ Some i → DoesIt (rjust_plan (text bytes ∷ (v ∷ []))) (texts.rjust_is bytes i)
  text_rjust bytes v i is = by_number v i (λ width. gives_text (spaces (times width - size bytes) ++ bytes)) (texts.rjust_is bytes i) is (record { answer_is = refl; made_is = refl; after_is = refl })

  -- tuples and ranges
  pub tuple_item : (parts : Parts) (index : Contents) (i : ℤ) → number_in index ≡ Some i → DoesIt (getitem (tuple parts ∷ (index ∷ []))) (sequences.getitem_is (items_of parts) i)
  tuple_item parts index i is =
      let items = items_of parts in
      by_index index i (λ j. with_place j (length items) (λ p. looks 1 (writes (done (item_in items p))))) (sequences.getitem_is items i) is
      (by_place i (length items) (λ p. looks 1 (writes (done (item_in items p)))) (λ p. gives (item_in items p)) (λ p. record { answer_is = refl; made_is = refl; after_is = refl }))

  pub range_item : (start end step : ℤ) (index : Contents) (i : ℤ) → number_in index ≡ Some i → DoesIt (getitem (range start end step ∷ (index ∷ []))) (sequences.getitem_of_range_is start end step i)
  range_item start end step index i is =
      by_index index i (λ j. with_place j (range_count start end step) (λ p. looks 1 (writes (done (number_at start step p))))) (sequences.getitem_of_range_is start end step i) is
      (by_place i (range_count start end step) (λ p. looks 1 (writes (done (number_at start step p)))) (λ p. gives (number_at start step p)) (λ p. record { answer_is = refl; made_is = refl; after_is = refl }))

  pub tuple_slice : (parts : Parts) (low high : Contents) (l h : Option ℤ) → bound_in low ≡ Some l → bound_in high ≡ Some h → DoesIt (slice (tuple parts ∷ (low ∷ (high ∷ [])))) (sequences.slice_is (items_of parts) l h)
  tuple_slice parts low high l h low_is high_is =
      let items = items_of parts in
      let n = length items in
      let m = high_bound h n - low_bound l n in
      by_bounds low high l h (λ a b. with_part a b n (λ p k. looks k (writes (done (tuple (parts_of (part_from p k items))))))) (sequences.slice_is items l h) low_is high_is
      (by_plan (looks m (writes (done (tuple (parts_of (part_from (low_bound l n) m items)))))) (looks m (writes (done (tuple (parts_of (take m (drop (low_bound l n) items))))))) (sequences.slice_is items l h)
      (ap (λ (some : List Contents). looks m (writes (done (tuple (parts_of some))))) (part_is (low_bound l n) m items))
      (record { answer_is = refl; made_is = refl; after_is = refl }))

  pub tuple_times : (parts : Parts) (v : Contents) (i : ℤ) → number_in v ≡ Some i → DoesIt (mul_plan (tuple parts ∷ (v ∷ []))) (sequences.mul_is (items_of parts) (times i))
  tuple_times parts v i is = subst (λ (found : Option ℤ). DoesIt (times_by (tuple parts) found) (sequences.mul_is (items_of parts) (times i))) (sym is) (record { answer_is = refl; made_is = refl; after_is = refl })

  pub tuple_length : (parts : Parts) → DoesIt (len_plan (tuple parts ∷ [])) (sequences.len_is (length (items_of parts)))
  tuple_length parts = number_given (pos (length (items_of parts)))

  pub range_length : (start end step : ℤ) → DoesIt (len_plan (range start end step ∷ [])) (sequences.len_is (range_count start end step))
  range_length start end step = number_given (pos (range_count start end step))

  pub tuple_unpacked : (targets : ℕ) (parts : Parts) → DoesIt (unpack targets (tuple parts ∷ [])) (sequences.unpack_is targets (items_of parts))
  tuple_unpacked targets parts = by_test (length (items_of parts) == targets)
    where
      by_test : (b : Bool) → DoesIt (if b then looks targets (tuple_display (items_of parts)) else wrong_count)
          (if b then gives (tuple (parts_of (items_of parts))) else throws value_error (text (codes "wrong number of values") ∷ []))
      by_test true = record { answer_is = refl; made_is = refl; after_is = refl }
      by_test false = record { outcome_is = refl; made_is = refl; after_is = refl }

  pub list_displayed : (items : List Contents) → DoesIt (list_display items) (sequences.list_display_is items)
  list_displayed items = list_made store answers items

  -- turns of a `for`
  answered_or_end : (found : Option Contents) (go : Contents → Plan) → ((item : Contents) → DoesIt (go item) (gives item)) → DoesIt (item_or go found) (item_or_end found tt)
  answered_or_end (Some item) go each = each item
  answered_or_end None go each = record { answer_is = refl; made_is = refl; after_is = refl }

  pub tuple_next : (parts : Parts) (turn : ℕ) (begun : Contents) → DoesIt (next next_line (tuple parts ∷ (int (pos turn) ∷ (begun ∷ [])))) (sequences.next_is (items_of parts) turn)
  tuple_next parts turn begun = answered_or_end (slice_get (items_of parts) turn) (λ item. looks 1 (writes (done item))) (λ item. record { answer_is = refl; made_is = refl; after_is = refl })

  pub text_next : (bytes : List ℕ) (turn : ℕ) (begun : Contents) → DoesIt (next next_line (text bytes ∷ (int (pos turn) ∷ (begun ∷ [])))) (sequences.next_is (map text (characters bytes)) turn)
  text_next bytes turn begun = answered_or_end (slice_get (map text (characters bytes)) turn) (λ item. counts 1 (writes (done item))) (λ item. record { answer_is = refl; made_is = refl; after_is = refl })

  pub range_next : (start end step : ℤ) (turn : ℕ) (begun : Contents) → DoesIt (next next_line (range start end step ∷ (int (pos turn) ∷ (begun ∷ [])))) (sequences.next_of_range_is start end step turn)
  range_next start end step turn begun = by_test (nat_lt turn (range_count start end step))
    where
      by_test : (b : Bool) → DoesIt (if b then looks 1 (writes (done (number_at start step turn))) else ends) (if b then gives (number_at start step turn) else reaches_end)
      by_test true = record { answer_is = refl; made_is = refl; after_is = refl }
      by_test false = record { answer_is = refl; made_is = refl; after_is = refl }

  -- sequences that are walked
  module _ (v : Contents) (items : List Contents) (has : HasItems store v items) where
    by_walk : (go : List Contents → Plan) (result : Result (Unit {0})) → DoesIt (go items) result → DoesIt (walk v go) result
    by_walk go result does = alone_same (effect store answers (walk v go)) (effect store answers (go items)) result (λ s. walked store answers v items go s has) does

    pub listed : DoesIt (list_builtin (v ∷ [])) (sequences.list_is items)
    listed = by_walk new_list (sequences.list_is items) (list_made store answers items)

    pub tupled : DoesIt (tuple_builtin (v ∷ [])) (sequences.tuple_is items)
    tupled = by_walk tuple_display (sequences.tuple_is items) (record { answer_is = refl; made_is = refl; after_is = refl })

    pub enumerated : DoesIt (enumerate (v ∷ [])) (sequences.enumerate_is items)
    enumerated = by_walk (λ found. new_list (numbered 0 found)) (sequences.enumerate_is items) (list_made store answers (numbered 0 items))

    pub sorted_does : refused_to deepest items ≡ None → DoesIt (sorted_builtin (v ∷ [])) (sequences.sorted_is (in_order items))
    sorted_does in_kind = by_walk (λ found. with_sorted found new_list) (sequences.sorted_is (in_order items))
        (subst (λ (refused : Option Plan). DoesIt (sorted_by new_list items refused) (sequences.sorted_is (in_order items))) (sym in_kind) (list_made store answers (in_order items)))

    pub sorted_refused : (number : ℕ) (words : List ℕ) → refused_to deepest items ≡ Some (fault number words) → DoesIt (sorted_builtin (v ∷ [])) (throws number (text words ∷ []))
    sorted_refused number words is = by_walk (λ found. with_sorted found new_list) (throws number (text words ∷ []))
        (subst (λ (refused : Option Plan). DoesIt (sorted_by new_list items refused) (throws number (text words ∷ []))) (sym is) (record { outcome_is = refl; made_is = refl; after_is = refl }))

    pub zipped : (w : Contents) (more : List Contents) → HasItems store w more → DoesIt (zip_builtin (v ∷ (w ∷ []))) (sequences.zip_is items more)
    zipped w more other =
        let zips = λ (lefts rights : List Contents). new_list (paired lefts rights) in
        let both = walk v (λ lefts. walk w (zips lefts)) in
        subst (λ (e : Effect). DoesAlone store e (sequences.zip_is items more)) (sym (tested store answers v items (if_walked w both) has ∙ tested store answers w more both other))
        (by_walk (λ lefts. walk w (zips lefts)) (sequences.zip_is items more)
        (alone_same (effect store answers (walk w (zips items))) (effect store answers (zips items more)) (sequences.zip_is items more) (λ s. walked store answers w more (zips items) s other)
        (list_made store answers (paired items more))))

  -- numbers
  module _ (v : Contents) (i : ℤ) (is : number_in v ≡ Some i) where
    pub negated : DoesIt (neg_plan (v ∷ [])) (numbers.neg_is i)
    negated = by_number v i (λ a. gives_int (neg_ℤ a)) (numbers.neg_is i) is (number_given (neg_ℤ i))

    pub positive : DoesIt (pos_plan (v ∷ [])) (numbers.pos_is i)
    positive = by_number v i gives_int (numbers.pos_is i) is (number_given i)

    pub without_sign : DoesIt (abs_plan (v ∷ [])) (numbers.abs_is i)
    without_sign = by_number v i (λ a. gives_int (absolute a)) (numbers.abs_is i) is (number_given (absolute i))

    module _ (w : Contents) (j : ℤ) (other : number_in w ≡ Some j) where
      by_both : (go : ℤ → ℤ → Plan) (result : Result (Unit {0})) → DoesIt (go i j) result → DoesIt (with_number v (λ a. with_number w (λ b. go a b))) result
      by_both go result does = by_number v i (λ a. with_number w (λ b. go a b)) result is (by_number w j (λ b. go i b) result other does)

      pub subtracted : DoesIt (sub_plan (v ∷ (w ∷ []))) (numbers.sub_is i j)
      subtracted = by_both (λ a b. gives_int (a -ℤ b)) (numbers.sub_is i j) (number_given (i -ℤ j))

      divided_does : (by : ℤ → ℤ → ℤ) → DoesIt (divided by v w) (numbers.divided_is by i j)
      divided_does by = by_both (λ a b. if int_eq b (pos 0) then fault zero_division (codes "division by zero") else gives_int (by a b)) (numbers.divided_is by i j) (by_test (int_eq j (pos 0)))
        where
          by_test : (b : Bool) → DoesIt (if b then fault zero_division (codes "division by zero") else gives_int (by i j)) (if b then throws zero_division (text (codes "division by zero") ∷ []) else number (by i j))
          by_test true = record { outcome_is = refl; made_is = refl; after_is = refl }
          by_test false = number_given (by i j)

      pub floor_divided : DoesIt (floor_div_plan (v ∷ (w ∷ []))) (numbers.floordiv_is i j)
      floor_divided = divided_does floor_div

      pub remaining : DoesIt (mod_plan (v ∷ (w ∷ []))) (numbers.mod_is i j)
      remaining = divided_does floor_mod

      pub multiplied_does : DoesIt (mul_plan (v ∷ (w ∷ []))) (numbers.mul_is i j)
      multiplied_does = subst (λ (a : Option ℤ). DoesIt (products v w a (number_in w)) (numbers.mul_is i j)) (sym is)
          (subst (λ (b : Option ℤ). DoesIt (products v w (Some i) b) (numbers.mul_is i j)) (sym other) (number_given (i *ℤ j)))

  pub summed : (v w : Contents) (i j : ℤ) → number_in v ≡ Some i → number_in w ≡ Some j → DoesIt (add_plan (v ∷ (w ∷ []))) (numbers.add_is i j)
  summed (int a) w i j is other = by_both (int a) i is w j other (λ a b. gives_int (a +ℤ b)) (numbers.add_is i j) (number_given (i +ℤ j))
  summed (truth a) w i j is other = by_both (truth a) i is w j other (λ a b. gives_int (a +ℤ b)) (numbers.add_is i j) (number_given (i +ℤ j))
  summed v w i j is other = absurd cc

  pub turned : (v w : Contents) (i : ℤ) → number_in v ≡ Some i → number_in w ≡ None → effect store answers (mul_plan (v ∷ (w ∷ []))) ≡ effect store answers (mul_plan (w ∷ (v ∷ [])))
  turned v w i is none = ap (λ (p : Plan). effect store answers p)
      (ap (λ (a : Option ℤ). products v w a (number_in w)) is ∙ ap (λ (b : Option ℤ). products v w (Some i) b) none
      ∙ sym (ap (λ (a : Option ℤ). products w v a (number_in v)) none ∙ ap (λ (b : Option ℤ). products w v None b) is))
