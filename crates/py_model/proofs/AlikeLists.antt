-- The operations of sequences are alike for corresponding operands.
use Rattle.std.proofs.Common.{◌≡◌, ℕ, zero, suc, ℤ, pos, negsuc, ◌+◌, ◌-◌, Bool, true, false, List, [], ◌∷◌, Option, Some, None, option_map, refl, sym, ap, subst}
use Rattle.py_value.specs.Contents.{Contents, nothing, int, text, tuple, range, object, no_parts, part}
use Rattle.py_value.specs.Seen.{SeenKind, a_list, a_dict, a_file, len_is}
use Rattle.py_model.proofs.Agreeing.{parts_renamed}
use Rattle.py_model.proofs.AlikeComparing.{equals_alike}
use Rattle.py_model.proofs.AlikeOperands.{AlikeFor, index_alike, place_alike, list_alike}
use Rattle.py_model.proofs.AlikeWalks.{wrong_kind_alike, wrong_number_alike, fault_alike, length_renamed, read_value_alike, walk_alike, if_walked_alike, set_items_alike, new_list_alike}
use Rattle.py_model.proofs.AlikePlans.{Allowed, AlikeBy, both_read_len, both_read_order, both_kind, both_writes, AlikePlainly, both_write, both_move, both_done}
use Rattle.py_model.specs.Dicts.{paired}
use Rattle.py_model.specs.Effect.{parts_of}
use Rattle.py_model.specs.Lists.{list_display, tuple_display, get_item, set_item, move_down, move_up, close_gap, del_item, append, extend_list, extend, insert_item, insert, pop_item, pop, seek, answer_place, index_method, turned, reverse_method, numbered, enumerate, list_builtin, tuple_builtin, zip_builtin, iter_of, iter}
use Rattle.py_model.specs.Making.{set_items, new_list}
use Rattle.py_model.specs.Places.{clipped}
use Rattle.py_model.specs.Plan.{Writes, Plan, writes, done}
use Rattle.py_model.specs.Renaming.{Renaming, renamed, renamed_list, renamed_kind}
use Rattle.py_model.specs.Walks.{equals}

module _ (may : Allowed) (r : Renaming) where
  -- displays
  pub list_display_alike : AlikeFor may r list_display
  list_display_alike items = new_list_alike may r items

  tuple_renamed : (items : List Contents) → tuple (parts_of (renamed_list r items)) ≡ renamed r (tuple (parts_of items))
  tuple_renamed items = ap tuple (parts_renamed r items)

  pub tuple_display_alike : AlikeFor may r tuple_display
  tuple_display_alike items = both_writes (both_done (tuple_renamed items))

  -- items by index
  pub get_item_alike : (o : ℕ) (i : ℤ) → AlikeBy may r (get_item o i) (get_item (r.objects o) i)
  get_item_alike o i = both_read_len (λ n. place_alike may r i n n _ _ refl (λ p.
      read_value_alike may r o p (λ item. writes (done item)) (λ item. writes (done item)) (λ item. both_writes (both_done refl))))

  pub set_item_alike : (o : ℕ) (item : Contents) (i : ℤ) → AlikeBy may r (set_item o item i) (set_item (r.objects o) (renamed r item) i)
  set_item_alike o item i = both_read_len (λ n. place_alike may r i n n _ _ refl (λ p. both_writes (both_write tt refl refl (both_done refl))))

  -- moves
  move_down_alike : (n o p : ℕ) (rest more : Writes) → AlikePlainly r rest more → AlikePlainly r (move_down n o p rest) (move_down n (r.objects o) p more)
  move_down_alike zero o p rest more both = both
  move_down_alike (suc n) o p rest more both = both_move (move_down_alike n o (suc p) rest more both)

  move_up_alike : (n o p : ℕ) (rest more : Writes) → AlikePlainly r rest more → AlikePlainly r (move_up n o p rest) (move_up n (r.objects o) p more)
  move_up_alike zero o p rest more both = both
  move_up_alike (suc n) o p rest more both = both_move (move_up_alike n o (suc p) rest more both)

  close_gap_alike : (o n p : ℕ) (answer : Contents) → AlikePlainly r (close_gap o n p answer) (close_gap (r.objects o) n p (renamed r answer))
  close_gap_alike o n p answer = move_down_alike (n - suc p) o p _ _ (both_write tt refl refl (both_done refl))

  pub del_item_alike : (o : ℕ) (i : ℤ) → AlikeBy may r (del_item o i) (del_item (r.objects o) i)
  del_item_alike o i = both_read_len (λ n. place_alike may r i n n _ _ refl (λ p. both_writes (close_gap_alike o n p nothing)))

  -- methods of lists
  pub append_alike : AlikeFor may r append
  append_alike (object o ∷ (item ∷ [])) = both_kind (list_alike may r _ _ (both_read_len (λ n. both_writes (both_write tt refl refl (both_write tt refl refl (both_done refl))))))
  append_alike (object o ∷ other) = wrong_number_alike may r
  append_alike other = wrong_kind_alike may r

  extend_list_alike : (o : ℕ) (other : Contents) → AlikeBy may r (extend_list o other) (extend_list (r.objects o) (renamed r other))
  extend_list_alike o other = if_walked_alike may r other _ _ (both_read_len (λ n. walk_alike may r other _ _ (λ items.
      both_writes (set_items_alike r o n items _ _ (both_write tt refl (ap (λ m. len_is (n + m)) (length_renamed r items)) (both_done refl))))))

  pub extend_alike : AlikeFor may r extend
  extend_alike (object o ∷ (other ∷ [])) = both_kind (list_alike may r _ _ (extend_list_alike o other))
  extend_alike (object o ∷ others) = wrong_number_alike may r
  extend_alike others = wrong_kind_alike may r

  insert_item_alike : (o : ℕ) (item : Contents) (i : ℤ) → AlikeBy may r (insert_item o item i) (insert_item (r.objects o) (renamed r item) i)
  insert_item_alike o item i = both_read_len (λ n. both_writes (move_up_alike (n - clipped i n) o (clipped i n) _ _
      (both_write tt refl refl (both_write tt refl refl (both_done refl)))))

  pub insert_alike : AlikeFor may r insert
  insert_alike (object o ∷ (index ∷ (item ∷ []))) = both_kind (list_alike may r _ _ (index_alike may r index _ _ (λ i. insert_item_alike o item i)))
  insert_alike (object o ∷ other) = wrong_number_alike may r
  insert_alike other = wrong_kind_alike may r

  pop_item_alike : (o : ℕ) (i : ℤ) → AlikeBy may r (pop_item o i) (pop_item (r.objects o) i)
  pop_item_alike o i = both_read_len (λ n. place_alike may r i n n _ _ refl (λ p.
      read_value_alike may r o p (λ item. writes (close_gap o n p item)) (λ item. writes (close_gap (r.objects o) n p item)) (λ item. both_writes (close_gap_alike o n p item))))

  pub pop_alike : AlikeFor may r pop
  pop_alike (object o ∷ []) = both_kind (list_alike may r _ _ (pop_item_alike o (negsuc 0)))
  pop_alike (object o ∷ (index ∷ [])) = both_kind (list_alike may r _ _ (index_alike may r index _ _ (λ i. pop_item_alike o i)))
  pop_alike (object o ∷ other) = wrong_number_alike may r
  pop_alike other = wrong_kind_alike may r

  abbrev found_or : (Option ℕ → Plan) → ℕ → Plan → Bool → Plan
  found_or go p next true = go (Some p)
  found_or go p next false = next

  found_or_alike : (go gone : Option ℕ → Plan) (p : ℕ) (next then_next : Plan) → ((place : Option ℕ) → AlikeBy may r (go place) (gone place)) → AlikeBy may r next then_next
      → (b : Bool) → AlikeBy may r (found_or go p next b) (found_or gone p then_next b)
  found_or_alike go gone p next then_next each both true = each (Some p)
  found_or_alike go gone p next then_next each both false = both

  seek_alike : (n o p : ℕ) (sought : Contents) (go gone : Option ℕ → Plan) → ((place : Option ℕ) → AlikeBy may r (go place) (gone place))
      → AlikeBy may r (seek n o p sought go) (seek n (r.objects o) p (renamed r sought) gone)
  seek_alike zero o p sought go gone each = each None
  seek_alike (suc n) o p sought go gone each =
      let next = seek n o (suc p) sought go in
      let then_next = seek n (r.objects o) (suc p) (renamed r sought) gone in
      let both = seek_alike n o (suc p) sought go gone each in
      read_value_alike may r o p (λ item. equals sought item (found_or go p next)) (λ item. equals (renamed r sought) item (found_or gone p then_next))
      (λ item. equals_alike may r sought item (found_or go p next) (found_or gone p then_next) (found_or_alike go gone p next then_next each both))

  answer_place_alike : (place : Option ℕ) → AlikeBy may r (answer_place place) (answer_place place)
  answer_place_alike (Some p) = both_writes (both_done refl)
  answer_place_alike None = fault_alike may r _ _

  pub index_method_alike : AlikeFor may r index_method
  index_method_alike (object o ∷ (sought ∷ [])) = both_kind (list_alike may r _ _ (both_read_len (λ n. seek_alike n o 0 sought answer_place answer_place answer_place_alike)))
  index_method_alike (object o ∷ other) = wrong_number_alike may r
  index_method_alike other = wrong_kind_alike may r

  turned_renamed : (items behind : List Contents) → turned (renamed_list r items) (renamed_list r behind) ≡ renamed_list r (turned items behind)
  turned_renamed [] behind = refl
  turned_renamed (item ∷ items) behind = turned_renamed items (item ∷ behind)

  pub reverse_alike : AlikeFor may r reverse_method
  reverse_alike (object o ∷ []) = both_kind (list_alike may r _ _ (walk_alike may r (object o) _ _ (λ items.
      subst (λ all. AlikeBy may r (writes (set_items o 0 (turned items []) (done nothing))) (writes (set_items (r.objects o) 0 all (done nothing))))
      (sym (turned_renamed items [])) (both_writes (set_items_alike r o 0 (turned items []) _ _ (both_done refl))))))
  reverse_alike (object o ∷ other) = wrong_number_alike may r
  reverse_alike other = wrong_kind_alike may r

  -- functions that make lists and tuples
  numbered_renamed : (i : ℕ) (items : List Contents) → numbered i (renamed_list r items) ≡ renamed_list r (numbered i items)
  numbered_renamed i [] = refl
  numbered_renamed i (item ∷ items) = ap (λ (rest : List Contents). renamed r (tuple (parts_of (int (pos i) ∷ (item ∷ [])))) ∷ rest) (numbered_renamed (suc i) items)

  pub enumerate_alike : AlikeFor may r enumerate
  enumerate_alike (sequence ∷ []) = walk_alike may r sequence _ _ (λ items.
      subst (λ all. AlikeBy may r (new_list (numbered 0 items)) (new_list all)) (sym (numbered_renamed 0 items)) (new_list_alike may r (numbered 0 items)))
  enumerate_alike other = wrong_number_alike may r

  pub list_builtin_alike : AlikeFor may r list_builtin
  list_builtin_alike (sequence ∷ []) = walk_alike may r sequence _ _ (λ items. new_list_alike may r items)
  list_builtin_alike other = wrong_number_alike may r

  pub tuple_builtin_alike : AlikeFor may r tuple_builtin
  tuple_builtin_alike (sequence ∷ []) = walk_alike may r sequence _ _ tuple_display_alike
  tuple_builtin_alike other = wrong_number_alike may r

  pub paired_renamed : (lefts rights : List Contents) → paired (renamed_list r lefts) (renamed_list r rights) ≡ renamed_list r (paired lefts rights)
  paired_renamed (left ∷ lefts) (right ∷ rights) = ap (λ (rest : List Contents). renamed r (tuple (part left (part right no_parts))) ∷ rest) (paired_renamed lefts rights)
  paired_renamed lefts rights = refl

  pub zip_alike : AlikeFor may r zip_builtin
  zip_alike (left ∷ (right ∷ [])) = if_walked_alike may r left _ _ (if_walked_alike may r right _ _ (walk_alike may r left _ _ (λ lefts. walk_alike may r right _ _ (λ rights.
      subst (λ all. AlikeBy may r (new_list (paired lefts rights)) (new_list all)) (sym (paired_renamed lefts rights)) (new_list_alike may r (paired lefts rights))))))
  zip_alike other = wrong_number_alike may r

  -- the start of a loop
  iter_of_alike : (o : ℕ) (kind : Option SeenKind) → AlikeBy may r (iter_of o kind) (iter_of (r.objects o) (option_map (renamed_kind r) kind))
  iter_of_alike o (Some a_list) = both_writes (both_done refl)
  iter_of_alike o (Some a_dict) = both_read_order (λ keys. both_writes (both_done (ap (λ n. int (pos n)) (length_renamed r keys))))
  iter_of_alike o (Some (a_file path mode)) = both_writes (both_done refl)
  iter_of_alike o other = wrong_kind_alike may r

  pub iter_alike : AlikeFor may r iter
  iter_alike (tuple parts ∷ []) = both_writes (both_done refl)
  iter_alike (range start end step ∷ []) = both_writes (both_done refl)
  iter_alike (text bytes ∷ []) = both_writes (both_done refl)
  iter_alike (object o ∷ []) = both_kind (iter_of_alike o)
  iter_alike (other ∷ []) = wrong_kind_alike may r
  iter_alike other = wrong_number_alike may r
