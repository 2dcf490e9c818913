-- Items, parts and turns of sequences are alike for corresponding operands.
use Rattle.std.proofs.Common.{◌≡◌, ℕ, zero, suc, ℤ, pos, ◌==◌, List, [], ◌∷◌, length, map, nat_lt, slice_get, unwrap_or, Option, Some, None, if◌then◌else◌, option_map, refl, sym, ap, subst, ◌∙◌}
use Rattle.std.specs.Ordering.{int_eq}
use Rattle.py_value.specs.Contents.{Contents, Parts, nothing, int, text, tuple, range, object}
use Rattle.py_value.specs.Seen.{SeenKind, a_list, a_dict, a_file}
use Rattle.py_model.proofs.Agreeing.{parts_renamed}
use Rattle.py_model.proofs.AlikeComparing.{if_alike}
use Rattle.py_model.proofs.AlikeDicts.{get_entry_alike, set_entry_alike, del_entry_alike}
use Rattle.py_model.proofs.AlikeLists.{get_item_alike, set_item_alike, del_item_alike, tuple_display_alike}
use Rattle.py_model.proofs.AlikeOperands.{AlikeFor, index_alike, place_alike, bounds_alike, list_alike}
use Rattle.py_model.proofs.AlikeWalks.{wrong_kind_alike, wrong_number_alike, fault_alike, items_renamed, length_renamed, size_renamed, texts_stay, read_value_alike, read_items_alike, new_list_alike}
use Rattle.py_model.proofs.AlikePlans.{Allowed, AlikeBy, both_read_len, both_read_order, both_kind, both_look, both_count, both_writes, both_end, both_done}
use Rattle.py_model.specs.Effect.{parts_of}
use Rattle.py_model.specs.Lists.{tuple_display, get_of, getitem, set_of, setitem, del_of, delitem, slice_of, slice, with_part, unpack, item_or_end, next_of, next, changed_size}
use Rattle.py_model.specs.Making.{new_list}
use Rattle.py_model.specs.Numbers.{range_count}
use Rattle.py_model.specs.Places.{part_from, low_bound}
use Rattle.py_model.specs.Plan.{Plan, looks, counts, writes, done, ends}
use Rattle.py_model.specs.Renaming.{Renaming, renamed, renamed_parts, renamed_option, renamed_list, renamed_kind}
use Rattle.py_model.specs.Texts.{characters, size}
use Rattle.py_model.specs.Walks.{items_of, read_value}

module _ (may : Allowed) (r : Renaming) where
  at_renamed : (items : List Contents) (i : ℕ) → slice_get (renamed_list r items) i ≡ renamed_option r (slice_get items i)
  at_renamed [] i = refl
  at_renamed (item ∷ items) zero = refl
  at_renamed (item ∷ items) (suc i) = at_renamed items i

  or_nothing : (v : Option Contents) → unwrap_or (renamed_option r v) nothing ≡ renamed r (unwrap_or v nothing)
  or_nothing None = refl
  or_nothing (Some v) = refl

  item_renamed : (parts : Parts) (p : ℕ) → unwrap_or (slice_get (items_of (renamed_parts r parts)) p) nothing ≡ renamed r (unwrap_or (slice_get (items_of parts) p) nothing)
  item_renamed parts p =
      ap (λ items. unwrap_or (slice_get items p) nothing) (items_renamed r parts)
      ∙ (ap (λ v. unwrap_or v nothing) (at_renamed (items_of parts) p) ∙ or_nothing (slice_get (items_of parts) p))

  -- `v[i]`, `v[i] = w` and `del v[i]`
  get_of_alike : (o : ℕ) (index : Contents) (kind : Option SeenKind) → AlikeBy may r (get_of o index kind) (get_of (r.objects o) (renamed r index) (option_map (renamed_kind r) kind))
  get_of_alike o index (Some a_list) = index_alike may r index _ _ (λ i. get_item_alike may r o i)
  get_of_alike o index (Some a_dict) = get_entry_alike may r o index
  get_of_alike o index other = wrong_kind_alike may r

  pub getitem_alike : AlikeFor may r getitem
  getitem_alike (tuple parts ∷ (index ∷ [])) =
      index_alike may r index _ _ (λ i. place_alike may r i (length (items_of parts)) (length (items_of (renamed_parts r parts))) _ _ (size_renamed r parts) (λ p.
      both_look refl (both_writes (both_done (item_renamed parts p)))))
  getitem_alike (range start end step ∷ (index ∷ [])) =
      index_alike may r index _ _ (λ i. place_alike may r i (range_count start end step) (range_count start end step) _ _ refl (λ p. both_look refl (both_writes (both_done refl))))
  getitem_alike (text bytes ∷ (index ∷ [])) =
      index_alike may r index _ _ (λ i. place_alike may r i (size bytes) (size bytes) _ _ refl (λ p. both_count refl (both_writes (both_done refl))))
  getitem_alike (object o ∷ (index ∷ [])) = both_kind (get_of_alike o index)
  getitem_alike (other ∷ (index ∷ [])) = wrong_kind_alike may r
  getitem_alike other = wrong_number_alike may r

  set_of_alike : (o : ℕ) (index item : Contents) (kind : Option SeenKind)
      → AlikeBy may r (set_of o index item kind) (set_of (r.objects o) (renamed r index) (renamed r item) (option_map (renamed_kind r) kind))
  set_of_alike o index item (Some a_list) = index_alike may r index _ _ (λ i. set_item_alike may r o item i)
  set_of_alike o index item (Some a_dict) = set_entry_alike may r o index item
  set_of_alike o index item other = wrong_kind_alike may r

  pub setitem_alike : AlikeFor may r setitem
  setitem_alike (object o ∷ (index ∷ (item ∷ []))) = both_kind (set_of_alike o index item)
  setitem_alike (other ∷ (index ∷ (item ∷ []))) = wrong_kind_alike may r
  setitem_alike other = wrong_number_alike may r

  del_of_alike : (o : ℕ) (index : Contents) (kind : Option SeenKind) → AlikeBy may r (del_of o index kind) (del_of (r.objects o) (renamed r index) (option_map (renamed_kind r) kind))
  del_of_alike o index (Some a_list) = index_alike may r index _ _ (λ i. del_item_alike may r o i)
  del_of_alike o index (Some a_dict) = del_entry_alike may r o index
  del_of_alike o index other = wrong_kind_alike may r

  pub delitem_alike : AlikeFor may r delitem
  delitem_alike (object o ∷ (index ∷ [])) = both_kind (del_of_alike o index)
  delitem_alike (other ∷ (index ∷ [])) = wrong_kind_alike may r
  delitem_alike other = wrong_number_alike may r

  -- `v[low:high]`
  part_renamed : (p m : ℕ) (items : List Contents) → part_from p m (renamed_list r items) ≡ renamed_list r (part_from p m items)
  part_renamed p zero items = refl
  part_renamed p (suc m) [] = refl
  part_renamed zero (suc m) (item ∷ items) = ap (λ (rest : List Contents). renamed r item ∷ rest) (part_renamed zero m items)
  part_renamed (suc p) (suc m) (item ∷ items) = part_renamed p (suc m) items

  abbrev part_of : List Contents → Option ℤ → Option ℤ → ℕ → Plan
  part_of items l h n = with_part l h n (λ p m. looks m (writes (done (tuple (parts_of (part_from p m items))))))

  tuple_part_alike : (parts : Parts) (l h : Option ℤ)
      → AlikeBy may r (part_of (items_of parts) l h (length (items_of parts))) (part_of (items_of (renamed_parts r parts)) l h (length (items_of (renamed_parts r parts))))
  tuple_part_alike parts l h =
      subst (λ n. AlikeBy may r (part_of (items_of parts) l h (length (items_of parts))) (part_of (items_of (renamed_parts r parts)) l h n)) (sym (size_renamed r parts))
      (both_look refl (both_writes (both_done (ap tuple (of_part (low_bound l (length (items_of parts))) _)))))
    where
      of_part : (p m : ℕ) → parts_of (part_from p m (items_of (renamed_parts r parts))) ≡ renamed_parts r (parts_of (part_from p m (items_of parts)))
      of_part p m = ap (λ items. parts_of (part_from p m items)) (items_renamed r parts)
          ∙ (ap parts_of (part_renamed p m (items_of parts)) ∙ parts_renamed r (part_from p m (items_of parts)))

  slice_of_alike : (o : ℕ) (l h : Option ℤ) → AlikeBy may r (slice_of o l h) (slice_of (r.objects o) l h)
  slice_of_alike o l h = both_read_len (λ n. read_items_alike may r _ o (low_bound l n) new_list new_list (new_list_alike may r))

  pub slice_alike : AlikeFor may r slice
  slice_alike (tuple parts ∷ (low ∷ (high ∷ []))) = bounds_alike may r low high _ _ (λ l h. tuple_part_alike parts l h)
  slice_alike (text bytes ∷ (low ∷ (high ∷ []))) = bounds_alike may r low high _ _ (λ l h. both_count refl (both_writes (both_done refl)))
  slice_alike (object o ∷ (low ∷ (high ∷ []))) = both_kind (list_alike may r _ _ (bounds_alike may r low high _ _ (λ l h. slice_of_alike o l h)))
  slice_alike (other ∷ (low ∷ (high ∷ []))) = wrong_kind_alike may r
  slice_alike other = wrong_number_alike may r

  -- a value taken apart
  pub unpack_alike : (targets : ℕ) → AlikeFor may r (unpack targets)
  unpack_alike targets (tuple parts ∷ []) =
      if_alike may r (length (items_of parts) == targets) (length (items_of (renamed_parts r parts)) == targets) _ _ _ _ (ap (λ n. n == targets) (size_renamed r parts))
      (both_look refl (subst (λ items. AlikeBy may r (tuple_display (items_of parts)) (tuple_display items)) (sym (items_renamed r parts)) (tuple_display_alike may r (items_of parts))))
      (fault_alike may r _ _)
  unpack_alike targets (object o ∷ []) = both_kind (list_alike may r _ _ (both_read_len (λ n.
      if_alike may r (n == targets) (n == targets) _ _ _ _ refl (read_items_alike may r n o 0 tuple_display tuple_display (tuple_display_alike may r)) (fault_alike may r _ _))))
  unpack_alike targets (other ∷ []) = wrong_kind_alike may r
  unpack_alike targets other = wrong_number_alike may r

  -- the next turn of a loop
  item_or_end_alike : (go gone : Contents → Plan) → ((v : Contents) → AlikeBy may r (go v) (gone (renamed r v))) → (v : Option Contents)
      → AlikeBy may r (item_or_end go v) (item_or_end gone (renamed_option r v))
  item_or_end_alike go gone each (Some v) = each v
  item_or_end_alike go gone each None = both_end

  module _ (file_line : ℕ → Plan) (line_alike : (o : ℕ) → AlikeBy may r (file_line o) (file_line (r.objects o))) where
    next_list_alike : (o turns n : ℕ)
        → AlikeBy may r (if nat_lt turns n then read_value o turns (λ item. writes (done item)) else ends) (if nat_lt turns n then read_value (r.objects o) turns (λ item. writes (done item)) else ends)
    next_list_alike o turns n = if_alike may r (nat_lt turns n) (nat_lt turns n) _ _ _ _ refl
        (read_value_alike may r o turns (λ item. writes (done item)) (λ item. writes (done item)) (λ item. both_writes (both_done refl))) both_end

    next_key_alike : (turns : ℕ) (begun : ℤ) (keys : List Contents)
        → AlikeBy may r (if int_eq begun (pos (length keys)) then item_or_end (λ key. writes (done key)) (slice_get keys turns) else changed_size)
        (if int_eq begun (pos (length (renamed_list r keys))) then item_or_end (λ key. writes (done key)) (slice_get (renamed_list r keys) turns) else changed_size)
    next_key_alike turns begun keys = if_alike may r (int_eq begun (pos (length keys))) (int_eq begun (pos (length (renamed_list r keys)))) _ _ _ _
        (ap (λ n. int_eq begun (pos n)) (length_renamed r keys))
        (subst (λ v. AlikeBy may r (item_or_end (λ key. writes (done key)) (slice_get keys turns)) (item_or_end (λ key. writes (done key)) v)) (sym (at_renamed keys turns))
        (item_or_end_alike (λ key. writes (done key)) (λ key. writes (done key)) (λ v. both_writes (both_done refl)) (slice_get keys turns)))
        (fault_alike may r _ _)

    next_of_alike : (o turns : ℕ) (begun : Contents) (kind : Option SeenKind)
        → AlikeBy may r (next_of file_line o turns begun kind) (next_of file_line (r.objects o) turns (renamed r begun) (option_map (renamed_kind r) kind))
    next_of_alike o turns begun (Some a_list) = both_read_len (λ n. next_list_alike o turns n)
    next_of_alike o turns (int begun) (Some a_dict) = both_read_order (λ keys. next_key_alike turns begun keys)
    next_of_alike o turns begun (Some (a_file path mode)) = line_alike o
    next_of_alike o turns begun other = wrong_kind_alike may r

    pub next_alike : AlikeFor may r (next file_line)
    next_alike (tuple parts ∷ (int (pos turns) ∷ (begun ∷ []))) =
        subst (λ v. AlikeBy may r (item_or_end (λ item. looks 1 (writes (done item))) (slice_get (items_of parts) turns)) (item_or_end (λ item. looks 1 (writes (done item))) v))
        (sym (ap (λ items. slice_get items turns) (items_renamed r parts) ∙ at_renamed (items_of parts) turns))
        (item_or_end_alike (λ item. looks 1 (writes (done item))) (λ item. looks 1 (writes (done item))) (λ v. both_look refl (both_writes (both_done refl))) (slice_get (items_of parts) turns))
    next_alike (range start end step ∷ (int (pos turns) ∷ (begun ∷ []))) =
        if_alike may r (nat_lt turns (range_count start end step)) (nat_lt turns (range_count start end step)) _ _ _ _ refl (both_look refl (both_writes (both_done refl))) both_end
    next_alike (text bytes ∷ (int (pos turns) ∷ (begun ∷ []))) =
        subst (λ v. AlikeBy may r (item_or_end (λ item. counts 1 (writes (done item))) (slice_get (map text (characters bytes)) turns)) (item_or_end (λ item. counts 1 (writes (done item))) v))
        (sym (ap (λ items. slice_get items turns) (sym (texts_stay r (characters bytes))) ∙ at_renamed (map text (characters bytes)) turns))
        (item_or_end_alike (λ item. counts 1 (writes (done item))) (λ item. counts 1 (writes (done item))) (λ v. both_count refl (both_writes (both_done refl))) (slice_get (map text (characters bytes)) turns))
    next_alike (object o ∷ (int (pos turns) ∷ (begun ∷ []))) = both_kind (next_of_alike o turns begun)
    next_alike (other ∷ (turns ∷ (begun ∷ []))) = wrong_kind_alike may r
    next_alike other = wrong_number_alike may r
