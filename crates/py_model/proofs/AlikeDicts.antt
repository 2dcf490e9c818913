-- The operations of dictionaries are alike for corresponding operands.
use Rattle.std.proofs.Common.{◌≡◌, ℕ, Bool, true, false, List, [], ◌∷◌, map, unwrap_or, Option, Some, None, if◌then◌else◌, option_map, refl, sym, ap, ap₂, subst, ◌∙◌}
use Rattle.py_value.specs.Contents.{Contents, nothing, object}
use Rattle.py_value.specs.KeyOf.{normal}
use Rattle.py_value.specs.Same.{same_value}
use Rattle.py_value.specs.Seen.{entry_at, order_at, entry_is, order_is, key_inserted, key_deleted}
use Rattle.py_model.proofs.Agreeing.{normal_renamed}
use Rattle.py_model.proofs.AlikeLists.{paired_renamed}
use Rattle.py_model.proofs.AlikeOperands.{AlikeFor, key_alike, dict_alike}
use Rattle.py_model.proofs.AlikeWalks.{wrong_kind_alike, wrong_number_alike, new_list_alike, same_renamed}
use Rattle.py_model.proofs.AlikePlans.{Allowed, AlikeBy, both_read_entry, both_read_order, both_kind, both_writes, both_raise, AlikeAfter, after_any, after_writes, both_begin, both_read_entry_and_write, both_done}
use Rattle.py_model.specs.Agreement as plans
use Rattle.py_model.specs.Agreement.{AlikeWrites}
use Rattle.py_model.specs.Dicts.{with_pair, set_entries, new_dict, with_pairs, dict_display, dict_builtin, get_entry, set_entry, del_entry, value_or, get_method, read_entries, paired, items_method, keys_method, values_method}
use Rattle.py_model.specs.Keys.{lacks_key}
use Rattle.py_model.specs.Making.{new_list}
use Rattle.py_model.specs.Orderly.{entry_read, resets, inserts, deletes, HasNoKey, HasKeysApart}
use Rattle.py_model.specs.Plan.{Plan, Writes, write, change, done, writes, read_entry}
use Rattle.py_model.specs.Renaming.{Renaming, renamed, renamed_list, renamed_entry}

-- keys that are apart stay so with one more
no_key_with : (other key item : Contents) (pairs : List (Contents × Contents)) → HasNoKey other pairs → same_value (normal key) (normal other) ≡ false → HasNoKey other (with_pair key item pairs)
no_key_with other key item [] none is = (is, tt)
no_key_with other key item (pair ∷ pairs) none is = by_test (same_value (normal key) (normal pair.0)) (no_key_with other key item pairs none.1 is)
  where
    by_test : (b : Bool) → HasNoKey other (with_pair key item pairs) → HasNoKey other (if b then (pair.0, item) ∷ pairs else pair ∷ with_pair key item pairs)
    by_test true more = none
    by_test false more = (none.0, more)

apart_with : (key item : Contents) (pairs : List (Contents × Contents)) → HasKeysApart pairs → HasKeysApart (with_pair key item pairs)
apart_with key item [] apart = (tt, tt)
apart_with key item (pair ∷ pairs) apart = by_test (same_value (normal key) (normal pair.0)) refl (apart_with key item pairs apart.1)
  where
    by_test : (b : Bool) → same_value (normal key) (normal pair.0) ≡ b → HasKeysApart (with_pair key item pairs) → HasKeysApart (if b then (pair.0, item) ∷ pairs else pair ∷ with_pair key item pairs)
    by_test true is more = apart
    by_test false is more = (no_key_with pair.0 key item pairs apart.0 is, more)

module _ (may : Allowed) (r : Renaming) where
  pub entry_renamed : (o : ℕ) (key : Contents) → entry_at (r.objects o) (normal (renamed r key)) ≡ entry_at (r.objects o) (renamed r (normal key))
  entry_renamed o key = ap (entry_at (r.objects o)) (normal_renamed r key)

  same_keys : (key other : Contents) → same_value (normal (renamed r key)) (normal (renamed r other)) ≡ same_value (normal key) (normal other)
  same_keys key other = ap₂ same_value (normal_renamed r key) (normal_renamed r other) ∙ same_renamed r (normal key) (normal other)

  -- pairs of a display
  abbrev renamed_pairs : List (Contents × Contents) → List (Contents × Contents)
  renamed_pairs [] = []
  renamed_pairs (pair ∷ pairs) = (renamed r pair.0, renamed r pair.1) ∷ renamed_pairs pairs

  with_pair_renamed : (key item : Contents) (pairs : List (Contents × Contents))
      → with_pair (renamed r key) (renamed r item) (renamed_pairs pairs) ≡ renamed_pairs (with_pair key item pairs)
  with_pair_renamed key item [] = refl
  with_pair_renamed key item (pair ∷ pairs) =
      ap (λ b. if b then (renamed r pair.0, renamed r item) ∷ renamed_pairs pairs else (renamed r pair.0, renamed r pair.1) ∷ with_pair (renamed r key) (renamed r item) (renamed_pairs pairs)) (same_keys key pair.0)
      ∙ by_test (same_value (normal key) (normal pair.0)) (with_pair_renamed key item pairs)
    where
      by_test : (b : Bool) → with_pair (renamed r key) (renamed r item) (renamed_pairs pairs) ≡ renamed_pairs (with_pair key item pairs)
          → (if b then (renamed r pair.0, renamed r item) ∷ renamed_pairs pairs else (renamed r pair.0, renamed r pair.1) ∷ with_pair (renamed r key) (renamed r item) (renamed_pairs pairs))
          ≡ renamed_pairs (if b then (pair.0, item) ∷ pairs else pair ∷ with_pair key item pairs)
      by_test true rest = refl
      by_test false rest = ap (λ (more : List (Contents × Contents)). (renamed r pair.0, renamed r pair.1) ∷ more) rest

  keys_renamed : (pairs : List (Contents × Contents)) → map (λ (pair : Contents × Contents). pair.0) (renamed_pairs pairs) ≡ renamed_list r (map (λ (pair : Contents × Contents). pair.0) pairs)
  keys_renamed [] = refl
  keys_renamed (pair ∷ pairs) = ap (λ (keys : List Contents). renamed r pair.0 ∷ keys) (keys_renamed pairs)

  set_entries_alike : (o : ℕ) (pairs : List (Contents × Contents)) (rest more : Writes) → AlikeWrites r rest more
      → AlikeWrites r (set_entries o pairs rest) (set_entries (r.objects o) (renamed_pairs pairs) more)
  set_entries_alike o [] rest more both = both
  set_entries_alike o (pair ∷ pairs) rest more both = plans.both_write (entry_renamed o pair.0) refl (set_entries_alike o pairs rest more both)

  new_dict_alike : (pairs : List (Contents × Contents)) → HasKeysApart pairs → AlikeBy may r (new_dict pairs) (new_dict (renamed_pairs pairs))
  new_dict_alike pairs apart = both_begin refl (λ o. plans.both_write refl (ap order_is (keys_renamed pairs)) (set_entries_alike o pairs _ _ (plans.both_done refl)))
      (λ o. record { pairs = pairs; answer = object o; apart = apart; writes_are = refl })

  with_pairs_alike : (items : List Contents) (pairs : List (Contents × Contents)) → HasKeysApart pairs → AlikeBy may r (with_pairs items pairs) (with_pairs (renamed_list r items) (renamed_pairs pairs))
  with_pairs_alike [] pairs apart = new_dict_alike pairs apart
  with_pairs_alike (key ∷ []) pairs apart = wrong_number_alike may r
  with_pairs_alike (key ∷ (item ∷ rest)) pairs apart =
      key_alike may r key (λ k. with_pairs rest (with_pair k item pairs)) (λ k. with_pairs (renamed_list r rest) (with_pair k (renamed r item) (renamed_pairs pairs)))
      (subst (λ all. AlikeBy may r (with_pairs rest (with_pair key item pairs)) (with_pairs (renamed_list r rest) all)) (sym (with_pair_renamed key item pairs))
      (with_pairs_alike rest (with_pair key item pairs) (apart_with key item pairs apart)))

  pub dict_display_alike : AlikeFor may r dict_display
  dict_display_alike items = with_pairs_alike items [] tt

  pub dict_builtin_alike : AlikeFor may r dict_builtin
  dict_builtin_alike [] = new_dict_alike [] tt
  dict_builtin_alike other = wrong_number_alike may r

  -- entries by key
  abbrev got : Contents → Option (Contents × Contents) → Plan
  got k (Some pair) = writes (done pair.1)
  got k None = lacks_key k

  got_alike : (k : Contents) (entry : Option (Contents × Contents)) → AlikeBy may r (got k entry) (got (renamed r k) (renamed_entry r entry))
  got_alike k (Some pair) = both_writes (both_done refl)
  got_alike k None = both_raise refl refl

  pub get_entry_alike : (o : ℕ) (key : Contents) → AlikeBy may r (get_entry o key) (get_entry (r.objects o) (renamed r key))
  get_entry_alike o key = key_alike may r key (λ k. read_entry o k (got k)) (λ k. read_entry (r.objects o) k (got k)) (both_read_entry (got_alike key))

  abbrev put_at : ℕ → Contents → Contents → Option (Contents × Contents) → Plan
  put_at o item k (Some pair) = writes (write (entry_at o (normal k)) (entry_is (Some (pair.0, item))) (done nothing))
  put_at o item k None = writes (write (entry_at o (normal k)) (entry_is (Some (k, item))) (change (order_at o) (key_inserted k) (done nothing)))

  put_at_alike : (o : ℕ) (item k : Contents) (entry : Option (Contents × Contents)) → AlikeAfter (entry_read o k entry) may r (put_at o item k entry) (put_at (r.objects o) (renamed r item) (renamed r k) (renamed_entry r entry))
  put_at_alike o item k (Some pair) = after_writes (plans.both_write (entry_renamed o k) refl (plans.both_done refl)) resets
  put_at_alike o item k None = after_writes (plans.both_write (entry_renamed o k) refl (plans.both_change refl refl (plans.both_done refl))) inserts

  pub set_entry_alike : (o : ℕ) (key item : Contents) → AlikeBy may r (set_entry o key item) (set_entry (r.objects o) (renamed r key) (renamed r item))
  set_entry_alike o key item =
      key_alike may r key (λ k. read_entry o k (put_at o item k)) (λ k. read_entry (r.objects o) k (put_at (r.objects o) (renamed r item) k)) (both_read_entry_and_write (put_at_alike o item key))

  abbrev taken_at : ℕ → Contents → Option (Contents × Contents) → Plan
  taken_at o k (Some pair) = writes (write (entry_at o (normal k)) (entry_is None) (change (order_at o) (key_deleted pair.0) (done nothing)))
  taken_at o k None = lacks_key k

  taken_at_alike : (o : ℕ) (k : Contents) (entry : Option (Contents × Contents)) → AlikeAfter (entry_read o k entry) may r (taken_at o k entry) (taken_at (r.objects o) (renamed r k) (renamed_entry r entry))
  taken_at_alike o k (Some pair) = after_writes (plans.both_write (entry_renamed o k) refl (plans.both_change refl refl (plans.both_done refl))) deletes
  taken_at_alike o k None = after_any (both_raise refl refl)

  pub del_entry_alike : (o : ℕ) (key : Contents) → AlikeBy may r (del_entry o key) (del_entry (r.objects o) (renamed r key))
  del_entry_alike o key = key_alike may r key (λ k. read_entry o k (taken_at o k)) (λ k. read_entry (r.objects o) k (taken_at (r.objects o) k)) (both_read_entry_and_write (taken_at_alike o key))

  -- methods
  abbrev value_else : Option (Contents × Contents) → Contents → Contents
  value_else entry instead = unwrap_or (option_map (λ (pair : Contents × Contents). pair.1) entry) instead

  value_renamed : (entry : Option (Contents × Contents)) (instead : Contents) → value_else (renamed_entry r entry) (renamed r instead) ≡ renamed r (value_else entry instead)
  value_renamed (Some pair) instead = refl
  value_renamed None instead = refl

  value_or_alike : (o : ℕ) (key instead : Contents) → AlikeBy may r (value_or o key instead) (value_or (r.objects o) (renamed r key) (renamed r instead))
  value_or_alike o key instead =
      key_alike may r key (λ k. read_entry o k (λ entry. writes (done (value_else entry instead)))) (λ k. read_entry (r.objects o) k (λ entry. writes (done (value_else entry (renamed r instead)))))
      (both_read_entry (λ entry. both_writes (both_done (value_renamed entry instead))))

  pub get_alike : AlikeFor may r get_method
  get_alike (object o ∷ (key ∷ [])) = both_kind (dict_alike may r _ _ (value_or_alike o key nothing))
  get_alike (object o ∷ (key ∷ (instead ∷ []))) = both_kind (dict_alike may r _ _ (value_or_alike o key instead))
  get_alike (object o ∷ other) = wrong_number_alike may r
  get_alike other = wrong_kind_alike may r

  read_entries_alike : (o : ℕ) (keys : List Contents) (go gone : List Contents → Plan) → ((items : List Contents) → AlikeBy may r (go items) (gone (renamed_list r items)))
      → AlikeBy may r (read_entries o keys go) (read_entries (r.objects o) (renamed_list r keys) gone)
  read_entries_alike o [] go gone each = each []
  read_entries_alike o (key ∷ keys) go gone each = both_read_entry (λ entry.
      read_entries_alike o keys (λ items. go (value_else entry nothing ∷ items)) (λ items. gone (value_else (renamed_entry r entry) nothing ∷ items))
      (λ items. subst (λ v. AlikeBy may r (go (value_else entry nothing ∷ items)) (gone (v ∷ renamed_list r items))) (sym (value_renamed entry nothing)) (each (value_else entry nothing ∷ items))))

  pub items_alike : AlikeFor may r items_method
  items_alike (object o ∷ []) = both_kind (dict_alike may r _ _ (both_read_order (λ keys. read_entries_alike o keys _ _ (λ items.
      subst (λ all. AlikeBy may r (new_list (paired keys items)) (new_list all)) (sym (paired_renamed may r keys items)) (new_list_alike may r (paired keys items))))))
  items_alike (object o ∷ other) = wrong_number_alike may r
  items_alike other = wrong_kind_alike may r

  pub keys_alike : AlikeFor may r keys_method
  keys_alike (object o ∷ []) = both_kind (dict_alike may r _ _ (both_read_order (λ keys. new_list_alike may r keys)))
  keys_alike (object o ∷ other) = wrong_number_alike may r
  keys_alike other = wrong_kind_alike may r

  pub values_alike : AlikeFor may r values_method
  values_alike (object o ∷ []) = both_kind (dict_alike may r _ _ (both_read_order (λ keys. read_entries_alike o keys new_list new_list (new_list_alike may r))))
  values_alike (object o ∷ other) = wrong_number_alike may r
  values_alike other = wrong_kind_alike may r
