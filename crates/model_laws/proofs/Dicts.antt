-- Operations on dictionaries, and on attributes of instances, do what the table says.
use Rattle.std.proofs.Common.{◌≡◌, ℕ, suc, ℤ, pos, Bool, true, false, ◌&&◌, if◌then◌else◌, List, [], ◌∷◌, map, length, slice_get, Option, Some, None, is_some, unwrap_or, refl, sym, ap, subst, ◌∙◌, eq-eqb, codes, not, ◌==◌}
use Rattle.std.specs.Ordering.{int_eq}
use Rattle.std.specs.Option.{option_map}
use Rattle.py_value.specs.Changes.{with_key, without_key, changed}
use Rattle.py_value.specs.Contents.{Contents, nothing, truth, int, text, tuple, object, no_parts, part}
use Rattle.py_value.specs.declared.key.KeyFault.{KeyFault}
use Rattle.py_value.specs.declared.key.KeyFault.TheVariants.{NoKey, TooDeep}
use Rattle.py_value.specs.KeyOf.{normal, key_fault}
use Rattle.py_value.specs.Same.{same_value}
use Rattle.py_value.specs.Seen.{SeenLocation, SeenContent, SeenKind, a_list, a_dict, an_instance, entry_at, order_at, entry_is, order_is, key_inserted, key_deleted, reads}
use Rattle.py_model.specs.Files.{next_line}
use Rattle.py_model.specs.Arithmetic.{in_plan, len_plan, among_items, truth_of, truth_plan, not_plan, not_in_plan}
use Rattle.py_model.specs.Classes.{getattr, setattr, find, setattr_of_object, getattr_of_object, find_of_object, no_method_value, class_attribute, method_found}
use Rattle.py_model.specs.Dicts.{with_pair, when_dict, value_or, read_entries, paired, get_method, items_method, keys_method, values_method}
use Rattle.py_model.specs.Effect.{Effect, Answers, accessed, touching, effect}
use Rattle.py_model.specs.Faults.{wrong_kind, out_of_range, overflow, key_error, too_deep, not_there, runtime_error}
use Rattle.py_model.specs.Keys.{with_key_of, lacks_key, no_key_of}
use Rattle.py_model.specs.Lists.{getitem, setitem, delitem, get_of, set_of, del_of, iter, iter_of, next, next_of, changed_size}
use Rattle.py_model.specs.Making.{new_list}
use Rattle.py_model.specs.Numbers.{is_int}
use Rattle.py_model.specs.Operands.{gives, gives_int, gives_truth}
use Rattle.py_model.specs.Plan.{Plan, write, change, done, kind_of, read_entry, read_len, read_order, writes, ends as ends_here}
use Rattle.py_model.specs.Store.{RunStore, entry_of, order_of}
use Rattle.py_model.specs.Walks.{deepest}
use Rattle.model_laws.specs.Reading.{pair_of, pairs_at, HasPairs, IsDict, IsInstance, is_of}
use Rattle.model_laws.specs.Results.{Result, leaves, makes_list, throws, Does}
use Rattle.model_laws.specs.TableLists.{number_or_overflow, item_or_end}
use Rattle.model_laws.specs.TableDicts.{Pairs, without_pair, getitem_is, setitem_is, delitem_is, in_is, len_is, get_is, items_is, keys_is, values_is, setattr_is, getattr_is, truth_is, not_is, iter_is, next_is, not_in_is}
use Rattle.model_laws.proofs.Effects.{Same, does_as, does_same, ends, stays, behind_read}
use Rattle.model_laws.proofs.Keys.{ValuesTested, keys_in, found_form, set_there, put_behind, set_behind, keys_stay, key_put, apart_set, apart_behind, taken_out, key_taken, apart_taken, AreFound, each_found}
use Rattle.model_laws.proofs.Lists.{list_made, length_by, truth_by}
use Rattle.model_laws.proofs.Standing.{set}

abbrev pub entry_in : Option SeenContent → Option (Contents × Contents)
entry_in (Some (entry_is entry)) = entry
entry_in other = None

abbrev pub order_in : Option SeenContent → List Contents
order_in (Some (order_is keys)) = keys
order_in other = []

-- the store with an entry set
abbrev pub with_entry : ℕ → Contents → Option (Contents × Contents) → RunStore → RunStore
with_entry o k entry s = set (entry_at o (normal k)) (entry_is entry) s

-- the store with a key put into an order, or taken out of it
abbrev pub with_order : ℕ → SeenContent → RunStore → RunStore
with_order o keys s = set (order_at o) keys s

pub entry_set : (s : RunStore) (o : ℕ) (k l : Contents) (entry : Option (Contents × Contents))
    → entry_of (with_entry o k entry s) o l ≡ (if same_value (normal k) (normal l) then entry else entry_of s o l)
entry_set s o k l entry = ap (λ b. entry_in (if b && same_value (normal k) (normal l) then Some (entry_is entry) else s.at (entry_at o (normal l)))) (eq-eqb o o refl) ∙ by_test (same_value (normal k) (normal l))
  where
    by_test : (b : Bool) → entry_in (if b then Some (entry_is entry) else s.at (entry_at o (normal l))) ≡ (if b then entry else entry_in (s.at (entry_at o (normal l))))
    by_test true = refl
    by_test false = refl

pub order_set : (s : RunStore) (o : ℕ) (keys : SeenContent) → order_of (with_order o keys s) o ≡ order_in (Some keys)
order_set s o keys = ap (λ b. order_in (if b then Some keys else s.at (order_at o))) (eq-eqb o o refl)

key_inserted_is : (key : Contents) (old : Option SeenContent) → order_in (Some (changed (key_inserted key) old)) ≡ with_key key (order_in old)
key_inserted_is key (Some (order_is keys)) = refl
key_inserted_is key other = refl

key_deleted_is : (key : Contents) (old : Option SeenContent) → order_in (Some (changed (key_deleted key) old)) ≡ without_key key (order_in old)
key_deleted_is key (Some (order_is keys)) = refl
key_deleted_is key other = refl

pub entry_apart : (s : RunStore) (o : ℕ) (k : Contents) (entry : Option (Contents × Contents)) (l : SeenLocation) → is_of o l ≡ false → (with_entry o k entry s).at l ≡ s.at l
entry_apart s o k entry (entry_at p form) apart = ap (λ b. if b && same_value (normal k) form then Some (entry_is entry) else s.at (entry_at p form)) apart
entry_apart s o k entry l apart = refl

pub order_apart : (s : RunStore) (o : ℕ) (keys : SeenContent) (l : SeenLocation) → is_of o l ≡ false → (with_order o keys s).at l ≡ s.at l
order_apart s o keys (order_at p) apart = ap (λ b. if b then Some keys else s.at (order_at p)) apart
order_apart s o keys l apart = refl

-- what an object with pairs becomes
module _ (tested : ValuesTested) (store : RunStore) (o : ℕ) (pairs : Pairs) (has : HasPairs store o pairs) (k : Contents) where
  pub value_set : (v : Contents) (pair : Contents × Contents) → pair_of k pairs ≡ Some pair → HasPairs (with_entry o k (Some (pair.0, v)) store) o (with_pair k v pairs)
  value_set v pair is = record {
    order_is = has.order_is ∙ sym (keys_stay tested k v pairs pair is);
    entries_are = λ l. entry_set store o k l (Some (pair.0, v)) ∙ ap (λ (found : Option (Contents × Contents)). if same_value (normal k) (normal l) then Some (pair.0, v) else found) (has.entries_are l) ∙ sym (set_there tested k v pairs pair is l);
    apart = apart_set tested k v pairs pair is has.apart;
  }

  abbrev put_store : Contents → RunStore
  put_store v = with_order o (changed (key_inserted k) (store.at (order_at o))) (with_entry o k (Some (k, v)) store)

  pub pair_put : (v : Contents) → pair_of k pairs ≡ None → HasPairs (put_store v) o (with_pair k v pairs)
  pair_put v is = subst (λ (new : Pairs). HasPairs (put_store v) o new) (sym (put_behind tested k v pairs is)) (record {
    order_is = order_set (with_entry o k (Some (k, v)) store) o (changed (key_inserted k) (store.at (order_at o))) ∙ key_inserted_is k (store.at (order_at o)) ∙ ap (with_key k) has.order_is ∙ key_put tested k v pairs is;
    entries_are = λ l. entry_set store o k l (Some (k, v)) ∙ ap (λ (found : Option (Contents × Contents)). if same_value (normal k) (normal l) then Some (k, v) else found) (has.entries_are l) ∙ sym (set_behind tested k v pairs is l);
    apart = apart_behind tested k v pairs is has.apart;
  })

  abbrev taken_store : Contents → RunStore
  taken_store m = with_order o (changed (key_deleted m) (store.at (order_at o))) (with_entry o k None store)

  pub pair_taken : (pair : Contents × Contents) → pair_of k pairs ≡ Some pair → HasPairs (taken_store pair.0) o (without_pair k pairs)
  pair_taken pair is = record {
    order_is = order_set (with_entry o k None store) o (changed (key_deleted pair.0) (store.at (order_at o))) ∙ key_deleted_is pair.0 (store.at (order_at o)) ∙ ap (without_key pair.0) has.order_is
        ∙ key_taken tested k pair.0 pairs (found_form tested k pairs pair is);
    entries_are = λ l. entry_set store o k l None ∙ ap (λ (found : Option (Contents × Contents)). if same_value (normal k) (normal l) then None else found) (has.entries_are l) ∙ sym (taken_out tested k pairs has.apart l);
    apart = apart_taken tested k pairs has.apart;
  }

abbrev got : Contents → Option (Contents × Contents) → Plan
got k (Some pair) = writes (done pair.1)
got k None = lacks_key k

abbrev put_entry : ℕ → Contents → Contents → Option (Contents × Contents) → Plan
put_entry o item k (Some pair) = writes (write (entry_at o (normal k)) (entry_is (Some (pair.0, item))) (done nothing))
put_entry o item k None = writes (write (entry_at o (normal k)) (entry_is (Some (k, item))) (change (order_at o) (key_inserted k) (done nothing)))

abbrev take_entry : ℕ → Contents → Option (Contents × Contents) → Plan
take_entry o k (Some pair) = writes (write (entry_at o (normal k)) (entry_is None) (change (order_at o) (key_deleted pair.0) (done nothing)))
take_entry o k None = lacks_key k

abbrev keyed_by : (Contents → Plan) → Contents → Option KeyFault → Plan
keyed_by go key None = go key
keyed_by go key (Some (NoKey o)) = kind_of o no_key_of
keyed_by go key (Some TooDeep) = too_deep
keyed_by go key (Some other) = not_there

pub key_goes : (key : Contents) (go : Contents → Plan) → key_fault deepest key ≡ None → with_key_of key go ≡ go key
key_goes key go is = ap (keyed_by go key) is

abbrev pub contained_by : ℕ → Contents → (Bool → Plan) → Option SeenKind → Plan
contained_by o v go (Some a_list) = read_len o (λ n. among_items n o 0 v go)
contained_by o v go (Some a_dict) = with_key_of v (λ key. read_entry o key (λ entry. go (is_some entry)))
contained_by o v go other = wrong_kind

abbrev second_or : Contents → Option (Contents × Contents) → Contents
second_or instead entry = unwrap_or (option_map (λ (pair : Contents × Contents). pair.1) entry) instead

abbrev attribute_by : Plan → Option (Contents × Contents) → Plan
attribute_by otherwise None = otherwise
attribute_by otherwise (Some pair) = writes (done pair.1)

abbrev key_or_end : Option Contents → Plan
key_or_end (Some key) = writes (done key)
key_or_end None = ends_here

pub pairs_read : (tested : ValuesTested) (store : RunStore) (o : ℕ) (pairs : Pairs) → HasPairs store o pairs → pairs ≡ pairs_at store o
pairs_read tested store o pairs has = each pairs (each_found tested pairs has.apart) ∙ ap (map (λ key. unwrap_or (entry_of store o key) (key, nothing))) (sym has.order_is)
  where
    each : (rest : Pairs) → AreFound pairs rest → rest ≡ map (λ key. unwrap_or (entry_of store o key) (key, nothing)) (keys_in rest)
    each [] found = refl
    each (pair ∷ rest) found =
        ap (λ (entry : Option (Contents × Contents)). unwrap_or entry (pair.0, nothing) ∷ rest) (sym (has.entries_are pair.0 ∙ found.0))
        ∙ ap (λ (more : Pairs). unwrap_or (entry_of store o pair.0) (pair.0, nothing) ∷ more) (each rest found.1)

-- an object with pairs, of any kind that the writes of pairs keep
module _ (tested : ValuesTested) (Is : RunStore → ℕ → Pairs → Type 0) (store : RunStore) (answers : Answers) (o : ℕ) (pairs : Pairs) (is : Is store o pairs) (has : HasPairs store o pairs)
    (again : (t : RunStore) (new : Pairs) → t.kinds ≡ store.kinds → HasPairs t o new → Is t o new) where
  abbrev DoesThis : Effect → Result Pairs → Type 0
  DoesThis e result = Does Is store o e result

  by_entry : (k : Contents) (go : Option (Contents × Contents) → Plan) (result : Result Pairs) → DoesThis (effect store answers (go (pair_of k pairs))) result → DoesThis (effect store answers (read_entry o k go)) result
  by_entry k go result does = does_as (is_of o) Is store o (touching (accessed (reads (entry_at o (normal k)))) (effect store answers (go (entry_of store o k)))) (effect store answers (go (entry_of store o k))) result refl refl refl
      (subst (λ (found : Option (Contents × Contents)). DoesThis (effect store answers (go found)) result) (sym (has.entries_are k)) does)

  by_order : (go : List Contents → Plan) (result : Result Pairs) → DoesThis (effect store answers (go (keys_in pairs))) result → DoesThis (effect store answers (read_order o go)) result
  by_order go result does = does_as (is_of o) Is store o (touching (accessed (reads (order_at o))) (effect store answers (go (order_of store o)))) (effect store answers (go (order_of store o))) result refl refl refl
      (subst (λ (keys : List Contents). DoesThis (effect store answers (go keys)) result) (sym has.order_is) does)

  unchanged : (answer : Contents) → DoesThis (effect store answers (writes (done answer))) (leaves answer pairs)
  unchanged answer = stays (is_of o) Is store o (effect store answers (writes (done answer))) answer pairs refl refl refl is

  pub gets : (k : Contents) → DoesThis (effect store answers (read_entry o k (got k))) (getitem_is pairs k)
  gets k = by_entry k (got k) (getitem_is pairs k) (by_found (pair_of k pairs))
    where
      by_found : (found : Option (Contents × Contents)) → DoesThis (effect store answers (got k found)) (elim found [ None ↦ throws key_error (k ∷ []) | Some pair ↦ leaves pair.1 pairs ])
      by_found (Some pair) = unchanged pair.1
      by_found None = record { outcome_is = refl; made_is = refl; after_is = refl }

  pub puts : (k item : Contents) → DoesThis (effect store answers (read_entry o k (put_entry o item k))) (leaves nothing (with_pair k item pairs))
  puts k item = by_entry k (put_entry o item k) (leaves nothing (with_pair k item pairs)) (by_found (pair_of k pairs) refl)
    where
      by_found : (found : Option (Contents × Contents)) → pair_of k pairs ≡ found → DoesThis (effect store answers (put_entry o item k found)) (leaves nothing (with_pair k item pairs))
      by_found (Some pair) found = ends (is_of o) Is store o (effect store answers (put_entry o item k (Some pair))) (with_entry o k (Some (pair.0, item)) store) nothing (with_pair k item pairs) refl refl refl refl
          (again (with_entry o k (Some (pair.0, item)) store) (with_pair k item pairs) refl (value_set tested store o pairs has k item pair found)) (λ l apart. entry_apart store o k (Some (pair.0, item)) l apart)
      by_found None found = ends (is_of o) Is store o (effect store answers (put_entry o item k None)) (put_store tested store o pairs has k item) nothing (with_pair k item pairs) refl refl refl refl
          (again (put_store tested store o pairs has k item) (with_pair k item pairs) refl (pair_put tested store o pairs has k item found))
          (λ l apart. order_apart (with_entry o k (Some (k, item)) store) o (changed (key_inserted k) (store.at (order_at o))) l apart ∙ entry_apart store o k (Some (k, item)) l apart)

  pub takes : (k : Contents) → DoesThis (effect store answers (read_entry o k (take_entry o k))) (delitem_is pairs k)
  takes k = by_entry k (take_entry o k) (delitem_is pairs k) (by_found (pair_of k pairs) refl)
    where
      by_found : (found : Option (Contents × Contents)) → pair_of k pairs ≡ found → DoesThis (effect store answers (take_entry o k found)) (elim found [ None ↦ throws key_error (k ∷ []) | Some pair ↦ leaves nothing (without_pair k pairs) ])
      by_found (Some pair) found = ends (is_of o) Is store o (effect store answers (take_entry o k (Some pair))) (taken_store tested store o pairs has k pair.0) nothing (without_pair k pairs) refl refl refl refl
          (again (taken_store tested store o pairs has k pair.0) (without_pair k pairs) refl (pair_taken tested store o pairs has k pair found))
          (λ l apart. order_apart (with_entry o k None store) o (changed (key_deleted pair.0) (store.at (order_at o))) l apart ∙ entry_apart store o k None l apart)
      by_found None found = record { outcome_is = refl; made_is = refl; after_is = refl }

  -- an attribute that is there
  pub has_it : (k : Contents) (otherwise : Plan) (pair : Contents × Contents) → pair_of k pairs ≡ Some pair → DoesThis (effect store answers (read_entry o k (attribute_by otherwise))) (leaves pair.1 pairs)
  has_it k otherwise pair found = by_entry k (attribute_by otherwise) (leaves pair.1 pairs)
      (subst (λ (some : Option (Contents × Contents)). DoesThis (effect store answers (attribute_by otherwise some)) (leaves pair.1 pairs)) (sym found) (unchanged pair.1))

module _ (tested : ValuesTested) (store : RunStore) (answers : Answers) (o : ℕ) (pairs : Pairs) (is : IsDict store o pairs) where
  abbrev DoesToDict : Effect → Result Pairs → Type 0
  DoesToDict e result = Does IsDict store o e result

  dict_again : (t : RunStore) (new : Pairs) → t.kinds ≡ store.kinds → HasPairs t o new → IsDict t o new
  dict_again t new kinds has = record { kind_is = ap (λ (all : List SeenKind). slice_get all o) kinds ∙ is.kind_is; has_pairs = has }

  by_dict : (f : Option SeenKind → Plan) (result : Result Pairs) → DoesToDict (effect store answers (f (Some a_dict))) result → DoesToDict (effect store answers (kind_of o f)) result
  by_dict f result does = subst (λ (kind : Option SeenKind). DoesToDict (effect store answers (f kind)) result) (sym is.kind_is) does

  by_key : (k : Contents) (go : Contents → Plan) (result : Result Pairs) → key_fault deepest k ≡ None → DoesToDict (effect store answers (go k)) result → DoesToDict (effect store answers (with_key_of k go)) result
  by_key k go result usable does = subst (λ (p : Plan). DoesToDict (effect store answers p) result) (sym (key_goes k go usable)) does

  pub getitem_does : (k : Contents) → key_fault deepest k ≡ None → DoesToDict (effect store answers (getitem (object o ∷ (k ∷ [])))) (getitem_is pairs k)
  getitem_does k usable = by_dict (get_of o k) (getitem_is pairs k) (by_key k (λ key. read_entry o key (got key)) (getitem_is pairs k) usable (gets tested IsDict store answers o pairs is is.has_pairs dict_again k))

  pub setitem_does : (k item : Contents) → key_fault deepest k ≡ None → DoesToDict (effect store answers (setitem (object o ∷ (k ∷ (item ∷ []))))) (setitem_is pairs k item)
  setitem_does k item usable = by_dict (set_of o k item) (setitem_is pairs k item) (by_key k (λ key. read_entry o key (put_entry o item key)) (setitem_is pairs k item) usable (puts tested IsDict store answers o pairs is is.has_pairs dict_again k item))

  pub delitem_does : (k : Contents) → key_fault deepest k ≡ None → DoesToDict (effect store answers (delitem (object o ∷ (k ∷ [])))) (delitem_is pairs k)
  delitem_does k usable = by_dict (del_of o k) (delitem_is pairs k) (by_key k (λ key. read_entry o key (take_entry o key)) (delitem_is pairs k) usable (takes tested IsDict store answers o pairs is is.has_pairs dict_again k))

  same_here : (answer : Contents) → DoesToDict (effect store answers (writes (done answer))) (leaves answer pairs)
  same_here answer = stays (is_of o) IsDict store o (effect store answers (writes (done answer))) answer pairs refl refl refl is

  pub in_does : (k : Contents) → key_fault deepest k ≡ None → DoesToDict (effect store answers (in_plan (k ∷ (object o ∷ [])))) (in_is pairs k)
  in_does k usable = by_dict (contained_by o k gives_truth) (in_is pairs k) (by_key k (λ key. read_entry o key (λ entry. gives_truth (is_some entry))) (in_is pairs k) usable
      (by_entry tested IsDict store answers o pairs is is.has_pairs dict_again k (λ entry. gives_truth (is_some entry)) (in_is pairs k) (same_here (truth (is_some (pair_of k pairs))))))

  pub not_in_does : (k : Contents) → key_fault deepest k ≡ None → DoesToDict (effect store answers (not_in_plan (k ∷ (object o ∷ [])))) (not_in_is pairs k)
  not_in_does k usable = by_dict (contained_by o k (λ b. gives_truth (not b))) (not_in_is pairs k) (by_key k (λ key. read_entry o key (λ entry. gives_truth (not (is_some entry)))) (not_in_is pairs k) usable
      (by_entry tested IsDict store answers o pairs is is.has_pairs dict_again k (λ entry. gives_truth (not (is_some entry))) (not_in_is pairs k) (same_here (truth (not (is_some (pair_of k pairs)))))))

  pub get_does : (k instead : Contents) → key_fault deepest k ≡ None → DoesToDict (effect store answers (get_method (object o ∷ (k ∷ (instead ∷ []))))) (get_is pairs k instead)
  get_does k instead usable = by_dict (when_dict (value_or o k instead)) (get_is pairs k instead) (value_given k instead usable)
    where
      value_given : (key other : Contents) → key_fault deepest key ≡ None → DoesToDict (effect store answers (value_or o key other)) (get_is pairs key other)
      value_given key other usable = by_key key (λ form. read_entry o form (λ entry. writes (done (second_or other entry)))) (get_is pairs key other) usable
          (by_entry tested IsDict store answers o pairs is is.has_pairs dict_again key (λ entry. writes (done (second_or other entry))) (get_is pairs key other) (same_here (second_or other (pair_of key pairs))))

  pub get_none_does : (k : Contents) → key_fault deepest k ≡ None → DoesToDict (effect store answers (get_method (object o ∷ (k ∷ [])))) (get_is pairs k nothing)
  get_none_does k usable = by_dict (when_dict (value_or o k nothing)) (get_is pairs k nothing) (by_key k (λ form. read_entry o form (λ entry. writes (done (second_or nothing entry)))) (get_is pairs k nothing) usable
      (by_entry tested IsDict store answers o pairs is is.has_pairs dict_again k (λ entry. writes (done (second_or nothing entry))) (get_is pairs k nothing) (same_here (second_or nothing (pair_of k pairs)))))

  number_given : (i : ℤ) → DoesToDict (effect store answers (gives_int i)) (number_or_overflow i pairs)
  number_given i = by_test (is_int i)
    where
      by_test : (b : Bool) → DoesToDict (effect store answers (if b then gives (int i) else out_of_range)) (if b then leaves (int i) pairs else throws overflow (text (codes "integer out of range") ∷ []))
      by_test true = same_here (int i)
      by_test false = record { outcome_is = refl; made_is = refl; after_is = refl }

  many_keys : (rest : Pairs) → length (keys_in rest) ≡ length rest
  many_keys [] = refl
  many_keys (pair ∷ rest) = ap suc (many_keys rest)

  pub len_does : DoesToDict (effect store answers (len_plan (object o ∷ []))) (len_is pairs)
  len_does = by_dict (length_by o (λ n. gives_int (pos n))) (len_is pairs) (by_order tested IsDict store answers o pairs is is.has_pairs dict_again (λ keys. gives_int (pos (length keys))) (len_is pairs)
      (subst (λ (n : ℕ). DoesToDict (effect store answers (gives_int (pos n))) (len_is pairs)) (sym (many_keys pairs)) (number_given (pos (length pairs)))))

  truth_does : (go : Bool → Plan) (result : Result Pairs) → DoesToDict (effect store answers (go (not (length pairs == 0)))) result → DoesToDict (effect store answers (truth_of (object o) go)) result
  truth_does go result does = by_dict (truth_by o go) result (by_order tested IsDict store answers o pairs is is.has_pairs dict_again (λ keys. go (not (length keys == 0))) result
      (subst (λ (n : ℕ). DoesToDict (effect store answers (go (not (n == 0)))) result) (sym (many_keys pairs)) does))

  pub dict_truth : DoesToDict (effect store answers (truth_plan (object o ∷ []))) (truth_is pairs)
  dict_truth = truth_does gives_truth (truth_is pairs) (same_here (truth (not (length pairs == 0))))

  pub dict_not : DoesToDict (effect store answers (not_plan (object o ∷ []))) (not_is pairs)
  dict_not = truth_does (λ b. gives_truth (not b)) (not_is pairs) (by_test (length pairs == 0))
    where
      by_test : (b : Bool) → DoesToDict (effect store answers (gives_truth (not (not b)))) (leaves (truth b) pairs)
      by_test true = same_here (truth true)
      by_test false = same_here (truth false)

  pub dict_iter : DoesToDict (effect store answers (iter (object o ∷ []))) (iter_is pairs)
  dict_iter = by_dict (iter_of o) (iter_is pairs) (by_order tested IsDict store answers o pairs is is.has_pairs dict_again (λ keys. writes (done (int (pos (length keys))))) (iter_is pairs)
      (subst (λ (n : ℕ). DoesToDict (effect store answers (writes (done (int (pos n))))) (iter_is pairs)) (sym (many_keys pairs)) (same_here (int (pos (length pairs))))))

  pub dict_next : (turn begun : ℕ) → DoesToDict (effect store answers (next next_line (object o ∷ (int (pos turn) ∷ (int (pos begun) ∷ []))))) (next_is pairs turn begun)
  dict_next turn begun = by_dict (next_of next_line o turn (int (pos begun))) (next_is pairs turn begun) (by_order tested IsDict store answers o pairs is is.has_pairs dict_again
      (λ keys. if int_eq (pos begun) (pos (length keys)) then key_or_end (slice_get keys turn) else changed_size) (next_is pairs turn begun)
      (subst (λ (n : ℕ). DoesToDict (effect store answers (if int_eq (pos begun) (pos n) then key_or_end (slice_get (keys_in pairs) turn) else changed_size)) (next_is pairs turn begun)) (sym (many_keys pairs))
      (by_test (int_eq (pos begun) (pos (length pairs))))))
    where
      by_key_there : (found : Option Contents) → DoesToDict (effect store answers (key_or_end found)) (item_or_end found pairs)
      by_key_there (Some key) = same_here key
      by_key_there None = record { answer_is = refl; made_is = refl; after_is = refl }

      by_test : (b : Bool) → DoesToDict (effect store answers (if b then key_or_end (slice_get (keys_in pairs) turn) else changed_size))
          (if b then item_or_end (slice_get (keys_in pairs) turn) pairs else throws runtime_error (text (codes "dictionary changed size") ∷ []))
      by_test true = by_key_there (slice_get (keys_in pairs) turn)
      by_test false = record { outcome_is = refl; made_is = refl; after_is = refl }

  pub keys_does : DoesToDict (effect store answers (keys_method (object o ∷ []))) (keys_is pairs)
  keys_does = by_dict (when_dict (read_order o new_list)) (keys_is pairs) (by_order tested IsDict store answers o pairs is is.has_pairs dict_again new_list (keys_is pairs) (list_made store answers (keys_in pairs)))

  abbrev seconds : Pairs → List Contents
  seconds rest = map (λ (pair : Contents × Contents). pair.1) rest

  entries_read : (rest : Pairs) (go : List Contents → Plan) (s : RunStore) → AreFound pairs rest → Same (effect store answers (read_entries o (keys_in rest) go)) (effect store answers (go (seconds rest))) s s
  entries_read [] go s found = record { answer_is = refl; made_is = refl; after_is = refl }
  entries_read (pair ∷ rest) go s found =
      let more = λ (entry : Option (Contents × Contents)). effect store answers (read_entries o (keys_in rest) (λ items. go (second_or nothing entry ∷ items))) in
      behind_read (entry_at o (normal pair.0)) (more (entry_of store o pair.0)) (effect store answers (go (seconds (pair ∷ rest)))) s s
      (subst (λ (entry : Option (Contents × Contents)). Same (more entry) (effect store answers (go (seconds (pair ∷ rest)))) s s) (sym (is.has_pairs.entries_are pair.0 ∙ found.0))
      (entries_read rest (λ items. go (pair.1 ∷ items)) s found.1))

  listed : (go : List Contents → Plan) (new : List Contents) → effect store answers (go (seconds pairs)) ≡ effect store answers (new_list new) → DoesToDict (effect store answers (read_entries o (keys_in pairs) go)) (makes_list new)
  listed go new goes = does_same (is_of o) IsDict store o (effect store answers (read_entries o (keys_in pairs) go)) (effect store answers (go (seconds pairs))) (makes_list new) (λ s. entries_read pairs go s (each_found tested pairs is.has_pairs.apart))
      (subst (λ (e : Effect). DoesToDict e (makes_list new)) (sym goes) (list_made store answers new))

  pub values_does : DoesToDict (effect store answers (values_method (object o ∷ []))) (values_is pairs)
  values_does = by_dict (when_dict (read_order o (λ keys. read_entries o keys new_list))) (values_is pairs) (by_order tested IsDict store answers o pairs is is.has_pairs dict_again (λ keys. read_entries o keys new_list) (values_is pairs)
      (listed new_list (seconds pairs) refl))

  paired_are : (rest : Pairs) → paired (keys_in rest) (seconds rest) ≡ map (λ (pair : Contents × Contents). tuple (part pair.0 (part pair.1 no_parts))) rest
  paired_are [] = refl
  paired_are (pair ∷ rest) = ap (λ (more : List Contents). tuple (part pair.0 (part pair.1 no_parts)) ∷ more) (paired_are rest)

  pub items_does : DoesToDict (effect store answers (items_method (object o ∷ []))) (items_is pairs)
  items_does = by_dict (when_dict (read_order o (λ keys. read_entries o keys (λ items. new_list (paired keys items))))) (items_is pairs)
      (by_order tested IsDict store answers o pairs is is.has_pairs dict_again (λ keys. read_entries o keys (λ items. new_list (paired keys items))) (items_is pairs)
      (listed (λ items. new_list (paired (keys_in pairs) items)) (map (λ (pair : Contents × Contents). tuple (part pair.0 (part pair.1 no_parts))) pairs) (ap (λ (new : List Contents). effect store answers (new_list new)) (paired_are pairs))))

-- attributes of an instance
module _ (tested : ValuesTested) (store : RunStore) (answers : Answers) (of : Contents) (o : ℕ) (pairs : Pairs) (is : IsInstance of store o pairs) where
  abbrev DoesToInstance : Effect → Result Pairs → Type 0
  DoesToInstance e result = Does (IsInstance of) store o e result

  instance_again : (t : RunStore) (new : Pairs) → t.kinds ≡ store.kinds → HasPairs t o new → IsInstance of t o new
  instance_again t new kinds has = record { kind_is = ap (λ (all : List SeenKind). slice_get all o) kinds ∙ is.kind_is; has_pairs = has }

  by_instance : (f : Option SeenKind → Plan) (result : Result Pairs) → DoesToInstance (effect store answers (f (Some (an_instance of)))) result → DoesToInstance (effect store answers (kind_of o f)) result
  by_instance f result does = subst (λ (kind : Option SeenKind). DoesToInstance (effect store answers (f kind)) result) (sym is.kind_is) does

  pub setattr_does : (name : List ℕ) (item : Contents) → DoesToInstance (effect store answers (setattr name (object o) item)) (setattr_is pairs name item)
  setattr_does name item = by_instance (setattr_of_object name o item) (setattr_is pairs name item) (puts tested (IsInstance of) store answers o pairs is is.has_pairs instance_again (text name) item)

  pub getattr_does : (name : List ℕ) (pair : Contents × Contents) → pair_of (text name) pairs ≡ Some pair → DoesToInstance (effect store answers (getattr name (object o))) (getattr_is pairs pair)
  getattr_does name pair found = by_instance (getattr_of_object name o) (getattr_is pairs pair) (has_it tested (IsInstance of) store answers o pairs is is.has_pairs instance_again (text name) (class_attribute name no_method_value of) pair found)

  pub find_does : (name : List ℕ) (pair : Contents × Contents) → pair_of (text name) pairs ≡ Some pair → DoesToInstance (effect store answers (find name (object o))) (getattr_is pairs pair)
  find_does name pair found = by_instance (find_of_object name o) (getattr_is pairs pair) (has_it tested (IsInstance of) store answers o pairs is is.has_pairs instance_again (text name) (class_attribute name method_found of) pair found)
