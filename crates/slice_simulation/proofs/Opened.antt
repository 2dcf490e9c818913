-- Paths that are opened for writing: what an operation opens it sets too, or leaves as it is where it was read; and what it sets it opens.
use Rattle.std.proofs.Common.{◌≡◌, ℕ, Bool, true, false, ◌||◌, List, [], ◌∷◌, ◌++◌, map, length, slice_get, Option, Some, None, if◌then◌else◌, ◌⊎◌, inl, inr, refl, sym, ap, ◌∙◌}
use Rattle.std.specs.Str.{bytes_eq}
use Rattle.std.proofs.lemmas.Bool.{false≢true}
use Rattle.std.proofs.lemmas.Slice.Eq.{bytes_eq-Decides}
use Rattle.py_value.specs.Same.{same_location}
use Rattle.py_value.specs.Seen.{SeenLocation, SeenKind, var_at, len_at, item_at, order_at, file_at, offset_at, closed_at, method_at, base_at, reads}
use Rattle.py_model.specs.Effect.{Touch, accessed, looked, counted, printed, opened, noted, asked, fetched, Answers, Effect, effect, written, accesses_in, after, after_touches, after_touch, with_made, touching, lacking}
use Rattle.py_model.specs.Occurrences.{sets_at}
use Rattle.py_model.specs.Plan.{Writes, write, change, move, opens, notes, done, done_at_end, Plan, read_var, read_len, read_item, read_entry, read_order, read_file, read_offset, read_closed, read_method, read_base, kind_of, name_of, was_opened, ask, fetch, looks, counts, prints, writes, makes, raises, raises_again, ends, runs_away, Given, Found}
use Rattle.py_model.specs.Renaming.{Renaming, renamed_touch}
use Rattle.py_model.specs.Store.{RunStore, has_path, with_path, var_of, len_of, item_of, entry_of, order_of, file_of, offset_of, closed_of, method_of, base_of}
use Rattle.py_model.specs.Tidy.{IsNoFile, IsFileless, is_there, OpensFile, sets_it, leaves_it, IsTidyAfter}
use Rattle.slice_simulation.specs.Related.{IsThere}

same_path : (p q : List ℕ) → bytes_eq p q ≡ true → p ≡ q
same_path p q is = (bytes_eq-Decides p q).0 is

or_left : (a b : Bool) → a ≡ true → (a || b) ≡ true
or_left true b is = refl
or_left false b is = absurd (false≢true is)

or_right : (a b : Bool) → b ≡ true → (a || b) ≡ true
or_right true b is = refl
or_right false b is = is

or_parts : (a b : Bool) → (a || b) ≡ true → (a ≡ true) ⊎ (b ≡ true)
or_parts true b is = inl refl
or_parts false b is = inr is

-- a path among those opened, with one more
if_or : (b : Bool) (more less : Bool) → (less ≡ true → more ≡ true) → (if b then true else less) ≡ true → (if b then true else more) ≡ true
if_or true more less each is = refl
if_or false more less each is = each is

has_more : (p : List ℕ) (xs ys : List (List ℕ)) → has_path p xs ≡ true → has_path p (xs ++ ys) ≡ true
has_more p [] ys is = absurd (false≢true is)
has_more p (x ∷ xs) ys is = if_or (bytes_eq p x) (has_path p (xs ++ ys)) (has_path p xs) (has_more p xs ys) is

if_parts : (b less : Bool) → (if b then true else less) ≡ true → (b ≡ true) ⊎ (less ≡ true)
if_parts true less is = inl refl
if_parts false less is = inr is

if_left : (b less : Bool) → b ≡ true → (if b then true else less) ≡ true
if_left true less is = refl
if_left false less is = absurd (false≢true is)

if_right : (b less : Bool) → less ≡ true → (if b then true else less) ≡ true
if_right true less is = refl
if_right false less is = is

has_last : (p q : List ℕ) (xs : List (List ℕ)) → bytes_eq p q ≡ true → has_path p (xs ++ q ∷ []) ≡ true
has_last p q [] is = if_left (bytes_eq p q) false is
has_last p q (x ∷ xs) is = if_right (bytes_eq p x) (has_path p (xs ++ q ∷ [])) (has_last p q xs is)

has_from : (p q : List ℕ) (xs : List (List ℕ)) → has_path p (xs ++ q ∷ []) ≡ true → (has_path p xs ≡ true) ⊎ (bytes_eq p q ≡ true)
has_from p q [] is = by_parts (if_parts (bytes_eq p q) false is)
  where
    by_parts : (bytes_eq p q ≡ true) ⊎ (false ≡ true) → (false ≡ true) ⊎ (bytes_eq p q ≡ true)
    by_parts (inl same) = inr same
    by_parts (inr not) = inl not
has_from p q (x ∷ xs) is = by_parts (if_parts (bytes_eq p x) (has_path p (xs ++ q ∷ [])) is) (has_from p q xs)
  where
    by_rest : (has_path p xs ≡ true) ⊎ (bytes_eq p q ≡ true) → ((if bytes_eq p x then true else has_path p xs) ≡ true) ⊎ (bytes_eq p q ≡ true)
    by_rest (inl there) = inl (if_right (bytes_eq p x) (has_path p xs) there)
    by_rest (inr same) = inr same

    by_parts : (bytes_eq p x ≡ true) ⊎ (has_path p (xs ++ q ∷ []) ≡ true) → (has_path p (xs ++ q ∷ []) ≡ true → (has_path p xs ≡ true) ⊎ (bytes_eq p q ≡ true))
        → ((if bytes_eq p x then true else has_path p xs) ≡ true) ⊎ (bytes_eq p q ≡ true)
    by_parts (inl same) on = inl (if_left (bytes_eq p x) (has_path p xs) same)
    by_parts (inr there) on = by_rest (on there)

with_old : (p q : List ℕ) (xs : List (List ℕ)) → has_path p xs ≡ true → has_path p (with_path q xs) ≡ true
with_old p q xs is = by_test (has_path q xs)
  where
    by_test : (b : Bool) → has_path p (if b then xs else xs ++ q ∷ []) ≡ true
    by_test true = is
    by_test false = has_more p xs (q ∷ []) is

with_new : (p q : List ℕ) (xs : List (List ℕ)) → bytes_eq p q ≡ true → has_path p (with_path q xs) ≡ true
with_new p q xs is = by_test (has_path q xs) refl
  where
    by_test : (b : Bool) → has_path q xs ≡ b → has_path p (if b then xs else xs ++ q ∷ []) ≡ true
    by_test true there = ap (λ path. has_path path xs) (same_path p q is) ∙ there
    by_test false there = has_last p q xs is

with_from : (p q : List ℕ) (xs : List (List ℕ)) → has_path p (with_path q xs) ≡ true → (has_path p xs ≡ true) ⊎ (bytes_eq p q ≡ true)
with_from p q xs is = by_test (has_path q xs) is
  where
    by_test : (b : Bool) → has_path p (if b then xs else xs ++ q ∷ []) ≡ true → (has_path p xs ≡ true) ⊎ (bytes_eq p q ≡ true)
    by_test true is = inl is
    by_test false is = has_from p q xs is

-- whether touches open a path
abbrev pub opens_at : List ℕ → List Touch → Bool
opens_at path [] = false
opens_at path (opened one ∷ touches) = bytes_eq path one || opens_at path touches
opens_at path (touch ∷ touches) = opens_at path touches

module _ (path : List ℕ) where
  abbrev pub is_open : RunStore → Bool
  is_open store = has_path path store.opened

  touches_keep : (touches : List Touch) (store : RunStore) → is_open store ≡ true → is_open (after_touches touches store) ≡ true
  touches_keep [] store is = is
  touches_keep (accessed access ∷ touches) store is = touches_keep touches (after_touch (accessed access) store) is
  touches_keep (looked n ∷ touches) store is = touches_keep touches store is
  touches_keep (counted n ∷ touches) store is = touches_keep touches store is
  touches_keep (printed bytes ∷ touches) store is = touches_keep touches (after_touch (printed bytes) store) is
  touches_keep (opened one ∷ touches) store is = touches_keep touches (after_touch (opened one) store) (with_old path one store.opened is)
  touches_keep (noted place name ∷ touches) store is = touches_keep touches (after_touch (noted place name) store) is
  touches_keep (asked what ∷ touches) store is = touches_keep touches store is
  touches_keep (fetched one ∷ touches) store is = touches_keep touches store is

  touches_open : (touches : List Touch) (store : RunStore) → opens_at path touches ≡ true → is_open (after_touches touches store) ≡ true
  touches_open [] store is = absurd (false≢true is)
  touches_open (accessed access ∷ touches) store is = touches_open touches (after_touch (accessed access) store) is
  touches_open (looked n ∷ touches) store is = touches_open touches store is
  touches_open (counted n ∷ touches) store is = touches_open touches store is
  touches_open (printed bytes ∷ touches) store is = touches_open touches (after_touch (printed bytes) store) is
  touches_open (opened one ∷ touches) store is = by_parts (or_parts (bytes_eq path one) (opens_at path touches) is) (touches_open touches (after_touch (opened one) store))
    where
      by_parts : (bytes_eq path one ≡ true) ⊎ (opens_at path touches ≡ true) → (opens_at path touches ≡ true → is_open (after_touches touches (after_touch (opened one) store)) ≡ true)
          → is_open (after_touches touches (after_touch (opened one) store)) ≡ true
      by_parts (inl same) on = touches_keep touches (after_touch (opened one) store) (with_new path one store.opened same)
      by_parts (inr later) on = on later
  touches_open (noted place name ∷ touches) store is = touches_open touches (after_touch (noted place name) store) is
  touches_open (asked what ∷ touches) store is = touches_open touches store is
  touches_open (fetched one ∷ touches) store is = touches_open touches store is

  touches_from : (touches : List Touch) (store : RunStore) → is_open (after_touches touches store) ≡ true → (is_open store ≡ true) ⊎ (opens_at path touches ≡ true)
  touches_from [] store is = inl is
  touches_from (accessed access ∷ touches) store is = touches_from touches (after_touch (accessed access) store) is
  touches_from (looked n ∷ touches) store is = touches_from touches store is
  touches_from (counted n ∷ touches) store is = touches_from touches store is
  touches_from (printed bytes ∷ touches) store is = touches_from touches (after_touch (printed bytes) store) is
  touches_from (opened one ∷ touches) store is = by_rest (touches_from touches (after_touch (opened one) store) is)
    where
      by_first : (is_open store ≡ true) ⊎ (bytes_eq path one ≡ true) → (is_open store ≡ true) ⊎ ((bytes_eq path one || opens_at path touches) ≡ true)
      by_first (inl there) = inl there
      by_first (inr same) = inr (or_left (bytes_eq path one) (opens_at path touches) same)

      by_rest : (has_path path (with_path one store.opened) ≡ true) ⊎ (opens_at path touches ≡ true) → (is_open store ≡ true) ⊎ ((bytes_eq path one || opens_at path touches) ≡ true)
      by_rest (inl there) = by_first (with_from path one store.opened there)
      by_rest (inr later) = inr (or_right (bytes_eq path one) (opens_at path touches) later)
  touches_from (noted place name ∷ touches) store is = touches_from touches (after_touch (noted place name) store) is
  touches_from (asked what ∷ touches) store is = touches_from touches store is
  touches_from (fetched one ∷ touches) store is = touches_from touches store is

  made_open : (made : Option SeenKind) (store : RunStore) → is_open (with_made made store) ≡ is_open store
  made_open None store = refl
  made_open (Some kind) store = refl

  -- after an effect: what was open before, and what it opens
  pub open_keeps : (e : Effect) (store : RunStore) → is_open store ≡ true → is_open (after e store) ≡ true
  open_keeps e store is = touches_keep e.touches (with_made e.made store) (made_open e.made store ∙ is)

  pub open_now : (e : Effect) (store : RunStore) → opens_at path e.touches ≡ true → is_open (after e store) ≡ true
  open_now e store is = touches_open e.touches (with_made e.made store) is

  pub open_from : (e : Effect) (store : RunStore) → is_open (after e store) ≡ true → (is_open store ≡ true) ⊎ (opens_at path e.touches ≡ true)
  open_from e store is = by_made (touches_from e.touches (with_made e.made store) is)
    where
      by_made : (is_open (with_made e.made store) ≡ true) ⊎ (opens_at path e.touches ≡ true) → (is_open store ≡ true) ⊎ (opens_at path e.touches ≡ true)
      by_made (inl there) = inl (sym (made_open e.made store) ∙ there)
      by_made (inr later) = inr later

  pub same_opens : (r : Renaming) (touches : List Touch) → opens_at path (map (renamed_touch r) touches) ≡ opens_at path touches
  same_opens r [] = refl
  same_opens r (accessed access ∷ touches) = same_opens r touches
  same_opens r (looked n ∷ touches) = same_opens r touches
  same_opens r (counted n ∷ touches) = same_opens r touches
  same_opens r (printed bytes ∷ touches) = same_opens r touches
  same_opens r (opened one ∷ touches) = ap (λ b. bytes_eq path one || b) (same_opens r touches)
  same_opens r (noted place name ∷ touches) = same_opens r touches
  same_opens r (asked what ∷ touches) = same_opens r touches
  same_opens r (fetched one ∷ touches) = same_opens r touches

  record OpensNone (touches : List Touch) : Type 0 where
    pub opens_none : opens_at path touches ≡ false
    pub sets_none : sets_at (file_at path) (accesses_in touches) ≡ false

  no_file : (l : SeenLocation) → IsNoFile l → same_location l (file_at path) ≡ false
  no_file (file_at one) not = absurd not
  no_file l not = refl

  module _ (store : RunStore) where
    fileless : (made : Option SeenKind) (all : Writes) → IsFileless all → OpensNone (written store made all).touches
    fileless made (write l content rest) none =
        let more = fileless made rest none.1 in
        record { opens_none = more.opens_none; sets_none = ap (λ b. b || sets_at (file_at path) (accesses_in (written store made rest).touches)) (no_file l none.0) ∙ more.sets_none }
    fileless made (change l how rest) none = let more = fileless made rest none in record { opens_none = more.opens_none; sets_none = more.sets_none }
    fileless made (move o from onto rest) none = let more = fileless made rest none in record { opens_none = more.opens_none; sets_none = more.sets_none }
    fileless made (opens one rest) none = absurd none
    fileless made (notes place name rest) none = let more = fileless made rest none in record { opens_none = more.opens_none; sets_none = more.sets_none }
    fileless made (done answer) none = record { opens_none = refl; sets_none = refl }
    fileless made done_at_end none = record { opens_none = refl; sets_none = refl }

    other_way : (p q : List ℕ) (a b : Bool) → a ≡ false → b ≡ false → (bytes_eq p q || a) ≡ true → (bytes_eq q p || b) ≡ true
    other_way p q a b none another is = by_parts (or_parts (bytes_eq p q) a is)
      where
        by_parts : (bytes_eq p q ≡ true) ⊎ (a ≡ true) → (bytes_eq q p || b) ≡ true
        by_parts (inl same) = or_left (bytes_eq q p) b ((bytes_eq-Decides q p).1 (sym (same_path p q same)))
        by_parts (inr there) = absurd (false≢true (sym none ∙ there))

    module _ (answers : Answers) where
      -- why a path is opened that is not set
      abbrev pub IsLeft : Option (List ℕ) → Type 0
      IsLeft known = (known ≡ Some path) ⊎ ((has_path path store.opened ≡ true) ⊎ IsThere answers.found path)

      -- What is opened is set too, or left as it is; and what is set is opened.
      pub record OpensTidily (known : Option (List ℕ)) (e : Effect) : Type 0 where
        pub sets_it_too : opens_at path e.touches ≡ true → (sets_at (file_at path) (accesses_in e.touches) ≡ true) ⊎ IsLeft known
        pub opens_it_too : sets_at (file_at path) (accesses_in e.touches) ≡ true → opens_at path e.touches ≡ true

      no_more : (known : Option (List ℕ)) (e : Effect) → OpensNone e.touches → OpensTidily known e
      no_more known e none = record { sets_it_too = λ is. absurd (false≢true (sym none.opens_none ∙ is)); opens_it_too = λ is. absurd (false≢true (sym none.sets_none ∙ is)) }

      opening : (known : Option (List ℕ)) (made : Option SeenKind) (all : Writes) → OpensFile known all → OpensTidily known (written store made all)
      opening known made _ (sets_it {path = one} {rest = rest} none) =
          let more = fileless made rest none in
          record {
            sets_it_too = λ is. inl (other_way path one (opens_at path (written store made rest).touches) (sets_at (file_at path) (accesses_in (written store made rest).touches)) more.opens_none more.sets_none is);
            opens_it_too = λ is. other_way one path (sets_at (file_at path) (accesses_in (written store made rest).touches)) (opens_at path (written store made rest).touches) more.sets_none more.opens_none is;
          }
      opening known made _ (leaves_it {path = one} {rest = rest} known_is none) =
          let more = fileless made rest none in
          record {
            sets_it_too = λ is. inr (inl (by_parts more.opens_none (or_parts (bytes_eq path one) (opens_at path (written store made rest).touches) is)));
            opens_it_too = λ is. absurd (false≢true (sym more.sets_none ∙ is));
          }
        where
          by_parts : {b : Bool} → b ≡ false → (bytes_eq path one ≡ true) ⊎ (b ≡ true) → known ≡ Some path
          by_parts none (inl same) = known_is ∙ ap (λ p. Some p) (sym (same_path path one same))
          by_parts none (inr there) = absurd (false≢true (sym none ∙ there))

      again : {e : Effect} (known : Option (List ℕ)) (touch : Touch) → opens_at path (touch ∷ e.touches) ≡ opens_at path e.touches
          → sets_at (file_at path) (accesses_in (touch ∷ e.touches)) ≡ sets_at (file_at path) (accesses_in e.touches) → OpensTidily known e → OpensTidily known (touching touch e)
      again {e} known touch opens_same sets_same tidy = record {
        sets_it_too = λ is. by_sets (tidy.sets_it_too (sym opens_same ∙ is));
        opens_it_too = λ is. opens_same ∙ tidy.opens_it_too (sym sets_same ∙ is);
      }
        where
          by_sets : (sets_at (file_at path) (accesses_in e.touches) ≡ true) ⊎ IsLeft known → (sets_at (file_at path) (accesses_in (touch ∷ e.touches)) ≡ true) ⊎ IsLeft known
          by_sets (inl is) = inl (sets_same ∙ is)
          by_sets (inr left) = inr left

      -- what is known of a path says it of no other
      other_known : (known next : Option (List ℕ)) (e : Effect) → (next ≡ Some path → IsLeft known) → OpensTidily next e → OpensTidily known e
      other_known known next e each tidy = record { sets_it_too = λ is. by_left (tidy.sets_it_too is); opens_it_too = tidy.opens_it_too }
        where
          by_left : (sets_at (file_at path) (accesses_in e.touches) ≡ true) ⊎ IsLeft next → (sets_at (file_at path) (accesses_in e.touches) ≡ true) ⊎ IsLeft known
          by_left (inl is) = inl is
          by_left (inr (inl is)) = inr (each is)
          by_left (inr (inr left)) = inr (inr left)

      some_path : (one : List ℕ) → Some one ≡ Some path → one ≡ path
      some_path one is = cc

      none_known : (known : Option (List ℕ)) → None ≡ Some path → IsLeft known
      none_known known is = absurd cc

      found_known : (known : Option (List ℕ)) (one : List ℕ) (found : Found) → answers.found one ≡ Some found → (if is_there found then Some one else None) ≡ Some path → IsLeft known
      found_known known one found is next = by_test (is_there found) refl next
        where
          by_test : (b : Bool) → is_there found ≡ b → (if b then Some one else None) ≡ Some path → IsLeft known
          by_test true there next = inr (inr (record { what = found; found_is = ap answers.found (sym (some_path one next)) ∙ is; there = there }))
          by_test false not next = none_known known next

      pub tidily : (known : Option (List ℕ)) (p : Plan) → IsTidyAfter known p → OpensTidily known (effect store answers p)
      tidily known (read_var scope name go) tidy = again known (accessed (reads (var_at scope name))) refl refl (tidily known (go (var_of store scope name)) (tidy (var_of store scope name)))
      tidily known (read_len o go) tidy = again known (accessed (reads (len_at o))) refl refl (tidily known (go (len_of store o)) (tidy (len_of store o)))
      tidily known (read_item o i go) tidy = again known (accessed (reads (item_at o i))) refl refl (tidily known (go (item_of store o i)) (tidy (item_of store o i)))
      tidily known (read_entry o key go) tidy = again known _ refl refl (tidily known (go (entry_of store o key)) (tidy (entry_of store o key)))
      tidily known (read_order o go) tidy = again known (accessed (reads (order_at o))) refl refl (tidily known (go (order_of store o)) (tidy (order_of store o)))
      tidily known (read_file one go) tidy = again known (accessed (reads (file_at one))) refl refl (tidily known (go (file_of store one)) (tidy (file_of store one)))
      tidily known (read_offset o go) tidy = again known (accessed (reads (offset_at o))) refl refl (tidily known (go (offset_of store o)) (tidy (offset_of store o)))
      tidily known (read_closed o go) tidy = again known (accessed (reads (closed_at o))) refl refl (tidily known (go (closed_of store o)) (tidy (closed_of store o)))
      tidily known (read_method place name go) tidy = again known (accessed (reads (method_at place name))) refl refl (tidily known (go (method_of store place name)) (tidy (method_of store place name)))
      tidily known (read_base place go) tidy = again known (accessed (reads (base_at place))) refl refl (tidily known (go (base_of store place)) (tidy (base_of store place)))
      tidily known (kind_of o go) tidy = tidily known (go (slice_get store.kinds o)) (tidy (slice_get store.kinds o))
      tidily known (name_of place go) tidy = tidily known (go (store.names place)) (tidy (store.names place))
      tidily known (was_opened one go) tidy = by_test (has_path one store.opened) refl (tidily (Some one) (go true) tidy.1) (tidily None (go false) tidy.2)
        where
          by_test : (b : Bool) → has_path one store.opened ≡ b → OpensTidily (Some one) (effect store answers (go true)) → OpensTidily None (effect store answers (go false)) → OpensTidily known (effect store answers (go b))
          by_test true was opened_so other_so = other_known known (Some one) (effect store answers (go true)) (λ is. inr (inl (ap (λ p. has_path p store.opened) (sym (some_path one is)) ∙ was))) opened_so
          by_test false was opened_so other_so = other_known known None (effect store answers (go false)) (none_known known) other_so
      tidily known (ask what go) tidy = again known (asked what) refl refl (by_given (answers.given what) (λ given. tidily known (go given) (tidy given)))
        where
          by_given : (given : Option Given) → ((v : Given) → OpensTidily known (effect store answers (go v))) → OpensTidily known (elim given [ None ↦ lacking store | Some v ↦ effect store answers (go v) ])
          by_given None each = no_more known (lacking store) (record { opens_none = refl; sets_none = refl })
          by_given (Some v) each = each v
      tidily known (fetch one go) tidy = again known (fetched one) refl refl (by_found (answers.found one) refl (λ found. tidily (if is_there found then Some one else None) (go found) (tidy found)))
        where
          by_found : (found : Option Found) → answers.found one ≡ found → ((v : Found) → OpensTidily (if is_there v then Some one else None) (effect store answers (go v))) → OpensTidily known (elim found [ None ↦ lacking store | Some v ↦ effect store answers (go v) ])
          by_found None is each = no_more known (lacking store) (record { opens_none = refl; sets_none = refl })
          by_found (Some v) is each = other_known known (if is_there v then Some one else None) (effect store answers (go v)) (found_known known one v is) (each v)
      tidily known (looks n rest) tidy = again known (looked n) refl refl (tidily known rest tidy)
      tidily known (counts n rest) tidy = again known (counted n) refl refl (tidily known rest tidy)
      tidily known (prints bytes rest) tidy = again known (printed bytes) refl refl (tidily known rest tidy)
      tidily known (writes all) tidy = no_more known (written store None all) (fileless None all tidy)
      tidily known (makes kind all) tidy = by_case (tidy (length store.kinds))
        where
          by_case : IsFileless (all (length store.kinds)) ⊎ OpensFile known (all (length store.kinds)) → OpensTidily known (written store (Some kind) (all (length store.kinds)))
          by_case (inl none) = no_more known (written store (Some kind) (all (length store.kinds))) (fileless (Some kind) (all (length store.kinds)) none)
          by_case (inr opens_one) = opening known (Some kind) (all (length store.kinds)) opens_one
      tidily known (raises of items) tidy = record { sets_it_too = λ is. absurd (false≢true is); opens_it_too = λ is. absurd (false≢true is) }
      tidily known (raises_again o) tidy = record { sets_it_too = λ is. absurd (false≢true is); opens_it_too = λ is. absurd (false≢true is) }
      tidily known ends tidy = record { sets_it_too = λ is. absurd (false≢true is); opens_it_too = λ is. absurd (false≢true is) }
      tidily known runs_away tidy = record { sets_it_too = λ is. absurd (false≢true is); opens_it_too = λ is. absurd (false≢true is) }
