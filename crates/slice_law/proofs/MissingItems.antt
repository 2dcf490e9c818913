-- The place of an item that is missing has no reach.
use Rattle.std.proofs.Common.{◌≡◌, ℕ, Bool, true, false, ◌||◌, List, [], ◌∷◌, length, Option, Some, None, is_some, if◌then◌else◌, refl, sym, ap, ◌∙◌}
use Rattle.std.proofs.lemmas.Bool.{false≢true}
use Rattle.py_value.specs.Changes.{changed, after_accesses}
use Rattle.py_value.specs.Contents.{Contents}
use Rattle.py_value.specs.Same.{same_location, put}
use Rattle.py_value.specs.Seen.{SeenLocation, SeenContent, SeenAccess, var_at, len_at, item_at, entry_at, order_at, file_at, offset_at, closed_at, method_at, base_at, var_is, len_is, item_is, entry_is, order_is, file_is, offset_is, closed_is, method_is, base_is, reads, sets, updates}
use Rattle.py_model.specs.History.{held, accesses_by}
use Rattle.py_model.specs.Moment.{Moment}
use Rattle.py_model.specs.Occurrences.{sets_at, updates_at, reach}
use Rattle.py_model.specs.Store.{RunStore, empty, item_of}
use Rattle.slice_law.specs.Closed.{store_after}
use Rattle.slice_law.specs.SetItems.{IsNoItem, SetsValue, SetItems, MomentsSetItems}

abbrev holding : Option SeenContent → RunStore
holding content = record empty { at = λ l. content }

abbrev is_there : Option SeenContent → Bool
is_there content = is_some (item_of (holding content) 0 0)

module _ (o i : ℕ) where
  other_place : (m : SeenLocation) → IsNoItem m → same_location m (item_at o i) ≡ false
  other_place (item_at p j) other = absurd other
  other_place (var_at scope name) other = refl
  other_place (len_at p) other = refl
  other_place (entry_at p key) other = refl
  other_place (order_at p) other = refl
  other_place (file_at path) other = refl
  other_place (offset_at p) other = refl
  other_place (closed_at p) other = refl
  other_place (method_at place name) other = refl
  other_place (base_at place) other = refl

  set_there : (m : SeenLocation) (content : SeenContent) → SetsValue m content → same_location m (item_at o i) ≡ true → is_there (Some content) ≡ true
  set_there m (item_is v) so same = refl
  set_there m (var_is v) so same = absurd (false≢true (sym (other_place m so) ∙ same))
  set_there m (len_is n) so same = absurd (false≢true (sym (other_place m so) ∙ same))
  set_there m (entry_is entry) so same = absurd (false≢true (sym (other_place m so) ∙ same))
  set_there m (order_is keys) so same = absurd (false≢true (sym (other_place m so) ∙ same))
  set_there m (file_is bytes) so same = absurd (false≢true (sym (other_place m so) ∙ same))
  set_there m (offset_is n) so same = absurd (false≢true (sym (other_place m so) ∙ same))
  set_there m (closed_is b) so same = absurd (false≢true (sym (other_place m so) ∙ same))
  set_there m (method_is at) so same = absurd (false≢true (sym (other_place m so) ∙ same))
  set_there m (base_is v) so same = absurd (false≢true (sym (other_place m so) ∙ same))

  -- what is there stays there
  stays : (accesses : List SeenAccess) (map : SeenLocation → Option SeenContent) → SetItems accesses → is_there (map (item_at o i)) ≡ true → is_there (after_accesses accesses map (item_at o i)) ≡ true
  stays [] map so is = is
  stays (reads m ∷ accesses) map so is = stays accesses map so is
  stays (sets m content ∷ accesses) map so is = stays accesses (put m content map) so.1 (by (same_location m (item_at o i)) refl)
    where
      by : (b : Bool) → same_location m (item_at o i) ≡ b → is_there (if b then Some content else map (item_at o i)) ≡ true
      by true same = set_there m content so.0 same
      by false same = is
  stays (updates m change ∷ accesses) map so is = stays accesses (put m (changed change (map m)) map) so.1
      (ap (λ b. is_there (if b then Some (changed change (map m)) else map (item_at o i))) (other_place m so.0) ∙ is)

  -- what is set is there, and what is not is as before
  now_there : (accesses : List SeenAccess) (map : SeenLocation → Option SeenContent) → SetItems accesses → sets_at (item_at o i) accesses ≡ true → is_there (after_accesses accesses map (item_at o i)) ≡ true
  now_there [] map so set = absurd (false≢true set)
  now_there (reads m ∷ accesses) map so set = now_there accesses map so set
  now_there (sets m content ∷ accesses) map so set = by (same_location m (item_at o i)) refl set (λ later. now_there accesses (put m content map) so.1 later)
    where
      by : (b : Bool) → same_location m (item_at o i) ≡ b → (b || sets_at (item_at o i) accesses) ≡ true
          → (sets_at (item_at o i) accesses ≡ true → is_there (after_accesses accesses (put m content map) (item_at o i)) ≡ true) → is_there (after_accesses accesses (put m content map) (item_at o i)) ≡ true
      by true same set later = stays accesses (put m content map) so.1 (ap (λ b. is_there (if b then Some content else map (item_at o i))) same ∙ set_there m content so.0 same)
      by false same set later = later set
  now_there (updates m change ∷ accesses) map so set = now_there accesses (put m (changed change (map m)) map) so.1 set

  untouched : (accesses : List SeenAccess) (map : SeenLocation → Option SeenContent) → SetItems accesses → sets_at (item_at o i) accesses ≡ false
      → (after_accesses accesses map (item_at o i) ≡ map (item_at o i)) × (updates_at (item_at o i) accesses ≡ false)
  untouched [] map so unset = (refl, refl)
  untouched (reads m ∷ accesses) map so unset = untouched accesses map so unset
  untouched (sets m content ∷ accesses) map so unset = by (same_location m (item_at o i)) refl unset (λ later. untouched accesses (put m content map) so.1 later)
    where
      by : (b : Bool) → same_location m (item_at o i) ≡ b → (b || sets_at (item_at o i) accesses) ≡ false
          → (sets_at (item_at o i) accesses ≡ false → (after_accesses accesses (put m content map) (item_at o i) ≡ put m content map (item_at o i)) × (updates_at (item_at o i) accesses ≡ false))
          → (after_accesses accesses (put m content map) (item_at o i) ≡ map (item_at o i)) × (updates_at (item_at o i) accesses ≡ false)
      by true same unset later = absurd (false≢true (sym unset))
      by false same unset later = let more = later unset in (more.0 ∙ ap (λ b. if b then Some content else map (item_at o i)) same, more.1)
  untouched (updates m change ∷ accesses) map so unset =
      let more = untouched accesses (put m (changed change (map m)) map) so.1 unset in (
        more.0 ∙ ap (λ b. if b then Some (changed change (map m)) else map (item_at o i)) (other_place m so.0),
        ap (λ b. b || updates_at (item_at o i) accesses) (other_place m so.0) ∙ more.1,
      )

  module _ (opening : SeenLocation → Option SeenContent) where
    missing_unreached : (told : List Moment) → MomentsSetItems told → is_there (held opening told (item_at o i)) ≡ false → reach (item_at o i) told ≡ []
    missing_unreached [] so missing = refl
    missing_unreached (moment ∷ before) so missing = by (sets_at (item_at o i) (accesses_by moment)) refl (λ earlier. missing_unreached before so.1 earlier)
      where
        times : Bool → Bool → List ℕ
        times a b = if a then length before ∷ [] else if b then length before ∷ reach (item_at o i) before else reach (item_at o i) before

        by : (b : Bool) → sets_at (item_at o i) (accesses_by moment) ≡ b → (is_there (held opening before (item_at o i)) ≡ false → reach (item_at o i) before ≡ [])
            → times b (updates_at (item_at o i) (accesses_by moment)) ≡ []
        by true set on = absurd (false≢true (sym missing ∙ now_there (accesses_by moment) (held opening before) so.0 set))
        by false unset on =
            let same = untouched (accesses_by moment) (held opening before) so.0 unset in
            ap (λ b. times false b) same.1 ∙ on (ap is_there (sym same.0) ∙ missing)

pub unreached : (opening : RunStore) (told : List Moment) (o i : ℕ) → MomentsSetItems told → item_of (store_after opening told) o i ≡ None → reach (item_at o i) told ≡ []
unreached opening told o i so none = missing_unreached o i opening.at told so (ap (λ (v : Option Contents). is_some v) none)
