-- Numbers in range: lists, and what is set at a location whose texts and tuples were named anew.
use Rattle.std.proofs.Common.{◌≡◌, Bool, true, false, List, [], ◌∷◌, ◌++◌, refl, sym, subst}
use Rattle.std.proofs.lemmas.Bool.{false≢true}
use Rattle.py_value.specs.declared.access.Change.{Change}
use Rattle.py_value.specs.declared.access.Change.TheVariants.{Insert, Delete, Append}
use Rattle.py_value.specs.declared.access.Content.{Content}
use Rattle.py_value.specs.declared.access.Content.TheVariants.{Var as VarContent, Len as LenContent, Item as ItemContent, Entry as EntryContent, Order as OrderContent, File as FileContent, Offset as OffsetContent, Closed as ClosedContent, Method as MethodContent, Base as BaseContent}
use Rattle.py_value.specs.declared.access.Location.{Location}
use Rattle.py_value.specs.declared.access.Location.TheVariants.{Var, Len, Item, Entry, Order, File, Offset, Closed, Method, Base}
use Rattle.py_value.specs.Named.{fits, fits_change}
use Rattle.py_value.specs.Seen.{SeenLocation, SeenContent, SeenChange, var_at, len_at, item_at, entry_at, order_at, file_at, offset_at, closed_at, method_at, base_at, var_is, len_is, item_is, entry_is, order_is, file_is, offset_is, closed_is, method_is, base_is, key_inserted, key_deleted, bytes_appended, location_seen, content_seen, change_seen}
use Rattle.py_value.specs.Values.{ValuesView}
use Rattle.row_words.specs.Fits.{Each}

pub each_more : {A : Type 0} (P : A → Type 0) (xs : List A) (x : A) → Each P xs → P x → Each P (xs ++ x ∷ [])
each_more P [] x all one = (one, tt)
each_more P (first ∷ xs) x all one = (all.0, each_more P xs x all.1 one)

pub each_both : {A : Type 0} (P : A → Type 0) (xs ys : List A) → Each P xs → Each P ys → Each P (xs ++ ys)
each_both P [] ys all more = more
each_both P (first ∷ xs) ys all more = (all.0, each_both P xs ys all.1 more)

-- whether a content, and a change, is of the location's own kind is told by what they are without numbers
abbrev seen_fits : SeenLocation → SeenContent → Bool
seen_fits (var_at scope name) (var_is v) = true
seen_fits (len_at o) (len_is n) = true
seen_fits (item_at o i) (item_is v) = true
seen_fits (entry_at o key) (entry_is entry) = true
seen_fits (order_at o) (order_is keys) = true
seen_fits (file_at path) (file_is bytes) = true
seen_fits (offset_at o) (offset_is n) = true
seen_fits (closed_at o) (closed_is b) = true
seen_fits (method_at place name) (method_is at) = true
seen_fits (base_at place) (base_is v) = true
seen_fits l content = false

abbrev seen_fits_change : SeenLocation → SeenChange → Bool
seen_fits_change (order_at o) (key_inserted v) = true
seen_fits_change (order_at o) (key_deleted v) = true
seen_fits_change (file_at path) (bytes_appended bytes) = true
seen_fits_change l change = false

fits_seen : (view : ValuesView) (l : Location) (c : Content) → fits l c ≡ true → seen_fits (location_seen view l) (content_seen view c) ≡ true
fits_seen view (Var scope name) (VarContent v) is = refl
fits_seen view (Len o) (LenContent n) is = refl
fits_seen view (Item o i) (ItemContent v) is = refl
fits_seen view (Entry o key) (EntryContent entry) is = refl
fits_seen view (Order o) (OrderContent keys) is = refl
fits_seen view (File path) (FileContent bytes) is = refl
fits_seen view (Offset o) (OffsetContent n) is = refl
fits_seen view (Closed o) (ClosedContent b) is = refl
fits_seen view (Method place name) (MethodContent at) is = refl
fits_seen view (Base place) (BaseContent v) is = refl
fits_seen view l c is = absurd (false≢true is)

seen_fits_back : (view : ValuesView) (l : Location) (c : Content) → seen_fits (location_seen view l) (content_seen view c) ≡ true → fits l c ≡ true
seen_fits_back view (Var scope name) (VarContent v) is = refl
seen_fits_back view (Len o) (LenContent n) is = refl
seen_fits_back view (Item o i) (ItemContent v) is = refl
seen_fits_back view (Entry o key) (EntryContent entry) is = refl
seen_fits_back view (Order o) (OrderContent keys) is = refl
seen_fits_back view (File path) (FileContent bytes) is = refl
seen_fits_back view (Offset o) (OffsetContent n) is = refl
seen_fits_back view (Closed o) (ClosedContent b) is = refl
seen_fits_back view (Method place name) (MethodContent at) is = refl
seen_fits_back view (Base place) (BaseContent v) is = refl
seen_fits_back view l c is = absurd (false≢true is)

change_fits_seen : (view : ValuesView) (l : Location) (c : Change) → fits_change l c ≡ true → seen_fits_change (location_seen view l) (change_seen view c) ≡ true
change_fits_seen view (Order o) (Insert v) is = refl
change_fits_seen view (Order o) (Delete v) is = refl
change_fits_seen view (File path) (Append bytes) is = refl
change_fits_seen view l c is = absurd (false≢true is)

change_fits_back : (view : ValuesView) (l : Location) (c : Change) → seen_fits_change (location_seen view l) (change_seen view c) ≡ true → fits_change l c ≡ true
change_fits_back view (Order o) (Insert v) is = refl
change_fits_back view (Order o) (Delete v) is = refl
change_fits_back view (File path) (Append bytes) is = refl
change_fits_back view l c is = absurd (false≢true is)

pub fits_stays : (old new : ValuesView) (l m : Location) (c d : Content) → location_seen new m ≡ location_seen old l → content_seen new d ≡ content_seen old c → fits l c ≡ true → fits m d ≡ true
fits_stays old new l m c d place content is =
    seen_fits_back new m d (subst (λ p. seen_fits p (content_seen new d) ≡ true) (sym place) (subst (λ x. seen_fits (location_seen old l) x ≡ true) (sym content) (fits_seen old l c is)))

pub change_fits_stays : (old new : ValuesView) (l m : Location) (c d : Change) → location_seen new m ≡ location_seen old l → change_seen new d ≡ change_seen old c → fits_change l c ≡ true → fits_change m d ≡ true
change_fits_stays old new l m c d place change is =
    change_fits_back new m d (subst (λ p. seen_fits_change p (change_seen new d) ≡ true) (sym place) (subst (λ x. seen_fits_change (location_seen old l) x ≡ true) (sym change) (change_fits_seen old l c is)))
