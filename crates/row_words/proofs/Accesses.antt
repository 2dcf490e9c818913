-- That locations, contents, changes and accesses are read exactly.
use Rattle.std.proofs.Common.{◌≡◌, ℕ, Bool, true, false, List, [], ◌∷◌, ◌++◌, Option, Some, None, refl, ap, ◌∙◌}
use Rattle.std.proofs.lemmas.Bool.{false≢true}
use Rattle.std.specs.Prelude.{⊤}
use Rattle.py_value.specs.declared.access.Access.{Access}
use Rattle.py_value.specs.declared.access.Access.TheVariants.{Read, Set, Update}
use Rattle.py_value.specs.declared.access.Change.{Change}
use Rattle.py_value.specs.declared.access.Change.TheVariants.{Insert, Delete, Append}
use Rattle.py_value.specs.declared.access.Content.{Content}
use Rattle.py_value.specs.declared.access.Content.TheVariants.{Var as VarContent, Len as LenContent, Item as ItemContent, Entry as EntryContent, Order as OrderContent, File as FileContent, Offset as OffsetContent, Closed as ClosedContent, Method as MethodContent, Base as BaseContent}
use Rattle.py_value.specs.declared.access.Location.{Location}
use Rattle.py_value.specs.declared.access.Location.TheVariants.{Var, Len, Item, Entry, Order, File, Offset, Closed, Method, Base}
use Rattle.py_value.specs.declared.value.Value.{Value}
use Rattle.py_value.specs.Named.{fits, fits_change}
use Rattle.row_words.specs.Reading.{into, list_at, Took, Reads}
use Rattle.row_words.proofs.Steps.{same_some, pick}
use Rattle.row_words.proofs.Exact.{both_reads, took_into, took_plain, took_tagged, list_reads}
use Rattle.row_words.proofs.Numbers.{number_reads, short_reads}
use Rattle.row_words.proofs.Words.{place_reads, value_reads, values_reads}
use Rattle.row_words.specs.declared.access_tags.LocationTag.{LocationTag}
use Rattle.row_words.specs.declared.access_tags.LocationTag.TheVariants.{Var as VarTag, Item as ItemTag, Entry as EntryTag, Method as MethodTag, Base as BaseTag, Named}
use Rattle.row_words.specs.declared.access_tags.NamedTag.TheVariants.{Len as NamedLen, Order as NamedOrder, File as NamedFile, Offset as NamedOffset, Closed as NamedClosed}
use Rattle.row_words.specs.declared.access_tags.AccessTag.{AccessTag}
use Rattle.row_words.specs.declared.access_tags.AccessTag.TheVariants.{Read as ReadTag, Set as SetTag, Update as UpdateTag}
use Rattle.row_words.specs.AccessBytes.{location_bytes, optional_bytes, content_bytes, change_bytes, access_bytes, accesses_bytes, IsLocation, IsOptional, IsContent, IsChange, IsAccess, AreAccesses}
use Rattle.row_words.specs.AccessReading.{location_tag, made_var, made_item, made_entry, made_method, location_behind, location_at, flag, flag_behind, flag_at, some_value, optional_behind, optional_at, made_entry_content, entry_behind, entry_at, content_at, key_behind, key_change_at, change_at, access_tag, access_behind, access_at}
use Rattle.row_words.proofs.Chosen.{took_chosen, chosen_again}

-- ---- locations

tag_number : LocationTag → ℕ
tag_number VarTag = 0
tag_number (Named NamedLen) = 1
tag_number ItemTag = 2
tag_number EntryTag = 3
tag_number (Named NamedOrder) = 4
tag_number (Named NamedFile) = 5
tag_number (Named NamedOffset) = 6
tag_number (Named NamedClosed) = 7
tag_number MethodTag = 8
tag_number BaseTag = 9

is_tag : (b : ℕ) (t : LocationTag) → location_tag b ≡ Some t → b ≡ tag_number t
unfolding tag_number
is_tag b t is =
    pick b 0 _ _ t is (λ at here. at ∙ ap tag_number (same_some _ _ here)) (λ is.
    pick b 1 _ _ t is (λ at here. at ∙ ap tag_number (same_some _ _ here)) (λ is.
    pick b 2 _ _ t is (λ at here. at ∙ ap tag_number (same_some _ _ here)) (λ is.
    pick b 3 _ _ t is (λ at here. at ∙ ap tag_number (same_some _ _ here)) (λ is.
    pick b 4 _ _ t is (λ at here. at ∙ ap tag_number (same_some _ _ here)) (λ is.
    pick b 5 _ _ t is (λ at here. at ∙ ap tag_number (same_some _ _ here)) (λ is.
    pick b 6 _ _ t is (λ at here. at ∙ ap tag_number (same_some _ _ here)) (λ is.
    pick b 7 _ _ t is (λ at here. at ∙ ap tag_number (same_some _ _ here)) (λ is.
    pick b 8 _ _ t is (λ at here. at ∙ ap tag_number (same_some _ _ here)) (λ is.
    pick b 9 _ _ t is (λ at here. at ∙ ap tag_number (same_some _ _ here)) (λ is. absurd (cc is)))))))))))

location_took : (t : LocationTag) (bytes rest : List ℕ) (l : Location) → location_behind t bytes ≡ Some (l, rest) → Took location_bytes IsLocation (tag_number t ∷ bytes) l rest
unfolding location_behind tag_number
location_took VarTag bytes rest l is = took_into made_var location_bytes IsLocation (0 ∷ []) (both_reads short_reads short_reads) (λ p fit. refl) (λ p fit. fit) bytes rest l is
location_took (Named NamedLen) bytes rest l is = took_into Len location_bytes IsLocation (1 ∷ []) short_reads (λ n fit. refl) (λ n fit. fit) bytes rest l is
location_took ItemTag bytes rest l is = took_into made_item location_bytes IsLocation (2 ∷ []) (both_reads short_reads number_reads) (λ p fit. refl) (λ p fit. fit) bytes rest l is
location_took EntryTag bytes rest l is = took_into made_entry location_bytes IsLocation (3 ∷ []) (both_reads short_reads value_reads) (λ p fit. refl) (λ p fit. fit) bytes rest l is
location_took (Named NamedOrder) bytes rest l is = took_into Order location_bytes IsLocation (4 ∷ []) short_reads (λ n fit. refl) (λ n fit. fit) bytes rest l is
location_took (Named NamedFile) bytes rest l is = took_into File location_bytes IsLocation (5 ∷ []) short_reads (λ n fit. refl) (λ n fit. fit) bytes rest l is
location_took (Named NamedOffset) bytes rest l is = took_into Offset location_bytes IsLocation (6 ∷ []) short_reads (λ n fit. refl) (λ n fit. fit) bytes rest l is
location_took (Named NamedClosed) bytes rest l is = took_into Closed location_bytes IsLocation (7 ∷ []) short_reads (λ n fit. refl) (λ n fit. fit) bytes rest l is
location_took MethodTag bytes rest l is = took_into made_method location_bytes IsLocation (8 ∷ []) (both_reads place_reads short_reads) (λ p fit. refl) (λ p fit. fit) bytes rest l is
location_took BaseTag bytes rest l is = took_into Base location_bytes IsLocation (9 ∷ []) place_reads (λ at fit. refl) (λ at fit. fit) bytes rest l is

location_again : (l : Location) (rest : List ℕ) → IsLocation l → location_at (location_bytes l ++ rest) ≡ Some (l, rest)
unfolding location_at location_behind
location_again (Var scope name) rest fit = ap (into made_var) ((both_reads short_reads short_reads).again (scope, name) rest fit)
location_again (Len n) rest fit = ap (into Len) (short_reads.again n rest fit)
location_again (Item object index) rest fit = ap (into made_item) ((both_reads short_reads number_reads).again (object, index) rest fit)
location_again (Entry object key) rest fit = ap (into made_entry) ((both_reads short_reads value_reads).again (object, key.value) rest fit)
location_again (Order n) rest fit = ap (into Order) (short_reads.again n rest fit)
location_again (File n) rest fit = ap (into File) (short_reads.again n rest fit)
location_again (Offset n) rest fit = ap (into Offset) (short_reads.again n rest fit)
location_again (Closed n) rest fit = ap (into Closed) (short_reads.again n rest fit)
location_again (Method class name) rest fit = ap (into made_method) ((both_reads place_reads short_reads).again (class, name) rest fit)
location_again (Base class) rest fit = ap (into Base) (place_reads.again class rest fit)

pub location_reads : Reads location_bytes IsLocation location_at
unfolding location_at
location_reads = record { again = location_again; takes = λ bytes rest l is. took_tagged location_tag location_behind tag_number location_bytes IsLocation is_tag location_took bytes rest l is }

-- ---- flags

flag_number : Bool → ℕ
flag_number false = 0
flag_number true = 1

is_flag : (b : ℕ) (t : Bool) → flag b ≡ Some t → b ≡ flag_number t
unfolding flag_number
is_flag b t is =
    pick b 0 _ _ t is (λ at here. at ∙ ap flag_number (same_some _ _ here)) (λ is.
    pick b 1 _ _ t is (λ at here. at ∙ ap flag_number (same_some _ _ here)) (λ is. absurd (cc is)))

abbrev closed_bytes : Bool → List ℕ
closed_bytes b = content_bytes (ClosedContent b)

abbrev AnyFlag : Bool → Type 0
AnyFlag b = ⊤

flag_took : (t : Bool) (bytes rest : List ℕ) (b : Bool) → flag_behind t bytes ≡ Some (b, rest) → Took closed_bytes AnyFlag (flag_number t ∷ bytes) b rest
unfolding flag_number
flag_took false bytes rest b is = took_plain closed_bytes AnyFlag 0 false refl tt bytes rest b is
flag_took true bytes rest b is = took_plain closed_bytes AnyFlag 1 true refl tt bytes rest b is

flag_again : (b : Bool) (rest : List ℕ) → AnyFlag b → flag_at (closed_bytes b ++ rest) ≡ Some (b, rest)
unfolding flag_at
flag_again false rest any = refl
flag_again true rest any = refl

flag_reads : Reads closed_bytes AnyFlag flag_at
unfolding flag_at
flag_reads = record { again = flag_again; takes = λ bytes rest b is. took_tagged flag flag_behind flag_number closed_bytes AnyFlag is_flag flag_took bytes rest b is }

-- ---- contents

optional_took : (t : Bool) (bytes rest : List ℕ) (v : Option Value) → optional_behind t bytes ≡ Some (v, rest) → Took optional_bytes IsOptional (flag_number t ∷ bytes) v rest
unfolding flag_number
optional_took false bytes rest v is = took_plain optional_bytes IsOptional 0 None refl tt bytes rest v is
optional_took true bytes rest v is = took_into some_value optional_bytes IsOptional (1 ∷ []) value_reads (λ v fit. refl) (λ v fit. fit) bytes rest v is

optional_again : (v : Option Value) (rest : List ℕ) → IsOptional v → optional_at (optional_bytes v ++ rest) ≡ Some (v, rest)
unfolding optional_at
optional_again None rest fit = refl
optional_again (Some v) rest fit = ap (into some_value) (value_reads.again v rest fit)

optional_reads : Reads optional_bytes IsOptional optional_at
unfolding optional_at
optional_reads = record { again = optional_again; takes = λ bytes rest v is. took_tagged flag optional_behind flag_number optional_bytes IsOptional is_flag optional_took bytes rest v is }

-- a content, and a change, that a location may have
abbrev StandsAt : Location → Content → Type 0
StandsAt l content = (fits l content ≡ true) × IsContent content

abbrev Changes : Location → Change → Type 0
Changes l change = (fits_change l change ≡ true) × IsChange change

entry_took : (l : Location) → ((entry : Option (Value × Value)) → fits l (EntryContent entry) ≡ true) → (t : Bool) (bytes rest : List ℕ) (c : Content) → entry_behind t bytes ≡ Some (c, rest)
    → Took content_bytes (StandsAt l) (flag_number t ∷ bytes) c rest
unfolding flag_number
entry_took l kind false bytes rest c is = took_plain content_bytes (StandsAt l) 0 (EntryContent None) refl (kind None, tt) bytes rest c is
entry_took l kind true bytes rest c is =
    took_into made_entry_content content_bytes (StandsAt l) (1 ∷ []) (both_reads value_reads value_reads) (λ entry fit. refl) (λ entry fit. (kind (Some entry), fit)) bytes rest c is

content_takes : (l : Location) (bytes rest : List ℕ) (c : Content) → content_at l bytes ≡ Some (c, rest) → Took content_bytes (StandsAt l) bytes c rest
unfolding content_at entry_at
content_takes (Var scope name) bytes rest c is = took_into VarContent content_bytes (StandsAt (Var scope name)) [] optional_reads (λ v fit. refl) (λ v fit. (refl, fit)) bytes rest c is
content_takes (Len object) bytes rest c is = took_into LenContent content_bytes (StandsAt (Len object)) [] number_reads (λ n fit. refl) (λ n fit. (refl, fit)) bytes rest c is
content_takes (Item object index) bytes rest c is = took_into ItemContent content_bytes (StandsAt (Item object index)) [] value_reads (λ v fit. refl) (λ v fit. (refl, fit)) bytes rest c is
content_takes (Entry object key) bytes rest c is = took_tagged flag entry_behind flag_number content_bytes (StandsAt (Entry object key)) is_flag (entry_took (Entry object key) (λ entry. refl)) bytes rest c is
content_takes (Order object) bytes rest c is = took_into OrderContent content_bytes (StandsAt (Order object)) [] values_reads (λ keys fit. refl) (λ keys fit. (refl, fit)) bytes rest c is
content_takes (File path) bytes rest c is = took_into FileContent content_bytes (StandsAt (File path)) [] short_reads (λ n fit. refl) (λ n fit. (refl, fit)) bytes rest c is
content_takes (Offset object) bytes rest c is = took_into OffsetContent content_bytes (StandsAt (Offset object)) [] number_reads (λ n fit. refl) (λ n fit. (refl, fit)) bytes rest c is
content_takes (Closed object) bytes rest c is = took_into ClosedContent content_bytes (StandsAt (Closed object)) [] flag_reads (λ b fit. refl) (λ b fit. (refl, tt)) bytes rest c is
content_takes (Method class name) bytes rest c is = took_into MethodContent content_bytes (StandsAt (Method class name)) [] place_reads (λ at fit. refl) (λ at fit. (refl, fit)) bytes rest c is
content_takes (Base class) bytes rest c is = took_into BaseContent content_bytes (StandsAt (Base class)) [] optional_reads (λ v fit. refl) (λ v fit. (refl, fit)) bytes rest c is

content_again : (l : Location) (c : Content) (rest : List ℕ) → StandsAt l c → content_at l (content_bytes c ++ rest) ≡ Some (c, rest)
unfolding content_at entry_at
content_again (Var scope name) (VarContent v) rest here = ap (into VarContent) (optional_reads.again v rest here.1)
content_again (Len object) (LenContent n) rest here = ap (into LenContent) (number_reads.again n rest here.1)
content_again (Item object index) (ItemContent v) rest here = ap (into ItemContent) (value_reads.again v rest here.1)
content_again (Entry object key) (EntryContent None) rest here = refl
content_again (Entry object key) (EntryContent (Some entry)) rest here = ap (into made_entry_content) ((both_reads value_reads value_reads).again entry rest here.1)
content_again (Order object) (OrderContent keys) rest here = ap (into OrderContent) (values_reads.again keys rest here.1)
content_again (File path) (FileContent n) rest here = ap (into FileContent) (short_reads.again n rest here.1)
content_again (Offset object) (OffsetContent n) rest here = ap (into OffsetContent) (number_reads.again n rest here.1)
content_again (Closed object) (ClosedContent b) rest here = ap (into ClosedContent) (flag_reads.again b rest tt)
content_again (Method class name) (MethodContent at) rest here = ap (into MethodContent) (place_reads.again at rest here.1)
content_again (Base class) (BaseContent v) rest here = ap (into BaseContent) (optional_reads.again v rest here.1)
content_again l c rest here = absurd (false≢true here.0)

pub content_reads : (l : Location) → Reads content_bytes (StandsAt l) (content_at l)
content_reads l = record { again = content_again l; takes = content_takes l }

-- ---- changes

key_took : (l : Location) → ((key : Value) → fits_change l (Insert key) ≡ true) → ((key : Value) → fits_change l (Delete key) ≡ true) → (t : Bool) (bytes rest : List ℕ) (c : Change)
    → key_behind t bytes ≡ Some (c, rest) → Took change_bytes (Changes l) (flag_number t ∷ bytes) c rest
unfolding flag_number
key_took l inserts deletes false bytes rest c is = took_into Insert change_bytes (Changes l) (0 ∷ []) value_reads (λ key fit. refl) (λ key fit. (inserts key, fit)) bytes rest c is
key_took l inserts deletes true bytes rest c is = took_into Delete change_bytes (Changes l) (1 ∷ []) value_reads (λ key fit. refl) (λ key fit. (deletes key, fit)) bytes rest c is

none_some : {A : Type 0} (a : A) → None ≡ Some a → ⊥
none_some a is = cc

change_takes : (l : Location) (bytes rest : List ℕ) (c : Change) → change_at l bytes ≡ Some (c, rest) → Took change_bytes (Changes l) bytes c rest
unfolding change_at key_change_at
change_takes (Order object) bytes rest c is = took_tagged flag key_behind flag_number change_bytes (Changes (Order object)) is_flag (key_took (Order object) (λ key. refl) (λ key. refl)) bytes rest c is
change_takes (File path) bytes rest c is = took_into Append change_bytes (Changes (File path)) [] short_reads (λ n fit. refl) (λ n fit. (refl, fit)) bytes rest c is
change_takes l bytes rest c is = absurd (none_some (c, rest) is)

change_again : (l : Location) (c : Change) (rest : List ℕ) → Changes l c → change_at l (change_bytes c ++ rest) ≡ Some (c, rest)
unfolding change_at key_change_at
change_again (Order object) (Insert key) rest here = ap (into Insert) (value_reads.again key rest here.1)
change_again (Order object) (Delete key) rest here = ap (into Delete) (value_reads.again key rest here.1)
change_again (File path) (Append n) rest here = ap (into Append) (short_reads.again n rest here.1)
change_again l c rest here = absurd (false≢true here.0)

pub change_reads : (l : Location) → Reads change_bytes (Changes l) (change_at l)
change_reads l = record { again = change_again l; takes = change_takes l }

-- ---- accesses

access_number : AccessTag → ℕ
access_number ReadTag = 0
access_number SetTag = 1
access_number UpdateTag = 2

is_access : (b : ℕ) (t : AccessTag) → access_tag b ≡ Some t → b ≡ access_number t
unfolding access_number
is_access b t is =
    pick b 0 _ _ t is (λ at here. at ∙ ap access_number (same_some _ _ here)) (λ is.
    pick b 1 _ _ t is (λ at here. at ∙ ap access_number (same_some _ _ here)) (λ is.
    pick b 2 _ _ t is (λ at here. at ∙ ap access_number (same_some _ _ here)) (λ is. absurd (cc is))))

access_took : (t : AccessTag) (bytes rest : List ℕ) (a : Access) → access_behind t bytes ≡ Some (a, rest) → Took access_bytes IsAccess (access_number t ∷ bytes) a rest
unfolding access_behind access_number
access_took ReadTag bytes rest a is = took_into Read access_bytes IsAccess (0 ∷ []) location_reads (λ l fit. refl) (λ l fit. fit) bytes rest a is
access_took SetTag bytes rest a is =
    took_chosen Set content_bytes StandsAt content_at access_bytes IsAccess (1 ∷ []) location_reads content_reads (λ l c. refl) (λ l c fit here. (fit, here)) bytes rest a is
access_took UpdateTag bytes rest a is =
    took_chosen Update change_bytes Changes change_at access_bytes IsAccess (2 ∷ []) location_reads change_reads (λ l c. refl) (λ l c fit here. (fit, here)) bytes rest a is

access_again : (a : Access) (rest : List ℕ) → IsAccess a → access_at (access_bytes a ++ rest) ≡ Some (a, rest)
unfolding access_at access_behind
access_again (Read l) rest fit = ap (into Read) (location_reads.again l rest fit)
access_again (Set l c) rest fit = chosen_again Set content_bytes StandsAt content_at location_reads content_reads l c rest fit.0 fit.1
access_again (Update l c) rest fit = chosen_again Update change_bytes Changes change_at location_reads change_reads l c rest fit.0 fit.1

pub access_reads : Reads access_bytes IsAccess access_at
unfolding access_at
access_reads = record { again = access_again; takes = λ bytes rest a is. took_tagged access_tag access_behind access_number access_bytes IsAccess is_access access_took bytes rest a is }

pub accesses_reads : Reads accesses_bytes AreAccesses (list_at access_at)
accesses_reads = list_reads number_reads access_reads
