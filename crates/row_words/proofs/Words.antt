-- That places, texts, values and kinds are read exactly.
use Rattle.std.proofs.Common.{inl, inr, ◌≡◌, ℕ, ◌+◌, ◌*◌, ◌/◌, ◌%◌, ◌<◌, ◌≤◌, nat_lt, ℤ, pos, negsuc, true, false, List, [], ◌∷◌, ◌++◌, length, take, drop, Option, Some, None, if◌then◌else◌, refl, sym, ap, subst, ◌∙◌, append_assoc, arith}
use Rattle.std.specs.Prelude.{⊤, ◌⊎◌, FitsSigned}
use Rattle.std.specs.Int.{w64}
use Rattle.std.specs.Str.{is_utf8}
use Rattle.std.proofs.lemmas.Str.{IsUtf8-from_is_utf8, is_utf8-from_IsUtf8}
use Rattle.std.proofs.lemmas.Bool.{cases_lt, ltb-true, ltb-false, lt-ltb, le-ltb}
use Rattle.std.proofs.lemmas.Int.{ints}
use Rattle.std.proofs.lemmas.List.{take_at, drop_at, take-append-drop, length-append, length-take}
use Rattle.prov_base.specs.declared.place.Pos.{Pos}
use Rattle.py_value.specs.declared.access.Kind.{Kind}
use Rattle.py_value.specs.declared.access.Kind.TheVariants.{List as ListKind, Dict, Instance, File}
use Rattle.py_value.specs.declared.access.Mode.{Mode}
use Rattle.py_value.specs.declared.access.Mode.TheVariants.{Read, Write, Append}
use Rattle.py_value.specs.declared.value.Value.{Value}
use Rattle.py_value.specs.declared.value.Value.TheVariants.{None as NoneValue, Bool as Truth, Int, Text, Tuple, Range, Fn, Class, Exc, Builtin, Object}
use Rattle.row_words.specs.declared.tags.ValueTag.{ValueTag}
use Rattle.row_words.specs.declared.tags.ValueTag.TheVariants.{None as NoneTag, False as FalseTag, True as TrueTag, Int as IntTag, Range as RangeTag, Named, Placed, Numbered}
use Rattle.row_words.specs.declared.tags.NamedTag.TheVariants.{Text as NamedText, Tuple as NamedTuple, Object as NamedObject}
use Rattle.row_words.specs.declared.tags.PlacedTag.TheVariants.{Fn as PlacedFn, Class as PlacedClass}
use Rattle.row_words.specs.declared.tags.NumberedTag.TheVariants.{Exc as NumberedExc, Builtin as NumberedBuiltin}
use Rattle.row_words.specs.declared.tags.MadeTag.{MadeTag}
use Rattle.row_words.specs.declared.tags.MadeTag.TheVariants.{Nothing as NothingTag, List as ListTag, Dict as DictTag, Instance as InstanceTag, File as FileTag}
use Rattle.row_words.specs.Bytes.{number_bytes, zigzag, signed_bytes, place_bytes, text_bytes, value_bytes, values_bytes, mode_byte, made_bytes}
use Rattle.row_words.specs.Fits.{IsLong, IsPlace, IsText, IsValue, AreValues, IsMade}
use Rattle.row_words.specs.Reading.{into, number_at, unzigzag, signed_at, made_place, place_at, byte_at, front_at, text_at, list_at, value_tag, made_range, value_behind, value_at, made_tag, mode_tag, mode_behind, mode_at, made_instance, made_file, made_behind, made_at, Took, Reads}
use Rattle.row_words.proofs.Steps.{bound, same_some, passed, not_refused, pick}
use Rattle.row_words.proofs.Exact.{both_reads, into_reads, only_reads, took_into, took_plain, took_tagged, list_reads}
use Rattle.row_words.proofs.Numbers.{number_reads, short_reads}

-- ---- signed numbers

even : (n : ℕ) → unzigzag (n * 2) ≡ pos n
even n =
    let rest : (n * 2) % 2 ≡ 0 = omega arith in
    let half : n * 2 / 2 ≡ n = omega arith in
    rw (rest, half) refl

odd : (n : ℕ) → unzigzag (n * 2 + 1) ≡ negsuc n
odd n =
    let rest : (n * 2 + 1) % 2 ≡ 1 = omega arith in
    let half : (n * 2 + 1) / 2 ≡ n = omega arith in
    rw (rest, half) refl

zigzag_back : (i : ℤ) → unzigzag (zigzag i) ≡ i
zigzag_back (pos n) = even n
zigzag_back (negsuc n) = odd n

zigzag_fits : (i : ℤ) → FitsSigned w64 i → IsLong (zigzag i)
zigzag_fits (pos n) fits = omega (arith, ints)
zigzag_fits (negsuc n) fits = omega (arith, ints)

by_parity : (n : ℕ) → (n % 2 ≡ 0) ⊎ (n % 2 ≡ 1)
by_parity n = elim (cases_lt (n % 2) 1) [ inl small ↦ inl (omega arith) | inr large ↦ inr (omega arith) ]

unzigzag_even : (n : ℕ) → n % 2 ≡ 0 → unzigzag n ≡ pos (n / 2)
unzigzag_even n is = rw is refl

unzigzag_odd : (n : ℕ) → n % 2 ≡ 1 → unzigzag n ≡ negsuc (n / 2)
unzigzag_odd n is = rw is refl

zigzag_again : (n : ℕ) → zigzag (unzigzag n) ≡ n
zigzag_again n =
    elim (by_parity n) [
      | inl is ↦ ap zigzag (unzigzag_even n is) ∙ omega arith
      | inr is ↦ ap zigzag (unzigzag_odd n is) ∙ omega arith
    ]

unzigzag_fits : (n : ℕ) → IsLong n → FitsSigned w64 (unzigzag n)
unzigzag_fits n long =
    elim (by_parity n) [
      | inl is ↦ rw (unzigzag_even n is) (omega (arith, ints))
      | inr is ↦ rw (unzigzag_odd n is) (omega (arith, ints))
    ]

abbrev IsInt : ℤ → Type 0
IsInt i = FitsSigned w64 i

pub signed_reads : Reads signed_bytes IsInt signed_at
unfolding signed_at
signed_reads = into_reads unzigzag zigzag signed_bytes IsInt number_reads (λ n long. ap number_bytes (zigzag_again n)) unzigzag_fits (λ i fits. refl) zigzag_fits (λ i fits. zigzag_back i)

pub place_reads : Reads place_bytes IsPlace place_at
unfolding place_at
place_reads = into_reads made_place (λ (at : Pos). (at.line, at.col)) place_bytes IsPlace (both_reads short_reads short_reads) (λ p fits. refl) (λ p fits. fits) (λ at fits. refl) (λ at fits. fits) (λ at fits. refl)

-- ---- bytes and texts

abbrev one_byte : ℕ → List ℕ
one_byte b = b ∷ []

abbrev IsByte : ℕ → Type 0
IsByte b = b < 256

byte_takes : (bytes rest : List ℕ) (b : ℕ) → byte_at bytes ≡ Some (b, rest) → Took one_byte IsByte bytes b rest
unfolding byte_at
byte_takes [] rest b is = absurd cc
byte_takes (first ∷ bytes) rest b is =
    let p = passed (nat_lt first 256) (Some (first, bytes)) (b, rest) is in
    let made : ℕ × List ℕ = (first, bytes) in
    subst (λ (z : ℕ × List ℕ). Took one_byte IsByte (first ∷ bytes) z.0 z.1) (same_some made (b, rest) p.1) (record { spelled = refl; fit = ltb-true first 256 p.0 })

pub byte_reads : Reads one_byte IsByte byte_at
unfolding byte_at
byte_reads = record { again = λ b rest fits. rw (lt-ltb b 256 fits) refl; takes = byte_takes }

abbrev IsFront : List ℕ → Type 0
IsFront bytes = IsLong (length bytes)

front_reads : Reads text_bytes IsFront front_at
unfolding front_at
front_reads = record {
  again = λ text rest long.
      let enough : nat_lt (length (text ++ rest)) (length text) ≡ false = le-ltb _ _ (omega (arith, length-append text rest)) in
      ap front_at (append_assoc (number_bytes (length text)) text rest)
      ∙ rw (number_reads.again (length text) (text ++ rest) long, enough, take_at text rest (length text) refl, drop_at text rest (length text) refl) refl;
  takes = λ bytes rest text is.
      let n = bound (number_at bytes) (λ n. if nat_lt (length n.1) n.0 then None else Some (take n.0 n.1, drop n.0 n.1)) (text, rest) is in
      let p = not_refused (nat_lt (length n.0.1) n.0.0) (Some (take n.0.0 n.0.1, drop n.0.0 n.0.1)) (text, rest) n.2 in
      let t = number_reads.takes bytes n.0.1 n.0.0 n.1 in
      let enough : n.0.0 ≤ length n.0.1 = ltb-false _ _ p.0 in
      let count : length (take n.0.0 n.0.1) ≡ n.0.0 = omega (arith, length-take n.0.0 n.0.1) in
      let made : List ℕ × List ℕ = (take n.0.0 n.0.1, drop n.0.0 n.0.1) in
      let whole : bytes ≡ number_bytes (length made.0) ++ (made.0 ++ made.1) =
      t.spelled ∙ (ap (λ (l : List ℕ). number_bytes n.0.0 ++ l) (sym (take-append-drop n.0.0 n.0.1)) ∙ ap (λ (k : ℕ). number_bytes k ++ (made.0 ++ made.1)) (sym count)) in
      subst (λ (z : List ℕ × List ℕ). Took text_bytes IsFront bytes z.0 z.1) (same_some made (text, rest) p.1)
      (record { spelled = whole ∙ sym (append_assoc (number_bytes (length made.0)) made.0 made.1); fit = subst IsLong (sym count) t.fit });
}

pub text_reads : Reads text_bytes IsText text_at
unfolding text_at
text_reads = only_reads is_utf8 IsText front_reads (λ text fits. fits.0) (λ text fits. is_utf8-from_IsUtf8 text fits.1) (λ text long is. (long, IsUtf8-from_is_utf8 text is))

-- ---- values

tag_number : ValueTag → ℕ
tag_number NoneTag = 0
tag_number FalseTag = 1
tag_number TrueTag = 2
tag_number IntTag = 3
tag_number (Named NamedText) = 4
tag_number (Named NamedTuple) = 5
tag_number RangeTag = 6
tag_number (Placed PlacedFn) = 7
tag_number (Placed PlacedClass) = 8
tag_number (Numbered NumberedExc) = 9
tag_number (Numbered NumberedBuiltin) = 10
tag_number (Named NamedObject) = 11

is_tag : (b : ℕ) (t : ValueTag) → value_tag b ≡ Some t → b ≡ tag_number t
unfolding tag_number
is_tag b t is =
    pick b 0 _ _ t is (λ at here. at ∙ ap tag_number (same_some _ _ here)) (λ is.
    pick b 1 _ _ t is (λ at here. at ∙ ap tag_number (same_some _ _ here)) (λ is.
    pick b 2 _ _ t is (λ at here. at ∙ ap tag_number (same_some _ _ here)) (λ is.
    pick b 3 _ _ t is (λ at here. at ∙ ap tag_number (same_some _ _ here)) (λ is.
    pick b 4 _ _ t is (λ at here. at ∙ ap tag_number (same_some _ _ here)) (λ is.
    pick b 5 _ _ t is (λ at here. at ∙ ap tag_number (same_some _ _ here)) (λ is.
    pick b 6 _ _ t is (λ at here. at ∙ ap tag_number (same_some _ _ here)) (λ is.
    pick b 7 _ _ t is (λ at here. at ∙ ap tag_number (same_some _ _ here)) (λ is.
    pick b 8 _ _ t is (λ at here. at ∙ ap tag_number (same_some _ _ here)) (λ is.
    pick b 9 _ _ t is (λ at here. at ∙ ap tag_number (same_some _ _ here)) (λ is.
    pick b 10 _ _ t is (λ at here. at ∙ ap tag_number (same_some _ _ here)) (λ is.
    pick b 11 _ _ t is (λ at here. at ∙ ap tag_number (same_some _ _ here)) (λ is. absurd (cc is)))))))))))))

value_took : (t : ValueTag) (bytes rest : List ℕ) (v : Value) → value_behind t bytes ≡ Some (v, rest) → Took value_bytes IsValue (tag_number t ∷ bytes) v rest
unfolding value_behind tag_number
value_took NoneTag bytes rest v is = took_plain value_bytes IsValue 0 NoneValue refl tt bytes rest v is
value_took FalseTag bytes rest v is = took_plain value_bytes IsValue 1 (Truth false) refl tt bytes rest v is
value_took TrueTag bytes rest v is = took_plain value_bytes IsValue 2 (Truth true) refl tt bytes rest v is
value_took IntTag bytes rest v is = took_into Int value_bytes IsValue (3 ∷ []) signed_reads (λ i fits. refl) (λ i fits. fits) bytes rest v is
value_took RangeTag bytes rest v is =
    took_into made_range value_bytes IsValue (6 ∷ []) (both_reads signed_reads (both_reads signed_reads signed_reads)) (λ p fits. refl) (λ p fits. fits) bytes rest v is
value_took (Named NamedText) bytes rest v is = took_into Text value_bytes IsValue (4 ∷ []) short_reads (λ n fits. refl) (λ n fits. fits) bytes rest v is
value_took (Named NamedTuple) bytes rest v is = took_into Tuple value_bytes IsValue (5 ∷ []) short_reads (λ n fits. refl) (λ n fits. fits) bytes rest v is
value_took (Named NamedObject) bytes rest v is = took_into Object value_bytes IsValue (11 ∷ []) short_reads (λ n fits. refl) (λ n fits. fits) bytes rest v is
value_took (Placed PlacedFn) bytes rest v is = took_into Fn value_bytes IsValue (7 ∷ []) place_reads (λ at fits. refl) (λ at fits. fits) bytes rest v is
value_took (Placed PlacedClass) bytes rest v is = took_into Class value_bytes IsValue (8 ∷ []) place_reads (λ at fits. refl) (λ at fits. fits) bytes rest v is
value_took (Numbered NumberedExc) bytes rest v is = took_into Exc value_bytes IsValue (9 ∷ []) number_reads (λ n fits. refl) (λ n fits. fits) bytes rest v is
value_took (Numbered NumberedBuiltin) bytes rest v is = took_into Builtin value_bytes IsValue (10 ∷ []) number_reads (λ n fits. refl) (λ n fits. fits) bytes rest v is

value_again : (v : Value) (rest : List ℕ) → IsValue v → value_at (value_bytes v ++ rest) ≡ Some (v, rest)
unfolding value_at value_behind
value_again NoneValue rest fits = refl
value_again (Truth false) rest fits = refl
value_again (Truth true) rest fits = refl
value_again (Int i) rest fits = ap (into Int) (signed_reads.again i rest fits)
value_again (Text n) rest fits = ap (into Text) (short_reads.again n rest fits)
value_again (Tuple n) rest fits = ap (into Tuple) (short_reads.again n rest fits)
value_again (Range start end step) rest fits = ap (into made_range) ((both_reads signed_reads (both_reads signed_reads signed_reads)).again (start, (end, step)) rest fits)
value_again (Fn at) rest fits = ap (into Fn) (place_reads.again at rest fits)
value_again (Class at) rest fits = ap (into Class) (place_reads.again at rest fits)
value_again (Exc n) rest fits = ap (into Exc) (number_reads.again n rest fits)
value_again (Builtin n) rest fits = ap (into Builtin) (number_reads.again n rest fits)
value_again (Object n) rest fits = ap (into Object) (short_reads.again n rest fits)

pub value_reads : Reads value_bytes IsValue value_at
unfolding value_at
value_reads = record { again = value_again; takes = λ bytes rest v is. took_tagged value_tag value_behind tag_number value_bytes IsValue is_tag value_took bytes rest v is }

pub values_reads : Reads values_bytes AreValues (list_at value_at)
values_reads = list_reads number_reads value_reads

-- ---- kinds of what was made

abbrev mode_bytes : Mode → List ℕ
mode_bytes mode = mode_byte mode ∷ []

abbrev AnyMode : Mode → Type 0
AnyMode mode = ⊤

is_mode : (b : ℕ) (mode : Mode) → mode_tag b ≡ Some mode → b ≡ mode_byte mode
is_mode b t is =
    pick b 0 _ _ t is (λ at here. at ∙ ap mode_byte (same_some _ _ here)) (λ is.
    pick b 1 _ _ t is (λ at here. at ∙ ap mode_byte (same_some _ _ here)) (λ is.
    pick b 2 _ _ t is (λ at here. at ∙ ap mode_byte (same_some _ _ here)) (λ is. absurd (cc is))))

mode_again : (mode : Mode) (rest : List ℕ) → AnyMode mode → mode_at (mode_bytes mode ++ rest) ≡ Some (mode, rest)
unfolding mode_at
mode_again Read rest any = refl
mode_again Write rest any = refl
mode_again Append rest any = refl

mode_took : (t : Mode) (bytes rest : List ℕ) (mode : Mode) → mode_behind t bytes ≡ Some (mode, rest) → Took mode_bytes AnyMode (mode_byte t ∷ bytes) mode rest
mode_took t bytes rest mode is = took_plain mode_bytes AnyMode (mode_byte t) t refl tt bytes rest mode is

mode_reads : Reads mode_bytes AnyMode mode_at
unfolding mode_at
mode_reads = record { again = mode_again; takes = λ bytes rest mode is. took_tagged mode_tag mode_behind mode_byte mode_bytes AnyMode is_mode mode_took bytes rest mode is }

made_number : MadeTag → ℕ
made_number NothingTag = 0
made_number ListTag = 1
made_number DictTag = 2
made_number InstanceTag = 3
made_number FileTag = 4

is_made : (b : ℕ) (t : MadeTag) → made_tag b ≡ Some t → b ≡ made_number t
unfolding made_number
is_made b t is =
    pick b 0 _ _ t is (λ at here. at ∙ ap made_number (same_some _ _ here)) (λ is.
    pick b 1 _ _ t is (λ at here. at ∙ ap made_number (same_some _ _ here)) (λ is.
    pick b 2 _ _ t is (λ at here. at ∙ ap made_number (same_some _ _ here)) (λ is.
    pick b 3 _ _ t is (λ at here. at ∙ ap made_number (same_some _ _ here)) (λ is.
    pick b 4 _ _ t is (λ at here. at ∙ ap made_number (same_some _ _ here)) (λ is. absurd (cc is))))))

made_took : (t : MadeTag) (bytes rest : List ℕ) (v : Option Kind) → made_behind t bytes ≡ Some (v, rest) → Took made_bytes IsMade (made_number t ∷ bytes) v rest
unfolding made_behind made_number
made_took NothingTag bytes rest v is = took_plain made_bytes IsMade 0 None refl tt bytes rest v is
made_took ListTag bytes rest v is = took_plain made_bytes IsMade 1 (Some ListKind) refl tt bytes rest v is
made_took DictTag bytes rest v is = took_plain made_bytes IsMade 2 (Some Dict) refl tt bytes rest v is
made_took InstanceTag bytes rest v is = took_into made_instance made_bytes IsMade (3 ∷ []) value_reads (λ class fits. refl) (λ class fits. fits) bytes rest v is
made_took FileTag bytes rest v is = took_into made_file made_bytes IsMade (4 ∷ []) (both_reads short_reads mode_reads) (λ p fits. refl) (λ p fits. fits.0) bytes rest v is

made_again : (v : Option Kind) (rest : List ℕ) → IsMade v → made_at (made_bytes v ++ rest) ≡ Some (v, rest)
unfolding made_at made_behind
made_again None rest fits = refl
made_again (Some ListKind) rest fits = refl
made_again (Some Dict) rest fits = refl
made_again (Some (Instance class)) rest fits = ap (into made_instance) (value_reads.again class rest fits)
made_again (Some (File path mode)) rest fits = ap (into made_file) ((both_reads short_reads mode_reads).again (path, mode) rest (fits, tt))

pub made_reads : Reads made_bytes IsMade made_at
unfolding made_at
made_reads = record { again = made_again; takes = λ bytes rest v is. took_tagged made_tag made_behind made_number made_bytes IsMade is_made made_took bytes rest v is }
