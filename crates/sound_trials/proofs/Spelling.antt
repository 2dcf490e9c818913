-- The bytes of records tell what they are: numbers, places, texts, answers, files and lists with one front are one thing, also where no number fits its type.
use Rattle.std.proofs.Common.{inl, inr, ◌≡◌, ◌⊎◌, ℕ, zero, suc, ◌+◌, ◌/◌, ◌%◌, ◌<◌, ◌≤◌, ℤ, pos, negsuc, List, [], ◌∷◌, ◌++◌, length, refl, sym, ap, ap₂, ◌∙◌, append_assoc, arith}
use Rattle.std.specs.Prelude.{⊤}
use Rattle.std.proofs.lemmas.Bool.{cases_lt}
use Rattle.prov_base.specs.declared.place.Digest.{Digest}
use Rattle.prov_base.specs.declared.place.Pos.{Pos}
use Rattle.capture.specs.Answers.{Fits}
use Rattle.capture.specs.declared.answer.Ask.{Ask as Question}
use Rattle.capture.specs.declared.answer.Ask.TheVariants.{Time, Word, Line}
use Rattle.capture.specs.declared.answer.Asked.{Asked}
use Rattle.capture.specs.declared.answer.Given.{Given}
use Rattle.capture.specs.declared.answer.Given.TheVariants.{Number, Word as WordGiven, Line as LineGiven, End, Failed}
use Rattle.row_words.specs.Bytes.{number_bytes, zigzag, signed_bytes, place_bytes, text_bytes, each_bytes, list_bytes}
use Rattle.row_words.specs.Fits.{Each}
use Rattle.row_words.proofs.Numbers.{small_number, large_number}
use Rattle.trial_keeping.proofs.OneWay.{SameFront}
use Rattle.trial_keeping.specs.RecordBytes.{ask_byte, given_bytes, answer_bytes, found_bytes, file_bytes, final_bytes}
use Rattle.trial_keeping.specs.RecordFits.{IsDigest, IsFound}
use Rattle.trial_keeping.specs.declared.record.FileRecord.{FileRecord}
use Rattle.trial_keeping.specs.declared.record.FinalRecord.{FinalRecord}
use Rattle.trial_keeping.specs.declared.record.FoundRecord.{FoundRecord}
use Rattle.trial_keeping.specs.declared.record.FoundRecord.TheVariants.{Content, Absent, TooLarge, Failed as Refused}

-- what has the same bytes in front is the same, and the same bytes are behind it
abbrev pub IsOne : {A : Type 0} → (A → List ℕ) → (A → Type 0) → Type 0
IsOne {A = A} spell fits = (a b : A) (rest more : List ℕ) → fits a → fits b → spell a ++ rest ≡ spell b ++ more → SameFront a b rest more

abbrev pub Anything : {A : Type 0} → A → Type 0
Anything a = ⊤

first_same : (x y : ℕ) (xs ys : List ℕ) → x ∷ xs ≡ y ∷ ys → x ≡ y
first_same x y xs ys is = cc

rest_same : (x y : ℕ) (xs ys : List ℕ) → x ∷ xs ≡ y ∷ ys → xs ≡ ys
rest_same x y xs ys is = cc

-- ---- numbers

same_parts : (n m : ℕ) → 128 + n % 128 ≡ 128 + m % 128 → n / 128 ≡ m / 128 → n ≡ m
same_parts n m low high = omega (arith, low, high)

too_small : (n m : ℕ) → n < 128 → n ≡ 128 + m % 128 → ⊥
too_small n m small is = omega (arith, small, is)

small_as : (n : ℕ) (rest : List ℕ) → n < 128 → number_bytes n ++ rest ≡ n ∷ rest
small_as n rest small = ap (λ (l : List ℕ). l ++ rest) (small_number n small)

large_as : (n : ℕ) (rest : List ℕ) → 128 ≤ n → number_bytes n ++ rest ≡ (128 + n % 128) ∷ (number_bytes (n / 128) ++ rest)
large_as n rest large = ap (λ (l : List ℕ). l ++ rest) (large_number n large)

both_small : (n m : ℕ) (rest more : List ℕ) → n ∷ rest ≡ m ∷ more → SameFront n m rest more
both_small n m rest more is = record { same = first_same n m rest more is; rests = rest_same n m rest more is }

both_large : (n m : ℕ) (rest more : List ℕ) → 128 + n % 128 ≡ 128 + m % 128 → SameFront (n / 128) (m / 128) rest more → SameFront n m rest more
both_large n m rest more low high = record { same = same_parts n m low high.same; rests = high.rests }

-- a number of more bytes, by the rest of its bytes
module _ (n m : ℕ) (rest more : List ℕ) (is : number_bytes n ++ rest ≡ number_bytes m ++ more) where
  lines : 128 ≤ n → 128 ≤ m → (128 + n % 128) ∷ (number_bytes (n / 128) ++ rest) ≡ (128 + m % 128) ∷ (number_bytes (m / 128) ++ more)
  lines a b = sym (large_as n rest a) ∙ (is ∙ large_as m more b)

  by_sizes : (128 ≤ n → number_bytes (n / 128) ++ rest ≡ number_bytes (m / 128) ++ more → SameFront (n / 128) (m / 128) rest more)
      → (n < 128) ⊎ (128 ≤ n) → (m < 128) ⊎ (128 ≤ m) → SameFront n m rest more
  by_sizes on (inl a) (inl b) = both_small n m rest more (sym (small_as n rest a) ∙ (is ∙ small_as m more b))
  by_sizes on (inl a) (inr b) = absurd (too_small n m a (first_same n (128 + m % 128) rest (number_bytes (m / 128) ++ more) (sym (small_as n rest a) ∙ (is ∙ large_as m more b))))
  by_sizes on (inr a) (inl b) = absurd (too_small m n b (sym (first_same (128 + n % 128) m (number_bytes (n / 128) ++ rest) more (sym (large_as n rest a) ∙ (is ∙ small_as m more b)))))
  by_sizes on (inr a) (inr b) =
      both_large n m rest more (first_same (128 + n % 128) (128 + m % 128) (number_bytes (n / 128) ++ rest) (number_bytes (m / 128) ++ more) (lines a b))
      (on a (rest_same (128 + n % 128) (128 + m % 128) (number_bytes (n / 128) ++ rest) (number_bytes (m / 128) ++ more) (lines a b)))

less : (n fuel : ℕ) → n ≤ suc fuel → 128 ≤ n → n / 128 ≤ fuel
less n fuel enough large = omega (arith, enough, large)

number_within : (fuel n m : ℕ) → n ≤ fuel → (rest more : List ℕ) → number_bytes n ++ rest ≡ number_bytes m ++ more → SameFront n m rest more
number_within zero n m enough rest more is = by_sizes n m rest more is (λ large line. absurd (omega (arith, enough, large))) (cases_lt n 128) (cases_lt m 128)
number_within (suc fuel) n m enough rest more is =
    by_sizes n m rest more is (λ large line. number_within fuel (n / 128) (m / 128) (less n fuel enough large) rest more line) (cases_lt n 128) (cases_lt m 128)

pub number_one : IsOne number_bytes Anything
number_one = λ n m rest more _ _ is. number_within n n m (omega arith) rest more is

zigzag_one : (i j : ℤ) → zigzag i ≡ zigzag j → i ≡ j
zigzag_one (pos n) (pos m) is = let same : n ≡ m = omega (arith, is) in ap (λ (k : ℕ). pos k) same
zigzag_one (pos n) (negsuc m) is = absurd (omega (arith, is))
zigzag_one (negsuc n) (pos m) is = absurd (omega (arith, is))
zigzag_one (negsuc n) (negsuc m) is = let same : n ≡ m = omega (arith, is) in ap (λ (k : ℕ). negsuc k) same

signed_one : IsOne signed_bytes Anything
signed_one = λ i j rest more _ _ is. let front = number_one (zigzag i) (zigzag j) rest more tt tt is in record { same = zigzag_one i j front.same; rests = front.rests }

-- ---- one thing behind another

record SameTwo {A B : Type 0} (a c : A) (b d : B) (rest more : List ℕ) : Type 0 where
  first : a ≡ c
  second : b ≡ d
  rests : rest ≡ more

two_one : {A B : Type 0} {f : A → Type 0} {g : B → Type 0} (w : A → List ℕ) (v : B → List ℕ) → IsOne w f → IsOne v g → (a c : A) (b d : B) (rest more : List ℕ) → f a → f c → g b → g d
    → (w a ++ v b) ++ rest ≡ (w c ++ v d) ++ more → SameTwo a c b d rest more
two_one w v one other a c b d rest more fit fits good goods is =
    let front = one a c (v b ++ rest) (v d ++ more) fit fits (sym (append_assoc (w a) (v b) rest) ∙ (is ∙ append_assoc (w c) (v d) more)) in
    let back = other b d rest more good goods front.rests in
    record { first = front.same; second = back.same; rests = back.rests }

place_one : IsOne place_bytes Anything
place_one = λ a b rest more _ _ is.
    let two = two_one number_bytes number_bytes number_one number_one a.line b.line a.col b.col rest more tt tt tt tt is in
    record { same = by a b two.first two.second; rests = two.rests }
  where
    by : (a b : Pos) → a.line ≡ b.line → a.col ≡ b.col → a ≡ b
    by a b line col = ap₂ (λ (l c : ℕ). record { line = l; col = c }) line col

-- ---- texts and lists

-- fronts that are equally long
front_one : (t s : List ℕ) (rest more : List ℕ) → length t ≡ length s → t ++ rest ≡ s ++ more → SameFront t s rest more
front_one [] [] rest more long is = record { same = refl; rests = is }
front_one [] (y ∷ s) rest more long is = absurd (omega (arith, long))
front_one (x ∷ t) [] rest more long is = absurd (omega (arith, long))
front_one (x ∷ t) (y ∷ s) rest more long is =
    let tail = front_one t s rest more (omega (arith, long)) (rest_same x y (t ++ rest) (s ++ more) is) in
    record { same = ap₂ (λ (z : ℕ) (zs : List ℕ). z ∷ zs) (first_same x y (t ++ rest) (s ++ more) is) tail.same; rests = tail.rests }

pub text_one : IsOne text_bytes Anything
text_one = λ t s rest more _ _ is.
    let front = number_one (length t) (length s) (t ++ rest) (s ++ more) tt tt (sym (append_assoc (number_bytes (length t)) t rest) ∙ (is ∙ append_assoc (number_bytes (length s)) s more)) in
    front_one t s rest more front.same front.rests

each_one : {A : Type 0} {f : A → Type 0} (w : A → List ℕ) → IsOne w f → (xs ys : List A) (rest more : List ℕ) → Each f xs → Each f ys → length xs ≡ length ys
    → each_bytes w xs ++ rest ≡ each_bytes w ys ++ more → SameFront xs ys rest more
each_one w one [] [] rest more fit fits long is = record { same = refl; rests = is }
each_one w one [] (y ∷ ys) rest more fit fits long is = absurd (omega (arith, long))
each_one w one (x ∷ xs) [] rest more fit fits long is = absurd (omega (arith, long))
each_one {A = A} w one (x ∷ xs) (y ∷ ys) rest more fit fits long is =
    let head = one x y (each_bytes w xs ++ rest) (each_bytes w ys ++ more) fit.0 fits.0 (sym (append_assoc (w x) (each_bytes w xs) rest) ∙ (is ∙ append_assoc (w y) (each_bytes w ys) more)) in
    let tail = each_one w one xs ys rest more fit.1 fits.1 (omega (arith, long)) head.rests in
    record { same = ap₂ (λ (z : A) (zs : List A). z ∷ zs) head.same tail.same; rests = tail.rests }

pub list_one : {A : Type 0} {f : A → Type 0} (w : A → List ℕ) → IsOne w f → IsOne (list_bytes w) (Each f)
list_one w one = λ xs ys rest more fit fits is.
    let front = number_one (length xs) (length ys) (each_bytes w xs ++ rest) (each_bytes w ys ++ more) tt tt
    (sym (append_assoc (number_bytes (length xs)) (each_bytes w xs) rest) ∙ (is ∙ append_assoc (number_bytes (length ys)) (each_bytes w ys) more)) in
    each_one w one xs ys rest more fit fits front.same front.rests

-- ---- answers

is_time : (what : Question) (i : ℤ) → Fits what (Number i) → what ≡ Time
is_time Time i fits = refl
is_time Word i fits = absurd fits
is_time Line i fits = absurd fits

is_word : (what : Question) (w : ℕ) → Fits what (WordGiven w) → what ≡ Word
is_word Time w fits = absurd fits
is_word Word w fits = refl
is_word Line w fits = absurd fits

is_line : (what : Question) (line : List ℕ) → Fits what (LineGiven line) → what ≡ Line
is_line Time line fits = absurd fits
is_line Word line fits = absurd fits
is_line Line line fits = refl

is_end : (what : Question) → Fits what End → what ≡ Line
is_end Time fits = absurd fits
is_end Word fits = absurd fits
is_end Line fits = refl

same_ask : (what other : Question) → ask_byte what ≡ ask_byte other → what ≡ other
same_ask Time Time is = refl
same_ask Time Word is = absurd (omega (arith, is))
same_ask Time Line is = absurd (omega (arith, is))
same_ask Word Time is = absurd (omega (arith, is))
same_ask Word Word is = refl
same_ask Word Line is = absurd (omega (arith, is))
same_ask Line Time is = absurd (omega (arith, is))
same_ask Line Word is = absurd (omega (arith, is))
same_ask Line Line is = refl

given_one : (what other : Question) (g h : Given) (rest more : List ℕ) → Fits what g → Fits other h → given_bytes what g ++ rest ≡ given_bytes other h ++ more → SameTwo what other g h rest more
given_one what other (Number i) (Number j) rest more fit fits is =
    let front = signed_one i j rest more tt tt (rest_same 0 0 (signed_bytes i ++ rest) (signed_bytes j ++ more) is) in
    record { first = is_time what i fit ∙ sym (is_time other j fits); second = ap (λ (k : ℤ). Number k) front.same; rests = front.rests }
given_one what other (WordGiven v) (WordGiven w) rest more fit fits is =
    let front = number_one v w rest more tt tt (rest_same 1 1 (number_bytes v ++ rest) (number_bytes w ++ more) is) in
    record { first = is_word what v fit ∙ sym (is_word other w fits); second = ap (λ (k : ℕ). WordGiven k) front.same; rests = front.rests }
given_one what other (LineGiven l) (LineGiven m) rest more fit fits is =
    let front = text_one l m rest more tt tt (rest_same 2 2 (text_bytes l ++ rest) (text_bytes m ++ more) is) in
    record { first = is_line what l fit ∙ sym (is_line other m fits); second = ap (λ (k : List ℕ). LineGiven k) front.same; rests = front.rests }
given_one what other End End rest more fit fits is = record { first = is_end what fit ∙ sym (is_end other fits); second = refl; rests = rest_same 3 3 rest more is }
given_one what other Failed Failed rest more fit fits is =
    let inner = rest_same 4 4 (ask_byte what ∷ rest) (ask_byte other ∷ more) is in
    record { first = same_ask what other (first_same (ask_byte what) (ask_byte other) rest more inner); second = refl; rests = rest_same (ask_byte what) (ask_byte other) rest more inner }
given_one what other (Number i) (WordGiven w) rest more fit fits is = absurd (omega (arith, first_same 0 1 (signed_bytes i ++ rest) (number_bytes w ++ more) is))
given_one what other (Number i) (LineGiven m) rest more fit fits is = absurd (omega (arith, first_same 0 2 (signed_bytes i ++ rest) (text_bytes m ++ more) is))
given_one what other (Number i) End rest more fit fits is = absurd (omega (arith, first_same 0 3 (signed_bytes i ++ rest) more is))
given_one what other (Number i) Failed rest more fit fits is = absurd (omega (arith, first_same 0 4 (signed_bytes i ++ rest) (ask_byte other ∷ more) is))
given_one what other (WordGiven v) (Number j) rest more fit fits is = absurd (omega (arith, first_same 1 0 (number_bytes v ++ rest) (signed_bytes j ++ more) is))
given_one what other (WordGiven v) (LineGiven m) rest more fit fits is = absurd (omega (arith, first_same 1 2 (number_bytes v ++ rest) (text_bytes m ++ more) is))
given_one what other (WordGiven v) End rest more fit fits is = absurd (omega (arith, first_same 1 3 (number_bytes v ++ rest) more is))
given_one what other (WordGiven v) Failed rest more fit fits is = absurd (omega (arith, first_same 1 4 (number_bytes v ++ rest) (ask_byte other ∷ more) is))
given_one what other (LineGiven l) (Number j) rest more fit fits is = absurd (omega (arith, first_same 2 0 (text_bytes l ++ rest) (signed_bytes j ++ more) is))
given_one what other (LineGiven l) (WordGiven w) rest more fit fits is = absurd (omega (arith, first_same 2 1 (text_bytes l ++ rest) (number_bytes w ++ more) is))
given_one what other (LineGiven l) End rest more fit fits is = absurd (omega (arith, first_same 2 3 (text_bytes l ++ rest) more is))
given_one what other (LineGiven l) Failed rest more fit fits is = absurd (omega (arith, first_same 2 4 (text_bytes l ++ rest) (ask_byte other ∷ more) is))
given_one what other End (Number j) rest more fit fits is = absurd (omega (arith, first_same 3 0 rest (signed_bytes j ++ more) is))
given_one what other End (WordGiven w) rest more fit fits is = absurd (omega (arith, first_same 3 1 rest (number_bytes w ++ more) is))
given_one what other End (LineGiven m) rest more fit fits is = absurd (omega (arith, first_same 3 2 rest (text_bytes m ++ more) is))
given_one what other End Failed rest more fit fits is = absurd (omega (arith, first_same 3 4 rest (ask_byte other ∷ more) is))
given_one what other Failed (Number j) rest more fit fits is = absurd (omega (arith, first_same 4 0 (ask_byte what ∷ rest) (signed_bytes j ++ more) is))
given_one what other Failed (WordGiven w) rest more fit fits is = absurd (omega (arith, first_same 4 1 (ask_byte what ∷ rest) (number_bytes w ++ more) is))
given_one what other Failed (LineGiven m) rest more fit fits is = absurd (omega (arith, first_same 4 2 (ask_byte what ∷ rest) (text_bytes m ++ more) is))
given_one what other Failed End rest more fit fits is = absurd (omega (arith, first_same 4 3 (ask_byte what ∷ rest) more is))

abbrev pub AnswerFits : Asked → Type 0
AnswerFits asked = Fits asked.what asked.given

pub answer_one : IsOne answer_bytes AnswerFits
answer_one = λ a b rest more fit fits is.
    let place = place_one a.at b.at ((number_bytes a.k ++ given_bytes a.what a.given) ++ rest) ((number_bytes b.k ++ given_bytes b.what b.given) ++ more) tt tt
    (sym (append_assoc (place_bytes a.at) (number_bytes a.k ++ given_bytes a.what a.given) rest) ∙ (is ∙ append_assoc (place_bytes b.at) (number_bytes b.k ++ given_bytes b.what b.given) more)) in
    let number = number_one a.k b.k (given_bytes a.what a.given ++ rest) (given_bytes b.what b.given ++ more) tt tt
    (sym (append_assoc (number_bytes a.k) (given_bytes a.what a.given) rest) ∙ (place.rests ∙ append_assoc (number_bytes b.k) (given_bytes b.what b.given) more)) in
    let given = given_one a.what b.what a.given b.given rest more fit fits number.rests in
    record { same = by a b place.same number.same given.first given.second; rests = given.rests }
  where
    by : (a b : Asked) → a.at ≡ b.at → a.k ≡ b.k → a.what ≡ b.what → a.given ≡ b.given → a ≡ b
    by a b at k what given =
        ap (λ (x : Pos). record a { at = x }) at
        ∙ (ap (λ (x : ℕ). record a { at = b.at; k = x }) k
        ∙ (ap (λ (x : Question). record a { at = b.at; k = b.k; what = x }) what
        ∙ ap (λ (x : Given). record b { given = x }) given))

-- ---- files

digest_one : (d e : Digest) (rest more : List ℕ) → IsDigest d → IsDigest e → d.bytes ++ rest ≡ e.bytes ++ more → SameFront d e rest more
digest_one d e rest more fit fits is =
    let front = front_one d.bytes e.bytes rest more (fit ∙ sym fits) is in
    record { same = ap (λ (b : List ℕ). record { bytes = b }) front.same; rests = front.rests }

found_one : IsOne found_bytes IsFound
found_one (Content d) (Content e) rest more fit fits is =
    let front = digest_one d e rest more fit fits (rest_same 0 0 (d.bytes ++ rest) (e.bytes ++ more) is) in
    record { same = ap (λ (x : Digest). Content x) front.same; rests = front.rests }
found_one Absent Absent rest more fit fits is = record { same = refl; rests = rest_same 1 1 rest more is }
found_one TooLarge TooLarge rest more fit fits is = record { same = refl; rests = rest_same 2 2 rest more is }
found_one Refused Refused rest more fit fits is = record { same = refl; rests = rest_same 3 3 rest more is }
found_one (Content d) Absent rest more fit fits is = absurd (omega (arith, first_same 0 1 (d.bytes ++ rest) more is))
found_one (Content d) TooLarge rest more fit fits is = absurd (omega (arith, first_same 0 2 (d.bytes ++ rest) more is))
found_one (Content d) Refused rest more fit fits is = absurd (omega (arith, first_same 0 3 (d.bytes ++ rest) more is))
found_one Absent (Content e) rest more fit fits is = absurd (omega (arith, first_same 1 0 rest (e.bytes ++ more) is))
found_one Absent TooLarge rest more fit fits is = absurd (omega (arith, first_same 1 2 rest more is))
found_one Absent Refused rest more fit fits is = absurd (omega (arith, first_same 1 3 rest more is))
found_one TooLarge (Content e) rest more fit fits is = absurd (omega (arith, first_same 2 0 rest (e.bytes ++ more) is))
found_one TooLarge Absent rest more fit fits is = absurd (omega (arith, first_same 2 1 rest more is))
found_one TooLarge Refused rest more fit fits is = absurd (omega (arith, first_same 2 3 rest more is))
found_one Refused (Content e) rest more fit fits is = absurd (omega (arith, first_same 3 0 rest (e.bytes ++ more) is))
found_one Refused Absent rest more fit fits is = absurd (omega (arith, first_same 3 1 rest more is))
found_one Refused TooLarge rest more fit fits is = absurd (omega (arith, first_same 3 2 rest more is))

abbrev pub FileFits : FileRecord → Type 0
FileFits file = IsFound file.found

pub file_one : IsOne file_bytes FileFits
file_one = λ a b rest more fit fits is.
    let two = two_one text_bytes found_bytes text_one found_one a.path b.path a.found b.found rest more tt tt fit fits is in
    record { same = by a b two.first two.second; rests = two.rests }
  where
    by : (a b : FileRecord) → a.path ≡ b.path → a.found ≡ b.found → a ≡ b
    by a b path found = ap₂ (λ (p : List ℕ) (f : FoundRecord). record { path = p; found = f }) path found

abbrev pub FinalFits : FinalRecord → Type 0
FinalFits written = IsDigest written.digest

abbrev digest_bytes : Digest → List ℕ
digest_bytes d = d.bytes

pub final_one : IsOne final_bytes FinalFits
final_one = λ a b rest more fit fits is.
    let two = two_one text_bytes digest_bytes text_one digest_one a.path b.path a.digest b.digest rest more tt tt fit fits is in
    record { same = by a b two.first two.second; rests = two.rests }
  where
    by : (a b : FinalRecord) → a.path ≡ b.path → a.digest ≡ b.digest → a ≡ b
    by a b path digest = ap₂ (λ (p : List ℕ) (d : Digest). record { path = p; digest = d }) path digest
