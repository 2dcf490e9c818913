-- That bytes are read one way: what stands at the front, and where they stop being so.
use Rattle.std.proofs.Common.{inl, inr, ◌≡◌, ℕ, ◌<◌, ◌≤◌, List, [], ◌∷◌, ◌++◌, length, Option, Result, Ok, Err, refl, sym, ap, subst, ◌∙◌, append_assoc, arith}
use Rattle.std.proofs.lemmas.Bool.{cases_lt}
use Rattle.std.proofs.lemmas.List.{append-nil, length-append}
use Rattle.row_words.specs.Bytes.{number_bytes, each_bytes, list_bytes}
use Rattle.row_words.specs.Fits.{IsLong, Each}
use Rattle.row_words.specs.Reading.{Reads}
use Rattle.row_words.proofs.Steps.{same_some}
use Rattle.row_words.proofs.Numbers.{number_reads}
use Rattle.trial_keeping.specs.declared.record_fault.RecordFault.{RecordFault}
use Rattle.trial_keeping.specs.declared.record_fault.RecordFault.TheVariants.{BadRecord, Memory}
use Rattle.trial_keeping.specs.RecordFaults.{IsNone, IsBadPair, IsBadItem, IsBadList, IsMore, IsRecord, IsBadAt, IsReadOneWay, Decodes, IsDecodedAs}
use Rattle.trial_keeping.specs.RecordFits.{Stand, IsListOf}
use Rattle.trial_keeping.specs.RecordReading.{AreSoMany}

-- two things with one front are one thing
pub record SameFront {A : Type 0} (a b : A) (rest more : List ℕ) : Type 0 where
  pub same : a ≡ b
  pub rests : rest ≡ more

pub record Exact {A : Type 0} (spell : A → List ℕ) (fits : A → Type 0) (bad : List ℕ → ℕ → Type 0) : Type 0 where
  pub front : (a b : A) (rest more : List ℕ) → fits a → fits b → spell a ++ rest ≡ spell b ++ more → SameFront a b rest more
  pub none : (bytes : List ℕ) (left : ℕ) (a : A) (rest : List ℕ) → bad bytes left → fits a → bytes ≡ spell a ++ rest → ⊥
  pub places : (bytes : List ℕ) (left other : ℕ) → bad bytes left → bad bytes other → left ≡ other

-- ---- what a reader reads

pub reads_exact : {A : Type 0} {w : A → List ℕ} {f : A → Type 0} {r : List ℕ → Option (A × List ℕ)} → Reads w f r → Exact w f (IsNone w f)
reads_exact {A = A} {r = r} reads = record {
  front = λ a b rest more fit fits is.
      let read = sym (reads.again a rest fit) ∙ (ap r is ∙ reads.again b more fits) in
      let one : A × List ℕ = (a, rest) in
      let two : A × List ℕ = (b, more) in
      let same : one ≡ two = same_some one two read in
      record { same = ap (λ (p : A × List ℕ). p.0) same; rests = ap (λ (p : A × List ℕ). p.1) same };
  none = λ bytes left a rest bad fit is. bad.1 a rest fit is;
  places = λ bytes left other bad also. bad.0 ∙ sym also.0;
}

-- ---- one thing, and then another

pair_same : {A B : Type 0} (a c : A) (b d : B) → a ≡ c → b ≡ d → ◌≡◌ {A = A × B} (a, b) (c, d)
pair_same a c b d is also = rw (is, also) refl

module _ {A B : Type 0} {w : A → List ℕ} {f : A → Type 0} {bad : List ℕ → ℕ → Type 0} {v : B → List ℕ} {g : A → B → Type 0} {next : A → List ℕ → ℕ → Type 0} where
  pair_front : Exact w f bad → ((a : A) → Exact v (g a) (next a)) → (a c : A) (b d : B) (rest more : List ℕ) → f a → f c → g a b → g c d
      → (w a ++ v b) ++ rest ≡ (w c ++ v d) ++ more → SameFront {A = A × B} (a, b) (c, d) rest more
  pair_front one other a c b d rest more fit fits good also is =
      let first = one.front a c (v b ++ rest) (v d ++ more) fit fits (sym (append_assoc (w a) (v b) rest) ∙ (is ∙ append_assoc (w c) (v d) more)) in
      let second = (other c).front b d rest more (subst (λ (x : A). g x b) first.same good) also first.rests in
      record { same = pair_same a c b d first.same second.same; rests = second.rests }

  pair_none : Exact w f bad → ((a : A) → Exact v (g a) (next a)) → (bytes : List ℕ) (left : ℕ) (a : A) (b : B) (rest : List ℕ) → IsBadPair w f bad next bytes left → f a → g a b
      → bytes ≡ (w a ++ v b) ++ rest → ⊥
  pair_none one other bytes left a b rest (inl is) fit good spelled = one.none bytes left a (v b ++ rest) is fit (spelled ∙ append_assoc (w a) (v b) rest)
  pair_none one other bytes left a b rest (inr lies) fit good spelled =
      let first = one.front lies.first a lies.rest (v b ++ rest) lies.fit fit (sym lies.spelled ∙ (spelled ∙ append_assoc (w a) (v b) rest)) in
      (other a).none lies.rest left b rest (subst (λ (x : A). next x lies.rest left) first.same lies.behind) good first.rests

  pair_places : Exact w f bad → ((a : A) → Exact v (g a) (next a)) → (bytes : List ℕ) (left more : ℕ) → IsBadPair w f bad next bytes left → IsBadPair w f bad next bytes more → left ≡ more
  pair_places one other bytes left more (inl is) (inl also) = one.places bytes left more is also
  pair_places one other bytes left more (inl is) (inr lies) = absurd (one.none bytes left lies.first lies.rest is lies.fit lies.spelled)
  pair_places one other bytes left more (inr lies) (inl is) = absurd (one.none bytes more lies.first lies.rest is lies.fit lies.spelled)
  pair_places one other bytes left more (inr lies) (inr also) =
      let first = one.front lies.first also.first lies.rest also.rest lies.fit also.fit (sym lies.spelled ∙ also.spelled) in
      let here = subst (λ (x : A). next x lies.rest left) first.same lies.behind in
      (other also.first).places also.rest left more (subst (λ (l : List ℕ). next also.first l left) first.rests here) also.behind

  pub pair_exact : Exact w f bad → ((a : A) → Exact v (g a) (next a)) → Exact (λ (p : A × B). w p.0 ++ v p.1) (λ (p : A × B). f p.0 × g p.0 p.1) (IsBadPair w f bad next)
  pair_exact one other = record {
    front = λ p q rest more fit fits is. pair_front one other p.0 q.0 p.1 q.1 rest more fit.0 fits.0 fit.1 fits.1 is;
    none = λ bytes left p rest is fit spelled. pair_none one other bytes left p.0 p.1 rest is fit.0 fit.1 spelled;
    places = pair_places one other;
  }

-- ---- items, one behind the other

pub stand_more : {A : Type 0} (may : List A → A → Type 0) (before items : List A) (a : A) → Stand may before items → may (before ++ items) a → Stand may before (items ++ a ∷ [])
stand_more {A = A} may before [] a stand next = (subst (λ (l : List A). may l a) (append-nil before) next, tt)
stand_more {A = A} may before (x ∷ items) a stand next =
    (stand.0, stand_more may (before ++ x ∷ []) items a stand.1 (subst (λ (l : List A). may l a) (sym (append_assoc before (x ∷ []) items)) next))

stand_at : {A : Type 0} (may : List A → A → Type 0) (before items : List A) (a : A) (behind : List A) → Stand may before (items ++ a ∷ behind) → may (before ++ items) a
stand_at {A = A} may before [] a behind stand = subst (λ (l : List A). may l a) (sym (append-nil before)) stand.0
stand_at {A = A} may before (x ∷ items) a behind stand =
    subst (λ (l : List A). may l a) (append_assoc before (x ∷ []) items) (stand_at may (before ++ x ∷ []) items a behind stand.1)

stand_each : {A : Type 0} {f : A → Type 0} (may : List A → A → Type 0) → ((before : List A) (a : A) → may before a → f a) → (before items : List A) → Stand may before items → Each f items
stand_each may plain before [] stand = tt
stand_each may plain before (x ∷ items) stand = (plain before x stand.0, stand_each may plain (before ++ x ∷ []) items stand.1)

nil_of : {A : Type 0} (items : List A) → length items ≡ 0 → items ≡ []
nil_of [] none = refl
nil_of (x ∷ items) none = absurd (omega arith)

-- the longer of two rows of items goes on behind the other
record GoesOn {A : Type 0} (w : A → List ℕ) (items others : List A) (rest more : List ℕ) : Type 0 where
  pub behind : List A
  pub whole : others ≡ items ++ behind
  pub spelled : rest ≡ each_bytes w behind ++ more

more_whole : {A : Type 0} (x y : A) (others whole : List A) → x ≡ y → others ≡ whole → y ∷ others ≡ x ∷ whole
more_whole x y others whole same is = rw (same, is) refl

blocked : {A : Type 0} (w : A → List ℕ) (may : List A → A → Type 0) (items others behind : List A) (rest more : List ℕ) (left : ℕ) → IsNone w (may items) rest left → length items < length others → others ≡ items ++ behind
    → Stand may [] others → rest ≡ each_bytes w behind ++ more → ⊥
blocked {A = A} w may items others [] rest more left none less whole stand spelled = absurd (omega (arith, less, ap length whole, length-append items []))
blocked {A = A} w may items others (a ∷ behind) rest more left none less whole stand spelled =
    none.1 a (each_bytes w behind ++ more) (stand_at may [] items a behind (subst (λ (l : List A). Stand may [] l) whole stand)) (spelled ∙ append_assoc (w a) (each_bytes w behind) more)

alike : {A : Type 0} {w : A → List ℕ} (items others : List A) (rest more : List ℕ) → length items ≡ length others → GoesOn w items others rest more → SameFront items others rest more
alike {A = A} {w = w} items others rest more same on =
    let empty : on.behind ≡ [] = nil_of on.behind (omega (arith, same, ap length on.whole, length-append items on.behind)) in
    record {
      same = sym (on.whole ∙ (ap (λ (l : List A). items ++ l) empty ∙ append-nil items));
      rests = on.spelled ∙ ap (λ (l : List A). each_bytes w l ++ more) empty;
    }

module _ {A : Type 0} {w : A → List ℕ} {f : A → Type 0} {bad : List ℕ → ℕ → Type 0} where
  goes_on : Exact w f bad → (items others : List A) (rest more : List ℕ) → Each f items → Each f others → length items ≤ length others
      → each_bytes w items ++ rest ≡ each_bytes w others ++ more → GoesOn w items others rest more
  goes_on one [] others rest more fit fits less is = record { behind = others; whole = refl; spelled = is }
  goes_on one (x ∷ items) [] rest more fit fits less is = absurd (omega arith)
  goes_on one (x ∷ items) (y ∷ others) rest more fit fits less is =
      let first = one.front x y (each_bytes w items ++ rest) (each_bytes w others ++ more) fit.0 fits.0
      (sym (append_assoc (w x) (each_bytes w items) rest) ∙ (is ∙ append_assoc (w y) (each_bytes w others) more)) in
      let behind = goes_on one items others rest more fit.1 fits.1 (omega arith) first.rests in
      record { behind = behind.behind; whole = more_whole x y others (items ++ behind.behind) first.same behind.whole; spelled = behind.spelled }

  module _ (may : List A → A → Type 0) (plain : (before : List A) (a : A) → may before a → f a) where
    each_front : Exact w f bad → (items others : List A) (rest more : List ℕ) → length items ≡ length others → Stand may [] items → Stand may [] others
        → each_bytes w items ++ rest ≡ each_bytes w others ++ more → SameFront items others rest more
    each_front one items others rest more same stand stands is =
        alike items others rest more same
        (goes_on one items others rest more (stand_each may plain [] items stand) (stand_each may plain [] others stands) (omega (arith, same)) is)

    stops_ahead : Exact w f bad → (count : ℕ) (bytes : List ℕ) (left : ℕ) (others : List A) (more : List ℕ) → (is : IsBadItem w may count bytes left) → length is.items < length others
        → Stand may [] others → bytes ≡ each_bytes w others ++ more → ⊥
    stops_ahead one count bytes left others more is less stands spelled =
        let on = goes_on one is.items others is.rest more (stand_each may plain [] is.items is.stand) (stand_each may plain [] others stands) (omega (arith, less)) (sym is.spelled ∙ spelled) in
        blocked w may is.items others on.behind is.rest more left is.none less on.whole stands on.spelled

    each_places : Exact w f bad → (count : ℕ) (bytes : List ℕ) (left other : ℕ) → IsBadItem w may count bytes left → IsBadItem w may count bytes other → left ≡ other
    each_places one count bytes left other is also =
        elim (cases_lt (length is.items) (length also.items)) [
          | inl less ↦ absurd (stops_ahead one count bytes left also.items also.rest is less also.stand also.spelled)
          | inr enough ↦
              elim (cases_lt (length also.items) (length is.items)) [
                | inl less ↦ absurd (stops_ahead one count bytes other is.items is.rest also less is.stand is.spelled)
                | inr within ↦
                    let front = each_front one is.items also.items is.rest also.rest (omega (arith, enough, within)) is.stand also.stand (sym is.spelled ∙ also.spelled) in
                    is.none.0 ∙ (ap length front.rests ∙ sym also.none.0)
              ]
        ]

    each_exact : Exact w f bad → (count : ℕ) → Exact (each_bytes w) (AreSoMany may count) (IsBadItem w may count)
    each_exact one count = record {
      front = λ items others rest more fit fits is. each_front one items others rest more (fit.0 ∙ sym fits.0) fit.1 fits.1 is;
      none = λ bytes left items rest is fit spelled. stops_ahead one count bytes left items rest is (omega (arith, is.within, fit.0)) fit.1 spelled;
      places = each_places one count;
    }

    counted_exact : Exact w f bad → Exact (λ (p : ℕ × List A). number_bytes p.0 ++ each_bytes w p.1) (λ (p : ℕ × List A). IsLong p.0 × AreSoMany may p.0 p.1) (IsBadList w may)
    counted_exact one = pair_exact (reads_exact number_reads) (each_exact one)

    pub list_exact : Exact w f bad → Exact (list_bytes w) (IsListOf may) (IsBadList w may)
    list_exact one =
        let pair = counted_exact one in
        record {
          front = λ items others rest more fit fits is.
              let front = pair.front (length items, items) (length others, others) rest more (fit.0, (refl, fit.1)) (fits.0, (refl, fits.1)) is in
              record { same = ap (λ (p : ℕ × List A). p.1) front.same; rests = front.rests };
          none = λ bytes left items rest is fit spelled. pair.none bytes left (length items, items) rest is (fit.0, (refl, fit.1)) spelled;
          places = pair.places;
        }

-- ---- the whole

module _ {A : Type 0} {w : A → List ℕ} {f : A → Type 0} {bad : List ℕ → ℕ → Type 0} where
  pub whole_one : Exact w f bad → (bytes : List ℕ) (a b : A) → IsRecord w f bytes a → IsRecord w f bytes b → a ≡ b
  whole_one one bytes a b is also = (one.front a b [] [] is.1 also.1 (ap (λ (l : List ℕ). l ++ []) (sym is.0 ∙ also.0))).same

  pub whole_none : Exact w f bad → (bytes : List ℕ) (left : ℕ) (a : A) → IsBadPair w f bad IsMore bytes left → IsRecord w f bytes a → ⊥
  whole_none one bytes left a (inl is) whole = one.none bytes left a [] is whole.1 (whole.0 ∙ sym (append-nil (w a)))
  whole_none one bytes left a (inr lies) whole =
      let front = one.front lies.first a lies.rest [] lies.fit whole.1 (sym lies.spelled ∙ (whole.0 ∙ sym (append-nil (w a)))) in
      absurd (omega (arith, lies.behind.1, ap length front.rests))

  whole_places : Exact w f bad → (bytes : List ℕ) (left other : ℕ) → IsBadPair w f bad IsMore bytes left → IsBadPair w f bad IsMore bytes other → left ≡ other
  whole_places one bytes left other (inl is) (inl also) = one.places bytes left other is also
  whole_places one bytes left other (inl is) (inr lies) = absurd (one.none bytes left lies.first lies.rest is lies.fit lies.spelled)
  whole_places one bytes left other (inr lies) (inl is) = absurd (one.none bytes other lies.first lies.rest is lies.fit lies.spelled)
  whole_places one bytes left other (inr lies) (inr also) =
      let front = one.front lies.first also.first lies.rest also.rest lies.fit also.fit (sym lies.spelled ∙ also.spelled) in
      lies.behind.0 ∙ (ap length front.rests ∙ sym also.behind.0)

  pub no_record : Exact w f bad → (bytes : List ℕ) (a : A) (place : ℕ) → IsRecord w f bytes a → IsBadAt (IsBadPair w f bad IsMore) bytes place → ⊥
  no_record one bytes a place whole is = whole_none one bytes is.left a is.is_bad whole

  pub one_place : Exact w f bad → (bytes : List ℕ) (place other : ℕ) → IsBadAt (IsBadPair w f bad IsMore) bytes place → IsBadAt (IsBadPair w f bad IsMore) bytes other → place ≡ other
  one_place one bytes place other is also = omega (arith, is.sum, also.sum, whole_places one bytes is.left also.left is.is_bad also.is_bad)

  pub decoded_again : Exact w f bad → (bytes : List ℕ) (result : Result A RecordFault) → Decodes w f (IsBadPair w f bad IsMore) bytes result → (a : A) → IsRecord w f bytes a → IsDecodedAs a result
  decoded_again one bytes (Ok other) decoded a whole = whole_one one bytes other a decoded whole
  decoded_again one bytes (Err (BadRecord place)) decoded a whole = no_record one bytes a place whole decoded
  decoded_again one bytes (Err Memory) decoded a whole = tt

  pub read_one_way : Exact w f bad → IsReadOneWay w f (IsBadPair w f bad IsMore)
  read_one_way one = record { one = whole_one one; none = no_record one; places = one_place one }
