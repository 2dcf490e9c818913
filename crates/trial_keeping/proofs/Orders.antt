-- Lists that ascend, said by the item ahead of each and by places in the list.
use Rattle.std.proofs.Common.{◌≡◌, ℕ, zero, suc, ◌+◌, ◌-◌, Bool, true, List, [], ◌∷◌, ◌++◌, length, slice_get, Option, Some, None, refl, sym, ap, subst, ◌∙◌, arith}
use Rattle.std.specs.Prelude.{⊤, ◌↔◌}
use Rattle.std.proofs.lemmas.List.{length-append}
use Rattle.std.proofs.lemmas.Bool.Decides.{nat_tests}
use Rattle.std.specs.Ordering.{is_lt, nat_cmp}
use Rattle.std.specs.Cmp.Lexicographic.{slice_cmp, nat_list_cmp_total}
use Rattle.std.specs.declared.cmp.Ordering.{Ordering}
use Rattle.std.specs.declared.cmp.Ordering.TheVariants.{Less, Equal, Greater}
use Rattle.capture.specs.declared.answer.Asked.{Asked}
use Rattle.capture.specs.Answers.{IsEarlier, AreInOrder}
use Rattle.capture.specs.Files.{is_before}
use Rattle.row_words.specs.Fits.{Each, IsList}
use Rattle.trial_keeping.specs.declared.record.FileRecord.{FileRecord}
use Rattle.trial_keeping.specs.RecordFits.{Stand, is_behind, is_next, IsAnswer, is_earlier, AnswersFit, IsFile, is_ahead, FilesFit, IsAheadOfAll, AreAscending}

-- ---- each item is behind the one ahead of it

-- each of these is behind the one ahead of it, the first behind this one
abbrev Follows : {A : Type 0} → (A → A → Bool) → Option A → List A → Type 0
Follows ahead last [] = ⊤
Follows ahead last (item ∷ items) = (is_behind ahead last item ≡ true) × Follows ahead (Some item) items

-- what fits, and is behind the last of those before
abbrev Next : {A : Type 0} → (A → Type 0) → (A → A → Bool) → List A → A → Type 0
Next fits ahead before item = fits item × (is_next ahead before item ≡ true)

at_end : {A : Type 0} (before : List A) (a : A) → slice_get (before ++ a ∷ []) (length before) ≡ Some a
at_end [] a = refl
at_end (b ∷ before) a = at_end before a

abbrev last_of : {A : Type 0} → List A → Option A
last_of items = slice_get items (length items - 1)

last_is : {A : Type 0} (before : List A) (a : A) → last_of (before ++ a ∷ []) ≡ Some a
last_is before a =
    let place : length (before ++ a ∷ []) - 1 ≡ length before = omega (arith, length-append before (a ∷ [])) in
    ap (slice_get (before ++ a ∷ [])) place ∙ at_end before a

to_each : {A : Type 0} (fits : A → Type 0) (ahead : A → A → Bool) (before items : List A) → Stand (Next fits ahead) before items → Each fits items
to_each fits ahead before [] stand = tt
to_each fits ahead before (x ∷ items) stand = (stand.0.0, to_each fits ahead (before ++ x ∷ []) items stand.1)

to_follows : {A : Type 0} (fits : A → Type 0) (ahead : A → A → Bool) (before items : List A) → Stand (Next fits ahead) before items → Follows ahead (last_of before) items
to_follows fits ahead before [] stand = tt
to_follows {A = A} fits ahead before (x ∷ items) stand =
    (stand.0.1, subst (λ (o : Option A). Follows ahead o items) (last_is before x) (to_follows fits ahead (before ++ x ∷ []) items stand.1))

to_stand : {A : Type 0} (fits : A → Type 0) (ahead : A → A → Bool) (before items : List A) → Each fits items → Follows ahead (last_of before) items → Stand (Next fits ahead) before items
to_stand fits ahead before [] each follows = tt
to_stand {A = A} fits ahead before (x ∷ items) each follows =
    ((each.0, follows.0), to_stand fits ahead (before ++ x ∷ []) items each.1 (subst (λ (o : Option A). Follows ahead o items) (sym (last_is before x)) follows.1))

-- ---- answers

earlier : (a b : Asked) → is_earlier a b ≡ true → IsEarlier a b
earlier a b is = grind (arith, nat_tests)

earlier_test : (a b : Asked) → IsEarlier a b → is_earlier a b ≡ true
earlier_test a b is = grind (arith, nat_tests)

one_on : (a : Asked) (answers : List Asked) (i : ℕ) → slice_get (a ∷ answers) (suc i + 1) ≡ slice_get answers (i + 1)
one_on a answers i = let place : suc i + 1 ≡ suc (i + 1) = omega arith in ap (slice_get (a ∷ answers)) place

in_order : (a : Asked) (answers : List Asked) → Follows is_earlier (Some a) answers → AreInOrder (a ∷ answers)
in_order a [] follows zero x y at_x at_y = absurd cc
in_order a [] follows (suc i) x y at_x at_y = absurd cc
in_order a (b ∷ answers) follows zero x y at_x at_y =
    let first : a ≡ x = cc in
    let second : b ≡ y = cc in
    subst (λ (z : Asked). IsEarlier z y) first (subst (λ (z : Asked). IsEarlier a z) second (earlier a b follows.0))
in_order a (b ∷ answers) follows (suc i) x y at_x at_y = in_order b answers follows.1 i x y at_x (sym (one_on a (b ∷ answers) i) ∙ at_y)

follows_in_order : (a : Asked) (answers : List Asked) → AreInOrder (a ∷ answers) → Follows is_earlier (Some a) answers
follows_in_order a [] order = tt
follows_in_order a (b ∷ answers) order = (earlier_test a b (order 0 a b refl refl), follows_in_order b answers (λ i x y at_x at_y. order (suc i) x y at_x (one_on a (b ∷ answers) i ∙ at_y)))

all_in_order : (answers : List Asked) → Follows is_earlier None answers → AreInOrder answers
all_in_order [] follows i x y at_x at_y = absurd cc
all_in_order (a ∷ answers) follows i x y at_x at_y = in_order a answers follows.1 i x y at_x at_y

all_follow : (answers : List Asked) → AreInOrder answers → Follows is_earlier None answers
all_follow [] order = tt
all_follow (a ∷ answers) order = (refl, follows_in_order a answers order)

pub answers_in_order : (answers : List Asked) → AnswersFit answers ↔ IsList IsAnswer answers × AreInOrder answers
answers_in_order answers = (
  λ fit. ((fit.0, to_each IsAnswer is_earlier [] answers fit.1), all_in_order answers (to_follows IsAnswer is_earlier [] answers fit.1)),
  λ order. (order.0.0, to_stand IsAnswer is_earlier [] answers order.0.1 (all_follow answers order.1)),
)

-- ---- files

is_less : (o : Ordering) → is_lt o ≡ true → o ≡ Less
is_less Less is = refl
is_less Equal is = absurd cc
is_less Greater is = absurd cc

before_then : (p q r : List ℕ) → is_before p q ≡ true → is_before q r ≡ true → is_before p r ≡ true
before_then p q r first second = ap is_lt (nat_list_cmp_total.trans p q r (is_less (slice_cmp nat_cmp p q) first) (is_less (slice_cmp nat_cmp q r) second))

ahead_of_all : (file other : FileRecord) (files : List FileRecord) → is_ahead file other ≡ true → IsAheadOfAll other files → IsAheadOfAll file files
ahead_of_all file other [] is all = tt
ahead_of_all file other (next ∷ files) is all = (before_then file.path other.path next.path is all.0, ahead_of_all file other files is all.1)

ascending : (file : FileRecord) (files : List FileRecord) → Follows is_ahead (Some file) files → AreAscending (file ∷ files)
ascending file [] follows = (tt, tt)
ascending file (next ∷ files) follows =
    let behind = ascending next files follows.1 in
    ((follows.0, ahead_of_all file next files follows.0 behind.0), behind)

follows_ascending : (file : FileRecord) (files : List FileRecord) → AreAscending (file ∷ files) → Follows is_ahead (Some file) files
follows_ascending file [] up = tt
follows_ascending file (next ∷ files) up = (up.0.0, follows_ascending next files up.1)

all_ascending : (files : List FileRecord) → Follows is_ahead None files → AreAscending files
all_ascending [] follows = tt
all_ascending (file ∷ files) follows = ascending file files follows.1

files_follow : (files : List FileRecord) → AreAscending files → Follows is_ahead None files
files_follow [] up = tt
files_follow (file ∷ files) up = (refl, follows_ascending file files up)

pub files_ascend : (files : List FileRecord) → FilesFit files ↔ IsList IsFile files × AreAscending files
files_ascend files = (
  λ fit. ((fit.0, to_each IsFile is_ahead [] files fit.1), all_ascending files (to_follows IsFile is_ahead [] files fit.1)),
  λ up. (up.0.0, to_stand IsFile is_ahead [] files up.0.1 (files_follow files up.1)),
)
