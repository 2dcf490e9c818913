-- Two objects whose contents begin one text hold what matches, item by item and entry by entry.
use Rattle.std.proofs.Common.{◌≡◌, ℕ, zero, suc, ◌+◌, ◌≤◌, ◌<◌, pos, Bool, true, false, ◌&&◌, ◌||◌, not, ◌==◌, List, [], ◌∷◌, ◌++◌, slice_get, Option, Some, None, if◌then◌else◌, codes, refl, sym, ap, subst, ◌∙◌, arith, append_assoc, eqb-true}
use Rattle.std.proofs.lemmas.Bool.{false≢true, eqb-false}
use Rattle.std.specs.Str.{bytes_eq}
use Rattle.py_value.specs.Contents.{Contents, text}
use Rattle.py_value.specs.Seen.{SeenKind, a_list, a_dict, an_instance, a_file}
use Rattle.py_value.specs.declared.access.Mode.{Mode}
use Rattle.py_value.specs.declared.access.Mode.TheVariants.{Read, Write, Append}
use Rattle.py_model.proofs.Cuts.{Stop, at_comma, at_square, at_round, at_brace, at_colon, run_cut, rest_of, first_of, name_passes, name_stop, int_cut, literal_cut}
use Rattle.py_model.proofs.GraphAtoms.{strip, shorter, class_named, lead_of, l_other}
use Rattle.py_model.proofs.GraphCuts.{pairs_of, Cut, plain_cut, onward, known, then_cut, longer_cut}
use Rattle.py_model.proofs.GraphValues.{Ready, ready_on, begins_object}
use Rattle.py_model.proofs.GraphWords.{Rest, Words, separator, value_words, items_words, entries_words, attributes_words, content_words}
use Rattle.py_model.proofs.SameGraphs.{file_text, name_text}
use Rattle.py_model.specs.Graph.{mode_text, closed_text, class_text}
use Rattle.py_model.specs.Numbers.{is_int, int_text}
use Rattle.py_model.specs.PlainGraph.{is_name_code, are_name_codes, is_name, IsPlain, HasPlain, HasPlainEntry, IsNamedBy, KeysPlain, AreNames, IsPlainSetting}
use Rattle.py_model.specs.Printing.{literal, holds}
use Rattle.py_model.specs.SameGraph.{Setting, Match, OptionsMatch, EntriesMatch, KeysMatch, ContentMatches}
use Rattle.py_model.specs.Store.{len_of, item_of, entry_of, order_of, offset_of, closed_of}

first_named : (name x : List ℕ) → is_name name ≡ true → is_name_code (first_of (name ++ x)) ≡ true
first_named [] x is = absurd (false≢true is)
first_named (c ∷ name) x is = by_test (is_name_code c) is
  where
    by_test : (b : Bool) → (b && are_name_codes name) ≡ true → b ≡ true
    by_test true all = refl
    by_test false all = all

pub record Named (key : Contents) : Type 0 where
  pub bytes : List ℕ
  pub text_is : key ≡ text bytes
  pub name_is : name_text key ≡ bytes
  pub named : is_name bytes ≡ true

named_key : (key : Contents) → IsNamedBy key → Named key
named_key (text bytes) is = record { bytes = bytes; text_is = refl; name_is = refl; named = is }
named_key other is = absurd is

-- the parts of a file
file_flat : (path : List ℕ) (mode : Mode) (offset : ℕ) (is_closed : Bool) (k : List ℕ) → file_text path mode offset is_closed ++ k
    ≡ codes "file(" ++ (literal path ++ (codes ", " ++ (mode_text mode ++ (codes ", " ++ (int_text (pos offset) ++ (codes ", " ++ (closed_text is_closed ++ (codes ")" ++ k))))))))
file_flat path mode offset is_closed k =
    append_assoc (codes "file(" ++ literal path ++ codes ", " ++ mode_text mode ++ codes ", " ++ int_text (pos offset) ++ codes ", " ++ closed_text is_closed) (codes ")") k
    ∙ (append_assoc (codes "file(" ++ literal path ++ codes ", " ++ mode_text mode ++ codes ", " ++ int_text (pos offset) ++ codes ", ") (closed_text is_closed) (codes ")" ++ k)
    ∙ (append_assoc (codes "file(" ++ literal path ++ codes ", " ++ mode_text mode ++ codes ", " ++ int_text (pos offset)) (codes ", ") (closed_text is_closed ++ (codes ")" ++ k))
    ∙ (append_assoc (codes "file(" ++ literal path ++ codes ", " ++ mode_text mode ++ codes ", ") (int_text (pos offset)) (codes ", " ++ (closed_text is_closed ++ (codes ")" ++ k)))
    ∙ (append_assoc (codes "file(" ++ literal path ++ codes ", " ++ mode_text mode) (codes ", ") (int_text (pos offset) ++ (codes ", " ++ (closed_text is_closed ++ (codes ")" ++ k))))
    ∙ (append_assoc (codes "file(" ++ literal path ++ codes ", ") (mode_text mode) (codes ", " ++ (int_text (pos offset) ++ (codes ", " ++ (closed_text is_closed ++ (codes ")" ++ k)))))
    ∙ (append_assoc (codes "file(" ++ literal path) (codes ", ") (mode_text mode ++ (codes ", " ++ (int_text (pos offset) ++ (codes ", " ++ (closed_text is_closed ++ (codes ")" ++ k))))))
    ∙ append_assoc (codes "file(") (literal path) (codes ", " ++ (mode_text mode ++ (codes ", " ++ (int_text (pos offset) ++ (codes ", " ++ (closed_text is_closed ++ (codes ")" ++ k)))))))))))))

mode_cut : (mode way : Mode) (x y : List ℕ) → mode_text mode ++ x ≡ mode_text way ++ y → (mode ≡ way) × (x ≡ y)
mode_cut Read Read x y is = (refl, strip (codes "'r'") x y is)
mode_cut Write Write x y is = (refl, strip (codes "'w'") x y is)
mode_cut Append Append x y is = (refl, strip (codes "'a'") x y is)
mode_cut Read Write x y is = absurd (omega (arith, ap (λ words. first_of (rest_of words)) is))
mode_cut Read Append x y is = absurd (omega (arith, ap (λ words. first_of (rest_of words)) is))
mode_cut Write Read x y is = absurd (omega (arith, ap (λ words. first_of (rest_of words)) is))
mode_cut Write Append x y is = absurd (omega (arith, ap (λ words. first_of (rest_of words)) is))
mode_cut Append Read x y is = absurd (omega (arith, ap (λ words. first_of (rest_of words)) is))
mode_cut Append Write x y is = absurd (omega (arith, ap (λ words. first_of (rest_of words)) is))

closed_cut : (a b : Bool) (x y : List ℕ) → closed_text a ++ x ≡ closed_text b ++ y → (a ≡ b) × (x ≡ y)
closed_cut true true x y is = (refl, strip (codes "closed") x y is)
closed_cut false false x y is = (refl, strip (codes "open") x y is)
closed_cut true false x y is = absurd (omega (arith, ap first_of is))
closed_cut false true x y is = absurd (omega (arith, ap first_of is))

file_cut : (path other : List ℕ) (mode way : Mode) (m n : ℕ) (a b : Bool) (x y : List ℕ) → is_int (pos m) ≡ true → is_int (pos n) ≡ true → file_text path mode m a ++ x ≡ file_text other way n b ++ y
    → ((path ≡ other) × (mode ≡ way) × (m ≡ n) × (a ≡ b)) × (x ≡ y)
file_cut path other mode way m n a b x y one two is =
    let paths = literal_cut path other _ _ (strip (codes "file(") _ _ (sym (file_flat path mode m a x) ∙ (is ∙ file_flat other way n b y))) in
    let modes = mode_cut mode way _ _ (strip (codes ", ") _ _ paths.1) in
    let offsets = int_cut (pos m) (pos n) _ _ one two at_comma at_comma (strip (codes ", ") _ _ modes.1) in
    let ends = closed_cut a b _ _ (strip (codes ", ") _ _ offsets.1) in
    ((paths.0, modes.0, same_pos offsets.0, ends.0), ap rest_of ends.1)
  where
    same_pos : pos m ≡ pos n → m ≡ n
    same_pos same = cc

module _ (here there : Setting) (plain : IsPlainSetting here) (well : IsPlainSetting there) (many several m n : ℕ) (objects others : ℕ → Words) where
  abbrev Left : List Contents → List Contents → Type 0
  Left = Ready many several m n

  abbrev Stops : Rest → Type 0
  Stops k = (zs : List Contents) → Stop (k zs)

  -- words that close a list or a dictionary
  abbrev square : Rest → Rest
  square k = λ zs. codes "]" ++ k zs

  abbrev brace : Rest → Rest
  brace k = λ zs. codes "}" ++ k zs

  abbrev round : Rest → Rest
  round k = λ zs. codes ")" ++ k zs

  items_stop : (setting : Setting) (words : ℕ → Words) (count o i : ℕ) (k : Rest) → Stops (λ zs. items_words setting words count o (suc i) zs (square k))
  items_stop setting words zero o i k zs = at_square
  items_stop setting words (suc count) o i k zs = by_item (item_of setting.store o (suc i))
    where
      not_first : (suc i == 0) ≡ false
      not_first = by_test (suc i == 0) refl
        where
          by_test : (b : Bool) → (suc i == 0) ≡ b → b ≡ false
          by_test true is = absurd (omega (arith, eqb-true (suc i) 0 is))
          by_test false is = refl

      by_item : (item : Option Contents) → Stop (elim item as (λ x. List ℕ) [ None ↦ codes "]" ++ k zs | Some v ↦ separator (suc i == 0) ++ value_words setting words v zs (λ ys. items_words setting words count o (suc (suc i)) ys (square k)) ])
      by_item None = at_square
      by_item (Some v) = subst (λ b. Stop (separator b ++ value_words setting words v zs (λ ys. items_words setting words count o (suc (suc i)) ys (square k)))) (sym not_first) at_comma

  entries_stop : (setting : Setting) (words : ℕ → Words) (o : ℕ) (keys : List Contents) (k : Rest) → Stops (λ zs. entries_words setting words o false keys zs (brace k))
  entries_stop setting words o [] k zs = at_brace
  entries_stop setting words o (key ∷ keys) k zs = by_entry (entry_of setting.store o key) (entries_stop setting words o keys k zs)
    where
      by_entry : (entry : Option (Contents × Contents)) → Stop (entries_words setting words o false keys zs (brace k)) → Stop (elim entry as (λ x. List ℕ) [
        | None ↦ entries_words setting words o false keys zs (brace k)
        | Some pair ↦ separator false ++ value_words setting words key zs (λ ys. codes ": " ++ value_words setting words pair.1 ys (λ us. entries_words setting words o false keys us (brace k)))
      ])
      by_entry None next = next
      by_entry (Some pair) next = at_comma

  attributes_stop : (setting : Setting) (words : ℕ → Words) (o : ℕ) (keys : List Contents) (k : Rest) → Stops (λ zs. attributes_words setting words o false keys zs (round k))
  attributes_stop setting words o [] k zs = at_round
  attributes_stop setting words o (key ∷ keys) k zs = by_entry (entry_of setting.store o key) (attributes_stop setting words o keys k zs)
    where
      by_entry : (entry : Option (Contents × Contents)) → Stop (attributes_words setting words o false keys zs (round k)) → Stop (elim entry as (λ x. List ℕ) [
        | None ↦ attributes_words setting words o false keys zs (round k)
        | Some pair ↦ separator false ++ (name_text key ++ (codes "=" ++ value_words setting words pair.1 zs (λ us. attributes_words setting words o false keys us (round k))))
      ])
      by_entry None next = next
      by_entry (Some pair) next = at_comma

  -- given that values are cut, and that they begin with no word that closes
  module _
      (each_value : (v w : Contents) → IsPlain v → IsPlain w → (xs ys : List Contents) (k l : Rest) → Left xs ys → Stops k → Stops l → value_words here objects v xs k ≡ value_words there others w ys l
      → Cut here there xs ys k l (value_words here objects v xs k) (λ F G. Match here there (pairs_of F G) v w))
      (no_right : (words : List ℕ) (w : Contents) (ys : List Contents) (l : Rest) → lead_of words ≡ l_other → words ≡ value_words there others w ys l → ⊥)
      (no_left : (words : List ℕ) (v : Contents) (xs : List Contents) (k : Rest) → lead_of words ≡ l_other → value_words here objects v xs k ≡ words → ⊥)
      (texts_same : (a b : List ℕ) → a ≡ b → bytes_eq a b ≡ true) where
    abbrev ItemsMatch : List Contents → List Contents → ℕ → ℕ → ℕ → ℕ → Type 0
    ItemsMatch F G zero o p i = Unit {0}
    ItemsMatch F G (suc count) o p i = OptionsMatch here there (pairs_of F G) (item_of here.store o i) (item_of there.store p i) × ItemsMatch F G count o p (suc i)

    items_all : (F G : List Contents) (count o p i : ℕ) → ItemsMatch F G count o p i → (j : ℕ) → i ≤ j → j < i + count → OptionsMatch here there (pairs_of F G) (item_of here.store o j) (item_of there.store p j)
    items_all F G zero o p i match j low high = absurd (omega (arith, low, high))
    items_all F G (suc count) o p i match j low high = by_test (i == j) refl (λ more. items_all F G count o p (suc i) match.1 j more (omega (arith, high)))
      where
        by_test : (b : Bool) → (i == j) ≡ b → (suc i ≤ j → OptionsMatch here there (pairs_of F G) (item_of here.store o j) (item_of there.store p j))
            → OptionsMatch here there (pairs_of F G) (item_of here.store o j) (item_of there.store p j)
        by_test true is each = let at : i ≡ j = omega (arith, eqb-true i j is) in subst (λ a. OptionsMatch here there (pairs_of F G) (item_of here.store o a) (item_of there.store p a)) at match.0
        by_test false is each = each (omega (arith, low, eqb-false i j is))

    -- a separator, or the first word of a value, where a list would end
    no_item_right : (first : Bool) (words : List ℕ) (w : Contents) (ys : List Contents) (l : Rest) → lead_of words ≡ l_other → (first_of words ≡ 44 → ⊥) → words ≡ separator first ++ value_words there others w ys l → ⊥
    no_item_right true words w ys l at apart is = no_right words w ys l at is
    no_item_right false words w ys l at apart is = apart (ap first_of is)

    no_item_left : (first : Bool) (words : List ℕ) (v : Contents) (xs : List Contents) (k : Rest) → lead_of words ≡ l_other → (first_of words ≡ 44 → ⊥) → separator first ++ value_words here objects v xs k ≡ words → ⊥
    no_item_left true words v xs k at apart is = no_left words v xs k at is
    no_item_left false words v xs k at apart is = apart (sym (ap first_of is))

    no_comma : (c : ℕ) → (c == 44) ≡ false → c ≡ 44 → ⊥
    no_comma c apart is = omega (arith, is, eqb-false c 44 apart)

    items_cut : (count size o p i : ℕ) (xs ys : List Contents) (k l : Rest) → Left xs ys
        → ((j : ℕ) → i ≤ j → j < i + count → HasPlain (item_of here.store o j)) → ((j : ℕ) → i ≤ j → j < i + size → HasPlain (item_of there.store p j))
        → items_words here objects count o i xs (square k) ≡ items_words there others size p i ys (square l)
        → Cut here there xs ys (square k) (square l) (items_words here objects count o i xs (square k)) (λ F G. (count ≡ size) × ItemsMatch F G count o p i)
    items_cut zero zero o p i xs ys k l ready pv pw is = plain_cut here there xs ys _ (square k) (square l) _ is ready.even (omega arith) (λ F G. (refl, tt))
    items_cut zero (suc size) o p i xs ys k l ready pv pw is = by_item (item_of there.store p i) (pw i (omega arith) (omega arith)) is
      where
        by_item : (b : Option Contents) → HasPlain b
            → codes "]" ++ k xs ≡ (elim b as (λ x. List ℕ) [ None ↦ square l ys | Some v ↦ separator (i == 0) ++ value_words there others v ys (λ zs. items_words there others size p (suc i) zs (square l)) ])
            → Cut here there xs ys (square k) (square l) (codes "]" ++ k xs) (λ F G. (0 ≡ suc size) × ItemsMatch F G 0 o p i)
        by_item (Some w) plain same = absurd (no_item_right (i == 0) (codes "]" ++ k xs) w ys _ refl (no_comma 93 refl) same)
        by_item None plain same = absurd plain
    items_cut (suc count) zero o p i xs ys k l ready pv pw is = by_item (item_of here.store o i) refl (pv i (omega arith) (omega arith)) is
      where
        by_item : (a : Option Contents) → item_of here.store o i ≡ a → HasPlain a
            → (elim a as (λ x. List ℕ) [ None ↦ square k xs | Some v ↦ separator (i == 0) ++ value_words here objects v xs (λ zs. items_words here objects count o (suc i) zs (square k)) ]) ≡ codes "]" ++ l ys
            → Cut here there xs ys (square k) (square l) (items_words here objects (suc count) o i xs (square k)) (λ F G. (suc count ≡ 0) × ItemsMatch F G (suc count) o p i)
        by_item (Some v) at plain same = absurd (no_item_left (i == 0) (codes "]" ++ l ys) v xs _ refl (no_comma 93 refl) same)
        by_item None at plain same = absurd plain
    items_cut (suc count) (suc size) o p i xs ys k l ready pv pw is =
        by_items (item_of here.store o i) (item_of there.store p i) (pv i (omega arith) (omega arith)) (pw i (omega arith) (omega arith)) is
        (λ us vs again same. items_cut count size o p (suc i) us vs k l again (λ j low high. pv j (omega (arith, low)) (omega (arith, high))) (λ j low high. pw j (omega (arith, low)) (omega (arith, high))) same)
      where
        next : Rest
        next = λ zs. items_words here objects count o (suc i) zs (square k)

        following : Rest
        following = λ zs. items_words there others size p (suc i) zs (square l)

        by_items : (a b : Option Contents) → HasPlain a → HasPlain b
            → (elim a as (λ x. List ℕ) [ None ↦ square k xs | Some v ↦ separator (i == 0) ++ value_words here objects v xs next ])
            ≡ (elim b as (λ x. List ℕ) [ None ↦ square l ys | Some w ↦ separator (i == 0) ++ value_words there others w ys following ])
            → ((us vs : List Contents) → Left us vs → next us ≡ following vs → Cut here there us vs (square k) (square l) (next us) (λ F G. (count ≡ size) × ItemsMatch F G count o p (suc i)))
            → Cut here there xs ys (square k) (square l) (elim a as (λ x. List ℕ) [ None ↦ square k xs | Some v ↦ separator (i == 0) ++ value_words here objects v xs next ])
            (λ F G. (suc count ≡ suc size) × (OptionsMatch here there (pairs_of F G) a b × ItemsMatch F G count o p (suc i)))
        by_items (Some v) (Some w) pa pb same each =
            let first = each_value v w pa pb xs ys next following ready (items_stop here objects count o i k) (items_stop there others size p i l) (strip (separator (i == 0)) _ _ same) in
            let second = each first.left first.right (ready_on here there many several m n xs ys _ _ _ _ ready first) first.goes_on in
            longer_cut here there xs ys (value_words here objects v xs next) (square k) (square l) _ (separator (i == 0) ++ value_words here objects v xs next) (shorter (separator (i == 0)) _)
            (known here there xs ys (value_words here objects v xs next) (square k) (square l) _ _
            (then_cut here there xs ys (value_words here objects v xs next) next following (square k) (square l) _ _ first (next first.left) (omega arith) second)
            (λ F G it. (ap suc it.1.0, (it.0, it.1.1))))
        by_items None b pa pb same each = absurd pa
        by_items (Some v) None pa pb same each = absurd pb

    entries_cut : (o p : ℕ) (first : Bool) (ks ls : List Contents) → KeysPlain here.store o ks → KeysPlain there.store p ls → (xs ys : List Contents) (k l : Rest) → Left xs ys
        → entries_words here objects o first ks xs (brace k) ≡ entries_words there others p first ls ys (brace l)
        → Cut here there xs ys (brace k) (brace l) (entries_words here objects o first ks xs (brace k)) (λ F G. KeysMatch here there (pairs_of F G) o p ks ls)
    entries_cut o p first [] [] pk pl xs ys k l ready is = plain_cut here there xs ys _ (brace k) (brace l) _ is ready.even (omega arith) (λ F G. tt)
    entries_cut o p first [] (w ∷ ls) pk pl xs ys k l ready is = by_entry (entry_of there.store p w) pl.1 is
      where
        by_entry : (b : Option (Contents × Contents)) → HasPlainEntry b
            → codes "}" ++ k xs ≡ (elim b as (λ x. List ℕ) [
              | None ↦ entries_words there others p first ls ys (brace l)
              | Some pair ↦ separator first ++ value_words there others w ys (λ zs. codes ": " ++ value_words there others pair.1 zs (λ us. entries_words there others p false ls us (brace l)))
            ])
            → Cut here there xs ys (brace k) (brace l) (codes "}" ++ k xs) (λ F G. ⊥)
        by_entry (Some pair) plain same = absurd (no_item_right first (codes "}" ++ k xs) w ys _ refl (no_comma 125 refl) same)
        by_entry None plain same = absurd plain
    entries_cut o p first (v ∷ ks) [] pk pl xs ys k l ready is = by_entry (entry_of here.store o v) pk.1 is
      where
        by_entry : (a : Option (Contents × Contents)) → HasPlainEntry a
            → (elim a as (λ x. List ℕ) [
              | None ↦ entries_words here objects o first ks xs (brace k)
              | Some pair ↦ separator first ++ value_words here objects v xs (λ zs. codes ": " ++ value_words here objects pair.1 zs (λ us. entries_words here objects o false ks us (brace k)))
            ]) ≡ codes "}" ++ l ys
            → Cut here there xs ys (brace k) (brace l) (elim a as (λ x. List ℕ) [
              | None ↦ entries_words here objects o first ks xs (brace k)
              | Some pair ↦ separator first ++ value_words here objects v xs (λ zs. codes ": " ++ value_words here objects pair.1 zs (λ us. entries_words here objects o false ks us (brace k)))
            ]) (λ F G. ⊥)
        by_entry (Some pair) plain same = absurd (no_item_left first (codes "}" ++ l ys) v xs _ refl (no_comma 125 refl) same)
        by_entry None plain same = absurd plain
    entries_cut o p first (v ∷ ks) (w ∷ ls) pk pl xs ys k l ready is =
        by_entries (entry_of here.store o v) (entry_of there.store p w) pk.1 pl.1 is (λ us vs again same. entries_cut o p false ks ls pk.2 pl.2 us vs k l again same)
      where
        next : Rest
        next = λ us. entries_words here objects o false ks us (brace k)

        following : Rest
        following = λ us. entries_words there others p false ls us (brace l)

        by_entries : (a b : Option (Contents × Contents)) → HasPlainEntry a → HasPlainEntry b
            → (elim a as (λ x. List ℕ) [ None ↦ entries_words here objects o first ks xs (brace k) | Some pair ↦ separator first ++ value_words here objects v xs (λ zs. codes ": " ++ value_words here objects pair.1 zs next) ])
            ≡ (elim b as (λ x. List ℕ) [ None ↦ entries_words there others p first ls ys (brace l) | Some pair ↦ separator first ++ value_words there others w ys (λ zs. codes ": " ++ value_words there others pair.1 zs following) ])
            → ((us vs : List Contents) → Left us vs → next us ≡ following vs → Cut here there us vs (brace k) (brace l) (next us) (λ F G. KeysMatch here there (pairs_of F G) o p ks ls))
            → Cut here there xs ys (brace k) (brace l)
            (elim a as (λ x. List ℕ) [ None ↦ entries_words here objects o first ks xs (brace k) | Some pair ↦ separator first ++ value_words here objects v xs (λ zs. codes ": " ++ value_words here objects pair.1 zs next) ])
            (λ F G. Match here there (pairs_of F G) v w × EntriesMatch here there (pairs_of F G) a b × KeysMatch here there (pairs_of F G) o p ks ls)
        by_entries (Some c) (Some d) pa pb same each =
            let after_key = λ (zs : List Contents). codes ": " ++ value_words here objects c.1 zs next in
            let behind_key = λ (zs : List Contents). codes ": " ++ value_words there others d.1 zs following in
            let keys = each_value v w pk.0 pl.0 xs ys after_key behind_key ready (λ zs. at_colon) (λ zs. at_colon) (strip (separator first) _ _ same) in
            let then_ready = ready_on here there many several m n xs ys _ _ _ _ ready keys in
            let values = each_value c.1 d.1 pa pb keys.left keys.right next following then_ready (entries_stop here objects o ks k) (entries_stop there others p ls l) (strip (codes ": ") _ _ keys.goes_on) in
            let rest = each values.left values.right (ready_on here there many several m n keys.left keys.right _ _ _ _ then_ready values) values.goes_on in
            longer_cut here there xs ys (value_words here objects v xs after_key) (brace k) (brace l) _ (separator first ++ value_words here objects v xs after_key) (shorter (separator first) _)
            (known here there xs ys (value_words here objects v xs after_key) (brace k) (brace l) _ _
            (then_cut here there xs ys (value_words here objects v xs after_key) after_key behind_key (brace k) (brace l) _ _ keys (value_words here objects c.1 keys.left next) (shorter (codes ": ") _)
            (then_cut here there keys.left keys.right (value_words here objects c.1 keys.left next) next following (brace k) (brace l) _ _ values (next values.left) (omega arith) rest))
            (λ F G it. (it.0, it.1.0, it.1.1)))
        by_entries None b pa pb same each = absurd pa
        by_entries (Some c) None pa pb same each = absurd pb

    -- names of attributes
    name_pair : (F G : List Contents) (a b : List ℕ) → a ≡ b → pairs_of F G (text a) (text b) ≡ true
    name_pair F G a b same = texts_same a b same

    no_name : (name x words : List ℕ) → is_name name ≡ true → is_name_code (first_of words) ≡ false → words ≡ name ++ x → ⊥
    no_name name x words named at is = false≢true (sym at ∙ (ap is_name_code (ap first_of is) ∙ first_named name x named))

    no_attribute_right : (first : Bool) (words name x : List ℕ) → is_name name ≡ true → is_name_code (first_of words) ≡ false → (first_of words ≡ 44 → ⊥) → words ≡ separator first ++ (name ++ x) → ⊥
    no_attribute_right true words name x named at apart is = no_name name x words named at is
    no_attribute_right false words name x named at apart is = apart (ap first_of is)

    attributes_cut : (o p : ℕ) (first : Bool) (ks ls : List Contents) → KeysPlain here.store o ks → KeysPlain there.store p ls → AreNames ks → AreNames ls → (xs ys : List Contents) (k l : Rest) → Left xs ys
        → attributes_words here objects o first ks xs (round k) ≡ attributes_words there others p first ls ys (round l)
        → Cut here there xs ys (round k) (round l) (attributes_words here objects o first ks xs (round k)) (λ F G. KeysMatch here there (pairs_of F G) o p ks ls)
    attributes_cut o p first [] [] pk pl nk nl xs ys k l ready is = plain_cut here there xs ys _ (round k) (round l) _ is ready.even (omega arith) (λ F G. tt)
    attributes_cut o p first [] (w ∷ ls) pk pl nk nl xs ys k l ready is = by_entry (entry_of there.store p w) pl.1 (named_key w nl.0) is
      where
        by_entry : (b : Option (Contents × Contents)) → HasPlainEntry b → Named w
            → codes ")" ++ k xs ≡ (elim b as (λ x. List ℕ) [
              | None ↦ attributes_words there others p first ls ys (round l)
              | Some pair ↦ separator first ++ (name_text w ++ (codes "=" ++ value_words there others pair.1 ys (λ us. attributes_words there others p false ls us (round l))))
            ])
            → Cut here there xs ys (round k) (round l) (codes ")" ++ k xs) (λ F G. ⊥)
        by_entry (Some pair) plain name same =
            absurd (no_attribute_right first (codes ")" ++ k xs) (name_text w) _ (subst (λ (a : List ℕ). is_name a ≡ true) (sym name.name_is) name.named) refl (no_comma 41 refl) same)
        by_entry None plain name same = absurd plain
    attributes_cut o p first (v ∷ ks) [] pk pl nk nl xs ys k l ready is = by_entry (entry_of here.store o v) pk.1 (named_key v nk.0) is
      where
        by_entry : (a : Option (Contents × Contents)) → HasPlainEntry a → Named v
            → (elim a as (λ x. List ℕ) [
              | None ↦ attributes_words here objects o first ks xs (round k)
              | Some pair ↦ separator first ++ (name_text v ++ (codes "=" ++ value_words here objects pair.1 xs (λ us. attributes_words here objects o false ks us (round k))))
            ]) ≡ codes ")" ++ l ys
            → Cut here there xs ys (round k) (round l) (elim a as (λ x. List ℕ) [
              | None ↦ attributes_words here objects o first ks xs (round k)
              | Some pair ↦ separator first ++ (name_text v ++ (codes "=" ++ value_words here objects pair.1 xs (λ us. attributes_words here objects o false ks us (round k))))
            ]) (λ F G. ⊥)
        by_entry (Some pair) plain name same =
            absurd (no_attribute_right first (codes ")" ++ l ys) (name_text v) _ (subst (λ (a : List ℕ). is_name a ≡ true) (sym name.name_is) name.named) refl (no_comma 41 refl) (sym same))
        by_entry None plain name same = absurd plain
    attributes_cut o p first (v ∷ ks) (w ∷ ls) pk pl nk nl xs ys k l ready is =
        by_entries (entry_of here.store o v) (entry_of there.store p w) pk.1 pl.1 (named_key v nk.0) (named_key w nl.0) is (λ us vs again same. attributes_cut o p false ks ls pk.2 pl.2 nk.1 nl.1 us vs k l again same)
      where
        next : Rest
        next = λ us. attributes_words here objects o false ks us (round k)

        following : Rest
        following = λ us. attributes_words there others p false ls us (round l)

        by_entries : (a b : Option (Contents × Contents)) → HasPlainEntry a → HasPlainEntry b → Named v → Named w
            → (elim a as (λ x. List ℕ) [ None ↦ attributes_words here objects o first ks xs (round k) | Some pair ↦ separator first ++ (name_text v ++ (codes "=" ++ value_words here objects pair.1 xs next)) ])
            ≡ (elim b as (λ x. List ℕ) [ None ↦ attributes_words there others p first ls ys (round l) | Some pair ↦ separator first ++ (name_text w ++ (codes "=" ++ value_words there others pair.1 ys following)) ])
            → ((us vs : List Contents) → Left us vs → next us ≡ following vs → Cut here there us vs (round k) (round l) (next us) (λ F G. KeysMatch here there (pairs_of F G) o p ks ls))
            → Cut here there xs ys (round k) (round l)
            (elim a as (λ x. List ℕ) [ None ↦ attributes_words here objects o first ks xs (round k) | Some pair ↦ separator first ++ (name_text v ++ (codes "=" ++ value_words here objects pair.1 xs next)) ])
            (λ F G. Match here there (pairs_of F G) v w × EntriesMatch here there (pairs_of F G) a b × KeysMatch here there (pairs_of F G) o p ks ls)
        by_entries (Some c) (Some d) pa pb name other same each =
            let names = run_cut is_name_code (name_text v) (name_text w) (codes "=" ++ value_words here objects c.1 xs next) (codes "=" ++ value_words there others d.1 ys following)
            (name_passes (name_text v) (subst (λ (a : List ℕ). is_name a ≡ true) (sym name.name_is) name.named)) (name_passes (name_text w) (subst (λ (a : List ℕ). is_name a ≡ true) (sym other.name_is) other.named))
            refl refl (strip (separator first) _ _ same) in
            let values = each_value c.1 d.1 pa pb xs ys next following ready (attributes_stop here objects o ks k) (attributes_stop there others p ls l) (ap rest_of names.1) in
            let rest = each values.left values.right (ready_on here there many several m n xs ys _ _ _ _ ready values) values.goes_on in
            let same_name : name.bytes ≡ other.bytes = sym name.name_is ∙ (names.0 ∙ other.name_is) in
            longer_cut here there xs ys (value_words here objects c.1 xs next) (round k) (round l) _ (separator first ++ (name_text v ++ (codes "=" ++ value_words here objects c.1 xs next)))
            (omega (arith, shorter (separator first) (name_text v ++ (codes "=" ++ value_words here objects c.1 xs next)), shorter (name_text v) (codes "=" ++ value_words here objects c.1 xs next), shorter (codes "=") (value_words here objects c.1 xs next)))
            (known here there xs ys (value_words here objects c.1 xs next) (round k) (round l) _ _
            (then_cut here there xs ys (value_words here objects c.1 xs next) next following (round k) (round l) _ _ values (next values.left) (omega arith) rest)
            (λ F G it. (subst (λ key. Match here there (pairs_of F G) key w) (sym name.text_is) (subst (λ key. Match here there (pairs_of F G) (text name.bytes) key) (sym other.text_is) (name_pair F G name.bytes other.bytes same_name)), it.0, it.1)))
        by_entries None b pa pb name other same each = absurd pa
        by_entries (Some c) None pa pb name other same each = absurd pb

    -- a list shows `[`, a dictionary `{`, an instance a name and `(`, a file `file(` and a quote
    named_at : (c : ℕ) (setting : Setting) → IsPlainSetting setting → (of : Contents) (x : List ℕ) → is_name_code c ≡ false → c ≡ first_of (class_text setting.script setting.store of ++ x) → ⊥
    named_at c setting fine of x at is = false≢true (sym at ∙ (ap is_name_code is ∙ first_named (class_text setting.script setting.store of) x (class_named setting fine of)))

    quote_at : (path x : List ℕ) → is_name_code (first_of (literal path ++ x)) ≡ false
    quote_at path x = by_quote (holds 39 path && not (holds 34 path))
      where
        by_quote : (b : Bool) → is_name_code (if b then 34 else 39) ≡ false
        by_quote true = refl
        by_quote false = refl

    quote_no_end : (path x : List ℕ) → (first_of (literal path ++ x) == 41) ≡ false
    quote_no_end path x = by_quote (holds 39 path && not (holds 34 path))
      where
        by_quote : (b : Bool) → ((if b then 34 else 39) == 41) ≡ false
        by_quote true = refl
        by_quote false = refl

    -- no attribute begins as a path does
    attributes_begin : (setting : Setting) (words : ℕ → Words) (o : ℕ) (keys : List Contents) → KeysPlain setting.store o keys → AreNames keys → (xs : List Contents) (k : Rest) (path x : List ℕ)
        → attributes_words setting words o true keys xs (round k) ≡ literal path ++ x → ⊥
    attributes_begin setting words o [] pk nk xs k path x is = false≢true (sym (quote_no_end path x) ∙ ap (λ c. c == 41) (sym (ap first_of is)))
    attributes_begin setting words o (key ∷ keys) pk nk xs k path x is = by_entry (entry_of setting.store o key) pk.1 (named_key key nk.0) is
      where
        by_entry : (entry : Option (Contents × Contents)) → HasPlainEntry entry → Named key
            → (elim entry as (λ y. List ℕ) [
              | None ↦ attributes_words setting words o true keys xs (round k)
              | Some pair ↦ separator true ++ (name_text key ++ (codes "=" ++ value_words setting words pair.1 xs (λ us. attributes_words setting words o false keys us (round k))))
            ]) ≡ literal path ++ x → ⊥
        by_entry (Some pair) plain name same =
            false≢true (sym (quote_at path x) ∙ (sym (ap is_name_code (ap first_of same)) ∙ first_named (name_text key) _ (subst (λ (a : List ℕ). is_name a ≡ true) (sym name.name_is) name.named)))
        by_entry None plain name same = absurd plain

    no_file : (setting : Setting) → IsPlainSetting setting → (words : ℕ → Words) (o : ℕ) (of : Contents) → slice_get setting.store.kinds o ≡ Some (an_instance of) → (xs : List Contents) (k : Rest)
        (path : List ℕ) (mode : Mode) (offset : ℕ) (is_closed : Bool) (x : List ℕ) → content_words setting words o (Some (an_instance of)) xs k ≡ file_text path mode offset is_closed ++ x → ⊥
    no_file setting fine words o of at xs k path mode offset is_closed x is =
        let inner = codes ", " ++ (mode_text mode ++ (codes ", " ++ (int_text (pos offset) ++ (codes ", " ++ (closed_text is_closed ++ (codes ")" ++ x)))))) in
        let cut = run_cut is_name_code (class_text setting.script setting.store of) (codes "file") (codes "(" ++ attributes_words setting words o true (order_of setting.store o) xs (round k)) (codes "(" ++ (literal path ++ inner))
        (name_passes _ (class_named setting fine of)) (refl, (refl, (refl, (refl, tt)))) refl refl (is ∙ file_flat path mode offset is_closed x) in
        attributes_begin setting words o (order_of setting.store o) (fine.keys o) (fine.attributes o of at) xs k path inner (ap rest_of cut.1)

    pub content_cut : (o p : ℕ) (left right : SeenKind) → slice_get here.store.kinds o ≡ Some left → slice_get there.store.kinds p ≡ Some right → (xs ys : List Contents) (k l : Rest) → Left xs ys → Stops k → Stops l
        → content_words here objects o (Some left) xs k ≡ content_words there others p (Some right) ys l
        → Cut here there xs ys k l (content_words here objects o (Some left) xs k) (λ F G. ContentMatches here there (pairs_of F G) o p (Some left) (Some right))
    content_cut o p a_list a_list at by xs ys k l ready stops ends is =
        let words = items_words here objects (len_of here.store o) o 0 xs (square k) in
        let cut = items_cut (len_of here.store o) (len_of there.store p) o p 0 xs ys k l ready (λ j low high. plain.items o j (omega (arith, high))) (λ j low high. well.items p j (omega (arith, high))) (ap rest_of is) in
        longer_cut here there xs ys words k l _ (codes "[" ++ words) (shorter (codes "[") words)
        (onward here there xs ys words (square k) (square l) k l _ _ cut (ap rest_of cut.goes_on) (shorter (codes "]") (k cut.left))
        (λ F G it. (it.0, λ i small. items_all F G (len_of here.store o) o p 0 it.1 i (omega arith) (omega (arith, small)))))
    content_cut o p a_dict a_dict at by xs ys k l ready stops ends is =
        let words = entries_words here objects o true (order_of here.store o) xs (brace k) in
        let cut = entries_cut o p true (order_of here.store o) (order_of there.store p) (plain.keys o) (well.keys p) xs ys k l ready (ap rest_of is) in
        longer_cut here there xs ys words k l _ (codes "{" ++ words) (shorter (codes "{") words)
        (onward here there xs ys words (brace k) (brace l) k l _ _ cut (ap rest_of cut.goes_on) (shorter (codes "}") (k cut.left)) (λ F G it. it))
    content_cut o p (an_instance of) (an_instance to) at by xs ys k l ready stops ends is =
        let words = attributes_words here objects o true (order_of here.store o) xs (round k) in
        let names = run_cut is_name_code (class_text here.script here.store of) (class_text there.script there.store to) (codes "(" ++ words) (codes "(" ++ attributes_words there others p true (order_of there.store p) ys (round l))
        (name_passes _ (class_named here plain of)) (name_passes _ (class_named there well to)) refl refl is in
        let cut = attributes_cut o p true (order_of here.store o) (order_of there.store p) (plain.keys o) (well.keys p) (plain.attributes o of at) (well.attributes p to by) xs ys k l ready (ap rest_of names.1) in
        longer_cut here there xs ys words k l _ (class_text here.script here.store of ++ (codes "(" ++ words)) (omega (arith, shorter (codes "(") words, shorter (class_text here.script here.store of) (codes "(" ++ words)))
        (onward here there xs ys words (round k) (round l) k l _ _ cut (ap rest_of cut.goes_on) (shorter (codes ")") (k cut.left)) (λ F G it. (names.0, it)))
    content_cut o p (a_file path mode) (a_file other way) at by xs ys k l ready stops ends is =
        let cut = file_cut path other mode way (offset_of here.store o) (offset_of there.store p) (closed_of here.store o) (closed_of there.store p) (k xs) (l ys) (plain.offsets o) (well.offsets p) is in
        plain_cut here there xs ys _ k l _ cut.1 ready.even (shorter (file_text path mode (offset_of here.store o) (closed_of here.store o)) (k xs)) (λ F G. cut.0)
    content_cut o p a_list a_dict at by xs ys k l ready stops ends is = absurd (omega (arith, ap first_of is))
    content_cut o p a_list (a_file other way) at by xs ys k l ready stops ends is = absurd (omega (arith, ap first_of is))
    content_cut o p a_dict a_list at by xs ys k l ready stops ends is = absurd (omega (arith, ap first_of is))
    content_cut o p a_dict (a_file other way) at by xs ys k l ready stops ends is = absurd (omega (arith, ap first_of is))
    content_cut o p (a_file path mode) a_list at by xs ys k l ready stops ends is = absurd (omega (arith, ap first_of is))
    content_cut o p (a_file path mode) a_dict at by xs ys k l ready stops ends is = absurd (omega (arith, ap first_of is))
    content_cut o p a_list (an_instance to) at by xs ys k l ready stops ends is = absurd (named_at 91 there well to _ refl (ap first_of is))
    content_cut o p a_dict (an_instance to) at by xs ys k l ready stops ends is = absurd (named_at 123 there well to _ refl (ap first_of is))
    content_cut o p (an_instance of) a_list at by xs ys k l ready stops ends is = absurd (named_at 91 here plain of _ refl (sym (ap first_of is)))
    content_cut o p (an_instance of) a_dict at by xs ys k l ready stops ends is = absurd (named_at 123 here plain of _ refl (sym (ap first_of is)))
    content_cut o p (an_instance of) (a_file other way) at by xs ys k l ready stops ends is = absurd (no_file here plain objects o of at xs k other way (offset_of there.store p) (closed_of there.store p) (l ys) is)
    content_cut o p (a_file path mode) (an_instance to) at by xs ys k l ready stops ends is = absurd (no_file there well others p to by ys l path mode (offset_of here.store o) (closed_of here.store o) (k xs) (sym is))

-- an object that is not there shows `?` alone
pub no_kind : (setting : Setting) → IsPlainSetting setting → (words : ℕ → Words) (o : ℕ) (kind : SeenKind) (x : List ℕ) → Stop x → (xs : List Contents) (k : Rest) → codes "?" ++ x ≡ content_words setting words o (Some kind) xs k → ⊥
no_kind setting fine words o a_list x stop xs k is = absurd (omega (arith, ap first_of is))
no_kind setting fine words o a_dict x stop xs k is = absurd (omega (arith, ap first_of is))
no_kind setting fine words o (a_file path mode) x stop xs k is = absurd (omega (arith, ap first_of is))
no_kind setting fine words o (an_instance of) x stop xs k is =
    let cut = run_cut is_name_code (codes "?") (class_text setting.script setting.store of) x _ (refl, tt) (name_passes _ (class_named setting fine of)) (name_stop x stop) refl is in
    none _ (subst Stop cut.1 stop)
  where
    none : (y : List ℕ) → Stop (40 ∷ y) → ⊥
    none y it = elim it [ ]

pub contents_begin : (setting : Setting) → IsPlainSetting setting → (words : ℕ → Words) (o : ℕ) (kind : Option SeenKind) (xs : List Contents) (k : Rest) → begins_object (first_of (content_words setting words o kind xs k)) ≡ true
contents_begin setting fine words o None xs k = refl
contents_begin setting fine words o (Some a_list) xs k = refl
contents_begin setting fine words o (Some a_dict) xs k = refl
contents_begin setting fine words o (Some (an_instance of)) xs k =
    let c = first_of (content_words setting words o (Some (an_instance of)) xs k) in
    ap (λ b. b || ((c == 91) || (c == 123))) (first_named (class_text setting.script setting.store of) _ (class_named setting fine of))
contents_begin setting fine words o (Some (a_file path mode)) xs k = refl
