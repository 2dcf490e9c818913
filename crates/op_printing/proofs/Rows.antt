-- The loops of the print walk: what is left from a place on, behind the text that is there.
use Rattle.std.proofs.Common.{◌≡◌, refl, sym, ap, ap₂, ◌∙◌, append-nil, arith, ℕ, zero, suc, ◌+◌, ◌-◌, ◌<◌, ◌≤◌, ◌==◌, true, false, List, [], ◌∷◌, ◌++◌, length, drop, map, Some, slice_get, codes, nat_lt}
use Rattle.std.proofs.Math.Path.{fun_ext}
use Rattle.std.proofs.lemmas.List.{append_assoc, drop_all}
use Rattle.py_model.specs.Faults.{too_deep}
use Rattle.py_model.specs.Plan.{Plan, looks, read_entry}
use Rattle.py_model.specs.Printing.{print_parts, print_items, print_entries, commas, tuple_text, height, key_text, value_in}
use Rattle.py_model.specs.Walks.{read_value}
use Rattle.py_value.specs.Contents.{Contents, parts_by}
use Rattle.py_value.specs.declared.value.Value.{Value}
use Rattle.spelling.specs.Spelling.{follow, end_words}
use Rattle.spelling.proofs.KeyParts.{tuple_words}
use Rattle.op_pieces.specs.Parts.{separator}
use Rattle.op_pieces.proofs.Following.{not_first, place, followed, follow_none}
use Rattle.op_lists.proofs.TupleParts.{drop_next, item_at}

-- items that are left from a place on, what is left behind a text, and what is left once an item more stands there
abbrev pub Items : Type 0
Items = ℕ → (List (List ℕ) → Plan) → Plan

abbrev pub left_of : Items → ℕ → List ℕ → (List ℕ → Plan) → Plan
left_of items i text go = items i (λ rest. go (text ++ follow (i == 0) rest))

abbrev pub next_of : Items → ℕ → List ℕ → (List ℕ → Plan) → Plan
next_of items i made go = items (i + 1) (λ rest. go (made ++ follow false rest))

pub next_is : (items : Items) (i : ℕ) (made : List ℕ) (go : List ℕ → Plan) → next_of items i made go ≡ left_of items (i + 1) made go
next_is items i made go = ap (λ first. items (i + 1) (λ rest. go (made ++ follow first rest))) (sym (not_first i))

pub behind_is : (items : Items) (i : ℕ) (text mid key bytes : List ℕ) (go : List ℕ → Plan) → mid ≡ (text ++ separator (i == 0)) ++ key
    → items (suc i) (λ rest. go (text ++ follow (i == 0) ((key ++ bytes) ∷ rest))) ≡ next_of items i (mid ++ bytes) go
behind_is items i text mid key bytes go is = ap₂ items (place i) (fun_ext (λ rest. ap go (followed (i == 0) text key bytes rest ∙ ap (λ words. (words ++ bytes) ++ follow false rest) (sym is))))

-- no key before an item
alone : (text mid before : List ℕ) → mid ≡ text ++ before → mid ≡ (text ++ before) ++ []
alone text mid before is = is ∙ sym (append-nil (text ++ before))

-- a key that lies too deep, or the value that stands there
abbrev pub entry_next : ℕ → Contents → (Contents → Plan) → Contents → Plan
entry_next levels key go x = elim (nat_lt levels (height key)) [ true ↦ too_deep | false ↦ go x ]

module _ (one : Contents → (List ℕ → Plan) → Plan) where
  -- lists
  abbrev pub row : ℕ → ℕ → Items
  row n o k then = print_items one (n - k) o k then

  pub row_starts : (n o : ℕ) (then : List (List ℕ) → Plan) → print_items one n o 0 then ≡ row n o 0 then
  row_starts n o then = ap (λ m. print_items one m o 0 then) (whole n)
    where
      whole : (n : ℕ) → n ≡ n - 0
      whole n = omega (arith)

  pub row_on : (n o i : ℕ) (text mid : List ℕ) (go : List ℕ → Plan) → i < n → mid ≡ text ++ separator (i == 0)
      → left_of (row n o) i text go ≡ read_value o i (λ x. one x (λ bytes. next_of (row n o) i (mid ++ bytes) go))
  row_on n o i text mid go less is =
      ap (λ m. print_items one m o i (λ rest. go (text ++ follow (i == 0) rest))) (count n i less)
      ∙ ap (read_value o i) (fun_ext (λ x. ap (one x) (fun_ext (λ bytes. behind_is (row n o) i text mid [] bytes go (alone text mid (separator (i == 0)) is)))))
    where
      count : (n i : ℕ) → i < n → n - i ≡ suc (n - suc i)
      count n i less = omega (arith, less)

  pub row_ends : (n o i : ℕ) (text : List ℕ) (go : List ℕ → Plan) → n ≤ i → left_of (row n o) i text go ≡ go text
  row_ends n o i text go past = ap (λ m. print_items one m o i (λ rest. go (text ++ follow (i == 0) rest))) (none n i past) ∙ ap go (follow_none (i == 0) text)
    where
      none : (n i : ℕ) → n ≤ i → n - i ≡ 0
      none n i past = omega (arith, past)

  -- tuples
  abbrev pub parts : (Value → Contents) → List Value → Items
  parts f items k then = print_parts one (parts_by f (drop k items)) then

  pub parts_on : (f : Value → Contents) (items : List Value) (i : ℕ) (text mid : List ℕ) (go : List ℕ → Plan) → i < length items → mid ≡ text ++ separator (i == 0)
      → left_of (parts f items) i text go ≡ looks 1 (one (f (item_at items i)) (λ bytes. next_of (parts f items) i (mid ++ bytes) go))
  parts_on f items i text mid go less is =
      ap (λ vs. print_parts one (parts_by f vs) (λ rest. go (text ++ follow (i == 0) rest))) (drop_next items i less)
      ∙ ap (λ then. looks 1 (one (f (item_at items i)) then)) (fun_ext (λ bytes. behind_is (parts f items) i text mid [] bytes go (alone text mid (separator (i == 0)) is)))

  pub parts_end : (f : Value → Contents) (items : List Value) (i : ℕ) (text : List ℕ) (go : List ℕ → Plan) → length items ≤ i → left_of (parts f items) i text go ≡ go text
  parts_end f items i text go past = ap (λ vs. print_parts one (parts_by f vs) (λ rest. go (text ++ follow (i == 0) rest))) (drop_all i items past) ∙ ap go (follow_none (i == 0) text)

  -- dictionaries
  abbrev pub entries : ℕ → ℕ → (Value → Contents) → List Value → Items
  entries levels o f keys k then = print_entries one levels (map f (drop k keys)) o then

  key_next : (keys : List Value) (i : ℕ) (key : Value) → slice_get keys i ≡ Some key → drop i keys ≡ key ∷ drop (suc i) keys
  key_next [] i key is = cc
  key_next (k ∷ keys) zero key is = ap (λ x. x ∷ keys) (same k key is)
    where
      same : (x y : Value) → Some x ≡ Some y → x ≡ y
      same x y is = cc
  key_next (k ∷ keys) (suc i) key is = key_next keys i key is

  pub entries_on : (levels o : ℕ) (f : Value → Contents) (keys : List Value) (i : ℕ) (key : Value) (text mid : List ℕ) (go : List ℕ → Plan) → slice_get keys i ≡ Some key
      → mid ≡ (text ++ separator (i == 0)) ++ (key_text (f key) ++ codes ": ")
      → left_of (entries levels o f keys) i text go ≡ read_entry o (f key) (λ entry. entry_next levels (f key) (λ x. one x (λ bytes. next_of (entries levels o f keys) i (mid ++ bytes) go)) (value_in entry))
  entries_on levels o f keys i key text mid go at is =
      ap (λ ks. print_entries one levels (map f ks) o (λ rest. go (text ++ follow (i == 0) rest))) (key_next keys i key at)
      ∙ ap (read_entry o (f key)) (fun_ext (λ entry. ap (λ then. entry_next levels (f key) (λ x. one x then) (value_in entry)) (fun_ext (λ bytes.
      ap (λ item. entries levels o f keys (suc i) (λ rest. go (text ++ follow (i == 0) (item ∷ rest)))) (sym (append_assoc (key_text (f key)) (codes ": ") bytes))
      ∙ behind_is (entries levels o f keys) i text mid (key_text (f key) ++ codes ": ") bytes go is))))

  pub entries_end : (levels o : ℕ) (f : Value → Contents) (keys : List Value) (i : ℕ) (text : List ℕ) (go : List ℕ → Plan) → length keys ≤ i → left_of (entries levels o f keys) i text go ≡ go text
  entries_end levels o f keys i text go past = ap (λ ks. print_entries one levels (map f ks) o (λ rest. go (text ++ follow (i == 0) rest))) (drop_all i keys past) ∙ ap go (follow_none (i == 0) text)

  -- so many items come, where there are so many parts
  so_many : (f : Value → Contents) (items : List Value) (go next : List (List ℕ) → Plan) → ((texts : List (List ℕ)) → length texts ≡ length items → go texts ≡ next texts)
      → print_parts one (parts_by f items) go ≡ print_parts one (parts_by f items) next
  so_many f [] go next same = same [] refl
  so_many f (v ∷ items) go next same =
      ap (λ then. looks 1 (one (f v) then)) (fun_ext (λ bytes. so_many f items (λ rest. go (bytes ∷ rest)) (λ rest. next (bytes ∷ rest)) (λ texts count. same (bytes ∷ texts) (ap suc count))))

  pub tuple_by_end : (f : Value → Contents) (items : List Value) (go : List ℕ → Plan)
      → print_parts one (parts_by f items) (λ texts. go (tuple_text texts)) ≡ print_parts one (parts_by f items) (λ texts. go (codes "(" ++ (commas texts ++ end_words (length items))))
  tuple_by_end f items go = so_many f items (λ texts. go (tuple_text texts)) (λ texts. go (codes "(" ++ (commas texts ++ end_words (length items))))
      (λ texts count. ap go (sym (tuple_words texts) ∙ ap (λ n. codes "(" ++ (commas texts ++ end_words n)) count))
