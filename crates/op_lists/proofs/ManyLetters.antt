-- Texts of characters that are made in a loop.
use Rattle.std.proofs.Common.{◌≡◌, refl, sym, ap, ◌∙◌, arith, append-nil, ℕ, zero, suc, ◌+◌, ◌<◌, ◌≤◌, length, List, [], ◌∷◌, ◌++◌, map, drop, get_or, encode_utf8}
use Rattle.std.proofs.lemmas.List.{map_push, append_assoc}
use Rattle.py_model.specs.Plan.{Plan}
use Rattle.py_value.specs.Contents.{Contents, contents, text}
use Rattle.py_value.specs.Values.{ValuesView}
use Rattle.py_value.specs.declared.value.Value.{Value}
use Rattle.op_lists.specs.ValuesSeen.{values_seen}

drop_next : (xs : List ℕ) (i x : ℕ) → i < length xs → x ≡ get_or xs i x → drop i xs ≡ x ∷ drop (suc i) xs
drop_next [] i x less is = absurd (omega (arith, less))
drop_next (y ∷ ys) zero x less is = ap (λ z. z ∷ ys) (sym is)
drop_next (y ∷ ys) (suc i) x less is = drop_next ys i x (omega (arith, less)) is

drop_all : (xs : List ℕ) (i : ℕ) → length xs ≤ i → drop i xs ≡ []
drop_all [] zero past = refl
drop_all [] (suc i) past = refl
drop_all (x ∷ xs) zero past = absurd (omega (arith, past))
drop_all (x ∷ xs) (suc i) past = drop_all xs i (omega (arith, past))

-- the texts behind so many, and behind the next of them
abbrev pub left : List ℕ → ℕ → List Value → ValuesView → (List Contents → Plan) → Plan
left letters i items table go = go (values_seen table items ++ map text (map encode_utf8 (drop i letters)))

abbrev pub next : List ℕ → ℕ → List Value → ValuesView → Contents → (List Contents → Plan) → Plan
next letters i items table x go = go (values_seen table items ++ (x ∷ map text (map encode_utf8 (drop (suc i) letters))))

pub left_is : (letters : List ℕ) (i letter : ℕ) (items : List Value) → i < length letters → letter ≡ get_or letters i letter → (table : ValuesView) (go : List Contents → Plan)
    → left letters i items table go ≡ next letters i items table (text (encode_utf8 letter)) go
left_is letters i letter items less is table go = ap (λ rest. go (values_seen table items ++ map text (map encode_utf8 rest))) (drop_next letters i letter less is)

pub next_is : (letters : List ℕ) (i : ℕ) (items new : List Value) (item : Value) → new ≡ items ++ item ∷ [] → (table : ValuesView) (go : List Contents → Plan)
    → next letters i items table (contents table item) go ≡ left letters (i + 1) new table go
next_is letters i items new item is table go =
    ap (λ k. go (values_seen table items ++ (contents table item ∷ map text (map encode_utf8 (drop k letters))))) (count i)
    ∙ ap go (sym (behind (map text (map encode_utf8 (drop (i + 1) letters)))))
  where
    count : (i : ℕ) → suc i ≡ i + 1
    count i = omega (arith)

    behind : (rest : List Contents) → values_seen table new ++ rest ≡ values_seen table items ++ (contents table item ∷ rest)
    behind rest = ap (λ vs. values_seen table vs ++ rest) is ∙ (ap (λ seen. seen ++ rest) (map_push (contents table) items item)
        ∙ append_assoc (values_seen table items) (contents table item ∷ []) rest)

pub left_none : (letters : List ℕ) (i : ℕ) (items : List Value) → length letters ≤ i → (table : ValuesView) (go : List Contents → Plan) → left letters i items table go ≡ go (values_seen table items)
left_none letters i items past table go = ap (λ rest. go (values_seen table items ++ map text (map encode_utf8 rest))) (drop_all letters i past) ∙ ap go (append-nil (values_seen table items))
