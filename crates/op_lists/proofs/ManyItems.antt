-- Items of a list that are read in a loop.
use Rattle.std.proofs.Common.{◌≡◌, sym, ap, ◌∙◌, arith, append-nil, ℕ, suc, ◌+◌, ◌-◌, ◌<◌, ◌≤◌, List, [], ◌∷◌, ◌++◌}
use Rattle.std.proofs.Math.Path.{fun_ext}
use Rattle.std.proofs.lemmas.List.{map_push, append_assoc}
use Rattle.py_model.specs.Plan.{Plan}
use Rattle.py_model.specs.Walks.{read_value, read_items}
use Rattle.py_value.specs.Contents.{Contents, contents}
use Rattle.py_value.specs.Values.{ValuesView}
use Rattle.py_value.specs.declared.value.Value.{Value}
use Rattle.op_lists.specs.ValuesSeen.{values_seen}
use Rattle.op_work.specs.Work.{Plans}

-- what is left of the reading behind so many items, and behind the next of them
abbrev pub left : ℕ → ℕ → ℕ → ℕ → List Value → Plans (List Contents)
left n o first i items table go = read_items (n - i) o (first + i) (λ rest. go (values_seen table items ++ rest))

abbrev pub next : ℕ → ℕ → ℕ → ℕ → List Value → ValuesView → Contents → (List Contents → Plan) → Plan
next n o first i items table x go = read_items (n - suc i) o (suc (first + i)) (λ rest. go (values_seen table items ++ (x ∷ rest)))

pub left_is : (n o first i : ℕ) (items : List Value) → i < n → (table : ValuesView) (go : List Contents → Plan)
    → left n o first i items table go ≡ read_value o (first + i) (λ x. next n o first i items table x go)
left_is n o first i items less table go = ap (λ m. read_items m o (first + i) (λ rest. go (values_seen table items ++ rest))) (the_count n i less)
  where
    the_count : (n i : ℕ) → i < n → n - i ≡ suc (n - suc i)
    the_count n i less = omega (arith, less)

pub next_is : (n o first i : ℕ) (items new : List Value) (item : Value) → new ≡ items ++ item ∷ [] → (table : ValuesView) (go : List Contents → Plan)
    → next n o first i items table (contents table item) go ≡ left n o first (i + 1) new table go
next_is n o first i items new item is table go =
    ap (λ m. read_items m o (suc (first + i)) (λ rest. go (values_seen table items ++ (contents table item ∷ rest)))) (count n i)
    ∙ (ap (λ m. read_items (n - (i + 1)) o m (λ rest. go (values_seen table items ++ (contents table item ∷ rest)))) (place first i)
    ∙ ap (λ k. read_items (n - (i + 1)) o (first + (i + 1)) k) (fun_ext (λ rest. ap go (sym (behind rest)))))
  where
    count : (n i : ℕ) → n - suc i ≡ n - (i + 1)
    count n i = omega (arith)

    place : (first i : ℕ) → suc (first + i) ≡ first + (i + 1)
    place first i = omega (arith)

    behind : (rest : List Contents) → values_seen table new ++ rest ≡ values_seen table items ++ (contents table item ∷ rest)
    behind rest = ap (λ vs. values_seen table vs ++ rest) is ∙ (ap (λ seen. seen ++ rest) (map_push (contents table) items item)
        ∙ append_assoc (values_seen table items) (contents table item ∷ []) rest)

pub left_none : (n o first i : ℕ) (items : List Value) → n ≤ i → (table : ValuesView) (go : List Contents → Plan) → left n o first i items table go ≡ go (values_seen table items)
left_none n o first i items past table go = ap (λ m. read_items m o (first + i) (λ rest. go (values_seen table items ++ rest))) (none n i past) ∙ ap go (append-nil (values_seen table items))
  where
    none : (n i : ℕ) → n ≤ i → n - i ≡ 0
    none n i past = omega (arith, past)
