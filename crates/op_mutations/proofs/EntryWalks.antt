-- Entries that are read in a loop.
use Rattle.std.proofs.Common.{◌≡◌, sym, ap, ◌∙◌, append-nil, ℕ, ◌+◌, ◌<◌, ◌≤◌, length, List, [], ◌∷◌, ◌++◌, drop, get_or}
use Rattle.std.proofs.Math.Path.{fun_ext}
use Rattle.std.proofs.lemmas.List.{map_push, append_assoc}
use Rattle.py_model.specs.Dicts.{read_entries}
use Rattle.py_model.specs.Plan.{Plan}
use Rattle.py_value.specs.Contents.{Contents, contents}
use Rattle.py_value.specs.Values.{ValuesView}
use Rattle.py_value.specs.declared.value.Value.{Value}
use Rattle.py_value.specs.declared.value.Value.TheVariants.{None as NoneValue}
use Rattle.op_lists.proofs.Writing.{drop_next, drop_all}
use Rattle.op_lists.specs.ValuesSeen.{values_seen}
use Rattle.op_work.specs.Work.{Plans}
use Rattle.op_mutations.specs.Entries.{value_at}

-- what is left of the reading behind so many keys, and behind the next of them
abbrev pub left : ℕ → List Value → ℕ → List Value → Plans (List Contents)
left o keys i items table go = read_entries o (values_seen table (drop i keys)) (λ rest. go (values_seen table items ++ rest))

abbrev pub next : ℕ → List Value → ℕ → List Value → ValuesView → Contents → (List Contents → Plan) → Plan
next o keys i items table x go = read_entries o (values_seen table (drop (i + 1) keys)) (λ rest. go (values_seen table items ++ (x ∷ rest)))

pub left_is : (o : ℕ) (keys : List Value) (i : ℕ) (items : List Value) → i < length keys → (table : ValuesView) (go : List Contents → Plan)
    → left o keys i items table go ≡ value_at o (contents table (get_or keys i NoneValue)) (λ x. next o keys i items table x go)
left_is o keys i items less table go = ap (λ vs. read_entries o (values_seen table vs) (λ rest. go (values_seen table items ++ rest))) (drop_next keys i less)

pub next_is : (o : ℕ) (keys : List Value) (i : ℕ) (items new : List Value) (item : Value) → new ≡ items ++ item ∷ [] → (table : ValuesView) (go : List Contents → Plan)
    → next o keys i items table (contents table item) go ≡ left o keys (i + 1) new table go
next_is o keys i items new item is table go = ap (λ k. read_entries o (values_seen table (drop (i + 1) keys)) k) (fun_ext (λ rest. ap go (sym (behind rest))))
  where
    behind : (rest : List Contents) → values_seen table new ++ rest ≡ values_seen table items ++ (contents table item ∷ rest)
    behind rest = ap (λ vs. values_seen table vs ++ rest) is ∙ (ap (λ seen. seen ++ rest) (map_push (contents table) items item)
        ∙ append_assoc (values_seen table items) (contents table item ∷ []) rest)

pub left_none : (o : ℕ) (keys : List Value) (i : ℕ) (items : List Value) → length keys ≤ i → (table : ValuesView) (go : List Contents → Plan)
    → left o keys i items table go ≡ go (values_seen table items)
left_none o keys i items past table go = ap (λ vs. read_entries o (values_seen table vs) (λ rest. go (values_seen table items ++ rest))) (drop_all keys i past)
    ∙ ap go (append-nil (values_seen table items))
