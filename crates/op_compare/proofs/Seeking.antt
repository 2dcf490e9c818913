-- A value is sought among the items of a list, one after another.
use Rattle.std.proofs.Common.{◌≡◌, refl, sym, ap, arith, ℕ, suc, ◌+◌, ◌-◌, ◌<◌, ◌≤◌, Bool, true, false, true≢false, Option, Some}
use Rattle.py_model.specs.Lists.{seek}
use Rattle.py_model.specs.Plan.{Plan}
use Rattle.py_model.specs.Walks.{read_value, equals}
use Rattle.py_value.specs.Contents.{Contents, contents}
use Rattle.py_value.specs.Values.{ValuesView}
use Rattle.py_value.specs.declared.value.Value.{Value}

-- what is left from a place on
abbrev pub left : ℕ → ℕ → Value → ℕ → ValuesView → (Option ℕ → Plan) → Plan
left n o v i table go = seek (n - i) o i (contents table v) go

-- an item was compared
abbrev pub by_same : ℕ → (Option ℕ → Plan) → Plan → Bool → Plan
by_same i go next true = go (Some i)
by_same i go next false = next

-- the search goes on with one item, and with what its comparison says
abbrev pub decides : ℕ → ℕ → Value → ℕ → ValuesView → Bool → (Option ℕ → Plan) → Plan
decides n o v i table same go = by_same i go (seek (n - suc i) o (suc i) (contents table v) go) same

abbrev pub next : ℕ → ℕ → Value → ℕ → ValuesView → Contents → (Option ℕ → Plan) → Plan
next n o v i table item go = equals (contents table v) item (λ same. decides n o v i table same go)

pub left_is : (n o : ℕ) (v : Value) (i : ℕ) (table : ValuesView) → i < n → (go : Option ℕ → Plan) → left n o v i table go ≡ read_value o i (λ item. next n o v i table item go)
left_is n o v i table less go = ap (λ m. seek m o i (contents table v) go) (count n i less)
  where
    count : (n i : ℕ) → i < n → n - i ≡ suc (n - suc i)
    count n i less = omega (arith, less)

pub left_more : (n o : ℕ) (v : Value) (i : ℕ) (table : ValuesView) (same : Bool) → same ≡ false → (go : Option ℕ → Plan) → decides n o v i table same go ≡ left n o v (i + 1) table go
left_more n o v i table true is go = absurd (true≢false is)
left_more n o v i table false is go = ap (λ m. seek (n - m) o m (contents table v) go) (place i)
  where
    place : (i : ℕ) → suc i ≡ i + 1
    place i = omega (arith)

pub left_hit : (n o : ℕ) (v : Value) (i : ℕ) (table : ValuesView) (same : Bool) → same ≡ true → (go : Option ℕ → Plan) → decides n o v i table same go ≡ go (Some i)
left_hit n o v i table true is go = refl
left_hit n o v i table false is go = absurd (true≢false (sym is))

pub left_none : (n o : ℕ) (v : Value) (i : ℕ) (table : ValuesView) → n ≤ i → (go : Option ℕ → Plan) → left n o v i table go ≡ seek 0 o i (contents table v) go
left_none n o v i table past go = ap (λ m. seek m o i (contents table v) go) (none n i past)
  where
    none : (n i : ℕ) → n ≤ i → n - i ≡ 0
    none n i past = omega (arith, past)
