-- What an open batch holds, and the tables with it over them (this project's profile).
use Rattle.std.specs.Prelude.{ℕ, ◌-◌, ◌==◌, ◌&&◌, List, [], ◌∷◌, ◌++◌, take, drop, reverse, find, option_map, Option, None, bytes_eq, if◌then◌else◌}
use Rattle.std.specs.List.{list_any}
use Rattle.std.specs.Option.{option_or}
use Rattle.prov_base.specs.declared.place.Digest.{Digest}
use Rattle.keeper.specs.declared.records.Head.{Head}
use Rattle.keeper.specs.declared.records.Page.{Page}
use Rattle.keeper.specs.Tables.{TablesView}

-- How many heads were committed and how many the batch added; the entries that it wrote, the oldest first; and the
-- trials whose committed pages it drops.
pub record BatchView : Type 0 where
  pub committed : ℕ
  pub added : ℕ
  pub heads : List (ℕ × Head)
  pub pages : List (ℕ × ℕ × Page)
  pub contents : List (Digest × List ℕ)
  pub current : List (List ℕ × ℕ)
  pub dropped : List ℕ

-- an empty batch over so many heads
abbrev pub empty_batch : ℕ → BatchView
empty_batch committed = record { committed = committed; added = 0; heads = []; pages = []; contents = []; current = []; dropped = [] }

-- ---- the last entry with a key

abbrev pub last_head : List (ℕ × Head) → ℕ → Option Head
last_head heads trial = option_map (λ e. e.1) (find (λ e. e.0 == trial) (reverse heads))

abbrev pub last_page : List (ℕ × ℕ × Page) → ℕ → ℕ → Option Page
last_page pages trial number = option_map (λ e. e.2) (find (λ e. e.0 == trial && e.1 == number) (reverse pages))

abbrev pub last_content : List (Digest × List ℕ) → Digest → Option (List ℕ)
last_content contents digest = option_map (λ e. e.1) (find (λ e. bytes_eq e.0.bytes digest.bytes) (reverse contents))

abbrev pub last_current : List (List ℕ × ℕ) → List ℕ → Option ℕ
last_current current path = option_map (λ e. e.1) (find (λ e. bytes_eq e.0 path) (reverse current))

-- ---- the tables with a batch over them

-- one more head: that of a trial that is there is replaced, that of the next trial is put behind the others
abbrev pub with_head : List Head → ℕ × Head → List Head
with_head heads entry = take (entry.0 - 1) heads ++ entry.1 ∷ drop entry.0 heads

abbrev pub heads_over : List Head → List (ℕ × Head) → List Head
heads_over heads [] = heads
heads_over heads (entry ∷ later) = heads_over (with_head heads entry) later

-- The batch's entry stands over the committed one. A committed page of a trial that is dropped is absent.
abbrev pub over : BatchView → TablesView → TablesView
over batch tables = record {
  heads = heads_over tables.heads batch.heads;
  pages = λ trial number. option_or (last_page batch.pages trial number) (if list_any (λ d. d == trial) batch.dropped then None else tables.pages trial number);
  contents = λ digest. option_or (last_content batch.contents digest) (tables.contents digest);
  current = λ path. option_or (last_current batch.current path) (tables.current path);
}
