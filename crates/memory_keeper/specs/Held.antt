-- What a keeper in memory holds, and the tables that this stands for (this project's profile).
use Rattle.std.specs.Prelude.{◌≡◌, ℕ, ◌+◌, ◌≤◌, Bool, false, IsTrue, ◌&&◌, nat_le, List, [], ◌∷◌, ◌++◌, map, length, Result, if◌then◌else◌}
use Rattle.std.specs.List.{list_all}
use Rattle.prov_base.specs.declared.place.Digest.{Digest}
use Rattle.prov_outside.specs.Count.{one_more}
use Rattle.prov_outside.specs.Numbering.{Numbering, after_call}
use Rattle.keeper.specs.declared.fault.KeepFault.{KeepFault}
use Rattle.keeper.specs.declared.records.Head.{Head}
use Rattle.keeper.specs.declared.records.Page.{Page}
use Rattle.memory_keeper.specs.declared.tables.Tables.{Tables}
use Rattle.keeper.specs.Batch.{BatchView, empty_batch, last_page, last_content, last_current, over}
use Rattle.keeper.specs.Fault.{has_failed}
use Rattle.keeper.specs.Keeping.{KeeperView}
use Rattle.keeper.specs.Tables.{TablesView, most_trials}

-- the four tables as lists
pub record ListedTables : Type 0 where
  pub heads : List Head
  pub pages : List (ℕ × ℕ × Page)
  pub contents : List (Digest × List ℕ)
  pub current : List (List ℕ × ℕ)

abbrev pub listed : Tables → ListedTables
listed tables = record { heads = tables.heads.items; pages = tables.pages.items; contents = tables.contents.items; current = tables.current.items }

-- the tables that lists stand for: of the entries with one key the last one stands
abbrev pub maps_of : ListedTables → TablesView
maps_of tables = record { heads = tables.heads; pages = last_page tables.pages; contents = last_content tables.contents; current = last_current tables.current }

-- the tables, what was written since the last `begin`, and whether a batch is open
pub record HeldView : Type 0 where
  pub tables : ListedTables
  pub batch : BatchView
  pub is_open : Bool

-- what this tells as a keeper
abbrev pub told_of : HeldView → KeeperView
told_of held = record { committed = maps_of held.tables; seen = over held.batch (maps_of held.tables) }

-- the entries of a batch behind those of the tables
abbrev pub joined : BatchView → ListedTables → ListedTables
joined batch tables = record {
  heads = tables.heads ++ map (λ e. e.1) batch.heads;
  pages = tables.pages ++ batch.pages;
  contents = tables.contents ++ batch.contents;
  current = tables.current ++ batch.current;
}

-- ---- what always holds of it

-- each page is of one of the first so many trials
abbrev pub are_pages_of : ℕ → List (ℕ × ℕ × Page) → Bool
are_pages_of count pages = list_all (λ e. nat_le 1 e.0 && nat_le e.0 count) pages

-- these can be the tables of a keeper: there are not too many heads, and each page is of a trial that has one
abbrev pub are_whole : ListedTables → Bool
are_whole tables = nat_le (length tables.heads) most_trials && are_pages_of (length tables.heads) tables.pages

-- the heads of a batch are those of the trials behind the first so many, in order
abbrev pub AreNext : ℕ → List (ℕ × Head) → Type 0
AreNext count [] = Unit {0}
AreNext count (entry ∷ later) = (entry.0 ≡ count + 1) × AreNext (count + 1) later

pub record IsHeld (tables : ListedTables) (batch : BatchView) (open_batch : Bool) : Type 0 where
  pub few : length tables.heads ≤ most_trials
  pub pages : IsTrue (are_pages_of (length tables.heads) tables.pages)
  pub committed : batch.committed ≡ length tables.heads
  pub next : AreNext batch.committed batch.heads
  pub added : batch.added ≡ length batch.heads
  pub room : batch.committed + batch.added ≤ most_trials
  pub new_pages : IsTrue (are_pages_of (batch.committed + batch.added) batch.pages)
  pub dropped : batch.dropped ≡ []
  pub closed : open_batch ≡ false → batch ≡ empty_batch batch.committed

-- ---- a keeper in memory

-- what it holds, with the numbering of its calls and the count of its faults
pub record MemoryKeeperView : Type 0 where
  pub held : HeldView
  pub calls : Numbering
  pub faults : ℕ

-- the keeper after a call that does nothing but fail or not
abbrev pub after_answer : {T : Type 0} → Result T KeepFault → MemoryKeeperView → MemoryKeeperView
after_answer result keeper = record keeper { calls = after_call keeper.calls; faults = if has_failed result then one_more keeper.faults else keeper.faults }
