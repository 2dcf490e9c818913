-- The tables with a trial more: its contents, its head, its pages, and that it is the current one of its path (this project's profile).
use Rattle.std.specs.Prelude.{ℕ, ◌+◌, List, [], ◌∷◌, length, Option, Some, None, bytes_eq, if◌then◌else◌}
use Rattle.prov_base.specs.declared.place.Digest.{Digest}
use Rattle.keeper.specs.declared.records.Head.{Head}
use Rattle.keeper.specs.declared.records.Page.{Page}
use Rattle.keeper.specs.Tables.{TablesView, with_trial, with_page, with_content, with_current}
use Rattle.content_store.specs.Contents.{digest_of}

-- Tables, or a digest under which other bytes stand, with the number of these and of the given bytes.
pub data Written : Type 0 where
  put : (tables : TablesView) → Written
  clash : (digest : Digest) → (kept : ℕ) → (given : ℕ) → Written

-- what goes on with the tables, where nothing clashed
abbrev pub go_on : Written → (TablesView → Written) → Written
go_on (put tables) go = go tables
go_on (clash digest kept given) go = clash digest kept given

-- bytes where these stand under their digest: equal bytes are kept once
abbrev pub put_over : List ℕ → Option (List ℕ) → TablesView → Written
put_over bytes None tables = put (with_content (digest_of bytes) bytes tables)
put_over bytes (Some kept) tables = if bytes_eq kept bytes then put tables else clash (digest_of bytes) (length kept) (length bytes)

abbrev pub put_one : List ℕ → TablesView → Written
put_one bytes tables = put_over bytes (tables.contents (digest_of bytes)) tables

-- contents in their order, up to the first that clashes
abbrev pub put_each : List (List ℕ) → TablesView → Written
put_each [] tables = put tables
put_each (bytes ∷ more) tables = go_on (put_one bytes tables) (put_each more)

-- a page of these bytes, with their digest
abbrev pub page_of : List ℕ → Page
page_of bytes = record { digest = digest_of bytes; bytes = bytes }

-- pages of a trial, numbered from here on
abbrev pub with_pages : ℕ → ℕ → List (List ℕ) → TablesView → TablesView
with_pages trial number [] tables = tables
with_pages trial number (bytes ∷ more) tables = with_pages trial (number + 1) more (with_page trial number (page_of bytes) tables)

-- the number of the next trial
abbrev pub next_trial : TablesView → ℕ
next_trial tables = length tables.heads + 1

-- one trial more, with its pages, and current for its path
abbrev pub with_whole : Head → List (List ℕ) → TablesView → TablesView
with_whole head pages tables = with_current head.path (next_trial tables) (with_pages (next_trial tables) 0 pages (with_trial head tables))

-- the contents of a trial, and then the trial
abbrev pub write_in : List (List ℕ) → Head → List (List ℕ) → TablesView → Written
write_in contents head pages tables = go_on (put_each contents tables) (λ with_contents. put (with_whole head pages with_contents))
