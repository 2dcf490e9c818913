-- How rows are cut into pages (this project's profile): a page ends with the row that brings it to 65,536 bytes or more.
use Rattle.std.specs.Prelude.{◌≡◌, ◌<◌, ◌≤◌, ℕ, nat_le, List, [], ◌∷◌, ◌++◌, length, All, if◌then◌else◌}
use Rattle.trace_rows.specs.declared.row.Row.{Row}
use Rattle.trace_rows.specs.Page.{IsPage}
use Rattle.trace_rows.specs.RowBytes.{row_bytes, rows_bytes}

-- the last page is what is there of it, where there is something
abbrev pub last_page : List ℕ → List (List ℕ)
last_page [] = []
last_page (byte ∷ bytes) = (byte ∷ bytes) ∷ []

-- the pages of these rows, where these bytes stand at the front of the first
abbrev pub pages_behind : List ℕ → List Row → List (List ℕ)
pages_behind page [] = last_page page
pages_behind page (row ∷ rows) =
    let more = page ++ row_bytes row in
    if nat_le 65536 (length more) then more ∷ pages_behind [] rows else pages_behind more rows

abbrev pub pages : List Row → List (List ℕ)
pages rows = pages_behind [] rows

-- ---- What pages are, with no machine that cuts them.

-- The first page has the bytes of the first rows. Without the last of these it is less than full, and where rows follow it is full.
pub record IsFirstPage (rows : List Row) (page : List ℕ) (behind : List Row) : Type 0 where
  pub front : List Row
  pub last : Row
  pub in_order : rows ≡ front ++ last ∷ behind
  pub spelled : page ≡ rows_bytes (front ++ last ∷ [])
  pub less : length (rows_bytes front) < 65536
  pub full : 0 < length behind → 65536 ≤ length page

-- each page is the first of the rows that are left, and at the end none is left
abbrev pub AreCut : List Row → List (List ℕ) → Type 0
AreCut rows [] = rows ≡ []
AreCut rows (page ∷ pages) = (behind : List Row) × IsFirstPage rows page behind × AreCut behind pages

-- each page is a page of the next rows, which it is decoded as, and at the end none is left
abbrev pub AreDecodedAs : List Row → List (List ℕ) → Type 0
AreDecodedAs rows [] = rows ≡ []
AreDecodedAs rows (page ∷ pages) = (front : List Row) × (behind : List Row) × (rows ≡ front ++ behind) × IsPage page front × AreDecodedAs behind pages

-- no page is empty
abbrev pub HaveBytes : List (List ℕ) → Type 0
HaveBytes pages = All (λ page. 0 < length page) pages
