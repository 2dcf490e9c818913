-- Paths of files (this project's profile): relative, below the current folder, and outside the program's own store.
use Rattle.std.specs.Prelude.{ℕ, nat_le, Bool, true, ◌&&◌, not, List, [], ◌∷◌, length, codes}
use Rattle.std.specs.List.{list_all}
use Rattle.std.specs.Str.{bytes_eq}
use Rattle.prov_base.specs.Pieces.{is_free, pieces_at}

-- a part of a path: not empty, and neither `.` nor `..`
abbrev pub is_part : List ℕ → Bool
is_part part = not (bytes_eq part []) && not (bytes_eq part (codes ".")) && not (bytes_eq part (codes ".."))

-- the first part is not the folder of the program's own store
abbrev pub is_outside_store : List (List ℕ) → Bool
is_outside_store [] = true
is_outside_store (first ∷ parts) = not (bytes_eq first (codes ".noworkflow"))

-- 1 to 255 bytes without a zero byte, whose parts between `/` are parts, the first not the store's folder. So it
-- doesn't begin with `/`, since its first part would be empty.
abbrev pub is_path : List ℕ → Bool
is_path path =
    nat_le 1 (length path) && nat_le (length path) 255 && is_free 0 path
    && list_all is_part (pieces_at 47 path) && is_outside_store (pieces_at 47 path)
