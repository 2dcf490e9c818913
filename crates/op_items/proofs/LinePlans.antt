-- The next line of a file, as a plan.
use Rattle.std.proofs.Common.{◌≡◌, refl, ap, ℕ, Bool, true, false, List, [], ◌∷◌, drop, nat_eq, Option, Some, None, if◌then◌else◌}
use Rattle.std.proofs.Math.Path.{fun_ext}
use Rattle.op_items.specs.Lines.{is_reading, line_or_end, line_behind, line_unless, line_of}
use Rattle.py_model.specs.Faults.{wrong_kind}
use Rattle.py_model.specs.Files.{next_line, first_line, taken, is_closed_fault, wrong_mode}
use Rattle.py_model.specs.Plan.{Plan, kind_of, read_closed, read_offset, read_file, writes, write, done_at_end}
use Rattle.py_value.specs.Seen.{SeenKind, a_list, a_dict, a_file, an_instance, offset_at, offset_is}
use Rattle.py_value.specs.declared.access.Mode.{Mode}
use Rattle.py_value.specs.declared.access.Mode.TheVariants.{Read, Write, Append}

-- what a plan goes on with
abbrev kind_go : Plan → Option SeenKind → Plan
kind_go (kind_of o go) = go
kind_go other = λ kind. wrong_kind

abbrev closed_go : Plan → Bool → Plan
closed_go (read_closed o go) = go
closed_go other = λ closed. wrong_kind

abbrev offset_go : Plan → ℕ → Plan
offset_go (read_offset o go) = go
offset_go other = λ offset. wrong_kind

abbrev content_go : Plan → Option (List ℕ) → Plan
content_go (read_file path go) = go
content_go other = λ content. wrong_kind

abbrev file_plan : ℕ → List ℕ → Mode → Plan
file_plan o path mode = kind_go (next_line o) (Some (a_file path mode))

abbrev content_plan : ℕ → List ℕ → ℕ → Option (List ℕ) → Plan
content_plan o path offset = content_go (offset_go (closed_go (file_plan o path Read) false) offset)

-- what is left, and its first line
abbrev rest_plan : ℕ → ℕ → List ℕ → Plan
rest_plan o offset [] = writes (write (offset_at o) (offset_is offset) done_at_end)
rest_plan o offset (byte ∷ bytes) = taken o offset (first_line (byte ∷ bytes))

by_feed : (b : Bool) (o offset byte : ℕ) (rest : List ℕ) → taken o offset (if b then byte ∷ [] else byte ∷ rest) ≡ line_or_end o offset (if b then byte ∷ [] else byte ∷ rest)
by_feed true o offset byte rest = refl
by_feed false o offset byte rest = refl

rest_is : (o offset : ℕ) (rest : List ℕ) → rest_plan o offset rest ≡ line_or_end o offset (first_line rest)
rest_is o offset [] = refl
rest_is o offset (byte ∷ bytes) = by_feed (nat_eq byte 10) o offset byte (first_line bytes)

content_is : (o : ℕ) (path : List ℕ) (offset : ℕ) (content : Option (List ℕ)) → content_plan o path offset content ≡ line_behind o offset content
content_is o path offset None = rest_is o offset (drop offset [])
content_is o path offset (Some bytes) = rest_is o offset (drop offset bytes)

closed_is : (o : ℕ) (path : List ℕ) (mode : Mode) (closed : Bool) → closed_go (file_plan o path mode) closed ≡ line_unless o path mode closed
closed_is o path Read true = refl
closed_is o path Write true = refl
closed_is o path Append true = refl
closed_is o path Read false = ap (read_offset o) (fun_ext (λ offset. ap (read_file path) (fun_ext (content_is o path offset))))
closed_is o path Write false = refl
closed_is o path Append false = refl

kind_is : (o : ℕ) (kind : Option SeenKind) → kind_go (next_line o) kind ≡ line_of o kind
kind_is o None = refl
kind_is o (Some a_list) = refl
kind_is o (Some a_dict) = refl
kind_is o (Some (an_instance of)) = refl
kind_is o (Some (a_file path mode)) = ap (read_closed o) (fun_ext (closed_is o path mode))

pub line_is : (o : ℕ) → next_line o ≡ kind_of o (line_of o)
line_is o = ap (kind_of o) (fun_ext (kind_is o))

-- an open file, by its mode and whether it is closed
pub unless_closed : (o : ℕ) (path : List ℕ) (mode : Mode) → line_unless o path mode true ≡ is_closed_fault
unless_closed o path mode = refl

pub unless_read : (o : ℕ) (path : List ℕ) (mode : Mode) → is_reading mode ≡ true → line_unless o path mode false ≡ read_offset o (λ offset. read_file path (line_behind o offset))
unless_read o path Read is = refl
unless_read o path Write is = absurd (cc)
unless_read o path Append is = absurd (cc)

pub unless_other : (o : ℕ) (path : List ℕ) (mode : Mode) → is_reading mode ≡ false → line_unless o path mode false ≡ wrong_mode
unless_other o path Read is = absurd (cc)
unless_other o path Write is = refl
unless_other o path Append is = refl
