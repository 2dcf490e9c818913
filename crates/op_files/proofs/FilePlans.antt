-- Methods of files as plans, by what an object is.
use Rattle.std.proofs.Common.{◌≡◌, refl, ap, ℕ, Bool, true, false, List, [], ◌∷◌, Option, Some, None, if◌then◌else◌}
use Rattle.std.proofs.Math.Path.{fun_ext}
use Rattle.std.specs.Str.{is_utf8}
use Rattle.op_files.specs.Operands.{file_in, of_object, of_object_text}
use Rattle.op_files.specs.Pieces.{piece_behind, piece_unless, piece_by, piece_plan}
use Rattle.op_files.specs.Written.{appended, written_unless, written_by, closed_by}
use Rattle.op_items.specs.Lines.{is_reading}
use Rattle.op_items.proofs.LineEnds.{counted}
use Rattle.op_work.specs.Work.{seen_kind}
use Rattle.py_model.specs.Faults.{wrong_kind}
use Rattle.py_model.specs.Files.{read_plan, readline_plan, write_plan, write_to, close_plan, taken, not_utf8, wrong_mode}
use Rattle.py_model.specs.Plan.{Plan, kind_of, read_closed, read_offset, read_file}
use Rattle.py_value.specs.Contents.{Contents, object, text}
use Rattle.py_value.specs.Seen.{SeenKind, a_list, a_dict, a_file, an_instance}
use Rattle.py_value.specs.Values.{ValuesView}
use Rattle.py_value.specs.declared.access.Kind.{Kind}
use Rattle.py_value.specs.declared.access.Kind.TheVariants.{List as ListKind, Dict as DictKind, Instance, File as FileKind}
use Rattle.py_value.specs.declared.access.Mode.{Mode}
use Rattle.py_value.specs.declared.access.Mode.TheVariants.{Read, Write, Append}

-- what a plan goes on with
abbrev kind_go : Plan → Option SeenKind → Plan
kind_go (kind_of o go) = go
kind_go other = λ kind. wrong_kind

abbrev closed_go : Plan → Bool → Plan
closed_go (read_closed o go) = go
closed_go other = λ closed. wrong_kind

abbrev offset_go : Plan → ℕ → Plan
offset_go (read_offset o go) = go
offset_go other = λ offset. wrong_kind

abbrev content_go : Plan → Option (List ℕ) → Plan
content_go (read_file path go) = go
content_go other = λ content. wrong_kind

-- ---- pieces

abbrev file_plan : Bool → ℕ → List ℕ → Mode → Plan
file_plan whole o path mode = kind_go (piece_plan whole o) (Some (a_file path mode))

abbrev content_plan : Bool → ℕ → List ℕ → ℕ → Option (List ℕ) → Plan
content_plan whole o path offset = content_go (offset_go (closed_go (file_plan whole o path Read) false) offset)

content_is : (whole : Bool) (o : ℕ) (path : List ℕ) (offset : ℕ) (content : Option (List ℕ)) → content_plan whole o path offset content ≡ piece_behind whole o offset content
content_is whole o path offset None = refl
content_is whole o path offset (Some bytes) = refl

closed_is : (whole : Bool) (o : ℕ) (path : List ℕ) (mode : Mode) (closed : Bool) → closed_go (file_plan whole o path mode) closed ≡ piece_unless whole o path mode closed
closed_is whole o path Read true = refl
closed_is whole o path Write true = refl
closed_is whole o path Append true = refl
closed_is whole o path Read false = ap (read_offset o) (fun_ext (λ offset. ap (read_file path) (fun_ext (content_is whole o path offset))))
closed_is whole o path Write false = refl
closed_is whole o path Append false = refl

kind_is : (whole : Bool) (o : ℕ) (kind : Option SeenKind) → kind_go (piece_plan whole o) kind ≡ piece_by whole o kind
kind_is whole o None = refl
kind_is whole o (Some a_list) = refl
kind_is whole o (Some a_dict) = refl
kind_is whole o (Some (an_instance of)) = refl
kind_is whole o (Some (a_file path mode)) = ap (read_closed o) (fun_ext (closed_is whole o path mode))

pub piece_is : (whole : Bool) (o : ℕ) → piece_plan whole o ≡ kind_of o (piece_by whole o)
piece_is whole o = ap (kind_of o) (fun_ext (kind_is whole o))

pub piece_other : (whole : Bool) (o : ℕ) (table : ValuesView) (kind : Option Kind) → file_in kind ≡ None → piece_by whole o (seen_kind table kind) ≡ wrong_kind
piece_other whole o table None is = refl
piece_other whole o table (Some ListKind) is = refl
piece_other whole o table (Some DictKind) is = refl
piece_other whole o table (Some (Instance of)) is = refl
piece_other whole o table (Some (FileKind path mode)) is = cc

pub piece_read : (whole : Bool) (o : ℕ) (path : List ℕ) (mode : Mode) → is_reading mode ≡ true
    → piece_unless whole o path mode false ≡ read_offset o (λ offset. read_file path (piece_behind whole o offset))
piece_read whole o path Read is = refl
piece_read whole o path Write is = absurd (cc)
piece_read whole o path Append is = absurd (cc)

pub piece_wrong : (whole : Bool) (o : ℕ) (path : List ℕ) (mode : Mode) → is_reading mode ≡ false → piece_unless whole o path mode false ≡ wrong_mode
piece_wrong whole o path Read is = absurd (cc)
piece_wrong whole o path Write is = refl
piece_wrong whole o path Append is = refl

pub read_is : (operands : List Contents) → read_plan operands ≡ of_object operands (piece_plan true)
read_is [] = refl
read_is (object o ∷ []) = refl
read_is (other ∷ []) = refl
read_is (object o ∷ other ∷ more) = refl
read_is (one ∷ other ∷ more) = refl

pub readline_is : (operands : List Contents) → readline_plan operands ≡ of_object operands (piece_plan false)
readline_is [] = refl
readline_is (object o ∷ []) = refl
readline_is (other ∷ []) = refl
readline_is (object o ∷ other ∷ more) = refl
readline_is (one ∷ other ∷ more) = refl

-- bytes that are a text, and bytes that are none
by_utf8 : (b : Bool) (one other : Plan) → b ≡ true → (if b then one else other) ≡ one
by_utf8 true one other is = refl
by_utf8 false one other is = absurd (cc)

by_other : (b : Bool) (one other : Plan) → b ≡ false → (if b then one else other) ≡ other
by_other true one other is = absurd (cc)
by_other false one other is = refl

pub text_taken : (o offset : ℕ) (bytes : List ℕ) → is_utf8 bytes ≡ true → taken o offset bytes ≡ counted o offset bytes
text_taken o offset bytes is = by_utf8 (is_utf8 bytes) (counted o offset bytes) not_utf8 is

pub other_taken : (o offset : ℕ) (bytes : List ℕ) → is_utf8 bytes ≡ false → taken o offset bytes ≡ not_utf8
other_taken o offset bytes is = by_other (is_utf8 bytes) (counted o offset bytes) not_utf8 is

-- ---- writing

abbrev write_file_plan : ℕ → List ℕ → List ℕ → Mode → Plan
write_file_plan o bytes path mode = kind_go (write_to o bytes) (Some (a_file path mode))

write_closed_is : (o : ℕ) (bytes path : List ℕ) (mode : Mode) (closed : Bool) → closed_go (write_file_plan o bytes path mode) closed ≡ written_unless path mode bytes closed
write_closed_is o bytes path Read true = refl
write_closed_is o bytes path Write true = refl
write_closed_is o bytes path Append true = refl
write_closed_is o bytes path Read false = refl
write_closed_is o bytes path Write false = refl
write_closed_is o bytes path Append false = refl

write_kind_is : (o : ℕ) (bytes : List ℕ) (kind : Option SeenKind) → kind_go (write_to o bytes) kind ≡ written_by o bytes kind
write_kind_is o bytes None = refl
write_kind_is o bytes (Some a_list) = refl
write_kind_is o bytes (Some a_dict) = refl
write_kind_is o bytes (Some (an_instance of)) = refl
write_kind_is o bytes (Some (a_file path mode)) = ap (read_closed o) (fun_ext (write_closed_is o bytes path mode))

pub written_is : (o : ℕ) (bytes : List ℕ) → write_to o bytes ≡ kind_of o (written_by o bytes)
written_is o bytes = ap (kind_of o) (fun_ext (write_kind_is o bytes))

pub written_other : (o : ℕ) (bytes : List ℕ) (table : ValuesView) (kind : Option Kind) → file_in kind ≡ None → written_by o bytes (seen_kind table kind) ≡ wrong_kind
written_other o bytes table None is = refl
written_other o bytes table (Some ListKind) is = refl
written_other o bytes table (Some DictKind) is = refl
written_other o bytes table (Some (Instance of)) is = refl
written_other o bytes table (Some (FileKind path mode)) is = cc

pub written_wrong : (path : List ℕ) (mode : Mode) (bytes : List ℕ) → is_reading mode ≡ true → written_unless path mode bytes false ≡ wrong_mode
written_wrong path Read bytes is = refl
written_wrong path Write bytes is = absurd (cc)
written_wrong path Append bytes is = absurd (cc)

pub written_behind : (path : List ℕ) (mode : Mode) (bytes : List ℕ) → is_reading mode ≡ false → written_unless path mode bytes false ≡ appended path bytes
written_behind path Read bytes is = absurd (cc)
written_behind path Write bytes is = refl
written_behind path Append bytes is = refl

pub write_is : (operands : List Contents) → write_plan operands ≡ of_object_text operands write_to
write_is [] = refl
write_is (object o ∷ []) = refl
write_is (one ∷ []) = refl
write_is (object o ∷ text bytes ∷ []) = refl
write_is (object o ∷ other ∷ []) = refl
write_is (one ∷ other ∷ []) = refl
write_is (object o ∷ text bytes ∷ next ∷ more) = refl
write_is (object o ∷ other ∷ next ∷ more) = refl
write_is (one ∷ other ∷ next ∷ more) = refl

-- ---- closing

close_kind_is : (o : ℕ) (kind : Option SeenKind) → kind_go (close_plan (object o ∷ [])) kind ≡ closed_by o kind
close_kind_is o None = refl
close_kind_is o (Some a_list) = refl
close_kind_is o (Some a_dict) = refl
close_kind_is o (Some (an_instance of)) = refl
close_kind_is o (Some (a_file path mode)) = refl

abbrev pub closing : ℕ → Plan
closing o = kind_of o (closed_by o)

pub closing_is : (o : ℕ) → close_plan (object o ∷ []) ≡ closing o
closing_is o = ap (kind_of o) (fun_ext (close_kind_is o))

pub close_is : (operands : List Contents) → close_plan operands ≡ of_object operands closing
close_is [] = refl
close_is (object o ∷ []) = closing_is o
close_is (other ∷ []) = refl
close_is (object o ∷ other ∷ more) = refl
close_is (one ∷ other ∷ more) = refl

pub closed_other : (o : ℕ) (table : ValuesView) (kind : Option Kind) → file_in kind ≡ None → closed_by o (seen_kind table kind) ≡ wrong_kind
closed_other o table None is = refl
closed_other o table (Some ListKind) is = refl
closed_other o table (Some DictKind) is = refl
closed_other o table (Some (Instance of)) is = refl
closed_other o table (Some (FileKind path mode)) is = cc
