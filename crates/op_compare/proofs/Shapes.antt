-- What two objects are compared as.
use Rattle.std.proofs.Common.{◌≡◌, refl, ap, ◌∙◌, ℕ, Bool, false, ◌==◌, if◌then◌else◌, Option, Some, None, Result, Ok}
use Rattle.std.proofs.Math.Path.{fun_ext}
use Rattle.py_model.specs.Plan.{Plan, kind_of}
use Rattle.py_model.specs.Faults.{too_deep}
use Rattle.py_model.specs.Walks.{Comparison, alike, apart, Pairs, compare_within, compare_objects, compare_lists, compare_dicts}
use Rattle.py_value.specs.Seen.{SeenKind, a_list, a_dict, an_instance, a_file}
use Rattle.py_value.specs.Values.{ValuesView}
use Rattle.py_value.specs.declared.access.Kind.{Kind}
use Rattle.py_value.specs.declared.access.Kind.TheVariants.{List as ListKind, Dict as DictKind, Instance, File as FileKind}
use Rattle.op_work.specs.Work.{WorkView, seen_kind, Comes, is_any, as_is}
use Rattle.op_work.specs.declared.stop.Stop.{Stop}
use Rattle.op_work.proofs.Going.{comes_then, comes_same}
use Rattle.py_value.specs.Contents.{object}
use Rattle.op_compare.specs.Comparisons.{how_seen}
use Rattle.op_compare.specs.declared.comparison.Comparison.{Comparison as OneComparison}
use Rattle.op_compare.proofs.Plain.{inside_of, within_is}
use Rattle.std.proofs.lemmas.Bool.{ne_eqb}
use Rattle.op_compare.specs.Pairs.{shape_of, shape_seen}
use Rattle.op_compare.specs.declared.pairs.Shape.{Shape}
use Rattle.op_compare.specs.declared.pairs.Shape.TheVariants.{Lists, Dicts, Others}

pub shapes_same : (table : ValuesView) (left right : Option Kind) → shape_seen (seen_kind table left) (seen_kind table right) ≡ shape_of left right
shapes_same table None right = refl
shapes_same table (Some ListKind) None = refl
shapes_same table (Some ListKind) (Some ListKind) = refl
shapes_same table (Some ListKind) (Some DictKind) = refl
shapes_same table (Some ListKind) (Some (Instance of)) = refl
shapes_same table (Some ListKind) (Some (FileKind path mode)) = refl
shapes_same table (Some DictKind) None = refl
shapes_same table (Some DictKind) (Some ListKind) = refl
shapes_same table (Some DictKind) (Some DictKind) = refl
shapes_same table (Some DictKind) (Some (Instance of)) = refl
shapes_same table (Some DictKind) (Some (FileKind path mode)) = refl
shapes_same table (Some (Instance of)) right = refl
shapes_same table (Some (FileKind path mode)) right = refl

-- the comparison goes on with the shape
abbrev pub by_shape : Option Pairs → Bool → ℕ → ℕ → (Comparison → Plan) → Shape → Plan
by_shape (Some pair) ordered o p go Lists = compare_lists pair ordered o p go
by_shape None ordered o p go Lists = too_deep
by_shape (Some pair) ordered o p go Dicts = compare_dicts pair o p go
by_shape None ordered o p go Dicts = too_deep
by_shape inside ordered o p go Others = go apart

one_shape : (inside : Option Pairs) (ordered : Bool) (o p : ℕ) (go : Comparison → Plan) (left right : Option SeenKind)
    → compare_objects inside ordered o p go left right ≡ by_shape inside ordered o p go (shape_seen left right)
one_shape (Some pair) ordered o p go None right = refl
one_shape (Some pair) ordered o p go (Some (an_instance of)) right = refl
one_shape (Some pair) ordered o p go (Some (a_file path mode)) right = refl
one_shape (Some pair) ordered o p go (Some a_list) None = refl
one_shape (Some pair) ordered o p go (Some a_list) (Some a_list) = refl
one_shape (Some pair) ordered o p go (Some a_list) (Some a_dict) = refl
one_shape (Some pair) ordered o p go (Some a_list) (Some (an_instance of)) = refl
one_shape (Some pair) ordered o p go (Some a_list) (Some (a_file path mode)) = refl
one_shape (Some pair) ordered o p go (Some a_dict) None = refl
one_shape (Some pair) ordered o p go (Some a_dict) (Some a_list) = refl
one_shape (Some pair) ordered o p go (Some a_dict) (Some a_dict) = refl
one_shape (Some pair) ordered o p go (Some a_dict) (Some (an_instance of)) = refl
one_shape (Some pair) ordered o p go (Some a_dict) (Some (a_file path mode)) = refl
one_shape None ordered o p go None right = refl
one_shape None ordered o p go (Some (an_instance of)) right = refl
one_shape None ordered o p go (Some (a_file path mode)) right = refl
one_shape None ordered o p go (Some a_list) None = refl
one_shape None ordered o p go (Some a_list) (Some a_list) = refl
one_shape None ordered o p go (Some a_list) (Some a_dict) = refl
one_shape None ordered o p go (Some a_list) (Some (an_instance of)) = refl
one_shape None ordered o p go (Some a_list) (Some (a_file path mode)) = refl
one_shape None ordered o p go (Some a_dict) None = refl
one_shape None ordered o p go (Some a_dict) (Some a_list) = refl
one_shape None ordered o p go (Some a_dict) (Some a_dict) = refl
one_shape None ordered o p go (Some a_dict) (Some (an_instance of)) = refl
one_shape None ordered o p go (Some a_dict) (Some (a_file path mode)) = refl

pub shapes_are : (inside : Option Pairs) (ordered : Bool) (o p : ℕ) (go : Comparison → Plan)
    → kind_of o (λ left. kind_of p (λ right. compare_objects inside ordered o p go left right)) ≡ kind_of o (λ left. kind_of p (λ right. by_shape inside ordered o p go (shape_seen left right)))
shapes_are inside ordered o p go = ap (kind_of o) (fun_ext (λ left. ap (kind_of p) (fun_ext (λ right. one_shape inside ordered o p go left right))))

pub others_apart : (inside : Option Pairs) (ordered : Bool) (o p : ℕ) (go : Comparison → Plan) → by_shape inside ordered o p go Others ≡ go apart
others_apart (Some pair) ordered o p go = refl
others_apart None ordered o p go = refl

-- the two objects have a shape
abbrev pub ShapeComes : ℕ → ℕ → WorkView → Shape → Type 0
ShapeComes o p work shape = Comes {A = Shape} {T = Shape} is_any as_is (λ table (go : Shape → Plan). kind_of o (λ left. kind_of p (λ right. go (shape_seen left right)))) work work (Ok shape)

objects_plan : (levels : ℕ) (ordered : Bool) (o p : ℕ) → (o == p) ≡ false → (go : Comparison → Plan)
    → compare_within levels ordered (object o) (object p) go ≡ kind_of o (λ left. kind_of p (λ right. by_shape (inside_of levels) ordered o p go (shape_seen left right)))
objects_plan levels ordered o p other go = within_is levels ordered (object o) (object p) go
    ∙ (ap (λ b. if b then go alike else kind_of o (λ left. kind_of p (λ right. compare_objects (inside_of levels) ordered o p go left right))) other ∙ shapes_are (inside_of levels) ordered o p go)

-- what two objects that are not the same come to
pub objects_at : (levels : ℕ) (ordered : Bool) (o p : ℕ) → (o ≡ p → ⊥) → {a b : WorkView} {shape : Shape} {result : Result OneComparison Stop} → ShapeComes o p a shape
    → Comes is_any how_seen (λ table go. by_shape (inside_of levels) ordered o p go shape) a b result
    → Comes is_any how_seen (λ table. compare_within levels ordered (object o) (object p)) a b result
objects_at levels ordered o p other known rest = comes_same (λ table. compare_within levels ordered (object o) (object p)) (λ table interned extends go. objects_plan levels ordered o p (ne_eqb o p other) go)
    (comes_then (λ table shape go. by_shape (inside_of levels) ordered o p go shape) known (λ table interned extends go. refl) rest)
