-- What has no attribute of a name, and methods of the language by their names.
use Rattle.std.proofs.Common.{◌≡◌, refl, sym, ap, ◌∙◌, ℕ, ◌+◌, ◌<◌, ◌++◌, List, length, slice_get, codes, Option, Some, None, Err}
use Rattle.std.specs.Option.{option_map}
use Rattle.std.specs.Str.{bytes_eq}
use Rattle.py_model.specs.Classes.{operation}
use Rattle.py_model.specs.Faults.{no_attribute, not_there}
use Rattle.py_model.specs.Plan.{Plan, writes, done}
use Rattle.py_value.specs.Contents.{builtin}
use Rattle.py_value.specs.Seen.{bytes_of, number_by}
use Rattle.py_value.specs.Values.{ValuesView, AreInterned}
use Rattle.op_attributes.specs.Methods.{numbered, given}
use Rattle.op_classes.proofs.NamedTexts.{bytes_stay, bytes_are}
use Rattle.op_work.proofs.Ending.{ends_fault}
use Rattle.op_work.proofs.Going.{extends_then, fault_comes}
use Rattle.op_work.specs.Work.{WorkView, Extends, Ends, Comes, Plans, Faults}
use Rattle.op_work.specs.declared.stop.Stop.{Stop}

-- the words of the exception
abbrev pub lacks : List ℕ → List ℕ
lacks name = codes "no attribute '" ++ name ++ codes "'"

pub lacks_ends : (plan : ValuesView → Plan) (name : ℕ) {a b : WorkView} (stop : Stop) → name < length a.values.texts → Faults 11 (lacks (bytes_of a.values name)) a b stop
    → ((table : ValuesView) → AreInterned table → Extends b.values table → plan table ≡ no_attribute (bytes_of table name)) → Ends plan a b (Err stop)
lacks_ends plan name {a} {b} stop within faults plan_is = ends_fault plan 11 (lacks (bytes_of a.values name)) stop faults
    (λ table interned extends. plan_is table interned extends ∙ ap no_attribute (bytes_stay a.values name within (extends_then faults.kept.extends extends)))

pub lacks_comes : {A T : Type 0} {named : ValuesView → T → Type 0} {seen : ValuesView → T → A} (plan : Plans A) (name : ℕ) {a b : WorkView} (stop : Stop) → name < length a.values.texts
    → Faults 11 (lacks (bytes_of a.values name)) a b stop
    → ((table : ValuesView) → AreInterned table → Extends b.values table → (go : A → Plan) → plan table go ≡ no_attribute (bytes_of table name)) → Comes named seen plan a b (Err stop)
lacks_comes plan name {a} {b} stop within faults plan_is = fault_comes plan 11 (lacks (bytes_of a.values name)) stop faults
    (λ table interned extends go. plan_is table interned extends go ∙ ap no_attribute (bytes_stay a.values name within (extends_then faults.kept.extends extends)))

operation_is : (first : ℕ) (names : List (List ℕ)) (name : List ℕ) → operation first names name ≡ given (numbered first names name)
operation_is first names name = by_place (number_by (bytes_eq name) names)
  where
    by_place : (place : Option ℕ) → (elim place [ None ↦ not_there | Some place ↦ writes (done (builtin (first + place))) ]) ≡ given (option_map (λ place. first + place) place)
    by_place (Some place) = refl
    by_place None = refl

-- the method with a name, whatever the numbers mean later
pub method_is : (first : ℕ) (names : List (List ℕ)) (old : ValuesView) {table : ValuesView} (name : ℕ) (bytes : List ℕ) (number : Option ℕ) → name < length old.texts → Extends old table
    → slice_get old.texts name ≡ Some bytes → number ≡ numbered first names bytes → operation first names (bytes_of table name) ≡ given number
method_is first names old {table} name bytes number within extends is number_is = operation_is first names (bytes_of table name)
    ∙ ap given (ap (numbered first names) (bytes_stay old name within extends ∙ bytes_are old name bytes is) ∙ sym number_is)
