-- What an operation that is at its end leaves (this project's profile).
use Rattle.std.specs.Prelude.{◌≡◌, ◌⊎◌, ℕ, ◌+◌, ◌/◌, ◌≤◌, ◌==◌, Bool, true, false, length, List, [], ◌∷◌, Option, Some, None, IsSome}
use Rattle.std.specs.List.{list_any}
use Rattle.prov_base.specs.declared.place.Pos.{Pos}
use Rattle.object_store.specs.Store.{StoreView, content_at, file_at, Notes}
use Rattle.op_work.specs.Work.{WorkView, cost_of, method_in, AreThere, AreNamedSayings}
use Rattle.py_model.specs.declared.doer.Deed.{Deed}
use Rattle.py_model.specs.declared.moment.Answer.{Answer as OneAnswer}
use Rattle.object_store.specs.Named.{IsNamedStore}
use Rattle.py_value.specs.Named.{AreNamedAccesses, IsNamedKind}
use Rattle.py_value.specs.Values.{AreInterned}
use Rattle.py_value.specs.declared.access.Access.{Access}
use Rattle.py_value.specs.declared.access.Access.TheVariants.{Read, Set, Update}
use Rattle.py_value.specs.declared.access.Location.{Location}
use Rattle.py_value.specs.declared.access.Location.TheVariants.{Method, File as FilePlace}
use Rattle.py_value.specs.declared.access.Kind.{Kind}
use Rattle.py_value.specs.declared.access.Kind.TheVariants.{File as FileKind}
use Rattle.py_value.specs.declared.access.Mode.{Mode}

-- the method that stands where a method was read last
abbrev pub read_at : StoreView → Location → Option Pos → Option Pos
read_at store (Method place name) found = method_in (content_at store (Method place name))
read_at store l found = found

abbrev pub last_method : StoreView → List Access → Option Pos → Option Pos
last_method store [] found = found
last_method store (Read l ∷ accesses) found = last_method store accesses (read_at store l found)
last_method store (Set l content ∷ accesses) found = last_method store accesses found
last_method store (Update l how ∷ accesses) found = last_method store accesses found

-- what is told of an operation that happened
pub record IsDeed (work : WorkView) (answer : OneAnswer) (deed : Deed) : Type 0 where
  pub answer_is : deed.answer ≡ answer
  pub made_is : deed.made ≡ work.made
  pub accesses_are : deed.accesses ≡ work.touched
  pub weight_is : deed.weight ≡ work.looks + (work.characters + 63) / 64
  pub method_is : deed.method ≡ last_method work.store work.touched None

-- the name that the operation notes is noted, and every other place keeps its name
abbrev pub Noted : Option (Pos × ℕ) → StoreView → StoreView → Type 0
Noted None old new = new.names ≡ old.names
Noted (Some note) old new = Notes old new note.0 note.1

-- What is so at any time: the operation is paid for, all that it names has numbers, and the files that it appends to are there.
pub record IsSound (work : WorkView) : Type 0 where
  pub pays : cost_of (length work.touched) work.looks work.characters ≤ work.left
  pub interned : AreInterned work.values
  pub store : IsNamedStore work.values work.store
  pub accesses : AreNamedAccesses work.values work.touched
  pub kind : IsNamedKind work.values work.made
  pub there : AreThere work.store work.touched
  pub said : AreNamedSayings work.values work.note work.opens

-- an access sets the file at the path
abbrev pub sets_file : ℕ → Access → Bool
sets_file path (Set (FilePlace other) content) = other == path
sets_file path access = false

-- the path of a file object that is made
abbrev pub path_made : Option Kind → Option ℕ
path_made (Some (FileKind path mode)) = Some path
path_made other = None

-- Of a file object that is made, the file is there, or is set.
abbrev pub HasItsFile : StoreView → List Access → Option Kind → Type 0
HasItsFile store accesses made = (path : ℕ) (mode : Mode) → made ≡ Some (FileKind path mode) → IsSome (file_at store path) ⊎ (list_any (sets_file path) accesses ≡ true)
