-- What the table says of an operation, and when an effect does that (this project's profile).
use Rattle.std.specs.Prelude.{◌≡◌, ℕ, false, List, [], ◌∷◌, ◌++◌, length, Some, None, Bool}
use Rattle.py_value.specs.Contents.{Contents, exception_class, object}
use Rattle.py_value.specs.Seen.{SeenLocation, a_list}
use Rattle.py_model.specs.Effect.{Effect, answered, after, thrown}
use Rattle.py_model.specs.Plan.{Answer, value, at_end}
use Rattle.py_model.specs.Store.{RunStore}
use Rattle.model_laws.specs.Reading.{IsList, is_of, IsFile, FileValue, is_of_file}

-- It answers a value and leaves the object as this; or makes a list of these items, the answer, and leaves the object as it is; or raises
-- an exception of a class of the language with these arguments, and leaves the object as it is; or answers that a sequence is at its end, and leaves
-- everything as it is, or the object as this.
pub data Result (A : Type 0) : Type 0 where
  leaves : Contents → A → Result A
  makes_list : List Contents → Result A
  throws : ℕ → List Contents → Result A
  reaches_end : Result A
  ends_with : A → Result A

-- It answers so, makes nothing, and changes nothing but the object, to which these locations belong: all other locations stay, and so do
-- the kinds, what was printed, the paths that were opened and the names.
pub record Leaves (store : RunStore) (belongs : SeenLocation → Bool) (e : Effect) (answer : Answer) : Type 0 where
  pub answer_is : e.outcome ≡ answered answer
  pub made_is : e.made ≡ None
  pub elsewhere : (l : SeenLocation) → belongs l ≡ false → (after e store).at l ≡ store.at l
  pub rest_stays : after e store ≡ record store { at = (after e store).at }

-- it makes a list of these items, the next object, and answers it, and changes nothing else
pub record MakesList (store : RunStore) (e : Effect) (items : List Contents) : Type 0 where
  pub answer_is : e.outcome ≡ answered (value (object (length store.kinds)))
  pub made_is : e.made ≡ Some a_list
  pub is_list : IsList (after e store) (length store.kinds) items
  pub elsewhere : (l : SeenLocation) → is_of (length store.kinds) l ≡ false → (after e store).at l ≡ store.at l
  pub rest_stays : after e store ≡ record store { at = (after e store).at; kinds = store.kinds ++ a_list ∷ [] }

-- it raises an exception of this class with these arguments, and does nothing else
pub record Throws (store : RunStore) (e : Effect) (number : ℕ) (arguments : List Contents) : Type 0 where
  pub outcome_is : e.outcome ≡ (thrown store (exception_class number) arguments).outcome
  pub made_is : e.made ≡ (thrown store (exception_class number) arguments).made
  pub after_is : after e store ≡ after (thrown store (exception_class number) arguments) store

-- it answers that the sequence is at its end, and changes nothing at all
pub record Ends (store : RunStore) (e : Effect) : Type 0 where
  pub answer_is : e.outcome ≡ answered at_end
  pub made_is : e.made ≡ None
  pub after_is : after e store ≡ store

-- the effect of an operation on an object, to which these locations belong, does what the table says, where this is what the object is as a
-- value
abbrev pub DoesIn : {A : Type 0} → (SeenLocation → Bool) → (RunStore → ℕ → A → Type 0) → RunStore → ℕ → Effect → Result A → Type 0
DoesIn belongs Is store o e (leaves answer is) = Leaves store belongs e (value answer) × Is (after e store) o is
DoesIn belongs Is store o e (makes_list items) = MakesList store e items
DoesIn belongs Is store o e (throws number arguments) = Throws store e number arguments
DoesIn belongs Is store o e reaches_end = Ends store e
DoesIn belongs Is store o e (ends_with is) = Leaves store belongs e at_end × Is (after e store) o is

abbrev pub Does : {A : Type 0} → (RunStore → ℕ → A → Type 0) → RunStore → ℕ → Effect → Result A → Type 0
Does Is store o = DoesIn (is_of o) Is store o

-- so of an operation on a file with this path
abbrev pub DoesToFile : List ℕ → RunStore → ℕ → Effect → Result FileValue → Type 0
DoesToFile path store o = DoesIn (is_of_file o path) IsFile store o

-- what an operation answers that leaves no object but those it makes
abbrev pub gives : Contents → Result (Unit {0})
gives answer = leaves answer tt

-- it answers a value and changes nothing at all
pub record Gives (store : RunStore) (e : Effect) (answer : Contents) : Type 0 where
  pub answer_is : e.outcome ≡ answered (value answer)
  pub made_is : e.made ≡ None
  pub after_is : after e store ≡ store

-- the effect of an operation on texts, tuples, ranges and numbers, and on what a sequence has, does what the table says
abbrev pub DoesAlone : RunStore → Effect → Result (Unit {0}) → Type 0
DoesAlone store e (leaves answer left) = Gives store e answer
DoesAlone store e (makes_list items) = MakesList store e items
DoesAlone store e (throws number arguments) = Throws store e number arguments
DoesAlone store e reaches_end = Ends store e
DoesAlone store e (ends_with left) = Ends store e
