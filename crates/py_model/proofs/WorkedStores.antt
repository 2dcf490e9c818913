-- Words for worked rows: plans run in a store with no capture, and what lists and dictionaries then hold.
use Rattle.std.specs.Prelude.{ℕ, zero, suc, List, [], ◌∷◌, map, Option, Some, None}
use Rattle.py_value.specs.Contents.{Contents, exception_class}
use Rattle.py_value.specs.Seen.{SeenKind, SeenLocation, SeenContent, SeenChange, reads, sets, updates}
use Rattle.py_model.specs.Effect.{Effect, Touch, Answers, accessed, answered, effect, after, thrown}
use Rattle.py_model.specs.Plan.{value, at_end, Plan}
use Rattle.py_model.specs.Store.{RunStore, len_of, item_of, entry_of, order_of}

abbrev pub no_answers : Answers
no_answers = record { given = λ what. None; found = λ path. None }

-- the effect of a plan, and the store after it
abbrev pub run : RunStore → Plan → Effect
run store plan = effect store no_answers plan

abbrev pub then_store : Plan → RunStore → RunStore
then_store plan store = after (run store plan) store

-- the items of a list, and the pairs of a dictionary in their order
abbrev pub items_from : RunStore → ℕ → ℕ → ℕ → List (Option Contents)
items_from store o i zero = []
items_from store o i (suc n) = item_of store o i ∷ items_from store o (suc i) n

abbrev pub list_in : RunStore → ℕ → List (Option Contents)
list_in store o = items_from store o 0 (len_of store o)

abbrev pub dict_in : RunStore → ℕ → List (Option (Contents × Contents))
dict_in store o = map (entry_of store o) (order_of store o)

-- what an operation does: it touches and answers, it makes an object, it comes to an end, or it touches and then raises
abbrev pub answers_with : Contents → List Touch → Effect
answers_with answer touches = record { outcome = answered (value answer); made = None; touches = touches }

abbrev pub makes_with : SeenKind → Contents → List Touch → Effect
makes_with kind answer touches = record { outcome = answered (value answer); made = Some kind; touches = touches }

abbrev pub ends_with : List Touch → Effect
ends_with touches = record { outcome = answered at_end; made = None; touches = touches }

abbrev pub before_all : List Touch → Effect → Effect
before_all [] effect = effect
before_all (touch ∷ touches) effect = record (before_all touches effect) { touches = touch ∷ (before_all touches effect).touches }

abbrev pub raises_in : RunStore → List Touch → ℕ → Contents → Effect
raises_in store touches number words = before_all touches (thrown store (exception_class number) (words ∷ []))

abbrev pub r : SeenLocation → Touch
r l = accessed (reads l)

abbrev pub s : SeenLocation → SeenContent → Touch
s l content = accessed (sets l content)

abbrev pub u : SeenLocation → SeenChange → Touch
u l how = accessed (updates l how)
