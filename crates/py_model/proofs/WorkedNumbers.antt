-- Stores and effects that worked rows are about.
use Rattle.std.specs.Prelude.{ℕ, pos, List, [], ◌∷◌, None, Some}
use Rattle.py_value.specs.Contents.{Contents, int, text, exception_class}
use Rattle.py_value.specs.Seen.{SeenAccess, a_list, a_dict, len_at, item_at, entry_at, order_at, len_is, item_is, entry_is, order_is}
use Rattle.py_value.specs.Same.{put}
use Rattle.py_model.specs.Effect.{Touch, accessed, Effect, Answers, answered, effect, thrown}
use Rattle.py_model.specs.Plan.{Plan, value}
use Rattle.py_model.specs.Store.{RunStore, empty}

-- nothing is captured
abbrev pub no_answers : Answers
no_answers = record { given = λ what. None; found = λ path. None }

-- the lists `[5, 6]` and `[5, 7]`, the dictionary `{1: 8}` and an exception, as objects 0 to 3
abbrev pub small : RunStore
small = record empty {
  at = put (len_at 0) (len_is 2) (put (item_at 0 0) (item_is (int (pos 5))) (put (item_at 0 1) (item_is (int (pos 6)))
      (put (len_at 1) (len_is 2) (put (item_at 1 0) (item_is (int (pos 5))) (put (item_at 1 1) (item_is (int (pos 7)))
      (put (order_at 2) (order_is (int (pos 1) ∷ [])) (put (entry_at 2 (int (pos 1))) (entry_is (Some (int (pos 1), int (pos 8)))) (λ l. None))))))));
  kinds = a_list ∷ a_list ∷ a_dict ∷ [];
}

-- the effect of a plan in that store
abbrev pub does : Plan → Effect
does plan = effect small no_answers plan

-- a value is answered, after these touches
abbrev pub answers : List Touch → Contents → Effect
answers touches v = record { outcome = answered (value v); made = None; touches = touches }

-- an exception of a class of the language is raised, and nothing else was touched
abbrev pub faults : ℕ → List ℕ → Effect
faults number words = thrown small (exception_class number) (text words ∷ [])

abbrev pub all_accessed : List SeenAccess → List Touch
all_accessed [] = []
all_accessed (access ∷ accesses) = accessed access ∷ all_accessed accesses
