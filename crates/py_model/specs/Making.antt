-- Objects that operations make (this project's profile): a list of given items.
use Rattle.std.specs.Prelude.{ℕ, suc, List, [], ◌∷◌, length}
use Rattle.py_value.specs.Contents.{Contents, object}
use Rattle.py_value.specs.Seen.{a_list, len_at, item_at, len_is, item_is}
use Rattle.py_model.specs.Plan.{Writes, write, done, Plan, makes}

-- items are set from a place of an object on, one after the other
abbrev pub set_items : ℕ → ℕ → List Contents → Writes → Writes
set_items o i [] rest = rest
set_items o i (item ∷ items) rest = write (item_at o i) (item_is item) (set_items o (suc i) items rest)

-- a list of these items is made: its length is set, then its items; it is the answer
abbrev pub new_list : List Contents → Plan
new_list items = makes a_list (λ o. write (len_at o) (len_is (length items)) (set_items o 0 items (done (object o))))
