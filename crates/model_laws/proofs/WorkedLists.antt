-- Rows of the table of lists, each found by computation.
use Rattle.std.proofs.Common.{◌≡◌, refl, ℕ, pos, negsuc, List, [], ◌∷◌, None, codes}
use Rattle.py_value.specs.Contents.{Contents, nothing, int, text, object}
use Rattle.py_model.specs.Effect.{Answers, effect, after}
use Rattle.py_model.specs.Faults.{index_error}
use Rattle.py_model.specs.Lists.{list_display, append, insert, pop}
use Rattle.py_model.specs.Plan.{Plan}
use Rattle.py_model.specs.Store.{RunStore, empty}
use Rattle.model_laws.specs.Reading.{items_at}
use Rattle.model_laws.specs.Results.{leaves, throws}
use Rattle.model_laws.specs.TableLists.{append_is, getitem_is, pop_is, insert_is, delitem_is}

abbrev pub n : ℕ → Contents
n k = int (pos k)

abbrev pub devices : Answers
devices = record { given = λ what. None; found = λ path. None }

abbrev pub then_store : RunStore → Plan → RunStore
then_store store p = after (effect store devices p) store

-- the list `[7, 8, 9]` is object 0
abbrev numbers : List Contents
numbers = n 7 ∷ n 8 ∷ n 9 ∷ []

abbrev store : RunStore
store = then_store empty (list_display numbers)

read_back : items_at store 0 ≡ numbers
read_back = refl

appended : append_is numbers (n 1) ≡ leaves nothing (n 7 ∷ n 8 ∷ n 9 ∷ n 1 ∷ [])
appended = refl

append_read : items_at (then_store store (append (object 0 ∷ (n 1 ∷ [])))) 0 ≡ n 7 ∷ n 8 ∷ n 9 ∷ n 1 ∷ []
append_read = refl

past_the_end : getitem_is numbers (pos 3) ≡ throws index_error (text (codes "index out of range") ∷ [])
past_the_end = refl

popped : pop_is numbers (negsuc 1) ≡ leaves (n 8) (n 7 ∷ n 9 ∷ [])
popped = refl

pop_read : items_at (then_store store (pop (object 0 ∷ (int (negsuc 1) ∷ [])))) 0 ≡ n 7 ∷ n 9 ∷ []
pop_read = refl

inserted : insert_is numbers (pos 1) (n 1) ≡ leaves nothing (n 7 ∷ n 1 ∷ n 8 ∷ n 9 ∷ [])
inserted = refl

insert_read : items_at (then_store store (insert (object 0 ∷ (n 1 ∷ (n 1 ∷ []))))) 0 ≡ n 7 ∷ n 1 ∷ n 8 ∷ n 9 ∷ []
insert_read = refl

deleted_below : delitem_is numbers (negsuc 3) ≡ throws index_error (text (codes "index out of range") ∷ [])
deleted_below = refl
