-- Rows of the table of dictionaries, each found by computation.
use Rattle.std.proofs.Common.{◌≡◌, refl, true, [], ◌∷◌, codes}
use Rattle.py_value.specs.Contents.{Contents, nothing, truth, text, object}
use Rattle.py_model.specs.Dicts.{dict_display}
use Rattle.py_model.specs.Faults.{key_error}
use Rattle.py_model.specs.Lists.{setitem, delitem}
use Rattle.py_model.specs.Store.{RunStore, empty}
use Rattle.model_laws.specs.Reading.{pairs_at}
use Rattle.model_laws.specs.Results.{leaves, throws}
use Rattle.model_laws.specs.TableDicts.{Pairs, getitem_is, setitem_is}
use Rattle.model_laws.proofs.WorkedLists.{n, then_store}

abbrev a : Contents
a = text (codes "a")

-- the dictionary `{True: 1, 'a': 2}` is object 0
abbrev pairs : Pairs
pairs = (truth true, n 1) ∷ (a, n 2) ∷ []

abbrev store : RunStore
store = then_store empty (dict_display (truth true ∷ n 1 ∷ a ∷ n 2 ∷ []))

read_back : pairs_at store 0 ≡ pairs
read_back = refl

-- `d[1] = 3`: the key that is there keeps its form and its place
exchanged : setitem_is pairs (n 1) (n 3) ≡ leaves nothing ((truth true, n 3) ∷ (a, n 2) ∷ [])
exchanged = refl

exchange_read : pairs_at (then_store store (setitem (object 0 ∷ (n 1 ∷ (n 3 ∷ []))))) 0 ≡ (truth true, n 3) ∷ (a, n 2) ∷ []
exchange_read = refl

-- `del d[1]`, and then `d[1] = 3`: the key goes behind
put_read : pairs_at (then_store (then_store store (delitem (object 0 ∷ (n 1 ∷ [])))) (setitem (object 0 ∷ (n 1 ∷ (n 3 ∷ []))))) 0 ≡ (a, n 2) ∷ (n 1, n 3) ∷ []
put_read = refl

-- `d[2]`
lacks : getitem_is pairs (n 2) ≡ throws key_error (n 2 ∷ [])
lacks = refl
