-- No public clause cites this file.
-- What lies inside a value, one level deeper.
use Rattle.std.specs.Prelude.{ℕ, zero, suc, Bool, true, false, List, [], ◌++◌, Option, Some, None, codes}
use Rattle.py_model.specs.Faults.{too_deep}
use Rattle.py_model.specs.Plan.{Plan, read_len, read_order, looks}
use Rattle.py_model.specs.Printing.{Printer, print_to, print_parts, print_items, print_entries, commas, tuple_text}
use Rattle.py_value.specs.Contents.{Contents, Parts}
use Rattle.op_printing.specs.Forms.{Inner, whole, a_row, some_entries, a_tuple, bare_parts, only_one, Found, closed}

-- what prints one level deeper, where one is left
abbrev pub deeper : ℕ → Option Printer
deeper zero = None
deeper (suc levels) = Some (print_to levels)

-- the parts of a tuple, the items of a list, and the entries of a dictionary, with commas between
abbrev pub print_joined : Printer → List ℕ → Parts → (List ℕ → Plan) → Plan
print_joined print inside parts go = print_parts (print true inside) parts (λ items. go (commas items))

abbrev pub print_row : Printer → List ℕ → ℕ → ℕ → (List ℕ → Plan) → Plan
print_row print inside o n go = print_items (print true inside) n o 0 (λ items. go (commas items))

abbrev pub print_keyed : Printer → ℕ → List ℕ → ℕ → List Contents → (List ℕ → Plan) → Plan
print_keyed print levels inside o keys go = print_entries (print true inside) levels keys o (λ items. go (commas items))

-- in brackets
abbrev pub listed : Printer → List ℕ → ℕ → (List ℕ → Plan) → Plan
listed print inside o go = read_len o (λ n. print_row print inside o n (λ words. go (codes "[" ++ (words ++ codes "]"))))

abbrev pub keyed : Printer → ℕ → List ℕ → ℕ → (List ℕ → Plan) → Plan
keyed print levels inside o go = read_order o (λ keys. print_keyed print levels inside o keys (λ words. go (codes "{" ++ (words ++ codes "}"))))

abbrev pub tupled : Printer → List ℕ → Parts → (List ℕ → Plan) → Plan
tupled print inside parts go = print_parts (print true inside) parts (λ items. go (tuple_text items))

abbrev pub inner_text : ℕ → Option Printer → List ℕ → Inner → (List ℕ → Plan) → Plan
inner_text levels above inside whole go = go []
inner_text levels None inside inner go = too_deep
inner_text levels (Some print) inside (a_row o) go = listed print inside o go
inner_text levels (Some print) inside (some_entries o) go = keyed print levels inside o go
inner_text levels (Some print) inside (a_tuple parts) go = tupled print inside parts go
inner_text levels (Some print) inside (bare_parts parts) go = print_joined print inside parts go
inner_text levels (Some print) inside (only_one quoted v) go = looks 1 (print quoted inside v go)

abbrev pub found_text : ℕ → Option Printer → Found → (List ℕ → Plan) → Plan
found_text levels above found go = inner_text levels above found.inside found.inner (λ bytes. go (found.before ++ (bytes ++ closed found.closers)))

-- what stands before a text of a line, the first or another
abbrev pub blank_words : Bool → List ℕ
blank_words true = []
blank_words false = codes " "
