-- Worked rows of the definitions, each found by computation.
use Rattle.std.proofs.Common.{◌≡◌, zero, suc, List, [], ◌∷◌, Some, None, true, false, codes, pos, take, refl, subst, arith}
use Rattle.std.proofs.lemmas.Option.{same_Some}
use Rattle.prov_base.specs.declared.place.Pos.{Pos}
use Rattle.py_model.specs.declared.moment.Answer.TheVariants.{Value as ValueAnswer}
use Rattle.py_model.specs.declared.moment.How.TheVariants.{Normal}
use Rattle.py_value.specs.declared.access.Access.{Access}
use Rattle.py_value.specs.declared.access.Access.TheVariants.{Read, Set, Update}
use Rattle.py_value.specs.declared.access.Change.TheVariants.{Insert}
use Rattle.py_value.specs.declared.access.Content.TheVariants.{Var as VarContent, Entry as EntryContent}
use Rattle.py_value.specs.declared.access.Kind.TheVariants.{List as ListKind}
use Rattle.py_value.specs.declared.access.Location.TheVariants.{Var, Item, Entry, Order}
use Rattle.py_value.specs.declared.value.Value.TheVariants.{None as NoneValue, Bool as TruthValue, Int, Tuple as TupleValue, Object}
use Rattle.py_value.proofs.Interning.{contains_at}
use Rattle.trace_rows.specs.declared.row.Row.{Row}
use Rattle.trace_rows.specs.declared.row.Row.TheVariants.{Text, Tuple, Begin, Do, Leave, End}
use Rattle.row_checks.specs.KeptRows.{MayStand, AreKeptRows, IsFirstUnkept, earlier_in}
use Rattle.row_checks.proofs.KeptFronts.{none_kept, one_kept, is_first}

abbrev here : Pos
here = record { line = 1; col = 1 }

-- an operation that makes what is given and does one thing
abbrev does_one : Access → Row
does_one access = Do here 33 [] (ValueAnswer NoneValue) None (access ∷ []) 0

-- The script `x = 1`: the statement begins, the constant 1, the text `x`, the binding of `x`, and the statement ends.
abbrev rows_of_one_statement : List Row
rows_of_one_statement =
    Begin 0
    ∷ Do (record { line = 1; col = 5 }) 0 [] (ValueAnswer (Int (pos 1))) None [] 0
    ∷ Text (codes "x")
    ∷ Do here 33 (Int (pos 1) ∷ []) (ValueAnswer NoneValue) None (Set (Var 0 0) (VarContent (Some (Int (pos 1)))) ∷ []) 0
    ∷ End Normal
    ∷ []

-- they are kept where the script has one statement
one_statement_is_kept : AreKeptRows 1 rows_of_one_statement
one_statement_is_kept zero row at = subst (MayStand (earlier_in 1 [])) (same_Some (Begin 0) row at) (record { is_new = tt; names = refl; keys = refl; nests = refl })
one_statement_is_kept (suc zero) row at = subst (MayStand (earlier_in 1 (take 1 rows_of_one_statement))) (same_Some _ row at) (record { is_new = tt; names = refl; keys = refl; nests = refl })
one_statement_is_kept (suc (suc zero)) row at = subst (MayStand (earlier_in 1 (take 2 rows_of_one_statement))) (same_Some _ row at) (record { is_new = λ has. let below = has.1 in omega (arith, below); names = refl; keys = refl; nests = refl })
one_statement_is_kept (suc (suc (suc zero))) row at = subst (MayStand (earlier_in 1 (take 3 rows_of_one_statement))) (same_Some _ row at) (record { is_new = tt; names = refl; keys = refl; nests = refl })
one_statement_is_kept (suc (suc (suc (suc zero)))) row at = subst (MayStand (earlier_in 1 (take 4 rows_of_one_statement))) (same_Some _ row at) (record { is_new = tt; names = refl; keys = refl; nests = refl })
one_statement_is_kept (suc (suc (suc (suc (suc i))))) row at = absurd (cc)

-- where it has none, the first row is the first that may not stand
no_statement : IsFirstUnkept 0 rows_of_one_statement 0
no_statement = is_first 0 rows_of_one_statement 0 (Begin 0) (none_kept 0 rows_of_one_statement) refl (λ may. absurd (false_is may.names))
  where
    false_is : false ≡ true → ⊥
    false_is is = cc

-- one row that may not stand behind one that may
module _ (first second : Row) (rows : List Row) (may : MayStand (earlier_in 1 []) first) (may_not : MayStand (earlier_in 1 (first ∷ [])) second → ⊥) where
  second_is_first : IsFirstUnkept 1 (first ∷ second ∷ rows) 1
  second_is_first =
      let all = first ∷ second ∷ rows in
      is_first 1 all 1 second (one_kept 1 all 0 first (none_kept 1 all) refl may) refl may_not

not_true : false ≡ true → ⊥
not_true is = cc

a_beginning : MayStand (earlier_in 1 []) (Begin 0)
a_beginning = record { is_new = tt; names = refl; keys = refl; nests = refl }

-- two equal texts
two_equal_texts : IsFirstUnkept 1 (Text (codes "x") ∷ Text (codes "x") ∷ []) 1
two_equal_texts =
    second_is_first (Text (codes "x")) (Text (codes "x")) []
    (record { is_new = λ has. let below = has.1 in omega (arith, below); names = refl; keys = refl; nests = refl })
    (λ may. may.is_new (contains_at (codes "x" ∷ []) (codes "x") 0 refl))

-- an End behind no Begin
an_end_too_many : IsFirstUnkept 1 (Begin 0 ∷ End Normal ∷ End Normal ∷ []) 2
an_end_too_many =
    let all = Begin 0 ∷ End Normal ∷ End Normal ∷ [] in
    is_first 1 all 2 (End Normal)
    (one_kept 1 all 1 (End Normal) (one_kept 1 all 0 (Begin 0) (none_kept 1 all) refl a_beginning) refl (record { is_new = tt; names = refl; keys = refl; nests = refl }))
    refl (λ may. not_true may.nests)

-- an activation is left while a statement is open inside it
a_leave_too_early : IsFirstUnkept 1 (Begin 0 ∷ Leave NoneValue ∷ []) 1
a_leave_too_early = second_is_first (Begin 0) (Leave NoneValue) [] a_beginning (λ may. not_true may.nests)

-- an item of a list that is not made
an_item_of_no_list : IsFirstUnkept 1 (Begin 0 ∷ does_one (Read (Item 1 0)) ∷ []) 1
an_item_of_no_list = second_is_first (Begin 0) (does_one (Read (Item 1 0))) [] a_beginning (λ may. not_true may.names)

-- and of the list that the row makes
an_item_of_its_own : MayStand (earlier_in 1 (Begin 0 ∷ [])) (Do here 33 [] (ValueAnswer (Object 1)) (Some ListKind) (Read (Item 1 0) ∷ []) 0)
an_item_of_its_own = record { is_new = tt; names = refl; keys = refl; nests = refl }

-- a list as a key
a_list_as_key : IsFirstUnkept 1 (Begin 0 ∷ does_one (Update (Order 0) (Insert (Object 0))) ∷ []) 1
a_list_as_key = second_is_first (Begin 0) (does_one (Update (Order 0) (Insert (Object 0)))) [] a_beginning (λ may. not_true may.keys)

-- True as the key of a location, and as a first key
true_as_key : IsFirstUnkept 1 (Begin 0 ∷ does_one (Read (Entry 0 (record { value = TruthValue true }))) ∷ []) 1
true_as_key = second_is_first (Begin 0) (does_one (Read (Entry 0 (record { value = TruthValue true })))) [] a_beginning (λ may. not_true may.keys)

true_as_first_key : MayStand (earlier_in 1 (Begin 0 ∷ [])) (does_one (Set (Entry 0 (record { value = Int (pos 1) })) (EntryContent (Some (TruthValue true, NoneValue)))))
true_as_first_key = record { is_new = tt; names = refl; keys = refl; nests = refl }

-- a tuple of itself
a_tuple_of_itself : MayStand (earlier_in 1 (Begin 0 ∷ [])) (Tuple (TupleValue 0 ∷ [])) → ⊥
a_tuple_of_itself may = not_true may.names

-- True in a tuple as the key of a location
true_in_a_tuple : MayStand (earlier_in 1 (Tuple (TruthValue true ∷ []) ∷ [])) (does_one (Read (Entry 0 (record { value = TupleValue 0 })))) → ⊥
true_in_a_tuple may = not_true may.keys
