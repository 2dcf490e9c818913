-- What the parts of a slice need, for the rows of a kept trial up to an evaluation.
use Rattle.std.proofs.Common.{◌≡◌, ◌↔◌, ◌⊎◌, inl, inr, ℕ, zero, suc, ◌+◌, ◌-◌, ◌<◌, ◌≤◌, max, Bool, List, [], ◌∷◌, ◌++◌, take, reverse, length, slice_get, Some, Result, Ok, Err, IfOk, refl, sym, ap, subst, ◌∙◌, arith}
use Rattle.py_value.specs.declared.value.Value.{Value}
use Rattle.py_value.specs.Contents.{contents}
use Rattle.py_value.specs.Values.{ValuesView, AreInterned}
use Rattle.py_tree.specs.Numbering.{IsNumbered}
use Rattle.py_tree.specs.Tree.{ScriptTree}
use Rattle.py_model.specs.Moment.{Moment}
use Rattle.py_model.specs.Store.{RunStore, opening}
use Rattle.row_checks.specs.KeptRows.{AreKeptRows, view_in, texts_in, tuples_in}
use Rattle.row_moments.specs.Moments.{moments_by}
use Rattle.slice_law.specs.Closed.{IsIn, IsLeast, has, store_after, roots}
use Rattle.slice_law.specs.Edges.{asked_by_value, module_jumps}
use Rattle.slice_edges.specs.HasAsked.{HasAsked}
use Rattle.slice_things.specs.declared.forms.Forms.{Forms}
use Rattle.trace_rows.specs.declared.row.Row.{Row}
use Rattle.slicer.specs.Along.{IsLeastAlong, AreBelow, ArePairsBelow}
use Rattle.slicer.specs.AskedPairs.{AreAllPairs}
use Rattle.slicer.specs.Pairs.{SameNumbers}
use Rattle.slicer.specs.Passing.{Knows, AreReadable}
use Rattle.slicer.specs.Roots.{HasNumbers, IsEvaluation}
use Rattle.slicer.specs.declared.passing.Passed.{Passed}
use Rattle.slicer.proofs.AskedPairs.{pairs_in_script, roots_in_script}
use Rattle.slicer.proofs.KeptRowFacts.{all_readable, numbers_of, below_of}
use Rattle.slicer.proofs.ParentPairs.{least_is}
use Rattle.slicer.proofs.ToldBelow.{TellsBelow}
use Rattle.slicer.proofs.WalkLaws.{in_left, in_right, in_either}
use Rattle.slicer.proofs.RootLaws.{has_in, in_has}

-- what holds of a table holds of that of the rows
pub of_rows : (P : ValuesView → Type 0) (texts : List (List ℕ)) (tuples : List (List Value)) (rows : List Row) → texts ≡ texts_in rows → tuples ≡ tuples_in rows
    → P (record { texts = texts; tuples = tuples }) → P (view_in rows)
of_rows P texts tuples rows same also is =
    subst (λ them. P (record { texts = texts_in rows; tuples = them })) also (subst (λ them. P (record { texts = them; tuples = tuples })) same is)

pub to_rows : (P : ValuesView → Type 0) (texts : List (List ℕ)) (tuples : List (List Value)) (rows : List Row) → texts ≡ texts_in rows → tuples ≡ tuples_in rows
    → P (view_in rows) → P (record { texts = texts; tuples = tuples })
to_rows P texts tuples rows same also is =
    subst (λ them. P (record { texts = texts; tuples = them })) (sym also) (subst (λ them. P (record { texts = them; tuples = tuples_in rows })) (sym same) is)

pub if_ok : {T E : Type 0} {P Q : T → Type 0} (r : Result T E) → ((x : T) → P x → Q x) → IfOk r P → IfOk r Q
if_ok (Ok x) follows holds = follows x holds
if_ok (Err want) follows holds = tt

front_back : {A : Type 0} (n i : ℕ) (xs : List A) (x : A) → slice_get (take n xs) i ≡ Some x → slice_get xs i ≡ Some x
front_back zero zero xs x at = absurd (cc)
front_back zero (suc i) xs x at = absurd (cc)
front_back (suc n) i [] x at = at
front_back (suc n) zero (y ∷ xs) x at = at
front_back (suc n) (suc i) (y ∷ xs) x at = front_back n i xs x at

module _ (statements : ℕ) (rows : List Row) (kept : AreKeptRows statements rows) (n : ℕ) (fits : n ≤ length rows) where
  pub front_below : TellsBelow statements (moments_by (view_in rows) (reverse (take n rows)))
  front_below = below_of statements (view_in rows) rows kept n fits

  module _ (interned : AreInterned (view_in rows)) where
    pub front_readable : AreReadable (view_in rows) (take n rows)
    front_readable i row at = all_readable statements rows kept interned i row (front_back n i rows row at)

    pub front_numbers : HasNumbers (view_in rows) (moments_by (view_in rows) (reverse (take n rows)))
    front_numbers = numbers_of (view_in rows) rows (all_readable statements rows kept interned) n fits

-- so many words are a path and arguments
many_none : (n : ℕ) → (arguments : List (List ℕ)) × (length arguments ≡ n)
many_none zero = ([], refl)
many_none (suc n) = let rest = many_none n in ([] ∷ rest.0, ap suc rest.1)

pub some_words : (words : ℕ) → 0 < words → (arguments : List (List ℕ)) × (words ≡ length arguments + 1)
some_words words some = let rest = many_none (words - 1) in let many = rest.1 in (rest.0, omega (arith, some, many))

-- what the value and jumps ask for, in one list
pub all_roots : (start : RunStore) (told : List Moment) (old jumps new : List ℕ) → ((s : ℕ) → IsIn old s ↔ IsIn (asked_by_value (store_after start told) told) s)
    → ((s : ℕ) → has s jumps ≡ has s (module_jumps told)) → new ≡ old ++ jumps → SameNumbers new (roots start told)
all_roots start told old jumps new asked noted is = subst (λ these. SameNumbers these (roots start told)) (sym is) (record {
  each = λ s there. onward s (in_either old jumps s there);
  only = λ s there. back s (in_either (asked_by_value (store_after start told) told) (module_jumps told) s there);
})
  where
    onward : (s : ℕ) → IsIn old s ⊎ IsIn jumps s → IsIn (roots start told) s
    onward s (inl there) = in_left (asked_by_value (store_after start told) told) (module_jumps told) s ((asked s).0 there)
    onward s (inr there) = in_right (asked_by_value (store_after start told) told) (module_jumps told) s (has_in s (module_jumps told) (sym (noted s) ∙ in_has s jumps there))

    back : (s : ℕ) → IsIn (asked_by_value (store_after start told) told) s ⊎ IsIn (module_jumps told) s → IsIn (old ++ jumps) s
    back s (inl there) = in_left old jumps s ((asked s).1 there)
    back s (inr there) = in_right old jumps s (has_in s jumps (noted s ∙ in_has s (module_jumps told) there))

-- what the parts promise makes the least set
module _ (script : ScriptTree) (numbered : IsNumbered script) (rows : List Row) (kept : AreKeptRows script.count rows) (n : ℕ) (fits : n ≤ length rows) (v : Value)
    (last : (view : ValuesView) → IsEvaluation (contents view v) (moments_by view (reverse (take n rows)))) (interned : AreInterned (view_in rows)) (forms : Forms) (passed : Passed) (words : ℕ)
    (knows : (path : List ℕ) (arguments : List (List ℕ)) (files : List (List ℕ × List ℕ)) → AreReadable (view_in rows) (take n rows) → max words 1 ≡ length arguments + 1
    → Knows (view_in rows) script forms (opening path arguments files) passed (moments_by (view_in rows) (reverse (take n rows))))
    (numbers : List ℕ)
    (same : (start : RunStore) → Knows (view_in rows) script forms start passed (moments_by (view_in rows) (reverse (take n rows)))
    → HasNumbers (view_in rows) (moments_by (view_in rows) (reverse (take n rows))) → IsEvaluation (contents (view_in rows) v) (moments_by (view_in rows) (reverse (take n rows)))
    → SameNumbers numbers (roots start (moments_by (view_in rows) (reverse (take n rows))))) where
  abbrev told : List Moment
  told = moments_by (view_in rows) (reverse (take n rows))

  knows_now : (path : List ℕ) (arguments : List (List ℕ)) (files : List (List ℕ × List ℕ)) → max words 1 ≡ length arguments + 1 → Knows (view_in rows) script forms (opening path arguments files) passed told
  knows_now path arguments files many = knows path arguments files (front_readable script.count rows kept n fits interned) many

  same_now : (path : List ℕ) (arguments : List (List ℕ)) (files : List (List ℕ × List ℕ)) → max words 1 ≡ length arguments + 1 → SameNumbers numbers (roots (opening path arguments files) told)
  same_now path arguments files many =
      same (opening path arguments files) (knows_now path arguments files many) (front_numbers script.count rows kept n fits interned) (last (view_in rows))

  -- there is some opening
  some : (arguments : List (List ℕ)) × (max words 1 ≡ length arguments + 1)
  some = some_words (max words 1) (omega arith)

  pub asked_now : HasAsked (view_in rows) script passed.asking told
  asked_now = (knows_now [] some.0 [] some.1).asked

  pub roots_fit : AreBelow script.count numbers
  roots_fit = roots_in_script script told numbered (front_below script.count rows kept n fits) (opening [] some.0 []) numbers (same_now [] some.0 [] some.1)

  pub pairs_fit : (pairs : List (ℕ × ℕ)) → AreAllPairs script told pairs → ArePairsBelow script.count pairs
  pairs_fit pairs all = pairs_in_script script told numbered (front_below script.count rows kept n fits) pairs all

  pub least_fits : (pairs : List (ℕ × ℕ)) → AreAllPairs script told pairs → (keep : ℕ → Bool) → IsLeastAlong pairs numbers keep
      → (path : List ℕ) (arguments : List (List ℕ)) (files : List (List ℕ × List ℕ)) → words ≡ length arguments + 1 → IsLeast script (opening path arguments files) told keep
  least_fits pairs all keep along path arguments files many =
      least_is script (opening path arguments files) told all.asked numbers keep numbered all.are (same_now path arguments files (omega (arith, many)))
      (subst (λ these. IsLeastAlong these numbers keep) all.is along)
