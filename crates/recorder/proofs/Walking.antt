-- What is noted of tuples stays right as more is named, and naming what has numbers changes nothing.
use Rattle.std.proofs.Common.{◌≡◌, ℕ, Bool, true, false, List, [], ◌∷◌, ◌++◌, Option, Some, None, Result, Ok, Err, IfOk, OnOk, nat_eq, ◌<◌, length, refl, sym, ap, subst, ◌∙◌, if◌then◌else◌}
use Rattle.std.specs.Option.{option_map, option_and_then}
use Rattle.std.specs.Cmp.Lexicographic.{pointwise}
use Rattle.std.proofs.lemmas.Option.{same_Some}
use Rattle.std.proofs.lemmas.Bool.{eqb-true}
use Rattle.py_value.specs.declared.value.Value.{Value}
use Rattle.py_value.specs.declared.value.Value.TheVariants.{Tuple}
use Rattle.py_value.specs.Contents.{Contents, Parts, nothing, truth, int, text, tuple, range, function, class, exception_class, builtin, object, no_parts, part, contents}
use Rattle.py_value.specs.Seen.{value_at, values_at, number_by}
use Rattle.py_value.specs.contracts.value.ValuePartialEq.TheImpl.{ghosts}
use Rattle.py_value.specs.Values.{ValuesView, AreInterned, IsNamed}
use Rattle.py_value.proofs.Interning.{below_more}
use Rattle.py_value.proofs.SameContents.{contents_stay, keeps_length}
use Rattle.recorder.specs.Naming.{Naming, named_in, named_in_parts, name_new, name_all}
use Rattle.recorder.specs.Numbers.{Extends, NumbersText, NumbersValue}
use Rattle.recorder.specs.Walking.{IsWalked, IsReady, number_in}
use Rattle.recorder.proofs.Naming.{same_extends, value_back}
use Rattle.recorder.proofs.Numbering.{name_all_append}

-- what was there to be mapped, or to be gone on with
mapped_from : {A B : Type 0} (f : A → B) (found : Option A) (y : B) → option_map f found ≡ Some y → (x : A) × (found ≡ Some x)
mapped_from f None y is = cc
mapped_from f (Some x) y is = (x, refl)

chained_from : {A B : Type 0} (f : A → Option B) (found : Option A) (y : B) → option_and_then f found ≡ Some y → (x : A) × (found ≡ Some x) × (f x ≡ Some y)
chained_from f None y is = cc
chained_from f (Some x) y is = (x, refl, is)

-- what has a number is named again to no effect
known_again : (c : Contents) (v : Value) (n : Naming) → value_at n.view c ≡ Some v → name_all (c ∷ []) n ≡ n
known_again c v n is = ap (λ found. name_new c found n) is

parts_there : (view : ValuesView) (parts : Parts) (v : Value) → value_at view (tuple parts) ≡ Some v → (vs : List Value) × (values_at view parts ≡ Some vs) × (option_map Tuple (number_by (pointwise ghosts.eq vs) view.tuples) ≡ Some v)
parts_there view parts v is = chained_from (λ (vs : List Value). option_map Tuple (number_by (pointwise ghosts.eq vs) view.tuples)) (values_at view parts) v is

part_again : (c : Contents) (ps : Parts) (vs : List Value) (n : Naming) → ((v : Value) → value_at n.view c ≡ Some v → name_all (named_in c) n ≡ n)
    → ((us : List Value) → values_at n.view ps ≡ Some us → name_all (named_in_parts ps) n ≡ n) → values_at n.view (part c ps) ≡ Some vs → name_all (named_in c ++ named_in_parts ps) n ≡ n
part_again c ps vs n one more is =
    let first = chained_from (λ (v : Value). option_map (λ (us : List Value). v ∷ us) (values_at n.view ps)) (value_at n.view c) vs is in
    let rest = mapped_from (λ (us : List Value). first.0 ∷ us) (values_at n.view ps) vs first.2 in
    name_all_append (named_in c) (named_in_parts ps) n ∙ ap (name_all (named_in_parts ps)) (one first.0 first.1) ∙ more rest.0 rest.1

tuple_again : (ps : Parts) (v : Value) (n : Naming) → ((us : List Value) → values_at n.view ps ≡ Some us → name_all (named_in_parts ps) n ≡ n) → value_at n.view (tuple ps) ≡ Some v
    → name_all (named_in_parts ps ++ tuple ps ∷ []) n ≡ n
tuple_again ps v n more is =
    let items = parts_there n.view ps v is in
    name_all_append (named_in_parts ps) (tuple ps ∷ []) n ∙ ap (name_all (tuple ps ∷ [])) (more items.0 items.1) ∙ known_again (tuple ps) v n is

mutual
  named_again : (c : Contents) (v : Value) (n : Naming) → value_at n.view c ≡ Some v → name_all (named_in c) n ≡ n
  named_again nothing v n is = refl
  named_again (truth b) v n is = refl
  named_again (int i) v n is = refl
  named_again (range start end step) v n is = refl
  named_again (function place) v n is = refl
  named_again (class place) v n is = refl
  named_again (exception_class number) v n is = refl
  named_again (builtin number) v n is = refl
  named_again (object number) v n is = refl
  named_again (text bytes) v n is = known_again (text bytes) v n is
  named_again (tuple ps) v n is = tuple_again ps v n (λ us found. parts_again ps us n found) is

  parts_again : (ps : Parts) (vs : List Value) (n : Naming) → values_at n.view ps ≡ Some vs → name_all (named_in_parts ps) n ≡ n
  parts_again no_parts vs n is = refl
  parts_again (part c ps) vs n is = part_again c ps vs n (λ v found. named_again c v n found) (λ us found. parts_again ps us n found) is

-- ---- what is noted

named_later : (view later : ValuesView) (v : Value) → Extends view later → IsNamed view v → IsNamed later v
named_later view later v e named =
    below_more (length view.texts) (length view.tuples) (length later.texts) (length later.tuples) v (keeps_length view.texts later.texts e.texts) (keeps_length view.tuples later.tuples e.tuples) named

module _ (values view : ValuesView) (interned : AreInterned view) where
  walked_later : (later : ValuesView) → Extends view later → (id number : ℕ) → IsWalked values view id number → IsWalked values later id number
  walked_later later e id number is = record {
    named = named_later view later (Tuple number) e is.named;
    same = contents_stay view later interned e.texts e.tuples (Tuple number) is.named ∙ is.same;
  }

pub ready_later : (values view later : ValuesView) (noted : List (ℕ × ℕ)) → IsReady values view noted → Extends view later → IsReady values later noted
ready_later values view later noted ready e = record {
  interned = e.interned;
  walked = λ id number is. walked_later values view ready.interned later e id number (ready.walked id number is);
}

pub ready_first : (values view : ValuesView) → AreInterned view → IsReady values view []
ready_first values view interned = record { interned = interned; walked = λ id number is. absurd (none number is) }
  where
    none : (number : ℕ) → None ≡ Some number → ⊥
    none number is = cc

-- a tuple that was walked is numbered
pub walked_numbers : (values : ValuesView) (now : Naming) (noted : List (ℕ × ℕ)) (id number : ℕ) → IsReady values now.view noted → number_in noted id ≡ Some number
    → NumbersValue (contents values (Tuple id)) now now (Tuple number)
walked_numbers values now noted id number ready is =
    let one = ready.walked id number is in
    let extends = same_extends now.view ready.interned in
    record { named = sym (named_again (contents values (Tuple id)) (Tuple number) now (written now.view extends)); extends = extends; reads = read; writes = written }
  where
    read : (later : ValuesView) → Extends now.view later → contents later (Tuple number) ≡ contents values (Tuple id)
    read later e = (walked_later values now.view ready.interned later e id number (ready.walked id number is)).same

    written : (later : ValuesView) → Extends now.view later → value_at later (contents values (Tuple id)) ≡ Some (Tuple number)
    written later e =
        let one = walked_later values now.view ready.interned later e id number (ready.walked id number is) in
        subst (λ c. value_at later c ≡ Some (Tuple number)) one.same (value_back later e.interned (Tuple number) one.named)

-- one tuple more was walked
pub ready_more : (values : ValuesView) (old now : Naming) (noted more : List (ℕ × ℕ)) (id number : ℕ) → IsReady values now.view noted → NumbersValue (contents values (Tuple id)) old now (Tuple number)
    → ((other : ℕ) → number_in more other ≡ (if nat_eq id other then Some number else number_in noted other)) → number < length now.view.tuples → IsReady values now.view more
ready_more values old now noted more id number ready one is within = record {
  interned = ready.interned;
  walked = λ other n found. by other n (nat_eq id other) refl (sym (is other) ∙ found);
}
  where
    by : (other n : ℕ) (b : Bool) → nat_eq id other ≡ b → (if b then Some number else number_in noted other) ≡ Some n → IsWalked values now.view other n
    by other n true same found =
        subst (λ m. IsWalked values now.view m n) (eqb-true id other same) (subst (λ k. IsWalked values now.view id k) (same_Some number n found) (record { named = within; same = one.reads now.view (same_extends now.view ready.interned) }))
    by other n false same found = ready.walked other n found

-- a text was named
pub text_ready : {E : Type 0} (values : ValuesView) (old new : Naming) (noted : List (ℕ × ℕ)) (s : List ℕ) (result : Result ℕ E) → IsReady values old.view noted → IfOk result (NumbersText s old new)
    → OnOk result (IsReady values new.view noted)
text_ready values old new noted s (Ok n) ready is = ready_later values old.view new.view noted ready is.extends
text_ready values old new noted s (Err e) ready is = tt
