-- No public clause cites this file.
-- The keys of an order by what was put behind one another, and how many of each form were taken out of them, from the first on.
use Rattle.std.specs.Prelude.{◌≡◌, ℕ, ◌+◌, ◌-◌, nat_lt, ◌≤◌, length, List, [], ◌∷◌, map, if◌then◌else◌}
use Rattle.py_value.specs.declared.value.Value.{Value}
use Rattle.py_value.specs.contracts.value.ValuePartialEq.TheImpl.{ghosts as values}
use Rattle.py_value.specs.Contents.{Contents, contents}
use Rattle.py_value.specs.Values.{ValuesView, IsNamed}
use Rattle.row_words.specs.Fits.{Each}
use Rattle.slice_things.specs.declared.forms.Forms.{Forms}
use Rattle.slice_things.specs.Counts.{often, count_of}
use Rattle.slice_things.specs.Forms.{form_in}
use Rattle.held_rows.specs.declared.settling.Settling.{Settling}

-- one less, and one more, of a form
abbrev pub less : Value → (Value → ℕ) → Value → ℕ
less f many g = if values.eq f g then many g - 1 else many g

abbrev pub more : Value → (Value → ℕ) → Value → ℕ
more f many g = (if values.eq f g then 1 else 0) + many g

-- so many of each form are left out, from the first on
abbrev pub left : List ℕ → (Value → ℕ) → List Value → List Value
left numbers out [] = []
left numbers out (v ∷ vs) = if nat_lt 0 (out (form_in numbers v)) then left numbers (less (form_in numbers v) out) vs else v ∷ left numbers out vs

-- Of each form no more keys are there or taken out than were put.
abbrev pub AreFew : Settling → Type 0
AreFew s = (f : Value) → often f s.there + often f s.out ≤ length s.slots.items

-- These are the keys. What was put is there, or was taken out.
pub record Settles (view : ValuesView) (forms : Forms) (s : Settling) (keys : List Contents) : Type 0 where
  pub keys_are : map (contents view) (left forms.numbers.items (λ f. often f s.out) s.slots.items) ≡ keys
  pub counted : (f : Value) → count_of forms.numbers.items f s.slots.items ≡ often f s.there + often f s.out
  pub named : Each (IsNamed view) s.slots.items

-- the keys of an order, whose texts and tuples are there
pub record AreKeys (view : ValuesView) (keys : List Value) (are : List Contents) : Type 0 where
  pub is : map (contents view) keys ≡ are
  pub named : Each (IsNamed view) keys
