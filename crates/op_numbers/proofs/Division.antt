-- Division rounded to minus infinity.
use Rattle.std.proofs.Common.{◌≡◌, ◌∙◌, ap, refl, ℕ, zero, suc, ◌+◌, ◌*◌, ◌/◌, ◌%◌, arith, ℤ, pos, negsuc, ◌+ℤ◌, ◌-ℤ◌, ◌*ℤ◌, ◌<ℤ◌, int_rem, Bool, true, false, if◌then◌else◌, Decides}
use Rattle.std.proofs.lemmas.Int.{ints}
use Rattle.std.proofs.Math.Nat.{div-add-mod'}
use Rattle.std.specs.Ordering.{int_eq}
use Rattle.std.proofs.lemmas.Bool.Decides.{Decides-int_eq}
use Rattle.py_model.specs.Numbers.{floor_mod}
use Rattle.py_model.specs.Plan.{Plan}

by_parts : (q b r a : ℕ) → q * suc b + r ≡ a → pos r +ℤ pos 1 +ℤ negsuc b ≡ pos (suc a) -ℤ (negsuc b *ℤ negsuc q)
by_parts q b r a is = omega (arith, ints, is)

one_less : (a : ℕ) → pos (suc a) -ℤ pos 1 ≡ pos a
one_less a = omega (arith, ints)

pub above_below : (i j : ℤ) → pos 0 <ℤ i → j <ℤ pos 0 → int_rem (i -ℤ pos 1) j +ℤ pos 1 +ℤ j ≡ floor_mod i j
above_below (pos zero) j above below = absurd (omega (arith, ints, above))
above_below (pos (suc a)) (negsuc b) above below = ap (λ (k : ℤ). int_rem k (negsuc b) +ℤ pos 1 +ℤ negsuc b) (one_less a) ∙ by_parts (a / suc b) b (a % suc b) a (div-add-mod' a (suc b))
above_below (pos (suc a)) (pos b) above below = absurd (omega (arith, ints, below))
above_below (negsuc a) j above below = absurd (omega (arith, ints, above))

by_test : (b : Bool) (one other : Plan) → b ≡ false → (if b then one else other) ≡ other
by_test true one other is = absurd (cc)
by_test false one other is = refl

is_apart : (b : Bool) (j : ℤ) → Decides b (j ≡ pos 0) → (j ≡ pos 0 → ⊥) → b ≡ false
is_apart true j decides apart = absurd (apart (decides.0 refl))
is_apart false j decides apart = refl

pub not_zero : (j : ℤ) (one other : Plan) → (j ≡ pos 0 → ⊥) → (if int_eq j (pos 0) then one else other) ≡ other
not_zero j one other apart = by_test (int_eq j (pos 0)) one other (is_apart (int_eq j (pos 0)) j (Decides-int_eq j (pos 0)) apart)
