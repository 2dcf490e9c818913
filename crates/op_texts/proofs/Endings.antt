-- How operations on texts come to their end.
use Rattle.std.proofs.Common.{rules, ◌≡◌, refl, ap, ◌∙◌, ℕ, List, [], ◌∷◌, map, Err}
use Rattle.std.specs.Char.{to_ascii_uppercase, to_ascii_lowercase}
use Rattle.py_value.specs.Values.{ValuesView}
use Rattle.py_model.specs.Plan.{Plan}
use Rattle.py_model.specs.Texts.{upper_of, lower_of}
use Rattle.op_work.specs.declared.stop.Stop.TheVariants.{Memory}
use Rattle.op_work.specs.Work.{WorkView, Ends}
use Rattle.op_work.proofs.Going.{extends_same}

-- memory ran out
pub ends_no_memory : (plan : ValuesView → Plan) (w : WorkView) → Ends plan w w (Err Memory)
ends_no_memory plan w = record { store_is = refl; left_is = refl; extends = extends_same w.values; is_named = tt; came = λ table store extends seen. tt }

-- letters of ASCII in the other case
pub upper_is : (byte : ℕ) → to_ascii_uppercase byte ≡ upper_of byte
upper_is byte = search rules

pub lower_is : (byte : ℕ) → to_ascii_lowercase byte ≡ lower_of byte
lower_is byte = search rules

pub uppers : (bytes : List ℕ) → map to_ascii_uppercase bytes ≡ map upper_of bytes
uppers [] = refl
uppers (byte ∷ bytes) = ap (λ b. b ∷ map to_ascii_uppercase bytes) (upper_is byte) ∙ ap (λ bs. upper_of byte ∷ bs) (uppers bytes)

pub lowers : (bytes : List ℕ) → map to_ascii_lowercase bytes ≡ map lower_of bytes
lowers [] = refl
lowers (byte ∷ bytes) = ap (λ b. b ∷ map to_ascii_lowercase bytes) (lower_is byte) ∙ ap (λ bs. lower_of byte ∷ bs) (lowers bytes)
