-- The rows of the table together.
use Rattle.std.proofs.Common.{◌≡◌, inl, inr, Bool, true, false, List, [], ◌∷◌, Option, Some, None, IfSome, sym, ◌∙◌, subst}
use Rattle.std.proofs.lemmas.Option.{none-some}
use Rattle.prov_base.specs.declared.place.Pos.{Pos}
use Rattle.py_lines.specs.declared.parts.Token.{Token}
use Rattle.py_expressions.specs.Spelled.{first_place}
use Rattle.refused_forms.specs.declared.standing.Standing.{Standing}
use Rattle.refused_forms.specs.RefusedForms.{IsFound, Decides, IsRefusedHere, IsRefusedBefore, IsRefusedForm, WrongTarget, WrongAugmented, WrongDeleted, WrongLoop, text_in_class, bare_raise}

-- no earlier token is named
pub none_before : (s : Standing) (front rest : List Token) → text_in_class s front ≡ None → bare_raise front rest ≡ None
    → ((place : Pos) → WrongTarget front rest place → ⊥) → ((place : Pos) → WrongAugmented front rest place → ⊥)
    → ((place : Pos) → WrongDeleted front rest place → ⊥) → ((place : Pos) → WrongLoop front place → ⊥)
    → (place : Pos) → IsRefusedBefore s front rest place → ⊥
none_before s front rest text bare target augmented deleted loop place (inl is) = none-some _ (sym text ∙ is)
none_before s front rest text bare target augmented deleted loop place (inr (inl is)) = target place is
none_before s front rest text bare target augmented deleted loop place (inr (inr (inl is))) = augmented place is
none_before s front rest text bare target augmented deleted loop place (inr (inr (inr (inl is)))) = deleted place is
none_before s front rest text bare target augmented deleted loop place (inr (inr (inr (inr (inl is))))) = loop place is
none_before s front rest text bare target augmented deleted loop place (inr (inr (inr (inr (inr is))))) = none-some _ (sym bare ∙ is)

-- the last row that is asked of earlier tokens
pub found_before : (s : Standing) (front rest : List Token) (found : Option Pos) → text_in_class s front ≡ None → bare_raise front rest ≡ None
    → ((place : Pos) → WrongTarget front rest place → ⊥) → ((place : Pos) → WrongAugmented front rest place → ⊥)
    → ((place : Pos) → WrongDeleted front rest place → ⊥) → IsFound (WrongLoop front) found → IsFound (IsRefusedBefore s front rest) found
found_before s front rest None text bare target augmented deleted loop = none_before s front rest text bare target augmented deleted loop
found_before s front rest (Some at) text bare target augmented deleted loop = inr (inr (inr (inr (inl loop))))

-- a refused form stands at the next token, whose place is known
pub form_here : (s : Standing) (front rest : List Token) (found : Option Pos) → found ≡ first_place rest → ((place : Pos) → IsRefusedBefore s front rest place → ⊥) → IsRefusedHere s front rest → IfSome found (IsRefusedForm s front rest)
form_here s front [] found is before here = elim here [ ]
form_here s front (t ∷ rest) None is before here = absurd (none-some _ is)
form_here s front (t ∷ rest) (Some at) is before here = inr (before, here, sym is)

-- what is known of earlier tokens, where it is said of an answer that is known
pub none_found : (P : Pos → Type 0) (found : Option Pos) → found ≡ None → IsFound P found → (place : Pos) → P place → ⊥
none_found P found none is = subst (IsFound P) none is

pub is_decided : (P : Type 0) (found : Bool) → found ≡ true → Decides P found → P
is_decided P found decided is = subst (Decides P) decided is

pub is_denied : (P : Type 0) (found : Bool) → found ≡ false → Decides P found → P → ⊥
is_denied P found denied is = subst (Decides P) denied is

-- no refused form
pub form_none : (s : Standing) (front rest : List Token) → ((place : Pos) → IsRefusedBefore s front rest place → ⊥) → (IsRefusedHere s front rest → ⊥) → (place : Pos) → IsRefusedForm s front rest place → ⊥
form_none s front rest before here place (inl is) = before place is
form_none s front rest before here place (inr is) = here is.1
