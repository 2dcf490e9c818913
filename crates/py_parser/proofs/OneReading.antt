-- A text is read in one way, by the laws of the crates below.
use Rattle.std.proofs.Common.{◌≡◌, ◌≤◌, ◌<◌, ◌⊎◌, ℕ, List, length, Option, Some, inl, inr, sym, ap, ◌∙◌, subst, arith}
use Rattle.prov_base.specs.declared.place.Pos.{Pos}
use Rattle.py_grammar.specs.Grammar.{InGrammar}
use Rattle.py_lines.specs.declared.parts.Line.{Line}
use Rattle.py_lines.specs.Faults.{IsBadTokenPlace, IsLeftOpenPlace}
use Rattle.py_lines.specs.Logical.{HasLines}
use Rattle.py_parser.specs.declared.fault.ParseFault.{ParseFault}
use Rattle.py_parser.specs.Faults.{FirstFault}
use Rattle.py_parser.specs.Script.{IsScript}
use Rattle.py_tree.specs.Tree.{ScriptTree}
use Rattle.py_parser.specs.Reading.{HasScript, IsRefusedAt, too_large, not_utf8, bad_token, left_open, no_script, place_of}

-- the laws of logical lines and of scripts
pub record Laws : Type 0 where
  pub one_list : (text : List ℕ) (a b : List Line) → HasLines text a → HasLines text b → a ≡ b
  pub one_tree : (lines : List Line) (a b : ScriptTree) → InGrammar lines a → InGrammar lines b → a ≡ b
  pub one_bad : (text : List ℕ) (a b : Pos) → IsBadTokenPlace text a → IsBadTokenPlace text b → a ≡ b
  pub one_open : (text : List ℕ) (a b : Pos) → IsLeftOpenPlace text a → IsLeftOpenPlace text b → a ≡ b
  pub one_kind : (text : List ℕ) (a b : Pos) → IsBadTokenPlace text a → IsLeftOpenPlace text b → ⊥
  pub no_lines : (text : List ℕ) (lines : List Line) (at : Pos) → HasLines text lines → IsBadTokenPlace text at ⊎ IsLeftOpenPlace text at → ⊥
  pub one_fault : (text : List ℕ) (lines others : List Line) (a b : ParseFault) → HasLines text lines → HasLines text others → FirstFault lines a → FirstFault others b → a ≡ b
  pub no_fault : (lines : List Line) (tree : ScriptTree) (a : ParseFault) → IsScript lines tree → FirstFault lines a → ⊥

pub same_script : Laws → (text : List ℕ) (a b : ScriptTree) → HasScript text a → HasScript text b → a ≡ b
same_script laws text a b x y =
    laws.one_tree y.lines a b
    (subst (λ (lines : List Line). InGrammar lines a) (laws.one_list text x.lines y.lines x.has_lines y.has_lines) x.is_script.script.grammar)
    y.is_script.script.grammar

too_long : (text : List ℕ) → 262144 < length text → length text ≤ 262144 → ⊥
too_long text more short = omega arith

same_place : (a b : Pos) (f g : ParseFault) → f ≡ g → place_of f ≡ Some a → place_of g ≡ Some b → a ≡ b
same_place a b f g same a_is b_is =
    let places : ◌≡◌ {A = Option Pos} (Some a) (Some b) = sym a_is ∙ ap place_of same ∙ b_is in
    cc

pub same_refusal : Laws → (text : List ℕ) (a b : Pos) → IsRefusedAt text a → IsRefusedAt text b → a ≡ b
same_refusal laws text a b (too_large more a_is) (too_large more_2 b_is) = a_is ∙ sym b_is
same_refusal laws text a b (too_large more a_is) (not_utf8 is) = absurd (too_long text more is.within)
same_refusal laws text a b (too_large more a_is) (bad_token can is) = absurd (too_long text more can.short)
same_refusal laws text a b (too_large more a_is) (left_open can is) = absurd (too_long text more can.short)
same_refusal laws text a b (too_large more a_is) (no_script short lines has fault first b_is) = absurd (too_long text more short)
same_refusal laws text a b (not_utf8 is) (too_large more b_is) = absurd (too_long text more is.within)
same_refusal laws text a b (not_utf8 is) (not_utf8 is_2) = is.at_is ∙ sym is_2.at_is
same_refusal laws text a b (not_utf8 is) (bad_token can is_2) = absurd (is.ill_formed can.utf8)
same_refusal laws text a b (not_utf8 is) (left_open can is_2) = absurd (is.ill_formed can.utf8)
same_refusal laws text a b (not_utf8 is) (no_script short lines has fault first b_is) = absurd (is.ill_formed has.utf8)
same_refusal laws text a b (bad_token can is) (too_large more b_is) = absurd (too_long text more can.short)
same_refusal laws text a b (bad_token can is) (not_utf8 is_2) = absurd (is_2.ill_formed can.utf8)
same_refusal laws text a b (bad_token can is) (bad_token can_2 is_2) = laws.one_bad text a b is is_2
same_refusal laws text a b (bad_token can is) (left_open can_2 is_2) = absurd (laws.one_kind text a b is is_2)
same_refusal laws text a b (bad_token can is) (no_script short lines has fault first b_is) = absurd (laws.no_lines text lines a has (inl is))
same_refusal laws text a b (left_open can is) (too_large more b_is) = absurd (too_long text more can.short)
same_refusal laws text a b (left_open can is) (not_utf8 is_2) = absurd (is_2.ill_formed can.utf8)
same_refusal laws text a b (left_open can is) (bad_token can_2 is_2) = absurd (laws.one_kind text b a is_2 is)
same_refusal laws text a b (left_open can is) (left_open can_2 is_2) = laws.one_open text a b is is_2
same_refusal laws text a b (left_open can is) (no_script short lines has fault first b_is) = absurd (laws.no_lines text lines a has (inr is))
same_refusal laws text a b (no_script short lines has fault first a_is) (too_large more b_is) = absurd (too_long text more short)
same_refusal laws text a b (no_script short lines has fault first a_is) (not_utf8 is) = absurd (is.ill_formed has.utf8)
same_refusal laws text a b (no_script short lines has fault first a_is) (bad_token can is) = absurd (laws.no_lines text lines b has (inl is))
same_refusal laws text a b (no_script short lines has fault first a_is) (left_open can is) = absurd (laws.no_lines text lines b has (inr is))
same_refusal laws text a b (no_script short lines has fault first a_is) (no_script short_2 others has_2 other first_2 b_is) =
    same_place a b fault other (laws.one_fault text lines others fault other has has_2 first first_2) a_is b_is

-- a script is not refused
pub not_refused : Laws → (text : List ℕ) (tree : ScriptTree) (at : Pos) → HasScript text tree → IsRefusedAt text at → ⊥
not_refused laws text tree at script (too_large more at_is) = too_long text more script.short
not_refused laws text tree at script (not_utf8 is) = is.ill_formed script.has_lines.utf8
not_refused laws text tree at script (bad_token can is) = laws.no_lines text script.lines at script.has_lines (inl is)
not_refused laws text tree at script (left_open can is) = laws.no_lines text script.lines at script.has_lines (inr is)
not_refused laws text tree at script (no_script short lines has fault first at_is) =
    laws.no_fault lines tree fault
    (subst (λ (ls : List Line). IsScript ls tree) (laws.one_list text script.lines lines script.has_lines has) script.is_script) first
