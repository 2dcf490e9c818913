-- What tokens spell as a whole: a refusal says that no such part has these tokens, and what was read of them is all that they begin with.
use Rattle.std.proofs.Common.{◌≡◌, ℕ, ◌+◌, ◌≤◌, false, List, [], Some, ap, sym, ◌∙◌, arith, subst}
use Rattle.std.proofs.lemmas.Option.{same_Some}
use Rattle.py_lines.specs.declared.parts.Token.{Token}
use Rattle.prov_base.specs.declared.place.Pos.{Pos}
use Rattle.py_expressions.specs.declared.fault.Fault.{Fault}
use Rattle.py_expressions.specs.declared.fault.Fault.TheVariants.{Unexpected, TooDeep, TooMany, Memory}
use Rattle.py_expressions.specs.declared.fault.Stop.{Stop}
use Rattle.py_expressions.specs.declared.fault.Stop.TheVariants.{Here, End}
use Rattle.py_expressions.specs.Parsed.{Production, IsDeep, Only, Finds, Shown, Refused}
use Rattle.py_expressions.specs.Spelled.{is_memory}
use Rattle.py_expressions.proofs.Refusals.{finds_same}

-- with enough steps this part is read, and these tokens are left
pub record ReadsSome {A : Type 0} (p : Production A) (before : List Token) (a : A) (after : List Token) : Type 0 where
  pub steps : ℕ
  pub reads : (n : ℕ) → p.read (n + steps) before ≡ Some (a, after)

more_steps : {A : Type 0} (f : ℕ → A) (m n : ℕ) → m ≡ n → f m ≡ f n
more_steps f m n is = ap f is

-- ---- refusals

shown_finds : {A : Type 0} (p : Production A) (room : ℕ) (before : List Token) (fault : Fault) → Shown p room before fault → Finds (λ a. IsDeep (Here fault) room (p.lies a)) p.read before
shown_finds p room before fault s = finds_same _ p.read _ _ s.before_is (s.none s.behind)

refused_finds : {A : Type 0} (p : Production A) (room : ℕ) (before : List Token) (stop : Stop) → is_memory stop ≡ false → Refused p room before stop → Finds (λ a. IsDeep stop room (p.lies a)) p.read before
refused_finds p room before (Here Memory) other is = cc
refused_finds p room before (Here (Unexpected at)) other is = shown_finds p room before (Unexpected at) is
refused_finds p room before (Here (TooDeep at)) other is = shown_finds p room before (TooDeep at) is
refused_finds p room before (Here (TooMany at)) other is = shown_finds p room before (TooMany at) is
refused_finds p room before End other is = is.1

not_deep : (stop : Stop) (room : ℕ) (lies : Pos → ℕ) → IsDeep stop room lies → ((at : Pos) → lies at ≤ room) → ⊥
not_deep (Here (TooDeep at)) room lies deep low = let less = low at in omega (arith, deep, less)
not_deep (Here (Unexpected at)) room lies deep low = deep
not_deep (Here (TooMany at)) room lies deep low = deep
not_deep (Here Memory) room lies deep low = deep
not_deep End room lies deep low = deep

-- what is read is what is found
read_so : {A : Type 0} (P : A → Type 0) (p : Production A) (before after : List Token) (a : A) → Finds P p.read before → ReadsSome p before a after → P a
read_so P p before after a finds is = subst (Only P) (more_steps (λ m. p.read m before) (is.steps + finds.steps) (finds.steps + is.steps) (omega arith) ∙ is.reads finds.steps) (finds.only is.steps)

-- what is read within the limit is not refused
pub not_refused : {A : Type 0} (p : Production A) (room : ℕ) (before after : List Token) (stop : Stop) (a : A) → ReadsSome p before a after → ((at : Pos) → p.lies a at ≤ room) → is_memory stop ≡ false → Refused p room before stop → ⊥
not_refused p room before after stop a is low other refused =
    not_deep stop room (p.lies a) (read_so (λ a. IsDeep stop room (p.lies a)) p before after a (refused_finds p room before stop other refused) is) low

-- ---- there is one way to read

same_read : {A : Type 0} (p : Production A) (before after left : List Token) (a b : A) → ReadsSome p before a after → ReadsSome p before b left → ◌≡◌ {A = A × List Token} (a, after) (b, left)
same_read p before after left a b one other =
    same_Some _ _ (sym (one.reads other.steps) ∙ more_steps (λ m. p.read m before) (other.steps + one.steps) (one.steps + other.steps) (omega arith) ∙ other.reads one.steps)

pub same_value : {A : Type 0} (p : Production A) (before after left : List Token) (a b : A) → ReadsSome p before a after → ReadsSome p before b left → a ≡ b
same_value {A} p before after left a b one other = ap (λ (v : A × List Token). v.0) (same_read p before after left a b one other)

pub same_left : {A : Type 0} (p : Production A) (before after left : List Token) (a b : A) → ReadsSome p before a after → ReadsSome p before b left → after ≡ left
same_left {A} p before after left a b one other = ap (λ (v : A × List Token). v.1) (same_read p before after left a b one other)

-- ---- the whole

-- such a part is read from its tokens alone
pub record ReadsWhole {A : Type 0} (p : Production A) : Type 0 where
  pub reads : (before : List Token) (a : A) → before ≡ p.tokens a → ReadsSome p before a []

-- the tokens are refused
pub none_refused : {A : Type 0} (p : Production A) (before : List Token) (stop : Stop) → ReadsWhole p → is_memory stop ≡ false → Refused p 100 before stop → (a : A) → before ≡ p.tokens a → ((at : Pos) → p.lies a at ≤ 100) → ⊥
none_refused p before stop all other refused a is low = not_refused p 100 before [] stop a (all.reads before a is) low other refused

-- something is read, and tokens are left
pub none_left : {A : Type 0} (p : Production A) (before after : List Token) (b : A) → ReadsWhole p → ReadsSome p before b after → (after ≡ [] → ⊥) → (a : A) → before ≡ p.tokens a → ⊥
none_left p before after b all read more a is = more (same_left p before after [] b a read (all.reads before a is))
