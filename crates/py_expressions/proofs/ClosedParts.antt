-- What stands in brackets, with the sign that closes them.
use Rattle.std.proofs.Common.{◌≡◌, ℕ, ◌+◌, Bool, List, [], ◌∷◌, ◌++◌, Some, None, refl, ap, sym, ◌∙◌, arith, subst, ◌≤◌}
use Rattle.std.proofs.lemmas.List.{append-nil}
use Rattle.py_lines.specs.declared.parts.Token.{Token}
use Rattle.py_lines.specs.declared.parts.TokenKind.TheVariants.{Sign}
use Rattle.prov_base.specs.declared.place.Pos.{Pos}
use Rattle.py_tree.specs.Tree.{ExprTree}
use Rattle.py_tree.specs.Erasure.{expr_of}
use Rattle.py_expressions.specs.declared.part.Part.{Part}
use Rattle.py_expressions.specs.declared.fault.Fault.TheVariants.{Unexpected, TooDeep, TooMany, Memory}
use Rattle.py_expressions.specs.declared.fault.Stop.{Stop}
use Rattle.py_expressions.specs.declared.fault.Stop.TheVariants.{Here, End}
use Rattle.py_expressions.specs.Concrete.{Spot}
use Rattle.py_expressions.specs.Tokens.{token}
use Rattle.py_expressions.specs.Reader.{Read, go_on, read_sign}
use Rattle.py_expressions.specs.Parsed.{Production, IsDeep, Finds, BeginsWithin, Refused, one_sign, IsAtFirst, Taken}
use Rattle.py_expressions.specs.ParsedRows.{IsRead, closed, first_token, FoundClosed}
use Rattle.py_expressions.proofs.Refusals.{Inside, first_of, only_any, only_go_on, only_is, refused_inside, refused_same}
use Rattle.py_expressions.proofs.Stops.{spot_at}

pub first_is : (ts : List Token) → first_token ts ≡ first_of ts
first_is [] = refl
first_is (t ∷ ts) = refl

pub first_same : (ts us : List Token) → first_of ts ≡ first_of us → first_token ts ≡ first_token us
first_same ts us is = first_is ts ∙ is ∙ sym (first_is us)

-- a token is never too deep
pub not_deep : (stop : Stop) → IsDeep stop 0 (λ at. 0) → ⊥
not_deep (Here (TooDeep at)) deep = omega (arith, deep)
not_deep (Here (Unexpected at)) deep = deep
not_deep (Here (TooMany at)) deep = deep
not_deep (Here Memory) deep = deep
not_deep End deep = deep

-- ---- what stands inside is refused

in_closed : {A : Type 0} (p : Production A) (closing room : ℕ) (before : List Token) → Inside (closed p closing) room p room [] before
in_closed p closing room before = record {
  begins = λ at b. record { some = (b, spot_at at); more = token (Sign closing) (spot_at at) ∷ []; tokens_are = refl; within = λ other apart low. low; deep = λ stop deep. deep };
  finds = λ stop more first finds. record {
    steps = finds.steps;
    only = λ n. only_go_on _ _ (p.read (n + finds.steps) more) _ (finds.only n) (λ a rest deep. only_any _ (read_sign closing rest) _ (λ at rest_2. deep));
  };
}

pub closed_first : {A : Type 0} (p : Production A) (closing room : ℕ) (before : List Token) (stop : Stop) → Refused p room before stop → Refused (closed p closing) room before stop
closed_first p closing room before stop is = refused_inside (closed p closing) room p room [] before stop (in_closed p closing room before) is

-- ---- the closing sign is refused

at_closing : {A : Type 0} (p : Production A) (closing room : ℕ) (a : A) (middle : List Token) → IsRead p a middle → ((at : Pos) → p.lies a at ≤ room) → Inside (closed p closing) room (one_sign closing) 0 (p.tokens a) middle
at_closing p closing room a middle is low = record {
  begins = λ at spot. record { some = (a, spot); more = []; tokens_are = sym (append-nil (p.tokens a ++ token (Sign closing) spot ∷ [])); within = λ other apart any. low other; deep = λ stop deep. absurd (not_deep stop deep) };
  finds = λ stop more first finds. record {
    steps = is.steps;
    only = λ n. only_is _ _ _ (ap (λ r. go_on r (λ a more. go_on (read_sign closing more) (λ at rest. Some ((a, at), rest)))) (is.reads n more (first_same more middle first)))
        (only_go_on _ _ (read_sign closing more) _ (finds.only n) (λ at rest deep. absurd (not_deep stop deep)));
  };
}

pub closed_last : {A : Type 0} (p : Production A) (closing room : ℕ) (a : A) (before middle : List Token) (stop : Stop) → before ≡ p.tokens a ++ middle → IsRead p a middle → ((at : Pos) → p.lies a at ≤ room)
    → Refused (one_sign closing) 0 middle stop → Refused (closed p closing) room before stop
closed_last p closing room a before middle stop before_is is low refused =
    refused_same (closed p closing) room before (p.tokens a ++ middle) stop before_is (refused_inside (closed p closing) room (one_sign closing) 0 (p.tokens a) middle stop (at_closing p closing room a middle is low) refused)

-- ---- both are read

pub closed_of : {A : Type 0} (p : Production A) (closing : ℕ) (tree : A → ExprTree) (height : A → ℕ) (deepest : A → Pos) (form : A → Bool) (room : ℕ) (before middle after : List Token) (at : Pos) (part : Part) (a : A) → before ≡ p.tokens a ++ middle
    → Taken (Sign closing) middle at after → expr_of part.expr.value ≡ tree a → part.height ≡ height a → part.deepest ≡ deepest a → part.is_target ≡ form a → p.depth a ≤ room → FoundClosed p closing tree height deepest form room before part after
closed_of p closing tree height deepest form room before middle after at part a before_is k tree_is height_is deepest_is form_is fits = record {
  written = a;
  spot = k.spot;
  before_is = before_is ∙ ap (λ ts. p.tokens a ++ ts) k.before_is;
  tree_is = tree_is;
  height_is = height_is;
  deepest_is = deepest_is;
  form_is = form_is;
  fits = fits;
}

-- reading with the closing sign, step by step and at once
pub closed_once : {A B : Type 0} (r : Read A) (s : List Token → Read Spot) (f : A × Spot → B)
    → go_on r (λ a more. go_on (s more) (λ at rest. Some (f (a, at), rest))) ≡ go_on (go_on r (λ a more. go_on (s more) (λ at rest. Some ((a, at), rest)))) (λ found rest. Some (f found, rest))
closed_once None s f = refl
closed_once (Some (a, more)) s f = by (s more)
  where
    by : (o : Read Spot) → go_on o (λ at rest. Some (f (a, at), rest)) ≡ go_on (go_on o (λ at rest. Some ((a, at), rest))) (λ found rest. Some (f found, rest))
    by None = refl
    by (Some (at, rest)) = refl

-- ---- nothing of the kind begins here

pub refused_at_first : {A : Type 0} (p : Production A) (room : ℕ) (before : List Token) (stop : Stop) → BeginsWithin p room [] → ((more : List Token) → first_of more ≡ first_of before → Finds (λ a. ⊥) p.read more) → IsAtFirst before stop → Refused p room before stop
refused_at_first p room [] stop begins none is = refused_same_stop is (begins, none [] refl)
  where
    refused_same_stop : stop ≡ End → Refused p room [] End → Refused p room [] stop
    refused_same_stop is refused = subst (Refused p room []) (sym is) refused
refused_at_first p room (t ∷ ts) (Here (Unexpected at)) begins none is = record { front = []; shown_by = t; behind = ts; before_is = refl; left_is = is; begins = begins; goes_on = tt; none = λ more. none (t ∷ more) refl }
refused_at_first p room (t ∷ ts) (Here (TooDeep at)) begins none is = absurd is
refused_at_first p room (t ∷ ts) (Here (TooMany at)) begins none is = absurd is
refused_at_first p room (t ∷ ts) (Here Memory) begins none is = absurd is
refused_at_first p room (t ∷ ts) End begins none is = absurd is
