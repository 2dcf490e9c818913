-- A name that is none of some, where names go on; and names of which nothing is amiss.
use Rattle.std.proofs.Common.{◌≡◌, ℕ, ◌<◌, Bool, true, false, ◌||◌, List, [], ◌∷◌, ◌++◌, length, length-append, refl, ap, sym, ◌∙◌, arith}
use Rattle.std.specs.Str.{bytes_eq}
use Rattle.std.proofs.lemmas.Slice.Eq.{bytes_eq-Decides}
use Rattle.py_expressions.specs.declared.fault.Fault.TheVariants.{Unexpected, TooDeep, TooMany, Memory}
use Rattle.py_expressions.specs.declared.fault.Stop.{Stop}
use Rattle.py_expressions.specs.declared.fault.Stop.TheVariants.{Here, End}
use Rattle.py_grammar.specs.Written.{Names, Params}
use Rattle.py_grammar.specs.StatementTrees.{names_list, params_list}
use Rattle.py_grammar.specs.WellPlaced.{is_in, are_different, none_given}
use Rattle.py_grammar.specs.ParsedNames.{IsGiven, IsRepeated}

-- ---- another name

abbrev joined : List (List ℕ) → List ℕ
joined [] = []
joined (name ∷ names) = name ++ joined names

-- a longer one than all of these
abbrev pub fresh : List (List ℕ) → List ℕ
fresh names = 1 ∷ joined names

longer_is_new : (x : List ℕ) (names : List (List ℕ)) → length (joined names) < length x → is_in x names ≡ false
longer_is_new x [] more = refl
longer_is_new x (name ∷ names) more =
    by (bytes_eq x name) refl (longer_is_new x names (let counted = length-append name (joined names) in omega (arith, more, counted)))
  where
    by : (b : Bool) → bytes_eq x name ≡ b → is_in x names ≡ false → (b || is_in x names) ≡ false
    by true same others = absurd (let alike : length x ≡ length name = ap length ((bytes_eq-Decides x name).0 same) in let counted = length-append name (joined names) in omega (arith, more, alike, counted))
    by false other others = others

pub fresh_is_new : (names : List (List ℕ)) → is_in (fresh names) names ≡ false
fresh_is_new names = longer_is_new (fresh names) names (omega arith)

-- ---- names of which nothing is amiss

pub none_repeated : (stop : Stop) (names : Params) → are_different (params_list names) ≡ true → IsRepeated stop names → ⊥
none_repeated (Here (Unexpected at)) names different is = let no : true ≡ false = sym different ∙ is in cc
none_repeated (Here (TooDeep at)) names different is = is
none_repeated (Here (TooMany at)) names different is = is
none_repeated (Here Memory) names different is = is
none_repeated End names different is = is

pub none_is_given : (given : List (List ℕ)) (stop : Stop) (names : Names) → none_given given (names_list names) ≡ true → IsGiven given stop names → ⊥
none_is_given given (Here (Unexpected at)) names none is = let no : true ≡ false = sym none ∙ is in cc
none_is_given given (Here (TooDeep at)) names none is = is
none_is_given given (Here (TooMany at)) names none is = is
none_is_given given (Here Memory) names none is = is
none_is_given given End names none is = is

is_not_false : (b : Bool) → (b ≡ false → ⊥) → b ≡ true
is_not_false true other = refl
is_not_false false other = absurd (other refl)

pub are_so : (names : Params) → ((stop : Stop) → IsRepeated stop names → ⊥) → are_different (params_list names) ≡ true
are_so names fine = is_not_false (are_different (params_list names)) (fine (Here (Unexpected 0)))

pub none_so : (given : List (List ℕ)) (names : Names) → ((stop : Stop) → IsGiven given stop names → ⊥) → none_given given (names_list names) ≡ true
none_so given names fine = is_not_false (none_given given (names_list names)) (fine (Here (Unexpected 0)))
