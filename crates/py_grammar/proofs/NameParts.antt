-- The parts of a line that are names: what is read of `as` with a name and of a class's base, and how they are refused.
use Rattle.std.proofs.Common.{◌≡◌, ℕ, true, false, List, [], ◌∷◌, ◌++◌, Some, None, refl, ap, sym, ◌∙◌, arith, if◌then◌else◌}
use Rattle.prov_base.specs.declared.place.Pos.{Pos}
use Rattle.py_lines.specs.declared.parts.Token.{Token}
use Rattle.py_lines.specs.declared.parts.TokenKind.TheVariants.{Keyword, Sign}
use Rattle.py_tree.specs.declared.expr.Expr.TheVariants.{Var}
use Rattle.py_tree.specs.Erasure.{expr_of}
use Rattle.py_tree.specs.Tree.{var_expr}
use Rattle.py_tree.proofs.ExprTrees.{var_tree}
use Rattle.py_expressions.specs.declared.fault.Stop.{Stop}
use Rattle.py_expressions.specs.Concrete.{Spot}
use Rattle.py_expressions.specs.Tokens.{token, word}
use Rattle.py_grammar.specs.Written.{naming, Base, empty_base, base}
use Rattle.py_grammar.specs.StatementTrees.{naming_bound, base_tree}
use Rattle.py_expressions.specs.Reader.{begins_name, is_word, Read, go_on, read_name, read_sign}
use Rattle.py_expressions.specs.Parsed.{Refused, Taken, TakenName, one_name, one_sign}
use Rattle.py_grammar.specs.ParsedHead.{Took, naming_part, base_part}
use Rattle.py_expressions.proofs.Refusals.{Inside, first_of, only_go_on, only_is, refused_inside, refused_same}
use Rattle.py_expressions.proofs.ClosedParts.{not_deep}
use Rattle.py_expressions.proofs.Stops.{spot_at}
use Rattle.py_expressions.proofs.Reading.{if_true, if_false}

-- ---- `as` with a name

as_inside : (spot : Spot) (rest : List Token) → Inside naming_part 100 one_name 0 (token (Keyword 4) spot ∷ []) rest
as_inside spot rest = record {
  begins = λ at b. record { some = naming spot b.0 b.1; more = []; tokens_are = refl; within = λ other apart any. omega arith; deep = λ stop deep. absurd (not_deep stop deep) };
  finds = λ stop more first finds. record {
    steps = finds.steps;
    only = λ n. only_go_on _ _ (read_name more) _ (finds.only n) (λ found rest deep. absurd (not_deep stop deep));
  };
}

pub naming_refused : (at : Pos) (before behind : List Token) (stop : Stop) → Taken (Keyword 4) before at behind → Refused one_name 0 behind stop → Refused naming_part 100 before stop
naming_refused at before behind stop k is = refused_same naming_part 100 before _ stop k.before_is (refused_inside naming_part 100 one_name 0 (token (Keyword 4) k.spot ∷ []) behind stop (as_inside k.spot behind) is)

pub naming_found : (at place : Pos) (name : List ℕ) (before behind after : List Token) → Taken (Keyword 4) before at behind → TakenName behind place name after
    → Took naming_part naming_bound before (Some (record { at = place; name = name })) after
naming_found at place name before behind after k f = record {
  written = naming k.spot f.spot name;
  before_is = k.before_is ∙ ap (λ ts. token (Keyword 4) k.spot ∷ ts) f.before_is;
  value_is = ap (λ place. Some (record { at = place; name = name })) (sym f.at_is);
  fits = omega arith;
  is_read = record { steps = 0; reads = λ n more first. refl };
}

-- ---- what is given in brackets behind a class's name

begins_same : (ts us : List Token) → first_of ts ≡ first_of us → begins_name ts ≡ begins_name us
begins_same [] [] is = refl
begins_same [] (u ∷ us) is = cc
begins_same (t ∷ ts) [] is = cc
begins_same (t ∷ ts) (u ∷ us) is = by t u is
  where
    by : (t u : Token) → Some t ≡ Some u → is_word t.kind ≡ is_word u.kind
    by t u is = cc

abbrev named_base : Spot → List Token → Read Base
named_base opening ts = go_on (read_name ts) (λ found rest. go_on (read_sign 1 rest) (λ closing left. Some (base opening found.0 found.1 closing, left)))

abbrev no_base_named : Spot → List Token → Read Base
no_base_named opening ts = go_on (read_sign 1 ts) (λ closing left. Some (empty_base opening closing, left))

base_is : (n : ℕ) (opening : Spot) (ts : List Token) → base_part.read n (token (Sign 0) opening ∷ ts) ≡ (if begins_name ts then named_base opening ts else no_base_named opening ts)
base_is n opening ts = refl

no_name_inside : (opening : Spot) (rest : List Token) → begins_name rest ≡ false → Inside base_part 100 (one_sign 1) 0 (token (Sign 0) opening ∷ []) rest
no_name_inside opening rest other = record {
  begins = λ at b. record { some = empty_base opening b; more = []; tokens_are = refl; within = λ other apart any. omega arith; deep = λ stop deep. absurd (not_deep stop deep) };
  finds = λ stop more first finds. record {
    steps = finds.steps;
    only = λ n. only_is _ _ (no_base_named opening more) (if_false (begins_name more) (named_base opening more) (no_base_named opening more) (begins_same more rest first ∙ other))
        (only_go_on _ _ (read_sign 1 more) _ (finds.only n) (λ found rest deep. absurd (not_deep stop deep)));
  };
}

pub base_empty_refused : (at : Pos) (before behind : List Token) (stop : Stop) → Taken (Sign 0) before at behind → begins_name behind ≡ false → Refused (one_sign 1) 0 behind stop → Refused base_part 100 before stop
base_empty_refused at before behind stop k other is = refused_same base_part 100 before _ stop k.before_is (refused_inside base_part 100 (one_sign 1) 0 (token (Sign 0) k.spot ∷ []) behind stop (no_name_inside k.spot behind other) is)

name_inside : (opening : Spot) (rest : List Token) → begins_name rest ≡ true → Inside base_part 100 one_name 0 (token (Sign 0) opening ∷ []) rest
name_inside opening rest starts = record {
  begins = λ at b. record { some = base opening b.0 b.1 (spot_at at); more = token (Sign 1) (spot_at at) ∷ []; tokens_are = refl; within = λ other apart any. omega arith; deep = λ stop deep. absurd (not_deep stop deep) };
  finds = λ stop more first finds. record {
    steps = finds.steps;
    only = λ n. only_is _ _ (named_base opening more) (if_true (begins_name more) (named_base opening more) (no_base_named opening more) (begins_same more rest first ∙ starts))
        (only_go_on _ _ (read_name more) _ (finds.only n) (λ found rest deep. absurd (not_deep stop deep)));
  };
}

pub base_name_refused : (at : Pos) (before behind : List Token) (stop : Stop) → Taken (Sign 0) before at behind → begins_name behind ≡ true → Refused one_name 0 behind stop → Refused base_part 100 before stop
base_name_refused at before behind stop k starts is = refused_same base_part 100 before _ stop k.before_is (refused_inside base_part 100 one_name 0 (token (Sign 0) k.spot ∷ []) behind stop (name_inside k.spot behind starts) is)

closing_inside : (opening name_at : Spot) (name : List ℕ) (rest : List Token) → Inside base_part 100 (one_sign 1) 0 (token (Sign 0) opening ∷ word name name_at) rest
closing_inside opening name_at name rest = record {
  begins = λ at b. record { some = base opening name_at name b; more = []; tokens_are = refl; within = λ other apart any. omega arith; deep = λ stop deep. absurd (not_deep stop deep) };
  finds = λ stop more first finds. record {
    steps = finds.steps;
    only = λ n. only_go_on _ _ (read_sign 1 more) _ (finds.only n) (λ found rest deep. absurd (not_deep stop deep));
  };
}

pub base_closing_refused : (at place : Pos) (name : List ℕ) (before behind middle : List Token) (stop : Stop) → Taken (Sign 0) before at behind → TakenName behind place name middle → Refused (one_sign 1) 0 middle stop → Refused base_part 100 before stop
base_closing_refused at place name before behind middle stop k f is = refused_same base_part 100 before _ stop (k.before_is ∙ ap (λ ts. token (Sign 0) k.spot ∷ ts) f.before_is)
    (refused_inside base_part 100 (one_sign 1) 0 (token (Sign 0) k.spot ∷ word name f.spot) middle stop (closing_inside k.spot f.spot name middle) is)

pub base_empty_found : (at place : Pos) (before behind after : List Token) → Taken (Sign 0) before at behind → Taken (Sign 1) behind place after → Took base_part base_tree before None after
base_empty_found at place before behind after k c = record {
  written = empty_base k.spot c.spot;
  before_is = k.before_is ∙ ap (λ ts. token (Sign 0) k.spot ∷ ts) c.before_is;
  value_is = refl;
  fits = omega arith;
  is_read = record { steps = 0; reads = λ n more first. refl };
}

pub base_found : (at place last : Pos) (name : List ℕ) (before behind middle after : List Token) → Taken (Sign 0) before at behind → TakenName behind place name middle → Taken (Sign 1) middle last after
    → Took base_part base_tree before (Some (expr_of (Var place name))) after
base_found at place last name before behind middle after k f c = record {
  written = base k.spot f.spot name c.spot;
  before_is = k.before_is ∙ ap (λ ts. token (Sign 0) k.spot ∷ ts) (f.before_is ∙ ap (λ ts. word name f.spot ++ ts) c.before_is);
  value_is = ap Some (var_tree place name) ∙ ap (λ place. Some (var_expr place name)) (sym f.at_is);
  fits = omega arith;
  is_read = record { steps = 0; reads = λ n more first. refl };
}
