-- The targets that expressions in a row spell, one after the other.
use Rattle.std.proofs.Common.{◌≡◌, true, List, [], ◌∷◌, ◌++◌, map, Option, Some, None, option_map, option_and_then, is_some, length, ℕ, arith, refl, ap, sym, ◌∙◌}
use Rattle.py_tree.specs.declared.expr.Expr.{Expr}
use Rattle.py_tree.specs.declared.expr.Target.{Target}
use Rattle.py_tree.specs.Tree.{TargetTree, TargetsTree, end_targets, more_targets}
use Rattle.py_tree.specs.Erasure.{expr_of, target_of, exprs_list, targets_list}
use Rattle.py_grammar.specs.ParsedSimple.{target_form, targets_form}

-- these targets, and then the rest
abbrev pub and_then_targets : List TargetTree → TargetsTree → TargetsTree
and_then_targets [] rest = rest
and_then_targets (t ∷ ts) rest = more_targets t (and_then_targets ts rest)

-- the first of all expressions were made these targets, and the others are the rest
pub record Turned (all : List Expr) (done : List Target) (rest : List Expr) : Type 0 where
  pub goes : targets_form (exprs_list (map expr_of all)) ≡ option_map (and_then_targets (map target_of done)) (targets_form (exprs_list (map expr_of rest)))

pub none_yet : (all : List Expr) → Turned all [] all
none_yet all = record { goes = sym (same (targets_form (exprs_list (map expr_of all)))) }
  where
    same : (o : Option TargetsTree) → option_map (and_then_targets []) o ≡ o
    same None = refl
    same (Some ts) = refl

pub one_more : (all : List Expr) (done : List Target) (e : Expr) (rest : List Expr) (t : Target) → Turned all done (e ∷ rest) → target_form (expr_of e) ≡ Some (target_of t) → Turned all (done ++ t ∷ []) rest
one_more all done e rest t is form = record {
  goes = is.goes ∙ ap (λ o. option_map (and_then_targets (map target_of done)) (option_and_then (λ t. option_map (more_targets t) (targets_form (exprs_list (map expr_of rest)))) o)) form ∙ by (targets_form (exprs_list (map expr_of rest)));
}
  where
    moved : (done : List Target) (ts : TargetsTree) → and_then_targets (map target_of done) (more_targets (target_of t) ts) ≡ and_then_targets (map target_of (done ++ t ∷ [])) ts
    moved [] ts = refl
    moved (first ∷ done) ts = ap (more_targets (target_of first)) (moved done ts)

    by : (o : Option TargetsTree) → option_map (and_then_targets (map target_of done)) (option_map (more_targets (target_of t)) o) ≡ option_map (and_then_targets (map target_of (done ++ t ∷ []))) o
    by None = refl
    by (Some ts) = ap Some (moved done ts)

pub next_is_target : (all : List Expr) (done : List Target) (e : Expr) (rest : List Expr) → Turned all done (e ∷ rest) → is_some (targets_form (exprs_list (map expr_of all))) ≡ true → is_some (target_form (expr_of e)) ≡ true
next_is_target all done e rest is some = by (target_form (expr_of e)) (targets_form (exprs_list (map expr_of rest))) (sym (ap is_some is.goes) ∙ some)
  where
    by : (o : Option TargetTree) (p : Option TargetsTree) → is_some (option_map (and_then_targets (map target_of done)) (option_and_then (λ t. option_map (more_targets t) p) o)) ≡ true → is_some o ≡ true
    by None p is = cc
    by (Some t) p is = refl

pub all_done : (all : List Expr) (done : List Target) → Turned all done [] → targets_form (exprs_list (map expr_of all)) ≡ Some (targets_list (map target_of done))
all_done all done is = is.goes ∙ ap Some (ends (map target_of done))
  where
    ends : (ts : List TargetTree) → and_then_targets ts end_targets ≡ targets_list ts
    ends [] = refl
    ends (t ∷ ts) = ap (more_targets t) (ends ts)

pub no_items : (es : List Expr) (n : ℕ) → n ≡ length es → n ≡ 0 → es ≡ []
no_items [] n count is = refl
no_items (e ∷ es) n count is = absurd (omega (arith, count, is))
