-- Augmented assignments: what is read, and how it is refused.
use Rattle.std.proofs.Common.{◌≡◌, ℕ, ◌≤◌, ◌<◌, true, false, List, [], ◌∷◌, ◌++◌, Option, Some, None, option_map, option_and_then, is_some, refl, ap, sym, ◌∙◌, arith, length}
use Rattle.std.proofs.Math.Nat.{le-max_right}
use Rattle.std.proofs.lemmas.Option.{same_Some}
use Rattle.prov_base.specs.declared.place.Pos.{Pos}
use Rattle.py_lines.specs.declared.parts.Token.{Token}
use Rattle.py_lines.specs.declared.parts.TokenKind.TheVariants.{Sign}
use Rattle.py_tree.specs.declared.expr.BinOp.{BinOp}
use Rattle.py_tree.specs.declared.expr.Target.{Target as BuiltTarget}
use Rattle.py_tree.specs.declared.stmt.Form.{Form}
use Rattle.py_tree.specs.Erasure.{expr_of, form_of, target_of}
use Rattle.py_tree.specs.Tree.{aug_form}
use Rattle.py_expressions.specs.declared.fault.Fault.TheVariants.{Unexpected}
use Rattle.py_expressions.specs.declared.fault.Stop.{Stop}
use Rattle.py_expressions.specs.declared.fault.Stop.TheVariants.{Here}
use Rattle.py_expressions.specs.declared.part.Part.{Part}
use Rattle.py_expressions.specs.Concrete.{Spot, Exprs, one_expr, several}
use Rattle.py_expressions.specs.Tokens.{token, exprs_tokens}
use Rattle.py_expressions.specs.Trees.{expr_tree, exprs_tree}
use Rattle.py_expressions.specs.Depth.{exprs_depth}
use Rattle.py_grammar.specs.StatementDepth.{one_target_depth}
use Rattle.py_expressions.specs.Lies.{exprs_lies}
use Rattle.py_grammar.specs.StatementLies.{one_target_lies}
use Rattle.py_grammar.specs.Written.{AugSign, add_to, take_from, multiply_by, divide_by, leave_of, augmented}
use Rattle.py_expressions.specs.Targets.{OneTarget, named, item, field, one_target, exprs_target, single_target, expr_target}
use Rattle.py_grammar.specs.StatementTokens.{one_target_tokens}
use Rattle.py_grammar.specs.StatementTrees.{aug_op, one_target_tree}
use Rattle.py_grammar.specs.WellPlaced.{Around}
use Rattle.py_expressions.specs.Reader.{kind_level, start_class, read_exprs}
use Rattle.py_grammar.specs.StatementReader.{whole, behind_exprs}
use Rattle.py_expressions.specs.Parsed.{FoundRow, Refused, exprs_part}
use Rattle.py_grammar.specs.ParsedSimple.{IsRow, SimpleRefused, FoundAfterOp, RefusedAfterOp, IsMore, is_tuple_tree, target_form}
use Rattle.py_expressions.proofs.Refusals.{max_below}
use Rattle.py_expressions.proofs.TargetReads.{target_expr, target_is}
use Rattle.py_grammar.proofs.TargetForms.{target_deep, target_spelled, target_tree_is}
use Rattle.py_grammar.proofs.AugForms.{aug_number}
use Rattle.py_grammar.proofs.LyingLines.{one_target_low}
use Rattle.py_grammar.proofs.SimpleParts.{row_fits}
use Rattle.py_grammar.proofs.ExprRefusals.{Builds, value_refused, value_more, value_found, behind_sign, sign_wrong}

-- ---- the operator

aug_level : (which : AugSign) → 8 < kind_level (Sign (aug_number which))
aug_level add_to = omega arith
aug_level take_from = omega arith
aug_level multiply_by = omega arith
aug_level divide_by = omega arith
aug_level leave_of = omega arith

aug_starts : (which : AugSign) → start_class (Sign (aug_number which)) ≡ 0
aug_starts add_to = refl
aug_starts take_from = refl
aug_starts multiply_by = refl
aug_starts divide_by = refl
aug_starts leave_of = refl

aug_reads : (which : AugSign) (e : Exprs) (spot : Spot) (n : ℕ) (more : List Token)
    → behind_exprs n e (token (Sign (aug_number which)) spot ∷ more) ≡ option_and_then (λ target. option_map (augmented target which spot) (whole (read_exprs n more))) (single_target e)
aug_reads add_to e spot n more = refl
aug_reads take_from e spot n more = refl
aug_reads multiply_by e spot n more = refl
aug_reads divide_by e spot n more = refl
aug_reads leave_of e spot n more = refl

-- ---- a single target

a_single : (e : Exprs) → is_tuple_tree (exprs_tree e) ≡ false → is_some (exprs_target e) ≡ true → (t : OneTarget) × (single_target e ≡ Some t)
a_single (one_expr e) single fine = by (expr_target e) fine
  where
    by : (o : Option OneTarget) → is_some (option_map one_target o) ≡ true → (t : OneTarget) × (o ≡ Some t)
    by None is = absurd (let no : false ≡ true = is in cc)
    by (Some t) is = (t, refl)
a_single (several e comma rest) single fine = absurd (let no : true ≡ false = single in cc)

no_single : (e : Exprs) → is_some (exprs_target e) ≡ false → single_target e ≡ None
no_single (one_expr e) other = by (expr_target e) other
  where
    by : (o : Option OneTarget) → is_some (option_map one_target o) ≡ false → o ≡ None
    by None is = refl
    by (Some t) is = absurd (let no : true ≡ false = is in cc)
no_single (several e comma rest) other = refl

target_no_tuple : (t : OneTarget) → is_tuple_tree (expr_tree (target_expr t)) ≡ false
target_no_tuple (named at bytes) = refl
target_no_tuple (item e opening index closing) = refl
target_no_tuple (field e dot name_at bytes) = refl

tuple_no_single : (e : Exprs) → is_tuple_tree (exprs_tree e) ≡ true → single_target e ≡ None
tuple_no_single (one_expr e) tuple = by (expr_target e) refl
  where
    by : (o : Option OneTarget) → expr_target e ≡ o → o ≡ None
    by None is = refl
    by (Some t) is = absurd (let no : true ≡ false = sym tuple ∙ ap (λ e. is_tuple_tree (expr_tree e)) (target_is e t is) ∙ target_no_tuple t in cc)
tuple_no_single (several e comma rest) tuple = refl

single_spelled : (e : Exprs) (t : OneTarget) → single_target e ≡ Some t → exprs_tokens e ≡ one_target_tokens t
single_spelled (one_expr e) t is = target_spelled e t is
single_spelled (several e comma rest) t is = absurd (let no : None ≡ Some t = is in cc)

single_deep : (e : Exprs) (t : OneTarget) → single_target e ≡ Some t → exprs_depth e ≡ one_target_depth t
single_deep (one_expr e) t is = target_deep e t is
single_deep (several e comma rest) t is = absurd (let no : None ≡ Some t = is in cc)

single_tree : (e : Exprs) (t : OneTarget) → single_target e ≡ Some t → target_form (exprs_tree e) ≡ Some (one_target_tree t)
single_tree (one_expr e) t is = target_tree_is e t is
single_tree (several e comma rest) t is = absurd (let no : None ≡ Some t = is in cc)

-- ---- what is read and refused

aug_builds : (e : Exprs) (which : AugSign) (spot : Spot) (t : OneTarget) → single_target e ≡ Some t → exprs_depth e ≤ 100 → Builds e (token (Sign (aug_number which)) spot) (augmented t which spot)
aug_builds e which spot t is low = record {
  level = aug_level which;
  no_start = aug_starts which;
  reads = λ n more. aug_reads which e spot n more ∙ ap (option_and_then (λ target. option_map (augmented target which spot) (whole (read_exprs n more)))) is;
  spells = λ v. ap (λ ts. ts ++ (token (Sign (aug_number which)) spot ∷ exprs_tokens v)) (sym (single_spelled e t is));
  stands = λ around v. refl;
  deep = λ v at. le-max_right (one_target_lies t at) (exprs_lies v at);
  within = λ v at inner. let deep = single_deep e t is in let high = one_target_low t at in max_below _ _ 100 (omega (arith, deep, high, low)) inner;
  fits = λ v inner. let deep = single_deep e t is in max_below _ _ 100 (omega (arith, deep, low)) inner;
}

aug_none : (around : Around) (e : Exprs) (which : AugSign) (spot : Spot) (before after : List Token) (left : ℕ) → single_target e ≡ None → exprs_depth e ≤ 100 → left ≡ length after → before ≡ exprs_tokens e ++ token (Sign (aug_number which)) spot ∷ after
    → SimpleRefused around before (Here (Unexpected left))
aug_none around e which spot before after left none fits counted is = sign_wrong around e (token (Sign (aug_number which)) spot) before after left fits counted (aug_level which) (aug_starts which)
    (λ n more. aug_reads which e spot n more ∙ ap (option_and_then (λ target. option_map (augmented target which spot) (whole (read_exprs n more)))) none) is

pub aug_tuple : (first : Part) (at : Pos) (op : BinOp) (behind : List Token) (left : ℕ) → is_tuple_tree (expr_of first.expr.value) ≡ true → left ≡ length behind → RefusedAfterOp first at op behind (Here (Unexpected left))
aug_tuple first at op behind left tuple counted = record {
  there = λ around before middle f k.
      aug_none around f.written k.which k.spot before behind left (tuple_no_single f.written (ap is_tuple_tree (sym f.tree_is) ∙ tuple)) (row_fits f) counted (behind_sign f k.before_is);
}

pub aug_wrong : (first : Part) (at : Pos) (op : BinOp) (behind : List Token) (left : ℕ) → first.is_target ≡ false → left ≡ length behind → RefusedAfterOp first at op behind (Here (Unexpected left))
aug_wrong first at op behind left other counted = record {
  there = λ around before middle f k.
      aug_none around f.written k.which k.spot before behind left (no_single f.written (sym f.form_is ∙ other)) (row_fits f) counted (behind_sign f k.before_is);
}

first_single : {before middle : List Token} {first : Part} → (f : FoundRow 100 before first middle) → is_tuple_tree (expr_of first.expr.value) ≡ false → first.is_target ≡ true → (t : OneTarget) × (single_target f.written ≡ Some t)
first_single f single fine = a_single f.written (ap is_tuple_tree (sym f.tree_is) ∙ single) (sym f.form_is ∙ fine)

pub aug_is_target : (first : Part) → IsRow first → is_tuple_tree (expr_of first.expr.value) ≡ false → first.is_target ≡ true → is_some (target_form (expr_of first.expr.value)) ≡ true
aug_is_target first r single fine =
    let t = a_single r.written (ap is_tuple_tree (sym r.tree_is) ∙ single) (sym r.form_is ∙ fine) in
    ap (λ e. is_some (target_form e)) r.tree_is ∙ ap is_some (single_tree r.written t.0 t.1)

pub aug_refused : (first : Part) (at : Pos) (op : BinOp) (behind : List Token) (stop : Stop) → is_tuple_tree (expr_of first.expr.value) ≡ false → first.is_target ≡ true → Refused exprs_part 100 behind stop
    → RefusedAfterOp first at op behind stop
aug_refused first at op behind stop single fine refused = record {
  there = λ around before middle f k.
      let t = first_single f single fine in
      value_refused around f.written (token (Sign (aug_number k.which)) k.spot) (augmented t.0 k.which k.spot) before behind stop (aug_builds f.written k.which k.spot t.0 t.1 (row_fits f)) (behind_sign f k.before_is) refused;
}

pub aug_more : (first : Part) (at : Pos) (op : BinOp) (behind last : List Token) (value : Part) (stop : Stop) → is_tuple_tree (expr_of first.expr.value) ≡ false → first.is_target ≡ true → FoundRow 100 behind value last
    → IsMore last stop → RefusedAfterOp first at op behind stop
aug_more first at op behind last value stop single fine v more = record {
  there = λ around before middle f k.
      let t = first_single f single fine in
      value_more around f.written (token (Sign (aug_number k.which)) k.spot) (augmented t.0 k.which k.spot) before behind last value stop (aug_builds f.written k.which k.spot t.0 t.1 (row_fits f)) (behind_sign f k.before_is) v more;
}

pub aug_found : (first : Part) (at : Pos) (op : BinOp) (behind last : List Token) (target : BuiltTarget) (value : Part) (form : Form) → is_tuple_tree (expr_of first.expr.value) ≡ false → first.is_target ≡ true
    → target_form (expr_of first.expr.value) ≡ Some (target_of target) → FoundRow 100 behind value last → last ≡ [] → form_of form ≡ aug_form (target_of target) op at (expr_of value.expr.value) → FoundAfterOp first at op behind form
aug_found first at op behind last target value form single fine built v ends tree around before middle f k =
    let t = first_single f single fine in
    let same : target_of target ≡ one_target_tree t.0 = same_Some _ _ (sym built ∙ ap target_form f.tree_is ∙ single_tree f.written t.0 t.1) in
    value_found around f.written (token (Sign (aug_number k.which)) k.spot) (augmented t.0 k.which k.spot) before behind last value form (aug_builds f.written k.which k.spot t.0 t.1 (row_fits f)) (behind_sign f k.before_is) v ends
    (tree ∙ ap (λ t. aug_form t op at (expr_of value.expr.value)) same ∙ ap (λ o. aug_form (one_target_tree t.0) o at (expr_of value.expr.value)) k.op_is
    ∙ ap (λ p. aug_form (one_target_tree t.0) (aug_op k.which) p (expr_of value.expr.value)) (sym k.at_is) ∙ ap (aug_form (one_target_tree t.0) (aug_op k.which) k.spot.at) v.tree_is)
    (let high = f.height_is in let low = f.fits in let deep = single_deep f.written t.0 t.1 in let high_2 = v.height_is in let low_2 = v.fits in max_below _ _ 100 (omega (arith, high, low, deep)) (omega (arith, high_2, low_2)))
