-- Comparisons between operands: what is read of them, and how they are refused.
use Rattle.std.proofs.Common.{◌≡◌, ℕ, zero, suc, max, ◌≤◌, ◌<◌, Bool, true, false, List, [], ◌∷◌, ◌++◌, refl, ap, sym, ◌∙◌, arith, append_assoc}
use Rattle.std.specs.Prelude.{◌==◌, ⊤, nat_lt}
use Rattle.std.proofs.lemmas.List.{append-nil}
use Rattle.std.proofs.lemmas.Bool.{eqb-true, eqb-false, leb-true, leb-false}
use Rattle.prov_base.specs.declared.place.Pos.{Pos}
use Rattle.py_lines.specs.declared.parts.Token.{Token}
use Rattle.py_tree.specs.declared.expr.CmpOp.{CmpOp}
use Rattle.py_tree.specs.Tree.{compare_expr}
use Rattle.py_tree.specs.Erasure.{expr_of}
use Rattle.py_expressions.specs.declared.fault.Fault.TheVariants.{TooDeep}
use Rattle.py_expressions.specs.declared.fault.Stop.{Stop}
use Rattle.py_expressions.specs.declared.fault.Stop.TheVariants.{Here}
use Rattle.py_expressions.specs.declared.part.Part.{Part}
use Rattle.py_expressions.specs.Concrete.{Cmp, plain_cmp, compared, Sum, plain_sum, plain_term, Prim}
use Rattle.py_expressions.specs.Tokens.{cmp_tokens, sum_tokens}
use Rattle.py_expressions.specs.Trees.{cmp_tree, sum_tree, cmp_op, cmp_at}
use Rattle.py_expressions.specs.Depth.{sum_depth}
use Rattle.py_expressions.specs.Lies.{begins, deeper_of, cmp_lies, sum_lies, sum_deepest}
use Rattle.py_expressions.proofs.Lying.{above_left, sum_low, sum_above}
use Rattle.py_expressions.proofs.Deepest.{deeper_same, sum_is_first}
use Rattle.py_expressions.specs.Reader.{go_on, next_level, no_second, read_cmp_sign, read_cmp, cmp_rest, read_sum}
use Rattle.py_expressions.specs.Parsed.{cmp_part, sum_part, one_cmp_sign, TakenCmp, Found, IsAtFirst, IsDeep, Only, Finds, Refused, IsTooDeep}
use Rattle.py_expressions.proofs.Leading.{Reads}
use Rattle.py_expressions.proofs.Reading.{if_true, sum_leads, sum_stops, cmp_level}
use Rattle.py_expressions.proofs.Refusals.{first_of, Inside, only_any, only_if, only_is, finds_first, finds_step, finds_behind, finds_behind_now, first_alike, finds_now, finds_anything, finds_same, deep_left, deep_right, refused_inside, refused_same, begins_whole, node_within, fits_below, alone_elsewhere, first_full, full, over_both, fits_above, next_level_same, keyword_next_same}
use Rattle.py_expressions.proofs.Stops.{here}
use Rattle.py_expressions.proofs.Choices.{no_depth}
use Rattle.py_expressions.proofs.Prefixes.{some_unary}
use Rattle.py_expressions.proofs.Comparisons.{cmp_begins}

abbrev some_sum : Pos → Sum
some_sum at = plain_sum (plain_term (some_unary at))

reads_sum : (e : Sum) → Reads read_sum 3 (sum_tokens e) e
reads_sum e = sum_stops e (sum_leads e)

-- ---- what is read

pub cmp_one : (room : ℕ) (before after : List Token) (part : Part) → Found sum_part sum_tree 3 room before part after → (next_level after == 4) ≡ false → Found cmp_part cmp_tree 4 room before part after
cmp_one room before after part f other = record { written = plain_cmp f.written; before_is = f.before_is; tree_is = f.tree_is; height_is = f.height_is; deepest_is = f.deepest_is; form_is = f.form_is; fits = f.fits; beyond = let low = f.beyond in not_equal (next_level after) low other }
  where
    not_equal : (n : ℕ) → 3 < n → (n == 4) ≡ false → 4 < n
    not_equal n above apart = by (nat_lt 4 n) refl
      where
        by : (b : Bool) → nat_lt 4 n ≡ b → 4 < n
        by true is = leb-true 5 n is
        by false is = let low = leb-false 5 n is in absurd (eqb-false n 4 apart (omega (arith, above, low)))

pub cmp_next : (room inner : ℕ) (before middle behind after : List Token) (at : Pos) (op : CmpOp) (left right part : Part) → Found sum_part sum_tree 3 room before left middle → TakenCmp middle at op behind → left.height < room → inner < room
    → Found sum_part sum_tree 3 inner behind right after → (next_level after == 4) ≡ false → expr_of part.expr.value ≡ compare_expr at op (expr_of left.expr.value) (expr_of right.expr.value) → part.height ≡ suc (max left.height right.height) → part.deepest ≡ deeper_of left.height left.deepest right.height right.deepest → part.is_target ≡ false
    → Found cmp_part cmp_tree 4 room before part after
cmp_next room inner before middle behind after at op left right part l k less smaller r apart tree height deepest other = record {
  written = compared l.written k.which r.written;
  before_is = l.before_is ∙ ap (λ ts. sum_tokens l.written ++ ts) (k.before_is ∙ ap (λ ts. cmp_tokens k.which ++ ts) r.before_is ∙ sym (append_assoc (cmp_tokens k.which) (sum_tokens r.written) after))
      ∙ sym (append_assoc (sum_tokens l.written) (cmp_tokens k.which ++ sum_tokens r.written) after);
  tree_is = tree ∙ ap (λ a. compare_expr a op (expr_of left.expr.value) (expr_of right.expr.value)) (sym k.at_is) ∙ ap (λ o. compare_expr (cmp_at k.which) o (expr_of left.expr.value) (expr_of right.expr.value)) k.op_is
      ∙ ap (λ e. compare_expr (cmp_at k.which) (cmp_op k.which) e (expr_of right.expr.value)) l.tree_is ∙ ap (compare_expr (cmp_at k.which) (cmp_op k.which) (sum_tree l.written)) r.tree_is;
  height_is = height ∙ over_both _ _ _ _ l.height_is r.height_is;
  deepest_is = deepest ∙ deeper_same left.height right.height (sum_depth l.written) (sum_depth r.written) left.deepest right.deepest (sum_deepest l.written) (sum_deepest r.written) l.height_is l.deepest_is r.height_is r.deepest_is;
  form_is = other;
  fits = let small = r.fits in fits_above room left.height right.height part.height height less (omega (arith, small, smaller));
  beyond = (cmp_one inner behind after right r apart).beyond;
}

-- ---- what is refused

no_second_deep : (stop : Stop) (room : ℕ) (e : Cmp) (ts : List Token) → IsDeep stop room (cmp_lies e) → Only (λ c. IsDeep stop room (cmp_lies c)) (no_second e ts)
no_second_deep stop room e ts deep = only_if _ (next_level ts == 4) _ _ tt deep

cmp_deep : (stop : Stop) (room n : ℕ) (left : Sum) (ts : List Token) → IsDeep stop room (sum_lies left) → Only (λ c. IsDeep stop room (cmp_lies c)) (cmp_rest n left ts)
cmp_deep stop room zero left ts deep = tt
cmp_deep stop room (suc n) left ts deep = only_if _ (next_level ts == 4) _ _
    (only_any _ (read_cmp_sign ts) _ (λ op more. only_any _ (read_sum n more) _ (λ right rest. no_second_deep stop room (compared left op right) rest
    (deep_left stop room (begins (sum_tokens left)) (sum_lies left) (sum_lies right) deep))))
    deep

left_inside : (room : ℕ) (behind : List Token) → Inside cmp_part room sum_part room [] behind
left_inside room behind = record {
  begins = λ at b. record { some = plain_cmp b; more = []; tokens_are = sym (append-nil (sum_tokens b)); within = λ other apart low. low; deep = λ stop deep. deep };
  finds = λ stop more first finds. finds_first _ _ read_cmp read_sum cmp_rest more more (λ n. refl) (λ n b ts deep. cmp_deep stop room n b ts deep) finds;
}

pub cmp_left_refused : (room : ℕ) (before : List Token) (stop : Stop) → Refused sum_part room before stop → Refused cmp_part room before stop
cmp_left_refused room before stop is = refused_inside cmp_part room sum_part room [] before stop (left_inside room before) is

-- what is read behind the left operand where a comparison begins
behind_left : (n : ℕ) (left : Sum) (ts : List Token) → next_level ts ≡ 4 → cmp_rest (suc n) left ts ≡ go_on (read_cmp_sign ts) (λ op more. go_on (read_sum n more) (λ right rest. no_second (compared left op right) rest))
behind_left n left ts level = if_true (next_level ts == 4) _ _ (ap (λ l. l == 4) level)

at_level : (ts : List Token) → (next_level ts == 4) ≡ true → next_level ts ≡ 4
at_level ts is = eqb-true (next_level ts) 4 is

sign_inside : (room : ℕ) (left : Sum) (behind : List Token) → next_level behind ≡ 4 → sum_depth left < room → Inside cmp_part room one_cmp_sign 0 (sum_tokens left) behind
sign_inside room left behind level fits = record {
  begins = λ at b. record {
    some = compared left b (some_sum at);
    more = sum_tokens (some_sum at);
    tokens_are = sym (append_assoc (sum_tokens left) (cmp_tokens b) (sum_tokens (some_sum at)));
    within = λ other apart any.
        let low = sum_low left other in
        let alone = alone_elsewhere at other apart in
        node_within (begins (sum_tokens left) other) (sum_lies left other) (sum_lies (some_sum at) other) (sum_depth left) room fits low (omega (arith, alone));
    deep = λ stop deep. no_depth stop deep;
  };
  finds = λ stop more first finds. let four : next_level more ≡ 4 = next_level_same more behind first ∙ level in
      finds_behind _ read_cmp read_sum cmp_rest 3 (sum_tokens left) left more (λ n. refl) (reads_sum left) (omega (arith, four))
      (finds_first _ _ (λ n us. cmp_rest n left us) (λ n us. read_cmp_sign us) (λ n op us. go_on (read_sum n us) (λ right rest. no_second (compared left op right) rest)) more more (λ n. behind_left n left more four)
      (λ n op us deep. no_depth stop deep) finds);
}

pub cmp_full : (room : ℕ) (before middle : List Token) (left : Part) (stop : Stop) → Found sum_part sum_tree 3 room before left middle → (next_level middle == 4) ≡ true → IsTooDeep left.height left.deepest room stop → Refused cmp_part room before stop
cmp_full room before [] left stop l level deep = cc
cmp_full room before (t ∷ ts) left stop l level deep = full cmp_part room before (sum_tokens l.written) t ts left.height left.deepest stop deep l.before_is (begins_whole cmp_part room (plain_cmp l.written) (λ at. let low = sum_low l.written at in let is = l.height_is in let fits = l.fits in omega (arith, low, is, fits)))
    (first_full cmp_part room (sum_tokens l.written) t (compared l.written (cmp_begins t level).some (some_sum left.deepest)) ((cmp_begins t level).more ++ sum_tokens (some_sum left.deepest)) (begins (sum_tokens l.written)) (sum_lies l.written) (sum_lies (some_sum left.deepest))
    left.height (sum_depth l.written) left.deepest (sum_deepest l.written) (ap (λ ts. sum_tokens l.written ++ (ts ++ sum_tokens (some_sum left.deepest))) (cmp_begins t level).tokens_are) (λ at. refl) (sum_is_first l.written) l.deepest_is l.height_is
    (sum_above l.written) l.fits (λ other apart. alone_elsewhere left.deepest other apart))
    (λ more. let four = at_level (t ∷ more) level in finds_behind _ read_cmp read_sum cmp_rest 3 (sum_tokens l.written) l.written (t ∷ more) (λ n. refl) (reads_sum l.written) (omega (arith, four))
    (finds_first (λ o. ⊤) _ (λ n us. cmp_rest n l.written us) (λ n us. read_cmp_sign us) (λ n op us. go_on (read_sum n us) (λ right rest. no_second (compared l.written op right) rest)) (t ∷ more) (t ∷ more) (λ n. behind_left n l.written (t ∷ more) four)
    (λ n op us any. only_any _ (read_sum n us) _ (λ right rest. no_second_deep (Here (TooDeep left.deepest)) left.height (compared l.written op right) rest
    (above_left (begins (sum_tokens l.written) left.deepest) (sum_lies l.written left.deepest) (sum_lies right left.deepest) left.height (sum_depth l.written) l.height_is
    (ap (sum_lies l.written) l.deepest_is ∙ (sum_is_first l.written).lies_is) (sum_above l.written))))
    (finds_anything (λ n us. read_cmp_sign us) (t ∷ more))))

pub cmp_sign_refused : (room : ℕ) (before middle : List Token) (left : Part) (stop : Stop) → Found sum_part sum_tree 3 room before left middle → (next_level middle == 4) ≡ true → left.height < room → Refused one_cmp_sign 0 middle stop → Refused cmp_part room before stop
cmp_sign_refused room before middle left stop l level fits is =
    refused_same cmp_part room _ _ stop l.before_is (refused_inside cmp_part room one_cmp_sign 0 (sum_tokens l.written) middle stop (sign_inside room l.written middle (at_level middle level) (let same = l.height_is in omega (arith, fits, same))) is)

-- the reader behind the left operand and the comparison
behind_sign : {P : Cmp → Type 0} (left : Sum) (before behind : List Token) (at : Pos) (op : CmpOp) (k : TakenCmp before at op behind) (more : List Token) → first_of more ≡ first_of behind
    → Finds P (λ n us. go_on (read_sum n us) (λ right rest. no_second (compared left k.which right) rest)) more → Finds P read_cmp (sum_tokens left ++ (cmp_tokens k.which ++ more))
behind_sign {P} left before behind at op k more first finds =
    let four = cmp_level k.which more in
    finds_behind P read_cmp read_sum cmp_rest 3 (sum_tokens left) left (cmp_tokens k.which ++ more) (λ n. refl) (reads_sum left) (omega (arith, four))
    (finds_step P (λ n us. cmp_rest n left us) (λ n us. go_on (read_sum n us) (λ right rest. no_second (compared left k.which right) rest)) (cmp_tokens k.which ++ more) more
    (λ n. behind_left n left (cmp_tokens k.which ++ more) four ∙ ap (λ r. go_on r (λ o us. go_on (read_sum n us) (λ right rest. no_second (compared left o right) rest))) (k.alone more (keyword_next_same 26 more behind first)))
    finds)

right_inside : (room inner : ℕ) (left : Sum) (before behind : List Token) (at : Pos) (op : CmpOp) (k : TakenCmp before at op behind) → room ≤ suc inner → inner < room → sum_depth left ≤ inner → Inside cmp_part room sum_part inner (sum_tokens left ++ cmp_tokens k.which) behind
right_inside room inner left before behind at op k less smaller fits = record {
  begins = λ at b. record {
    some = compared left k.which b;
    more = [];
    tokens_are = sym (append-nil ((sum_tokens left ++ cmp_tokens k.which) ++ sum_tokens b) ∙ append_assoc (sum_tokens left) (cmp_tokens k.which) (sum_tokens b));
    within = λ other apart low. let left_low = sum_low left other in node_within (begins (sum_tokens left) other) (sum_lies left other) (sum_lies b other) inner room smaller (omega (arith, left_low, fits)) low;
    deep = λ stop deep. deep_right stop inner room (begins (sum_tokens left)) (sum_lies left) (sum_lies b) less deep;
  };
  finds = λ stop more first finds. finds_same _ read_cmp _ _ (append_assoc (sum_tokens left) (cmp_tokens k.which) more) (behind_sign left before behind at op k more first
      (finds_now _ _ (λ n us. go_on (read_sum n us) (λ right rest. no_second (compared left k.which right) rest)) read_sum (λ n right rest. no_second (compared left k.which right) rest) more more (λ n. refl)
      (λ n right rest deep. no_second_deep stop room (compared left k.which right) rest (deep_right stop inner room (begins (sum_tokens left)) (sum_lies left) (sum_lies right) less deep)) finds));
}

pub cmp_right_refused : (room inner : ℕ) (before middle behind : List Token) (at : Pos) (op : CmpOp) (left : Part) (stop : Stop) → Found sum_part sum_tree 3 room before left middle → TakenCmp middle at op behind → left.height < room → room ≤ suc inner
    → inner < room → Refused sum_part inner behind stop → Refused cmp_part room before stop
cmp_right_refused room inner before middle behind at op left stop l k fits less smaller is =
    refused_same cmp_part room _ _ stop (l.before_is ∙ ap (λ ts. sum_tokens l.written ++ ts) k.before_is ∙ sym (append_assoc (sum_tokens l.written) (cmp_tokens k.which) behind))
    (refused_inside cmp_part room sum_part inner (sum_tokens l.written ++ cmp_tokens k.which) behind stop (right_inside room inner l.written middle behind at op k less smaller (let same = l.height_is in omega (arith, fits, less, same))) is)

pub cmp_second_refused : (room inner : ℕ) (before middle behind after : List Token) (at : Pos) (op : CmpOp) (left right : Part) (stop : Stop) → Found sum_part sum_tree 3 room before left middle → TakenCmp middle at op behind → left.height < room → inner < room
    → Found sum_part sum_tree 3 inner behind right after → (next_level after == 4) ≡ true → IsAtFirst after stop → Refused cmp_part room before stop
cmp_second_refused room inner before middle behind after at op left right stop l k less smaller r level first = here cmp_part room before (sum_tokens l.written ++ (cmp_tokens k.which ++ sum_tokens r.written)) after stop
    (l.before_is ∙ ap (λ ts. sum_tokens l.written ++ ts) (k.before_is ∙ ap (λ ts. cmp_tokens k.which ++ ts) r.before_is ∙ sym (append_assoc (cmp_tokens k.which) (sum_tokens r.written) after))
    ∙ sym (append_assoc (sum_tokens l.written) (cmp_tokens k.which ++ sum_tokens r.written) after))
    first (begins_whole cmp_part room (compared l.written k.which r.written) low)
    (λ empty. absurd (nine_is_not (sym (ap (λ ts. next_level ts == 4) empty) ∙ level)))
    (λ t ts more is.
    let four : next_level (t ∷ more) ≡ 4 = at_level (t ∷ ts) (sym (ap (λ us. next_level us == 4) is) ∙ level) in
    let alike : first_of (sum_tokens r.written ++ t ∷ more) ≡ first_of behind = first_alike (sum_tokens r.written) t more ts ∙ sym (ap first_of (r.before_is ∙ ap (λ us. sum_tokens r.written ++ us) is)) in
    finds_same _ read_cmp _ _ (append_assoc (sum_tokens l.written) (cmp_tokens k.which ++ sum_tokens r.written) (t ∷ more) ∙ ap (λ us. sum_tokens l.written ++ us) (append_assoc (cmp_tokens k.which) (sum_tokens r.written) (t ∷ more)))
    (behind_sign l.written middle behind at op k (sum_tokens r.written ++ t ∷ more) alike
    (finds_behind_now _ (λ n us. go_on (read_sum n us) (λ right rest. no_second (compared l.written k.which right) rest)) read_sum (λ n right rest. no_second (compared l.written k.which right) rest) 3 (sum_tokens r.written) r.written (t ∷ more) (λ n. refl) (reads_sum r.written) (omega (arith, four))
    (record { steps = 0; only = λ n. only_is _ _ _ (if_true (next_level (t ∷ more) == 4) _ _ (ap (λ l. l == 4) four)) tt }))))
  where
    nine_is_not : (9 == 4) ≡ true → ⊥
    nine_is_not is = cc

    low : (at : Pos) → cmp_lies (compared l.written k.which r.written) at ≤ room
    low at =
        let left_low = sum_low l.written at in
        let right_low = sum_low r.written at in
        let left_is = l.height_is in
        let right_is = r.height_is in
        let fits = r.fits in
        fits_below (begins (sum_tokens l.written) at) (sum_lies l.written at) (sum_lies r.written at) room (omega (arith, left_low, left_is, less)) (omega (arith, right_low, right_is, fits, smaller))
