-- Expressions in a row and items up to a closing sign: what is read of them, and how they are refused.
use Rattle.std.proofs.Common.{◌≡◌, ℕ, zero, suc, ◌+◌, max, ◌≤◌, ◌<◌, true, false, List, [], ◌∷◌, ◌++◌, map, Some, is_some, refl, ap, sym, ◌∙◌, arith, subst, append_assoc, if◌then◌else◌}
use Rattle.std.specs.Prelude.{◌==◌}
use Rattle.std.proofs.Math.Nat.{le-max_left}
use Rattle.std.proofs.lemmas.List.{append-nil}
use Rattle.prov_base.specs.declared.place.Pos.{Pos}
use Rattle.py_lines.specs.declared.parts.Token.{Token}
use Rattle.py_lines.specs.declared.parts.TokenKind.TheVariants.{Sign}
use Rattle.py_tree.specs.declared.expr.Expr.{Expr as ExprRead}
use Rattle.py_tree.specs.Tree.{ExprTree, tuple_expr, end_exprs, more_exprs}
use Rattle.py_tree.specs.Erasure.{expr_of, exprs_list}
use Rattle.py_expressions.specs.declared.fault.Stop.{Stop}
use Rattle.py_expressions.specs.declared.part.Part.{Part}
use Rattle.py_expressions.specs.declared.rows.Row.{Row}
use Rattle.py_expressions.specs.Concrete.{Spot, Expr, Exprs, one_expr, several, Rest, end_rest, last_rest, more_rest, Items, no_items, items}
use Rattle.py_expressions.specs.Tokens.{token, expr_tokens, exprs_tokens, rest_tokens}
use Rattle.py_expressions.specs.Trees.{expr_tree, rest_tree}
use Rattle.py_expressions.specs.Depth.{expr_depth, rest_depth}
use Rattle.py_expressions.specs.Lies.{begins, nowhere, deeper_of, expr_lies, exprs_lies, rest_lies, expr_deepest, rest_deepest}
use Rattle.py_expressions.proofs.Lying.{above_left, expr_above, expr_low}
use Rattle.py_expressions.proofs.Deepest.{deeper_first, deeper_later, deeper_same, expr_is_first}
use Rattle.py_expressions.specs.Reader.{go_on, next_level, start_class, starts, is_sign, read_sign, read_expr, read_exprs, exprs_rest, read_rest, read_items}
use Rattle.py_expressions.specs.Targets.{rest_target}
use Rattle.py_expressions.specs.Parsed.{expr_part, exprs_part, Taken, Found, IsDeep, Only, Finds, Refused, IsTooDeep, is_sign_next}
use Rattle.py_expressions.specs.ParsedRows.{IsRead, items_part, rest_part, rest_trees, FoundList, FoundRest, FoundItems}
use Rattle.py_expressions.proofs.Firsts.{IsStart, expr_starts, exprs_starts, items_is}
use Rattle.py_expressions.proofs.Reading.{if_false, if_true, expr_reads}
use Rattle.py_expressions.proofs.Refusals.{Inside, begins_whole, max_below, node_within, only_any, only_go_on, only_if, only_is, finds_first, finds_behind, finds_at_once, finds_same, deep_left, deep_right, deep_beside_left, deep_beside_right, refused_inside, refused_same, one_behind, first_full, full}
use Rattle.py_expressions.proofs.ClosedParts.{first_is}
use Rattle.py_expressions.proofs.RowParts.{beyond_comma, sign_first, some_several, some_one, more_steps}
use Rattle.py_expressions.proofs.SharpReads.{exprs_is_read}

-- ---- a row is read

pub row_one : (room : ℕ) (before after : List Token) (part : Part) → Found expr_part expr_tree 7 room before part after → is_sign_next 6 after ≡ false → FoundList room before part false after
row_one room before after part f other = record {
  row = record {
    written = one_expr f.written;
    before_is = f.before_is;
    tree_is = f.tree_is;
    height_is = f.height_is;
    deepest_is = f.deepest_is;
    form_is = f.form_is ∙ sym (some_one f.written);
    fits = f.fits;
    beyond = λ closed_there. beyond_comma after f.beyond other;
    no_more = λ open_there. cc;
  };
  comma_is = refl;
}

rest_list : (r : Rest) → exprs_list (rest_trees r) ≡ rest_tree r
rest_list end_rest = refl
rest_list (last_rest e) = refl
rest_list (more_rest e comma r) = ap (more_exprs (expr_tree e)) (rest_list r)

-- the first expression of a row, before what stands behind its comma
pub record FirstOf (first : Part) (row : Row) : Type 0 where
  pub list_is : row.list.items ≡ first.expr.value ∷ []
  pub height_is : row.height ≡ first.height
  pub deepest_is : 1 ≤ first.height → row.deepest ≡ first.deepest
  pub form_is : row.is_target ≡ first.is_target

pub first_pushed : (empty row : Row) (first : Part) → empty.list.items ≡ [] → empty.height ≡ 0 → empty.is_target ≡ true → row.list.items ≡ empty.list.items ++ first.expr.value ∷ [] → row.height ≡ max empty.height first.height
    → row.deepest ≡ deeper_of empty.height empty.deepest first.height first.deepest → row.is_target ≡ (if empty.is_target then first.is_target else false) → FirstOf first row
first_pushed empty row first none_there low free list_is height_is deepest_is form_is = record {
  list_is = list_is ∙ ap (λ xs. xs ++ first.expr.value ∷ []) none_there;
  height_is = height_is ∙ ap (λ h. max h first.height) low ∙ none_below first.height;
  deepest_is = λ some. deepest_is ∙ deeper_later empty.height first.height empty.deepest first.deepest (omega (arith, low, some));
  form_is = form_is ∙ ap (λ b. if b then first.is_target else false) free;
}
  where
    none_below : (n : ℕ) → max 0 n ≡ n
    none_below n = omega arith

first_trees : (row : Row) (first : Part) (e : ExprTree) (list : List ExprRead) (r : Rest) → FirstOf first row → expr_of first.expr.value ≡ e → map expr_of list ≡ map expr_of row.list.items ++ rest_trees r
    → exprs_list (map expr_of list) ≡ more_exprs e (rest_tree r)
first_trees row first e list r one is all =
    ap exprs_list (all ∙ ap (λ xs. map expr_of xs ++ rest_trees r) one.list_is) ∙ ap (λ x. more_exprs x (exprs_list (rest_trees r))) is ∙ ap (more_exprs e) (rest_list r)

-- the first one with what stands behind its comma
first_deepest : (first : Part) (row : Row) (deepest : Pos) (e : Expr) (r : Rest) → FirstOf first row → first.height ≡ expr_depth e → first.deepest ≡ expr_deepest e → deepest ≡ deeper_of row.height row.deepest (rest_depth r) (rest_deepest r)
    → deepest ≡ deeper_of (expr_depth e) (expr_deepest e) (rest_depth r) (rest_deepest r)
first_deepest first row deepest e r one height there behind =
    let some : 1 ≤ first.height = let above = expr_above e in omega (arith, above, height) in
    behind ∙ deeper_same row.height (rest_depth r) (expr_depth e) (rest_depth r) row.deepest (rest_deepest r) (expr_deepest e) (rest_deepest r) (one.height_is ∙ height) (one.deepest_is some ∙ there) refl refl

some_first : (e : Expr) (n : ℕ) → 1 ≤ max (expr_depth e) n
some_first e n = let above = expr_above e in let high = le-max_left (expr_depth e) n in omega (arith, above, high)

pub row_several : (room inner : ℕ) (before middle behind after : List Token) (at : Pos) (first part : Part) (row more : Row) → Found expr_part expr_tree 7 room before first middle → Taken (Sign 6) middle at behind
    → first.height < room → inner < room → FirstOf first row → FoundRest inner behind row more after
    → expr_of part.expr.value ≡ tuple_expr at (exprs_list (map expr_of more.list.items)) → part.height ≡ suc more.height → part.deepest ≡ more.deepest → part.is_target ≡ more.is_target → FoundList room before part true after
row_several room inner before middle behind after at first part row more f k less smaller one r tree height deepest form = record {
  row = record {
    written = several f.written k.spot r.written;
    before_is = f.before_is ∙ ap (λ ts. expr_tokens f.written ++ ts) (k.before_is ∙ ap (λ ts. token (Sign 6) k.spot ∷ ts) r.before_is) ∙ sym (append_assoc (expr_tokens f.written) (token (Sign 6) k.spot ∷ rest_tokens r.written) after);
    tree_is = tree ∙ ap (tuple_expr at) (first_trees row first (expr_tree f.written) more.list.items r.written one f.tree_is r.trees_are) ∙ ap (λ place. tuple_expr place (more_exprs (expr_tree f.written) (rest_tree r.written))) (sym k.at_is);
    height_is = height ∙ ap suc (r.height_is ∙ ap (λ h. max h (rest_depth r.written)) (one.height_is ∙ f.height_is)) ∙ one_more (max (expr_depth f.written) (rest_depth r.written));
    deepest_is = deepest ∙ first_deepest first row more.deepest f.written r.written one f.height_is f.deepest_is r.deepest_is;
    form_is = form ∙ r.form_is ∙ ap (λ b. if b then is_some (rest_target r.written) else false) (one.form_is ∙ f.form_is) ∙ sym (some_several f.written k.spot r.written);
    fits = let small = r.fits in omega (arith, height, small, smaller);
    beyond = r.beyond;
    no_more = r.no_more;
  };
  comma_is = refl;
}
  where
    one_more : (n : ℕ) → suc n ≡ 1 + n
    one_more n = omega arith

-- ---- and refused, for each way of telling how deep it is

exprs_from : (P : Exprs → Type 0) (n : ℕ) (e : Expr) (ts : List Token) → P (one_expr e) → ((comma : Spot) (r : Rest) → P (several e comma r)) → Only P (exprs_rest n e ts)
exprs_from P zero e ts one more = tt
exprs_from P (suc n) e ts one more = only_if _ (next_level ts == 8) _ _ (only_any _ (read_sign 6 ts) _ (λ comma behind. only_any _ (read_rest n behind) _ (λ found rest. more comma found))) one

pub exprs_finds_first : (P : Exprs → Type 0) (Q : Expr → Type 0) (ts : List Token) → ((e : Expr) → Q e → P (one_expr e)) → ((e : Expr) (comma : Spot) (r : Rest) → Q e → P (several e comma r)) → Finds Q read_expr ts → Finds P read_exprs ts
exprs_finds_first P Q ts one more finds = finds_first Q P read_exprs read_expr (λ n e us. exprs_rest n e us) ts ts (λ n. refl) (λ n e us deep. exprs_from P n e us (one e deep) (λ comma r. more e comma r deep)) finds

pub exprs_finds_rest : (P : Exprs → Type 0) (Q : Rest → Type 0) (e : Expr) (comma : Spot) (more : List Token) → ((r : Rest) → Q r → P (several e comma r)) → Finds Q read_rest more
    → Finds P read_exprs ((expr_tokens e ++ token (Sign 6) comma ∷ []) ++ more)
exprs_finds_rest P Q e comma more each finds = finds_same P read_exprs _ _ (append_assoc (expr_tokens e) (token (Sign 6) comma ∷ []) more)
    (finds_behind P read_exprs read_expr (λ n e ts. exprs_rest n e ts) 7 (expr_tokens e) e (token (Sign 6) comma ∷ more) (λ n. refl) (expr_reads e) (omega arith)
    (finds_first Q P (λ n ts. exprs_rest n e ts) read_rest (λ n r ts. Some (several e comma r, ts)) (token (Sign 6) comma ∷ more) more (λ n. refl) (λ n r ts deep. each r deep) finds))

several_deep : (stop : Stop) (room : ℕ) (e : Expr) (comma : Spot) (r : Rest) → IsDeep stop room (expr_lies e) → IsDeep stop room (exprs_lies (several e comma r))
several_deep stop room e comma r deep = deep_left stop room (begins (expr_tokens e)) (expr_lies e) (rest_lies r) deep

row_starts : (room : ℕ) (rest : List Token) → Inside exprs_part room expr_part room [] rest
row_starts room rest = record {
  begins = λ at b. record { some = one_expr b; more = []; tokens_are = sym (append-nil (expr_tokens b)); within = λ other apart low. low; deep = λ stop deep. deep };
  finds = λ stop more first finds. exprs_finds_first _ (λ e. IsDeep stop room (expr_lies e)) more (λ e deep. deep) (λ e comma r deep. several_deep stop room e comma r deep) finds;
}

pub row_first : (room : ℕ) (before : List Token) (stop : Stop) → Refused expr_part room before stop → Refused exprs_part room before stop
row_first room before stop is = refused_inside exprs_part room expr_part room [] before stop (row_starts room before) is

row_goes_on : (room inner : ℕ) (e : Expr) (comma : Spot) (rest : List Token) → room ≤ suc inner → inner < room → expr_depth e ≤ inner → Inside exprs_part room rest_part inner (expr_tokens e ++ token (Sign 6) comma ∷ []) rest
row_goes_on room inner e comma rest less smaller fits = record {
  begins = λ at b. record {
    some = several e comma b;
    more = [];
    tokens_are = one_behind (expr_tokens e) (token (Sign 6) comma) (rest_tokens b);
    within = λ other apart low. let first_low = expr_low e other in node_within (begins (expr_tokens e) other) (expr_lies e other) (rest_lies b other) inner room smaller (omega (arith, first_low, fits)) low;
    deep = λ stop deep. deep_right stop inner room (begins (expr_tokens e)) (expr_lies e) (rest_lies b) less deep;
  };
  finds = λ stop more first finds. exprs_finds_rest _ (λ r. IsDeep stop inner (rest_lies r)) e comma more
      (λ r deep. deep_right stop inner room (begins (expr_tokens e)) (expr_lies e) (rest_lies r) less deep) finds;
}

pub row_rest : (room inner : ℕ) (before middle behind : List Token) (at : Pos) (first : Part) (stop : Stop) → Found expr_part expr_tree 7 room before first middle → Taken (Sign 6) middle at behind → first.height < room → room ≤ suc inner
    → inner < room → Refused rest_part inner behind stop → Refused exprs_part room before stop
row_rest room inner before middle behind at first stop f k fits less smaller is =
    refused_same exprs_part room before _ stop (f.before_is ∙ ap (λ ts. expr_tokens f.written ++ ts) k.before_is ∙ sym (append_assoc (expr_tokens f.written) (token (Sign 6) k.spot ∷ []) behind))
    (refused_inside exprs_part room rest_part inner (expr_tokens f.written ++ token (Sign 6) k.spot ∷ []) behind stop (row_goes_on room inner f.written k.spot behind less smaller (let same = f.height_is in omega (arith, fits, less, same))) is)

pub row_full : (room : ℕ) (before middle behind : List Token) (at : Pos) (first : Part) (stop : Stop) → Found expr_part expr_tree 7 room before first middle → Taken (Sign 6) middle at behind
    → IsTooDeep first.height first.deepest room stop → Refused exprs_part room before stop
row_full room before middle behind at first stop f k deep = full exprs_part room before (expr_tokens f.written) (token (Sign 6) k.spot) behind first.height first.deepest stop deep
    (f.before_is ∙ ap (λ ts. expr_tokens f.written ++ ts) k.before_is) (begins_whole exprs_part room (one_expr f.written) (λ at. let low = expr_low f.written at in let is = f.height_is in let fits = f.fits in omega (arith, low, is, fits)))
    (first_full exprs_part room (expr_tokens f.written) (token (Sign 6) k.spot) (several f.written k.spot end_rest) [] (begins (expr_tokens f.written)) (expr_lies f.written) (λ at. 0) first.height (expr_depth f.written) first.deepest (expr_deepest f.written)
    refl (λ at. refl) (expr_is_first f.written) f.deepest_is f.height_is (expr_above f.written) f.fits (λ other apart. refl))
    (λ more. finds_behind _ read_exprs read_expr (λ n e ts. exprs_rest n e ts) 7 (expr_tokens f.written) f.written (token (Sign 6) k.spot ∷ more) (λ n. refl) (expr_reads f.written) (omega arith)
    (finds_at_once _ (λ n ts. exprs_rest n f.written ts) (token (Sign 6) k.spot ∷ more)
    (λ n. only_any _ (read_rest n more) _ (λ r rest. above_left (begins (expr_tokens f.written) first.deepest) (expr_lies f.written first.deepest) (rest_lies r first.deepest) first.height (expr_depth f.written) f.height_is
    (ap (expr_lies f.written) f.deepest_is ∙ (expr_is_first f.written).lies_is) (expr_above f.written)))))

-- ---- items are read

pub items_none : (closing room : ℕ) (opening : Pos) (before : List Token) (row : Row) → row.list.items ≡ [] → row.height ≡ 0 → row.deepest ≡ opening → is_sign_next closing before ≡ true → FoundItems closing room opening before row before
items_none closing room opening before row none_there low deepest closes = record {
  written = no_items;
  before_is = refl;
  trees_are = ap (λ xs. exprs_list (map expr_of xs)) none_there;
  height_is = low;
  deepest_is = deepest ∙ sym (deeper_first 0 0 opening nowhere (omega arith));
  fits = omega (arith, low);
  is_read = record {
    steps = 1;
    reads = λ n more first. more_steps (λ m. read_items m closing more) (n + 1) (suc n) (omega arith) ∙ ends n more (sign_first closing before more (sym (first_is more) ∙ first ∙ first_is before) ∙ closes);
  };
}
  where
    ends : (n : ℕ) (more : List Token) → is_sign_next closing more ≡ true → read_items (suc n) closing more ≡ Some (no_items, more)
    ends n [] is = cc
    ends n (t ∷ ts) is = if_true (is_sign closing t.kind) _ _ is

pub items_is_read : (closing : ℕ) (e : Exprs) (rest : List Token) → start_class (Sign closing) ≡ 0 → IsRead exprs_part e rest → IsRead (items_part closing) (items e) rest
items_is_read closing e rest closes is = record {
  steps = suc is.steps;
  reads = λ n more first.
      more_steps (λ m. read_items m closing (exprs_tokens e ++ more)) (n + suc is.steps) (suc (n + is.steps)) (omega arith)
      ∙ items_is (n + is.steps) closing (exprs_tokens e ++ more) closes (exprs_starts e more)
      ∙ ap (λ r. go_on r (λ e rest. Some (items e, rest))) (is.reads n more first);
}

pub items_one : (closing room : ℕ) (opening : Pos) (before after : List Token) (first : Part) (row : Row) → start_class (Sign closing) ≡ 0 → Found expr_part expr_tree 7 room before first after → FirstOf first row → is_sign_next 6 after ≡ false
    → FoundItems closing room opening before row after
items_one closing room opening before after first row closes f one other = record {
  written = items (one_expr f.written);
  before_is = f.before_is;
  trees_are = ap (λ xs. exprs_list (map expr_of xs)) one.list_is ∙ ap (λ e. more_exprs e end_exprs) f.tree_is;
  height_is = one.height_is ∙ f.height_is;
  deepest_is = one.deepest_is (let above = expr_above f.written in let is = f.height_is in omega (arith, above, is)) ∙ f.deepest_is
      ∙ sym (deeper_later 0 (expr_depth f.written) opening (expr_deepest f.written) (let above = expr_above f.written in omega (arith, above)));
  fits = let is = one.height_is in let small = f.fits in omega (arith, is, small);
  is_read = items_is_read closing (one_expr f.written) after closes (exprs_is_read (one_expr f.written) after (λ closed_there. beyond_comma after f.beyond other) (λ open_there. cc));
}

pub items_several : (closing room : ℕ) (opening : Pos) (before middle behind after : List Token) (at : Pos) (first : Part) (row more : Row) → start_class (Sign closing) ≡ 0 → Found expr_part expr_tree 7 room before first middle
    → Taken (Sign 6) middle at behind → FirstOf first row → FoundRest room behind row more after → FoundItems closing room opening before more after
items_several closing room opening before middle behind after at first row more closes f k one r = record {
  written = items (several f.written k.spot r.written);
  before_is = f.before_is ∙ ap (λ ts. expr_tokens f.written ++ ts) (k.before_is ∙ ap (λ ts. token (Sign 6) k.spot ∷ ts) r.before_is) ∙ sym (append_assoc (expr_tokens f.written) (token (Sign 6) k.spot ∷ rest_tokens r.written) after);
  trees_are = first_trees row first (expr_tree f.written) more.list.items r.written one f.tree_is r.trees_are;
  height_is = r.height_is ∙ ap (λ h. max h (rest_depth r.written)) (one.height_is ∙ f.height_is);
  deepest_is = first_deepest first row more.deepest f.written r.written one f.height_is f.deepest_is r.deepest_is
      ∙ sym (deeper_later 0 (max (expr_depth f.written) (rest_depth r.written)) opening (deeper_of (expr_depth f.written) (expr_deepest f.written) (rest_depth r.written) (rest_deepest r.written)) (let some = some_first f.written (rest_depth r.written) in omega (arith, some)));
  fits = r.fits;
  is_read = items_is_read closing (several f.written k.spot r.written) after closes (exprs_is_read (several f.written k.spot r.written) after r.beyond r.no_more);
}

-- ---- and refused

pub items_finds : (closing : ℕ) (P : Items → Type 0) (ts : List Token) → is_sign_next closing ts ≡ false → Finds (λ e. P (items e)) read_exprs ts → Finds P (λ n us. read_items n closing us) ts
items_finds closing P ts other finds = record {
  steps = suc finds.steps;
  only = λ n. only_is _ _ _ (more_steps (λ m. read_items m closing ts) (n + suc finds.steps) (suc (n + finds.steps)) (omega arith)) (by ts (n + finds.steps) other (finds.only n));
}
  where
    by : (us : List Token) (m : ℕ) → is_sign_next closing us ≡ false → Only (λ e. P (items e)) (read_exprs m us) → Only P (read_items (suc m) closing us)
    by [] m no_sign only = tt
    by (t ∷ us) m no_sign only = only_is _ _ _ (if_false (is_sign closing t.kind) _ _ no_sign) (only_go_on _ _ (read_exprs m (t ∷ us)) _ only (λ e rest deep. deep))

items_inside : (closing room : ℕ) (rest : List Token) → is_sign_next closing rest ≡ false → Inside (items_part closing) room expr_part room [] rest
items_inside closing room rest other = record {
  begins = λ at b. record { some = items (one_expr b); more = []; tokens_are = sym (append-nil (expr_tokens b)); within = λ other apart low. low; deep = λ stop deep. deep };
  finds = λ stop more first finds. items_finds closing _ more (sign_first closing rest more first ∙ other)
      (exprs_finds_first _ (λ e. IsDeep stop room (expr_lies e)) more (λ e deep. deep) (λ e comma r deep. deep_beside_left stop room (expr_lies e) (rest_lies r) deep) finds);
}

pub items_first : (closing room : ℕ) (before : List Token) (stop : Stop) → is_sign_next closing before ≡ false → Refused expr_part room before stop → Refused (items_part closing) room before stop
items_first closing room before stop other is = refused_inside (items_part closing) room expr_part room [] before stop (items_inside closing room before other) is

items_start : (closing : ℕ) (P : Items → Type 0) (ts : List Token) → start_class (Sign closing) ≡ 0 → IsStart (starts ts) → Finds (λ e. P (items e)) read_exprs ts → Finds P (λ n us. read_items n closing us) ts
items_start closing P ts closes start finds = finds_first _ P (λ n us. read_items n closing us) read_exprs (λ n e us. Some (items e, us)) ts ts (λ n. items_is n closing ts closes start) (λ n e us deep. deep) finds

items_go_on : (closing room : ℕ) (e : Expr) (comma : Spot) (rest : List Token) → start_class (Sign closing) ≡ 0 → expr_depth e ≤ room → Inside (items_part closing) room rest_part room (expr_tokens e ++ token (Sign 6) comma ∷ []) rest
items_go_on closing room e comma rest closes fits = record {
  begins = λ at b. record {
    some = items (several e comma b);
    more = [];
    tokens_are = one_behind (expr_tokens e) (token (Sign 6) comma) (rest_tokens b);
    within = λ other apart low. let first_low = expr_low e other in max_below (expr_lies e other) (rest_lies b other) room (omega (arith, first_low, fits)) low;
    deep = λ stop deep. deep_beside_right stop room (expr_lies e) (rest_lies b) deep;
  };
  finds = λ stop more first finds.
      items_start closing _ ((expr_tokens e ++ token (Sign 6) comma ∷ []) ++ more) closes (start more)
      (exprs_finds_rest _ (λ r. IsDeep stop room (rest_lies r)) e comma more (λ r deep. deep_beside_right stop room (expr_lies e) (rest_lies r) deep) finds);
}
  where
    start : (more : List Token) → IsStart (starts ((expr_tokens e ++ token (Sign 6) comma ∷ []) ++ more))
    start more = subst (λ ts. IsStart (starts ts)) (sym (append_assoc (expr_tokens e) (token (Sign 6) comma ∷ []) more)) (expr_starts e (token (Sign 6) comma ∷ more))

pub items_rest : (closing room : ℕ) (before middle behind : List Token) (at : Pos) (first : Part) (stop : Stop) → start_class (Sign closing) ≡ 0 → Found expr_part expr_tree 7 room before first middle → Taken (Sign 6) middle at behind
    → Refused rest_part room behind stop → Refused (items_part closing) room before stop
items_rest closing room before middle behind at first stop closes f k is =
    refused_same (items_part closing) room before _ stop (f.before_is ∙ ap (λ ts. expr_tokens f.written ++ ts) k.before_is ∙ sym (append_assoc (expr_tokens f.written) (token (Sign 6) k.spot ∷ []) behind))
    (refused_inside (items_part closing) room rest_part room (expr_tokens f.written ++ token (Sign 6) k.spot ∷ []) behind stop (items_go_on closing room f.written k.spot behind closes (let same = f.height_is in let low = f.fits in omega (arith, low, same))) is)
