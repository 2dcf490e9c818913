-- What stands in the brackets of a subscription: what is read of it, and how it is refused.
use Rattle.std.proofs.Common.{◌≡◌, ℕ, zero, suc, ◌+◌, max, ◌≤◌, Bool, true, false, List, [], ◌∷◌, ◌++◌, Option, Some, None, refl, ap, sym, ◌∙◌, arith, append_assoc}
use Rattle.std.proofs.lemmas.List.{append-nil}
use Rattle.prov_base.specs.declared.place.Pos.{Pos}
use Rattle.py_lines.specs.declared.parts.Token.{Token}
use Rattle.py_lines.specs.declared.parts.TokenKind.TheVariants.{Sign}
use Rattle.py_tree.specs.Tree.{part_expr, range_expr, no_expr, some_expr}
use Rattle.py_tree.specs.Erasure.{expr_of}
use Rattle.py_expressions.specs.declared.fault.Stop.{Stop}
use Rattle.py_expressions.specs.declared.part.Part.{Part}
use Rattle.py_expressions.specs.declared.rows.Index.TheVariants.{One, Slice}
use Rattle.py_expressions.specs.Concrete.{Spot, Expr, Exprs, one_expr, several, one_index, range_index, Bound, no_bound, bound}
use Rattle.py_expressions.specs.Tokens.{token, expr_tokens, exprs_tokens, bound_tokens}
use Rattle.py_expressions.specs.Trees.{expr_tree, exprs_tree}
use Rattle.py_expressions.specs.Depth.{expr_depth, exprs_depth, bound_depth}
use Rattle.py_expressions.specs.Lies.{nowhere, deeper_of, bound_lies, expr_lies, exprs_lies, index_lies, expr_deepest, exprs_deepest, bound_deepest}
use Rattle.py_expressions.proofs.Lying.{expr_above, exprs_above, expr_low}
use Rattle.py_expressions.proofs.Deepest.{deeper_first, deeper_later, deeper_same, deeper_bracket, deeper_group}
use Rattle.py_expressions.specs.Reader.{go_on, is_sign, read_expr, read_exprs, read_index, index_rest, read_bound}
use Rattle.py_expressions.specs.Parsed.{expr_part, exprs_part, Taken, Found, IsDeep, Only, Finds, Refused, is_sign_next}
use Rattle.py_expressions.specs.ParsedRows.{limit_deepest, IsRead, first_token, index_part, bound_part, limit_tree, limit_height, has_comma, FoundList, FoundBound, FoundIndex}
use Rattle.py_expressions.proofs.Leading.{Reads}
use Rattle.py_expressions.proofs.Firsts.{expr_starts, exprs_starts}
use Rattle.py_expressions.proofs.Reading.{if_false, if_true, expr_reads, index_is, bound_is}
use Rattle.py_expressions.proofs.Refusals.{Inside, max_below, only_any, only_go_on, only_if, only_is, finds_first, finds_behind, finds_same, deep_beside_left, deep_beside_right, refused_inside, refused_same, one_behind}
use Rattle.py_expressions.proofs.ClosedParts.{first_is}
use Rattle.py_expressions.proofs.RowParts.{sign_first, more_steps}
use Rattle.py_expressions.proofs.SharpReads.{exprs_is_read, exprs_row, level_same}

-- the same sign stands first
sign_there : (k : ℕ) (ts us : List Token) → first_token us ≡ first_token ts → is_sign_next k us ≡ is_sign_next k ts
sign_there k ts us first = sign_first k ts us (sym (first_is us) ∙ first ∙ first_is ts)

-- ---- bounds

pub bound_none : (room : ℕ) (before : List Token) → is_sign_next 3 before ≡ true → FoundBound room before None before
bound_none room before closes = record {
  written = no_bound;
  before_is = refl;
  tree_is = refl;
  height_is = refl;
  deepest_is = λ at. sym (deeper_first 0 0 at nowhere (omega arith));
  fits = omega arith;
  is_read = record {
    steps = 1;
    reads = λ n more first. more_steps (λ m. read_bound m more) (n + 1) (suc n) (omega arith) ∙ ends n more (sign_there 3 before more first ∙ closes);
  };
}
  where
    ends : (n : ℕ) (more : List Token) → is_sign_next 3 more ≡ true → read_bound (suc n) more ≡ Some (no_bound, more)
    ends n [] is = cc
    ends n (t ∷ ts) is = if_true (is_sign 3 t.kind) _ _ is

pub bound_some : (room : ℕ) (before after : List Token) (part : Part) → Found expr_part expr_tree 7 room before part after → FoundBound room before (Some part) after
bound_some room before after part f =
    let is = expr_reads f.written in
    record {
      written = bound f.written;
      before_is = f.before_is;
      tree_is = ap some_expr f.tree_is;
      height_is = f.height_is;
      deepest_is = λ at. f.deepest_is ∙ sym (deeper_later 0 (expr_depth f.written) at (expr_deepest f.written) (let above = expr_above f.written in omega (arith, above)));
      fits = f.fits;
      is_read = record {
        steps = suc is.steps;
        reads = λ n more first.
            let level = level_same more after first in
            let above = f.beyond in
            more_steps (λ m. read_bound m (expr_tokens f.written ++ more)) (n + suc is.steps) (suc (n + is.steps)) (omega arith)
            ∙ bound_is (n + is.steps) (expr_tokens f.written ++ more) (expr_starts f.written more)
            ∙ ap (λ r. go_on r (λ e rest. Some (bound e, rest))) (is.reads n more (omega (arith, level, above)));
      };
    }

bound_finds : (P : Bound → Type 0) (ts : List Token) → is_sign_next 3 ts ≡ false → Finds (λ e. P (bound e)) read_expr ts → Finds P read_bound ts
bound_finds P ts other finds = record {
  steps = suc finds.steps;
  only = λ n. only_is _ _ _ (more_steps (λ m. read_bound m ts) (n + suc finds.steps) (suc (n + finds.steps)) (omega arith)) (by ts (n + finds.steps) other (finds.only n));
}
  where
    by : (us : List Token) (m : ℕ) → is_sign_next 3 us ≡ false → Only (λ e. P (bound e)) (read_expr m us) → Only P (read_bound (suc m) us)
    by [] m no_sign only = tt
    by (t ∷ us) m no_sign only = only_is _ _ _ (if_false (is_sign 3 t.kind) _ _ no_sign) (only_go_on _ _ (read_expr m (t ∷ us)) _ only (λ e rest deep. deep))

bound_inside : (room : ℕ) (rest : List Token) → is_sign_next 3 rest ≡ false → Inside bound_part room expr_part room [] rest
bound_inside room rest other = record {
  begins = λ at b. record { some = bound b; more = []; tokens_are = sym (append-nil (expr_tokens b)); within = λ other apart low. low; deep = λ stop deep. deep };
  finds = λ stop more first finds. bound_finds _ more (sign_first 3 rest more first ∙ other) finds;
}

pub bound_refused : (room : ℕ) (before : List Token) (stop : Stop) → is_sign_next 3 before ≡ false → Refused expr_part room before stop → Refused bound_part room before stop
bound_refused room before stop other is = refused_inside bound_part room expr_part room [] before stop (bound_inside room before other) is

-- ---- an index is read

index_stays : (n : ℕ) (e : Exprs) (more : List Token) → (has_comma e ≡ false → is_sign_next 7 more ≡ false) → index_rest (suc n) e more ≡ Some (one_index e, more)
index_stays n (several e comma r) more other = refl
index_stays n (one_expr e) [] other = refl
index_stays n (one_expr e) (t ∷ ts) other = if_false (is_sign 7 t.kind) _ _ (other refl)

one_index_read : (e : Exprs) (rest : List Token) → (has_comma e ≡ false → is_sign_next 7 rest ≡ false) → IsRead exprs_part e rest → IsRead index_part (one_index e) rest
one_index_read e rest other is = record {
  steps = suc (suc is.steps);
  reads = λ n more first.
      more_steps (λ m. read_index m (exprs_tokens e ++ more)) (n + suc (suc is.steps)) (suc (suc n + is.steps)) (omega arith)
      ∙ index_is (suc n + is.steps) (exprs_tokens e ++ more) (exprs_starts e more)
      ∙ ap (λ r. go_on r (λ e rest. index_rest (suc n + is.steps) e rest)) (is.reads (suc n) more first)
      ∙ more_steps (λ m. index_rest m e more) (suc n + is.steps) (suc (n + is.steps)) (omega arith)
      ∙ index_stays (n + is.steps) e more (λ one. sign_there 7 rest more first ∙ other one);
}

pub index_one : (room : ℕ) (before after : List Token) (part : Part) (comma : Bool) → FoundList room before part comma after → (comma ≡ false → is_sign_next 7 after ≡ false) → FoundIndex room before (One part) after
index_one room before after part comma f other =
    let row = f.row in
    record {
      written = one_index row.written;
      before_is = row.before_is;
      tree_is = λ at e. ap (part_expr at e) row.tree_is;
      height_is = row.height_is;
      deepest_is = λ at. row.deepest_is ∙ sym (deeper_later 0 (exprs_depth row.written) at (exprs_deepest row.written) (let above = exprs_above row.written in omega (arith, above)));
      form_is = refl;
      fits = row.fits;
      is_read = one_index_read row.written after (λ one. other (sym f.comma_is ∙ one)) (exprs_is_read row.written after row.beyond row.no_more);
    }

-- one expression, with no comma behind it
record FoundOne (room : ℕ) (before : List Token) (part : Part) (after : List Token) : Type 0 where
  written : Expr
  before_is : before ≡ expr_tokens written ++ after
  tree_is : expr_of part.expr.value ≡ expr_tree written
  height_is : part.height ≡ expr_depth written
  deepest_is : part.deepest ≡ expr_deepest written
  fits : part.height ≤ room

found_one : (room : ℕ) (before after : List Token) (part : Part) → FoundList room before part false after → FoundOne room before part after
found_one room before after part f = by f.row.written f.row.before_is f.row.tree_is f.row.height_is f.row.deepest_is f.comma_is
  where
    by : (e : Exprs) → before ≡ exprs_tokens e ++ after → expr_of part.expr.value ≡ exprs_tree e → part.height ≡ exprs_depth e → part.deepest ≡ exprs_deepest e → has_comma e ≡ false → FoundOne room before part after
    by (one_expr e) before_is tree_is height_is deepest_is comma_is = record { written = e; before_is = before_is; tree_is = tree_is; height_is = height_is; deepest_is = deepest_is; fits = f.row.fits }
    by (several e comma r) before_is tree_is height_is deepest_is comma_is = cc

range_read : (e : Expr) (colon : Spot) (high : Bound) (rest : List Token) → IsRead bound_part high rest → IsRead index_part (range_index (bound e) colon high) rest
range_read e colon high rest next =
    let c : Token = token (Sign 7) colon in
    let one = exprs_row (one_expr e) in
    record {
      steps = suc (suc (one.steps + next.steps));
      reads = λ n more first.
          more_steps (λ m. read_index m ((expr_tokens e ++ c ∷ bound_tokens high) ++ more)) (n + suc (suc (one.steps + next.steps))) (suc ((suc n + next.steps) + one.steps)) (omega arith)
          ∙ ap (read_index (suc ((suc n + next.steps) + one.steps))) (append_assoc (expr_tokens e) (c ∷ bound_tokens high) more)
          ∙ index_is ((suc n + next.steps) + one.steps) (expr_tokens e ++ (c ∷ bound_tokens high ++ more)) (expr_starts e (c ∷ bound_tokens high ++ more))
          ∙ ap (λ r. go_on r (λ e rest. index_rest ((suc n + next.steps) + one.steps) e rest)) (one.reads (suc n + next.steps) (c ∷ bound_tokens high ++ more) (λ closed_there. omega arith) (λ open_there. cc))
          ∙ more_steps (λ m. index_rest m (one_expr e) (c ∷ bound_tokens high ++ more)) ((suc n + next.steps) + one.steps) (suc ((n + one.steps) + next.steps)) (omega arith)
          ∙ ap (λ r. go_on r (λ high rest. Some (range_index (bound e) colon high, rest))) (next.reads (n + one.steps) more first);
    }

from_start_read : (colon : Spot) (high : Bound) (rest : List Token) → IsRead bound_part high rest → IsRead index_part (range_index no_bound colon high) rest
from_start_read colon high rest next = record {
  steps = suc next.steps;
  reads = λ n more first.
      more_steps (λ m. read_index m (token (Sign 7) colon ∷ bound_tokens high ++ more)) (n + suc next.steps) (suc (n + next.steps)) (omega arith)
      ∙ ap (λ r. go_on r (λ high rest. Some (range_index no_bound colon high, rest))) (next.reads n more first);
}

-- of two bounds, where what is not there is at the bracket
range_deepest : (m n x y : ℕ) (a b c d place : Pos) → m ≡ x → a ≡ deeper_of 0 place x c → n ≡ y → b ≡ deeper_of 0 place y d → deeper_of m a n b ≡ deeper_of 0 place (max x y) (deeper_of x c y d)
range_deepest m n x y a b c d place m_is a_is n_is b_is =
    deeper_same m n x y a b (deeper_of 0 place x c) (deeper_of 0 place y d) m_is a_is n_is b_is
    ∙ deeper_bracket x y (deeper_of 0 place x c) d place
    ∙ ap (λ k. deeper_of k (deeper_of 0 place x c) y d) (none_below x)
    ∙ sym (deeper_group 0 x y place c d)
  where
    none_below : (k : ℕ) → k ≡ max 0 k
    none_below k = omega arith

pub index_from_start : (room : ℕ) (before behind after : List Token) (at : Pos) (high : Option Part) → Taken (Sign 7) before at behind → FoundBound room behind high after → FoundIndex room before (Slice None high) after
index_from_start room before behind after at high k f = record {
  written = range_index no_bound k.spot f.written;
  before_is = k.before_is ∙ ap (λ ts. token (Sign 7) k.spot ∷ ts) f.before_is;
  tree_is = λ place e. ap (range_expr place e no_expr) f.tree_is;
  height_is = ap (max 0) f.height_is;
  deepest_is = λ place. range_deepest 0 (limit_height high) 0 (bound_depth f.written) place (limit_deepest place high) nowhere (bound_deepest f.written) place refl (sym (deeper_first 0 0 place nowhere (omega arith))) f.height_is (f.deepest_is place);
  form_is = refl;
  fits = let small = f.fits in max_below 0 (limit_height high) room (omega arith) small;
  is_read = from_start_read k.spot f.written after f.is_read;
}

pub index_range : (room : ℕ) (before middle behind after : List Token) (at : Pos) (low : Part) (high : Option Part) → FoundList room before low false middle → Taken (Sign 7) middle at behind → FoundBound room behind high after
    → FoundIndex room before (Slice (Some low) high) after
index_range room before middle behind after at low high l k f =
    let one = found_one room before middle low l in
    record {
      written = range_index (bound one.written) k.spot f.written;
      before_is = one.before_is ∙ ap (λ ts. expr_tokens one.written ++ ts) (k.before_is ∙ ap (λ ts. token (Sign 7) k.spot ∷ ts) f.before_is) ∙ sym (append_assoc (expr_tokens one.written) (token (Sign 7) k.spot ∷ bound_tokens f.written) after);
      tree_is = λ place e. ap (λ t. range_expr place e (some_expr t) (limit_tree high)) one.tree_is ∙ ap (range_expr place e (some_expr (expr_tree one.written))) f.tree_is;
      height_is = ap (λ h. max h (limit_height high)) one.height_is ∙ ap (max (expr_depth one.written)) f.height_is;
      deepest_is = λ place. range_deepest low.height (limit_height high) (expr_depth one.written) (bound_depth f.written) low.deepest (limit_deepest place high) (expr_deepest one.written) (bound_deepest f.written) place one.height_is
          (one.deepest_is ∙ sym (deeper_later 0 (expr_depth one.written) place (expr_deepest one.written) (let above = expr_above one.written in omega (arith, above)))) f.height_is (f.deepest_is place);
      form_is = refl;
      fits = max_below low.height (limit_height high) room one.fits f.fits;
      is_read = range_read one.written k.spot f.written after f.is_read;
    }

-- ---- and refused

index_start_inside : (room : ℕ) (colon : Spot) (rest : List Token) → Inside index_part room bound_part room (token (Sign 7) colon ∷ []) rest
index_start_inside room colon rest = record {
  begins = λ at b. record {
    some = range_index no_bound colon b;
    more = [];
    tokens_are = ap (λ ts. token (Sign 7) colon ∷ ts) (sym (append-nil (bound_tokens b)));
    within = λ other apart low. max_below 0 (bound_lies b other) room (omega arith) low;
    deep = λ stop deep. deep_beside_right stop room (λ at. 0) (bound_lies b) deep;
  };
  finds = λ stop more first finds. finds_first (λ b. IsDeep stop room (bound_lies b)) _ read_index read_bound (λ n high ts. Some (range_index no_bound colon high, ts)) (token (Sign 7) colon ∷ more) more (λ n. refl)
      (λ n b ts deep. deep_beside_right stop room (λ at. 0) (bound_lies b) deep) finds;
}

pub index_start_refused : (room : ℕ) (before behind : List Token) (at : Pos) (stop : Stop) → Taken (Sign 7) before at behind → Refused bound_part room behind stop → Refused index_part room before stop
index_start_refused room before behind at stop k is = refused_same index_part room before _ stop k.before_is (refused_inside index_part room bound_part room (token (Sign 7) k.spot ∷ []) behind stop (index_start_inside room k.spot behind) is)

index_deep : (stop : Stop) (room n : ℕ) (e : Exprs) (ts : List Token) → IsDeep stop room (exprs_lies e) → Only (λ i. IsDeep stop room (index_lies i)) (index_rest n e ts)
index_deep stop room zero e ts deep = tt
index_deep stop room (suc n) (several e comma r) ts deep = deep
index_deep stop room (suc n) (one_expr e) [] deep = deep
index_deep stop room (suc n) (one_expr e) (t ∷ ts) deep = only_if _ (is_sign 7 t.kind) _ _
    (only_any _ (read_bound n ts) _ (λ high rest. deep_beside_left stop room (expr_lies e) (bound_lies high) deep))
    deep

index_row_inside : (room : ℕ) (rest : List Token) → is_sign_next 7 rest ≡ false → Inside index_part room exprs_part room [] rest
index_row_inside room rest other = record {
  begins = λ at b. record { some = one_index b; more = []; tokens_are = sym (append-nil (exprs_tokens b)); within = λ other apart low. low; deep = λ stop deep. deep };
  finds = λ stop more first finds. record {
    steps = suc finds.steps;
    only = λ n. only_is _ _ _ (more_steps (λ m. read_index m more) (n + suc finds.steps) (suc (n + finds.steps)) (omega arith)) (by stop more (n + finds.steps) (sign_first 7 rest more first ∙ other) (finds.only n));
  };
}
  where
    by : (stop : Stop) (us : List Token) (m : ℕ) → is_sign_next 7 us ≡ false → Only (λ e. IsDeep stop room (exprs_lies e)) (read_exprs m us) → Only (λ i. IsDeep stop room (index_lies i)) (read_index (suc m) us)
    by stop [] m no_sign only = tt
    by stop (t ∷ us) m no_sign only = only_is _ _ _ (if_false (is_sign 7 t.kind) _ _ no_sign) (only_go_on _ _ (read_exprs m (t ∷ us)) _ only (λ e rest deep. index_deep stop room m e rest deep))

pub index_row_refused : (room : ℕ) (before : List Token) (stop : Stop) → is_sign_next 7 before ≡ false → Refused exprs_part room before stop → Refused index_part room before stop
index_row_refused room before stop other is = refused_inside index_part room exprs_part room [] before stop (index_row_inside room before other) is

one_reads : (e : Expr) → Reads read_exprs 8 (expr_tokens e) (one_expr e)
one_reads e = let row = exprs_row (one_expr e) in record { steps = row.steps; reads = λ n rest beyond. row.reads n rest (λ closed_there. beyond) (λ open_there. cc) }

index_end_inside : (room : ℕ) (e : Expr) (colon : Spot) (rest : List Token) → expr_depth e ≤ room → Inside index_part room bound_part room (expr_tokens e ++ token (Sign 7) colon ∷ []) rest
index_end_inside room e colon rest fits = record {
  begins = λ at b. record {
    some = range_index (bound e) colon b;
    more = [];
    tokens_are = one_behind (expr_tokens e) (token (Sign 7) colon) (bound_tokens b);
    within = λ other apart low. let first_low = expr_low e other in max_below (expr_lies e other) (bound_lies b other) room (omega (arith, first_low, fits)) low;
    deep = λ stop deep. deep_beside_right stop room (expr_lies e) (bound_lies b) deep;
  };
  finds = λ stop more first finds. finds_same _ read_index _ _ (append_assoc (expr_tokens e) (token (Sign 7) colon ∷ []) more)
      (finds_behind _ read_index read_exprs (λ n e ts. index_rest n e ts) 8 (expr_tokens e) (one_expr e) (token (Sign 7) colon ∷ more) (λ n. index_is n (expr_tokens e ++ token (Sign 7) colon ∷ more) (expr_starts e (token (Sign 7) colon ∷ more))) (one_reads e) (omega arith)
      (finds_first (λ b. IsDeep stop room (bound_lies b)) _ (λ n ts. index_rest n (one_expr e) ts) read_bound (λ n high ts. Some (range_index (bound e) colon high, ts)) (token (Sign 7) colon ∷ more) more (λ n. refl)
      (λ n b ts deep. deep_beside_right stop room (expr_lies e) (bound_lies b) deep) finds));
}

pub index_end_refused : (room : ℕ) (before middle behind : List Token) (at : Pos) (low : Part) (stop : Stop) → FoundList room before low false middle → Taken (Sign 7) middle at behind → Refused bound_part room behind stop → Refused index_part room before stop
index_end_refused room before middle behind at low stop l k is =
    let one = found_one room before middle low l in
    refused_same index_part room before _ stop (one.before_is ∙ ap (λ ts. expr_tokens one.written ++ ts) k.before_is ∙ sym (append_assoc (expr_tokens one.written) (token (Sign 7) k.spot ∷ []) behind))
    (refused_inside index_part room bound_part room (expr_tokens one.written ++ token (Sign 7) k.spot ∷ []) behind stop (index_end_inside room one.written k.spot behind (let same = one.height_is in let small = one.fits in omega (arith, small, same))) is)
