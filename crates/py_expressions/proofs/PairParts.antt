-- Keys with their values: what is read of them, and how they are refused.
use Rattle.std.proofs.Common.{◌≡◌, ℕ, zero, suc, ◌+◌, max, ◌≤◌, ◌<◌, true, false, List, [], ◌∷◌, ◌++◌, map, Some, None, refl, ap, sym, ◌∙◌, arith, append_assoc}
use Rattle.std.specs.Prelude.{◌==◌}
use Rattle.std.proofs.Math.Nat.{le-max_right}
use Rattle.std.proofs.lemmas.List.{append-nil}
use Rattle.prov_base.specs.declared.place.Pos.{Pos}
use Rattle.py_lines.specs.declared.parts.Token.{Token}
use Rattle.py_lines.specs.declared.parts.TokenKind.TheVariants.{Sign}
use Rattle.py_tree.specs.declared.expr.Expr.{Expr as ExprRead}
use Rattle.py_tree.specs.Tree.{ExprTree, more_pairs as pair_more}
use Rattle.py_tree.specs.Erasure.{expr_of, pairs_list}
use Rattle.py_expressions.specs.declared.fault.Stop.{Stop}
use Rattle.py_expressions.specs.declared.part.Part.{Part}
use Rattle.py_expressions.specs.declared.rows.PairRow.{PairRow}
use Rattle.py_expressions.specs.Concrete.{Spot, Expr, Pairs, no_pairs, last_pair, more_pairs}
use Rattle.py_expressions.specs.Tokens.{token, expr_tokens, pairs_tokens}
use Rattle.py_expressions.specs.Trees.{expr_tree, pairs_tree}
use Rattle.py_expressions.specs.Depth.{expr_depth, pairs_depth}
use Rattle.py_expressions.specs.Lies.{nowhere, deeper_of, expr_lies, pairs_lies, expr_deepest, pairs_deepest}
use Rattle.py_expressions.proofs.Lying.{both_low, expr_low}
use Rattle.py_expressions.proofs.Deepest.{deeper_first, deeper_same, deeper_group}
use Rattle.py_expressions.specs.Reader.{Read, go_on, next_level, is_sign, read_sign, read_expr, read_pairs, pairs_rest}
use Rattle.py_expressions.specs.Parsed.{expr_part, Taken, Found, IsDeep, Only, Finds, Refused, one_sign, is_sign_next}
use Rattle.py_expressions.specs.ParsedRows.{IsRead, first_token, pairs_part, FoundPairs}
use Rattle.py_expressions.proofs.Leading.{Reads, no_such}
use Rattle.py_expressions.proofs.Firsts.{expr_starts}
use Rattle.py_expressions.proofs.Reading.{if_false, if_true, expr_reads, pairs_is, pair_of, after_key}
use Rattle.py_expressions.proofs.Refusals.{Inside, max_below, only_any, only_go_on, only_if, only_is, finds_behind, finds_same, deeper, deep_beside_left, deep_beside_right, refused_inside, refused_same}
use Rattle.py_expressions.proofs.ClosedParts.{first_is, first_same, not_deep}
use Rattle.py_expressions.proofs.PrimParts.{go_on_once}
use Rattle.py_expressions.proofs.Stops.{spot_at}
use Rattle.py_expressions.proofs.RowParts.{beyond_comma, sign_first, more_steps}
use Rattle.py_expressions.proofs.SharpReads.{level_same}

-- ---- what was read so far

abbrev pair_trees : Pairs → List (ExprTree × ExprTree)
pair_trees no_pairs = []
pair_trees (last_pair key colon value) = (expr_tree key, expr_tree value) ∷ []
pair_trees (more_pairs key colon value comma rest) = (expr_tree key, expr_tree value) ∷ pair_trees rest

pair_list : (p : Pairs) → pairs_list (pair_trees p) ≡ pairs_tree p
pair_list no_pairs = refl
pair_list (last_pair key colon value) = refl
pair_list (more_pairs key colon value comma rest) = ap (pair_more (expr_tree key) (expr_tree value)) (pair_list rest)

abbrev both_trees : ExprRead × ExprRead → ExprTree × ExprTree
both_trees p = (expr_of p.0, expr_of p.1)

-- `put` puts what comes behind what was read
pub record PairsGo (room : ℕ) (opening : Pos) (before after : List Token) (row : PairRow) : Type 0 where
  pub put : Pairs → Pairs
  pub front : List Token
  pub before_is : before ≡ front ++ after
  pub tokens_are : (p : Pairs) → pairs_tokens (put p) ≡ front ++ pairs_tokens p
  pub trees : List (ExprTree × ExprTree)
  pub row_is : map (λ p. (expr_of p.0, expr_of p.1)) row.list.items ≡ trees
  pub trees_are : (p : Pairs) → pair_trees (put p) ≡ trees ++ pair_trees p
  pub depth : ℕ
  pub height_is : row.height ≡ depth
  pub depth_is : (p : Pairs) → pairs_depth (put p) ≡ max depth (pairs_depth p)
  pub lies : Pos → ℕ
  pub lies_is : (p : Pairs) (at : Pos) → pairs_lies (put p) at ≡ max (lies at) (pairs_lies p at)
  pub low : (at : Pos) → lies at ≤ depth
  pub deepest_is : (p : Pairs) → deeper_of 0 opening (pairs_depth (put p)) (pairs_deepest (put p)) ≡ deeper_of row.height row.deepest (pairs_depth p) (pairs_deepest p)
  pub fits : row.height ≤ room
  pub steps : ℕ
  pub behind : ℕ
  pub leads : (n : ℕ) (tail : List Token) → read_pairs (n + steps) (front ++ tail) ≡ go_on (read_pairs (n + behind) tail) (λ p rest. Some (put p, rest))

go_on_itself : {A : Type 0} (r : Read A) → r ≡ go_on r (λ a rest. Some (a, rest))
go_on_itself None = refl
go_on_itself (Some (a, rest)) = refl

pub pairs_init : (room : ℕ) (opening : Pos) (before : List Token) (row : PairRow) → row.list.items ≡ [] → row.height ≡ 0 → row.deepest ≡ opening → PairsGo room opening before before row
pairs_init room opening before row none_there low deepest = record {
  put = λ p. p;
  front = [];
  before_is = refl;
  tokens_are = λ p. refl;
  trees = [];
  row_is = ap (map both_trees) none_there;
  trees_are = λ p. refl;
  depth = 0;
  height_is = low;
  depth_is = λ p. none_below (pairs_depth p);
  lies = λ at. 0;
  lies_is = λ p at. none_below (pairs_lies p at);
  low = λ at. omega arith;
  deepest_is = λ p. sym (deeper_same row.height (pairs_depth p) 0 (pairs_depth p) row.deepest (pairs_deepest p) opening (pairs_deepest p) low deepest refl refl);
  fits = omega (arith, low);
  steps = 0;
  behind = 0;
  leads = λ n tail. go_on_itself (read_pairs (n + 0) tail);
}
  where
    none_below : (n : ℕ) → n ≡ max 0 n
    none_below n = omega arith

map_append : (xs ys : List (ExprRead × ExprRead)) → map both_trees (xs ++ ys) ≡ map both_trees xs ++ map both_trees ys
map_append [] ys = refl
map_append (x ∷ xs) ys = ap (λ es. both_trees x ∷ es) (map_append xs ys)

pushed_trees : (xs ys : List (ExprRead × ExprRead)) (k v : ExprRead) (ts : List (ExprTree × ExprTree)) (t u : ExprTree) → ys ≡ xs ++ (k, v) ∷ [] → map both_trees xs ≡ ts → expr_of k ≡ t → expr_of v ≡ u → map both_trees ys ≡ ts ++ (t, u) ∷ []
pushed_trees xs ys k v ts t u is old one other = ap (map both_trees) is ∙ map_append xs ((k, v) ∷ []) ∙ ap (λ us. us ++ (expr_of k, expr_of v) ∷ []) old ∙ ap (λ x. ts ++ (x, expr_of v) ∷ []) one ∙ ap (λ x. ts ++ (t, x) ∷ []) other

max_three : (a b c d : ℕ) → max (max a (max b c)) d ≡ max a (max (max b c) d)
max_three a b c d = omega arith

higher_is : (a b c h k v r : ℕ) → r ≡ max (max h k) v → h ≡ a → k ≡ b → v ≡ c → r ≡ max a (max b c)
higher_is a b c h k v r is one two three = omega (arith, is, one, two, three)

three_below : (r h k v room : ℕ) → r ≡ max (max h k) v → h ≤ room → k ≤ room → v ≤ room → r ≤ room
three_below r h k v room is one two three = omega (arith, is, one, two, three)

behind_pair : (front first : List Token) (colon : Token) (second : List Token) (comma : Token) (after : List Token)
    → front ++ (first ++ colon ∷ (second ++ comma ∷ after)) ≡ (front ++ (first ++ colon ∷ (second ++ comma ∷ []))) ++ after
behind_pair front first colon second comma after = sym (append_assoc front (first ++ colon ∷ (second ++ comma ∷ [])) after
    ∙ ap (λ ts. front ++ ts) (append_assoc first (colon ∷ (second ++ comma ∷ [])) after ∙ ap (λ ts. first ++ colon ∷ ts) (append_assoc second (comma ∷ []) after)))

pair_leads : (put : Pairs → Pairs) (front : List Token) (steps behind : ℕ) → ((n : ℕ) (tail : List Token) → read_pairs (n + steps) (front ++ tail) ≡ go_on (read_pairs (n + behind) tail) (λ p rest. Some (put p, rest)))
    → (key : Expr) (colon : Spot) (value : Expr) (comma : Spot) (is : Reads read_expr 7 (expr_tokens key) key) (next : Reads read_expr 7 (expr_tokens value) value) (n : ℕ) (tail : List Token)
    → read_pairs (n + (suc (suc (is.steps + next.steps)) + steps)) ((front ++ (expr_tokens key ++ token (Sign 7) colon ∷ (expr_tokens value ++ token (Sign 6) comma ∷ []))) ++ tail)
    ≡ go_on (read_pairs (n + (behind + (is.steps + next.steps))) tail) (λ p rest. Some (put (more_pairs key colon value comma p), rest))
pair_leads put front steps behind leads key colon value comma is next n tail =
    let c : Token = token (Sign 7) colon in
    let d : Token = token (Sign 6) comma in
    let s : ℕ = is.steps + next.steps in
    more_steps (λ k. read_pairs k ((front ++ (expr_tokens key ++ c ∷ (expr_tokens value ++ d ∷ []))) ++ tail)) (n + (suc (suc s) + steps)) ((n + suc (suc s)) + steps) (omega arith)
    ∙ ap (read_pairs ((n + suc (suc s)) + steps)) (sym (behind_pair front (expr_tokens key) c (expr_tokens value) d tail))
    ∙ leads (n + suc (suc s)) (expr_tokens key ++ c ∷ (expr_tokens value ++ d ∷ tail))
    ∙ more_steps (λ k. go_on (read_pairs k (expr_tokens key ++ c ∷ (expr_tokens value ++ d ∷ tail))) (λ p rest. Some (put p, rest))) ((n + suc (suc s)) + behind) ((n + behind) + suc (suc (0 + s))) (omega arith)
    ∙ ap (λ r. go_on r (λ p rest. Some (put p, rest))) (pair_of (expr_tokens key) key colon (expr_tokens value) value 0 (λ rest. expr_starts key rest) is next (n + behind) (d ∷ tail) (omega arith)
    ∙ more_steps (λ k. pairs_rest k key colon value (d ∷ tail)) (suc ((n + behind) + (0 + s))) (suc (n + (behind + s))) (omega arith))
    ∙ go_on_once (read_pairs (n + (behind + s)) tail) (more_pairs key colon value comma) (λ p rest. Some (put p, rest))

-- one more key with its value, in a row
pair_deepest : (row : PairRow) (key value : Part) (k v : Expr) → key.height ≡ expr_depth k → key.deepest ≡ expr_deepest k → value.height ≡ expr_depth v → value.deepest ≡ expr_deepest v
    → deeper_of row.height row.deepest (max (expr_depth k) (expr_depth v)) (deeper_of (expr_depth k) (expr_deepest k) (expr_depth v) (expr_deepest v)) ≡ deeper_of (max row.height key.height) (deeper_of row.height row.deepest key.height key.deepest) value.height value.deepest
pair_deepest row key value k v key_height key_deepest value_height value_deepest =
    deeper_group row.height (expr_depth k) (expr_depth v) row.deepest (expr_deepest k) (expr_deepest v)
    ∙ sym (deeper_same (max row.height key.height) value.height (max row.height (expr_depth k)) (expr_depth v) (deeper_of row.height row.deepest key.height key.deepest) value.deepest (deeper_of row.height row.deepest (expr_depth k) (expr_deepest k)) (expr_deepest v)
    (ap (max row.height) key_height) (deeper_same row.height key.height row.height (expr_depth k) row.deepest key.deepest row.deepest (expr_deepest k) refl refl key_height key_deepest) value_height value_deepest)

-- and what stands behind it
one_more : (row row_2 : PairRow) (key value : Part) (k v : Expr) (p : Pairs) → row_2.height ≡ max (max row.height key.height) value.height
    → row_2.deepest ≡ deeper_of (max row.height key.height) (deeper_of row.height row.deepest key.height key.deepest) value.height value.deepest
    → key.height ≡ expr_depth k → key.deepest ≡ expr_deepest k → value.height ≡ expr_depth v → value.deepest ≡ expr_deepest v
    → deeper_of row.height row.deepest (max (max (expr_depth k) (expr_depth v)) (pairs_depth p)) (deeper_of (max (expr_depth k) (expr_depth v)) (deeper_of (expr_depth k) (expr_deepest k) (expr_depth v) (expr_deepest v)) (pairs_depth p) (pairs_deepest p))
    ≡ deeper_of row_2.height row_2.deepest (pairs_depth p) (pairs_deepest p)
one_more row row_2 key value k v p higher deepest key_height key_deepest value_height value_deepest =
    let both : Pos = deeper_of (expr_depth k) (expr_deepest k) (expr_depth v) (expr_deepest v) in
    deeper_group row.height (max (expr_depth k) (expr_depth v)) (pairs_depth p) row.deepest both (pairs_deepest p)
    ∙ sym (deeper_same row_2.height (pairs_depth p) (max row.height (max (expr_depth k) (expr_depth v))) (pairs_depth p) row_2.deepest (pairs_deepest p) (deeper_of row.height row.deepest (max (expr_depth k) (expr_depth v)) both) (pairs_deepest p)
    (higher_is row.height (expr_depth k) (expr_depth v) row.height key.height value.height row_2.height higher refl key_height value_height)
    (deepest ∙ sym (pair_deepest row key value k v key_height key_deepest value_height value_deepest)) refl refl)

pub pairs_next : (room : ℕ) (opening : Pos) (before after middle second third behind : List Token) (colon_at at : Pos) (row row_2 : PairRow) (key value : Part) → PairsGo room opening before after row → Found expr_part expr_tree 7 room after key middle
    → Taken (Sign 7) middle colon_at second → Found expr_part expr_tree 7 room second value third → Taken (Sign 6) third at behind → row_2.list.items ≡ row.list.items ++ (key.expr.value, value.expr.value) ∷ []
    → row_2.height ≡ max (max row.height key.height) value.height → row_2.deepest ≡ deeper_of (max row.height key.height) (deeper_of row.height row.deepest key.height key.deepest) value.height value.deepest → PairsGo room opening before behind row_2
pairs_next room opening before after middle second third behind colon_at at row row_2 key value g f c v k items_are higher deepest = record {
  put = λ p. g.put (more_pairs f.written c.spot v.written k.spot p);
  front = g.front ++ (expr_tokens f.written ++ token (Sign 7) c.spot ∷ (expr_tokens v.written ++ token (Sign 6) k.spot ∷ []));
  before_is = g.before_is ∙ ap (λ ts. g.front ++ ts) (f.before_is ∙ ap (λ ts. expr_tokens f.written ++ ts) (c.before_is ∙ ap (λ ts. token (Sign 7) c.spot ∷ ts) (v.before_is ∙ ap (λ ts. expr_tokens v.written ++ ts) k.before_is)))
      ∙ behind_pair g.front (expr_tokens f.written) (token (Sign 7) c.spot) (expr_tokens v.written) (token (Sign 6) k.spot) behind;
  tokens_are = λ p. g.tokens_are (more_pairs f.written c.spot v.written k.spot p) ∙ behind_pair g.front (expr_tokens f.written) (token (Sign 7) c.spot) (expr_tokens v.written) (token (Sign 6) k.spot) (pairs_tokens p);
  trees = g.trees ++ (expr_tree f.written, expr_tree v.written) ∷ [];
  row_is = pushed_trees row.list.items row_2.list.items key.expr.value value.expr.value g.trees (expr_tree f.written) (expr_tree v.written) items_are g.row_is f.tree_is v.tree_is;
  trees_are = λ p. g.trees_are (more_pairs f.written c.spot v.written k.spot p) ∙ sym (append_assoc g.trees ((expr_tree f.written, expr_tree v.written) ∷ []) (pair_trees p));
  depth = max g.depth (max (expr_depth f.written) (expr_depth v.written));
  height_is = higher_is g.depth (expr_depth f.written) (expr_depth v.written) row.height key.height value.height row_2.height higher g.height_is f.height_is v.height_is;
  depth_is = λ p. g.depth_is (more_pairs f.written c.spot v.written k.spot p) ∙ sym (max_three g.depth (expr_depth f.written) (expr_depth v.written) (pairs_depth p));
  lies = λ at. max (g.lies at) (max (expr_lies f.written at) (expr_lies v.written at));
  lies_is = λ p at. g.lies_is (more_pairs f.written c.spot v.written k.spot p) at ∙ sym (max_three (g.lies at) (expr_lies f.written at) (expr_lies v.written at) (pairs_lies p at));
  low = λ at. both_low _ _ _ _ (g.low at) (both_low _ _ _ _ (expr_low f.written at) (expr_low v.written at));
  deepest_is = λ p. g.deepest_is (more_pairs f.written c.spot v.written k.spot p) ∙ one_more row row_2 key value f.written v.written p higher deepest f.height_is f.deepest_is v.height_is v.deepest_is;
  fits = three_below row_2.height row.height key.height value.height room higher g.fits f.fits v.fits;
  steps = suc (suc ((expr_reads f.written).steps + (expr_reads v.written).steps)) + g.steps;
  behind = g.behind + ((expr_reads f.written).steps + (expr_reads v.written).steps);
  leads = λ n tail. pair_leads g.put g.front g.steps g.behind g.leads f.written c.spot v.written k.spot (expr_reads f.written) (expr_reads v.written) n tail;
}

-- what ends the pairs is read behind what was read
put_read : (room : ℕ) (opening : Pos) (before after : List Token) (row : PairRow) (g : PairsGo room opening before after row) (p : Pairs) (rest : List Token) → IsRead pairs_part p rest → IsRead pairs_part (g.put p) rest
put_read room opening before after row g p rest is = record {
  steps = is.steps + g.steps;
  reads = λ n more first.
      more_steps (λ k. read_pairs k (pairs_tokens (g.put p) ++ more)) (n + (is.steps + g.steps)) ((n + is.steps) + g.steps) (omega arith)
      ∙ ap (λ ts. read_pairs ((n + is.steps) + g.steps) (ts ++ more)) (g.tokens_are p)
      ∙ ap (read_pairs ((n + is.steps) + g.steps)) (append_assoc g.front (pairs_tokens p) more)
      ∙ g.leads (n + is.steps) (pairs_tokens p ++ more)
      ∙ more_steps (λ k. go_on (read_pairs k (pairs_tokens p ++ more)) (λ p rest. Some (g.put p, rest))) ((n + is.steps) + g.behind) ((n + g.behind) + is.steps) (omega arith)
      ∙ ap (λ r. go_on r (λ p rest. Some (g.put p, rest))) (is.reads (n + g.behind) more first);
}

sign_there : (k : ℕ) (ts us : List Token) → first_token us ≡ first_token ts → is_sign_next k us ≡ is_sign_next k ts
sign_there k ts us first = sign_first k ts us (sym (first_is us) ∙ first ∙ first_is ts)

none_read : (rest : List Token) → is_sign_next 5 rest ≡ true → IsRead pairs_part no_pairs rest
none_read rest closes = record {
  steps = 1;
  reads = λ n more first. more_steps (λ m. read_pairs m more) (n + 1) (suc n) (omega arith) ∙ ends n more (sign_there 5 rest more first ∙ closes);
}
  where
    ends : (n : ℕ) (more : List Token) → is_sign_next 5 more ≡ true → read_pairs (suc n) more ≡ Some (no_pairs, more)
    ends n [] is = cc
    ends n (t ∷ ts) is = if_true (is_sign 5 t.kind) _ _ is

last_read : (key : Expr) (colon : Spot) (value : Expr) (rest : List Token) → 8 < next_level rest → IsRead pairs_part (last_pair key colon value) rest
last_read key colon value rest beyond =
    let is_1 = expr_reads key in
    let is_2 = expr_reads value in
    record {
      steps = suc (suc (0 + (is_1.steps + is_2.steps)));
      reads = λ n more first.
          let c : Token = token (Sign 7) colon in
          let level : next_level more ≡ next_level rest = level_same more rest first in
          let above : 8 < next_level more = omega (arith, level, beyond) in
          ap (read_pairs (n + suc (suc (0 + (is_1.steps + is_2.steps))))) (append_assoc (expr_tokens key) (c ∷ expr_tokens value) more)
          ∙ pair_of (expr_tokens key) key colon (expr_tokens value) value 0 (λ rest. expr_starts key rest) is_1 is_2 n more (omega (arith, above))
          ∙ if_false (next_level more == 8) _ _ (no_such (next_level more) 8 above);
    }

pub pairs_end : (room : ℕ) (opening : Pos) (before after : List Token) (row : PairRow) → PairsGo room opening before after row → is_sign_next 5 after ≡ true → FoundPairs room opening before row after
pairs_end room opening before after row g closes = record {
  written = g.put no_pairs;
  before_is = g.before_is ∙ ap (λ ts. ts ++ after) (sym (g.tokens_are no_pairs ∙ append-nil g.front));
  trees_are = ap pairs_list (g.row_is ∙ sym (g.trees_are no_pairs ∙ append-nil g.trees)) ∙ pair_list (g.put no_pairs);
  height_is = g.height_is ∙ sym (g.depth_is no_pairs ∙ no_deeper g.depth);
  deepest_is = sym (g.deepest_is no_pairs ∙ deeper_first row.height 0 row.deepest nowhere (omega arith));
  fits = g.fits;
  is_read = put_read room opening before after row g no_pairs after (none_read after closes);
}
  where
    no_deeper : (n : ℕ) → max n 0 ≡ n
    no_deeper n = omega arith

pub pairs_last : (room : ℕ) (opening : Pos) (before after middle second third : List Token) (colon_at : Pos) (row row_2 : PairRow) (key value : Part) → PairsGo room opening before after row → Found expr_part expr_tree 7 room after key middle
    → Taken (Sign 7) middle colon_at second → Found expr_part expr_tree 7 room second value third → is_sign_next 6 third ≡ false → row_2.list.items ≡ row.list.items ++ (key.expr.value, value.expr.value) ∷ []
    → row_2.height ≡ max (max row.height key.height) value.height → row_2.deepest ≡ deeper_of (max row.height key.height) (deeper_of row.height row.deepest key.height key.deepest) value.height value.deepest → FoundPairs room opening before row_2 third
pairs_last room opening before after middle second third colon_at row row_2 key value g f c v other items_are higher deepest = record {
  written = g.put (last_pair f.written c.spot v.written);
  before_is = g.before_is ∙ ap (λ ts. g.front ++ ts) (f.before_is ∙ ap (λ ts. expr_tokens f.written ++ ts) (c.before_is ∙ ap (λ ts. token (Sign 7) c.spot ∷ ts) v.before_is))
      ∙ sym (append_assoc g.front (expr_tokens f.written ++ token (Sign 7) c.spot ∷ expr_tokens v.written) third ∙ ap (λ ts. g.front ++ ts) (append_assoc (expr_tokens f.written) (token (Sign 7) c.spot ∷ expr_tokens v.written) third))
      ∙ ap (λ ts. ts ++ third) (sym (g.tokens_are (last_pair f.written c.spot v.written)));
  trees_are = ap pairs_list (pushed_trees row.list.items row_2.list.items key.expr.value value.expr.value g.trees (expr_tree f.written) (expr_tree v.written) items_are g.row_is f.tree_is v.tree_is ∙ sym (g.trees_are (last_pair f.written c.spot v.written)))
      ∙ pair_list (g.put (last_pair f.written c.spot v.written));
  height_is = higher_is g.depth (expr_depth f.written) (expr_depth v.written) row.height key.height value.height row_2.height higher g.height_is f.height_is v.height_is ∙ sym (g.depth_is (last_pair f.written c.spot v.written));
  deepest_is = deepest ∙ sym (g.deepest_is (last_pair f.written c.spot v.written) ∙ pair_deepest row key value f.written v.written f.height_is f.deepest_is v.height_is v.deepest_is);
  fits = three_below row_2.height row.height key.height value.height room higher g.fits f.fits v.fits;
  is_read = put_read room opening before after row g (last_pair f.written c.spot v.written) third (last_read f.written c.spot v.written third (beyond_comma third v.beyond other));
}

-- ---- and refused

-- what lies too deep behind what was read does so in the whole
put_deep : (room : ℕ) (opening : Pos) (before after : List Token) (row : PairRow) (g : PairsGo room opening before after row) (stop : Stop) (p : Pairs) → IsDeep stop room (pairs_lies p) → IsDeep stop room (pairs_lies (g.put p))
put_deep room opening before after row g stop p deep = deeper stop room (pairs_lies p) room (pairs_lies (g.put p)) deep (λ at some. let is = g.lies_is p at in let high = le-max_right (g.lies at) (pairs_lies p at) in omega (arith, is, high))

-- what is found behind what was read
put_finds : (room : ℕ) (opening : Pos) (before after : List Token) (row : PairRow) (g : PairsGo room opening before after row) (stop : Stop) (more : List Token) → Finds (λ p. IsDeep stop room (pairs_lies p)) read_pairs more
    → Finds (λ p. IsDeep stop room (pairs_lies p)) read_pairs (g.front ++ more)
put_finds room opening before after row g stop more finds = record {
  steps = finds.steps + g.steps;
  only = λ n. only_is _ _ _ (more_steps (λ k. read_pairs k (g.front ++ more)) (n + (finds.steps + g.steps)) ((n + finds.steps) + g.steps) (omega arith)
      ∙ g.leads (n + finds.steps) more
      ∙ more_steps (λ k. go_on (read_pairs k more) (λ p rest. Some (g.put p, rest))) ((n + finds.steps) + g.behind) ((n + g.behind) + finds.steps) (omega arith))
      (only_go_on (λ p. IsDeep stop room (pairs_lies p)) _ (read_pairs ((n + g.behind) + finds.steps) more) _ (finds.only (n + g.behind))
      (λ p rest deep. put_deep room opening before after row g stop p deep));
}

pair_deep : (stop : Stop) (room n : ℕ) (key : Expr) (colon : Spot) (value : Expr) (ts : List Token) → IsDeep stop room (λ at. max (expr_lies key at) (expr_lies value at)) → Only (λ p. IsDeep stop room (pairs_lies p)) (pairs_rest n key colon value ts)
pair_deep stop room zero key colon value ts deep = tt
pair_deep stop room (suc n) key colon value ts deep = only_if _ (next_level ts == 8) _ _
    (only_any _ (read_sign 6 ts) _ (λ comma more. only_any _ (read_pairs n more) _ (λ found rest. deep_beside_left stop room (λ at. max (expr_lies key at) (expr_lies value at)) (pairs_lies found) deep)))
    deep

key_deep : (stop : Stop) (room n : ℕ) (key : Expr) (ts : List Token) → IsDeep stop room (expr_lies key) → Only (λ p. IsDeep stop room (pairs_lies p)) (after_key n key ts)
key_deep stop room n key ts deep = only_any _ (read_sign 7 ts) _ (λ colon more. only_any _ (read_expr n more) _ (λ value rest. pair_deep stop room n key colon value rest
    (deep_beside_left stop room (expr_lies key) (expr_lies value) deep)))

key_finds : (room : ℕ) (stop : Stop) (more : List Token) → is_sign_next 5 more ≡ false → Finds (λ e. IsDeep stop room (expr_lies e)) read_expr more → Finds (λ p. IsDeep stop room (pairs_lies p)) read_pairs more
key_finds room stop more other finds = record {
  steps = suc finds.steps;
  only = λ n. only_is _ _ _ (more_steps (λ m. read_pairs m more) (n + suc finds.steps) (suc (n + finds.steps)) (omega arith)) (by more (n + finds.steps) other (finds.only n));
}
  where
    by : (us : List Token) (m : ℕ) → is_sign_next 5 us ≡ false → Only (λ e. IsDeep stop room (expr_lies e)) (read_expr m us) → Only (λ p. IsDeep stop room (pairs_lies p)) (read_pairs (suc m) us)
    by [] m no_sign only = tt
    by (t ∷ us) m no_sign only = only_is _ _ _ (if_false (is_sign 5 t.kind) _ _ no_sign) (only_go_on _ _ (read_expr m (t ∷ us)) _ only (λ key rest deep. key_deep stop room m key rest deep))

-- what is put behind what was read lies within the room where it does alone
put_within : (room : ℕ) (opening : Pos) (before after : List Token) (row : PairRow) (g : PairsGo room opening before after row) (p : Pairs) (at : Pos) → pairs_lies p at ≤ room → pairs_lies (g.put p) at ≤ room
put_within room opening before after row g p at low =
    let is = g.lies_is p at in
    let front_low = g.low at in
    let height = g.height_is in
    let fits = g.fits in
    let whole = max_below (g.lies at) (pairs_lies p at) room (omega (arith, front_low, height, fits)) low in
    omega (arith, is, whole)

key_inside : (room : ℕ) (opening : Pos) (before after : List Token) (row : PairRow) (g : PairsGo room opening before after row) → is_sign_next 5 after ≡ false → Inside pairs_part room expr_part room g.front after
key_inside room opening before after row g other = record {
  begins = λ at b. record {
    some = g.put (last_pair b (spot_at at) b);
    more = token (Sign 7) (spot_at at) ∷ expr_tokens b;
    tokens_are = g.tokens_are (last_pair b (spot_at at) b) ∙ sym (append_assoc g.front (expr_tokens b) (token (Sign 7) (spot_at at) ∷ expr_tokens b));
    within = λ other apart low. put_within room opening before after row g (last_pair b (spot_at at) b) other (max_below (expr_lies b other) (expr_lies b other) room low low);
    deep = λ stop deep. put_deep room opening before after row g stop (last_pair b (spot_at at) b) (deep_beside_left stop room (expr_lies b) (expr_lies b) deep);
  };
  finds = λ stop more first finds. put_finds room opening before after row g stop more (key_finds room stop more (sign_first 5 after more first ∙ other) finds);
}

pub key_refused : (room : ℕ) (opening : Pos) (before after : List Token) (row : PairRow) (stop : Stop) → PairsGo room opening before after row → is_sign_next 5 after ≡ false → Refused expr_part room after stop → Refused pairs_part room before stop
key_refused room opening before after row stop g other is = refused_same pairs_part room before _ stop g.before_is (refused_inside pairs_part room expr_part room g.front after stop (key_inside room opening before after row g other) is)

-- behind a key
behind_key : (P : Pairs → Type 0) (key : Expr) (more : List Token) → 7 < next_level more → Finds P (λ n ts. after_key n key ts) more → Finds P read_pairs (expr_tokens key ++ more)
behind_key P key more beyond finds = finds_behind P read_pairs read_expr (λ n key ts. after_key n key ts) 7 (expr_tokens key) key more (λ n. pairs_is n (expr_tokens key ++ more) (expr_starts key more)) (expr_reads key) beyond finds

colon_inside : (room : ℕ) (opening : Pos) (before after : List Token) (row : PairRow) (g : PairsGo room opening before after row) (key : Expr) (rest : List Token) → 7 < next_level rest → expr_depth key ≤ room
    → Inside pairs_part room (one_sign 7) 0 (g.front ++ expr_tokens key) rest
colon_inside room opening before after row g key rest beyond fits = record {
  begins = λ at spot. record {
    some = g.put (last_pair key spot key);
    more = expr_tokens key;
    tokens_are = g.tokens_are (last_pair key spot key) ∙ sym (append_assoc (g.front ++ expr_tokens key) (token (Sign 7) spot ∷ []) (expr_tokens key) ∙ append_assoc g.front (expr_tokens key) (token (Sign 7) spot ∷ expr_tokens key));
    within = λ other apart any. let low = expr_low key other in
        put_within room opening before after row g (last_pair key spot key) other (max_below (expr_lies key other) (expr_lies key other) room (omega (arith, low, fits)) (omega (arith, low, fits)));
    deep = λ stop deep. absurd (not_deep stop deep);
  };
  finds = λ stop more first finds.
      let level : next_level more ≡ next_level rest = level_same more rest (first_same more rest first) in
      finds_same _ read_pairs _ _ (append_assoc g.front (expr_tokens key) more)
      (put_finds room opening before after row g stop (expr_tokens key ++ more) (behind_key _ key more (omega (arith, level, beyond))
      (record { steps = 0; only = λ n. only_go_on (λ spot. IsDeep stop 0 (λ at. 0)) _ (read_sign 7 more) _ (finds.only n) (λ spot rest deep. absurd (not_deep stop deep)) })));
}

pub colon_refused : (room : ℕ) (opening : Pos) (before after middle : List Token) (row : PairRow) (key : Part) (stop : Stop) → PairsGo room opening before after row → Found expr_part expr_tree 7 room after key middle → Refused (one_sign 7) 0 middle stop
    → Refused pairs_part room before stop
colon_refused room opening before after middle row key stop g f is =
    refused_same pairs_part room before _ stop (g.before_is ∙ ap (λ ts. g.front ++ ts) f.before_is ∙ sym (append_assoc g.front (expr_tokens f.written) middle))
    (refused_inside pairs_part room (one_sign 7) 0 (g.front ++ expr_tokens f.written) middle stop (colon_inside room opening before after row g f.written middle f.beyond (let same = f.height_is in let low = f.fits in omega (arith, low, same))) is)

value_inside : (room : ℕ) (opening : Pos) (before after : List Token) (row : PairRow) (g : PairsGo room opening before after row) (key : Expr) (colon : Spot) (rest : List Token) → expr_depth key ≤ room
    → Inside pairs_part room expr_part room (g.front ++ (expr_tokens key ++ token (Sign 7) colon ∷ [])) rest
value_inside room opening before after row g key colon rest fits = record {
  begins = λ at b. record {
    some = g.put (last_pair key colon b);
    more = [];
    tokens_are = g.tokens_are (last_pair key colon b) ∙ sym (append-nil ((g.front ++ (expr_tokens key ++ token (Sign 7) colon ∷ [])) ++ expr_tokens b) ∙ append_assoc g.front (expr_tokens key ++ token (Sign 7) colon ∷ []) (expr_tokens b)
        ∙ ap (λ ts. g.front ++ ts) (append_assoc (expr_tokens key) (token (Sign 7) colon ∷ []) (expr_tokens b)));
    within = λ other apart low. let key_low = expr_low key other in
        put_within room opening before after row g (last_pair key colon b) other (max_below (expr_lies key other) (expr_lies b other) room (omega (arith, key_low, fits)) low);
    deep = λ stop deep. put_deep room opening before after row g stop (last_pair key colon b) (deep_beside_right stop room (expr_lies key) (expr_lies b) deep);
  };
  finds = λ stop more first finds.
      finds_same _ read_pairs _ _ (append_assoc g.front (expr_tokens key ++ token (Sign 7) colon ∷ []) more ∙ ap (λ ts. g.front ++ ts) (append_assoc (expr_tokens key) (token (Sign 7) colon ∷ []) more))
      (put_finds room opening before after row g stop (expr_tokens key ++ token (Sign 7) colon ∷ more) (behind_key _ key (token (Sign 7) colon ∷ more) (omega arith)
      (record {
        steps = finds.steps;
        only = λ n. only_go_on (λ e. IsDeep stop room (expr_lies e)) _ (read_expr (n + finds.steps) more) _ (finds.only n)
            (λ value rest deep. pair_deep stop room (n + finds.steps) key colon value rest (deep_beside_right stop room (expr_lies key) (expr_lies value) deep));
      })));
}

pub value_refused : (room : ℕ) (opening : Pos) (before after middle second : List Token) (at : Pos) (row : PairRow) (key : Part) (stop : Stop) → PairsGo room opening before after row → Found expr_part expr_tree 7 room after key middle → Taken (Sign 7) middle at second
    → Refused expr_part room second stop → Refused pairs_part room before stop
value_refused room opening before after middle second at row key stop g f k is =
    refused_same pairs_part room before _ stop (g.before_is ∙ ap (λ ts. g.front ++ ts) (f.before_is ∙ ap (λ ts. expr_tokens f.written ++ ts) k.before_is ∙ sym (append_assoc (expr_tokens f.written) (token (Sign 7) k.spot ∷ []) second))
    ∙ sym (append_assoc g.front (expr_tokens f.written ++ token (Sign 7) k.spot ∷ []) second))
    (refused_inside pairs_part room expr_part room (g.front ++ (expr_tokens f.written ++ token (Sign 7) k.spot ∷ [])) second stop (value_inside room opening before after row g f.written k.spot second (let same = f.height_is in let low = f.fits in omega (arith, low, same))) is)
