-- Expressions in a row: what is read of them, and how they are refused.
use Rattle.std.proofs.Common.{◌≡◌, ℕ, zero, suc, ◌+◌, max, nat_lt, ◌≤◌, ◌<◌, Bool, true, false, ◌||◌, List, [], ◌∷◌, ◌++◌, map, Option, Some, None, is_some, option_map, refl, ap, sym, ◌∙◌, arith, append_assoc, if◌then◌else◌}
use Rattle.std.specs.Prelude.{◌==◌, option_and_then}
use Rattle.std.proofs.Math.Nat.{le-max_right}
use Rattle.std.proofs.lemmas.List.{append-nil}
use Rattle.std.proofs.lemmas.Bool.{leb-false}
use Rattle.prov_base.specs.declared.place.Pos.{Pos}
use Rattle.py_lines.specs.declared.parts.Token.{Token}
use Rattle.py_lines.specs.declared.parts.TokenKind.{TokenKind}
use Rattle.py_lines.specs.declared.parts.TokenKind.TheVariants.{Word, Keyword, Number, Text, Sign}
use Rattle.py_tree.specs.declared.expr.Expr.{Expr as ExprRead}
use Rattle.py_tree.specs.Tree.{ExprTree}
use Rattle.py_tree.specs.Erasure.{expr_of}
use Rattle.py_expressions.specs.declared.fault.Stop.{Stop}
use Rattle.py_expressions.specs.declared.part.Part.{Part}
use Rattle.py_expressions.specs.declared.rows.Row.{Row}
use Rattle.py_expressions.specs.Concrete.{Spot, Expr, one_expr, several, Rest, end_rest, last_rest, more_rest}
use Rattle.py_expressions.specs.Tokens.{token, expr_tokens, rest_tokens}
use Rattle.py_expressions.specs.Trees.{expr_tree}
use Rattle.py_expressions.specs.Depth.{expr_depth, rest_depth}
use Rattle.py_expressions.specs.Lies.{nowhere, deeper_of, expr_lies, rest_lies, expr_deepest, rest_deepest}
use Rattle.py_expressions.proofs.Lying.{both_low, expr_low}
use Rattle.py_expressions.proofs.Deepest.{deeper_first, deeper_same, deeper_group}
use Rattle.py_expressions.specs.Reader.{Read, go_on, next_level, kind_level, starts, begins_expr, is_sign, read_sign, read_expr, read_rest, rest_rest}
use Rattle.py_expressions.specs.Targets.{OneTarget, TargetRest, last_target, more_target, one_target, several_targets, expr_target, rest_target, exprs_target}
use Rattle.py_expressions.specs.Parsed.{expr_part, is_form, Taken, Found, IsDeep, Only, Refused, is_sign_next, rest_ends_open}
use Rattle.py_expressions.specs.ParsedRows.{rest_part, rest_trees, FoundRest}
use Rattle.py_expressions.proofs.Leading.{Reads}
use Rattle.py_expressions.proofs.Firsts.{expr_starts, rest_is}
use Rattle.py_expressions.proofs.Reading.{if_true, expr_reads}
use Rattle.py_expressions.proofs.Refusals.{Inside, first_of, only_any, only_go_on, only_if, only_is, deeper, deep_beside_left, refused_inside, refused_same}
use Rattle.py_expressions.proofs.ClosedParts.{first_same}
use Rattle.py_expressions.proofs.PrimParts.{go_on_once}
use Rattle.py_expressions.proofs.SharpReads.{starts_same}

-- ---- levels

words_in : (a b c d : Bool) → 7 < (if a then 4 else (if b then 5 else (if c then 6 else (if d then 7 else 9)))) → 8 < (if a then 4 else (if b then 5 else (if c then 6 else (if d then 7 else 9))))
words_in true b c d above = absurd (omega (arith, above))
words_in false true c d above = absurd (omega (arith, above))
words_in false false true d above = absurd (omega (arith, above))
words_in false false false true above = absurd (omega (arith, above))
words_in false false false false above = omega arith

comma_in : (a b c d e : Bool) → 7 < (if a then 1 else (if b then 2 else (if c then 3 else (if d then 4 else (if e then 8 else 9))))) → e ≡ false → 8 < (if a then 1 else (if b then 2 else (if c then 3 else (if d then 4 else (if e then 8 else 9)))))
comma_in true b c d e above other = absurd (omega (arith, above))
comma_in false true c d e above other = absurd (omega (arith, above))
comma_in false false true d e above other = absurd (omega (arith, above))
comma_in false false false true e above other = absurd (omega (arith, above))
comma_in false false false false true above other = cc
comma_in false false false false false above other = omega arith

pub beyond_comma : (ts : List Token) → 7 < next_level ts → is_sign_next 6 ts ≡ false → 8 < next_level ts
beyond_comma [] above other = omega arith
beyond_comma (t ∷ ts) above other = by t.kind above other
  where
    by : (kind : TokenKind) → 7 < kind_level kind → is_sign 6 kind ≡ false → 8 < kind_level kind
    by (Keyword n) above other = words_in ((n == 22) || (n == 23) || (n == 26)) (n == 3) (n == 27) (n == 20) above
    by (Sign n) above other = comma_in ((n == 0) || (n == 2) || (n == 8)) ((n == 12) || (n == 13) || (n == 14)) ((n == 10) || (n == 11)) ((n == 15) || (n == 16) || (n == 17) || (n == 18) || (n == 19) || (n == 20)) (n == 6) above other
    by (Word bytes) above other = omega arith
    by (Number value) above other = omega arith
    by (Text bytes) above other = omega arith

pub no_start : (ts : List Token) → begins_expr ts ≡ false → starts ts ≡ 0
no_start ts is = let below = leb-false 1 (starts ts) is in omega (arith, below)

starts_first : (ts us : List Token) → first_of ts ≡ first_of us → starts ts ≡ starts us
starts_first ts us is = starts_same ts us (first_same ts us is)

pub sign_first : (k : ℕ) (ts us : List Token) → first_of us ≡ first_of ts → is_sign_next k us ≡ is_sign_next k ts
sign_first k [] [] first = refl
sign_first k [] (u ∷ us) first = cc
sign_first k (t ∷ ts) [] first = cc
sign_first k (t ∷ ts) (u ∷ us) first = by t u first
  where
    by : (t u : Token) → Some u ≡ Some t → is_sign k u.kind ≡ is_sign k t.kind
    by t u is = cc

pub more_steps : {A : Type 0} (f : ℕ → A) (m n : ℕ) → m ≡ n → f m ≡ f n
more_steps f m n is = ap f is

-- ---- what was read behind a comma so far

-- `put` puts what comes behind what was read
pub record RestGoes (room : ℕ) (before : List Token) (old : Row) (after : List Token) (row : Row) : Type 0 where
  pub put : Rest → Rest
  pub front : List Token
  pub before_is : before ≡ front ++ after
  pub tokens_are : (r : Rest) → rest_tokens (put r) ≡ front ++ rest_tokens r
  pub trees : List ExprTree
  pub row_is : map expr_of row.list.items ≡ map expr_of old.list.items ++ trees
  pub trees_are : (r : Rest) → rest_trees (put r) ≡ trees ++ rest_trees r
  pub depth : ℕ
  pub height_is : row.height ≡ max old.height depth
  pub depth_is : (r : Rest) → rest_depth (put r) ≡ max depth (rest_depth r)
  pub lies : Pos → ℕ
  pub lies_is : (r : Rest) (at : Pos) → rest_lies (put r) at ≡ max (lies at) (rest_lies r at)
  pub low : (at : Pos) → lies at ≤ depth
  pub deepest_is : (r : Rest) → deeper_of old.height old.deepest (rest_depth (put r)) (rest_deepest (put r)) ≡ deeper_of row.height row.deepest (rest_depth r) (rest_deepest r)
  pub form_is : (r : Rest) → (if row.is_target then is_some (rest_target r) else false) ≡ (if old.is_target then is_some (rest_target (put r)) else false)
  pub open_is : (r : Rest) → rest_ends_open (put r) ≡ rest_ends_open r
  pub fits : row.height ≤ room
  pub steps : ℕ
  pub behind : ℕ
  pub leads : (n : ℕ) (tail : List Token) → read_rest (n + steps) (front ++ tail) ≡ go_on (read_rest (n + behind) tail) (λ r rest. Some (put r, rest))

go_on_itself : {A : Type 0} (r : Read A) → r ≡ go_on r (λ a rest. Some (a, rest))
go_on_itself None = refl
go_on_itself (Some (a, rest)) = refl

pub rest_init : (room : ℕ) (before : List Token) (row : Row) → row.height ≤ room → RestGoes room before row before row
rest_init room before row fits = record {
  put = λ r. r;
  front = [];
  before_is = refl;
  tokens_are = λ r. refl;
  trees = [];
  row_is = sym (append-nil (map expr_of row.list.items));
  trees_are = λ r. refl;
  depth = 0;
  height_is = none_above row.height;
  depth_is = λ r. none_below (rest_depth r);
  lies = λ at. 0;
  lies_is = λ r at. none_below (rest_lies r at);
  low = λ at. omega arith;
  deepest_is = λ r. refl;
  form_is = λ r. refl;
  open_is = λ r. refl;
  fits = fits;
  steps = 0;
  behind = 0;
  leads = λ n tail. go_on_itself (read_rest (n + 0) tail);
}
  where
    none_above : (n : ℕ) → n ≡ max n 0
    none_above n = omega arith

    none_below : (n : ℕ) → n ≡ max 0 n
    none_below n = omega arith

map_append : (xs ys : List ExprRead) → map expr_of (xs ++ ys) ≡ map expr_of xs ++ map expr_of ys
map_append [] ys = refl
map_append (x ∷ xs) ys = ap (λ es. expr_of x ∷ es) (map_append xs ys)

pushed_trees : (xs ys : List ExprRead) (e : ExprRead) (ts us : List ExprTree) (t : ExprTree) → ys ≡ xs ++ e ∷ [] → map expr_of xs ≡ ts ++ us → expr_of e ≡ t → map expr_of ys ≡ ts ++ (us ++ t ∷ [])
pushed_trees xs ys e ts us t is old one = ap (map expr_of) is ∙ map_append xs (e ∷ []) ∙ ap (λ vs. vs ++ expr_of e ∷ []) old ∙ ap (λ v. (ts ++ us) ++ v ∷ []) one ∙ append_assoc ts us (t ∷ [])

max_assoc : (a b c : ℕ) → max (max a b) c ≡ max a (max b c)
max_assoc a b c = omega arith

some_more : (e : Expr) (comma : Spot) (r : Rest) → is_some (rest_target (more_rest e comma r)) ≡ (if is_form (expr_target e) then is_some (rest_target r) else false)
some_more e comma r = by (expr_target e) (rest_target r)
  where
    by : (o : Option OneTarget) (p : Option TargetRest) → is_some (option_and_then (λ t. option_map (more_target t comma) p) o) ≡ (if is_form o then is_some p else false)
    by None p = refl
    by (Some t) None = refl
    by (Some t) (Some u) = refl

some_last : (e : Expr) → is_some (rest_target (last_rest e)) ≡ is_form (expr_target e)
some_last e = by (expr_target e)
  where
    by : (o : Option OneTarget) → is_some (option_map last_target o) ≡ is_form o
    by None = refl
    by (Some t) = refl

pub some_several : (e : Expr) (comma : Spot) (r : Rest) → is_some (exprs_target (several e comma r)) ≡ (if is_form (expr_target e) then is_some (rest_target r) else false)
some_several e comma r = by (expr_target e) (rest_target r)
  where
    by : (o : Option OneTarget) (p : Option TargetRest) → is_some (option_and_then (λ t. option_map (several_targets t comma) p) o) ≡ (if is_form o then is_some p else false)
    by None p = refl
    by (Some t) None = refl
    by (Some t) (Some u) = refl

pub some_one : (e : Expr) → is_some (exprs_target (one_expr e)) ≡ is_form (expr_target e)
some_one e = by (expr_target e)
  where
    by : (o : Option OneTarget) → is_some (option_map one_target o) ≡ is_form o
    by None = refl
    by (Some t) = refl

three_forms : (a b c : Bool) → (if (if a then b else false) then c else false) ≡ (if a then (if b then c else false) else false)
three_forms true b c = refl
three_forms false b c = refl

form_itself : (a : Bool) → a ≡ (if a then true else false)
form_itself true = refl
form_itself false = refl

behind_comma : (front tokens : List Token) (comma : Token) (after : List Token) → front ++ (tokens ++ comma ∷ after) ≡ (front ++ (tokens ++ comma ∷ [])) ++ after
behind_comma front tokens comma after = sym (append_assoc front (tokens ++ comma ∷ []) after ∙ ap (λ ts. front ++ ts) (append_assoc tokens (comma ∷ []) after))

below_both : (a b c d : ℕ) → a ≡ max b c → b ≤ d → c ≤ d → a ≤ d
below_both a b c d is one other = omega (arith, is, one, other)

rest_leads : (put : Rest → Rest) (front : List Token) (steps behind : ℕ) → ((n : ℕ) (tail : List Token) → read_rest (n + steps) (front ++ tail) ≡ go_on (read_rest (n + behind) tail) (λ r rest. Some (put r, rest)))
    → (e : Expr) (comma : Spot) (is : Reads read_expr 7 (expr_tokens e) e) (n : ℕ) (tail : List Token)
    → read_rest (n + (suc (suc is.steps) + steps)) ((front ++ (expr_tokens e ++ token (Sign 6) comma ∷ [])) ++ tail) ≡ go_on (read_rest (n + (behind + is.steps)) tail) (λ r rest. Some (put (more_rest e comma r), rest))
rest_leads put front steps behind leads e comma is n tail =
    let t : Token = token (Sign 6) comma in
    more_steps (λ k. read_rest k ((front ++ (expr_tokens e ++ t ∷ [])) ++ tail)) (n + (suc (suc is.steps) + steps)) ((n + suc (suc is.steps)) + steps) (omega arith)
    ∙ ap (read_rest ((n + suc (suc is.steps)) + steps)) (sym (behind_comma front (expr_tokens e) t tail))
    ∙ leads (n + suc (suc is.steps)) (expr_tokens e ++ t ∷ tail)
    ∙ more_steps (λ k. go_on (read_rest k (expr_tokens e ++ t ∷ tail)) (λ r rest. Some (put r, rest))) ((n + suc (suc is.steps)) + behind) (suc ((suc n + behind) + is.steps)) (omega arith)
    ∙ ap (λ r. go_on r (λ r rest. Some (put r, rest))) (rest_is ((suc n + behind) + is.steps) (expr_tokens e ++ t ∷ tail) (expr_starts e (t ∷ tail))
    ∙ ap (λ r. go_on r (λ e rest. rest_rest ((suc n + behind) + is.steps) e rest)) (is.reads (suc n + behind) (t ∷ tail) (omega arith))
    ∙ more_steps (λ k. rest_rest k e (t ∷ tail)) ((suc n + behind) + is.steps) (suc ((n + behind) + is.steps)) (omega arith))
    ∙ go_on_once (read_rest ((n + behind) + is.steps) tail) (more_rest e comma) (λ r rest. Some (put r, rest))
    ∙ more_steps (λ k. go_on (read_rest k tail) (λ r rest. Some (put (more_rest e comma r), rest))) ((n + behind) + is.steps) (n + (behind + is.steps)) (omega arith)

-- one more of a row, and what stands behind it
one_more : (row row_2 : Row) (part : Part) (e : Expr) (r : Rest) → row_2.height ≡ max row.height part.height → row_2.deepest ≡ deeper_of row.height row.deepest part.height part.deepest → part.height ≡ expr_depth e → part.deepest ≡ expr_deepest e
    → deeper_of row.height row.deepest (max (expr_depth e) (rest_depth r)) (deeper_of (expr_depth e) (expr_deepest e) (rest_depth r) (rest_deepest r)) ≡ deeper_of row_2.height row_2.deepest (rest_depth r) (rest_deepest r)
one_more row row_2 part e r higher deepest height_is deepest_is =
    deeper_group row.height (expr_depth e) (rest_depth r) row.deepest (expr_deepest e) (rest_deepest r)
    ∙ sym (deeper_same row_2.height (rest_depth r) (max row.height (expr_depth e)) (rest_depth r) row_2.deepest (rest_deepest r) (deeper_of row.height row.deepest (expr_depth e) (expr_deepest e)) (rest_deepest r)
    (higher ∙ ap (max row.height) height_is) (deepest ∙ deeper_same row.height part.height row.height (expr_depth e) row.deepest part.deepest row.deepest (expr_deepest e) refl refl height_is deepest_is) refl refl)

pub rest_next : (room : ℕ) (before after middle behind : List Token) (at : Pos) (old row row_2 : Row) (part : Part) → RestGoes room before old after row → Found expr_part expr_tree 7 room after part middle
    → Taken (Sign 6) middle at behind → row_2.list.items ≡ row.list.items ++ part.expr.value ∷ [] → row_2.height ≡ max row.height part.height → row_2.deepest ≡ deeper_of row.height row.deepest part.height part.deepest → row_2.is_target ≡ (if row.is_target then part.is_target else false)
    → RestGoes room before old behind row_2
rest_next room before after middle behind at old row row_2 part g f k items_are higher deepest form = record {
  put = λ r. g.put (more_rest f.written k.spot r);
  front = g.front ++ (expr_tokens f.written ++ token (Sign 6) k.spot ∷ []);
  before_is = g.before_is ∙ ap (λ ts. g.front ++ ts) (f.before_is ∙ ap (λ ts. expr_tokens f.written ++ ts) k.before_is) ∙ behind_comma g.front (expr_tokens f.written) (token (Sign 6) k.spot) behind;
  tokens_are = λ r. g.tokens_are (more_rest f.written k.spot r) ∙ behind_comma g.front (expr_tokens f.written) (token (Sign 6) k.spot) (rest_tokens r);
  trees = g.trees ++ expr_tree f.written ∷ [];
  row_is = pushed_trees row.list.items row_2.list.items part.expr.value (map expr_of old.list.items) g.trees (expr_tree f.written) items_are g.row_is f.tree_is;
  trees_are = λ r. g.trees_are (more_rest f.written k.spot r) ∙ sym (append_assoc g.trees (expr_tree f.written ∷ []) (rest_trees r));
  depth = max g.depth (expr_depth f.written);
  height_is = higher ∙ ap (λ h. max h part.height) g.height_is ∙ ap (λ h. max (max old.height g.depth) h) f.height_is ∙ max_assoc old.height g.depth (expr_depth f.written);
  depth_is = λ r. g.depth_is (more_rest f.written k.spot r) ∙ sym (max_assoc g.depth (expr_depth f.written) (rest_depth r));
  lies = λ at. max (g.lies at) (expr_lies f.written at);
  lies_is = λ r at. g.lies_is (more_rest f.written k.spot r) at ∙ sym (max_assoc (g.lies at) (expr_lies f.written at) (rest_lies r at));
  low = λ at. both_low _ _ _ _ (g.low at) (expr_low f.written at);
  deepest_is = λ r. g.deepest_is (more_rest f.written k.spot r) ∙ one_more row row_2 part f.written r higher deepest f.height_is f.deepest_is;
  form_is = λ r.
      ap (λ b. if b then is_some (rest_target r) else false) (form ∙ ap (λ b. if row.is_target then b else false) f.form_is)
      ∙ three_forms (row.is_target) (is_form (expr_target f.written)) (is_some (rest_target r))
      ∙ ap (λ b. if row.is_target then b else false) (sym (some_more f.written k.spot r))
      ∙ g.form_is (more_rest f.written k.spot r);
  open_is = λ r. g.open_is (more_rest f.written k.spot r);
  fits = below_both row_2.height row.height part.height room higher g.fits f.fits;
  steps = suc (suc (expr_reads f.written).steps) + g.steps;
  behind = g.behind + (expr_reads f.written).steps;
  leads = λ n tail. rest_leads g.put g.front g.steps g.behind g.leads f.written k.spot (expr_reads f.written) n tail;
}

pub rest_last : (room : ℕ) (before after middle : List Token) (old row row_2 : Row) (part : Part) → RestGoes room before old after row → Found expr_part expr_tree 7 room after part middle
    → is_sign_next 6 middle ≡ false → row_2.list.items ≡ row.list.items ++ part.expr.value ∷ [] → row_2.height ≡ max row.height part.height → row_2.deepest ≡ deeper_of row.height row.deepest part.height part.deepest → row_2.is_target ≡ (if row.is_target then part.is_target else false)
    → FoundRest room before old row_2 middle
rest_last room before after middle old row row_2 part g f other items_are higher deepest form = record {
  written = g.put (last_rest f.written);
  before_is = g.before_is ∙ ap (λ ts. g.front ++ ts) f.before_is ∙ sym (append_assoc g.front (expr_tokens f.written) middle) ∙ ap (λ ts. ts ++ middle) (sym (g.tokens_are (last_rest f.written)));
  trees_are = pushed_trees row.list.items row_2.list.items part.expr.value (map expr_of old.list.items) g.trees (expr_tree f.written) items_are g.row_is f.tree_is ∙ ap (λ ts. map expr_of old.list.items ++ ts) (sym (g.trees_are (last_rest f.written)));
  height_is = higher ∙ ap (λ h. max h part.height) g.height_is ∙ ap (λ h. max (max old.height g.depth) h) f.height_is ∙ max_assoc old.height g.depth (expr_depth f.written) ∙ ap (max old.height) (sym (g.depth_is (last_rest f.written)));
  deepest_is = deepest ∙ deeper_same row.height part.height row.height (expr_depth f.written) row.deepest part.deepest row.deepest (expr_deepest f.written) refl refl f.height_is f.deepest_is ∙ sym (g.deepest_is (last_rest f.written));
  form_is = form ∙ ap (λ b. if row.is_target then b else false) (f.form_is ∙ sym (some_last f.written)) ∙ g.form_is (last_rest f.written);
  fits = below_both row_2.height row.height part.height room higher g.fits f.fits;
  beyond = λ closed_there. beyond_comma middle f.beyond other;
  no_more = λ open_there. let closed_there = g.open_is (last_rest f.written) in cc;
}

pub rest_end : (room : ℕ) (before after : List Token) (old row : Row) → RestGoes room before old after row → begins_expr after ≡ false → FoundRest room before old row after
rest_end room before after old row g other = record {
  written = g.put end_rest;
  before_is = g.before_is ∙ ap (λ ts. ts ++ after) (sym (g.tokens_are end_rest ∙ append-nil g.front));
  trees_are = g.row_is ∙ ap (λ ts. map expr_of old.list.items ++ ts) (sym (g.trees_are end_rest ∙ append-nil g.trees));
  height_is = g.height_is ∙ ap (max old.height) (sym (g.depth_is end_rest ∙ no_deeper g.depth));
  deepest_is = sym (g.deepest_is end_rest ∙ deeper_first row.height 0 row.deepest nowhere (omega arith));
  form_is = form_itself (row.is_target) ∙ g.form_is end_rest;
  fits = g.fits;
  beyond = λ closed_there. let open_there = g.open_is end_rest in cc;
  no_more = λ open_there. no_start after other;
}
  where
    no_deeper : (n : ℕ) → max n 0 ≡ n
    no_deeper n = omega arith

-- ---- and refused

pub rest_deep : (stop : Stop) (room n : ℕ) (e : Expr) (ts : List Token) → IsDeep stop room (expr_lies e) → Only (λ r. IsDeep stop room (rest_lies r)) (rest_rest n e ts)
rest_deep stop room zero e ts deep = tt
rest_deep stop room (suc n) e ts deep = only_if _ (next_level ts == 8) _ _
    (only_any _ (read_sign 6 ts) _ (λ comma more. only_any _ (read_rest n more) _ (λ found rest. deep_beside_left stop room (expr_lies e) (rest_lies found) deep)))
    deep

beside_within : (a b depth old height room : ℕ) → a ≤ depth → height ≡ max old depth → height ≤ room → b ≤ room → max a b ≤ room
beside_within a b depth old height room low is fits other = omega (arith, low, is, fits, other)

-- what lies too deep behind what was read does so in the whole
put_deep : (before : List Token) (old : Row) (after : List Token) (row : Row) (room : ℕ) (g : RestGoes room before old after row) (stop : Stop) (r : Rest) → IsDeep stop room (rest_lies r) → IsDeep stop room (rest_lies (g.put r))
put_deep before old after row room g stop r deep = deeper stop room (rest_lies r) room (rest_lies (g.put r)) deep (λ at some. let is = g.lies_is r at in let high = le-max_right (g.lies at) (rest_lies r at) in omega (arith, is, high))

rest_inside : (room : ℕ) (before after : List Token) (old row : Row) (g : RestGoes room before old after row) → begins_expr after ≡ true → Inside rest_part room expr_part room g.front after
rest_inside room before after old row g start = record {
  begins = λ at b. record {
    some = g.put (last_rest b);
    more = [];
    tokens_are = g.tokens_are (last_rest b) ∙ sym (append-nil (g.front ++ expr_tokens b));
    within = λ other apart low.
        let is = g.lies_is (last_rest b) other in
        let whole = beside_within (g.lies other) (expr_lies b other) g.depth old.height row.height room (g.low other) g.height_is g.fits low in
        omega (arith, is, whole);
    deep = λ stop deep. put_deep before old after row room g stop (last_rest b) deep;
  };
  finds = λ stop more first finds. record {
    steps = suc finds.steps + g.steps;
    only = λ n.
        let same : begins_expr more ≡ true = ap (nat_lt 0) (starts_first more after first) ∙ start in
        only_is _ _ _ (more_steps (λ k. read_rest k (g.front ++ more)) (n + (suc finds.steps + g.steps)) ((n + suc finds.steps) + g.steps) (omega arith)
        ∙ g.leads (n + suc finds.steps) more
        ∙ more_steps (λ k. go_on (read_rest k more) (λ r rest. Some (g.put r, rest))) ((n + suc finds.steps) + g.behind) (suc ((n + g.behind) + finds.steps)) (omega arith)
        ∙ ap (λ r. go_on r (λ r rest. Some (g.put r, rest))) (if_true (begins_expr more) (go_on (read_expr ((n + g.behind) + finds.steps) more) (λ e rest. rest_rest ((n + g.behind) + finds.steps) e rest)) (Some (end_rest, more)) same))
        (only_go_on (λ r. IsDeep stop room (rest_lies r)) _ _ _
        (only_go_on (λ e. IsDeep stop room (expr_lies e)) _ (read_expr ((n + g.behind) + finds.steps) more) _ (finds.only (n + g.behind)) (λ e rest deep. rest_deep stop room ((n + g.behind) + finds.steps) e rest deep))
        (λ r rest deep. put_deep before old after row room g stop r deep));
  };
}

pub rest_refused : (room : ℕ) (before after : List Token) (old row : Row) (stop : Stop) → RestGoes room before old after row → begins_expr after ≡ true → Refused expr_part room after stop → Refused rest_part room before stop
rest_refused room before after old row stop g start is = refused_same rest_part room before _ stop g.before_is (refused_inside rest_part room expr_part room g.front after stop (rest_inside room before after old row g start) is)
