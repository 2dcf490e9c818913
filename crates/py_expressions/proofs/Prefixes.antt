-- `not` and signs before an operand: what is read of them, and how they are refused.
use Rattle.std.proofs.Common.{◌≡◌, ℕ, zero, suc, ◌+◌, ◌≤◌, ◌<◌, false, List, [], ◌∷◌, ◌++◌, Some, None, refl, ap, sym, ◌∙◌, arith, if◌then◌else◌}
use Rattle.std.specs.Option.{option_map_or}
use Rattle.std.proofs.lemmas.List.{append-nil}
use Rattle.prov_base.specs.declared.place.Pos.{Pos}
use Rattle.py_lines.specs.declared.parts.Token.{Token}
use Rattle.py_lines.specs.declared.parts.TokenKind.TheVariants.{Keyword, Sign}
use Rattle.py_tree.specs.declared.expr.UnOp.{UnOp}
use Rattle.py_tree.specs.declared.expr.UnOp.TheVariants.{Not as Negation}
use Rattle.py_tree.specs.declared.expr.BinOp.{BinOp}
use Rattle.py_tree.specs.Tree.{unary_expr}
use Rattle.py_tree.specs.Erasure.{expr_of}
use Rattle.py_expressions.specs.declared.fault.Stop.{Stop}
use Rattle.py_expressions.specs.declared.part.Part.{Part}
use Rattle.py_expressions.specs.Concrete.{Spot, AddSign, plus, minus, Not, plain_not, not_of, plain_cmp, plain_sum, plain_term, Unary, plain_unary, signed, Prim, plain_prim, name}
use Rattle.py_expressions.specs.Tokens.{token, sign, add_sign, not_tokens, cmp_tokens_of, unary_tokens, prim_tokens}
use Rattle.py_expressions.specs.Trees.{not_tree, cmp_tree, unary_tree, prim_tree, add_op, unary_op}
use Rattle.py_expressions.specs.Depth.{not_depth, unary_depth}
use Rattle.py_expressions.specs.Lies.{is_place, over, not_lies, unary_lies, prim_lies}
use Rattle.py_expressions.proofs.Lying.{over_here, is_here}
use Rattle.py_expressions.specs.Reader.{go_on, spot_of, add_sign_of, read_keyword, read_not, read_cmp, read_unary, read_prim}
use Rattle.py_expressions.specs.Parsed.{not_part, cmp_part, unary_part, prim_part, Taken, TakenAdd, Found, IsDeep, Finds, Refused, IsTooDeep, is_keyword_next, add_sign_next, sign_of}
use Rattle.py_expressions.proofs.Refusals.{first_of, Inside, begins_new, alone_elsewhere, over_within, finds_first, finds_anything, deep_over, refused_inside, refused_same, first_here, full, keyword_next_same, one_behind}
use Rattle.py_expressions.proofs.Stops.{spot_at, finds_none}

-- an operand at this place, where any will do
abbrev pub some_unary : Pos → Unary
some_unary at = plain_unary (plain_prim (name (spot_at at) []))

abbrev pub some_not : Pos → Not
some_not at = plain_not (plain_cmp (plain_sum (plain_term (some_unary at))))

one_more : (n : ℕ) → suc n ≡ 1 + n
one_more n = omega arith

-- a node over what lies nowhere else lies nowhere else
under_elsewhere : (spot at other : Pos) (lies : ℕ) → spot ≡ at → (other ≡ at → ⊥) → lies ≡ 0 → over (is_place spot other) lies ≡ 0
under_elsewhere spot at other lies there apart none = ap (over (is_place spot other)) none ∙ alone_elsewhere spot other (λ same. apart (same ∙ there))

-- ---- `not`

pub not_one : (room : ℕ) (before after : List Token) (part : Part) → Found cmp_part cmp_tree 4 room before part after → Found not_part not_tree 4 room before part after
not_one room before after part f = record { written = plain_not f.written; before_is = f.before_is; tree_is = f.tree_is; height_is = f.height_is; deepest_is = f.deepest_is; form_is = f.form_is; fits = f.fits; beyond = f.beyond }

pub not_next : (room inner : ℕ) (before behind after : List Token) (at : Pos) (operand part : Part) → Taken (Keyword 26) before at behind → inner < room → Found not_part not_tree 4 inner behind operand after
    → expr_of part.expr.value ≡ unary_expr at Negation (expr_of operand.expr.value) → part.height ≡ suc operand.height → part.deepest ≡ operand.deepest → part.is_target ≡ false → Found not_part not_tree 4 room before part after
not_next room inner before behind after at operand part k smaller o tree height deepest other = record {
  written = not_of k.spot o.written;
  before_is = k.before_is ∙ ap (λ ts. token (Keyword 26) k.spot ∷ ts) o.before_is;
  tree_is = tree ∙ ap (λ a. unary_expr a Negation (expr_of operand.expr.value)) (sym k.at_is) ∙ ap (unary_expr k.spot.at Negation) o.tree_is;
  height_is = height ∙ ap suc o.height_is ∙ one_more (not_depth o.written);
  deepest_is = deepest ∙ o.deepest_is;
  form_is = other;
  fits = let low = o.fits in omega (arith, height, low, smaller);
  beyond = o.beyond;
}

no_word : (before more : List Token) → is_keyword_next 26 before ≡ false → first_of more ≡ first_of before → read_keyword 26 more ≡ None
no_word before [] absent first = refl
no_word before (t ∷ ts) absent first = ap (λ b. if b then Some (spot_of t, ts) else None) (keyword_next_same 26 (t ∷ ts) before first ∙ absent)

cmp_inside : (room : ℕ) (before : List Token) → is_keyword_next 26 before ≡ false → Inside not_part room cmp_part room [] before
cmp_inside room before absent = record {
  begins = λ at b. record { some = plain_not b; more = []; tokens_are = sym (append-nil (cmp_tokens_of b)); within = λ other apart low. low; deep = λ stop deep. deep };
  finds = λ stop more first finds. finds_first _ _ read_not read_cmp (λ n e rest. Some (plain_not e, rest)) more more
      (λ n. ap (λ o. option_map_or (λ found. go_on (read_not n found.1) (λ e rest. Some (not_of found.0 e, rest))) o (go_on (read_cmp n more) (λ e rest. Some (plain_not e, rest)))) (no_word before more absent first))
      (λ n b ts deep. deep) finds;
}

pub not_cmp_refused : (room : ℕ) (before : List Token) (stop : Stop) → is_keyword_next 26 before ≡ false → Refused cmp_part room before stop → Refused not_part room before stop
not_cmp_refused room before stop absent is = refused_inside not_part room cmp_part room [] before stop (cmp_inside room before absent) is

pub not_here : (room : ℕ) (before behind : List Token) (at : Pos) (stop : Stop) → Taken (Keyword 26) before at behind → IsTooDeep 0 at room stop → Refused not_part room before stop
not_here room before behind at stop k deep = full not_part room before [] (token (Keyword 26) k.spot) behind 0 at stop deep k.before_is (begins_new not_part room some_not (λ place other apart. alone_elsewhere place other apart))
    (first_here not_part room (token (Keyword 26) k.spot) (not_of k.spot (some_not at)) (not_tokens (some_not at)) at refl k.at_is (over_here (is_place k.spot.at at) (not_lies (some_not at) at) (is_here k.spot.at at k.at_is))
    (λ other apart. under_elsewhere k.spot.at at other (not_lies (some_not at) other) k.at_is apart (alone_elsewhere at other apart)))
    (λ more. finds_first _ _ read_not read_not (λ n e rest. Some (not_of k.spot e, rest)) (token (Keyword 26) k.spot ∷ more) more (λ n. refl) (λ n e ts any. let one = over_here (is_place k.spot.at at) (not_lies e at) (is_here k.spot.at at k.at_is) in omega (arith, one)) (finds_anything read_not more))

operand_inside : (room inner : ℕ) (spot : Spot) (behind : List Token) → room ≤ suc inner → inner < room → Inside not_part room not_part inner (token (Keyword 26) spot ∷ []) behind
operand_inside room inner spot behind less smaller = record {
  begins = λ at b. record {
    some = not_of spot b;
    more = [];
    tokens_are = one_behind [] (token (Keyword 26) spot) (not_tokens b);
    within = λ other apart low. over_within (is_place spot.at other) (not_lies b other) inner room smaller low;
    deep = λ stop deep. deep_over stop inner room (is_place spot.at) (not_lies b) less deep;
  };
  finds = λ stop more first finds. finds_first _ _ read_not read_not (λ n e rest. Some (not_of spot e, rest)) (token (Keyword 26) spot ∷ more) more (λ n. refl)
      (λ n e ts deep. deep_over stop inner room (is_place spot.at) (not_lies e) less deep) finds;
}

pub not_operand_refused : (room inner : ℕ) (before behind : List Token) (at : Pos) (stop : Stop) → Taken (Keyword 26) before at behind → room ≤ suc inner → inner < room → Refused not_part inner behind stop → Refused not_part room before stop
not_operand_refused room inner before behind at stop k less smaller is = refused_same not_part room _ _ stop k.before_is (refused_inside not_part room not_part inner (token (Keyword 26) k.spot ∷ []) behind stop (operand_inside room inner k.spot behind less smaller) is)

-- ---- signs

abbrev sign_token : AddSign → Spot → Token
sign_token plus spot = token (Sign 10) spot
sign_token minus spot = token (Sign 11) spot

sign_same : (which : AddSign) (spot : Spot) (behind : List Token) → sign (add_sign which) spot ++ behind ≡ sign_token which spot ∷ behind
sign_same plus spot behind = refl
sign_same minus spot behind = refl

sign_at : (which : AddSign) (spot : Spot) → (sign_token which spot).at ≡ spot.at
sign_at plus spot = refl
sign_at minus spot = refl

pub unary_one : (room : ℕ) (before after : List Token) (part : Part) → Found prim_part prim_tree 1 room before part after → Found unary_part unary_tree 1 room before part after
unary_one room before after part f = record { written = plain_unary f.written; before_is = f.before_is; tree_is = f.tree_is; height_is = f.height_is; deepest_is = f.deepest_is; form_is = f.form_is; fits = f.fits; beyond = f.beyond }

sign_of_add : (which : AddSign) (op : BinOp) → op ≡ add_op which → sign_of op ≡ unary_op which
sign_of_add plus op is = ap sign_of is
sign_of_add minus op is = ap sign_of is

pub unary_next : (room inner : ℕ) (before behind after : List Token) (at : Pos) (op : BinOp) (sign_op : UnOp) (operand part : Part) → TakenAdd before at op behind → sign_op ≡ sign_of op → inner < room → Found unary_part unary_tree 1 inner behind operand after
    → expr_of part.expr.value ≡ unary_expr at sign_op (expr_of operand.expr.value) → part.height ≡ suc operand.height → part.deepest ≡ operand.deepest → part.is_target ≡ false → Found unary_part unary_tree 1 room before part after
unary_next room inner before behind after at op sign_op operand part k op_is smaller o tree height deepest other = record {
  written = signed k.spot k.which o.written;
  before_is = k.before_is ∙ ap (λ ts. sign (add_sign k.which) k.spot ++ ts) o.before_is;
  tree_is = tree ∙ ap (λ a. unary_expr a sign_op (expr_of operand.expr.value)) (sym k.at_is) ∙ ap (λ x. unary_expr k.spot.at x (expr_of operand.expr.value)) (op_is ∙ sign_of_add k.which op k.op_is) ∙ ap (unary_expr k.spot.at (unary_op k.which)) o.tree_is;
  height_is = height ∙ ap suc o.height_is ∙ one_more (unary_depth o.written);
  deepest_is = deepest ∙ o.deepest_is;
  form_is = other;
  fits = let low = o.fits in omega (arith, height, low, smaller);
  beyond = o.beyond;
}

unary_sign : (which : AddSign) (spot : Spot) (n : ℕ) (more : List Token) → read_unary (suc n) (sign_token which spot ∷ more) ≡ go_on (read_unary n more) (λ e rest. Some (signed spot which e, rest))
unary_sign plus spot n more = refl
unary_sign minus spot n more = refl

unary_plain : (u t : Token) (us ts : List Token) (n : ℕ) → add_sign_of u.kind ≡ None → first_of (t ∷ ts) ≡ first_of (u ∷ us) → read_unary (suc n) (t ∷ ts) ≡ go_on (read_prim n (t ∷ ts)) (λ e rest. Some (plain_unary e, rest))
unary_plain u t us ts n absent first = ap (λ o. option_map_or (λ op. go_on (read_unary n ts) (λ e rest. Some (signed (spot_of t) op e, rest))) o (go_on (read_prim n (t ∷ ts)) (λ e rest. Some (plain_unary e, rest))))
    (ap (λ (v : Token). add_sign_of v.kind) (same_token t u first) ∙ absent)
  where
    same_token : (v w : Token) → Some v ≡ Some w → v ≡ w
    same_token v w eq = cc

unary_end : (n : ℕ) → read_unary n [] ≡ None
unary_end zero = refl
unary_end (suc n) = refl

prim_finds : (room : ℕ) (before : List Token) → add_sign_next before ≡ None → (stop : Stop) (more : List Token) → first_of more ≡ first_of before → Finds (λ b. IsDeep stop room (prim_lies b)) read_prim more
    → Finds (λ a. IsDeep stop room (unary_lies a)) read_unary more
prim_finds room before absent stop [] first finds = finds_none _ read_unary [] unary_end
prim_finds room [] absent stop (t ∷ ts) first finds = cc
prim_finds room (u ∷ us) absent stop (t ∷ ts) first finds =
    finds_first _ _ read_unary read_prim (λ n e rest. Some (plain_unary e, rest)) (t ∷ ts) (t ∷ ts) (λ n. unary_plain u t us ts n absent first) (λ n b ts deep. deep) finds

prim_inside : (room : ℕ) (before : List Token) → add_sign_next before ≡ None → Inside unary_part room prim_part room [] before
prim_inside room before absent = record {
  begins = λ at b. record { some = plain_unary b; more = []; tokens_are = sym (append-nil (prim_tokens b)); within = λ other apart low. low; deep = λ stop deep. deep };
  finds = λ stop more first finds. prim_finds room before absent stop more first finds;
}

pub unary_prim_refused : (room : ℕ) (before : List Token) (stop : Stop) → add_sign_next before ≡ None → Refused prim_part room before stop → Refused unary_part room before stop
unary_prim_refused room before stop absent is = refused_inside unary_part room prim_part room [] before stop (prim_inside room before absent) is

pub unary_here : (room : ℕ) (before behind : List Token) (at : Pos) (op : BinOp) (stop : Stop) → TakenAdd before at op behind → IsTooDeep 0 at room stop → Refused unary_part room before stop
unary_here room before behind at op stop k deep = full unary_part room before [] (sign_token k.which k.spot) behind 0 at stop deep (k.before_is ∙ sign_same k.which k.spot behind) (begins_new unary_part room some_unary (λ place other apart. alone_elsewhere place other apart))
    (first_here unary_part room (sign_token k.which k.spot) (signed k.spot k.which (some_unary at)) (unary_tokens (some_unary at)) at (sign_same k.which k.spot (unary_tokens (some_unary at))) (sign_at k.which k.spot ∙ k.at_is)
    (over_here (is_place k.spot.at at) (unary_lies (some_unary at) at) (is_here k.spot.at at k.at_is))
    (λ other apart. under_elsewhere k.spot.at at other (unary_lies (some_unary at) other) k.at_is apart (alone_elsewhere at other apart)))
    (λ more. finds_first _ _ read_unary read_unary (λ n e rest. Some (signed k.spot k.which e, rest)) (sign_token k.which k.spot ∷ more) more (λ n. unary_sign k.which k.spot n more) (λ n e ts any. let one = over_here (is_place k.spot.at at) (unary_lies e at) (is_here k.spot.at at k.at_is) in omega (arith, one)) (finds_anything read_unary more))

signed_inside : (room inner : ℕ) (which : AddSign) (spot : Spot) (behind : List Token) → room ≤ suc inner → inner < room → Inside unary_part room unary_part inner (sign_token which spot ∷ []) behind
signed_inside room inner which spot behind less smaller = record {
  begins = λ at b. record {
    some = signed spot which b;
    more = [];
    tokens_are = sign_same which spot (unary_tokens b) ∙ one_behind [] (sign_token which spot) (unary_tokens b);
    within = λ other apart low. over_within (is_place spot.at other) (unary_lies b other) inner room smaller low;
    deep = λ stop deep. deep_over stop inner room (is_place spot.at) (unary_lies b) less deep;
  };
  finds = λ stop more first finds. finds_first _ _ read_unary read_unary (λ n e rest. Some (signed spot which e, rest)) (sign_token which spot ∷ more) more (λ n. unary_sign which spot n more)
      (λ n e ts deep. deep_over stop inner room (is_place spot.at) (unary_lies e) less deep) finds;
}

pub unary_operand_refused : (room inner : ℕ) (before behind : List Token) (at : Pos) (op : BinOp) (stop : Stop) → TakenAdd before at op behind → room ≤ suc inner → inner < room → Refused unary_part inner behind stop → Refused unary_part room before stop
unary_operand_refused room inner before behind at op stop k less smaller is =
    refused_same unary_part room _ _ stop (k.before_is ∙ sign_same k.which k.spot behind) (refused_inside unary_part room unary_part inner (sign_token k.which k.spot ∷ []) behind stop (signed_inside room inner k.which k.spot behind less smaller) is)
