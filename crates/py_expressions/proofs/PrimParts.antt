-- What goes on with a primary, and primaries: what is read of them, and how they are refused.
use Rattle.std.proofs.Common.{◌≡◌, ℕ, zero, suc, ◌+◌, max, ◌≤◌, ◌<◌, Bool, true, false, ◌||◌, List, [], ◌∷◌, ◌++◌, Some, None, refl, ap, sym, ◌∙◌, arith, append_assoc, if◌then◌else◌}
use Rattle.std.specs.Prelude.{◌==◌}
use Rattle.std.proofs.lemmas.List.{append-nil}
use Rattle.std.proofs.lemmas.Bool.{eqb-true}
use Rattle.prov_base.specs.declared.place.Pos.{Pos}
use Rattle.py_lines.specs.declared.parts.Token.{Token}
use Rattle.py_lines.specs.declared.parts.TokenKind.{TokenKind}
use Rattle.py_lines.specs.declared.parts.TokenKind.TheVariants.{Word, Keyword, Number, Text, Sign}
use Rattle.py_tree.specs.Tree.{call_expr, attr_expr}
use Rattle.py_tree.specs.Erasure.{expr_of}
use Rattle.py_expressions.specs.declared.fault.Fault.TheVariants.{TooDeep}
use Rattle.py_expressions.specs.declared.fault.Stop.{Stop}
use Rattle.py_expressions.specs.declared.fault.Stop.TheVariants.{Here}
use Rattle.py_expressions.specs.declared.part.Part.{Part}
use Rattle.py_expressions.specs.Concrete.{Spot, Prim, plain_prim, call, part, attribute, one_index, range_index, no_bound, no_items}
use Rattle.py_expressions.specs.Tokens.{token, word, prim_tokens, items_tokens, index_tokens}
use Rattle.py_expressions.specs.Trees.{prim_tree, atom_tree, items_tree}
use Rattle.py_expressions.specs.Depth.{prim_depth, items_depth, index_depth}
use Rattle.py_expressions.specs.Lies.{begins, over, nowhere, deeper_of, index_lies, items_lies, prim_lies, items_deepest, index_deepest, prim_deepest}
use Rattle.py_expressions.proofs.Lying.{above_left, over_right, prim_above, prim_low}
use Rattle.py_expressions.proofs.Deepest.{deeper_first, deeper_same, prim_is_first}
use Rattle.py_expressions.specs.Reader.{Read, go_on, spot_of, next_level, kind_level, is_sign, keyword_level, read_sign, read_name, read_items, read_index, read_prim, prim_rest, read_atom}
use Rattle.py_expressions.specs.Targets.{prim_target}
use Rattle.py_expressions.specs.Parsed.{prim_part, atom_part, is_form, Taken, TakenName, Found, IsDeep, Only, IsFirstDeep, Refused, IsTooDeep, one_sign, one_name, is_sign_next}
use Rattle.py_expressions.specs.ParsedRows.{closed, read_closed, items_part, index_part, index_form, Trailer, called, parted, dotted, with_trailer, trailer_tokens, trailer_depth, trailer_lies, trailer_deepest, trailer_form, trailer_tree, index_tree, read_trailer, trailer_part, FoundClosed, FoundTrailer}
use Rattle.py_expressions.proofs.Reading.{prim_leads}
use Rattle.py_expressions.proofs.Refusals.{Inside, first_of, only_any, only_go_on, only_if, only_is, finds_first, finds_lead, finds_at_once, deeper, deep_left, deep_over, refused_inside, refused_same, begins_whole, node_within, first_full, full, fits_above}
use Rattle.py_expressions.proofs.ClosedParts.{not_deep}
use Rattle.py_expressions.proofs.Comparisons.{one_token}
use Rattle.py_expressions.proofs.Firsts.{sign_is}
use Rattle.py_expressions.proofs.Stops.{some_spot, spot_at}

-- ---- what goes on with a primary is read

regroup : (t : Token) (ts : List Token) (u : Token) (after : List Token) → t ∷ ts ++ u ∷ after ≡ (t ∷ ts ++ u ∷ []) ++ after
regroup t ts u after = ap (λ us. t ∷ us) (sym (append_assoc ts (u ∷ []) after))

pub trailer_call : (room : ℕ) (before middle after : List Token) (at : Pos) (left found : Part) → Taken (Sign 0) before at middle
    → FoundClosed (items_part 1) 1 (λ i. call_expr at (expr_of left.expr.value) (items_tree i)) (λ i. suc (max left.height (items_depth i))) (λ i. deeper_of left.height left.deepest (items_depth i) (items_deepest i)) (λ _. false) room middle found after → FoundTrailer room before left found after
trailer_call room before middle after at left found k f = record {
  written = called k.spot f.written f.spot;
  before_is = k.before_is ∙ ap (λ ts. token (Sign 0) k.spot ∷ ts) f.before_is ∙ regroup (token (Sign 0) k.spot) (items_tokens f.written) (token (Sign 1) f.spot) after;
  tree_is = f.tree_is ∙ ap (λ place. call_expr place (expr_of left.expr.value) (items_tree f.written)) (sym k.at_is);
  height_is = f.height_is;
  deepest_is = f.deepest_is;
  form_is = f.form_is;
  fits = f.fits;
}

pub trailer_part_of : (room : ℕ) (before middle after : List Token) (at : Pos) (left found : Part) → Taken (Sign 2) before at middle
    → FoundClosed index_part 3 (index_tree at (expr_of left.expr.value)) (λ i. suc (max left.height (index_depth i))) (λ i. deeper_of left.height left.deepest (index_depth i) (index_deepest i)) index_form room middle found after → FoundTrailer room before left found after
trailer_part_of room before middle after at left found k f = record {
  written = parted k.spot f.written f.spot;
  before_is = k.before_is ∙ ap (λ ts. token (Sign 2) k.spot ∷ ts) f.before_is ∙ regroup (token (Sign 2) k.spot) (index_tokens f.written) (token (Sign 3) f.spot) after;
  tree_is = f.tree_is ∙ ap (λ place. index_tree place (expr_of left.expr.value) f.written) (sym k.at_is);
  height_is = f.height_is;
  deepest_is = f.deepest_is;
  form_is = f.form_is;
  fits = f.fits;
}

max_none : (n : ℕ) → suc n ≡ suc (max n 0)
max_none n = omega arith

pub trailer_dot : (room : ℕ) (before middle after : List Token) (at name_at : Pos) (name : List ℕ) (left found : Part) → Taken (Sign 8) before at middle → TakenName middle name_at name after
    → expr_of found.expr.value ≡ attr_expr at (expr_of left.expr.value) name → found.height ≡ suc left.height → found.deepest ≡ left.deepest → found.is_target ≡ true → FoundTrailer room before left found after
trailer_dot room before middle after at name_at name left found k named tree height deepest form = record {
  written = dotted k.spot named.spot name;
  before_is = k.before_is ∙ ap (λ ts. token (Sign 8) k.spot ∷ ts) named.before_is;
  tree_is = tree ∙ ap (λ place. attr_expr place (expr_of left.expr.value) name) (sym k.at_is);
  height_is = height ∙ max_none left.height;
  deepest_is = deepest ∙ sym (deeper_first left.height 0 left.deepest nowhere (omega arith));
  form_is = form;
  fits = omega arith;
}

-- ---- and refused

behind_sign : (t : Token) (ts : List Token) → t ∷ ts ≡ ((t ∷ []) ++ ts) ++ []
behind_sign t ts = ap (λ us. t ∷ us) (sym (append-nil ts))

in_call : (room : ℕ) (spot : Spot) (rest : List Token) → Inside trailer_part room (closed (items_part 1) 1) room (token (Sign 0) spot ∷ []) rest
in_call room spot rest = record {
  begins = λ at b. record { some = called spot b.0 b.1; more = []; tokens_are = behind_sign (token (Sign 0) spot) (items_tokens b.0 ++ token (Sign 1) b.1 ∷ []); within = λ other apart low. low; deep = λ stop deep. deep };
  finds = λ stop more first finds. record {
    steps = finds.steps;
    only = λ n. only_go_on _ _ (read_closed (λ m us. read_items m 1 us) 1 (n + finds.steps) more) _ (finds.only n) (λ found rest deep. deep);
  };
}

pub trailer_call_refused : (room : ℕ) (before middle : List Token) (at : Pos) (stop : Stop) → Taken (Sign 0) before at middle → Refused (closed (items_part 1) 1) room middle stop → Refused trailer_part room before stop
trailer_call_refused room before middle at stop k is = refused_same trailer_part room before _ stop k.before_is (refused_inside trailer_part room (closed (items_part 1) 1) room (token (Sign 0) k.spot ∷ []) middle stop (in_call room k.spot middle) is)

in_part : (room : ℕ) (spot : Spot) (rest : List Token) → Inside trailer_part room (closed index_part 3) room (token (Sign 2) spot ∷ []) rest
in_part room spot rest = record {
  begins = λ at b. record { some = parted spot b.0 b.1; more = []; tokens_are = behind_sign (token (Sign 2) spot) (index_tokens b.0 ++ token (Sign 3) b.1 ∷ []); within = λ other apart low. low; deep = λ stop deep. deep };
  finds = λ stop more first finds. record {
    steps = finds.steps;
    only = λ n. only_go_on _ _ (read_closed read_index 3 (n + finds.steps) more) _ (finds.only n) (λ found rest deep. deep);
  };
}

pub trailer_part_refused : (room : ℕ) (before middle : List Token) (at : Pos) (stop : Stop) → Taken (Sign 2) before at middle → Refused (closed index_part 3) room middle stop → Refused trailer_part room before stop
trailer_part_refused room before middle at stop k is = refused_same trailer_part room before _ stop k.before_is (refused_inside trailer_part room (closed index_part 3) room (token (Sign 2) k.spot ∷ []) middle stop (in_part room k.spot middle) is)

in_name : (room : ℕ) (spot : Spot) (rest : List Token) → Inside trailer_part room one_name 0 (token (Sign 8) spot ∷ []) rest
in_name room spot rest = record {
  begins = λ at b. record { some = dotted spot b.0 b.1; more = []; tokens_are = behind_sign (token (Sign 8) spot) (word b.1 b.0); within = λ other apart any. omega arith; deep = λ stop deep. absurd (not_deep stop deep) };
  finds = λ stop more first finds. record {
    steps = 0;
    only = λ n. only_go_on _ _ (read_name more) _ (finds.only n) (λ found rest deep. absurd (not_deep stop deep));
  };
}

pub trailer_name_refused : (room : ℕ) (before middle : List Token) (at : Pos) (stop : Stop) → Taken (Sign 8) before at middle → Refused one_name 0 middle stop → Refused trailer_part room before stop
trailer_name_refused room before middle at stop k is = refused_same trailer_part room before _ stop k.before_is (refused_inside trailer_part room one_name 0 (token (Sign 8) k.spot ∷ []) middle stop (in_name room k.spot middle) is)

-- a sign that is not there is not where the same token stands first
pub not_first : (k : ℕ) (ts us : List Token) → first_of us ≡ first_of ts → is_sign_next k ts ≡ false → is_sign_next k us ≡ false
not_first k ts [] first other = refl
not_first k [] (u ∷ us) first other = cc
not_first k (t ∷ ts) (u ∷ us) first other = ap (is_sign k) (kind_of t u first) ∙ other
  where
    kind_of : (t u : Token) → Some u ≡ Some t → u.kind ≡ t.kind
    kind_of t u is = cc

dot_only : (P : Trailer → Type 0) (n : ℕ) (ts : List Token) → is_sign_next 0 ts ≡ false → is_sign_next 2 ts ≡ false → Only (λ spot. ⊥) (read_sign 8 ts) → Only P (read_trailer n ts)
dot_only P n [] one two only = tt
dot_only P n (t ∷ ts) one two only = by (is_sign 0 t.kind) (is_sign 2 t.kind) (is_sign 8 t.kind) _ _ (read_name ts) _ one two only
  where
    by : (a b c : Bool) (x y : Read Trailer) (r : Read (Spot × List ℕ)) (f : (Spot × List ℕ) → List Token → Read Trailer) → a ≡ false → b ≡ false → Only (λ spot. ⊥) (if c then Some (spot_of t, ts) else None)
        → Only P (if a then x else (if b then y else (if c then go_on r f else None)))
    by false false true x y r f one two only = absurd only
    by false false false x y r f one two only = tt
    by true b c x y r f one two only = cc
    by false true c x y r f one two only = cc

at_dot : (room : ℕ) (rest : List Token) → is_sign_next 0 rest ≡ false → is_sign_next 2 rest ≡ false → Inside trailer_part room (one_sign 8) 0 [] rest
at_dot room rest one two = record {
  begins = λ at spot. record { some = dotted spot (spot_at at) []; more = word [] (spot_at at); tokens_are = refl; within = λ other apart any. omega arith; deep = λ stop deep. absurd (not_deep stop deep) };
  finds = λ stop more first finds. record {
    steps = 0;
    only = λ n. dot_only _ (n + 0) more (not_first 0 rest more first one) (not_first 2 rest more first two) (weaken (read_sign 8 more) stop (finds.only n));
  };
}
  where
    weaken : (r : Read Spot) (stop : Stop) → Only (λ spot. IsDeep stop 0 (λ at. 0)) r → Only (λ spot. ⊥) r
    weaken None stop only = tt
    weaken (Some (spot, ts)) stop only = not_deep stop only

pub trailer_dot_refused : (room : ℕ) (before : List Token) (stop : Stop) → is_sign_next 0 before ≡ false → is_sign_next 2 before ≡ false → Refused (one_sign 8) 0 before stop → Refused trailer_part room before stop
trailer_dot_refused room before stop one two is = refused_inside trailer_part room (one_sign 8) 0 [] before stop (at_dot room before one two) is

-- ---- levels

above_none : (a b c d e : Bool) → 0 < (if a then 1 else (if b then 2 else (if c then 3 else (if d then 4 else (if e then 8 else 9)))))
above_none true b c d e = omega arith
above_none false true c d e = omega arith
above_none false false true d e = omega arith
above_none false false false true e = omega arith
above_none false false false false true = omega arith
above_none false false false false false = omega arith

word_above : (a b c d : Bool) → 1 < (if a then 4 else (if b then 5 else (if c then 6 else (if d then 7 else 9))))
word_above true b c d = omega arith
word_above false true c d = omega arith
word_above false false true d = omega arith
word_above false false false true = omega arith
word_above false false false false = omega arith

keyword_above : (n : ℕ) → 1 < keyword_level n
keyword_above n = word_above ((n == 22) || (n == 23) || (n == 26)) (n == 3) (n == 27) (n == 20)

pub above_zero : (ts : List Token) → 0 < next_level ts
above_zero [] = omega arith
above_zero (t ∷ ts) = by t.kind
  where
    by : (kind : TokenKind) → 0 < kind_level kind
    by (Keyword n) = let high = keyword_above n in omega (arith, high)
    by (Sign n) = above_none ((n == 0) || (n == 2) || (n == 8)) ((n == 12) || (n == 13) || (n == 14)) ((n == 10) || (n == 11)) ((n == 15) || (n == 16) || (n == 17) || (n == 18) || (n == 19) || (n == 20)) (n == 6)
    by (Word bytes) = omega arith
    by (Number value) = omega arith
    by (Text bytes) = omega arith

above_one : (level : ℕ) → 0 < level → (level == 1) ≡ false → 1 < level
above_one zero above other = absurd (omega (arith, above))
above_one (suc zero) above other = cc
above_one (suc (suc n)) above other = omega arith

-- ---- a primary is read

pub prim_one : (room : ℕ) (before after : List Token) (found : Part) → Found atom_part atom_tree 0 room before found after → Found prim_part prim_tree 0 room before found after
prim_one room before after found f = record { written = plain_prim f.written; before_is = f.before_is; tree_is = f.tree_is; height_is = f.height_is; deepest_is = f.deepest_is; form_is = f.form_is; fits = f.fits; beyond = f.beyond }

with_tokens : (p : Prim) (t : Trailer) → prim_tokens (with_trailer p t) ≡ prim_tokens p ++ trailer_tokens t
with_tokens p (called opening arguments closing) = refl
with_tokens p (parted opening index closing) = refl
with_tokens p (dotted dot name_at bytes) = refl

with_tree : (p : Prim) (t : Trailer) → prim_tree (with_trailer p t) ≡ trailer_tree (prim_tree p) t
with_tree p (called opening arguments closing) = refl
with_tree p (parted opening (one_index e) closing) = refl
with_tree p (parted opening (range_index low colon high) closing) = refl
with_tree p (dotted dot name_at bytes) = refl

one_more : (n : ℕ) → 1 + n ≡ suc n
one_more n = omega arith

with_depth : (p : Prim) (t : Trailer) → prim_depth (with_trailer p t) ≡ suc (max (prim_depth p) (trailer_depth t))
with_depth p (called opening arguments closing) = one_more _
with_depth p (parted opening index closing) = one_more _
with_depth p (dotted dot name_at bytes) = one_more _ ∙ max_none (prim_depth p)

with_lies : (p : Prim) (t : Trailer) (at : Pos) → prim_lies (with_trailer p t) at ≡ over (begins (prim_tokens p) at) (max (prim_lies p at) (trailer_lies t at))
with_lies p (called opening arguments closing) at = refl
with_lies p (parted opening index closing) at = refl
with_lies p (dotted dot name_at bytes) at = ap (over (begins (prim_tokens p) at)) (no_more (prim_lies p at))
  where
    no_more : (n : ℕ) → n ≡ max n 0
    no_more n = omega arith

with_deepest : (p : Prim) (t : Trailer) → prim_deepest (with_trailer p t) ≡ deeper_of (prim_depth p) (prim_deepest p) (trailer_depth t) (trailer_deepest t)
with_deepest p (called opening arguments closing) = refl
with_deepest p (parted opening index closing) = refl
with_deepest p (dotted dot name_at bytes) = sym (deeper_first (prim_depth p) 0 (prim_deepest p) nowhere (omega arith))

with_form : (p : Prim) (t : Trailer) → is_form (prim_target (with_trailer p t)) ≡ trailer_form t
with_form p (called opening arguments closing) = refl
with_form p (parted opening (one_index e) closing) = refl
with_form p (parted opening (range_index low colon high) closing) = refl
with_form p (dotted dot name_at bytes) = refl

pub prim_next : (room inner : ℕ) (before middle after : List Token) (left found : Part) → Found prim_part prim_tree 0 room before left middle → left.height < room → inner < room → FoundTrailer inner middle left found after
    → Found prim_part prim_tree 0 room before found after
prim_next room inner before middle after left found l less smaller f = record {
  written = with_trailer l.written f.written;
  before_is = l.before_is ∙ ap (λ ts. prim_tokens l.written ++ ts) f.before_is ∙ sym (append_assoc (prim_tokens l.written) (trailer_tokens f.written) after) ∙ ap (λ ts. ts ++ after) (sym (with_tokens l.written f.written));
  tree_is = f.tree_is ∙ ap (λ e. trailer_tree e f.written) l.tree_is ∙ sym (with_tree l.written f.written);
  height_is = f.height_is ∙ ap (λ n. suc (max n (trailer_depth f.written))) l.height_is ∙ sym (with_depth l.written f.written);
  deepest_is = f.deepest_is
      ∙ deeper_same left.height (trailer_depth f.written) (prim_depth l.written) (trailer_depth f.written) left.deepest (trailer_deepest f.written) (prim_deepest l.written) (trailer_deepest f.written) l.height_is l.deepest_is refl refl
      ∙ sym (with_deepest l.written f.written);
  form_is = f.form_is ∙ sym (with_form l.written f.written);
  fits = let small = f.fits in fits_above room left.height (trailer_depth f.written) found.height f.height_is less (omega (arith, small, smaller));
  beyond = above_zero after;
}

pub prim_end : (room : ℕ) (before after : List Token) (found : Part) → Found prim_part prim_tree 0 room before found after → (next_level after == 1) ≡ false → Found prim_part prim_tree 1 room before found after
prim_end room before after found f other = record { written = f.written; before_is = f.before_is; tree_is = f.tree_is; height_is = f.height_is; deepest_is = f.deepest_is; form_is = f.form_is; fits = f.fits; beyond = above_one (next_level after) f.beyond other }

-- ---- a primary is refused

prim_deep : (stop : Stop) (room n : ℕ) (left : Prim) (ts : List Token) → IsDeep stop room (prim_lies left) → Only (λ p. IsDeep stop room (prim_lies p)) (prim_rest n left ts)
prim_deep stop room zero left ts deep = tt
prim_deep stop room (suc n) left [] deep = deep
prim_deep stop room (suc n) left (t ∷ ts) deep =
    only_if _ (is_sign 0 t.kind) _ _
    (only_any _ (read_items n 1 ts) _ (λ arguments more. only_any _ (read_sign 1 more) _ (λ closing rest. prim_deep stop room n (call left (spot_of t) arguments closing) rest
    (deep_left stop room (begins (prim_tokens left)) (prim_lies left) (items_lies arguments) deep))))
    (only_if _ (is_sign 2 t.kind) _ _
    (only_any _ (read_index n ts) _ (λ index more. only_any _ (read_sign 3 more) _ (λ closing rest. prim_deep stop room n (part left (spot_of t) index closing) rest
    (deep_left stop room (begins (prim_tokens left)) (prim_lies left) (index_lies index) deep))))
    (only_if _ (is_sign 8 t.kind) _ _
    (only_any _ (read_name ts) _ (λ found rest. prim_deep stop room n (attribute left (spot_of t) found.0 found.1) rest (deep_over stop room room (begins (prim_tokens left)) (prim_lies left) (omega arith) deep)))
    deep))

prim_starts : (room : ℕ) (rest : List Token) → Inside prim_part room atom_part room [] rest
prim_starts room rest = record {
  begins = λ at b. record { some = plain_prim b; more = []; tokens_are = sym (append-nil _); within = λ other apart low. low; deep = λ stop deep. deep };
  finds = λ stop more first finds. finds_first _ _ read_prim read_atom (λ n left ts. prim_rest n (plain_prim left) ts) more more (λ n. refl) (λ n b ts deep. prim_deep stop room n (plain_prim b) ts deep) finds;
}

pub prim_first : (room : ℕ) (rest : List Token) (stop : Stop) → Refused atom_part room rest stop → Refused prim_part room rest stop
prim_first room rest stop is = refused_inside prim_part room atom_part room [] rest stop (prim_starts room rest) is

-- what is read behind a primary is what goes on with it
go_on_if : {A B : Type 0} (b : Bool) (x y : Read A) (f : A → List Token → Read B) → go_on (if b then x else y) f ≡ (if b then go_on x f else go_on y f)
go_on_if true x y f = refl
go_on_if false x y f = refl

go_on_closed : {A B C : Type 0} (r : Read A) (s : List Token → Read Spot) (f : A × Spot → B) (g : B → List Token → Read C)
    → go_on (go_on (go_on r (λ a more. go_on (s more) (λ at rest. Some ((a, at), rest)))) (λ found rest. Some (f found, rest))) g ≡ go_on r (λ a more. go_on (s more) (λ at rest. g (f (a, at)) rest))
go_on_closed None s f g = refl
go_on_closed (Some (a, more)) s f g = by (s more)
  where
    by : (o : Read Spot) → go_on (go_on (go_on o (λ at rest. Some ((a, at), rest))) (λ found rest. Some (f found, rest))) g ≡ go_on o (λ at rest. g (f (a, at)) rest)
    by None = refl
    by (Some (at, rest)) = refl

pub go_on_once : {A B C : Type 0} (r : Read A) (f : A → B) (g : B → List Token → Read C) → go_on (go_on r (λ found rest. Some (f found, rest))) g ≡ go_on r (λ found rest. g (f found) rest)
go_on_once None f g = refl
go_on_once (Some (a, rest)) f g = refl

one_of_three : (a b c d e f g : Bool) → ((if a || b || c then 1 else (if d then 2 else (if e then 3 else (if f then 4 else (if g then 8 else 9))))) == 1) ≡ true → a ≡ false → b ≡ false → c ≡ false → ⊥
one_of_three true b c d e f g is one two three = cc
one_of_three false true c d e f g is one two three = cc
one_of_three false false true d e f g is one two three = cc
one_of_three false false false true e f g is one two three = cc
one_of_three false false false false true f g is one two three = cc
one_of_three false false false false false true g is one two three = cc
one_of_three false false false false false false true is one two three = cc
one_of_three false false false false false false false is one two three = cc

three_signs : (kind : TokenKind) → (kind_level kind == 1) ≡ true → is_sign 0 kind ≡ false → is_sign 2 kind ≡ false → is_sign 8 kind ≡ false → ⊥
three_signs (Sign n) is one two three = one_of_three (n == 0) (n == 2) (n == 8) ((n == 12) || (n == 13) || (n == 14)) ((n == 10) || (n == 11)) ((n == 15) || (n == 16) || (n == 17) || (n == 18) || (n == 19) || (n == 20)) (n == 6) is one two three
three_signs (Keyword n) is one two three = let high = keyword_above n in let same = eqb-true (keyword_level n) 1 is in omega (arith, high, same)
three_signs (Word bytes) is one two three = cc
three_signs (Number value) is one two three = cc
three_signs (Text bytes) is one two three = cc

rest_is : (n : ℕ) (e : Prim) (ts : List Token) → (next_level ts == 1) ≡ true → prim_rest (suc n) e ts ≡ go_on (read_trailer n ts) (λ t rest. prim_rest n (with_trailer e t) rest)
rest_is n e [] is = cc
rest_is n e (t ∷ ts) is = by (is_sign 0 t.kind) (is_sign 2 t.kind) (is_sign 8 t.kind) (λ one two three. three_signs t.kind is one two three)
  where
    by : (a b c : Bool) → (a ≡ false → b ≡ false → c ≡ false → ⊥)
        → (if a then go_on (read_items n 1 ts) (λ arguments more. go_on (read_sign 1 more) (λ closing rest. prim_rest n (call e (spot_of t) arguments closing) rest))
        else (if b then go_on (read_index n ts) (λ index more. go_on (read_sign 3 more) (λ closing rest. prim_rest n (part e (spot_of t) index closing) rest))
        else (if c then go_on (read_name ts) (λ found rest. prim_rest n (attribute e (spot_of t) found.0 found.1) rest) else Some (e, t ∷ ts))))
        ≡ go_on (if a then go_on (read_closed (λ m us. read_items m 1 us) 1 n ts) (λ found rest. Some (called (spot_of t) found.0 found.1, rest))
        else (if b then go_on (read_closed read_index 3 n ts) (λ found rest. Some (parted (spot_of t) found.0 found.1, rest))
        else (if c then go_on (read_name ts) (λ found rest. Some (dotted (spot_of t) found.0 found.1, rest)) else None))) (λ tr rest. prim_rest n (with_trailer e tr) rest)
    by true b c some = sym (go_on_closed (read_items n 1 ts) (read_sign 1) (λ found. called (spot_of t) found.0 found.1) (λ tr rest. prim_rest n (with_trailer e tr) rest))
    by false true c some = sym (go_on_closed (read_index n ts) (read_sign 3) (λ found. parted (spot_of t) found.0 found.1) (λ tr rest. prim_rest n (with_trailer e tr) rest))
    by false false true some = sym (go_on_once (read_name ts) (λ found. dotted (spot_of t) found.0 found.1) (λ tr rest. prim_rest n (with_trailer e tr) rest))
    by false false false some = absurd (some refl refl refl)

level_first : (ts us : List Token) → first_of ts ≡ first_of us → next_level ts ≡ next_level us
level_first [] [] is = refl
level_first [] (u ∷ us) is = cc
level_first (t ∷ ts) [] is = cc
level_first (t ∷ ts) (u ∷ us) is = by t u is
  where
    by : (t u : Token) → Some t ≡ Some u → kind_level t.kind ≡ kind_level u.kind
    by t u is = cc

-- what lies too deep behind a primary does so in the whole
trailer_deep : {room inner : ℕ} (stop : Stop) (left : Prim) (b : Trailer) → room ≤ suc inner → IsDeep stop inner (trailer_lies b) → IsDeep stop room (prim_lies (with_trailer left b))
trailer_deep {room} {inner} stop left b less deep = deeper stop inner (trailer_lies b) room (prim_lies (with_trailer left b)) deep
    (λ at some. let more_deep = over_right (begins (prim_tokens left) at) (prim_lies left at) (trailer_lies b at) some in let is = with_lies left b at in omega (arith, more_deep, less, is))

prim_goes_on : (room inner : ℕ) (left : Prim) (rest : List Token) → room ≤ suc inner → inner < room → prim_depth left ≤ inner → (next_level rest == 1) ≡ true → Inside prim_part room trailer_part inner (prim_tokens left) rest
prim_goes_on room inner left rest less smaller fits is = record {
  begins = λ at b. record {
    some = with_trailer left b;
    more = [];
    tokens_are = with_tokens left b ∙ sym (append-nil (prim_tokens left ++ trailer_tokens b));
    within = λ other apart low.
        let left_low = prim_low left other in
        let same = with_lies left b other in
        let whole = node_within (begins (prim_tokens left) other) (prim_lies left other) (trailer_lies b other) inner room smaller (omega (arith, left_low, fits)) low in
        omega (arith, same, whole);
    deep = λ stop deep. trailer_deep stop left b less deep;
  };
  finds = λ stop more first finds.
      finds_lead _ read_prim prim_rest 0 (prim_tokens left) left more (prim_leads left) (above_zero more)
      (finds_first _ _ (λ n ts. prim_rest n left ts) read_trailer (λ n t ts. prim_rest n (with_trailer left t) ts) more more (λ n. rest_is n left more (ap (λ l. l == 1) (level_first more rest first) ∙ is))
      (λ n b ts deep. prim_deep stop room n (with_trailer left b) ts (trailer_deep stop left b less deep))
      finds);
}

pub prim_right : (room inner : ℕ) (before middle : List Token) (left : Part) (stop : Stop) → Found prim_part prim_tree 0 room before left middle → (next_level middle == 1) ≡ true → left.height < room → room ≤ suc inner
    → inner < room → Refused trailer_part inner middle stop → Refused prim_part room before stop
prim_right room inner before middle left stop l level fits less smaller is =
    refused_same prim_part room before _ stop l.before_is (refused_inside prim_part room trailer_part inner (prim_tokens l.written) middle stop (prim_goes_on room inner l.written middle less smaller (let same = l.height_is in omega (arith, fits, less, same)) level) is)

-- what goes on with a primary at this token, and holds nothing
record EmptyTrailer (t : Token) : Type 0 where
  some : Trailer
  more : List Token
  tokens_are : trailer_tokens some ≡ t ∷ more
  empty : (at : Pos) → trailer_lies some at ≡ 0

-- a token with which a primary goes on begins what goes on with it
trailer_begins : (t : Token) → (kind_level t.kind == 1) ≡ true → EmptyTrailer t
trailer_begins t level = by (is_sign 0 t.kind) (is_sign 2 t.kind) (is_sign 8 t.kind) refl refl refl
  where
    of : (k : ℕ) (some : Trailer) (more : List Token) → is_sign k t.kind ≡ true → trailer_tokens some ≡ token (Sign k) (spot_of t) ∷ more → ((at : Pos) → trailer_lies some at ≡ 0) → EmptyTrailer t
    of k some more is spells empty = record { some = some; more = more; tokens_are = spells ∙ ap (λ u. u ∷ more) (sym (one_token t k (sign_is k t.kind is))); empty = empty }

    by : (a b c : Bool) → is_sign 0 t.kind ≡ a → is_sign 2 t.kind ≡ b → is_sign 8 t.kind ≡ c → EmptyTrailer t
    by true b c one two three = of 0 (called (spot_of t) no_items some_spot) (token (Sign 1) some_spot ∷ []) one refl (λ at. refl)
    by false true c one two three = of 2 (parted (spot_of t) (range_index no_bound some_spot no_bound) some_spot) (token (Sign 7) some_spot ∷ token (Sign 3) some_spot ∷ []) two refl (λ at. refl)
    by false false true one two three = of 8 (dotted (spot_of t) some_spot []) (word [] some_spot) three refl (λ at. refl)
    by false false false one two three = absurd (three_signs t.kind level one two three)

prim_goes : (room : ℕ) (left : Prim) (t : Token) (height : ℕ) (deepest : Pos) → EmptyTrailer t → deepest ≡ prim_deepest left → height ≡ prim_depth left → height ≤ room → room ≤ height → IsFirstDeep prim_part room (prim_tokens left ++ t ∷ []) deepest
prim_goes room left t height deepest b deepest_is height_is fits = first_full prim_part room (prim_tokens left) t (with_trailer left b.some) b.more (begins (prim_tokens left)) (prim_lies left) (trailer_lies b.some) height (prim_depth left) deepest (prim_deepest left)
    (with_tokens left b.some ∙ ap (λ ts. prim_tokens left ++ ts) b.tokens_are) (with_lies left b.some) (prim_is_first left) deepest_is height_is (prim_above left) fits (λ other apart. b.empty other)

pub prim_full : (room : ℕ) (before middle : List Token) (left : Part) (stop : Stop) → Found prim_part prim_tree 0 room before left middle → (next_level middle == 1) ≡ true → IsTooDeep left.height left.deepest room stop → Refused prim_part room before stop
prim_full room before [] left stop l level deep = cc
prim_full room before (t ∷ ts) left stop l level deep = full prim_part room before (prim_tokens l.written) t ts left.height left.deepest stop deep l.before_is (begins_whole prim_part room l.written (λ at. let low = prim_low l.written at in let is = l.height_is in let fits = l.fits in omega (arith, low, is, fits)))
    (prim_goes room l.written t left.height left.deepest (trailer_begins t level) l.deepest_is l.height_is l.fits)
    (λ more. finds_lead _ read_prim prim_rest 0 (prim_tokens l.written) l.written (t ∷ more) (prim_leads l.written) (above_zero (t ∷ more))
    (finds_at_once _ (λ n ts. prim_rest n l.written ts) (t ∷ more)
    (λ n. only_is _ _ _ (rest_is n l.written (t ∷ more) level) (only_any _ (read_trailer n (t ∷ more)) _ (λ tr rest. prim_deep (Here (TooDeep left.deepest)) left.height n (with_trailer l.written tr) rest
    (let more_deep = above_left (begins (prim_tokens l.written) left.deepest) (prim_lies l.written left.deepest) (trailer_lies tr left.deepest) left.height (prim_depth l.written) l.height_is
    (ap (prim_lies l.written) l.deepest_is ∙ (prim_is_first l.written).lies_is) (prim_above l.written) in let is = with_lies l.written tr left.deepest in omega (arith, more_deep, is)))))))
