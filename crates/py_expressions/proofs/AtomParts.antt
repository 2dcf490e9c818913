-- Atoms: what is read of them, and how they are refused.
use Rattle.std.proofs.Common.{◌≡◌, ℕ, zero, suc, ◌+◌, ◌≤◌, ◌<◌, Bool, true, false, List, [], ◌∷◌, ◌++◌, Option, Some, None, refl, ap, sym, ◌∙◌, arith, subst, append_assoc, if◌then◌else◌}
use Rattle.std.specs.Prelude.{◌==◌, pos, negsuc}
use Rattle.std.proofs.lemmas.Bool.{eqb-true}
use Rattle.std.proofs.lemmas.List.{append-nil}
use Rattle.prov_base.specs.declared.place.Pos.{Pos}
use Rattle.py_lines.specs.declared.parts.Token.{Token}
use Rattle.py_lines.specs.declared.parts.TokenKind.{TokenKind}
use Rattle.py_lines.specs.declared.parts.TokenKind.TheVariants.{Word, Keyword, Number, Text, Sign}
use Rattle.py_tree.specs.Tree.{tuple_expr, list_expr, dict_expr, end_exprs}
use Rattle.py_tree.specs.Erasure.{expr_of}
use Rattle.py_expressions.specs.declared.fault.Stop.{Stop}
use Rattle.py_expressions.specs.declared.part.Part.{Part}
use Rattle.py_expressions.specs.Concrete.{Spot, plain_prim, Atom, name, none, true_word, false_word, list, dict, Items, no_items, items, no_pairs}
use Rattle.py_expressions.specs.Tokens.{token, word, atom_tokens, exprs_tokens, items_tokens, pairs_tokens}
use Rattle.py_expressions.specs.Trees.{atom_tree, items_tree, pairs_tree}
use Rattle.py_expressions.specs.Depth.{atom_depth, exprs_depth, items_depth, pairs_depth}
use Rattle.py_expressions.specs.Lies.{is_place, over, deeper_of, atom_lies, exprs_lies, items_lies, pairs_lies, atom_deepest, items_deepest, pairs_deepest}
use Rattle.py_expressions.proofs.Lying.{exprs_low, is_here, over_here}
use Rattle.py_expressions.specs.Reader.{Read, go_on, spot_of, is_sign, grouped, read_sign, read_items, read_pairs, read_atom, atom_of}
use Rattle.py_expressions.specs.Targets.{prim_target}
use Rattle.py_expressions.specs.Parsed.{Production, atom_part, exprs_part, is_form, Taken, Found, FoundRow, IsDeep, Only, Finds, BeginsWithin, Refused, IsTooDeep, IsAtFirst, one_sign, is_sign_next}
use Rattle.py_expressions.specs.ParsedRows.{closed, read_closed, items_part, group_part, group_depth, group_lies, group_deepest, group_tree, pairs_part, leaf_kind, leaf_atom, IsLeaf, FoundClosed}
use Rattle.py_expressions.proofs.Refusals.{only_any, only_if, Inside, alone_elsewhere, begins_new, over_within, first_of, only_go_on, only_is, finds_at_once, deep_same, deep_over, refused_inside, refused_same, first_here, full}
use Rattle.py_expressions.proofs.ClosedParts.{closed_first, closed_last, closed_of, closed_once, refused_at_first}
use Rattle.py_expressions.proofs.PrimParts.{above_zero}
use Rattle.py_expressions.proofs.Stops.{some_spot, spot_at}
use Rattle.py_expressions.proofs.RowParts.{sign_first, more_steps}
use Rattle.py_expressions.proofs.ItemParts.{items_finds, items_is_read}
use Rattle.py_expressions.proofs.SharpReads.{exprs_is_read}

-- ---- an atom of one token

leaf_read : Option Atom → List Token → Read Atom
leaf_read None ts = None
leaf_read (Some a) ts = Some (a, ts)

leaf_word : (a b c : Bool) (x y z : Atom) (ts : List Token)
    → (if a then Some (x, ts) else (if b then Some (y, ts) else (if c then Some (z, ts) else None))) ≡ leaf_read (if a then Some x else (if b then Some y else (if c then Some z else None))) ts
unfolding leaf_read
leaf_word true b c x y z ts = refl
leaf_word false true c x y z ts = refl
leaf_word false false true x y z ts = refl
leaf_word false false false x y z ts = refl

leaf_sign : (a b c : Bool) (x y z : Read Atom) → a ≡ false → b ≡ false → c ≡ false → (if a then x else (if b then y else (if c then z else None))) ≡ None
leaf_sign false false false x y z one two three = refl
leaf_sign true b c x y z one two three = cc
leaf_sign false true c x y z one two three = cc
leaf_sign false false true x y z one two three = cc

leaf_is : (n : ℕ) (kind : TokenKind) (t : Token) (ts : List Token) → is_sign 0 kind ≡ false → is_sign 2 kind ≡ false → is_sign 4 kind ≡ false → atom_of (suc n) kind t ts ≡ leaf_read (leaf_kind kind (spot_of t)) ts
unfolding leaf_read
leaf_is n (Word bytes) t ts one two three = refl
leaf_is n (Number (pos value)) t ts one two three = refl
leaf_is n (Number (negsuc value)) t ts one two three = refl
leaf_is n (Text bytes) t ts one two three = refl
leaf_is n (Keyword k) t ts one two three = leaf_word (k == 1) (k == 2) (k == 0) (none (spot_of t)) (true_word (spot_of t)) (false_word (spot_of t)) ts
leaf_is n (Sign k) t ts one two three = leaf_sign (k == 0) (k == 2) (k == 4) _ _ _ one two three

-- what is said of the atom that a token is, if it is one
abbrev Leaf : TokenKind → Spot → Option Atom → Type 0
Leaf kind spot None = Unit {0}
Leaf kind spot (Some a) = (atom_tokens a ≡ token kind spot ∷ []) × (atom_depth a ≡ 1) × (atom_deepest a ≡ spot.at) × ((at : Pos) → atom_lies a at ≡ over (is_place spot.at at) 0)

leaf_all : (kind : TokenKind) (spot : Spot) → Leaf kind spot (leaf_kind kind spot)
leaf_all (Word bytes) spot = (refl, refl, refl, λ at. refl)
leaf_all (Number (pos value)) spot = (refl, refl, refl, λ at. refl)
leaf_all (Number (negsuc value)) spot = tt
leaf_all (Text bytes) spot = (refl, refl, refl, λ at. refl)
leaf_all (Sign k) spot = tt
leaf_all (Keyword k) spot = by (k == 1) (k == 2) (k == 0) refl refl refl
  where
    by : (a b c : Bool) → (k == 1) ≡ a → (k == 2) ≡ b → (k == 0) ≡ c → Leaf (Keyword k) spot (if a then Some (none spot) else (if b then Some (true_word spot) else (if c then Some (false_word spot) else None)))
    by true b c one two three = (ap (λ n. token (Keyword n) spot ∷ []) (sym (eqb-true k 1 one)), refl, refl, λ at. refl)
    by false true c one two three = (ap (λ n. token (Keyword n) spot ∷ []) (sym (eqb-true k 2 two)), refl, refl, λ at. refl)
    by false false true one two three = (ap (λ n. token (Keyword n) spot ∷ []) (sym (eqb-true k 0 three)), refl, refl, λ at. refl)
    by false false false one two three = tt

pub leaf_found : (room : ℕ) (t : Token) (ts : List Token) (part : Part) → IsLeaf t.at (leaf_atom t) (Some part) → 0 < room → Found atom_part atom_tree 0 room (t ∷ ts) part ts
leaf_found room t ts part is fits = by (leaf_atom t) (leaf_all t.kind (spot_of t)) is
  where
    by : (o : Option Atom) → Leaf t.kind (spot_of t) o → IsLeaf t.at o (Some part) → Found atom_part atom_tree 0 room (t ∷ ts) part ts
    by None leaf is = absurd is
    by (Some a) leaf is = record {
      written = a;
      before_is = ap (λ us. us ++ ts) (sym leaf.0);
      tree_is = is.tree_is;
      height_is = is.height_is ∙ sym leaf.1;
      deepest_is = is.deepest_is ∙ sym leaf.2;
      form_is = is.form_is;
      fits = let one = is.height_is in omega (arith, one, fits);
      beyond = above_zero ts;
    }

no_leaf : (t : Token) → IsLeaf t.at (leaf_atom t) None → leaf_atom t ≡ None
no_leaf t is = by (leaf_atom t) is
  where
    by : (o : Option Atom) → IsLeaf t.at o None → o ≡ None
    by None is = refl
    by (Some a) is = absurd is

atom_begins : (room : ℕ) → BeginsWithin atom_part room []
atom_begins room = begins_new atom_part room (λ at. name (spot_at at) []) (λ at other apart. alone_elsewhere at other apart)

nothing_finds : (t : Token) (ts more : List Token) → is_sign 0 t.kind ≡ false → is_sign 2 t.kind ≡ false → is_sign 4 t.kind ≡ false → IsLeaf t.at (leaf_atom t) None → first_of more ≡ Some t → Finds (λ a. ⊥) read_atom more
unfolding leaf_read
nothing_finds t ts [] one two three other first = cc
nothing_finds t ts (u ∷ more) one two three other first = subst (λ v. Finds (λ a. ⊥) read_atom (v ∷ more)) (by t u first) (record {
  steps = 2;
  only = λ n. only_is _ _ _ (more_steps (λ m. read_atom m (t ∷ more)) (n + 2) (suc (suc n)) (omega arith) ∙ leaf_is n t.kind t more one two three ∙ ap (λ o. leaf_read o more) (no_leaf t other)) tt;
})
  where
    by : (t u : Token) → Some u ≡ Some t → t ≡ u
    by t u is = cc

pub leaf_refused : (room : ℕ) (t : Token) (ts : List Token) (stop : Stop) → is_sign_next 0 (t ∷ ts) ≡ false → is_sign_next 2 (t ∷ ts) ≡ false → is_sign_next 4 (t ∷ ts) ≡ false → IsLeaf t.at (leaf_atom t) None → IsAtFirst (t ∷ ts) stop
    → Refused atom_part room (t ∷ ts) stop
leaf_refused room t ts stop one two three other is = refused_at_first atom_part room (t ∷ ts) stop (atom_begins room) (λ more first. nothing_finds t ts more one two three other first) is

pub no_token : (room : ℕ) (stop : Stop) → IsAtFirst [] stop → Refused atom_part room [] stop
no_token room stop is = refused_at_first atom_part room [] stop (atom_begins room) (λ more first. by more first) is
  where
    by : (more : List Token) → first_of more ≡ first_of [] → Finds (λ a. ⊥) read_atom more
    by [] first = finds_at_once _ read_atom [] (λ n. tt)
    by (t ∷ ts) first = cc

-- ---- an atom that lies too deep

some_here : (spot : Spot) (at : Pos) (n : ℕ) → spot.at ≡ at → 0 < over (is_place spot.at at) n
some_here spot at n is = let one = over_here (is_place spot.at at) n (is_here spot.at at is) in omega (arith, one)

grouped_here : (spot : Spot) (at : Pos) (i : Items) (closing : Spot) → spot.at ≡ at → 0 < atom_lies (grouped spot i closing) at
grouped_here spot at no_items closing is = some_here spot at 0 is
grouped_here spot at (items e) closing is = some_here spot at (exprs_lies e at) is

-- an atom that is read here begins here
atom_here : (n : ℕ) (kind : TokenKind) (t : Token) (ts : List Token) (at : Pos) → t.at ≡ at → Only (λ a. 0 < atom_lies a at) (atom_of n kind t ts)
atom_here zero kind t ts at is = tt
atom_here (suc n) (Word bytes) t ts at is = some_here (spot_of t) at 0 is
atom_here (suc n) (Number (pos value)) t ts at is = some_here (spot_of t) at 0 is
atom_here (suc n) (Number (negsuc value)) t ts at is = tt
atom_here (suc n) (Text bytes) t ts at is = some_here (spot_of t) at 0 is
atom_here (suc n) (Keyword word) t ts at is = only_if _ (word == 1) _ _ (some_here (spot_of t) at 0 is) (only_if _ (word == 2) _ _ (some_here (spot_of t) at 0 is) (only_if _ (word == 0) _ _ (some_here (spot_of t) at 0 is) tt))
atom_here (suc n) (Sign sign) t ts at is =
    only_if _ (sign == 0) _ _ (only_any _ (read_items n 1 ts) _ (λ found more. only_any _ (read_sign 1 more) _ (λ closing rest. grouped_here (spot_of t) at found closing is)))
    (only_if _ (sign == 2) _ _ (only_any _ (read_items n 3 ts) _ (λ found more. only_any _ (read_sign 3 more) _ (λ closing rest. some_here (spot_of t) at (items_lies found at) is)))
    (only_if _ (sign == 4) _ _ (only_any _ (read_pairs n ts) _ (λ found more. only_any _ (read_sign 5 more) _ (λ closing rest. some_here (spot_of t) at (pairs_lies found at) is)))
    tt))

-- an atom that begins with this token and holds nothing
pub record EmptyAtom (t : Token) : Type 0 where
  pub some : Atom
  pub more : List Token
  pub tokens_are : atom_tokens some ≡ t ∷ more
  pub empty : (at : Pos) → atom_lies some at ≡ over (is_place t.at at) 0

atom_full : (room : ℕ) (before : List Token) (t : Token) (ts : List Token) (at : Pos) (stop : Stop) → before ≡ t ∷ ts → t.at ≡ at → EmptyAtom t → IsTooDeep 0 at room stop → Refused atom_part room before stop
atom_full room before t ts at stop is place empty deep = full atom_part room before [] t ts 0 at stop deep is (atom_begins room)
    (first_here atom_part room t empty.some empty.more at empty.tokens_are place (let one = over_here (is_place t.at at) 0 (is_here t.at at place) in let same = empty.empty at in omega (arith, one, same))
    (λ other apart. empty.empty other ∙ alone_elsewhere t.at other (λ same. apart (same ∙ place))))
    (λ more. finds_at_once _ read_atom (t ∷ more) (λ n. atom_here n t.kind t more at place))

pub leaf_full : (room : ℕ) (before : List Token) (t : Token) (ts : List Token) (found : Option Part) (part : Part) (stop : Stop) → before ≡ t ∷ ts → IsLeaf t.at (leaf_atom t) found → found ≡ Some part → IsTooDeep 0 t.at room stop → Refused atom_part room before stop
leaf_full room before t ts found part stop is leaf some_there deep = atom_full room before t ts t.at stop is refl (by (leaf_atom t) (leaf_all t.kind (spot_of t)) (subst (IsLeaf t.at (leaf_atom t)) some_there leaf)) deep
  where
    by : (o : Option Atom) → Leaf t.kind (spot_of t) o → IsLeaf t.at o (Some part) → EmptyAtom t
    by None all is = absurd is
    by (Some a) all is = record { some = a; more = []; tokens_are = all.0; empty = all.3 }

-- the signs that open an atom
pub round_opens : (spot : Spot) → EmptyAtom (token (Sign 0) spot)
round_opens spot = record { some = grouped spot no_items some_spot; more = token (Sign 1) some_spot ∷ []; tokens_are = refl; empty = λ at. refl }

pub square_opens : (spot : Spot) → EmptyAtom (token (Sign 2) spot)
square_opens spot = record { some = list spot no_items some_spot; more = token (Sign 3) some_spot ∷ []; tokens_are = refl; empty = λ at. refl }

pub curly_opens : (spot : Spot) → EmptyAtom (token (Sign 4) spot)
curly_opens spot = record { some = dict spot no_pairs some_spot; more = token (Sign 5) some_spot ∷ []; tokens_are = refl; empty = λ at. refl }

pub opening_full : (k room : ℕ) (before after : List Token) (at : Pos) (stop : Stop) → ((spot : Spot) → EmptyAtom (token (Sign k) spot)) → Taken (Sign k) before at after → IsTooDeep 0 at room stop → Refused atom_part room before stop
opening_full k room before after at stop opens taken deep = atom_full room before (token (Sign k) taken.spot) after at stop taken.before_is taken.at_is (opens taken.spot) deep

-- ---- brackets are read

grouped_tokens : (opening : Spot) (i : Items) (closing : Spot) → atom_tokens (grouped opening i closing) ≡ token (Sign 0) opening ∷ items_tokens i ++ token (Sign 1) closing ∷ []
grouped_tokens opening no_items closing = refl
grouped_tokens opening (items e) closing = refl

grouped_tree : (opening : Spot) (i : Items) (closing : Spot) → atom_tree (grouped opening i closing) ≡ group_tree opening.at i
grouped_tree opening no_items closing = refl
grouped_tree opening (items e) closing = refl

one_more : (n : ℕ) → suc n ≡ 1 + n
one_more n = omega arith

grouped_depth : (opening : Spot) (i : Items) (closing : Spot) → atom_depth (grouped opening i closing) ≡ suc (group_depth i)
grouped_depth opening no_items closing = refl
grouped_depth opening (items e) closing = sym (one_more (exprs_depth e))

grouped_lies : (opening : Spot) (i : Items) (closing : Spot) (at : Pos) → atom_lies (grouped opening i closing) at ≡ over (is_place opening.at at) (group_lies i at)
grouped_lies opening no_items closing at = refl
grouped_lies opening (items e) closing at = refl

grouped_deepest : (opening : Spot) (i : Items) (closing : Spot) → atom_deepest (grouped opening i closing) ≡ group_deepest opening.at i
grouped_deepest opening no_items closing = refl
grouped_deepest opening (items e) closing = refl

grouped_form : (opening : Spot) (i : Items) (closing : Spot) → false ≡ is_form (prim_target (plain_prim (grouped opening i closing)))
grouped_form opening no_items closing = refl
grouped_form opening (items e) closing = refl

in_brackets : (t : Token) (ts : List Token) (u : Token) (after : List Token) → t ∷ ts ++ u ∷ after ≡ (t ∷ ts ++ u ∷ []) ++ after
in_brackets t ts u after = ap (λ us. t ∷ us) (sym (append_assoc ts (u ∷ []) after))

pub atom_group : (room inner : ℕ) (before middle after : List Token) (at : Pos) (part : Part) → Taken (Sign 0) before at middle → inner < room
    → FoundClosed group_part 1 (group_tree at) (λ i. suc (group_depth i)) (group_deepest at) (λ _. false) inner middle part after → Found atom_part atom_tree 0 room before part after
atom_group room inner before middle after at part k smaller f = record {
  written = grouped k.spot f.written f.spot;
  before_is = k.before_is ∙ ap (λ ts. token (Sign 0) k.spot ∷ ts) f.before_is ∙ in_brackets (token (Sign 0) k.spot) (items_tokens f.written) (token (Sign 1) f.spot) after ∙ ap (λ ts. ts ++ after) (sym (grouped_tokens k.spot f.written f.spot));
  tree_is = f.tree_is ∙ ap (λ place. group_tree place f.written) (sym k.at_is) ∙ sym (grouped_tree k.spot f.written f.spot);
  height_is = f.height_is ∙ sym (grouped_depth k.spot f.written f.spot);
  deepest_is = f.deepest_is ∙ ap (λ place. group_deepest place f.written) (sym k.at_is) ∙ sym (grouped_deepest k.spot f.written f.spot);
  form_is = f.form_is ∙ grouped_form k.spot f.written f.spot;
  fits = let small = f.fits in let high = f.height_is in omega (arith, small, high, smaller);
  beyond = above_zero after;
}

pub atom_list : (room inner : ℕ) (before middle after : List Token) (at : Pos) (part : Part) → Taken (Sign 2) before at middle → inner < room
    → FoundClosed (items_part 3) 3 (λ i. list_expr at (items_tree i)) (λ i. suc (items_depth i)) (λ i. deeper_of 0 at (items_depth i) (items_deepest i)) (λ _. false) inner middle part after → Found atom_part atom_tree 0 room before part after
atom_list room inner before middle after at part k smaller f = record {
  written = list k.spot f.written f.spot;
  before_is = k.before_is ∙ ap (λ ts. token (Sign 2) k.spot ∷ ts) f.before_is ∙ in_brackets (token (Sign 2) k.spot) (items_tokens f.written) (token (Sign 3) f.spot) after;
  tree_is = f.tree_is ∙ ap (λ place. list_expr place (items_tree f.written)) (sym k.at_is);
  height_is = f.height_is ∙ one_more (items_depth f.written);
  deepest_is = f.deepest_is ∙ ap (λ place. deeper_of 0 place (items_depth f.written) (items_deepest f.written)) (sym k.at_is);
  form_is = f.form_is;
  fits = let small = f.fits in let high = f.height_is in omega (arith, small, high, smaller);
  beyond = above_zero after;
}

pub atom_dict : (room inner : ℕ) (before middle after : List Token) (at : Pos) (part : Part) → Taken (Sign 4) before at middle → inner < room
    → FoundClosed pairs_part 5 (λ p. dict_expr at (pairs_tree p)) (λ p. suc (pairs_depth p)) (λ p. deeper_of 0 at (pairs_depth p) (pairs_deepest p)) (λ _. false) inner middle part after → Found atom_part atom_tree 0 room before part after
atom_dict room inner before middle after at part k smaller f = record {
  written = dict k.spot f.written f.spot;
  before_is = k.before_is ∙ ap (λ ts. token (Sign 4) k.spot ∷ ts) f.before_is ∙ in_brackets (token (Sign 4) k.spot) (pairs_tokens f.written) (token (Sign 5) f.spot) after;
  tree_is = f.tree_is ∙ ap (λ place. dict_expr place (pairs_tree f.written)) (sym k.at_is);
  height_is = f.height_is ∙ one_more (pairs_depth f.written);
  deepest_is = f.deepest_is ∙ ap (λ place. deeper_of 0 place (pairs_depth f.written) (pairs_deepest f.written)) (sym k.at_is);
  form_is = f.form_is;
  fits = let small = f.fits in let high = f.height_is in omega (arith, small, high, smaller);
  beyond = above_zero after;
}

-- ---- and refused

behind_sign : (t : Token) (ts : List Token) → t ∷ ts ≡ ((t ∷ []) ++ ts) ++ []
behind_sign t ts = ap (λ us. t ∷ us) (sym (append-nil ts))

-- brackets in which something is read, and of which an atom is made
module _ {A : Type 0} (q : Production A) (opening closing : ℕ) (make : Spot → A × Spot → Atom)
    (tokens_are : (spot : Spot) (w : A × Spot) → atom_tokens (make spot w) ≡ token (Sign opening) spot ∷ q.tokens w.0 ++ token (Sign closing) w.1 ∷ [])
    (lies_is : (spot : Spot) (w : A × Spot) (at : Pos) → atom_lies (make spot w) at ≡ over (is_place spot.at at) (q.lies w.0 at))
    (reads_is : (n : ℕ) (spot : Spot) (ts : List Token) → read_atom (suc (suc n)) (token (Sign opening) spot ∷ ts) ≡ go_on (read_closed q.read closing n ts) (λ w rest. Some (make spot w, rest))) where
  -- what lies too deep in brackets does so in the whole
  held_deep : {room inner : ℕ} (stop : Stop) (spot : Spot) (w : A × Spot) → room ≤ suc inner → IsDeep stop inner (q.lies w.0) → IsDeep stop room (atom_lies (make spot w))
  held_deep {room} {inner} stop spot w less deep = deep_same stop room (λ at. over (is_place spot.at at) (q.lies w.0 at)) (atom_lies (make spot w)) (λ at. sym (lies_is spot w at)) (deep_over stop inner room (is_place spot.at) (q.lies w.0) less deep)

  in_atom : (room inner : ℕ) (spot : Spot) (rest : List Token) → room ≤ suc inner → inner < room → Inside atom_part room (closed q closing) inner (token (Sign opening) spot ∷ []) rest
  in_atom room inner spot rest less smaller = record {
    begins = λ at w. record {
      some = make spot w;
      more = [];
      tokens_are = tokens_are spot w ∙ behind_sign (token (Sign opening) spot) (q.tokens w.0 ++ token (Sign closing) w.1 ∷ []);
      within = λ other apart low. let is = lies_is spot w other in let whole = over_within (is_place spot.at other) (q.lies w.0 other) inner room smaller low in omega (arith, is, whole);
      deep = λ stop deep. held_deep stop spot w less deep;
    };
    finds = λ stop more first finds. record {
      steps = suc (suc finds.steps);
      only = λ n. only_is _ _ _ (more_steps (λ m. read_atom m (token (Sign opening) spot ∷ more)) (n + suc (suc finds.steps)) (suc (suc (n + finds.steps))) (omega arith) ∙ reads_is (n + finds.steps) spot more)
          (only_go_on (λ w. IsDeep stop inner (q.lies w.0)) _ (read_closed q.read closing (n + finds.steps) more) _ (finds.only n) (λ w rest deep. held_deep stop spot w less deep));
    };
  }

  pub atom_refused : (room inner : ℕ) (before middle : List Token) (at : Pos) (stop : Stop) → Taken (Sign opening) before at middle → room ≤ suc inner → inner < room → Refused (closed q closing) inner middle stop → Refused atom_part room before stop
  atom_refused room inner before middle at stop k less smaller is = refused_same atom_part room before _ stop k.before_is
      (refused_inside atom_part room (closed q closing) inner (token (Sign opening) k.spot ∷ []) middle stop (in_atom room inner k.spot middle less smaller) is)

pub group_refused : (room inner : ℕ) (before middle : List Token) (at : Pos) (stop : Stop) → Taken (Sign 0) before at middle → room ≤ suc inner → inner < room → Refused (closed group_part 1) inner middle stop → Refused atom_part room before stop
group_refused room inner before middle at stop k less smaller is = atom_refused group_part 0 1 (λ spot w. grouped spot w.0 w.1) (λ spot w. grouped_tokens spot w.0 w.1) (λ spot w place. grouped_lies spot w.0 w.1 place)
    (λ n spot ts. closed_once (read_items n 1 ts) (read_sign 1) (λ w. grouped spot w.0 w.1)) room inner before middle at stop k less smaller is

pub list_refused : (room inner : ℕ) (before middle : List Token) (at : Pos) (stop : Stop) → Taken (Sign 2) before at middle → room ≤ suc inner → inner < room → Refused (closed (items_part 3) 3) inner middle stop → Refused atom_part room before stop
list_refused room inner before middle at stop k less smaller is = atom_refused (items_part 3) 2 3 (λ spot w. list spot w.0 w.1) (λ spot w. refl) (λ spot w place. refl)
    (λ n spot ts. closed_once (read_items n 3 ts) (read_sign 3) (λ w. list spot w.0 w.1)) room inner before middle at stop k less smaller is

pub dict_refused : (room inner : ℕ) (before middle : List Token) (at : Pos) (stop : Stop) → Taken (Sign 4) before at middle → room ≤ suc inner → inner < room → Refused (closed pairs_part 5) inner middle stop → Refused atom_part room before stop
dict_refused room inner before middle at stop k less smaller is = atom_refused pairs_part 4 5 (λ spot w. dict spot w.0 w.1) (λ spot w. refl) (λ spot w place. refl)
    (λ n spot ts. closed_once (read_pairs n ts) (read_sign 5) (λ w. dict spot w.0 w.1)) room inner before middle at stop k less smaller is

-- ---- what round brackets group

pub group_none : (room : ℕ) (before after : List Token) (at closing : Pos) (part : Part) → Taken (Sign 1) before closing after → expr_of part.expr.value ≡ tuple_expr at end_exprs → part.height ≡ 1 → part.deepest ≡ at → part.is_target ≡ false
    → FoundClosed group_part 1 (group_tree at) (λ i. suc (group_depth i)) (group_deepest at) (λ _. false) room before part after
group_none room before after at closing part k tree height deepest form = closed_of group_part 1 (group_tree at) (λ i. suc (group_depth i)) (group_deepest at) (λ _. false) room before before after closing part no_items refl k tree height deepest form (omega arith)

pub group_some : (room : ℕ) (before middle after : List Token) (at closing : Pos) (inside part : Part) → FoundRow room before inside middle → Taken (Sign 1) middle closing after → expr_of part.expr.value ≡ expr_of inside.expr.value → part.height ≡ suc inside.height → part.deepest ≡ inside.deepest
    → part.is_target ≡ false → FoundClosed group_part 1 (group_tree at) (λ i. suc (group_depth i)) (group_deepest at) (λ _. false) room before part after
group_some room before middle after at closing inside part r k tree height deepest form = closed_of group_part 1 (group_tree at) (λ i. suc (group_depth i)) (group_deepest at) (λ _. false) room before middle after closing part (items r.written) r.before_is k
    (tree ∙ r.tree_is) (height ∙ ap suc r.height_is)
    (deepest ∙ r.deepest_is) form (let fits = r.fits in let is = r.height_is in omega (arith, fits, is))

group_inside : (room : ℕ) (rest : List Token) → is_sign_next 1 rest ≡ false → Inside group_part room exprs_part room [] rest
group_inside room rest other = record {
  begins = λ at b. record { some = items b; more = []; tokens_are = sym (append-nil (exprs_tokens b)); within = λ other apart low. low; deep = λ stop deep. deep };
  finds = λ stop more first finds. items_finds 1 _ more (sign_first 1 rest more first ∙ other) finds;
}

pub group_first : (room : ℕ) (before : List Token) (stop : Stop) → is_sign_next 1 before ≡ false → Refused exprs_part room before stop → Refused (closed group_part 1) room before stop
group_first room before stop other is = closed_first group_part 1 room before stop (refused_inside group_part room exprs_part room [] before stop (group_inside room before other) is)

pub group_last : (room : ℕ) (before middle : List Token) (inside : Part) (stop : Stop) → FoundRow room before inside middle → Refused (one_sign 1) 0 middle stop → Refused (closed group_part 1) room before stop
group_last room before middle inside stop r is = closed_last group_part 1 room (items r.written) before middle stop r.before_is
    (let read = items_is_read 1 r.written middle refl (exprs_is_read r.written middle r.beyond r.no_more) in record { steps = read.steps; reads = read.reads })
    (λ at. let low = exprs_low r.written at in let same = r.height_is in let fits = r.fits in omega (arith, low, same, fits)) is
