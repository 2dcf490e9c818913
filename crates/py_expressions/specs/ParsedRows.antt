-- What the parser's functions answer of what stands in brackets. No public clause speaks of it.
use Rattle.std.specs.Prelude.{◌≡◌, ⊤, ℕ, ◌+◌, ◌<◌, ◌≤◌, suc, max, Bool, true, false, List, [], ◌∷◌, ◌++◌, map, Option, Some, None, option_map, is_some, if◌then◌else◌, ◌==◌, pos, negsuc}
use Rattle.prov_base.specs.declared.place.Pos.{Pos}
use Rattle.py_lines.specs.declared.parts.Token.{Token}
use Rattle.py_lines.specs.declared.parts.TokenKind.{TokenKind}
use Rattle.py_lines.specs.declared.parts.TokenKind.TheVariants.{Word, Keyword, Number, Text, Sign}
use Rattle.py_tree.specs.Tree.{ExprTree, MaybeTree, call_expr, attr_expr, part_expr, range_expr, tuple_expr, end_exprs}
use Rattle.py_tree.specs.Erasure.{expr_of, exprs_list, pairs_list, maybe_tree}
use Rattle.py_expressions.specs.declared.part.Part.{Part}
use Rattle.py_expressions.specs.declared.rows.Row.{Row}
use Rattle.py_expressions.specs.declared.rows.PairRow.{PairRow}
use Rattle.py_expressions.specs.declared.rows.Index.{Index as IndexRead}
use Rattle.py_expressions.specs.declared.rows.Index.TheVariants.{One, Slice}
use Rattle.py_expressions.specs.Concrete.{Spot, Prim, plain_prim, call, part, attribute, Atom, name, number, text, none, true_word, false_word, Index, one_index, range_index, Bound, Exprs, one_expr, several, Rest, end_rest, last_rest, more_rest, Items, no_items, items, Pairs}
use Rattle.py_expressions.specs.Tokens.{token, sign, word, rest_tokens, items_tokens, index_tokens, bound_tokens, pairs_tokens}
use Rattle.py_expressions.specs.Trees.{atom_tree, expr_tree, exprs_tree, items_tree, bound_tree, pairs_tree}
use Rattle.py_expressions.specs.Depth.{exprs_depth, rest_depth, items_depth, index_depth, bound_depth, pairs_depth}
use Rattle.py_expressions.specs.Lies.{nowhere, deeper_of, exprs_lies, rest_lies, items_lies, index_lies, bound_lies, pairs_lies, exprs_deepest, rest_deepest, items_deepest, index_deepest as written_deepest, bound_deepest, pairs_deepest}
use Rattle.py_expressions.specs.Reader.{Read, go_on, spot_of, is_sign, next_level, starts, read_sign, read_name, read_items, read_index, read_bound, read_rest, read_pairs}
use Rattle.py_expressions.specs.Targets.{prim_target, rest_target}
use Rattle.py_expressions.specs.Parsed.{Production, is_form, FoundRow, rest_ends_open}

abbrev pub first_token : List Token → Option Token
first_token [] = None
first_token (t ∷ ts) = Some t

-- with enough steps this is read, whatever stands behind the next token
pub record IsRead {A : Type 0} (p : Production A) (a : A) (rest : List Token) : Type 0 where
  pub steps : ℕ
  pub reads : (n : ℕ) (more : List Token) → first_token more ≡ first_token rest → p.read (n + steps) (p.tokens a ++ more) ≡ Some (a, more)

-- ---- the parts

abbrev pub items_part : ℕ → Production Items
items_part closing = record { tokens = items_tokens; depth = items_depth; lies = items_lies; deepest = items_deepest; form = λ _. false; read = λ n ts. read_items n closing ts }

-- what round brackets group: a tuple is one deeper than its items
abbrev pub group_depth : Items → ℕ
group_depth no_items = 0
group_depth (items e) = exprs_depth e

abbrev pub group_lies : Items → Pos → ℕ
group_lies no_items at = 0
group_lies (items e) at = exprs_lies e at

-- the first of the deepest in round brackets that open here
abbrev pub group_deepest : Pos → Items → Pos
group_deepest at no_items = at
group_deepest at (items e) = exprs_deepest e

abbrev pub group_part : Production Items
group_part = record { tokens = items_tokens; depth = group_depth; lies = group_lies; deepest = items_deepest; form = λ _. false; read = λ n ts. read_items n 1 ts }

abbrev pub rest_part : Production Rest
rest_part = record { tokens = rest_tokens; depth = rest_depth; lies = rest_lies; deepest = rest_deepest; form = λ r. is_some (rest_target r); read = read_rest }

abbrev pub index_form : Index → Bool
index_form (one_index e) = true
index_form (range_index low colon high) = false

abbrev pub index_part : Production Index
index_part = record { tokens = index_tokens; depth = index_depth; lies = index_lies; deepest = written_deepest; form = index_form; read = read_index }

abbrev pub bound_part : Production Bound
bound_part = record { tokens = bound_tokens; depth = bound_depth; lies = bound_lies; deepest = bound_deepest; form = λ _. false; read = read_bound }

abbrev pub pairs_part : Production Pairs
pairs_part = record { tokens = pairs_tokens; depth = pairs_depth; lies = pairs_lies; deepest = pairs_deepest; form = λ _. false; read = read_pairs }

-- a part with a closing sign behind it
abbrev pub read_closed : {A : Type 0} → (ℕ → List Token → Read A) → ℕ → ℕ → List Token → Read (A × Spot)
read_closed read closing n ts = go_on (read n ts) (λ a more. go_on (read_sign closing more) (λ at rest. Some ((a, at), rest)))

abbrev pub closed : {A : Type 0} → Production A → ℕ → Production (A × Spot)
closed p closing = record { tokens = λ w. p.tokens w.0 ++ token (Sign closing) w.1 ∷ []; depth = λ w. p.depth w.0; lies = λ w. p.lies w.0; deepest = λ w. p.deepest w.0; form = λ _. false; read = read_closed p.read closing }

-- ---- what follows a primary

pub data Trailer : Type 0 where
  called : (opening : Spot) → Items → (closing : Spot) → Trailer
  parted : (opening : Spot) → Index → (closing : Spot) → Trailer
  dotted : (dot name_at : Spot) → List ℕ → Trailer

abbrev pub with_trailer : Prim → Trailer → Prim
with_trailer p (called opening arguments closing) = call p opening arguments closing
with_trailer p (parted opening index closing) = part p opening index closing
with_trailer p (dotted dot name_at bytes) = attribute p dot name_at bytes

abbrev pub trailer_tokens : Trailer → List Token
trailer_tokens (called opening arguments closing) = token (Sign 0) opening ∷ items_tokens arguments ++ token (Sign 1) closing ∷ []
trailer_tokens (parted opening index closing) = token (Sign 2) opening ∷ index_tokens index ++ token (Sign 3) closing ∷ []
trailer_tokens (dotted dot name_at bytes) = token (Sign 8) dot ∷ word bytes name_at

abbrev pub trailer_depth : Trailer → ℕ
trailer_depth (called opening arguments closing) = items_depth arguments
trailer_depth (parted opening index closing) = index_depth index
trailer_depth (dotted dot name_at bytes) = 0

abbrev pub trailer_lies : Trailer → Pos → ℕ
trailer_lies (called opening arguments closing) at = items_lies arguments at
trailer_lies (parted opening index closing) at = index_lies index at
trailer_lies (dotted dot name_at bytes) at = 0

abbrev pub trailer_deepest : Trailer → Pos
trailer_deepest (called opening arguments closing) = items_deepest arguments
trailer_deepest (parted opening index closing) = written_deepest index
trailer_deepest (dotted dot name_at bytes) = nowhere

abbrev pub trailer_form : Trailer → Bool
trailer_form (called opening arguments closing) = false
trailer_form (parted opening index closing) = index_form index
trailer_form (dotted dot name_at bytes) = true

-- the tree of an expression with an index behind it
abbrev pub index_tree : Pos → ExprTree → Index → ExprTree
index_tree at e (one_index index) = part_expr at e (exprs_tree index)
index_tree at e (range_index low colon high) = range_expr at e (bound_tree low) (bound_tree high)

abbrev pub trailer_tree : ExprTree → Trailer → ExprTree
trailer_tree e (called opening arguments closing) = call_expr opening.at e (items_tree arguments)
trailer_tree e (parted opening index closing) = index_tree opening.at e index
trailer_tree e (dotted dot name_at bytes) = attr_expr dot.at e bytes

abbrev pub read_trailer : ℕ → List Token → Read Trailer
read_trailer n [] = None
read_trailer n (t ∷ ts) =
    if is_sign 0 t.kind then go_on (read_closed (λ m us. read_items m 1 us) 1 n ts) (λ found rest. Some (called (spot_of t) found.0 found.1, rest))
    else (if is_sign 2 t.kind then go_on (read_closed read_index 3 n ts) (λ found rest. Some (parted (spot_of t) found.0 found.1, rest))
    else (if is_sign 8 t.kind then go_on (read_name ts) (λ found rest. Some (dotted (spot_of t) found.0 found.1, rest))
    else None))

abbrev pub trailer_part : Production Trailer
trailer_part = record { tokens = trailer_tokens; depth = trailer_depth; lies = trailer_lies; deepest = trailer_deepest; form = trailer_form; read = read_trailer }

-- ---- what is answered

-- the atom that a token is alone
abbrev pub leaf_kind : TokenKind → Spot → Option Atom
leaf_kind (Word bytes) spot = Some (name spot bytes)
leaf_kind (Number (pos value)) spot = Some (number spot value)
leaf_kind (Number (negsuc value)) spot = None
leaf_kind (Text bytes) spot = Some (text spot bytes)
leaf_kind (Keyword word) spot = if word == 1 then Some (none spot) else (if word == 2 then Some (true_word spot) else (if word == 0 then Some (false_word spot) else None))
leaf_kind (Sign sign) spot = None

abbrev pub leaf_atom : Token → Option Atom
leaf_atom t = leaf_kind t.kind (spot_of t)

pub record LeafIs (at : Pos) (a : Atom) (part : Part) : Type 0 where
  pub tree_is : expr_of part.expr.value ≡ atom_tree a
  pub height_is : part.height ≡ 1
  pub deepest_is : part.deepest ≡ at
  pub form_is : part.is_target ≡ is_form (prim_target (plain_prim a))

abbrev pub IsLeaf : Pos → Option Atom → Option Part → Type 0
IsLeaf at None None = ⊤
IsLeaf at (Some a) (Some found) = LeafIs at a found
IsLeaf at None (Some found) = ⊥
IsLeaf at (Some a) None = ⊥

-- expressions in a row, and whether a comma stands among them
abbrev pub has_comma : Exprs → Bool
has_comma (one_expr e) = false
has_comma (several e comma rest) = true

pub record FoundList (room : ℕ) (before : List Token) (part : Part) (comma : Bool) (after : List Token) : Type 0 where
  pub row : FoundRow room before part after
  pub comma_is : has_comma row.written ≡ comma

abbrev pub rest_trees : Rest → List ExprTree
rest_trees end_rest = []
rest_trees (last_rest e) = expr_tree e ∷ []
rest_trees (more_rest e comma rest) = expr_tree e ∷ rest_trees rest

-- what stands behind a comma was added to a row
pub record FoundRest (room : ℕ) (before : List Token) (old row : Row) (after : List Token) : Type 0 where
  pub written : Rest
  pub before_is : before ≡ rest_tokens written ++ after
  pub trees_are : map expr_of row.list.items ≡ map expr_of old.list.items ++ rest_trees written
  pub height_is : row.height ≡ max old.height (rest_depth written)
  pub deepest_is : row.deepest ≡ deeper_of old.height old.deepest (rest_depth written) (rest_deepest written)
  pub form_is : row.is_target ≡ (if old.is_target then is_some (rest_target written) else false)
  pub fits : row.height ≤ room
  pub beyond : rest_ends_open written ≡ false → 8 < next_level after
  pub no_more : rest_ends_open written ≡ true → starts after ≡ 0

pub record FoundItems (closing room : ℕ) (at : Pos) (before : List Token) (row : Row) (after : List Token) : Type 0 where
  pub written : Items
  pub before_is : before ≡ items_tokens written ++ after
  pub trees_are : exprs_list (map expr_of row.list.items) ≡ items_tree written
  pub height_is : row.height ≡ items_depth written
  pub deepest_is : row.deepest ≡ deeper_of 0 at (items_depth written) (items_deepest written)
  pub fits : row.height ≤ room
  pub is_read : IsRead (items_part closing) written after

pub record FoundPairs (room : ℕ) (at : Pos) (before : List Token) (row : PairRow) (after : List Token) : Type 0 where
  pub written : Pairs
  pub before_is : before ≡ pairs_tokens written ++ after
  pub trees_are : pairs_list (map (λ p. (expr_of p.0, expr_of p.1)) row.list.items) ≡ pairs_tree written
  pub height_is : row.height ≡ pairs_depth written
  pub deepest_is : row.deepest ≡ deeper_of 0 at (pairs_depth written) (pairs_deepest written)
  pub fits : row.height ≤ room
  pub is_read : IsRead pairs_part written after

abbrev pub limit_tree : Option Part → MaybeTree
limit_tree limit = maybe_tree (option_map (λ p. expr_of p.expr.value) limit)

abbrev pub limit_height : Option Part → ℕ
limit_height None = 0
limit_height (Some p) = p.height

-- where the deepest of it begins, and where there is none this place
abbrev pub limit_deepest : Pos → Option Part → Pos
limit_deepest at None = at
limit_deepest at (Some p) = p.deepest

pub record FoundBound (room : ℕ) (before : List Token) (limit : Option Part) (after : List Token) : Type 0 where
  pub written : Bound
  pub before_is : before ≡ bound_tokens written ++ after
  pub tree_is : limit_tree limit ≡ bound_tree written
  pub height_is : limit_height limit ≡ bound_depth written
  pub deepest_is : (at : Pos) → limit_deepest at limit ≡ deeper_of 0 at (bound_depth written) (bound_deepest written)
  pub fits : limit_height limit ≤ room
  pub is_read : IsRead bound_part written after

-- the tree of an expression with this behind it, its height, and whether it is of a target's form
abbrev pub indexed : Pos → ExprTree → IndexRead → ExprTree
indexed at e (One p) = part_expr at e (expr_of p.expr.value)
indexed at e (Slice low high) = range_expr at e (limit_tree low) (limit_tree high)

abbrev pub index_height : IndexRead → ℕ
index_height (One p) = p.height
index_height (Slice low high) = max (limit_height low) (limit_height high)

abbrev pub index_deepest : Pos → IndexRead → Pos
index_deepest at (One p) = p.deepest
index_deepest at (Slice low high) = deeper_of (limit_height low) (limit_deepest at low) (limit_height high) (limit_deepest at high)

abbrev pub is_one : IndexRead → Bool
is_one (One p) = true
is_one (Slice low high) = false

pub record FoundIndex (room : ℕ) (before : List Token) (index : IndexRead) (after : List Token) : Type 0 where
  pub written : Index
  pub before_is : before ≡ index_tokens written ++ after
  pub tree_is : (at : Pos) (e : ExprTree) → indexed at e index ≡ index_tree at e written
  pub height_is : index_height index ≡ index_depth written
  pub deepest_is : (at : Pos) → index_deepest at index ≡ deeper_of 0 at (index_depth written) (written_deepest written)
  pub form_is : is_one index ≡ index_form written
  pub fits : index_height index ≤ room
  pub is_read : IsRead index_part written after

-- what stands in brackets was read with the closing one, and an expression was made of it
pub record FoundClosed {A : Type 0} (p : Production A) (closing : ℕ) (tree : A → ExprTree) (height : A → ℕ) (deepest : A → Pos) (form : A → Bool) (room : ℕ) (before : List Token) (part : Part) (after : List Token) : Type 0 where
  pub written : A
  pub spot : Spot
  pub before_is : before ≡ p.tokens written ++ token (Sign closing) spot ∷ after
  pub tree_is : expr_of part.expr.value ≡ tree written
  pub height_is : part.height ≡ height written
  pub deepest_is : part.deepest ≡ deepest written
  pub form_is : part.is_target ≡ form written
  pub fits : p.depth written ≤ room

-- the tree of what round brackets group, which open here
abbrev pub group_tree : Pos → Items → ExprTree
group_tree at no_items = tuple_expr at end_exprs
group_tree at (items e) = exprs_tree e

-- what follows a primary was read, and an expression was made of both
pub record FoundTrailer (room : ℕ) (before : List Token) (left part : Part) (after : List Token) : Type 0 where
  pub written : Trailer
  pub before_is : before ≡ trailer_tokens written ++ after
  pub tree_is : expr_of part.expr.value ≡ trailer_tree (expr_of left.expr.value) written
  pub height_is : part.height ≡ suc (max left.height (trailer_depth written))
  pub deepest_is : part.deepest ≡ deeper_of left.height left.deepest (trailer_depth written) (trailer_deepest written)
  pub form_is : part.is_target ≡ trailer_form written
  pub fits : trailer_depth written ≤ room
