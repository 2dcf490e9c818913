-- What is answered by a call is answered by its caller, also where tokens were looked at before and none was taken.
use Rattle.std.proofs.Common.{◌≡◌, ℕ, suc, max, ◌≤◌, ◌<◌, ◌+◌, Bool, true, false, List, [], ◌∷◌, length, length-append, Option, Some, None, IfOk, IfErr, ap, sym, ◌∙◌, arith, subst}
use Rattle.std.specs.Prelude.{Result, Ok, Err}
use Rattle.prov_base.specs.declared.place.Pos.{Pos}
use Rattle.py_lines.specs.declared.parts.Token.{Token}
use Rattle.py_lines.specs.declared.parts.TokenKind.{TokenKind}
use Rattle.py_lines.specs.declared.parts.TokenKind.TheVariants.{Sign}
use Rattle.py_tree.specs.Tree.{call_expr, list_expr, dict_expr}
use Rattle.py_tree.specs.Erasure.{expr_of}
use Rattle.py_expressions.specs.declared.fault.Stop.{Stop}
use Rattle.py_expressions.specs.declared.part.Part.{Part}
use Rattle.py_expressions.specs.declared.rows.Row.{Row}
use Rattle.py_expressions.specs.declared.rows.PairRow.{PairRow}
use Rattle.py_expressions.specs.declared.rows.Index.{Index}
use Rattle.py_expressions.specs.declared.rows.Index.TheVariants.{One}
use Rattle.py_expressions.proofs.IndexParts.{index_one}
use Rattle.py_expressions.specs.Tokens.{expr_tokens}
use Rattle.py_expressions.specs.Trees.{expr_tree, atom_tree, items_tree, pairs_tree}
use Rattle.py_expressions.specs.Depth.{items_depth, index_depth, pairs_depth}
use Rattle.py_expressions.specs.Lies.{deeper_of, items_deepest, index_deepest as written_deepest, pairs_deepest}
use Rattle.py_expressions.specs.Reader.{start_class}
use Rattle.py_expressions.specs.Parsed.{Production, expr_part, atom_part, Taken, Found, Refused, IsAtFirst, is_sign_next, FoundRow}
use Rattle.py_expressions.specs.ParsedRows.{group_deepest, closed, items_part, group_part, rest_part, index_part, pairs_part, group_depth, group_tree, index_form, index_tree, trailer_part, leaf_atom, IsLeaf, FoundClosed, FoundTrailer, FoundRest, FoundItems, FoundList, FoundPairs, FoundIndex}
use Rattle.py_expressions.proofs.Refusals.{refused_same}
use Rattle.py_expressions.proofs.AtomParts.{leaf_found, leaf_refused, no_token, atom_group, atom_list, atom_dict, group_refused, list_refused, dict_refused}
use Rattle.py_expressions.proofs.PrimParts.{trailer_call, trailer_part_of, trailer_call_refused, trailer_part_refused}
use Rattle.py_expressions.proofs.ItemParts.{FirstOf, items_several, items_rest}

pub ok_of : {A E : Type 0} {P Q : A → Type 0} (r : Result A E) → ((a : A) → P a → Q a) → IfOk r P → IfOk r Q
ok_of (Ok a) each is = each a is
ok_of (Err e) each is = tt

pub err_of : {A E : Type 0} {P Q : E → Type 0} (r : Result A E) → ((e : E) → P e → Q e) → IfErr r P → IfErr r Q
err_of (Ok a) each is = tt
err_of (Err e) each is = each e is

pub taken_kept : (kind : TokenKind) (before old : List Token) (at : Pos) (after : List Token) → before ≡ old → Taken kind before at after → Taken kind old at after
taken_kept kind before old at after is taken = subst (λ ts. Taken kind ts at after) is taken

pub taken_twice : (kind : TokenKind) (before middle old : List Token) (at : Pos) (after : List Token) → before ≡ middle → middle ≡ old → Taken kind before at after → Taken kind old at after
taken_twice kind before middle old at after is other taken = taken_kept kind before old at after (is ∙ other) taken

pub absent_kept : (k : ℕ) (before old : List Token) → before ≡ old → is_sign_next k before ≡ false → is_sign_next k old ≡ false
absent_kept k before old is other = ap (is_sign_next k) (sym is) ∙ other

pub refused_kept : {A : Type 0} (p : Production A) (room : ℕ) (before old : List Token) (stop : Stop) → before ≡ old → Refused p room before stop → Refused p room old stop
refused_kept p room before old stop is refused = refused_same p room old before stop (sym is) refused

-- ---- an atom of one token

pub leaf_none : (room : ℕ) (before : List Token) (stop : Stop) → length before ≡ 0 → IsAtFirst before stop → Refused atom_part room before stop
leaf_none room [] stop none_there is = no_token room stop is
leaf_none room (t ∷ ts) stop none_there is = absurd (omega (arith, none_there))

pub leaf_other : (room : ℕ) (before : List Token) (t : Token) (ts : List Token) (found : Option Part) (stop : Stop) → before ≡ t ∷ ts → is_sign_next 0 before ≡ false → is_sign_next 2 before ≡ false → is_sign_next 4 before ≡ false
    → IsLeaf t.at (leaf_atom t) found → found ≡ None → IsAtFirst before stop → Refused atom_part room before stop
leaf_other room before t ts found stop is one two three leaf none_there first = refused_same atom_part room before (t ∷ ts) stop is
    (leaf_refused room t ts stop (ap (is_sign_next 0) (sym is) ∙ one) (ap (is_sign_next 2) (sym is) ∙ two) (ap (is_sign_next 4) (sym is) ∙ three) (subst (IsLeaf t.at (leaf_atom t)) none_there leaf) (subst (λ us. IsAtFirst us stop) is first))

pub leaf_taken : (room : ℕ) (before : List Token) (t : Token) (ts : List Token) (found : Option Part) (part : Part) → before ≡ t ∷ ts → IsLeaf t.at (leaf_atom t) found → found ≡ Some part → 0 < room → Found atom_part atom_tree 0 room before part ts
leaf_taken room before t ts found part is leaf some_there fits = subst (λ us. Found atom_part atom_tree 0 room us part ts) (sym is) (leaf_found room t ts part (subst (IsLeaf t.at (leaf_atom t)) some_there leaf) fits)

-- ---- an atom in brackets

pub group_ok : (r : Result Part Stop) (room inner : ℕ) (before middle after : List Token) (at : Pos) → Taken (Sign 0) before at middle → inner < room
    → IfOk r (λ part. FoundClosed group_part 1 (group_tree at) (λ i. suc (group_depth i)) (group_deepest at) (λ _. false) inner middle part after) → IfOk r (λ part. Found atom_part atom_tree 0 room before part after)
group_ok (Ok part) room inner before middle after at taken smaller is = atom_group room inner before middle after at part taken smaller is
group_ok (Err e) room inner before middle after at taken smaller is = tt

pub group_err : (r : Result Part Stop) (room inner : ℕ) (before middle : List Token) (at : Pos) → Taken (Sign 0) before at middle → room ≤ suc inner → inner < room → IfErr r (Refused (closed group_part 1) inner middle) → IfErr r (Refused atom_part room before)
group_err (Ok part) room inner before middle at taken less smaller is = tt
group_err (Err e) room inner before middle at taken less smaller is = group_refused room inner before middle at e taken less smaller is

pub list_ok : (r : Result Part Stop) (room inner : ℕ) (before middle after : List Token) (at : Pos) → Taken (Sign 2) before at middle → inner < room
    → IfOk r (λ part. FoundClosed (items_part 3) 3 (λ i. list_expr at (items_tree i)) (λ i. suc (items_depth i)) (λ i. deeper_of 0 at (items_depth i) (items_deepest i)) (λ _. false) inner middle part after) → IfOk r (λ part. Found atom_part atom_tree 0 room before part after)
list_ok (Ok part) room inner before middle after at taken smaller is = atom_list room inner before middle after at part taken smaller is
list_ok (Err e) room inner before middle after at taken smaller is = tt

pub list_err : (r : Result Part Stop) (room inner : ℕ) (before middle : List Token) (at : Pos) → Taken (Sign 2) before at middle → room ≤ suc inner → inner < room → IfErr r (Refused (closed (items_part 3) 3) inner middle) → IfErr r (Refused atom_part room before)
list_err (Ok part) room inner before middle at taken less smaller is = tt
list_err (Err e) room inner before middle at taken less smaller is = list_refused room inner before middle at e taken less smaller is

pub dict_ok : (r : Result Part Stop) (room inner : ℕ) (before middle after : List Token) (at : Pos) → Taken (Sign 4) before at middle → inner < room
    → IfOk r (λ part. FoundClosed pairs_part 5 (λ p. dict_expr at (pairs_tree p)) (λ p. suc (pairs_depth p)) (λ p. deeper_of 0 at (pairs_depth p) (pairs_deepest p)) (λ _. false) inner middle part after) → IfOk r (λ part. Found atom_part atom_tree 0 room before part after)
dict_ok (Ok part) room inner before middle after at taken smaller is = atom_dict room inner before middle after at part taken smaller is
dict_ok (Err e) room inner before middle after at taken smaller is = tt

pub dict_err : (r : Result Part Stop) (room inner : ℕ) (before middle : List Token) (at : Pos) → Taken (Sign 4) before at middle → room ≤ suc inner → inner < room → IfErr r (Refused (closed pairs_part 5) inner middle) → IfErr r (Refused atom_part room before)
dict_err (Ok part) room inner before middle at taken less smaller is = tt
dict_err (Err e) room inner before middle at taken less smaller is = dict_refused room inner before middle at e taken less smaller is

-- ---- what goes on with a primary

pub call_ok : (r : Result Part Stop) (room : ℕ) (before middle after : List Token) (at : Pos) (left : Part) → Taken (Sign 0) before at middle
    → IfOk r (λ found. FoundClosed (items_part 1) 1 (λ i. call_expr at (expr_of left.expr.value) (items_tree i)) (λ i. suc (max left.height (items_depth i))) (λ i. deeper_of left.height left.deepest (items_depth i) (items_deepest i)) (λ _. false) room middle found after) → IfOk r (λ found. FoundTrailer room before left found after)
call_ok (Ok part) room before middle after at left taken is = trailer_call room before middle after at left part taken is
call_ok (Err e) room before middle after at left taken is = tt

pub call_err : (r : Result Part Stop) (room : ℕ) (before middle : List Token) (at : Pos) → Taken (Sign 0) before at middle → IfErr r (Refused (closed (items_part 1) 1) room middle) → IfErr r (Refused trailer_part room before)
call_err (Ok part) room before middle at taken is = tt
call_err (Err e) room before middle at taken is = trailer_call_refused room before middle at e taken is

pub part_ok : (r : Result Part Stop) (room : ℕ) (before middle after : List Token) (at : Pos) (left : Part) → Taken (Sign 2) before at middle
    → IfOk r (λ found. FoundClosed index_part 3 (index_tree at (expr_of left.expr.value)) (λ i. suc (max left.height (index_depth i))) (λ i. deeper_of left.height left.deepest (index_depth i) (written_deepest i)) index_form room middle found after) → IfOk r (λ found. FoundTrailer room before left found after)
part_ok (Ok part) room before middle after at left taken is = trailer_part_of room before middle after at left part taken is
part_ok (Err e) room before middle after at left taken is = tt

pub part_err : (r : Result Part Stop) (room : ℕ) (before middle : List Token) (at : Pos) → Taken (Sign 2) before at middle → IfErr r (Refused (closed index_part 3) room middle) → IfErr r (Refused trailer_part room before)
part_err (Ok part) room before middle at taken is = tt
part_err (Err e) room before middle at taken is = trailer_part_refused room before middle at e taken is

-- ---- items behind a comma

pub items_ok : (r : Result Row Stop) (closing room : ℕ) (opening : Pos) (before middle behind after : List Token) (at : Pos) (first : Part) (row : Row) → start_class (Sign closing) ≡ 0 → Found expr_part expr_tree 7 room before first middle
    → Taken (Sign 6) middle at behind → FirstOf first row → IfOk r (λ more. FoundRest room behind row more after) → IfOk r (λ more. FoundItems closing room opening before more after)
items_ok (Ok more) closing room opening before middle behind after at first row closes f taken one is = items_several closing room opening before middle behind after at first row more closes f taken one is
items_ok (Err e) closing room opening before middle behind after at first row closes f taken one is = tt

pub items_err : (r : Result Row Stop) (closing room : ℕ) (before middle behind : List Token) (at : Pos) (first : Part) → start_class (Sign closing) ≡ 0 → Found expr_part expr_tree 7 room before first middle
    → Taken (Sign 6) middle at behind → IfErr r (Refused rest_part room behind) → IfErr r (Refused (items_part closing) room before)
items_err (Ok more) closing room before middle behind at first closes f taken is = tt
items_err (Err e) closing room before middle behind at first closes f taken is = items_rest closing room before middle behind at first e closes f taken is

-- ---- loops end: what is left grows shorter

pub row_shorter : (room : ℕ) (before middle behind : List Token) (at : Pos) (part : Part) (kind : TokenKind) → Found expr_part expr_tree 7 room before part middle → Taken kind middle at behind → length behind < length before
row_shorter room before middle behind at part kind f k =
    let one : length before ≡ length (expr_tokens f.written) + length middle = ap length f.before_is ∙ length-append (expr_tokens f.written) middle in
    let two : length middle ≡ suc (length behind) = ap length k.before_is in
    omega (arith, one, two)

pub pair_shorter : (room : ℕ) (before middle second third behind : List Token) (colon_at at : Pos) (key value : Part) → Found expr_part expr_tree 7 room before key middle → Taken (Sign 7) middle colon_at second
    → Found expr_part expr_tree 7 room second value third → Taken (Sign 6) third at behind → length behind < length before
pair_shorter room before middle second third behind colon_at at key value f c v k =
    let one = row_shorter room before middle second colon_at key (Sign 7) f c in
    let two = row_shorter room second third behind at value (Sign 6) v k in
    omega (arith, one, two)

-- ---- the tokens are those that stood there before

pub row_kept : (room : ℕ) (before old : List Token) (part : Part) (after : List Token) → before ≡ old → FoundRow room before part after → FoundRow room old part after
row_kept room before old part after is f = subst (λ ts. FoundRow room ts part after) is f

pub list_kept : (room : ℕ) (before : List Token) (part : Part) (comma : Bool) (after old : List Token) → after ≡ old → FoundList room before part comma old → FoundList room before part comma after
list_kept room before part comma after old is f = subst (λ ts. FoundList room before part comma ts) (sym is) f

pub rest_kept : (room : ℕ) (before : List Token) (first row : Row) (after old : List Token) → after ≡ old → FoundRest room before first row old → FoundRest room before first row after
rest_kept room before first row after old is f = subst (λ ts. FoundRest room before first row ts) (sym is) f

pub items_kept : (closing room : ℕ) (opening : Pos) (before : List Token) (row : Row) (after old : List Token) → after ≡ old → FoundItems closing room opening before row old → FoundItems closing room opening before row after
items_kept closing room opening before row after old is f = subst (λ ts. FoundItems closing room opening before row ts) (sym is) f

pub pairs_kept : (room : ℕ) (opening : Pos) (before : List Token) (row : PairRow) (after old : List Token) → after ≡ old → FoundPairs room opening before row old → FoundPairs room opening before row after
pairs_kept room opening before row after old is f = subst (λ ts. FoundPairs room opening before row ts) (sym is) f

pub index_kept : (room : ℕ) (before old : List Token) (index : Index) (after : List Token) → before ≡ old → FoundIndex room before index after → FoundIndex room old index after
index_kept room before old index after is f = subst (λ ts. FoundIndex room ts index after) is f

pub index_end_kept : (room : ℕ) (before : List Token) (index : Index) (after old : List Token) → after ≡ old → FoundIndex room before index old → FoundIndex room before index after
index_end_kept room before index after old is f = subst (λ ts. FoundIndex room before index ts) (sym is) f

pub index_tuple : (room : ℕ) (before after : List Token) (part : Part) (comma : Bool) → FoundList room before part comma after → comma ≡ true → FoundIndex room before (One part) after
index_tuple room before after part comma f is = index_one room before after part comma f (λ one. cc)

pub single : (room : ℕ) (before old : List Token) (part : Part) (comma : Bool) (after : List Token) → before ≡ old → FoundList room before part comma after → comma ≡ false → FoundList room old part false after
single room before old part comma after is f one = subst (λ ts. FoundList room ts part false after) is (subst (λ b. FoundList room before part b after) one f)
