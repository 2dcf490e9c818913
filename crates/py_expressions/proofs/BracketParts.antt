-- What stands in brackets was read, and an expression was made of it: its tree, its height and where its deepest begins.
use Rattle.std.proofs.Common.{◌≡◌, ℕ, suc, max, false, List, map, IfOk, refl, ap, ◌∙◌, arith}
use Rattle.std.specs.Prelude.{Result, Ok, Err}
use Rattle.prov_base.specs.declared.place.Pos.{Pos}
use Rattle.py_lines.specs.declared.parts.Token.{Token}
use Rattle.py_lines.specs.declared.parts.TokenKind.TheVariants.{Sign}
use Rattle.py_tree.specs.Tree.{call_expr, list_expr, dict_expr}
use Rattle.py_tree.specs.Erasure.{expr_of, exprs_list, pairs_list}
use Rattle.py_expressions.specs.declared.fault.Stop.{Stop}
use Rattle.py_expressions.specs.declared.part.Part.{Part}
use Rattle.py_expressions.specs.declared.rows.Row.{Row}
use Rattle.py_expressions.specs.declared.rows.PairRow.{PairRow}
use Rattle.py_expressions.specs.declared.rows.Index.{Index}
use Rattle.py_expressions.specs.Trees.{items_tree, pairs_tree}
use Rattle.py_expressions.specs.Depth.{items_depth, index_depth, pairs_depth}
use Rattle.py_expressions.specs.Lies.{deeper_of, items_deepest, index_deepest as written_deepest, pairs_deepest}
use Rattle.py_expressions.specs.Parsed.{Taken}
use Rattle.py_expressions.specs.ParsedRows.{items_part, index_part, pairs_part, index_form, index_tree, index_height, index_deepest, is_one, indexed, FoundItems, FoundIndex, FoundPairs, FoundClosed}
use Rattle.py_expressions.proofs.ClosedParts.{closed_of}
use Rattle.py_expressions.proofs.Deepest.{deeper_same, deeper_bracket}

pub call_closed : (r : Result Part Stop) (room : ℕ) (before middle after : List Token) (at closing : Pos) (callee : Part) (row : Row) → FoundItems 1 room at before row middle → Taken (Sign 1) middle closing after
    → IfOk r (λ part. expr_of part.expr.value ≡ call_expr at (expr_of callee.expr.value) (exprs_list (map expr_of row.list.items))) → IfOk r (λ part. part.height ≡ suc (max callee.height row.height))
    → IfOk r (λ part. part.deepest ≡ deeper_of callee.height callee.deepest row.height row.deepest) → IfOk r (λ part. part.is_target ≡ false)
    → IfOk r (λ part. FoundClosed (items_part 1) 1 (λ i. call_expr at (expr_of callee.expr.value) (items_tree i)) (λ i. suc (max callee.height (items_depth i))) (λ i. deeper_of callee.height callee.deepest (items_depth i) (items_deepest i)) (λ _. false) room before part after)
call_closed (Ok part) room before middle after at closing callee row f k tree height deepest form =
    closed_of (items_part 1) 1 (λ i. call_expr at (expr_of callee.expr.value) (items_tree i)) (λ i. suc (max callee.height (items_depth i))) (λ i. deeper_of callee.height callee.deepest (items_depth i) (items_deepest i)) (λ _. false)
    room before middle after closing part f.written f.before_is k (tree ∙ ap (call_expr at (expr_of callee.expr.value)) f.trees_are) (height ∙ ap (λ h. suc (max callee.height h)) f.height_is)
    (deepest ∙ deeper_same callee.height row.height callee.height (items_depth f.written) callee.deepest row.deepest callee.deepest _ refl refl f.height_is f.deepest_is ∙ deeper_bracket callee.height (items_depth f.written) callee.deepest (items_deepest f.written) at) form
    (let fits = f.fits in let is = f.height_is in omega (arith, fits, is))
call_closed (Err e) room before middle after at closing callee row f k tree height deepest form = tt

pub part_closed : (r : Result Part Stop) (room : ℕ) (before middle after : List Token) (at closing : Pos) (object : Part) (index : Index) → FoundIndex room before index middle → Taken (Sign 3) middle closing after
    → IfOk r (λ part. expr_of part.expr.value ≡ indexed at (expr_of object.expr.value) index) → IfOk r (λ part. part.height ≡ suc (max object.height (index_height index)))
    → IfOk r (λ part. part.deepest ≡ deeper_of object.height object.deepest (index_height index) (index_deepest at index)) → IfOk r (λ part. part.is_target ≡ is_one index)
    → IfOk r (λ part. FoundClosed index_part 3 (index_tree at (expr_of object.expr.value)) (λ i. suc (max object.height (index_depth i))) (λ i. deeper_of object.height object.deepest (index_depth i) (written_deepest i)) index_form room before part after)
part_closed (Ok part) room before middle after at closing object index f k tree height deepest form =
    closed_of index_part 3 (index_tree at (expr_of object.expr.value)) (λ i. suc (max object.height (index_depth i))) (λ i. deeper_of object.height object.deepest (index_depth i) (written_deepest i)) index_form
    room before middle after closing part f.written f.before_is k (tree ∙ f.tree_is at (expr_of object.expr.value)) (height ∙ ap (λ h. suc (max object.height h)) f.height_is)
    (deepest ∙ deeper_same object.height (index_height index) object.height (index_depth f.written) object.deepest (index_deepest at index) object.deepest _ refl refl f.height_is (f.deepest_is at)
    ∙ deeper_bracket object.height (index_depth f.written) object.deepest (written_deepest f.written) at) (form ∙ f.form_is)
    (let fits = f.fits in let is = f.height_is in omega (arith, fits, is))
part_closed (Err e) room before middle after at closing object index f k tree height deepest form = tt

pub list_closed : (room : ℕ) (before middle after : List Token) (at closing : Pos) (row : Row) (part : Part) → FoundItems 3 room at before row middle → Taken (Sign 3) middle closing after
    → expr_of part.expr.value ≡ list_expr at (exprs_list (map expr_of row.list.items)) → part.height ≡ suc row.height → part.deepest ≡ row.deepest → part.is_target ≡ false
    → FoundClosed (items_part 3) 3 (λ i. list_expr at (items_tree i)) (λ i. suc (items_depth i)) (λ i. deeper_of 0 at (items_depth i) (items_deepest i)) (λ _. false) room before part after
list_closed room before middle after at closing row part f k tree height deepest form =
    closed_of (items_part 3) 3 (λ i. list_expr at (items_tree i)) (λ i. suc (items_depth i)) (λ i. deeper_of 0 at (items_depth i) (items_deepest i)) (λ _. false)
    room before middle after closing part f.written f.before_is k (tree ∙ ap (list_expr at) f.trees_are) (height ∙ ap suc f.height_is)
    (deepest ∙ f.deepest_is) form
    (let fits = f.fits in let is = f.height_is in omega (arith, fits, is))

pub dict_closed : (room : ℕ) (before middle after : List Token) (at closing : Pos) (row : PairRow) (part : Part) → FoundPairs room at before row middle → Taken (Sign 5) middle closing after
    → expr_of part.expr.value ≡ dict_expr at (pairs_list (map (λ p. (expr_of p.0, expr_of p.1)) row.list.items)) → part.height ≡ suc row.height → part.deepest ≡ row.deepest → part.is_target ≡ false
    → FoundClosed pairs_part 5 (λ p. dict_expr at (pairs_tree p)) (λ p. suc (pairs_depth p)) (λ p. deeper_of 0 at (pairs_depth p) (pairs_deepest p)) (λ _. false) room before part after
dict_closed room before middle after at closing row part f k tree height deepest form =
    closed_of pairs_part 5 (λ p. dict_expr at (pairs_tree p)) (λ p. suc (pairs_depth p)) (λ p. deeper_of 0 at (pairs_depth p) (pairs_deepest p)) (λ _. false)
    room before middle after closing part f.written f.before_is k (tree ∙ ap (dict_expr at) f.trees_are) (height ∙ ap suc f.height_is)
    (deepest ∙ f.deepest_is) form
    (let fits = f.fits in let is = f.height_is in omega (arith, fits, is))
