-- The links of each form of expression.
use Rattle.std.proofs.Common.{◌≡◌, ℕ, List, [], ◌∷◌, ◌++◌, Option, option_map, Box, Global, refl, sym, ap, ◌∙◌}
use Rattle.std.proofs.lemmas.List.{append_assoc}
use Rattle.prov_base.specs.declared.place.Pos.{Pos}
use Rattle.py_tree.specs.declared.expr.UnOp.{UnOp}
use Rattle.py_tree.specs.declared.expr.LogicOp.{LogicOp}
use Rattle.py_tree.specs.declared.expr.BinOp.{BinOp}
use Rattle.py_tree.specs.declared.expr.CmpOp.{CmpOp}
use Rattle.py_tree.specs.declared.expr.Atom.{Atom}
use Rattle.py_tree.specs.declared.expr.Expr.{Expr}
use Rattle.py_tree.specs.declared.expr.Exprs.{Exprs}
use Rattle.py_tree.specs.declared.expr.Pairs.{Pairs}
use Rattle.py_tree.specs.declared.expr.Expr.TheOpen.{Expr-F, Attr as Attr-F}
use Rattle.py_tree.specs.declared.expr.Expr.TheVariants.{Const, Var, rolls-Attr}
use Rattle.py_tree.specs.declared.expr.Expr.TheViews.{Unary, Binary, Compare, Logic, Choose, Call, Attr, Part, Range, List as Listing, Dict, Tuple, out-Expr, roll-Expr, roll-out-Expr}
use Rattle.py_tree.specs.declared.expr.Expr.TheFolds.{fold-roll-Expr}
use Rattle.py_tree.specs.Tree.{ExprTree, ExprsTree, PairsTree, const_expr, var_expr, unary_expr, binary_expr, compare_expr, logic_expr, choose_expr, call_expr, attr_expr, part_expr, range_expr, list_expr, dict_expr, tuple_expr}
use Rattle.py_tree.specs.Erasure.{expr_of, exprs_of, pairs_of, maybe_tree, expr_step, exprs_step, pairs_step}
use Rattle.py_tree.specs.Functions.{expr_place}
use Rattle.py_tree.proofs.ExprTrees.{const_tree, var_tree, unary_tree, binary_tree, compare_tree, logic_tree, choose_tree, call_tree, attr_tree, part_tree, range_tree, list_tree, dict_tree, tuple_tree}
use Rattle.value_links.specs.declared.link.Link.{Link}
use Rattle.value_links.specs.Calls.{callee_links, inside_links}
use Rattle.value_links.specs.Links.{bound_links, call_links, each_to, expr_links, exprs_links, link, or_rather, owner_links, pairs_links, point, value_of}
use Rattle.value_links.proofs.LinkParts.{two_parts, three_parts, four_parts, five_parts, no_part}

-- what is put is what the tree has
shown : (x : Expr) (tree : ExprTree) (old new : List Link) → expr_of x ≡ tree → new ≡ old ++ expr_links tree → new ≡ old ++ expr_links (expr_of x)
shown x tree old new is put = put ∙ ap (λ (t : ExprTree). old ++ expr_links t) (sym is)

pub const_of : (x : Expr) (at : Pos) (atom : Atom) (old : List Link) → x ≡ Const at atom → old ≡ old ++ expr_links (expr_of x)
const_of x at atom old is = shown x (const_expr at atom) old old (ap expr_of is ∙ const_tree at atom) (no_part old)

pub var_of : (x : Expr) (at : Pos) (name : List ℕ) (old : List Link) → x ≡ Var at name → old ≡ old ++ expr_links (expr_of x)
var_of x at name old is = shown x (var_expr at name) old old (ap expr_of is ∙ var_tree at name) (no_part old)

pub unary_of : (x : Expr) (at : Pos) (op : UnOp) (b : Box Expr Global) (e : Expr) (old mid new : List Link) → x ≡ Unary at op b → e ≡ b.value
    → mid ≡ old ++ (link at 4 (value_of (expr_of e)) ∷ []) → new ≡ mid ++ expr_links (expr_of e) → new ≡ old ++ expr_links (expr_of x)
unary_of x at op b e old mid new is same one two =
    shown x (unary_expr at op (expr_of e)) old new (ap expr_of is ∙ unary_tree at op b ∙ ap (λ (v : Expr). unary_expr at op (expr_of v)) (sym same))
    (two_parts old (link at 4 (value_of (expr_of e)) ∷ []) (expr_links (expr_of e)) mid new one two)

pub attr_of : (x : Expr) (at : Pos) (b : Box Expr Global) (name : List ℕ) (e : Expr) (old mid new : List Link) → x ≡ Attr at b name → e ≡ b.value
    → mid ≡ old ++ (link at 4 (value_of (expr_of e)) ∷ []) → new ≡ mid ++ expr_links (expr_of e) → new ≡ old ++ expr_links (expr_of x)
attr_of x at b name e old mid new is same one two =
    shown x (attr_expr at (expr_of e) name) old new (ap expr_of is ∙ attr_tree at b name ∙ ap (λ (v : Expr). attr_expr at (expr_of v) name) (sym same))
    (two_parts old (link at 4 (value_of (expr_of e)) ∷ []) (expr_links (expr_of e)) mid new one two)

-- operators of two operands
abbrev both_to : Pos → Expr → Expr → List Link
both_to at l r = link at 4 (value_of (expr_of l)) ∷ link at 4 (value_of (expr_of r)) ∷ []

pub binary_of : (x : Expr) (at : Pos) (op : BinOp) (a b : Box Expr Global) (l r : Expr) (old m n new : List Link) → x ≡ Binary at op a b → l ≡ a.value → r ≡ b.value
    → m ≡ old ++ both_to at l r → n ≡ m ++ expr_links (expr_of l) → new ≡ n ++ expr_links (expr_of r) → new ≡ old ++ expr_links (expr_of x)
binary_of x at op a b l r old m n new is left right one two three =
    shown x (binary_expr at op (expr_of l) (expr_of r)) old new
    (ap expr_of is ∙ binary_tree at op a b ∙ ap (λ (v : Expr). binary_expr at op (expr_of v) (expr_of b.value)) (sym left) ∙ ap (λ (v : Expr). binary_expr at op (expr_of l) (expr_of v)) (sym right))
    (three_parts old (both_to at l r) (expr_links (expr_of l)) (expr_links (expr_of r)) m n new one two three)

pub compare_of : (x : Expr) (at : Pos) (op : CmpOp) (a b : Box Expr Global) (l r : Expr) (old m n new : List Link) → x ≡ Compare at op a b → l ≡ a.value → r ≡ b.value
    → m ≡ old ++ both_to at l r → n ≡ m ++ expr_links (expr_of l) → new ≡ n ++ expr_links (expr_of r) → new ≡ old ++ expr_links (expr_of x)
compare_of x at op a b l r old m n new is left right one two three =
    shown x (compare_expr at op (expr_of l) (expr_of r)) old new
    (ap expr_of is ∙ compare_tree at op a b ∙ ap (λ (v : Expr). compare_expr at op (expr_of v) (expr_of b.value)) (sym left) ∙ ap (λ (v : Expr). compare_expr at op (expr_of l) (expr_of v)) (sym right))
    (three_parts old (both_to at l r) (expr_links (expr_of l)) (expr_links (expr_of r)) m n new one two three)

pub part_of : (x : Expr) (at : Pos) (a b : Box Expr Global) (l r : Expr) (old m n new : List Link) → x ≡ Part at a b → l ≡ a.value → r ≡ b.value
    → m ≡ old ++ both_to at l r → n ≡ m ++ expr_links (expr_of l) → new ≡ n ++ expr_links (expr_of r) → new ≡ old ++ expr_links (expr_of x)
part_of x at a b l r old m n new is left right one two three =
    shown x (part_expr at (expr_of l) (expr_of r)) old new
    (ap expr_of is ∙ part_tree at a b ∙ ap (λ (v : Expr). part_expr at (expr_of v) (expr_of b.value)) (sym left) ∙ ap (λ (v : Expr). part_expr at (expr_of l) (expr_of v)) (sym right))
    (three_parts old (both_to at l r) (expr_links (expr_of l)) (expr_links (expr_of r)) m n new one two three)

-- operators that leave an operand alone
abbrev test_to : Expr → List Link
test_to t = link (expr_place (expr_of t)) 3 (value_of (expr_of t)) ∷ []

abbrev either_to : Pos → Expr → Expr → List Link
either_to at l r = or_rather at 2 (value_of (expr_of l)) (value_of (expr_of r)) ∷ or_rather at 2 (value_of (expr_of r)) (value_of (expr_of l)) ∷ []

pub logic_of : (x : Expr) (at : Pos) (op : LogicOp) (a b : Box Expr Global) (l r : Expr) (old m n o new : List Link) → x ≡ Logic at op a b → l ≡ a.value → r ≡ b.value
    → m ≡ old ++ test_to l → n ≡ m ++ either_to at l r → o ≡ n ++ expr_links (expr_of l) → new ≡ o ++ expr_links (expr_of r) → new ≡ old ++ expr_links (expr_of x)
logic_of x at op a b l r old m n o new is left right one two three four =
    shown x (logic_expr at op (expr_of l) (expr_of r)) old new
    (ap expr_of is ∙ logic_tree at op a b ∙ ap (λ (v : Expr). logic_expr at op (expr_of v) (expr_of b.value)) (sym left) ∙ ap (λ (v : Expr). logic_expr at op (expr_of l) (expr_of v)) (sym right))
    (four_parts old (test_to l) (either_to at l r) (expr_links (expr_of l)) (expr_links (expr_of r)) m n o new one two three four)

pub choose_of : (x : Expr) (at : Pos) (a b c : Box Expr Global) (t l r : Expr) (old m n o p new : List Link) → x ≡ Choose at a b c → t ≡ a.value → l ≡ b.value → r ≡ c.value
    → m ≡ old ++ test_to t → n ≡ m ++ either_to at l r → o ≡ n ++ expr_links (expr_of t) → p ≡ o ++ expr_links (expr_of l) → new ≡ p ++ expr_links (expr_of r) → new ≡ old ++ expr_links (expr_of x)
choose_of x at a b c t l r old m n o p new is tested left right one two three four five =
    shown x (choose_expr at (expr_of t) (expr_of l) (expr_of r)) old new
    (ap expr_of is ∙ choose_tree at a b c ∙ ap (λ (v : Expr). choose_expr at (expr_of v) (expr_of b.value) (expr_of c.value)) (sym tested)
    ∙ ap (λ (v : Expr). choose_expr at (expr_of t) (expr_of v) (expr_of c.value)) (sym left) ∙ ap (λ (v : Expr). choose_expr at (expr_of t) (expr_of l) (expr_of v)) (sym right))
    (five_parts old (test_to t) (either_to at l r) (expr_links (expr_of t)) (expr_links (expr_of l)) (expr_links (expr_of r)) m n o p new one two three four five)

-- slices and displays
pub range_of : (x : Expr) (at : Pos) (a : Box Expr Global) (low high : Option (Box Expr Global)) (e : Expr) (old m n o new : List Link) → x ≡ Range at a low high → e ≡ a.value
    → m ≡ old ++ (link at 4 (value_of (expr_of e)) ∷ []) → n ≡ m ++ expr_links (expr_of e) → o ≡ n ++ bound_links at (maybe_tree (option_map (λ b. expr_of b.value) low))
    → new ≡ o ++ bound_links at (maybe_tree (option_map (λ b. expr_of b.value) high)) → new ≡ old ++ expr_links (expr_of x)
range_of x at a low high e old m n o new is same one two three four =
    shown x (range_expr at (expr_of e) (maybe_tree (option_map (λ b. expr_of b.value) low)) (maybe_tree (option_map (λ b. expr_of b.value) high))) old new
    (ap expr_of is ∙ range_tree at a low high ∙ ap (λ (v : Expr). range_expr at (expr_of v) (maybe_tree (option_map (λ b. expr_of b.value) low)) (maybe_tree (option_map (λ b. expr_of b.value) high))) (sym same))
    (four_parts old (link at 4 (value_of (expr_of e)) ∷ []) (expr_links (expr_of e)) (bound_links at (maybe_tree (option_map (λ b. expr_of b.value) low)))
    (bound_links at (maybe_tree (option_map (λ b. expr_of b.value) high))) m n o new one two three four)

pub list_of : (x : Expr) (at : Pos) (items : Exprs) (old mid new : List Link) → x ≡ Listing at items → mid ≡ old ++ each_to at 4 (exprs_of items) → new ≡ mid ++ exprs_links (exprs_of items)
    → new ≡ old ++ expr_links (expr_of x)
list_of x at items old mid new is one two =
    shown x (list_expr at (exprs_of items)) old new (ap expr_of is ∙ list_tree at items) (two_parts old (each_to at 4 (exprs_of items)) (exprs_links (exprs_of items)) mid new one two)

pub tuple_of : (x : Expr) (at : Pos) (items : Exprs) (old mid new : List Link) → x ≡ Tuple at items → mid ≡ old ++ each_to at 4 (exprs_of items) → new ≡ mid ++ exprs_links (exprs_of items)
    → new ≡ old ++ expr_links (expr_of x)
tuple_of x at items old mid new is one two =
    shown x (tuple_expr at (exprs_of items)) old new (ap expr_of is ∙ tuple_tree at items) (two_parts old (each_to at 4 (exprs_of items)) (exprs_links (exprs_of items)) mid new one two)

pub dict_of : (x : Expr) (at : Pos) (pairs : Pairs) (old new : List Link) → x ≡ Dict at pairs → new ≡ old ++ pairs_links at (pairs_of pairs) → new ≡ old ++ expr_links (expr_of x)
dict_of x at pairs old new is one = shown x (dict_expr at (pairs_of pairs)) old new (ap expr_of is ∙ dict_tree at pairs) one

-- ---- calls

-- an expression that is no attribute has no attribute's tree
open_tree : (x : Expr) → ((at : Pos) (b : Box Expr Global) (name : List ℕ) → x ≡ Attr at b name → ⊥) → (o : Expr-F Expr Exprs Pairs) → x ≡ roll-Expr o
    → (dot : Pos) (e : ExprTree) (name : List ℕ) → expr_of x ≡ attr_expr dot e name → ⊥
unfolding expr_of
open_tree x other (Attr-F at b name) is dot e own tree = other at b name (is ∙ rolls-Attr at b name)
open_tree x other o is dot e own tree = cc (fold-roll-Expr ExprTree ExprsTree PairsTree expr_step exprs_step pairs_step o, tree)

not_attr : (x : Expr) → ((at : Pos) (b : Box Expr Global) (name : List ℕ) → x ≡ Attr at b name → ⊥) → (dot : Pos) (e : ExprTree) (name : List ℕ) → expr_of x ≡ attr_expr dot e name → ⊥
not_attr x other = open_tree x other (out-Expr x) (sym (roll-out-Expr x))

plain_links : (at : Pos) (arguments : ExprsTree) (t : ExprTree) → ((dot : Pos) (e : ExprTree) (name : List ℕ) → t ≡ attr_expr dot e name → ⊥) → callee_links at t arguments ≡ call_links at (value_of t) arguments
plain_links at arguments (attr_expr dot e name) other = absurd (other dot e name refl)
plain_links at arguments t other = refl

plain_inside : (t : ExprTree) → ((dot : Pos) (e : ExprTree) (name : List ℕ) → t ≡ attr_expr dot e name → ⊥) → inside_links t ≡ expr_links t
plain_inside (attr_expr dot e name) other = absurd (other dot e name refl)
plain_inside t other = refl

pub plain_callee : (at : Pos) (es : Exprs) (x : Expr) (old new : List Link) → ((at : Pos) (b : Box Expr Global) (name : List ℕ) → x ≡ Attr at b name → ⊥)
    → new ≡ old ++ call_links at (value_of (expr_of x)) (exprs_of es) → new ≡ old ++ callee_links at (expr_of x) (exprs_of es)
plain_callee at es x old new other put = put ∙ ap (λ (ls : List Link). old ++ ls) (sym (plain_links at (exprs_of es) (expr_of x) (not_attr x other)))

pub attr_callee : (at dot : Pos) (es : Exprs) (x e : Expr) (b : Box Expr Global) (name : List ℕ) (old new : List Link) → x ≡ Attr dot b name → e ≡ b.value
    → new ≡ old ++ (link dot 32 (value_of (expr_of e)) ∷ call_links at (point dot 32) (exprs_of es) ++ owner_links at (expr_of e) (exprs_of es)) → new ≡ old ++ callee_links at (expr_of x) (exprs_of es)
attr_callee at dot es x e b name old new is same put =
    put ∙ ap (λ (t : ExprTree). old ++ callee_links at t (exprs_of es)) (ap (λ (v : Expr). attr_expr dot (expr_of v) name) same ∙ sym (ap expr_of is ∙ attr_tree dot b name))

-- the links of a call are those of the call itself, those inside of what is called, and those of the arguments
whole_call : (at : Pos) (arguments : ExprsTree) (callee : ExprTree) → expr_links (call_expr at callee arguments) ≡ callee_links at callee arguments ++ (inside_links callee ++ exprs_links arguments)
whole_call at arguments (attr_expr dot e name) =
    ap (λ (ls : List Link). link dot 32 (value_of e) ∷ ls) (sym (append_assoc (call_links at (point dot 32) arguments) (owner_links at e arguments) (expr_links e ++ exprs_links arguments)))
whole_call at arguments callee = refl

call_of : (x : Expr) (at : Pos) (b : Box Expr Global) (es : Exprs) (f : Expr) (old m n new : List Link) → x ≡ Call at b es → f ≡ b.value
    → m ≡ old ++ callee_links at (expr_of f) (exprs_of es) → n ≡ m ++ inside_links (expr_of f) → new ≡ n ++ exprs_links (exprs_of es) → new ≡ old ++ expr_links (expr_of x)
call_of x at b es f old m n new is same one two three =
    shown x (call_expr at (expr_of f) (exprs_of es)) old new (ap expr_of is ∙ call_tree at b es ∙ ap (λ (v : Expr). call_expr at (expr_of v) (exprs_of es)) (sym same))
    (three_parts old (callee_links at (expr_of f) (exprs_of es)) (inside_links (expr_of f)) (exprs_links (exprs_of es)) m n new one two three
    ∙ ap (λ (ls : List Link). old ++ ls) (sym (whole_call at (exprs_of es) (expr_of f))))

pub plain_call_of : (x : Expr) (at : Pos) (b : Box Expr Global) (es : Exprs) (f : Expr) (old m n new : List Link) → x ≡ Call at b es → f ≡ b.value
    → ((at : Pos) (b : Box Expr Global) (name : List ℕ) → f ≡ Attr at b name → ⊥) → m ≡ old ++ callee_links at (expr_of f) (exprs_of es) → n ≡ m ++ expr_links (expr_of f)
    → new ≡ n ++ exprs_links (exprs_of es) → new ≡ old ++ expr_links (expr_of x)
plain_call_of x at b es f old m n new is same other one two three =
    call_of x at b es f old m n new is same one (two ∙ ap (λ (ls : List Link). m ++ ls) (sym (plain_inside (expr_of f) (not_attr f other)))) three

pub attr_call_of : (x : Expr) (at : Pos) (b : Box Expr Global) (es : Exprs) (f : Expr) (dot : Pos) (d : Box Expr Global) (name : List ℕ) (e : Expr) (old m n new : List Link) → x ≡ Call at b es
    → f ≡ b.value → f ≡ Attr dot d name → e ≡ d.value → m ≡ old ++ callee_links at (expr_of f) (exprs_of es) → n ≡ m ++ expr_links (expr_of e)
    → new ≡ n ++ exprs_links (exprs_of es) → new ≡ old ++ expr_links (expr_of x)
attr_call_of x at b es f dot d name e old m n new is same attr owner one two three =
    call_of x at b es f old m n new is same one
    (two ∙ ap (λ (t : ExprTree). m ++ inside_links t) (ap (λ (v : Expr). attr_expr dot (expr_of v) name) owner ∙ sym (ap expr_of attr ∙ attr_tree dot d name))) three
