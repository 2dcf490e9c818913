-- Worked expressions, with how deep what begins at a place lies in them, and where the first of their deepest begins; found by
-- computation.
use Rattle.std.proofs.Common.{◌≡◌, ℕ, ◌-◌, List, codes, refl}
use Rattle.prov_base.specs.declared.place.Pos.{Pos}
use Rattle.py_expressions.specs.Concrete as C
use Rattle.py_expressions.specs.Depth.{expr_depth}
use Rattle.py_expressions.specs.Lies.{expr_lies, expr_deepest}

-- a token of the first line, in this column
abbrev spot : ℕ → C.Spot
spot col = record { at = record { line = 1; col = col }; span = record { from = col - 1; to = col } }

abbrev at : ℕ → Pos
at col = record { line = 1; col = col }

abbrev name : ℕ → List ℕ → C.Unary
name col bytes = C.plain_unary (C.plain_prim (C.name (spot col) bytes))

abbrev of_term : C.Term → C.Expr
of_term t = C.plain_expr (C.plain_or (C.plain_and (C.plain_not (C.plain_cmp (C.plain_sum t)))))

abbrev of_unary : C.Unary → C.Expr
of_unary u = of_term (C.plain_term u)

-- `a*b*c`: the product `a*b` begins where the whole does, and `a` there too
abbrev product : C.Expr
product = of_term (C.term_more (C.term_more (C.plain_term (name 1 (codes "a"))) (spot 2) C.times (name 3 (codes "b"))) (spot 4) C.times (name 5 (codes "c")))

product_depth : expr_depth product ≡ 3
product_depth = refl

pub product_first : expr_lies product (at 1) ≡ 3
product_first = refl

product_second : expr_lies product (at 3) ≡ 3
product_second = refl

product_last : expr_lies product (at 5) ≡ 2
product_last = refl

-- `a` and `b` lie as deep, and `a` comes first
product_deepest : expr_deepest product ≡ at 1
product_deepest = refl

-- at an operator none begins
product_sign : expr_lies product (at 4) ≡ 0
product_sign = refl

-- `-(a,b)`: the tuple begins where its first item does
abbrev grouped : C.Expr
grouped = of_unary (C.signed (spot 1) C.minus (C.plain_unary (C.plain_prim (C.group (spot 2)
    (C.several (of_unary (name 3 (codes "a"))) (spot 4) (C.last_rest (of_unary (name 5 (codes "b"))))) (spot 6)))))

grouped_depth : expr_depth grouped ≡ 4
grouped_depth = refl

grouped_sign : expr_lies grouped (at 1) ≡ 1
grouped_sign = refl

grouped_bracket : expr_lies grouped (at 2) ≡ 2
grouped_bracket = refl

grouped_first : expr_lies grouped (at 3) ≡ 4
grouped_first = refl

grouped_comma : expr_lies grouped (at 4) ≡ 0
grouped_comma = refl

grouped_second : expr_lies grouped (at 5) ≡ 4
grouped_second = refl

grouped_deepest : expr_deepest grouped ≡ at 3
grouped_deepest = refl

-- `f(a)[b:]`
abbrev trailed : C.Expr
trailed = of_unary (C.plain_unary (C.part (C.call (C.plain_prim (C.name (spot 1) (codes "f"))) (spot 2) (C.items (C.one_expr (of_unary (name 3 (codes "a"))))) (spot 4))
    (spot 5) (C.range_index (C.bound (of_unary (name 6 (codes "b")))) (spot 7) C.no_bound) (spot 8)))

trailed_depth : expr_depth trailed ≡ 3
trailed_depth = refl

trailed_callee : expr_lies trailed (at 1) ≡ 3
trailed_callee = refl

trailed_argument : expr_lies trailed (at 3) ≡ 3
trailed_argument = refl

trailed_index : expr_lies trailed (at 6) ≡ 2
trailed_index = refl

trailed_deepest : expr_deepest trailed ≡ at 1
trailed_deepest = refl

-- `[]`, and what stands at another place
abbrev nothing : C.Expr
nothing = of_unary (C.plain_unary (C.plain_prim (C.list (spot 1) C.no_items (spot 2))))

nothing_here : expr_lies nothing (at 1) ≡ 1
nothing_here = refl

nothing_behind : expr_lies nothing (at 2) ≡ 0
nothing_behind = refl

nothing_deepest : expr_deepest nothing ≡ at 1
nothing_deepest = refl

-- `a+b*c`: the deeper operand comes last
abbrev sums : C.Expr
sums = C.plain_expr (C.plain_or (C.plain_and (C.plain_not (C.plain_cmp (C.sum_more (C.plain_sum (C.plain_term (name 1 (codes "a")))) (spot 2) C.plus
    (C.term_more (C.plain_term (name 3 (codes "b"))) (spot 4) C.times (name 5 (codes "c"))))))))

sums_deepest : expr_deepest sums ≡ at 3
sums_deepest = refl

-- `{a:[],b:c}`: all that stands in it lies as deep, and the key `a` comes first
abbrev table : C.Expr
table = of_unary (C.plain_unary (C.plain_prim (C.dict (spot 1)
    (C.more_pairs (of_unary (name 2 (codes "a"))) (spot 3) (of_unary (C.plain_unary (C.plain_prim (C.list (spot 4) C.no_items (spot 5))))) (spot 6)
    (C.last_pair (of_unary (name 7 (codes "b"))) (spot 8) (of_unary (name 9 (codes "c"))))) (spot 10))))

table_deepest : expr_deepest table ≡ at 2
table_deepest = refl

-- `[a,f(),b.c]`: `f` lies deeper than its call, and as deep as `b`
abbrev row : C.Expr
row = of_unary (C.plain_unary (C.plain_prim (C.list (spot 1) (C.items (C.several (of_unary (name 2 (codes "a"))) (spot 3)
    (C.more_rest (of_unary (C.plain_unary (C.call (C.plain_prim (C.name (spot 4) (codes "f"))) (spot 5) C.no_items (spot 6)))) (spot 7)
    (C.last_rest (of_unary (C.plain_unary (C.attribute (C.plain_prim (C.name (spot 8) (codes "b"))) (spot 9) (spot 10) (codes "c")))))))) (spot 11))))

row_depth : expr_depth row ≡ 3
row_depth = refl

row_deepest : expr_deepest row ≡ at 4
row_deepest = refl

-- `a if b+c else d`: the test lies deepest
abbrev chosen : C.Expr
chosen = C.choice (C.plain_or (C.plain_and (C.plain_not (C.plain_cmp (C.plain_sum (C.plain_term (name 1 (codes "a")))))))) (spot 2)
    (C.plain_or (C.plain_and (C.plain_not (C.plain_cmp (C.sum_more (C.plain_sum (C.plain_term (name 3 (codes "b")))) (spot 4) C.plus (C.plain_term (name 5 (codes "c")))))))) (spot 6) (of_unary (name 7 (codes "d")))

chosen_deepest : expr_deepest chosen ≡ at 3
chosen_deepest = refl
