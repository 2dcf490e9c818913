-- Links that are put part by part, and lists of expressions as they are walked.
use Rattle.std.proofs.Common.{◌≡◌, ℕ, suc, ◌+◌, List, [], ◌∷◌, ◌++◌, map, length, refl, sym, ap, ◌∙◌, arith}
use Rattle.std.proofs.lemmas.List.{append-nil, append_assoc}
use Rattle.prov_base.specs.declared.place.Pos.{Pos}
use Rattle.py_tree.specs.declared.expr.Expr.{Expr}
use Rattle.py_tree.specs.declared.expr.Exprs.{Exprs}
use Rattle.py_tree.specs.Erasure.{expr_of, exprs_of, exprs_list, pairs_list}
use Rattle.py_tree.specs.Tree.{ExprsTree, PairsTree}
use Rattle.py_tree.proofs.ExprTrees.{exprs_tree}
use Rattle.value_links.specs.declared.link.Point.{Point}
use Rattle.value_links.specs.declared.link.Link.{Link}
use Rattle.value_links.specs.Calls.{arguments_to, called_with, owner_with}
use Rattle.value_links.specs.Links.{an_enter, call_links, each_to, how_many, link, owner_links, point, value_of}

-- ---- parts, one behind the other

pub two_parts : (old a b mid new : List Link) → mid ≡ old ++ a → new ≡ mid ++ b → new ≡ old ++ (a ++ b)
two_parts old a b mid new one two = two ∙ ap (λ (ls : List Link). ls ++ b) one ∙ append_assoc old a b

pub three_parts : (old a b c m n new : List Link) → m ≡ old ++ a → n ≡ m ++ b → new ≡ n ++ c → new ≡ old ++ (a ++ (b ++ c))
three_parts old a b c m n new one two three = two_parts old a (b ++ c) m new one (two_parts m b c n new two three)

pub four_parts : (old a b c d m n o new : List Link) → m ≡ old ++ a → n ≡ m ++ b → o ≡ n ++ c → new ≡ o ++ d → new ≡ old ++ (a ++ (b ++ (c ++ d)))
four_parts old a b c d m n o new one two three four = two_parts old a (b ++ (c ++ d)) m new one (three_parts m b c d n o new two three four)

pub five_parts : (old a b c d e m n o p new : List Link) → m ≡ old ++ a → n ≡ m ++ b → o ≡ n ++ c → p ≡ o ++ d → new ≡ p ++ e → new ≡ old ++ (a ++ (b ++ (c ++ (d ++ e))))
five_parts old a b c d e m n o p new one two three four five = two_parts old a (b ++ (c ++ (d ++ e))) m new one (four_parts m b c d e n o p new two three four five)

pub no_part : (old : List Link) → old ≡ old ++ []
no_part old = sym (append-nil old)

-- ---- lists of expressions

abbrev pub exprs_in : List Expr → ExprsTree
exprs_in es = exprs_list (map expr_of es)

abbrev pub pairs_in : List (Expr × Expr) → PairsTree
pairs_in ps = pairs_list (map (λ p. (expr_of p.0, expr_of p.1)) ps)

many_are : (es : List Expr) → how_many (exprs_in es) ≡ length es
many_are [] = refl
many_are (e ∷ es) = ap (λ n. suc n) (many_are es)

pub how_many_are : (es : Exprs) → how_many (exprs_of es) ≡ length es.list.items
how_many_are es = ap how_many (exprs_tree es) ∙ many_are es.list.items

-- ---- the links of a call

call_whole : (a b c d e f : List Link) → (a ++ (b ++ (c ++ (d ++ e)))) ++ f ≡ a ++ (b ++ (c ++ (d ++ (e ++ f))))
call_whole a b c d e f = simp append_assoc

pub call_is : (at : Pos) (called : Point) (es : Exprs) (n : ℕ) (old mid new : List Link) → n ≡ length es.list.items → mid ≡ old ++ arguments_to at (exprs_of es) → new ≡ mid ++ called_with at called (n + 1) (n + 2)
    → new ≡ old ++ call_links at called (exprs_of es)
call_is at called es n old mid new count one two =
    let many = how_many_are es in
    let first : n + 1 ≡ suc (how_many (exprs_of es)) = omega (arith, count, many) in
    let second : n + 2 ≡ suc (suc (how_many (exprs_of es))) = omega (arith, count, many) in
    two_parts old (arguments_to at (exprs_of es)) (called_with at called (n + 1) (n + 2)) mid new one two
    ∙ ap (λ (k : ℕ). old ++ (arguments_to at (exprs_of es) ++ called_with at called k (n + 2))) first
    ∙ ap (λ (k : ℕ). old ++ (arguments_to at (exprs_of es) ++ called_with at called (suc (how_many (exprs_of es))) k)) second
    ∙ ap (λ (ls : List Link). old ++ ls) (call_whole (each_to at 50 (exprs_of es)) (each_to at 80 (exprs_of es)) (each_to at 39 (exprs_of es)) (each_to at 38 (exprs_of es)) (each_to at an_enter (exprs_of es))
    (called_with at called (suc (how_many (exprs_of es))) (suc (suc (how_many (exprs_of es))))))

pub method_is : (at dot : Pos) (owner : Expr) (es : Exprs) (n : ℕ) (old m o new : List Link) → n ≡ length es.list.items → m ≡ old ++ (link dot 32 (value_of (expr_of owner)) ∷ [])
    → o ≡ m ++ call_links at (point dot 32) (exprs_of es) → new ≡ o ++ owner_with at (expr_of owner) (n + 1) (n + 2)
    → new ≡ old ++ (link dot 32 (value_of (expr_of owner)) ∷ call_links at (point dot 32) (exprs_of es) ++ owner_links at (expr_of owner) (exprs_of es))
method_is at dot owner es n old m o new count one two three =
    let many = how_many_are es in
    let first : n + 1 ≡ suc (how_many (exprs_of es)) = omega (arith, count, many) in
    let second : n + 2 ≡ suc (suc (how_many (exprs_of es))) = omega (arith, count, many) in
    three_parts old (link dot 32 (value_of (expr_of owner)) ∷ []) (call_links at (point dot 32) (exprs_of es)) (owner_with at (expr_of owner) (n + 1) (n + 2)) m o new one two three
    ∙ ap (λ (k : ℕ). old ++ (link dot 32 (value_of (expr_of owner)) ∷ call_links at (point dot 32) (exprs_of es) ++ owner_with at (expr_of owner) k (n + 2))) first
    ∙ ap (λ (k : ℕ). old ++ (link dot 32 (value_of (expr_of owner)) ∷ call_links at (point dot 32) (exprs_of es) ++ owner_with at (expr_of owner) (suc (how_many (exprs_of es))) k)) second
