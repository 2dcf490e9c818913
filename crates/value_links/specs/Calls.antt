-- No public clause cites this file.
-- The links of a call by parts.
use Rattle.std.specs.Prelude.{ℕ, List, [], ◌∷◌, ◌++◌}
use Rattle.prov_base.specs.declared.place.Pos.{Pos}
use Rattle.py_tree.specs.Tree.{ExprTree, ExprsTree, attr_expr}
use Rattle.value_links.specs.declared.link.Point.{Point}
use Rattle.value_links.specs.declared.link.Link.{Link}
use Rattle.value_links.specs.Links.{an_enter, call_links, each_to, expr_links, link, of_many, or_rather, owner_links, point, value_of}

-- those of the arguments
abbrev pub arguments_to : Pos → ExprsTree → List Link
arguments_to at arguments = each_to at 50 arguments ++ (each_to at 80 arguments ++ (each_to at 39 arguments ++ (each_to at 38 arguments ++ each_to at an_enter arguments)))

-- those of what is called, where so many values are the arguments and one more, or two more
abbrev pub called_with : Pos → Point → ℕ → ℕ → List Link
called_with at called one two =
    link at 39 called ∷ link at 38 called ∷ or_rather at 2 (point at 39) called ∷ of_many one (link at an_enter (point at 39)) ∷ of_many two (link at 38 (point at 39)) ∷ []

abbrev pub owner_with : Pos → ExprTree → ℕ → ℕ → List Link
owner_with at owner one two =
    link at 80 (value_of owner) ∷ of_many one (or_rather at an_enter (value_of owner) (point at 39)) ∷ of_many two (or_rather at 38 (value_of owner) (point at 39)) ∷ []

-- those of the call itself, and those inside of what is called
abbrev pub callee_links : Pos → ExprTree → ExprsTree → List Link
callee_links at (attr_expr dot e name) arguments = link dot 32 (value_of e) ∷ call_links at (point dot 32) arguments ++ owner_links at e arguments
callee_links at callee arguments = call_links at (value_of callee) arguments

abbrev pub inside_links : ExprTree → List Link
inside_links (attr_expr dot e name) = expr_links e
inside_links callee = expr_links callee
