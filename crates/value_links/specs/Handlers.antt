-- No public clause cites this file.
-- The links of a handler's class.
use Rattle.std.specs.Prelude.{List, map, [], ◌∷◌, Option, Some, None}
use Rattle.prov_base.specs.declared.place.Pos.{Pos}
use Rattle.py_tree.specs.declared.expr.Expr.{Expr}
use Rattle.py_tree.specs.declared.stmt.Bound.{Bound}
use Rattle.py_tree.specs.declared.stmt.Suite.{Suite}
use Rattle.py_tree.specs.Erasure.{handlers_list, suite_of}
use Rattle.py_tree.specs.Tree.{ExprTree, HandlersTree, end_handlers, more_handlers}
use Rattle.value_links.specs.declared.link.Point.{Point}
use Rattle.value_links.specs.declared.link.Link.{Link}
use Rattle.value_links.specs.Links.{expr_links, point, value_of}

-- the tree of handlers
abbrev pub handlers_in : List (Option Expr × Option Bound × Suite) → HandlersTree
handlers_in hs = handlers_list (map (λ h. (h.0, h.1, suite_of h.2)) hs)

-- what gives the class of the first handler
abbrev pub first_class : HandlersTree → Option Point
first_class end_handlers = None
first_class (more_handlers None bound body rest) = None
first_class (more_handlers (Some kind) bound body rest) = Some (value_of kind)

abbrev pub class_links : Pos → Option ExprTree → Option Point → List Link
class_links at None next = []
class_links at (Some kind) next = record { to = point at 41; least = 0; from = value_of kind; rival = next } ∷ expr_links kind
