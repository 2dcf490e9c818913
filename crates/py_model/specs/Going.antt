-- When two trees of actions are the same for a run, and nest as brackets.
use Rattle.std.specs.Prelude.{◌≡◌, ℕ, zero, suc, List, ◌∷◌}
use Rattle.prov_base.specs.declared.place.Pos.{Pos}
use Rattle.py_value.specs.Contents.{Contents}
use Rattle.py_model.specs.Act.{Act, How, Walked, ret, stop, perform, begin, close, enter, leave}
use Rattle.py_model.specs.Moment.{Ending}
use Rattle.py_model.specs.Operations.{Op}
use Rattle.py_model.specs.Plan.{Answer}

-- what is open: a statement by its number, or an activation
pub data Open : Type 0 where
  a_statement : ℕ → Open
  an_activation : Open

-- The two do the same, one action after the other, down to so many actions that cost something. What is open as they begin is the
-- first list, innermost first, and as they end the second: a statement that ends and an activation that is left are the innermost open.
pub data Goes : ℕ → List Open → List Open → Act → Act → Type 0 where
  unreached : {from onto : List Open} {a b : Act} → Goes zero from onto a b
  both_ret : {k : ℕ} {from : List Open} {how : How} → Goes k from from (ret how) (ret how)
  both_stop : {k : ℕ} {from onto : List Open} → Goes k from onto stop stop
  both_perform : {k : ℕ} {from onto : List Open} {at : Pos} {p q : Op} {values : List Contents} {f g : Answer → Walked → Act} → q ≡ p
      → ((answer : Answer) (walked : Walked) → Goes k from onto (f answer walked) (g answer walked))
      → Goes (suc k) from onto (perform at p values f) (perform at q values g)
  both_begin : {k : ℕ} {from onto : List Open} {number : ℕ} {a b : Act} → Goes k (a_statement number ∷ from) onto a b
      → Goes (suc k) from onto (begin number a) (begin number b)
  both_close : {k : ℕ} {from onto : List Open} {number : ℕ} {ended : Ending} {a b : Act} → Goes k from onto a b
      → Goes k (a_statement number ∷ from) onto (close number ended a) (close number ended b)
  both_enter : {k : ℕ} {from onto : List Open} {at def : Pos} {names : List (List ℕ)} {values : List Contents} {f g : ℕ → Act}
      → ((activation : ℕ) → Goes k (an_activation ∷ from) onto (f activation) (g activation))
      → Goes (suc k) from onto (enter at def names values f) (enter at def names values g)
  both_leave : {k : ℕ} {from onto : List Open} {v : Contents} {a b : Act} → Goes k from onto a b
      → Goes k (an_activation ∷ from) onto (leave v a) (leave v b)
