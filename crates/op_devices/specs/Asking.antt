-- Plans whose askings are answered (this project's profile).
use Rattle.std.specs.Prelude.{ℕ, Bool, List, Option, Some, None}
use Rattle.py_model.specs.Plan.{Ask, Given, Found, Plan, read_var, read_len, read_item, read_entry, read_order, read_file, read_offset, read_closed, read_method, read_base, kind_of, name_of, was_opened, ask, fetch, looks, counts, prints, writes, makes, raises, raises_again, ends, runs_away}

-- what devices give, and which paths were opened for writing
pub record Known : Type 0 where
  pub given : Ask → Option Given
  pub found : List ℕ → Option Found
  pub opened : List ℕ → Bool

-- the plan with its askings answered, where they are known
abbrev pub answered_by : Known → Plan → Plan
answered_by k (read_var scope name go) = read_var scope name (λ v. answered_by k (go v))
answered_by k (read_len o go) = read_len o (λ n. answered_by k (go n))
answered_by k (read_item o i go) = read_item o i (λ v. answered_by k (go v))
answered_by k (read_entry o key go) = read_entry o key (λ entry. answered_by k (go entry))
answered_by k (read_order o go) = read_order o (λ keys. answered_by k (go keys))
answered_by k (read_file path go) = read_file path (λ bytes. answered_by k (go bytes))
answered_by k (read_offset o go) = read_offset o (λ n. answered_by k (go n))
answered_by k (read_closed o go) = read_closed o (λ b. answered_by k (go b))
answered_by k (read_method place name go) = read_method place name (λ at. answered_by k (go at))
answered_by k (read_base place go) = read_base place (λ v. answered_by k (go v))
answered_by k (kind_of o go) = kind_of o (λ kind. answered_by k (go kind))
answered_by k (name_of place go) = name_of place (λ name. answered_by k (go name))
answered_by k (was_opened path go) = answered_by k (go (k.opened path))
answered_by k (ask what go) = elim (k.given what) [ None ↦ ask what go | Some given ↦ answered_by k (go given) ]
answered_by k (fetch path go) = elim (k.found path) [ None ↦ fetch path go | Some found ↦ answered_by k (go found) ]
answered_by k (looks n rest) = looks n (answered_by k rest)
answered_by k (counts n rest) = counts n (answered_by k rest)
answered_by k (prints bytes rest) = prints bytes (answered_by k rest)
answered_by k (writes all) = writes all
answered_by k (makes kind all) = makes kind all
answered_by k (raises of items) = raises of items
answered_by k (raises_again o) = raises_again o
answered_by k ends = ends
answered_by k runs_away = runs_away
