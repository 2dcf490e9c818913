use Rattle.std.proofs.Common.{◌≡◌, true, subst}
use Rattle.py_value.specs.contracts.access.LocationPartialEq.TheImpl.{ghosts as locations}
use Rattle.py_value.specs.contracts.value.ValuePartialEq.TheImpl.{ghosts}
use Rattle.py_value.specs.contracts.access.AccessPartialEq.TheImpl.{ghosts as accesses}
use Rattle.py_value.specs.contracts.access.ContentPartialEq.TheImpl.{ghosts as contents_eq}
use Rattle.py_value.proofs.Equality.{value_same, value_own, location_same, location_own}
use Rattle.py_value.proofs.EqualAccesses.{content_same, content_own, access_same, access_own}
use Rattle.py_value.proofs.access.equality_is_same.Goals as goal

pub returns-clause-values : goal.returns-clause-values
returns-clause-values c = λ v w. (value_same v w, λ same. subst (λ x. ghosts.eq v x ≡ true) same (value_own v))

pub returns-clause-locations : goal.returns-clause-locations
returns-clause-locations c = λ l m. (location_same l m, λ same. subst (λ x. locations.eq l x ≡ true) same (location_own l))

pub returns-clause-contents : goal.returns-clause-contents
returns-clause-contents c = λ a b. (content_same a b, λ same. subst (λ x. contents_eq.eq a x ≡ true) same (content_own a))

pub returns-clause-accesses : goal.returns-clause-accesses
returns-clause-accesses c = λ a b. (access_same a b, λ same. subst (λ x. accesses.eq a x ≡ true) same (access_own a))
