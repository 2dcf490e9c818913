use Rattle.std.proofs.Common.{sym, ap, ◌∙◌}
use Rattle.std.proofs.lemmas.Option.{same_Some}
use Rattle.py_value.specs.Seen.{location_at}
use Rattle.py_value.proofs.SeenBack.{location_is}
use Rattle.py_value.proofs.SeenLocations.{location_back}
use Rattle.py_value.proofs.access.same_place_same_location.Goals as goal

pub returns-clause-back : goal.returns-clause-back
returns-clause-back c = λ view l interned named. location_back view interned l named

pub returns-clause-tell : goal.returns-clause-tell
returns-clause-tell c = λ view l m interned a b same.
    same_Some l m (sym (location_back view interned l a) ∙ ap (location_at view) same ∙ location_back view interned m b)

pub returns-clause-seen : goal.returns-clause-seen
returns-clause-seen c = λ view place l interned at. location_is view interned place l at
