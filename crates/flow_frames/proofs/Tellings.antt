-- A text that was asked for has its number, where the doer stands for some state.
use Rattle.std.proofs.Common.{◌≡◌, ℕ, ◌<◌, List, [], length}
use Rattle.py_value.specs.Values.{ValuesView}
use Rattle.py_model.specs.Capture.{Capture}
use Rattle.py_model.specs.Doing.{Standing, standing, Fits, Stands, Knew, ForEach}
use Rattle.py_model.specs.Running.{State}
use Rattle.interp_eval.specs.Performing.{HasState}

state_of : Standing → State
state_of s = record { store = s.store; left = 0; entered = s.entered; told = []; askings = s.askings; fetches = s.fetches }

pub word_named : (first last : Fits) (before between : Stands) (number : ℕ) → Knew first last → HasState first before
    → ForEach last before (λ table capture s. (number < length table.texts) × between table capture (standing s))
    → (table : ValuesView) (capture : Capture) → last table capture → number < length table.texts
unfolding state_of
word_named first last before between number knew state word table capture fit =
    let s = state table capture (knew table capture fit) in
    (word table capture fit (state_of s.0) s.1).0
