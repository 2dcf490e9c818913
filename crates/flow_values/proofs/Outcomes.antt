-- How a run comes out of one tree of actions behind another.
use Rattle.std.proofs.Common.{◌≡◌, suc, Bool, true, false, length, nat_le, if◌then◌else◌, refl, ap, sym, ◌∙◌}
use Rattle.py_model.specs.Act.{Act, How, Walked, ret, stop, perform, begin, close, enter, leave, to}
use Rattle.py_model.specs.Capture.{Capture}
use Rattle.py_model.specs.Moment.{leaves, ends}
use Rattle.py_model.specs.Plan.{Answer}
use Rattle.py_model.specs.Running.{State, Ended, over, spent, lacking, Happened, did, too_dear, lacked, operation, outcome, beginning, entering, tell}

module _ (capture : Capture) (k : How → Act) where
  -- what comes of an end of the first tree
  abbrev pub and_then : Ended → Ended
  and_then (over how t) = outcome capture (k how) t
  and_then (spent t) = spent t
  and_then (lacking t) = lacking t

  on_happened : (f : Answer → Walked → Act) → ((answer : Answer) (came : Walked) (t : State) → outcome capture (to (f answer came) k) t ≡ and_then (outcome capture (f answer came) t)) → (h : Happened)
      → elim h [ did answer came t ↦ outcome capture (to (f answer came) k) t | too_dear t ↦ spent t | lacked t ↦ lacking t ]
      ≡ and_then (elim h [ did answer came t ↦ outcome capture (f answer came) t | too_dear t ↦ spent t | lacked t ↦ lacking t ])
  on_happened f same (did answer came t) = same answer came t
  on_happened f same (too_dear t) = refl
  on_happened f same (lacked t) = refl

  on_paid : (b : Bool) (s : State) (x y : Ended) → x ≡ and_then y → (if b then x else spent s) ≡ and_then (if b then y else spent s)
  on_paid true s x y same = same
  on_paid false s x y same = refl

  pub outcome_to : (a : Act) (s : State) → outcome capture (to a k) s ≡ and_then (outcome capture a s)
  outcome_to (ret how) s = refl
  outcome_to stop s = refl
  outcome_to (perform at what values f) s = on_happened f (λ answer came t. outcome_to (f answer came) t) (operation capture at what values s)
  outcome_to (begin number rest) s = on_paid (nat_le 1 s.left) s _ _ (outcome_to rest (beginning number s))
  outcome_to (close number how rest) s = outcome_to rest (tell (ends number how) s)
  outcome_to (enter at def names values f) s = on_paid (nat_le (suc (length values)) s.left) s _ _ (outcome_to (f (suc s.entered)) (entering at def names values s))
  outcome_to (leave v rest) s = outcome_to rest (tell (leaves v) s)

  -- two trees that come out the same come out the same with what follows them
  pub same_behind : (a b : Act) (s t : State) → outcome capture a s ≡ outcome capture b t → outcome capture (to a k) s ≡ outcome capture (to b k) t
  same_behind a b s t same = outcome_to a s ∙ ap and_then same ∙ sym (outcome_to b t)
