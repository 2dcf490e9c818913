-- Pairs that decide, and turns of a walk.
use Rattle.std.proofs.Common.{◌≡◌, refl, sym, true, false, true≢false}
use Rattle.py_model.specs.Plan.{Plan}
use Rattle.py_model.specs.Walks.{Comparison, alike, before, behind, apart, decided, is_alike}

pub decided_on : (go : Comparison → Plan) (next : Plan) (x : Comparison) → is_alike x ≡ true → decided go next x ≡ next
decided_on go next alike is = refl
decided_on go next before is = absurd (true≢false (sym is))
decided_on go next behind is = absurd (true≢false (sym is))
decided_on go next apart is = absurd (true≢false (sym is))

pub decided_at : (go : Comparison → Plan) (next : Plan) (x : Comparison) → is_alike x ≡ false → decided go next x ≡ go x
decided_at go next alike is = absurd (true≢false is)
decided_at go next before is = refl
decided_at go next behind is = refl
decided_at go next apart is = refl

-- the same inside a dictionary, where a pair that differs has no order
abbrev pub alike_or_apart : (Comparison → Plan) → Plan → Comparison → Plan
alike_or_apart go next alike = next
alike_or_apart go next x = go apart

pub alike_on : (go : Comparison → Plan) (next : Plan) (x : Comparison) → is_alike x ≡ true → alike_or_apart go next x ≡ next
alike_on go next alike is = refl
alike_on go next before is = absurd (true≢false (sym is))
alike_on go next behind is = absurd (true≢false (sym is))
alike_on go next apart is = absurd (true≢false (sym is))

pub apart_at : (go : Comparison → Plan) (next : Plan) (x : Comparison) → is_alike x ≡ false → alike_or_apart go next x ≡ go apart
apart_at go next alike is = absurd (true≢false is)
apart_at go next before is = refl
apart_at go next behind is = refl
apart_at go next apart is = refl
