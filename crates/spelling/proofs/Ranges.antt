-- The words of a range.
use Rattle.std.proofs.Common.{◌≡◌, ap, ◌∙◌, append-nil, ℕ, Bool, true, false, List, [], ◌++◌, if◌then◌else◌}
use Rattle.std.proofs.lemmas.List.{append_assoc}

pub with_step : (before ends comma step behind : List ℕ) (one : Bool)
    → ((before ++ ends) ++ (if one then [] else comma ++ step)) ++ behind ≡ before ++ (if one then (ends ++ behind) else (ends ++ (comma ++ (step ++ behind))))
with_step before ends comma step behind true = ap (λ words. words ++ behind) (append-nil (before ++ ends)) ∙ append_assoc before ends behind
with_step before ends comma step behind false =
    append_assoc (before ++ ends) (comma ++ step) behind
    ∙ (append_assoc before ends ((comma ++ step) ++ behind) ∙ ap (λ words. before ++ (ends ++ words)) (append_assoc comma step behind))
