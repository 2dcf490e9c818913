-- Worked rows of the test for paths, each found by computation.
use Rattle.std.proofs.Common.{◌≡◌, true, false, [], ◌∷◌, codes, refl, replicate}
use Rattle.prov_base.specs.Path.{is_path}

p1 : is_path (codes "s.py") ≡ true
p1 = refl

p2 : is_path (codes "/s.py") ≡ false
p2 = refl

p3 : is_path (codes "") ≡ false
p3 = refl

p4 : is_path (codes "a//b") ≡ false
p4 = refl

p5 : is_path (codes "a/") ≡ false
p5 = refl

p6 : is_path (codes "./a") ≡ false
p6 = refl

p7 : is_path (codes "a/../b") ≡ false
p7 = refl

p8 : is_path (codes ".noworkflow/db.sqlite") ≡ false
p8 = refl

p9 : is_path (codes ".noworkflow") ≡ false
p9 = refl

p10 : is_path (codes "a/.noworkflow") ≡ true
p10 = refl

p11 : is_path (codes ".noworkflowx/a") ≡ true
p11 = refl

p12 : is_path (97 ∷ 0 ∷ []) ≡ false
p12 = refl

p13 : is_path (replicate 255 97) ≡ true
p13 = refl

p14 : is_path (replicate 256 97) ≡ false
p14 = refl

p15 : is_path (codes "..a/b..c/...") ≡ true
p15 = refl
