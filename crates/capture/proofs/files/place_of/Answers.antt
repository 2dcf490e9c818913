use Rattle.std.proofs.Common.{ℕ, List, rules}
use Rattle.std.specs.Ordering.{nat_cmp}
use Rattle.std.specs.Cmp.Lexicographic.{slice_cmp}
use Rattle.std.proofs.lemmas.Fn.{always_returns_same}
use Rattle.prov_outside.specs.declared.folder.Found.{Found}
use Rattle.capture.proofs.FileOrder.{found_place, gap_place}
use Rattle.capture.proofs.files.place_of.Goals as goal

pub returns-clause-found : goal.returns-clause-found
returns-clause-found c =
    let facts = c.binary_search_by.ensures in
    found_place c.args.kept.now c.args.path.now c.requires c.binary_search_by.result facts.bound (facts.position (λ (file : List ℕ × Found). slice_cmp nat_cmp file.0 c.args.path.now) (always_returns_same _ _ _ (λ a r after called. search rules)))

pub returns-clause-absent : goal.returns-clause-absent
returns-clause-absent c =
    let facts = c.binary_search_by.ensures in
    gap_place c.args.kept.now c.args.path.now c.requires c.binary_search_by.result facts.bound (facts.position (λ (file : List ℕ × Found). slice_cmp nat_cmp file.0 c.args.path.now) (always_returns_same _ _ _ (λ a r after called. search rules)))
