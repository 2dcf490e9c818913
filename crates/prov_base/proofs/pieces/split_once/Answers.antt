use Rattle.std.proofs.Common.{◌≡◌, ◌+◌, ◌-◌, ◌++◌, ◌∷◌, ℕ, List, length, take, drop, ap, ◌∙◌, arith}
use Rattle.std.proofs.lemmas.Grind.{common_steps}
use Rattle.prov_base.specs.Pieces.{pieces_at}
use Rattle.prov_base.proofs.PieceLemmas.{pieces_first, pieces_only}
use Rattle.prov_base.proofs.pieces.split_once.Goals as goal

pub returns-then-byte-separator-clause-pieces : goal.returns-then-byte-separator-clause-pieces
returns-then-byte-separator-clause-pieces c =
    let i = c.loop-i.i in
    let bytes = c.args.bytes.now in
    let whole : bytes ≡ take i bytes ++ c.args.separator ∷ take (length bytes - (i + 1)) (drop (i + 1) bytes) = grind (arith, common_steps) in
    ap (λ (bs : List ℕ). pieces_at c.args.separator bs) whole ∙ pieces_first c.args.separator (take i bytes) _ c.loop-i.invariant

pub returns-clause-pieces : goal.returns-clause-pieces
returns-clause-pieces c = pieces_only c.args.separator c.args.bytes.now (grind (arith, common_steps))
