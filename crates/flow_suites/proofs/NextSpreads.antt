-- The target behind one of several.
use Rattle.std.proofs.Common.{◌≡◌, ℕ, suc, ◌+◌, ap, arith}
use Rattle.prov_base.specs.declared.place.Pos.{Pos}
use Rattle.py_tree.specs.Tree.{FormTree, ScriptTree}
use Rattle.py_value.specs.Contents.{Contents}
use Rattle.py_model.specs.Act.{Act}
use Rattle.py_model.specs.Expressions.{Here, Task}
use Rattle.flow_frames.specs.Machine.{Goal, several_in, spread_act}

pub spread_next : (script : ScriptTree) (next : Task → Act) (here : Here) (at : Pos) (form : FormTree) (goal : Goal) (n : ℕ) (v : Contents) (after : ℕ) → after ≡ n + 1
    → spread_act script next here at form goal (several_in goal form) after v ≡ spread_act script next here at form goal (several_in goal form) (suc n) v
spread_next script next here at form goal n v after is =
    let behind : after ≡ suc n = omega (arith, is) in
    ap (λ m. spread_act script next here at form goal (several_in goal form) m v) behind
