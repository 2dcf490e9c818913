-- What follows an operation is what remains of the frames after it.
use Rattle.std.proofs.Common.{◌≡◌, Bool, true, false, List, [], ◌∷◌, map, Option, Result, Ok, Err, refl, ap, sym, ◌∙◌, subst, if◌then◌else◌}
use Rattle.prov_base.specs.declared.place.Pos.{Pos}
use Rattle.prov_base.specs.declared.refusal.Memory.{Memory}
use Rattle.py_tree.specs.declared.expr.Expr.{Expr}
use Rattle.py_tree.specs.Erasure.{expr_of, exprs_list}
use Rattle.py_tree.specs.Tree.{ExprsTree, MaybeTree, ScriptTree}
use Rattle.py_model.specs.Act.{Act, Walked}
use Rattle.py_model.specs.Expressions.{Here, Task}
use Rattle.py_value.specs.Contents.{Contents, contents}
use Rattle.py_value.specs.Values.{ValuesView, IsNamed}
use Rattle.py_value.specs.declared.value.Value.{Value}
use Rattle.interp_eval.proofs.Machines.{machine_same}
use Rattle.interp_eval.proofs.Remaining.{delivered_means, tested_means, found_means}
use Rattle.interp_eval.proofs.Trees.{listed}
use Rattle.interp_eval.specs.Delivery.{IsDelivered, GoesOn, following}
use Rattle.interp_eval.specs.Held.{AreHeld, AreHeldFrames, IsHeldFrame, IsHeldFinish, AreAllNamed}
use Rattle.interp_eval.specs.Machine.{Node, Finish, Waiting, Machine, waiting, node, remains, goes, found, first_of, calls_method, calls_one, is_method, is_true, takes_receiver, after_find, after_test}
use Rattle.interp_eval.specs.Seen.{machine_seen, waiting_seen, node_seen, finish_seen, operands_seen, branch_seen, some_of}
use Rattle.interp_eval.specs.Step.{IsHeldNext}
use Rattle.interp_eval.specs.declared.frames.EvalFrames.{EvalFrames}
use Rattle.interp_eval.specs.declared.frames.Frame.{Frame}
use Rattle.interp_eval.specs.declared.frames.EvalNext.{EvalNext}
use Rattle.interp_eval.specs.declared.frames.EvalNext.TheVariants.{More, Value as TheValue}
use Rattle.interp_eval.specs.declared.node.Branch.{Branch as BranchRefs}
use Rattle.interp_eval.specs.declared.turn.After.TheVariants.{Pop, Branch}

node_same : (a b : Pos) (f g : Finish) (ms ns : List MaybeTree) → a ≡ b → f ≡ g → ms ≡ ns → node a f ms ≡ node b g ns
node_same a b f g ms ns x y z = cc

waiting_same : (n m : Node) (vs ws : List Contents) → n ≡ m → vs ≡ ws → waiting n vs ≡ waiting m ws
waiting_same n m vs ws a b = cc

abbrev around : Waiting → List Waiting → Machine
around t fs = record { top = t; below = fs }

around_same : (t u : Waiting) (fs gs : List Waiting) → t ≡ u → fs ≡ gs → around t fs ≡ around u gs
around_same t u fs gs a b = cc

mapped : (table : ValuesView) (callee owner : Value) (t : Bool)
    → map (contents table) (callee ∷ (if t then owner ∷ [] else [])) ≡ contents table callee ∷ (if t then contents table owner ∷ [] else [])
mapped table callee owner true = refl
mapped table callee owner false = refl

-- the node after a look-up, by what it was made of
pub found_same : (table : ValuesView) (f : Frame) (arguments : List Expr) (owner callee : Value) (method : Option Pos) (m t : Bool) (at : Pos) → f.node.at ≡ at
    → finish_seen table f.node.finish ≡ (if m then calls_method else calls_one) → m ≡ is_method (contents table callee) → operands_seen f.node.rest ≡ map some_of arguments
    → f.have.items ≡ callee ∷ (if t then owner ∷ [] else []) → t ≡ takes_receiver (contents table callee) (contents table owner) method
    → waiting_seen table f ≡ after_find at (exprs_list (map expr_of arguments)) (contents table owner) (contents table callee) method
found_same table f arguments owner callee method m t at at_is finish_is m_is rest_is have_is t_is =
    waiting_same _ _ _ _
    (node_same _ _ _ _ _ _ at_is (finish_is ∙ ap (λ b. if b then calls_method else calls_one) m_is) (rest_is ∙ sym (listed arguments)))
    (ap (map (contents table)) have_is ∙ mapped table callee owner t ∙ ap (λ b. contents table callee ∷ (if b then contents table owner ∷ [] else [])) t_is)

module _ (before after : EvalFrames) (value : Value) (method : Option Pos) where
  pub pop_goes : (result : Result EvalNext Memory) → IsDelivered {E = Memory} value before after result
      → (script : ScriptTree) (next : Task → Act) (here : Here) (go : Contents → Act) (table : ValuesView) (came : Walked)
      → GoesOn {E = Memory} Pop value method before after script next here go table came result
  pop_goes (Ok More) d script next here go table came =
      let given = d table in
      ap (λ m. remains script next here m go) given.is
      ∙ delivered_means script next here given.frame given.above go (contents table value)
      ∙ ap (λ fs. goes script next here fs go (contents table value)) (sym given.was)
  pop_goes (Ok (TheValue v)) d script next here go table came =
      ap (λ w. go (contents table w)) d.0 ∙ sym (ap (λ fs. goes script next here (map (waiting_seen table) fs) go (contents table value)) d.1)
  pop_goes (Ok other) d script next here go table came = absurd d
  pop_goes (Err want) d script next here go table came = tt

  pub pop_held : (result : Result EvalNext Memory) → IsDelivered {E = Memory} value before after result → (table : ValuesView) → AreHeld table before → IsNamed table value
      → IsHeldNext {E = Memory} table after result
  pop_held (Ok More) d table held one = (d table).held held one
  pop_held (Ok (TheValue v)) d table held one = subst (IsNamed table) (sym d.0) one
  pop_held (Ok other) d table held one = absurd d
  pop_held (Err want) d table held one = tt

  module _ (script : ScriptTree) (next : Task → Act) (here : Here) (go : Contents → Act) (table : ValuesView) (came : Walked) where
    pub branch_goes : (branch : BranchRefs) (had : Value) (holds : Bool)
        → node_seen table after.top.node ≡ after_test before.top.node.at (branch_seen branch) (contents table had) holds → after.top.have.items ≡ [] → after.below.items ≡ before.below.items
        → contents table had ≡ first_of (map (contents table) before.top.have.items) → holds ≡ is_true (contents table value)
        → remains script next here (machine_seen table after) go ≡ following (Branch branch) value before script next here go table came
    branch_goes branch had holds node_is have_is below_is had_is holds_is =
        ap (λ m. remains script next here m go)
        (machine_same _ _ _ [] _ _
        (node_is ∙ ap (λ v. after_test before.top.node.at (branch_seen branch) v holds) had_is
        ∙ ap (after_test before.top.node.at (branch_seen branch) (first_of (map (contents table) before.top.have.items))) holds_is)
        (ap (map (contents table)) have_is) (ap (map (waiting_seen table)) below_is))
        ∙ tested_means script next here before.top.node.at (branch_seen branch) (first_of (map (contents table) before.top.have.items)) (contents table value)
        (map (waiting_seen table) before.below.items) go

    pub bind_goes : (arguments : ExprsTree) (had : Value) → came.method ≡ method
        → waiting_seen table after.top ≡ after_find before.top.node.at arguments (contents table had) (contents table value) method → after.below.items ≡ before.below.items
        → contents table had ≡ first_of (map (contents table) before.top.have.items)
        → remains script next here (machine_seen table after) go
        ≡ found script next here before.top.node.at arguments (first_of (map (contents table) before.top.have.items)) (goes script next here (map (waiting_seen table) before.below.items) go)
        (contents table value) came.method
    bind_goes arguments had method_is top_is below_is had_is =
        ap (λ m. remains script next here m go)
        (around_same _ _ _ _
        (top_is ∙ ap (λ v. after_find before.top.node.at arguments v (contents table value) method) had_is
        ∙ ap (after_find before.top.node.at arguments (first_of (map (contents table) before.top.have.items)) (contents table value)) (sym method_is))
        (ap (map (waiting_seen table)) below_is))
        ∙ found_means script next here before.top.node.at arguments (first_of (map (contents table) before.top.have.items)) (contents table value) came.method
        (map (waiting_seen table) before.below.items) go

-- a node in place of the innermost one holds named values
pub replaced_held : (table : ValuesView) (before after : EvalFrames) → IsHeldFrame table after.top → after.below.items ≡ before.below.items → AreHeld table before → AreHeld table after
replaced_held table before after top below held = record { top = top; below = subst (AreHeldFrames table) (sym below) held.below }

pub fresh_held : (table : ValuesView) (f : Frame) → IsHeldFinish table f.node.finish → f.have.items ≡ [] → IsHeldFrame table f
fresh_held table f finish have = record { finish = finish; have = subst (AreAllNamed table) (sym have) tt }

pub found_held : (table : ValuesView) (f : Frame) (owner callee : Value) (t : Bool) → IsHeldFinish table f.node.finish → f.have.items ≡ callee ∷ (if t then owner ∷ [] else [])
    → IsNamed table owner → IsNamed table callee → IsHeldFrame table f
found_held table f owner callee t finish have one other = record { finish = finish; have = subst (AreAllNamed table) (sym have) (both t) }
  where
    both : (t : Bool) → AreAllNamed table (callee ∷ (if t then owner ∷ [] else []))
    both true = (other, (one, tt))
    both false = (other, tt)
