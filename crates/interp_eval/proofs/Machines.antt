-- Frames as machines: what a change of the frames is for the machine that they are.
use Rattle.std.proofs.lemmas.Bool.{false≢true}
use Rattle.std.proofs.lemmas.List.{map-append}
use Rattle.std.proofs.Common.{◌≡◌, Bool, true, false, List, [], ◌∷◌, ◌++◌, map, refl, ap, sym, ◌∙◌, subst}
use Rattle.py_value.specs.Contents.{Contents, contents}
use Rattle.py_value.specs.Values.{ValuesView, IsNamed}
use Rattle.py_value.specs.declared.value.Value.{Value}
use Rattle.interp_eval.specs.declared.frames.EvalFrames.{EvalFrames}
use Rattle.interp_eval.specs.declared.frames.Frame.{Frame}
use Rattle.py_tree.specs.Tree.{ExprTree, const_expr, var_expr, unary_expr, binary_expr, compare_expr, logic_expr, choose_expr, call_expr, attr_expr, part_expr, range_expr, list_expr, dict_expr, tuple_expr}
use Rattle.py_tree.specs.declared.expr.LogicOp.TheVariants.{And as Both, Or as Either}
use Rattle.interp_eval.specs.declared.node.Node.{Node as NodeRefs}
use Rattle.interp_eval.specs.declared.node.Finish.{Finish as FinishRefs}
use Rattle.interp_eval.specs.declared.node.Finish.TheVariants.{Giving}
use Rattle.interp_eval.specs.Machine.{Node, Finish, gives_one, Waiting, machine, waiting, node_for}
use Rattle.interp_eval.specs.Seen.{machine_seen, waiting_seen, node_seen, finish_seen}
use Rattle.interp_eval.specs.Held.{AreHeld, AreHeldFrames, IsHeldFrame, IsHeldFinish, AreAllNamed}
use Rattle.interp_eval.specs.Delivery.{IsGiven}

pub machine_same : (n m : Node) (vs ws : List Contents) (fs gs : List Waiting) → n ≡ m → vs ≡ ws → fs ≡ gs → machine n vs fs ≡ machine m ws gs
machine_same n m vs ws fs gs a b c = cc

pub waiting_same : (n m : Node) (vs ws : List Contents) → n ≡ m → vs ≡ ws → waiting n vs ≡ waiting m ws
waiting_same n m vs ws a b = cc

pub started : (table : ValuesView) (frames : EvalFrames) (n : Node) → node_seen table frames.top.node ≡ n → frames.top.have.items ≡ [] → frames.below.items ≡ []
    → machine_seen table frames ≡ machine n [] []
started table frames n is have below = machine_same _ n _ [] _ [] is (ap (map (contents table)) have) (ap (map (waiting_seen table)) below)

named_more : (table : ValuesView) (vs : List Value) (v : Value) → AreAllNamed table vs → IsNamed table v → AreAllNamed table (vs ++ v ∷ [])
named_more table [] v all one = (one, tt)
named_more table (w ∷ vs) v all one = (all.0, named_more table vs v all.1 one)

frames_more : (table : ValuesView) (fs : List Frame) (f : Frame) → AreHeldFrames table fs → IsHeldFrame table f → AreHeldFrames table (fs ++ f ∷ [])
frames_more table [] f all one = (one, tt)
frames_more table (g ∷ fs) f all one = (all.0, frames_more table fs f all.1 one)

frames_apart : (table : ValuesView) (fs : List Frame) (f : Frame) → AreHeldFrames table (fs ++ f ∷ []) → AreHeldFrames table fs × IsHeldFrame table f
frames_apart table [] f all = (tt, all.0)
frames_apart table (g ∷ fs) f all = let rest = frames_apart table fs f all.1 in ((all.0, rest.0), rest.1)

abbrev is_giving : Finish → Bool
is_giving (gives_one v) = true
is_giving finish = false

not_giving : (e : ExprTree) → is_giving (node_for e).finish ≡ false
not_giving (const_expr at atom) = refl
not_giving (var_expr at name) = refl
not_giving (unary_expr at sign e) = refl
not_giving (binary_expr at sign l r) = refl
not_giving (compare_expr at sign l r) = refl
not_giving (logic_expr at Both l r) = refl
not_giving (logic_expr at Either l r) = refl
not_giving (choose_expr at test chosen other) = refl
not_giving (call_expr at (attr_expr dot e name) arguments) = refl
not_giving (call_expr at callee arguments) = refl
not_giving (attr_expr at e name) = refl
not_giving (part_expr at e index) = refl
not_giving (range_expr at e low high) = refl
not_giving (list_expr at items) = refl
not_giving (dict_expr at pairs) = refl
not_giving (tuple_expr at items) = refl

-- the node of an expression holds no value
pub fresh_node : (table : ValuesView) (n : NodeRefs) (e : ExprTree) → node_seen table n ≡ node_for e → IsHeldFinish table n.finish
fresh_node table n e is = fresh n.finish (ap (λ m. is_giving m.finish) is ∙ not_giving e)
  where
    fresh : (f : FinishRefs) → is_giving (finish_seen table f) ≡ false → IsHeldFinish table f
    fresh (Giving v) is = absurd (false≢true (sym is))
    fresh f is = tt

pub started_held : (table : ValuesView) (frames : EvalFrames) (e : ExprTree) → node_seen table frames.top.node ≡ node_for e → frames.top.have.items ≡ [] → frames.below.items ≡ []
    → AreHeld table frames
started_held table frames e is have below = record {
  top = record { finish = fresh_node table frames.top.node e is; have = subst (AreAllNamed table) (sym have) tt };
  below = subst (AreHeldFrames table) (sym below) tt;
}

-- the innermost node changed what is left of it, and has one value more
pub skipped_held : (table : ValuesView) (before after : EvalFrames) (v : Value) → after.top.node.finish ≡ before.top.node.finish → after.top.have.items ≡ before.top.have.items ++ v ∷ []
    → after.below.items ≡ before.below.items → IsNamed table v → AreHeld table before → AreHeld table after
skipped_held table before after v finish have below one held = record {
  top = record { finish = subst (IsHeldFinish table) (sym finish) held.top.finish; have = subst (AreAllNamed table) (sym have) (named_more table _ v held.top.have one) };
  below = subst (AreHeldFrames table) (sym below) held.below;
}

pub begun_held : (table : ValuesView) (before after : EvalFrames) (f : Frame) (e : ExprTree) → node_seen table after.top.node ≡ node_for e → after.top.have.items ≡ []
    → after.below.items ≡ before.below.items ++ f ∷ [] → f.node.finish ≡ before.top.node.finish → f.have ≡ before.top.have → AreHeld table before → AreHeld table after
begun_held table before after f e is have below finish same held = record {
  top = record { finish = fresh_node table after.top.node e is; have = subst (AreAllNamed table) (sym have) tt };
  below = subst (AreHeldFrames table) (sym below) (frames_more table _ f held.below (record {
    finish = subst (IsHeldFinish table) (sym finish) held.top.finish;
    have = subst (λ h. AreAllNamed table h.items) (sym same) held.top.have;
  }));
}

-- the node around the innermost one has one value more
pub delivered : (before after : EvalFrames) (f : Frame) (v : Value) → before.below.items ≡ after.below.items ++ f ∷ [] → after.top.node ≡ f.node
    → after.top.have.items ≡ f.have.items ++ v ∷ [] → (table : ValuesView) → IsGiven v before after table
delivered before after f v below node_is have table = record {
  frame = waiting_seen table f;
  above = map (waiting_seen table) after.below.items;
  was = ap (map (waiting_seen table)) below ∙ map-append (waiting_seen table) after.below.items (f ∷ []);
  is = machine_same _ _ _ _ _ _ (ap (node_seen table) node_is) (ap (map (contents table)) have ∙ map-append (contents table) f.have.items (v ∷ [])) refl;
  held = λ held one.
      let apart = frames_apart table after.below.items f (subst (AreHeldFrames table) below held.below) in
      record {
        top = record {
          finish = subst (λ n. IsHeldFinish table n.finish) (sym node_is) apart.1.finish;
          have = subst (AreAllNamed table) (sym have) (named_more table f.have.items v apart.1.have one);
        };
        below = apart.0;
      };
}
