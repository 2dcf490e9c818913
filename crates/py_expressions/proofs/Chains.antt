-- Operators of one level in a row, as in `a or b or c`, for all such levels alike: what is read of them, and how they are refused.
use Rattle.std.proofs.Common.{◌≡◌, ℕ, suc, ◌+◌, max, ◌≤◌, ◌<◌, false, List, [], ◌∷◌, ◌++◌, ap, sym, ◌∙◌, arith, append_assoc}
use Rattle.std.specs.Bool.{⊤}
use Rattle.prov_base.specs.declared.place.Pos.{Pos}
use Rattle.std.proofs.lemmas.List.{append-nil}
use Rattle.py_lines.specs.declared.parts.Token.{Token}
use Rattle.py_tree.specs.Tree.{ExprTree}
use Rattle.py_tree.specs.Erasure.{expr_of}
use Rattle.py_expressions.specs.declared.fault.Fault.TheVariants.{TooDeep}
use Rattle.py_expressions.specs.declared.fault.Stop.{Stop}
use Rattle.py_expressions.specs.declared.fault.Stop.TheVariants.{Here}
use Rattle.py_expressions.specs.declared.part.Part.{Part}
use Rattle.py_expressions.specs.Parsed.{Production, Found, IsDeep, Only, Refused, IsTooDeep}
use Rattle.py_expressions.specs.Reader.{Read, go_on, kind_level, next_level}
use Rattle.py_expressions.proofs.Leading.{Leads}
use Rattle.py_expressions.proofs.Refusals.{Inside, finds_first, finds_lead, finds_same, finds_anything, deeper, deep_same, refused_inside, refused_same, one_behind, begins_whole, node_within, first_full, full, over_both, fits_above}
use Rattle.py_expressions.specs.Lies.{begins, over, deeper_of, IsFirst}
use Rattle.py_expressions.proofs.Lying.{over_left, over_right}
use Rattle.py_expressions.proofs.Deepest.{deeper_same}

-- A level `p` of operators over the level `q`: one of `q`, or one of `p`, an operator and one of `q`.
pub record Chain {C S O : Type 0} (p : Production C) (q : Production S) (tree : C → ExprTree) (part_tree : S → ExprTree) (level : ℕ) (one : S → C) (next : C → O → S → C) (token_of : O → Token)
    (node : O → ExprTree → ExprTree → ExprTree) (rest : ℕ → C → List Token → Read C) : Type 0 where
  pub some : Pos → S
  pub read_is : (n : ℕ) (ts : List Token) → p.read (suc n) ts ≡ go_on (q.read n ts) (λ s more. rest n (one s) more)
  pub step_is : (n : ℕ) (left : C) (o : O) (more : List Token) → rest (suc n) left (token_of o ∷ more) ≡ go_on (q.read n more) (λ s behind. rest n (next left o s) behind)
  pub tokens_one : (s : S) → p.tokens (one s) ≡ q.tokens s
  pub tokens_next : (left : C) (o : O) (s : S) → p.tokens (next left o s) ≡ p.tokens left ++ token_of o ∷ q.tokens s
  pub depth_one : (s : S) → p.depth (one s) ≡ q.depth s
  pub depth_next : (left : C) (o : O) (s : S) → p.depth (next left o s) ≡ 1 + max (p.depth left) (q.depth s)
  pub lies_one : (s : S) (at : Pos) → p.lies (one s) at ≡ q.lies s at
  pub lies_next : (left : C) (o : O) (s : S) (at : Pos) → p.lies (next left o s) at ≡ over (begins (p.tokens left) at) (max (p.lies left at) (q.lies s at))
  pub low : (c : C) (at : Pos) → p.lies c at ≤ p.depth c
  pub alone : (at other : Pos) → (other ≡ at → ⊥) → q.lies (some at) other ≡ 0
  pub some_depth : (c : C) → 1 ≤ p.depth c
  pub deepest_one : (s : S) → p.deepest (one s) ≡ q.deepest s
  pub deepest_next : (left : C) (o : O) (s : S) → p.deepest (next left o s) ≡ deeper_of (p.depth left) (p.deepest left) (q.depth s) (q.deepest s)
  pub first : (c : C) → IsFirst (p.tokens c) (p.lies c) (p.depth c) (p.deepest c)
  pub tree_one : (s : S) → tree (one s) ≡ part_tree s
  pub tree_next : (left : C) (o : O) (s : S) → tree (next left o s) ≡ node o (tree left) (part_tree s)
  pub form_one : (s : S) → p.form (one s) ≡ q.form s
  pub form_next : (left : C) (o : O) (s : S) → p.form (next left o s) ≡ false
  pub rest_deep : (stop : Stop) (room n : ℕ) (left : C) (ts : List Token) → IsDeep stop room (p.lies left) → Only (λ c. IsDeep stop room (p.lies c)) (rest n left ts)
  pub leads : (c : C) → Leads p.read rest level (p.tokens c) c
  pub above : (o : O) → level < kind_level (token_of o).kind

module _ {C S O : Type 0} (p : Production C) (q : Production S) (tree : C → ExprTree) (part_tree : S → ExprTree) (level : ℕ) (one : S → C) (next : C → O → S → C) (token_of : O → Token)
    (node : O → ExprTree → ExprTree → ExprTree) (rest : ℕ → C → List Token → Read C) (chain : Chain p q tree part_tree level one next token_of node rest) where
  -- ---- what is read

  pub first_found : (room : ℕ) (before after : List Token) (part : Part) → Found q part_tree level room before part after → Found p tree level room before part after
  first_found room before after part f = record {
    written = one f.written;
    before_is = f.before_is ∙ ap (λ ts. ts ++ after) (sym (chain.tokens_one f.written));
    tree_is = f.tree_is ∙ sym (chain.tree_one f.written);
    height_is = f.height_is ∙ sym (chain.depth_one f.written);
    deepest_is = f.deepest_is ∙ sym (chain.deepest_one f.written);
    form_is = f.form_is ∙ sym (chain.form_one f.written);
    fits = f.fits;
    beyond = f.beyond;
  }

  pub next_found : (room inner : ℕ) (before middle behind after : List Token) (o : O) (left right part : Part) → Found p tree level room before left middle → middle ≡ token_of o ∷ behind → left.height < room → inner < room
      → Found q part_tree level inner behind right after → expr_of part.expr.value ≡ node o (expr_of left.expr.value) (expr_of right.expr.value) → part.height ≡ suc (max left.height right.height) → part.deepest ≡ deeper_of left.height left.deepest right.height right.deepest → part.is_target ≡ false
      → Found p tree level room before part after
  next_found room inner before middle behind after o left right part l taken less smaller r tree_is height deepest other = record {
    written = next l.written o r.written;
    before_is = l.before_is ∙ ap (λ ts. p.tokens l.written ++ ts) (taken ∙ ap (λ ts. token_of o ∷ ts) r.before_is) ∙ sym (append_assoc (p.tokens l.written) (token_of o ∷ q.tokens r.written) after)
        ∙ ap (λ ts. ts ++ after) (sym (chain.tokens_next l.written o r.written));
    tree_is = tree_is ∙ ap (λ e. node o e (expr_of right.expr.value)) l.tree_is ∙ ap (node o (tree l.written)) r.tree_is ∙ sym (chain.tree_next l.written o r.written);
    height_is = height ∙ over_both _ _ _ _ l.height_is r.height_is ∙ sym (chain.depth_next l.written o r.written);
    deepest_is = deepest ∙ deeper_same left.height right.height (p.depth l.written) (q.depth r.written) left.deepest right.deepest (p.deepest l.written) (q.deepest r.written) l.height_is l.deepest_is r.height_is r.deepest_is ∙ sym (chain.deepest_next l.written o r.written);
    form_is = other ∙ sym (chain.form_next l.written o r.written);
    fits = let small = r.fits in fits_above room left.height right.height part.height height less (omega (arith, small, smaller));
    beyond = r.beyond;
  }

  pub last_found : (higher room : ℕ) (before after : List Token) (part : Part) → Found p tree level room before part after → higher < next_level after → Found p tree higher room before part after
  last_found higher room before after part f beyond = record { written = f.written; before_is = f.before_is; tree_is = f.tree_is; height_is = f.height_is; deepest_is = f.deepest_is; form_is = f.form_is; fits = f.fits; beyond = beyond }

  -- ---- what is refused

  starts_inside : (room : ℕ) (behind : List Token) → Inside p room q room [] behind
  starts_inside room behind = record {
    begins = λ at b. record { some = one b; more = []; tokens_are = chain.tokens_one b ∙ sym (append-nil (q.tokens b)); within = λ other apart low. let is = chain.lies_one b other in omega (arith, is, low); deep = λ stop deep. deep_same stop room (q.lies b) (p.lies (one b)) (λ at. sym (chain.lies_one b at)) deep };
    finds = λ stop more first finds. finds_first _ _ p.read q.read (λ n s ts. rest n (one s) ts) more more (λ n. chain.read_is n more)
        (λ n b ts deep. chain.rest_deep stop room n (one b) ts (deep_same stop room (q.lies b) (p.lies (one b)) (λ at. sym (chain.lies_one b at)) deep)) finds;
  }

  pub first_refused : (room : ℕ) (before : List Token) (stop : Stop) → Refused q room before stop → Refused p room before stop
  first_refused room before stop is = refused_inside p room q room [] before stop (starts_inside room before) is

  right_deep : {room inner : ℕ} (stop : Stop) (left : C) (o : O) (b : S) → room ≤ suc inner → IsDeep stop inner (q.lies b) → IsDeep stop room (p.lies (next left o b))
  right_deep {room} {inner} stop left o b less deep = deeper stop inner (q.lies b) room (p.lies (next left o b)) deep
      (λ at some. let more_deep = over_right (begins (p.tokens left) at) (p.lies left at) (q.lies b at) some in let is = chain.lies_next left o b at in omega (arith, more_deep, less, is))

  goes_on_inside : (room inner : ℕ) (left : C) (o : O) (behind : List Token) → room ≤ suc inner → inner < room → p.depth left ≤ inner → Inside p room q inner (p.tokens left ++ token_of o ∷ []) behind
  goes_on_inside room inner left o behind less smaller fits = record {
    begins = λ at b. record {
      some = next left o b;
      more = [];
      tokens_are = chain.tokens_next left o b ∙ one_behind (p.tokens left) (token_of o) (q.tokens b);
      within = λ other apart low.
          let left_low = chain.low left other in
          let is = chain.lies_next left o b other in
          let whole = node_within (begins (p.tokens left) other) (p.lies left other) (q.lies b other) inner room smaller (omega (arith, left_low, fits)) low in
          omega (arith, is, whole);
      deep = λ stop deep. right_deep stop left o b less deep;
    };
    finds = λ stop more first finds. finds_same _ p.read _ _ (append_assoc (p.tokens left) (token_of o ∷ []) more)
        (finds_lead _ p.read rest level (p.tokens left) left (token_of o ∷ more) (chain.leads left) (chain.above o)
        (finds_first _ _ (λ n ts. rest n left ts) q.read (λ n s ts. rest n (next left o s) ts) (token_of o ∷ more) more (λ n. chain.step_is n left o more)
        (λ n b ts deep. chain.rest_deep stop room n (next left o b) ts (right_deep stop left o b less deep))
        finds));
  }

  pub next_refused : (room inner : ℕ) (before middle behind : List Token) (o : O) (left : Part) (stop : Stop) → Found p tree level room before left middle → middle ≡ token_of o ∷ behind → left.height < room → room ≤ suc inner
      → inner < room → Refused q inner behind stop → Refused p room before stop
  next_refused room inner before middle behind o left stop l taken fits less smaller is =
      refused_same p room _ _ stop (l.before_is ∙ ap (λ ts. p.tokens l.written ++ ts) taken ∙ sym (append_assoc (p.tokens l.written) (token_of o ∷ []) behind))
      (refused_inside p room q inner (p.tokens l.written ++ token_of o ∷ []) behind stop (goes_on_inside room inner l.written o behind less smaller (let same = l.height_is in omega (arith, fits, less, same))) is)

  pub too_deep : (room : ℕ) (before middle behind : List Token) (o : O) (left : Part) (stop : Stop) → Found p tree level room before left middle → middle ≡ token_of o ∷ behind → IsTooDeep left.height left.deepest room stop
      → Refused p room before stop
  too_deep room before middle behind o left stop l taken deep = full p room before (p.tokens l.written) (token_of o) behind left.height left.deepest stop deep
      (l.before_is ∙ ap (λ ts. p.tokens l.written ++ ts) taken) (begins_whole p room l.written (λ at. let low = chain.low l.written at in let is = l.height_is in let fits = l.fits in omega (arith, low, is, fits)))
      (first_full p room (p.tokens l.written) (token_of o) (next l.written o (chain.some left.deepest)) (q.tokens (chain.some left.deepest)) (begins (p.tokens l.written)) (p.lies l.written) (q.lies (chain.some left.deepest)) left.height (p.depth l.written)
      left.deepest (p.deepest l.written) (chain.tokens_next l.written o (chain.some left.deepest)) (chain.lies_next l.written o (chain.some left.deepest)) (chain.first l.written) l.deepest_is l.height_is (chain.some_depth l.written) l.fits
      (chain.alone left.deepest))
      (λ more. finds_lead _ p.read rest level (p.tokens l.written) l.written (token_of o ∷ more) (chain.leads l.written) (chain.above o)
      (finds_first (λ s. ⊤) _ (λ n ts. rest n l.written ts) q.read (λ n s ts. rest n (next l.written o s) ts) (token_of o ∷ more) more (λ n. chain.step_is n l.written o more)
      (λ n b ts any. chain.rest_deep (Here (TooDeep left.deepest)) left.height n (next l.written o b) ts
      (let is = l.height_is in let there : p.lies l.written left.deepest ≡ p.depth l.written = ap (p.lies l.written) l.deepest_is ∙ (chain.first l.written).lies_is in let some = chain.some_depth l.written in
      let more_deep = over_left (begins (p.tokens l.written) left.deepest) (p.lies l.written left.deepest) (q.lies b left.deepest) (omega (arith, there, some)) in
      let next_is = chain.lies_next l.written o b left.deepest in omega (arith, more_deep, is, there, next_is)))
      (finds_anything q.read more)))
