-- What is still to be done where a suite is next.
use Rattle.std.proofs.Common.{◌≡◌, List, [], ◌∷◌, map, refl, ap, sym, ◌∙◌, Bor}
use Rattle.py_tree.specs.declared.stmt.Stmt.{Stmt}
use Rattle.py_tree.specs.Erasure.{form_of, stmt_of}
use Rattle.py_tree.specs.Tree.{ScriptTree, more_suite}
use Rattle.py_tree.proofs.StmtTrees.{stmt_tree}
use Rattle.py_value.specs.Values.{ValuesView}
use Rattle.py_model.specs.Act.{Act, begin, ret, to, normal}
use Rattle.py_model.specs.Expressions.{Task}
use Rattle.py_model.specs.Statements.{rule, on_line}
use Rattle.flow_frames.specs.Machine.{flow, in_suite, ended, a_stmt, waits_act, resumes, remaining, now_act}
use Rattle.flow_frames.specs.Seen.{end_seen, frame_seen, here_seen, now_seen, stmts_seen}
use Rattle.flow_frames.specs.declared.control.End.{End}
use Rattle.flow_frames.specs.declared.control.Now.{Now}
use Rattle.flow_frames.specs.declared.control.Now.TheVariants.{Ended, InSuite}
use Rattle.flow_values.specs.Step.{doing_now, meant}
use Rattle.flow_frames.specs.declared.frames.FlowFrames.{FlowFrames}
use Rattle.flow_frames.proofs.Flows.{stmt_opened}

module _ (script : ScriptTree) (next : Task → Act) (table : ValuesView) (frames : FlowFrames) (stmts : Bor (List Stmt)) where
  pub in_front : (stmt : Stmt) (rest : List Stmt) → stmts.now ≡ stmt ∷ rest
      → doing_now script frames (InSuite stmts) table next ≡ remaining script next (flow (here_seen script table frames.spot) (in_suite (more_suite (stmt_of stmt) (stmts_seen rest))) (map (frame_seen script table) frames.below.items))
  in_front stmt rest split =
      ap (λ ss. remaining script next (flow (here_seen script table frames.spot) (in_suite (stmts_seen ss)) (map (frame_seen script table) frames.below.items))) split

  -- what follows the begin of the first statement
  abbrev pub behind_begin : Stmt → List Stmt → Act
  behind_begin stmt rest =
      to (to (rule script next (on_line stmt.pos.line (here_seen script table frames.spot)) stmt.pos (form_of stmt.form.value)) (waits_act script next (here_seen script table frames.spot) (a_stmt stmt.no (stmts_seen rest))))
      (resumes script next (map (frame_seen script table) frames.below.items) (λ how. ret how))

  pub begins_first : (stmt : Stmt) (rest : List Stmt) → stmts.now ≡ stmt ∷ rest → doing_now script frames (InSuite stmts) table next ≡ begin stmt.no (behind_begin stmt rest)
  begins_first stmt rest split =
      in_front stmt rest split
      ∙ stmt_opened script next (here_seen script table frames.spot) stmt.no stmt.pos stmt.span (form_of stmt.form.value) (stmts_seen rest) (map (frame_seen script table) frames.below.items) (stmt_of stmt) _ (stmt_tree stmt) refl

  pub at_end : stmts.now ≡ [] → doing_now script frames (InSuite stmts) table next ≡ remaining script next (flow (here_seen script table frames.spot) (ended normal) (map (frame_seen script table) frames.below.items))
  unfolding remaining
  at_end none = ap (λ ss. remaining script next (flow (here_seen script table frames.spot) (in_suite (stmts_seen ss)) (map (frame_seen script table) frames.below.items))) none

-- what is done at the same place, with what follows it
pub goes_on : (script : ScriptTree) (next : Task → Act) (table : ValuesView) (old new : FlowFrames) (a : Act) → now_act script next (here_seen script table new.spot) (now_seen table new.now) ≡ a
    → new.below.items ≡ old.below.items → to a (resumes script next (map (frame_seen script table) old.below.items) (λ how. ret how)) ≡ meant script new table next
unfolding remaining
goes_on script next table old new a same below =
    ap (λ a. to a (resumes script next (map (frame_seen script table) old.below.items) (λ how. ret how))) (sym same)
    ∙ ap (λ fs. to (now_act script next (here_seen script table new.spot) (now_seen table new.now)) (resumes script next (map (frame_seen script table) fs) (λ how. ret how))) (sym below)

-- nothing waits any more
pub at_last : (script : ScriptTree) (next : Task → Act) (table : ValuesView) (frames : FlowFrames) (end : End) → frames.below.items ≡ [] → doing_now script frames (Ended end) table next ≡ ret (end_seen table end)
unfolding remaining
at_last script next table frames end none =
    ap (λ fs. resumes script next (map (frame_seen script table) fs) (λ how. ret how) (end_seen table end)) none

-- what is done at the spot of frames
pub now_does : (script : ScriptTree) (next : Task → Act) (table : ValuesView) (frames : FlowFrames) (now : Now)
    → doing_now script frames now table next ≡ to (now_act script next (here_seen script table frames.spot) (now_seen table now)) (resumes script next (map (frame_seen script table) frames.below.items) (λ how. ret how))
unfolding remaining
now_does script next table frames now = refl
