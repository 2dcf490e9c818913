-- What a flow still means is what it meant.
use Rattle.std.proofs.Common.{◌≡◌, ℕ, List, [], ◌∷◌, ◌++◌, refl, ap, sym, ◌∙◌}
use Rattle.std.proofs.Math.Path.{fun_ext}
use Rattle.prov_base.specs.declared.place.Pos.{Pos}
use Rattle.prov_base.specs.declared.place.Span.{Span}
use Rattle.py_tree.specs.Tree.{ExprTree, StmtTree, FormTree, SuiteTree, ScriptTree, one_stmt, more_suite}
use Rattle.py_model.specs.Act.{Act, How, ret, stop, perform, begin, close, enter, leave, to, ending}
use Rattle.py_model.specs.Expressions.{Here, Task, eval}
use Rattle.py_model.specs.Statements.{suite, rule, on_line, then_so}
use Rattle.interp_eval.proofs.Remaining.{started_means}
use Rattle.flow_frames.specs.Machine.{Frame, Now, Waits, a_stmt, Part, flow, frame, ended, in_suite, then_act, now_act, waits_act, resumes, remaining, start_eval}

-- trees of actions one behind the other
pub to_same : (a : Act) (f g : How → Act) → ((how : How) → f how ≡ g how) → to a f ≡ to a g
to_same a f g same = ap (to a) (fun_ext same)

pub to_to : (a : Act) (f g : How → Act) → to (to a f) g ≡ to a (λ how. to (f how) g)
to_to (ret how) f g = refl
to_to stop f g = refl
to_to (perform at what values next) f g = ap (perform at what values) (fun_ext (λ answer. fun_ext (λ came. to_to (next answer came) f g)))
to_to (begin number rest) f g = ap (begin number) (to_to rest f g)
to_to (close number how rest) f g = ap (close number how) (to_to rest f g)
to_to (enter at def names values next) f g = ap (enter at def names values) (fun_ext (λ activation. to_to (next activation) f g))
to_to (leave v rest) f g = ap (leave v) (to_to rest f g)

module _ (script : ScriptTree) (next : Task → Act) where
  -- a stack with one frame more goes on with what that frame does
  pub resumes_more : (fs : List Frame) (f : Frame) (go : How → Act) → resumes script next (fs ++ f ∷ []) go ≡ (λ how. to (waits_act script next f.here f.waits how) (resumes script next fs go))
  resumes_more [] f go = refl
  resumes_more (g ∷ fs) f go = resumes_more fs f (λ how. to (waits_act script next g.here g.waits how) go)

  -- what is begun above a new frame
  pub pushed : (here inner : Here) (now : Now) (waits : Waits) (fs : List Frame)
      → remaining script next (flow inner now (fs ++ frame here waits ∷ [])) ≡ to (to (now_act script next inner now) (waits_act script next here waits)) (resumes script next fs (λ how. ret how))
  unfolding remaining
  pushed here inner now waits fs =
      ap (to (now_act script next inner now)) (resumes_more fs (frame here waits) (λ how. ret how))
      ∙ sym (to_to (now_act script next inner now) (waits_act script next here waits) (resumes script next fs (λ how. ret how)))

  -- an end is handed to the innermost frame
  pub popped : (here : Here) (how : How) (f : Frame) (fs : List Frame)
      → remaining script next (flow here (ended how) (fs ++ f ∷ [])) ≡ to (waits_act script next f.here f.waits how) (resumes script next fs (λ how. ret how))
  unfolding remaining
  popped here how f fs = ap (λ (k : How → Act). k how) (resumes_more fs f (λ how. ret how))

  -- an end, and the frames with the innermost one last
  pub popped_on : (here : Here) (how : How) (f : Frame) (fs gs : List Frame) → gs ≡ fs ++ f ∷ []
      → remaining script next (flow here (ended how) gs) ≡ to (waits_act script next f.here f.waits how) (resumes script next fs (λ how. ret how))
  popped_on here how f fs gs same = ap (λ gs. remaining script next (flow here (ended how) gs)) same ∙ popped here how f fs

  pub evaluated : (here : Here) (e : ExprTree) (p : Part) → now_act script next here (start_eval e p) ≡ eval script next here e (then_act script next here p.at p.form p.stage)
  evaluated here e p = started_means script next here e (then_act script next here p.at p.form p.stage)

  pub pushed_on : (here inner : Here) (now : Now) (waits : Waits) (fs gs : List Frame) → gs ≡ fs ++ frame here waits ∷ []
      → remaining script next (flow inner now gs) ≡ to (to (now_act script next inner now) (waits_act script next here waits)) (resumes script next fs (λ how. ret how))
  pushed_on here inner now waits fs gs same = ap (λ gs. remaining script next (flow inner now gs)) same ∙ pushed here inner now waits fs

  pub started : (here : Here) (run body : SuiteTree) (fs : List Frame) → fs ≡ [] → run ≡ body → remaining script next (flow here (in_suite run) fs) ≡ to (suite script next here body) (λ how. ret how)
  unfolding remaining
  started here run body fs none same = ap (λ fs. to (suite script next here run) (resumes script next fs (λ how. ret how))) none ∙ ap (λ run. to (suite script next here run) (λ how. ret how)) same

  -- a statement that is opened, behind its begin
  pub stmt_opened : (here : Here) (number : ℕ) (at : Pos) (span : Span) (form : FormTree) (rest : SuiteTree) (fs : List Frame) (s : StmtTree) (now : Act)
      → s ≡ one_stmt number at span form → now ≡ rule script next (on_line at.line here) at form
      → remaining script next (flow here (in_suite (more_suite s rest)) fs) ≡ begin number (to (to now (waits_act script next here (a_stmt number rest))) (resumes script next fs (λ how. ret how)))
  unfolding remaining
  stmt_opened here number at span form rest fs s now same means =
      ap (λ s. to (suite script next here (more_suite s rest)) (resumes script next fs (λ how. ret how))) same
      ∙ ap (λ a. begin number (to a (resumes script next fs (λ how. ret how)))) (to_to (rule script next (on_line at.line here) at form) (λ how. close number (ending how) (ret how)) (then_so (suite script next here rest)))
      ∙ ap (λ a. begin number (to (to a (waits_act script next here (a_stmt number rest))) (resumes script next fs (λ how. ret how)))) (sym means)
