-- What the rules give for a kept statement in the script and in its slice, and for a suite: the same but for statements that are not kept, and
-- for the `pass` of a suite that is emptied.
use Rattle.std.proofs.Common.{◌≡◌, ◌+◌, ℕ, zero, suc, Bool, true, false, if◌then◌else◌, List, [], ◌∷◌, ◌++◌, Option, Some, None, refl, sym, ap, subst, inl}
use Rattle.std.specs.Prelude.{⊤}
use Rattle.prov_base.specs.declared.place.Pos.{Pos}
use Rattle.prov_base.specs.declared.place.Span.{Span}
use Rattle.py_tree.specs.declared.stmt.Bound.{Bound}
use Rattle.py_tree.specs.Tree.{number_of, ExprTree, TargetTree, StmtTree, FormTree, SuiteTree, BranchesTree, ElseTree, HandlersTree, ScriptTree, one_stmt, do_form, assign_form, aug_form, del_form, pass_form, break_form, continue_form, return_form, raise_form, assert_form, import_form, if_form, while_form, for_form, try_form, with_form, def_form, class_form, end_suite, more_suite, end_branches, more_branches, no_else, else_suite, end_handlers, more_handlers}
use Rattle.py_value.specs.Contents.{Contents, object}
use Rattle.py_model.specs.Act.{Act, How, ret, begin, close, to, ending, normal, broke, continued, returned, threw}
use Rattle.py_model.specs.Expressions.{Here, Task, while_again, for_again}
use Rattle.py_tree.specs.Functions.{Function, expr_place, function_at}
use Rattle.py_model.specs.Going.{Open, a_statement, an_activation}
use Rattle.py_model.specs.Statements.{on_line, handling, in_class_of, binding, unbinding, turned, then_so, raised_value, store, while_turn, for_turn, clause, caught, matching, class_body, failed_assert, defining, suite, stmt, rule, choose, otherwise, handle, task}
use Rattle.slice_law.specs.Closed.{StmtSet}
use Rattle.py_tree.specs.Deletion.{or_pass, kept_suite, kept_stmt, kept_form, kept_branches, kept_else, kept_handlers}
use Rattle.py_tree.specs.Numbering.{size_stmt, size_suite, size_branches, numbered_stmt, numbered_form, numbered_suite, numbered_branches, numbered_else, numbered_handlers}
use Rattle.py_model.specs.Meaning.{level}
use Rattle.py_model.specs.Moment.{Moment, normal_end}
use Rattle.slice_simulation.proofs.Beside.{Ground, on_bind, on_unbind, on_import, SameHow, both_normal, both_broke, both_continued, both_returned, both_threw, TopIsKept, Beside, unreached, both_ret, stopped, both_begin, alone_begin, pass_begin, both_close, alone_close, abrupt_close, less, beside_to, beside_after}
use Rattle.slice_simulation.proofs.KeptOperations.{Same, AllSame, In, SameClass, no_class, one_class, SameHandled, none_handled, one_handled, BothHere, truth_both, none_same, nothing_same, more_same, one_same, plain_op, whole_op, module_same, ended, in_less, doing_on, doing_both, doing_or_on, doing_named, asking_on, asking_both}
use Rattle.slice_simulation.proofs.KeptExpressions.{FunctionsFit, BodiesBoth, eval_both, store_both, augment_both, unset_both}
use Rattle.slice_simulation.proofs.OutsideRules.{FoundStarts, Alone, TurnsAlone, BodiesAlone, under_none, rule_alone, bodies_out, levels_alone}
use Rattle.slice_simulation.specs.Cut.{SameFunction}
use Rattle.slice_simulation.specs.Renaming.{all_marks}
use Rattle.slice_simulation.proofs.Standing.{AllOwned, owned_left, owned_right}
use Rattle.slice_simulation.proofs.EmptiedSuites.{lone_of, lone_suite, lone_form, lone_branches, lone_else, lone_handlers, lone_body}
use Rattle.slice_simulation.specs.Owned.{started_suite, started_stmt, started_form, started_branches, started_else, started_handlers}
use Rattle.slice_simulation.specs.Under.{UnderSuite, UnderStmt, UnderForm, UnderBranches, UnderElse, UnderHandlers}

-- P holds of the statements of the script, Q of those of the slice, and R of those at whose place nothing stands in the slice.
module _ (ground : Ground) (P Q R : ℕ → Pos → Type 0) (pairs : (s n : ℕ) (at : Pos) → P s at → Q n at → ground.paired s n) (keep : StmtSet)
    (alone : (n : ℕ) (at : Pos) → P n at → R n at → (m : ℕ) → ground.paired n m → ⊥) (undefined : (n : ℕ) (at : Pos) → P n at → keep n ≡ false → ground.known at ≡ false) (upto : List Moment) where
  -- at module level, or inside a kept statement
  abbrev pub Suites : ℕ → Act → Act → Type 0
  Suites k a b = (from : List Open) → TopIsKept keep from → Beside ground keep (all_marks keep upto) k from from a b

  -- what is kept of a suite whose owner is kept, numbered from m on
  abbrev pub rest_of_suite : ℕ → SuiteTree → SuiteTree
  rest_of_suite m body = numbered_suite m (or_pass body (kept_suite keep body))

  -- a further turn of a loop, in both
  pub data SameTask : Task → Task → Type 0 where
    same_while : {here there : Here} {test : ExprTree} {body : SuiteTree} (m : ℕ) → BothHere ground keep upto here there → UnderSuite keep true body → AllOwned P (started_suite body) → AllOwned Q (started_suite (rest_of_suite m body))
        → AllOwned R (lone_body keep body)
        → SameTask (while_again here test body) (while_again there test (rest_of_suite m body))
    same_for : {here there : Here} {at : Pos} {target : TargetTree} {body : SuiteTree} {turns : ℕ} {v w x y : Contents} (m : ℕ) → BothHere ground keep upto here there → UnderSuite keep true body → AllOwned P (started_suite body)
        → AllOwned Q (started_suite (rest_of_suite m body)) → AllOwned R (lone_body keep body)
        → Same ground keep upto v w → Same ground keep upto x y → SameTask (for_again here at target body v turns x) (for_again there at target (rest_of_suite m body) w turns y)

  abbrev pub TurnsBoth : ℕ → (Task → Act) → (Task → Act) → Type 0
  TurnsBoth k next other = (what task : Task) → SameTask what task → In ground keep upto k (next what) (other task)

  -- what stands in the suites of a function of the script and of the slice
  pub record CalleeFits (f g : Function) : Type 0 where
    pub same : SameFunction keep f g
    pub under : UnderSuite keep true f.body
    pub ins : AllOwned P (started_suite f.body)
    pub outs : AllOwned Q (started_suite g.body)
    pub lone : AllOwned R (lone_body keep f.body)

  abbrev pub CalleesFit : ScriptTree → ScriptTree → Type 0
  CalleesFit script cut = (place : Pos) (f g : Function) → function_at script place ≡ Some f → function_at cut place ≡ Some g → CalleeFits f g

  -- what the rules are given, in both: further turns of loops, and suites of functions
  pub record TasksBoth (script cut : ScriptTree) (k : ℕ) (next other : Task → Act) : Type 0 where
    pub turns : TurnsBoth k next other
    pub calls : BodiesBoth ground keep upto script cut k next other

  turned_both : {k : ℕ} {a b : Act} → In ground keep upto k a b → (how other : How) → SameHow (all_marks keep upto) how other → In ground keep upto k (turned a how) (turned b other)
  turned_both going _ _ both_normal = going
  turned_both going _ _ both_continued = going
  turned_both going _ _ both_broke = ended ground keep upto both_normal
  turned_both going _ _ (both_returned same) = ended ground keep upto (both_returned same)
  turned_both going _ _ (both_threw same) = ended ground keep upto (both_threw same)

  so_both : {k : ℕ} {a b : Act} → Suites k a b → (how other : How) → SameHow (all_marks keep upto) how other → Suites k (then_so a how) (then_so b other)
  so_both going _ _ both_normal = going
  so_both going _ _ both_continued = λ from top. both_ret both_continued
  so_both going _ _ both_broke = λ from top. both_ret both_broke
  so_both going _ _ (both_returned same) = λ from top. both_ret (both_returned same)
  so_both going _ _ (both_threw same) = λ from top. both_ret (both_threw same)

  in_to : {k : ℕ} {a b : Act} {f g : How → Act} → In ground keep upto k a b → ((how other : How) → SameHow (all_marks keep upto) how other → In ground keep upto k (f how) (g other)) → In ground keep upto k (to a f) (to b g)
  in_to first each n from kept = beside_to ground keep (all_marks keep upto) (first n from kept) (λ how other same. each how other same n from kept)

  in_suite : {k : ℕ} {a b : Act} → Suites k a b → In ground keep upto k a b
  in_suite suites n from kept = suites (a_statement n ∷ from) kept

  -- how a statement ends in both, and in the script's run alone
  close_both : {k n m : ℕ} {from : List Open} (how other : How) → keep n ≡ true → ground.paired n m → SameHow (all_marks keep upto) how other
      → Beside ground keep (all_marks keep upto) k (a_statement n ∷ from) from (close n (ending how) (ret how)) (close m (ending other) (ret other))
  close_both _ _ kept named both_normal = both_close kept named (both_ret both_normal)
  close_both _ _ kept named both_broke = both_close kept named (both_ret both_broke)
  close_both _ _ kept named both_continued = both_close kept named (both_ret both_continued)
  close_both _ _ kept named (both_returned same) = both_close kept named (both_ret (both_returned same))
  close_both _ _ kept named (both_threw same) = both_close kept named (both_ret (both_threw same))

  close_alone : {k n : ℕ} {from : List Open} → keep n ≡ false → TopIsKept keep from → (how : How)
      → Beside ground keep (all_marks keep upto) k (a_statement n ∷ from) from (close n (ending how) (ret how)) (ret normal)
  close_alone out top normal = alone_close out (both_ret both_normal)
  close_alone out top broke = abrupt_close out top (λ is. cc)
  close_alone out top continued = abrupt_close out top (λ is. cc)
  close_alone out top (returned v) = abrupt_close out top (λ is. cc)
  close_alone out top (threw o line) = abrupt_close out top (λ is. cc)

  -- of a kept statement
  abbrev lone_inside : StmtTree → List (ℕ × Pos)
  lone_inside (one_stmt number at span form) = lone_form keep form

  -- where no statement is kept, all of them are lone
  emptied_lone : (body : SuiteTree) → kept_suite keep body ≡ end_suite → lone_suite keep body ≡ started_suite body
  emptied_lone end_suite is = refl
  emptied_lone (more_suite (one_stmt number at span form) rest) is = by_test (keep number) is (emptied_lone rest)
    where
      by_test : (test : Bool) → (if test then more_suite (kept_stmt keep (one_stmt number at span form)) (kept_suite keep rest) else kept_suite keep rest) ≡ end_suite
          → (kept_suite keep rest ≡ end_suite → lone_suite keep rest ≡ started_suite rest)
          → (if test then lone_form keep form else (number, at) ∷ started_form form) ++ lone_suite keep rest ≡ ((number, at) ∷ started_form form) ++ started_suite rest
      by_test true is later = absurd cc
      by_test false is later = ap (λ (more : List (ℕ × Pos)). ((number, at) ∷ started_form form) ++ more) (later is)

  -- of all that a statement has: what holds of it in the script, and that it is lone
  abbrev pub AloneAt : ℕ → Pos → Type 0
  AloneAt n at = P n at × R n at

  pub whole : (n : ℕ) (at : Pos) → AloneAt n at → P n at
  whole n at both = both.0

  pub alone_at : (n : ℕ) (at : Pos) → AloneAt n at → (m : ℕ) → ground.paired n m → ⊥
  alone_at n at both = alone n at both.0 both.1

  lone_among : (starts : List (ℕ × Pos)) → AllOwned P starts → AllOwned R starts → AllOwned AloneAt starts
  lone_among starts ins lone = record { each = λ n at there. (ins.each n at there, lone.each n at there) }

  raised_same : {one other : Option ℕ} → SameHandled ground keep upto one other → AllSame ground keep upto (raised_value one) (raised_value other)
  raised_same none_handled = none_same ground keep upto
  raised_same (one_handled same) = one_same ground keep upto same

  on_line_both : {here there : Here} (line : ℕ) → BothHere ground keep upto here there → BothHere ground keep upto (on_line line here) (on_line line there)
  on_line_both line both = record { functions = both.functions; open_is = both.open_is; line_is = refl; handled = both.handled; classes = both.classes }

  in_class_both : {here there : Here} {v w : Contents} → Same ground keep upto v w → BothHere ground keep upto here there → BothHere ground keep upto (in_class_of v here) (in_class_of w there)
  in_class_both same both = record { functions = both.functions; open_is = both.open_is; line_is = both.line_is; handled = both.handled; classes = one_class same }

  handling_both : {here there : Here} {o e : ℕ} → Same ground keep upto (object o) (object e) → BothHere ground keep upto here there → BothHere ground keep upto (handling o here) (handling e there)
  handling_both same both = record { functions = both.functions; open_is = both.open_is; line_is = both.line_is; handled = one_handled same; classes = both.classes }

  module _ (script cut : ScriptTree) (fits : FunctionsFit ground keep upto script cut) (callees : CalleesFit script cut) (starts : (place : Pos) → FoundStarts P (function_at script place)) (next other : Task → Act) where
    fewer_calls : {k : ℕ} → BodiesBoth ground keep upto script cut (suc k) next other → BodiesBoth ground keep upto script cut k next other
    fewer_calls {k} calls here there both place f g here_is there_is from inner = less ground keep (all_marks keep upto) k (calls here there both place f g here_is there_is from inner)

    stored_both : (k : ℕ) → BodiesBoth ground keep upto script cut k next other → (here there : Here) → BothHere ground keep upto here there → (at : Pos) (target : TargetTree) (v w : Contents) {a b : Act} → Same ground keep upto v w
        → In ground keep upto k a b
        → In ground keep upto k (store script next here at target v a) (store cut other there at target w b)
    stored_both zero calls here there both at target v w same going n from kept = unreached
    stored_both (suc j) calls here there both at target v w same going n from kept = store_both ground keep upto script cut fits next other j (fewer_calls calls) here there both at target v w same going n from kept

    module _ (k : ℕ) (calls : BodiesBoth ground keep upto script cut k next other) where
      for_both : (here there : Here) → BothHere ground keep upto here there → (at : Pos) (target : TargetTree) (v w : Contents) (turns : ℕ) (x y : Contents) {run ran again anew : Act}
          → Same ground keep upto v w → Same ground keep upto x y → In ground keep upto (suc k) run ran → In ground keep upto k again anew
          → In ground keep upto (suc k) (for_turn script next here at target run v turns x again) (for_turn cut other there at target ran w turns y anew)
      for_both here there both at target v w turns x y same size body again =
          doing_or_on ground keep upto here there both.line_is at (plain_op ground keep upto 37) (more_same ground keep upto same (more_same ground keep upto (record { is = λ r fits. refl }) (one_same ground keep upto size)))
          (λ item thing is. stored_both k calls here there both at target item thing is (in_to (in_less ground keep upto k body) (turned_both again)))

      while_both : (here there : Here) → BothHere ground keep upto here there → (test : ExprTree) {run ran again anew : Act} → In ground keep upto (suc k) run ran → In ground keep upto k again anew
          → In ground keep upto (suc k) (while_turn script next here test run again) (while_turn cut other there test ran anew)
      while_both here there both test body again =
          eval_both ground keep upto script cut fits next other k calls here there both test (λ v w same. asking_on ground keep upto here there both.line_is (expr_place test) v w same
          (in_to (in_less ground keep upto k body) (turned_both again)) (ended ground keep upto both_normal))

      binding_both : (here there : Here) → BothHere ground keep upto here there → (bound : Option Bound) (v w : Contents) {a b : Act} → Same ground keep upto v w → In ground keep upto (suc k) a b
          → In ground keep upto (suc k) (binding here bound v a) (binding there bound w b)
      binding_both here there both None v w same going = going
      binding_both here there both (Some bound) v w same going =
          doing_named ground keep upto 33 on_bind here there both bound.at bound.name (nothing_same ground keep upto) (one_same ground keep upto same) (λ x y is. going)

      caught_both : (f g : ℕ → ℕ → Act) → ((o e line : ℕ) → Same ground keep upto (object o) (object e) → In ground keep upto (suc k) (f o line) (g e line))
          → (how other_how : How) → SameHow (all_marks keep upto) how other_how → In ground keep upto (suc k) (caught script next f how) (caught cut other g other_how)
      caught_both f g each _ _ both_normal = ended ground keep upto both_normal
      caught_both f g each _ _ both_broke = ended ground keep upto both_broke
      caught_both f g each _ _ both_continued = ended ground keep upto both_continued
      caught_both f g each _ _ (both_returned same) = ended ground keep upto (both_returned same)
      caught_both f g each _ _ (both_threw {o = o} {p = e} {line = line} same) = each o e line same

      unbinding_both : (here there : Here) → BothHere ground keep upto here there → (bound : Option Bound) {a b : Act} → In ground keep upto (suc k) a b
          → In ground keep upto (suc k) (unbinding here bound a) (unbinding there bound b)
      unbinding_both here there both None going = going
      unbinding_both here there both (Some bound) going =
          doing_named ground keep upto 34 on_unbind here there both bound.at bound.name (record { is = λ r fits. refl }) (none_same ground keep upto) (λ x y is. going)

      -- the clause of a handler, with the exception that is handled
      clause_both : (here there : Here) → BothHere ground keep upto here there → (bound : Option Bound) (o e : ℕ) {run ran : Act} → Same ground keep upto (object o) (object e) → In ground keep upto (suc k) run ran
          → In ground keep upto (suc k) (clause script next here bound o run) (clause cut other there bound e ran)
      clause_both here there both bound o e same body =
          binding_both here there both bound (object o) (object e) same (in_to body (λ how other_how is. unbinding_both here there both bound (ended ground keep upto is)))

      matching_both : (here there : Here) → BothHere ground keep upto here there → (at : Pos) (kind : ExprTree) (o e : ℕ) {a b c d : Act} → Same ground keep upto (object o) (object e)
          → In ground keep upto (suc k) a b → In ground keep upto (suc k) c d → In ground keep upto (suc k) (matching script next here at kind o a c) (matching cut other there at kind e b d)
      matching_both here there both at kind o e same hit miss =
          eval_both ground keep upto script cut fits next other k calls here there both kind (λ v w is.
          doing_on ground keep upto here there both.line_is at (plain_op ground keep upto 41) (more_same ground keep upto same (one_same ground keep upto is))
          (λ x y found. truth_both ground keep upto x y found (in_less ground keep upto k hit) (in_less ground keep upto k miss)))

      failed_both : (here there : Here) → BothHere ground keep upto here there → (at : Pos) (message : Option ExprTree)
          → In ground keep upto (suc k) (failed_assert script next here at message) (failed_assert cut other there at message)
      failed_both here there both at None = doing_both ground keep upto here there both.line_is at (plain_op ground keep upto 47) (none_same ground keep upto) (λ x y is. ended ground keep upto both_normal)
      failed_both here there both at (Some message) =
          eval_both ground keep upto script cut fits next other k calls here there both message (λ v w same.
          doing_both ground keep upto here there both.line_is at (plain_op ground keep upto 47) (one_same ground keep upto same) (λ x y is. ended ground keep upto both_normal))

      defining_both : (here there : Here) → BothHere ground keep upto here there → (at : Pos) (name : List ℕ) (of onto : Option Contents) → SameClass ground keep upto of onto
          → In ground keep upto (suc k) (defining script next here at name of) (defining cut other there at name onto)
      defining_both here there both at name _ _ no_class =
          doing_both ground keep upto here there both.line_is at (whole_op ground keep upto 42 name (record { is = λ r fits. refl })) (none_same ground keep upto) (λ x y is. ended ground keep upto both_normal)
      defining_both here there both at name _ _ (one_class same) =
          doing_both ground keep upto here there both.line_is at (whole_op ground keep upto 42 name (record { is = λ r fits. refl })) (one_same ground keep upto same) (λ x y is. ended ground keep upto both_normal)

      class_body_both : (here there : Here) → BothHere ground keep upto here there → (at : Pos) (name : List ℕ) (vs ws : List Contents) {run ran : Contents → Act} → AllSame ground keep upto vs ws
          → ((v w : Contents) → Same ground keep upto v w → In ground keep upto (suc k) (run v) (ran w))
          → In ground keep upto (suc k) (class_body script next here at name run vs) (class_body cut other there at name ran ws)
      class_body_both here there both at name vs ws all body =
          doing_both ground keep upto here there both.line_is at (whole_op ground keep upto 43 name (record { is = λ r fits. refl })) all (λ v w same.
          in_to (body v w same) (in_so (doing_named ground keep upto 33 on_bind here there both at name (nothing_same ground keep upto) (one_same ground keep upto same) (λ x y is. ended ground keep upto both_normal))))
        where
          in_so : {a b : Act} → In ground keep upto (suc k) a b → (how other_how : How) → SameHow (all_marks keep upto) how other_how → In ground keep upto (suc k) (then_so a how) (then_so b other_how)
          in_so going _ _ both_normal = going
          in_so going _ _ both_continued = ended ground keep upto both_continued
          in_so going _ _ both_broke = ended ground keep upto both_broke
          in_so going _ _ (both_returned same) = ended ground keep upto (both_returned same)
          in_so going _ _ (both_threw same) = ended ground keep upto (both_threw same)

      module _ (tasks : TurnsBoth k next other) (bodies : BodiesAlone ground P AloneAt keep whole undefined alone_at next)
          (turns : (what : Task) → TurnsAlone ground P AloneAt keep whole undefined alone_at what → Alone ground P AloneAt keep whole undefined alone_at (next what)) where
        -- a statement that is not kept: in the script's run alone, and where `pass` stands
        inside_alone : (here : Here) (number : ℕ) (at : Pos) (form : FormTree) → keep number ≡ false → UnderForm keep (keep number) form → P number at → AllOwned P (started_form form)
            → AllOwned R (started_form form) → (from : List Open) → TopIsKept keep from
            → Beside ground keep (all_marks keep upto) (suc k) (a_statement number ∷ from) from
            (to (rule script next (on_line at.line here) at form) (λ how. close number (ending how) (ret how))) (ret normal)
        inside_alone here number at form out under own ins lone from top =
            beside_after ground keep (all_marks keep upto) (rule_alone ground P AloneAt keep whole undefined alone_at script starts next bodies turns (on_line at.line here) at (undefined number at own out) form
            (under_none keep number form out under) (lone_among (started_form form) ins lone) number from out)
            (close_alone out top)

        stmt_alone : (here : Here) (number : ℕ) (at : Pos) (span : Span) (form : FormTree) → keep number ≡ false → UnderForm keep (keep number) form → AllOwned P ((number, at) ∷ started_form form)
            → AllOwned R ((number, at) ∷ started_form form) → Suites (suc k) (stmt script next here (one_stmt number at span form)) (ret normal)
        stmt_alone here number at span form out under ins lone from top =
            alone_begin out (inl (alone number at (ins.each number at (inl refl)) (lone.each number at (inl refl))))
            (inside_alone here number at form out under (ins.each number at (inl refl)) (owned_right ((number, at) ∷ []) ins) (owned_right ((number, at) ∷ []) lone) from top)

        stmt_passed : (here : Here) (number m : ℕ) (at : Pos) (span : Span) (form : FormTree) → ground.paired number m → keep number ≡ false → UnderForm keep (keep number) form
            → AllOwned P ((number, at) ∷ started_form form) → AllOwned R (started_form form) → Suites (suc k) (stmt script next here (one_stmt number at span form)) (begin m (close m normal_end (ret normal)))
        stmt_passed here number m at span form named out under ins lone from top =
            pass_begin out named (less ground keep (all_marks keep upto) k
            (inside_alone here number at form out under (ins.each number at (inl refl)) (owned_right ((number, at) ∷ []) ins) lone from top))

        -- a suite whose owner is kept: where a statement of it is kept, and where `pass` stands for all of them
        abbrev Passed : Here → ℕ → SuiteTree → Type 0
        Passed here m end_suite = ⊤
        Passed here m (more_suite (one_stmt number at span form) rest) = kept_suite keep (more_suite (one_stmt number at span form) rest) ≡ end_suite → ground.paired number m
            → AllOwned R (started_form form ++ started_suite rest)
            → Suites (suc k) (suite script next here (more_suite (one_stmt number at span form) rest)) (begin m (close m normal_end (ret normal)))

        record SuiteBoth (here there : Here) (m : ℕ) (body : SuiteTree) : Type 0 where
          some : AllOwned R (lone_suite keep body) → Suites (suc k) (suite script next here body) (suite cut other there (numbered_suite m (kept_suite keep body)))
          passed : Passed here m body

        rest_from : (here there : Here) (m : ℕ) (body : SuiteTree) → AllOwned P (started_suite body) → AllOwned Q (started_suite (rest_of_suite m body)) → AllOwned R (lone_body keep body)
            → SuiteBoth here there m body → Suites (suc k) (suite script next here body) (suite cut other there (rest_of_suite m body))
        rest_from here there m end_suite ins outs lone both = both.some lone
        rest_from here there m (more_suite (one_stmt number at span form) rest) ins outs lone both = by_kept (kept_suite keep (more_suite (one_stmt number at span form) rest)) refl outs lone
          where
            by_kept : (kept : SuiteTree) → kept_suite keep (more_suite (one_stmt number at span form) rest) ≡ kept
                → AllOwned Q (started_suite (numbered_suite m (or_pass (more_suite (one_stmt number at span form) rest) kept)))
                → AllOwned R (lone_of (more_suite (one_stmt number at span form) rest) kept (lone_suite keep (more_suite (one_stmt number at span form) rest)))
                → Suites (suc k) (suite script next here (more_suite (one_stmt number at span form) rest))
                (suite cut other there (numbered_suite m (or_pass (more_suite (one_stmt number at span form) rest) kept)))
            by_kept end_suite is outs lone = both.passed is (pairs number m at (ins.each number at (inl refl)) (outs.each m at (inl refl))) lone
            by_kept (more_suite s more) is outs lone =
                subst (λ kept. Suites (suc k) (suite script next here (more_suite (one_stmt number at span form) rest)) (suite cut other there (numbered_suite m kept))) is (both.some lone)

        -- what of it is there without the `pass`
        rest_outs : (m : ℕ) (body kept : SuiteTree) → AllOwned Q (started_suite (numbered_suite m (or_pass body kept))) → AllOwned Q (started_suite (numbered_suite m kept))
        rest_outs m end_suite kept outs = outs
        rest_outs m (more_suite s rest) end_suite outs = record { each = λ n at there. absurd there }
        rest_outs m (more_suite s rest) (more_suite first more) outs = outs

        mutual
          suite_both : (here there : Here) → BothHere ground keep upto here there → (m : ℕ) (body : SuiteTree) → UnderSuite keep true body
              → AllOwned P (started_suite body) → AllOwned Q (started_suite (numbered_suite m (kept_suite keep body))) → SuiteBoth here there m body
          suite_both here there both m end_suite under ins outs = record { some = λ lone from top. both_ret both_normal; passed = tt }
          suite_both here there both m (more_suite (one_stmt number at span form) rest) under ins outs = record {
            some = by_test (keep number) refl outs (λ kept outs lone. stmt_both here there both m (one_stmt number at span form) kept under.0 (owned_left _ ins) outs lone)
                (λ first outs lone. (suite_both here there both first rest under.1 (owned_right (started_stmt (one_stmt number at span form)) ins) outs).some lone);
            passed = passing (keep number) refl (λ outs lone. (suite_both here there both m rest under.1 (owned_right (started_stmt (one_stmt number at span form)) ins) outs).some lone);
          }
            where
              by_test : (test : Bool) → keep number ≡ test
                  → AllOwned Q (started_suite (numbered_suite m (if test then more_suite (kept_stmt keep (one_stmt number at span form)) (kept_suite keep rest) else kept_suite keep rest)))
                  → (keep number ≡ true → AllOwned Q (started_stmt (numbered_stmt m (kept_stmt keep (one_stmt number at span form)))) → AllOwned R (lone_form keep form)
                  → Suites (suc k) (stmt script next here (one_stmt number at span form)) (stmt cut other there (numbered_stmt m (kept_stmt keep (one_stmt number at span form)))))
                  → ((first : ℕ) → AllOwned Q (started_suite (numbered_suite first (kept_suite keep rest))) → AllOwned R (lone_suite keep rest)
                  → Suites (suc k) (suite script next here rest) (suite cut other there (numbered_suite first (kept_suite keep rest))))
                  → AllOwned R ((if test then lone_form keep form else (number, at) ∷ started_form form) ++ lone_suite keep rest)
                  → Suites (suc k) (suite script next here (more_suite (one_stmt number at span form) rest))
                  (suite cut other there (numbered_suite m (if test then more_suite (kept_stmt keep (one_stmt number at span form)) (kept_suite keep rest) else kept_suite keep rest)))
              by_test true is outs first others lone from top =
                  beside_to ground keep (all_marks keep upto) (first is (owned_left _ outs) (owned_left _ lone) from top)
                  (λ how other_how same. so_both (others (m + size_stmt (kept_stmt keep (one_stmt number at span form))) (owned_right (started_stmt (numbered_stmt m (kept_stmt keep (one_stmt number at span form)))) outs)
                  (owned_right (lone_form keep form) lone)) how other_how same from top)
              by_test false is outs first others lone from top =
                  beside_to ground keep (all_marks keep upto) {b = ret normal} {g = then_so (suite cut other there (numbered_suite m (kept_suite keep rest)))}
                  (stmt_alone here number at span form is under.0.1 (owned_left _ ins) (owned_left _ lone) from top)
                  (λ how other_how same. so_both (others m outs (owned_right ((number, at) ∷ started_form form) lone)) how other_how same from top)

              passing : (test : Bool) → keep number ≡ test
                  → (AllOwned Q (started_suite (numbered_suite m (kept_suite keep rest))) → AllOwned R (lone_suite keep rest)
                  → Suites (suc k) (suite script next here rest) (suite cut other there (numbered_suite m (kept_suite keep rest))))
                  → (if test then more_suite (kept_stmt keep (one_stmt number at span form)) (kept_suite keep rest) else kept_suite keep rest) ≡ end_suite → ground.paired number m
                  → AllOwned R (started_form form ++ started_suite rest) → Suites (suc k) (suite script next here (more_suite (one_stmt number at span form) rest)) (begin m (close m normal_end (ret normal)))
              passing true kept others is named lone from top = absurd cc
              passing false out others is named lone from top =
                  beside_to ground keep (all_marks keep upto) {b = begin m (close m normal_end (ret normal))} {g = then_so (ret normal)}
                  (stmt_passed here number m at span form named out under.0.1 (owned_left _ ins) (owned_left _ lone) from top)
                  (λ how other_how same. so_both (subst (λ kept. Suites (suc k) (suite script next here rest) (suite cut other there (numbered_suite m kept))) is
                  (others (subst (λ kept. AllOwned Q (started_suite (numbered_suite m kept))) (sym is) (record { each = λ n place there. absurd there }))
                  (subst (AllOwned R) (sym (emptied_lone rest is)) (owned_right (started_form form) lone)))) how other_how same from top)

          stmt_both : (here there : Here) → BothHere ground keep upto here there → (m : ℕ) (s : StmtTree) → keep (number_of s) ≡ true → UnderStmt keep true s
              → AllOwned P (started_stmt s) → AllOwned Q (started_stmt (numbered_stmt m (kept_stmt keep s))) → AllOwned R (lone_inside s)
              → Suites (suc k) (stmt script next here s) (stmt cut other there (numbered_stmt m (kept_stmt keep s)))
          stmt_both here there both m (one_stmt number at span form) kept under ins outs lone from top =
              let named : ground.paired number m = pairs number m at (ins.each number at (inl refl)) (outs.each m at (inl refl)) in
              both_begin kept named (beside_to ground keep (all_marks keep upto)
              (less ground keep (all_marks keep upto) k
              (rule_both (on_line at.line here) (on_line at.line there) (on_line_both at.line both) at (m + 1) form (subst (λ around. UnderForm keep around form) kept under.1)
              (owned_right ((number, at) ∷ []) ins) (owned_right ((m, at) ∷ []) outs) lone number from kept))
              (λ how other_how same. close_both how other_how kept named same))

          rule_both : (here there : Here) → BothHere ground keep upto here there → (at : Pos) (m : ℕ) (form : FormTree) → UnderForm keep true form
              → AllOwned P (started_form form) → AllOwned Q (started_form (numbered_form m (kept_form keep form))) → AllOwned R (lone_form keep form)
              → In ground keep upto (suc k) (rule script next here at form) (rule cut other there at (numbered_form m (kept_form keep form)))
          rule_both here there both at m (do_form e) under ins outs lone = eval_both ground keep upto script cut fits next other k calls here there both e (λ v w same. ended ground keep upto both_normal)
          rule_both here there both at m (assign_form target e) under ins outs lone =
              eval_both ground keep upto script cut fits next other k calls here there both e (λ v w same. store_both ground keep upto script cut fits next other k calls here there both at target v w same (ended ground keep upto both_normal))
          rule_both here there both at m (aug_form target sign place e) under ins outs lone = augment_both ground keep upto script cut fits next other k calls here there both target sign place e
          rule_both here there both at m (del_form target) under ins outs lone = unset_both ground keep upto script cut fits next other k calls here there both target
          rule_both here there both at m pass_form under ins outs lone = ended ground keep upto both_normal
          rule_both here there both at m break_form under ins outs lone = ended ground keep upto both_broke
          rule_both here there both at m continue_form under ins outs lone = ended ground keep upto both_continued
          rule_both here there both at m (return_form None) under ins outs lone = ended ground keep upto (both_returned (record { is = λ r fits. refl }))
          rule_both here there both at m (return_form (Some e)) under ins outs lone = eval_both ground keep upto script cut fits next other k calls here there both e (λ v w same. ended ground keep upto (both_returned same))
          rule_both here there both at m (raise_form None) under ins outs lone = doing_both ground keep upto here there both.line_is at (plain_op ground keep upto 40) (raised_same both.handled) (λ x y is. ended ground keep upto both_normal)
          rule_both here there both at m (raise_form (Some e)) under ins outs lone =
              eval_both ground keep upto script cut fits next other k calls here there both e
              (λ v w same. doing_both ground keep upto here there both.line_is at (plain_op ground keep upto 40) (one_same ground keep upto same) (λ x y is. ended ground keep upto both_normal))
          rule_both here there both at m (assert_form test message) under ins outs lone =
              eval_both ground keep upto script cut fits next other k calls here there both test (λ v w same.
              asking_both ground keep upto here there both.line_is (expr_place test) v w same (ended ground keep upto both_normal) (failed_both here there both at message))
          rule_both here there both at m (import_form name) under ins outs lone =
              doing_named ground keep upto 44 on_import here there both at name (module_same ground keep upto name) (none_same ground keep upto) (λ x y is. ended ground keep upto both_normal)
          rule_both here there both at m (if_form branches orelse) under ins outs lone =
              choose_both here there both m branches under.0 (owned_left _ ins) (owned_left _ outs) (owned_left _ lone)
              (otherwise_both here there both (m + size_branches (kept_branches keep branches)) orelse under.1 (owned_right (started_branches branches) ins)
              (owned_right (started_branches (numbered_branches m (kept_branches keep branches))) outs) (owned_right (lone_branches keep branches) lone))
          rule_both here there both at m (while_form test body) under ins outs lone =
              while_both here there both test (in_suite (rest_from here there m body ins outs lone (suite_both here there both m body under ins (rest_outs m body (kept_suite keep body) outs)))) (tasks _ _ (same_while m both under ins outs lone))
          rule_both here there both at m (for_form target e body) under ins outs lone =
              eval_both ground keep upto script cut fits next other k calls here there both e (λ v w same.
              doing_both ground keep upto here there both.line_is at (plain_op ground keep upto 36) (one_same ground keep upto same) (λ x y size.
              for_both here there both at target v w 0 x y same size (in_suite (rest_from here there m body ins outs lone (suite_both here there both m body under ins (rest_outs m body (kept_suite keep body) outs))))
              (tasks _ _ (same_for m both under ins outs lone same size))))
          rule_both here there both at m (try_form body handlers) under ins outs lone =
              in_to (in_suite (rest_from here there m body (owned_left _ ins) (owned_left _ outs) (owned_left _ lone) (suite_both here there both m body under.0 (owned_left _ ins) (rest_outs m body (kept_suite keep body) (owned_left _ outs)))))
              (caught_both (handle script next here at handlers)
              (handle cut other there at (numbered_handlers (m + size_suite (or_pass body (kept_suite keep body))) (kept_handlers keep handlers)))
              (λ o e line same. handle_both here there both at (m + size_suite (or_pass body (kept_suite keep body))) handlers under.1 (owned_right (started_suite body) ins) (owned_right (started_suite (rest_of_suite m body)) outs)
              (owned_right (lone_body keep body) lone) o e line same))
          rule_both here there both at m (with_form e bound body) under ins outs lone =
              eval_both ground keep upto script cut fits next other k calls here there both e (λ v w same.
              doing_both ground keep upto here there both.line_is at (plain_op ground keep upto 46) (one_same ground keep upto same) (λ x y file.
              binding_both here there both bound x y file (in_to (in_suite (rest_from here there m body ins outs lone (suite_both here there both m body under ins (rest_outs m body (kept_suite keep body) outs)))) (λ how other_how is.
              doing_both ground keep upto here there both.line_is at (plain_op ground keep upto 45) (one_same ground keep upto file) (λ d f end. ended ground keep upto is)))))
          rule_both here there both at m (def_form name params globals body) under ins outs lone = defining_both here there both at name here.in_class there.in_class both.classes
          rule_both here there both at m (class_form name None body) under ins outs lone =
              class_body_both here there both at name [] [] (none_same ground keep upto)
              (λ v w same. in_suite (rest_from (in_class_of v here) (in_class_of w there) m body ins outs lone
              (suite_both (in_class_of v here) (in_class_of w there) (in_class_both same both) m body under ins (rest_outs m body (kept_suite keep body) outs))))
          rule_both here there both at m (class_form name (Some base) body) under ins outs lone =
              eval_both ground keep upto script cut fits next other k calls here there both base (λ x y is.
              class_body_both here there both at name (x ∷ []) (y ∷ []) (one_same ground keep upto is)
              (λ v w same. in_suite (rest_from (in_class_of v here) (in_class_of w there) m body ins outs lone
              (suite_both (in_class_of v here) (in_class_of w there) (in_class_both same both) m body under ins (rest_outs m body (kept_suite keep body) outs)))))

          choose_both : (here there : Here) → BothHere ground keep upto here there → (m : ℕ) (branches : BranchesTree) → UnderBranches keep true branches
              → AllOwned P (started_branches branches) → AllOwned Q (started_branches (numbered_branches m (kept_branches keep branches))) → AllOwned R (lone_branches keep branches) → {a b : Act} → In ground keep upto (suc k) a b
              → In ground keep upto (suc k) (choose script next here branches a) (choose cut other there (numbered_branches m (kept_branches keep branches)) b)
          choose_both here there both m end_branches under ins outs lone going = going
          choose_both here there both m (more_branches test body rest) under ins outs lone going =
              eval_both ground keep upto script cut fits next other k calls here there both test (λ v w same.
              asking_both ground keep upto here there both.line_is (expr_place test) v w same
              (in_suite (rest_from here there m body (owned_left _ ins) (owned_left _ outs) (owned_left _ lone) (suite_both here there both m body under.0 (owned_left _ ins) (rest_outs m body (kept_suite keep body) (owned_left _ outs)))))
              (choose_both here there both (m + size_suite (or_pass body (kept_suite keep body))) rest under.1 (owned_right (started_suite body) ins) (owned_right (started_suite (rest_of_suite m body)) outs)
              (owned_right (lone_body keep body) lone) going))

          otherwise_both : (here there : Here) → BothHere ground keep upto here there → (m : ℕ) (orelse : ElseTree) → UnderElse keep true orelse
              → AllOwned P (started_else orelse) → AllOwned Q (started_else (numbered_else m (kept_else keep orelse))) → AllOwned R (lone_else keep orelse)
              → In ground keep upto (suc k) (otherwise script next here orelse) (otherwise cut other there (numbered_else m (kept_else keep orelse)))
          otherwise_both here there both m no_else under ins outs lone = ended ground keep upto both_normal
          otherwise_both here there both m (else_suite body) under ins outs lone = in_suite (rest_from here there m body ins outs lone (suite_both here there both m body under ins (rest_outs m body (kept_suite keep body) outs)))

          handle_both : (here there : Here) → BothHere ground keep upto here there → (at : Pos) (m : ℕ) (handlers : HandlersTree) → UnderHandlers keep true handlers
              → AllOwned P (started_handlers handlers) → AllOwned Q (started_handlers (numbered_handlers m (kept_handlers keep handlers))) → AllOwned R (lone_handlers keep handlers) → (o e line : ℕ)
              → Same ground keep upto (object o) (object e)
              → In ground keep upto (suc k) (handle script next here at handlers o line) (handle cut other there at (numbered_handlers m (kept_handlers keep handlers)) e line)
          handle_both here there both at m end_handlers under ins outs lone o e line same = ended ground keep upto (both_threw same)
          handle_both here there both at m (more_handlers None bound body rest) under ins outs lone o e line same =
              clause_both here there both bound o e same
              (in_suite (rest_from (handling o here) (handling e there) m body (owned_left _ ins) (owned_left _ outs) (owned_left _ lone)
              (suite_both (handling o here) (handling e there) (handling_both same both) m body under.0 (owned_left _ ins) (rest_outs m body (kept_suite keep body) (owned_left _ outs)))))
          handle_both here there both at m (more_handlers (Some kind) bound body rest) under ins outs lone o e line same =
              matching_both here there both at kind o e same
              (clause_both here there both bound o e same
              (in_suite (rest_from (handling o here) (handling e there) m body (owned_left _ ins) (owned_left _ outs) (owned_left _ lone)
              (suite_both (handling o here) (handling e there) (handling_both same both) m body under.0 (owned_left _ ins) (rest_outs m body (kept_suite keep body) (owned_left _ outs))))))
              (handle_both here there both at (m + size_suite (or_pass body (kept_suite keep body))) rest under.1 (owned_right (started_suite body) ins) (owned_right (started_suite (rest_of_suite m body)) outs)
              (owned_right (lone_body keep body) lone) o e line same)

        pub body_both : (here there : Here) → BothHere ground keep upto here there → (m : ℕ) (body : SuiteTree) → UnderSuite keep true body
            → AllOwned P (started_suite body) → AllOwned Q (started_suite (numbered_suite m (kept_suite keep body))) → AllOwned R (lone_suite keep body)
            → Suites (suc k) (suite script next here body) (suite cut other there (numbered_suite m (kept_suite keep body)))
        body_both here there both m body under ins outs = (suite_both here there both m body under ins outs).some

        pub turn_both : TurnsBoth (suc k) (task script next) (task cut other)
        turn_both _ _ (same_while {here} {there} {test} {body} m both under ins outs lone) =
            while_both here there both test (in_suite (rest_from here there m body ins outs lone (suite_both here there both m body under ins (rest_outs m body (kept_suite keep body) outs)))) (tasks _ _ (same_while m both under ins outs lone))
        turn_both _ _ (same_for {here} {there} {at} {target} {body} {turns} {v} {w} {x} {y} m both under ins outs lone same size) =
            for_both here there both at target v w turns x y same size (in_suite (rest_from here there m body ins outs lone (suite_both here there both m body under ins (rest_outs m body (kept_suite keep body) outs))))
            (tasks _ _ (same_for m both under ins outs lone same size))

        -- the suite of a function that is called in both
        pub call_both : BodiesBoth ground keep upto script cut (suc k) (task script next) (task cut other)
        call_both here there both place f g here_is there_is from inner = by_callee (callees place f g here_is there_is)
          where
            by_callee : CalleeFits f g
                → Beside ground keep (all_marks keep upto) (suc k) (an_activation ∷ from) (an_activation ∷ from) (suite script next here f.body) (suite cut other there g.body)
            by_callee callee =
                subst (λ body. Beside ground keep (all_marks keep upto) (suc k) (an_activation ∷ from) (an_activation ∷ from) (suite script next here f.body) (suite cut other there body)) (sym callee.same.body)
                (rest_from here there callee.same.first f.body callee.ins outs callee.lone
                (suite_both here there both callee.same.first f.body callee.under callee.ins (rest_outs callee.same.first f.body (kept_suite keep f.body) outs)) (an_activation ∷ from) inner)
              where
                outs : AllOwned Q (started_suite (rest_of_suite callee.same.first f.body))
                outs = subst (λ body. AllOwned Q (started_suite body)) callee.same.body callee.outs

  module _ (script cut : ScriptTree) (fits : FunctionsFit ground keep upto script cut) (callees : CalleesFit script cut) (starts : (place : Pos) → FoundStarts P (function_at script place)) where
    pub levels_both : (k n : ℕ) → TasksBoth script cut k (level script n) (level cut k)
    unfolding level
    levels_both zero n = record { turns = λ what task same number from kept. unreached; calls = λ here there both place f g here_is there_is from inner. unreached }
    levels_both (suc k) zero = record { turns = λ what task same number from kept. stopped; calls = λ here there both place f g here_is there_is from inner. stopped }
    levels_both (suc k) (suc n) = record {
      turns =
          turn_both script cut fits callees starts (level script n) (level cut k) k (levels_both k n).calls (levels_both k n).turns (bodies_out ground P AloneAt keep whole undefined alone_at script starts n)
          (levels_alone ground P AloneAt keep whole undefined alone_at script starts n);
      calls =
          call_both script cut fits callees starts (level script n) (level cut k) k (levels_both k n).calls (levels_both k n).turns (bodies_out ground P AloneAt keep whole undefined alone_at script starts n)
          (levels_alone ground P AloneAt keep whole undefined alone_at script starts n);
    }

    -- the two scripts, from their first statements on
    pub script_both : (k n : ℕ) (here there : Here) → BothHere ground keep upto here there → (body : SuiteTree) → UnderSuite keep true body → AllOwned P (started_suite body)
        → AllOwned Q (started_suite (numbered_suite 0 (kept_suite keep body))) → AllOwned R (lone_suite keep body)
        → Suites (suc k) (suite script (level script n) here body) (suite cut (level cut k) there (numbered_suite 0 (kept_suite keep body)))
    script_both k n here there both body under ins outs lone =
        body_both script cut fits callees starts (level script n) (level cut k) k (levels_both k n).calls (levels_both k n).turns
        (bodies_out ground P AloneAt keep whole undefined alone_at script starts n) (levels_alone ground P AloneAt keep whole undefined alone_at script starts n) here there both 0 body under ins outs lone
