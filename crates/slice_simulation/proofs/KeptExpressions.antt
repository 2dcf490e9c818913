-- What the rules give for the expressions of a kept statement in the script and in its slice: the same operations, with corresponding values.
use Rattle.std.proofs.Common.{◌≡◌, ◌+◌, ℕ, suc, Bool, true, false, if◌then◌else◌, List, [], ◌∷◌, length, Option, Some, None, refl, sym, ap, ap₂, subst}
use Rattle.std.specs.Prelude.{nat_lt, nat_eq, slice_get, ◌-◌}
use Rattle.prov_base.specs.declared.place.Pos.{Pos}
use Rattle.py_tree.specs.declared.expr.LogicOp.TheVariants.{And as Both, Or as Either}
use Rattle.py_tree.specs.declared.expr.BinOp.{BinOp}
use Rattle.py_tree.specs.Tree.{ExprTree, MaybeTree, ExprsTree, PairsTree, TargetTree, TargetsTree, ScriptTree, const_expr, var_expr, unary_expr, binary_expr, compare_expr, logic_expr, choose_expr, call_expr, attr_expr, part_expr, range_expr, list_expr, dict_expr, tuple_expr, no_expr, some_expr, end_exprs, more_exprs, end_pairs, more_pairs, var_target, part_target, field_target, many_target, end_targets, more_targets}
use Rattle.py_value.specs.Contents.{Contents, Parts, nothing, truth, int, text, tuple, range, function, class, exception_class, builtin, object}
use Rattle.py_model.specs.Act.{Act}
use Rattle.py_model.specs.Expressions.{Here, Task, eval, eval_maybe, eval_all, eval_pairs, failing, giving, calling_function, without_init, initialising, calling_class, calling_builtin, calling_method, calling, with_receiver, calling_attribute, inside, body_of, takes_so_many, function_arities, method_arities, not_callable, wrong_arguments, unary_number, binary_number, compare_number}
use Rattle.py_tree.specs.Functions.{Function, expr_place, function_at}
use Rattle.py_model.specs.Going.{Open, an_activation}
use Rattle.py_model.specs.Statements.{parts_in, first_of, rest_of, store, store_all, augment, unset, augmented_number}
use Rattle.slice_law.specs.Closed.{StmtSet}
use Rattle.py_model.specs.Moment.{Moment}
use Rattle.py_model.specs.Renaming.{renamed}
use Rattle.slice_simulation.proofs.Beside.{both_normal, InnermostIs, Ground, on_read, on_bind, on_unbind, Beside, unknown_perform}
use Rattle.slice_simulation.proofs.KeptCalls.{running_both}
use Rattle.slice_simulation.proofs.KeptOperations.{Same, AllSame, PartsSame, In, GoBoth, no_class, none_handled, one_function, BothHere, none_same, more_same, one_same, nothing_same, plain_op, named_op, valued_op, constant_same, parts_same, first_same, rest_same, by_near, as_long, ended, in_if, doing_both, doing_named, walking_both, asking_both}
use Rattle.slice_simulation.specs.Cut.{SameFunction, FoundCut}
use Rattle.slice_simulation.proofs.Marks.{shifts}
use Rattle.slice_simulation.specs.Renaming.{SameScope, all_marks}

module _ (ground : Ground) (keep : StmtSet) (upto : List Moment) where
  module _ (script cut : ScriptTree) where
    -- The functions of the slice are functions of the script. Where the slice has a definition, its function is there.
    pub record FunctionsFit : Type 0 where
      pub found : (place : Pos) → FoundCut keep (function_at script place) (function_at cut place)
      pub listed : (place : Pos) (f g : Function) → function_at script place ≡ Some f → function_at cut place ≡ Some g → ground.called f g
      pub defined : (place : Pos) (f : Function) → function_at script place ≡ Some f → function_at cut place ≡ None → ground.known place ≡ true → ⊥

    -- the suites of a function that is called in both
    abbrev pub BodiesBoth : ℕ → (Task → Act) → (Task → Act) → Type 0
    BodiesBoth k next other = (here there : Here) → BothHere ground keep upto here there → (place : Pos) (f g : Function) → function_at script place ≡ Some f → function_at cut place ≡ Some g
        → (from : List Open) → InnermostIs true keep from
        → Beside ground keep (all_marks keep upto) k (an_activation ∷ from) (an_activation ∷ from) (next (body_of here f.body)) (other (body_of there g.body))

  module _ (script cut : ScriptTree) (fits : FunctionsFit script cut) (next other : Task → Act) where
    module _ (k : ℕ) (calls : BodiesBoth script cut k next other) (here there : Here) (both : BothHere ground keep upto here there) where
      failing_both : (at : Pos) {v w : Contents} {vs ws : List Contents} → Same ground keep upto v w → AllSame ground keep upto vs ws → In ground keep upto (suc k) (failing here at v vs) (failing there at w ws)
      failing_both at same all = doing_both ground keep upto here there both.line_is at (valued_op ground keep upto 38 same) all (λ x y is. ended ground keep upto both_normal)

      inside_both : (f g : Function) → SameFunction keep f g → ground.called f g → (a b : ℕ) → SameScope (all_marks keep upto) a b → ground.entered a f.place
          → BothHere ground keep upto (inside script next here f a) (inside cut other there g b)
      inside_both f g same is_called a b scopes entered = record {
        functions = one_function same is_called scopes entered;
        open_is = ap suc both.open_is;
        line_is = both.line_is;
        handled = none_handled;
        classes = no_class;
      }

      -- A function is called that the slice has too. One that it has not is not known there.
      function_both : (at place : Pos) (vs ws : List Contents) (go gone : Contents → Act) → AllSame ground keep upto vs ws → GoBoth ground keep upto (suc k) go gone
          → In ground keep upto (suc k) (calling_function script next here at (function place) (function_at script place) vs go) (calling_function cut other there at (function place) (function_at cut place) ws gone)
      function_both at place vs ws go gone all each = by_found (function_at script place) (function_at cut place) refl refl (fits.found place)
        where
          same_called : Same ground keep upto (function place) (function place)
          same_called = record { is = λ r fits. refl }

          by_found : (F G : Option Function) → function_at script place ≡ F → function_at cut place ≡ G → FoundCut keep F G
              → In ground keep upto (suc k) (calling_function script next here at (function place) F vs go) (calling_function cut other there at (function place) G ws gone)
          by_found None None here_is there_is cut_so = failing_both at (record { is = λ r fits. refl }) (more_same ground keep upto same_called all)
          by_found None (Some g) here_is there_is cut_so = absurd cut_so
          by_found (Some f) None here_is there_is cut_so = λ n from kept. unknown_perform (λ known. fits.defined place f here_is there_is known.0)
          by_found (Some f) (Some g) here_is there_is same =
              in_if ground keep upto (nat_eq (length f.params) (length vs)) (nat_eq (length g.params) (length ws)) (ap₂ nat_eq (ap length same.params) (as_long ground keep upto all))
              (in_if ground keep upto (nat_lt here.open_activations 1000) (nat_lt there.open_activations 1000) (ap (λ n. nat_lt n 1000) both.open_is)
              (running_both ground keep upto script cut next other k here there at f g vs ws same.place same.params all
              (λ a b is by from inner. calls (inside script next here f a) (inside cut other there g b) (inside_both f g same (fits.listed place f g here_is there_is) a b is by) place f g here_is there_is from inner) each)
              (failing_both at (record { is = λ r fits. refl }) (more_same ground keep upto same_called all)))
              (failing_both at (record { is = λ r fits. refl }) (more_same ground keep upto same_called all))

      giving_both : (at : Pos) {go gone : Contents → Act} → GoBoth ground keep upto (suc k) go gone → GoBoth ground keep upto (suc k) (giving script next here at go) (giving cut other there at gone)
      giving_both at each v w same = doing_both ground keep upto here there both.line_is at (plain_op ground keep upto 2) (one_same ground keep upto same) each

      without_init_both : (at : Pos) (of onto : Contents) (vs ws : List Contents) (v w : Contents) (takes_any : Bool) {go gone : Contents → Act} → Same ground keep upto of onto → AllSame ground keep upto vs ws → Same ground keep upto v w
          → GoBoth ground keep upto (suc k) go gone
          → In ground keep upto (suc k) (without_init script next here at of vs v takes_any go) (without_init cut other there at onto ws w takes_any gone)
      without_init_both at of onto vs ws v w true is all same each = giving_both at each v w same
      without_init_both at of onto [] ws v w false {go} {gone} is all same each =
          subst (λ ws. In ground keep upto (suc k) (giving script next here at go v) (without_init cut other there at onto ws w false gone))
          (sym (all.is (shifts keep upto 0).by (shifts keep upto 0).fits)) (giving_both at each v w same)
      without_init_both at of onto (argument ∷ vs) ws v w false {go} {gone} is all same each =
          subst (λ ws. AllSame ground keep upto (argument ∷ vs) ws → In ground keep upto (suc k) (failing here at wrong_arguments (of ∷ argument ∷ vs)) (without_init cut other there at onto ws w false gone))
          (sym (all.is (shifts keep upto 0).by (shifts keep upto 0).fits)) (λ all. failing_both at (record { is = λ r fits. refl }) (more_same ground keep upto is all)) all

      initialising_both : (at : Pos) (of onto : Contents) (vs ws : List Contents) (v w : Contents) (takes_any : Bool) (init : Option Pos) {go gone : Contents → Act} → Same ground keep upto of onto → AllSame ground keep upto vs ws
          → Same ground keep upto v w → GoBoth ground keep upto (suc k) go gone
          → In ground keep upto (suc k) (initialising script next here at of vs v takes_any init go) (initialising cut other there at onto ws w takes_any init gone)
      initialising_both at of onto vs ws v w takes_any None is all same each = without_init_both at of onto vs ws v w takes_any is all same each
      initialising_both at of onto vs ws v w takes_any (Some init) {go} {gone} is all same each =
          function_both at init (v ∷ vs) (w ∷ ws) (λ x. giving script next here at go v) (λ x. giving cut other there at gone w) (more_same ground keep upto same all) (λ x y found. giving_both at each v w same)

      class_both : (at : Pos) (of onto : Contents) (vs ws : List Contents) {go gone : Contents → Act} → Same ground keep upto of onto → AllSame ground keep upto vs ws → GoBoth ground keep upto (suc k) go gone
          → In ground keep upto (suc k) (calling_class script next here at of vs go) (calling_class cut other there at onto ws gone)
      class_both at of onto vs ws same all each =
          walking_both ground keep upto here there both.line_is at (plain_op ground keep upto 39) (more_same ground keep upto same all) (λ v w walked is. initialising_both at of onto vs ws v w walked.is_exception walked.method same all is each)

      reason_same : (test : Bool) → Same ground keep upto (if test then wrong_arguments else not_callable) (if test then wrong_arguments else not_callable)
      reason_same true = record { is = λ r fits. refl }
      reason_same false = record { is = λ r fits. refl }

      builtin_both : (at : Pos) (number : ℕ) (vs ws : List Contents) {go gone : Contents → Act} → AllSame ground keep upto vs ws → GoBoth ground keep upto (suc k) go gone
          → In ground keep upto (suc k) (calling_builtin script next here at number vs go) (calling_builtin cut other there at number ws gone)
      builtin_both at number vs ws all each =
          in_if ground keep upto (takes_so_many (slice_get function_arities number) (length vs)) (takes_so_many (slice_get function_arities number) (length ws))
          (ap (takes_so_many (slice_get function_arities number)) (as_long ground keep upto all)) (doing_both ground keep upto here there both.line_is at (plain_op ground keep upto (50 + number)) all each) (failing_both at (reason_same (nat_lt number 22)) (more_same ground keep upto (record { is = λ r fits. refl }) all))

      method_both : (at : Pos) (number : ℕ) (v w : Contents) (vs ws : List Contents) {go gone : Contents → Act} → Same ground keep upto v w → AllSame ground keep upto vs ws → GoBoth ground keep upto (suc k) go gone
          → In ground keep upto (suc k) (calling_method script next here at number v vs go) (calling_method cut other there at number w ws gone)
      method_both at number v w vs ws same all each =
          in_if ground keep upto (takes_so_many (slice_get method_arities (number - 80)) (length vs)) (takes_so_many (slice_get method_arities (number - 80)) (length ws))
          (ap (takes_so_many (slice_get method_arities (number - 80))) (as_long ground keep upto all)) (doing_both ground keep upto here there both.line_is at (plain_op ground keep upto number) (more_same ground keep upto same all) each)
          (failing_both at (record { is = λ r fits. refl }) (more_same ground keep upto (record { is = λ r fits. refl }) (more_same ground keep upto same all)))

      calling_cases : (at : Pos) (called : Contents) (vs ws : List Contents) {go gone : Contents → Act} → Same ground keep upto called (renamed (shifts keep upto 0).by called) → AllSame ground keep upto vs ws
          → GoBoth ground keep upto (suc k) go gone
          → In ground keep upto (suc k) (calling script next here at called vs go) (calling cut other there at (renamed (shifts keep upto 0).by called) ws gone)
      calling_cases at (function place) vs ws {go} {gone} same all each =
          function_both at place vs ws (giving script next here at go) (giving cut other there at gone) all (giving_both at each)
      calling_cases at (class place) vs ws same all each = class_both at (class place) (class place) vs ws (record { is = λ r fits. refl }) all each
      calling_cases at (exception_class number) vs ws same all each = class_both at (exception_class number) (exception_class number) vs ws (record { is = λ r fits. refl }) all each
      calling_cases at (builtin number) vs ws same all each = builtin_both at number vs ws all each
      calling_cases at nothing vs ws same all each = failing_both at (record { is = λ r fits. refl }) (more_same ground keep upto same all)
      calling_cases at (truth b) vs ws same all each = failing_both at (record { is = λ r fits. refl }) (more_same ground keep upto same all)
      calling_cases at (int i) vs ws same all each = failing_both at (record { is = λ r fits. refl }) (more_same ground keep upto same all)
      calling_cases at (text bytes) vs ws same all each = failing_both at (record { is = λ r fits. refl }) (more_same ground keep upto same all)
      calling_cases at (tuple parts) vs ws same all each = failing_both at (record { is = λ r fits. refl }) (more_same ground keep upto same all)
      calling_cases at (range start end step) vs ws same all each = failing_both at (record { is = λ r fits. refl }) (more_same ground keep upto same all)
      calling_cases at (object o) vs ws same all each = failing_both at (record { is = λ r fits. refl }) (more_same ground keep upto same all)

      calling_both : (at : Pos) (called onto : Contents) (vs ws : List Contents) {go gone : Contents → Act} → Same ground keep upto called onto → AllSame ground keep upto vs ws → GoBoth ground keep upto (suc k) go gone
          → In ground keep upto (suc k) (calling script next here at called vs go) (calling cut other there at onto ws gone)
      calling_both at called onto vs ws {go} {gone} same all each =
          by_near ground keep upto (λ onto. In ground keep upto (suc k) (calling script next here at called vs go) (calling cut other there at onto ws gone)) called onto same (λ is. calling_cases at called vs ws is all each)

      receiver_cases : (owner : Contents) (method : Option Pos) (vs ws : List Contents) → Same ground keep upto owner (renamed (shifts keep upto 0).by owner) → AllSame ground keep upto vs ws
          → AllSame ground keep upto (with_receiver script next owner method vs) (with_receiver cut other (renamed (shifts keep upto 0).by owner) method ws)
      receiver_cases (object o) (Some method) vs ws same all = more_same ground keep upto same all
      receiver_cases (object o) None vs ws same all = all
      receiver_cases nothing method vs ws same all = all
      receiver_cases (truth b) method vs ws same all = all
      receiver_cases (int i) method vs ws same all = all
      receiver_cases (text bytes) method vs ws same all = all
      receiver_cases (tuple parts) method vs ws same all = all
      receiver_cases (range start end step) method vs ws same all = all
      receiver_cases (function place) method vs ws same all = all
      receiver_cases (class place) method vs ws same all = all
      receiver_cases (exception_class number) method vs ws same all = all
      receiver_cases (builtin number) method vs ws same all = all

      receiver_same : (owner owned : Contents) (method : Option Pos) (vs ws : List Contents) → Same ground keep upto owner owned → AllSame ground keep upto vs ws
          → AllSame ground keep upto (with_receiver script next owner method vs) (with_receiver cut other owned method ws)
      receiver_same owner owned method vs ws same all =
          by_near ground keep upto (λ owned. AllSame ground keep upto (with_receiver script next owner method vs) (with_receiver cut other owned method ws)) owner owned same (λ is. receiver_cases owner method vs ws is all)

      attribute_cases : (at : Pos) (owner owned called : Contents) (method : Option Pos) (vs ws : List Contents) {go gone : Contents → Act} → Same ground keep upto owner owned
          → Same ground keep upto called (renamed (shifts keep upto 0).by called) → AllSame ground keep upto vs ws → GoBoth ground keep upto (suc k) go gone
          → In ground keep upto (suc k) (calling_attribute script next here at owner called method vs go) (calling_attribute cut other there at owned (renamed (shifts keep upto 0).by called) method ws gone)
      attribute_cases at owner owned (builtin number) method vs ws same is all each =
          in_if ground keep upto (nat_lt number 80) (nat_lt number 80) refl (builtin_both at number vs ws all each) (method_both at number owner owned vs ws same all each)
      attribute_cases at owner owned nothing method vs ws same is all each = calling_cases at nothing (with_receiver script next owner method vs) (with_receiver cut other owned method ws) is (receiver_same owner owned method vs ws same all) each
      attribute_cases at owner owned (truth b) method vs ws same is all each =
          calling_cases at (truth b) (with_receiver script next owner method vs) (with_receiver cut other owned method ws) is (receiver_same owner owned method vs ws same all) each
      attribute_cases at owner owned (int i) method vs ws same is all each = calling_cases at (int i) (with_receiver script next owner method vs) (with_receiver cut other owned method ws) is (receiver_same owner owned method vs ws same all) each
      attribute_cases at owner owned (text bytes) method vs ws same is all each =
          calling_cases at (text bytes) (with_receiver script next owner method vs) (with_receiver cut other owned method ws) is (receiver_same owner owned method vs ws same all) each
      attribute_cases at owner owned (tuple parts) method vs ws same is all each =
          calling_cases at (tuple parts) (with_receiver script next owner method vs) (with_receiver cut other owned method ws) is (receiver_same owner owned method vs ws same all) each
      attribute_cases at owner owned (range start end step) method vs ws same is all each =
          calling_cases at (range start end step) (with_receiver script next owner method vs) (with_receiver cut other owned method ws) is (receiver_same owner owned method vs ws same all) each
      attribute_cases at owner owned (function place) method vs ws same is all each =
          calling_cases at (function place) (with_receiver script next owner method vs) (with_receiver cut other owned method ws) is (receiver_same owner owned method vs ws same all) each
      attribute_cases at owner owned (class place) method vs ws same is all each =
          calling_cases at (class place) (with_receiver script next owner method vs) (with_receiver cut other owned method ws) is (receiver_same owner owned method vs ws same all) each
      attribute_cases at owner owned (exception_class number) method vs ws same is all each =
          calling_cases at (exception_class number) (with_receiver script next owner method vs) (with_receiver cut other owned method ws) is (receiver_same owner owned method vs ws same all) each
      attribute_cases at owner owned (object o) method vs ws same is all each =
          calling_cases at (object o) (with_receiver script next owner method vs) (with_receiver cut other owned method ws) is (receiver_same owner owned method vs ws same all) each

      attribute_both : (at : Pos) (owner owned called onto : Contents) (method : Option Pos) (vs ws : List Contents) {go gone : Contents → Act} → Same ground keep upto owner owned → Same ground keep upto called onto
          → AllSame ground keep upto vs ws → GoBoth ground keep upto (suc k) go gone
          → In ground keep upto (suc k) (calling_attribute script next here at owner called method vs go) (calling_attribute cut other there at owned onto method ws gone)
      attribute_both at owner owned called onto method vs ws {go} {gone} same is all each =
          by_near ground keep upto (λ onto. In ground keep upto (suc k) (calling_attribute script next here at owner called method vs go) (calling_attribute cut other there at owned onto method ws gone)) called onto is
          (λ is. attribute_cases at owner owned called method vs ws same is all each)

      abbrev pub GoAll : (List Contents → Act) → (List Contents → Act) → Type 0
      GoAll go gone = (vs ws : List Contents) → AllSame ground keep upto vs ws → In ground keep upto (suc k) (go vs) (gone ws)

      mutual
        pub eval_both : (e : ExprTree) {go gone : Contents → Act} → GoBoth ground keep upto (suc k) go gone → In ground keep upto (suc k) (eval script next here e go) (eval cut other there e gone)
        eval_both (const_expr at atom) each = doing_both ground keep upto here there both.line_is at (valued_op ground keep upto 0 (constant_same ground keep upto atom)) (none_same ground keep upto) each
        eval_both (var_expr at name) each = doing_named ground keep upto 1 on_read here there both at name (nothing_same ground keep upto) (none_same ground keep upto) each
        eval_both (unary_expr at sign e) each = eval_both e (λ v w same. doing_both ground keep upto here there both.line_is at (plain_op ground keep upto (unary_number sign)) (one_same ground keep upto same) each)
        eval_both (binary_expr at sign l r) each =
            eval_both l (λ v w same. eval_both r (λ x y is. doing_both ground keep upto here there both.line_is at (plain_op ground keep upto (binary_number sign)) (more_same ground keep upto same (one_same ground keep upto is)) each))
        eval_both (compare_expr at sign l r) each =
            eval_both l (λ v w same. eval_both r (λ x y is. doing_both ground keep upto here there both.line_is at (plain_op ground keep upto (compare_number sign)) (more_same ground keep upto same (one_same ground keep upto is)) each))
        eval_both (logic_expr at Both l r) each =
            eval_both l (λ v w same. asking_both ground keep upto here there both.line_is (expr_place l) v w same (eval_both r (giving_both at each)) (giving_both at each v w same))
        eval_both (logic_expr at Either l r) each =
            eval_both l (λ v w same. asking_both ground keep upto here there both.line_is (expr_place l) v w same (giving_both at each v w same) (eval_both r (giving_both at each)))
        eval_both (choose_expr at test chosen alternative) each =
            eval_both test (λ v w same. asking_both ground keep upto here there both.line_is (expr_place test) v w same (eval_both chosen (giving_both at each)) (eval_both alternative (giving_both at each)))
        eval_both (call_expr at (attr_expr dot e name) arguments) each =
            eval_both e (λ owner owned same. walking_both ground keep upto here there both.line_is dot (named_op ground keep upto 32 name) (one_same ground keep upto same) (λ called onto walked is.
            all_both arguments (λ vs ws all. attribute_both at owner owned called onto walked.method vs ws same is all each)))
        eval_both (call_expr at (const_expr p a) arguments) each = eval_both (const_expr p a) (λ called onto is. all_both arguments (λ vs ws all. calling_both at called onto vs ws is all each))
        eval_both (call_expr at (var_expr p a) arguments) each = eval_both (var_expr p a) (λ called onto is. all_both arguments (λ vs ws all. calling_both at called onto vs ws is all each))
        eval_both (call_expr at (unary_expr p a x) arguments) each = eval_both (unary_expr p a x) (λ called onto is. all_both arguments (λ vs ws all. calling_both at called onto vs ws is all each))
        eval_both (call_expr at (binary_expr p a x y) arguments) each = eval_both (binary_expr p a x y) (λ called onto is. all_both arguments (λ vs ws all. calling_both at called onto vs ws is all each))
        eval_both (call_expr at (compare_expr p a x y) arguments) each = eval_both (compare_expr p a x y) (λ called onto is. all_both arguments (λ vs ws all. calling_both at called onto vs ws is all each))
        eval_both (call_expr at (logic_expr p a x y) arguments) each = eval_both (logic_expr p a x y) (λ called onto is. all_both arguments (λ vs ws all. calling_both at called onto vs ws is all each))
        eval_both (call_expr at (choose_expr p x y z) arguments) each = eval_both (choose_expr p x y z) (λ called onto is. all_both arguments (λ vs ws all. calling_both at called onto vs ws is all each))
        eval_both (call_expr at (call_expr p x y) arguments) each = eval_both (call_expr p x y) (λ called onto is. all_both arguments (λ vs ws all. calling_both at called onto vs ws is all each))
        eval_both (call_expr at (part_expr p x y) arguments) each = eval_both (part_expr p x y) (λ called onto is. all_both arguments (λ vs ws all. calling_both at called onto vs ws is all each))
        eval_both (call_expr at (range_expr p x y z) arguments) each = eval_both (range_expr p x y z) (λ called onto is. all_both arguments (λ vs ws all. calling_both at called onto vs ws is all each))
        eval_both (call_expr at (list_expr p x) arguments) each = eval_both (list_expr p x) (λ called onto is. all_both arguments (λ vs ws all. calling_both at called onto vs ws is all each))
        eval_both (call_expr at (dict_expr p x) arguments) each = eval_both (dict_expr p x) (λ called onto is. all_both arguments (λ vs ws all. calling_both at called onto vs ws is all each))
        eval_both (call_expr at (tuple_expr p x) arguments) each = eval_both (tuple_expr p x) (λ called onto is. all_both arguments (λ vs ws all. calling_both at called onto vs ws is all each))
        eval_both (attr_expr at e name) each = eval_both e (λ v w same. doing_both ground keep upto here there both.line_is at (named_op ground keep upto 30 name) (one_same ground keep upto same) each)
        eval_both (part_expr at e index) each =
            eval_both e (λ v w same. eval_both index (λ i j is. doing_both ground keep upto here there both.line_is at (plain_op ground keep upto 26) (more_same ground keep upto same (one_same ground keep upto is)) each))
        eval_both (range_expr at e low high) each =
            eval_both e (λ v w same. maybe_both low (λ i j is. maybe_both high
            (λ x y one. doing_both ground keep upto here there both.line_is at (plain_op ground keep upto 27) (more_same ground keep upto same (more_same ground keep upto is (one_same ground keep upto one))) each)))
        eval_both (list_expr at items) each = all_both items (λ vs ws all. doing_both ground keep upto here there both.line_is at (plain_op ground keep upto 23) all each)
        eval_both (dict_expr at pairs) each = pairs_both pairs (λ vs ws all. doing_both ground keep upto here there both.line_is at (plain_op ground keep upto 24) all each)
        eval_both (tuple_expr at items) each = all_both items (λ vs ws all. doing_both ground keep upto here there both.line_is at (plain_op ground keep upto 25) all each)

        maybe_both : (e : MaybeTree) {go gone : Contents → Act} → GoBoth ground keep upto (suc k) go gone → In ground keep upto (suc k) (eval_maybe script next here e go) (eval_maybe cut other there e gone)
        maybe_both no_expr each = each nothing nothing (record { is = λ r fits. refl })
        maybe_both (some_expr e) each = eval_both e each

        all_both : (es : ExprsTree) {go gone : List Contents → Act} → GoAll go gone → In ground keep upto (suc k) (eval_all script next here es go) (eval_all cut other there es gone)
        all_both end_exprs each = each [] [] (none_same ground keep upto)
        all_both (more_exprs e rest) each = eval_both e (λ v w same. all_both rest (λ vs ws all. each (v ∷ vs) (w ∷ ws) (more_same ground keep upto same all)))

        pairs_both : (pairs : PairsTree) {go gone : List Contents → Act} → GoAll go gone → In ground keep upto (suc k) (eval_pairs script next here pairs go) (eval_pairs cut other there pairs gone)
        pairs_both end_pairs each = each [] [] (none_same ground keep upto)
        pairs_both (more_pairs key e rest) each =
            eval_both key (λ v w same. eval_both e (λ x y is. pairs_both rest (λ vs ws all. each (v ∷ x ∷ vs) (w ∷ y ∷ ws) (more_same ground keep upto same (more_same ground keep upto is all)))))

      mutual
        pub store_both : (at : Pos) (target : TargetTree) (v w : Contents) {a b : Act} → Same ground keep upto v w → In ground keep upto (suc k) a b
            → In ground keep upto (suc k) (store script next here at target v a) (store cut other there at target w b)
        store_both at (var_target place name) v w same going = doing_named ground keep upto 33 on_bind here there both place name (nothing_same ground keep upto) (one_same ground keep upto same) (λ x y is. going)
        store_both at (part_target place e index) v w same going =
            eval_both e (λ o p one. eval_both index (λ i j two. doing_both ground keep upto here there both.line_is place (plain_op ground keep upto 28)
            (more_same ground keep upto one (more_same ground keep upto two (one_same ground keep upto same))) (λ x y is. going)))
        store_both at (field_target place e name) v w same going =
            eval_both e (λ o p one. doing_both ground keep upto here there both.line_is place (named_op ground keep upto 31 name) (more_same ground keep upto one (one_same ground keep upto same)) (λ x y is. going))
        store_both at (many_target targets) v w same going =
            doing_both ground keep upto here there both.line_is at (valued_op ground keep upto 35 (record { is = λ r fits. refl })) (one_same ground keep upto same)
            (λ x y is. store_all_both at targets (parts_in x) (parts_in y) (parts_same ground keep upto is) going)

        store_all_both : (at : Pos) (targets : TargetsTree) (ps qs : Parts) {a b : Act} → PartsSame ground keep upto ps qs → In ground keep upto (suc k) a b
            → In ground keep upto (suc k) (store_all script next here at targets ps a) (store_all cut other there at targets qs b)
        store_all_both at end_targets ps qs same going = going
        store_all_both at (more_targets target rest) ps qs same going =
            store_both at target (first_of ps) (first_of qs) (first_same ground keep upto same) (store_all_both at rest (rest_of ps) (rest_of qs) (rest_same ground keep upto same) going)

      pub augment_both : (target : TargetTree) (sign : BinOp) (at : Pos) (e : ExprTree) → In ground keep upto (suc k) (augment script next here target sign at e) (augment cut other there target sign at e)
      augment_both (var_target place name) sign at e =
          doing_named ground keep upto 1 on_read here there both place name (nothing_same ground keep upto) (none_same ground keep upto) (λ v w same. eval_both e (λ x y is.
          doing_both ground keep upto here there both.line_is at (plain_op ground keep upto (augmented_number sign)) (more_same ground keep upto same (one_same ground keep upto is)) (λ new anew last.
          doing_named ground keep upto 33 on_bind here there both place name (nothing_same ground keep upto) (one_same ground keep upto last) (λ d f end. ended ground keep upto both_normal))))
      augment_both (part_target place container index) sign at e =
          eval_both container (λ o p one. eval_both index (λ i j two.
          doing_both ground keep upto here there both.line_is place (plain_op ground keep upto 26) (more_same ground keep upto one (one_same ground keep upto two)) (λ v w same. eval_both e (λ x y is.
          doing_both ground keep upto here there both.line_is at (plain_op ground keep upto (augmented_number sign)) (more_same ground keep upto same (one_same ground keep upto is)) (λ new anew last.
          doing_both ground keep upto here there both.line_is place (plain_op ground keep upto 28) (more_same ground keep upto one (more_same ground keep upto two (one_same ground keep upto last)))
          (λ d f end. ended ground keep upto both_normal))))))
      augment_both (field_target place owner name) sign at e =
          eval_both owner (λ o p one.
          doing_both ground keep upto here there both.line_is place (named_op ground keep upto 30 name) (one_same ground keep upto one) (λ v w same. eval_both e (λ x y is.
          doing_both ground keep upto here there both.line_is at (plain_op ground keep upto (augmented_number sign)) (more_same ground keep upto same (one_same ground keep upto is)) (λ new anew last.
          doing_both ground keep upto here there both.line_is place (named_op ground keep upto 31 name) (more_same ground keep upto one (one_same ground keep upto last)) (λ d f end. ended ground keep upto both_normal)))))
      augment_both (many_target targets) sign at e = ended ground keep upto both_normal

      pub unset_both : (target : TargetTree) → In ground keep upto (suc k) (unset script next here target) (unset cut other there target)
      unset_both (var_target place name) = doing_named ground keep upto 34 on_unbind here there both place name (nothing_same ground keep upto) (none_same ground keep upto) (λ x y is. ended ground keep upto both_normal)
      unset_both (part_target place e index) =
          eval_both e (λ o p one. eval_both index (λ i j two. doing_both ground keep upto here there both.line_is place (plain_op ground keep upto 29) (more_same ground keep upto one (one_same ground keep upto two))
          (λ x y is. ended ground keep upto both_normal)))
      unset_both (field_target place e name) = ended ground keep upto both_normal
      unset_both (many_target targets) = ended ground keep upto both_normal
