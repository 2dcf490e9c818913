-- What a kept statement does in the script and in its slice, rule by rule: the same operations, with corresponding values, in corresponding activations.
use Rattle.std.proofs.Common.{◌≡◌, ◌+◌, ℕ, suc, Bool, true, false, if◌then◌else◌, List, [], ◌∷◌, length, Option, Some, None, refl, sym, ap, ap₂, subst, ◌∙◌}
use Rattle.std.proofs.lemmas.Bool.{false≢true}
use Rattle.std.specs.Prelude.{not, ◌&&◌, ◌||◌}
use Rattle.std.specs.List.{list_any}
use Rattle.prov_base.specs.declared.place.Pos.{Pos}
use Rattle.py_tree.specs.Tree.{SuiteTree}
use Rattle.py_value.specs.Contents.{Contents, Parts, nothing, truth, int, text, tuple, range, function, class, exception_class, builtin, object, no_parts, part}
use Rattle.py_model.specs.Act.{Act, How, Walked, ret, normal, threw}
use Rattle.py_model.specs.Expressions.{Here, scope_of, op, op_named, op_of, doing, doing_or, walking, by_truth, asking_truth, constant}
use Rattle.py_tree.specs.Functions.{Function, is_local, suite_binds}
use Rattle.py_model.specs.Going.{Open, a_statement}
use Rattle.py_model.specs.Operations.{Op}
use Rattle.py_model.specs.Statements.{op_whole, module_of, parts_in, first_of, rest_of}
use Rattle.slice_law.specs.Closed.{StmtSet}
use Rattle.std.specs.Str.{bytes_eq}
use Rattle.py_tree.specs.declared.expr.Atom.{Atom}
use Rattle.py_tree.specs.declared.expr.Atom.TheVariants.{None as none_atom, Bool as truth_atom, Int as int_atom, Text as text_atom}
use Rattle.py_value.specs.Seen.{number_by}
use Rattle.py_model.specs.AlikeOperations.{renamed_op}
use Rattle.py_model.specs.Classes.{sys_module}
use Rattle.py_model.specs.Moment.{Moment}
use Rattle.py_model.specs.Renaming.{Renaming, renamed, renamed_parts, renamed_list}
use Rattle.py_model.specs.Statements.{module_names}
use Rattle.slice_simulation.proofs.Beside.{SameHow, both_normal, both_threw, Ground, OnName, Beside, both_ret, both_perform, lost_name, less}
use Rattle.py_tree.specs.Deletion.{or_pass, kept_suite}
use Rattle.py_tree.specs.Numbering.{numbered_suite}
use Rattle.py_tree.proofs.ScopeLaws.{local_no_more}
use Rattle.slice_simulation.specs.Cut.{SameFunction}
use Rattle.slice_simulation.proofs.Marks.{shifts}
use Rattle.slice_simulation.specs.Renaming.{Fits, SameValue, SameValues, SameOp, SameScope, Marks, all_marks}

length_renamed : (r : Renaming) (vs : List Contents) → length (renamed_list r vs) ≡ length vs
length_renamed r [] = refl
length_renamed r (v ∷ vs) = ap suc (length_renamed r vs)

parts_renamed : (r : Renaming) (v : Contents) → parts_in (renamed r v) ≡ renamed_parts r (parts_in v)
parts_renamed r (tuple parts) = refl
parts_renamed r v = refl

first_renamed : (r : Renaming) (ps : Parts) → first_of (renamed_parts r ps) ≡ renamed r (first_of ps)
first_renamed r no_parts = refl
first_renamed r (part first rest) = refl

rest_renamed : (r : Renaming) (ps : Parts) → rest_of (renamed_parts r ps) ≡ renamed_parts r (rest_of ps)
rest_renamed r no_parts = refl
rest_renamed r (part first rest) = refl

op_same : (r : Renaming) (number : ℕ) (name : List ℕ) (m n : ℕ) (v w : Contents) → n ≡ r.scopes m → w ≡ renamed r v
    → ◌≡◌ {A = Op} (record { no = number; scope = n; name = name; value = w }) (renamed_op r (record { no = number; scope = m; name = name; value = v }))
op_same r number name m n v w one another = cc

-- the scope of a name in a function and its activation
abbrev scope_in : Option Function → ℕ → List ℕ → ℕ
scope_in found a name = elim found [ None ↦ 0 | Some f ↦ if is_local f name then a else 0 ]

-- what is local in what is kept of a function is local in it
fewer_locals : (keep : StmtSet) (f g : Function) → SameFunction keep f g → (name : List ℕ) → is_local g name ≡ true → is_local f name ≡ true
fewer_locals keep f g same name local =
    (local_no_more keep same.first f name (sym as_cut ∙ local))
  where
    as_cut : is_local g name ≡ is_local (record f { body = numbered_suite same.first (or_pass f.body (kept_suite keep f.body)) }) name
    as_cut = ap₂ (λ (globals : List (List ℕ)) (params : List (List ℕ)). not (list_any (bytes_eq name) globals) && (list_any (bytes_eq name) params || suite_binds g.body name)) same.globals same.params
        ∙ ap (λ (body : SuiteTree). not (list_any (bytes_eq name) f.globals) && (list_any (bytes_eq name) f.params || suite_binds body name)) same.body

module _ (ground : Ground) (keep : StmtSet) (upto : List Moment) where
  abbrev pub marks : Marks
  marks = all_marks keep upto

  abbrev pub Same : Contents → Contents → Type 0
  Same v w = SameValue (all_marks keep upto) v w

  abbrev pub AllSame : List Contents → List Contents → Type 0
  AllSame vs ws = SameValues (all_marks keep upto) vs ws

  pub record PartsSame (ps qs : Parts) : Type 0 where
    pub is : (r : Renaming) → Fits (all_marks keep upto) r → qs ≡ renamed_parts r ps

  -- inside any kept statement
  abbrev pub In : ℕ → Act → Act → Type 0
  In k a b = (n : ℕ) (from : List Open) → keep n ≡ true → Beside ground keep (all_marks keep upto) k (a_statement n ∷ from) (a_statement n ∷ from) a b

  abbrev pub GoBoth : ℕ → (Contents → Act) → (Contents → Act) → Type 0
  GoBoth k go gone = (v w : Contents) → Same v w → In k (go v) (gone w)

  -- where both stand: at module level, or in the suite of a class
  pub data SameClass : Option Contents → Option Contents → Type 0 where
    no_class : SameClass None None
    one_class : {v w : Contents} → Same v w → SameClass (Some v) (Some w)

  -- the exceptions that are handled there
  pub data SameHandled : Option ℕ → Option ℕ → Type 0 where
    none_handled : SameHandled None None
    one_handled : {o e : ℕ} → Same (object o) (object e) → SameHandled (Some o) (Some e)

  -- the functions in which both stand, with their activations: that of the slice is what is kept of the script's
  pub data SameFunctions : Option Function → ℕ → Option Function → ℕ → Type 0 where
    no_function : {a b : ℕ} → SameFunctions None a None b
    one_function : {f g : Function} {a b : ℕ} → SameFunction keep f g → ground.called f g → SameScope (all_marks keep upto) a b → ground.entered a f.place
        → SameFunctions (Some f) a (Some g) b

  pub record BothHere (here there : Here) : Type 0 where
    pub functions : SameFunctions here.function here.activation there.function there.activation
    pub open_is : there.open_activations ≡ here.open_activations
    pub line_is : there.line ≡ here.line
    pub handled : SameHandled here.handled there.handled
    pub classes : SameClass here.in_class there.in_class

  pub none_same : AllSame [] []
  none_same = record { is = λ r fits. refl }

  pub more_same : {v w : Contents} {vs ws : List Contents} → Same v w → AllSame vs ws → AllSame (v ∷ vs) (w ∷ ws)
  more_same one more = record { is = λ r fits. ap₂ (λ (x : Contents) (xs : List Contents). x ∷ xs) (one.is r fits) (more.is r fits) }

  pub nothing_same : Same nothing nothing
  nothing_same = record { is = λ r fits. refl }

  pub one_same : {v w : Contents} → Same v w → AllSame (v ∷ []) (w ∷ [])
  one_same one = more_same one none_same

  pub plain_op : (number : ℕ) → SameOp (all_marks keep upto) (op number) (op number)
  plain_op number = record { is = λ r fits. op_same r number [] 0 0 nothing nothing (sym r.module_stays) refl }

  pub named_op : (number : ℕ) (name : List ℕ) → SameOp (all_marks keep upto) (op_named number name) (op_named number name)
  named_op number name = record { is = λ r fits. op_same r number name 0 0 nothing nothing (sym r.module_stays) refl }

  pub valued_op : (number : ℕ) {v w : Contents} → Same v w → SameOp (all_marks keep upto) (op_of number v) (op_of number w)
  valued_op number {v} {w} same = record { is = λ r fits. op_same r number [] 0 0 v w (sym r.module_stays) (same.is r fits) }

  pub whole_op : (number : ℕ) (name : List ℕ) {v w : Contents} → Same v w → SameOp (all_marks keep upto) (op_whole number 0 name v) (op_whole number 0 name w)
  whole_op number name {v} {w} same = record { is = λ r fits. op_same r number name 0 0 v w (sym r.module_stays) (same.is r fits) }

  pub constant_same : (atom : Atom) → Same (constant atom) (constant atom)
  constant_same none_atom = record { is = λ r fits. refl }
  constant_same (truth_atom b) = record { is = λ r fits. refl }
  constant_same (int_atom i) = record { is = λ r fits. refl }
  constant_same (text_atom bytes) = record { is = λ r fits. refl }

  pub module_same : (name : List ℕ) → Same (module_of name) (module_of name)
  module_same name = by_number (number_by (bytes_eq name) module_names)
    where
      by_number : (found : Option ℕ) → Same (elim found [ None ↦ nothing | Some number ↦ builtin (sys_module + number) ]) (elim found [ None ↦ nothing | Some number ↦ builtin (sys_module + number) ])
      by_number None = record { is = λ r fits. refl }
      by_number (Some number) = record { is = λ r fits. refl }

  pub parts_same : {v w : Contents} → Same v w → PartsSame (parts_in v) (parts_in w)
  parts_same {v} same = record { is = λ r fits. ap parts_in (same.is r fits) ∙ parts_renamed r v }

  pub first_same : {ps qs : Parts} → PartsSame ps qs → Same (first_of ps) (first_of qs)
  first_same {ps} same = record { is = λ r fits. ap first_of (same.is r fits) ∙ first_renamed r ps }

  pub rest_same : {ps qs : Parts} → PartsSame ps qs → PartsSame (rest_of ps) (rest_of qs)
  rest_same {ps} same = record { is = λ r fits. ap rest_of (same.is r fits) ∙ rest_renamed r ps }

  -- the other value is the one with its objects renamed
  pub by_near : (P : Contents → Type 0) (v w : Contents) → Same v w → (Same v (renamed (shifts keep upto 0).by v) → P (renamed (shifts keep upto 0).by v)) → P w
  by_near P v w same each =
      let is : w ≡ renamed (shifts keep upto 0).by v = same.is (shifts keep upto 0).by (shifts keep upto 0).fits in
      subst P (sym is) (each (subst (Same v) is same))

  pub as_long : {vs ws : List Contents} → AllSame vs ws → length ws ≡ length vs
  as_long {vs} same = ap length (same.is (shifts keep upto 0).by (shifts keep upto 0).fits) ∙ length_renamed (shifts keep upto 0).by vs

  pub ended : {k : ℕ} {how other : How} → SameHow (all_marks keep upto) how other → In k (ret how) (ret other)
  ended same n from kept = both_ret same

  pub in_less : (k : ℕ) {a b : Act} → In (suc k) a b → In k a b
  in_less k beside n from kept = less ground keep (all_marks keep upto) k (beside n from kept)

  pub in_if : {k : ℕ} {a b c d : Act} (test other : Bool) → other ≡ test → In k a b → In k c d → In k (if test then a else c) (if other then b else d)
  in_if true true same first second = first
  in_if false false same first second = second
  in_if true false same first second = absurd (false≢true same)
  in_if false true same first second = absurd (false≢true (sym same))

  thrown_both : {k : ℕ} (here there : Here) → there.line ≡ here.line → (o e : ℕ) → Same (object o) (object e) → In k (ret (threw o here.line)) (ret (threw e there.line))
  thrown_both {k} here there line o e same = subst (λ l. In k (ret (threw o here.line)) (ret (threw e l))) (sym line) (ended (both_threw same))

  pub doing_on : {k : ℕ} (here there : Here) → there.line ≡ here.line → (at : Pos) {p q : Op} {vs ws : List Contents} {go gone : Contents → Act} → SameOp (all_marks keep upto) p q → AllSame vs ws
      → GoBoth k go gone → In (suc k) (doing here at p vs go) (doing there at q ws gone)
  doing_on here there line at same_op same_values each n from kept =
      both_perform kept same_op same_values (λ v w walked same. each v w same n from kept) (λ o e walked same. thrown_both here there line o e same n from kept) (λ walked. both_ret both_normal)

  pub doing_both : {k : ℕ} (here there : Here) → there.line ≡ here.line → (at : Pos) {p q : Op} {vs ws : List Contents} {go gone : Contents → Act} → SameOp (all_marks keep upto) p q → AllSame vs ws
      → GoBoth (suc k) go gone → In (suc k) (doing here at p vs go) (doing there at q ws gone)
  doing_both {k} here there line at same_op same_values each = doing_on here there line at same_op same_values (λ v w same. in_less k (each v w same))

  pub doing_or_on : {k : ℕ} (here there : Here) → there.line ≡ here.line → (at : Pos) {p q : Op} {vs ws : List Contents} {go gone : Contents → Act} → SameOp (all_marks keep upto) p q → AllSame vs ws
      → GoBoth k go gone → In (suc k) (doing_or here at p vs (ret normal) go) (doing_or there at q ws (ret normal) gone)
  doing_or_on here there line at same_op same_values each n from kept =
      both_perform kept same_op same_values (λ v w walked same. each v w same n from kept) (λ o e walked same. thrown_both here there line o e same n from kept) (λ walked. both_ret both_normal)

  pub walking_both : {k : ℕ} (here there : Here) → there.line ≡ here.line → (at : Pos) {p q : Op} {vs ws : List Contents} {go gone : Contents → Walked → Act} → SameOp (all_marks keep upto) p q → AllSame vs ws
      → ((v w : Contents) (walked : Walked) → Same v w → In (suc k) (go v walked) (gone w walked)) → In (suc k) (walking here at p vs go) (walking there at q ws gone)
  walking_both {k} here there line at same_op same_values each n from kept =
      both_perform kept same_op same_values (λ v w walked same. less ground keep (all_marks keep upto) k (each v w walked same n from kept))
      (λ o e walked same. thrown_both here there line o e same n from kept) (λ walked. both_ret both_normal)

  truth_cases : {k : ℕ} {a b c d : Act} → In k a b → In k c d → (v : Contents) → In k (by_truth a c v) (by_truth b d (renamed (shifts keep upto 0).by v))
  truth_cases first second (truth true) = first
  truth_cases first second (truth false) = second
  truth_cases first second nothing = second
  truth_cases first second (int i) = second
  truth_cases first second (text bytes) = second
  truth_cases first second (tuple parts) = second
  truth_cases first second (range start end step) = second
  truth_cases first second (function place) = second
  truth_cases first second (class place) = second
  truth_cases first second (exception_class number) = second
  truth_cases first second (builtin number) = second
  truth_cases first second (object o) = second

  pub truth_both : {k : ℕ} (x y : Contents) {a b c d : Act} → Same x y → In k a b → In k c d → In k (by_truth a c x) (by_truth b d y)
  truth_both {k} x y {a} {b} {c} {d} is first second = by_near (λ y. In k (by_truth a c x) (by_truth b d y)) x y is (λ is. truth_cases first second x)

  pub asking_on : {k : ℕ} (here there : Here) → there.line ≡ here.line → (at : Pos) (v w : Contents) {a b c d : Act} → Same v w → In k a b → In k c d → In (suc k) (asking_truth here at v a c) (asking_truth there at w b d)
  asking_on {k} here there line at v w same first second = doing_on here there line at (plain_op 3) (one_same same) (λ x y is. truth_both x y is first second)

  pub asking_both : {k : ℕ} (here there : Here) → there.line ≡ here.line → (at : Pos) (v w : Contents) {a b c d : Act} → Same v w → In (suc k) a b → In (suc k) c d
      → In (suc k) (asking_truth here at v a c) (asking_truth there at w b d)
  asking_both {k} here there line at v w same first second = asking_on here there line at v w same (in_less k first) (in_less k second)

  -- An operation on a name. Where the name is local in the one function and not in what is kept of it, no run comes there.
  pub doing_named : {k : ℕ} (number : ℕ) {vs : List Contents} → OnName number vs → (here there : Here) → BothHere here there → (at : Pos) (name : List ℕ) {v w : Contents} {ws : List Contents} {go gone : Contents → Act}
      → Same v w → AllSame vs ws → GoBoth (suc k) go gone
      → In (suc k) (doing here at (op_whole number (scope_of here name) name v) vs go) (doing there at (op_whole number (scope_of there name) name w) ws gone)
  doing_named {k} number {vs} on here there both at name {v} {w} {ws} {go} {gone} same all each =
      by_functions here.function there.function here.activation there.activation both.functions
    where
      -- one scope in both
      with_scopes : (m n : ℕ) → ((r : Renaming) → Fits (all_marks keep upto) r → n ≡ r.scopes m)
          → In (suc k) (doing here at (op_whole number m name v) vs go) (doing there at (op_whole number n name w) ws gone)
      with_scopes m n scopes = doing_both here there both.line_is at (record { is = λ r fits. op_same r number name m n v w (scopes r fits) (same.is r fits) }) all each

      by_local : (f g : Function) (a b : ℕ) → SameFunction keep f g → ground.called f g → SameScope (all_marks keep upto) a b → ground.entered a f.place
          → (x : Bool) → is_local f name ≡ x → (y : Bool) → is_local g name ≡ y
          → In (suc k) (doing here at (op_whole number (if x then a else 0) name v) vs go) (doing there at (op_whole number (if y then b else 0) name w) ws gone)
      by_local f g a b one is_called scopes entered true local true too = with_scopes a b scopes.is
      by_local f g a b one is_called scopes entered false local false too = with_scopes 0 0 (λ r fits. sym r.module_stays)
      by_local f g a b one is_called scopes entered false local true too = absurd (false≢true (sym local ∙ fewer_locals keep f g one name too))
      by_local f g a b one is_called scopes entered true local false too = λ n from kept. lost_name kept on one is_called entered local too

      by_functions : (F G : Option Function) (a b : ℕ) → SameFunctions F a G b
          → In (suc k) (doing here at (op_whole number (scope_in F a name) name v) vs go) (doing there at (op_whole number (scope_in G b name) name w) ws gone)
      by_functions _ _ a b no_function = with_scopes 0 0 (λ r fits. sym r.module_stays)
      by_functions _ _ _ _ (one_function {f} {g} {a} {b} one is_called scopes entered) =
          by_local f g a b one is_called scopes entered (is_local f name) refl (is_local g name) refl
