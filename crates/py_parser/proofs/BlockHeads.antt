-- The statements of a suite grow by what a line begins.
use Rattle.std.proofs.Common.{◌≡◌, ℕ, true, false, not, ◌&&◌, List, [], ◌∷◌, ◌++◌, map, Option, Some, None, option_map, Box, Global, refl, ap, sym, ◌∙◌}
use Rattle.std.specs.Prelude.{slice_get}
use Rattle.std.proofs.lemmas.Bool.{false≢true}
use Rattle.std.proofs.lemmas.Option.{same_Some}
use Rattle.prov_base.specs.declared.place.Pos.{Pos}
use Rattle.py_lines.specs.declared.parts.Token.{Token}
use Rattle.py_tree.specs.declared.expr.Expr.{Expr}
use Rattle.py_tree.specs.declared.expr.Target.{Target}
use Rattle.py_tree.specs.declared.stmt.Bound.{Bound}
use Rattle.py_tree.specs.declared.stmt.Form.{Form}
use Rattle.py_tree.specs.declared.stmt.Params.{Params}
use Rattle.py_tree.specs.declared.stmt.Stmt.{Stmt}
use Rattle.py_tree.specs.declared.stmt.Form.TheViews.{roll-Stmt}
use Rattle.py_tree.specs.Tree.{StmtTree, FormTree, SuiteTree, one_stmt, if_form, while_form, for_form, try_form, with_form, def_form, class_form, end_suite, more_suite, end_branches, more_branches, no_else, end_handlers}
use Rattle.py_tree.specs.Erasure.{expr_of, target_of, form_of, stmt_of}
use Rattle.py_tree.proofs.StmtTrees.{stmt_tree}
use Rattle.py_grammar.specs.declared.head.What.{What}
use Rattle.py_grammar.specs.declared.head.What.TheVariants.{Simple as SimpleIs, If, Elif, Else, While, For, Try, Except, With, Def, Class, Global as GlobalIs}
use Rattle.py_grammar.specs.declared.head.Behind.{Behind}
use Rattle.py_expressions.specs.Trees.{expr_tree}
use Rattle.py_grammar.specs.Written.{Simple}
use Rattle.py_grammar.specs.StatementTokens.{simple_tokens}
use Rattle.py_grammar.specs.StatementTrees.{target_tree, simple_form}
use Rattle.py_grammar.specs.LineReader.{Head, if_head, elif_head, else_head, while_head, for_head, try_head, except_head, with_head, def_head, class_head, global_head}
use Rattle.py_grammar.specs.ParsedHead.{IsWhat, IsThere, begins_at}
use Rattle.py_parser.specs.Rows.{is_stmt, is_global}
use Rattle.py_parser.specs.RowForms.{suite_list, begun, form_begun, grown, last_changed, longer, with_part}

-- ---- one statement

begun_first : (ts : List Token) (t : Token) (n to : ℕ) (f : FormTree) → Some t ≡ slice_get ts 0 → one_stmt n t.at (record { from = t.span.from; to = to }) f ≡ begun n ts to f
begun_first [] t n to f is = cc
begun_first (u ∷ us) t n to f is = ap (λ (t : Token). one_stmt n t.at (record { from = t.span.from; to = to }) f) (same_Some t u is)

begun_none : (ts : List Token) (n to : ℕ) (f : FormTree) → None ≡ slice_get ts 0 → one_stmt n (record { line = 0; col = 0 }) (record { from = 0; to = to }) f ≡ begun n ts to f
begun_none [] n to f is = refl
begun_none (u ∷ us) n to f is = cc

-- the place and the first byte of these tokens' first
pub stmt_first : (n : ℕ) (from : Pos × ℕ) (to : ℕ) (boxed : Box Form Global) (form : Form) (ts us : List Token) (t : Token) → boxed.value ≡ form → from ≡ (t.at, t.span.from) → Some t ≡ slice_get us 0 → us ≡ ts
    → stmt_of (roll-Stmt (record { no = n; pos = from.0; span = record { from = from.1; to = to }; form = boxed })) ≡ begun n ts to (form_of form)
stmt_first n from to boxed form ts us t boxed_is from_is first same =
    stmt_tree _ ∙ ap (λ f. one_stmt n from.0 (record { from = from.1; to = to }) (form_of f)) boxed_is
    ∙ ap (λ (p : Pos × ℕ). one_stmt n p.0 (record { from = p.1; to = to }) (form_of form)) from_is
    ∙ begun_first ts t n to (form_of form) (first ∙ ap (λ (l : List Token). slice_get l 0) same)

pub stmt_none : (n : ℕ) (from : Pos × ℕ) (to : ℕ) (boxed : Box Form Global) (form : Form) (ts us : List Token) → boxed.value ≡ form → from ≡ (record { line = 0; col = 0 }, 0) → None ≡ slice_get us 0 → us ≡ ts
    → stmt_of (roll-Stmt (record { no = n; pos = from.0; span = record { from = from.1; to = to }; form = boxed })) ≡ begun n ts to (form_of form)
stmt_none n from to boxed form ts us boxed_is from_is first same =
    stmt_tree _ ∙ ap (λ f. one_stmt n from.0 (record { from = from.1; to = to }) (form_of f)) boxed_is
    ∙ ap (λ (p : Pos × ℕ). one_stmt n p.0 (record { from = p.1; to = to }) (form_of form)) from_is
    ∙ begun_none ts n to (form_of form) (first ∙ ap (λ (l : List Token). slice_get l 0) same)

begun_there : (ts : List Token) (at : Pos) (from n to : ℕ) (f : FormTree) → begins_at ts at from → one_stmt n at (record { from = from; to = to }) f ≡ begun n ts to f
begun_there [] at from n to f is = absurd is
begun_there (u ∷ us) at from n to f is = ap (λ p. one_stmt n p (record { from = from; to = to }) f) is.0 ∙ ap (λ i. one_stmt n u.at (record { from = i; to = to }) f) is.1

-- the suite of a line that has a statement behind its `:`
pub suite_of_one : (n to : ℕ) (b : Behind) (boxed : Box Form Global) (s : Simple) (old new : List Stmt) → boxed.value ≡ b.form → old ≡ [] → new ≡ old ++ roll-Stmt (record { no = n; pos = b.at; span = record { from = b.from; to = to }; form = boxed }) ∷ [] → IsThere b s
    → suite_list (map stmt_of new) ≡ more_suite (begun n (simple_tokens s) to (simple_form s)) end_suite
suite_of_one n to b boxed s old new boxed_is empty new_is is =
    let one : stmt_of (roll-Stmt (record { no = n; pos = b.at; span = record { from = b.from; to = to }; form = boxed })) ≡ begun n (simple_tokens s) to (simple_form s) =
    stmt_tree _ ∙ ap (λ f. one_stmt n b.at (record { from = b.from; to = to }) (form_of f)) boxed_is ∙ ap (one_stmt n b.at (record { from = b.from; to = to })) is.form_is ∙ begun_there (simple_tokens s) b.at b.from n to (simple_form s) is.begins in
    ap (λ l. suite_list (map stmt_of l)) (new_is ∙ ap (λ l. l ++ roll-Stmt (record { no = n; pos = b.at; span = record { from = b.from; to = to }; form = boxed }) ∷ []) empty) ∙ ap (λ s. more_suite s end_suite) one

pub stmt_longer : (s : Stmt) (boxed : Box Form Global) (f : Form) (g : FormTree → FormTree) (to : ℕ) → boxed.value ≡ f → form_of f ≡ g (form_of s.form.value)
    → stmt_of (roll-Stmt (record { no = s.no; pos = s.pos; span = record { from = s.span.from; to = to }; form = boxed })) ≡ longer g to (stmt_of s)
stmt_longer s boxed f g to boxed_is is =
    stmt_tree _ ∙ ap (λ f. one_stmt s.no s.pos (record { from = s.span.from; to = to }) (form_of f)) boxed_is
    ∙ ap (one_stmt s.no s.pos (record { from = s.span.from; to = to })) is ∙ ap (longer g to) (sym (stmt_tree s))

-- ---- what a line begins

pub if_begun : (h : Head) (test : Expr) (body : SuiteTree) (names : List (List ℕ)) → IsWhat (If test) h → if_form (more_branches (expr_of test) body end_branches) no_else ≡ form_begun h body names
if_begun (if_head at e colon b) test body names is = ap (λ t. if_form (more_branches t body end_branches) no_else) is
if_begun h test body names is = absurd is

pub while_begun : (h : Head) (test : Expr) (body : SuiteTree) (names : List (List ℕ)) → IsWhat (While test) h → while_form (expr_of test) body ≡ form_begun h body names
while_begun (while_head at e colon b) test body names is = ap (λ t. while_form t body) is
while_begun h test body names is = absurd is

pub for_begun : (h : Head) (target : Target) (items : Expr) (body : SuiteTree) (names : List (List ℕ)) → IsWhat (For target items) h → for_form (target_of target) (expr_of items) body ≡ form_begun h body names
for_begun (for_head at t in_word e colon b) target items body names is = ap (λ t. for_form t (expr_of items) body) is.0 ∙ ap (λ e. for_form (target_tree t) e body) is.1
for_begun h target items body names is = absurd is

pub try_begun : (h : Head) (body : SuiteTree) (names : List (List ℕ)) → IsWhat Try h → try_form body end_handlers ≡ form_begun h body names
try_begun (try_head at colon b) body names is = refl
try_begun h body names is = absurd is

pub with_begun : (h : Head) (value : Expr) (bound : Option Bound) (body : SuiteTree) (names : List (List ℕ)) → IsWhat (With value bound) h → with_form (expr_of value) bound body ≡ form_begun h body names
with_begun (with_head at e called colon b) value bound body names is = ap (λ e. with_form e bound body) is.0 ∙ ap (λ b. with_form (expr_tree e) b body) is.1
with_begun h value bound body names is = absurd is

pub def_begun : (h : Head) (name : List ℕ) (params : Params) (body : SuiteTree) (names : List (List ℕ)) → IsWhat (Def name params) h → def_form name params.list.items names body ≡ form_begun h body names
def_begun (def_head at name_at bytes opening given closing colon b) name params body names is = ap (λ n. def_form n params.list.items names body) is.0 ∙ ap (λ p. def_form bytes p names body) is.1
def_begun h name params body names is = absurd is

pub class_begun : (h : Head) (name : List ℕ) (base : Option Expr) (body : SuiteTree) (names : List (List ℕ)) → IsWhat (Class name base) h → class_form name (option_map expr_of base) body ≡ form_begun h body names
class_begun (class_head at name_at bytes of colon b) name base body names is = ap (λ n. class_form n (option_map expr_of base) body) is.0 ∙ ap (λ b. class_form bytes b body) is.1
class_begun h name base body names is = absurd is

-- what is none of these begins no statement
pub no_stmt : (what : What) (h : Head) → ((form : Form) → what ≡ SimpleIs form → ⊥) → ((test : Expr) → what ≡ If test → ⊥) → ((test : Expr) → what ≡ While test → ⊥) → ((target : Target) (items : Expr) → what ≡ For target items → ⊥)
    → (what ≡ Try → ⊥) → ((value : Expr) (bound : Option Bound) → what ≡ With value bound → ⊥) → ((name : List ℕ) (params : Params) → what ≡ Def name params → ⊥) → ((name : List ℕ) (base : Option Expr) → what ≡ Class name base → ⊥)
    → IsWhat what h → is_stmt h ≡ false
no_stmt (SimpleIs form) h s i w f t v d k is = absurd (s form refl)
no_stmt (If e) h s i w f t v d k is = absurd (i e refl)
no_stmt (While e) h s i w f t v d k is = absurd (w e refl)
no_stmt (For target e) h s i w f t v d k is = absurd (f target e refl)
no_stmt Try h s i w f t v d k is = absurd (t refl)
no_stmt (With e bound) h s i w f t v d k is = absurd (v e bound refl)
no_stmt (Def name params) h s i w f t v d k is = absurd (d name params refl)
no_stmt (Class name base) h s i w f t v d k is = absurd (k name base refl)
no_stmt (Elif e) (elif_head at test colon b) s i w f t v d k is = refl
no_stmt (Elif e) h s i w f t v d k is = absurd is
no_stmt Else (else_head at colon b) s i w f t v d k is = refl
no_stmt Else h s i w f t v d k is = absurd is
no_stmt (Except class bound) (except_head at kind colon b) s i w f t v d k is = refl
no_stmt (Except class bound) h s i w f t v d k is = absurd is
no_stmt (GlobalIs names) (global_head at written) s i w f t v d k is = refl
no_stmt (GlobalIs names) h s i w f t v d k is = absurd is

-- ---- the statements so far

map_last : {A B : Type 0} (f : A → B) (front : List A) (x : A) → map f (front ++ x ∷ []) ≡ map f front ++ (f x ∷ [])
map_last f [] x = refl
map_last f (y ∷ ys) x = ap (λ l. f y ∷ l) (map_last f ys x)

last_is_changed : (f : StmtTree → StmtTree) (front : List StmtTree) (s : StmtTree) → last_changed f (front ++ s ∷ []) ≡ front ++ (f s ∷ [])
last_is_changed f [] s = refl
last_is_changed f (t ∷ []) s = refl
last_is_changed f (t ∷ u ∷ ss) s = ap (λ l. t ∷ l) (last_is_changed f (u ∷ ss) s)

grown_by_part : (n : ℕ) (h : Head) (body : SuiteTree) (names : List (List ℕ)) (to : ℕ) (ss : List StmtTree) → true ≡ (not (is_stmt h) && not (is_global h)) → last_changed (longer (with_part h body) to) ss ≡ grown n h body names to ss
grown_by_part n (elif_head at test colon b) body names to ss is = refl
grown_by_part n (else_head at colon b) body names to ss is = refl
grown_by_part n (except_head at kind colon b) body names to ss is = refl
grown_by_part n h body names to ss is = absurd (false≢true (sym is))

pub part_grown : (n : ℕ) (h : Head) (body : SuiteTree) (names : List (List ℕ)) (to : ℕ) (old front new : List Stmt) (s more : Stmt) → true ≡ (not (is_stmt h) && not (is_global h))
    → old ≡ front ++ s ∷ [] → new ≡ front ++ more ∷ [] → stmt_of more ≡ longer (with_part h body) to (stmt_of s)
    → map stmt_of new ≡ grown n h body names to (map stmt_of old)
part_grown n h body names to old front new s more part old_is new_is is =
    ap (map stmt_of) new_is ∙ map_last stmt_of front more ∙ ap (λ t. map stmt_of front ++ (t ∷ [])) is
    ∙ sym (last_is_changed (longer (with_part h body) to) (map stmt_of front) (stmt_of s))
    ∙ ap (last_changed (longer (with_part h body) to)) (sym (map_last stmt_of front s) ∙ ap (map stmt_of) (sym old_is))
    ∙ grown_by_part n h body names to (map stmt_of old) part
