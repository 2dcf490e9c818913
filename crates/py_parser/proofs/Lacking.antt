-- A suite that has no statement yet: how that is known of more lines that stand before it.
use Rattle.std.proofs.Common.{◌≡◌, inl, inr, ◌⊎◌, ℕ, ◌<◌, Bool, true, false, ◌&&◌, ◌||◌, not, List, [], ◌∷◌, ◌++◌, refl, ap, sym, ◌∙◌, subst, append_assoc, append-nil}
use Rattle.std.proofs.lemmas.Bool.{false≢true}
use Rattle.py_lines.specs.declared.parts.Line.{Line}
use Rattle.py_grammar.specs.StatementTokens.{names_tokens}
use Rattle.py_grammar.specs.LineReader.{Head, simple_head, if_head, elif_head, else_head, while_head, for_head, try_head, except_head, with_head, def_head, class_head, global_head, head_tokens}
use Rattle.py_grammar.specs.Layout.{IsLine}
use Rattle.py_parser.specs.Rows.{Rows, end_rows, row, Under, nothing, block, rows_lines, under_lines, Level, is_global, opens, after, inside, follows, Leads, FitsUnder}
use Rattle.py_parser.specs.Faults.{AreGlobal, LacksStatement}
use Rattle.py_parser.specs.ParsedBlocks.{NoneYet, Lacks, LacksUnder}

pub indent_stays : (l m : Level) (rows : Rows) → Leads l rows m → m.indent ≡ l.indent
indent_stays l m end_rows leads = ap (λ (k : Level). k.indent) leads
indent_stays l m (row line h under rest) leads = indent_stays (after l h) m rest leads.3

def_stays : (l m : Level) (rows : Rows) → Leads l rows m → m.of_def ≡ l.of_def
def_stays l m end_rows leads = ap (λ (k : Level). k.of_def) leads
def_stays l m (row line h under rest) leads = def_stays (after l h) m rest leads.3

all_global : (d : ℕ) (a b : List Line) → AreGlobal d a → AreGlobal d b → AreGlobal d (a ++ b)
all_global d [] b one other = other
all_global d (line ∷ a) b one other = (one.0, one.1, all_global d a b one.2 other)

no_stmt : (a b : Bool) → (a || not b) ≡ false → (a ≡ false) × (b ≡ true)
no_stmt true b is = cc
no_stmt false true is = (refl, refl)
no_stmt false false is = cc

of_def_too : (a b : Bool) → (a && b) ≡ true → a ≡ true
of_def_too true b is = refl
of_def_too false b is = cc

-- a `global` line, under which nothing stands
global_row : (l : Level) (line : Line) (h : Head) (under : Under) (more : List Line) → is_global h ≡ true → IsLine line l.indent (head_tokens h) → follows l h ≡ true → FitsUnder l h under → AreGlobal l.indent more
    → AreGlobal l.indent (line ∷ under_lines under ++ more) × (l.of_def ≡ true)
global_row l line (global_head at names) nothing more is fits may_follow none all =
    ((fits.indent_is, record { at = at; more = names_tokens names; tokens_are = fits.tokens_are }, all), of_def_too l.of_def _ may_follow)
global_row l line (global_head at names) (block k rows) more is fits may_follow some all = absurd (false≢true some.0)
global_row l line (simple_head s) under more is fits may_follow some all = absurd (false≢true is)
global_row l line (if_head at test colon behind) under more is fits may_follow some all = absurd (false≢true is)
global_row l line (elif_head at test colon behind) under more is fits may_follow some all = absurd (false≢true is)
global_row l line (else_head at colon behind) under more is fits may_follow some all = absurd (false≢true is)
global_row l line (while_head at test colon behind) under more is fits may_follow some all = absurd (false≢true is)
global_row l line (for_head at t in_word e colon behind) under more is fits may_follow some all = absurd (false≢true is)
global_row l line (try_head at colon behind) under more is fits may_follow some all = absurd (false≢true is)
global_row l line (except_head at kind colon behind) under more is fits may_follow some all = absurd (false≢true is)
global_row l line (with_head at e called colon behind) under more is fits may_follow some all = absurd (false≢true is)
global_row l line (def_head at name_at bytes opening names closing colon behind) under more is fits may_follow some all = absurd (false≢true is)
global_row l line (class_head at name_at bytes of colon behind) under more is fits may_follow some all = absurd (false≢true is)

-- rows behind which a suite has no statement yet
record AllGlobal (l : Level) (rows : Rows) : Type 0 where
  empty : l.has_stmt ≡ false
  of_def : (l.of_def ≡ true) ⊎ (rows_lines rows ≡ [])
  are : AreGlobal l.indent (rows_lines rows)

rows_global : (l m : Level) (rows : Rows) → Leads l rows m → m.has_stmt ≡ false → AllGlobal l rows
rows_global l m end_rows leads none = record { empty = sym (ap (λ (k : Level). k.has_stmt) leads) ∙ none; of_def = inr refl; are = tt }
rows_global l m (row line h under rest) leads none =
    let further = rows_global (after l h) m rest leads.3 none in
    let split = no_stmt l.has_stmt (is_global h) further.empty in
    let one = global_row l line h under (rows_lines rest) split.1 leads.0 leads.1 leads.2 further.are in
    record { empty = split.0; of_def = inl one.1; are = one.0 }

none_yet : (l m : Level) (rows : Rows) (d : ℕ) (front : List Line) → Leads l rows m → NoneYet m d front → NoneYet l d (rows_lines rows ++ front)
none_yet l m rows d front leads n =
    let all = rows_global l m rows leads n.empty in
    let at : d ≡ l.indent = n.indent_is ∙ indent_stays l m rows leads in
    record {
      empty = all.empty;
      indent_is = at;
      of_def = elim all.of_def [
        | inl is ↦ inl is
        | inr no_rows ↦ elim n.of_def [ inl is ↦ inl (sym (def_stays l m rows leads) ∙ is) | inr no_front ↦ inr (ap (λ ls. ls ++ front) no_rows ∙ no_front) ]
      ];
      globals_are = all_global d (rows_lines rows) front (subst (λ e. AreGlobal e (rows_lines rows)) (sym at) all.are) n.globals_are;
    }

further_back : (d : ℕ) (a b : List Line) → LacksStatement d b → LacksStatement d (a ++ b)
further_back d a b k = record {
  before = a ++ k.before;
  line = k.line;
  globals = k.globals;
  front_is = ap (λ ls. a ++ ls) k.front_is ∙ sym (append_assoc a k.before (k.line ∷ k.globals));
  suite = k.suite;
  further = k.further;
  globals_are = k.globals_are;
}

pub lacks_behind : (l m : Level) (rows : Rows) (d : ℕ) (front : List Line) → Leads l rows m → Lacks m d front → Lacks l d (rows_lines rows ++ front)
lacks_behind l m rows d front leads (inl k) = inl (further_back d (rows_lines rows) front k)
lacks_behind l m rows d front leads (inr n) = inr (none_yet l m rows d front leads n)

pub lacks_end : (l m : Level) (rows : Rows) (d : ℕ) → Leads l rows m → Lacks m d [] → Lacks l d (rows_lines rows)
lacks_end l m rows d leads lacks = subst (Lacks l d) (append-nil (rows_lines rows)) (lacks_behind l m rows d [] leads lacks)

pub lacks_under : (m : Level) (h : Head) (line : Line) (d : ℕ) (front : List Line) → IsLine line m.indent (head_tokens h) → LacksUnder m h d front → Lacks m d (line ∷ front)
lacks_under m h line d front is (inl k) = inl (further_back d (line ∷ []) front k)
lacks_under m h line d front is (inr n) = inl (record {
  before = [];
  line = line;
  globals = front;
  front_is = refl;
  suite = record { head = h; tokens_are = is.tokens_are; opens_it = n.begins_suite };
  further = subst (λ e. e < d) (sym is.indent_is) n.further;
  globals_are = n.globals_are;
})

pub lacks_inside : (m : Level) (h : Head) (k d : ℕ) (front : List Line) → opens h ≡ true → m.indent < k → Lacks (inside m h k) d front → LacksUnder m h d front
lacks_inside m h k d front open_is deeper (inl lacks) = inl lacks
lacks_inside m h k d front open_is deeper (inr n) = inr (record { begins_suite = open_is; further = subst (λ e. m.indent < e) (sym n.indent_is) deeper; globals_are = n.globals_are })
