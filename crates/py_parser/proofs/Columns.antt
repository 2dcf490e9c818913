-- At which indentation a line may stand behind others, and how that is known further out.
use Rattle.std.proofs.Common.{◌≡◌, inl, inr, ◌⊎◌, ℕ, ◌<◌, ◌≤◌, ◌==◌, ◌||◌, suc, Bool, true, false, List, [], ◌∷◌, ◌++◌, refl, ap, sym, ◌∙◌, subst, arith, append_assoc, append-nil}
use Rattle.std.specs.List.{list_any}
use Rattle.std.proofs.lemmas.Bool.{false≢true, eqb-true, eq-eqb, ne_eqb}
use Rattle.std.proofs.lemmas.List.Folds.{list_any-append}
use Rattle.py_lines.specs.declared.parts.Line.{Line}
use Rattle.py_grammar.specs.LineReader.{Head}
use Rattle.py_parser.specs.Rows.{Rows, end_rows, row, Under, nothing, block, rows_lines, under_lines, Level, after, inside, Leads, FitsUnder, FitsRows, Edge, LastEdge}
use Rattle.py_parser.specs.Faults.{NoLess, IsOpenAt}
use Rattle.py_parser.specs.ParsedBlocks.{is_column, AreBelow}

-- ---- how far in lines stand

pub less_in : (d e : ℕ) (ls : List Line) → d ≤ e → NoLess e ls → NoLess d ls
less_in d e [] less all = tt
less_in d e (line ∷ ls) less all = (omega (arith, less, all.0), less_in d e ls less all.1)

pub all_both : (d : ℕ) (a b : List Line) → NoLess d a → NoLess d b → NoLess d (a ++ b)
all_both d [] b one other = other
all_both d (line ∷ a) b one other = (one.0, all_both d a b one.1 other)

pub all_front : (d : ℕ) (a b : List Line) → NoLess d (a ++ b) → NoLess d a
all_front d [] b all = tt
all_front d (line ∷ a) b all = (all.0, all_front d a b all.1)

all_rest : (d : ℕ) (a b : List Line) → NoLess d (a ++ b) → NoLess d b
all_rest d [] b all = all
all_rest d (line ∷ a) b all = all_rest d a b all.1

mutual
  pub rows_low : (l : Level) (rows : Rows) → FitsRows l rows → NoLess l.indent (rows_lines rows)
  rows_low l end_rows fits = tt
  rows_low l (row line h under rest) fits =
      (let at = fits.0.indent_is in omega (arith, at), all_both l.indent (under_lines under) (rows_lines rest) (less_in l.indent (suc l.indent) (under_lines under) (omega arith) (under_low l h under fits.2)) (rows_low (after l h) rest fits.3))

  pub under_low : (l : Level) (h : Head) (under : Under) → FitsUnder l h under → NoLess (suc l.indent) (under_lines under)
  under_low l h nothing fits = tt
  under_low l h (block k rows) fits = let deeper = fits.1 in less_in (suc l.indent) k (rows_lines rows) (omega (arith, deeper)) (rows_low (inside l h k) rows fits.2)

pub leads_low : (l m : Level) (rows : Rows) → Leads l rows m → NoLess l.indent (rows_lines rows)
leads_low l m end_rows leads = tt
leads_low l m (row line h under rest) leads =
    (let at = leads.0.indent_is in omega (arith, at), all_both l.indent (under_lines under) (rows_lines rest) (less_in l.indent (suc l.indent) (under_lines under) (omega arith) (under_low l h under leads.2)) (leads_low (after l h) m rest leads.3))

-- ---- open suites

pub open_behind : (d : ℕ) (a b : List Line) → IsOpenAt d b → IsOpenAt d (a ++ b)
open_behind d a b o = record { before = a ++ o.before; line = o.line; behind = o.behind; front_is = ap (λ ls. a ++ ls) o.front_is ∙ sym (append_assoc a o.before (o.line ∷ o.behind)); indent_is = o.indent_is; none_less = o.none_less }

pub open_first : (d : ℕ) (line : Line) (front : List Line) → line.indent ≡ d → NoLess d front → IsOpenAt d (line ∷ front)
open_first d line front is all = record { before = []; line = line; behind = front; front_is = refl; indent_is = is; none_less = all }

pub none_open : (d : ℕ) → IsOpenAt d [] → ⊥
none_open d o = by o.before o.front_is
  where
    by : (before : List Line) → [] ≡ before ++ o.line ∷ o.behind → ⊥
    by [] is = cc
    by (x ∷ before) is = cc

-- the line that stands there is the first of these, or one of the others
pub open_split : (d : ℕ) (line : Line) (front : List Line) → IsOpenAt d (line ∷ front) → ((line.indent ≡ d) × NoLess d front) ⊎ IsOpenAt d front
open_split d line front o = by o.before o.front_is
  where
    same_line : (a b : Line) (x y : List Line) → a ∷ x ≡ b ∷ y → a ≡ b
    same_line a b x y is = cc

    same_rest : (a b : Line) (x y : List Line) → a ∷ x ≡ b ∷ y → x ≡ y
    same_rest a b x y is = cc

    by : (before : List Line) → line ∷ front ≡ before ++ o.line ∷ o.behind → ((line.indent ≡ d) × NoLess d front) ⊎ IsOpenAt d front
    by [] is = inl (ap (λ (l : Line). l.indent) (same_line line o.line front o.behind is) ∙ o.indent_is, subst (NoLess d) (sym (same_rest line o.line front o.behind is)) o.none_less)
    by (x ∷ before) is = inr (record { before = before; line = o.line; behind = o.behind; front_is = same_rest line x front _ is; indent_is = o.indent_is; none_less = o.none_less })

pub open_apart : (d : ℕ) (a b : List Line) → IsOpenAt d (a ++ b) → IsOpenAt d b ⊎ (IsOpenAt d a × NoLess d b)
open_apart d [] b o = inl o
open_apart d (line ∷ a) b o = elim (open_split d line (a ++ b) o) [ inl here ↦ inr (open_first d line a here.0 (all_front d a b here.1), all_rest d a b here.1) | inr more ↦ further (open_apart d a b more) ]
  where
    further : IsOpenAt d b ⊎ (IsOpenAt d a × NoLess d b) → IsOpenAt d b ⊎ (IsOpenAt d (line ∷ a) × NoLess d b)
    further (inl o) = inl o
    further (inr o) = inr (open_behind d (line ∷ []) a o.0, o.1)

-- where no line is indented less, none that is open is
pub open_low : (d e : ℕ) (ls : List Line) → NoLess e ls → IsOpenAt d ls → e ≤ d
open_low d e ls all o = let at = o.indent_is in let low = (all_rest e o.before (o.line ∷ o.behind) (subst (NoLess e) o.front_is all)).0 in omega (arith, at, low)

-- rows whose last suite is closed by a line at another indentation than theirs leave no suite open there
under_open : (l : Level) (h : Head) (d : ℕ) (u : Under) (line : Line) (more : List Line) → line.indent ≡ d → FitsUnder l h u → Edge u (line ∷ more) → IsOpenAt d (under_lines u) → ⊥
under_open l h d nothing line more at fits edge o = none_open d o
under_open l h d (block k rows) line more at fits edge o = let low = open_low d k (rows_lines rows) (rows_low (inside l h k) rows fits.2) o in absurd (omega (arith, at, edge, low))

pub no_open_rows : (l m : Level) (rows : Rows) (d : ℕ) (line : Line) (more : List Line) → Leads l rows m → line.indent ≡ d → (d ≡ l.indent → ⊥) → LastEdge rows (line ∷ more) → IsOpenAt d (rows_lines rows) → ⊥
no_open_rows l m end_rows d line more leads at other edge o = none_open d o
no_open_rows l m (row first h under end_rows) d line more leads at other edge o =
    elim (open_split d first (under_lines under ++ []) o) [ inl here ↦ other (sym here.0 ∙ leads.0.indent_is) | inr further ↦ under_open l h d under line more at leads.2 edge (subst (IsOpenAt d) (append-nil (under_lines under)) further) ]
no_open_rows l m (row first h under (row line_2 h_2 under_2 rest)) d line more leads at other edge o =
    let deeper : IsOpenAt d (under_lines under) → suc l.indent ≤ d = λ x. open_low d (suc l.indent) (under_lines under) (under_low l h under leads.2) x in
    let next : line_2.indent ≡ l.indent = leads.3.0.indent_is in
    elim (open_split d first (under_lines under ++ (line_2 ∷ under_lines under_2 ++ rows_lines rest)) o) [
      | inl here ↦ other (sym here.0 ∙ leads.0.indent_is)
      | inr further ↦ elim (open_apart d (under_lines under) (line_2 ∷ under_lines under_2 ++ rows_lines rest) further)
          [ inl behind ↦ no_open_rows (after l h) m (row line_2 h_2 under_2 rest) d line more leads.3 at other edge behind | inr inner ↦ apart d l.indent line_2.indent next (deeper inner.0) inner.1.0 ]
    ]
  where
    apart : (d e f : ℕ) → f ≡ e → suc e ≤ d → d ≤ f → ⊥
    apart d e f same deep low = absurd (omega (arith, same, deep, low))

-- ---- the columns around

pub column_inside : (d k : ℕ) (cs : List ℕ) → is_column d cs ≡ true → is_column d (cs ++ k ∷ []) ≡ true
column_inside d k cs is = list_any-append (λ c. c == d) cs (k ∷ []) ∙ ap (λ b. b || list_any (λ c. c == d) (k ∷ [])) is ∙ or_true (list_any (λ c. c == d) (k ∷ []))
  where
    or_true : (b : Bool) → (true || b) ≡ true
    or_true b = refl

same_column : (k : ℕ) (cs : List ℕ) → is_column k (cs ++ k ∷ []) ≡ true
same_column k cs = list_any-append (λ c. c == k) cs (k ∷ []) ∙ ap (λ b. list_any (λ c. c == k) cs || (b || false)) (eq-eqb k k refl) ∙ last (list_any (λ c. c == k) cs)
  where
    last : (b : Bool) → (b || (true || false)) ≡ true
    last true = refl
    last false = refl

pub own_column : (d k : ℕ) (cs : List ℕ) → d ≡ k → is_column d (cs ++ k ∷ []) ≡ true
own_column d k cs is = ap (λ e. is_column e (cs ++ k ∷ [])) is ∙ same_column k cs

-- a column of what stands inside is the one here or one around
pub column_here : (d k : ℕ) (cs : List ℕ) → is_column d (cs ++ k ∷ []) ≡ true → (k ≡ d) ⊎ (is_column d cs ≡ true)
column_here d k cs is = by (list_any (λ c. c == d) cs) refl (k == d) refl (sym (list_any-append (λ c. c == d) cs (k ∷ [])) ∙ is)
  where
    by : (a : Bool) → list_any (λ c. c == d) cs ≡ a → (b : Bool) → (k == d) ≡ b → (list_any (λ c. c == d) cs || list_any (λ c. c == d) (k ∷ [])) ≡ true → (k ≡ d) ⊎ (is_column d cs ≡ true)
    by true around b here is = inr around
    by false around true here is = inl (eqb-true k d here)
    by false around false here is = absurd (false≢true (sym (ap (λ x. x || list_any (λ c. c == d) (k ∷ [])) around ∙ ap (λ x. false || (x || false)) here) ∙ is))

pub below_inside : (d e : ℕ) (cs : List ℕ) → d < e → AreBelow d cs → AreBelow e (cs ++ d ∷ [])
below_inside d e [] less all = (less, tt)
below_inside d e (c ∷ cs) less all = (omega (arith, less, all.0), below_inside d e cs less all.1)

pub not_column : (d e : ℕ) (cs : List ℕ) → d ≤ e → AreBelow d cs → is_column e cs ≡ false
not_column d e [] low all = refl
not_column d e (c ∷ cs) low all = ap (λ b. b || list_any (λ x. x == e) cs) (ne_eqb c e (λ is. other c all.0 is)) ∙ not_column d e cs low all.1
  where
    other : (c : ℕ) → c < d → c ≡ e → ⊥
    other c less is = absurd (omega (arith, is, less, low))
