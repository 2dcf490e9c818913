-- Rows that have the same lines are the same, as far as these lines go.
use Rattle.std.proofs.Common.{◌≡◌, not, ℕ, ◌+◌, ◌<◌, Bool, true, false, ◌&&◌, List, [], ◌∷◌, ◌++◌, refl, ap, sym, ◌∙◌, subst, arith, append_assoc}
use Rattle.std.proofs.lemmas.Bool.{false≢true}
use Rattle.py_lines.specs.declared.parts.Line.{Line}
use Rattle.py_grammar.specs.LineReader.{Head, head_tokens}
use Rattle.py_grammar.specs.Layout.{IsLine}
use Rattle.py_grammar.specs.Follows.{Below}
use Rattle.py_grammar.specs.ParsedHead.{lacks_handler}
use Rattle.py_grammar.specs.Limits.{Limits}
use Rattle.py_parser.specs.Rows.{Edge, LastEdge, Begun, Left, Rows, end_rows, row, Under, nothing, block, rows_lines, under_lines, Level, counted, after, inside, Leads, FitsUnder, FitsRows, may, rows_may, under_may, rows_size, under_size}
use Rattle.py_grammar.proofs.HeadReading.{same_head}

first_line : (a b : Line) (x y : List Line) → a ∷ x ≡ b ∷ y → a ≡ b
first_line a b x y is = cc

other_lines : (a b : Line) (x y : List Line) → a ∷ x ≡ b ∷ y → x ≡ y
other_lines a b x y is = cc

no_lines : (a : Line) (x : List Line) → a ∷ x ≡ [] → ⊥
no_lines a x is = cc

one_head : (line : Line) (d e : ℕ) (g h : Head) → IsLine line d (head_tokens g) → IsLine line e (head_tokens h) → g ≡ h
one_head line d e g h a b = same_head g h (sym a.tokens_are ∙ b.tokens_are)

-- a line at this indentation is not below it
not_below : (line : Line) (lines : List Line) (d : ℕ) (ts : List _) → IsLine line d ts → Below d (line ∷ lines) → ⊥
not_below line lines d ts is low = let at = is.indent_is in absurd (omega (arith, at, low))

-- ---- what stands under a line

pub record SameRows (a b : Rows) (x y : List Line) : Type 0 where
  pub rows_are : a ≡ b
  pub rest_is : x ≡ y

pub record SameUnder (a b : Under) (x y : List Line) : Type 0 where
  pub under_is : a ≡ b
  pub rest_is : x ≡ y

below_more : (d k : ℕ) (x : List Line) → d < k → Below d x → Below k x
below_more d k [] less low = tt
below_more d k (line ∷ x) less low = omega (arith, less, low)

-- behind rows at an indentation stands nothing that is indented more
edge_of : (l : Level) (k : ℕ) (rows : Rows) (x : List Line) → l.indent < k → FitsRows l rows → Below l.indent x → Below k (rows_lines rows ++ x)
edge_of l k end_rows x less fits low = below_more l.indent k x less low
edge_of l k (row line h under rest) x less fits low = let at = fits.0.indent_is in omega (arith, at, less)

pub edge_under : (l : Level) (h g : Head) (under : Under) (rest : Rows) (x : List Line) → FitsUnder l h under → FitsRows (after l g) rest → Below l.indent x → Edge under (rows_lines rest ++ x)
edge_under l h g nothing rest x fits more low = tt
edge_under l h g (block k rows) rest x fits more low = edge_of (after l g) k rest x fits.1 more low

pub begun_rows : (l : Level) (rows : Rows) (x : List Line) → l.has_stmt ≡ false → FitsRows l rows → Begun l.indent (rows_lines rows ++ x)
begun_rows l end_rows x has fits = absurd (false≢true (sym (ap (λ b. b && not (lacks_handler l.context.last)) has) ∙ fits))
begun_rows l (row line h under rest) x has fits = fits.0.indent_is

pub one_indent : (d e : ℕ) (x y : List Line) → Begun d x → Begun e y → x ≡ y → d ≡ e
one_indent d e [] y a b is = absurd a
one_indent d e (line ∷ x) [] a b is = absurd b
one_indent d e (line ∷ x) (other ∷ y) a b is = sym a ∙ ap (λ (l : Line). l.indent) (first_line line other x y is) ∙ b

-- what is read of the lines behind a first one
shifted : (line line_2 : Line) (a b x c d y : List Line) → (line ∷ a ++ b) ++ x ≡ (line_2 ∷ c ++ d) ++ y → a ++ (b ++ x) ≡ c ++ (d ++ y)
shifted line line_2 a b x c d y is = sym (append_assoc a b x) ∙ other_lines line line_2 _ _ is ∙ append_assoc c d y

same_row : (line line_2 : Line) (h h_2 : Head) (u u_2 : Under) (r r_2 : Rows) → line ≡ line_2 → h ≡ h_2 → u ≡ u_2 → r ≡ r_2 → row line h u r ≡ row line_2 h_2 u_2 r_2
same_row line line_2 h h_2 u u_2 r r_2 a b c d = ap (λ x. row x h u r) a ∙ ap (λ x. row line_2 x u r) b ∙ ap (λ x. row line_2 h_2 x r) c ∙ ap (λ x. row line_2 h_2 u_2 x) d

-- two rows with one line have one head
pub head_is : (l m : Level) (line line_2 : Line) (h h_2 : Head) → line ≡ line_2 → IsLine line l.indent (head_tokens h) → IsLine line_2 m.indent (head_tokens h_2) → h ≡ h_2
head_is l m line line_2 h h_2 is a b = one_head line l.indent m.indent h h_2 a (subst (λ (x : Line). IsLine x m.indent (head_tokens h_2)) (sym is) b)

mutual
  pub same_rows : (l : Level) (a b : Rows) (x y : List Line) → FitsRows l a → FitsRows l b → Below l.indent x → Below l.indent y → rows_lines a ++ x ≡ rows_lines b ++ y → SameRows a b x y
  same_rows l end_rows end_rows x y fits other low lower is = record { rows_are = refl; rest_is = is }
  same_rows l end_rows (row line h under rest) x y fits other low lower is = absurd (not_below line ((under_lines under ++ rows_lines rest) ++ y) l.indent _ other.0 (subst (Below l.indent) is low))
  same_rows l (row line h under rest) end_rows x y fits other low lower is = absurd (not_below line ((under_lines under ++ rows_lines rest) ++ x) l.indent _ fits.0 (subst (Below l.indent) (sym is) lower))
  same_rows l (row line h under rest) (row line_2 h_2 under_2 rest_2) x y fits other low lower is =
      let first : line ≡ line_2 = first_line line line_2 _ _ is in
      let head : h ≡ h_2 = head_is l l line line_2 h h_2 first fits.0 other.0 in
      let below_2 : FitsUnder l h under_2 = subst (λ g. FitsUnder l g under_2) (sym head) other.2 in
      let rest_fits : FitsRows (after l h) rest_2 = subst (λ g. FitsRows (after l g) rest_2) (sym head) other.3 in
      let u = same_under l h under under_2 (rows_lines rest ++ x) (rows_lines rest_2 ++ y) fits.2 below_2 (edge_under l h h under rest x fits.2 fits.3 low) (edge_under l h h under_2 rest_2 y below_2 rest_fits lower)
      (shifted line line_2 (under_lines under) (rows_lines rest) x (under_lines under_2) (rows_lines rest_2) y is) in
      let r = same_rows (after l h) rest rest_2 x y fits.3 rest_fits low lower u.rest_is in
      record { rows_are = same_row line line_2 h h_2 under under_2 rest rest_2 first head u.under_is r.rows_are; rest_is = r.rest_is }

  pub same_under : (l : Level) (h : Head) (a b : Under) (x y : List Line) → FitsUnder l h a → FitsUnder l h b → Edge a x → Edge b y → under_lines a ++ x ≡ under_lines b ++ y → SameUnder a b x y
  same_under l h nothing nothing x y fits other edge edge_2 is = record { under_is = refl; rest_is = is }
  same_under l h nothing (block k rows) x y fits other edge edge_2 is = absurd (false≢true (sym fits ∙ other.0))
  same_under l h (block k rows) nothing x y fits other edge edge_2 is = absurd (false≢true (sym other ∙ fits.0))
  same_under l h (block k rows) (block m rows_2) x y fits other edge edge_2 is =
      let same : k ≡ m = one_indent k m (rows_lines rows ++ x) (rows_lines rows_2 ++ y) (begun_rows (inside l h k) rows x refl fits.2) (begun_rows (inside l h m) rows_2 y refl other.2) is in
      let r = same_rows (inside l h k) rows rows_2 x y fits.2 (subst (λ d. FitsRows (inside l h d) rows_2) (sym same) other.2) edge (subst (λ d. Below d y) (sym same) edge_2) is in
      record { under_is = ap (λ d. block d rows) same ∙ ap (block m) r.rows_are; rest_is = r.rest_is }

-- ---- rows behind others

second : (a b : Bool) → (a && b) ≡ true → b ≡ true
second true b is = is
second false b is = absurd (false≢true is)

first_edge : (l : Level) (h : Head) (line : Line) (under : Under) (rest : Rows) (m : Level) (x : List Line) → FitsUnder l h under → Leads (after l h) rest m → LastEdge (row line h under rest) x → Edge under (rows_lines rest ++ x)
first_edge l h line nothing rest m x fits leads edge = tt
first_edge l h line (block k rows) end_rows m x fits leads edge = edge
first_edge l h line (block k rows) (row line_2 h_2 under_2 rest) m x fits leads edge = let at = leads.0.indent_is in let less = fits.1 in omega (arith, at, less)

rest_edge : (line : Line) (h : Head) (under : Under) (rest : Rows) (x : List Line) → LastEdge (row line h under rest) x → LastEdge rest x
rest_edge line h under end_rows x edge = tt
rest_edge line h under (row line_2 h_2 under_2 rest) x edge = edge

-- rows behind rows
abbrev pub join : Rows → Rows → Rows
join end_rows b = b
join (row line h under rest) b = row line h under (join rest b)

-- the rows that are left behind others, with what is asked of them or without
pub record LeftOver (m : Level) (front rows : Rows) (x r : List Line) : Type 0 where
  pub left : Rows
  pub rows_are : rows ≡ join front left
  pub fits : FitsRows m left
  pub lines_are : rows_lines left ++ r ≡ x

-- all that fits with these first lines goes on behind them
pub left_over : (l m : Level) (front rows : Rows) (x r : List Line) → Leads l front m → FitsRows l rows → Below l.indent r → LastEdge front x → rows_lines rows ++ r ≡ rows_lines front ++ x → LeftOver m front rows x r
left_over l m end_rows rows x r leads fits low edge is = record { left = rows; rows_are = refl; fits = subst (λ k. FitsRows k rows) (sym leads) fits; lines_are = is }
left_over l m (row line h under rest) end_rows x r leads fits low edge is = absurd (not_below line ((under_lines under ++ rows_lines rest) ++ x) l.indent _ leads.0 (subst (Below l.indent) is low))
left_over l m (row line h under rest) (row line_2 h_2 under_2 rest_2) x r leads fits low edge is =
    let first : line ≡ line_2 = first_line line line_2 _ _ (sym is) in
    let head : h ≡ h_2 = head_is l l line line_2 h h_2 first leads.0 fits.0 in
    let below_2 : FitsUnder l h under_2 = subst (λ g. FitsUnder l g under_2) (sym head) fits.2 in
    let rest_fits : FitsRows (after l h) rest_2 = subst (λ g. FitsRows (after l g) rest_2) (sym head) fits.3 in
    let u = same_under l h under under_2 (rows_lines rest ++ x) (rows_lines rest_2 ++ r) leads.2 below_2 (first_edge l h line under rest m x leads.2 leads.3 edge) (edge_under l h h under_2 rest_2 r below_2 rest_fits low)
    (shifted line line_2 (under_lines under) (rows_lines rest) x (under_lines under_2) (rows_lines rest_2) r (sym is)) in
    let p = left_over (after l h) m rest rest_2 x r leads.3 rest_fits low (rest_edge line h under rest x edge) (sym u.rest_is) in
    record { left = p.left; rows_are = sym (same_row line line_2 h h_2 under under_2 (join rest p.left) rest_2 first head u.under_is (sym p.rows_are)); fits = p.fits; lines_are = p.lines_are }

left_may : (q : Limits) (l m : Level) (n : ℕ) (front left : Rows) → Leads l front m → rows_may q l n (join front left) ≡ true → rows_may q m (n + rows_size front) left ≡ true
left_may q l m n end_rows left leads may_be = subst (λ k. rows_may q m k left ≡ true) (omega arith) (subst (λ k. rows_may q k n left ≡ true) (sym leads) may_be)
left_may q l m n (row line h under rest) left leads may_be =
    let all : (may q l n h && under_may q l (n + counted h) h under && rows_may q (after l h) (n + counted h + under_size under) (join rest left)) ≡ true = may_be in
    subst (λ k. rows_may q m k left ≡ true) (omega arith) (left_may q (after l h) m (n + counted h + under_size under) rest left leads.3 (second _ _ all))

pub peeled : (q : Limits) (l m : Level) (n : ℕ) (front rows : Rows) (x r : List Line) → Leads l front m → FitsRows l rows → rows_may q l n rows ≡ true → Below l.indent r → LastEdge front x → rows_lines rows ++ r ≡ rows_lines front ++ x
    → Left q m (n + rows_size front) rows x r
peeled q l m n front rows x r leads fits may_be low edge is =
    let p = left_over l m front rows x r leads fits low edge is in
    record { left = p.left; fits = p.fits; may_be = left_may q l m n front p.left leads (ap (rows_may q l n) (sym p.rows_are) ∙ may_be); lines_are = p.lines_are }
