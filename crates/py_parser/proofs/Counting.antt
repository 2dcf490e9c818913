-- How many statements begin on the lines of rows.
use Rattle.std.proofs.Common.{◌≡◌, ℕ, ◌+◌, ◌≤◌, List, [], ◌∷◌, ◌++◌, refl, sym, subst, arith, append_assoc}
use Rattle.py_lines.specs.declared.parts.Line.{Line}
use Rattle.py_lines.specs.declared.parts.Token.{Token}
use Rattle.py_grammar.specs.LineReader.{Head, head_tokens}
use Rattle.py_grammar.specs.Layout.{IsLine}
use Rattle.py_parser.specs.Faults.{Counts}
use Rattle.py_parser.specs.Rows.{Rows, end_rows, row, Under, nothing, block, rows_lines, under_lines, Level, counted, after, inside, Leads, FitsUnder, FitsRows, rows_size, under_size}
use Rattle.py_parser.specs.ParsedBlocks.{Few, CountsFrom}

counts_same : (a b : ℕ) (lines : List Line) → a ≡ b → Counts a lines → Counts b lines
counts_same a b lines same counts = subst (λ k. Counts k lines) same counts

-- a line, with what stands behind it
line_counts : (line : Line) (d k : ℕ) (h : Head) (lines : List Line) → IsLine line d (head_tokens h) → Counts k lines → Counts (counted h + k) (line ∷ lines)
line_counts line d k h lines is counts = (h, is.tokens_are, k, refl, counts)

row_counts : (line : Line) (d a b k : ℕ) (h : Head) (u r lines : List Line) → IsLine line d (head_tokens h) → Counts (a + (b + k)) (u ++ (r ++ lines)) → Counts (counted h + a + b + k) (line ∷ ((u ++ r) ++ lines))
row_counts line d a b k h u r lines is counts =
    counts_same (counted h + (a + (b + k))) (counted h + a + b + k) (line ∷ ((u ++ r) ++ lines)) (omega arith)
    (line_counts line d (a + (b + k)) h ((u ++ r) ++ lines) is (subst (Counts (a + (b + k))) (sym (append_assoc u r lines)) counts))

mutual
  rows_count : (l : Level) (rows : Rows) (k : ℕ) (lines : List Line) → FitsRows l rows → Counts k lines → Counts (rows_size rows + k) (rows_lines rows ++ lines)
  rows_count l end_rows k lines fits counts = counts_same k (rows_size end_rows + k) lines (omega arith) counts
  rows_count l (row line h under rest) k lines fits counts =
      row_counts line l.indent (under_size under) (rows_size rest) k h (under_lines under) (rows_lines rest) lines fits.0
      (under_count l h under (rows_size rest + k) (rows_lines rest ++ lines) fits.2 (rows_count (after l h) rest k lines fits.3 counts))

  under_count : (l : Level) (h : Head) (under : Under) (k : ℕ) (lines : List Line) → FitsUnder l h under → Counts k lines → Counts (under_size under + k) (under_lines under ++ lines)
  under_count l h nothing k lines fits counts = counts_same k (under_size nothing + k) lines (omega arith) counts
  under_count l h (block d rows) k lines fits counts = rows_count (inside l h d) rows k lines fits.2 counts

leads_count : (l m : Level) (rows : Rows) (k : ℕ) (lines : List Line) → Leads l rows m → Counts k lines → Counts (rows_size rows + k) (rows_lines rows ++ lines)
leads_count l m end_rows k lines leads counts = counts_same k (rows_size end_rows + k) lines (omega arith) counts
leads_count l m (row line h under rest) k lines leads counts =
    row_counts line l.indent (under_size under) (rows_size rest) k h (under_lines under) (rows_lines rest) lines leads.0
    (under_count l h under (rows_size rest + k) (rows_lines rest ++ lines) leads.2 (leads_count (after l h) m rest k lines leads.3 counts))

pub few_behind : (l m : Level) (n k : ℕ) (rows : Rows) (front : List Line) → Leads l rows m → k ≡ n + rows_size rows → Few k front → Few n (rows_lines rows ++ front)
few_behind l m n k rows front leads count_is f = record { number = rows_size rows + f.number; counts = leads_count l m rows f.number front leads f.counts; within = let low = f.within in omega (arith, count_is, low) }

pub few_under : (m : Level) (n : ℕ) (h : Head) (line : Line) (front : List Line) → IsLine line m.indent (head_tokens h) → Few (n + counted h) front → Few n (line ∷ front)
few_under m n h line front is f = record { number = counted h + f.number; counts = line_counts line m.indent f.number h front is f.counts; within = let low = f.within in omega (arith, low) }

pub few_here : (n : ℕ) → n ≤ 20000 → Few n []
few_here n low = record { number = 0; counts = refl; within = omega (arith, low) }

-- so many statements with the one that is next

pub more_behind : (l m : Level) (n k : ℕ) (rows : Rows) (front : List Line) (number : ℕ) (tokens : List Token) → Leads l rows m → k ≡ n + rows_size rows → CountsFrom k front number tokens → CountsFrom n (rows_lines rows ++ front) number tokens
more_behind l m n k rows front number tokens leads count_is o = record {
  at = o.at;
  next = o.next;
  next_is = o.next_is;
  before = rows_size rows + o.before;
  counts = leads_count l m rows o.before front leads o.counts;
  number_is = let all = o.number_is in omega (arith, count_is, all);
}

pub more_under : (m : Level) (n : ℕ) (h : Head) (line : Line) (front : List Line) (number : ℕ) (tokens : List Token) → IsLine line m.indent (head_tokens h) → CountsFrom (n + counted h) front number tokens → CountsFrom n (line ∷ front) number tokens
more_under m n h line front number tokens is o = record {
  at = o.at;
  next = o.next;
  next_is = o.next_is;
  before = counted h + o.before;
  counts = line_counts line m.indent o.before h front is o.counts;
  number_is = let all = o.number_is in omega (arith, all);
}
