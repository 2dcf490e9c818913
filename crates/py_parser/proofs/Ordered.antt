-- Where a statement may stand with the first token of a line, and passes no limit: how that is known of more lines that stand before it.
use Rattle.std.proofs.Common.{◌≡◌, inl, inr, ℕ, ◌+◌, ◌<◌, ◌≤◌, suc, Bool, true, false, List, [], ◌∷◌, ◌++◌, refl, subst, arith}
use Rattle.py_lines.specs.declared.parts.Line.{Line}
use Rattle.py_lines.specs.declared.parts.Token.{Token}
use Rattle.py_grammar.specs.LineReader.{Head, head_tokens}
use Rattle.py_grammar.specs.Layout.{IsLine}
use Rattle.py_grammar.specs.Limits.{profile}
use Rattle.py_parser.specs.Rows.{Rows, rows_lines, rows_size, rows_may, Level, counted, opens, inside, follows, Leads, may}
use Rattle.py_parser.specs.Faults.{Point, at_token, at_end, at_line, below, no_line, tokens_before}
use Rattle.py_parser.specs.ParsedBlocks.{RowsWithin, KeepsBy, CountsFrom, PassesBy, KeepsOrderBy, OrderBy, PassesThere, IsPassAt, KeepsPass, KeepsPassUnder, NoneHere, OrderHere}
use Rattle.py_parser.proofs.Counting.{more_behind, more_under}
use Rattle.py_parser.proofs.Endings.{within_behind, within_under, within_inside}
use Rattle.py_parser.proofs.Shallow.{rows_room, under_room}

-- tokens of which none stands before the fault
pub none_split : (opened : List Token) (t : Token) (rest : List Token) → [] ≡ opened ++ t ∷ rest → ⊥
none_split [] t rest is = cc
none_split (f ∷ fs) t rest is = cc

pub no_order : (none kept : ℕ → List Token → Type 0) (d : ℕ) → KeepsOrderBy none kept d []
no_order none kept d opened t rest is = absurd (none_split opened t rest is)

-- where a line stands that is shown
abbrev pub stands_at : Point → ℕ → Type 0
stands_at (at_token indent tokens t) d = d ≡ indent
stands_at (at_end indent tokens) d = d ≡ indent
stands_at point d = ⊥

pub passes_more : (none more_none kept more_kept : ℕ → List Token → Type 0) (d : ℕ) (tokens : List Token) (t : Token) → (none d tokens → more_none d tokens) → (kept d tokens → more_kept d tokens) → PassesBy none kept d tokens t → PassesBy more_none more_kept d tokens t
passes_more none more_none kept more_kept d tokens t one two passes = λ begins h at is. elim (passes begins h at is) [ inl absent ↦ inl (one absent) | inr keeps ↦ inr (two keeps) ]

pub order_more : (none more_none kept more_kept : ℕ → List Token → Type 0) (p : Point) → ((d : ℕ) (tokens : List Token) → stands_at p d → none d tokens → more_none d tokens) → ((d : ℕ) (tokens : List Token) → kept d tokens → more_kept d tokens)
    → OrderBy none kept p → OrderBy more_none more_kept p
order_more none more_none kept more_kept (at_token d tokens t) one two order = λ opened u rest is. passes_more none more_none kept more_kept d opened u (one d opened refl) (two d opened) (order opened u rest is)
order_more none more_none kept more_kept (at_end d tokens) one two order = λ opened u rest is. passes_more none more_none kept more_kept d opened u (one d opened refl) (two d opened) (order opened u rest is)
order_more none more_none kept more_kept (at_line d) one two order = tt
order_more none more_none kept more_kept (below d) one two order = tt
order_more none more_none kept more_kept no_line one two order = tt

pub there_more : (none more_none kept more_kept : ℕ → List Token → Type 0) (limit : Bool) (p : Point) → ((d : ℕ) (tokens : List Token) → stands_at p d → none d tokens → more_none d tokens) → ((d : ℕ) (tokens : List Token) → kept d tokens → more_kept d tokens)
    → PassesThere none kept limit p → PassesThere more_none more_kept limit p
there_more none more_none kept more_kept false (at_token d tokens t) one two passes = passes_more none more_none kept more_kept d tokens t (one d tokens refl) (two d tokens) passes
there_more none more_none kept more_kept true (at_token d tokens t) one two passes = tt
there_more none more_none kept more_kept false (at_end d tokens) one two passes = tt
there_more none more_none kept more_kept true (at_end d tokens) one two passes = tt
there_more none more_none kept more_kept false (at_line d) one two passes = tt
there_more none more_none kept more_kept true (at_line d) one two passes = tt
there_more none more_none kept more_kept false (below d) one two passes = tt
there_more none more_none kept more_kept true (below d) one two passes = tt
there_more none more_none kept more_kept false no_line one two passes = tt
there_more none more_none kept more_kept true no_line one two passes = tt

more_number : (count more_count : ℕ → List Token → Type 0) (tokens : List Token) → ((number : ℕ) → count number tokens → more_count number tokens) → KeepsBy count tokens → KeepsBy more_count tokens
more_number count more_count tokens one k = record { number = k.number; counts_are = one k.number k.counts_are; within = k.within }

pub keeps_behind : (l m : Level) (n k : ℕ) (rows : Rows) (front : List Line) (d : ℕ) (tokens : List Token) → Leads l rows m → rows_may profile l n rows ≡ true → k ≡ n + rows_size rows → KeepsPass m k front d tokens → KeepsPass l n (rows_lines rows ++ front) d tokens
keeps_behind l m n k rows front d tokens leads may_be count_is keeps = record {
  number = more_number (CountsFrom k front) (CountsFrom n (rows_lines rows ++ front)) tokens (λ number c. more_behind l m n k rows front number tokens leads count_is c) keeps.number;
  suites = λ room at. within_behind 50 l m n rows (IsPassAt at d tokens) front (omega arith) leads may_be (subst (λ j. RowsWithin 50 m j (IsPassAt at d tokens) front) count_is (keeps.suites (rows_room l m n rows leads may_be room) at));
}

pub keeps_under : (m : Level) (n : ℕ) (h : Head) (line : Line) (front : List Line) (d : ℕ) (tokens : List Token) → IsLine line m.indent (head_tokens h) → follows m h ≡ true → may profile m n h ≡ true → KeepsPassUnder m (n + counted h) h front d tokens → KeepsPass m n (line ∷ front) d tokens
keeps_under m n h line front d tokens is may_follow may_be keeps = record {
  number = more_number (CountsFrom (n + counted h) front) (CountsFrom n (line ∷ front)) tokens (λ number c. more_under m n h line front number tokens is c) keeps.number;
  suites = λ room at. within_under 50 m n h line (IsPassAt at d tokens) front (omega arith) is may_follow may_be (λ lacks. deeper m.depth (under_room m n h line is may_follow may_be (IsPassAt at d tokens) front (keeps.suites at))) (keeps.suites at);
}
  where
    deeper : (a : ℕ) → a < 50 → suc a ≤ 50
    deeper a low = omega (arith, low)

pub keeps_inside : (m : Level) (n : ℕ) (h : Head) (k : ℕ) (front : List Line) (d : ℕ) (tokens : List Token) → opens h ≡ true → m.indent < k → m.depth < 50 → KeepsPass (inside m h k) n front d tokens → KeepsPassUnder m n h front d tokens
keeps_inside m n h k front d tokens open_is deeper low keeps = record {
  number = keeps.number;
  suites = λ at. within_inside 50 m n h k (IsPassAt at d tokens) front open_is deeper (omega (arith, low)) (keeps.suites (λ lacks. absurd (no_lack lacks)) at);
}
  where
    no_lack : false ≡ true → ⊥
    no_lack is = cc

-- where a suite ends, no token stands before the fault
pub order_here : (none kept : ℕ → List Token → Type 0) (p : Point) → tokens_before p ≡ [] → OrderBy none kept p
order_here none kept (at_token d [] t) is = no_order none kept d
order_here none kept (at_token d (f ∷ fs) t) is = cc
order_here none kept (at_end d []) is = no_order none kept d
order_here none kept (at_end d (f ∷ fs)) is = cc
order_here none kept (at_line d) is = tt
order_here none kept (below d) is = tt
order_here none kept no_line is = tt

-- where a suite ends, no line at this indentation goes on
pub there_here : (m : Level) (lines : List Line) (none kept : ℕ → List Token → Type 0) (limit : Bool) (p : Point) → tokens_before p ≡ [] → ((d : ℕ) → NoneHere m lines d → none d []) → OrderHere m lines limit p → PassesThere none kept limit p
there_here m lines none kept false (at_token d [] t) is one passes = λ begins h at tokens_are. inl (one d passes)
there_here m lines none kept true (at_token d [] t) is one passes = tt
there_here m lines none kept false (at_token d (f ∷ fs) t) is one passes = cc
there_here m lines none kept true (at_token d (f ∷ fs) t) is one passes = tt
there_here m lines none kept false (at_end d tokens) is one passes = tt
there_here m lines none kept true (at_end d tokens) is one passes = tt
there_here m lines none kept false (at_line d) is one passes = tt
there_here m lines none kept true (at_line d) is one passes = tt
there_here m lines none kept false (below d) is one passes = tt
there_here m lines none kept true (below d) is one passes = tt
there_here m lines none kept false no_line is one passes = tt
there_here m lines none kept true no_line is one passes = tt
