-- A whole script: what is read of all its lines, and what is refused.
use Rattle.std.proofs.Common.{◌≡◌, inl, inr, ◌⊎◌, ℕ, ◌<◌, ◌≤◌, ◌+◌, Bool, true, false, List, [], ◌∷◌, ◌++◌, refl, ap, sym, ◌∙◌, subst, arith, append-nil, map, codes, Vec, Global}
use Rattle.std.specs.Prelude.{⊤}
use Rattle.std.proofs.lemmas.Bool.{false≢true}
use Rattle.prov_base.specs.declared.place.Pos.{Pos}
use Rattle.py_lines.specs.declared.parts.Line.{Line}
use Rattle.py_lines.specs.Logical.{HasLines}
use Rattle.py_tree.specs.declared.stmt.Stmt.{Stmt}
use Rattle.py_tree.specs.declared.stmt.Suite.{roll-Suite}
use Rattle.py_tree.specs.Erasure.{stmt_of, suite_of}
use Rattle.py_tree.specs.Tree.{StmtTree, SuiteTree, ScriptTree}
use Rattle.py_tree.specs.Numbering.{numbered_suite, size_suite, IsNumbered}
use Rattle.py_tree.specs.WellFormed.{IsWellFormed}
use Rattle.py_parser.specs.declared.fault.ParseFault.{ParseFault}
use Rattle.py_parser.specs.declared.fault.ParseFault.TheVariants.{Unexpected, Unsupported, BadIndent, TooDeep, TooMany, Memory}
use Rattle.py_parser.specs.declared.fault.Halt.{Halt}
use Rattle.py_parser.specs.declared.fault.Halt.TheVariants.{AtToken, AtEnd, NoLine, BadIndent as IndentHalt, TooDeep as DeepHalt, TooMany as ManyHalt, Memory as MemoryHalt}
use Rattle.py_grammar.specs.Written.{Script, empty_script}
use Rattle.py_grammar.specs.Grammar.{InGrammar, script_lines, FitsScript}
use Rattle.py_grammar.specs.StatementTrees.{script_body}
use Rattle.py_grammar.specs.WellPlaced.{script_stands}
use Rattle.py_grammar.specs.Follows.{Below}
use Rattle.py_parser.specs.declared.blocks.Built.{Built}
use Rattle.py_grammar.specs.Limits.{Limits, profile}
use Rattle.py_lines.specs.declared.parts.Token.{Token}
use Rattle.py_expressions.specs.Tokens.{keyword}
use Rattle.py_grammar.specs.Layout.{IsLine}
use Rattle.py_parser.specs.Script.{IsScript}
use Rattle.py_parser.specs.Faults.{Said, low_elsewhere, first_deep_at, Point, at_token, at_end, at_line, below, no_line, shows, first_place, first_token, Asks, origin, BeginsScript, SomeFollows, SomeStands, FollowsWithin, MayFollow, StandsFor, LieWithin, NoneBegins, KeepsLimits, PassesNone, InOrder, PassesNoneThere, IsAt, IsPass, IsPassBefore, IsHandler, MayStandAt, LacksStatement, InColumn, FirstFault, IsFault, NoneWithin, few_suites, few_statements, CountsWithPass, PassesLimit, LiesDeep}
use Rattle.py_parser.specs.Rows.{Rows, end_rows, row, rows_lines, rows_size, rows_may, rows_stand, start, Level, FitsRows, FitsStart, Begun}
use Rattle.py_parser.specs.Grouped.{script_rows, script_of}
use Rattle.py_parser.specs.RowForms.{suite_list, grow}
use Rattle.py_parser.specs.ParsedBlocks.{RowsFollow, NoneRows, Passes, Deep, RowsLimit, CountsFrom, halt_limit, PassesBy, OrderBy, PassesThere, IsPassAt, NonePass, KeepsPass, ScriptLimit, Asks as AsksHalt, wide, trees_of, RowsBegin, RowsWithin, RowsGoOn, RowsLie, NoRows, MayStand, Lacks, Placed, Refused, RowsStopped, RowsRead, IsShallow, FirstHalt, IsHalt}
use Rattle.py_parser.proofs.RowLines.{script_same}
use Rattle.py_parser.proofs.RowStatements.{script_is}
use Rattle.py_parser.proofs.Grown.{script_grown, script_size}
use Rattle.py_parser.proofs.RowLimits.{script_may}
use Rattle.py_parser.proofs.RowKept.{script_fine}
use Rattle.py_parser.proofs.RowNeeds.{rows_height, rows_suites, rows_enough}
use Rattle.py_tree.proofs.DeletionLaws.{suite_again, suite_size}
use Rattle.py_grammar.proofs.WellFormedScripts.{script_well_formed}
use Rattle.py_parser.proofs.BlockForms.{rolled}
use Rattle.py_parser.proofs.Peeled.{one_indent}
use Rattle.py_parser.proofs.Columns.{none_open}
use Rattle.py_parser.proofs.Endings.{pass_before}
use Rattle.py_parser.proofs.Shallow.{no_last, same_last}
use Rattle.py_parser.proofs.ScriptHeads.{fits_start}

abbrev pub tree_of : SuiteTree → ℕ → ScriptTree
tree_of body count = record { body = body; count = count }

abbrev pub tree_by : List StmtTree → ℕ → ScriptTree
tree_by trees count = tree_of (suite_list trees) count

-- ---- what is read

starts : (rows : Rows) → FitsRows start rows → FitsStart rows
starts end_rows fits = tt
starts (row line h under rest) fits = fits

nothing_left : (x : List Line) → Below 0 x → x ≡ []
nothing_left [] low = refl
nothing_left (line ∷ x) low = absurd (omega (arith, low))

pub whole_script : (lines left : List Line) (rows : Rows) (trees : List StmtTree) (count : ℕ) → lines ≡ rows_lines rows ++ left → FitsRows start rows → rows_may profile start 0 rows ≡ true → trees ≡ grow 0 [] rows → count ≡ 0 + rows_size rows → Below 0 left
    → IsScript lines (tree_by trees count)
whole_script lines left rows trees count lines_are fits may_be trees_are count_is low =
    let s = script_is rows (starts rows fits) in
    let fine = script_fine profile (script_of rows) (ap (rows_may profile start 0) s.rows_are ∙ may_be) in
    let grammar : InGrammar lines (tree_by trees count) = record {
      written = script_of rows;
      lines_are = lines_are ∙ ap (λ x. rows_lines rows ++ x) (nothing_left left low) ∙ append-nil (rows_lines rows) ∙ sym (ap rows_lines s.rows_are) ∙ script_same (script_of rows);
      fits = s.fits;
      tree_is = ap (λ (ss : List StmtTree). tree_by ss count) (trees_are ∙ sym (ap (grow 0 []) s.rows_are)) ∙ trees_same (suite_list (grow 0 [] (script_rows (script_of rows)))) (numbered_suite 0 (script_body (script_of rows))) count (size_suite (script_body (script_of rows)))
          (script_grown (script_of rows)) (count_same (ap rows_size s.rows_are ∙ refl) (script_size (script_of rows)));
    } in
    record { script = record { grammar = grammar; stands = fine.stands }; within = fine.within }
  where
    count_same : rows_size (script_rows (script_of rows)) ≡ rows_size rows → rows_size (script_rows (script_of rows)) ≡ size_suite (script_body (script_of rows)) → count ≡ size_suite (script_body (script_of rows))
    count_same one two = let three = count_is in omega (arith, one, two, three)

    trees_same : (a b : SuiteTree) (m n : ℕ) → a ≡ b → m ≡ n → tree_of a m ≡ tree_of b n
    trees_same a b m n one two = ap (λ x. tree_of x m) one ∙ ap (tree_of b) two

read_script : (lines left : List Line) (l : Level) (built : Built) (count : ℕ) (at now : Pos) → l ≡ start → RowsRead l 0 at lines built count now left → IsScript lines (tree_by (trees_of built) count)
read_script lines left l built count at now is r = whole_script lines left r.rows (trees_of built) count r.lines_are (subst (λ (k : Level). FitsRows k r.rows) is r.fits) (subst (λ (k : Level). rows_may profile k 0 r.rows ≡ true) is r.may_be) r.trees_are r.count_is
    (subst (λ (k : Level). Below k.indent left) is r.low)

-- the tree of a script with these statements
as_script : (lines : List Line) (v : Vec Stmt Global) (count : ℕ) → IsScript lines (tree_by (map stmt_of v.items) count) → IsScript lines (tree_of (suite_of (roll-Suite (record { list = v }))) count)
as_script lines v count is = subst (λ b. IsScript lines (tree_of b count)) (sym (rolled v)) is

pub read_script_there : (lines read left : List Line) (l : Level) (built : Built) (count : ℕ) (at now : Pos) → read ≡ lines → l ≡ start → RowsRead l 0 at read built count now left → IsScript lines (tree_of (suite_of (roll-Suite (record { list = built.list }))) count)
read_script_there lines read left l built count at now same is r = as_script lines built.list count (subst (λ (ls : List Line). IsScript ls (tree_by (trees_of built) count)) same (read_script read left l built count at now is r))

no_statements : (lines : List Line) → lines ≡ [] → IsScript lines (tree_by [] 0)
no_statements lines none = record {
  script = record { grammar = record { written = empty_script; lines_are = none; fits = tt; tree_is = refl }; stands = refl };
  within = record { low = omega arith; deep = omega arith; few = omega arith };
}

pub empty_script_is : (lines read : List Line) (v : Vec Stmt Global) → read ≡ lines → read ≡ [] → v.items ≡ [] → IsScript lines (tree_of (suite_of (roll-Suite (record { list = v }))) 0)
empty_script_is lines read v same none items = as_script lines v 0 (subst (λ (ss : List Stmt). IsScript lines (tree_by (map stmt_of ss) 0)) (sym items) (no_statements lines (sym same ∙ none)))

-- ---- what is refused

some_lines : (d : ℕ) (x : List Line) → Begun d x → x ≡ [] → ⊥
some_lines d [] begun none = begun
some_lines d (line ∷ x) begun none = cc

-- rows that may stand there are those of a script whose statements do
script_standing : (rows : Rows) → FitsRows start rows → rows_stand start rows ≡ true → script_stands (script_of rows) ≡ true
script_standing rows fits standing =
    let s = script_is rows (starts rows fits) in
    let q : Limits = record { height = rows_height rows; suites = rows_suites rows; number = rows_size rows } in
    (script_fine q (script_of rows) (ap (rows_may q start 0) s.rows_are ∙ rows_enough q start 0 rows standing (same_low (rows_height rows)) (none_more (rows_suites rows)) (none_more (rows_size rows)))).stands
  where
    same_low : (a : ℕ) → a ≤ a
    same_low a = omega arith

    none_more : (a : ℕ) → 0 + a ≤ a
    none_more a = omega arith

-- rows that begin so are those of a script
script_begins : (said : Said) (front : List Line) (p : Point) → RowsBegin said start front p → BeginsScript said front p
script_begins said front p b =
    let s = script_is b.rows (starts b.rows b.fits) in
    record {
      some = script_of b.rows;
      fits = s.fits;
      more = b.more;
      lines_are = sym (script_same (script_of b.rows)) ∙ ap rows_lines s.rows_are ∙ b.lines_are;
      next = b.next;
      stands = script_standing b.rows b.fits b.stands;
    }

-- rows that go on so are those of a script
script_within : (suites : ℕ) (is : Line → Type 0) (front : List Line) → RowsWithin suites start 0 is front → FollowsWithin suites is front
script_within suites is front g =
    let s = script_is g.rows (starts g.rows g.fits) in
    let fine = script_fine (wide suites (rows_size g.rows)) (script_of g.rows) (ap (rows_may (wide suites (rows_size g.rows)) start 0) s.rows_are ∙ g.may_be (rows_size g.rows) (omega arith)) in
    record {
      some = script_of g.rows;
      fits = s.fits;
      line = g.line;
      more = g.more;
      lines_are = sym (script_same (script_of g.rows)) ∙ ap rows_lines s.rows_are ∙ g.lines_are;
      line_is = g.line_is;
      stands = fine.stands;
      low = fine.within.low;
      deep = fine.within.deep;
    }

script_goes_on : (is : Line → Type 0) (front : List Line) → RowsGoOn start 0 is front → MayFollow is front
script_goes_on is front g = script_within 51 is front g

-- none of them lies in a 51st suite
script_lies : (front : List Line) → RowsLie start 0 front → LieWithin front
script_lies front lies before last at is = by lies
  where
    by : RowsLie start 0 front → FollowsWithin 50 (StandsFor at last) before
    by (inl none) = absurd (no_last before last (sym none ∙ is))
    by (inr e) =
        let same = same_last e.before before e.last last (sym e.front_is ∙ is) in
        subst (λ (line : Line). FollowsWithin 50 (StandsFor at line) before) same.1 (subst (λ (ls : List Line). FollowsWithin 50 (StandsFor at e.last) ls) same.0 (script_within 50 (StandsFor at e.last) e.before (e.goes_on at)))

may_stand_at : (d : ℕ) (front : List Line) → MayStand [] start 0 d front → MayStandAt d front
may_stand_at d front (inl g) = inl (script_goes_on (IsAt d) front g)
may_stand_at d front (inr (inl c, g)) = absurd (false≢true c)
may_stand_at d front (inr (inr o, g)) = inr (o, script_goes_on IsHandler front g)

not_empty : (front : List Line) (line : Line) (more : List Line) → front ++ line ∷ more ≡ [] → ⊥
not_empty [] line more is = cc
not_empty (first ∷ front) line more is = cc

never_there : (d : ℕ) (front : List Line) → NoRows [] start 0 d front → SomeFollows (IsAt d) front → ⊥
never_there d front absent g = absent.none g.line g.more (script_rows g.some) [] g.line_is (fits_start g.some (front ++ g.line ∷ g.more) g.fits g.lines_are (not_empty front g.line g.more)) tt
    (append-nil (rows_lines (script_rows g.some)) ∙ script_same g.some ∙ g.lines_are)

complete_at : (d : ℕ) (front : List Line) → RowsGoOn start 0 (IsPassBefore d) front ⊎ RowsGoOn start 0 IsHandler front → MayFollow (IsPassBefore d) front ⊎ MayFollow IsHandler front
complete_at d front (inl g) = inl (script_goes_on (IsPassBefore d) front g)
complete_at d front (inr g) = inr (script_goes_on IsHandler front g)

-- no suite of a script is without a statement, but for those that its lines begin
lacks_there : (d : ℕ) (front : List Line) → (front ≡ [] → ⊥) → Lacks start d front → LacksStatement d front
lacks_there d front some (inl lacks) = lacks
lacks_there d front some (inr empty) = elim empty.of_def [ inl is ↦ absurd (false≢true is) | inr is ↦ absurd (some is) ]

in_column : (front : List Line) (p : Point) → ((rest : List Line) → shows p rest → Begun 0 (front ++ rest)) → Placed [] start 0 front p → InColumn front p
in_column front (at_token d tokens t) begun placed = may_stand_at d front placed
in_column front (at_end d tokens) begun placed = may_stand_at d front placed
in_column front (at_line d) begun placed = record { none = never_there d front placed; no_suite = placed.inside; complete = complete_at d front placed.complete }
in_column front (below d) begun placed = (script_goes_on (IsPass d) front placed.0, lacks_there d front (λ is. subst (λ (ls : List Line). Begun 0 (ls ++ [])) is (begun [] tt)) placed.1)
in_column front no_line begun placed = script_goes_on IsHandler front placed

-- none of these rows is no script
none_script : (within : Limits → Type 0) (front : List Line) (p : Point) → ((rest : List Line) → shows p rest → front ++ rest ≡ [] → ⊥) → NoneRows within start 0 front p → NoneWithin within front p
none_script within front p some none limits asks s fits fine rest shown_it same =
    none limits asks rest (script_rows s) [] shown_it (fits_start s (front ++ rest) fits same (some rest shown_it)) (script_may limits s fine) tt (append-nil (rows_lines (script_rows s)) ∙ script_same s ∙ same)

ends_some : (front : List Line) (d : ℕ) (tokens : List Token) (rest : List Line) → shows (at_end d tokens) rest → front ++ rest ≡ [] → ⊥
ends_some front d tokens [] shown is = shown
ends_some front d tokens (line ∷ rest) shown is = not_empty front line rest is

script_follows : (is : Line → Type 0) (front : List Line) → RowsFollow start is front → SomeStands is front
script_follows is front g =
    let s = script_is g.rows (starts g.rows g.fits) in
    record {
      some = script_of g.rows;
      fits = s.fits;
      line = g.line;
      more = g.more;
      lines_are = sym (script_same (script_of g.rows)) ∙ ap rows_lines s.rows_are ∙ g.lines_are;
      line_is = g.line_is;
      stands = script_standing g.rows g.fits g.stands;
    }

-- what passes a limit, said of a script
passes_limit : (within : Limits → Type 0) (front : List Line) (d : ℕ) (tokens : List Token) → Passes (λ is. RowsFollow start is front) (λ d ts. NoneRows within start 0 front (at_end d ts)) d tokens → PassesLimit within front d tokens
passes_limit within front d tokens s = record {
  at = s.at;
  goes_on = script_follows (λ line. IsLine line d (tokens ++ keyword (codes "pass") s.at)) front s.goes_on;
  none = none_script within front (at_end d (tokens ++ keyword (codes "pass") s.at)) (ends_some front d (tokens ++ keyword (codes "pass") s.at)) s.none_so;
}

counts_pass : (number : ℕ) (front : List Line) (tokens : List Token) → CountsFrom 0 front number tokens → CountsWithPass number front tokens
counts_pass number front tokens c = record { at = c.at; next = c.next; next_is = c.next_is; before = c.before; counts = c.counts; number_is = let all = c.number_is in omega (arith, all) }

script_none : (front : List Line) (d : ℕ) (tokens : List Token) → NonePass start 0 front d tokens → NoneBegins front d tokens
script_none front d tokens absent at = none_script (λ q. ⊤) front (at_end d (tokens ++ keyword (codes "pass") at)) (ends_some front d (tokens ++ keyword (codes "pass") at)) (absent at)

script_keeps : (front : List Line) (d : ℕ) (tokens : List Token) → KeepsPass start 0 front d tokens → KeepsLimits front d tokens
script_keeps front d tokens keeps = record {
  number = record { number = keeps.number.number; counts = counts_pass keeps.number.number front tokens keeps.number.counts_are; within = keeps.number.within };
  suites = λ at. script_within 50 (IsPassAt at d tokens) front (keeps.suites (λ lacks. absurd (false≢true lacks)) at);
}

script_passes : (front : List Line) (d : ℕ) (tokens : List Token) (t : Token) → PassesBy (NonePass start 0 front) (KeepsPass start 0 front) d tokens t → PassesNone front d tokens t
script_passes front d tokens t passes = λ begins h at is. elim (passes begins h at is) [ inl absent ↦ inl (script_none front d tokens absent) | inr keeps ↦ inr (script_keeps front d tokens keeps) ]

script_order : (front : List Line) (p : Point) → OrderBy (NonePass start 0 front) (KeepsPass start 0 front) p → InOrder front p
script_order front (at_token d tokens t) order = λ opened u rest is. script_passes front d opened u (order opened u rest is)
script_order front (at_end d tokens) order = λ opened u rest is. script_passes front d opened u (order opened u rest is)
script_order front (at_line d) order = tt
script_order front (below d) order = tt
script_order front no_line order = tt

script_there : (front : List Line) (limit : Bool) (p : Point) → PassesThere (NonePass start 0 front) (KeepsPass start 0 front) limit p → PassesNoneThere limit front p
script_there front false (at_token d tokens t) passes = script_passes front d tokens t passes
script_there front true (at_token d tokens t) passes = tt
script_there front false (at_end d tokens) passes = tt
script_there front true (at_end d tokens) passes = tt
script_there front false (at_line d) passes = tt
script_there front true (at_line d) passes = tt
script_there front false (below d) passes = tt
script_there front true (below d) passes = tt
script_there front false no_line passes = tt
script_there front true no_line passes = tt

lies_deep : (place : Pos) (front : List Line) (d : ℕ) (tokens : List Token) (next : Token) → Deep (λ said. RowsBegin said start front) (NonePass start 0 front) (KeepsPass start 0 front) place d tokens next → LiesDeep place front d tokens next
lies_deep place front d tokens next s = record {
  goes_on = script_begins (first_deep_at place) front (at_end d (tokens ++ next ∷ [])) s.goes_on;
  there = s.there;
  order = script_passes front d tokens next s.order;
}

script_limit : (front : List Line) (halt : Halt) (p : Point) → RowsLimit start 0 front halt p → ScriptLimit halt front p
script_limit front (DeepHalt place) (at_token d tokens t) (inl s) = inl (lies_deep place front d tokens t s)
script_limit front (DeepHalt place) (at_token d tokens t) (inr (at, s, begins, k)) =
    inr (at, passes_limit few_suites front d tokens s, begins, record { number = k.number; counts = counts_pass k.number front tokens k.counts_are; within = k.within })
script_limit front (DeepHalt place) (at_end d tokens) (none, s) = (none, passes_limit few_suites front d [] s)
script_limit front (DeepHalt place) (at_line d) limit = limit
script_limit front (DeepHalt place) (below d) limit = limit
script_limit front (DeepHalt place) no_line limit = limit
script_limit front (ManyHalt place) (at_token d tokens t) s =
    (passes_limit few_statements front d tokens s.0, counts_pass 20001 front tokens s.1, s.2)
script_limit front (ManyHalt place) (at_end d tokens) limit = limit
script_limit front (ManyHalt place) (at_line d) limit = limit
script_limit front (ManyHalt place) (below d) limit = limit
script_limit front (ManyHalt place) no_line limit = limit
script_limit front (AtToken lines_left left) p limit = tt
script_limit front (AtEnd lines_left place) p limit = tt
script_limit front (NoLine place) p limit = tt
script_limit front (IndentHalt place) p limit = tt
script_limit front MemoryHalt p limit = tt

first_halt : (lines : List Line) (halt : Halt) → Refused [] start 0 origin lines halt → FirstHalt lines halt
first_halt lines halt r = record {
  front = r.front;
  behind = r.behind;
  point = r.point;
  lines_are = r.lines_are;
  shown = r.shown;
  marked = r.marked;
  limit = script_limit r.front halt r.point r.limit;
  column = in_column r.front r.point r.begun r.placed;
  begins = λ place. script_begins (low_elsewhere place) r.front r.point (r.begins place);
  reads = r.reads;
  few = record { number = r.few.number; counts = r.few.counts; within = let low = r.few.within in omega (arith, low) };
  shallow = script_lies r.front (r.shallow (λ lacks. absurd (false≢true lacks)));
  order = script_order r.front r.point r.order;
  passes = script_there r.front (halt_limit halt) r.point r.passes;
  none = none_script (AsksHalt halt) r.front r.point (λ rest shown_it. some_lines 0 (r.front ++ rest) (r.begun rest shown_it)) r.none;
}

stopped_script : (lines : List Line) (l : Level) (halt : Halt) → l ≡ start → RowsStopped [] l 0 origin lines halt → IsHalt lines halt
stopped_script lines l halt is r = by halt (subst (λ (k : Level). RowsStopped [] k 0 origin lines halt) is r)
  where
    by : (halt : Halt) → RowsStopped [] start 0 origin lines halt → IsHalt lines halt
    by MemoryHalt r = tt
    by (AtToken lines_left left) r = first_halt lines (AtToken lines_left left) r
    by (AtEnd lines_left place) r = first_halt lines (AtEnd lines_left place) r
    by (NoLine place) r = first_halt lines (NoLine place) r
    by (IndentHalt place) r = first_halt lines (IndentHalt place) r
    by (DeepHalt place) r = first_halt lines (DeepHalt place) r
    by (ManyHalt place) r = first_halt lines (ManyHalt place) r

pub stopped_there : (lines read : List Line) (cs : List ℕ) (l : Level) (halt : Halt) → read ≡ lines → cs ≡ [] → l ≡ start → (IsShallow l → RowsStopped cs l 0 origin read halt) → IsHalt lines halt
stopped_there lines read cs l halt same columns is r =
    subst (λ (ls : List Line). IsHalt ls halt) same (stopped_script read l halt is (subst (λ (xs : List ℕ). RowsStopped xs l 0 origin read halt) columns (r (subst (λ (k : Level). IsShallow k) (sym is) (λ there. refl, λ there. absurd (false≢true there))))))

-- the first line of a script is not indented
zero_first : (rows : Rows) (rest : List Line) → FitsRows start rows → rows_lines rows ≡ rest → Begun 0 rest
zero_first end_rows rest fits same = absurd (false≢true fits)
zero_first (row line h under more) rest fits same = subst (Begun 0) same fits.0.indent_is

pub indented_first : (line : Line) (lines all : List Line) → all ≡ line ∷ lines → (line.indent ≡ 0 → ⊥) → FirstFault all (BadIndent (first_place origin line.tokens))
indented_first line lines all is other = record {
  front = [];
  behind = all;
  point = at_line line.indent;
  lines_are = refl;
  shown = subst (shows (at_line line.indent)) (sym is) refl;
  named = sym (ap (first_token origin) is);
  limit = tt;
  column = record { none = λ g. never g.some (g.line ∷ g.more) g.fits g.lines_are g.line_is; no_suite = none_open line.indent; complete = inl (script_goes_on (IsPassBefore line.indent) [] (pass_before start 0 line.indent refl (positive line.indent other))) };
  begins = λ place. record { some = empty_script; fits = tt; more = []; lines_are = refl; next = tt; stands = refl };
  reads = tt;
  few = record { number = 0; counts = refl; within = omega arith };
  shallow = λ before last at is. absurd (no_last before last is);
  order = tt;
  passes = tt;
  none = λ limits asks s fits fine rest shown_it same. never s rest fits same (begun rest shown_it);
}
  where
    positive : (d : ℕ) → (d ≡ 0 → ⊥) → 0 < d
    positive d other = omega (arith, other)

    never : (s : Script) (rest : List Line) → FitsScript s → script_lines s ≡ rest → Begun line.indent rest → ⊥
    never s rest fits same begun =
        other (one_indent line.indent 0 rest rest begun (zero_first (script_rows s) rest (fits_start s rest fits same (some_lines line.indent rest begun)) (script_same s ∙ same)) refl)

    begun : (rest : List Line) → shows (at_line line.indent) rest → Begun line.indent rest
    begun [] shown_it = absurd shown_it
    begun (first ∷ more) shown_it = shown_it

-- ---- where the lines are a script

profile_asked : (fault : ParseFault) → Asks fault profile
profile_asked (Unexpected place) = tt
profile_asked (Unsupported place) = tt
profile_asked (BadIndent place) = tt
profile_asked (TooDeep place) = (omega arith, omega arith)
profile_asked (TooMany place) = omega arith
profile_asked Memory = tt

never_both : (lines : List Line) (fault : ParseFault) (tree : ScriptTree) → FirstFault lines fault → IsScript lines tree → ⊥
never_both lines fault tree f s = f.none profile (profile_asked fault) s.script.grammar.written s.script.grammar.fits (record { stands = s.script.stands; within = s.within }) f.behind f.shown (sym s.script.grammar.lines_are ∙ f.lines_are)

pub only_memory : (lines : List Line) (fault : ParseFault) (tree : ScriptTree) → IsFault lines fault → IsScript lines tree → fault ≡ Memory
only_memory lines Memory tree f s = refl
only_memory lines (Unexpected place) tree f s = absurd (never_both lines (Unexpected place) tree f s)
only_memory lines (Unsupported place) tree f s = absurd (never_both lines (Unsupported place) tree f s)
only_memory lines (BadIndent place) tree f s = absurd (never_both lines (BadIndent place) tree f s)
only_memory lines (TooDeep place) tree f s = absurd (never_both lines (TooDeep place) tree f s)
only_memory lines (TooMany place) tree f s = absurd (never_both lines (TooMany place) tree f s)

-- the statements of a script are numbered
pub numbered_script : (lines : List Line) (tree : ScriptTree) → IsScript lines tree → IsNumbered tree
numbered_script lines tree s =
    let written = s.script.grammar.written in
    subst IsNumbered (sym s.script.grammar.tree_is) (record { in_order = suite_again 0 0 (script_body written); counted = suite_size 0 (script_body written) })

-- and of a text's lines it is well formed
pub formed_script : (text : List ℕ) (lines : List Line) (tree : ScriptTree) → HasLines text lines → IsScript lines tree → IsWellFormed tree
formed_script text lines tree has s = script_well_formed text lines tree has s.script.grammar
