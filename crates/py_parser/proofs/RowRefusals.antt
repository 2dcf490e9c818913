-- Where the lines of a script stop being rows: how a refusal further on is one of what stands before it.
use Rattle.std.proofs.Common.{◌≡◌, inl, inr, ◌⊎◌, ℕ, ◌+◌, ◌<◌, ◌≤◌, suc, nat_le, Bool, true, false, ◌&&◌, List, [], ◌∷◌, ◌++◌, refl, ap, sym, ◌∙◌, subst, arith, append_assoc, append-nil, leb-true, length, codes, Option, Some}
use Rattle.std.specs.Prelude.{⊤}
use Rattle.std.proofs.lemmas.Bool.{false≢true}
use Rattle.prov_base.specs.declared.place.Pos.{Pos}
use Rattle.py_lines.specs.declared.parts.Line.{Line}
use Rattle.py_lines.specs.declared.parts.Token.{Token}
use Rattle.py_parser.specs.declared.fault.Halt.{Halt}
use Rattle.py_parser.specs.declared.fault.Halt.TheVariants.{AtToken, AtEnd, NoLine, BadIndent, TooDeep, TooMany, Memory}
use Rattle.py_grammar.specs.LineReader.{Head, simple_head, head_tokens}
use Rattle.py_grammar.specs.Layout.{IsLine}
use Rattle.py_grammar.specs.Follows.{Below}
use Rattle.py_grammar.specs.Limits.{Limits, profile}
use Rattle.py_parser.specs.Rows.{Rows, end_rows, row, Under, nothing, block, rows_lines, under_lines, Level, counted, opens, after, inside, is_done, follows, Leads, FitsUnder, FitsRows, may, rows_may, under_may, rows_size, Edge, LastEdge, Begun}
use Rattle.py_lines.specs.declared.parts.TokenKind.TheVariants.{Keyword}
use Rattle.py_expressions.specs.declared.fault.Fault.{Fault}
use Rattle.py_grammar.specs.ParsedHead.{UnreadLine, lacks_handler}
use Rattle.py_expressions.specs.Tokens.{keyword, token}
use Rattle.py_grammar.specs.Written.{pass}
use Rattle.py_parser.specs.Grouped.{no_spot}
use Rattle.py_parser.specs.Faults.{NoLess, Said, low_elsewhere, first_deep_at, Point, at_token, at_end, at_line, below, no_line, shows, first_place, last_place, last_token, IsAt, IsPass, IsPassBefore, IsHandler, IsOpenAt, few_suites, few_statements, is_stmt_kind, tokens_before, ReadsNoFurther, line_fault}
use Rattle.py_parser.specs.ParsedBlocks.{RowsBegin, RowsFollow, UnderFollows, NoneRows, NoneUnder, Passes, NoneBy, Deep, LimitBy, RowsLimit, UnderLimit, NoLimit, Few, CountsFrom, is_column, columns_under, RowsGoOn, UnderGoesOn, NoRows, NoUnder, MayStand, MayStandUnder, Placed, PlacedUnder, IsOnLine, UnderBegins, Refused, RefusedHere, RefusedUnder, RefusedLine, Asks, marks, MarksFirst, deep_at, halt_limit, NonePass, KeepsPass, NonePassUnder, KeepsPassUnder, NoneHere}
use Rattle.py_parser.proofs.Columns.{leads_low, under_low, less_in, all_front, open_behind, open_first, none_open, open_split, open_apart, open_low, no_open_rows, column_inside, own_column, column_here}
use Rattle.py_parser.proofs.Endings.{begins_here, begins_behind, begins_end, begins_under, begins_inside, begins_suite, handler_next, pass_next, pass_before, line_next, goes_behind, goes_end, goes_under, goes_inside, follows_behind, follows_under, follows_inside, follows_pass}
use Rattle.py_parser.proofs.Lacking.{indent_stays, lacks_behind, lacks_end, lacks_under, lacks_inside}
use Rattle.py_parser.proofs.Counting.{few_behind, few_under, few_here, more_behind, more_under}
use Rattle.py_parser.proofs.RowNeeds.{head_standing, rows_standing}
use Rattle.py_parser.proofs.Ordered.{stands_at, no_order, passes_more, order_more, there_more, order_here, there_here, keeps_behind, keeps_under, keeps_inside}
use Rattle.py_parser.proofs.Shallow.{rows_room, rows_lie, lie_behind, lie_under, lie_inside}
use Rattle.py_parser.proofs.Peeled.{begun_rows, one_indent, edge_under, head_is, left_over, peeled}

first_line : (a b : Line) (x y : List Line) → a ∷ x ≡ b ∷ y → a ≡ b
first_line a b x y is = cc

other_lines : (a b : Line) (x y : List Line) → a ∷ x ≡ b ∷ y → x ≡ y
other_lines a b x y is = cc

-- a first line at this indentation is not below it
not_below : (d : ℕ) (x : List Line) → Begun d x → Below d x → ⊥
not_below d [] begun low = begun
not_below d (line ∷ x) begun low = absurd (omega (arith, begun, low))

below_begun : (d k : ℕ) (x : List Line) → d < k → Begun d x → Below k x
below_begun d k [] less begun = absurd begun
below_begun d k (line ∷ x) less begun = omega (arith, less, begun)

begun_edge : (l : Level) (h : Head) (under : Under) (x : List Line) → FitsUnder l h under → Begun l.indent x → Edge under x
begun_edge l h nothing x fits begun = tt
begun_edge l h (block k rows) x fits begun = below_begun l.indent k x fits.1 begun

-- behind rows a line at their indentation is below what stands under the last of them
last_edge : (l m : Level) (rows : Rows) (x : List Line) → Leads l rows m → Begun l.indent x → LastEdge rows x
last_edge l m end_rows x leads begun = tt
last_edge l m (row line h under end_rows) x leads begun = begun_edge l h under x leads.2 begun
last_edge l m (row line h under (row line_2 h_2 under_2 rest)) x leads begun = last_edge (after l h) m (row line_2 h_2 under_2 rest) x leads.3 begun

pub tokens_append : (at : Pos) (a b : List Line) → last_token at (a ++ b) ≡ last_token (last_token at a) b
tokens_append at [] b = refl
tokens_append at (line ∷ a) b = tokens_append (last_place at line.tokens) a b

-- ---- behind rows

begun_first : (l m : Level) (rows : Rows) (x : List Line) → Leads l rows m → Begun m.indent x → Begun l.indent (rows_lines rows ++ x)
begun_first l m end_rows x leads begun = subst (λ d. Begun d x) (indent_stays l m end_rows leads) begun
begun_first l m (row line h under rest) x leads begun = leads.0.indent_is

-- the same is known of where a line may stand
may_behind : (cs : List ℕ) (l m : Level) (n : ℕ) (rows : Rows) (d : ℕ) (front : List Line) → Leads l rows m → rows_may profile l n rows ≡ true → MayStand cs m (n + rows_size rows) d front → MayStand cs l n d (rows_lines rows ++ front)
may_behind cs l m n rows d front leads may_be (inl g) = inl (goes_behind l m n rows (IsAt d) front leads may_be g)
may_behind cs l m n rows d front leads may_be (inr (inl c, g)) = inr (inl c, goes_behind l m n rows IsHandler front leads may_be g)
may_behind cs l m n rows d front leads may_be (inr (inr o, g)) = inr (inr (open_behind d (rows_lines rows) front o), goes_behind l m n rows IsHandler front leads may_be g)

no_rows_behind : (cs : List ℕ) (l m : Level) (n : ℕ) (rows : Rows) (d : ℕ) (front behind : List Line) → Leads l rows m → rows_may profile l n rows ≡ true → shows (at_line d) behind → ((rest : List Line) → shows (at_line d) rest → Begun m.indent (front ++ rest))
    → NoRows cs m (n + rows_size rows) d front → NoRows cs l n d (rows_lines rows ++ front)
no_rows_behind cs l m n rows d front behind leads may_be shown begun absent = record {
  around = absent.around;
  here = λ same. absent.here (same ∙ sym (indent_stays l m rows leads));
  complete = complete_behind absent.complete;
  inside = λ o. elim (open_apart d (rows_lines rows) front o) [ inl more ↦ absent.inside more | inr here ↦ open_here front (begun behind shown) here.0 here.1 ];
  none = λ line more others r at fits low same.
      let indent = indent_stays l m rows leads in
      let p = left_over l m rows others (front ++ line ∷ more) r leads fits low (last_edge l m rows (front ++ line ∷ more) leads (subst (λ e. Begun e (front ++ line ∷ more)) indent (begun (line ∷ more) at))) (same ∙ append_assoc (rows_lines rows) front (line ∷ more)) in
      absent.none line more p.left r at p.fits (subst (λ e. Below e r) (sym indent) low) p.lines_are;
}
  where
    complete_behind : RowsGoOn m (n + rows_size rows) (IsPassBefore d) front ⊎ RowsGoOn m (n + rows_size rows) IsHandler front → RowsGoOn l n (IsPassBefore d) (rows_lines rows ++ front) ⊎ RowsGoOn l n IsHandler (rows_lines rows ++ front)
    complete_behind (inl g) = inl (goes_behind l m n rows (IsPassBefore d) front leads may_be g)
    complete_behind (inr g) = inr (goes_behind l m n rows IsHandler front leads may_be g)

    shown_begun : (e : ℕ) (rest : List Line) → shows (at_line d) rest → Begun e rest → d ≡ e
    shown_begun e [] shown_it begun_it = absurd begun_it
    shown_begun e (line ∷ rest) shown_it begun_it = sym shown_it ∙ begun_it

    open_here : (f : List Line) → Begun m.indent (f ++ behind) → IsOpenAt d (rows_lines rows) → NoLess d f → ⊥
    open_here [] begun_it o low = absent.here (shown_begun m.indent behind shown begun_it)
    open_here (first ∷ f) begun_it o low =
        let indent = indent_stays l m rows leads in
        let least = open_low d l.indent (rows_lines rows) (leads_low l m rows leads) o in
        let most = low.0 in
        absent.here (omega (arith, indent, least, most, begun_it))

placed_behind : (cs : List ℕ) (l m : Level) (n : ℕ) (rows : Rows) (front behind : List Line) (p : Point) → Leads l rows m → rows_may profile l n rows ≡ true → shows p behind → ((rest : List Line) → shows p rest → Begun m.indent (front ++ rest))
    → Placed cs m (n + rows_size rows) front p → Placed cs l n (rows_lines rows ++ front) p
placed_behind cs l m n rows front behind (at_token d tokens t) leads may_be shown begun is = may_behind cs l m n rows d front leads may_be is
placed_behind cs l m n rows front behind (at_end d tokens) leads may_be shown begun is = may_behind cs l m n rows d front leads may_be is
placed_behind cs l m n rows front behind (at_line d) leads may_be shown begun is = no_rows_behind cs l m n rows d front behind leads may_be shown begun is
placed_behind cs l m n rows front behind (below d) leads may_be shown begun is = (goes_behind l m n rows (IsPass d) front leads may_be is.0, lacks_behind l m rows d front leads is.1)
placed_behind cs l m n rows front behind no_line leads may_be shown begun is = goes_behind l m n rows IsHandler front leads may_be is

-- what begins with a line there begins with any line there
begun_with : (i d : ℕ) (front : List Line) (some : Line) → some.indent ≡ d → Begun i (front ++ some ∷ []) → (rest : List Line) → Begun d rest → Begun i (front ++ rest)
begun_with i d [] some at begun [] there = absurd there
begun_with i d [] some at begun (line ∷ rest) there = there ∙ sym at ∙ begun
begun_with i d (line ∷ front) some at begun rest there = begun

pub begun_there : (i d : ℕ) (front : List Line) (p : Point) → stands_at p d → ((rest : List Line) → shows p rest → Begun i (front ++ rest)) → (rest : List Line) → Begun d rest → Begun i (front ++ rest)
begun_there i d front (at_token indent tokens t) at begun =
    let some : Line = record { indent = indent; span = record { from = 0; to = 0 }; tokens = tokens ++ t ∷ [] } in
    begun_with i d front some (sym at) (begun (some ∷ []) (refl, record { more = []; tokens_are = refl }))
begun_there i d front (at_end indent tokens) at begun =
    let some : Line = record { indent = indent; span = record { from = 0; to = 0 }; tokens = tokens } in
    begun_with i d front some (sym at) (begun (some ∷ []) (refl, refl))
begun_there i d front (at_line indent) at begun = absurd at
begun_there i d front (below indent) at begun = absurd at
begun_there i d front no_line at begun = absurd at

pub ends_begun : (d : ℕ) (tokens : List Token) (rest : List Line) → shows (at_end d tokens) rest → Begun d rest
ends_begun d tokens [] shown = absurd shown
ends_begun d tokens (line ∷ rest) shown = shown.0

-- what passes a limit, said of more lines
limit_more : (begins more_begins : Said → Point → Type 0) (follow more_follow : (Line → Type 0) → Type 0) (none more_none : (Limits → Type 0) → ℕ → List Token → Type 0) (kept more_kept : ℕ → List Token → Type 0) (count more_count : ℕ → List Token → Type 0) (halt : Halt) (p : Point)
    → ((said : Said) (p : Point) → begins said p → more_begins said p)
    → ((is : Line → Type 0) → follow is → more_follow is) → ((within : Limits → Type 0) (d : ℕ) (tokens : List Token) → stands_at p d → none within d tokens → more_none within d tokens) → ((d : ℕ) (tokens : List Token) → kept d tokens → more_kept d tokens)
    → ((number : ℕ) (tokens : List Token) → count number tokens → more_count number tokens) → LimitBy begins follow none kept count halt p → LimitBy more_begins more_follow more_none more_kept more_count halt p
limit_more begins more_begins follow more_follow none more_none kept more_kept count more_count halt p one two three keeps four limit = by halt p three limit
  where
    passes : (within : Limits → Type 0) (d : ℕ) (tokens : List Token) → ((ts : List Token) → none within d ts → more_none within d ts) → Passes follow (none within) d tokens → Passes more_follow (more_none within) d tokens
    passes within d tokens more s = record { at = s.at; goes_on = two (λ line. IsLine line d (tokens ++ keyword (codes "pass") s.at)) s.goes_on; none_so = more (tokens ++ keyword (codes "pass") s.at) s.none_so }

    deeper : (place : Pos) (d : ℕ) (tokens : List Token) (next : Token) → ((within : Limits → Type 0) (ts : List Token) → none within d ts → more_none within d ts) → Deep begins (NoneBy none) kept place d tokens next → Deep more_begins (NoneBy more_none) more_kept place d tokens next
    deeper place d tokens next more s = record {
      goes_on = one (first_deep_at place) (at_end d (tokens ++ next ∷ [])) s.goes_on;
      there = s.there;
      order = passes_more (NoneBy none) (NoneBy more_none) kept more_kept d tokens next (λ absent at. more (λ q. ⊤) (tokens ++ keyword (codes "pass") at) (absent at)) (keeps d tokens) s.order;
    }

    by : (halt : Halt) (p : Point) → ((within : Limits → Type 0) (d : ℕ) (tokens : List Token) → stands_at p d → none within d tokens → more_none within d tokens) → LimitBy begins follow none kept count halt p → LimitBy more_begins more_follow more_none more_kept more_count halt p
    by (TooDeep place) (at_token d tokens t) three (inl s) = inl (deeper place d tokens t (λ within ts. three within d ts refl) s)
    by (TooDeep place) (at_token d tokens t) three (inr (at, s, begins_it, k)) =
        inr (at, passes few_suites d tokens (λ ts. three few_suites d ts refl) s, begins_it, record { number = k.number; counts_are = four k.number tokens k.counts_are; within = k.within })
    by (TooDeep place) (at_end d tokens) three (none, s) = (none, passes few_suites d [] (λ ts. three few_suites d ts refl) s)
    by (TooDeep place) (at_line d) three limit = limit
    by (TooDeep place) (below d) three limit = limit
    by (TooDeep place) no_line three limit = limit
    by (TooMany place) (at_token d tokens t) three s = (passes few_statements d tokens (λ ts. three few_statements d ts refl) s.0, four 20001 tokens s.1, s.2)
    by (TooMany place) (at_end d tokens) three limit = limit
    by (TooMany place) (at_line d) three limit = limit
    by (TooMany place) (below d) three limit = limit
    by (TooMany place) no_line three limit = limit
    by (AtToken lines_left left) p three limit = tt
    by (AtEnd lines_left place) p three limit = tt
    by (NoLine place) p three limit = tt
    by (BadIndent place) p three limit = tt
    by Memory p three limit = tt

none_behind : (within : Limits → Type 0) (l m : Level) (n k : ℕ) (rows : Rows) (front : List Line) (p : Point) → Leads l rows m → k ≡ n + rows_size rows → ((rest : List Line) → shows p rest → Begun m.indent (front ++ rest)) → NoneRows within m k front p
    → NoneRows within l n (rows_lines rows ++ front) p
none_behind within l m n k rows front p leads count_is begun none q asks rest others s shows_it fits may_be low same =
    let indent = indent_stays l m rows leads in
    let left = peeled q l m n rows others (front ++ rest) s leads fits may_be low (last_edge l m rows (front ++ rest) leads (subst (λ d. Begun d (front ++ rest)) indent (begun rest shows_it))) (same ∙ append_assoc (rows_lines rows) front rest) in
    none q asks rest left.left s shows_it left.fits (subst (λ j. rows_may q m j left.left ≡ true) (sym count_is) left.may_be) (subst (λ d. Below d s) (sym indent) low) left.lines_are

limit_behind : (l m : Level) (n k : ℕ) (rows : Rows) (front : List Line) (fault : Halt) (p : Point) → Leads l rows m → rows_may profile l n rows ≡ true → k ≡ n + rows_size rows → ((rest : List Line) → shows p rest → Begun m.indent (front ++ rest)) → RowsLimit m k front fault p
    → RowsLimit l n (rows_lines rows ++ front) fault p
limit_behind l m n k rows front fault p leads may_be count_is begun limit =
    limit_more (λ said. RowsBegin said m front) (λ said. RowsBegin said l (rows_lines rows ++ front)) (λ is. RowsFollow m is front) (λ is. RowsFollow l is (rows_lines rows ++ front))
    (λ within d tokens. NoneRows within m k front (at_end d tokens)) (λ within d tokens. NoneRows within l n (rows_lines rows ++ front) (at_end d tokens)) (KeepsPass m k front) (KeepsPass l n (rows_lines rows ++ front)) (CountsFrom k front) (CountsFrom n (rows_lines rows ++ front)) fault p
    (λ said p b. begins_behind l m rows front p leads (rows_standing profile l n rows may_be) b) (λ is f. follows_behind l m rows is front leads (rows_standing profile l n rows may_be) f)
    (λ within d tokens at none. none_behind within l m n k rows front (at_end d tokens) leads count_is (λ rest shown. begun_there m.indent d front p at begun rest (ends_begun d tokens rest shown)) none) (λ d tokens keeps. keeps_behind l m n k rows front d tokens leads may_be count_is keeps) (λ number tokens o. more_behind l m n k rows front number tokens leads count_is o) limit

pub refused_behind : (cs : List ℕ) (l m : Level) (n k : ℕ) (at now : Pos) (before left : List Line) (rows : Rows) (fault : Halt) → before ≡ rows_lines rows ++ left → Leads l rows m → rows_may profile l n rows ≡ true → k ≡ n + rows_size rows → now ≡ last_token at (rows_lines rows)
    → Refused cs m k now left fault → Refused cs l n at before fault
refused_behind cs l m n k at now before left rows fault is leads kept count_is now_is r = record {
  front = rows_lines rows ++ r.front;
  behind = r.behind;
  point = r.point;
  lines_are = is ∙ ap (λ ls. rows_lines rows ++ ls) r.lines_are ∙ sym (append_assoc (rows_lines rows) r.front r.behind);
  shown = r.shown;
  marked = subst (λ p. marks p r.behind r.point fault) (ap (λ p. last_token p r.front) now_is ∙ sym (tokens_append at (rows_lines rows) r.front)) r.marked;
  limit = limit_behind l m n k rows r.front fault r.point leads kept count_is r.begun r.limit;
  placed = placed_behind cs l m n rows r.front r.behind r.point leads kept r.shown r.begun (subst (λ j. Placed cs m j r.front r.point) count_is r.placed);
  begun = λ rest shows_it. subst (Begun l.indent) (sym (append_assoc (rows_lines rows) r.front rest)) (begun_first l m rows (r.front ++ rest) leads (r.begun rest shows_it));
  begins = λ place. begins_behind l m rows r.front r.point leads (rows_standing profile l n rows kept) (r.begins place);
  reads = r.reads;
  few = few_behind l m n k rows r.front leads count_is r.few;
  shallow = λ room. lie_behind l m n k rows r.front leads kept count_is room r.shallow;
  order = order_more (NonePass m k r.front) (NonePass l n (rows_lines rows ++ r.front)) (KeepsPass m k r.front) (KeepsPass l n (rows_lines rows ++ r.front)) r.point none_more keeps_more r.order;
  passes = there_more (NonePass m k r.front) (NonePass l n (rows_lines rows ++ r.front)) (KeepsPass m k r.front) (KeepsPass l n (rows_lines rows ++ r.front)) (halt_limit fault) r.point none_more keeps_more r.passes;
  none = none_behind (Asks fault) l m n k rows r.front r.point leads count_is r.begun r.none;
}
  where
    none_more : (d : ℕ) (tokens : List Token) → stands_at r.point d → NonePass m k r.front d tokens → NonePass l n (rows_lines rows ++ r.front) d tokens
    none_more d tokens here absent at = none_behind (λ q. ⊤) l m n k rows r.front (at_end d (tokens ++ keyword (codes "pass") at)) leads count_is
        (λ rest shown. begun_there m.indent d r.front r.point here r.begun rest (ends_begun d (tokens ++ keyword (codes "pass") at) rest shown)) (absent at)

    keeps_more : (d : ℕ) (tokens : List Token) → KeepsPass m k r.front d tokens → KeepsPass l n (rows_lines rows ++ r.front) d tokens
    keeps_more d tokens keeps = keeps_behind l m n k rows r.front d tokens leads kept count_is keeps

may_end : (cs : List ℕ) (l m : Level) (n : ℕ) (rows : Rows) (d : ℕ) → Leads l rows m → rows_may profile l n rows ≡ true → MayStand cs m (n + rows_size rows) d [] → MayStand cs l n d (rows_lines rows)
may_end cs l m n rows d leads may_be (inl g) = inl (goes_end l m n rows (IsAt d) leads may_be g)
may_end cs l m n rows d leads may_be (inr (inl c, g)) = inr (inl c, goes_end l m n rows IsHandler leads may_be g)
may_end cs l m n rows d leads may_be (inr (inr o, g)) = absurd (none_open d o)

no_rows_end : (cs : List ℕ) (l m : Level) (n : ℕ) (rows : Rows) (d : ℕ) (left : List Line) → Leads l rows m → rows_may profile l n rows ≡ true → shows (at_line d) left → LastEdge rows left → ((rest : List Line) → shows (at_line d) rest → LastEdge rows rest) → NoRows cs m (n + rows_size rows) d [] → NoRows cs l n d (rows_lines rows)
no_rows_end cs l m n rows d left leads may_be shown edge edges absent = record {
  around = absent.around;
  here = λ same. absent.here (same ∙ sym (indent_stays l m rows leads));
  complete = complete_end absent.complete;
  inside = by left shown edge;
  none = λ line more others r at fits low same.
      let indent = indent_stays l m rows leads in
      let p = left_over l m rows others (line ∷ more) r leads fits low (edges (line ∷ more) at) same in
      absent.none line more p.left r at p.fits (subst (λ e. Below e r) (sym indent) low) p.lines_are;
}
  where
    complete_end : RowsGoOn m (n + rows_size rows) (IsPassBefore d) [] ⊎ RowsGoOn m (n + rows_size rows) IsHandler [] → RowsGoOn l n (IsPassBefore d) (rows_lines rows) ⊎ RowsGoOn l n IsHandler (rows_lines rows)
    complete_end (inl g) = inl (goes_end l m n rows (IsPassBefore d) leads may_be g)
    complete_end (inr g) = inr (goes_end l m n rows IsHandler leads may_be g)

    by : (left : List Line) → shows (at_line d) left → LastEdge rows left → IsOpenAt d (rows_lines rows) → ⊥
    by [] shown edge o = shown
    by (line ∷ more) shown edge o = no_open_rows l m rows d line more leads shown (λ same. absent.here (same ∙ sym (indent_stays l m rows leads))) edge o

placed_end : (cs : List ℕ) (l m : Level) (n : ℕ) (rows : Rows) (left : List Line) (p : Point) → Leads l rows m → rows_may profile l n rows ≡ true → shows p left → LastEdge rows left → ((rest : List Line) → shows p rest → LastEdge rows rest) → Placed cs m (n + rows_size rows) [] p → Placed cs l n (rows_lines rows) p
placed_end cs l m n rows left (at_token d tokens t) leads may_be shown edge edges is = may_end cs l m n rows d leads may_be is
placed_end cs l m n rows left (at_end d tokens) leads may_be shown edge edges is = may_end cs l m n rows d leads may_be is
placed_end cs l m n rows left (at_line d) leads may_be shown edge edges is = no_rows_end cs l m n rows d left leads may_be shown edge edges is
placed_end cs l m n rows left (below d) leads may_be shown edge edges is = (goes_end l m n rows (IsPass d) leads may_be is.0, lacks_end l m rows d leads is.1)
placed_end cs l m n rows left no_line leads may_be shown edge edges is = goes_end l m n rows IsHandler leads may_be is

-- nothing was read where the first token of a line shows the fault
nothing_read : (t : Token) (fault : Fault) → UnreadLine [] t fault
nothing_read t fault = record {
  del_unread = λ opened spot inside is e more same. absurd (no_front opened (token (Keyword 12) spot) inside is);
  for_unread = λ spot inside is passed s more same. absurd (no_front [] (token (Keyword 17) spot) inside is);
}
  where
    no_front : (opened : List Token) (u : Token) (inside : List Token) → [] ≡ opened ++ u ∷ inside → ⊥
    no_front [] u inside is = cc
    no_front (first ∷ opened) u inside is = cc

pub first_reads : (deep : Option Pos) (p : Point) → tokens_before p ≡ [] → ReadsNoFurther deep p
first_reads deep (at_token d tokens t) is = subst (λ (ts : List Token). UnreadLine ts t (line_fault deep)) (sym is) (nothing_read t (line_fault deep))
first_reads deep (at_end d tokens) is = tt
first_reads deep (at_line d) is = tt
first_reads deep (below d) is = tt
first_reads deep no_line is = tt

-- behind at least one row
pub refused_end : (cs : List ℕ) (l m : Level) (n k : ℕ) (at now : Pos) (before left : List Line) (rows : Rows) (fault : Halt) → before ≡ rows_lines rows ++ left → Leads l rows m → rows_may profile l n rows ≡ true → k ≡ n + rows_size rows → now ≡ last_token at (rows_lines rows)
    → k ≤ 20000 → LastEdge rows left → ((x : List Line) → Begun l.indent (rows_lines rows ++ x)) → RefusedHere cs m k now left fault → Refused cs l n at before fault
refused_end cs l m n k at now before left rows fault is leads kept count_is now_is low edge begun r = record {
  front = rows_lines rows;
  behind = left;
  point = r.point;
  lines_are = is;
  shown = r.shown;
  marked = subst (λ p. marks p left r.point fault) now_is r.marked;
  limit = no_limit fault r.limit;
  placed = placed_end cs l m n rows left r.point leads kept r.shown edge (λ rest shows_it. r.edge rows rest shows_it l (sym (indent_stays l m rows leads)) leads edge) (subst (λ j. Placed cs m j [] r.point) count_is r.placed);
  begun = λ rest shows_it. begun rest;
  begins = λ place. begins_end l m rows r.point leads (rows_standing profile l n rows kept) (begins_here m r.point r.before);
  reads = first_reads (deep_at fault) r.point r.before;
  few = subst (Few n) (append-nil (rows_lines rows)) (few_behind l m n k rows [] leads count_is (few_here k low));
  shallow = λ room. rows_lie l m n rows leads kept (rows_room l m n rows leads kept room);
  order = order_here (NonePass l n (rows_lines rows)) (KeepsPass l n (rows_lines rows)) r.point r.before;
  passes = there_here m left (NonePass l n (rows_lines rows)) (KeepsPass l n (rows_lines rows)) (halt_limit fault) r.point r.before none_passes r.passes;
  none = λ q asks rest others s shows_it fits may_be low same.
      let indent = indent_stays l m rows leads in
      let p = peeled q l m n rows others rest s leads fits may_be low (r.edge rows rest shows_it l (sym indent) leads edge) same in
      r.none q asks rest p.left s shows_it p.fits (subst (λ j. rows_may q m j p.left ≡ true) (sym count_is) p.may_be) (subst (λ d. Below d s) (sym indent) low) p.lines_are;
}
  where
    none_passes : (d : ℕ) → NoneHere m left d → NonePass l n (rows_lines rows) d []
    none_passes d absent at q asks rest others s shows_it fits may_be low same =
        let indent = indent_stays l m rows leads in
        let begun_it = ends_begun d (keyword (codes "pass") at) rest shows_it in
        let p = peeled q l m n rows others rest s leads fits may_be low (absent.edge rows rest begun_it edge) same in
        absent.none rest p.left s begun_it p.fits (subst (λ d. Below d s) (sym indent) low) p.lines_are

    no_limit : (halt : Halt) → NoLimit halt → RowsLimit l n (rows_lines rows) halt r.point
    no_limit (AtToken lines_left left) named = tt
    no_limit (AtEnd lines_left place) named = tt
    no_limit (NoLine place) named = tt
    no_limit (BadIndent place) named = tt
    no_limit (TooDeep place) named = absurd named
    no_limit (TooMany place) named = absurd named
    no_limit Memory named = tt

-- ---- under a line

second : (a b : Bool) → (a && b) ≡ true → b ≡ true
second true b is = is
second false b is = absurd (false≢true is)

first : (a b : Bool) → (a && b) ≡ true → a ≡ true
first true b is = refl
first false b is = absurd (false≢true is)

middle : (a b c : Bool) → (a && b && c) ≡ true → b ≡ true
middle true true c is = refl
middle true false c is = absurd (false≢true is)
middle false b c is = absurd (false≢true is)

first_of_three : (a b c : Bool) → (a && b && c) ≡ true → a ≡ true
first_of_three true b c is = refl
first_of_three false b c is = absurd (false≢true is)

shifted : (line other : Line) (a b x c : List Line) → (line ∷ a ++ b) ++ x ≡ other ∷ c → a ++ (b ++ x) ≡ c
shifted line other a b x c is = sym (append_assoc a b x) ∙ other_lines line other _ _ is

-- a suite with these first lines lies further in
further_in : (said : Said) (m : Level) (h : Head) (front : List Line) (p : Point) → UnderBegins said m h front p → NoLess m.indent front
further_in said m h front p b = all_front m.indent front b.more (subst (NoLess m.indent) b.lines_are (less_in m.indent (suc m.indent) (under_lines b.under) (omega arith) (under_low m h b.under b.fits)))

may_under : (cs : List ℕ) (m : Level) (n : ℕ) (h : Head) (d : ℕ) (line : Line) (front : List Line) → IsLine line m.indent (head_tokens h) → follows m h ≡ true → may profile m n h ≡ true → m.depth ≤ 50 → NoLess m.indent front → MayStandUnder (columns_under cs m) m (n + counted h) h d front → MayStand cs m n d (line ∷ front)
may_under cs m n h d line front is may_follow kept deep low (inl g) = inl (goes_under m n h line (IsAt d) front is may_follow kept deep g)
may_under cs m n h d line front is may_follow kept deep low (inr (inr o, g)) = inr (inr (open_behind d (line ∷ []) front o), goes_under m n h line IsHandler front is may_follow kept deep g)
may_under cs m n h d line front is may_follow kept deep low (inr (inl c, g)) = inr (column (column_here d m.indent cs c), goes_under m n h line IsHandler front is may_follow kept deep g)
  where
    column : (m.indent ≡ d) ⊎ (is_column d cs ≡ true) → (is_column d cs ≡ true) ⊎ IsOpenAt d (line ∷ front)
    column (inl here) = inr (open_first d line front (is.indent_is ∙ here) (subst (λ e. NoLess e front) here low))
    column (inr around) = inl around

no_rows_under : (cs : List ℕ) (m : Level) (n : ℕ) (h : Head) (d : ℕ) (line : Line) (front : List Line) → IsLine line m.indent (head_tokens h) → follows m h ≡ true → may profile m n h ≡ true → m.depth ≤ 50 → NoUnder (columns_under cs m) m (n + counted h) h d front → NoRows cs m n d (line ∷ front)
no_rows_under cs m n h d line front is may_follow kept deep absent = record {
  around = λ c. absent.around (column_inside d m.indent cs c);
  here = λ same. absent.around (own_column d m.indent cs same);
  complete = complete_under absent.complete;
  inside = λ o. elim (open_split d line front o) [ inl here ↦ absent.around (own_column d m.indent cs (sym here.0 ∙ is.indent_is)) | inr more ↦ absent.inside more ];
  none = none;
}
  where
    complete_under : UnderGoesOn m (n + counted h) h (IsPassBefore d) front ⊎ UnderGoesOn m (n + counted h) h IsHandler front → RowsGoOn m n (IsPassBefore d) (line ∷ front) ⊎ RowsGoOn m n IsHandler (line ∷ front)
    complete_under (inl g) = inl (goes_under m n h line (IsPassBefore d) front is may_follow kept deep g)
    complete_under (inr g) = inr (goes_under m n h line IsHandler front is may_follow kept deep g)

    none : (other : Line) (more : List Line) (rows : Rows) (s : List Line) → other.indent ≡ d → FitsRows m rows → Below m.indent s → rows_lines rows ++ s ≡ (line ∷ front) ++ other ∷ more → ⊥
    none other more end_rows s at fits low same = not_below m.indent ((line ∷ front) ++ other ∷ more) is.indent_is (subst (Below m.indent) same low)
    none other more (row line_2 h_2 under_2 rest_2) s at fits low same =
        let one : line_2 ≡ line = first_line line_2 line _ _ same in
        let head : h ≡ h_2 = head_is m m line line_2 h h_2 (sym one) is fits.0 in
        let below_2 : FitsUnder m h under_2 = subst (λ g. FitsUnder m g under_2) (sym head) fits.2 in
        let rest_fits : FitsRows (after m h) rest_2 = subst (λ g. FitsRows (after m g) rest_2) (sym head) fits.3 in
        absent.none other more under_2 (rows_lines rest_2 ++ s) at below_2 (edge_under m h h under_2 rest_2 s below_2 rest_fits low) (shifted line_2 line (under_lines under_2) (rows_lines rest_2) s (front ++ other ∷ more) same)

placed_under : (cs : List ℕ) (m : Level) (n : ℕ) (h : Head) (line : Line) (front : List Line) (p : Point) → IsLine line m.indent (head_tokens h) → follows m h ≡ true → may profile m n h ≡ true → m.depth ≤ 50 → NoLess m.indent front
    → PlacedUnder (columns_under cs m) m (n + counted h) h front p → Placed cs m n (line ∷ front) p
placed_under cs m n h line front (at_token d tokens t) is may_follow kept deep low placed = may_under cs m n h d line front is may_follow kept deep low placed
placed_under cs m n h line front (at_end d tokens) is may_follow kept deep low placed = may_under cs m n h d line front is may_follow kept deep low placed
placed_under cs m n h line front (at_line d) is may_follow kept deep low placed = no_rows_under cs m n h d line front is may_follow kept deep placed
placed_under cs m n h line front (below d) is may_follow kept deep low placed = (goes_under m n h line (IsPass d) front is may_follow kept deep placed.0, lacks_under m h line d front is placed.1)
placed_under cs m n h line front no_line is may_follow kept deep low placed = goes_under m n h line IsHandler front is may_follow kept deep placed

none_under : (within : Limits → Type 0) (m : Level) (n : ℕ) (h : Head) (line : Line) (front : List Line) (p : Point) → IsLine line m.indent (head_tokens h) → NoneUnder within m (n + counted h) h front p → NoneRows within m n (line ∷ front) p
none_under within m n h line front p is none q asks rest end_rows s shows_it fits may_be low same = not_below m.indent ((line ∷ front) ++ rest) is.indent_is (subst (Below m.indent) same low)
none_under within m n h line front p is none q asks rest (row line_2 h_2 under_2 rest_2) s shows_it fits may_be low same =
    let one : line_2 ≡ line = first_line line_2 line _ _ same in
    let head : h ≡ h_2 = head_is m m line line_2 h h_2 (sym one) is fits.0 in
    let below_2 : FitsUnder m h under_2 = subst (λ g. FitsUnder m g under_2) (sym head) fits.2 in
    let rest_fits : FitsRows (after m h) rest_2 = subst (λ g. FitsRows (after m g) rest_2) (sym head) fits.3 in
    let under_is : under_may q m (n + counted h) h under_2 ≡ true = ap (λ g. under_may q m (n + counted g) g under_2) head ∙ middle (may q m n h_2) (under_may q m (n + counted h_2) h_2 under_2) _ may_be in
    none q asks rest under_2 (rows_lines rest_2 ++ s) shows_it below_2 under_is (edge_under m h h under_2 rest_2 s below_2 rest_fits low) (shifted line_2 line (under_lines under_2) (rows_lines rest_2) s (front ++ rest) same)

limit_under : (m : Level) (n : ℕ) (h : Head) (line : Line) (front : List Line) (fault : Halt) (p : Point) → IsLine line m.indent (head_tokens h) → follows m h ≡ true → may profile m n h ≡ true → UnderLimit m (n + counted h) h front fault p → RowsLimit m n (line ∷ front) fault p
limit_under m n h line front fault p is may_follow may_be limit =
    limit_more (λ said. UnderBegins said m h front) (λ said. RowsBegin said m (line ∷ front)) (λ is. UnderFollows m h is front) (λ is. RowsFollow m is (line ∷ front))
    (λ within d tokens. NoneUnder within m (n + counted h) h front (at_end d tokens)) (λ within d tokens. NoneRows within m n (line ∷ front) (at_end d tokens)) (KeepsPassUnder m (n + counted h) h front) (KeepsPass m n (line ∷ front)) (CountsFrom (n + counted h) front) (CountsFrom n (line ∷ front)) fault p
    (λ said p b. begins_under m h line front p is may_follow (head_standing profile m n h may_be) b) (λ so f. follows_under m h line so front is may_follow (head_standing profile m n h may_be) f)
    (λ within d tokens at none. none_under within m n h line front (at_end d tokens) is none) (λ d tokens keeps. keeps_under m n h line front d tokens is may_follow may_be keeps) (λ number tokens o. more_under m n h line front number tokens is o) limit

pub refused_under : (cs : List ℕ) (m : Level) (n : ℕ) (h : Head) (at : Pos) (line : Line) (lines : List Line) (fault : Halt) → IsLine line m.indent (head_tokens h) → follows m h ≡ true → may profile m n h ≡ true → m.depth ≤ 50
    → RefusedUnder cs m (n + counted h) h (last_place at line.tokens) lines fault → Refused cs m n at (line ∷ lines) fault
refused_under cs m n h at line lines fault is may_follow kept deep r = record {
  front = line ∷ r.front;
  behind = r.behind;
  point = r.point;
  lines_are = ap (λ ls. line ∷ ls) r.lines_are;
  shown = r.shown;
  marked = r.marked;
  limit = limit_under m n h line r.front fault r.point is may_follow kept r.limit;
  placed = placed_under cs m n h line r.front r.point is may_follow kept deep (further_in (low_elsewhere at) m h r.front r.point (r.begins at)) r.placed;
  begun = λ rest shows_it. is.indent_is;
  begins = λ place. begins_under m h line r.front r.point is may_follow (head_standing profile m n h kept) (r.begins place);
  reads = r.reads;
  few = few_under m n h line r.front is r.few;
  shallow = λ room. lie_under m n h line is may_follow kept r.front room r.shallow;
  order = order_more (NonePassUnder m (n + counted h) h r.front) (NonePass m n (line ∷ r.front)) (KeepsPassUnder m (n + counted h) h r.front) (KeepsPass m n (line ∷ r.front)) r.point none_more keeps_more r.order;
  passes = there_more (NonePassUnder m (n + counted h) h r.front) (NonePass m n (line ∷ r.front)) (KeepsPassUnder m (n + counted h) h r.front) (KeepsPass m n (line ∷ r.front)) (halt_limit fault) r.point none_more keeps_more r.passes;
  none = none_under (Asks fault) m n h line r.front r.point is r.none;
}
  where
    none_more : (d : ℕ) (tokens : List Token) → stands_at r.point d → NonePassUnder m (n + counted h) h r.front d tokens → NonePass m n (line ∷ r.front) d tokens
    none_more d tokens here absent at = none_under (λ q. ⊤) m n h line r.front (at_end d (tokens ++ keyword (codes "pass") at)) is (absent at)

    keeps_more : (d : ℕ) (tokens : List Token) → KeepsPassUnder m (n + counted h) h r.front d tokens → KeepsPass m n (line ∷ r.front) d tokens
    keeps_more d tokens keeps = keeps_under m n h line r.front d tokens is may_follow kept keeps

-- ---- at a line

more_lines : (point : Point) (line : Line) (lines : List Line) → shows point (line ∷ []) → shows point (line ∷ lines)
more_lines (at_token indent front t) line lines is = is
more_lines (at_end indent tokens) line lines is = is
more_lines (at_line indent) line lines is = is
more_lines (below indent) line lines is = is
more_lines no_line line lines is = is

placed_line : (cs : List ℕ) (m : Level) (n : ℕ) (line : Line) (p : Point) → m.depth ≤ 50 → line.indent ≡ m.indent → IsOnLine p → shows p (line ∷ []) → Placed cs m n [] p
placed_line cs m n line (at_token d tokens t) deep is on_line shown = inl (subst (λ e. RowsGoOn m n (IsAt e) []) (sym is ∙ shown.0) (line_next m n (λ lacks. deep)))
placed_line cs m n line (at_end d tokens) deep is on_line shown = inl (subst (λ e. RowsGoOn m n (IsAt e) []) (sym is ∙ shown.0) (line_next m n (λ lacks. deep)))
placed_line cs m n line (at_line d) deep is on_line shown = absurd on_line
placed_line cs m n line (below d) deep is on_line shown = absurd on_line
placed_line cs m n line no_line deep is on_line shown = absurd on_line

-- no line that may stand there goes on so
pub none_line : (within : Limits → Type 0) (m : Level) (n : ℕ) (p : Point) → ((rest : List Line) → shows p rest → Begun m.indent rest)
    → ((q : Limits) → within q → (other : Line) (more : List Line) (h : Head) → shows p (other ∷ more) → other.tokens ≡ head_tokens h → follows m h ≡ true → may q m n h ≡ true → ⊥) → NoneRows within m n [] p
none_line within m n p begun none q asks rest end_rows s shows_it fits may_be low same = not_below m.indent rest (begun rest shows_it) (subst (Below m.indent) same low)
none_line within m n p begun none q asks rest (row line_2 h_2 under_2 rest_2) s shows_it fits may_be low same =
    none q asks line_2 ((under_lines under_2 ++ rows_lines rest_2) ++ s) h_2 (subst (shows p) (sym same) shows_it) fits.0.tokens_are fits.1 (first_of_three (may q m n h_2) _ _ may_be)

pub refused_line : (cs : List ℕ) (m : Level) (n : ℕ) (at : Pos) (line : Line) (lines : List Line) (fault : Halt) → m.depth ≤ 50 → n ≤ 20000 → line.indent ≡ m.indent → RefusedLine m n at line lines fault → Refused cs m n at (line ∷ lines) fault
refused_line cs m n at line lines fault deep few is r = record {
  front = [];
  behind = line ∷ lines;
  point = r.point;
  lines_are = refl;
  shown = more_lines r.point line lines r.shown;
  marked = r.marked;
  limit = r.limit is;
  placed = placed_line cs m n line r.point deep is r.on_line r.shown;
  begun = λ rest shows_it. subst (λ d. Begun d rest) is (r.begun rest shows_it);
  begins = r.begins is;
  reads = r.reads;
  few = few_here n few;
  shallow = λ room. inl refl;
  order = r.order is;
  passes = r.passes is;
  none = none_line (Asks fault) m n r.point (λ rest shown. subst (λ d. Begun d rest) is (r.begun rest shown)) r.none;
}

-- ---- the suite under a line

may_inside : (cs : List ℕ) (m : Level) (n : ℕ) (h : Head) (k d : ℕ) (front : List Line) → opens h ≡ true → m.indent < k → m.depth ≤ 50 → MayStand cs (inside m h k) n d front → MayStandUnder cs m n h d front
may_inside cs m n h k d front open_is deeper low (inl g) = inl (goes_inside m n h k (IsAt d) front open_is deeper low g)
may_inside cs m n h k d front open_is deeper low (inr (c, g)) = inr (c, goes_inside m n h k IsHandler front open_is deeper low g)

no_inside : (cs : List ℕ) (m : Level) (n : ℕ) (h : Head) (k d : ℕ) (front : List Line) → opens h ≡ true → m.indent < k → m.depth ≤ 50 → ((rest : List Line) → shows (at_line d) rest → Begun k (front ++ rest)) → NoRows cs (inside m h k) n d front → NoUnder cs m n h d front
no_inside cs m n h k d front open_is deeper low begun absent = record { around = absent.around; inside = absent.inside; complete = complete_inside absent.complete; none = none }
  where
    complete_inside : RowsGoOn (inside m h k) n (IsPassBefore d) front ⊎ RowsGoOn (inside m h k) n IsHandler front → UnderGoesOn m n h (IsPassBefore d) front ⊎ UnderGoesOn m n h IsHandler front
    complete_inside (inl g) = inl (goes_inside m n h k (IsPassBefore d) front open_is deeper low g)
    complete_inside (inr g) = inr (goes_inside m n h k IsHandler front open_is deeper low g)

    none : (line : Line) (more : List Line) (under : Under) (s : List Line) → line.indent ≡ d → FitsUnder m h under → Edge under s → under_lines under ++ s ≡ front ++ line ∷ more → ⊥
    none line more nothing s at fits edge same = absurd (false≢true (sym fits ∙ open_is))
    none line more (block j rows) s at fits edge same =
        let one : j ≡ k = one_indent j k (rows_lines rows ++ s) (front ++ line ∷ more) (begun_rows (inside m h j) rows s refl fits.2) (begun (line ∷ more) at) same in
        absent.none line more rows s at (subst (λ e. FitsRows (inside m h e) rows) one fits.2) (subst (λ e. Below e s) one edge) same

placed_inside : (cs : List ℕ) (m : Level) (n : ℕ) (h : Head) (k : ℕ) (front : List Line) (p : Point) → opens h ≡ true → m.indent < k → m.depth ≤ 50 → ((rest : List Line) → shows p rest → Begun k (front ++ rest)) → Placed cs (inside m h k) n front p
    → PlacedUnder cs m n h front p
placed_inside cs m n h k front (at_token d tokens t) open_is deeper low begun is = may_inside cs m n h k d front open_is deeper low is
placed_inside cs m n h k front (at_end d tokens) open_is deeper low begun is = may_inside cs m n h k d front open_is deeper low is
placed_inside cs m n h k front (at_line d) open_is deeper low begun is = no_inside cs m n h k d front open_is deeper low begun is
placed_inside cs m n h k front (below d) open_is deeper low begun is = (goes_inside m n h k (IsPass d) front open_is deeper low is.0, lacks_inside m h k d front open_is deeper is.1)
placed_inside cs m n h k front no_line open_is deeper low begun is = goes_inside m n h k IsHandler front open_is deeper low is

none_inside : (within : Limits → Type 0) (m : Level) (n k : ℕ) (h : Head) (front : List Line) (p : Point) → opens h ≡ true → ((rest : List Line) → shows p rest → Begun k (front ++ rest)) → NoneRows within (inside m h k) n front p → NoneUnder within m n h front p
none_inside within m n k h front p open_is begun none q asks rest nothing s shows_it fits may_be edge same = absurd (false≢true (sym fits ∙ open_is))
none_inside within m n k h front p open_is begun none q asks rest (block j rows) s shows_it fits may_be edge same =
    let one : j ≡ k = one_indent j k (rows_lines rows ++ s) (front ++ rest) (begun_rows (inside m h j) rows s refl fits.2) (begun rest shows_it) same in
    none q asks rest rows s shows_it (subst (λ d. FitsRows (inside m h d) rows) one fits.2) (subst (λ d. rows_may q (inside m h d) n rows ≡ true) one (second (nat_le (suc m.depth) q.suites) _ may_be)) (subst (λ d. Below d s) one edge) same

limit_inside : (m : Level) (n k : ℕ) (h : Head) (front : List Line) (fault : Halt) (p : Point) → opens h ≡ true → m.indent < k → m.depth < 50 → ((rest : List Line) → shows p rest → Begun k (front ++ rest)) → RowsLimit (inside m h k) n front fault p
    → UnderLimit m n h front fault p
limit_inside m n k h front fault p open_is deeper low begun limit =
    limit_more (λ said. RowsBegin said (inside m h k) front) (λ said. UnderBegins said m h front) (λ is. RowsFollow (inside m h k) is front) (λ is. UnderFollows m h is front)
    (λ within d tokens. NoneRows within (inside m h k) n front (at_end d tokens)) (λ within d tokens. NoneUnder within m n h front (at_end d tokens)) (KeepsPass (inside m h k) n front) (KeepsPassUnder m n h front) (CountsFrom n front) (CountsFrom n front) fault p
    (λ said p b. begins_inside m h k front p open_is deeper b) (λ is f. follows_inside m h k is front open_is deeper f)
    (λ within d tokens at none. none_inside within m n k h front (at_end d tokens) open_is (λ rest shown. begun_there k d front p at begun rest (ends_begun d tokens rest shown)) none) (λ d tokens keeps. keeps_inside m n h k front d tokens open_is deeper low keeps) (λ number tokens o. o) limit

pub refused_inside : (cs : List ℕ) (m : Level) (n k : ℕ) (h : Head) (at : Pos) (lines : List Line) (fault : Halt) → opens h ≡ true → m.indent < k → m.depth < 50 → Refused (columns_under cs m) (inside m h k) n at lines fault
    → RefusedUnder cs m n h at lines fault
refused_inside cs m n k h at lines fault open_is deeper low r = record {
  front = r.front;
  behind = r.behind;
  point = r.point;
  lines_are = r.lines_are;
  shown = r.shown;
  marked = r.marked;
  limit = limit_inside m n k h r.front fault r.point open_is deeper low r.begun r.limit;
  placed = placed_inside (columns_under cs m) m n h k r.front r.point open_is deeper (omega (arith, low)) r.begun r.placed;
  begins = λ place. begins_inside m h k r.front r.point open_is deeper (r.begins place);
  reads = r.reads;
  few = r.few;
  shallow = lie_inside m n k h r.front open_is deeper low r.shallow;
  order = order_more (NonePass (inside m h k) n r.front) (NonePassUnder m n h r.front) (KeepsPass (inside m h k) n r.front) (KeepsPassUnder m n h r.front) r.point none_more keeps_more r.order;
  passes = there_more (NonePass (inside m h k) n r.front) (NonePassUnder m n h r.front) (KeepsPass (inside m h k) n r.front) (KeepsPassUnder m n h r.front) (halt_limit fault) r.point none_more keeps_more r.passes;
  none = none_inside (Asks fault) m n k h r.front r.point open_is r.begun r.none;
}
  where
    none_more : (d : ℕ) (tokens : List Token) → stands_at r.point d → NonePass (inside m h k) n r.front d tokens → NonePassUnder m n h r.front d tokens
    none_more d tokens here absent at = none_inside (λ q. ⊤) m n k h r.front (at_end d (tokens ++ keyword (codes "pass") at)) open_is
        (λ rest shown. begun_there k d r.front r.point here r.begun rest (ends_begun d (tokens ++ keyword (codes "pass") at) rest shown)) (absent at)

    keeps_more : (d : ℕ) (tokens : List Token) → KeepsPass (inside m h k) n r.front d tokens → KeepsPassUnder m n h r.front d tokens
    keeps_more d tokens keeps = keeps_inside m n h k r.front d tokens open_is deeper low keeps

not_above : (d k : ℕ) (x : List Line) → d < k → Begun k x → Below (suc d) x → ⊥
not_above d k [] less begun low = begun
not_above d k (line ∷ x) less begun low = absurd (omega (arith, less, begun, low))

-- the suite is missing
pub no_suite : (cs : List ℕ) (m : Level) (n : ℕ) (h : Head) (at : Pos) (lines : List Line) → opens h ≡ true → m.depth ≤ 50 → n ≤ 20000 → Below (suc m.indent) lines → RefusedUnder cs m n h at lines (BadIndent at)
no_suite cs m n h at lines open_is within few low = record {
  front = [];
  behind = lines;
  point = below (suc m.indent);
  lines_are = refl;
  shown = low;
  marked = refl;
  limit = tt;
  placed = (goes_inside m n h (suc m.indent) (IsPass (suc m.indent)) [] open_is (omega arith) within (pass_next (inside m h (suc m.indent)) n (suc m.indent) refl (omega arith)), inr (record { begins_suite = open_is; further = omega arith; globals_are = tt }));
  begins = λ place. begins_suite m h (below (suc m.indent)) open_is refl;
  reads = tt;
  few = few_here n few;
  shallow = inl refl;
  order = tt;
  passes = tt;
  none = none;
}
  where
    none : (q : Limits) → Asks (BadIndent at) q → (rest : List Line) (under : Under) (s : List Line) → Below (suc m.indent) rest → FitsUnder m h under → under_may q m n h under ≡ true → Edge under s → under_lines under ++ s ≡ rest → ⊥
    none q asks rest nothing s low fits may_be edge same = absurd (false≢true (sym fits ∙ open_is))
    none q asks rest (block j rows) s low fits may_be edge same = not_above m.indent j rest fits.1 (subst (Begun j) same (begun_rows (inside m h j) rows s refl fits.2)) low

-- it lies too deep
none_deeper : (q : Limits) (m : Level) (n : ℕ) (h : Head) (under : Under) → q.suites ≤ 50 → opens h ≡ true → 50 ≤ m.depth → FitsUnder m h under → under_may q m n h under ≡ true → ⊥
none_deeper q m n h nothing few open_is deep fits may_be = absurd (false≢true (sym fits ∙ open_is))
none_deeper q m n h (block j rows) few open_is deep fits may_be = let low = leb-true (suc m.depth) q.suites (first (nat_le (suc m.depth) q.suites) _ may_be) in absurd (omega (arith, few, deep, low))

pub too_deep_at : (cs : List ℕ) (m : Level) (n : ℕ) (h : Head) (at place : Pos) (line : Line) (lines : List Line) → opens h ≡ true → m.indent < line.indent → m.depth ≤ 50 → n ≤ 20000 → 50 ≤ m.depth → place ≡ first_place at line.tokens
    → ((t : Token) (ts : List Token) → line.tokens ≡ t ∷ ts → (is_stmt_kind t.kind ≡ true) × (n < 20000)) → RefusedUnder cs m n h at (line ∷ lines) (TooDeep place)
too_deep_at cs m n h at place line lines open_is deeper within few_so_far deep first fewer = by line.tokens refl
  where
    next : UnderGoesOn m n h (IsAt line.indent) []
    next = goes_inside m n h line.indent (IsAt line.indent) [] open_is deeper within (line_next (inside m h line.indent) n (λ lacks. absurd (false≢true lacks)))

    passes : Passes (λ is. UnderFollows m h is []) (λ d tokens. NoneUnder few_suites m n h [] (at_end d tokens)) line.indent []
    passes = record {
      at = no_spot;
      goes_on = follows_inside m h line.indent (λ other. IsLine other line.indent (keyword (codes "pass") no_spot)) [] open_is deeper
          (follows_pass (inside m h line.indent) (λ other. IsLine other line.indent (keyword (codes "pass") no_spot)) refl (record { indent_is = refl; tokens_are = refl }));
      none_so = λ q few rest under s shows_it fits may_be edge same. none_deeper q m n h under few open_is deep fits may_be;
    }

    by : (ts : List Token) → line.tokens ≡ ts → RefusedUnder cs m n h at (line ∷ lines) (TooDeep place)
    by [] is = record {
      front = [];
      behind = line ∷ lines;
      point = at_end line.indent [];
      lines_are = refl;
      shown = (refl, is);
      marked = first ∙ ap (first_place at) is;
      limit = (refl, passes);
      placed = inl next;
      begins = λ place. begins_suite m h (at_end line.indent []) open_is refl;
      reads = tt;
      few = few_here n few_so_far;
      shallow = inl refl;
      order = no_order (NonePassUnder m n h []) (KeepsPassUnder m n h []) line.indent;
      passes = tt;
      none = λ q asks rest under s shows_it fits may_be edge same. none_deeper q m n h under asks.1 open_is deep fits may_be;
    }
    by (t ∷ ts) is = record {
      front = [];
      behind = line ∷ lines;
      point = at_token line.indent [] t;
      lines_are = refl;
      shown = (refl, record { more = ts; tokens_are = is });
      marked = tt;
      limit = inr (first ∙ ap (first_place at) is, passes, (fewer t ts is).0, record { number = n + 1; counts_are = record { at = no_spot; next = simple_head (pass no_spot); next_is = refl; before = 0; counts = refl; number_is = omega arith }; within = (let less = (fewer t ts is).1 in omega (arith, less)) });
      placed = inl next;
      begins = λ place. begins_suite m h (at_token line.indent [] t) open_is refl;
      reads = first_reads (Some place) (at_token line.indent [] t) refl;
      few = few_here n few_so_far;
      shallow = inl refl;
      order = no_order (NonePassUnder m n h []) (KeepsPassUnder m n h []) line.indent;
      passes = tt;
      none = λ q asks rest under s shows_it fits may_be edge same. none_deeper q m n h under asks.1 open_is deep fits may_be;
    }

-- ---- at the end of a suite

leads_fits : (l m : Level) (rows : Rows) → Leads l rows m → is_done m ≡ true → FitsRows l rows
leads_fits l m end_rows leads done = subst (λ (k : Level). is_done k ≡ true) leads done
leads_fits l m (row line h under rest) leads done = (leads.0, leads.1, leads.2, leads_fits (after l h) m rest leads.3 done)

pub suite_fits : (l m : Level) (rows : Rows) → Leads l rows m → is_done m ≡ true → FitsRows l rows
suite_fits l m rows leads done = leads_fits l m rows leads done

edge_same : (rows : Rows) (a b : Line) (x y : List Line) → b.indent ≡ a.indent → LastEdge rows (a ∷ x) → LastEdge rows (b ∷ y)
edge_same end_rows a b x y is edge = tt
edge_same (row line h nothing end_rows) a b x y is edge = tt
edge_same (row line h (block k rows) end_rows) a b x y is edge = omega (arith, is, edge)
edge_same (row line h under (row line_2 h_2 under_2 rest)) a b x y is edge = edge_same (row line_2 h_2 under_2 rest) a b x y is edge

edge_nothing : (rows : Rows) → LastEdge rows []
edge_nothing end_rows = tt
edge_nothing (row line h nothing end_rows) = tt
edge_nothing (row line h (block k rows) end_rows) = tt
edge_nothing (row line h under (row line_2 h_2 under_2 rest)) = edge_nothing (row line_2 h_2 under_2 rest)

below_further : (d k : ℕ) (x : List Line) → d < k → Below d x → Below k x
below_further d k [] less low = tt
below_further d k (line ∷ x) less low = omega (arith, less, low)

edge_below : (l m : Level) (rows : Rows) (x : List Line) → Leads l rows m → Below l.indent x → LastEdge rows x
edge_below l m end_rows x leads low = tt
edge_below l m (row line h nothing end_rows) x leads low = tt
edge_below l m (row line h (block k rows) end_rows) x leads low = below_further l.indent k x leads.2.1 low
edge_below l m (row line h under (row line_2 h_2 under_2 rest)) x leads low = edge_below (after l h) m (row line_2 h_2 under_2 rest) x leads.3 low

-- nothing that stands at another indentation goes on with a suite, unless the suite may end before it
none_goes_on : (m : Level) (rest : List Line) (rows : Rows) (r : List Line) → FitsRows m rows → rows_lines rows ++ r ≡ rest → (Begun m.indent rest → ⊥) → (is_done m ≡ true → r ≡ rest → ⊥) → ⊥
none_goes_on m rest end_rows r fits same other ends = ends fits same
none_goes_on m rest (row line h under more) r fits same other ends = other (subst (Begun m.indent) same fits.0.indent_is)

-- a line that stands at another indentation, where the suite may not end
none_there : (m : Level) (line first : Line) (more : List Line) (rows : Rows) (r : List Line) → (line.indent ≡ m.indent → ⊥) → (is_done m ≡ true → line.indent < m.indent → ⊥) → first.indent ≡ line.indent → FitsRows m rows → Below m.indent r
    → rows_lines rows ++ r ≡ first ∷ more → ⊥
none_there m line first more rows r other ends is fits low same = none_goes_on m (first ∷ more) rows r fits same (λ begun. other (sym is ∙ begun))
    (λ done all. ends done (let lower : first.indent < m.indent = subst (Below m.indent) all low in omega (arith, is, lower)))

-- A line that stands at another indentation, which no suite around has, is refused for it where the suite may not end.
pub refused_indent : (cs : List ℕ) (m : Level) (n : ℕ) (at : Pos) (line : Line) (lines : List Line) → m.depth ≤ 50 → is_column line.indent cs ≡ false → (m.indent < line.indent) ⊎ (lacks_handler m.context.last ≡ true) → (line.indent ≡ m.indent → ⊥)
    → (is_done m ≡ true → line.indent < m.indent → ⊥) → RefusedHere cs m n at (line ∷ lines) (BadIndent (first_place at line.tokens))
refused_indent cs m n at line lines deep column further other ends = record {
  point = at_line line.indent;
  shown = refl;
  marked = refl;
  limit = tt;
  placed = record {
    around = λ is. false≢true (sym column ∙ is);
    here = other;
    inside = none_open line.indent;
    complete = complete (lacks_handler m.context.last) refl further;
    none = λ first more rows r is fits low same. none_there m line first more rows r other ends is fits low same;
  };
  before = refl;
  passes = tt;
  edge = λ rows rest shows_it l indent leads edge. edge_1 rows rest shows_it edge;
  none = λ q asks rest rows r shows_it fits may_be low same. none_1 rest rows r shows_it fits low same;
}
  where
    complete : (b : Bool) → lacks_handler m.context.last ≡ b → (m.indent < line.indent) ⊎ (lacks_handler m.context.last ≡ true) → RowsGoOn m n (IsPassBefore line.indent) [] ⊎ RowsGoOn m n IsHandler []
    complete true lacks further = inr (handler_next m n deep lacks)
    complete false lacks (inl deeper) = inl (pass_before m n line.indent lacks deeper)
    complete false lacks (inr lacks_it) = absurd (false≢true (sym lacks ∙ lacks_it))

    edge_1 : (rows : Rows) (rest : List Line) → shows (at_line line.indent) rest → LastEdge rows (line ∷ lines) → LastEdge rows rest
    edge_1 rows [] shows_it edge = absurd shows_it
    edge_1 rows (first ∷ more) shows_it edge = edge_same rows line first lines more shows_it edge

    none_1 : (rest : List Line) (rows : Rows) (r : List Line) → shows (at_line line.indent) rest → FitsRows m rows → Below m.indent r → rows_lines rows ++ r ≡ rest → ⊥
    none_1 [] rows r shows_it fits low same = absurd shows_it
    none_1 (first ∷ more) rows r shows_it fits low same = none_there m line first more rows r other ends shows_it fits low same

-- A line at the column of a suite around is refused at its first token, where a handler is missing.
pub refused_first : (cs : List ℕ) (m : Level) (n : ℕ) (at : Pos) (line : Line) (lines : List Line) (halt : Halt) → m.depth ≤ 50 → MarksFirst line.tokens lines at halt
    → is_column line.indent cs ≡ true → lacks_handler m.context.last ≡ true → (line.indent ≡ m.indent → ⊥) → (is_done m ≡ true → line.indent < m.indent → ⊥) → RefusedHere cs m n at (line ∷ lines) halt
refused_first cs m n at line lines halt deep marked column lacks other ends = by line.tokens halt refl marked
  where
    by : (ts : List Token) (halt : Halt) → line.tokens ≡ ts → MarksFirst ts lines at halt → RefusedHere cs m n at (line ∷ lines) halt
    by [] (AtEnd lines_left place) is mark = record {
      point = at_end line.indent [];
      shown = (refl, is);
      marked = mark;
      limit = tt;
      placed = inr (inl column, handler_next m n deep lacks);
      before = refl;
      passes = tt;
      edge = λ rows rest shows_it l indent leads edge. edge_1 rows rest shows_it edge;
      none = λ q asks rest rows r shows_it fits may_be low same. none_1 rest rows r shows_it fits low same;
    }
      where
        edge_1 : (rows : Rows) (rest : List Line) → shows (at_end line.indent []) rest → LastEdge rows (line ∷ lines) → LastEdge rows rest
        edge_1 rows [] shows_it edge = absurd shows_it
        edge_1 rows (first ∷ more) shows_it edge = edge_same rows line first lines more shows_it.0 edge

        none_1 : (rest : List Line) (rows : Rows) (r : List Line) → shows (at_end line.indent []) rest → FitsRows m rows → Below m.indent r → rows_lines rows ++ r ≡ rest → ⊥
        none_1 [] rows r shows_it fits low same = absurd shows_it
        none_1 (first ∷ more) rows r shows_it fits low same = none_there m line first more rows r other ends shows_it.0 fits low same
    by (t ∷ ts) (AtToken lines_left left) is mark = record {
      point = at_token line.indent [] t;
      shown = (refl, record { more = ts; tokens_are = is });
      marked = (mark.0, let counted = ap length is in let left_is = mark.1 in omega (arith, counted, left_is));
      limit = tt;
      placed = inr (inl column, handler_next m n deep lacks);
      before = refl;
      passes = record { edge = edge_at; none = none_at };
      edge = λ rows rest shows_it l indent leads edge. edge_1 rows rest shows_it edge;
      none = λ q asks rest rows r shows_it fits may_be low same. none_1 rest rows r shows_it fits low same;
    }
      where
        edge_at : (rows : Rows) (rest : List Line) → Begun line.indent rest → LastEdge rows (line ∷ lines) → LastEdge rows rest
        edge_at rows [] begun_it edge = absurd begun_it
        edge_at rows (first ∷ more) begun_it edge = edge_same rows line first lines more begun_it edge

        none_at : (rest : List Line) (rows : Rows) (r : List Line) → Begun line.indent rest → FitsRows m rows → Below m.indent r → rows_lines rows ++ r ≡ rest → ⊥
        none_at [] rows r begun_it fits low same = absurd begun_it
        none_at (first ∷ more) rows r begun_it fits low same = none_there m line first more rows r other ends begun_it fits low same

        edge_1 : (rows : Rows) (rest : List Line) → shows (at_token line.indent [] t) rest → LastEdge rows (line ∷ lines) → LastEdge rows rest
        edge_1 rows [] shows_it edge = absurd shows_it
        edge_1 rows (first ∷ more) shows_it edge = edge_same rows line first lines more shows_it.0 edge

        none_1 : (rest : List Line) (rows : Rows) (r : List Line) → shows (at_token line.indent [] t) rest → FitsRows m rows → Below m.indent r → rows_lines rows ++ r ≡ rest → ⊥
        none_1 [] rows r shows_it fits low same = absurd shows_it
        none_1 (first ∷ more) rows r shows_it fits low same = none_there m line first more rows r other ends shows_it.0 fits low same
    by [] (AtToken lines_left left) is mark = absurd mark
    by (t ∷ ts) (AtEnd lines_left place) is mark = absurd mark
    by [] (NoLine place) is mark = absurd mark
    by (t ∷ ts) (NoLine place) is mark = absurd mark
    by [] (BadIndent place) is mark = absurd mark
    by (t ∷ ts) (BadIndent place) is mark = absurd mark
    by [] (TooDeep place) is mark = absurd mark
    by (t ∷ ts) (TooDeep place) is mark = absurd mark
    by [] (TooMany place) is mark = absurd mark
    by (t ∷ ts) (TooMany place) is mark = absurd mark
    by [] Memory is mark = absurd mark
    by (t ∷ ts) Memory is mark = absurd mark

-- the lines end where the suite may not
pub refused_nothing : (cs : List ℕ) (m : Level) (n : ℕ) (at : Pos) → m.depth ≤ 50 → lacks_handler m.context.last ≡ true → (is_done m ≡ true → ⊥) → RefusedHere cs m n at [] (NoLine at)
refused_nothing cs m n at deep lacks ends = record {
  point = no_line;
  shown = tt;
  marked = refl;
  limit = tt;
  placed = handler_next m n deep lacks;
  before = refl;
  passes = tt;
  edge = λ rows rest shows_it l indent leads edge. edge_1 rows rest shows_it;
  none = λ q asks rest rows r shows_it fits may_be low same. none_1 rest rows r shows_it fits same;
}
  where
    edge_1 : (rows : Rows) (rest : List Line) → shows no_line rest → LastEdge rows rest
    edge_1 rows [] shows_it = edge_nothing rows
    edge_1 rows (first ∷ more) shows_it = absurd shows_it

    none_1 : (rest : List Line) (rows : Rows) (r : List Line) → shows no_line rest → FitsRows m rows → rows_lines rows ++ r ≡ rest → ⊥
    none_1 [] rows r shows_it fits same = none_goes_on m [] rows r fits same (λ begun. begun) (λ done all. ends done)
    none_1 (first ∷ more) rows r shows_it fits same = absurd shows_it

-- a statement is missing
pub refused_empty : (cs : List ℕ) (m : Level) (n : ℕ) (at : Pos) (lines : List Line) → Below m.indent lines → lacks_handler m.context.last ≡ false → m.has_stmt ≡ false → (is_done m ≡ true → ⊥) → RefusedHere cs m n at lines (BadIndent at)
refused_empty cs m n at lines low lacks empty ends = record {
  point = below m.indent;
  shown = low;
  marked = refl;
  limit = tt;
  placed = (pass_next m n m.indent lacks (omega arith), inr (record { empty = empty; indent_is = refl; of_def = inr refl; globals_are = tt }));
  before = refl;
  passes = tt;
  edge = λ rows rest shows_it l indent leads edge. edge_below l m rows rest leads (subst (λ d. Below d rest) (sym indent) shows_it);
  none = λ q asks rest rows r shows_it fits may_be lower same. none_goes_on m rest rows r fits same (λ begun. not_below m.indent rest begun shows_it) (λ done all. ends done);
}
