-- The parts of the cycle that reads lines: what is known of a line, and what follows of what stands under it.
use Rattle.std.proofs.Common.{◌≡◌, ◌⊎◌, inl, inr, ℕ, ◌+◌, ◌<◌, ◌≤◌, suc, Bool, true, false, ◌&&◌, ◌||◌, not, List, [], ◌∷◌, ◌++◌, length, Option, Some, None, Result, Ok, Err, IfOk, is_none, refl, ap, sym, ◌∙◌, subst, arith}
use Rattle.std.specs.Prelude.{slice_get}
use Rattle.std.proofs.lemmas.Bool.{false≢true, eqb-true}
use Rattle.std.proofs.lemmas.Option.{same_Some}
use Rattle.prov_base.specs.declared.place.Pos.{Pos}
use Rattle.py_lines.specs.declared.parts.Line.{Line}
use Rattle.py_grammar.specs.declared.around.Around.{Around}
use Rattle.py_grammar.specs.declared.context.Last.{Last}
use Rattle.py_parser.specs.declared.fault.Halt.{Halt}
use Rattle.py_parser.specs.declared.fault.Halt.TheVariants.{AtToken, AtEnd, NoLine, BadIndent, TooDeep, TooMany, Memory}
use Rattle.py_grammar.specs.declared.head.Behind.{Behind}
use Rattle.py_grammar.specs.declared.head.LineHead.{LineHead}
use Rattle.py_grammar.specs.Written.{Simple}
use Rattle.py_grammar.specs.LineReader.{Head, simple_head, if_head, elif_head, else_head, while_head, for_head, try_head, except_head, with_head, def_head, class_head, global_head}
use Rattle.py_grammar.specs.Follows.{Below}
use Rattle.py_grammar.specs.ParsedSimple.{around_of}
use Rattle.py_grammar.specs.ParsedHead.{IsBehind, behind_in, lacks_handler, word_may, head_stands}
use Rattle.py_parser.specs.declared.blocks.Place.{Place}
use Rattle.py_parser.specs.declared.blocks.Built.{Built}
use Rattle.py_grammar.specs.Limits.{profile}
use Rattle.py_parser.specs.Faults.{last_place}
use Rattle.py_parser.specs.Rows.{inside, may, Level, counted, is_global, is_def, head_around, head_given, opens, last_after, lets_declare, rows_lines}
use Rattle.py_parser.specs.RowForms.{suite_list, grown, declared}
use Rattle.py_parser.specs.ParsedBlocks.{level_of, level_at, is_here, trees_of, IsShallow, IsUnderOf, Standing, RowsRead, LineRead, UnderRead, RowRead, RowsStopped, RefusedUnder, UnderStopped, LineStopped, IsHead, BeyondSuites}
use Rattle.py_parser.proofs.RowRefusals.{no_suite}
use Rattle.py_parser.proofs.Beyond.{beyond}
use Rattle.py_parser.proofs.RowNeeds.{head_standing}
use Rattle.py_parser.proofs.UnderParts.{few_of, counted_alone, line_stopped, row_stopped, row_read, inner_level, suite_read, suite_stopped}

-- the next line stands here
here_is : (d : ℕ) (before : List Line) (line : Line) (lines : List Line) → before ≡ line ∷ lines → is_here d before ≡ true → line.indent ≡ d
here_is d before line lines is here = eqb-true line.indent d (sym (ap (is_here d) is) ∙ here)

pub line_stopped_there : (cs : List ℕ) (m : Level) (n : ℕ) (at : Pos) (before : List Line) (line : Line) (lines : List Line) (fault : Halt) → m.depth ≤ 50 → n ≤ 20000 → before ≡ line ∷ lines → is_here m.indent before ≡ true → LineStopped m n at line lines fault → RowsStopped cs m n at before fault
line_stopped_there cs m n at before line lines fault deep few is here stopped =
    subst (λ (ls : List Line). RowsStopped cs m n at ls fault) (sym is) (line_stopped cs m n at line lines fault deep few (here_is m.indent before line lines is here) stopped)

-- what stands under a line is read where the line stands
under_of : (p : Place) (given : List (List ℕ)) (n middle : ℕ) (line : Line) (built : Built) (head : LineHead) → (l : LineRead (level_at p given built) n line head middle) → IsUnderOf p middle (level_at p given built) n l.written
under_of p given n middle line built head l = record { indent_is = refl; depth_is = refl; around_is = refl; count_is = l.count_is; may_be = l.may_be }

pub under_stopped_there : (cs ds : List ℕ) (p : Place) (given : List (List ℕ)) (n middle : ℕ) (at there : Pos) (before : List Line) (line : Line) (lines : List Line) (built : Built) (head : LineHead) (fault : Halt) → p.depth ≤ 50 → ds ≡ cs → before ≡ line ∷ lines
    → is_here p.indent before ≡ true → there ≡ last_place at line.tokens → LineRead (level_at p given built) n line head middle → IsShallow (level_at p given built)
    → ((m : Level) (k : ℕ) (h : Head) → IsShallow m → IsUnderOf p middle m k h → IsHead head.what line h → IsBehind head.behind (behind_in h) → UnderStopped ds m (k + counted h) h there lines fault)
    → RowsStopped cs (level_at p given built) n at before fault
under_stopped_there cs ds p given n middle at there before line lines built head fault deep columns is here there_is l shallow stopped =
    subst (λ (ls : List Line). RowsStopped cs (level_at p given built) n at ls fault) (sym is)
    (row_stopped cs (level_at p given built) n l.written at line lines fault (record { indent_is = here_is p.indent before line lines is here; tokens_are = l.tokens_are }) l.follows_is l.may_be deep
    (subst (λ (q : Pos). UnderStopped cs (level_at p given built) (n + counted l.written) l.written q lines fault) there_is
    (subst (λ (xs : List ℕ). UnderStopped xs (level_at p given built) (n + counted l.written) l.written there lines fault) columns
    (stopped (level_at p given built) n l.written shallow (under_of p given n middle line built head l) (l.what_is, l.tokens_are) l.behind_is))))

-- the level behind a line
abbrev level_by : Place → List (List ℕ) → Last → Bool → Bool → Level
level_by p given last may_declare has_stmt = record {
  indent = p.indent;
  depth = p.depth;
  context = record { around = around_of p.around; last = last; may_declare = may_declare };
  of_def = p.of_def;
  given = given;
  has_stmt = has_stmt;
}

level_same : (p : Place) (given : List (List ℕ)) (a b : Last) (x y s t : Bool) → a ≡ b → x ≡ y → s ≡ t → level_by p given a x s ≡ level_by p given b y t
level_same p given a b x y s t one two three = ap (λ z. level_by p given z x s) one ∙ ap (λ z. level_by p given b z s) two ∙ ap (λ z. level_by p given b y z) three

pub row_found : (p : Place) (given : List (List ℕ)) (n middle next : ℕ) (at there now : Pos) (before : List Line) (line : Line) (lines left : List Line) (old under : Built) (head : LineHead) (result : Result Built Halt) → before ≡ line ∷ lines
    → is_here p.indent before ≡ true → there ≡ last_place at line.tokens → LineRead (level_at p given old) n line head middle
    → ((m : Level) (k : ℕ) (h : Head) → IsUnderOf p middle m k h → IsHead head.what line h → IsBehind head.behind (behind_in h) → UnderRead m k h line.span.to there lines under next now left)
    → ((h : Head) → IsHead head.what line h → IfOk result (λ more. trees_of more ≡ grown n h (suite_list (trees_of under)) under.globals.items under.to (trees_of old)))
    → ((h : Head) → IsHead head.what line h → IfOk result (λ more. more.globals.items ≡ old.globals.items ++ declared h)) → IfOk result (λ more. more.to ≡ under.to)
    → ((h : Head) → IsHead head.what line h → IfOk result (λ more. more.last ≡ last_after h)) → ((h : Head) → IsHead head.what line h → IfOk result (λ more. more.may_declare ≡ (old.may_declare && lets_declare h)))
    → ((h : Head) → IsHead head.what line h → IfOk result (λ more. more.has_stmt ≡ (old.has_stmt || not (is_global h))))
    → IfOk result (λ more. RowRead (level_at p given old) n at before old more (level_at p given more) next now left)
row_found p given n middle next at there now before line lines left old under head (Err fault) is here there_is l read trees globals end last declares stmt = tt
row_found p given n middle next at there now before line lines left old under head (Ok more) is here there_is l read trees globals end last declares stmt =
    let so : IsHead head.what line l.written = (l.what_is, l.tokens_are) in
    subst (λ (ls : List Line). RowRead (level_at p given old) n at ls old more (level_at p given more) next now left) (sym is)
    (row_read p given n middle next at now line lines left old more under head l (here_is p.indent before line lines is here)
    (subst (λ (q : Pos). UnderRead (level_at p given old) n l.written line.span.to q lines under next now left) there_is
    (read (level_at p given old) n l.written (under_of p given n middle line old head l) so l.behind_is))
    (trees l.written so) (globals l.written so) end (level_same p given more.last (last_after l.written) more.may_declare (old.may_declare && lets_declare l.written) more.has_stmt (old.has_stmt || not (is_global l.written)) (last l.written so) (declares l.written so) (stmt l.written so)))

-- ---- the loop

lengths : (a b : List Line) → length (a ++ b) ≡ length a + length b
lengths [] b = omega arith
lengths (x ∷ a) b = let more = lengths a b in omega (arith, more)

pub standing_shorter : (l m : Level) (n count : ℕ) (at now : Pos) (before left : List Line) (built : Built) → Standing l n at before m built count now left → length left ≤ length before
standing_shorter l m n count at now before left built s = let one = ap length s.lines_are in let two = lengths (rows_lines s.rows) left in omega (arith, one, two)

-- ---- the suite on the lines below

pub no_first : (ls : List Line) → None ≡ slice_get ls 0 → ls ≡ []
no_first [] is = refl
no_first (line ∷ ls) is = cc

pub some_first : (ls : List Line) (line : Line) → Some line ≡ slice_get ls 0 → (rest : List Line) × (ls ≡ line ∷ rest)
some_first [] line is = cc
some_first (other ∷ ls) line is = (ls, ap (λ (l : Line). l ∷ ls) (sym (same_Some line other is)))

nothing_behind : (b : Option Simple) → is_none b ≡ true → IsBehind None b
nothing_behind None is = tt
nothing_behind (Some s) is = absurd (false≢true is)

pub none_behind : (h : Head) → opens h ≡ true → IsBehind None (behind_in h)
none_behind (simple_head s) is = absurd (false≢true is)
none_behind (if_head at test colon b) is = nothing_behind b is
none_behind (elif_head at test colon b) is = nothing_behind b is
none_behind (else_head at colon b) is = nothing_behind b is
none_behind (while_head at test colon b) is = nothing_behind b is
none_behind (for_head at t in_word e colon b) is = nothing_behind b is
none_behind (try_head at colon b) is = nothing_behind b is
none_behind (except_head at kind colon b) is = nothing_behind b is
none_behind (with_head at e called colon b) is = nothing_behind b is
none_behind (def_head at name_at bytes opening names closing colon b) is = nothing_behind b is
none_behind (class_head at name_at bytes of colon b) is = nothing_behind b is
none_behind (global_head at names) is = absurd (false≢true is)

within : (p : Place) (count : ℕ) (m : Level) (n : ℕ) (h : Head) → p.depth ≤ 50 → IsUnderOf p count m n h → m.depth ≤ 50
within p count m n h low u = subst (λ d. d ≤ 50) (sym u.depth_is) low

-- no line follows
pub no_line_below : (cs : List ℕ) (p : Place) (count : ℕ) (m : Level) (n : ℕ) (h : Head) (at : Pos) (lines : List Line) → p.depth ≤ 50 → lines ≡ [] → IsUnderOf p count m n h → opens h ≡ true → RefusedUnder cs m (n + counted h) h at lines (BadIndent at)
no_line_below cs p count m n h at lines low none u open_is = no_suite cs m (n + counted h) h at lines open_is (within p count m n h low u) (few_of m n h u.may_be) (subst (Below (suc m.indent)) (sym none) tt)

-- the next line is indented no more than the one before
pub not_below : (cs : List ℕ) (p : Place) (count : ℕ) (m : Level) (n : ℕ) (h : Head) (at : Pos) (line : Line) (rest lines : List Line) → p.depth ≤ 50 → lines ≡ line ∷ rest → IsUnderOf p count m n h → line.indent ≤ p.indent → opens h ≡ true
    → RefusedUnder cs m (n + counted h) h at lines (BadIndent at)
not_below cs p count m n h at line rest lines shallow is u low open_is =
    no_suite cs m (n + counted h) h at lines open_is (within p count m n h shallow u) (few_of m n h u.may_be) (subst (Below (suc m.indent)) (sym is) (let same = u.indent_is in omega (arith, low, same)))

is_alone : (b : Option Simple) → IsBehind None b → b ≡ None
is_alone None there = refl
is_alone (Some s) there = absurd there

-- a line that may stand at this level
stands_there : (m : Level) (n : ℕ) (h : Head) → may profile m n h ≡ true → head_stands m.context m.given h ≡ true
stands_there m n h is = head_standing profile m n h is

both_are : (a b : Bool) → (a && b) ≡ true → (a ≡ true) × (b ≡ true)
both_are true b is = (refl, is)
both_are false b is = absurd (false≢true is)

one_is : (a b : Bool) → (a || b) ≡ true → (a ≡ true) ⊎ (b ≡ true)
one_is true b is = inl refl
one_is false b is = inr is

-- a `def` stands directly in the script or in a class, so it does not lie deep
no_def : (m : Level) (h : Head) → head_stands m.context m.given h ≡ true → IsShallow m → 50 ≤ m.depth → is_def h ≡ false
no_def m (simple_head s) stands shallow deep = refl
no_def m (if_head at test colon b) stands shallow deep = refl
no_def m (elif_head at test colon b) stands shallow deep = refl
no_def m (else_head at colon b) stands shallow deep = refl
no_def m (while_head at test colon b) stands shallow deep = refl
no_def m (for_head at t in_word e colon b) stands shallow deep = refl
no_def m (try_head at colon b) stands shallow deep = refl
no_def m (except_head at kind colon b) stands shallow deep = refl
no_def m (with_head at e called colon b) stands shallow deep = refl
no_def m (class_head at name_at bytes of colon b) stands shallow deep = refl
no_def m (global_head at names) stands shallow deep = refl
no_def m (def_head at name_at bytes opening names closing colon b) stands shallow deep =
    elim (one_is m.context.around.at_module_level m.context.around.in_class (both_are (not (lacks_handler m.context.last)) _ (both_are (word_may m.context 11) _ (both_are _ _ stands).0).0).1) [
      | inl top ↦ absurd (let none = shallow.0 top in omega (arith, none, deep))
      | inr methods ↦ absurd (let low = shallow.1 methods in omega (arith, low, deep))
    ]

-- the suite of a `class` lies in no other
shallow_inside : (m : Level) (h : Head) (k : ℕ) → head_stands m.context m.given h ≡ true → IsShallow m → IsShallow (inside m h k)
shallow_inside m (simple_head s) k stands shallow = (λ is. absurd (false≢true is), λ is. absurd (false≢true is))
shallow_inside m (if_head at test colon b) k stands shallow = (λ is. absurd (false≢true is), λ is. absurd (false≢true is))
shallow_inside m (elif_head at test colon b) k stands shallow = (λ is. absurd (false≢true is), λ is. absurd (false≢true is))
shallow_inside m (else_head at colon b) k stands shallow = (λ is. absurd (false≢true is), λ is. absurd (false≢true is))
shallow_inside m (while_head at test colon b) k stands shallow = (λ is. absurd (false≢true is), λ is. absurd (false≢true is))
shallow_inside m (for_head at t in_word e colon b) k stands shallow = (λ is. absurd (false≢true is), λ is. absurd (false≢true is))
shallow_inside m (try_head at colon b) k stands shallow = (λ is. absurd (false≢true is), λ is. absurd (false≢true is))
shallow_inside m (except_head at kind colon b) k stands shallow = (λ is. absurd (false≢true is), λ is. absurd (false≢true is))
shallow_inside m (with_head at e called colon b) k stands shallow = (λ is. absurd (false≢true is), λ is. absurd (false≢true is))
shallow_inside m (def_head at name_at bytes opening names closing colon b) k stands shallow = (λ is. absurd (false≢true is), λ is. absurd (false≢true is))
shallow_inside m (global_head at names) k stands shallow = (λ is. absurd (false≢true is), λ is. absurd (false≢true is))
shallow_inside m (class_head at name_at bytes of colon b) k stands shallow =
    (λ is. absurd (false≢true is), λ is. let none = shallow.0 (both_are (not (lacks_handler m.context.last)) _ (both_are (word_may m.context 9) _ stands).0).1 in omega (arith, none))

pub beyond_below : (cs : List ℕ) (p : Place) (count : ℕ) (m : Level) (n : ℕ) (h : Head) (at : Pos) (line : Line) (rest lines : List Line) (halt : Halt) → p.depth ≤ 50 → lines ≡ line ∷ rest → IsShallow m → IsUnderOf p count m n h → p.indent < line.indent → 50 ≤ p.depth → opens h ≡ true
    → BeyondSuites count at line rest halt → UnderStopped cs m (n + counted h) h at lines halt
beyond_below cs p count m n h at line rest lines halt low is shallow u deeper deep open_is why =
    let far : 50 ≤ m.depth = (let same = u.depth_is in omega (arith, deep, same)) in
    stops halt (subst (λ (ls : List Line). RefusedUnder cs m (n + counted h) h at ls halt) (sym is)
    (beyond cs m (n + counted h) h at line rest open_is (let same = u.indent_is in omega (arith, deeper, same)) (within p count m n h low u) (few_of m n h u.may_be) far (no_def m h (stands_there m n h u.may_be) shallow far) halt
    (subst (λ k. BeyondSuites k at line rest halt) (u.count_is ∙ sym (counted_alone n h (is_alone (behind_in h) (none_behind h open_is)))) why)))
  where
    stops : (halt : Halt) → RefusedUnder cs m (n + counted h) h at lines halt → UnderStopped cs m (n + counted h) h at lines halt
    stops (AtToken lines_left left) r = r
    stops (AtEnd lines_left place) r = r
    stops (NoLine place) r = r
    stops (BadIndent place) r = r
    stops (TooDeep place) r = r
    stops (TooMany place) r = r
    stops Memory r = tt

-- where the lines of the suite stand
abbrev pub inner_place : ℕ → ℕ → Around → Bool → Place
inner_place indent depth around def = record { indent = indent; depth = depth; around = around; of_def = def }

pub suite_stopped_there : (cs ds : List ℕ) (p q : Place) (given : List (List ℕ)) (count : ℕ) (m : Level) (n : ℕ) (h : Head) (at : Pos) (lines : List Line) (fault : Halt) → p.depth < 50 → IsShallow m → IsUnderOf p count m n h → opens h ≡ true → q.depth ≡ p.depth + 1
    → around_of q.around ≡ head_around (around_of p.around) h → q.of_def ≡ is_def h → given ≡ head_given h → p.indent < q.indent → ds ≡ cs ++ p.indent ∷ [] → (IsShallow (level_of q given) → RowsStopped ds (level_of q given) count at lines fault)
    → UnderStopped cs m (n + counted h) h at lines fault
suite_stopped_there cs ds p q given count m n h at lines fault low shallow u open_is depth around def params deeper columns stopped =
    suite_stopped cs p q.indent n count m h at lines fault u (none_behind h open_is) open_is (let same = u.indent_is in omega (arith, deeper, same)) (let same = u.depth_is in omega (arith, low, same))
    (subst (λ (xs : List ℕ). RowsStopped xs (inside m h q.indent) count at lines fault) (columns ∙ ap (λ d. cs ++ d ∷ []) (sym u.indent_is))
    (subst (λ (l : Level). RowsStopped ds l count at lines fault) (inner_level p q given m n count h u depth around def params)
    (stopped (subst (λ (l : Level). IsShallow l) (sym (inner_level p q given m n count h u depth around def params)) (shallow_inside m h q.indent (stands_there m n h u.may_be) shallow)))))

pub suite_read_there : (p q : Place) (given : List (List ℕ)) (count next to : ℕ) (m : Level) (n : ℕ) (h : Head) (at now : Pos) (lines left : List Line) (built : Built) → IsUnderOf p count m n h → opens h ≡ true → q.depth ≡ p.depth + 1
    → around_of q.around ≡ head_around (around_of p.around) h → q.of_def ≡ is_def h → given ≡ head_given h → p.indent < q.indent → p.depth < 50 → RowsRead (level_of q given) count at lines built next now left
    → UnderRead m n h to at lines built next now left
suite_read_there p q given count next to m n h at now lines left built u open_is depth around def params deeper low read =
    suite_read p q.indent n count next to m h at now lines left built u (none_behind h open_is) open_is (let same = u.indent_is in omega (arith, deeper, same)) (let same = u.depth_is in omega (arith, low, same))
    (subst (λ (l : Level). RowsRead l count at lines built next now left) (inner_level p q given m n count h u depth around def params) read)

-- ---- what stands behind the `:`, or nothing

pub same_behind : (o : Option Behind) (b : Behind) (h : Head) → o ≡ Some b → IsBehind o (behind_in h) → IsBehind (Some b) (behind_in h)
same_behind o b h is there = subst (λ x. IsBehind x (behind_in h)) is there

pub no_behind : (o : Option Behind) (h : Head) → o ≡ None → IsBehind o (behind_in h) → IsBehind None (behind_in h)
no_behind o h is there = subst (λ x. IsBehind x (behind_in h)) is there

pub is_none_behind : (b : Option Simple) → IsBehind None b → is_none b ≡ true
is_none_behind None there = refl
is_none_behind (Some s) there = absurd there
