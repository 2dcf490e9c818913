-- Where the lines of a suite may not end.
use Rattle.std.proofs.Common.{◌≡◌, inl, inr, ℕ, ◌<◌, ◌≤◌, ◌==◌, Bool, true, false, ◌&&◌, not, List, [], ◌∷◌, length, suc, refl, ap, sym, ◌∙◌, subst, arith}
use Rattle.std.proofs.lemmas.Bool.{false≢true, eqb-false}
use Rattle.prov_base.specs.declared.place.Pos.{Pos}
use Rattle.py_lines.specs.declared.parts.Line.{Line}
use Rattle.py_lines.specs.declared.parts.Token.{Token}
use Rattle.py_parser.specs.declared.blocks.Place.{Place}
use Rattle.py_parser.specs.declared.blocks.Built.{Built}
use Rattle.py_grammar.specs.declared.context.Last.{Last}
use Rattle.py_grammar.specs.declared.context.Last.TheVariants.{Nothing, Loop, If, Try, Handler, Every}
use Rattle.py_parser.specs.declared.fault.Halt.{Halt}
use Rattle.py_parser.specs.declared.fault.Halt.TheVariants.{AtToken, AtEnd, NoLine, BadIndent, TooDeep, TooMany, Memory}
use Rattle.py_grammar.specs.Follows.{Below}
use Rattle.py_grammar.specs.ParsedHead.{lacks_handler}
use Rattle.py_parser.specs.Rows.{is_done}
use Rattle.py_parser.specs.Faults.{first_place}
use Rattle.py_parser.specs.ParsedBlocks.{is_column, AreBelow, level_at, is_here, RefusedHere, NotClosed, MarksFirst, IsNoHandler}
use Rattle.py_parser.proofs.Columns.{not_column}
use Rattle.py_parser.proofs.RowRefusals.{refused_indent, refused_first, refused_nothing, refused_empty}

lacks_done : (p : Place) (b : Built) (given : List (List ℕ)) → b.last ≡ Try → is_done (level_at p given b) ≡ true → ⊥
lacks_done p b given is done = by b.has_stmt (sym (ap (λ l. b.has_stmt && not (lacks_handler l)) is) ∙ done)
  where
    by : (a : Bool) → (a && false) ≡ true → ⊥
    by true no_way = absurd (false≢true no_way)
    by false no_way = absurd (false≢true no_way)

empty_done : (p : Place) (b : Built) (given : List (List ℕ)) → b.has_stmt ≡ false → is_done (level_at p given b) ≡ true → ⊥
empty_done p b given is done = absurd (false≢true (sym (ap (λ a. a && not (lacks_handler b.last)) is) ∙ done))

lacks : (p : Place) (b : Built) (given : List (List ℕ)) → b.last ≡ Try → lacks_handler (level_at p given b).context.last ≡ true
lacks p b given is = ap lacks_handler is

pub lacks_end : (cs : List ℕ) (p : Place) (b : Built) (at : Pos) (lines : List Line) → lines ≡ [] → b.last ≡ Try → NotClosed cs p b at lines (NoLine at)
lacks_end cs p b at lines is last = record {
  there = λ given n within. subst (λ ls. RefusedHere cs (level_at p given b) n at ls (NoLine at)) (sym is) (refused_nothing cs (level_at p given b) n at within (lacks p b given last) (lacks_done p b given last));
  other = λ same. cc;
}

-- what is no `try` lacks no handler
no_try : (last : Last) → (last ≡ Try → ⊥) → lacks_handler last ≡ false
no_try Nothing other = refl
no_try Loop other = refl
no_try If other = refl
no_try Try other = absurd (other refl)
no_try Handler other = refl
no_try Every other = refl

pub empty_end : (cs : List ℕ) (p : Place) (b : Built) (at : Pos) (lines : List Line) → Below p.indent lines → (b.last ≡ Try → ⊥) → b.has_stmt ≡ false → NotClosed cs p b at lines (BadIndent at)
empty_end cs p b at lines low other is = record {
  there = λ given n within. refused_empty cs (level_at p given b) n at lines low (no_try b.last other) is (empty_done p b given is);
  other = λ same. cc;
}

pub deeper : (cs : List ℕ) (p : Place) (b : Built) (at : Pos) (line : Line) (lines all : List Line) → AreBelow p.indent cs → all ≡ line ∷ lines → p.indent < line.indent → NotClosed cs p b at all (BadIndent (first_place at line.tokens))
deeper cs p b at line lines all columns is less = record {
  there = λ given n within. subst (λ ls. RefusedHere cs (level_at p given b) n at ls (BadIndent (first_place at line.tokens))) (sym is)
      (refused_indent cs (level_at p given b) n at line lines within (not_column p.indent line.indent cs (omega (arith, less)) columns) (inl less) (λ same. absurd (omega (arith, less, same))) (λ done lower. absurd (omega (arith, less, lower))));
  other = λ same. cc;
}

-- a line that stands elsewhere
elsewhere : (d : ℕ) (line : Line) (lines all : List Line) → all ≡ line ∷ lines → is_here d all ≡ false → line.indent ≡ d → ⊥
elsewhere d line lines all is other same = by (line.indent == d) refl
  where
    by : (b : Bool) → (line.indent == d) ≡ b → ⊥
    by true here = absurd (let no : true ≡ false = sym here ∙ sym (ap (is_here d) is) ∙ other in cc)
    by false there = eqb-false line.indent d there same

-- only a token or the end of a line is marked so
never_first : (tokens : List Token) (lines : List Line) (at : Pos) (halt : Halt) → ((k l : ℕ) → halt ≡ AtToken k l → ⊥) → ((k : ℕ) (place : Pos) → halt ≡ AtEnd k place → ⊥) → MarksFirst tokens lines at halt → ⊥
never_first [] lines at (AtEnd k place) no_token no_end first = no_end k place refl
never_first [] lines at (AtToken k l) no_token no_end first = first
never_first [] lines at (NoLine place) no_token no_end first = first
never_first [] lines at (BadIndent place) no_token no_end first = first
never_first [] lines at (TooDeep place) no_token no_end first = first
never_first [] lines at (TooMany place) no_token no_end first = first
never_first [] lines at Memory no_token no_end first = first
never_first (t ∷ ts) lines at (AtToken k l) no_token no_end first = no_token k l refl
never_first (t ∷ ts) lines at (AtEnd k place) no_token no_end first = first
never_first (t ∷ ts) lines at (NoLine place) no_token no_end first = first
never_first (t ∷ ts) lines at (BadIndent place) no_token no_end first = first
never_first (t ∷ ts) lines at (TooDeep place) no_token no_end first = first
never_first (t ∷ ts) lines at (TooMany place) no_token no_end first = first
never_first (t ∷ ts) lines at Memory no_token no_end first = first

pub no_handler_at : (cs : List ℕ) (p : Place) (b : Built) (at : Pos) (line : Line) (lines all : List Line) (fault : Halt) → all ≡ line ∷ lines → is_here p.indent all ≡ false → b.last ≡ Try
    → IsNoHandler cs line lines at fault → NotClosed cs p b at all fault
no_handler_at cs p b at line lines all (AtToken lines_left left) is other last marked = record {
  there = λ given n within. subst (λ ls. RefusedHere cs (level_at p given b) n at ls (AtToken lines_left left)) (sym is)
      (refused_first cs (level_at p given b) n at line lines (AtToken lines_left left) within marked.0 marked.1 (lacks p b given last) (elsewhere p.indent line lines all is other) (λ done lower. lacks_done p b given last done));
  other = λ same. cc;
}
no_handler_at cs p b at line lines all (AtEnd lines_left place) is other last marked = record {
  there = λ given n within. subst (λ ls. RefusedHere cs (level_at p given b) n at ls (AtEnd lines_left place)) (sym is)
      (refused_first cs (level_at p given b) n at line lines (AtEnd lines_left place) within marked.0 marked.1 (lacks p b given last) (elsewhere p.indent line lines all is other) (λ done lower. lacks_done p b given last done));
  other = λ same. cc;
}
no_handler_at cs p b at line lines all (BadIndent place) is other last marked = record {
  there = λ given n within. subst (λ ls. RefusedHere cs (level_at p given b) n at ls (BadIndent place)) (sym is)
      (subst (λ q. RefusedHere cs (level_at p given b) n at (line ∷ lines) (BadIndent q)) (sym marked.0)
      (refused_indent cs (level_at p given b) n at line lines within marked.1 (inr (lacks p b given last)) (elsewhere p.indent line lines all is other) (λ done lower. lacks_done p b given last done)));
  other = λ same. cc;
}
no_handler_at cs p b at line lines all (NoLine place) is other last marked = absurd (never_first line.tokens lines at (NoLine place) (λ k l same. cc) (λ k q same. cc) marked.0)
no_handler_at cs p b at line lines all (TooDeep place) is other last marked = absurd (never_first line.tokens lines at (TooDeep place) (λ k l same. cc) (λ k q same. cc) marked.0)
no_handler_at cs p b at line lines all (TooMany place) is other last marked = absurd (never_first line.tokens lines at (TooMany place) (λ k l same. cc) (λ k q same. cc) marked.0)
no_handler_at cs p b at line lines all Memory is other last marked = absurd (never_first line.tokens lines at Memory (λ k l same. cc) (λ k q same. cc) marked.0)

-- a line where a handler has to stand, at the column of a suite around
pub no_handler_first : (cs : List ℕ) (line : Line) (lines : List Line) (before : Pos) (halt : Halt) → MarksFirst line.tokens lines before halt → is_column line.indent cs ≡ true → IsNoHandler cs line lines before halt
no_handler_first cs line lines before (AtToken k l) marked column = (marked, column)
no_handler_first cs line lines before (AtEnd k place) marked column = (marked, column)
no_handler_first cs line lines before (NoLine place) marked column = (marked, column)
no_handler_first cs line lines before (BadIndent place) marked column = absurd (never_first line.tokens lines before (BadIndent place) (λ k l same. cc) (λ k q same. cc) marked)
no_handler_first cs line lines before (TooDeep place) marked column = (marked, column)
no_handler_first cs line lines before (TooMany place) marked column = (marked, column)
no_handler_first cs line lines before Memory marked column = (marked, column)

pub lower_here : (d : ℕ) (line : Line) (lines all : List Line) → all ≡ line ∷ lines → is_here d all ≡ false → line.indent ≤ d → Below d all
lower_here d line lines all is other low = subst (Below d) (sym is) (less line.indent d low (elsewhere d line lines all is other))
  where
    less : (a b : ℕ) → a ≤ b → (a ≡ b → ⊥) → a < b
    less a b low different = omega (arith, low, different)

pub closes_lower : (cs : List ℕ) (p : Place) (b : Built) (at : Pos) (line : Line) (lines all : List Line) → all ≡ line ∷ lines → is_here p.indent all ≡ false → line.indent ≤ p.indent → (b.last ≡ Try → ⊥) → b.has_stmt ≡ false → NotClosed cs p b at all (BadIndent at)
closes_lower cs p b at line lines all is other low finished none = empty_end cs p b at all (lower_here p.indent line lines all is other low) finished none

pub other_place : (cs : List ℕ) (p : Place) (b : Built) (at : Pos) (lines : List Line) (fault : Pos → Halt) (here there : Pos) → here ≡ there → NotClosed cs p b at lines (fault there) → NotClosed cs p b at lines (fault here)
other_place cs p b at lines fault here there is r = subst (λ q. NotClosed cs p b at lines (fault q)) (sym is) r

pub nothing_below : (lines : List Line) → length lines ≡ 0 → lines ≡ []
nothing_below [] is = refl
nothing_below (line ∷ lines) is = absurd (let no : suc (length lines) ≡ 0 = is in omega (arith, no))
