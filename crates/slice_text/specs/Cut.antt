-- The cut of a text: the text without the statements outside a set (this project's profile). What is left stands where it
-- stood.
use Rattle.std.specs.Prelude.{ℕ, ◌+◌, ◌-◌, ◌==◌, nat_le, nat_lt, Bool, false, ◌&&◌, not, List, [], ◌∷◌, ◌++◌, drop, codes, if◌then◌else◌}
use Rattle.std.specs.List.{list_any}
use Rattle.py_lines.specs.Piece.{ends_line}
use Rattle.py_tree.specs.Tree.{StmtTree, FormTree, SuiteTree, BranchesTree, ElseTree, HandlersTree, ScriptTree, one_stmt, if_form, while_form, for_form, try_form, with_form, def_form, class_form, end_suite, more_suite, end_branches, more_branches, no_else, else_suite, end_handlers, more_handlers}
use Rattle.py_tree.specs.Descent.{row_numbers}
use Rattle.slice_text.specs.declared.gaps.Gap.{Gap}

-- ---- which bytes go

-- none of the statements in this row is in the set
abbrev pub loses_all : (ℕ → Bool) → SuiteTree → Bool
loses_all keep suite = not (list_any keep (row_numbers suite))

abbrev mutual
  -- A gap for each statement outside the set: from its first token to the end of its last line. A statement goes with all
  -- that stands in its suites. `filled` says whether `pass` takes the place of the first statement: so it is in a suite of
  -- a statement that stays, where none of the suite does.
  pub suite_gaps : (ℕ → Bool) → (filled : Bool) → SuiteTree → List Gap
  suite_gaps keep filled end_suite = []
  suite_gaps keep filled (more_suite s rest) = stmt_gaps keep filled s ++ suite_gaps keep false rest

  pub stmt_gaps : (ℕ → Bool) → (filled : Bool) → StmtTree → List Gap
  stmt_gaps keep filled (one_stmt number at span form) = if keep number then form_gaps keep form else record { span = span; filled = filled } ∷ []

  pub form_gaps : (ℕ → Bool) → FormTree → List Gap
  form_gaps keep (if_form branches orelse) = branches_gaps keep branches ++ else_gaps keep orelse
  form_gaps keep (while_form test body) = suite_gaps keep (loses_all keep body) body
  form_gaps keep (for_form target items body) = suite_gaps keep (loses_all keep body) body
  form_gaps keep (try_form body handlers) = suite_gaps keep (loses_all keep body) body ++ handlers_gaps keep handlers
  form_gaps keep (with_form value bound body) = suite_gaps keep (loses_all keep body) body
  form_gaps keep (def_form name params globals body) = suite_gaps keep (loses_all keep body) body
  form_gaps keep (class_form name base body) = suite_gaps keep (loses_all keep body) body
  form_gaps keep form = []

  pub branches_gaps : (ℕ → Bool) → BranchesTree → List Gap
  branches_gaps keep end_branches = []
  branches_gaps keep (more_branches test body rest) = suite_gaps keep (loses_all keep body) body ++ branches_gaps keep rest

  pub else_gaps : (ℕ → Bool) → ElseTree → List Gap
  else_gaps keep no_else = []
  else_gaps keep (else_suite body) = suite_gaps keep (loses_all keep body) body

  pub handlers_gaps : (ℕ → Bool) → HandlersTree → List Gap
  handlers_gaps keep end_handlers = []
  handlers_gaps keep (more_handlers kind bound body rest) = suite_gaps keep (loses_all keep body) body ++ handlers_gaps keep rest

-- the gaps of a script: at module level no `pass` is needed
abbrev pub script_gaps : (ℕ → Bool) → ScriptTree → List Gap
script_gaps keep script = suite_gaps keep false script.body

-- the byte at this offset is in a gap
abbrev pub is_in : List Gap → ℕ → Bool
is_in gaps at = list_any (λ gap. nat_le gap.span.from at && nat_lt at gap.span.to) gaps

-- a gap that is filled begins at this offset
abbrev pub is_filled : List Gap → ℕ → Bool
is_filled gaps at = list_any (λ gap. gap.filled && (gap.span.from == at)) gaps

-- ---- what is written

-- the first of the letters, or else the byte
abbrev pub letter_or : ℕ → List ℕ → ℕ
letter_or byte [] = byte
letter_or byte (letter ∷ letters) = letter

-- The bytes from this offset on. One that goes becomes a space, but a line end stays. Where `pass` begins its letters stand
-- in place of the bytes, one for one; those that find no place before the line's end are put there, and only by these the
-- line grows. `due` is what is still to stand of a `pass`.
abbrev pub cut_from : (goes begins : ℕ → Bool) → (at : ℕ) → (due bytes : List ℕ) → List ℕ
cut_from goes begins at due [] = due
cut_from goes begins at due (byte ∷ bytes) =
    let letters = if begins at then codes "pass" else due in
    if ends_line byte then letters ++ byte ∷ cut_from goes begins (at + 1) [] bytes
    else letter_or (if goes at then 32 else byte) letters ∷ cut_from goes begins (at + 1) (drop 1 letters) bytes

-- the text of a script, cut to the statements of the set
abbrev pub cut_text : (ℕ → Bool) → ScriptTree → List ℕ → List ℕ
cut_text keep script text = let gaps = script_gaps keep script in cut_from (is_in gaps) (is_filled gaps) 0 [] text

-- ---- how long it is

-- how many bytes stand before the first line end
abbrev pub to_line_end : List ℕ → ℕ
to_line_end [] = 0
to_line_end (byte ∷ bytes) = if ends_line byte then 0 else 1 + to_line_end bytes

-- by how much the `pass` of a gap makes its line longer: by the letters that find no place before the line's end
abbrev pub growth : List ℕ → Gap → ℕ
growth text gap = if gap.filled then 4 - to_line_end (drop gap.span.from text) else 0

abbrev pub growths : List ℕ → List Gap → ℕ
growths text [] = 0
growths text (gap ∷ gaps) = growth text gap + growths text gaps
