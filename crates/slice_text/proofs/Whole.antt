-- A set of all statements leaves no gap, and a text without gaps stays.
use Rattle.std.proofs.Common.{◌≡◌, ℕ, ◌+◌, ◌<◌, ◌≤◌, Bool, true, false, IsTrue, List, [], ◌∷◌, ◌++◌, if◌then◌else◌, refl, ap, ◌∙◌, arith}
use Rattle.py_lines.specs.Piece.{ends_line}
use Rattle.py_tree.specs.Tree.{StmtTree, FormTree, SuiteTree, BranchesTree, ElseTree, HandlersTree, ScriptTree, one_stmt, if_form, while_form, for_form, try_form, with_form, def_form, class_form, end_suite, more_suite, end_branches, more_branches, no_else, else_suite, end_handlers, more_handlers}
use Rattle.py_tree.specs.Numbering.{size_stmt, size_form, size_suite, size_branches, size_else, size_handlers, numbered_stmt, numbered_form, numbered_suite, numbered_branches, numbered_else, numbered_handlers, IsNumbered}
use Rattle.slice_text.specs.declared.gaps.Gap.{Gap}
use Rattle.slice_text.specs.Cut.{loses_all, suite_gaps, stmt_gaps, form_gaps, branches_gaps, else_gaps, handlers_gaps, is_in, is_filled, letter_or, cut_from, cut_text}

-- all numbers from n on, so many, are in the set
abbrev HasFrom : (ℕ → Bool) → ℕ → ℕ → Type 0
HasFrom keep n count = (i : ℕ) → n ≤ i → i < n + count → keep i ≡ true

both_none : (a b : List Gap) → a ≡ [] → b ≡ [] → a ++ b ≡ []
both_none a b one two = ap (λ (l : List Gap). l ++ b) one ∙ two

mutual
  pub suite_none : (keep : ℕ → Bool) (filled : Bool) (n : ℕ) (t : SuiteTree) → numbered_suite n t ≡ t → HasFrom keep n (size_suite t) → suite_gaps keep filled t ≡ []
  suite_none keep filled n end_suite is has = refl
  suite_none keep filled n (more_suite s rest) is has =
      let e1 : numbered_stmt n s ≡ s = cc in
      let e2 : numbered_suite (n + size_stmt s) rest ≡ rest = cc in
      both_none (stmt_gaps keep filled s) (suite_gaps keep false rest) (stmt_none keep filled n s e1 (λ i lo hi. has i lo (omega arith)))
      (suite_none keep false (n + size_stmt s) rest e2 (λ i lo hi. has i (omega arith) (omega arith)))

  pub stmt_none : (keep : ℕ → Bool) (filled : Bool) (n : ℕ) (t : StmtTree) → numbered_stmt n t ≡ t → HasFrom keep n (size_stmt t) → stmt_gaps keep filled t ≡ []
  stmt_none keep filled n (one_stmt number at span form) is has =
      let e : numbered_form (n + 1) form ≡ form = cc in
      let same : number ≡ n = cc in
      ap (λ b. if b then form_gaps keep form else record { span = span; filled = filled } ∷ []) (ap keep same ∙ has n (omega arith) (omega arith))
      ∙ form_none keep (n + 1) form e (λ i lo hi. has i (omega arith) (omega arith))

  pub form_none : (keep : ℕ → Bool) (n : ℕ) (t : FormTree) → numbered_form n t ≡ t → HasFrom keep n (size_form t) → form_gaps keep t ≡ []
  form_none keep n (if_form branches orelse) is has =
      let e1 : numbered_branches n branches ≡ branches = cc in
      let e2 : numbered_else (n + size_branches branches) orelse ≡ orelse = cc in
      both_none (branches_gaps keep branches) (else_gaps keep orelse) (branches_none keep n branches e1 (λ i lo hi. has i lo (omega arith)))
      (else_none keep (n + size_branches branches) orelse e2 (λ i lo hi. has i (omega arith) (omega arith)))
  form_none keep n (while_form test body) is has = let e : numbered_suite n body ≡ body = cc in suite_none keep (loses_all keep body) n body e has
  form_none keep n (for_form target items body) is has = let e : numbered_suite n body ≡ body = cc in suite_none keep (loses_all keep body) n body e has
  form_none keep n (try_form body handlers) is has =
      let e1 : numbered_suite n body ≡ body = cc in
      let e2 : numbered_handlers (n + size_suite body) handlers ≡ handlers = cc in
      both_none (suite_gaps keep (loses_all keep body) body) (handlers_gaps keep handlers) (suite_none keep (loses_all keep body) n body e1 (λ i lo hi. has i lo (omega arith)))
      (handlers_none keep (n + size_suite body) handlers e2 (λ i lo hi. has i (omega arith) (omega arith)))
  form_none keep n (with_form value bound body) is has = let e : numbered_suite n body ≡ body = cc in suite_none keep (loses_all keep body) n body e has
  form_none keep n (def_form name params globals body) is has = let e : numbered_suite n body ≡ body = cc in suite_none keep (loses_all keep body) n body e has
  form_none keep n (class_form name base body) is has = let e : numbered_suite n body ≡ body = cc in suite_none keep (loses_all keep body) n body e has
  form_none keep n form is has = refl

  pub branches_none : (keep : ℕ → Bool) (n : ℕ) (t : BranchesTree) → numbered_branches n t ≡ t → HasFrom keep n (size_branches t) → branches_gaps keep t ≡ []
  branches_none keep n end_branches is has = refl
  branches_none keep n (more_branches test body rest) is has =
      let e1 : numbered_suite n body ≡ body = cc in
      let e2 : numbered_branches (n + size_suite body) rest ≡ rest = cc in
      both_none (suite_gaps keep (loses_all keep body) body) (branches_gaps keep rest) (suite_none keep (loses_all keep body) n body e1 (λ i lo hi. has i lo (omega arith)))
      (branches_none keep (n + size_suite body) rest e2 (λ i lo hi. has i (omega arith) (omega arith)))

  pub else_none : (keep : ℕ → Bool) (n : ℕ) (t : ElseTree) → numbered_else n t ≡ t → HasFrom keep n (size_else t) → else_gaps keep t ≡ []
  else_none keep n no_else is has = refl
  else_none keep n (else_suite body) is has = let e : numbered_suite n body ≡ body = cc in suite_none keep (loses_all keep body) n body e has

  pub handlers_none : (keep : ℕ → Bool) (n : ℕ) (t : HandlersTree) → numbered_handlers n t ≡ t → HasFrom keep n (size_handlers t) → handlers_gaps keep t ≡ []
  handlers_none keep n end_handlers is has = refl
  handlers_none keep n (more_handlers kind bound body rest) is has =
      let e1 : numbered_suite n body ≡ body = cc in
      let e2 : numbered_handlers (n + size_suite body) rest ≡ rest = cc in
      both_none (suite_gaps keep (loses_all keep body) body) (handlers_gaps keep rest) (suite_none keep (loses_all keep body) n body e1 (λ i lo hi. has i lo (omega arith)))
      (handlers_none keep (n + size_suite body) rest e2 (λ i lo hi. has i (omega arith) (omega arith)))

same_text : (at : ℕ) (bytes : List ℕ) → cut_from (is_in []) (is_filled []) at [] bytes ≡ bytes
same_text at [] = refl
same_text at (byte ∷ bytes) = chosen (ends_line byte) ∙ ap (λ (rest : List ℕ). byte ∷ rest) (same_text (at + 1) bytes)
  where
    chosen : (b : Bool) → (if b then [] ++ byte ∷ cut_from (is_in []) (is_filled []) (at + 1) [] bytes else letter_or byte [] ∷ cut_from (is_in []) (is_filled []) (at + 1) [] bytes) ≡ byte ∷ cut_from (is_in []) (is_filled []) (at + 1) [] bytes
    chosen true = refl
    chosen false = refl

pub whole_text : (keep : ℕ → Bool) (script : ScriptTree) (text : List ℕ) → IsNumbered script → ((i : ℕ) → i < script.count → IsTrue (keep i)) → cut_text keep script text ≡ text
whole_text keep script text is has =
    let none = suite_none keep false 0 script.body is.in_order (λ i lo hi. has i (omega (arith, is.counted))) in
    ap (λ (gaps : List Gap). cut_from (is_in gaps) (is_filled gaps) 0 [] text) none ∙ same_text 0 text
