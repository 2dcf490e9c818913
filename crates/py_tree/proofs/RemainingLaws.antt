-- Laws of the statements of a deletion.
use Rattle.std.proofs.Common.{◌≡◌, ℕ, Bool, true, false, cond, List, [], ◌∷◌, ◌++◌, map, Contains, Option, None, Some, inl, inr, refl, sym, ap, ap₂, subst, ◌∙◌}
use Rattle.std.proofs.lemmas.Bool.{false≢true}
use Rattle.std.proofs.lemmas.List.{map-append}
use Rattle.std.proofs.lemmas.List.Elements.{filter-append}
use Rattle.std.specs.Prelude.{if◌then◌else◌}
use Rattle.std.specs.Option.{option_map, option_and_then}
use Rattle.py_tree.specs.Deletion.{or_pass, kept_suite, kept_stmt, kept_form, kept_branches, kept_else, kept_handlers, deleted}
use Rattle.py_tree.specs.Numbering.{IsNumbered}
use Rattle.py_tree.specs.Owners.{Around, Standing, at_module_level, form_in, is_def, within, listed_stmt, listed_form, listed_suite, listed_branches, listed_else, listed_handlers, number_at, statements, standing_at, parent_of, function_of}
use Rattle.py_tree.specs.Parts.{IsPartOf, no_more, leaves, takes}
use Rattle.py_tree.specs.Placed.{place_in, place_of, place_at}
use Rattle.py_tree.specs.Remaining.{staying_stmt, staying_form, staying_suite, staying_branches, staying_else, staying_handlers, staying, IsClosed, those_in, kept_standing, renamed_standing, remaining, AddsPass, all_there, stays, put_in}
use Rattle.py_tree.specs.Renumbering.{renamed_suite, renamed_stmt, renamed_form, renamed_branches, renamed_else, renamed_handlers, new_number}
use Rattle.py_tree.specs.Tree.{number_of, StmtTree, FormTree, SuiteTree, BranchesTree, ElseTree, HandlersTree, ScriptTree, one_stmt, if_form, while_form, for_form, try_form, with_form, def_form, class_form, end_suite, more_suite, end_branches, more_branches, no_else, else_suite, end_handlers, more_handlers}
use Rattle.py_tree.specs.Unplaced.{is_pass}
use Rattle.py_tree.proofs.DeletionLaws.{deleted_is_numbered}
use Rattle.py_tree.proofs.Finding.{IsIn, from_contains, in_front, in_behind}
use Rattle.py_tree.proofs.NewNumbers.{gives_new_numbers}
use Rattle.py_tree.proofs.PlaceLaws.{part_none, part_append}
use Rattle.py_tree.proofs.PlacedLaws.{by_number}

-- ## Lists with `pass` statements put in

adds_append : {xs ys us vs : List Standing} → AddsPass xs ys → AddsPass us vs → AddsPass (xs ++ us) (ys ++ vs)
adds_append all_there more = more
adds_append (stays first) more = stays (adds_append first more)
adds_append (put_in is first) more = put_in is (adds_append first more)

adds_map : (f : Standing → Standing) → ((x : Standing) → is_pass (form_in (f x).stmt) ≡ is_pass (form_in x.stmt)) → {xs ys : List Standing} → AddsPass xs ys → AddsPass (map f xs) (map f ys)
adds_map f same all_there = all_there
adds_map f same (stays adds) = stays (adds_map f same adds)
adds_map f same (put_in {x} is adds) = put_in (same x ∙ is) (adds_map f same adds)

adds_in : {xs ys : List Standing} (x : Standing) → AddsPass xs ys → IsIn xs x → IsIn ys x
adds_in x all_there there = there
adds_in x (stays adds) (inl is) = inl is
adds_in x (stays adds) (inr there) = inr (adds_in x adds there)
adds_in x (put_in is adds) there = inr (adds_in x adds there)

in_map : (f : Standing → Standing) (xs : List Standing) (x : Standing) → IsIn xs x → IsIn (map f xs) (f x)
in_map f [] x there = absurd there
in_map f (y ∷ ys) x (inl is) = inl (ap f is)
in_map f (y ∷ ys) x (inr there) = inr (in_map f ys x there)

map_twice : (f g : Standing → Standing) (xs : List Standing) → map g (map f xs) ≡ map (λ x. g (f x)) xs
map_twice f g [] = refl
map_twice f g (x ∷ xs) = ap (λ ys. g (f x) ∷ ys) (map_twice f g xs)

-- ## Other numbers

module _ (new : ℕ → ℕ) where
  def_renamed : (form : FormTree) → is_def (renamed_form new form) ≡ is_def form
  def_renamed (while_form test body) = refl
  def_renamed form = refl

  pass_renamed : (form : FormTree) → is_pass (renamed_form new form) ≡ is_pass form
  pass_renamed (while_form test body) = refl
  pass_renamed form = refl

  stmt_pass_renamed : (s : StmtTree) → is_pass (form_in (renamed_stmt new s)) ≡ is_pass (form_in s)
  stmt_pass_renamed (one_stmt number at span form) = pass_renamed form

  abbrev renamed_around : Around → Around
  renamed_around around = record { owner = option_map (renamed_stmt new) around.owner; function = option_map new around.function }

  within_renamed : (s : StmtTree) (around : Around) → within (renamed_stmt new s) (renamed_around around) ≡ renamed_around (within s around)
  within_renamed (one_stmt number at span form) around = ap inside (def_renamed form) ∙ outside (is_def form)
    where
      inside : Bool → Around
      inside b = record { owner = Some (one_stmt (new number) at span (renamed_form new form)); function = (if b then Some (new number) else option_map new around.function) }

      outside : (b : Bool) → record { owner = Some (one_stmt (new number) at span (renamed_form new form)); function = (if b then Some (new number) else option_map new around.function) }
          ≡ renamed_around (record { owner = Some (one_stmt number at span form); function = (if b then Some number else around.function) })
      outside true = refl
      outside false = refl

  mutual
    stmt_renamed : (around : Around) (s : StmtTree) → listed_stmt (renamed_around around) (renamed_stmt new s) ≡ map (renamed_standing new) (listed_stmt around s)
    stmt_renamed around (one_stmt number at span form) =
        ap (λ rest. renamed_standing new (record { stmt = one_stmt number at span form; around = around }) ∷ rest)
        (ap (λ a. listed_form a (renamed_form new form)) (within_renamed (one_stmt number at span form) around) ∙ forms_renamed (within (one_stmt number at span form) around) form)

    forms_renamed : (around : Around) (form : FormTree) → listed_form (renamed_around around) (renamed_form new form) ≡ map (renamed_standing new) (listed_form around form)
    forms_renamed around (if_form branches orelse) = ap₂ ◌++◌ (branches_renamed around branches) (else_renamed around orelse) ∙ sym (map-append (renamed_standing new) (listed_branches around branches) (listed_else around orelse))
    forms_renamed around (while_form test body) = suites_renamed around body
    forms_renamed around (for_form target items body) = suites_renamed around body
    forms_renamed around (try_form body handlers) = ap₂ ◌++◌ (suites_renamed around body) (handlers_renamed around handlers) ∙ sym (map-append (renamed_standing new) (listed_suite around body) (listed_handlers around handlers))
    forms_renamed around (with_form value bound body) = suites_renamed around body
    forms_renamed around (def_form name params globals body) = suites_renamed around body
    forms_renamed around (class_form name base body) = suites_renamed around body
    forms_renamed around form = refl

    suites_renamed : (around : Around) (body : SuiteTree) → listed_suite (renamed_around around) (renamed_suite new body) ≡ map (renamed_standing new) (listed_suite around body)
    suites_renamed around end_suite = refl
    suites_renamed around (more_suite s rest) = ap₂ ◌++◌ (stmt_renamed around s) (suites_renamed around rest) ∙ sym (map-append (renamed_standing new) (listed_stmt around s) (listed_suite around rest))

    branches_renamed : (around : Around) (branches : BranchesTree) → listed_branches (renamed_around around) (renamed_branches new branches) ≡ map (renamed_standing new) (listed_branches around branches)
    branches_renamed around end_branches = refl
    branches_renamed around (more_branches test body rest) = ap₂ ◌++◌ (suites_renamed around body) (branches_renamed around rest) ∙ sym (map-append (renamed_standing new) (listed_suite around body) (listed_branches around rest))

    else_renamed : (around : Around) (orelse : ElseTree) → listed_else (renamed_around around) (renamed_else new orelse) ≡ map (renamed_standing new) (listed_else around orelse)
    else_renamed around no_else = refl
    else_renamed around (else_suite body) = suites_renamed around body

    handlers_renamed : (around : Around) (handlers : HandlersTree) → listed_handlers (renamed_around around) (renamed_handlers new handlers) ≡ map (renamed_standing new) (listed_handlers around handlers)
    handlers_renamed around end_handlers = refl
    handlers_renamed around (more_handlers kind bound body rest) = ap₂ ◌++◌ (suites_renamed around body) (handlers_renamed around rest) ∙ sym (map-append (renamed_standing new) (listed_suite around body) (listed_handlers around rest))

-- ## The statements of a closed set

module _ (keep : ℕ → Bool) where
  -- each statement of the list that is in the set has its owner in the set
  abbrev AreClosed : List Standing → Type 0
  AreClosed xs = (x : Standing) → IsIn xs x → (owner : StmtTree) → x.around.owner ≡ Some owner → keep (number_at x) ≡ true → keep (number_of owner) ≡ true

  closed_front : (xs ys : List Standing) → AreClosed (xs ++ ys) → AreClosed xs
  closed_front xs ys closed x there = closed x (in_front xs ys x there)

  closed_behind : (xs ys : List Standing) → AreClosed (xs ++ ys) → AreClosed ys
  closed_behind xs ys closed x there = closed x (in_behind xs ys x there)

  closed_later : (x : Standing) (xs : List Standing) → AreClosed (x ∷ xs) → AreClosed xs
  closed_later x xs closed y there = closed y (inr there)

  none_either : (xs ys : List Standing) → those_in keep xs ≡ [] → those_in keep ys ≡ [] → those_in keep (xs ++ ys) ≡ []
  none_either xs ys first second = filter-append (λ x. keep (number_at x)) xs ys ∙ ap₂ ◌++◌ first second

  none_first : (x : Standing) (xs : List Standing) → keep (number_at x) ≡ false → those_in keep xs ≡ [] → those_in keep (x ∷ xs) ≡ []
  none_first x xs out rest = ap (λ b. cond b (x ∷ those_in keep xs) (those_in keep xs)) out ∙ rest

  out_with : (x : Standing) (owner : StmtTree) (b : Bool) → keep (number_at x) ≡ b → (keep (number_at x) ≡ true → keep (number_of owner) ≡ true) → keep (number_of owner) ≡ false → keep (number_at x) ≡ false
  out_with x owner true is up out = absurd (false≢true (sym out ∙ up is))
  out_with x owner false is up out = is

  out_too : (around : Around) (owner : StmtTree) → around.owner ≡ Some owner → keep (number_of owner) ≡ false → (s : StmtTree) → AreClosed (listed_stmt around s) → keep (number_of s) ≡ false
  out_too around owner own out (one_stmt number at span form) closed =
      let x : Standing = record { stmt = one_stmt number at span form; around = around } in
      out_with x owner (keep number) refl (closed x (inl refl) owner own) out

  -- in a statement that is not in the set no statement is
  mutual
    stmt_gone : (around : Around) (s : StmtTree) → keep (number_of s) ≡ false → AreClosed (listed_stmt around s) → those_in keep (listed_stmt around s) ≡ []
    stmt_gone around (one_stmt number at span form) out closed =
        let x : Standing = record { stmt = one_stmt number at span form; around = around } in
        let inside : Around = within (one_stmt number at span form) around in
        none_first x (listed_form inside form) out (form_gone inside (one_stmt number at span form) refl out form (closed_later x (listed_form inside form) closed))

    form_gone : (around : Around) (owner : StmtTree) → around.owner ≡ Some owner → keep (number_of owner) ≡ false → (form : FormTree) → AreClosed (listed_form around form) → those_in keep (listed_form around form) ≡ []
    form_gone around owner own out (if_form branches orelse) closed =
        none_either (listed_branches around branches) (listed_else around orelse)
        (branches_gone around owner own out branches (closed_front (listed_branches around branches) (listed_else around orelse) closed))
        (else_gone around owner own out orelse (closed_behind (listed_branches around branches) (listed_else around orelse) closed))
    form_gone around owner own out (while_form test body) closed = suite_gone around owner own out body closed
    form_gone around owner own out (for_form target items body) closed = suite_gone around owner own out body closed
    form_gone around owner own out (try_form body handlers) closed =
        none_either (listed_suite around body) (listed_handlers around handlers)
        (suite_gone around owner own out body (closed_front (listed_suite around body) (listed_handlers around handlers) closed))
        (handlers_gone around owner own out handlers (closed_behind (listed_suite around body) (listed_handlers around handlers) closed))
    form_gone around owner own out (with_form value bound body) closed = suite_gone around owner own out body closed
    form_gone around owner own out (def_form name params globals body) closed = suite_gone around owner own out body closed
    form_gone around owner own out (class_form name base body) closed = suite_gone around owner own out body closed
    form_gone around owner own out form closed = refl

    suite_gone : (around : Around) (owner : StmtTree) → around.owner ≡ Some owner → keep (number_of owner) ≡ false → (body : SuiteTree) → AreClosed (listed_suite around body) → those_in keep (listed_suite around body) ≡ []
    suite_gone around owner own out end_suite closed = refl
    suite_gone around owner own out (more_suite s rest) closed =
        none_either (listed_stmt around s) (listed_suite around rest)
        (stmt_gone around s (out_too around owner own out s (closed_front (listed_stmt around s) (listed_suite around rest) closed)) (closed_front (listed_stmt around s) (listed_suite around rest) closed))
        (suite_gone around owner own out rest (closed_behind (listed_stmt around s) (listed_suite around rest) closed))

    branches_gone : (around : Around) (owner : StmtTree) → around.owner ≡ Some owner → keep (number_of owner) ≡ false → (branches : BranchesTree) → AreClosed (listed_branches around branches) → those_in keep (listed_branches around branches) ≡ []
    branches_gone around owner own out end_branches closed = refl
    branches_gone around owner own out (more_branches test body rest) closed =
        none_either (listed_suite around body) (listed_branches around rest)
        (suite_gone around owner own out body (closed_front (listed_suite around body) (listed_branches around rest) closed))
        (branches_gone around owner own out rest (closed_behind (listed_suite around body) (listed_branches around rest) closed))

    else_gone : (around : Around) (owner : StmtTree) → around.owner ≡ Some owner → keep (number_of owner) ≡ false → (orelse : ElseTree) → AreClosed (listed_else around orelse) → those_in keep (listed_else around orelse) ≡ []
    else_gone around owner own out no_else closed = refl
    else_gone around owner own out (else_suite body) closed = suite_gone around owner own out body closed

    handlers_gone : (around : Around) (owner : StmtTree) → around.owner ≡ Some owner → keep (number_of owner) ≡ false → (handlers : HandlersTree) → AreClosed (listed_handlers around handlers) → those_in keep (listed_handlers around handlers) ≡ []
    handlers_gone around owner own out end_handlers closed = refl
    handlers_gone around owner own out (more_handlers kind bound body rest) closed =
        none_either (listed_suite around body) (listed_handlers around rest)
        (suite_gone around owner own out body (closed_front (listed_suite around body) (listed_handlers around rest) closed))
        (handlers_gone around owner own out rest (closed_behind (listed_suite around body) (listed_handlers around rest) closed))

  -- so of a closed set all stay
  both_same : (xs ys us vs : List Standing) → us ≡ those_in keep xs → vs ≡ those_in keep ys → us ++ vs ≡ those_in keep (xs ++ ys)
  both_same xs ys us vs first second = ap₂ ◌++◌ first second ∙ sym (filter-append (λ x. keep (number_at x)) xs ys)

  first_same : (x : Standing) (xs us : List Standing) (b : Bool) → keep (number_at x) ≡ b → us ≡ those_in keep xs → (keep (number_at x) ≡ false → those_in keep (x ∷ xs) ≡ []) → (if b then x ∷ us else []) ≡ those_in keep (x ∷ xs)
  first_same x xs us true is same gone = ap (λ ys. x ∷ ys) same ∙ sym (ap (λ b. cond b (x ∷ those_in keep xs) (those_in keep xs)) is)
  first_same x xs us false is same gone = sym (gone is)

  mutual
    stmt_same : (around : Around) (s : StmtTree) → AreClosed (listed_stmt around s) → staying_stmt keep around s ≡ those_in keep (listed_stmt around s)
    stmt_same around (one_stmt number at span form) closed =
        let s : StmtTree = one_stmt number at span form in
        let x : Standing = record { stmt = s; around = around } in
        first_same x (listed_form (within s around) form) (staying_form keep (within s around) form) (keep number) refl
        (form_same (within s around) form (closed_later x (listed_form (within s around) form) closed))
        (λ out. stmt_gone around s out closed)

    form_same : (around : Around) (form : FormTree) → AreClosed (listed_form around form) → staying_form keep around form ≡ those_in keep (listed_form around form)
    form_same around (if_form branches orelse) closed =
        both_same (listed_branches around branches) (listed_else around orelse) (staying_branches keep around branches) (staying_else keep around orelse)
        (branches_same around branches (closed_front (listed_branches around branches) (listed_else around orelse) closed))
        (else_same around orelse (closed_behind (listed_branches around branches) (listed_else around orelse) closed))
    form_same around (while_form test body) closed = suite_same around body closed
    form_same around (for_form target items body) closed = suite_same around body closed
    form_same around (try_form body handlers) closed =
        both_same (listed_suite around body) (listed_handlers around handlers) (staying_suite keep around body) (staying_handlers keep around handlers)
        (suite_same around body (closed_front (listed_suite around body) (listed_handlers around handlers) closed))
        (handlers_same around handlers (closed_behind (listed_suite around body) (listed_handlers around handlers) closed))
    form_same around (with_form value bound body) closed = suite_same around body closed
    form_same around (def_form name params globals body) closed = suite_same around body closed
    form_same around (class_form name base body) closed = suite_same around body closed
    form_same around form closed = refl

    suite_same : (around : Around) (body : SuiteTree) → AreClosed (listed_suite around body) → staying_suite keep around body ≡ those_in keep (listed_suite around body)
    suite_same around end_suite closed = refl
    suite_same around (more_suite s rest) closed =
        both_same (listed_stmt around s) (listed_suite around rest) (staying_stmt keep around s) (staying_suite keep around rest)
        (stmt_same around s (closed_front (listed_stmt around s) (listed_suite around rest) closed))
        (suite_same around rest (closed_behind (listed_stmt around s) (listed_suite around rest) closed))

    branches_same : (around : Around) (branches : BranchesTree) → AreClosed (listed_branches around branches) → staying_branches keep around branches ≡ those_in keep (listed_branches around branches)
    branches_same around end_branches closed = refl
    branches_same around (more_branches test body rest) closed =
        both_same (listed_suite around body) (listed_branches around rest) (staying_suite keep around body) (staying_branches keep around rest)
        (suite_same around body (closed_front (listed_suite around body) (listed_branches around rest) closed))
        (branches_same around rest (closed_behind (listed_suite around body) (listed_branches around rest) closed))

    else_same : (around : Around) (orelse : ElseTree) → AreClosed (listed_else around orelse) → staying_else keep around orelse ≡ those_in keep (listed_else around orelse)
    else_same around no_else closed = refl
    else_same around (else_suite body) closed = suite_same around body closed

    handlers_same : (around : Around) (handlers : HandlersTree) → AreClosed (listed_handlers around handlers) → staying_handlers keep around handlers ≡ those_in keep (listed_handlers around handlers)
    handlers_same around end_handlers closed = refl
    handlers_same around (more_handlers kind bound body rest) closed =
        both_same (listed_suite around body) (listed_handlers around rest) (staying_suite keep around body) (staying_handlers keep around rest)
        (suite_same around body (closed_front (listed_suite around body) (listed_handlers around rest) closed))
        (handlers_same around rest (closed_behind (listed_suite around body) (listed_handlers around rest) closed))

  -- ## What a set leaves, with the old numbers

  -- what stays is part of what was there
  part_choice : (b : Bool) (x : Standing) (xs us : List Standing) → IsPartOf us xs → IsPartOf (if b then x ∷ us else []) (x ∷ xs)
  part_choice true x xs us part = takes part
  part_choice false x xs us part = part_none (x ∷ xs)

  mutual
    stmt_part : (around : Around) (s : StmtTree) → IsPartOf (staying_stmt keep around s) (listed_stmt around s)
    stmt_part around (one_stmt number at span form) =
        let s : StmtTree = one_stmt number at span form in
        part_choice (keep number) (record { stmt = s; around = around }) (listed_form (within s around) form) (staying_form keep (within s around) form) (form_part (within s around) form)

    form_part : (around : Around) (form : FormTree) → IsPartOf (staying_form keep around form) (listed_form around form)
    form_part around (if_form branches orelse) = part_append (branches_part around branches) (else_part around orelse)
    form_part around (while_form test body) = suite_part around body
    form_part around (for_form target items body) = suite_part around body
    form_part around (try_form body handlers) = part_append (suite_part around body) (handlers_part around handlers)
    form_part around (with_form value bound body) = suite_part around body
    form_part around (def_form name params globals body) = suite_part around body
    form_part around (class_form name base body) = suite_part around body
    form_part around form = no_more

    suite_part : (around : Around) (body : SuiteTree) → IsPartOf (staying_suite keep around body) (listed_suite around body)
    suite_part around end_suite = no_more
    suite_part around (more_suite s rest) = part_append (stmt_part around s) (suite_part around rest)

    branches_part : (around : Around) (branches : BranchesTree) → IsPartOf (staying_branches keep around branches) (listed_branches around branches)
    branches_part around end_branches = no_more
    branches_part around (more_branches test body rest) = part_append (suite_part around body) (branches_part around rest)

    else_part : (around : Around) (orelse : ElseTree) → IsPartOf (staying_else keep around orelse) (listed_else around orelse)
    else_part around no_else = no_more
    else_part around (else_suite body) = suite_part around body

    handlers_part : (around : Around) (handlers : HandlersTree) → IsPartOf (staying_handlers keep around handlers) (listed_handlers around handlers)
    handlers_part around end_handlers = no_more
    handlers_part around (more_handlers kind bound body rest) = part_append (suite_part around body) (handlers_part around rest)

  def_kept : (form : FormTree) → is_def (kept_form keep form) ≡ is_def form
  def_kept (while_form test body) = refl
  def_kept form = refl

  abbrev kept_around : Around → Around
  kept_around around = record { owner = option_map (kept_stmt keep) around.owner; function = around.function }

  within_kept : (s : StmtTree) (around : Around) → within (kept_stmt keep s) (kept_around around) ≡ kept_around (within s around)
  within_kept (one_stmt number at span form) around = ap inside (def_kept form)
    where
      inside : Bool → Around
      inside b = record { owner = Some (one_stmt number at span (kept_form keep form)); function = (if b then Some number else around.function) }

  -- the second list is what is left of the first, with `pass` put in
  abbrev Leaves : List Standing → List Standing → Type 0
  Leaves xs ys = AddsPass (map (kept_standing keep) xs) ys

  leaves_both : (xs ys us vs : List Standing) → Leaves xs us → Leaves ys vs → Leaves (xs ++ ys) (us ++ vs)
  leaves_both xs ys us vs first second = subst (λ zs. AddsPass zs (us ++ vs)) (sym (map-append (kept_standing keep) xs ys)) (adds_append first second)

  or_pass_leaves : (around : Around) (body kept : SuiteTree) (xs : List Standing) → Leaves xs (listed_suite around kept) → Leaves xs (listed_suite around (or_pass body kept))
  or_pass_leaves around end_suite kept xs left = left
  or_pass_leaves around (more_suite (one_stmt number at span form) rest) end_suite xs left = put_in refl left
  or_pass_leaves around (more_suite s rest) (more_suite t others) xs left = left

  stmt_out : (around : Around) (s : StmtTree) → keep (number_of s) ≡ false → staying_stmt keep around s ≡ []
  stmt_out around (one_stmt number at span form) out = ap (λ b. if b then record { stmt = one_stmt number at span form; around = around } ∷ staying_form keep (within (one_stmt number at span form) around) form else []) out

  choice_leaves : (around : Around) (b : Bool) (s : StmtTree) (rest : SuiteTree) → keep (number_of s) ≡ b
      → (keep (number_of s) ≡ true → Leaves (staying_stmt keep around s) (listed_stmt (kept_around around) (kept_stmt keep s)))
      → Leaves (staying_suite keep around rest) (listed_suite (kept_around around) (kept_suite keep rest))
      → Leaves (staying_stmt keep around s ++ staying_suite keep around rest) (listed_suite (kept_around around) (if b then more_suite (kept_stmt keep s) (kept_suite keep rest) else kept_suite keep rest))
  choice_leaves around true s rest is first later =
      leaves_both (staying_stmt keep around s) (staying_suite keep around rest) (listed_stmt (kept_around around) (kept_stmt keep s)) (listed_suite (kept_around around) (kept_suite keep rest)) (first is) later
  choice_leaves around false s rest is first later =
      subst (λ xs. Leaves (xs ++ staying_suite keep around rest) (listed_suite (kept_around around) (kept_suite keep rest))) (sym (stmt_out around s is)) later

  mutual
    stmt_leaves : (around : Around) (s : StmtTree) → keep (number_of s) ≡ true → Leaves (staying_stmt keep around s) (listed_stmt (kept_around around) (kept_stmt keep s))
    stmt_leaves around (one_stmt number at span form) in_set =
        let s : StmtTree = one_stmt number at span form in
        let x : Standing = record { stmt = s; around = around } in
        subst (λ b. Leaves (if b then x ∷ staying_form keep (within s around) form else []) (listed_stmt (kept_around around) (kept_stmt keep s))) (sym in_set)
        (stays (subst (λ a. Leaves (staying_form keep (within s around) form) (listed_form a (kept_form keep form))) (sym (within_kept s around)) (form_leaves (within s around) form)))

    form_leaves : (around : Around) (form : FormTree) → Leaves (staying_form keep around form) (listed_form (kept_around around) (kept_form keep form))
    form_leaves around (if_form branches orelse) =
        leaves_both (staying_branches keep around branches) (staying_else keep around orelse) (listed_branches (kept_around around) (kept_branches keep branches)) (listed_else (kept_around around) (kept_else keep orelse)) (branches_leave around branches) (else_leaves around orelse)
    form_leaves around (while_form test body) = or_pass_leaves (kept_around around) body (kept_suite keep body) (staying_suite keep around body) (suite_leaves around body)
    form_leaves around (for_form target items body) = or_pass_leaves (kept_around around) body (kept_suite keep body) (staying_suite keep around body) (suite_leaves around body)
    form_leaves around (try_form body handlers) =
        leaves_both (staying_suite keep around body) (staying_handlers keep around handlers) (listed_suite (kept_around around) (or_pass body (kept_suite keep body))) (listed_handlers (kept_around around) (kept_handlers keep handlers))
        (or_pass_leaves (kept_around around) body (kept_suite keep body) (staying_suite keep around body) (suite_leaves around body)) (handlers_leave around handlers)
    form_leaves around (with_form value bound body) = or_pass_leaves (kept_around around) body (kept_suite keep body) (staying_suite keep around body) (suite_leaves around body)
    form_leaves around (def_form name params globals body) = or_pass_leaves (kept_around around) body (kept_suite keep body) (staying_suite keep around body) (suite_leaves around body)
    form_leaves around (class_form name base body) = or_pass_leaves (kept_around around) body (kept_suite keep body) (staying_suite keep around body) (suite_leaves around body)
    form_leaves around form = all_there

    suite_leaves : (around : Around) (body : SuiteTree) → Leaves (staying_suite keep around body) (listed_suite (kept_around around) (kept_suite keep body))
    suite_leaves around end_suite = all_there
    suite_leaves around (more_suite s rest) = choice_leaves around (keep (number_of s)) s rest refl (stmt_leaves around s) (suite_leaves around rest)

    branches_leave : (around : Around) (branches : BranchesTree) → Leaves (staying_branches keep around branches) (listed_branches (kept_around around) (kept_branches keep branches))
    branches_leave around end_branches = all_there
    branches_leave around (more_branches test body rest) =
        leaves_both (staying_suite keep around body) (staying_branches keep around rest) (listed_suite (kept_around around) (or_pass body (kept_suite keep body))) (listed_branches (kept_around around) (kept_branches keep rest))
        (or_pass_leaves (kept_around around) body (kept_suite keep body) (staying_suite keep around body) (suite_leaves around body)) (branches_leave around rest)

    else_leaves : (around : Around) (orelse : ElseTree) → Leaves (staying_else keep around orelse) (listed_else (kept_around around) (kept_else keep orelse))
    else_leaves around no_else = all_there
    else_leaves around (else_suite body) = or_pass_leaves (kept_around around) body (kept_suite keep body) (staying_suite keep around body) (suite_leaves around body)

    handlers_leave : (around : Around) (handlers : HandlersTree) → Leaves (staying_handlers keep around handlers) (listed_handlers (kept_around around) (kept_handlers keep handlers))
    handlers_leave around end_handlers = all_there
    handlers_leave around (more_handlers kind bound body rest) =
        leaves_both (staying_suite keep around body) (staying_handlers keep around rest) (listed_suite (kept_around around) (or_pass body (kept_suite keep body))) (listed_handlers (kept_around around) (kept_handlers keep rest))
        (or_pass_leaves (kept_around around) body (kept_suite keep body) (staying_suite keep around body) (suite_leaves around body)) (handlers_leave around rest)

-- ## The deletion

in_part : {xs ys : List Standing} (x : Standing) → IsPartOf xs ys → IsIn xs x → IsIn ys x
in_part x no_more there = there
in_part x (leaves part) there = inr (in_part x part there)
in_part x (takes part) (inl is) = inl is
in_part x (takes part) (inr there) = inr (in_part x part there)

module _ (keep : ℕ → Bool) (script : ScriptTree) (numbered : IsNumbered script) where
  abbrev new : ℕ → ℕ
  new = new_number keep script

  statements_new : statements (deleted keep script) ≡ map (renamed_standing new) (listed_suite at_module_level (kept_suite keep script.body))
  statements_new =
      ap (listed_suite at_module_level) (sym (gives_new_numbers keep script numbered))
      ∙ suites_renamed new at_module_level (kept_suite keep script.body)

  statements_left : AddsPass (map (remaining keep new) (staying keep script)) (statements (deleted keep script))
  statements_left =
      subst (λ ys. AddsPass (map (remaining keep new) (staying keep script)) ys) (sym statements_new)
      (subst (λ xs. AddsPass xs (map (renamed_standing new) (listed_suite at_module_level (kept_suite keep script.body)))) (map_twice (kept_standing keep) (renamed_standing new) (staying keep script))
      (adds_map (renamed_standing new) (λ x. stmt_pass_renamed new x.stmt) (suite_leaves keep at_module_level script.body)))

  stmt_number : (s : StmtTree) → number_of (renamed_stmt new (kept_stmt keep s)) ≡ new (number_of s)
  stmt_number (one_stmt number at span form) = refl

  stmt_place : (s : StmtTree) → place_in (renamed_stmt new (kept_stmt keep s)) ≡ place_in s
  stmt_place (one_stmt number at span form) = refl

  module _ (x : Standing) (there : Contains (staying keep script) x) where
    found : standing_at script (number_at x) ≡ Some x
    found = by_number script numbered x (in_part x (suite_part keep at_module_level script.body) (from_contains (staying keep script) x there))

    -- where it is found
    standing_left : standing_at (deleted keep script) (new (number_at x)) ≡ Some (remaining keep new x)
    standing_left =
        ap (standing_at (deleted keep script)) (sym (stmt_number x.stmt))
        ∙ by_number (deleted keep script) (deleted_is_numbered keep script) (remaining keep new x)
        (adds_in (remaining keep new x) statements_left (in_map (remaining keep new) (staying keep script) x (from_contains (staying keep script) x there)))

    owner_number : (o : Option StmtTree) → option_map number_of (option_map (renamed_stmt new) (option_map (kept_stmt keep) o)) ≡ option_map new (option_map number_of o)
    owner_number None = refl
    owner_number (Some owner) = ap Some (stmt_number owner)

    parent_left : parent_of (deleted keep script) (new (number_at x)) ≡ option_map new (parent_of script (number_at x))
    parent_left =
        ap (option_and_then (λ y. option_map number_of y.around.owner)) standing_left ∙ owner_number x.around.owner
        ∙ ap (option_map new) (sym (ap (option_and_then (λ y. option_map number_of y.around.owner)) found))

    function_left : function_of (deleted keep script) (new (number_at x)) ≡ option_map new (function_of script (number_at x))
    function_left = ap (option_and_then (λ y. y.around.function)) standing_left ∙ ap (option_map new) (sym (ap (option_and_then (λ y. y.around.function)) found))

    place_left : place_at (deleted keep script) (new (number_at x)) ≡ place_at script (number_at x)
    place_left = ap (option_map place_of) standing_left ∙ (ap Some (stmt_place x.stmt) ∙ sym (ap (option_map place_of) found))

  module _ (closed : IsClosed keep script) where
    are_closed : AreClosed keep (statements script)
    are_closed x there owner own in_set =
        closed (number_at x) (number_of owner) in_set
        (ap (option_and_then (λ y. option_map number_of y.around.owner)) (by_number script numbered x there) ∙ ap (option_map number_of) own)

    all_stay : staying keep script ≡ those_in keep (statements script)
    all_stay = suite_same keep at_module_level script.body are_closed

pub left : (keep : ℕ → Bool) (script : ScriptTree) → IsNumbered script → AddsPass (map (remaining keep (new_number keep script)) (staying keep script)) (statements (deleted keep script))
left = statements_left

pub closed_left : (keep : ℕ → Bool) (script : ScriptTree) → IsNumbered script → IsClosed keep script → staying keep script ≡ those_in keep (statements script)
closed_left = all_stay

pub standings_left : (keep : ℕ → Bool) (script : ScriptTree) → IsNumbered script → (x : Standing) → Contains (staying keep script) x → standing_at (deleted keep script) (new_number keep script (number_at x)) ≡ Some (remaining keep (new_number keep script) x)
standings_left = standing_left

pub parents_left : (keep : ℕ → Bool) (script : ScriptTree) → IsNumbered script → (x : Standing) → Contains (staying keep script) x → parent_of (deleted keep script) (new_number keep script (number_at x)) ≡ option_map (new_number keep script) (parent_of script (number_at x))
parents_left = parent_left

pub functions_left : (keep : ℕ → Bool) (script : ScriptTree) → IsNumbered script → (x : Standing) → Contains (staying keep script) x → function_of (deleted keep script) (new_number keep script (number_at x)) ≡ option_map (new_number keep script) (function_of script (number_at x))
functions_left = function_left

pub places_left : (keep : ℕ → Bool) (script : ScriptTree) → IsNumbered script → (x : Standing) → Contains (staying keep script) x → place_at (deleted keep script) (new_number keep script (number_at x)) ≡ place_at script (number_at x)
places_left = place_left
