-- The steps of the search for a statement, over the pure tree.
use Rattle.std.proofs.Common.{◌≡◌, ℕ, ◌+◌, ◌<◌, ◌≤◌, true, false, cond, length, Option, None, Some, option_map, Bor, ap, sym, subst, ◌∙◌, arith, eq-eqb}
use Rattle.std.proofs.lemmas.Bool.{ne_eqb}
use Rattle.std.specs.Prelude.{◌==◌}
use Rattle.std.specs.Option.{option_and_then}
use Rattle.py_tree.specs.declared.owners.Found.{Found}
use Rattle.py_tree.specs.declared.stmt.Stmt.{Stmt}
use Rattle.py_tree.specs.Tree.{number_of, StmtTree, SuiteTree, one_stmt}
use Rattle.py_tree.specs.Erasure.{stmt_of, form_of}
use Rattle.py_tree.specs.Owners.{Around, Standing, first_at, form_in, within, listed_stmt, listed_form, listed_suite}
use Rattle.py_tree.specs.Found.{standing_of}
use Rattle.py_tree.specs.Descent.{RiseFrom, first_numbers, form_suites, last_by, suite_by}
use Rattle.py_tree.proofs.StmtTrees.{stmt_tree}
use Rattle.py_tree.proofs.OwnersHalves.{form_rises}
use Rattle.py_tree.proofs.OwnersLaws.{Rise, rise_weaken, rise_within, shorter_within, row_law, row_within, form_law, form_within, in_stmt, in_body, IsWithin}

-- what is looked for is the first with number s here, and the numbers here rise
pub record Looks (s : ℕ) (around : Around) (row : SuiteTree) (wanted : Option Standing) : Type 0 where
  pub same : first_at s (listed_suite around row) ≡ wanted
  pub rise : Rise 0 (listed_suite around row)

-- the statement that the way goes through
in_last : (s : ℕ) (around : Around) (row : SuiteTree) (wanted : Option Standing) (stmt : StmtTree) → Looks s around row wanted → Some stmt ≡ last_by s row → first_at s (listed_stmt around stmt) ≡ wanted
in_last s around row wanted stmt looks is = ap (in_stmt s around) is ∙ sym (row_law 0 s around row looks.rise) ∙ looks.same

pub no_row : (s : ℕ) (around : Around) (row : SuiteTree) (wanted : Option Standing) → Looks s around row wanted → None ≡ last_by s row → None ≡ wanted
no_row s around row wanted looks is = ap (in_stmt s around) is ∙ sym (row_law 0 s around row looks.rise) ∙ looks.same

first_here : (s : ℕ) (around : Around) (stmt : StmtTree) → (number_of stmt == s) ≡ true → first_at s (listed_stmt around stmt) ≡ Some (record { stmt = stmt; around = around })
first_here s around (one_stmt k at span form) is = ap (λ b. cond b (Some (record { stmt = one_stmt k at span form; around = around })) (first_at s (listed_form (within (one_stmt k at span form) around) form))) is

first_below : (s : ℕ) (around : Around) (stmt : StmtTree) → (number_of stmt == s) ≡ false → first_at s (listed_stmt around stmt) ≡ first_at s (listed_form (within stmt around) (form_in stmt))
first_below s around (one_stmt k at span form) is = ap (λ b. cond b (Some (record { stmt = one_stmt k at span form; around = around })) (first_at s (listed_form (within (one_stmt k at span form) around) form))) is

pub found_here : (s : ℕ) (around : Around) (row : SuiteTree) (wanted : Option Standing) (stmt : Stmt) → Looks s around row wanted → Some (stmt_of stmt) ≡ last_by s row → stmt.no ≡ s → Some (record { stmt = stmt_of stmt; around = around }) ≡ wanted
found_here s around row wanted stmt looks is here = sym (first_here s around (stmt_of stmt) (eq-eqb (number_of (stmt_of stmt)) s (ap number_of (stmt_tree stmt) ∙ here))) ∙ in_last s around row wanted (stmt_of stmt) looks is

stmt_rise : (n : ℕ) (around : Around) (stmt : StmtTree) → Rise n (listed_stmt around stmt) → Rise n (listed_form (within stmt around) (form_in stmt))
stmt_rise n around (one_stmt k at span form) rise = rise_weaken n (k + 1) (listed_form (within (one_stmt k at span form) around) form) (omega (arith, rise.0)) rise.1

stmt_length : (around : Around) (stmt : StmtTree) → length (listed_form (within stmt around) (form_in stmt)) < length (listed_stmt around stmt)
stmt_length around (one_stmt k at span form) = omega arith

-- below the statement that the way goes through, where that is not the one
below : (s : ℕ) (around : Around) (row : SuiteTree) (wanted : Option Standing) (stmt : Stmt) → Looks s around row wanted → Some (stmt_of stmt) ≡ last_by s row → (stmt.no ≡ s → ⊥) → in_body s (within (stmt_of stmt) around) (suite_by s (form_of stmt.form.value)) ≡ wanted
below s around row wanted stmt looks is other =
    let inside = within (stmt_of stmt) around in
    let rise : Rise 0 (listed_form inside (form_in (stmt_of stmt))) = stmt_rise 0 around (stmt_of stmt) (rise_within 0 (listed_stmt around (stmt_of stmt)) (listed_suite around row) (row_within s around row (stmt_of stmt) (sym is)) looks.rise) in
    ap (λ form. in_body s inside (suite_by s form)) (sym (ap form_in (stmt_tree stmt)))
    ∙ sym (form_law 0 s inside (form_in (stmt_of stmt)) rise)
    ∙ sym (first_below s around (stmt_of stmt) (ne_eqb (number_of (stmt_of stmt)) s (λ same. other (sym (ap number_of (stmt_tree stmt)) ∙ same))))
    ∙ in_last s around row wanted (stmt_of stmt) looks is

pub no_suite : (s : ℕ) (around : Around) (row : SuiteTree) (wanted : Option Standing) (stmt : Stmt) → Looks s around row wanted → Some (stmt_of stmt) ≡ last_by s row → (stmt.no ≡ s → ⊥) → None ≡ suite_by s (form_of stmt.form.value) → None ≡ wanted
no_suite s around row wanted stmt looks is other none = ap (in_body s (within (stmt_of stmt) around)) none ∙ below s around row wanted stmt looks is other

-- so do the numbers of the first statements of its suites
pub suites_rise : (s : ℕ) (around : Around) (row : SuiteTree) (wanted : Option Standing) (stmt : Stmt) → Looks s around row wanted → Some (stmt_of stmt) ≡ last_by s row → RiseFrom 0 (first_numbers (form_suites (form_of stmt.form.value)))
suites_rise s around row wanted stmt looks is =
    subst (λ form. RiseFrom 0 (first_numbers (form_suites form))) (ap form_in (stmt_tree stmt))
    (form_rises 0 (within (stmt_of stmt) around) (form_in (stmt_of stmt)) (stmt_rise 0 around (stmt_of stmt) (rise_within 0 (listed_stmt around (stmt_of stmt)) (listed_suite around row) (row_within s around row (stmt_of stmt) (sym is)) looks.rise)))

-- the suite that the way goes through stands within the statement
suite_within : (s : ℕ) (around : Around) (stmt : Stmt) (body : SuiteTree) → Some body ≡ suite_by s (form_of stmt.form.value) → IsWithin (listed_suite (within (stmt_of stmt) around) body) (listed_form (within (stmt_of stmt) around) (form_in (stmt_of stmt)))
suite_within s around stmt body is = form_within s (within (stmt_of stmt) around) (form_in (stmt_of stmt)) body (ap (suite_by s) (ap form_in (stmt_tree stmt)) ∙ sym is)

-- one step down: as before, and fewer statements are left
pub record GoesDown (s : ℕ) (around inside : Around) (row body : SuiteTree) (wanted : Option Standing) : Type 0 where
  pub looks : Looks s inside body wanted
  pub shorter : length (listed_suite inside body) < length (listed_suite around row)

pub step_down : (s : ℕ) (around inside : Around) (row : SuiteTree) (wanted : Option Standing) (stmt : Stmt) (body : SuiteTree) → Looks s around row wanted → Some (stmt_of stmt) ≡ last_by s row → (stmt.no ≡ s → ⊥) → inside ≡ within (stmt_of stmt) around → Some body ≡ suite_by s (form_of stmt.form.value) → GoesDown s around inside row body wanted
step_down s around inside row wanted stmt body looks is other is_inside found =
    let at : Around = within (stmt_of stmt) around in
    let in_row : IsWithin (listed_stmt around (stmt_of stmt)) (listed_suite around row) = row_within s around row (stmt_of stmt) (sym is) in
    let in_stmt_rise : Rise 0 (listed_form at (form_in (stmt_of stmt))) = stmt_rise 0 around (stmt_of stmt) (rise_within 0 (listed_stmt around (stmt_of stmt)) (listed_suite around row) in_row looks.rise) in
    let in_form : IsWithin (listed_suite at body) (listed_form at (form_in (stmt_of stmt))) = suite_within s around stmt body found in
    let one : length (listed_suite at body) ≤ length (listed_form at (form_in (stmt_of stmt))) = shorter_within (listed_suite at body) (listed_form at (form_in (stmt_of stmt))) in_form in
    let two : length (listed_form at (form_in (stmt_of stmt))) < length (listed_stmt around (stmt_of stmt)) = stmt_length around (stmt_of stmt) in
    let three : length (listed_stmt around (stmt_of stmt)) ≤ length (listed_suite around row) = shorter_within (listed_stmt around (stmt_of stmt)) (listed_suite around row) in_row in
    subst (λ a. GoesDown s around a row body wanted) (sym is_inside) (record {
      looks = record {
        same = ap (in_body s at) found ∙ below s around row wanted stmt looks is other;
        rise = rise_within 0 (listed_suite at body) (listed_form at (form_in (stmt_of stmt))) in_form in_stmt_rise;
      };
      shorter = omega (arith, one, two, three);
    })

-- the number of the owner that was found
pub owner_number : (found : Found) (owner : Bor Stmt) (wanted : Option Standing) → Some (standing_of found) ≡ wanted → found.around.owner ≡ Some owner → Some owner.now.no ≡ option_and_then (λ x. option_map number_of x.around.owner) wanted
owner_number found owner wanted is is_owner =
    sym (ap (option_and_then (λ x. option_map number_of x.around.owner)) (sym is) ∙ ap (λ o. option_map number_of (option_map (λ x. stmt_of x.now) o)) is_owner ∙ ap (λ t. Some (number_of t)) (stmt_tree owner.now))
