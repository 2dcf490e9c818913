-- What is noted with reasons: the tests find what is there, and without reasons the pairs are the same.
use Rattle.std.proofs.Common.{◌≡◌, ℕ, ◌==◌, ◌&&◌, ◌||◌, Bool, true, false, List, [], ◌∷◌, inl, inr, refl, sym, ap, ◌∙◌, arith, eqb-true, eq-eqb}
use Rattle.std.proofs.lemmas.Bool.{false≢true}
use Rattle.slice_edges.specs.declared.ask.Ask.{Ask}
use Rattle.slice_edges.specs.Asks.{among, some_asks, reason_of, same_reason, is_by, among_by, some_ask_by}
use Rattle.slice_law.specs.Closed.{IsIn}
use Rattle.slice_law.specs.Edges.{Edge, Reason, by_data, by_name, by_control, by_jump, edge}

-- ---- reasons

pub reason_same : (one other : Reason) → same_reason one other ≡ true → one ≡ other
reason_same by_data by_data is = refl
reason_same by_name by_name is = refl
reason_same by_control by_control is = refl
reason_same by_jump by_jump is = refl
reason_same by_data by_name is = absurd (false≢true is)
reason_same by_data by_control is = absurd (false≢true is)
reason_same by_data by_jump is = absurd (false≢true is)
reason_same by_name by_data is = absurd (false≢true is)
reason_same by_name by_control is = absurd (false≢true is)
reason_same by_name by_jump is = absurd (false≢true is)
reason_same by_control by_data is = absurd (false≢true is)
reason_same by_control by_name is = absurd (false≢true is)
reason_same by_control by_jump is = absurd (false≢true is)
reason_same by_jump by_data is = absurd (false≢true is)
reason_same by_jump by_name is = absurd (false≢true is)
reason_same by_jump by_control is = absurd (false≢true is)

pub own_reason : (one : Reason) → same_reason one one ≡ true
own_reason by_data = refl
own_reason by_name = refl
own_reason by_control = refl
own_reason by_jump = refl

-- ---- the test of edges

or_true : (a b : Bool) → a ≡ true → (a || b) ≡ true
or_true true b is = refl
or_true false b is = absurd (false≢true is)

or_more : (a b : Bool) → b ≡ true → (a || b) ≡ true
or_more true b is = refl
or_more false b is = is

both_true : (a b : Bool) → (a && b) ≡ true → (a ≡ true) × (b ≡ true)
both_true true b is = (refl, is)
both_true false b is = absurd (false≢true is)

same_edge : (e : Edge) (reason : Reason) (s r : ℕ) → e.reason ≡ reason → e.asker ≡ s → e.asked ≡ r → e ≡ edge reason s r
same_edge e reason s r why one other =
    ap (λ n. edge e.reason n e.asked) one ∙ ap (λ n. edge e.reason s n) other ∙ ap (λ (own : Reason). edge own s r) why

pub reason_there : (edges : List Edge) (reason : Reason) (s r : ℕ) → some_ask_by edges reason s r ≡ true → IsIn edges (edge reason s r)
reason_there [] reason s r is = absurd (false≢true is)
reason_there (e ∷ edges) reason s r is = by (is_by e.reason e.asker reason s && (e.asked == r)) refl is (λ more. reason_there edges reason s r more)
  where
    by : (b : Bool) → (is_by e.reason e.asker reason s && (e.asked == r)) ≡ b → (b || some_ask_by edges reason s r) ≡ true → (some_ask_by edges reason s r ≡ true → IsIn edges (edge reason s r))
        → IsIn (e ∷ edges) (edge reason s r)
    by true same is rest =
        let parts = both_true (is_by e.reason e.asker reason s) (e.asked == r) same in
        let own = both_true (e.asker == s) (same_reason e.reason reason) parts.0 in
        inl (same_edge e reason s r (reason_same e.reason reason own.1) (omega (arith, eqb-true e.asker s own.0)) (omega (arith, eqb-true e.asked r parts.1)))
    by false same is rest = inr (rest is)

found_here : (e : Edge) (reason : Reason) (s r : ℕ) → e ≡ edge reason s r → (is_by e.reason e.asker reason s && (e.asked == r)) ≡ true
found_here e reason s r is =
    ap (λ b. (b && same_reason e.reason reason) && (e.asked == r)) (eq-eqb e.asker s (ap (λ (x : Edge). x.asker) is))
    ∙ ap (λ (own : Reason). same_reason own reason && (e.asked == r)) (ap (λ (x : Edge). x.reason) is)
    ∙ ap (λ b. b && (e.asked == r)) (own_reason reason)
    ∙ eq-eqb e.asked r (ap (λ (x : Edge). x.asked) is)

pub reason_found : (edges : List Edge) (reason : Reason) (s r : ℕ) → IsIn edges (edge reason s r) → some_ask_by edges reason s r ≡ true
reason_found [] reason s r there = absurd there
reason_found (e ∷ edges) reason s r (inl same) = or_true (is_by e.reason e.asker reason s && (e.asked == r)) (some_ask_by edges reason s r) (found_here e reason s r same)
reason_found (e ∷ edges) reason s r (inr more) = or_more (is_by e.reason e.asker reason s && (e.asked == r)) (some_ask_by edges reason s r) (reason_found edges reason s r more)

-- ---- pairs without reasons

abbrev pub for_any : (Reason → Bool) → Bool
for_any test = test by_data || (test by_name || (test by_control || test by_jump))

any_more : (own : Reason) (a b : Bool) (rest : Reason → Bool) → for_any (λ reason. ((a && same_reason own reason) && b) || rest reason) ≡ ((a && b) || for_any rest)
any_more own false b rest = refl
any_more own true false rest = none own
  where
    none : (own : Reason) → for_any (λ reason. (same_reason own reason && false) || rest reason) ≡ for_any rest
    none by_data = refl
    none by_name = refl
    none by_control = refl
    none by_jump = refl
any_more own true true rest = one own
  where
    late : (x y : Bool) → y ≡ true → (x || y) ≡ true
    late true y is = refl
    late false y is = is

    one : (own : Reason) → for_any (λ reason. (same_reason own reason && true) || rest reason) ≡ true
    one by_data = refl
    one by_name = late (rest by_data) true refl
    one by_control = late (rest by_data) (rest by_name || true) (late (rest by_name) true refl)
    one by_jump = late (rest by_data) (rest by_name || (rest by_control || true)) (late (rest by_name) (rest by_control || true) (late (rest by_control) true refl))

pub among_any : (asks : List Ask) (s r : ℕ) → for_any (λ reason. among_by asks reason s r) ≡ among asks s r
among_any [] s r = refl
among_any (a ∷ asks) s r =
    any_more (reason_of a.why) (a.asker == s) (a.asked == r) (λ reason. among_by asks reason s r) ∙ ap (λ b. ((a.asker == s) && (a.asked == r)) || b) (among_any asks s r)

pub some_any : (edges : List Edge) (s r : ℕ) → for_any (λ reason. some_ask_by edges reason s r) ≡ some_asks edges s r
some_any [] s r = refl
some_any (e ∷ edges) s r =
    any_more e.reason (e.asker == s) (e.asked == r) (λ reason. some_ask_by edges reason s r) ∙ ap (λ b. ((e.asker == s) && (e.asked == r)) || b) (some_any edges s r)

any_same : (one other : Reason → Bool) → ((reason : Reason) → one reason ≡ other reason) → for_any one ≡ for_any other
any_same one other same =
    ap (λ b. b || (one by_name || (one by_control || one by_jump))) (same by_data) ∙ ap (λ b. other by_data || (b || (one by_control || one by_jump))) (same by_name)
    ∙ ap (λ b. other by_data || (other by_name || (b || one by_jump))) (same by_control) ∙ ap (λ b. other by_data || (other by_name || (other by_control || b))) (same by_jump)

pub same_pairs : (asks : List Ask) (edges : List Edge) → ((reason : Reason) (s r : ℕ) → among_by asks reason s r ≡ some_ask_by edges reason s r) → (s r : ℕ) → among asks s r ≡ some_asks edges s r
same_pairs asks edges same s r =
    sym (among_any asks s r) ∙ any_same (λ reason. among_by asks reason s r) (λ reason. some_ask_by edges reason s r) (λ reason. same reason s r) ∙ some_any edges s r
