-- The pairs that a pass noted are those of the edges, and all that the least set is made of is below the count of statements.
use Rattle.std.proofs.Common.{◌≡◌, ℕ, ◌<◌, ◌==◌, ◌&&◌, ◌||◌, Bool, true, false, List, [], ◌∷◌, map, inl, inr, refl, sym, ap, subst, ◌∙◌, eqb-true, eq-eqb}
use Rattle.std.proofs.lemmas.Bool.{and_parts, false≢true}
use Rattle.py_model.specs.Moment.{Moment}
use Rattle.py_model.specs.Store.{RunStore}
use Rattle.py_tree.specs.Numbering.{IsNumbered}
use Rattle.py_tree.specs.Tree.{ScriptTree}
use Rattle.slice_edges.specs.declared.ask.Ask.{Ask}
use Rattle.slice_edges.specs.Asks.{among, some_asks}
use Rattle.slice_edges.proofs.TestLaws.{edge_there, edge_found}
use Rattle.slice_law.specs.Closed.{IsIn, roots}
use Rattle.slice_law.specs.Edges.{run_asks}
use Rattle.slicer.specs.Along.{AreBelow, ArePairsBelow}
use Rattle.slicer.specs.AskedPairs.{pair_of, AreAllPairs}
use Rattle.slicer.specs.Pairs.{IsPairOf, AreAskedIn, SameNumbers}
use Rattle.slicer.specs.ParentPairs.{parents_below}
use Rattle.slicer.proofs.EdgesBelow.{edge_of, run_below, roots_below}
use Rattle.slicer.proofs.ParentPairs.{below_join, pairs_below}
use Rattle.slicer.proofs.ToldBelow.{TellsBelow, one_of, all_of}

among_there : (noted : List Ask) (s r : ℕ) → among noted s r ≡ true → IsIn (map pair_of noted) (s, r)
among_there [] s r is = absurd (false≢true is)
among_there (a ∷ noted) s r is = by ((a.asker == s) && (a.asked == r)) refl is (λ more. among_there noted s r more)
  where
    same : a.asker ≡ s → a.asked ≡ r → pair_of a ≡ (s, r)
    same one other = ap (λ (n : ℕ). (n, a.asked)) one ∙ ap (λ (n : ℕ). (s, n)) other

    by : (b : Bool) → ((a.asker == s) && (a.asked == r)) ≡ b → (b || among noted s r) ≡ true → (among noted s r ≡ true → IsIn (map pair_of noted) (s, r)) → IsIn (map pair_of (a ∷ noted)) (s, r)
    by true both is more = let parts = and_parts (a.asker == s) (a.asked == r) both in inl (same (eqb-true a.asker s parts.0) (eqb-true a.asked r parts.1))
    by false both is more = inr (more is)

here : (a : Ask) (pair : ℕ × ℕ) → pair_of a ≡ pair → ((a.asker == pair.0) && (a.asked == pair.1)) ≡ true
here a pair is =
    ap (λ b. b && (a.asked == pair.1)) (eq-eqb a.asker pair.0 (ap (λ (p : ℕ × ℕ). p.0) is)) ∙ eq-eqb a.asked pair.1 (ap (λ (p : ℕ × ℕ). p.1) is)

or_first : (a b : Bool) → a ≡ true → (a || b) ≡ true
or_first true b is = refl
or_first false b is = absurd (false≢true is)

or_second : (a b : Bool) → b ≡ true → (a || b) ≡ true
or_second true b is = refl
or_second false b is = is

among_found : (noted : List Ask) (pair : ℕ × ℕ) → IsIn (map pair_of noted) pair → among noted pair.0 pair.1 ≡ true
among_found [] pair there = absurd there
among_found (a ∷ noted) pair (inl is) = or_first ((a.asker == pair.0) && (a.asked == pair.1)) (among noted pair.0 pair.1) (here a pair is)
among_found (a ∷ noted) pair (inr there) = or_second ((a.asker == pair.0) && (a.asked == pair.1)) (among noted pair.0 pair.1) (among_found noted pair there)

module _ (script : ScriptTree) (told : List Moment) where
  pub pairs_asked : (noted : List Ask) → ((s r : ℕ) → among noted s r ≡ some_asks (run_asks script told) s r) → AreAskedIn script told (map pair_of noted)
  pairs_asked noted same = record {
    each = λ e there. among_there noted e.asker e.asked (same e.asker e.asked ∙ edge_found (run_asks script told) e.asker e.asked (e, (there, (refl, refl))));
    only = λ pair there.
        let found = edge_there (run_asks script told) pair.0 pair.1 (sym (same pair.0 pair.1) ∙ among_found noted pair there) in
        record { edge = found.0; there = found.1.0; asker = found.1.1.0; asked_for = found.1.1.1 };
  }

  module _ (numbered : IsNumbered script) (below : TellsBelow script.count told) where
    asked_below : (pairs : List (ℕ × ℕ)) → ((pair : ℕ × ℕ) → IsIn pairs pair → IsPairOf (run_asks script told) pair) → ArePairsBelow script.count pairs
    asked_below [] only = tt
    asked_below (pair ∷ pairs) only =
        let from = only pair (inl refl) in
        let both = edge_of script numbered (run_asks script told) from.edge (run_below script numbered told below) from.there in
        ((subst (λ s. s < script.count) from.asker both.0, subst (λ s. s < script.count) from.asked_for both.1), asked_below pairs (λ p there. only p (inr there)))

    pub pairs_in_script : (pairs : List (ℕ × ℕ)) → AreAllPairs script told pairs → ArePairsBelow script.count pairs
    pairs_in_script pairs all = subst (ArePairsBelow script.count) (sym all.is)
        (below_join script.count all.asked (parents_below script script.count) (asked_below all.asked all.are.only) (pairs_below script numbered script.count))

    pub roots_in_script : (opening : RunStore) (numbers : List ℕ) → SameNumbers numbers (roots opening told) → AreBelow script.count numbers
    roots_in_script opening numbers same = all_of script.count numbers (λ s there. one_of script.count (roots opening told) s (roots_below script.count opening told below) (same.each s there))
