-- What was found are the dependences of a run.
use Rattle.std.proofs.Common.{◌≡◌, ℕ, zero, suc, ◌<◌, ◌==◌, ◌&&◌, ◌||◌, ◌⊎◌, Bool, true, false, List, [], ◌∷◌, ◌++◌, Option, Some, None, option_map, slice_get, inl, inr, refl, sym, ap, subst, ◌∙◌, arith, eqb-true, eq-eqb}
use Rattle.std.specs.List.Sorted.{IsStrictlySortedBy}
use Rattle.std.specs.Option.{option_and_then}
use Rattle.std.specs.Ordering.{is_eq}
use Rattle.std.proofs.lemmas.Bool.{false≢true}
use Rattle.std.proofs.lemmas.Bool.{eqb-false}
use Rattle.prov_base.specs.declared.place.Pos.{Pos}
use Rattle.py_tree.specs.Numbering.{IsNumbered}
use Rattle.py_tree.specs.Owners.{Standing, statements, number_at, parent_of}
use Rattle.py_tree.specs.Placed.{place_at}
use Rattle.py_tree.specs.Tree.{StmtTree, ScriptTree, number_of}
use Rattle.py_tree.proofs.PlacedLaws.{by_number}
use Rattle.py_model.specs.Moment.{Moment}
use Rattle.py_model.specs.Store.{opening}
use Rattle.slice_law.specs.Closed.{IsIn}
use Rattle.slice_law.specs.Edges.{Edge, Reason, by_control, edge, edges, parents_asked, run_asks}
use Rattle.slice_law.proofs.ClosedSets.{listed_asks}
use Rattle.slice_law.proofs.Reachables.{in_front, in_behind}
use Rattle.slice_edges.specs.declared.ask.Ask.{Ask}
use Rattle.slice_edges.specs.Asks.{reason_of, same_reason, is_by, among_by, some_ask_by}
use Rattle.slice_edges.proofs.BelowCount.{AreBelow, below_count}
use Rattle.slice_edges.proofs.ReasonLaws.{reason_same, own_reason, reason_there, reason_found}
use Rattle.dep_query.specs.declared.dependence.Dependence.{Dependence}
use Rattle.dep_query.specs.declared.dependence.Kind.{Kind}
use Rattle.dep_query.specs.declared.dependence.Kind.TheVariants.{Control}
use Rattle.dep_query.specs.Dependences.{kind_by, dependence_cmp, IsDependence, AreDependences}
use Rattle.dep_query.specs.Noting.{is_found, is_between, is_told, some_told, is_parent_told, some_parent}
use Rattle.dep_query.proofs.Order.{same_dependence, own_dependence}

or_true : (a b : Bool) → a ≡ true → (a || b) ≡ true
or_true true b is = refl
or_true false b is = absurd (false≢true is)

or_more : (a b : Bool) → b ≡ true → (a || b) ≡ true
or_more true b is = refl
or_more false b is = is

either : (a b : Bool) → (a || b) ≡ true → (a ≡ true) ⊎ (b ≡ true)
either true b is = inl refl
either false b is = inr is

both_true : (a b : Bool) → (a && b) ≡ true → (a ≡ true) × (b ≡ true)
both_true true b is = (refl, is)
both_true false b is = absurd (false≢true is)

-- ---- what is in a list

pub there_found : (keys : List Dependence) (d : Dependence) → IsIn keys d → is_found keys d ≡ true
there_found [] d there = absurd there
there_found (k ∷ keys) d (inl same) = or_true (is_eq (dependence_cmp d k)) (is_found keys d) (subst (λ (e : Dependence). is_eq (dependence_cmp d e) ≡ true) (sym same) (own_dependence d))
there_found (k ∷ keys) d (inr more) = or_more (is_eq (dependence_cmp d k)) (is_found keys d) (there_found keys d more)

pub found_there : (keys : List Dependence) (d : Dependence) → is_found keys d ≡ true → IsIn keys d
found_there [] d is = absurd (false≢true is)
found_there (k ∷ keys) d is = by (either (is_eq (dependence_cmp d k)) (is_found keys d) is) (found_there keys d)
  where
    by : (is_eq (dependence_cmp d k) ≡ true) ⊎ (is_found keys d ≡ true) → (is_found keys d ≡ true → IsIn keys d) → IsIn (k ∷ keys) d
    by (inl same) rest = inl (sym (same_dependence d k same))
    by (inr more) rest = inr (rest more)

-- ---- what is told of two statements

-- the places of the two, and the kind
record Told (places : List Pos) (kind_is : Kind) (s r : ℕ) (d : Dependence) : Type 0 where
  asker : slice_get places s ≡ Some d.asker
  asked : slice_get places r ≡ Some d.asked
  kind : kind_is ≡ d.kind

from_told : (places : List Pos) (kind : Kind) (s r : ℕ) (d : Dependence) → is_told places kind s r d ≡ true → Told places kind s r d
from_told places kind s r d is = by (slice_get places s) (slice_get places r) refl refl is
  where
    by : (one other : Option Pos) → slice_get places s ≡ one → slice_get places r ≡ other → is_between kind one other d ≡ true → Told places kind s r d
    by None other at_s at_r is = absurd (false≢true is)
    by (Some asker) None at_s at_r is = absurd (false≢true is)
    by (Some asker) (Some asked) at_s at_r is =
        let same = same_dependence (record { asker = asker; asked = asked; kind = kind }) d is in
        record {
          asker = at_s ∙ ap (λ (e : Dependence). Some e.asker) same;
          asked = at_r ∙ ap (λ (e : Dependence). Some e.asked) same;
          kind = ap (λ (e : Dependence). e.kind) same;
        }

to_told : (places : List Pos) (kind : Kind) (s r : ℕ) (d : Dependence) → Told places kind s r d → is_told places kind s r d ≡ true
to_told places kind s r d told =
    ap (λ found. is_between kind found (slice_get places r) d) told.asker ∙ ap (λ found. is_between kind (Some d.asker) found d) told.asked
    ∙ ap (λ (k : Kind). is_eq (dependence_cmp (record { asker = d.asker; asked = d.asked; kind = k }) d)) told.kind ∙ own_dependence d

-- ---- asks that were noted

abbrev kind_for : Ask → Kind
kind_for a = kind_by (reason_of a.why)

-- one of the asks tells it
record Asks (places : List Pos) (asks : List Ask) (d : Dependence) : Type 0 where
  a : Ask
  there : IsIn asks a
  told : Told places (kind_for a) a.asker a.asked d

one_asks : (places : List Pos) (asks : List Ask) (d : Dependence) → some_told places asks d ≡ true → Asks places asks d
one_asks places [] d is = absurd (false≢true is)
one_asks places (a ∷ asks) d is = by (either (is_told places (kind_for a) a.asker a.asked d) (some_told places asks d) is) (one_asks places asks d)
  where
    later : Asks places asks d → Asks places (a ∷ asks) d
    later one = record { a = one.a; there = inr one.there; told = one.told }

    by : (is_told places (kind_for a) a.asker a.asked d ≡ true) ⊎ (some_told places asks d ≡ true) → (some_told places asks d ≡ true → Asks places asks d) → Asks places (a ∷ asks) d
    by (inl here) rest = record { a = a; there = inl refl; told = from_told places (kind_for a) a.asker a.asked d here }
    by (inr more) rest = later (rest more)

asked_tells : (places : List Pos) (asks : List Ask) (a : Ask) (d : Dependence) → IsIn asks a → Told places (kind_for a) a.asker a.asked d → some_told places asks d ≡ true
asked_tells places [] a d there told = absurd there
asked_tells places (first ∷ asks) a d (inl same) told =
    or_true (is_told places (kind_for first) first.asker first.asked d) (some_told places asks d)
    (subst (λ (b : Ask). is_told places (kind_for b) b.asker b.asked d ≡ true) (sym same) (to_told places (kind_for a) a.asker a.asked d told))
asked_tells places (first ∷ asks) a d (inr more) told = or_more (is_told places (kind_for first) first.asker first.asked d) (some_told places asks d) (asked_tells places asks a d more told)

-- the test of asks finds what is there, and only that
ask_among : (asks : List Ask) (a : Ask) → IsIn asks a → among_by asks (reason_of a.why) a.asker a.asked ≡ true
ask_among [] a there = absurd there
ask_among (first ∷ asks) a (inl same) =
    or_true (is_by (reason_of first.why) first.asker (reason_of a.why) a.asker && (first.asked == a.asked)) (among_by asks (reason_of a.why) a.asker a.asked)
    (subst (λ (b : Ask). (is_by (reason_of b.why) b.asker (reason_of a.why) a.asker && (b.asked == a.asked)) ≡ true) (sym same) own)
  where
    own : (is_by (reason_of a.why) a.asker (reason_of a.why) a.asker && (a.asked == a.asked)) ≡ true
    own = ap (λ b. (b && same_reason (reason_of a.why) (reason_of a.why)) && (a.asked == a.asked)) (eq-eqb a.asker a.asker refl)
        ∙ ap (λ b. b && (a.asked == a.asked)) (own_reason (reason_of a.why)) ∙ eq-eqb a.asked a.asked refl
ask_among (first ∷ asks) a (inr more) =
    or_more (is_by (reason_of first.why) first.asker (reason_of a.why) a.asker && (first.asked == a.asked)) (among_by asks (reason_of a.why) a.asker a.asked) (ask_among asks a more)

record Noted (asks : List Ask) (reason : Reason) (s r : ℕ) : Type 0 where
  a : Ask
  there : IsIn asks a
  why : reason_of a.why ≡ reason
  asker : a.asker ≡ s
  asked : a.asked ≡ r

among_noted : (asks : List Ask) (reason : Reason) (s r : ℕ) → among_by asks reason s r ≡ true → Noted asks reason s r
among_noted [] reason s r is = absurd (false≢true is)
among_noted (a ∷ asks) reason s r is = by (either (is_by (reason_of a.why) a.asker reason s && (a.asked == r)) (among_by asks reason s r) is) (among_noted asks reason s r)
  where
    later : Noted asks reason s r → Noted (a ∷ asks) reason s r
    later one = record { a = one.a; there = inr one.there; why = one.why; asker = one.asker; asked = one.asked }

    by : ((is_by (reason_of a.why) a.asker reason s && (a.asked == r)) ≡ true) ⊎ (among_by asks reason s r ≡ true) → (among_by asks reason s r ≡ true → Noted asks reason s r) → Noted (a ∷ asks) reason s r
    by (inl here) rest =
        let parts = both_true (is_by (reason_of a.why) a.asker reason s) (a.asked == r) here in
        let own = both_true (a.asker == s) (same_reason (reason_of a.why) reason) parts.0 in
        record {
          a = a;
          there = inl refl;
          why = reason_same (reason_of a.why) reason own.1;
          asker = omega (arith, eqb-true a.asker s own.0);
          asked = omega (arith, eqb-true a.asked r parts.1);
        }
    by (inr more) rest = later (rest more)

-- ---- parents

-- a statement below a number with its parent
record Parent (places : List Pos) (script : ScriptTree) (n : ℕ) (d : Dependence) : Type 0 where
  s : ℕ
  p : ℕ
  parent : parent_of script s ≡ Some p
  told : Told places Control s p d

one_parent : (places : List Pos) (script : ScriptTree) (n : ℕ) (d : Dependence) → some_parent places script n d ≡ true → Parent places script n d
one_parent places script zero d is = absurd (false≢true is)
one_parent places script (suc n) d is = by (either (is_parent_told places n (parent_of script n) d) (some_parent places script n d) is) (one_parent places script n d)
  where
    later : Parent places script n d → Parent places script (suc n) d
    later one = record { s = one.s; p = one.p; parent = one.parent; told = one.told }

    here : (o : Option ℕ) → parent_of script n ≡ o → is_parent_told places n o d ≡ true → Parent places script (suc n) d
    here None at is = absurd (false≢true is)
    here (Some p) at is = record { s = n; p = p; parent = at; told = from_told places Control n p d is }

    by : (is_parent_told places n (parent_of script n) d ≡ true) ⊎ (some_parent places script n d ≡ true) → (some_parent places script n d ≡ true → Parent places script n d) → Parent places script (suc n) d
    by (inl now) rest = here (parent_of script n) refl now
    by (inr more) rest = later (rest more)

parent_tells : (places : List Pos) (script : ScriptTree) (n s p : ℕ) (d : Dependence) → s < n → parent_of script s ≡ Some p → Told places Control s p d → some_parent places script n d ≡ true
parent_tells places script zero s p d below parent told = absurd (omega (arith, below))
parent_tells places script (suc n) s p d below parent told = by (n == s) refl (λ less. parent_tells places script n s p d less parent told)
  where
    by : (b : Bool) → (n == s) ≡ b → (s < n → some_parent places script n d ≡ true) → (is_parent_told places n (parent_of script n) d || some_parent places script n d) ≡ true
    by true same rest = or_true (is_parent_told places n (parent_of script n) d) (some_parent places script n d)
        (subst (λ k. is_parent_told places k (parent_of script k) d ≡ true) (sym (eqb-true n s same)) (ap (λ o. is_parent_told places s o d) parent ∙ to_told places Control s p d told))
    by false other rest = or_more (is_parent_told places n (parent_of script n) d) (some_parent places script n d) (rest (omega (arith, below, eqb-false n s other)))

-- a statement that stands in another, and the edge of the two
record HasOwner (xs : List Standing) (e : Edge) : Type 0 where
  x : Standing
  owner : StmtTree
  listed : IsIn xs x
  is : x.around.owner ≡ Some owner
  edge_is : edge by_control (number_at x) (number_of owner) ≡ e

edge_has_owner : (script : ScriptTree) (xs : List Standing) (e : Edge) → IsIn (parents_asked script xs) e → HasOwner xs e
edge_has_owner script [] e there = absurd there
edge_has_owner script (x ∷ xs) e there = by_owner x.around.owner refl there (edge_has_owner script xs e)
  where
    later : HasOwner xs e → HasOwner (x ∷ xs) e
    later has = record { x = has.x; owner = has.owner; listed = inr has.listed; is = has.is; edge_is = has.edge_is }

    by_owner : (owner : Option StmtTree) → x.around.owner ≡ owner
        → IsIn (elim owner [ None ↦ parents_asked script xs | Some o ↦ edge by_control (number_at x) (number_of o) ∷ parents_asked script xs ]) e
        → (IsIn (parents_asked script xs) e → HasOwner xs e) → HasOwner (x ∷ xs) e
    by_owner None is there more = later (more there)
    by_owner (Some o) is (inl same) more = record { x = x; owner = o; listed = inl refl; is = is; edge_is = same }
    by_owner (Some o) is (inr there) more = later (more there)

one_below : (m : ℕ) (xs : List Standing) (x : Standing) → AreBelow m xs → IsIn xs x → number_at x < m
one_below m [] x below there = absurd there
one_below m (y ∷ ys) x below (inl same) = subst (λ z. number_at z < m) same below.0
one_below m (y ∷ ys) x below (inr more) = one_below m ys x below.1 more

in_either : {A : Type 0} (xs ys : List A) (x : A) → IsIn (xs ++ ys) x → IsIn xs x ⊎ IsIn ys x
in_either [] ys x there = inr there
in_either (y ∷ xs) ys x (inl is) = inl (inl is)
in_either (y ∷ xs) ys x (inr there) = by_side (in_either xs ys x there)
  where
    by_side : IsIn xs x ⊎ IsIn ys x → IsIn (y ∷ xs) x ⊎ IsIn ys x
    by_side (inl is) = inl (inr is)
    by_side (inr is) = inr is

module _ (script : ScriptTree) (numbered : IsNumbered script) (told : List Moment) (places : List Pos) (stand : (s : ℕ) → slice_get places s ≡ place_at script s) (asks : List Ask)
    (same : (reason : Reason) (s r : ℕ) → among_by asks reason s r ≡ some_ask_by (run_asks script told) reason s r) (d : Dependence) where
  at_place : (s : ℕ) (at : Pos) → slice_get places s ≡ Some at → place_at script s ≡ Some at
  at_place s at is = sym (stand s) ∙ is

  from_edge : (reason : Reason) (s r : ℕ) → Told places (kind_by reason) s r d → IsIn (edges script told) (edge reason s r) → IsDependence script told d
  from_edge reason s r tells there = record {
    edge = edge reason s r;
    there = there;
    asker = at_place s d.asker tells.asker;
    asked = at_place r d.asked tells.asked;
    kind = sym tells.kind;
  }

  by_ask : Asks places asks d → IsDependence script told d
  by_ask one =
      let reason = reason_of one.a.why in
      from_edge reason one.a.asker one.a.asked one.told
      (in_behind (parents_asked script (statements script)) (run_asks script told) (edge reason one.a.asker one.a.asked)
      (reason_there (run_asks script told) reason one.a.asker one.a.asked (sym (same reason one.a.asker one.a.asked) ∙ ask_among asks one.a one.there)))

  by_parent : (n : ℕ) → Parent places script n d → IsDependence script told d
  by_parent n one =
      from_edge by_control one.s one.p one.told
      (in_front (parents_asked script (statements script)) (run_asks script told) (edge by_control one.s one.p) (listed_asks script (opening [] [] []) told (statements script) one.s one.p one.parent))

  pub from_found : (some_told places asks d || some_parent places script script.count d) ≡ true → IsDependence script told d
  from_found is = by (either (some_told places asks d) (some_parent places script script.count d) is)
    where
      by : (some_told places asks d ≡ true) ⊎ (some_parent places script script.count d ≡ true) → IsDependence script told d
      by (inl asked) = by_ask (one_asks places asks d asked)
      by (inr parent) = by_parent script.count (one_parent places script script.count d parent)

  -- the edge has these places, and this kind
  tells_edge : (found : IsDependence script told d) → Told places (kind_by found.edge.reason) found.edge.asker found.edge.asked d
  tells_edge found = record {
    asker = stand found.edge.asker ∙ found.asker;
    asked = stand found.edge.asked ∙ found.asked;
    kind = sym found.kind;
  }

  to_ask : (found : IsDependence script told d) → IsIn (run_asks script told) found.edge → some_told places asks d ≡ true
  to_ask found there =
      let e = found.edge in
      let one = among_noted asks e.reason e.asker e.asked (same e.reason e.asker e.asked ∙ reason_found (run_asks script told) e.reason e.asker e.asked there) in
      asked_tells places asks one.a d one.there
      (subst (λ s. Told places (kind_for one.a) s one.a.asked d) (sym one.asker) (subst (λ r. Told places (kind_for one.a) e.asker r d) (sym one.asked)
      (subst (λ (reason : Reason). Told places (kind_by reason) e.asker e.asked d) (sym one.why) (tells_edge found))))

  to_parent : (found : IsDependence script told d) → IsIn (parents_asked script (statements script)) found.edge → some_parent places script script.count d ≡ true
  to_parent found there =
      let has = edge_has_owner script (statements script) found.edge there in
      let parent : parent_of script (number_at has.x) ≡ Some (number_of has.owner) =
      ap (λ (o : Option Standing). option_and_then (λ (x : Standing). option_map number_of x.around.owner) o) (by_number script numbered has.x has.listed)
      ∙ ap (λ (o : Option StmtTree). option_map number_of o) has.is in
      parent_tells places script script.count (number_at has.x) (number_of has.owner) d (one_below script.count (statements script) has.x (below_count script numbered) has.listed) parent
      (subst (λ s. Told places Control s (number_of has.owner) d) (sym (ap (λ (e : Edge). e.asker) has.edge_is))
      (subst (λ r. Told places Control found.edge.asker r d) (sym (ap (λ (e : Edge). e.asked) has.edge_is))
      (subst (λ (reason : Reason). Told places (kind_by reason) found.edge.asker found.edge.asked d) (sym (ap (λ (e : Edge). e.reason) has.edge_is)) (tells_edge found))))

  pub to_found : IsDependence script told d → (some_told places asks d || some_parent places script script.count d) ≡ true
  to_found found = by (in_either (parents_asked script (statements script)) (run_asks script told) found.edge found.there)
    where
      by : IsIn (parents_asked script (statements script)) found.edge ⊎ IsIn (run_asks script told) found.edge → (some_told places asks d || some_parent places script script.count d) ≡ true
      by (inl parent) = or_more (some_told places asks d) (some_parent places script script.count d) (to_parent found parent)
      by (inr asked) = or_true (some_told places asks d) (some_parent places script script.count d) (to_ask found asked)

pub all_found : (script : ScriptTree) (numbered : IsNumbered script) (told : List Moment) (places : List Pos) (stand : (s : ℕ) → slice_get places s ≡ place_at script s) (asks : List Ask)
    (same : (reason : Reason) (s r : ℕ) → among_by asks reason s r ≡ some_ask_by (run_asks script told) reason s r) (list : List Dependence) → IsStrictlySortedBy dependence_cmp list
    → ((d : Dependence) → is_found list d ≡ (some_told places asks d || some_parent places script script.count d)) → AreDependences script told list
all_found script numbered told places stand asks same list in_order found = record {
  in_order = in_order;
  each = λ d there. from_found script numbered told places stand asks same d (sym (found d) ∙ there_found list d there);
  only = λ d is. found_there list d (found d ∙ to_found script numbered told places stand asks same d is);
}
