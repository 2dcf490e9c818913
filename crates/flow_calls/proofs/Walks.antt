-- What the walks of an operation that happened came to, read off the moment that was told of it.
use Rattle.std.proofs.Common.{◌≡◌, ℕ, suc, ◌+◌, ◌-◌, Bool, true, false, if◌then◌else◌, List, [], ◌∷◌, map, length, Option, Ok, refl, ap, sym, ◌∙◌, subst, nat_le}
use Rattle.std.proofs.lemmas.List.{length-map}
use Rattle.std.specs.List.{list_any}
use Rattle.std.specs.Option.{option_map}
use Rattle.prov_base.specs.declared.place.Pos.{Pos}
use Rattle.prov_base.specs.declared.refusal.Memory.{Memory}
use Rattle.py_value.specs.Contents.{Contents, contents}
use Rattle.py_value.specs.Seen.{SeenAccess, SeenKind, access_seen, kind_seen}
use Rattle.py_value.specs.Values.{ValuesView}
use Rattle.py_value.specs.declared.access.Access.{Access}
use Rattle.py_value.specs.declared.access.Access.TheVariants.{Read, Set, Update}
use Rattle.py_value.specs.declared.access.Location.TheVariants.{Var, Len, Item, Entry, Order, File, Offset, Closed, Method, Base}
use Rattle.py_value.specs.declared.value.Value.{Value}
use Rattle.py_model.specs.Act.{Walked}
use Rattle.py_model.specs.Capture.{Capture}
use Rattle.py_model.specs.Doing.{Fits, Stands, Knew, ForEach, IsDone}
use Rattle.py_model.specs.Effect.{Outcome, answered, unanswered, unpaid, Effect, accesses_in, weight, cost}
use Rattle.py_model.specs.Moment.{Moment as SeenMoment, does}
use Rattle.py_model.specs.Operations.{Op as SeenOp}
use Rattle.py_model.specs.Plan.{Answer as SeenAnswer}
use Rattle.py_model.specs.Running.{State, did, too_dear, askings_at, note, walked, sets_an_entry, performed, happened, effect_of, operation}
use Rattle.py_model.specs.Told.{answer_seen, op_seen, moment_seen, TellsOn}
use Rattle.py_model.specs.declared.doer.Deed.{Deed}
use Rattle.py_model.specs.declared.moment.Op.{Op}
use Rattle.py_model.specs.declared.moment.Moment.TheVariants.{Do}
use Rattle.interp_eval.proofs.Payments.{IsPaidBy, did_pays}
use Rattle.interp_eval.proofs.Performed.{IsWordFor}
use Rattle.flow_calls.specs.Walking.{WalkedSo, HasWalked, sets_attribute}
use Rattle.flow_calls.specs.declared.walking.Walk.{Walk}

-- an attribute is set by the accesses where the moment says so
pub sets_so : (table : ValuesView) (accesses : List Access) → sets_an_entry (map (access_seen table) accesses) ≡ list_any sets_attribute accesses
sets_so table [] = refl
sets_so table (Set (Entry o key) content ∷ rest) = refl
sets_so table (Set (Var scope name) content ∷ rest) = sets_so table rest
sets_so table (Set (Len o) content ∷ rest) = sets_so table rest
sets_so table (Set (Item o i) content ∷ rest) = sets_so table rest
sets_so table (Set (Order o) content ∷ rest) = sets_so table rest
sets_so table (Set (File path) content ∷ rest) = sets_so table rest
sets_so table (Set (Offset o) content ∷ rest) = sets_so table rest
sets_so table (Set (Closed o) content ∷ rest) = sets_so table rest
sets_so table (Set (Method place name) content ∷ rest) = sets_so table rest
sets_so table (Set (Base place) content ∷ rest) = sets_so table rest
sets_so table (Read place ∷ rest) = sets_so table rest
sets_so table (Update place change ∷ rest) = sets_so table rest

did_walked : (a b : SeenAnswer) (c d : Walked) (t u : State) → did a c t ≡ did b d u → d ≡ c
did_walked a b c d t u is = cc

did_next : (a b : SeenAnswer) (c d : Walked) (t u : State) → did a c t ≡ did b d u → u ≡ t
did_next a b c d t u is = cc

record DidSo (at : Pos) (op : SeenOp) (values : List Contents) (e : Effect) (came : Walked) (s next : State) : Type 0 where
  answer : SeenAnswer
  came_is : came.is_exception ≡ sets_an_entry (accesses_in e.touches)
  next_is : next ≡ performed at op values answer e s

module _ (capture : Capture) (at : Pos) (op : SeenOp) (values : List Contents) where
  did_so : (e : Effect) (o : Outcome) (s : State) (answer : SeenAnswer) (came : Walked) (next : State) → happened at op values e o s ≡ did answer came next → DidSo at op values e came s next
  did_so e (answered own) s answer came next is = by_cost (nat_le (cost e) s.left) is
    where
      by_cost : (b : Bool) → (if b then did own (walked s.store (accesses_in e.touches)) (performed at op values own e s) else too_dear s) ≡ did answer came next → DidSo at op values e came s next
      by_cost true is = record { answer = own; came_is = ap (λ (w : Walked). w.is_exception) (did_walked own answer _ came _ next is); next_is = did_next own answer _ came _ next is }
      by_cost false is = absurd cc
  did_so e unanswered s answer came next is = absurd cc
  did_so e unpaid s answer came next is = absurd cc

  told_accesses : (a b : SeenAnswer) (made other : Option SeenKind) (xs ys : List SeenAccess) (v w : ℕ) (told more : List SeenMoment)
      → does at op.no values a made xs v ∷ told ≡ does at op.no values b other ys w ∷ more → xs ≡ ys
  told_accesses a b made other xs ys v w told more is = cc

  told_so : (e : Effect) (s t next : State) (answer : SeenAnswer) (came : Walked) (made : Option SeenKind) (accesses : List SeenAccess) (w : ℕ) → DidSo at op values e came t next
      → next.told ≡ does at op.no values answer made accesses w ∷ s.told → came.is_exception ≡ sets_an_entry accesses
  told_so e s t next answer came made accesses w so told =
      so.came_is ∙ ap sets_an_entry (told_accesses so.answer answer e.made made (accesses_in e.touches) accesses (weight e) w t.told s.told (sym (ap (λ (u : State). u.told) so.next_is) ∙ told))

  pub did_walks : (s next : State) (answer : SeenAnswer) (came : Walked) (made : Option SeenKind) (accesses : List SeenAccess) (w : ℕ) → operation capture at op values s ≡ did answer came next
      → next.told ≡ does at op.no values answer made accesses w ∷ s.told → came.is_exception ≡ sets_an_entry accesses
  did_walks s next answer came made accesses w is told = by_left (nat_le 1 s.left) is
    where
      by_left : (b : Bool)
          → (if b then (let e = effect_of capture at op values s in happened at op values e e.outcome (note at (suc (askings_at at s.askings)) e.touches s)) else too_dear s) ≡ did answer came next
          → came.is_exception ≡ sets_an_entry accesses
      by_left true is = told_so (effect_of capture at op values s) s (note at (suc (askings_at at s.askings)) (effect_of capture at op values s).touches s) next answer came made accesses w
          (did_so (effect_of capture at op values s) (effect_of capture at op values s).outcome _ answer came next is) told
      by_left false is = absurd cc

module _ (first mid last : Fits) (before between after : Stands) (number : ℕ) (word : IsWordFor number mid before between) (kept : Knew mid last) (at : Pos) (op : Op) (values : List Value) (left : ℕ)
    (deed : Deed) (done : ForEach last between (λ table capture s. s.left ≡ left → IsDone at op values deed (after table capture) table capture s)) where
  paid : (table : ValuesView) (capture : Capture) (s : State) → (d : IsDone at op values deed (after table capture) table capture s) → IsPaidBy (1 + length deed.accesses + deed.weight) s d.next
  paid table capture s d = subst (λ n. IsPaidBy (1 + n + deed.weight) s d.next) (length-map deed.accesses (access_seen table))
      (did_pays capture at (op_seen table op) (map (contents table) values) s d.next (answer_seen table deed.answer) d.walked (option_map (kind_seen table) deed.made)
      (map (access_seen table) deed.accesses) deed.weight d.happened d.told_is)

  pub has_walked : (args : List Value) → args ≡ values → (rest : ℕ) (was is : Option (List SeenMoment)) (has_set : Bool) → has_set ≡ list_any sets_attribute deed.accesses → rest ≡ left - (1 + length deed.accesses + deed.weight)
      → ((table : ValuesView) (capture : Capture) → last table capture
      → TellsOn was is (λ told more. more ≡ moment_seen table (Do at op.no args deed.answer deed.made deed.accesses deed.weight) ∷ told))
      → ForEach last before (λ table capture s. s.left ≡ left → WalkedSo at op values deed.answer deed.method has_set rest (after table capture) was is table capture s)
  has_walked args same rest was is has_set sets paid_is tells table capture fit s stands steps =
      let d = done table capture fit s (word table capture (kept table capture fit) s stands).1 steps in
      record {
        next = d.next;
        came = d.walked;
        moment = moment_seen table (Do at op.no args deed.answer deed.made deed.accesses deed.weight);
        happened = d.happened;
        method_is = d.method_is;
        exception_is =
            did_walks capture at (op_seen table op) (map (contents table) values) s d.next (answer_seen table deed.answer) d.walked (option_map (kind_seen table) deed.made) (map (access_seen table) deed.accesses) deed.weight
            d.happened d.told_is ∙ sets_so table deed.accesses ∙ sym sets;
        told_is = subst (λ vs. d.next.told ≡ moment_seen table (Do at op.no vs deed.answer deed.made deed.accesses deed.weight) ∷ s.told) (sym same) d.told_is;
        left_is = (paid table capture s d).left_is ∙ ap (λ n. n - (1 + length deed.accesses + deed.weight)) steps ∙ sym paid_is;
        stands = d.stands;
        tells = tells table capture fit;
        named = d.named.0;
      }

-- What is known of what an operation came to is known of what that was found to be.
pub known_walk : (at : Pos) (op : Op) (values : List Value) (left rest : ℕ) (fits : Fits) (before after : Stands) (was is : Option (List SeenMoment)) (came other : Walk) → came ≡ other
    → HasWalked {E = Memory} at op values left rest fits before after was is (Ok came) → HasWalked {E = Memory} at op values left rest fits before after was is (Ok other)
known_walk at op values left rest fits before after was is came other same known = subst (λ came. HasWalked {E = Memory} at op values left rest fits before after was is (Ok came)) same known
