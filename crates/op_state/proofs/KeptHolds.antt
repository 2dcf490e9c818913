-- How what is held changes as an operation comes to its end.
use Rattle.std.proofs.Common.{◌≡◌, refl, sym, ap, subst, ◌∙◌, ℕ, ◌≤◌, ◌<◌, arith, List, [], ◌∷◌, ◌++◌, map, slice_get, Option, Some, None, IsSome, Result, Ok, Err}
use Rattle.std.specs.Result.{IsErr, OnOk, OnErr}
use Rattle.std.proofs.lemmas.Bool.{false≢true}
use Rattle.prov_base.specs.declared.refusal.Memory.{Memory as Want}
use Rattle.std.specs.Option.{option_map, option_and_then}
use Rattle.std.proofs.Math.Path.{fun_ext}
use Rattle.object_store.specs.Keyed.{IsKeyed}
use Rattle.object_store.specs.Seen.{held_seen, seen_at}
use Rattle.object_store.specs.Store.{StoreView, Keeps as KeepsStore, file_at as held_file, name_at, bytes}
use Rattle.op_state.specs.Holding.{Found, with_found, Holds}
use Rattle.op_state.specs.Happening.{IsBegun, Completes, with_paths}
use Rattle.op_state.specs.Held.{HeldView, GoesOn, Finishes, begun}
use Rattle.op_state.specs.Paths.{with_numbers}
use Rattle.op_state.proofs.PathNumbers.{paths_same}
use Rattle.op_work.specs.Finish.{HasItsFile}
use Rattle.op_work.specs.Work.{WorkView, Extends, Ends, AreNamedPaths, AreNamedSayings}
use Rattle.op_work.proofs.Going.{text_stays}
use Rattle.py_model.specs.Effect.{effect, cost}
use Rattle.py_model.specs.Plan.{Plan}
use Rattle.py_model.specs.declared.doer.Deed.{Deed}
use Rattle.py_model.specs.declared.moment.Answer.{Answer as OneAnswer}
use Rattle.op_work.proofs.Named.{named_kept}
use Rattle.prov_base.specs.declared.place.Pos.{Pos}
use Rattle.py_model.specs.Store.{RunStore}
use Rattle.py_value.specs.Seen.{kind_seen, bytes_of, location_at}
use Rattle.py_value.specs.Values.{ValuesView}
use Rattle.py_value.specs.declared.access.Kind.TheVariants.{File as FileKind}
use Rattle.py_value.specs.declared.access.Location.{Location}
use Rattle.py_value.specs.declared.access.Location.TheVariants.{File}

-- a store that holds the same is seen the same
seen_kept : (table : ValuesView) (old new : StoreView) → KeepsStore old new → seen_at table new ≡ seen_at table old
seen_kept table old new keeps = fun_ext (λ place. ap (λ (held : Location → _). option_and_then (λ l. option_map (held_seen table) (held l)) (location_at table place)) (fun_ext keeps.held))

there_same : (old new : Option (List ℕ)) → option_map bytes new ≡ option_map bytes old → IsSome old → IsSome new
there_same (Some b) (Some c) is there = refl
there_same (Some b) None is there = cc
there_same None new is there = cc

pub holds_kept : (found : Found) (table : ValuesView) (old new : StoreView) (run : RunStore) → KeepsStore old new → Holds found table old run → Holds found table new run
holds_kept found table old new run keeps holds = record {
  interned = holds.interned;
  named = named_kept table old new keeps holds.named;
  at_is = holds.at_is ∙ ap (with_found found) (sym (seen_kept table old new keeps));
  kinds_are = holds.kinds_are ∙ ap (map (kind_seen table)) (sym keeps.kinds_stay);
  names_are = λ place. holds.names_are place ∙ ap (λ names. option_map (bytes_of table) names) (name_kept place);
  keyed = subst IsKeyed (sym (seen_kept table old new keeps)) holds.keyed;
  files = λ o path mode is. there_same (held_file old path) (held_file new path) (keeps.held (File path)) (holds.files o path mode (subst (λ ks. slice_get ks o ≡ Some (FileKind path mode)) keeps.kinds_stay is));
}
  where
    name_kept : (place : Pos) → name_at old place ≡ name_at new place
    name_kept place = ap (λ names. name_at (record old { names = names }) place) (sym keeps.names_stay)

-- what stood for the store of a run goes on to do so, where the store is the same, or holds the same
pub goes_on_same : (began new : WorkView) (opened output opened_then output_then : List ℕ) → opened_then ≡ opened → output_then ≡ output → new.store ≡ began.store
    → GoesOn (record { work = began; opened = opened; output = output }) (record { work = new; opened = opened_then; output = output_then })
goes_on_same began new opened output opened_then output_then opened_is output_is same found table run extends stands = record {
  holds = subst (λ store. Holds found table store run) (sym same) stands.holds;
  printed_is = stands.printed_is ∙ sym output_is;
  opened_are = stands.opened_are ∙ ap (map (bytes_of table)) (sym opened_is);
}

pub goes_on_kept : (began old new : WorkView) (opened output opened_then output_then : List ℕ) → opened_then ≡ opened → output_then ≡ output → old.store ≡ began.store
    → KeepsStore old.store new.store → GoesOn (record { work = began; opened = opened; output = output }) (record { work = new; opened = opened_then; output = output_then })
goes_on_kept began old new opened output opened_then output_then opened_is output_is same keeps found table run extends stands = record {
  holds = holds_kept found table old.store new.store run keeps (subst (λ store. Holds found table store run) (sym same) stands.holds);
  printed_is = stands.printed_is ∙ sym output_is;
  opened_are = stands.opened_are ∙ ap (map (bytes_of table)) (sym opened_is);
}

-- after a refusal
pub finishes_err : (plan : ValuesView → Plan) (began new : HeldView) (result : Result (Option Deed) Want) → IsErr result → GoesOn began new → Finishes plan began new result
finishes_err plan began new (Ok deed) is on = absurd (false≢true is)
finishes_err plan began new (Err want) is on = on

-- numbers of paths stay named
pub paths_on : {a b : ValuesView} → Extends a b → (paths : List ℕ) → AreNamedPaths a paths → AreNamedPaths b paths
paths_on extends [] named = tt
paths_on extends (path ∷ paths) named = (text_stays _ extends named.0, paths_on extends paths named.1)

pub said_paths : (values : ValuesView) (note : Option (Pos × ℕ)) (paths : List ℕ) → AreNamedSayings values note paths → AreNamedPaths values paths
said_paths values (Some note) paths named = named.1
said_paths values None paths named = named

-- an operation that came to its end, and what is held then
module _ (plan : ValuesView → Plan) (began settled new : WorkView) (opened output opened_then output_then : List ℕ) (deed : Deed) (answer : OneAnswer)
    (begun : IsBegun began) (ends : Ends plan began settled (Ok answer)) (completes : Completes settled new answer deed) (its : HasItsFile settled.store settled.touched settled.made)
    (values_are : new.values ≡ settled.values) (output_is : output_then ≡ output ++ settled.printed) (opened_is : opened_then ≡ with_numbers settled.opens opened)
    (named : AreNamedPaths settled.values opened) (named_more : AreNamedPaths settled.values settled.opens) where
  pub finished : Finishes plan (record { work = began; opened = opened; output = output }) (record { work = new; opened = opened_then; output = output_then }) (Ok (Some deed))
  finished found table run answers extends stands suits keyed =
      let known = subst (λ values. Extends values table) values_are extends in
      let happens = completes began plan begun ends found table run answers known stands.holds suits keyed in
      record {
        outcome_is = happens.outcome_is;
        made_is = happens.made_is;
        accesses_are = happens.accesses_are;
        weight_is = happens.weight_is;
        pays = subst (λ n. cost (effect run answers (plan table)) ≤ n) ends.left_is happens.pays;
        method_is = happens.method_is;
        named = happens.named;
        stands = record {
          holds = happens.holds its;
          printed_is = happens.printed_is ∙ (ap (λ bytes. bytes ++ settled.printed) stands.printed_is ∙ sym output_is);
          opened_are = happens.opened_are ∙ (ap (with_paths (map (bytes_of table) settled.opens)) stands.opened_are
              ∙ (paths_same table stands.holds.interned settled.opens opened (paths_on known settled.opens named_more) (paths_on known opened named) ∙ ap (map (bytes_of table)) (sym opened_is)));
        };
      }

-- an operation that begins has done nothing
pub begins_so : (left : ℕ) (work : WorkView) → IsBegun (begun left work)
begins_so left work = record { touched = refl; made = refl; looks = refl; characters = refl; printed = refl; note = refl; opens = refl }

pub begins : {T E A : Type 0} (B : Type 0) (left : ℕ) (result : Result T E) → 0 < left → OnOk result A → OnErr result ((left ≡ 0) × B) → A
begins B left (Ok made) some good bad = good
begins B left (Err want) some good bad = absurd (not_none left some bad.0)
  where
    not_none : (n : ℕ) → 0 < n → n ≡ 0 → ⊥
    not_none n some none = omega (arith, some, none)
