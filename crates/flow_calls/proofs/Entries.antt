-- What entering an activation comes to, behind the word that is asked for before it.
use Rattle.std.proofs.Common.{◌≡◌, ℕ, suc, ◌-◌, List, [], ◌∷◌, map, length, Option, Some, None, Ok, Err, refl, ap, sym, ◌∙◌, subst, arith}
use Rattle.std.proofs.lemmas.List.{length-map}
use Rattle.prov_base.specs.declared.place.Pos.{Pos}
use Rattle.prov_base.specs.declared.refusal.Memory.{Memory}
use Rattle.py_value.specs.Contents.{contents}
use Rattle.py_value.specs.Seen.{access_seen}
use Rattle.py_value.specs.Values.{ValuesView}
use Rattle.py_value.specs.declared.access.Access.{Access}
use Rattle.py_value.specs.declared.value.Value.{Value}
use Rattle.py_model.specs.Capture.{Capture}
use Rattle.py_model.specs.Doing.{Fits, Stands, Knew, Enters, AreGivenValues}
use Rattle.py_model.specs.Moment.{Moment as SeenMoment, enters, parameters_set}
use Rattle.py_model.specs.Running.{State, entering}
use Rattle.py_model.specs.Told.{moment_seen, IsTellable, TellsOn}
use Rattle.py_model.specs.declared.doer.Entered.{Entered}
use Rattle.py_model.specs.declared.doer.Entered.TheVariants.{In, TooDear}
use Rattle.py_model.specs.declared.moment.Moment.TheVariants.{Enter}
use Rattle.interp_eval.specs.Performing.{HasState}
use Rattle.interp_eval.proofs.Performed.{IsWordFor, state_of}
use Rattle.flow_calls.specs.Calling.{not_entered, not_told, HasEntered}

-- what is known of an answer is known of what it was found to be, on the same values
pub known_entry : (def : Pos) (names : List (List ℕ)) (left : ℕ) (fits : Fits) (before after : Stands) (vs ws : List Value) (d e : Entered) → ws ≡ vs → d ≡ e
    → Enters {E = Memory} def names ws left fits before after (Ok d) → Enters {E = Memory} def names vs left fits before after (Ok e)
known_entry def names left fits before after vs ws d e same is known =
    subst (λ e. Enters {E = Memory} def names vs left fits before after (Ok e)) is (subst (λ vs. Enters {E = Memory} def names vs left fits before after (Ok d)) same known)

module _ (first mid last : Fits) (before between after : Stands) (number : ℕ) (word : IsWordFor number mid before between) (knew : Knew first mid) (kept : Knew mid last) (at def : Pos) (names : List (List ℕ)) (values : List Value)
    (left : ℕ) where
  pub dear_entry : (was : Option (List SeenMoment)) → Enters {E = Memory} def names values left last between after (Ok TooDear)
      → HasEntered {E = Memory} at def names values left left last before after was was (Ok None)
  dear_entry was known = (known.0, (refl, (refl, λ table capture fit s stands. known.1 table capture fit s (word table capture (kept table capture fit) s stands).1)))

  pub refused_entry : (want : Memory) (was : Option (List SeenMoment)) → Enters def names values left last between after (Err want) → HasEntered at def names values left left last before after was was (Err want)
  refused_entry want was known table capture fit s stands steps = not_entered (known table capture fit s (word table capture (kept table capture fit) s stands).1) refl

  module _ (activation : ℕ) (accesses : List Access) (entered : Enters {E = Memory} def names values left last between after (Ok (In activation accesses))) where
    -- the moment is as the meaning has it
    moment_so : (table : ValuesView) (s : State) → activation ≡ suc s.entered → map (access_seen table) accesses ≡ parameters_set activation names (map (contents table) values)
        → moment_seen table (Enter at def values accesses) ≡ enters at def (map (contents table) values) (parameters_set (suc s.entered) names (map (contents table) values))
    moment_so table s next_is accesses_are =
        ap (enters at def (map (contents table) values)) (accesses_are ∙ ap (λ n. parameters_set n names (map (contents table) values)) next_is)

    left_so : (table : ValuesView) (s : State) (rest : ℕ) → s.left ≡ left → rest ≡ left - suc (length values) → (entering at def names (map (contents table) values) s).left ≡ rest
    left_so table s rest steps paid = ap (λ n. s.left - suc n) (length-map values (contents table)) ∙ ap (λ n. n - suc (length values)) steps ∙ sym paid

    pub has_entered : (rest : ℕ) (was is : Option (List SeenMoment)) → rest ≡ left - suc (length values)
        → ((table : ValuesView) (capture : Capture) → last table capture → TellsOn was is (λ told more. more ≡ moment_seen table (Enter at def values accesses) ∷ told))
        → HasEntered {E = Memory} at def names values left rest last before after was is (Ok (Some activation))
    has_entered rest was is paid tells table capture fit s stands steps =
        let e = entered.1 table capture fit s (word table capture (kept table capture fit) s stands).1 in
        record {
          next_is = e.next_is;
          pays = omega (arith, entered.0, steps);
          stands = e.stands at;
          left_is = left_so table s rest steps paid;
          tells = subst (λ m. TellsOn was is (λ told more. more ≡ m ∷ told)) (moment_so table s e.next_is e.accesses_are) (tells table capture fit);
        }

    pub untold_entry : (want : Memory) (rest : ℕ) (was is : Option (List SeenMoment)) → ((table : ValuesView) (capture : Capture) → last table capture → TellsOn was is (λ told more. more ≡ told))
        → HasEntered at def names values left rest last before after was is (Err want)
    untold_entry want rest was is tells table capture fit s stands steps =
        let e = entered.1 table capture fit s (word table capture (kept table capture fit) s stands).1 in
        not_told (omega (arith, entered.0, steps)) (e.stands at) (tells table capture fit)

    pub can_tell_entry : HasState first before → AreGivenValues first values → (table : ValuesView) (capture : Capture) → last table capture → IsTellable table (Enter at def values accesses)
    can_tell_entry state given table capture fit =
        let s = state table capture (knew table capture (kept table capture fit)) in
        let e = entered.1 table capture fit (state_of s.0 left) (word table capture (kept table capture fit) (state_of s.0 left) s.1).1 in
        (given table capture (knew table capture (kept table capture fit)), e.named)
