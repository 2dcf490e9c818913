use Rattle.std.proofs.Common.{sym, subst}
use Rattle.model_laws.proofs.Suiting.{AreGood, KeyLaws, plan_good}
use Rattle.model_laws.proofs.key_laws.plans_suit_stores.Goals as goal
use Rattle.object_store.specs.Keyed.{IsKeyed}
use Rattle.py_model.specs.Effect.{effect, accesses_in}
use Rattle.py_model.specs.Orderly.{other_read}

pub returns : goal.returns
returns c = λ store answers p orderly keyed.
    let laws : KeyLaws = record {
      values_tested = c.tests_are_equality.ensures.values;
      places_tested = c.tests_are_equality.ensures.locations;
      only = c.keys_have_entries.ensures.only;
      entry_set = c.keys_have_entries.ensures.entry_set;
      inserted = c.keys_have_entries.ensures.inserted;
      deleted = c.keys_have_entries.ensures.deleted;
      begun = c.keys_have_entries.ensures.begun;
      plain_keyed = c.keys_have_entries.ensures.plain;
      plain_suits = c.plans_suit.ensures.plain;
      entries_suit = c.plans_suit.ensures.entries;
    } in
    let good : AreGood store.at (accesses_in (effect store answers p).touches) = plan_good laws store keyed answers p other_read tt orderly in
    (good.suit, subst IsKeyed (sym (c.map_changes_by_accesses.ensures (effect store answers p) store)) good.keyed)
