-- A script's text and what stands behind it, as one.
use Rattle.std.proofs.Common.{◌≡◌, ℕ, List, Option, Some, None, Result, Ok, Err, refl, sym, subst}
use Rattle.prov_base.specs.declared.place.Pos.{Pos}
use Rattle.prov_outside.specs.Tells.{Tells}
use Rattle.py_tree.specs.Erasure.{script_of}
use Rattle.py_tree.specs.declared.stmt.Script.{Script}
use Rattle.py_parser.specs.Reading.{HasScript, IsRefusedAt}
use Rattle.py_parser.specs.declared.refusal.Refusal.{Refusal}
use Rattle.py_parser.specs.declared.refusal.Refusal.TheVariants.{At, Memory as NoMemory}
use Rattle.keeper.specs.declared.records.Head.{Head}
use Rattle.keeper.specs.Keeping.{KeeperView}
use Rattle.keeper.specs.Tables.{TablesView}
use Rattle.row_checks.specs.KeptRows.{AreKeptRows}
use Rattle.trial_tables.specs.Whole.{fine}
use Rattle.trial_tables.specs.declared.read_fault.ReadFault.{ReadFault}
use Rattle.trial_tables.specs.declared.read_fault.ReadFault.TheVariants.{Damaged, Keeper, Memory}
use Rattle.trial_loading.specs.Rest.{RestView, IsRest}
use Rattle.trial_loading.specs.Answers.{Answers}
use Rattle.trial_loading.specs.declared.paged_rows.PagedRows.{PagedRows}
use Rattle.trial_loading.specs.TrialPages.{AreRowsOf}
use Rattle.trial_loading.specs.declared.behind.Behind.{Behind}
use Rattle.trial_loading.specs.declared.trial.Trial.{Trial}
use Rattle.trial_loading.specs.Loading.{IsDamagedBehind, IsTrial, bad_script, bad_behind, rest_of, pages_of}
use Rattle.trial_loading.specs.Stages.{IsBehind, IsMadeOf, IsFrom, LoadsFrom, of_reading, of_refusal}

module _ (number : ℕ) (head : Head) (text : List ℕ) where
  pub refused_stops : (refusal : Refusal) (told : Option KeeperView) → ((at : Pos) → ◌≡◌ {A = Result Script Refusal} (Err refusal) (Err (At at)) → IsRefusedAt text at)
      → Tells told told (LoadsFrom number head text (Err (of_refusal number refusal)))
  refused_stops refusal None is = tt
  refused_stops (At at) (Some a) is = (bad_script at (is at refl) refl, refl)
  refused_stops NoMemory (Some a) is = refl

  made_from : (script : Script) (behind : Behind) (trial : Trial) (tables : TablesView) → IsMadeOf number head text script behind trial → HasScript text (script_of script)
      → IsBehind tables number head script.count behind → IsFrom tables number head text trial
  made_from script behind trial tables made has was = record {
    number_is = made.number_is;
    same_head = made.same_head;
    same_text = made.same_text;
    script_is = subst (λ (t : List ℕ). HasScript t (script_of trial.script)) (sym made.same_text) (subst (λ (s : Script). HasScript text (script_of s)) (sym made.same_script) has);
    rest_is = subst (λ (h : Head). IsRest tables h (fine (rest_of trial))) (sym made.same_head) (subst (λ (r : RestView). IsRest tables head (fine r)) (sym made.same_rest) was.rest_is);
    rows_are =
        subst (λ (h : Head). AreRowsOf tables number h.pages trial.script.count (pages_of trial)) (sym made.same_head)
        (subst (λ (s : Script). AreRowsOf tables number head.pages s.count (pages_of trial)) (sym made.same_script)
        (subst (λ (p : PagedRows). AreRowsOf tables number head.pages script.count p) (sym made.same_pages) was.rows_are));
  }

  pub made_trial : (script : Script) (behind : Behind) (trial : Trial) → IsMadeOf number head text script behind trial → HasScript text (script_of script) → AreKeptRows script.count behind.paged.rows → IsTrial number trial
  made_trial script behind trial made has stand = record {
    number_is = made.number_is;
    script_is = subst (λ (t : List ℕ). HasScript t (script_of trial.script)) (sym made.same_text) (subst (λ (s : Script). HasScript text (script_of s)) (sym made.same_script) has);
    rows_are =
        subst (λ (s : Script). AreKeptRows s.count trial.rows) (sym made.same_script)
        (subst (λ (p : PagedRows). AreKeptRows script.count p.rows) (sym made.same_pages) stand);
  }

  pub behind_found : (script : Script) (behind : Behind) (trial : Trial) (old new : Option KeeperView) → IsMadeOf number head text script behind trial → HasScript text (script_of script)
      → Tells old new (Answers {A = Behind} (λ tables. IsBehind tables number head script.count) (λ tables. IsDamagedBehind tables number head script.count) (Ok behind))
      → Tells old new (LoadsFrom number head text (Ok trial))
  behind_found script behind trial old None made has was = tt
  behind_found script behind trial None (Some b) made has was = absurd was
  behind_found script behind trial (Some a) (Some b) made has was = (made_from script behind trial a.seen made has was.0, was.1)

  pub behind_stops : (script : Script) (fault : ReadFault) (old new : Option KeeperView) → HasScript text (script_of script)
      → Tells old new (Answers {A = Behind} (λ tables. IsBehind tables number head script.count) (λ tables. IsDamagedBehind tables number head script.count) (Err fault))
      → Tells old new (LoadsFrom number head text (Err (of_reading number fault)))
  behind_stops script fault old None has was = tt
  behind_stops script fault None (Some b) has was = absurd was
  behind_stops script (Damaged damage) (Some a) (Some b) has was = (bad_behind (script_of script) has was.0, was.1)
  behind_stops script Keeper (Some a) (Some b) has was = was
  behind_stops script Memory (Some a) (Some b) has was = was
