-- The head, the script's text, and what comes behind, as one.
use Rattle.std.proofs.Common.{◌≡◌, ℕ, List, Option, Some, None, Result, Ok, Err, sym, ap, ◌∙◌, subst}
use Rattle.prov_outside.specs.Tells.{Tells}
use Rattle.keeper.specs.declared.records.Head.{Head}
use Rattle.keeper.specs.Keeping.{KeeperView}
use Rattle.keeper.specs.Tables.{TablesView, head_at}
use Rattle.trial_tables.specs.Found.{Finds}
use Rattle.trial_tables.specs.Whole.{fine}
use Rattle.trial_loading.specs.Rest.{script_in}
use Rattle.trial_keeping.specs.declared.fault.TrialFault.{TrialFault}
use Rattle.trial_keeping.specs.declared.fault.TrialFault.TheVariants.{NoTrial, Damaged, Keeper, Collision, Full, Memory}
use Rattle.trial_loading.specs.declared.trial.Trial.{Trial}
use Rattle.trial_keeping.specs.Heads.{FindsHead}
use Rattle.trial_loading.specs.Loading.{IsLoaded, IsDamagedFrom, bad_from, Loads}
use Rattle.trial_loading.specs.Stages.{IsFrom, LoadsFrom}

tells_join : {T : Type 0} (old mid new : Option T) (P Q S : T → T → Type 0) → ((a b c : T) → P a b → Q b c → S a c) → Tells old mid P → Tells mid new Q → Tells old new S
tells_join old mid None P Q S join first second = tt
tells_join old None (Some c) P Q S join first second = absurd second
tells_join None (Some b) (Some c) P Q S join first second = absurd first
tells_join (Some a) (Some b) (Some c) P Q S join first second = join a b c first second

module _ (number : ℕ) where
  module _ (head : Head) where
    -- the text under the head
    record HasText (text : List ℕ) (a b : KeeperView) : Type 0 where
      head_is : head_at a.seen.heads number ≡ Some head
      text_is : script_in a.seen head ≡ fine text
      same : b ≡ a

    text_found : (text : List ℕ) (a b c : KeeperView) → FindsHead number (Ok head) a b → Finds {A = List ℕ} (λ tables. script_in tables head) (Ok text) b c → HasText text a c
    text_found text a b c was is = record { head_is = was.0; text_is = subst (λ (v : KeeperView). script_in v.seen head ≡ fine text) was.1 is.0; same = is.1 ∙ was.1 }

    loaded : (text : List ℕ) (trial : Trial) (tables : TablesView) → head_at tables.heads number ≡ Some head → script_in tables head ≡ fine text → IsFrom tables number head text trial
        → IsLoaded tables number trial
    loaded text trial tables head_is text_is from = record {
      number_is = from.number_is;
      head_is = head_is ∙ ap (λ (h : Head). Some h) (sym from.same_head);
      text_is = ap (λ (h : Head). script_in tables h) from.same_head ∙ (text_is ∙ ap (λ (t : List ℕ). fine t) (sym from.same_text));
      script_is = from.script_is;
      rest_is = from.rest_is;
      rows_are = from.rows_are;
    }

    from_plain : (text : List ℕ) (result : Result Trial TrialFault) (a b c : KeeperView) → HasText text a b → LoadsFrom number head text result b c → Loads number result a c
    from_plain text (Ok trial) a b c was is =
        (loaded text trial a.seen was.head_is was.text_is (subst (λ (v : KeeperView). IsFrom v.seen number head text trial) was.same is.0), is.1 ∙ was.same)
    from_plain text (Err (NoTrial other)) a b c was is = absurd is
    from_plain text (Err (Damaged other damage)) a b c was is =
        (record { head = head; head_is = was.head_is; damage_is = bad_from text was.text_is (subst (λ (v : KeeperView). IsDamagedFrom v.seen number head text damage) was.same is.0) }, is.1 ∙ was.same)
    from_plain text (Err Keeper) a b c was is = is ∙ was.same
    from_plain text (Err (Collision digest kept given)) a b c was is = absurd is
    from_plain text (Err Full) a b c was is = absurd is
    from_plain text (Err Memory) a b c was is = is ∙ was.same

    pub from_joins : (text : List ℕ) (result : Result Trial TrialFault) (old mid late new : Option KeeperView) → Tells old mid (FindsHead number (Ok head))
        → Tells mid late (Finds {A = List ℕ} (λ tables. script_in tables head) (Ok text)) → Tells late new (LoadsFrom number head text result) → Tells old new (Loads number result)
    from_joins text result old mid late new first second third =
        tells_join old late new (HasText text) (LoadsFrom number head text result) (Loads number result) (from_plain text result)
        (tells_join old mid late (FindsHead number (Ok head)) (Finds {A = List ℕ} (λ tables. script_in tables head) (Ok text)) (HasText text) (text_found text) first second) third
