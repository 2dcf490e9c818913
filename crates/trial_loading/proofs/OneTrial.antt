-- That a number has one loaded trial, or one first damage, and never both.
use Rattle.std.proofs.Common.{◌≡◌, ℕ, List, sym, ap, ◌∙◌, subst}
use Rattle.std.proofs.lemmas.Option.{same_Some}
use Rattle.prov_base.specs.declared.place.Pos.{Pos}
use Rattle.py_tree.specs.Erasure.{script_of}
use Rattle.py_tree.specs.Tree.{ScriptTree}
use Rattle.py_parser.specs.Reading.{HasScript, IsRefusedAt}
use Rattle.keeper.specs.declared.records.Head.{Head}
use Rattle.keeper.specs.Tables.{TablesView}
use Rattle.trial_tables.specs.Whole.{fine, damaged}
use Rattle.trial_tables.specs.declared.damage.Damage.{Damage}
use Rattle.trial_tables.specs.declared.damage.Damage.TheVariants.{ScriptAt}
use Rattle.trial_loading.specs.Rest.{script_in, IsRest}
use Rattle.trial_loading.specs.declared.paged_rows.PagedRows.{PagedRows}
use Rattle.trial_loading.specs.TrialPages.{AreRowsOf, IsRowDamage}
use Rattle.trial_loading.specs.declared.trial.Trial.{Trial}
use Rattle.trial_loading.specs.Loading.{IsLoaded, IsDamagedBehind, bad_rest, bad_rows, IsDamagedFrom, bad_script, bad_behind, IsDamagedUnder, bad_text, bad_from, IsDamaged, rest_of, pages_of}
use Rattle.trial_loading.specs.OneTrial.{AreSame}
use Rattle.trial_loading.proofs.OneCheck.{Ways, same_part, same_damage, not_both, one_rest}

-- the laws of the crates below
pub record Laws : Type 0 where
  pub ways : Ways
  pub one_script : (text : List ℕ) (a b : ScriptTree) → HasScript text a → HasScript text b → a ≡ b
  pub one_place : (text : List ℕ) (a b : Pos) → IsRefusedAt text a → IsRefusedAt text b → a ≡ b
  pub not_refused : (text : List ℕ) (tree : ScriptTree) (at : Pos) → HasScript text tree → IsRefusedAt text at → ⊥
  pub one_rows : (tables : TablesView) (trial pages statements : ℕ) (read other : PagedRows) → AreRowsOf tables trial pages statements read → AreRowsOf tables trial pages statements other
      → (read.rows ≡ other.rows) × (read.cuts.items ≡ other.cuts.items)
  pub not_bad_rows : (tables : TablesView) (trial pages statements : ℕ) (read : PagedRows) (damage : Damage) → AreRowsOf tables trial pages statements read
      → IsRowDamage tables trial pages statements damage → ⊥
  pub one_bad_row : (tables : TablesView) (trial pages statements : ℕ) (damage other : Damage) → IsRowDamage tables trial pages statements damage
      → IsRowDamage tables trial pages statements other → damage ≡ other

-- a text under a head is one, or is damaged in one way
same_text : (tables : TablesView) (head : Head) (text other : List ℕ) → script_in tables head ≡ fine text → script_in tables head ≡ fine other → text ≡ other
same_text tables head text other is same = same_part text other (sym is ∙ same)

no_text : (tables : TablesView) (head : Head) (text : List ℕ) (damage : Damage) → script_in tables head ≡ fine text → script_in tables head ≡ damaged damage → ⊥
no_text tables head text damage is bad = not_both text damage (sym is ∙ bad)

module _ (laws : Laws) (tables : TablesView) (number : ℕ) where
  -- ---- the damage

  behind_once : (head : Head) (statements : ℕ) (d e : Damage) → IsDamagedBehind tables number head statements d → IsDamagedBehind tables number head statements e → d ≡ e
  behind_once head statements d e (bad_rest is) (bad_rest other) = same_damage d e (one_rest laws.ways tables head (damaged d) (damaged e) is other)
  behind_once head statements d e (bad_rest is) (bad_rows rest fits rows) = absurd (not_both rest d (one_rest laws.ways tables head (fine rest) (damaged d) fits is))
  behind_once head statements d e (bad_rows rest fits rows) (bad_rest is) = absurd (not_both rest e (one_rest laws.ways tables head (fine rest) (damaged e) fits is))
  behind_once head statements d e (bad_rows rest fits rows) (bad_rows another fit others) = laws.one_bad_row tables number head.pages statements d e rows others

  from_once : (head : Head) (text : List ℕ) (d e : Damage) → IsDamagedFrom tables number head text d → IsDamagedFrom tables number head text e → d ≡ e
  from_once head text d e (bad_script at is place) (bad_script spot same spotted) = place ∙ (ap (λ (p : Pos). ScriptAt p) (laws.one_place text at spot is same) ∙ sym spotted)
  from_once head text d e (bad_script at is place) (bad_behind tree has behind) = absurd (laws.not_refused text tree at has is)
  from_once head text d e (bad_behind tree has behind) (bad_script at is place) = absurd (laws.not_refused text tree at has is)
  from_once head text d e (bad_behind tree has behind) (bad_behind other had after) =
      behind_once head other.count d e (subst (λ (t : ScriptTree). IsDamagedBehind tables number head t.count d) (laws.one_script text tree other has had) behind) after

  under_once : (head : Head) (d e : Damage) → IsDamagedUnder tables number head d → IsDamagedUnder tables number head e → d ≡ e
  under_once head d e (bad_text is) (bad_text other) = same_damage {A = List ℕ} d e (sym is ∙ other)
  under_once head d e (bad_text is) (bad_from text has from) = absurd (no_text tables head text d has is)
  under_once head d e (bad_from text has from) (bad_text is) = absurd (no_text tables head text e has is)
  under_once head d e (bad_from text has from) (bad_from other had after) =
      from_once head other d e (subst (λ (t : List ℕ). IsDamagedFrom tables number head t d) (same_text tables head text other has had) from) after

  pub damaged_once : (d e : Damage) → IsDamaged tables number d → IsDamaged tables number e → d ≡ e
  damaged_once d e is other =
      under_once other.head d e (subst (λ (h : Head). IsDamagedUnder tables number h d) (same_Some is.head other.head (sym is.head_is ∙ other.head_is)) is.damage_is) other.damage_is

  -- ---- the trial

  pub loaded_once : (trial other : Trial) → IsLoaded tables number trial → IsLoaded tables number other → AreSame trial other
  loaded_once trial other is was =
      let heads : trial.head ≡ other.head = same_Some trial.head other.head (sym is.head_is ∙ was.head_is) in
      let texts : trial.text ≡ other.text =
      same_text tables other.head trial.text other.text (subst (λ (h : Head). script_in tables h ≡ fine trial.text) heads is.text_is) was.text_is in
      let trees : script_of trial.script ≡ script_of other.script =
      laws.one_script other.text (script_of trial.script) (script_of other.script) (subst (λ (t : List ℕ). HasScript t (script_of trial.script)) texts is.script_is) was.script_is in
      let rests : rest_of trial ≡ rest_of other =
      same_part (rest_of trial) (rest_of other) (one_rest laws.ways tables other.head (fine (rest_of trial)) (fine (rest_of other))
      (subst (λ (h : Head). IsRest tables h (fine (rest_of trial))) heads is.rest_is) was.rest_is) in
      let paged : (trial.rows ≡ other.rows) × (trial.cuts.items ≡ other.cuts.items) =
      laws.one_rows tables number other.head.pages other.script.count (pages_of trial) (pages_of other)
      (subst (λ (h : Head). AreRowsOf tables number h.pages other.script.count (pages_of trial)) heads
      (subst (λ (t : ScriptTree). AreRowsOf tables number trial.head.pages t.count (pages_of trial)) trees is.rows_are)) was.rows_are in
      record { number = is.number_is ∙ sym was.number_is; head = heads; text = texts; script = trees; rest = rests; rows = paged.0; cuts = paged.1 }

  -- ---- never both

  behind_fine : (trial : Trial) (d : Damage) → IsLoaded tables number trial → IsDamagedBehind tables number trial.head trial.script.count d → ⊥
  behind_fine trial d is (bad_rest bad) = not_both (rest_of trial) d (one_rest laws.ways tables trial.head (fine (rest_of trial)) (damaged d) is.rest_is bad)
  behind_fine trial d is (bad_rows rest fits bad) = laws.not_bad_rows tables number trial.head.pages trial.script.count (pages_of trial) d is.rows_are bad

  from_fine : (trial : Trial) (d : Damage) → IsLoaded tables number trial → IsDamagedFrom tables number trial.head trial.text d → ⊥
  from_fine trial d is (bad_script at refused place) = laws.not_refused trial.text (script_of trial.script) at is.script_is refused
  from_fine trial d is (bad_behind tree has bad) =
      behind_fine trial d is (subst (λ (t : ScriptTree). IsDamagedBehind tables number trial.head t.count d) (laws.one_script trial.text tree (script_of trial.script) has is.script_is) bad)

  under_fine : (trial : Trial) (d : Damage) → IsLoaded tables number trial → IsDamagedUnder tables number trial.head d → ⊥
  under_fine trial d is (bad_text bad) = no_text tables trial.head trial.text d is.text_is bad
  under_fine trial d is (bad_from text has bad) =
      from_fine trial d is (subst (λ (t : List ℕ). IsDamagedFrom tables number trial.head t d) (same_text tables trial.head text trial.text has is.text_is) bad)

  pub loaded_fine : (trial : Trial) (d : Damage) → IsLoaded tables number trial → IsDamaged tables number d → ⊥
  loaded_fine trial d is bad =
      under_fine trial d is (subst (λ (h : Head). IsDamagedUnder tables number h d) (same_Some bad.head trial.head (sym bad.head_is ∙ is.head_is)) bad.damage_is)
