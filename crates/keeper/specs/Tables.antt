-- The four tables of a store of trials (this project's profile), and what each writer adds to them.
use Rattle.std.specs.Prelude.{ℕ, zero, suc, ◌==◌, ◌≤◌, ◌&&◌, List, [], ◌∷◌, ◌++◌, length, slice_get, Option, Some, None, IsSome, bytes_eq, if◌then◌else◌}
use Rattle.prov_base.specs.declared.place.Digest.{Digest}
use Rattle.keeper.specs.declared.records.Head.{Head}
use Rattle.keeper.specs.declared.records.Page.{Page}

-- The heads of the trials, of which the first is that of trial 1, and three maps: pages by trial and number, contents
-- by digest, the current trial by path. Texts and contents are lists of bytes.
pub record TablesView : Type 0 where
  pub heads : List Head
  pub pages : ℕ → ℕ → Option Page
  pub contents : Digest → Option (List ℕ)
  pub current : List ℕ → Option ℕ

-- the greatest number of trials
abbrev pub most_trials : ℕ
most_trials = 4294967295

-- the head of the trial with this number
abbrev pub head_at : List Head → ℕ → Option Head
head_at heads zero = None
head_at heads (suc earlier) = slice_get heads earlier

-- the trial with this number is there
abbrev pub HasTrial : TablesView → ℕ → Type 0
HasTrial tables trial = (1 ≤ trial) × (trial ≤ length tables.heads)

-- what holds of the tables of every keeper: numbers of trials fit, and each page is one of a trial that is there
pub record AreTables (tables : TablesView) : Type 0 where
  pub few : length tables.heads ≤ most_trials
  pub pages_of_trials : (trial number : ℕ) → IsSome (tables.pages trial number) → HasTrial tables trial

-- ---- the tables with one thing more

abbrev pub with_trial : Head → TablesView → TablesView
with_trial head tables = record tables { heads = tables.heads ++ head ∷ [] }

abbrev pub with_page : ℕ → ℕ → Page → TablesView → TablesView
with_page trial number page tables = record tables {
  pages = λ t n. if trial == t && number == n then Some page else tables.pages t n;
}

abbrev pub with_content : Digest → List ℕ → TablesView → TablesView
with_content digest bytes tables = record tables {
  contents = λ d. if bytes_eq digest.bytes d.bytes then Some bytes else tables.contents d;
}

abbrev pub with_current : List ℕ → ℕ → TablesView → TablesView
with_current path trial tables = record tables {
  current = λ p. if bytes_eq path p then Some trial else tables.current p;
}
