-- Parts of a trial that are as they were kept, or what is amiss first (this project's profile).
use Rattle.std.specs.Prelude.{ℕ, List, [], ◌∷◌, Option, Some, None, bytes_eq, if◌then◌else◌}
use Rattle.prov_base.specs.declared.place.Digest.{Digest}
use Rattle.keeper.specs.declared.records.Page.{Page}
use Rattle.keeper.specs.Tables.{TablesView}
use Rattle.content_store.specs.Contents.{digest_of}
use Rattle.trial_tables.specs.declared.damage.Damage.{Damage}
use Rattle.trial_tables.specs.declared.damage.Damage.TheVariants.{PageDigest, PageAbsent, ContentDigest, ContentAbsent}

-- what was read, or the first damage
pub data Check (A : Type 0) : Type 0 where
  fine : (read : A) → Check A
  damaged : (damage : Damage) → Check A

-- what goes on with what was read
abbrev pub and_then : {A B : Type 0} → Check A → (A → Check B) → Check B
and_then (fine a) go = go a
and_then (damaged damage) go = damaged damage

-- a content under its digest: it is there, and has the digest
abbrev pub whole_content : Digest → Option (List ℕ) → Check (List ℕ)
whole_content digest None = damaged (ContentAbsent digest)
whole_content digest (Some bytes) = if bytes_eq (digest_of bytes).bytes digest.bytes then fine bytes else damaged (ContentDigest digest (digest_of bytes))

abbrev pub content_in : TablesView → Digest → Check (List ℕ)
content_in tables digest = whole_content digest (tables.contents digest)

-- contents in their order, up to the first that is damaged
abbrev pub contents_in : TablesView → List Digest → Check (List (List ℕ))
contents_in tables [] = fine []
contents_in tables (digest ∷ more) = and_then (content_in tables digest) (λ bytes. and_then (contents_in tables more) (λ others. fine (bytes ∷ others)))

-- a page with this number: it is there, and has the digest that is kept with it
abbrev pub whole_page : ℕ → Option Page → Check (List ℕ)
whole_page number None = damaged (PageAbsent number)
whole_page number (Some page) = if bytes_eq (digest_of page.bytes).bytes page.digest.bytes then fine page.bytes else damaged (PageDigest number page.digest (digest_of page.bytes))

abbrev pub page_in : TablesView → ℕ → ℕ → Check (List ℕ)
page_in tables trial number = whole_page number (tables.pages trial number)
