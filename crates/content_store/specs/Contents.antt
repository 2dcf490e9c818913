-- What putting a content does to the tables (this project's profile).
use Rattle.std.specs.Prelude.{◌≡◌, ◌≢◌, ℕ, List, length, Result, Ok, Err, MatchOption, IsSomeAnd}
use Rattle.sha1.specs.Sha1.{sha1}
use Rattle.prov_base.specs.declared.place.Digest.{Digest}
use Rattle.keeper.specs.Keeping.{KeeperView}
use Rattle.keeper.specs.Tables.{with_content}
use Rattle.content_store.specs.declared.fault.ContentFault.{ContentFault}
use Rattle.content_store.specs.declared.fault.ContentFault.TheVariants.{Collision, Keeper, Memory}

-- the SHA-1 digest of bytes
abbrev pub digest_of : List ℕ → Digest
digest_of bytes = record { bytes = sha1 bytes }

-- The bytes are added under their digest where it has no content, and nothing is added where they stand there already.
-- Where other bytes stand there, and where memory runs out, all stays. After a failure the batch may hold anything.
abbrev pub Puts : List ℕ → Result Digest ContentFault → KeeperView → KeeperView → Type 0
Puts bytes (Ok digest) before after =
    MatchOption (before.seen.contents (digest_of bytes))
    (after ≡ record before { seen = with_content (digest_of bytes) bytes before.seen })
    (λ kept. (kept ≡ bytes) × (after ≡ before))
Puts bytes (Err (Collision digest kept_len given_len)) before after =
    IsSomeAnd (before.seen.contents (digest_of bytes)) (λ kept. (kept ≢ bytes) × (kept_len ≡ length kept)) × (after ≡ before)
Puts bytes (Err Keeper) before after = after.committed ≡ before.committed
Puts bytes (Err Memory) before after = after ≡ before

-- what a collision names of the given bytes, whatever keeper it is
abbrev pub NamesGiven : List ℕ → ContentFault → Type 0
NamesGiven bytes (Collision digest kept_len given_len) = (digest ≡ digest_of bytes) × (given_len ≡ length bytes)
NamesGiven bytes Keeper = Unit {0}
NamesGiven bytes Memory = Unit {0}
