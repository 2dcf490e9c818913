-- Heads that were read so far.
use Rattle.std.proofs.Common.{◌≡◌, ℕ, zero, suc, ◌+◌, ◌≤◌, ◌++◌, List, [], ◌∷◌, length, take, Bool, Option, Some, None, Vec, Result, Ok, Err, IfSome, sym, ap, subst, ◌∙◌, arith}
use Rattle.std.specs.List.{slice_get}
use Rattle.std.specs.declared.alloc.Global.{Global}
use Rattle.std.proofs.Math.Seq.{take-length}
use Rattle.std.proofs.lemmas.Option.{same_Some}
use Rattle.prov_outside.specs.Tells.{Tells}
use Rattle.keeper.specs.declared.records.Head.{Head}
use Rattle.keeper.specs.Keeping.{KeeperView, AreKept, LeavesAmong, Reads as Answers}
use Rattle.keeper.specs.Tables.{TablesView, head_at}
use Rattle.trial_keeping.specs.declared.fault.TrialFault.{TrialFault}
use Rattle.trial_keeping.specs.Heads.{FindsCounted, FindsFirst, FindsHeads}

-- these heads are the first so many
abbrev pub AreFirst : List Head → ℕ → KeeperView → KeeperView → Type 0
AreFirst read done a b = (read ≡ take done a.seen.heads) × (b ≡ a)

pub record Reads (read : List Head) (done : ℕ) (told told' : Option KeeperView) (leave leave' : TablesView → Type 0) (is_open is_open' : Bool) (faults faults' : ℕ) : Type 0 where
  pub reads : Tells told told' (AreFirst read done)
  pub kept : IfSome told' (AreKept is_open')
  pub stops : Tells told told' (λ _ _. LeavesAmong leave leave')
  pub batch : is_open' ≡ is_open
  pub causes : faults ≤ faults'

take_next : {X : Type 0} (xs : List X) (i : ℕ) (x : X) → slice_get xs i ≡ Some x → take (suc i) xs ≡ take i xs ++ x ∷ []
take_next [] i x is = absurd (cc is)
take_next {X = X} (y ∷ ys) zero x is = ap (λ (z : X). z ∷ []) (same_Some y x is)
take_next {X = X} (y ∷ ys) (suc i) x is = ap (λ (zs : List X). y ∷ zs) (take_next ys i x is)

head_next : (read : List Head) (done : ℕ) (next : Head) (a b c : KeeperView) → AreFirst read done a b
    → FindsCounted (done + 1) (Ok next) b c → AreFirst (read ++ next ∷ []) (done + 1) a c
head_next read done next a b c first second =
    let one_more : done + 1 ≡ suc done = omega arith in
    let there : slice_get a.seen.heads done ≡ Some next =
    subst (λ (n : ℕ). head_at a.seen.heads n ≡ Some next) one_more (subst (λ (v : KeeperView). head_at v.seen.heads (done + 1) ≡ Some next) first.1 second.0) in
    let taken : read ++ next ∷ [] ≡ take (done + 1) a.seen.heads =
    ap (λ (heads : List Head). heads ++ next ∷ []) first.0 ∙ (sym (take_next a.seen.heads done next there) ∙ ap (λ (n : ℕ). take n a.seen.heads) (sym one_more)) in
    (taken, second.1 ∙ first.1)

pub reads_next : (read : List Head) (done : ℕ) (next : Head) (old mid new : Option KeeperView) → Tells old mid (AreFirst read done)
    → Tells mid new (FindsCounted (done + 1) (Ok next)) → Tells old new (AreFirst (read ++ next ∷ []) (done + 1))
reads_next read done next old mid None first second = tt
reads_next read done next old None (Some c) first second = absurd second
reads_next read done next None (Some b) (Some c) first second = absurd first
reads_next read done next (Some a) (Some b) (Some c) first second = head_next read done next a b c first second

-- whatever comes behind what was read, where the keeper is left as it is
pub stops_next : (read : List Head) (done number count : ℕ) (answer : Result Head TrialFault) (fault : TrialFault) (old mid new : Option KeeperView) → Tells old mid (AreFirst read done)
    → Tells mid new (FindsCounted number answer) → Tells old new (FindsFirst count (Err fault))
stops_next read done number count answer fault old mid None first second = tt
stops_next read done number count answer fault old None (Some c) first second = absurd second
stops_next read done number count answer fault None (Some b) (Some c) first second = absurd first
stops_next read done number count (Ok next) fault (Some a) (Some b) (Some c) first second = second.1 ∙ first.1
stops_next read done number count (Err other) fault (Some a) (Some b) (Some c) first second = second ∙ first.1

-- what a stop may leave after two calls
pub leaves_next : (first second third : TablesView → Type 0) (old mid new : Option KeeperView) → Tells old mid (λ _ _. LeavesAmong first second) → Tells mid new (λ _ _. LeavesAmong second third)
    → Tells old new (λ _ _. LeavesAmong first third)
leaves_next first second third old mid None one other = tt
leaves_next first second third old None (Some c) one other = absurd other
leaves_next first second third None (Some b) (Some c) one other = absurd one
leaves_next first second third (Some a) (Some b) (Some c) one other = λ tables may_be. one tables (other tables may_be)

pub reads_all : (count : ℕ) (result : Result (Vec Head Global) TrialFault) (old mid new : Option KeeperView)
    → Tells old mid (Answers (λ tables. length tables.heads) (Ok count)) → Tells mid new (FindsFirst count result) → Tells old new (FindsHeads result)
reads_all count result old mid None first second = tt
reads_all count result old None (Some c) first second = absurd second
reads_all count result None (Some b) (Some c) first second = absurd first
reads_all count (Ok heads) (Some a) (Some b) (Some c) first second =
    let all : take count b.seen.heads ≡ a.seen.heads =
    ap (λ (n : ℕ). take n b.seen.heads) first.0 ∙ (ap (λ (v : KeeperView). take (length a.seen.heads) v.seen.heads) first.1 ∙ take-length a.seen.heads) in
    (second.0 ∙ all, second.1 ∙ first.1)
reads_all count (Err fault) (Some a) (Some b) (Some c) first second = second ∙ first.1
