-- Marks that were found so far.
use Rattle.std.proofs.Common.{◌≡◌, ℕ, zero, suc, ◌+◌, ◌<◌, ◌≤◌, List, [], ◌∷◌, ◌++◌, length, drop, get_or, Bool, Option, Some, None, Vec, Result, Ok, Err, IfSome, append_assoc, append-nil, refl, sym, ap, subst, ◌∙◌, arith}
use Rattle.std.specs.declared.alloc.Global.{Global}
use Rattle.std.proofs.lemmas.List.{drop_all}
use Rattle.prov_outside.specs.Tells.{Tells}
use Rattle.keeper.specs.declared.records.Head.{Head}
use Rattle.keeper.specs.Keeping.{KeeperView, AreKept, LeavesAmong}
use Rattle.keeper.specs.Tables.{TablesView}
use Rattle.trial_keeping.specs.declared.fault.TrialFault.{TrialFault}
use Rattle.trial_keeping.specs.Heads.{FindsHeads}
use Rattle.trial_history.specs.History.{TellsHistory, history_bytes, is_trial, lines_from, marks_from}
use Rattle.trial_history.specs.Stages.{FindsMark, FindsMarks}

-- these are the marks of the first so many heads
abbrev pub AreFirst : List Head → List Bool → ℕ → KeeperView → KeeperView → Type 0
AreFirst heads marks done a b = (marks ++ marks_from a.seen.current (done + 1) (drop done heads) ≡ marks_from a.seen.current 1 heads) × (b ≡ a)

pub record Reads (heads : List Head) (marks : List Bool) (done : ℕ) (told told' : Option KeeperView) (leave leave' : TablesView → Type 0) (is_open is_open' : Bool) (faults faults' : ℕ) : Type 0 where
  pub reads : Tells told told' (AreFirst heads marks done)
  pub each : length marks ≡ done
  pub kept : IfSome told' (AreKept is_open')
  pub stops : Tells told told' (λ _ _. LeavesAmong leave leave')
  pub batch : is_open' ≡ is_open
  pub causes : faults ≤ faults'

next : (current : List ℕ → Option ℕ) (heads : List Head) (i number : ℕ) (path : List ℕ) (other : Head) → i < length heads → path ≡ (get_or heads i other).path
    → marks_from current number (drop i heads) ≡ is_trial (current path) number ∷ marks_from current (suc number) (drop (suc i) heads)
unfolding marks_from
next current [] i number path other there is = absurd (omega (arith, there))
next current (x ∷ xs) zero number path other there is = ap (λ (p : List ℕ). is_trial (current p) number ∷ marks_from current (suc number) xs) (sym is)
next current (x ∷ xs) (suc i) number path other there is = next current xs i number path other (omega (arith, there)) is

one_more : (heads : List Head) (marks : List Bool) (done : ℕ) (path : List ℕ) (other : Head) (marked : Bool) (a b c : KeeperView) → done < length heads → path ≡ (get_or heads done other).path
    → AreFirst heads marks done a b → FindsMark (done + 1) path (Ok marked) b c → AreFirst heads (marks ++ marked ∷ []) (done + 1) a c
one_more heads marks done path other marked a b c there is first second =
    let step : suc done ≡ done + 1 = omega arith in
    let step' : suc (done + 1) ≡ done + 1 + 1 = omega arith in
    let mark : marked ≡ is_trial (a.seen.current path) (done + 1) = subst (λ (v : KeeperView). marked ≡ is_trial (v.seen.current path) (done + 1)) first.1 second.0 in
    let here : marks_from a.seen.current (done + 1) (drop done heads) ≡ is_trial (a.seen.current path) (done + 1) ∷ marks_from a.seen.current (done + 1 + 1) (drop (done + 1) heads) =
    rw (step', step) at (next a.seen.current heads done (done + 1) path other there is) in
    let there' : (marks ++ marked ∷ []) ++ marks_from a.seen.current (done + 1 + 1) (drop (done + 1) heads) ≡ marks_from a.seen.current 1 heads =
    append_assoc marks (marked ∷ []) (marks_from a.seen.current (done + 1 + 1) (drop (done + 1) heads))
    ∙ (ap (λ (m : Bool). marks ++ m ∷ marks_from a.seen.current (done + 1 + 1) (drop (done + 1) heads)) mark ∙ (ap (λ (ms : List Bool). marks ++ ms) (sym here) ∙ first.0)) in
    (there', second.1 ∙ first.1)

pub reads_next : (heads : List Head) (marks : List Bool) (done : ℕ) (path : List ℕ) (other : Head) (marked : Bool) (old mid new : Option KeeperView) → done < length heads → path ≡ (get_or heads done other).path
    → Tells old mid (AreFirst heads marks done) → Tells mid new (FindsMark (done + 1) path (Ok marked)) → Tells old new (AreFirst heads (marks ++ marked ∷ []) (done + 1))
reads_next heads marks done path other marked old mid None there is first second = tt
reads_next heads marks done path other marked old None (Some c) there is first second = absurd second
reads_next heads marks done path other marked None (Some b) (Some c) there is first second = absurd first
reads_next heads marks done path other marked (Some a) (Some b) (Some c) there is first second = one_more heads marks done path other marked a b c there is first second

none_left : (current : List ℕ → Option ℕ) (number : ℕ) (heads : List Head) → heads ≡ [] → marks_from current number heads ≡ []
unfolding marks_from
none_left current number heads is = rw is refl

all_found : (heads : List Head) (marks : List Bool) (done : ℕ) (a b : KeeperView) → length heads ≤ done → AreFirst heads marks done a b → (marks ≡ marks_from a.seen.current 1 heads) × (b ≡ a)
all_found heads marks done a b high first =
    let none : marks_from a.seen.current (done + 1) (drop done heads) ≡ [] = none_left a.seen.current (done + 1) (drop done heads) (drop_all done heads high) in
    (sym (append-nil marks) ∙ (ap (λ (ms : List Bool). marks ++ ms) (sym none) ∙ first.0), first.1)

pub reads_all : (heads : List Head) (marks : Vec Bool Global) (done : ℕ) (old new : Option KeeperView) → length heads ≤ done → Tells old new (AreFirst heads marks.items done) → Tells old new (FindsMarks heads (Ok marks))
reads_all heads marks done old None high first = tt
reads_all heads marks done None (Some b) high first = absurd first
reads_all heads marks done (Some a) (Some b) high first = all_found heads marks.items done a b high first

pub reads_none : (heads : List Head) (told : Option KeeperView) → Tells told told (AreFirst heads [] 0)
reads_none heads None = tt
reads_none heads (Some a) = (refl, refl)

-- whatever comes behind what was found, where the keeper is left as it is
pub stops_next : (heads : List Head) (marks : List Bool) (done number : ℕ) (path : List ℕ) (answer : Result Bool TrialFault) (fault : TrialFault) (old mid new : Option KeeperView)
    → Tells old mid (AreFirst heads marks done) → Tells mid new (FindsMark number path answer) → Tells old new (FindsMarks heads (Err fault))
stops_next heads marks done number path answer fault old mid None first second = tt
stops_next heads marks done number path answer fault old None (Some c) first second = absurd second
stops_next heads marks done number path answer fault None (Some b) (Some c) first second = absurd first
stops_next heads marks done number path (Ok marked) fault (Some a) (Some b) (Some c) first second = second.1 ∙ first.1
stops_next heads marks done number path (Err other) fault (Some a) (Some b) (Some c) first second = second ∙ first.1

-- what a stop may leave after two calls
pub leaves_next : (first second third : TablesView → Type 0) (old mid new : Option KeeperView) → Tells old mid (λ _ _. LeavesAmong first second) → Tells mid new (λ _ _. LeavesAmong second third)
    → Tells old new (λ _ _. LeavesAmong first third)
leaves_next first second third old mid None one other = tt
leaves_next first second third old None (Some c) one other = absurd other
leaves_next first second third None (Some b) (Some c) one other = absurd one
leaves_next first second third (Some a) (Some b) (Some c) one other = λ tables may_be. one tables (other tables may_be)

-- ---- the text

told_of : (heads : Vec Head Global) (marks : Vec Bool Global) (text : List ℕ) (a b c : KeeperView) → text ≡ lines_from 1 heads.items marks.items → FindsHeads (Ok heads) a b → FindsMarks heads.items (Ok marks) b c → TellsHistory (Ok text) a c
told_of heads marks text a b c lines first second =
    let current : b.seen.current ≡ a.seen.current = ap (λ (v : KeeperView). v.seen.current) first.1 in
    let marked : marks.items ≡ marks_from a.seen.current 1 a.seen.heads =
    second.0 ∙ (ap (λ (f : List ℕ → Option ℕ). marks_from f 1 heads.items) current ∙ ap (λ (hs : List Head). marks_from a.seen.current 1 hs) first.0) in
    (lines ∙ (ap (λ (ms : List Bool). lines_from 1 heads.items ms) marked ∙ ap (λ (hs : List Head). lines_from 1 hs (marks_from a.seen.current 1 a.seen.heads)) first.0), second.1 ∙ first.1)

pub told : (heads : Vec Head Global) (marks : Vec Bool Global) (text : List ℕ) (old mid new : Option KeeperView) → text ≡ lines_from 1 heads.items marks.items
    → Tells old mid (FindsHeads (Ok heads)) → Tells mid new (FindsMarks heads.items (Ok marks)) → Tells old new (TellsHistory (Ok text))
told heads marks text old mid None lines first second = tt
told heads marks text old None (Some c) lines first second = absurd second
told heads marks text None (Some b) (Some c) lines first second = absurd first
told heads marks text (Some a) (Some b) (Some c) lines first second = told_of heads marks text a b c lines first second
