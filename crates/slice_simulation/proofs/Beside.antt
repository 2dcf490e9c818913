-- The tree of actions of a script beside that of its slice: what is kept stands in both, all else in the script's alone, and the `pass` of
-- an emptied suite in the slice's alone. No state is named. In an activation that a statement entered which is not kept no kept one begins.
use Rattle.std.proofs.Common.{◌≡◌, ℕ, zero, suc, true, false, List, [], ◌∷◌}
use Rattle.std.specs.Prelude.{⊤, Bool, ◌⊎◌}
use Rattle.prov_base.specs.declared.place.Pos.{Pos}
use Rattle.py_value.specs.Contents.{Contents, function, class, object}
use Rattle.py_tree.specs.Functions.{Function, is_local}
use Rattle.model_laws.specs.Flow.{KnownAll}
use Rattle.slice_simulation.specs.Cut.{SameFunction}
use Rattle.py_model.specs.Act.{Act, How, Walked, ret, stop, perform, begin, close, enter, leave, to, normal, broke, continued, returned, threw}
use Rattle.py_model.specs.Going.{Open, a_statement, an_activation}
use Rattle.py_model.specs.Moment.{Ending, normal_end}
use Rattle.py_model.specs.Operations.{Op}
use Rattle.py_model.specs.Plan.{Answer, value, raised, at_end}
use Rattle.slice_law.specs.Closed.{StmtSet}
use Rattle.slice_simulation.specs.Renaming.{SameValue, SameValues, SameOp, SameScope, Marks}

-- how both ended
pub data SameHow (marks : Marks) : How → How → Type 0 where
  both_normal : SameHow marks normal normal
  both_broke : SameHow marks broke broke
  both_continued : SameHow marks continued continued
  both_returned : {v w : Contents} → SameValue marks v w → SameHow marks (returned v) (returned w)
  both_threw : {o p line : ℕ} → SameValue marks (object o) (object p) → SameHow marks (threw o line) (threw p line)

-- the statement around is kept, or the one that called, or there is none
abbrev pub InnermostIs : Bool → StmtSet → List Open → Type 0
InnermostIs mark keep [] = ⊥
InnermostIs mark keep (a_statement number ∷ from) = keep number ≡ mark
InnermostIs mark keep (an_activation ∷ from) = InnermostIs mark keep from

abbrev pub TopIsKept : StmtSet → List Open → Type 0
TopIsKept keep [] = ⊤
TopIsKept keep (a_statement number ∷ from) = keep number ≡ true
TopIsKept keep (an_activation ∷ from) = InnermostIs true keep from

-- the statement that called is not kept
abbrev pub CallerIsOut : StmtSet → List Open → Type 0
CallerIsOut keep [] = ⊥
CallerIsOut keep (a_statement number ∷ from) = CallerIsOut keep from
CallerIsOut keep (an_activation ∷ from) = InnermostIs false keep from

-- What is known of the two scripts and their runs: which statements stand at one place, as which `def` an activation was entered, which functions
-- stand in both, and where the slice has definitions.
pub record Ground : Type 1 where
  pub paired : ℕ → ℕ → Type 0
  pub entered : ℕ → Pos → Type 0
  pub called : Function → Function → Type 0
  pub known : Pos → Bool

-- the operations on a name in a scope: it is read, bound, unbound, and bound to a module
pub data OnName : ℕ → List Contents → Type 0 where
  on_read : OnName 1 []
  on_bind : {v : Contents} → OnName 33 (v ∷ [])
  on_unbind : OnName 34 []
  on_import : OnName 44 []

-- it is no function and no class that is known
abbrev pub IsUnknown : (Pos → Bool) → Contents → Type 0
IsUnknown known (function place) = known place ≡ false
IsUnknown known (class place) = known place ≡ false
IsUnknown known other = ⊤

-- A statement that is not kept begins in the script's run alone: nothing of the slice stands at its place, or a statement called which is not kept.
abbrev pub BeginsAlone : Ground → StmtSet → ℕ → List Open → Type 0
BeginsAlone ground keep n from = ((m : ℕ) → ground.paired n m → ⊥) ⊎ CallerIsOut keep from

module _ (ground : Ground) (keep : StmtSet) (marks : Marks) where
  -- Down to so many actions of the slice's that cost something. What is open in the script's tree as they begin is the first list.
  pub data Beside : ℕ → List Open → List Open → Act → Act → Type 0 where
    unreached : {from onto : List Open} {a b : Act} → Beside zero from onto a b
    both_ret : {k : ℕ} {from : List Open} {how other : How} → SameHow marks how other → Beside k from from (ret how) (ret other)
    stopped : {k : ℕ} {from onto : List Open} {b : Act} → Beside k from onto stop b
    both_perform : {k n : ℕ} {from onto : List Open} {at : Pos} {p q : Op} {vs ws : List Contents} {f g : Answer → Walked → Act}
        → keep n ≡ true → SameOp marks p q → SameValues marks vs ws
        → ((v w : Contents) (walked : Walked) → SameValue marks v w → Beside k (a_statement n ∷ from) onto (f (value v) walked) (g (value w) walked))
        → ((o e : ℕ) (walked : Walked) → SameValue marks (object o) (object e) → Beside k (a_statement n ∷ from) onto (f (raised o) walked) (g (raised e) walked))
        → ((walked : Walked) → Beside k (a_statement n ∷ from) onto (f at_end walked) (g at_end walked))
        → Beside (suc k) (a_statement n ∷ from) onto (perform at p vs f) (perform at q ws g)
    alone_perform : {k n : ℕ} {from onto : List Open} {at : Pos} {p : Op} {vs : List Contents} {f : Answer → Walked → Act} {b : Act}
        → keep n ≡ false → IsUnknown ground.known p.value → ((answer : Answer) (walked : Walked) → Beside k (a_statement n ∷ from) onto (f answer walked) b)
        → Beside k (a_statement n ∷ from) onto (perform at p vs f) b
    both_begin : {k n m : ℕ} {from onto : List Open} {a b : Act} → keep n ≡ true → ground.paired n m → Beside k (a_statement n ∷ from) onto a b
        → Beside (suc k) from onto (begin n a) (begin m b)
    alone_begin : {k n : ℕ} {from onto : List Open} {a b : Act} → keep n ≡ false → BeginsAlone ground keep n from
        → Beside k (a_statement n ∷ from) onto a b → Beside k from onto (begin n a) b
    pass_begin : {k n m : ℕ} {from onto : List Open} {a b : Act} → keep n ≡ false → ground.paired n m → Beside k (a_statement n ∷ from) onto a b
        → Beside (suc k) from onto (begin n a) (begin m (close m normal_end b))
    both_close : {k n m : ℕ} {from onto : List Open} {ended : Ending} {a b : Act} → keep n ≡ true → ground.paired n m → Beside k from onto a b
        → Beside k (a_statement n ∷ from) onto (close n ended a) (close m ended b)
    alone_close : {k n : ℕ} {from onto : List Open} {ended : Ending} {a b : Act} → keep n ≡ false → Beside k from onto a b
        → Beside k (a_statement n ∷ from) onto (close n ended a) b
    abrupt_close : {k n : ℕ} {from onto : List Open} {ended : Ending} {a b : Act} → keep n ≡ false → TopIsKept keep from → (ended ≡ normal_end → ⊥)
        → Beside k (a_statement n ∷ from) onto (close n ended a) b
    both_enter : {k n : ℕ} {from onto : List Open} {at def : Pos} {params : List (List ℕ)} {vs ws : List Contents} {f g : ℕ → Act} → keep n ≡ true → SameValues marks vs ws
        → ((a b : ℕ) → SameScope marks a b → ground.entered a def → Beside k (an_activation ∷ (a_statement n ∷ from)) onto (f a) (g b))
        → Beside (suc k) (a_statement n ∷ from) onto (enter at def params vs f) (enter at def params ws g)
    alone_enter : {k n : ℕ} {from onto : List Open} {at def : Pos} {params : List (List ℕ)} {vs : List Contents} {f : ℕ → Act} {b : Act} → keep n ≡ false
        → ((a : ℕ) → Beside k (an_activation ∷ (a_statement n ∷ from)) onto (f a) b) → Beside k (a_statement n ∷ from) onto (enter at def params vs f) b
    both_leave : {k n : ℕ} {from onto : List Open} {v w : Contents} {a b : Act} → keep n ≡ true → SameValue marks v w → Beside k (a_statement n ∷ from) onto a b
        → Beside k (an_activation ∷ (a_statement n ∷ from)) onto (leave v a) (leave w b)
    alone_leave : {k n : ℕ} {from onto : List Open} {v : Contents} {a b : Act} → keep n ≡ false → Beside k (a_statement n ∷ from) onto a b
        → Beside k (an_activation ∷ (a_statement n ∷ from)) onto (leave v a) b
    barred_begin : {k n : ℕ} {from onto : List Open} {a b : Act} → keep n ≡ true → CallerIsOut keep from → Beside k from onto (begin n a) b
    -- the slice does not define what an operation is given
    unknown_perform : {k : ℕ} {from onto : List Open} {a : Act} {at : Pos} {q : Op} {ws : List Contents} {g : Answer → Walked → Act} → (KnownAll ground.known ws → ⊥)
        → Beside k from onto a (perform at q ws g)
    -- a kept statement names what is local in its function and not in what is kept of that
    lost_name : {k n : ℕ} {from onto : List Open} {at : Pos} {p : Op} {vs : List Contents} {f : Answer → Walked → Act} {b : Act} {one other : Function} → keep n ≡ true → OnName p.no vs
        → SameFunction keep one other → ground.called one other → ground.entered p.scope one.place → is_local one p.name ≡ true → is_local other p.name ≡ false
        → Beside k (a_statement n ∷ from) onto (perform at p vs f) b

  pub less : (k : ℕ) {from onto : List Open} {a b : Act} → Beside (suc k) from onto a b → Beside k from onto a b
  less zero beside = unreached
  less (suc k) (both_ret same) = both_ret same
  less (suc k) stopped = stopped
  less (suc k) (both_perform kept same_op same_values each thrown at_last) =
      both_perform kept same_op same_values (λ v w walked same. less k (each v w walked same)) (λ o e walked same. less k (thrown o e walked same)) (λ walked. less k (at_last walked))
  less (suc k) (alone_perform out unknown each) = alone_perform out unknown (λ answer walked. less (suc k) (each answer walked))
  less (suc k) (both_begin kept named rest) = both_begin kept named (less k rest)
  less (suc k) (alone_begin out lone rest) = alone_begin out lone (less (suc k) rest)
  less (suc k) (pass_begin out named rest) = pass_begin out named (less k rest)
  less (suc k) (both_close kept named rest) = both_close kept named (less (suc k) rest)
  less (suc k) (alone_close out rest) = alone_close out (less (suc k) rest)
  less (suc k) (abrupt_close out top abrupt) = abrupt_close out top abrupt
  less (suc k) (both_enter kept same each) = both_enter kept same (λ a b is by. less k (each a b is by))
  less (suc k) (alone_enter out each) = alone_enter out (λ a. less (suc k) (each a))
  less (suc k) (both_leave kept same rest) = both_leave kept same (less (suc k) rest)
  less (suc k) (alone_leave out rest) = alone_leave out (less (suc k) rest)
  less (suc k) (barred_begin kept out) = barred_begin kept out
  less (suc k) (unknown_perform unknown) = unknown_perform unknown
  less (suc k) (lost_name kept on same called entered here there) = lost_name kept on same called entered here there

  -- one after the other
  pub beside_to : {k : ℕ} {from between onto : List Open} {a b : Act} {f g : How → Act} → Beside k from between a b
      → ((how other : How) → SameHow marks how other → Beside k between onto (f how) (g other)) → Beside k from onto (to a f) (to b g)
  beside_to unreached each = unreached
  beside_to (both_ret same) each = each _ _ same
  beside_to stopped each = stopped
  beside_to {k = suc k} (both_perform kept same_op same_values next thrown at_last) each =
      both_perform kept same_op same_values (λ v w walked same. beside_to (next v w walked same) (λ how other is. less k (each how other is)))
      (λ o e walked same. beside_to (thrown o e walked same) (λ how other is. less k (each how other is)))
      (λ walked. beside_to (at_last walked) (λ how other is. less k (each how other is)))
  beside_to (alone_perform out unknown next) each = alone_perform out unknown (λ answer walked. beside_to (next answer walked) each)
  beside_to {k = suc k} (both_begin kept named rest) each = both_begin kept named (beside_to rest (λ how other is. less k (each how other is)))
  beside_to (alone_begin out lone rest) each = alone_begin out lone (beside_to rest each)
  beside_to {k = suc k} (pass_begin out named rest) each = pass_begin out named (beside_to rest (λ how other is. less k (each how other is)))
  beside_to (both_close kept named rest) each = both_close kept named (beside_to rest each)
  beside_to (alone_close out rest) each = alone_close out (beside_to rest each)
  beside_to (abrupt_close out top abrupt) each = abrupt_close out top abrupt
  beside_to {k = suc k} (both_enter kept same next) each = both_enter kept same (λ a b is by. beside_to (next a b is by) (λ how other is. less k (each how other is)))
  beside_to (alone_enter out next) each = alone_enter out (λ a. beside_to (next a) each)
  beside_to (both_leave kept same rest) each = both_leave kept same (beside_to rest each)
  beside_to (alone_leave out rest) each = alone_leave out (beside_to rest each)
  beside_to (barred_begin kept out) each = barred_begin kept out
  beside_to (unknown_perform unknown) each = unknown_perform unknown
  beside_to (lost_name kept on same called entered here there) each = lost_name kept on same called entered here there

-- A tree of actions of statements outside the set alone. In an activation that one of them entered no other begins.
module _ (ground : Ground) (keep : StmtSet) where
  pub data Outside : List Open → List Open → Act → Type 0 where
    out_ret : {from : List Open} {how : How} → Outside from from (ret how)
    out_stop : {from onto : List Open} → Outside from onto stop
    out_perform : {n : ℕ} {from onto : List Open} {at : Pos} {p : Op} {vs : List Contents} {f : Answer → Walked → Act} → keep n ≡ false → IsUnknown ground.known p.value
        → ((answer : Answer) (walked : Walked) → Outside (a_statement n ∷ from) onto (f answer walked)) → Outside (a_statement n ∷ from) onto (perform at p vs f)
    out_begin : {n : ℕ} {from onto : List Open} {a : Act} → keep n ≡ false → BeginsAlone ground keep n from → Outside (a_statement n ∷ from) onto a → Outside from onto (begin n a)
    out_close : {n : ℕ} {from onto : List Open} {ended : Ending} {a : Act} → keep n ≡ false → Outside from onto a → Outside (a_statement n ∷ from) onto (close n ended a)
    out_enter : {n : ℕ} {from onto : List Open} {at def : Pos} {params : List (List ℕ)} {vs : List Contents} {f : ℕ → Act} → keep n ≡ false
        → ((a : ℕ) → Outside (an_activation ∷ (a_statement n ∷ from)) onto (f a)) → Outside (a_statement n ∷ from) onto (enter at def params vs f)
    out_leave : {n : ℕ} {from onto : List Open} {v : Contents} {a : Act} → keep n ≡ false → Outside (a_statement n ∷ from) onto a
        → Outside (an_activation ∷ (a_statement n ∷ from)) onto (leave v a)
    out_barred : {n : ℕ} {from onto : List Open} {a : Act} → keep n ≡ true → CallerIsOut keep from → Outside from onto (begin n a)

  pub out_to : {from between onto : List Open} {a : Act} {f : How → Act} → Outside from between a → ((how : How) → Outside between onto (f how)) → Outside from onto (to a f)
  out_to out_ret each = each _
  out_to out_stop each = out_stop
  out_to (out_perform out unknown next) each = out_perform out unknown (λ answer walked. out_to (next answer walked) each)
  out_to (out_begin out lone rest) each = out_begin out lone (out_to rest each)
  out_to (out_close out rest) each = out_close out (out_to rest each)
  out_to (out_enter out next) each = out_enter out (λ a. out_to (next a) each)
  out_to (out_leave out rest) each = out_leave out (out_to rest each)
  out_to (out_barred kept out) each = out_barred kept out

-- in the script's run alone, before what follows
module _ (ground : Ground) (keep : StmtSet) where
  pub beside_after : (marks : Marks) {k : ℕ} {from between onto : List Open} {a b : Act} {f : How → Act} → Outside ground keep from between a
      → ((how : How) → Beside ground keep marks k between onto (f how) b) → Beside ground keep marks k from onto (to a f) b
  beside_after marks out_ret each = each _
  beside_after marks out_stop each = stopped
  beside_after marks (out_perform out unknown next) each = alone_perform out unknown (λ answer walked. beside_after marks (next answer walked) each)
  beside_after marks (out_begin out lone rest) each = alone_begin out lone (beside_after marks rest each)
  beside_after marks (out_close out rest) each = alone_close out (beside_after marks rest each)
  beside_after marks (out_enter out next) each = alone_enter out (λ a. beside_after marks (next a) each)
  beside_after marks (out_leave out rest) each = alone_leave out (beside_after marks rest each)
  beside_after marks (out_barred kept out) each = barred_begin kept out
