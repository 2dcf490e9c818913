-- The objects and activations of both runs at a moment, and up to the last one.
use Rattle.std.proofs.Common.{◌≡◌, ℕ, zero, suc, ◌+◌, Bool, true, false, List, [], ◌∷◌, ◌++◌, map, length, slice_get, Option, Some, None, option_map, refl, sym, ap, subst, ◌∙◌, arith, append_assoc, append-nil}
use Rattle.std.proofs.lemmas.Bool.{false≢true}
use Rattle.std.proofs.lemmas.List.{length-append, map-append}
use Rattle.py_value.specs.Seen.{SeenKind}
use Rattle.py_model.specs.History.{made_by, with_kind, spent_on}
use Rattle.py_model.specs.Moment.{Moment, begins, does, enters, leaves, ends}
use Rattle.slice_law.specs.Closed.{StmtSet}
use Rattle.py_model.specs.Occurrences.{owner_stmt}
use Rattle.slice_simulation.proofs.Ranks.{shifted_fits}
use Rattle.slice_simulation.specs.Related.{kept_of}
use Rattle.slice_simulation.specs.Renaming.{activations_after, Marks, is_kept, with_mark, marks_after, is_marked, rank, IsShifted, all_marks}

-- what is asked of an object is the same in the whole list and in its front
pub kind_at : {A : Type 0} (now more : List Bool) (xs : List A) (o : ℕ) → length xs ≡ length now → is_marked (now ++ more) o ≡ true
    → slice_get (kept_of now xs) (rank (now ++ more) o) ≡ slice_get xs o
kind_at [] more [] o same is = refl
kind_at [] more (x ∷ xs) o same is = absurd (omega (arith, same))
kind_at (mark ∷ now) more [] o same is = absurd (omega (arith, same))
kind_at (true ∷ now) more (x ∷ xs) zero same is = refl
kind_at (false ∷ now) more (x ∷ xs) zero same is = absurd (false≢true is)
kind_at (true ∷ now) more (x ∷ xs) (suc o) same is = kind_at now more xs o (omega (arith, same)) is
kind_at (false ∷ now) more (x ∷ xs) (suc o) same is = kind_at now more xs o (omega (arith, same)) is

rank_zero : (marks : List Bool) → rank marks 0 ≡ 0
rank_zero [] = refl
rank_zero (mark ∷ marks) = refl

-- the next object
pub next_at : {A : Type 0} (now more : List Bool) (xs : List A) → length xs ≡ length now → length (kept_of now xs) ≡ rank (now ++ more) (length now)
next_at [] more [] same = sym (rank_zero more)
next_at [] more (x ∷ xs) same = absurd (omega (arith, same))
next_at (mark ∷ now) more [] same = absurd (omega (arith, same))
next_at (true ∷ now) more (x ∷ xs) same = ap suc (next_at now more xs (omega (arith, same)))
next_at (false ∷ now) more (x ∷ xs) same = next_at now more xs (omega (arith, same))

pub marked_at : (now more : List Bool) → is_marked (now ++ true ∷ more) (length now) ≡ true
marked_at [] more = refl
marked_at (mark ∷ now) more = marked_at now more

kept_joined : {A : Type 0} (now marks : List Bool) (xs ys : List A) → length xs ≡ length now → kept_of (now ++ marks) (xs ++ ys) ≡ kept_of now xs ++ kept_of marks ys
kept_joined [] marks [] ys same = refl
kept_joined [] marks (x ∷ xs) ys same = absurd (omega (arith, same))
kept_joined (mark ∷ now) marks [] ys same = absurd (omega (arith, same))
kept_joined {A} (true ∷ now) marks (x ∷ xs) ys same = ap (λ (rest : List A). x ∷ rest) (kept_joined now marks xs ys (omega (arith, same)))
kept_joined (false ∷ now) marks (x ∷ xs) ys same = kept_joined now marks xs ys (omega (arith, same))

-- kinds of a kept moment's object, and of another's
module _ (f : SeenKind → SeenKind) (now : List Bool) (kinds others : List SeenKind) (same : length kinds ≡ length now) (are : others ≡ map f (kept_of now kinds)) where
  pub kinds_made : (made : Option SeenKind) → with_kind (option_map f made) others ≡ map f (kept_of (with_mark made true now) (with_kind made kinds))
  kinds_made None = are
  kinds_made (Some kind) =
      ap (λ (xs : List SeenKind). xs ++ f kind ∷ []) are
      ∙ (sym (map-append f (kept_of now kinds) (kind ∷ [])) ∙ ap (map f) (sym (kept_joined now (true ∷ []) kinds (kind ∷ []) same)))

  pub kinds_alone : (made : Option SeenKind) → others ≡ map f (kept_of (with_mark made false now) (with_kind made kinds))
  kinds_alone None = are
  kinds_alone (Some kind) = are ∙ ap (map f) (sym (kept_joined now (false ∷ []) kinds (kind ∷ []) same ∙ append-nil (kept_of now kinds)))

pub counted_made : (made : Option SeenKind) (mark : Bool) (now : List Bool) (kinds : List SeenKind) → length kinds ≡ length now
    → length (with_kind made kinds) ≡ length (with_mark made mark now)
counted_made None mark now kinds same = same
counted_made (Some kind) mark now kinds same = length-append kinds (kind ∷ []) ∙ (ap (λ n. n + 1) same ∙ sym (length-append now (mark ∷ [])))

-- marks of the whole list begin with those so far, and cost no less
pub record Grows (now all : List Bool) : Type 0 where
  pub more : List Bool
  pub all_is : all ≡ now ++ more

pub marks_grow : (keep : StmtSet) (news told : List Moment) → Grows (marks_after keep told) (marks_after keep (news ++ told))
marks_grow keep [] told = record { more = []; all_is = sym (append-nil (marks_after keep told)) }
marks_grow keep (moment ∷ news) told = by_made (made_by moment) (marks_grow keep news told)
  where
    by_made : (made : Option SeenKind) → Grows (marks_after keep told) (marks_after keep (news ++ told))
        → Grows (marks_after keep told) (with_mark made (is_kept keep (owner_stmt (news ++ told))) (marks_after keep (news ++ told)))
    by_made None grows = grows
    by_made (Some kind) grows = record {
      more = grows.more ++ is_kept keep (owner_stmt (news ++ told)) ∷ [];
      all_is = ap (λ (marks : List Bool). marks ++ is_kept keep (owner_stmt (news ++ told)) ∷ []) grows.all_is
          ∙ append_assoc (marks_after keep told) grows.more (is_kept keep (owner_stmt (news ++ told)) ∷ []);
    }

pub activations_grow : (keep : StmtSet) (news told : List Moment) → Grows (activations_after keep told) (activations_after keep (news ++ told))
activations_grow keep [] told = record { more = []; all_is = sym (append-nil (activations_after keep told)) }
activations_grow keep (enters at def values accesses ∷ news) told = by_grows (activations_grow keep news told)
  where
    by_grows : Grows (activations_after keep told) (activations_after keep (news ++ told))
        → Grows (activations_after keep told) (activations_after keep (news ++ told) ++ is_kept keep (owner_stmt (news ++ told)) ∷ [])
    by_grows grows = record {
      more = grows.more ++ is_kept keep (owner_stmt (news ++ told)) ∷ [];
      all_is = ap (λ (marks : List Bool). marks ++ is_kept keep (owner_stmt (news ++ told)) ∷ []) grows.all_is
          ∙ append_assoc (activations_after keep told) grows.more (is_kept keep (owner_stmt (news ++ told)) ∷ []);
    }
activations_grow keep (does at number values answer made accesses weight ∷ news) told = activations_grow keep news told
activations_grow keep (begins n ∷ news) told = activations_grow keep news told
activations_grow keep (leaves v ∷ news) told = activations_grow keep news told
activations_grow keep (ends n ended ∷ news) told = activations_grow keep news told

-- the next activation: in both runs, and in the script's alone
pub kept_longer : (now : List Bool) → length (kept_of (now ++ true ∷ []) (now ++ true ∷ [])) ≡ suc (length (kept_of now now))
kept_longer now = ap length (kept_joined now (true ∷ []) now (true ∷ []) refl) ∙ (length-append (kept_of now now) (true ∷ []) ∙ omega arith)

pub kept_as_long : (now : List Bool) → length (kept_of (now ++ false ∷ []) (now ++ false ∷ [])) ≡ length (kept_of now now)
kept_as_long now = ap length (kept_joined now (false ∷ []) now (false ∷ []) refl) ∙ (length-append (kept_of now now) [] ∙ omega arith)

pub one_longer : (now : List Bool) (mark : Bool) → length (now ++ mark ∷ []) ≡ suc (length now)
one_longer now mark = length-append now (mark ∷ []) ∙ omega arith

pub spent_joined : (news told : List Moment) → spent_on (news ++ told) ≡ spent_on news + spent_on told
spent_joined [] told = omega arith
spent_joined (moment ∷ news) told = omega (arith, spent_joined news told)

both_same : {objects others activations more : List Bool} → objects ≡ others → activations ≡ more
    → ◌≡◌ {A = Marks} (record { objects = objects; activations = activations }) (record { objects = others; activations = more })
both_same one other = cc

-- the first object is there in both runs, so renamings that fit are there
pub shifts : (keep : StmtSet) (upto : List Moment) (more : ℕ) → IsShifted (all_marks keep upto) more
shifts keep upto more = subst (λ marks. IsShifted marks more) marks_are (shifted_fits (start upto).more (entered upto).more more)
  where
    start : (told : List Moment) → Grows (true ∷ []) (marks_after keep told)
    start told = by_end (marks_grow keep told [])
      where
        by_end : Grows (true ∷ []) (marks_after keep (told ++ [])) → Grows (true ∷ []) (marks_after keep told)
        by_end grows = record { more = grows.more; all_is = ap (marks_after keep) (sym (append-nil told)) ∙ grows.all_is }

    entered : (told : List Moment) → Grows (true ∷ []) (activations_after keep told)
    entered told = by_end (activations_grow keep told [])
      where
        by_end : Grows (true ∷ []) (activations_after keep (told ++ [])) → Grows (true ∷ []) (activations_after keep told)
        by_end grows = record { more = grows.more; all_is = ap (activations_after keep) (sym (append-nil told)) ∙ grows.all_is }

    marks_are : record { objects = true ∷ (start upto).more; activations = true ∷ (entered upto).more } ≡ all_marks keep upto
    marks_are = both_same (sym (start upto).all_is) (sym (entered upto).all_is)
