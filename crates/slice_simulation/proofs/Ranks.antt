-- Objects and activations of both runs are numbered one-to-one, and renamings that fit differ on all others.
use Rattle.std.proofs.Common.{◌≡◌, ℕ, zero, suc, ◌+◌, ◌<◌, Bool, true, false, List, [], ◌∷◌, length, if◌then◌else◌, refl, sym, ap, ◌∙◌, arith}
use Rattle.std.proofs.lemmas.Bool.{false≢true}
use Rattle.py_value.specs.Contents.{Contents, object}
use Rattle.slice_simulation.specs.Renaming.{Marks, is_marked, rank, shifted, IsShifted, SameValue, SameScope}

rank_within : (marks : List Bool) (o : ℕ) → is_marked marks o ≡ true → rank marks o < length marks
rank_within [] o is = absurd (false≢true is)
rank_within (mark ∷ marks) zero is = omega arith
rank_within (true ∷ marks) (suc o) is = omega (arith, rank_within marks o is)
rank_within (false ∷ marks) (suc o) is = omega (arith, rank_within marks o is)

pub rank_one : (marks : List Bool) (m n : ℕ) → is_marked marks m ≡ true → is_marked marks n ≡ true → rank marks m ≡ rank marks n → m ≡ n
rank_one [] m n is on same = absurd (false≢true is)
rank_one (true ∷ marks) zero zero is on same = refl
rank_one (true ∷ marks) zero (suc n) is on same = absurd (omega (arith, same))
rank_one (true ∷ marks) (suc m) zero is on same = absurd (omega (arith, same))
rank_one (true ∷ marks) (suc m) (suc n) is on same = ap suc (rank_one marks m n is on (omega (arith, same)))
rank_one (false ∷ marks) zero n is on same = absurd (false≢true is)
rank_one (false ∷ marks) (suc m) zero is on same = absurd (false≢true on)
rank_one (false ∷ marks) (suc m) (suc n) is on same = ap suc (rank_one marks m n is on same)

module _ (marks : List Bool) (more : ℕ) where
  shifted_as : (o : ℕ) (mark : Bool) → is_marked marks o ≡ mark → shifted marks more o ≡ (if mark then rank marks o else length marks + (more + o))
  shifted_as o mark is = ap (λ test. if test then rank marks o else length marks + (more + o)) is

  shifted_one : (m n : ℕ) → shifted marks more m ≡ shifted marks more n → m ≡ n
  shifted_one m n same = by_marks (is_marked marks m) refl (is_marked marks n) refl
    where
      by_marks : (a : Bool) → is_marked marks m ≡ a → (b : Bool) → is_marked marks n ≡ b → m ≡ n
      by_marks true is true on = rank_one marks m n is on (sym (shifted_as m true is) ∙ same ∙ shifted_as n true on)
      by_marks true is false on = absurd (omega (arith, shifted_as m true is, shifted_as n false on, same, rank_within marks m is))
      by_marks false is true on = absurd (omega (arith, shifted_as m false is, shifted_as n true on, same, rank_within marks n on))
      by_marks false is false on = omega (arith, shifted_as m false is, shifted_as n false on, same)

pub shifted_fits : (objects activations : List Bool) (more : ℕ) → IsShifted (record { objects = true ∷ objects; activations = true ∷ activations }) more
shifted_fits objects activations more = record {
  by = record {
    objects = shifted (true ∷ objects) more;
    scopes = shifted (true ∷ activations) more;
    one_object = shifted_one (true ∷ objects) more;
    one_scope = shifted_one (true ∷ activations) more;
    module_stays = refl;
    arguments_stay = refl;
  };
  fits = record {
    objects_are = λ o is. shifted_as (true ∷ objects) more o true is;
    scopes_are = λ a is. shifted_as (true ∷ activations) more a true is;
  };
  objects_are = λ o. refl;
  scopes_are = λ a. refl;
}

-- What two renamings that fit agree on is there in both runs.
moved_is_marked : (marks : List Bool) (o : ℕ) → shifted marks 0 o ≡ shifted marks 1 o → is_marked marks o ≡ true
moved_is_marked marks o same = by_mark (is_marked marks o) refl
  where
    by_mark : (mark : Bool) → is_marked marks o ≡ mark → is_marked marks o ≡ true
    by_mark true is = is
    by_mark false is = absurd (omega (arith, shifted_as marks 0 o false is, shifted_as marks 1 o false is, same))

pub agreed_is_marked : (marks : Marks) (near : IsShifted marks 0) (far : IsShifted marks 1) (o : ℕ) → near.by.objects o ≡ far.by.objects o → is_marked marks.objects o ≡ true
agreed_is_marked marks near far o same = moved_is_marked marks.objects o (sym (near.objects_are o) ∙ (same ∙ far.objects_are o))

-- so is it with activations
pub same_scope : (objects activations : List Bool) (a b : ℕ) → SameScope (record { objects = true ∷ objects; activations = true ∷ activations }) a b
    → (is_marked (true ∷ activations) a ≡ true) × (b ≡ rank (true ∷ activations) a)
same_scope objects activations a b same = (marked, same.is near.by near.fits ∙ near.fits.scopes_are a marked)
  where
    near : IsShifted (record { objects = true ∷ objects; activations = true ∷ activations }) 0
    near = shifted_fits objects activations 0

    far : IsShifted (record { objects = true ∷ objects; activations = true ∷ activations }) 1
    far = shifted_fits objects activations 1

    marked : is_marked (true ∷ activations) a ≡ true
    marked = moved_is_marked (true ∷ activations) a (sym (near.scopes_are a) ∙ (sym (same.is near.by near.fits) ∙ (same.is far.by far.fits ∙ far.scopes_are a)))

object_same : (m n : ℕ) → object m ≡ object n → m ≡ n
object_same m n is = cc

pub same_object : (objects activations : List Bool) (o : ℕ) (w : Contents) → SameValue (record { objects = true ∷ objects; activations = true ∷ activations }) (object o) w
    → (is_marked (true ∷ objects) o ≡ true) × (w ≡ object (rank (true ∷ objects) o))
same_object objects activations o w same = (marked, same.is near.by near.fits ∙ ap object (near.fits.objects_are o marked))
  where
    near : IsShifted (record { objects = true ∷ objects; activations = true ∷ activations }) 0
    near = shifted_fits objects activations 0

    far : IsShifted (record { objects = true ∷ objects; activations = true ∷ activations }) 1
    far = shifted_fits objects activations 1

    marked : is_marked (true ∷ objects) o ≡ true
    marked = agreed_is_marked (record { objects = true ∷ objects; activations = true ∷ activations }) near far o (object_same _ _ (sym (same.is near.by near.fits) ∙ same.is far.by far.fits))
