-- Sums of two values as plans.
use Rattle.std.proofs.Common.{◌≡◌, ◌∙◌, refl, sym, ap, subst, arith, ℕ, zero, suc, ◌+◌, ◌++◌, ◌+ℤ◌, ◌&&◌, ◌<◌, Bool, true, false, Option, Some, None, List, [], ◌∷◌, length, slice_get, if◌then◌else◌, unwrap_or}
use Rattle.std.specs.Str.{IsUtf8}
use Rattle.std.proofs.lemmas.Str.{IsCharBoundary-start}
use Rattle.op_texts.specs.Heads.{heads}
use Rattle.op_texts.proofs.Counted.{heads_size, size_with_before}
use Rattle.py_model.specs.Arithmetic.{added}
use Rattle.py_model.specs.Faults.{wrong_kind}
use Rattle.py_model.specs.Operands.{when_lists, with_numbers, gives_int}
use Rattle.py_model.specs.Plan.{Plan}
use Rattle.py_model.specs.Texts.{size, is_continuation}
use Rattle.py_value.specs.Contents.{contents}
use Rattle.py_value.specs.Seen.{bytes_of}
use Rattle.py_value.specs.Values.{ValuesView, IsNamed, AreNamed}
use Rattle.py_value.specs.declared.access.Kind.{Kind}
use Rattle.py_value.specs.declared.access.Kind.TheVariants.{List as ListKind, Dict as DictKind, Instance, File as FileKind}
use Rattle.py_value.specs.declared.value.Value.{Value}
use Rattle.py_value.specs.declared.value.Value.TheVariants.{Text, Tuple, Object}
use Rattle.py_model.proofs.Tuples.{some_tuple}
use Rattle.op_work.specs.Work.{Extends, seen_kind}
use Rattle.op_joins.specs.declared.adding.Pair.TheVariants.{Texts, Tuples}
use Rattle.op_joins.specs.Adding.{pair_of_values, added_as, list_kind}

tuple_first : (table : ValuesView) (id : ℕ) (w : Value) → added (contents table (Tuple id)) (contents table w) ≡ added_as table (Tuple id) w (pair_of_values (Tuple id) w)
tuple_first table id (Tuple other) = refl
tuple_first table id w = subst (λ c. added c (contents table w) ≡ with_numbers c (contents table w) (λ i j. gives_int (i +ℤ j))) (sym (some_tuple table id).1) refl

pub added_is : (table : ValuesView) (v w : Value) → added (contents table v) (contents table w) ≡ added_as table v w (pair_of_values v w)
added_is table (Tuple id) w = tuple_first table id w
added_is table v (Tuple id) = subst (λ c. added (contents table v) c ≡ with_numbers (contents table v) c (λ i j. gives_int (i +ℤ j))) (sym (some_tuple table id).1) refl
added_is table v w = refl

-- both objects are lists, or not
pub lists_are : (table : ValuesView) (left right : Option Kind) (next : Plan) → (list_kind left && list_kind right) ≡ true → when_lists next (seen_kind table left) (seen_kind table right) ≡ next
lists_are table (Some ListKind) (Some ListKind) next is = refl
lists_are table (Some ListKind) None next is = absurd (cc)
lists_are table (Some ListKind) (Some DictKind) next is = absurd (cc)
lists_are table (Some ListKind) (Some (Instance v)) next is = absurd (cc)
lists_are table (Some ListKind) (Some (FileKind a b)) next is = absurd (cc)
lists_are table None right next is = absurd (cc)
lists_are table (Some DictKind) right next is = absurd (cc)
lists_are table (Some (Instance v)) right next is = absurd (cc)
lists_are table (Some (FileKind a b)) right next is = absurd (cc)

pub no_lists : (table : ValuesView) (left right : Option Kind) (next : Plan) → (list_kind left && list_kind right) ≡ false → when_lists next (seen_kind table left) (seen_kind table right) ≡ wrong_kind
no_lists table (Some ListKind) (Some ListKind) next is = absurd (cc)
no_lists table (Some ListKind) None next is = refl
no_lists table (Some ListKind) (Some DictKind) next is = refl
no_lists table (Some ListKind) (Some (Instance v)) next is = refl
no_lists table (Some ListKind) (Some (FileKind a b)) next is = refl
no_lists table None right next is = refl
no_lists table (Some DictKind) right next is = refl
no_lists table (Some (Instance v)) right next is = refl
no_lists table (Some (FileKind a b)) right next is = refl

-- characters of two texts
by_head : (goes_on : Bool) (n m k : ℕ) → n ≡ m + k → (if goes_on then n else suc n) ≡ (if goes_on then m else suc m) + k
by_head true n m k is = is
by_head false n m k is = omega (arith, is)

pub heads_both : (xs ys : List ℕ) → heads (xs ++ ys) ≡ heads xs + heads ys
heads_both [] ys = omega (arith)
heads_both (x ∷ xs) ys = by_head (is_continuation x) (heads (xs ++ ys)) (heads xs) (heads ys) (heads_both xs ys)

pub heads_all : (ys : List ℕ) → IsUtf8 ys → heads ys ≡ size ys
heads_all ys utf8 = let one = heads_size 32 ys in let other = size_with_before ys 1 (IsCharBoundary-start ys utf8) in omega (arith, one, other)

pub size_both : (xs ys : List ℕ) → IsUtf8 ys → size (xs ++ ys) ≡ size xs + size ys
size_both [] ys utf8 = omega (arith)
size_both (x ∷ xs) ys utf8 =
    let whole = heads_size x (xs ++ ys) in
    let alone = heads_size x xs in
    let joined = heads_both xs ys in
    let all = heads_all ys utf8 in
    omega (arith, whole, alone, joined, all)

-- a text with a number keeps its bytes
one_text : (xs ys : List ℕ) → Some xs ≡ Some ys → xs ≡ ys
one_text xs ys is = cc

pub text_now : (old new : ValuesView) (id : ℕ) (bytes : List ℕ) → slice_get old.texts id ≡ Some bytes → Extends old new → bytes_of new id ≡ bytes
text_now old new id bytes is extends = ap (λ t. unwrap_or t []) (extends.texts id bytes is)

pub same_text : (old new : ValuesView) (id : ℕ) (bytes more : List ℕ) → slice_get old.texts id ≡ Some bytes → Extends old new → slice_get new.texts id ≡ Some more → bytes ≡ more
same_text old new id bytes more is extends other = one_text bytes more (sym (extends.texts id bytes is) ∙ other)

-- the values of two lists are named
pub both_named : (values : ValuesView) (xs ys : List Value) → AreNamed values xs → AreNamed values ys → AreNamed values (xs ++ ys)
both_named values [] ys one other i v is = other i v is
both_named values (x ∷ xs) ys one other zero v is = one zero v is
both_named values (x ∷ xs) ys one other (suc i) v is = both_named values xs ys (λ j w at. one (suc j) w at) other i v is

-- two texts, and two tuples, have numbers
pub texts_named : (values : ValuesView) (v w : Value) (a b : ℕ) → pair_of_values v w ≡ Texts a b → IsNamed values v → IsNamed values w → (a < length values.texts) × (b < length values.texts)
texts_named values (Text x) (Text y) a b is one other = (subst (λ (n : ℕ). n < length values.texts) (first_is x y a b is).0 one, subst (λ (n : ℕ). n < length values.texts) (first_is x y a b is).1 other)
  where
    first_is : (x y a b : ℕ) → Texts x y ≡ Texts a b → (x ≡ a) × (y ≡ b)
    first_is x y a b is = (cc, cc)
texts_named values (Tuple x) (Tuple y) a b is one other = absurd (cc)
texts_named values (Object x) (Object y) a b is one other = absurd (cc)
texts_named values v w a b is one other = absurd (cc)

pub tuples_named : (values : ValuesView) (v w : Value) (a b : ℕ) → pair_of_values v w ≡ Tuples a b → IsNamed values v → IsNamed values w → (a < length values.tuples) × (b < length values.tuples)
tuples_named values (Tuple x) (Tuple y) a b is one other = (subst (λ (n : ℕ). n < length values.tuples) (first_is x y a b is).0 one, subst (λ (n : ℕ). n < length values.tuples) (first_is x y a b is).1 other)
  where
    first_is : (x y a b : ℕ) → Tuples x y ≡ Tuples a b → (x ≡ a) × (y ≡ b)
    first_is x y a b is = (cc, cc)
tuples_named values (Text x) (Text y) a b is one other = absurd (cc)
tuples_named values (Object x) (Object y) a b is one other = absurd (cc)
tuples_named values v w a b is one other = absurd (cc)
