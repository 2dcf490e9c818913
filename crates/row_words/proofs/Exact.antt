-- That reading is exact, from part to whole.
use Rattle.std.proofs.Common.{◌≡◌, ℕ, zero, suc, Bool, true, List, [], ◌∷◌, ◌++◌, length, Option, Some, None, if◌then◌else◌, refl, sym, ap, subst, ◌∙◌, append_assoc}
use Rattle.row_words.specs.Bytes.{number_bytes, each_bytes, list_bytes}
use Rattle.row_words.specs.Fits.{IsLong, Each, IsList}
use Rattle.row_words.specs.Reading.{◌>>=◌, both, into, only, each_at, list_at, number_at, tagged, Took, Reads}
use Rattle.row_words.proofs.Steps.{bound, same_some, passed}

-- ---- one thing and then another

both_again : {A B : Type 0} {w : A → List ℕ} {v : B → List ℕ} {f : A → Type 0} {g : B → Type 0} {r : List ℕ → Option (A × List ℕ)} {s : List ℕ → Option (B × List ℕ)}
    → Reads w f r → Reads v g s → (p : A × B) (rest : List ℕ) → f p.0 × g p.1 → both r s ((w p.0 ++ v p.1) ++ rest) ≡ Some (p, rest)
both_again {w = w} {v = v} {r = r} {s = s} one other p rest fit =
    ap (both r s) (append_assoc (w p.0) (v p.1) rest) ∙ rw (one.again p.0 (v p.1 ++ rest) fit.0, other.again p.1 rest fit.1) refl

both_takes : {A B : Type 0} {w : A → List ℕ} {v : B → List ℕ} {f : A → Type 0} {g : B → Type 0} {r : List ℕ → Option (A × List ℕ)} {s : List ℕ → Option (B × List ℕ)}
    → Reads w f r → Reads v g s → (bytes rest : List ℕ) (p : A × B) → both r s bytes ≡ Some (p, rest)
    → Took (λ (q : A × B). w q.0 ++ v q.1) (λ (q : A × B). f q.0 × g q.1) bytes p rest
both_takes {A = A} {B = B} {w = w} {v = v} {f = f} {g = g} {r = r} {s = s} one other bytes rest p is =
    let a = bound (r bytes) (λ x. s x.1 >>= λ y. Some ((x.0, y.0), y.1)) (p, rest) is in
    let b = bound (s a.0.1) (λ y. Some ((a.0.0, y.0), y.1)) (p, rest) a.2 in
    let t = one.takes bytes a.0.1 a.0.0 a.1 in
    let u = other.takes a.0.1 b.0.1 b.0.0 b.1 in
    let made : (A × B) × List ℕ = ((a.0.0, b.0.0), b.0.1) in
    subst (λ (z : (A × B) × List ℕ). Took (λ (q : A × B). w q.0 ++ v q.1) (λ (q : A × B). f q.0 × g q.1) bytes z.0 z.1) (same_some made (p, rest) b.2)
    (record { spelled = t.spelled ∙ (ap (λ (l : List ℕ). w a.0.0 ++ l) u.spelled ∙ sym (append_assoc (w a.0.0) (v b.0.0) b.0.1)); fit = (t.fit, u.fit) })

pub both_reads : {A B : Type 0} {w : A → List ℕ} {v : B → List ℕ} {f : A → Type 0} {g : B → Type 0} {r : List ℕ → Option (A × List ℕ)} {s : List ℕ → Option (B × List ℕ)}
    → Reads w f r → Reads v g s → Reads (λ (p : A × B). w p.0 ++ v p.1) (λ (p : A × B). f p.0 × g p.1) (both r s)
both_reads one other = record { again = both_again one other; takes = both_takes one other }

-- ---- the same under another name

pub took_into : {A B : Type 0} {w : A → List ℕ} {f : A → Type 0} {r : List ℕ → Option (A × List ℕ)} (make : A → B) (v : B → List ℕ) (g : B → Type 0) (front : List ℕ)
    → Reads w f r → ((a : A) → f a → v (make a) ≡ front ++ w a) → ((a : A) → f a → g (make a))
    → (bytes rest : List ℕ) (b : B) → into make (r bytes) ≡ Some (b, rest) → Took v g (front ++ bytes) b rest
took_into {A = A} {B = B} {w = w} {f = f} {r = r} make v g front reads spells fits bytes rest b is =
    let a = bound (r bytes) (λ x. Some (make x.0, x.1)) (b, rest) is in
    let t = reads.takes bytes a.0.1 a.0.0 a.1 in
    let made : B × List ℕ = (make a.0.0, a.0.1) in
    subst (λ (z : B × List ℕ). Took v g (front ++ bytes) z.0 z.1) (same_some made (b, rest) a.2)
    (record { spelled = ap (λ (l : List ℕ). front ++ l) t.spelled ∙ (sym (append_assoc front (w a.0.0) a.0.1) ∙ ap (λ (l : List ℕ). l ++ a.0.1) (sym (spells a.0.0 t.fit))); fit = fits a.0.0 t.fit })

pub into_reads : {A B : Type 0} {w : A → List ℕ} {f : A → Type 0} {r : List ℕ → Option (A × List ℕ)} (make : A → B) (back : B → A) (v : B → List ℕ) (g : B → Type 0)
    → Reads w f r → ((a : A) → f a → v (make a) ≡ w a) → ((a : A) → f a → g (make a))
    → ((b : B) → g b → v b ≡ w (back b)) → ((b : B) → g b → f (back b)) → ((b : B) → g b → make (back b) ≡ b)
    → Reads v g (λ bytes. into make (r bytes))
into_reads {A = A} {B = B} {w = w} {r = r} make back v g reads spells fits spelled fit same = record {
  again = λ b rest is.
      let read : r (w (back b) ++ rest) ≡ Some (back b, rest) = reads.again (back b) rest (fit b is) in
      rw (spelled b is, read) (ap (λ (c : B). Some (c, rest)) (same b is));
  takes = λ bytes rest b is. took_into make v g [] reads spells fits bytes rest b is;
}

-- ---- only what passes a test

pub only_reads : {A : Type 0} {w : A → List ℕ} {f : A → Type 0} {r : List ℕ → Option (A × List ℕ)} (test : A → Bool) (g : A → Type 0)
    → Reads w f r → ((a : A) → g a → f a) → ((a : A) → g a → test a ≡ true) → ((a : A) → f a → test a ≡ true → g a)
    → Reads w g (λ bytes. only test (r bytes))
only_reads {A = A} {w = w} {f = f} {r = r} test g reads fits passes shows = record {
  again = λ a rest is. rw (reads.again a rest (fits a is), passes a is) refl;
  takes = λ bytes rest a is.
      let x = bound (r bytes) (λ y. if test y.0 then Some y else None) (a, rest) is in
      let p = passed (test x.0.0) (Some x.0) (a, rest) x.2 in
      let t = reads.takes bytes x.0.1 x.0.0 x.1 in
      let done : Took w g bytes x.0.0 x.0.1 = record { spelled = t.spelled; fit = shows x.0.0 t.fit p.0 } in
      subst (λ (z : A × List ℕ). Took w g bytes z.0 z.1) (same_some x.0 (a, rest) p.1) done;
}

-- ---- a form behind its first byte

pub took_plain : {A : Type 0} (v : A → List ℕ) (g : A → Type 0) (b : ℕ) (made : A) → v made ≡ b ∷ [] → g made
    → (bytes rest : List ℕ) (a : A) → ◌≡◌ {A = Option (A × List ℕ)} (Some (made, bytes)) (Some (a, rest)) → Took v g (b ∷ bytes) a rest
took_plain {A = A} v g b made spells fit bytes rest a is =
    let whole : A × List ℕ = (made, bytes) in
    subst (λ (z : A × List ℕ). Took v g (b ∷ bytes) z.0 z.1) (same_some whole (a, rest) is)
    (record { spelled = ap (λ (l : List ℕ). l ++ bytes) (sym spells); fit = fit })

pub took_tagged : {T A : Type 0} (tag : ℕ → Option T) (behind : T → List ℕ → Option (A × List ℕ)) (number_of : T → ℕ) (v : A → List ℕ) (g : A → Type 0)
    → ((b : ℕ) (t : T) → tag b ≡ Some t → b ≡ number_of t)
    → ((t : T) (bytes rest : List ℕ) (a : A) → behind t bytes ≡ Some (a, rest) → Took v g (number_of t ∷ bytes) a rest)
    → (bytes rest : List ℕ) (a : A) → tagged tag behind bytes ≡ Some (a, rest) → Took v g bytes a rest
took_tagged tag behind number_of v g is_number took [] rest a is = absurd cc
took_tagged tag behind number_of v g is_number took (b ∷ bytes) rest a is =
    let t = bound (tag b) (λ t. behind t bytes) (a, rest) is in
    subst (λ (n : ℕ). Took v g (n ∷ bytes) a rest) (sym (is_number b t.0 t.1)) (took t.0 bytes rest a t.2)

-- ---- lists

pub each_again : {A : Type 0} {w : A → List ℕ} {f : A → Type 0} {r : List ℕ → Option (A × List ℕ)} → Reads w f r
    → (items : List A) (rest : List ℕ) → Each f items → each_at r (length items) (each_bytes w items ++ rest) ≡ Some (items, rest)
each_again reads [] rest fit = refl
each_again {w = w} {r = r} reads (item ∷ items) rest fit =
    ap (each_at r (suc (length items))) (append_assoc (w item) (each_bytes w items) rest)
    ∙ rw (reads.again item (each_bytes w items ++ rest) fit.0, each_again reads items rest fit.1) refl

pub record TookEach {A : Type 0} (w : A → List ℕ) (f : A → Type 0) (n : ℕ) (bytes : List ℕ) (items : List A) (rest : List ℕ) : Type 0 where
  pub spelled : bytes ≡ each_bytes w items ++ rest
  pub count : length items ≡ n
  pub fit : Each f items

pub each_takes : {A : Type 0} {w : A → List ℕ} {f : A → Type 0} {r : List ℕ → Option (A × List ℕ)} → Reads w f r
    → (n : ℕ) (bytes rest : List ℕ) (items : List A) → each_at r n bytes ≡ Some (items, rest) → TookEach w f n bytes items rest
each_takes {A = A} {w = w} {f = f} reads zero bytes rest items is =
    let made : List A × List ℕ = ([], bytes) in
    subst (λ (z : List A × List ℕ). TookEach w f 0 bytes z.0 z.1) (same_some made (items, rest) is) (record { spelled = refl; count = refl; fit = tt })
each_takes {A = A} {w = w} {f = f} {r = r} reads (suc n) bytes rest items is =
    let a = bound (r bytes) (λ x. each_at r n x.1 >>= λ xs. Some (x.0 ∷ xs.0, xs.1)) (items, rest) is in
    let b = bound (each_at r n a.0.1) (λ xs. Some (a.0.0 ∷ xs.0, xs.1)) (items, rest) a.2 in
    let t = reads.takes bytes a.0.1 a.0.0 a.1 in
    let u = each_takes reads n a.0.1 b.0.1 b.0.0 b.1 in
    let made : List A × List ℕ = (a.0.0 ∷ b.0.0, b.0.1) in
    subst (λ (z : List A × List ℕ). TookEach w f (suc n) bytes z.0 z.1) (same_some made (items, rest) b.2)
    (record { spelled = t.spelled ∙ (ap (λ (l : List ℕ). w a.0.0 ++ l) u.spelled ∙ sym (append_assoc (w a.0.0) (each_bytes w b.0.0) b.0.1)); count = ap suc u.count; fit = (t.fit, u.fit) })

pub list_reads : {A : Type 0} {w : A → List ℕ} {f : A → Type 0} {r : List ℕ → Option (A × List ℕ)} → Reads number_bytes IsLong number_at → Reads w f r
    → Reads (list_bytes w) (IsList f) (list_at r)
unfolding list_at
list_reads {A = A} {w = w} {f = f} {r = r} numbers reads = record {
  again = λ items rest fit.
      ap (list_at r) (append_assoc (number_bytes (length items)) (each_bytes w items) rest)
      ∙ rw (numbers.again (length items) (each_bytes w items ++ rest) fit.0) (each_again reads items rest fit.1);
  takes = λ bytes rest items is.
      let n = bound (number_at bytes) (λ n. each_at r n.0 n.1) (items, rest) is in
      let t = numbers.takes bytes n.0.1 n.0.0 n.1 in
      let u = each_takes reads n.0.0 n.0.1 rest items n.2 in
      let again : bytes ≡ number_bytes (length items) ++ (each_bytes w items ++ rest) =
      t.spelled ∙ (ap (λ (l : List ℕ). number_bytes n.0.0 ++ l) u.spelled ∙ ap (λ (k : ℕ). number_bytes k ++ (each_bytes w items ++ rest)) (sym u.count)) in
      record { spelled = again ∙ sym (append_assoc (number_bytes (length items)) (each_bytes w items) rest); fit = (subst IsLong (sym u.count) t.fit, u.fit) };
}
