-- Texts that are put behind values, one after the other.
use Rattle.std.proofs.Common.{◌≡◌, refl, sym, ap, ◌∙◌, subst, arith, append-nil, ℕ, zero, suc, ◌+◌, ◌<◌, length, List, [], ◌∷◌, ◌++◌, map, Some, slice_get, unwrap_or, Result, Ok, Err}
use Rattle.std.specs.Result.{OnOk}
use Rattle.std.proofs.lemmas.List.{append_assoc}
use Rattle.op_pieces.proofs.Counting.{counts_then, counts_same, counts_none}
use Rattle.op_lists.proofs.NamedValues.{all_named_stay, named_behind}
use Rattle.op_work.specs.declared.stop.Stop.{Stop}
use Rattle.op_work.specs.Work.{WorkView, Comes, Extends, is_any, as_is}
use Rattle.op_work.proofs.Going.{extends_then, gives_comes, comes_then}
use Rattle.py_model.specs.Plan.{Plan, counts}
use Rattle.py_model.specs.TextMethods.{total_size}
use Rattle.py_model.specs.Texts.{size}
use Rattle.py_value.specs.Contents.{contents, text}
use Rattle.py_value.specs.Values.{ValuesView, AreNamed}
use Rattle.py_value.specs.declared.value.Value.{Value}
use Rattle.py_value.specs.declared.value.Value.TheVariants.{Text}
use Rattle.op_pieces.specs.Puts.{Puts}

sizes_both : (xs ys : List (List ℕ)) → total_size (xs ++ ys) ≡ total_size xs + total_size ys
sizes_both [] ys = omega (arith)
sizes_both (x ∷ xs) ys = let more = sizes_both xs ys in omega (arith, more)

map_both : {A B : Type 0} (f : A → B) (xs ys : List A) → map f (xs ++ ys) ≡ map f xs ++ map f ys
map_both f [] ys = refl
map_both f (x ∷ xs) ys = ap (λ l. f x ∷ l) (map_both f xs ys)

-- texts behind others
pub puts_then : {xs ys : List (List ℕ)} {before mid after : List Value} {a b c : WorkView} {done : Unit {0}} {result : Result (Unit {0}) Stop} → Puts xs before mid a b (Ok done) → Puts ys mid after b c result
    → Puts (xs ++ ys) before after a c result
puts_then {xs} {ys} {before} {mid} {after} {a} {b} {c} {done} {result} one other = record {
  comes = counts_then (λ table. total_size xs) (λ table. total_size ys) (λ table. total_size (xs ++ ys)) one.comes other.comes (λ table interned extends. sizes_both xs ys);
  named = by_named result other.named;
  texts_are = by_texts result other.texts_are;
}
  where
    by_named : (result : Result (Unit {0}) Stop) → OnOk result (AreNamed b.values mid → AreNamed c.values after) → OnOk result (AreNamed a.values before → AreNamed c.values after)
    by_named (Ok done) named = λ before_named. named (one.named before_named)
    by_named (Err stop) named = tt

    by_texts : (result : Result (Unit {0}) Stop) → OnOk result ((table : ValuesView) → Extends c.values table → map (contents table) after ≡ map (contents table) mid ++ map text ys)
        → OnOk result ((table : ValuesView) → Extends c.values table → map (contents table) after ≡ map (contents table) before ++ map text (xs ++ ys))
    by_texts (Ok done) are = λ table extends. are table extends
        ∙ (ap (λ l. l ++ map text ys) (one.texts_are table (extends_then other.comes.kept.extends extends))
        ∙ (append_assoc (map (contents table) before) (map text xs) (map text ys) ∙ ap (λ l. map (contents table) before ++ l) (sym (map_both text xs ys))))
    by_texts (Err stop) are = tt

-- one that did not come, and more behind it
pub puts_stop : {xs : List (List ℕ)} (ys : List (List ℕ)) {before mid after : List Value} {a b : WorkView} {stop : Stop} → Puts xs before mid a b (Err stop) → Puts (xs ++ ys) before after a b (Err stop)
puts_stop {xs} ys {stop = stop} one = record {
  comes = counts_same (λ table. total_size xs) (λ table. total_size (xs ++ ys)) (Err stop) one.comes (λ table interned extends. let both = sizes_both xs ys in omega (arith, both)) tt;
  named = tt;
  texts_are = tt;
}

pub puts_same : {xs ys : List (List ℕ)} {before after : List Value} {a b : WorkView} {result : Result (Unit {0}) Stop} → xs ≡ ys → Puts xs before after a b result → Puts ys before after a b result
puts_same {before = before} {after = after} {a = a} {b = b} {result = result} same one = subst (λ (all : List (List ℕ)). Puts all before after a b result) same one

pub puts_none : (vs : List Value) (w : WorkView) {done : Unit {0}} → Puts [] vs vs w w (Ok done)
puts_none vs w = record { comes = counts_none w; named = λ named. named; texts_are = λ table extends. sym (append-nil (map (contents table) vs)) }

-- one text
one_size : (words : List ℕ) {a b : WorkView} (result : Result (Unit {0}) Stop) → Comes is_any as_is (λ table (go : Unit {0} → Plan). counts (size words) (go tt)) a b result
    → Comes is_any as_is (λ table (go : Unit {0} → Plan). counts (total_size (words ∷ [])) (go tt)) a b result
one_size words {a} {b} result one = subst (λ (n : ℕ). Comes is_any as_is (λ table (go : Unit {0} → Plan). counts n (go tt)) a b result) (none_more (size words)) one
  where
    none_more : (n : ℕ) → n ≡ n + 0
    none_more n = omega (arith)

pub puts_unpaid : (words : List ℕ) {before after : List Value} {a b : WorkView} {stop : Stop} (n : ℕ) → n ≡ size words → Comes is_any as_is (λ table (go : Unit {0} → Plan). counts n (go tt)) a b (Err stop)
    → Puts (words ∷ []) before after a b (Err stop)
puts_unpaid words {a = a} {b = b} {stop = stop} n is one = record {
  comes = one_size words (Err stop) (subst (λ m. Comes is_any as_is (λ table (go : Unit {0} → Plan). counts m (go tt)) a b (Err stop)) is one);
  named = tt;
  texts_are = tt;
}

has_number : (texts : List (List ℕ)) (id : ℕ) (words : List ℕ) → slice_get texts id ≡ Some words → id < length texts
has_number [] id words is = cc
has_number (first ∷ texts) zero words is = omega (arith)
has_number (first ∷ texts) (suc id) words is = let less = has_number texts id words is in omega (arith, less)

pub puts_one : (words : List ℕ) (vs : List Value) {a b c : WorkView} (id : ℕ) (n : ℕ) → n ≡ size words → Comes is_any as_is (λ table (go : Unit {0} → Plan). counts n (go tt)) a b (Ok tt)
    → Extends b.values c.values → c ≡ record b { values = c.values } → slice_get c.values.texts id ≡ Some words → Puts (words ∷ []) vs (vs ++ Text id ∷ []) a c (Ok tt)
puts_one words vs {a} {b} {c} id n count one extends same is = record {
  comes = one_size words (Ok tt) (subst (λ m. Comes is_any as_is (λ table (go : Unit {0} → Plan). counts m (go tt)) a c (Ok tt)) count
      (comes_then (λ table u (go : Unit {0} → Plan). go tt) one (λ table interned extends go. refl)
      (gives_comes {named = is_any} {seen = as_is} (λ table (go : Unit {0} → Plan). go tt) extends same tt tt (λ table store extends seen go answers. refl))));
  named = λ named. named_behind c.values vs (Text id) (all_named_stay a.values c.values (extends_then one.kept.extends extends).few vs named) (has_number c.values.texts id words is);
  texts_are = λ table extends. map_both (contents table) vs (Text id ∷ []) ∙ ap (λ found. map (contents table) vs ++ text (unwrap_or found []) ∷ []) (extends.texts id words is);
}
