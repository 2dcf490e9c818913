-- Words of values that have no parts, behind which two texts go on alike; and what first shows of each form of value.
use Rattle.std.proofs.Common.{◌≡◌, ℕ, zero, suc, ◌-◌, ◌≤◌, ◌<◌, ℤ, pos, negsuc, Bool, true, false, ◌&&◌, ◌||◌, not, ◌==◌, nat_lt, List, [], ◌∷◌, ◌++◌, length, Option, Some, None, if◌then◌else◌, codes, refl, sym, ap, subst, ◌∙◌, arith, append_assoc, length-append, eqb-true}
use Rattle.std.proofs.lemmas.Bool.{false≢true, eqb-false}
use Rattle.std.specs.Ordering.{int_eq}
use Rattle.std.specs.Str.{bytes_eq}
use Rattle.prov_base.specs.declared.place.Pos.{Pos}
use Rattle.py_value.specs.Contents.{Contents, Parts, nothing, truth, int, text, tuple, range, function, class, exception_class, builtin, object}
use Rattle.py_value.specs.Same.{same_value}
use Rattle.py_value.specs.Seen.{number_by}
use Rattle.py_model.proofs.Cuts.{Stop, at_comma, at_round, Passes, run_cut, rest_of, first_of, name_passes, int_cut, digits_pass, digits_some}
use Rattle.py_model.proofs.GraphCuts.{same_number}
use Rattle.py_model.proofs.GraphWords.{Rest, Words, numbered_words, value_words, parts_words}
use Rattle.py_model.specs.Classes.{is_module}
use Rattle.py_model.specs.Graph.{number_text, class_text}
use Rattle.py_model.specs.Names.{builtin_names, class_names}
use Rattle.py_model.specs.Numbers.{is_int, digits_of, int_text}
use Rattle.py_model.specs.PlainGraph.{is_name_code, is_name, IsPlainSetting}
use Rattle.py_model.specs.Printing.{literal, spelled_all, holds, range_text, named_in, module_names, angled}
use Rattle.py_model.specs.SameGraph.{Setting}
use Rattle.py_model.specs.Sorting.{all_are}
use Rattle.py_model.specs.Texts.{size, is_digit}

pub strip : (words x y : List ℕ) → words ++ x ≡ words ++ y → x ≡ y
strip [] x y is = is
strip (c ∷ words) x y is = strip words x y (ap rest_of is)

pub shorter : (words x : List ℕ) → length x ≤ length (words ++ x)
shorter words x = omega (arith, length-append words x)

-- a name in angles
pub angled_cut : (what name other x y : List ℕ) → is_name name ≡ true → is_name other ≡ true → angled what name ++ x ≡ angled what other ++ y → (name ≡ other) × (x ≡ y)
angled_cut what name other x y one two is =
    let open_up : (name : List ℕ) (x : List ℕ) → (what ++ (name ++ codes ">")) ++ x ≡ what ++ (name ++ (62 ∷ x)) =
    λ name x. append_assoc what (name ++ codes ">") x ∙ ap (λ (more : List ℕ). what ++ more) (append_assoc name (codes ">") x) in
    let inner = strip what _ _ (sym (open_up name x) ∙ (ap rest_of is ∙ open_up other y)) in
    let cut = run_cut is_name_code name other (62 ∷ x) (62 ∷ y) (name_passes name one) (name_passes other two) refl refl inner in
    (cut.0, ap rest_of cut.1)

-- three integers of a range
pub range_cut : ((i j : ℤ) → int_eq i j ≡ true → i ≡ j) → (a b c d e f : ℤ) (x y : List ℕ) → is_int a ≡ true → is_int b ≡ true → is_int c ≡ true → is_int d ≡ true → is_int e ≡ true → is_int f ≡ true
    → range_text a b c ++ x ≡ range_text d e f ++ y → ((a ≡ d) × (b ≡ e) × (c ≡ f)) × (x ≡ y)
range_cut same_int a b c d e f x y pa pb pc pd pe pf is = by_steps (int_eq c (pos 1)) (int_eq f (pos 1)) refl refl (strip (codes "range(") _ _ is)
  where
    tail : ℤ → Bool → List ℕ
    tail step one = if one then codes ")" else (codes ", " ++ (int_text step ++ codes ")"))

    inside : ℤ → ℤ → ℤ → Bool → List ℕ
    inside start end step one = if one then ((int_text start ++ (codes ", " ++ int_text end)) ++ codes ")") else ((int_text start ++ (codes ", " ++ int_text end)) ++ (codes ", " ++ (int_text step ++ codes ")")))

    open_up : (start end step : ℤ) (one : Bool) (more : List ℕ) → inside start end step one ++ more ≡ int_text start ++ (codes ", " ++ (int_text end ++ (tail step one ++ more)))
    open_up start end step true more =
        append_assoc (int_text start ++ (codes ", " ++ int_text end)) (codes ")") more
        ∙ (append_assoc (int_text start) (codes ", " ++ int_text end) (codes ")" ++ more)
        ∙ ap (λ (rest : List ℕ). int_text start ++ rest) (append_assoc (codes ", ") (int_text end) (codes ")" ++ more)))
    open_up start end step false more =
        append_assoc (int_text start ++ (codes ", " ++ int_text end)) (codes ", " ++ (int_text step ++ codes ")")) more
        ∙ (append_assoc (int_text start) (codes ", " ++ int_text end) ((codes ", " ++ (int_text step ++ codes ")")) ++ more)
        ∙ ap (λ (rest : List ℕ). int_text start ++ rest) (append_assoc (codes ", ") (int_text end) ((codes ", " ++ (int_text step ++ codes ")")) ++ more)))

    stops : (step : ℤ) (one : Bool) (more : List ℕ) → Stop (tail step one ++ more)
    stops step true more = at_round
    stops step false more = at_comma

    by_steps : (one two : Bool) → int_eq c (pos 1) ≡ one → int_eq f (pos 1) ≡ two → inside a b c one ++ x ≡ inside d e f two ++ y → ((a ≡ d) × (b ≡ e) × (c ≡ f)) × (x ≡ y)
    by_steps one two first second same =
        let whole = sym (open_up a b c one x) ∙ (same ∙ open_up d e f two y) in
        let starts = int_cut a d _ _ pa pd at_comma at_comma whole in
        let ends = int_cut b e (tail c one ++ x) (tail f two ++ y) pb pe (stops c one x) (stops f two y) (strip (codes ", ") _ _ starts.1) in
        let steps = by_tails one two first second ends.1 in
        ((starts.0, ends.0, steps.0), steps.1)
      where
        by_tails : (g h : Bool) → int_eq c (pos 1) ≡ g → int_eq f (pos 1) ≡ h → tail c g ++ x ≡ tail f h ++ y → (c ≡ f) × (x ≡ y)
        by_tails true true it that same = (same_int c (pos 1) it ∙ sym (same_int f (pos 1) that), ap rest_of same)
        by_tails false false it that same =
            let inner = sym (append_assoc (int_text c) (codes ")") x) ∙ (strip (codes ", ") _ _ same ∙ append_assoc (int_text f) (codes ")") y) in
            let cut = int_cut c f _ _ pc pf at_round at_round inner in
            (cut.0, ap rest_of cut.1)
        by_tails true false it that same = absurd (omega (arith, ap first_of same))
        by_tails false true it that same = absurd (omega (arith, ap first_of same))

-- names by number
pub names_ok : (names : List (List ℕ)) → all_are is_name names ≡ true → (n : ℕ) → is_name (named_in names n) ≡ true
names_ok [] is n = refl
names_ok (name ∷ names) is n = by_test (is_name name) refl is n (λ it m. names_ok names it m)
  where
    by_test : (b : Bool) → is_name name ≡ b → (if b then all_are is_name names else false) ≡ true → (m : ℕ) → (all_are is_name names ≡ true → (i : ℕ) → is_name (named_in names i) ≡ true) → is_name (named_in (name ∷ names) m) ≡ true
    by_test true ok all zero each = ok
    by_test true ok all (suc m) each = each all m
    by_test false ok all m each = absurd (false≢true all)

abbrev below : ℕ → (ℕ → Bool) → Bool
below zero test = true
below (suc n) test = test n && below n test

below_true : (n : ℕ) (test : ℕ → Bool) → below n test ≡ true → (m : ℕ) → m < n → test m ≡ true
below_true zero test is m small = absurd (omega (arith, small))
below_true (suc n) test is m small = by_test (test n) refl is (λ all less. below_true n test all m less)
  where
    by_place : (b : Bool) → (m == n) ≡ b → test n ≡ true → (m < n → test m ≡ true) → test m ≡ true
    by_place true same here each = subst (λ i. test i ≡ true) (sym (omega (arith, eqb-true m n same))) here
    by_place false same here each = each (omega (arith, small, eqb-false m n same))

    by_test : (b : Bool) → test n ≡ b → (b && below n test) ≡ true → (below n test ≡ true → m < n → test m ≡ true) → test m ≡ true
    by_test true here more each = by_place (m == n) refl here (each more)
    by_test false here more each = absurd (false≢true more)

abbrev is_back : List (List ℕ) → ℕ → Bool
is_back names n = same_number (number_by (bytes_eq (named_in names n)) names) (Some n)

one_back : (a : Option ℕ) (m n : ℕ) → same_number a (Some m) ≡ true → same_number a (Some n) ≡ true → m ≡ n
one_back (Some i) m n one other = omega (arith, eqb-true i m one, eqb-true i n other)
one_back None m n one other = absurd (false≢true one)

names_differ : (names : List (List ℕ)) (count : ℕ) → below count (is_back names) ≡ true → (m n : ℕ) → m < count → n < count → named_in names m ≡ named_in names n → m ≡ n
names_differ names count all m n one other same =
    one_back (number_by (bytes_eq (named_in names n)) names) m n
    (subst (λ (name : List ℕ). same_number (number_by (bytes_eq name) names) (Some m) ≡ true) same (below_true count (is_back names) all m one))
    (below_true count (is_back names) all n other)

pub builtins_differ : (m n : ℕ) → m < 22 → n < 22 → named_in builtin_names m ≡ named_in builtin_names n → m ≡ n
builtins_differ = names_differ builtin_names 22 refl

pub modules_differ : (m n : ℕ) → m < 3 → n < 3 → named_in module_names m ≡ named_in module_names n → m ≡ n
modules_differ = names_differ module_names 3 refl

pub class_named : (here : Setting) → IsPlainSetting here → (of : Contents) → is_name (class_text here.script here.store of) ≡ true
class_named here plain (class at) = plain.names.classes at
class_named here plain (exception_class number) = names_ok class_names refl number
class_named here plain other = refl

-- what shows of a value first
pub data Lead : Type 0 where
  l_none : Lead
  l_true : Lead
  l_false : Lead
  l_int : Lead
  l_short : Lead
  l_range : Lead
  l_function : Lead
  l_class : Lead
  l_module : Lead
  l_builtin : Lead
  l_thing : Lead
  l_other : Lead

abbrev lead_angled : List ℕ → Lead
lead_angled [] = l_other
lead_angled (c ∷ rest) = if c == 102 then l_function else if c == 99 then l_class else if c == 109 then l_module else if c == 98 then l_builtin else l_other

abbrev pub lead_of : List ℕ → Lead
lead_of [] = l_other
lead_of (c ∷ rest) =
    if is_digit c || (c == 45) then l_int
    else if c == 78 then l_none
    else if c == 84 then l_true
    else if c == 70 then l_false
    else if c == 35 then l_thing
    else if (c == 34) || (c == 39) then l_short
    else if c == 114 then l_range
    else if c == 60 then lead_angled rest
    else l_other

abbrev pub lead : Contents → Lead
lead nothing = l_none
lead (truth b) = if b then l_true else l_false
lead (int i) = l_int
lead (text bytes) = if nat_lt 64 (size bytes) then l_thing else l_short
lead (tuple parts) = l_thing
lead (range start end step) = l_range
lead (function at) = l_function
lead (class at) = l_class
lead (exception_class number) = l_class
lead (builtin number) = if is_module number then l_module else l_builtin
lead (object o) = l_thing

pub data View : Lead → Contents → Type 0 where
  v_none : View l_none nothing
  v_true : View l_true (truth true)
  v_false : View l_false (truth false)
  v_int : {i : ℤ} → View l_int (int i)
  v_short : {a : List ℕ} → nat_lt 64 (size a) ≡ false → View l_short (text a)
  v_range : {a b c : ℤ} → View l_range (range a b c)
  v_function : {p : Pos} → View l_function (function p)
  v_class : {p : Pos} → View l_class (class p)
  v_exception : {n : ℕ} → View l_class (exception_class n)
  v_module : {n : ℕ} → is_module n ≡ true → View l_module (builtin n)
  v_builtin : {n : ℕ} → is_module n ≡ false → View l_builtin (builtin n)
  v_long : {a : List ℕ} → nat_lt 64 (size a) ≡ true → View l_thing (text a)
  v_tuple : {ps : Parts} → View l_thing (tuple ps)
  v_object : {o : ℕ} → View l_thing (object o)

pub view : (v : Contents) → View (lead v) v
view nothing = v_none
view (truth true) = v_true
view (truth false) = v_false
view (int i) = v_int
view (text bytes) = by_test (nat_lt 64 (size bytes)) refl
  where
    by_test : (b : Bool) → nat_lt 64 (size bytes) ≡ b → View (if b then l_thing else l_short) (text bytes)
    by_test true is = v_long is
    by_test false is = v_short is
view (tuple parts) = v_tuple
view (range start end step) = v_range
view (function at) = v_function
view (class at) = v_class
view (exception_class number) = v_exception
view (builtin number) = by_test (is_module number) refl
  where
    by_test : (b : Bool) → is_module number ≡ b → View (if b then l_module else l_builtin) (builtin number)
    by_test true is = v_module is
    by_test false is = v_builtin is
view (object o) = v_object

numbered_lead : (thing : Contents) (content : Words) (xs : List Contents) (k : Rest) → lead_of (numbered_words thing content xs k) ≡ l_thing
numbered_lead thing content xs k = by_found (number_by (same_value thing) xs)
  where
    by_found : (found : Option ℕ) → lead_of (elim found as (λ x. List ℕ) [ None ↦ number_text (length xs) ++ (codes "=" ++ content (xs ++ thing ∷ []) k) | Some n ↦ number_text n ++ k xs ]) ≡ l_thing
    by_found None = refl
    by_found (Some n) = refl

digits_lead : (n : ℕ) (x : List ℕ) → lead_of (digits_of 20 n ++ x) ≡ l_int
digits_lead n x = by_digits (digits_of 20 n) (digits_pass 20 n) (digits_some 19 n)
  where
    by_digits : (digits : List ℕ) → Passes is_digit digits → 0 < length digits → lead_of (digits ++ x) ≡ l_int
    by_digits [] all some = absurd (omega (arith, some))
    by_digits (c ∷ digits) all some =
        ap (λ b. if b || (c == 45) then l_int else if c == 78 then l_none else if c == 84 then l_true else if c == 70 then l_false else if c == 35 then l_thing
        else if (c == 34) || (c == 39) then l_short else if c == 114 then l_range else if c == 60 then lead_angled (digits ++ x) else l_other) all.0

literal_lead : (bytes x : List ℕ) → lead_of (literal bytes ++ x) ≡ l_short
literal_lead bytes x = by_quote (holds 39 bytes && not (holds 34 bytes))
  where
    by_quote : (b : Bool) → lead_of ((if b then 34 else 39) ∷ (spelled_all (if b then 34 else 39) bytes ++ (if b then 34 else 39) ∷ []) ++ x) ≡ l_short
    by_quote true = refl
    by_quote false = refl

module _ (here : Setting) (objects contents : ℕ → Words) (objects_are : (o : ℕ) (xs : List Contents) (k : Rest) → objects o xs k ≡ numbered_words (object o) (contents o) xs k) where
  pub value_lead : (v : Contents) (xs : List Contents) (k : Rest) → lead_of (value_words here objects v xs k) ≡ lead v
  value_lead nothing xs k = refl
  value_lead (truth true) xs k = refl
  value_lead (truth false) xs k = refl
  value_lead (int (pos n)) xs k = digits_lead n (k xs)
  value_lead (int (negsuc n)) xs k = refl
  value_lead (text bytes) xs k = by_test (nat_lt 64 (size bytes))
    where
      by_test : (b : Bool) → lead_of (if b then numbered_words (text bytes) (λ ys l. literal bytes ++ l ys) xs k else (literal bytes ++ k xs)) ≡ (if b then l_thing else l_short)
      by_test true = numbered_lead (text bytes) (λ ys l. literal bytes ++ l ys) xs k
      by_test false = literal_lead bytes (k xs)
  value_lead (tuple parts) xs k = numbered_lead (tuple parts) (λ ys l. codes "(" ++ parts_words here objects parts ys (λ zs. codes ")" ++ l zs)) xs k
  value_lead (range start end step) xs k = refl
  value_lead (function at) xs k = refl
  value_lead (class at) xs k = refl
  value_lead (exception_class number) xs k = refl
  value_lead (builtin number) xs k = by_test (is_module number)
    where
      by_test : (b : Bool) → lead_of ((if b then angled (codes "module ") (named_in module_names (number - 22)) else angled (codes "built-in ") (named_in builtin_names number)) ++ k xs) ≡ (if b then l_module else l_builtin)
      by_test true = refl
      by_test false = refl
  value_lead (object o) xs k = ap lead_of (objects_are o xs k) ∙ numbered_lead (object o) (contents o) xs k
