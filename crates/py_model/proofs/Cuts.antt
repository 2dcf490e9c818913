-- Words that begin a text are the same where the text is: numbers, names and literals, by what stands behind them.
use Rattle.std.proofs.Common.{◌≡◌, ℕ, zero, suc, ◌+◌, ◌-◌, ◌*◌, ◌/◌, ◌%◌, ◌<◌, ◌≤◌, ℤ, pos, negsuc, Bool, true, false, ◌&&◌, not, ◌==◌, nat_le, nat_lt, List, [], ◌∷◌, ◌++◌, length, drop, Option, Some, None, if◌then◌else◌, codes, refl, sym, ap, ap₂, subst, ◌∙◌, arith, append_assoc, length-append, eqb-true, leb-true, le-leb, ltb-true, ltb-false, lt-ltb, le-ltb}
use Rattle.std.proofs.lemmas.Bool.{false≢true}
use Rattle.py_model.specs.Graph.{number_text}
use Rattle.py_model.specs.Numbers.{is_int, digits_of, int_text}
use Rattle.py_model.specs.PlainGraph.{is_name_code, are_name_codes, is_name}
use Rattle.py_model.specs.Printing.{hex_digit, spelled, spelled_all, holds, literal}
use Rattle.py_model.specs.Texts.{is_digit}

-- what may stand behind a value
pub data Stop : List ℕ → Type 0 where
  at_end : Stop []
  at_comma : {xs : List ℕ} → Stop (44 ∷ xs)
  at_square : {xs : List ℕ} → Stop (93 ∷ xs)
  at_round : {xs : List ℕ} → Stop (41 ∷ xs)
  at_brace : {xs : List ℕ} → Stop (125 ∷ xs)
  at_colon : {xs : List ℕ} → Stop (58 ∷ xs)

abbrev pub first_of : List ℕ → ℕ
first_of [] = 0
first_of (x ∷ xs) = x

abbrev pub rest_of : List ℕ → List ℕ
rest_of [] = []
rest_of (x ∷ xs) = xs

-- a run of what passes a test
abbrev pub Passes : (ℕ → Bool) → List ℕ → Type 0
Passes test [] = Unit {0}
Passes test (x ∷ xs) = (test x ≡ true) × Passes test xs

abbrev pub Ends : (ℕ → Bool) → List ℕ → Type 0
Ends test [] = Unit {0}
Ends test (x ∷ xs) = test x ≡ false

clash : {A : Type 0} (b : Bool) → b ≡ true → b ≡ false → A
clash b one other = absurd (false≢true (sym other ∙ one))

pub run_cut : (test : ℕ → Bool) (a b x y : List ℕ) → Passes test a → Passes test b → Ends test x → Ends test y → a ++ x ≡ b ++ y → (a ≡ b) × (x ≡ y)
run_cut test [] [] x y all every ends stops is = (refl, is)
run_cut test (c ∷ a) (d ∷ b) x y all every ends stops is =
    let more = run_cut test a b x y all.1 every.1 ends stops (ap rest_of is) in
    (ap₂ (λ (e : ℕ) (es : List ℕ). e ∷ es) (ap first_of is) more.0, more.1)
run_cut test [] (d ∷ b) x y all every ends stops is = clash (test d) every.0 (subst (Ends test) is ends)
run_cut test (c ∷ a) [] x y all every ends stops is = clash (test c) all.0 (subst (Ends test) (sym is) stops)

pub digit_stop : (x : List ℕ) → Stop x → Ends is_digit x
digit_stop _ at_end = tt
digit_stop _ at_comma = refl
digit_stop _ at_square = refl
digit_stop _ at_round = refl
digit_stop _ at_brace = refl
digit_stop _ at_colon = refl

pub name_stop : (x : List ℕ) → Stop x → Ends is_name_code x
name_stop _ at_end = tt
name_stop _ at_comma = refl
name_stop _ at_square = refl
name_stop _ at_round = refl
name_stop _ at_brace = refl
name_stop _ at_colon = refl

both_true : (a b : Bool) → (a && b) ≡ true → (a ≡ true) × (b ≡ true)
both_true true b is = (refl, is)
both_true false b is = absurd (false≢true is)

pub codes_pass : (name : List ℕ) → are_name_codes name ≡ true → Passes is_name_code name
codes_pass [] is = tt
codes_pass (c ∷ name) is = let both = both_true (is_name_code c) (are_name_codes name) is in (both.0, codes_pass name both.1)

pub name_passes : (name : List ℕ) → is_name name ≡ true → Passes is_name_code name
name_passes [] is = tt
name_passes (c ∷ name) is = codes_pass (c ∷ name) is

-- digits
abbrev pub tens : ℕ → ℕ
tens zero = 1
tens (suc most) = 10 * tens most

digit_is : (d : ℕ) → d < 10 → is_digit (48 + d) ≡ true
digit_is d small = ap₂ (λ a b. a && b) (le-leb 48 (48 + d) (omega arith)) (le-leb (48 + d) 57 (omega (arith, small)))

passes_more : (test : ℕ → Bool) (xs ys : List ℕ) → Passes test xs → Passes test ys → Passes test (xs ++ ys)
passes_more test [] ys all every = every
passes_more test (x ∷ xs) ys all every = (all.0, passes_more test xs ys all.1 every)

pub digits_pass : (most n : ℕ) → Passes is_digit (digits_of most n)
digits_pass zero n = tt
digits_pass (suc most) n = by_test (nat_lt n 10) refl (digits_pass most (n / 10))
  where
    by_test : (b : Bool) → nat_lt n 10 ≡ b → Passes is_digit (digits_of most (n / 10)) → Passes is_digit (if b then (48 + n) ∷ [] else (digits_of most (n / 10) ++ (48 + n % 10) ∷ []))
    by_test true is each = (digit_is n (ltb-true n 10 is), tt)
    by_test false is each = passes_more is_digit (digits_of most (n / 10)) ((48 + n % 10) ∷ []) each (digit_is (n % 10) (omega arith), tt)

pub digits_some : (most n : ℕ) → 0 < length (digits_of (suc most) n)
digits_some most n = by_test (nat_lt n 10)
  where
    by_test : (b : Bool) → 0 < length (if b then (48 + n) ∷ [] else (digits_of most (n / 10) ++ (48 + n % 10) ∷ []))
    by_test true = omega arith
    by_test false = omega (arith, length-append (digits_of most (n / 10)) ((48 + n % 10) ∷ []))

last_cut : (xs ys : List ℕ) (x y : ℕ) → xs ++ x ∷ [] ≡ ys ++ y ∷ [] → (xs ≡ ys) × (x ≡ y)
last_cut [] [] x y is = (refl, ap first_of is)
last_cut (a ∷ xs) (b ∷ ys) x y is = let more = last_cut xs ys x y (ap rest_of is) in (ap₂ (λ (e : ℕ) (es : List ℕ). e ∷ es) (ap first_of is) more.0, more.1)
last_cut [] (b ∷ ys) x y is = absurd (omega (arith, ap length is, length-append ys (y ∷ [])))
last_cut (a ∷ xs) [] x y is = absurd (omega (arith, ap length is, length-append xs (x ∷ [])))

pub digits_same : (most m n : ℕ) → m < tens most → n < tens most → digits_of most m ≡ digits_of most n → m ≡ n
digits_same zero m n one other is = omega (arith, one, other)
digits_same (suc most) m n one other is = by_tests (nat_lt m 10) (nat_lt n 10) refl refl (digits_same most (m / 10) (n / 10) (omega (arith, one)) (omega (arith, other))) is
  where
    one_digit : (k l : ℕ) → l < 10 * tens most → 10 ≤ l → (48 + k) ∷ [] ≡ digits_of most (l / 10) ++ (48 + l % 10) ∷ [] → ⊥
    one_digit k l small large same = by_most most (omega (arith, small, large)) (ap length same ∙ length-append (digits_of most (l / 10)) ((48 + l % 10) ∷ []))
      where
        by_most : (j : ℕ) → 1 < tens j → 1 ≡ length (digits_of j (l / 10)) + 1 → ⊥
        by_most zero more count = omega (arith, more)
        by_most (suc j) more count = omega (arith, count, digits_some j (l / 10))

    by_tests : (a b : Bool) → nat_lt m 10 ≡ a → nat_lt n 10 ≡ b → (digits_of most (m / 10) ≡ digits_of most (n / 10) → m / 10 ≡ n / 10)
        → (if a then (48 + m) ∷ [] else (digits_of most (m / 10) ++ (48 + m % 10) ∷ [])) ≡ (if b then (48 + n) ∷ [] else (digits_of most (n / 10) ++ (48 + n % 10) ∷ [])) → m ≡ n
    by_tests true true first second each same = omega (arith, ap first_of same)
    by_tests false false first second each same =
        let parts = last_cut (digits_of most (m / 10)) (digits_of most (n / 10)) (48 + m % 10) (48 + n % 10) same in
        omega (arith, each parts.0, parts.1)
    by_tests true false first second each same = absurd (one_digit m n other (ltb-false n 10 second) same)
    by_tests false true first second each same = absurd (one_digit n m one (ltb-false m 10 first) (sym same))

pub digits_cut : (m n : ℕ) (x y : List ℕ) → Ends is_digit x → Ends is_digit y → digits_of 20 m ++ x ≡ digits_of 20 n ++ y → (digits_of 20 m ≡ digits_of 20 n) × (x ≡ y)
digits_cut m n x y ends stops is = run_cut is_digit (digits_of 20 m) (digits_of 20 n) x y (digits_pass 20 m) (digits_pass 20 n) ends stops is

-- integers
no_sign : (n : ℕ) (x y : List ℕ) → digits_of 20 n ++ x ≡ 45 ∷ y → ⊥
no_sign n x y is = by_digits (digits_of 20 n) (digits_pass 20 n) (digits_some 19 n) is
  where
    by_digits : (digits : List ℕ) → Passes is_digit digits → 0 < length digits → digits ++ x ≡ 45 ∷ y → ⊥
    by_digits [] all some same = omega (arith, some)
    by_digits (c ∷ digits) all some same = clash (is_digit c) all.0 (ap is_digit (ap first_of same))

in_range : (n : ℕ) → nat_le n 9223372036854775807 ≡ true → suc n < tens 20
in_range n is = omega (arith, leb-true n 9223372036854775807 is)

pub int_cut : (i j : ℤ) (x y : List ℕ) → is_int i ≡ true → is_int j ≡ true → Stop x → Stop y → int_text i ++ x ≡ int_text j ++ y → (i ≡ j) × (x ≡ y)
int_cut (pos m) (pos n) x y one other ends stops is =
    let cut = digits_cut m n x y (digit_stop x ends) (digit_stop y stops) is in
    (ap pos (digits_same 20 m n (omega (arith, in_range m one)) (omega (arith, in_range n other)) cut.0), cut.1)
int_cut (negsuc m) (negsuc n) x y one other ends stops is =
    let cut = digits_cut (suc m) (suc n) x y (digit_stop x ends) (digit_stop y stops) (ap rest_of is) in
    (ap negsuc (omega (arith, digits_same 20 (suc m) (suc n) (in_range m one) (in_range n other) cut.0)), cut.1)
int_cut (pos m) (negsuc n) x y one other ends stops is = absurd (no_sign m x (digits_of 20 (suc n) ++ y) is)
int_cut (negsuc m) (pos n) x y one other ends stops is = absurd (no_sign n y (digits_of 20 (suc m) ++ x) (sym is))

-- numbers of things
pub number_cut : (m n : ℕ) (x y : List ℕ) → Ends is_digit x → Ends is_digit y → number_text m ++ x ≡ number_text n ++ y → (digits_of 20 (suc m) ≡ digits_of 20 (suc n)) × (x ≡ y)
number_cut m n x y ends stops is = digits_cut (suc m) (suc n) x y ends stops (ap rest_of is)

-- a byte of a literal, read back
abbrev digit_value : ℕ → ℕ
digit_value c = if nat_lt c 58 then c - 48 else c - 87

abbrev hex_value : List ℕ → ℕ
hex_value [] = 0
hex_value (a ∷ []) = 0
hex_value (a ∷ (b ∷ rest)) = digit_value a * 16 + digit_value b

abbrev escaped : List ℕ → ℕ
escaped [] = 0
escaped (e ∷ rest) = if e == 110 then 10 else if e == 114 then 13 else if e == 116 then 9 else if e == 120 then hex_value rest else e

abbrev read_code : ℕ → List ℕ → Option ℕ
read_code quote [] = None
read_code quote (c ∷ rest) = if c == quote then None else if c == 92 then Some (escaped rest) else Some c

abbrev past_escape : List ℕ → List ℕ
past_escape [] = []
past_escape (e ∷ rest) = if e == 120 then drop 2 rest else rest

abbrev past_code : List ℕ → List ℕ
past_code [] = []
past_code (c ∷ rest) = if c == 92 then past_escape rest else rest

abbrev Reads : ℕ → List ℕ → ℕ → List ℕ → Type 0
Reads quote words byte more = (read_code quote (words ++ more) ≡ Some byte) × (past_code (words ++ more) ≡ more)

-- the quote is one of two
abbrev quote_by : Bool → ℕ
quote_by b = if b then 34 else 39

hex_back : (d : ℕ) → d < 16 → digit_value (hex_digit d) ≡ d
hex_back d small = by_test (nat_lt d 10) refl
  where
    by_test : (b : Bool) → nat_lt d 10 ≡ b → digit_value (if b then 48 + d else 87 + d) ≡ d
    by_test true is = ap (λ c. if c then (48 + d) - 48 else (48 + d) - 87) (lt-ltb (48 + d) 58 (omega (arith, ltb-true d 10 is))) ∙ omega arith
    by_test false is = ap (λ c. if c then (87 + d) - 48 else (87 + d) - 87) (le-ltb (87 + d) 58 (omega arith)) ∙ omega arith

reads_hex : (h : Bool) (byte : ℕ) (more : List ℕ) → byte < 32 → Reads (quote_by h) (codes "\\x" ++ hex_digit (byte / 16) ∷ hex_digit (byte % 16) ∷ []) byte more
reads_hex h byte more small = by_quote h
  where
    value : hex_value (hex_digit (byte / 16) ∷ hex_digit (byte % 16) ∷ more) ≡ byte
    value = ap₂ (λ a b. a * 16 + b) (hex_back (byte / 16) (omega (arith, small))) (hex_back (byte % 16) (omega arith)) ∙ omega arith

    by_quote : (b : Bool) → Reads (quote_by b) (codes "\\x" ++ hex_digit (byte / 16) ∷ hex_digit (byte % 16) ∷ []) byte more
    by_quote true = (ap (λ (n : ℕ). Some n) value, refl)
    by_quote false = (ap (λ (n : ℕ). Some n) value, refl)

reads_plain : (h : Bool) (byte : ℕ) (more : List ℕ) → (byte == 92) ≡ false → (byte == quote_by h) ≡ false → Reads (quote_by h) (byte ∷ []) byte more
reads_plain h byte more no_escape no_quote =
    (ap₂ (λ a b. if a then None else if b then Some (escaped more) else Some byte) no_quote no_escape, ap (λ b. if b then past_escape more else more) no_escape)

reads_same : (h : Bool) (words : List ℕ) (byte k : ℕ) (more : List ℕ) → (byte == k) ≡ true → Reads (quote_by h) words k more → Reads (quote_by h) words byte more
reads_same h words byte k more is reads = subst (λ b. Reads (quote_by h) words b more) (sym (omega (arith, eqb-true byte k is))) reads

reads_back : (h : Bool) (byte : ℕ) (more : List ℕ) → Reads (quote_by h) (spelled (quote_by h) byte) byte more
reads_back h byte more =
    at_escape (byte == 92) refl
  where
    quote : ℕ
    quote = quote_by h

    both_quotes : (words : List ℕ) (k : ℕ) → Reads 34 words k more → Reads 39 words k more → Reads (quote_by h) words k more
    both_quotes words k one other = by_quote h
      where
        by_quote : (b : Bool) → Reads (quote_by b) words k more
        by_quote true = one
        by_quote false = other

    own_quote : (b : Bool) → Reads (quote_by b) (92 ∷ quote_by b ∷ []) (quote_by b) more
    own_quote true = (refl, refl)
    own_quote false = (refl, refl)

    at_delete : (b : Bool) → (byte == 127) ≡ b → (byte == 92) ≡ false → (byte == quote_by h) ≡ false → Reads (quote_by h) (if b then codes "\\x7f" else byte ∷ []) byte more
    at_delete true is no_escape no_quote = reads_same h (codes "\\x7f") byte 127 more is (both_quotes (codes "\\x7f") 127 (refl, refl) (refl, refl))
    at_delete false is no_escape no_quote = reads_plain h byte more no_escape no_quote

    at_small : (b : Bool) → nat_lt byte 32 ≡ b → (byte == 92) ≡ false → (byte == quote_by h) ≡ false
        → Reads (quote_by h) (if b then (codes "\\x" ++ hex_digit (byte / 16) ∷ hex_digit (byte % 16) ∷ []) else if byte == 127 then codes "\\x7f" else byte ∷ []) byte more
    at_small true is no_escape no_quote = reads_hex h byte more (ltb-true byte 32 is)
    at_small false is no_escape no_quote = at_delete (byte == 127) refl no_escape no_quote

    at_tab : (b : Bool) → (byte == 9) ≡ b → (byte == 92) ≡ false → (byte == quote_by h) ≡ false
        → Reads (quote_by h) (if b then codes "\\t" else if nat_lt byte 32 then (codes "\\x" ++ hex_digit (byte / 16) ∷ hex_digit (byte % 16) ∷ []) else if byte == 127 then codes "\\x7f" else byte ∷ []) byte more
    at_tab true is no_escape no_quote = reads_same h (codes "\\t") byte 9 more is (both_quotes (codes "\\t") 9 (refl, refl) (refl, refl))
    at_tab false is no_escape no_quote = at_small (nat_lt byte 32) refl no_escape no_quote

    at_return : (b : Bool) → (byte == 13) ≡ b → (byte == 92) ≡ false → (byte == quote_by h) ≡ false
        → Reads (quote_by h) (if b then codes "\\r" else if byte == 9 then codes "\\t" else if nat_lt byte 32 then (codes "\\x" ++ hex_digit (byte / 16) ∷ hex_digit (byte % 16) ∷ []) else if byte == 127 then codes "\\x7f" else byte ∷ []) byte more
    at_return true is no_escape no_quote = reads_same h (codes "\\r") byte 13 more is (both_quotes (codes "\\r") 13 (refl, refl) (refl, refl))
    at_return false is no_escape no_quote = at_tab (byte == 9) refl no_escape no_quote

    at_line : (b : Bool) → (byte == 10) ≡ b → (byte == 92) ≡ false → (byte == quote_by h) ≡ false
        → Reads (quote_by h) (if b then codes "\\n" else if byte == 13 then codes "\\r" else if byte == 9 then codes "\\t" else if nat_lt byte 32 then (codes "\\x" ++ hex_digit (byte / 16) ∷ hex_digit (byte % 16) ∷ []) else if byte == 127 then codes "\\x7f" else byte ∷ []) byte more
    at_line true is no_escape no_quote = reads_same h (codes "\\n") byte 10 more is (both_quotes (codes "\\n") 10 (refl, refl) (refl, refl))
    at_line false is no_escape no_quote = at_return (byte == 13) refl no_escape no_quote

    at_quote : (b : Bool) → (byte == quote_by h) ≡ b → (byte == 92) ≡ false
        → Reads (quote_by h) (if b then 92 ∷ quote_by h ∷ [] else if byte == 10 then codes "\\n" else if byte == 13 then codes "\\r" else if byte == 9 then codes "\\t" else if nat_lt byte 32 then (codes "\\x" ++ hex_digit (byte / 16) ∷ hex_digit (byte % 16) ∷ []) else if byte == 127 then codes "\\x7f" else byte ∷ []) byte more
    at_quote true is no_escape = reads_same h (92 ∷ quote_by h ∷ []) byte (quote_by h) more is (own_quote h)
    at_quote false is no_escape = at_line (byte == 10) refl no_escape is

    at_escape : (b : Bool) → (byte == 92) ≡ b
        → Reads (quote_by h) (if b then 92 ∷ 92 ∷ [] else if byte == quote_by h then 92 ∷ quote_by h ∷ [] else if byte == 10 then codes "\\n" else if byte == 13 then codes "\\r" else if byte == 9 then codes "\\t" else if nat_lt byte 32 then (codes "\\x" ++ hex_digit (byte / 16) ∷ hex_digit (byte % 16) ∷ []) else if byte == 127 then codes "\\x7f" else byte ∷ []) byte more
    at_escape true is = reads_same h (92 ∷ 92 ∷ []) byte 92 more is (both_quotes (92 ∷ 92 ∷ []) 92 (refl, refl) (refl, refl))
    at_escape false is = at_quote (byte == quote_by h) refl is

ended : (h : Bool) (d : ℕ) (b x y : List ℕ) → quote_by h ∷ x ≡ spelled_all (quote_by h) (d ∷ b) ++ (quote_by h ∷ y) → ⊥
ended h d b x y is =
    let right = append_assoc (spelled (quote_by h) d) (spelled_all (quote_by h) b) (quote_by h ∷ y) in
    differ d (sym (at_once h) ∙ (ap (read_code (quote_by h)) (is ∙ right) ∙ (reads_back h d (spelled_all (quote_by h) b ++ (quote_by h ∷ y))).0))
  where
    differ : (n : ℕ) → None ≡ Some n → ⊥
    differ n same = cc

    at_once : (c : Bool) → read_code (quote_by c) (quote_by c ∷ x) ≡ None
    at_once true = refl
    at_once false = refl

-- literals
spelled_cut : (h : Bool) (a b x y : List ℕ) → spelled_all (quote_by h) a ++ (quote_by h ∷ x) ≡ spelled_all (quote_by h) b ++ (quote_by h ∷ y) → (a ≡ b) × (x ≡ y)
spelled_cut h [] [] x y is = (refl, ap rest_of is)
spelled_cut h (c ∷ a) (d ∷ b) x y is =
    let left = append_assoc (spelled (quote_by h) c) (spelled_all (quote_by h) a) (quote_by h ∷ x) in
    let right = append_assoc (spelled (quote_by h) d) (spelled_all (quote_by h) b) (quote_by h ∷ y) in
    let joined = sym left ∙ (is ∙ right) in
    let one = reads_back h c (spelled_all (quote_by h) a ++ (quote_by h ∷ x)) in
    let other = reads_back h d (spelled_all (quote_by h) b ++ (quote_by h ∷ y)) in
    let more = spelled_cut h a b x y (sym one.1 ∙ (ap past_code joined ∙ other.1)) in
    (ap₂ (λ (e : ℕ) (es : List ℕ). e ∷ es) (same_code c d (sym one.0 ∙ (ap (read_code (quote_by h)) joined ∙ other.0))) more.0, more.1)
  where
    same_code : (m n : ℕ) → Some m ≡ Some n → m ≡ n
    same_code m n same = cc
spelled_cut h [] (d ∷ b) x y is = absurd (ended h d b x y is)
spelled_cut h (c ∷ a) [] x y is = absurd (ended h c a y x (sym is))

pub literal_cut : (a b x y : List ℕ) → literal a ++ x ≡ literal b ++ y → (a ≡ b) × (x ≡ y)
literal_cut a b x y is = by_quotes (holds 39 a && not (holds 34 a)) (holds 39 b && not (holds 34 b)) is
  where
    by_quotes : (g h : Bool) → quote_by g ∷ (spelled_all (quote_by g) a ++ quote_by g ∷ []) ++ x ≡ quote_by h ∷ (spelled_all (quote_by h) b ++ quote_by h ∷ []) ++ y → (a ≡ b) × (x ≡ y)
    by_quotes true true same = spelled_cut true a b x y (sym (append_assoc (spelled_all 34 a) (34 ∷ []) x) ∙ (ap rest_of same ∙ append_assoc (spelled_all 34 b) (34 ∷ []) y))
    by_quotes false false same = spelled_cut false a b x y (sym (append_assoc (spelled_all 39 a) (39 ∷ []) x) ∙ (ap rest_of same ∙ append_assoc (spelled_all 39 b) (39 ∷ []) y))
    by_quotes true false same = absurd (omega (arith, ap first_of same))
    by_quotes false true same = absurd (omega (arith, ap first_of same))
