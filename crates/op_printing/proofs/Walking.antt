-- The steps of the print walk.
use Rattle.std.proofs.Common.{◌≡◌, refl, sym, ap, ◌∙◌, arith, ℕ, zero, suc, ◌+◌, ◌-◌, Bool, true, false, not, nat_lt, List, [], ◌∷◌, ◌++◌, codes, Some, None, Result, Ok, Err}
use Rattle.std.proofs.lemmas.List.{append_assoc}
use Rattle.py_model.specs.Faults.{too_deep}
use Rattle.py_model.specs.Plan.{Plan}
use Rattle.py_model.specs.Printing.{print_to, height}
use Rattle.py_value.specs.Contents.{Contents, contents}
use Rattle.py_value.specs.Values.{ValuesView, AreInterned, IsNamed, Keeps}
use Rattle.py_value.specs.declared.value.Value.{Value}
use Rattle.op_work.specs.Work.{WorkView, Comes, Extends}
use Rattle.op_work.specs.declared.stop.Stop.{Stop}
use Rattle.op_work.proofs.Going.{comes_same, comes_then, comes_stop}
use Rattle.op_printing.specs.Forms.{Inner, form_of, found_seen, inner_seen, IsRest, closed}
use Rattle.op_printing.specs.Inside.{deeper, inner_text, found_text}
use Rattle.op_pieces.specs.Pieces.{pieces_bytes, ArePieces, Adds}
use Rattle.op_printing.specs.Puts.{Puts}
use Rattle.op_printing.specs.declared.forms.Form.{Form}
use Rattle.op_printing.specs.declared.forms.Rest.{Rest}
use Rattle.op_printing.specs.declared.forms.Rest.TheVariants.{Whole, Items, Entries, Tuple, Bare, Only}
use Rattle.op_pieces.specs.declared.pieces.Piece.{Piece}
use Rattle.op_printing.proofs.Levels.{level_is}
use Rattle.op_printing.proofs.Putting.{then_word, puts_stop}
use Rattle.op_printing.proofs.Rows.{entry_next}

-- a value, once what it comes to is known
at_start : (levels : ℕ) (quoted : Bool) (inside objects : List ℕ) (v : Value) (start : List Piece) → objects ≡ inside → (table : ValuesView) (go : List ℕ → Plan)
    → print_to levels quoted inside (contents table v) (λ bytes. go (pieces_bytes table start ++ bytes))
    ≡ form_of quoted objects (pieces_bytes table start) (contents table v) (λ found. found_text (levels - 1) (deeper levels) found go)
at_start levels quoted inside objects v start same table go = level_is levels quoted inside (pieces_bytes table start) (contents table v) go
    ∙ ap (λ os. form_of quoted os (pieces_bytes table start) (contents table v) (λ found. found_text (levels - 1) (deeper levels) found go)) (sym same)

pub value_stops : (levels : ℕ) (quoted : Bool) (inside objects : List ℕ) (v : Value) (within : List ℕ) (first out last : List Piece) {a b : WorkView} {stop : Stop} → objects ≡ inside
    → Comes (λ values (form : Form). IsRest values form.rest × ArePieces values out) (found_seen within out) (λ table. form_of quoted objects (pieces_bytes table first) (contents table v)) a b (Err stop)
    → Puts (λ table. print_to levels quoted inside (contents table v)) first last a b (Err stop)
value_stops levels quoted inside objects v within first out last same one = record {
  comes = comes_same (λ table (go : List ℕ → Plan). print_to levels quoted inside (contents table v) (λ bytes. go (pieces_bytes table first ++ bytes))) (λ table interned extends go. at_start levels quoted inside objects v first same table go)
      (comes_stop (λ table found (go : List ℕ → Plan). found_text (levels - 1) (deeper levels) found go) one);
}

joins : (levels : ℕ) (quoted : Bool) (inside objects : List ℕ) (v : Value) (form : Form) (within here : List ℕ) (first out last : List Piece) {a b c : WorkView} {result : Result (Unit {0}) Stop} → objects ≡ inside → here ≡ within
    → Comes (λ values (form : Form). IsRest values form.rest × ArePieces values out) (found_seen within out) (λ table. form_of quoted objects (pieces_bytes table first) (contents table v)) a b (Ok form)
    → Puts (λ table (go : List ℕ → Plan). inner_text (levels - 1) (deeper levels) here (inner_seen table form.rest) (λ x. go (x ++ closed form.closers))) out last b c result
    → Puts (λ table. print_to levels quoted inside (contents table v)) first last a c result
joins levels quoted inside objects v form within here first out last same is one other = record {
  comes = comes_same (λ table (go : List ℕ → Plan). print_to levels quoted inside (contents table v) (λ bytes. go (pieces_bytes table first ++ bytes))) (λ table interned extends go. at_start levels quoted inside objects v first same table go)
      (comes_then (λ table found (go : List ℕ → Plan). found_text (levels - 1) (deeper levels) found go) one
      (λ table interned extends go. ap (λ os. inner_text (levels - 1) (deeper levels) os (inner_seen table form.rest) (λ bytes. go (pieces_bytes table out ++ (bytes ++ closed form.closers)))) (sym is)) other.comes);
}

pub value_puts : (levels : ℕ) (quoted : Bool) (inside objects : List ℕ) (v : Value) (form : Form) (within here : List ℕ) (first out mid last : List Piece) {a b c : WorkView} {done end : Unit {0}} → objects ≡ inside → here ≡ within
    → Comes (λ values (form : Form). IsRest values form.rest × ArePieces values out) (found_seen within out) (λ table. form_of quoted objects (pieces_bytes table first) (contents table v)) a b (Ok form)
    → Puts (λ table. inner_text (levels - 1) (deeper levels) here (inner_seen table form.rest)) out mid b c (Ok done) → Adds mid last (closed form.closers)
    → Puts (λ table. print_to levels quoted inside (contents table v)) first last a c (Ok end)
value_puts levels quoted inside objects v form within here first out mid last same is one other adds =
    joins levels quoted inside objects v form within here first out last same is one (then_word other adds)

pub inner_stops : (levels : ℕ) (quoted : Bool) (inside objects : List ℕ) (v : Value) (form : Form) (within here : List ℕ) (first out mid last : List Piece) {a b c : WorkView} {stop : Stop} → objects ≡ inside → here ≡ within
    → Comes (λ values (form : Form). IsRest values form.rest × ArePieces values out) (found_seen within out) (λ table. form_of quoted objects (pieces_bytes table first) (contents table v)) a b (Ok form)
    → Puts (λ table. inner_text (levels - 1) (deeper levels) here (inner_seen table form.rest)) out mid b c (Err stop)
    → Puts (λ table. print_to levels quoted inside (contents table v)) first last a c (Err stop)
inner_stops levels quoted inside objects v form within here first out mid last same is one other =
    joins levels quoted inside objects v form within here first out last same is one (puts_stop (λ table x (go : List ℕ → Plan). go (x ++ closed form.closers)) other)

-- what lies inside, at a level and at none
pub inner_on : (levels : ℕ) (inside : List ℕ) (inner : Inner) (go : List ℕ → Plan) → (levels ≡ 0 → ⊥)
    → inner_text (levels - 1) (deeper levels) inside inner go ≡ inner_text (levels - 1) (Some (print_to (levels - 1))) inside inner go
inner_on levels inside inner go more = ap (λ n. inner_text (levels - 1) (deeper n) inside inner go) (some levels more)
  where
    some : (n : ℕ) → (n ≡ 0 → ⊥) → n ≡ suc (n - 1)
    some n more = omega (arith, more)

nothing_below : (below : ℕ) (inside : List ℕ) (table : ValuesView) (rest : Rest) (go : List ℕ → Plan) → (rest ≡ Whole → ⊥) → inner_text below None inside (inner_seen table rest) go ≡ too_deep
nothing_below below inside table Whole go some = absurd (some refl)
nothing_below below inside table (Items o) go some = refl
nothing_below below inside table (Entries o) go some = refl
nothing_below below inside table (Tuple id) go some = refl
nothing_below below inside table (Bare id) go some = refl
nothing_below below inside table (Only quoted id) go some = refl

pub inner_deep : (levels : ℕ) (inside : List ℕ) (table : ValuesView) (rest : Rest) (go : List ℕ → Plan) → levels ≡ 0 → (rest ≡ Whole → ⊥) → inner_text (levels - 1) (deeper levels) inside (inner_seen table rest) go ≡ too_deep
inner_deep levels inside table rest go is some = ap (λ n. inner_text (levels - 1) (deeper n) inside (inner_seen table rest) go) is ∙ nothing_below (levels - 1) inside table rest go some

-- keys that lie too deep, and others
pub low_on : (levels : ℕ) (key x : Contents) (go : Contents → Plan) → nat_lt levels (height key) ≡ false → entry_next levels key go x ≡ go x
low_on levels key x go is = ap (λ high. elim high [ true ↦ too_deep | false ↦ go x ]) is

pub deep_on : (levels : ℕ) (key x : Contents) (go : Contents → Plan) → nat_lt levels (height key) ≡ true → entry_next levels key go x ≡ too_deep
deep_on levels key x go is = ap (λ high. elim high [ true ↦ too_deep | false ↦ go x ]) is

pub not_true : (b low : Bool) → low ≡ not b → low ≡ true → b ≡ false
not_true true low is one = cc
not_true false low is one = refl

pub not_false : (b low : Bool) → low ≡ not b → low ≡ false → b ≡ true
not_false true low is one = refl
not_false false low is one = cc

abbrev pub ContentsStay : Type 0
ContentsStay = (old new : ValuesView) (v : Value) → AreInterned old → Keeps old.texts new.texts → Keeps old.tuples new.tuples → IsNamed old v → contents new v ≡ contents old v

-- the height of a key, by any table
pub height_stays : ContentsStay → (values : ValuesView) {old table : ValuesView} (key : Value) (levels : ℕ) (high : Bool) → values ≡ old → AreInterned old → IsNamed old key → Extends old table
    → nat_lt levels (height (contents values key)) ≡ high → nat_lt levels (height (contents table key)) ≡ high
height_stays law values {old} {table} key levels high same interned named extends is =
    ap (λ c. nat_lt levels (height c)) (law old table key interned extends.texts extends.tuples named ∙ ap (λ vs. contents vs key) (sym same)) ∙ is

-- one closing bracket more
closed_on : (n : ℕ) → closed n ++ 41 ∷ [] ≡ closed (suc n)
closed_on zero = refl
closed_on (suc n) = ap (λ words. 41 ∷ words) (closed_on n)

pub adds_closer : (n : ℕ) {first mid last : List Piece} → Adds first mid (closed n) → Adds mid last (codes ")") → Adds first last (closed (n + 1))
adds_closer n {first} {mid} {last} one other = record {
  bytes_are = λ table. other.bytes_are table ∙ (ap (λ words. words ++ codes ")") (one.bytes_are table)
      ∙ (append_assoc (pieces_bytes table first) (closed n) (codes ")") ∙ ap (λ words. pieces_bytes table first ++ words) (closed_on n ∙ ap closed (more n))));
  named = λ values are. other.named values (one.named values are);
}
  where
    more : (n : ℕ) → suc n ≡ n + 1
    more n = omega (arith)
