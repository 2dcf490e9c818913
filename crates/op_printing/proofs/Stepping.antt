-- What values come to at their level, step by step.
use Rattle.std.proofs.Common.{◌≡◌, refl, sym, ap, ◌∙◌, arith, ℕ, suc, ◌+◌, ◌-◌, ◌<◌, Bool as Truth, false, List, [], ◌∷◌, ◌++◌, length, slice_get, unwrap_or, Ok, Err}
use Rattle.std.proofs.Math.Path.{fun_ext}
use Rattle.py_model.specs.Classes.{longest_chain}
use Rattle.py_model.specs.Plan.{Plan}
use Rattle.py_value.specs.Contents.{Contents, contents, tuple, parts_by}
use Rattle.py_value.specs.Values.{ValuesView, AreInterned}
use Rattle.py_value.specs.declared.value.Value.{Value}
use Rattle.py_value.specs.declared.value.Value.TheVariants.{None as NoneValue, Bool, Int, Text, Tuple, Range, Fn, Class, Exc, Builtin, Object}
use Rattle.op_classes.proofs.ClassWalks.{one_step as one_less}
use Rattle.op_work.specs.Work.{WorkView, Extends, Plans, Comes}
use Rattle.op_work.specs.declared.stop.Stop.{Stop}
use Rattle.op_work.proofs.Going.{comes_as, comes_stop}
use Rattle.op_printing.specs.Forms.{whole, bare_parts, a_tuple, only_one, Next, comes_inside, comes_again, message_next, one_step, print_plain, Found, one_more, form_at, form_of, rest_by, inner_seen, next_seen, IsStep}
use Rattle.op_lists.specs.Parts.{items_at}
use Rattle.op_pieces.specs.Pieces.{pieces_bytes, ArePieces}
use Rattle.op_printing.specs.Puts.{Puts}
use Rattle.op_printing.specs.declared.forms.Step.{Step}
use Rattle.op_pieces.specs.declared.pieces.Piece.{Piece}

-- bytes came, and what they belong to comes of them
pub step_after : {p : Plans (List ℕ)} {before after : List Piece} {a b : WorkView} {done : Unit {0}} (inside : List ℕ) (step : Step) (make : ValuesView → List ℕ → Next) → Puts p before after a b (Ok done)
    → IsStep b.values step → ((table : ValuesView) → AreInterned table → Extends b.values table → make table (pieces_bytes table after) ≡ next_seen inside after table step)
    → Comes (λ values step. IsStep values step × ArePieces values after) (next_seen inside after) (λ table (go : Next → Plan). p table (λ x. go (make table (pieces_bytes table before ++ x)))) a b (Ok step)
step_after inside step make one named same = comes_as (λ table bytes (go : Next → Plan). go (make table bytes)) step one.comes (named, one.comes.is_named) (λ table interned extends go. ap go (same table interned extends))

pub step_stop : {p : Plans (List ℕ)} {before after : List Piece} {a b : WorkView} {stop : Stop} (last : List Piece) (inside : List ℕ) (make : ValuesView → List ℕ → Next) → Puts p before after a b (Err stop)
    → Comes (λ values step. IsStep values step × ArePieces values last) (next_seen inside last) (λ table (go : Next → Plan). p table (λ x. go (make table (pieces_bytes table before ++ x)))) a b (Err stop)
step_stop last inside make one = comes_stop (λ table bytes (go : Next → Plan). go (make table bytes)) one.comes

-- the arguments of an exception for its `str`
pub message_is : (quoted : Truth) (inside before : List ℕ) (table : ValuesView) (id : ℕ) (items : List Value) → items_at table id ≡ items
    → comes_inside inside before false (inner_seen table (rest_by quoted id (length items))) ≡ message_next quoted inside before (tuple (parts_by (contents table) (items_at table id)))
message_is quoted inside before table id [] is =
    ap (λ vs. comes_inside inside before false (bare_parts (parts_by (contents table) vs))) is ∙ sym (ap (λ vs. message_next quoted inside before (tuple (parts_by (contents table) vs))) is)
message_is quoted inside before table id (v ∷ []) is =
    ap (λ vs. comes_inside inside before false (only_one quoted (contents table (unwrap_or (slice_get vs 0) NoneValue)))) is ∙ sym (ap (λ vs. message_next quoted inside before (tuple (parts_by (contents table) vs))) is)
message_is quoted inside before table id (v ∷ (w ∷ items)) is =
    ap (λ vs. comes_inside inside before false (a_tuple (parts_by (contents table) vs))) is ∙ sym (ap (λ vs. message_next quoted inside before (tuple (parts_by (contents table) vs))) is)

-- a value that is no tuple and no object
pub plain_step : (quoted : Truth) (inside before : List ℕ) (table : ValuesView) (v : Value) (go : Next → Plan) → ((id : ℕ) → v ≡ Tuple id → ⊥) → ((o : ℕ) → v ≡ Object o → ⊥)
    → one_step quoted inside before (contents table v) go ≡ print_plain quoted (contents table v) (λ bytes. go (comes_inside inside (before ++ bytes) false whole))
plain_step quoted inside before table (Tuple id) go no_tuple no_object = absurd (no_tuple id refl)
plain_step quoted inside before table (Object o) go no_tuple no_object = absurd (no_object o refl)
plain_step quoted inside before table NoneValue go no_tuple no_object = refl
plain_step quoted inside before table (Bool b) go no_tuple no_object = refl
plain_step quoted inside before table (Int i) go no_tuple no_object = refl
plain_step quoted inside before table (Text id) go no_tuple no_object = refl
plain_step quoted inside before table (Range a b c) go no_tuple no_object = refl
plain_step quoted inside before table (Fn place) go no_tuple no_object = refl
plain_step quoted inside before table (Class place) go no_tuple no_object = refl
plain_step quoted inside before table (Exc number) go no_tuple no_object = refl
plain_step quoted inside before table (Builtin number) go no_tuple no_object = refl

-- the loop over exceptions whose arguments are no tuple
abbrev pub onwards : ℕ → ℕ → Next → (Found → Plan) → Plan
onwards fuel closers (comes_inside objects bytes closes inner) go = go (record { inside = objects; before = bytes; closers = one_more closes closers; inner = inner })
onwards fuel closers (comes_again objects bytes closes quoted w) go = form_at fuel (one_more closes closers) quoted objects bytes w go

pub form_step : (fuel closers : ℕ) (quoted : Truth) (inside before : List ℕ) (v : Contents) (go : Found → Plan)
    → form_at (suc fuel) closers quoted inside before v go ≡ one_step quoted inside before v (λ next. onwards fuel closers next go)
form_step fuel closers quoted inside before v go = ap (one_step quoted inside before v) (fun_ext each)
  where
    each : (next : Next) → (elim next [
      | comes_inside objects bytes closes inner ↦ go (record { inside = objects; before = bytes; closers = one_more closes closers; inner = inner })
      | comes_again objects bytes closes quoted_here w ↦ form_at fuel (one_more closes closers) quoted_here objects bytes w go
    ]) ≡ onwards fuel closers next go
    each (comes_inside objects bytes closes inner) = refl
    each (comes_again objects bytes closes quoted_here w) = refl

whole_left : (n : ℕ) → n ≡ n - 0
whole_left n = omega (arith)

pub form_starts : (quoted : Truth) (inside before : List ℕ) (v : Contents) (go : Found → Plan) → form_of quoted inside before v go ≡ form_at (longest_chain - 0) 0 quoted inside before v go
unfolding form_of
form_starts quoted inside before v go = ap (λ n. form_at n 0 quoted inside before v go) (whole_left longest_chain)

pub form_left : (i closers : ℕ) (quoted : Truth) (inside before : List ℕ) (v : Contents) (go : Found → Plan) → i < longest_chain
    → form_at (longest_chain - i) closers quoted inside before v go ≡ one_step quoted inside before v (λ next. onwards (longest_chain - (i + 1)) closers next go)
form_left i closers quoted inside before v go less = ap (λ n. form_at n closers quoted inside before v go) (one_less i less) ∙ form_step (longest_chain - (i + 1)) closers quoted inside before v go
