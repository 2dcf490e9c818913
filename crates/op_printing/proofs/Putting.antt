-- What is put behind pieces.
use Rattle.std.proofs.Common.{◌≡◌, refl, sym, ap, ◌∙◌, subst, ℕ, List, [], ◌∷◌, ◌++◌, length, drop, Result, Ok, Err}
use Rattle.std.proofs.Math.Path.{fun_ext}
use Rattle.std.proofs.lemmas.List.{append_assoc}
use Rattle.py_model.specs.Faults.{fault}
use Rattle.py_model.specs.Plan.{Plan}
use Rattle.py_value.specs.Values.{ValuesView, AreInterned}
use Rattle.op_work.specs.declared.stop.Stop.{Stop}
use Rattle.op_work.specs.declared.stop.Stop.TheVariants.{Memory}
use Rattle.op_work.specs.Work.{WorkView, Extends, IsKept, Plans, Comes, Faults}
use Rattle.op_work.proofs.Going.{at_once, comes_then, comes_as, comes_stop, comes_same, fault_comes, extends_same}
use Rattle.op_printing.specs.Puts.{Puts}
use Rattle.op_pieces.proofs.Joining.{bytes_push, named_join}
use Rattle.op_pieces.specs.Pieces.{piece_bytes, pieces_bytes, IsPiece, ArePieces, Adds}
use Rattle.op_pieces.specs.declared.pieces.Piece.{Piece}

behind_it : (xs ys : List ℕ) → drop (length xs) (xs ++ ys) ≡ ys
behind_it [] ys = refl
behind_it (x ∷ xs) ys = behind_it xs ys

-- nothing is done but that pieces come
pub puts_at_once : (plan : Plans (List ℕ)) (w : WorkView) (before after : List Piece) {done : Unit {0}} → ArePieces w.values after
    → ((table : ValuesView) → AreInterned table → Extends w.values table → (go : List ℕ → Plan) → plan table (λ bytes. go (pieces_bytes table before ++ bytes)) ≡ go (pieces_bytes table after))
    → Puts plan before after w w (Ok done)
puts_at_once plan w before after {done} named same = record {
  comes = at_once (λ table (go : List ℕ → Plan). plan table (λ bytes. go (pieces_bytes table before ++ bytes))) w done named same;
}

-- out of memory
pub puts_memory : {plan : Plans (List ℕ)} {before after : List Piece} {old new : WorkView} → IsKept old new → Puts plan before after old new (Err Memory)
puts_memory kept = record { comes = record { kept = kept; is_named = tt; came = λ table store extends seen. tt } }

pub same_kept : (w : WorkView) → IsKept w w
same_kept w = record { store_is = refl; made_is = refl; left_is = refl; extends = extends_same w.values }

-- an equal plan
pub puts_same : {plan : Plans (List ℕ)} {before after : List Piece} {a b : WorkView} {result : Result (Unit {0}) Stop} (other : Plans (List ℕ))
    → ((table : ValuesView) → AreInterned table → Extends b.values table → (go : List ℕ → Plan) → other table go ≡ plan table go)
    → Puts plan before after a b result → Puts other before after a b result
puts_same {plan} {before} other same one = record {
  comes = comes_same (λ table (go : List ℕ → Plan). other table (λ bytes. go (pieces_bytes table before ++ bytes))) (λ table interned extends go. same table interned extends (λ bytes. go (pieces_bytes table before ++ bytes))) one.comes;
}

-- bytes come, and then others behind them
pub puts_then : {p q : Plans (List ℕ)} {first mid last : List Piece} {a b c : WorkView} {done : Unit {0}} {result : Result (Unit {0}) Stop}
    → Puts p first mid a b (Ok done) → Puts q mid last b c result → Puts (λ table go. p table (λ x. q table (λ y. go (x ++ y)))) first last a c result
puts_then {p} {q} {first} {mid} {last} one other = record {
  comes = comes_same (λ table (go : List ℕ → Plan). p table (λ x. q table (λ y. go (pieces_bytes table first ++ (x ++ y)))))
      (λ table interned extends go. ap (p table) (fun_ext (λ x. ap (q table) (fun_ext (λ y. ap go (sym (append_assoc (pieces_bytes table first) x y)))))))
      (comes_then (λ table x (go : List ℕ → Plan). q table (λ y. go (x ++ y))) one.comes (λ table interned extends go. refl) other.comes);
}

-- a plan stopped, and so did each that begins with it
pub puts_stop : {p : Plans (List ℕ)} {first mid last : List Piece} {a b : WorkView} {stop : Stop} (q : ValuesView → List ℕ → (List ℕ → Plan) → Plan)
    → Puts p first mid a b (Err stop) → Puts (λ table go. p table (λ x. q table x go)) first last a b (Err stop)
puts_stop {p} {first} q one = record {
  comes = comes_same (λ table (go : List ℕ → Plan). p table (λ x. q table x (λ bytes. go (pieces_bytes table first ++ bytes))))
      (λ table interned extends go. ap (p table) (fun_ext (λ x. ap (λ z. q table z (λ bytes. go (pieces_bytes table first ++ bytes))) (sym (behind_it (pieces_bytes table first) x)))))
      (comes_stop (λ table x (go : List ℕ → Plan). q table (drop (length (pieces_bytes table first)) x) (λ bytes. go (pieces_bytes table first ++ bytes))) one.comes);
}

-- another plan came to something, and bytes come then
module _ {A T : Type 0} {n : ValuesView → T → Type 0} {s : ValuesView → T → A} {p : Plans A} {a b : WorkView} where
  pub after_puts : (q : ValuesView → A → (List ℕ → Plan) → Plan) {w : Plans (List ℕ)} {before after : List Piece} {c : WorkView} {t : T} {result : Result (Unit {0}) Stop} → Comes n s p a b (Ok t)
      → ((table : ValuesView) → AreInterned table → Extends b.values table → (go : List ℕ → Plan) → q table (s table t) go ≡ w table go)
      → Puts w before after b c result → Puts (λ table go. p table (λ x. q table x go)) before after a c result
  after_puts q {w} {before} one same other = record {
    comes = comes_then (λ table x (go : List ℕ → Plan). q table x (λ bytes. go (pieces_bytes table before ++ bytes))) one
        (λ table interned extends go. same table interned extends (λ bytes. go (pieces_bytes table before ++ bytes))) other.comes;
  }

  pub after_stop : (q : ValuesView → A → (List ℕ → Plan) → Plan) {before after : List Piece} {stop : Stop} → Comes n s p a b (Err stop)
      → Puts (λ table go. p table (λ x. q table x go)) before after a b (Err stop)
  after_stop q {before} one = record { comes = comes_stop (λ table x (go : List ℕ → Plan). q table x (λ bytes. go (pieces_bytes table before ++ bytes))) one }

-- words before what comes, and behind it
pub word_then : {q : Plans (List ℕ)} {first mid last : List Piece} {bytes : List ℕ} {b c : WorkView} {result : Result (Unit {0}) Stop}
    → Adds first mid bytes → Puts q mid last b c result → Puts (λ table go. q table (λ y. go (bytes ++ y))) first last b c result
word_then {q} {first} {mid} {last} {bytes} adds other = record {
  comes = comes_same (λ table (go : List ℕ → Plan). q table (λ y. go (pieces_bytes table first ++ (bytes ++ y))))
      (λ table interned extends go. ap (q table) (fun_ext (λ y. ap go (sym (append_assoc (pieces_bytes table first) bytes y) ∙ ap (λ text. text ++ y) (sym (adds.bytes_are table))))))
      other.comes;
}

pub then_word : {p : Plans (List ℕ)} {first mid last : List Piece} {bytes : List ℕ} {a b : WorkView} {done end : Unit {0}}
    → Puts p first mid a b (Ok done) → Adds mid last bytes → Puts (λ table go. p table (λ x. go (x ++ bytes))) first last a b (Ok end)
then_word {p} {first} {mid} {last} {bytes} {a} {b} {done} {end} one adds = record {
  comes = comes_same (λ table (go : List ℕ → Plan). p table (λ x. go (pieces_bytes table first ++ (x ++ bytes))))
      (λ table interned extends go. ap (p table) (fun_ext (λ x. ap go (sym (append_assoc (pieces_bytes table first) x bytes)))))
      (comes_as (λ table x (go : List ℕ → Plan). go (x ++ bytes)) end one.comes (adds.named b.values one.comes.is_named) (λ table interned extends go. ap go (sym (adds.bytes_are table))));
}

-- a fault
pub puts_fault : (plan : Plans (List ℕ)) (class : ℕ) (words : List ℕ) {before after : List Piece} {old new : WorkView} (stop : Stop) → Faults class words old new stop
    → ((table : ValuesView) → AreInterned table → Extends new.values table → (go : List ℕ → Plan) → plan table go ≡ fault class words) → Puts plan before after old new (Err stop)
puts_fault plan class words {before} stop faults is = record {
  comes = fault_comes (λ table (go : List ℕ → Plan). plan table (λ bytes. go (pieces_bytes table before ++ bytes))) class words stop faults
      (λ table interned extends go. is table interned extends (λ bytes. go (pieces_bytes table before ++ bytes)));
}

-- a plan that goes on at once with a piece, or with words
pub puts_piece : (plan : Plans (List ℕ)) (w : WorkView) (before after : List Piece) (p : Piece) {done : Unit {0}} → after ≡ before ++ p ∷ [] → ArePieces w.values before → IsPiece w.values p
    → ((table : ValuesView) → AreInterned table → Extends w.values table → (go : List ℕ → Plan) → plan table go ≡ go (piece_bytes table p)) → Puts plan before after w w (Ok done)
puts_piece plan w before after p is are one same = puts_at_once plan w before after (subst (ArePieces w.values) (sym is) (named_join w.values before (p ∷ []) are (one, tt)))
    (λ table interned extends go. same table interned extends (λ bytes. go (pieces_bytes table before ++ bytes)) ∙ ap go (sym (ap (pieces_bytes table) is ∙ bytes_push table before p)))

pub puts_words : (plan : Plans (List ℕ)) (w : WorkView) {before after : List Piece} {bytes : List ℕ} {done : Unit {0}} → Adds before after bytes → ArePieces w.values before
    → ((table : ValuesView) → AreInterned table → Extends w.values table → (go : List ℕ → Plan) → plan table go ≡ go bytes) → Puts plan before after w w (Ok done)
puts_words plan w {before} {after} adds are same = puts_at_once plan w before after (adds.named w.values are)
    (λ table interned extends go. same table interned extends (λ bytes. go (pieces_bytes table before ++ bytes)) ∙ ap go (sym (adds.bytes_are table)))

-- behind no pieces
pub puts_start : {plan : Plans (List ℕ)} {before after : List Piece} {a b : WorkView} {result : Result (Unit {0}) Stop} → before ≡ [] → Puts plan before after a b result
    → Comes (λ values (done : Unit {0}). ArePieces values after) (λ table done. pieces_bytes table after) plan a b result
puts_start {plan} is one = comes_same plan (λ table interned extends go. ap (λ ps. plan table (λ bytes. go (pieces_bytes table ps ++ bytes))) (sym is)) one.comes
