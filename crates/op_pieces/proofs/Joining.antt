-- Pieces behind one another.
use Rattle.std.proofs.Common.{◌≡◌, refl, sym, ap, ◌∙◌, subst, append-nil, arith, ℕ, zero, suc, ◌+◌, ◌<◌, slice_index_or, List, [], ◌∷◌, ◌++◌, length, drop}
use Rattle.std.proofs.lemmas.List.{append_assoc}
use Rattle.py_value.specs.Values.{ValuesView}
use Rattle.op_texts.proofs.Taken.{named_stays}
use Rattle.op_work.specs.Work.{Extends}
use Rattle.op_pieces.specs.Pieces.{piece_bytes, pieces_bytes, IsPiece, ArePieces, Adds}
use Rattle.op_pieces.specs.declared.pieces.Piece.{Piece}
use Rattle.op_pieces.specs.declared.pieces.Piece.TheVariants.{Word, Number, Span, Plain, Quoted, Class as ClassPiece, Builtin as BuiltinPiece, Key}

pub bytes_join : (table : ValuesView) (ps qs : List Piece) → pieces_bytes table (ps ++ qs) ≡ pieces_bytes table ps ++ pieces_bytes table qs
bytes_join table [] qs = refl
bytes_join table (p ∷ ps) qs = ap (λ bytes. piece_bytes table p ++ bytes) (bytes_join table ps qs) ∙ sym (append_assoc (piece_bytes table p) (pieces_bytes table ps) (pieces_bytes table qs))

pub named_join : (values : ValuesView) (ps qs : List Piece) → ArePieces values ps → ArePieces values qs → ArePieces values (ps ++ qs)
named_join values [] qs one other = other
named_join values (p ∷ ps) qs one other = (one.0, named_join values ps qs one.1 other)

-- one piece more
pub bytes_push : (table : ValuesView) (ps : List Piece) (p : Piece) → pieces_bytes table (ps ++ p ∷ []) ≡ pieces_bytes table ps ++ piece_bytes table p
bytes_push table ps p = bytes_join table ps (p ∷ []) ∙ ap (λ bytes. pieces_bytes table ps ++ bytes) (append-nil (piece_bytes table p))

pub adds_piece : (before after : List Piece) (p : Piece) (bytes : List ℕ) → after ≡ before ++ p ∷ [] → ((table : ValuesView) → piece_bytes table p ≡ bytes)
    → ((values : ValuesView) → IsPiece values p) → Adds before after bytes
adds_piece before after p bytes is same named = record {
  bytes_are = λ table. ap (pieces_bytes table) is ∙ (bytes_push table before p ∙ ap (λ more. pieces_bytes table before ++ more) (same table));
  named = λ values are. subst (ArePieces values) (sym is) (named_join values before (p ∷ []) are (named values, tt));
}

-- the piece at a place
piece_on : (ps : List Piece) (i : ℕ) (d : Piece) → i < length ps → drop i ps ≡ slice_index_or ps i d ∷ drop (suc i) ps
piece_on [] i d less = absurd (omega (arith, less))
piece_on (p ∷ ps) zero d less = refl
piece_on (p ∷ ps) (suc i) d less = piece_on ps i d (omega (arith, less))

pub piece_next : (ps : List Piece) (i : ℕ) (d : Piece) → i < length ps → drop i ps ≡ slice_index_or ps i d ∷ drop (i + 1) ps
piece_next ps i d less = piece_on ps i d less ∙ ap (λ k. slice_index_or ps i d ∷ drop k ps) (place i)
  where
    place : (i : ℕ) → suc i ≡ i + 1
    place i = omega (arith)

pub piece_named : (values : ValuesView) (ps : List Piece) (i : ℕ) (d : Piece) → i < length ps → ArePieces values ps → IsPiece values (slice_index_or ps i d)
piece_named values [] i d less named = absurd (omega (arith, less))
piece_named values (p ∷ ps) zero d less named = named.0
piece_named values (p ∷ ps) (suc i) d less named = piece_named values ps i d (omega (arith, less)) named.1

-- pieces that are named stay so
piece_stays : (old new : ValuesView) → Extends old new → (p : Piece) → IsPiece old p → IsPiece new p
piece_stays old new extends (Plain id) named = omega (arith, named, extends.few.0)
piece_stays old new extends (Quoted id) named = omega (arith, named, extends.few.0)
piece_stays old new extends (Key v) named = named_stays old new extends v named
piece_stays old new extends (Word words) named = tt
piece_stays old new extends (Number i) named = tt
piece_stays old new extends (Span a b c) named = tt
piece_stays old new extends (ClassPiece number) named = tt
piece_stays old new extends (BuiltinPiece number) named = tt

pub pieces_stay : (old new : ValuesView) → Extends old new → (ps : List Piece) → ArePieces old ps → ArePieces new ps
pieces_stay old new extends [] named = tt
pieces_stay old new extends (p ∷ ps) named = (piece_stays old new extends p named.0, pieces_stay old new extends ps named.1)
