-- Keys that are counted and put behind a text.
use Rattle.std.proofs.Common.{◌≡◌, refl, sym, ap, ◌∙◌, append-nil, ℕ, suc, ◌+◌, ◌<◌, ◌≤◌, ◌==◌, false, List, [], ◌∷◌, ◌++◌, length, drop, codes}
use Rattle.std.proofs.lemmas.List.{drop_all}
use Rattle.py_model.specs.Printing.{key_text, key_texts, commas}
use Rattle.py_value.specs.Contents.{Contents, contents, parts_by, tuple}
use Rattle.py_value.specs.Values.{ValuesView}
use Rattle.py_value.specs.declared.value.Value.{Value}
use Rattle.py_value.specs.declared.value.Value.TheVariants.{None as NoneValue, Bool, Int, Text, Tuple, Range, Fn, Class, Exc, Builtin, Object}
use Rattle.spelling.specs.Spelling.{follow, end_words}
use Rattle.spelling.proofs.KeyParts.{tuple_words}
use Rattle.op_pieces.specs.Counted.{leaf_bytes, word_bytes}
use Rattle.op_pieces.specs.Parts.{separator}
use Rattle.op_pieces.specs.Pieces.{piece_bytes}
use Rattle.op_pieces.specs.declared.pieces.Piece.{Piece}
use Rattle.op_pieces.specs.declared.pieces.Piece.TheVariants.{Word, Number, Span, Plain, Quoted, Class as ClassPiece, Builtin as BuiltinPiece, Key}
use Rattle.op_pieces.proofs.Following.{followed, follow_none, not_first, place}
use Rattle.op_lists.proofs.TupleParts.{drop_next, item_at}

pub leaf_is : (table : ValuesView) (v : Value) → ((id : ℕ) → v ≡ Tuple id → ⊥) → leaf_bytes table v ≡ key_text (contents table v)
leaf_is table (Tuple id) other = absurd (other id refl)
leaf_is table NoneValue other = refl
leaf_is table (Bool b) other = refl
leaf_is table (Int i) other = refl
leaf_is table (Text id) other = refl
leaf_is table (Range a b c) other = refl
leaf_is table (Fn place) other = refl
leaf_is table (Class place) other = refl
leaf_is table (Exc number) other = refl
leaf_is table (Builtin number) other = refl
leaf_is table (Object o) other = refl

pub word_is : (table : ValuesView) (piece : Piece) → ((v : Value) → piece ≡ Key v → ⊥) → word_bytes table piece ≡ piece_bytes table piece
word_is table (Key v) other = absurd (other v refl)
word_is table (Word words) other = refl
word_is table (Number i) other = refl
word_is table (Span a b c) other = refl
word_is table (Plain id) other = refl
word_is table (Quoted id) other = refl
word_is table (ClassPiece number) other = refl
word_is table (BuiltinPiece number) other = refl

count_texts : (f : Value → Contents) (items : List Value) → length (key_texts (parts_by f items)) ≡ length items
count_texts f [] = refl
count_texts f (x ∷ items) = ap suc (count_texts f items)

pub tuple_is_key : (f : Value → Contents) (items : List Value) → codes "(" ++ (commas (key_texts (parts_by f items)) ++ end_words (length items)) ≡ key_text (tuple (parts_by f items))
tuple_is_key f items = ap (λ n. codes "(" ++ (commas (key_texts (parts_by f items)) ++ end_words n)) (sym (count_texts f items)) ∙ tuple_words (key_texts (parts_by f items))

pub row_more : (f : Value → Contents) (items : List Value) (i : ℕ) (v : Value) (bytes comma whole : List ℕ) → i < length items → v ≡ item_at items i → comma ≡ separator (i == 0)
    → bytes ++ follow (i == 0) (key_texts (parts_by f (drop i items))) ≡ whole
    → ((bytes ++ comma) ++ key_text (f v)) ++ follow ((i + 1) == 0) (key_texts (parts_by f (drop (i + 1) items))) ≡ whole
row_more f items i v bytes comma whole less is comma_is left =
    ap (λ c. ((bytes ++ c) ++ key_text (f v)) ++ follow ((i + 1) == 0) (key_texts (parts_by f (drop (i + 1) items)))) comma_is
    ∙ (ap (λ x. ((bytes ++ separator (i == 0)) ++ key_text (f x)) ++ follow ((i + 1) == 0) (key_texts (parts_by f (drop (i + 1) items)))) is
    ∙ (ap (λ first. ((bytes ++ separator (i == 0)) ++ key_text (f (item_at items i))) ++ follow first (key_texts (parts_by f (drop (i + 1) items)))) (not_first i)
    ∙ (ap (λ k. ((bytes ++ separator (i == 0)) ++ key_text (f (item_at items i))) ++ follow false (key_texts (parts_by f (drop k items)))) (sym (place i))
    ∙ (ap (λ words. (words ++ key_text (f (item_at items i))) ++ follow false (key_texts (parts_by f (drop (suc i) items)))) (sym (append-nil (bytes ++ separator (i == 0))))
    ∙ (sym (followed (i == 0) bytes [] (key_text (f (item_at items i))) (key_texts (parts_by f (drop (suc i) items))))
    ∙ (ap (λ vs. bytes ++ follow (i == 0) (key_texts (parts_by f vs))) (sym (drop_next items i less)) ∙ left))))))

pub row_done : (f : Value → Contents) (items : List Value) (i : ℕ) (bytes whole : List ℕ) → length items ≤ i → bytes ++ follow (i == 0) (key_texts (parts_by f (drop i items))) ≡ whole → bytes ≡ whole
row_done f items i bytes whole past left = sym (follow_none (i == 0) bytes) ∙ (ap (λ vs. bytes ++ follow (i == 0) (key_texts (parts_by f vs))) (sym (drop_all i items past)) ∙ left)
