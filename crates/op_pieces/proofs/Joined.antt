-- The loop over texts that are joined.
use Rattle.std.proofs.Common.{◌≡◌, refl, sym, ap, ap₂, ◌∙◌, append-nil, arith, ℕ, zero, suc, ◌+◌, ◌<◌, ◌≤◌, ◌==◌, Bool, true, false, List, [], ◌∷◌, ◌++◌, length, drop, map, Some, slice_get, slice_index_or}
use Rattle.std.proofs.Math.Path.{fun_ext}
use Rattle.std.proofs.lemmas.List.{append_assoc, drop_all}
use Rattle.py_model.specs.Operands.{with_text}
use Rattle.py_model.specs.Plan.{Plan}
use Rattle.py_model.specs.TextMethods.{texts_in}
use Rattle.py_model.specs.Texts.{joined_by}
use Rattle.py_value.specs.Contents.{Contents}
use Rattle.py_value.specs.Values.{ValuesView, IsNamed, AreNamed}
use Rattle.py_value.specs.declared.value.Value.{Value}
use Rattle.op_pieces.specs.Joins.{before_text, behind, joined_on}
use Rattle.op_pieces.proofs.Following.{not_first, place}

first_joined : (separator text : List ℕ) (texts : List (List ℕ)) → joined_by separator (text ∷ texts) ≡ text ++ behind separator texts
first_joined separator text [] = sym (append-nil text)
first_joined separator text (next ∷ texts) = refl

followed : (first : Bool) (separator words text : List ℕ) (texts : List (List ℕ)) → words ++ joined_on first separator (text ∷ texts) ≡ ((words ++ before_text first separator) ++ text) ++ behind separator texts
followed true separator words text texts = ap (λ rest. words ++ rest) (first_joined separator text texts)
    ∙ (ap (λ front. front ++ (text ++ behind separator texts)) (sym (append-nil words)) ∙ sym (append_assoc (words ++ []) text (behind separator texts)))
followed false separator words text texts = ap (λ rest. words ++ (separator ++ rest)) (first_joined separator text texts)
    ∙ (sym (append_assoc words separator (text ++ behind separator texts)) ∙ sym (append_assoc (words ++ separator) text (behind separator texts)))

value_on : (vs : List Value) (i : ℕ) (d : Value) → i < length vs → drop i vs ≡ slice_index_or vs i d ∷ drop (suc i) vs
value_on [] i d less = absurd (omega (arith, less))
value_on (v ∷ vs) zero d less = refl
value_on (v ∷ vs) (suc i) d less = value_on vs i d (omega (arith, less))

there : (vs : List Value) (i : ℕ) (d : Value) → i < length vs → slice_get vs i ≡ Some (slice_index_or vs i d)
there [] i d less = absurd (omega (arith, less))
there (v ∷ vs) zero d less = refl
there (v ∷ vs) (suc i) d less = there vs i d (omega (arith, less))

pub value_named : (values : ValuesView) (vs : List Value) (i : ℕ) (d : Value) → i < length vs → AreNamed values vs → IsNamed values (slice_index_or vs i d)
value_named values vs i d less named = named i (slice_index_or vs i d) (there vs i d less)

ends_with_none : (first : Bool) (separator words : List ℕ) → words ++ joined_on first separator [] ≡ words
ends_with_none true separator words = append-nil words
ends_with_none false separator words = append-nil words

-- what is left of the items behind words, and once a text more stands there
abbrev pub left : (Value → Contents) → List Value → List ℕ → ℕ → List ℕ → (List ℕ → Plan) → Plan
left f vs separator i words go = texts_in (map f (drop i vs)) (λ all. go (words ++ joined_on (i == 0) separator all))

abbrev pub next : (Value → Contents) → List Value → List ℕ → ℕ → List ℕ → (List ℕ → Plan) → Plan
next f vs separator i made go = texts_in (map f (drop (i + 1) vs)) (λ all. go (made ++ behind separator all))

pub left_on : (f : Value → Contents) (vs : List Value) (separator : List ℕ) (i : ℕ) (d : Value) (words : List ℕ) (go : List ℕ → Plan) → i < length vs
    → left f vs separator i words go ≡ with_text (f (slice_index_or vs i d)) (λ text. next f vs separator i ((words ++ before_text (i == 0) separator) ++ text) go)
left_on f vs separator i d words go less =
    ap (λ rest. texts_in (map f rest) (λ all. go (words ++ joined_on (i == 0) separator all))) (value_on vs i d less)
    ∙ ap (with_text (f (slice_index_or vs i d))) (fun_ext (λ text. ap₂ (λ k then. texts_in (map f (drop k vs)) then) (place i)
    (fun_ext (λ all. ap go (followed (i == 0) separator words text all)))))

pub next_is : (f : Value → Contents) (vs : List Value) (separator : List ℕ) (i : ℕ) (made : List ℕ) (go : List ℕ → Plan) → next f vs separator i made go ≡ left f vs separator (i + 1) made go
next_is f vs separator i made go = ap (λ first. texts_in (map f (drop (i + 1) vs)) (λ all. go (made ++ joined_on first separator all))) (sym (not_first i))

pub left_none : (f : Value → Contents) (vs : List Value) (separator : List ℕ) (i : ℕ) (words : List ℕ) (go : List ℕ → Plan) → length vs ≤ i → left f vs separator i words go ≡ go words
left_none f vs separator i words go past = ap (λ rest. texts_in (map f rest) (λ all. go (words ++ joined_on (i == 0) separator all))) (drop_all i vs past) ∙ ap go (ends_with_none (i == 0) separator words)
