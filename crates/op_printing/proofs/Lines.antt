-- The loop over the values of a line.
use Rattle.std.proofs.Common.{◌≡◌, refl, sym, ap, ap₂, ◌∙◌, append-nil, arith, ℕ, zero, suc, ◌+◌, ◌<◌, ◌≤◌, ◌==◌, Bool, true, false, List, [], ◌∷◌, ◌++◌, length, drop, map, Some, slice_get, slice_index_or, codes}
use Rattle.std.proofs.Math.Path.{fun_ext}
use Rattle.std.proofs.lemmas.List.{append_assoc, drop_all}
use Rattle.py_model.specs.Plan.{Plan}
use Rattle.py_model.specs.Printing.{printed, printed_all, between, behind_first}
use Rattle.py_value.specs.Contents.{Contents}
use Rattle.py_value.specs.Values.{ValuesView, IsNamed, AreNamed}
use Rattle.py_value.specs.declared.value.Value.{Value}
use Rattle.op_printing.specs.Inside.{blank_words}
use Rattle.op_pieces.proofs.Following.{not_first, place}

abbrev pub blank_follow : Bool → List (List ℕ) → List ℕ
blank_follow true texts = between (codes " ") texts
blank_follow false texts = behind_first (codes " ") texts

followed : (first : Bool) (text bytes : List ℕ) (rest : List (List ℕ)) → text ++ blank_follow first (bytes ∷ rest) ≡ ((text ++ blank_words first) ++ bytes) ++ blank_follow false rest
followed true text bytes rest = ap (λ words. words ++ (bytes ++ behind_first (codes " ") rest)) (sym (append-nil text)) ∙ sym (append_assoc (text ++ []) bytes (behind_first (codes " ") rest))
followed false text bytes rest = sym (append_assoc text (codes " ") (bytes ++ behind_first (codes " ") rest)) ∙ sym (append_assoc (text ++ codes " ") bytes (behind_first (codes " ") rest))

value_on : (vs : List Value) (i : ℕ) (d : Value) → i < length vs → drop i vs ≡ slice_index_or vs i d ∷ drop (suc i) vs
value_on [] i d less = absurd (omega (arith, less))
value_on (v ∷ vs) zero d less = refl
value_on (v ∷ vs) (suc i) d less = value_on vs i d (omega (arith, less))

there : (vs : List Value) (i : ℕ) (d : Value) → i < length vs → slice_get vs i ≡ Some (slice_index_or vs i d)
there [] i d less = absurd (omega (arith, less))
there (v ∷ vs) zero d less = refl
there (v ∷ vs) (suc i) d less = there vs i d (omega (arith, less))

pub value_named : (values : ValuesView) (vs : List Value) (i : ℕ) (d : Value) → i < length vs → AreNamed values vs → IsNamed values (slice_index_or vs i d)
value_named values vs i d less named = named i (slice_index_or vs i d) (there vs i d less)

-- each value by one printer, whatever it is
abbrev pub each_of : (Contents → (List ℕ → Plan) → Plan) → List Contents → (List (List ℕ) → Plan) → Plan
each_of one [] go = go []
each_of one (v ∷ values) go = one v (λ bytes. each_of one values (λ rest. go (bytes ∷ rest)))

pub each_is : (values : List Contents) (go : List (List ℕ) → Plan) → printed_all values go ≡ each_of (printed false) values go
each_is [] go = refl
each_is (v ∷ values) go = ap (printed false v) (fun_ext (λ bytes. each_is values (λ rest. go (bytes ∷ rest))))

follow_none : (first : Bool) (text : List ℕ) → text ++ blank_follow first [] ≡ text
follow_none true text = append-nil text
follow_none false text = append-nil text

module _ (one : Contents → (List ℕ → Plan) → Plan) (f : Value → Contents) (vs : List Value) (i : ℕ) where
  -- what is left of a line behind a text, and once a text more stands there
  abbrev pub line_left : List ℕ → (List ℕ → Plan) → Plan
  line_left text go = each_of one (map f (drop i vs)) (λ rest. go (text ++ blank_follow (i == 0) rest))

  abbrev pub line_next : List ℕ → (List ℕ → Plan) → Plan
  line_next made go = each_of one (map f (drop (i + 1) vs)) (λ rest. go (made ++ blank_follow false rest))

  pub line_on : (d : Value) (text mid : List ℕ) (go : List ℕ → Plan) → i < length vs → mid ≡ text ++ blank_words (i == 0)
      → line_left text go ≡ one (f (slice_index_or vs i d)) (λ bytes. line_next (mid ++ bytes) go)
  line_on d text mid go less is =
      ap (λ rest. each_of one (map f rest) (λ texts. go (text ++ blank_follow (i == 0) texts))) (value_on vs i d less)
      ∙ ap (one (f (slice_index_or vs i d))) (fun_ext (λ bytes. ap₂ (λ k then. each_of one (map f (drop k vs)) then) (place i)
      (fun_ext (λ rest. ap go (followed (i == 0) text bytes rest ∙ ap (λ words. (words ++ bytes) ++ blank_follow false rest) (sym is))))))

  pub line_ends : (text : List ℕ) (go : List ℕ → Plan) → length vs ≤ i → line_left text go ≡ go text
  line_ends text go past = ap (λ rest. each_of one (map f rest) (λ texts. go (text ++ blank_follow (i == 0) texts))) (drop_all i vs past) ∙ ap go (follow_none (i == 0) text)

pub line_more : (one : Contents → (List ℕ → Plan) → Plan) (f : Value → Contents) (vs : List Value) (i : ℕ) (made : List ℕ) (go : List ℕ → Plan) → line_next one f vs i made go ≡ line_left one f vs (i + 1) made go
line_more one f vs i made go = ap (λ first. each_of one (map f (drop (i + 1) vs)) (λ rest. go (made ++ blank_follow first rest))) (sym (not_first i))
