-- The operators of augmented assignments.
use Rattle.std.proofs.Common.{◌≡◌, ℕ, Bool, true, false, List, ◌∷◌, Option, Some, None, option_map, refl, ap, ◌∙◌, if◌then◌else◌}
use Rattle.std.specs.Prelude.{unwrap_or}
use Rattle.std.proofs.lemmas.Bool.{eqb-true}
use Rattle.std.proofs.lemmas.Option.{same_Some}
use Rattle.py_lines.specs.declared.parts.Token.{Token}
use Rattle.py_lines.specs.declared.parts.TokenKind.{TokenKind}
use Rattle.py_lines.specs.declared.parts.TokenKind.TheVariants.{Word, Keyword, Number, Text, Sign}
use Rattle.py_lines.specs.Tables.{sign_number}
use Rattle.py_tree.specs.declared.expr.BinOp.{BinOp}
use Rattle.py_expressions.specs.Reader.{is_sign, spot_of}
use Rattle.py_grammar.specs.StatementTokens.{aug_sign}
use Rattle.py_grammar.specs.StatementTrees.{aug_op}
use Rattle.py_grammar.specs.StatementReader.{aug_sign_of}
use Rattle.py_grammar.specs.Written.{AugSign, add_to, take_from, multiply_by, divide_by, leave_of}
use Rattle.py_grammar.specs.ParsedSimple.{TakenAug}

abbrev pub aug_number : AugSign → ℕ
aug_number which = unwrap_or (sign_number (aug_sign which)) 0

sign_is : (k : ℕ) (kind : TokenKind) → is_sign k kind ≡ true → kind ≡ Sign k
sign_is k (Sign n) is = ap Sign (eqb-true n k is)
sign_is k (Word bytes) is = cc
sign_is k (Keyword n) is = cc
sign_is k (Number value) is = cc
sign_is k (Text bytes) is = cc

pub aug_is : (kind : TokenKind) (which : AugSign) → aug_sign_of kind ≡ Some which → kind ≡ Sign (aug_number which)
aug_is kind which = by (is_sign 21 kind) (is_sign 22 kind) (is_sign 23 kind) (is_sign 24 kind) (is_sign 25 kind) refl refl refl refl refl
  where
    by : (a b c d e : Bool) → is_sign 21 kind ≡ a → is_sign 22 kind ≡ b → is_sign 23 kind ≡ c → is_sign 24 kind ≡ d → is_sign 25 kind ≡ e
        → (if a then Some add_to else (if b then Some take_from else (if c then Some multiply_by else (if d then Some divide_by else (if e then Some leave_of else None))))) ≡ Some which → kind ≡ Sign (aug_number which)
    by true b c d e one two three four five is = sign_is 21 kind one ∙ ap (λ w. Sign (aug_number w)) (same_Some _ _ is)
    by false true c d e one two three four five is = sign_is 22 kind two ∙ ap (λ w. Sign (aug_number w)) (same_Some _ _ is)
    by false false true d e one two three four five is = sign_is 23 kind three ∙ ap (λ w. Sign (aug_number w)) (same_Some _ _ is)
    by false false false true e one two three four five is = sign_is 24 kind four ∙ ap (λ w. Sign (aug_number w)) (same_Some _ _ is)
    by false false false false true one two three four five is = sign_is 25 kind five ∙ ap (λ w. Sign (aug_number w)) (same_Some _ _ is)
    by false false false false false one two three four five is = cc

pub aug_taken : (t : Token) (ts : List Token) (number : ℕ) (op : BinOp) → t.kind ≡ Sign number → Some op ≡ option_map aug_op (aug_sign_of (Sign number)) → TakenAug (t ∷ ts) t.at op ts
aug_taken t ts number op kind is = by (aug_sign_of (Sign number)) refl is
  where
    by : (o : Option AugSign) → aug_sign_of (Sign number) ≡ o → Some op ≡ option_map aug_op o → TakenAug (t ∷ ts) t.at op ts
    by None sign is = cc
    by (Some which) sign is = record {
      which = which;
      spot = spot_of t;
      before_is = ap (λ k. record { at = t.at; span = t.span; kind = k } ∷ ts) (kind ∙ aug_is (Sign number) which sign);
      at_is = refl;
      op_is = same_Some _ _ is;
    }
