-- A keyword and a sign have the number by which they were found.
use Rattle.std.proofs.Common.{◌≡◌, ℕ, zero, suc, ◌+◌, ◌<◌, List, [], ◌∷◌, length, slice_index_or, Option, Some, None, refl, ap, sym, ◌∙◌, arith}
use Rattle.std.specs.Option.{option_map_or}
use Rattle.std.specs.Prelude.{⊤, option_map}
use Rattle.std.proofs.lemmas.List.Quantifiers.{position-Some}
use Rattle.std.specs.Str.{bytes_eq}
use Rattle.py_lines.specs.declared.tables.Keyword.{Keyword}
use Rattle.py_lines.specs.declared.tables.Keyword.TheVariants as K
use Rattle.py_lines.specs.declared.tables.Sign.TheVariants as S
use Rattle.py_lines.specs.declared.parts.TokenKind.TheVariants as T
use Rattle.py_lines.specs.Piece.{keywords, signs}
use Rattle.py_lines.specs.Tables.{keyword_number, sign_number, keyword_at, sign_at, keyword_index, sign_index}

module _ {A : Type 0} (index : A → ℕ) where
  -- the items of the list have the numbers from n on
  abbrev pub Counts : ℕ → List A → Type 0
  Counts n [] = ⊤
  Counts n (x ∷ xs) = (index x ≡ n) × Counts (n + 1) xs

  index_at : (n : ℕ) (xs : List A) (other : A) → Counts n xs → (i : ℕ) → i < length xs → index (slice_index_or xs i other) ≡ n + i
  index_at n [] other counts i within = absurd (omega (arith, within))
  index_at n (x ∷ xs) other counts zero within = let none : n ≡ n + 0 = omega arith in counts.0 ∙ none
  index_at n (x ∷ xs) other counts (suc i) within = let one : (n + 1) + i ≡ n + suc i = omega arith in index_at (n + 1) xs other counts.1 i (omega (arith, within)) ∙ one

pub keyword_back : (n : ℕ) → n < 35 → keyword_index (keyword_at n) ≡ n
keyword_back n within = let none : 0 + n ≡ n = omega arith in index_at keyword_index 0 (K.False ∷ K.None ∷ K.True ∷ K.And ∷ K.As ∷ K.Assert ∷ K.Async ∷ K.Await ∷ K.Break ∷ K.Class ∷ K.Continue ∷ K.Def ∷ K.Del ∷ K.Elif ∷ K.Else ∷ K.Except ∷ K.Finally ∷ K.For ∷ K.From ∷ K.Global ∷ K.If ∷ K.Import ∷ K.In ∷ K.Is ∷ K.Lambda ∷ K.Nonlocal ∷ K.Not ∷ K.Or ∷ K.Pass ∷ K.Raise ∷ K.Return ∷ K.Try ∷ K.While ∷ K.With ∷ K.Yield ∷ []) K.False (refl, (refl, (refl, (refl, (refl, (refl, (refl, (refl, (refl, (refl, (refl, (refl, (refl, (refl, (refl, (refl, (refl, (refl, (refl, (refl, (refl, (refl, (refl, (refl, (refl, (refl, (refl, (refl, (refl, (refl, (refl, (refl, (refl, (refl, (refl, tt))))))))))))))))))))))))))))))))))) n within ∙ none

pub sign_back : (n : ℕ) → n < 50 → sign_index (sign_at n) ≡ n
sign_back n within = let none : 0 + n ≡ n = omega arith in index_at sign_index 0 (S.OpenRound ∷ S.CloseRound ∷ S.OpenSquare ∷ S.CloseSquare ∷ S.OpenCurly ∷ S.CloseCurly ∷ S.Comma ∷ S.Colon ∷ S.Dot ∷ S.Assign ∷ S.Plus ∷ S.Minus ∷ S.Star ∷ S.FloorDivide ∷ S.Percent ∷ S.Equal ∷ S.NotEqual ∷ S.Less ∷ S.LessEqual ∷ S.Greater ∷ S.GreaterEqual ∷ S.PlusAssign ∷ S.MinusAssign ∷ S.StarAssign ∷ S.FloorDivideAssign ∷ S.PercentAssign ∷ S.Semicolon ∷ S.At ∷ S.Slash ∷ S.Power ∷ S.And ∷ S.Or ∷ S.Xor ∷ S.Tilde ∷ S.ShiftLeft ∷ S.ShiftRight ∷ S.Walrus ∷ S.Arrow ∷ S.SemicolonAssign ∷ S.AtAssign ∷ S.SlashAssign ∷ S.PowerAssign ∷ S.AndAssign ∷ S.OrAssign ∷ S.XorAssign ∷ S.TildeAssign ∷ S.ShiftLeftAssign ∷ S.ShiftRightAssign ∷ S.WalrusAssign ∷ S.ArrowAssign ∷ []) S.OpenRound (refl, (refl, (refl, (refl, (refl, (refl, (refl, (refl, (refl, (refl, (refl, (refl, (refl, (refl, (refl, (refl, (refl, (refl, (refl, (refl, (refl, (refl, (refl, (refl, (refl, (refl, (refl, (refl, (refl, (refl, (refl, (refl, (refl, (refl, (refl, (refl, (refl, (refl, (refl, (refl, (refl, (refl, (refl, (refl, (refl, (refl, (refl, (refl, (refl, (refl, tt)))))))))))))))))))))))))))))))))))))))))))))))))) n within ∙ none

pub sign_within : (bytes : List ℕ) (n : ℕ) → sign_number bytes ≡ Some n → sign_index (sign_at n) ≡ n
sign_within bytes n is = sign_back n (position-Some (λ other. bytes_eq other bytes) signs n [] is).0

pub keyword_within : (word : List ℕ) (n : ℕ) → keyword_number word ≡ Some n → keyword_index (keyword_at n) ≡ n
keyword_within word n is = keyword_back n (position-Some (λ other. bytes_eq other word) keywords n [] is).0

pub keyword_found : (word : List ℕ) (keyword : Keyword) → option_map keyword_at (keyword_number word) ≡ Some keyword → T.Keyword (keyword_index keyword) ≡ option_map_or T.Keyword (keyword_number word) (T.Word word)
keyword_found word keyword is = by (keyword_number word) refl is
  where
    same_some : (a b : Keyword) → Some a ≡ Some b → a ≡ b
    same_some a b is = cc

    by : (o : Option ℕ) → keyword_number word ≡ o → option_map keyword_at o ≡ Some keyword → T.Keyword (keyword_index keyword) ≡ option_map_or T.Keyword o (T.Word word)
    by None found is = cc
    by (Some n) found is = ap (λ k. T.Keyword (keyword_index k)) (sym (same_some (keyword_at n) keyword is)) ∙ ap T.Keyword (keyword_within word n found)
