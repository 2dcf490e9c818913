-- The numbers of keywords and signs.
use Rattle.std.specs.Prelude.{ℕ, List, [], ◌∷◌, Option, position, slice_index_or}
use Rattle.std.specs.Str.{bytes_eq}
use Rattle.py_lines.specs.declared.tables.Keyword.{Keyword}
use Rattle.py_lines.specs.declared.tables.Keyword.TheVariants as K
use Rattle.py_lines.specs.declared.tables.Sign.{Sign}
use Rattle.py_lines.specs.declared.tables.Sign.TheVariants as S
use Rattle.py_lines.specs.Piece.{keywords, signs}

abbrev pub keyword_number : List ℕ → Option ℕ
keyword_number word = position (λ other. bytes_eq other word) keywords

abbrev pub sign_number : List ℕ → Option ℕ
sign_number bytes = position (λ other. bytes_eq other bytes) signs

-- the keyword and the sign with a number, and the number of each
abbrev pub keyword_at : ℕ → Keyword
keyword_at n = slice_index_or (K.False ∷ K.None ∷ K.True ∷ K.And ∷ K.As ∷ K.Assert ∷ K.Async ∷ K.Await ∷ K.Break ∷ K.Class ∷ K.Continue ∷ K.Def ∷ K.Del ∷ K.Elif ∷ K.Else ∷ K.Except ∷ K.Finally ∷ K.For ∷ K.From ∷ K.Global ∷ K.If ∷ K.Import ∷ K.In ∷ K.Is ∷ K.Lambda ∷ K.Nonlocal ∷ K.Not ∷ K.Or ∷ K.Pass ∷ K.Raise ∷ K.Return ∷ K.Try ∷ K.While ∷ K.With ∷ K.Yield ∷ []) n K.False

abbrev pub sign_at : ℕ → Sign
sign_at n = slice_index_or (S.OpenRound ∷ S.CloseRound ∷ S.OpenSquare ∷ S.CloseSquare ∷ S.OpenCurly ∷ S.CloseCurly ∷ S.Comma ∷ S.Colon ∷ S.Dot ∷ S.Assign ∷ S.Plus ∷ S.Minus ∷ S.Star ∷ S.FloorDivide ∷ S.Percent ∷ S.Equal ∷ S.NotEqual ∷ S.Less ∷ S.LessEqual ∷ S.Greater ∷ S.GreaterEqual ∷ S.PlusAssign ∷ S.MinusAssign ∷ S.StarAssign ∷ S.FloorDivideAssign ∷ S.PercentAssign ∷ S.Semicolon ∷ S.At ∷ S.Slash ∷ S.Power ∷ S.And ∷ S.Or ∷ S.Xor ∷ S.Tilde ∷ S.ShiftLeft ∷ S.ShiftRight ∷ S.Walrus ∷ S.Arrow ∷ S.SemicolonAssign ∷ S.AtAssign ∷ S.SlashAssign ∷ S.PowerAssign ∷ S.AndAssign ∷ S.OrAssign ∷ S.XorAssign ∷ S.TildeAssign ∷ S.ShiftLeftAssign ∷ S.ShiftRightAssign ∷ S.WalrusAssign ∷ S.ArrowAssign ∷ []) n S.OpenRound

abbrev pub keyword_index : Keyword → ℕ
keyword_index K.False = 0
keyword_index K.None = 1
keyword_index K.True = 2
keyword_index K.And = 3
keyword_index K.As = 4
keyword_index K.Assert = 5
keyword_index K.Async = 6
keyword_index K.Await = 7
keyword_index K.Break = 8
keyword_index K.Class = 9
keyword_index K.Continue = 10
keyword_index K.Def = 11
keyword_index K.Del = 12
keyword_index K.Elif = 13
keyword_index K.Else = 14
keyword_index K.Except = 15
keyword_index K.Finally = 16
keyword_index K.For = 17
keyword_index K.From = 18
keyword_index K.Global = 19
keyword_index K.If = 20
keyword_index K.Import = 21
keyword_index K.In = 22
keyword_index K.Is = 23
keyword_index K.Lambda = 24
keyword_index K.Nonlocal = 25
keyword_index K.Not = 26
keyword_index K.Or = 27
keyword_index K.Pass = 28
keyword_index K.Raise = 29
keyword_index K.Return = 30
keyword_index K.Try = 31
keyword_index K.While = 32
keyword_index K.With = 33
keyword_index K.Yield = 34

abbrev pub sign_index : Sign → ℕ
sign_index S.OpenRound = 0
sign_index S.CloseRound = 1
sign_index S.OpenSquare = 2
sign_index S.CloseSquare = 3
sign_index S.OpenCurly = 4
sign_index S.CloseCurly = 5
sign_index S.Comma = 6
sign_index S.Colon = 7
sign_index S.Dot = 8
sign_index S.Assign = 9
sign_index S.Plus = 10
sign_index S.Minus = 11
sign_index S.Star = 12
sign_index S.FloorDivide = 13
sign_index S.Percent = 14
sign_index S.Equal = 15
sign_index S.NotEqual = 16
sign_index S.Less = 17
sign_index S.LessEqual = 18
sign_index S.Greater = 19
sign_index S.GreaterEqual = 20
sign_index S.PlusAssign = 21
sign_index S.MinusAssign = 22
sign_index S.StarAssign = 23
sign_index S.FloorDivideAssign = 24
sign_index S.PercentAssign = 25
sign_index S.Semicolon = 26
sign_index S.At = 27
sign_index S.Slash = 28
sign_index S.Power = 29
sign_index S.And = 30
sign_index S.Or = 31
sign_index S.Xor = 32
sign_index S.Tilde = 33
sign_index S.ShiftLeft = 34
sign_index S.ShiftRight = 35
sign_index S.Walrus = 36
sign_index S.Arrow = 37
sign_index S.SemicolonAssign = 38
sign_index S.AtAssign = 39
sign_index S.SlashAssign = 40
sign_index S.PowerAssign = 41
sign_index S.AndAssign = 42
sign_index S.OrAssign = 43
sign_index S.XorAssign = 44
sign_index S.TildeAssign = 45
sign_index S.ShiftLeftAssign = 46
sign_index S.ShiftRightAssign = 47
sign_index S.WalrusAssign = 48
sign_index S.ArrowAssign = 49
