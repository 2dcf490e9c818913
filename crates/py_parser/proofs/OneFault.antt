-- Two faults of the same lines are one, and a script has none.
use Rattle.std.proofs.Common.{◌≡◌, inl, inr, ◌⊎◌, ℕ, ◌<◌, List, [], ◌∷◌, ◌++◌, ap, sym, ◌∙◌, subst, arith}
use Rattle.std.specs.Prelude.{⊤}
use Rattle.py_lines.specs.declared.parts.Line.{Line}
use Rattle.py_tree.specs.Tree.{ScriptTree}
use Rattle.py_parser.specs.declared.fault.ParseFault.{ParseFault}
use Rattle.py_parser.specs.declared.fault.ParseFault.TheVariants.{Unexpected, Unsupported, BadIndent, TooDeep, TooMany, Memory}
use Rattle.py_grammar.specs.Limits.{profile}
use Rattle.py_parser.specs.Script.{IsScript}
use Rattle.py_parser.specs.Faults.{Point, at_token, at_end, at_line, below, no_line, names, Asks, NoneWithin, NoneStandsAt, MayFollow, MayStandAt, IsPassBefore, IsHandler, InColumn, LacksStatement, FirstFault, ArePlacedApart, ArePlaced}
use Rattle.py_parser.proofs.ScriptHeads.{own, own_fine}
use Rattle.py_parser.proofs.PassedLimits.{Laws}
use Rattle.py_parser.proofs.SameLine.{There, same_line}
use Rattle.py_parser.proofs.EarlierFaults.{same_front}
use Rattle.py_parser.proofs.NoHandler.{lacks_no_handler}

-- ---- where no token shows it

-- with these points the lines behind show the fault by their indentation, or by being none
below_below : (front behind : List Line) (a b : ParseFault) (i j : ℕ) → names front behind (below i) a → names front behind (below j) b → a ≡ b
below_below front behind (BadIndent p) (BadIndent q) i j one other = ap BadIndent (one ∙ sym other)
below_below front behind (BadIndent p) (Unexpected q) i j one other = absurd other
below_below front behind (BadIndent p) (Unsupported q) i j one other = absurd other
below_below front behind (BadIndent p) (TooDeep q) i j one other = absurd other
below_below front behind (BadIndent p) (TooMany q) i j one other = absurd other
below_below front behind (BadIndent p) Memory i j one other = absurd other
below_below front behind (Unexpected p) b i j one other = absurd one
below_below front behind (Unsupported p) b i j one other = absurd one
below_below front behind (TooDeep p) b i j one other = absurd one
below_below front behind (TooMany p) b i j one other = absurd one
below_below front behind Memory b i j one other = absurd one

line_line : (front behind : List Line) (a b : ParseFault) (i j : ℕ) → names front behind (at_line i) a → names front behind (at_line j) b → a ≡ b
line_line front behind (BadIndent p) (BadIndent q) i j one other = ap BadIndent (one ∙ sym other)
line_line front behind (BadIndent p) (Unexpected q) i j one other = absurd other
line_line front behind (BadIndent p) (Unsupported q) i j one other = absurd other
line_line front behind (BadIndent p) (TooDeep q) i j one other = absurd other
line_line front behind (BadIndent p) (TooMany q) i j one other = absurd other
line_line front behind (BadIndent p) Memory i j one other = absurd other
line_line front behind (Unexpected p) b i j one other = absurd one
line_line front behind (Unsupported p) b i j one other = absurd one
line_line front behind (TooDeep p) b i j one other = absurd one
line_line front behind (TooMany p) b i j one other = absurd one
line_line front behind Memory b i j one other = absurd one

last_last : (front behind : List Line) (a b : ParseFault) → names front behind no_line a → names front behind no_line b → a ≡ b
last_last front behind (Unexpected p) (Unexpected q) one other = ap Unexpected (one ∙ sym other)
last_last front behind (Unexpected p) (BadIndent q) one other = absurd other
last_last front behind (Unexpected p) (Unsupported q) one other = absurd other
last_last front behind (Unexpected p) (TooDeep q) one other = absurd other
last_last front behind (Unexpected p) (TooMany q) one other = absurd other
last_last front behind (Unexpected p) Memory one other = absurd other
last_last front behind (BadIndent p) b one other = absurd one
last_last front behind (Unsupported p) b one other = absurd one
last_last front behind (TooDeep p) b one other = absurd one
last_last front behind (TooMany p) b one other = absurd one
last_last front behind Memory b one other = absurd one

-- where a suite has no statement yet, no line may stand at a lower indentation, and no handler is missing
below_alone : (front : List Line) (d i : ℕ) → LacksStatement d front → (NoneWithin (λ q. ⊤) front (below d)) → i < d → MayStandAt i front → ⊥
below_alone front d i k none less (inl m) = none (own m.some) tt m.some m.fits (own_fine m.some m.stands) (m.line ∷ m.more) (let at = m.line_is in omega (arith, at, less)) m.lines_are
below_alone front d i k none less (inr (o, m)) = lacks_no_handler d front k m.some m.line m.more m.fits m.stands m.lines_are m.line_is

-- a line that may not stand at its indentation
below_line : (front : List Line) (d i : ℕ) → LacksStatement d front → (NoneWithin (λ q. ⊤) front (below d)) → i < d → NoneStandsAt i front → ⊥
below_line front d i k none less c = by c.complete
  where
    by : MayFollow (IsPassBefore i) front ⊎ MayFollow IsHandler front → ⊥
    by (inl m) = none (own m.some) tt m.some m.fits (own_fine m.some m.stands) (m.line ∷ m.more) (let low = m.line_is.0 in omega (arith, low, less)) m.lines_are
    by (inr m) = lacks_no_handler d front k m.some m.line m.more m.fits m.stands m.lines_are m.line_is

line_alone : (front : List Line) (i : ℕ) → NoneStandsAt i front → MayStandAt i front → ⊥
line_alone front i c (inl m) = c.none (record { some = m.some; fits = m.fits; line = m.line; more = m.more; lines_are = m.lines_are; line_is = m.line_is })
line_alone front i c (inr (o, m)) = c.no_suite o

-- where a handler may follow, no suite is without a statement
no_handler : (front : List Line) (d : ℕ) → LacksStatement d front → MayFollow IsHandler front → ⊥
no_handler front d k m = lacks_no_handler d front k m.some m.line m.more m.fits m.stands m.lines_are m.line_is

-- where a line that is indented enough is missing, there is none whatever the limits
below_none : (front behind : List Line) (fault : ParseFault) (i : ℕ) → names front behind (below i) fault → NoneWithin (Asks fault) front (below i) → NoneWithin (λ q. ⊤) front (below i)
below_none front behind (BadIndent p) i named none = none
below_none front behind (Unexpected p) i named none = absurd named
below_none front behind (Unsupported p) i named none = absurd named
below_none front behind (TooDeep p) i named none = absurd named
below_none front behind (TooMany p) i named none = absurd named
below_none front behind Memory i named none = absurd named

-- ---- behind the same lines

-- a fault that is shown behind these lines, by what stands behind them
record Told (front behind : List Line) (fault : ParseFault) : Type 0 where
  point : Point
  column : InColumn front point
  there : There front behind fault point

told : (lines : List Line) (fault : ParseFault) (f : FirstFault lines fault) → Told f.front f.behind fault
told lines fault f = record {
  point = f.point;
  column = f.column;
  there = record { shown = f.shown; named = f.named; limit = f.limit; begins = f.begins; reads = f.reads; order = f.order; passes = f.passes; none = f.none };
}

-- no line stands behind them
at_no_line : (front : List Line) (a b : ParseFault) (p q : Point) → InColumn front p → InColumn front q → There front [] a p → There front [] b q → a ≡ b
at_no_line front a b (below i) (below j) cp cq f g = below_below front [] a b i j f.named g.named
at_no_line front a b (below i) no_line cp cq f g = absurd (no_handler front i cp.1 cq)
at_no_line front a b no_line (below j) cp cq f g = absurd (no_handler front j cq.1 cp)
at_no_line front a b no_line no_line cp cq f g = last_last front [] a b f.named g.named
at_no_line front a b (at_token i before t) q cp cq f g = absurd f.shown
at_no_line front a b (at_end i tokens) q cp cq f g = absurd f.shown
at_no_line front a b (at_line i) q cp cq f g = absurd f.shown
at_no_line front a b p (at_token j before t) cp cq f g = absurd g.shown
at_no_line front a b p (at_end j tokens) cp cq f g = absurd g.shown
at_no_line front a b p (at_line j) cp cq f g = absurd g.shown

module _ (front : List Line) (line : Line) (more : List Line) where
  lower : (i j : ℕ) → line.indent < i → line.indent ≡ j → j < i
  lower i j less same = omega (arith, less, same)

  -- a line that is indented enough is missing, or a line stands where none may
  below_and_line : (a b : ParseFault) (i j : ℕ) → InColumn front (below i) → NoneStandsAt j front → There front (line ∷ more) a (below i) → There front (line ∷ more) b (at_line j) → ⊥
  below_and_line a b i j cp cq f g = below_line front i j cp.1 (below_none front (line ∷ more) a i f.named f.none) (lower i j f.shown g.shown) cq

  below_and_some : (a : ParseFault) (i j : ℕ) → InColumn front (below i) → MayStandAt j front → There front (line ∷ more) a (below i) → line.indent ≡ j → ⊥
  below_and_some a i j cp cq f same = below_alone front i j cp.1 (below_none front (line ∷ more) a i f.named f.none) (lower i j f.shown same) cq

  line_and_some : (i j : ℕ) → NoneStandsAt i front → MayStandAt j front → line.indent ≡ i → line.indent ≡ j → ⊥
  line_and_some i j cp cq one other = line_alone front i cp (subst (λ k. MayStandAt k front) (sym other ∙ one) cq)

  -- a line stands behind them
  at_some_line : Laws → (line.tokens ≡ [] → ⊥) → ArePlacedApart line.tokens → (a b : ParseFault) (p q : Point) → InColumn front p → InColumn front q → There front (line ∷ more) a p → There front (line ∷ more) b q → a ≡ b
  at_some_line laws some apart a b no_line q cp cq f g = absurd f.shown
  at_some_line laws some apart a b p no_line cp cq f g = absurd g.shown
  at_some_line laws some apart a b (below i) (below j) cp cq f g = below_below front (line ∷ more) a b i j f.named g.named
  at_some_line laws some apart a b (below i) (at_line j) cp cq f g = absurd (below_and_line a b i j cp cq f g)
  at_some_line laws some apart a b (below i) (at_token j ahead u) cp cq f g = absurd (below_and_some a i j cp cq f g.shown.0)
  at_some_line laws some apart a b (below i) (at_end j tokens) cp cq f g = absurd (below_and_some a i j cp cq f g.shown.0)
  at_some_line laws some apart a b (at_line i) (below j) cp cq f g = absurd (below_and_line b a j i cq cp g f)
  at_some_line laws some apart a b (at_token i before t) (below j) cp cq f g = absurd (below_and_some b j i cq cp g f.shown.0)
  at_some_line laws some apart a b (at_end i tokens) (below j) cp cq f g = absurd (below_and_some b j i cq cp g f.shown.0)
  at_some_line laws some apart a b (at_line i) (at_line j) cp cq f g = line_line front (line ∷ more) a b i j f.named g.named
  at_some_line laws some apart a b (at_line i) (at_token j ahead u) cp cq f g = absurd (line_and_some i j cp cq f.shown g.shown.0)
  at_some_line laws some apart a b (at_line i) (at_end j tokens) cp cq f g = absurd (line_and_some i j cp cq f.shown g.shown.0)
  at_some_line laws some apart a b (at_token i before t) (at_line j) cp cq f g = absurd (line_and_some j i cq cp g.shown f.shown.0)
  at_some_line laws some apart a b (at_end i tokens) (at_line j) cp cq f g = absurd (line_and_some j i cq cp g.shown f.shown.0)
  at_some_line laws some apart a b (at_token i before t) (at_token j ahead u) cp cq f g = same_line laws front line more some apart a b (at_token i before t) (at_token j ahead u) tt tt f g
  at_some_line laws some apart a b (at_token i before t) (at_end j tokens) cp cq f g = same_line laws front line more some apart a b (at_token i before t) (at_end j tokens) tt tt f g
  at_some_line laws some apart a b (at_end i others) (at_token j ahead u) cp cq f g = same_line laws front line more some apart a b (at_end i others) (at_token j ahead u) tt tt f g
  at_some_line laws some apart a b (at_end i others) (at_end j tokens) cp cq f g = same_line laws front line more some apart a b (at_end i others) (at_end j tokens) tt tt f g

-- the tokens of each line are placed
placed_at : (front : List Line) (line : Line) (more : List Line) → ArePlaced (front ++ line ∷ more) → (line.tokens ≡ [] → ⊥) × ArePlacedApart line.tokens
placed_at [] line more placed = (placed.0, placed.1)
placed_at (first ∷ front) line more placed = placed_at front line more placed.2

one_told : Laws → (front behind : List Line) (a b : ParseFault) → ArePlaced (front ++ behind) → Told front behind a → Told front behind b → a ≡ b
one_told laws front [] a b placed f g = at_no_line front a b f.point g.point f.column g.column f.there g.there
one_told laws front (line ∷ more) a b placed f g =
    let here = placed_at front line more placed in
    at_some_line front line more laws here.0 here.1 a b f.point g.point f.column g.column f.there g.there

-- ---- the laws

-- lines have one fault
pub one_of_lines : Laws → (lines : List Line) (a b : ParseFault) → ArePlaced lines → FirstFault lines a → FirstFault lines b → a ≡ b
one_of_lines laws lines a b placed f g =
    let same = same_front laws lines a b f g in
    one_told laws f.front f.behind a b (subst ArePlaced f.lines_are placed) (told lines a f)
    (subst (λ behind. Told f.front behind b) (sym same.1) (subst (λ front. Told front g.behind b) (sym same.0) (told lines b g)))

-- the limits of this profile are those that each fault asks for
profile_asks : (fault : ParseFault) → Asks fault profile
profile_asks (TooDeep at) = (omega arith, omega arith)
profile_asks (TooMany at) = omega arith
profile_asks (Unexpected at) = tt
profile_asks (Unsupported at) = tt
profile_asks (BadIndent at) = tt
profile_asks Memory = tt

-- a script has none
pub no_script : (lines : List Line) (tree : ScriptTree) (a : ParseFault) → IsScript lines tree → FirstFault lines a → ⊥
no_script lines tree a s f = f.none profile (profile_asks a) s.script.grammar.written s.script.grammar.fits (record { stands = s.script.stands; within = s.within }) f.behind f.shown (sym s.script.grammar.lines_are ∙ f.lines_are)
