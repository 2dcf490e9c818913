-- What begins before a fault on a line, and goes on past a token at which another could be shown.
use Rattle.std.proofs.Common.{◌≡◌, inl, inr, ◌⊎◌, ℕ, true, List, [], ◌∷◌, ◌++◌, refl, ap, sym, ◌∙◌, subst, append_assoc, append-nil, codes}
use Rattle.prov_base.specs.declared.place.Pos.{Pos}
use Rattle.py_lines.specs.declared.parts.Line.{Line}
use Rattle.py_lines.specs.declared.parts.Token.{Token}
use Rattle.py_lines.specs.declared.parts.TokenKind.TheVariants.{Keyword}
use Rattle.py_expressions.specs.Concrete.{Spot}
use Rattle.py_expressions.specs.Tokens.{keyword, token, word}
use Rattle.py_grammar.specs.StatementTokens.{simple_tokens}
use Rattle.py_grammar.specs.LineReader.{Head, head_tokens}
use Rattle.py_grammar.specs.ParsedHead.{head_lies, del_name}
use Rattle.py_grammar.specs.Written.{Script}
use Rattle.py_grammar.specs.Grammar.{script_lines, FitsScript}
use Rattle.py_grammar.specs.WellPlaced.{script_stands}
use Rattle.py_parser.specs.Faults.{at_end, Said, low_elsewhere, first_deep_at, LiesSaid, IsLow, ReadsBehindDel, ReadsBehindFor, del_spot, Opens, OpensDel, OpensFor, GoesOnWith, BeginsScript}

-- ---- two ways to cut the tokens of a line

-- the tokens before one are some of those before another, which go on with this one
pub record Ahead (front other behind further : List Token) : Type 0 where
  pub token : Token
  pub between : List Token
  pub front_is : other ≡ front ++ token ∷ between
  pub behind_is : behind ≡ token ∷ (between ++ further)

pub one_token : (a b : Token) (x y : List Token) → a ∷ x ≡ b ∷ y → a ≡ b
one_token a b x y is = cc

pub same_rest : (a b : Token) (x y : List Token) → a ∷ x ≡ b ∷ y → x ≡ y
same_rest a b x y is = cc

pub two_cuts : (a b x y : List Token) → a ++ x ≡ b ++ y → ((a ≡ b) × (x ≡ y)) ⊎ (Ahead a b x y ⊎ Ahead b a y x)
two_cuts [] [] x y is = inl (refl, is)
two_cuts [] (u ∷ b) x y is = inr (inl (record { token = u; between = b; front_is = refl; behind_is = is }))
two_cuts (t ∷ a) [] x y is = inr (inr (record { token = t; between = a; front_is = refl; behind_is = sym is }))
two_cuts (t ∷ a) (u ∷ b) x y is = by (two_cuts a b x y (same_rest t u (a ++ x) (b ++ y) is))
  where
    one : t ≡ u
    one = one_token t u (a ++ x) (b ++ y) is

    by : ((a ≡ b) × (x ≡ y)) ⊎ (Ahead a b x y ⊎ Ahead b a y x) → (((t ∷ a) ≡ (u ∷ b)) × (x ≡ y)) ⊎ (Ahead (t ∷ a) (u ∷ b) x y ⊎ Ahead (u ∷ b) (t ∷ a) y x)
    by (inl same) = inl (ap (λ (e : Token). e ∷ a) one ∙ ap (λ (ts : List Token). u ∷ ts) same.0, same.1)
    by (inr (inl e)) = inr (inl (record { token = e.token; between = e.between; front_is = ap (λ (ts : List Token). u ∷ ts) e.front_is ∙ ap (λ (f : Token). f ∷ (a ++ e.token ∷ e.between)) (sym one); behind_is = e.behind_is }))
    by (inr (inr e)) = inr (inr (record { token = e.token; between = e.between; front_is = ap (λ (ts : List Token). t ∷ ts) e.front_is ∙ ap (λ (f : Token). f ∷ (b ++ e.token ∷ e.between)) one; behind_is = e.behind_is }))

-- ---- what has begun goes on past a token

-- a line of a script goes on so
pub record LineOf (so : (Pos → ℕ) → List Token → Type 0) (front : List Line) (indent : ℕ) (tokens : List Token) : Type 0 where
  pub some : Script
  pub fits : FitsScript some
  pub stands : script_stands some ≡ true
  pub line : Line
  pub more : List Line
  pub lines_are : script_lines some ≡ front ++ line ∷ more
  pub indent_is : line.indent ≡ indent
  pub head : Head
  pub line_is : line.tokens ≡ head_tokens head
  pub rest : List Token
  pub tokens_are : head_tokens head ≡ tokens ++ rest
  pub lies_so : (w : List Token) × so (head_lies head) w

-- behind `del` these tokens go on
pub record DelOf (said : Said) (before behind : List Token) : Type 0 where
  pub opened : List Token
  pub spot : Spot
  pub inside : List Token
  pub front_is : before ≡ opened ++ token (Keyword 12) spot ∷ inside
  pub begins : ReadsBehindDel said (token (Keyword 12) spot ∷ inside ++ behind)

-- and behind `for`
pub record ForOf (said : Said) (before behind : List Token) : Type 0 where
  pub spot : Spot
  pub inside : List Token
  pub front_is : before ≡ token (Keyword 17) spot ∷ inside
  pub begins : ReadsBehindFor said (inside ++ behind)

-- what begins with the tokens before one, and with that one and these
abbrev pub Past : Said → List Line → ℕ → List Token → Token → List Token → Type 0
Past said front indent before t between =
    LineOf (LiesSaid said (before ++ t ∷ between)) front indent (before ++ t ∷ [])
    ⊎ (LineOf IsLow front indent (before ++ t ∷ []) ⊎ (DelOf said before (t ∷ between) ⊎ ForOf said before (t ∷ between)))

begun_parts : (said : Said) (indent : ℕ) (before : List Token) (t : Token) (between : List Token) (more : List Line) → GoesOnWith said indent (before ++ t ∷ between) more
    → Opens (LiesSaid said (before ++ t ∷ between)) indent (before ++ t ∷ between) more ⊎ (OpensDel said indent (before ++ t ∷ between) more ⊎ OpensFor said indent (before ++ t ∷ between) more)
begun_parts said indent [] t between more goes = goes
begun_parts said indent (u ∷ before) t between more goes = goes

line_past : (so : (Pos → ℕ) → List Token → Type 0) (front : List Line) (indent : ℕ) (before : List Token) (t : Token) (between tokens : List Token) (more : List Line) (s : Script) → FitsScript s → script_stands s ≡ true → script_lines s ≡ front ++ more
    → tokens ≡ before ++ t ∷ between → Opens so indent tokens more → LineOf so front indent (before ++ t ∷ [])
line_past so front indent before t between tokens [] s fits stands lines same opens = absurd opens
line_past so front indent before t between tokens (line ∷ more) s fits stands lines same opens = record {
  some = s;
  fits = fits;
  stands = stands;
  line = line;
  more = more;
  lines_are = lines;
  indent_is = opens.0;
  head = opens.1.head;
  line_is = opens.1.line_is;
  rest = between ++ opens.1.more;
  tokens_are = opens.1.tokens_are ∙ ap (λ ts. ts ++ opens.1.more) same ∙ append_assoc before (t ∷ between) opens.1.more ∙ sym (append_assoc before (t ∷ []) (between ++ opens.1.more));
  lies_so = (opens.1.more, opens.1.lies_so);
}

del_first : (said : Said) (d : Token) (inside : List Token) (begins : ReadsBehindDel said (d ∷ inside)) → d ≡ token (Keyword 12) (del_spot said (d ∷ inside) begins)
del_first (low_elsewhere at) d inside begins = sym (one_token _ d _ _ begins.tokens_are)
del_first (first_deep_at at) d inside begins = sym (one_token _ d _ _ begins.tokens_are)

del_past : (said : Said) (front : List Line) (indent : ℕ) (before : List Token) (t : Token) (between : List Token) (more : List Line) (s : Script) → FitsScript s → script_stands s ≡ true → script_lines s ≡ front ++ more
    → OpensDel said indent (before ++ t ∷ between) more → LineOf IsLow front indent (before ++ t ∷ []) ⊎ DelOf said before (t ∷ between)
del_past said front indent before t between more s fits stands lines o = by o.inside o.begins o.tokens_are o.spot_is
  where
    from : (behind : List Token) → o.opened ≡ before ++ t ∷ behind → LineOf IsLow front indent (before ++ t ∷ [])
    from behind same = line_past IsLow front indent before t (behind ++ simple_tokens (del_name o.spot)) (o.opened ++ simple_tokens (del_name o.spot)) more s fits stands lines
        (ap (λ ts. ts ++ simple_tokens (del_name o.spot)) same ∙ append_assoc before (t ∷ behind) (simple_tokens (del_name o.spot))) o.opens

    by : (inside : List Token) (begins : ReadsBehindDel said inside) → before ++ t ∷ between ≡ o.opened ++ inside → del_spot said inside begins ≡ o.spot → LineOf IsLow front indent (before ++ t ∷ []) ⊎ DelOf said before (t ∷ between)
    by [] begins is spot_is = inl (from between (sym (is ∙ append-nil o.opened)))
    by (d ∷ inside) begins is spot_is = cut (two_cuts before o.opened (t ∷ between) (d ∷ inside) is)
      where
        first : d ≡ token (Keyword 12) o.spot
        first = del_first said d inside begins ∙ ap (λ at. token (Keyword 12) at) spot_is

        cut : ((before ≡ o.opened) × (t ∷ between ≡ d ∷ inside)) ⊎ (Ahead before o.opened (t ∷ between) (d ∷ inside) ⊎ Ahead o.opened before (d ∷ inside) (t ∷ between)) → LineOf IsLow front indent (before ++ t ∷ []) ⊎ DelOf said before (t ∷ between)
        cut (inl same) = inl (line_past IsLow front indent before t (word (codes "name") o.spot) (o.opened ++ simple_tokens (del_name o.spot)) more s fits stands lines
            (ap (λ ts. ts ++ simple_tokens (del_name o.spot)) (sym same.0) ∙ ap (λ (u : Token). before ++ u ∷ word (codes "name") o.spot) (sym (one_token t d between inside same.1 ∙ first))) o.opens)
        cut (inr (inl e)) = inl (from e.between (e.front_is ∙ ap (λ (u : Token). before ++ u ∷ e.between) (sym (one_token t e.token between (e.between ++ d ∷ inside) e.behind_is))))
        cut (inr (inr e)) = inr (record {
          opened = o.opened;
          spot = o.spot;
          inside = e.between;
          front_is = e.front_is ∙ ap (λ (u : Token). o.opened ++ u ∷ e.between) (sym (one_token d e.token inside (e.between ++ t ∷ between) e.behind_is) ∙ first);
          begins = subst (ReadsBehindDel said) (ap (λ (u : Token). u ∷ inside) first ∙ ap (λ (ts : List Token). token (Keyword 12) o.spot ∷ ts) (same_rest d e.token inside (e.between ++ t ∷ between) e.behind_is)) begins;
        })

for_past : (said : Said) (front : List Line) (indent : ℕ) (before : List Token) (t : Token) (between : List Token) (more : List Line) (s : Script) → FitsScript s → script_stands s ≡ true → script_lines s ≡ front ++ more
    → OpensFor said indent (before ++ t ∷ between) more → LineOf IsLow front indent (before ++ t ∷ []) ⊎ ForOf said before (t ∷ between)
for_past said front indent [] t between more s fits stands lines o =
    inl (line_past IsLow front indent [] t [] (keyword (codes "for") o.spot) more s fits stands lines (ap (λ (u : Token). u ∷ []) (sym (one_token t (token (Keyword 17) o.spot) between o.inside o.tokens_are))) o.opens)
for_past said front indent (u ∷ before) t between more s fits stands lines o = inr (record {
  spot = o.spot;
  inside = before;
  front_is = ap (λ (first : Token). first ∷ before) (one_token u (token (Keyword 17) o.spot) (before ++ t ∷ between) o.inside o.tokens_are);
  begins = subst (ReadsBehindFor said) (sym (same_rest u (token (Keyword 17) o.spot) (before ++ t ∷ between) o.inside o.tokens_are)) o.begins;
})

-- what begins with tokens goes on past each of them
pub past : (said : Said) (front : List Line) (indent : ℕ) (before : List Token) (t : Token) (between : List Token) → BeginsScript said front (at_end indent (before ++ t ∷ between)) → Past said front indent before t between
past said front indent before t between b = by (begun_parts said indent before t between b.more b.next)
  where
    by : Opens (LiesSaid said (before ++ t ∷ between)) indent (before ++ t ∷ between) b.more ⊎ (OpensDel said indent (before ++ t ∷ between) b.more ⊎ OpensFor said indent (before ++ t ∷ between) b.more) → Past said front indent before t between
    by (inl o) = inl (line_past (LiesSaid said (before ++ t ∷ between)) front indent before t between (before ++ t ∷ between) b.more b.some b.fits b.stands b.lines_are refl o)
    by (inr (inl o)) = elim (del_past said front indent before t between b.more b.some b.fits b.stands b.lines_are o) [ inl e ↦ inr (inl e) | inr e ↦ inr (inr (inl e)) ]
    by (inr (inr o)) = elim (for_past said front indent before t between b.more b.some b.fits b.stands b.lines_are o) [ inl e ↦ inr (inl e) | inr e ↦ inr (inr (inr e)) ]
