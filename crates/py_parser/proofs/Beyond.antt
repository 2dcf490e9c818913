-- What stands in a suite that lies too deep: no statement within 50 suites, none that is one too many, and nothing else.
use Rattle.std.proofs.Common.{◌≡◌, inl, ℕ, ◌+◌, ◌<◌, ◌≤◌, suc, nat_le, Bool, true, false, ◌&&◌, List, [], ◌∷◌, ◌++◌, length, codes, None, is_none, if◌then◌else◌, refl, ap, sym, ◌∙◌, arith, leb-true}
use Rattle.std.specs.Prelude.{⊤}
use Rattle.std.proofs.lemmas.Bool.{false≢true}
use Rattle.prov_base.specs.declared.place.Pos.{Pos}
use Rattle.py_lines.specs.declared.parts.Line.{Line}
use Rattle.py_lines.specs.declared.parts.Token.{Token}
use Rattle.py_lines.specs.declared.parts.TokenKind.TheVariants.{Keyword}
use Rattle.py_expressions.specs.Tokens.{keyword, token}
use Rattle.py_grammar.specs.Written.{pass}
use Rattle.py_grammar.specs.LineReader.{Head, simple_head, if_head, elif_head, else_head, while_head, for_head, try_head, except_head, with_head, def_head, class_head, global_head, head_tokens}
use Rattle.py_grammar.specs.Layout.{IsLine}
use Rattle.py_grammar.specs.ParsedHead.{behind_in, head_stands, head_depth}
use Rattle.py_parser.specs.declared.fault.Halt.{Halt}
use Rattle.py_parser.specs.declared.fault.Halt.TheVariants.{AtToken, AtEnd, NoLine, BadIndent, TooDeep, TooMany, Memory}
use Rattle.py_grammar.specs.Limits.{Limits}
use Rattle.py_parser.specs.Grouped.{no_spot}
use Rattle.py_parser.specs.Rows.{end_rows, row, Under, nothing, block, rows_lines, under_lines, Level, is_stmt, is_def, counted, opens, inside, follows, FitsUnder, may, under_may}
use Rattle.py_parser.specs.Faults.{at_token, at_end, first_place, IsAt, few_statements, is_stmt_kind}
use Rattle.py_parser.specs.ParsedBlocks.{UnderGoesOn, UnderFollows, NoneUnder, NonePassUnder, KeepsPassUnder, Passes, RefusedUnder, BeyondFirst, BeyondSuites}
use Rattle.py_parser.proofs.RowLimits.{second, three_of}
use Rattle.py_parser.proofs.Endings.{begins_suite, goes_inside, line_next, follows_inside, follows_pass}
use Rattle.py_parser.proofs.Counting.{few_here}
use Rattle.py_parser.proofs.Ordered.{no_order}
use Rattle.py_parser.proofs.RowRefusals.{first_reads, too_deep_at}
use Rattle.py_parser.proofs.ScriptHeads.{kind_tells}

-- the first line under what begins a suite
record FirstUnder (q : Limits) (m : Level) (n : ℕ) (h : Head) (line : Line) : Type 0 where
  inner : ℕ
  head : Head
  tokens_are : line.tokens ≡ head_tokens head
  may_follow : follows (inside m h inner) head ≡ true
  may_be : may q (inside m h inner) n head ≡ true

same_token : (a b : Token) (x y : List Token) → a ∷ x ≡ b ∷ y → a ≡ b
same_token a b x y is = cc

none_there : (t : Token) (ts : List Token) → [] ≡ t ∷ ts → ⊥
none_there t ts is = cc

same_first : (a b : Line) (x y : List Line) → a ∷ x ≡ b ∷ y → a ≡ b
same_first a b x y is = cc

first_under : (q : Limits) (m : Level) (n : ℕ) (h : Head) (line : Line) (more : List Line) (under : Under) (s : List Line) → opens h ≡ true → FitsUnder m h under → under_may q m n h under ≡ true → under_lines under ++ s ≡ line ∷ more → FirstUnder q m n h line
first_under q m n h line more nothing s open_is fits may_be same = absurd (false≢true (sym fits ∙ open_is))
first_under q m n h line more (block k end_rows) s open_is fits may_be same = absurd (false≢true fits.2)
first_under q m n h line more (block k (row first g under rest)) s open_is fits may_be same = record {
  inner = k;
  head = g;
  tokens_are = ap (λ (l : Line). l.tokens) (sym (same_first first line ((under_lines under ++ rows_lines rest) ++ s) more same)) ∙ fits.2.0.tokens_are;
  may_follow = fits.2.1;
  may_be = (three_of (may q (inside m h k) n g) (under_may q (inside m h k) (n + counted g) g under) _ (second (nat_le (suc m.depth) q.suites) _ may_be)).one;
}

-- ---- where none begins

-- in a suite with no line yet, that is no `def`'s, a line begins a statement
only_stmt : (m : Level) (h : Head) (k : ℕ) (g : Head) → is_def h ≡ false → is_stmt g ≡ false → follows (inside m h k) g ≡ true → ⊥
only_stmt m h k (elif_head at test colon behind) other none may_follow = false≢true may_follow
only_stmt m h k (else_head at colon behind) other none may_follow = false≢true may_follow
only_stmt m h k (except_head at kind colon behind) other none may_follow = false≢true may_follow
only_stmt m h k (global_head at names) other none may_follow = false≢true (sym (ap (λ b. b && true) other) ∙ may_follow)
only_stmt m h k (simple_head s) other none may_follow = false≢true (sym none)
only_stmt m h k (if_head at test colon behind) other none may_follow = false≢true (sym none)
only_stmt m h k (while_head at test colon behind) other none may_follow = false≢true (sym none)
only_stmt m h k (for_head at t in_word e colon behind) other none may_follow = false≢true (sym none)
only_stmt m h k (try_head at colon behind) other none may_follow = false≢true (sym none)
only_stmt m h k (with_head at e called colon behind) other none may_follow = false≢true (sym none)
only_stmt m h k (def_head at name_at bytes opening names closing colon behind) other none may_follow = false≢true (sym none)
only_stmt m h k (class_head at name_at bytes of colon behind) other none may_follow = false≢true (sym none)

-- ---- where one is too many

few_enough : (a b c d : Bool) → (a && b && c && d) ≡ true → c ≡ true
few_enough true true c d is = by c d is
  where
    by : (c d : Bool) → (c && d) ≡ true → c ≡ true
    by true d is = refl
    by false d is = is
few_enough true false c d is = absurd (false≢true is)
few_enough false b c d is = absurd (false≢true is)

one_at_least : (n limit : ℕ) (one : Bool) (rest : ℕ) → one ≡ true → 20000 ≤ n → limit ≤ 20000 → nat_le (n + ((if one then 1 else 0) + rest)) limit ≡ true → ⊥
one_at_least n limit true rest is many most fits = omega (arith, many, most, leb-true (n + (1 + rest)) limit fits)
one_at_least n limit false rest is many most fits = false≢true is

-- no line there begins a statement with such a token
no_more : (q : Limits) (m : Level) (n : ℕ) (h : Head) (t : Token) (ts : List Token) (line : Line) → q.number ≤ 20000 → 20000 ≤ n → is_stmt_kind t.kind ≡ true → line.tokens ≡ t ∷ ts → FirstUnder q m n h line → ⊥
no_more q m n h t ts line most many is tokens f =
    one_at_least n q.number (is_stmt f.head) (if is_none (behind_in f.head) then 0 else 1) (sym (kind_tells f.head t ts (sym f.tokens_are ∙ tokens)) ∙ is) many most
    (few_enough (head_stands (inside m h f.inner).context (inside m h f.inner).given f.head) (nat_le (head_depth f.head) q.height) (nat_le (n + counted f.head) q.number) _ f.may_be)

abbrev pass_token : Token
pass_token = token (Keyword 28) no_spot

-- ---- what is answered

module _ (cs : List ℕ) (m : Level) (n : ℕ) (h : Head) (at : Pos) (line : Line) (lines : List Line) (open_is : opens h ≡ true) (deeper : m.indent < line.indent) (within : m.depth ≤ 50) (few : n ≤ 20000) where
  next : UnderGoesOn m n h (IsAt line.indent) []
  next = goes_inside m n h line.indent (IsAt line.indent) [] open_is deeper within (line_next (inside m h line.indent) n (λ lacks. absurd (false≢true lacks)))

  none_begins : (t : Token) (ts : List Token) (lines_left left : ℕ) → line.tokens ≡ t ∷ ts → is_stmt_kind t.kind ≡ false → is_def h ≡ false → lines_left ≡ length lines → left ≡ length ts → RefusedUnder cs m n h at (line ∷ lines) (AtToken lines_left left)
  none_begins t ts lines_left left is none other lines_is left_is = record {
    front = [];
    behind = line ∷ lines;
    point = at_token line.indent [] t;
    lines_are = refl;
    shown = (refl, record { more = ts; tokens_are = is });
    marked = (lines_is, let counted_all = ap length is in omega (arith, counted_all, left_is));
    limit = tt;
    placed = inl next;
    begins = λ place. begins_suite m h (at_token line.indent [] t) open_is refl;
    reads = first_reads None (at_token line.indent [] t) refl;
    few = few_here n few;
    shallow = inl refl;
    order = no_order (NonePassUnder m n h []) (KeepsPassUnder m n h []) line.indent;
    passes = λ stmt. absurd (false≢true (sym none ∙ stmt));
    none = none_so;
  }
    where
      none_so : NoneUnder (λ q. ⊤) m n h [] (at_token line.indent [] t)
      none_so q asks [] under s shows_it fits may_be edge same = absurd shows_it
      none_so q asks (other_line ∷ more) under s shows_it fits may_be edge same =
          let f = first_under q m n h other_line more under s open_is fits may_be same in
          only_stmt m h f.inner f.head other (sym (kind_tells f.head t shows_it.1.more (sym f.tokens_are ∙ shows_it.1.tokens_are)) ∙ none) f.may_follow

  one_more : (t : Token) (ts : List Token) (place : Pos) → line.tokens ≡ t ∷ ts → is_stmt_kind t.kind ≡ true → 20000 ≤ n → place ≡ t.at → RefusedUnder cs m n h at (line ∷ lines) (TooMany place)
  one_more t ts place is begins_one many place_is = record {
    front = [];
    behind = line ∷ lines;
    point = at_token line.indent [] t;
    lines_are = refl;
    shown = (refl, record { more = ts; tokens_are = is });
    marked = place_is;
    limit = (passes, record { at = no_spot; next = simple_head (pass no_spot); next_is = refl; before = 0; counts = refl; number_is = omega (arith, many, few) }, begins_one);
    placed = inl next;
    begins = λ place. begins_suite m h (at_token line.indent [] t) open_is refl;
    reads = first_reads None (at_token line.indent [] t) refl;
    few = few_here n few;
    shallow = inl refl;
    order = no_order (NonePassUnder m n h []) (KeepsPassUnder m n h []) line.indent;
    passes = tt;
    none = none_so;
  }
    where
      none_so : NoneUnder few_statements m n h [] (at_token line.indent [] t)
      none_so q most [] under s shows_it fits may_be edge same = absurd shows_it
      none_so q most (other_line ∷ more) under s shows_it fits may_be edge same =
          no_more q m n h t shows_it.1.more other_line most many begins_one shows_it.1.tokens_are (first_under q m n h other_line more under s open_is fits may_be same)

      none_passes : NoneUnder few_statements m n h [] (at_end line.indent (keyword (codes "pass") no_spot))
      none_passes q most [] under s shows_it fits may_be edge same = absurd shows_it
      none_passes q most (other_line ∷ more) under s shows_it fits may_be edge same =
          no_more q m n h pass_token [] other_line most many refl shows_it.1 (first_under q m n h other_line more under s open_is fits may_be same)

      passes : Passes (λ is. UnderFollows m h is []) (λ d tokens. NoneUnder few_statements m n h [] (at_end d tokens)) line.indent []
      passes = record {
        at = no_spot;
        goes_on = follows_inside m h line.indent (λ other. IsLine other line.indent (keyword (codes "pass") no_spot)) [] open_is deeper
            (follows_pass (inside m h line.indent) (λ other. IsLine other line.indent (keyword (codes "pass") no_spot)) refl (record { indent_is = refl; tokens_are = refl }));
        none_so = none_passes;
      }

  pub beyond : 50 ≤ m.depth → is_def h ≡ false → (halt : Halt) → BeyondSuites n at line lines halt → RefusedUnder cs m n h at (line ∷ lines) halt
  beyond deep other halt why = by line.tokens refl halt why
    where
      by : (ts : List Token) → line.tokens ≡ ts → (halt : Halt) → BeyondFirst n at ts lines halt → RefusedUnder cs m n h at (line ∷ lines) halt
      by [] is (TooDeep place) why = too_deep_at cs m n h at place line lines open_is deeper within few deep (why ∙ ap (first_place at) (sym is)) (λ t ts there. absurd (none_there t ts (sym is ∙ there)))
      by (t ∷ ts) is (TooDeep place) why = too_deep_at cs m n h at place line lines open_is deeper within few deep (why.0 ∙ ap (first_place at) (sym is))
          (λ u us there. (sym (ap (λ (v : Token). is_stmt_kind v.kind) (same_token t u ts us (sym is ∙ there))) ∙ why.1, why.2))
      by (t ∷ ts) is (TooMany place) why = one_more t ts place is why.0 why.1 why.2
      by (t ∷ ts) is (AtToken lines_left left) why = none_begins t ts lines_left left is why.0 other why.1 why.2
      by [] is (TooMany place) why = absurd why
      by [] is (AtToken lines_left left) why = absurd why
      by [] is (AtEnd lines_left place) why = absurd why
      by [] is (NoLine place) why = absurd why
      by [] is (BadIndent place) why = absurd why
      by [] is Memory why = absurd why
      by (t ∷ ts) is (AtEnd lines_left place) why = absurd why
      by (t ∷ ts) is (NoLine place) why = absurd why
      by (t ∷ ts) is (BadIndent place) why = absurd why
      by (t ∷ ts) is Memory why = absurd why
