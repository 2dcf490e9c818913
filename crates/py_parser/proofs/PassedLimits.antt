-- A statement that begins at a token passes a limit, or it passes none.
use Rattle.std.proofs.Common.{◌≡◌, inl, inr, ℕ, ◌+◌, ◌≤◌, Bool, true, false, List, [], ◌∷◌, ◌++◌, ap, sym, ◌∙◌, arith, codes, Option, is_none, if◌then◌else◌}
use Rattle.prov_base.specs.declared.place.Pos.{Pos}
use Rattle.py_lines.specs.declared.parts.Line.{Line}
use Rattle.py_lines.specs.declared.parts.Token.{Token}
use Rattle.py_lines.specs.declared.parts.TokenKind.TheVariants.{Keyword}
use Rattle.refused_forms.specs.declared.standing.Standing.{Standing}
use Rattle.refused_forms.specs.RefusedForms.{IsRefusedForm}
use Rattle.py_expressions.specs.Concrete.{Spot}
use Rattle.py_expressions.specs.Tokens.{keyword, token}
use Rattle.py_grammar.specs.LineReader.{Head, simple_head, head_tokens}
use Rattle.py_grammar.specs.ParsedHead.{behind_in}
use Rattle.py_grammar.specs.Written.{Simple, pass}
use Rattle.py_grammar.proofs.HeadReading.{same_head}
use Rattle.py_grammar.specs.Limits.{Limits}
use Rattle.py_parser.specs.Rows.{is_stmt, counted}
use Rattle.py_parser.specs.Faults.{Counts, CountsWithPass, NoneBegins, few_suites, few_statements, PassesLimit, KeepsNumber, KeepsLimits, PassesNone, begins_there}
use Rattle.py_parser.proofs.ScriptHeads.{own, own_fine, line_head, kind_tells}

-- what holds of lines and of the table of refused forms
pub record Laws : Type 0 where
  -- What is read behind a whole `opening :` stands behind the `:`.
  pub behind : (g h : Head) (tokens : List Token) (t : Token) (more : List Token) (at : Spot) → (tokens ≡ [] → ⊥) → head_tokens g ≡ tokens ++ keyword (codes "pass") at → head_tokens h ≡ tokens ++ t ∷ more → is_none (behind_in h) ≡ false
  -- a refused form names one place
  pub place : (s : Standing) (front rest : List Token) (x y : Pos) → IsRefusedForm s front rest x → IsRefusedForm s front rest y → x ≡ y

-- ---- how many statements

-- lines begin so many statements in one way
pub counts_once : (a b : ℕ) (lines : List Line) → Counts a lines → Counts b lines → a ≡ b
counts_once a b [] one other = one ∙ sym other
counts_once a b (line ∷ lines) one other =
    let head = same_head one.0 other.0 (sym one.1 ∙ other.1) in
    let rest = counts_once one.2 other.2 lines one.4 other.4 in
    one.3 ∙ ap (λ h. counted h + one.2) head ∙ ap (λ k. counted other.0 + k) rest ∙ sym other.3

pub pass_counts : (g : Head) (at : Spot) → head_tokens g ≡ keyword (codes "pass") at → counted g ≡ 1
pass_counts g at is = ap counted (same_head g (simple_head (pass at)) is)

counted_same : (a b : Bool) (x y : Option Simple) → a ≡ b → is_none x ≡ is_none y → (if a then 1 else 0) + (if is_none x then 0 else 1) ≡ (if b then 1 else 0) + (if is_none y then 0 else 1)
counted_same a b x y same none = ap (λ (s : Bool). (if s then 1 else 0) + (if is_none x then 0 else 1)) same ∙ ap (λ (n : Bool). (if b then 1 else 0) + (if n then 0 else 1)) none

next_counts : Laws → (tokens : List Token) (g h : Head) (at spot : Spot) → head_tokens g ≡ tokens ++ keyword (codes "pass") at → head_tokens h ≡ tokens ++ keyword (codes "pass") spot → counted g ≡ counted h
next_counts laws [] g h at spot one other = pass_counts g at one ∙ sym (pass_counts h spot other)
next_counts laws (u ∷ us) g h at spot one other = counted_same (is_stmt g) (is_stmt h) (behind_in g) (behind_in h)
    (sym (kind_tells g u (us ++ keyword (codes "pass") at) one) ∙ kind_tells h u (us ++ keyword (codes "pass") spot) other)
    (laws.behind h g (u ∷ us) (token (Keyword 28) at) [] spot (not_none u us) other one ∙ sym (laws.behind g h (u ∷ us) (token (Keyword 28) spot) [] at (not_none u us) one other))
  where
    not_none : (u : Token) (us : List Token) → u ∷ us ≡ [] → ⊥
    not_none u us is = cc

same_sum : (a b x y m n : ℕ) → a ≡ b → x ≡ y → a + x ≡ m → b + y ≡ n → m ≡ n
same_sum a b x y m n one two three four = omega (arith, one, two, three, four)

count_is : Laws → (m n : ℕ) (front : List Line) (tokens : List Token) → CountsWithPass m front tokens → CountsWithPass n front tokens → m ≡ n
count_is laws m n front tokens a b =
    same_sum a.before b.before (counted a.next) (counted b.next) m n (counts_once a.before b.before front a.counts b.counts) (next_counts laws tokens a.next b.next a.at b.at a.next_is b.next_is) a.number_is b.number_is

-- a statement is not one too many and none too many
pub not_many : Laws → (front : List Line) (tokens : List Token) → KeepsNumber front tokens → CountsWithPass 20001 front tokens → ⊥
not_many laws front tokens k c = over k.number (count_is laws k.number 20001 front tokens k.counts c) k.within
  where
    over : (n : ℕ) → n ≡ 20001 → n ≤ 20000 → ⊥
    over n is most = omega (arith, is, most)

-- ---- a limit is passed

-- the line with `pass` behind these tokens
line_with_pass : (within : Limits → Type 0) (front : List Line) (indent : ℕ) (tokens : List Token) (p : PassesLimit within front indent tokens) → (h : Head) × (head_tokens h ≡ tokens ++ keyword (codes "pass") p.at)
line_with_pass within front indent tokens p =
    let g = p.goes_on in
    let k = line_head g.some front g.line g.more g.fits g.lines_are in
    (k.head, sym k.tokens_are ∙ g.line_is.tokens_are)

may_begin : (within : Limits → Type 0) (front : List Line) (indent : ℕ) (tokens : List Token) → PassesLimit within front indent tokens → NoneBegins front indent tokens → ⊥
may_begin within front indent tokens p none =
    let g = p.goes_on in
    none p.at (own g.some) tt g.some g.fits (own_fine g.some g.stands) (g.line ∷ g.more) (g.line_is.indent_is, g.line_is.tokens_are) g.lines_are

-- a limit is passed by what begins there, and none is
keeps : Laws → (within : Limits → Type 0) (front : List Line) (indent : ℕ) (tokens : List Token) (t : Token) → PassesNone front indent tokens t → begins_there tokens t ≡ true → PassesLimit within front indent tokens → KeepsLimits front indent tokens
keeps laws within front indent tokens t none there p =
    let h = line_with_pass within front indent tokens p in
    elim (none there h.0 p.at h.1) [ inl never ↦ absurd (may_begin within front indent tokens p never) | inr kept ↦ kept ]

pub no_suite_passed : Laws → (front : List Line) (indent : ℕ) (tokens : List Token) (t : Token) → PassesNone front indent tokens t → begins_there tokens t ≡ true → PassesLimit few_suites front indent tokens → ⊥
no_suite_passed laws front indent tokens t none there p =
    let w = (keeps laws few_suites front indent tokens t none there p).suites p.at in
    p.none (own w.some) w.deep w.some w.fits (own_fine w.some w.stands) (w.line ∷ w.more) (w.line_is.indent_is, w.line_is.tokens_are) w.lines_are

pub no_number_passed : Laws → (front : List Line) (indent : ℕ) (tokens : List Token) (t : Token) → PassesNone front indent tokens t → begins_there tokens t ≡ true → PassesLimit few_statements front indent tokens → CountsWithPass 20001 front tokens → ⊥
no_number_passed laws front indent tokens t none there p c = not_many laws front tokens (keeps laws few_statements front indent tokens t none there p).number c
