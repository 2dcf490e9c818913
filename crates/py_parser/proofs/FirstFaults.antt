-- Which fault is answered where the lines stop: what is found by counting from the end is what stands before the point.
use Rattle.std.proofs.Common.{◌≡◌, ℕ, suc, ◌+◌, ◌-◌, List, [], ◌∷◌, ◌++◌, length, take, drop, get_or, Option, Some, None, IfSome, IfNone, false, ap, sym, ◌∙◌, subst, arith, refl}
use Rattle.std.proofs.Math.Seq.{take-append_seam, drop-append_seam, drop-append-add, get_or-append_seam, take-length}
use Rattle.std.proofs.lemmas.List.{length-append}
use Rattle.prov_base.specs.declared.place.Pos.{Pos}
use Rattle.py_lines.specs.declared.parts.Line.{Line}
use Rattle.py_lines.specs.declared.parts.Token.{Token}
use Rattle.refused_forms.specs.LineForms.{standing}
use Rattle.py_parser.specs.declared.fault.Halt.{Halt}
use Rattle.py_parser.specs.declared.fault.Halt.TheVariants.{AtToken, AtEnd, NoLine, BadIndent as IndentHalt, TooDeep as DeepHalt, TooMany as ManyHalt}
use Rattle.py_parser.specs.declared.fault.ParseFault.{ParseFault}
use Rattle.py_parser.specs.declared.fault.ParseFault.TheVariants.{Unexpected, BadIndent, TooDeep, TooMany}
use Rattle.py_grammar.specs.Limits.{Limits}
use Rattle.py_parser.specs.Faults.{Point, at_token, at_end, at_line, below, no_line, shows, NamesToken, NamesEnd, names, Asks, origin, last_token, FirstFault, NamesLimit, ReadsNoFurther, PassesNoneThere, deep_place, names_limit}
use Rattle.py_parser.specs.ParsedBlocks.{marks, Asks as AsksHalt, FirstHalt, deep_at, halt_limit}

-- where the fault is named there, it is the first one
as_fault : (lines : List Line) (halt : Halt) (fault : ParseFault) → (h : FirstHalt lines halt) → deep_at halt ≡ deep_place fault → halt_limit halt ≡ names_limit fault → ((q : Limits) → Asks fault q → AsksHalt halt q) → NamesLimit fault h.front h.point → names h.front h.behind h.point fault → FirstFault lines fault
as_fault lines halt fault h deep kind asked limit named = record {
  front = h.front;
  behind = h.behind;
  point = h.point;
  lines_are = h.lines_are;
  shown = h.shown;
  named = named;
  limit = limit;
  column = h.column;
  begins = h.begins;
  reads = subst (λ o. ReadsNoFurther o h.point) deep h.reads;
  few = h.few;
  shallow = h.shallow;
  order = h.order;
  passes = subst (λ b. PassesNoneThere b h.front h.point) kind h.passes;
  none = λ limits asks. h.none limits (asked limits asks);
}

-- what stands so many places from the end
from_end : (whole front rest n : ℕ) → whole ≡ front + suc rest → n ≡ rest → whole - n - 1 ≡ front
from_end whole front rest n sum is = omega (arith, sum, is)

-- the line, where so many stand behind it
line_there : (lines front : List Line) (line : Line) (rest : List Line) (l : ℕ) → lines ≡ front ++ line ∷ rest → l ≡ length rest → length lines - l - 1 ≡ length front
line_there lines front line rest l is counted = from_end (length lines) (length front) (length rest) l (ap length is ∙ length-append front (line ∷ rest)) counted

at_seam : {A : Type 0} (all front : List A) (x : A) (rest : List A) (n : ℕ) (found : A) → all ≡ front ++ x ∷ rest → n ≡ length front → found ≡ get_or all n found → found ≡ x
at_seam all front x rest n found is counted got = got ∙ ap (λ xs. get_or xs n found) is ∙ ap (λ m. get_or (front ++ x ∷ rest) m found) counted ∙ get_or-append_seam front x rest found

before_seam : {A : Type 0} (all front rest : List A) (n : ℕ) → all ≡ front ++ rest → n ≡ length front → take n all ≡ front
before_seam all front rest n is counted = ap (take n) is ∙ ap (λ m. take m (front ++ rest)) counted ∙ take-append_seam front rest

behind_seam : {A : Type 0} (all front rest : List A) (n : ℕ) → all ≡ front ++ rest → n ≡ length front → take (length all - n) (drop n all) ≡ rest
behind_seam all front rest n is counted =
    let left : drop n all ≡ rest = ap (drop n) is ∙ ap (λ m. drop m (front ++ rest)) counted ∙ drop-append_seam front rest in
    let sum = ap length is ∙ length-append front rest in
    let size : length all - n ≡ length rest = omega (arith, sum, counted) in
    ap (λ m. take m (drop n all)) size ∙ ap (take (length rest)) left ∙ take-length rest

-- what is said of an answer that is there, and of one that is not
pub some_of : {A : Type 0} (P : A → Type 0) (o : Option A) (a : A) → o ≡ Some a → IfSome o P → P a
some_of P o a is holds = subst (λ o. IfSome o P) is holds

pub none_of : {A : Type 0} (Q : Type 0) (o : Option A) → o ≡ None → IfNone o Q → Q
none_of Q o is holds = subst (λ o. IfNone o Q) is holds

-- ---- at a token

abbrev Named : ℕ → List Line → List Token → List Token → Token → ParseFault → Type 0
Named d before front rest t fault = NamesToken (standing d before) front rest t fault

named_same : (d e : ℕ) (before lines : List Line) (front tokens rest more : List Token) (t u : Token) (fault : ParseFault) → d ≡ e → before ≡ lines → front ≡ tokens → rest ≡ more → t ≡ u → Named d before front rest t fault → Named e lines tokens more u fault
named_same d e before lines front tokens rest more t u fault one two three four five is =
    subst (λ u. Named e lines tokens more u fault) five
    (subst (λ ts. Named e lines tokens ts t fault) four
    (subst (λ ts. Named e lines ts rest t fault) three
    (subst (λ ls. Named e ls front rest t fault) two
    (subst (λ d. Named d before front rest t fault) one is))))

token_named : (front behind lines : List Line) (point : Point) (l k : ℕ) (at : Pos) (line : Line) (tokens : List Token) (u : Token) (fault : ParseFault) → lines ≡ front ++ behind → shows point behind → marks at behind point (AtToken l k)
    → line ≡ get_or lines (length lines - l - 1) line → tokens ≡ line.tokens → u ≡ get_or tokens (length tokens - k - 1) u
    → Named line.indent (take (length lines - l - 1) lines) (take (length tokens - k - 1) tokens) (take (length tokens - (length tokens - k - 1)) (drop (length tokens - k - 1) tokens)) u fault
    → names front behind point fault
token_named front [] lines (at_token d before t) l k at line tokens u fault is shown marked line_is tokens_are u_is named = absurd shown
token_named front (first ∷ rest) lines (at_token d before t) l k at line tokens u fault is shown marked line_is tokens_are u_is named =
    let n : length lines - l - 1 ≡ length front = line_there lines front first rest l is marked.0 in
    let same : line ≡ first = at_seam lines front first rest (length lines - l - 1) line is n line_is in
    let all : tokens ≡ before ++ t ∷ shown.1.more = tokens_are ∙ ap (λ (x : Line). x.tokens) same ∙ shown.1.tokens_are in
    let sum = ap length (sym shown.1.tokens_are) in
    let size = ap length all ∙ length-append before (t ∷ shown.1.more) in
    let whole : length first.tokens ≡ length tokens = ap length (shown.1.tokens_are ∙ sym all) in
    let counted = marked.1 in
    let m : length tokens - k - 1 ≡ length before = omega (arith, size, whole, counted) in
    named_same line.indent d (take (length lines - l - 1) lines) front (take (length tokens - k - 1) tokens) before (take (length tokens - (length tokens - k - 1)) (drop (length tokens - k - 1) tokens)) (t ∷ drop (suc (length before)) first.tokens) u t fault
    (ap (λ (x : Line). x.indent) same ∙ shown.0)
    (before_seam lines front (first ∷ rest) (length lines - l - 1) is n)
    (before_seam tokens before (t ∷ shown.1.more) (length tokens - k - 1) all m)
    (behind_seam tokens before (t ∷ shown.1.more) (length tokens - k - 1) all m ∙ ap (λ ts. t ∷ ts) (sym (ap (drop (suc (length before))) shown.1.tokens_are ∙ past before t shown.1.more)))
    (at_seam tokens before t shown.1.more (length tokens - k - 1) u all m u_is)
    named
  where
    past : (xs : List Token) (t : Token) (more : List Token) → drop (suc (length xs)) (xs ++ t ∷ more) ≡ more
    past xs t more = let one : suc (length xs) ≡ length xs + 1 = omega arith in ap (λ n. drop n (xs ++ t ∷ more)) one ∙ drop-append-add xs (t ∷ more) 1
token_named front behind lines (at_end d before) l k at line tokens u fault is shown marked line_is tokens_are u_is named = absurd (no_end behind marked)
  where
    no_end : (behind : List Line) → marks at behind (at_end d before) (AtToken l k) → ⊥
    no_end [] marked = marked
    no_end (first ∷ rest) marked = marked
token_named front behind lines (at_line d) l k at line tokens u fault is shown marked line_is tokens_are u_is named = absurd marked
token_named front behind lines (below d) l k at line tokens u fault is shown marked line_is tokens_are u_is named = absurd marked
token_named front behind lines no_line l k at line tokens u fault is shown marked line_is tokens_are u_is named = absurd marked

pub token_fault : (lines : List Line) (l k : ℕ) (line : Line) (tokens : List Token) (u : Token) (fault : ParseFault) → FirstHalt lines (AtToken l k) → deep_place fault ≡ None → names_limit fault ≡ false → ((front : List Line) (point : Point) → NamesLimit fault front point)
    → line ≡ get_or lines (length lines - l - 1) line → tokens ≡ line.tokens → u ≡ get_or tokens (length tokens - k - 1) u
    → Named line.indent (take (length lines - l - 1) lines) (take (length tokens - k - 1) tokens) (take (length tokens - (length tokens - k - 1)) (drop (length tokens - k - 1) tokens)) u fault
    → FirstFault lines fault
token_fault lines l k line tokens u fault h deep kind limit line_is tokens_are u_is named =
    as_fault lines (AtToken l k) fault h (sym deep) (sym kind) (λ q asks. tt) (limit h.front h.point) (token_named h.front h.behind lines h.point l k (last_token origin h.front) line tokens u fault h.lines_are h.shown h.marked line_is tokens_are u_is named)

-- ---- at the end of a line

abbrev Ended : ℕ → List Line → List Token → Pos → ParseFault → Type 0
Ended d before tokens last fault = NamesEnd (standing d before) tokens last fault

end_named : (front behind lines : List Line) (point : Point) (l : ℕ) (place : Pos) (line : Line) (tokens : List Token) (fault : ParseFault) → lines ≡ front ++ behind → shows point behind → marks (last_token origin front) behind point (AtEnd l place)
    → line ≡ get_or lines (length lines - l - 1) line → tokens ≡ line.tokens → Ended line.indent (take (length lines - l - 1) lines) tokens place fault → names front behind point fault
end_named front [] lines (at_end d before) l place line tokens fault is shown marked line_is tokens_are named = absurd shown
end_named front (first ∷ rest) lines (at_end d before) l place line tokens fault is shown marked line_is tokens_are named =
    let n : length lines - l - 1 ≡ length front = line_there lines front first rest l is marked.0 in
    let same : line ≡ first = at_seam lines front first rest (length lines - l - 1) line is n line_is in
    subst (λ p. Ended d front before p fault) marked.1
    (subst (λ ts. Ended d front ts place fault) (tokens_are ∙ ap (λ (x : Line). x.tokens) same ∙ shown.1)
    (subst (λ ls. Ended d ls tokens place fault) (before_seam lines front (first ∷ rest) (length lines - l - 1) is n)
    (subst (λ e. Ended e (take (length lines - l - 1) lines) tokens place fault) (ap (λ (x : Line). x.indent) same ∙ shown.0) named)))
end_named front behind lines (at_token d before t) l place line tokens fault is shown marked line_is tokens_are named = absurd (no_token behind marked)
  where
    no_token : (behind : List Line) → marks (last_token origin front) behind (at_token d before t) (AtEnd l place) → ⊥
    no_token [] marked = marked
    no_token (first ∷ rest) marked = marked
end_named front behind lines (at_line d) l place line tokens fault is shown marked line_is tokens_are named = absurd marked
end_named front behind lines (below d) l place line tokens fault is shown marked line_is tokens_are named = absurd marked
end_named front behind lines no_line l place line tokens fault is shown marked line_is tokens_are named = absurd marked

pub end_fault : (lines : List Line) (l : ℕ) (place : Pos) (line : Line) (tokens : List Token) (fault : ParseFault) → FirstHalt lines (AtEnd l place) → deep_place fault ≡ None → names_limit fault ≡ false → ((front : List Line) (point : Point) → NamesLimit fault front point)
    → line ≡ get_or lines (length lines - l - 1) line → tokens ≡ line.tokens → Ended line.indent (take (length lines - l - 1) lines) tokens place fault → FirstFault lines fault
end_fault lines l place line tokens fault h deep kind limit line_is tokens_are named =
    as_fault lines (AtEnd l place) fault h (sym deep) (sym kind) (λ q asks. tt) (limit h.front h.point) (end_named h.front h.behind lines h.point l place line tokens fault h.lines_are h.shown h.marked line_is tokens_are named)

-- ---- elsewhere

pub last_fault : (lines : List Line) (place : Pos) → FirstHalt lines (NoLine place) → FirstFault lines (Unexpected place)
last_fault lines place h = as_fault lines (NoLine place) (Unexpected place) h refl refl (λ q asks. tt) tt (by h.behind h.point h.marked)
  where
    by : (behind : List Line) (point : Point) → marks (last_token origin h.front) behind point (NoLine place) → names h.front behind point (Unexpected place)
    by [] (at_token d before t) marked = absurd marked
    by (first ∷ rest) (at_token d before t) marked = absurd marked
    by [] (at_end d before) marked = absurd marked
    by (first ∷ rest) (at_end d before) marked = absurd marked
    by behind (at_line d) marked = absurd marked
    by behind (below d) marked = absurd marked
    by behind no_line marked = marked

pub indent_fault : (lines : List Line) (place : Pos) → FirstHalt lines (IndentHalt place) → FirstFault lines (BadIndent place)
indent_fault lines place h = as_fault lines (IndentHalt place) (BadIndent place) h refl refl (λ q asks. tt) tt (by h.behind h.point h.marked)
  where
    by : (behind : List Line) (point : Point) → marks (last_token origin h.front) behind point (IndentHalt place) → names h.front behind point (BadIndent place)
    by [] (at_token d before t) marked = absurd marked
    by (first ∷ rest) (at_token d before t) marked = absurd marked
    by [] (at_end d before) marked = absurd marked
    by (first ∷ rest) (at_end d before) marked = absurd marked
    by behind (at_line d) marked = marked
    by behind (below d) marked = marked
    by behind no_line marked = absurd marked

pub deep_fault : (lines : List Line) (place : Pos) → FirstHalt lines (DeepHalt place) → FirstFault lines (TooDeep place)
deep_fault lines place h = as_fault lines (DeepHalt place) (TooDeep place) h refl refl (λ q asks. asks) h.limit (by h.behind h.point h.marked)
  where
    by : (behind : List Line) (point : Point) → marks (last_token origin h.front) behind point (DeepHalt place) → names h.front behind point (TooDeep place)
    by behind (at_token d before t) marked = tt
    by [] (at_end d before) marked = absurd marked
    by (first ∷ rest) (at_end d before) marked = marked
    by behind (at_line d) marked = absurd marked
    by behind (below d) marked = absurd marked
    by behind no_line marked = absurd marked

pub many_fault : (lines : List Line) (place : Pos) → FirstHalt lines (ManyHalt place) → FirstFault lines (TooMany place)
many_fault lines place h = as_fault lines (ManyHalt place) (TooMany place) h refl refl (λ q asks. asks) h.limit (by h.behind h.point h.marked)
  where
    by : (behind : List Line) (point : Point) → marks (last_token origin h.front) behind point (ManyHalt place) → names h.front behind point (TooMany place)
    by [] (at_token d before t) marked = absurd marked
    by (first ∷ rest) (at_token d before t) marked = marked
    by [] (at_end d before) marked = absurd marked
    by (first ∷ rest) (at_end d before) marked = absurd marked
    by behind (at_line d) marked = absurd marked
    by behind (below d) marked = absurd marked
    by behind no_line marked = absurd marked
