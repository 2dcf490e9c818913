-- Rows that may stand where they are keep some limits: those that they need.
use Rattle.std.proofs.Common.{◌≡◌, ℕ, ◌+◌, ◌≤◌, suc, max, nat_le, Bool, true, false, ◌||◌, is_none, if◌then◌else◌, refl, arith, le-leb}
use Rattle.std.proofs.Math.Nat.{le-max_left, le-max_right}
use Rattle.py_grammar.specs.LineReader.{Head}
use Rattle.py_grammar.specs.ParsedHead.{head_stands, head_depth, behind_in}
use Rattle.py_grammar.specs.Limits.{Limits}
use Rattle.py_parser.specs.Rows.{Rows, end_rows, row, Under, nothing, block, Level, counted, after, inside, may, rows_may, under_may, rows_stand, under_stand, rows_size, under_size}
use Rattle.py_parser.proofs.RowLimits.{both, second, all_three, all_four, three_of, four_of, left_of, right_of}

-- ---- what keeps some limits may stand there

pub head_standing : (q : Limits) (l : Level) (n : ℕ) (h : Head) → may q l n h ≡ true → head_stands l.context l.given h ≡ true
head_standing q l n h is = (four_of (head_stands l.context l.given h) (nat_le (head_depth h) q.height) (nat_le (n + counted h) q.number) (is_none (behind_in h) || nat_le (suc l.depth) q.suites) is).one

mutual
  pub rows_standing : (q : Limits) (l : Level) (n : ℕ) (rows : Rows) → rows_may q l n rows ≡ true → rows_stand l rows ≡ true
  rows_standing q l n end_rows is = refl
  rows_standing q l n (row line h under rest) is =
      let p = three_of (may q l n h) (under_may q l (n + counted h) h under) _ is in
      all_three (head_stands l.context l.given h) _ _ (head_standing q l n h p.one) (under_standing q l (n + counted h) h under p.two) (rows_standing q (after l h) (n + counted h + under_size under) rest p.three)

  under_standing : (q : Limits) (l : Level) (n : ℕ) (h : Head) (under : Under) → under_may q l n h under ≡ true → under_stand l h under ≡ true
  under_standing q l n h nothing is = refl
  under_standing q l n h (block indent rows) is = rows_standing q (inside l h indent) n rows (second (nat_le (suc l.depth) q.suites) _ is)

-- ---- the limits that rows need

abbrev mutual
  pub rows_height : Rows → ℕ
  rows_height end_rows = 0
  rows_height (row line h under rest) = max (head_depth h) (max (under_height under) (rows_height rest))

  pub under_height : Under → ℕ
  under_height nothing = 0
  under_height (block indent rows) = rows_height rows

-- a statement behind the `:` lies in a suite of its own
abbrev pub behind_suites : Head → ℕ
behind_suites h = if is_none (behind_in h) then 0 else 1

abbrev mutual
  pub rows_suites : Rows → ℕ
  rows_suites end_rows = 0
  rows_suites (row line h under rest) = max (behind_suites h) (max (under_suites under) (rows_suites rest))

  pub under_suites : Under → ℕ
  under_suites nothing = 0
  under_suites (block indent rows) = suc (rows_suites rows)

deep_left : (d a b c : ℕ) → d + max a b ≤ c → d + a ≤ c
deep_left d a b c is = let low = le-max_left a b in omega (arith, is, low)

deep_right : (d a b c : ℕ) → d + max a b ≤ c → d + b ≤ c
deep_right d a b c is = let low = le-max_right a b in omega (arith, is, low)

deeper : (d s c : ℕ) → d + suc s ≤ c → suc d + s ≤ c
deeper d s c is = omega (arith, is)

suite_fits : (d s c : ℕ) → d + suc s ≤ c → suc d ≤ c
suite_fits d s c is = omega (arith, is)

behind_fits : (b : Bool) (d c : ℕ) → d + (if b then 0 else 1) ≤ c → (b || nat_le (suc d) c) ≡ true
behind_fits true d c is = refl
behind_fits false d c is = le-leb (suc d) c (omega (arith, is))

few_line : (n a u r c : ℕ) → n + (a + u + r) ≤ c → n + a ≤ c
few_line n a u r c is = omega (arith, is)

few_under : (n a u r c : ℕ) → n + (a + u + r) ≤ c → n + a + u ≤ c
few_under n a u r c is = omega (arith, is)

few_rest : (n a u r c : ℕ) → n + (a + u + r) ≤ c → n + a + u + r ≤ c
few_rest n a u r c is = omega (arith, is)

mutual
  pub rows_enough : (q : Limits) (l : Level) (n : ℕ) (rows : Rows) → rows_stand l rows ≡ true → rows_height rows ≤ q.height → l.depth + rows_suites rows ≤ q.suites → n + rows_size rows ≤ q.number → rows_may q l n rows ≡ true
  rows_enough q l n end_rows standing low deep few = refl
  rows_enough q l n (row line h under rest) standing low deep few =
      let p = three_of (head_stands l.context l.given h) (under_stand l h under) _ standing in
      let low_behind = right_of (head_depth h) _ q.height low in
      let deep_behind = deep_right l.depth (behind_suites h) _ q.suites deep in
      all_three (may q l n h) (under_may q l (n + counted h) h under) _
      (all_four (head_stands l.context l.given h) (nat_le (head_depth h) q.height) (nat_le (n + counted h) q.number) (is_none (behind_in h) || nat_le (suc l.depth) q.suites) p.one
      (le-leb (head_depth h) q.height (left_of (head_depth h) _ q.height low)) (le-leb (n + counted h) q.number (few_line n (counted h) (under_size under) (rows_size rest) q.number few))
      (behind_fits (is_none (behind_in h)) l.depth q.suites (deep_left l.depth (behind_suites h) _ q.suites deep)))
      (under_enough q l (n + counted h) h under p.two (left_of (under_height under) (rows_height rest) q.height low_behind) (deep_left l.depth (under_suites under) (rows_suites rest) q.suites deep_behind)
      (few_under n (counted h) (under_size under) (rows_size rest) q.number few))
      (rows_enough q (after l h) (n + counted h + under_size under) rest p.three (right_of (under_height under) (rows_height rest) q.height low_behind) (deep_right l.depth (under_suites under) (rows_suites rest) q.suites deep_behind)
      (few_rest n (counted h) (under_size under) (rows_size rest) q.number few))

  under_enough : (q : Limits) (l : Level) (n : ℕ) (h : Head) (under : Under) → under_stand l h under ≡ true → under_height under ≤ q.height → l.depth + under_suites under ≤ q.suites → n + under_size under ≤ q.number → under_may q l n h under ≡ true
  under_enough q l n h nothing standing low deep few = refl
  under_enough q l n h (block indent rows) standing low deep few =
      both (nat_le (suc l.depth) q.suites) _ (le-leb (suc l.depth) q.suites (suite_fits l.depth (rows_suites rows) q.suites deep))
      (rows_enough q (inside l h indent) n rows standing low (deeper l.depth (rows_suites rows) q.suites deep) few)
