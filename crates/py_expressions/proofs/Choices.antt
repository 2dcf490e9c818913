-- Conditionals: what is read of them, and how they are refused.
use Rattle.std.proofs.Common.{◌≡◌, ℕ, zero, suc, ◌+◌, max, ◌≤◌, ◌<◌, Bool, false, List, [], ◌∷◌, ◌++◌, Some, refl, ap, sym, ◌∙◌, arith, append_assoc}
use Rattle.std.specs.Prelude.{◌==◌}
use Rattle.std.proofs.lemmas.List.{append-nil}
use Rattle.prov_base.specs.declared.place.Pos.{Pos}
use Rattle.py_lines.specs.declared.parts.Token.{Token}
use Rattle.py_lines.specs.declared.parts.TokenKind.TheVariants.{Keyword}
use Rattle.py_tree.specs.Tree.{choose_expr}
use Rattle.py_tree.specs.Erasure.{expr_of}
use Rattle.py_expressions.specs.declared.fault.Fault.TheVariants.{Unexpected, TooDeep, TooMany, Memory}
use Rattle.py_expressions.specs.declared.fault.Stop.{Stop}
use Rattle.py_expressions.specs.declared.fault.Stop.TheVariants.{Here, End}
use Rattle.py_expressions.specs.declared.part.Part.{Part}
use Rattle.py_expressions.specs.Concrete.{Spot, Expr, plain_expr, choice, Or, plain_or, plain_and}
use Rattle.py_expressions.specs.Tokens.{token, expr_tokens, or_tokens}
use Rattle.py_expressions.specs.Trees.{expr_tree, or_tree}
use Rattle.py_expressions.specs.Depth.{expr_depth, or_depth}
use Rattle.py_expressions.specs.Lies.{begins, over, deeper_of, expr_lies, or_lies, expr_deepest, or_deepest}
use Rattle.py_expressions.proofs.Lying.{above_left, or_low, or_above}
use Rattle.py_expressions.proofs.Deepest.{deeper_same, or_is_first}
use Rattle.py_expressions.specs.Reader.{Read, go_on, next_level, read_keyword, read_expr, choice_rest, read_or}
use Rattle.py_expressions.specs.Parsed.{expr_part, or_part, one_keyword, Taken, Found, IsDeep, Only, Refused, IsTooDeep, is_keyword_next}
use Rattle.py_expressions.proofs.Leading.{Reads}
use Rattle.py_expressions.proofs.Reading.{or_leads, or_stops}
use Rattle.py_expressions.proofs.Levels.{beyond_if}
use Rattle.py_expressions.proofs.Refusals.{Inside, begins_whole, alone_elsewhere, node_within, only_any, only_if, finds_first, finds_behind, finds_after, finds_now, finds_anything, finds_same, deep_left, deep_right, deep_beside_left, deep_beside_right, refused_inside, refused_same, first_full, full, two_behind, one_between, last_behind, next_level_same, max_below}
use Rattle.py_expressions.proofs.Stops.{spot_at}
use Rattle.py_expressions.proofs.Prefixes.{some_not}

-- expressions at this place, where any will do
abbrev some_or : Pos → Or
some_or at = plain_or (plain_and (some_not at))

abbrev pub some_expr : Pos → Expr
some_expr at = plain_expr (some_or at)

reads_or : (e : Or) → Reads read_or 6 (or_tokens e) e
reads_or e = or_stops e (or_leads e)

-- ---- what is read

pub expr_one : (room : ℕ) (before after : List Token) (part : Part) → Found or_part or_tree 6 room before part after → is_keyword_next 20 after ≡ false → Found expr_part expr_tree 7 room before part after
expr_one room before [] part f other = record { written = plain_expr f.written; before_is = f.before_is; tree_is = f.tree_is; height_is = f.height_is; deepest_is = f.deepest_is; form_is = f.form_is; fits = f.fits; beyond = omega arith }
expr_one room before (t ∷ ts) part f other = record { written = plain_expr f.written; before_is = f.before_is; tree_is = f.tree_is; height_is = f.height_is; deepest_is = f.deepest_is; form_is = f.form_is; fits = f.fits; beyond = beyond_if t.kind f.beyond other }

higher : (a b c d e f room height : ℕ) → height ≡ suc (max a (max b c)) → a ≡ d → b ≡ e → c ≡ f → a < room → b < room → c < room → (height ≡ 1 + max d (max e f)) × (height ≤ room)
higher a b c d e f room height is one two three low_1 low_2 low_3 =
    let inner = max_below b c room (omega (arith, low_2)) (omega (arith, low_3)) in
    (is ∙ ap (λ x. suc (max x (max b c))) one ∙ ap (λ x. suc (max d (max x c))) two ∙ ap (λ x. suc (max d (max e x))) three ∙ one_more (max d (max e f)), below a b c room height is low_1 low_2 low_3)
  where
    one_more : (n : ℕ) → suc n ≡ 1 + n
    one_more n = omega arith

    below : (x y z limit n : ℕ) → n ≡ suc (max x (max y z)) → x < limit → y < limit → z < limit → n ≤ limit
    below x y z limit n eq l1 l2 l3 = omega (arith, eq, l1, l2, l3)

pub expr_choice : (room inner : ℕ) (before middle_1 behind_1 middle_2 behind_2 after : List Token) (at else_at : Pos) (chosen test other part : Part)
    → Found or_part or_tree 6 room before chosen middle_1 → Taken (Keyword 20) middle_1 at behind_1 → chosen.height < room → inner < room → Found or_part or_tree 6 inner behind_1 test middle_2 → Taken (Keyword 14) middle_2 else_at behind_2
    → Found expr_part expr_tree 7 inner behind_2 other after → expr_of part.expr.value ≡ choose_expr at (expr_of test.expr.value) (expr_of chosen.expr.value) (expr_of other.expr.value)
    → part.height ≡ suc (max chosen.height (max test.height other.height))
    → part.deepest ≡ deeper_of chosen.height chosen.deepest (max test.height other.height) (deeper_of test.height test.deepest other.height other.deepest) → part.is_target ≡ false → Found expr_part expr_tree 7 room before part after
expr_choice room inner before middle_1 behind_1 middle_2 behind_2 after at else_at chosen test other part c i less smaller t e o tree height deepest wrong =
    let low_2 = t.fits in
    let low_3 = o.fits in
    let heights = higher chosen.height test.height other.height _ _ _ room part.height height c.height_is t.height_is o.height_is less (omega (arith, low_2, smaller)) (omega (arith, low_3, smaller)) in
    record {
      written = choice c.written i.spot t.written e.spot o.written;
      before_is = c.before_is ∙ ap (λ ts. or_tokens c.written ++ ts) (i.before_is ∙ ap (λ ts. token (Keyword 20) i.spot ∷ ts) (t.before_is ∙ ap (λ ts. or_tokens t.written ++ ts) (e.before_is ∙ ap (λ ts. token (Keyword 14) e.spot ∷ ts) o.before_is)
          ∙ sym (append_assoc (or_tokens t.written) (token (Keyword 14) e.spot ∷ expr_tokens o.written) after)))
          ∙ sym (append_assoc (or_tokens c.written) (token (Keyword 20) i.spot ∷ (or_tokens t.written ++ token (Keyword 14) e.spot ∷ expr_tokens o.written)) after);
      tree_is = tree ∙ ap (λ a. choose_expr a (expr_of test.expr.value) (expr_of chosen.expr.value) (expr_of other.expr.value)) (sym i.at_is) ∙ ap (λ x. choose_expr i.spot.at x (expr_of chosen.expr.value) (expr_of other.expr.value)) t.tree_is
          ∙ ap (λ x. choose_expr i.spot.at (or_tree t.written) x (expr_of other.expr.value)) c.tree_is ∙ ap (choose_expr i.spot.at (or_tree t.written) (or_tree c.written)) o.tree_is;
      height_is = heights.0;
      deepest_is = deepest ∙ deeper_same chosen.height (max test.height other.height) (or_depth c.written) (max (or_depth t.written) (expr_depth o.written)) chosen.deepest (deeper_of test.height test.deepest other.height other.deepest)
          (or_deepest c.written) (deeper_of (or_depth t.written) (or_deepest t.written) (expr_depth o.written) (expr_deepest o.written)) c.height_is c.deepest_is (ap (λ h. max h other.height) t.height_is ∙ ap (max (or_depth t.written)) o.height_is)
          (deeper_same test.height other.height (or_depth t.written) (expr_depth o.written) test.deepest other.deepest (or_deepest t.written) (expr_deepest o.written) t.height_is t.deepest_is o.height_is o.deepest_is);
      form_is = wrong;
      fits = heights.1;
      beyond = o.beyond;
    }

-- ---- what is refused

-- what has no depth is not too deep
pub no_depth : {P : Type 0} (stop : Stop) → IsDeep stop 0 (λ at. 0) → P
no_depth (Here (TooDeep at)) deep = absurd (omega (arith, deep))
no_depth (Here (Unexpected at)) deep = absurd deep
no_depth (Here (TooMany at)) deep = absurd deep
no_depth (Here Memory) deep = absurd deep
no_depth End deep = absurd deep

-- what stands behind the test
abbrev after_test : Or → Spot → ℕ → Or → List Token → Read Expr
after_test chosen if_word n test ts = go_on (read_keyword 14 ts) (λ else_word more. go_on (read_expr n more) (λ other rest. Some (choice chosen if_word test else_word other, rest)))

choice_deep : (stop : Stop) (room n : ℕ) (chosen : Or) (ts : List Token) → IsDeep stop room (or_lies chosen) → Only (λ e. IsDeep stop room (expr_lies e)) (choice_rest n chosen ts)
choice_deep stop room zero chosen ts deep = tt
choice_deep stop room (suc n) chosen ts deep = only_if _ (next_level ts == 7) _ _
    (only_any _ (read_keyword 20 ts) _ (λ if_word more. only_any _ (read_or n more) _ (λ test more_2. only_any _ (read_keyword 14 more_2) _ (λ else_word more_3. only_any _ (read_expr n more_3) _
    (λ other rest. deep_left stop room (begins (or_tokens chosen)) (or_lies chosen) (λ at. max (or_lies test at) (expr_lies other at)) deep)))))
    deep

chosen_inside : (room : ℕ) (behind : List Token) → Inside expr_part room or_part room [] behind
chosen_inside room behind = record {
  begins = λ at b. record { some = plain_expr b; more = []; tokens_are = sym (append-nil (or_tokens b)); within = λ other apart low. low; deep = λ stop deep. deep };
  finds = λ stop more first finds. finds_first _ _ read_expr read_or choice_rest more more (λ n. refl) (λ n b ts deep. choice_deep stop room n b ts deep) finds;
}

pub chosen_refused : (room : ℕ) (before : List Token) (stop : Stop) → Refused or_part room before stop → Refused expr_part room before stop
chosen_refused room before stop is = refused_inside expr_part room or_part room [] before stop (chosen_inside room before) is

both_none : (a b : ℕ) → a ≡ 0 → b ≡ 0 → max a b ≡ 0
both_none a b one other = omega (arith, one, other)

pub choice_full : (room : ℕ) (before middle behind : List Token) (at : Pos) (chosen : Part) (stop : Stop) → Found or_part or_tree 6 room before chosen middle → Taken (Keyword 20) middle at behind → IsTooDeep chosen.height chosen.deepest room stop
    → Refused expr_part room before stop
choice_full room before middle behind at chosen stop c i deep = full expr_part room before (or_tokens c.written) (token (Keyword 20) i.spot) behind chosen.height chosen.deepest stop deep
    (c.before_is ∙ ap (λ ts. or_tokens c.written ++ ts) i.before_is) (begins_whole expr_part room (plain_expr c.written) (λ at. let low = or_low c.written at in let is = c.height_is in let fits = c.fits in omega (arith, low, is, fits)))
    (first_full expr_part room (or_tokens c.written) (token (Keyword 20) i.spot) (choice c.written i.spot (some_or chosen.deepest) (spot_at chosen.deepest) (some_expr chosen.deepest))
    (or_tokens (some_or chosen.deepest) ++ token (Keyword 14) (spot_at chosen.deepest) ∷ expr_tokens (some_expr chosen.deepest)) (begins (or_tokens c.written)) (or_lies c.written)
    (λ at. max (or_lies (some_or chosen.deepest) at) (expr_lies (some_expr chosen.deepest) at)) chosen.height (or_depth c.written) chosen.deepest (or_deepest c.written) refl (λ at. refl) (or_is_first c.written) c.deepest_is c.height_is (or_above c.written) c.fits
    (λ other apart. both_none (or_lies (some_or chosen.deepest) other) (expr_lies (some_expr chosen.deepest) other) (alone_elsewhere chosen.deepest other apart) (alone_elsewhere chosen.deepest other apart)))
    (λ more. finds_behind _ read_expr read_or choice_rest 6 (or_tokens c.written) c.written (token (Keyword 20) i.spot ∷ more) (λ n. refl) (reads_or c.written) (omega arith)
    (finds_first _ _ (λ n ts. choice_rest n c.written ts) read_or (after_test c.written i.spot) (token (Keyword 20) i.spot ∷ more) more (λ n. refl)
    (λ n test ts any. only_any _ (read_keyword 14 ts) _ (λ else_word more_3. only_any _ (read_expr n more_3) _
    (λ other rest. above_left (begins (or_tokens c.written) chosen.deepest) (or_lies c.written chosen.deepest) (max (or_lies test chosen.deepest) (expr_lies other chosen.deepest)) chosen.height (or_depth c.written) c.height_is
    (ap (or_lies c.written) c.deepest_is ∙ (or_is_first c.written).lies_is) (or_above c.written))))
    (finds_anything read_or more)))

-- what lies too deep in the test, or in what is chosen otherwise, does so in the choice
test_deep : {room inner : ℕ} (stop : Stop) (chosen : Or) (spot : Spot) (test : Or) (else_word : Spot) (other : Expr) → room ≤ suc inner → IsDeep stop inner (or_lies test) → IsDeep stop room (expr_lies (choice chosen spot test else_word other))
test_deep {room} {inner} stop chosen spot test else_word other less deep = deep_right stop inner room (begins (or_tokens chosen)) (or_lies chosen) (λ at. max (or_lies test at) (expr_lies other at)) less (deep_beside_left stop inner (or_lies test) (expr_lies other) deep)

other_deep : {room inner : ℕ} (stop : Stop) (chosen : Or) (spot : Spot) (test : Or) (else_word : Spot) (other : Expr) → room ≤ suc inner → IsDeep stop inner (expr_lies other) → IsDeep stop room (expr_lies (choice chosen spot test else_word other))
other_deep {room} {inner} stop chosen spot test else_word other less deep = deep_right stop inner room (begins (or_tokens chosen)) (or_lies chosen) (λ at. max (or_lies test at) (expr_lies other at)) less (deep_beside_right stop inner (or_lies test) (expr_lies other) deep)

-- a choice lies within the room
choice_within : (room inner : ℕ) (chosen : Or) (here : Bool) (test other : ℕ) (at : Pos) → inner < room → or_depth chosen ≤ inner → test ≤ inner → other ≤ inner → over here (max (or_lies chosen at) (max test other)) ≤ room
choice_within room inner chosen here test other at smaller fits one two = let low = or_low chosen at in
    node_within here (or_lies chosen at) (max test other) inner room smaller (omega (arith, low, fits)) (max_below test other inner one two)

test_inside : (room inner : ℕ) (chosen : Or) (spot : Spot) (behind : List Token) → room ≤ suc inner → inner < room → or_depth chosen ≤ inner → Inside expr_part room or_part inner (or_tokens chosen ++ token (Keyword 20) spot ∷ []) behind
test_inside room inner chosen spot behind less smaller fits = record {
  begins = λ at b. record {
    some = choice chosen spot b (spot_at at) (some_expr at);
    more = _;
    tokens_are = two_behind (or_tokens chosen) (token (Keyword 20) spot) (or_tokens b) (token (Keyword 14) (spot_at at) ∷ expr_tokens (some_expr at));
    within = λ other apart low. let alone = alone_elsewhere at other apart in
        choice_within room inner chosen (begins (or_tokens chosen) other) (or_lies b other) (expr_lies (some_expr at) other) other smaller fits low (omega (arith, alone));
    deep = λ stop deep. test_deep stop chosen spot b (spot_at at) (some_expr at) less deep;
  };
  finds = λ stop more first finds. finds_same _ read_expr _ _ (append_assoc (or_tokens chosen) (token (Keyword 20) spot ∷ []) more)
      (finds_behind _ read_expr read_or choice_rest 6 (or_tokens chosen) chosen (token (Keyword 20) spot ∷ more) (λ n. refl) (reads_or chosen) (omega arith)
      (finds_first _ _ (λ n ts. choice_rest n chosen ts) read_or (after_test chosen spot) (token (Keyword 20) spot ∷ more) more (λ n. refl)
      (λ n test ts deep. only_any _ (read_keyword 14 ts) _ (λ else_word more_3. only_any _ (read_expr n more_3) _
      (λ other rest. test_deep stop chosen spot test else_word other less deep)))
      finds));
}

pub test_refused : (room inner : ℕ) (before middle behind : List Token) (at : Pos) (chosen : Part) (stop : Stop) → Found or_part or_tree 6 room before chosen middle → Taken (Keyword 20) middle at behind → chosen.height < room → room ≤ suc inner
    → inner < room → Refused or_part inner behind stop → Refused expr_part room before stop
test_refused room inner before middle behind at chosen stop c i fits less smaller is =
    refused_same expr_part room _ _ stop (c.before_is ∙ ap (λ ts. or_tokens c.written ++ ts) i.before_is ∙ sym (append_assoc (or_tokens c.written) (token (Keyword 20) i.spot ∷ []) behind))
    (refused_inside expr_part room or_part inner (or_tokens c.written ++ token (Keyword 20) i.spot ∷ []) behind stop (test_inside room inner c.written i.spot behind less smaller (let same = c.height_is in omega (arith, fits, less, same))) is)

else_inside : (room inner : ℕ) (chosen : Or) (spot : Spot) (test : Or) (behind : List Token) → 6 < next_level behind → inner < room → or_depth chosen ≤ inner → or_depth test ≤ inner
    → Inside expr_part room (one_keyword 14) 0 (or_tokens chosen ++ token (Keyword 20) spot ∷ or_tokens test) behind
else_inside room inner chosen spot test behind beyond smaller fits test_fits = record {
  begins = λ at b. record {
    some = choice chosen spot test b (some_expr at);
    more = _;
    tokens_are = one_between (or_tokens chosen) (token (Keyword 20) spot) (or_tokens test) (token (Keyword 14) b) (expr_tokens (some_expr at));
    within = λ other apart any. let alone = alone_elsewhere at other apart in let low = or_low test other in
        choice_within room inner chosen (begins (or_tokens chosen) other) (or_lies test other) (expr_lies (some_expr at) other) other smaller fits (omega (arith, low, test_fits)) (omega (arith, alone));
    deep = λ stop deep. no_depth stop deep;
  };
  finds = λ stop more first finds. finds_same _ read_expr _ _ (append_assoc (or_tokens chosen) (token (Keyword 20) spot ∷ or_tokens test) more)
      (finds_behind _ read_expr read_or choice_rest 6 (or_tokens chosen) chosen (token (Keyword 20) spot ∷ or_tokens test ++ more) (λ n. refl) (reads_or chosen) (omega arith)
      (finds_after _ (λ n ts. choice_rest n chosen ts) read_or (after_test chosen spot) 6 (token (Keyword 20) spot ∷ or_tokens test ++ more) (or_tokens test) test more (λ n. refl) (reads_or test)
      (let level = next_level_same more behind first in omega (arith, beyond, level))
      (finds_now _ _ (λ n ts. after_test chosen spot n test ts) (λ n ts. read_keyword 14 ts) (λ n else_word more_3. go_on (read_expr n more_3) (λ other rest. Some (choice chosen spot test else_word other, rest))) more more (λ n. refl)
      (λ n else_word ts deep. only_any _ (read_expr n ts) _ (λ other rest. no_depth stop deep))
      finds)));
}

pub else_refused : (room inner : ℕ) (before middle_1 behind_1 middle_2 : List Token) (at : Pos) (chosen test : Part) (stop : Stop) → Found or_part or_tree 6 room before chosen middle_1 → Taken (Keyword 20) middle_1 at behind_1
    → chosen.height < room → room ≤ suc inner → inner < room → Found or_part or_tree 6 inner behind_1 test middle_2 → Refused (one_keyword 14) 0 middle_2 stop → Refused expr_part room before stop
else_refused room inner before middle_1 behind_1 middle_2 at chosen test stop c i fits less smaller t is =
    refused_same expr_part room _ _ stop (c.before_is ∙ ap (λ ts. or_tokens c.written ++ ts) (i.before_is ∙ ap (λ ts. token (Keyword 20) i.spot ∷ ts) t.before_is) ∙ sym (append_assoc (or_tokens c.written) (token (Keyword 20) i.spot ∷ or_tokens t.written) middle_2))
    (refused_inside expr_part room (one_keyword 14) 0 (or_tokens c.written ++ token (Keyword 20) i.spot ∷ or_tokens t.written) middle_2 stop (else_inside room inner c.written i.spot t.written middle_2 t.beyond smaller (let same = c.height_is in omega (arith, fits, less, same)) (let same = t.height_is in let low = t.fits in omega (arith, low, same))) is)

other_inside : (room inner : ℕ) (chosen : Or) (spot : Spot) (test : Or) (else_word : Spot) (behind : List Token) → room ≤ suc inner → inner < room → or_depth chosen ≤ inner → or_depth test ≤ inner
    → Inside expr_part room expr_part inner (or_tokens chosen ++ token (Keyword 20) spot ∷ (or_tokens test ++ token (Keyword 14) else_word ∷ [])) behind
other_inside room inner chosen spot test else_word behind less smaller fits test_fits = record {
  begins = λ at b. record {
    some = choice chosen spot test else_word b;
    more = [];
    tokens_are = last_behind (or_tokens chosen) (token (Keyword 20) spot) (or_tokens test) (token (Keyword 14) else_word) (expr_tokens b);
    within = λ other apart low. let test_low = or_low test other in
        choice_within room inner chosen (begins (or_tokens chosen) other) (or_lies test other) (expr_lies b other) other smaller fits (omega (arith, test_low, test_fits)) low;
    deep = λ stop deep. other_deep stop chosen spot test else_word b less deep;
  };
  finds = λ stop more first finds. finds_same _ read_expr _ _ (append_assoc (or_tokens chosen) (token (Keyword 20) spot ∷ (or_tokens test ++ token (Keyword 14) else_word ∷ [])) more ∙ ap (λ ts. or_tokens chosen ++ token (Keyword 20) spot ∷ ts) (append_assoc (or_tokens test) (token (Keyword 14) else_word ∷ []) more))
      (finds_behind _ read_expr read_or choice_rest 6 (or_tokens chosen) chosen (token (Keyword 20) spot ∷ or_tokens test ++ token (Keyword 14) else_word ∷ more) (λ n. refl) (reads_or chosen) (omega arith)
      (finds_after _ (λ n ts. choice_rest n chosen ts) read_or (after_test chosen spot) 6 (token (Keyword 20) spot ∷ or_tokens test ++ token (Keyword 14) else_word ∷ more) (or_tokens test) test (token (Keyword 14) else_word ∷ more) (λ n. refl) (reads_or test) (omega arith)
      (finds_now _ _ (λ n ts. after_test chosen spot n test ts) read_expr (λ n other rest. Some (choice chosen spot test else_word other, rest)) (token (Keyword 14) else_word ∷ more) more (λ n. refl)
      (λ n other rest deep. other_deep stop chosen spot test else_word other less deep)
      finds)));
}

pub other_refused : (room inner : ℕ) (before middle_1 behind_1 middle_2 behind_2 : List Token) (at else_at : Pos) (chosen test : Part) (stop : Stop) → Found or_part or_tree 6 room before chosen middle_1 → Taken (Keyword 20) middle_1 at behind_1
    → Found or_part or_tree 6 inner behind_1 test middle_2 → Taken (Keyword 14) middle_2 else_at behind_2 → chosen.height < room → room ≤ suc inner → inner < room → Refused expr_part inner behind_2 stop → Refused expr_part room before stop
other_refused room inner before middle_1 behind_1 middle_2 behind_2 at else_at chosen test stop c i t e fits less smaller is =
    refused_same expr_part room _ _ stop (c.before_is ∙ ap (λ ts. or_tokens c.written ++ ts) (i.before_is ∙ ap (λ ts. token (Keyword 20) i.spot ∷ ts) (t.before_is ∙ ap (λ ts. or_tokens t.written ++ ts) e.before_is
    ∙ sym (append_assoc (or_tokens t.written) (token (Keyword 14) e.spot ∷ []) behind_2))) ∙ sym (append_assoc (or_tokens c.written) (token (Keyword 20) i.spot ∷ (or_tokens t.written ++ token (Keyword 14) e.spot ∷ [])) behind_2))
    (refused_inside expr_part room expr_part inner (or_tokens c.written ++ token (Keyword 20) i.spot ∷ (or_tokens t.written ++ token (Keyword 14) e.spot ∷ [])) behind_2 stop (other_inside room inner c.written i.spot t.written e.spot behind_2 less smaller (let same = c.height_is in omega (arith, fits, less, same)) (let same = t.height_is in let low = t.fits in omega (arith, low, same))) is)
