-- The target of a `for`: what is read of it, and how it is refused.
use Rattle.std.proofs.Common.{◌≡◌, ◌⊎◌, inl, inr, ℕ, suc, ◌+◌, max, nat_lt, ◌≤◌, ◌<◌, Bool, true, false, ◌||◌, ◌==◌, List, [], ◌∷◌, ◌++◌, map, Option, Some, None, is_some, option_map, option_and_then, refl, ap, sym, ◌∙◌, arith, subst, append_assoc, append-nil, length, if◌then◌else◌}
use Rattle.std.proofs.Math.Nat.{le-max_left, le-max_right}
use Rattle.std.proofs.lemmas.Option.{same_Some}
use Rattle.std.proofs.lemmas.List.{append_cancel_left}
use Rattle.prov_base.specs.declared.place.Pos.{Pos}
use Rattle.py_lines.specs.declared.parts.Token.{Token}
use Rattle.py_lines.specs.declared.parts.TokenKind.{TokenKind}
use Rattle.py_lines.specs.declared.parts.TokenKind.TheVariants.{Word, Keyword, Number, Text, Sign}
use Rattle.py_tree.specs.declared.expr.Expr.{Expr as ExprRead}
use Rattle.py_tree.specs.Tree.{ExprTree, TargetTree, TargetsTree, many_target, more_targets, tuple_expr}
use Rattle.py_tree.specs.Erasure.{expr_of, exprs_list}
use Rattle.py_expressions.specs.declared.fault.Fault.{Fault}
use Rattle.py_expressions.specs.declared.fault.Fault.TheVariants.{Unexpected, TooDeep, TooMany, Memory}
use Rattle.py_expressions.specs.declared.fault.Stop.{Stop}
use Rattle.py_expressions.specs.declared.fault.Stop.TheVariants.{Here, End}
use Rattle.py_expressions.specs.declared.part.Part.{Part}
use Rattle.py_expressions.specs.declared.rows.Row.{Row}
use Rattle.py_expressions.specs.Concrete.{Spot, Sum}
use Rattle.py_expressions.specs.Tokens.{token, sum_tokens}
use Rattle.py_expressions.specs.Trees.{sum_tree}
use Rattle.py_grammar.specs.StatementDepth.{one_target_depth, target_rest_depth}
use Rattle.py_expressions.specs.Lies.{begins, sum_lies}
use Rattle.py_grammar.specs.StatementLies.{one_target_lies, target_rest_lies, target_lies, one_target_deepest}
use Rattle.py_expressions.proofs.Lying.{above_left, over_least, over_right, sum_low}
use Rattle.py_grammar.proofs.LyingLines.{one_target_low}
use Rattle.py_expressions.specs.Reader.{Read, go_on, next_level, kind_level, starts, begins_expr, is_sign, read_sign, read_sum}
use Rattle.py_expressions.specs.Targets.{OneTarget, named, item, field, TargetRest, end_rest_target, last_target, more_target, Target, one_target, several_targets, expr_target}
use Rattle.py_grammar.specs.StatementTokens.{one_target_tokens, target_rest_tokens, target_tokens}
use Rattle.py_grammar.specs.StatementTrees.{one_target_tree, target_rest_tree, target_tree}
use Rattle.py_grammar.specs.LineReader.{read_one_target, read_target_rest, target_rest_after, read_target}
use Rattle.py_expressions.specs.Parsed.{Production, sum_part, is_form, ShowsAt, IsDeep, Only, Finds, BeginsWithin, IsFirstDeep, GoesDeep, Shown, Refused, Found, Taken, is_sign_next, IsAtFirst, IsTooDeep}
use Rattle.py_expressions.specs.ParsedRows.{first_token}
use Rattle.py_grammar.specs.ParsedSimple.{target_form, targets_form, all_target_form}
use Rattle.py_grammar.specs.ParsedHead.{Took, target_part, passed_tokens, passed_lies, room_behind, BeginsTargets, FirstDeepTargets, UnreadTargets, ShownBy, EndedBy}
use Rattle.py_grammar.specs.ParsedNames.{target_rest_part, Followed, followed_tokens, GoesOnTargets, IsAheadOfTargets, TargetsRefused, TargetFound, TargetsEnd, ItemFound, WrongItem, ItemRefused, FoundTargets}
use Rattle.py_expressions.proofs.Leading.{Reads}
use Rattle.py_expressions.proofs.Reading.{if_false}
use Rattle.py_expressions.proofs.Refusals.{begins_whole, alone_elsewhere, deeper, max_below}
use Rattle.py_expressions.proofs.Deepest.{apart_front, apart_there}
use Rattle.py_expressions.proofs.Stops.{spot_at}
use Rattle.py_grammar.proofs.ShownLines.{shows_on_line}
use Rattle.py_grammar.proofs.TargetForms.{target_spelled, target_deep, target_deepest_so, one_target_reached, one_target_is_first, target_tree_is}
use Rattle.py_expressions.proofs.PrimParts.{go_on_once}
use Rattle.py_expressions.proofs.RowParts.{more_steps, sign_first, no_start}
use Rattle.py_grammar.proofs.HeadReading.{ReadsTargets, one_target_reads, target_rest_reads, begins_target}
use Rattle.py_grammar.proofs.TargetSums.{lift, target_sum, sum_spells, sum_lies_so, sum_form, sum_reads, same_sum, same_target, Unread, unread_sum, unread_wrong, unread_one, unread_passed, unread_full, ends_one, ends_none}
use Rattle.py_grammar.proofs.HeadParts.{first_same, first_shown, level_same, starts_same}

-- ---- a target was read

a_form : (o : Option OneTarget) → is_form o ≡ true → (t : OneTarget) × (o ≡ Some t)
a_form None is = absurd (let no : false ≡ true = is in cc)
a_form (Some t) is = (t, refl)

pub item_found : (room : ℕ) (before after : List Token) (part : Part) → Found sum_part sum_tree 3 room before part after → part.is_target ≡ true → ItemFound room before part after
item_found room before after part f fine =
    let t = a_form (expr_target (lift f.written)) (sym f.form_is ∙ fine) in
    record {
      target = t.0;
      before_is = f.before_is ∙ ap (λ ts. ts ++ after) (target_spelled (lift f.written) t.0 t.1);
      tree_is = ap target_form f.tree_is ∙ target_tree_is (lift f.written) t.0 t.1;
      height_is = f.height_is ∙ target_deep (lift f.written) t.0 t.1;
      deepest_is = f.deepest_is ∙ target_deepest_so (lift f.written) t.0 t.1;
      fits = f.fits;
      beyond = f.beyond;
    }

pub item_unread : (room : ℕ) (before : List Token) (stop : Stop) → Refused sum_part room before stop → ItemRefused room before stop
item_unread room before stop is = record { why = inl is }

pub item_wrong : (room : ℕ) (before after : List Token) (part : Part) (stop : Stop) → Found sum_part sum_tree 3 room before part after → part.is_target ≡ false → IsAtFirst after stop → ItemRefused room before stop
item_wrong room before after part stop f other first = record { why = inr (record { part = part; after = after; stop_is = first; found = f; form = other }) }

-- ---- how a target is refused where one stands

-- the target that is written there, no deeper than what it stands in
pub record ItemThere (lies : Pos → ℕ) (more : List Token) : Type 0 where
  pub target : OneTarget
  pub tail : List Token
  pub tokens_are : one_target_tokens target ++ tail ≡ more
  pub beyond : 3 < next_level tail
  pub higher : (at : Pos) → one_target_lies target at ≤ lies at

found_deep : (why : Stop) (room : ℕ) (lies : Pos → ℕ) (more : List Token) → Finds (λ s. IsDeep why room (sum_lies s)) read_sum more → ItemThere lies more → IsDeep why room lies
found_deep why room lies more finds i =
    let one = sum_reads (target_sum i.target) in
    let is : read_sum (one.steps + finds.steps) more ≡ Some (target_sum i.target, i.tail) =
    more_steps (λ n. read_sum n more) (one.steps + finds.steps) (finds.steps + one.steps) (omega arith)
    ∙ ap (read_sum (finds.steps + one.steps)) (sym i.tokens_are ∙ ap (λ ts. ts ++ i.tail) (sum_spells i.target)) ∙ one.reads finds.steps i.tail i.beyond in
    let deep : IsDeep why room (sum_lies (target_sum i.target)) = subst (Only (λ s. IsDeep why room (sum_lies s))) is (finds.only one.steps) in
    deeper why room (sum_lies (target_sum i.target)) room lies deep (λ at some. let same = sum_lies_so i.target at in let higher = i.higher at in omega (arith, same, higher))

no_target : (s : Sum) (lies : Pos → ℕ) (rest more : List Token) → is_form (expr_target (lift s)) ≡ false → 3 < next_level rest → sum_tokens s ++ rest ≡ more → ItemThere lies more → ⊥
no_target s lies rest more other above is i =
    let same = same_sum s (target_sum i.target) rest i.tail above i.beyond (is ∙ sym i.tokens_are ∙ ap (λ ts. ts ++ i.tail) (sum_spells i.target)) in
    let no : true ≡ false = sym (sum_form i.target) ∙ ap (λ s. is_form (expr_target (lift s))) (sym same.0) ∙ other in
    cc

room_low : (room : ℕ) (passed : List (OneTarget × Spot)) → 99 ≤ room → room_behind room passed ≤ room
room_low room [] low = omega arith
room_low room (p ∷ passed) low = low

high_behind : (a b room inner : ℕ) → inner < b → room ≤ inner → room < max a b
high_behind a b room inner deep low = omega (arith, deep, low)

-- what lies too deep first in a sum does so in targets and the sum
deep_sum : (room : ℕ) (passed : List (OneTarget × Spot)) (front tokens : List Token) (place : Pos) → passed_tokens passed ≡ front → 99 ≤ room → room ≤ room_behind room passed → ((at : Pos) → passed_lies passed at ≤ room) → IsFirstDeep sum_part room tokens place
    → FirstDeepTargets room (front ++ tokens) place
deep_sum room passed front tokens place is low above passed_low f = record {
  passed = passed;
  some = f.some;
  more = f.more;
  tokens_are = ap (λ ts. ts ++ sum_tokens f.some) is ∙ ap (λ ts. front ++ ts) f.tokens_are ∙ sym (append_assoc front tokens f.more);
  ahead = front ++ f.ahead;
  named = f.named;
  between = f.between;
  front_is = ap (λ ts. front ++ ts) f.front_is ∙ sym (append_assoc front f.ahead (f.named ∷ f.between));
  named_is = f.named_is;
  deep = high_behind (passed_lies passed place) (sum_lies f.some place) (room_behind room passed) room f.deep (room_low room passed low);
  within = λ other apart. max_below _ _ _ (let one = passed_low other in omega (arith, one, above)) (let two = f.within other apart in omega (arith, two, above));
}

-- a target was read within this room
item_fits : {room : ℕ} {before after : List Token} {part : Part} → (f : ItemFound room before part after) → one_target_depth f.target ≤ room
item_fits f = let high = f.height_is in let low = f.fits in omega (arith, high, low)

target_within : (t : OneTarget) (room : ℕ) → one_target_depth t ≤ room → (at : Pos) → one_target_lies t at ≤ room
target_within t room fits at = let low = one_target_low t at in omega (arith, low, fits)

-- a sum was read within this room
sum_within : {room : ℕ} {before after : List Token} {part : Part} → (f : Found sum_part sum_tree 3 room before part after) → (at : Pos) → sum_lies f.written at ≤ room
sum_within f at = let low = sum_low f.written at in let high = f.height_is in let fits = f.fits in omega (arith, low, high, fits)

goes_sum : (room : ℕ) (front tokens : List Token) (t : Token) (behind : List Token) (fault : Fault) → ((ts : List Token) (place : Pos) → IsFirstDeep sum_part room ts place → FirstDeepTargets room (front ++ ts) place) → ShowsAt behind fault
    → GoesDeep sum_part room tokens t fault → GoesOnTargets room (front ++ tokens) t fault
goes_sum room front tokens t behind (TooDeep at) first shows f = subst (λ (ts : List Token). FirstDeepTargets room ts at) (sym (append_assoc front tokens (t ∷ []))) (first (tokens ++ t ∷ []) at f)
goes_sum room front tokens t behind (Unexpected left) first shows goes = tt
goes_sum room front tokens t behind (TooMany at) first shows goes = absurd shows
goes_sum room front tokens t behind Memory first shows goes = tt

module _ {A : Type 0} (p : Production A) (room : ℕ) (front rest before : List Token) (before_is : before ≡ front ++ rest) (passed : List (OneTarget × Spot)) (passed_is : passed_tokens passed ≡ front) (low : 99 ≤ room)
    (above : room ≤ room_behind room passed) (passed_low : (at : Pos) → passed_lies passed at ≤ room)
    (there : (w : Followed A) (more : List Token) → followed_tokens p w ≡ front ++ more → first_token more ≡ first_token rest → ItemThere (p.lies w.part) more) where
  unread_there : (tokens : List Token) (t : Token) (fault : Fault) → ((more : List Token) → Unread (Here fault) room (tokens ++ t ∷ more)) → UnreadTargets room (front ++ tokens) t fault
  unread_there tokens t fault unread = record {
    there = λ ps s more is. unread_passed (Here fault) room passed (tokens ++ t ∷ more) low (unread more) ps s (is ∙ append_assoc front tokens (t ∷ more) ∙ ap (λ ts. ts ++ (tokens ++ t ∷ more)) (sym passed_is));
  }

  begins_sum : (tokens : List Token) → BeginsWithin sum_part room tokens → BeginsTargets room (front ++ tokens)
  begins_sum tokens b = λ at. let k = b at in record {
    passed = passed;
    some = k.some;
    more = k.more;
    tokens_are = ap (λ ts. ts ++ sum_tokens k.some) passed_is ∙ ap (λ ts. front ++ ts) k.tokens_are ∙ sym (append_assoc front tokens k.more);
    within = λ other apart. max_below _ _ _ (let one = passed_low other in omega (arith, one, above)) (let two = k.within other apart in omega (arith, two, above));
  }

  shown_item : (fault : Fault) → Shown sum_part room rest fault → ShownBy (BeginsTargets room) (IsAheadOfTargets room) (followed_tokens p) (λ fault w. IsDeep (Here fault) room (p.lies w.part)) before fault
  shown_item fault s = record {
    front = front ++ s.front;
    shown_by = s.shown_by;
    behind = s.behind;
    before_is = before_is ∙ ap (λ ts. front ++ ts) s.before_is ∙ sym (append_assoc front s.front (s.shown_by ∷ s.behind));
    left_is = shows_on_line s.shown_by s.behind fault s.left_is;
    begun = begins_sum s.front s.begins;
    goes_on = (
      goes_sum room front s.front s.shown_by s.behind fault (λ ts place f. deep_sum room passed front ts place passed_is low above passed_low f) s.left_is s.goes_on,
      unread_there s.front s.shown_by fault (λ more. unread_sum (Here fault) room (s.front ++ s.shown_by ∷ more) low (s.none more)),
    );
    none = λ w more is. found_deep (Here fault) room (p.lies w.part) (s.front ++ s.shown_by ∷ more) (s.none more)
        (there w (s.front ++ s.shown_by ∷ more) (is ∙ append_assoc front s.front (s.shown_by ∷ more)) (first_shown s.front s.shown_by more s.behind ∙ sym (ap first_token s.before_is)));
  }

  read_refused : (stop : Stop) → Refused sum_part room rest stop → TargetsRefused p room before stop
  read_refused (Here Memory) is = tt
  read_refused (Here (Unexpected at)) is = shown_item (Unexpected at) is
  read_refused (Here (TooDeep at)) is = shown_item (TooDeep at) is
  read_refused (Here (TooMany at)) is = absurd is.left_is
  read_refused End is = record {
    begun = subst (BeginsTargets room) (sym before_is) (begins_sum rest is.0);
    none = λ w same. found_deep End room (p.lies w.part) rest is.1 (there w rest (same ∙ before_is) refl);
  }

  wrong_at : (part : Part) (after : List Token) → (f : Found sum_part sum_tree 3 room rest part after) → part.is_target ≡ false → (ts : List Token) (stop : Stop) → after ≡ ts → IsAtFirst ts stop → TargetsRefused p room before stop
  wrong_at part after f other [] (Here fault) is first = absurd (let no : Here fault ≡ End = first in cc)
  wrong_at part after f other [] End is first = record {
    begun = subst (BeginsTargets room) (sym (before_is ∙ ap (λ ts. front ++ ts) (f.before_is ∙ ap (λ ts. sum_tokens f.written ++ ts) is ∙ append-nil (sum_tokens f.written))))
        (begins_sum (sum_tokens f.written) (begins_whole sum_part room f.written (sum_within f)));
    none = λ w same. absurd (no_target f.written (p.lies w.part) after rest (sym f.form_is ∙ other) f.beyond (sym f.before_is) (there w rest (same ∙ before_is) refl));
  }
  wrong_at part after f other (t ∷ ts) (Here (Unexpected left)) is first = record {
    front = front ++ sum_tokens f.written;
    shown_by = t;
    behind = ts;
    before_is = before_is ∙ ap (λ ts. front ++ ts) (f.before_is ∙ ap (λ ts. sum_tokens f.written ++ ts) is) ∙ sym (append_assoc front (sum_tokens f.written) (t ∷ ts));
    left_is = first;
    begun = begins_sum (sum_tokens f.written) (begins_whole sum_part room f.written (sum_within f));
    goes_on = (tt, unread_there (sum_tokens f.written) t (Unexpected left) (λ more. unread_wrong (Here (Unexpected left)) room f.written t more (sym f.form_is ∙ other) (subst (λ (ts : List Token). 3 < next_level ts) is f.beyond)));
    none = λ w more same. absurd (no_target f.written (p.lies w.part) (t ∷ more) (sum_tokens f.written ++ t ∷ more) (sym f.form_is ∙ other) (subst (λ (ts : List Token). 3 < next_level ts) is f.beyond) refl
        (there w (sum_tokens f.written ++ t ∷ more) (same ∙ append_assoc front (sum_tokens f.written) (t ∷ more))
        (first_shown (sum_tokens f.written) t more ts ∙ sym (ap first_token (f.before_is ∙ ap (λ ts. sum_tokens f.written ++ ts) is)))));
  }
  wrong_at part after f other (t ∷ ts) (Here (TooDeep place)) is first = absurd first
  wrong_at part after f other (t ∷ ts) (Here (TooMany place)) is first = absurd first
  wrong_at part after f other (t ∷ ts) (Here Memory) is first = absurd first
  wrong_at part after f other (t ∷ ts) End is first = absurd first

  pub item_refused : (stop : Stop) → ItemRefused room rest stop → TargetsRefused p room before stop
  item_refused stop r = by r.why
    where
      by : Refused sum_part room rest stop ⊎ WrongItem room rest stop → TargetsRefused p room before stop
      by (inl is) = read_refused stop is
      by (inr w) = wrong_at w.part w.after w.found w.form w.after stop refl w.stop_is

-- ---- what is written in front of `in`

-- what was refused inside is refused where it stands
pub record Inner {B : Type 0} (q : Production B) (inner room : ℕ) (lies : Pos → ℕ) (more : List Token) : Type 0 where
  pub part : Followed B
  pub tokens_are : followed_tokens q part ≡ more
  pub higher : (at : Pos) → 1 ≤ q.lies part.part at → room + q.lies part.part at ≤ inner + lies at

module _ {A B : Type 0} (p : Production A) (room : ℕ) (q : Production B) (inner : ℕ) (front rest before : List Token) (before_is : before ≡ front ++ rest)
    (opens : (ts : List Token) → BeginsTargets inner ts → BeginsTargets room (front ++ ts)) (first : (ts : List Token) (place : Pos) → FirstDeepTargets inner ts place → FirstDeepTargets room (front ++ ts) place)
    (unread : (ts : List Token) (t : Token) (fault : Fault) → UnreadTargets inner ts t fault → UnreadTargets room (front ++ ts) t fault)
    (there : (w : Followed A) (more : List Token) → followed_tokens p w ≡ front ++ more → Inner q inner room (p.lies w.part) more) where
  goes_rest : (tokens : List Token) (t : Token) (fault : Fault) → GoesOnTargets inner tokens t fault → GoesOnTargets room (front ++ tokens) t fault
  goes_rest tokens t (TooDeep at) f = subst (λ (ts : List Token). FirstDeepTargets room ts at) (sym (append_assoc front tokens (t ∷ []))) (first (tokens ++ t ∷ []) at f)
  goes_rest tokens t (TooMany at) goes = goes
  goes_rest tokens t (Unexpected left) goes = tt
  goes_rest tokens t Memory goes = tt

  shown_rest : (fault : Fault) → ShownBy (BeginsTargets inner) (IsAheadOfTargets inner) (followed_tokens q) (λ fault w. IsDeep (Here fault) inner (q.lies w.part)) rest fault → ShownBy (BeginsTargets room) (IsAheadOfTargets room) (followed_tokens p) (λ fault w. IsDeep (Here fault) room (p.lies w.part)) before fault
  shown_rest fault s = record {
    front = front ++ s.front;
    shown_by = s.shown_by;
    behind = s.behind;
    before_is = before_is ∙ ap (λ ts. front ++ ts) s.before_is ∙ sym (append_assoc front s.front (s.shown_by ∷ s.behind));
    left_is = s.left_is;
    begun = opens s.front s.begun;
    goes_on = (goes_rest s.front s.shown_by fault s.goes_on.0, unread s.front s.shown_by fault s.goes_on.1);
    none = λ w more is.
        let i = there w (s.front ++ s.shown_by ∷ more) (is ∙ append_assoc front s.front (s.shown_by ∷ more)) in
        deeper (Here fault) inner (q.lies i.part.part) room (p.lies w.part) (s.none i.part more i.tokens_are) i.higher;
  }

  ended_rest : (stop : Stop) → EndedBy (BeginsTargets inner) (followed_tokens q) (λ w. IsDeep stop inner (q.lies w.part)) rest → EndedBy (BeginsTargets room) (followed_tokens p) (λ w. IsDeep stop room (p.lies w.part)) before
  ended_rest stop e = record {
    begun = subst (BeginsTargets room) (sym before_is) (opens rest e.begun);
    none = λ w is.
        let i = there w rest (is ∙ before_is) in
        deeper stop inner (q.lies i.part.part) room (p.lies w.part) (e.none i.part i.tokens_are) i.higher;
  }

  pub rest_refused : (stop : Stop) → TargetsRefused q inner rest stop → TargetsRefused p room before stop
  rest_refused (Here Memory) is = tt
  rest_refused (Here (Unexpected at)) is = shown_rest (Unexpected at) is
  rest_refused (Here (TooDeep at)) is = shown_rest (TooDeep at) is
  rest_refused (Here (TooMany at)) is = shown_rest (TooMany at) is
  rest_refused End is = ended_rest End is

first_there : (w : Followed Target) (more : List Token) → followed_tokens target_part w ≡ more → ItemThere (target_lies w.part) more
first_there w more is = by w.part is
  where
    by : (t : Target) → target_tokens t ++ token (Keyword 22) w.in_word ∷ w.behind ≡ more → ItemThere (target_lies t) more
    by (one_target t) same = record { target = t; tail = token (Keyword 22) w.in_word ∷ w.behind; tokens_are = same; beyond = omega arith; higher = λ at. omega arith }
    by (several_targets t comma r) same = record {
      target = t;
      tail = token (Sign 6) comma ∷ (target_rest_tokens r ++ token (Keyword 22) w.in_word ∷ w.behind);
      tokens_are = sym (append_assoc (one_target_tokens t) (token (Sign 6) comma ∷ target_rest_tokens r) (token (Keyword 22) w.in_word ∷ w.behind)) ∙ same;
      beyond = omega arith;
      higher = λ at. let high = le-max_left (one_target_lies t at) (target_rest_lies r at) in let more_deep = over_least (begins (one_target_tokens t) at) (max (one_target_lies t at) (target_rest_lies r at)) in omega (arith, high, more_deep);
    }

-- the first target is refused
pub first_refused : (before : List Token) (stop : Stop) → ItemRefused 100 before stop → TargetsRefused target_part 100 before stop
first_refused before stop is = item_refused target_part 100 [] before before refl [] refl (omega arith) (omega arith) (λ at. omega arith) (λ w more same first. first_there w more same) stop is

-- behind a target and a comma several are written
record Several (w : Followed Target) (t : OneTarget) (more : List Token) : Type 0 where
  comma : Spot
  rest : TargetRest
  part_is : w.part ≡ several_targets t comma rest
  tokens_are : target_rest_tokens rest ++ token (Keyword 22) w.in_word ∷ w.behind ≡ more

several_there : (w : Followed Target) (t : OneTarget) (comma : Spot) (more : List Token) → followed_tokens target_part w ≡ one_target_tokens t ++ token (Sign 6) comma ∷ more → Several w t more
several_there w t comma more is = by w.part refl is
  where
    same_first : (a b : Token) (x y : List Token) → a ∷ x ≡ b ∷ y → a ≡ b
    same_first a b x y is = cc

    behind_it : (a b : Token) (x y : List Token) → a ∷ x ≡ b ∷ y → x ≡ y
    behind_it a b x y is = cc

    by : (u : Target) → w.part ≡ u → target_tokens u ++ token (Keyword 22) w.in_word ∷ w.behind ≡ one_target_tokens t ++ token (Sign 6) comma ∷ more → Several w t more
    by (one_target u) part same =
        let both = same_target u t (token (Keyword 22) w.in_word ∷ w.behind) (token (Sign 6) comma ∷ more) (omega arith) (omega arith) same in
        let one : Keyword 22 ≡ Sign 6 = ap (λ (v : Token). v.kind) (same_first (token (Keyword 22) w.in_word) (token (Sign 6) comma) w.behind more both.1) in
        absurd (let no : is_sign 6 (Keyword 22) ≡ is_sign 6 (Sign 6) = ap (is_sign 6) one in cc)
    by (several_targets u c r) part same =
        let i : List Token = token (Keyword 22) w.in_word ∷ w.behind in
        let both = same_target u t (token (Sign 6) c ∷ (target_rest_tokens r ++ i)) (token (Sign 6) comma ∷ more) (omega arith) (omega arith) (sym (append_assoc (one_target_tokens u) (token (Sign 6) c ∷ target_rest_tokens r) i) ∙ same) in
        record {
          comma = c;
          rest = r;
          part_is = part ∙ ap (λ t. several_targets t c r) both.0;
          tokens_are = behind_it (token (Sign 6) c) (token (Sign 6) comma) (target_rest_tokens r ++ i) more both.1;
        }

some_target_depth : (t : OneTarget) → 1 ≤ one_target_depth t
some_target_depth (named at bytes) = omega arith
some_target_depth (item e opening index closing) = omega arith
some_target_depth (field e dot name_at bytes) = omega arith

abbrev some_there : Pos → OneTarget
some_there at = named (spot_at at) []

-- a target that goes 100 deep and a comma, where what is put behind it begins at the place of its first deepest
full_deep : (t : OneTarget) (comma : Spot) (place : Pos) → place ≡ one_target_deepest t → one_target_depth t ≡ 100 → FirstDeepTargets 100 (one_target_tokens t ++ token (Sign 6) comma ∷ []) place
full_deep t comma place is depth_is =
    let first = one_target_is_first t in
    record {
      passed = (t, comma) ∷ [];
      some = target_sum (some_there place);
      more = sum_tokens (target_sum (some_there place));
      tokens_are = refl;
      ahead = first.ahead;
      named = first.named;
      between = first.later ++ token (Sign 6) comma ∷ [];
      front_is = ap (λ ts. ts ++ token (Sign 6) comma ∷ []) first.tokens_are ∙ append_assoc first.ahead (first.named ∷ first.later) (token (Sign 6) comma ∷ []);
      named_is = first.named_is ∙ sym is;
      deep =
          let there : one_target_lies t place ≡ one_target_depth t = ap (one_target_lies t) is ∙ first.lies_is in
          full_high (one_target_lies t place) (sum_lies (target_sum (some_there place)) place) (one_target_depth t) there depth_is;
      within = λ other apart.
          let less = first.less other (apart_front other (first.named ∷ first.later) (token (Sign 6) comma ∷ []) apart) in
          let none : sum_lies (target_sum (some_there place)) other ≡ 0 = alone_elsewhere place other (apart_there first.named.at other place apart.0 (first.named_is ∙ sym is)) in
          full_low (one_target_lies t other) (sum_lies (target_sum (some_there place)) other) (one_target_depth t) less none depth_is;
    }
  where
    full_high : (a b depth : ℕ) → a ≡ depth → depth ≡ 100 → 99 < max (max a 0) b
    full_high a b depth there is = omega (arith, there, is)

    full_low : (a b depth : ℕ) → a < depth → b ≡ 0 → depth ≡ 100 → max (max a 0) b ≤ 99
    full_low a b depth less none is = omega (arith, less, none, is)

-- several targets lie one deeper, and there is no room
pub first_full : (before middle behind : List Token) (at : Pos) (first : Part) (stop : Stop) → ItemFound 100 before first middle → Taken (Sign 6) middle at behind → IsTooDeep first.height first.deepest 100 stop → TargetsRefused target_part 100 before stop
first_full before middle behind at first (Here (TooDeep place)) f k deep = record {
  front = one_target_tokens f.target;
  shown_by = token (Sign 6) k.spot;
  behind = behind;
  before_is = f.before_is ∙ ap (λ ts. one_target_tokens f.target ++ ts) k.before_is;
  left_is = tt;
  begun = λ at. record {
    passed = [];
    some = target_sum f.target;
    more = [];
    tokens_are = sym (sum_spells f.target) ∙ sym (append-nil (one_target_tokens f.target));
    within = λ other apart. let same = sum_lies_so f.target other in let low = target_within f.target 100 (item_fits f) other in omega (arith, same, low);
  };
  goes_on = (
    full_deep f.target k.spot place (deep.1 ∙ f.deepest_is) (let low = deep.0 in let high = f.fits in let same = f.height_is in omega (arith, low, high, same)),
    record { there = λ passed s more is. unread_full 100 place f.target k.spot more (first_deep place deep.0 deep.1) passed s is },
  );
  none = λ w more is.
      let s = several_there w f.target k.spot more is in
      let there : target_lies w.part place ≡ target_lies (several_targets f.target s.comma s.rest) place = ap (λ t. target_lies t place) s.part_is in
      let same : target_lies (several_targets f.target s.comma s.rest) place ≡ target_lies (several_targets f.target s.comma s.rest) first.deepest = ap (target_lies (several_targets f.target s.comma s.rest)) deep.1 in
      let low = deep.0 in
      let more_deep = above_left (begins (one_target_tokens f.target) first.deepest) (one_target_lies f.target first.deepest) (target_rest_lies s.rest first.deepest) first.height (one_target_depth f.target) f.height_is there_is (some_target_depth f.target) in
      omega (arith, low, there, same, more_deep);
}
  where
    there_is : one_target_lies f.target first.deepest ≡ one_target_depth f.target
    there_is = ap (one_target_lies f.target) f.deepest_is ∙ one_target_reached f.target

    first_deep : (place : Pos) → 100 ≤ first.height → place ≡ first.deepest → 99 < one_target_lies f.target place
    first_deep place low same = let there = ap (one_target_lies f.target) same in let high = f.height_is in let deepest = there_is in omega (arith, low, there, high, deepest)
first_full before middle behind at first (Here (Unexpected place)) f k deep = absurd deep
first_full before middle behind at first (Here (TooMany place)) f k deep = absurd deep
first_full before middle behind at first (Here Memory) f k deep = absurd deep
first_full before middle behind at first End f k deep = absurd deep

comma_behind : (tokens : List Token) (comma : Token) (more : List Token) → (tokens ++ comma ∷ []) ++ more ≡ tokens ++ comma ∷ more
comma_behind tokens comma more = append_assoc tokens (comma ∷ []) more

one_ahead : (t : OneTarget) (comma : Spot) (passed : List (OneTarget × Spot)) (s : Sum) (ts more : List Token) → passed_tokens passed ++ sum_tokens s ≡ ts ++ more
    → (one_target_tokens t ++ token (Sign 6) comma ∷ passed_tokens passed) ++ sum_tokens s ≡ ((one_target_tokens t ++ token (Sign 6) comma ∷ []) ++ ts) ++ more
one_ahead t comma passed s ts more is =
    append_assoc (one_target_tokens t) (token (Sign 6) comma ∷ passed_tokens passed) (sum_tokens s) ∙ ap (λ ts. one_target_tokens t ++ token (Sign 6) comma ∷ ts) is
    ∙ sym (comma_behind (one_target_tokens t) (token (Sign 6) comma) (ts ++ more)) ∙ sym (append_assoc (one_target_tokens t ++ token (Sign 6) comma ∷ []) ts more)

-- in several targets there is the same room behind any of them
same_room : (passed : List (OneTarget × Spot)) → room_behind 99 passed ≡ 99
same_room [] = refl
same_room (p ∷ passed) = refl

first_within : (t : OneTarget) (passed : List (OneTarget × Spot)) (inner : ℕ) (at : Pos) → one_target_depth t ≤ 99 → max (passed_lies passed at) inner ≤ room_behind 99 passed → max (max (one_target_lies t at) (passed_lies passed at)) inner ≤ 99
first_within t passed inner at fits low = let same = same_room passed in let one = target_within t 99 fits at in omega (arith, same, one, low)

one_more_deep : (a b c room : ℕ) → room < max b c → room ≡ 99 → 99 < max (max a b) c
one_more_deep a b c room deep is = omega (arith, deep, is)

-- what stands behind the first comma is refused
pub others_refused : (before middle behind : List Token) (at : Pos) (first : Part) (stop : Stop) → ItemFound 100 before first middle → Taken (Sign 6) middle at behind → first.height < 100 → TargetsRefused target_rest_part 99 behind stop → TargetsRefused target_part 100 before stop
others_refused before middle behind at first stop f k less is =
    rest_refused target_part 100 target_rest_part 99 (one_target_tokens f.target ++ token (Sign 6) k.spot ∷ []) behind before
    (f.before_is ∙ ap (λ ts. one_target_tokens f.target ++ ts) k.before_is ∙ sym (comma_behind (one_target_tokens f.target) (token (Sign 6) k.spot) behind))
    (λ ts b at. let c = b at in record {
      passed = (f.target, k.spot) ∷ c.passed;
      some = c.some;
      more = c.more;
      tokens_are = one_ahead f.target k.spot c.passed c.some ts c.more c.tokens_are;
      within = λ other apart. first_within f.target c.passed (sum_lies c.some other) other (let same = f.height_is in omega (arith, less, same)) (c.within other apart);
    })
    (λ ts place b. record {
      passed = (f.target, k.spot) ∷ b.passed;
      some = b.some;
      more = b.more;
      tokens_are = one_ahead f.target k.spot b.passed b.some ts b.more b.tokens_are;
      ahead = (one_target_tokens f.target ++ token (Sign 6) k.spot ∷ []) ++ b.ahead;
      named = b.named;
      between = b.between;
      front_is = ap (λ us. (one_target_tokens f.target ++ token (Sign 6) k.spot ∷ []) ++ us) b.front_is ∙ sym (append_assoc (one_target_tokens f.target ++ token (Sign 6) k.spot ∷ []) b.ahead (b.named ∷ b.between));
      named_is = b.named_is;
      deep = let deep = b.deep in one_more_deep (one_target_lies f.target place) (passed_lies b.passed place) (sum_lies b.some place) (room_behind 99 b.passed) deep (same_room b.passed);
      within = λ other apart. first_within f.target b.passed (sum_lies b.some other) other (let same = f.height_is in omega (arith, less, same)) (b.within other apart);
    })
    (λ ts t fault u. record {
      there = λ passed s more same. unread_one (Here fault) 99 100 f.target k.spot (ts ++ t ∷ more) (omega arith) (λ ps s is. u.there ps s more is) passed s
          (same ∙ append_assoc (one_target_tokens f.target ++ token (Sign 6) k.spot ∷ []) ts (t ∷ more) ∙ comma_behind (one_target_tokens f.target) (token (Sign 6) k.spot) (ts ++ t ∷ more));
    })
    (λ w more same.
    let s = several_there w f.target k.spot more (same ∙ comma_behind (one_target_tokens f.target) (token (Sign 6) k.spot) more) in
    record {
      part = record { part = s.rest; in_word = w.in_word; behind = w.behind };
      tokens_are = s.tokens_are;
      higher = λ place some.
          let there : target_lies w.part place ≡ target_lies (several_targets f.target s.comma s.rest) place = ap (λ t. target_lies t place) s.part_is in
          let more_deep = over_right (begins (one_target_tokens f.target) place) (one_target_lies f.target place) (target_rest_lies s.rest place) some in
          omega (arith, there, more_deep);
    })
    stop is

-- ---- targets behind a comma

-- `put` puts what comes behind what was read
pub record TargetsGo (room : ℕ) (before : List Token) (old : Row) (after : List Token) (row : Row) : Type 0 where
  pub put : TargetRest → TargetRest
  pub front : List Token
  pub before_is : before ≡ front ++ after
  pub tokens_are : (r : TargetRest) → target_rest_tokens (put r) ≡ front ++ target_rest_tokens r
  pub passed : List (OneTarget × Spot)
  pub passed_is : passed_tokens passed ≡ front
  pub passed_low : (at : Pos) → passed_lies passed at ≤ room
  pub trees : List ExprTree
  pub row_is : map expr_of row.list.items ≡ map expr_of old.list.items ++ trees
  pub forms : (es : List ExprTree) (r : TargetRest) → targets_form (exprs_list es) ≡ Some (target_rest_tree r) → targets_form (exprs_list (trees ++ es)) ≡ Some (target_rest_tree (put r))
  pub depth : ℕ
  pub height_is : row.height ≡ max old.height depth
  pub depth_is : (r : TargetRest) → target_rest_depth (put r) ≡ max depth (target_rest_depth r)
  pub lies : Pos → ℕ
  pub lies_is : (r : TargetRest) (at : Pos) → target_rest_lies (put r) at ≡ max (lies at) (target_rest_lies r at)
  pub fits : row.height ≤ room
  pub steps : ℕ
  pub behind : ℕ
  pub leads : (n : ℕ) (tail : List Token) → read_target_rest (n + steps) (front ++ tail) ≡ go_on (read_target_rest (n + behind) tail) (λ r rest. Some (put r, rest))

go_on_itself : {A : Type 0} (r : Read A) → r ≡ go_on r (λ a rest. Some (a, rest))
go_on_itself None = refl
go_on_itself (Some (a, rest)) = refl

pub targets_init : (room : ℕ) (before : List Token) (row : Row) → row.height ≤ room → TargetsGo room before row before row
targets_init room before row fits = record {
  put = λ r. r;
  front = [];
  before_is = refl;
  tokens_are = λ r. refl;
  passed = [];
  passed_is = refl;
  passed_low = λ at. omega arith;
  trees = [];
  row_is = sym (append-nil (map expr_of row.list.items));
  forms = λ es r is. is;
  depth = 0;
  height_is = none_above row.height;
  depth_is = λ r. none_below (target_rest_depth r);
  lies = λ at. 0;
  lies_is = λ r at. none_below (target_rest_lies r at);
  fits = fits;
  steps = 0;
  behind = 0;
  leads = λ n tail. go_on_itself (read_target_rest (n + 0) tail);
}
  where
    none_above : (n : ℕ) → n ≡ max n 0
    none_above n = omega arith

    none_below : (n : ℕ) → n ≡ max 0 n
    none_below n = omega arith

map_append : (xs ys : List ExprRead) → map expr_of (xs ++ ys) ≡ map expr_of xs ++ map expr_of ys
map_append [] ys = refl
map_append (x ∷ xs) ys = ap (λ es. expr_of x ∷ es) (map_append xs ys)

pushed_trees : (xs ys : List ExprRead) (e : ExprRead) (ts us : List ExprTree) → ys ≡ xs ++ e ∷ [] → map expr_of xs ≡ ts ++ us → map expr_of ys ≡ ts ++ (us ++ expr_of e ∷ [])
pushed_trees xs ys e ts us is old = ap (map expr_of) is ∙ map_append xs (e ∷ []) ∙ ap (λ vs. vs ++ expr_of e ∷ []) old ∙ append_assoc ts us (expr_of e ∷ [])

max_assoc : (a b c : ℕ) → max (max a b) c ≡ max a (max b c)
max_assoc a b c = omega arith

below_both : (a b c d : ℕ) → a ≡ max b c → b ≤ d → c ≤ d → a ≤ d
below_both a b c d is one other = omega (arith, is, one, other)

behind_comma : (front tokens : List Token) (comma : Token) (after : List Token) → front ++ (tokens ++ comma ∷ after) ≡ (front ++ (tokens ++ comma ∷ [])) ++ after
behind_comma front tokens comma after = sym (append_assoc front (tokens ++ comma ∷ []) after ∙ ap (λ ts. front ++ ts) (append_assoc tokens (comma ∷ []) after))

-- one more target in a row
one_form : (e : ExprTree) (es : List ExprTree) (t : TargetTree) (ts : TargetsTree) → target_form e ≡ Some t → targets_form (exprs_list es) ≡ Some ts → targets_form (exprs_list (e ∷ es)) ≡ Some (more_targets t ts)
one_form e es t ts is rest = ap (λ o. option_and_then (λ t. option_map (more_targets t) (targets_form (exprs_list es))) o) is ∙ ap (option_map (more_targets t)) rest

comma_step : (t : OneTarget) (comma : Spot) (m : ℕ) (tail : List Token) → (is : Reads read_one_target 1 (one_target_tokens t) t)
    → read_target_rest (suc (suc (m + is.steps))) (one_target_tokens t ++ token (Sign 6) comma ∷ tail) ≡ go_on (read_target_rest (m + is.steps) tail) (λ r rest. Some (more_target t comma r, rest))
comma_step t comma m tail is =
    begins_target t (suc (m + is.steps)) (token (Sign 6) comma ∷ tail)
    ∙ more_steps (λ k. go_on (read_one_target k (one_target_tokens t ++ token (Sign 6) comma ∷ tail)) (λ t rest. target_rest_after (suc (m + is.steps)) t rest)) (suc (m + is.steps)) (suc m + is.steps) (omega arith)
    ∙ ap (λ r. go_on r (λ t rest. target_rest_after (suc (m + is.steps)) t rest)) (is.reads (suc m) (token (Sign 6) comma ∷ tail) (omega arith))

targets_lead : (put : TargetRest → TargetRest) (front : List Token) (steps behind : ℕ) → ((n : ℕ) (tail : List Token) → read_target_rest (n + steps) (front ++ tail) ≡ go_on (read_target_rest (n + behind) tail) (λ r rest. Some (put r, rest)))
    → (t : OneTarget) (comma : Spot) (is : Reads read_one_target 1 (one_target_tokens t) t) (n : ℕ) (tail : List Token)
    → read_target_rest (n + (suc (suc is.steps) + steps)) ((front ++ (one_target_tokens t ++ token (Sign 6) comma ∷ [])) ++ tail) ≡ go_on (read_target_rest (n + (behind + is.steps)) tail) (λ r rest. Some (put (more_target t comma r), rest))
targets_lead put front steps behind leads t comma is n tail =
    let c : Token = token (Sign 6) comma in
    more_steps (λ k. read_target_rest k ((front ++ (one_target_tokens t ++ c ∷ [])) ++ tail)) (n + (suc (suc is.steps) + steps)) ((n + suc (suc is.steps)) + steps) (omega arith)
    ∙ ap (read_target_rest ((n + suc (suc is.steps)) + steps)) (sym (behind_comma front (one_target_tokens t) c tail))
    ∙ leads (n + suc (suc is.steps)) (one_target_tokens t ++ c ∷ tail)
    ∙ more_steps (λ k. go_on (read_target_rest k (one_target_tokens t ++ c ∷ tail)) (λ r rest. Some (put r, rest))) ((n + suc (suc is.steps)) + behind) (suc (suc ((n + behind) + is.steps))) (omega arith)
    ∙ ap (λ r. go_on r (λ r rest. Some (put r, rest))) (comma_step t comma (n + behind) tail is)
    ∙ go_on_once (read_target_rest ((n + behind) + is.steps) tail) (more_target t comma) (λ r rest. Some (put r, rest))
    ∙ more_steps (λ k. go_on (read_target_rest k tail) (λ r rest. Some (put (more_target t comma r), rest))) ((n + behind) + is.steps) (n + (behind + is.steps)) (omega arith)

one_passed : (passed : List (OneTarget × Spot)) (t : OneTarget) (comma : Spot) → passed_tokens (passed ++ (t, comma) ∷ []) ≡ passed_tokens passed ++ (one_target_tokens t ++ token (Sign 6) comma ∷ [])
one_passed [] t comma = refl
one_passed (p ∷ passed) t comma = ap (λ ts. one_target_tokens p.0 ++ token (Sign 6) p.1 ∷ ts) (one_passed passed t comma) ∙ sym (append_assoc (one_target_tokens p.0) (token (Sign 6) p.1 ∷ passed_tokens passed) (one_target_tokens t ++ token (Sign 6) comma ∷ []))

one_within : (passed : List (OneTarget × Spot)) (t : OneTarget) (comma : Spot) (room : ℕ) (at : Pos) → passed_lies passed at ≤ room → one_target_lies t at ≤ room → passed_lies (passed ++ (t, comma) ∷ []) at ≤ room
one_within [] t comma room at low one = omega (arith, one)
one_within (p ∷ passed) t comma room at low one = max_below _ _ room (left_below _ _ room low) (one_within passed t comma room at (right_below _ _ room low) one)
  where
    left_below : (a b c : ℕ) → max a b ≤ c → a ≤ c
    left_below a b c low = omega (arith, low)

    right_below : (a b c : ℕ) → max a b ≤ c → b ≤ c
    right_below a b c low = omega (arith, low)

pub targets_next : (room : ℕ) (before after middle behind : List Token) (at : Pos) (old row row_2 : Row) (part : Part) → TargetsGo room before old after row → ItemFound room after part middle
    → Taken (Sign 6) middle at behind → row_2.list.items ≡ row.list.items ++ part.expr.value ∷ [] → row_2.height ≡ max row.height part.height → TargetsGo room before old behind row_2
targets_next room before after middle behind at old row row_2 part g f k items_are higher = record {
  put = λ r. g.put (more_target f.target k.spot r);
  front = g.front ++ (one_target_tokens f.target ++ token (Sign 6) k.spot ∷ []);
  before_is = g.before_is ∙ ap (λ ts. g.front ++ ts) (f.before_is ∙ ap (λ ts. one_target_tokens f.target ++ ts) k.before_is) ∙ behind_comma g.front (one_target_tokens f.target) (token (Sign 6) k.spot) behind;
  tokens_are = λ r. g.tokens_are (more_target f.target k.spot r) ∙ behind_comma g.front (one_target_tokens f.target) (token (Sign 6) k.spot) (target_rest_tokens r);
  passed = g.passed ++ (f.target, k.spot) ∷ [];
  passed_is = one_passed g.passed f.target k.spot ∙ ap (λ ts. ts ++ (one_target_tokens f.target ++ token (Sign 6) k.spot ∷ [])) g.passed_is;
  passed_low = λ at. one_within g.passed f.target k.spot room at (g.passed_low at) (target_within f.target room (item_fits f) at);
  trees = g.trees ++ expr_of part.expr.value ∷ [];
  row_is = pushed_trees row.list.items row_2.list.items part.expr.value (map expr_of old.list.items) g.trees items_are g.row_is;
  forms = λ es r is. ap (λ xs. targets_form (exprs_list xs)) (append_assoc g.trees (expr_of part.expr.value ∷ []) es)
      ∙ g.forms (expr_of part.expr.value ∷ es) (more_target f.target k.spot r) (one_form (expr_of part.expr.value) es (one_target_tree f.target) (target_rest_tree r) f.tree_is is);
  depth = max g.depth (one_target_depth f.target);
  height_is = higher ∙ ap (λ h. max h part.height) g.height_is ∙ ap (λ h. max (max old.height g.depth) h) f.height_is ∙ max_assoc old.height g.depth (one_target_depth f.target);
  depth_is = λ r. g.depth_is (more_target f.target k.spot r) ∙ sym (max_assoc g.depth (one_target_depth f.target) (target_rest_depth r));
  lies = λ at. max (g.lies at) (one_target_lies f.target at);
  lies_is = λ r at. g.lies_is (more_target f.target k.spot r) at ∙ sym (max_assoc (g.lies at) (one_target_lies f.target at) (target_rest_lies r at));
  fits = below_both row_2.height row.height part.height room higher g.fits f.fits;
  steps = suc (suc (one_target_reads f.target).steps) + g.steps;
  behind = g.behind + (one_target_reads f.target).steps;
  leads = λ n tail. targets_lead g.put g.front g.steps g.behind g.leads f.target k.spot (one_target_reads f.target) n tail;
}

level_word : (a b c d : Bool) → ((if a then 4 else (if b then 5 else (if c then 6 else (if d then 7 else 9)))) == 8) ≡ false
level_word true b c d = refl
level_word false true c d = refl
level_word false false true d = refl
level_word false false false true = refl
level_word false false false false = refl

level_sign : (a b c d e : Bool) → e ≡ false → ((if a then 1 else (if b then 2 else (if c then 3 else (if d then 4 else (if e then 8 else 9))))) == 8) ≡ false
level_sign true b c d e other = refl
level_sign false true c d e other = refl
level_sign false false true d e other = refl
level_sign false false false true e other = refl
level_sign false false false false true other = cc
level_sign false false false false false other = refl

pub no_comma : (ts : List Token) → is_sign_next 6 ts ≡ false → (next_level ts == 8) ≡ false
no_comma [] other = refl
no_comma (t ∷ ts) other = by t.kind other
  where
    by : (kind : TokenKind) → is_sign 6 kind ≡ false → (kind_level kind == 8) ≡ false
    by (Keyword n) other = level_word ((n == 22) || (n == 23) || (n == 26)) (n == 3) (n == 27) (n == 20)
    by (Sign n) other = level_sign ((n == 0) || (n == 2) || (n == 8)) ((n == 12) || (n == 13) || (n == 14)) ((n == 10) || (n == 11)) ((n == 15) || (n == 16) || (n == 17) || (n == 18) || (n == 19) || (n == 20)) (n == 6) other
    by (Word bytes) other = refl
    by (Number value) other = refl
    by (Text bytes) other = refl

last_step : (t : OneTarget) (m : ℕ) (more : List Token) → (is : Reads read_one_target 1 (one_target_tokens t) t) → 1 < next_level more → (next_level more == 8) ≡ false
    → read_target_rest (suc (suc (m + is.steps))) (one_target_tokens t ++ more) ≡ Some (last_target t, more)
last_step t m more is beyond other =
    begins_target t (suc (m + is.steps)) more
    ∙ more_steps (λ k. go_on (read_one_target k (one_target_tokens t ++ more)) (λ t rest. target_rest_after (suc (m + is.steps)) t rest)) (suc (m + is.steps)) (suc m + is.steps) (omega arith)
    ∙ ap (λ r. go_on r (λ t rest. target_rest_after (suc (m + is.steps)) t rest)) (is.reads (suc m) more beyond)
    ∙ if_false (next_level more == 8) _ _ other

pub targets_last : (room : ℕ) (before after middle : List Token) (old row row_2 : Row) (part : Part) → TargetsGo room before old after row → ItemFound room after part middle
    → is_sign_next 6 middle ≡ false → row_2.list.items ≡ row.list.items ++ part.expr.value ∷ [] → row_2.height ≡ max row.height part.height → FoundTargets room before old row_2 middle
targets_last room before after middle old row row_2 part g f other items_are higher = record {
  written = g.put (last_target f.target);
  before_is = g.before_is ∙ ap (λ ts. g.front ++ ts) f.before_is ∙ sym (append_assoc g.front (one_target_tokens f.target) middle) ∙ ap (λ ts. ts ++ middle) (sym (g.tokens_are (last_target f.target)));
  trees = g.trees ++ expr_of part.expr.value ∷ [];
  row_is = pushed_trees row.list.items row_2.list.items part.expr.value (map expr_of old.list.items) g.trees items_are g.row_is;
  trees_are = g.forms (expr_of part.expr.value ∷ []) (last_target f.target) (one_form (expr_of part.expr.value) [] (one_target_tree f.target) (target_rest_tree end_rest_target) f.tree_is refl);
  height_is = higher ∙ ap (λ h. max h part.height) g.height_is ∙ ap (λ h. max (max old.height g.depth) h) f.height_is ∙ max_assoc old.height g.depth (one_target_depth f.target) ∙ ap (max old.height) (sym (g.depth_is (last_target f.target)));
  fits = below_both row_2.height row.height part.height room higher g.fits f.fits;
  is_read = record {
    steps = suc (suc (one_target_reads f.target).steps) + g.steps;
    reads = λ n more first.
        let is = one_target_reads f.target in
        ap (λ ts. read_target_rest (n + (suc (suc is.steps) + g.steps)) (ts ++ more)) (g.tokens_are (last_target f.target))
        ∙ ap (read_target_rest (n + (suc (suc is.steps) + g.steps))) (append_assoc g.front (one_target_tokens f.target) more)
        ∙ more_steps (λ k. read_target_rest k (g.front ++ (one_target_tokens f.target ++ more))) (n + (suc (suc is.steps) + g.steps)) ((n + suc (suc is.steps)) + g.steps) (omega arith)
        ∙ g.leads (n + suc (suc is.steps)) (one_target_tokens f.target ++ more)
        ∙ more_steps (λ k. go_on (read_target_rest k (one_target_tokens f.target ++ more)) (λ r rest. Some (g.put r, rest))) ((n + suc (suc is.steps)) + g.behind) (suc (suc ((n + g.behind) + is.steps))) (omega arith)
        ∙ ap (λ r. go_on r (λ r rest. Some (g.put r, rest)))
        (last_step f.target (n + g.behind) more is (let level = level_same more middle first in let high = f.beyond in omega (arith, level, high)) (no_comma more (sign_first 6 middle more (first_same more middle first) ∙ other)));
  };
  ends = record {
    none = λ t more first passed s is. unread_passed End 99 g.passed (one_target_tokens f.target ++ t ∷ more) (omega arith)
        (ends_one f.target t more (let level = level_same (t ∷ more) middle first in let high = f.beyond in omega (arith, level, high)) (sign_first 6 middle (t ∷ more) (first_same (t ∷ more) middle first) ∙ other)) passed s
        (is ∙ ap (λ ts. ts ++ t ∷ more) (g.tokens_are (last_target f.target)) ∙ append_assoc g.front (one_target_tokens f.target) (t ∷ more) ∙ ap (λ ts. ts ++ (one_target_tokens f.target ++ t ∷ more)) (sym g.passed_is));
  };
}

end_step : (m : ℕ) (more : List Token) → starts more ≡ 0 → read_target_rest (suc m) more ≡ Some (end_rest_target, more)
end_step m more ends = ap (λ c. if nat_lt 0 c then go_on (read_one_target m more) (λ t rest. target_rest_after m t rest) else Some (end_rest_target, more)) ends

pub targets_end : (room : ℕ) (before after : List Token) (old row : Row) → TargetsGo room before old after row → begins_expr after ≡ false → FoundTargets room before old row after
targets_end room before after old row g other = record {
  written = g.put end_rest_target;
  before_is = g.before_is ∙ ap (λ ts. ts ++ after) (sym (g.tokens_are end_rest_target ∙ append-nil g.front));
  trees = g.trees;
  row_is = g.row_is;
  trees_are = ap (λ xs. targets_form (exprs_list xs)) (sym (append-nil g.trees)) ∙ g.forms [] end_rest_target refl;
  height_is = g.height_is ∙ ap (max old.height) (sym (g.depth_is end_rest_target ∙ no_deeper g.depth));
  fits = g.fits;
  is_read = record {
    steps = 1 + g.steps;
    reads = λ n more first.
        ap (λ ts. read_target_rest (n + (1 + g.steps)) (ts ++ more)) (g.tokens_are end_rest_target ∙ append-nil g.front)
        ∙ more_steps (λ k. read_target_rest k (g.front ++ more)) (n + (1 + g.steps)) ((n + 1) + g.steps) (omega arith)
        ∙ g.leads (n + 1) more
        ∙ more_steps (λ k. go_on (read_target_rest k more) (λ r rest. Some (g.put r, rest))) ((n + 1) + g.behind) (suc (n + g.behind)) (omega arith)
        ∙ ap (λ r. go_on r (λ r rest. Some (g.put r, rest))) (end_step (n + g.behind) more (starts_same more after first ∙ no_start after other));
  };
  ends = record {
    none = λ t more first passed s is. unread_passed End 99 g.passed (t ∷ more) (omega arith) (ends_none (t ∷ more) (starts_same (t ∷ more) after first ∙ no_start after other)) passed s
        (is ∙ ap (λ ts. ts ++ t ∷ more) (g.tokens_are end_rest_target ∙ append-nil g.front ∙ sym g.passed_is));
  };
}
  where
    no_deeper : (n : ℕ) → max n 0 ≡ n
    no_deeper n = omega arith

-- what is written behind what was read
record Peeled (put : TargetRest → TargetRest) (w : Followed TargetRest) (more : List Token) : Type 0 where
  rest : TargetRest
  part_is : w.part ≡ put rest
  tokens_are : target_rest_tokens rest ++ token (Keyword 22) w.in_word ∷ w.behind ≡ more

peeled : (room : ℕ) (before after : List Token) (old row : Row) → (g : TargetsGo room before old after row) → (w : Followed TargetRest) (more : List Token) → followed_tokens target_rest_part w ≡ g.front ++ more → Peeled g.put w more
peeled room before after old row g w more is = by (read_target_rest (r.steps + g.behind) more) read
  where
    i : List Token
    i = token (Keyword 22) w.in_word ∷ w.behind

    r : ReadsTargets (target_rest_tokens w.part) w.part
    r = target_rest_reads w.part

    read : go_on (read_target_rest (r.steps + g.behind) more) (λ r rest. Some (g.put r, rest)) ≡ Some (w.part, i)
    read = sym (g.leads r.steps more) ∙ more_steps (λ k. read_target_rest k (g.front ++ more)) (r.steps + g.steps) (g.steps + r.steps) (omega arith) ∙ ap (read_target_rest (g.steps + r.steps)) (sym is) ∙ r.reads g.steps i (omega arith) refl refl

    by : (o : Read TargetRest) → go_on o (λ r rest. Some (g.put r, rest)) ≡ Some (w.part, i) → Peeled g.put w more
    by None same = absurd (let no : None ≡ Some (w.part, i) = same in cc)
    by (Some (rest, left)) same =
        let part : g.put rest ≡ w.part = ap (λ (v : TargetRest × List Token). v.0) (same_Some _ _ same) in
        record {
          rest = rest;
          part_is = sym part;
          tokens_are = append_cancel_left g.front (target_rest_tokens rest ++ i) more
              (sym (append_assoc g.front (target_rest_tokens rest) i) ∙ ap (λ ts. ts ++ i) (sym (g.tokens_are rest)) ∙ ap (λ t. target_rest_tokens t ++ i) part ∙ is);
        }

target_there : (room : ℕ) (before after : List Token) (old row : Row) → (g : TargetsGo room before old after row) → begins_expr after ≡ true → (w : Followed TargetRest) (more : List Token)
    → followed_tokens target_rest_part w ≡ g.front ++ more → first_token more ≡ first_token after → ItemThere (target_rest_lies w.part) more
target_there room before after old row g start w more is first = by p.rest refl p.tokens_are
  where
    i : List Token
    i = token (Keyword 22) w.in_word ∷ w.behind

    p : Peeled g.put w more
    p = peeled room before after old row g w more is

    low : (t : TargetRest) → p.rest ≡ t → (at : Pos) → target_rest_lies t at ≤ target_rest_lies w.part at
    low t same at =
        let there : target_rest_lies w.part at ≡ max (g.lies at) (target_rest_lies p.rest at) = ap (λ r. target_rest_lies r at) p.part_is ∙ g.lies_is p.rest at in
        let one : target_rest_lies p.rest at ≡ target_rest_lies t at = ap (λ r. target_rest_lies r at) same in
        let high = le-max_right (g.lies at) (target_rest_lies p.rest at) in
        omega (arith, there, one, high)

    by : (t : TargetRest) → p.rest ≡ t → target_rest_tokens t ++ i ≡ more → ItemThere (target_rest_lies w.part) more
    by end_rest_target same tokens =
        let none : starts more ≡ 0 = ap starts (sym tokens) in
        let some : begins_expr more ≡ true = ap (nat_lt 0) (starts_same more after first) ∙ start in
        absurd (let no : false ≡ true = ap (nat_lt 0) (sym none) ∙ some in cc)
    by (last_target t) same tokens = record { target = t; tail = i; tokens_are = tokens; beyond = omega arith; higher = low (last_target t) same }
    by (more_target t comma r) same tokens = record {
      target = t;
      tail = token (Sign 6) comma ∷ (target_rest_tokens r ++ i);
      tokens_are = sym (append_assoc (one_target_tokens t) (token (Sign 6) comma ∷ target_rest_tokens r) i) ∙ tokens;
      beyond = omega arith;
      higher = λ at. let deep = low (more_target t comma r) same at in let high = le-max_left (one_target_lies t at) (target_rest_lies r at) in omega (arith, deep, high);
    }

pub next_refused : (before after : List Token) (old row : Row) (stop : Stop) → TargetsGo 99 before old after row → begins_expr after ≡ true → ItemRefused 99 after stop → TargetsRefused target_rest_part 99 before stop
next_refused before after old row stop g start is =
    item_refused target_rest_part 99 g.front after before g.before_is g.passed g.passed_is (omega arith) (let same = same_room g.passed in omega (arith, same)) g.passed_low
    (λ w more same first. target_there 99 before after old row g start w more same first) stop is

-- ---- the whole target

target_is : (t : OneTarget) (n : ℕ) (more : List Token) → (is : Reads read_one_target 1 (one_target_tokens t) t) → 1 < next_level more → (next_level more == 8) ≡ false → read_target (n + is.steps) (one_target_tokens t ++ more) ≡ Some (one_target t, more)
target_is t n more is beyond other =
    ap (λ r. go_on r (λ t rest. if next_level rest == 8
    then go_on (read_sign 6 rest) (λ comma more. go_on (read_target_rest (n + is.steps) more) (λ found left. Some (several_targets t comma found, left))) else Some (one_target t, rest))) (is.reads n more beyond)
    ∙ if_false (next_level more == 8) _ _ other

pub one_found : (before after : List Token) (first : Part) (tree : TargetTree) → ItemFound 100 before first after → is_sign_next 6 after ≡ false → target_form (expr_of first.expr.value) ≡ Some tree → TargetFound before tree after
one_found before after first tree f other built = record { took = took; ends = ends }
  where
    took : Took target_part target_tree before tree after
    took = record {
      written = one_target f.target;
      before_is = f.before_is;
      value_is = same_Some _ _ (sym built ∙ f.tree_is);
      fits = let high = f.height_is in let low = f.fits in omega (arith, high, low);
      is_read = record {
        steps = (one_target_reads f.target).steps;
        reads = λ n more first. target_is f.target n more (one_target_reads f.target) (let level = level_same more after first in let high = f.beyond in omega (arith, level, high)) (no_comma more (sign_first 6 after more (first_same more after first) ∙ other));
      };
    }

    ends : TargetsEnd (one_target_tokens f.target) after
    ends = record {
      none = λ t more first_is passed s is. ends_one f.target t more (let level = level_same (t ∷ more) after first_is in let high = f.beyond in omega (arith, level, high)) (sign_first 6 after (t ∷ more) (first_same (t ∷ more) after first_is) ∙ other) passed s is;
    }

pub one_is_target : (room : ℕ) (before after : List Token) (first : Part) → ItemFound room before first after → is_some (target_form (expr_of first.expr.value)) ≡ true
one_is_target room before after first f = ap is_some f.tree_is

several_is : (t : OneTarget) (comma : Spot) (r : TargetRest) (n steps : ℕ) (more : List Token) → (is : Reads read_one_target 1 (one_target_tokens t) t) → ((n : ℕ) → read_target_rest (n + steps) (target_rest_tokens r ++ more) ≡ Some (r, more))
    → read_target (n + (is.steps + steps)) ((one_target_tokens t ++ token (Sign 6) comma ∷ target_rest_tokens r) ++ more) ≡ Some (several_targets t comma r, more)
several_is t comma r n steps more is reads =
    let k : ℕ = n + (is.steps + steps) in
    let c : Token = token (Sign 6) comma in
    ap (read_target k) (append_assoc (one_target_tokens t) (c ∷ target_rest_tokens r) more)
    ∙ more_steps (λ m. go_on (read_one_target m (one_target_tokens t ++ (c ∷ target_rest_tokens r ++ more))) (λ t rest. if next_level rest == 8
    then go_on (read_sign 6 rest) (λ comma more. go_on (read_target_rest k more) (λ found left. Some (several_targets t comma found, left))) else Some (one_target t, rest))) k ((n + steps) + is.steps) (omega arith)
    ∙ ap (λ r. go_on r (λ t rest. if next_level rest == 8
    then go_on (read_sign 6 rest) (λ comma more. go_on (read_target_rest k more) (λ found left. Some (several_targets t comma found, left))) else Some (one_target t, rest))) (is.reads (n + steps) (c ∷ target_rest_tokens r ++ more) (omega arith))
    ∙ more_steps (λ m. go_on (read_target_rest m (target_rest_tokens r ++ more)) (λ found left. Some (several_targets t comma found, left))) k ((n + is.steps) + steps) (omega arith)
    ∙ ap (λ r. go_on r (λ found left. Some (several_targets t comma found, left))) (reads (n + is.steps))

-- the tuple of all targets
tuple_form : (at : Pos) (e : ExprTree) (es : List ExprTree) (t : TargetTree) (ts : TargetsTree) → target_form e ≡ Some t → targets_form (exprs_list es) ≡ Some ts → all_target_form (tuple_expr at (exprs_list (e ∷ es))) ≡ Some (many_target (more_targets t ts))
tuple_form at e es t ts one rest = ap (option_map many_target) (one_form e es t ts one rest)

pub all_form : (before middle behind after : List Token) (at : Pos) (first part : Part) (row more : Row) → (f : ItemFound 100 before first middle) → row.list.items ≡ first.expr.value ∷ [] → (r : FoundTargets 99 behind row more after)
    → expr_of part.expr.value ≡ tuple_expr at (exprs_list (map expr_of more.list.items)) → all_target_form (expr_of part.expr.value) ≡ Some (many_target (more_targets (one_target_tree f.target) (target_rest_tree r.written)))
all_form before middle behind after at first part row more f one r tree =
    ap all_target_form tree ∙ ap (λ es. all_target_form (tuple_expr at (exprs_list es))) (r.row_is ∙ ap (λ xs. map expr_of xs ++ r.trees) one)
    ∙ tuple_form at (expr_of first.expr.value) r.trees (one_target_tree f.target) (target_rest_tree r.written) f.tree_is r.trees_are

pub several_found : (before middle behind after : List Token) (at place : Pos) (first part : Part) (row more : Row) (tree : TargetTree) → ItemFound 100 before first middle → Taken (Sign 6) middle at behind → first.height < 100 → row.list.items ≡ first.expr.value ∷ []
    → row.height ≡ first.height → FoundTargets 99 behind row more after → expr_of part.expr.value ≡ tuple_expr place (exprs_list (map expr_of more.list.items)) → all_target_form (expr_of part.expr.value) ≡ Some tree → TargetFound before tree after
several_found before middle behind after at place first part row more tree f k less one height r tuple built = record { took = took; ends = ends }
  where
    rest_low : (a b c : ℕ) → a ≡ max b c → a ≤ 99 → c ≤ 99
    rest_low a b c is low = let high = le-max_right b c in omega (arith, is, low, high)

    took : Took target_part target_tree before tree after
    took = record {
      written = several_targets f.target k.spot r.written;
      before_is = f.before_is ∙ ap (λ ts. one_target_tokens f.target ++ ts) (k.before_is ∙ ap (λ ts. token (Sign 6) k.spot ∷ ts) r.before_is) ∙ sym (append_assoc (one_target_tokens f.target) (token (Sign 6) k.spot ∷ target_rest_tokens r.written) after);
      value_is = same_Some _ _ (sym built ∙ all_form before middle behind after place first part row more f one r tuple);
      fits =
          let high = r.height_is in let low = r.fits in let same = f.height_is in
          let inner = max_below (one_target_depth f.target) (target_rest_depth r.written) 99 (omega (arith, less, same)) (rest_low more.height row.height (target_rest_depth r.written) high low) in
          omega (arith, inner);
      is_read = record {
        steps = (one_target_reads f.target).steps + r.is_read.steps;
        reads = λ n more first. several_is f.target k.spot r.written n r.is_read.steps more (one_target_reads f.target) (λ n. r.is_read.reads n more first);
      };
    }

    ends : TargetsEnd (one_target_tokens f.target ++ token (Sign 6) k.spot ∷ target_rest_tokens r.written) after
    ends = record {
      none = λ t more first_is passed s is. unread_one End 99 99 f.target k.spot (target_rest_tokens r.written ++ t ∷ more) (omega arith) (λ ps s same. r.ends.none t more first_is ps s same) passed s
          (is ∙ append_assoc (one_target_tokens f.target) (token (Sign 6) k.spot ∷ target_rest_tokens r.written) (t ∷ more));
    }

-- ---- steps of the loop

pub targets_kept : (room : ℕ) (before : List Token) (old row : Row) (after kept : List Token) → after ≡ kept → FoundTargets room before old row kept → FoundTargets room before old row after
targets_kept room before old row after kept is found = subst (λ (ts : List Token). FoundTargets room before old row ts) (sym is) found

longer : (xs ys : List Token) → length ys ≤ length (xs ++ ys)
longer [] ys = omega arith
longer (x ∷ xs) ys = let more = longer xs ys in omega (arith, more)

pub item_shorter : (room : ℕ) (before middle behind : List Token) (at : Pos) (part : Part) → ItemFound room before part middle → Taken (Sign 6) middle at behind → length behind < length before
item_shorter room before middle behind at part f k =
    let all : length before ≡ length (one_target_tokens f.target ++ middle) = ap length f.before_is in
    let next : length middle ≡ suc (length behind) = ap length k.before_is in
    let more = longer (one_target_tokens f.target) middle in
    omega (arith, all, next, more)

-- ---- the row behind the first target

pub row_is_first : (empty row : Row) (first : Part) → empty.list.items ≡ [] → row.list.items ≡ empty.list.items ++ first.expr.value ∷ [] → row.list.items ≡ first.expr.value ∷ []
row_is_first empty row first none_there list_is = list_is ∙ ap (λ xs. xs ++ first.expr.value ∷ []) none_there

pub row_height : (empty row : Row) (first : Part) → empty.height ≡ 0 → row.height ≡ max empty.height first.height → row.height ≡ first.height
row_height empty row first low height_is = omega (arith, low, height_is)

pub target_kept : (before : List Token) (tree : TargetTree) (after kept : List Token) → after ≡ kept → TargetFound before tree kept → TargetFound before tree after
target_kept before tree after kept is found = subst (λ (ts : List Token). TargetFound before tree ts) (sym is) found
