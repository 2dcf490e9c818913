-- The line of a `for`: what is read of it, and how it is refused.
use Rattle.std.proofs.Common.{◌≡◌, inl, inr, ℕ, ◌+◌, max, ◌≤◌, true, false, List, [], ◌∷◌, ◌++◌, Option, None, refl, ap, sym, ◌∙◌, arith, subst, append_assoc}
use Rattle.std.proofs.Math.Nat.{le-max_left, le-max_right}
use Rattle.prov_base.specs.declared.place.Pos.{Pos}
use Rattle.py_lines.specs.declared.parts.Token.{Token}
use Rattle.py_lines.specs.declared.parts.TokenKind.TheVariants.{Keyword, Sign}
use Rattle.py_tree.specs.declared.expr.Target.{Target as TargetRead}
use Rattle.py_tree.specs.Erasure.{target_of}
use Rattle.py_grammar.specs.declared.context.Limit.{Limit}
use Rattle.py_expressions.specs.declared.fault.Fault.{Fault}
use Rattle.py_expressions.specs.declared.fault.Fault.TheVariants.{Unexpected, TooDeep, TooMany, Memory}
use Rattle.py_expressions.specs.declared.fault.Stop.{Stop}
use Rattle.py_expressions.specs.declared.fault.Stop.TheVariants.{Here, End}
use Rattle.py_grammar.specs.declared.head.What.TheVariants.{For}
use Rattle.py_expressions.specs.declared.part.Part.{Part}
use Rattle.py_expressions.specs.Concrete.{Spot, Sum, Exprs, one_expr}
use Rattle.py_expressions.specs.Tokens.{token, sum_tokens, exprs_tokens}
use Rattle.py_grammar.specs.StatementDepth.{target_depth}
use Rattle.py_expressions.specs.Depth.{exprs_depth}
use Rattle.py_grammar.specs.StatementLies.{target_lies, simple_lies}
use Rattle.py_expressions.specs.Lies.{exprs_lies, nowhere}
use Rattle.py_grammar.specs.Written.{Simple}
use Rattle.py_expressions.specs.Targets.{OneTarget, Target, named}
use Rattle.py_grammar.specs.StatementTokens.{one_target_tokens, target_tokens}
use Rattle.py_grammar.specs.StatementTrees.{target_tree}
use Rattle.py_grammar.specs.LineReader.{Head, for_head, head_tokens, colon_tokens, then_read, read_colon, read_head, read_target}
use Rattle.py_expressions.specs.Reader.{read_keyword, read_exprs}
use Rattle.py_expressions.specs.Parsed.{IsDeep, Refused, FoundRow, Taken, one_keyword, exprs_part}
use Rattle.py_expressions.specs.ParsedRows.{first_token, IsRead}
use Rattle.py_grammar.specs.ParsedHead.{Took, target_part, Context, word_may, head_lies, behind_lies, IsAmissHead, BeginsHead, DeepHead, passed_tokens, BeginsTargets, FirstDeepTargets, GoesOnLine, UnreadTargets, UnreadLine, IsAheadOnLine, ShownBy, EndedBy, HeadRefused, OpeningFound, OpeningRefused, EndsHead}
use Rattle.py_grammar.specs.ParsedNames.{Followed, followed_tokens, GoesOnTargets, IsAheadOfTargets, TargetsRefused, TargetsEnd, TargetFound}
use Rattle.py_expressions.proofs.Stops.{some_spot, spot_at}
use Rattle.py_expressions.proofs.Lying.{exprs_low}
use Rattle.py_grammar.proofs.LyingLines.{target_low}
use Rattle.py_expressions.proofs.TargetReads.{target_expr}
use Rattle.py_expressions.proofs.Refusals.{alone_elsewhere, deep_beside_left, deep_beside_right}
use Rattle.py_expressions.proofs.RowParts.{more_steps}
use Rattle.py_grammar.proofs.SimpleParts.{none_deeper}
use Rattle.py_expressions.proofs.ClosedParts.{not_deep}
use Rattle.py_grammar.proofs.LineFirsts.{same_behind, both_true}
use Rattle.py_grammar.proofs.NoDel.{has_del, without, no_del_front, del_absent, no_del_one_target, no_del_sum}
use Rattle.py_grammar.proofs.Unread.{PassesFor, unread_clear}
use Rattle.py_grammar.proofs.HeadParts.{clear_before, FindsHead, HeadTurns, finds_written, begins_part_head, refused_part_head, turns_on, ColonReads, colon_on, row_is_read, is_free}
use Rattle.py_grammar.proofs.NameHeads.{only_then, only_colon}
use Rattle.py_grammar.proofs.BehindColon.{StaysAhead, stays_front, for_stays}

abbrev for_target_of : Spot → ℕ → Target → List Token → Option Head
for_target_of spot n t more = then_read (read_keyword 22 more) (λ in_word more_2. then_read (read_exprs n more_2) (λ e rest. read_colon n (for_head spot t in_word e) rest))

abbrev for_in : Spot → Target → ℕ → Spot → List Token → Option Head
for_in spot t n in_word more = then_read (read_exprs n more) (λ e rest. read_colon n (for_head spot t in_word e) rest)

abbrev for_exprs : Spot → Target → Spot → ℕ → Exprs → List Token → Option Head
for_exprs spot t in_word n e rest = read_colon n (for_head spot t in_word e) rest

abbrev some_exprs : Pos → Exprs
some_exprs at = one_expr (target_expr (named (spot_at at) []))

alone_exprs : (at other : Pos) → (other ≡ at → ⊥) → exprs_lies (some_exprs at) other ≡ 0
alone_exprs at other apart = alone_elsewhere at other apart

-- ---- what stands behind `for`

-- a line that begins with `for`
record IsFor (spot : Spot) (h : Head) : Type 0 where
  target : Target
  in_word : Spot
  items : Exprs
  colon : Spot
  behind : Option Simple
  is : h ≡ for_head spot target in_word items colon behind

finds_for : (spot : Spot) (more : List Token) → FindsHead (IsFor spot) (token (Keyword 17) spot ∷ more)
finds_for spot more = record {
  steps = 0;
  only = λ n. only_then (IsFor spot) (read_target (n + 0) more) _ (λ t more_2. only_then (IsFor spot) (read_keyword 22 more_2) _ (λ in_word more_3. only_then (IsFor spot) (read_exprs (n + 0) more_3) _ (λ e rest.
      only_colon (IsFor spot) (n + 0) (for_head spot t in_word e) rest (λ colon behind. record { target = t; in_word = in_word; items = e; colon = colon; behind = behind; is = refl }))));
}

-- the target of such a line with its `in`, and what follows
record ForThere (h : Head) (more : List Token) : Type 0 where
  part : Followed Target
  tokens_are : followed_tokens target_part part ≡ more
  higher : (at : Pos) → target_lies part.part at ≤ head_lies h at

for_there : (spot : Spot) (h : Head) (more : List Token) → head_tokens h ≡ token (Keyword 17) spot ∷ more → ForThere h more
for_there spot h more is =
    let f = finds_written (IsFor spot) (token (Keyword 17) spot ∷ more) h (finds_for spot more) is in
    record {
      part = record { part = f.target; in_word = f.in_word; behind = exprs_tokens f.items ++ colon_tokens f.colon f.behind };
      tokens_are = behind_it (token (Keyword 17) spot) (token (Keyword 17) spot) _ more (sym (ap head_tokens f.is) ∙ is);
      higher = λ at.
          let lies : head_lies h at ≡ max (max (target_lies f.target at) (exprs_lies f.items at)) (behind_lies f.behind at) = ap (λ h. head_lies h at) f.is in
          let one = le-max_left (target_lies f.target at) (exprs_lies f.items at) in
          let two = le-max_left (max (target_lies f.target at) (exprs_lies f.items at)) (behind_lies f.behind at) in
          omega (arith, lies, one, two);
    }
  where
    behind_it : (a b : Token) (x y : List Token) → a ∷ x ≡ b ∷ y → x ≡ y
    behind_it a b x y is = cc

for_lies : (why : Stop) (lies : Pos → ℕ) (h : Head) → IsDeep why 100 lies → ((at : Pos) → lies at ≤ head_lies h at) → IsDeep why 100 (head_lies h)
for_lies (Here (TooDeep at)) lies h deep higher = let high = higher at in omega (arith, deep, high)
for_lies (Here (Unexpected at)) lies h deep higher = absurd deep
for_lies (Here (TooMany at)) lies h deep higher = absurd deep
for_lies (Here Memory) lies h deep higher = absurd deep
for_lies End lies h deep higher = absurd deep

for_amiss : (c : Context) (given : List (List ℕ)) (limit : Option Limit) (why : Stop) (lies : Pos → ℕ) (h : Head) → IsDeep why 100 lies → ((at : Pos) → lies at ≤ head_lies h at) → IsAmissHead c given limit why h
for_amiss c given limit (Here (TooDeep at)) lies h deep higher = inl (let high = higher at in omega (arith, deep, high))
for_amiss c given limit (Here (Unexpected at)) lies h deep higher = absurd deep
for_amiss c given limit (Here (TooMany at)) lies h deep higher = absurd deep
for_amiss c given limit (Here Memory) lies h deep higher = absurd deep
for_amiss c given limit End lies h deep higher = absurd deep

for_begins : (c : Context) (given : List (List ℕ)) (spot : Spot) (ts : List Token) → word_may c 17 ≡ true → BeginsTargets 100 ts → BeginsHead c given (token (Keyword 17) spot ∷ ts)
for_begins c given spot ts may b = inr (inr (record { may = may; spot = spot; inside = ts; begins = b; front_is = refl }))

for_deep : (c : Context) (given : List (List ℕ)) (spot : Spot) (ts : List Token) (place : Pos) → word_may c 17 ≡ true → FirstDeepTargets 100 ts place → DeepHead c given (token (Keyword 17) spot ∷ ts) place
for_deep c given spot ts place may b = inr (inr (record { may = may; spot = spot; inside = ts; begins = b; front_is = refl }))

goes_for : (c : Context) (given : List (List ℕ)) (limit : Option Limit) (spot : Spot) (tokens : List Token) (t : Token) (fault : Fault) → word_may c 17 ≡ true → StaysAhead ((token (Keyword 17) spot ∷ tokens) ++ t ∷ []) → ((h : Head) (more : List Token) → head_tokens h ≡ (token (Keyword 17) spot ∷ tokens) ++ t ∷ more → IsDeep (Here fault) 100 (head_lies h))
    → GoesOnTargets 100 tokens t fault → GoesOnLine c given limit (token (Keyword 17) spot ∷ tokens) t fault
goes_for c given limit spot tokens t (TooDeep at) may ahead lies b = inl (for_deep c given spot (tokens ++ t ∷ []) at may b, lies, is_free c given limit ((token (Keyword 17) spot ∷ tokens) ++ t ∷ []) ahead)
goes_for c given limit spot tokens t (TooMany at) may ahead lies goes = absurd goes
goes_for c given limit spot tokens t (Unexpected left) may ahead lies goes = is_free c given limit ((token (Keyword 17) spot ∷ tokens) ++ t ∷ []) ahead
goes_for c given limit spot tokens t Memory may ahead lies goes = tt

-- nothing stands behind a `:` yet
for_ahead : (spot : Spot) (tokens : List Token) (t : Token) → BeginsTargets 100 tokens → StaysAhead ((token (Keyword 17) spot ∷ tokens) ++ t ∷ [])
for_ahead spot tokens t b = let k = b nowhere in for_stays spot tokens k.passed k.some k.more k.tokens_are t

-- no `del` stands in targets
no_del_passed : (passed : List (OneTarget × Spot)) → has_del (passed_tokens passed) ≡ false
no_del_passed [] = refl
no_del_passed (p ∷ passed) = without (one_target_tokens p.0) (token (Sign 6) p.1 ∷ passed_tokens passed) (no_del_one_target p.0) (no_del_passed passed)

targets_clear : (tokens : List Token) → BeginsTargets 100 tokens → has_del tokens ≡ false
targets_clear tokens b = let k = b nowhere in no_del_front tokens k.more (subst (λ (ts : List Token). has_del ts ≡ false) k.tokens_are (without (passed_tokens k.passed) (sum_tokens k.some) (no_del_passed k.passed) (no_del_sum k.some)))

unread_for : (spot : Spot) (tokens : List Token) (t : Token) (fault : Fault) → BeginsTargets 100 tokens → UnreadTargets 100 tokens t fault → UnreadLine (token (Keyword 17) spot ∷ tokens) t fault
unread_for spot tokens t fault begun unread = unread_clear (token (Keyword 17) spot ∷ tokens) t fault (targets_clear tokens begun)
    (λ at inside is passed s more same. unread.there passed s more (same ∙ ap (λ ts. ts ++ t ∷ more) (sym (same_behind (token (Keyword 17) spot) (token (Keyword 17) at) tokens inside is))))

-- behind the whole target nothing that is read as targets goes on
passes_target : (spot : Spot) (tokens rest : List Token) → TargetsEnd tokens rest → PassesFor (token (Keyword 17) spot ∷ tokens) rest
passes_target spot tokens rest ends [] t behind fault first at inside is passed s more same =
    absurd (ends.none t more first passed s (same ∙ ap (λ ts. ts ++ t ∷ more) (sym (same_behind (token (Keyword 17) spot) (token (Keyword 17) at) (tokens ++ []) inside is)) ∙ append_assoc tokens [] (t ∷ more)))
passes_target spot tokens rest ends (u ∷ us) t behind fault first at inside is passed s more same =
    absurd (ends.none u (us ++ t ∷ more) first passed s (same ∙ ap (λ ts. ts ++ t ∷ more) (sym (same_behind (token (Keyword 17) spot) (token (Keyword 17) at) (tokens ++ u ∷ us) inside is)) ∙ append_assoc tokens (u ∷ us) (t ∷ more)))

-- nor behind its `in`
none_behind_in : (spot at in_at : Spot) (tokens rest behind inside : List Token) → TargetsEnd tokens rest → first_token (token (Keyword 22) in_at ∷ behind) ≡ first_token rest
    → token (Keyword 17) spot ∷ (tokens ++ token (Keyword 22) in_at ∷ behind) ≡ token (Keyword 17) at ∷ inside → (passed : List (OneTarget × Spot)) (s : Sum) (more : List Token) → passed_tokens passed ++ sum_tokens s ≡ inside ++ more → ⊥
none_behind_in spot at in_at tokens rest behind inside ends first is passed s more same = ends.none (token (Keyword 22) in_at) (behind ++ more) first passed s
    (same ∙ ap (λ ts. ts ++ more) (sym (same_behind (token (Keyword 17) spot) (token (Keyword 17) at) (tokens ++ token (Keyword 22) in_at ∷ behind) inside is)) ∙ append_assoc tokens (token (Keyword 22) in_at ∷ behind) more)

passes_in : (spot in_at : Spot) (tokens rest behind : List Token) → TargetsEnd tokens rest → first_token (token (Keyword 22) in_at ∷ behind) ≡ first_token rest → PassesFor ((token (Keyword 17) spot ∷ tokens) ++ token (Keyword 22) in_at ∷ []) behind
passes_in spot in_at tokens rest behind ends first us t left fault next at inside is passed s more same =
    absurd (none_behind_in spot at in_at tokens rest us inside ends first (sym (append_assoc (token (Keyword 17) spot ∷ tokens) (token (Keyword 22) in_at ∷ []) us) ∙ is) passed s (t ∷ more) same)

-- ---- the target is refused

module _ (c : Context) (given : List (List ℕ)) (limit : Option Limit) (spot : Spot) (before : List Token) (may : word_may c 17 ≡ true) where
  shown_for : (fault : Fault) → ShownBy (BeginsTargets 100) (IsAheadOfTargets 100) (followed_tokens target_part) (λ fault w. IsDeep (Here fault) 100 (target_lies w.part)) before fault
      → ShownBy (BeginsHead c given) (IsAheadOnLine c given limit) head_tokens (λ fault h. IsAmissHead c given limit (Here fault) h) (token (Keyword 17) spot ∷ before) fault
  shown_for fault s = record {
    front = token (Keyword 17) spot ∷ s.front;
    shown_by = s.shown_by;
    behind = s.behind;
    before_is = ap (λ ts. token (Keyword 17) spot ∷ ts) s.before_is;
    left_is = s.left_is;
    begun = for_begins c given spot s.front may s.begun;
    goes_on = (
      goes_for c given limit spot s.front s.shown_by fault may (for_ahead spot s.front s.shown_by s.begun) (λ h more is.
          let f = for_there spot h (s.front ++ s.shown_by ∷ more) is in
          for_lies (Here fault) (target_lies f.part.part) h (s.none f.part more f.tokens_are) f.higher) s.goes_on.0,
      unread_for spot s.front s.shown_by fault s.begun s.goes_on.1,
    );
    none = λ h more is.
        let f = for_there spot h (s.front ++ s.shown_by ∷ more) is in
        for_amiss c given limit (Here fault) (target_lies f.part.part) h (s.none f.part more f.tokens_are) f.higher;
  }

  ended_for : (stop : Stop) → EndedBy (BeginsTargets 100) (followed_tokens target_part) (λ w. IsDeep stop 100 (target_lies w.part)) before → EndedBy (EndsHead c given limit) head_tokens (IsAmissHead c given limit stop) (token (Keyword 17) spot ∷ before)
  ended_for stop e = record {
    begun = (for_begins c given spot before may e.begun, is_free c given limit (token (Keyword 17) spot ∷ before) (stays_front (token (Keyword 17) spot ∷ before) (token (Sign 7) some_spot ∷ []) (for_ahead spot before (token (Sign 7) some_spot) e.begun)));
    none = λ h is. let f = for_there spot h before is in for_amiss c given limit stop (target_lies f.part.part) h (e.none f.part f.tokens_are) f.higher;
  }

  refused_for : (stop : Stop) → TargetsRefused target_part 100 before stop → HeadRefused c given limit (token (Keyword 17) spot ∷ before) stop
  refused_for (Here Memory) is = tt
  refused_for (Here (Unexpected at)) is = shown_for (Unexpected at) is
  refused_for (Here (TooDeep at)) is = shown_for (TooDeep at) is
  refused_for (Here (TooMany at)) is = shown_for (TooMany at) is
  refused_for End is = ended_for End is

pub for_target_refused : (c : Context) (before : List Token) (stop : Stop) → TargetsRefused target_part 100 before stop → OpeningRefused c 17 before stop
for_target_refused c before stop is = record { there = λ given limit spot may. refused_for c given limit spot before may stop is }

-- ---- behind the target

for_turns : (spot : Spot) (next : List Token) → HeadTurns target_part (token (Keyword 17) spot ∷ []) next (for_target_of spot)
for_turns spot next = record {
  before = 0;
  behind = 0;
  turns = λ n more first. more_steps (λ m. read_head m (token (Keyword 17) spot ∷ more)) (n + 0) n (omega arith) ∙ more_steps (λ m. then_read (read_target m more) (for_target_of spot n)) n (n + 0) (omega arith);
}

in_turns : {tree : _} {before middle : List Token} (spot : Spot) → (t : Took target_part target_tree before tree middle) → HeadTurns (one_keyword 22) (token (Keyword 17) spot ∷ target_tokens t.written) middle (λ n. for_in spot t.written (n + t.is_read.steps))
in_turns {before = before} {middle = middle} spot t = turns_on target_part (one_keyword 22) (token (Keyword 17) spot ∷ []) before middle (for_target_of spot) 0 (for_in spot t.written) t.written (for_turns spot before) t.is_read t.before_is (λ n more first. refl)

pub for_in_refused : (c : Context) (tree : _) (before middle : List Token) (stop : Stop) → TargetFound before tree middle → Refused (one_keyword 22) 0 middle stop → OpeningRefused c 17 before stop
for_in_refused c tree before middle stop found is = record {
  there = λ given limit spot may.
      let t = found.took in
      refused_part_head c given limit (one_keyword 22) 0 (token (Keyword 17) spot ∷ target_tokens t.written) middle (token (Keyword 17) spot ∷ before) stop (λ n. for_in spot t.written (n + t.is_read.steps))
      (ap (λ ts. token (Keyword 17) spot ∷ ts) t.before_is)
      (begins_part_head c given (one_keyword 22) 0 (token (Keyword 17) spot ∷ target_tokens t.written) (λ at b. for_head spot t.written b (some_exprs at) (spot_at at) None) (λ at b. exprs_tokens (some_exprs at) ++ colon_tokens (spot_at at) None)
      (λ at b. both_true _ true may refl) (λ at b. refl) (λ at b. refl) (λ at b is. cc) (λ at b. refl)
      (λ at other apart b any. let alone = alone_exprs at other apart in let low = target_low t.written other in let fits = t.fits in omega (arith, alone, low, fits)) (λ at place b deep. absurd (none_deeper 0 deep)))
      (passes_target spot (target_tokens t.written) middle found.ends) (in_turns spot t) (λ why n b left deep. absurd (not_deep why deep)) is;
}

abbrev in_read : (spot : Spot) (after : List Token) → IsRead (one_keyword 22) spot after
in_read spot after = record { steps = 0; reads = λ n more first. refl }

items_turns : {tree : _} {before middle behind : List Token} {at : Pos} (spot : Spot) → (t : Took target_part target_tree before tree middle) → (k : Taken (Keyword 22) middle at behind)
    → HeadTurns exprs_part ((token (Keyword 17) spot ∷ target_tokens t.written) ++ token (Keyword 22) k.spot ∷ []) behind (λ n. for_exprs spot t.written k.spot ((n + 0) + t.is_read.steps))
items_turns {middle = middle} {behind = behind} spot t k = turns_on (one_keyword 22) exprs_part (token (Keyword 17) spot ∷ target_tokens t.written) middle behind (λ n. for_in spot t.written (n + t.is_read.steps)) t.is_read.steps
    (λ n. for_exprs spot t.written k.spot (n + t.is_read.steps)) k.spot (in_turns spot t) (in_read k.spot behind) k.before_is (λ n more first. refl)

for_before : {tree : _} {before middle behind : List Token} {at : Pos} (spot : Spot) → (t : Took target_part target_tree before tree middle) → (k : Taken (Keyword 22) middle at behind)
    → token (Keyword 17) spot ∷ before ≡ ((token (Keyword 17) spot ∷ target_tokens t.written) ++ token (Keyword 22) k.spot ∷ []) ++ behind
for_before {behind = behind} spot t k = ap (λ ts. token (Keyword 17) spot ∷ ts) (t.before_is ∙ ap (λ ts. target_tokens t.written ++ ts) k.before_is) ∙ sym (append_assoc (token (Keyword 17) spot ∷ target_tokens t.written) (token (Keyword 22) k.spot ∷ []) behind)

pub for_items_refused : (c : Context) (tree : _) (before middle behind : List Token) (at : Pos) (stop : Stop) → TargetFound before tree middle → Taken (Keyword 22) middle at behind → Refused exprs_part 100 behind stop → OpeningRefused c 17 before stop
for_items_refused c tree before middle behind at stop found k is = record {
  there = λ given limit spot may.
      let t = found.took in
      refused_part_head c given limit exprs_part 100 ((token (Keyword 17) spot ∷ target_tokens t.written) ++ token (Keyword 22) k.spot ∷ []) behind (token (Keyword 17) spot ∷ before) stop
      (λ n. for_exprs spot t.written k.spot ((n + 0) + t.is_read.steps)) (for_before spot t k)
      (begins_part_head c given exprs_part 100 ((token (Keyword 17) spot ∷ target_tokens t.written) ++ token (Keyword 22) k.spot ∷ []) (λ at e. for_head spot t.written k.spot e (spot_at at) None) (λ at e. colon_tokens (spot_at at) None)
      (λ at e. both_true _ true may refl) (λ at e. refl) (λ at e. refl) (λ at e is. cc)
      (λ at e. sym (append_assoc (token (Keyword 17) spot ∷ target_tokens t.written) (token (Keyword 22) k.spot ∷ []) (exprs_tokens e ++ colon_tokens (spot_at at) None)))
      (λ at other apart e inner. let low = target_low t.written other in let fits = t.fits in omega (arith, inner, low, fits))
      (λ at place e deep. let one = le-max_right (target_lies t.written place) (exprs_lies e place) in let high = le-max_left (max (target_lies t.written place) (exprs_lies e place)) 0 in omega (arith, deep, one, high)))
      (passes_in spot k.spot (target_tokens t.written) middle behind found.ends (sym (ap first_token k.before_is))) (items_turns spot t k)
      (λ why n e left deep. only_colon (λ h. IsDeep why 100 (head_lies h)) ((n + 0) + t.is_read.steps) (for_head spot t.written k.spot e) left (λ colon behind. items_deep why (target_lies t.written) (exprs_lies e) (behind_lies behind) deep)) is;
}
  where
    items_deep : (why : Stop) (a b c : Pos → ℕ) → IsDeep why 100 b → IsDeep why 100 (λ at. max (max (a at) (b at)) (c at))
    items_deep why a b c deep = deep_beside_left why 100 (λ at. max (a at) (b at)) c (deep_beside_right why 100 a b deep)

pub for_found : (c : Context) (target : TargetRead) (items : Part) (before middle behind after : List Token) (at : Pos) → TargetFound before (target_of target) middle → Taken (Keyword 22) middle at behind → FoundRow 100 behind items after
    → OpeningFound c 17 before (For target items.expr.value) after
for_found c target items before middle behind after at found k e spot =
    let t = found.took in
    let front : List Token = (token (Keyword 17) spot ∷ target_tokens t.written) ++ token (Keyword 22) k.spot ∷ [] in
    let reads : ColonReads (front ++ exprs_tokens e.written) after (for_head spot t.written k.spot e.written) =
    colon_on exprs_part front behind after (λ n. for_exprs spot t.written k.spot ((n + 0) + t.is_read.steps)) t.is_read.steps (for_head spot t.written k.spot e.written) e.written
    (items_turns spot t k) (row_is_read e) e.before_is (λ n more first. more_steps (λ m. read_colon m (for_head spot t.written k.spot e.written) more) ((n + 0) + t.is_read.steps) (n + t.is_read.steps) (omega arith)) in
    record {
      front = front ++ exprs_tokens e.written;
      made = for_head spot t.written k.spot e.written;
      before_is = for_before spot t k ∙ ap (λ ts. front ++ ts) e.before_is ∙ sym (append_assoc front (exprs_tokens e.written) after);
      tokens_are = λ colon behind_it.
          sym (append_assoc (token (Keyword 17) spot ∷ target_tokens t.written) (token (Keyword 22) k.spot ∷ []) (exprs_tokens e.written ++ colon_tokens colon behind_it)) ∙ sym (append_assoc front (exprs_tokens e.written) (colon_tokens colon behind_it));
      steps = reads.steps;
      left = reads.left;
      reads = reads.reads;
      what_is = λ colon behind_it. (t.value_is, e.tree_is);
      behind_is = λ colon behind_it. refl;
      past = record {
        no_del = λ opened del_at inside there. del_absent (front ++ exprs_tokens e.written) opened del_at inside
            (clear_before (for_head spot t.written k.spot e.written some_spot None) (front ++ exprs_tokens e.written) (colon_tokens some_spot None) refl refl
            (sym (append_assoc (token (Keyword 17) spot ∷ target_tokens t.written) (token (Keyword 22) k.spot ∷ []) (exprs_tokens e.written ++ colon_tokens some_spot None)) ∙ sym (append_assoc front (exprs_tokens e.written) (colon_tokens some_spot None)))) there;
        no_for = λ for_at us inside there passed s more same. none_behind_in spot for_at k.spot (target_tokens t.written) middle (exprs_tokens e.written ++ us) inside found.ends (sym (ap first_token k.before_is))
            (sym (append_assoc (token (Keyword 17) spot ∷ target_tokens t.written) (token (Keyword 22) k.spot ∷ []) (exprs_tokens e.written ++ us)) ∙ sym (append_assoc front (exprs_tokens e.written) us) ∙ there) passed s more same;
      };
      depth = max (target_depth t.written) (exprs_depth e.written);
      low = let one = t.fits in let two = e.fits in let same = e.height_is in omega (arith, one, two, same);
      depth_is = λ colon behind_it. refl;
      lies_behind = λ colon s at. le-max_right _ (simple_lies s at);
      lies_within = λ colon s at. let one = target_low t.written at in let two = exprs_low e.written at in omega (arith, one, two);
      stands = λ given colon behind_it. refl;
    }
