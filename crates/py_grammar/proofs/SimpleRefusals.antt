-- `assert` and `del`: what is read, and how it is refused.
use Rattle.std.proofs.Common.{◌≡◌, inr, ℕ, ◌+◌, ◌≤◌, Bool, true, false, List, [], ◌∷◌, ◌++◌, Option, Some, None, option_map, option_and_then, is_some, refl, ap, sym, ◌∙◌, arith, subst, append_assoc, append-nil}
use Rattle.std.proofs.lemmas.Option.{same_Some}
use Rattle.std.proofs.Math.Nat.{le-max_right}
use Rattle.prov_base.specs.declared.place.Pos.{Pos}
use Rattle.py_lines.specs.declared.parts.Token.{Token}
use Rattle.py_lines.specs.declared.parts.TokenKind.TheVariants.{Keyword, Sign}
use Rattle.py_tree.specs.declared.expr.Target.{Target as BuiltTarget}
use Rattle.py_tree.specs.declared.stmt.Form.{Form}
use Rattle.py_tree.specs.Erasure.{expr_of, form_of, target_of}
use Rattle.py_tree.specs.Tree.{ExprTree, assert_form, del_form, field_target, attr_expr}
use Rattle.py_expressions.specs.declared.fault.Fault.{Fault}
use Rattle.py_expressions.specs.declared.fault.Fault.TheVariants.{Unexpected, TooDeep, TooMany, Memory}
use Rattle.py_expressions.specs.declared.fault.Stop.{Stop}
use Rattle.py_expressions.specs.declared.fault.Stop.TheVariants.{Here, End}
use Rattle.py_expressions.specs.declared.part.Part.{Part}
use Rattle.py_expressions.specs.Concrete.{Spot, Expr}
use Rattle.py_expressions.specs.Tokens.{token, expr_tokens}
use Rattle.py_expressions.specs.Trees.{expr_tree}
use Rattle.py_expressions.specs.Depth.{expr_depth}
use Rattle.py_expressions.specs.Lies.{expr_lies}
use Rattle.py_grammar.specs.StatementLies.{one_target_lies, simple_lies}
use Rattle.py_expressions.specs.Targets.{OneTarget, named, item, field, expr_target}
use Rattle.py_grammar.specs.Written.{Simple, assert, assert_message, del}
use Rattle.py_grammar.specs.StatementTrees.{one_target_tree, simple_form}
use Rattle.py_grammar.specs.WellPlaced.{Around, may_go, form_stands}
use Rattle.py_expressions.specs.Reader.{Read, is_sign, spot_of, read_expr}
use Rattle.py_grammar.specs.StatementReader.{whole, after_test}
use Rattle.py_expressions.specs.Parsed.{IsDeep, Only, Finds, Shown, Found, Refused, Taken, is_sign_next, is_form, expr_part, IsAtFirst}
use Rattle.py_grammar.specs.ParsedSimple.{leaving_none, BeginsSimple, DeepSimple, has_place, UnreadDel, SimpleEnds, SimpleRefused, FoundBehindAny, RefusedBehindAny, IsMore, target_form}
use Rattle.py_expressions.proofs.Reading.{expr_reads, if_false}
use Rattle.py_expressions.proofs.Refusals.{only_is, begins_whole, deep_same, deep_beside_left, deep_beside_right, max_below}
use Rattle.py_expressions.proofs.TargetReads.{target_is}
use Rattle.py_grammar.proofs.TargetForms.{target_deep, target_lies_so, target_spelled, target_tree_is}
use Rattle.py_expressions.proofs.ExprForms.{is_attr_tree}
use Rattle.py_grammar.proofs.SimpleParts.{Turns, turned_none, turns_same, as_whole, map_whole, only_whole, only_map, only_if_simple, none_found, expr_within, expr_fits, Carries, begins_part, refused_part, refused_behind, ended, ended_behind, expr_all, expr_goes}

-- ---- `assert`

abbrev assert_turn : Spot → ℕ → Expr → List Token → Option Simple
assert_turn spot n e rest = after_test (n + 0) spot e rest

assert_turns : (spot : Spot) (more : List Token) → Turns expr_part (token (Keyword 5) spot ∷ more) more (assert_turn spot)
assert_turns spot more = record { before = 0; behind = 0; turns = λ n. refl }

assert_deep : (why : Stop) (n : ℕ) (spot : Spot) (e : Expr) (left : List Token) → IsDeep why 100 (expr_lies e) → Only (λ s. IsDeep why 100 (simple_lies s)) (leaving_none (after_test n spot e left))
assert_deep why n spot e [] deep = deep
assert_deep why n spot e (t ∷ ts) deep = only_if_simple _ (is_sign 6 t.kind) _ None
    (only_map _ (assert_message spot e (spot_of t)) (whole (read_expr n ts)) (λ m. deep_beside_left why 100 (expr_lies e) (expr_lies m) deep)) tt

pub assert_refused : (behind : List Token) (stop : Stop) → Refused expr_part 100 behind stop → RefusedBehindAny 5 behind stop
assert_refused behind stop is = record {
  there = λ around spot.
      refused_part around expr_part 100 (token (Keyword 5) spot ∷ []) behind (token (Keyword 5) spot ∷ behind) stop (assert_turn spot) refl refl
      (begins_part (has_place around) expr_part 100 (token (Keyword 5) spot ∷ []) (assert spot) (λ e. refl) (λ e. refl) (λ e at low. low) (λ e at deep. deep)) (λ more first. assert_turns spot more)
      (λ why n e left deep. assert_deep why (n + 0) spot e left deep) is;
}

pub assert_more : (behind after : List Token) (part : Part) (stop : Stop) → Found expr_part expr_tree 7 100 behind part after → is_sign_next 6 after ≡ false → IsMore after stop → RefusedBehindAny 5 behind stop
assert_more behind after part stop f other more = record {
  there = λ around spot.
      ended around (token (Keyword 5) spot ∷ expr_tokens f.written) after (token (Keyword 5) spot ∷ behind) stop (assert spot f.written) refl (expr_fits f) refl (ap (λ ts. token (Keyword 5) spot ∷ ts) f.before_is) refl more
      (λ t ts rest is. turned_none expr_part _ (expr_tokens f.written ++ t ∷ rest) (t ∷ rest) (assert_turn spot) f.written (expr_reads f.written).steps (assert_turns spot _) (expr_goes f t ts rest is)
      (λ n. if_false (is_sign 6 t.kind) _ _ (subst (λ (ts : List Token). is_sign_next 6 ts ≡ false) is other)));
}

pub assert_found : (behind after : List Token) (part : Part) (form : Form) → Found expr_part expr_tree 7 100 behind part after → after ≡ [] → form_of form ≡ assert_form (expr_of part.expr.value) None → FoundBehindAny 5 behind form
assert_found behind after part form f is tree around spot = record {
  written = assert spot f.written;
  before_is = ap (λ ts. token (Keyword 5) spot ∷ ts) (expr_all f is);
  tree_is = tree ∙ ap (λ e. assert_form e None) f.tree_is;
  fits = let high = f.height_is in let low = f.fits in omega (arith, high, low);
  stands = refl;
}

-- with a message

abbrev message_turn : Spot → Expr → Spot → ℕ → Expr → List Token → Option Simple
message_turn spot e comma = as_whole (λ m. Some (assert_message spot e comma m))

message_turns : (spot : Spot) (e : Expr) (comma : Spot) (more : List Token) → Turns expr_part (token (Keyword 5) spot ∷ (expr_tokens e ++ token (Sign 6) comma ∷ more)) more (message_turn spot e comma)
message_turns spot e comma more = record {
  before = (expr_reads e).steps;
  behind = (expr_reads e).steps;
  turns = λ n.
      ap (λ o. option_and_then (λ found. after_test (n + (expr_reads e).steps) spot found.0 found.1) o) ((expr_reads e).reads n (token (Sign 6) comma ∷ more) (omega arith))
      ∙ map_whole (assert_message spot e comma) n (read_expr (n + (expr_reads e).steps) more);
}

pub message_refused : (comma_at : Pos) (behind middle after : List Token) (part : Part) (stop : Stop) → Found expr_part expr_tree 7 100 behind part middle → Taken (Sign 6) middle comma_at after → Refused expr_part 100 after stop
    → RefusedBehindAny 5 behind stop
message_refused comma_at behind middle after part stop f k is = record {
  there = λ around spot.
      let e = f.written in
      let c : Token = token (Sign 6) k.spot in
      let w : Token = token (Keyword 5) spot in
      refused_part around expr_part 100 (w ∷ (expr_tokens e ++ c ∷ [])) after (w ∷ behind) stop (message_turn spot e k.spot) refl
      (ap (λ ts. w ∷ ts) (f.before_is ∙ ap (λ ts. expr_tokens e ++ ts) k.before_is ∙ sym (append_assoc (expr_tokens e) (c ∷ []) after)))
      (begins_part (has_place around) expr_part 100 (w ∷ (expr_tokens e ++ c ∷ [])) (assert_message spot e k.spot) (λ m. refl) (λ m. ap (λ ts. w ∷ ts) (sym (append_assoc (expr_tokens e) (c ∷ []) (expr_tokens m))))
      (λ m at low. max_below _ _ 100 (expr_within e (expr_fits f) at) low) (λ m at deep. let high = le-max_right (expr_lies e at) (expr_lies m at) in omega (arith, deep, high)))
      (λ more first. turns_same expr_part _ (w ∷ (expr_tokens e ++ c ∷ more)) more _ (ap (λ ts. w ∷ ts) (append_assoc (expr_tokens e) (c ∷ []) more)) (message_turns spot e k.spot more))
      (λ why n m left deep. only_whole _ (λ m. Some (assert_message spot e k.spot m)) n m left (deep_beside_right why 100 (expr_lies e) (expr_lies m) deep))
      is;
}

pub message_more : (comma_at : Pos) (behind middle after last : List Token) (part message : Part) (stop : Stop) → Found expr_part expr_tree 7 100 behind part middle → Taken (Sign 6) middle comma_at after
    → Found expr_part expr_tree 7 100 after message last → IsMore last stop → RefusedBehindAny 5 behind stop
message_more comma_at behind middle after last part message stop f k m more = record {
  there = λ around spot.
      let e = f.written in
      let c : Token = token (Sign 6) k.spot in
      let w : Token = token (Keyword 5) spot in
      ended around (w ∷ (expr_tokens e ++ (c ∷ expr_tokens m.written))) last (w ∷ behind) stop (assert_message spot e k.spot m.written) refl (max_below _ _ 100 (expr_fits f) (expr_fits m)) refl
      (ap (λ ts. w ∷ ts) (f.before_is ∙ ap (λ ts. expr_tokens e ++ ts) (k.before_is ∙ ap (λ ts. c ∷ ts) m.before_is) ∙ sym (append_assoc (expr_tokens e) (c ∷ expr_tokens m.written) last))) refl more
      (λ t ts rest is. turned_none expr_part _ (expr_tokens m.written ++ t ∷ rest) (t ∷ rest) (message_turn spot e k.spot) m.written (expr_reads m.written).steps
      (turns_same expr_part _ _ _ _ (ap (λ ts. w ∷ ts) (append_assoc (expr_tokens e) (c ∷ expr_tokens m.written) (t ∷ rest))) (message_turns spot e k.spot (expr_tokens m.written ++ t ∷ rest)))
      (expr_goes m t ts rest is) (λ n. refl));
}

pub message_found : (comma_at : Pos) (behind middle after last : List Token) (part message : Part) (form : Form) → Found expr_part expr_tree 7 100 behind part middle → Taken (Sign 6) middle comma_at after
    → Found expr_part expr_tree 7 100 after message last → last ≡ [] → form_of form ≡ assert_form (expr_of part.expr.value) (Some (expr_of message.expr.value)) → FoundBehindAny 5 behind form
message_found comma_at behind middle after last part message form f k m is tree around spot = record {
  written = assert_message spot f.written k.spot m.written;
  before_is = ap (λ ts. token (Keyword 5) spot ∷ ts) (f.before_is ∙ ap (λ ts. expr_tokens f.written ++ ts) (k.before_is ∙ ap (λ ts. token (Sign 6) k.spot ∷ ts) (expr_all m is)));
  tree_is = tree ∙ ap (λ e. assert_form e (Some (expr_of message.expr.value))) f.tree_is ∙ ap (λ e. assert_form (expr_tree f.written) (Some e)) m.tree_is;
  fits = let high = f.height_is in let low = f.fits in let high_2 = m.height_is in let low_2 = m.fits in max_below _ _ 100 (omega (arith, high, low)) (omega (arith, high_2, low_2));
  stands = refl;
}

-- ---- `del`

abbrev del_of : Spot → Expr → Option Simple
del_of spot e = option_map (del spot) (expr_target e)

abbrev del_turn : Spot → ℕ → Expr → List Token → Option Simple
del_turn spot = as_whole (del_of spot)

del_turns : (spot : Spot) (more : List Token) → Turns expr_part (token (Keyword 12) spot ∷ more) more (del_turn spot)
del_turns spot more = record { before = 0; behind = 0; turns = λ n. by n (read_expr (n + 0) more) }
  where
    by : (n : ℕ) (r : Read Expr) → option_map (del spot) (option_and_then expr_target (whole r)) ≡ option_and_then (λ found. del_turn spot n found.0 found.1) r
    by n None = refl
    by n (Some (e, [])) = refl
    by n (Some (e, t ∷ ts)) = refl

del_begins : (is : Simple → Bool) (spot : Spot) → Carries expr_part 100 (token (Keyword 12) spot ∷ []) (BeginsSimple is) (DeepSimple is)
del_begins is spot = record {
  within = λ tokens b. inr (λ at. let c = b at in record { spot = spot; some = c.some; more = c.more; tokens_are = ap (λ ts. token (Keyword 12) spot ∷ ts) c.tokens_are; within = c.within });
  first = λ tokens place f. inr (record {
    spot = spot;
    some = f.some;
    more = f.more;
    tokens_are = ap (λ ts. token (Keyword 12) spot ∷ ts) f.tokens_are;
    ahead = token (Keyword 12) spot ∷ f.ahead;
    named = f.named;
    between = f.between;
    front_is = ap (λ ts. token (Keyword 12) spot ∷ ts) f.front_is;
    named_is = f.named_is;
    deep = f.deep;
    within = f.within;
  });
}

del_begun : (is : Simple → Bool) (spot : Spot) (e : Expr) → expr_depth e ≤ 100 → BeginsSimple is (token (Keyword 12) spot ∷ expr_tokens e)
del_begun is spot e fits = (del_begins is spot).within (expr_tokens e) (begins_whole expr_part 100 e (expr_within e fits))

del_deep : (why : Stop) (spot : Spot) (e : Expr) → IsDeep why 100 (expr_lies e) → Only (λ s. IsDeep why 100 (simple_lies s)) (leaving_none (del_of spot e))
del_deep why spot e deep = by (expr_target e) refl
  where
    by : (o : Option OneTarget) → expr_target e ≡ o → Only (λ s. IsDeep why 100 (simple_lies s)) (leaving_none (option_map (del spot) o))
    by None is = tt
    by (Some t) is = deep_same why 100 (expr_lies e) (one_target_lies t) (target_lies_so e t is) deep

finds_expr : (P : Expr → Type 0) (ts : List Token) (e : Expr) → Finds P read_expr ts → expr_tokens e ≡ ts → P e
finds_expr P ts e finds is =
    let r = expr_reads e in
    let sum : r.steps + finds.steps ≡ finds.steps + r.steps = omega arith in
    subst (Only P) (ap (read_expr (r.steps + finds.steps)) (sym is ∙ sym (append-nil (expr_tokens e))) ∙ ap (λ m. read_expr m (expr_tokens e ++ [])) sum ∙ r.reads finds.steps [] (omega arith)) (finds.only r.steps)

behind_del : (one other : Spot) (front inside : List Token) → token (Keyword 12) one ∷ front ≡ token (Keyword 12) other ∷ inside → inside ≡ front
behind_del one other front inside is = cc

-- no expression goes on with the token that is refused
del_unread : {behind : List Token} {fault : Fault} (spot : Spot) → (s : Shown expr_part 100 behind fault) → UnreadDel (token (Keyword 12) spot ∷ s.front) s.shown_by fault
del_unread {fault = fault} spot s = record {
  there = λ other inside at e more same. finds_expr _ (s.front ++ s.shown_by ∷ more) e (s.none more) (same ∙ ap (λ ts. ts ++ s.shown_by ∷ more) (behind_del spot other s.front inside at));
}

-- an expression that was read goes no further
goes_no_further : {before after : List Token} {part : Part} → (f : Found expr_part expr_tree 7 100 before part after) → (t : Token) (ts : List Token) → after ≡ t ∷ ts → (e : Expr) (more : List Token) → expr_tokens e ≡ expr_tokens f.written ++ t ∷ more → ⊥
goes_no_further f t ts is e more same =
    let r = expr_reads e in
    let q = expr_reads f.written in
    let sum : q.steps + r.steps ≡ r.steps + q.steps = omega arith in
    differs (sym (r.reads q.steps [] (omega arith)) ∙ ap (λ m. read_expr m (expr_tokens e ++ [])) sum ∙ ap (read_expr (r.steps + q.steps)) (append-nil (expr_tokens e) ∙ same) ∙ expr_goes f t ts more is r.steps)
  where
    differs : ◌≡◌ {A = Option (Expr × List Token)} (Some (e, [])) (Some (f.written, t ∷ more)) → ⊥
    differs alike = let left : [] ≡ t ∷ more = ap (λ (p : Expr × List Token). p.1) (same_Some _ _ alike) in cc

del_goes : {behind after : List Token} {part : Part} (spot : Spot) → (f : Found expr_part expr_tree 7 100 behind part after) → (t : Token) (ts : List Token) (fault : Fault) → after ≡ t ∷ ts → UnreadDel (token (Keyword 12) spot ∷ expr_tokens f.written) t fault
del_goes spot f t ts fault is = record {
  there = λ other inside at e more same. absurd (goes_no_further f t ts is e more (same ∙ ap (λ us. us ++ t ∷ more) (behind_del spot other (expr_tokens f.written) inside at)));
}

pub del_refused : (behind : List Token) (stop : Stop) → Refused expr_part 100 behind stop → RefusedBehindAny 12 behind stop
del_refused behind stop is = record {
  there = λ around spot.
      refused_behind around expr_part 100 (token (Keyword 12) spot ∷ []) behind (token (Keyword 12) spot ∷ behind) stop (del_turn spot) refl (λ fault s. del_unread spot s)
      (del_begins (has_place around) spot) (λ more first. del_turns spot more) (λ why n e left deep. only_whole _ (del_of spot) n e left (del_deep why spot e deep)) is;
}

-- the expression was read, and is none that can be deleted
del_stops : (behind after : List Token) (part : Part) (stop : Stop) → (f : Found expr_part expr_tree 7 100 behind part after) → IsAtFirst after stop
    → ((around : Around) (spot : Spot) → Only (λ s. form_stands around (simple_form s) ≡ false) (leaving_none (del_of spot f.written))) → RefusedBehindAny 12 behind stop
del_stops behind after part stop f first amiss = record { there = λ around spot. by around spot after stop refl first }
  where
    by : (around : Around) (spot : Spot) (rest : List Token) (stop : Stop) → after ≡ rest → IsAtFirst rest stop → SimpleRefused around (token (Keyword 12) spot ∷ behind) stop
    by around spot [] (Here fault) is first = absurd (let no : Here fault ≡ End = first in cc)
    by around spot [] End is first = subst (λ (ts : List Token). SimpleEnds around (token (Keyword 12) spot ∷ ts) End) (sym (expr_all f is))
        (record {
          begins = del_begun (has_place around) spot f.written (expr_fits f);
          none = record {
            steps = (expr_reads f.written).steps;
            only = λ n. only_is _ _ _ (ap leaving_none (ap (λ o. option_map (del spot) (option_and_then expr_target (whole o)))
                (ap (read_expr (n + (expr_reads f.written).steps)) (sym (append-nil (expr_tokens f.written))) ∙ (expr_reads f.written).reads n [] (omega arith)))) (amiss around spot);
          };
        })
    by around spot (t ∷ ts) (Here (Unexpected left)) is first = record {
      front = token (Keyword 12) spot ∷ expr_tokens f.written;
      shown_by = t;
      behind = ts;
      before_is = ap (λ us. token (Keyword 12) spot ∷ us) (f.before_is ∙ ap (λ us. expr_tokens f.written ++ us) is);
      left_is = first;
      begins = del_begun (has_place around) spot f.written (expr_fits f);
      goes_on = tt;
      unread = del_goes spot f t ts (Unexpected left) is;
      none = λ more. none_found _ _ (turned_none expr_part _ (expr_tokens f.written ++ t ∷ more) (t ∷ more) (del_turn spot) f.written (expr_reads f.written).steps (del_turns spot _) (expr_goes f t ts more is) (λ n. refl));
    }
    by around spot (t ∷ ts) (Here (TooDeep place)) is first = absurd first
    by around spot (t ∷ ts) (Here (TooMany place)) is first = absurd first
    by around spot (t ∷ ts) (Here Memory) is first = absurd first
    by around spot (t ∷ ts) End is first = absurd first

no_form : (o : Option OneTarget) → is_form o ≡ false → o ≡ None
no_form None is = refl
no_form (Some t) is = cc

a_form : (o : Option OneTarget) → is_form o ≡ true → (t : OneTarget) × (o ≡ Some t)
a_form None is = absurd (let no : false ≡ true = is in cc)
a_form (Some t) is = (t, refl)

pub del_wrong : (behind after : List Token) (part : Part) (stop : Stop) → Found expr_part expr_tree 7 100 behind part after → part.is_target ≡ false → IsAtFirst after stop → RefusedBehindAny 12 behind stop
del_wrong behind after part stop f other first = del_stops behind after part stop f first
    (λ around spot. only_is _ _ None (ap (λ o. leaving_none (option_map (del spot) o)) (no_form _ (sym f.form_is ∙ other))) tt)

pub del_attribute : (dot : Pos) (e : ExprTree) (name : List ℕ) (behind after : List Token) (part : Part) (stop : Stop) → Found expr_part expr_tree 7 100 behind part after → part.is_target ≡ true
    → expr_of part.expr.value ≡ attr_expr dot e name → IsAtFirst after stop → RefusedBehindAny 12 behind stop
del_attribute dot e name behind after part stop f fine tree first = del_stops behind after part stop f first
    (λ around spot. only_is _ _ (Some (del spot t.0, [])) (ap (λ o. leaving_none (option_map (del spot) o)) t.1) (ap may_go stays))
  where
    t : (t : OneTarget) × (expr_target f.written ≡ Some t)
    t = a_form (expr_target f.written) (sym f.form_is ∙ fine)

    stays : one_target_tree t.0 ≡ field_target dot e name
    stays = same_Some _ _ (sym (target_tree_is f.written t.0 t.1) ∙ ap target_form (sym f.tree_is ∙ tree))

-- the target that the expression is
pub del_target : {behind after : List Token} {part : Part} → (f : Found expr_part expr_tree 7 100 behind part after) → part.is_target ≡ true → (t : OneTarget) × (expr_target f.written ≡ Some t)
del_target f fine = a_form (expr_target f.written) (sym f.form_is ∙ fine)

pub del_is_target : (behind after : List Token) (part : Part) → Found expr_part expr_tree 7 100 behind part after → part.is_target ≡ true → is_some (target_form (expr_of part.expr.value)) ≡ true
del_is_target behind after part f fine = let t = del_target f fine in ap (λ e. is_some (target_form e)) f.tree_is ∙ ap is_some (target_tree_is f.written t.0 t.1)

pub del_more : (behind after : List Token) (part : Part) (stop : Stop) → Found expr_part expr_tree 7 100 behind part after → IsMore after stop → RefusedBehindAny 12 behind stop
del_more behind after part stop f more = record {
  there = λ around spot.
      ended_behind around (token (Keyword 12) spot ∷ expr_tokens f.written) after (token (Keyword 12) spot ∷ behind) stop (del_begun (has_place around) spot f.written (expr_fits f)) (λ t ts left is. del_goes spot f t ts (Unexpected left) is) (ap (λ ts. token (Keyword 12) spot ∷ ts) f.before_is) more
      (λ t ts rest is. turned_none expr_part _ (expr_tokens f.written ++ t ∷ rest) (t ∷ rest) (del_turn spot) f.written (expr_reads f.written).steps (del_turns spot _) (expr_goes f t ts rest is) (λ n. refl));
}

goes : (t : OneTarget) (e : Expr) → expr_target e ≡ Some t → is_attr_tree (expr_tree e) ≡ false → may_go (one_target_tree t) ≡ true
goes (named at bytes) e is other = refl
goes (item p opening index closing) e is other = refl
goes (field p dot name_at bytes) e is other = let no : true ≡ false = sym (ap (λ e. is_attr_tree (expr_tree e)) (target_is e (field p dot name_at bytes) is)) ∙ other in cc

pub del_found : (behind after : List Token) (part : Part) (target : BuiltTarget) (form : Form) → Found expr_part expr_tree 7 100 behind part after → part.is_target ≡ true → is_attr_tree (expr_of part.expr.value) ≡ false
    → target_form (expr_of part.expr.value) ≡ Some (target_of target) → after ≡ [] → form_of form ≡ del_form (target_of target) → FoundBehindAny 12 behind form
del_found behind after part target form f fine other built is tree around spot =
    let t = del_target f fine in
    record {
      written = del spot t.0;
      before_is = ap (λ ts. token (Keyword 12) spot ∷ ts) (expr_all f is ∙ target_spelled f.written t.0 t.1);
      tree_is = tree ∙ ap del_form (same_Some _ _ (sym built ∙ ap target_form f.tree_is ∙ target_tree_is f.written t.0 t.1));
      fits = let high = f.height_is in let low = f.fits in let same = target_deep f.written t.0 t.1 in omega (arith, high, low, same);
      stands = goes t.0 f.written t.1 (ap is_attr_tree (sym f.tree_is) ∙ other);
    }
