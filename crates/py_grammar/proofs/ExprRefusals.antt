-- Expressions that are a statement, and assignments: what is read, and how it is refused.
use Rattle.std.proofs.Common.{◌≡◌, inl, inr, ℕ, suc, ◌+◌, ◌≤◌, ◌<◌, Bool, true, false, List, [], ◌∷◌, ◌++◌, Option, Some, None, option_map, option_and_then, is_some, refl, ap, sym, ◌∙◌, arith, subst, append_assoc, length}
use Rattle.std.specs.Prelude.{◌==◌}
use Rattle.std.proofs.Math.Nat.{le-max_right}
use Rattle.std.proofs.lemmas.Bool.{eqb-true}
use Rattle.std.proofs.lemmas.Option.{same_Some}
use Rattle.py_lines.specs.declared.parts.Token.{Token}
use Rattle.prov_base.specs.declared.place.Pos.{Pos}
use Rattle.py_lines.specs.declared.parts.TokenKind.{TokenKind}
use Rattle.py_lines.specs.declared.parts.TokenKind.TheVariants.{Word, Keyword, Number, Text, Sign}
use Rattle.py_tree.specs.declared.expr.Target.{Target as BuiltTarget}
use Rattle.py_tree.specs.declared.stmt.Form.{Form}
use Rattle.py_tree.specs.Erasure.{expr_of, form_of, target_of}
use Rattle.py_tree.specs.Tree.{do_form, assign_form}
use Rattle.py_expressions.specs.declared.fault.Fault.TheVariants.{Unexpected}
use Rattle.py_expressions.specs.declared.fault.Stop.{Stop}
use Rattle.py_expressions.specs.declared.fault.Stop.TheVariants.{Here}
use Rattle.py_expressions.specs.declared.part.Part.{Part}
use Rattle.py_expressions.specs.Concrete.{Spot, Exprs, one_expr, several}
use Rattle.py_expressions.specs.Tokens.{token, exprs_tokens}
use Rattle.py_expressions.specs.Depth.{exprs_depth}
use Rattle.py_grammar.specs.StatementDepth.{simple_depth}
use Rattle.py_expressions.specs.Lies.{exprs_lies}
use Rattle.py_grammar.specs.StatementLies.{one_target_lies, simple_lies, target_lies}
use Rattle.py_grammar.specs.Written.{AugSign, Simple, expression, assign, augmented}
use Rattle.py_expressions.specs.Targets.{OneTarget, Target, exprs_target, single_target}
use Rattle.py_grammar.specs.StatementTokens.{simple_tokens}
use Rattle.py_grammar.specs.StatementTrees.{target_tree, simple_form}
use Rattle.py_grammar.specs.WellPlaced.{Around}
use Rattle.py_expressions.specs.Reader.{is_sign, is_keyword, spot_of, kind_level, start_class, next_level, starts, read_exprs}
use Rattle.py_grammar.specs.StatementReader.{aug_sign_of, whole, behind_exprs, read_simple}
use Rattle.py_expressions.specs.Parsed.{IsDeep, Only, FoundRow, Refused, ends_open, is_keyword_next, is_sign_next, exprs_part}
use Rattle.py_grammar.specs.ParsedSimple.{leaving_none, has_place, IsRow, SimpleFound, SimpleRefused, FoundAnywhere, RefusedAnywhere, FoundAfter, RefusedAfter, aug_sign_next, is_word, is_word_kind, begins_word, IsMore, all_target_form}
use Rattle.py_expressions.proofs.Firsts.{IsStart, exprs_starts}
use Rattle.py_expressions.proofs.Reading.{if_false}
use Rattle.py_expressions.proofs.RowReads.{row_reads, row_all}
use Rattle.py_expressions.proofs.Refusals.{first_of, deeper, deep_same, deep_beside_left, max_below}
use Rattle.py_grammar.proofs.SimpleReading.{by_exprs, begins_with_exprs}
use Rattle.py_grammar.proofs.TargetForms.{target_lies_so, targets_deep, targets_lie_so, targets_spelled, targets_tree_is}
use Rattle.py_grammar.proofs.LyingLines.{target_low}
use Rattle.py_grammar.proofs.SimpleParts.{ReadsNone, Turns, turned_none, turns_same, as_whole, map_whole, only_whole, only_map, only_if_simple, row_fits, spelled, begins_part, other_statement, refused_part, at_token, ended, row_goes}

-- ---- the expressions with which it begins

-- nothing is read where nothing fits this token behind them
row_none : (e : Exprs) (t : Token) (more : List Token) → (ends_open e ≡ false → 8 < kind_level t.kind) → (ends_open e ≡ true → start_class t.kind ≡ 0) → ((n : ℕ) → behind_exprs n e (t ∷ more) ≡ None) → ReadsNone (exprs_tokens e ++ t ∷ more)
row_none e t more beyond no_start none = record {
  steps = (row_reads e).steps;
  none = λ n.
      begins_with_exprs (n + (row_reads e).steps) (exprs_tokens e ++ t ∷ more) (exprs_starts e (t ∷ more))
      ∙ ap (option_and_then (λ found. behind_exprs (n + (row_reads e).steps) found.0 found.1)) ((row_reads e).reads n (t ∷ more) beyond no_start)
      ∙ none (n + (row_reads e).steps);
}

no_word : (k : ℕ) (kind : TokenKind) → is_word k ≡ true → is_word_kind kind ≡ false → is_keyword k kind ≡ false
no_word k (Keyword n) word other = by (n == k) refl
  where
    by : (b : Bool) → (n == k) ≡ b → b ≡ false
    by false is = refl
    by true is = absurd (let no : true ≡ false = sym word ∙ ap is_word (sym (eqb-true n k is)) ∙ other in cc)
no_word k (Word bytes) word other = refl
no_word k (Sign n) word other = refl
no_word k (Number value) word other = refl
no_word k (Text bytes) word other = refl

no_statement_word : (n : ℕ) (t : Token) (ts : List Token) → is_word_kind t.kind ≡ false → read_simple n (t ∷ ts) ≡ by_exprs n (t ∷ ts)
no_statement_word n t ts other =
    if_false (is_keyword 12 t.kind) _ _ (no_word 12 t.kind refl other)
    ∙ if_false (is_keyword 28 t.kind) _ _ (no_word 28 t.kind refl other)
    ∙ if_false (is_keyword 8 t.kind) _ _ (no_word 8 t.kind refl other)
    ∙ if_false (is_keyword 10 t.kind) _ _ (no_word 10 t.kind refl other)
    ∙ if_false (is_keyword 30 t.kind) _ _ (no_word 30 t.kind refl other)
    ∙ if_false (is_keyword 29 t.kind) _ _ (no_word 29 t.kind refl other)
    ∙ if_false (is_keyword 5 t.kind) _ _ (no_word 5 t.kind refl other)
    ∙ if_false (is_keyword 21 t.kind) _ _ (no_word 21 t.kind refl other)

-- expressions do not begin with `del`
starts_no_del : (ts : List Token) → IsStart (starts ts) → is_keyword_next 12 ts ≡ false
starts_no_del [] is = refl
starts_no_del (t ∷ ts) is = by t.kind is
  where
    no_start : IsStart 0 → ⊥
    no_start (inl (inl is)) = cc
    no_start (inl (inr is)) = cc
    no_start (inr is) = cc

    number : (n : ℕ) (b : Bool) → (n == 12) ≡ b → IsStart (start_class (Keyword n)) → b ≡ false
    number n false same is = refl
    number n true same is = absurd (no_start (subst (λ m. IsStart (start_class (Keyword m))) (eqb-true n 12 same) is))

    by : (kind : TokenKind) → IsStart (start_class kind) → is_keyword 12 kind ≡ false
    by (Keyword n) is = number n (n == 12) refl is
    by (Word bytes) is = refl
    by (Sign n) is = refl
    by (Number value) is = refl
    by (Text bytes) is = refl

exprs_no_del : (e : Exprs) (rest : List Token) → is_keyword_next 12 (exprs_tokens e ++ rest) ≡ false
exprs_no_del e rest = starts_no_del (exprs_tokens e ++ rest) (exprs_starts e rest)

no_del_word : (before : List Token) → begins_word before ≡ false → is_keyword_next 12 before ≡ false
no_del_word [] other = refl
no_del_word (t ∷ ts) other = no_word 12 t.kind refl other

abbrev row_turn : ℕ → Exprs → List Token → Option Simple
row_turn n e rest = behind_exprs (n + 12) e rest

nothing_read : (n : ℕ) → read_exprs (n + 12) [] ≡ None
nothing_read n = ap (λ m. read_exprs m []) up
  where
    up : n + 12 ≡ suc (suc (suc (suc (suc (suc (suc (suc (suc (suc (suc (suc n)))))))))))
    up = omega arith

row_turns : (more : List Token) → begins_word more ≡ false → Turns exprs_part more more row_turn
row_turns [] other = record { before = 12; behind = 12; turns = λ n. sym (ap (option_and_then (λ found. row_turn n found.0 found.1)) (nothing_read n)) }
row_turns (t ∷ ts) other = record { before = 12; behind = 12; turns = λ n. no_statement_word (n + 12) t ts other }

same_first : (more rest : List Token) → first_of more ≡ first_of rest → begins_word rest ≡ false → begins_word more ≡ false
same_first [] rest first other = refl
same_first (t ∷ ts) [] first other = cc
same_first (t ∷ ts) (u ∷ us) first other = ap (λ (t : Token). is_word_kind t.kind) (same_Some _ _ first) ∙ other

row_deep : (why : Stop) (n : ℕ) (e : Exprs) (left : List Token) → IsDeep why 100 (exprs_lies e) → Only (λ s. IsDeep why 100 (simple_lies s)) (leaving_none (behind_exprs n e left))
row_deep why n e [] deep = deep
row_deep why n e (t ∷ ts) deep = only_if_simple _ (is_sign 9 t.kind) _ _ (assigned (exprs_target e) refl) (operated (aug_sign_of t.kind))
  where
    assigned : (o : Option Target) → exprs_target e ≡ o → Only (λ s. IsDeep why 100 (simple_lies s)) (leaving_none (option_and_then (λ target. option_map (assign target (spot_of t)) (whole (read_exprs n ts))) o))
    assigned None is = tt
    assigned (Some target) is = only_map _ (assign target (spot_of t)) (whole (read_exprs n ts))
        (λ v. deep_beside_left why 100 (target_lies target) (exprs_lies v) (deep_same why 100 (exprs_lies e) (target_lies target) (targets_lie_so e target is) deep))

    single : (op : AugSign) (f : Exprs) → ((at : Pos) → exprs_lies f at ≡ exprs_lies e at) → (o : Option OneTarget) → single_target f ≡ o → Only (λ s. IsDeep why 100 (simple_lies s)) (leaving_none (option_and_then (λ target. option_map (augmented target op (spot_of t)) (whole (read_exprs n ts))) o))
    single op f level None is = tt
    single op (one_expr f) level (Some target) is = only_map _ (augmented target op (spot_of t)) (whole (read_exprs n ts))
        (λ v. deep_beside_left why 100 (one_target_lies target) (exprs_lies v) (deep_same why 100 (exprs_lies e) (one_target_lies target) (λ at. sym (level at) ∙ target_lies_so f target is at) deep))
    single op (several f comma rest) level (Some target) is = absurd (let no : None ≡ Some target = is in cc)

    operated : (o : Option AugSign) → Only (λ s. IsDeep why 100 (simple_lies s)) (leaving_none (option_and_then (λ op. option_and_then (λ target. option_map (augmented target op (spot_of t)) (whole (read_exprs n ts))) (single_target e)) o))
    operated None = tt
    operated (Some op) = single op e (λ at. refl) (single_target e) refl

pub row_refused : (before : List Token) (stop : Stop) → begins_word before ≡ false → Refused exprs_part 100 before stop → RefusedAnywhere before stop
row_refused before stop other is = record {
  there = λ around. refused_part around exprs_part 100 [] before before stop row_turn (no_del_word before other) refl
      (begins_part (has_place around) exprs_part 100 [] expression (λ e. refl) (λ e. refl) (λ e at low. low) (λ e at deep. deep)) (λ more first. row_turns more (same_first more before first other)) (λ why n e left deep. row_deep why (n + 12) e left deep) is;
}

-- what is known of the next token
beyond_next : {before after : List Token} {part : Part} → (f : FoundRow 100 before part after) → (t : Token) (ts : List Token) → after ≡ t ∷ ts → ends_open f.written ≡ false → 8 < kind_level t.kind
beyond_next f t ts is ends = subst (λ (ts : List Token). 8 < next_level ts) is (f.beyond ends)

start_next : {before after : List Token} {part : Part} → (f : FoundRow 100 before part after) → (t : Token) (ts : List Token) → after ≡ t ∷ ts → ends_open f.written ≡ true → start_class t.kind ≡ 0
start_next f t ts is ends = subst (λ (ts : List Token). starts ts ≡ 0) is (f.no_more ends)

pub row_more : (before after : List Token) (part : Part) (stop : Stop) → FoundRow 100 before part after → is_sign_next 9 after ≡ false → aug_sign_next after ≡ None → IsMore after stop → RefusedAnywhere before stop
row_more before after part stop f other none more = record {
  there = λ around. ended around (exprs_tokens f.written) after before stop (expression f.written) refl (row_fits f) (ap (is_keyword_next 12) f.before_is ∙ exprs_no_del f.written after) f.before_is refl more
      (λ t ts rest is. row_none f.written t rest (beyond_next f t ts is) (start_next f t ts is)
      (λ n. if_false (is_sign 9 t.kind) _ _ (subst (λ (ts : List Token). is_sign_next 9 ts ≡ false) is other)
      ∙ ap (option_and_then (λ op. option_and_then (λ target. option_map (augmented target op (spot_of t)) (whole (read_exprs n rest))) (single_target f.written))) (subst (λ (ts : List Token). aug_sign_next ts ≡ None) is none)));
}

pub row_found : (before after : List Token) (part : Part) (form : Form) → FoundRow 100 before part after → after ≡ [] → form_of form ≡ do_form (expr_of part.expr.value) → FoundAnywhere before form
row_found before after part form f is tree around = record {
  written = expression f.written;
  before_is = row_all f is;
  tree_is = tree ∙ ap do_form f.tree_is;
  fits = let high = f.height_is in let low = f.fits in omega (arith, high, low);
  stands = refl;
}

-- ---- a sign and expressions behind them

-- what these expressions, this sign and others are
pub record Builds (e : Exprs) (c : Token) (build : Exprs → Simple) : Type 0 where
  pub level : 8 < kind_level c.kind
  pub no_start : start_class c.kind ≡ 0
  pub reads : (n : ℕ) (more : List Token) → behind_exprs n e (c ∷ more) ≡ option_map build (whole (read_exprs n more))
  pub spells : (v : Exprs) → simple_tokens (build v) ≡ exprs_tokens e ++ (c ∷ exprs_tokens v)
  pub stands : (around : Around) (v : Exprs) → has_place around (build v) ≡ true
  pub deep : (v : Exprs) (at : Pos) → exprs_lies v at ≤ simple_lies (build v) at
  pub within : (v : Exprs) (at : Pos) → exprs_lies v at ≤ 100 → simple_lies (build v) at ≤ 100
  pub fits : (v : Exprs) → exprs_depth v ≤ 100 → simple_depth (build v) ≤ 100

abbrev value_turn : (Exprs → Simple) → ℕ → Exprs → List Token → Option Simple
value_turn build = as_whole (λ v. Some (build v))

value_turns : (e : Exprs) (c : Token) (build : Exprs → Simple) → Builds e c build → (more : List Token) → Turns exprs_part (exprs_tokens e ++ c ∷ more) more (value_turn build)
value_turns e c build b more = record {
  before = (row_reads e).steps;
  behind = (row_reads e).steps;
  turns = λ n.
      begins_with_exprs (n + (row_reads e).steps) (exprs_tokens e ++ c ∷ more) (exprs_starts e (c ∷ more))
      ∙ ap (option_and_then (λ found. behind_exprs (n + (row_reads e).steps) found.0 found.1)) ((row_reads e).reads n (c ∷ more) (λ ends. b.level) (λ ends. b.no_start))
      ∙ b.reads (n + (row_reads e).steps) more
      ∙ map_whole build n (read_exprs (n + (row_reads e).steps) more);
}

pub value_refused : (around : Around) (e : Exprs) (c : Token) (build : Exprs → Simple) (before after : List Token) (stop : Stop) → Builds e c build → before ≡ exprs_tokens e ++ c ∷ after → Refused exprs_part 100 after stop → SimpleRefused around before stop
value_refused around e c build before after stop b is refused = refused_part around exprs_part 100 (exprs_tokens e ++ c ∷ []) after before stop (value_turn build)
    (ap (is_keyword_next 12) is ∙ exprs_no_del e (c ∷ after)) (is ∙ sym (append_assoc (exprs_tokens e) (c ∷ []) after))
    (begins_part (has_place around) exprs_part 100 (exprs_tokens e ++ c ∷ []) build (b.stands around) (λ v. b.spells v ∙ sym (append_assoc (exprs_tokens e) (c ∷ []) (exprs_tokens v))) (λ v at low. b.within v at low) (λ v at deep. let high = b.deep v at in omega (arith, deep, high)))
    (λ more first. turns_same exprs_part _ (exprs_tokens e ++ c ∷ more) more _ (append_assoc (exprs_tokens e) (c ∷ []) more) (value_turns e c build b more))
    (λ why n v left deep. only_whole _ (λ v. Some (build v)) n v left (deeper why 100 (exprs_lies v) 100 (simple_lies (build v)) deep (λ at some. let high = b.deep v at in omega (arith, high))))
    refused

pub value_more : (around : Around) (e : Exprs) (c : Token) (build : Exprs → Simple) (before after last : List Token) (value : Part) (stop : Stop) → Builds e c build → before ≡ exprs_tokens e ++ c ∷ after → FoundRow 100 after value last
    → IsMore last stop → SimpleRefused around before stop
value_more around e c build before after last value stop b is v more = ended around (exprs_tokens e ++ (c ∷ exprs_tokens v.written)) last before stop (build v.written) (b.stands around v.written) (b.fits v.written (row_fits v))
    (ap (is_keyword_next 12) is ∙ exprs_no_del e (c ∷ after)) (is ∙ ap (λ ts. exprs_tokens e ++ c ∷ ts) v.before_is ∙ sym (append_assoc (exprs_tokens e) (c ∷ exprs_tokens v.written) last)) (b.spells v.written) more
    (λ t ts rest last_is. turned_none exprs_part _ (exprs_tokens v.written ++ t ∷ rest) (t ∷ rest) (value_turn build) v.written (row_reads v.written).steps
    (turns_same exprs_part _ _ _ _ (append_assoc (exprs_tokens e) (c ∷ exprs_tokens v.written) (t ∷ rest)) (value_turns e c build b (exprs_tokens v.written ++ t ∷ rest)))
    (row_goes v t ts rest last_is) (λ n. refl))

pub value_found : (around : Around) (e : Exprs) (c : Token) (build : Exprs → Simple) (before after last : List Token) (value : Part) (form : Form) → Builds e c build → before ≡ exprs_tokens e ++ c ∷ after → (v : FoundRow 100 after value last)
    → last ≡ [] → form_of form ≡ simple_form (build v.written) → simple_depth (build v.written) ≤ 100 → SimpleFound around before form
value_found around e c build before after last value form b is v ends tree low = record {
  written = build v.written;
  before_is = is ∙ ap (λ ts. exprs_tokens e ++ c ∷ ts) (row_all v ends) ∙ sym (b.spells v.written);
  tree_is = tree;
  fits = low;
  stands = b.stands around v.written;
}

-- behind these expressions and the sign
pub behind_sign : {before middle after : List Token} {first : Part} {c : Token} → (f : FoundRow 100 before first middle) → middle ≡ c ∷ after → before ≡ exprs_tokens f.written ++ c ∷ after
behind_sign f is = f.before_is ∙ ap (λ ts. exprs_tokens f.written ++ ts) is

-- no target stands before the sign
pub sign_wrong : (around : Around) (e : Exprs) (c : Token) (before after : List Token) (left : ℕ) → exprs_depth e ≤ 100 → left ≡ length after → 8 < kind_level c.kind → start_class c.kind ≡ 0 → ((n : ℕ) (more : List Token) → behind_exprs n e (c ∷ more) ≡ None)
    → before ≡ exprs_tokens e ++ c ∷ after → SimpleRefused around before (Here (Unexpected left))
sign_wrong around e c before after left fits counted level no_start none is =
    at_token around (exprs_tokens e) c after before left (spelled (has_place around) (expression e) (exprs_tokens e) refl fits refl)
    (other_statement before (exprs_tokens e) c after (Unexpected left) (ap (is_keyword_next 12) is ∙ exprs_no_del e (c ∷ after)) is) is counted (λ more. row_none e c more (λ ends. level) (λ ends. no_start) (λ n. none n more))

-- ---- assignments

a_target : (o : Option Target) → is_some o ≡ true → (t : Target) × (o ≡ Some t)
a_target None is = absurd (let no : false ≡ true = is in cc)
a_target (Some t) is = (t, refl)

no_target : (o : Option Target) → is_some o ≡ false → o ≡ None
no_target None is = refl
no_target (Some t) is = cc

first_target : {before middle : List Token} {first : Part} → (f : FoundRow 100 before first middle) → first.is_target ≡ true → (t : Target) × (exprs_target f.written ≡ Some t)
first_target f fine = a_target (exprs_target f.written) (sym f.form_is ∙ fine)

assign_builds : (e : Exprs) (spot : Spot) (t : Target) → exprs_target e ≡ Some t → exprs_depth e ≤ 100 → Builds e (token (Sign 9) spot) (assign t spot)
assign_builds e spot t is low = record {
  level = omega arith;
  no_start = refl;
  reads = λ n more. ap (option_and_then (λ target. option_map (assign target spot) (whole (read_exprs n more)))) is;
  spells = λ v. ap (λ ts. ts ++ (token (Sign 9) spot ∷ exprs_tokens v)) (sym (targets_spelled e t is));
  stands = λ around v. refl;
  deep = λ v at. le-max_right (target_lies t at) (exprs_lies v at);
  within = λ v at inner. let deep = targets_deep e t is in let high = target_low t at in max_below _ _ 100 (omega (arith, deep, high, low)) inner;
  fits = λ v inner. let deep = targets_deep e t is in max_below _ _ 100 (omega (arith, deep, low)) inner;
}

pub assign_wrong : (first : Part) (left : ℕ) (behind : List Token) → first.is_target ≡ false → left ≡ length behind → RefusedAfter first behind (Here (Unexpected left))
assign_wrong first left behind other counted = record {
  there = λ around at before middle f k.
      sign_wrong around f.written (token (Sign 9) k.spot) before behind left (row_fits f) counted (omega arith) refl
      (λ n more. ap (option_and_then (λ target. option_map (assign target k.spot) (whole (read_exprs n more)))) (no_target (exprs_target f.written) (sym f.form_is ∙ other)))
      (behind_sign f k.before_is);
}

pub assign_refused : (first : Part) (behind : List Token) (stop : Stop) → first.is_target ≡ true → Refused exprs_part 100 behind stop → RefusedAfter first behind stop
assign_refused first behind stop fine refused = record {
  there = λ around at before middle f k.
      let t = first_target f fine in
      value_refused around f.written (token (Sign 9) k.spot) (assign t.0 k.spot) before behind stop (assign_builds f.written k.spot t.0 t.1 (row_fits f)) (behind_sign f k.before_is) refused;
}

pub assign_more : (first : Part) (behind last : List Token) (value : Part) (stop : Stop) → first.is_target ≡ true → FoundRow 100 behind value last → IsMore last stop → RefusedAfter first behind stop
assign_more first behind last value stop fine v more = record {
  there = λ around at before middle f k.
      let t = first_target f fine in
      value_more around f.written (token (Sign 9) k.spot) (assign t.0 k.spot) before behind last value stop (assign_builds f.written k.spot t.0 t.1 (row_fits f)) (behind_sign f k.before_is) v more;
}

pub assign_found : (first : Part) (behind last : List Token) (target : BuiltTarget) (value : Part) (form : Form) → first.is_target ≡ true → all_target_form (expr_of first.expr.value) ≡ Some (target_of target)
    → FoundRow 100 behind value last → last ≡ [] → form_of form ≡ assign_form (target_of target) (expr_of value.expr.value) → FoundAfter first behind form
assign_found first behind last target value form fine built v ends tree around at before middle f k =
    let t = first_target f fine in
    let same : target_of target ≡ target_tree t.0 = same_Some _ _ (sym built ∙ ap all_target_form f.tree_is ∙ targets_tree_is f.written t.0 t.1) in
    value_found around f.written (token (Sign 9) k.spot) (assign t.0 k.spot) before behind last value form (assign_builds f.written k.spot t.0 t.1 (row_fits f)) (behind_sign f k.before_is) v ends
    (tree ∙ ap (λ t. assign_form t (expr_of value.expr.value)) same ∙ ap (assign_form (target_tree t.0)) v.tree_is)
    (let high = f.height_is in let low = f.fits in let deep = targets_deep f.written t.0 t.1 in let high_2 = v.height_is in let low_2 = v.fits in max_below _ _ 100 (omega (arith, high, low, deep)) (omega (arith, high_2, low_2)))

pub assign_is_target : (first : Part) → IsRow first → first.is_target ≡ true → is_some (all_target_form (expr_of first.expr.value)) ≡ true
assign_is_target first r fine =
    let t = a_target (exprs_target r.written) (sym r.form_is ∙ fine) in
    ap (λ e. is_some (all_target_form e)) r.tree_is ∙ ap is_some (targets_tree_is r.written t.0 t.1)
