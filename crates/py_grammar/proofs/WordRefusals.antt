-- Simple statements that are a keyword alone, or a keyword with one expression or name: what is read, and how it is refused.
use Rattle.std.proofs.Common.{◌≡◌, inl, ℕ, ◌+◌, ◌≤◌, true, false, List, [], ◌∷◌, ◌++◌, Option, Some, None, option_map, refl, ap, sym, ◌∙◌, arith, subst, length}
use Rattle.prov_base.specs.declared.place.Pos.{Pos}
use Rattle.std.specs.Prelude.{◌==◌, codes}
use Rattle.py_lines.specs.declared.parts.Token.{Token}
use Rattle.py_lines.specs.declared.parts.TokenKind.TheVariants.{Word, Keyword}
use Rattle.py_tree.specs.declared.stmt.Form.{Form}
use Rattle.py_tree.specs.Erasure.{expr_of, form_of}
use Rattle.py_tree.specs.Tree.{pass_form, break_form, continue_form, return_form, raise_form, import_form}
use Rattle.py_expressions.specs.declared.fault.Fault.TheVariants.{Unexpected}
use Rattle.py_expressions.specs.declared.fault.Stop.{Stop}
use Rattle.py_expressions.specs.declared.fault.Stop.TheVariants.{Here, End}
use Rattle.py_expressions.specs.declared.part.Part.{Part}
use Rattle.py_expressions.specs.Concrete.{Spot, Expr, Exprs}
use Rattle.py_expressions.specs.Tokens.{token, word, expr_tokens, exprs_tokens}
use Rattle.py_expressions.specs.Trees.{expr_tree}
use Rattle.py_grammar.specs.StatementDepth.{simple_depth}
use Rattle.py_grammar.specs.Written.{Simple, pass, break, continue, return, return_value, raise, raise_value, import_module}
use Rattle.py_grammar.specs.StatementTokens.{simple_tokens}
use Rattle.py_grammar.specs.WellPlaced.{Around, is_module}
use Rattle.py_expressions.specs.Reader.{read_name, read_expr, read_exprs}
use Rattle.py_grammar.specs.StatementReader.{whole, alone, read_simple}
use Rattle.py_expressions.specs.Parsed.{Only, Found, FoundRow, Refused, TakenName, one_name, expr_part, exprs_part}
use Rattle.py_grammar.specs.ParsedSimple.{leaving_none, BeginsSimple, has_place, IsAmiss, SimpleEnds, FoundBehind, RefusedBehind, FoundBehindAny, RefusedBehindAny, IsMore}
use Rattle.py_expressions.proofs.Reading.{expr_reads}
use Rattle.py_expressions.proofs.RowReads.{row_reads, row_all}
use Rattle.py_expressions.proofs.Refusals.{first_of, alone_elsewhere}
use Rattle.py_expressions.proofs.Stops.{spot_at}
use Rattle.py_expressions.proofs.Choices.{some_expr}
use Rattle.py_grammar.proofs.FixedNames.{fixed_name, fixed_refused}
use Rattle.py_grammar.proofs.SimpleParts.{Turns, turned_none, one_found, expr_fits, row_fits, as_whole, map_whole, only_whole, only_map, only_alone, begins_part, refused_part, ended, misplaced, other_statement, row_goes, expr_all, expr_goes, none_deeper, not_deeper}

-- a token that a keyword alone does not have behind it
none_behind : (around : Around) (word : ℕ) (s : Spot → Simple) (behind : List Token) (stop : Stop) → ((spot : Spot) → has_place around (s spot) ≡ true) → ((spot : Spot) → simple_depth (s spot) ≤ 100) → (word == 12) ≡ false → ((spot : Spot) → simple_tokens (s spot) ≡ token (Keyword word) spot ∷ [])
    → ((spot : Spot) (n : ℕ) (more : List Token) → read_simple n (token (Keyword word) spot ∷ more) ≡ alone (s spot) more) → IsMore behind stop → RefusedBehind word around behind stop
none_behind around word s behind stop so fits other spells reads more = record {
  there = λ spot.
      ended around (token (Keyword word) spot ∷ []) behind (token (Keyword word) spot ∷ behind) stop (s spot) (so spot) (fits spot) other refl (spells spot) more (λ t ts rest is. record { steps = 0; none = λ n. reads spot (n + 0) (t ∷ rest) });
}

-- ---- `pass`, `break`, `continue`

pub pass_found : (behind : List Token) (form : Form) → behind ≡ [] → form_of form ≡ pass_form → FoundBehindAny 28 behind form
pass_found behind form is tree around spot = record { written = pass spot; before_is = ap (λ ts. token (Keyword 28) spot ∷ ts) is; tree_is = tree; fits = omega arith; stands = refl }

pub pass_more : (behind : List Token) (stop : Stop) → IsMore behind stop → RefusedBehindAny 28 behind stop
pass_more behind stop more = record { there = λ around spot. (none_behind around 28 pass behind stop (λ spot. refl) (λ spot. omega arith) refl (λ spot. refl) (λ spot n ts. refl) more).there spot }

pub break_found : (around : Around) (behind : List Token) (form : Form) → around.in_loop ≡ true → behind ≡ [] → form_of form ≡ break_form → FoundBehind 8 around behind form
break_found around behind form inside is tree spot = record { written = break spot; before_is = ap (λ ts. token (Keyword 8) spot ∷ ts) is; tree_is = tree; fits = omega arith; stands = inside }

pub break_more : (around : Around) (behind : List Token) (stop : Stop) → around.in_loop ≡ true → IsMore behind stop → RefusedBehind 8 around behind stop
break_more around behind stop inside more = none_behind around 8 break behind stop (λ spot. inside) (λ spot. omega arith) refl (λ spot. refl) (λ spot n ts. refl) more

pub break_outside : (around : Around) (behind : List Token) (left : ℕ) → around.in_loop ≡ false → left ≡ length behind → RefusedBehind 8 around behind (Here (Unexpected left))
break_outside around behind left outside is = record { there = λ spot. misplaced around (token (Keyword 8) spot) behind left is (λ n more. only_alone _ (break spot) more outside) }

pub continue_found : (around : Around) (behind : List Token) (form : Form) → around.in_loop ≡ true → behind ≡ [] → form_of form ≡ continue_form → FoundBehind 10 around behind form
continue_found around behind form inside is tree spot = record { written = continue spot; before_is = ap (λ ts. token (Keyword 10) spot ∷ ts) is; tree_is = tree; fits = omega arith; stands = inside }

pub continue_more : (around : Around) (behind : List Token) (stop : Stop) → around.in_loop ≡ true → IsMore behind stop → RefusedBehind 10 around behind stop
continue_more around behind stop inside more = none_behind around 10 continue behind stop (λ spot. inside) (λ spot. omega arith) refl (λ spot. refl) (λ spot n ts. refl) more

pub continue_outside : (around : Around) (behind : List Token) (left : ℕ) → around.in_loop ≡ false → left ≡ length behind → RefusedBehind 10 around behind (Here (Unexpected left))
continue_outside around behind left outside is = record { there = λ spot. misplaced around (token (Keyword 10) spot) behind left is (λ n more. only_alone _ (continue spot) more outside) }

-- ---- `return`

behind_none : (tokens : List Token) (t : Token) (rest : List Token) → tokens ++ t ∷ rest ≡ [] → ⊥
behind_none [] t rest is = cc
behind_none (first ∷ tokens) t rest is = cc

not_empty : (more rest : List Token) → first_of more ≡ first_of rest → (rest ≡ [] → ⊥) → more ≡ [] → ⊥
not_empty [] [] first other is = other refl
not_empty [] (u ∷ us) first other is = cc
not_empty (t ∷ ts) rest first other is = cc

abbrev return_turn : Spot → ℕ → Exprs → List Token → Option Simple
return_turn spot = as_whole (λ e. Some (return_value spot e))

return_turns : (spot : Spot) (more : List Token) → (more ≡ [] → ⊥) → Turns exprs_part (token (Keyword 30) spot ∷ more) more (return_turn spot)
return_turns spot [] other = absurd (other refl)
return_turns spot (t ∷ ts) other = record { before = 0; behind = 0; turns = λ n. map_whole (return_value spot) n (read_exprs (n + 0) (t ∷ ts)) }

pub return_found : (around : Around) (behind : List Token) (form : Form) → around.in_function ≡ true → behind ≡ [] → form_of form ≡ return_form None → FoundBehind 30 around behind form
return_found around behind form inside is tree spot = record { written = return spot; before_is = ap (λ ts. token (Keyword 30) spot ∷ ts) is; tree_is = tree; fits = omega arith; stands = inside }

pub return_value_found : (around : Around) (behind after : List Token) (part : Part) (form : Form) → around.in_function ≡ true → FoundRow 100 behind part after → after ≡ [] → form_of form ≡ return_form (Some (expr_of part.expr.value)) → FoundBehind 30 around behind form
return_value_found around behind after part form inside f is tree spot = record {
  written = return_value spot f.written;
  before_is = ap (λ ts. token (Keyword 30) spot ∷ ts) (row_all f is);
  tree_is = tree ∙ ap (λ e. return_form (Some e)) f.tree_is;
  fits = let high = f.height_is in let low = f.fits in omega (arith, high, low);
  stands = inside;
}

pub return_outside : (around : Around) (behind : List Token) (left : ℕ) → around.in_function ≡ false → left ≡ length behind → RefusedBehind 30 around behind (Here (Unexpected left))
return_outside around behind left outside is = record { there = λ spot. misplaced around (token (Keyword 30) spot) behind left is (amiss spot) }
  where
    amiss : (spot : Spot) (n : ℕ) (more : List Token) → Only (IsAmiss around (Here (Unexpected left))) (leaving_none (read_simple n (token (Keyword 30) spot ∷ more)))
    amiss spot n [] = outside
    amiss spot n (t ∷ ts) = only_map _ (return_value spot) (whole (read_exprs n (t ∷ ts))) (λ e. outside)

pub return_refused : (around : Around) (behind : List Token) (stop : Stop) → around.in_function ≡ true → (behind ≡ [] → ⊥) → Refused exprs_part 100 behind stop → RefusedBehind 30 around behind stop
return_refused around behind stop inside some is = record {
  there = λ spot.
      refused_part around exprs_part 100 (token (Keyword 30) spot ∷ []) behind (token (Keyword 30) spot ∷ behind) stop (return_turn spot) refl refl
      (begins_part (has_place around) exprs_part 100 (token (Keyword 30) spot ∷ []) (return_value spot) (λ e. inside) (λ e. refl) (λ e at low. low) (λ e at deep. deep)) (λ more first. return_turns spot more (not_empty more behind first some))
      (λ why n e left deep. only_whole _ (λ e. Some (return_value spot e)) n e left deep) is;
}

pub return_more : (around : Around) (behind after : List Token) (part : Part) (stop : Stop) → around.in_function ≡ true → FoundRow 100 behind part after → IsMore after stop → RefusedBehind 30 around behind stop
return_more around behind after part stop inside f more = record {
  there = λ spot.
      ended around (token (Keyword 30) spot ∷ exprs_tokens f.written) after (token (Keyword 30) spot ∷ behind) stop (return_value spot f.written) inside (row_fits f) refl (ap (λ ts. token (Keyword 30) spot ∷ ts) f.before_is) refl more
      (λ t ts rest is. turned_none exprs_part _ (exprs_tokens f.written ++ t ∷ rest) (t ∷ rest) (return_turn spot) f.written (row_reads f.written).steps (return_turns spot _ (behind_none (exprs_tokens f.written) t rest)) (row_goes f t ts rest is) (λ n. refl));
}

-- ---- `raise`

abbrev raise_turn : Spot → ℕ → Expr → List Token → Option Simple
raise_turn spot = as_whole (λ e. Some (raise_value spot e))

raise_turns : (spot : Spot) (more : List Token) → (more ≡ [] → ⊥) → Turns expr_part (token (Keyword 29) spot ∷ more) more (raise_turn spot)
raise_turns spot [] other = absurd (other refl)
raise_turns spot (t ∷ ts) other = record { before = 0; behind = 0; turns = λ n. map_whole (raise_value spot) n (read_expr (n + 0) (t ∷ ts)) }

pub raise_found : (around : Around) (behind : List Token) (form : Form) → around.in_handler ≡ true → behind ≡ [] → form_of form ≡ raise_form None → FoundBehind 29 around behind form
raise_found around behind form inside is tree spot = record { written = raise spot; before_is = ap (λ ts. token (Keyword 29) spot ∷ ts) is; tree_is = tree; fits = omega arith; stands = inside }

pub raise_value_found : (around : Around) (behind after : List Token) (part : Part) (form : Form) → Found expr_part expr_tree 7 100 behind part after → after ≡ [] → form_of form ≡ raise_form (Some (expr_of part.expr.value)) → FoundBehind 29 around behind form
raise_value_found around behind after part form f is tree spot = record {
  written = raise_value spot f.written;
  before_is = ap (λ ts. token (Keyword 29) spot ∷ ts) (expr_all f is);
  tree_is = tree ∙ ap (λ e. raise_form (Some e)) f.tree_is;
  fits = let high = f.height_is in let low = f.fits in omega (arith, high, low);
  stands = refl;
}

-- a value may stand behind it
begins_raise : (around : Around) (spot : Spot) → BeginsSimple (has_place around) (token (Keyword 29) spot ∷ [])
begins_raise around spot = inl (λ at. record {
  some = raise_value spot (some_expr at);
  is_so = refl;
  more = expr_tokens (some_expr at);
  tokens_are = refl;
  within = λ other apart. let alone = alone_elsewhere at other apart in omega (arith, alone);
})

pub raise_outside : (around : Around) (behind : List Token) → around.in_handler ≡ false → behind ≡ [] → RefusedBehind 29 around behind End
raise_outside around behind outside is = record {
  there = λ spot.
      subst (λ (ts : List Token). SimpleEnds around (token (Keyword 29) spot ∷ ts) End) (sym is)
      (record { begins = begins_raise around spot; none = one_found _ (token (Keyword 29) spot ∷ []) (raise spot) 0 (λ n. refl) outside });
}

pub raise_refused : (around : Around) (behind : List Token) (stop : Stop) → (behind ≡ [] → ⊥) → Refused expr_part 100 behind stop → RefusedBehind 29 around behind stop
raise_refused around behind stop some is = record {
  there = λ spot.
      refused_part around expr_part 100 (token (Keyword 29) spot ∷ []) behind (token (Keyword 29) spot ∷ behind) stop (raise_turn spot) refl refl
      (begins_part (has_place around) expr_part 100 (token (Keyword 29) spot ∷ []) (raise_value spot) (λ e. refl) (λ e. refl) (λ e at low. low) (λ e at deep. deep)) (λ more first. raise_turns spot more (not_empty more behind first some))
      (λ why n e left deep. only_whole _ (λ e. Some (raise_value spot e)) n e left deep) is;
}

pub raise_more : (around : Around) (behind after : List Token) (part : Part) (stop : Stop) → Found expr_part expr_tree 7 100 behind part after → IsMore after stop → RefusedBehind 29 around behind stop
raise_more around behind after part stop f more = record {
  there = λ spot.
      ended around (token (Keyword 29) spot ∷ expr_tokens f.written) after (token (Keyword 29) spot ∷ behind) stop (raise_value spot f.written) refl (expr_fits f) refl (ap (λ ts. token (Keyword 29) spot ∷ ts) f.before_is) refl more
      (λ t ts rest is. turned_none expr_part _ (expr_tokens f.written ++ t ∷ rest) (t ∷ rest) (raise_turn spot) f.written (expr_reads f.written).steps (raise_turns spot _ (behind_none (expr_tokens f.written) t rest)) (expr_goes f t ts rest is) (λ n. refl));
}

-- ---- `import`

-- one of the modules may stand behind it
begins_import : (around : Around) (spot : Spot) → BeginsSimple (has_place around) (token (Keyword 21) spot ∷ [])
begins_import around spot = inl (λ at. record { some = import_module spot (spot_at at) (codes "sys"); is_so = refl; more = word (codes "sys") (spot_at at); tokens_are = refl; within = λ other apart. omega arith })

abbrev import_turn : Spot → ℕ → Spot × List ℕ → List Token → Option Simple
import_turn spot = as_whole (λ found. Some (import_module spot found.0 found.1))

import_turns : (spot : Spot) (more : List Token) → Turns (fixed_name (codes "sys")) (token (Keyword 21) spot ∷ more) more (import_turn spot)
import_turns spot more = record { before = 0; behind = 0; turns = λ n. map_whole (λ found. import_module spot found.0 found.1) n (read_name more) }

pub import_found : (name_at : Pos) (name : List ℕ) (behind after : List Token) (form : Form) → TakenName behind name_at name after → is_module name ≡ true → after ≡ [] → form_of form ≡ import_form name → FoundBehindAny 21 behind form
import_found name_at name behind after form f known is tree around spot = record {
  written = import_module spot f.spot name;
  before_is = ap (λ ts. token (Keyword 21) spot ∷ ts) (f.before_is ∙ ap (λ ts. word name f.spot ++ ts) is);
  tree_is = tree;
  fits = omega arith;
  stands = known;
}

pub import_other : (name_at : Pos) (name : List ℕ) (behind after : List Token) (left : ℕ) → TakenName behind name_at name after → is_module name ≡ false → left ≡ length after → RefusedBehindAny 21 behind (Here (Unexpected left))
import_other name_at name behind after left f unknown is = record {
  there = λ around spot. record {
    front = token (Keyword 21) spot ∷ [];
    shown_by = token (Word name) f.spot;
    behind = after;
    before_is = ap (λ ts. token (Keyword 21) spot ∷ ts) f.before_is;
    left_is = is;
    begins = begins_import around spot;
    goes_on = tt;
    unread = other_statement (token (Keyword 21) spot ∷ behind) (token (Keyword 21) spot ∷ []) (token (Word name) f.spot) after (Unexpected left) refl (ap (λ ts. token (Keyword 21) spot ∷ ts) f.before_is);
    none = λ more. record { steps = 0; only = λ n. amiss around spot more };
  };
}
  where
    amiss : (around : Around) (spot : Spot) (more : List Token) → Only (IsAmiss around (Here (Unexpected left))) (leaving_none (option_map (λ (found : Spot × List ℕ). import_module spot found.0 found.1) (whole (Some ((f.spot, name), more)))))
    amiss around spot [] = unknown
    amiss around spot (t ∷ ts) = tt

pub import_refused : (behind : List Token) (stop : Stop) → Refused one_name 0 behind stop → RefusedBehindAny 21 behind stop
import_refused behind stop is = record {
  there = λ around spot.
      refused_part around (fixed_name (codes "sys")) 0 (token (Keyword 21) spot ∷ []) behind (token (Keyword 21) spot ∷ behind) stop (import_turn spot) refl refl
      (begins_part (has_place around) (fixed_name (codes "sys")) 0 (token (Keyword 21) spot ∷ []) (λ found. import_module spot found.0 (codes "sys")) (λ found. refl) (λ found. refl) (λ found at low. omega arith) (λ found at deep. absurd (none_deeper 0 deep))) (λ more first. import_turns spot more)
      (λ why n found left deep. absurd (not_deeper why 0 deep)) (fixed_refused (codes "sys") behind stop is);
}

pub import_more : (name_at : Pos) (name : List ℕ) (behind after : List Token) (stop : Stop) → TakenName behind name_at name after → is_module name ≡ true → IsMore after stop → RefusedBehindAny 21 behind stop
import_more name_at name behind after stop f known more = record {
  there = λ around spot.
      ended around (token (Keyword 21) spot ∷ word name f.spot) after (token (Keyword 21) spot ∷ behind) stop (import_module spot f.spot name) known (omega arith) refl (ap (λ ts. token (Keyword 21) spot ∷ ts) f.before_is) refl more
      (λ t ts rest is. record { steps = 0; none = λ n. refl });
}
