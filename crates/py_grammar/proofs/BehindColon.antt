-- What stands behind the `:` of a line, and which lines have `pass` there.
use Rattle.std.proofs.Common.{◌≡◌, inl, inr, ℕ, ◌+◌, ◌≤◌, Bool, true, false, not, List, [], ◌∷◌, ◌++◌, codes, Option, Some, None, option_map, is_none, refl, ap, sym, ◌∙◌, arith, subst, append_assoc, append-nil}
use Rattle.std.specs.Prelude.{◌⊎◌, ◌&&◌, ◌||◌}
use Rattle.std.proofs.lemmas.List.{append_cancel_left}
use Rattle.std.proofs.lemmas.Option.{same_Some}
use Rattle.py_lines.specs.declared.parts.Token.{Token}
use Rattle.py_lines.specs.declared.parts.TokenKind.{TokenKind}
use Rattle.py_lines.specs.declared.parts.TokenKind.TheVariants.{Word, Keyword, Sign}
use Rattle.py_grammar.specs.declared.context.Limit.{Limit}
use Rattle.py_expressions.specs.declared.fault.Stop.TheVariants.{End}
use Rattle.py_grammar.specs.declared.head.What.{What}
use Rattle.py_expressions.specs.Concrete.{Spot, CmpSign, equal, unequal, less, less_equal, greater, greater_equal, within, not_within, same, not_same, Expr, plain_expr, choice, Or, plain_or, or_more, And, plain_and, and_more, Not, plain_not, not_of, Cmp, plain_cmp, compared, Sum, plain_sum, sum_more, Term, plain_term, term_more, Unary, plain_unary, signed, Prim, plain_prim, call, part, attribute, Atom, name, number, text, none, true_word, false_word, empty_tuple, group, list, dict, Exprs, one_expr, several, Rest, end_rest, last_rest, more_rest}
use Rattle.py_expressions.specs.Tokens.{token, keyword, cmp_tokens, expr_tokens, or_tokens, and_tokens, not_tokens, cmp_tokens_of, sum_tokens, term_tokens, unary_tokens, prim_tokens, atom_tokens, exprs_tokens, rest_tokens, items_tokens, index_tokens, pairs_tokens}
use Rattle.py_expressions.specs.Targets.{OneTarget, named, item, field, TargetRest, end_rest_target, last_target, more_target, Target, one_target, several_targets}
use Rattle.py_grammar.specs.Written.{Simple, expression, assign, augmented, del, pass, break, continue, return, return_value, raise, raise_value, assert, assert_message, import_module, Names, last_name, more_names, Naming, Kind, Params, Base}
use Rattle.py_grammar.specs.StatementTokens.{one_target_tokens, target_rest_tokens, target_tokens, simple_tokens, names_tokens, params_tokens, naming_tokens, kind_tokens, base_tokens}
use Rattle.py_grammar.specs.LineReader.{Head, simple_head, if_head, elif_head, else_head, while_head, for_head, try_head, except_head, with_head, def_head, class_head, global_head, behind_tokens, head_tokens, then_read, read_colon, read_behind, read_naming, read_kind, read_target, read_base, read_params, read_head}
use Rattle.py_expressions.specs.Reader.{is_keyword, read_expr, read_exprs, read_sign, read_keyword}
use Rattle.py_grammar.specs.StatementReader.{read_simple}
use Rattle.py_grammar.specs.WellPlaced.{Around, simple_stands}
use Rattle.py_expressions.specs.ParsedRows.{first_token}
use Rattle.py_grammar.specs.ParsedHead.{Context, word_may, inner_around, behind_in, head_stands, head_depth, begins_compound, is_compound, passed_tokens, Opening, IsFreeBehind}
use Rattle.py_grammar.proofs.OneReading.{one_simple}
use Rattle.py_expressions.proofs.Reading.{expr_reads, exprs_read}
use Rattle.py_expressions.proofs.RowParts.{more_steps}
use Rattle.py_grammar.proofs.HeadReading.{head_reads, kind_reads, target_reads, params_reads, naming_reads, naming_level, base_reads}
use Rattle.py_grammar.proofs.LineFirsts.{both_true, not_nothing, same_first, same_behind, simple_some, simple_not_compound, head_simple}
use Rattle.py_grammar.proofs.TargetSums.{Unread, unread_one, ends_one, ends_none}

-- ---- `pass` ends nothing but itself

-- the last of these tokens is `pass`; where there is none, what is given is answered
abbrev last_pass : Bool → List Token → Bool
last_pass before [] = before
last_pass before (t ∷ ts) = last_pass (is_keyword 28 t.kind) ts

-- the last of two lists is that of the second
later : (y : Bool) (a b : List Token) → ((x : Bool) → last_pass x b ≡ false) → last_pass y (a ++ b) ≡ false
later y [] b ends = ends y
later y (t ∷ a) b ends = later (is_keyword 28 t.kind) a b ends

ends_cmp : (op : CmpSign) (b : List Token) (y : Bool) → last_pass false b ≡ false → last_pass y (cmp_tokens op ++ b) ≡ false
ends_cmp (equal at) b y ends = ends
ends_cmp (unequal at) b y ends = ends
ends_cmp (less at) b y ends = ends
ends_cmp (less_equal at) b y ends = ends
ends_cmp (greater at) b y ends = ends
ends_cmp (greater_equal at) b y ends = ends
ends_cmp (within at) b y ends = ends
ends_cmp (not_within not_at in_at) b y ends = ends
ends_cmp (same at) b y ends = ends
ends_cmp (not_same is_at not_at) b y ends = ends

ends_atom : (e : Atom) (y : Bool) → last_pass y (atom_tokens e) ≡ false
ends_atom (name at bytes) y = refl
ends_atom (number at n) y = refl
ends_atom (text at bytes) y = refl
ends_atom (none at) y = refl
ends_atom (true_word at) y = refl
ends_atom (false_word at) y = refl
ends_atom (empty_tuple opening closing) y = refl
ends_atom (group opening e closing) y = later false (exprs_tokens e) _ (λ x. refl)
ends_atom (list opening e closing) y = later false (items_tokens e) _ (λ x. refl)
ends_atom (dict opening pairs closing) y = later false (pairs_tokens pairs) _ (λ x. refl)

ends_prim : (e : Prim) (y : Bool) → last_pass y (prim_tokens e) ≡ false
ends_prim (plain_prim e) y = ends_atom e y
ends_prim (call callee opening arguments closing) y = later y (prim_tokens callee) _ (λ x. later false (items_tokens arguments) _ (λ z. refl))
ends_prim (part e opening index closing) y = later y (prim_tokens e) _ (λ x. later false (index_tokens index) _ (λ z. refl))
ends_prim (attribute e dot name_at bytes) y = later y (prim_tokens e) _ (λ x. refl)

ends_unary : (e : Unary) (y : Bool) → last_pass y (unary_tokens e) ≡ false
ends_unary (plain_unary e) y = ends_prim e y
ends_unary (signed at op e) y = ends_unary e false

ends_term : (e : Term) (y : Bool) → last_pass y (term_tokens e) ≡ false
ends_term (plain_term e) y = ends_unary e y
ends_term (term_more left at op right) y = later y (term_tokens left) _ (λ x. ends_unary right false)

ends_sum : (e : Sum) (y : Bool) → last_pass y (sum_tokens e) ≡ false
ends_sum (plain_sum e) y = ends_term e y
ends_sum (sum_more left at op right) y = later y (sum_tokens left) _ (λ x. ends_term right false)

ends_comparison : (e : Cmp) (y : Bool) → last_pass y (cmp_tokens_of e) ≡ false
ends_comparison (plain_cmp e) y = ends_sum e y
ends_comparison (compared left op right) y = later y (sum_tokens left) _ (λ x. ends_cmp op (sum_tokens right) x (ends_sum right false))

ends_not : (e : Not) (y : Bool) → last_pass y (not_tokens e) ≡ false
ends_not (plain_not e) y = ends_comparison e y
ends_not (not_of at e) y = ends_not e false

ends_and : (e : And) (y : Bool) → last_pass y (and_tokens e) ≡ false
ends_and (plain_and e) y = ends_not e y
ends_and (and_more left at right) y = later y (and_tokens left) _ (λ x. ends_not right false)

ends_or : (e : Or) (y : Bool) → last_pass y (or_tokens e) ≡ false
ends_or (plain_or e) y = ends_and e y
ends_or (or_more left at right) y = later y (or_tokens left) _ (λ x. ends_and right false)

ends_expr : (e : Expr) (y : Bool) → last_pass y (expr_tokens e) ≡ false
ends_expr (plain_expr e) y = ends_or e y
ends_expr (choice chosen if_word test else_word other) y = later y (or_tokens chosen) _ (λ x. later false (or_tokens test) _ (λ z. ends_expr other false))

ends_rest : (e : Rest) → last_pass false (rest_tokens e) ≡ false
ends_rest end_rest = refl
ends_rest (last_rest e) = ends_expr e false
ends_rest (more_rest e comma rest) = later false (expr_tokens e) _ (λ x. ends_rest rest)

ends_exprs : (e : Exprs) (y : Bool) → last_pass y (exprs_tokens e) ≡ false
ends_exprs (one_expr e) y = ends_expr e y
ends_exprs (several e comma rest) y = later y (expr_tokens e) _ (λ x. ends_rest rest)

ends_target : (t : OneTarget) (y : Bool) → last_pass y (one_target_tokens t) ≡ false
ends_target (named at bytes) y = refl
ends_target (item e opening index closing) y = later y (prim_tokens e) _ (λ x. later false (exprs_tokens index) _ (λ z. refl))
ends_target (field e dot name_at bytes) y = later y (prim_tokens e) _ (λ x. refl)

ends_names : (names : Names) (y : Bool) → last_pass y (names_tokens names) ≡ false
ends_names (last_name at bytes) y = refl
ends_names (more_names at bytes comma names) y = ends_names names false

last_is_pass : (y : Bool) (front : List Token) (at : Spot) → last_pass y (front ++ keyword (codes "pass") at) ≡ true
last_is_pass y [] at = refl
last_is_pass y (t ∷ front) at = last_is_pass (is_keyword 28 t.kind) front at

-- `pass` is not the last of these
ends_otherwise : (tokens front : List Token) (at : Spot) → last_pass false tokens ≡ false → tokens ≡ front ++ keyword (codes "pass") at → ⊥
ends_otherwise tokens front at ends is = let no : true ≡ false = sym (last_is_pass false front at) ∙ ap (last_pass false) (sym is) ∙ ends in cc

pub shown_some : (front : List Token) (t : Token) (more : List Token) → front ++ t ∷ more ≡ [] → ⊥
shown_some [] t more is = not_nothing t more is
shown_some (first ∷ front) t more is = not_nothing first _ is

-- `pass` is all of a statement that ends with it
pub pass_alone : (s : Simple) (front : List Token) (at : Spot) → simple_tokens s ≡ front ++ keyword (codes "pass") at → front ≡ []
pass_alone (pass spot) [] at is = refl
pass_alone (pass spot) (t ∷ front) at is = absurd (shown_some front (token (Keyword 28) at) [] (sym (same_behind (token (Keyword 28) spot) t [] _ is)))
pass_alone (expression e) front at is = absurd (ends_otherwise (exprs_tokens e) front at (ends_exprs e false) is)
pass_alone (assign t equals e) front at is = absurd (ends_otherwise _ front at (later false (target_tokens t) _ (λ x. ends_exprs e false)) is)
pass_alone (augmented t op sign_at e) front at is = absurd (ends_otherwise _ front at (later false (one_target_tokens t) _ (λ x. ends_exprs e false)) is)
pass_alone (del spot t) front at is = absurd (ends_otherwise _ front at (ends_target t false) is)
pass_alone (break spot) front at is = absurd (ends_otherwise _ front at refl is)
pass_alone (continue spot) front at is = absurd (ends_otherwise _ front at refl is)
pass_alone (return spot) front at is = absurd (ends_otherwise _ front at refl is)
pass_alone (return_value spot e) front at is = absurd (ends_otherwise _ front at (ends_exprs e false) is)
pass_alone (raise spot) front at is = absurd (ends_otherwise _ front at refl is)
pass_alone (raise_value spot e) front at is = absurd (ends_otherwise _ front at (ends_expr e false) is)
pass_alone (assert spot e) front at is = absurd (ends_otherwise _ front at (ends_expr e false) is)
pass_alone (assert_message spot e comma message) front at is = absurd (ends_otherwise _ front at (later false (expr_tokens e) _ (λ x. ends_expr message false)) is)
pass_alone (import_module spot module_at bytes) front at is = absurd (ends_otherwise _ front at refl is)

-- ---- tokens put together

-- the third list goes on behind the first
record Longer (a b c d : List Token) : Type 0 where
  between : List Token
  longer_is : c ≡ a ++ between
  rest_is : b ≡ between ++ d

-- the first list goes on behind the third
record Shorter (a b c d : List Token) : Type 0 where
  next : Token
  between : List Token
  longer_is : a ≡ c ++ next ∷ between
  rest_is : d ≡ next ∷ (between ++ b)

same_tokens : (x y : Token) (a b : List Token) → x ≡ y → a ≡ b → x ∷ a ≡ y ∷ b
same_tokens x y a b one other = cc

-- two ways to cut the same tokens
cut : (a b c d : List Token) → a ++ b ≡ c ++ d → Longer a b c d ⊎ Shorter a b c d
cut [] b c d is = inl (record { between = c; longer_is = refl; rest_is = is })
cut (x ∷ a) b [] d is = inr (record { next = x; between = a; longer_is = refl; rest_is = sym is })
cut (x ∷ a) b (y ∷ c) d is = by (cut a b c d (same_behind x y (a ++ b) (c ++ d) is))
  where
    by : Longer a b c d ⊎ Shorter a b c d → Longer (x ∷ a) b (y ∷ c) d ⊎ Shorter (x ∷ a) b (y ∷ c) d
    by (inl k) = inl (record { between = k.between; longer_is = same_tokens y x c (a ++ k.between) (sym (same_first x y (a ++ b) (c ++ d) is)) k.longer_is; rest_is = k.rest_is })
    by (inr k) = inr (record { next = k.next; between = k.between; longer_is = same_tokens x y a (c ++ k.next ∷ k.between) (same_first x y (a ++ b) (c ++ d) is) k.longer_is; rest_is = k.rest_is })

-- what stands before the last token, or a front of that
record Kept (front opened : List Token) : Type 0 where
  left : List Token
  front_is : front ≡ opened ++ left

kept : (front : List Token) (t : Token) (opened : List Token) (u : Token) (rest : List Token) → front ++ t ∷ [] ≡ opened ++ u ∷ rest → Kept front opened
kept front t [] u rest is = record { left = front; front_is = refl }
kept [] t (o ∷ opened) u rest is = absurd (shown_some opened u rest (sym (same_behind t o [] (opened ++ u ∷ rest) is)))
kept (x ∷ front) t (o ∷ opened) u rest is =
    let k = kept front t opened u rest (same_behind x o (front ++ t ∷ []) (opened ++ u ∷ rest) is) in
    record { left = k.left; front_is = same_tokens x o front (opened ++ k.left) (same_first x o (front ++ t ∷ []) (opened ++ u ∷ rest) is) k.front_is }

-- ---- what begins a line up to its `:`

-- what is read up to the `:` of a line, whatever stands behind it
pub record Opened (g : Head) : Type 0 where
  pub front : List Token
  pub colon : Spot
  pub made : Option Simple → Head
  pub tokens_are : head_tokens g ≡ front ++ token (Sign 7) colon ∷ behind_tokens (behind_in g)
  pub made_are : (behind : Option Simple) → head_tokens (made behind) ≡ front ++ token (Sign 7) colon ∷ behind_tokens behind
  pub behind_is : (behind : Option Simple) → behind_in (made behind) ≡ behind
  pub steps : ℕ
  pub left : ℕ
  pub reads : (n : ℕ) (more : List Token) → read_head (n + steps) (front ++ token (Sign 7) colon ∷ more) ≡ option_map made (read_behind (n + left) more)

opened_expr : (head : Expr → Spot → Option Simple → Head) (e : Expr) (colon : Spot) (n : ℕ) (more : List Token)
    → then_read (read_expr (n + (expr_reads e).steps) (expr_tokens e ++ token (Sign 7) colon ∷ more)) (λ test rest. read_colon (n + (expr_reads e).steps) (head test) rest) ≡ option_map (head e colon) (read_behind (n + (expr_reads e).steps) more)
opened_expr head e colon n more = ap (λ r. then_read r (λ test rest. read_colon (n + (expr_reads e).steps) (head test) rest)) ((expr_reads e).reads n (token (Sign 7) colon ∷ more) (omega arith))

opened_kind : (at : Spot) (kind : Kind) (colon : Spot) (n : ℕ) (more : List Token)
    → then_read (read_kind (n + (kind_reads kind).steps) (kind_tokens kind ++ token (Sign 7) colon ∷ more)) (λ found rest. read_colon (n + (kind_reads kind).steps) (except_head at found) rest) ≡ option_map (except_head at kind colon) (read_behind (n + (kind_reads kind).steps) more)
opened_kind at kind colon n more = ap (λ r. then_read r (λ found rest. read_colon (n + (kind_reads kind).steps) (except_head at found) rest)) ((kind_reads kind).reads n colon more)

opened_with : (at : Spot) (e : Expr) (called : Naming) (colon : Spot) (n : ℕ) (more : List Token)
    → then_read (read_expr (n + (expr_reads e).steps) ((expr_tokens e ++ naming_tokens called) ++ token (Sign 7) colon ∷ more)) (λ one more_2. then_read (read_naming more_2) (λ bound rest. read_colon (n + (expr_reads e).steps) (with_head at one bound) rest))
    ≡ option_map (with_head at e called colon) (read_behind (n + (expr_reads e).steps) more)
opened_with at e called colon n more = by (n + (expr_reads e).steps) ((expr_reads e).reads n (naming_tokens called ++ token (Sign 7) colon ∷ more) (let level = naming_level called colon more in omega (arith, level)))
  where
    by : (m : ℕ) → read_expr m (expr_tokens e ++ (naming_tokens called ++ token (Sign 7) colon ∷ more)) ≡ Some (e, naming_tokens called ++ token (Sign 7) colon ∷ more)
        → then_read (read_expr m ((expr_tokens e ++ naming_tokens called) ++ token (Sign 7) colon ∷ more)) (λ one more_2. then_read (read_naming more_2) (λ bound rest. read_colon m (with_head at one bound) rest)) ≡ option_map (with_head at e called colon) (read_behind m more)
    by m read =
        ap (λ ts. then_read (read_expr m ts) (λ one more_2. then_read (read_naming more_2) (λ bound rest. read_colon m (with_head at one bound) rest))) (append_assoc (expr_tokens e) (naming_tokens called) (token (Sign 7) colon ∷ more))
        ∙ ap (λ r. then_read r (λ one more_2. then_read (read_naming more_2) (λ bound rest. read_colon m (with_head at one bound) rest))) read
        ∙ ap (λ r. then_read r (λ bound rest. read_colon m (with_head at e bound) rest)) (naming_reads called colon more)

opened_def : (at name_at : Spot) (bytes : List ℕ) (opening : Spot) (given : Params) (closing colon : Spot) (n : ℕ) (more : List Token)
    → then_read (read_params (n + (params_reads given).steps) ((params_tokens given ++ token (Sign 1) closing ∷ []) ++ token (Sign 7) colon ∷ more)) (λ names more_2. then_read (read_sign 1 more_2) (λ ends rest. read_colon (n + (params_reads given).steps) (def_head at name_at bytes opening names ends) rest))
    ≡ option_map (def_head at name_at bytes opening given closing colon) (read_behind (n + (params_reads given).steps) more)
opened_def at name_at bytes opening given closing colon n more = by (n + (params_reads given).steps) ((params_reads given).reads n closing (token (Sign 7) colon ∷ more))
  where
    by : (m : ℕ) → read_params m (params_tokens given ++ token (Sign 1) closing ∷ token (Sign 7) colon ∷ more) ≡ Some (given, token (Sign 1) closing ∷ token (Sign 7) colon ∷ more)
        → then_read (read_params m ((params_tokens given ++ token (Sign 1) closing ∷ []) ++ token (Sign 7) colon ∷ more)) (λ names more_2. then_read (read_sign 1 more_2) (λ ends rest. read_colon m (def_head at name_at bytes opening names ends) rest)) ≡ option_map (def_head at name_at bytes opening given closing colon) (read_behind m more)
    by m read =
        ap (λ ts. then_read (read_params m ts) (λ names more_2. then_read (read_sign 1 more_2) (λ ends rest. read_colon m (def_head at name_at bytes opening names ends) rest))) (append_assoc (params_tokens given) (token (Sign 1) closing ∷ []) (token (Sign 7) colon ∷ more))
        ∙ ap (λ r. then_read r (λ names more_2. then_read (read_sign 1 more_2) (λ ends rest. read_colon m (def_head at name_at bytes opening names ends) rest))) read

opened_class : (at name_at : Spot) (bytes : List ℕ) (of : Base) (colon : Spot) (n : ℕ) (more : List Token)
    → then_read (read_base (base_tokens of ++ token (Sign 7) colon ∷ more)) (λ found rest. read_colon (n + 0) (class_head at name_at bytes found) rest) ≡ option_map (class_head at name_at bytes of colon) (read_behind (n + 0) more)
opened_class at name_at bytes of colon n more = ap (λ r. then_read r (λ found rest. read_colon (n + 0) (class_head at name_at bytes found) rest)) (base_reads of colon more)

opened_for : (at : Spot) (t : Target) (in_word : Spot) (e : Exprs) (colon : Spot) (n : ℕ) (more : List Token)
    → then_read (read_target (n + ((target_reads t).steps + (exprs_read e).steps)) ((target_tokens t ++ token (Keyword 22) in_word ∷ exprs_tokens e) ++ token (Sign 7) colon ∷ more))
    (λ one more_2. then_read (read_keyword 22 more_2) (λ word more_3. then_read (read_exprs (n + ((target_reads t).steps + (exprs_read e).steps)) more_3) (λ items rest. read_colon (n + ((target_reads t).steps + (exprs_read e).steps)) (for_head at one word items) rest)))
    ≡ option_map (for_head at t in_word e colon) (read_behind (n + ((target_reads t).steps + (exprs_read e).steps)) more)
opened_for at t in_word e colon n more = by (n + ((target_reads t).steps + (exprs_read e).steps))
    (more_steps (λ m. read_target m (target_tokens t ++ token (Keyword 22) in_word ∷ (exprs_tokens e ++ token (Sign 7) colon ∷ more))) (n + ((target_reads t).steps + (exprs_read e).steps)) ((n + (exprs_read e).steps) + (target_reads t).steps) (omega arith)
    ∙ (target_reads t).reads (n + (exprs_read e).steps) in_word (exprs_tokens e ++ token (Sign 7) colon ∷ more))
    (more_steps (λ m. read_exprs m (exprs_tokens e ++ token (Sign 7) colon ∷ more)) (n + ((target_reads t).steps + (exprs_read e).steps)) ((n + (target_reads t).steps) + (exprs_read e).steps) (omega arith)
    ∙ (exprs_read e).reads (n + (target_reads t).steps) (token (Sign 7) colon ∷ more) (omega arith) refl)
  where
    by : (m : ℕ) → read_target m (target_tokens t ++ token (Keyword 22) in_word ∷ (exprs_tokens e ++ token (Sign 7) colon ∷ more)) ≡ Some (t, token (Keyword 22) in_word ∷ (exprs_tokens e ++ token (Sign 7) colon ∷ more))
        → read_exprs m (exprs_tokens e ++ token (Sign 7) colon ∷ more) ≡ Some (e, token (Sign 7) colon ∷ more)
        → then_read (read_target m ((target_tokens t ++ token (Keyword 22) in_word ∷ exprs_tokens e) ++ token (Sign 7) colon ∷ more))
        (λ one more_2. then_read (read_keyword 22 more_2) (λ word more_3. then_read (read_exprs m more_3) (λ items rest. read_colon m (for_head at one word items) rest)))
        ≡ option_map (for_head at t in_word e colon) (read_behind m more)
    by m target exprs =
        ap (λ ts. then_read (read_target m ts) (λ one more_2. then_read (read_keyword 22 more_2) (λ word more_3. then_read (read_exprs m more_3) (λ items rest. read_colon m (for_head at one word items) rest))))
        (append_assoc (target_tokens t) (token (Keyword 22) in_word ∷ exprs_tokens e) (token (Sign 7) colon ∷ more))
        ∙ ap (λ r. then_read r (λ one more_2. then_read (read_keyword 22 more_2) (λ word more_3. then_read (read_exprs m more_3) (λ items rest. read_colon m (for_head at one word items) rest)))) target
        ∙ ap (λ r. then_read r (λ items rest. read_colon m (for_head at t in_word items) rest)) exprs

-- no line without a `:` ends with `pass` behind other tokens
abbrev EndsOtherwise : Head → Type 0
EndsOtherwise g = (tokens : List Token) (at : Spot) → (tokens ≡ [] → ⊥) → head_tokens g ≡ tokens ++ keyword (codes "pass") at → ⊥

abbrev for_opened : (at : Spot) (t : Target) (in_word : Spot) (e : Exprs) (colon : Spot) (behind : Option Simple) → Opened (for_head at t in_word e colon behind)
for_opened at t in_word e colon behind = record {
  front = token (Keyword 17) at ∷ (target_tokens t ++ token (Keyword 22) in_word ∷ exprs_tokens e);
  colon = colon;
  made = for_head at t in_word e colon;
  tokens_are = ap (λ ts. token (Keyword 17) at ∷ ts) (sym (append_assoc (target_tokens t) (token (Keyword 22) in_word ∷ exprs_tokens e) (token (Sign 7) colon ∷ behind_tokens behind)));
  made_are = λ behind. ap (λ ts. token (Keyword 17) at ∷ ts) (sym (append_assoc (target_tokens t) (token (Keyword 22) in_word ∷ exprs_tokens e) (token (Sign 7) colon ∷ behind_tokens behind)));
  behind_is = λ other. refl;
  steps = (target_reads t).steps + (exprs_read e).steps;
  left = (target_reads t).steps + (exprs_read e).steps;
  reads = λ n more. opened_for at t in_word e colon n more;
}

line_opened : (g : Head) → Opened g ⊎ EndsOtherwise g
line_opened (simple_head s) = inr (λ tokens at some is. some (pass_alone s tokens at is))
line_opened (if_head at test colon behind) = inl (record { front = token (Keyword 20) at ∷ expr_tokens test; colon = colon; made = if_head at test colon; tokens_are = refl; made_are = λ behind. refl; behind_is = λ other. refl; steps = (expr_reads test).steps; left = (expr_reads test).steps; reads = λ n more. opened_expr (if_head at) test colon n more })
line_opened (elif_head at test colon behind) = inl (record { front = token (Keyword 13) at ∷ expr_tokens test; colon = colon; made = elif_head at test colon; tokens_are = refl; made_are = λ behind. refl; behind_is = λ other. refl; steps = (expr_reads test).steps; left = (expr_reads test).steps; reads = λ n more. opened_expr (elif_head at) test colon n more })
line_opened (else_head at colon behind) = inl (record { front = token (Keyword 14) at ∷ []; colon = colon; made = else_head at colon; tokens_are = refl; made_are = λ behind. refl; behind_is = λ other. refl; steps = 0; left = 0; reads = λ n more. refl })
line_opened (while_head at test colon behind) = inl (record { front = token (Keyword 32) at ∷ expr_tokens test; colon = colon; made = while_head at test colon; tokens_are = refl; made_are = λ behind. refl; behind_is = λ other. refl; steps = (expr_reads test).steps; left = (expr_reads test).steps; reads = λ n more. opened_expr (while_head at) test colon n more })
line_opened (for_head at t in_word e colon behind) = inl (for_opened at t in_word e colon behind)
line_opened (try_head at colon behind) = inl (record { front = token (Keyword 31) at ∷ []; colon = colon; made = try_head at colon; tokens_are = refl; made_are = λ behind. refl; behind_is = λ other. refl; steps = 0; left = 0; reads = λ n more. refl })
line_opened (except_head at kind colon behind) = inl (record { front = token (Keyword 15) at ∷ kind_tokens kind; colon = colon; made = except_head at kind colon; tokens_are = refl; made_are = λ behind. refl; behind_is = λ other. refl; steps = (kind_reads kind).steps; left = (kind_reads kind).steps; reads = λ n more. opened_kind at kind colon n more })
line_opened (with_head at e called colon behind) = inl (record {
  front = token (Keyword 33) at ∷ (expr_tokens e ++ naming_tokens called);
  colon = colon;
  made = with_head at e called colon;
  tokens_are = ap (λ ts. token (Keyword 33) at ∷ ts) (sym (append_assoc (expr_tokens e) (naming_tokens called) (token (Sign 7) colon ∷ behind_tokens behind)));
  made_are = λ behind. ap (λ ts. token (Keyword 33) at ∷ ts) (sym (append_assoc (expr_tokens e) (naming_tokens called) (token (Sign 7) colon ∷ behind_tokens behind)));
  behind_is = λ other. refl;
  steps = (expr_reads e).steps;
  left = (expr_reads e).steps;
  reads = λ n more. opened_with at e called colon n more;
})
line_opened (def_head at name_at bytes opening given closing colon behind) = inl (record {
  front = token (Keyword 11) at ∷ token (Word bytes) name_at ∷ token (Sign 0) opening ∷ (params_tokens given ++ token (Sign 1) closing ∷ []);
  colon = colon;
  made = def_head at name_at bytes opening given closing colon;
  tokens_are = ap (λ ts. token (Keyword 11) at ∷ token (Word bytes) name_at ∷ token (Sign 0) opening ∷ ts) (sym (append_assoc (params_tokens given) (token (Sign 1) closing ∷ []) (token (Sign 7) colon ∷ behind_tokens behind)));
  made_are = λ behind. ap (λ ts. token (Keyword 11) at ∷ token (Word bytes) name_at ∷ token (Sign 0) opening ∷ ts) (sym (append_assoc (params_tokens given) (token (Sign 1) closing ∷ []) (token (Sign 7) colon ∷ behind_tokens behind)));
  behind_is = λ other. refl;
  steps = (params_reads given).steps;
  left = (params_reads given).steps;
  reads = λ n more. opened_def at name_at bytes opening given closing colon n more;
})
line_opened (class_head at name_at bytes of colon behind) = inl (record { front = token (Keyword 9) at ∷ token (Word bytes) name_at ∷ base_tokens of; colon = colon; made = class_head at name_at bytes of colon; tokens_are = refl; made_are = λ behind. refl; behind_is = λ other. refl; steps = 0; left = 0; reads = λ n more. opened_class at name_at bytes of colon n more })
line_opened (global_head at names) = inr (λ tokens spot some is. ends_otherwise _ tokens spot (ends_names names false) is)

-- ---- where `pass` ends a line

-- where `pass` ends a line that has a `:`, it stands right behind that
at_colon : (g : Head) (o : Opened g) (tokens : List Token) (at : Spot) → head_tokens g ≡ tokens ++ keyword (codes "pass") at → tokens ≡ o.front ++ token (Sign 7) o.colon ∷ []
at_colon g o tokens at is = by (behind_in g) (sym o.tokens_are ∙ is)
  where
    alone : (between : List Token) → between ≡ [] → tokens ≡ (o.front ++ token (Sign 7) o.colon ∷ []) ++ between → tokens ≡ o.front ++ token (Sign 7) o.colon ∷ []
    alone [] nothing is = is ∙ append-nil (o.front ++ token (Sign 7) o.colon ∷ [])
    alone (t ∷ between) nothing is = absurd (not_nothing t between nothing)

    some_there : (s : Simple) → Longer (o.front ++ token (Sign 7) o.colon ∷ []) (simple_tokens s) tokens (keyword (codes "pass") at) ⊎ Shorter (o.front ++ token (Sign 7) o.colon ∷ []) (simple_tokens s) tokens (keyword (codes "pass") at)
        → tokens ≡ o.front ++ token (Sign 7) o.colon ∷ []
    some_there s (inl k) = alone k.between (pass_alone s k.between at k.rest_is) k.longer_is
    some_there s (inr k) = absurd (simple_some s (none_left k.between (simple_tokens s) (sym (same_behind (token (Keyword 28) at) k.next [] (k.between ++ simple_tokens s) k.rest_is))))
      where
        none_left : (a b : List Token) → a ++ b ≡ [] → b ≡ []
        none_left [] b is = is
        none_left (t ∷ a) b is = absurd (not_nothing t (a ++ b) is)

    by : (behind : Option Simple) → o.front ++ token (Sign 7) o.colon ∷ behind_tokens behind ≡ tokens ++ keyword (codes "pass") at → tokens ≡ o.front ++ token (Sign 7) o.colon ∷ []
    by None alike = absurd (ends_otherwise _ tokens at (later false o.front (token (Sign 7) o.colon ∷ []) (λ x. refl)) alike)
    by (Some s) alike = some_there s (cut (o.front ++ token (Sign 7) o.colon ∷ []) (simple_tokens s) tokens (keyword (codes "pass") at) (append_assoc o.front (token (Sign 7) o.colon ∷ []) (simple_tokens s) ∙ alike))

-- a line of these tokens and `pass`
pub record PassHead (opened : List Token) (at : Spot) : Type 0 where
  pub head : Head
  pub tokens_are : head_tokens head ≡ opened ++ keyword (codes "pass") at

-- Where a line ends with `pass` behind other tokens, `pass` at any other place ends one too.
pub pass_there : (h : Head) (opened : List Token) (at other : Spot) → (opened ≡ [] → ⊥) → head_tokens h ≡ opened ++ keyword (codes "pass") at → PassHead opened other
pass_there h opened at other some is = by (line_opened h)
  where
    by : Opened h ⊎ EndsOtherwise h → PassHead opened other
    by (inl o) = record {
      head = o.made (Some (pass other));
      tokens_are = o.made_are (Some (pass other)) ∙ sym (append_assoc o.front (token (Sign 7) o.colon ∷ []) (keyword (codes "pass") other)) ∙ ap (λ ts. ts ++ keyword (codes "pass") other) (sym (at_colon h o opened at is));
    }
    by (inr ends) = absurd (ends opened at some is)

-- what stands behind the `:` is read as what does
behind_read : (g : Head) (o : Opened g) (h : Head) (t : Token) (more : List Token) → head_tokens h ≡ o.front ++ token (Sign 7) o.colon ∷ t ∷ more → is_none (behind_in h) ≡ false
behind_read g o h t more is =
    let r = head_reads h in
    let sum : r.steps + o.steps ≡ o.steps + r.steps = omega arith in
    by (read_simple (r.steps + o.left) (t ∷ more)) (sym (o.reads r.steps (t ∷ more)) ∙ ap (read_head (r.steps + o.steps)) (sym is) ∙ ap (λ m. read_head m (head_tokens h)) sum ∙ r.reads o.steps)
  where
    by : (s : Option Simple) → option_map o.made (option_map Some s) ≡ Some h → is_none (behind_in h) ≡ false
    by None alike = cc
    by (Some s) alike = ap (λ h. is_none (behind_in h)) (sym (same_Some _ _ alike)) ∙ ap is_none (o.behind_is (Some s))

-- What is read behind a whole `opening :` stands behind the `:`.
pub reads_behind : (g h : Head) (tokens : List Token) (t : Token) (more : List Token) (at : Spot) → (tokens ≡ [] → ⊥) → head_tokens g ≡ tokens ++ keyword (codes "pass") at → head_tokens h ≡ tokens ++ t ∷ more → is_none (behind_in h) ≡ false
reads_behind g h tokens t more at some ends goes = by (line_opened g)
  where
    by : Opened g ⊎ EndsOtherwise g → is_none (behind_in h) ≡ false
    by (inl o) = behind_read g o h t more (goes ∙ ap (λ ts. ts ++ t ∷ more) (at_colon g o tokens at ends) ∙ append_assoc o.front (token (Sign 7) o.colon ∷ []) (t ∷ more))
    by (inr other) = absurd (other tokens at some ends)

-- none of these tokens but the first stands where with `pass` in its place those up to it are a line
abbrev pub StaysAhead : List Token → Type 0
StaysAhead tokens = (opened : List Token) (t : Token) (rest : List Token) → tokens ≡ opened ++ t ∷ rest → (opened ≡ [] → ⊥) → (h : Head) (at : Spot) → head_tokens h ≡ opened ++ keyword (codes "pass") at → ⊥

-- a shorter front stays ahead too
pub stays_front : (a b : List Token) → StaysAhead (a ++ b) → StaysAhead a
stays_front a b stays opened t rest is some h at goes = stays opened t (rest ++ b) (ap (λ ts. ts ++ b) is ∙ append_assoc opened (t ∷ rest) b) some h at goes

-- Where nothing stands behind the `:` of a line, no front of it but the whole is a line that goes on with `pass`.
pub stays : (h : Head) → behind_in h ≡ None → (front : List Token) (f : Token) (more : List Token) → head_tokens h ≡ front ++ f ∷ more → (t : Token) → StaysAhead (front ++ t ∷ [])
stays h empty front f more is t opened u rest at some g spot goes = let k = kept front t opened u rest at in by k.left (is ∙ ap (λ ts. ts ++ f ∷ more) k.front_is ∙ append_assoc opened k.left (f ∷ more))
  where
    nothing : (v : Token) (vs : List Token) → head_tokens h ≡ opened ++ v ∷ vs → ⊥
    nothing v vs alike = let no : true ≡ false = sym (ap is_none empty) ∙ reads_behind g h opened v vs spot some goes alike in cc

    by : (left : List Token) → head_tokens h ≡ opened ++ (left ++ f ∷ more) → ⊥
    by [] alike = nothing f more alike
    by (v ∷ vs) alike = nothing v (vs ++ f ∷ more) alike

-- A line whose first token begins no compound statement has no `:` with a statement behind it.
pub simple_stays : (tokens : List Token) → begins_compound tokens ≡ false → StaysAhead tokens
simple_stays tokens absent [] t rest is some h at goes = some refl
simple_stays tokens absent (o ∷ opened) t rest is some h at goes =
    let s = head_simple h o (opened ++ keyword (codes "pass") at) goes (sym (ap begins_compound is) ∙ absent) in
    some (pass_alone s.s (o ∷ opened) at (sym (ap head_tokens s.is) ∙ goes))

-- the number of the keyword that is the first of these tokens
abbrev number_of : TokenKind → ℕ
number_of (Keyword n) = n
number_of kind = 0

abbrev first_number : List Token → ℕ
first_number [] = 0
first_number (t ∷ ts) = number_of t.kind

-- such a line is no simple statement
not_simple : (s : Simple) (spot : Spot) (n : ℕ) (more : List Token) → is_compound n ≡ true → simple_tokens s ≡ token (Keyword n) spot ∷ more → ⊥
not_simple s spot n more compound is = let no : true ≡ false = sym compound ∙ simple_not_compound s (token (Keyword n) spot) more is in cc

global_ends : (h : Head) (spot : Spot) (opened : List Token) (at : Spot) → head_tokens h ≡ (token (Keyword 19) spot ∷ opened) ++ keyword (codes "pass") at → ⊥
global_ends (simple_head s) spot opened at is = not_simple s spot 19 _ refl is
global_ends (global_head word names) spot opened at is = ends_otherwise _ (token (Keyword 19) spot ∷ opened) at (ends_names names false) is
global_ends (if_head word test colon behind) spot opened at is = absurd (omega (arith, ap first_number is))
global_ends (elif_head word test colon behind) spot opened at is = absurd (omega (arith, ap first_number is))
global_ends (else_head word colon behind) spot opened at is = absurd (omega (arith, ap first_number is))
global_ends (while_head word test colon behind) spot opened at is = absurd (omega (arith, ap first_number is))
global_ends (for_head word t in_word e colon behind) spot opened at is = absurd (omega (arith, ap first_number is))
global_ends (try_head word colon behind) spot opened at is = absurd (omega (arith, ap first_number is))
global_ends (except_head word kind colon behind) spot opened at is = absurd (omega (arith, ap first_number is))
global_ends (with_head word e called colon behind) spot opened at is = absurd (omega (arith, ap first_number is))
global_ends (def_head word name_at bytes opening given closing colon behind) spot opened at is = absurd (omega (arith, ap first_number is))
global_ends (class_head word name_at bytes of colon behind) spot opened at is = absurd (omega (arith, ap first_number is))

-- nor has a `global` line
pub global_stays : (spot : Spot) (rest : List Token) → StaysAhead (token (Keyword 19) spot ∷ rest)
global_stays spot rest [] t left is some h at goes = some refl
global_stays spot rest (o ∷ opened) t left is some h at goes =
    global_ends h spot opened at (goes ∙ ap (λ u. (u ∷ opened) ++ keyword (codes "pass") at) (sym (same_first (token (Keyword 19) spot) o rest (opened ++ t ∷ left) is)))

-- ---- `for`

ends_target_rest : (r : TargetRest) (in_word : Spot) (us : List Token) → Unread End 99 (target_rest_tokens r ++ token (Keyword 22) in_word ∷ us)
ends_target_rest end_rest_target in_word us = ends_none (token (Keyword 22) in_word ∷ us) refl
ends_target_rest (last_target t) in_word us = ends_one t (token (Keyword 22) in_word) us (omega arith) refl
ends_target_rest (more_target t comma r) in_word us = λ passed s is.
    unread_one End 99 99 t comma (target_rest_tokens r ++ token (Keyword 22) in_word ∷ us) (omega arith) (ends_target_rest r in_word us) passed s (is ∙ append_assoc (one_target_tokens t) (token (Sign 6) comma ∷ target_rest_tokens r) (token (Keyword 22) in_word ∷ us))

-- no targets and sum go on behind whole targets with their `in`
ends_targets : (t : Target) (in_word : Spot) (us : List Token) → Unread End 99 (target_tokens t ++ token (Keyword 22) in_word ∷ us)
ends_targets (one_target t) in_word us = ends_one t (token (Keyword 22) in_word) us (omega arith) refl
ends_targets (several_targets t comma r) in_word us = λ passed s is.
    unread_one End 99 99 t comma (target_rest_tokens r ++ token (Keyword 22) in_word ∷ us) (omega arith) (ends_target_rest r in_word us) passed s (is ∙ append_assoc (one_target_tokens t) (token (Sign 6) comma ∷ target_rest_tokens r) (token (Keyword 22) in_word ∷ us))

other_word : (n : ℕ) (opened : List Token) (spot at : Spot) (more : List Token) → token (Keyword n) spot ∷ more ≡ opened ++ keyword (codes "pass") at → first_number opened ≡ 17 → (n ≡ 17 → ⊥) → ⊥
other_word n [] spot at more is first other = absurd (omega (arith, first))
other_word n (o ∷ opened) spot at more is first other = other (ap first_number is ∙ first)

for_ends : (h : Head) (spot : Spot) (inside : List Token) (passed : List (OneTarget × Spot)) (s : Sum) (more : List Token) → passed_tokens passed ++ sum_tokens s ≡ inside ++ more
    → (opened left : List Token) → token (Keyword 17) spot ∷ inside ≡ opened ++ left → first_number opened ≡ 17 → (at : Spot) → head_tokens h ≡ opened ++ keyword (codes "pass") at → ⊥
for_ends (simple_head s) spot inside passed sum more read [] left is first at goes = absurd (omega (arith, first))
for_ends (simple_head s) spot inside passed sum more read (o ∷ opened) left is first at goes =
    not_simple s spot 17 _ refl (goes ∙ ap (λ u. (u ∷ opened) ++ keyword (codes "pass") at) (sym (same_first (token (Keyword 17) spot) o inside (opened ++ left) is)))
for_ends (for_head word t in_word e colon behind) spot inside passed s more read opened left is first at goes =
    let colon_there : opened ≡ (token (Keyword 17) word ∷ (target_tokens t ++ token (Keyword 22) in_word ∷ exprs_tokens e)) ++ token (Sign 7) colon ∷ [] = at_colon _ (for_opened word t in_word e colon behind) opened at goes in
    let tail : List Token = (exprs_tokens e ++ token (Sign 7) colon ∷ []) ++ (left ++ more) in
    ends_targets t in_word tail passed s (read ∙ joined colon_there)
  where
    joined : opened ≡ (token (Keyword 17) word ∷ (target_tokens t ++ token (Keyword 22) in_word ∷ exprs_tokens e)) ++ token (Sign 7) colon ∷ []
        → inside ++ more ≡ target_tokens t ++ token (Keyword 22) in_word ∷ ((exprs_tokens e ++ token (Sign 7) colon ∷ []) ++ (left ++ more))
    joined there =
        let inner : inside ≡ ((target_tokens t ++ token (Keyword 22) in_word ∷ exprs_tokens e) ++ token (Sign 7) colon ∷ []) ++ left = same_behind (token (Keyword 17) spot) (token (Keyword 17) word) inside _ (is ∙ ap (λ ts. ts ++ left) there) in
        ap (λ ts. ts ++ more) inner
        ∙ append_assoc ((target_tokens t ++ token (Keyword 22) in_word ∷ exprs_tokens e) ++ token (Sign 7) colon ∷ []) left more
        ∙ ap (λ ts. ts ++ (left ++ more)) (append_assoc (target_tokens t) (token (Keyword 22) in_word ∷ exprs_tokens e) (token (Sign 7) colon ∷ []))
        ∙ append_assoc (target_tokens t) (token (Keyword 22) in_word ∷ (exprs_tokens e ++ token (Sign 7) colon ∷ [])) (left ++ more)
for_ends (global_head word names) spot inside passed s more read opened left is first at goes = ends_otherwise _ opened at (ends_names names false) goes
for_ends (if_head word test colon behind) spot inside passed s more read opened left is first at goes = other_word 20 opened word at _ goes first (λ is. omega (arith, is))
for_ends (elif_head word test colon behind) spot inside passed s more read opened left is first at goes = other_word 13 opened word at _ goes first (λ is. omega (arith, is))
for_ends (else_head word colon behind) spot inside passed s more read opened left is first at goes = other_word 14 opened word at _ goes first (λ is. omega (arith, is))
for_ends (while_head word test colon behind) spot inside passed s more read opened left is first at goes = other_word 32 opened word at _ goes first (λ is. omega (arith, is))
for_ends (try_head word colon behind) spot inside passed s more read opened left is first at goes = other_word 31 opened word at _ goes first (λ is. omega (arith, is))
for_ends (except_head word kind colon behind) spot inside passed s more read opened left is first at goes = other_word 15 opened word at _ goes first (λ is. omega (arith, is))
for_ends (with_head word e called colon behind) spot inside passed s more read opened left is first at goes = other_word 33 opened word at _ goes first (λ is. omega (arith, is))
for_ends (def_head word name_at bytes opening given closing colon behind) spot inside passed s more read opened left is first at goes = other_word 11 opened word at _ goes first (λ is. omega (arith, is))
for_ends (class_head word name_at bytes of colon behind) spot inside passed s more read opened left is first at goes = other_word 9 opened word at _ goes first (λ is. omega (arith, is))

-- nor what is read behind `for` as targets with a comma each and a sum
pub for_stays : (spot : Spot) (inside : List Token) (passed : List (OneTarget × Spot)) (s : Sum) (more : List Token) → passed_tokens passed ++ sum_tokens s ≡ inside ++ more → (t : Token) → StaysAhead ((token (Keyword 17) spot ∷ inside) ++ t ∷ [])
for_stays spot inside passed s more read t [] u rest is some h at goes = some refl
for_stays spot inside passed s more read t (o ∷ opened) u rest is some h at goes =
    let k = kept (token (Keyword 17) spot ∷ inside) t (o ∷ opened) u rest is in
    for_ends h spot inside passed s more read (o ∷ opened) k.left k.front_is (sym (ap first_number is)) at goes

-- ---- behind an opening that was read

-- a line with these tokens is this one
pub record IsMade (made : Option Simple → Head) (tail : List Token) (h : Head) : Type 0 where
  pub behind : Option Simple
  pub tokens_are : behind_tokens behind ≡ tail
  pub is : h ≡ made behind

pub made_of : (c : Context) (word : ℕ) (before after rest : List Token) (what : What) (spot : Spot) → (o : Opening c word before what after) → after ≡ token (Sign 7) spot ∷ rest
    → (tail : List Token) (h : Head) → head_tokens h ≡ o.front ++ token (Sign 7) spot ∷ tail → IsMade (o.made spot) tail h
made_of c word before after rest what spot o after_is tail h is =
    let r = head_reads h in
    let sum : r.steps + o.steps ≡ o.steps + r.steps = omega arith in
    let read : read_colon (r.steps + o.left) o.made (token (Sign 7) spot ∷ tail) ≡ Some h =
    sym (o.reads r.steps (token (Sign 7) spot ∷ tail) (sym (ap first_token after_is)))
    ∙ ap (read_head (r.steps + o.steps)) (sym is) ∙ ap (λ m. read_head m (head_tokens h)) sum ∙ r.reads o.steps in
    by (read_behind (r.steps + o.left) tail) read
  where
    by : (b : Option (Option Simple)) → option_map (o.made spot) b ≡ Some h → IsMade (o.made spot) tail h
    by None alike = cc
    by (Some behind) some =
        let alike : o.made spot behind ≡ h = same_Some _ _ some in
        record {
          behind = behind;
          tokens_are = same_behind _ _ (behind_tokens behind) tail (append_cancel_left o.front _ _ (sym (o.tokens_are spot behind) ∙ ap head_tokens alike ∙ is));
          is = sym alike;
        }

-- where something stands behind the `:`
pub record IsMadeWith (made : Option Simple → Head) (tail : List Token) (h : Head) : Type 0 where
  pub s : Simple
  pub tokens_are : simple_tokens s ≡ tail
  pub is : h ≡ made (Some s)

pub made_with : (made : Option Simple → Head) (tail : List Token) (h : Head) → (tail ≡ [] → ⊥) → IsMade made tail h → IsMadeWith made tail h
made_with made tail h some m = by m.behind m.tokens_are m.is
  where
    by : (behind : Option Simple) → behind_tokens behind ≡ tail → h ≡ made behind → IsMadeWith made tail h
    by None tokens is = absurd (some (sym tokens))
    by (Some s) tokens is = record { s = s; tokens_are = tokens; is = is }

-- `pass` may stand everywhere
pass_may_stand : (around : Around) (spot : Spot) → simple_stands around (pass spot) ≡ true
pass_may_stand around spot = by around.in_class
  where
    by : (inside : Bool) → ((not inside || true) && true) ≡ true
    by true = refl
    by false = refl

-- `pass` behind the `:` may stand there and lies not too deep, and no front of the opening is a line with `pass`
pub free_behind : (c : Context) (given : List (List ℕ)) (limit : Option Limit) (word : ℕ) (before after rest : List Token) (what : What) (spot : Spot) → (o : Opening c word before what after) → word_may c word ≡ true → after ≡ token (Sign 7) spot ∷ rest → limit ≡ None
    → (tokens : List Token) → IsFreeBehind c given limit (o.front ++ token (Sign 7) spot ∷ tokens)
free_behind c given limit word before after rest what spot o may after_is free tokens opened t left tokens_are some h at goes =
    by (cut (o.front ++ token (Sign 7) spot ∷ []) tokens opened (t ∷ left) (append_assoc o.front (token (Sign 7) spot ∷ []) tokens ∙ tokens_are))
  where
    alone : (m : IsMadeWith (o.made spot) (keyword (codes "pass") at) h) → (limit ≡ None) × (head_stands c given h ≡ true) × (head_depth h ≤ 100)
    alone m =
        let is : h ≡ o.made spot (Some (pass at)) = m.is ∙ ap (λ s. o.made spot (Some s)) (one_simple m.s (pass at) m.tokens_are) in (
          free,
          ap (head_stands c given) is ∙ o.stands given spot (Some (pass at)) ∙ both_true (word_may c word) _ may (pass_may_stand (inner_around word c.around) at),
          (let depth = ap head_depth is ∙ o.depth_is spot (Some (pass at)) in let low = o.low in omega (arith, depth, low)),
        )

    made_there : (between : List Token) → head_tokens h ≡ o.front ++ token (Sign 7) spot ∷ (between ++ keyword (codes "pass") at) → IsMadeWith (o.made spot) (between ++ keyword (codes "pass") at) h
    made_there between is = made_with (o.made spot) (between ++ keyword (codes "pass") at) h (shown_some between (token (Keyword 28) at) []) (made_of c word before after rest what spot o after_is (between ++ keyword (codes "pass") at) h is)

    found : (between : List Token) → IsMadeWith (o.made spot) (between ++ keyword (codes "pass") at) h → (limit ≡ None) × (head_stands c given h ≡ true) × (head_depth h ≤ 100)
    found between m = alone (subst (λ (ts : List Token). IsMadeWith (o.made spot) (ts ++ keyword (codes "pass") at) h) (pass_alone m.s between at m.tokens_are) m)

    by : Longer (o.front ++ token (Sign 7) spot ∷ []) tokens opened (t ∷ left) ⊎ Shorter (o.front ++ token (Sign 7) spot ∷ []) tokens opened (t ∷ left) → (limit ≡ None) × (head_stands c given h ≡ true) × (head_depth h ≤ 100)
    by (inl k) = found k.between (made_there k.between
        (goes ∙ ap (λ ts. ts ++ keyword (codes "pass") at) k.longer_is ∙ append_assoc (o.front ++ token (Sign 7) spot ∷ []) k.between (keyword (codes "pass") at) ∙ append_assoc o.front (token (Sign 7) spot ∷ []) (k.between ++ keyword (codes "pass") at)))
    by (inr k) = absurd (stays (o.made spot None) (o.behind_is spot None) o.front (token (Sign 7) spot) [] (o.tokens_are spot None) (token (Sign 7) spot) opened k.next k.between k.longer_is some h at goes)
