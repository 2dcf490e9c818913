-- Names in a row, one after the other: what is read of them, and how they are refused.
use Rattle.std.proofs.Common.{◌≡◌, ℕ, zero, suc, ◌+◌, ◌<◌, Bool, true, false, not, ◌&&◌, ◌||◌, ◌==◌, List, [], ◌∷◌, ◌++◌, Some, None, refl, ap, sym, ◌∙◌, arith, subst, append_assoc, append-nil, if◌then◌else◌, Option, length}
use Rattle.std.specs.Prelude.{nat_lt, length, take, drop, codes, ◌-◌}
use Rattle.std.proofs.Math.Dec.{eqb}
use Rattle.std.specs.List.{starts_with, ends_with}
use Rattle.std.specs.Str.{bytes_eq}
use Rattle.std.proofs.lemmas.Bool.{eqb-true, eqb-false, leb-false}
use Rattle.prov_base.specs.declared.place.Pos.{Pos}
use Rattle.prov_base.specs.declared.place.Span.{Span}
use Rattle.py_lines.specs.declared.parts.Token.{Token}
use Rattle.py_lines.specs.declared.parts.TokenKind.{TokenKind}
use Rattle.py_lines.specs.declared.parts.TokenKind.TheVariants.{Word, Keyword, Number, Text, Sign}
use Rattle.py_tree.specs.declared.stmt.Globals.{Globals}
use Rattle.py_grammar.specs.declared.context.Limit.{Limit}
use Rattle.py_expressions.specs.declared.fault.Fault.TheVariants.{Unexpected, TooDeep, TooMany, Memory}
use Rattle.py_expressions.specs.declared.fault.Stop.{Stop}
use Rattle.py_expressions.specs.declared.fault.Stop.TheVariants.{Here, End}
use Rattle.py_expressions.specs.Concrete.{Spot}
use Rattle.py_expressions.specs.Tokens.{token, word}
use Rattle.py_grammar.specs.Written.{Names, last_name, more_names, Params, no_params, params, params_comma}
use Rattle.py_grammar.specs.StatementTokens.{names_tokens, params_tokens}
use Rattle.py_grammar.specs.StatementTrees.{names_list, params_list}
use Rattle.py_expressions.specs.Reader.{Read, go_on, is_sign, read_name, is_word, begins_name}
use Rattle.py_grammar.specs.StatementReader.{whole}
use Rattle.py_grammar.specs.LineReader.{global_head, read_names, names_after, params_after, read_params, then_read, global_end, head_tokens}
use Rattle.py_grammar.specs.WellPlaced.{is_special, is_in, are_different, none_given}
use Rattle.py_expressions.specs.Parsed.{Only, Finds, Refused, Taken, TakenName, one_name, is_sign_next, IsAtFirst, IsMemory}
use Rattle.py_expressions.specs.ParsedRows.{first_token}
use Rattle.py_grammar.specs.ParsedSimple.{IsMore, leaving_none}
use Rattle.py_grammar.specs.ParsedHead.{Context, word_may, params_part, IsAmissHead, GlobalFound, GlobalRefused}
use Rattle.py_grammar.specs.ParsedNames.{BeginsFine, RefusedAmiss, all_names, IsGiven, OthersFound, IsRepeated, DifferentFound}
use Rattle.py_expressions.proofs.Reading.{if_true, if_false}
use Rattle.py_expressions.proofs.Refusals.{only_any, only_go_on, only_if, only_is, finds_same, finds_weaker}
use Rattle.py_expressions.proofs.ClosedParts.{not_deep}
use Rattle.py_expressions.proofs.PrimParts.{go_on_once}
use Rattle.py_expressions.proofs.RowParts.{more_steps, sign_first}
use Rattle.py_grammar.proofs.HeadParts.{HeadTurns, first_same, BeginsOpening, spelled_head, clear_before}
use Rattle.py_grammar.proofs.Unread.{passes_word}
use Rattle.py_grammar.proofs.AmissParts.{NoneAmiss, AmissInside, amiss_of_refused, amiss_same, amiss_inside, begins_with, amiss_here, amiss_head}
use Rattle.py_grammar.proofs.FixedNames.{fixed_name, fixed_refused}
use Rattle.py_grammar.proofs.FreshNames.{fresh, fresh_is_new, none_repeated, none_is_given, none_so}
use Rattle.py_grammar.proofs.LineFirsts.{both_true}
use Rattle.py_grammar.proofs.BehindColon.{global_stays}

-- ---- whether a name is among others

same_one : (a b : ℕ) → (a == b) ≡ (b == a)
same_one a b = by (a == b) (b == a) refl refl
  where
    by : (s t : Bool) → (a == b) ≡ s → (b == a) ≡ t → s ≡ t
    by true true one two = refl
    by true false one two = absurd (eqb-false b a two (sym (eqb-true a b one)))
    by false true one two = absurd (eqb-false a b one (sym (eqb-true b a two)))
    by false false one two = refl

pub same_both : (x y : List ℕ) → bytes_eq x y ≡ bytes_eq y x
same_both [] [] = refl
same_both [] (b ∷ y) = refl
same_both (a ∷ x) [] = refl
same_both (a ∷ x) (b ∷ y) = ap (λ (t : Bool). t && bytes_eq x y) (same_one a b) ∙ ap (λ (t : Bool). (b == a) && t) (same_both x y)

in_one_more : (y x : List ℕ) (names rest : List (List ℕ)) → bytes_eq y x ≡ true → is_in y (names ++ x ∷ rest) ≡ true
in_one_more y x [] rest is = ap (λ (t : Bool). t || is_in y rest) is
in_one_more y x (name ∷ names) rest is = by (bytes_eq y name) (is_in y (names ++ x ∷ rest)) (in_one_more y x names rest is)
  where
    by : (a b : Bool) → b ≡ true → (a || b) ≡ true
    by true b is = refl
    by false b is = is

-- a name that is among those before it
pub repeated : (names : List (List ℕ)) (x : List ℕ) (rest : List (List ℕ)) → is_in x names ≡ true → are_different (names ++ x ∷ rest) ≡ false
repeated [] x rest is = cc
repeated (name ∷ names) x rest is = by (bytes_eq x name) refl is (λ there. repeated names x rest there)
  where
    closed : (a b : Bool) → a ≡ true → (not a && b) ≡ false
    closed a b is = ap (λ (t : Bool). not t && b) is

    behind : (a b : Bool) → b ≡ false → (a && b) ≡ false
    behind true b is = is
    behind false b is = refl

    by : (t : Bool) → bytes_eq x name ≡ t → (t || is_in x names) ≡ true → (is_in x names ≡ true → are_different (names ++ x ∷ rest) ≡ false) → (not (is_in name (names ++ x ∷ rest)) && are_different (names ++ x ∷ rest)) ≡ false
    by true same there next = closed (is_in name (names ++ x ∷ rest)) (are_different (names ++ x ∷ rest)) (in_one_more name x names rest (same_both name x ∙ same))
    by false same there next = behind (not (is_in name (names ++ x ∷ rest))) (are_different (names ++ x ∷ rest)) (next there)

not_there : (y x : List ℕ) (names : List (List ℕ)) → is_in y names ≡ false → bytes_eq y x ≡ false → is_in y (names ++ x ∷ []) ≡ false
not_there y x [] is other = ap (λ (t : Bool). t || false) other
not_there y x (name ∷ names) is other = split (bytes_eq y name) (is_in y names) (is_in y (names ++ x ∷ [])) is (λ none. not_there y x names none other)
  where
    split : (a b c : Bool) → (a || b) ≡ false → (b ≡ false → c ≡ false) → (a || c) ≡ false
    split true b c is next = cc
    split false b c is next = next is

-- a name that is not among those before it
pub different_more : (names : List (List ℕ)) (x : List ℕ) → are_different names ≡ true → is_in x names ≡ false → are_different (names ++ x ∷ []) ≡ true
different_more [] x is other = refl
different_more (name ∷ names) x is other = by (bytes_eq x name) (is_in x names) refl refl other (λ one two. different_more names x one two)
  where
    first : (a b : Bool) → (not a && b) ≡ true → a ≡ false
    first true b is = cc
    first false b is = refl

    second : (a b : Bool) → (not a && b) ≡ true → b ≡ true
    second true b is = cc
    second false b is = is

    together : (a b : Bool) → a ≡ false → b ≡ true → (not a && b) ≡ true
    together a b one two = ap (λ (t : Bool). not t && b) one ∙ two

    by : (a b : Bool) → bytes_eq x name ≡ a → is_in x names ≡ b → (a || b) ≡ false → (are_different names ≡ true → is_in x names ≡ false → are_different (names ++ x ∷ []) ≡ true) → (not (is_in name (names ++ x ∷ [])) && are_different (names ++ x ∷ [])) ≡ true
    by true b same there none next = cc
    by false true same there none next = cc
    by false false same there none next =
        together (is_in name (names ++ x ∷ [])) (are_different (names ++ x ∷ []))
        (not_there name x names (first (is_in name names) (are_different names) is) (same_both name x ∙ same))
        (next (second (is_in name names) (are_different names) is) there)

-- a name that is a parameter, and one that is none
pub given_there : (given names : List (List ℕ)) (x : List ℕ) (rest : List (List ℕ)) → is_in x given ≡ true → none_given given (names ++ x ∷ rest) ≡ false
given_there given [] x rest is = ap (λ (t : Bool). not t && none_given given rest) is
given_there given (name ∷ names) x rest is = by (not (is_in name given)) (none_given given (names ++ x ∷ rest)) (given_there given names x rest is)
  where
    by : (a b : Bool) → b ≡ false → (a && b) ≡ false
    by true b is = is
    by false b is = refl

pub none_more : (given names : List (List ℕ)) (x : List ℕ) → none_given given names ≡ true → is_in x given ≡ false → none_given given (names ++ x ∷ []) ≡ true
none_more given [] x is other = ap (λ (t : Bool). not t && true) other
none_more given (name ∷ names) x is other = by (not (is_in name given)) (none_given given names) (none_given given (names ++ x ∷ [])) is (λ none. none_more given names x none other)
  where
    by : (a b c : Bool) → (a && b) ≡ true → (b ≡ true → c ≡ true) → (a && c) ≡ true
    by true b c is next = next is
    by false b c is next = cc

-- ---- a step of the reader

names_step : (m : ℕ) (spot : Spot) (bytes : List ℕ) (comma : Spot) (tail : List Token) → begins_name tail ≡ true
    → read_names (suc (suc m)) (word bytes spot ++ (token (Sign 6) comma ∷ tail)) ≡ go_on (read_names m tail) (λ found rest. Some (more_names spot bytes comma found, rest))
names_step m spot bytes comma tail is = if_true (begins_name tail) (go_on (read_names m tail) (λ found rest. Some (more_names spot bytes comma found, rest))) (Some (last_name spot bytes, token (Sign 6) comma ∷ tail)) is

names_stop : (m : ℕ) (spot : Spot) (bytes : List ℕ) (comma : Spot) (tail : List Token) → begins_name tail ≡ false
    → read_names (suc (suc m)) (word bytes spot ++ (token (Sign 6) comma ∷ tail)) ≡ Some (last_name spot bytes, token (Sign 6) comma ∷ tail)
names_stop m spot bytes comma tail is = if_false (begins_name tail) (go_on (read_names m tail) (λ found rest. Some (more_names spot bytes comma found, rest))) (Some (last_name spot bytes, token (Sign 6) comma ∷ tail)) is

names_last : (m : ℕ) (spot : Spot) (bytes : List ℕ) (tail : List Token) → is_sign_next 6 tail ≡ false → read_names (suc (suc m)) (word bytes spot ++ tail) ≡ Some (last_name spot bytes, tail)
names_last m spot bytes [] other = refl
names_last m spot bytes (t ∷ ts) other = if_false (is_sign 6 t.kind)
    (if begins_name ts then go_on (read_names m ts) (λ found rest. Some (more_names spot bytes (record { at = t.at; span = t.span }) found, rest)) else Some (last_name spot bytes, t ∷ ts)) (Some (last_name spot bytes, t ∷ ts)) other

no_name_of : (at : Pos) (span : Span) (kind : TokenKind) (ts : List Token) → is_word kind ≡ false → read_name (record { at = at; span = span; kind = kind } ∷ ts) ≡ None
no_name_of at span (Word bytes) ts is = cc
no_name_of at span (Keyword n) ts is = refl
no_name_of at span (Number n) ts is = refl
no_name_of at span (Text bytes) ts is = refl
no_name_of at span (Sign n) ts is = refl

no_name : (ts : List Token) → begins_name ts ≡ false → read_name ts ≡ None
no_name [] is = refl
no_name (t ∷ ts) is = no_name_of t.at t.span t.kind ts is

no_names : (n : ℕ) (ts : List Token) → begins_name ts ≡ false → read_names n ts ≡ None
no_names zero ts is = refl
no_names (suc n) ts is = ap (λ r. go_on r (λ found rest. names_after n found.0 found.1 rest)) (no_name ts is)

-- the names that are read begin with this one
record BeginsWith (bytes : List ℕ) (names : Names) : Type 0 where
  others : List (List ℕ)
  is : names_list names ≡ bytes ∷ others

names_first : (m : ℕ) (spot : Spot) (bytes : List ℕ) (ts : List Token) → Only (BeginsWith bytes) (names_after m spot bytes ts)
names_first zero spot bytes ts = tt
names_first (suc m) spot bytes [] = record { others = []; is = refl }
names_first (suc m) spot bytes (t ∷ ts) = only_if _ (is_sign 6 t.kind) _ _
    (only_if _ (begins_name ts) _ _ (only_any _ (read_names m ts) _ (λ found rest. record { others = names_list found; is = refl })) (record { others = []; is = refl }))
    (record { others = []; is = refl })

-- ---- what was read so far

-- `put` puts what comes behind what was read
pub record NamesGo (before : List Token) (list : List (List ℕ)) (after : List Token) : Type 0 where
  pub put : Names → Names
  pub front : List Token
  pub before_is : before ≡ front ++ after
  pub tokens_are : (w : Names) → names_tokens (put w) ≡ front ++ names_tokens w
  pub names_are : (w : Names) → names_list (put w) ≡ list ++ names_list w
  pub opens : (tail : List Token) → begins_name tail ≡ true → begins_name (front ++ tail) ≡ true
  pub steps : ℕ
  pub behind : ℕ
  pub leads : (n : ℕ) (tail : List Token) → begins_name tail ≡ true → read_names (n + steps) (front ++ tail) ≡ go_on (read_names (n + behind) tail) (λ w rest. Some (put w, rest))
  pub stuck : (n : ℕ) (tail : List Token) → begins_name tail ≡ false → whole (read_names (n + steps) (front ++ tail)) ≡ None

go_on_itself : {A : Type 0} (r : Read A) → r ≡ go_on r (λ a rest. Some (a, rest))
go_on_itself None = refl
go_on_itself (Some (a, rest)) = refl

pub names_init : (before : List Token) (list : List (List ℕ)) → list ≡ [] → NamesGo before list before
names_init before list empty = record {
  put = λ w. w;
  front = [];
  before_is = refl;
  tokens_are = λ w. refl;
  names_are = λ w. ap (λ xs. xs ++ names_list w) (sym empty);
  opens = λ tail is. is;
  steps = 0;
  behind = 0;
  leads = λ n tail is. go_on_itself (read_names (n + 0) tail);
  stuck = λ n tail is. ap whole (no_names (n + 0) tail is);
}

behind_comma : (front : List Token) (t comma : Token) (after : List Token) → front ++ (t ∷ comma ∷ after) ≡ (front ++ (t ∷ comma ∷ [])) ++ after
behind_comma front t comma after = sym (append_assoc front (t ∷ comma ∷ []) after)

pub names_next : (before after middle behind : List Token) (list list_2 : List (List ℕ)) (place at : Pos) (name : List ℕ) → NamesGo before list after → TakenName after place name middle → list_2 ≡ list ++ name ∷ [] → Taken (Sign 6) middle at behind
    → NamesGo before list_2 behind
names_next before after middle behind list list_2 place at name g f longer k = let t : Token = token (Word name) f.spot in let comma : Token = token (Sign 6) k.spot in record {
  put = λ w. g.put (more_names f.spot name k.spot w);
  front = g.front ++ (t ∷ comma ∷ []);
  before_is = g.before_is ∙ ap (λ ts. g.front ++ ts) (f.before_is ∙ ap (λ ts. t ∷ ts) k.before_is) ∙ behind_comma g.front t comma behind;
  tokens_are = λ w. g.tokens_are (more_names f.spot name k.spot w) ∙ behind_comma g.front t comma (names_tokens w);
  names_are = λ w. g.names_are (more_names f.spot name k.spot w) ∙ sym (append_assoc list (name ∷ []) (names_list w)) ∙ ap (λ xs. xs ++ names_list w) (sym longer);
  opens = λ tail is. ap begins_name (sym (behind_comma g.front t comma tail)) ∙ g.opens (t ∷ comma ∷ tail) refl;
  steps = 2 + g.steps;
  behind = g.behind;
  leads = λ n tail is.
      more_steps (λ k. read_names k ((g.front ++ (t ∷ comma ∷ [])) ++ tail)) (n + (2 + g.steps)) ((n + 2) + g.steps) (omega arith)
      ∙ ap (read_names ((n + 2) + g.steps)) (sym (behind_comma g.front t comma tail))
      ∙ g.leads (n + 2) (t ∷ comma ∷ tail) refl
      ∙ more_steps (λ k. go_on (read_names k (t ∷ comma ∷ tail)) (λ w rest. Some (g.put w, rest))) ((n + 2) + g.behind) (suc (suc (n + g.behind))) (omega arith)
      ∙ ap (λ r. go_on r (λ w rest. Some (g.put w, rest))) (names_step (n + g.behind) f.spot name k.spot tail is)
      ∙ go_on_once (read_names (n + g.behind) tail) (more_names f.spot name k.spot) (λ w rest. Some (g.put w, rest));
  stuck = λ n tail is. ap whole (
      more_steps (λ k. read_names k ((g.front ++ (t ∷ comma ∷ [])) ++ tail)) (n + (2 + g.steps)) ((n + 2) + g.steps) (omega arith)
      ∙ ap (read_names ((n + 2) + g.steps)) (sym (behind_comma g.front t comma tail))
      ∙ g.leads (n + 2) (t ∷ comma ∷ tail) refl
      ∙ more_steps (λ k. go_on (read_names k (t ∷ comma ∷ tail)) (λ w rest. Some (g.put w, rest))) ((n + 2) + g.behind) (suc (suc (n + g.behind))) (omega arith)
      ∙ ap (λ r. go_on r (λ w rest. Some (g.put w, rest))) (names_stop (n + g.behind) f.spot name k.spot tail is));
}

-- the last name was read
last_read : (before after middle : List Token) (list : List (List ℕ)) (place : Pos) (name : List ℕ) → (g : NamesGo before list after) → (f : TakenName after place name middle) → is_sign_next 6 middle ≡ false
    → (n : ℕ) (more : List Token) → is_sign_next 6 more ≡ false → read_names (n + (2 + g.steps)) (names_tokens (g.put (last_name f.spot name)) ++ more) ≡ Some (g.put (last_name f.spot name), more)
last_read before after middle list place name g f other n more no_comma =
    ap (λ ts. read_names (n + (2 + g.steps)) (ts ++ more)) (g.tokens_are (last_name f.spot name))
    ∙ ap (read_names (n + (2 + g.steps))) (append_assoc g.front (word name f.spot) more)
    ∙ more_steps (λ k. read_names k (g.front ++ (word name f.spot ++ more))) (n + (2 + g.steps)) ((n + 2) + g.steps) (omega arith)
    ∙ g.leads (n + 2) (word name f.spot ++ more) refl
    ∙ more_steps (λ k. go_on (read_names k (word name f.spot ++ more)) (λ w rest. Some (g.put w, rest))) ((n + 2) + g.behind) (suc (suc (n + g.behind))) (omega arith)
    ∙ ap (λ r. go_on r (λ w rest. Some (g.put w, rest))) (names_last (n + g.behind) f.spot name more no_comma)

last_before : (before after middle : List Token) (list : List (List ℕ)) (place : Pos) (name : List ℕ) → (g : NamesGo before list after) → (f : TakenName after place name middle) → before ≡ names_tokens (g.put (last_name f.spot name)) ++ middle
last_before before after middle list place name g f =
    g.before_is ∙ ap (λ ts. g.front ++ ts) f.before_is ∙ sym (append_assoc g.front (word name f.spot) middle) ∙ ap (λ ts. ts ++ middle) (sym (g.tokens_are (last_name f.spot name)))

last_names : (before after middle : List Token) (list list_2 : List (List ℕ)) (place : Pos) (name : List ℕ) → (g : NamesGo before list after) → (f : TakenName after place name middle) → list_2 ≡ list ++ name ∷ [] → list_2 ≡ names_list (g.put (last_name f.spot name))
last_names before after middle list list_2 place name g f longer = longer ∙ sym (g.names_are (last_name f.spot name))

-- the names that begin with what was read and this one
put_first : (before after : List Token) (list : List (List ℕ)) (name : List ℕ) (P : Names → Type 0) → (g : NamesGo before list after) → ((w : Names) (others : List (List ℕ)) → names_list w ≡ list ++ name ∷ others → P w)
    → (spot : Spot) (more : List Token) → (n : ℕ) → Only P (read_names (n + (1 + g.steps)) (g.front ++ token (Word name) spot ∷ more))
put_first before after list name P g each spot more n = only_is P _ _
    (more_steps (λ k. read_names k (g.front ++ token (Word name) spot ∷ more)) (n + (1 + g.steps)) ((n + 1) + g.steps) (omega arith)
    ∙ g.leads (n + 1) (token (Word name) spot ∷ more) refl
    ∙ more_steps (λ k. go_on (read_names k (token (Word name) spot ∷ more)) (λ w rest. Some (g.put w, rest))) ((n + 1) + g.behind) (suc (n + g.behind)) (omega arith))
    (only_go_on (BeginsWith name) P (names_after (n + g.behind) spot name more) _ (names_first (n + g.behind) spot name more)
    (λ w rest first. each (g.put w) first.others (g.names_are w ∙ ap (λ xs. list ++ xs) first.is)))

-- ---- names of which none is a parameter

pub record OthersGo (given : List (List ℕ)) (before : List Token) (list : List (List ℕ)) (after : List Token) : Type 0 where
  pub go : NamesGo before list after
  pub none : none_given given list ≡ true

pub others_init : (given : List (List ℕ)) (before : List Token) (list : List (List ℕ)) → list ≡ [] → OthersGo given before list before
others_init given before list empty = record { go = names_init before list empty; none = ap (none_given given) empty }

pub others_next : (given : List (List ℕ)) (before after middle behind : List Token) (list list_2 : List (List ℕ)) (place at : Pos) (name : List ℕ) → OthersGo given before list after → TakenName after place name middle → is_in name given ≡ false
    → list_2 ≡ list ++ name ∷ [] → Taken (Sign 6) middle at behind → OthersGo given before list_2 behind
others_next given before after middle behind list list_2 place at name g f other longer k =
    record { go = names_next before after middle behind list list_2 place at name g.go f longer k; none = ap (none_given given) longer ∙ none_more given list name g.none other }

pub others_found : (given : List (List ℕ)) (before after middle : List Token) (list list_2 : List (List ℕ)) (place : Pos) (name : List ℕ) → OthersGo given before list after → TakenName after place name middle → is_in name given ≡ false
    → list_2 ≡ list ++ name ∷ [] → is_sign_next 6 middle ≡ false → OthersFound given before list_2 middle
others_found given before after middle list list_2 place name g f other longer no_comma = record {
  written = g.go.put (last_name f.spot name);
  before_is = last_before before after middle list place name g.go f;
  names_are = last_names before after middle list list_2 place name g.go f longer;
  none = ap (none_given given) (g.go.names_are (last_name f.spot name)) ∙ none_more given list name g.none other;
  is_read = record {
    steps = 2 + g.go.steps;
    reads = λ n more first. last_read before after middle list place name g.go f no_comma n more (sign_first 6 middle more (first_same more middle first) ∙ no_comma);
  };
}

-- with one more that is none of the parameters
one_more : (given : List (List ℕ)) (before after : List Token) (list : List (List ℕ)) → (g : OthersGo given before list after) → (spot : Spot) (stop : Stop) → IsGiven given stop (g.go.put (last_name spot (fresh given))) → ⊥
one_more given before after list g spot stop is = none_is_given given stop (g.go.put (last_name spot (fresh given)))
    (ap (none_given given) (g.go.names_are (last_name spot (fresh given))) ∙ none_more given list (fresh given) g.none (fresh_is_new given)) is

begins_front : (given : List (List ℕ)) (before after : List Token) (list : List (List ℕ)) → (g : OthersGo given before list after) → (spot : Spot) → BeginsFine all_names (IsGiven given) g.go.front
begins_front given before after list g spot = record {
  some = g.go.put (last_name spot (fresh given));
  fine = λ stop is. one_more given before after list g spot stop is;
  more = word (fresh given) spot;
  tokens_are = g.go.tokens_are (last_name spot (fresh given));
}

only_whole : (P : Names → Type 0) (r : Read Names) → Only P r → Only P (leaving_none (whole r))
only_whole P None only = tt
only_whole P (Some (w, [])) only = only
only_whole P (Some (w, t ∷ ts)) only = tt

pub others_given : (given : List (List ℕ)) (before after middle : List Token) (list : List (List ℕ)) (place : Pos) (name : List ℕ) (left : ℕ) → OthersGo given before list after → TakenName after place name middle → is_in name given ≡ true → left ≡ length middle
    → RefusedAmiss all_names (IsGiven given) before (Here (Unexpected left))
others_given given before after middle list place name left g f there counted = record {
  front = g.go.front;
  shown_by = token (Word name) f.spot;
  behind = middle;
  before_is = g.go.before_is ∙ ap (λ ts. g.go.front ++ ts) f.before_is;
  left_is = counted;
  begins = begins_front given before after list g f.spot;
  not_deep = tt;
  none = λ more. record {
    steps = 1 + g.go.steps;
    only = λ n. only_whole (IsGiven given (Here (Unexpected left))) (read_names (n + (1 + g.go.steps)) (g.go.front ++ token (Word name) f.spot ∷ more))
        (put_first before after list name (IsGiven given (Here (Unexpected left))) g.go (λ w others is. ap (none_given given) is ∙ given_there given list name others there) f.spot more n);
  };
}

name_inside : (given : List (List ℕ)) (before after : List Token) (list : List (List ℕ)) → (g : OthersGo given before list after) → AmissInside all_names (IsGiven given) (fixed_name (fresh given)) NoneAmiss g.go.front after
name_inside given before after list g = record {
  begins = begins_with all_names (IsGiven given) (fixed_name (fresh given)) NoneAmiss g.go.front (λ b. g.go.put (last_name b.0 (fresh given))) (λ b. [])
      (λ stop b is. one_more given before after list g b.0 stop is) (λ b. g.go.tokens_are (last_name b.0 (fresh given)));
  finds = λ stop more first finds. record {
    steps = 1 + g.go.steps;
    only = λ n. by stop n more (finds.only n) (begins_name more) refl;
  };
}
  where
    by : (stop : Stop) (n : ℕ) (more : List Token) → Only (λ b. ⊥) (read_name more) → (b : Bool) → begins_name more ≡ b → Only (IsGiven given stop) (leaving_none (whole (read_names (n + (1 + g.go.steps)) (g.go.front ++ more))))
    by stop n more only true is = only_whole _ (read_names (n + (1 + g.go.steps)) (g.go.front ++ more)) (only_is _ _ _
        (more_steps (λ k. read_names k (g.go.front ++ more)) (n + (1 + g.go.steps)) ((n + 1) + g.go.steps) (omega arith)
        ∙ g.go.leads (n + 1) more is
        ∙ more_steps (λ k. go_on (read_names k more) (λ w rest. Some (g.go.put w, rest))) ((n + 1) + g.go.behind) (suc (n + g.go.behind)) (omega arith))
        (only_go_on _ _ (read_names (suc (n + g.go.behind)) more) _ (only_go_on _ (λ w. ⊥) (read_name more) _ only (λ found rest no. absurd no)) (λ w rest no. absurd no)))
    by stop n more only false is = only_is _ _ None
        (ap leaving_none (more_steps (λ k. whole (read_names k (g.go.front ++ more))) (n + (1 + g.go.steps)) ((n + 1) + g.go.steps) (omega arith) ∙ g.go.stuck (n + 1) more is)) tt

pub others_name : (given : List (List ℕ)) (before after : List Token) (list : List (List ℕ)) (stop : Stop) → OthersGo given before list after → Refused one_name 0 after stop → RefusedAmiss all_names (IsGiven given) before stop
others_name given before after list stop g is = amiss_same all_names (IsGiven given) before _ stop g.go.before_is
    (amiss_inside all_names (IsGiven given) (fixed_name (fresh given)) NoneAmiss g.go.front after stop (name_inside given before after list g)
    (amiss_of_refused (fixed_name (fresh given)) after stop (λ why b deep. not_deep why deep) (fixed_refused (fresh given) after stop is)))

-- ---- a `global` line

global_turn : (spot : Spot) (r : Read Names) → then_read r (λ names rest. global_end spot names rest) ≡ then_read (leaving_none (whole r)) (λ names rest. Some (global_head spot names))
global_turn spot None = refl
global_turn spot (Some (names, [])) = refl
global_turn spot (Some (names, t ∷ ts)) = refl

global_turns : (spot : Spot) (next : List Token) → HeadTurns all_names (token (Keyword 19) spot ∷ []) next (λ n names rest. Some (global_head spot names))
global_turns spot next = record { before = 0; behind = 0; turns = λ n more first. global_turn spot (read_names (n + 0) more) }

given_amiss : (c : Context) (given : List (List ℕ)) (limit : Option Limit) (spot : Spot) (stop : Stop) (names : Names) → IsGiven given stop names → IsAmissHead c given limit stop (global_head spot names)
given_amiss c given limit spot (Here (Unexpected at)) names is = by (word_may c 19) (none_given given (names_list names)) is
  where
    by : (a b : Bool) → b ≡ false → (a && b) ≡ false
    by true b is = is
    by false b is = refl
given_amiss c given limit spot (Here (TooDeep at)) names is = absurd is
given_amiss c given limit spot (Here (TooMany at)) names is = absurd is
given_amiss c given limit spot (Here Memory) names is = absurd is
given_amiss c given limit spot End names is = absurd is

global_begins : (c : Context) (given : List (List ℕ)) (spot : Spot) → word_may c 19 ≡ true → (tokens : List Token) → BeginsFine all_names (IsGiven given) tokens → BeginsOpening c given (token (Keyword 19) spot ∷ tokens)
global_begins c given spot may tokens b =
    let is : head_tokens (global_head spot b.some) ≡ (token (Keyword 19) spot ∷ tokens) ++ b.more = ap (λ ts. token (Keyword 19) spot ∷ ts) b.tokens_are in
    record {
      begun = spelled_head c given (λ at. global_head spot b.some) (token (Keyword 19) spot ∷ tokens) (λ at. b.more) (λ at. both_true _ _ may (none_so given b.some b.fine)) (λ at. is) (λ at other apart. omega arith);
      clear = clear_before (global_head spot b.some) (token (Keyword 19) spot ∷ tokens) b.more refl refl is;
      ahead = λ t. global_stays spot (tokens ++ t ∷ []);
    }

pub global_refused : (given : List (List ℕ)) (before : List Token) (stop : Stop) → RefusedAmiss all_names (IsGiven given) before stop → GlobalRefused given before stop
global_refused given before stop is = record {
  there = λ c limit spot may. amiss_head c given limit all_names (IsGiven given) (token (Keyword 19) spot ∷ []) before (token (Keyword 19) spot ∷ before) stop (λ n names rest. Some (global_head spot names)) refl
      (global_begins c given spot may)
      (passes_word 19 spot [] before refl) (global_turns spot before) (λ why n names left is. given_amiss c given limit spot why names is) is;
}

more_at : (rest : List Token) (stop : Stop) → IsMore rest stop → IsAtFirst rest stop
more_at [] stop is = absurd is
more_at (t ∷ ts) (Here (Unexpected place)) is = is
more_at (t ∷ ts) (Here (TooDeep place)) is = absurd is
more_at (t ∷ ts) (Here (TooMany place)) is = absurd is
more_at (t ∷ ts) (Here Memory) is = absurd is
more_at (t ∷ ts) End is = absurd is

more_there : (rest : List Token) (stop : Stop) → IsMore rest stop → rest ≡ [] → ⊥
more_there [] stop is none = is
more_there (t ∷ ts) stop is none = cc

pub global_more : (given : List (List ℕ)) (before after : List Token) (list : List (List ℕ)) (stop : Stop) → OthersFound given before list after → IsMore after stop → GlobalRefused given before stop
global_more given before after list stop f more = global_refused given before stop
    (amiss_here all_names (IsGiven given) before (names_tokens f.written) after stop f.before_is (more_at after stop more)
    (record { some = f.written; fine = λ why is. none_is_given given why f.written f.none is; more = []; tokens_are = sym (append-nil (names_tokens f.written)) })
    (λ none. absurd (more_there after stop more none))
    (λ t ts rest is. record {
      steps = f.is_read.steps;
      only = λ n. only_is (λ w. ⊥) _ None (ap (λ r. leaving_none (whole r)) (f.is_read.reads n (t ∷ rest) (sym (ap first_token is)))) tt;
    }))

pub global_found : (given : List (List ℕ)) (before after : List Token) (names : Globals) → OthersFound given before names.list.items after → after ≡ [] → GlobalFound given before names
global_found given before after names f is = record {
  written = f.written;
  before_is = f.before_is ∙ ap (λ ts. names_tokens f.written ++ ts) is ∙ append-nil (names_tokens f.written);
  names_are = f.names_are;
  none = f.none;
}

-- ---- parameters

-- where no name follows, what was read so far are all of them
pub record EndsSo (before : List Token) (list : List (List ℕ)) (after : List Token) : Type 0 where
  pub written : Params
  pub before_is : before ≡ params_tokens written ++ after
  pub list_is : list ≡ params_list written
  pub steps : ℕ
  pub reads : (n : ℕ) (more : List Token) → begins_name more ≡ false → read_params (n + steps) (params_tokens written ++ more) ≡ Some (written, more)

pub record DifferentGo (before : List Token) (list : List (List ℕ)) (after : List Token) : Type 0 where
  pub go : NamesGo before list after
  pub ends : EndsSo before list after
  pub different : are_different list ≡ true

pub different_init : (before : List Token) (list : List (List ℕ)) → list ≡ [] → DifferentGo before list before
different_init before list empty = record {
  go = names_init before list empty;
  ends = record {
    written = no_params;
    before_is = refl;
    list_is = empty;
    steps = 0;
    reads = λ n more is. if_false (begins_name more) (go_on (read_names (n + 0) more) params_after) (Some (no_params, more)) is;
  };
  different = ap are_different empty;
}

params_are : (n : ℕ) (ts : List Token) (w : Names) (rest : List Token) → begins_name ts ≡ true → read_names n ts ≡ Some (w, rest) → read_params n ts ≡ params_after w rest
params_are n ts w rest starts is = if_true (begins_name ts) (go_on (read_names n ts) params_after) (Some (no_params, ts)) starts ∙ ap (λ r. go_on r params_after) is

comma_read : (before after middle behind : List Token) (list : List (List ℕ)) (place at : Pos) (name : List ℕ) → (g : NamesGo before list after) → (f : TakenName after place name middle) → (k : Taken (Sign 6) middle at behind)
    → (n : ℕ) (more : List Token) → begins_name more ≡ false
    → read_params (n + (2 + g.steps)) ((names_tokens (g.put (last_name f.spot name)) ++ token (Sign 6) k.spot ∷ []) ++ more) ≡ Some (params_comma (g.put (last_name f.spot name)) k.spot, more)
comma_read before after middle behind list place at name g f k n more none =
    let t : Token = token (Word name) f.spot in
    let comma : Token = token (Sign 6) k.spot in
    let w : Names = g.put (last_name f.spot name) in
    ap (λ ts. read_params (n + (2 + g.steps)) ((ts ++ comma ∷ []) ++ more)) (g.tokens_are (last_name f.spot name))
    ∙ ap (read_params (n + (2 + g.steps))) (ap (λ ts. ts ++ more) (append_assoc g.front (t ∷ []) (comma ∷ [])) ∙ append_assoc g.front (t ∷ comma ∷ []) more)
    ∙ params_are (n + (2 + g.steps)) (g.front ++ (t ∷ comma ∷ more)) w (comma ∷ more) (g.opens (t ∷ comma ∷ more) refl)
    (more_steps (λ k. read_names k (g.front ++ (t ∷ comma ∷ more))) (n + (2 + g.steps)) ((n + 2) + g.steps) (omega arith)
    ∙ g.leads (n + 2) (t ∷ comma ∷ more) refl
    ∙ more_steps (λ k. go_on (read_names k (t ∷ comma ∷ more)) (λ w rest. Some (g.put w, rest))) ((n + 2) + g.behind) (suc (suc (n + g.behind))) (omega arith)
    ∙ ap (λ r. go_on r (λ w rest. Some (g.put w, rest))) (names_stop (n + g.behind) f.spot name k.spot more none))

pub different_next : (before after middle behind : List Token) (list list_2 : List (List ℕ)) (place at : Pos) (name : List ℕ) → DifferentGo before list after → TakenName after place name middle → is_in name list ≡ false
    → list_2 ≡ list ++ name ∷ [] → Taken (Sign 6) middle at behind → DifferentGo before list_2 behind
different_next before after middle behind list list_2 place at name g f other longer k = record {
  go = names_next before after middle behind list list_2 place at name g.go f longer k;
  ends = record {
    written = params_comma (g.go.put (last_name f.spot name)) k.spot;
    before_is = last_before before after middle list place name g.go f ∙ ap (λ ts. names_tokens (g.go.put (last_name f.spot name)) ++ ts) k.before_is ∙ sym (append_assoc (names_tokens (g.go.put (last_name f.spot name))) (token (Sign 6) k.spot ∷ []) behind);
    list_is = last_names before after middle list list_2 place name g.go f longer;
    steps = 2 + g.go.steps;
    reads = λ n more none. comma_read before after middle behind list place at name g.go f k n more none;
  };
  different = ap are_different longer ∙ different_more list name g.different other;
}

name_first : (ts us : List Token) → first_token ts ≡ first_token us → begins_name ts ≡ begins_name us
name_first [] [] is = refl
name_first [] (u ∷ us) is = cc
name_first (t ∷ ts) [] is = cc
name_first (t ∷ ts) (u ∷ us) is = by t u is
  where
    by : (t u : Token) → Some t ≡ Some u → is_word t.kind ≡ is_word u.kind
    by t u is = cc

pub different_end : (before after : List Token) (list : List (List ℕ)) → DifferentGo before list after → begins_name after ≡ false → DifferentFound before list after
different_end before after list g none = record {
  written = g.ends.written;
  before_is = g.ends.before_is;
  names_are = g.ends.list_is;
  different = ap are_different (sym g.ends.list_is) ∙ g.different;
  is_read = record {
    steps = g.ends.steps;
    reads = λ n more first. g.ends.reads n more (name_first more after first ∙ none);
  };
}

after_last : (w : Names) (more : List Token) → is_sign_next 6 more ≡ false → params_after w more ≡ Some (params w, more)
after_last w [] other = refl
after_last w (t ∷ ts) other = if_false (is_sign 6 t.kind) (Some (params_comma w (record { at = t.at; span = t.span }), ts)) (Some (params w, t ∷ ts)) other

pub different_last : (before after middle : List Token) (list list_2 : List (List ℕ)) (place : Pos) (name : List ℕ) → DifferentGo before list after → TakenName after place name middle → is_in name list ≡ false
    → list_2 ≡ list ++ name ∷ [] → is_sign_next 6 middle ≡ false → DifferentFound before list_2 middle
different_last before after middle list list_2 place name g f other longer no_comma = record {
  written = params (g.go.put (last_name f.spot name));
  before_is = last_before before after middle list place name g.go f;
  names_are = last_names before after middle list list_2 place name g.go f longer;
  different = ap are_different (g.go.names_are (last_name f.spot name)) ∙ different_more list name g.different other;
  is_read = record {
    steps = 2 + g.go.steps;
    reads = λ n more first.
        let stops : is_sign_next 6 more ≡ false = sign_first 6 middle more (first_same more middle first) ∙ no_comma in
        params_are (n + (2 + g.go.steps)) (names_tokens (g.go.put (last_name f.spot name)) ++ more) (g.go.put (last_name f.spot name)) more
        (ap (λ ts. begins_name (ts ++ more)) (g.go.tokens_are (last_name f.spot name)) ∙ ap begins_name (append_assoc g.go.front (word name f.spot) more) ∙ g.go.opens (word name f.spot ++ more) refl)
        (last_read before after middle list place name g.go f no_comma n more stops)
        ∙ after_last (g.go.put (last_name f.spot name)) more stops;
  };
}

only_params : (P : Params → Type 0) (r : Read Names) → Only (λ w. P (params w) × ((comma : Spot) → P (params_comma w comma))) r → Only P (go_on r params_after)
only_params P None only = tt
only_params P (Some (w, [])) only = only.0
only_params P (Some (w, t ∷ ts)) only = only_if P (is_sign 6 t.kind) (Some (params_comma w (record { at = t.at; span = t.span }), ts)) (Some (params w, t ∷ ts)) (only.1 _) only.0

pub different_repeated : (before after middle : List Token) (list : List (List ℕ)) (place : Pos) (name : List ℕ) (left : ℕ) → DifferentGo before list after → TakenName after place name middle → is_in name list ≡ true → left ≡ length middle
    → RefusedAmiss params_part IsRepeated before (Here (Unexpected left))
different_repeated before after middle list place name left g f there counted = record {
  front = g.go.front;
  shown_by = token (Word name) f.spot;
  behind = middle;
  before_is = g.go.before_is ∙ ap (λ ts. g.go.front ++ ts) f.before_is;
  left_is = counted;
  begins = record {
    some = params (g.go.put (last_name f.spot (fresh list)));
    fine = λ stop is. none_repeated stop (params (g.go.put (last_name f.spot (fresh list))))
        (ap are_different (g.go.names_are (last_name f.spot (fresh list))) ∙ different_more list (fresh list) g.different (fresh_is_new list)) is;
    more = word (fresh list) f.spot;
    tokens_are = g.go.tokens_are (last_name f.spot (fresh list));
  };
  not_deep = tt;
  none = λ more. record {
    steps = 1 + g.go.steps;
    only = λ n. only_is (IsRepeated (Here (Unexpected left))) _ _
        (if_true (begins_name (g.go.front ++ token (Word name) f.spot ∷ more)) (go_on (read_names (n + (1 + g.go.steps)) (g.go.front ++ token (Word name) f.spot ∷ more)) params_after) (Some (no_params, g.go.front ++ token (Word name) f.spot ∷ more))
        (g.go.opens (token (Word name) f.spot ∷ more) refl))
        (only_params (IsRepeated (Here (Unexpected left))) (read_names (n + (1 + g.go.steps)) (g.go.front ++ token (Word name) f.spot ∷ more))
        (put_first before after list name (λ w. (are_different (names_list w) ≡ false) × ((comma : Spot) → are_different (names_list w) ≡ false)) g.go
        (λ w others is. let no : are_different (names_list w) ≡ false = ap are_different is ∙ repeated list name others there in (no, λ comma. no)) f.spot more n));
  };
}

-- a name that stands there is refused for lack of memory alone
none_reads : (ts : List Token) → begins_name ts ≡ true → Finds (λ (b : Spot × List ℕ). ⊥) one_name.read ts → ⊥
none_reads [] starts finds = cc
none_reads (t ∷ ts) starts finds = by t.at t.span t.kind ts starts (finds.only 0)
  where
    by : (at : Pos) (span : Span) (kind : TokenKind) (ts : List Token) → is_word kind ≡ true → Only (λ (b : Spot × List ℕ). ⊥) (read_name (record { at = at; span = span; kind = kind } ∷ ts)) → ⊥
    by at span (Word bytes) ts starts only = only
    by at span (Keyword n) ts starts only = cc
    by at span (Number n) ts starts only = cc
    by at span (Text bytes) ts starts only = cc
    by at span (Sign n) ts starts only = cc

name_memory : (ts : List Token) (stop : Stop) → begins_name ts ≡ true → Refused one_name 0 ts stop → IsMemory stop
name_memory ts (Here Memory) starts is = refl
name_memory ts (Here (Unexpected at)) starts is = absurd (none_reads ts starts (finds_same _ one_name.read _ _ is.before_is (is.none is.behind)))
name_memory ts (Here (TooDeep at)) starts is = absurd (none_reads ts starts (finds_weaker _ _ one_name.read _ (λ b deep. not_deep (Here (TooDeep at)) deep) (finds_same _ one_name.read _ _ is.before_is (is.none is.behind))))
name_memory ts (Here (TooMany at)) starts is = absurd is.left_is
name_memory ts End starts is = absurd (none_reads ts starts is.1)

pub different_name : (before after : List Token) (stop : Stop) → begins_name after ≡ true → Refused one_name 0 after stop → RefusedAmiss params_part IsRepeated before stop
different_name before after stop starts is = subst (λ (stop : Stop). RefusedAmiss params_part IsRepeated before stop) (sym (name_memory after stop starts is)) tt

-- ---- `__x__`

pub special_is : (text name : List ℕ) (opens closes : Bool) → text ≡ name → 4 < length text → opens ≡ true → opens ≡ starts_with eqb text (codes "__") → closes ≡ ends_with eqb text (codes "__") → closes ≡ is_special name
special_is text name opens closes same long open_there one two =
    two ∙ same_both (codes "__") (drop (length text - 2) text)
    ∙ ap (λ (t : Bool). (t && true) && bytes_eq (drop (length text - 2) text) (codes "__")) (sym (long_enough (length text) long))
    ∙ ap (λ (t : Bool). (nat_lt 4 (length text) && t) && bytes_eq (drop (length text - 2) text) (codes "__")) (sym open_there ∙ one ∙ same_both (codes "__") (take 2 text))
    ∙ ap is_special same
  where
    long_enough : (n : ℕ) → 4 < n → nat_lt 4 n ≡ true
    long_enough n above = by (nat_lt 4 n) refl
      where
        by : (b : Bool) → nat_lt 4 n ≡ b → b ≡ true
        by true is = refl
        by false is = absurd (let low = leb-false 5 n is in omega (arith, above, low))
