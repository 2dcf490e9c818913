-- Parameters in their brackets: what is read of them, and how they are refused.
use Rattle.std.proofs.Common.{◌≡◌, ℕ, ◌+◌, true, List, [], ◌∷◌, ◌++◌, Some, refl, ap, sym, ◌∙◌, append_assoc}
use Rattle.prov_base.specs.declared.place.Pos.{Pos}
use Rattle.py_lines.specs.declared.parts.Token.{Token}
use Rattle.py_lines.specs.declared.parts.TokenKind.TheVariants.{Sign}
use Rattle.py_expressions.specs.declared.fault.Stop.{Stop}
use Rattle.py_expressions.specs.Concrete.{Spot}
use Rattle.py_expressions.specs.Tokens.{token}
use Rattle.py_grammar.specs.Written.{Params, no_params}
use Rattle.py_grammar.specs.StatementTokens.{params_tokens}
use Rattle.py_grammar.specs.StatementTrees.{params_list}
use Rattle.py_grammar.specs.WellPlaced.{are_different}
use Rattle.py_expressions.specs.Reader.{go_on, read_sign}
use Rattle.py_grammar.specs.LineReader.{read_params}
use Rattle.py_expressions.specs.Parsed.{Refused, Taken, one_sign}
use Rattle.py_expressions.specs.ParsedRows.{first_token, IsRead}
use Rattle.py_grammar.specs.ParsedHead.{params_part}
use Rattle.py_grammar.specs.ParsedNames.{RefusedAmiss, IsRepeated, DifferentFound, bracket_part, ParamsFound, IsRepeatedIn}
use Rattle.py_expressions.proofs.Refusals.{only_any, only_go_on, only_is}
use Rattle.py_expressions.proofs.ClosedParts.{not_deep}
use Rattle.py_expressions.proofs.Stops.{some_spot}
use Rattle.py_grammar.proofs.FreshNames.{none_repeated}
use Rattle.py_grammar.proofs.AmissParts.{NoneAmiss, AmissInside, amiss_inside, amiss_of_refused, amiss_same, begins_with}

-- ---- the opening bracket

opening_inside : (rest : List Token) → AmissInside bracket_part IsRepeatedIn (one_sign 0) NoneAmiss [] rest
opening_inside rest = record {
  begins = begins_with bracket_part IsRepeatedIn (one_sign 0) NoneAmiss [] (λ b. (b, no_params, some_spot)) (λ b. token (Sign 1) some_spot ∷ []) (λ stop b is. none_repeated stop no_params refl is) (λ b. refl);
  finds = λ stop more first finds. record { steps = finds.steps; only = λ n. only_go_on _ _ (read_sign 0 more) _ (finds.only n) (λ found rest no. absurd no) };
}

pub opening_refused : (before : List Token) (stop : Stop) → Refused (one_sign 0) 0 before stop → RefusedAmiss bracket_part IsRepeatedIn before stop
opening_refused before stop is =
    amiss_inside bracket_part IsRepeatedIn (one_sign 0) NoneAmiss [] before stop (opening_inside before) (amiss_of_refused (one_sign 0) before stop (λ why b deep. not_deep why deep) is)

-- ---- the names

names_inside : (opening : Spot) (rest : List Token) → AmissInside bracket_part IsRepeatedIn params_part IsRepeated (token (Sign 0) opening ∷ []) rest
names_inside opening rest = record {
  begins = begins_with bracket_part IsRepeatedIn params_part IsRepeated (token (Sign 0) opening ∷ []) (λ names. (opening, names, some_spot)) (λ names. token (Sign 1) some_spot ∷ []) (λ stop names is. is) (λ names. refl);
  finds = λ stop more first finds. record {
    steps = finds.steps;
    only = λ n. only_go_on (IsRepeated stop) (IsRepeatedIn stop) (read_params (n + finds.steps) more) _ (finds.only n) (λ names rest is. only_any (IsRepeatedIn stop) (read_sign 1 rest) _ (λ closing left. is));
  };
}

pub names_refused : (at : Pos) (before behind : List Token) (stop : Stop) → Taken (Sign 0) before at behind → RefusedAmiss params_part IsRepeated behind stop → RefusedAmiss bracket_part IsRepeatedIn before stop
names_refused at before behind stop k is = amiss_same bracket_part IsRepeatedIn before _ stop k.before_is (amiss_inside bracket_part IsRepeatedIn params_part IsRepeated (token (Sign 0) k.spot ∷ []) behind stop (names_inside k.spot behind) is)

-- ---- what is no closing bracket

front_is : (at : Pos) (before behind after : List Token) (list : List (List ℕ)) → (k : Taken (Sign 0) before at behind) → (f : DifferentFound behind list after) → before ≡ (token (Sign 0) k.spot ∷ params_tokens f.written) ++ after
front_is at before behind after list k f = k.before_is ∙ ap (λ ts. token (Sign 0) k.spot ∷ ts) f.before_is

closing_inside : (opening : Spot) (names : Params) (rest : List Token) → are_different (params_list names) ≡ true → IsRead params_part names rest → AmissInside bracket_part IsRepeatedIn (one_sign 1) NoneAmiss (token (Sign 0) opening ∷ params_tokens names) rest
closing_inside opening names rest different is = record {
  begins = begins_with bracket_part IsRepeatedIn (one_sign 1) NoneAmiss (token (Sign 0) opening ∷ params_tokens names) (λ b. (opening, names, b)) (λ b. []) (λ stop b is. none_repeated stop names different is) (λ b. refl);
  finds = λ stop more first finds. record {
    steps = is.steps;
    only = λ n. only_is _ _ _
        (ap (λ r. go_on r (λ names more_2. go_on (read_sign 1 more_2) (λ closing rest. Some ((opening, names, closing), rest)))) (is.reads n more first))
        (only_go_on _ _ (read_sign 1 more) _ (finds.only n) (λ found rest no. absurd no));
  };
}

pub closing_refused : (at : Pos) (before behind after : List Token) (list : List (List ℕ)) (stop : Stop) → Taken (Sign 0) before at behind → DifferentFound behind list after → Refused (one_sign 1) 0 after stop → RefusedAmiss bracket_part IsRepeatedIn before stop
closing_refused at before behind after list stop k f is = amiss_same bracket_part IsRepeatedIn before _ stop (front_is at before behind after list k f)
    (amiss_inside bracket_part IsRepeatedIn (one_sign 1) NoneAmiss (token (Sign 0) k.spot ∷ params_tokens f.written) after stop (closing_inside k.spot f.written after f.different f.is_read)
    (amiss_of_refused (one_sign 1) after stop (λ why b deep. not_deep why deep) is))

-- ---- all is read

pub params_found : (at last : Pos) (before behind middle after : List Token) (list : List (List ℕ)) → Taken (Sign 0) before at behind → DifferentFound behind list middle → Taken (Sign 1) middle last after → ParamsFound before list after
params_found at last before behind middle after list k f c = record {
  written = (k.spot, f.written, c.spot);
  before_is = front_is at before behind middle list k f ∙ ap (λ ts. token (Sign 0) k.spot ∷ (params_tokens f.written ++ ts)) c.before_is ∙ ap (λ ts. token (Sign 0) k.spot ∷ ts) (sym (append_assoc (params_tokens f.written) (token (Sign 1) c.spot ∷ []) after));
  names_are = f.names_are;
  different = f.different;
  is_read = record {
    steps = f.is_read.steps;
    reads = λ n more first.
        ap (λ ts. go_on (read_params (n + f.is_read.steps) ts) (λ names more_2. go_on (read_sign 1 more_2) (λ closing rest. Some ((k.spot, names, closing), rest)))) (append_assoc (params_tokens f.written) (token (Sign 1) c.spot ∷ []) more)
        ∙ ap (λ r. go_on r (λ names more_2. go_on (read_sign 1 more_2) (λ closing rest. Some ((k.spot, names, closing), rest)))) (f.is_read.reads n (token (Sign 1) c.spot ∷ more) (sym (ap first_token c.before_is)));
  };
}
