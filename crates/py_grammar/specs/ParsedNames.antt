-- No public clause cites this file.
-- What the parser answers of names in a row, parameters and targets on a line. No public clause speaks of it.
use Rattle.std.specs.Prelude.{◌≡◌, ⊤, ◌⊎◌, ℕ, ◌<◌, ◌≤◌, max, true, false, List, [], ◌∷◌, ◌++◌, map, Some}
use Rattle.py_lines.specs.declared.parts.Token.{Token}
use Rattle.py_lines.specs.declared.parts.TokenKind.TheVariants.{Keyword, Sign}
use Rattle.py_tree.specs.Tree.{ExprTree, TargetTree}
use Rattle.py_tree.specs.Erasure.{expr_of, exprs_list}
use Rattle.py_expressions.specs.declared.part.Part.{Part}
use Rattle.py_expressions.specs.declared.rows.Row.{Row}
use Rattle.py_expressions.specs.declared.fault.Fault.{Fault}
use Rattle.py_expressions.specs.declared.fault.Fault.TheVariants.{Unexpected, TooDeep, TooMany, Memory}
use Rattle.py_expressions.specs.declared.fault.Stop.{Stop}
use Rattle.py_expressions.specs.declared.fault.Stop.TheVariants.{Here, End}
use Rattle.py_expressions.specs.Concrete.{Spot, Sum}
use Rattle.py_expressions.specs.Tokens.{token, sum_tokens}
use Rattle.py_expressions.specs.Targets.{OneTarget, TargetRest}
use Rattle.py_grammar.specs.Written.{Names, Params}
use Rattle.py_grammar.specs.StatementTokens.{one_target_tokens, target_rest_tokens, target_tokens, names_tokens, params_tokens}
use Rattle.py_grammar.specs.StatementTrees.{one_target_tree, target_rest_tree, target_tree, names_list, params_list}
use Rattle.py_expressions.specs.Reader.{Read, go_on, next_level, read_sign}
use Rattle.py_expressions.specs.Trees.{sum_tree}
use Rattle.py_grammar.specs.StatementDepth.{one_target_depth, target_rest_depth}
use Rattle.py_expressions.specs.Lies.{nowhere}
use Rattle.py_grammar.specs.StatementLies.{target_rest_lies, one_target_deepest, target_rest_deepest}
use Rattle.py_grammar.specs.StatementReader.{whole}
use Rattle.py_grammar.specs.LineReader.{read_target_rest, read_names, read_params}
use Rattle.py_grammar.specs.WellPlaced.{are_different, none_given}
use Rattle.py_expressions.specs.Parsed.{Production, ShowsAt, IsAtFirst, IsDeep, Finds, Refused, Found, sum_part}
use Rattle.py_expressions.specs.ParsedRows.{first_token, IsRead}
use Rattle.py_grammar.specs.ParsedSimple.{leaving_none, target_form, targets_form}
use Rattle.py_grammar.specs.ParsedHead.{Took, target_part, names_part, params_part, passed_tokens, BeginsTargets, FirstDeepTargets, UnreadTargets, LineRefused}

-- ---- refused, where something may be read all the same

-- these are the first tokens of some such part, of which nothing is amiss
pub record BeginsFine {A : Type 0} (p : Production A) (amiss : Stop → A → Type 0) (front : List Token) : Type 0 where
  pub some : A
  pub fine : (stop : Stop) → amiss stop some → ⊥
  pub more : List Token
  pub tokens_are : p.tokens some ≡ front ++ more

-- nothing in it lies too deep
abbrev pub IsNotDeep : Fault → Type 0
IsNotDeep (TooDeep place) = ⊥
IsNotDeep fault = ⊤

-- The tokens before this one begin such a part, and of those up to and with it only what is amiss is read.
pub record ShownAmiss {A : Type 0} (p : Production A) (amiss : Stop → A → Type 0) (before : List Token) (fault : Fault) : Type 0 where
  pub front : List Token
  pub shown_by : Token
  pub behind : List Token
  pub before_is : before ≡ front ++ shown_by ∷ behind
  pub left_is : ShowsAt behind fault
  pub begins : BeginsFine p amiss front
  pub not_deep : IsNotDeep fault
  pub none : (more : List Token) → Finds (amiss (Here fault)) p.read (front ++ shown_by ∷ more)

abbrev pub RefusedAmiss : {A : Type 0} → Production A → (Stop → A → Type 0) → List Token → Stop → Type 0
RefusedAmiss p amiss before (Here Memory) = ⊤
RefusedAmiss p amiss before (Here fault) = ShownAmiss p amiss before fault
RefusedAmiss p amiss before End = BeginsFine p amiss before × Finds (amiss End) p.read before

-- ---- names in a row

-- names, which are all tokens
abbrev pub all_names : Production Names
all_names = record { tokens = names_tokens; depth = λ _. 0; lies = λ _ at. 0; deepest = λ _. nowhere; form = λ _. false; read = λ n ts. leaving_none (whole (read_names n ts)) }

-- with Unexpected, one of them is a parameter
abbrev pub IsGiven : List (List ℕ) → Stop → Names → Type 0
IsGiven given (Here (Unexpected at)) names = none_given given (names_list names) ≡ false
IsGiven given stop names = ⊥

-- names of which none is a parameter
pub record OthersFound (given : List (List ℕ)) (before : List Token) (names : List (List ℕ)) (after : List Token) : Type 0 where
  pub written : Names
  pub before_is : before ≡ names_tokens written ++ after
  pub names_are : names ≡ names_list written
  pub none : none_given given (names_list written) ≡ true
  pub is_read : IsRead names_part written after

-- ---- parameters

-- with Unexpected, two of them have one name
abbrev pub IsRepeated : Stop → Params → Type 0
IsRepeated (Here (Unexpected at)) names = are_different (params_list names) ≡ false
IsRepeated stop names = ⊥

-- names that are all different
pub record DifferentFound (before : List Token) (names : List (List ℕ)) (after : List Token) : Type 0 where
  pub written : Params
  pub before_is : before ≡ params_tokens written ++ after
  pub names_are : names ≡ params_list written
  pub different : are_different (params_list written) ≡ true
  pub is_read : IsRead params_part written after

-- the same in brackets
abbrev pub BracketNames : Type 0
BracketNames = Spot × Params × Spot

abbrev pub bracket_tokens : BracketNames → List Token
bracket_tokens w = token (Sign 0) w.0 ∷ (params_tokens w.1 ++ token (Sign 1) w.2 ∷ [])

abbrev pub read_bracket : ℕ → List Token → Read BracketNames
read_bracket n ts = go_on (read_sign 0 ts) (λ opening more. go_on (read_params n more) (λ names more_2. go_on (read_sign 1 more_2) (λ closing rest. Some ((opening, names, closing), rest))))

abbrev pub bracket_part : Production BracketNames
bracket_part = record { tokens = bracket_tokens; depth = λ _. 0; lies = λ _ at. 0; deepest = λ _. nowhere; form = λ _. false; read = read_bracket }

pub record ParamsFound (before : List Token) (names : List (List ℕ)) (after : List Token) : Type 0 where
  pub written : BracketNames
  pub before_is : before ≡ bracket_tokens written ++ after
  pub names_are : names ≡ params_list written.1
  pub different : are_different (params_list written.1) ≡ true
  pub is_read : IsRead bracket_part written after

abbrev pub IsRepeatedIn : Stop → BracketNames → Type 0
IsRepeatedIn stop w = IsRepeated stop w.1

-- ---- the target of a `for`, behind which its `in` stands

abbrev pub target_rest_part : Production TargetRest
target_rest_part = record { tokens = target_rest_tokens; depth = target_rest_depth; lies = target_rest_lies; deepest = target_rest_deepest; form = λ _. false; read = read_target_rest }

-- such a part with the `in` behind it, and what follows
pub record Followed (A : Type 0) : Type 0 where
  pub part : A
  pub in_word : Spot
  pub behind : List Token

abbrev pub followed_tokens : {A : Type 0} → Production A → Followed A → List Token
followed_tokens p w = p.tokens w.part ++ token (Keyword 22) w.in_word ∷ w.behind

-- With TooDeep, targets go on with the token that shows it, as far as they are read as sums, and the first that lies too deep begins
-- at the place.
abbrev pub GoesOnTargets : ℕ → List Token → Token → Fault → Type 0
GoesOnTargets room front t (TooDeep at) = FirstDeepTargets room (front ++ t ∷ []) at
GoesOnTargets room front t (TooMany at) = ⊥
GoesOnTargets room front t fault = ⊤

-- of targets, what stands ahead of the token that shows it
abbrev pub IsAheadOfTargets : ℕ → List Token → Token → Fault → Type 0
IsAheadOfTargets room front t fault = GoesOnTargets room front t fault × UnreadTargets room front t fault

-- no such part is written there with an `in` behind it that there is room for
abbrev pub TargetsRefused : {A : Type 0} → Production A → ℕ → List Token → Stop → Type 0
TargetsRefused p room before stop = LineRefused (BeginsTargets room) (IsAheadOfTargets room) (followed_tokens p) (λ why w. IsDeep why room (p.lies w.part)) before stop

-- a target was read
pub record ItemFound (room : ℕ) (before : List Token) (part : Part) (after : List Token) : Type 0 where
  pub target : OneTarget
  pub before_is : before ≡ one_target_tokens target ++ after
  pub tree_is : target_form (expr_of part.expr.value) ≡ Some (one_target_tree target)
  pub height_is : part.height ≡ one_target_depth target
  pub deepest_is : part.deepest ≡ one_target_deepest target
  pub fits : part.height ≤ room
  pub beyond : 3 < next_level after

-- a sum was read that is no target
pub record WrongItem (room : ℕ) (before : List Token) (stop : Stop) : Type 0 where
  pub part : Part
  pub after : List Token
  pub stop_is : IsAtFirst after stop
  pub found : Found sum_part sum_tree 3 room before part after
  pub form : part.is_target ≡ false

pub record ItemRefused (room : ℕ) (before : List Token) (stop : Stop) : Type 0 where
  pub why : Refused sum_part room before stop ⊎ WrongItem room before stop

-- with the token that stands here no targets and sum go on that have all these tokens
pub record TargetsEnd (tokens after : List Token) : Type 0 where
  pub none : (t : Token) (more : List Token) → first_token (t ∷ more) ≡ first_token after → (passed : List (OneTarget × Spot)) (s : Sum) → passed_tokens passed ++ sum_tokens s ≡ tokens ++ t ∷ more → ⊥

-- the whole target was read
pub record TargetFound (before : List Token) (tree : TargetTree) (after : List Token) : Type 0 where
  pub took : Took target_part target_tree before tree after
  pub ends : TargetsEnd (target_tokens took.written) after

-- what stands behind a comma was added to a row of targets
pub record FoundTargets (room : ℕ) (before : List Token) (old row : Row) (after : List Token) : Type 0 where
  pub written : TargetRest
  pub before_is : before ≡ target_rest_tokens written ++ after
  pub trees : List ExprTree
  pub row_is : map expr_of row.list.items ≡ map expr_of old.list.items ++ trees
  pub trees_are : targets_form (exprs_list trees) ≡ Some (target_rest_tree written)
  pub height_is : row.height ≡ max old.height (target_rest_depth written)
  pub fits : row.height ≤ room
  pub is_read : IsRead target_rest_part written after
  pub ends : TargetsEnd (target_rest_tokens written) after
