-- What the parser answers of the tokens of a simple statement.
use Rattle.std.specs.Prelude.{◌≡◌, ⊤, ◌⊎◌, ℕ, ◌<◌, ◌≤◌, Bool, true, false, ◌||◌, ◌==◌, List, [], ◌∷◌, ◌++◌, length, Option, Some, None, option_map, option_and_then, is_some}
use Rattle.prov_base.specs.declared.place.Pos.{Pos}
use Rattle.py_lines.specs.declared.parts.Token.{Token}
use Rattle.py_lines.specs.declared.parts.TokenKind.{TokenKind}
use Rattle.py_lines.specs.declared.parts.TokenKind.TheVariants.{Keyword, Sign}
use Rattle.py_tree.specs.declared.expr.BinOp.{BinOp}
use Rattle.py_tree.specs.declared.stmt.Form.{Form}
use Rattle.py_tree.specs.Tree.{ExprTree, ExprsTree, TargetTree, TargetsTree, var_expr, attr_expr, part_expr, tuple_expr, end_exprs, more_exprs, var_target, part_target, field_target, many_target, end_targets, more_targets}
use Rattle.py_tree.specs.Erasure.{expr_of, form_of}
use Rattle.py_grammar.specs.declared.around.Around.{Around as Standing}
use Rattle.py_expressions.specs.declared.fault.Fault.{Fault}
use Rattle.py_expressions.specs.declared.fault.Fault.TheVariants.{Unexpected, TooDeep, Memory}
use Rattle.py_expressions.specs.declared.fault.Stop.{Stop}
use Rattle.py_expressions.specs.declared.fault.Stop.TheVariants.{Here, End}
use Rattle.py_expressions.specs.declared.part.Part.{Part}
use Rattle.py_expressions.specs.Concrete.{Spot, Expr, Exprs}
use Rattle.py_expressions.specs.Trees.{exprs_tree}
use Rattle.py_grammar.specs.Written.{AugSign, Simple}
use Rattle.py_expressions.specs.Tokens.{token, sign, expr_tokens}
use Rattle.py_grammar.specs.StatementTokens.{aug_sign, simple_tokens}
use Rattle.py_grammar.specs.StatementTrees.{aug_op, simple_form}
use Rattle.py_grammar.specs.StatementDepth.{simple_depth}
use Rattle.py_expressions.specs.Lies.{expr_lies, IsApart}
use Rattle.py_grammar.specs.StatementLies.{simple_lies, simple_deepest}
use Rattle.py_grammar.specs.WellPlaced.{Around, form_stands}
use Rattle.py_expressions.specs.Reader.{Read}
use Rattle.py_grammar.specs.StatementReader.{aug_sign_of, read_simple}
use Rattle.py_expressions.specs.Targets.{exprs_target}
use Rattle.py_expressions.specs.Parsed.{ShowsAt, IsDeep, Production, Finds, Taken, FoundRow}

-- where the code is, in the words of the grammar
abbrev pub around_of : Standing → Around
around_of a = record { at_module_level = a.at_module_level; in_class = a.in_class; in_function = a.in_function; in_loop = a.in_loop; in_handler = a.in_handler }

-- a reader of all tokens, as one that leaves none
abbrev pub leaving_none : {A : Type 0} → Option A → Read A
leaving_none None = None
leaving_none (Some value) = Some (value, [])

abbrev pub simple_part : Production Simple
simple_part = record { tokens = simple_tokens; depth = simple_depth; lies = simple_lies; deepest = simple_deepest; form = λ _. false; read = λ n ts. leaving_none (read_simple n ts) }

-- ---- what is read

-- a simple statement that all the tokens are, and that stands there
pub record SimpleFound (around : Around) (before : List Token) (form : Form) : Type 0 where
  pub written : Simple
  pub before_is : before ≡ simple_tokens written
  pub tree_is : form_of form ≡ simple_form written
  pub fits : simple_depth written ≤ 100
  pub stands : form_stands around (simple_form written) ≡ true

-- ---- what is refused

-- What is read all the same where reading stopped: with TooDeep what has an expression that begins at the place that it names
-- and lies too deep, else what does not stand there.
abbrev pub IsAmiss : Around → Stop → Simple → Type 0
IsAmiss around (Here (TooDeep at)) s = 100 < simple_lies s at
IsAmiss around (Here (Unexpected left)) s = form_stands around (simple_form s) ≡ false
IsAmiss around End s = form_stands around (simple_form s) ≡ false
IsAmiss around stop s = ⊥

-- `del` and the first tokens of an expression, which is read before it is asked whether it is a target. What begins before the rest lies
-- at most 100 deep: whatever place is chosen for the tokens that are put behind, expressions that begin elsewhere lie so.
pub record CompletesDel (front : List Token) (at : Pos) : Type 0 where
  pub spot : Spot
  pub some : Expr
  pub more : List Token
  pub tokens_are : token (Keyword 12) spot ∷ expr_tokens some ≡ front ++ more
  pub within : (other : Pos) → (other ≡ at → ⊥) → expr_lies some other ≤ 100

abbrev pub BeginsDel : List Token → Type 0
BeginsDel front = (at : Pos) → CompletesDel front at

-- Some such part that passes this test has these first tokens, and what begins before the rest lies at most 100 deep: whatever
-- place is chosen for the tokens that are put behind, expressions that begin elsewhere lie so.
pub record CompletesSome {A : Type 0} (p : Production A) (is : A → Bool) (front : List Token) (at : Pos) : Type 0 where
  pub some : A
  pub is_so : is some ≡ true
  pub more : List Token
  pub tokens_are : p.tokens some ≡ front ++ more
  pub within : (other : Pos) → (other ≡ at → ⊥) → p.lies some other ≤ 100

abbrev pub BeginsSome : {A : Type 0} → Production A → (A → Bool) → List Token → Type 0
BeginsSome p is front = (at : Pos) → CompletesSome p is front at

-- Some such part that passes this test has these first tokens, and of the expressions in it that lie deeper than 100 the first
-- begins at this place. A token of these stands there, and what begins at none of these from that one on lies at most 100 deep.
pub record FirstDeepSome {A : Type 0} (p : Production A) (is : A → Bool) (front : List Token) (place : Pos) : Type 0 where
  pub some : A
  pub is_so : is some ≡ true
  pub more : List Token
  pub tokens_are : p.tokens some ≡ front ++ more
  pub ahead : List Token
  pub named : Token
  pub between : List Token
  pub front_is : front ≡ ahead ++ named ∷ between
  pub named_is : named.at ≡ place
  pub deep : 100 < p.lies some place
  pub within : (other : Pos) → IsApart other (named ∷ between) → p.lies some other ≤ 100

-- the same of `del` and an expression
pub record FirstDeepDel (front : List Token) (place : Pos) : Type 0 where
  pub spot : Spot
  pub some : Expr
  pub more : List Token
  pub tokens_are : token (Keyword 12) spot ∷ expr_tokens some ≡ front ++ more
  pub ahead : List Token
  pub named : Token
  pub between : List Token
  pub front_is : front ≡ ahead ++ named ∷ between
  pub named_is : named.at ≡ place
  pub deep : 100 < expr_lies some place
  pub within : (other : Pos) → IsApart other (named ∷ between) → expr_lies some other ≤ 100

-- with TooDeep, what goes on with the token that shows it is such that the first that lies too deep begins at the place
abbrev pub NamesDeep : (deep : List Token → Pos → Type 0) → List Token → Token → Fault → Type 0
NamesDeep deep front t (TooDeep place) = deep (front ++ t ∷ []) place
NamesDeep deep front t fault = ⊤

-- A statement begins so, or what is read of one behind `del`, where nothing that has begun lies too deep.
abbrev pub BeginsSimple : (Simple → Bool) → List Token → Type 0
BeginsSimple is front = BeginsSome simple_part is front ⊎ BeginsDel front

-- the same, where the first that lies too deep begins at this place
abbrev pub DeepSimple : (Simple → Bool) → List Token → Pos → Type 0
DeepSimple is front place = FirstDeepSome simple_part is front place ⊎ FirstDeepDel front place

-- its form may stand there
abbrev pub has_place : Around → Simple → Bool
has_place around s = form_stands around (simple_form s)

-- behind the `del` that a statement begins with no expression goes on with this token, but one that lies too deep
pub record UnreadDel (front : List Token) (t : Token) (fault : Fault) : Type 0 where
  pub there : (spot : Spot) (inside : List Token) → front ≡ token (Keyword 12) spot ∷ inside → (e : Expr) (more : List Token) → expr_tokens e ≡ inside ++ t ∷ more → IsDeep (Here fault) 100 (expr_lies e)

-- The tokens before this one begin a simple statement that may stand there, in which nothing lies too deep yet, and those up
-- to and with it begin none: with TooDeep, one in which the first that lies too deep begins at the place.
pub record SimpleShown (around : Around) (before : List Token) (fault : Fault) : Type 0 where
  pub front : List Token
  pub shown_by : Token
  pub behind : List Token
  pub before_is : before ≡ front ++ shown_by ∷ behind
  pub left_is : ShowsAt behind fault
  pub begins : BeginsSimple (has_place around) front
  pub goes_on : NamesDeep (DeepSimple (has_place around)) front shown_by fault
  pub unread : UnreadDel front shown_by fault
  pub none : (more : List Token) → Finds (IsAmiss around (Here fault)) simple_part.read (front ++ shown_by ∷ more)

-- The tokens begin a simple statement that may stand there, in which nothing lies too deep yet, and are none.
pub record SimpleEnds (around : Around) (before : List Token) (stop : Stop) : Type 0 where
  pub begins : BeginsSimple (has_place around) before
  pub none : Finds (IsAmiss around stop) simple_part.read before

-- no simple statement was read
abbrev pub SimpleRefused : Around → List Token → Stop → Type 0
SimpleRefused around before (Here Memory) = ⊤
SimpleRefused around before (Here fault) = SimpleShown around before fault
SimpleRefused around before End = SimpleEnds around before End

-- behind this keyword
abbrev pub FoundBehind : ℕ → Around → List Token → Form → Type 0
FoundBehind word around before form = (spot : Spot) → SimpleFound around (token (Keyword word) spot ∷ before) form

pub record RefusedBehind (word : ℕ) (around : Around) (before : List Token) (stop : Stop) : Type 0 where
  pub there : (spot : Spot) → SimpleRefused around (token (Keyword word) spot ∷ before) stop

-- wherever it stands
abbrev pub FoundAnywhere : List Token → Form → Type 0
FoundAnywhere before form = (around : Around) → SimpleFound around before form

pub record RefusedAnywhere (before : List Token) (stop : Stop) : Type 0 where
  pub there : (around : Around) → SimpleRefused around before stop

-- behind this keyword, wherever it stands
abbrev pub FoundBehindAny : ℕ → List Token → Form → Type 0
FoundBehindAny word before form = (around : Around) (spot : Spot) → SimpleFound around (token (Keyword word) spot ∷ before) form

pub record RefusedBehindAny (word : ℕ) (before : List Token) (stop : Stop) : Type 0 where
  pub there : (around : Around) (spot : Spot) → SimpleRefused around (token (Keyword word) spot ∷ before) stop

-- a keyword of a simple statement: `assert`, `break`, `continue`, `del`, `import`, `pass`, `raise`, `return`
abbrev pub is_word : ℕ → Bool
is_word n = (n == 5) || (n == 8) || (n == 10) || (n == 12) || (n == 21) || (n == 28) || (n == 29) || (n == 30)

abbrev pub is_word_kind : TokenKind → Bool
is_word_kind (Keyword n) = is_word n
is_word_kind kind = false

abbrev pub begins_word : List Token → Bool
begins_word [] = false
begins_word (t ∷ ts) = is_word_kind t.kind

-- something stands there, and this refuses it
abbrev pub IsMore : List Token → Stop → Type 0
IsMore [] stop = ⊥
IsMore (t ∷ ts) (Here (Unexpected left)) = left ≡ length ts
IsMore (t ∷ ts) stop = ⊥

-- ---- behind expressions

abbrev pub aug_sign_next : List Token → Option AugSign
aug_sign_next [] = None
aug_sign_next (t ∷ ts) = aug_sign_of t.kind

-- the operator of an augmented assignment was taken
pub record TakenAug (before : List Token) (at : Pos) (op : BinOp) (after : List Token) : Type 0 where
  pub which : AugSign
  pub spot : Spot
  pub before_is : before ≡ sign (aug_sign which) spot ++ after
  pub at_is : spot.at ≡ at
  pub op_is : op ≡ aug_op which

-- expressions in a row were read as this
pub record IsRow (part : Part) : Type 0 where
  pub written : Exprs
  pub tree_is : expr_of part.expr.value ≡ exprs_tree written
  pub form_is : part.is_target ≡ is_some (exprs_target written)

-- behind these expressions and `=`
abbrev pub FoundAfter : Part → List Token → Form → Type 0
FoundAfter first behind form = (around : Around) (at : Pos) (before middle : List Token) → FoundRow 100 before first middle → Taken (Sign 9) middle at behind → SimpleFound around before form

pub record RefusedAfter (first : Part) (behind : List Token) (stop : Stop) : Type 0 where
  pub there : (around : Around) (at : Pos) (before middle : List Token) → FoundRow 100 before first middle → Taken (Sign 9) middle at behind → SimpleRefused around before stop

-- behind these expressions and the operator of an augmented assignment
abbrev pub FoundAfterOp : Part → Pos → BinOp → List Token → Form → Type 0
FoundAfterOp first at op behind form = (around : Around) (before middle : List Token) → FoundRow 100 before first middle → TakenAug middle at op behind → SimpleFound around before form

pub record RefusedAfterOp (first : Part) (at : Pos) (op : BinOp) (behind : List Token) (stop : Stop) : Type 0 where
  pub there : (around : Around) (before middle : List Token) → FoundRow 100 before first middle → TakenAug middle at op behind → SimpleRefused around before stop

-- ---- targets

abbrev pub is_tuple_tree : ExprTree → Bool
is_tuple_tree (tuple_expr at items) = true
is_tuple_tree e = false

-- the target that has the form of this expression
abbrev pub target_form : ExprTree → Option TargetTree
target_form (var_expr at name) = Some (var_target at name)
target_form (part_expr at e index) = Some (part_target at e index)
target_form (attr_expr at e name) = Some (field_target at e name)
target_form _ = None

abbrev pub targets_form : ExprsTree → Option TargetsTree
targets_form end_exprs = Some end_targets
targets_form (more_exprs e rest) = option_and_then (λ t. option_map (more_targets t) (targets_form rest)) (target_form e)

-- the same, where a tuple is several targets
abbrev pub all_target_form : ExprTree → Option TargetTree
all_target_form (tuple_expr at items) = option_map many_target (targets_form items)
all_target_form e = target_form e
