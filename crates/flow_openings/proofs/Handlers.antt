-- What the handler with a number does.
use Rattle.std.proofs.Common.{◌≡◌, Bor, ℕ, zero, suc, ◌+◌, arith, List, [], ◌∷◌, map, slice_get, Option, Some, None, refl, ap, sym, ◌∙◌}
use Rattle.std.specs.Option.{option_map}
use Rattle.prov_base.specs.declared.place.Pos.{Pos}
use Rattle.py_tree.specs.declared.expr.Expr.{Expr}
use Rattle.py_tree.specs.declared.stmt.Bound.{Bound}
use Rattle.py_tree.specs.declared.stmt.Suite.{Suite}
use Rattle.py_tree.specs.Erasure.{suite_of, handlers_list}
use Rattle.py_tree.specs.Tree.{ExprTree, FormTree, SuiteTree, HandlersTree, ScriptTree, end_handlers, more_handlers}
use Rattle.py_value.specs.Contents.{object}
use Rattle.py_model.specs.Act.{Act, ret, to, threw}
use Rattle.py_model.specs.Expressions.{Here, Task, doing, op, eval}
use Rattle.py_model.specs.Statements.{suite, handle, clause, matching, binding, unbinding, handling}
use Rattle.flow_frames.specs.Machine.{Handler, first_handler, handlers_from, handlers_in, handler_in, handles, runs_act, handled_act, handled_end, clause_act, missed_act, match_act}
use Rattle.flow_openings.specs.Handlers.{handler_seen}

abbrev pub handlers_seen : List (Option Expr × Option Bound × Suite) → HandlersTree
handlers_seen hs = handlers_list (map (λ h. (h.0, h.1, suite_of h.2)) hs)

pub seen_so : (h : Option (Bor (Option Expr × Option Bound × Suite))) → option_map (λ h. handler_seen h.now) h ≡ option_map handler_seen (option_map (λ h. h.now) h)
seen_so None = refl
seen_so (Some h) = refl

-- a handler by its number
pub handler_is : (hs : List (Option Expr × Option Bound × Suite)) (n : ℕ) → option_map handler_seen (slice_get hs n) ≡ first_handler (handlers_from n (handlers_seen hs))
handler_is [] zero = refl
handler_is [] (suc n) = refl
handler_is (h ∷ hs) zero = refl
handler_is (h ∷ hs) (suc n) = handler_is hs n

-- the handlers behind one
from_more : (n : ℕ) (hs : HandlersTree) (kind : Option ExprTree) (bound : Option Bound) (run : SuiteTree) (rest : HandlersTree) → handlers_from n hs ≡ more_handlers kind bound run rest
    → handlers_from (suc n) hs ≡ rest
from_more zero end_handlers kind bound run rest is = absurd cc
from_more zero (more_handlers k b r others) kind bound run rest is = cc
from_more (suc n) end_handlers kind bound run rest is = absurd cc
from_more (suc n) (more_handlers k b r others) kind bound run rest is = from_more n others kind bound run rest is

module _ (script : ScriptTree) (next : Task → Act) (here : Here) (at : Pos) (form : FormTree) (n o line : ℕ) where
  runs_handler : (h : Handler) → handler_in form n ≡ Some h
      → runs_act script next here at form (handles n o) ≡ to (suite script next (handling o here) h.run) (λ how. unbinding here h.bound (ret how))
  runs_handler h is = ap (λ x. to (handled_act script next (handling o here) x) (handled_end script next here x)) is

  clause_same : (h : Handler) → handler_in form n ≡ Some h
      → clause_act script next here at form n o (handler_in form n) ≡ clause script next here h.bound o (suite script next (handling o here) h.run)
  clause_same h is = ap (clause_act script next here at form n o) is ∙ ap (binding here h.bound (object o)) (runs_handler h is)

  abbrev pub by_kind : Option ExprTree → Act
  by_kind None = clause_act script next here at form n o (handler_in form n)
  by_kind (Some kind) = eval script next here kind (λ v. doing here at (op 41) (object o ∷ v ∷ []) (match_act script next here at form n o line))

  abbrev pub handle_by : Option Handler → Act
  handle_by None = ret (threw o line)
  handle_by (Some h) = by_kind h.kind

  handles_at : (hs : HandlersTree) → handlers_from n (handlers_in form) ≡ hs → handle script next here at hs o line ≡ handle_by (first_handler hs)
  handles_at end_handlers is = refl
  handles_at (more_handlers None bound run rest) is = sym (clause_same (record { kind = None; bound = bound; run = run }) (ap first_handler is))
  handles_at (more_handlers (Some kind) bound run rest) is =
      ap (λ hit. matching script next here at kind o hit (handle script next here at rest o line)) (sym (clause_same (record { kind = Some kind; bound = bound; run = run }) (ap first_handler is)))
      ∙ ap (λ hs. matching script next here at kind o (clause_act script next here at form n o (handler_in form n)) (handle script next here at hs o line)) (sym (from_more n (handlers_in form) (Some kind) bound run rest is))

  handles_so : handle script next here at (handlers_from n (handlers_in form)) o line ≡ handle_by (handler_in form n)
  handles_so = handles_at (handlers_from n (handlers_in form)) refl

  pub handled_none : None ≡ handler_in form n → ret (threw o line) ≡ handle script next here at (handlers_from n (handlers_in form)) o line
  handled_none is = ap handle_by is ∙ sym handles_so

  pub handled_some : (h : Handler) (a : Act) → Some h ≡ handler_in form n → a ≡ by_kind h.kind → a ≡ handle script next here at (handlers_from n (handlers_in form)) o line
  handled_some h a is means = means ∙ ap handle_by is ∙ sym handles_so

  pub missed_so : (after : ℕ) → after ≡ n + 1 → handle script next here at (handlers_from after (handlers_in form)) o line ≡ missed_act script next here at form n o line
  missed_so after is =
      let behind : after ≡ suc n = omega (arith, is) in
      ap (λ m. handle script next here at (handlers_from m (handlers_in form)) o line) behind
