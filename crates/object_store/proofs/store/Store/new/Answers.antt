use Rattle.std.proofs.Common.{◌≡◌, ◌∷◌, [], codes, map, length, ap, sym, subst, ◌∙◌, arith, Some}
use Rattle.py_value.specs.declared.value.Value.TheVariants.{Text}
use Rattle.py_value.specs.declared.access.Location.TheVariants.{Var, Len}
use Rattle.object_store.specs.declared.cell.Cell.TheVariants.{Var as VarCell, Len as LenCell}
use Rattle.object_store.specs.Object.{ObjectView, item_in}
use Rattle.object_store.specs.Store.{AreOwn}
use Rattle.object_store.proofs.Writing.{own_none, own_first}
use Rattle.object_store.specs.Opening.{AreWords}
use Rattle.object_store.specs.contracts.store.Store.{the_view}
use Rattle.object_store.proofs.Beginning.{gains_then, words_stay, opened, adds_more, front_longer, front_behind}
use Rattle.object_store.proofs.store.Store.new.Goals as goal

pub invariant_of-result : goal.invariant_of-result
invariant_of-result c = (
  record {
    items = λ i. ap (λ items. item_in items i) c.new-3.ensures.items;
    keys_none = c.new-3.ensures.keys;
  },
  subst AreOwn (sym c.in_ok-opening_cells.ensures)
      (own_first (Len 0) (LenCell c.len-len.result) ((Var 0 c.in_ok-name.name, VarCell (Some (Text c.in_ok-name.main))) ∷ []) tt
      (own_first (Var 0 c.in_ok-name.name) (VarCell (Some (Text c.in_ok-name.main))) [] tt own_none)),
)

pub returns-clause-opening : goal.returns-clause-opening
returns-clause-opening c =
    let len : c.len-len.result ≡ length c.list.result.items = omega (arith, c.len-len.ensures, c.in_ok-items.items.ok.0, ap length c.list.ensures.items) in
    let cells = c.in_ok-opening_cells.ensures ∙ ap (λ n. (Len 0, LenCell n) ∷ (Var 0 c.in_ok-name.name, VarCell (Some (Text c.in_ok-name.main))) ∷ []) len in
    let words = words_stay c.words.new.values c.own_name.new.values c.own_name.ensures.gains.keeps c.in_ok-items.items.items (c.args.path.now ∷ c.args.arguments.now) c.in_ok-items.ensures.words in
    record {
      items = c.list.result.items;
      name = c.in_ok-name.name;
      main = c.in_ok-name.main;
      items_are = subst (λ items. AreWords c.own_name.new.values items (c.args.path.now ∷ c.args.arguments.now)) (sym c.list.ensures.items) words;
      name_is = c.in_ok-name.ensures.name;
      main_is = c.in_ok-name.ensures.main;
      held = opened (the_view (record { objects = c.in_ok-one_object.field-0; cells = c.in_ok-opening_cells.field-0; files = c.new.result; names = c.new-2.result; next_object = c.new-3.result }))
          c.list.result c.in_ok-name.name c.in_ok-name.main c.in_ok-one_object.ensures c.list.ensures.keys cells c.new.ensures.empty;
      kinds_are = ap (map (λ (ob : ObjectView). ob.kind)) c.in_ok-one_object.ensures ∙ ap (λ k. k ∷ []) c.list.ensures.kind;
      names_none = c.new-2.ensures.empty;
    }

pub returns-clause-gains : goal.returns-clause-gains
returns-clause-gains c = gains_then c.args.values.now c.words.new.values c.own_name.new.values c.words.ensures.gains c.own_name.ensures.gains

pub returns-in_err-items-clause-front : goal.returns-in_err-items-clause-front
returns-in_err-items-clause-front c = front_longer c.args.values.now.texts c.words.new.values.texts (c.args.path.now ∷ c.args.arguments.now) (codes "__name__" ∷ codes "__main__" ∷ []) c.words.ensures.front

pub returns-in_err-name-clause-front : goal.returns-in_err-name-clause-front
returns-in_err-name-clause-front c = front_behind c.args.values.now.texts c.words.new.values.texts c.own_name.new.values.texts (c.args.path.now ∷ c.args.arguments.now) (codes "__name__" ∷ codes "__main__" ∷ [])
    c.in_ok-items.ensures.texts c.own_name.ensures.front

pub returns-in_err-one_object-clause-gains : goal.returns-in_err-one_object-clause-gains
returns-in_err-one_object-clause-gains c = gains_then c.args.values.now c.words.new.values c.own_name.new.values c.words.ensures.gains c.own_name.ensures.gains

pub returns-in_err-one_object-clause-front : goal.returns-in_err-one_object-clause-front
returns-in_err-one_object-clause-front c = front_behind c.args.values.now.texts c.words.new.values.texts c.own_name.new.values.texts (c.args.path.now ∷ c.args.arguments.now) (codes "__name__" ∷ codes "__main__" ∷ [])
    c.in_ok-items.ensures.texts c.own_name.ensures.front

pub returns-in_err-opening_cells-clause-gains : goal.returns-in_err-opening_cells-clause-gains
returns-in_err-opening_cells-clause-gains c = gains_then c.args.values.now c.words.new.values c.own_name.new.values c.words.ensures.gains c.own_name.ensures.gains

pub returns-in_err-opening_cells-clause-front : goal.returns-in_err-opening_cells-clause-front
returns-in_err-opening_cells-clause-front c = front_behind c.args.values.now.texts c.words.new.values.texts c.own_name.new.values.texts (c.args.path.now ∷ c.args.arguments.now) (codes "__name__" ∷ codes "__main__" ∷ [])
    c.in_ok-items.ensures.texts c.own_name.ensures.front

pub returns-clause-texts : goal.returns-clause-texts
returns-clause-texts c = adds_more c.args.values.now.texts c.words.new.values.texts c.own_name.new.values.texts (c.args.path.now ∷ c.args.arguments.now) (codes "__name__" ∷ codes "__main__" ∷ [])
    c.in_ok-items.ensures.texts c.in_ok-name.ensures.texts

pub returns-clause-front : goal.returns-clause-front
returns-clause-front c = front_behind c.args.values.now.texts c.words.new.values.texts c.own_name.new.values.texts (c.args.path.now ∷ c.args.arguments.now) (codes "__name__" ∷ codes "__main__" ∷ [])
    c.in_ok-items.ensures.texts c.own_name.ensures.front
