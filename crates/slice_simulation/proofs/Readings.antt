-- What a plan reads and asks corresponds, where all locations that it reads do. So does the kind of each object that it asks for: the plan
-- asks the same in the other store whatever numbers the objects of the script's run alone have, so it is none of these.
use Rattle.std.proofs.Common.{◌≡◌, ℕ, Bool, true, List, [], ◌∷◌, length, slice_get, Option, Some, None, option_map, refl, ap, subst, ◌∙◌}
use Rattle.std.specs.Prelude.{⊤}
use Rattle.prov_base.specs.declared.place.Pos.{Pos}
use Rattle.py_value.specs.Contents.{Contents, nothing}
use Rattle.py_value.specs.KeyOf.{normal}
use Rattle.py_value.specs.Seen.{SeenLocation, SeenContent, SeenAccess, SeenKind, an_instance, var_at, len_at, item_at, entry_at, order_at, file_at, offset_at, closed_at, method_at, base_at, var_is, len_is, item_is, entry_is, order_is, file_is, offset_is, closed_is, method_is, base_is, reads}
use Rattle.py_model.specs.Agreement.{Alike, both_read_var, both_read_len, both_read_item, both_read_entry, both_read_order, both_read_file, both_read_offset, both_read_closed, both_read_method, both_read_base, both_kind, both_name, both_was_opened, both_ask, both_fetch, both_look, both_count, both_print, both_writes, both_make, both_raise, both_again, both_end, both_run_away, CorrespondsAt, NextCorresponds, WritesAgree, Agrees}
use Rattle.py_model.specs.Effect.{Answers, effect, written, accesses_in, lacking, touching, asked, fetched}
use Rattle.py_model.specs.Plan.{Writes, write, change, move, opens, notes, done, done_at_end, Plan, read_var, read_len, read_item, read_entry, read_order, read_file, read_offset, read_closed, read_method, read_base, kind_of, name_of, was_opened, looks, counts, prints, Given, Found, ask, fetch}
use Rattle.py_model.specs.Renaming.{Renaming, renamed, renamed_option, renamed_list, renamed_entry, renamed_content, renamed_kind}
use Rattle.py_model.specs.Store.{RunStore, empty, var_of, len_of, item_of, entry_of, order_of, file_of, offset_of, closed_of, method_of, base_of, has_path}
use Rattle.slice_simulation.proofs.Ranks.{agreed_is_marked}
use Rattle.slice_simulation.proofs.Renamings.{normal_renamed}
use Rattle.slice_simulation.specs.Renaming.{is_marked, Fits, IsShifted, Marks}

-- what is read at corresponding locations
abbrev pub holding : Option SeenContent → RunStore
holding content = record empty { at = λ l. content }

module _ (r : Renaming) (store other : RunStore) where
  pub var_read : (scope : ℕ) (name : List ℕ) → CorrespondsAt r store other (var_at scope name) → var_of other (r.scopes scope) name ≡ renamed_option r (var_of store scope name)
  var_read scope name is = ap (λ c. var_of (holding c) 0 []) is ∙ each (store.at (var_at scope name))
    where
      each : (c : Option SeenContent) → var_of (holding (option_map (renamed_content r) c)) 0 [] ≡ renamed_option r (var_of (holding c) 0 [])
      each None = refl
      each (Some (var_is v)) = refl
      each (Some else_is) = refl

  pub len_read : (o : ℕ) → CorrespondsAt r store other (len_at o) → len_of other (r.objects o) ≡ len_of store o
  len_read o is = ap (λ c. len_of (holding c) 0) is ∙ each (store.at (len_at o))
    where
      each : (c : Option SeenContent) → len_of (holding (option_map (renamed_content r) c)) 0 ≡ len_of (holding c) 0
      each None = refl
      each (Some (len_is n)) = refl
      each (Some else_is) = refl

  pub item_read : (o i : ℕ) → CorrespondsAt r store other (item_at o i) → item_of other (r.objects o) i ≡ renamed_option r (item_of store o i)
  item_read o i is = ap (λ c. item_of (holding c) 0 0) is ∙ each (store.at (item_at o i))
    where
      each : (c : Option SeenContent) → item_of (holding (option_map (renamed_content r) c)) 0 0 ≡ renamed_option r (item_of (holding c) 0 0)
      each None = refl
      each (Some (item_is v)) = refl
      each (Some else_is) = refl

  pub entry_read : (o : ℕ) (key : Contents) → CorrespondsAt r store other (entry_at o (normal key)) → entry_of other (r.objects o) (renamed r key) ≡ renamed_entry r (entry_of store o key)
  entry_read o key is =
      ap (λ k. entry_of (holding (other.at (entry_at (r.objects o) k))) 0 nothing) (normal_renamed r key)
      ∙ (ap (λ c. entry_of (holding c) 0 nothing) is ∙ each (store.at (entry_at o (normal key))))
    where
      each : (c : Option SeenContent) → entry_of (holding (option_map (renamed_content r) c)) 0 nothing ≡ renamed_entry r (entry_of (holding c) 0 nothing)
      each None = refl
      each (Some (entry_is v)) = refl
      each (Some else_is) = refl

  pub order_read : (o : ℕ) → CorrespondsAt r store other (order_at o) → order_of other (r.objects o) ≡ renamed_list r (order_of store o)
  order_read o is = ap (λ c. order_of (holding c) 0) is ∙ each (store.at (order_at o))
    where
      each : (c : Option SeenContent) → order_of (holding (option_map (renamed_content r) c)) 0 ≡ renamed_list r (order_of (holding c) 0)
      each None = refl
      each (Some (order_is n)) = refl
      each (Some else_is) = refl

  pub file_read : (path : List ℕ) → CorrespondsAt r store other (file_at path) → file_of other path ≡ file_of store path
  file_read path is = ap (λ c. file_of (holding c) []) is ∙ each (store.at (file_at path))
    where
      each : (c : Option SeenContent) → file_of (holding (option_map (renamed_content r) c)) [] ≡ file_of (holding c) []
      each None = refl
      each (Some (file_is n)) = refl
      each (Some else_is) = refl

  pub offset_read : (o : ℕ) → CorrespondsAt r store other (offset_at o) → offset_of other (r.objects o) ≡ offset_of store o
  offset_read o is = ap (λ c. offset_of (holding c) 0) is ∙ each (store.at (offset_at o))
    where
      each : (c : Option SeenContent) → offset_of (holding (option_map (renamed_content r) c)) 0 ≡ offset_of (holding c) 0
      each None = refl
      each (Some (offset_is n)) = refl
      each (Some else_is) = refl

  pub closed_read : (o : ℕ) → CorrespondsAt r store other (closed_at o) → closed_of other (r.objects o) ≡ closed_of store o
  closed_read o is = ap (λ c. closed_of (holding c) 0) is ∙ each (store.at (closed_at o))
    where
      each : (c : Option SeenContent) → closed_of (holding (option_map (renamed_content r) c)) 0 ≡ closed_of (holding c) 0
      each None = refl
      each (Some (closed_is n)) = refl
      each (Some else_is) = refl

  pub method_read : (place : Pos) (name : List ℕ) → CorrespondsAt r store other (method_at place name) → method_of other place name ≡ method_of store place name
  method_read place name is = ap (λ c. method_of (holding c) place []) is ∙ each (store.at (method_at place name))
    where
      each : (c : Option SeenContent) → method_of (holding (option_map (renamed_content r) c)) place [] ≡ method_of (holding c) place []
      each None = refl
      each (Some (method_is n)) = refl
      each (Some else_is) = refl

  pub base_read : (place : Pos) → CorrespondsAt r store other (base_at place) → base_of other place ≡ renamed_option r (base_of store place)
  base_read place is = ap (λ c. base_of (holding c) place) is ∙ each (store.at (base_at place))
    where
      each : (c : Option SeenContent) → base_of (holding (option_map (renamed_content r) c)) place ≡ renamed_option r (base_of (holding c) place)
      each None = refl
      each (Some (base_is n)) = refl
      each (Some else_is) = refl

-- What the other of two alike plans is, by the form of the one.
abbrev pub After : Renaming → Plan → Plan → Type 0
After r (read_var scope name go) q = (gone : Option Contents → Plan) × (_ : q ≡ read_var (r.scopes scope) name gone) × ((v : Option Contents) → Alike r (go v) (gone (renamed_option r v)))
After r (read_len o go) q = (gone : ℕ → Plan) × (_ : q ≡ read_len (r.objects o) gone) × ((v : ℕ) → Alike r (go v) (gone v))
After r (read_item o i go) q = (gone : Option Contents → Plan) × (_ : q ≡ read_item (r.objects o) i gone) × ((v : Option Contents) → Alike r (go v) (gone (renamed_option r v)))
After r (read_entry o key go) q = (gone : Option (Contents × Contents) → Plan) × (_ : q ≡ read_entry (r.objects o) (renamed r key) gone) × ((v : Option (Contents × Contents)) → Alike r (go v) (gone (renamed_entry r v)))
After r (read_order o go) q = (gone : List Contents → Plan) × (_ : q ≡ read_order (r.objects o) gone) × ((v : List Contents) → Alike r (go v) (gone (renamed_list r v)))
After r (read_file path go) q = (gone : Option (List ℕ) → Plan) × (_ : q ≡ read_file path gone) × ((v : Option (List ℕ)) → Alike r (go v) (gone v))
After r (read_offset o go) q = (gone : ℕ → Plan) × (_ : q ≡ read_offset (r.objects o) gone) × ((v : ℕ) → Alike r (go v) (gone v))
After r (read_closed o go) q = (gone : Bool → Plan) × (_ : q ≡ read_closed (r.objects o) gone) × ((v : Bool) → Alike r (go v) (gone v))
After r (read_method place name go) q = (gone : Option Pos → Plan) × (_ : q ≡ read_method place name gone) × ((v : Option Pos) → Alike r (go v) (gone v))
After r (read_base place go) q = (gone : Option Contents → Plan) × (_ : q ≡ read_base place gone) × ((v : Option Contents) → Alike r (go v) (gone (renamed_option r v)))
After r (kind_of o go) q = (gone : Option SeenKind → Plan) × (_ : q ≡ kind_of (r.objects o) gone) × ((v : Option SeenKind) → Alike r (go v) (gone (option_map (renamed_kind r) v)))
After r (name_of place go) q = (gone : Option (List ℕ) → Plan) × (_ : q ≡ name_of place gone) × ((v : Option (List ℕ)) → Alike r (go v) (gone v))
After r (was_opened path go) q = (gone : Bool → Plan) × (_ : q ≡ was_opened path gone) × ((v : Bool) → Alike r (go v) (gone v))
After r (ask what go) q = (gone : Given → Plan) × (_ : q ≡ ask what gone) × ((v : Given) → Alike r (go v) (gone v))
After r (fetch path go) q = (gone : Found → Plan) × (_ : q ≡ fetch path gone) × ((v : Found) → Alike r (go v) (gone v))
After r (looks n rest) q = (m : ℕ) × (more : Plan) × (_ : q ≡ looks m more) × Alike r rest more
After r (counts n rest) q = (m : ℕ) × (more : Plan) × (_ : q ≡ counts m more) × Alike r rest more
After r (prints bytes rest) q = (more : Plan) × (_ : q ≡ prints bytes more) × Alike r rest more
After r p q = ⊤

pub after : (r : Renaming) (p q : Plan) → Alike r p q → After r p q
after r _ _ (both_read_var each) = (_, refl, each)
after r _ _ (both_read_len each) = (_, refl, each)
after r _ _ (both_read_item each) = (_, refl, each)
after r _ _ (both_read_entry each) = (_, refl, each)
after r _ _ (both_read_order each) = (_, refl, each)
after r _ _ (both_read_file each) = (_, refl, each)
after r _ _ (both_read_offset each) = (_, refl, each)
after r _ _ (both_read_closed each) = (_, refl, each)
after r _ _ (both_read_method each) = (_, refl, each)
after r _ _ (both_read_base each) = (_, refl, each)
after r _ _ (both_kind each) = (_, refl, each)
after r _ _ (both_name each) = (_, refl, each)
after r _ _ (both_was_opened each) = (_, refl, each)
after r _ _ (both_ask each) = (_, refl, each)
after r _ _ (both_fetch each) = (_, refl, each)
after r _ _ (both_look is both) = (_, _, refl, both)
after r _ _ (both_count is both) = (_, _, refl, both)
after r _ _ (both_print both) = (_, refl, both)
after r _ _ (both_writes both) = tt
after r _ _ (both_make is both) = tt
after r _ _ (both_raise is more) = tt
after r _ _ both_again = tt
after r _ _ both_end = tt
after r _ _ both_run_away = tt

-- the two go on with one plan
joined : {A X : Type 0} (f : A → X) {a b : A} {v w : X} (gone anew : X → Plan) → a ≡ b → gone ≡ anew → f a ≡ v → f b ≡ w → anew w ≡ gone v
joined f gone anew same is one another = cc

pair_same : {A B : Type 0} {a c : A} {b d : B} → a ≡ c → b ≡ d → ◌≡◌ {A = A × B} (a, b) (c, d)
pair_same one another = cc

module _ (store other : RunStore) (marks : Marks) where
  -- the location has corresponding contents, under all renamings that fit
  abbrev pub IsKnown : SeenLocation → Type 0
  IsKnown l = (r : Renaming) → Fits marks r → CorrespondsAt r store other l

  abbrev pub AreRead : List SeenAccess → Type 0
  AreRead [] = ⊤
  AreRead (reads l ∷ accesses) = IsKnown l × AreRead accesses
  AreRead (access ∷ accesses) = AreRead accesses

  module _ (r : Renaming) (fits : Fits marks r) where
    writes_agree : (made : Option SeenKind) (all : Writes) → AreRead (accesses_in (written store made all).touches) → WritesAgree r store other all
    writes_agree made (write l content rest) known = writes_agree made rest known
    writes_agree made (change l how rest) known = writes_agree made rest known
    writes_agree made (move o from onto rest) known = (known.0 r fits, writes_agree made rest known.1)
    writes_agree made (opens path rest) known = writes_agree made rest known
    writes_agree made (notes place name rest) known = writes_agree made rest known
    writes_agree made (done answer) known = tt
    writes_agree made done_at_end known = tt

  made_is : (made : Option SeenKind) (all : Writes) → (written store made all).made ≡ made
  made_is made (write l content rest) = made_is made rest
  made_is made (change l how rest) = made_is made rest
  made_is made (move o from onto rest) = made_is made rest
  made_is made (opens path rest) = made_is made rest
  made_is made (notes place name rest) = made_is made rest
  made_is made (done answer) = refl
  made_is made done_at_end = refl

  module _
      (near : IsShifted marks 0) (far : IsShifted marks 1)
      (kinds_agree : (o : ℕ) → is_marked marks.objects o ≡ true → (r : Renaming) → Fits marks r
      → slice_get other.kinds (r.objects o) ≡ option_map (renamed_kind r) (slice_get store.kinds o))
      (names_agree : (place : Pos) → other.names place ≡ store.names place)
      (opened_agree : (path : List ℕ) → has_path path other.opened ≡ has_path path store.opened)
      (answers : Answers) (r : Renaming) (fits : Fits marks r)
    where
      pub agrees : (p q : Plan) → Alike near.by p q → Alike far.by p q → AreRead (accesses_in (effect store answers p).touches)
          → ((kind : SeenKind) → (effect store answers p).made ≡ Some kind → NextCorresponds r store other) → Agrees r store other answers answers p
      agrees _ _ (both_read_var {scope} {name} {go} {gone} each) distant known next =
          let v = var_of store scope name in
          let others_are = after far.by _ _ distant in (
            known.0 r fits,
            agrees (go v) (gone (renamed_option near.by (var_of store scope name))) (each v)
                (subst (Alike far.by (go v)) (joined (λ scope. var_of other scope name) gone others_are.0 (cc (others_are.1)) (cc (others_are.1)) (var_read near.by store other scope name (known.0 near.by near.fits)) (var_read far.by store other scope name (known.0 far.by far.fits))) (others_are.2 v))
                known.1 next,
          )
      agrees _ _ (both_read_len {o} {go} {gone} each) distant known next =
          let v = len_of store o in
          let others_are = after far.by _ _ distant in (
            known.0 r fits,
            agrees (go v) (gone (len_of store o)) (each v)
                (subst (Alike far.by (go v)) (joined (λ o. len_of other o) gone others_are.0 (cc (others_are.1)) (cc (others_are.1)) (len_read near.by store other o (known.0 near.by near.fits)) (len_read far.by store other o (known.0 far.by far.fits))) (others_are.2 v))
                known.1 next,
          )
      agrees _ _ (both_read_item {o} {i} {go} {gone} each) distant known next =
          let v = item_of store o i in
          let others_are = after far.by _ _ distant in (
            known.0 r fits,
            agrees (go v) (gone (renamed_option near.by (item_of store o i))) (each v)
                (subst (Alike far.by (go v)) (joined (λ o. item_of other o i) gone others_are.0 (cc (others_are.1)) (cc (others_are.1)) (item_read near.by store other o i (known.0 near.by near.fits)) (item_read far.by store other o i (known.0 far.by far.fits))) (others_are.2 v))
                known.1 next,
          )
      agrees _ _ (both_read_entry {o} {key} {go} {gone} each) distant known next =
          let v = entry_of store o key in
          let others_are = after far.by _ _ distant in (
            known.0 r fits,
            agrees (go v) (gone (renamed_entry near.by (entry_of store o key))) (each v)
                (subst (Alike far.by (go v)) (joined (λ (x : ℕ × Contents). entry_of other x.0 x.1) gone others_are.0 (pair_same (cc (others_are.1)) (cc (others_are.1))) (cc (others_are.1)) (entry_read near.by store other o key (known.0 near.by near.fits)) (entry_read far.by store other o key (known.0 far.by far.fits))) (others_are.2 v))
                known.1 next,
          )
      agrees _ _ (both_read_order {o} {go} {gone} each) distant known next =
          let v = order_of store o in
          let others_are = after far.by _ _ distant in (
            known.0 r fits,
            agrees (go v) (gone (renamed_list near.by (order_of store o))) (each v)
                (subst (Alike far.by (go v)) (joined (λ o. order_of other o) gone others_are.0 (cc (others_are.1)) (cc (others_are.1)) (order_read near.by store other o (known.0 near.by near.fits)) (order_read far.by store other o (known.0 far.by far.fits))) (others_are.2 v))
                known.1 next,
          )
      agrees _ _ (both_read_file {path} {go} {gone} each) distant known next =
          let v = file_of store path in
          let others_are = after far.by _ _ distant in (
            known.0 r fits,
            agrees (go v) (gone (file_of store path)) (each v)
                (subst (Alike far.by (go v)) (joined (λ path. file_of other path) gone others_are.0 refl (cc (others_are.1)) (file_read near.by store other path (known.0 near.by near.fits)) (file_read far.by store other path (known.0 far.by far.fits))) (others_are.2 v))
                known.1 next,
          )
      agrees _ _ (both_read_offset {o} {go} {gone} each) distant known next =
          let v = offset_of store o in
          let others_are = after far.by _ _ distant in (
            known.0 r fits,
            agrees (go v) (gone (offset_of store o)) (each v)
                (subst (Alike far.by (go v)) (joined (λ o. offset_of other o) gone others_are.0 (cc (others_are.1)) (cc (others_are.1)) (offset_read near.by store other o (known.0 near.by near.fits)) (offset_read far.by store other o (known.0 far.by far.fits))) (others_are.2 v))
                known.1 next,
          )
      agrees _ _ (both_read_closed {o} {go} {gone} each) distant known next =
          let v = closed_of store o in
          let others_are = after far.by _ _ distant in (
            known.0 r fits,
            agrees (go v) (gone (closed_of store o)) (each v)
                (subst (Alike far.by (go v)) (joined (λ o. closed_of other o) gone others_are.0 (cc (others_are.1)) (cc (others_are.1)) (closed_read near.by store other o (known.0 near.by near.fits)) (closed_read far.by store other o (known.0 far.by far.fits))) (others_are.2 v))
                known.1 next,
          )
      agrees _ _ (both_read_method {place} {name} {go} {gone} each) distant known next =
          let v = method_of store place name in
          let others_are = after far.by _ _ distant in (
            known.0 r fits,
            agrees (go v) (gone (method_of store place name)) (each v)
                (subst (Alike far.by (go v)) (joined (λ place. method_of other place name) gone others_are.0 refl (cc (others_are.1)) (method_read near.by store other place name (known.0 near.by near.fits)) (method_read far.by store other place name (known.0 far.by far.fits))) (others_are.2 v))
                known.1 next,
          )
      agrees _ _ (both_read_base {place} {go} {gone} each) distant known next =
          let v = base_of store place in
          let others_are = after far.by _ _ distant in (
            known.0 r fits,
            agrees (go v) (gone (renamed_option near.by (base_of store place))) (each v)
                (subst (Alike far.by (go v)) (joined (λ place. base_of other place) gone others_are.0 refl (cc (others_are.1)) (base_read near.by store other place (known.0 near.by near.fits)) (base_read far.by store other place (known.0 far.by far.fits))) (others_are.2 v))
                known.1 next,
          )
      agrees _ _ (both_kind {o} {go} {gone} each) distant known next =
          let v = slice_get store.kinds o in
          let others_are = after far.by _ _ distant in
          let marked = agreed_is_marked marks near far o (cc (others_are.1)) in (
            kinds_agree o marked r fits,
            agrees (go v) (gone (option_map (renamed_kind near.by) v)) (each v)
                (subst (Alike far.by (go v))
                (joined (λ o. slice_get other.kinds o) gone others_are.0 (cc (others_are.1)) (cc (others_are.1)) (kinds_agree o marked near.by near.fits) (kinds_agree o marked far.by far.fits))
                (others_are.2 v)) known next,
          )
      agrees _ _ (both_name {place} {go} {gone} each) distant known next =
          let v = store.names place in
          let others_are = after far.by _ _ distant in
          let same : others_are.0 ≡ gone = cc (others_are.1) in
          (names_agree place, agrees (go v) (gone v) (each v) (subst (λ (g : Option (List ℕ) → Plan). Alike far.by (go v) (g v)) same (others_are.2 v)) known next)
      agrees _ _ (both_was_opened {path} {go} {gone} each) distant known next =
          let v = has_path path store.opened in
          let others_are = after far.by _ _ distant in
          let same : others_are.0 ≡ gone = cc (others_are.1) in
          (opened_agree path, agrees (go v) (gone v) (each v) (subst (λ (g : Bool → Plan). Alike far.by (go v) (g v)) same (others_are.2 v)) known next)
      agrees _ _ (both_ask {what} {go} {gone} each) distant known next =
          let others_are = after far.by _ _ distant in
          let same : others_are.0 ≡ gone = cc (others_are.1) in
          by_given (answers.given what) known next
          (λ v. agrees (go v) (gone v) (each v) (subst (λ (g : Given → Plan). Alike far.by (go v) (g v)) same (others_are.2 v)))
        where
          by_given : (given : Option Given)
              → AreRead (accesses_in (touching (asked what) (elim given [ None ↦ lacking store | Some v ↦ effect store answers (go v) ])).touches)
              → ((kind : SeenKind) → (touching (asked what) (elim given [ None ↦ lacking store | Some v ↦ effect store answers (go v) ])).made ≡ Some kind → NextCorresponds r store other)
              → ((v : Given) → AreRead (accesses_in (effect store answers (go v)).touches) → ((kind : SeenKind) → (effect store answers (go v)).made ≡ Some kind → NextCorresponds r store other)
              → Agrees r store other answers answers (go v))
              → (answers.given what ≡ answers.given what) × (elim given as (λ one. Type 0) [ None ↦ ⊤ | Some v ↦ Agrees r store other answers answers (go v) ])
          by_given None known next on = (refl, tt)
          by_given (Some v) known next on = (refl, on v known next)
      agrees _ _ (both_fetch {path} {go} {gone} each) distant known next =
          let others_are = after far.by _ _ distant in
          let same : others_are.0 ≡ gone = cc (others_are.1) in
          by_given (answers.found path) known next
          (λ v. agrees (go v) (gone v) (each v) (subst (λ (g : Found → Plan). Alike far.by (go v) (g v)) same (others_are.2 v)))
        where
          by_given : (given : Option Found)
              → AreRead (accesses_in (touching (fetched path) (elim given [ None ↦ lacking store | Some v ↦ effect store answers (go v) ])).touches)
              → ((kind : SeenKind) → (touching (fetched path) (elim given [ None ↦ lacking store | Some v ↦ effect store answers (go v) ])).made ≡ Some kind → NextCorresponds r store other)
              → ((v : Found) → AreRead (accesses_in (effect store answers (go v)).touches) → ((kind : SeenKind) → (effect store answers (go v)).made ≡ Some kind → NextCorresponds r store other)
              → Agrees r store other answers answers (go v))
              → (answers.found path ≡ answers.found path) × (elim given as (λ one. Type 0) [ None ↦ ⊤ | Some v ↦ Agrees r store other answers answers (go v) ])
          by_given None known next on = (refl, tt)
          by_given (Some v) known next on = (refl, on v known next)
      agrees _ _ (both_look {m} {n} {p} {q} is both) distant known next =
          let others_are = after far.by _ _ distant in
          let same : others_are.1 ≡ q = cc (others_are.2) in
          agrees p q both (subst (Alike far.by p) same others_are.3) known next
      agrees _ _ (both_count {m} {n} {p} {q} is both) distant known next =
          let others_are = after far.by _ _ distant in
          let same : others_are.1 ≡ q = cc (others_are.2) in
          agrees p q both (subst (Alike far.by p) same others_are.3) known next
      agrees _ _ (both_print {bytes} {p} {q} both) distant known next =
          let others_are = after far.by _ _ distant in
          let same : others_are.0 ≡ q = cc (others_are.1) in
          agrees p q both (subst (Alike far.by p) same others_are.2) known next
      agrees _ _ (both_writes {all} {every} both) distant known next = writes_agree r fits None all known
      agrees _ _ (both_make {kind} {like} {all} {every} is both) distant known next =
          (next kind (made_is (Some kind) (all (length store.kinds))), writes_agree r fits (Some kind) (all (length store.kinds)) known)
      agrees _ _ (both_raise {of} is more) distant known next = next (an_instance of) refl
      agrees _ _ both_again distant known next = tt
      agrees _ _ both_end distant known next = tt
      agrees _ _ both_run_away distant known next = tt
