-- What an operation writes, once memory for it is taken.
use Rattle.std.proofs.Common.{◌≡◌, refl, sym, ap, ◌∙◌, subst, map, ℕ, ◌+◌, length, if◌then◌else◌, Option, Some, None}
use Rattle.std.proofs.Math.Path.{fun_ext}
use Rattle.std.specs.Option.{option_map, option_and_then}
use Rattle.object_store.specs.Named.{IsNamedStore}
use Rattle.object_store.specs.Performing.{SuitInTurn}
use Rattle.object_store.specs.Seen.{held_seen, seen_at}
use Rattle.object_store.specs.Store.{StoreView, Keeps, held_at, count_with}
use Rattle.py_value.specs.Changes.{after_accesses}
use Rattle.py_value.specs.Seen.{access_seen, location_at}
use Rattle.py_value.specs.Values.{ValuesView, AreInterned}
use Rattle.py_value.specs.declared.access.Kind.{Kind}
use Rattle.py_value.specs.declared.access.Location.{Location}
use Rattle.std.specs.Map.{lookup}
use Rattle.prov_base.specs.declared.place.Pos.{Pos}
use Rattle.prov_base.specs.contracts.place.PosPartialEq.TheImpl.{ghosts as places}
use Rattle.op_work.specs.Finish.{Noted}
use Rattle.op_work.specs.Work.{WorkView, Extends}
use Rattle.op_work.proofs.Named.{named_kept}

held_same : (table : ValuesView) (old new : StoreView) → Keeps old new → (l : Option Location)
    → option_and_then (λ l. option_map (held_seen table) (held_at new l)) l ≡ option_and_then (λ l. option_map (held_seen table) (held_at old l)) l
held_same table old new keeps None = refl
held_same table old new keeps (Some l) = ap (option_map (held_seen table)) (keeps.held l)

pub seen_kept : (table : ValuesView) (old new : StoreView) → Keeps old new → seen_at table new ≡ seen_at table old
seen_kept table old new keeps = fun_ext (λ place. held_same table old new keeps (location_at table place))

abbrev pub WritesAll : WorkView → StoreView → Type 0
WritesAll w new = (table : ValuesView) → AreInterned table → Extends w.values table → IsNamedStore table w.store → SuitInTurn (seen_at table w.store) (map (access_seen table) w.touched)
    → seen_at table new ≡ after_accesses (map (access_seen table) w.touched) (seen_at table w.store)

pub writes_reserved : (w v : WorkView) (new : StoreView) → v ≡ record w { store = v.store } → Keeps w.store v.store → WritesAll v new → WritesAll w new
writes_reserved w v new same keeps writes table interned extends named suits =
    let seen = seen_kept table w.store v.store keeps in
    let touched = ap (λ (x : WorkView). map (access_seen table) x.touched) same in
    writes table interned (subst (λ values. Extends values table) (sym (ap (λ (x : WorkView). x.values) same)) extends) (named_kept table w.store v.store keeps named)
    (subst (λ seen_map. SuitInTurn seen_map (map (access_seen table) v.touched)) (sym seen) (subst (λ plan. SuitInTurn (seen_at table w.store) plan) (sym touched) suits))
    ∙ (ap (λ plan. after_accesses plan (seen_at table v.store)) touched ∙ ap (after_accesses (map (access_seen table) w.touched)) seen)

-- a name was noted before
pub writes_noted : (w v : WorkView) (new : StoreView) → v ≡ record w { store = v.store } → v.store ≡ record w.store { names = v.store.names }
    → ((table : ValuesView) → Extends w.values table → IsNamedStore table w.store → IsNamedStore table v.store) → WritesAll v new → WritesAll w new
writes_noted w v new same only named writes table interned extends is_named suits =
    let seen = ap (seen_at table) only in
    let touched = ap (λ (x : WorkView). map (access_seen table) x.touched) same in
    writes table interned (subst (λ values. Extends values table) (sym (ap (λ (x : WorkView). x.values) same)) extends) (named table extends is_named)
    (subst (λ seen_map. SuitInTurn seen_map (map (access_seen table) v.touched)) (sym seen) (subst (λ plan. SuitInTurn (seen_at table w.store) plan) (sym touched) suits))
    ∙ (ap (λ plan. after_accesses plan (seen_at table v.store)) touched ∙ ap (after_accesses (map (access_seen table) w.touched)) seen)

pub noted_between : (note : Option (Pos × ℕ)) (a b c d : StoreView) → b.names ≡ a.names → Noted note b c → d.names ≡ c.names → Noted note a d
noted_between None a b c d first noted last = last ∙ (noted ∙ first)
noted_between (Some note) a b c d first noted last = λ other. ap (lookup (places.eq other)) last
    ∙ (noted other ∙ ap (λ names. if places.eq note.0 other then Some note.1 else lookup (places.eq other) names) first)

pub count_kept : (made : Option Kind) (old new : StoreView) → new ≡ record old { names = new.names } → count_with made new ≡ count_with made old
count_kept None old new is = ap (λ (s : StoreView). length s.objects) is
count_kept (Some kind) old new is = ap (λ (s : StoreView). length s.objects + 1) is
