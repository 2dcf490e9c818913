-- What an operation says: it prints bytes, notes a name, and opened a path for writing.
use Rattle.std.proofs.Common.{◌≡◌, refl, sym, ap, subst, ◌∙◌, arith, append-nil, ℕ, ◌≤◌, ◌<◌, List, [], ◌∷◌, ◌++◌, map, length, Option, Some, None, Result, Ok, Err}
use Rattle.std.proofs.lemmas.List.{map_push}
use Rattle.std.specs.Result.{OnOk, OnErr, IfErr}
use Rattle.prov_base.specs.declared.place.Pos.{Pos}
use Rattle.py_model.specs.Effect.{Answers, printed, noted, opened, touching, effect, written}
use Rattle.py_model.specs.Plan.{Plan, Writes, prints, notes, opens}
use Rattle.py_value.specs.Seen.{access_seen, bytes_of}
use Rattle.py_value.specs.Values.{ValuesView}
use Rattle.op_work.specs.declared.stop.Stop.{Stop}
use Rattle.op_work.specs.declared.stop.Stop.TheVariants.{Raises, TooDear, Memory}
use Rattle.op_work.specs.Work.{WorkView, AreNamedPaths, AreNamedSayings, Comes, Wrote, said_of, names_said, seen_kind, is_any, as_is}
use Rattle.op_work.proofs.Going.{kept_same}

-- what is said stays named
paths_grown : (values table : ValuesView) → length values.texts ≤ length table.texts → (paths : List ℕ) → AreNamedPaths values paths → AreNamedPaths table paths
paths_grown values table grows [] named = tt
paths_grown values table grows (path ∷ paths) named = (omega (arith, grows, named.0), paths_grown values table grows paths named.1)

pub sayings_grown : (values table : ValuesView) (note : Option (Pos × ℕ)) (paths : List ℕ) → length values.texts ≤ length table.texts
    → AreNamedSayings values note paths → AreNamedSayings table note paths
sayings_grown values table (Some note) paths grows named = (omega (arith, grows, named.0), paths_grown values table grows paths named.1)
sayings_grown values table None paths grows named = paths_grown values table grows paths named

paths_more : (values : ValuesView) (paths : List ℕ) (path : ℕ) → path < length values.texts → AreNamedPaths values paths → AreNamedPaths values (paths ++ path ∷ [])
paths_more values [] path within named = (within, tt)
paths_more values (first ∷ paths) path within named = (named.0, paths_more values paths path within named.1)

pub sayings_opened : (values : ValuesView) (note : Option (Pos × ℕ)) (paths : List ℕ) (path : ℕ) → path < length values.texts
    → AreNamedSayings values note paths → AreNamedSayings values note (paths ++ path ∷ [])
sayings_opened values (Some note) paths path within named = (named.0, paths_more values paths path within named.1)
sayings_opened values None paths path within named = paths_more values paths path within named

pub sayings_noted : (values : ValuesView) (note : Option (Pos × ℕ)) (paths : List ℕ) (place : Pos) (name : ℕ) → name < length values.texts
    → AreNamedSayings values note paths → AreNamedSayings values (Some (place, name)) paths
sayings_noted values (Some note) paths place name within named = (within, named.1)
sayings_noted values None paths place name within named = (within, named)

pub noted_named : (values : ValuesView) (note : Option (Pos × ℕ)) (paths : List ℕ) (place : Pos) (name : ℕ) → note ≡ Some (place, name)
    → AreNamedSayings values note paths → name < length values.texts
noted_named values note paths place name is named = (subst (λ n. AreNamedSayings values n paths) is named).0

pub print_comes : (bytes : List ℕ) {old new : WorkView} (result : Result (Unit {0}) Stop) → OnOk result (new ≡ record old { printed = old.printed ++ bytes })
    → IfErr result (λ stop. stop ≡ Memory) → OnErr result (new ≡ old) → Comes is_any as_is (λ table (go : Unit {0} → Plan). prints bytes (go tt)) old new result
print_comes bytes {old} {new} (Ok done) is memory same = record {
  kept = kept_same (ap (λ w. w.store) is) (ap (λ w. w.made) is) (ap (λ w. w.left) is) (ap (λ w. w.values) is);
  is_named = tt;
  came = λ table store extends seen go. record {
    touches = printed bytes ∷ [];
    plain = tt;
    effect_is = λ answers. refl;
    touched_is = ap (λ w. map (access_seen table) w.touched) is ∙ sym (append-nil (map (access_seen table) old.touched));
    looks_are = ap (λ w. w.looks) is ∙ omega (arith);
    characters_are = ap (λ w. w.characters) is ∙ omega (arith);
    said_is = ap (said_of table) is;
  };
}
print_comes bytes {old} {new} (Err Memory) is memory same = record {
  kept = kept_same (ap (λ w. w.store) same) (ap (λ w. w.made) same) (ap (λ w. w.left) same) (ap (λ w. w.values) same);
  is_named = tt;
  came = λ table store extends seen. tt;
}
print_comes bytes {old} {new} (Err TooDear) is memory same = absurd (impossible memory)
  where
    impossible : TooDear ≡ Memory → ⊥
    impossible is = cc
print_comes bytes {old} {new} (Err (Raises class argument)) is memory same = absurd (impossible memory)
  where
    impossible : Raises class argument ≡ Memory → ⊥
    impossible is = cc

pub open_wrote : (path : ℕ) {old new : WorkView} (result : Result (Unit {0}) Stop) → OnOk result (new ≡ record old { opens = old.opens ++ path ∷ [] })
    → IfErr result (λ stop. stop ≡ Memory) → OnErr result (new ≡ old) → Wrote (λ table. opens (bytes_of table path)) old new result
open_wrote path {old} {new} (Ok done) is memory same = record {
  kept = kept_same (ap (λ w. w.store) is) (ap (λ w. w.made) is) (ap (λ w. w.left) is) (ap (λ w. w.values) is);
  is_named = tt;
  came = λ table store extends seen rest. record {
    touches = opened (bytes_of table path) ∷ [];
    plain = tt;
    effect_is = λ answers. ap (λ made. touching (opened (bytes_of table path)) (written store (seen_kind table made) rest)) (sym (ap (λ w. w.made) is));
    touched_is = ap (λ w. map (access_seen table) w.touched) is ∙ sym (append-nil (map (access_seen table) old.touched));
    looks_are = ap (λ w. w.looks) is ∙ omega (arith);
    characters_are = ap (λ w. w.characters) is ∙ omega (arith);
    said_is = ap (said_of table) is ∙ ap (λ paths. record (said_of table old) { paths = paths }) (map_push (bytes_of table) old.opens path);
  };
}
open_wrote path {old} {new} (Err Memory) is memory same = record {
  kept = kept_same (ap (λ w. w.store) same) (ap (λ w. w.made) same) (ap (λ w. w.left) same) (ap (λ w. w.values) same);
  is_named = tt;
  came = λ table store extends seen. tt;
}
open_wrote path {old} {new} (Err TooDear) is memory same = absurd (impossible memory)
  where
    impossible : TooDear ≡ Memory → ⊥
    impossible is = cc
open_wrote path {old} {new} (Err (Raises class argument)) is memory same = absurd (impossible memory)
  where
    impossible : Raises class argument ≡ Memory → ⊥
    impossible is = cc

pub note_wrote : (place : Pos) (name : ℕ) {old new : WorkView} → old.note ≡ None → new ≡ record old { note = Some (place, name) }
    → Wrote (λ table. notes place (bytes_of table name)) old new (Ok tt)
note_wrote place name {old} {new} none is = record {
  kept = kept_same (ap (λ w. w.store) is) (ap (λ w. w.made) is) (ap (λ w. w.left) is) (ap (λ w. w.values) is);
  is_named = tt;
  came = λ table store extends seen rest. record {
    touches = noted place (bytes_of table name) ∷ [];
    plain = tt;
    effect_is = λ answers. ap (λ made. touching (noted place (bytes_of table name)) (written store (seen_kind table made) rest)) (sym (ap (λ w. w.made) is));
    touched_is = ap (λ w. map (access_seen table) w.touched) is ∙ sym (append-nil (map (access_seen table) old.touched));
    looks_are = ap (λ w. w.looks) is ∙ omega (arith);
    characters_are = ap (λ w. w.characters) is ∙ omega (arith);
    said_is = ap (said_of table) is
        ∙ ap (λ names. record (said_of table old) { names = names }) (ap (λ before. names_said table before ++ (place, bytes_of table name) ∷ []) (sym none));
  };
}
