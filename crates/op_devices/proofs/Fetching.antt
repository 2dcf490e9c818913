-- What a run notes of an opening: the path that it fetches, or nothing.
use Rattle.std.proofs.Common.{◌≡◌, ◌∙◌, refl, ap, ℕ, Bool, true, false, List, [], ◌∷◌, map, Option, Some, None, if◌then◌else◌}
use Rattle.prov_base.specs.declared.place.Pos.{Pos}
use Rattle.prov_base.specs.Path.{is_path}
use Rattle.op_devices.specs.Opening.{mode_named, is_fetched, if_fetched, path_in, bad_path, with_mode, of_texts, noted_fetch}
use Rattle.op_devices.proofs.Noting.{Unnoted}
use Rattle.op_devices.proofs.OpenPlans.{opened_go, fetch_go, content_go, open_mode, open_texts, open_is}
use Rattle.py_model.proofs.Tuples.{some_tuple}
use Rattle.py_model.specs.Effect.{Answers, Effect, effect, lacking}
use Rattle.py_model.specs.Files.{open_to_read, open_to_append, open_plan}
use Rattle.py_model.specs.Plan.{Found, found_bytes, absent, too_large, found_failed, Plan, fetch}
use Rattle.py_model.specs.Quiet.{IsQuiet}
use Rattle.py_model.specs.Running.{State, note}
use Rattle.py_model.specs.Store.{RunStore, has_path}
use Rattle.py_value.specs.Contents.{Contents, contents, text}
use Rattle.py_value.specs.Seen.{bytes_of}
use Rattle.py_value.specs.Values.{ValuesView}
use Rattle.py_value.specs.declared.access.Mode.{Mode}
use Rattle.py_value.specs.declared.access.Mode.TheVariants.{Read, Write, Append}
use Rattle.py_value.specs.declared.value.Value.{Value}
use Rattle.py_value.specs.declared.value.Value.TheVariants.{Text, Tuple}

-- what was found is not fetched again
read_quiet : (path : List ℕ) (content : Option (List ℕ)) → IsQuiet (content_go (opened_go (open_to_read path) true) content)
read_quiet path None = tt
read_quiet path (Some bytes) = tt

append_quiet : (path : List ℕ) (content : Option (List ℕ)) → IsQuiet (content_go (opened_go (open_to_append path) true) content)
append_quiet path None = tt
append_quiet path (Some bytes) = tt

read_found : (path : List ℕ) (f : Found) → IsQuiet (fetch_go (opened_go (open_to_read path) false) f)
read_found path (found_bytes bytes) = read_quiet path
read_found path absent = read_quiet path
read_found path too_large = λ content. tt
read_found path found_failed = λ content. tt

append_found : (path : List ℕ) (f : Found) → IsQuiet (fetch_go (opened_go (open_to_append path) false) f)
append_found path (found_bytes bytes) = append_quiet path
append_found path absent = append_quiet path
append_found path too_large = λ content. tt
append_found path found_failed = λ content. tt

module _ (unnoted : Unnoted) (store : RunStore) (answers : Answers) (at : Pos) (k : ℕ) (s : State) where
  abbrev noted : Plan → State
  noted p = note at k (effect store answers p).touches s

  abbrev fetching : List ℕ → State
  fetching path = record s { fetches = path ∷ s.fetches }

  abbrev found_effect : (Found → Plan) → Option Found → Effect
  found_effect go None = lacking store
  found_effect go (Some f) = effect store answers (go f)

  fetch_noted : (path : List ℕ) (go : Found → Plan) → ((f : Found) → IsQuiet (go f)) → noted (fetch path go) ≡ fetching path
  fetch_noted path go quiet = by_found (answers.found path)
    where
      by_found : (found : Option Found) → note at k (found_effect go found).touches (fetching path) ≡ fetching path
      by_found None = refl
      by_found (Some f) = unnoted store answers (go f) at k (fetching path) (quiet f)

  read_noted : (path : List ℕ) (opened : Bool) → noted (opened_go (open_to_read path) opened) ≡ (if opened then s else fetching path)
  read_noted path true = unnoted store answers (opened_go (open_to_read path) true) at k s (read_quiet path)
  read_noted path false = fetch_noted path (fetch_go (opened_go (open_to_read path) false)) (read_found path)

  append_noted : (path : List ℕ) (opened : Bool) → noted (opened_go (open_to_append path) opened) ≡ (if opened then s else fetching path)
  append_noted path true = unnoted store answers (opened_go (open_to_append path) true) at k s (append_quiet path)
  append_noted path false = fetch_noted path (fetch_go (opened_go (open_to_append path) false)) (append_found path)

  module _ (table : ValuesView) where
    mode_noted : (path : ℕ) (m : Mode) → noted (open_mode (bytes_of table path, m)) ≡ noted_fetch store.opened table (if is_fetched m then Some path else None) s
    mode_noted path Read = read_noted (bytes_of table path) (has_path (bytes_of table path) store.opened)
    mode_noted path Write = refl
    mode_noted path Append = append_noted (bytes_of table path) (has_path (bytes_of table path) store.opened)

    path_noted : (path : ℕ) (b : Bool) (m : Mode) → noted (if b then open_mode (bytes_of table path, m) else bad_path)
        ≡ noted_fetch store.opened table (if b then (if is_fetched m then Some path else None) else None) s
    path_noted path true m = mode_noted path m
    path_noted path false m = refl

    named_noted : (path : ℕ) (m : Option Mode) → noted (with_mode (bytes_of table path) m open_mode) ≡ noted_fetch store.opened table (if_fetched path (bytes_of table path) m) s
    named_noted path (Some m) = path_noted path (is_path (bytes_of table path)) m
    named_noted path None = refl

    many_noted : (one other next : Contents) (more : List Contents) → noted (of_texts (one ∷ other ∷ next ∷ more) open_texts) ≡ s
    many_noted (text path) (text mode) next more = refl
    many_noted (text path) other next more = refl
    many_noted one other next more = refl

    texts_noted : (operands : List Value) → noted (of_texts (map (contents table) operands) open_texts) ≡ noted_fetch store.opened table (path_in table operands) s
    texts_noted [] = refl
    texts_noted (Text path ∷ []) = named_noted path (Some Read)
    texts_noted (Tuple id ∷ []) = ap (λ c. noted (of_texts (c ∷ []) open_texts)) (some_tuple table id).1
    texts_noted (other ∷ []) = refl
    texts_noted (Text path ∷ Text mode ∷ []) = named_noted path (mode_named (bytes_of table mode))
    texts_noted (Text path ∷ Tuple id ∷ []) = ap (λ c. noted (of_texts (contents table (Text path) ∷ c ∷ []) open_texts)) (some_tuple table id).1
    texts_noted (Text path ∷ other ∷ []) = refl
    texts_noted (Tuple id ∷ w ∷ []) = ap (λ c. noted (of_texts (c ∷ contents table w ∷ []) open_texts)) (some_tuple table id).1
    texts_noted (other ∷ w ∷ []) = refl
    texts_noted (Text path ∷ Text mode ∷ next ∷ more) = refl
    texts_noted (Text path ∷ w ∷ next ∷ more) = many_noted (contents table (Text path)) (contents table w) (contents table next) (map (contents table) more)
    texts_noted (v ∷ w ∷ next ∷ more) = many_noted (contents table v) (contents table w) (contents table next) (map (contents table) more)

    pub open_noted : (operands : List Value) → note at k (effect store answers (open_plan (map (contents table) operands))).touches s ≡ noted_fetch store.opened table (path_in table operands) s
    open_noted operands = ap noted (open_is (map (contents table) operands)) ∙ texts_noted operands
