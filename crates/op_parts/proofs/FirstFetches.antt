-- An opening fetches one path, or none. It lacks an answer exactly where nothing is kept of that path.
use Rattle.std.proofs.Common.{◌≡◌, ◌∙◌, refl, sym, ap, subst, ℕ, Bool, true, false, List, [], ◌∷◌, map, Option, Some, None, if◌then◌else◌}
use Rattle.op_devices.specs.Opening.{mode_named, is_fetched, if_fetched, path_in, bad_path, with_mode, of_texts}
use Rattle.op_devices.proofs.OpenPlans.{opened_go, fetch_go, content_go, open_mode, open_texts, open_is}
use Rattle.op_parts.proofs.FirstAsks.{AnswersAll}
use Rattle.py_model.proofs.Tuples.{some_tuple}
use Rattle.prov_base.specs.Path.{is_path}
use Rattle.py_model.specs.Effect.{Answers, Effect, Outcome, unanswered, effect, lacking}
use Rattle.py_model.specs.Files.{open_to_read, open_to_append, open_plan}
use Rattle.py_model.specs.Plan.{Found, found_bytes, absent, too_large, found_failed, Plan, fetch}
use Rattle.py_model.specs.Quiet.{IsQuiet}
use Rattle.py_model.specs.Store.{RunStore, has_path}
use Rattle.py_value.specs.Contents.{Contents, contents, text}
use Rattle.py_value.specs.Seen.{bytes_of}
use Rattle.py_value.specs.Values.{ValuesView}
use Rattle.py_value.specs.declared.access.Mode.{Mode}
use Rattle.py_value.specs.declared.access.Mode.TheVariants.{Read, Write, Append}
use Rattle.py_value.specs.declared.value.Value.{Value}
use Rattle.py_value.specs.declared.value.Value.TheVariants.{Text, Tuple}

-- in a store it comes out as what fetches nothing, or as what fetches this path first and nothing behind it
pub record QuietIn (store : RunStore) (p : Plan) : Type 0 where
  pub plan : Plan
  pub outcome_is : (answers : Answers) → (effect store answers p).outcome ≡ (effect store answers plan).outcome
  pub quiet : IsQuiet plan

pub record FetchesOf (store : RunStore) (path : List ℕ) (p : Plan) : Type 0 where
  pub go : Found → Plan
  pub outcome_is : (answers : Answers) → (effect store answers p).outcome ≡ (effect store answers (fetch path go)).outcome
  pub quiet : (f : Found) → IsQuiet (go f)

abbrev pub FetchesIf : RunStore → List ℕ → Bool → Plan → Type 0
FetchesIf store path true p = QuietIn store p
FetchesIf store path false p = FetchesOf store path p

abbrev pub FetchesFirst : RunStore → ValuesView → Option ℕ → Plan → Type 0
FetchesFirst store table None p = QuietIn store p
FetchesFirst store table (Some path) p = FetchesIf store (bytes_of table path) (has_path (bytes_of table path) store.opened) p

-- what was found is not fetched again
read_quiet : (path : List ℕ) (content : Option (List ℕ)) → IsQuiet (content_go (opened_go (open_to_read path) true) content)
read_quiet path None = tt
read_quiet path (Some bytes) = tt

append_quiet : (path : List ℕ) (content : Option (List ℕ)) → IsQuiet (content_go (opened_go (open_to_append path) true) content)
append_quiet path None = tt
append_quiet path (Some bytes) = tt

read_found : (path : List ℕ) (f : Found) → IsQuiet (fetch_go (opened_go (open_to_read path) false) f)
read_found path (found_bytes bytes) = read_quiet path
read_found path absent = read_quiet path
read_found path too_large = λ content. tt
read_found path found_failed = λ content. tt

append_found : (path : List ℕ) (f : Found) → IsQuiet (fetch_go (opened_go (open_to_append path) false) f)
append_found path (found_bytes bytes) = append_quiet path
append_found path absent = append_quiet path
append_found path too_large = λ content. tt
append_found path found_failed = λ content. tt

module _ (store : RunStore) where
  quiet_itself : (p : Plan) → IsQuiet p → QuietIn store p
  quiet_itself p quiet = record { plan = p; outcome_is = λ answers. refl; quiet = quiet }

  read_first : (path : List ℕ) (opened : Bool) → FetchesIf store path opened (opened_go (open_to_read path) opened)
  read_first path true = quiet_itself (opened_go (open_to_read path) true) (read_quiet path)
  read_first path false = record { go = fetch_go (opened_go (open_to_read path) false); outcome_is = λ answers. refl; quiet = read_found path }

  append_first : (path : List ℕ) (opened : Bool) → FetchesIf store path opened (opened_go (open_to_append path) opened)
  append_first path true = quiet_itself (opened_go (open_to_append path) true) (append_quiet path)
  append_first path false = record { go = fetch_go (opened_go (open_to_append path) false); outcome_is = λ answers. refl; quiet = append_found path }

  -- what comes out the same
  as_same : (path : List ℕ) (opened : Bool) (p q : Plan) → ((answers : Answers) → (effect store answers q).outcome ≡ (effect store answers p).outcome) → FetchesIf store path opened p → FetchesIf store path opened q
  as_same path true p q same first = record { plan = first.plan; outcome_is = λ answers. same answers ∙ first.outcome_is answers; quiet = first.quiet }
  as_same path false p q same first = record { go = first.go; outcome_is = λ answers. same answers ∙ first.outcome_is answers; quiet = first.quiet }

  module _ (table : ValuesView) where
    mode_first : (path : ℕ) (m : Mode) → FetchesFirst store table (if is_fetched m then Some path else None) (open_mode (bytes_of table path, m))
    mode_first path Read = as_same (bytes_of table path) (has_path (bytes_of table path) store.opened) (opened_go (open_to_read (bytes_of table path)) (has_path (bytes_of table path) store.opened))
        (open_to_read (bytes_of table path)) (λ answers. refl) (read_first (bytes_of table path) (has_path (bytes_of table path) store.opened))
    mode_first path Write = quiet_itself (open_mode (bytes_of table path, Write)) tt
    mode_first path Append = as_same (bytes_of table path) (has_path (bytes_of table path) store.opened) (opened_go (open_to_append (bytes_of table path)) (has_path (bytes_of table path) store.opened))
        (open_to_append (bytes_of table path)) (λ answers. refl) (append_first (bytes_of table path) (has_path (bytes_of table path) store.opened))

    path_first : (path : ℕ) (b : Bool) (m : Mode) → FetchesFirst store table (if b then (if is_fetched m then Some path else None) else None) (if b then open_mode (bytes_of table path, m) else bad_path)
    path_first path true m = mode_first path m
    path_first path false m = quiet_itself bad_path tt

    named_first : (path : ℕ) (m : Option Mode) → FetchesFirst store table (if_fetched path (bytes_of table path) m) (with_mode (bytes_of table path) m open_mode)
    named_first path (Some m) = path_first path (is_path (bytes_of table path)) m
    named_first path None = quiet_itself (with_mode (bytes_of table path) None open_mode) tt

    many_quiet : (one other next : Contents) (more : List Contents) → IsQuiet (of_texts (one ∷ other ∷ next ∷ more) open_texts)
    many_quiet (text path) (text mode) next more = tt
    many_quiet (text path) other next more = tt
    many_quiet one other next more = tt

    many_first : (one other next : Contents) (more : List Contents) → QuietIn store (of_texts (one ∷ other ∷ next ∷ more) open_texts)
    many_first one other next more = quiet_itself (of_texts (one ∷ other ∷ next ∷ more) open_texts) (many_quiet one other next more)

    texts_first : (operands : List Value) → FetchesFirst store table (path_in table operands) (of_texts (map (contents table) operands) open_texts)
    texts_first [] = quiet_itself (of_texts [] open_texts) tt
    texts_first (Text path ∷ []) = named_first path (Some Read)
    texts_first (Tuple id ∷ []) = quiet_itself (of_texts (contents table (Tuple id) ∷ []) open_texts) (subst (λ c. IsQuiet (of_texts (c ∷ []) open_texts)) (sym (some_tuple table id).1) tt)
    texts_first (other ∷ []) = quiet_itself (of_texts (contents table other ∷ []) open_texts) tt
    texts_first (Text path ∷ Text mode ∷ []) = named_first path (mode_named (bytes_of table mode))
    texts_first (Text path ∷ Tuple id ∷ []) = quiet_itself (of_texts (contents table (Text path) ∷ contents table (Tuple id) ∷ []) open_texts)
        (subst (λ c. IsQuiet (of_texts (contents table (Text path) ∷ c ∷ []) open_texts)) (sym (some_tuple table id).1) tt)
    texts_first (Text path ∷ other ∷ []) = quiet_itself (of_texts (contents table (Text path) ∷ contents table other ∷ []) open_texts) tt
    texts_first (Tuple id ∷ w ∷ []) = quiet_itself (of_texts (contents table (Tuple id) ∷ contents table w ∷ []) open_texts)
        (subst (λ c. IsQuiet (of_texts (c ∷ contents table w ∷ []) open_texts)) (sym (some_tuple table id).1) tt)
    texts_first (other ∷ w ∷ []) = quiet_itself (of_texts (contents table other ∷ contents table w ∷ []) open_texts) tt
    texts_first (Text path ∷ Text mode ∷ next ∷ more) = many_first (contents table (Text path)) (contents table (Text mode)) (contents table next) (map (contents table) more)
    texts_first (Text path ∷ w ∷ next ∷ more) = many_first (contents table (Text path)) (contents table w) (contents table next) (map (contents table) more)
    texts_first (v ∷ w ∷ next ∷ more) = many_first (contents table v) (contents table w) (contents table next) (map (contents table) more)

    pub open_first : (operands : List Value) → FetchesFirst store table (path_in table operands) (open_plan (map (contents table) operands))
    open_first operands = subst (FetchesFirst store table (path_in table operands)) (sym (open_is (map (contents table) operands))) (texts_first operands)

  -- what it comes to, by what is found
  module _ (answers : Answers) where
    abbrev fetch_outcome : (Found → Plan) → Option Found → Outcome
    fetch_outcome go None = unanswered
    fetch_outcome go (Some f) = (effect store answers (go f)).outcome

    abbrev found_effect : (Found → Plan) → Option Found → Effect
    found_effect go None = lacking store
    found_effect go (Some f) = effect store answers (go f)

    fetch_comes : (path : List ℕ) (go : Found → Plan) → (effect store answers (fetch path go)).outcome ≡ fetch_outcome go (answers.found path)
    fetch_comes path go = by_found (answers.found path)
      where
        by_found : (found : Option Found) → (found_effect go found).outcome ≡ fetch_outcome go found
        by_found None = refl
        by_found (Some f) = refl

    pub lacks_file : (path : List ℕ) (p : Plan) → FetchesOf store path p → answers.found path ≡ None → (effect store answers p).outcome ≡ unanswered
    lacks_file path p first none = first.outcome_is answers ∙ (fetch_comes path first.go ∙ ap (fetch_outcome first.go) none)

    pub has_found : AnswersAll → (path : List ℕ) (p : Plan) (f : Found) → FetchesOf store path p → answers.found path ≡ Some f → (effect store answers p).outcome ≡ unanswered → ⊥
    has_found all path p f first found is = all store answers (first.go f) (first.quiet f)
        (sym (first.outcome_is answers ∙ (fetch_comes path first.go ∙ ap (fetch_outcome first.go) found)) ∙ is)

    pub quiet_found : AnswersAll → (p : Plan) → QuietIn store p → (effect store answers p).outcome ≡ unanswered → ⊥
    quiet_found all p first is = all store answers first.plan first.quiet (sym (first.outcome_is answers) ∙ is)
