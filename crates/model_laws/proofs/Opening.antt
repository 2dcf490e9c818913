-- Files that are opened are what the table says.
use Rattle.std.proofs.Common.{◌≡◌, refl, sym, ap, subst, ◌∙◌, inl, inr, ℕ, Bool, true, false, ◌==◌, ◌||◌, if◌then◌else◌, List, [], ◌∷◌, ◌++◌, length, Option, Some, None, unwrap_or, eq-eqb, codes}
use Rattle.std.specs.Str.{bytes_eq}
use Rattle.prov_base.specs.Path.{is_path}
use Rattle.py_value.specs.declared.access.Mode.{Mode}
use Rattle.py_value.specs.declared.access.Mode.TheVariants.{Read, Write, Append}
use Rattle.py_value.specs.Contents.{text}
use Rattle.py_value.specs.Seen.{SeenLocation, SeenContent, a_file, offset_at, closed_at, file_at, offset_is, closed_is, file_is}
use Rattle.py_model.specs.Effect.{Effect, Answers, effect, lacking, after}
use Rattle.py_model.specs.Faults.{fault, os_error, value_error}
use Rattle.py_model.specs.Files.{open_plan, with_file, begun, bad_file, no_file, open_to_read, open_to_write, open_to_append}
use Rattle.py_model.specs.Plan.{Plan, Found, found_bytes, absent, too_large, found_failed, makes, write, opens, read_file, fetch}
use Rattle.py_model.specs.Store.{RunStore, file_of, has_path, with_path}
use Rattle.py_model.specs.Tidy.{is_there}
use Rattle.model_laws.specs.Reading.{FileValue, IsFile, is_of_file}
use Rattle.model_laws.specs.Results.{DoesAlone}
use Rattle.model_laws.specs.TableFiles.{MakesFile, IsKnown, IsUnreadable, emptied, opened_to_read, opened_to_append, opened_file, then_opened, no_file_is, unreadable_is, bad_path_is, bad_mode_is, is_mode}
use Rattle.model_laws.proofs.Alone.{alone_same}
use Rattle.model_laws.proofs.Comparing.{Agrees}
use Rattle.model_laws.proofs.Effects.{Same, after_same}
use Rattle.model_laws.proofs.Files.{PlacesTested, offset_in, closed_in, file_in}
use Rattle.model_laws.proofs.Lists.{last_is}

-- how plans go on with what was found at a path, and with what stands there
abbrev found_by : List ℕ → (Option (List ℕ) → Plan) → Found → Plan
found_by path go (found_bytes bytes) = read_file path go
found_by path go absent = read_file path go
found_by path go too_large = read_file path (λ content. bad_file)
found_by path go found_failed = read_file path (λ content. bad_file)

abbrev opened_by : List ℕ → (Option (List ℕ) → Plan) → Bool → Plan
opened_by path go true = read_file path go
opened_by path go false = fetch path (found_by path go)

abbrev read_by : List ℕ → Option (List ℕ) → Plan
read_by path (Some bytes) = makes (a_file path Read) begun
read_by path None = no_file

abbrev append_by : List ℕ → Option (List ℕ) → Plan
append_by path (Some bytes) = makes (a_file path Append) (λ o. opens path (begun o))
append_by path None = makes (a_file path Append) (λ o. write (file_at path) (file_is []) (opens path (begun o)))

abbrev at_path : List ℕ → Plan → Bool → Plan
at_path path plan b = if b then plan else fault os_error (codes "bad path")

differ : true ≡ false → ⊥
differ is = cc

module _ (store : RunStore) (answers : Answers) where
  fetched_effect : (Found → Plan) → Option Found → Effect
  fetched_effect go found = elim found as (λ f. Effect) [ None ↦ lacking store | Some some ↦ effect store answers (go some) ]

  reads_there : (path : List ℕ) (go : Option (List ℕ) → Plan) (found : Found) → is_there found ≡ true → Agrees store answers (found_by path go found) (go (file_of store path))
  reads_there path go (found_bytes bytes) there = λ s. record { answer_is = refl; made_is = refl; after_is = refl }
  reads_there path go absent there = λ s. record { answer_is = refl; made_is = refl; after_is = refl }
  reads_there path go too_large there = absurd (differ (sym there))
  reads_there path go found_failed there = absurd (differ (sym there))

  reads_bad : (path : List ℕ) (go : Option (List ℕ) → Plan) (found : Found) → is_there found ≡ false → Agrees store answers (found_by path go found) bad_file
  reads_bad path go (found_bytes bytes) there = absurd (differ there)
  reads_bad path go absent there = absurd (differ there)
  reads_bad path go too_large there = λ s. record { answer_is = refl; made_is = refl; after_is = refl }
  reads_bad path go found_failed there = λ s. record { answer_is = refl; made_is = refl; after_is = refl }

  -- what is fetched
  fetches : (path : List ℕ) (go : Option (List ℕ) → Plan) (found : Found) (p : Plan) → answers.found path ≡ Some found → Agrees store answers (found_by path go found) p → Agrees store answers (opened_by path go false) p
  fetches path go found p is agrees = λ s.
      let same : Same (elim (answers.found path) as (λ f. Effect) [ None ↦ lacking store | Some some ↦ effect store answers (found_by path go some) ]) (effect store answers p) s s
      = subst (λ (f : Option Found). Same (elim f as (λ f. Effect) [ None ↦ lacking store | Some some ↦ effect store answers (found_by path go some) ]) (effect store answers p) s s) (sym is) (agrees s) in
      record { answer_is = same.answer_is; made_is = same.made_is; after_is = same.after_is }

  by_known : (path : List ℕ) (go : Option (List ℕ) → Plan) (b : Bool) → has_path path store.opened ≡ b → IsKnown store answers path → Agrees store answers (opened_by path go b) (go (file_of store path))
  by_known path go true is known = λ s. record { answer_is = refl; made_is = refl; after_is = refl }
  by_known path go false is (inl opened) = absurd (differ (sym opened ∙ is))
  by_known path go false is (inr found) = fetches path go found.0 (go (file_of store path)) found.1.0 (reads_there path go found.0 found.1.1)

  known_goes : (path : List ℕ) (go : Option (List ℕ) → Plan) → IsKnown store answers path → Agrees store answers (with_file path go) (go (file_of store path))
  known_goes path go known = by_known path go (has_path path store.opened) refl known

  unreadable_goes : (path : List ℕ) (go : Option (List ℕ) → Plan) → IsUnreadable store answers path → Agrees store answers (with_file path go) bad_file
  unreadable_goes path go bad = subst (λ (b : Bool). Agrees store answers (opened_by path go b) bad_file) (sym bad.0) (fetches path go bad.1.0 bad_file bad.1.1.0 (reads_bad path go bad.1.0 bad.1.1.1))

  -- a file is made so where another effect that comes to the same makes it
  makes_same : (p q : Plan) (file : FileValue) → Agrees store answers p q → MakesFile store (effect store answers q) file → MakesFile store (effect store answers p) file
  makes_same p q file agrees makes_it =
      let same : after (effect store answers p) store ≡ after (effect store answers q) store = after_same store (effect store answers p) (effect store answers q) agrees in
      record {
        answer_is = (agrees store).answer_is ∙ makes_it.answer_is;
        made_is = (agrees store).made_is ∙ makes_it.made_is;
        is_file = subst (λ (s : RunStore). IsFile s (length store.kinds) file) (sym same) makes_it.is_file;
        elsewhere = subst (λ (s : RunStore). (l : SeenLocation) → is_of_file (length store.kinds) file.path l ≡ false → s.at l ≡ store.at l) (sym same) makes_it.elsewhere;
        rest_stays = subst (λ (s : RunStore). s ≡ record store { at = s.at; kinds = store.kinds ++ a_file file.path file.mode ∷ []; opened = then_opened file.mode file.path store.opened }) (sym same) makes_it.rest_stays;
      }

  abbrev new : ℕ
  new = length store.kinds

  begins : (at : SeenLocation → Option SeenContent) → offset_in (if new == new then Some (offset_is 0) else at (offset_at new)) ≡ 0
  begins at = ap (λ b. offset_in (if b then Some (offset_is 0) else at (offset_at new))) (eq-eqb new new refl)

  is_open : (at : SeenLocation → Option SeenContent) → closed_in (if new == new then Some (closed_is false) else at (closed_at new)) ≡ false
  is_open at = ap (λ b. closed_in (if b then Some (closed_is false) else at (closed_at new))) (eq-eqb new new refl)

  made_to_read : (path bytes : List ℕ) → file_of store path ≡ Some bytes → MakesFile store (effect store answers (makes (a_file path Read) begun)) (opened_to_read path bytes)
  made_to_read path bytes is = record {
    answer_is = refl;
    made_is = refl;
    is_file = record {
      kind_is = last_is store.kinds (a_file path Read);
      bytes_are = ap (λ (content : Option (List ℕ)). unwrap_or content []) is;
      offset_is = begins store.at;
      closed_is = is_open store.at;
    };
    elsewhere = elsewhere;
    rest_stays = refl;
  }
    where
      elsewhere : (l : SeenLocation) → is_of_file new path l ≡ false → (after (effect store answers (makes (a_file path Read) begun)) store).at l ≡ store.at l
      elsewhere (offset_at p) apart = ap (λ b. if b then Some (offset_is 0) else store.at (offset_at p)) apart
      elsewhere (closed_at p) apart = ap (λ b. if b then Some (closed_is false) else store.at (closed_at p)) apart
      elsewhere l apart = refl

  made_to_append : (path bytes : List ℕ) → file_of store path ≡ Some bytes → MakesFile store (effect store answers (makes (a_file path Append) (λ o. opens path (begun o)))) (opened_file Append path bytes)
  made_to_append path bytes is = record {
    answer_is = refl;
    made_is = refl;
    is_file = record {
      kind_is = last_is store.kinds (a_file path Append);
      bytes_are = ap (λ (content : Option (List ℕ)). unwrap_or content []) is;
      offset_is = begins store.at;
      closed_is = is_open store.at;
    };
    elsewhere = elsewhere;
    rest_stays = refl;
  }
    where
      elsewhere : (l : SeenLocation) → is_of_file new path l ≡ false → (after (effect store answers (makes (a_file path Append) (λ o. opens path (begun o)))) store).at l ≡ store.at l
      elsewhere (offset_at p) apart = ap (λ b. if b then Some (offset_is 0) else store.at (offset_at p)) apart
      elsewhere (closed_at p) apart = ap (λ b. if b then Some (closed_is false) else store.at (closed_at p)) apart
      elsewhere l apart = refl

  module _ (tested : PlacesTested) (path : List ℕ) where
    itself : bytes_eq path path ≡ true
    itself = (tested (file_at path) (file_at path)).1 refl

    made_empty : (mode : Mode) → then_opened mode path store.opened ≡ with_path path store.opened
        → MakesFile store (effect store answers (makes (a_file path mode) (λ o. write (file_at path) (file_is []) (opens path (begun o))))) (opened_file mode path [])
    made_empty mode noted = record {
      answer_is = refl;
      made_is = refl;
      is_file = record {
        kind_is = last_is store.kinds (a_file path mode);
        bytes_are = ap (λ b. unwrap_or (file_in (if b then Some (file_is []) else store.at (file_at path))) []) itself;
        offset_is = begins store.at;
        closed_is = is_open store.at;
      };
      elsewhere = elsewhere;
      rest_stays = ap (λ (opened : List (List ℕ)). record store { at = (after (effect store answers (makes (a_file path mode) (λ o. write (file_at path) (file_is []) (opens path (begun o))))) store).at; kinds = store.kinds ++ a_file path mode ∷ []; opened = opened }) (sym noted);
    }
      where
        elsewhere : (l : SeenLocation) → is_of_file new path l ≡ false → (after (effect store answers (makes (a_file path mode) (λ o. write (file_at path) (file_is []) (opens path (begun o))))) store).at l ≡ store.at l
        elsewhere (file_at other) apart = ap (λ b. if b then Some (file_is []) else store.at (file_at other)) apart
        elsewhere (offset_at p) apart = ap (λ b. if b then Some (offset_is 0) else store.at (offset_at p)) apart
        elsewhere (closed_at p) apart = ap (λ b. if b then Some (closed_is false) else store.at (closed_at p)) apart
        elsewhere l apart = refl

    made_by : (content : Option (List ℕ)) → file_of store path ≡ content → MakesFile store (effect store answers (append_by path content)) (opened_to_append path content)
    made_by (Some bytes) is = made_to_append path bytes is
    made_by None is = made_empty Append refl

    pub opened_for_writing : is_path path ≡ true → MakesFile store (effect store answers (open_plan (text path ∷ text (codes "w") ∷ []))) (emptied path)
    opened_for_writing is = subst (λ (b : Bool). MakesFile store (effect store answers (at_path path (open_to_write path) b)) (emptied path)) (sym is) (made_empty Write refl)

    pub opened_for_appending : is_path path ≡ true → IsKnown store answers path → MakesFile store (effect store answers (open_plan (text path ∷ text (codes "a") ∷ []))) (opened_to_append path (file_of store path))
    opened_for_appending is known = subst (λ (b : Bool). MakesFile store (effect store answers (at_path path (open_to_append path) b)) (opened_to_append path (file_of store path))) (sym is)
        (makes_same (open_to_append path) (append_by path (file_of store path)) (opened_to_append path (file_of store path)) (known_goes path (append_by path) known) (made_by (file_of store path) refl))

  module _ (path : List ℕ) (is : is_path path ≡ true) where
    pub opened_for_reading : (bytes : List ℕ) → IsKnown store answers path → file_of store path ≡ Some bytes → MakesFile store (effect store answers (open_plan (text path ∷ text (codes "r") ∷ []))) (opened_to_read path bytes)
    opened_for_reading bytes known there = subst (λ (b : Bool). MakesFile store (effect store answers (at_path path (open_to_read path) b)) (opened_to_read path bytes)) (sym is)
        (makes_same (open_to_read path) (read_by path (file_of store path)) (opened_to_read path bytes) (known_goes path (read_by path) known)
        (subst (λ (content : Option (List ℕ)). MakesFile store (effect store answers (read_by path content)) (opened_to_read path bytes)) (sym there) (made_to_read path bytes there)))

    pub opened_absent : IsKnown store answers path → file_of store path ≡ None → DoesAlone store (effect store answers (open_plan (text path ∷ text (codes "r") ∷ []))) no_file_is
    opened_absent known there = subst (λ (b : Bool). DoesAlone store (effect store answers (at_path path (open_to_read path) b)) no_file_is) (sym is)
        (alone_same store answers (effect store answers (open_to_read path)) (effect store answers (read_by path (file_of store path))) no_file_is (known_goes path (read_by path) known)
        (subst (λ (content : Option (List ℕ)). DoesAlone store (effect store answers (read_by path content)) no_file_is) (sym there) (record { outcome_is = refl; made_is = refl; after_is = refl })))

    pub read_unreadable : IsUnreadable store answers path → DoesAlone store (effect store answers (open_plan (text path ∷ text (codes "r") ∷ []))) unreadable_is
    read_unreadable bad = subst (λ (b : Bool). DoesAlone store (effect store answers (at_path path (open_to_read path) b)) unreadable_is) (sym is)
        (alone_same store answers (effect store answers (open_to_read path)) (effect store answers bad_file) unreadable_is (unreadable_goes path (read_by path) bad) (record { outcome_is = refl; made_is = refl; after_is = refl }))

    pub append_unreadable : IsUnreadable store answers path → DoesAlone store (effect store answers (open_plan (text path ∷ text (codes "a") ∷ []))) unreadable_is
    append_unreadable bad = subst (λ (b : Bool). DoesAlone store (effect store answers (at_path path (open_to_append path) b)) unreadable_is) (sym is)
        (alone_same store answers (effect store answers (open_to_append path)) (effect store answers bad_file) unreadable_is (unreadable_goes path (append_by path) bad) (record { outcome_is = refl; made_is = refl; after_is = refl }))

  module _ (path mode : List ℕ) where
    abbrev by_mode : Bool → Bool → Bool → Bool → Plan
    by_mode p r w a = if r then at_path path (open_to_read path) p else if w then at_path path (open_to_write path) p else if a then at_path path (open_to_append path) p else fault value_error (codes "bad mode")

    pub opened_nowhere : is_path path ≡ false → is_mode mode ≡ true → DoesAlone store (effect store answers (open_plan (text path ∷ text mode ∷ []))) bad_path_is
    opened_nowhere is known = subst (λ (b : Bool). DoesAlone store (effect store answers (by_mode b (bytes_eq mode (codes "r")) (bytes_eq mode (codes "w")) (bytes_eq mode (codes "a")))) bad_path_is) (sym is)
        (by_modes (bytes_eq mode (codes "r")) (bytes_eq mode (codes "w")) (bytes_eq mode (codes "a")) known)
      where
        by_modes : (r w a : Bool) → (r || (w || a)) ≡ true → DoesAlone store (effect store answers (by_mode false r w a)) bad_path_is
        by_modes true w a one = record { outcome_is = refl; made_is = refl; after_is = refl }
        by_modes false true a one = record { outcome_is = refl; made_is = refl; after_is = refl }
        by_modes false false true one = record { outcome_is = refl; made_is = refl; after_is = refl }
        by_modes false false false one = absurd (differ (sym one))

    pub opened_otherwise : is_mode mode ≡ false → DoesAlone store (effect store answers (open_plan (text path ∷ text mode ∷ []))) bad_mode_is
    opened_otherwise none = by_modes (bytes_eq mode (codes "r")) (bytes_eq mode (codes "w")) (bytes_eq mode (codes "a")) none
      where
        by_modes : (r w a : Bool) → (r || (w || a)) ≡ false → DoesAlone store (effect store answers (by_mode (is_path path) r w a)) bad_mode_is
        by_modes true w a one = absurd (differ one)
        by_modes false true a one = absurd (differ one)
        by_modes false false true one = absurd (differ one)
        by_modes false false false one = record { outcome_is = refl; made_is = refl; after_is = refl }
