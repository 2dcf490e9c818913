-- What touches say, and what a run's store is after them.
use Rattle.std.proofs.Common.{◌≡◌, refl, sym, ap, ◌∙◌, append-nil, ℕ, List, [], ◌∷◌, ◌++◌, Option}
use Rattle.std.proofs.lemmas.List.{append_assoc}
use Rattle.prov_base.specs.declared.place.Pos.{Pos}
use Rattle.py_model.specs.Effect.{Touch, accessed, looked, counted, printed, opened, noted, asked, fetched, after_touch, after_touches}
use Rattle.py_model.specs.Store.{RunStore, with_name}
use Rattle.op_work.specs.Work.{Said, said_after}
use Rattle.op_state.specs.Happening.{with_paths}

abbrev pub none_said : Said
none_said = record { bytes = []; names = []; paths = [] }

-- names that are noted, one after the other
abbrev pub with_names : List (Pos × List ℕ) → (Pos → Option (List ℕ)) → Pos → Option (List ℕ)
with_names [] names = names
with_names (note ∷ notes) names = with_names notes (with_name note.0 note.1 names)

-- one saying behind another
abbrev pub both_said : Said → Said → Said
both_said one other = record { bytes = one.bytes ++ other.bytes; names = one.names ++ other.names; paths = one.paths ++ other.paths }

pub said_apart : (touches : List Touch) (said : Said) → said_after touches said ≡ both_said said (said_after touches none_said)
said_apart [] said = ap (λ b. record said { bytes = b }) (sym (append-nil said.bytes))
    ∙ (ap (λ n. record said { bytes = said.bytes ++ []; names = n }) (sym (append-nil said.names))
    ∙ ap (λ p. record said { bytes = said.bytes ++ []; names = said.names ++ []; paths = p }) (sym (append-nil said.paths)))
said_apart (accessed access ∷ touches) said = said_apart touches said
said_apart (looked n ∷ touches) said = said_apart touches said
said_apart (counted n ∷ touches) said = said_apart touches said
said_apart (asked what ∷ touches) said = said_apart touches said
said_apart (fetched path ∷ touches) said = said_apart touches said
said_apart (printed bytes ∷ touches) said = said_apart touches (record said { bytes = said.bytes ++ bytes })
    ∙ (ap (λ b. record { bytes = b; names = said.names ++ (said_after touches none_said).names; paths = said.paths ++ (said_after touches none_said).paths })
    (append_assoc said.bytes bytes (said_after touches none_said).bytes) ∙ sym (ap (both_said said) (said_apart touches (record none_said { bytes = bytes }))))
said_apart (noted place name ∷ touches) said = said_apart touches (record said { names = said.names ++ (place, name) ∷ [] })
    ∙ (ap (λ n. record { bytes = said.bytes ++ (said_after touches none_said).bytes; names = n; paths = said.paths ++ (said_after touches none_said).paths })
    (append_assoc said.names ((place, name) ∷ []) (said_after touches none_said).names) ∙ sym (ap (both_said said) (said_apart touches (record none_said { names = (place, name) ∷ [] }))))
said_apart (opened path ∷ touches) said = said_apart touches (record said { paths = said.paths ++ path ∷ [] })
    ∙ (ap (λ p. record { bytes = said.bytes ++ (said_after touches none_said).bytes; names = said.names ++ (said_after touches none_said).names; paths = p })
    (append_assoc said.paths (path ∷ []) (said_after touches none_said).paths) ∙ sym (ap (both_said said) (said_apart touches (record none_said { paths = path ∷ [] }))))

-- what is printed, noted and opened by touches
pub printed_after : (touches : List Touch) (run : RunStore) → (after_touches touches run).printed ≡ run.printed ++ (said_after touches none_said).bytes
printed_after [] run = sym (append-nil run.printed)
printed_after (accessed access ∷ touches) run = printed_after touches (after_touch (accessed access) run)
printed_after (looked n ∷ touches) run = printed_after touches run
printed_after (counted n ∷ touches) run = printed_after touches run
printed_after (asked what ∷ touches) run = printed_after touches run
printed_after (fetched path ∷ touches) run = printed_after touches run
printed_after (printed bytes ∷ touches) run = printed_after touches (after_touch (printed bytes) run)
    ∙ (append_assoc run.printed bytes (said_after touches none_said).bytes ∙ ap (λ (s : Said). run.printed ++ s.bytes) (sym (said_apart touches (record none_said { bytes = bytes }))))
printed_after (noted place name ∷ touches) run = printed_after touches (after_touch (noted place name) run)
    ∙ ap (λ (s : Said). run.printed ++ s.bytes) (sym (said_apart touches (record none_said { names = (place, name) ∷ [] })))
printed_after (opened path ∷ touches) run = printed_after touches (after_touch (opened path) run)
    ∙ ap (λ (s : Said). run.printed ++ s.bytes) (sym (said_apart touches (record none_said { paths = path ∷ [] })))

pub opened_after : (touches : List Touch) (run : RunStore) → (after_touches touches run).opened ≡ with_paths (said_after touches none_said).paths run.opened
opened_after [] run = refl
opened_after (accessed access ∷ touches) run = opened_after touches (after_touch (accessed access) run)
opened_after (looked n ∷ touches) run = opened_after touches run
opened_after (counted n ∷ touches) run = opened_after touches run
opened_after (asked what ∷ touches) run = opened_after touches run
opened_after (fetched path ∷ touches) run = opened_after touches run
opened_after (printed bytes ∷ touches) run = opened_after touches (after_touch (printed bytes) run)
    ∙ ap (λ (s : Said). with_paths s.paths run.opened) (sym (said_apart touches (record none_said { bytes = bytes })))
opened_after (noted place name ∷ touches) run = opened_after touches (after_touch (noted place name) run)
    ∙ ap (λ (s : Said). with_paths s.paths run.opened) (sym (said_apart touches (record none_said { names = (place, name) ∷ [] })))
opened_after (opened path ∷ touches) run = opened_after touches (after_touch (opened path) run)
    ∙ ap (λ (s : Said). with_paths s.paths run.opened) (sym (said_apart touches (record none_said { paths = path ∷ [] })))

pub names_after : (touches : List Touch) (run : RunStore) → (after_touches touches run).names ≡ with_names (said_after touches none_said).names run.names
names_after [] run = refl
names_after (accessed access ∷ touches) run = names_after touches (after_touch (accessed access) run)
names_after (looked n ∷ touches) run = names_after touches run
names_after (counted n ∷ touches) run = names_after touches run
names_after (asked what ∷ touches) run = names_after touches run
names_after (fetched path ∷ touches) run = names_after touches run
names_after (printed bytes ∷ touches) run = names_after touches (after_touch (printed bytes) run)
    ∙ ap (λ (s : Said). with_names s.names run.names) (sym (said_apart touches (record none_said { bytes = bytes })))
names_after (noted place name ∷ touches) run = names_after touches (after_touch (noted place name) run)
    ∙ ap (λ (s : Said). with_names s.names run.names) (sym (said_apart touches (record none_said { names = (place, name) ∷ [] })))
names_after (opened path ∷ touches) run = names_after touches (after_touch (opened path) run)
    ∙ ap (λ (s : Said). with_names s.names run.names) (sym (said_apart touches (record none_said { paths = path ∷ [] })))

-- the kinds are those of before
pub kinds_after : (touches : List Touch) (run : RunStore) → (after_touches touches run).kinds ≡ run.kinds
kinds_after [] run = refl
kinds_after (accessed access ∷ touches) run = kinds_after touches (after_touch (accessed access) run)
kinds_after (looked n ∷ touches) run = kinds_after touches run
kinds_after (counted n ∷ touches) run = kinds_after touches run
kinds_after (asked what ∷ touches) run = kinds_after touches run
kinds_after (fetched path ∷ touches) run = kinds_after touches run
kinds_after (printed bytes ∷ touches) run = kinds_after touches (after_touch (printed bytes) run)
kinds_after (noted place name ∷ touches) run = kinds_after touches (after_touch (noted place name) run)
kinds_after (opened path ∷ touches) run = kinds_after touches (after_touch (opened path) run)
