use Rattle.std.proofs.Common.{refl, sym, ◌∙◌, Some, None, inl, inr, arith}
use Rattle.prov_outside.specs.declared.folder.Found.TheVariants.{Bytes, Absent, TooLarge}
use Rattle.now_top.proofs.Sources.{read_always, read_found, found_bytes, found_nothing, found_large, long_list}
use Rattle.now_top.proofs.source.read_source.Goals as goal

pub returns-then-not-is_path-clause-read : goal.returns-then-not-is_path-clause-read
returns-then-not-is_path-clause-read g c = read_always _ _ _ _ _ (λ files. (refl, inl (sym c.is_path.ensures ∙ c.if-not-is_path.true)))

pub returns-in-Ok-Bytes-clause-read : goal.returns-in-Ok-Bytes-clause-read
returns-in-Ok-Bytes-clause-read g c =
    let path = c.args.file.now in
    read_found path (g.F.Folder.told c.args.folder.now) (g.F.Folder.told c.get_source.new.self) (Bytes c.in-Ok-Bytes.text) _ _ _ (rw c.in-Ok-Bytes.field-0-is at c.in-Ok-Bytes.ensures.found) (λ _. Some c.in-Ok-Bytes.text) refl
    (λ files found. ((rw c.in-Ok-Bytes.field-0-is at c.in-Ok-Bytes.ensures.cause).counted, record { path = sym c.is_path.ensures ∙ c.if-not-is_path.false; stands = found_bytes (files path) _ found }))

pub returns-in-Ok-Absent-clause-read : goal.returns-in-Ok-Absent-clause-read
returns-in-Ok-Absent-clause-read g c =
    let path = c.args.file.now in
    read_found path (g.F.Folder.told c.args.folder.now) (g.F.Folder.told c.get_source.new.self) Absent _ _ _ (rw c.in-Ok-Absent.field-0-is at c.in-Ok-Absent.ensures.found) (λ _. None) tt
    (λ files found. ((rw c.in-Ok-Absent.field-0-is at c.in-Ok-Absent.ensures.cause).counted, inr (found_nothing (files path) found)))

pub returns-in-Ok-TooLarge-clause-read : goal.returns-in-Ok-TooLarge-clause-read
returns-in-Ok-TooLarge-clause-read g c =
    let path = c.args.file.now in
    let long = long_list 16777217 in
    read_found path (g.F.Folder.told c.args.folder.now) (g.F.Folder.told c.get_source.new.self) TooLarge _ _ _ (rw c.in-Ok-TooLarge.field-0-is at c.in-Ok-TooLarge.ensures.found) (λ _. Some long.0) (omega (arith, long.1))
    (λ files found. let large = found_large (files path) found in
    ((rw c.in-Ok-TooLarge.field-0-is at c.in-Ok-TooLarge.ensures.cause).counted, (large.0, record { path = sym c.is_path.ensures ∙ c.if-not-is_path.false; stands = large.1 }, large.2, refl)))

pub returns-in-Err-Failed-clause-read : goal.returns-in-Err-Failed-clause-read
returns-in-Err-Failed-clause-read g c = read_always _ _ _ _ _ (λ files. ((rw c.in-Err-Failed.field-0-is at c.in-Err-Failed.ensures.cause).counted, (sym c.is_path.ensures ∙ c.if-not-is_path.false, refl)))

pub returns-in-Err-Memory-clause-read : goal.returns-in-Err-Memory-clause-read
returns-in-Err-Memory-clause-read g c = read_always _ _ _ _ _ (λ files. (rw c.in-Err-Memory.field-0-is at c.in-Err-Memory.ensures.cause).counted)
