-- What was read under a head is read again where every content still stands.
use Rattle.std.proofs.Common.{◌≡◌, ℕ, List, [], ◌∷◌, refl, ap, ◌∙◌}
use Rattle.capture.specs.Capture.{CaptureView}
use Rattle.capture.specs.declared.answer.Asked.{Asked}
use Rattle.capture.specs.declared.ended.FileOut.{FileOut}
use Rattle.keeper.specs.declared.records.Head.{Head}
use Rattle.keeper.specs.Tables.{TablesView}
use Rattle.prov_base.specs.declared.place.Digest.{Digest}
use Rattle.prov_outside.specs.declared.folder.Found.TheVariants.{Bytes}
use Rattle.trial_keeping.specs.declared.record.FileRecord.{FileRecord}
use Rattle.trial_keeping.specs.declared.record.FinalRecord.{FinalRecord}
use Rattle.trial_keeping.specs.declared.record.FoundRecord.{FoundRecord}
use Rattle.trial_keeping.specs.declared.record.FoundRecord.TheVariants.{Content, Absent, TooLarge, Failed as Refused}
use Rattle.trial_loading.specs.Rest.{found_in, files_in, capture_in, final_in, finals_in, ContentsView, RecordsView, RestView, contents_in, rest_with, rest_in}
use Rattle.trial_tables.specs.Whole.{Check, fine, damaged, and_then, content_in}

-- what comes out fine comes out so again
abbrev Stays : {A : Type 0} → Check A → Check A → Type 0
Stays {A = A} before after = (a : A) → before ≡ fine a → after ≡ fine a

then_stays : {A B : Type 0} (before after : Check A) (go on : A → Check B) → Stays before after → ((a : A) → Stays (go a) (on a)) → Stays (and_then before go) (and_then after on)
then_stays {A = A} {B = B} (fine a) after go on first next = λ b is. ap (λ (check : Check A). and_then check on) (first a refl) ∙ next a b is
then_stays (damaged damage) after go on first next = λ b is. absurd cc

module _ (before after : TablesView) (still : (digest : Digest) (bytes : List ℕ) → content_in before digest ≡ fine bytes → content_in after digest ≡ fine bytes) where
  found_stays : (found : FoundRecord) → Stays (found_in before found) (found_in after found)
  found_stays (Content digest) =
      then_stays (content_in before digest) (content_in after digest) (λ bytes. fine (Bytes bytes)) (λ bytes. fine (Bytes bytes)) (still digest) (λ bytes found is. is)
  found_stays Absent = λ found is. is
  found_stays TooLarge = λ found is. is
  found_stays Refused = λ found is. is

  files_stay : (files : List FileRecord) → Stays (files_in before files) (files_in after files)
  files_stay [] = λ found is. is
  files_stay (file ∷ files) =
      then_stays (found_in before file.found) (found_in after file.found)
      (λ found. and_then (files_in before files) (λ others. fine ((file.path, found) ∷ others))) (λ found. and_then (files_in after files) (λ others. fine ((file.path, found) ∷ others)))
      (found_stays file.found)
      (λ found. then_stays (files_in before files) (files_in after files) (λ others. fine ((file.path, found) ∷ others)) (λ others. fine ((file.path, found) ∷ others)) (files_stay files)
      (λ others all is. is))

  capture_stays : (kept : List Asked × List FileRecord) → Stays (capture_in before kept) (capture_in after kept)
  capture_stays kept =
      then_stays (files_in before kept.1) (files_in after kept.1) (λ files. fine (record { answers = kept.0; files = files; written = [] }))
      (λ files. fine (record { answers = kept.0; files = files; written = [] })) (files_stay kept.1) (λ files capture is. is)

  final_stays : (file : FinalRecord) → Stays (final_in before file) (final_in after file)
  final_stays file =
      then_stays (content_in before file.digest) (content_in after file.digest) (λ bytes. fine (record { path = file.path; bytes = bytes })) (λ bytes. fine (record { path = file.path; bytes = bytes }))
      (still file.digest) (λ bytes left is. is)

  finals_stay : (files : List FinalRecord) → Stays (finals_in before files) (finals_in after files)
  finals_stay [] = λ left is. is
  finals_stay (file ∷ files) =
      then_stays (final_in before file) (final_in after file)
      (λ one. and_then (finals_in before files) (λ others. fine (one ∷ others))) (λ one. and_then (finals_in after files) (λ others. fine (one ∷ others)))
      (final_stays file) (λ one. then_stays (finals_in before files) (finals_in after files) (λ others. fine (one ∷ others)) (λ others. fine (one ∷ others)) (finals_stay files) (λ others all is. is))

  abbrev made_of : List ℕ → CaptureView → List FileOut → Check ContentsView
  made_of output capture finals = fine (record { output = output; capture = capture; finals = finals })

  contents_stay : (head : Head) (records : RecordsView) → Stays (contents_in before head records) (contents_in after head records)
  contents_stay head records =
      then_stays (content_in before head.output) (content_in after head.output)
      (λ output. and_then (capture_in before records.kept) (λ capture. and_then (finals_in before records.finals) (made_of output capture)))
      (λ output. and_then (capture_in after records.kept) (λ capture. and_then (finals_in after records.finals) (made_of output capture)))
      (still head.output)
      (λ output. then_stays (capture_in before records.kept) (capture_in after records.kept)
      (λ capture. and_then (finals_in before records.finals) (made_of output capture)) (λ capture. and_then (finals_in after records.finals) (made_of output capture))
      (capture_stays records.kept)
      (λ capture. then_stays (finals_in before records.finals) (finals_in after records.finals) (made_of output capture) (made_of output capture) (finals_stay records.finals) (λ finals all is. is)))

  pub rest_stays : (head : Head) (records : RecordsView) (rest : RestView) → rest_in before head records ≡ fine rest → rest_in after head records ≡ fine rest
  rest_stays head records rest is =
      then_stays (contents_in before head records) (contents_in after head records) (λ contents. fine (rest_with records contents)) (λ contents. fine (rest_with records contents))
      (contents_stay head records) (λ contents all is. is) rest is
