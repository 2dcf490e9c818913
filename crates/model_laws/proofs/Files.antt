-- Operations on files do what the table says.
use Rattle.std.proofs.Common.{◌≡◌, ◌↔◌, ℕ, ◌+◌, pos, Bool, true, false, if◌then◌else◌, List, [], ◌∷◌, ◌++◌, length, drop, Option, Some, None, unwrap_or, refl, sym, ap, subst, ◌∙◌, eq-eqb, codes}
use Rattle.std.specs.Str.{is_utf8}
use Rattle.py_value.specs.declared.access.Mode.{Mode}
use Rattle.py_value.specs.declared.access.Mode.TheVariants.{Read, Write, Append}
use Rattle.py_value.specs.Changes.{changed}
use Rattle.py_value.specs.Contents.{Contents, nothing, int, text, object}
use Rattle.py_value.specs.Same.{same_location}
use Rattle.py_value.specs.Seen.{SeenLocation, SeenContent, SeenKind, a_file, offset_at, closed_at, file_at, offset_is, closed_is, file_is, bytes_appended, reads}
use Rattle.py_model.specs.Effect.{Answers, accessed, touching, effect}
use Rattle.py_model.specs.Faults.{wrong_kind, value_error}
use Rattle.py_model.specs.Lists.{iter, iter_of, next, next_of}
use Rattle.py_model.specs.Files.{next_line, to_be_read, taken, first_line, read_plan, readline_plan, write_plan, close_plan, is_closed_fault, wrong_mode, not_utf8}
use Rattle.py_model.specs.Plan.{Plan, write, change, done, done_at_end, kind_of, read_closed, read_offset, read_file, counts, writes}
use Rattle.py_model.specs.Store.{RunStore, file_of, offset_of, closed_of}
use Rattle.py_model.specs.Texts.{size}
use Rattle.model_laws.specs.Reading.{FileValue, IsFile, is_of_file}
use Rattle.model_laws.specs.Results.{Result, leaves, throws, DoesToFile}
use Rattle.model_laws.specs.TableFiles.{if_read, if_written, taken_is, read_is, readline_is, write_is, close_is, iter_is, line_is, next_is}
use Rattle.model_laws.proofs.Effects.{does_as, ends, stays}
use Rattle.model_laws.proofs.Standing.{set}

abbrev pub PlacesTested : Type 0
PlacesTested = (l m : SeenLocation) → (same_location l m ≡ true) ↔ (l ≡ m)

abbrev left_in : Option (List ℕ) → List ℕ
left_in (Some bytes) = bytes
left_in None = []

abbrev read_by_closed : ℕ → (List ℕ → ℕ → List ℕ → Plan) → List ℕ → Mode → Bool → Plan
read_by_closed o go path mode true = is_closed_fault
read_by_closed o go path Read false = read_offset o (λ offset. read_file path (λ bytes. go path offset (drop offset (left_in bytes))))
read_by_closed o go path Write false = wrong_mode
read_by_closed o go path Append false = wrong_mode

abbrev read_by_kind : ℕ → (List ℕ → ℕ → List ℕ → Plan) → Option SeenKind → Plan
read_by_kind o go (Some (a_file path mode)) = read_closed o (read_by_closed o go path mode)
read_by_kind o go other = wrong_kind

abbrev appended : List ℕ → List ℕ → Plan
appended path bytes = counts (size bytes) (writes (change (file_at path) (bytes_appended bytes) (done (int (pos (size bytes))))))

abbrev write_by_closed : List ℕ → List ℕ → Mode → Bool → Plan
write_by_closed bytes path mode true = is_closed_fault
write_by_closed bytes path Read false = wrong_mode
write_by_closed bytes path mode false = appended path bytes

abbrev write_by_kind : ℕ → List ℕ → Option SeenKind → Plan
write_by_kind o bytes (Some (a_file path mode)) = read_closed o (write_by_closed bytes path mode)
write_by_kind o bytes other = wrong_kind

abbrev close_by_kind : ℕ → Option SeenKind → Plan
close_by_kind o (Some (a_file path mode)) = writes (write (closed_at o) (closed_is true) (done nothing))
close_by_kind o other = wrong_kind

abbrev pub offset_in : Option SeenContent → ℕ
offset_in (Some (offset_is offset)) = offset
offset_in other = 0

abbrev pub closed_in : Option SeenContent → Bool
closed_in (Some (closed_is is_closed)) = is_closed
closed_in other = false

abbrev pub file_in : Option SeenContent → Option (List ℕ)
file_in (Some (file_is bytes)) = Some bytes
file_in other = None

left_is : (found : Option (List ℕ)) → left_in found ≡ unwrap_or found []
left_is None = refl
left_is (Some bytes) = refl

appended_is : (old : Option SeenContent) (more : List ℕ) → unwrap_or (file_in (Some (changed (bytes_appended more) old))) [] ≡ unwrap_or (file_in old) [] ++ more
appended_is (Some (file_is bytes)) more = refl
appended_is other more = refl

module _ (tested : PlacesTested) (store : RunStore) (answers : Answers) (o : ℕ) (file : FileValue) (is : IsFile store o file) where
  abbrev DoesIt : Plan → Result FileValue → Type 0
  DoesIt p result = DoesToFile file.path store o (effect store answers p) result

  by_file : (f : Option SeenKind → Plan) (result : Result FileValue) → DoesIt (f (Some (a_file file.path file.mode))) result → DoesIt (kind_of o f) result
  by_file f result does = subst (λ (kind : Option SeenKind). DoesIt (f kind) result) (sym is.kind_is) does

  by_closed : (go : Bool → Plan) (result : Result FileValue) → DoesIt (go file.is_closed) result → DoesIt (read_closed o go) result
  by_closed go result does = does_as (is_of_file o file.path) IsFile store o (touching (accessed (reads (closed_at o))) (effect store answers (go (closed_of store o)))) (effect store answers (go (closed_of store o))) result refl refl refl
      (subst (λ (b : Bool). DoesIt (go b) result) (sym is.closed_is) does)

  by_rest : (go : ℕ → List ℕ → Plan) (result : Result FileValue) → DoesIt (go file.offset (drop file.offset file.bytes)) result
      → DoesIt (read_offset o (λ offset. read_file file.path (λ bytes. go offset (drop offset (left_in bytes))))) result
  by_rest go result does =
      let last = effect store answers (go (offset_of store o) (drop (offset_of store o) (left_in (file_of store file.path)))) in
      does_as (is_of_file o file.path) IsFile store o (touching (accessed (reads (offset_at o))) (touching (accessed (reads (file_at file.path))) last)) last result refl refl refl
      (subst (λ (n : ℕ). DoesIt (go n (drop n (left_in (file_of store file.path)))) result) (sym is.offset_is)
      (subst (λ (bytes : List ℕ). DoesIt (go file.offset (drop file.offset bytes)) result) (sym (left_is (file_of store file.path) ∙ is.bytes_are)) does))

  taken_does : (bytes : List ℕ) → DoesIt (taken o file.offset bytes) (taken_is file bytes)
  taken_does bytes = by_test (is_utf8 bytes)
    where
      at : ℕ
      at = file.offset + length bytes

      t : RunStore
      t = set (offset_at o) (offset_is at) store

      by_test : (b : Bool) → DoesIt (if b then counts (size bytes) (writes (write (offset_at o) (offset_is at) (done (text bytes)))) else not_utf8)
          (if b then leaves (text bytes) (record file { offset = at }) else throws value_error (text (codes "not UTF-8") ∷ []))
      by_test true = ends (is_of_file o file.path) IsFile store o (effect store answers (counts (size bytes) (writes (write (offset_at o) (offset_is at) (done (text bytes)))))) t (text bytes) (record file { offset = at }) refl refl refl refl
          (record {
            kind_is = is.kind_is;
            bytes_are = is.bytes_are;
            offset_is = ap (λ b. offset_in (if b then Some (offset_is at) else store.at (offset_at o))) (eq-eqb o o refl);
            closed_is = is.closed_is;
          })
          elsewhere
        where
          elsewhere : (l : SeenLocation) → is_of_file o file.path l ≡ false → t.at l ≡ store.at l
          elsewhere (offset_at p) apart = ap (λ b. if b then Some (offset_is at) else store.at (offset_at p)) apart
          elsewhere l apart = refl
      by_test false = record { outcome_is = refl; made_is = refl; after_is = refl }

  reading_does : (cut : List ℕ → List ℕ) → DoesIt (to_be_read o (λ path offset bytes. taken o offset (cut bytes))) (if_read file.mode file.is_closed (taken_is file (cut (drop file.offset file.bytes))))
  reading_does cut =
      let go = λ (path : List ℕ) (offset : ℕ) (bytes : List ℕ). taken o offset (cut bytes) in
      let result = if_read file.mode file.is_closed (taken_is file (cut (drop file.offset file.bytes))) in
      by_file (read_by_kind o go) result (by_closed (read_by_closed o go file.path file.mode) result (by_case file.mode file.is_closed))
    where
      by_case : (mode : Mode) (b : Bool) → DoesIt (read_by_closed o (λ path offset bytes. taken o offset (cut bytes)) file.path mode b) (if_read mode b (taken_is file (cut (drop file.offset file.bytes))))
      by_case Read true = record { outcome_is = refl; made_is = refl; after_is = refl }
      by_case Write true = record { outcome_is = refl; made_is = refl; after_is = refl }
      by_case Append true = record { outcome_is = refl; made_is = refl; after_is = refl }
      by_case Read false = by_rest (λ offset bytes. taken o offset (cut bytes)) (taken_is file (cut (drop file.offset file.bytes))) (taken_does (cut (drop file.offset file.bytes)))
      by_case Write false = record { outcome_is = refl; made_is = refl; after_is = refl }
      by_case Append false = record { outcome_is = refl; made_is = refl; after_is = refl }

  pub read_does : DoesIt (read_plan (object o ∷ [])) (read_is file)
  read_does = reading_does (λ bytes. bytes)

  pub readline_does : DoesIt (readline_plan (object o ∷ [])) (readline_is file)
  readline_does = reading_does first_line

  pub write_does : (more : List ℕ) → DoesIt (write_plan (object o ∷ text more ∷ [])) (write_is file more)
  write_does more = by_file (write_by_kind o more) (write_is file more) (by_closed (write_by_closed more file.path file.mode) (write_is file more) (by_case file.mode file.is_closed))
    where
      new : FileValue
      new = record file { bytes = file.bytes ++ more }

      c : SeenContent
      c = changed (bytes_appended more) (store.at (file_at file.path))

      t : RunStore
      t = set (file_at file.path) c store

      elsewhere : (l : SeenLocation) → is_of_file o file.path l ≡ false → t.at l ≡ store.at l
      elsewhere (file_at path) apart = ap (λ b. if b then Some c else store.at (file_at path)) apart
      elsewhere l apart = refl

      written_does : DoesIt (appended file.path more) (leaves (int (pos (size more))) new)
      written_does = ends (is_of_file o file.path) IsFile store o (effect store answers (appended file.path more)) t (int (pos (size more))) new refl refl refl refl
          (record {
            kind_is = is.kind_is;
            bytes_are = ap (λ b. unwrap_or (file_in (if b then Some c else store.at (file_at file.path))) []) ((tested (file_at file.path) (file_at file.path)).1 refl) ∙ appended_is (store.at (file_at file.path)) more
                ∙ ap (λ (old : List ℕ). old ++ more) is.bytes_are;
            offset_is = is.offset_is;
            closed_is = is.closed_is;
          })
          elsewhere

      by_case : (mode : Mode) (b : Bool) → DoesIt (write_by_closed more file.path mode b) (if_written mode b (leaves (int (pos (size more))) new))
      by_case Read true = record { outcome_is = refl; made_is = refl; after_is = refl }
      by_case Write true = record { outcome_is = refl; made_is = refl; after_is = refl }
      by_case Append true = record { outcome_is = refl; made_is = refl; after_is = refl }
      by_case Read false = record { outcome_is = refl; made_is = refl; after_is = refl }
      by_case Write false = written_does
      by_case Append false = written_does

  pub close_does : DoesIt (close_plan (object o ∷ [])) (close_is file)
  close_does = by_file (close_by_kind o) (close_is file)
      (ends (is_of_file o file.path) IsFile store o (effect store answers (writes (write (closed_at o) (closed_is true) (done nothing)))) (set (closed_at o) (closed_is true) store) nothing (record file { is_closed = true }) refl refl refl refl
      (record {
        kind_is = is.kind_is;
        bytes_are = is.bytes_are;
        offset_is = is.offset_is;
        closed_is = ap (λ b. closed_in (if b then Some (closed_is true) else store.at (closed_at o))) (eq-eqb o o refl);
      })
      elsewhere)
    where
      elsewhere : (l : SeenLocation) → is_of_file o file.path l ≡ false → (set (closed_at o) (closed_is true) store).at l ≡ store.at l
      elsewhere (closed_at p) apart = ap (λ b. if b then Some (closed_is true) else store.at (closed_at p)) apart
      elsewhere l apart = refl

  -- the next line in a `for`
  abbrev line_by : ℕ → List ℕ → Plan
  line_by offset [] = writes (write (offset_at o) (offset_is offset) done_at_end)
  line_by offset (byte ∷ bytes) = taken o offset (first_line (byte ∷ bytes))

  line_does : (bytes : List ℕ) → DoesIt (line_by file.offset bytes) (line_is file bytes)
  line_does [] = (
    record { answer_is = refl; made_is = refl; elsewhere = elsewhere; rest_stays = refl },
    record {
      kind_is = is.kind_is;
      bytes_are = is.bytes_are;
      offset_is = ap (λ b. offset_in (if b then Some (offset_is file.offset) else store.at (offset_at o))) (eq-eqb o o refl);
      closed_is = is.closed_is;
    },
  )
    where
      elsewhere : (l : SeenLocation) → is_of_file o file.path l ≡ false → (set (offset_at o) (offset_is file.offset) store).at l ≡ store.at l
      elsewhere (offset_at p) apart = ap (λ b. if b then Some (offset_is file.offset) else store.at (offset_at p)) apart
      elsewhere l apart = refl
  line_does (byte ∷ bytes) = taken_does (first_line (byte ∷ bytes))

  pub next_line_does : (turn : ℕ) (begun : Contents) → DoesIt (next next_line (object o ∷ (int (pos turn) ∷ (begun ∷ [])))) (next_is file)
  next_line_does turn begun = by_file (next_of next_line o turn begun) (next_is file)
      (by_file (read_by_kind o (λ path offset bytes. line_by offset bytes)) (next_is file) (by_closed (read_by_closed o (λ path offset bytes. line_by offset bytes) file.path file.mode) (next_is file) (by_case file.mode file.is_closed)))
    where
      by_case : (mode : Mode) (b : Bool) → DoesIt (read_by_closed o (λ path offset bytes. line_by offset bytes) file.path mode b) (if_read mode b (line_is file (drop file.offset file.bytes)))
      by_case Read true = record { outcome_is = refl; made_is = refl; after_is = refl }
      by_case Write true = record { outcome_is = refl; made_is = refl; after_is = refl }
      by_case Append true = record { outcome_is = refl; made_is = refl; after_is = refl }
      by_case Read false = by_rest line_by (line_is file (drop file.offset file.bytes)) (line_does (drop file.offset file.bytes))
      by_case Write false = record { outcome_is = refl; made_is = refl; after_is = refl }
      by_case Append false = record { outcome_is = refl; made_is = refl; after_is = refl }

  pub iter_does : DoesIt (iter (object o ∷ [])) (iter_is file)
  iter_does = by_file (iter_of o) (iter_is file) (stays (is_of_file o file.path) IsFile store o (effect store answers (writes (done nothing))) nothing file refl refl refl is)
