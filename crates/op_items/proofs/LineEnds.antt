-- How the next line of a file ends.
use Rattle.std.proofs.Common.{◌≡◌, ◌∙◌, refl, ap, ℕ, ◌+◌, length, List, [], ◌∷◌, ◌++◌, slice_get, Some, IsSome, Result, Ok, Err, Bool, true, false, if◌then◌else◌}
use Rattle.std.specs.Result.{OnOk, OnErr, IfErr}
use Rattle.std.specs.Str.{is_utf8}
use Rattle.object_store.specs.Store.{file_at, kinds}
use Rattle.op_items.specs.Lines.{line_or_end}
use Rattle.op_work.specs.declared.stop.Stop.{Stop}
use Rattle.op_work.specs.declared.stop.Stop.TheVariants.{Raises, TooDear, Memory}
use Rattle.op_work.specs.Work.{WorkView, IsUnpaid, IsNamedResult, Comes, WroteAll, seen_kind, is_any}
use Rattle.op_work.proofs.Going.{kept_same, stays}
use Rattle.py_model.specs.Effect.{written}
use Rattle.py_model.specs.Files.{taken, not_utf8}
use Rattle.py_model.specs.Plan.{Plan, read_file, counts, writes, write, done, done_at_end}
use Rattle.py_model.specs.Texts.{size}
use Rattle.py_model.specs.declared.moment.Answer.TheVariants.{End}
use Rattle.py_value.specs.Contents.{text}
use Rattle.py_value.specs.Seen.{bytes_of, offset_at, offset_is}
use Rattle.py_value.specs.declared.access.Access.TheVariants.{Read}
use Rattle.py_value.specs.declared.access.Kind.TheVariants.{File as FileKind}
use Rattle.py_value.specs.declared.access.Location.TheVariants.{File}
use Rattle.py_value.specs.declared.access.Mode.{Mode}

abbrev Reading : ℕ → WorkView → WorkView → Result (Unit {0}) Stop → Type 0
Reading path old new result = Comes is_any (λ table (unit : Unit {0}). file_at old.store path) (λ table. read_file (bytes_of table path)) old new result

-- the store has the file of an open file object in any run
pub opened_reads : (o path : ℕ) (mode : Mode) {old new : WorkView} → slice_get (kinds old.store) o ≡ Some (FileKind path mode) → (result : Result (Unit {0}) Stop)
    → (IsSome (file_at old.store path) → Reading path old new result)
    → OnOk result (new ≡ record old { touched = old.touched ++ Read (File path) ∷ [] }) → IfErr result (λ stop. IsUnpaid old 1 0 stop) → OnErr result (new ≡ old)
    → Reading path old new result
opened_reads o path mode {old} {new} kind (Ok unit) there is unpaid same = record {
  kept = kept_same (ap (λ w. w.store) is) (ap (λ w. w.made) is) (ap (λ w. w.left) is) (ap (λ w. w.values) is);
  is_named = tt;
  came = λ table store extends seen. (there (seen.opened_files o path mode kind)).came table store extends seen;
}
opened_reads o path mode {old} {new} kind (Err stop) there is unpaid same = record {
  kept = kept_same (ap (λ w. w.store) same) (ap (λ w. w.made) same) (ap (λ w. w.left) same) (ap (λ w. w.values) same);
  is_named = named stop unpaid;
  came = λ table store extends seen. (there (seen.opened_files o path mode kind)).came table store extends seen;
}
  where
    named : (stop : Stop) → IsUnpaid old 1 0 stop → IsNamedResult {T = Unit {0}} is_any new.values (Err stop)
    named (Raises class argument) unpaid = absurd unpaid
    named TooDear unpaid = tt
    named Memory unpaid = tt

-- no write is left, and the sequence is at its end
pub writes_at_end : (w : WorkView) → WroteAll (λ table. done_at_end) w w (Ok End)
writes_at_end w = record {
  kept = kept_same refl refl refl refl;
  is_named = tt;
  came = λ table store extends seen. stays table w (λ answers. written store (seen_kind table w.made) done_at_end);
}

by_utf8 : (b : Bool) (one other : Plan) → b ≡ true → (if b then one else other) ≡ one
by_utf8 true one other is = refl
by_utf8 false one other is = absurd (cc)

by_other : (b : Bool) (one other : Plan) → b ≡ false → (if b then one else other) ≡ other
by_other true one other is = absurd (cc)
by_other false one other is = refl

abbrev pub counted : ℕ → ℕ → List ℕ → Plan
counted o offset line = counts (size line) (writes (write (offset_at o) (offset_is (offset + length line)) (done (text line))))

-- a line that is not empty
some_line : (o offset : ℕ) (line : List ℕ) → (length line ≡ 0 → ⊥) → line_or_end o offset line ≡ taken o offset line
some_line o offset [] apart = absurd (apart refl)
some_line o offset (byte ∷ bytes) apart = refl

pub no_line : (o offset : ℕ) (line : List ℕ) → length line ≡ 0 → line_or_end o offset line ≡ writes (write (offset_at o) (offset_is offset) done_at_end)
no_line o offset [] is = refl
no_line o offset (byte ∷ bytes) is = cc

pub text_line : (o offset : ℕ) (line : List ℕ) → (length line ≡ 0 → ⊥) → is_utf8 line ≡ true → line_or_end o offset line ≡ counted o offset line
text_line o offset line apart is = some_line o offset line apart ∙ by_utf8 (is_utf8 line) (counted o offset line) not_utf8 is

pub other_line : (o offset : ℕ) (line : List ℕ) → (length line ≡ 0 → ⊥) → is_utf8 line ≡ false → line_or_end o offset line ≡ not_utf8
other_line o offset line apart is = some_line o offset line apart ∙ by_other (is_utf8 line) (counted o offset line) not_utf8 is
