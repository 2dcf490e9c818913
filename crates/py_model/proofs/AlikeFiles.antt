-- Operations on files and devices are alike for corresponding operands.
use Rattle.std.proofs.Common.{◌≡◌, ℕ, zero, suc, ◌%◌, ℤ, pos, negsuc, ◌+ℤ◌, ◌-ℤ◌, Bool, true, false, List, [], ◌∷◌, drop, Option, Some, None, if◌then◌else◌, option_map, codes, refl, sym, subst}
use Rattle.std.specs.Str.{bytes_eq, is_utf8}
use Rattle.prov_base.specs.Path.{is_path}
use Rattle.py_value.specs.Contents.{nothing, int, text, object}
use Rattle.py_value.specs.Seen.{SeenKind, a_file, file_at, offset_at, closed_at, file_is, offset_is, closed_is, bytes_appended}
use Rattle.py_value.specs.declared.access.Mode.{Mode}
use Rattle.py_value.specs.declared.access.Mode.TheVariants.{Read, Write, Append}
use Rattle.py_model.proofs.AlikeArithmetic.{number_stays}
use Rattle.py_model.proofs.AlikeComparing.{if_alike}
use Rattle.py_model.proofs.AlikeItems.{next_alike}
use Rattle.py_model.proofs.AlikeOperands.{AlikeFor}
use Rattle.py_model.proofs.AlikeWalks.{wrong_kind_alike, wrong_number_alike, fault_alike}
use Rattle.py_model.proofs.AlikePlans.{Allowed, AlikeBy, AlikeKnown, RaisesOnly, IsNoteless, known_any, not_both, both_read_file, both_read_offset, both_read_closed, both_kind, both_ask, both_count, both_print, both_writes, both_make, both_make_opening, both_make_left, AlikePlainly, both_write, both_change, both_set_and_open, both_done, both_done_at_end}
use Rattle.py_model.specs.Agreement as plans
use Rattle.py_model.specs.Agreement.{Alike}
use Rattle.py_model.specs.Orderly.{LastRead, other_read, IsOrderlyAfter}
use Rattle.py_model.specs.Tidy.{is_there, IsTidyAfter}
use Rattle.std.proofs.lemmas.Bool.{false≢true}
use Rattle.py_model.specs.Faults.{fault, os_error, eof_error, wrong_kind}
use Rattle.py_model.specs.Files.{bad_file, no_file, is_closed_fault, wrong_mode, not_utf8, device_failed, begun, with_file, open_with, open_plan, to_be_read, taken, read_plan, first_line, readline_plan, next_line, write_plan, close_plan, input_plan, time_ns_plan, drawn, no_range, draw_between, randint_plan, draw_below, randrange_plan}
use Rattle.py_model.specs.Lists.{next}
use Rattle.py_model.specs.Operands.{number_in}
use Rattle.py_model.specs.Plan.{Given, number, random_word, a_line, no_line, Found, found_bytes, absent, too_large, found_failed, write, change, opens, done, Plan, read_file, read_offset, read_closed, fetch, counts, writes, makes, done_at_end}
use Rattle.py_model.specs.Renaming.{Renaming, renamed, renamed_kind}
use Rattle.py_model.specs.Texts.{size}

module _ (may : Allowed) (r : Renaming) where
  begun_alike : (o : ℕ) → AlikePlainly r (begun o) (begun (r.objects o))
  begun_alike o = both_write tt refl refl (both_write tt refl refl (both_done refl))

  -- what stands at a path for a run
  abbrev by_found : List ℕ → (Option (List ℕ) → Plan) → Found → Plan
  by_found path go (found_bytes bytes) = read_file path go
  by_found path go absent = read_file path go
  by_found path go too_large = read_file path (λ content. bad_file)
  by_found path go found_failed = read_file path (λ content. bad_file)

  record FoundAlike (path : List ℕ) (p q : Plan) (found : Found) : Type 0 where
    pub same : Alike r p q
    pub again : RaisesOnly may.again p
    pub tidy : IsTidyAfter (if is_there found then Some path else None) p
    pub noteless : may.notes ≡ false → IsNoteless p
    pub orderly : (last : LastRead) → IsOrderlyAfter last p

  abbrev AllKnown : List ℕ → (Option (List ℕ) → Plan) → (Option (List ℕ) → Plan) → Type 0
  AllKnown path go gone = (bytes : Option (List ℕ)) → AlikeKnown path may r (go bytes) (gone bytes)

  not_read : (path : List ℕ) → AlikeBy may r (read_file path (λ content. bad_file)) (read_file path (λ content. bad_file))
  not_read path = both_read_file (λ bytes. fault_alike may r _ _)

  by_found_alike : (path : List ℕ) (go gone : Option (List ℕ) → Plan) → AllKnown path go gone → (found : Found) → FoundAlike path (by_found path go found) (by_found path gone found) found
  by_found_alike path go gone each (found_bytes bytes) = record { same = plans.both_read_file (λ v. (each v).same); again = λ v. (each v).again; tidy = λ v. (each v).tidy; noteless = λ none v. (each v).noteless none; orderly = λ last v. (each v).orderly other_read }
  by_found_alike path go gone each absent = record { same = plans.both_read_file (λ v. (each v).same); again = λ v. (each v).again; tidy = λ v. (each v).tidy; noteless = λ none v. (each v).noteless none; orderly = λ last v. (each v).orderly other_read }
  by_found_alike path go gone each too_large = record { same = (not_read path).same; again = (not_read path).again; tidy = (not_read path).tidy None; noteless = (not_read path).noteless; orderly = (not_read path).orderly }
  by_found_alike path go gone each found_failed = record { same = (not_read path).same; again = (not_read path).again; tidy = (not_read path).tidy None; noteless = (not_read path).noteless; orderly = (not_read path).orderly }

  abbrev by_opened : List ℕ → (Option (List ℕ) → Plan) → Bool → Plan
  by_opened path go true = read_file path go
  by_opened path go false = fetch path (by_found path go)

  by_opened_same : (path : List ℕ) (go gone : Option (List ℕ) → Plan) → AllKnown path go gone → (b : Bool) → Alike r (by_opened path go b) (by_opened path gone b)
  by_opened_same path go gone each true = plans.both_read_file (λ v. (each v).same)
  by_opened_same path go gone each false = plans.both_fetch (λ found. (by_found_alike path go gone each found).same)

  by_opened_again : (path : List ℕ) (go gone : Option (List ℕ) → Plan) → AllKnown path go gone → (b : Bool) → RaisesOnly may.again (by_opened path go b)
  by_opened_again path go gone each true = λ v. (each v).again
  by_opened_again path go gone each false = λ found. (by_found_alike path go gone each found).again

  by_opened_orderly : (path : List ℕ) (go gone : Option (List ℕ) → Plan) → AllKnown path go gone → (b : Bool) → IsOrderlyAfter other_read (by_opened path go b)
  by_opened_orderly path go gone each true = λ v. (each v).orderly other_read
  by_opened_orderly path go gone each false = λ found. (by_found_alike path go gone each found).orderly other_read

  by_opened_noteless : (path : List ℕ) (go gone : Option (List ℕ) → Plan) → AllKnown path go gone → may.notes ≡ false → (b : Bool) → IsNoteless (by_opened path go b)
  by_opened_noteless path go gone each none true = λ v. (each v).noteless none
  by_opened_noteless path go gone each none false = λ found. (by_found_alike path go gone each found).noteless none

  there_same : (path : List ℕ) (go : Option (List ℕ) → Plan) (found : Found) → is_there found ≡ true → by_found path go found ≡ read_file path go
  there_same path go (found_bytes bytes) is = refl
  there_same path go absent is = refl
  there_same path go too_large is = absurd (false≢true is)
  there_same path go found_failed is = absurd (false≢true is)

  with_file_alike : may.asks ≡ true → (path : List ℕ) (go gone : Option (List ℕ) → Plan) → AllKnown path go gone → AlikeBy may r (with_file path go) (with_file path gone)
  with_file_alike asks path go gone each = record {
    same = plans.both_was_opened (by_opened_same path go gone each);
    quiet = not_both may.asks asks;
    again = by_opened_again path go gone each;
    tidy = λ known. (
      record { read = go; gone = by_found path go; opened_is = refl; fetched_is = refl; there_is = there_same path go },
      (λ v. (each v).tidy),
      (λ found. (by_found_alike path go gone each found).tidy),
    );
    noteless = by_opened_noteless path go gone each;
    orderly = λ last. by_opened_orderly path go gone each;
  }

  -- `open`
  abbrev to_read : List ℕ → Option (List ℕ) → Plan
  to_read path (Some bytes) = makes (a_file path Read) begun
  to_read path None = no_file

  to_read_alike : (path : List ℕ) → AllKnown path (to_read path) (to_read path)
  to_read_alike path (Some bytes) = known_any (both_make refl begun_alike)
  to_read_alike path None = known_any (fault_alike may r _ _)

  abbrev to_append : List ℕ → Option (List ℕ) → Plan
  to_append path (Some bytes) = makes (a_file path Append) (λ o. opens path (begun o))
  to_append path None = makes (a_file path Append) (λ o. write (file_at path) (file_is []) (opens path (begun o)))

  to_append_alike : (path : List ℕ) → AllKnown path (to_append path) (to_append path)
  to_append_alike path (Some bytes) = both_make_left refl begun_alike
  to_append_alike path None = known_any (both_make_opening refl (λ o. both_set_and_open (begun_alike o)))

  abbrev at_path : List ℕ → Plan → Plan
  at_path path plan = if is_path path then plan else fault os_error (codes "bad path")

  at_path_alike : (path : List ℕ) (p q : Plan) → AlikeBy may r p q → AlikeBy may r (at_path path p) (at_path path q)
  at_path_alike path p q both = if_alike may r (is_path path) (is_path path) _ _ _ _ refl both (fault_alike may r _ _)

  open_with_alike : may.asks ≡ true → (path mode : List ℕ) → AlikeBy may r (open_with path mode) (open_with path mode)
  open_with_alike asks path mode =
      if_alike may r (bytes_eq mode (codes "r")) (bytes_eq mode (codes "r")) _ _ _ _ refl (at_path_alike path _ _ (with_file_alike asks path (to_read path) (to_read path) (to_read_alike path)))
      (if_alike may r (bytes_eq mode (codes "w")) (bytes_eq mode (codes "w")) _ _ _ _ refl (at_path_alike path _ _ (both_make_opening refl (λ o. both_set_and_open (begun_alike o))))
      (if_alike may r (bytes_eq mode (codes "a")) (bytes_eq mode (codes "a")) _ _ _ _ refl (at_path_alike path _ _ (with_file_alike asks path (to_append path) (to_append path) (to_append_alike path)))
      (fault_alike may r _ _)))

  pub open_alike : may.asks ≡ true → AlikeFor may r open_plan
  open_alike asks (text path ∷ []) = open_with_alike asks path (codes "r")
  open_alike asks (text path ∷ text mode ∷ []) = open_with_alike asks path mode
  open_alike asks (other ∷ []) = wrong_kind_alike may r
  open_alike asks (other ∷ more ∷ []) = wrong_kind_alike may r
  open_alike asks values = wrong_number_alike may r

  -- reading
  abbrev left_of : Option (List ℕ) → List ℕ
  left_of (Some bytes) = bytes
  left_of None = []

  abbrev read_by_closed : ℕ → (List ℕ → ℕ → List ℕ → Plan) → List ℕ → Mode → Bool → Plan
  read_by_closed o go path mode true = is_closed_fault
  read_by_closed o go path Read false = read_offset o (λ offset. read_file path (λ bytes. go path offset (drop offset (left_of bytes))))
  read_by_closed o go path Write false = wrong_mode
  read_by_closed o go path Append false = wrong_mode

  read_by_closed_alike : (o : ℕ) (go gone : List ℕ → ℕ → List ℕ → Plan) → ((path : List ℕ) (offset : ℕ) (bytes : List ℕ) → AlikeBy may r (go path offset bytes) (gone path offset bytes))
      → (path : List ℕ) (mode : Mode) (b : Bool) → AlikeBy may r (read_by_closed o go path mode b) (read_by_closed (r.objects o) gone path mode b)
  read_by_closed_alike o go gone each path mode true = fault_alike may r _ _
  read_by_closed_alike o go gone each path Read false = both_read_offset (λ offset. both_read_file (λ bytes. each path offset (drop offset (left_of bytes))))
  read_by_closed_alike o go gone each path Write false = fault_alike may r _ _
  read_by_closed_alike o go gone each path Append false = fault_alike may r _ _

  abbrev read_by_kind : ℕ → (List ℕ → ℕ → List ℕ → Plan) → Option SeenKind → Plan
  read_by_kind o go (Some (a_file path mode)) = read_closed o (read_by_closed o go path mode)
  read_by_kind o go other = wrong_kind

  read_by_kind_alike : (o : ℕ) (go gone : List ℕ → ℕ → List ℕ → Plan) → ((path : List ℕ) (offset : ℕ) (bytes : List ℕ) → AlikeBy may r (go path offset bytes) (gone path offset bytes))
      → (kind : Option SeenKind) → AlikeBy may r (read_by_kind o go kind) (read_by_kind (r.objects o) gone (option_map (renamed_kind r) kind))
  read_by_kind_alike o go gone each (Some (a_file path mode)) = both_read_closed (read_by_closed_alike o go gone each path mode)
  read_by_kind_alike o go gone each other = wrong_kind_alike may r

  to_be_read_alike : (o : ℕ) (go gone : List ℕ → ℕ → List ℕ → Plan) → ((path : List ℕ) (offset : ℕ) (bytes : List ℕ) → AlikeBy may r (go path offset bytes) (gone path offset bytes))
      → AlikeBy may r (to_be_read o go) (to_be_read (r.objects o) gone)
  to_be_read_alike o go gone each = both_kind (read_by_kind_alike o go gone each)

  taken_alike : (o offset : ℕ) (bytes : List ℕ) → AlikeBy may r (taken o offset bytes) (taken (r.objects o) offset bytes)
  taken_alike o offset bytes = if_alike may r (is_utf8 bytes) (is_utf8 bytes) _ _ _ _ refl (both_count refl (both_writes (both_write tt refl refl (both_done refl)))) (fault_alike may r _ _)

  pub read_alike : AlikeFor may r read_plan
  read_alike (object o ∷ []) = to_be_read_alike o _ _ (λ path offset bytes. taken_alike o offset bytes)
  read_alike (other ∷ []) = wrong_kind_alike may r
  read_alike values = wrong_number_alike may r

  pub readline_alike : AlikeFor may r readline_plan
  readline_alike (object o ∷ []) = to_be_read_alike o _ _ (λ path offset bytes. taken_alike o offset (first_line bytes))
  readline_alike (other ∷ []) = wrong_kind_alike may r
  readline_alike values = wrong_number_alike may r

  abbrev line_or_end : ℕ → ℕ → List ℕ → Plan
  line_or_end o offset [] = writes (write (offset_at o) (offset_is offset) done_at_end)
  line_or_end o offset (byte ∷ bytes) = taken o offset (first_line (byte ∷ bytes))

  line_or_end_alike : (o offset : ℕ) (bytes : List ℕ) → AlikeBy may r (line_or_end o offset bytes) (line_or_end (r.objects o) offset bytes)
  line_or_end_alike o offset [] = both_writes (both_write tt refl refl both_done_at_end)
  line_or_end_alike o offset (byte ∷ bytes) = taken_alike o offset (first_line (byte ∷ bytes))

  next_line_alike : (o : ℕ) → AlikeBy may r (next_line o) (next_line (r.objects o))
  next_line_alike o = to_be_read_alike o (λ path offset bytes. line_or_end o offset bytes) (λ path offset bytes. line_or_end (r.objects o) offset bytes)
      (λ path offset bytes. line_or_end_alike o offset bytes)

  pub next_turn_alike : AlikeFor may r (next next_line)
  next_turn_alike = next_alike may r next_line next_line_alike

  -- writing and closing
  abbrev write_by_closed : List ℕ → List ℕ → Mode → Bool → Plan
  write_by_closed bytes path mode true = is_closed_fault
  write_by_closed bytes path Read false = wrong_mode
  write_by_closed bytes path mode false = counts (size bytes) (writes (change (file_at path) (bytes_appended bytes) (done (int (pos (size bytes))))))

  write_by_closed_alike : (bytes path : List ℕ) (mode : Mode) (b : Bool) → AlikeBy may r (write_by_closed bytes path mode b) (write_by_closed bytes path mode b)
  write_by_closed_alike bytes path mode true = fault_alike may r _ _
  write_by_closed_alike bytes path Read false = fault_alike may r _ _
  write_by_closed_alike bytes path mode false = both_count refl (both_writes (both_change tt refl refl (both_done refl)))

  abbrev write_by_kind : ℕ → List ℕ → Option SeenKind → Plan
  write_by_kind o bytes (Some (a_file path mode)) = read_closed o (write_by_closed bytes path mode)
  write_by_kind o bytes other = wrong_kind

  write_by_kind_alike : (o : ℕ) (bytes : List ℕ) (kind : Option SeenKind) → AlikeBy may r (write_by_kind o bytes kind) (write_by_kind (r.objects o) bytes (option_map (renamed_kind r) kind))
  write_by_kind_alike o bytes (Some (a_file path mode)) = both_read_closed (write_by_closed_alike bytes path mode)
  write_by_kind_alike o bytes other = wrong_kind_alike may r

  pub write_alike : AlikeFor may r write_plan
  write_alike (object o ∷ text bytes ∷ []) = both_kind (write_by_kind_alike o bytes)
  write_alike (one ∷ other ∷ []) = wrong_kind_alike may r
  write_alike values = wrong_number_alike may r

  abbrev close_by_kind : ℕ → Option SeenKind → Plan
  close_by_kind o (Some (a_file path mode)) = writes (write (closed_at o) (closed_is true) (done nothing))
  close_by_kind o other = wrong_kind

  close_by_kind_alike : (o : ℕ) (kind : Option SeenKind) → AlikeBy may r (close_by_kind o kind) (close_by_kind (r.objects o) (option_map (renamed_kind r) kind))
  close_by_kind_alike o (Some (a_file path mode)) = both_writes (both_write tt refl refl (both_done refl))
  close_by_kind_alike o other = wrong_kind_alike may r

  pub close_alike : AlikeFor may r close_plan
  close_alike (object o ∷ []) = both_kind (close_by_kind_alike o)
  close_alike (other ∷ []) = wrong_kind_alike may r
  close_alike values = wrong_number_alike may r

  -- devices
  abbrev line_given : Given → Plan
  line_given (a_line bytes) = if is_utf8 bytes then counts (size bytes) (writes (done (text bytes))) else not_utf8
  line_given no_line = fault eof_error (codes "end of input")
  line_given other = device_failed

  line_given_alike : (given : Given) → AlikeBy may r (line_given given) (line_given given)
  line_given_alike (a_line bytes) = if_alike may r (is_utf8 bytes) (is_utf8 bytes) _ _ _ _ refl (both_count refl (both_writes (both_done refl))) (fault_alike may r _ _)
  line_given_alike no_line = fault_alike may r _ _
  line_given_alike other = fault_alike may r _ _

  pub input_alike : may.asks ≡ true → AlikeFor may r input_plan
  input_alike asks [] = both_print (both_count refl (both_ask asks line_given_alike))
  input_alike asks (text prompt ∷ []) = both_print (both_count refl (both_ask asks line_given_alike))
  input_alike asks (other ∷ []) = wrong_kind_alike may r
  input_alike asks values = wrong_number_alike may r

  abbrev time_given : Given → Plan
  time_given (number i) = writes (done (int i))
  time_given other = device_failed

  time_given_alike : (given : Given) → AlikeBy may r (time_given given) (time_given given)
  time_given_alike (number i) = both_writes (both_done refl)
  time_given_alike other = fault_alike may r _ _

  pub time_ns_alike : may.asks ≡ true → AlikeFor may r time_ns_plan
  time_ns_alike asks (receiver ∷ []) = both_ask asks time_given_alike
  time_ns_alike asks values = wrong_number_alike may r

  abbrev word_given : ℤ → ℕ → Given → Plan
  word_given start many (random_word w) = writes (done (int (start +ℤ pos (w % many))))
  word_given start many other = device_failed

  word_given_alike : (start : ℤ) (many : ℕ) (given : Given) → AlikeBy may r (word_given start many given) (word_given start many given)
  word_given_alike start many (random_word w) = both_writes (both_done refl)
  word_given_alike start many other = fault_alike may r _ _

  drawn_alike : may.asks ≡ true → (start : ℤ) (many : ℕ) → AlikeBy may r (drawn start many) (drawn start many)
  drawn_alike asks start many = both_ask asks (word_given_alike start many)

  abbrev by_width : ℤ → ℤ → Plan
  by_width low (pos more) = drawn low (suc more)
  by_width low (negsuc less) = no_range

  by_width_alike : may.asks ≡ true → (low width : ℤ) → AlikeBy may r (by_width low width) (by_width low width)
  by_width_alike asks low (pos more) = drawn_alike asks low (suc more)
  by_width_alike asks low (negsuc less) = fault_alike may r _ _

  draw_between_alike : may.asks ≡ true → (low high : Option ℤ) → AlikeBy may r (draw_between low high) (draw_between low high)
  draw_between_alike asks (Some low) (Some high) = by_width_alike asks low (high -ℤ low)
  draw_between_alike asks low high = wrong_kind_alike may r

  pub randint_alike : may.asks ≡ true → AlikeFor may r randint_plan
  randint_alike asks (receiver ∷ low ∷ high ∷ []) =
      subst (λ a. AlikeBy may r (draw_between (number_in low) (number_in high)) (draw_between a (number_in (renamed r high)))) (sym (number_stays may r low))
      (subst (λ b. AlikeBy may r (draw_between (number_in low) (number_in high)) (draw_between (number_in low) b)) (sym (number_stays may r high))
      (draw_between_alike asks (number_in low) (number_in high)))
  randint_alike asks values = wrong_number_alike may r

  draw_below_alike : may.asks ≡ true → (bound : Option ℤ) → AlikeBy may r (draw_below bound) (draw_below bound)
  draw_below_alike asks (Some (pos zero)) = fault_alike may r _ _
  draw_below_alike asks (Some (pos (suc n))) = drawn_alike asks (pos 0) (suc n)
  draw_below_alike asks (Some (negsuc n)) = fault_alike may r _ _
  draw_below_alike asks None = wrong_kind_alike may r

  pub randrange_alike : may.asks ≡ true → AlikeFor may r randrange_plan
  randrange_alike asks (receiver ∷ bound ∷ []) = subst (λ b. AlikeBy may r (draw_below (number_in bound)) (draw_below b)) (sym (number_stays may r bound)) (draw_below_alike asks (number_in bound))
  randrange_alike asks values = wrong_number_alike may r
