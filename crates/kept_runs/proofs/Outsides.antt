-- Files and devices write and answer what they got: they give texts and numbers.
use Rattle.std.proofs.Common.{◌≡◌, refl, ℕ, zero, suc, ℤ, pos, negsuc, Bool, true, false, if◌then◌else◌, List, [], ◌∷◌, drop, Option, Some, None}
use Rattle.std.specs.Prelude.{◌+ℤ◌, ◌-ℤ◌, ◌%◌, codes}
use Rattle.std.specs.Str.{bytes_eq, is_utf8}
use Rattle.prov_base.specs.Path.{is_path}
use Rattle.py_value.specs.Contents.{nothing, int, text, object}
use Rattle.py_value.specs.Seen.{SeenKind, a_file, file_at, offset_at, closed_at, file_is, offset_is, closed_is, bytes_appended}
use Rattle.py_value.specs.declared.access.Mode.{Mode}
use Rattle.py_value.specs.declared.access.Mode.TheVariants.{Read, Write, Append}
use Rattle.py_model.specs.Faults.{fault, os_error, eof_error, wrong_kind}
use Rattle.py_model.specs.Files.{bad_file, no_file, is_closed_fault, wrong_mode, not_utf8, device_failed, begun, with_file, open_with, open_plan, to_be_read, taken, read_plan, first_line, readline_plan, next_line, write_plan, close_plan, input_with, input_plan, time_ns_plan, drawn, no_range, draw_between, randint_plan, draw_below, randrange_plan}
use Rattle.py_model.specs.Operands.{number_in}
use Rattle.py_model.specs.Plan.{Given, number, random_word, a_line, no_line, Found, found_bytes, absent, too_large, found_failed, Plan, read_file, read_offset, read_closed, fetch, counts, writes, write, change, makes, opens, done, done_at_end}
use Rattle.py_model.specs.Texts.{size}
use Rattle.kept_runs.proofs.Walking.{faulted, Sound, OfAll, sound_if}
use Rattle.kept_runs.proofs.Flow.{Known, KeptKind, from_file, from_offset, from_closed, from_kind, from_opened, from_ask, from_fetch, with_count, with_print, by_writes, by_make}

module _ (known : Known) where
  abbrev OfContent : (Option (List ℕ) → Plan) → Type 0
  OfContent go = (bytes : Option (List ℕ)) → Sound known (go bytes)

  abbrev by_found : List ℕ → (Option (List ℕ) → Plan) → Found → Plan
  by_found path go (found_bytes bytes) = read_file path go
  by_found path go absent = read_file path go
  by_found path go too_large = read_file path (λ content. bad_file)
  by_found path go found_failed = read_file path (λ content. bad_file)

  by_found_sound : (path : List ℕ) {go : Option (List ℕ) → Plan} → OfContent go → (found : Found) → Sound known (by_found path go found)
  by_found_sound path each (found_bytes bytes) = from_file each
  by_found_sound path each absent = from_file each
  by_found_sound path each too_large = from_file (λ content. faulted)
  by_found_sound path each found_failed = from_file (λ content. faulted)

  abbrev by_opened : List ℕ → (Option (List ℕ) → Plan) → Bool → Plan
  by_opened path go true = read_file path go
  by_opened path go false = fetch path (by_found path go)

  by_opened_sound : (path : List ℕ) {go : Option (List ℕ) → Plan} → is_path path ≡ true → OfContent go → (b : Bool) → Sound known (by_opened path go b)
  by_opened_sound path good each true = from_file each
  by_opened_sound path good each false = from_fetch good (by_found_sound path each)

  with_file_sound : (path : List ℕ) {go : Option (List ℕ) → Plan} → is_path path ≡ true → OfContent go → Sound known (with_file path go)
  with_file_sound path good each = from_opened (by_opened_sound path good each)

  abbrev to_read : List ℕ → Option (List ℕ) → Plan
  to_read path (Some bytes) = makes (a_file path Read) begun
  to_read path None = no_file

  to_read_sound : (path : List ℕ) → OfContent (to_read path)
  to_read_sound path (Some bytes) = by_make tt (λ o. (tt, (tt, refl)))
  to_read_sound path None = faulted

  abbrev to_append : List ℕ → Option (List ℕ) → Plan
  to_append path (Some bytes) = makes (a_file path Append) (λ o. opens path (begun o))
  to_append path None = makes (a_file path Append) (λ o. write (file_at path) (file_is []) (opens path (begun o)))

  to_append_sound : (path : List ℕ) → is_path path ≡ true → OfContent (to_append path)
  to_append_sound path good (Some bytes) = by_make tt (λ o. (good, (tt, (tt, refl))))
  to_append_sound path good None = by_make tt (λ o. (tt, (good, (tt, (tt, refl)))))

  at_path_sound : (path : List ℕ) {plan : Plan} → (is_path path ≡ true → Sound known plan) → Sound known (if is_path path then plan else fault os_error (codes "bad path"))
  at_path_sound path {plan = plan} going = by_test (is_path path) going
    where
      by_test : (b : Bool) → (b ≡ true → Sound known plan) → Sound known (if b then plan else fault os_error (codes "bad path"))
      by_test true going = going refl
      by_test false going = faulted

  open_with_sound : (path mode : List ℕ) → Sound known (open_with path mode)
  open_with_sound path mode =
      sound_if known (bytes_eq mode (codes "r")) (at_path_sound path (λ good. with_file_sound path good (to_read_sound path)))
      (sound_if known (bytes_eq mode (codes "w")) (at_path_sound path (λ good. by_make tt (λ o. (tt, (good, (tt, (tt, refl)))))))
      (sound_if known (bytes_eq mode (codes "a")) (at_path_sound path (λ good. with_file_sound path good (to_append_sound path good))) faulted))

  pub open_sound : OfAll known open_plan
  open_sound (text path ∷ []) all = open_with_sound path (codes "r")
  open_sound (text path ∷ (text mode ∷ [])) all = open_with_sound path mode
  open_sound (other ∷ []) all = faulted
  open_sound (other ∷ (more ∷ [])) all = faulted
  open_sound values all = faulted

  abbrev left_of : Option (List ℕ) → List ℕ
  left_of (Some bytes) = bytes
  left_of None = []

  abbrev Reading : Type 0
  Reading = List ℕ → ℕ → List ℕ → Plan

  abbrev read_by_closed : ℕ → Reading → List ℕ → Mode → Bool → Plan
  read_by_closed o go path mode true = is_closed_fault
  read_by_closed o go path Read false = read_offset o (λ offset. read_file path (λ bytes. go path offset (drop offset (left_of bytes))))
  read_by_closed o go path Write false = wrong_mode
  read_by_closed o go path Append false = wrong_mode

  read_by_closed_sound : (o : ℕ) (go : Reading) → ((path : List ℕ) (offset : ℕ) (bytes : List ℕ) → Sound known (go path offset bytes)) → (path : List ℕ) (mode : Mode) (b : Bool) → Sound known (read_by_closed o go path mode b)
  read_by_closed_sound o go each path mode true = faulted
  read_by_closed_sound o go each path Read false = from_offset (λ offset. from_file (λ bytes. each path offset (drop offset (left_of bytes))))
  read_by_closed_sound o go each path Write false = faulted
  read_by_closed_sound o go each path Append false = faulted

  abbrev read_by_kind : ℕ → Reading → Option SeenKind → Plan
  read_by_kind o go (Some (a_file path mode)) = read_closed o (read_by_closed o go path mode)
  read_by_kind o go other = wrong_kind

  read_by_kind_sound : (o : ℕ) (go : Reading) → ((path : List ℕ) (offset : ℕ) (bytes : List ℕ) → Sound known (go path offset bytes)) → (kind : Option SeenKind) → KeptKind known kind → Sound known (read_by_kind o go kind)
  read_by_kind_sound o go each (Some (a_file path mode)) is = from_closed (read_by_closed_sound o go each path mode)
  read_by_kind_sound o go each other is = faulted

  to_be_read_sound : (o : ℕ) (go : Reading) → ((path : List ℕ) (offset : ℕ) (bytes : List ℕ) → Sound known (go path offset bytes)) → Sound known (to_be_read o go)
  to_be_read_sound o go each = from_kind (read_by_kind_sound o go each)

  taken_sound : (o offset : ℕ) (bytes : List ℕ) → Sound known (taken o offset bytes)
  taken_sound o offset bytes = sound_if known (is_utf8 bytes) (with_count (by_writes (tt, tt))) faulted

  pub read_sound : OfAll known read_plan
  read_sound (object o ∷ []) all = to_be_read_sound o _ (λ path offset bytes. taken_sound o offset bytes)
  read_sound (other ∷ []) all = faulted
  read_sound values all = faulted

  pub readline_sound : OfAll known readline_plan
  readline_sound (object o ∷ []) all = to_be_read_sound o _ (λ path offset bytes. taken_sound o offset (first_line bytes))
  readline_sound (other ∷ []) all = faulted
  readline_sound values all = faulted

  abbrev by_rest : ℕ → ℕ → List ℕ → Plan
  by_rest o offset [] = writes (write (offset_at o) (offset_is offset) done_at_end)
  by_rest o offset (byte ∷ bytes) = taken o offset (first_line (byte ∷ bytes))

  by_rest_sound : (o offset : ℕ) (bytes : List ℕ) → Sound known (by_rest o offset bytes)
  by_rest_sound o offset [] = by_writes (tt, tt)
  by_rest_sound o offset (byte ∷ bytes) = taken_sound o offset (first_line (byte ∷ bytes))

  pub next_line_sound : (o : ℕ) → Sound known (next_line o)
  next_line_sound o = to_be_read_sound o (λ path offset bytes. by_rest o offset bytes) (λ path offset bytes. by_rest_sound o offset bytes)

  abbrev write_by_closed : List ℕ → List ℕ → Mode → Bool → Plan
  write_by_closed bytes path mode true = is_closed_fault
  write_by_closed bytes path Read false = wrong_mode
  write_by_closed bytes path mode false = counts (size bytes) (writes (change (file_at path) (bytes_appended bytes) (done (int (pos (size bytes))))))

  write_by_closed_sound : (bytes path : List ℕ) (mode : Mode) (b : Bool) → Sound known (write_by_closed bytes path mode b)
  write_by_closed_sound bytes path mode true = faulted
  write_by_closed_sound bytes path Read false = faulted
  write_by_closed_sound bytes path mode false = with_count (by_writes (tt, tt))

  abbrev write_by_kind : ℕ → List ℕ → Option SeenKind → Plan
  write_by_kind o bytes (Some (a_file path mode)) = read_closed o (write_by_closed bytes path mode)
  write_by_kind o bytes other = wrong_kind

  write_by_kind_sound : (o : ℕ) (bytes : List ℕ) (kind : Option SeenKind) → KeptKind known kind → Sound known (write_by_kind o bytes kind)
  write_by_kind_sound o bytes (Some (a_file path mode)) is = from_closed (write_by_closed_sound bytes path mode)
  write_by_kind_sound o bytes other is = faulted

  pub write_sound : OfAll known write_plan
  write_sound (object o ∷ (text bytes ∷ [])) all = from_kind (write_by_kind_sound o bytes)
  write_sound (one ∷ (other ∷ [])) all = faulted
  write_sound values all = faulted

  abbrev close_by_kind : ℕ → Option SeenKind → Plan
  close_by_kind o (Some (a_file path mode)) = writes (write (closed_at o) (closed_is true) (done nothing))
  close_by_kind o other = wrong_kind

  close_by_kind_sound : (o : ℕ) (kind : Option SeenKind) → KeptKind known kind → Sound known (close_by_kind o kind)
  close_by_kind_sound o (Some (a_file path mode)) is = by_writes (tt, tt)
  close_by_kind_sound o other is = faulted

  pub close_sound : OfAll known close_plan
  close_sound (object o ∷ []) all = from_kind (close_by_kind_sound o)
  close_sound (other ∷ []) all = faulted
  close_sound values all = faulted

  abbrev line_given : Given → Plan
  line_given (a_line bytes) = if is_utf8 bytes then counts (size bytes) (writes (done (text bytes))) else not_utf8
  line_given no_line = fault eof_error (codes "end of input")
  line_given other = device_failed

  line_given_sound : (given : Given) → Sound known (line_given given)
  line_given_sound (a_line bytes) = sound_if known (is_utf8 bytes) (with_count (by_writes tt)) faulted
  line_given_sound no_line = faulted
  line_given_sound other = faulted

  input_with_sound : (prompt : List ℕ) → Sound known (input_with prompt)
  input_with_sound prompt = with_print (with_count (from_ask line_given_sound))

  pub input_sound : OfAll known input_plan
  input_sound [] all = input_with_sound []
  input_sound (text prompt ∷ []) all = input_with_sound prompt
  input_sound (other ∷ []) all = faulted
  input_sound values all = faulted

  abbrev time_given : Given → Plan
  time_given (number i) = writes (done (int i))
  time_given other = device_failed

  time_given_sound : (given : Given) → Sound known (time_given given)
  time_given_sound (number i) = by_writes tt
  time_given_sound other = faulted

  pub time_ns_sound : OfAll known time_ns_plan
  time_ns_sound (receiver ∷ []) all = from_ask time_given_sound
  time_ns_sound values all = faulted

  abbrev word_given : ℤ → ℕ → Given → Plan
  word_given start many (random_word w) = writes (done (int (start +ℤ pos (w % many))))
  word_given start many other = device_failed

  word_given_sound : (start : ℤ) (many : ℕ) (given : Given) → Sound known (word_given start many given)
  word_given_sound start many (random_word w) = by_writes tt
  word_given_sound start many other = faulted

  drawn_sound : (start : ℤ) (many : ℕ) → Sound known (drawn start many)
  drawn_sound start many = from_ask (word_given_sound start many)

  abbrev by_width : ℤ → ℤ → Plan
  by_width low (pos more) = drawn low (suc more)
  by_width low (negsuc less) = no_range

  by_width_sound : (low width : ℤ) → Sound known (by_width low width)
  by_width_sound low (pos more) = drawn_sound low (suc more)
  by_width_sound low (negsuc less) = faulted

  draw_between_sound : (low high : Option ℤ) → Sound known (draw_between low high)
  draw_between_sound (Some low) (Some high) = by_width_sound low (high -ℤ low)
  draw_between_sound low high = faulted

  pub randint_sound : OfAll known randint_plan
  randint_sound (receiver ∷ (low ∷ (high ∷ []))) all = draw_between_sound (number_in low) (number_in high)
  randint_sound values all = faulted

  draw_below_sound : (bound : Option ℤ) → Sound known (draw_below bound)
  draw_below_sound (Some (pos zero)) = faulted
  draw_below_sound (Some (pos (suc n))) = drawn_sound (pos 0) (suc n)
  draw_below_sound (Some (negsuc n)) = faulted
  draw_below_sound None = faulted

  pub randrange_sound : OfAll known randrange_plan
  randrange_sound (receiver ∷ (bound ∷ [])) all = draw_below_sound (number_in bound)
  randrange_sound values all = faulted
