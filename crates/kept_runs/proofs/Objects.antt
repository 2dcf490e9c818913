-- Names, classes, attributes, exceptions and what is printed write and answer what they got, and keys.
use Rattle.std.proofs.Common.{◌≡◌, refl, ℕ, zero, suc, Bool, true, false, if◌then◌else◌, List, [], ◌∷◌, ◌++◌, Option, Some, None}
use Rattle.std.specs.Prelude.{⊤, ◌+◌, ◌&&◌, ◌==◌, nat_lt, codes, pos, unwrap_or}
use Rattle.std.specs.Option.{option_map}
use Rattle.std.specs.Str.{bytes_eq}
use Rattle.prov_base.specs.declared.place.Pos.{Pos}
use Rattle.py_value.specs.Contents.{Contents, Parts, nothing, truth, int, text, tuple, range, function, class, exception_class, builtin, object, no_parts, part}
use Rattle.py_value.specs.Same.{same_value}
use Rattle.py_value.specs.Seen.{SeenKind, number_by, a_list, a_dict, an_instance, a_file, closed_at, closed_is}
use Rattle.py_model.specs.Classes.{longest_chain, is_earlier, next_class, derives, class_walk, chain_end, method_walk, end_of_chain, method_of_class, sys_module, time_module, random_module, is_module, operation, list_methods, dict_methods, text_methods, file_methods, time_methods, random_methods, class_attribute, instance_attribute, no_method_value, getattr_of_object, getattr, setattr_entry, setattr_of_object, setattr, method_found, find_of_object, find, instance_begun, make_of, make, is_class, is_kind, each_part, first_hit, object_is, value_is, answers_truth, isinstance, define, define_method, class_begun, begin_class}
use Rattle.py_model.specs.Faults.{fault, value_error, wrong_kind, not_there, too_deep, no_attribute, key_error}
use Rattle.py_model.specs.Names.{builtin_names, class_names, known as named, unset_name, load_unset, load, unset, unbind, begin_with, end_with}
use Rattle.py_model.specs.Plan.{Plan, writes, done, write, read_closed, raises, raises_again}
use Rattle.py_model.specs.Printing.{noted_name, class_name, Printer, print_items, print_parts, value_in, print_entries, print_list, print_dict, print_tuple, print_call, print_message, print_instance, print_object, print_step, print_at, print_to, printed, printed_all, print_line, print_values, answers_text, repr_of, str_of, height, key_text, commas, tuple_text, is_inside, truth_text, named_in, angled, literal, quoted_or_not, range_text, builtin_text, between}
use Rattle.py_model.specs.Numbers.{int_text}
use Rattle.py_model.specs.Raising.{read_args, raise_object, raise_class, raise, object_matches, value_matches, matches, call_failed}
use Rattle.py_model.specs.Walks.{deepest}
use Rattle.kept_runs.specs.Keys.{IsForm}
use Rattle.kept_runs.proofs.Walking.{faulted, Sound, OfOne, OfAll, tuple_kept, sound_if, read_value_sound}
use Rattle.kept_runs.proofs.Flow.{Known, KeptKey, KeptKeys, KeptValue, KeptParts, KeptOption, KeptAll, KeptEntry, KeptPlace, KeptKind, WritesKept, from_var, from_len, from_entry, from_order, from_method, from_base, from_closed, from_kind, from_name, with_look, with_count, with_print, by_writes, by_make, by_raise, by_again, by_run_away}

module _ (known : Known) where
  text_key : (name : List ℕ) → KeptKey known (text name)
  text_key name = (tt, refl)

  text_form : (name : List ℕ) → IsForm (text name)
  text_form name = (refl, refl)

  -- names
  named_kept : (name : List ℕ) → KeptOption known (named name)
  named_kept name = by_builtin (number_by (bytes_eq name) builtin_names)
    where
      by_class : (number : Option ℕ) → KeptOption known (option_map exception_class number)
      by_class None = tt
      by_class (Some number) = tt

      by_builtin : (number : Option ℕ) → KeptOption known (elim number [ Some number ↦ Some (builtin number) | None ↦ option_map exception_class (number_by (bytes_eq name) class_names) ])
      by_builtin None = by_class (number_by (bytes_eq name) class_names)
      by_builtin (Some number) = tt

  unset_name_sound : (scope : ℕ) (name : List ℕ) → Sound known (unset_name scope name)
  unset_name_sound zero name = faulted
  unset_name_sound (suc scope) name = faulted

  load_unset_sound : (scope : ℕ) (name : List ℕ) → Sound known (load_unset scope name)
  load_unset_sound zero name = by_kept (named name) (named_kept name)
    where
      by_kept : (v : Option Contents) → KeptOption known v → Sound known (elim v [ None ↦ unset_name zero name | Some v ↦ writes (done v) ])
      by_kept None is = faulted
      by_kept (Some v) is = by_writes is
  load_unset_sound (suc scope) name = faulted

  pub load_sound : (scope : ℕ) (name : List ℕ) → Sound known (load scope name)
  load_sound scope name = from_var by_variable
    where
      by_variable : (v : Option Contents) → KeptOption known v → Sound known (elim v [ None ↦ load_unset scope name | Some v ↦ writes (done v) ])
      by_variable None is = load_unset_sound scope name
      by_variable (Some v) is = by_writes is

  pub unbind_sound : (silent : Bool) (scope : ℕ) (name : List ℕ) → Sound known (unbind silent scope name)
  unbind_sound true scope name = from_var (λ v is. by_writes (tt, tt))
  unbind_sound false scope name = from_var by_variable
    where
      by_variable : (v : Option Contents) → KeptOption known v → Sound known (elim v [ None ↦ unset_name scope name | Some v ↦ unset scope name ])
      by_variable None is = unset_name_sound scope name
      by_variable (Some v) is = by_writes (tt, tt)

  abbrev open_file : ℕ → Bool → Plan
  open_file n true = fault value_error (codes "file is closed")
  open_file n false = writes (done (object n))

  open_file_sound : (n : ℕ) → KeptValue known (object n) → (b : Bool) → Sound known (open_file n b)
  open_file_sound n small true = faulted
  open_file_sound n small false = by_writes small

  abbrev with_file : ℕ → Option SeenKind → Plan
  with_file n (Some (a_file path mode)) = read_closed n (open_file n)
  with_file n other = wrong_kind

  with_file_sound : (n : ℕ) → KeptValue known (object n) → (kind : Option SeenKind) → KeptKind known kind → Sound known (with_file n kind)
  with_file_sound n small (Some (a_file path mode)) is = from_closed (open_file_sound n small)
  with_file_sound n small other is = faulted

  pub begin_with_sound : (v : Contents) → KeptValue known v → Sound known (begin_with v)
  begin_with_sound (object o) small = from_kind (with_file_sound o small)
  begin_with_sound other small = faulted

  abbrev close_file : ℕ → Option SeenKind → Plan
  close_file n (Some (a_file path mode)) = writes (write (closed_at n) (closed_is true) (done nothing))
  close_file n other = wrong_kind

  close_file_sound : (n : ℕ) (kind : Option SeenKind) → KeptKind known kind → Sound known (close_file n kind)
  close_file_sound n (Some (a_file path mode)) is = by_writes (tt, tt)
  close_file_sound n other is = faulted

  pub end_with_sound : (v : Contents) → Sound known (end_with v)
  end_with_sound (object o) = from_kind (close_file_sound o)
  end_with_sound other = faulted

  -- classes
  next_kept : (place : Pos) (base : Option Contents) → KeptOption known base → KeptOption known (next_class place base)
  next_kept place (Some (class base)) is = by_test (is_earlier base place)
    where
      by_test : (test : Bool) → KeptOption known (if test then Some (class base) else None)
      by_test true = is
      by_test false = tt
  next_kept place (Some (exception_class number)) is = tt
  next_kept place other is = tt

  abbrev walk_on : (Contents → Plan) → Plan → Option Contents → Plan
  walk_on next stop None = stop
  walk_on next stop (Some v) = next v

  walk_on_sound : {next : Contents → Plan} {stop : Plan} → OfOne known next → Sound known stop → (v : Option Contents) → KeptOption known v → Sound known (walk_on next stop v)
  walk_on_sound each last None is = last
  walk_on_sound each last (Some v) is = each v is

  class_walk_sound : (fuel : ℕ) (sought of : Contents) (go : Bool → Plan) → KeptValue known of → ((b : Bool) → Sound known (go b)) → Sound known (class_walk fuel sought of go)
  class_walk_sound zero sought of go is each = by_run_away
  class_walk_sound (suc fuel) sought (class place) go is each =
      sound_if known (same_value sought (class place)) (each true)
      (from_base (λ base so. walk_on_sound {next = λ v. class_walk fuel sought v go} {stop = go false} (λ v are. class_walk_sound fuel sought v go are each) (each false) (next_class place base) (next_kept place base so)))
  class_walk_sound (suc fuel) (exception_class from) (exception_class number) go is each = each (derives 19 number from)
  class_walk_sound (suc fuel) sought other go is each = each false

  chain_end_sound : (fuel : ℕ) (of : Contents) (go : Option ℕ → Plan) → KeptValue known of → ((end : Option ℕ) → Sound known (go end)) → Sound known (chain_end fuel of go)
  chain_end_sound zero of go is each = by_run_away
  chain_end_sound (suc fuel) (class place) go is each =
      from_base (λ base so. walk_on_sound {next = λ v. chain_end fuel v go} {stop = go None} (λ v are. chain_end_sound fuel v go are each) (each None) (next_class place base) (next_kept place base so))
  chain_end_sound (suc fuel) (exception_class number) go is each = each (Some number)
  chain_end_sound (suc fuel) other go is each = each None

  abbrev method_or : (Option Pos → Plan) → Plan → Option Pos → Plan
  method_or go next (Some at) = go (Some at)
  method_or go next None = next

  method_or_sound : {go : Option Pos → Plan} {next : Plan} → ((at : Option Pos) → KeptPlace known at → Sound known (go at)) → Sound known next
      → (at : Option Pos) → KeptPlace known at → Sound known (method_or go next at)
  method_or_sound each next (Some at) is = each (Some at) is
  method_or_sound each next None is = next

  method_walk_sound : (fuel : ℕ) (name : List ℕ) (of : Contents) (go : Option Pos → Plan) → KeptValue known of → ((at : Option Pos) → KeptPlace known at → Sound known (go at)) → Sound known (method_walk fuel name of go)
  method_walk_sound zero name of go is each = by_run_away
  method_walk_sound (suc fuel) name (class place) go is each =
      from_method (method_or_sound {go = go} each
      (from_base (λ base so. walk_on_sound {next = λ v. method_walk fuel name v go} {stop = go None} (λ v are. method_walk_sound fuel name v go are each) (each None tt) (next_class place base) (next_kept place base so))))
  method_walk_sound (suc fuel) name other go is each = each None tt

  end_sound : (of : Contents) (go : Option ℕ → Plan) → KeptValue known of → ((end : Option ℕ) → Sound known (go end)) → Sound known (end_of_chain of go)
  end_sound of go is each = chain_end_sound longest_chain of go is each

  method_sound : (name : List ℕ) (of : Contents) (go : Option Pos → Plan) → KeptValue known of → ((at : Option Pos) → KeptPlace known at → Sound known (go at)) → Sound known (method_of_class name of go)
  method_sound name of go is each = method_walk_sound longest_chain name of go is each

  operation_sound : (first : ℕ) (names : List (List ℕ)) (name : List ℕ) → Sound known (operation first names name)
  operation_sound first names name = by_number (number_by (bytes_eq name) names)
    where
      by_number : (place : Option ℕ) → Sound known (elim place [ None ↦ not_there | Some place ↦ writes (done (builtin (first + place))) ])
      by_number None = faulted
      by_number (Some place) = by_writes tt

  abbrev MethodSound : (Pos → Plan) → Type 0
  MethodSound when_method = (at : Pos) → known.at at ≡ true → Sound known (when_method at)

  class_attribute_sound : (name : List ℕ) (when_method : Pos → Plan) → MethodSound when_method → (of : Contents) → KeptValue known of → Sound known (class_attribute name when_method of)
  class_attribute_sound name when_method methods of is = method_sound name of _ is by_method
    where
      by_method : (at : Option Pos) → KeptPlace known at → Sound known (elim at [ None ↦ no_attribute name | Some at ↦ when_method at ])
      by_method None so = faulted
      by_method (Some at) so = methods at so

  instance_attribute_sound : (name : List ℕ) (when_method : Pos → Plan) → MethodSound when_method → (o : ℕ) (of : Contents) → KeptValue known of → Sound known (instance_attribute name when_method o of)
  instance_attribute_sound name when_method methods o of is = from_entry refl by_entry
    where
      by_entry : (entry : Option (Contents × Contents)) → KeptEntry known entry → Sound known (elim entry [ None ↦ class_attribute name when_method of | Some pair ↦ writes (done pair.1) ])
      by_entry None so = class_attribute_sound name when_method methods of is
      by_entry (Some pair) so = by_writes so.1

  no_method_sound : MethodSound no_method_value
  no_method_sound at is = faulted

  method_found_sound : MethodSound method_found
  method_found_sound at is = by_writes is

  getattr_of_object_sound : (name : List ℕ) (o : ℕ) (kind : Option SeenKind) → KeptKind known kind → Sound known (getattr_of_object name o kind)
  getattr_of_object_sound name o (Some (an_instance of)) is = instance_attribute_sound name no_method_value no_method_sound o of is
  getattr_of_object_sound name o kind is = faulted

  pub getattr_sound : (name : List ℕ) (v : Contents) → KeptValue known v → Sound known (getattr name v)
  getattr_sound name (object o) is = from_kind (getattr_of_object_sound name o)
  getattr_sound name (class place) is = class_attribute_sound name no_method_value no_method_sound (class place) is
  getattr_sound name (exception_class number) is = class_attribute_sound name no_method_value no_method_sound (exception_class number) is
  getattr_sound name (builtin number) is =
      sound_if known ((number == sys_module) && bytes_eq name (codes "argv")) (by_writes known.some) (sound_if known (is_module number) faulted faulted)
  getattr_sound name (text bytes) is = faulted
  getattr_sound name (tuple parts) is = faulted
  getattr_sound name other is = faulted

  setattr_entry_sound : (name : List ℕ) (o : ℕ) (v : Contents) → KeptValue known v → (entry : Option (Contents × Contents)) → KeptEntry known entry → Sound known (setattr_entry name o v entry)
  setattr_entry_sound name o v is (Some pair) so = by_writes ((text_form name, (so.0, is)), tt)
  setattr_entry_sound name o v is None so = by_writes ((text_form name, (text_key name, is)), (text_key name, tt))

  setattr_of_object_sound : (name : List ℕ) (o : ℕ) (v : Contents) → KeptValue known v → (kind : Option SeenKind) → KeptKind known kind → Sound known (setattr_of_object name o v kind)
  setattr_of_object_sound name o v is (Some (an_instance of)) so = from_entry refl (setattr_entry_sound name o v is)
  setattr_of_object_sound name o v is kind so = faulted

  pub setattr_sound : (name : List ℕ) (w v : Contents) → KeptValue known w → KeptValue known v → Sound known (setattr name w v)
  setattr_sound name (object o) v one is = from_kind (setattr_of_object_sound name o v is)
  setattr_sound name (class place) v one is = faulted
  setattr_sound name (exception_class number) v one is = faulted
  setattr_sound name (builtin number) v one is = sound_if known (is_module number) faulted faulted
  setattr_sound name (text bytes) v one is = faulted
  setattr_sound name (tuple parts) v one is = faulted
  setattr_sound name other v one is = faulted

  find_of_object_sound : (name : List ℕ) (o : ℕ) (kind : Option SeenKind) → KeptKind known kind → Sound known (find_of_object name o kind)
  find_of_object_sound name o (Some a_list) is = operation_sound 80 list_methods name
  find_of_object_sound name o (Some a_dict) is = operation_sound 87 dict_methods name
  find_of_object_sound name o (Some (an_instance of)) is = instance_attribute_sound name method_found method_found_sound o of is
  find_of_object_sound name o (Some (a_file path mode)) is = operation_sound 105 file_methods name
  find_of_object_sound name o None is = faulted

  pub find_sound : (name : List ℕ) (v : Contents) → KeptValue known v → Sound known (find name v)
  find_sound name (object o) is = from_kind (find_of_object_sound name o)
  find_sound name (class place) is = class_attribute_sound name method_found method_found_sound (class place) is
  find_sound name (exception_class number) is = class_attribute_sound name method_found method_found_sound (exception_class number) is
  find_sound name (text bytes) is = operation_sound 91 text_methods name
  find_sound name (tuple parts) is = faulted
  find_sound name (builtin number) is =
      sound_if known (number == sys_module) (getattr_sound name (builtin number) tt)
      (sound_if known (number == time_module) (operation_sound 109 time_methods name) (sound_if known (number == random_module) (operation_sound 110 random_methods name) faulted))
  find_sound name other is = faulted

  instance_begun_kept : (items : List Contents) → KeptAll known items → (end : Option ℕ) (o : ℕ) → WritesKept known (Some o) (instance_begun items end o)
  instance_begun_kept items all None o = (tt, refl)
  instance_begun_kept items all (Some number) o = ((text_key (codes "args"), tt), ((text_form (codes "args"), (text_key (codes "args"), tuple_kept known items all)), refl))

  make_of_sound : (of : Contents) (items : List Contents) → KeptValue known of → KeptAll known items → Sound known (make_of of items)
  make_of_sound of items is all =
      method_sound (codes "__init__") of _ is (λ method so. end_sound of _ is (λ end. by_make is (instance_begun_kept items all end)))

  pub make_sound : (of : Contents) (items : List Contents) → KeptValue known of → KeptAll known items → Sound known (make of items)
  make_sound (class place) items is all = make_of_sound (class place) items is all
  make_sound (exception_class number) items is all = make_of_sound (exception_class number) items is all
  make_sound other items is all = faulted

  first_hit_sound : (test : Contents → (Bool → Plan) → Plan) → ((v : Contents) (go : Bool → Plan) → KeptValue known v → ((b : Bool) → Sound known (go b)) → Sound known (test v go))
      → (parts : Parts) → KeptParts known parts → (go : Bool → Plan) → ((b : Bool) → Sound known (go b)) → Sound known (first_hit test parts go)
  first_hit_sound test tests no_parts all go each = each false
  first_hit_sound test tests (part item rest) all go each =
      with_look (tests item (λ hit. elim hit [ true ↦ go true | false ↦ first_hit test rest go ]) all.0 (by_hit (first_hit_sound test tests rest all.1 go each)))
    where
      by_hit : Sound known (first_hit test rest go) → (hit : Bool) → Sound known (elim hit [ true ↦ go true | false ↦ first_hit test rest go ])
      by_hit later true = each true
      by_hit later false = later

  object_is_sound : (sought : Contents) (go : Bool → Plan) → ((b : Bool) → Sound known (go b)) → (kind : Option SeenKind) → KeptKind known kind → Sound known (object_is sought go kind)
  object_is_sound (builtin number) go each (Some a_list) is = each _
  object_is_sound (builtin number) go each (Some a_dict) is = each _
  object_is_sound (builtin number) go each kind is = each false
  object_is_sound sought go each (Some (an_instance of)) is = class_walk_sound longest_chain sought of go is each
  object_is_sound sought go each kind is = each false

  value_is_sound : (v sought : Contents) (go : Bool → Plan) → ((b : Bool) → Sound known (go b)) → Sound known (value_is v sought go)
  value_is_sound (object o) sought go each = from_kind (object_is_sound sought go each)
  value_is_sound (truth b) (builtin number) go each = each _
  value_is_sound (int i) (builtin number) go each = each _
  value_is_sound (text bytes) (builtin number) go each = each _
  value_is_sound (tuple parts) (builtin number) go each = each _
  value_is_sound v sought go each = each false

  wrong : Sound known wrong_kind
  wrong = faulted

  answers_truth_sound : (b : Bool) → Sound known (answers_truth b)
  answers_truth_sound b = by_writes tt

  pub isinstance_sound : (v sought : Contents) → KeptValue known sought → Sound known (isinstance v sought)
  isinstance_sound v (tuple parts) is =
      sound_if known (each_part is_kind parts) (first_hit_sound (value_is v) (λ item go are each. value_is_sound v item go each) parts is answers_truth answers_truth_sound) faulted
  isinstance_sound v sought is = sound_if known (is_kind sought) (value_is_sound v sought answers_truth answers_truth_sound) wrong

  pub define_sound : (name : List ℕ) (v : Contents) → KeptValue known v → Sound known (define name v)
  define_sound name (function place) is = by_writes (is, tt)
  define_sound name other is = faulted

  pub define_method_sound : (name : List ℕ) (v of : Contents) → KeptValue known v → Sound known (define_method name v of)
  define_method_sound name (function place) (class of) is = by_writes (is, tt)
  define_method_sound name v other is = faulted

  class_begun_sound : (name : List ℕ) (v : Contents) (base : Option Contents) → KeptValue known v → KeptOption known base → Sound known (class_begun name v base)
  class_begun_sound name (class place) base is are = by_writes (are, is)
  class_begun_sound name other base is are = faulted

  pub begin_class_sound : (name : List ℕ) (v : Contents) (base : Option Contents) → KeptValue known v → KeptOption known base → Sound known (begin_class name v base)
  begin_class_sound name v None is are = class_begun_sound name v None is tt
  begin_class_sound name v (Some base) is are = sound_if known (is_class base) (class_begun_sound name v (Some base) is are) faulted

  -- exceptions
  read_args_sound : (o : ℕ) {go : Contents → Plan} → OfOne known go → Sound known (read_args o go)
  read_args_sound o {go} each = from_entry refl by_entry
    where
      by_entry : (entry : Option (Contents × Contents)) → KeptEntry known entry → Sound known (elim entry [ None ↦ go (tuple no_parts) | Some pair ↦ go pair.1 ])
      by_entry None is = each (tuple no_parts) tt
      by_entry (Some pair) is = each pair.1 is.1

  raise_object_sound : (o : ℕ) (kind : Option SeenKind) → KeptKind known kind → Sound known (raise_object o kind)
  raise_object_sound o (Some (an_instance of)) is = end_sound of _ is by_end
    where
      by_end : (end : Option ℕ) → Sound known (elim end [ None ↦ wrong_kind | Some number ↦ raises_again o ])
      by_end None = faulted
      by_end (Some number) = by_again
  raise_object_sound o kind is = faulted

  raise_class_sound : (of : Contents) → KeptValue known of → Sound known (raise_class of)
  raise_class_sound of is = end_sound of _ is by_end
    where
      by_method : (method : Option Pos) → KeptPlace known method → Sound known (elim method [ None ↦ end_of_chain of (λ again. raises of []) | Some at ↦ not_there ])
      by_method None so = end_sound of _ is (λ again. by_raise is tt)
      by_method (Some at) so = faulted

      by_end : (end : Option ℕ) → Sound known (elim end [
        | None ↦ wrong_kind
        | Some number ↦ method_of_class (codes "__init__") of (λ method. elim method [ None ↦ end_of_chain of (λ again. raises of []) | Some at ↦ not_there ])
      ])
      by_end None = faulted
      by_end (Some number) = method_sound (codes "__init__") of _ is by_method

  pub raise_sound : (v : Contents) → KeptValue known v → Sound known (raise v)
  raise_sound (object o) is = from_kind (raise_object_sound o)
  raise_sound (class place) is = raise_class_sound (class place) is
  raise_sound (exception_class number) is = raise_class_sound (exception_class number) tt
  raise_sound other is = faulted

  object_matches_sound : (sought : Contents) (go : Bool → Plan) → ((b : Bool) → Sound known (go b)) → (kind : Option SeenKind) → KeptKind known kind → Sound known (object_matches sought go kind)
  object_matches_sound sought go each (Some (an_instance of)) is = class_walk_sound longest_chain sought of go is each
  object_matches_sound sought go each kind is = each false

  value_matches_sound : (v sought : Contents) (go : Bool → Plan) → ((b : Bool) → Sound known (go b)) → Sound known (value_matches v sought go)
  value_matches_sound (object o) sought go each = from_kind (object_matches_sound sought go each)
  value_matches_sound v sought go each = each false

  pub matches_sound : (v sought : Contents) → KeptValue known sought → Sound known (matches v sought)
  matches_sound v (tuple parts) is =
      sound_if known (each_part is_class parts) (first_hit_sound (value_matches v) (λ item go are each. value_matches_sound v item go each) parts is answers_truth answers_truth_sound) faulted
  matches_sound v sought is = sound_if known (is_class sought) (value_matches_sound v sought answers_truth answers_truth_sound) wrong

  pub call_failed_sound : (reason : Contents) → Sound known (call_failed reason)
  call_failed_sound (int (pos zero)) = faulted
  call_failed_sound (int (pos (suc zero))) = faulted
  call_failed_sound reason = faulted

  -- what is printed
  abbrev OfText : (List ℕ → Plan) → Type 0
  OfText go = (bytes : List ℕ) → Sound known (go bytes)

  abbrev OfTexts : (List (List ℕ) → Plan) → Type 0
  OfTexts go = (all : List (List ℕ)) → Sound known (go all)

  noted_name_sound : (place : Pos) {go : List ℕ → Plan} → known.at place ≡ true → OfText go → Sound known (noted_name place go)
  noted_name_sound place is each = from_name is (λ name. each (unwrap_or name (codes "?")))

  class_name_sound : (of : Contents) {go : List ℕ → Plan} → KeptValue known of → OfText go → Sound known (class_name of go)
  class_name_sound (class place) is each = noted_name_sound place is each
  class_name_sound (exception_class number) is each = each (named_in class_names number)
  class_name_sound other is each = each (codes "?")

  abbrev PrinterSound : Printer → Type 0
  PrinterSound print = (quoted : Bool) (inside : List ℕ) (v : Contents) (go : List ℕ → Plan) → KeptValue known v → OfText go → Sound known (print quoted inside v go)

  abbrev One : Type 0
  One = Contents → (List ℕ → Plan) → Plan

  abbrev OneSound : One → Type 0
  OneSound one = (v : Contents) (go : List ℕ → Plan) → KeptValue known v → OfText go → Sound known (one v go)

  print_items_sound : (one : One) → OneSound one → (n o i : ℕ) {go : List (List ℕ) → Plan} → OfTexts go → Sound known (print_items one n o i go)
  print_items_sound one ones zero o i each = each []
  print_items_sound one ones (suc n) o i each =
      read_value_sound known o i (λ v is. ones v _ is (λ bytes. print_items_sound one ones n o (suc i) (λ rest. each (bytes ∷ rest))))

  print_parts_sound : (one : One) → OneSound one → (parts : Parts) {go : List (List ℕ) → Plan} → KeptParts known parts → OfTexts go → Sound known (print_parts one parts go)
  print_parts_sound one ones no_parts all each = each []
  print_parts_sound one ones (part v rest) all each = with_look (ones v _ all.0 (λ bytes. print_parts_sound one ones rest all.1 (λ others. each (bytes ∷ others))))

  value_in_kept : (entry : Option (Contents × Contents)) → KeptEntry known entry → KeptValue known (value_in entry)
  value_in_kept None is = tt
  value_in_kept (Some pair) is = is.1

  print_entries_sound : (one : One) → OneSound one → (levels : ℕ) (keys : List Contents) → KeptKeys known keys → (o : ℕ) (go : List (List ℕ) → Plan) → OfTexts go → Sound known (print_entries one levels keys o go)
  print_entries_sound one ones levels [] all o go each = each []
  print_entries_sound one ones levels (key ∷ keys) all o go each = from_entry all.0.1 (λ entry is. by_level (nat_lt levels (height key)) (value_in entry) _
      (ones (value_in entry) _ (value_in_kept entry is) (λ bytes. print_entries_sound one ones levels keys all.1 o _ (λ rest. each ((key_text key ++ (codes ": " ++ bytes)) ∷ rest)))))
    where
      by_level : (deep : Bool) (v : Contents) (next : Plan) → Sound known next → Sound known (elim deep [ true ↦ too_deep | false ↦ next ])
      by_level true v next sound = faulted
      by_level false v next sound = sound

  abbrev Deeper : Option Printer → Type 0
  Deeper None = ⊤
  Deeper (Some print) = PrinterSound print

  print_list_sound : (deeper : Option Printer) → Deeper deeper → (inside : List ℕ) (o : ℕ) {go : List ℕ → Plan} → OfText go → Sound known (print_list deeper inside o go)
  print_list_sound None deep inside o each = faulted
  print_list_sound (Some print) deep inside o each =
      from_len (λ n. print_items_sound (print true (o ∷ inside)) (deep true (o ∷ inside)) n o 0 (λ items. each (codes "[" ++ (commas items ++ codes "]"))))

  print_dict_sound : (levels : ℕ) (deeper : Option Printer) → Deeper deeper → (inside : List ℕ) (o : ℕ) {go : List ℕ → Plan} → OfText go → Sound known (print_dict levels deeper inside o go)
  print_dict_sound levels None deep inside o each = faulted
  print_dict_sound levels (Some print) deep inside o each =
      from_order (λ keys is. print_entries_sound (print true (o ∷ inside)) (deep true (o ∷ inside)) levels keys is o _ (λ items. each (codes "{" ++ (commas items ++ codes "}"))))

  print_tuple_sound : (deeper : Option Printer) → Deeper deeper → (inside : List ℕ) (parts : Parts) {go : List (List ℕ) → Plan} → KeptParts known parts → OfTexts go → Sound known (print_tuple deeper inside parts go)
  print_tuple_sound None deep inside parts all each = faulted
  print_tuple_sound (Some print) deep inside parts all each = print_parts_sound (print true inside) (deep true inside) parts all each

  print_call_sound : (deeper : Option Printer) → Deeper deeper → (print : Printer) → PrinterSound print → (inside name : List ℕ) (v : Contents) (go : List ℕ → Plan) → KeptValue known v → OfText go
      → Sound known (print_call deeper print inside name v go)
  print_call_sound deeper deep print prints inside name (tuple parts) go is each =
      print_tuple_sound deeper deep inside parts is (λ items. each (name ++ (codes "(" ++ (commas items ++ codes ")"))))
  print_call_sound deeper deep print prints inside name v go is each = prints true inside v _ is (λ bytes. each (name ++ (codes "(" ++ (bytes ++ codes ")"))))

  print_message_sound : (deeper : Option Printer) → Deeper deeper → (print : Printer) → PrinterSound print → (quoted : Bool) (inside : List ℕ) (v : Contents) (go : List ℕ → Plan) → KeptValue known v → OfText go
      → Sound known (print_message deeper print quoted inside v go)
  print_message_sound None deep print prints quoted inside (tuple parts) go is each = faulted
  print_message_sound (Some deeper) deep print prints quoted inside (tuple no_parts) go is each = each []
  print_message_sound (Some deeper) deep print prints quoted inside (tuple (part v no_parts)) go is each = with_look (deep quoted inside v go is.0 each)
  print_message_sound (Some deeper) deep print prints quoted inside (tuple (part v (part w rest))) go is each =
      print_parts_sound (deeper true inside) (deep true inside) (part v (part w rest)) is (λ items. each (tuple_text items))
  print_message_sound deeper deep print prints quoted inside v go is each = prints quoted inside v go is each

  print_instance_sound : (deeper : Option Printer) → Deeper deeper → (print : Printer) → PrinterSound print → (quoted : Bool) (inside : List ℕ) (o : ℕ) (of : Contents) (go : List ℕ → Plan) → KeptValue known of → OfText go
      → Sound known (print_instance deeper print quoted inside o of go)
  print_instance_sound deeper deep print prints quoted inside o of go is each = end_sound of _ is by_end
    where
      by_quotes : (number : ℕ) (quotes : Bool) (args : Contents) → KeptValue known args → Sound known (elim quotes [
        | true ↦ class_name of (λ name. print_call deeper print (o ∷ inside) name args go)
        | false ↦ print_message deeper print (number == key_error) (o ∷ inside) args go
      ])
      by_quotes number true args so = class_name_sound of is (λ name. print_call_sound deeper deep print prints (o ∷ inside) name args go so each)
      by_quotes number false args so = print_message_sound deeper deep print prints (number == key_error) (o ∷ inside) args go so each

      by_end : (end : Option ℕ) → Sound known (elim end [
        | None ↦ class_name of (λ name. go (codes "<" ++ (name ++ codes " object>")))
        | Some number ↦ read_args o (λ args. elim quoted [
          | true ↦ class_name of (λ name. print_call deeper print (o ∷ inside) name args go)
          | false ↦ print_message deeper print (number == key_error) (o ∷ inside) args go
        ])
      ])
      by_end None = class_name_sound of is (λ name. each (codes "<" ++ (name ++ codes " object>")))
      by_end (Some number) = read_args_sound o (by_quotes number quoted)

  either : (test : Bool) {one other : Plan} → Sound known one → Sound known other → Sound known (elim test [ true ↦ one | false ↦ other ])
  either true one other = one
  either false one other = other

  print_object_sound : (levels : ℕ) (deeper : Option Printer) → Deeper deeper → (print : Printer) → PrinterSound print → (quoted : Bool) (inside : List ℕ) (o : ℕ) (go : List ℕ → Plan) → OfText go
      → (kind : Option SeenKind) → KeptKind known kind → Sound known (print_object levels deeper print quoted inside o go kind)
  print_object_sound levels deeper deep print prints quoted inside o go each (Some a_list) is = either (is_inside o inside) (each (codes "[...]")) (print_list_sound deeper deep inside o each)
  print_object_sound levels deeper deep print prints quoted inside o go each (Some a_dict) is = either (is_inside o inside) (each (codes "{...}")) (print_dict_sound levels deeper deep inside o each)
  print_object_sound levels deeper deep print prints quoted inside o go each (Some (an_instance of)) is =
      either (is_inside o inside) (class_name_sound of is (λ name. each (name ++ codes "(...)"))) (print_instance_sound deeper deep print prints quoted inside o of go is each)
  print_object_sound levels deeper deep print prints quoted inside o go each (Some (a_file path mode)) is = each (angled (codes "file ") (literal path))
  print_object_sound levels deeper deep print prints quoted inside o go each None is = faulted

  print_step_sound : (levels : ℕ) (deeper : Option Printer) → Deeper deeper → (print : Printer) → PrinterSound print → PrinterSound (print_step levels deeper print)
  print_step_sound levels deeper deep print prints quoted inside nothing go is each = each (codes "None")
  print_step_sound levels deeper deep print prints quoted inside (truth b) go is each = each (truth_text b)
  print_step_sound levels deeper deep print prints quoted inside (int i) go is each = each (int_text i)
  print_step_sound levels deeper deep print prints quoted inside (text bytes) go is each = each (quoted_or_not quoted bytes)
  print_step_sound levels deeper deep print prints quoted inside (tuple parts) go is each = print_tuple_sound deeper deep inside parts is (λ items. each (tuple_text items))
  print_step_sound levels deeper deep print prints quoted inside (range start end step) go is each = each (range_text start end step)
  print_step_sound levels deeper deep print prints quoted inside (function place) go is each = noted_name_sound place is (λ name. each (angled (codes "function ") name))
  print_step_sound levels deeper deep print prints quoted inside (class place) go is each = noted_name_sound place is (λ name. each (angled (codes "class ") name))
  print_step_sound levels deeper deep print prints quoted inside (exception_class number) go is each = each (angled (codes "class ") (named_in class_names number))
  print_step_sound levels deeper deep print prints quoted inside (builtin number) go is each = each (builtin_text number)
  print_step_sound levels deeper deep print prints quoted inside (object o) go is each = from_kind (print_object_sound levels deeper deep print prints quoted inside o go each)

  print_at_sound : (fuel levels : ℕ) (deeper : Option Printer) → Deeper deeper → PrinterSound (print_at fuel levels deeper)
  print_at_sound zero levels deeper deep quoted inside v go is each = by_run_away
  print_at_sound (suc fuel) levels deeper deep quoted inside v go is each =
      print_step_sound levels deeper deep (λ quoted_here objects w next. print_at fuel levels deeper quoted_here objects w next)
      (λ quoted_here objects w next so more. print_at_sound fuel levels deeper deep quoted_here objects w next so more) quoted inside v go is each

  print_to_sound : (levels : ℕ) → PrinterSound (print_to levels)
  print_to_sound zero quoted inside v go is each = print_at_sound longest_chain 0 None tt quoted inside v go is each
  print_to_sound (suc levels) quoted inside v go is each = print_at_sound longest_chain levels (Some (print_to levels)) (print_to_sound levels) quoted inside v go is each

  printed_sound : (quoted : Bool) (v : Contents) (go : List ℕ → Plan) → KeptValue known v → OfText go → Sound known (printed quoted v go)
  printed_sound quoted v go is each = print_to_sound deepest quoted [] v go is each

  printed_all_sound : (values : List Contents) (go : List (List ℕ) → Plan) → KeptAll known values → OfTexts go → Sound known (printed_all values go)
  printed_all_sound [] go all each = each []
  printed_all_sound (v ∷ values) go all each = printed_sound false v _ all.0 (λ bytes. printed_all_sound values _ all.1 (λ rest. each (bytes ∷ rest)))

  print_line_sound : (bytes : List ℕ) → Sound known (print_line bytes)
  print_line_sound bytes = with_count (with_print (by_writes tt))

  pub print_values_sound : OfAll known print_values
  print_values_sound values all = printed_all_sound values _ all (λ texts. print_line_sound (between (codes " ") texts ++ codes "\n"))

  answers_text_sound : (bytes : List ℕ) → Sound known (answers_text bytes)
  answers_text_sound bytes = with_count (by_writes tt)

  pub repr_sound : (v : Contents) → KeptValue known v → Sound known (repr_of v)
  repr_sound v is = printed_sound true v answers_text is answers_text_sound

  pub str_sound : (v : Contents) → KeptValue known v → Sound known (str_of v)
  str_sound v is = printed_sound false v answers_text is answers_text_sound
