-- Attributes, definitions and exceptions are alike for corresponding operands.
use Rattle.std.proofs.Common.{◌≡◌, ℕ, zero, suc, ◌+◌, pos, Bool, true, false, ◌&&◌, ◌==◌, List, [], ◌∷◌, Option, Some, None, option_map, codes, refl, sym, ap, ap₂}
use Rattle.std.specs.Str.{bytes_eq}
use Rattle.prov_base.specs.declared.place.Pos.{Pos}
use Rattle.py_value.specs.Contents.{Contents, Parts, truth, int, text, tuple, function, class, exception_class, builtin, object, no_parts, part}
use Rattle.py_value.specs.Seen.{SeenKind, number_by, a_list, a_dict, an_instance, a_file, var_at, entry_is}
use Rattle.py_model.proofs.Agreeing.{parts_renamed}
use Rattle.py_model.proofs.AlikeClasses.{derived_alike, end_alike, method_alike}
use Rattle.py_model.proofs.AlikeComparing.{if_alike}
use Rattle.py_model.proofs.AlikeOperands.{AlikeFor}
use Rattle.py_model.proofs.AlikeWalks.{wrong_kind_alike, wrong_number_alike, not_there_alike, too_deep_alike, fault_alike}
use Rattle.py_model.proofs.AlikePlans.{Allowed, AlikeBy, both_read_entry, both_kind, both_look, both_writes, both_raise, both_again, AlikeAfter, after_writes, both_begin, both_read_entry_and_write, both_write, both_note, both_writes_noting, both_done}
use Rattle.py_model.specs.Agreement as plans
use Rattle.py_model.specs.Agreement.{AlikeWrites}
use Rattle.py_model.specs.Classes.{object_is, value_is, isinstance, list_name, dict_name, end_of_chain, method_of_class, class_attribute, instance_attribute, operation, no_method_value, getattr_of_object, getattr, setattr_entry, setattr_of_object, setattr, method_found, find_of_object, find, instance_begun, make_of, make, is_class, is_kind, each_part, first_hit, answers_truth, define, define_method, class_begun, begin_class, import_module, is_module, sys_module, time_module, random_module, list_methods, dict_methods, text_methods, file_methods, time_methods, random_methods, args_key}
use Rattle.py_model.specs.Effect.{parts_of}
use Rattle.py_model.specs.Faults.{not_there, no_attribute, wrong_kind}
use Rattle.py_model.specs.Orderly.{entry_read, resets, inserts, BeginsWith}
use Rattle.py_model.specs.Plan.{Plan, writes, done, raises, raises_again}
use Rattle.py_model.specs.Raising.{raise_object, raise_class, raise, object_matches, value_matches, matches, assertion_failed, call_failed}
use Rattle.py_model.specs.Renaming.{Renaming, renamed, renamed_parts, renamed_option, renamed_list, renamed_entry, renamed_kind}

module _ (may : Allowed) (r : Renaming) where
  -- reading
  class_attribute_alike : (name : List ℕ) (go : Pos → Plan) → ((at : Pos) → AlikeBy may r (go at) (go at)) → (of : Contents) → AlikeBy may r (class_attribute name go of) (class_attribute name go (renamed r of))
  class_attribute_alike name go each of = method_alike may r name of _ _ by_method
    where
      by_method : (at : Option Pos) → AlikeBy may r (elim at as (λ a. Plan) [ None ↦ no_attribute name | Some place ↦ go place ]) (elim at as (λ a. Plan) [ None ↦ no_attribute name | Some place ↦ go place ])
      by_method None = fault_alike may r _ _
      by_method (Some at) = each at

  instance_attribute_alike : (name : List ℕ) (go : Pos → Plan) → ((at : Pos) → AlikeBy may r (go at) (go at)) → (o : ℕ) (of : Contents)
      → AlikeBy may r (instance_attribute name go o of) (instance_attribute name go (r.objects o) (renamed r of))
  instance_attribute_alike name go each o of = both_read_entry by_entry
    where
      by_entry : (entry : Option (Contents × Contents)) → AlikeBy may r (elim entry as (λ e. Plan) [ None ↦ class_attribute name go of | Some pair ↦ writes (done pair.1) ])
          (elim (renamed_entry r entry) as (λ e. Plan) [ None ↦ class_attribute name go (renamed r of) | Some pair ↦ writes (done pair.1) ])
      by_entry None = class_attribute_alike name go each of
      by_entry (Some pair) = both_writes (both_done refl)

  operation_alike : (first : ℕ) (names : List (List ℕ)) (name : List ℕ) → AlikeBy may r (operation first names name) (operation first names name)
  operation_alike first names name = by_number (number_by (bytes_eq name) names)
    where
      by_number : (found : Option ℕ) → AlikeBy may r (elim found as (λ f. Plan) [ None ↦ not_there | Some place ↦ writes (done (builtin (first + place))) ])
          (elim found as (λ f. Plan) [ None ↦ not_there | Some place ↦ writes (done (builtin (first + place))) ])
      by_number None = not_there_alike may r
      by_number (Some place) = both_writes (both_done refl)

  no_value : (at : Pos) → AlikeBy may r (no_method_value at) (no_method_value at)
  no_value at = not_there_alike may r

  a_function : (at : Pos) → AlikeBy may r (method_found at) (method_found at)
  a_function at = both_writes (both_done refl)

  getattr_of_alike : (name : List ℕ) (o : ℕ) (kind : Option SeenKind) → AlikeBy may r (getattr_of_object name o kind) (getattr_of_object name (r.objects o) (option_map (renamed_kind r) kind))
  getattr_of_alike name o (Some (an_instance of)) = instance_attribute_alike name no_method_value no_value o of
  getattr_of_alike name o kind = not_there_alike may r

  pub getattr_alike : (name : List ℕ) (v : Contents) → AlikeBy may r (getattr name v) (getattr name (renamed r v))
  getattr_alike name (object o) = both_kind (getattr_of_alike name o)
  getattr_alike name (class place) = class_attribute_alike name no_method_value no_value (class place)
  getattr_alike name (exception_class number) = class_attribute_alike name no_method_value no_value (exception_class number)
  getattr_alike name (builtin number) =
      if_alike may r ((number == sys_module) && bytes_eq name (codes "argv")) ((number == sys_module) && bytes_eq name (codes "argv")) _ _ _ _ refl (both_writes (both_done (ap object (sym r.arguments_stay))))
      (if_alike may r (is_module number) (is_module number) _ _ _ _ refl (not_there_alike may r) (fault_alike may r _ _))
  getattr_alike name (text bytes) = not_there_alike may r
  getattr_alike name (tuple parts) = not_there_alike may r
  getattr_alike name other = fault_alike may r _ _

  find_of_alike : (name : List ℕ) (o : ℕ) (kind : Option SeenKind) → AlikeBy may r (find_of_object name o kind) (find_of_object name (r.objects o) (option_map (renamed_kind r) kind))
  find_of_alike name o (Some a_list) = operation_alike 80 list_methods name
  find_of_alike name o (Some a_dict) = operation_alike 87 dict_methods name
  find_of_alike name o (Some (an_instance of)) = instance_attribute_alike name method_found a_function o of
  find_of_alike name o (Some (a_file path mode)) = operation_alike 105 file_methods name
  find_of_alike name o None = not_there_alike may r

  pub find_alike : (name : List ℕ) (v : Contents) → AlikeBy may r (find name v) (find name (renamed r v))
  find_alike name (object o) = both_kind (find_of_alike name o)
  find_alike name (class place) = class_attribute_alike name method_found a_function (class place)
  find_alike name (exception_class number) = class_attribute_alike name method_found a_function (exception_class number)
  find_alike name (text bytes) = operation_alike 91 text_methods name
  find_alike name (tuple parts) = not_there_alike may r
  find_alike name (builtin number) =
      if_alike may r (number == sys_module) (number == sys_module) _ _ _ _ refl (getattr_alike name (builtin number))
      (if_alike may r (number == time_module) (number == time_module) _ _ _ _ refl (operation_alike 109 time_methods name)
      (if_alike may r (number == random_module) (number == random_module) _ _ _ _ refl (operation_alike 110 random_methods name) (fault_alike may r _ _)))
  find_alike name other = fault_alike may r _ _

  -- setting
  setattr_entry_alike : (name : List ℕ) (o : ℕ) (v : Contents) (entry : Option (Contents × Contents)) → AlikeAfter (entry_read o (text name) entry) may r (setattr_entry name o v entry) (setattr_entry name (r.objects o) (renamed r v) (renamed_entry r entry))
  setattr_entry_alike name o v (Some pair) = after_writes (plans.both_write refl refl (plans.both_done refl)) resets
  setattr_entry_alike name o v None = after_writes (plans.both_write refl refl (plans.both_change refl refl (plans.both_done refl))) inserts

  setattr_of_alike : (name : List ℕ) (o : ℕ) (v : Contents) (kind : Option SeenKind) → AlikeBy may r (setattr_of_object name o v kind) (setattr_of_object name (r.objects o) (renamed r v) (option_map (renamed_kind r) kind))
  setattr_of_alike name o v (Some (an_instance of)) = both_read_entry_and_write (setattr_entry_alike name o v)
  setattr_of_alike name o v kind = not_there_alike may r

  pub setattr_alike : (name : List ℕ) (w v : Contents) → AlikeBy may r (setattr name w v) (setattr name (renamed r w) (renamed r v))
  setattr_alike name (object o) v = both_kind (setattr_of_alike name o v)
  setattr_alike name (class place) v = not_there_alike may r
  setattr_alike name (exception_class number) v = not_there_alike may r
  setattr_alike name (builtin number) v = if_alike may r (is_module number) (is_module number) _ _ _ _ refl (not_there_alike may r) (fault_alike may r _ _)
  setattr_alike name (text bytes) v = not_there_alike may r
  setattr_alike name (tuple parts) v = not_there_alike may r
  setattr_alike name other v = fault_alike may r _ _

  -- instances
  instance_begun_alike : (items : List Contents) (end : Option ℕ) (o : ℕ) → AlikeWrites r (instance_begun items end o) (instance_begun (renamed_list r items) end (r.objects o))
  instance_begun_alike items None o = plans.both_write refl refl (plans.both_done refl)
  instance_begun_alike items (Some number) o =
      plans.both_write refl refl (plans.both_write refl (ap (λ ps. entry_is (Some (args_key, tuple ps))) (parts_renamed r items)) (plans.both_done refl))

  instance_begins : (items : List Contents) (end : Option ℕ) (o : ℕ) → BeginsWith o (instance_begun items end o)
  instance_begins items None o = record { pairs = []; answer = object o; apart = tt; writes_are = refl }
  instance_begins items (Some number) o = record { pairs = (args_key, tuple (parts_of items)) ∷ []; answer = object o; apart = (tt, tt); writes_are = refl }

  make_of_alike : (of : Contents) (items : List Contents) → AlikeBy may r (make_of of items) (make_of (renamed r of) (renamed_list r items))
  make_of_alike of items = method_alike may r (codes "__init__") of _ _ (λ at. end_alike may r of _ _ (λ end. both_begin refl (instance_begun_alike items end) (instance_begins items end)))

  pub make_alike : (of : Contents) (items : List Contents) → AlikeBy may r (make of items) (make (renamed r of) (renamed_list r items))
  make_alike (class place) items = make_of_alike (class place) items
  make_alike (exception_class number) items = make_of_alike (exception_class number) items
  make_alike other items = wrong_kind_alike may r

  -- definitions
  pub define_alike : may.notes ≡ true → (name : List ℕ) (v : Contents) → AlikeBy may r (define name v) (define name (renamed r v))
  define_alike noting name (function place) = both_writes_noting noting (both_note (both_write tt (ap (λ s. var_at s name) (sym r.module_stays)) refl (both_done refl)))
  define_alike noting name other = wrong_kind_alike may r

  pub define_method_alike : may.notes ≡ true → (name : List ℕ) (v of : Contents) → AlikeBy may r (define_method name v of) (define_method name (renamed r v) (renamed r of))
  define_method_alike noting name (function place) (class of) = both_writes_noting noting (both_note (both_write tt refl refl (both_done refl)))
  define_method_alike noting name v other = wrong_kind_alike may r

  class_begun_alike : may.notes ≡ true → (name : List ℕ) (v : Contents) (base : Option Contents) → AlikeBy may r (class_begun name v base) (class_begun name (renamed r v) (renamed_option r base))
  class_begun_alike noting name (class place) base = both_writes_noting noting (both_note (both_write tt refl refl (both_done refl)))
  class_begun_alike noting name other base = wrong_kind_alike may r

  class_stays : (v : Contents) → is_class (renamed r v) ≡ is_class v
  class_stays (class place) = refl
  class_stays (exception_class number) = refl
  class_stays other = refl

  pub begin_class_alike : may.notes ≡ true → (name : List ℕ) (v : Contents) (base : Option Contents) → AlikeBy may r (begin_class name v base) (begin_class name (renamed r v) (renamed_option r base))
  begin_class_alike noting name v None = class_begun_alike noting name v None
  begin_class_alike noting name v (Some base) = if_alike may r (is_class base) (is_class (renamed r base)) _ _ _ _ (class_stays base) (class_begun_alike noting name v (Some base)) (wrong_kind_alike may r)

  pub import_alike : (scope : ℕ) (name : List ℕ) (v : Contents) → AlikeBy may r (import_module scope name v) (import_module (r.scopes scope) name (renamed r v))
  import_alike scope name v = both_writes (both_write tt refl refl (both_done refl))

  -- exceptions
  pub raise_object_alike : (o : ℕ) → may.again o → (kind : Option SeenKind) → AlikeBy may r (raise_object o kind) (raise_object (r.objects o) (option_map (renamed_kind r) kind))
  raise_object_alike o is (Some (an_instance of)) = end_alike may r of _ _ by_end
    where
      by_end : (end : Option ℕ) → AlikeBy may r (elim end as (λ e. Plan) [ None ↦ wrong_kind | Some number ↦ raises_again o ]) (elim end as (λ e. Plan) [ None ↦ wrong_kind | Some number ↦ raises_again (r.objects o) ])
      by_end None = wrong_kind_alike may r
      by_end (Some number) = both_again is
  raise_object_alike o is kind = wrong_kind_alike may r

  pub assertion_alike : AlikeFor may r assertion_failed
  assertion_alike items = both_raise refl refl

  pub call_failed_alike : (reason : Contents) → AlikeBy may r (call_failed reason) (call_failed (renamed r reason))
  call_failed_alike (int (pos zero)) = fault_alike may r _ _
  call_failed_alike (int (pos (suc zero))) = wrong_number_alike may r
  call_failed_alike reason = too_deep_alike may r

  -- an exception class is raised
  abbrev raise_by : Contents → Option ℕ → Plan
  raise_by of None = wrong_kind
  raise_by of (Some number) = method_of_class (codes "__init__") of (raise_with of)
    where
      raise_with : Contents → Option Pos → Plan
      raise_with to None = end_of_chain to (λ again. raises to [])
      raise_with to (Some at) = not_there

  raise_by_alike : (of : Contents) (end : Option ℕ) → AlikeBy may r (raise_by of end) (raise_by (renamed r of) end)
  raise_by_alike of None = wrong_kind_alike may r
  raise_by_alike of (Some number) = method_alike may r (codes "__init__") of _ _ by_method
    where
      by_method : (at : Option Pos) → AlikeBy may r (elim at as (λ a. Plan) [ None ↦ end_of_chain of (λ again. raises of []) | Some place ↦ not_there ])
          (elim at as (λ a. Plan) [ None ↦ end_of_chain (renamed r of) (λ again. raises (renamed r of) []) | Some place ↦ not_there ])
      by_method None = end_alike may r of _ _ (λ again. both_raise refl refl)
      by_method (Some at) = not_there_alike may r

  pub raise_class_alike : (of : Contents) → AlikeBy may r (raise_class of) (raise_class (renamed r of))
  raise_class_alike of = end_alike may r of _ _ (raise_by_alike of)

  pub raise_alike : ((o : ℕ) → may.again o) → (v : Contents) → AlikeBy may r (raise v) (raise (renamed r v))
  raise_alike each (object o) = both_kind (raise_object_alike o (each o))
  raise_alike each (class place) = raise_class_alike (class place)
  raise_alike each (exception_class number) = raise_class_alike (exception_class number)
  raise_alike each other = wrong_kind_alike may r

  -- kinds that are asked
  each_stays : (test : Contents → Bool) → ((v : Contents) → test (renamed r v) ≡ test v) → (parts : Parts) → each_part test (renamed_parts r parts) ≡ each_part test parts
  each_stays test stays no_parts = refl
  each_stays test stays (part item rest) = ap₂ (λ a b. a && b) (stays item) (each_stays test stays rest)

  kind_stays : (v : Contents) → is_kind (renamed r v) ≡ is_kind v
  kind_stays (builtin number) = refl
  kind_stays other = class_stays other

  truth_answered : (b : Bool) → AlikeBy may r (answers_truth b) (answers_truth b)
  truth_answered b = both_writes (both_done refl)

  first_hit_alike : (test then_test : Contents → (Bool → Plan) → Plan)
      → ((v : Contents) (go gone : Bool → Plan) → ((b : Bool) → AlikeBy may r (go b) (gone b)) → AlikeBy may r (test v go) (then_test (renamed r v) gone))
      → (parts : Parts) (go gone : Bool → Plan) → ((b : Bool) → AlikeBy may r (go b) (gone b)) → AlikeBy may r (first_hit test parts go) (first_hit then_test (renamed_parts r parts) gone)
  first_hit_alike test then_test tests no_parts go gone each = each false
  first_hit_alike test then_test tests (part item rest) go gone each = both_look refl (tests item _ _ (by_hit (first_hit_alike test then_test tests rest go gone each)))
    where
      by_hit : AlikeBy may r (first_hit test rest go) (first_hit then_test (renamed_parts r rest) gone) → (hit : Bool)
          → AlikeBy may r (elim hit as (λ b. Plan) [ true ↦ go true | false ↦ first_hit test rest go ]) (elim hit as (λ b. Plan) [ true ↦ gone true | false ↦ first_hit then_test (renamed_parts r rest) gone ])
      by_hit both true = each true
      by_hit both false = both

  object_matches_alike : (sought : Contents) (go gone : Bool → Plan) → ((b : Bool) → AlikeBy may r (go b) (gone b)) → (kind : Option SeenKind)
      → AlikeBy may r (object_matches sought go kind) (object_matches (renamed r sought) gone (option_map (renamed_kind r) kind))
  object_matches_alike sought go gone each (Some (an_instance of)) = derived_alike may r sought of go gone each
  object_matches_alike sought go gone each kind = each false

  value_matches_alike : (v sought : Contents) (go gone : Bool → Plan) → ((b : Bool) → AlikeBy may r (go b) (gone b)) → AlikeBy may r (value_matches v sought go) (value_matches (renamed r v) (renamed r sought) gone)
  value_matches_alike (object o) sought go gone each = both_kind (object_matches_alike sought go gone each)
  value_matches_alike v sought go gone each = each false

  pub matches_alike : (v sought : Contents) → AlikeBy may r (matches v sought) (matches (renamed r v) (renamed r sought))
  matches_alike v (tuple parts) = if_alike may r (each_part is_class parts) (each_part is_class (renamed_parts r parts)) _ _ _ _ (each_stays is_class class_stays parts)
      (first_hit_alike (value_matches v) (value_matches (renamed r v)) (value_matches_alike v) parts answers_truth answers_truth truth_answered) (wrong_kind_alike may r)
  matches_alike v sought = if_alike may r (is_class sought) (is_class (renamed r sought)) _ _ _ _ (class_stays sought) (value_matches_alike v sought answers_truth answers_truth truth_answered) (wrong_kind_alike may r)

  object_is_alike : (sought : Contents) (go gone : Bool → Plan) → ((b : Bool) → AlikeBy may r (go b) (gone b)) → (kind : Option SeenKind)
      → AlikeBy may r (object_is sought go kind) (object_is (renamed r sought) gone (option_map (renamed_kind r) kind))
  object_is_alike (builtin number) go gone each (Some a_list) = each (number == list_name)
  object_is_alike (builtin number) go gone each (Some a_dict) = each (number == dict_name)
  object_is_alike (builtin number) go gone each kind = each false
  object_is_alike sought go gone each (Some (an_instance of)) = derived_alike may r sought of go gone each
  object_is_alike sought go gone each kind = each false

  value_is_alike : (v sought : Contents) (go gone : Bool → Plan) → ((b : Bool) → AlikeBy may r (go b) (gone b)) → AlikeBy may r (value_is v sought go) (value_is (renamed r v) (renamed r sought) gone)
  value_is_alike (object o) sought go gone each = both_kind (object_is_alike sought go gone each)
  value_is_alike (truth b) (builtin number) go gone each = each _
  value_is_alike (int i) (builtin number) go gone each = each _
  value_is_alike (text bytes) (builtin number) go gone each = each _
  value_is_alike (tuple parts) (builtin number) go gone each = each _
  value_is_alike v sought go gone each = each false

  pub isinstance_alike : (v sought : Contents) → AlikeBy may r (isinstance v sought) (isinstance (renamed r v) (renamed r sought))
  isinstance_alike v (tuple parts) = if_alike may r (each_part is_kind parts) (each_part is_kind (renamed_parts r parts)) _ _ _ _ (each_stays is_kind kind_stays parts)
      (first_hit_alike (value_is v) (value_is (renamed r v)) (value_is_alike v) parts answers_truth answers_truth truth_answered) (wrong_kind_alike may r)
  isinstance_alike v sought = if_alike may r (is_kind sought) (is_kind (renamed r sought)) _ _ _ _ (kind_stays sought) (value_is_alike v sought answers_truth answers_truth truth_answered) (wrong_kind_alike may r)
