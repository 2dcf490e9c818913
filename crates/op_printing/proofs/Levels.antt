-- What is printed of a value is what it comes to at its level, and what lies inside it.
use Rattle.std.proofs.Common.{◌≡◌, refl, sym, ap, ◌∙◌, append-nil, arith, ℕ, zero, suc, ◌-◌, ◌==◌, Bool, true, false, List, ◌∷◌, ◌++◌, Option, Some, None, codes}
use Rattle.std.proofs.Math.Path.{fun_ext}
use Rattle.std.proofs.lemmas.List.{append_assoc}
use Rattle.py_model.specs.Classes.{longest_chain, end_of_chain}
use Rattle.py_model.specs.Faults.{key_error}
use Rattle.py_model.specs.Names.{class_names}
use Rattle.py_model.specs.Numbers.{int_text}
use Rattle.py_model.specs.Plan.{Plan, kind_of}
use Rattle.py_model.specs.Printing.{Printer, print_to, print_at, print_step, print_object, print_instance, print_call, print_message, print_list, print_dict, print_parts, noted_name, class_name, angled, named_in, literal, truth_text, quoted_or_not, range_text, builtin_text, is_inside, commas}
use Rattle.py_model.specs.Raising.{read_args}
use Rattle.py_value.specs.Contents.{Contents, Parts, nothing, truth, int, text, tuple, range, function, class, exception_class, builtin, object, no_parts, part}
use Rattle.py_value.specs.Seen.{SeenKind, a_list, a_dict, an_instance, a_file}
use Rattle.op_printing.specs.Forms.{Next, comes_inside, comes_again, a_row, some_entries, call_next, message_next, args_step, end_step, instance_step, container_next, object_step, one_step, one_more, form_at, form_of, closed}
use Rattle.op_printing.specs.Inside.{deeper, inner_text, found_text}

-- what is printed of what a value comes to
abbrev pub next_text : ℕ → Option Printer → Printer → ℕ → (List ℕ → Plan) → Next → Plan
next_text levels above print closers go (comes_inside inside before closes inner) = inner_text levels above inside inner (λ bytes. go (before ++ (bytes ++ closed (one_more closes closers))))
next_text levels above print closers go (comes_again inside before closes quoted v) = print quoted inside v (λ bytes. go (before ++ (bytes ++ closed (one_more closes closers))))

-- words around a text, before what stands behind
call_words : (before name x behind : List ℕ) → before ++ ((name ++ (codes "(" ++ (x ++ codes ")"))) ++ behind) ≡ (before ++ (name ++ codes "(")) ++ (x ++ 41 ∷ behind)
call_words before name x behind =
    ap (λ words. before ++ words) (append_assoc name (codes "(" ++ (x ++ codes ")")) behind
    ∙ (ap (λ words. name ++ (40 ∷ words)) (append_assoc x (codes ")") behind) ∙ sym (append_assoc name (codes "(") (x ++ 41 ∷ behind))))
    ∙ sym (append_assoc before (name ++ codes "(") (x ++ 41 ∷ behind))

module _ (levels : ℕ) (above : Option Printer) (print : Printer) (closers : ℕ) (go : List ℕ → Plan) where
  abbrev pub text_of : List ℕ → List ℕ → Plan
  text_of before bytes = go (before ++ (bytes ++ closed closers))

  abbrev pub next_of : Next → Plan
  next_of next = next_text levels above print closers go next

  -- a text alone
  alone : (before bytes : List ℕ) → text_of before bytes ≡ go ((before ++ bytes) ++ closed closers)
  alone before bytes = ap go (sym (append_assoc before bytes (closed closers)))

  call_parts : (above : Option Printer) (inside before name : List ℕ) (parts : Parts)
      → print_call above print inside name (tuple parts) (text_of before) ≡ next_text levels above print closers go (call_next inside (before ++ (name ++ codes "(")) (tuple parts))
  call_parts None inside before name parts = refl
  call_parts (Some deeper) inside before name parts = ap (print_parts (deeper true inside) parts) (fun_ext (λ items. ap go (call_words before name (commas items) (closed closers))))

  call_other : (inside before name : List ℕ) (v : Contents)
      → print true inside v (λ bytes. text_of before (name ++ (codes "(" ++ (bytes ++ codes ")")))) ≡ print true inside v (λ bytes. go ((before ++ (name ++ codes "(")) ++ (bytes ++ 41 ∷ closed closers)))
  call_other inside before name v = ap (print true inside v) (fun_ext (λ bytes. ap go (call_words before name bytes (closed closers))))

  call_is : (inside before name : List ℕ) (args : Contents) → print_call above print inside name args (text_of before) ≡ next_of (call_next inside (before ++ (name ++ codes "(")) args)
  call_is inside before name (tuple parts) = call_parts above inside before name parts
  call_is inside before name nothing = call_other inside before name nothing
  call_is inside before name (truth b) = call_other inside before name (truth b)
  call_is inside before name (int i) = call_other inside before name (int i)
  call_is inside before name (text bytes) = call_other inside before name (text bytes)
  call_is inside before name (range a b c) = call_other inside before name (range a b c)
  call_is inside before name (function place) = call_other inside before name (function place)
  call_is inside before name (class place) = call_other inside before name (class place)
  call_is inside before name (exception_class number) = call_other inside before name (exception_class number)
  call_is inside before name (builtin number) = call_other inside before name (builtin number)
  call_is inside before name (object o) = call_other inside before name (object o)

  message_parts : (above : Option Printer) (quoted : Bool) (inside before : List ℕ) (parts : Parts)
      → print_message above print quoted inside (tuple parts) (text_of before) ≡ next_text levels above print closers go (message_next quoted inside before (tuple parts))
  message_parts None quoted inside before no_parts = refl
  message_parts None quoted inside before (part v no_parts) = refl
  message_parts None quoted inside before (part v (part w rest)) = refl
  message_parts (Some deeper) quoted inside before no_parts = refl
  message_parts (Some deeper) quoted inside before (part v no_parts) = refl
  message_parts (Some deeper) quoted inside before (part v (part w rest)) = refl

  message_other : (above : Option Printer) (quoted : Bool) (inside before : List ℕ) (args : Contents) → ((parts : Parts) → args ≡ tuple parts → ⊥)
      → print_message above print quoted inside args (text_of before) ≡ next_text levels above print closers go (message_next quoted inside before args)
  message_other above quoted inside before (tuple parts) other = absurd (other parts refl)
  message_other None quoted inside before nothing other = refl
  message_other None quoted inside before (truth b) other = refl
  message_other None quoted inside before (int i) other = refl
  message_other None quoted inside before (text bytes) other = refl
  message_other None quoted inside before (range a b c) other = refl
  message_other None quoted inside before (function place) other = refl
  message_other None quoted inside before (class place) other = refl
  message_other None quoted inside before (exception_class number) other = refl
  message_other None quoted inside before (builtin number) other = refl
  message_other None quoted inside before (object o) other = refl
  message_other (Some deeper) quoted inside before nothing other = refl
  message_other (Some deeper) quoted inside before (truth b) other = refl
  message_other (Some deeper) quoted inside before (int i) other = refl
  message_other (Some deeper) quoted inside before (text bytes) other = refl
  message_other (Some deeper) quoted inside before (range a b c) other = refl
  message_other (Some deeper) quoted inside before (function place) other = refl
  message_other (Some deeper) quoted inside before (class place) other = refl
  message_other (Some deeper) quoted inside before (exception_class number) other = refl
  message_other (Some deeper) quoted inside before (builtin number) other = refl
  message_other (Some deeper) quoted inside before (object o) other = refl

  message_is : (quoted : Bool) (inside before : List ℕ) (args : Contents) → print_message above print quoted inside args (text_of before) ≡ next_of (message_next quoted inside before args)
  message_is quoted inside before (tuple parts) = message_parts above quoted inside before parts
  message_is quoted inside before nothing = message_other above quoted inside before nothing (λ parts is. cc)
  message_is quoted inside before (truth b) = message_other above quoted inside before (truth b) (λ parts is. cc)
  message_is quoted inside before (int i) = message_other above quoted inside before (int i) (λ parts is. cc)
  message_is quoted inside before (text bytes) = message_other above quoted inside before (text bytes) (λ parts is. cc)
  message_is quoted inside before (range a b c) = message_other above quoted inside before (range a b c) (λ parts is. cc)
  message_is quoted inside before (function place) = message_other above quoted inside before (function place) (λ parts is. cc)
  message_is quoted inside before (class place) = message_other above quoted inside before (class place) (λ parts is. cc)
  message_is quoted inside before (exception_class number) = message_other above quoted inside before (exception_class number) (λ parts is. cc)
  message_is quoted inside before (builtin number) = message_other above quoted inside before (builtin number) (λ parts is. cc)
  message_is quoted inside before (object o) = message_other above quoted inside before (object o) (λ parts is. cc)

  args_is : (quoted is_key : Bool) (inside before : List ℕ) (of args : Contents)
      → (elim quoted [ true ↦ class_name of (λ name. print_call above print inside name args (text_of before)) | false ↦ print_message above print is_key inside args (text_of before) ])
      ≡ args_step quoted is_key inside before of args next_of
  args_is true is_key inside before of args = ap (class_name of) (fun_ext (λ name. call_is inside before name args))
  args_is false is_key inside before of args = message_is is_key inside before args

  end_is : (quoted : Bool) (inside before : List ℕ) (o : ℕ) (of : Contents) (end : Option ℕ)
      → (elim end [
        | None ↦ class_name of (λ name. text_of before (codes "<" ++ (name ++ codes " object>")))
        | Some number ↦ read_args o (λ args. elim quoted [
          | true ↦ class_name of (λ name. print_call above print (o ∷ inside) name args (text_of before))
          | false ↦ print_message above print (number == key_error) (o ∷ inside) args (text_of before)
        ])
      ]) ≡ end_step quoted inside before o of end next_of
  end_is quoted inside before o of None = ap (class_name of) (fun_ext (λ name. alone before (codes "<" ++ (name ++ codes " object>"))))
  end_is quoted inside before o of (Some number) = ap (read_args o) (fun_ext (λ args. args_is quoted (number == key_error) (o ∷ inside) before of args))

  instance_is : (quoted : Bool) (inside before : List ℕ) (o : ℕ) (of : Contents) (here : Bool)
      → (elim here [ true ↦ class_name of (λ name. text_of before (name ++ codes "(...)")) | false ↦ print_instance above print quoted inside o of (text_of before) ])
      ≡ instance_step quoted inside before o of here next_of
  instance_is quoted inside before o of true = ap (class_name of) (fun_ext (λ name. alone before (name ++ codes "(...)")))
  instance_is quoted inside before o of false = ap (end_of_chain of) (fun_ext (λ end. end_is quoted inside before o of end))

  list_is : (above : Option Printer) (inside before : List ℕ) (o : ℕ) (here : Bool)
      → (elim here [ true ↦ text_of before (codes "[...]") | false ↦ print_list above inside o (text_of before) ]) ≡ next_text levels above print closers go (container_next (a_row o) (codes "[...]") inside before o here)
  list_is above inside before o true = alone before (codes "[...]")
  list_is None inside before o false = refl
  list_is (Some deeper) inside before o false = refl

  dict_is : (above : Option Printer) (inside before : List ℕ) (o : ℕ) (here : Bool)
      → (elim here [ true ↦ text_of before (codes "{...}") | false ↦ print_dict levels above inside o (text_of before) ])
      ≡ next_text levels above print closers go (container_next (some_entries o) (codes "{...}") inside before o here)
  dict_is above inside before o true = alone before (codes "{...}")
  dict_is None inside before o false = refl
  dict_is (Some deeper) inside before o false = refl

  object_is : (quoted : Bool) (inside before : List ℕ) (o : ℕ) (kind : Option SeenKind) → print_object levels above print quoted inside o (text_of before) kind ≡ object_step quoted inside before o kind next_of
  object_is quoted inside before o (Some a_list) = list_is above inside before o (is_inside o inside)
  object_is quoted inside before o (Some a_dict) = dict_is above inside before o (is_inside o inside)
  object_is quoted inside before o (Some (an_instance of)) = instance_is quoted inside before o of (is_inside o inside)
  object_is quoted inside before o (Some (a_file path mode)) = alone before (angled (codes "file ") (literal path))
  object_is quoted inside before o None = refl

  tuple_is : (above : Option Printer) (quoted : Bool) (inside before : List ℕ) (parts : Parts)
      → print_step levels above print quoted inside (tuple parts) (text_of before) ≡ one_step quoted inside before (tuple parts) (next_text levels above print closers go)
  tuple_is None quoted inside before parts = refl
  tuple_is (Some deeper) quoted inside before parts = refl

  pub step_is : (quoted : Bool) (inside before : List ℕ) (v : Contents) → print_step levels above print quoted inside v (text_of before) ≡ one_step quoted inside before v next_of
  step_is quoted inside before (tuple parts) = tuple_is above quoted inside before parts
  step_is quoted inside before (object o) = ap (kind_of o) (fun_ext (object_is quoted inside before o))
  step_is quoted inside before (function place) = ap (noted_name place) (fun_ext (λ name. alone before (angled (codes "function ") name)))
  step_is quoted inside before (class place) = ap (noted_name place) (fun_ext (λ name. alone before (angled (codes "class ") name)))
  step_is quoted inside before nothing = alone before (codes "None")
  step_is quoted inside before (truth b) = alone before (truth_text b)
  step_is quoted inside before (int i) = alone before (int_text i)
  step_is quoted inside before (text bytes) = alone before (quoted_or_not quoted bytes)
  step_is quoted inside before (range a b c) = alone before (range_text a b c)
  step_is quoted inside before (exception_class number) = alone before (angled (codes "class ") (named_in class_names number))
  step_is quoted inside before (builtin number) = alone before (builtin_text number)

-- with any fuel
onwards_is : (fuel levels : ℕ) (above : Option Printer) (closers : ℕ) (go : List ℕ → Plan)
    → ((objects bytes : List ℕ) (closes quoted_here : Bool) (w : Contents) → print_at fuel levels above quoted_here objects w (λ words. go (bytes ++ (words ++ closed (one_more closes closers))))
    ≡ form_at fuel (one_more closes closers) quoted_here objects bytes w (λ found. found_text levels above found go))
    → (next : Next) → next_text levels above (λ quoted_here objects w then. print_at fuel levels above quoted_here objects w then) closers go next ≡ (elim next [
      | comes_inside objects bytes closes inner ↦ found_text levels above (record { inside = objects; before = bytes; closers = one_more closes closers; inner = inner }) go
      | comes_again objects bytes closes quoted_here w ↦ form_at fuel (one_more closes closers) quoted_here objects bytes w (λ found. found_text levels above found go)
    ])
onwards_is fuel levels above closers go again (comes_inside objects bytes closes inner) = refl
onwards_is fuel levels above closers go again (comes_again objects bytes closes quoted_here w) = again objects bytes closes quoted_here w

pub form_is : (fuel levels : ℕ) (above : Option Printer) (closers : ℕ) (quoted : Bool) (inside before : List ℕ) (v : Contents) (go : List ℕ → Plan)
    → print_at fuel levels above quoted inside v (λ bytes. go (before ++ (bytes ++ closed closers))) ≡ form_at fuel closers quoted inside before v (λ found. found_text levels above found go)
form_is zero levels above closers quoted inside before v go = refl
form_is (suc fuel) levels above closers quoted inside before v go =
    step_is levels above (λ quoted_here objects w next. print_at fuel levels above quoted_here objects w next) closers go quoted inside before v
    ∙ ap (one_step quoted inside before v) (fun_ext (onwards_is fuel levels above closers go (λ objects bytes closes quoted_here w. form_is fuel levels above (one_more closes closers) quoted_here objects bytes w go)))

-- with any fuel, at so many levels
abbrev at_level : ℕ → ℕ → Printer
at_level fuel levels quoted inside v go = print_at fuel (levels - 1) (deeper levels) quoted inside v go

none_above : (fuel : ℕ) (quoted : Bool) (inside : List ℕ) (v : Contents) (go : List ℕ → Plan) → print_at fuel 0 None quoted inside v go ≡ at_level fuel 0 quoted inside v go
none_above fuel quoted inside v go = refl

some_above : (fuel levels : ℕ) (quoted : Bool) (inside : List ℕ) (v : Contents) (go : List ℕ → Plan) → print_at fuel levels (Some (print_to levels)) quoted inside v go ≡ at_level fuel (suc levels) quoted inside v go
some_above fuel levels quoted inside v go = ap (λ n. print_at fuel n (Some (print_to levels)) quoted inside v go) (one_less levels)
  where
    one_less : (n : ℕ) → n ≡ suc n - 1
    one_less n = omega (arith)

to_level : (levels : ℕ) (quoted : Bool) (inside : List ℕ) (v : Contents) (go : List ℕ → Plan) → print_to levels quoted inside v go ≡ at_level longest_chain levels quoted inside v go
to_level zero quoted inside v go = none_above longest_chain quoted inside v go
to_level (suc levels) quoted inside v go = some_above longest_chain levels quoted inside v go

at_level_is : (fuel levels : ℕ) (quoted : Bool) (inside before : List ℕ) (v : Contents) (go : List ℕ → Plan)
    → at_level fuel levels quoted inside v (λ bytes. go (before ++ bytes)) ≡ form_at fuel 0 quoted inside before v (λ found. found_text (levels - 1) (deeper levels) found go)
at_level_is fuel levels quoted inside before v go =
    ap (at_level fuel levels quoted inside v) (fun_ext (λ bytes. ap (λ words. go (before ++ words)) (sym (append-nil bytes))))
    ∙ form_is fuel (levels - 1) (deeper levels) 0 quoted inside before v go

pub level_is : (levels : ℕ) (quoted : Bool) (inside before : List ℕ) (v : Contents) (go : List ℕ → Plan)
    → print_to levels quoted inside v (λ bytes. go (before ++ bytes)) ≡ form_of quoted inside before v (λ found. found_text (levels - 1) (deeper levels) found go)
unfolding form_of
level_is levels quoted inside before v go = to_level levels quoted inside v (λ bytes. go (before ++ bytes)) ∙ at_level_is longest_chain levels quoted inside before v go
