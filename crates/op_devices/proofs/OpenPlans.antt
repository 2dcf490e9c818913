-- Openings as plans, by what is known of their paths.
use Rattle.std.proofs.Common.{◌≡◌, ◌∙◌, refl, sym, ap, arith, ℕ, suc, ◌<◌, Bool, true, false, List, [], ◌∷◌, map, length, slice_index_or, Option, Some, None, codes, if◌then◌else◌}
use Rattle.std.specs.Str.{bytes_eq}
use Rattle.std.proofs.Math.Path.{fun_ext}
use Rattle.prov_base.specs.Path.{is_path}
use Rattle.answer_source.specs.Sources.{found_seen}
use Rattle.op_devices.specs.Asking.{Known, answered_by}
use Rattle.op_devices.specs.Opening.{mode_named, is_fetched, if_fetched, path_in, IsFound, IsOpened, is_readable, bad_mode, bad_path, with_mode, of_texts, rest_of, opening_in}
use Rattle.op_files.specs.Operands.{text_in}
use Rattle.op_files.proofs.ObjectOperands.{text_is}
use Rattle.py_model.proofs.Tuples.{some_tuple}
use Rattle.prov_outside.specs.declared.folder.Found.{Found as FoundThere}
use Rattle.prov_outside.specs.declared.folder.Found.TheVariants.{Bytes, Absent, TooLarge, Failed as Unfound}
use Rattle.py_model.specs.Faults.{wrong_kind, wrong_number}
use Rattle.py_model.specs.Files.{bad_file, open_to_read, open_to_write, open_to_append, open_with, open_plan}
use Rattle.py_model.specs.Plan.{Found, Plan, read_file, was_opened, fetch}
use Rattle.py_value.specs.Contents.{Contents, contents, text}
use Rattle.py_value.specs.Seen.{bytes_of}
use Rattle.py_value.specs.Values.{ValuesView}
use Rattle.py_value.specs.declared.access.Mode.{Mode}
use Rattle.py_value.specs.declared.access.Mode.TheVariants.{Read, Write, Append}
use Rattle.py_value.specs.declared.value.Value.{Value}
use Rattle.py_value.specs.declared.value.Value.TheVariants.{None as NoneValue, Bool as TruthValue, Int, Text, Tuple, Range, Fn, Class, Exc, Builtin, Object}

-- what a plan goes on with
abbrev pub opened_go : Plan → Bool → Plan
opened_go (was_opened path go) = go
opened_go other = λ opened. bad_file

abbrev pub fetch_go : Plan → Found → Plan
fetch_go (fetch path go) = go
fetch_go other = λ found. bad_file

abbrev pub content_go : Plan → Option (List ℕ) → Plan
content_go (read_file path go) = go
content_go other = λ content. bad_file

known_fetch : (k : Known) (path : List ℕ) (go : Found → Plan) (f : Found) → k.found path ≡ Some f → answered_by k (fetch path go) ≡ answered_by k (go f)
known_fetch k path go f is = ap (λ (o : Option Found). elim o [ None ↦ fetch path go | Some found ↦ answered_by k (go found) ]) is

-- ---- reading

read_content : (k : Known) (path : List ℕ) (content : Option (List ℕ)) → answered_by k (content_go (opened_go (open_to_read path) true) content) ≡ rest_of true Read path content
read_content k path None = refl
read_content k path (Some bytes) = refl

read_good : (k : Known) (path : List ℕ) → answered_by k (opened_go (open_to_read path) true) ≡ opening_in true (path, Read)
read_good k path = ap (read_file path) (fun_ext (read_content k path))

read_fetched : (k : Known) (path : List ℕ) (f : FoundThere) → answered_by k (fetch_go (opened_go (open_to_read path) false) (found_seen f)) ≡ opening_in (is_readable false (Some f)) (path, Read)
read_fetched k path (Bytes bytes) = read_good k path
read_fetched k path Absent = read_good k path
read_fetched k path TooLarge = refl
read_fetched k path Unfound = refl

read_opened : (k : Known) (path : List ℕ) (opened : Bool) (found : Option FoundThere) → IsFound k path opened found
    → answered_by k (opened_go (open_to_read path) opened) ≡ opening_in (is_readable opened found) (path, Read)
read_opened k path true found known = read_good k path
read_opened k path false (Some f) known = known_fetch k path (fetch_go (opened_go (open_to_read path) false)) (found_seen f) known ∙ read_fetched k path f
read_opened k path false None known = absurd known

-- ---- appending

append_content : (k : Known) (path : List ℕ) (content : Option (List ℕ)) → answered_by k (content_go (opened_go (open_to_append path) true) content) ≡ rest_of true Append path content
append_content k path None = refl
append_content k path (Some bytes) = refl

append_good : (k : Known) (path : List ℕ) → answered_by k (opened_go (open_to_append path) true) ≡ opening_in true (path, Append)
append_good k path = ap (read_file path) (fun_ext (append_content k path))

append_fetched : (k : Known) (path : List ℕ) (f : FoundThere) → answered_by k (fetch_go (opened_go (open_to_append path) false) (found_seen f)) ≡ opening_in (is_readable false (Some f)) (path, Append)
append_fetched k path (Bytes bytes) = append_good k path
append_fetched k path Absent = append_good k path
append_fetched k path TooLarge = refl
append_fetched k path Unfound = refl

append_opened : (k : Known) (path : List ℕ) (opened : Bool) (found : Option FoundThere) → IsFound k path opened found
    → answered_by k (opened_go (open_to_append path) opened) ≡ opening_in (is_readable opened found) (path, Append)
append_opened k path true found known = append_good k path
append_opened k path false (Some f) known = known_fetch k path (fetch_go (opened_go (open_to_append path) false)) (found_seen f) known ∙ append_fetched k path f
append_opened k path false None known = absurd known

-- ---- any mode

abbrev pub open_mode : List ℕ × Mode → Plan
open_mode (path, Read) = open_to_read path
open_mode (path, Write) = open_to_write path
open_mode (path, Append) = open_to_append path

module _ (k : Known) (values : ValuesView) (path : ℕ) (opened : Bool) (found : Option FoundThere) where
  abbrev here : List ℕ
  here = bytes_of values path

  if_known : (m : Mode) → IsOpened k values (if is_fetched m then Some path else None) opened found → answered_by k (open_mode (here, m)) ≡ opening_in (is_readable opened found) (here, m)
  if_known Read known = ap (λ b. answered_by k (opened_go (open_to_read here) b)) known.0 ∙ read_opened k here opened found known.1
  if_known Write known = refl
  if_known Append known = ap (λ b. answered_by k (opened_go (open_to_append here) b)) known.0 ∙ append_opened k here opened found known.1

  if_path : (b : Bool) (m : Mode) → IsOpened k values (if b then (if is_fetched m then Some path else None) else None) opened found
      → answered_by k (if b then open_mode (here, m) else bad_path) ≡ (if b then opening_in (is_readable opened found) (here, m) else bad_path)
  if_path true m known = if_known m known
  if_path false m known = refl

  pub known_open : (m : Option Mode) → IsOpened k values (if_fetched path here m) opened found → answered_by k (with_mode here m open_mode) ≡ with_mode here m (opening_in (is_readable opened found))
  known_open (Some m) known = if_path (is_path here) m known
  known_open None known = refl

-- ---- the mode that a text names

by_mode : (path : List ℕ) (a b c : Bool) → with_mode path (if a then Some Read else if b then Some Write else if c then Some Append else None) open_mode
    ≡ (if a then (if is_path path then open_to_read path else bad_path) else if b then (if is_path path then open_to_write path else bad_path)
    else if c then (if is_path path then open_to_append path else bad_path) else bad_mode)
by_mode path true b c = refl
by_mode path false true c = refl
by_mode path false false true = refl
by_mode path false false false = refl

with_is : (path mode : List ℕ) → open_with path mode ≡ with_mode path (mode_named mode) open_mode
with_is path mode = sym (by_mode path (bytes_eq mode (codes "r")) (bytes_eq mode (codes "w")) (bytes_eq mode (codes "a")))

abbrev pub open_texts : List ℕ × Option Mode → Plan
open_texts found = with_mode found.0 found.1 open_mode

pub open_is : (vs : List Contents) → open_plan vs ≡ of_texts vs open_texts
open_is [] = refl
open_is (text path ∷ []) = with_is path (codes "r")
open_is (other ∷ []) = refl
open_is (text path ∷ text mode ∷ []) = with_is path mode
open_is (text path ∷ other ∷ []) = refl
open_is (other ∷ more ∷ []) = refl
open_is (text path ∷ text mode ∷ next ∷ more) = refl
open_is (text path ∷ other ∷ next ∷ more) = refl
open_is (one ∷ other ∷ next ∷ more) = refl

-- ---- operands

texts_known : (k : Known) (go : List ℕ × Option Mode → Plan) (vs : List Contents) → answered_by k (of_texts vs go) ≡ of_texts vs (λ found. answered_by k (go found))
texts_known k go [] = refl
texts_known k go (text path ∷ []) = refl
texts_known k go (other ∷ []) = refl
texts_known k go (text path ∷ text mode ∷ []) = refl
texts_known k go (text path ∷ other ∷ []) = refl
texts_known k go (other ∷ more ∷ []) = refl
texts_known k go (text path ∷ text mode ∷ next ∷ more) = refl
texts_known k go (text path ∷ other ∷ next ∷ more) = refl
texts_known k go (one ∷ other ∷ next ∷ more) = refl

pub open_known : (k : Known) (vs : List Contents) → answered_by k (open_plan vs) ≡ of_texts vs (λ found. answered_by k (open_texts found))
open_known k vs = ap (answered_by k) (open_is vs) ∙ texts_known k open_texts vs

many_texts : (one other next : Contents) (more : List Contents) (go : List ℕ × Option Mode → Plan) → of_texts (one ∷ other ∷ next ∷ more) go ≡ wrong_number
many_texts (text path) (text mode) next more go = refl
many_texts (text path) other next more go = refl
many_texts one other next more go = refl

many : (n : ℕ) → suc (suc n) ≡ 1 → ⊥
many n is = omega (arith, is)

module _ (table : ValuesView) (go : List ℕ × Option Mode → Plan) where
  pub no_texts : (operands : List Value) → length operands ≡ 0 → of_texts (map (contents table) operands) go ≡ wrong_number
  no_texts [] is = refl
  no_texts (v ∷ more) is = absurd (omega (arith, is))

  pub too_many_texts : (operands : List Value) → 2 < length operands → of_texts (map (contents table) operands) go ≡ wrong_number
  too_many_texts [] less = absurd (omega (arith, less))
  too_many_texts (v ∷ []) less = absurd (omega (arith, less))
  too_many_texts (v ∷ w ∷ []) less = absurd (omega (arith, less))
  too_many_texts (v ∷ w ∷ x ∷ more) less = many_texts (contents table v) (contents table w) (contents table x) (map (contents table) more) go

  other_first : (v : Value) → text_in v ≡ None → of_texts (contents table v ∷ []) go ≡ wrong_kind
  other_first NoneValue is = refl
  other_first (TruthValue b) is = refl
  other_first (Int i) is = refl
  other_first (Text id) is = cc
  other_first (Tuple id) is = ap (λ c. of_texts (c ∷ []) go) (some_tuple table id).1
  other_first (Range a b c) is = refl
  other_first (Fn place) is = refl
  other_first (Class place) is = refl
  other_first (Exc n) is = refl
  other_first (Builtin n) is = refl
  other_first (Object o) is = refl

  other_of_two : (v : Value) (x : Contents) → text_in v ≡ None → of_texts (contents table v ∷ x ∷ []) go ≡ wrong_kind
  other_of_two NoneValue x is = refl
  other_of_two (TruthValue b) x is = refl
  other_of_two (Int i) x is = refl
  other_of_two (Text id) x is = cc
  other_of_two (Tuple id) x is = ap (λ c. of_texts (c ∷ x ∷ []) go) (some_tuple table id).1
  other_of_two (Range a b c) x is = refl
  other_of_two (Fn place) x is = refl
  other_of_two (Class place) x is = refl
  other_of_two (Exc n) x is = refl
  other_of_two (Builtin n) x is = refl
  other_of_two (Object o) x is = refl

  other_mode : (path : List ℕ) (w : Value) → text_in w ≡ None → of_texts (text path ∷ contents table w ∷ []) go ≡ wrong_kind
  other_mode path NoneValue is = refl
  other_mode path (TruthValue b) is = refl
  other_mode path (Int i) is = refl
  other_mode path (Text id) is = cc
  other_mode path (Tuple id) is = ap (λ c. of_texts (text path ∷ c ∷ []) go) (some_tuple table id).1
  other_mode path (Range a b c) is = refl
  other_mode path (Fn place) is = refl
  other_mode path (Class place) is = refl
  other_mode path (Exc n) is = refl
  other_mode path (Builtin n) is = refl
  other_mode path (Object o) is = refl

  pub no_path : (operands : List Value) → (length operands ≡ 0 → ⊥) → (2 < length operands → ⊥) → text_in (slice_index_or operands 0 NoneValue) ≡ None → of_texts (map (contents table) operands) go ≡ wrong_kind
  no_path [] some few is = absurd (some refl)
  no_path (v ∷ []) some few is = other_first v is
  no_path (v ∷ w ∷ []) some few is = other_of_two v (contents table w) is
  no_path (v ∷ w ∷ x ∷ more) some few is = absurd (few (omega (arith)))

  pub no_mode : (operands : List Value) (path : ℕ) → (length operands ≡ 0 → ⊥) → (2 < length operands → ⊥) → (length operands ≡ 1 → ⊥) → text_in (slice_index_or operands 0 NoneValue) ≡ Some path
      → text_in (slice_index_or operands 1 NoneValue) ≡ None → of_texts (map (contents table) operands) go ≡ wrong_kind
  no_mode [] path some few two first is = absurd (some refl)
  no_mode (v ∷ []) path some few two first is = absurd (two refl)
  no_mode (v ∷ w ∷ []) path some few two first is = ap (λ u. of_texts (contents table u ∷ contents table w ∷ []) go) (text_is v path first) ∙ other_mode (bytes_of table path) w is
  no_mode (v ∷ w ∷ x ∷ more) path some few two first is = absurd (few (omega (arith)))

  pub one_path : (operands : List Value) (path : ℕ) → length operands ≡ 1 → text_in (slice_index_or operands 0 NoneValue) ≡ Some path
      → of_texts (map (contents table) operands) go ≡ go (bytes_of table path, Some Read)
  one_path [] path one first = absurd (omega (arith, one))
  one_path (v ∷ []) path one first = ap (λ u. of_texts (contents table u ∷ []) go) (text_is v path first)
  one_path (v ∷ w ∷ more) path one first = absurd (many (length more) one)

  pub two_texts : (operands : List Value) (path mode : ℕ) → (length operands ≡ 0 → ⊥) → (2 < length operands → ⊥) → (length operands ≡ 1 → ⊥) → text_in (slice_index_or operands 0 NoneValue) ≡ Some path
      → text_in (slice_index_or operands 1 NoneValue) ≡ Some mode → of_texts (map (contents table) operands) go ≡ go (bytes_of table path, mode_named (bytes_of table mode))
  two_texts [] path mode some few two first second = absurd (some refl)
  two_texts (v ∷ []) path mode some few two first second = absurd (two refl)
  two_texts (v ∷ w ∷ []) path mode some few two first second = ap (λ u. of_texts (contents table u ∷ contents table w ∷ []) go) (text_is v path first)
      ∙ ap (λ u. of_texts (text (bytes_of table path) ∷ contents table u ∷ []) go) (text_is w mode second)
  two_texts (v ∷ w ∷ x ∷ more) path mode some few two first second = absurd (few (omega (arith)))

module _ (values : ValuesView) where
  pub path_of_one : (operands : List Value) (path : ℕ) → length operands ≡ 1 → text_in (slice_index_or operands 0 NoneValue) ≡ Some path → path_in values operands ≡ if_fetched path (bytes_of values path) (Some Read)
  path_of_one [] path one first = absurd (omega (arith, one))
  path_of_one (v ∷ []) path one first = ap (λ u. path_in values (u ∷ [])) (text_is v path first)
  path_of_one (v ∷ w ∷ more) path one first = absurd (many (length more) one)

  pub path_of_two : (operands : List Value) (path mode : ℕ) → (length operands ≡ 0 → ⊥) → (2 < length operands → ⊥) → (length operands ≡ 1 → ⊥) → text_in (slice_index_or operands 0 NoneValue) ≡ Some path
      → text_in (slice_index_or operands 1 NoneValue) ≡ Some mode → path_in values operands ≡ if_fetched path (bytes_of values path) (mode_named (bytes_of values mode))
  path_of_two [] path mode some few two first second = absurd (some refl)
  path_of_two (v ∷ []) path mode some few two first second = absurd (two refl)
  path_of_two (v ∷ w ∷ []) path mode some few two first second = ap (λ u. path_in values (u ∷ w ∷ [])) (text_is v path first) ∙ ap (λ u. path_in values (Text path ∷ u ∷ [])) (text_is w mode second)
  path_of_two (v ∷ w ∷ x ∷ more) path mode some few two first second = absurd (few (omega (arith)))
