-- What operands are taken as is alike for corresponding ones.
use Rattle.std.proofs.Common.{◌≡◌, ℕ, zero, suc, ℤ, Bool, true, false, if◌then◌else◌, List, [], ◌∷◌, Option, Some, None, option_map, refl, sym, ap₂, subst, ◌∙◌}
use Rattle.std.specs.Option.{option_or}
use Rattle.py_value.specs.declared.key.KeyFault.{KeyFault}
use Rattle.py_value.specs.declared.key.KeyFault.TheVariants.{NoKey, TooDeep}
use Rattle.py_value.specs.Contents.{Contents, Parts, nothing, truth, int, text, tuple, range, function, class, exception_class, builtin, object, no_parts, part}
use Rattle.py_value.specs.KeyOf.{key_fault, parts_fault}
use Rattle.py_value.specs.Seen.{SeenKind, a_list, a_dict}
use Rattle.py_model.proofs.AlikeWalks.{wrong_kind_alike, wrong_number_alike, not_there_alike, too_deep_alike, fault_alike}
use Rattle.py_model.proofs.AlikePlans.{Allowed, AlikeBy, both_kind, both_count, both_writes, both_done}
use Rattle.py_model.specs.Dicts.{when_dict}
use Rattle.py_model.specs.Faults.{not_there, too_deep, bad_index, out_of_range}
use Rattle.py_model.specs.Keys.{no_key_of, with_key_of}
use Rattle.py_model.specs.Lists.{when_list, with_place, with_bounds}
use Rattle.py_model.specs.Numbers.{is_int}
use Rattle.py_model.specs.Operands.{with_number, with_numbers, with_text, of_one, of_two, when_lists, gives, gives_int, gives_text}
use Rattle.py_model.specs.Places.{with_index, place_in, with_bound}
use Rattle.py_model.specs.Plan.{Plan, kind_of}
use Rattle.py_model.specs.Renaming.{Renaming, renamed, renamed_parts, renamed_list, renamed_kind}
use Rattle.py_model.specs.Walks.{deepest, number_of}

module _ (may : Allowed) (r : Renaming) where
  -- an operation that its operands alone decide is alike for corresponding ones
  abbrev pub AlikeFor : (List Contents → Plan) → Type 0
  AlikeFor plan = (values : List Contents) → AlikeBy may r (plan values) (plan (renamed_list r values))

  pub of_one_alike : (plan : Contents → Plan) → ((v : Contents) → AlikeBy may r (plan v) (plan (renamed r v))) → AlikeFor (of_one plan)
  of_one_alike plan each (v ∷ []) = each v
  of_one_alike plan each other = wrong_number_alike may r

  pub of_two_alike : (plan : Contents → Contents → Plan) → ((v w : Contents) → AlikeBy may r (plan v w) (plan (renamed r v) (renamed r w))) → AlikeFor (of_two plan)
  of_two_alike plan each (v ∷ w ∷ []) = each v w
  of_two_alike plan each other = wrong_number_alike may r

  -- numbers and texts
  pub number_alike : (v : Contents) (go gone : ℤ → Plan) → ((i : ℤ) → AlikeBy may r (go i) (gone i)) → AlikeBy may r (with_number v go) (with_number (renamed r v) gone)
  number_alike (int i) go gone each = each i
  number_alike (truth b) go gone each = each (number_of b)
  number_alike other go gone each = wrong_kind_alike may r

  pub numbers_alike : (v w : Contents) (go : ℤ → ℤ → Plan) → ((i j : ℤ) → AlikeBy may r (go i j) (go i j)) → AlikeBy may r (with_numbers v w go) (with_numbers (renamed r v) (renamed r w) go)
  numbers_alike v w go each = number_alike v _ _ (λ i. number_alike w _ _ (λ j. each i j))

  pub text_alike : (v : Contents) (go gone : List ℕ → Plan) → ((bytes : List ℕ) → AlikeBy may r (go bytes) (gone bytes)) → AlikeBy may r (with_text v go) (with_text (renamed r v) gone)
  text_alike (text bytes) go gone each = each bytes
  text_alike other go gone each = wrong_kind_alike may r

  pub gives_int_alike : (i : ℤ) → AlikeBy may r (gives_int i) (gives_int i)
  gives_int_alike i = by_test (is_int i)
    where
      by_test : (b : Bool) → AlikeBy may r (if b then gives (int i) else out_of_range) (if b then gives (int i) else out_of_range)
      by_test true = both_writes (both_done refl)
      by_test false = fault_alike may r _ _

  pub gives_text_alike : (bytes : List ℕ) → AlikeBy may r (gives_text bytes) (gives_text bytes)
  gives_text_alike bytes = both_count refl (both_writes (both_done refl))

  -- indexes, places and bounds
  pub index_alike : (index : Contents) (go gone : ℤ → Plan) → ((i : ℤ) → AlikeBy may r (go i) (gone i)) → AlikeBy may r (with_index index go) (with_index (renamed r index) gone)
  index_alike (int i) go gone each = each i
  index_alike (truth b) go gone each = each (number_of b)
  index_alike other go gone each = wrong_kind_alike may r

  abbrev placed : (ℕ → Plan) → Option ℕ → Plan
  placed go (Some p) = go p
  placed go None = bad_index

  pub place_alike : (i : ℤ) (m n : ℕ) (go gone : ℕ → Plan) → n ≡ m → ((p : ℕ) → AlikeBy may r (go p) (gone p)) → AlikeBy may r (with_place i m go) (with_place i n gone)
  place_alike i m n go gone same each = subst (λ k. AlikeBy may r (with_place i m go) (with_place i k gone)) (sym same) (by_place (place_in i m))
    where
      by_place : (place : Option ℕ) → AlikeBy may r (placed go place) (placed gone place)
      by_place (Some p) = each p
      by_place None = fault_alike may r _ _

  pub bound_alike : (v : Contents) (go gone : Option ℤ → Plan) → ((bound : Option ℤ) → AlikeBy may r (go bound) (gone bound)) → AlikeBy may r (with_bound v go) (with_bound (renamed r v) gone)
  bound_alike nothing go gone each = each None
  bound_alike (int i) go gone each = each (Some i)
  bound_alike (truth b) go gone each = each (Some (number_of b))
  bound_alike other go gone each = wrong_kind_alike may r

  pub bounds_alike : (low high : Contents) (go gone : Option ℤ → Option ℤ → Plan) → ((l h : Option ℤ) → AlikeBy may r (go l h) (gone l h))
      → AlikeBy may r (with_bounds low high go) (with_bounds (renamed r low) (renamed r high) gone)
  bounds_alike low high go gone each = bound_alike low _ _ (λ l. bound_alike high _ _ (λ h. each l h))

  -- kinds
  pub list_alike : (p q : Plan) → AlikeBy may r p q → (kind : Option SeenKind) → AlikeBy may r (when_list p kind) (when_list q (option_map (renamed_kind r) kind))
  list_alike p q both (Some a_list) = both
  list_alike p q both other = wrong_kind_alike may r

  pub dict_alike : (p q : Plan) → AlikeBy may r p q → (kind : Option SeenKind) → AlikeBy may r (when_dict p kind) (when_dict q (option_map (renamed_kind r) kind))
  dict_alike p q both (Some a_dict) = both
  dict_alike p q both other = wrong_kind_alike may r

  pub lists_alike : (p q : Plan) → AlikeBy may r p q → (left right : Option SeenKind)
      → AlikeBy may r (when_lists p left right) (when_lists q (option_map (renamed_kind r) left) (option_map (renamed_kind r) right))
  lists_alike p q both (Some a_list) (Some a_list) = both
  lists_alike p q both left right = wrong_kind_alike may r

  -- keys
  abbrev renamed_fault : KeyFault → KeyFault
  renamed_fault (NoKey o) = NoKey (r.objects o)
  renamed_fault other = other

  or_renamed : (a b : Option KeyFault) → option_or (option_map renamed_fault a) (option_map renamed_fault b) ≡ option_map renamed_fault (option_or a b)
  or_renamed None b = refl
  or_renamed (Some a) b = refl

  mutual
    key_fault_renamed : (levels : ℕ) (v : Contents) → key_fault levels (renamed r v) ≡ option_map renamed_fault (key_fault levels v)
    key_fault_renamed levels (object number) = refl
    key_fault_renamed zero (tuple parts) = refl
    key_fault_renamed (suc levels) (tuple parts) = parts_fault_renamed levels parts
    key_fault_renamed levels (range start end step) = refl
    key_fault_renamed levels (function place) = refl
    key_fault_renamed levels (class place) = refl
    key_fault_renamed levels (exception_class number) = refl
    key_fault_renamed levels (builtin number) = refl
    key_fault_renamed levels other = refl

    parts_fault_renamed : (levels : ℕ) (parts : Parts) → parts_fault levels (renamed_parts r parts) ≡ option_map renamed_fault (parts_fault levels parts)
    parts_fault_renamed levels no_parts = refl
    parts_fault_renamed levels (part first rest) =
        ap₂ option_or (key_fault_renamed levels first) (parts_fault_renamed levels rest) ∙ or_renamed (key_fault levels first) (parts_fault levels rest)

  abbrev keyed : Plan → Option KeyFault → Plan
  keyed go None = go
  keyed go (Some (NoKey o)) = kind_of o no_key_of
  keyed go (Some TooDeep) = too_deep
  keyed go (Some other) = not_there

  no_key_alike : (kind : Option SeenKind) → AlikeBy may r (no_key_of kind) (no_key_of (option_map (renamed_kind r) kind))
  no_key_alike (Some a_list) = fault_alike may r _ _
  no_key_alike (Some a_dict) = fault_alike may r _ _
  no_key_alike other = not_there_alike may r

  keyed_alike : (p q : Plan) → AlikeBy may r p q → (refused : Option KeyFault) → AlikeBy may r (keyed p refused) (keyed q (option_map renamed_fault refused))
  keyed_alike p q both None = both
  keyed_alike p q both (Some (NoKey o)) = both_kind no_key_alike
  keyed_alike p q both (Some TooDeep) = too_deep_alike may r
  keyed_alike p q both (Some other) = not_there_alike may r

  pub key_alike : (key : Contents) (go gone : Contents → Plan) → AlikeBy may r (go key) (gone (renamed r key)) → AlikeBy may r (with_key_of key go) (with_key_of (renamed r key) gone)
  key_alike key go gone both =
      subst (λ refused. AlikeBy may r (keyed (go key) (key_fault deepest key)) (keyed (gone (renamed r key)) refused)) (sym (key_fault_renamed deepest key))
      (keyed_alike (go key) (gone (renamed r key)) both (key_fault deepest key))
