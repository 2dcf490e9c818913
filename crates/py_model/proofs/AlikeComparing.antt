-- Comparisons of corresponding values are alike.
use Rattle.std.proofs.Common.{◌≡◌, ℕ, zero, suc, Bool, true, false, ◌&&◌, ◌==◌, not, List, [], ◌∷◌, length, Option, Some, None, nat_lt, option_map, if◌then◌else◌, refl, sym, ap₂, subst}
use Rattle.std.specs.Str.{bytes_eq}
use Rattle.py_value.specs.Contents.{Contents, Parts, truth, int, text, tuple, range, object, no_parts, part}
use Rattle.py_value.specs.Same.{same_value}
use Rattle.py_value.specs.Seen.{SeenKind, a_list, a_dict}
use Rattle.py_model.proofs.AlikeWalks.{read_value_alike, length_renamed, too_deep_alike, same_renamed, same_object}
use Rattle.py_model.proofs.AlikePlans.{Allowed, AlikeBy, both_read_len, both_read_entry, both_read_order, both_kind, both_look, both_count}
use Rattle.py_model.specs.Plan.{Plan}
use Rattle.py_model.specs.Renaming.{Renaming, renamed, renamed_parts, renamed_list, renamed_entry, renamed_kind}
use Rattle.py_model.specs.Walks.{read_value, Comparison, alike, before, behind, apart, decided, Pairs, compare_texts, compare_items, compare_parts, compare_lists, compare_entries, compare_dicts, compare_objects, compare_step, compare_within, is_alike, equals, deepest, by_length, number_of, by_number, when_same, same_range, order_of_texts}

module _ (may : Allowed) (r : Renaming) where
  pub if_alike : (b c : Bool) (p q s t : Plan) → c ≡ b → AlikeBy may r p s → AlikeBy may r q t → AlikeBy may r (if b then p else q) (if c then s else t)
  if_alike b c p q s t is one other = subst (λ d. AlikeBy may r (if b then p else q) (if d then s else t)) (sym is) (by_test b)
    where
      by_test : (d : Bool) → AlikeBy may r (if d then p else q) (if d then s else t)
      by_test true = one
      by_test false = other

  -- a comparison that goes on alike
  abbrev pub AlikePairs : Pairs → Type 0
  AlikePairs pair = (ordered : Bool) (v w : Contents) (go gone : Comparison → Plan) → ((how : Comparison) → AlikeBy may r (go how) (gone how))
      → AlikeBy may r (pair ordered v w go) (pair ordered (renamed r v) (renamed r w) gone)

  decided_alike : (go gone : Comparison → Plan) (next then_next : Plan) → ((how : Comparison) → AlikeBy may r (go how) (gone how)) → AlikeBy may r next then_next
      → (how : Comparison) → AlikeBy may r (decided go next how) (decided gone then_next how)
  decided_alike go gone next then_next each both alike = both
  decided_alike go gone next then_next each both how = each how

  compare_texts_alike : (ordered : Bool) (one other : List ℕ) (go gone : Comparison → Plan) → ((how : Comparison) → AlikeBy may r (go how) (gone how))
      → AlikeBy may r (compare_texts ordered one other go) (compare_texts ordered one other gone)
  compare_texts_alike ordered one other go gone each =
      if_alike (bytes_eq one other) (bytes_eq one other) _ _ _ _ refl (each alike)
      (if_alike (not ordered) (not ordered) _ _ _ _ refl (each apart) (both_count refl (each (order_of_texts one other))))

  module _ (pair : Pairs) (pairs : AlikePairs pair) where
    compare_items_alike : (ordered : Bool) (n o p i : ℕ) (rest : Comparison) (go gone : Comparison → Plan) → ((how : Comparison) → AlikeBy may r (go how) (gone how))
        → AlikeBy may r (compare_items pair ordered n o p i rest go) (compare_items pair ordered n (r.objects o) (r.objects p) i rest gone)
    compare_items_alike ordered zero o p i rest go gone each = each rest
    compare_items_alike ordered (suc n) o p i rest go gone each =
        let next = compare_items pair ordered n o p (suc i) rest go in
        let then_next = compare_items pair ordered n (r.objects o) (r.objects p) (suc i) rest gone in
        let both = compare_items_alike ordered n o p (suc i) rest go gone each in
        read_value_alike may r o i
        (λ v. read_value p i (λ w. pair ordered v w (decided go next)))
        (λ v. read_value (r.objects p) i (λ w. pair ordered v w (decided gone then_next)))
        (λ v. read_value_alike may r p i (λ w. pair ordered v w (decided go next)) (λ w. pair ordered (renamed r v) w (decided gone then_next))
        (λ w. pairs ordered v w (decided go next) (decided gone then_next) (decided_alike go gone next then_next each both)))

    compare_parts_alike : (ordered : Bool) (ps qs : Parts) (go gone : Comparison → Plan) → ((how : Comparison) → AlikeBy may r (go how) (gone how))
        → AlikeBy may r (compare_parts pair ordered ps qs go) (compare_parts pair ordered (renamed_parts r ps) (renamed_parts r qs) gone)
    compare_parts_alike ordered no_parts no_parts go gone each = each alike
    compare_parts_alike ordered no_parts (part w qs) go gone each = each before
    compare_parts_alike ordered (part v ps) no_parts go gone each = each behind
    compare_parts_alike ordered (part v ps) (part w qs) go gone each =
        both_look refl (pairs ordered v w _ _ (decided_alike go gone _ _ each (compare_parts_alike ordered ps qs go gone each)))

    compare_lists_alike : (ordered : Bool) (o p : ℕ) (go gone : Comparison → Plan) → ((how : Comparison) → AlikeBy may r (go how) (gone how))
        → AlikeBy may r (compare_lists pair ordered o p go) (compare_lists pair ordered (r.objects o) (r.objects p) gone)
    compare_lists_alike ordered o p go gone each = both_read_len (λ m. both_read_len (λ n.
        if_alike (not ordered && not (m == n)) (not ordered && not (m == n)) _ _ _ _ refl (each apart)
        (compare_items_alike ordered (if nat_lt m n then m else n) o p 0 (by_length m n) go gone each)))

    abbrev or_apart : (Comparison → Plan) → Plan → Comparison → Plan
    or_apart go next alike = next
    or_apart go next how = go apart

    or_apart_alike : (go gone : Comparison → Plan) (next then_next : Plan) → ((how : Comparison) → AlikeBy may r (go how) (gone how)) → AlikeBy may r next then_next
        → (how : Comparison) → AlikeBy may r (or_apart go next how) (or_apart gone then_next how)
    or_apart_alike go gone next then_next each both alike = both
    or_apart_alike go gone next then_next each both how = each apart

    abbrev with_both : (Comparison → Plan) → Option (Contents × Contents) → Option (Contents × Contents) → (Contents → Contents → Plan) → Plan
    with_both go (Some left) (Some right) next = next left.1 right.1
    with_both go left right next = go apart

    with_both_alike : (go gone : Comparison → Plan) (next then_next : Contents → Contents → Plan) → ((how : Comparison) → AlikeBy may r (go how) (gone how))
        → ((v w : Contents) → AlikeBy may r (next v w) (then_next (renamed r v) (renamed r w)))
        → (left right : Option (Contents × Contents)) → AlikeBy may r (with_both go left right next) (with_both gone (renamed_entry r left) (renamed_entry r right) then_next)
    with_both_alike go gone next then_next each both (Some left) (Some right) = both left.1 right.1
    with_both_alike go gone next then_next each both left right = each apart

    compare_entries_alike : (keys : List Contents) (o p : ℕ) (go gone : Comparison → Plan) → ((how : Comparison) → AlikeBy may r (go how) (gone how))
        → AlikeBy may r (compare_entries pair keys o p go) (compare_entries pair (renamed_list r keys) (r.objects o) (r.objects p) gone)
    compare_entries_alike [] o p go gone each = each alike
    compare_entries_alike (key ∷ keys) o p go gone each =
        let next = compare_entries pair keys o p go in
        let then_next = compare_entries pair (renamed_list r keys) (r.objects o) (r.objects p) gone in
        let both = compare_entries_alike keys o p go gone each in
        both_read_entry (λ left. both_read_entry (λ right. with_both_alike go gone
        (λ v w. pair false v w (or_apart go next)) (λ v w. pair false v w (or_apart gone then_next)) each
        (λ v w. pairs false v w (or_apart go next) (or_apart gone then_next) (or_apart_alike go gone next then_next each both)) left right))

    compare_dicts_alike : (o p : ℕ) (go gone : Comparison → Plan) → ((how : Comparison) → AlikeBy may r (go how) (gone how))
        → AlikeBy may r (compare_dicts pair o p go) (compare_dicts pair (r.objects o) (r.objects p) gone)
    compare_dicts_alike o p go gone each = both_read_order (λ ks. both_read_order (λ ls.
        if_alike (length ks == length ls) (length (renamed_list r ks) == length (renamed_list r ls)) _ _ _ _
        (ap₂ (λ m n. m == n) (length_renamed r ks) (length_renamed r ls)) (compare_entries_alike ks o p go gone each) (each apart)))

  abbrev AlikeInside : Option Pairs → Type 0
  AlikeInside None = Unit {0}
  AlikeInside (Some pair) = AlikePairs pair

  compare_objects_alike : (inside : Option Pairs) → AlikeInside inside → (ordered : Bool) (o p : ℕ) (go gone : Comparison → Plan)
      → ((how : Comparison) → AlikeBy may r (go how) (gone how)) → (left right : Option SeenKind)
      → AlikeBy may r (compare_objects inside ordered o p go left right)
      (compare_objects inside ordered (r.objects o) (r.objects p) gone (option_map (renamed_kind r) left) (option_map (renamed_kind r) right))
  compare_objects_alike (Some pair) pairs ordered o p go gone each (Some a_list) (Some a_list) = compare_lists_alike pair pairs ordered o p go gone each
  compare_objects_alike None pairs ordered o p go gone each (Some a_list) (Some a_list) = too_deep_alike may r
  compare_objects_alike (Some pair) pairs ordered o p go gone each (Some a_dict) (Some a_dict) = compare_dicts_alike pair pairs o p go gone each
  compare_objects_alike None pairs ordered o p go gone each (Some a_dict) (Some a_dict) = too_deep_alike may r
  compare_objects_alike inside pairs ordered o p go gone each left right = each apart

  compare_step_alike : (inside : Option Pairs) → AlikeInside inside → AlikePairs (compare_step inside)
  compare_step_alike inside pairs ordered (int i) (int j) go gone each = each (by_number i j)
  compare_step_alike inside pairs ordered (int i) (truth b) go gone each = each (by_number i (number_of b))
  compare_step_alike inside pairs ordered (truth a) (int j) go gone each = each (by_number (number_of a) j)
  compare_step_alike inside pairs ordered (truth a) (truth b) go gone each = each (by_number (number_of a) (number_of b))
  compare_step_alike inside pairs ordered (text one) (text other) go gone each = compare_texts_alike ordered one other go gone each
  compare_step_alike inside pairs ordered (range a b c) (range d e f) go gone each = each (when_same (same_range a b c d e f))
  compare_step_alike (Some pair) pairs ordered (tuple ps) (tuple qs) go gone each = compare_parts_alike pair pairs ordered ps qs go gone each
  compare_step_alike None pairs ordered (tuple ps) (tuple qs) go gone each = too_deep_alike may r
  compare_step_alike inside pairs ordered (object o) (object p) go gone each =
      if_alike (o == p) (r.objects o == r.objects p) _ _ _ _ (same_object r o p) (each alike)
      (both_kind (λ left. both_kind (λ right. compare_objects_alike inside pairs ordered o p go gone each left right)))
  compare_step_alike inside pairs ordered v w go gone each =
      subst (λ b. AlikeBy may r (go (when_same (same_value v w))) (gone (when_same b))) (sym (same_renamed r v w)) (each (when_same (same_value v w)))

  pub compare_within_alike : (levels : ℕ) → AlikePairs (compare_within levels)
  compare_within_alike zero = compare_step_alike None tt
  compare_within_alike (suc levels) = compare_step_alike (Some (compare_within levels)) (compare_within_alike levels)

  pub equals_alike : (v w : Contents) (go gone : Bool → Plan) → ((b : Bool) → AlikeBy may r (go b) (gone b)) → AlikeBy may r (equals v w go) (equals (renamed r v) (renamed r w) gone)
  equals_alike v w go gone each = compare_within_alike deepest false v w (λ how. go (is_alike how)) (λ how. gone (is_alike how)) (λ how. each (is_alike how))
