-- Every operation is alike for corresponding operands.
use Rattle.std.proofs.Common.{◌≡◌, ℕ, zero, suc, ◌+◌, ◌-◌, Bool, true, false, ◌==◌, List, [], ◌∷◌, slice_get, nat_lt, Some, None, if◌then◌else◌, refl, sym, subst, arith, ltb-false}
use Rattle.py_value.specs.Contents.{Contents, truth, int}
use Rattle.py_model.proofs.AlikeArithmetic.{truth_alike, not_alike, neg_alike, pos_alike, add_alike, sub_alike, mul_alike, floor_div_alike, mod_alike, eq_alike, ne_alike, lt_alike, le_alike, gt_alike, ge_alike, in_alike, not_in_alike, is_alike, is_not_alike, iadd_alike, abs_alike, bool_alike, len_alike, max_alike, min_alike, range_alike, sum_alike}
use Rattle.py_model.proofs.AlikeAttributes.{getattr_alike, setattr_alike, find_alike, make_alike, isinstance_alike, define_alike, define_method_alike, begin_class_alike, import_alike, raise_alike, matches_alike, assertion_alike, call_failed_alike}
use Rattle.py_model.proofs.AlikeDicts.{dict_display_alike, dict_builtin_alike, get_alike, items_alike, keys_alike, values_alike}
use Rattle.py_model.proofs.AlikeFiles.{open_alike, read_alike, readline_alike, next_turn_alike, write_alike, close_alike, input_alike, time_ns_alike, randint_alike, randrange_alike}
use Rattle.py_model.proofs.AlikeItems.{getitem_alike, setitem_alike, delitem_alike, slice_alike, unpack_alike}
use Rattle.py_model.proofs.AlikeLists.{list_display_alike, tuple_display_alike, append_alike, extend_alike, insert_alike, pop_alike, index_method_alike, reverse_alike, enumerate_alike, list_builtin_alike, tuple_builtin_alike, zip_alike, iter_alike}
use Rattle.py_model.proofs.AlikeNames.{const_alike, load_alike, give_alike, bind_alike, unbind_alike, begin_with_alike, end_with_alike}
use Rattle.py_model.proofs.AlikeOperands.{AlikeFor, of_one_alike, of_two_alike}
use Rattle.py_model.proofs.AlikeSorting.{sort_alike, sorted_alike}
use Rattle.py_model.proofs.AlikeTexts.{strip_alike, lstrip_alike, rstrip_alike, split_alike, join_alike, replace_alike, find_text_alike, startswith_alike, endswith_alike, upper_alike, lower_alike, isdigit_alike, ljust_alike, rjust_alike, chr_alike, int_alike, ord_alike}
use Rattle.py_model.proofs.AlikeWalks.{wrong_number_alike}
use Rattle.py_model.proofs.AlikePlans.{Allowed, AlikeBy}
use Rattle.py_model.specs.AlikeOperations.{renamed_op}
use Rattle.py_model.specs.Lists.{unpack}
use Rattle.py_model.specs.Names.{bind, unbind}
use Rattle.py_model.specs.Operands.{of_one}
use Rattle.py_model.specs.Operations.{Op, of_none, is_silent, targets_of, make_plan, def_plan, class_plan, language, functions, methods, or_none, or_no_operation, plan}
use Rattle.py_model.specs.Plan.{Plan}
use Rattle.py_model.specs.Printing.{print_values, repr_of, str_of}
use Rattle.py_model.specs.Quiet.{may_ask, may_note}
use Rattle.py_model.specs.Renaming.{Renaming, renamed, renamed_list}

module _ (may : Allowed) (r : Renaming) where
  pub of_none_alike : (p q : Plan) → AlikeBy may r p q → (values : List Contents) → AlikeBy may r (of_none p values) (of_none q (renamed_list r values))
  of_none_alike p q both [] = both
  of_none_alike p q both values = wrong_number_alike may r

  silent_stays : (v : Contents) → is_silent (renamed r v) ≡ is_silent v
  silent_stays (truth b) = refl
  silent_stays other = refl

  targets_stay : (v : Contents) → targets_of (renamed r v) ≡ targets_of v
  targets_stay (int i) = refl
  targets_stay other = refl

  pub make_plan_alike : AlikeFor may r make_plan
  make_plan_alike (of ∷ arguments) = make_alike may r of arguments
  make_plan_alike [] = wrong_number_alike may r

  -- an operation that names something
  abbrev pub AlikeNamed : (Op → List Contents → Plan) → Type 0
  AlikeNamed named = (op : Op) (values : List Contents) → AlikeBy may r (named op values) (named (renamed_op r op) (renamed_list r values))

  pub def_plan_alike : may.notes ≡ true → AlikeNamed def_plan
  def_plan_alike noting op [] = define_alike may r noting op.name op.value
  def_plan_alike noting op (of ∷ []) = define_method_alike may r noting op.name op.value of
  def_plan_alike noting op values = wrong_number_alike may r

  pub class_plan_alike : may.notes ≡ true → AlikeNamed class_plan
  class_plan_alike noting op [] = begin_class_alike may r noting op.name op.value None
  class_plan_alike noting op (base ∷ []) = begin_class_alike may r noting op.name op.value (Some base)
  class_plan_alike noting op values = wrong_number_alike may r

  pub unbind_op_alike : AlikeNamed (λ op. of_none (unbind (is_silent op.value) op.scope op.name))
  unbind_op_alike op values = of_none_alike _ _
      (subst (λ b. AlikeBy may r (unbind (is_silent op.value) op.scope op.name) (unbind b (r.scopes op.scope) op.name)) (sym (silent_stays op.value)) (unbind_alike may r (is_silent op.value) op.scope op.name)) values

  pub unpack_op_alike : AlikeNamed (λ op. unpack (targets_of op.value))
  unpack_op_alike op values =
      subst (λ n. AlikeBy may r (unpack (targets_of op.value) values) (unpack n (renamed_list r values))) (sym (targets_stay op.value)) (unpack_alike may r (targets_of op.value) values)

  pub bind_op_alike : AlikeNamed (λ op. of_one (bind op.scope op.name))
  bind_op_alike op (v ∷ []) = bind_alike may r op.scope op.name v
  bind_op_alike op values = wrong_number_alike may r

-- what the operation with a number may do: five ask, two note names, and one raises again
abbrev pub of_raise : Bool → ℕ → Type 0
of_raise true o = Unit {0}
of_raise false o = ⊥

abbrev pub allowed : ℕ → Allowed
allowed number = record { asks = may_ask number; notes = may_note number; again = of_raise (number == 40) }

module _ (r : Renaming) where
  -- rows of operations, with what each of them may do
  abbrev AllNamed : (ℕ → Allowed) → List (Op → List Contents → Plan) → Type 0
  AllNamed may [] = Unit {0}
  AllNamed may (one ∷ rest) = AlikeNamed (may 0) r one × AllNamed (λ i. may (suc i)) rest

  abbrev AllAlike : (ℕ → Allowed) → List (List Contents → Plan) → Type 0
  AllAlike may [] = Unit {0}
  AllAlike may (one ∷ rest) = AlikeFor (may 0) r one × AllAlike (λ i. may (suc i)) rest

  named_at : (may : ℕ → Allowed) (all : List (Op → List Contents → Plan)) → AllNamed may all → (i : ℕ) → AlikeNamed (may i) r (or_no_operation (slice_get all i))
  named_at may [] each i op values = wrong_number_alike (may i) r
  named_at may (one ∷ rest) each zero op values = each.0 op values
  named_at may (one ∷ rest) each (suc i) op values = named_at (λ j. may (suc j)) rest each.1 i op values

  alike_at : (may : ℕ → Allowed) (all : List (List Contents → Plan)) → AllAlike may all → (i : ℕ) → AlikeFor (may i) r (or_none (slice_get all i))
  alike_at may [] each i values = wrong_number_alike (may i) r
  alike_at may (one ∷ rest) each zero values = each.0 values
  alike_at may (one ∷ rest) each (suc i) values = alike_at (λ j. may (suc j)) rest each.1 i values

  language_alike : AllNamed allowed language
  language_alike = (
    (λ op. of_none_alike _ r _ _ (const_alike _ r op.value)),
    (
      (λ op. of_none_alike _ r _ _ (load_alike _ r op.scope op.name)),
      (
        (λ op. of_one_alike _ r _ (give_alike _ r)),
        (
          (λ op. truth_alike _ r),
          (
            (λ op. not_alike _ r),
            (
              (λ op. neg_alike _ r),
              (
                (λ op. pos_alike _ r),
                (
                  (λ op. add_alike _ r),
                  (
                    (λ op. sub_alike _ r),
                    (
                      (λ op. mul_alike _ r),
                      (
                        (λ op. floor_div_alike _ r),
                        (
                          (λ op. mod_alike _ r),
                          (
                            (λ op. eq_alike _ r),
                            (
                              (λ op. ne_alike _ r),
                              (
                                (λ op. lt_alike _ r),
                                (
                                  (λ op. le_alike _ r),
                                  (
                                    (λ op. gt_alike _ r),
                                    (
                                      (λ op. ge_alike _ r),
                                      (
                                        (λ op. in_alike _ r),
                                        (
                                          (λ op. not_in_alike _ r),
                                          (
                                            (λ op. is_alike _ r),
                                            (
                                              (λ op. is_not_alike _ r),
                                              (
                                                (λ op. iadd_alike _ r),
                                                (
                                                  (λ op. list_display_alike _ r),
                                                  (
                                                    (λ op. dict_display_alike _ r),
                                                    (
                                                      (λ op. tuple_display_alike _ r),
                                                      (
                                                        (λ op. getitem_alike _ r),
                                                        (
                                                          (λ op. slice_alike _ r),
                                                          (
                                                            (λ op. setitem_alike _ r),
                                                            (
                                                              (λ op. delitem_alike _ r),
                                                              (
                                                                (λ op. of_one_alike _ r _ (getattr_alike _ r op.name)),
                                                                (
                                                                  (λ op. of_two_alike _ r _ (setattr_alike _ r op.name)),
                                                                  (
                                                                    (λ op. of_one_alike _ r _ (find_alike _ r op.name)),
                                                                    (
                                                                      bind_op_alike _ r,
                                                                      (
                                                                        unbind_op_alike _ r,
                                                                        (
                                                                          unpack_op_alike _ r,
                                                                          (
                                                                            (λ op. iter_alike _ r),
                                                                            (
                                                                              (λ op. next_turn_alike _ r),
                                                                              (
                                                                                (λ op values. call_failed_alike _ r op.value),
                                                                                (
                                                                                  (λ op. make_plan_alike _ r),
                                                                                  (
                                                                                    (λ op. of_one_alike _ r _ (raise_alike _ r (λ o. tt))),
                                                                                    (
                                                                                      (λ op. of_two_alike _ r _ (matches_alike _ r)),
                                                                                      (
                                                                                        def_plan_alike _ r refl,
                                                                                        (
                                                                                          class_plan_alike _ r refl,
                                                                                          (
                                                                                            (λ op. of_none_alike _ r _ _ (import_alike _ r op.scope op.name op.value)),
                                                                                            ((λ op. of_one_alike _ r _ (end_with_alike _ r)), ((λ op. of_one_alike _ r _ (begin_with_alike _ r)), ((λ op. assertion_alike _ r), tt))),
                                                                                          ),
                                                                                        ),
                                                                                      ),
                                                                                    ),
                                                                                  ),
                                                                                ),
                                                                              ),
                                                                            ),
                                                                          ),
                                                                        ),
                                                                      ),
                                                                    ),
                                                                  ),
                                                                ),
                                                              ),
                                                            ),
                                                          ),
                                                        ),
                                                      ),
                                                    ),
                                                  ),
                                                ),
                                              ),
                                            ),
                                          ),
                                        ),
                                      ),
                                    ),
                                  ),
                                ),
                              ),
                            ),
                          ),
                        ),
                      ),
                    ),
                  ),
                ),
              ),
            ),
          ),
        ),
      ),
    ),
  )

  methods_alike : AllAlike (λ i. allowed (80 + i)) methods
  methods_alike = (
    append_alike _ r,
    (
      extend_alike _ r,
      (
        insert_alike _ r,
        (
          pop_alike _ r,
          (
            index_method_alike _ r,
            (
              reverse_alike _ r,
              (
                sort_alike _ r,
                (
                  get_alike _ r,
                  (
                    items_alike _ r,
                    (
                      keys_alike _ r,
                      (
                        values_alike _ r,
                        (
                          strip_alike _ r,
                          (
                            lstrip_alike _ r,
                            (
                              rstrip_alike _ r,
                              (
                                split_alike _ r,
                                (
                                  join_alike _ r,
                                  (
                                    replace_alike _ r,
                                    (
                                      find_text_alike _ r,
                                      (
                                        startswith_alike _ r,
                                        (
                                          endswith_alike _ r,
                                          (
                                            upper_alike _ r,
                                            (
                                              lower_alike _ r,
                                              (
                                                isdigit_alike _ r,
                                                (
                                                  ljust_alike _ r,
                                                  (
                                                    rjust_alike _ r,
                                                    (
                                                      read_alike _ r,
                                                      (
                                                        readline_alike _ r,
                                                        (
                                                          write_alike _ r,
                                                          (
                                                            close_alike _ r,
                                                            (time_ns_alike _ r refl, (randint_alike _ r refl, (randrange_alike _ r refl, tt))),
                                                          ),
                                                        ),
                                                      ),
                                                    ),
                                                  ),
                                                ),
                                              ),
                                            ),
                                          ),
                                        ),
                                      ),
                                    ),
                                  ),
                                ),
                              ),
                            ),
                          ),
                        ),
                      ),
                    ),
                  ),
                ),
              ),
            ),
          ),
        ),
      ),
    ),
  )

  -- given that what prints is alike
  module _
      (print_alike : (may : Allowed) → AlikeFor may r print_values)
      (repr_alike : (may : Allowed) (v : Contents) → AlikeBy may r (repr_of v) (repr_of (renamed r v)))
      (str_alike : (may : Allowed) (v : Contents) → AlikeBy may r (str_of v) (str_of (renamed r v))) where
    functions_alike : AllAlike (λ i. allowed (50 + i)) functions
    functions_alike = (
      abs_alike _ r,
      (
        bool_alike _ r,
        (
          chr_alike _ r,
          (
            dict_builtin_alike _ r,
            (
              enumerate_alike _ r,
              (
                input_alike _ r refl,
                (
                  int_alike _ r,
                  (
                    of_two_alike _ r _ (isinstance_alike _ r),
                    (
                      len_alike _ r,
                      (
                        list_builtin_alike _ r,
                        (
                          max_alike _ r,
                          (
                            min_alike _ r,
                            (
                              open_alike _ r refl,
                              (
                                ord_alike _ r,
                                (
                                  print_alike _,
                                  (
                                    range_alike _ r,
                                    (
                                      of_one_alike _ r _ (repr_alike _),
                                      (
                                        sorted_alike _ r,
                                        (
                                          of_one_alike _ r _ (str_alike _),
                                          (
                                            sum_alike _ r,
                                            (tuple_builtin_alike _ r, (zip_alike _ r, tt)),
                                          ),
                                        ),
                                      ),
                                    ),
                                  ),
                                ),
                              ),
                            ),
                          ),
                        ),
                      ),
                    ),
                  ),
                ),
              ),
            ),
          ),
        ),
      ),
    )

    abbrev chosen : Bool → Plan → Plan → Plan
    chosen b p q = if b then p else q

    of_methods : (op : Op) (values : List Contents) (b : Bool) → nat_lt op.no 50 ≡ false → nat_lt op.no 80 ≡ b
        → AlikeBy (allowed op.no) r (chosen b (or_none (slice_get functions (op.no - 50)) values) (or_none (slice_get methods (op.no - 80)) values))
        (chosen b (or_none (slice_get functions (op.no - 50)) (renamed_list r values)) (or_none (slice_get methods (op.no - 80)) (renamed_list r values)))
    of_methods op values true large small =
        let is : 50 + (op.no - 50) ≡ op.no = omega (arith, ltb-false op.no 50 large) in
        subst (λ n. AlikeBy (allowed n) r (or_none (slice_get functions (op.no - 50)) values) (or_none (slice_get functions (op.no - 50)) (renamed_list r values))) is
        (alike_at (λ i. allowed (50 + i)) functions functions_alike (op.no - 50) values)
    of_methods op values false large larger =
        let is : 80 + (op.no - 80) ≡ op.no = omega (arith, ltb-false op.no 80 larger) in
        subst (λ n. AlikeBy (allowed n) r (or_none (slice_get methods (op.no - 80)) values) (or_none (slice_get methods (op.no - 80)) (renamed_list r values))) is
        (alike_at (λ i. allowed (80 + i)) methods methods_alike (op.no - 80) values)

    by_number : (op : Op) (values : List Contents) (b : Bool) → nat_lt op.no 50 ≡ b
        → AlikeBy (allowed op.no) r (chosen b (or_no_operation (slice_get language op.no) op values) (chosen (nat_lt op.no 80) (or_none (slice_get functions (op.no - 50)) values) (or_none (slice_get methods (op.no - 80)) values)))
        (chosen b (or_no_operation (slice_get language op.no) (renamed_op r op) (renamed_list r values))
        (chosen (nat_lt op.no 80) (or_none (slice_get functions (op.no - 50)) (renamed_list r values)) (or_none (slice_get methods (op.no - 80)) (renamed_list r values))))
    by_number op values true small = named_at allowed language language_alike op.no op values
    by_number op values false large = of_methods op values (nat_lt op.no 80) large refl

    pub operation_alike : (op : Op) (values : List Contents) → AlikeBy (allowed op.no) r (plan op values) (plan (renamed_op r op) (renamed_list r values))
    operation_alike op values = by_number op values (nat_lt op.no 50) refl
