-- Every operation writes and answers what it got, and keys.
use Rattle.std.proofs.Common.{ℕ, zero, suc, ◌-◌, List, [], ◌∷◌, slice_get, Some, None}
use Rattle.std.specs.Prelude.{⊤, nat_lt}
use Rattle.py_value.specs.Contents.{Contents}
use Rattle.py_model.specs.Operations.{Op, of_none, is_silent, targets_of, make_plan, def_plan, class_plan, language, functions, methods, or_none, or_no_operation, plan}
use Rattle.py_model.specs.Plan.{Plan}
use Rattle.py_model.specs.Files.{next_line}
use Rattle.kept_runs.proofs.Walking.{faulted, Sound, OfAll, sound_if, of_one_sound, of_two_sound}
use Rattle.kept_runs.proofs.Counting as counting
use Rattle.kept_runs.proofs.Objects as objects
use Rattle.kept_runs.proofs.Outsides as outsides
use Rattle.kept_runs.proofs.Sequences as sequences
use Rattle.kept_runs.proofs.Flow.{Known, KeptValue, KeptAll, by_writes, by_raise}

module _ (known : Known) where
  abbrev PlanSound : (Op → List Contents → Plan) → Type 0
  PlanSound plan = (op : Op) → KeptValue known op.value → OfAll known (plan op)

  none_sound : {plan : Plan} → Sound known plan → OfAll known (of_none plan)
  none_sound is [] all = is
  none_sound is (v ∷ vs) all = faulted

  make_plan_sound : OfAll known make_plan
  make_plan_sound (of ∷ arguments) all = objects.make_sound known of arguments all.0 all.1
  make_plan_sound [] all = faulted

  def_sound : PlanSound def_plan
  def_sound op is [] all = objects.define_sound known op.name op.value is
  def_sound op is (of ∷ []) all = objects.define_method_sound known op.name op.value of is
  def_sound op is (v ∷ (w ∷ vs)) all = faulted

  class_sound : PlanSound class_plan
  class_sound op is [] all = objects.begin_class_sound known op.name op.value None is tt
  class_sound op is (base ∷ []) all = objects.begin_class_sound known op.name op.value (Some base) is all.0
  class_sound op is (v ∷ (w ∷ vs)) all = faulted

  abbrev AllSound : List (Op → List Contents → Plan) → Type 0
  AllSound [] = ⊤
  AllSound (plan ∷ plans) = PlanSound plan × AllSound plans

  abbrev AllAlone : List (List Contents → Plan) → Type 0
  AllAlone [] = ⊤
  AllAlone (plan ∷ plans) = OfAll known plan × AllAlone plans

  each_sound : (plans : List (Op → List Contents → Plan)) → AllSound plans → (n : ℕ) → PlanSound (or_no_operation (slice_get plans n))
  each_sound [] all n op is values are = faulted
  each_sound (plan ∷ plans) all zero op is values are = all.0 op is values are
  each_sound (plan ∷ plans) all (suc n) op is values are = each_sound plans all.1 n op is values are

  each_alone : (plans : List (List Contents → Plan)) → AllAlone plans → (n : ℕ) → OfAll known (or_none (slice_get plans n))
  each_alone [] all n values are = faulted
  each_alone (plan ∷ plans) all zero values are = all.0 values are
  each_alone (plan ∷ plans) all (suc n) values are = each_alone plans all.1 n values are

  language_sound : AllSound language
  language_sound = (
    (λ op is. none_sound (by_writes is)),
    (
      (λ op is. none_sound (objects.load_sound known op.scope op.name)),
      (
        (λ op is. of_one_sound known (λ v so. by_writes so)),
        (
          (λ op is. counting.truth_sound known),
          (
            (λ op is. counting.not_sound known),
            (
              (λ op is. counting.neg_sound known),
              (
                (λ op is. counting.pos_sound known),
                (
                  (λ op is. counting.add_sound known),
                  (
                    (λ op is. counting.sub_sound known),
                    (
                      (λ op is. counting.mul_sound known),
                      (
                        (λ op is. counting.floor_div_sound known),
                        (
                          (λ op is. counting.mod_sound known),
                          (
                            (λ op is. counting.eq_sound known),
                            (
                              (λ op is. counting.ne_sound known),
                              (
                                (λ op is. counting.lt_sound known),
                                (
                                  (λ op is. counting.le_sound known),
                                  (
                                    (λ op is. counting.gt_sound known),
                                    (
                                      (λ op is. counting.ge_sound known),
                                      (
                                        (λ op is. counting.in_sound known),
                                        (
                                          (λ op is. counting.not_in_sound known),
                                          (
                                            (λ op is. counting.is_sound known),
                                            (
                                              (λ op is. counting.is_not_sound known),
                                              (
                                                (λ op is. counting.iadd_sound known),
                                                (
                                                  (λ op is. sequences.list_display_sound known),
                                                  (
                                                    (λ op is. sequences.dict_display_sound known),
                                                    (
                                                      (λ op is. sequences.tuple_display_sound known),
                                                      (
                                                        (λ op is. sequences.getitem_sound known),
                                                        (
                                                          (λ op is. sequences.slice_sound known),
                                                          (
                                                            (λ op is. sequences.setitem_sound known),
                                                            (
                                                              (λ op is. sequences.delitem_sound known),
                                                              (
                                                                (λ op is. of_one_sound known (objects.getattr_sound known op.name)),
                                                                (
                                                                  (λ op is. of_two_sound known (objects.setattr_sound known op.name)),
                                                                  (
                                                                    (λ op is. of_one_sound known (objects.find_sound known op.name)),
                                                                    (
                                                                      (λ op is. of_one_sound known (λ v so. by_writes (so, tt))),
                                                                      (
                                                                        (λ op is. none_sound (objects.unbind_sound known (is_silent op.value) op.scope op.name)),
                                                                        (
                                                                          (λ op is. sequences.unpack_sound known (targets_of op.value)),
                                                                          (
                                                                            (λ op is. sequences.iter_sound known),
                                                                            (
                                                                              (λ op is. sequences.next_sound known next_line (outsides.next_line_sound known)),
                                                                              (
                                                                                (λ op is values are. objects.call_failed_sound known op.value),
                                                                                (
                                                                                  (λ op is. make_plan_sound),
                                                                                  (
                                                                                    (λ op is. of_one_sound known (objects.raise_sound known)),
                                                                                    (
                                                                                      (λ op is. of_two_sound known (λ v w one other. objects.matches_sound known v w other)),
                                                                                      (
                                                                                        def_sound,
                                                                                        (
                                                                                          class_sound,
                                                                                          (
                                                                                            (λ op is. none_sound (by_writes (is, tt))),
                                                                                            (
                                                                                              (λ op is. of_one_sound known (λ v so. objects.end_with_sound known v)),
                                                                                              (
                                                                                                (λ op is. of_one_sound known (objects.begin_with_sound known)),
                                                                                                (
                                                                                                  (λ op is values are. by_raise tt are),
                                                                                                  tt,
                                                                                                ),
                                                                                              ),
                                                                                            ),
                                                                                          ),
                                                                                        ),
                                                                                      ),
                                                                                    ),
                                                                                  ),
                                                                                ),
                                                                              ),
                                                                            ),
                                                                          ),
                                                                        ),
                                                                      ),
                                                                    ),
                                                                  ),
                                                                ),
                                                              ),
                                                            ),
                                                          ),
                                                        ),
                                                      ),
                                                    ),
                                                  ),
                                                ),
                                              ),
                                            ),
                                          ),
                                        ),
                                      ),
                                    ),
                                  ),
                                ),
                              ),
                            ),
                          ),
                        ),
                      ),
                    ),
                  ),
                ),
              ),
            ),
          ),
        ),
      ),
    ),
  )

  functions_sound : AllAlone functions
  functions_sound = (
    counting.abs_sound known,
    (
      counting.truth_sound known,
      (
        counting.chr_sound known,
        (
          sequences.dict_builtin_sound known,
          (
            sequences.enumerate_sound known,
            (
              outsides.input_sound known,
              (
                counting.int_sound known,
                (
                  of_two_sound known (λ v w one other. objects.isinstance_sound known v w other),
                  (
                    counting.len_sound known,
                    (
                      sequences.list_builtin_sound known,
                      (
                        counting.max_sound known,
                        (
                          counting.min_sound known,
                          (
                            outsides.open_sound known,
                            (
                              counting.ord_sound known,
                              (
                                objects.print_values_sound known,
                                (
                                  counting.range_sound known,
                                  (
                                    of_one_sound known (objects.repr_sound known),
                                    (
                                      sequences.sorted_builtin_sound known,
                                      (
                                        of_one_sound known (objects.str_sound known),
                                        (
                                          counting.sum_sound known,
                                          (
                                            sequences.tuple_builtin_sound known,
                                            (
                                              sequences.zip_builtin_sound known,
                                              tt,
                                            ),
                                          ),
                                        ),
                                      ),
                                    ),
                                  ),
                                ),
                              ),
                            ),
                          ),
                        ),
                      ),
                    ),
                  ),
                ),
              ),
            ),
          ),
        ),
      ),
    ),
  )

  methods_sound : AllAlone methods
  methods_sound = (
    sequences.append_sound known,
    (
      sequences.extend_sound known,
      (
        sequences.insert_sound known,
        (
          sequences.pop_sound known,
          (
            sequences.index_method_sound known,
            (
              sequences.reverse_method_sound known,
              (
                sequences.sort_method_sound known,
                (
                  sequences.get_method_sound known,
                  (
                    sequences.items_method_sound known,
                    (
                      sequences.keys_method_sound known,
                      (
                        sequences.values_method_sound known,
                        (
                          counting.strip_sound known,
                          (
                            counting.lstrip_sound known,
                            (
                              counting.rstrip_sound known,
                              (
                                counting.split_sound known,
                                (
                                  counting.join_sound known,
                                  (
                                    counting.replace_sound known,
                                    (
                                      counting.find_sound known,
                                      (
                                        counting.startswith_sound known,
                                        (
                                          counting.endswith_sound known,
                                          (
                                            counting.upper_sound known,
                                            (
                                              counting.lower_sound known,
                                              (
                                                counting.isdigit_sound known,
                                                (
                                                  counting.ljust_sound known,
                                                  (
                                                    counting.rjust_sound known,
                                                    (
                                                      outsides.read_sound known,
                                                      (
                                                        outsides.readline_sound known,
                                                        (
                                                          outsides.write_sound known,
                                                          (
                                                            outsides.close_sound known,
                                                            (
                                                              outsides.time_ns_sound known,
                                                              (
                                                                outsides.randint_sound known,
                                                                (
                                                                  outsides.randrange_sound known,
                                                                  tt,
                                                                ),
                                                              ),
                                                            ),
                                                          ),
                                                        ),
                                                      ),
                                                    ),
                                                  ),
                                                ),
                                              ),
                                            ),
                                          ),
                                        ),
                                      ),
                                    ),
                                  ),
                                ),
                              ),
                            ),
                          ),
                        ),
                      ),
                    ),
                  ),
                ),
              ),
            ),
          ),
        ),
      ),
    ),
  )

  pub every_sound : (op : Op) (values : List Contents) → KeptValue known op.value → KeptAll known values → Sound known (plan op values)
  every_sound op values is all =
      sound_if known (nat_lt op.no 50) (each_sound language language_sound op.no op is values all)
      (sound_if known (nat_lt op.no 80) (each_alone functions functions_sound (op.no - 50) values all) (each_alone methods methods_sound (op.no - 80) values all))
