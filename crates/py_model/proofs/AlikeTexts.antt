-- The methods and functions of texts are alike for corresponding operands.
use Rattle.std.proofs.Common.{ℕ, ◌++◌, ◌-◌, ℤ, pos, negsuc, List, [], ◌∷◌, map, Option, Some, None, if◌then◌else◌, encode_utf8, chars, codes, refl, subst}
use Rattle.py_value.specs.Contents.{Contents, text}
use Rattle.py_model.proofs.AlikeComparing.{if_alike}
use Rattle.py_model.proofs.AlikeOperands.{AlikeFor, of_one_alike, of_two_alike, number_alike, text_alike, gives_int_alike, gives_text_alike}
use Rattle.py_model.proofs.AlikeWalks.{wrong_number_alike, not_there_alike, fault_alike, texts_stay, walk_alike, new_list_alike}
use Rattle.py_model.proofs.AlikePlans.{Allowed, AlikeBy, both_count, both_writes, both_done}
use Rattle.py_model.specs.Arithmetic.{chr_plan, int_plan, ord_plan}
use Rattle.py_model.specs.Faults.{fault, value_error}
use Rattle.py_model.specs.Making.{new_list}
use Rattle.py_model.specs.Numbers.{times}
use Rattle.py_model.specs.Operands.{gives_int, gives_text, with_number}
use Rattle.py_model.specs.Plan.{Plan}
use Rattle.py_model.specs.Renaming.{Renaming, renamed, renamed_list}
use Rattle.py_model.specs.TextMethods.{with_texts, gives_texts, stripped_by, strip_plan, lstrip_plan, rstrip_plan, split_by, split_plan, texts_in, join_plan, replaced, replace_plan, find_plan, startswith_plan, endswith_plan, upper_plan, lower_plan, isdigit_plan, padded_by, ljust_plan, rjust_plan}
use Rattle.py_model.specs.Texts.{size, spaces, int_written, is_scalar, joined_by, pieces, upper_of, lower_of, words_of, without_white, without_white_front, without_white_back}

module _ (may : Allowed) (r : Renaming) where
  with_texts_alike : (plan : List ℕ → List ℕ → Plan) → ((one other : List ℕ) → AlikeBy may r (plan one other) (plan one other)) → (v w : Contents)
      → AlikeBy may r (with_texts plan v w) (with_texts plan (renamed r v) (renamed r w))
  with_texts_alike plan each v w = text_alike may r v _ _ (λ one. text_alike may r w _ _ (λ other. each one other))

  gives_texts_alike : (all : List (List ℕ)) → AlikeBy may r (gives_texts all) (gives_texts all)
  gives_texts_alike all = both_count refl (subst (λ items. AlikeBy may r (new_list (map text all)) (new_list items)) (texts_stay r all) (new_list_alike may r (map text all)))

  stripped_alike : (without : List ℕ → List ℕ) → AlikeFor may r (stripped_by without)
  stripped_alike without = of_one_alike may r _ (λ v. text_alike may r v _ _ (λ bytes. both_count refl (gives_text_alike may r (without bytes))))

  pub strip_alike : AlikeFor may r strip_plan
  strip_alike = stripped_alike without_white

  pub lstrip_alike : AlikeFor may r lstrip_plan
  lstrip_alike = stripped_alike without_white_front

  pub rstrip_alike : AlikeFor may r rstrip_plan
  rstrip_alike = stripped_alike without_white_back

  split_by_alike : (bytes sought : List ℕ) → AlikeBy may r (split_by bytes sought) (split_by bytes sought)
  split_by_alike bytes [] = fault_alike may r _ _
  split_by_alike bytes (byte ∷ more) = both_count refl (gives_texts_alike (pieces (byte ∷ more) bytes))

  pub split_alike : AlikeFor may r split_plan
  split_alike (v ∷ []) = text_alike may r v _ _ (λ bytes. both_count refl (gives_texts_alike (words_of bytes)))
  split_alike operands = of_two_alike may r (with_texts split_by) (with_texts_alike split_by split_by_alike) operands

  texts_in_alike : (items : List Contents) (go : List (List ℕ) → Plan) → ((all : List (List ℕ)) → AlikeBy may r (go all) (go all)) → AlikeBy may r (texts_in items go) (texts_in (renamed_list r items) go)
  texts_in_alike [] go each = each []
  texts_in_alike (item ∷ items) go each = text_alike may r item _ _ (λ bytes. texts_in_alike items (λ more. go (bytes ∷ more)) (λ more. each (bytes ∷ more)))

  pub join_alike : AlikeFor may r join_plan
  join_alike = of_two_alike may r _ (λ v w. text_alike may r v _ _ (λ separator. walk_alike may r w _ _ (λ items.
      texts_in_alike items (λ all. gives_text (joined_by separator all)) (λ all. gives_text_alike may r (joined_by separator all)))))

  replaced_alike : (bytes sought other : List ℕ) → AlikeBy may r (replaced bytes sought other) (replaced bytes sought other)
  replaced_alike bytes [] other = not_there_alike may r
  replaced_alike bytes (byte ∷ more) other = both_count refl (gives_text_alike may r (joined_by other (pieces (byte ∷ more) bytes)))

  pub replace_alike : AlikeFor may r replace_plan
  replace_alike (v ∷ w ∷ u ∷ []) = text_alike may r v _ _ (λ bytes. text_alike may r w _ _ (λ sought. text_alike may r u _ _ (λ other. replaced_alike bytes sought other)))
  replace_alike other = wrong_number_alike may r

  pub find_text_alike : AlikeFor may r find_plan
  find_text_alike = of_two_alike may r _ (λ v w. text_alike may r v _ _ (λ one. text_alike may r w _ _ (λ other. both_count refl (both_writes (both_done refl)))))

  pub startswith_alike : AlikeFor may r startswith_plan
  startswith_alike = of_two_alike may r _ (λ v w. text_alike may r v _ _ (λ one. text_alike may r w _ _ (λ other. both_count refl (both_writes (both_done refl)))))

  pub endswith_alike : AlikeFor may r endswith_plan
  endswith_alike = of_two_alike may r _ (λ v w. text_alike may r v _ _ (λ one. text_alike may r w _ _ (λ other. both_count refl (both_writes (both_done refl)))))

  pub upper_alike : AlikeFor may r upper_plan
  upper_alike = of_one_alike may r _ (λ v. text_alike may r v _ _ (λ bytes. gives_text_alike may r (map upper_of bytes)))

  pub lower_alike : AlikeFor may r lower_plan
  lower_alike = of_one_alike may r _ (λ v. text_alike may r v _ _ (λ bytes. gives_text_alike may r (map lower_of bytes)))

  pub isdigit_alike : AlikeFor may r isdigit_plan
  isdigit_alike = of_one_alike may r _ (λ v. text_alike may r v _ _ (λ bytes. both_writes (both_done refl)))

  padded_alike : (with_spaces : List ℕ → List ℕ → List ℕ) → AlikeFor may r (padded_by with_spaces)
  padded_alike with_spaces = of_two_alike may r _ (λ v w. text_alike may r v _ _ (λ bytes. number_alike may r w _ _ (λ width.
      gives_text_alike may r (with_spaces bytes (spaces (times width - size bytes))))))

  pub ljust_alike : AlikeFor may r ljust_plan
  ljust_alike = padded_alike (λ bytes blanks. bytes ++ blanks)

  pub rjust_alike : AlikeFor may r rjust_plan
  rjust_alike = padded_alike (λ bytes blanks. blanks ++ bytes)

  -- functions
  abbrev character : ℤ → Plan
  character (pos code) = if is_scalar code then gives_text (encode_utf8 code) else fault value_error (codes "not a character")
  character (negsuc n) = fault value_error (codes "not a character")

  character_alike : (i : ℤ) → AlikeBy may r (character i) (character i)
  character_alike (pos code) = if_alike may r (is_scalar code) (is_scalar code) _ _ _ _ refl (gives_text_alike may r (encode_utf8 code)) (fault_alike may r _ _)
  character_alike (negsuc n) = fault_alike may r _ _

  pub chr_alike : AlikeFor may r chr_plan
  chr_alike = of_one_alike may r _ (λ v. number_alike may r v character character character_alike)

  written_alike : (found : Option ℤ) → AlikeBy may r (elim found as (λ f. Plan) [ None ↦ fault value_error (codes "not an integer") | Some i ↦ gives_int i ])
      (elim found as (λ f. Plan) [ None ↦ fault value_error (codes "not an integer") | Some i ↦ gives_int i ])
  written_alike None = fault_alike may r _ _
  written_alike (Some i) = gives_int_alike may r i

  abbrev integer_of : Contents → Plan
  integer_of (text bytes) = elim (int_written bytes) [ None ↦ fault value_error (codes "not an integer") | Some i ↦ gives_int i ]
  integer_of v = with_number v gives_int

  integer_alike : (v : Contents) → AlikeBy may r (integer_of v) (integer_of (renamed r v))
  integer_alike (text bytes) = written_alike (int_written bytes)
  integer_alike v = number_alike may r v gives_int gives_int (gives_int_alike may r)

  pub int_alike : AlikeFor may r int_plan
  int_alike = of_one_alike may r integer_of integer_alike

  abbrev code_of : List ℕ → Plan
  code_of (code ∷ []) = gives_int (pos code)
  code_of other = fault value_error (codes "not a character")

  code_alike : (all : List ℕ) → AlikeBy may r (code_of all) (code_of all)
  code_alike (code ∷ []) = gives_int_alike may r (pos code)
  code_alike other = fault_alike may r _ _

  pub ord_alike : AlikeFor may r ord_plan
  ord_alike = of_one_alike may r _ (λ v. text_alike may r v _ _ (λ bytes. code_alike (chars bytes)))
